-- From what widening answers to what is printed. Assumes nothing.
use mathlib.Core.Path.{◌≡◌, refl, sym, ap, ◌∙◌}
use mathlib.Core.List.{List, [], ◌∷◌}
use Prim.Native.Nat.{ℕ, ◌≤◌}
use native.Mathlib.Omega.{arith}
use lib.Dec.{leb, le→leb}
use lib.ListN.{length}
use Rattle.aiger.specs.Circuit.{Circuit}
use Rattle.aiger.specs.Load.{Answer, refused, gives, load}
use Rattle.aiger.specs.Memory.{Holds}
use Rattle.aiger.specs.Operations.{need, judge, is_some}
use Rattle.layout.specs.Words.{circuit_in}
use Rattle.roundtrip.proofs.Holding.{held}
use Rattle.roundtrip.proofs.Determined.{acted, refused_as}
use Rattle.completions.specs.Either.{read_either}
use Rattle.completions.specs.Operations.{few_eithers, widen_tests, Widened}
use Rattle.widen.proofs.Theorems.{widened-length}
use Rattle.limits.proofs.Refusals.{judge-past, judge-last}
use Rattle.load_laws.proofs.Stored.{Stored}
use Rattle.replies.specs.Refusal.{refusal_text}
use Rattle.replies.specs.Reply.{Fronts, Leaves}
use Rattle.replies.specs.declared.Report.{Report}
use Rattle.replies.proofs.Putting.{fronts-none, refused-leaves}
use Rattle.widen_command.specs.Texts.{widened_reply, widen_reply}

module _ {m text out out' : List ℕ} {c : Circuit} {a : Answer ℕ} (h : Holds m c) (w : Widened m text out a out') where
  pub widen-refused : {n : ℕ} {line : List ℕ} {r : Report} {line' : List ℕ} → a ≡ refused n → Fronts (refusal_text n) line r.line line' → r.out ≡ 0
      → Leaves (widened_reply c text (length out)) line out r line' out'
  unfolding widened_reply
  widen-refused {n = n} e p q = let x = refused_as h w e in rw (x.0, x.1) (refused-leaves n out p q)

  pub widen-shown : {n : ℕ} (line : List ℕ) → a ≡ gives n → Leaves (widened_reply c text (length out)) line out (record { line = 0; out = n }) line out'
  unfolding widened_reply
  widen-shown line e =
      let x = acted h w e in
      let f = x.1 in
      rw (x.0, f.reads)
      (record {
        line-is = fronts-none line;
        out-is = record { long = f.count ∙ sym (widened-length c text f.bad f.body f.reads); contents = f.writes };
      })

-- a file that is not loaded, and one that is
module _ (m f text : List ℕ) (room : length m ≡ 33032) where
  pub widen-unloaded : {line : List ℕ} (out : List ℕ) {r : Report} {line' : List ℕ} {n : ℕ} → load (length m) f ≡ refused n
      → Fronts (refusal_text n) line r.line line' → r.out ≡ 0 → Leaves (widen_reply f text) line out r line' out
  unfolding widen_reply
  widen-unloaded out {n = n} e p q = rw (rw room at e) (refused-leaves n out p q)

  pub widen-text : {m' : List ℕ} → Stored m f m' → widened_reply (circuit_in m') text 66826 ≡ widen_reply f text
  unfolding widen_reply
  widen-text s = rw (rw room at s.accepted) (ap (λ (c : Circuit). widened_reply c text 66826) (held s.holds))

-- number 13 never comes for a text that the program reads
pub output-suffices : (c : Circuit) (text : List ℕ) → length text ≤ 66826 → judge (widen_tests c text 66826) ≡ refused 13 → ⊥
output-suffices c text l e =
    let last = need 13 (leb (length text) 66826) in
    let few = need 16 (few_eithers (read_either c text)) in
    let x = judge-past (need 14 (is_some (read_either c text))) (few ∷ last ∷ []) 13 (λ q. omega arith) e in
    let y = judge-past few (last ∷ []) 13 (λ q. omega arith) x.1 in
    judge-last 13 13 (leb (length text) 66826) (le→leb (length text) 66826 l) y.1
