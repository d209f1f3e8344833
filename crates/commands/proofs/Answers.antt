-- From what the operations answer to what is printed. Assumes nothing.
use mathlib.Core.Path.{◌≡◌, refl, sym, ap, ◌∙◌, subst}
use mathlib.Core.List.{List}
use Prim.Native.Nat.{ℕ, ◌≤◌}
use native.Mathlib.Omega.{arith}
use lib.ListN.{length}
use Rattle.aiger.specs.Circuit.{Circuit}
use Rattle.aiger.specs.Load.{Answer, refused, gives, load}
use Rattle.aiger.specs.Write.{write}
use Rattle.aiger.specs.Memory.{Holds}
use Rattle.aiger.specs.Operations.{front, Folded}
use Rattle.completions.specs.Either.{Verdict}
use Rattle.completions.specs.Operations.{EitherReplayed}
use Rattle.layout.specs.Words.{circuit_in}
use Rattle.roundtrip.proofs.LoadValid.{gives_same}
use Rattle.roundtrip.proofs.Holding.{held}
use Rattle.roundtrip.proofs.Determined.{acted, refused_as}
use Rattle.writer.specs.Forms.{WrittenIn}
use Rattle.writer.proofs.Texts.{wrote}
use Rattle.load_laws.proofs.Stored.{Stored}
use Rattle.fold.specs.Chosen.{chosen}
use Rattle.replies.specs.Refusal.{refusal_text}
use Rattle.replies.specs.Reply.{Fronts, Leaves}
use Rattle.replies.specs.declared.Report.{Report}
use Rattle.replies.proofs.Putting.{fronts-none, refused-leaves}
use Rattle.commands.specs.Texts.{
  written,
  written_in,
  text_of,
  verdict_text,
  replay_answer,
  replay_text,
  folded_reply,
  fold_reply,
}

-- write, on a loaded circuit
module _ {m out out' : List ℕ} {a : Answer ℕ} (form : ℕ) (k : form ≤ 1) (h : Holds m (circuit_in m)) (room : 65536 ≤ length out)
    (w : WrittenIn form m out a out') where
  pub write-shown : (line : List ℕ) {n : ℕ} → a ≡ gives n
      → Leaves (written_in form (circuit_in m)) line out (record { line = 0; out = n }) line out'
  write-shown line e =
      let s = wrote form k h room w in
      record { line-is = fronts-none line; out-is = record { long = sym (gives_same (sym s.0 ∙ e)); contents = s.1 } }

  pub write-never : {n : ℕ} → a ≡ refused n → ⊥
  write-never e =
      let g = (wrote form k h room w).0 in
      let z : ◌≡◌ {A = ℕ} 0 1 = cc in
      omega arith

-- replay, on a loaded circuit
pub replay-says : {m text : List ℕ} {a : Answer Verdict} → Holds m (circuit_in m) → EitherReplayed m text a → a ≡ replay_answer (circuit_in m) text
replay-says {a = refused n} h r = rw (refused_as h r refl).0
replay-says {a = gives v} h r = let e = acted h r refl in rw (e.0, e.1.reads) (ap gives e.1.judged)

pub replay-shown : {m text : List ℕ} {a b : Answer Verdict} {line : List ℕ} {n : ℕ} {line' : List ℕ} → Holds m (circuit_in m)
    → EitherReplayed m text a → a ≡ b → Fronts (text_of verdict_text b) line n line'
    → Fronts (text_of verdict_text (replay_answer (circuit_in m) text)) line n line'
replay-shown {line = line} {n = n} {line' = line'} h r e s =
    subst (λ (x : Answer Verdict). Fronts (text_of verdict_text x) line n line') (sym e ∙ replay-says h r) s

-- fold, on a loaded circuit
pub fold-refusal-left : {m w out w' out' : List ℕ} {c : Circuit} {b t : ℕ} {a : Answer ℕ} {n : ℕ} {line : List ℕ} {r : Report} {line' : List ℕ}
    → Holds m c → Folded chosen m b t w out a w' out' → a ≡ refused n → Fronts (refusal_text n) line r.line line' → r.out ≡ 0
    → Leaves (folded_reply c b t (length w) (length out)) line out r line' out'
unfolding folded_reply
fold-refusal-left {out = out} {n = n} h f e p q =
    let x = refused_as h f e in
    rw (x.0, ap (λ (s : List ℕ × List ℕ). s.1) x.1) (refused-leaves n out p q)

pub fold-shown : {m w out w' out' : List ℕ} {c : Circuit} {b t : ℕ} {a : Answer ℕ} {n : ℕ} → Holds m c → Folded chosen m b t w out a w' out'
    → (line : List ℕ) → a ≡ gives n → Leaves (folded_reply c b t (length w) (length out)) line out (record { line = 0; out = n }) line out'
unfolding folded_reply
fold-shown h f line e =
    let x = acted h f e in
    rw x.0 (record { line-is = fronts-none line; out-is = record { long = x.1.count; contents = x.1.shows } })

-- a file that is not loaded, and one that is
module _ (m f : List ℕ) (room : length m ≡ 33032) where
  pub replay-refusal : (text : List ℕ) {n : ℕ} → load (length m) f ≡ refused n → refusal_text n ≡ replay_text f text
  unfolding replay_text
  replay-refusal text e = rw (rw room at e)

  pub fold-refusal : (b t : ℕ) {line : List ℕ} (out : List ℕ) {r : Report} {line' : List ℕ} {n : ℕ} → load (length m) f ≡ refused n
      → Fronts (refusal_text n) line r.line line' → r.out ≡ 0 → Leaves (fold_reply f b t) line out r line' out
  unfolding fold_reply
  fold-refusal b t out {n = n} e p q = rw (rw room at e) (refused-leaves n out p q)

  module _ {m' : List ℕ} (s : Stored m f m') where
    same : circuit_in m' ≡ s.circuit
    same = held s.holds

    pub replay-text : (text : List ℕ) → text_of verdict_text (replay_answer (circuit_in m') text) ≡ replay_text f text
    unfolding replay_text
    replay-text text = rw (rw room at s.accepted) (ap (λ (c : Circuit). text_of verdict_text (replay_answer c text)) same)

    pub fold-text : (b t : ℕ) → folded_reply (circuit_in m') b t 1048576 1572928 ≡ fold_reply f b t
    unfolding fold_reply
    fold-text b t = rw (rw room at s.accepted, same)
