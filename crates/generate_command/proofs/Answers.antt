-- What the operation answers, as what is printed. Assumes nothing.
use mathlib.Core.Path.{◌≡◌, refl, sym, ◌∙◌}
use mathlib.Core.Bool.{Bool, true, false, cond}
use mathlib.Core.List.{List, []}
use mathlib.Core.Logic.{⊎_elim}
use Prim.Native.Nat.{ℕ, ◌≤◌, ◌<◌}
use native.Mathlib.Omega.{arith}
use lib.Dec.{leb}
use lib.ListN.{length}
use Rattle.aiger.specs.Load.{Answer, refused, gives}
use Rattle.aiger.specs.Operations.{front, judge}
use Rattle.roundtrip.proofs.LoadValid.{gives_same}
use Rattle.replies.specs.Refusal.{refusal_text}
use Rattle.replies.specs.Reply.{Fronts, Leaves}
use Rattle.replies.specs.declared.Report.{Report}
use Rattle.replies.proofs.Putting.{fronts-none}
use Rattle.generated.specs.Generated.{counts_permitted, generated_text, generate_tests, Generated}
use Rattle.generated.proofs.Short.{text-short}
use Rattle.generated.proofs.Theorems.{generated-kept}
use Rattle.generate_command.specs.Texts.{generate_reply}

-- an accepted call has permitted counts, by its tests one after the other
permitted-first : (a b : Bool) → ◌≡◌ {A = Answer (Unit {0})} (cond a (cond b (gives tt) (refused 13)) (refused 3)) (gives tt) → a ≡ true
permitted-first true b e = refl
permitted-first false b e = let z : ◌≡◌ {A = ℕ} 0 1 = cc in absurd (omega arith)

written : {seed i l a n : ℕ} {out out' : List ℕ} {x : Answer ℕ} → Generated seed i l a out x out' → x ≡ gives n
    → (counts_permitted i l a ≡ true) × Fronts (generated_text seed i l a) out n out'
unfolding judge
written (Generated.refuses e) q = let z : ◌≡◌ {A = ℕ} 0 1 = cc in absurd (omega arith)
written {seed} {i} {l} {a} {n} {out} (Generated.writes e) q = (
  permitted-first (counts_permitted i l a) (leb (length (generated_text seed i l a)) (length out)) e,
  record { long = sym (gives_same q); contents = refl },
)

module _ {seed i l a : ℕ} {out out' : List ℕ} where
  -- the text
  pub printed : {line : List ℕ} {n : ℕ} → Generated seed i l a out (gives n) out'
      → Leaves (generate_reply seed i l a) line out (record { line = 0; out = n }) line out'
  unfolding generate_reply
  printed {line} g =
      let t = written g refl in
      rw t.0 (record { line-is = fronts-none line; out-is = t.1 })

  -- the line of refusal 3
  pub told : {line line' : List ℕ} {n : ℕ} (r : Report) → 55798 ≤ length out → Generated seed i l a out (refused n) out'
      → Fronts (refusal_text n) line r.line line' → r.out ≡ 0 → Leaves (generate_reply seed i l a) line out r line' out'
  unfolding generate_reply
  told {line} {line'} {n} r h g f o =
      let k = generated-kept g in
      ⊎_elim
      (λ x. rw x.1 (record { line-is = rw x.0 at f; out-is = record { long = o; contents = k.kept } }))
      (λ x. absurd (omega (arith, h, x.2, text-short seed i l a x.1)))
      k.cause
