-- What a caller of `read_number` learns from the answer, variant by variant. Assumes nothing.
use mathlib.Core.Path.{◌≡◌, refl, sym, ap, ◌∙◌, subst}
use mathlib.Core.List.{List}
use mathlib.Core.Option as maths
use Rattle.std.specs.Prelude.{Option, Some, None}
use Prim.Native.Nat.{ℕ, ◌≤◌}
use native.Mathlib.Omega.{arith}
use lib.ListN.{length, drop, length-drop}
use Rattle.aiger.specs.Text.{spaced, ended, malformed, token, on_token}
use Rattle.numbers.specs.Number.{meant, Within, Placed, NumberAt}
use Rattle.numbers.specs.declared.Number.{Number}
use Rattle.numbers.specs.declared.Number.TheVariants.{Spaced, Ended}

module _ {s : List ℕ} {at : ℕ} {r : Option Number} (h : NumberAt s at r) where
  pub on-spaced : {v next : ℕ} → r ≡ Some (Spaced v next) → (token (drop at s) ≡ spaced v (drop next s)) × Within s at v next
  on-spaced e = (sym h.meaning ∙ ap (meant s) e, subst (Placed s at) e h.place)

  pub on-ended : {v next : ℕ} → r ≡ Some (Ended v next) → (token (drop at s) ≡ ended v (drop next s)) × Within s at v next
  on-ended e = (sym h.meaning ∙ ap (meant s) e, subst (Placed s at) e h.place)

  pub on-malformed : r ≡ None → token (drop at s) ≡ malformed
  on-malformed e = sym h.meaning ∙ ap (meant s) e

-- what the arm for the other answers knows
abbrev pub NotSpaced : Option Number → Type 0
NotSpaced r = (v next : ℕ) → r ≡ Some (Spaced v next) → ⊥

abbrev pub NotEnded : Option Number → Type 0
NotEnded r = (v next : ℕ) → r ≡ Some (Ended v next) → ⊥

meant-not-spaced : {A : Type 0} (s : List ℕ) (r : Option Number) (f : ℕ → List ℕ → maths.Option A) → NotSpaced r
    → on_token (meant s r) f (λ n g. maths.none) ≡ maths.none
meant-not-spaced s (Some (Spaced v next)) f t = absurd (t v next refl)
meant-not-spaced s (Some (Ended v next)) f t = refl
meant-not-spaced s None f t = refl

meant-not-ended : {A : Type 0} (s : List ℕ) (r : Option Number) (f : ℕ → List ℕ → maths.Option A) → NotEnded r
    → on_token (meant s r) (λ n g. maths.none) f ≡ maths.none
meant-not-ended s (Some (Spaced v next)) f t = refl
meant-not-ended s (Some (Ended v next)) f t = absurd (t v next refl)
meant-not-ended s None f t = refl

-- where only a number that a space ended may follow, and where only one that a line feed ended may
pub not-spaced : {A : Type 0} {s : List ℕ} {at : ℕ} {r : Option Number} (f : ℕ → List ℕ → maths.Option A) → NumberAt s at r → NotSpaced r → on_token (token (drop at s)) f (λ n g. maths.none) ≡ maths.none
not-spaced {s = s} {r = r} f h t = rw (← h.meaning) (meant-not-spaced s r f t)

pub not-ended : {A : Type 0} {s : List ℕ} {at : ℕ} {r : Option Number} (f : ℕ → List ℕ → maths.Option A) → NumberAt s at r → NotEnded r → on_token (token (drop at s)) (λ n g. maths.none) f ≡ maths.none
not-ended {s = s} {r = r} f h t = rw (← h.meaning) (meant-not-ended s r f t)

drop-same : (s : List ℕ) (m n : ℕ) → m ≤ length s → n ≤ length s → drop m s ≡ drop n s → m ≡ n
drop-same s m n p q e = omega (arith, length-drop m s, length-drop n s, ap length e)

same : (s : List ℕ) (at : ℕ) (q r : Option Number) → Placed s at q → Placed s at r → meant s q ≡ meant s r → q ≡ r
same s at (Some (Spaced v m)) (Some (Spaced w n)) p q e =
    let d : drop m s ≡ drop n s = cc in
    let f : m ≡ n = drop-same s m n p.inside q.inside d in
    let g : v ≡ w = cc in
    cc
same s at (Some (Ended v m)) (Some (Ended w n)) p q e =
    let d : drop m s ≡ drop n s = cc in
    let f : m ≡ n = drop-same s m n p.inside q.inside d in
    let g : v ≡ w = cc in
    cc
same s at None None p q e = refl
same s at (Some (Spaced v m)) (Some (Ended w n)) p q e = let z : ◌≡◌ {A = ℕ} 0 1 = cc in absurd (omega arith)
same s at (Some (Spaced v m)) None p q e = let z : ◌≡◌ {A = ℕ} 0 1 = cc in absurd (omega arith)
same s at (Some (Ended v m)) (Some (Spaced w n)) p q e = let z : ◌≡◌ {A = ℕ} 0 1 = cc in absurd (omega arith)
same s at (Some (Ended v m)) None p q e = let z : ◌≡◌ {A = ℕ} 0 1 = cc in absurd (omega arith)
same s at None (Some (Spaced w n)) p q e = let z : ◌≡◌ {A = ℕ} 0 1 = cc in absurd (omega arith)
same s at None (Some (Ended w n)) p q e = let z : ◌≡◌ {A = ℕ} 0 1 = cc in absurd (omega arith)

-- the contract leaves one answer
pub only : (s : List ℕ) (at : ℕ) (q r : Option Number) → NumberAt s at q → NumberAt s at r → q ≡ r
only s at q r g h = same s at q r g.place h.place (g.meaning ∙ sym h.meaning)
