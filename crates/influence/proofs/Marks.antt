-- Marks, step by step. Assumes nothing.
use mathlib.Core.Path.{◌≡◌, refl, sym, ap, ap₂, ◌∙◌, subst}
use mathlib.Core.Bool.{Bool, true, false, not, cond, ◌&&◌, and-false}
use mathlib.Core.List.{List}
use Prim.Native.Nat.{ℕ, zero, suc, ◌+◌, ◌-◌, ◌≤◌, ◌<◌}
use native.Mathlib.Numerals.{add-one}
use native.Mathlib.Decide.{ℕ_discrete}
use native.Mathlib.Omega.{arith}
use borrow.Author.Tests.{ne_eqb}
use lib.Dec.{eqb}
use lib.ListN.{length, get_or, set, length-set}
use Rattle.aiger.specs.Lists.{every_below}
use Rattle.aiger.specs.Bits.{nonzero}
use Rattle.aiger.specs.Circuit.{Circuit, Gate, var}
use Rattle.literals.specs.Literal.{literal}
use Rattle.literals.specs.declared.Var.{Var}
use Rattle.influence.specs.Cone.{marked, mark, mark_below, reach, reach_down, closed_at, closed, spread, settle}
pub use Rattle.aiger.proofs.Tests.{below-same}

-- one literal more
pub mark-more : (f : ℕ → ℕ) (n : ℕ) (ms now : List ℕ) → now ≡ mark_below f n ms → mark (f n) now ≡ mark_below f (n + 1) ms
unfolding mark_below
mark-more f n ms now e = ap (mark (f n)) e ∙ ap (λ (k : ℕ). mark_below f k ms) (sym (add-one n))

pub mark-none : (f : ℕ → ℕ) (ms : List ℕ) → ms ≡ mark_below f 0 ms
unfolding mark_below
mark-none f ms = refl

pub mark-one : (f : ℕ → ℕ) (ms : List ℕ) → mark_below f 1 ms ≡ mark (f 0) ms
unfolding mark_below
mark-one f ms = refl

pub mark-same : (f g : ℕ → ℕ) (n : ℕ) (ms : List ℕ) → ((i : ℕ) → i < n → f i ≡ g i) → mark_below f n ms ≡ mark_below g n ms
unfolding mark_below
mark-same f g zero ms h = refl
mark-same f g (suc n) ms h = ap₂ mark (h n (omega arith)) (mark-same f g n ms (λ i l. h i (omega arith)))

-- ---- variables that are read from words

-- whether the variable of a literal is marked, and the marks with its own
pub var-marked : (ms : List ℕ) (w : ℕ) {v : Var} {t : Bool} → v ≡ (literal w).0 → t ≡ nonzero (get_or ms v.0 0) → t ≡ marked ms w
var-marked ms w e h = h ∙ ap (λ (v : Var). nonzero (get_or ms v.0 0)) e

pub var-mark : (ms : List ℕ) (w : ℕ) {v : Var} {out : List ℕ} → v ≡ (literal w).0 → out ≡ set ms v.0 1 → out ≡ mark w ms
var-mark ms w e h = h ∙ ap (λ (v : Var). set ms v.0 1) e

pub var-below : (w count : ℕ) {v : Var} → v ≡ (literal w).0 → var w < count → v.0 < count
var-below w count e h = omega (arith, ap (λ (v : Var). v.0) e)

-- the code's test of a mark
pub mark-test : (x : ℕ) → not (eqb x 0) ≡ nonzero x
mark-test zero = refl
mark-test (suc x) = ap not (ne_eqb (suc x) 0 (λ e. omega arith))

-- the operands of one gate
pub reach-not : (g : Gate) (ms : List ℕ) → marked ms g.lit ≡ false → ms ≡ reach g ms
reach-not g ms e = sym (ap (λ (q : Bool). cond q (mark g.right (mark g.left ms)) ms) e)

pub reach-all : (g : Gate) (ms : List ℕ) → marked ms g.lit ≡ true → mark g.right (mark g.left ms) ≡ reach g ms
reach-all g ms h = sym (ap (λ (q : Bool). cond q (mark g.right (mark g.left ms)) ms) h)

-- one gate more
pub down-more : (f : ℕ → Gate) (k : ℕ) (ms : List ℕ) → 0 < k → reach_down f k ms ≡ reach_down f (k - 1) (reach (f (k - 1)) ms)
unfolding reach_down
down-more f zero ms l = absurd (omega arith)
down-more f (suc k) ms l = let e : suc k - 1 ≡ k = omega arith in ap (λ (j : ℕ). reach_down f j (reach (f j) ms)) (sym e)

pub down-none : (f : ℕ → Gate) (ms : List ℕ) → reach_down f 0 ms ≡ ms
unfolding reach_down
down-none f ms = refl

pub down-same : (f g : ℕ → Gate) (n : ℕ) (ms : List ℕ) → ((i : ℕ) → i < n → f i ≡ g i) → reach_down f n ms ≡ reach_down g n ms
unfolding reach_down
down-same f g zero ms h = refl
down-same f g (suc n) ms h =
    ap (λ (x : Gate). reach_down f n (reach x ms)) (h n (omega arith)) ∙ down-same f g n (reach (g n) ms) (λ i l. h i (omega arith))

-- ---- tests
pub closed-not : (ms : List ℕ) (g : Gate) → marked ms g.lit ≡ false → true ≡ closed_at ms g
closed-not ms g e = sym (ap (λ (q : Bool). cond q (marked ms g.left && marked ms g.right) true) e)

pub closed-right : (ms : List ℕ) (g : Gate) (x : Bool) → marked ms g.lit ≡ true → marked ms g.left ≡ x
    → (x && marked ms g.right) ≡ closed_at ms g
closed-right ms g x h e = sym (ap₂ (λ (q y : Bool). cond q (y && marked ms g.right) true) h e)

pub closed-left : (ms : List ℕ) (g : Gate) → marked ms g.lit ≡ true → marked ms g.left ≡ false → false ≡ closed_at ms g
closed-left ms g h e = closed-right ms g false h e

-- a test of all numbers below n
pub below_more : (p : ℕ → Bool) (n : ℕ) → every_below n p ≡ true → p n ≡ true → every_below (n + 1) p ≡ true
below_more p n e f = ap (λ (k : ℕ). every_below k p) (add-one n) ∙ ap₂ (λ (a b : Bool). a && b) e f

pub below_fails : (p : ℕ → Bool) (n i : ℕ) → i < n → p i ≡ false → false ≡ every_below n p
below_fails p zero i l e = absurd (omega arith)
below_fails p (suc n) i l e = elim (ℕ_discrete i n) [
  | yes q ↦ sym (ap (λ (b : Bool). every_below n p && b) (ap p (sym q) ∙ e) ∙ and-false (every_below n p))
  | no q ↦ sym (ap (λ (b : Bool). b && p n) (sym (below_fails p n i (omega arith) e)))
]

-- ---- rounds
module _ (c : Circuit) (b : ℕ) where
  pub settle-end : (ms : List ℕ) → settle 0 c b ms ≡ ms
  unfolding settle
  settle-end ms = refl

  pub settle-stop : (n : ℕ) (ms : List ℕ) → 0 < n → closed c b ms ≡ true → settle n c b ms ≡ ms
  unfolding settle
  settle-stop zero ms l e = absurd (omega arith)
  settle-stop (suc n) ms l e = ap (λ (q : Bool). cond q ms (settle n c b (spread c ms))) e

  pub settle-more : (n : ℕ) (ms : List ℕ) → 0 < n → closed c b ms ≡ false → settle n c b ms ≡ settle (n - 1) c b (spread c ms)
  unfolding settle
  settle-more zero ms l e = absurd (omega arith)
  settle-more (suc n) ms l e =
      let d : suc n - 1 ≡ n = omega arith in
      ap (λ (q : Bool). cond q ms (settle n c b (spread c ms))) e ∙ ap (λ (k : ℕ). settle k c b (spread c ms)) (sym d)
