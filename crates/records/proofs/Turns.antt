-- One turn of each loop. Assumes nothing.
use mathlib.Core.Path.{◌≡◌, refl, sym, ap, ap₂, ◌∙◌}
use mathlib.Core.List.{List}
use Prim.Native.Nat.{ℕ, zero, suc, ◌+◌, ◌-◌, ◌*◌, ◌<◌}
use native.Mathlib.Omega.{arith}
use lib.ListN.{length}
use Rattle.records.specs.Steps.{word, three, down, zeroed, gates_set, moved_to, moved, all_moved, all_linked, compacted, arranged}

pub down-none : (step : List ℕ → ℕ → List ℕ) (n : ℕ) (w : List ℕ) → n ≡ 0 → down step n w ≡ w
unfolding down
down-none step zero w e = refl
down-none step (suc n) w e = absurd (omega arith)

pub down-more : (step : List ℕ → ℕ → List ℕ) (n : ℕ) (w : List ℕ) → 0 < n → down step n w ≡ down step (n - 1) (step w (n - 1))
unfolding down
down-more step zero w l = absurd (omega arith)
down-more step (suc n) w l = let e : n ≡ suc n - 1 = omega arith in ap (λ (k : ℕ). down step k (step w k)) e

-- the last of the steps left is at number j
pub down-at : (step : List ℕ → ℕ → List ℕ) (n j : ℕ) (w u : List ℕ) → n ≡ j + 1 → u ≡ step w j → down step n w ≡ down step j u
down-at step n j w u e s =
    let p : n - 1 ≡ j = omega arith in
    down-more step n w (omega arith) ∙ ap (λ (k : ℕ). down step k (step w k)) p ∙ ap (down step j) (sym s)

pub moved_none : (w : List ℕ) (k n : ℕ) → n ≡ 0 → all_moved w k n ≡ w
unfolding all_moved
moved_none w k zero e = refl
moved_none w k (suc n) e = absurd (omega arith)

pub moved_more : (w u : List ℕ) (k n m : ℕ) → n ≡ m + 1 → u ≡ moved w k → all_moved w k n ≡ all_moved u (k + 1) m
unfolding all_moved
moved_more w u k zero m e s = absurd (omega arith)
moved_more w u k (suc n) m e s = let p : n ≡ m = omega arith in ap₂ (λ (v : List ℕ) (i : ℕ). all_moved v (k + 1) i) (sym s) p

-- ---- straight code

pub moved-is : (w u last : List ℕ) (k v at a b d : ℕ) → a ≡ word w k 0 → b ≡ word w k 1 → d ≡ word w k 2 → at ≡ 14 * v + 0 → u ≡ zeroed w at 14
    → last ≡ three u at a b d → last ≡ moved_to w k v
unfolding moved_to
moved-is w u last k v at a b d ea eb ed et eu el =
    let e : at ≡ 14 * v = omega arith in
    el ∙ ap₂ (λ (x : List ℕ) (y : ℕ). three x at y b d) eu ea ∙ ap₂ (λ (y z : ℕ). three (zeroed w at 14) at (word w k 0) y z) eb ed
    ∙ ap (λ (i : ℕ). three (zeroed w i 14) i (word w k 0) (word w k 1) (word w k 2)) e

pub arranged_is : (w a b d e last : List ℕ) (first n nodes used len : ℕ) → a ≡ gates_set w first (n - first) → b ≡ moved_to a 0 0 → d ≡ all_moved b 1 (n - 1)
    → used ≡ 14 * nodes + 0 → len ≡ length d → e ≡ zeroed d used (len - used) → last ≡ all_linked e nodes first (nodes - first)
    → last ≡ arranged w first n nodes
unfolding arranged compacted
arranged_is w a b d e last first n nodes used len ea eb ed eu en ee el =
    let q : used ≡ 14 * nodes = omega arith in
    let m : d ≡ all_moved (moved_to (gates_set w first (n - first)) 0 0) 1 (n - 1) =
    ed ∙ ap (λ (x : List ℕ). all_moved x 1 (n - 1)) (eb ∙ ap (λ (x : List ℕ). moved_to x 0 0) ea) in
    el
    ∙ ap (λ (x : List ℕ). all_linked x nodes first (nodes - first))
    (ee ∙ ap₂ (λ (i j : ℕ). zeroed d i (j - i)) q en ∙ ap (λ (x : List ℕ). zeroed x (14 * nodes) (length x - 14 * nodes)) m)
