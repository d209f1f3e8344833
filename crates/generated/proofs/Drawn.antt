-- What is drawn: how many, with which literals of their own, and that what is drawn is in range. Assumes nothing.
use mathlib.Core.Path.{◌≡◌, refl, ap}
use mathlib.Core.Bool.{Bool, true, ◌&&◌, ◌||◌}
use mathlib.Core.List.{List, [], ◌∷◌, map}
use Prim.Native.Nat.{ℕ, zero, suc, ◌+◌, ◌*◌, ◌≤◌, ◌<◌}
use native.Mathlib.Nat.{mod-lt}
use native.Mathlib.Omega.{arith}
use lib.Dec.{T, leb, ltb, eqb, le→leb, lt→ltb}
use lib.ListN.{length}
use Rattle.aiger.specs.Lists.{every}
use Rattle.aiger.specs.Circuit.{Latch, Gate}
use Rattle.aiger.specs.Binary.{implied}
use Rattle.aiger.specs.Signature.{step}
use Rattle.aiger.proofs.Tests.{and}
use Rattle.generated.specs.Generated.{picked, drawn_latches, drawn_gates}

-- a picked literal is one of the n
pub picked-below : (n d : ℕ) → 0 < n → picked n d < n
picked-below n d h = mod-lt _ h

pub drawn-latches : (n s v k : ℕ) → length (drawn_latches n s v k) ≡ k
unfolding drawn_latches
drawn-latches n s v zero = refl
drawn-latches n s v (suc k) = ap suc (drawn-latches n (step s) (suc v) k)

pub drawn-gates : (s v k : ℕ) → length (drawn_gates s v k) ≡ k
unfolding drawn_gates
drawn-gates s v zero = refl
drawn-gates s v (suc k) = ap suc (drawn-gates (step (step s)) (suc v) k)

-- variables in order
pub latches-own : (n s v k : ℕ) → map (λ (l : Latch). l.lit) (drawn_latches n s v k) ≡ implied v k
unfolding drawn_latches implied
latches-own n s v zero = refl
latches-own n s v (suc k) = ap (λ (xs : List ℕ). 2 * v ∷ xs) (latches-own n (step s) (suc v) k)

pub gates-own : (s v k : ℕ) → map (λ (g : Gate). g.lit) (drawn_gates s v k) ≡ implied v k
unfolding drawn_gates implied
gates-own s v zero = refl
gates-own s v (suc k) = ap (λ (xs : List ℕ). 2 * v ∷ xs) (gates-own (step (step s)) (suc v) k)

-- next literals are some of the n
pub nexts-below : (n s v k m : ℕ) → 0 < n → n ≤ m + 1 → T (every (λ x. leb x m) (map (λ (l : Latch). l.next) (drawn_latches n s v k)))
unfolding drawn_latches
nexts-below n s v zero m h l = tt
nexts-below n s v (suc k) m h l =
    let x = picked n (step s) in
    let rest = map (λ (l : Latch). l.next) (drawn_latches n (step s) (suc v) k) in
    and (leb x m) (every (λ x. leb x m) rest) (le→leb x m (omega (arith, picked-below n (step s) h)))
    (nexts-below n (step s) (suc v) k m h l)

-- no latch has another reset than 0
pub resets-zero : (n s v k : ℕ) → T (every (λ (l : Latch). leb l.reset 1 || eqb l.reset l.lit) (drawn_latches n s v k))
unfolding drawn_latches
resets-zero n s v zero = tt
resets-zero n s v (suc k) = resets-zero n (step s) (suc v) k

-- both operands are below the gate
abbrev pub lower : Gate → Bool
lower g = ltb g.left g.lit && ltb g.right g.lit

pub operands-lower : (s v k : ℕ) → 0 < v → T (every lower (drawn_gates s v k))
unfolding drawn_gates
operands-lower s v zero h = tt
operands-lower s v (suc k) h =
    let x = picked (2 * v) (step s) in
    let y = picked (2 * v) (step (step s)) in
    let a : T (ltb x (2 * v)) = lt→ltb x (2 * v) (picked-below (2 * v) (step s) (omega arith)) in
    let b : T (ltb y (2 * v)) = lt→ltb y (2 * v) (picked-below (2 * v) (step (step s)) (omega arith)) in
    and (ltb x (2 * v) && ltb y (2 * v)) (every lower (drawn_gates (step (step s)) (suc v) k)) (and (ltb x (2 * v)) (ltb y (2 * v)) a b)
    (operands-lower (step (step s)) (suc v) k (omega arith))

-- so each operand is at most m where the last gate's literal is
pub lefts-below : (s v k m : ℕ) → 0 < v → 2 * (v + k) ≤ m + 2 → T (every (λ x. leb x m) (map (λ (g : Gate). g.left) (drawn_gates s v k)))
unfolding drawn_gates
lefts-below s v zero m h l = tt
lefts-below s v (suc k) m h l =
    let x = picked (2 * v) (step s) in
    let rest = map (λ (g : Gate). g.left) (drawn_gates (step (step s)) (suc v) k) in
    and (leb x m) (every (λ x. leb x m) rest) (le→leb x m (omega (arith, picked-below (2 * v) (step s) (omega arith))))
    (lefts-below (step (step s)) (suc v) k m (omega arith) (omega arith))

pub rights-below : (s v k m : ℕ) → 0 < v → 2 * (v + k) ≤ m + 2 → T (every (λ x. leb x m) (map (λ (g : Gate). g.right) (drawn_gates s v k)))
unfolding drawn_gates
rights-below s v zero m h l = tt
rights-below s v (suc k) m h l =
    let x = picked (2 * v) (step (step s)) in
    let rest = map (λ (g : Gate). g.right) (drawn_gates (step (step s)) (suc v) k) in
    and (leb x m) (every (λ x. leb x m) rest) (le→leb x m (omega (arith, picked-below (2 * v) (step (step s)) (omega arith))))
    (rights-below (step (step s)) (suc v) k m (omega arith) (omega arith))
