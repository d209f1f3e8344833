-- Laws of the last number that passes a test. Assumes nothing.
use mathlib.Core.Path.{◌≡◌, refl, sym, ap, ap₂, ◌∙◌}
use mathlib.Core.Bool.{Bool, true, false, cond}
use Prim.Native.Nat.{ℕ, zero, suc, ◌+◌, ◌≤◌, ◌<◌}
use native.Mathlib.Decide.{ℕ_discrete}
use native.Mathlib.Numerals.{add-one}
use native.Mathlib.Omega.{arith}
use Rattle.nodes.specs.Last.{last_before}

pub last-zero : (p : ℕ → Bool) → last_before p 0 ≡ 0
unfolding last_before
last-zero p = refl

-- the number passes
pub last-yes : (p : ℕ → Bool) (n : ℕ) → p n ≡ true → last_before p (n + 1) ≡ n + 1
unfolding last_before
last-yes p n e = rw (add-one n, e)

-- the number does not pass
pub last-no : (p : ℕ → Bool) (n : ℕ) → p n ≡ false → last_before p (n + 1) ≡ last_before p n
unfolding last_before
last-no p n e = rw (add-one n, e)

pub last-le : (p : ℕ → Bool) (n : ℕ) → last_before p n ≤ n
unfolding last_before
last-le p zero = omega arith
last-le p (suc n) = go (p n) (last-le p n)
  where
    go : (b : Bool) → last_before p n ≤ n → cond b (suc n) (last_before p n) ≤ suc n
    go true h = omega arith
    go false h = omega arith

-- the number that is found passes
pub last-passes : (p : ℕ → Bool) (n k : ℕ) → last_before p n ≡ k + 1 → p k ≡ true
unfolding last_before
last-passes p zero k e = absurd (omega arith)
last-passes p (suc n) k e = go (p n) refl e (last-passes p n k)
  where
    go : (b : Bool) → p n ≡ b → cond b (suc n) (last_before p n) ≡ k + 1 → (last_before p n ≡ k + 1 → p k ≡ true) → p k ≡ true
    go true q h r = let z : k ≡ n = omega arith in ap p z ∙ q
    go false q h r = r h

-- no number from the answer on passes
pub last-after : (p : ℕ → Bool) (n k : ℕ) → last_before p n ≤ k → k < n → p k ≡ false
unfolding last_before
last-after p zero k h l = absurd (omega arith)
last-after p (suc n) k h l = go (p n) refl h (ℕ_discrete k n) (last-after p n k)
  where
    go : (b : Bool) → p n ≡ b → cond b (suc n) (last_before p n) ≤ k → Dec (k ≡ n) → (last_before p n ≤ k → k < n → p k ≡ false) → p k ≡ false
    go true q m d r = absurd (omega arith)
    go false q m (yes e) r = ap p e ∙ q
    go false q m (no e) r = r m (omega arith)

-- the answer depends on the test below n alone
pub last-eq : (p q : ℕ → Bool) (n : ℕ) → ((k : ℕ) → k < n → p k ≡ q k) → last_before p n ≡ last_before q n
unfolding last_before
last-eq p q zero h = refl
last-eq p q (suc n) h = ap₂ (λ (b : Bool) (m : ℕ). cond b (suc n) m) (h n (omega arith)) (last-eq p q n (λ k l. h k (omega arith)))

-- what passes no number from m on is found below m
pub last-below : (p : ℕ → Bool) (m n : ℕ) → m ≤ n → ((k : ℕ) → m ≤ k → k < n → p k ≡ false) → last_before p n ≡ last_before p m
unfolding last_before
last-below p m zero h f = let e : m ≡ 0 = omega arith in ap (last_before p) (sym e)
last-below p m (suc n) h f = go (ℕ_discrete m (suc n)) (λ u. last-below p m n u (λ k l w. f k l (omega arith)))
  where
    go : Dec (m ≡ suc n) → (m ≤ n → last_before p n ≡ last_before p m) → cond (p n) (suc n) (last_before p n) ≡ last_before p m
    go (yes e) r = ap (last_before p) (sym e)
    go (no e) r = ap (λ (b : Bool). cond b (suc n) (last_before p n)) (f n (omega arith) (omega arith)) ∙ r (omega arith)

contrary : (a b : Bool) → (a ≡ true → b ≡ true) → b ≡ false → a ≡ false
contrary true b h e = sym (h refl) ∙ e
contrary false b h e = refl

-- a test that implies another finds what it finds below the other's answer
pub last-skip : (p q : ℕ → Bool) (n : ℕ) → ((k : ℕ) → p k ≡ true → q k ≡ true) → last_before p n ≡ last_before p (last_before q n)
last-skip p q n h = last-below p (last_before q n) n (last-le q n) (λ k l u. contrary (p k) (q k) (h k) (last-after q n k l u))
