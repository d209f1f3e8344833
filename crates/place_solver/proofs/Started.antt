-- The records of a netlist after its floor was put at a place. Assumes nothing.
use mathlib.Core.Path.{◌≡◌, refl, sym, ap, ap₂, ◌∙◌, subst}
use mathlib.Core.Bool.{Bool, true, false, cond}
use mathlib.Core.List.{List}
use mathlib.Core.Logic.{◌⊎◌, inl, inr}
use Prim.Native.Nat.{ℕ, zero, suc, ◌+◌, ◌-◌, ◌*◌, ◌/◌, ◌%◌, ◌≤◌, ◌<◌}
use native.Mathlib.Decide.{ℕ_discrete}
use native.Mathlib.Omega.{arith}
use lib.Dec.{eqb}
use lib.ListN.{length}
use Rattle.memory.specs.Record.{field, stored, bit_at}
use Rattle.reasons.proofs.Frame.{length-stored, stored_at, stored-field}
use Rattle.place_solver.specs.From.{with_digit, digit_at, started_bit, started_bits}

pub digit-few : (b : Bool) → cond b 1 0 ≤ 1
digit-few true = omega arith
digit-few false = omega arith

-- ---- one turn

pub started_none : (w : List ℕ) (nodes n place j k : ℕ) → k ≡ 0 → started_bits w nodes n place j k ≡ w
unfolding started_bits
started_none w nodes n place j zero e = refl
started_none w nodes n place j (suc k) e = absurd (omega arith)

pub started-more : (w u : List ℕ) (nodes n place j k m : ℕ) → k ≡ m + 1 → u ≡ started_bit w nodes (j + 1) (digit_at place (n - (j + 1)))
    → started_bits w nodes n place j k ≡ started_bits u nodes n place (j + 1) m
unfolding started_bits
started-more w u nodes n place j zero m e s = absurd (omega arith)
started-more w u nodes n place j (suc k) m e s =
    let p : k ≡ m = omega arith in
    ap₂ (λ (v : List ℕ) (i : ℕ). started_bits v nodes n place (j + 1) i) (sym s) p

-- ---- one node

module _ (w : List ℕ) (nodes v d : ℕ) (long : 14 * nodes ≤ length w) where
  abbrev x : ℕ
  x = with_digit (field w nodes v 2) d

  abbrev one : List ℕ
  one = stored w nodes v 2 x

  pub bit-long : length (started_bit w nodes v d) ≡ length w
  unfolding started_bit
  bit-long = go (eqb (bit_at (field w nodes v 2)) 2)
    where
      go : (b : Bool) → length (cond b (stored one nodes v 1 1) one) ≡ length w
      go true = length-stored one nodes v 1 1 ∙ length-stored w nodes v 2 x
      go false = length-stored w nodes v 2 x

  pub bit-other : (u f : ℕ) → f < 14 → (u ≡ v → ⊥) → field (started_bit w nodes v d) nodes u f ≡ field w nodes u f
  unfolding started_bit
  bit-other u f l n = go (eqb (bit_at (field w nodes v 2)) 2)
    where
      go : (b : Bool) → field (cond b (stored one nodes v 1 1) one) nodes u f ≡ field w nodes u f
      go true = stored-field one nodes v 1 1 u f (omega arith) l (λ e z. n e) ∙ stored-field w nodes v 2 x u f (omega arith) l (λ e z. n e)
      go false = stored-field w nodes v 2 x u f (omega arith) l (λ e z. n e)

  pub bit-first : field (started_bit w nodes v d) nodes v 0 ≡ field w nodes v 0
  unfolding started_bit
  bit-first = go (eqb (bit_at (field w nodes v 2)) 2)
    where
      go : (b : Bool) → field (cond b (stored one nodes v 1 1) one) nodes v 0 ≡ field w nodes v 0
      go true =
          stored-field one nodes v 1 1 v 0 (omega arith) (omega arith) (λ e z. omega arith)
          ∙ stored-field w nodes v 2 x v 0 (omega arith) (omega arith) (λ e z. omega arith)
      go false = stored-field w nodes v 2 x v 0 (omega arith) (omega arith) (λ e z. omega arith)

  pub bit-second : v < nodes → field (started_bit w nodes v d) nodes v 1 ≡ cond (eqb (bit_at (field w nodes v 2)) 2) 1 (field w nodes v 1)
  unfolding started_bit
  bit-second l = go (eqb (bit_at (field w nodes v 2)) 2)
    where
      go : (b : Bool) → field (cond b (stored one nodes v 1 1) one) nodes v 1 ≡ cond b 1 (field w nodes v 1)
      go true = stored_at one nodes v 1 1 (omega (arith, length-stored w nodes v 2 x)) (omega arith) l
      go false = stored-field w nodes v 2 x v 1 (omega arith) (omega arith) (λ e z. omega arith)

  pub bit-fact : v < nodes → field (started_bit w nodes v d) nodes v 2 ≡ with_digit (field w nodes v 2) d
  unfolding started_bit
  bit-fact l = go (eqb (bit_at (field w nodes v 2)) 2)
    where
      go : (b : Bool) → field (cond b (stored one nodes v 1 1) one) nodes v 2 ≡ x
      go true = stored-field one nodes v 1 1 v 2 (omega arith) (omega arith) (λ e z. omega arith) ∙ stored_at w nodes v 2 x long (omega arith) l
      go false = stored_at w nodes v 2 x long (omega arith) l

-- ---- all free bits

module _ (w : List ℕ) (nodes n place : ℕ) (small : n < nodes) (long : 14 * nodes ≤ length w) where
  -- nodes 1 to j have their digits
  pub record Started (u : List ℕ) (j : ℕ) : Type 0 where
    pub size : length u ≡ length w
    pub other : (v f : ℕ) → f < 14 → (v ≡ 0) ⊎ (j < v) → field u nodes v f ≡ field w nodes v f
    pub first : (v : ℕ) → field u nodes v 0 ≡ field w nodes v 0
    pub second : (v : ℕ) → 1 ≤ v → v ≤ j → field u nodes v 1 ≡ cond (eqb (bit_at (field w nodes v 2)) 2) 1 (field w nodes v 1)
    pub fact : (v : ℕ) → 1 ≤ v → v ≤ j → field u nodes v 2 ≡ with_digit (field w nodes v 2) (digit_at place (n - v))

  started-next : (u : List ℕ) (j : ℕ) → j < n → Started u j → Started (started_bit u nodes (j + 1) (digit_at place (n - (j + 1)))) (j + 1)
  started-next u j l s =
      let d = digit_at place (n - (j + 1)) in
      let lo : 14 * nodes ≤ length u = omega (arith, s.size) in
      let same : (f : ℕ) → f < 14 → field u nodes (j + 1) f ≡ field w nodes (j + 1) f = λ f h. s.other (j + 1) f h (inr (omega arith)) in
      record {
        size = bit-long u nodes (j + 1) d lo ∙ s.size;
        other = λ v f h o.
            elim o [
              | inl e ↦ bit-other u nodes (j + 1) d lo v f h (λ z. omega arith) ∙ s.other v f h (inl e)
              | inr e ↦ bit-other u nodes (j + 1) d lo v f h (λ z. omega arith) ∙ s.other v f h (inr (omega arith))
            ];
        first = λ v.
            elim (ℕ_discrete v (j + 1)) [
              | yes e ↦
                  subst (λ (k : ℕ). field (started_bit u nodes (j + 1) d) nodes k 0 ≡ field w nodes k 0) (sym e) (bit-first u nodes (j + 1) d lo ∙ s.first (j + 1))
              | no e ↦ bit-other u nodes (j + 1) d lo v 0 (omega arith) e ∙ s.first v
            ];
        second = λ v a b.
            elim (ℕ_discrete v (j + 1)) [
              | yes e ↦
                  subst (λ (k : ℕ). field (started_bit u nodes (j + 1) d) nodes k 1 ≡ cond (eqb (bit_at (field w nodes k 2)) 2) 1 (field w nodes k 1)) (sym e)
                  (bit-second u nodes (j + 1) d lo (omega arith)
                  ∙ ap₂ (λ (x y : ℕ). cond (eqb (bit_at x) 2) 1 y) (same 2 (omega arith)) (same 1 (omega arith)))
              | no e ↦ bit-other u nodes (j + 1) d lo v 1 (omega arith) e ∙ s.second v a (omega arith)
            ];
        fact = λ v a b.
            elim (ℕ_discrete v (j + 1)) [
              | yes e ↦
                  subst (λ (k : ℕ). field (started_bit u nodes (j + 1) d) nodes k 2 ≡ with_digit (field w nodes k 2) (digit_at place (n - k))) (sym e)
                  (bit-fact u nodes (j + 1) d lo (omega arith) ∙ ap (λ (x : ℕ). with_digit x d) (same 2 (omega arith)))
              | no e ↦ bit-other u nodes (j + 1) d lo v 2 (omega arith) e ∙ s.fact v a (omega arith)
            ];
      }

  started-from : (u : List ℕ) (j k : ℕ) → j + k ≡ n → Started u j → Started (started_bits u nodes n place j k) n
  unfolding started_bits
  started-from u j zero e s = let q : j ≡ n = omega arith in subst (Started u) q s
  started-from u j (suc k) e s =
      started-from (started_bit u nodes (j + 1) (digit_at place (n - (j + 1)))) (j + 1) k (omega arith) (started-next u j (omega arith) s)

  pub started-all : Started (started_bits w nodes n place 0 n) n
  started-all =
      started-from w 0 n (omega arith)
      (record {
        size = refl;
        other = λ v f h o. refl;
        first = λ v. refl;
        second = λ v a b. absurd (omega arith);
        fact = λ v a b. absurd (omega arith);
      })
