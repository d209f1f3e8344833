-- The latches with a free start, counted one after the other, and the start values. Assumes nothing.
use mathlib.Core.Path.{◌≡◌, refl, sym, ap, ap₂, ◌∙◌, subst}
use mathlib.Core.Bool.{Bool, true, false, cond}
use mathlib.Core.List.{List, [], ◌∷◌}
use Prim.Native.Nat.{ℕ, zero, suc, ◌+◌, ◌*◌, ◌≤◌, ◌<◌}
use native.Mathlib.Nat.{not-suc-le-zero, le_of_suc-le-suc, mul-le-mul_right}
use native.Mathlib.Numerals.{add-one}
use native.Mathlib.Omega.{arith}
use lib.Dec.{T, eqb}
use lib.ListN.{length, get_or, take}
use Rattle.aiger.specs.Bits.{bit}
use Rattle.aiger.specs.Lists.{tally}
use Rattle.aiger.specs.Circuit.{Circuit, Latch}
use Rattle.aiger.specs.Frames.{is_free, free_starts, free_bits, free_bit, run}
use Rattle.aiger.specs.Memory.{Holds}
use Rattle.aiger.proofs.Tests.{T_true}
use Rattle.layout.specs.Words.{word, circuit_in}
use Rattle.layout.specs.Layout.{LayoutOf}
use Rattle.layout.specs.declared.Layout.{Layout}
use Rattle.meaning.proofs.Defined.{no_latch, latch_at}
use Rattle.meaning.proofs.Sequences.{run-reset, run-free}
use Rattle.frames.specs.Starts.{free_before, start_bit}
use Rattle.frames.proofs.Places.{latches-are, latches-few, latch-place}

-- ---- counts of a list's beginning

tally-more : (p : Latch → Bool) (ls : List Latch) (j : ℕ) → j < length ls → tally p (take (suc j) ls) ≡ tally p (take j ls) + cond (p (get_or ls j no_latch)) 1 0
tally-more p [] j h = absurd (not-suc-le-zero h)
tally-more p (l ∷ ls) zero h = omega arith
tally-more p (l ∷ ls) (suc j) h = omega (arith, tally-more p ls j (le_of_suc-le-suc h))

tally-whole : (p : Latch → Bool) (ls : List Latch) → tally p (take (length ls) ls) ≡ tally p ls
tally-whole p [] = refl
tally-whole p (l ∷ ls) = ap (λ (n : ℕ). cond (p l) 1 0 + n) (tally-whole p ls)

tally-part : (p : Latch → Bool) (ls : List Latch) (j : ℕ) → tally p (take j ls) ≤ tally p ls
tally-part p [] zero = omega arith
tally-part p [] (suc j) = omega arith
tally-part p (l ∷ ls) zero = omega arith
tally-part p (l ∷ ls) (suc j) = omega (arith, tally-part p ls j)

unit : (b : Bool) → cond b 1 0 ≤ 1
unit true = omega arith
unit false = omega arith

tally-small : (p : Latch → Bool) (ls : List Latch) → tally p ls ≤ length ls
tally-small p [] = omega arith
tally-small p (l ∷ ls) = omega (arith, unit (p l), tally-small p ls)

-- ---- the free latches of a circuit

module _ (c : Circuit) where
  pub free-none : free_before c 0 ≡ 0
  unfolding free_before
  free-none = refl

  pub free_more : (j : ℕ) → j < length c.latches → free_before c (j + 1) ≡ free_before c j + cond (is_free (latch_at c j)) 1 0
  unfolding free_before
  free_more j h = ap (λ (n : ℕ). tally is_free (take n c.latches)) (add-one j) ∙ tally-more is_free c.latches j h

  pub free_all : free_before c (length c.latches) ≡ free_starts c
  unfolding free_before free_starts
  free_all = tally-whole is_free c.latches

  pub free_part : (j : ℕ) → free_before c j ≤ free_starts c
  unfolding free_before free_starts
  free_part j = tally-part is_free c.latches j

  pub free-small : free_starts c ≤ length c.latches
  unfolding free_starts
  free-small = tally-small is_free c.latches

  -- the start values of the run of a sequence
  pub start-of-run : (t x j : ℕ) → j < length c.latches → start_bit c (free_bits c t) x j ≡ get_or (run c t x).start j false
  unfolding start_bit free_before
  start-of-run t x j h = go (is_free (latch_at c j)) refl
    where
      go : (f : Bool) → is_free (latch_at c j) ≡ f
          → cond f (free_bit (free_bits c t) x (tally is_free (take j c.latches))) (eqb (latch_at c j).reset 1) ≡ get_or (run c t x).start j false
      go true e = sym (run-free c t x j h (T_true e))
      go false e = sym (run-reset c t x j h (λ f. subst T e f))

-- ---- the free latches of a circuit in memory

module _ {m : List ℕ} {layout : Layout} (held : Holds m (circuit_in m)) (a : LayoutOf m layout) where
  -- latch j, by its words
  abbrev free_in : ℕ → Bool
  free_in j = eqb (word m (layout.latches + 3 * j + 2)) (word m (layout.latches + 3 * j))

  pub count-more : (j : ℕ) → j < layout.l → free_before (circuit_in m) (j + 1) ≡ free_before (circuit_in m) j + cond (free_in j) 1 0
  count-more j l =
      free_more (circuit_in m) j (omega (arith, latches-are held a))
      ∙ ap (λ (x : Latch). free_before (circuit_in m) j + cond (is_free x) 1 0) (latch-place held a j l)

  pub count-part : (j : ℕ) → j < layout.l → free_before (circuit_in m) j + cond (free_in j) 1 0 ≤ free_starts (circuit_in m)
  count-part j l = omega (arith, count-more j l, free_part (circuit_in m) (j + 1))

  pub starts-few : free_starts (circuit_in m) ≤ 1024
  starts-few = omega (arith, free-small (circuit_in m), latches-are held a, latches-few held a)

  -- where left free bits remain after latch j, its start is the bit at left, or its reset
  pub start-in : (n x left j : ℕ) → j < layout.l → left + free_before (circuit_in m) (j + 1) ≡ n
      → cond (free_in j) (bit x left) (eqb (word m (layout.latches + 3 * j + 2)) 1) ≡ start_bit (circuit_in m) n x j
  unfolding start_bit
  start-in n x left j l e =
      go (free_in j) (count-more j l)
      ∙ ap (λ (y : Latch). cond (is_free y) (free_bit n x (free_before (circuit_in m) j)) (eqb y.reset 1)) (sym (latch-place held a j l))
    where
      go : (f : Bool) → free_before (circuit_in m) (j + 1) ≡ free_before (circuit_in m) j + cond f 1 0
          → cond f (bit x left) (eqb (word m (layout.latches + 3 * j + 2)) 1)
          ≡ cond f (free_bit n x (free_before (circuit_in m) j)) (eqb (word m (layout.latches + 3 * j + 2)) 1)
      go true q = ap (bit x) (omega arith)
      go false q = refl

-- ---- free bits

-- the number of free bits, and that it is small
pub bits_are : (c : Circuit) (t : ℕ) {free i : ℕ} → free ≡ free_starts c → i ≡ length c.inputs → free + i * (t + 1) ≡ free_bits c t
unfolding free_bits
bits_are c t e f = ap₂ (λ (x y : ℕ). x + y * (t + 1)) e f

pub bits-few : (i t : ℕ) → i ≤ 256 → t ≤ 255 → i * (t + 1) ≤ 65536
bits-few i t h l =
    let a : i * (t + 1) ≤ 256 * (t + 1) = mul-le-mul_right (t + 1) h in
    omega arith

-- the latches' free bits are among the free bits; the inputs' remain after them
pub latches-room : (c : Circuit) (t : ℕ) → free_starts c ≤ free_bits c t
unfolding free_bits
latches-room c t = omega arith
