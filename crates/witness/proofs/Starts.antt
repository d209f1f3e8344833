-- The start values of the latches that the words of a memory say, one after the other. Assumes nothing.
use mathlib.Core.Path.{◌≡◌, refl, sym, ap, ◌∙◌}
use mathlib.Core.Bool.{Bool, true, false, cond}
use mathlib.Core.List.{List, [], ◌∷◌, map}
use Prim.Native.Nat.{ℕ, suc, ◌+◌, ◌*◌, ◌≤◌, ◌<◌}
use native.Mathlib.Numerals.{add-one}
use native.Mathlib.Omega.{arith}
use lib.Dec.{eqb}
use lib.ListN.{length, drop, set, length-set, drop_of_length-le}
use lib.Seq.{drop-cons}
use Rattle.aiger.specs.Lists.{tally, upto}
use Rattle.aiger.specs.Circuit.{Latch}
use Rattle.aiger.specs.Frames.{is_free, free_starts, starts}
use Rattle.aiger.specs.Witness.{bit_line}
use Rattle.aiger.specs.Memory.{Holds}
use Rattle.aiger.specs.Operations.{front}
use Rattle.layout.specs.Words.{word, latches_at, content_end, latch_in, circuit_in}
use Rattle.roundtrip.proofs.Lists.{cond-length, upto-length, upto-get}
use Rattle.roundtrip.proofs.Content.{content-length}
use Rattle.roundtrip.proofs.Holding.{held-valid, content-fits}
use Rattle.witness.specs.Writing.{free_at}
use Rattle.witness.proofs.Put.{put, put_front, put_byte, put-cons}
use Rattle.witness.proofs.Rows.{line-length}

-- ---- what the words of a memory say

pub latch-count : (m : List ℕ) → length (circuit_in m).latches ≡ word m 2
unfolding circuit_in
latch-count m = upto-length _ (word m 2)

pub input-count : (m : List ℕ) → length (circuit_in m).inputs ≡ word m 1
unfolding circuit_in
input-count m = upto-length _ (word m 1)

-- a memory that holds a circuit has all the words of the circuit
pub content-inside : (m : List ℕ) → Holds m (circuit_in m) → content_end m ≤ length m
content-inside m h = let v = held-valid h in omega (arith, content-fits v, content-length m, v.held)

-- the latches from the j-th on
latches-more : (m : List ℕ) (j : ℕ) → j < word m 2
    → drop j (circuit_in m).latches ≡ latch_in m (latches_at m + 3 * j) ∷ drop (j + 1) (circuit_in m).latches
unfolding circuit_in
latches-more m j h =
    let none : Latch = record { lit = 0; next = 0; reset = 0 } in
    let get = upto-get (λ i. latch_in m (latches_at m + 3 * i)) (word m 2) j none h in
    let size = upto-length (λ i. latch_in m (latches_at m + 3 * i)) (word m 2) in
    rw (add-one j) (drop-cons (map (λ i. latch_in m (latches_at m + 3 * i)) (upto (word m 2))) j none (omega arith) ∙ rw get)

latches-end : (m : List ℕ) (j : ℕ) → word m 2 ≤ j → drop j (circuit_in m).latches ≡ []
latches-end m j h = drop_of_length-le (circuit_in m).latches {i = j} (omega (arith, latch-count m))

-- ---- start values

starts_more : (free : ℕ → Bool) (k : ℕ) (l : Latch) (ls : List Latch)
    → starts free k (l ∷ ls) ≡ cond (is_free l) (free k) (eqb l.reset 1) ∷ starts free (cond (is_free l) (k + 1) k) ls
unfolding starts
starts_more free k l ls = go (is_free l)
  where
    go : (f : Bool) → cond f (free k ∷ starts free (k + 1) ls) (eqb l.reset 1 ∷ starts free k ls) ≡ cond f (free k) (eqb l.reset 1) ∷ starts free (cond f (k + 1) k) ls
    go true = refl
    go false = refl

tally-more : (f : Bool) (k n : ℕ) → cond f (k + 1) k + n ≡ k + (cond f 1 0 + n)
tally-more true k n = omega arith
tally-more false k n = omega arith

tally-free : (f : Bool) (k n u : ℕ) → f ≡ true → k + (cond f 1 0 + n) ≡ u → k < u
tally-free true k n u e h = omega arith
tally-free false k n u e h = let z : ◌≡◌ {A = ℕ} 0 1 = cc in absurd (omega arith)

starts-length : (free : ℕ → Bool) (k : ℕ) (ls : List Latch) → length (starts free k ls) ≡ length ls
unfolding starts
starts-length free k [] = refl
starts-length free k (l ∷ ls) =
    cond-length (is_free l) (free k ∷ starts free (k + 1) ls) (eqb l.reset 1 ∷ starts free k ls) (suc (length ls))
    (ap suc (starts-length free (k + 1) ls)) (ap suc (starts-length free k ls))

pub starts-line : (free : ℕ → Bool) (ls : List Latch) → length (bit_line (starts free 0 ls)) ≡ length ls + 1
starts-line free ls = line-length (starts free 0 ls) ∙ ap (λ (n : ℕ). n + 1) (starts-length free 0 ls)

-- the line of start values from latch j on, where k free bits are used
abbrev pub starts_from : List ℕ → (ℕ → Bool) → ℕ → ℕ → List ℕ
starts_from m free k j = bit_line (starts free k (drop j (circuit_in m).latches))

-- how many latches from the j-th on are free
abbrev pub free_from : List ℕ → ℕ → ℕ
free_from m j = tally is_free (drop j (circuit_in m).latches)

module _ (m : List ℕ) (free : ℕ → Bool) (k j : ℕ) (h : j < word m 2) where
  abbrev at : ℕ
  at = latches_at m + 3 * j

  abbrev f : Bool
  f = eqb (word m (at + 2)) (word m at)

  -- a turn: one start value is written
  line-more : (part : List ℕ) → j < length part
      → put part j (starts_from m free k j)
      ≡ put (set part j (cond (cond f (free k) (eqb (word m (at + 2)) 1)) 49 48)) (j + 1) (starts_from m free (cond f (k + 1) k) (j + 1))
  line-more part l =
      rw (latches-more m j h, starts_more free k (latch_in m at) (drop (j + 1) (circuit_in m).latches))
      (put-cons part j _ _ l)

  count-more : k + free_from m j ≡ cond f (k + 1) k + free_from m (j + 1)
  count-more = rw (latches-more m j h) (sym (tally-more f k (free_from m (j + 1))))

  -- where the latch is free, a free bit is left
  free-left : (u : ℕ) → f ≡ true → k + free_from m j ≡ u → k < u
  free-left u e q = tally-free f k (free_from m (j + 1)) u e (rw (latches-more m j h) at q)

line-end : (m part : List ℕ) (free : ℕ → Bool) (k j : ℕ) → word m 2 ≤ j → j < length part → put part j (starts_from m free k j) ≡ set part j 10
unfolding starts
line-end m part free k j h l = rw (latches-end m j h) (put_byte part j 10 l)

count-end : (m : List ℕ) (k j : ℕ) → word m 2 ≤ j → k + free_from m j ≡ k
count-end m k j h = rw (latches-end m j h) (omega arith)

-- ---- the loop over the latches

-- j start values are written to part, which was part₀, and the words of latch j begin at `at`
pub record Turn (m free part₀ part : List ℕ) (at used j : ℕ) : Type 0 where
  pub size : length part ≡ length part₀
  pub within : j ≤ word m 2
  pub place : at ≡ latches_at m + 3 * j
  pub count : used + free_from m j ≡ free_starts (circuit_in m)
  pub text : put part j (starts_from m (free_at free) used j) ≡ front (starts_from m (free_at free) 0 0) part₀

module _ (m free part₀ : List ℕ) where
  pub begin : (at : ℕ) → at ≡ latches_at m → Turn m free part₀ part₀ at 0 0
  unfolding free_starts
  begin at e = record { size = refl; within = omega arith; place = omega arith; count = omega arith; text = put_front part₀ (starts_from m (free_at free) 0 0) }

  module _ (part : List ℕ) (at used j : ℕ) (i : Turn m free part₀ part at used j) where
    -- the words of latch j are in the memory
    pub inside : Holds m (circuit_in m) → j < word m 2 → at + 2 < length m
    inside h l = omega (arith, content-inside m h, i.place)

    pub bit-left : j < word m 2 → (lit reset : ℕ) → lit ≡ word m at → reset ≡ word m (at + 2) → eqb reset lit ≡ true → used < free_starts (circuit_in m)
    bit-left l lit reset a b e =
        let q : eqb (word m (at + 2)) (word m at) ≡ true = rw (← a, ← b) e in
        free-left m (free_at free) used j l (free_starts (circuit_in m)) (rw i.place at q) i.count

    pub turn : j < word m 2 → word m 2 < length part₀ → (lit reset : ℕ) → lit ≡ word m at → reset ≡ word m (at + 2) → (value : Bool) (next byte : ℕ)
        → value ≡ cond (eqb reset lit) (free_at free used) (eqb reset 1) → next ≡ cond (eqb reset lit) (used + 1) used → byte ≡ cond value 49 48
        → Turn m free part₀ (set part j byte) (at + 3) next (j + 1)
    turn l r lit reset a b value next byte v n y =
        let k : at ≡ latches_at m + 3 * j = i.place in
        let a' : lit ≡ word m (latches_at m + 3 * j) = rw k at a in
        let b' : reset ≡ word m (latches_at m + 3 * j + 2) = rw k at b in
        record {
          size = length-set part j byte ∙ i.size;
          within = omega arith;
          place = omega arith;
          count = rw (n, a', b') (sym (count-more m (free_at free) used j l) ∙ i.count);
          text = rw (y, v, n, a', b') (sym (line-more m (free_at free) used j l part (omega (arith, i.size))) ∙ i.text);
        }

    pub done : word m 2 ≡ j → word m 2 < length part₀
        → (used ≡ free_starts (circuit_in m)) × (set part (word m 2) 10 ≡ front (bit_line (starts (free_at free) 0 (circuit_in m).latches)) part₀)
    done e r = (
      sym (count-end m used j (omega arith)) ∙ i.count,
      rw e (sym (line-end m part (free_at free) used j (omega arith) (omega (arith, i.size))) ∙ i.text),
    )
