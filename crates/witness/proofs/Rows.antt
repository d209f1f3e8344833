-- Lines of bits: their lengths, and one bit after the other. Assumes nothing.
use mathlib.Core.Path.{◌≡◌, refl, ap, ◌∙◌}
use mathlib.Core.Bool.{Bool, not, cond}
use mathlib.Core.List.{List, [], ◌∷◌, ◌++◌, map, append_assoc}
use Prim.Native.Nat.{ℕ, zero, suc, ◌+◌, ◌-◌, ◌*◌, ◌≤◌, ◌<◌}
use native.Mathlib.Nat.{suc-mul, mul-suc, mul-le-mul_left, mul-le-mul_right}
use native.Mathlib.Numerals.{add-one}
use native.Mathlib.Omega.{arith}
use lib.Dec.{eqb, eqb-suc-zero}
use lib.ListN.{length, set, take, drop, length-set}
use borrow.Rule.Slice.PartMut.{put_mid}
use Rattle.aiger.specs.Lists.{from}
use Rattle.aiger.specs.Bits.{nonzero}
use Rattle.aiger.specs.Text.{bytes}
use Rattle.aiger.specs.Witness.{bit_line, bit_lines}
use Rattle.aiger.specs.Operations.{front}
use Rattle.roundtrip.proofs.Lists.{upto-length}
use Rattle.witness.specs.Writing.{free_at, row_of}
use Rattle.witness.proofs.Put.{put, put_front, put_byte, put-cons, put-append, put-length, part-put}

-- a word as a bit, as code tests it
pub nonzero-test : (x : ℕ) → not (eqb x 0) ≡ nonzero x
nonzero-test zero = refl
nonzero-test (suc x) = rw (eqb-suc-zero x)

pub line-length : (bs : List Bool) → length (bit_line bs) ≡ length bs + 1
line-length [] = refl
line-length (b ∷ bs) = omega (arith, line-length bs)

row-length : (free : List ℕ) (at count : ℕ) → length (bit_line (row_of free at count)) ≡ count + 1
row-length free at count = line-length (row_of free at count) ∙ ap (λ (n : ℕ). n + 1) (upto-length _ count)

-- the bits of a row from the i-th on
abbrev pub rest : List ℕ → ℕ → ℕ → ℕ → List Bool
rest free at count i = map (λ k. free_at free (at + k)) (from i (count - i))

rest_more : (free : List ℕ) (at count i : ℕ) → i < count → rest free at count i ≡ free_at free (at + i) ∷ rest free at count (i + 1)
rest_more free at count i h =
    let e : count - i ≡ suc (count - (i + 1)) = omega arith in
    rw (e, add-one i)

rest_end : (free : List ℕ) (at count i : ℕ) → count ≤ i → rest free at count i ≡ []
rest_end free at count i h = let e : count - i ≡ 0 = omega arith in rw e

pub row-start : (free part : List ℕ) (at count : ℕ) → put part 0 (bit_line (rest free at count 0)) ≡ front (bit_line (row_of free at count)) part
row-start free part at count = let e : count - 0 ≡ count = omega arith in rw e (put_front part (bit_line (row_of free at count)))

-- a turn: one bit is written
pub row_more : (free part : List ℕ) (at count i : ℕ) → i < count → i < length part
    → put part i (bit_line (rest free at count i)) ≡ put (set part i (cond (free_at free (at + i)) 49 48)) (i + 1) (bit_line (rest free at count (i + 1)))
row_more free part at count i h l = rw (rest_more free at count i h) (put-cons part i _ _ l)

-- the line feed
pub row-end : (free part : List ℕ) (at count i : ℕ) → i ≡ count → count < length part → put part i (bit_line (rest free at count i)) ≡ set part count 10
row-end free part at count i e l =
    rw (rest_end free at count i (omega arith), e) (put_byte part count 10 l)

-- ---- frames

-- the rows from frame u on, and the line that ends a witness
unfoldable pub rows_from : List ℕ → ℕ → ℕ → ℕ → ℕ → List ℕ
rows_from free used I t u = bit_lines (map (λ v. row_of free (used + I * v) I) (from u (t + 1 - u))) ++ bytes ".\n"

rows_more : (free : List ℕ) (used I t u : ℕ) → u ≤ t → rows_from free used I t u ≡ bit_line (row_of free (used + I * u) I) ++ rows_from free used I t (u + 1)
unfolding rows_from
rows_more free used I t u h =
    let e : t + 1 - u ≡ suc (t + 1 - (u + 1)) = omega arith in
    rw (e, add-one u) (append_assoc (bit_line (row_of free (used + I * u) I)) _ _)

rows_end : (free : List ℕ) (used I t u : ℕ) → u ≡ t + 1 → rows_from free used I t u ≡ bytes ".\n"
unfolding rows_from
rows_end free used I t u h = let e : t + 1 - u ≡ 0 = omega arith in rw e

-- a frame's row lies within the rows, and its bits within the free bits
pub row_inside : (t u w : ℕ) → u ≤ t → u * w + w ≤ (t + 1) * w
row_inside t u w h = let m : suc u * w ≤ (t + 1) * w = mul-le-mul_right w (omega arith) in omega (arith, suc-mul u w)

pub bits_inside : (t u I : ℕ) → u ≤ t → I * u + I ≤ I * (t + 1)
bits_inside t u I h = let m : I * suc u ≤ I * (t + 1) = mul-le-mul_left I (omega arith) in omega (arith, mul-suc I u)

next-offset : (u w : ℕ) → (u + 1) * w ≡ u * w + w
next-offset u w = rw (add-one u) (suc-mul u w)

module _ (free : List ℕ) (used I t rows : ℕ) (out : List ℕ) (u : ℕ) (room : rows + (t + 1) * (I + 1) + 2 ≤ length out) where
  -- a turn: the row of frame u is written in its part
  pub frame-more : u ≤ t → (part : List ℕ)
      → part ≡ front (bit_line (row_of free (used + I * u) I)) (take (length out - (rows + u * (I + 1))) (drop (rows + u * (I + 1)) out))
      → (length (put_mid (rows + u * (I + 1)) (length out - (rows + u * (I + 1))) out part) ≡ length out)
      × (put (put_mid (rows + u * (I + 1)) (length out - (rows + u * (I + 1))) out part) (rows + (u + 1) * (I + 1)) (rows_from free used I t (u + 1))
      ≡ put out (rows + u * (I + 1)) (rows_from free used I t u))
  frame-more h part e =
      let w = bit_line (row_of free (used + I * u) I) in
      let at = rows + u * (I + 1) in
      let size : length w ≡ I + 1 = row-length free (used + I * u) I in
      let fits : at + length w ≤ length out = omega (arith, row_inside t u (I + 1) h) in
      let next : rows + (u + 1) * (I + 1) ≡ at + length w = omega (arith, next-offset u (I + 1)) in
      rw (part-put out part w at fits e, next, rows_more free used I t u h)
      (put-length out at w fits, put-append out at w (rows_from free used I t (u + 1)) fits)

  -- the line that ends a witness
  pub frame-end : u ≡ t + 1
      → put out (rows + u * (I + 1)) (rows_from free used I t u) ≡ set (set out (rows + u * (I + 1)) 46) (rows + u * (I + 1) + 1) 10
  frame-end h =
      let at = rows + u * (I + 1) in
      let e : u * (I + 1) ≡ (t + 1) * (I + 1) = ap (λ (n : ℕ). n * (I + 1)) h in
      rw (rows_end free used I t u h)
      (put-cons out at 46 (10 ∷ []) (omega arith) ∙ put_byte (set out at 46) (at + 1) 10 (simp length-set (omega arith)))
