-- Witnesses: the text of a run is read back as that run. Assumes nothing.
use mathlib.Core.Path.{◌≡◌, refl, ap}
use mathlib.Core.Bool.{Bool, true, false}
use mathlib.Core.List.{List, [], ◌∷◌, ◌++◌, append_assoc}
use mathlib.Core.Option.{some}
use Prim.Native.Nat.{ℕ, zero, suc, ◌+◌, ◌*◌, ◌^◌, ◌≤◌, ◌<◌}
use native.Mathlib.Nat.{suc-mul}
use native.Mathlib.Omega.{arith}
use lib.Dec.{T, eqb, eqb→eq}
use borrow.Author.Tests.{lt-ltb, le-leb, eq-eqb}
use lib.ListN.{length, length-append}
use Rattle.aiger.specs.Lists.{every, same, upto}
use Rattle.aiger.specs.Text.{bytes}
use Rattle.aiger.specs.Circuit.{Circuit, Latch}
use Rattle.aiger.specs.Frames.{Run, starts, run, is_free}
use Rattle.aiger.specs.Witness.{bit_line, bit_lines, witness, witness_length, bits, bit_rows, read_run, read_witness}
use Rattle.aiger.proofs.Tests.{and_left, and_right, T_true}
use Rattle.roundtrip.proofs.Lists.{upto-length, every_made, cond-length}
use Rattle.numbers.proofs.ReadBack.{digits-ended}
use Rattle.meaning.proofs.Sequences.{length-starts}

-- a row of n values
abbrev pub wide : ℕ → List Bool → Bool
wide n row = eqb (length row) n

-- a run of t + 1 frames of circuit c: L start values, and I values a frame
pub record Shaped (c : Circuit) (t : ℕ) (r : Run) : Type 0 where
  pub start : length r.start ≡ length c.latches
  pub frames : length r.rows ≡ t + 1
  pub inputs : T (every (wide (length c.inputs)) r.rows)

-- a line of bits is read back
pub bits-line : (bs : List Bool) (w : List ℕ) → bits (length bs) (bit_line bs ++ w) ≡ some (bs, w)
unfolding bits
bits-line [] w = refl
bits-line (true ∷ bs) w = simp (bits-line bs w)
bits-line (false ∷ bs) w = simp (bits-line bs w)

-- a line of bits is not the line that ends the text
not_end : (bs : List Bool) (w : List ℕ) → same (bit_line bs ++ w) (bytes ".\n") ≡ false
not_end [] w = refl
not_end (true ∷ bs) w = refl
not_end (false ∷ bs) w = refl

-- lines of bits up to the line that ends the text are read back
pub bits-lines : (n most : ℕ) (rs : List (List Bool)) → T (every (wide n) rs) → length rs ≤ most → bit_rows n most (bit_lines rs ++ bytes ".\n") ≡ some rs
unfolding bit_rows
bits-lines n zero [] h l = refl
bits-lines n (suc most) [] h l = refl
bits-lines n zero (r ∷ rs) h l = absurd (omega arith)
bits-lines n (suc most) (r ∷ rs) h l =
    let e : length r ≡ n = eqb→eq (length r) n (and_left (wide n r) (every (wide n) rs) h) in
    let w = bit_lines rs ++ bytes ".\n" in
    let first : bits n (bit_line r ++ w) ≡ some (r, w) = rw (← e) (bits-line r w) in
    simp (append_assoc, bit_rows, not_end r w, first, bits-lines n most rs (and_right (wide n r) (every (wide n) rs) h) (omega arith))

line-length : (bs : List Bool) → length (bit_line bs) ≡ length bs + 1
line-length [] = refl
line-length (b ∷ bs) = omega (arith, line-length bs)

lines-length : (n : ℕ) (rs : List (List Bool)) → T (every (wide n) rs) → length (bit_lines rs) ≡ length rs * (n + 1)
lines-length n [] h = omega arith
lines-length n (r ∷ rs) h =
    omega (
      arith,
      length-append (bit_line r) (bit_lines rs),
      line-length r,
      eqb→eq (length r) n (and_left (wide n r) (every (wide n) rs) h),
      lines-length n rs (and_right (wide n r) (every (wide n) rs) h),
      suc-mul (length rs) (n + 1),
    )

module _ (c : Circuit) (b t : ℕ) (r : Run) (s : Shaped c t r) where
  -- the text of a run is read back as that run
  pub witness-back : b < length c.bads → length c.bads ≤ 16 → t ≤ 255 → read_witness c (witness b r) ≡ some (record { bad = b; run = r })
  unfolding read_witness read_run witness
  witness-back h k l =
      let w = bit_lines r.rows ++ bytes ".\n" in
      let f = bit_line r.start ++ w in
      let small : b < 10 ^ 10 = omega arith in
      let few : length r.rows ≤ 256 = omega (arith, s.frames) in
      let one : 1 ≤ length r.rows = omega (arith, s.frames) in
      let first : bits (length c.latches) f ≡ some (r.start, w) = rw (← s.start) (bits-line r.start w) in
      simp (
        append_assoc,
        digits-ended b f small,
        lt-ltb b (length c.bads) h,
        first,
        bits-lines (length c.inputs) 256 r.rows s.inputs few,
        le-leb 1 (length r.rows) one,
      )

  -- the length of a witness
  pub witness-length : length (witness b r) ≡ witness_length c b t
  unfolding witness witness_length
  witness-length =
      simp length-append
      (omega (
        arith,
        line-length r.start,
        s.start,
        lines-length (length c.inputs) r.rows s.inputs,
        ap (λ (n : ℕ). n * (length c.inputs + 1)) s.frames,
      ))

-- the run of a sequence is a run of the circuit
pub run-shaped : (c : Circuit) (t x : ℕ) → Shaped c t (run c t x)
unfolding run
run-shaped c t x =
    let I = length c.inputs in
    record {
      start = length-starts _ 0 c.latches;
      frames = upto-length _ (t + 1);
      inputs = every_made (wide I) _ (λ u. T_true (eq-eqb _ I (upto-length _ I))) (upto (t + 1));
    }

-- the witness of a sequence is read back as the sequence's run
pub run-back : (c : Circuit) (b t x : ℕ) → b < length c.bads → length c.bads ≤ 16 → t ≤ 255
    → read_witness c (witness b (run c t x)) ≡ some (record { bad = b; run = run c t x })
run-back c b t x = witness-back c b t (run c t x) (run-shaped c t x)

-- the length of the witness of a sequence
pub run_length : (c : Circuit) (b t x : ℕ) → length (witness b (run c t x)) ≡ witness_length c b t
run_length c b t x = witness-length c b t (run c t x) (run-shaped c t x)
