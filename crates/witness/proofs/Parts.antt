-- The parts of a witness, and the run whose free bits stand in words. Assumes nothing.
use mathlib.Core.Path.{◌≡◌, sym, ap, ◌∙◌}
use mathlib.Core.List.{List, ◌++◌, map, append_assoc}
use Prim.Native.Nat.{ℕ, ◌+◌, ◌-◌, ◌*◌, ◌≤◌}
use native.Mathlib.Omega.{arith}
use lib.ListN.{length, length-append}
use Rattle.aiger.specs.Lists.{upto}
use Rattle.aiger.specs.Text.{bytes, digits}
use Rattle.aiger.specs.Circuit.{Circuit}
use Rattle.aiger.specs.Frames.{free_starts, free_bits, free_bit, starts, run}
use Rattle.aiger.specs.Witness.{bit_line, bit_lines, witness, witness_length}
use Rattle.aiger.specs.Operations.{front}
use Rattle.layout.specs.Words.{circuit_in}
use Rattle.layout.specs.declared.Layout.{Layout}
use Rattle.meaning.proofs.Lists.{map-upto-eq}
use Rattle.meaning.proofs.Sequences.{input-number, starts-same}
use Rattle.witness.specs.Writing.{free_at, row_of, heading_text, SequenceIn, WitnessFits}
use Rattle.witness.proofs.Put.{put, front-append}
use Rattle.witness.proofs.Rows.{rows_from}
use Rattle.witness.proofs.Starts.{latch-count, input-count}

pub heading-length : (b : ℕ) → length (heading_text b) ≡ 4 + length (digits b)
unfolding heading_text
heading-length b = simp length-append (omega arith)

joined : (a d n s r e : List ℕ) → (a ++ d ++ n) ++ (s ++ (r ++ e)) ≡ a ++ d ++ n ++ s ++ r ++ e
joined a d n s r e = simp append_assoc

-- ---- the run

module _ (free : List ℕ) (c : Circuit) (t x : ℕ) (h : SequenceIn free c t x) where
  same_start : starts (free_at free) 0 c.latches ≡ (run c t x).start
  unfolding run free_bits free_starts
  same_start = starts-same (free_at free) (free_bit (free_bits c t) x) 0 c.latches (λ j l. h j (omega arith))

  same_rows : map (λ u. row_of free (free_starts c + length c.inputs * u) (length c.inputs)) (upto (t + 1)) ≡ (run c t x).rows
  unfolding run free_bits
  same_rows =
      let I = length c.inputs in
      map-upto-eq _ _ (t + 1) (λ u l. map-upto-eq _ _ I (λ i k. h (free_starts c + I * u + i) (input-number c t u i l k)))

  -- the text of the sequence's run, in its three parts
  whole : (b : ℕ) → heading_text b ++ (bit_line (starts (free_at free) 0 c.latches) ++ rows_from free (free_starts c) (length c.inputs) t 0) ≡ witness b (run c t x)
  unfolding rows_from heading_text witness
  whole b =
      let e : t + 1 - 0 ≡ t + 1 = omega arith in
      rw (e, same_rows, same_start) (joined (bytes "1\nb") (digits b) (bytes "\n") (bit_line (run c t x).start) (bit_lines (run c t x).rows) (bytes ".\n"))

  -- the rows after the lines before them
  pub written_all : (b : ℕ) (out one : List ℕ) (rows used I : ℕ) → one ≡ front (heading_text b ++ bit_line (starts (free_at free) 0 c.latches)) out
      → rows ≡ length (heading_text b) + length (bit_line (starts (free_at free) 0 c.latches)) → rows ≤ length out → used ≡ free_starts c → I ≡ length c.inputs
      → put one rows (rows_from free used I t 0) ≡ front (witness b (run c t x)) out
  written_all b out one rows used I e r l u i =
      let v = heading_text b in
      let s = bit_line (starts (free_at free) 0 c.latches) in
      let n : length (v ++ s) ≡ rows = length-append v s ∙ sym r in
      rw (e, ← n, u, i) (front-append out (v ++ s) (rows_from free (free_starts c) (length c.inputs) t 0) (omega arith) ∙ ap (λ (w : List ℕ). front w out) (append_assoc v s _ ∙ whole b))

-- the sizes of the parts, where a witness has room
pub record Sized (m free : List ℕ) (p : Layout) (b t len : ℕ) : Type 0 where
  pub latches : length (circuit_in m).latches ≡ p.l
  pub inputs : p.i ≡ length (circuit_in m).inputs
  pub room : length (heading_text b) + (p.l + 1) + (t + 1) * (p.i + 1) + 2 ≤ len
  pub bits : free_starts (circuit_in m) + p.i * (t + 1) ≤ length free

pub sized : {out m free : List ℕ} {p : Layout} {b t : ℕ} → WitnessFits out m p b t free → Sized m free p b t (length out)
unfolding witness_length free_bits
sized {out} {m} {free} {p} {b} {t} w =
    let l : length (circuit_in m).latches ≡ p.l = latch-count m ∙ sym w.layout.l-is in
    let i : p.i ≡ length (circuit_in m).inputs = w.layout.i-is ∙ sym (input-count m) in
    record { latches = l; inputs = i; room = rw i (omega (arith, heading-length b, w.room)); bits = rw i w.bits }
