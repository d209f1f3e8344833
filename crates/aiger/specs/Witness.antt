-- The witness as text, reading one, and replay's yes and no. Assumes nothing.
use Rattle.std.specs.Prelude.{Bool, true, false, cond, ◌&&◌, ◌||◌, List, [], ◌∷◌, ◌++◌, ℕ, zero, suc, ◌+◌, ◌-◌, ◌*◌, leb, ltb, eqb, length, take, drop}
use Rattle.std.proofs.Math.Option.{Option, none, some}
use Rattle.aiger.specs.Lists.{same}
use Rattle.aiger.specs.Text.{bytes, token, on_token, digits, ◌>>=◌, ◌>>◌, when}
use Rattle.aiger.specs.Circuit.{Circuit, Latch}
use Rattle.aiger.specs.Frames.{Run, hits, is_free}

-- a line of bits, which may be empty
abbrev pub bit_line : List Bool → List ℕ
bit_line [] = bytes "\n"
bit_line (b ∷ bs) = cond b 49 48 ∷ bit_line bs

abbrev pub bit_lines : List (List Bool) → List ℕ
bit_lines [] = []
bit_lines (r ∷ rs) = bit_line r ++ bit_lines rs

-- Clause 3.5: the lines of a witness: `1`, `b` and the number, the start values, a line for each frame, and `.`
unfoldable pub witness : ℕ → Run → List ℕ
witness b r = bytes "1\nb" ++ digits b ++ bytes "\n" ++ bit_line r.start ++ bit_lines r.rows ++ bytes ".\n"

-- the length of a witness for b of k + 1 frames
unfoldable pub witness_length : Circuit → ℕ → ℕ → ℕ
witness_length c b k = 3 + length (digits b) + 1 + (length c.latches + 1) + (k + 1) * (length c.inputs + 1) + 2

-- a line of n bits, and the bytes after it
unfoldable pub bits : ℕ → List ℕ → Option (List Bool × List ℕ)
bits n [] = none
bits zero (c ∷ w) = when (eqb c 10) >> some ([], w)
bits (suc n) (c ∷ w) = when (eqb c 48 || eqb c 49) >> (bits n w >>= λ r. some (eqb c 49 ∷ r.0, r.1))

-- at most `most` lines of n bits, up to the line `.` that ends the text
unfoldable pub bit_rows : ℕ → ℕ → List ℕ → Option (List (List Bool))
bit_rows n zero w = when (same w (bytes ".\n")) >> some []
bit_rows n (suc most) w =
    elim (same w (bytes ".\n")) [ true ↦ some [] | false ↦ bits n w >>= λ r. bit_rows n most r.1 >>= λ rs. some (r.0 ∷ rs) ]

pub record Witness : Type 0 where
  pub bad : ℕ
  pub run : Run

-- the start values and the frames that follow line `b`
unfoldable pub read_run : Circuit → ℕ → List ℕ → Option Witness
read_run c b w = do
  when (ltb b (length c.bads))
  start ← bits (length c.latches) w
  rows ← bit_rows (length c.inputs) 256 start.1
  when (leb 1 (length rows))
  some (record { bad = b; run = record { start = start.0; rows = rows } })

-- Clause 4.1: a witness of 1 to 256 frames, read in that form; its b is below B
unfoldable pub read_witness : Circuit → List ℕ → Option Witness
read_witness c w = when (same (take 3 w) (bytes "1\nb")) >> on_token (token (drop 3 w)) (λ b f. none) (read_run c)

-- the start values agree with the resets
unfoldable pub agrees : List Latch → List Bool → Bool
agrees [] bs = true
agrees (l ∷ ls) [] = false
agrees (l ∷ ls) (b ∷ bs) = (is_free l || eqb l.reset (cond b 1 0)) && agrees ls bs

-- Clause 4.2: whether the start agrees with every reset and the last frame is a hit of b
unfoldable pub confirms : Circuit → Witness → Bool
confirms c w = agrees c.latches w.run.start && hits c w.bad w.run (length w.run.rows - 1)
