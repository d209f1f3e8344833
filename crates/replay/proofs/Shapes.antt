-- The shape of a witness that was read. Assumes nothing.
use mathlib.Core.Path.{◌≡◌, refl, sym, ap, subst}
use mathlib.Core.Bool.{Bool, true, false, ◌||◌}
use mathlib.Core.List.{List, [], ◌∷◌}
use mathlib.Core.Option.{Option, none, some}
use Prim.Native.Nat.{ℕ, zero, suc, ◌-◌, ◌≤◌, ◌<◌}
use native.Mathlib.Nat.{not-suc-le-zero, le_of_suc-le-suc}
use native.Mathlib.Omega.{arith}
use borrow.Author.Tests.{leb-true}
use lib.Dec.{leb, ltb, eqb}
use lib.ListN.{length, get_or}
use Rattle.aiger.specs.Lists.{same}
use Rattle.aiger.specs.Text.{bytes, when, ◌>>=◌, ◌>>◌}
use Rattle.aiger.specs.Circuit.{Circuit}
use Rattle.aiger.specs.Witness.{Witness, bits, bit_rows, read_run}
use Rattle.meaning.proofs.Sequences.{Shaped}
use Rattle.replay.proofs.Lines.{rows_end, rows-malformed, rows_more}

-- a line of n bits, if one was read
abbrev Line : ℕ → Option (List Bool × List ℕ) → Type 0
Line n none = Unit {0}
Line n (some r) = length r.0 ≡ n

bits-shape : (n : ℕ) (w : List ℕ) → Line n (bits n w)
unfolding bits
bits-shape n [] = tt
bits-shape zero (c ∷ w) = go (eqb c 10)
  where
    go : (b : Bool) → Line 0 (when b >> some ([], w))
    go true = refl
    go false = tt
bits-shape (suc n) (c ∷ w) = go (eqb c 48 || eqb c 49) (bits n w) (bits-shape n w)
  where
    go : (b : Bool) (o : Option (List Bool × List ℕ)) → Line n o → Line (suc n) (when b >> (o >>= λ r. some (eqb c 49 ∷ r.0, r.1)))
    go true none h = tt
    go true (some r) h = ap suc h
    go false o h = tt

-- at most `most` rows of n bits, if they were read
abbrev Rows : ℕ → ℕ → Option (List (List Bool)) → Type 0
Rows n most none = Unit {0}
Rows n most (some rs) = (length rs ≤ most) × ((u : ℕ) → u < length rs → length (get_or rs u []) ≡ n)

no_rows : (n most : ℕ) → Rows n most (some [])
no_rows n most = (omega arith, λ u h. absurd (not-suc-le-zero h))

row_more : (n most : ℕ) (v : List Bool) (o : Option (List (List Bool))) → length v ≡ n → Rows n most o → Rows n (suc most) (o >>= λ rs. some (v ∷ rs))
row_more n most v none e h = tt
row_more n most v (some rs) e h = (omega (arith, h.0), row)
  where
    row : (u : ℕ) → u < length (v ∷ rs) → length (get_or (v ∷ rs) u []) ≡ n
    row zero l = e
    row (suc u) l = h.1 u (le_of_suc-le-suc l)

rows-shape : (n most : ℕ) (w : List ℕ) → Rows n most (bit_rows n most w)
unfolding bit_rows
rows-shape n zero w = go (same w (bytes ".\n"))
  where
    go : (b : Bool) → Rows n 0 (when b >> some [])
    go true = no_rows n 0
    go false = tt
rows-shape n (suc most) w = go (same w (bytes ".\n")) refl (bits n w) refl (bits-shape n w) (rows-shape n most)
  where
    go : (b : Bool) → same w (bytes ".\n") ≡ b → (o : Option (List Bool × List ℕ)) → bits n w ≡ o → Line n o
        → ((f : List ℕ) → Rows n most (bit_rows n most f)) → Rows n (suc most) (bit_rows n (suc most) w)
    go true e o q h k = subst (Rows n (suc most)) (sym (rows_end n w (suc most) e)) (no_rows n (suc most))
    go false e none q h k = subst (Rows n (suc most)) (sym (rows-malformed n w most e q)) tt
    go false e (some r) q h k =
        subst (Rows n (suc most)) (sym (rows_more n w most r.0 r.1 e q)) (row_more n most r.0 (bit_rows n most r.1) h (k r.1))

-- a run of 1 to 256 frames, if a witness was read
pub record OfFrames (c : Circuit) (w : Witness) : Type 0 where
  pub frame : ℕ
  pub few : frame ≤ 255
  pub shaped : Shaped c frame w.run

abbrev Read : Circuit → Option Witness → Type 0
Read c none = Unit {0}
Read c (some w) = OfFrames c w

frames-read : (c : Circuit) (b : ℕ) (bs : List Bool) → length bs ≡ length c.latches → (o : Option (List (List Bool))) → Rows (length c.inputs) 256 o
    → Read c (o >>= λ rs. when (leb 1 (length rs)) >> some (record { bad = b; run = record { start = bs; rows = rs } }))
frames-read c b bs e none h = tt
frames-read c b bs e (some rs) h = go (leb 1 (length rs)) refl
  where
    go : (p : Bool) → leb 1 (length rs) ≡ p → Read c (when p >> some (record { bad = b; run = record { start = bs; rows = rs } }))
    go true q =
        let l : 1 ≤ length rs = leb-true 1 (length rs) q in
        record {
          frame = length rs - 1;
          few = omega (arith, h.0);
          shaped = record { start = e; frames = omega arith; row = λ u k. h.1 u (omega arith) };
        }
    go false q = tt

run-read : (c : Circuit) (b : ℕ) (f : List ℕ) → Read c (read_run c b f)
unfolding read_run
run-read c b f = go (ltb b (length c.bads)) (bits (length c.latches) f) (bits-shape (length c.latches) f)
  where
    go : (p : Bool) (o : Option (List Bool × List ℕ)) → Line (length c.latches) o
        → Read c (when p >> (o >>= λ s. bit_rows (length c.inputs) 256 s.1 >>= λ rs. when (leb 1 (length rs)) >> some (record { bad = b; run = record { start = s.0; rows = rs } })))
    go true none h = tt
    go true (some s) h = frames-read c b s.0 h (bit_rows (length c.inputs) 256 s.1) (rows-shape (length c.inputs) 256 s.1)
    go false o h = tt

-- a run that was read
pub run-shaped-read : (c : Circuit) (b : ℕ) (f : List ℕ) {w : Witness} → read_run c b f ≡ some w → OfFrames c w
run-shaped-read c b f e = subst (Read c) e (run-read c b f)

-- its bad line
abbrev Bad : ℕ → Option Witness → Type 0
Bad b none = Unit {0}
Bad b (some w) = w.bad ≡ b

bad-read : (c : Circuit) (b : ℕ) (f : List ℕ) → Bad b (read_run c b f)
unfolding read_run
bad-read c b f = go (ltb b (length c.bads)) (bits (length c.latches) f)
  where
    last : (bs : List Bool) (rs : List (List Bool)) (p : Bool) → Bad b (when p >> some (record { bad = b; run = record { start = bs; rows = rs } }))
    last bs rs true = refl
    last bs rs false = tt

    rows : (bs : List Bool) (o : Option (List (List Bool)))
        → Bad b (o >>= λ rs. when (leb 1 (length rs)) >> some (record { bad = b; run = record { start = bs; rows = rs } }))
    rows bs none = tt
    rows bs (some rs) = last bs rs (leb 1 (length rs))

    go : (p : Bool) (o : Option (List Bool × List ℕ))
        → Bad b (when p >> (o >>= λ s. bit_rows (length c.inputs) 256 s.1 >>= λ rs. when (leb 1 (length rs)) >> some (record { bad = b; run = record { start = s.0; rows = rs } })))
    go true none = tt
    go true (some s) = rows s.0 (bit_rows (length c.inputs) 256 s.1)
    go false o = tt

pub run-bad : (c : Circuit) (b : ℕ) (f : List ℕ) (w : Witness) → read_run c b f ≡ some w → w.bad ≡ b
run-bad c b f w e = subst (Bad b) e (bad-read c b f)
