-- The bits of a run that was read, by their positions in the text. Assumes nothing.
use mathlib.Core.Path.{◌≡◌, refl, sym, ap, ◌∙◌, subst}
use mathlib.Core.Bool.{Bool, true, false, ◌||◌}
use mathlib.Core.List.{List, [], ◌∷◌}
use mathlib.Core.Option.{Option, none, some}
use Prim.Native.Nat.{ℕ, zero, suc, ◌+◌, ◌*◌, ◌<◌}
use native.Mathlib.Nat.{not-suc-le-zero, suc-mul, le_of_suc-le-suc}
use native.Mathlib.Omega.{arith}
use lib.Dec.{leb, ltb, eqb}
use lib.ListN.{length, get_or, drop}
use lib.Seq.{get_or-drop}
use Rattle.aiger.specs.Lists.{same}
use Rattle.aiger.specs.Text.{bytes, when, ◌>>=◌, ◌>>◌}
use Rattle.aiger.specs.Circuit.{Circuit}
use Rattle.aiger.specs.Witness.{Witness, bits, bit_rows, read_run}
use Rattle.replay.proofs.Lines.{rows_end, rows-malformed, rows_more}

-- a line of n bits, if one was read
pub record LineRead (n : ℕ) (w : List ℕ) (bs : List Bool) (f : List ℕ) : Type 0 where
  pub bit : (i : ℕ) → i < n → get_or bs i false ≡ eqb (get_or w i 0) 49
  pub rest : f ≡ drop (suc n) w

abbrev Line : ℕ → List ℕ → Option (List Bool × List ℕ) → Type 0
Line n w none = Unit {0}
Line n w (some r) = LineRead n w r.0 r.1

bits-read : (n : ℕ) (w : List ℕ) → Line n w (bits n w)
unfolding bits
bits-read n [] = tt
bits-read zero (c ∷ w) = go (eqb c 10)
  where
    go : (b : Bool) → Line 0 (c ∷ w) (when b >> some ([], w))
    go true = record { bit = λ i h. absurd (not-suc-le-zero h); rest = refl }
    go false = tt
bits-read (suc n) (c ∷ w) = go (eqb c 48 || eqb c 49) (bits n w) (bits-read n w)
  where
    at : (bs : List Bool) → ((i : ℕ) → i < n → get_or bs i false ≡ eqb (get_or w i 0) 49) → (i : ℕ) → i < suc n
        → get_or (eqb c 49 ∷ bs) i false ≡ eqb (get_or (c ∷ w) i 0) 49
    at bs h zero l = refl
    at bs h (suc i) l = h i (le_of_suc-le-suc l)

    go : (b : Bool) (o : Option (List Bool × List ℕ)) → Line n w o
        → Line (suc n) (c ∷ w) (when b >> (o >>= λ r. some (eqb c 49 ∷ r.0, r.1)))
    go true none h = tt
    go true (some r) h = record { bit = at r.0 h.bit; rest = h.rest }
    go false o h = tt

-- rows of n bits, if they were read
abbrev RowsRead : ℕ → List ℕ → List (List Bool) → Type 0
RowsRead n w rs = (u i : ℕ) → u < length rs → i < n → get_or (get_or rs u []) i false ≡ eqb (get_or w (u * (n + 1) + i) 0) 49

abbrev Rows : ℕ → List ℕ → Option (List (List Bool)) → Type 0
Rows n w none = Unit {0}
Rows n w (some rs) = RowsRead n w rs

no_rows : (n : ℕ) (w : List ℕ) → RowsRead n w []
no_rows n w u i h l = absurd (not-suc-le-zero h)

row_more : (n : ℕ) (w : List ℕ) (v : List Bool) (f : List ℕ) (o : Option (List (List Bool))) → LineRead n w v f → Rows n f o
    → Rows n w (o >>= λ rs. some (v ∷ rs))
row_more n w v f none e h = tt
row_more n w v f (some rs) e h = at
  where
    at : RowsRead n w (v ∷ rs)
    at zero i l k =
        let q : i ≡ 0 * (n + 1) + i = omega arith in
        e.bit i k ∙ ap (λ (p : ℕ). eqb (get_or w p 0) 49) q
    at (suc u) i l k =
        let q : suc n + (u * (n + 1) + i) ≡ suc u * (n + 1) + i = omega (arith, suc-mul u (n + 1)) in
        h u i (le_of_suc-le-suc l) k ∙ ap (λ (x : List ℕ). eqb (get_or x (u * (n + 1) + i) 0) 49) e.rest
        ∙ ap (λ (x : ℕ). eqb x 49) (get_or-drop (suc n) w (u * (n + 1) + i) 0) ∙ ap (λ (p : ℕ). eqb (get_or w p 0) 49) q

rows-read : (n most : ℕ) (w : List ℕ) → Rows n w (bit_rows n most w)
unfolding bit_rows
rows-read n zero w = go (same w (bytes ".\n"))
  where
    go : (b : Bool) → Rows n w (when b >> some [])
    go true = no_rows n w
    go false = tt
rows-read n (suc most) w = go (same w (bytes ".\n")) refl (bits n w) refl (bits-read n w) (rows-read n most)
  where
    go : (b : Bool) → same w (bytes ".\n") ≡ b → (o : Option (List Bool × List ℕ)) → bits n w ≡ o → Line n w o
        → ((f : List ℕ) → Rows n f (bit_rows n most f)) → Rows n w (bit_rows n (suc most) w)
    go true e o q h k = subst (Rows n w) (sym (rows_end n w (suc most) e)) (no_rows n w)
    go false e none q h k = subst (Rows n w) (sym (rows-malformed n w most e q)) tt
    go false e (some r) q h k =
        subst (Rows n w) (sym (rows_more n w most r.0 r.1 e q)) (row_more n w r.0 r.1 (bit_rows n most r.1) h (k r.1))

-- the lines after line `b`, if they were read
pub record RunRead (c : Circuit) (w : List ℕ) (x : Witness) : Type 0 where
  pub start : (j : ℕ) → j < length c.latches → get_or x.run.start j false ≡ eqb (get_or w j 0) 49
  pub row : (u i : ℕ) → u < length x.run.rows → i < length c.inputs
      → get_or (get_or x.run.rows u []) i false ≡ eqb (get_or w (suc (length c.latches) + (u * (length c.inputs + 1) + i)) 0) 49

abbrev Read : Circuit → List ℕ → Option Witness → Type 0
Read c w none = Unit {0}
Read c w (some x) = RunRead c w x

run-read : (c : Circuit) (b : ℕ) (w : List ℕ) → Read c w (read_run c b w)
unfolding read_run
run-read c b w = go (ltb b (length c.bads)) (bits (length c.latches) w) (bits-read (length c.latches) w)
  where
    last : (s : List Bool × List ℕ) (rs : List (List Bool)) → LineRead (length c.latches) w s.0 s.1
        → RowsRead (length c.inputs) s.1 rs → (p : Bool)
        → Read c w (when p >> some (record { bad = b; run = record { start = s.0; rows = rs } }))
    last s rs e h true =
        record {
          start = e.bit;
          row = λ u i l k.
              h u i l k ∙ ap (λ (x : List ℕ). eqb (get_or x (u * (length c.inputs + 1) + i) 0) 49) e.rest
              ∙ ap (λ (x : ℕ). eqb x 49) (get_or-drop (suc (length c.latches)) w (u * (length c.inputs + 1) + i) 0);
        }
    last s rs e h false = tt

    rows : (s : List Bool × List ℕ) (o : Option (List (List Bool))) → LineRead (length c.latches) w s.0 s.1
        → Rows (length c.inputs) s.1 o
        → Read c w (o >>= λ rs. when (leb 1 (length rs)) >> some (record { bad = b; run = record { start = s.0; rows = rs } }))
    rows s none e h = tt
    rows s (some rs) e h = last s rs e h (leb 1 (length rs))

    go : (p : Bool) (o : Option (List Bool × List ℕ)) → Line (length c.latches) w o
        → Read c w (when p >> (o >>= λ s. bit_rows (length c.inputs) 256 s.1 >>= λ rs. when (leb 1 (length rs)) >> some
        (record { bad = b; run = record { start = s.0; rows = rs } })))
    go true none h = tt
    go true (some s) h = rows s (bit_rows (length c.inputs) 256 s.1) h (rows-read (length c.inputs) 256 s.1)
    go false o h = tt

-- a run that was read
pub read-bits : (c : Circuit) (b : ℕ) (w : List ℕ) (x : Witness) → read_run c b w ≡ some x → RunRead c w x
read-bits c b w x e = subst (Read c w) e (run-read c b w)
