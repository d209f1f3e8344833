-- Rows of bits read one after the other. Assumes nothing.
use mathlib.Core.Path.{◌≡◌, refl, sym, ap, ◌∙◌}
use mathlib.Core.Bool.{Bool, true, false}
use mathlib.Core.List.{List, [], ◌∷◌}
use mathlib.Core.Option.{Option, none, some}
use Prim.Native.Nat.{ℕ, zero, suc, ◌+◌, ◌-◌, ◌*◌, ◌≤◌, ◌<◌}
use native.Mathlib.Nat.{not-suc-le-zero, suc-mul, add-zero}
use native.Mathlib.Decide.{dec_lt}
use native.Mathlib.Numerals.{add-one}
use native.Mathlib.Omega.{arith}
use lib.ListN.{length, get_or, drop}
use Rattle.aiger.specs.Lists.{same}
use Rattle.aiger.specs.Text.{bytes, ◌>>=◌}
use Rattle.aiger.specs.Witness.{bits, bit_rows}
use Rattle.witness.specs.Line.{values, Within}
use Rattle.replay.specs.Texts.{Counted, malformed, well_formed}
use Rattle.replay.specs.declared.Rows.TheVariants.{Read, Malformed}

-- ---- what is read, by the first line that is left

module _ (n : ℕ) (w : List ℕ) where
  pub rows_end : (most : ℕ) → same w (bytes ".\n") ≡ true → bit_rows n most w ≡ some []
  unfolding bit_rows
  rows_end zero e = rw e
  rows_end (suc most) e = simp (bit_rows, e)

  rows-full : same w (bytes ".\n") ≡ false → bit_rows n 0 w ≡ none
  unfolding bit_rows
  rows-full e = rw e

  pub rows-malformed : (most : ℕ) → same w (bytes ".\n") ≡ false → bits n w ≡ none → bit_rows n (suc most) w ≡ none
  unfolding bit_rows
  rows-malformed most e b = simp (bit_rows, e, b)

  pub rows_more : (most : ℕ) (v : List Bool) (rest : List ℕ) → same w (bytes ".\n") ≡ false → bits n w ≡ some (v, rest)
      → bit_rows n (suc most) w ≡ (bit_rows n most rest >>= λ rs. some (v ∷ rs))
  unfolding bit_rows
  rows_more most v rest e b = simp (bit_rows, e, b)

-- ---- the rows by position

module _ (text : List ℕ) (at count : ℕ) where
  abbrev pub row : ℕ → List Bool
  row u = values text (at + u * (count + 1)) count

  -- n rows, and others after them
  abbrev pub before : ℕ → List (List Bool) → List (List Bool)
  before zero rs = rs
  before (suc n) rs = before n (row n ∷ rs)

  before-length : (n : ℕ) (rs : List (List Bool)) → length (before n rs) ≡ n + length rs
  before-length zero rs = omega arith
  before-length (suc n) rs = omega (arith, before-length n (row n ∷ rs))

  before-past : (n i : ℕ) (rs : List (List Bool)) → get_or (before n rs) (n + i) [] ≡ get_or rs i []
  before-past zero i rs = ap (λ (k : ℕ). get_or rs k []) (omega arith)
  before-past (suc n) i rs =
      let e : suc n + i ≡ n + suc i = omega arith in
      ap (λ (k : ℕ). get_or (before n (row n ∷ rs)) k []) e ∙ before-past n (suc i) (row n ∷ rs)

  before_at : (n : ℕ) (rs : List (List Bool)) (u : ℕ) → u < n → get_or (before n rs) u [] ≡ row u
  before_at zero rs u h = absurd (not-suc-le-zero h)
  before_at (suc n) rs u h =
      elim (dec_lt u n) [
        | yes l ↦ before_at n (row n ∷ rs) u l
        | no l ↦
            let e : u ≡ n = omega arith in
            let z : u ≡ n + 0 = omega arith in
            ap (λ (k : ℕ). get_or (before n (row n ∷ rs)) k []) z ∙ before-past n 0 (row n ∷ rs) ∙ ap row (sym e)
      ]

  -- r rows are read, and the next line stands at next
  pub record Turn (next r : ℕ) : Type 0 where
    pub few : r ≤ 256
    pub place : next ≡ at + r * (count + 1)
    pub inside : next ≤ length text
    pub read : bit_rows count 256 (drop at text) ≡ (bit_rows count (256 - r) (drop next text) >>= λ rs. some (before r rs))

  whole : (o : Option (List (List Bool))) → o ≡ (o >>= λ rs. some (before 0 rs))
  whole none = refl
  whole (some rs) = refl

  pub begin : at ≤ length text → Turn at 0
  begin h = record { few = omega arith; place = omega arith; inside = h; read = whole (bit_rows count 256 (drop at text)) }

  shift : (v : List Bool) (n : ℕ) (o : Option (List (List Bool)))
      → ((o >>= λ rs. some (v ∷ rs)) >>= λ rs. some (before n rs)) ≡ (o >>= λ rs. some (before n (v ∷ rs)))
  shift v n none = refl
  shift v n (some rs) = refl

  module _ {next r : ℕ} (t : Turn next r) where
    ending : bit_rows count (256 - r) (drop next text) ≡ some [] → Counted text at count (Read r)
    ending e =
        well_formed
        (record {
          rows = before r [];
          read = t.read ∙ ap (λ (o : Option (List (List Bool))). o >>= λ rs. some (before r rs)) e;
          size = before-length r [] ∙ add-zero r;
          row = before_at r [];
          inside = omega (arith, t.place, t.inside);
        })

    nothing : bit_rows count (256 - r) (drop next text) ≡ none → Counted text at count Malformed
    nothing e = malformed (t.read ∙ ap (λ (o : Option (List (List Bool))). o >>= λ rs. some (before r rs)) e)

    -- the line that ends the text
    pub ended : same (drop next text) (bytes ".\n") ≡ true → Counted text at count (Read r)
    ended e = ending (rows_end count (drop next text) (256 - r) e)

    -- 256 rows, and another line after them
    pub full : 256 ≤ r → same (drop next text) (bytes ".\n") ≡ false → Counted text at count Malformed
    full h e =
        let z : 256 - r ≡ 0 = omega arith in
        nothing (ap (λ (n : ℕ). bit_rows count n (drop next text)) z ∙ rows-full count (drop next text) e)

    module _ (h : r < 256) (e : same (drop next text) (bytes ".\n") ≡ false) where
      left : 256 - r ≡ suc (256 - (r + 1))
      left = omega arith

      -- a line that is no row
      pub no_row : bits count (drop next text) ≡ none → Counted text at count Malformed
      no_row b =
          nothing (ap (λ (n : ℕ). bit_rows count n (drop next text)) left ∙ rows-malformed count (drop next text) (256 - (r + 1)) e b)

      -- a row
      pub more : {after : ℕ} → bits count (drop next text) ≡ some (values text next count, drop after text) → Within text next count after → Turn after (r + 1)
      more {after} b w =
          let most = 256 - (r + 1) in
          let o = bit_rows count most (drop after text) in
          let v : values text next count ≡ row r = ap (λ (p : ℕ). values text p count) t.place in
          let s : (r + 1) * (count + 1) ≡ r * (count + 1) + (count + 1) = ap (λ (n : ℕ). n * (count + 1)) (add-one r) ∙ suc-mul r (count + 1) in
          record {
            few = omega arith;
            place = omega (arith, w.past, t.place);
            inside = w.inside;
            read =
                t.read
                ∙ ap (λ (n : ℕ). bit_rows count n (drop next text) >>= λ rs. some (before r rs)) left
                ∙ ap (λ (q : Option (List (List Bool))). q >>= λ rs. some (before r rs)) (rows_more count (drop next text) most (values text next count) (drop after text) e b)
                ∙ shift (values text next count) r o
                ∙ ap (λ (x : List Bool). o >>= λ rs. some (before r (x ∷ rs))) v
                ∙ ap (λ (n : ℕ). o >>= λ rs. some (before n rs)) (sym (add-one r));
          }
