-- The way back from a record, row by row. Assumes nothing.
use mathlib.Core.Path.{◌≡◌, refl, sym, ap, ◌∙◌, subst}
use mathlib.Core.List.{List}
use Prim.Native.Nat.{ℕ, zero, suc, ◌+◌, ◌-◌, ◌*◌, ◌≤◌, ◌<◌}
use native.Mathlib.Numerals.{add-one}
use native.Mathlib.Omega.{arith}
use lib.ListN.{length, get_or, set}
use lib.Seq.{get_or-set_same, get_or-set_other}
use Rattle.states.specs.Table.{field}
use Rattle.states.specs.Trace.{Trace}
use Rattle.traces.specs.Digits.{Digits}

-- the words from u + 1 to top of another trace are these
abbrev pub Above : List ℕ → List ℕ → ℕ → ℕ → Type 0
Above trace other u top = (j : ℕ) → u < j → j ≤ top → get_or other j 0 ≡ get_or trace j 0

-- where words u + 1 to t + 1 are found, and record i is to be treated as that of frame u
pub record Back (rows width : ℕ) (records trace : List ℕ) (t i u x : ℕ) : Type 0 where
  pub prefix : ℕ
  pub trace-of : Trace rows width records u i prefix
  pub whole : (other : List ℕ) → Above trace other u (suc t) → Digits rows other u prefix → Digits rows other (suc t) x

module _ (rows width : ℕ) (records : List ℕ) (t : ℕ) where
  pub back_start : (trace : List ℕ) (e row y : ℕ) → t + 1 < length trace → Trace rows width records t e y → row < rows
      → Back rows width records (set trace (t + 1) row) t e t (y * rows + row)
  unfolding Digits
  back_start trace e row y l h k =
      record {
        prefix = y;
        trace-of = h;
        whole = λ other a d.
            let g : get_or other (suc t) 0 ≡ row =
            a (suc t) (omega arith) (omega arith) ∙ ap (λ (n : ℕ). get_or (set trace (t + 1) row) n 0) (sym (add-one t)) ∙ get_or-set_same
            trace (t + 1) row 0 l in
            (omega arith, (y, d, omega arith));
      }

  -- what is known of the record at hand
  pub back-parent : (u : ℕ) {trace : List ℕ} {i x : ℕ} → 0 < u → Back rows width records trace t i u x → field width records i 2 < i
  unfolding Trace
  back-parent zero l b = absurd (omega arith)
  back-parent (suc u) l b = b.trace-of.0

  back_step : (trace : List ℕ) (i u x y : ℕ) → suc u < length trace → u < t → Trace rows width records (suc u) i y
      → ((other : List ℕ) → Above trace other (suc u) (suc t) → Digits rows other (suc u) y → Digits rows other (suc t) x)
      → Back rows width records (set trace (suc u) (field width records i 3)) t (field width records i 2) u x
  unfolding Trace Digits
  back_step trace i u x y k w (p, r, (z, h, e)) f =
      record {
        prefix = z;
        trace-of = h;
        whole = λ other a d.
            let g : get_or other (suc u) 0 ≡ field width records i 3 =
            a (suc u) (omega arith) (omega arith) ∙ get_or-set_same trace (suc u) (field width records i 3) 0 k in
            f other (λ j l m. a j (omega arith) m ∙ get_or-set_other trace (suc u) j (field width records i 3) 0 (λ q. omega arith)) (
              omega
                  arith,
              (z, d, omega arith),
            );
      }

  pub back_more : (trace : List ℕ) (i u x : ℕ) → 0 < u → u < length trace → u ≤ t → Back rows width records trace t i u x
      → Back rows width records (set trace u (field width records i 3)) t (field width records i 2) (u - 1) x
  back_more trace i zero x l k w b = absurd (omega arith)
  back_more trace i (suc u) x l k w b =
      subst (λ (n : ℕ). Back rows width records (set trace (suc u) (field width records i 3)) t (field width records i 2) n x) {x = u} {y
      = suc u - 1} (omega arith)
      (back_step trace i u x b.prefix k (omega arith) b.trace-of b.whole)

  -- the start place
  pub back_end : (trace : List ℕ) (i u x : ℕ) → u ≡ 0 → 0 < length trace → Back rows width records trace t i u x → Digits rows (set trace
      0 (field width records i 3)) (suc t) x
  unfolding Trace Digits
  back_end trace i zero x e l b =
      b.whole (set trace 0 (field width records i 3)) (λ j k m. get_or-set_other trace 0 j (field width records i 3) 0 (λ q. omega arith))
      (b.trace-of ∙ sym (get_or-set_same trace 0 (field width records i 3) 0 l))
  back_end trace i (suc u) x e l b = absurd (omega arith)
