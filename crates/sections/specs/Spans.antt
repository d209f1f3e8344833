-- What reading the lines of sections, one section after the other, answers and stores. Assumes nothing.
use Rattle.std.specs.Prelude as std
use Rattle.std.specs.Prelude.{◌≡◌, Bool, true, ◌&&◌, List, [], ◌∷◌, ℕ, ◌+◌, ◌*◌, drop}
use Rattle.std.proofs.Math.Option.{none, some}
use Rattle.aiger.specs.Text.{rows}
use Rattle.layout.specs.declared.Section.{Section}
use Rattle.lines.specs.Lines.{RowsRead, RowsAt}
use Rattle.lines.specs.declared.Rows.{Rows}

-- the word past a section
abbrev pub section_end : Section → ℕ
section_end t = t.at + t.rows * t.most

-- the lines of one section
abbrev pub SectionAt : List ℕ → ℕ → Section → ℕ → List ℕ → List ℕ → std.Option Rows → Type 0
SectionAt s at t limit w w₁ r = RowsAt s at t.least t.most t.rows limit w t.at w₁ r

-- Clause 1.4: the lines of the sections are read one section after the other, from `at` on into w, where what stood before them passed the
-- test f: they end at n and pass the test f', and where
-- every number is within the limit they leave w'
pub data SpanRead (s : List ℕ) (limit n : ℕ) (w' : List ℕ) (f' : Bool) : List Section → ℕ → List ℕ → Bool → Type 0 where
  done : SpanRead s limit n w' f' [] n w' f'
  more : {t : Section} {ts : List Section} {at : ℕ} {w : List ℕ} {f : Bool} {w₁ : List ℕ} {a₁ : ℕ} {f₁ : Bool}
      → RowsRead s at t.least t.most t.rows limit w t.at w₁ a₁ f₁ → SpanRead s limit n w' f' ts a₁ w₁ (f && f₁)
      → SpanRead s limit n w' f' (t ∷ ts) at w f

-- Clause 1.4: a section has a malformed line, and those before it are read
pub data Stops (s : List ℕ) : List Section → ℕ → Type 0 where
  here : {t : Section} {ts : List Section} {at : ℕ} → rows t.least t.most t.rows (drop at s) ≡ none → Stops s (t ∷ ts) at
  later : {t : Section} {ts : List Section} {at : ℕ} (ls : List (List ℕ)) (next : ℕ)
      → rows t.least t.most t.rows (drop at s) ≡ some (ls, drop next s) → Stops s ts next → Stops s (t ∷ ts) at

-- the lines of the sections ts stand from `at` on, or one is malformed
abbrev pub SpanAt : List ℕ → ℕ → List Section → ℕ → List ℕ → List ℕ → std.Option Rows → Type 0
SpanAt s at ts limit w w₁ (std.Some r) = SpanRead s limit r.next w₁ r.fits ts at w true
SpanAt s at ts limit w w₁ std.None = Stops s ts at
