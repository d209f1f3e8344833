-- The forms of the lines of the table's sections, and a section read by a form. Assumes nothing.
use mathlib.Core.Path.{◌≡◌, refl, sym, subst}
use mathlib.Core.Logic.{◌≢◌}
use mathlib.Core.List.{List}
use Prim.Native.Nat.{ℕ, zero, suc, ◌+◌, ◌*◌, ◌≤◌, ◌<◌}
use native.Mathlib.Omega.{arith}
use Rattle.layout.specs.declared.Layout.{Layout}
use Rattle.layout.specs.declared.Section.{Section}
use Rattle.layout.specs.Table.{section_at}
use Rattle.lines.specs.Lines.{RowsAt}
use Rattle.lines.specs.declared.Rows.{Rows}
use Rattle.std.specs.Prelude.{Option}
use Rattle.sections.specs.Spans.{section_end, SectionAt}

-- how many numbers a line has at least and at most: that of a literal, of a latch and of a gate
data Widths : ℕ → ℕ → Type 0 where
  literal : Widths 1 1
  latch : Widths 2 3
  gate : Widths 3 3

widths : (p : Layout) (k : ℕ) → k < 6 → Widths (section_at p k).least (section_at p k).most
widths p zero h = literal
widths p (suc zero) h = latch
widths p (suc (suc zero)) h = literal
widths p (suc (suc (suc zero))) h = literal
widths p (suc (suc (suc (suc zero)))) h = literal
widths p (suc (suc (suc (suc (suc zero))))) h = gate
widths p (suc (suc (suc (suc (suc (suc k)))))) h = absurd (omega arith)

most-one : {a b : ℕ} → Widths a b → a ≡ 1 → b ≡ 1
most-one literal e = refl
most-one latch e = absurd (omega (arith, e))
most-one gate e = absurd (omega (arith, e))

most-two : {a b : ℕ} → Widths a b → a ≡ 2 → b ≡ 3
most-two literal e = absurd (omega (arith, e))
most-two latch e = refl
most-two gate e = absurd (omega (arith, e))

others : {a b : ℕ} → Widths a b → a ≢ 1 → a ≢ 2 → (a ≡ 3) × (b ≡ 3)
others literal n m = absurd (n refl)
others latch n m = absurd (m refl)
others gate n m = (refl, refl)

-- section k of the table, as u, with lines of this form
pub record Formed (p : Layout) (k : ℕ) (u : Section) (least most : ℕ) : Type 0 where
  pub section : u ≡ section_at p k
  pub least-is : u.least ≡ least
  pub most-is : u.most ≡ most

module _ (p : Layout) (k : ℕ) (h : k < 6) (u : Section) (e : u ≡ section_at p k) where
  form : Widths u.least u.most
  form = subst (λ (t : Section). Widths t.least t.most) (sym e) (widths p k h)

  pub form-one : u.least ≡ 1 → Formed p k u 1 1
  form-one i = record { section = e; least-is = i; most-is = most-one form i }

  pub form-two : u.least ≡ 2 → Formed p k u 2 3
  form-two i = record { section = e; least-is = i; most-is = most-two form i }

  pub form-three : u.least ≢ 1 → u.least ≢ 2 → Formed p k u 3 3
  form-three n m = let o = others form n m in record { section = e; least-is = o.0; most-is = o.1 }

module _ {p : Layout} {k : ℕ} {u : Section} {least most : ℕ} (f : Formed p k u least most) where
  -- its words end within so many
  pub form-room : {n : ℕ} → section_end (section_at p k) ≤ n → u.at + u.rows * most ≤ n
  form-room {n} h =
      subst (λ (j : ℕ). u.at + u.rows * j ≤ n) f.most-is (subst (λ (t : Section). section_end t ≤ n) (sym f.section) h)

  -- what its lines answer is what the section answers
  pub form-at : (s : List ℕ) (at limit : ℕ) (w w₁ : List ℕ) (r : Option Rows) → RowsAt s at least most u.rows limit w u.at w₁ r
      → SectionAt s at (section_at p k) limit w w₁ r
  form-at s at limit w w₁ r q =
      subst (λ (t : Section). SectionAt s at t limit w w₁ r) f.section
      (subst (λ (a : ℕ). RowsAt s at a u.most u.rows limit w u.at w₁ r) (sym f.least-is)
      (subst (λ (b : ℕ). RowsAt s at least b u.rows limit w u.at w₁ r) (sym f.most-is) q))
