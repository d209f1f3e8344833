-- The table of sections and the layout: each section begins where the one before it ends. Assumes nothing.
use mathlib.Core.Path.{◌≡◌, subst}
use mathlib.Core.List.{List, ◌∷◌}
use Prim.Native.Nat.{ℕ, zero, suc, ◌+◌, ◌*◌, ◌≤◌, ◌<◌}
use native.Mathlib.Omega.{arith}
use lib.ListN.{drop}
use lib.Seq.{drop-cons}
use Rattle.layout.specs.Layout.{LayoutOf, PlacesOf, with_starts}
use Rattle.layout.specs.Words.{content_end}
use Rattle.layout.specs.Table.{table, section_at, Chained}
use Rattle.layout.specs.declared.Layout.{Layout}
use Rattle.layout.specs.declared.Section.{Section}

-- a layout with its U has the counts and positions
pub places : {m : List ℕ} {p : Layout} → LayoutOf m p → PlacesOf m p
places {m} {p} l = subst (λ (u : ℕ). LayoutOf m (with_starts p u)) l.u-is l

-- the sections of a layout, from the word after the counts to its end
pub chained : {m : List ℕ} (p : Layout) → PlacesOf m p → Chained (table p) 7 p.end
chained p q =
    let latches : p.latches ≡ 7 + p.i * 1 = omega (arith, q) in
    let outputs : p.outputs ≡ 7 + p.i * 1 + p.l * 3 = omega (arith, q) in
    let bads : p.bads ≡ 7 + p.i * 1 + p.l * 3 + p.o * 1 = omega (arith, q) in
    (omega arith, (latches, (outputs, (bads, (omega (arith, q), (omega (arith, q), omega (arith, q)))))))

-- the sections from section k on
pub from-section : (p : Layout) (k : ℕ) → k < 6 → drop k (table p) ≡ section_at p k ∷ drop (suc k) (table p)
from-section p k h = drop-cons (table p) k _ h

-- a section has one to three words a row, and lies within so many words
pub record Inside (t : Section) (len : ℕ) : Type 0 where
  pub some_word : 0 < t.most
  pub wide : t.most ≤ 3
  pub least-most : t.least ≤ t.most
  pub ends : t.at + t.rows * t.most ≤ len

pub section-inside : {m : List ℕ} {len : ℕ} (p : Layout) (k : ℕ) → k < 6 → PlacesOf m p → content_end m ≤ len → Inside (section_at p k) len
section-inside p zero h q l =
    record { some_word = omega arith; wide = omega arith; least-most = omega arith; ends = omega (arith, q) }
section-inside p (suc zero) h q l =
    record { some_word = omega arith; wide = omega arith; least-most = omega arith; ends = omega (arith, q) }
section-inside p (suc (suc zero)) h q l =
    record { some_word = omega arith; wide = omega arith; least-most = omega arith; ends = omega (arith, q) }
section-inside p (suc (suc (suc zero))) h q l =
    record { some_word = omega arith; wide = omega arith; least-most = omega arith; ends = omega (arith, q) }
section-inside p (suc (suc (suc (suc zero)))) h q l =
    record { some_word = omega arith; wide = omega arith; least-most = omega arith; ends = omega (arith, q) }
section-inside p (suc (suc (suc (suc (suc zero))))) h q l =
    record { some_word = omega arith; wide = omega arith; least-most = omega arith; ends = omega (arith, q) }
section-inside p (suc (suc (suc (suc (suc (suc k)))))) h q l = absurd (omega arith)
