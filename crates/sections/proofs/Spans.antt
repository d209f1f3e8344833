-- Sections of the table read one after the other, a section at a time. Assumes nothing.
use mathlib.Core.Path.{◌≡◌, refl, ◌∙◌}
use mathlib.Core.Bool.{Bool, true, ◌&&◌}
use mathlib.Core.List.{List, ◌∷◌}
use Prim.Native.Nat.{ℕ, suc, ◌+◌, ◌≤◌, ◌<◌}
use native.Mathlib.Numerals.{add-one}
use lib.ListN.{length}
use lib.Seq.{slice, slice-cons, slice_empty}
use Rattle.layout.specs.declared.Layout.{Layout}
use Rattle.layout.specs.Table.{table, section_at}
use Rattle.std.specs.Prelude.{Some, None}
use Rattle.sections.specs.Spans.{SectionAt, SpanRead, Stops}

-- the sections before section k are read: where those from it up to `end` stop all do, and where they are read all are
pub record Reached (s : List ℕ) (at : ℕ) (p : Layout) (first end limit : ℕ) (w : List ℕ) (k next : ℕ) (fit : Bool) (w₁ : List ℕ)
    : Type 0 where
  pub inside : next ≤ length s
  pub size : length w₁ ≡ length w
  pub stops : Stops s (slice k end (table p)) next → Stops s (slice first end (table p)) at
  pub runs : (n : ℕ) (w' : List ℕ) (f' : Bool) → SpanRead s limit n w' f' (slice k end (table p)) next w₁ fit
      → SpanRead s limit n w' f' (slice first end (table p)) at w true

pub reached-none : (s : List ℕ) (at : ℕ) (p : Layout) (first end limit : ℕ) (w : List ℕ) → at ≤ length s
    → Reached s at p first end limit w first at true w
reached-none s at p first end limit w h = record { inside = h; size = refl; stops = λ x. x; runs = λ n w' f' r. r }

module _ {s : List ℕ} {at : ℕ} {p : Layout} {first end limit : ℕ} {w : List ℕ} {k next : ℕ} {fit : Bool} {w₁ : List ℕ}
    (r : Reached s at p first end limit w k next fit w₁)
  where
    module _ (h : k < end) (l : end ≤ 6) where
      others : slice k end (table p) ≡ section_at p k ∷ slice (suc k) end (table p)
      others = slice-cons k end (table p) _ h l

      -- section k is read
      pub reached-more : {w₂ : List ℕ} {after : ℕ} {ok : Bool} → SectionAt s next (section_at p k) limit w₁ w₂ (Some (record { next = after; fits = ok }))
          → length w₂ ≡ length w₁ → Reached s at p first end limit w (k + 1) after (fit && ok) w₂
      reached-more {after = after} q e =
          rw (add-one k)
          (record {
            inside = q.inside;
            size = e ∙ r.size;
            stops = λ x. r.stops (rw others (Stops.later q.lines after q.meaning x));
            runs = λ n w' f' y. r.runs n w' f' (rw others (SpanRead.more q y));
          })

      -- it is malformed
      pub reached-stops : (w₂ : List ℕ) → SectionAt s next (section_at p k) limit w₁ w₂ None → Stops s (slice first end (table p)) at
      reached-stops w₂ q = r.stops (rw others (Stops.here q))

    -- all sections are read
    pub reached-all : k ≡ end → SpanRead s limit next w₁ fit (slice first end (table p)) at w true
    reached-all e = r.runs next w₁ fit (rw (e, slice_empty end (table p)) SpanRead.done)
