-- With all pins free replay and widening are what they are without pins. Clause 12.7. Assumes nothing.
use mathlib.Core.Path.{◌≡◌, refl, sym, ap, ◌∙◌, subst}
use mathlib.Core.Bool.{Bool, true, false, cond, ◌&&◌}
use mathlib.Core.List.{List, [], ◌∷◌, ◌++◌}
use lib.ListN.{length, take}
use mathlib.Core.Option.{Option, none, some}
use Prim.Native.Nat.{ℕ, suc, ◌-◌}
use Rattle.aiger.specs.Lists.{every}
use Rattle.aiger.specs.Circuit.{Circuit}
use Rattle.aiger.specs.Load.{Answer}
use Rattle.aiger.specs.Witness.{Witness, read_run, confirms}
use Rattle.aiger.specs.Operations.{Operated, front}
use Rattle.completions.specs.Either.{shows}
use Rattle.completions.specs.Operations.{EitherReplayed, Widened}
use Rattle.pins.specs.Pins.{is_held}
use Rattle.pinned_runs.specs.Obeys.{obeys_row, obeys, pinned_shows, PinnedReplayed, PinnedWidened, pinned_widened_text}
use Rattle.completions.specs.Either.{Verdict, verdict, widened, widened_text}

module _ (q : ℕ → ℕ) (free : (i : ℕ) → is_held (q i) ≡ false) where
  row-free : (i : ℕ) (row : List Bool) → obeys_row q i row ≡ true
  unfolding obeys_row
  row-free i [] = refl
  row-free i (v ∷ vs) = rw (free i) (row-free (suc i) vs)

  rows-free : (rows : List (List Bool)) → every (obeys_row q 0) rows ≡ true
  rows-free [] = refl
  rows-free (r ∷ rs) = rw (row-free 0 r) (rows-free rs)

  and-true : (a b : Bool) → b ≡ true → (a && b) ≡ a
  and-true true b e = e
  and-true false b e = refl

  pub shows-free : (c : Circuit) (b : ℕ) → pinned_shows c q b ≡ shows c b
  unfolding pinned_shows shows obeys
  shows-free c b = λ j w. go (read_run c b w) j
    where
      go : (o : Option Witness)
          → ◌≡◌ {A = Bool} (elim o [ none ↦ false | some x ↦ confirms c x && every (obeys_row q 0) x.run.rows ])
          (elim o [ none ↦ false | some x ↦ confirms c x ])
      go none = refl
      go (some x) = and-true (confirms c x) (every (obeys_row q 0) x.run.rows) (rows-free x.run.rows)

  pub replayed-free : {m text : List ℕ} {a : Answer Verdict} → PinnedReplayed m q text a → EitherReplayed m text a
  replayed-free (Operated.no_circuit h) = Operated.no_circuit h
  replayed-free (Operated.refuses c h j) = Operated.refuses c h j
  replayed-free (Operated.acts c h j e) =
      Operated.acts c h j
      (record {
        bad = e.bad;
        body = e.body;
        reads = e.reads;
        judged = e.judged ∙ ap (λ (p : List ℕ → Bool). verdict p e.body) (shows-free c e.bad);
      })

  pub widened-free : {m text out left : List ℕ} {a : Answer ℕ} → PinnedWidened m q text out a left → Widened m text out a left
  unfolding pinned_widened_text widened_text
  widened-free (Operated.no_circuit h) = Operated.no_circuit h
  widened-free (Operated.refuses c h j) = Operated.refuses c h j
  widened-free {text = text} {out = out} (Operated.acts c h j e) =
      Operated.acts c h j
      (record {
        bad = e.bad;
        body = e.body;
        reads = e.reads;
        count = e.count;
        writes =
            e.writes
            ∙ ap (λ (p : List ℕ → Bool). front (take (length text - length e.body) text ++ widened p e.body) out) (shows-free c e.bad);
      })
