-- From the answer of the search of the pinned circuit from a place to the answer for the user. Assumes nothing.
use mathlib.Core.Path.{◌≡◌, refl, sym, ap, ap₂, ◌∙◌, subst}
use mathlib.Core.Bool.{Bool}
use mathlib.Core.List.{List, [], ◌∷◌, ◌++◌}
use Prim.Native.Nat.{ℕ, ◌+◌, ◌-◌, ◌^◌, ◌≤◌, ◌<◌}
use native.Mathlib.Omega.{arith}
use lib.Dec.{T}
use lib.ListN.{length, take, drop, length-append}
use lib.Seq.{length-take-le}
use Rattle.aiger.specs.Text.{digits}
use Rattle.aiger.specs.Circuit.{Circuit}
use Rattle.aiger.specs.Frames.{free_bits, run}
use Rattle.aiger.specs.Load.{Answer, refused, gives}
use Rattle.aiger.specs.Memory.{Holds}
use Rattle.aiger.specs.Search.{Question, Outcome, Report, question, reaches}
use Rattle.aiger.specs.Witness.{witness, witness_length}
use Rattle.aiger.specs.Operations.{front, judge, Operated}
use Rattle.aiger.proofs.Tests.{T_true}
use Rattle.layout.specs.Words.{circuit_in}
use Rattle.layout.specs.declared.Layout.{Layout}
use Rattle.roundtrip.proofs.Witness.{run_length}
use Rattle.roundtrip.proofs.Holding.{held-valid}
use Rattle.limits.specs.Limits.{Limited, length_of}
use Rattle.limits.proofs.Sizes.{counts_of, limited, length-is}
use Rattle.pins.specs.Pins.{pins_of, pinned, pinned_question}
use Rattle.pins.proofs.Questions.{pinned-question}
use Rattle.expansion.specs.Rows.{rows_text, expanded}
use Rattle.expansion.proofs.Witnesses.{rows_at, length-rows, expanded-run}
use Rattle.pinning.specs.FromPlace.{pinned_text_at, PinnedPlaceEffect, PinnedSearchedFrom}
use Rattle.pinning.proofs.Tests.{acts-only, length-pinned}
use Rattle.pinning.proofs.FromPlace.{place-pinned}
use Rattle.place_search.specs.Places.{Placed, answers}
use Rattle.place_search.specs.Operation.{place_tests, PlaceSearched, report_of, shown_at, shown_from}
use Rattle.place_limits.proofs.Passing.{PlacePassed, place-passed}
use Rattle.place_decision.specs.Reach.{place_chosen}
use Rattle.search.specs.Chosen.{found_report, none_report, spent_report, said}
use Rattle.search.specs.declared.SearchAnswer.{SearchAnswer}
use Rattle.search.specs.declared.SearchAnswer.TheVariants.{Found, Nothing, Spent, Refused}
use Rattle.pinned_search.specs.Steps.{rows_start, FullFits, InFull}
use Rattle.pinned_search.proofs.Answers.{over}
use Rattle.pinned_search_from.specs.Steps.{PinnedFromFits, chosen_under, AllowedUnder, FromTextIs, FromOutputIs}

-- ---- answers that differ

same_outcome : {r s : Report} → ◌≡◌ {A = Answer Report} (gives r) (gives s) → r.outcome ≡ s.outcome
same_outcome {r} {s} e = let z : r ≡ s = cc in ap (λ (x : Report). x.outcome) z

found-frame : {t u : ℕ} → Outcome.found u ≡ Outcome.found t → u ≡ t
found-frame e = cc

found_none : {t u : ℕ} → Outcome.found t ≡ Outcome.none u → ⊥
found_none e = let z : ◌≡◌ {A = ℕ} 0 1 = cc in omega arith

found-spent : {t u : ℕ} → Outcome.found t ≡ Outcome.spent u → ⊥
found-spent e = let z : ◌≡◌ {A = ℕ} 0 1 = cc in omega arith

none-spent : {t u : ℕ} → Outcome.none t ≡ Outcome.spent u → ⊥
none-spent e = let z : ◌≡◌ {A = ℕ} 0 1 = cc in omega arith

refused-gives : {n : ℕ} {r : Report} → refused n ≡ gives r → ⊥
refused-gives e = let z : ◌≡◌ {A = ℕ} 0 1 = cc in omega arith

module _ {m : List ℕ} {p : Layout} {q : ℕ → ℕ} {user b t place D room len : ℕ} (f : PinnedFromFits m p q user b t place D room len) where
  abbrev c : Circuit
  c = circuit_in m

  pub fits_all : PlacePassed (pinned c q) c b t place D room len
  fits_all = place-passed (pinned c q) c b t place D room len f.tests

  -- the search of words that hold the pinned circuit
  pub text-is : {words w w' text text' : List ℕ} {a : Answer Report} → length w ≡ room → length text ≡ len → Holds words (pinned c q)
      → PlaceSearched place_chosen words b t place D w text a w' text' → FromTextIs c q b t place D text a text'
  text-is {words} {w} {w'} {text} {text'} {a} e l h s =
      let j = place-pinned c q b t place D room len (length text) f.tests (omega (arith, length-pinned c q b t, fits_all.output)) in
      let r =
      acts-only {tests = λ d. place_tests d d b t place D (length w) (length text)} h
      (ap (λ (n : ℕ). judge (place_tests (pinned c q) (pinned c q) b t place D n (length text))) e ∙ j) s in
      let x = r.2 in
      record { says = r.1 ∙ ap gives x.chose; allowed = x.allowed; shows = x.shows }

  -- the witness of a run of the pinned circuit, written out over it
  written_out : (y : ℕ) (before after : List ℕ) {out : List ℕ} → length after ≡ len → after ≡ front (witness b (run (pinned c q) t y)) before
      → out ≡ front (expanded after q p.i (rows_start p b) (t + 1)) after → out ≡ front (pinned_text_at c q b t y) before
  unfolding witness_length expanded
  written_out y before after {out} long w e =
      let counts = counts_of f.held f.layout_of in
      let n = length c.inputs in
      let s = rows_at c q b in
      let W = expanded after q n s (t + 1) in
      let first = witness b (run (pinned c q) t y) in
      let full : W ≡ pinned_text_at c q b t y = expanded-run c q b t y after (drop (length first) before) w in
      let size : length first ≤ length W =
      omega (
        arith,
        run_length (pinned c q) b t y,
        length-pinned c q b t,
        length-append (take s after) (rows_text after q n s (t + 1)),
        length-take-le s after (omega (arith, fits_all.output)),
        length-rows after q n s (t + 1),
      ) in
      let a : rows_start p b ≡ s = ap (λ (l : ℕ). 4 + length (digits b) + (l + 1)) counts.latches in
      e ∙ ap₂ (λ (i x : ℕ). front (expanded after q i x (t + 1)) after) counts.inputs a ∙ ap (front W) w ∙ over W first before size
      ∙ ap (λ (z : List ℕ). front z before) full

  -- the answer in full, by what is chosen
  in-full : (a : Placed) (x : SearchAnswer) (before after out : List ℕ) (r : Answer Report) → length after ≡ len
      → said x ≡ gives (report_of (pinned c q) b t a) → after ≡ shown_from (pinned c q) b t a before → InFull p q b x after r out
      → (r ≡ gives (report_of c b t a)) × (out ≡ shown_at (pinned_text_at c q b t) a before)
  in-full (Placed.hit y) (Found u n) before after out r long e w g =
      let k : u ≡ t = found-frame (same_outcome e) in
      let l : length_of p b t ≡ witness_length c b t = length-is (counts_of f.held f.layout_of) b t in (
        g.0 ∙ ap (λ (v : ℕ). gives (found_report v (length_of p b v))) k ∙ ap (λ (z : ℕ). gives (found_report t z)) l,
        written_out y before after long w (g.1 ∙ ap (λ (v : ℕ). front (expanded after q p.i (rows_start p b) (v + 1)) after) k),
      )
  in-full (Placed.hit y) (Nothing u flag) before after out r long e w g = absurd (found_none (sym (same_outcome e)))
  in-full (Placed.hit y) (Spent u R) before after out r long e w g = absurd (found-spent (sym (same_outcome e)))
  in-full (Placed.hit y) (Refused n) before after out r long e w g = absurd (refused-gives e)
  in-full Placed.clear (Found u n) before after out r long e w g = absurd (found_none (same_outcome e))
  in-full Placed.clear (Nothing u flag) before after out r long e w g = (g.0 ∙ e, g.1 ∙ w)
  in-full Placed.clear (Spent u R) before after out r long e w g = absurd (none-spent (sym (same_outcome e)))
  in-full Placed.clear (Refused n) before after out r long e w g = absurd (refused-gives e)
  in-full (Placed.spent Q) (Found u n) before after out r long e w g = absurd (found-spent (same_outcome e))
  in-full (Placed.spent Q) (Nothing u flag) before after out r long e w g = absurd (none-spent (same_outcome e))
  in-full (Placed.spent Q) (Spent u R) before after out r long e w g = (g.0 ∙ e, g.1 ∙ w)
  in-full (Placed.spent Q) (Refused n) before after out r long e w g = absurd (refused-gives e)

  pub full_is : (x : SearchAnswer) {before after out : List ℕ} {r : Answer Report} → length after ≡ len → FromTextIs c q b t place D before (said x) after
      → InFull p q b x after r out → FromOutputIs c q b t place D before r out
  full_is x {before} {after} {out} {r} long h g =
      let z = in-full (chosen_under c q b t place D) x before after out r long h.says h.shows g in
      record { says = z.0; allowed = h.allowed; shows = z.1 }

  -- what writing its witness out requires
  frame_is : (a : Placed) {u n : ℕ} → gives (found_report u n) ≡ gives (report_of (pinned c q) b t a) → u ≡ t
  frame_is (Placed.hit y) e = found-frame (same_outcome e)
  frame_is Placed.clear e = absurd (found_none (same_outcome e))
  frame_is (Placed.spent Q) e = absurd (found-spent (same_outcome e))

  pub fits-full : (x : SearchAnswer) {before after : List ℕ} → length after ≡ len → FromTextIs c q b t place D before (said x) after
      → FullFits p user b x (length after)
  fits-full (Found u n) long h =
      let counts = counts_of f.held f.layout_of in
      let k : u ≡ t = frame_is (chosen_under c q b t place D) h.says in (
        limited f.held f.layout_of,
        f.user-of,
        omega (arith, fits_all.bad, counts.bads),
        omega (arith, fits_all.last),
        omega (arith, ap (length_of p b) k, length-is counts b t, fits_all.output, long),
      )
  fits-full (Nothing n flag) long h = tt
  fits-full (Spent u R) long h = tt
  fits-full (Refused n) long h = tt

-- what the user gets
module _ {m : List ℕ} (q : ℕ → ℕ) (h : Holds m (circuit_in m)) {b t place D : ℕ} {w out : List ℕ} where
  pub answered : judge (place_tests (pinned (circuit_in m) q) (circuit_in m) b t place D (length w) (length out)) ≡ gives tt
      → {a : Answer Report} {w' out' : List ℕ} → FromOutputIs (circuit_in m) q b t place D out a out'
      → PinnedSearchedFrom place_chosen m q b t place D w out a (w', out')
  answered j {a} {w'} {out'} x =
      let c = circuit_in m in
      let v = held-valid h in
      let bad = (place-passed (pinned c q) c b t place D (length w) (length out) j).bad in
      subst (λ (y : Answer Report). PinnedSearchedFrom place_chosen m q b t place D w out y (w', out')) (sym x.says)
      (Operated.acts c h j
      (record {
        chose = refl;
        allowed = subst (λ (z : Question). T (answers (z.hitting t) (z.places t) place D (chosen_under c q b t place D)))
            (pinned-question c q (T_true v.literals) (T_true v.uses) (T_true v.order) b bad) x.allowed;
        shows = x.shows;
      }))

  pub refused-with : {n : ℕ} → judge (place_tests (pinned (circuit_in m) q) (circuit_in m) b t place D (length w) (length out)) ≡ refused n
      → PinnedSearchedFrom place_chosen m q b t place D w out (refused n) (w, out)
  refused-with e = Operated.refuses (circuit_in m) h e

-- the pins of a user who is this one
pub searched-for : (pins : List ℕ) {user v : ℕ} → user ≡ v → {m : List ℕ} {b t place D : ℕ} {w out : List ℕ} {a : Answer Report} {left : List ℕ × List ℕ}
    → PinnedSearchedFrom place_chosen m (pins_of pins v) b t place D w out a left → PinnedSearchedFrom place_chosen m (pins_of pins user) b t place D w out a left
searched-for pins e {m} {b} {t} {place} {D} {w} {out} {a} {left} x =
    subst (λ (u : ℕ). PinnedSearchedFrom place_chosen m (pins_of pins u) b t place D w out a left) (sym e) x
