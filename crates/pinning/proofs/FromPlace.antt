-- The search from a place under pins: the tests of the pinned circuit, and that pins which hold nothing change nothing. Assumes nothing.
use mathlib.Core.Path.{◌≡◌, refl, sym, ap, ap₂, ◌∙◌, subst}
use mathlib.Core.List.{List, [], ◌∷◌}
use Prim.Native.Nat.{ℕ, ◌+◌, ◌*◌, ◌^◌, ◌≤◌, ◌<◌}
use native.Mathlib.Omega.{arith}
use borrow.Author.Tests.{le-leb, lt-ltb}
use lib.Dec.{T, leb, ltb}
use lib.ListN.{length}
use Rattle.aiger.specs.Circuit.{Circuit}
use Rattle.aiger.specs.Frames.{Space, run_in, bits_in, free_bits, run, size}
use Rattle.aiger.specs.Load.{Answer, gives}
use Rattle.aiger.specs.Memory.{Holds}
use Rattle.aiger.specs.Search.{Question, Report, question, reaches, reaches_in, greatest}
use Rattle.aiger.specs.Witness.{witness, witness_length}
use Rattle.aiger.specs.Operations.{Test, judge, budget_right, Operated}
use Rattle.limits.proofs.Refusals.{line-passes, size-passes}
use Rattle.pins.specs.Pins.{pinned, pinned_space, pinned_question}
use Rattle.pins.proofs.Valid.{pinned-counts}
use Rattle.pins.proofs.Questions.{AllFree, pinned-free, space-free}
use Rattle.place_search.specs.Places.{Placed, answers}
use Rattle.place_search.specs.Operation.{place_right, place_tests, PlaceSearched, shown_at, shown_from, report_of}
use Rattle.place_limits.proofs.Passing.{place-passed, all_pass}
use Rattle.pinning.specs.FromPlace.{pinned_text_at, PinnedPlaceEffect, PinnedSearchedFrom}
use Rattle.pinning.proofs.Tests.{size-pinned, length-pinned}

-- the tests that pass of the circuit pass of the pinned one, with an output that is long enough
pub place-pinned : (c : Circuit) (q : ℕ → ℕ) (b t place D room len long : ℕ) → judge (place_tests (pinned c q) c b t place D room len) ≡ gives tt
    → witness_length (pinned c q) b t ≤ long → judge (place_tests (pinned c q) (pinned c q) b t place D room long) ≡ gives tt
place-pinned c q b t place D room len long j l =
    let d = pinned c q in
    let p = place-passed d c b t place D room len j in
    let n = size-pinned c q t in
    all_pass d d b t place D room long
    (line-passes d b t (budget_right D) (omega (arith, p.bad, (pinned-counts c q).bads)) p.last (rw (le-leb 1 D p.some, le-leb D 4294967296 p.most)))
    (rw (le-leb place greatest p.start, lt-ltb place (2 ^ free_bits d t) p.below))
    (size-passes d t room (omega (arith, p.small)) (omega (arith, p.words))) l

-- an operation whose tests and effect on the circuit in memory are another's is that other
operated-as : {A S : Type 0} {m : List ℕ} {tests others : Circuit → List Test} {lent : S} {E F : Circuit → A → S → Type 0}
    → ((c : Circuit) → Holds m c → tests c ≡ others c) → ((c : Circuit) → Holds m c → (a : A) (s : S) → E c a s → F c a s)
    → {x : Answer A} {s : S} → Operated m tests lent E x s → Operated m others lent F x s
operated-as e f (Operated.no_circuit h) = Operated.no_circuit h
operated-as e f (Operated.refuses c h j) = Operated.refuses c h (sym (ap judge (e c h)) ∙ j)
operated-as e f (Operated.acts c {a = a} {s = s} h j g) = Operated.acts c h (sym (ap judge (e c h)) ∙ j) (f c h a s g)

-- Clause 12.7: where none of a circuit's inputs is held, the search under pins is the one without them
module _ (q : ℕ → ℕ) (c : Circuit) (free : AllFree q 0 (length c.inputs)) (b t : ℕ) where
  question-free : pinned_question c q b ≡ question c b
  unfolding free_bits reaches run
  question-free = ap (λ (s : Space). record { places = λ u. 2 ^ bits_in s u; hitting = reaches_in s c b }) (space-free q c free)

  tests-free : (place D room len : ℕ) → place_tests (pinned c q) c b t place D room len ≡ place_tests c c b t place D room len
  tests-free place D room len = ap (λ (d : Circuit). place_tests d c b t place D room len) (pinned-free q c free)

  shown-free : (a : Placed) (out : List ℕ) → shown_at (pinned_text_at c q b t) a out ≡ shown_from c b t a out
  unfolding run
  shown-free a out = ap (λ (s : Space). shown_at (λ x. witness b (run_in s t x)) a out) (space-free q c free)

module _ (q : ℕ → ℕ) {m : List ℕ} (free : (c : Circuit) → Holds m c → AllFree q 0 (length c.inputs))
    {chosen : Circuit → ℕ → ℕ → ℕ → ℕ → Placed} {b t place D : ℕ} {w w' out out' : List ℕ} where
  pub from-plain : {a : Answer Report} → PinnedSearchedFrom chosen m q b t place D w out a (w', out') → PlaceSearched chosen m b t place D w out a w' out'
  from-plain =
      operated-as (λ c h. tests-free q c (free c h) b t place D (length w) (length out)) (λ c h o l e.
      let same : chosen (pinned c q) b t place D ≡ chosen c b t place D = ap (λ (d : Circuit). chosen d b t place D) (pinned-free q c (free c h)) in
      record {
        chose = e.chose ∙ ap (report_of c b t) same;
        allowed =
            subst (λ (z : Question). T (answers (z.hitting t) (z.places t) place D (chosen c b t place D))) (question-free q c (free c h) b t)
            (subst (λ (a : Placed). T (answers ((pinned_question c q b).hitting t) ((pinned_question c q b).places t) place D a)) same e.allowed);
        shows = e.shows ∙ shown-free q c (free c h) b t (chosen (pinned c q) b t place D) out ∙ ap (λ (a : Placed). shown_from c b t a out) same;
      })

  pub plain-from : {a : Answer Report} → PlaceSearched chosen m b t place D w out a w' out' → PinnedSearchedFrom chosen m q b t place D w out a (w', out')
  plain-from =
      operated-as (λ c h. sym (tests-free q c (free c h) b t place D (length w) (length out))) (λ c h o l e.
      let same : chosen c b t place D ≡ chosen (pinned c q) b t place D = ap (λ (d : Circuit). chosen d b t place D) (sym (pinned-free q c (free c h))) in
      record {
        chose = e.chose ∙ ap (report_of c b t) same;
        allowed =
            subst (λ (z : Question). T (answers (z.hitting t) (z.places t) place D (chosen (pinned c q) b t place D))) (sym (question-free q c (free c h) b t))
            (subst (λ (a : Placed). T (answers (reaches c b t) (2 ^ free_bits c t) place D a)) same e.allowed);
        shows =
            e.shows ∙ ap (λ (a : Placed). shown_from c b t a out) same
            ∙ sym (shown-free q c (free c h) b t (chosen (pinned c q) b t place D) out);
      })
