-- From the test of the memory and the tests 10 to 13 to the answer of a search from a place. Assumes nothing.
use mathlib.Core.Path.{◌≡◌, refl, sym, ap, ◌∙◌, subst}
use mathlib.Core.List.{List}
use Prim.Native.Nat.{ℕ, ◌^◌, ◌≤◌}
use native.Mathlib.Omega.{arith}
use lib.Dec.{T}
use lib.ListN.{length}
use Rattle.aiger.specs.Circuit.{Circuit}
use Rattle.aiger.specs.Load.{Answer, refused, gives}
use Rattle.aiger.specs.Memory.{Holds}
use Rattle.aiger.specs.Frames.{free_bits}
use Rattle.aiger.specs.Search.{Report, reaches}
use Rattle.aiger.specs.Operations.{judge, Operated}
use Rattle.layout.specs.Words.{circuit_in}
use Rattle.layout.specs.Layout.{LayoutOf}
use Rattle.layout.specs.Order.{Ordered}
use Rattle.layout.specs.declared.Layout.{Layout}
use Rattle.frames.proofs.Facts.{counts, top-is, bad-count}
use Rattle.witness.specs.Writing.{SequenceIn}
use Rattle.place_search.specs.Places.{Placed, answers}
use Rattle.place_search.specs.Operation.{place_tests, PlaceSearched, report_of, shown_from}
use Rattle.place_limits.proofs.Passing.{place-passed}
use Rattle.place_decision.specs.Reach.{place_chosen}
use Rattle.search.specs.Steps.{FoundShown}
use Rattle.search_from.specs.Steps.{FromFits, AnsweredFrom}

-- the answer that says and shows what is chosen
pub answered : (c : Circuit) (b t place D : ℕ) (a : Placed) → place_chosen c b t place D ≡ a
    → T (answers (reaches c b t) (2 ^ free_bits c t) place D (place_chosen c b t place D)) → {out out' : List ℕ} → out' ≡ shown_from c b t a out
    → AnsweredFrom c b t place D out (gives (report_of c b t a)) out'
answered c b t place D a e h {out} q =
    record {
      says = ap (λ (x : Placed). gives (report_of c b t x)) (sym e);
      allowed = h;
      shows = q ∙ ap (λ (x : Placed). shown_from c b t x out) (sym e);
    }

-- a hit, as it is shown
pub answered-hit : (c : Circuit) (b t place D x : ℕ) → place_chosen c b t place D ≡ Placed.hit x
    → T (answers (reaches c b t) (2 ^ free_bits c t) place D (place_chosen c b t place D)) → {free out out' : List ℕ} {a : Answer Report}
    → FoundShown c b t free out a out' → SequenceIn free c t x → AnsweredFrom c b t place D out a out'
answered-hit c b t place D x e h {out = out} {out' = out'} w f =
    subst (λ (a : Answer Report). AnsweredFrom c b t place D out a out') (sym w.says)
    (answered c b t place D (Placed.hit x) e h (w.shows x f))

module _ {m : List ℕ} (held : Holds m (circuit_in m)) {b t place D : ℕ} {work out : List ℕ} where
  -- the number of a test that fails is the answer
  pub refused-with : {n : ℕ} → judge (place_tests (circuit_in m) (circuit_in m) b t place D (length work) (length out)) ≡ refused n
      → PlaceSearched place_chosen m b t place D work out (refused n) work out
  refused-with e = Operated.refuses (circuit_in m) held e

  -- where all tests pass, the frame can be searched
  pub fits : {p : Layout} {order : List ℕ} → LayoutOf m p → Ordered (circuit_in m) order → 3072 ≤ length order
      → judge (place_tests (circuit_in m) (circuit_in m) b t place D (length work) (length out)) ≡ gives tt
      → FromFits m p order b t place D work out
  fits a o l e =
      let q = place-passed (circuit_in m) (circuit_in m) b t place D (length work) (length out) e in
      record {
        place-fits = record {
          frame = record {
            ready = record { held = held; layout_of = a; ordered = o; ranks = l; room = omega (arith, (counts held).max_var, top-is m) };
            bad = omega (arith, q.bad, bad-count m);
            last = q.last;
            some = q.some;
            budget = q.most;
            units = q.small;
            held = q.words;
          };
          start = q.start;
          below = q.below;
        };
        output = q.output;
      }

  -- what the search of the frame answers is the answer
  pub answered-with : judge (place_tests (circuit_in m) (circuit_in m) b t place D (length work) (length out)) ≡ gives tt
      → {a : Answer Report} {work' out' : List ℕ} → AnsweredFrom (circuit_in m) b t place D out a out'
      → PlaceSearched place_chosen m b t place D work out a work' out'
  answered-with e {a} {work'} {out'} w =
      subst (λ (r : Answer Report). PlaceSearched place_chosen m b t place D work out r work' out') (sym w.says)
      (Operated.acts (circuit_in m) held e
      (record {
        chose = refl;
        allowed = w.allowed;
        shows = w.shows;
      }))
