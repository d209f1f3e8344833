-- From the test of the memory and the tests 10 to 13 to the answer of the search. Assumes nothing.
use mathlib.Core.Path.{◌≡◌, refl, sym, ◌∙◌, subst}
use mathlib.Core.List.{List, [], ◌∷◌}
use Prim.Native.Nat.{ℕ, ◌≤◌}
use native.Mathlib.Omega.{arith}
use lib.Dec.{T, leb, leb→le}
use lib.ListN.{length}
use Rattle.aiger.specs.Load.{Answer, refused, gives}
use Rattle.aiger.specs.Memory.{Holds}
use Rattle.aiger.specs.Search.{Report}
use Rattle.aiger.specs.Witness.{witness_length}
use Rattle.aiger.specs.Operations.{need, judge, budget_right, Operated, search_tests, Searched}
use Rattle.aiger.proofs.Tests.{and_left, and_right}
use Rattle.layout.specs.Words.{circuit_in}
use Rattle.layout.specs.Layout.{LayoutOf}
use Rattle.layout.specs.Order.{Ordered}
use Rattle.layout.specs.declared.Layout.{Layout}
use Rattle.frames.proofs.Facts.{counts, top-is, bad-count}
use Rattle.limits.proofs.Refusals.{passed, length-enough}
use Rattle.search.specs.Chosen.{chosen}
use Rattle.search.specs.Steps.{SearchFits, Answered}
use Rattle.search.proofs.Choice.{chosen-permitted, chosen-never}

module _ {m : List ℕ} (held : Holds m (circuit_in m)) {b k D : ℕ} {work out : List ℕ} where
  -- the number of a test that fails is the answer
  pub refused-with : {n : ℕ} → judge (search_tests (circuit_in m) b k D (length work) (length out)) ≡ refused n
      → Searched chosen m b k D work out (refused n) work out
  refused-with e = Operated.refuses (circuit_in m) held e

  -- where all tests pass, the frames can be searched
  pub fits : {p : Layout} {order : List ℕ} → LayoutOf m p → Ordered (circuit_in m) order → 3072 ≤ length order
      → judge (search_tests (circuit_in m) b k D (length work) (length out)) ≡ gives tt → SearchFits m p order b k D work out
  fits a o l e =
      let W = witness_length (circuit_in m) b k in
      let both = passed (circuit_in m) b k (budget_right D) (length work) (need 13 (leb W (length out)) ∷ []) e in
      let q = both.0 in
      record {
        ready = record { held = held; layout_of = a; ordered = o; ranks = l; room = omega (arith, (counts held).max_var, top-is m) };
        bad = omega (arith, q.bad, bad-count m);
        bound = q.bound;
        some = leb→le 1 D (and_left (leb 1 D) (leb D 4294967296) q.right);
        most = leb→le D 4294967296 (and_right (leb 1 D) (leb D 4294967296) q.right);
        units = q.small;
        words = q.words;
        room = omega (arith, q.words);
        output = length-enough W (length out) both.1;
      }

  -- what the search of the frames answers is the answer
  pub answered-with : judge (search_tests (circuit_in m) b k D (length work) (length out)) ≡ gives tt
      → {a : Answer Report} {work' out' : List ℕ}
      → Answered (circuit_in m) b k D out a out' → Searched chosen m b k D work out a work' out'
  unfolding chosen
  answered-with e {a} {work'} {out'} w =
      let W = witness_length (circuit_in m) b k in
      let both = passed (circuit_in m) b k (budget_right D) (length work) (need 13 (leb W (length out)) ∷ []) e in
      subst (λ (r : Answer Report). Searched chosen m b k D work out r work' out') (sym w.says)
      (Operated.acts (circuit_in m) held e
      (record {
        chose = refl;
        allowed = chosen-permitted (circuit_in m) b k D both.0.bound;
        measured = refl;
        never = chosen-never (circuit_in m) b k D;
        told = w.told;
        shows = w.shows;
      }))
