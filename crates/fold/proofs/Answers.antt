-- From the test of the memory and the tests 10 to 13 to the answer of fold. Assumes nothing.
use mathlib.Core.Path.{◌≡◌, ◌∙◌}
use mathlib.Core.Bool.{true}
use mathlib.Core.List.{List, [], ◌∷◌}
use Prim.Native.Nat.{ℕ, ◌+◌, ◌*◌, ◌≤◌}
use native.Mathlib.Omega.{arith}
use lib.Dec.{leb}
use lib.ListN.{length}
use Rattle.aiger.specs.Load.{refused, gives}
use Rattle.aiger.specs.Frames.{size}
use Rattle.aiger.specs.Memory.{Holds}
use Rattle.aiger.specs.Operations.{need, judge, Operated, Folded, fold_tests}
use Rattle.layout.specs.Words.{circuit_in}
use Rattle.layout.specs.Layout.{LayoutOf}
use Rattle.layout.specs.Order.{Ordered}
use Rattle.layout.specs.declared.Layout.{Layout}
use Rattle.frames.proofs.Facts.{counts, top-is, bad-count}
use Rattle.limits.proofs.Refusals.{passed, length-enough}
use Rattle.fold.specs.Chosen.{chosen}
use Rattle.fold.specs.Answer.{FoldFits, FoldShown}

module _ {m : List ℕ} (held : Holds m (circuit_in m)) {b t : ℕ} {work out : List ℕ} where
  -- the number of a test that fails is the answer
  pub refused-with : {n : ℕ} → judge (fold_tests (circuit_in m) b t (length work) (length out)) ≡ refused n
      → Folded chosen m b t work out (refused n) work out
  refused-with e = Operated.refuses (circuit_in m) held e

  -- where all tests pass, the frame can be folded
  pub fits : {p : Layout} {order : List ℕ} → LayoutOf m p → Ordered (circuit_in m) order → 3072 ≤ length order
      → judge (fold_tests (circuit_in m) b t (length work) (length out)) ≡ gives tt → FoldFits m p order b t work out
  fits a o l e =
      let N = 24 * size (circuit_in m) t + 64 in
      let both = passed (circuit_in m) b t true (length work) (need 13 (leb N (length out)) ∷ []) e in
      let q = both.0 in
      record {
        ready = record { held = held; layout_of = a; ordered = o; ranks = l; room = omega (arith, (counts held).max_var, top-is m) };
        bad = omega (arith, q.bad, bad-count m);
        last = q.bound;
        small = q.small;
        words = q.words;
        output = length-enough N (length out) both.1;
      }

  -- the text that is written is the answer
  pub written-with : judge (fold_tests (circuit_in m) b t (length work) (length out)) ≡ gives tt → {r : ℕ} {work' out' : List ℕ}
      → FoldShown (circuit_in m) b t out r out' → Folded chosen m b t work out (gives r) work' out'
  written-with e {r} {work'} {out'} f =
      Operated.acts (circuit_in m) held e
      (record { permitted = f.permitted; short = f.short; count = f.shown.count; shows = f.shown.contents })
