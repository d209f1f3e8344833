-- The circuit that a cone makes has the shape of a fold. Assumes nothing.
use mathlib.Core.Path.{◌≡◌, refl, sym, ◌∙◌}
use mathlib.Core.List.{List, map}
use Prim.Native.Nat.{ℕ, ◌+◌, ◌*◌, ◌<◌}
use native.Mathlib.Omega.{arith}
use lib.ListN.{length, length-map, get_or-map}
use lib.Seq.{ext_get_or}
use Rattle.aiger.specs.Lists.{upto}
use Rattle.aiger.specs.Circuit.{var}
use Rattle.meaning.proofs.Lists.{length-map-upto, get_d-map-upto}
use Rattle.meaning.proofs.Defined.{no_gate}
use Rattle.meaning.proofs.Shape.{FoldShape}
use Rattle.nodes.specs.Graph.{Pair, nodes, Built}
use Rattle.cone.specs.Cone.{folded}
use Rattle.cone.proofs.Gates.{length-folded, shape, output-bound}

module _ (n : ℕ) (gs : List Pair) (root : ℕ) (built : Built n gs) where
  -- the circuit's gates are numbered upward from n + 1
  gate-lits : map (λ g. g.lit) (folded n gs root).gates ≡ map (λ i. 2 * (n + 1 + i)) (upto (length (folded n gs root).gates))
  gate-lits =
      let gates = (folded n gs root).gates in
      ext_get_or 0 (map (λ g. g.lit) gates) (map (λ i. 2 * (n + 1 + i)) (upto (length gates)))
      (length-map gates (λ g. g.lit) ∙ sym (length-map-upto (λ i. 2 * (n + 1 + i)) (length gates)))
      (λ i h.
      let u : i < length gates = omega (arith, length-map gates (λ g. g.lit)) in
      get_or-map (λ g. g.lit) gates i no_gate ∙ (shape n gs root built i u).lit ∙ sym (get_d-map-upto (λ j. 2 * (n + 1 + j)) (length gates) i 0 u))

  pub folded-shape : var root < nodes n gs → FoldShape n (folded n gs root)
  unfolding folded
  folded-shape inside =
      record {
        top = omega (arith, length-folded n gs root);
        inputs = refl;
        latches = refl;
        outputs = refl;
        bads = refl;
        constraints = refl;
        output-bound = omega (arith, output-bound n gs root built inside);
        lits = gate-lits;
        operands = λ i h. let s = shape n gs root built i h in (omega (arith, s.larger), omega (arith, s.lit, s.earlier));
      }
