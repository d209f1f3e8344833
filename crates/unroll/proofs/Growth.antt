-- Graphs that grow: no gate, one gate, one growth after another. Assumes nothing.
use mathlib.Core.Path.{◌≡◌, refl, ◌∙◌, subst}
use mathlib.Core.List.{List}
use Prim.Native.Nat.{ℕ, ◌+◌, ◌≤◌}
use native.Mathlib.Omega.{arith}
use lib.ListN.{length, get_or}
use Rattle.aiger.specs.Frames.{free_bit}
use Rattle.nodes.specs.Graph.{Pair, Extends, same, more}
use Rattle.nodes.specs.declared.Graph.{Graph}
use Rattle.nodes.proofs.Laws.{edge-extends, extends-length, length_more, nodes-pairs_of}
use Rattle.graph.specs.Stored.{Stored, Conjoined}
use Rattle.graph.specs.declared.Made.{Made}
use Rattle.unroll.specs.Map.{Edges, mapped, Grown}

extends-few : {gs hs : List Pair} → Extends gs hs → length hs ≤ length gs + 1
extends-few same = omega arith
extends-few {gs} (more p) = omega (arith, length_more gs p)

pub grown-none : (work : List ℕ) (g : Graph) → Stored work g → Grown g.free 0 work g work g
grown-none work g s =
    record { stored = s; free = refl; room = refl; least = omega arith; most = omega arith; kept = λ f e h. refl }

pub grown-made : (work last : List ℕ) (g : Graph) (made : Made) {a b : ℕ} → Stored work g → Conjoined work last g a b made
    → Grown g.free 1 work g last made.graph
grown-made work last g made s c =
    let p = nodes-pairs_of work g s.sized.leaves in
    let q = nodes-pairs_of last made.graph c.stored.sized.leaves in
    record {
      stored = c.stored;
      free = c.free;
      room = c.room;
      least = omega (arith, c.free, extends-length c.extends);
      most = omega (arith, c.free, extends-few c.extends);
      kept = λ f e h. edge-extends g.free f e c.extends (omega arith);
    }

pub grown-more : {n a b : ℕ} {work mid last : List ℕ} {g h k : Graph} → Grown n a work g mid h → Grown n b mid h last k → Grown n (a + b) work g last k
grown-more p q =
    record {
      stored = q.stored;
      free = q.free;
      room = q.room ∙ p.room;
      least = omega (arith, p.least, q.least);
      most = omega (arith, p.most, q.most);
      kept = λ f e l. q.kept f e (omega (arith, p.least)) ∙ p.kept f e l;
    }

-- the same at another count
pub grown-count : {n a b : ℕ} {work last : List ℕ} {g h : Graph} → a ≡ b → Grown n a work g last h → Grown n b work g last h
grown-count {n} {a} {b} {work} {last} {g} {h} e p = subst (λ (k : ℕ). Grown n k work g last h) e p

-- the words of a map keep their values
pub mapped-kept : {n count : ℕ} {work last : List ℕ} {g h : Graph} (map : List ℕ) → Grown n count work g last h → Edges g map
    → (x v : ℕ) → mapped n last h map x v ≡ mapped n work g map x v
mapped-kept {n} map p s x v = p.kept (free_bit n x) (get_or map v 0) (s v)
