-- Operands in either order. Assumes nothing.
use mathlib.Core.Path.{◌≡◌, refl, ◌∙◌}
use mathlib.Core.Bool.{Bool, true, false, ◌&&◌}
use mathlib.Core.List.{List}
use Prim.Native.Nat.{ℕ, ◌^◌, ◌<◌}
use native.Mathlib.Omega.{arith}
use Rattle.aiger.specs.Frames.{free_bit}
use Rattle.nodes.specs.Graph.{edge_value}
use Rattle.nodes.specs.Store.{pairs_of}
use Rattle.nodes.specs.declared.Graph.{Graph}
use Rattle.graph.specs.Stored.{Operands, Conjoined, Proper}
use Rattle.graph.specs.declared.Made.{Made}
use Rattle.graph.proofs.Chosen.{conjoin-swap}

-- the words of a gate's operands fit 32 bits
pub word_bound : {work : List ℕ} {g : Graph} {a b : ℕ} → Proper work g a b → (a < 2 ^ 32) × (b < 2 ^ 32)
word_bound d = (
  omega (arith, d.earlier, d.stored.sized.nodes, d.stored.sized.room),
  omega (arith, d.earlier, d.larger, d.stored.sized.nodes, d.stored.sized.room),
)

-- and so do those of operands
pub operands-bound : {work : List ℕ} {g : Graph} {a b : ℕ} → Operands work g a b → (a < 2 ^ 32) × (b < 2 ^ 32)
operands-bound d =
    (omega (arith, d.left, d.stored.sized.nodes, d.stored.sized.room), omega (arith, d.right, d.stored.sized.nodes, d.stored.sized.room))

pub operands-swapped : {work : List ℕ} {g : Graph} {a b : ℕ} → Operands work g a b → Operands work g b a
operands-swapped o = record { stored = o.stored; room = o.room; left = o.right; right = o.left }

and-swap : (a b : Bool) → (a && b) ≡ (b && a)
and-swap true true = refl
and-swap true false = refl
and-swap false true = refl
and-swap false false = refl

module _ (work last : List ℕ) (g : Graph) (made : Made) (p q : ℕ) where
  pub made-swapped : Conjoined work last g q p made → Conjoined work last g p q made
  made-swapped c =
      record {
        stored = c.stored;
        free = c.free;
        room = c.room;
        extends = c.extends;
        chosen = conjoin-swap g.free (pairs_of work g) p q ∙ c.chosen;
        node = c.node;
        value = λ x u.
            c.value x u
            ∙ and-swap (edge_value g.free (pairs_of work g) (free_bit g.free x) q) (edge_value g.free (pairs_of work g) (free_bit g.free x) p);
      }
