-- `advance` meets its contract: each arm keeps the search's invariant, or the stack is a cycle.
-- Assumes nothing.
use Rattle.toposort.proofs.Runs.{counts, search-room, search-push, top-gate, search-cycle, top-edge, search-place, search-deeper}
use Rattle.toposort.proofs.Runs.{search-placed}
use mathlib.Core.Path.{refl}
use native.Mathlib.Omega.{arith}
use lib.Seq.{drop-set-lt}
use borrow.Author.Rules.{rules}
use Rattle.toposort.proofs.advance.Statement.{statement}
use Rattle.toposort.proofs.advance.Tie as tie

cast-g : tie.Need-overflow_cast-g
cast-g c =
    omega (arith, top-gate _ _ _ _ _ _ _ c.requires.1.0 c.requires.1.1, c.requires.0.small)

operand-requires : tie.Need-operand-requires
operand-requires c κs =
    (c.requires.0, (c.requires.1.0.pos-room, top-gate _ _ _ _ _ _ _ c.requires.1.0 c.requires.1.1))

push-requires : tie.Need-push-requires
push-requires c κs =
    let n = rw c.in-Fresh.is at c.operand.ensures in (
      omega (arith, c.requires.0.small),
      n.0.0.0,
      omega (arith, search-room _ _ _ _ _ _ _ c.requires.1.0 _ n.0.0.0 n.0.1),
      c.requires.1.0.pos-room,
      c.requires.1.0.stack-room,
    )

place-requires : tie.Need-place-requires
place-requires c κs = (
  omega (arith, c.requires.0.small),
  top-gate _ _ _ _ _ _ _ c.requires.1.0 c.requires.1.1,
  omega (arith, counts _ _ _ _ _ _ _ c.requires.1.0, c.requires.1.1),
  c.requires.1.0.pos-room,
  c.requires.1.0.order-room,
)

returns : tie.Need-returns-in-Fresh
returns c =
    let n = rw c.in-Fresh.is at c.operand.ensures in (
      search-push _ _ _ _ _ _ _ c.requires.1.0 _ n.0.0.0 n.0.1 _ _ c.push.ensures.0 c.push.ensures.1
          (top-edge _ _ _ _ _ _ _ c.requires.1.0 c.requires.1.1 _ n.0.0),
      λ left right o.
          search-deeper left right _ _ _ _ _ _ _ c.requires.1.0 c.requires.1.1 _ n.0.0.0 n.0.1 _ c.push.ensures.1
          (n.1 left right o),
      refl,
    )

returns-2 : tie.Need-returns-in-Open
returns-2 c =
    let n = rw c.in-Open.is at c.operand.ensures in
    (search-cycle _ _ _ _ _ _ _ c.requires.1.0 c.requires.1.1 n.0.0 n.0.1 n.0.2, λ left right o. tt, refl)

returns-3 : tie.Need-returns-in-Done
returns-3 c =
    let n = rw c.in-Done.is at c.operand.ensures in (
      search-place _ _ _ _ _ _ _ c.requires.1.0 c.requires.1.1 _ _ c.place.ensures.0 c.place.ensures.1 n.0,
      λ left right o. search-placed left right _ _ _ _ _ _ _ c.requires.1.0 c.requires.1.1 _ c.place.ensures.1 (n.1 left right o),
      rw c.place.ensures.1 (drop-set-lt c.args.gates.m c.args.order.now c.args.at.done _
          (omega (arith, counts _ _ _ _ _ _ _ c.requires.1.0, c.requires.1.1))),
    )

pub advance_spec : {M : Type 1} → statement M
advance_spec =
    tie.close
    (tie.spec (λ c. search rules) (λ c. search rules) (λ c. search rules) cast-g operand-requires (λ c. search rules) push-requires (λ c. search rules) (λ c. search rules) place-requires (λ c. search rules) (λ c. search rules) returns (λ c. search rules) returns-2 (λ c. search rules) (λ c. search rules) returns-3)
