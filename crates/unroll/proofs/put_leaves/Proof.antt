-- `unroll::put_leaves` meets its contract. Assumes nothing.
use mathlib.Core.Path.{◌∙◌}
use native.Mathlib.Omega.{arith}
use Rattle.unroll.proofs.Facts.{ready_with}
use borrow.Author.Rules.{rules}
use Rattle.unroll.proofs.put_leaves.Statement.{statement}
use Rattle.unroll.proofs.put_leaves.Tie as tie

put-inputs-requires : tie.Need-put_inputs-requires
put-inputs-requires c κs =
    let r = c.requires.0 in
    ((r.0, ready_with r.1 c.put_state.auto.map), c.requires.1.0)

put-state-requires : tie.Need-put_state-requires
put-state-requires c κs =
    (c.requires.0, omega (arith, c.next_state.auto.state, c.requires.1.1))

same_length : tie.Need-shape_of-state
same_length c = c.next_state.auto.state

same-length-2 : tie.Need-shape_of-map
same-length-2 c =
    c.put_inputs.auto.map ∙ c.put_state.auto.map

returns : tie.Need-returns
returns c =
    record {
      state = c.next_state.new.state;
      moved = c.put_state.new.map;
      next = c.next_state.ensures;
      latches = c.put_state.ensures;
      inputs = c.put_inputs.ensures;
    }

pub put_leaves_spec : {M : Type 1} → statement M
put_leaves_spec =
    tie.close
    (tie.spec (λ c κs. search rules) put-state-requires put-inputs-requires same_length same-length-2 returns)
