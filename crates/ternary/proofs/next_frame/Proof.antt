-- `ternary::next_frame` meets its contract. Assumes nothing.
use lib.ListN.{length}
use Rattle.ternary.proofs.Frames.{next-is}
use borrow.Author.Rules.{rules}
use Rattle.ternary.proofs.next_frame.Statement.{statement}
use Rattle.ternary.proofs.next_frame.Tie as tie

returns : tie.Need-returns
returns c =
    let a = c.args in (
      next-is c.requires.0 (length a.can.now) a.body.now a.at a.can.now a.state.now c.save_state.new.state
          c.fill.new.can c.put_state.new.can c.requires.2 c.save_state.ensures c.fill.ensures c.put_state.ensures
          c.put_frame.ensures,
      c.save_state.ensures,
    )

pub next_frame_spec : {M : Type 1} → statement M
next_frame_spec =
    tie.close
    (tie.spec (λ c κs. search rules) (λ c κs. search rules) (λ c κs. search rules) (λ c κs. search rules) (λ c. search rules) (λ c. search rules) returns)
