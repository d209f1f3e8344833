-- The working memory is that of the start, and the output has its length. Assumes nothing.
use Rattle.std.proofs.Common.{◌∙◌, sym}
use Rattle.panel_session.specs.Session.{start}
use Rattle.panel_main.proofs.lent_memories.Goals as goal

pub invariant_of-result : goal.invariant_of-result
unfolding start
invariant_of-result c =
    record {
      at_start =
          (c.in_ok-work.ensures.items_if_clones_equal (λ y h. h), sym c.in_ok-out.out.ok.0 ∙ c.in_ok-out.ensures.len);
    }
