-- The length of the working memory. Assumes nothing.
use Rattle.std.proofs.Common.{sym, ℕ}
use lib.ListN.{length-replicate}
use Rattle.generates.proofs.say_at.Goals as goal

pub slice_bounds-say_row-end : goal.slice_bounds-say_row-end
slice_bounds-say_row-end c = sym (length-replicate {A = ℕ} 1048576 0)

pub say_row-requires : goal.say_row-requires
say_row-requires c = length-replicate {A = ℕ} 1048576 0
