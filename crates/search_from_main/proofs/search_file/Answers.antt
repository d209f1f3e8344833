-- The length of the working memory. Assumes nothing.
use Rattle.std.proofs.Common.{sym, ℕ}
use lib.ListN.{length-replicate}
use Rattle.search_from_main.proofs.search_file.Goals as goal

pub slice_bounds-search_with-end : goal.slice_bounds-search_with-end
slice_bounds-search_with-end c = sym (length-replicate {A = ℕ} 1048576 0)

pub search_with-requires : goal.search_with-requires
search_with-requires c = length-replicate {A = ℕ} 1048576 0
