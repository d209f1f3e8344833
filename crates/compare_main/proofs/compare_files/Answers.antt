-- The lengths of the memories. Assumes nothing.
use Rattle.std.proofs.Common.{sym, ℕ}
use lib.ListN.{length-replicate}
use Rattle.compare_main.proofs.compare_files.Goals as goal

pub slice_bounds-compare_with-end : goal.slice_bounds-compare_with-end
slice_bounds-compare_with-end c = sym (length-replicate {A = ℕ} 33032 0)

pub slice_bounds-compare_with-end-2 : goal.slice_bounds-compare_with-end-2
slice_bounds-compare_with-end-2 c = sym (length-replicate {A = ℕ} 33032 0)

pub slice_bounds-compare_with-end-3 : goal.slice_bounds-compare_with-end-3
slice_bounds-compare_with-end-3 c = sym (length-replicate {A = ℕ} 33032 0)

pub slice_bounds-compare_with-end-4 : goal.slice_bounds-compare_with-end-4
slice_bounds-compare_with-end-4 c = sym (length-replicate {A = ℕ} 1048576 0)

pub compare_with-requires : goal.compare_with-requires
compare_with-requires c = (length-replicate {A = ℕ} 33032 0, length-replicate {A = ℕ} 33032 0, length-replicate {A = ℕ} 33032 0)
