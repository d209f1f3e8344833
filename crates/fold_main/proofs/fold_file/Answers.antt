-- The lengths of the memories. Assumes nothing.
use Rattle.std.proofs.Common.{sym, ℕ}
use lib.ListN.{length-replicate}
use Rattle.fold_main.proofs.fold_file.Goals as goal

pub slice_bounds-fold_with-end : goal.slice_bounds-fold_with-end
slice_bounds-fold_with-end c = sym (length-replicate {A = ℕ} 1048576 0)

pub slice_bounds-fold_with-end-2 : goal.slice_bounds-fold_with-end-2
slice_bounds-fold_with-end-2 c = sym (length-replicate {A = ℕ} 1572928 0)

pub fold_with-requires : goal.fold_with-requires
fold_with-requires c = (length-replicate {A = ℕ} 1048576 0, length-replicate {A = ℕ} 1572928 0)
