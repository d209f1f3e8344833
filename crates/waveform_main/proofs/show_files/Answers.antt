-- The length of the output. Assumes nothing.
use Rattle.std.proofs.Common.{sym, ℕ}
use lib.ListN.{length-replicate}
use Rattle.waveform_main.proofs.show_files.Goals as goal

pub slice_bounds-show_with-end : goal.slice_bounds-show_with-end
slice_bounds-show_with-end c = sym (length-replicate {A = ℕ} 1572928 0)

pub show_with-requires : goal.show_with-requires
show_with-requires c = length-replicate {A = ℕ} 1572928 0
