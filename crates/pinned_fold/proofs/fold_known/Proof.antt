-- `pinned_fold::fold_known` meets its contract. Assumes nothing.
use mathlib.Core.Path.{refl, sym, ◌∙◌}
use Prim.Native.Nat.{ℕ}
use native.Mathlib.Omega.{arith}
use lib.ListN.{length-replicate}
use Rattle.pins.specs.Pins.{pins_of}
use Rattle.pinning.proofs.Fresh.{fits_fresh}
use Rattle.pinned_fold.proofs.Answers.{fold_is}
use Rattle.pinned_fold.proofs.fold_known.Statement.{statement}
use Rattle.pinned_fold.proofs.fold_known.Tie as tie

slice-aggregate-pin-circuit : tie.Need-slice_bounds-pin_circuit-end
slice-aggregate-pin-circuit c = refl

slice-aggregate-pin-circuit-2 : tie.Need-slice_bounds-pin_circuit-end-2
slice-aggregate-pin-circuit-2 c = sym (length-replicate {A = ℕ} 33032 0)

pin-circuit-requires : tie.Need-pin_circuit-requires
pin-circuit-requires c κs =
    let f = c.requires in
    fits_fresh f.held f.layout_of f.user-of 4097 33032 (omega arith) (omega arith)

slice-aggregate-fold : tie.Need-slice_bounds-fold-end
slice-aggregate-fold c = sym (c.pin_circuit.auto.words ∙ length-replicate {A = ℕ} 33032 0)

fold-requires : tie.Need-fold-requires
fold-requires c κs = tt

same_length : tie.Need-shape_of-work
same_length c = c.fold.auto.work

same-length-2 : tie.Need-shape_of-out
same-length-2 c = c.fold.auto.out

returns : tie.Need-returns
returns c =
    fold_is c.requires (pins_of c.args.pins.now c.args.user) refl refl c.pin_circuit.ensures c.fold.ensures

pub fold_known_spec : {M : Type 1} → statement M
fold_known_spec =
    tie.close
    (tie.spec slice-aggregate-pin-circuit slice-aggregate-pin-circuit-2 pin-circuit-requires slice-aggregate-fold fold-requires same_length same-length-2 returns)
