-- `pinned_search_from::search_text` meets its contract. Assumes nothing.
use mathlib.Core.Path.{refl, sym, ◌∙◌}
use Prim.Native.Nat.{ℕ}
use native.Mathlib.Omega.{arith}
use lib.ListN.{length-replicate}
use borrow.Author.Rules.{rules}
use Rattle.pins.specs.Pins.{pins_of}
use Rattle.pinning.proofs.Fresh.{fits_fresh}
use Rattle.pinned_search_from.proofs.Answers.{text-is}
use Rattle.pinned_search_from.proofs.search_text.Statement.{statement}
use Rattle.pinned_search_from.proofs.search_text.Tie as tie

slice-aggregate-pin-circuit : tie.Need-slice_bounds-pin_circuit-end
slice-aggregate-pin-circuit c = refl

slice-aggregate-pin-circuit-2 : tie.Need-slice_bounds-pin_circuit-end-2
slice-aggregate-pin-circuit-2 c = sym (length-replicate {A = ℕ} 33032 0)

pin-circuit-requires : tie.Need-pin_circuit-requires
pin-circuit-requires c κs =
    let f = c.requires in
    fits_fresh f.held f.layout_of f.user-of 4097 33032 (omega arith) (omega arith)

slice-aggregate-search-from : tie.Need-slice_bounds-search_from-end
slice-aggregate-search-from c = sym (c.pin_circuit.auto.words ∙ length-replicate {A = ℕ} 33032 0)

search-from-requires : tie.Need-search_from-requires
search-from-requires c κs = tt

same_length : tie.Need-shape_of-work
same_length c = c.search_from.auto.work

same-length-2 : tie.Need-shape_of-text
same-length-2 c = c.search_from.auto.out

returns : tie.Need-returns
returns c = text-is c.requires refl refl c.pin_circuit.ensures c.search_from.ensures

pub search_text_spec : {M : Type 1} → statement M
search_text_spec =
    tie.close
    (tie.spec slice-aggregate-pin-circuit slice-aggregate-pin-circuit-2 pin-circuit-requires slice-aggregate-search-from search-from-requires same_length same-length-2 returns)
