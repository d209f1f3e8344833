-- `pinned_search::search_text` meets its contract. Assumes nothing.
use mathlib.Core.Path.{refl, sym, ◌∙◌}
use Prim.Native.Nat.{ℕ}
use native.Mathlib.Omega.{arith}
use lib.ListN.{length-replicate}
use Rattle.pins.specs.Pins.{pins_of}
use Rattle.pinning.proofs.Fresh.{fits_fresh}
use Rattle.pinned_search.proofs.Answers.{fits-output, text-is}
use borrow.Author.Rules.{rules}
use Rattle.pinned_search.proofs.search_text.Statement.{statement}
use Rattle.pinned_search.proofs.search_text.Tie as tie
use Rattle.pinned_search.proofs.search_text.Reads as reads
use Rattle.pinned_search.proofs.search_text.Lts as lts
use Rattle.pinning.proofs.pin_circuit.Reads as pin-circuit-reads
use Rattle.search.proofs.search.Reads as search-reads

slice-aggregate-pin-circuit : tie.Need-slice_bounds-pin_circuit-end
slice-aggregate-pin-circuit c = refl

slice-aggregate-pin-circuit-2 : tie.Need-slice_bounds-pin_circuit-end-2
slice-aggregate-pin-circuit-2 c = sym (length-replicate {A = ℕ} 33032 0)

pin-circuit-requires : tie.Need-pin_circuit-requires
pin-circuit-requires c κs =
    let f = c.requires in
    fits_fresh f.held f.layout_of f.user-of 4097 33032 (omega arith) (omega arith)

slice-aggregate-search : tie.Need-slice_bounds-search-end
slice-aggregate-search c = sym (c.pin_circuit.auto.words ∙ length-replicate {A = ℕ} 33032 0)

search-requires : tie.Need-search-requires
search-requires c κs = tt

same_length : tie.Need-shape_of-work
same_length c = c.search.auto.work

same-length-2 : tie.Need-shape_of-text
same-length-2 c = c.search.auto.out

returns : tie.Need-returns
returns c = text-is c.requires (pins_of c.args.pins.now c.args.user) refl (fits-output c.requires)
    c.pin_circuit.ensures
    c.search.ensures

pub search_text_spec : {M : Type 1} → statement M
search_text_spec =
    tie.close
    (tie.spec slice-aggregate-pin-circuit slice-aggregate-pin-circuit-2 pin-circuit-requires slice-aggregate-search search-requires same_length same-length-2 returns)
