-- What stays is what the request left. Assumes nothing.
use Rattle.std.proofs.Common.{sym, refl, ◌∙◌, rules}
use Rattle.panel_serving.proofs.Exchanges.{serves-line}
use Rattle.panel_serving.proofs.turning.served.Statement.{statement}
use Rattle.panel_serving.proofs.turning.served.Tie as tie

array-share-prefix-line : tie.Need-slice_bounds-line-end
array-share-prefix-line c = rw (c.count_of-n.ensures, c.line_of-line.ensures) c.requires.1.counts.0

slice-aggregate-serve : tie.Need-slice_bounds-serve-end
slice-aggregate-serve c = rw (c.count_of-n.ensures, c.line_of-line.ensures) c.requires.1.counts.1

slice-aggregate-serve-2 : tie.Need-slice_bounds-serve-end-2
slice-aggregate-serve-2 c = sym c.requires.0.memory

slice-aggregate-serve-3 : tie.Need-slice_bounds-serve-end-3
slice-aggregate-serve-3 c = sym c.requires.0.pins

serve-requires : tie.Need-serve-served-requires
serve-requires c κs = (c.requires.0.memory, c.requires.2)

counted-requires : tie.Need-counted-tally-requires
counted-requires c κs = c.requires.3

returns : tie.Need-returns
returns c = (
  serves-line c.args.request c.line_of-line.ensures c.count_of-n.ensures c.serve-served.ensures,
  (
    refl,
    record { memory = c.serve-served.auto.m ∙ c.requires.0.memory; pins = c.serve-served.auto.pins ∙ c.requires.0.pins },
    c.counted-tally.ensures,
  ),
)

pub served_spec : {M : Type 1} → statement M
served_spec =
    tie.close
    (tie.spec (λ c κs. search rules) (λ c κs. search rules) array-share-prefix-line slice-aggregate-serve slice-aggregate-serve-2 slice-aggregate-serve-3 serve-requires counted-requires (λ c. search rules) (λ c. search rules) returns)
