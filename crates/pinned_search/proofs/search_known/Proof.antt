-- `pinned_search::search_known` meets its contract. Assumes nothing.
use mathlib.Core.Path.{◌∙◌}
use native.Mathlib.Omega.{arith}
use borrow.Author.Rules.{rules}
use Rattle.layout.specs.Words.{circuit_in}
use Rattle.roundtrip.proofs.LoadWrite.{counts-fit}
use Rattle.roundtrip.proofs.Holding.{held-valid}
use Rattle.pins.specs.Pins.{pins_of}
use Rattle.pinned_search.proofs.Answers.{fits-bad, fits-full, full_is}
use Rattle.pinned_search.proofs.search_known.Statement.{statement}
use Rattle.pinned_search.proofs.search_known.Tie as tie

cast-b : tie.Need-overflow_cast-b
cast-b c =
    omega (arith, fits-bad c.requires, (counts-fit (circuit_in c.args.m.now) (held-valid c.requires.held).fit).bads)

search-text-requires : tie.Need-search_text-answer-requires
search-text-requires c κs = c.requires

in-full-requires : tie.Need-in_full-requires
in-full-requires c κs =
    fits-full c.requires (pins_of c.args.pins.now c.args.user) c.search_text-answer.result c.search_text-answer.auto.text c.search_text-answer.ensures

same_length : tie.Need-shape_of-work
same_length c = c.search_text-answer.auto.work

same-length-2 : tie.Need-shape_of-out
same-length-2 c = c.in_full.auto.out ∙ c.search_text-answer.auto.text

returns : tie.Need-returns
returns c =
    full_is c.requires (pins_of c.args.pins.now c.args.user) c.search_text-answer.result c.search_text-answer.auto.text c.search_text-answer.ensures c.in_full.ensures

pub search_known_spec : {M : Type 1} → statement M
search_known_spec =
    tie.close
    (tie.spec cast-b search-text-requires in-full-requires same_length same-length-2 returns)
