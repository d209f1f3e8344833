-- `panel_lines::verb_of` meets its contract. Assumes nothing.
use mathlib.Core.Option.{some}
use Rattle.aiger.specs.Lists.{same}
use Rattle.aiger.specs.Text.{bytes}
use Rattle.panel_lines.specs.Reading.{bytes_of}
use Rattle.panel_lines.specs.declared.Verb.{Verb}
use Rattle.panel_lines.proofs.Commands.{verb-more}
use borrow.Author.Rules.{rules}
use Rattle.panel_lines.proofs.verb_of.Statement.{statement}
use Rattle.panel_lines.proofs.verb_of.Tie as tie

verb-where-requires-9 : tie.Need-verb_where-verb-requires-9
verb-where-requires-9 c κs = c.requires

verb-where-requires-10 : tie.Need-verb_where-verb-requires-10
verb-where-requires-10 c κs = c.requires

verb-where-requires-11 : tie.Need-verb_where-verb-requires-11
verb-where-requires-11 c κs = c.requires

returns : tie.Need-returns
returns c =
    let w = bytes_of c.args.request.now c.args.part in
    verb-more (same w (bytes "pin")) (some Verb.Pin) c.verb_where.ensures
    (verb-more (same w (bytes "search")) (some Verb.Search) c.verb_where-verb-11.ensures
    (verb-more (same w (bytes "fold")) (some Verb.Fold) c.verb_where-verb-10.ensures
    (verb-more (same w (bytes "write")) (some Verb.Write) c.verb_where-verb-9.ensures
    (verb-more (same w (bytes "load")) (some Verb.Load) c.verb_where-verb-8.ensures
    (verb-more (same w (bytes "preview")) (some Verb.Preview) c.verb_where-verb-7.ensures
    (verb-more (same w (bytes "join")) (some Verb.Join) c.verb_where-verb-6.ensures
    (verb-more (same w (bytes "replay")) (some Verb.Replay) c.verb_where-verb-5.ensures
    (verb-more (same w (bytes "widen")) (some Verb.Widen) c.verb_where-verb-4.ensures
    (verb-more (same w (bytes "waveform")) (some Verb.Waveform) c.verb_where-verb-3.ensures
    (verb-more (same w (bytes "generate")) (some Verb.Generate) c.verb_where-verb-2.ensures
    c.verb_where-verb.ensures))))))))))

verb-where-requires-12 : tie.Need-verb_where-requires
verb-where-requires-12 c κs = c.requires

pub verb_of_spec : {M : Type 1} → statement M
verb_of_spec =
    tie.close
    (tie.spec (λ c. search rules) (λ c κs. search rules) (λ c. search rules) (λ c κs. search rules) (λ c. search rules) (λ c κs. search rules) (λ c. search rules) (λ c κs. search rules) verb-where-requires-9 verb-where-requires-10 verb-where-requires-11 verb-where-requires-12 returns)
