-- `sections::read_text` meets its contract: all sections of the table, and the tail. Assumes nothing.
use Rattle.std.proofs.Common.{sym, ◌∙◌, arith}
use Rattle.layout.proofs.Table.{chained}
use Rattle.sections.proofs.Parts.{no_lines, no-tail, all_read, one-large}
use Rattle.sections.proofs.read_text.Goals as goal

pub read_span-requires-clause-chained : goal.read_span-requires-clause-chained
read_span-requires-clause-chained c =
    let r = c.requires in
    (chained c.args.p r.places_of, omega (arith, r.places_of, r.words_in_bounds))

pub returns-in_default : goal.returns-in_default
returns-in_default c =
    let a = c.args in
    (no_lines a.s.now a.at a.p a.limit a.words.now c.requires.places_of c.in_default.ensures, tt)

pub returns-then-not-is_tail : goal.returns-then-not-is_tail
returns-then-not-is_tail c =
    let a = c.args in
    let e = sym c.is_tail.ensures ∙ c.if-not-is_tail.true in
    (no-tail a.s.now a.at a.p a.limit a.words.now c.requires.places_of c.in-Some.ensures e, tt)

pub returns-then-lines : goal.returns-then-lines
returns-then-lines c =
    let a = c.args in
    let e = sym c.is_tail.ensures ∙ c.if-not-is_tail.false in
    all_read a.s.now a.at a.p a.limit a.words.now c.requires.places_of c.in-Some.ensures c.requires.words_in_bounds c.requires.limit_value e
    c.if-lines.true

pub returns : goal.returns
returns c =
    let a = c.args in
    let e = sym c.is_tail.ensures ∙ c.if-not-is_tail.false in
    one-large a.s.now a.at a.p a.limit a.words.now c.requires.places_of c.in-Some.ensures c.requires.limit_value e c.if-lines.false
