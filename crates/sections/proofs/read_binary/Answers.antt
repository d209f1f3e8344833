-- `sections::read_binary` meets its contract: inputs, latches, the sections between latches and gates, and gates, each stored where the
-- table says. Assumes nothing.
use Rattle.std.proofs.Common.{sym, ◌∙◌, arith, ◌+◌, ◌≤◌, ℕ}
use Rattle.layout.proofs.Table.{chained}
use Rattle.sections.proofs.Parts.{runs-inside}
use Rattle.sections.proofs.Binary.{bad-latches, bad-lines, bad-gates, bad-tail, all_read, one-large}
use Rattle.sections.proofs.read_binary.Goals as goal

pub returns-in_default : goal.returns-in_default
returns-in_default c =
    let a = c.args in
    let r2 = rw c.section_at-l.ensures at c.in_default.ensures.0 in
    (bad-latches a.s.now a.at a.p a.limit a.words.now c.requires.places_of r2, tt)

pub read_span-requires-clause-chained : goal.read_span-requires-clause-chained
read_span-requires-clause-chained c =
    let r = c.requires in
    (chained c.args.p r.places_of, omega (arith, r.places_of, r.words_in_bounds, c.read_latches.auto.out, c.store_implied.auto.out))

pub returns-in_default-read_span : goal.returns-in_default-read_span
returns-in_default-read_span c =
    let a = c.args in
    let r = c.requires in
    let r1 = rw c.section_at-i.ensures at c.store_implied.ensures in
    let r2 = rw (c.section_at-l.ensures, c.variable-latch.ensures) at c.in-Some.ensures.0 in
    (bad-lines a.s.now a.at a.p a.limit a.words.now r.places_of r1 r2 c.in_default-read_span.ensures, tt)

pub read_gates-requires-clause-at_in_bounds : goal.read_gates-requires-clause-at_in_bounds
read_gates-requires-clause-at_in_bounds c = runs-inside c.in-Some-read_span.ensures c.in-Some.ensures.0.inside

pub returns-in_default-read_gates : goal.returns-in_default-read_gates
returns-in_default-read_gates c =
    let a = c.args in
    let r = c.requires in
    let r1 = rw c.section_at-i.ensures at c.store_implied.ensures in
    let r2 = rw (c.section_at-l.ensures, c.variable-latch.ensures) at c.in-Some.ensures.0 in
    let r3 = c.in-Some-read_span.ensures in
    let r4 = rw (c.section_at-g.ensures, c.variable-gate.ensures) at c.in_default-read_gates.ensures.0 in
    (bad-gates a.s.now a.at a.p a.limit a.words.now r.places_of r1 r2 r3 r4, tt)

pub returns-then-not-is_tail : goal.returns-then-not-is_tail
returns-then-not-is_tail c =
    let a = c.args in
    let r = c.requires in
    let r1 = rw c.section_at-i.ensures at c.store_implied.ensures in
    let r2 = rw (c.section_at-l.ensures, c.variable-latch.ensures) at c.in-Some.ensures.0 in
    let r3 = c.in-Some-read_span.ensures in
    let r4 = rw (c.section_at-g.ensures, c.variable-gate.ensures) at c.in-Some-read_gates.ensures.0 in
    let e = sym c.is_tail.ensures ∙ c.if-not-is_tail.true in
    (bad-tail a.s.now a.at a.p a.limit a.words.now r.places_of r1 r2 r3 r4 e, tt)

pub returns-then-latches-lines : goal.returns-then-latches-lines
returns-then-latches-lines c =
    let a = c.args in
    let r = c.requires in
    let r1 = rw c.section_at-i.ensures at c.store_implied.ensures in
    let r2 = rw (c.section_at-l.ensures, c.variable-latch.ensures) at c.in-Some.ensures.0 in
    let r3 = c.in-Some-read_span.ensures in
    let r4 = rw (c.section_at-g.ensures, c.variable-gate.ensures) at c.in-Some-read_gates.ensures.0 in
    let e = sym c.is_tail.ensures ∙ c.if-not-is_tail.false in
    all_read a.s.now a.at a.p a.limit a.words.now r.places_of r1 r2 r3 r4 r.words_in_bounds r.limit_value e c.if-latches-lines.true

pub returns : goal.returns
returns c =
    let a = c.args in
    let r = c.requires in
    let r1 = rw c.section_at-i.ensures at c.store_implied.ensures in
    let r2 = rw (c.section_at-l.ensures, c.variable-latch.ensures) at c.in-Some.ensures.0 in
    let r3 = c.in-Some-read_span.ensures in
    let r4 = rw (c.section_at-g.ensures, c.variable-gate.ensures) at c.in-Some-read_gates.ensures.0 in
    let e = sym c.is_tail.ensures ∙ c.if-not-is_tail.false in
    one-large a.s.now a.at a.p a.limit a.words.now r.places_of r1 r2 r3 r4 r.limit_value e c.if-latches-lines.false
