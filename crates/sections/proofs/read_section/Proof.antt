-- `sections::read_section` meets its contract, form by form. Assumes nothing.
use native.Mathlib.Omega.{arith}
use borrow.Author.Rules.{rules}
use Rattle.sections.proofs.Forms.{Formed, form-one, form-two, form-three, form-room, form-at}
use Rattle.sections.proofs.read_section.Statement.{statement}
use Rattle.sections.proofs.read_section.Tie as tie

-- the section's form in each arm

literals : (n : tie.In-1)
    → let a = n.args in
    Formed a.p a.k n.section_at-t.result 1 1
literals n =
    form-one n.args.p n.args.k n.requires.1.0 n.section_at-t.result n.section_at-t.ensures n.in-1.is

latches : (n : tie.In-2)
    → let a = n.args in
    Formed a.p a.k n.section_at-t.result 2 3
latches n =
    form-two n.args.p n.args.k n.requires.1.0 n.section_at-t.result n.section_at-t.ensures n.in-2.is

gates : (n : tie.In_default)
    → let a = n.args in
    Formed a.p a.k n.section_at-t.result 3 3
gates n =
    form-three n.args.p n.args.k n.requires.1.0 n.section_at-t.result n.section_at-t.ensures n.in_default.in_default-own.rest.0.1
    n.in_default.in_default-own.rest.1

section-at-requires : tie.Need-section_at-t-requires
section-at-requires c κs = c.requires.1.0

read-rows-requires : tie.Need-read_rows-requires
read-rows-requires c κs =
    (c.requires.0, (omega arith, form-room (literals c.before) c.requires.1.1))

read-rows-requires-2 : tie.Need-read_rows-requires-in-2
read-rows-requires-2 c κs =
    (c.requires.0, (omega arith, form-room (latches c.before) c.requires.1.1))

read-rows-requires-3 : tie.Need-read_rows-requires-in_default
read-rows-requires-3 c κs =
    (c.requires.0, (omega arith, form-room (gates c.before) c.requires.1.1))

returns : tie.Need-returns-in-1
returns c =
    let a = c.args in
    form-at (literals c.before.before.before.before) a.s.now a.at a.limit a.words.now
    c.read_rows.new.out c.read_rows.result c.read_rows.ensures.0

returns-2 : tie.Need-returns-in-2
returns-2 c =
    let a = c.args in
    form-at (latches c.before.before.before.before) a.s.now a.at a.limit a.words.now
    c.read_rows-in-2.new.out c.read_rows-in-2.result c.read_rows-in-2.ensures.0

returns-3 : tie.Need-returns-in_default
returns-3 c =
    let a = c.args in
    form-at (gates c.before.before.before.before) a.s.now a.at a.limit a.words.now
    c.read_rows-in_default.new.out c.read_rows-in_default.result c.read_rows-in_default.ensures.0

pub read_section_spec : {M : Type 1} → statement M
read_section_spec =
    tie.close
    (tie.spec section-at-requires read-rows-requires read-rows-requires-2 read-rows-requires-3 (λ c. search rules) returns (λ c. search rules) returns-2 (λ c. search rules) returns-3)
