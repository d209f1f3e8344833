-- `vcd::name_at` meets its contract: a kind of wire for each answer. Assumes nothing.
use native.Mathlib.Omega.{arith}
use Rattle.vcd.proofs.Names.{input-name, latch-name, output-name, bad-name, constraint-name}
use borrow.Author.Rules.{rules}
use Rattle.vcd.proofs.name_at.Statement.{statement}
use Rattle.vcd.proofs.name_at.Tie as tie
use Rattle.vcd.proofs.name_at.Reads as reads
use Rattle.vcd.proofs.name_at.Lts as lts

returns : tie.Need-returns-then-k-layout
returns c =
    let a = c.args in
    let p = a.layout in
    (input-name p.i p.l p.o p.b p.c a.k (omega arith), omega arith)

returns-2 : tie.Need-returns-then-l-layout
returns-2 c =
    let a = c.args in
    let p = a.layout in
    (latch-name p.i p.l p.o p.b p.c a.k (omega arith) (omega arith), omega arith)

returns-3 : tie.Need-returns-then-o-layout
returns-3 c =
    let a = c.args in
    let p = a.layout in
    (output-name p.i p.l p.o p.b p.c a.k (omega arith) (omega arith) (omega arith), omega arith)

returns-4 : tie.Need-returns-then-b-layout
returns-4 c =
    let a = c.args in
    let p = a.layout in
    (bad-name p.i p.l p.o p.b p.c a.k (omega arith) (omega arith) (omega arith) (omega arith), omega arith)

returns-5 : tie.Need-returns
returns-5 c =
    let a = c.args in
    let p = a.layout in
    (constraint-name p.i p.l p.o p.b p.c a.k (omega arith) (omega arith) (omega arith) (omega arith) (omega arith), omega arith)

pub name_at_spec : {M : Type 1} → statement M
name_at_spec =
    tie.close
    (tie.spec (λ c. search rules) returns (λ c. search rules) returns-2 (λ c. search rules) returns-3 (λ c. search rules) returns-4 (λ c. search rules) returns-5)
