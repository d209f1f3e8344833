-- `attempts::scan_support` meets its contract. Assumes nothing.
use native.Mathlib.Omega.{arith}
use borrow.Author.Rules.{rules}
use Rattle.attempts.proofs.Small.{power-few, shifted}
use Rattle.attempts.proofs.Graphs.{scan-hit, scan-clear, scan-spent}
use Rattle.attempts.proofs.scan_support.Statement.{statement}
use Rattle.attempts.proofs.scan_support.Tie as tie

first-hit-requires : tie.Need-first_hit-requires
first-hit-requires c κs =
    let p = c.requires in
    let s = c.args.s in
    (p.net, (omega (arith, shifted s p.few, power-few s p.few), λ y l t. omega arith))

returns : tie.Need-returns-in-Hit
returns c =
    let a = c.args in
    let p = c.requires in
    λ C b t u. scan-hit u a.s _ a.cost (shifted a.s p.few) p.count c.first_hit.new.work c.first_hit.result c.first_hit.ensures c.in-Hit.is

returns-2 : tie.Need-returns-in-Clear
returns-2 c =
    let a = c.args in
    let p = c.requires in
    λ C b t u. scan-clear u a.s _ a.cost (shifted a.s p.few) p.count c.first_hit.new.work c.first_hit.result c.first_hit.ensures c.in-Clear.is

returns-3 : tie.Need-returns-in-Spent
returns-3 c =
    let a = c.args in
    let p = c.requires in
    λ C b t u. scan-spent u a.s _ a.cost (shifted a.s p.few) p.count c.first_hit.new.work c.first_hit.result c.first_hit.ensures c.in-Spent.is

pub scan_support_spec : {M : Type 1} → statement M
scan_support_spec =
    tie.close
    (tie.spec (λ c. search rules) first-hit-requires (λ c. search rules) (λ c. search rules) (λ c. search rules) (λ c. search rules) returns (λ c. search rules) returns-2 (λ c. search rules) returns-3)
