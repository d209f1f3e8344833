-- `join::check_join` meets its contract: each number by the test that fails. Assumes nothing.
use mathlib.Core.Path.{◌≡◌, sym, ap, ◌∙◌}
use native.Mathlib.Omega.{arith}
use borrow.Author.Rules.{rules}
use Rattle.aiger.specs.File.{counts_fit}
use Rattle.load.specs.declared.Counts.{Counts}
use Rattle.load.specs.Steps.{header_meant}
use Rattle.join.specs.Answers.{counts_of}
use borrow.Author.Tests.{not-true, not-false}
use Rattle.join.proofs.Answers.{says-17, says-3, says-4, says_none}
use Rattle.join.proofs.check_join.Statement.{statement}
use Rattle.join.proofs.check_join.Tie as tie

returns : tie.Need-returns-then-not-can_pair
returns c =
    let a = c.args in says-17 a.p a.q a.room (sym c.can_pair.ensures ∙ c.if-not-can_pair.true)

joined-counts-requires : tie.Need-joined_counts-k-requires
joined-counts-requires c κs = c.requires

returns-2 : tie.Need-returns-then-not-are_small
returns-2 c =
    let a = c.args in
    let k = ap (λ (x : Counts). counts_fit (header_meant x)) c.joined_counts-k.ensures in
    says-3 a.p a.q a.room (sym c.can_pair.ensures ∙ c.if-not-can_pair.false)
    (sym k ∙ sym c.are_small.ensures ∙ c.if-not-are_small.true)

returns-3 : tie.Need-returns-then-room-k
returns-3 c =
    let a = c.args in
    let k = ap (λ (x : Counts). counts_fit (header_meant x)) c.joined_counts-k.ensures in
    says-4 a.p a.q a.room (sym c.can_pair.ensures ∙ c.if-not-can_pair.false)
    (sym k ∙ sym c.are_small.ensures ∙ c.if-not-are_small.false) (omega (arith, ap (λ (x : Counts). x.m) c.joined_counts-k.ensures))

returns-4 : tie.Need-returns
returns-4 c =
    let a = c.args in
    let k = ap (λ (x : Counts). counts_fit (header_meant x)) c.joined_counts-k.ensures in
    says_none a.p a.q a.room (sym c.can_pair.ensures ∙ c.if-not-can_pair.false)
    (sym k ∙ sym c.are_small.ensures ∙ c.if-not-are_small.false) c.requires.0 c.requires.1
    (omega (arith, ap (λ (x : Counts). x.m) c.joined_counts-k.ensures))

pub check_join_spec : {M : Type 1} → statement M
check_join_spec =
    tie.close
    (tie.spec (λ c κs. search rules) returns joined-counts-requires (λ c κs. search rules) returns-2 (λ c. search rules) (λ c. search rules) (λ c. search rules) (λ c. search rules) returns-3 returns-4)
