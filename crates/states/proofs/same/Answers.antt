-- Two states are the same where their words are. Assumes nothing.
use mathlib.Core.Path.{◌≡◌, sym, ap, ◌∙◌}
use Prim.Native.Nat.{ℕ, ◌+◌}
use native.Mathlib.Omega.{arith}
use borrow.Author.Tests.{eq-eqb, ne_eqb}
use lib.ListN.{length, get_or}
use Rattle.states.specs.Number.{number_at}
use Rattle.states.proofs.Numbers.{number_same, words_same}
use Rattle.states.proofs.same.Goals as goal

pub returns-then-records-at : goal.returns-then-records-at
returns-then-records-at c =
    let r = c.args.records.now in
    let s = c.args.s.now in
    let i = c.loop-i.i in
    let z : 0 + i ≡ i = omega arith in
    sym (ne_eqb (number_at r c.args.at (length s)) (number_at s 0 (length s))
    (λ e. c.if-records-at.true (words_same r s (λ j. omega (arith, c.type_inv.records j)) (λ j. omega (arith, c.type_inv.s j)) c.args.at 0 (length s) i (omega arith) e
    ∙ ap (λ (x : ℕ). get_or s x 0) z)))

pub returns : goal.returns
returns c =
    let r = c.args.records.now in
    let s = c.args.s.now in
    sym (eq-eqb (number_at r c.args.at (length s)) (number_at s 0 (length s))
    (number_same r s c.args.at 0 (length s)
    (λ j l. let z : j ≡ 0 + j = omega arith in c.loop-i.invariant j (omega arith) ∙ ap (λ (x : ℕ). get_or s x 0) z)))
