-- `replay::judge_under` meets its contract. Assumes nothing.
use mathlib.Core.Path.{sym, ◌∙◌}
use Prim.Native.Nat.{ℕ}
use borrow.Author.Rules.{rules}
use borrow.Author.Tests.{not-true, not-false}
use lib.ListN.{get_or}
use Rattle.replay.proofs.Under.{rows_fit, inputs-few, no_hit, as_plain, by_copy}
use Rattle.replay.proofs.judge_under.Statement.{statement}
use Rattle.replay.proofs.judge_under.Tie as tie

rows-of-requires : tie.Need-rows_of-rows-requires
rows-of-requires c κs = rows_fit c.requires.ready c.requires.fits

-- after the rows: the entry and the pins
module _ (r : tie.After-rows_of-rows) where
  abbrev S : tie.Start
  S = r.before.before.before.before.before.before.before

  abbrev q : ℕ → ℕ
  q i = get_or S.args.own.now i 2

agree-requires : tie.Need-agree-requires
agree-requires c κs = inputs-few (S c).requires.ready (S c).requires.fits (q c) c.rows_of-rows.result c.rows_of-rows.ensures

returns : tie.Need-returns-then-not-agree
returns c =
    no_hit (S c.before.before).requires.ready (S c.before.before).requires.fits (q c.before.before) c.rows_of-rows.result c.rows_of-rows.ensures c.agree.ensures
    c.if-not-agree.true

agree-requires-2 : tie.Need-agree-requires-2
agree-requires-2 c κs =
    inputs-few (S c.before.before).requires.ready (S c.before.before).requires.fits (q c.before.before) c.rows_of-rows.result c.rows_of-rows.ensures

judge-alone-requires : tie.Need-judge_alone-requires
judge-alone-requires c κs = (S c.before.before.before.before).requires

returns-2 : tie.Need-returns-then-agree
returns-2 c =
    as_plain (S c.before.before.before.before.before).requires.ready (S c.before.before.before.before.before).requires.fits (q c.before.before.before.before.before) c.rows_of-rows.result c.rows_of-rows.ensures c.judge_alone.result
    c.agree-2.ensures c.if-agree.true c.judge_alone.ensures

judge-settled-requires : tie.Need-judge_settled-requires
judge-settled-requires c κs = (S c.before.before.before.before).requires

demote-requires : tie.Need-demote-requires
demote-requires c κs = tt

returns-3 : tie.Need-returns
returns-3 c =
    by_copy (S c.before.before.before.before.before.before).requires.ready (S c.before.before.before.before.before.before).requires.fits (q c.before.before.before.before.before.before) c.rows_of-rows.result c.rows_of-rows.ensures c.judge_settled.result
    c.demote.result c.agree.ensures c.if-not-agree.false
    c.agree-2.ensures c.if-agree.false c.judge_settled.ensures c.demote.ensures

pub judge_under_spec : {M : Type 1} → statement M
judge_under_spec =
    tie.close
    (tie.spec rows-of-requires agree-requires returns agree-requires-2 judge-alone-requires returns-2 judge-settled-requires demote-requires returns-3)
