-- `output::put_row`: the row is written but for the words that are left. Assumes nothing.
use Rattle.std.proofs.Common.{◌≡◌, ◌+◌, ◌-◌, arith, get_or}
use Rattle.output.specs.Row.{number_text, row_text}
use Rattle.output.proofs.Row.{row_more, row-none}
use Rattle.output.proofs.Output.{Rest, rest-start, rest-room, rest_more, rest_end}
use Rattle.output.proofs.put_row.Goals as goal

pub loop-k-init : goal.loop-k-init
loop-k-init c =
    let p : c.args.first + 0 ≡ c.args.first = omega arith in
    let n : c.args.n - 0 ≡ c.args.n = omega arith in
    rw (p, n) (rest-start c.args.out.now c.args.at (row_text c.args.m.now c.args.first c.args.n))

pub put_ended-end-requires : goal.put_ended-end-requires
put_ended-end-requires c =
    let m = c.args.m.now in
    let p = c.args.first + c.loop-k.k in
    let n = c.args.n - c.loop-k.k in
    rest-room (number_text (get_or m p 0) (n - 1)) (row_text m (p + 1) (n - 1)) c.requires.1
    (rw (row_more m p n (omega arith)) at c.loop-k.invariant)

pub loop-k-preserved : goal.loop-k-preserved
loop-k-preserved c =
    let m = c.args.m.now in
    let p = c.args.first + c.loop-k.k in
    let n = c.args.n - c.loop-k.k in
    let e : c.args.first + (c.loop-k.k + 1) ≡ p + 1 = omega arith in
    let d : c.args.n - (c.loop-k.k + 1) ≡ n - 1 = omega arith in
    rw (e, d) (rest_more (number_text (get_or m p 0) (n - 1)) (row_text m (p + 1) (n - 1)) c.requires.1
    (rw (row_more m p n (omega arith)) at c.loop-k.invariant) c.put_ended-end.ensures)

pub returns : goal.returns
returns c =
    rest_end (rw (row-none c.args.m.now (c.args.first + c.loop-k.k) (c.args.n - c.loop-k.k) (omega arith)) at c.loop-k.invariant)
