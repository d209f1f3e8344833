-- `replies::write_line` meets its contract: the parts of the line, one after the other. Assumes nothing.
use mathlib.Core.List.{◌++◌}
use Prim.Native.Nat.{◌+◌}
use native.Mathlib.Omega.{arith}
use lib.ListN.{length}
use Rattle.aiger.specs.Text.{digits}
use Rattle.numbers.proofs.Digits.{digits-most}
use Rattle.replies.proofs.Putting.{Fronted, front-first, front-room, front-more, front-fronts}
use borrow.Author.Rules.{rules}
use Rattle.replies.proofs.write_line.Statement.{statement}
use Rattle.replies.proofs.write_line.Tie as tie

abbrev start : tie.After-put-number → tie.Start
start w = w.before.before.before.before

abbrev one : tie.After-put_number-end → tie.After-put-number
one w = w.before.before.before.before

-- the line so far, after each part but the last
word : (w : tie.After-put-number) → let a = (start w).args in
    Fronted a.line.now (length a.word.now) a.word.now w.put-number.result w.put-number.new.out
word w = front-first (omega (arith, (start w).requires)) w.put-number.ensures

number : (w : tie.After-put_number-end) → let a = (start (one w)).args in
    Fronted a.line.now (length a.word.now + 10) (a.word.now ++ digits a.n) w.put_number-end.result w.put_number-end.new.out
number w =
    let s = start (one w) in
    front-more (word (one w)) 10 (omega (arith, s.requires)) (digits-most 9 s.args.n) w.put_number-end.ensures

put-number-requires : tie.Need-put_number-end-requires
put-number-requires c κs =
    let s = start c.before.before.before in
    omega (arith, digits-most 9 s.args.n, front-room (word c.before.before.before) 10 (omega (arith, s.requires)))

put-requires-2 : tie.Need-put-requires
put-requires-2 c κs = front-room (number c.before.before.before.before.before) 1 (omega (arith, (start (one c.before.before.before.before.before)).requires))

returns : tie.Need-returns
returns c =
    front-fronts (front-more (number c.before.before.before.before.before.before.before.before) 1 (omega (arith, (start (one c.before.before.before.before.before.before.before.before)).requires)) (omega arith) c.put.ensures)

pub write_line_spec : {M : Type 1} → statement M
write_line_spec =
    tie.close
    (tie.spec (λ c κs. search rules) put-number-requires put-requires-2 (λ c. search rules) returns)
