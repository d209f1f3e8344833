-- `replies::write_refusal` meets its contract: the parts of the line, one after the other. Assumes nothing.
use mathlib.Core.List.{◌++◌}
use Prim.Native.Nat.{◌≤◌}
use native.Mathlib.Omega.{arith}
use lib.ListN.{length}
use Rattle.aiger.specs.Text.{bytes, digits}
use Rattle.numbers.proofs.Digits.{digits-most}
use Rattle.replies.specs.Refusal.{cause, refusal_text}
use Rattle.replies.proofs.Causes.{cause-short}
use Rattle.replies.proofs.Putting.{Fronted, front-first, front-room, front-more, front-fronts}
use borrow.Author.Rules.{rules}
use Rattle.replies.proofs.write_refusal.Statement.{statement}
use Rattle.replies.proofs.write_refusal.Tie as tie

-- where each part was put
abbrev one : tie.After-put_number-colon → tie.After-put-number
one w = w.before.before.before.before

abbrev two : tie.After-put-words → tie.After-put_number-colon
two w = w.before.before.before.before.before.before

abbrev three : tie.After-put_cause-end → tie.After-put-words
three w = w.before.before.before.before

-- the line so far, after each part but the last
word : (w : tie.After-put-number) → let a = w.args in
    (128 ≤ length a.line.now) × Fronted a.line.now 8 (bytes "refused ") w.put-number.result w.put-number.new.out
word w = let h = w.requires in (h, front-first (omega arith) w.put-number.ensures)

number : (w : tie.After-put_number-colon) → let a = (one w).args in
    (128 ≤ length a.line.now)
    × Fronted a.line.now 18 (bytes "refused " ++ digits a.n) w.put_number-colon.result w.put_number-colon.new.out
number w =
    let p = word (one w) in
    (p.0, front-more p.1 10 (omega arith) (digits-most 9 (one w).args.n) w.put_number-colon.ensures)

colon : (w : tie.After-put-words) → let a = (one (two w)).args in
    (128 ≤ length a.line.now)
    × Fronted a.line.now 20 (bytes "refused " ++ digits a.n ++ bytes ": ") w.put-words.result w.put-words.new.out
colon w = let p = number (two w) in (p.0, front-more p.1 2 (omega arith) (omega arith) w.put-words.ensures)

words : (w : tie.After-put_cause-end) → let a = (one (two (three w))).args in
    (128 ≤ length a.line.now)
    × Fronted a.line.now 100 (bytes "refused " ++ digits a.n ++ bytes ": " ++ cause a.n) w.put_cause-end.result
    w.put_cause-end.new.line
words w =
    let p = colon (three w) in
    let a = (one (two (three w))).args in
    (p.0, front-more p.1 80 (omega arith) (cause-short a.n) w.put_cause-end.ensures)

put-number-requires : tie.Need-put_number-colon-requires
put-number-requires c κs =
    let p = word c.before.before.before in
    omega (arith, digits-most 9 c.args.n, front-room p.1 10 (omega arith))

put-requires-2 : tie.Need-put-words-requires
put-requires-2 c κs = let p = number c.before.before.before.before.before in front-room p.1 2 (omega arith)

put-cause-requires : tie.Need-put_cause-end-requires
put-cause-requires c κs = let p = colon c.before.before.before in front-room p.1 80 (omega arith)

put-requires-3 : tie.Need-put-requires
put-requires-3 c κs = let p = words c.before.before.before.before.before in front-room p.1 1 (omega arith)

returns : tie.Need-returns
unfolding refusal_text
returns c =
    let p = words c.before.before.before.before.before.before.before.before in
    front-fronts (front-more p.1 1 (omega arith) (omega arith) c.put.ensures)

pub write_refusal_spec : {M : Type 1} → statement M
write_refusal_spec =
    tie.close
    (tie.spec (λ c. search rules) put-number-requires put-requires-2 put-cause-requires put-requires-3 (λ c. search rules) returns)
