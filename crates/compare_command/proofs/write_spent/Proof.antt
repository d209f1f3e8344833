-- `compare_command::write_spent` meets its contract: the parts of the line, one after the other. Assumes nothing.
use mathlib.Core.List.{◌++◌}
use Prim.Native.Nat.{◌≤◌}
use native.Mathlib.Omega.{arith}
use lib.ListN.{length}
use Rattle.aiger.specs.Text.{bytes, digits}
use Rattle.numbers.proofs.Digits.{digits-most}
use Rattle.output.proofs.Row.{place_short}
use Rattle.replies.proofs.Putting.{Fronted, front-first, front-room, front-more, front-fronts}
use borrow.Author.Rules.{rules}
use Rattle.compare_command.proofs.write_spent.Statement.{statement}
use Rattle.compare_command.proofs.write_spent.Tie as tie

-- where each part was put
abbrev start : tie.After-put-number → tie.Start
start w = w.before.before.before.before.before

abbrev one : tie.After-put_number-words → tie.After-put-number
one w = w.before.before.before.before

abbrev two : tie.After-put-at → tie.After-put_number-words
two w = w.before.before.before.before.before.before

-- the line so far, after each part but the last
output : (w : tie.After-put-number) → let a = (start w).args in
    (128 ≤ length a.line.now) × Fronted a.line.now 7 (bytes "output ") w.put-number.result w.put-number.new.out
output w = let h = (start w).requires in (h, front-first (omega arith) w.put-number.ensures)

number : (w : tie.After-put_number-words) → let a = (start (one w)).args in
    (128 ≤ length a.line.now) × Fronted a.line.now 17 (bytes "output " ++ digits a.j) w.put_number-words.result w.put_number-words.new.out
number w =
    let p = output (one w) in
    (p.0, front-more p.1 10 (omega arith) (digits-most 9 (start (one w)).args.j) w.put_number-words.ensures)

words : (w : tie.After-put-at) → let a = (start (one (two w))).args in
    (128 ≤ length a.line.now) × Fronted a.line.now 25 (bytes "output " ++ digits a.j ++ bytes ": spent ") w.put-at.result w.put-at.new.out
words w = let p = number (two w) in (p.0, front-more p.1 8 (omega arith) (omega arith) w.put-at.ensures)

put-number-requires : tie.Need-put_number-words-requires
put-number-requires c κs =
    let p = output c.before.before.before in
    omega (arith, digits-most 9 (start c.before.before.before).args.j, front-room p.1 10 (omega arith))

put-requires-2 : tie.Need-put-at-requires
put-requires-2 c κs = let p = number c.before.before.before.before.before in front-room p.1 8 (omega arith)

put-place-requires : tie.Need-put_place-requires
put-place-requires c κs =
    let p = words c.before.before.before in
    let a = (start (one (two c.before.before.before))).args in
    omega (arith, place_short a.t a.reached, front-room p.1 32 (omega arith))

returns : tie.Need-returns
returns c =
    let p = words c.before.before.before.before.before.before in
    let a = (start (one (two c.before.before.before.before.before.before))).args in
    front-fronts (front-more p.1 32 (omega arith) (place_short a.t a.reached) c.put_place.ensures)

pub write_spent_spec : {M : Type 1} → statement M
write_spent_spec =
    tie.close
    (tie.spec (λ c κs. search rules) put-number-requires put-requires-2 put-place-requires (λ c. search rules) returns)
