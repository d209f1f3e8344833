-- `search_command::write_spent` meets its contract: the word, then the frame and the place. Assumes nothing.
use Prim.Native.Nat.{◌≤◌}
use native.Mathlib.Omega.{arith}
use lib.ListN.{length}
use Rattle.aiger.specs.Text.{bytes}
use Rattle.output.proofs.Row.{place_short}
use Rattle.replies.proofs.Putting.{Fronted, front-first, front-room, front-more, front-fronts}
use borrow.Author.Rules.{rules}
use Rattle.search_command.proofs.write_spent.Statement.{statement}
use Rattle.search_command.proofs.write_spent.Tie as tie

abbrev start : tie.After-put-at → tie.Start
start w = w.before.before.before.before.before

word : (w : tie.After-put-at) → let a = (start w).args in
    (128 ≤ length a.line.now) × Fronted a.line.now 6 (bytes "spent ") w.put-at.result w.put-at.new.out
word w = let h = (start w).requires in (h, front-first (omega arith) w.put-at.ensures)

put-place-requires : tie.Need-put_place-requires
put-place-requires c κs =
    let p = word c.before.before.before in
    omega (arith, place_short (start c.before.before.before).args.t (start c.before.before.before).args.reached, front-room p.1 32 (omega arith))

returns : tie.Need-returns
returns c =
    let p = word c.before.before.before.before.before.before in
    front-fronts (front-more p.1 32 (omega arith) (place_short (start c.before.before.before.before.before.before).args.t (start c.before.before.before.before.before.before).args.reached) c.put_place.ensures)

pub write_spent_spec : {M : Type 1} → statement M
write_spent_spec =
    tie.close
    (tie.spec (λ c κs. search rules) put-place-requires (λ c. search rules) returns)
