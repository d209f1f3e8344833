-- `witness::write_heading` meets its contract: the bytes before the number, and the number with the line feed after it. Assumes nothing.
use mathlib.Core.Path.{◌≡◌, ◌∙◌}
use mathlib.Core.List.{List, ◌++◌}
use native.Mathlib.Nat.{zero-add}
use native.Mathlib.Omega.{arith}
use borrow.Author.Rules.{rules}
use lib.ListN.{length-append}
use Rattle.aiger.specs.Text.{bytes, digits}
use Rattle.output.specs.Output.{Room, Placed}
use Rattle.output.specs.Row.{number_text}
use Rattle.output.proofs.Output.{put_front, room-first, room-second, placed-two}
use Rattle.witness.specs.Writing.{heading_text}
use Rattle.witness.proofs.Parts.{heading-length}
use Rattle.witness.proofs.write_heading.Statement.{statement}
use Rattle.witness.proofs.write_heading.Tie as tie

-- there is room for both parts
room : (s : tie.Start) → Room s.args.out.now 0 (bytes "1\nb" ++ number_text s.args.b 0)
room s = omega (arith, s.requires, heading-length s.args.b, length-append (digits s.args.b) (bytes "\n"))

put-requires : tie.Need-put-number-requires
put-requires c κs =
    room-first c.args.out.now 0 (bytes "1\nb") (number_text c.args.b 0) (room c.before.before.before.before)

put-ended-requires : tie.Need-put_ended-requires
put-ended-requires c κs =
    room-second c.args.out.now 0 (bytes "1\nb") (number_text c.args.b 0) (room c.before.before.before.before.before.before.before.before) c.put-number.ensures

returns : tie.Need-returns
unfolding heading_text
returns c =
    let o = c.args.out.now in
    let n = number_text c.args.b 0 in
    let p = placed-two o 0 (bytes "1\nb") n (room c.before.before.before.before.before.before.before.before.before.before.before) c.put-number.ensures c.put_ended.ensures in
    (p.past ∙ zero-add _, p.contents ∙ put_front o (bytes "1\nb" ++ n))

pub write_heading_spec : {M : Type 1} → statement M
write_heading_spec = tie.close (tie.spec put-requires put-ended-requires (λ c. search rules) returns)
