-- `join_command::join` meets its contract. Assumes nothing.
use mathlib.Core.Path.{ap}
use native.Mathlib.Omega.{arith}
use lib.ListN.{length}
use Rattle.join_command.proofs.Joining.{join-refusal, join-held, join-shown}
use borrow.Author.Rules.{rules}
use Rattle.join_command.proofs.join.Statement.{statement}
use Rattle.join_command.proofs.join.Tie as tie

returns : tie.Need-returns-then-joined-eq0
returns c =
    let a = c.args in
    let j = c.join_files-joined.ensures in
    (join-refusal a.third.now a.old.now a.new.now c.requires.2 j.0 a.out.now c.if-joined-eq0.true, (j.1, j.0.third-is))

write-loaded-requires : tie.Need-write_loaded-requires
write-loaded-requires c κs =
    let a = c.args in
    let h = join-held a.third.now a.old.now a.new.now c.requires.2 c.join_files-joined.ensures.0 c.if-joined-eq0.false in
    (h.0, c.requires.3, omega (arith, ap length h.2, c.requires.4), omega arith)

returns-2 : tie.Need-returns
returns-2 c =
    let a = c.args in
    let j = c.join_files-joined.ensures in
    (join-shown a.third.now a.old.now a.new.now c.requires.2 j.0 c.if-joined-eq0.false c.write_loaded.ensures, (j.1, j.0.third-is))

pub join_spec : {M : Type 1} → statement M
join_spec =
    tie.close
    (tie.spec (λ c κs. search rules) (λ c. search rules) (λ c. search rules) (λ c. search rules) (λ c. search rules) returns write-loaded-requires (λ c. search rules) (λ c. search rules) (λ c. search rules) (λ c. search rules) (λ c. search rules) returns-2)
