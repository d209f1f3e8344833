-- `write_command::write` meets its contract. Assumes nothing.
use mathlib.Core.Path.{ap}
use Rattle.load.specs.Answers.{answered}
use Rattle.load_laws.proofs.Stored.{not-loaded, stored, stored-in}
use Rattle.replies.proofs.Loading.{loaded-words}
use Rattle.write_command.proofs.Answers.{write-refusal, write-text}
use borrow.Author.Rules.{rules}
use Rattle.write_command.proofs.write.Statement.{statement}
use Rattle.write_command.proofs.write.Tie as tie

write-loaded-requires : tie.Need-write_loaded-requires
write-loaded-requires c κs =
    (stored-in (stored c.load.ensures (ap answered c.in-Loaded.is)), c.requires.1, c.requires.2)

returns : tie.Need-returns-in-Refused
returns c =
    let f = c.refuse.ensures in
    let a = c.args in
    let e = not-loaded c.load.ensures (ap answered c.in-Refused.is) in
    (write-refusal a.binary a.m.now a.file.now c.requires.0 a.out.now e f.0 f.1, loaded-words c.load.ensures)

returns-2 : tie.Need-returns-in-Loaded
returns-2 c =
    let g = c.write_loaded.ensures in
    let e = stored c.load.ensures (ap answered c.in-Loaded.is) in
    (rw (write-text c.args.binary c.args.m.now c.args.file.now c.requires.0 e) at g, loaded-words c.load.ensures)

pub write_spec : {M : Type 1} → statement M
write_spec =
    tie.close
    (tie.spec (λ c κs. search rules) (λ c. search rules) (λ c κs. search rules) (λ c. search rules) write-loaded-requires (λ c. search rules) (λ c. search rules) returns (λ c. search rules) (λ c. search rules) (λ c. search rules) returns-2)
