-- `widen_command::widen` meets its contract. Assumes nothing.
use mathlib.Core.Path.{ap}
use Rattle.load.specs.Answers.{answered}
use Rattle.load_laws.proofs.Stored.{not-loaded, stored, stored-in}
use Rattle.replies.proofs.Loading.{loaded-words}
use Rattle.widen_command.proofs.Answers.{widen-unloaded, widen-text}
use borrow.Author.Rules.{rules}
use Rattle.widen_command.proofs.widen.Statement.{statement}
use Rattle.widen_command.proofs.widen.Tie as tie

widen-loaded-requires : tie.Need-widen_loaded-requires
widen-loaded-requires c κs =
    let h = stored c.load.ensures (ap answered c.in-Loaded.is) in
    (stored-in h, c.requires.2)

returns : tie.Need-returns-in-Refused
returns c =
    let f = c.refuse.ensures in
    let a = c.args in
    let e = not-loaded c.load.ensures (ap answered c.in-Refused.is) in
    (widen-unloaded a.m.now a.file.now a.witness.now c.requires.0 a.out.now e f.0 f.1, loaded-words c.load.ensures)

returns-2 : tie.Need-returns-in-Loaded
returns-2 c =
    let g = c.widen_loaded.ensures in
    let a = c.args in
    let e = stored c.load.ensures (ap answered c.in-Loaded.is) in
    let x = widen-text a.m.now a.file.now a.witness.now c.requires.0 e in
    (rw x at (rw c.requires.1 at g), loaded-words c.load.ensures)

pub widen_spec : {M : Type 1} → statement M
widen_spec =
    tie.close
    (tie.spec (λ c κs. search rules) (λ c. search rules) (λ c κs. search rules) (λ c. search rules) widen-loaded-requires (λ c. search rules) (λ c. search rules) returns (λ c. search rules) (λ c. search rules) (λ c. search rules) returns-2)
