-- `commands::replay` meets its contract. Assumes nothing.
use mathlib.Core.Path.{ap}
use Rattle.load.specs.Answers.{answered}
use Rattle.load_laws.proofs.Stored.{not-loaded, stored, stored-in}
use Rattle.replies.proofs.Loading.{loaded-words}
use Rattle.commands.proofs.Answers.{replay-refusal, replay-text}
use borrow.Author.Rules.{rules}
use Rattle.commands.proofs.replay.Statement.{statement}
use Rattle.commands.proofs.replay.Tie as tie

replay-loaded-requires : tie.Need-replay_loaded-requires
replay-loaded-requires c κs =
    let h = stored c.load.ensures (ap answered c.in-Loaded.is) in
    (stored-in h, c.requires.1)

returns : tie.Need-returns-in-Refused
returns c =
    let f = c.write_refusal.ensures in
    let a = c.args in
    let e = not-loaded c.load.ensures (ap answered c.in-Refused.is) in
    (rw (replay-refusal a.m.now a.file.now c.requires.0 a.witness.now e) at f, loaded-words c.load.ensures)

returns-2 : tie.Need-returns-in-Loaded
returns-2 c =
    let f = c.replay_loaded.ensures in
    let a = c.args in
    let e = stored c.load.ensures (ap answered c.in-Loaded.is) in
    (rw (replay-text a.m.now a.file.now c.requires.0 e a.witness.now) at f, loaded-words c.load.ensures)

pub replay_spec : {M : Type 1} → statement M
replay_spec =
    tie.close
    (tie.spec (λ c κs. search rules) (λ c. search rules) (λ c κs. search rules) (λ c. search rules) replay-loaded-requires (λ c. search rules) (λ c. search rules) returns (λ c. search rules) (λ c. search rules) returns-2)
