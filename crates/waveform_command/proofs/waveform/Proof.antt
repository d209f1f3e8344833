-- `waveform_command::waveform` meets its contract. Assumes nothing.
use mathlib.Core.Path.{ap}
use Rattle.load.specs.Answers.{answered}
use Rattle.load_laws.proofs.Stored.{not-loaded, stored, stored-in}
use Rattle.replies.proofs.Loading.{loaded-words}
use Rattle.waveform_command.proofs.Answers.{waveform-refusal, waveform-text}
use borrow.Author.Rules.{rules}
use Rattle.waveform_command.proofs.waveform.Statement.{statement}
use Rattle.waveform_command.proofs.waveform.Tie as tie
use Rattle.waveform_command.proofs.waveform.Reads as reads
use Rattle.waveform_command.proofs.waveform.Lts as lts
use Rattle.load.proofs.load.Reads as load-reads
use Rattle.replies.proofs.refuse.Reads as refuse-reads
use Rattle.waveform_command.proofs.waveform_loaded.Reads as waveform-loaded-reads

waveform-loaded-requires : tie.Need-waveform_loaded-requires
waveform-loaded-requires c κs =
    let h = stored c.load.ensures (ap answered c.in-Loaded.is) in
    (stored-in h, c.requires.2)

returns : tie.Need-returns-in-Refused
returns c =
    let f = c.refuse.ensures in
    let a = c.args in
    let e = not-loaded c.load.ensures (ap answered c.in-Refused.is) in (
      waveform-refusal a.m.now a.file.now c.requires.0 a.only a.witness.now a.out.now e f.0 f.1,
      loaded-words c.load.ensures,
    )

returns-2 : tie.Need-returns-in-Loaded
returns-2 c =
    let a = c.args in
    let e = stored c.load.ensures (ap answered c.in-Loaded.is) in
    let x = waveform-text a.m.now a.file.now c.requires.0 a.only a.witness.now e in
    (rw x at (rw c.requires.1 at c.waveform_loaded.ensures), loaded-words c.load.ensures)

pub waveform_spec : {M : Type 1} → statement M
waveform_spec =
    tie.close
    (tie.spec (λ c κs. search rules) (λ c. search rules) (λ c κs. search rules) (λ c. search rules) waveform-loaded-requires (λ c. search rules) (λ c. search rules) returns (λ c. search rules) (λ c. search rules) (λ c. search rules) returns-2)
