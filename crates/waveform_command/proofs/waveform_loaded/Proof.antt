-- `waveform_command::waveform_loaded` meets its contract. Assumes nothing.
use mathlib.Core.Path.{ap}
use Rattle.waveform.specs.Answer.{answered}
use Rattle.waveform_command.proofs.Answers.{refusal-left, waveform-shown}
use borrow.Author.Rules.{rules}
use Rattle.waveform_command.proofs.waveform_loaded.Statement.{statement}
use Rattle.waveform_command.proofs.waveform_loaded.Tie as tie
use Rattle.waveform_command.proofs.waveform_loaded.Reads as reads
use Rattle.waveform_command.proofs.waveform_loaded.Lts as lts
use Rattle.replies.proofs.refuse.Reads as refuse-reads
use Rattle.waveform.proofs.waveform.Reads as waveform-reads

returns : tie.Need-returns-in-Length
returns c =
    waveform-shown c.requires.0 c.waveform.ensures c.args.line.now (ap answered c.in-Length.is)

returns-2 : tie.Need-returns-in-Refused
returns-2 c =
    let f = c.refuse.ensures in
    refusal-left c.requires.0 c.waveform.ensures (ap answered c.in-Refused.is) f.0 f.1

pub waveform_loaded_spec : {M : Type 1} → statement M
waveform_loaded_spec =
    tie.close
    (tie.spec (λ c κs. search rules) (λ c. search rules) (λ c. search rules) (λ c κs. search rules) (λ c. search rules) returns (λ c. search rules) (λ c. search rules) returns-2)
