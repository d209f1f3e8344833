-- Clause 12.7: what the resident program answers to commands that name a witness, on the bytes of the file. Assumes nothing.
use Rattle.std.specs.Prelude.{◌≡◌, List, ℕ}
use Rattle.aiger.specs.Load.{Answer, refused, gives}
use Rattle.aiger.specs.Text.{bytes}
use Rattle.completions.specs.Either.{Verdict}
use Rattle.replies.specs.Refusal.{refusal_text}
use Rattle.replies.specs.declared.Report.{Report}
use Rattle.call_forms.specs.Forms.{UserReplayed, UserWidened, UserWaveformed}
use Rattle.panel_lines.specs.declared.View.{View}
use Rattle.panel_lines.specs.declared.View.TheVariants.{Replay, Widen, Waveform}
use Rattle.panel.specs.Answers.{text_words, no_text, text_length, Reported}

-- what replay says, as the program replay prints it
abbrev pub verdict_words : Answer Verdict → List ℕ
verdict_words (refused n) = refusal_text n
verdict_words (gives Verdict.all) = bytes "all\n"
verdict_words (gives Verdict.no) = bytes "no\n"
verdict_words (gives Verdict.mixed) = bytes "mixed\n"

-- a view of a witness text
abbrev pub Viewed : View → ℕ → List ℕ → List ℕ → List ℕ → List ℕ → List ℕ → Report → List ℕ → List ℕ → Type 0
Viewed Replay user witness m pins out line r out' line' =
    Reported (λ a. UserReplayed m pins user witness a × (out' ≡ out)) verdict_words no_text line r line' out'
Viewed Widen user witness m pins out line r out' line' =
    Reported (λ a. UserWidened m pins user witness out a out') text_words text_length line r line' out'
Viewed (Waveform only) user witness m pins out line r out' line' =
    Reported (λ a. UserWaveformed m user only witness out a out') text_words text_length line r line' out'
