-- What is printed of a loaded circuit, and by the programs replay and fold. Circuit memory has 33,032 words, those that a file with M 4,096
-- needs. Assumes nothing.
use Rattle.std.specs.Prelude.{List, [], ℕ}
use Rattle.aiger.specs.Text.{bytes}
use Rattle.aiger.specs.Circuit.{Circuit}
use Rattle.aiger.specs.Load.{Answer, refused, gives, read, load, ◌>>=◌}
use Rattle.aiger.specs.Write.{write}
use Rattle.aiger.specs.Operations.{judge, fold_tests}
use Rattle.completions.specs.Either.{Verdict, shows, verdict, read_either}
use Rattle.completions.specs.Operations.{either_tests}
use Rattle.fold.specs.Chosen.{chosen}
use Rattle.writer.specs.Forms.{text_in}
use Rattle.replies.specs.Refusal.{refusal_text}
use Rattle.replies.specs.Reply.{Reply, reply_of}

-- the text of a circuit
abbrev pub written : Circuit → Reply
written c = record { line = []; out = write c }

-- write: the loaded circuit in a form
abbrev pub written_in : ℕ → Circuit → Reply
written_in form c = record { line = []; out = text_in form c }

abbrev pub verdict_text : Verdict → List ℕ
verdict_text Verdict.all = bytes "all\n"
verdict_text Verdict.no = bytes "no\n"
verdict_text Verdict.mixed = bytes "mixed\n"

-- the text of a value, or the line of a refusal
abbrev pub text_of : {A : Type 0} → (A → List ℕ) → Answer A → List ℕ
text_of f (refused n) = refusal_text n
text_of f (gives a) = f a

-- what replay answers on a loaded circuit
abbrev pub replay_answer : Circuit → List ℕ → Answer Verdict
replay_answer c witness =
    judge (either_tests c witness) >>= λ _. read 14 (read_either c witness) >>= λ h. gives (verdict (shows c h.0) h.1)

-- replay: whether all completions of the witness are hits of the loaded circuit, none, or some
unfoldable pub replay_text : List ℕ → List ℕ → List ℕ
replay_text file witness = text_of verdict_text (load 33032 file >>= λ c. replay_answer c witness)

-- fold, on a loaded circuit, where working memory has `room` words and the output `len` bytes: the text of the circuit that fold chooses
unfoldable pub folded_reply : Circuit → ℕ → ℕ → ℕ → ℕ → Reply
folded_reply c b t room len = reply_of (λ _. written (chosen c b t)) (judge (fold_tests c b t room len))

-- fold: working memory has 1,048,576 words and the output 1,572,928 bytes, those of size 65,536, so that 12 is given for a greater size
-- only, and 13 never
unfoldable pub fold_reply : List ℕ → ℕ → ℕ → Reply
fold_reply file b t = reply_of (λ c. folded_reply c b t 1048576 1572928) (load 33032 file)
