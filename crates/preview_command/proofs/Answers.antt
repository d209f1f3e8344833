-- From what a preview answers to what is printed. Assumes nothing.
use mathlib.Core.Path.{◌≡◌, ap}
use mathlib.Core.List.{List, [], ◌∷◌, ◌++◌}
use Prim.Native.Nat.{ℕ, zero, suc, ◌+◌, ◌≤◌, ◌<◌}
use native.Mathlib.Omega.{arith}
use lib.Dec.{eqb-suc-zero}
use lib.ListN.{length}
use Rattle.aiger.specs.Circuit.{Circuit}
use Rattle.aiger.specs.Load.{Answer, refused, gives, load, ◌>>=◌}
use Rattle.aiger.specs.Text.{bytes, digits}
use Rattle.aiger.specs.Write.{line_of}
use Rattle.roundtrip.proofs.LoadValid.{gives_same}
use Rattle.load.specs.Answers.{answered, numbers}
use Rattle.load.specs.Preview.{counts_of, Previewed}
use Rattle.load.specs.declared.Counts.{Counts}
use Rattle.load.specs.declared.LoadAnswer.{LoadAnswer}
use Rattle.load.specs.declared.LoadAnswer.TheVariants.{Loaded, Refused}
use Rattle.load.specs.declared.Judgement.{Judgement}
use Rattle.output.specs.Row.{row_text}
use Rattle.output.specs.Output.{Room}
use Rattle.output.proofs.Row.{row-most, row_line}
use Rattle.replies.specs.Reply.{Fronts, Leaves}
use Rattle.replies.specs.declared.Report.{Report}
use Rattle.replies.proofs.Putting.{fronts-none}
use Rattle.preview_command.specs.Texts.{preview_line, words_line, preview_reply, counts_line, answer_line}

-- room for any seven words
pub row_room : (m out : List ℕ) (at : ℕ) → at + 77 ≤ length out → Room out at (row_text m 0 7)
row_room m out at h = omega (arith, row-most m 0 7)

-- seven words are written as the line of counts
pub counts-row : (k : Counts) {line : List ℕ} {end : ℕ} {line' : List ℕ} → Fronts (bytes "loads " ++ row_text (numbers k) 0 7) line end line'
    → Fronts (counts_line k) line end line'
counts-row k f = rw (row_line (numbers k) 0 6) at f

-- no line where the words needed are not known, else one
pub words-none : (n : ℕ) (out : List ℕ) → n ≡ 0 → Fronts (words_line n) out 0 out
words-none zero out h = fronts-none out
words-none (suc n) out h = absurd (omega arith)

pub words-some : (n : ℕ) {out : List ℕ} {end : ℕ} {out' : List ℕ} → 0 < n → Fronts (bytes "words " ++ digits n ++ bytes "\n") out end out'
    → Fronts (words_line n) out end out'
words-some zero h f = absurd (omega arith)
words-some (suc n) h f = simp (eqb-suc-zero n) f

-- the line of a list of counts
abbrev line_from : List ℕ → List ℕ
line_from [] = []
line_from (n ∷ ns) = bytes "loads " ++ line_of n ns

-- the first line is that of load's answer
pub answer-line : (x : LoadAnswer) (a : Answer Circuit) → answered x ≡ (a >>= λ c. gives (counts_of c)) → answer_line x ≡ preview_line a
answer-line (Loaded k) (gives c) e = ap line_from (gives_same e)
answer-line (Loaded k) (refused n) e = let z : ◌≡◌ {A = ℕ} 0 1 = cc in absurd (omega arith)
answer-line (Refused n) (gives c) e = let z : ◌≡◌ {A = ℕ} 0 1 = cc in absurd (omega arith)
answer-line (Refused n) (refused k) e = let z : n ≡ k = cc in rw z

module _ {f line out line' out' : List ℕ} {room : ℕ} {x : Judgement} (p : Previewed room f x) (e : room ≡ 33032) where
  pub preview-leaves : {r : Report} → Fronts (answer_line x.answer) line r.line line' → Fronts (words_line x.needed) out r.out out'
      → Leaves (preview_reply f) line out r line' out'
  unfolding preview_reply
  preview-leaves l o =
      record {
        line-is = rw (answer-line x.answer (load 33032 f) (rw e at p.answer)) at l;
        out-is = rw p.needed at o;
      }
