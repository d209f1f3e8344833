-- What a judgement of a file says: what load would answer, and the words that the file's circuit needs. Clause 12.8. Assumes nothing.
use Rattle.std.specs.Prelude.{◌≡◌, ◌&&◌, List, ◌∷◌, ◌++◌, ℕ, leb, length}
use Rattle.aiger.specs.Circuit.{Circuit}
use Rattle.aiger.specs.File.{is_binary, header, counts_right}
use Rattle.aiger.specs.Load.{Answer, refused, gives, test, read, load, needed, ◌>>=◌, ◌>>◌}
use Rattle.aiger.specs.Write.{count_row}
use Rattle.aiger.specs.Memory.{content}
use Rattle.load.specs.Answers.{answered, numbers}
use Rattle.load.specs.declared.LoadAnswer.{LoadAnswer}
use Rattle.load.specs.declared.LoadAnswer.TheVariants.{Loaded, Refused}
use Rattle.load.specs.declared.Judgement.{Judgement}

-- the counts that an accepted load returns
abbrev pub counts_of : Circuit → List ℕ
counts_of c = c.max_var ∷ count_row c

-- a number, 0 on a refusal
abbrev pub or_zero : Answer ℕ → ℕ
or_zero (refused n) = 0
or_zero (gives n) = n

-- the words that a file's circuit needs: where its length and header are right and its counts within their limits, else 0
unfoldable pub words_needed : List ℕ → ℕ
words_needed f =
    or_zero
    (test 1 (leb 1 (length f) && leb (length f) 65536) >> read 2 (header f) >>= λ h.
    test 3 (counts_right (is_binary f) h.0) >> gives (needed h.0.M))

-- preview: load's answer on a memory of `room` words, and the words needed
pub record Previewed (room : ℕ) (f : List ℕ) (r : Judgement) : Type 0 where
  pub answer : answered r.answer ≡ (load room f >>= λ c. gives (counts_of c))
  pub needed : r.needed ≡ words_needed f

-- an answer where load would say a; the content of an accepted circuit stands at the front of w
abbrev pub JudgedAs : Answer Circuit → List ℕ → LoadAnswer → Type 0
JudgedAs a w (Loaded k) = (c : Circuit) × (a ≡ gives c) × (numbers k ≡ counts_of c) × (r : List ℕ) × (w ≡ content c ++ r)
JudgedAs a w (Refused n) = a ≡ refused n

-- the judgement of a file, with the words that it leaves
pub record Judges (room : ℕ) (f w : List ℕ) (r : Judgement) : Type 0 where
  pub answer : JudgedAs (load room f) w r.answer
  pub needed : r.needed ≡ words_needed f
