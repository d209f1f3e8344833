-- What the operation fold answers, and what its functions require and leave. Assumes nothing.
use Rattle.std.specs.Prelude.{◌≡◌, List, ℕ, ◌+◌, ◌*◌, ◌≤◌, ◌<◌, T, length}
use Rattle.aiger.specs.Circuit.{Circuit}
use Rattle.aiger.specs.Load.{Answer, refused, gives}
use Rattle.aiger.specs.Frames.{size}
use Rattle.aiger.specs.Fold.{folds}
use Rattle.aiger.specs.Write.{write}
use Rattle.layout.specs.Words.{word, circuit_in}
use Rattle.layout.specs.declared.Layout.{Layout}
use Rattle.frames.specs.Lanes.{Ready}
use Rattle.fold.specs.Chosen.{chosen}
use Rattle.fold.specs.Text.{Shown}
use Rattle.fold.specs.declared.FoldAnswer.{FoldAnswer}
use Rattle.fold.specs.declared.FoldAnswer.TheVariants.{Length, Refused}

-- the text's length, or the number of the refusal
abbrev pub answered : FoldAnswer → Answer ℕ
answered (Length n) = gives n
answered (Refused n) = refused n

-- a circuit that is ready, and memory and output for its fold
pub record FoldFits (m : List ℕ) (p : Layout) (order : List ℕ) (b t : ℕ) (work out : List ℕ) : Type 0 where
  pub ready : Ready m p order 4097
  pub bad : b < word m 5
  pub last : t ≤ 255
  pub small : size (circuit_in m) t ≤ 65536
  pub words : 16 * size (circuit_in m) t ≤ length work
  pub output : 24 * size (circuit_in m) t + 64 ≤ length out

-- the chosen circuit is a fold, and its text is at the front of the output and no longer than the output that is needed; r is its length
pub record FoldShown (c : Circuit) (b t : ℕ) (out : List ℕ) (r : ℕ) (last : List ℕ) : Type 0 where
  pub permitted : T (folds c b t (chosen c b t))
  pub short : length (write (chosen c b t)) ≤ 24 * size c t + 64
  pub shown : Shown (write (chosen c b t)) out r last
