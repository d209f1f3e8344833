-- What the operation generate answers. Assumes nothing.
use Rattle.std.specs.Prelude.{ℕ}
use Rattle.aiger.specs.Load.{Answer, refused, gives}
use Rattle.generate.specs.declared.GenerateAnswer.{GenerateAnswer}
use Rattle.generate.specs.declared.GenerateAnswer.TheVariants.{Length, Refused}

-- the text's length, or the number of the refusal
abbrev pub answered : GenerateAnswer → Answer ℕ
answered (Length n) = gives n
answered (Refused n) = refused n
