-- What the operation write answers. Assumes nothing.
use Rattle.std.specs.Prelude.{ℕ}
use Rattle.aiger.specs.Load.{Answer, refused, gives}
use Rattle.write.specs.declared.WriteAnswer.{WriteAnswer}
use Rattle.write.specs.declared.WriteAnswer.TheVariants.{Length, Refused}

-- the text's length, or the number of the refusal
abbrev pub answered : WriteAnswer → Answer ℕ
answered (Length n) = gives n
answered (Refused n) = refused n
