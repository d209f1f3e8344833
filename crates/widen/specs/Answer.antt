-- The answer of the papers for each case of widening's enum. Assumes nothing.
use Rattle.std.specs.Prelude.{ℕ}
use Rattle.aiger.specs.Load.{Answer, refused, gives}
use Rattle.widen.specs.declared.WidenAnswer.{WidenAnswer}
use Rattle.widen.specs.declared.WidenAnswer.TheVariants.{Length, Refused}

abbrev pub answered : WidenAnswer → Answer ℕ
answered (Length n) = gives n
answered (Refused n) = refused n
