-- The answer that each case of an enum is. Assumes nothing.
use Rattle.aiger.specs.Load.{Answer, refused, gives}
use Rattle.calls.specs.declared.PinAnswer.{PinAnswer}
use Rattle.calls.specs.declared.PinAnswer.TheVariants.{Set, Refused}

abbrev pub pin_said : PinAnswer → Answer (Unit {0})
pin_said Set = gives tt
pin_said (Refused n) = refused n
