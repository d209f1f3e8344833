-- The numbers of the causes for which a call is refused. Assumes nothing.
use Rattle.std.specs.Prelude.{ℕ, Result}
use Rattle.std.specs.Prelude.Result.{Ok, Err}
use Rattle.aiger.specs.Load.{Answer, refused, gives}
use Rattle.refusals.specs.declared.Refusal.{Refusal}
use Rattle.refusals.specs.declared.Refusal.TheVariants.{
  FileSize,
  Header,
  Counts,
  CircuitMemory,
  Lines,
  Literals,
  Undefined,
  Cycle,
  NoCircuit,
  BadLine,
  Bound,
  Size,
  Output,
  Witness,
  Difference,
  ManyUnknown,
  Shape,
  User,
  Place,
  SearchNumber,
  Form,
}

-- Clause 6.1: each cause has its number, 1 to 21
abbrev pub number_of : Refusal → ℕ
number_of FileSize = 1
number_of Header = 2
number_of Counts = 3
number_of CircuitMemory = 4
number_of Lines = 5
number_of Literals = 6
number_of Undefined = 7
number_of Cycle = 8
number_of NoCircuit = 9
number_of BadLine = 10
number_of Bound = 11
number_of Size = 12
number_of Output = 13
number_of Witness = 14
number_of Difference = 15
number_of ManyUnknown = 16
number_of Shape = 17
number_of User = 18
number_of Place = 19
number_of SearchNumber = 20
number_of Form = 21

-- a result as an answer: its value, or the number of its refusal
abbrev pub answer_of : {A : Type 0} → Result A Refusal → Answer A
answer_of (Ok a) = gives a
answer_of (Err e) = refused (number_of e)
