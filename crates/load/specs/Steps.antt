-- The parts of load, as its functions have them. Assumes nothing.
use Rattle.std.specs.Prelude.{◌≡◌, Bool, List, ℕ}
use Rattle.aiger.specs.Circuit.{Circuit}
use Rattle.aiger.specs.File.{Header}
use Rattle.aiger.specs.Load.{Answer, refused, gives, sections, ◌>>=◌, ◌>>◌}
use Rattle.headers.specs.declared.Counts as headers
use Rattle.validity.specs.Validity.{judged}
use Rattle.load.specs.declared.Counts.{Counts}
use Rattle.load.specs.declared.LoadAnswer.{LoadAnswer}
use Rattle.load.specs.declared.LoadAnswer.TheVariants.{Loaded, Refused}

-- a header's counts, without those of justice and fairness
abbrev pub narrowed : headers.Counts → Counts
narrowed h = record { m = h.m; i = h.i; l = h.l; o = h.o; a = h.a; b = h.b; c = h.c }

abbrev pub header_meant : Counts → Header
header_meant k =
    record { M = k.m; I = k.i; L = k.l; O = k.o; A = k.a; B = k.b; C = k.c; J = 0; F = 0 }

-- a circuit, unless a cause from 6 to 8 refuses it
unfoldable pub accepts : Circuit → Answer Circuit
accepts c = judged c >> gives c

-- load, from number 5 on: the sections g after a header h, in binary or text form
unfoldable pub load_body : Bool → Header → List ℕ → Answer Circuit
load_body binary h g = sections binary h g >>= accepts

-- the answer on a circuit with the counts k
abbrev pub CircuitJudged : Circuit → Counts → LoadAnswer → Type 0
CircuitJudged c k (Loaded k') = (k' ≡ k) × (accepts c ≡ gives c)
CircuitJudged c k (Refused n) = accepts c ≡ refused n
