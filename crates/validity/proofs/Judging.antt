-- The first cause that refuses. Assumes nothing.
use mathlib.Core.Path.{◌≡◌, refl}
use mathlib.Core.Bool.{Bool, true, false}
use lib.Dec.{T}
use Rattle.aiger.specs.Circuit.{Circuit, literals_right, used_defined, acyclic}
use Rattle.aiger.specs.Load.{refused, gives}
use Rattle.aiger.proofs.Tests.{true-T, false_of}
use Rattle.validity.specs.Validity.{judged}

module _ (c : Circuit) where
  pub judged-six : (T (literals_right c) → ⊥) → judged c ≡ refused 6
  unfolding judged
  judged-six a = rw (false_of (literals_right c) a)

  module _ (a : T (literals_right c)) where
    pub judged-seven : (T (used_defined c) → ⊥) → judged c ≡ refused 7
    unfolding judged
    judged-seven b = rw (true-T (literals_right c) a, false_of (used_defined c) b)

    module _ (b : T (used_defined c)) where
      pub judged-eight : (T (acyclic c) → ⊥) → judged c ≡ refused 8
      unfolding judged
      judged-eight d = rw (true-T (literals_right c) a, true-T (used_defined c) b, false_of (acyclic c) d)

      pub judged-right : T (acyclic c) → judged c ≡ gives tt
      unfolding judged
      judged-right d = rw (true-T (literals_right c) a, true-T (used_defined c) b, true-T (acyclic c) d)
