-- The sections of a file have one answer, whatever words they leave. Assumes nothing.
use mathlib.Core.Path.{◌≡◌, sym, ◌∙◌}
use mathlib.Core.Bool.{Bool, cond}
use mathlib.Core.List.{List}
use Prim.Native.Nat.{ℕ}
use lib.Dec.{eqb}
use Rattle.aiger.specs.Circuit.{Circuit}
use Rattle.aiger.specs.File.{Header}
use Rattle.aiger.specs.Load.{Answer, refused, gives, sections}
use Rattle.sections.specs.Sections.{numbers_within, BodyAt}
use Rattle.sections.specs.declared.Body.{Body}
use Rattle.sections.specs.declared.Body.TheVariants.{Read, Large, Malformed, Damaged}

abbrev answer_of : Bool → Answer Circuit → Body
answer_of binary (gives c) = cond (numbers_within binary c) Read Large
answer_of binary (refused n) = cond (eqb n 5) Malformed Damaged

module _ (binary : Bool) (h : Header) (g : List ℕ) where
  answered : (w : List ℕ) (r : Body) → BodyAt binary h g w r → r ≡ answer_of binary (sections binary h g)
  answered w Read b = rw (b.1, b.4)
  answered w Large b = rw (b.1, b.2)
  answered w Malformed b = rw b
  answered w Damaged b = rw b

  -- Clause 10.1: two answers of which the contract holds are the same
  pub one_answer : (w w' : List ℕ) (r r' : Body) → BodyAt binary h g w r → BodyAt binary h g w' r' → r ≡ r'
  one_answer w w' r r' a b = answered w r a ∙ sym (answered w' r' b)
