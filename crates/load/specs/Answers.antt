-- What load answers: the counts of an accepted file, or the number of a refusal. Assumes nothing.
use Rattle.std.specs.Prelude.{List, [], ◌∷◌, ℕ}
use Rattle.aiger.specs.Load.{Answer, refused, gives}
use Rattle.load.specs.declared.Counts.{Counts}
use Rattle.load.specs.declared.LoadAnswer.{LoadAnswer}
use Rattle.load.specs.declared.LoadAnswer.TheVariants.{Loaded, Refused}

-- Clause 6.6: the counts that an accepted load answers
abbrev pub numbers : Counts → List ℕ
numbers k = k.m ∷ k.i ∷ k.l ∷ k.o ∷ k.a ∷ k.b ∷ k.c ∷ []

abbrev pub answered : LoadAnswer → Answer (List ℕ)
answered (Loaded k) = gives (numbers k)
answered (Refused n) = refused n
