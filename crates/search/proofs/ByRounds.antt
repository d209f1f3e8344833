-- What the answer of the stages says. Assumes nothing.
use mathlib.Core.Path.{◌≡◌, subst}
use mathlib.Core.Bool.{true, false}
use mathlib.Core.List.{List}
use Prim.Native.Nat.{ℕ, ◌+◌, ◌≤◌}
use Rattle.aiger.specs.Circuit.{Circuit}
use Rattle.aiger.specs.Frames.{free_bits, run}
use Rattle.aiger.specs.Search.{Outcome, first_witness}
use Rattle.aiger.specs.Witness.{witness}
use Rattle.enumeration.specs.Frame.{FreeBits}
use Rattle.staged.specs.Answers.{RoundsAre}
use Rattle.staged.specs.declared.Rounds.{Rounds}
use Rattle.staged.specs.declared.Rounds.TheVariants.{Hit, Nothing, Never, Left}
use Rattle.search.specs.Chosen.{outcome_chosen, never_chosen}
use Rattle.search.proofs.Choice as choice

module _ (c : Circuit) (b k D : ℕ) (work : List ℕ) (r : Rounds) (h : RoundsAre c b k D work r) where
  -- the first hit, with its free bits
  pub record FirstBits (t : ℕ) : Type 0 where
    pub place : ℕ
    pub within : t ≤ k
    pub bits : FreeBits (free_bits c t) place work
    pub found : outcome_chosen c b k D ≡ Outcome.found t
    pub told : never_chosen c b k D ≡ false
    pub shown : witness b (run c t place) ≡ first_witness c b t

  pub of-hit : {t : ℕ} → r ≡ Hit t → FirstBits t
  of-hit e =
      let (x, s, f) = subst (RoundsAre c b k D work) e h in
      let (l, g, v) = choice.stages-found c b k D s in
      record { place = x; within = l; bits = f; found = g; told = choice.stages-flag c b k D s; shown = v }

  pub of-nothing : r ≡ Nothing → (outcome_chosen c b k D ≡ Outcome.none k) × (never_chosen c b k D ≡ false)
  of-nothing e = let s = subst (RoundsAre c b k D work) e h in (choice.stages-none c b k D s, choice.stages-flag c b k D s)

  pub of-never : r ≡ Never → (outcome_chosen c b k D ≡ Outcome.none k) × (never_chosen c b k D ≡ true)
  of-never e = let s = subst (RoundsAre c b k D work) e h in (choice.stages-never c b k D s, choice.stages-flag c b k D s)

  pub of_left : {t : ℕ} → r ≡ Left t → (t ≤ k + 1) × choice.Left c b k D t × (never_chosen c b k D ≡ false)
  of_left e =
      let s = subst (RoundsAre c b k D work) e h in
      let (l, i) = choice.stages-left c b k D s in
      (l, i, choice.stages-flag c b k D s)
