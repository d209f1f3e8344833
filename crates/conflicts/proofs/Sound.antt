-- What a search knows after each step. Assumes nothing.
use mathlib.Core.Path.{◌≡◌, refl}
use mathlib.Core.Bool.{Bool, true, false, cond}
use mathlib.Core.List.{List}
use Prim.Native.Nat.{ℕ, zero, suc}
use borrow.Author.Tests.{eqb-true}
use lib.Dec.{eqb, leb}
use Rattle.memory.specs.Record.{undef}
use Rattle.memory.specs.declared.Netlist.{Netlist}
use Rattle.settling.proofs.Sound.{propagate-same}
use Rattle.learning.specs.declared.Search.{Search}
use Rattle.learning.specs.Learning.{Searched, searched, with_order, settled_level, forgotten, learnt}
use Rattle.learning.proofs.Standing.{stand-same}
use Rattle.learning.proofs.Sound.{Stands, forget-stands, settle-level-stands, learn-stands}
use Rattle.choices.specs.Begun.{Begun}
use Rattle.choices.specs.Choices.{contradicted_at_zero, changed}
use Rattle.choices.proofs.Sound.{Holds, holds, either, zero-holds, change-stands, choose-holds}
use Rattle.conflicts.specs.Conflicts.{sum, followed, is_full, relieved, doubled, alternated, repaired, extended, stepped, steps}

module _ (hit : (ℕ → Bool) → Type 0) (hits : ℕ → Type 0) (val : ℕ → ℕ → Bool) (net : Netlist) (begun : List ℕ) (begin : Begun hit hits val net begun) where
  abbrev Known : Searched → Type 0
  Known t = Stands hit hits net begun t

  choice : (b : Bool) (s t : Searched) → Known s → Known t → Known (cond b s t)
  choice true s t p q = p
  choice false s t p q = q

  follow-stands : (w : List ℕ) (s : Search) → Known (searched w s) → Known (followed w net s)
  unfolding followed
  follow-stands w s given =
      (stand-same hit hits net begun given.0 (propagate-same net s.arena given.0.sound.room w s.trail net.nodes), given.1)

  relieve-stands : (w : List ℕ) (s : Search) → Known (searched w s) → Known (relieved w net s)
  unfolding relieved
  relieve-stands w s given =
      choice (is_full net s.arena) (forgotten w net s) (searched w s) (forget-stands hit hits net begun w s given) given

  alternate-stands : (w : List ℕ) (s : Search) → Known (searched w s) → Known (alternated w net s)
  unfolding alternated
  alternate-stands w s given =
      let d = with_order s (doubled s.order) in
      let x = sum s.order.span s.order.span in
      let a = changed w net d false s.order.goal x in
      let b = changed w net s true s.order.goal (sum x x) in
      choice (leb s.order.ticks s.order.slice) (searched w s) (cond s.order.sweep a b) given
      (choice s.order.sweep a b (change-stands hit hits val net begun begin w d false s.order.goal x given)
      (change-stands hit hits val net begun begin w s true s.order.goal (sum x x) given))

  repair-holds : (w : List ℕ) (s : Search) → Known (searched w s) → Holds hit hits val net begun begin (repaired w net s)
  unfolding repaired
  repair-holds w s given =
      let a = learnt w net s s.trail.clash in
      let b = relieved a.words net a.search in
      let c = alternated b.words net b.search in
      either hit hits val net begun begin (eqb s.trail.level 0) (contradicted_at_zero w net s s.trail.clash) c
      (zero-holds hit hits val net begun begin w s s.trail.clash given)
      (holds hit hits val net begun begin c
      (alternate-stands b.words b.search
      (relieve-stands a.words a.search (learn-stands hit hits net begun w s s.trail.clash given))))

  extend-holds : (w : List ℕ) (s : Search) → Known (searched w s) → Holds hit hits val net begun begin (extended w net s)
  unfolding extended
  extend-holds w s given =
      let a = settled_level w net s in
      choose-holds hit hits val net begun begin a.words a.search (settle-level-stands hit hits net begun w s given)

  step-holds : (w : List ℕ) (s : Search) → Known (searched w s) → Holds hit hits val net begun begin (stepped w net s)
  unfolding stepped
  step-holds w s given =
      let a = followed w net s in
      let on = follow-stands w s given in
      either hit hits val net begun begin (eqb a.search.trail.clash undef) (extended a.words net a.search) (repaired a.words net a.search)
      (extend-holds a.words a.search on) (repair-holds a.words a.search on)

  pub steps-hold : (w : List ℕ) (s : Search) (effort k : ℕ) → Holds hit hits val net begun begin (searched w s)
      → Holds hit hits val net begun begin (steps w net s effort k)
  unfolding steps
  steps-hold w s effort zero given = given
  steps-hold w s effort (suc k) given =
      go (eqb s.order.verdict 0) refl (leb effort s.order.ticks)
      (λ e. steps-hold (stepped w net s).words (stepped w net s).search effort k (step-holds w s (given.going e, e)))
    where
      go : (a : Bool) → eqb s.order.verdict 0 ≡ a → (b : Bool)
          → (s.order.verdict ≡ 0 → Holds hit hits val net begun begin (steps (stepped w net s).words net (stepped w net s).search effort k))
          → Holds hit hits val net begun begin
          (cond a (cond b (searched w s) (steps (stepped w net s).words net (stepped w net s).search effort k)) (searched w s))
      go false e b more = given
      go true e true more = given
      go true e false more = more (eqb-true s.order.verdict 0 e)
