-- `layers::meet_starts` meets its contract. The loop's invariant: the first y start places are met. Assumes nothing.
use mathlib.Core.Path.{◌≡◌, refl, sym, ap, ◌∙◌, subst}
use Prim.Native.Nat.{ℕ, ◌+◌, ◌-◌, ◌≤◌, ◌<◌}
use native.Mathlib.Omega.{arith}
use lib.ListN.{length}
use Rattle.states.specs.Number.{number_at}
use Rattle.states.specs.Table.{Tally, count_of, TallyFits}
use Rattle.influence.specs.Part.{part_in}
use Rattle.layers.proofs.Begin.{Beginning, beginning-start, beginning-more, beginning-lost}
use borrow.Author.Rules.{rules}
use Rattle.layers.proofs.meet_starts.Statement.{statement}
use Rattle.layers.proofs.meet_starts.Tie as tie

abbrev invariant-loop : tie.invariant-loop-y
invariant-loop m layout records₀ kept state₀ s₀ count quota table met₀ y₀ records state s met y =
    (y ≤ count) × (length records ≡ length records₀) × (length state ≡ length state₀) × (length s ≡ length s₀)
    × Beginning (part_in m kept) table quota records₀ y (count_of quota met) records
    × TallyFits quota met

abbrev decreases-loop : tie.decreases-loop-y
decreases-loop m layout records₀ kept state₀ s₀ count quota table met₀ y₀ records state s met y = count - y

loop-holds : tie.Need-loop-y-init invariant-loop decreases-loop
loop-holds c =
    let a = c.args in (
      omega arith,
      refl,
      refl,
      refl,
      beginning-start (part_in a.m.now a.kept.now) a.starts.table a.starts.quota a.records.now c.requires.1.1.2,
      omega arith,
    )

same_length : tie.Need-shape_of-records-in_default invariant-loop decreases-loop
same_length c = c.loop-y.invariant.1

same-length-2 : tie.Need-shape_of-state-in_default invariant-loop decreases-loop
same-length-2 c = c.loop-y.invariant.2

same-length-3 : tie.Need-shape_of-s-in_default invariant-loop decreases-loop
same-length-3 c = c.loop-y.invariant.3

returns : tie.Need-returns-in_default invariant-loop decreases-loop
returns c =
    let a = c.args in
    let C = part_in a.m.now a.kept.now in
    let q = a.starts.quota in
    let k = subst (λ (t : Tally). Beginning C a.starts.table q a.records.now c.loop-y.y (count_of q t) c.loop-y.records)
    c.in_default.is c.loop-y.invariant.4 in
    ((beginning-lost C a.starts.table q a.records.now k (omega arith) a.starts.count c.loop-y.invariant.0).holds, tt)

start-state-requires : tie.Need-start_state-requires invariant-loop decreases-loop
start-state-requires c κs =
    let P = c.requires.1.1 in (
      c.requires.0,
      (
        c.requires.1.0,
        (
          P.0,
          omega (arith, c.loop-y.invariant.2, P.3),
          P.4,
          omega (arith, c.loop-y.invariant.3, P.6, P.5.enough),
          omega (arith, c.loop-y.invariant.3, P.6, P.5.fewest),
        ),
      ),
    )

cast-meet : tie.Need-overflow_cast-y invariant-loop decreases-loop
cast-meet c = omega (
  arith,
  c.requires.1.1.1,
)

meet-requires : tie.Need-meet-met-requires invariant-loop decreases-loop
meet-requires c κs = (
  c.loop-y.invariant.4.fits,
  c.loop-y.invariant.5,
  c.start_state.auto.s ∙ c.loop-y.invariant.3 ∙ c.requires.1.1.6,
)

add-y : tie.Need-overflow_add-y invariant-loop decreases-loop
add-y c = omega (
  arith,
  c.requires.1.1.1,
)

loop-less : tie.Need-loop-y-smaller invariant-loop decreases-loop
loop-less c = omega arith

loop-again : tie.Need-loop-y-preserved invariant-loop decreases-loop
loop-again c =
    let a = c.args in
    let s = c.start_state.new.s in (
      omega arith,
      c.meet-met.auto.records ∙ c.loop-y.invariant.1,
      c.start_state.auto.state ∙ c.loop-y.invariant.2,
      c.start_state.auto.s ∙ c.loop-y.invariant.3,
      beginning-more (part_in a.m.now a.kept.now) a.starts.table a.starts.quota a.records.now c.loop-y.invariant.4
          (number_at s 0 (length s)) (ap (number_at s 0) c.start_state.auto.s ∙ c.start_state.ensures) c.meet-met.ensures.0,
      c.meet-met.ensures.1,
    )

same-length-4 : tie.Need-shape_of-records invariant-loop decreases-loop
same-length-4 c = c.loop-y.invariant.1

same-length-5 : tie.Need-shape_of-state invariant-loop decreases-loop
same-length-5 c = c.loop-y.invariant.2

same-length-6 : tie.Need-shape_of-s invariant-loop decreases-loop
same-length-6 c = c.loop-y.invariant.3

returns-2 : tie.Need-returns invariant-loop decreases-loop
returns-2 c =
    let a = c.args in
    let e : c.loop-y.y ≡ a.starts.count = omega arith in (
      (subst (λ (n : ℕ). Beginning (part_in a.m.now a.kept.now) a.starts.table a.starts.quota a.records.now n
          (count_of a.starts.quota c.loop-y.met) c.loop-y.records) e c.loop-y.invariant.4).holds,
      c.loop-y.invariant.5,
    )

pub meet_starts_spec : {M : Type 1} → statement M
meet_starts_spec =
    tie.close
    (tie.spec invariant-loop decreases-loop loop-holds (λ c. search rules) (λ c. search rules) same_length same-length-2 same-length-3 returns start-state-requires cast-meet meet-requires add-y loop-less loop-again same-length-4 same-length-5 same-length-6 returns-2)
