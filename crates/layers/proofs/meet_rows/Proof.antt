-- `layers::meet_rows` meets its contract. The loop's invariant: the rows before p are met, row p is the first that is left, and a row that
-- is left out since leads where one of those before p leads. Assumes nothing.
use mathlib.Core.Path.{◌≡◌, refl, sym, ap, ◌∙◌, subst}
use mathlib.Core.List.{List, map}
use Prim.Native.Nat.{ℕ, ◌+◌, ◌-◌, ◌≤◌, ◌<◌, min}
use native.Mathlib.Omega.{arith}
use lib.ListN.{length}
use Rattle.aiger.specs.Bits.{bit}
use Rattle.aiger.specs.Signature.{FirstDifference}
use Rattle.transitions.specs.Transitions.{number_of}
use Rattle.states.specs.Table.{count_of, TallyFits}
use Rattle.layers.specs.Rows.{leading, RowsMet}
use Rattle.layers.proofs.Rows.{Treated, treated-none, treated-to, treated-more, none_before, is-left, next-later}
use borrow.Author.Rules.{rules}
use Rattle.layers.proofs.meet_rows.Statement.{statement}
use Rattle.layers.proofs.meet_rows.Tie as tie

abbrev numbers : List ℕ → ℕ → ℕ
numbers state p = number_of (map (λ w. bit w p) state)

abbrev invariant-loop : tie.invariant-loop-p
invariant-loop state span records₀ s₀ n pending₀ p₀ records s pending p =
    (length records ≡ length records₀) × (length s ≡ length s₀)
    × Treated pending₀.left (numbers state) span.table span.quota (count_of span.quota pending₀.met) span.e span.first
    (min p n) records₀ (count_of span.quota pending.met) pending.left records
    × TallyFits span.quota pending.met × FirstDifference 64 pending.left 0 p

abbrev decreases-loop : tie.decreases-loop-p
decreases-loop state span records₀ s₀ n pending₀ p₀ records s pending p = 64 - p

loop-holds : tie.Need-loop-p-init invariant-loop decreases-loop
loop-holds c =
    let a = c.args in
    let f = c.first_difference-p.ensures in
    let p = c.first_difference-p.result in
    let N = a.span.n in
    let Q = a.span.quota in
    let z : 0 + min p N ≡ min p N = omega arith in (
      refl,
      refl,
      subst
          (λ (k : ℕ).
          Treated a.start.left (numbers a.state.now) a.span.table Q (count_of Q a.start.met) a.span.e a.span.first k
          a.records.now (count_of Q a.start.met) a.start.left a.records.now) z
          (treated-to a.start.left (numbers a.state.now) a.span.table Q (count_of Q a.start.met) a.span.e
          a.span.first 0 (min p N) a.records.now (omega (arith, f.within))
          (λ q l. none_before a.start.left p f q (omega arith))
          (treated-none a.start.left (numbers a.state.now) a.span.table Q (count_of Q a.start.met) a.span.e
          a.span.first a.records.now c.requires.0)),
      c.requires.1.2,
      f,
    )

meet-row-requires : tie.Need-meet_row-pending-requires invariant-loop decreases-loop
meet-row-requires c κs =
    let P = c.requires.1 in (
      c.loop-p.invariant.2.rows.fits,
      (omega (arith, P.0), P.1, c.loop-p.invariant.3, c.loop-p.invariant.1 ∙ P.3, omega (arith, c.loop-p.invariant.1, P.4), omega (arith, c.loop-p.invariant.1, P.5)),
    )

-- the next row that is left comes after row p
later : (c : tie.After-first_difference-p-in-loop-p invariant-loop decreases-loop) → c.loop-p.p < c.first_difference-p-in-loop-p.result
later c =
    next-later c.loop-p.pending.left c.meet_row-pending.result.left c.loop-p.p c.first_difference-p-in-loop-p.result c.loop-p.invariant.4
    (omega (
      arith,
      c.loop-p-test.true,
      c.requires.1.0,
    )) c.first_difference-p-in-loop-p.ensures
    c.meet_row-pending.ensures.0.within c.meet_row-pending.ensures.0.gone

loop-less : tie.Need-loop-p-smaller invariant-loop decreases-loop
loop-less c = omega (
  arith,
  later c,
  c.loop-p-test.true,
  c.requires.1.0,
)

loop-again : tie.Need-loop-p-preserved invariant-loop decreases-loop
loop-again c =
    let a = c.args in
    let g = c.first_difference-p-in-loop-p.ensures in
    let p' = c.first_difference-p-in-loop-p.result in
    let N = a.span.n in
    let Q = a.span.quota in
    let S = numbers a.state.now in
    let p = c.loop-p.p in
    let few : p < N = c.loop-p-test.true in
    let e : min p N ≡ p = omega arith in
    let up = later c in
    let d = min p' N - (p + 1) in
    let z : p + 1 + d ≡ min p' N = omega arith in
    let before = subst
    (λ (k : ℕ).
    Treated a.start.left S a.span.table Q (count_of Q a.start.met) a.span.e a.span.first k a.records.now
    (count_of Q c.loop-p.pending.met) c.loop-p.pending.left c.loop-p.records) e c.loop-p.invariant.2 in (
      c.meet_row-pending.auto.records ∙ c.loop-p.invariant.0,
      c.meet_row-pending.auto.s ∙ c.loop-p.invariant.1,
      subst
          (λ (k : ℕ).
          Treated a.start.left S a.span.table Q (count_of Q a.start.met) a.span.e a.span.first k a.records.now
          (count_of Q c.meet_row-pending.result.met) c.meet_row-pending.result.left c.meet_row-pending.new.records) z
          (treated-to a.start.left S a.span.table Q (count_of Q a.start.met) a.span.e a.span.first (p + 1) d
          a.records.now (omega (
            arith,
            c.requires.1.0,
          )) (λ q l. none_before c.meet_row-pending.result.left p' g q (omega arith))
          (treated-more a.start.left S a.span.table Q (count_of Q a.start.met) a.span.e a.span.first p
          a.records.now (is-left c.loop-p.pending.left p c.loop-p.invariant.4 (omega (
            arith,
            c.requires.1.0,
          ))) before c.meet_row-pending.ensures.0)),
      c.meet_row-pending.ensures.1,
      g,
    )

same_length : tie.Need-shape_of-records invariant-loop decreases-loop
same_length c = c.loop-p.invariant.0

same-length-2 : tie.Need-shape_of-s invariant-loop decreases-loop
same-length-2 c = c.loop-p.invariant.1

returns : tie.Need-returns invariant-loop decreases-loop
returns c =
    let a = c.args in
    let e : min c.loop-p.p a.span.n ≡ a.span.n = omega (arith, c.loop-p-test.false) in (
      subst
          (λ (n : ℕ).
          RowsMet (leading a.start.left (numbers a.state.now)) a.span.table a.span.quota
          (count_of a.span.quota a.start.met) a.span.e a.span.first n a.records.now
          (count_of a.span.quota c.loop-p.pending.met) c.loop-p.records) e c.loop-p.invariant.2.rows,
      c.loop-p.invariant.3,
    )

pub meet_rows_spec : {M : Type 1} → statement M
meet_rows_spec =
    tie.close
    (tie.spec invariant-loop decreases-loop (λ c κs. search rules) loop-holds meet-row-requires (λ c κs. search rules) loop-less loop-again same_length same-length-2 returns)
