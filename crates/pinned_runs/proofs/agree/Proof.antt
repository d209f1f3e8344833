-- `pinned_runs::agree` meets its contract. Assumes nothing.
use mathlib.Core.Path.{◌≡◌, refl, sym, ap, ◌∙◌, subst}
use mathlib.Core.Bool.{Bool, true, false}
use mathlib.Core.List.{List}
use Prim.Native.Nat.{ℕ, ◌-◌, ◌≤◌, ◌<◌}
use native.Mathlib.Nat.{not-suc-le-zero}
use native.Mathlib.Omega.{arith}
use borrow.Author.Rules.{rules}
use borrow.Author.Tests.{not-true, not-false}
use lib.Dec.{T}
use lib.ListN.{length, get_or}
use Rattle.aiger.proofs.Tests.{T_true}
use Rattle.pinned_runs.specs.Places.{place_pin, agrees_at}
use Rattle.pinned_runs.specs.declared.Rows.{Rows}
use Rattle.pinned_runs.proofs.Bytes.{below_more, below_true, below_false}
use Rattle.pinned_runs.proofs.agree.Statement.{statement}
use Rattle.pinned_runs.proofs.agree.Tie as tie

-- the test of a byte
abbrev right : Rows → List ℕ → List ℕ → Bool → ℕ → Bool
right rows own body loose k = agrees_at loose (place_pin (λ i. get_or own i 2) rows.first rows.inputs rows.end k) (get_or body k 0)

abbrev invariant-loop : tie.invariant-loop-k
invariant-loop rows own body loose k₀ k = (k ≤ length body) × ((j : ℕ) → j < k → T (right rows own body loose j))

abbrev decreases-loop : tie.decreases-loop-k
decreases-loop rows own body loose k₀ k = length body - k

loop-holds : tie.Need-loop-k-init invariant-loop decreases-loop
loop-holds c = (omega arith, λ j h. absurd (not-suc-le-zero h))

pin-of-requires : tie.Need-pin_of-pin-requires invariant-loop decreases-loop
pin-of-requires c κs = c.requires

shared-slice-read-agrees : tie.Need-bounds-body-k invariant-loop decreases-loop
shared-slice-read-agrees c = omega arith

agrees-requires : tie.Need-agrees-requires invariant-loop decreases-loop
agrees-requires c κs = tt

-- what was said of a byte
module _ (e : tie.After-agrees invariant-loop decreases-loop) where
  abbrev S : tie.Start invariant-loop decreases-loop
  S = e.before.before.before.before.before.before.before

  abbrev at : ℕ
  at = e.loop-k.k

  said : e.agrees.result ≡ right S.args.rows S.args.own.now S.args.body.now S.args.loose at
  said = e.agrees.ensures ∙ ap (λ (p : ℕ). agrees_at S.args.loose p (get_or S.args.body.now at 0)) e.pin_of-pin.ensures

returns : tie.Need-returns-then-not-agrees invariant-loop decreases-loop
returns c =
    let s = S c.before in
    below_false (right s.args.rows s.args.own.now s.args.body.now s.args.loose) (length s.args.body.now) (at c.before) (omega arith)
    (sym (said c.before) ∙ c.if-not-agrees.true)

add-k : tie.Need-overflow_add-k invariant-loop decreases-loop
add-k c = omega arith

loop-less : tie.Need-loop-k-smaller invariant-loop decreases-loop
loop-less c = omega arith

loop-again : tie.Need-loop-k-preserved invariant-loop decreases-loop
loop-again c =
    let s = S c.before in (
      omega arith,
      below_more (right s.args.rows s.args.own.now s.args.body.now s.args.loose) (at c.before) c.loop-k.invariant.1
          (T_true (sym (said c.before) ∙ c.if-not-agrees.false)),
    )

returns-2 : tie.Need-returns invariant-loop decreases-loop
returns-2 c =
    below_true (right c.args.rows c.args.own.now c.args.body.now c.args.loose) (length c.args.body.now) c.loop-k.k c.loop-k.invariant.1 (omega arith)

pub agree_spec : {M : Type 1} → statement M
agree_spec =
    tie.close
    (tie.spec invariant-loop decreases-loop loop-holds pin-of-requires shared-slice-read-agrees agrees-requires returns add-k loop-less loop-again returns-2)
