-- `bounded` meets its contract. The loop's invariant: each literal passed is at most 2m + 1.
-- Assumes nothing.
use borrow.Author.Count.{below_more}
use mathlib.Core.Path.{◌≡◌, ap, ◌∙◌}
use lib.ListN.{get_or}
use Rattle.literals.specs.declared.Var.{Var}
use Rattle.literals.specs.declared.Lit.{Lit}
use native.Mathlib.Omega.{arith}
use Prim.Native.Nat.{ℕ, ◌+◌, ◌*◌, ◌-◌, ◌/◌, ◌<◌, ◌≤◌}
use borrow.Author.Rules.{rules}
use Rattle.variables.proofs.bounded.Statement.{statement}
use Rattle.variables.proofs.bounded.Tie as tie

abbrev invariant-loop : tie.invariant-loop-i
invariant-loop w m at stride n i₀ i = (i ≤ n) × ((k : ℕ) → k < i → get_or w (at + stride * k) 0 / 2 ≤ m.0)

abbrev decreases-loop : tie.decreases-loop-i
decreases-loop w m at stride n i₀ i = n - i

-- the variable that was read
read : (c : tie.After-var-v invariant-loop decreases-loop)
    → (c.var-v.result.0 ≡ get_or c.args.w.now
    (c.args.c.at + c.args.c.stride * c.loop-i.i) 0 / 2)
read c = ap (λ (v : Var). v.0) c.var-v.ensures ∙ ap (λ (l : Lit). l.0.0) c.from_word.ensures

loop-holds : tie.Need-loop-i-init invariant-loop decreases-loop
loop-holds c = (omega arith, λ k l. absurd (omega arith))

mul-from-word : tie.Need-overflow_mul-stride invariant-loop decreases-loop
mul-from-word c = omega (arith, c.requires c.loop-i.i c.loop-i-test.true)

add-from-word : tie.Need-overflow_add-at invariant-loop decreases-loop
add-from-word c = omega (arith, c.requires c.loop-i.i c.loop-i-test.true)

mul-from-word-2 : tie.Need-offset_bounds-w-at invariant-loop decreases-loop
mul-from-word-2 c = omega (arith, c.requires c.loop-i.i c.loop-i-test.true)

shared-slice-read-from-word : tie.Need-bounds-w-at invariant-loop decreases-loop
shared-slice-read-from-word c = c.requires c.loop-i.i
    c.loop-i-test.true

returns : tie.Need-returns-then-v-m invariant-loop decreases-loop
returns c = λ all. omega (
  arith,
  read c.before.before.before,
  all
      c.loop-i.i
      c.loop-i-test.true,
)

add-i : tie.Need-overflow_add-i invariant-loop decreases-loop
add-i c = omega arith

loop-less : tie.Need-loop-i-smaller invariant-loop decreases-loop
loop-less c = omega arith

loop-again : tie.Need-loop-i-preserved invariant-loop decreases-loop
loop-again c = (
  omega arith,
  below_more _ _ c.loop-i.invariant.1
      (omega (arith, read c.before.before.before)),
)

returns-2 : tie.Need-returns invariant-loop decreases-loop
returns-2 c = λ k l. c.loop-i.invariant.1 k (omega arith)

pub bounded_spec : {M : Type 1} → statement M
bounded_spec =
    tie.close
    (tie.spec invariant-loop decreases-loop loop-holds mul-from-word add-from-word mul-from-word-2 shared-slice-read-from-word (λ c κs. search rules) (λ c κs. search rules) returns add-i loop-less loop-again returns-2)
