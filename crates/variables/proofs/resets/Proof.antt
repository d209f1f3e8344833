-- `resets` meets its contract. The loop's invariant: each latch passed has a right reset.
-- Assumes nothing.
use Rattle.std.proofs.lemmas.Bool.{not_from_true}
use Rattle.std.proofs.lemmas.Bool.{not_from_false}
use mathlib.Core.Path.{◌≡◌, sym, ap₂, ◌∙◌, subst}
use Rattle.literals.proofs.Words.{word_read}
use Rattle.aiger.proofs.Tests.{T_true}
use lib.Dec.{T, leb, eqb}
use mathlib.Core.Bool.{◌||◌}
use borrow.Author.Tests.{not-true, not-false}
use borrow.Author.Count.{below_more}
use lib.ListN.{get_or}
use native.Mathlib.Omega.{arith}
use Prim.Native.Nat.{ℕ, ◌+◌, ◌*◌, ◌-◌, ◌<◌, ◌≤◌}
use borrow.Author.Rules.{rules}
use Rattle.variables.proofs.resets.Statement.{statement}
use Rattle.variables.proofs.resets.Tie as tie

abbrev invariant-loop : tie.invariant-loop-j
invariant-loop w at n j₀ j =
    (j ≤ n) × ((k : ℕ) → k < j → T (leb (get_or w (at + 3 * k + 2) 0) 1 || eqb (get_or w (at + 3 * k + 2) 0) (get_or w (at + 3 * k) 0)))

abbrev decreases-loop : tie.decreases-loop-j
decreases-loop w at n j₀ j = n - j

-- the test, in terms of the latch's words
tested : (c : tie.After-is_reset invariant-loop decreases-loop)
    → (let m = c.args.w.now in let at = c.layout_of-p.result.latches + 3 * c.loop-j.j in
    c.is_reset.result ≡ (leb (get_or m (at + 2) 0) 1 || eqb (get_or m (at + 2) 0) (get_or m at 0)))
tested c =
    let m = c.args.w.now in
    let at = c.layout_of-p.result.latches + 3 * c.loop-j.j in
    c.is_reset.ensures
    ∙ ap₂ (λ (r l : ℕ). leb r 1 || eqb r l) (word_read (get_or m (at + 2) 0) c.from_word-reset.ensures)
    (word_read (get_or m at 0) c.from_word-lit.ensures)

loop-holds : tie.Need-loop-j-init invariant-loop decreases-loop
loop-holds c = (omega arith, λ k l. absurd (omega arith))

mul-from-word : tie.Need-overflow_mul-j invariant-loop decreases-loop
mul-from-word c = omega arith

add-from-word : tie.Need-overflow_add-at invariant-loop decreases-loop
add-from-word c = omega arith

mul-from-word-2 : tie.Need-offset_bounds-w-at invariant-loop decreases-loop
mul-from-word-2 c = omega arith

shared-slice-read-from-word : tie.Need-bounds-w-at invariant-loop decreases-loop
shared-slice-read-from-word c = omega arith

mul-from-word-3 : tie.Need-overflow_mul-j-in-loop-j invariant-loop decreases-loop
mul-from-word-3 c = omega arith

add-from-word-2 : tie.Need-overflow_add-at-in-loop-j invariant-loop decreases-loop
add-from-word-2 c = omega arith

add-from-word-3 : tie.Need-overflow_add-at-in-loop-j-2 invariant-loop decreases-loop
add-from-word-3 c = omega arith

mul-from-word-4 : tie.Need-offset_bounds-w-at-in-loop-j invariant-loop decreases-loop
mul-from-word-4 c = omega arith

shared-slice-read-from-word-2 : tie.Need-bounds-w-at-in-loop-j invariant-loop decreases-loop
shared-slice-read-from-word-2 c = omega arith

returns : tie.Need-returns-then-not-is_reset invariant-loop decreases-loop
returns c =
    let at = c.layout_of-p.ensures.0.latches-is in
    λ all. subst T (sym (tested c.before) ∙ not-true _ (not_from_false _ c.if-not-is_reset.true)) (rw (sym at) at (all c.loop-j.j (omega arith)))

add-j : tie.Need-overflow_add-j invariant-loop decreases-loop
add-j c = omega arith

loop-less : tie.Need-loop-j-smaller invariant-loop decreases-loop
loop-less c = omega arith

loop-again : tie.Need-loop-j-preserved invariant-loop decreases-loop
loop-again c = (
  omega arith,
  below_more _ _ c.loop-j.invariant.1
      (T_true (sym (tested c.before) ∙ not-false _ (not_from_true _ c.if-not-is_reset.false))),
)

returns-2 : tie.Need-returns invariant-loop decreases-loop
returns-2 c =
    let at = c.layout_of-p.ensures.0.latches-is in
    λ k l. rw (sym at) (c.loop-j.invariant.1 k (omega arith))

pub resets_spec : {M : Type 1} → statement M
resets_spec =
    tie.close
    (tie.spec invariant-loop decreases-loop (λ c κs. search rules) loop-holds mul-from-word add-from-word mul-from-word-2 shared-slice-read-from-word (λ c κs. search rules) mul-from-word-3 add-from-word-2 add-from-word-3 mul-from-word-4 shared-slice-read-from-word-2 (λ c κs. search rules) (λ c κs. search rules) returns add-j loop-less loop-again returns-2)
