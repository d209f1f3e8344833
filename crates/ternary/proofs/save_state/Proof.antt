-- `ternary::save_state` meets its contract. The loop's invariant: the entries of the first j latches are saved. Assumes nothing.
use mathlib.Core.Path.{◌≡◌, refl, sym, ap, ◌∙◌}
use mathlib.Core.List.{List}
use Prim.Native.Nat.{ℕ, ◌+◌, ◌-◌, ◌*◌, ◌≤◌, ◌<◌}
use native.Mathlib.Omega.{arith}
use lib.ListN.{length}
use Rattle.aiger.specs.Circuit.{Latch, var}
use Rattle.literals.specs.Literal.{literal}
use Rattle.literals.specs.declared.Lit.{Lit}
use Rattle.layout.specs.Words.{word, circuit_in}
use Rattle.frames.proofs.Facts.{latches-inside, latches-few, latch-place, next-below}
use Rattle.ternary.specs.Entries.{may_of, put, next_of, put_below}
use Rattle.ternary.specs.declared.May.{May}
use Rattle.ternary.proofs.Entries.{below_none, below_more, read_word}
use borrow.Author.Rules.{rules}
use Rattle.ternary.proofs.save_state.Statement.{statement}
use Rattle.ternary.proofs.save_state.Tie as tie

abbrev invariant-loop : tie.invariant-loop-j
invariant-loop m order can state₀ count latches j₀ state j =
    (j ≤ count) × (length state ≡ length state₀) × (state ≡ put_below (λ i. i) (next_of (circuit_in m) can) j state₀)

abbrev decreases-loop : tie.decreases-loop-j
decreases-loop m order can state₀ count latches j₀ state j = count - j

-- in a turn: where the next literal stands
module _ (n : tie.In-loop-j invariant-loop decreases-loop) where
  abbrev S : tie.Start invariant-loop decreases-loop
  S = n.before.before.before.before.before.before

  abbrev j : ℕ
  j = n.loop-j.j

  abbrev next : ℕ
  next = word S.args.m.now (S.args.layout.latches + 3 * j + 1)

  inside : S.args.layout.latches + 3 * j + 1 < length S.args.m.now
  inside = omega (arith, latches-inside S.requires.0, n.loop-j-test.true)

  small : 2 * var next + 1 < length S.args.can.now
  small = omega (arith, next-below S.requires.0 j (omega (arith, n.loop-j-test.true)), S.requires.1)

  few : 2 * j + 1 < length n.loop-j.state
  few = omega (arith, latches-few S.requires.0, n.loop-j-test.true, S.requires.2, n.loop-j.invariant.1)

loop-holds : tie.Need-loop-j-init invariant-loop decreases-loop
loop-holds c =
    let a = c.args in
    (omega arith, refl, below_none (λ i. i) (next_of (circuit_in a.m.now) a.can.now) a.state.now)

mul-from-word : tie.Need-overflow_mul-j invariant-loop decreases-loop
mul-from-word c = omega (arith, inside c)

add-from-word : tie.Need-overflow_add-latches invariant-loop decreases-loop
add-from-word c = omega (arith, inside c)

add-from-word-2 : tie.Need-overflow_add-latches-in-loop-j invariant-loop decreases-loop
add-from-word-2 c = omega (arith, inside c)

mul-from-word-2 : tie.Need-offset_bounds-m-latches invariant-loop decreases-loop
mul-from-word-2 c = omega (arith, inside c)

shared-slice-read-from-word : tie.Need-bounds-m-latches invariant-loop decreases-loop
shared-slice-read-from-word c = inside c.before

read-requires : tie.Need-read-requires invariant-loop decreases-loop
read-requires c κs = omega (arith, ap (λ (l : Lit). l.0.0) c.from_word-next.ensures, small c.before.before.before)

store-requires : tie.Need-store-requires invariant-loop decreases-loop
store-requires c κs = few c.before.before.before.before

add-j : tie.Need-overflow_add-j invariant-loop decreases-loop
add-j c = omega (arith, few c.before.before.before.before.before.before.before)

loop-less : tie.Need-loop-j-smaller invariant-loop decreases-loop
loop-less c = omega (arith, c.loop-j-test.true)

loop-again : tie.Need-loop-j-preserved invariant-loop decreases-loop
loop-again c =
    let a = c.args in
    let can = a.can.now in
    let own = latch-place c.requires.0 c.loop-j.j (omega (arith, c.loop-j-test.true)) in
    let x =
    read_word can (next c.before.before.before.before.before.before.before) c.from_word-next.ensures c.read.ensures
    ∙ ap (λ (x : Latch). may_of can (literal x.next)) (sym own) in (
      omega (arith, c.loop-j-test.true),
      c.store.auto.entries ∙ c.loop-j.invariant.1,
      c.store.ensures ∙ ap (λ (x : May). put c.loop-j.j x c.loop-j.state) x
          ∙ below_more (λ i. i) (next_of (circuit_in a.m.now) can) c.loop-j.j a.state.now c.loop-j.state c.loop-j.invariant.2,
    )

same_length : tie.Need-shape_of-state invariant-loop decreases-loop
same_length c = c.loop-j.invariant.1

returns : tie.Need-returns invariant-loop decreases-loop
returns c =
    let a = c.args in
    let e : c.loop-j.j ≡ a.layout.l = omega (arith, c.loop-j.invariant.0, c.loop-j-test.false) in
    c.loop-j.invariant.2 ∙ ap (λ (k : ℕ). put_below (λ i. i) (next_of (circuit_in a.m.now) a.can.now) k a.state.now) e

pub save_state_spec : {M : Type 1} → statement M
save_state_spec =
    tie.close
    (tie.spec invariant-loop decreases-loop loop-holds mul-from-word add-from-word add-from-word-2 mul-from-word-2 shared-slice-read-from-word (λ c κs. search rules) read-requires store-requires add-j loop-less loop-again same_length returns)
