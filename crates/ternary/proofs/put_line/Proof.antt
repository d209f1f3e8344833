-- `ternary::put_line` meets its contract. The loop's invariant: the first i variables have their entries. Assumes nothing.
use mathlib.Core.Path.{◌≡◌, refl, ap, ◌∙◌}
use mathlib.Core.List.{List}
use Prim.Native.Nat.{ℕ, ◌+◌, ◌-◌, ◌*◌, ◌≤◌, ◌<◌}
use native.Mathlib.Omega.{arith}
use lib.ListN.{length}
use Rattle.aiger.specs.Circuit.{var}
use Rattle.literals.specs.declared.Lit.{Lit}
use Rattle.literals.specs.declared.Var.{Var}
use Rattle.layout.specs.Words.{word}
use Rattle.ternary.specs.Entries.{line_of, put_below}
use Rattle.ternary.proofs.Entries.{below_none, below_more, put_word}
use borrow.Author.Rules.{rules}
use Rattle.ternary.proofs.put_line.Statement.{statement}
use Rattle.ternary.proofs.put_line.Tie as tie

abbrev invariant-loop : tie.invariant-loop-i
invariant-loop m text at can₀ first step count i₀ can i =
    (i ≤ count) × (length can ≡ length can₀) × (can ≡ put_below (λ j. var (word m (first + step * j))) (line_of text at) i can₀)

abbrev decreases-loop : tie.decreases-loop-i
decreases-loop m text at can₀ first step count i₀ can i = count - i

-- in a turn: where the word of the variable and the byte stand
module _ (n : tie.In-loop-i invariant-loop decreases-loop) where
  abbrev S : tie.Start invariant-loop decreases-loop
  S = n.before.before.before.before.before

  abbrev i : ℕ
  i = n.loop-i.i

  abbrev w : ℕ
  w = word S.args.m.now (S.args.column.first + S.args.column.step * i)

  inside : S.args.column.first + S.args.column.step * i < length S.args.m.now
  inside = S.requires.words i (omega (arith, n.loop-i-test.true))

  small : 2 * var w + 1 < length n.loop-i.can
  small = omega (arith, S.requires.small i (omega (arith, n.loop-i-test.true)), n.loop-i.invariant.1)

  row : S.args.at + i < length S.args.text.now
  row = omega (arith, S.requires.inside, n.loop-i-test.true)

loop-holds : tie.Need-loop-i-init invariant-loop decreases-loop
loop-holds c =
    let a = c.args in (
      omega arith,
      refl,
      below_none (λ j. var (word a.m.now (a.column.first + a.column.step * j))) (line_of a.text.now a.at)
          a.can.now,
    )

mul-from-word : tie.Need-overflow_mul-step invariant-loop decreases-loop
mul-from-word c = omega (arith, inside c)

add-from-word : tie.Need-overflow_add-first invariant-loop decreases-loop
add-from-word c = omega (arith, inside c)

mul-from-word-2 : tie.Need-offset_bounds-m-first invariant-loop decreases-loop
mul-from-word-2 c = omega (arith, inside c)

shared-slice-read-from-word : tie.Need-bounds-m-first invariant-loop decreases-loop
shared-slice-read-from-word c = inside c.before

add-from-byte : tie.Need-overflow_add-at invariant-loop decreases-loop
add-from-byte c = omega (arith, row c.before.before.before.before)

shared-slice-read-from-byte : tie.Need-bounds-text-at invariant-loop decreases-loop
shared-slice-read-from-byte c = row c.before.before.before.before.before

put-requires : tie.Need-put-requires invariant-loop decreases-loop
put-requires c κs =
    let v = ap (λ (v : Var). v.0) c.var-v.ensures ∙ ap (λ (l : Lit). l.0.0) c.from_word.ensures in
    omega (arith, v, small (c.before.before.before.before.before.before))

add-i : tie.Need-overflow_add-i invariant-loop decreases-loop
add-i c = omega (arith, row c.before.before.before.before.before.before.before.before.before)

loop-less : tie.Need-loop-i-smaller invariant-loop decreases-loop
loop-less c = omega (arith, c.loop-i-test.true)

loop-again : tie.Need-loop-i-preserved invariant-loop decreases-loop
loop-again c =
    let a = c.args in
    let p : ℕ → ℕ = λ j. var (word a.m.now (a.column.first + a.column.step * j)) in (
      omega (arith, c.loop-i-test.true),
      c.put.auto.can ∙ c.loop-i.invariant.1,
      put_word c.loop-i.can (w (c.before.before.before.before.before.before.before.before.before)) c.from_word.ensures c.var-v.ensures c.from_byte.ensures
          c.put.ensures
          ∙ below_more p (line_of a.text.now a.at) c.loop-i.i a.can.now c.loop-i.can c.loop-i.invariant.2,
    )

same_length : tie.Need-shape_of-can invariant-loop decreases-loop
same_length c = c.loop-i.invariant.1

returns : tie.Need-returns invariant-loop decreases-loop
returns c =
    let a = c.args in
    let e : c.loop-i.i ≡ a.column.count = omega (arith, c.loop-i.invariant.0, c.loop-i-test.false) in
    let p : ℕ → ℕ = λ j. var (word a.m.now (a.column.first + a.column.step * j)) in
    c.loop-i.invariant.2 ∙ ap (λ (k : ℕ). put_below p (line_of a.text.now a.at) k a.can.now) e

pub put_line_spec : {M : Type 1} → statement M
put_line_spec =
    tie.close
    (tie.spec invariant-loop decreases-loop loop-holds mul-from-word add-from-word mul-from-word-2 shared-slice-read-from-word (λ c κs. search rules) (λ c κs. search rules) add-from-byte shared-slice-read-from-byte (λ c κs. search rules) put-requires add-i loop-less loop-again same_length returns)
