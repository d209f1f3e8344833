-- `ternary::put_state` meets its contract. The loop's invariant: the first j latches have what was saved for them. Assumes nothing.
use mathlib.Core.Path.{◌≡◌, refl, ap, ◌∙◌}
use mathlib.Core.List.{List}
use Prim.Native.Nat.{ℕ, ◌+◌, ◌-◌, ◌*◌, ◌≤◌, ◌<◌}
use native.Mathlib.Omega.{arith}
use lib.ListN.{length, get_or}
use Rattle.aiger.specs.Circuit.{var}
use Rattle.literals.specs.declared.Lit.{Lit}
use Rattle.literals.specs.declared.Var.{Var}
use Rattle.layout.specs.Words.{word}
use Rattle.frames.proofs.Facts.{latches-inside, latches-few, latches-apart}
use Rattle.ternary.specs.Entries.{put_below}
use Rattle.ternary.specs.declared.May.{May}
use Rattle.ternary.proofs.Entries.{below_none, below_more, put_word}
use borrow.Author.Rules.{rules}
use Rattle.ternary.proofs.put_state.Statement.{statement}
use Rattle.ternary.proofs.put_state.Tie as tie

abbrev saved : List ℕ → ℕ → May
saved state j = record { high = get_or state (2 * j) 0; low = get_or state (2 * j + 1) 0 }

abbrev invariant-loop : tie.invariant-loop-j
invariant-loop m order state can₀ count latches j₀ can j =
    (j ≤ count) × (length can ≡ length can₀) × (can ≡ put_below (λ i. var (word m (latches + 3 * i))) (saved state) j can₀)

abbrev decreases-loop : tie.decreases-loop-j
decreases-loop m order state can₀ count latches j₀ can j = count - j

-- in a turn: where the latch's literal stands
module _ (n : tie.In-loop-j invariant-loop decreases-loop) where
  abbrev S : tie.Start invariant-loop decreases-loop
  S = n.before.before.before.before.before.before

  abbrev j : ℕ
  j = n.loop-j.j

  abbrev w : ℕ
  w = word S.args.m.now (S.args.layout.latches + 3 * j)

  inside : S.args.layout.latches + 3 * j < length S.args.m.now
  inside = omega (arith, latches-inside S.requires.0, n.loop-j-test.true)

  small : 2 * var w + 1 < length n.loop-j.can
  small = omega (arith, (latches-apart S.requires.0).below j (omega (arith, n.loop-j-test.true)), S.requires.1, n.loop-j.invariant.1)

  few : 2 * j + 1 < length S.args.state.now
  few = omega (arith, latches-few S.requires.0, n.loop-j-test.true, S.requires.2)

loop-holds : tie.Need-loop-j-init invariant-loop decreases-loop
loop-holds c =
    let a = c.args in
    (omega arith, refl, below_none (λ i. var (word a.m.now (a.layout.latches + 3 * i))) (saved a.state.now) a.can.now)

mul-from-word : tie.Need-overflow_mul-j invariant-loop decreases-loop
mul-from-word c = omega (arith, inside c)

add-from-word : tie.Need-overflow_add-latches invariant-loop decreases-loop
add-from-word c = omega (arith, inside c)

mul-from-word-2 : tie.Need-offset_bounds-m-latches invariant-loop decreases-loop
mul-from-word-2 c = omega (arith, inside c)

shared-slice-read-from-word : tie.Need-bounds-m-latches invariant-loop decreases-loop
shared-slice-read-from-word c = inside c.before

mul-t13 : tie.Need-overflow_mul-saved invariant-loop decreases-loop
mul-t13 c = omega (arith, few c.before.before.before)

shared-slice-read-t19 : tie.Need-bounds-state-j invariant-loop decreases-loop
shared-slice-read-t19 c = omega (arith, few c.before.before.before.before)

mul-t14 : tie.Need-overflow_mul-saved-in-loop-j invariant-loop decreases-loop
mul-t14 c = omega (arith, few c.before.before.before.before)

add-t15 : tie.Need-overflow_add-saved invariant-loop decreases-loop
add-t15 c = omega (arith, few c.before.before.before.before)

shared-slice-read-t21 : tie.Need-bounds-state-j-in-loop-j invariant-loop decreases-loop
shared-slice-read-t21 c = omega (arith, few c.before.before.before.before.before)

put-requires : tie.Need-put-requires invariant-loop decreases-loop
put-requires c κs =
    let v = ap (λ (v : Var). v.0) c.var-v.ensures ∙ ap (λ (l : Lit). l.0.0) c.from_word.ensures in
    omega (arith, v, small (c.before.before.before.before.before.before))

add-j : tie.Need-overflow_add-j invariant-loop decreases-loop
add-j c = omega (arith, few c.before.before.before.before.before.before.before.before.before)

loop-less : tie.Need-loop-j-smaller invariant-loop decreases-loop
loop-less c = omega (arith, c.loop-j-test.true)

loop-again : tie.Need-loop-j-preserved invariant-loop decreases-loop
loop-again c =
    let a = c.args in
    let p : ℕ → ℕ = λ i. var (word a.m.now (a.layout.latches + 3 * i)) in (
      omega (arith, c.loop-j-test.true),
      c.put.auto.can ∙ c.loop-j.invariant.1,
      put_word c.loop-j.can (w (c.before.before.before.before.before.before.before.before.before)) {y = saved a.state.now c.loop-j.j} c.from_word.ensures c.var-v.ensures
          refl c.put.ensures
          ∙ below_more p (saved a.state.now) c.loop-j.j a.can.now c.loop-j.can c.loop-j.invariant.2,
    )

same_length : tie.Need-shape_of-can invariant-loop decreases-loop
same_length c = c.loop-j.invariant.1

returns : tie.Need-returns invariant-loop decreases-loop
returns c =
    let a = c.args in
    let e : c.loop-j.j ≡ a.layout.l = omega (arith, c.loop-j.invariant.0, c.loop-j-test.false) in
    let p : ℕ → ℕ = λ i. var (word a.m.now (a.layout.latches + 3 * i)) in
    c.loop-j.invariant.2 ∙ ap (λ (k : ℕ). put_below p (saved a.state.now) k a.can.now) e

pub put_state_spec : {M : Type 1} → statement M
put_state_spec =
    tie.close
    (tie.spec invariant-loop decreases-loop loop-holds mul-from-word add-from-word mul-from-word-2 shared-slice-read-from-word (λ c κs. search rules) (λ c κs. search rules) mul-t13 shared-slice-read-t19 mul-t14 add-t15 shared-slice-read-t21 put-requires add-j loop-less loop-again same_length returns)
