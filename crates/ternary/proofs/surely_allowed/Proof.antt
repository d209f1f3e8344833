-- `ternary::surely_allowed` meets its contract. The loop's invariant: the first k constraints are sure. Assumes nothing.
use mathlib.Core.Path.{◌≡◌, refl, sym, ap, ◌∙◌}
use mathlib.Core.Bool.{Bool, true}
use Prim.Native.Nat.{ℕ, ◌+◌, ◌-◌, ◌*◌, ◌≤◌, ◌<◌}
use native.Mathlib.Omega.{arith}
use borrow.Author.Tests.{not-true, not-false}
use lib.ListN.{length, get_or}
use Rattle.aiger.specs.Lists.{every_below}
use Rattle.aiger.specs.Circuit.{var}
use Rattle.literals.specs.declared.Lit.{Lit}
use Rattle.literals.proofs.Words.{word_read}
use Rattle.layout.specs.Words.{word, circuit_in}
use Rattle.frames.proofs.Facts.{constraints-are, constraint-place, constraint-inside, constraint-below}
use Rattle.ternary.specs.Entries.{sure}
use Rattle.ternary.proofs.Entries.{every_more, every-fails}
use borrow.Author.Rules.{rules}
use Rattle.ternary.proofs.surely_allowed.Statement.{statement}
use Rattle.ternary.proofs.surely_allowed.Tie as tie

abbrev invariant-loop : tie.invariant-loop-k
invariant-loop m order can count constraints k₀ k =
    (k ≤ count) × (every_below k (λ i. sure can (get_or (circuit_in m).constraints i 0)) ≡ true)

abbrev decreases-loop : tie.decreases-loop-k
decreases-loop m order can count constraints k₀ k = count - k

-- in a turn: where the constraint stands
module _ (n : tie.In-loop-k invariant-loop decreases-loop) where
  abbrev S : tie.Start invariant-loop decreases-loop
  S = n.before.before.before.before.before

  few : n.loop-k.k < S.args.layout.c
  few = omega (arith, n.loop-k-test.true)

  inside : S.args.layout.constraints + n.loop-k.k < length S.args.m.now
  inside = constraint-inside S.requires.0 n.loop-k.k few

  small : var (word S.args.m.now (S.args.layout.constraints + n.loop-k.k)) < 4097
  small = constraint-below S.requires.0 n.loop-k.k few

loop-holds : tie.Need-loop-k-init invariant-loop decreases-loop
loop-holds c = (omega arith, refl)

add-from-word : tie.Need-overflow_add-constraints invariant-loop decreases-loop
add-from-word c = omega (arith, inside c)

mul-from-word : tie.Need-offset_bounds-m-constraints invariant-loop decreases-loop
mul-from-word c = omega (arith, inside c)

shared-slice-read-from-word : tie.Need-bounds-m-constraints invariant-loop decreases-loop
shared-slice-read-from-word c = inside c.before

is-sure-requires : tie.Need-is_sure-requires invariant-loop decreases-loop
is-sure-requires c κs =
    omega (arith, ap (λ (l : Lit). l.0.0) c.from_word.ensures, small c.before.before, c.requires.1)

-- whether constraint k is sure
told : (c : tie.After-is_sure invariant-loop decreases-loop)
    → (let a = c.args in
    c.is_sure.result ≡ sure a.can.now (get_or (circuit_in a.m.now).constraints c.loop-k.k 0))
told c =
    let a = c.args in
    let k = c.loop-k.k in
    let own = word_read (word a.m.now (a.layout.constraints + k)) c.from_word.ensures in
    c.is_sure.ensures ∙ ap (sure a.can.now) (own ∙ sym (constraint-place c.requires.0 k (few c.before.before.before)))

returns : tie.Need-returns-then-not-is_sure invariant-loop decreases-loop
returns c =
    let a = c.args in
    let cs = (circuit_in a.m.now).constraints in
    sym (every-fails (λ i. sure a.can.now (get_or cs i 0)) (length cs) c.loop-k.k
    (omega (arith, constraints-are c.requires.0, few (c.before.before.before.before)))
    (sym (told c.before) ∙ c.if-not-is_sure.true))

add-k : tie.Need-overflow_add-k invariant-loop decreases-loop
add-k c = omega (arith, inside c.before.before.before.before)

loop-less : tie.Need-loop-k-smaller invariant-loop decreases-loop
loop-less c = omega (arith, c.loop-k-test.true)

loop-again : tie.Need-loop-k-preserved invariant-loop decreases-loop
loop-again c =
    let a = c.args in (
      omega (arith, c.loop-k-test.true),
      every_more (λ i. sure a.can.now (get_or (circuit_in a.m.now).constraints i 0)) c.loop-k.k c.loop-k.invariant.1
          (sym (told c.before) ∙ c.if-not-is_sure.false),
    )

returns-2 : tie.Need-returns invariant-loop decreases-loop
returns-2 c =
    let a = c.args in
    let cs = (circuit_in a.m.now).constraints in
    let e : c.loop-k.k ≡ length cs = omega (arith, constraints-are c.requires.0, c.loop-k.invariant.0, c.loop-k-test.false) in
    sym (ap (λ (z : ℕ). every_below z (λ i. sure a.can.now (get_or cs i 0))) (sym e) ∙ c.loop-k.invariant.1)

pub surely_allowed_spec : {M : Type 1} → statement M
surely_allowed_spec =
    tie.close
    (tie.spec invariant-loop decreases-loop loop-holds add-from-word mul-from-word shared-slice-read-from-word (λ c κs. search rules) is-sure-requires returns add-k loop-less loop-again returns-2)
