-- `define` meets its contract. The loop's invariant: the table has the definitions before the column and those passed.
-- Assumes nothing.
use Rattle.std.proofs.lemmas.Bool.{not_from_true}
use Rattle.std.proofs.lemmas.Bool.{not_from_false}
use Rattle.variables.proofs.Entries.{define-more, define-not}
use Rattle.literals.proofs.Words.{word_read}
use Rattle.columns.specs.Columns.{at}
use Rattle.variables.specs.Table.{Entered}
use borrow.Author.Tests.{not-true, not-false}
use lib.ListN.{length}
use native.Mathlib.Omega.{arith}
use Prim.Native.Nat.{◌+◌, ◌-◌, ◌≤◌}
use mathlib.Core.Path.{◌≡◌, refl, ◌∙◌}
use borrow.Author.Rules.{rules}
use Rattle.variables.proofs.define.Statement.{statement}
use Rattle.variables.proofs.define.Tie as tie

abbrev invariant-loop : tie.invariant-loop-i
invariant-loop w table₀ m base p stride n i₀ table i = (i ≤ n) × (length table ≡ length table₀) × Entered w (base + i) table

abbrev decreases-loop : tie.decreases-loop-i
decreases-loop w table₀ m base p stride n i₀ table i = n - i

loop-holds : tie.Need-loop-i-init invariant-loop decreases-loop
loop-holds c =
    let z : c.args.base + 0 ≡ c.args.base = omega arith in
    (omega arith, refl, rw z c.requires.before)

mul-from-word : tie.Need-overflow_mul-stride invariant-loop decreases-loop
mul-from-word c =
    omega (arith, c.requires.inside c.loop-i.i c.loop-i-test.true)

add-from-word : tie.Need-overflow_add-at invariant-loop decreases-loop
add-from-word c =
    omega (arith, c.requires.inside c.loop-i.i c.loop-i-test.true)

mul-from-word-2 : tie.Need-offset_bounds-w-at invariant-loop decreases-loop
mul-from-word-2 c =
    omega (arith, c.requires.inside c.loop-i.i c.loop-i-test.true)

shared-slice-read-from-word : tie.Need-bounds-w-at invariant-loop decreases-loop
shared-slice-read-from-word c = c.requires.inside c.loop-i.i
    c.loop-i-test.true

cast-enter : tie.Need-overflow_cast-i invariant-loop decreases-loop
cast-enter c = omega arith

add-enter : tie.Need-overflow_add-base invariant-loop decreases-loop
add-enter c = omega arith

add-enter-2 : tie.Need-overflow_add-base-in-loop-i invariant-loop decreases-loop
add-enter-2 c = omega arith

enter-requires : tie.Need-enter-requires invariant-loop decreases-loop
enter-requires c κs =
    omega (arith, c.requires.most, c.loop-i.invariant.2.room)

same_length : tie.Need-shape_of-table-then-not-enter invariant-loop decreases-loop
same_length c = c.enter.auto.table
    ∙ c.loop-i.invariant.1

returns : tie.Need-returns-then-not-enter invariant-loop decreases-loop
returns c =
    define-not _ _ _ _ _ c.requires c.loop-i.i c.loop-i-test.true _
    c.loop-i.invariant.2 c.enter.new.table
    (rw (
      not-true c.enter.result (not_from_false _ c.if-not-enter.true),
      word_read (at c.args.w.now c.args.c c.loop-i.i)
          c.from_word-l.ensures,
    ) at c.enter.ensures)

add-i : tie.Need-overflow_add-i invariant-loop decreases-loop
add-i c = omega arith

loop-less : tie.Need-loop-i-smaller invariant-loop decreases-loop
loop-less c = omega arith

loop-again : tie.Need-loop-i-preserved invariant-loop decreases-loop
loop-again c = (
  omega arith,
  c.enter.auto.table ∙ c.loop-i.invariant.1,
  define-more _ _ _ _ _ c.requires c.loop-i.i c.loop-i-test.true _
      c.loop-i.invariant.2 c.enter.new.table
      (rw (
        not-false c.enter.result (not_from_true _ c.if-not-enter.false),
        word_read (at c.args.w.now c.args.c c.loop-i.i)
            c.from_word-l.ensures,
      ) at c.enter.ensures),
)

same-length-2 : tie.Need-shape_of-table invariant-loop decreases-loop
same-length-2 c = c.loop-i.invariant.1

returns-2 : tie.Need-returns invariant-loop decreases-loop
returns-2 c =
    let z : c.args.c.n ≡ c.loop-i.i = omega arith in
    rw z c.loop-i.invariant.2

pub define_spec : {M : Type 1} → statement M
define_spec =
    tie.close
    (tie.spec invariant-loop decreases-loop loop-holds mul-from-word add-from-word mul-from-word-2 shared-slice-read-from-word (λ c κs. search rules) cast-enter add-enter add-enter-2 enter-requires same_length returns add-i loop-less loop-again same-length-2 returns-2)
