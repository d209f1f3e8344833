-- `traces::free_bit` meets its contract. Assumes nothing.
use mathlib.Core.Path.{◌≡◌, refl, sym, ap, ◌∙◌, subst}
use Prim.Native.Nat.{ℕ, zero, suc, ◌+◌, ◌-◌, ◌*◌, ◌/◌, ◌%◌, ◌≤◌, ◌<◌}
use native.Mathlib.Nat.{mod-lt, div-add-mod', mul_comm}
use native.Mathlib.Omega.{arith}
use lib.ListN.{length, get_or}
use Rattle.aiger.specs.Bits.{bit}
use Rattle.machine.proofs.Expand.{quotient-below}
use Rattle.traces.proofs.Bits.{start-free, row-free}
use borrow.Author.Rules.{rules}
use Rattle.traces.proofs.free_bit.Statement.{statement}
use Rattle.traces.proofs.free_bit.Tie as tie

-- there is a row where there is a free bit after those of the start
some-row : (free width j k : ℕ) → free ≤ j → j < free + width * k → 0 < width
some-row free width j k n l = go width l
  where
    go : (w : ℕ) → j < free + w * k → 0 < w
    go zero h = absurd (omega arith)
    go (suc w) h = omega arith

-- which is one of the first k
row_below : (free width j k : ℕ) → free ≤ j → j < free + width * k → (j - free) / width < k
row_below free width j k n l = quotient-below (j - free) k width (omega (arith, mul_comm width k))

shared-slice-read-result : tie.Need-bounds-trace-0
shared-slice-read-result c = omega (arith, c.requires.0)

returns : tie.Need-returns-then-j-free
unfolding bit
returns c = λ t x d l. start-free c.args.width c.args.trace.now c.args.free t x c.args.j d c.if-j-free.true

div-u : tie.Need-nonzero_div-u
div-u c = omega (arith, some-row c.args.free c.args.width c.args.j 256 c.if-j-free.false c.requires.3)

rem-i : tie.Need-nonzero_rem-i
rem-i c = omega (arith, some-row c.args.free c.args.width c.args.j 256 c.if-j-free.false c.requires.3)

add-result : tie.Need-overflow_add-result
add-result c = omega (arith, row_below c.args.free c.args.width c.args.j 256 c.if-j-free.false c.requires.3)

mul-result : tie.Need-offset_bounds-trace-u
mul-result c = omega (arith, row_below c.args.free c.args.width c.args.j 256 c.if-j-free.false c.requires.3)

shared-slice-read-result-2 : tie.Need-bounds-trace-u
shared-slice-read-result-2 c = omega (arith, c.requires.0, row_below c.args.free c.args.width c.args.j 256 c.if-j-free.false c.requires.3)

sub-result-3 : tie.Need-overflow_sub-result-2
sub-result-3 c = omega (arith, some-row c.args.free c.args.width c.args.j 256 c.if-j-free.false c.requires.3)

sub-result-4 : tie.Need-overflow_sub-result-3
sub-result-4 c = omega (arith, mod-lt (c.args.j - c.args.free) (some-row c.args.free c.args.width c.args.j 256 c.if-j-free.false c.requires.3))

cast-result-2 : tie.Need-overflow_cast-result-2
cast-result-2 c = omega (arith, c.requires.2)

shr-result-2 : tie.Need-overflow_shr-result-2
shr-result-2 c = omega (arith, c.requires.2)

returns-2 : tie.Need-returns
unfolding bit
returns-2 c =
    λ t x d l.
    let a = c.args in
    let w = some-row a.free a.width a.j 256 c.if-j-free.false c.requires.3 in
    row-free a.width a.trace.now a.free t x ((a.j - a.free) / a.width) ((a.j - a.free) % a.width) a.j d (omega (arith, div-add-mod' (a.j - a.free) a.width, c.if-j-free.false)) (mod-lt (a.j - a.free) w) l

pub free_bit_spec : {M : Type 1} → statement M
free_bit_spec =
    tie.close
    (tie.spec shared-slice-read-result (λ c. search rules) (λ c. search rules) (λ c. search rules) (λ c. search rules) returns div-u rem-i add-result mul-result shared-slice-read-result-2 sub-result-3 sub-result-4 cast-result-2 shr-result-2 returns-2)
