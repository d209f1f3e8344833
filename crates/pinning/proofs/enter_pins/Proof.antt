-- `pinning::enter_pins` meets its contract. Assumes nothing.
use mathlib.Core.Path.{◌≡◌, refl, ap, subst, ◌∙◌}
use Prim.Native.Nat.{ℕ, ◌+◌, ◌-◌, ◌/◌, ◌≤◌, ◌<◌}
use native.Mathlib.Omega.{arith}
use lib.ListN.{length, get_or, length-set}
use Rattle.aiger.specs.Circuit.{var}
use Rattle.literals.specs.declared.Var.{Var}
use Rattle.layout.specs.Words.{word}
use Rattle.pins.specs.Pins.{pins_of}
use Rattle.pinning.proofs.Tables.{Entered, entered-start, entered-more, entered-end}
use borrow.Author.Rules.{rules}
use Rattle.pinning.proofs.enter_pins.Statement.{statement}
use Rattle.pinning.proofs.enter_pins.Tie as tie
use Rattle.pinning.proofs.enter_pins.Reads as reads
use Rattle.pinning.proofs.enter_pins.Lts as lts
use Rattle.pinning.proofs.pin_at.Reads as pin-at-reads
use Rattle.pinning.proofs.variable_at.Reads as variable-at-reads

abbrev invariant-loop : tie.invariant-loop-i
invariant-loop m inputs pins user table₀ i₀ table i =
    (i ≤ inputs) × (length table ≡ length table₀) × Entered m (pins_of pins user) inputs i table

abbrev decreases-loop : tie.decreases-loop-i
decreases-loop m inputs pins user table₀ i₀ table i = i

loop-holds : tie.Need-loop-i-init invariant-loop decreases-loop
loop-holds c =
    let a = c.args in
    let free = c.requires.1.1 in
    (omega arith, refl, entered-start a.m.now (pins_of a.pins.now a.user) a.inputs a.table.now free)

sub-i : tie.Need-overflow_sub-i invariant-loop decreases-loop
sub-i c = omega arith

add-variable-at : tie.Need-overflow_add-i invariant-loop decreases-loop
add-variable-at c = omega arith

variable-at-requires : tie.Need-variable_at-v-requires invariant-loop decreases-loop
variable-at-requires c κs = omega arith

pin-at-requires : tie.Need-pin_at-requires invariant-loop decreases-loop
pin-at-requires c κs = (omega arith, omega arith)

-- the variable that was read
read : (c : tie.After-pin_at invariant-loop decreases-loop)
    → (c.variable_at-v.result.0 ≡ var (word c.args.m.now (7 + (c.loop-i.i - 1))))
read c = ap (λ (v : Var). v.0) c.variable_at-v.ensures

slice-write-table : tie.Need-bounds-table-place invariant-loop decreases-loop
slice-write-table c =
    omega (arith, read c, c.requires.1.0 (c.loop-i.i - 1) (omega arith))

loop-less : tie.Need-loop-i-smaller invariant-loop decreases-loop
loop-less c = omega arith

loop-again : tie.Need-loop-i-preserved invariant-loop decreases-loop
loop-again c =
    let a = c.args in
    let i = c.loop-i.i - 1 in
    let q = pins_of a.pins.now a.user in
    let u = c.variable_at-v.result.0 in
    let back : c.loop-i.i ≡ i + 1 = omega arith in (
      omega arith,
      length-set c.loop-i.table u c.pin_at.result ∙ c.loop-i.invariant.1,
      rw c.pin_at.ensures
          (entered-more a.m.now q a.inputs i c.loop-i.table u (omega arith) (read c)
          (omega (arith, read c, c.requires.1.0 i (omega arith)))
          (subst (λ (x : ℕ). Entered a.m.now q a.inputs x c.loop-i.table) back c.loop-i.invariant.2)),
    )

same_length : tie.Need-shape_of-table invariant-loop decreases-loop
same_length c = c.loop-i.invariant.1

returns : tie.Need-returns invariant-loop decreases-loop
returns c =
    let a = c.args in
    let z : c.loop-i.i ≡ 0 = omega arith in
    entered-end a.m.now (pins_of a.pins.now a.user) a.inputs c.loop-i.table
    (subst (λ (x : ℕ). Entered a.m.now (pins_of a.pins.now a.user) a.inputs x c.loop-i.table) z c.loop-i.invariant.2)

pub enter_pins_spec : {M : Type 1} → statement M
enter_pins_spec =
    tie.close
    (tie.spec invariant-loop decreases-loop loop-holds sub-i add-variable-at variable-at-requires (λ c. search rules) pin-at-requires slice-write-table loop-less loop-again same_length returns)
