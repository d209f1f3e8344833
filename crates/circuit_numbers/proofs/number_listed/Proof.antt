-- `circuit_numbers::number_listed` meets its contract. Assumes nothing.
use mathlib.Core.Path.{◌≡◌, sym, ap, ap₂, ◌∙◌}
use mathlib.Core.List.{List}
use Prim.Native.Nat.{ℕ, ◌+◌, ◌*◌, ◌≤◌}
use native.Mathlib.Omega.{arith}
use borrow.Author.Rules.{rules}
use lib.ListN.{length, length-replicate}
use lib.Seq.{length-take-le}
use Rattle.circuit_numbers.proofs.Laws.{Sizes, sizes, vars-are, operands-are, ready_for, numbered-all}
use Rattle.renumbered_laws.proofs.Numbers.{vars-length}
use Rattle.circuit_numbers.proofs.number_listed.Statement.{statement}
use Rattle.circuit_numbers.proofs.number_listed.Tie as tie

cast-k : tie.Need-overflow_cast-k
cast-k c = omega (arith, sizes c.requires.0 c.requires.1.0)

read-gates-requires : tie.Need-read_gates-requires
read-gates-requires c κs =
    let z = sizes c.requires.0 c.requires.1.0 in
    (z.inside, omega (arith, z.few, length-replicate {A = ℕ} 3072 0), omega (arith, z.few, length-replicate {A = ℕ} 6144 0))

array-share-prefix-vars : tie.Need-slice_bounds-vars-end
array-share-prefix-vars c = omega (arith, (sizes c.requires.0 c.requires.1.0).few)

slice-aggregate-number-read : tie.Need-slice_bounds-number_read-end
slice-aggregate-number-read c =
    sym (length-take-le c.args.p.a c.read_gates.new.vars (omega (arith, (sizes c.requires.0 c.requires.1.0).few, c.read_gates.auto.vars, length-replicate {A = ℕ} 3072 0)))

array-share-prefix-ops : tie.Need-slice_bounds-ops-end
array-share-prefix-ops c = omega (arith, (sizes c.requires.0 c.requires.1.0).few)

slice-aggregate-number-read-2 : tie.Need-slice_bounds-number_read-end-2
slice-aggregate-number-read-2 c =
    sym (length-take-le (2 * c.args.p.a) c.read_gates.new.ops (omega (arith, (sizes c.requires.0 c.requires.1.0).few, c.read_gates.auto.ops, length-replicate {A = ℕ} 6144 0)))

number-read-requires : tie.Need-number_read-requires
number-read-requires c κs =
    let z = sizes c.requires.0 c.requires.1.0 in
    let n₁ : c.args.p.a ≤ length c.read_gates.new.vars = omega (arith, z.few, c.read_gates.auto.vars, length-replicate {A = ℕ} 3072 0) in
    let n₂ : 2 * c.args.p.a ≤ length c.read_gates.new.ops = omega (arith, z.few, c.read_gates.auto.ops, length-replicate {A = ℕ} 6144 0) in
    let size = length-take-le c.args.p.a c.read_gates.new.vars n₁ in (
      ready_for c.requires.0 (vars-are c.requires.0 c.args.p c.requires.1.0 c.read_gates.ensures n₁) (operands-are c.requires.0 c.args.p c.requires.1.0 c.read_gates.ensures n₂) c.requires.1.1.0,
      (omega (arith, size, z.few, c.requires.1.1.1), omega (arith, size, z.top), omega arith),
    )

returns : tie.Need-returns
returns c =
    let z = sizes c.requires.0 c.requires.1.0 in
    let n₁ : c.args.p.a ≤ length c.read_gates.new.vars = omega (arith, z.few, c.read_gates.auto.vars, length-replicate {A = ℕ} 3072 0) in
    let n₂ : 2 * c.args.p.a ≤ length c.read_gates.new.ops = omega (arith, z.few, c.read_gates.auto.ops, length-replicate {A = ℕ} 6144 0) in
    numbered-all c.requires.0 (vars-are c.requires.0 c.args.p c.requires.1.0 c.read_gates.ensures n₁)
    (operands-are c.requires.0 c.args.p c.requires.1.0 c.read_gates.ensures n₂) c.requires.1.1.0
    (ap₂ (λ (x y : ℕ). x + y + 1) z.inputs z.latches) c.number_read.ensures

pub number_listed_spec : {M : Type 1} → statement M
number_listed_spec =
    tie.close
    (tie.spec (λ c. search rules) (λ c. search rules) cast-k (λ c. search rules) (λ c. search rules) read-gates-requires array-share-prefix-vars slice-aggregate-number-read (λ c. search rules) array-share-prefix-ops slice-aggregate-number-read-2 number-read-requires (λ c. search rules) (λ c. search rules) returns)
