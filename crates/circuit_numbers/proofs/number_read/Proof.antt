-- `circuit_numbers::number_read` meets its contract. Assumes nothing.
use mathlib.Core.Path.{◌≡◌, sym}
use mathlib.Core.List.{List}
use Prim.Native.Nat.{ℕ, ◌≤◌}
use native.Mathlib.Omega.{arith}
use borrow.Author.Rules.{rules}
use lib.ListN.{length, take, replicate, length-replicate}
use lib.Seq.{length-take-le}
use Rattle.meaning.proofs.Lists.{get_d-zeros}
use Rattle.circuit_numbers.proofs.number_read.Statement.{statement}
use Rattle.circuit_numbers.proofs.number_read.Tie as tie

-- a part of the words that are lent has the length that is asked for
part_length : (n : ℕ) → n ≤ 3072 → length (take n (replicate {A = ℕ} 3072 0)) ≡ n
part_length n h = length-take-le n (replicate 3072 0) (omega (arith, length-replicate {A = ℕ} 3072 0))

slice-aggregate-number-gates-2 : tie.Need-slice_bounds-number_gates-end-2
slice-aggregate-number-gates-2 c = sym
    (part_length (length c.args.vars.now) c.requires.0.0.few)

number-gates-requires : tie.Need-number_gates-requires
number-gates-requires c κs =
    let g = c.requires.0.0 in (
      c.requires.0,
      (
        c.requires.1,
        (
          (omega (arith, g.pairs, g.few, length-replicate {A = ℕ} 10241 0), get_d-zeros 10241),
          part_length (length c.args.vars.now) g.few,
        ),
      ),
    )

pub number_read_spec : {M : Type 1} → statement M
number_read_spec =
    tie.close
    (tie.spec (λ c. search rules) (λ c. search rules) slice-aggregate-number-gates-2 number-gates-requires (λ c. search rules) (λ c. search rules) (λ c. search rules))
