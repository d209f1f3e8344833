use mathlib.Core.Path.{◌≡◌, ap, subst}
use mathlib.Core.Bool.{Bool, true, false}
use Prim.Native.Nat.{ℕ, ◌+◌, ◌-◌, ◌*◌, ◌/◌, ◌%◌, ◌^◌, ◌≤◌, ◌<◌}
use native.Mathlib.Omega.{arith}
use lib.Dec.{T}
use lib.ListN.{get_or}
use Rattle.aiger.specs.Bits.{nonzero}
use Rattle.simulation.proofs.Words.{first_word, true-false}
use borrow.Author.Rules.{rules}
use Rattle.simulation.proofs.uses.Statement.{statement}
use Rattle.simulation.proofs.uses.Tie as tie
use Rattle.simulation.proofs.uses.Reads as reads
use Rattle.simulation.proofs.uses.Lts as lts
use Rattle.simulation.proofs.is_free_from.Reads as is-free-from-reads

returns : tie.Need-returns-then-work-k-eq0
returns c = λ e.
    let a = c.args in
    let z : get_or a.work.now (16 * a.k + 10) 0 ≡ 0 = omega arith in
    record { left = λ t. absurd (subst T (ap nonzero z) t); right = λ t. absurd (subst T (ap nonzero z) t) }

returns-2 : tie.Need-returns-then-is_free_from
returns-2 c = λ e. let z : ◌≡◌ {A = Bool} true false = e in absurd (true-false z)

returns-3 : tie.Need-returns
returns-3 c = λ e.
    let w = c.args.work.now in
    let k = c.args.k in
    record {
      left = λ t l. omega (arith, c.is_free_from.ensures c.if-is_free_from.false (omega (arith, first_word w k)), first_word w k);
      right = λ t l. c.is_free_from-2.ensures e l;
    }

pub uses_spec : {M : Type 1} → statement M
uses_spec =
    tie.close
    (tie.spec (λ c. search rules) (λ c. search rules) (λ c. search rules) (λ c. search rules) returns (λ c. search rules) (λ c. search rules) (λ c. search rules) (λ c κs. search rules) returns-2 (λ c. search rules) (λ c. search rules) (λ c. search rules) (λ c. search rules) (λ c κs. search rules) returns-3)
