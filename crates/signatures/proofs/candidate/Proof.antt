-- `signatures::candidate` meets its contract: a first difference of 64 says that the words are equal. Assumes nothing.
use mathlib.Core.Path.{◌≡◌, subst}
use Prim.Native.Nat.{ℕ, ◌+◌, ◌*◌}
use native.Mathlib.Omega.{arith}
use borrow.Author.Rules.{rules}
use Rattle.signatures.specs.Twin.{Candidate}
use Rattle.signatures.proofs.Twins.{candidate-even, candidate-odd, candidate-none}
use Rattle.signatures.proofs.candidate.Statement.{statement}
use Rattle.signatures.proofs.candidate.Tie as tie

returns : tie.Need-returns-then-first_difference-eq64
returns c =
    let k = c.args.k.0 in
    let z : 2 * k + 1 ≡ 2 * k + 0 + 1 = omega arith in
    subst (λ (r : ℕ). Candidate k c.args.t c.args.s r) z
    (candidate-even k c.args.t c.args.s c.ranges.t.fits c.ranges.s.fits (c.first_difference.ensures.equal c.if-first_difference-eq64.true))

returns-2 : tie.Need-returns-then-first_difference-eq64-2
returns-2 c =
    candidate-odd c.args.k.0 c.args.t c.args.s c.ranges.t.fits c.ranges.s.fits (c.first_difference-2.ensures.equal c.if-first_difference-eq64-2.true)

returns-3 : tie.Need-returns
returns-3 c =
    candidate-none c.args.k.0 c.args.t c.args.s c.ranges.t.fits c.ranges.s.fits
    (λ q. c.if-first_difference-eq64.false (c.first_difference.ensures.none q)) (λ q. c.if-first_difference-eq64-2.false (c.first_difference-2.ensures.none q))

pub candidate_spec : {M : Type 1} → statement M
candidate_spec = tie.close (tie.spec (λ c κs. search rules) returns (λ c κs. search rules) returns-2 returns-3)
