-- `words::pattern` meets its contract: one computed test over the whole table, at each entry and each bit. Clauses 5.7, 11.1.
-- Assumes nothing.
use Rattle.std.proofs.Common.{ℕ, ◌<◌, Bool, List, [], ◌∷◌, ◌≡◌, ◌∙◌, sym}
use mathlib.Core.Bool.{beq}
use lib.Dec.{T}
use lib.ListN.{get_or}
use Rattle.aiger.specs.Bits.{bit}
use Rattle.aiger.specs.Lists.{every_below}
use Rattle.aiger.proofs.Tests.{below_at, equal-of-beq}
use Rattle.words.proofs.Bits.{bit-beyond, bit-none}
use Rattle.words.proofs.pattern.Goals as goal

-- entry j has bit p set where bit j of p is
abbrev right : List ℕ → ℕ → ℕ → Bool
right xs j p = beq (bit (get_or xs j 0) p) (bit p j)

rule : (xs : List ℕ) → T (every_below 6 (λ j. every_below 64 (right xs j))) → (j p : ℕ) → j < 6 → p < 64 → bit (get_or xs j 0) p ≡ bit p j
rule xs tested j p hj hp =
    equal-of-beq (bit (get_or xs j 0) p) (bit p j)
    (below_at 64 (right xs j) (below_at 6 (λ j. every_below 64 (right xs j)) tested j hj) p hp)

-- the code's own table
abbrev table : List ℕ
table = 12297829382473034410 ∷ 14757395258967641292 ∷ 17361641481138401520 ∷ 18374966859414961920 ∷ 18446462603027742720 ∷ 18446744069414584320 ∷ []

tested : T (every_below 6 (λ j. every_below 64 (right table j)))
unfolding bit
tested = tt

pub returns-then-j-lt6 : goal.returns-then-j-lt6
returns-then-j-lt6 c = λ p h. rule table tested c.args.j p c.if-j-lt6.true h

pub returns-else-j-lt6 : goal.returns-else-j-lt6
returns-else-j-lt6 c = λ p h. bit-none p ∙ sym (bit-beyond 6 p c.args.j h c.if-j-lt6.false)
