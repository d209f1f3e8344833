-- `numbers::digit_count` meets its contract: it is the count of a number that may be longer. Assumes nothing.
use mathlib.Core.Path.{ap, ◌∙◌}
use native.Mathlib.Omega.{arith}
use lib.ListN.{length}
use Rattle.aiger.specs.Text.{long_digits}
use Rattle.numbers.proofs.Digits.{long_same}
use Rattle.numbers.proofs.digit_count.Goals as goal

pub returns : goal.returns
returns c =
    c.long_digit_count.ensures ∙ ap (λ x. length (long_digits x)) c.from.ensures
    ∙ ap length (long_same c.args.n (omega arith))
