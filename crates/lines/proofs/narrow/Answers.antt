-- `lines::narrow` meets its contract. Assumes nothing.
use Rattle.std.proofs.Common.{arith}
use Rattle.lines.proofs.Storing.{narrowed-within, narrowed-above}
use Rattle.lines.proofs.narrow.Goals as goal

pub returns-then-v-from : goal.returns-then-v-from
returns-then-v-from c = narrowed-within _ _ (omega (arith, c.from.ensures, c.if-v-from.true))

pub returns : goal.returns
returns c = narrowed-above _ _ (omega (arith, c.from.ensures, c.if-v-from.false))
