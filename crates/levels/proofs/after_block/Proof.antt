-- `levels::after_block` meets its contract. Assumes nothing.
use Rattle.levels.proofs.Levels.{first_byte, same_byte, other_byte}
use Rattle.levels.proofs.after_block.Statement.{statement}
use Rattle.levels.proofs.after_block.Tie as tie

returns : tie.Need-returns-then-block-eq0
returns c = let a = c.args in first_byte a.block a.old a.new c.if-block-eq0.true

returns-2 : tie.Need-returns-then-old-new
returns-2 c = let a = c.args in same_byte a.block a.old a.new c.if-block-eq0.false c.if-old-new.true

returns-3 : tie.Need-returns-else-old-new
returns-3 c = let a = c.args in other_byte a.block a.old a.new c.if-block-eq0.false c.if-old-new.false

pub after_block_spec : {M : Type 1} → statement M
after_block_spec = tie.close (tie.spec returns returns-2 returns-3)
