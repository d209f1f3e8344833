-- Clause 13.3: the level of a wire over many runs. Assumes nothing.
use Rattle.std.specs.Prelude.{Bool, not, cond, ℕ, eqb}
use Rattle.aiger.specs.Lists.{every_below}
use Rattle.vcd.specs.Text.{Level}

-- the level of a wire whose value is p v in run v, over the runs below n: 1 in all of them, 0 in all of them, or neither
unfoldable pub level_over : ℕ → (ℕ → Bool) → Level
level_over n p = cond (every_below n p) Level.high (cond (every_below n (λ v. not (p v))) Level.low Level.either)

-- the level over two groups of runs: theirs, where it is the same
abbrev pub joined : Level → Level → Level
joined Level.low Level.low = Level.low
joined Level.low Level.high = Level.either
joined Level.low Level.either = Level.either
joined Level.high Level.low = Level.either
joined Level.high Level.high = Level.high
joined Level.high Level.either = Level.either
joined Level.either v = Level.either

-- the level after a block of runs whose own level is `new`; before block 0 there is none
abbrev pub after : ℕ → Level → Level → Level
after block old new = cond (eqb block 0) new (joined old new)

-- the same of characters: `new` in block 0; after it that of both where they are equal, else `x`
abbrev pub after_byte : ℕ → ℕ → ℕ → ℕ
after_byte block old new = cond (eqb block 0) new (cond (eqb old new) new 120)
