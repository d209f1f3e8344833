-- Literals and their words. Assumes nothing.
use Rattle.std.specs.Prelude.{Bool, not, cond, ℕ, ◌+◌, ◌*◌}
use Rattle.aiger.specs.Bits.{odd}
use Rattle.aiger.specs.Circuit as circuit
use Rattle.literals.specs.declared.Lit.{Lit}

-- the literal of a variable number and a sign, true for the complement
abbrev pub signed : ℕ → Bool → Lit
signed v b = record { 0 = record { 0 = v }; 1 = b }

-- the literal that a word stands for
abbrev pub literal : ℕ → Lit
literal w = signed (circuit.var w) (odd w)

-- Clause 1.8: literal 2v stands for variable v, 2v + 1 for its complement
abbrev pub word_of : Lit → ℕ
word_of l = 2 * l.0.0 + cond l.1 1 0

abbrev pub complemented : Lit → Lit
complemented l = signed l.0.0 (not l.1)
