-- `frames::bad_word` meets its contract. Assumes nothing.
use mathlib.Core.Path.{ap, ◌∙◌}
use Prim.Native.Nat.{◌+◌}
use native.Mathlib.Omega.{arith}
use borrow.Author.Rules.{rules}
use Rattle.aiger.specs.Frames.{value}
use Rattle.literals.specs.declared.Lit.{Lit}
use Rattle.literals.proofs.Words.{word_read}
use Rattle.layout.specs.Words.{word}
use Rattle.frames.specs.Lanes.{lane}
use Rattle.frames.proofs.Facts.{bad-inside, bad-below}
use Rattle.frames.proofs.Hits.{bad-end}
use Rattle.frames.proofs.bad_word.Statement.{statement}
use Rattle.frames.proofs.bad_word.Tie as tie

mul-from-word : tie.Need-offset_bounds-m-bads
mul-from-word c = omega (arith, bad-inside c.requires.0 c.args.b c.requires.1)

shared-slice-read-from-word : tie.Need-bounds-m-bads
shared-slice-read-from-word c = omega (arith, bad-inside c.requires.0 c.args.b c.requires.1)

literal-value-requires : tie.Need-literal_value-requires
literal-value-requires c κs =
    rw (ap (λ (l : Lit). l.0.0) c.from_word.ensures) (bad-below c.requires.0 c.args.b c.requires.1)

returns : tie.Need-returns
returns c =
    λ p l.
    c.literal_value.ensures p l
    ∙ ap (value (lane c.args.values.now p)) (word_read (word c.args.m.now (c.args.layout.bads + c.args.b)) c.from_word.ensures)
    ∙ bad-end c.requires.0 c.args.b c.requires.1 (lane c.args.values.now p)

pub bad_word_spec : {M : Type 1} → statement M
bad_word_spec =
    tie.close
    (tie.spec (λ c. search rules) mul-from-word shared-slice-read-from-word (λ c κs. search rules) literal-value-requires returns)
