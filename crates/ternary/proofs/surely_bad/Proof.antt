-- `ternary::surely_bad` meets its contract. Assumes nothing.
use mathlib.Core.Path.{◌≡◌, sym, ap, ◌∙◌}
use Prim.Native.Nat.{ℕ, ◌+◌}
use native.Mathlib.Omega.{arith}
use Rattle.literals.specs.declared.Lit.{Lit}
use Rattle.literals.proofs.Words.{word_read}
use Rattle.layout.specs.Words.{word}
use Rattle.frames.proofs.Facts.{bad-place, bad-inside, bad-below}
use Rattle.ternary.specs.Entries.{sure}
use borrow.Author.Rules.{rules}
use Rattle.ternary.proofs.surely_bad.Statement.{statement}
use Rattle.ternary.proofs.surely_bad.Tie as tie

add-from-word : tie.Need-overflow_add-bads
add-from-word c = omega (arith, bad-inside c.requires.0 c.args.b c.requires.1)

mul-from-word : tie.Need-offset_bounds-m-bads
mul-from-word c = omega (arith, bad-inside c.requires.0 c.args.b c.requires.1)

shared-slice-read-from-word : tie.Need-bounds-m-bads
shared-slice-read-from-word c = bad-inside c.requires.0 c.args.b c.requires.1

is-sure-requires : tie.Need-is_sure-requires
is-sure-requires c κs =
    let v = ap (λ (l : Lit). l.0.0) c.from_word.ensures in
    omega (arith, v, bad-below c.requires.0 c.args.b c.requires.1, c.requires.2)

returns : tie.Need-returns
returns c =
    let a = c.args in
    let own = word_read (word a.m.now (a.layout.bads + a.b)) c.from_word.ensures in
    c.is_sure.ensures ∙ ap (sure a.can.now) (own ∙ sym (bad-place c.requires.0 a.b c.requires.1))

pub surely_bad_spec : {M : Type 1} → statement M
surely_bad_spec =
    tie.close
    (tie.spec add-from-word mul-from-word shared-slice-read-from-word (λ c κs. search rules) is-sure-requires returns)
