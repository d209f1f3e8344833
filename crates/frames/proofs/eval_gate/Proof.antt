-- `frames::eval_gate` meets its contract. Assumes nothing.
use mathlib.Core.Path.{ap, ◌∙◌}
use Prim.Native.Nat.{◌+◌}
use Rattle.aiger.specs.Frames.{value}
use Rattle.literals.specs.declared.Lit.{Lit}
use Rattle.literals.specs.declared.Var.{Var}
use Rattle.literals.proofs.Words.{word_read}
use Rattle.layout.specs.Words.{word, gate_in}
use Rattle.frames.specs.Lanes.{lane}
use Rattle.frames.proofs.Gates.{gated}
use borrow.Author.Rules.{rules}
use Rattle.frames.proofs.eval_gate.Statement.{statement}
use Rattle.frames.proofs.eval_gate.Tie as tie

literal-value-requires : tie.Need-literal_value-x-requires
literal-value-requires c κs = rw (ap (λ (l : Lit). l.0.0) c.from_word.ensures) c.requires.left

literal-value-requires-2 : tie.Need-literal_value-y-requires
literal-value-requires-2 c κs = rw (ap (λ (l : Lit). l.0.0) c.from_word-2.ensures) c.requires.right

slice-write-values : tie.Need-bounds-values-place
slice-write-values c =
    rw (ap (λ (v : Var). v.0) c.var-v.ensures ∙ ap (λ (l : Lit). l.0.0) c.from_word-3.ensures) c.requires.lit

returns : tie.Need-returns
returns c =
    let m = c.args.m.now in
    let at = c.args.at in
    let values = c.args.values.now in
    rw (ap (λ (v : Var). v.0) c.var-v.ensures ∙ ap (λ (l : Lit). l.0.0) c.from_word-3.ensures)
    (gated (gate_in m at) values c.literal_value-x.result c.literal_value-y.result c.requires.lit
    (λ p h. c.literal_value-x.ensures p h ∙ ap (value (lane values p)) (word_read (word m (at + 1)) c.from_word.ensures))
    (λ p h. c.literal_value-y.ensures p h ∙ ap (value (lane values p)) (word_read (word m (at + 2)) c.from_word-2.ensures)))

pub eval_gate_spec : {M : Type 1} → statement M
eval_gate_spec =
    tie.close
    (tie.spec (λ c. search rules) (λ c. search rules) (λ c. search rules) (λ c κs. search rules) literal-value-requires (λ c. search rules) (λ c. search rules) (λ c. search rules) (λ c κs. search rules) literal-value-requires-2 (λ c. search rules) (λ c. search rules) (λ c κs. search rules) (λ c κs. search rules) (λ c. search rules) (λ c. search rules) slice-write-values (λ c. search rules) returns)
