-- `fold::write_gate` meets its contract. Assumes nothing.
use mathlib.Core.Path.{◌≡◌}
use mathlib.Core.List.{[], ◌∷◌}
use native.Mathlib.Omega.{arith}
use Rattle.output.specs.Row.{row_text}
use Rattle.fold.specs.Text.{gate_text}
use Rattle.output.proofs.Output.{placed-none}
use Rattle.fold.proofs.Lines.{gate-line, gate-none, gate-left}
use borrow.Author.Rules.{rules}
use Rattle.fold.proofs.write_gate.Statement.{statement}
use Rattle.fold.proofs.write_gate.Tie as tie

-- the row that is written is the gate's line
line : (c : tie.After-put_row-arg-1) → (
    row_text (c.word-own.result ∷ c.literal_word-left.result ∷ c.literal_word-right.result ∷ []) 0 3 ≡ gate_text c.args.work.now c.args.k)
line c =
    gate-line c.args.work.now c.args.k c.word-own.result c.literal_word-left.result c.literal_word-right.result c.if-number-eq0.false
    (omega (arith, c.word-own.ensures)) c.literal_word-left.ensures c.literal_word-right.ensures

returns : tie.Need-returns-then-number-eq0
returns c =
    rw (gate-none c.args.work.now c.args.k (omega arith)) (placed-none c.args.out.now c.args.at)

literal-word-requires : tie.Need-literal_word-left-requires
literal-word-requires c κs = gate-left c.args.work.now c.args.k c.requires.0

put-row-requires : tie.Need-put_row-requires
put-row-requires c κs =
    (omega arith, rw (line c) c.requires.1)

returns-2 : tie.Need-returns
returns-2 c =
    rw (line c.before.before.before) at c.put_row.ensures

pub write_gate_spec : {M : Type 1} → statement M
write_gate_spec =
    tie.close
    (tie.spec (λ c. search rules) (λ c. search rules) (λ c. search rules) (λ c. search rules) returns (λ c κs. search rules) (λ c. search rules) (λ c. search rules) (λ c. search rules) (λ c. search rules) literal-word-requires (λ c. search rules) (λ c. search rules) (λ c. search rules) (λ c. search rules) (λ c κs. search rules) (λ c. search rules) put-row-requires (λ c. search rules) returns-2)
