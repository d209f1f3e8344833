-- `writer::write` meets its contract: each form by its writer. Assumes nothing.
use native.Mathlib.Omega.{arith}
use borrow.Author.Rules.{rules}
use Rattle.writer.proofs.Forms.{refused-form, text-form, binary-form}
use Rattle.writer.proofs.write.Statement.{statement}
use Rattle.writer.proofs.write.Tie as tie

returns : tie.Need-returns-then-form-gt1
returns c = refused-form c.args.form c.args.out.now (omega (arith, c.if-form-gt1.true))

returns-2 : tie.Need-returns-then-form-eq0
returns-2 c = text-form c.args.form (omega (arith, c.if-form-eq0.true)) c.write.ensures

returns-3 : tie.Need-returns
returns-3 c = binary-form c.args.form (omega (arith, c.if-form-gt1.false, c.if-form-eq0.false)) c.write_binary.ensures

pub write_spec : {M : Type 1} → statement M
write_spec =
    tie.close
    (tie.spec returns (λ c κs. search rules) (λ c. search rules) returns-2 (λ c κs. search rules) (λ c. search rules) returns-3)
