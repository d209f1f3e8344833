-- `replay::read_held` meets its contract. Assumes nothing.
use mathlib.Core.Path.{refl, sym, subst}
use borrow.Author.Rules.{rules}
use Rattle.std.specs.Prelude.{Option}
use Rattle.layout.specs.Words.{circuit_in}
use Rattle.layout.specs.declared.Layout.{Layout}
use Rattle.circuit.specs.Held.{HeldIs}
use Rattle.replay.specs.Texts.{ReadIn}
use Rattle.replay.specs.declared.Reading.TheVariants as reading
use Rattle.replay.proofs.Answers.{counts_of}
use Rattle.replay.proofs.read_held.Statement.{statement}
use Rattle.replay.proofs.read_held.Tie as tie

returns : tie.Need-returns-in_default
returns c =
    let a = c.args in
    record {
      held = c.held_in.result;
      held-is = c.held_in.ensures.0;
      leaves = c.held_in.ensures.1;
      read = subst (λ (h : Option Layout). ReadIn a.m.now a.text.now h (reading.Refused 9)) (sym c.in_default.is) refl;
    }

returns-2 : tie.Need-returns
returns-2 c =
    let a = c.args in
    let t = subst (HeldIs a.m.now c.held_in.new.order) c.in-Some.is c.held_in.ensures.0 in
    record {
      held = c.held_in.result;
      held-is = c.held_in.ensures.0;
      leaves = c.held_in.ensures.1;
      read =
          subst (λ (h : Option Layout). ReadIn a.m.now a.text.now h c.read_witness.result) (sym c.in-Some.is)
          (c.read_witness.ensures (circuit_in a.m.now) (counts_of t.1 t.0));
    }

pub read_held_spec : {M : Type 1} → statement M
read_held_spec =
    tie.close
    (tie.spec (λ c κs. search rules) (λ c. search rules) (λ c. search rules) (λ c. search rules) returns (λ c κs. search rules) (λ c. search rules) returns-2)
