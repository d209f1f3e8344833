-- `circuit::held_in` meets its contract. Assumes nothing.
use mathlib.Core.Path.{◌≡◌, subst}
use borrow.Author.Rules.{rules}
use borrow.Author.Tests.{not-true, not-false}
use Rattle.std.specs.Prelude.{Result}
use Rattle.layout.specs.Words.{circuit_in}
use Rattle.roundtrip.proofs.Holding.{sound-holds}
use Rattle.validity.specs.Validity.{Checks, OrderLeft}
use Rattle.refusals.specs.declared.Refusal.{Refusal}
use Rattle.circuit.specs.Held.{Says, Shaped}
use Rattle.circuit.proofs.Testing.{shaped-counted, sound, none-short, none-unshaped, none-refused}
use Rattle.circuit.proofs.held_in.Statement.{statement}
use Rattle.circuit.proofs.held_in.Tie as tie

-- the memory is shaped where the test said so
well : (t : tie.Else-not-is_shaped) → Shaped t.args.m.now
well t =
    let m = t.args.m.now in
    subst (λ b. Says b (Shaped m)) t.if-not-is_shaped.false t.is_shaped.ensures

-- the answer of the check is the variant that the match found
found : (n : tie.After-check) (r : Result (Unit {0}) Refusal) → n.check.result ≡ r
    → Checks (circuit_in n.args.m.now) n.check.new.order r
found n r e =
    subst (Checks (circuit_in n.args.m.now) n.check.new.order) e n.check.ensures.0

-- what it left of the order
left : (n : tie.After-check) (r : Result (Unit {0}) Refusal) → n.check.result ≡ r
    → OrderLeft (circuit_in n.args.m.now)
    n.args.order.now n.check.new.order r
left n r e =
    subst (OrderLeft (circuit_in n.args.m.now) n.args.order.now n.check.new.order) e n.check.ensures.1

returns : tie.Need-returns-then-m-lt264
returns c =
    (none-short c.if-m-lt264.true, c.clear.ensures)

returns-2 : tie.Need-returns-then-not-is_shaped
returns-2 c =
    let m = c.args.m.now in (
      none-unshaped
          (subst (λ b. Says b (Shaped m)) c.if-not-is_shaped.true c.is_shaped.ensures),
      c.clear-then-not-is_shaped.ensures,
    )

check-requires : tie.Need-check-requires
check-requires c κs = (shaped-counted (well c.before), c.requires)

with-starts-requires : tie.Need-with_starts-requires
with-starts-requires c κs =
    (c.layout_of-p.ensures.0, shaped-counted (well c.before.before.before.before.before))

returns-3 : tie.Need-returns-in-Ok
returns-3 c =
    let r = found c.before.before.before.before _ c.in-Ok.is in
    let w = well c.before.before.before.before.before.before in
    ((c.with_starts.ensures, sound-holds (sound w r.0), r.1), left c.before.before.before.before _ c.in-Ok.is)

returns-4 : tie.Need-returns-in-Err
returns-4 c =
    (none-refused (found c.before.before.before _ c.in-Err.is), left c.before.before.before _ c.in-Err.is)

pub held_in_spec : {M : Type 1} → statement M
held_in_spec =
    tie.close
    (tie.spec (λ c κs. search rules) (λ c. search rules) returns (λ c κs. search rules) (λ c κs. search rules) (λ c κs. search rules) (λ c. search rules) returns-2 check-requires (λ c. search rules) with-starts-requires (λ c. search rules) (λ c. search rules) returns-3 (λ c. search rules) returns-4)
