-- `pairing::put_pair` meets its contract. Assumes nothing.
use mathlib.Core.Path.{refl}
use native.Mathlib.Omega.{arith}
use borrow.Author.Rules.{rules}
use Rattle.pairing.proofs.Pairs.{complement-small, pair_put}
use Rattle.pairing.proofs.put_pair.Statement.{statement}
use Rattle.pairing.proofs.put_pair.Tie as tie

put-gate-requires : tie.Need-put_gate-requires
put-gate-requires c κs = (
  omega (arith, c.requires.0),
  omega (arith, c.requires.1),
  omega (arith, complement-small c.args.q c.complement.ensures c.requires.2),
  omega (arith, c.requires.3),
)

put-gate-requires-2 : tie.Need-put_gate-requires-2
put-gate-requires-2 c κs = (
  omega (arith, c.requires.0),
  omega (arith, complement-small c.args.p c.complement-2.ensures c.requires.1),
  omega (arith, c.requires.2),
  omega (arith, c.requires.3, c.put_gate.auto.m),
)

put-gate-requires-3 : tie.Need-put_gate-requires-3
put-gate-requires-3 c κs = (
  omega (arith, c.requires.0),
  rw c.complement-3.ensures (omega (arith, c.requires.0)),
  rw c.complement-4.ensures (omega (arith, c.requires.0)),
  omega (arith, c.requires.3, c.put_gate.auto.m, c.put_gate-2.auto.m),
)

returns : tie.Need-returns
returns c =
    let a = c.args in
    pair_put a.to a.v.0 a.p a.q c.complement-2.ensures c.complement.ensures
    c.complement-3.ensures c.complement-4.ensures a.m.now c.put_gate.new.m c.put_gate-2.new.m c.put_gate-3.new.m
    c.put_gate.ensures c.put_gate-2.ensures c.put_gate-3.ensures

pub put_pair_spec : {M : Type 1} → statement M
put_pair_spec =
    tie.close
    (tie.spec (λ c. search rules) (λ c κs. search rules) put-gate-requires (λ c. search rules) (λ c κs. search rules) put-gate-requires-2 (λ c. search rules) (λ c. search rules) (λ c κs. search rules) (λ c κs. search rules) put-gate-requires-3 (λ c. search rules) returns)
