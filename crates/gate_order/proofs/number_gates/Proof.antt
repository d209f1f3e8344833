-- `gate_order::number_gates` meets its contract. Assumes nothing.
use Prim.Native.Nat.{ℕ, ◌≤◌, ◌<◌}
use native.Mathlib.Omega.{arith}
use borrow.Author.Rules.{rules}
use Rattle.gate_order.proofs.number_gates.Statement.{statement}
use Rattle.gate_order.proofs.number_gates.Tie as tie

low : {x n : ℕ} → x < n → n ≤ 4097 → x < 4097
low h l = omega arith

link-users-requires : tie.Need-link_users-requires
link-users-requires c κs =
    let g = c.requires.0.0 in
    ((λ j h. low (g.used j h) c.requires.0.2, c.requires.1.1.0.0, c.requires.1.1.0.1), omega (arith, g.pairs, g.few))

take-gates-requires : tie.Need-take_gates-requires
take-gates-requires c κs = (
  (c.requires.0.0, c.link_users.ensures, c.requires.0.1),
  (
    (c.requires.0.2, omega (arith, c.requires.1.1.0.0, c.link_users.auto.links), c.requires.1.0.0),
    (c.requires.1.0.1, c.requires.1.0.2, c.requires.1.1.1),
  ),
)

pub number_gates_spec : {M : Type 1} → statement M
number_gates_spec =
    tie.close
    (tie.spec link-users-requires take-gates-requires (λ c. search rules) (λ c. search rules) (λ c. search rules) (λ c. search rules) (λ c. search rules))
