-- `diagrams::pay` meets its contract. Assumes nothing.
use mathlib.Core.Path.{◌≡◌, sym, ap, ◌∙◌}
use Prim.Native.Nat.{ℕ, ◌-◌}
use native.Mathlib.Omega.{arith}
use borrow.Author.Rules.{rules}
use lib.ListN.{set}
use Rattle.diagrams.specs.States.{state_of}
use Rattle.diagrams.proofs.Stores.{paid-none, paid-some, is-paid, not-paid}
use Rattle.diagrams.proofs.pay.Statement.{statement}
use Rattle.diagrams.proofs.pay.Tie as tie

returns : tie.Need-returns-then-looks-n
returns c =
    let a = c.args in (
      paid-none a.w.now a.n (omega (arith, c.get-looks.ensures, c.if-looks-n.true)),
      not-paid a.w.now a.n
          (omega (arith, c.get-looks.ensures, c.if-looks-n.true)),
    )

returns-2 : tie.Need-returns
returns-2 c =
    let a = c.args in (
      ap state_of (c.put.ensures ∙ ap (λ (x : ℕ). set a.w.now 1 (x - a.n))
          c.get-looks.ensures)
          ∙ paid-some a.w.now a.n (omega
          (arith, c.get-looks.ensures, c.if-looks-n.false)),
      is-paid a.w.now a.n (omega
          (arith, c.get-looks.ensures, c.if-looks-n.false)),
    )

pub pay_spec : {M : Type 1} → statement M
pay_spec =
    tie.close
    (tie.spec (λ c κs. search rules) (λ c. search rules) returns (λ c κs. search rules) (λ c. search rules) returns-2)
