-- `conjunction::look_up` meets its contract. Assumes nothing.
use mathlib.Core.Path.{◌≡◌, sym, ◌∙◌}
use borrow.Author.Rules.{rules}
use Rattle.diagrams.specs.States.{state_of}
use Rattle.conjunction.proofs.Follow.{looked-some, looked-none}
use Rattle.conjunction.proofs.look_up.Statement.{statement}
use Rattle.conjunction.proofs.look_up.Tie as tie

returns : tie.Need-returns-then-pay
returns c =
    let a = c.args in
    looked-some (state_of a.w.now) (state_of c.pay.new.w) a.f a.g a.h c.pay.ensures.0 c.entry.result
    (sym c.pay.ensures.1 ∙ c.if-pay.true) c.entry.ensures

returns-2 : tie.Need-returns
returns-2 c =
    let a = c.args in
    looked-none (state_of a.w.now) (state_of c.pay.new.w) a.f a.g a.h c.pay.ensures.0 (sym c.pay.ensures.1 ∙ c.if-pay.false)

pub look_up_spec : {M : Type 1} → statement M
look_up_spec =
    tie.close
    (tie.spec (λ c κs. search rules) (λ c κs. search rules) (λ c. search rules) returns (λ c. search rules) returns-2)
