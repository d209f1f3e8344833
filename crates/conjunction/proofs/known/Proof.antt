-- `conjunction::known` meets its contract. Assumes nothing.
use borrow.Author.Rules.{rules}
use Rattle.diagrams.specs.States.{state_of}
use Rattle.conjunction.proofs.Follow.{known-one, known-zero, known-opposite, known-looked}
use Rattle.conjunction.proofs.known.Statement.{statement}
use Rattle.conjunction.proofs.known.Tie as tie

returns : tie.Need-returns-then-f-eq1
returns c = let a = c.args in known-one (state_of a.w.now) a.f a.g c.if-f-eq1.true

returns-2 : tie.Need-returns-then-f-eq0
returns-2 c = let a = c.args in known-zero (state_of a.w.now) a.f a.g c.if-f-eq1.false
    c.if-f-eq0.true

returns-3 : tie.Need-returns-then-f-g
returns-3 c = let a = c.args in known-opposite (state_of a.w.now) a.f a.g
    c.if-f-eq1.false c.if-f-eq0.false c.if-f-g.true

returns-4 : tie.Need-returns
returns-4 c = let a = c.args in known-looked (state_of a.w.now) a.f
    a.g c.if-f-eq1.false c.if-f-eq0.false _
    c.if-f-g.false c.look_up.ensures

pub known_spec : {M : Type 1} → statement M
known_spec =
    tie.close
    (tie.spec returns returns-2 returns-3 (λ c κs. search rules) (λ c. search rules) returns-4)
