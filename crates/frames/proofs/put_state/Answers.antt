-- `frames::put_state`: the latches below j have their words. Assumes nothing.
use Rattle.std.proofs.Common.{◌≡◌, ap, ◌∙◌, ℕ, ◌+◌, ◌*◌, subst, get_or, arith}
use Rattle.aiger.specs.Circuit.{var}
use Rattle.literals.specs.declared.Lit.{Lit}
use Rattle.literals.specs.declared.Var.{Var}
use Rattle.layout.specs.Words.{word}
use Rattle.frames.specs.Lanes.{Stored}
use Rattle.frames.proofs.Stores.{stored-start, stored_more}
use Rattle.frames.proofs.put_state.Goals as goal

pub loop-j-init : goal.loop-j-init
loop-j-init c = stored-start _ _ _

pub bounds-values-place : goal.bounds-values-place
bounds-values-place c = omega (arith, ap (λ (v : Var). v.0) c.var-v.ensures ∙ ap (λ (l : Lit). l.0.0) c.from_word.ensures, c.requires.apart.below c.loop-j.j (omega arith))

pub loop-j-preserved : goal.loop-j-preserved
loop-j-preserved c =
    rw (ap (λ (v : Var). v.0) c.var-v.ensures ∙ ap (λ (l : Lit). l.0.0) c.from_word.ensures)
    (stored_more (λ i. var (word c.args.m.now (c.args.layout.latches + 3 * i))) (λ i. get_or c.args.state.now i 0) c.loop-j.j
    c.args.values.now c.loop-j.values c.requires.apart (omega arith) (omega arith) c.loop-j.invariant)

pub returns : goal.returns
returns c =
    let e : c.loop-j.j ≡ c.args.layout.l = omega arith in
    subst
    (λ (n : ℕ).
    Stored (λ i. var (word c.args.m.now (c.args.layout.latches + 3 * i))) (λ i. get_or c.args.state.now i 0) n c.args.values.now c.loop-j.values)
    e c.loop-j.invariant
