-- `enumeration::put_inputs`: the inputs below i have their words. Assumes nothing.
use Rattle.std.proofs.Common.{◌≡◌, ap, ◌∙◌, subst, ℕ, ◌+◌, ◌*◌, length, arith}
use Rattle.aiger.specs.Circuit.{var}
use Rattle.aiger.specs.Frames.{free_bit}
use Rattle.literals.specs.declared.Lit.{Lit}
use Rattle.literals.specs.declared.Var.{Var}
use Rattle.layout.specs.Words.{word, circuit_in}
use Rattle.meaning.specs.Frame.{input_at}
use Rattle.enumeration.specs.Blocks.{Given}
use Rattle.frames.proofs.Places.{inputs_are, inputs-inside, input-var, input-small, inputs-differ}
use Rattle.enumeration.proofs.Stores.{given-start, given-more}
use Rattle.enumeration.proofs.put_inputs.Goals as goal

pub loop-i-init : goal.loop-i-init
loop-i-init c = given-start _ _ _

pub bounds-m-i : goal.bounds-m-i
bounds-m-i c = omega (arith, inputs-inside c.requires.holds c.requires.layout_of)

pub bounds-values-place : goal.bounds-values-place
bounds-values-place c =
    omega (arith, ap (λ (v : Var). v.0) c.var-v.ensures ∙ ap (λ (l : Lit). l.0.0) c.from_word.ensures, input-small c.requires.holds c.requires.layout_of c.loop-i.i (omega arith))

pub loop-i-preserved : goal.loop-i-preserved
loop-i-preserved c =
    let H = c.requires.holds in
    let A = c.requires.layout_of in
    rw (ap (λ (v : Var). v.0) c.var-v.ensures ∙ ap (λ (l : Lit). l.0.0) c.from_word.ensures)
    (given-more (λ k. var (input_at (circuit_in c.args.m.now) k)) (λ k p. free_bit c.args.top (c.args.block * 64 + p) k) c.loop-i.i
    c.args.values.now c.loop-i.values (var (word c.args.m.now (7 + c.loop-i.i))) c.counting_word.result (input-var H A c.loop-i.i (omega arith))
    (omega (arith, input-small H A c.loop-i.i (omega arith))) (λ k l e. inputs-differ H A k c.loop-i.i l (omega arith) e) c.counting_word.ensures c.loop-i.invariant)

pub returns : goal.returns
returns c =
    let e : c.loop-i.i ≡ length (circuit_in c.args.m.now).inputs = omega (arith, inputs_are c.requires.holds c.requires.layout_of) in
    subst
    (λ (n : ℕ).
    Given (λ k. var (input_at (circuit_in c.args.m.now) k)) (λ k p. free_bit c.args.top (c.args.block * 64 + p) k) n c.args.values.now c.loop-i.values)
    e c.loop-i.invariant
