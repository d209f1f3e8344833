-- `frames::constrain`: the runs in which the constraints below k are true. Assumes nothing.
use Rattle.std.proofs.Common.{◌≡◌, ap, ◌∙◌, ℕ, ◌+◌, arith}
use Rattle.std.specs.Prelude.{◌&&◌}
use Rattle.aiger.specs.Bits.{bit}
use Rattle.aiger.specs.Lists.{every_below}
use Rattle.aiger.specs.Frames.{value}
use Rattle.literals.specs.declared.Lit.{Lit}
use Rattle.literals.proofs.Words.{word_read}
use Rattle.layout.specs.Words.{word}
use Rattle.frames.specs.Lanes.{lane}
use Rattle.frames.proofs.Facts.{constraint-inside, constraint-below}
use Rattle.frames.proofs.Hits.{constrained-start, constrained-more, constrained-end}
use Rattle.frames.proofs.constrain.Goals as goal

pub loop-k-init : goal.loop-k-init
loop-k-init c = λ p l. constrained-start c.args.from p

pub overflow_add-constraints : goal.overflow_add-constraints
overflow_add-constraints c = omega (arith, constraint-inside c.requires c.loop-k.k (omega arith))

pub bounds-m-constraints : goal.bounds-m-constraints
bounds-m-constraints c = omega (arith, constraint-inside c.requires c.loop-k.k (omega arith))

pub literal_value-left-requires : goal.literal_value-left-requires
literal_value-left-requires c =
    rw (ap (λ (l : Lit). l.0.0) c.from_word.ensures) (constraint-below c.requires c.loop-k.k (omega arith))

pub loop-k-preserved : goal.loop-k-preserved
loop-k-preserved c = λ p l.
    constrained-more c.loop-k.left c.literal_value-left.result p c.loop-k.k _ _ (c.loop-k.invariant p l)
    (c.literal_value-left.ensures p l ∙ ap (value (lane c.args.values.now p)) (word_read (word c.args.m.now (c.args.layout.constraints + c.loop-k.k)) c.from_word.ensures))

pub returns : goal.returns
returns c =
    let e : c.loop-k.k ≡ c.args.layout.c = omega arith in
    λ p l.
    let w = lane c.args.values.now p in
    c.loop-k.invariant p l
    ∙ ap (λ (n : ℕ). bit c.args.from p && every_below n (λ j. value w (word c.args.m.now (c.args.layout.constraints + j)))) e
    ∙ ap (λ x. bit c.args.from p && x) (constrained-end c.requires w)
