-- Each turn writes the next word of a latch. Assumes nothing.
use mathlib.Core.Path.{◌≡◌, ap, ◌∙◌}
use mathlib.Core.List.{List}
use Prim.Native.Nat.{ℕ, ◌+◌, ◌*◌, ◌<◌}
use native.Mathlib.Omega.{arith}
use lib.ListN.{length, get_or}
use Rattle.aiger.specs.Bits.{bit}
use Rattle.aiger.specs.Frames.{value}
use Rattle.layout.specs.Words.{word}
use Rattle.literals.specs.declared.Lit.{Lit}
use Rattle.literals.proofs.Words.{word_read}
use Rattle.frames.specs.Lanes.{lane}
use Rattle.frames.proofs.Stores.{next_more}
use Rattle.layers.proofs.next_kept.Goals as goal

-- x is the next word of the k-th latch that is kept
abbrev Next : List ℕ → List ℕ → List ℕ → ℕ → ℕ → ℕ → Type 0
Next m values kept latches k x = (p : ℕ) → p < 64 → bit x p ≡ value (lane values p) (word m (latches + 3 * get_or kept k 0 + 1))

pub loop-i-init : goal.loop-i-init
loop-i-init c = λ k l. absurd (omega arith)

pub overflow_mul-j : goal.overflow_mul-j
overflow_mul-j c = omega (arith, c.requires.by_index_2 c.loop-i.i (omega arith))

pub overflow_add-latches : goal.overflow_add-latches
overflow_add-latches c = omega (arith, c.requires.by_index_2 c.loop-i.i (omega arith))

pub overflow_add-latches-in-loop-i : goal.overflow_add-latches-in-loop-i
overflow_add-latches-in-loop-i c = omega (arith, c.requires.by_index_2 c.loop-i.i (omega arith))

pub bounds-m-latches : goal.bounds-m-latches
bounds-m-latches c = omega (arith, c.requires.by_index_2 c.loop-i.i (omega arith))

pub literal_value-requires : goal.literal_value-requires
literal_value-requires c =
    rw (ap (λ (l : Lit). l.0.0) c.from_word.ensures)
    (c.requires.by_index (get_or c.args.kept.now c.loop-i.i 0) (c.requires.by_index_2 c.loop-i.i (omega arith)))

pub loop-i-preserved : goal.loop-i-preserved
loop-i-preserved c =
    let a = c.args in
    next_more (Next a.m.now a.values.now a.kept.now a.layout.latches) c.loop-i.state c.loop-i.i c.literal_value.result
    (omega arith) c.loop-i.invariant
    (λ p l. c.literal_value.ensures p l
    ∙ ap (value (lane a.values.now p))
    (word_read (word a.m.now (a.layout.latches + 3 * get_or a.kept.now c.loop-i.i 0 + 1)) c.from_word.ensures))

pub returns : goal.returns
returns c = λ i l. c.loop-i.invariant i (omega arith)
