-- `frames::next_state`: the words below j are those of next literals. Assumes nothing.
use Rattle.std.proofs.Common.{◌≡◌, ap, ◌∙◌, ℕ, ◌+◌, ◌*◌, ◌<◌, arith}
use Rattle.aiger.specs.Bits.{bit}
use Rattle.aiger.specs.Frames.{value}
use Rattle.literals.specs.declared.Lit.{Lit}
use Rattle.literals.proofs.Words.{word_read}
use Rattle.layout.specs.Words.{word}
use Rattle.frames.specs.Lanes.{lane}
use Rattle.frames.proofs.Stores.{next_more}
use Rattle.frames.proofs.next_state.Goals as goal

pub literal_value-requires : goal.literal_value-requires
literal_value-requires c =
    rw (ap (λ (l : Lit). l.0.0) c.from_word.ensures) (c.requires.by_index c.loop-j.j (omega arith))

pub loop-j-preserved : goal.loop-j-preserved
loop-j-preserved c =
    next_more
    (λ i x. (p : ℕ) → p < 64 → bit x p ≡ value (lane c.args.values.now p) (word c.args.m.now (c.args.layout.latches + 3 * i + 1)))
    c.loop-j.state c.loop-j.j c.literal_value.result (omega arith) c.loop-j.invariant
    (λ p h. c.literal_value.ensures p h ∙ ap (value (lane c.args.values.now p)) (word_read (word c.args.m.now (c.args.layout.latches + 3 * c.loop-j.j + 1)) c.from_word.ensures))
