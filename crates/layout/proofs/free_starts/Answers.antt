-- `layout::free_starts`: those counted, with those from latch j on, are all. Assumes nothing.
use Rattle.std.proofs.Common.{◌≡◌, ◌+◌, ◌*◌, ap₂, ◌∙◌, cond, eqb, ℕ, arith}
use Rattle.literals.proofs.Words.{word_read}
use Rattle.layout.specs.Words.{word}
use Rattle.layout.proofs.Starts.{free_all, free-none, free_more, free-few}
use Rattle.layout.proofs.free_starts.Goals as goal

-- what the call added, in terms of the latch's words
added : (c : goal.After-free_start-free)
    → (let at = c.args.p.latches + 3 * c.loop-j.j in
    c.free_start-free.result ≡ cond (eqb (word c.args.m.now (at + 2)) (word c.args.m.now at)) 1 0)
added c =
    let at = c.args.p.latches + 3 * c.loop-j.j in
    c.free_start-free.ensures
    ∙ ap₂ (λ (r l : ℕ). cond (eqb r l) 1 0) (word_read (word c.args.m.now (at + 2)) c.from_word-reset.ensures) (word_read (word c.args.m.now at) c.from_word-lit.ensures)

pub loop-j-init : goal.loop-j-init
loop-j-init c = omega (arith, free_all c.args.m.now)

pub overflow_add-free : goal.overflow_add-free
overflow_add-free c =
    omega (arith, added c, free_more c.args.m.now c.args.p.latches c.loop-j.j c.requires.0.latches-is (omega arith), free-few c.args.m.now)

pub loop-j-preserved : goal.loop-j-preserved
loop-j-preserved c =
    omega (arith, added c, free_more c.args.m.now c.args.p.latches c.loop-j.j c.requires.0.latches-is (omega arith))

pub returns : goal.returns
returns c = omega (arith, free-none c.args.m.now c.loop-j.j (omega arith))
