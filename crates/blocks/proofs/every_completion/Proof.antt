-- `blocks::every_completion` meets its contract. The loop's invariant: the completions of the blocks so far show what is wanted. Assumes nothing.
use mathlib.Core.Path.{◌≡◌, refl, sym, ap, ◌∙◌}
use Prim.Native.Nat.{ℕ, ◌+◌, ◌-◌, ◌*◌, ◌^◌, ◌≤◌, ◌<◌}
use native.Mathlib.Omega.{arith}
use borrow.Author.Rules.{rules}
use lib.Dec.{T}
use lib.ListN.{length}
use Rattle.completions.specs.Either.{completion}
use Rattle.layout.specs.Words.{word, circuit_in}
use Rattle.frames.proofs.Facts.{ready_with}
use Rattle.blocks.specs.Runs.{wanted}
use Rattle.blocks.proofs.Words.{blocks-enough}
use Rattle.blocks.proofs.Judging.{before_more, refuted, before-all}
use Rattle.blocks.proofs.every_completion.Statement.{statement}
use Rattle.blocks.proofs.every_completion.Tie as tie

abbrev invariant-loop : tie.invariant-loop-block
invariant-loop m order w body want values₀ state₀ blocks goal block₀ values state block =
    (block ≤ blocks) × (length values ≡ length values₀) × (length state ≡ length state₀)
    × ((v : ℕ) → v < block * 64 → T (wanted (circuit_in m) w.q.bad want (completion v body)))

abbrev decreases-loop : tie.decreases-loop-block
decreases-loop m order w body want values₀ state₀ blocks goal block₀ values state block = blocks - block

-- the entry, from the loop's head
abbrev start : tie.At-loop-block invariant-loop decreases-loop → tie.Start invariant-loop decreases-loop
start l = l.before.before.before.before.before.before.before.before.before

-- the word of a block, the wanted one, and where they first differ
module _ (k : tie.After-first_difference invariant-loop decreases-loop) where
  abbrev done : tie.After-block_word-word invariant-loop decreases-loop
  done = k.before.before.before.before.before

  abbrev turn : tie.In-loop-block invariant-loop decreases-loop
  turn = done.before.before.before

  abbrev head : tie.At-loop-block invariant-loop decreases-loop
  head = turn.before

  abbrev S : tie.Start invariant-loop decreases-loop
  S = start head

block-count-requires : tie.Need-block_count-blocks-requires invariant-loop decreases-loop
block-count-requires c κs = c.requires.0.fits.few

all-bits-requires : tie.Need-all_bits-goal-requires invariant-loop decreases-loop
all-bits-requires c κs = tt

loop-holds : tie.Need-loop-block-init invariant-loop decreases-loop
loop-holds c =
    (omega arith, refl, refl, λ v h. absurd (omega arith))

block-word-requires : tie.Need-block_word-word-requires invariant-loop decreases-loop
block-word-requires c κs =
    let S = start c.before.before.before in
    let P = S.requires.0 in (
      record { ready = ready_with P.ready (omega (arith, c.loop-block.invariant.1, P.ready.room)); bad = P.bad; fits = P.fits },
      omega (arith, c.loop-block.invariant.2, S.requires.1),
    )

first-difference-requires : tie.Need-first_difference-requires invariant-loop decreases-loop
first-difference-requires c κs = tt

same_length : tie.Need-shape_of-values-then-first_difference-lt64 invariant-loop decreases-loop
same_length c = (done c.before).block_word-word.auto.values ∙ (head c.before).loop-block.invariant.1

same-length-2 : tie.Need-shape_of-state-then-first_difference-lt64 invariant-loop decreases-loop
same-length-2 c = (done c.before).block_word-word.auto.state ∙ (head c.before).loop-block.invariant.2

returns : tie.Need-returns-then-first_difference-lt64 invariant-loop decreases-loop
returns c =
    let a = (S c.before).args in
    refuted (circuit_in a.m.now) a.w.q.bad a.w.q.frames a.w.q.eithers a.body.now (S c.before).requires.0.fits
    a.want (head c.before).loop-block.block
    (done c.before).block_word-word.result (head c.before).all_bits-goal.result c.first_difference.result (done c.before).block_word-word.ensures
    (head c.before).all_bits-goal.ensures c.first_difference.ensures c.if-first_difference-lt64.true

add-block : tie.Need-overflow_add-block invariant-loop decreases-loop
add-block c = omega (arith, (turn c.before).loop-block-test.true)

loop-less : tie.Need-loop-block-smaller invariant-loop decreases-loop
loop-less c = omega (arith, (turn c.before).loop-block-test.true)

loop-again : tie.Need-loop-block-preserved invariant-loop decreases-loop
loop-again c =
    let a = (S c.before).args in (
      omega (arith, (turn c.before).loop-block-test.true),
      (done c.before).block_word-word.auto.values ∙ (head c.before).loop-block.invariant.1,
      (done c.before).block_word-word.auto.state ∙ (head c.before).loop-block.invariant.2,
      before_more (circuit_in a.m.now) a.w.q.bad a.w.q.frames a.w.q.eithers a.body.now (S c.before).requires.0.fits
          a.want (head c.before).loop-block.block
          (done c.before).block_word-word.result (head c.before).all_bits-goal.result c.first_difference.result (done c.before).block_word-word.ensures
          (head c.before).all_bits-goal.ensures c.first_difference.ensures c.if-first_difference-lt64.false (head c.before).loop-block.invariant.3,
    )

same-length-3 : tie.Need-shape_of-values invariant-loop decreases-loop
same-length-3 c = c.loop-block.invariant.1

same-length-4 : tie.Need-shape_of-state invariant-loop decreases-loop
same-length-4 c = c.loop-block.invariant.2

returns-2 : tie.Need-returns invariant-loop decreases-loop
returns-2 c =
    let S = start c.before in
    let a = S.args in
    before-all (circuit_in a.m.now) a.w.q.bad a.w.q.frames a.w.q.eithers a.body.now S.requires.0.fits a.want
    c.loop-block.block
    (omega (arith, blocks-enough a.w.q.eithers, c.block_count-blocks.ensures, c.loop-block-test.false)) c.loop-block.invariant.3

pub every_completion_spec : {M : Type 1} → statement M
every_completion_spec =
    tie.close
    (tie.spec invariant-loop decreases-loop block-count-requires all-bits-requires loop-holds block-word-requires first-difference-requires same_length same-length-2 returns add-block loop-less loop-again same-length-3 same-length-4 returns-2)
