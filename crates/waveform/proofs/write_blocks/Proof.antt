-- `waveform::write_blocks` meets its contract. The loop's invariant: the samples over the blocks so far stand in the output. Assumes
-- nothing.
use mathlib.Core.Path.{◌≡◌, refl, sym, ap, ◌∙◌}
use Prim.Native.Nat.{ℕ, ◌+◌, ◌-◌, ◌≤◌, ◌<◌}
use native.Mathlib.Omega.{arith}
use borrow.Author.Rules.{rules}
use lib.ListN.{length}
use Rattle.layout.specs.Words.{word, circuit_in}
use Rattle.frames.proofs.Facts.{ready_with}
use Rattle.samples.specs.Passes.{Sampled}
use Rattle.samples.specs.declared.Pass.{Pass}
use Rattle.waveform.specs.Blocks.{level_below, Bodies}
use Rattle.waveform.proofs.Passes.{Passed, passed_none, passed-more, sampled-none, sampled-more}
use Rattle.waveform.proofs.write_blocks.Statement.{statement}
use Rattle.waveform.proofs.write_blocks.Tie as tie

abbrev invariant-loop : tie.invariant-loop-block
invariant-loop m order body all out₀ values₀ state₀ layout block₀ out values state block =
    (block ≤ all.block) × (length out ≡ length out₀) × (length values ≡ length values₀) × (length state ≡ length state₀)
    × ((b : ℕ) → Bodies (circuit_in m) b all.frames body
    → Passed (circuit_in m) b body out₀ all.at all.wires all.frames block out)
    × Sampled block all.at all.wires all.frames out

abbrev decreases-loop : tie.decreases-loop-block
decreases-loop m order body all out₀ values₀ state₀ layout block₀ out values state block = all.block - block

-- the entry, from the loop's head
abbrev start : tie.At-loop-block invariant-loop decreases-loop → tie.Start invariant-loop decreases-loop
start l = l.before.before.before.before.before.before.before.before

loop-holds : tie.Need-loop-block-init invariant-loop decreases-loop
loop-holds c =
    let a = c.args in (
      omega arith,
      refl,
      refl,
      refl,
      λ b B. passed_none (circuit_in a.m.now) b a.body.now a.out.now a.all.at a.all.wires a.all.frames,
      sampled-none a.all.at a.all.wires a.all.frames a.out.now,
    )

write-samples-requires : tie.Need-write_samples-requires invariant-loop decreases-loop
write-samples-requires c κs =
    let S = start c.before.before.before.before.before in
    let F = S.requires.1 in (
      (ready_with S.requires.0.0 (omega (arith, c.loop-block.invariant.2, S.requires.0.0.room)), omega (arith, c.loop-block.invariant.3, S.requires.0.1)),
      (record { wires = F.wires; few = F.few; inside = F.inside; room = omega (arith, c.loop-block.invariant.1, F.room) }, c.loop-block.invariant.5),
    )

-- the turn's test, and the end of the turn
module _ (w : tie.After-write_samples invariant-loop decreases-loop) where
  abbrev test : tie.In-loop-block invariant-loop decreases-loop
  test = w.before.before.before.before

  abbrev head : tie.At-loop-block invariant-loop decreases-loop
  head = test.before.before

add-block : tie.Need-overflow_add-block invariant-loop decreases-loop
add-block c = omega (arith, (test c.before.before.before.before.before.before).loop-block-test.true)

loop-less : tie.Need-loop-block-smaller invariant-loop decreases-loop
loop-less c = omega (arith, (test c.before.before.before.before.before.before).loop-block-test.true)

loop-again : tie.Need-loop-block-preserved invariant-loop decreases-loop
loop-again c =
    let l = head c.before.before.before.before.before.before in
    let S = start l in
    let a = S.args in
    let pass : Pass =
    record { layout = a.all.layout; wires = a.all.wires; frames = a.all.frames; block = l.loop-block.block; at = a.all.at } in (
      omega (arith, (test c.before.before.before.before.before.before).loop-block-test.true),
      c.write_samples.auto.out ∙ l.loop-block.invariant.1,
      c.write_samples.auto.values ∙ l.loop-block.invariant.2,
      c.write_samples.auto.state ∙ l.loop-block.invariant.3,
      λ b B.
          passed-more (circuit_in a.m.now) b a.body.now a.out.now pass B (l.loop-block.invariant.4 b B)
          (omega (arith, l.loop-block.invariant.1, S.requires.1.room)) c.write_samples.ensures,
      sampled-more (circuit_in a.m.now) a.body.now pass l.loop-block.invariant.5 (omega (arith, l.loop-block.invariant.1, S.requires.1.room))
          c.write_samples.ensures,
    )

same_length : tie.Need-shape_of-out invariant-loop decreases-loop
same_length c = c.loop-block.invariant.1

same-length-2 : tie.Need-shape_of-values invariant-loop decreases-loop
same-length-2 c = c.loop-block.invariant.2

same-length-3 : tie.Need-shape_of-state invariant-loop decreases-loop
same-length-3 c = c.loop-block.invariant.3

returns : tie.Need-returns invariant-loop decreases-loop
returns c = λ b B h.
    let a = (start c.before.before).args in
    let e : c.loop-block.block ≡ a.all.block = omega (arith, c.loop-block.invariant.0, c.loop-block-test.false) in
    rw (sym e) ((c.loop-block.invariant.4 b B).written (omega (arith, e, h)))

pub write_blocks_spec : {M : Type 1} → statement M
write_blocks_spec =
    tie.close
    (tie.spec invariant-loop decreases-loop loop-holds write-samples-requires add-block loop-less loop-again same_length same-length-2 same-length-3 returns)
