-- `samples::write_values` meets its contract. The loop's invariant: the levels are written but for those of the wires that are left, and
-- those that stood there before stand there still. The measure is the number of wires left. Assumes nothing.
use mathlib.Core.Path.{◌≡◌, refl, ap, ◌∙◌}
use mathlib.Core.Bool.{not, cond}
use Prim.Native.Nat.{ℕ, ◌+◌, ◌-◌, ◌*◌, ◌≤◌, ◌<◌}
use native.Mathlib.Omega.{arith}
use borrow.Author.Rules.{rules}
use lib.ListN.{length, get_or}
use Rattle.literals.specs.declared.Lit.{Lit}
use Rattle.frames.specs.Lanes.{lane}
use Rattle.vcd.specs.Text.{Level, level_byte, value_lines}
use Rattle.vcd.proofs.Parts.{values_length, with-length}
use Rattle.levels.specs.Levels.{level_over, after}
use Rattle.levels.proofs.Levels.{after-byte}
use Rattle.levels.proofs.Wires.{wires-are, wires-few, wire-small}
use Rattle.samples.specs.Passes.{level_in, low, Stands, Wired}
use Rattle.samples.proofs.Values.{placed-level, Turn, turn-start, turn_byte, turn-next, turn_end}
use Rattle.samples.proofs.write_values.Statement.{statement}
use Rattle.samples.proofs.write_values.Tie as tie

abbrev invariant-loop : tie.invariant-loop-left
invariant-loop m layout values n block out₀ at end₀ k₀ left₀ out end k left =
    (k + left ≡ n) × (end ≡ at + 4 * k) × (length out ≡ length out₀)
    × ((old : ℕ → Level) → (0 < block → Stands out₀ at (value_lines old 0 n)) → Turn out₀ at n block (level_in m values) old k left out end)

abbrev decreases-loop : tie.decreases-loop-left
decreases-loop m layout values n block out₀ at end₀ k₀ left₀ out end k left = left

-- within a turn: the entry, and what the turn began with
module _ (n : tie.In-loop-left invariant-loop decreases-loop) where
  abbrev S : tie.Start invariant-loop decreases-loop
  S = n.before.before.before.before.before

  abbrev W : Wired S.args.m.now S.args.layout (length S.args.values.now) S.args.n
  W = S.requires.0

  there : n.loop-left.k < S.args.n
  there = omega (arith, n.loop-left.invariant.0, n.loop-left-test.true)

  few : n.loop-left.k < 1376
  few = omega (arith, there, W.wires, wires-are W.held W.layout_of, wires-few W.held W.layout_of)

  inside : n.loop-left.end + 4 ≤ length n.loop-left.out
  inside = omega (arith, there, n.loop-left.invariant.1, n.loop-left.invariant.2, S.requires.1)

-- the word of the wire's variable
word-inside : (c : tie.After-literal_at-l invariant-loop decreases-loop) → (c.literal_at-l.result.0.0 < length (S c.before).args.values.now)
word-inside c =
    let w = W c.before in
    omega (arith, ap (λ (l : Lit). l.0.0) c.literal_at-l.ensures, wire-small w.held w.layout_of c.loop-left.k, w.room)

loop-holds : tie.Need-loop-left-init invariant-loop decreases-loop
loop-holds c =
    let a = c.args in (
      omega arith,
      omega arith,
      refl,
      λ old s. turn-start a.out.now a.at a.n a.block (level_in a.m.now a.values.now)
          old s,
    )

literal-at-requires : tie.Need-literal_at-l-requires invariant-loop decreases-loop
literal-at-requires c κs = ((W c).held, (W c).layout_of, omega (arith, there c, (W c).wires))

mul-level-of : tie.Need-offset_bounds-values-v invariant-loop decreases-loop
mul-level-of c = omega (arith, word-inside c.before)

shared-slice-read-level-of : tie.Need-bounds-values-v invariant-loop decreases-loop
shared-slice-read-level-of c = word-inside c.before.before

level-of-requires : tie.Need-level_of-new-requires invariant-loop decreases-loop
level-of-requires c κs = tt

slice-read-after-block : tie.Need-bounds-out-end invariant-loop decreases-loop
slice-read-after-block c = omega (arith, inside c.before.before.before.before.before)

after-block-requires : tie.Need-after_block-level-requires invariant-loop decreases-loop
after-block-requires c κs = tt

write-value-requires : tie.Need-write_value-end-requires invariant-loop decreases-loop
write-value-requires c κs = (few c.before.before.before.before.before.before.before, inside c.before.before.before.before.before.before.before)

add-k : tie.Need-overflow_add-k invariant-loop decreases-loop
add-k c = omega (arith, few c.before.before.before.before.before.before.before.before.before.before)

sub-left : tie.Need-overflow_sub-left invariant-loop decreases-loop
sub-left c = omega (arith, c.loop-left-test.true)

loop-less : tie.Need-loop-left-smaller invariant-loop decreases-loop
loop-less c = omega (arith, c.loop-left-test.true)

loop-again : tie.Need-loop-left-preserved invariant-loop decreases-loop
loop-again c =
    let a = (S c.before.before.before.before.before.before.before.before.before.before).args in
    let new = level_in a.m.now a.values.now in
    let e : c.level_of-new.result ≡ level_byte (new c.loop-left.k) =
    c.level_of-new.ensures
    ∙ ap
    (λ (l : Lit). level_byte (level_over 64 (λ p. cond l.1 (not (lane a.values.now p l.0.0)) (lane a.values.now p l.0.0))))
    c.literal_at-l.ensures in (
      omega (arith, c.loop-left.invariant.0, c.loop-left-test.true),
      omega (arith, c.loop-left.invariant.1, c.write_value-end.ensures.past, with-length c.loop-left.k c.after_block-level.result),
      c.write_value-end.auto.out ∙ c.loop-left.invariant.2,
      λ old s.
          let t = c.loop-left.invariant.3 old s in
          turn-next a.out.now a.at a.n a.block new old t c.loop-left-test.true (S c.before.before.before.before.before.before.before.before.before.before).requires.1
          (placed-level c.loop-left.k (after a.block (old c.loop-left.k) (new c.loop-left.k))
          (c.after_block-level.ensures
          ∙ after-byte a.block (old c.loop-left.k) (new c.loop-left.k)
          (turn_byte a.out.now a.at a.n a.block new old t c.loop-left-test.true) e)
          c.write_value-end.ensures),
    )

same_length : tie.Need-shape_of-out invariant-loop decreases-loop
same_length c = c.loop-left.invariant.2

returns : tie.Need-returns invariant-loop decreases-loop
returns c =
    let a = c.args in
    record {
      past = omega (arith, c.loop-left.invariant.0, c.loop-left.invariant.1, c.loop-left-test.false, values_length low 0 a.n);
      placed = λ old s. turn_end a.out.now a.at a.n a.block (level_in a.m.now a.values.now) old (c.loop-left.invariant.3 old s)
          c.loop-left-test.false;
    }

pub write_values_spec : {M : Type 1} → statement M
write_values_spec =
    tie.close
    (tie.spec invariant-loop decreases-loop loop-holds literal-at-requires (λ c. search rules) mul-level-of shared-slice-read-level-of level-of-requires slice-read-after-block after-block-requires write-value-requires add-k sub-left loop-less loop-again same_length returns)
