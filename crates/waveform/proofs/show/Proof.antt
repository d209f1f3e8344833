-- `waveform::show` meets its contract: the header, and then the samples over all blocks. Assumes nothing.
use mathlib.Core.Path.{◌≡◌, refl, sym, ap, ◌∙◌}
use mathlib.Core.List.{List}
use Prim.Native.Nat.{ℕ, ◌+◌, ◌*◌, ◌^◌, ◌≤◌, ◌<◌}
use native.Mathlib.Omega.{arith}
use borrow.Author.Rules.{rules}
use lib.Pow.{pow_pos}
use lib.ListN.{length}
use Rattle.aiger.specs.Circuit.{Circuit}
use Rattle.aiger.specs.Operations.{front}
use Rattle.completions.specs.Either.{eithers, completion}
use Rattle.layout.specs.Words.{circuit_in}
use Rattle.frames.specs.Lanes.{Ready}
use Rattle.blocks.specs.Runs.{Fits}
use Rattle.blocks.proofs.Words.{blocks-enough}
use Rattle.replay.proofs.Shapes.{run-shaped-read}
use Rattle.output.specs.Output.{put_text}
use Rattle.vcd.specs.Text.{Level, samples, dump}
use Rattle.vcd.specs.Wires.{name_in}
use Rattle.levels.proofs.Wires.{wires-few}
use Rattle.samples.proofs.Samples.{samples-same}
use Rattle.waveform.specs.Waveform.{level_at, waveform}
use Rattle.waveform.specs.Blocks.{level_below, Bodies}
use Rattle.waveform.proofs.Blocks.{bodies, frames-are, level_all}
use Rattle.waveform.proofs.Answers.{few-wires, wires-there, text-is, header-room, samples-room, all-written}
use Rattle.waveform.proofs.show.Statement.{statement}
use Rattle.waveform.proofs.show.Tie as tie

-- the entry
module _ (S : tie.Start) where
  abbrev c : Circuit
  c = circuit_in S.args.m.now

  abbrev body : List ℕ
  body = S.args.body.now

  abbrev R : Ready S.args.m.now S.args.w.layout S.args.order.now 4097
  R = S.requires.ready

  abbrev F : Fits (circuit_in S.args.m.now) S.args.w.q.bad S.args.w.q.frames S.args.w.q.eithers S.args.body.now
  F = S.requires.fits

  abbrev level : ℕ → ℕ → Level
  level = level_at c S.args.w.q.bad body

  few-frames : S.args.w.q.frames ≤ 256
  few-frames =
      let r = bodies F 0 in
      let f = run-shaped-read c S.args.w.q.bad (completion 0 body) r.reads in
      omega (arith, f.few, f.shaped.frames, r.run_at.frames-are)

-- the text, by the number of wires and the length that were computed
module _ (d : tie.After-dump_length-length) where
  abbrev w : tie.After-wire_count-n
  w = d.before

  abbrev S₀ : tie.Start
  S₀ = w.before.before.before.before.before.before.before

  abbrev n : ℕ
  n = w.wire_count-n.result

  shown : dump (name_in S₀.args.w.layout) n (level S₀) S₀.args.w.q.frames ≡ waveform (c S₀) S₀.args.only
      (S₀.args.w.q.bad, body S₀)
  shown =
      text-is (R S₀).held (R S₀).layout_of S₀.args.only w.wire_count-n.ensures S₀.args.w.q.bad (body S₀)
      (frames-are (c S₀) S₀.args.w.q.bad S₀.args.w.q.frames (body S₀) (bodies (F S₀)))

  size : d.dump_length-length.result ≡ length (waveform (c S₀) S₀.args.only (S₀.args.w.q.bad, body S₀))
  size = d.dump_length-length.ensures (level S₀) ∙ ap length shown

wire-count-requires : tie.Need-wire_count-n-requires
wire-count-requires k κs = wires-few (R k.before.before.before.before.before.before).held (R k.before.before.before.before.before.before).layout_of

dump-length-requires : tie.Need-dump_length-length-requires
dump-length-requires k κs =
    (few-wires (R k.before.before.before.before.before.before.before).held (R k.before.before.before.before.before.before.before).layout_of k.args.only k.wire_count-n.ensures, few-frames k.before.before.before.before.before.before.before)

returns : tie.Need-returns-then-out-length
returns k = (refl, omega (arith, size k.before, k.if-out-length.true), refl)

-- there is room
module _ (e : tie.Else-out-length) where
  abbrev d : tie.After-dump_length-length
  d = e.before

  fits : length (dump (name_in (S₀ d).args.w.layout) (n d) (level (S₀ d)) (S₀ d).args.w.q.frames) ≤ length (S₀ d).args.out.now
  fits = omega (arith, d.dump_length-length.ensures (level (S₀ d)), e.if-out-length.false)

write-header-requires : tie.Need-write_header-at-requires
write-header-requires k κs =
    let S = S₀ (d k.before) in (
      few-wires (R S).held (R S).layout_of S.args.only (w (d k.before)).wire_count-n.ensures,
      header-room S.args.out.now (name_in S.args.w.layout) (n (d k.before)) (level S) S.args.w.q.frames (fits k.before),
    )

block-count-requires : tie.Need-block_count-requires
block-count-requires k κs = search rules

show-blocks-requires : tie.Need-show_blocks-requires
show-blocks-requires k κs =
    let S = S₀ (d k.before.before.before.before.before.before) in (
      R S,
      record {
        wires = wires-there (R S).held (R S).layout_of S.args.only (w (d k.before.before.before.before.before.before)).wire_count-n.ensures;
        few = few-frames S;
        inside = (F S).inside;
        room = samples-room S.args.out.now (name_in S.args.w.layout) (n (d k.before.before.before.before.before.before)) (level S) S.args.w.q.frames (fits k.before.before.before.before.before.before)
            k.write_header-at.ensures;
      },
    )

same_length : tie.Need-shape_of-out
same_length k = search rules

returns-2 : tie.Need-returns
returns-2 k =
    let S = S₀ (d k.before.before.before.before.before.before.before.before.before) in
    let b = S.args.w.q.bad in
    let frames = S.args.w.q.frames in
    let blocks = k.block_count.result in
    let B = bodies (F S) in
    let all : 2 ^ eithers (body S) ≤ blocks * 64 =
    omega (arith, ap (λ (x : ℕ). 2 ^ x) (F S).eithers-are, blocks-enough S.args.w.q.eithers, k.block_count.ensures) in
    let same : samples (level_below (c S) b (body S) blocks) (n (d k.before.before.before.before.before.before.before.before.before)) 0 frames ≡ samples (level S) (n (d k.before.before.before.before.before.before.before.before.before)) 0 frames =
    samples-same (level_below (c S) b (body S) blocks) (level S) (n (d k.before.before.before.before.before.before.before.before.before)) 0 frames
    (λ t j _. level_all (c S) b frames (body S) B t j blocks all) in
    let left = k.show_blocks.ensures b B (omega (arith, all, pow_pos (eithers (body S)))) in
    let done =
    all-written S.args.out.now (name_in S.args.w.layout) (n (d k.before.before.before.before.before.before.before.before.before)) (level S) frames (fits k.before.before.before.before.before.before.before.before.before) k.write_header-at.ensures
    (left ∙ ap (λ (u : List ℕ). put_text k.write_header-at.new.out k.write_header-at.result u) same) in
    (size (d k.before.before.before.before.before.before.before.before.before), omega (arith, k.if-out-length.false), done ∙ ap (λ (u : List ℕ). front u S.args.out.now) (shown (d k.before.before.before.before.before.before.before.before.before)))

pub show_spec : {M : Type 1} → statement M
show_spec =
    tie.close
    (tie.spec wire-count-requires dump-length-requires returns write-header-requires block-count-requires show-blocks-requires same_length returns-2)
