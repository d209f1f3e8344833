-- `witness::write_witness` meets its contract. The loop's invariant: writing the rest at the offset of the frame gives what writing all rows
-- gives where the loop begins. The measure is what is left of the frames. Assumes nothing.
use mathlib.Core.Path.{◌≡◌, refl, sym, ap, ◌∙◌}
use mathlib.Core.List.{List, ◌++◌}
use Prim.Native.Nat.{ℕ, ◌+◌, ◌-◌, ◌*◌, ◌≤◌}
use native.Mathlib.Omega.{arith}
use borrow.Rule.Slice.PartMut.{put_mid}
use lib.ListN.{length, length-append, length-take, length-drop, length-set}
use Rattle.aiger.specs.Frames.{starts}
use Rattle.aiger.specs.Witness.{bit_line}
use Rattle.aiger.specs.Operations.{front}
use Rattle.layout.specs.Words.{circuit_in}
use Rattle.witness.specs.Writing.{free_at, heading_text}
use Rattle.witness.proofs.Put.{put, front-part, front_length}
use Rattle.witness.proofs.Rows.{rows_from, row_inside, bits_inside, frame-more, frame-end}
use Rattle.witness.proofs.Starts.{starts-line}
use Rattle.witness.proofs.Parts.{Sized, sized, written_all}
use Rattle.witness.proofs.write_witness.Statement.{statement}
use Rattle.witness.proofs.write_witness.Tie as tie

abbrev invariant-loop : tie.invariant-loop-frame
invariant-loop out₀ m b t free inputs start used rows frame₀ out frame =
    (length out ≡ length out₀) × (frame ≤ t + 1)
    × (put out (rows + frame * (inputs + 1)) (rows_from free used inputs t frame) ≡ put out₀ rows (rows_from free used inputs t 0))

abbrev decreases-loop : tie.decreases-loop-frame
decreases-loop out₀ m b t free inputs start used rows frame₀ out frame = t + 1 - frame

-- after the first two lines: the sizes of the parts, and the length of the output
module _ (h : tie.After-write_heading-start invariant-loop decreases-loop) where
  abbrev M : List ℕ
  M = h.args.m.now

  abbrev F : List ℕ
  F = h.args.free.now

  abbrev Out : List ℕ
  Out = h.args.out.now

  abbrev B : ℕ
  B = h.args.b

  abbrev T : ℕ
  T = h.args.t

  abbrev I : ℕ
  I = h.args.layout.i

  abbrev L : ℕ
  L = h.args.layout.l

  abbrev start : ℕ
  start = h.write_heading-start.result

  abbrev line : List ℕ
  line = bit_line (starts (free_at F) 0 (circuit_in M).latches)

  sizes : Sized M F h.args.layout B T (length Out)
  sizes = sized h.requires

  line-is : length line ≡ L + 1
  line-is = starts-line (free_at F) (circuit_in M).latches ∙ ap (λ (n : ℕ). n + 1) sizes.latches

  same_out : length h.write_heading-start.new.out ≡ length Out
  same_out = h.write_heading-start.auto.out

  -- the start values and the rows have room after the first two lines
  room : start + (L + 1) + (T + 1) * (I + 1) + 2 ≤ length Out
  room = omega (arith, sizes.room, h.write_heading-start.ensures.0)

-- where the loop begins: the first lines are written
module _ (k : tie.After-struct_known-1 invariant-loop decreases-loop) where
  abbrev H : tie.After-write_heading-start invariant-loop decreases-loop
  H = k.before.before.before.before.before.before.before

  abbrev used : ℕ
  used = k.write_starts-used.result

  abbrev Out₀ : List ℕ
  Out₀ = put_mid (start H) (length H.write_heading-start.new.out - start H) H.write_heading-start.new.out k.write_starts-used.new.part

  begun : Out₀ ≡ front (heading_text (B H) ++ line H) (Out H)
  begun =
      let h = H.write_heading-start in
      front-part (Out H) h.new.out k.write_starts-used.new.part (heading_text (B H)) (line H) (start H) h.ensures.0 (omega (arith, room H, line-is H, h.ensures.0))
      h.ensures.1 k.write_starts-used.ensures.1

  same-out₀ : length Out₀ ≡ length (Out H)
  same-out₀ =
      ap length begun
      ∙ front_length (Out H) (heading_text (B H) ++ line H)
      (omega (arith, length-append (heading_text (B H)) (line H), room H, line-is H, H.write_heading-start.ensures.0))

-- at the loop's head: the rows have room
module _ (l : tie.At-loop-frame invariant-loop decreases-loop) where
  abbrev rows : ℕ
  rows = start (H l.before) + L (H l.before) + 1

  rows-room : rows + (T (H l.before) + 1) * (I (H l.before) + 1) + 2 ≤ length l.loop-frame.out
  rows-room = omega (arith, room (H l.before), same-out₀ l.before, l.loop-frame.invariant.0)

-- in a turn: the frame's row has room, and its bits are there
module _ (n : tie.In-loop-frame invariant-loop decreases-loop) where
  abbrev h : tie.After-write_heading-start invariant-loop decreases-loop
  h = H n.before.before

  in-frames : n.loop-frame.frame ≤ T h
  in-frames = omega (arith, n.loop-frame-test.true)

  row_room : rows n.before + n.loop-frame.frame * (I h + 1) + (I h + 1) + 2 ≤ length n.loop-frame.out
  row_room = omega (arith, rows-room n.before, row_inside (T h) n.loop-frame.frame (I h + 1) in-frames)

  row-bits : used n.before.before + I h * n.loop-frame.frame + I h ≤ length (F h)
  row-bits =
      omega (
        arith,
        (sizes h).bits,
        bits_inside (T h) n.loop-frame.frame (I h) in-frames,
        n.write_starts-used.ensures.0,
      )

write-heading-requires : tie.Need-write_heading-start-requires invariant-loop decreases-loop
write-heading-requires c κs = omega (arith, (sized c.requires).room)

sub-write-starts : tie.Need-slice_bounds-write_starts-count invariant-loop decreases-loop
sub-write-starts c = omega (arith, room c.before.before, same_out c.before.before)

part-write-starts-start : tie.Need-slice_bounds-write_starts-start invariant-loop decreases-loop
part-write-starts-start c = omega (arith, room c.before.before, same_out c.before.before)

part-write-starts-end : tie.Need-slice_bounds-write_starts-end invariant-loop decreases-loop
part-write-starts-end c = omega arith

write-starts-requires : tie.Need-write_starts-used-requires invariant-loop decreases-loop
write-starts-requires c κs =
    let p = c.requires in
    record {
      holds = p.holds;
      layout = p.layout;
      bits = omega (arith, (sizes c.before.before.before).bits);
      room = simp (length-take, length-drop) (omega (arith, room c.before.before.before, same_out c.before.before.before, (sizes c.before.before.before).latches));
    }

add-rows : tie.Need-overflow_add-rows invariant-loop decreases-loop
add-rows c = omega (arith, room (H c), (H c).before.before.before.before.before.well_formed)

add-rows-2 : tie.Need-overflow_add-rows-2 invariant-loop decreases-loop
add-rows-2 c = omega (arith, room (H c), (H c).before.before.before.before.before.well_formed)

loop-holds : tie.Need-loop-frame-init invariant-loop decreases-loop
loop-holds c =
    let z : 0 * (I (H c) + 1) ≡ 0 = omega arith in
    (refl, omega arith, ap (λ (n : ℕ). put (Out₀ c) n (rows_from (F (H c)) (used c) (I (H c)) (T (H c)) 0)) (omega arith))

add-offset : tie.Need-overflow_add-offset invariant-loop decreases-loop
add-offset c = omega (arith, row_room c, (h c).before.before.before.before.before.well_formed, same-out₀ c.before.before, c.loop-frame.invariant.0)

mul-offset : tie.Need-overflow_mul-offset invariant-loop decreases-loop
mul-offset c = omega (arith, row_room c, (h c).before.before.before.before.before.well_formed, same-out₀ c.before.before, c.loop-frame.invariant.0)

add-offset-2 : tie.Need-overflow_add-offset-in-loop-frame invariant-loop decreases-loop
add-offset-2 c = omega (arith, row_room c, (h c).before.before.before.before.before.well_formed, same-out₀ c.before.before, c.loop-frame.invariant.0)

sub-write-row : tie.Need-slice_bounds-write_row-count invariant-loop decreases-loop
sub-write-row c = omega (arith, row_room c)

part-write-row-start : tie.Need-slice_bounds-write_row-start invariant-loop decreases-loop
part-write-row-start c = omega (arith, row_room c)

part-write-row-end : tie.Need-slice_bounds-write_row-end invariant-loop decreases-loop
part-write-row-end c = omega arith

mul-write-row : tie.Need-overflow_mul-inputs invariant-loop decreases-loop
mul-write-row c = omega (arith, row-bits c.before, (h c.before).before.before.before.before.before.well_formed)

add-write-row : tie.Need-overflow_add-used invariant-loop decreases-loop
add-write-row c = omega (arith, row-bits c.before, (h c.before).before.before.before.before.before.well_formed)

write-row-requires : tie.Need-write_row-requires invariant-loop decreases-loop
write-row-requires c κs = (simp (length-take, length-drop) (omega (arith, row_room c.before)), omega (arith, row-bits c.before))

add-frame : tie.Need-overflow_add-frame invariant-loop decreases-loop
add-frame c = omega (arith, c.loop-frame-test.true, (h c.before.before.before.before).requires.frame)

loop-less : tie.Need-loop-frame-smaller invariant-loop decreases-loop
loop-less c = omega (arith, c.loop-frame-test.true)

loop-again : tie.Need-loop-frame-preserved invariant-loop decreases-loop
loop-again c =
    let r =
    frame-more (F (H c.before.before.before.before.before.before)) (used c.before.before.before.before.before.before) (I (H c.before.before.before.before.before.before)) (T (H c.before.before.before.before.before.before)) (rows c.before.before.before.before.before) c.loop-frame.out c.loop-frame.frame (rows-room c.before.before.before.before.before) (in-frames c.before.before.before.before)
    c.write_row.new.part c.write_row.ensures in
    (r.0 ∙ c.loop-frame.invariant.0, omega (arith, c.loop-frame-test.true), r.1 ∙ c.loop-frame.invariant.2)

-- after the loop: all rows are written
module _ (c : tie.After-loop-frame invariant-loop decreases-loop) where
  abbrev e : tie.After-write_heading-start invariant-loop decreases-loop
  e = H c.before.before

  all-frames : c.loop-frame.frame ≡ T e + 1
  all-frames = omega (arith, c.loop-frame-test.false, c.loop-frame.invariant.1)

  end-room : rows c.before + c.loop-frame.frame * (I e + 1) + 2 ≤ length c.loop-frame.out
  end-room = omega (arith, rows-room c.before, ap (λ (n : ℕ). n * (I e + 1)) all-frames)

  same_end : length c.loop-frame.out ≡ length (Out e)
  same_end = c.loop-frame.invariant.0 ∙ same-out₀ c.before.before

add-end : tie.Need-overflow_add-end invariant-loop decreases-loop
add-end c = omega (arith, end-room c, same_end c, (e c).before.before.before.before.before.well_formed)

mul-end : tie.Need-overflow_mul-end invariant-loop decreases-loop
mul-end c = omega (arith, end-room c, same_end c, (e c).before.before.before.before.before.well_formed)

add-end-2 : tie.Need-overflow_add-end-2 invariant-loop decreases-loop
add-end-2 c = omega (arith, end-room c, same_end c, (e c).before.before.before.before.before.well_formed)

slice-write-out : tie.Need-bounds-out-end invariant-loop decreases-loop
slice-write-out c = omega (arith, end-room c)

add-out : tie.Need-overflow_add-out invariant-loop decreases-loop
add-out c = omega (arith, end-room c, same_end c, (e c).before.before.before.before.before.well_formed)

slice-write-out-2 : tie.Need-bounds-out-end-2 invariant-loop decreases-loop
slice-write-out-2 c = simp length-set (omega (arith, end-room c))

same_length : tie.Need-shape_of-out invariant-loop decreases-loop
same_length c = simp length-set (same_end c)

returns : tie.Need-returns invariant-loop decreases-loop
returns c = λ x s.
    sym (frame-end (F (e c)) (used c.before.before) (I (e c)) (T (e c)) (rows c.before) c.loop-frame.out c.loop-frame.frame (rows-room c.before) (all-frames c))
    ∙ c.loop-frame.invariant.2
    ∙ written_all (F (e c)) (circuit_in (M (e c))) (T (e c)) x s (B (e c)) (Out (e c)) (Out₀ c.before.before) (rows c.before) (used c.before.before) (I (e c)) (begun c.before.before)
    (omega (arith, line-is (e c), (e c).write_heading-start.ensures.0)) (omega (arith, room (e c))) c.write_starts-used.ensures.0 (sizes (e c)).inputs

pub write_witness_spec : {M : Type 1} → statement M
write_witness_spec =
    tie.close
    (tie.spec invariant-loop decreases-loop write-heading-requires sub-write-starts part-write-starts-start part-write-starts-end write-starts-requires add-rows add-rows-2 loop-holds add-offset mul-offset add-offset-2 sub-write-row part-write-row-start part-write-row-end mul-write-row add-write-row write-row-requires add-frame loop-less loop-again add-end mul-end add-end-2 slice-write-out add-out slice-write-out-2 same_length returns)
