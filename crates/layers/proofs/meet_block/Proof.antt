-- `layers::meet_block` meets its contract. Assumes nothing.
use mathlib.Core.Path.{◌≡◌, refl, sym, ap, ◌∙◌, subst}
use mathlib.Core.Bool.{Bool}
use mathlib.Core.List.{List, map}
use mathlib.Core.Option.{Option}
use Prim.Native.Nat.{ℕ, ◌+◌, ◌-◌, ◌*◌, ◌^◌, ◌≤◌, ◌<◌, min}
use native.Mathlib.Omega.{arith}
use lib.ListN.{length, get_or, take, replicate, length-replicate}
use lib.Seq.{length-take-le, get_or-take}
use Rattle.aiger.specs.Bits.{bit}
use Rattle.aiger.specs.Circuit.{Latch}
use Rattle.aiger.specs.Frames.{value}
use Rattle.layout.specs.Words.{word}
use Rattle.frames.specs.Lanes.{lane}
use Rattle.frames.proofs.Facts.{right, known, no-cycle, latches-inside, latches-few, latches-are, latch-place, next-below}
use Rattle.frames.proofs.Places.{inputs_are}
use Rattle.states.specs.Table.{Tally, Fits, count_of}
use Rattle.influence.specs.Part.{part_in}
use Rattle.transitions.specs.Transitions.{number_of, next_in}
use Rattle.transitions.proofs.Rows.{constrained-is}
use Rattle.layers.specs.Rows.{leading, RowsMet}
use Rattle.layers.proofs.Rows.{rows_named, rows-lost, next-in, next_of}
use borrow.Author.Rules.{rules}
use Rattle.layers.proofs.meet_block.Statement.{statement}
use Rattle.layers.proofs.meet_block.Tie as tie

returns : tie.Need-returns-in_default
returns c =
    let a = c.args in
    let C = part_in a.m.now a.kept.now in
    let q = a.block.quota in
    let told = c.in_default.is in (
      λ b s closed v.
          subst
          (λ (t : Tally).
          RowsMet (λ p. next_in C s (a.block.block * 64 + p)) a.block.table q (count_of q t) a.block.e (64 * a.block.block)
          (min 64 (2 ^ length C.circuit.inputs)) a.records.now (q + 1) a.records.now) (sym told)
          (rows-lost (λ p. next_in C s (a.block.block * 64 + p)) a.block.table q (q + 1) a.block.e (64 * a.block.block)
          (min 64 (2 ^ length C.circuit.inputs)) a.records.now
          (subst (λ (t : Tally). Fits a.block.table q (count_of q t) a.records.now) told c.requires.1.0) (omega arith)),
      tt,
    )

lanes-requires : tie.Need-lanes-n-requires
lanes-requires c κs = c.requires.1.1.1

mul-first : tie.Need-overflow_mul-first
mul-first c = omega (arith, c.requires.1.1.2)

cast-first : tie.Need-overflow_cast-first
cast-first c = omega (arith, c.requires.1.1.2)

next-kept-requires : tie.Need-next_kept-requires
next-kept-requires c κs =
    let R = c.requires.0.1 in (
      (
        latches-inside R,
        latches-few R,
        c.requires.1.1.0.each,
      ),
      (
        next-below R,
        λ i l. omega (
          arith,
          latches-are R,
          c.requires.1.1.3.inside i l,
        ),
      ),
    )

-- there is a word for each latch that is kept
inside : (c : tie.After-next_kept) → length c.args.kept.now ≤ length c.next_kept.new.state
inside c = omega (
  arith,
  c.next_kept.auto.state,
  c.requires.1.1.0.each,
)

slice-reshare-prefix-meet-rows : tie.Need-slice_bounds-meet_rows-end
slice-reshare-prefix-meet-rows c = omega (arith, inside c.before.before)

slice-aggregate-meet-rows : tie.Need-slice_bounds-meet_rows-end-2
slice-aggregate-meet-rows c =
    sym (length-take-le (length c.args.kept.now) c.next_kept.new.state (inside c.before.before))

array-borrow-prefix-s : tie.Need-slice_bounds-s-end
array-borrow-prefix-s c = omega (
  arith,
  c.requires.1.1.0.most,
)

-- the words of a state
scratch : (w : ℕ) → w ≤ 32 → length (take w (replicate {A = ℕ} 32 0)) ≡ w
scratch w l = length-take-le w (replicate {A = ℕ} 32 0) (omega (arith, length-replicate {A = ℕ} 32 0))

slice-aggregate-meet-rows-2 : tie.Need-slice_bounds-meet_rows-end-3
slice-aggregate-meet-rows-2 c = sym (scratch c.args.block.table.width c.requires.1.1.0.most)

meet-rows-requires : tie.Need-meet_rows-requires
meet-rows-requires c κs =
    let e = length-take-le (length c.args.kept.now) c.next_kept.new.state (inside c.before.before.before.before) in
    let f = c.requires.1.1.0 in
    let w = scratch c.args.block.table.width f.most in (
      c.requires.1.0,
      (
        omega (arith, c.lanes-n.ensures),
        omega (
          arith,
          c.requires.1.1.2,
        ),
        c.requires.1.1.5,
        w,
        omega (arith, e, w, f.enough),
        omega (arith, e, w, f.fewest),
      ),
    )

same_length : tie.Need-shape_of-records
same_length c = c.meet_rows.auto.records

same-length-2 : tie.Need-shape_of-state
same-length-2 c = c.next_kept.auto.state

returns-2 : tie.Need-returns
returns-2 c = (
  λ b s closed v.
      let a = c.args in
      let B = a.block in
      let R = c.requires.0.1 in
      let C = part_in a.m.now a.kept.now in
      let ks = a.kept.now in
      let whole = c.next_kept.new.state in
      let long = inside c.before.before.before.before.before.before.before.before in
      let st = take (length ks) whole in
      let r = c.meet_rows.new.records in
      let f : ℕ → Option ℕ = leading B.allowed (λ p. number_of (map (λ w. bit w p) st)) in
      let g : ℕ → Option ℕ = λ p. next_in C s (B.block * 64 + p) in
      let n = c.lanes-n.result in
      let e : n ≡ min 64 (2 ^ length C.circuit.inputs) = c.lanes-n.ensures ∙ ap (λ (i : ℕ). min 64 (2 ^ i)) (inputs_are R.held R.layout_of) in
      subst (λ (k : ℕ). RowsMet g B.table B.quota (count_of B.quota B.met) B.e (64 * B.block) k a.records.now
      (count_of B.quota c.meet_rows.result) r) e
      (rows_named f g B.table B.quota (count_of B.quota B.met) B.e (64 * B.block) n a.records.now
      (count_of B.quota c.meet_rows.result) r
      (λ p l.
      let k : p < 64 = omega (
        arith,
        c.lanes-n.ensures,
      ) in
      let w = lane a.values.now p in
      next-in C s (B.block * 64 + p) (bit B.allowed p) (number_of (map (λ x. bit x p) st))
      (c.requires.1.1.4 p k ∙ constrained-is C closed.listed (right R.held) (known R.held)
      (no-cycle R.held) b closed s (B.block * 64 + p) w (v p k))
      (next_of C (right R.held) (known R.held) (no-cycle R.held) b closed s (B.block * 64 + p) w (v p k) st p
      (length-take-le (length ks) whole long)
      (λ i il.
      let jk : get_or ks i 0 < a.layout.l = omega (
        arith,
        latches-are R,
        c.requires.1.1.3.inside i il,
      ) in
      ap (λ (x : ℕ). bit x p) (get_or-take (length ks) whole i 0 il) ∙
      c.next_kept.ensures i il p k
      ∙ ap (λ (x : Latch). value w x.next) (sym (latch-place R (get_or ks i 0) jk)))))
      c.meet_rows.ensures.0),
  c.meet_rows.ensures.1,
)

pub meet_block_spec : {M : Type 1} → statement M
meet_block_spec =
    tie.close
    (tie.spec (λ c. search rules) (λ c. search rules) returns lanes-requires mul-first cast-first next-kept-requires slice-reshare-prefix-meet-rows slice-aggregate-meet-rows array-borrow-prefix-s slice-aggregate-meet-rows-2 meet-rows-requires same_length same-length-2 returns-2)
