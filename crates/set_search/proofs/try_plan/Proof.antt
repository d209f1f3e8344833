-- `set_search::try_plan` meets its contract. Assumes nothing.
use Rattle.std.proofs.lemmas.Bool.{not_from_true}
use Rattle.std.proofs.lemmas.Bool.{not_from_false}
use mathlib.Core.Path.{◌≡◌, refl, sym, ap, ◌∙◌, subst}
use mathlib.Core.List.{List, ◌++◌}
use Prim.Native.Nat.{ℕ, ◌+◌, ◌*◌, ◌≤◌}
use native.Mathlib.Omega.{arith}
use borrow.Author.Rules.{rules}
use lib.ListN.{length, take, drop}
use lib.Seq.{length-take-le, take_at}
use Rattle.aiger.specs.Frames.{size}
use Rattle.layout.specs.Words.{circuit_in}
use Rattle.limits.proofs.Sizes.{bits-within, limited, counts_of, size_is}
use Rattle.state_sets.specs.declared.Shape.{Shape}
use Rattle.state_sets.proofs.Follow.{refused, granted}
use Rattle.set_stage.specs.Plans.{frees_of, base_of}
use Rattle.set_search.specs.declared.Place.{Place}
use Rattle.set_search.proofs.Plans.{proper, latches-counted, latches-part}
use Rattle.set_search.proofs.Reached.{frees-count}
use Rattle.set_search.proofs.Trial.{size_fits, bits-by, width_some, product-few, front_length, front-room, vars-few, inputs-few, table-room, shape-fits, not_made, begins, ends_as, hit-within, hit-legible, hit-put-so}
use Rattle.set_search.proofs.try_plan.Statement.{statement}
use Rattle.set_search.proofs.try_plan.Tie as tie

rows-of-requires : tie.Need-rows_of-rows-requires
rows-of-requires c κs =
    let a = c.args in
    let C = circuit_in a.m.now in
    let r = c.requires.0.1 in
    let q = c.requires.1.0 in
    let t = c.requires.1.1 in
    let P = proper r in
    (omega (arith, t.fit.whole), inputs-few C a.stage.b P a.plan.now t.fit)

size-requires : tie.Need-size-words-requires
size-requires c κs =
    let a = c.args in
    let C = circuit_in a.m.now in
    let r = c.requires.0.1 in
    let q = c.requires.1.0 in
    let t = c.requires.1.1 in
    let P = proper r in
    (limited r.held r.layout_of, omega (arith, q.bound, q.within))

mul_words : tie.Need-overflow_mul-words
mul_words c =
    let a = c.args in
    let C = circuit_in a.m.now in
    let r = c.requires.0.1 in
    let q = c.requires.1.0 in
    let t = c.requires.1.1 in
    let P = proper r in
    let most : 16 * size C a.stage.k ≤ 1048576 = omega (arith, q.units) in
    omega (arith, size_fits (counts_of r.held r.layout_of) c.size-words.ensures a.stage.k 1048576 (omega (arith, q.within)) most)

slice-relend-prefix-begin-table : tie.Need-slice_bounds-begin_table-end
slice-relend-prefix-begin-table c =
    let a = c.args in
    let C = circuit_in a.m.now in
    let r = c.requires.0.1 in
    let q = c.requires.1.0 in
    let t = c.requires.1.1 in
    let P = proper r in
    let n = 16 * c.size-words.result in
    let fits : n ≤ length a.work.now =
    size_fits (counts_of r.held r.layout_of) c.size-words.ensures a.stage.k (length a.work.now) (omega (arith, q.within)) q.room in
    fits

slice-aggregate-begin-table : tie.Need-slice_bounds-begin_table-end-2
slice-aggregate-begin-table c =
    let a = c.args in
    let C = circuit_in a.m.now in
    let r = c.requires.0.1 in
    let q = c.requires.1.0 in
    let t = c.requires.1.1 in
    let P = proper r in
    let n = 16 * c.size-words.result in
    let fits : n ≤ length a.work.now =
    size_fits (counts_of r.held r.layout_of) c.size-words.ensures a.stage.k (length a.work.now) (omega (arith, q.within)) q.room in
    sym (length-take-le n a.work.now fits)

begin-table-requires : tie.Need-begin_table-requires
begin-table-requires c κs =
    let a = c.args in
    let C = circuit_in a.m.now in
    let r = c.requires.0.1 in
    let q = c.requires.1.0 in
    let t = c.requires.1.1 in
    let P = proper r in
    (c.requires.0, (table-room C a.stage.b P a.plan.now t.fit, refl))

returns : tie.Need-returns-then-not-begin_table
returns c =
    let a = c.args in
    let C = circuit_in a.m.now in
    let r = c.requires.0.1 in
    let q = c.requires.1.0 in
    let t = c.requires.1.1 in
    let P = proper r in
    let z = c.size-words.ensures ∙ size_is (counts_of r.held r.layout_of) a.stage.first in
    let n = 16 * c.size-words.result in
    let fits : n ≤ length a.work.now =
    size_fits (counts_of r.held r.layout_of) c.size-words.ensures a.stage.k (length a.work.now) (omega (arith, q.within)) q.room in
    let long = length-take-le n a.work.now fits in
    not_made C a.stage.b P a.plan.now t.fit a.stage.share a.stage.first a.stage.k t.large q.none (length (take n a.work.now)) (long ∙ ap (λ (i : ℕ). 16 * i) z) c.begin_table.new.w
    c.begin_table.new.table c.begin_table.result c.begin_table.ensures (refused c.begin_table.result (not_from_false _ c.if-not-begin_table.true))

put-starts-requires : tie.Need-put_starts-n-requires
put-starts-requires c κs =
    let a = c.args in
    let C = circuit_in a.m.now in
    let r = c.requires.0.1 in
    let q = c.requires.1.0 in
    let t = c.requires.1.1 in
    let P = proper r in
    let part = latches-part a.plan.now (length a.base.now) t.base-room in
    let count = ap length part ∙ latches-counted a.plan.now t.fit.whole in
    (c.requires.0, (omega arith, omega (arith, count, (table-room C a.stage.b P a.plan.now t.fit).vars), t.base-room ∙ sym count))

slice-relend-prefix-run-frames : tie.Need-slice_bounds-run_frames-end
slice-relend-prefix-run-frames c =
    let a = c.args in
    let C = circuit_in a.m.now in
    let r = c.requires.0.1 in
    let q = c.requires.1.0 in
    let t = c.requires.1.1 in
    let P = proper r in
    let n = 16 * c.size-words.result in
    let fits : n ≤ length a.work.now =
    size_fits (counts_of r.held r.layout_of) c.size-words.ensures a.stage.k (length a.work.now) (omega (arith, q.within)) q.room in
    let long = length-take-le n a.work.now fits in
    front-room n c.begin_table.new.w a.work.now (c.begin_table.auto.w ∙ long)

slice-aggregate-run-frames : tie.Need-slice_bounds-run_frames-end-2
slice-aggregate-run-frames c =
    let a = c.args in
    let C = circuit_in a.m.now in
    let r = c.requires.0.1 in
    let q = c.requires.1.0 in
    let t = c.requires.1.1 in
    let P = proper r in
    let n = 16 * c.size-words.result in
    let fits : n ≤ length a.work.now =
    size_fits (counts_of r.held r.layout_of) c.size-words.ensures a.stage.k (length a.work.now) (omega (arith, q.within)) q.room in
    let long = length-take-le n a.work.now fits in
    sym (ap length (take_at c.begin_table.new.w (drop n a.work.now) n (c.begin_table.auto.w ∙ long)) ∙ c.begin_table.auto.w ∙ long)

array-share-prefix-frees : tie.Need-slice_bounds-frees-end
array-share-prefix-frees c = omega (arith, c.put_starts-n.ensures.most, c.put_starts-n.auto.frees)

slice-aggregate-run-frames-3 : tie.Need-slice_bounds-run_frames-end-4
slice-aggregate-run-frames-3 c = sym (length-take-le c.put_starts-n.result c.put_starts-n.new.frees (omega (arith, c.put_starts-n.ensures.most, c.put_starts-n.auto.frees)))

run-frames-requires : tie.Need-run_frames-requires
run-frames-requires c κs =
    let a = c.args in
    let C = circuit_in a.m.now in
    let r = c.requires.0.1 in
    let q = c.requires.1.0 in
    let t = c.requires.1.1 in
    let P = proper r in
    let z = c.size-words.ensures ∙ size_is (counts_of r.held r.layout_of) a.stage.first in
    let n = 16 * c.size-words.result in
    let fits : n ≤ length a.work.now =
    size_fits (counts_of r.held r.layout_of) c.size-words.ensures a.stage.k (length a.work.now) (omega (arith, q.within)) q.room in
    let long = length-take-le n a.work.now fits in
    let free = take c.put_starts-n.result c.put_starts-n.new.frees in
    let part = latches-part a.plan.now (length a.base.now) t.base-room in
    let shape : Shape = record { vars = length a.base.now; rows = c.rows_of-rows.result } in
    let old = drop n a.work.now in (
      begins C a.stage.b P a.plan.now t.fit a.stage.share a.stage.first a.stage.k t.large q.none (length (take n a.work.now)) (long ∙ ap (λ (i : ℕ). 16 * i) z) c.begin_table.new.w
          c.begin_table.new.table c.begin_table.result c.begin_table.ensures
          (granted c.begin_table.result (not_from_true _ c.if-not-begin_table.false)) shape t.base-room c.rows_of-rows.ensures.0 free c.put_starts-n.new.base (take n (c.begin_table.new.w ++ old))
          (c.put_starts-n.ensures.free ∙ ap (frees_of C) part) (c.put_starts-n.ensures.start ∙ ap (base_of C) part) (take_at c.begin_table.new.w old n (c.begin_table.auto.w ∙ long)),
      (
        shape-fits C a.stage.b P a.plan.now t.fit shape (length c.begin_table.new.table) t.base-room c.rows_of-rows.ensures.0 c.begin_table.auto.table,
        (c.put_starts-n.auto.base, t.bits-room ∙ sym t.base-room, q.bound),
      ),
    )

add-count : tie.Need-overflow_add-count
add-count c =
    let a = c.args in
    let C = circuit_in a.m.now in
    let r = c.requires.0.1 in
    let q = c.requires.1.0 in
    let t = c.requires.1.1 in
    let P = proper r in
    let z = c.size-words.ensures ∙ size_is (counts_of r.held r.layout_of) a.stage.first in
    let n = 16 * c.size-words.result in
    let fits : n ≤ length a.work.now =
    size_fits (counts_of r.held r.layout_of) c.size-words.ensures a.stage.k (length a.work.now) (omega (arith, q.within)) q.room in
    let long = length-take-le n a.work.now fits in
    let free = take c.put_starts-n.result c.put_starts-n.new.frees in
    let part = latches-part a.plan.now (length a.base.now) t.base-room in
    let shape : Shape = record { vars = length a.base.now; rows = c.rows_of-rows.result } in
    let old = drop n a.work.now in
    let within = hit-within C a.stage.b P a.plan.now t.fit a.stage.share a.stage.first a.stage.k t.large q.none (length (take n a.work.now)) (long ∙ ap (λ (i : ℕ). 16 * i) z) c.begin_table.new.w
    c.begin_table.new.table c.begin_table.result c.begin_table.ensures
    (granted c.begin_table.result (not_from_true _ c.if-not-begin_table.false)) shape t.base-room c.rows_of-rows.ensures.0 free c.put_starts-n.new.base (take n (c.begin_table.new.w ++ old))
    (c.put_starts-n.ensures.free ∙ ap (frees_of C) part) (c.put_starts-n.ensures.start ∙ ap (base_of C) part) (take_at c.begin_table.new.w old n (c.begin_table.auto.w ∙ long))
    c.run_frames.new.w c.run_frames.new.table c.run_frames.new.bits c.run_frames.result c.run_frames.ensures c.in-Hit.is in
    omega (arith, within, q.bound)

mul-count : tie.Need-overflow_mul-count
mul-count c =
    let a = c.args in
    let C = circuit_in a.m.now in
    let r = c.requires.0.1 in
    let q = c.requires.1.0 in
    let t = c.requires.1.1 in
    let P = proper r in
    let z = c.size-words.ensures ∙ size_is (counts_of r.held r.layout_of) a.stage.first in
    let n = 16 * c.size-words.result in
    let fits : n ≤ length a.work.now =
    size_fits (counts_of r.held r.layout_of) c.size-words.ensures a.stage.k (length a.work.now) (omega (arith, q.within)) q.room in
    let long = length-take-le n a.work.now fits in
    let free = take c.put_starts-n.result c.put_starts-n.new.frees in
    let part = latches-part a.plan.now (length a.base.now) t.base-room in
    let shape : Shape = record { vars = length a.base.now; rows = c.rows_of-rows.result } in
    let old = drop n a.work.now in
    let within = hit-within C a.stage.b P a.plan.now t.fit a.stage.share a.stage.first a.stage.k t.large q.none (length (take n a.work.now)) (long ∙ ap (λ (i : ℕ). 16 * i) z) c.begin_table.new.w
    c.begin_table.new.table c.begin_table.result c.begin_table.ensures
    (granted c.begin_table.result (not_from_true _ c.if-not-begin_table.false)) shape t.base-room c.rows_of-rows.ensures.0 free c.put_starts-n.new.base (take n (c.begin_table.new.w ++ old))
    (c.put_starts-n.ensures.free ∙ ap (frees_of C) part) (c.put_starts-n.ensures.start ∙ ap (base_of C) part) (take_at c.begin_table.new.w old n (c.begin_table.auto.w ∙ long))
    c.run_frames.new.w c.run_frames.new.table c.run_frames.new.bits c.run_frames.result c.run_frames.ensures c.in-Hit.is in
    omega (arith, product-few a.layout.i c.in-Hit.t (limited r.held r.layout_of).inputs (omega (arith, within, q.bound)))

add-count-2 : tie.Need-overflow_add-count-in-Hit
add-count-2 c =
    let a = c.args in
    let C = circuit_in a.m.now in
    let r = c.requires.0.1 in
    let q = c.requires.1.0 in
    let t = c.requires.1.1 in
    let P = proper r in
    let z = c.size-words.ensures ∙ size_is (counts_of r.held r.layout_of) a.stage.first in
    let n = 16 * c.size-words.result in
    let fits : n ≤ length a.work.now =
    size_fits (counts_of r.held r.layout_of) c.size-words.ensures a.stage.k (length a.work.now) (omega (arith, q.within)) q.room in
    let long = length-take-le n a.work.now fits in
    let free = take c.put_starts-n.result c.put_starts-n.new.frees in
    let part = latches-part a.plan.now (length a.base.now) t.base-room in
    let shape : Shape = record { vars = length a.base.now; rows = c.rows_of-rows.result } in
    let old = drop n a.work.now in
    let within = hit-within C a.stage.b P a.plan.now t.fit a.stage.share a.stage.first a.stage.k t.large q.none (length (take n a.work.now)) (long ∙ ap (λ (i : ℕ). 16 * i) z) c.begin_table.new.w
    c.begin_table.new.table c.begin_table.result c.begin_table.ensures
    (granted c.begin_table.result (not_from_true _ c.if-not-begin_table.false)) shape t.base-room c.rows_of-rows.ensures.0 free c.put_starts-n.new.base (take n (c.begin_table.new.w ++ old))
    (c.put_starts-n.ensures.free ∙ ap (frees_of C) part) (c.put_starts-n.ensures.start ∙ ap (base_of C) part) (take_at c.begin_table.new.w old n (c.begin_table.auto.w ∙ long))
    c.run_frames.new.w c.run_frames.new.table c.run_frames.new.bits c.run_frames.result c.run_frames.ensures c.in-Hit.is in
    omega (arith, (limited r.held r.layout_of).starts, (limited r.held r.layout_of).latches, product-few a.layout.i c.in-Hit.t (limited r.held r.layout_of).inputs (omega (arith, within, q.bound)))

array-share-prefix-frees-2 : tie.Need-slice_bounds-frees-end-in-Hit
array-share-prefix-frees-2 c = omega (arith, c.put_starts-n.ensures.most, c.put_starts-n.auto.frees)

slice-aggregate-put-hit-2 : tie.Need-slice_bounds-put_hit-end-in-Hit
slice-aggregate-put-hit-2 c = sym (length-take-le c.put_starts-n.result c.put_starts-n.new.frees (omega (arith, c.put_starts-n.ensures.most, c.put_starts-n.auto.frees)))

put-hit-requires : tie.Need-put_hit-requires
put-hit-requires c κs =
    let a = c.args in
    let C = circuit_in a.m.now in
    let r = c.requires.0.1 in
    let q = c.requires.1.0 in
    let t = c.requires.1.1 in
    let P = proper r in
    let z = c.size-words.ensures ∙ size_is (counts_of r.held r.layout_of) a.stage.first in
    let n = 16 * c.size-words.result in
    let fits : n ≤ length a.work.now =
    size_fits (counts_of r.held r.layout_of) c.size-words.ensures a.stage.k (length a.work.now) (omega (arith, q.within)) q.room in
    let long = length-take-le n a.work.now fits in
    let free = take c.put_starts-n.result c.put_starts-n.new.frees in
    let part = latches-part a.plan.now (length a.base.now) t.base-room in
    let shape : Shape = record { vars = length a.base.now; rows = c.rows_of-rows.result } in
    let old = drop n a.work.now in
    let within = hit-within C a.stage.b P a.plan.now t.fit a.stage.share a.stage.first a.stage.k t.large q.none (length (take n a.work.now)) (long ∙ ap (λ (i : ℕ). 16 * i) z) c.begin_table.new.w
    c.begin_table.new.table c.begin_table.result c.begin_table.ensures
    (granted c.begin_table.result (not_from_true _ c.if-not-begin_table.false)) shape t.base-room c.rows_of-rows.ensures.0 free c.put_starts-n.new.base (take n (c.begin_table.new.w ++ old))
    (c.put_starts-n.ensures.free ∙ ap (frees_of C) part) (c.put_starts-n.ensures.start ∙ ap (base_of C) part) (take_at c.begin_table.new.w old n (c.begin_table.auto.w ∙ long))
    c.run_frames.new.w c.run_frames.new.table c.run_frames.new.bits c.run_frames.result c.run_frames.ensures c.in-Hit.is in
    let x = c.in-Hit.t in
    let one = c.begin_table.new.w ++ old in
    let late = c.run_frames.auto.w ∙ ap length (take_at c.begin_table.new.w old n (c.begin_table.auto.w ∙ long)) ∙ c.begin_table.auto.w ∙ long in
    let two = front_length n c.run_frames.new.w one late (front-room n c.begin_table.new.w a.work.now (c.begin_table.auto.w ∙ long)) ∙ front_length n c.begin_table.new.w a.work.now (c.begin_table.auto.w ∙ long) fits in
    record {
      legible = hit-legible C a.stage.b P a.plan.now t.fit a.stage.share a.stage.first a.stage.k t.large q.none (length (take n a.work.now)) (long ∙ ap (λ (i : ℕ). 16 * i) z) c.begin_table.new.w
          c.begin_table.new.table c.begin_table.result c.begin_table.ensures
          (granted c.begin_table.result (not_from_true _ c.if-not-begin_table.false)) shape t.base-room c.rows_of-rows.ensures.0 free c.put_starts-n.new.base (take n (c.begin_table.new.w ++ old))
          (c.put_starts-n.ensures.free ∙ ap (frees_of C) part) (c.put_starts-n.ensures.start ∙ ap (base_of C) part) (take_at c.begin_table.new.w old n (c.begin_table.auto.w ∙ long))
          c.run_frames.new.w c.run_frames.new.table c.run_frames.new.bits c.run_frames.result c.run_frames.ensures c.in-Hit.is (take n (c.run_frames.new.w ++ drop n one)) (take_at c.run_frames.new.w (drop n one) n late);
      fits = shape-fits C a.stage.b P a.plan.now t.fit shape (length c.run_frames.new.table) t.base-room c.rows_of-rows.ensures.0 (c.run_frames.auto.table ∙ c.begin_table.auto.table);
      few = omega (arith, t.base-room, vars-few C a.stage.b P a.plan.now t.fit);
      whole = t.fit.whole;
      inputs = inputs-few C a.stage.b P a.plan.now t.fit;
      base-room = omega (arith, c.put_starts-n.auto.base, c.run_frames.auto.bits, t.bits-room, t.base-room);
      bits-room = omega (arith, c.put_starts-n.auto.base, c.run_frames.auto.bits, t.bits-room, t.base-room);
      frame = omega (arith, within, q.bound);
      words = omega (arith, two, fits);
      width = omega (arith, (limited r.held r.layout_of).inputs);
      some = λ l. width_some a.layout.u a.layout.i x (omega (arith, l, ap length (c.put_starts-n.ensures.free ∙ ap (frees_of C) part), frees-count C a.stage.b P.right P.no-cycle a.plan.now t.fit, (counts_of r.held r.layout_of).starts));
      room = omega (arith, two, bits-by (counts_of r.held r.layout_of) x, bits-within C x a.stage.k within, q.room);
    }

same-length-2 : tie.Need-shape_of-base-in-Hit
same-length-2 c = c.put_hit.auto.base ∙ c.put_starts-n.auto.base

same-length-4 : tie.Need-shape_of-work-in-Hit
same-length-4 c =
    let a = c.args in
    let C = circuit_in a.m.now in
    let r = c.requires.0.1 in
    let q = c.requires.1.0 in
    let t = c.requires.1.1 in
    let P = proper r in
    let n = 16 * c.size-words.result in
    let fits : n ≤ length a.work.now =
    size_fits (counts_of r.held r.layout_of) c.size-words.ensures a.stage.k (length a.work.now) (omega (arith, q.within)) q.room in
    let long = length-take-le n a.work.now fits in
    let old = drop n a.work.now in
    let late = c.run_frames.auto.w ∙ ap length (take_at c.begin_table.new.w old n (c.begin_table.auto.w ∙ long)) ∙ c.begin_table.auto.w ∙ long in
    c.put_hit.auto.work
    ∙ front_length n c.run_frames.new.w (c.begin_table.new.w ++ old) late (front-room n c.begin_table.new.w a.work.now (c.begin_table.auto.w ∙ long))
    ∙ front_length n c.begin_table.new.w a.work.now (c.begin_table.auto.w ∙ long) fits

returns-2 : tie.Need-returns-in-Hit
returns-2 c =
    let a = c.args in
    let C = circuit_in a.m.now in
    let r = c.requires.0.1 in
    let q = c.requires.1.0 in
    let t = c.requires.1.1 in
    let P = proper r in
    let z = c.size-words.ensures ∙ size_is (counts_of r.held r.layout_of) a.stage.first in
    let n = 16 * c.size-words.result in
    let fits : n ≤ length a.work.now =
    size_fits (counts_of r.held r.layout_of) c.size-words.ensures a.stage.k (length a.work.now) (omega (arith, q.within)) q.room in
    let long = length-take-le n a.work.now fits in
    let free = take c.put_starts-n.result c.put_starts-n.new.frees in
    let part = latches-part a.plan.now (length a.base.now) t.base-room in
    let shape : Shape = record { vars = length a.base.now; rows = c.rows_of-rows.result } in
    let old = drop n a.work.now in
    let x = c.in-Hit.t in
    let one = c.begin_table.new.w ++ old in
    let late = c.run_frames.auto.w ∙ ap length (take_at c.begin_table.new.w old n (c.begin_table.auto.w ∙ long)) ∙ c.begin_table.auto.w ∙ long in
    let e = counts_of r.held r.layout_of in
    let place : Place = record { s = shape; t = x; words = n; width = a.layout.i; count = a.layout.u + a.layout.i * (x + 1) } in
    hit-put-so C a.stage.b P a.plan.now t.fit a.stage.share a.stage.first a.stage.k t.large q.none (length (take n a.work.now)) (long ∙ ap (λ (i : ℕ). 16 * i) z) c.begin_table.new.w
    c.begin_table.new.table c.begin_table.result c.begin_table.ensures
    (granted c.begin_table.result (not_from_true _ c.if-not-begin_table.false)) shape t.base-room c.rows_of-rows.ensures.0 free c.put_starts-n.new.base (take n (c.begin_table.new.w ++ old))
    (c.put_starts-n.ensures.free ∙ ap (frees_of C) part) (c.put_starts-n.ensures.start ∙ ap (base_of C) part) (take_at c.begin_table.new.w old n (c.begin_table.auto.w ∙ long))
    c.run_frames.new.w c.run_frames.new.table c.run_frames.new.bits c.run_frames.result c.run_frames.ensures c.in-Hit.is place (c.run_frames.new.w ++ drop n one) c.put_hit.new.work refl refl e.inputs (bits-by e x)
    (take_at c.run_frames.new.w (drop n one) n late) c.put_hit.ensures

returns-3 : tie.Need-returns-in-Never
returns-3 c =
    let a = c.args in
    let C = circuit_in a.m.now in
    let r = c.requires.0.1 in
    let q = c.requires.1.0 in
    let t = c.requires.1.1 in
    let P = proper r in
    let z = c.size-words.ensures ∙ size_is (counts_of r.held r.layout_of) a.stage.first in
    let n = 16 * c.size-words.result in
    let fits : n ≤ length a.work.now =
    size_fits (counts_of r.held r.layout_of) c.size-words.ensures a.stage.k (length a.work.now) (omega (arith, q.within)) q.room in
    let long = length-take-le n a.work.now fits in
    let free = take c.put_starts-n.result c.put_starts-n.new.frees in
    let part = latches-part a.plan.now (length a.base.now) t.base-room in
    let shape : Shape = record { vars = length a.base.now; rows = c.rows_of-rows.result } in
    let old = drop n a.work.now in
    ends_as C a.stage.b P a.plan.now t.fit a.stage.share a.stage.first a.stage.k t.large q.none (length (take n a.work.now)) (long ∙ ap (λ (i : ℕ). 16 * i) z) c.begin_table.new.w
    c.begin_table.new.table c.begin_table.result c.begin_table.ensures
    (granted c.begin_table.result (not_from_true _ c.if-not-begin_table.false)) shape t.base-room c.rows_of-rows.ensures.0 free c.put_starts-n.new.base (take n (c.begin_table.new.w ++ old))
    (c.put_starts-n.ensures.free ∙ ap (frees_of C) part) (c.put_starts-n.ensures.start ∙ ap (base_of C) part) (take_at c.begin_table.new.w old n (c.begin_table.auto.w ∙ long))
    c.run_frames.new.w c.run_frames.new.table c.run_frames.new.bits c.run_frames.result c.run_frames.ensures c.in-Never.is

returns-4 : tie.Need-returns-in-Clear
returns-4 c =
    let a = c.args in
    let C = circuit_in a.m.now in
    let r = c.requires.0.1 in
    let q = c.requires.1.0 in
    let t = c.requires.1.1 in
    let P = proper r in
    let z = c.size-words.ensures ∙ size_is (counts_of r.held r.layout_of) a.stage.first in
    let n = 16 * c.size-words.result in
    let fits : n ≤ length a.work.now =
    size_fits (counts_of r.held r.layout_of) c.size-words.ensures a.stage.k (length a.work.now) (omega (arith, q.within)) q.room in
    let long = length-take-le n a.work.now fits in
    let free = take c.put_starts-n.result c.put_starts-n.new.frees in
    let part = latches-part a.plan.now (length a.base.now) t.base-room in
    let shape : Shape = record { vars = length a.base.now; rows = c.rows_of-rows.result } in
    let old = drop n a.work.now in
    ends_as C a.stage.b P a.plan.now t.fit a.stage.share a.stage.first a.stage.k t.large q.none (length (take n a.work.now)) (long ∙ ap (λ (i : ℕ). 16 * i) z) c.begin_table.new.w
    c.begin_table.new.table c.begin_table.result c.begin_table.ensures
    (granted c.begin_table.result (not_from_true _ c.if-not-begin_table.false)) shape t.base-room c.rows_of-rows.ensures.0 free c.put_starts-n.new.base (take n (c.begin_table.new.w ++ old))
    (c.put_starts-n.ensures.free ∙ ap (frees_of C) part) (c.put_starts-n.ensures.start ∙ ap (base_of C) part) (take_at c.begin_table.new.w old n (c.begin_table.auto.w ∙ long))
    c.run_frames.new.w c.run_frames.new.table c.run_frames.new.bits c.run_frames.result c.run_frames.ensures c.in-Clear.is

returns-5 : tie.Need-returns-in-GaveUp
returns-5 c =
    let a = c.args in
    let C = circuit_in a.m.now in
    let r = c.requires.0.1 in
    let q = c.requires.1.0 in
    let t = c.requires.1.1 in
    let P = proper r in
    let z = c.size-words.ensures ∙ size_is (counts_of r.held r.layout_of) a.stage.first in
    let n = 16 * c.size-words.result in
    let fits : n ≤ length a.work.now =
    size_fits (counts_of r.held r.layout_of) c.size-words.ensures a.stage.k (length a.work.now) (omega (arith, q.within)) q.room in
    let long = length-take-le n a.work.now fits in
    let free = take c.put_starts-n.result c.put_starts-n.new.frees in
    let part = latches-part a.plan.now (length a.base.now) t.base-room in
    let shape : Shape = record { vars = length a.base.now; rows = c.rows_of-rows.result } in
    let old = drop n a.work.now in
    ends_as C a.stage.b P a.plan.now t.fit a.stage.share a.stage.first a.stage.k t.large q.none (length (take n a.work.now)) (long ∙ ap (λ (i : ℕ). 16 * i) z) c.begin_table.new.w
    c.begin_table.new.table c.begin_table.result c.begin_table.ensures
    (granted c.begin_table.result (not_from_true _ c.if-not-begin_table.false)) shape t.base-room c.rows_of-rows.ensures.0 free c.put_starts-n.new.base (take n (c.begin_table.new.w ++ old))
    (c.put_starts-n.ensures.free ∙ ap (frees_of C) part) (c.put_starts-n.ensures.start ∙ ap (base_of C) part) (take_at c.begin_table.new.w old n (c.begin_table.auto.w ∙ long))
    c.run_frames.new.w c.run_frames.new.table c.run_frames.new.bits c.run_frames.result c.run_frames.ensures c.in-GaveUp.is

pub try_plan_spec : {M : Type 1} → statement M
try_plan_spec =
    tie.close
    (tie.spec (λ c. search rules) rows-of-requires size-requires mul_words slice-relend-prefix-begin-table slice-aggregate-begin-table (λ c. search rules) begin-table-requires (λ c. search rules) returns (λ c. search rules) (λ c. search rules) (λ c. search rules) (λ c. search rules) put-starts-requires slice-relend-prefix-run-frames slice-aggregate-run-frames (λ c. search rules) array-share-prefix-frees slice-aggregate-run-frames-3 run-frames-requires (λ c. search rules) add-count mul-count add-count-2 (λ c. search rules) array-share-prefix-frees-2 slice-aggregate-put-hit-2 put-hit-requires (λ c. search rules) (λ c. search rules) (λ c. search rules) same-length-2 (λ c. search rules) same-length-4 returns-2 (λ c. search rules) (λ c. search rules) (λ c. search rules) returns-3 (λ c. search rules) (λ c. search rules) (λ c. search rules) returns-4 (λ c. search rules) (λ c. search rules) (λ c. search rules) returns-5)
