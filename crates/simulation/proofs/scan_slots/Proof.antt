-- `simulation::scan_slots` meets its contract. Assumes nothing.
use mathlib.Core.Path.{◌≡◌, refl, sym, ap, ◌∙◌, subst}
use mathlib.Core.List.{List}
use Prim.Native.Nat.{ℕ, ◌+◌, ◌-◌, ◌*◌, ◌^◌, ◌≤◌, ◌<◌, min}
use native.Mathlib.Omega.{arith}
use lib.Dec.{leb}
use lib.ListN.{length}
use Rattle.nodes.specs.Store.{pairs_of}
use Rattle.support.specs.Counting.{First, rank, spread}
use Rattle.support.specs.Support.{support}
use Rattle.simulation.specs.Store.{Slotted, SlotsOf, Scannable, hit_at}
use Rattle.simulation.proofs.Places.{slotted, slot-leaf}
use Rattle.simulation.proofs.Founds.{
  slots-of,
  total-small,
  started-ready,
  started-values,
  started-hits,
  started_none,
  scanned-first,
  found-hit,
  found-clear,
  found-spent,
  place-bits,
  net-nodes,
}
use borrow.Author.Rules.{rules}
use Rattle.simulation.proofs.scan_slots.Statement.{statement}
use Rattle.simulation.proofs.scan_slots.Tie as tie

tries-requires : tie.Need-tries-total-requires
tries-requires c κs = c.requires.1.1

slice-aggregate-fill-firsts : tie.Need-slice_bounds-fill_firsts-end
slice-aggregate-fill-firsts c = refl

fill-firsts-requires : tie.Need-fill_firsts-requires
fill-firsts-requires c κs = (
  (pairs_of c.args.work.now c.args.g, c.args.root, c.requires.0),
  (omega (arith, c.requires.1.0.held, c.slot_count-count.ensures), omega (arith, c.slot_count-count.ensures)),
)

start-hits-requires : tie.Need-start_hits-hits-requires
start-hits-requires c κs = (
  c.requires.0,
  (slots-of c.slot_count-count.result c.requires.1.0 c.slot_count-count.ensures, omega (arith, c.whole_blocks-start.ensures.1)),
)

slice-aggregate-scan : tie.Need-slice_bounds-scan-end
slice-aggregate-scan c = sym c.fill_firsts.auto.firsts

-- after the first block: the entry, the slots, the number of places that are tried, and what a scan asks
module _ (b : tie.After-start_hits-hits) where
  abbrev S : tie.Start
  S = b.before.before.before.before.before.before.before.before.before.before

  abbrev work : List ℕ
  work = S.args.work.now

  abbrev slots : List ℕ
  slots = S.args.slots.now

  abbrev count : ℕ
  count = b.slot_count-count.result

  abbrev total : ℕ
  total = b.tries-total.result

  abbrev first_block : ℕ
  first_block = b.whole_blocks-start.result

  slots-are : SlotsOf (pairs_of work S.args.g) S.args.root S.args.g slots count
  slots-are = slots-of count S.requires.1.0 b.slot_count-count.ensures

  ready : Scannable work S.args.g S.args.root slots b.fill_firsts.new.firsts count
  ready =
      record { net = S.requires.0; slots-of = slots-are; held = b.fill_firsts.auto.firsts; firsts-of = b.fill_firsts.ensures }

  small : total ≤ 4294967296
  small = omega (arith, b.tries-total.ensures, S.requires.1.1)

  size : (let g = S.args.g in
      total ≡ min (2 ^ rank (support g.free (pairs_of work g) S.args.root) g.free) S.args.d)
  size =
      b.tries-total.ensures
      ∙ ap (λ (x : ℕ). min (2 ^ x) S.args.d) S.requires.1.0.count

scan-requires : tie.Need-scan-y-requires
scan-requires c κs =
    let s = S c.before.before.before.before in (
      (
        count c.before.before.before.before,
        started-ready (ready c.before.before.before.before) c.start_hits-hits.new.work (first_block c.before.before.before.before) c.start_hits-hits.result c.start_hits-hits.auto.work c.start_hits-hits.ensures,
        total-small s.args.r s.args.d (count c.before.before.before.before) (total c.before.before.before.before)
            c.slot_count-count.ensures s.requires.1.1
            c.tries-total.ensures,
      ),
      (
        (omega (arith, c.whole_blocks-start.ensures.1), small c.before.before.before.before),
        (
          started-values (ready c.before.before.before.before) c.start_hits-hits.new.work (first_block c.before.before.before.before) c.start_hits-hits.result c.start_hits-hits.auto.work c.start_hits-hits.ensures,
          (
            started-hits (ready c.before.before.before.before) c.start_hits-hits.new.work (first_block c.before.before.before.before) c.start_hits-hits.result c.start_hits-hits.auto.work c.start_hits-hits.ensures,
            started_none (ready c.before.before.before.before) c.start_hits-hits.new.work (first_block c.before.before.before.before) c.start_hits-hits.result c.start_hits-hits.auto.work c.start_hits-hits.ensures
                (λ y l. s.requires.1.0.none y (omega (arith, c.whole_blocks-start.ensures.0))),
          ),
        ),
      ),
    )

-- after the scan: the words are as many as before, and its answer is the first place that hits
module _ (y : tie.After-scan-y) where
  abbrev B : tie.After-start_hits-hits
  B = y.before.before.before.before.before

  kept : length y.scan-y.new.work ≡ length (work B)
  kept = y.scan-y.auto.work ∙ B.start_hits-hits.auto.work

  first : (let s = S B in
      First (hit_at s.args.g.free (pairs_of (work B) s.args.g) s.args.root) (total B) y.scan-y.result)
  first =
      let b = B.start_hits-hits in
      scanned-first (ready B) b.new.work (first_block B) b.result b.auto.work b.ensures (total B) y.scan-y.result
      y.scan-y.ensures

clear-front-requires : tie.Need-clear_front-requires
clear-front-requires c κs = omega (arith, (S (B c.before.before.before.before)).requires.0.sized, kept c.before.before.before.before)

put-bits-requires : tie.Need-put_bits-requires
put-bits-requires c κs =
    let k = B c.before.before.before.before.before.before.before.before in
    let net = (S k).requires.0 in (
      subst (λ (x : ℕ). Slotted x (slots k) (count k)) (sym (c.clear_front.auto.work ∙ kept c.before.before.before.before.before.before.before.before))
          (slotted net (slots-are k) (count k) (omega arith)),
      λ j h. (slot-leaf net (slots-are k) j h).0,
    )

same_length : tie.Need-shape_of-work-then-y-total
same_length c =
    c.put_bits.auto.work ∙ c.clear_front.auto.work ∙ kept c.before.before.before.before.before.before.before.before.before.before.before

returns : tie.Need-returns-then-y-total
returns c =
    let k = B c.before.before.before.before.before.before.before.before.before.before.before in
    let s = S k in
    let g = s.args.g in
    let gs = pairs_of (work k) g in
    let net = s.requires.0 in
    let l : c.scan-y.result < total k = c.if-y-total.true in (
      spread (support g.free gs s.args.root) g.free c.scan-y.result,
      found-hit g.free gs s.args.root s.args.d net.built (net-nodes net) (size k) (first c.before.before.before.before.before.before.before.before.before.before.before) c.put_bits.new.work l
          (place-bits net (slots-are k) c.clear_front.new.work c.put_bits.new.work c.scan-y.result (omega (arith, small k)) c.clear_front.ensures c.put_bits.ensures),
    )

covers-requires : tie.Need-covers-requires
covers-requires c κs = c.requires.1.1

-- no place that is tried hits: whether these are all
module _ (v : tie.After-covers) where
  abbrev Y : tie.After-scan-y
  Y = v.before.before.before.before

  past : total (B Y) ≤ Y.scan-y.result
  past = omega (arith, v.if-y-total.false)

  covered : (let s = S (B Y) in
      let g = s.args.g in
      leb (2 ^ rank (support g.free (pairs_of (work (B Y)) g) s.args.root) g.free) s.args.d ≡ v.covers.result)
  covered = let s = S (B Y) in ap (λ (x : ℕ). leb (2 ^ x) s.args.d) (sym s.requires.1.0.count) ∙ sym v.covers.ensures

same-length-2 : tie.Need-shape_of-work-then-covers
same-length-2 c = kept c.before.before.before.before.before

returns-2 : tie.Need-returns-then-covers
returns-2 c =
    let k = B (Y c.before) in
    let s = S k in
    let net = s.requires.0 in
    found-clear s.args.g.free (pairs_of (work k) s.args.g) s.args.root s.args.d net.built (net-nodes net) (size k)
    (first (Y c.before)) (past c.before) (covered c.before ∙ c.if-covers.true)

same-length-3 : tie.Need-shape_of-work-else-covers
same-length-3 c = kept c.before.before.before.before.before

returns-3 : tie.Need-returns-else-covers
returns-3 c =
    let k = B (Y c.before) in
    let s = S k in
    let net = s.requires.0 in
    found-spent s.args.g.free (pairs_of (work k) s.args.g) s.args.root s.args.d net.built (net-nodes net) (size k)
    (first (Y c.before)) (past c.before) (covered c.before ∙ c.if-covers.false)

pub scan_slots_spec : {M : Type 1} → statement M
scan_slots_spec =
    tie.close
    (tie.spec tries-requires (λ c κs. tt) (λ c κs. tt) slice-aggregate-fill-firsts fill-firsts-requires start-hits-requires slice-aggregate-scan scan-requires clear-front-requires put-bits-requires same_length returns covers-requires same-length-2 returns-2 same-length-3 returns-3)
