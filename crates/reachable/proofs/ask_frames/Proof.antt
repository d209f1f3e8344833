-- `reachable::ask_frames` meets its contract. The loop's invariant: the table holds the layer of frame t, and frames t to k are left.
-- Assumes nothing.
use mathlib.Core.Path.{◌≡◌, refl, sym, ap, ◌∙◌, subst}
use mathlib.Core.List.{[]}
use Prim.Native.Nat.{ℕ, ◌+◌, ◌-◌, ◌*◌, ◌/◌, ◌^◌, ◌≤◌, ◌<◌, max}
use native.Mathlib.Omega.{arith}
use lib.ListN.{length}
use Rattle.influence.specs.Part.{Part, part_in}
use Rattle.frames.proofs.Places.{inputs_are}
use Rattle.frames.proofs.Facts.{ready_with}
use Rattle.machine.specs.Layers.{started}
use Rattle.layers.specs.Rows.{Fitting}
use Rattle.states.specs.declared.Table.{Table}
use Rattle.states.specs.Table.{Tally, count_of, TallyFits}
use Rattle.states.specs.Trace.{Holds}
use Rattle.states.proofs.Laws.{holds-none, holds_fits}
use Rattle.transitions.specs.Transitions.{machine_of}
use Rattle.reachable.specs.Quota.{width, quota}
use Rattle.reachable.proofs.Quotas.{size_mono, quota-mono, quota-room, quota-few, quota-small, width_few}
use Rattle.reachable.proofs.Steps.{
  Standing,
  Asking,
  standing-start,
  started-full,
  standing-end,
  standing-regrown,
  standing-holds,
  case-hit,
  case-lost,
  case-last,
  met-few,
  case-more,
}
use borrow.Author.Rules.{rules}
use Rattle.reachable.proofs.ask_frames.Statement.{statement}
use Rattle.reachable.proofs.ask_frames.Tie as tie

abbrev invariant-loop : tie.invariant-loop-t
invariant-loop m order records₀ kept values₀ state₀ layout stage b k begun table₀ starts lo₀ hi₀ t₀ records values state table lo hi t =
    (t ≤ k + 1) × (lo ≤ hi) × (hi ≤ quota (part_in m kept) stage.first stage.limit t) × (length records ≡ length records₀)
    × (length values ≡ length values₀) × (length state ≡ length state₀)
    × Standing (part_in m kept) b stage.first stage.limit k t lo hi table records

abbrev decreases-loop : tie.decreases-loop-t
decreases-loop m order records₀ kept values₀ state₀ layout stage b k begun table₀ starts lo₀ hi₀ t₀ records values state table lo hi t = k + 1 - t

-- ---- places
abbrev Start : Type 0
Start = tie.Start invariant-loop decreases-loop

abbrev part : tie.Start invariant-loop decreases-loop → Part
part e = part_in e.args.m.now e.args.kept.now

abbrev rows : tie.Start invariant-loop decreases-loop → ℕ
rows e = 2 ^ length (part e).circuit.inputs

-- how many states there may be by a frame
abbrev most-by : tie.Start invariant-loop decreases-loop → ℕ → ℕ
most-by e t = quota (part e) e.args.q.stage.first e.args.q.stage.limit t

-- a quota has its records in the memory
module _ (e : tie.Start invariant-loop decreases-loop) (t : ℕ) (l : t ≤ e.args.q.stage.k) where
  size_in : (width (part e) + 4) * most-by e t ≤ length e.args.records.now
  size_in =
      let f = e.requires.1.0.fits in
      let s = e.args.q.stage in
      omega (
        arith,
        f.words,
        quota-room (part e) s.first s.limit t,
        size_mono (part e) (max t s.first) s.k (omega (arith, f.known)),
      )

  size_few : most-by e t ≤ 262144
  size_few =
      let f = e.requires.1.0.fits in
      let s = e.args.q.stage in
      omega (
        arith,
        f.units,
        quota-few (part e) s.first s.limit t,
        size_mono (part e) (max t s.first) s.k (omega (arith, f.known)),
      )

-- the first table
abbrev first-table : (c : tie.After-width invariant-loop decreases-loop) → Table
first-table c = record { width = c.width.result; buckets = c.quota-begun.result }

first-room : (c : tie.After-width invariant-loop decreases-loop) → (c.width.result + 4) * c.quota-begun.result ≤ length c.args.records.now
first-room c =
    subst (λ (w : ℕ). (w + 4) * c.quota-begun.result ≤ length c.args.records.now) (sym c.width.ensures)
    (subst (λ (q : ℕ). (width (part c.before.before.before.before.before.before.before.before.before.before) + 4) * q ≤
    length c.args.records.now) (sym c.quota-begun.ensures)
    (size_in c.before.before.before.before.before.before.before.before.before.before 0 (omega arith)))

first-few : (c : tie.After-width invariant-loop decreases-loop) → c.quota-begun.result ≤ 262144
first-few c = omega (
  arith,
  c.quota-begun.ensures,
  size_few c.before.before.before.before.before.before.before.before.before.before 0 (omega arith),
)

-- the table before the start states are met, and after
empty : (c : tie.After-fill invariant-loop decreases-loop)
    → Holds (rows c.before.before.before.before.before.before.before.before.before.before.before.before) 0 0 (first-table
    c.before.before) c.quota-begun.result 0 c.fill.new.records []
empty c =
    holds-none (rows c.before.before.before.before.before.before.before.before.before.before.before.before) c.quota-begun.result (first-table c.before.before) c.args.records.now c.fill.new.records
    (omega (arith, c.fill.auto.records, first-room c.before.before)) (omega (arith, first-few c.before.before)) c.fill.ensures

holds-started : (c : tie.After-meet_starts invariant-loop decreases-loop)
    → let q = c.quota-begun.result in
    Holds (rows c.before.before.before.before.before.before.before.before.before.before.before.before.before.before.before.before.before) 0 0 (first-table c.before.before.before.before.before.before.before) q (count_of q c.meet_starts.result) c.meet_starts.new.records
    (started (machine_of (part c.before.before.before.before.before.before.before.before.before.before.before.before.before.before.before.before.before) c.args.q.stage.b) (2 ^ c.args.q.layout.u))
holds-started c = c.meet_starts.ensures.0 (rows c.before.before.before.before.before.before.before.before.before.before.before.before.before.before.before.before.before) c.args.q.stage.b (empty c.before.before.before.before.before)

-- lengths before the loop
records-long : (c : tie.After-meet_starts invariant-loop decreases-loop)
    → length c.meet_starts.new.records ≡ length c.args.records.now
records-long c = c.meet_starts.auto.records ∙ c.fill.auto.records

within : (c : tie.In-loop-t invariant-loop decreases-loop) → c.loop-t.t ≤ c.args.q.stage.k
within c = omega (arith, c.loop-t-test.true)

-- the records of the frame's quota are in the memory
frame-room : (c : tie.After-quota-most invariant-loop decreases-loop)
    → (c.loop-t.table.width + 4) * c.quota-most.result ≤ length c.loop-t.records
frame-room c =
    let a = size_in c.before.before.before.before.before.before.before.before.before.before.before.before.before.before.before.before.before.before.before.before.before.before.before.before.before c.loop-t.t (within c.before) in
    subst (λ (w : ℕ). (w + 4) * c.quota-most.result ≤ length c.loop-t.records) (sym c.loop-t.invariant.6.wide)
    (subst (λ (q : ℕ). (width (part c.before.before.before.before.before.before.before.before.before.before.before.before.before.before.before.before.before.before.before.before.before.before.before.before.before) + 4) * q ≤
    length c.loop-t.records) (sym c.quota-most.ensures)
    (omega (arith, a, c.loop-t.invariant.3, records-long c.before.before.before.before.before.before.before.before)))

frame-few : (c : tie.After-quota-most invariant-loop decreases-loop) → c.quota-most.result ≤ 262144
frame-few c = omega (
  arith,
  c.quota-most.ensures,
  size_few c.before.before.before.before.before.before.before.before.before.before.before.before.before.before.before.before.before.before.before.before.before.before.before.before.before c.loop-t.t (within c.before),
)

frame-high : (c : tie.After-quota-most invariant-loop decreases-loop) → c.loop-t.hi ≤ c.quota-most.result
frame-high c = omega (arith, c.quota-most.ensures, c.loop-t.invariant.2)

-- the table before a layer is asked
asking : (c : tie.After-regrow-table invariant-loop decreases-loop)
    → let s = c.args.q.stage in
    Asking (part c.before.before.before.before.before.before.before.before.before.before.before.before.before.before.before.before.before.before.before.before.before.before.before.before.before.before.before) s.b s.first s.limit s.k c.loop-t.t c.loop-t.lo c.loop-t.hi
    c.quota-most.result c.regrow-table.result c.regrow-table.new.records
asking c =
    let s = c.args.q.stage in
    let stands = standing-regrown (part c.before.before.before.before.before.before.before.before.before.before.before.before.before.before.before.before.before.before.before.before.before.before.before.before.before.before.before) s.b s.first s.limit s.k c.regrow-table.auto.records c.regrow-table.ensures c.loop-t.invariant.6 in
    let e : c.regrow-table.result.width ≡ c.loop-t.table.width = stands.wide ∙ sym c.loop-t.invariant.6.wide in
    record {
      standing = stands;
      within = within c.before.before.before;
      room = subst (λ (w : ℕ). (w + 4) * c.quota-most.result ≤ length c.regrow-table.new.records) (sym e)
          (omega (arith, c.regrow-table.auto.records, frame-room c.before.before));
      few = frame-few c.before.before;
      high = frame-high c.before.before;
      is-quota = c.quota-most.ensures;
    }

-- the latches are as many as the words of a state hold
fitting : (kept w room : ℕ) → w ≡ (kept + 31) / 32 → kept ≤ 1024 → 1024 ≤ room → Fitting kept w room
fitting kept w room e l r = record { enough = omega arith; fewest = omega arith; most = omega arith; each = omega arith }

-- the lengths after a layer is asked
same-records : (c : tie.After-ask_layer invariant-loop decreases-loop)
    → length c.ask_layer.new.records ≡ length c.args.records.now
same-records c =
    c.ask_layer.auto.records ∙ c.regrow-table.auto.records ∙ c.loop-t.invariant.3 ∙ records-long c.before.before.before.before.before.before.before.before.before.before.before.before.before.before.before.before

same-values : (c : tie.After-ask_layer invariant-loop decreases-loop)
    → length c.ask_layer.new.values ≡ length c.args.values.now
same-values c = c.ask_layer.auto.values ∙ c.loop-t.invariant.4

same-state : (c : tie.After-ask_layer invariant-loop decreases-loop)
    → length c.ask_layer.new.state ≡ length c.args.state.now
same-state c =
    c.ask_layer.auto.state ∙ c.loop-t.invariant.5
    ∙ c.meet_starts.auto.state

-- ---- needs
quota-requires : tie.Need-quota-begun-requires invariant-loop decreases-loop
quota-requires c κs =
    let f = c.requires.1.0.fits in (
      c.requires.0.held,
      (
        c.requires.0.layout_of,
        (
          omega arith,
          omega (
            arith,
            f.known,
            f.bound,
          ),
          f.moderate,
          c.requires.1.0.few,
        ),
      ),
    )

width-requires : tie.Need-width-requires invariant-loop decreases-loop
width-requires c κs = c.requires.1.0.few

fill-requires : tie.Need-fill-requires invariant-loop decreases-loop
fill-requires c κs = (
  record {
    some = omega (
      arith,
      c.quota-begun.ensures,
      c.requires.1.0.some,
    );
    few = omega (arith, first-few c.before);
    heads = first-room c.before;
  },
  (omega arith, omega arith),
)

meet-starts-requires : tie.Need-meet_starts-requires invariant-loop decreases-loop
meet-starts-requires c κs =
    let R = c.requires.0 in
    let A = c.requires.1.0 in
    let s = c.args.q.stage in
    let q = quota-small (part c.before.before.before.before.before.before.before.before.before.before.before.before.before.before.before.before) s.first s.limit 0 A.some in (
      R.held,
      (
        R.layout_of,
        (
          omega (arith, q.1, R.layout_of.u-is),
          holds_fits (empty c.before.before.before.before),
          A.closed.listed,
          A.few,
          c.requires.1.1,
          c.width.ensures,
        ),
      ),
    )

same_length : tie.Need-shape_of-records-in_default invariant-loop decreases-loop
same_length c = records-long c.before.before.before.before.before

same-length-2 : tie.Need-shape_of-state-in_default invariant-loop decreases-loop
same-length-2 c = c.meet_starts.auto.state

returns : tie.Need-returns-in_default invariant-loop decreases-loop
returns c =
    let a = c.args in
    let s = a.q.stage in
    let q = c.quota-begun.result in
    started-full (part c.before.before.before.before.before.before.before.before.before.before.before.before.before.before.before.before.before.before.before.before.before.before) s.b s.first s.limit s.k (2 ^ a.q.layout.u)
    (q + 1) q (first-table c.before.before.before.before.before.before.before.before.before.before.before.before)
    c.meet_starts.new.records c.quota-begun.ensures (omega arith) (ap (λ (x : ℕ). 2 ^ x) c.requires.0.layout_of.u-is)
    (subst
    (λ (t : Tally). Holds (rows c.before.before.before.before.before.before.before.before.before.before.before.before.before.before.before.before.before.before.before.before.before.before) 0 0 (first-table c.before.before.before.before.before.before.before.before.before.before.before.before) q (count_of q t) c.meet_starts.new.records
    (started (machine_of (part c.before.before.before.before.before.before.before.before.before.before.before.before.before.before.before.before.before.before.before.before.before.before) s.b) (2 ^ a.q.layout.u))) c.in_default.is (holds-started c.before.before.before.before.before))

loop-holds : tie.Need-loop-t-init invariant-loop decreases-loop
loop-holds c =
    let a = c.args in
    let s = a.q.stage in
    let q = c.quota-begun.result in
    let told = c.in-Some.is in
    let n = c.in-Some.starts in
    let few-starts : n ≤ q = subst (TallyFits q) told c.meet_starts.ensures.1 in (
      omega arith,
      omega arith,
      omega (
        arith,
        few-starts,
        c.quota-begun.ensures,
      ),
      refl,
      refl,
      refl,
      standing-start (part c.before.before.before.before.before.before.before.before.before.before.before.before.before.before.before.before.before.before.before.before.before.before) s.b s.first s.limit s.k (2 ^
          a.q.layout.u) n q (first-table c.before.before.before.before.before.before.before.before.before.before.before.before)
          c.meet_starts.new.records c.width.ensures c.quota-begun.ensures few-starts
          (ap (λ (x : ℕ). 2 ^ x) c.requires.0.layout_of.u-is)
          (subst
          (λ (t : Tally). Holds (rows c.before.before.before.before.before.before.before.before.before.before.before.before.before.before.before.before.before.before.before.before.before.before) 0 0 (first-table c.before.before.before.before.before.before.before.before.before.before.before.before) q (count_of q t) c.meet_starts.new.records
          (started (machine_of (part c.before.before.before.before.before.before.before.before.before.before.before.before.before.before.before.before.before.before.before.before.before.before) s.b) (2 ^ a.q.layout.u))) told (holds-started c.before.before.before.before.before)),
    )

quota-requires-2 : tie.Need-quota-most-requires invariant-loop decreases-loop
quota-requires-2 c κs =
    let f = c.requires.1.0.fits in (
      c.requires.0.held,
      (
        c.requires.0.layout_of,
        (
          omega (arith, within (c), f.bound),
          omega (arith, f.known, f.bound),
          f.moderate,
          c.requires.1.0.few,
        ),
      ),
    )

regrow-requires : tie.Need-regrow-table-requires invariant-loop decreases-loop
regrow-requires c κs = (
  (c.loop-t.invariant.6.holds.stored (omega arith)).buckets,
  frame-high c.before,
  frame-room c.before,
  omega (arith, frame-few c.before),
)

ask-layer-requires : tie.Need-ask_layer-requires invariant-loop decreases-loop
ask-layer-requires c κs =
    let R = c.requires.0 in
    let A = c.requires.1.0 in
    let s = c.args.q.stage in
    let k = asking c.before.before.before.before.before in
    let q = quota-small (part c.before.before.before.before.before.before.before.before.before.before.before.before.before.before.before.before.before.before.before.before.before.before.before.before.before.before.before.before.before.before.before.before) s.first s.limit 0 A.some in (
      ready_with R (omega (arith, c.loop-t.invariant.4, R.room)),
      (
        (
          A.fits.bad,
          fitting (length c.args.kept.now) c.regrow-table.result.width
              (length c.loop-t.state) k.standing.wide A.few
              (omega (
                arith,
                c.loop-t.invariant.5,
                c.meet_starts.auto.state,
                c.requires.1.1,
              )),
          omega (arith, q.0, inputs_are R.held R.layout_of),
          A.closed,
        ),
        (
          c.loop-t.invariant.1,
          k.high,
          k.few,
          holds_fits (standing-holds (part c.before.before.before.before.before.before.before.before.before.before.before.before.before.before.before.before.before.before.before.before.before.before.before.before.before.before.before.before.before.before.before.before) s.b s.first s.limit s.k k),
        ),
      ),
    )

same-length-3 : tie.Need-shape_of-records-in-Hit invariant-loop decreases-loop
same-length-3 c = same-records c.before.before.before.before.before.before.before

same-length-4 : tie.Need-shape_of-values-in-Hit invariant-loop decreases-loop
same-length-4 c = same-values c.before.before.before.before.before.before.before

same-length-5 : tie.Need-shape_of-state-in-Hit invariant-loop decreases-loop
same-length-5 c = same-state c.before.before.before.before.before.before.before

returns-2 : tie.Need-returns-in-Hit invariant-loop decreases-loop
returns-2 c =
    let s = c.args.q.stage in
    case-hit (part c.before.before.before.before.before.before.before.before.before.before.before.before.before.before.before.before.before.before.before.before.before.before.before.before.before.before.before.before.before.before.before.before.before.before.before.before.before.before.before.before) s.b s.first
    s.limit s.k (asking c.before.before.before.before.before.before.before.before.before.before.before.before.before) c.ask_layer.new.records c.ask_layer.ensures
    c.ask_layer.auto.records (quota-small (part c.before.before.before.before.before.before.before.before.before.before.before.before.before.before.before.before.before.before.before.before.before.before.before.before.before.before.before.before.before.before.before.before.before.before.before.before.before.before.before.before) s.first s.limit 0 c.requires.1.0.some).0 c.in-Hit.is

add-t43 : tie.Need-overflow_add-result invariant-loop decreases-loop
add-t43 c = omega (
  arith,
  within c.before.before.before.before.before.before.before.before.before.before.before.before.before.before.before.before,
  c.requires.1.0.fits.bound,
)

same-length-6 : tie.Need-shape_of-records-in-Full invariant-loop decreases-loop
same-length-6 c = same-records c.before.before.before.before.before.before.before

same-length-7 : tie.Need-shape_of-values-in-Full invariant-loop decreases-loop
same-length-7 c = same-values c.before.before.before.before.before.before.before

same-length-8 : tie.Need-shape_of-state-in-Full invariant-loop decreases-loop
same-length-8 c = same-state c.before.before.before.before.before.before.before

returns-3 : tie.Need-returns-in-Full invariant-loop decreases-loop
returns-3 c =
    let s = c.args.q.stage in
    case-lost (part c.before.before.before.before.before.before.before.before.before.before.before.before.before.before.before.before.before.before.before.before.before.before.before.before.before.before.before.before.before.before.before.before.before.before.before.before.before.before.before.before) s.b s.first s.limit s.k (asking c.before.before.before.before.before.before.before.before.before.before.before.before.before) c.ask_layer.new.records c.ask_layer.ensures
    c.in-Full.is

same-length-9 : tie.Need-shape_of-records-then-met-hi invariant-loop decreases-loop
same-length-9 c = same-records c.before.before.before.before.before.before.before.before

same-length-10 : tie.Need-shape_of-values-then-met-hi invariant-loop decreases-loop
same-length-10 c = same-values c.before.before.before.before.before.before.before.before

same-length-11 : tie.Need-shape_of-state-then-met-hi invariant-loop decreases-loop
same-length-11 c = same-state c.before.before.before.before.before.before.before.before

returns-4 : tie.Need-returns-then-met-hi invariant-loop decreases-loop
returns-4 c =
    let s = c.args.q.stage in
    case-last (part c.before.before.before.before.before.before.before.before.before.before.before.before.before.before.before.before.before.before.before.before.before.before.before.before.before.before.before.before.before.before.before.before.before.before.before.before.before.before.before.before.before) s.b s.first s.limit s.k (asking c.before.before.before.before.before.before.before.before.before.before.before.before.before.before) c.ask_layer.new.records c.ask_layer.ensures
    c.in-Next.is c.if-met-hi.true

add-t : tie.Need-overflow_add-t invariant-loop decreases-loop
add-t c = omega (
  arith,
  within c.before.before.before.before.before.before.before.before.before.before.before.before.before.before.before.before.before,
  c.requires.1.0.fits.bound,
)

loop-less : tie.Need-loop-t-smaller invariant-loop decreases-loop
loop-less c = omega (
  arith,
  within c.before.before.before.before.before.before.before.before.before.before.before.before.before.before.before.before.before,
)

loop-again : tie.Need-loop-t-preserved invariant-loop decreases-loop
loop-again c =
    let s = c.args.q.stage in
    let k = asking c.before.before.before.before.before.before.before.before.before.before.before.before.before.before in
    let told = c.in-Next.is in
    let next = case-more (part c.before.before.before.before.before.before.before.before.before.before.before.before.before.before.before.before.before.before.before.before.before.before.before.before.before.before.before.before.before.before.before.before.before.before.before.before.before.before.before.before.before) s.b s.first s.limit s.k k c.ask_layer.new.records c.ask_layer.ensures told c.if-met-hi.false in (
      omega (
        arith,
        within c.before.before.before.before.before.before.before.before.before.before.before.before.before.before.before.before.before,
      ),
      next.low,
      omega (
        arith,
        met-few (part c.before.before.before.before.before.before.before.before.before.before.before.before.before.before.before.before.before.before.before.before.before.before.before.before.before.before.before.before.before.before.before.before.before.before.before.before.before.before.before.before.before) s.b
            s.first s.limit s.k k c.ask_layer.new.records c.ask_layer.ensures told,
        c.quota-most.ensures,
        quota-mono (part c.before.before.before.before.before.before.before.before.before.before.before.before.before.before.before.before.before.before.before.before.before.before.before.before.before.before.before.before.before.before.before.before.before.before.before.before.before.before.before.before.before)
            s.first s.limit c.loop-t.t (c.loop-t.t + 1) (omega arith),
      ),
      c.ask_layer.auto.records ∙ c.regrow-table.auto.records ∙ c.loop-t.invariant.3,
      c.ask_layer.auto.values ∙ c.loop-t.invariant.4,
      c.ask_layer.auto.state ∙ c.loop-t.invariant.5,
      next,
    )

same-length-12 : tie.Need-shape_of-records invariant-loop decreases-loop
same-length-12 c = c.loop-t.invariant.3 ∙ records-long c.before.before.before.before.before.before.before

same-length-13 : tie.Need-shape_of-values invariant-loop decreases-loop
same-length-13 c = c.loop-t.invariant.4

same-length-14 : tie.Need-shape_of-state invariant-loop decreases-loop
same-length-14 c = c.loop-t.invariant.5 ∙ c.meet_starts.auto.state

returns-5 : tie.Need-returns invariant-loop decreases-loop
returns-5 c =
    let s = c.args.q.stage in
    standing-end (part c.before.before.before.before.before.before.before.before.before.before.before.before.before.before.before.before.before.before.before.before.before.before.before.before) s.b s.first s.limit s.k
    c.loop-t.t c.loop-t.lo c.loop-t.hi c.loop-t.table c.loop-t.records c.loop-t.invariant.6
    (omega (arith, c.loop-t-test.false))

pub ask_frames_spec : {M : Type 1} → statement M
ask_frames_spec =
    tie.close
    (tie.spec invariant-loop decreases-loop quota-requires width-requires fill-requires meet-starts-requires (λ c. search rules) (λ c. search rules) same_length same-length-2 returns loop-holds quota-requires-2 regrow-requires ask-layer-requires (λ c. search rules) same-length-3 same-length-4 same-length-5 returns-2 (λ c. search rules) add-t43 same-length-6 same-length-7 same-length-8 returns-3 (λ c. search rules) same-length-9 same-length-10 same-length-11 returns-4 add-t loop-less loop-again same-length-12 same-length-13 same-length-14 returns-5)
