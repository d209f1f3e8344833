-- `reachable::meet_starts` meets its contract. Assumes nothing.
use mathlib.Core.Path.{◌≡◌, sym, ◌∙◌, subst}
use mathlib.Core.List.{List}
use Prim.Native.Nat.{ℕ, ◌≤◌}
use native.Mathlib.Omega.{arith}
use lib.ListN.{length, take, replicate, length-replicate}
use lib.Seq.{length-take-le}
use Rattle.machine.specs.Layers.{started}
use Rattle.influence.specs.Part.{part_in}
use Rattle.states.specs.Table.{count_of}
use Rattle.states.specs.Trace.{Holds}
use Rattle.transitions.specs.Transitions.{machine_of}
use Rattle.reachable.proofs.Quotas.{width_few}
use borrow.Author.Rules.{rules}
use Rattle.reachable.proofs.meet_starts.Statement.{statement}
use Rattle.reachable.proofs.meet_starts.Tie as tie

power-requires : tie.Need-power-count-requires
power-requires c κs = c.requires.1.1.0

-- a state has 32 words at most
narrow : (c : tie.Start) → c.args.table.width ≤ 32
narrow c =
    omega (arith, c.requires.1.1.5, width_few (part_in c.args.m.now c.args.kept.now) c.requires.1.1.3)

array-borrow-prefix-s : tie.Need-slice_bounds-s-end
array-borrow-prefix-s c = omega (arith, narrow c.before.before.before.before.before.before.before)

-- the words of a state
scratch : (w : ℕ) → w ≤ 32 → length (take w (replicate {A = ℕ} 32 0)) ≡ w
scratch w l = length-take-le w (replicate {A = ℕ} 32 0) (omega (arith, length-replicate {A = ℕ} 32 0))

slice-aggregate-meet-starts : tie.Need-slice_bounds-meet_starts-end
slice-aggregate-meet-starts c = sym (scratch c.args.table.width
    (narrow c.before.before.before.before.before.before.before.before))

meet-starts-requires : tie.Need-meet_starts-requires
meet-starts-requires c κs =
    let P = c.requires.1.1 in (
      c.requires.0,
      (
        c.requires.1.0,
        (
          P.0,
          c.power-count.ensures.1,
          P.1,
          P.4,
          P.2,
          record {
            enough = omega (arith, P.5);
            fewest = omega (arith, P.5);
            most = narrow c.before.before.before.before.before.before.before.before;
            each = omega (arith, P.3, P.4);
          },
          scratch c.args.table.width (narrow c.before.before.before.before.before.before.before.before),
        ),
      ),
    )

same_length : tie.Need-shape_of-records
same_length c = c.meet_starts.auto.records

same-length-2 : tie.Need-shape_of-state
same-length-2 c = c.meet_starts.auto.state

returns : tie.Need-returns
returns c =
    let a = c.args in (
      λ rows b h.
          subst
          (λ (n : ℕ). Holds rows 0 0 a.table a.quota (count_of a.quota c.meet_starts.result) c.meet_starts.new.records
          (started (machine_of (part_in a.m.now a.kept.now) b) n)) c.power-count.ensures.0 (c.meet_starts.ensures.0 rows b h),
      c.meet_starts.ensures.1,
    )

pub meet_starts_spec : {M : Type 1} → statement M
meet_starts_spec =
    tie.close
    (tie.spec power-requires array-borrow-prefix-s slice-aggregate-meet-starts meet-starts-requires same_length same-length-2 returns)
