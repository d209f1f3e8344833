use mathlib.Core.Path.{◌≡◌, refl, sym, ap, ◌∙◌, subst}
use Prim.Native.Nat.{ℕ, ◌+◌, ◌-◌, ◌*◌, ◌/◌, ◌%◌, ◌^◌, ◌≤◌, ◌<◌}
use native.Mathlib.Omega.{arith}
use lib.Dec.{T}
use lib.ListN.{length}
use Rattle.aiger.specs.Bits.{bit}
use Rattle.nodes.specs.Store.{pairs_of}
use Rattle.simulation.specs.Store.{Kept, InBlock, hit_at}
use Rattle.simulation.proofs.Nets.{kept-none, kept_trans}
use Rattle.simulation.proofs.Blocks.{none_more}
use Rattle.simulation.proofs.Places.{scannable-kept, advanced-from}
use borrow.Author.Rules.{rules}
use Rattle.simulation.proofs.scan.Statement.{statement}
use Rattle.simulation.proofs.scan.Tie as tie
use Rattle.simulation.proofs.scan.Reads as reads
use Rattle.simulation.proofs.scan.Lts as lts
use Rattle.simulation.proofs.first_in.Reads as first-in-reads
use Rattle.simulation.proofs.next_hits.Reads as next-hits-reads

abbrev invariant-loop : tie.invariant-loop-block
invariant-loop work₀ g root slots firsts total block₀ hits₀ work block hits =
    (block < 67108864) × (length work ≡ length work₀) × Kept work₀ work × InBlock g.free (pairs_of work₀ g) root block work g.nodes
    × ((p : ℕ) → p < 64 → bit hits p ≡ hit_at g.free (pairs_of work₀ g) root (block * 64 + p))
    × ((y : ℕ) → y < 64 * block → T (hit_at g.free (pairs_of work₀ g) root y) → ⊥)

abbrev decreases-loop : tie.decreases-loop-block
decreases-loop work₀ g root slots firsts total block₀ hits₀ work block hits = total - 64 * block

loop-holds : tie.Need-loop-block-init invariant-loop decreases-loop
loop-holds c =
    (c.requires.1.0.0, refl, kept-none c.args.work.now, c.requires.1.1.0, c.requires.1.1.1.0, c.requires.1.1.1.1)

mul-loop : tie.Need-overflow_mul-block invariant-loop decreases-loop
mul-loop c = omega (arith, c.loop-block.invariant.0)

add-loop : tie.Need-overflow_add-block invariant-loop decreases-loop
add-loop c = omega (arith, c.loop-block.invariant.0)

first-in-requires : tie.Need-first_in-requires invariant-loop decreases-loop
first-in-requires c κs = (c.loop-block.invariant.0, c.requires.1.0.1)

same_length : tie.Need-shape_of-work-then-hits-ne0 invariant-loop decreases-loop
same_length c = c.loop-block.invariant.1

returns : tie.Need-returns-then-hits-ne0 invariant-loop decreases-loop
returns c =
    let w = c.args.work.now in
    c.first_in.ensures (hit_at c.args.g.free (pairs_of w c.args.g) c.args.root) c.loop-block.invariant.4 c.loop-block.invariant.5
    (λ e. absurd (omega arith))

next-hits-requires : tie.Need-next_hits-hits-requires invariant-loop decreases-loop
next-hits-requires c κs =
    let q = c.requires.0 in
    ((q.0, scannable-kept q.1 c.loop-block.work c.loop-block.invariant.2 c.loop-block.invariant.1, omega (arith, q.2)), c.loop-block.invariant.0)

add-block : tie.Need-overflow_add-block-in-loop-block invariant-loop decreases-loop
add-block c = omega arith

loop-less : tie.Need-loop-block-smaller invariant-loop decreases-loop
loop-less c = omega arith

loop-again : tie.Need-loop-block-preserved invariant-loop decreases-loop
loop-again c =
    let w = c.args.work.now in
    let g = c.args.g in
    let z : c.loop-block.hits ≡ 0 = omega arith in
    let a = advanced-from c.requires.0.1 c.loop-block.work c.loop-block.invariant.2 c.loop-block.invariant.1 c.next_hits-hits.new.work c.loop-block.block c.next_hits-hits.result c.next_hits-hits.ensures c.loop-block.invariant.3 in (
      omega (arith, c.requires.1.0.1),
      c.next_hits-hits.auto.work ∙ c.loop-block.invariant.1,
      kept_trans w c.loop-block.work c.next_hits-hits.new.work c.loop-block.invariant.2 c.next_hits-hits.ensures.kept,
      a.0,
      a.1,
      none_more (hit_at g.free (pairs_of w g) c.args.root) c.loop-block.block (λ p h. ap (λ (x : ℕ). bit x p) (sym z) ∙ c.loop-block.invariant.4 p h)
          c.loop-block.invariant.5,
    )

first-in-requires-2 : tie.Need-first_in-requires-2 invariant-loop decreases-loop
first-in-requires-2 c κs = (c.loop-block.invariant.0, c.requires.1.0.1)

same-length-2 : tie.Need-shape_of-work invariant-loop decreases-loop
same-length-2 c = c.loop-block.invariant.1

returns-2 : tie.Need-returns invariant-loop decreases-loop
returns-2 c =
    let w = c.args.work.now in
    c.first_in-2.ensures (hit_at c.args.g.free (pairs_of w c.args.g) c.args.root) c.loop-block.invariant.4 c.loop-block.invariant.5 (λ e. omega arith)

pub scan_spec : {M : Type 1} → statement M
scan_spec =
    tie.close
    (tie.spec invariant-loop decreases-loop loop-holds mul-loop add-loop first-in-requires same_length returns next-hits-requires add-block loop-less loop-again first-in-requires-2 same-length-2 returns-2)
