-- `reachable::search_part` meets its contract. Assumes nothing.
use mathlib.Core.Path.{◌≡◌, sym, ◌∙◌, subst}
use Prim.Native.Nat.{ℕ, ◌+◌, ◌*◌, ◌^◌, ◌≤◌, ◌<◌}
use native.Mathlib.Omega.{arith}
use lib.ListN.{length}
use Rattle.states.specs.Trace.{Trace}
use Rattle.influence.specs.Part.{part_in}
use Rattle.frames.proofs.Places.{inputs_are}
use Rattle.reachable.specs.Layers.{LayersOf}
use Rattle.reachable.proofs.Quotas.{quota-small}
use Rattle.reachable.proofs.Frames.{rest-none}
use Rattle.reachable.proofs.Ends.{Place, place_of, none_of, ended_of, left-of, asks, asks-trace, gives-bits}
use borrow.Author.Rules.{rules}
use Rattle.reachable.proofs.search_part.Statement.{statement}
use Rattle.reachable.proofs.search_part.Tie as tie

quota-requires : tie.Need-quota-requires
quota-requires c κs =
    let f = c.requires.1.0 in (
      c.requires.0.held,
      (
        c.requires.0.layout_of,
        (
          omega arith,
          omega (
            arith,
            f.known,
            f.bound,
          ),
          f.moderate,
          c.requires.1.2,
        ),
      ),
    )

returns : tie.Need-returns-then-quota-eq0
unfolding LayersOf
returns c =
    let a = c.args in
    rest-none (part_in a.m.now a.kept.now) a.stage.b a.stage.first a.stage.limit a.stage.k
    (omega (arith, c.quota.ensures, c.if-quota-eq0.true))

find-first-requires : tie.Need-find_first-requires
find-first-requires c κs = (
  c.requires.0,
  record {
    fits = c.requires.1.0;
    some = omega (arith, c.quota.ensures, c.if-quota-eq0.false);
    closed = c.requires.1.1;
    few = c.requires.1.2;
  },
)

width-requires : tie.Need-width-words-requires
width-requires c κs = c.requires.1.2

-- the place of the first hit
place : (c : tie.After-width-words)
    → let a = c.args in
    Place (part_in a.m.now a.kept.now) a.stage.b a.stage.first a.stage.limit a.stage.k
    c.find_first.new.records c.find_first.result c.find_first.ensures
    c.in-At.t c.in-At.e c.in-At.row
place c =
    let a = c.args in
    place_of (part_in a.m.now a.kept.now) a.stage.b a.stage.first a.stage.limit a.stage.k
    c.find_first.new.records c.find_first.result c.find_first.ensures c.in-At.is

put-free-requires : tie.Need-put_free-requires
put-free-requires c κs =
    let a = c.args in
    let C = part_in a.m.now a.kept.now in
    let R = c.requires.0 in
    let f = c.requires.1.0 in
    let w = c.find_first.new.records in
    let P = place c.before in
    let e = c.width-words.ensures in
    let q = quota-small C a.stage.first a.stage.limit 0 (omega (
      arith,
      c.if-quota-eq0.false,
      c.quota.ensures,
    )) in
    let A = asks C a.stage.b a.stage.first a.stage.limit a.stage.k w c.find_first.result c.find_first.ensures P a.layout.i
    a.layout.u (inputs_are R.held R.layout_of) R.layout_of.u-is f.bound (omega (arith, R.layout_of.u-is, q.1))
    (omega (arith, c.find_first.auto.records, f.words)) in
    let T = asks-trace C a.stage.b a.stage.first a.stage.limit a.stage.k w c.find_first.result c.find_first.ensures P a.layout.i
    a.layout.u (inputs_are R.held R.layout_of) R.layout_of.u-is in (
      (
        A.0,
        A.1,
        A.2,
        A.3,
        subst (λ (x : ℕ). (x + 4) * c.in-At.e + (x + 4) ≤ length w) (sym e) A.4,
        A.5,
      ),
      (
        T.0,
        subst (λ (x : ℕ). Trace (2 ^ a.layout.i) x w c.in-At.t c.in-At.e T.0) (sym e) T.1,
      ),
    )

same_length : tie.Need-shape_of-work-in-At
same_length c = c.put_free.auto.work ∙ c.find_first.auto.records

returns-2 : tie.Need-returns-in-At
returns-2 c =
    let a = c.args in
    let R = c.requires.0 in
    let w = c.find_first.new.records in
    let e = c.width-words.ensures in
    gives-bits (part_in a.m.now a.kept.now) a.stage.b a.stage.first a.stage.limit a.stage.k w c.find_first.result
    c.find_first.ensures (place c.before.before.before.before) a.layout.i a.layout.u (inputs_are R.held R.layout_of) R.layout_of.u-is
    c.put_free.new.work
    (λ y h. c.put_free.ensures y (subst (λ (x : ℕ). Trace (2 ^ a.layout.i) x w c.in-At.t c.in-At.e y) (sym e) h))

same-length-2 : tie.Need-shape_of-work-in-Nowhere
same-length-2 c = c.find_first.auto.records

returns-3 : tie.Need-returns-in-Nowhere
returns-3 c =
    let a = c.args in
    none_of (part_in a.m.now a.kept.now) a.stage.b a.stage.first a.stage.limit a.stage.k c.find_first.new.records
    c.find_first.result c.find_first.ensures c.in-Nowhere.is c.find_first.new.records

same-length-3 : tie.Need-shape_of-work-in-Ended
same-length-3 c = c.find_first.auto.records

returns-4 : tie.Need-returns-in-Ended
returns-4 c =
    let a = c.args in
    ended_of (part_in a.m.now a.kept.now) a.stage.b a.stage.first a.stage.limit a.stage.k c.find_first.new.records
    c.find_first.result c.find_first.ensures c.in-Ended.is c.find_first.new.records

same-length-4 : tie.Need-shape_of-work-in-Left
same-length-4 c = c.find_first.auto.records

returns-5 : tie.Need-returns-in-Left
returns-5 c =
    let a = c.args in
    left-of (part_in a.m.now a.kept.now) a.stage.b a.stage.first a.stage.limit a.stage.k c.find_first.new.records
    c.find_first.result c.find_first.ensures c.in-Left.is c.find_first.new.records

pub search_part_spec : {M : Type 1} → statement M
search_part_spec =
    tie.close
    (tie.spec quota-requires returns find-first-requires (λ c. search rules) width-requires put-free-requires (λ c. search rules) (λ c. search rules) (λ c. search rules) same_length returns-2 same-length-2 returns-3 same-length-3 returns-4 same-length-4 returns-5)
