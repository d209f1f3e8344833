-- `frames::eval_gates` meets its contract. Assumes nothing.
use mathlib.Core.Path.{◌≡◌, refl, sym, subst, ◌∙◌}
use mathlib.Core.List.{List}
use Prim.Native.Nat.{ℕ, ◌+◌, ◌-◌, ◌*◌, ◌≤◌, ◌<◌}
use native.Mathlib.Omega.{arith}
use borrow.Author.Rules.{rules}
use lib.ListN.{length, get_or, drop}
use Rattle.aiger.specs.Circuit.{Gate}
use Rattle.layout.specs.Words.{gate_in, circuit_in}
use Rattle.roundtrip.proofs.Lists.{take_rest}
use Rattle.meaning.specs.Frame.{gate_at}
use Rattle.frames.specs.Lanes.{GateRoom, Gated}
use Rattle.frames.proofs.Facts.{right, gate-place, gates-are, gates-few, gates-inside, gate-room, rest-gate, rest-room}
use Rattle.frames.proofs.Gates.{Upto, upto-start, upto-more, upto-end}
use Rattle.frames.proofs.eval_gates.Statement.{statement}
use Rattle.frames.proofs.eval_gates.Tie as tie

-- the table is the part of the memory that begins with the gates
abbrev invariant-loop : tie.invariant-loop-k
invariant-loop m order values₀ count gates table k₀ values k = (k ≤ count) × Upto (circuit_in m) order k values₀ values × (table ≡ drop gates m)

abbrev decreases-loop : tie.decreases-loop-k
decreases-loop m order values₀ count gates table k₀ values k = count - k

-- the entry, before a turn
abbrev first : tie.At-loop-k invariant-loop decreases-loop → tie.Start invariant-loop decreases-loop
first c = c.before.before.before.before.before

-- the gate at place k of the order: it can be evaluated, and then one gate more is
module _ (c : tie.At-loop-k invariant-loop decreases-loop) (k : ℕ) (l : k < (first c).args.layout.a) where
  abbrev m : List ℕ
  m = (first c).args.m.now

  abbrev order : List ℕ
  order = (first c).args.order.now

  abbrev table : List ℕ
  table = drop (first c).args.layout.gates m

  abbrev g : ℕ
  g = get_or order k 0

  named : g < (first c).args.layout.a
  named = omega (arith, gates-are (first c).requires, (first c).requires.ordered.gate k (omega (arith, gates-are (first c).requires)))

  room : (values : List ℕ) → length values ≡ length (first c).args.values.now → GateRoom table (3 * g) (length values)
  room values e =
      rest-room m (first c).args.layout.gates (3 * g) _
      (subst (GateRoom m ((first c).args.layout.gates + 3 * g)) (sym e) (gate-room (first c).requires g named))

  place : gate_in table (3 * g) ≡ gate_at (circuit_in m) g
  place = rest-gate m (first c).args.layout.gates (3 * g) ∙ sym (gate-place (first c).requires g named)

  more : (mid after : List ℕ) → length after ≡ length mid → Upto (circuit_in m) order k (first c).args.values.now mid
      → Gated (gate_in table (3 * g)) mid after → Upto (circuit_in m) order (k + 1) (first c).args.values.now after
  more mid after size u e =
      upto-more (right (first c).requires.held) (first c).requires.ordered k (omega (arith, gates-are (first c).requires)) _ mid after size u
      (subst (λ (y : Gate). Gated y mid after) place e)

mul-table : tie.Need-offset_bounds-m-gates invariant-loop decreases-loop
mul-table c =
    let w = c.shared_slice_known-1.given in
    omega (arith, c.requires.layout_of.gates-is, w 1, w 2, w 3, w 5, w 6)

sub-table : tie.Need-slice_bounds-table-count invariant-loop decreases-loop
sub-table c = omega (arith, gates-inside c.requires)

part-table-start : tie.Need-slice_bounds-table-start invariant-loop decreases-loop
part-table-start c = omega (arith, gates-inside c.requires)

loop-holds : tie.Need-loop-k-init invariant-loop decreases-loop
loop-holds c = (
  omega arith,
  upto-start (circuit_in c.args.m.now) c.args.order.now c.args.values.now,
  take_rest c.args.m.now c.args.layout.gates,
)

add-loop : tie.Need-overflow_add-k invariant-loop decreases-loop
add-loop c = omega (arith, gates-few (first c).requires, c.loop-k.invariant.0)

-- what the gate at place k needs, where the table is as it was and the values are so many
asks : (c : tie.At-loop-k invariant-loop decreases-loop) (k : ℕ) → k < (first c).args.layout.a → (values : List ℕ)
    → length values ≡ length (first c).args.values.now → (t : List ℕ) → t ≡ drop (first c).args.layout.gates (first c).args.m.now
    → ((k < length (first c).args.order.now) × (get_or (first c).args.order.now k 0 < 3072))
    × GateRoom t (3 * get_or (first c).args.order.now k 0) (length values)
asks c k l values e t z = (
  (omega (arith, gates-few (first c).requires, (first c).requires.ranks), omega (arith, named c k l, gates-few (first c).requires)),
  subst (λ (u : List ℕ). GateRoom u (3 * get_or (first c).args.order.now k 0) (length values)) (sym z) (room c k l values e),
)

eval-place-requires : tie.Need-eval_place-requires invariant-loop decreases-loop
eval-place-requires c κs =
    asks c.before.before c.loop-k.k (omega (arith, c.loop-k-test.true)) c.loop-k.values c.loop-k.invariant.1.size _ c.loop-k.invariant.2

-- after the first gate of a turn
module _ (e : tie.After-eval_place invariant-loop decreases-loop) where
  abbrev A : tie.At-loop-k invariant-loop decreases-loop
  A = e.before.before.before

  abbrev now : List ℕ
  now = e.eval_place.new.values

  low : A.loop-k.k + 1 < (first A).args.layout.a
  low = e.loop-k-test.true

  one : Upto (circuit_in (first A).args.m.now) (first A).args.order.now (A.loop-k.k + 1) (first A).args.values.now now
  one =
      more A A.loop-k.k (omega (arith, low)) A.loop-k.values now e.eval_place.auto.values A.loop-k.invariant.1
      (subst (λ (t : List ℕ). Gated (gate_in t (3 * get_or (first A).args.order.now A.loop-k.k 0)) A.loop-k.values now) A.loop-k.invariant.2 e.eval_place.ensures)

eval-place-requires-2 : tie.Need-eval_place-requires-in-loop-k invariant-loop decreases-loop
eval-place-requires-2 c κs =
    asks (A c.before.before.before) ((A c.before.before.before).loop-k.k + 1) (low c.before.before.before) (now c.before.before.before) (one c.before.before.before).size _ (A c.before.before.before).loop-k.invariant.2

loop-again : tie.Need-loop-k-preserved invariant-loop decreases-loop
loop-again c =
    let a = A c.before.before.before.before.before.before in
    let after = c.eval_place-in-loop-k.new.values in
    let l : a.loop-k.k + 1 + 1 ≡ a.loop-k.k + 2 = omega arith in (
      omega (arith, low c.before.before.before.before.before.before),
      subst (λ (k : ℕ). Upto (circuit_in (first a).args.m.now) (first a).args.order.now k (first a).args.values.now after) l
          (more a (a.loop-k.k + 1) (low c.before.before.before.before.before.before) (now c.before.before.before.before.before.before) after c.eval_place-in-loop-k.auto.values (one c.before.before.before.before.before.before)
          (subst (λ (t : List ℕ). Gated (gate_in t (3 * get_or (first a).args.order.now (a.loop-k.k + 1) 0)) (now c.before.before.before.before.before.before) after) a.loop-k.invariant.2
          c.eval_place-in-loop-k.ensures)),
      a.loop-k.invariant.2,
    )

eval-place-requires-3 : tie.Need-eval_place-requires-then-k-count invariant-loop decreases-loop
eval-place-requires-3 c κs =
    asks c.before.before.before c.loop-k.k c.if-k-count.true c.loop-k.values c.loop-k.invariant.1.size _ c.loop-k.invariant.2

-- all gates, where so many are evaluated
ended : (c : tie.At-loop-k invariant-loop decreases-loop) (k : ℕ) (after : List ℕ) → k ≡ (first c).args.layout.a
    → Upto (circuit_in (first c).args.m.now) (first c).args.order.now k (first c).args.values.now after
    → Upto (circuit_in (first c).args.m.now) (first c).args.order.now (length (circuit_in (first c).args.m.now).gates) (first c).args.values.now after
ended c k after e u =
    subst (λ (n : ℕ). Upto (circuit_in (first c).args.m.now) (first c).args.order.now n (first c).args.values.now after)
    (e ∙ gates-are (first c).requires) u

-- after the gate that is left over
module _ (f : tie.After-eval_place-then-k-count invariant-loop decreases-loop) where
  abbrev B : tie.At-loop-k invariant-loop decreases-loop
  B = f.before.before.before.before

  last_one : Upto (circuit_in (first B).args.m.now) (first B).args.order.now (B.loop-k.k + 1) (first B).args.values.now f.eval_place-then-k-count.new.values
  last_one =
      more B B.loop-k.k f.if-k-count.true B.loop-k.values _ f.eval_place-then-k-count.auto.values B.loop-k.invariant.1
      (subst (λ (t : List ℕ). Gated (gate_in t (3 * get_or (first B).args.order.now B.loop-k.k 0)) B.loop-k.values f.eval_place-then-k-count.new.values) B.loop-k.invariant.2 f.eval_place-then-k-count.ensures)

same_length : tie.Need-shape_of-values-then-k-count invariant-loop decreases-loop
same_length c = (last_one c.before.before).size

returns : tie.Need-returns-then-k-count invariant-loop decreases-loop
returns c =
    let a = B c.before.before in
    let e : a.loop-k.k + 1 ≡ (first a).args.layout.a = omega arith in
    upto-end (right (first a).requires.held) (first a).requires.ordered (ended a _ _ e (last_one c.before.before))

same-length-2 : tie.Need-shape_of-values-else-k-count invariant-loop decreases-loop
same-length-2 c = c.loop-k.invariant.1.size

returns-2 : tie.Need-returns-else-k-count invariant-loop decreases-loop
returns-2 c =
    let e : c.loop-k.k ≡ (first c.before.before).args.layout.a = omega arith in
    upto-end (right (first c.before.before).requires.held) (first c.before.before).requires.ordered (ended c.before.before _ _ e c.loop-k.invariant.1)

pub eval_gates_spec : {M : Type 1} → statement M
eval_gates_spec =
    tie.close
    (tie.spec invariant-loop decreases-loop mul-table sub-table part-table-start (λ c. search rules) loop-holds add-loop eval-place-requires (λ c. search rules) eval-place-requires-2 (λ c. search rules) (λ c. search rules) loop-again eval-place-requires-3 same_length returns same-length-2 returns-2)
