-- The table that an attempt begins with is ready for set 0. Assumes nothing.
use mathlib.Core.Path.{◌≡◌, refl, sym, ap, ◌∙◌, subst}
use mathlib.Core.Bool.{Bool, true, false, cond}
use mathlib.Core.List.{List, []}
use mathlib.Core.Option.{Option, none, some}
use Prim.Native.Nat.{ℕ, zero, suc, ◌+◌, ◌*◌, ◌^◌, ◌≤◌, ◌<◌}
use native.Mathlib.Nat.{mul-le-mul_right}
use native.Mathlib.Decide.{ℕ_discrete}
use native.Mathlib.Omega.{arith}
use lib.Dec.{T}
use lib.ListN.{length, get_or, set, replicate, length-set, length-replicate}
use lib.Pow.{pow_mono}
use lib.Seq.{get_or-set_same, get_or-set_other}
use Rattle.aiger.specs.Circuit.{Circuit, literals_right, acyclic}
use Rattle.machine.specs.Machine.{Machine}
use Rattle.influence.specs.Part.{Part, Listed}
use Rattle.transitions.specs.Transitions.{machine_of}
use Rattle.diagrams.specs.declared.Vertex.{Vertex}
use Rattle.diagrams.specs.States.{State, state_of, Outcome, begun}
use Rattle.diagrams.specs.Meaning.{Assignment, value, In, Front, Good, Answer, no_edge, is-edge, Right}
use Rattle.diagrams.proofs.Values.{value-false, value-true, front-in}
use Rattle.diagrams.proofs.Beginning.{begun-good}
use Rattle.collection.specs.Collecting.{collected}
use Rattle.diagram_rows.specs.Rows.{Plan, plan_of}
use Rattle.diagram_rows.specs.Inputs.{wide_row}
use Rattle.state_sets.specs.Shape.{row_at}
use Rattle.state_sets.specs.Sets.{Sets, Tried, on_done, again}
use Rattle.state_sets.specs.Meaning.{Values, values_of, Held}
use Rattle.state_sets.proofs.Room.{row_is}
use Rattle.state_sets.proofs.Collections.{collects}
use Rattle.state_sets.proofs.Sound.{values-front, values_same, values_other, values-at, Did}
use Rattle.state_sets.proofs.Sound as sound
use Rattle.set_stage.specs.Plans.{code_of}
use Rattle.set_stage.specs.Table.{with_resets, rows_put}
use Rattle.set_stage.proofs.Laid.{bare, Laid, rows-put-right, laid-held, held_first}
use Rattle.set_stage.proofs.Resets.{Starting, resets-right}
use Rattle.set_attempt.specs.Fit.{Fit}
use Rattle.set_attempt.specs.Attempt.{start_stored, start_stored_in, start_put, rows_of, table_made, blank_sets}

clash : {A : Type 0} → true ≡ false → A
clash e = absurd (let z : ◌≡◌ {A = ℕ} 0 1 = cc in omega arith)

zeros-at : (n i : ℕ) → get_or {A = ℕ} (replicate n 0) i 0 ≡ 0
zeros-at zero i = refl
zeros-at (suc n) zero = refl
zeros-at (suc n) (suc i) = zeros-at n i

-- so many rows stand in a table of 2,083 words
pub rows-small : (vars rows : ℕ) → vars ≤ 112 → rows ≤ 16 → rows * (vars + 2) ≤ 1824
rows-small vars rows v r = omega (arith, mul-le-mul_right (vars + 2) r)

pub rows_few : (part : Part) (plan : List ℕ) → Fit part plan → rows_of plan ≤ 16
rows_few part plan f = let a : rows_of plan ≤ 2 ^ 4 = pow_mono {i = length (plan_of plan).inputs} {j = 4} f.few in omega arith

module _ (level : ℕ) (part : Part) (right : T (literals_right part.circuit)) (no-cycle : T (acyclic part.circuit)) (listed : Listed part) (b : ℕ)
    (plan : List ℕ) (fit : Fit part plan) where
  abbrev c : Circuit
  c = part.circuit

  abbrev latches : List ℕ
  latches = (plan_of plan).latches

  abbrev rows : ℕ
  rows = rows_of plan

  -- a table of zeros in its sets, with room for the edge of the start states
  pub record Bare (z : Sets) : Type 0 where
    pub good : Good (bare level) z.state
    pub edges : (i : ℕ) → In z.state.nodes (get_or z.table i 0)
    pub room : row_at (length (plan_of plan).latches) (rows_of plan) < length z.table
    pub blank : (i : ℕ) (x : Assignment) → i < 258 → values_of z.state.nodes z.table i x ≡ false

  bare-front : (s t : State) (table : List ℕ) → Bare (record { state = s; table = table }) → Front s.nodes t.nodes → Good (bare level) t
      → Bare (record { state = t; table = table })
  bare-front s t table h f g =
      record {
        good = g;
        edges = λ i. front-in f (get_or table i 0) (h.edges i);
        room = h.room;
        blank = λ i x l. ap (λ (vs : Values). vs i x) (values-front f table h.edges) ∙ h.blank i x l;
      }

  bare-collected : (z : Sets) → Bare z → (collected z.state z.table).kept ≡ true
      → Bare (record { state = (collected z.state z.table).state; table = (collected z.state z.table).roots })
  bare-collected z h e =
      let q = collects (bare level) z.state h.good z.table (omega (arith, h.room)) h.edges e in
      record {
        good = q.good (bare level) (λ tag v. omega (arith, q.roots-in 0));
        edges = q.roots-in;
        room = omega (arith, h.room, q.lengths);
        blank = λ i x l.
            values-at (collected z.state z.table).state.nodes (collected z.state z.table).roots i x
            ∙ q.same x i ∙ sym (values-at z.state.nodes z.table i x) ∙ h.blank i x l;
      }

  -- the edge of the start states is put after the rows
  module _ (s : State) (table : List ℕ) (e : ℕ) (h : Bare (record { state = s; table = table })) (w : Starting part listed b (plan_of plan).latches fit.among (bare level) s.nodes e) where
    abbrev at : ℕ
    at = row_at (length (plan_of plan).latches) (rows_of plan)

    start-laid : Laid level part b plan fit.whole (rows_of plan) 0 (record { state = s; table = set table (row_at (length (plan_of plan).latches) (rows_of plan)) e })
    start-laid =
        record {
          good = h.good;
          edges = λ i. elim (ℕ_discrete i at) [
            | yes q ↦
                subst (λ (d : ℕ). In s.nodes d)
                (sym (ap (λ (j : ℕ). get_or (set table at e) j 0) q ∙ get_or-set_same table at e 0 h.room)) w.0
            | no q ↦ subst (λ (d : ℕ). In s.nodes d) (sym (get_or-set_other table at i e 0 q)) (h.edges i)
          ];
          room = omega (arith, h.room, length-set table at e);
          said =
              record {
                made = λ j l. absurd (omega arith);
                start = λ y l. values_same s.nodes table at e _ h.room ∙ w.1 y l;
                blank = λ i x l. values_other s.nodes table at e i x (λ q. omega (arith, row_is (length latches) rows)) ∙ h.blank i x l;
              };
        }

  start-put-right : (z : Sets) → Bare z
      → Did Bare (Laid level part b plan fit.whole (rows_of plan) 0) (start_put part.circuit (plan_of plan).latches (rows_of plan) z)
  unfolding start_put
  start-put-right z h =
      go (with_resets c 0 latches z.state 1)
      (resets-right part listed b latches fit.among (bare level) latches 0 (omega arith) (λ i l. ap (λ (j : ℕ). get_or latches j 0) (omega arith)) z.state
      h.good 1 (omega (arith, h.good.built.some-node), λ y l. value-true z.state.nodes h.good.built _))
    where
      go : (o : Outcome) → Right (bare level) z.state (Starting part listed b (plan_of plan).latches fit.among (bare level)) o
          → Did Bare (Laid level part b plan fit.whole (rows_of plan) 0) (start_stored_in (row_at (length (plan_of plan).latches) (rows_of plan)) z.table o)
      go o r = by o.edge r.answer
        where
          by : (x : Option ℕ) → Answer (Starting part listed b (plan_of plan).latches fit.among (bare level) o.state.nodes) x
              → Did Bare (Laid level part b plan fit.whole (rows_of plan) 0) (start_stored (row_at (length (plan_of plan).latches) (rows_of plan)) z.table o.state x)
          by none a = record { yes = λ q. clash (sym q); no = λ q. bare-front z.state o.state z.table h r.grows r.good }
          by (some e) (is-edge w) =
              record {
                yes = λ q. start-laid o.state z.table e (bare-front z.state o.state z.table h r.grows r.good) w;
                no = λ q. clash q;
              }

  -- all rows of the table are made
  table-laid : (z : Sets) → Bare z → (table_made part.circuit b plan z).done ≡ true
      → Laid level part b plan fit.whole (rows_of plan) (rows_of plan) (table_made part.circuit b plan z).sets
  unfolding table_made
  table-laid z h =
      go (again (start_put c latches rows) z).done refl (sound.again-right Bare (Laid level part b plan fit.whole (rows_of plan) 0) (start_put c latches rows) start-put-right bare-collected z h)
    where
      go : (d : Bool) → (again (start_put part.circuit (plan_of plan).latches (rows_of plan)) z).done ≡ d
          → ((again (start_put part.circuit (plan_of plan).latches (rows_of plan)) z).done ≡ true
          → Laid level part b plan fit.whole (rows_of plan) 0 (again (start_put part.circuit (plan_of plan).latches (rows_of plan)) z).sets)
          → (on_done d (again (start_put part.circuit (plan_of plan).latches (rows_of plan)) z).sets (rows_put part.circuit b plan (rows_of plan))).done ≡ true
          → Laid level part b plan fit.whole (rows_of plan) (rows_of plan)
          (on_done d (again (start_put part.circuit (plan_of plan).latches (rows_of plan)) z).sets (rows_put part.circuit b plan (rows_of plan))).sets
      go false q k e = clash (sym e)
      go true q k e = rows-put-right level part b plan fit.whole rows (again (start_put c latches rows) z).sets (k q) e

  -- the table is ready for set 0
  pub table-right : (z : Sets) → Bare z → (table_made part.circuit b plan z).done ≡ true
      → Held level (machine_of part b) (2 ^ length part.kept) (code_of part (plan_of plan).latches) (length (plan_of plan).latches) (rows_of plan) 0 0
      (table_made part.circuit b plan z).sets
  table-right z h e =
      laid-held level part b plan fit.whole rows right no-cycle listed fit.among fit.matters fit.inputs refl _ (table-laid z h e)

  -- and row k of it is the least row of the machine with its bits at the inputs that matter
  pub table-first : (z : Sets) (h : Bare z) (e : (table_made part.circuit b plan z).done ≡ true) (k : ℕ)
      → (table-right z h e).standing.rows-of.first k ≡ wide_row fit.matters (length part.circuit.inputs) k
  unfolding table-right
  table-first z h e k =
      held_first level part b plan fit.whole rows right no-cycle listed fit.among fit.matters fit.inputs refl _ (table-laid z h e) k

  -- what an attempt begins with
  pub blank-bare : (words looks : ℕ) → 16 ≤ words → Bare (blank_sets words looks)
  unfolding blank_sets
  blank-bare words looks l =
      let g = begun-good words looks l level in
      let s = state_of (begun words looks) in
      record {
        good = g;
        edges = λ i. subst (λ (d : ℕ). In s.nodes d) (sym (zeros-at 2083 i)) (omega (arith, g.built.some-node));
        room =
            omega (
              arith,
              length-replicate {A = ℕ} 2083 0,
              row_is (length latches) rows,
              rows-small (length latches) rows fit.vars (rows_few part plan fit),
            );
        blank = λ i x il.
            values-at s.nodes (replicate 2083 0) i x ∙ ap (value s.nodes x) (zeros-at 2083 i) ∙ value-false s.nodes g.built x;
      }
