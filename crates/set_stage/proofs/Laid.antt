-- The table of a plan, row after row. Assumes nothing.
use mathlib.Core.Path.{◌≡◌, refl, sym, ap, ap₂, ◌∙◌, subst}
use mathlib.Core.Bool.{Bool, true, false, cond, ◌&&◌, not}
use mathlib.Core.List.{List, [], ◌∷◌, ◌++◌}
use mathlib.Core.Option.{Option, none, some}
use Prim.Native.Nat.{ℕ, zero, suc, ◌+◌, ◌-◌, ◌^◌, ◌≤◌, ◌<◌}
use native.Mathlib.Decide.{dec_lt, ℕ_discrete}
use native.Mathlib.Omega.{arith}
use borrow.Author.Tests.{lt-ltb, le-ltb}
use lib.Dec.{T, ltb}
use lib.ListN.{length, get_or, set, take, drop, length-drop}
use lib.Seq.{length-take-le}
use Rattle.aiger.specs.Circuit.{Circuit, literals_right, acyclic}
use Rattle.layout.specs.Words.{word}
use Rattle.machine.specs.Machine.{Machine}
use Rattle.backward.specs.Sets.{any_below}
use Rattle.influence.specs.Part.{Part, Listed}
use Rattle.influence.specs.Cone.{kept_below}
use Rattle.transitions.specs.Transitions.{machine_of}
use Rattle.diagrams.specs.declared.Vertex.{Vertex}
use Rattle.diagrams.specs.States.{State, Outcome}
use Rattle.diagrams.specs.Meaning.{Assignment, value, In, Front, Terms, with_vector, Good}
use Rattle.diagrams.proofs.Values.{front-in}
use Rattle.diagrams.proofs.Sound.{vector-more}
use Rattle.collection.specs.Collecting.{collected}
use Rattle.diagram_rows.specs.Rows.{Plan, plan_of, plan_length, Filled, filled, row_made, row_in}
use Rattle.diagram_rows.specs.Inputs.{wide_row}
use Rattle.diagram_rows.specs.Meaning.{Matches, RowMeans, Got, no_words, has_words, RightFilled}
use Rattle.diagram_rows.proofs.Sound.{row-right}
use Rattle.state_sets.specs.Shape.{row_at}
use Rattle.state_sets.specs.Sets.{Sets, Tried, next_of, turns}
use Rattle.state_sets.specs.Meaning.{Values, values_of, RowsOf, Standing, Tabled, vectors_from, terms_of, Held}
use Rattle.state_sets.proofs.Room.{row_is, row_inside}
use Rattle.state_sets.proofs.Collections.{collects}
use Rattle.state_sets.proofs.Sound.{values-front, values-at, word_in, Did, turns-right}
use Rattle.set_stage.specs.Plans.{code_of, Among, RowValued, RowsMade}
use Rattle.set_stage.specs.Table.{splice, row_stored, row_stored_in, row_put, rows_put}
use Rattle.set_stage.proofs.Splice.{splice-length, splice-before, splice-in, splice-after}
use Rattle.set_stage.proofs.Rows.{rows-of, rows-first}

-- terms without vectors
abbrev pub bare : ℕ → Terms
bare level = record { level = level; vectors = [] }

-- ---- the vectors of the rows, one after the other

vectors-last : (vars : ℕ) (table : List ℕ) (n r : ℕ) → vectors_from vars table (suc n) r ≡ vectors_from vars table n r ++ (next_of vars (r + n) table ∷ [])
unfolding vectors_from
vectors-last vars table zero r = ap (λ (k : ℕ). next_of vars k table ∷ []) (omega arith)
vectors-last vars table (suc n) r =
    let e : suc r + n ≡ r + suc n = omega arith in
    ap (λ (vs : List (List ℕ)). next_of vars r table ∷ vs)
    (vectors-last vars table n (suc r) ∙ ap (λ (k : ℕ). vectors_from vars table n (suc r) ++ (next_of vars k table ∷ [])) e)

-- a diagram that is good for no vectors is good for those of all rows
all-good : (level vars : ℕ) (table : List ℕ) (s : State) → Good (bare level) s → ((i : ℕ) → In s.nodes (get_or table i 0)) → (n : ℕ)
    → Good (record { level = level; vectors = vectors_from vars table n 0 }) s
unfolding vectors_from
all-good level vars table s g h zero = g
all-good level vars table s g h (suc n) =
    let vector = next_of vars (0 + n) table in
    subst (λ (vs : List (List ℕ)). Good (record { level = level; vectors = vs }) s) (sym (vectors-last vars table n 0))
    (vector-more vector (λ v. word_in vars (0 + n) v s.nodes table h (omega (arith, h 0))) (all-good level vars table s g h n))

plan-latches : (plan : List ℕ) → plan_length plan ≤ length plan → length (plan_of plan).latches ≡ get_or plan 0 0
plan-latches plan l = length-take-le (get_or plan 0 0) (drop 3 plan) (omega (arith, length-drop 3 plan))

module _ (level : ℕ) (part : Part) (b : ℕ) (plan : List ℕ) (whole : plan_length plan ≤ length plan) (rows : ℕ) where
  abbrev c : Circuit
  c = part.circuit

  abbrev p : Plan
  p = plan_of plan

  abbrev vars : ℕ
  vars = length (plan_of plan).latches

  abbrev m : Machine
  m = machine_of part b

  -- what the values of a table say where k rows are made
  pub record Said (k : ℕ) (vs : Values) : Type 0 where
    pub made : RowsMade part.circuit b (plan_of plan) k vs
    pub start : (y : ℕ) → y < (machine_of part b).starts
        → vs (row_at (length (plan_of plan).latches) rows) (code_of part (plan_of plan).latches ((machine_of part b).start y)) ≡ true
    pub blank : (i : ℕ) (x : Assignment) → i < 258 → vs i x ≡ false

  -- k rows are made
  pub record Laid (k : ℕ) (z : Sets) : Type 0 where
    pub good : Good (bare level) z.state
    pub edges : (i : ℕ) → In z.state.nodes (get_or z.table i 0)
    pub room : row_at (length (plan_of plan).latches) rows < length z.table
    pub said : Said k (values_of z.state.nodes z.table)

  laid-front : (k : ℕ) (s t : State) (table : List ℕ) → Laid k (record { state = s; table = table }) → Front s.nodes t.nodes → Good (bare level) t
      → Laid k (record { state = t; table = table })
  laid-front k s t table h f g =
      record {
        good = g;
        edges = λ i. front-in f (get_or table i 0) (h.edges i);
        room = h.room;
        said = subst (Said k) (sym (values-front f table h.edges)) h.said;
      }

  laid-collected : (k : ℕ) (z : Sets) → Laid k z → (collected z.state z.table).kept ≡ true
      → Laid k (record { state = (collected z.state z.table).state; table = (collected z.state z.table).roots })
  unfolding values_of
  laid-collected k z h e =
      let q = collects (bare level) z.state h.good z.table (omega (arith, h.room)) h.edges e in
      record {
        good = q.good (bare level) (λ tag v. omega (arith, q.roots-in 0));
        edges = q.roots-in;
        room = omega (arith, h.room, q.lengths);
        said = subst (Said k) (λ i. λ j x. sym (q.same x j) i) h.said;
      }

  -- the words of row k are put into the table
  module _ (k : ℕ) (kl : k < rows) (s : State) (table ws : List ℕ) (h : Laid k (record { state = s; table = table }))
      (row : RowMeans part.circuit b (plan_of plan) k s.nodes ws) where
    abbrev at : ℕ
    at = row_at (length (plan_of plan).latches) k

    fits : row_at (length (plan_of plan).latches) k + length ws ≤ length table
    fits = omega (arith, row.size, row_inside vars k rows kl, h.room)

    abbrev new : List ℕ
    new = splice table (row_at (length (plan_of plan).latches) k) ws

    in_row : (v : ℕ) (x : Assignment) → v < vars + 2 → values_of s.nodes new (at + v) x ≡ value s.nodes x (get_or ws v 0)
    unfolding values_of
    in_row v x l = ap (value s.nodes x) (splice-in table at ws fits v (omega (arith, row.size)))

    before-row : (i : ℕ) (x : Assignment) → i < at → values_of s.nodes new i x ≡ values_of s.nodes table i x
    unfolding values_of
    before-row i x l = ap (value s.nodes x) (splice-before table at ws fits i l)

    after-row : (i : ℕ) (x : Assignment) → at + vars + 2 ≤ i → values_of s.nodes new i x ≡ values_of s.nodes table i x
    unfolding values_of
    after-row i x l = ap (value s.nodes x) (splice-after table at ws fits i (omega (arith, row.size)))

    new_in : (i : ℕ) → In s.nodes (get_or new i 0)
    new_in i = elim (dec_lt i at) [
      | yes l ↦ subst (λ (e : ℕ). In s.nodes e) (sym (splice-before table at ws fits i l)) (h.edges i)
      | no l ↦ elim (dec_lt i (at + length ws)) [
        | yes d ↦
            let v = i - at in
            let q : at + v ≡ i = omega arith in
            subst (λ (e : ℕ). In s.nodes e)
            (sym (ap (λ (j : ℕ). get_or new j 0) (sym q) ∙ splice-in table at ws fits v (omega arith))) (word_of v (omega (arith, row.size)))
        | no d ↦ subst (λ (e : ℕ). In s.nodes e) (sym (splice-after table at ws fits i (omega arith))) (h.edges i)
      ]
    ]
      where
        word_of : (v : ℕ) → v < length (plan_of plan).latches + 2 → In s.nodes (get_or ws v 0)
        word_of v l = elim (dec_lt v vars) [
          | yes d ↦ (row.next v d).inside
          | no d ↦ elim (ℕ_discrete v vars) [
            | yes q ↦ subst (λ (j : ℕ). In s.nodes (get_or ws j 0)) (sym q) row.con.inside
            | no q ↦
                let z : vars + 1 ≡ v = omega arith in
                subst (λ (j : ℕ). In s.nodes (get_or ws j 0)) z row.hit.inside
          ]
        ]

    row_laid : Laid (suc k) (record { state = s; table = splice table (row_at (length (plan_of plan).latches) k) ws })
    row_laid =
        record {
          good = h.good;
          edges = new_in;
          room = omega (arith, h.room, splice-length table at ws fits);
          said =
              record {
                made = λ j l. elim (ℕ_discrete j k) [
                  | yes e ↦ subst (λ (i : ℕ). RowValued part.circuit b (plan_of plan) i (values_of s.nodes new)) (sym e) this-row
                  | no e ↦ earlier-row j (omega arith) (h.said.made j (omega arith))
                ];
                start = λ y l. after-row (row_at vars rows) _ (row_inside vars k rows kl) ∙ h.said.start y l;
                blank = λ i x l. before-row i x (omega (arith, row_is vars k)) ∙ h.said.blank i x l;
              };
        }
      where
        this-row : RowValued part.circuit b (plan_of plan) k (values_of s.nodes (splice table (row_at (length (plan_of plan).latches) k) ws))
        this-row =
            record {
              next = λ v l w x q. in_row v x (omega arith) ∙ (row.next v l).same w x q;
              con = λ w x q. in_row vars x (omega arith) ∙ row.con.same w x q;
              hit = λ w x q.
                  let e : at + vars + 1 ≡ at + (vars + 1) = omega arith in
                  ap (λ (i : ℕ). values_of s.nodes new i x) e ∙ in_row (vars + 1) x (omega arith) ∙ row.hit.same w x q;
            }

        earlier-row : (j : ℕ) → j < k → RowValued part.circuit b (plan_of plan) j (values_of s.nodes table)
            → RowValued part.circuit b (plan_of plan) j (values_of s.nodes (splice table (row_at (length (plan_of plan).latches) k) ws))
        earlier-row j l r =
            let d = row_inside vars j k l in
            record {
              next = λ v vl w x q. before-row (row_at vars j + v) x (omega arith) ∙ r.next v vl w x q;
              con = λ w x q. before-row (row_at vars j + vars) x (omega arith) ∙ r.con w x q;
              hit = λ w x q. before-row (row_at vars j + vars + 1) x (omega arith) ∙ r.hit w x q;
            }

  row-in : (r : ℕ) (s : State) → row_in part.circuit b plan r s ≡ row_made part.circuit b (plan_of plan) r s
  unfolding row_in
  row-in r s = ap (λ (t : Bool). cond t (filled s none) (row_made c b p r s)) (le-ltb (length plan) (plan_length plan) whole)

  row-put-right : (k : ℕ) → k < rows → (z : Sets) → Laid k z → Did (Laid k) (Laid (suc k)) (row_put part.circuit b plan k z)
  unfolding row_put
  row-put-right k kl z h =
      let r = row-right c p k (bare level) b z.state h.good in
      subst (λ (o : Filled). Did (Laid k) (Laid (suc k)) (row_stored_in (get_or plan 0 0) k z.table o)) (sym (row-in k z.state))
      (subst (λ (v : ℕ). Did (Laid k) (Laid (suc k)) (row_stored_in v k z.table (row_made c b p k z.state))) (plan-latches plan whole)
      (go (row_made c b p k z.state) r))
    where
      clash : {A : Type 0} → true ≡ false → A
      clash e = absurd (let z : ◌≡◌ {A = ℕ} 0 1 = cc in omega arith)

      go : (o : Filled) → RightFilled (bare level) z.state (RowMeans part.circuit b (plan_of plan) k) o
          → Did (Laid k) (Laid (suc k)) (row_stored_in (length (plan_of plan).latches) k z.table o)
      go o r = by o.words r.answer
        where
          t : State
          t = o.state

          by : (x : Option (List ℕ)) → Got (RowMeans part.circuit b (plan_of plan) k o.state.nodes) x
              → Did (Laid k) (Laid (suc k)) (row_stored (length (plan_of plan).latches) k z.table o.state x)
          by none a =
              record { yes = λ q. clash (sym q); no = λ q. laid-front k z.state o.state z.table h r.grows r.good }
          by (some ws) (has_words w) =
              record {
                yes = λ q. row_laid k kl o.state z.table ws (laid-front k z.state o.state z.table h r.grows r.good) w;
                no = λ q. clash q;
              }

  -- all rows
  pub rows-put-right : (z : Sets) → Laid 0 z → (rows_put part.circuit b plan rows z).done ≡ true → Laid rows (rows_put part.circuit b plan rows z).sets
  unfolding rows_put
  rows-put-right z h d =
      subst (λ (i : ℕ). Laid i (turns (row_put c b plan) rows 0 z).sets) (omega arith)
      (turns-right Laid (row_put c b plan) rows 0 (λ i y a l. row-put-right i (omega arith) y) (λ i y a l k e. laid-collected i y k e) z h d)

  -- the table is ready for set 0
  module _ (right : T (literals_right part.circuit)) (no-cycle : T (acyclic part.circuit)) (listed : Listed part)
      (among : Among part (plan_of plan).latches) (matters : ℕ → Bool)
      (inputs : (plan_of plan).inputs ≡ kept_below matters (length part.circuit.inputs)) (rows_is : rows ≡ 2 ^ length (plan_of plan).inputs) where
    pub laid-held : (z : Sets) → Laid rows z
        → Held level (machine_of part b) (2 ^ length part.kept) (code_of part (plan_of plan).latches) (length (plan_of plan).latches) rows 0 0 z
    unfolding any_below
    laid-held z h =
        record {
          room = omega (arith, h.room, row_is vars rows);
          tabled = record { good = all-good level vars z.table z.state h.good h.edges rows; edges = h.edges };
          standing =
              record {
                rows-of =
                    rows-of part right no-cycle listed b p among matters inputs rows rows_is (values_of z.state.nodes z.table) h.said.made
                    h.said.start;
                sets = λ j s l. absurd (omega arith);
                union = λ s l. h.said.blank 256 _ (omega arith);
                part = λ s l. h.said.blank 257 _ (omega arith);
              };
        }

    -- row k of the table is the least row of the machine with its bits at the inputs that matter
    pub held_first : (z : Sets) (h : Laid rows z) (k : ℕ) → (laid-held z h).standing.rows-of.first k ≡ wide_row matters (length part.circuit.inputs) k
    unfolding laid-held
    held_first z h k =
        rows-first part right no-cycle listed b p among matters inputs rows rows_is (values_of z.state.nodes z.table) h.said.made
        h.said.start k
