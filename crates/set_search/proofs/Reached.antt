-- What an attempt with a plan reaches: from a hit the walk gives the first one of its frame, and working memory its free bits. Assumes nothing.
use mathlib.Core.Path.{◌≡◌, refl, sym, ap, ◌∙◌, subst}
use mathlib.Core.Bool.{Bool, true, false, cond}
use mathlib.Core.List.{List}
use mathlib.Core.Option.{Option, none, some}
use Prim.Native.Nat.{ℕ, zero, suc, ◌+◌, ◌*◌, ◌^◌, ◌≤◌, ◌<◌}
use native.Mathlib.Omega.{arith}
use lib.Dec.{T}
use lib.ListN.{length, get_or, length-map}
use Rattle.aiger.specs.Bits.{nonzero}
use Rattle.aiger.specs.Circuit.{Circuit, literals_right, acyclic}
use Rattle.aiger.specs.Frames.{free_starts, free_bits, free_bit}
use Rattle.aiger.specs.Search.{least_below, reaches, question}
use Rattle.enumeration.specs.Frame.{FreeBits}
use Rattle.machine.specs.Machine.{Machine, prefixes, hits_at}
use Rattle.machine.proofs.Theorems.{QuietBefore}
use Rattle.influence.specs.Part.{Part}
use Rattle.influence.specs.Cone.{kept_below, part_of}
use Rattle.influence.proofs.Cone.{part-closed}
use Rattle.transitions.specs.Transitions.{rank_in, machine_of}
use Rattle.transitions.proofs.Bridge.{reaches_of, prefixes-of}
use Rattle.diagram_rows.specs.Rows.{plan_of}
use Rattle.diagram_rows.specs.Inputs.{wide_row}
use Rattle.state_sets.specs.declared.Shape.{Shape}
use Rattle.state_sets.specs.Sets.{Sets, Tried}
use Rattle.state_sets.specs.Meaning.{Held}
use Rattle.set_walk.specs.Walk.{prefix_by, first_of}
use Rattle.set_stage.specs.Plans.{code_of, free_places, frees_of, base_of}
use Rattle.set_stage.proofs.Bounds.{machine-inside}
use Rattle.set_stage.proofs.Rows.{coded}
use Rattle.set_stage.proofs.Starts.{free-count, starts-of}
use Rattle.stages.specs.Endings.{Ending, NoneBefore}
use Rattle.set_attempt.specs.Attempt.{rows_of, table_made, blank_sets, on_table, with_table, first_hits, hit_at}
use Rattle.set_attempt.specs.Bits.{free_value}
use Rattle.set_attempt.specs.Fit.{Fit}
use Rattle.set_attempt.proofs.Begun.{rows_few, table-right, table-first, blank-bare}
use Rattle.set_attempt.proofs.Sound.{same-quiet}
use Rattle.set_attempt.proofs.Bits.{free-bits}
use Rattle.set_frames.specs.declared.Reached.{Reached}
use Rattle.set_frames.specs.declared.Reached.TheVariants as reached
use Rattle.set_frames.specs.Frames.{Begun, ending_of, Started, FramesAre}
use Rattle.set_search.specs.Search.{Reaches, Traced}

module _ (c : Circuit) (b : ℕ) (right : T (literals_right c)) (no-cycle : T (acyclic c)) (plan : List ℕ) (fit : Fit (part_of c b) plan) where
  abbrev part : Part
  part = part_of c b

  abbrev m : Machine
  m = machine_of (part_of c b) b

  abbrev latches : List ℕ
  latches = (plan_of plan).latches

  abbrev width : ℕ
  width = length c.inputs

  -- the shape of the plan's table
  abbrev pub shape_of : Shape
  shape_of = record { vars = length (plan_of plan).latches; rows = rows_of plan }

  rows-power : (machine_of (part_of c b) b).rows ≡ 2 ^ length c.inputs
  unfolding machine_of
  rows-power = refl

  pub frees-count : length (frees_of c (plan_of plan).latches) ≡ free_starts c
  unfolding frees_of
  frees-count = length-map (free_places c) (rank_in latches) ∙ free-count c

  pub bits_are : (t : ℕ) → length (frees_of c (plan_of plan).latches) + length c.inputs * suc t ≡ free_bits c t
  unfolding free_bits
  bits_are t =
      let e : suc t ≡ t + 1 = omega arith in
      ap (λ (n : ℕ). n + width * suc t) frees-count ∙ ap (λ (n : ℕ). free_starts c + width * n) e

  -- the first hit of the machine is that of the circuit
  first-same : (t : ℕ) → first_hits (question c b) t ≡ least_below (prefixes (machine_of (part_of c b) b) (suc t)) (hits_at (machine_of (part_of c b) b) t)
  unfolding first_hits
  first-same t = λ i. least_below (sym (prefixes-of part b t) i) (λ x. reaches_of part b (part-closed c b) t x i)

  module _ (words share : ℕ) (enough : 16 ≤ words) where
    abbrev made : Tried
    made = table_made c b plan (blank_sets words share)

    pub ready : (table_made c b plan (blank_sets words share)).done ≡ true
        → Held 0 (machine_of (part_of c b) b) (2 ^ length (part_of c b).kept) (code_of (part_of c b) (plan_of plan).latches) (length (plan_of plan).latches)
        (rows_of plan) 0 0 (table_made c b plan (blank_sets words share)).sets
    ready e =
        table-right 0 part right no-cycle (part-closed c b).listed b plan fit (blank_sets words share)
        (blank-bare 0 part right no-cycle (part-closed c b).listed b plan fit words share enough) e

    ready-first : (e : (table_made c b plan (blank_sets words share)).done ≡ true) (k : ℕ)
        → (ready e).standing.rows-of.first k ≡ wide_row fit.matters (length c.inputs) k
    unfolding ready
    ready-first e k =
        table-first 0 part right no-cycle (part-closed c b).listed b plan fit (blank_sets words share)
        (blank-bare 0 part right no-cycle (part-closed c b).listed b plan fit words share enough) e k

    module _ (done : (table_made c b plan (blank_sets words share)).done ≡ true) where
      -- the table is ready for set 0
      pub table-begun : Begun shape_of (frees_of c (plan_of plan).latches) (base_of c (plan_of plan).latches) (table_made c b plan (blank_sets words share)).sets
      table-begun =
          record {
            level = 0;
            machine = m;
            n = 2 ^ length part.kept;
            at = code_of part latches;
            inside = machine-inside part b;
            coded = coded part latches;
            starts = starts-of part (part-closed c b).listed b latches fit.among;
            held = ready done;
          }

      module _ (first k : ℕ) (before : NoneBefore (question c b) first) (w table bits : List ℕ) (r : Reached)
          (h : FramesAre shape_of (frees_of c (plan_of plan).latches) (base_of c (plan_of plan).latches) first (k + 1) (table_made c b plan (blank_sets words share)).sets w table bits r) where
        pub ends_so : with_table c b plan first (k + 1) (table_made c b plan (blank_sets words share)) ≡ ending_of (question c b) r
        ends_so = ap (λ (d : Bool). on_table c b plan first (k + 1) d made.sets) done ∙ h.ends (question c b)

        quiet : QuietBefore (machine_of (part_of c b) b) first
        quiet u l = same-quiet part right no-cycle b (part-closed c b) u (before u l)

        module _ (t : ℕ) (e : r ≡ reached.Hit t) where
          pub started : Started 0 (machine_of (part_of c b) b) (2 ^ length (part_of c b).kept) (code_of (part_of c b) (plan_of plan).latches) shape_of t w table
              (frees_of c (plan_of plan).latches) bits (ready done).standing.rows-of.first
          started =
              (h.hit t e).1 0 m (2 ^ length part.kept) (machine-inside part b) (code_of part latches) (coded part latches) (rows_few part plan fit)
              (starts-of part (part-closed c b).listed b latches fit.among) (ready done) quiet

          -- the walk from the start place, with the rows of a trace
          sequence : List ℕ → ℕ
          sequence trace = prefix_by m (wide_row fit.matters width) started.place trace (suc t)

          rows_same : (trace : List ℕ)
              → prefix_by (machine_of (part_of c b) b) (first_of started.setting) started.place trace (suc t) ≡ sequence trace
          unfolding sequence
          rows_same trace =
              λ i. prefix_by m (λ k. (started.rows k ∙ ready-first done k) i) started.place trace (suc t)

          module _ (trace work : List ℕ) (traced : Traced shape_of t w table bits trace)
              (put : (j : ℕ) → j < free_bits c t
              → nonzero (get_or work j 0) ≡ free_value (frees_of c (plan_of plan).latches) bits (plan_of plan).inputs trace (length c.inputs) j) where
            first-is : first_hits (question c b) t ≡ some (sequence trace)
            first-is =
                first-same t
                ∙ traced 0 m (2 ^ length part.kept) (code_of part latches) started.setting started.place started.walking started.here
                ∙ ap (λ (x : ℕ). some x) (rows_same trace)

            bits-so : FreeBits (free_bits c t) (sequence trace) work
            unfolding sequence
            bits-so j l =
                let g = free-bits m width rows-power fit.matters (frees_of c latches) bits trace started.place started.free (suc t) j
                (subst (λ (n : ℕ). j < n) (sym (bits_are t)) l) in
                put j l ∙ ap (λ (is : List ℕ). free_value (frees_of c latches) bits is trace width j) fit.inputs ∙ g
                ∙ ap (λ (n : ℕ). free_bit n (prefix_by m (wide_row fit.matters width) started.place trace (suc t)) j) (bits_are t)

            pub hit-so : Reaches c k (with_table c b plan first (k + 1) (table_made c b plan (blank_sets words share))) work (reached.Hit t)
            hit-so = (
              sequence trace,
              ends_so ∙ ap (ending_of (question c b)) e ∙ ap (hit_at t) first-is,
              let l = (h.hit t e).0 in omega arith,
              bits-so,
            )
