-- What the words of a row say of a frame, and of a state of the machine of a circuit with a row of all inputs. Assumes nothing.
use mathlib.Core.Path.{◌≡◌, refl, sym, ap, ◌∙◌, subst}
use mathlib.Core.Bool.{Bool, true, false, ◌&&◌}
use mathlib.Core.List.{List, map}
use Prim.Native.Nat.{ℕ, ◌<◌}
use native.Mathlib.Decide.{dec_lt}
use native.Mathlib.Omega.{arith}
use lib.Dec.{T}
use lib.ListN.{length, get_or, get_or-eq_default}
use Rattle.aiger.specs.Circuit.{Circuit, Gate, var, literals_right, acyclic}
use Rattle.aiger.specs.Frames.{free_bit}
use Rattle.aiger.specs.Frames as frames
use Rattle.aiger.specs.Bits.{bit}
use Rattle.meaning.specs.Frame.{no_gate, latch_at, gate_at, Valuation}
use Rattle.meaning.proofs.Lists.{get_d-map-upto}
use Rattle.meaning.proofs.Values.{frame-valuation}
use Rattle.influence.specs.Part.{Part, Listed}
use Rattle.transitions.specs.Transitions.{number_of, latches_of, rank_in, row_of, values_in, next_number}
use Rattle.transitions.proofs.Numbers.{bit-number, rank-at, map_at}
use Rattle.diagrams.specs.declared.Vertex.{Vertex}
use Rattle.diagrams.specs.Meaning.{Assignment}
use Rattle.diagram_rows.specs.Rows.{Plan}
use Rattle.diagram_rows.specs.Inputs.{SameBits}
use Rattle.diagram_rows.specs.Meaning.{Matches, RowMeans}
use Rattle.diagram_rows.specs.Machine.{assignment_of, KeptPlan, RowSays}

-- the equation of a gate, also past the last one, where all is false
gate-any : (c : Circuit) (row st : List Bool) (w : ℕ → Bool) → Valuation c row st w → (i : ℕ)
    → w (var (gate_at c i).lit) ≡ (frames.value w (gate_at c i).left && frames.value w (gate_at c i).right)
gate-any c row st w v i = elim (dec_lt i (length c.gates)) [
  | yes h ↦ v.gate i h
  | no h ↦
      let e : gate_at c i ≡ no_gate = get_or-eq_default c.gates no_gate (omega arith) in
      subst (λ (g : Gate). w (var g.lit) ≡ (frames.value w g.left && frames.value w g.right)) (sym e) (twice (w 0))
]
  where
    twice : (b : Bool) → b ≡ (b && b)
    twice true = refl
    twice false = refl

-- a frame with the bits of row r at the inputs that matter, and the assignment of its latches
pub frame-matches : (c : Circuit) (p : Plan) (r : ℕ) (row st : List Bool) (w : ℕ → Bool) (x : Assignment) → Valuation c row st w
    → ((v : ℕ) → v < length p.latches → x v ≡ w (var (latch_at c (get_or p.latches v 0)).lit))
    → ((k : ℕ) → k < length p.inputs → get_or p.inputs k 0 < length c.inputs)
    → ((k : ℕ) → k < length p.inputs → get_or row (get_or p.inputs k 0) false ≡ free_bit (length p.inputs) r k) → Matches c p r w x
frame-matches c p r row st w x v latch below bits =
    record {
      constant = v.constant;
      latch = latch;
      input = λ k h. v.input (get_or p.inputs k 0) (below k h) ∙ bits k h;
      gate = gate-any c row st w v;
    }

module _ (part : Part) (right : T (literals_right part.circuit)) (no-cycle : T (acyclic part.circuit)) (b : ℕ) (p : Plan) where
  abbrev c : Circuit
  c = part.circuit

  -- the value of a latch at state s
  pub latch-value : (s q j : ℕ) → j < length part.circuit.latches → values_in part s q (var (latch_at part.circuit j).lit) ≡ bit s (rank_in part.kept j)
  unfolding values_in
  latch-value s q j h =
      (frame-valuation c right no-cycle (latches_of part s) (row_of c q)).latch j h
      ∙ get_d-map-upto (λ j. bit s (rank_in part.kept j)) (length c.latches) j false h

  row-bit : (q i : ℕ) → i < length part.circuit.inputs → get_or (row_of part.circuit q) i false ≡ free_bit (length part.circuit.inputs) q i
  unfolding row_of
  row-bit q i h = get_d-map-upto (free_bit (length c.inputs) q) (length c.inputs) i false h

  pub state-matches : (s q r : ℕ) (x : Assignment) → SameBits (length part.circuit.inputs) p.inputs q r
      → ((v : ℕ) → v < length p.latches → x v ≡ values_in part s q (var (latch_at part.circuit (get_or p.latches v 0)).lit))
      → Matches part.circuit p r (values_in part s q) x
  unfolding values_in
  state-matches s q r x same latch =
      frame-matches c p r (row_of c q) (latches_of part s) (values_in part s q) x (frame-valuation c right no-cycle (latches_of part s) (row_of c q))
      latch same.below (λ k h. row-bit q (get_or p.inputs k 0) (same.below k h) ∙ same.bits k h)

  module _ (listed : Listed part) (kept : KeptPlan part p) where
    -- the latch of variable v
    latch-below : (v : ℕ) → v < length p.latches → get_or p.latches v 0 < length part.circuit.latches
    latch-below v h =
        subst (λ (j : ℕ). j < length part.circuit.latches) (kept.at v h).2 (listed.inside (kept.at v h).0 (kept.at v h).1)

    -- the assignment of the next state has the values of the next literals
    next_bit : (s q v : ℕ) → v < length p.latches
        → assignment_of part p (next_number part s q) v ≡ frames.value (values_in part s q) (latch_at part.circuit (get_or p.latches v 0)).next
    unfolding next_number
    next_bit s q v h =
        let f : ℕ → Bool = λ j. frames.value (values_in part s q) (latch_at c j).next in
        let i = (kept.at v h).0 in
        let l = (kept.at v h).1 in
        ap (λ (j : ℕ). bit (number_of (map f part.kept)) (rank_in part.kept j)) (sym (kept.at v h).2)
        ∙ ap (bit (number_of (map f part.kept))) (rank-at part.kept listed.rising i l)
        ∙ bit-number (map f part.kept) i ∙ map_at f part.kept i l ∙ ap f (kept.at v h).2

    -- every row of all inputs that has the bits of row r at the inputs that matter
    pub row-says : (s q r : ℕ) (ns : List Vertex) (ws : List ℕ) → RowMeans part.circuit b p r ns ws
        → SameBits (length part.circuit.inputs) p.inputs q r → RowSays part b p s q ns ws
    row-says s q r ns ws m same =
        let x = assignment_of part p s in
        let h =
        state-matches s q r x same (λ v l. sym (latch-value s q (get_or p.latches v 0) (latch-below v l))) in
        record {
          next = λ v l. (m.next v l).same (values_in part s q) x h ∙ sym (next_bit s q v l);
          con = m.con.same (values_in part s q) x h;
          hit = m.hit.same (values_in part s q) x h;
        }
