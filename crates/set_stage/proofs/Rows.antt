-- The rows of a plan in a table are those of the circuit's machine. Assumes nothing.
use mathlib.Core.Path.{◌≡◌, refl, sym, ap, ap₂, ◌∙◌, subst}
use mathlib.Core.Bool.{Bool, true, false, cond, ◌&&◌}
use mathlib.Core.List.{List, map}
use mathlib.Core.Option.{Option, none, some}
use Prim.Native.Nat.{ℕ, suc, ◌+◌, ◌^◌, ◌≤◌, ◌<◌}
use native.Mathlib.Decide.{dec_lt, ℕ_discrete}
use native.Mathlib.Omega.{arith}
use borrow.Author.Tests.{lt-ltb, le-ltb}
use lib.Dec.{T, ltb}
use lib.ListN.{length, get_or}
use Rattle.aiger.specs.Bits.{bit}
use Rattle.aiger.specs.Circuit.{Circuit, var, literals_right, acyclic}
use Rattle.aiger.specs.Frames as frames
use Rattle.meaning.specs.Frame.{latch_at}
use Rattle.meaning.proofs.Bits.{sequence-same}
use Rattle.frames.specs.Lanes.{constrained_in, hit_in}
use Rattle.machine.specs.Machine.{Machine}
use Rattle.influence.specs.Part.{Part, Listed}
use Rattle.influence.specs.Cone.{kept_below}
use Rattle.transitions.specs.Transitions.{number_of, rank_in, values_in, next_number, next_in, machine_of}
use Rattle.transitions.proofs.Numbers.{bit-number, rank-at, map_at}
use Rattle.support.proofs.Counting.{gather}
use Rattle.diagrams.specs.Meaning.{Assignment}
use Rattle.diagram_rows.specs.Rows.{Plan}
use Rattle.diagram_rows.specs.Inputs.{positions, wide_row, SameBits}
use Rattle.diagram_rows.proofs.Inputs.{wide-same, wide_below, wide-order, narrow_below, narrow-same, narrow-least}
use Rattle.diagram_rows.proofs.Machine.{latch-value, state-matches}
use Rattle.state_sets.specs.Shape.{row_at}
use Rattle.state_sets.specs.Meaning.{Values, Coded, is_some, Alike, RowsOf}
use Rattle.set_stage.specs.Plans.{code_of, Among, RowsMade}
use Rattle.set_stage.proofs.Bounds.{step_is}

-- ---- states as assignments

pub coded : (part : Part) (latches : List ℕ) → Coded (code_of part latches) (length latches)
unfolding code_of
coded part latches =
    record {
      past = λ s v l. ap (λ (b : Bool). cond b (bit s (rank_in part.kept (get_or latches v 0))) false) (le-ltb v (length latches) l);
    }

pub code_at : (part : Part) (latches : List ℕ) (s v : ℕ) → v < length latches → code_of part latches s v ≡ bit s (rank_in part.kept (get_or latches v 0))
unfolding code_of
code_at part latches s v l = ap (λ (b : Bool). cond b (bit s (rank_in part.kept (get_or latches v 0))) false) (lt-ltb v (length latches) l)

-- the bit of a number that has a value for each latch that is kept
pub kept-bit : (part : Part) → Listed part → (f : ℕ → Bool) (j i : ℕ) → i < length part.kept → get_or part.kept i 0 ≡ j
    → bit (number_of (map f part.kept)) (rank_in part.kept j) ≡ f j
kept-bit part listed f j i l e =
    let r : rank_in part.kept j ≡ i = ap (rank_in part.kept) (sym e) ∙ rank-at part.kept listed.rising i l in
    bit-number (map f part.kept) (rank_in part.kept j) ∙ ap (λ (k : ℕ). get_or (map f part.kept) k false) r ∙ map_at f part.kept i l ∙ ap f e

-- ---- the machine at a row below the last

module _ (part : Part) (b : ℕ) where
  hit-is : (s r : ℕ) → r < 2 ^ length part.circuit.inputs → (machine_of part b).hit s r ≡ hit_in part.circuit b (values_in part s r)
  unfolding machine_of
  hit-is s r l = ap (λ (t : Bool). t && hit_in part.circuit b (values_in part s r)) (lt-ltb r (2 ^ length part.circuit.inputs) l)

  allowed-is : (s r : ℕ) → r < 2 ^ length part.circuit.inputs → is_some ((machine_of part b).step s r) ≡ constrained_in part.circuit (values_in part s r)
  unfolding machine_of next_in
  allowed-is s r l =
      ap (λ (t : Bool). is_some (cond t (next_in part s r) none)) (lt-ltb r (2 ^ length part.circuit.inputs) l)
      ∙ go (constrained_in part.circuit (values_in part s r))
    where
      go : (q : Bool) → is_some (cond q (some (next_number part s r)) none) ≡ q
      go true = refl
      go false = refl

  rows_are : (machine_of part b).rows ≡ 2 ^ length part.circuit.inputs
  unfolding machine_of
  rows_are = refl

  next_bit : (listed : Listed part) (s r x j i : ℕ) → (machine_of part b).step s r ≡ some x → i < length part.kept → get_or part.kept i 0 ≡ j
      → bit x (rank_in part.kept j) ≡ frames.value (values_in part s r) (latch_at part.circuit j).next
  unfolding next_number
  next_bit listed s r x j i e l q =
      ap (λ (n : ℕ). bit n (rank_in part.kept j)) (sym (step_is part b s r x e))
      ∙ kept-bit part listed (λ j. frames.value (values_in part s r) (latch_at part.circuit j).next) j i l q

-- ---- the rows

module _ (part : Part) (right : T (literals_right part.circuit)) (no-cycle : T (acyclic part.circuit)) (listed : Listed part) (b : ℕ) (p : Plan)
    (among : Among part p.latches) (matters : ℕ → Bool) (inputs : p.inputs ≡ kept_below matters (length part.circuit.inputs))
    (rows : ℕ) (rows_is : rows ≡ 2 ^ length p.inputs) (vs : Values) (made : RowsMade part.circuit b p rows vs) where
  abbrev n : ℕ
  n = length part.circuit.inputs

  abbrev vars : ℕ
  vars = length p.latches

  abbrev at : ℕ → Assignment
  at = code_of part p.latches

  few : 2 ^ length (kept_below matters (length part.circuit.inputs)) ≡ rows
  few = ap (λ (l : List ℕ). 2 ^ length l) (sym inputs) ∙ sym rows_is

  abbrev like : ℕ → ℕ
  like r = gather (positions matters (length part.circuit.inputs)) (length part.circuit.inputs) r

  abbrev first : ℕ → ℕ
  first k = wide_row matters (length part.circuit.inputs) k

  like-fits : (r : ℕ) → like r < rows
  like-fits r = subst (λ (x : ℕ). like r < x) few (narrow_below matters n r)

  row-alike : (r s : ℕ) → r < 2 ^ length part.circuit.inputs → Alike (machine_of part b) (code_of part p.latches) (length p.latches) (like r) r s vs
  row-alike r s l =
      let k = like r in
      let same : SameBits n p.inputs r k = subst (λ (is : List ℕ). SameBits n is r k) (sym inputs) (narrow-same matters n r) in
      let latch : (v : ℕ) → v < vars → at s v ≡ values_in part s r (var (latch_at part.circuit (get_or p.latches v 0)).lit) =
      λ v vl.
      let i = among.kept v vl in
      let inside : get_or p.latches v 0 < length part.circuit.latches = subst (λ (j : ℕ). j < length part.circuit.latches) i.2 (listed.inside i.0 i.1) in
      code_at part p.latches s v vl ∙ sym (latch-value part right no-cycle b p s r (get_or p.latches v 0) inside) in
      let h = state-matches part right no-cycle b p s r k (at s) same latch in
      let row = made k (like-fits r) in
      record {
        hits = row.hit (values_in part s r) (at s) h ∙ sym (hit-is part b s r l);
        allowed = row.con (values_in part s r) (at s) h ∙ sym (allowed-is part b s r l);
        leads = λ x v e vl.
            let i = among.kept v vl in
            row.next v vl (values_in part s r) (at s) h ∙ sym (next_bit part b listed s r x (get_or p.latches v 0) i.0 e i.1 i.2)
            ∙ sym (code_at part p.latches x v vl);
      }

  like-first : (k : ℕ) → k < rows → like (first k) ≡ k
  like-first k l =
      let w = length (kept_below matters (length part.circuit.inputs)) in
      sequence-same w (like (first k)) k (narrow_below matters n (first k)) (subst (λ (x : ℕ). k < x) (sym few) l)
      (λ i h. sym ((narrow-same matters n (first k)).bits i h) ∙ (wide-same matters n k).bits i h)

  first-order : (k l : ℕ) → k ≤ l → l < rows → first k ≤ first l
  first-order k l h lt = elim (ℕ_discrete k l) [
    | yes e ↦ omega (arith, ap first e)
    | no e ↦ omega (arith, wide-order matters n k l (omega arith) (subst (λ (x : ℕ). l < x) (sym few) lt))
  ]

  -- where the edge after the rows is true of the start states
  pub rows-of : ((y : ℕ) → y < (machine_of part b).starts → vs (row_at (length p.latches) rows) (code_of part p.latches ((machine_of part b).start y)) ≡ true)
      → RowsOf (machine_of part b) (2 ^ length part.kept) (code_of part p.latches) (length p.latches) rows vs
  rows-of begins =
      record {
        like = like;
        first = first;
        like-fits = λ r l. like-fits r;
        first_fits = λ k l. subst (λ (x : ℕ). first k < x) (sym (rows_are part b)) (wide_below matters n k);
        like-first = like-first;
        first-least = λ r l. narrow-least matters n r;
        first-order = first-order;
        alike = λ r s l sl. row-alike r s (subst (λ (x : ℕ). r < x) (rows_are part b) l);
        begins = begins;
      }

  -- row k of the table is the least row of the machine with its bits at the inputs that matter
  pub rows-first : (begins : (y : ℕ) → y < (machine_of part b).starts → vs (row_at (length p.latches) rows) (code_of part p.latches ((machine_of part b).start y)) ≡ true)
      → (k : ℕ) → (rows-of begins).first k ≡ wide_row matters (length part.circuit.inputs) k
  unfolding rows-of
  rows-first begins k = refl
