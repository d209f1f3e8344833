-- Frames in a graph: the leaves of frame 0 and of the frame after another, their constraints, and the hits of the last one. Assumes nothing.
use mathlib.Core.Path.{◌≡◌, sym, ap, ap₂, ◌∙◌, subst, fun_ext}
use mathlib.Core.Bool.{Bool, true, false, not, cond, ◌&&◌}
use mathlib.Core.List.{List, []}
use Prim.Native.Nat.{ℕ, suc, ◌+◌, ◌*◌, ◌^◌, ◌≤◌, ◌<◌}
use native.Mathlib.Numerals.{add-one}
use native.Mathlib.Omega.{arith}
use lib.Dec.{eqb}
use lib.ListN.{length, get_or}
use Rattle.aiger.specs.Circuit.{Circuit, Latch, var}
use Rattle.aiger.specs.Frames.{value, is_free, free_bit, free_bits, free_starts, run, state}
use Rattle.aiger.specs.Fold.{complement}
use Rattle.layout.specs.Words.{word, circuit_in}
use Rattle.layout.specs.declared.Layout.{Layout}
use Rattle.meaning.proofs.Defined.{input_at, latch_at, input-latch, next_known}
use Rattle.meaning.proofs.Values.{Valuation, valuation-value, state-start, state-next-at}
use Rattle.meaning.proofs.Sequences.{run-input, input-number}
use Rattle.frames.specs.Lanes.{Ready, Leaves}
use Rattle.frames.proofs.Facts.{right, known, no-cycle, gates-are, constraints-are}
use Rattle.frames.proofs.Laws.{bad-of-run, constrained-of-run}
use Rattle.never_search.specs.Runs.{left_by, reaches_by}
use Rattle.never_search.proofs.Left.{left-first, left-next, left-reaches}
use Rattle.frames.specs.Starts.{free_before, start_bit}
use Rattle.frames.proofs.Places.{inputs_are, latches-are, input-var, latch-var, latch-place}
use Rattle.frames.proofs.Starts.{count-part, start-of-run}
use Rattle.frames.proofs.Starts.{latches-room}
use Rattle.literals.specs.Literal.{literal}
use Rattle.nodes.specs.Graph.{Pair, edge_value}
use Rattle.nodes.specs.Store.{pairs_of}
use Rattle.nodes.specs.Edges.{edge_of, edge_word}
use Rattle.nodes.specs.declared.Graph.{Graph}
use Rattle.nodes.specs.declared.Edge.{Edge}
use Rattle.nodes.proofs.Laws.{edge-false, edge-true, word-node, nodes-pairs_of}
use Rattle.graph.specs.Stored.{Stored}
use Rattle.graph.specs.declared.Made.{Made}
use Rattle.graph.specs.Chosen.{Outcome, conjoin}
use Rattle.unroll.specs.Map.{Written, latch_var, input_var, start_word, next_word, input_word, Blank, Edges, mapped}
use Rattle.unroll.specs.Map.{Valued, Keeps, Extensible, Grown, Agrees, GatesMapped, ConstrainedMapped, FramedTo, BarredTo, HitMapped, BarMapped, FramesFit}
use Rattle.unroll.proofs.Edges.{literal-edge, free-node, start-node, literal-value, free-value, start-value}
use Rattle.unroll.proofs.Stores.{written-edges}
use Rattle.unroll.proofs.Facts.{input-nonzero, latch-nonzero, product-next, product_le}
use Rattle.unroll.proofs.Growth.{mapped-kept}
use Rattle.unroll.proofs.Hits.{and-true, complement-value}
use Rattle.unroll.specs.Chosen.{Mapping, literal_in, leaves_made, moving, first_made, next_made, barred, frames_made}
use Rattle.unroll.proofs.Follows.{next-words, leaves-follow, first-follows, framing-first, framing-next}

-- the gates of frame 0
pub record FirstMapped (c : Circuit) (n : ℕ) (work : List ℕ) (g : Graph) (last : List ℕ) (h : Graph) (after : List ℕ) : Type 0 where
  pub grown : Grown n (length c.gates) work g last h
  pub edges : Edges h after
  pub values : (t : ℕ) → n ≡ free_bits c t → Valued c t 0 n last h after
  pub follows : pairs_of work g ≡ [] → Agrees (first_made c n) last h after

-- the gates of the frame after u, where its first input has free bit `first`
pub record NextMapped (c : Circuit) (n first : ℕ) (work : List ℕ) (g : Graph) (map last : List ℕ) (h : Graph) (after : List ℕ)
    : Type 0 where
  pub grown : Grown n (length c.gates) work g last h
  pub edges : Edges h after
  pub values : (t u : ℕ) → n ≡ free_bits c t → u < t → first ≡ free_starts c + length c.inputs * (u + 1) → Valued c t u n work g map
      → Valued c t (u + 1) n last h after
  pub follows : (s : Mapping) → Agrees s work g map → Agrees (next_made c n first s) last h after

module _ {m : List ℕ} {layout : Layout} {order : List ℕ} {count : ℕ} (r : Ready m layout order count) where
  -- ---- the inputs

  module _ (first : ℕ) {before after : List ℕ} (g : Written (input_var m) (input_word first) layout.i before after) where
    kept-constant : get_or after 0 0 ≡ get_or before 0 0
    kept-constant = g.others 0 (input-nonzero r)

    kept-latch : (j : ℕ) → j < length (circuit_in m).latches
        → get_or after (var (latch_at (circuit_in m) j).lit) 0 ≡ get_or before (var (latch_at (circuit_in m) j).lit) 0
    kept-latch j l =
        g.others _
        (λ i k e.
        input-latch (circuit_in m) (right r.held) i j (omega (arith, inputs_are r.held r.layout_of)) l (input-var r.held r.layout_of i k ∙ e))

    -- their edges are those of free bits
    input-edges : (h : Graph) → h.free + 1 ≤ h.nodes → first + layout.i ≤ h.free → Edges h before → Edges h after
    input-edges h p q s = written-edges h.nodes g s (λ i l. omega (arith, free-node (first + i)))

    module _ (t u n : ℕ) (bits : n ≡ free_bits (circuit_in m) t) (within : u ≤ t) (at : first ≡ free_starts (circuit_in m) + length (circuit_in m).inputs * u)
        (gs : List Pair) (x : ℕ) where
      -- their values are the row of frame u
      given-row : (i : ℕ) → i < length (circuit_in m).inputs
          → edge_value n gs (free_bit n x) (get_or after (var (input_at (circuit_in m) i)) 0) ≡ get_or (get_or (run (circuit_in m) t x).rows u []) i false
      given-row i l =
          let c = circuit_in m in
          let k : i < layout.i = omega (arith, inputs_are r.held r.layout_of) in
          let e : first + i ≡ free_starts c + length c.inputs * u + i = omega arith in
          ap (λ (v : ℕ). edge_value n gs (free_bit n x) (get_or after v 0)) (input-var r.held r.layout_of i k)
          ∙ ap (edge_value n gs (free_bit n x)) (g.new i k)
          ∙ free-value n gs (free_bit n x) (first + i) (omega (arith, input-number c t u i (omega arith) l))
          ∙ ap₂ (λ (a b : ℕ). free_bit a x b) bits e ∙ sym (run-input c t x u i (omega arith) l)

      -- with the constant and the latches, they are the leaves of frame u
      row-leaves : (st : List Bool) → edge_value n gs (free_bit n x) (get_or before 0 0) ≡ false
          → ((j : ℕ) → j < length (circuit_in m).latches → edge_value n gs (free_bit n x) (get_or before (var (latch_at (circuit_in m) j).lit) 0) ≡ get_or st j false)
          → Leaves (circuit_in m) (get_or (run (circuit_in m) t x).rows u []) st (λ v. edge_value n gs (free_bit n x) (get_or after v 0))
      row-leaves st z f =
          record {
            constant = ap (edge_value n gs (free_bit n x)) kept-constant ∙ z;
            input = given-row;
            latch = λ j l. ap (edge_value n gs (free_bit n x)) (kept-latch j l) ∙ f j l;
          }

  -- ---- frame 0

  module _ {blank started : List ℕ} (empty : Blank blank) (s : Written (latch_var m layout.latches) (start_word m layout.latches) layout.l blank started) where
    start-edges : (h : Graph) → h.free + 1 ≤ h.nodes → free_starts (circuit_in m) ≤ h.free → Edges h started
    start-edges h p q =
        written-edges h.nodes s (λ v. omega (arith, empty v))
        (λ j l.
        omega (
          arith,
          start-node (word m (layout.latches + 3 * j)) (word m (layout.latches + 3 * j + 2)) (free_before (circuit_in m) j) (free_starts (circuit_in m))
              (count-part r.held r.layout_of j l),
        ))

    start-bit : (n x j : ℕ) → j < layout.l
        → cond (eqb (word m (layout.latches + 3 * j + 2)) (word m (layout.latches + 3 * j))) (free_bit n x (free_before (circuit_in m) j)) (eqb (word m (layout.latches + 3 * j + 2)) 1)
        ≡ start_bit (circuit_in m) n x j
    unfolding start_bit
    start-bit n x j l =
        ap (λ (y : Latch). cond (is_free y) (free_bit n x (free_before (circuit_in m) j)) (eqb y.reset 1)) (sym (latch-place r.held r.layout_of j l))

    start-latch : (t n : ℕ) → n ≡ free_bits (circuit_in m) t → (gs : List Pair) (x j : ℕ) → j < length (circuit_in m).latches
        → edge_value n gs (free_bit n x) (get_or started (var (latch_at (circuit_in m) j).lit) 0) ≡ get_or (state (circuit_in m) (run (circuit_in m) t x) 0) j false
    start-latch t n bits gs x j l =
        let c = circuit_in m in
        let k : j < layout.l = omega (arith, latches-are r.held r.layout_of) in
        ap (λ (v : ℕ). edge_value n gs (free_bit n x) (get_or started v 0)) (latch-var r.held r.layout_of j k)
        ∙ ap (edge_value n gs (free_bit n x)) (s.new j k)
        ∙ start-value n gs (free_bit n x) (word m (layout.latches + 3 * j)) (word m (layout.latches + 3 * j + 2)) (free_before c j)
        (omega (arith, count-part r.held r.layout_of j k, latches-room c t))
        ∙ start-bit n x j k ∙ ap (λ (a : ℕ). start_bit c a x j) bits ∙ start-of-run c t x j l
        ∙ ap (λ (st : List Bool). get_or st j false) (sym (state-start c (run c t x)))

    pub first-edges : (first : ℕ) {filled : List ℕ} → Written (input_var m) (input_word first) layout.i started filled → (h : Graph) → h.free + 1 ≤ h.nodes
        → first ≡ free_starts (circuit_in m) → first + layout.i ≤ h.free → Edges h filled
    first-edges first g h p e q = input-edges first g h p q (start-edges h p (omega arith))

    pub first-mapped : (first : ℕ) {n : ℕ} {work filled last after : List ℕ} {g h : Graph} → Written (input_var m) (input_word first) layout.i started filled
        → first ≡ free_starts (circuit_in m) → GatesMapped (circuit_in m) n work g filled last h after → FirstMapped (circuit_in m) n work g last h after
    first-mapped first {n} {work} {filled} {last} {after} {g} i e w =
        record {
          grown = w.grown;
          edges = w.edges;
          values = λ t bits x l.
              let gs = pairs_of work g in
              w.values x l _ _
              (row-leaves first i t 0 n bits (omega arith) (omega arith) gs x (state (circuit_in m) (run (circuit_in m) t x) 0)
              (ap (edge_value n gs (free_bit n x)) (s.others 0 (latch-nonzero r) ∙ empty 0) ∙ edge-false n gs (free_bit n x)) (start-latch t n bits gs x));
          follows = λ z. first-follows r n e empty z s i w.follows;
        }

  -- ---- the next frame

  module _ (states : List ℕ) {old moved : List ℕ} (next : (j : ℕ) → j < layout.l → get_or states j 0 ≡ next_word m layout.latches old j)
      (s : Written (latch_var m layout.latches) (λ j. get_or states j 0) layout.l old moved) where
    next-edges : (h : Graph) → Edges h old → Edges h moved
    next-edges h b =
        written-edges h.nodes s b
        (λ j l.
        let w = word m (layout.latches + 3 * j + 1) in
        subst (λ (y : ℕ). var y < h.nodes) (sym (next j l)) (omega (arith, literal-edge old (literal w), b (var w))))

    next-latch : (t u n : ℕ) (gs : List Pair) (x : ℕ)
        → Valuation (circuit_in m) (get_or (run (circuit_in m) t x).rows u []) (state (circuit_in m) (run (circuit_in m) t x) u) (λ v. edge_value n gs (free_bit n x) (get_or old v 0))
        → (j : ℕ) → j < length (circuit_in m).latches
        → edge_value n gs (free_bit n x) (get_or moved (var (latch_at (circuit_in m) j).lit) 0) ≡ get_or (state (circuit_in m) (run (circuit_in m) t x) (suc u)) j false
    next-latch t u n gs x v j l =
        let c = circuit_in m in
        let k : j < layout.l = omega (arith, latches-are r.held r.layout_of) in
        ap (λ (v : ℕ). edge_value n gs (free_bit n x) (get_or moved v 0)) (latch-var r.held r.layout_of j k)
        ∙ ap (edge_value n gs (free_bit n x)) (s.new j k ∙ next j k)
        ∙ literal-value n gs (free_bit n x) old (word m (layout.latches + 3 * j + 1))
        ∙ ap (λ (y : Latch). value (λ v. edge_value n gs (free_bit n x) (get_or old v 0)) y.next) (sym (latch-place r.held r.layout_of j k))
        ∙ valuation-value c (right r.held) (known r.held) (no-cycle r.held) (run c t x) u v (latch_at c j).next (next_known c (known r.held) j)
        ∙ sym (state-next-at c (run c t x) u j l)

    pub moved-edges : (first : ℕ) {filled : List ℕ} → Written (input_var m) (input_word first) layout.i moved filled → (h : Graph) → h.free + 1 ≤ h.nodes
        → first + layout.i ≤ h.free → Edges h old → Edges h filled
    moved-edges first g h p q b = input-edges first g h p q (next-edges h b)

    pub next-mapped : (first : ℕ) {n : ℕ} {work filled last after : List ℕ} {g h : Graph} → Written (input_var m) (input_word first) layout.i moved filled
        → GatesMapped (circuit_in m) n work g filled last h after → NextMapped (circuit_in m) n first work g old last h after
    next-mapped first {n} {work} {filled} {last} {after} {g} {h} i w =
        record {
          grown = w.grown;
          edges = w.edges;
          values = λ t u bits l at v.
              subst (λ (k : ℕ). Valued (circuit_in m) t k n last h after) (sym (add-one u))
              (λ x b.
              let gs = pairs_of work g in
              w.values x b _ _
              (row-leaves first i t (suc u) n bits l (at ∙ ap (λ (k : ℕ). free_starts (circuit_in m) + length (circuit_in m).inputs * k) (add-one u)) gs x
              (state (circuit_in m) (run (circuit_in m) t x) (suc u))
              (ap (edge_value n gs (free_bit n x)) (s.others 0 (latch-nonzero r)) ∙ (v x b).constant) (next-latch t u n gs x (v x b))));
          follows = λ z a.
              let words = moving (circuit_in m) z in
              w.follows (leaves_made (circuit_in m) first words z) (leaves-follow r first words z (next-words r states old next z a) a s i);
        }

  -- ---- the hits of the last frame

  pub reached : (alone : Bool) (b t n : ℕ) (work : List ℕ) (before : Made) (map last : List ℕ) (made : Made) → Valued (circuit_in m) t t n work before.graph map
      → Keeps (circuit_in m) t (λ q. left_by alone (circuit_in m) b q t) n work before → HitMapped (circuit_in m) b n work before map last made → (x : ℕ) → x < 2 ^ n
      → edge_value n (pairs_of last made.graph) (free_bit n x) (edge_word made.edge) ≡ reaches_by alone (circuit_in m) b t x
  reached alone b t n work before map last made v a w x l =
      let c = circuit_in m in
      w.line x l
      ∙ ap₂ (λ (y z : Bool). y && z) (a x l) (bad-of-run (right r.held) (known r.held) (no-cycle r.held) (run c t x) t (v x l) b)
      ∙ left-reaches alone c b t x

  -- ---- frame after frame

  -- the values of a frame stay where the graph grows
  kept-values : (t u : ℕ) (map : List ℕ) {n count : ℕ} {work last : List ℕ} {g h : Graph} → Edges g map → Grown n count work g last h → Valued (circuit_in m) t u n work g map
      → Valued (circuit_in m) t u n last h map
  kept-values t u map {n = n} s k v x l =
      let c = circuit_in m in
      subst (λ (w : ℕ → Bool). Valuation c (get_or (run c t x).rows u []) (state c (run c t x) u) w)
      (sym (fun_ext (λ i. mapped-kept map k s x i))) (v x l)

  -- frame 0
  pub framed-first : {work : List ℕ} {g : Graph} {mid : List ℕ} {h : Graph} {map last : List ℕ} {made : Made} → Stored work g → pairs_of work g ≡ []
      → FirstMapped (circuit_in m) g.free work g mid h map → ConstrainedMapped (circuit_in m) (edge_of 0 true) h.free mid h map last made
      → (alone : Bool) (b t : ℕ) → FramedTo alone (circuit_in m) b t 0 g.free g.room last made map
  framed-first {work} {g} {mid} {h} {map} {last} {made} s none f k' alone b t =
      let c = circuit_in m in
      let n = g.free in
      let k = subst (λ (i : ℕ). ConstrainedMapped c (edge_of 0 true) i mid h map last made) f.grown.free k' in
      let a = f.follows none in
      let q = framing-first alone c b n {last = last} {map = map} {h = made.graph} {e = edge_word made.edge} a.edges (k.follows (first_made c n) a) in
      record {
        stored = k.grown.stored;
        free = k.grown.free;
        room-is = k.grown.room ∙ f.grown.room;
        most = omega (arith, k.grown.most, f.grown.most, nodes-pairs_of work g s.sized.leaves, ap length none);
        edges = λ v. omega (arith, f.edges v, k.grown.least);
        node = k.node;
        values = λ bits. kept-values t 0 map f.edges k.grown (f.values t bits);
        kept = λ bits x l.
            k.left x l
            ∙ ap₂ (λ (y z : Bool). y && z) (edge-true n (pairs_of mid h) (free_bit n x))
            (constrained-of-run (right r.held) (known r.held) (no-cycle r.held) (run c t x) 0 (f.values t bits x l))
            ∙ sym (left-first c b (run c t x) alone);
        agrees = q.0;
        left = q.1;
      }

  -- what goes on to the next frame
  pub framed-barred : (alone : Bool) (b t u room : ℕ) {work last map : List ℕ} {before made : Made}
      → FramedTo alone (circuit_in m) b t u before.graph.free room work before map
      → BarMapped alone (circuit_in m) b before.graph.free work before map last made
      → BarredTo alone (circuit_in m) b t u before.graph.free room last made map
  framed-barred true b t u room {work} {last} {map} {before} {made} f w =
      let c = circuit_in m in
      let n = before.graph.free in
      let l = get_or c.bads b 0 in
      let z = frames_made true c b n u in
      let e = ap (λ (i : ℕ). conjoin n z.mapping.gates i (literal_in z.mapping.edges (complement l))) (sym f.left) ∙ w.follows z.mapping f.agrees in
      record {
        stored = w.grown.stored;
        free = w.grown.free;
        room-is = w.grown.room ∙ f.room-is;
        most = omega (arith, w.grown.most, f.most);
        edges = λ v. omega (arith, f.edges v, w.grown.least);
        node = w.node;
        values = λ bits. kept-values t u map f.edges w.grown (f.values bits);
        kept = λ bits x h.
            w.line x h
            ∙ ap₂ (λ (y i : Bool). y && i) (f.kept bits x h)
            (complement-value (mapped n work before.graph map x) l
            ∙ ap not (bad-of-run (right r.held) (known r.held) (no-cycle r.held) (run c t x) u (f.values bits x h) b));
        agrees = record { gates = sym (ap (λ (o : Outcome). o.gates) e); edges = f.agrees.edges };
        left = sym (ap (λ (o : Outcome). o.edge) e);
      }
  framed-barred false b t u room {work} {last} {map} {before} {made} f w =
      let c = circuit_in m in
      let n = before.graph.free in
      subst (λ (x : List ℕ). BarredTo false c b t u n room x made map) (sym w.0)
      (subst (λ (y : Made). BarredTo false c b t u n room work y map) (sym w.1)
      (record {
        stored = f.stored;
        free = f.free;
        room-is = f.room-is;
        most = omega (arith, f.most);
        edges = f.edges;
        node = f.node;
        values = f.values;
        kept = λ bits x h. f.kept bits x h ∙ sym (and-true (left_by false c b (run c t x) u));
        agrees = f.agrees;
        left = f.left;
      }))

  -- one frame more
  pub framed-next : (first : ℕ) {work mid last map after : List ℕ} {before : Made} {h : Graph} {made : Made}
      → NextMapped (circuit_in m) before.graph.free first work before.graph map mid h after
      → ConstrainedMapped (circuit_in m) before.edge h.free mid h after last made → (alone : Bool) (b t u room : ℕ) → u < t
      → first ≡ free_starts (circuit_in m) + length (circuit_in m).inputs * (u + 1)
      → BarredTo alone (circuit_in m) b t u before.graph.free room work before map
      → FramedTo alone (circuit_in m) b t (u + 1) before.graph.free room last made after
  framed-next first {work = work} {mid = mid} {last = last} {map = map} {after = after} {before = before} {h = h} {made = made} s k' alone b t u room less at f =
      let c = circuit_in m in
      let n = before.graph.free in
      let z = barred alone c b n (frames_made alone c b n u) in
      let k = subst (λ (i : ℕ). ConstrainedMapped c before.edge i mid h after last made) s.grown.free k' in
      let a = s.follows z.mapping f.agrees in
      let q = framing-next alone c b n u first at {last = last} {map = after} {h = made.graph} {from = edge_word before.edge} {e = edge_word made.edge} f.left a.edges (k.follows (next_made c n first z.mapping) a) in
      let p : u + 1 ≡ suc u = add-one u in
      record {
        stored = k.grown.stored;
        free = k.grown.free;
        room-is = k.grown.room ∙ s.grown.room ∙ f.room-is;
        most = omega (arith, k.grown.most, s.grown.most, f.most, product-next (length c.gates + length c.constraints) (u + 1));
        edges = λ v. omega (arith, s.edges v, k.grown.least);
        node = k.node;
        values = λ bits. kept-values t (u + 1) after s.edges k.grown (s.values t u bits less at (f.values bits));
        kept = λ bits x l.
            let v = s.values t u bits less at (f.values bits) x l in
            let old = s.grown.kept (free_bit n x) (edge_word before.edge) (omega (arith, word-node before.edge, f.node)) ∙ f.kept bits x l in
            subst (λ (i : ℕ). edge_value n (pairs_of last made.graph) (free_bit n x) (edge_word made.edge) ≡ left_by alone c b (run c t x) i) (sym p)
            (k.left x l
            ∙ ap₂ (λ (y i : Bool). y && i) old
            (constrained-of-run (right r.held) (known r.held) (no-cycle r.held) (run c t x) (suc u)
            (subst (λ (i : ℕ). Valuation c (get_or (run c t x).rows i []) (state c (run c t x) i) (mapped n mid h after x)) p v))
            ∙ sym (left-next c b (run c t x) alone u));
        agrees = q.0;
        left = q.1;
      }

  -- there is room for the bad line of a frame, and for the next frame
  module _ {alone : Bool} {b t u : ℕ} {work last after : List ℕ} {start made : Made} {map : List ℕ} (f : FramesFit m layout alone b t work start map) (l : u + 1 ≤ t) where
    pub bar-room : FramedTo alone (circuit_in m) b t u start.graph.free start.graph.room last made after → Extensible 1 last made.graph after
    bar-room w =
        let a = length (circuit_in m).gates + length (circuit_in m).constraints in
        record {
          stored = w.stored;
          room = omega (arith, w.most, w.room-is, f.room, product_le a {u = u + 1} {t = t + 1} (omega arith));
          edges = w.edges;
        }

    pub frame-room : BarredTo alone (circuit_in m) b t u start.graph.free start.graph.room last made after
        → Extensible (layout.a + layout.c) last made.graph after
    frame-room w =
        let a = length (circuit_in m).gates + length (circuit_in m).constraints in
        let e : layout.a + layout.c ≡ a = omega (arith, gates-are r, constraints-are r) in
        record {
          stored = w.stored;
          room = omega (arith, w.most, w.room-is, f.room, e, product-next a (u + 1), product_le a {u = u + 1 + 1} {t = t + 1} (omega arith));
          edges = w.edges;
        }
