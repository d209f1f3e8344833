-- The graph and the map follow the function of the circuit, step by step. Assumes nothing.
use mathlib.Core.Path.{◌≡◌, refl, sym, ap, ap₂, ◌∙◌, subst}
use mathlib.Core.Bool.{Bool, true, false, cond}
use mathlib.Core.List.{List, [], map}
use Prim.Native.Nat.{ℕ, zero, suc, ◌+◌, ◌-◌, ◌*◌, ◌<◌}
use native.Mathlib.Numerals.{add-one}
use native.Mathlib.Decide.{ℕ_discrete}
use native.Mathlib.Omega.{arith}
use borrow.Author.Tests.{eq-eqb, ne_eqb}
use lib.Dec.{eqb}
use lib.ListN.{length, get_or, set}
use lib.Seq.{get_or-set_same, get_or-set_other, get_or-take}
use Rattle.aiger.specs.Bits.{odd}
use Rattle.aiger.specs.Lists.{upto}
use Rattle.aiger.specs.Circuit.{Circuit, Gate, Latch, var}
use Rattle.aiger.specs.Frames.{free_starts}
use Rattle.layout.specs.Order.{gate_at, Ordered, depth_first}
use Rattle.layout.specs.Words.{word, latch_in, circuit_in}
use Rattle.layout.specs.declared.Layout.{Layout}
use Rattle.meaning.specs.Frame.{input_at, latch_at}
use Rattle.frames.specs.Lanes.{Ready}
use Rattle.frames.proofs.Evaluation.{gate_on}
use Rattle.frames.specs.Starts.{free_before}
use Rattle.frames.proofs.Places.{inputs_are, latches-are, input-var, latch-var, latch-place}
use Rattle.literals.specs.Literal.{literal}
use Rattle.nodes.specs.Graph.{Pair}
use Rattle.nodes.specs.Store.{pair_of, pairs_of}
use Rattle.nodes.specs.Edges.{word_edge, edge_word, opposite}
use Rattle.nodes.specs.declared.Graph.{Graph}
use Rattle.graph.specs.Chosen.{Outcome, conjoin}
use Rattle.graph.specs.Stored.{empty_graph}
use Rattle.unroll.specs.Chosen.{Mapping, literal_in, filled, gate_made, gates_made, leaves_made, frame_made, starting, moving, first_made, next_made, constrained_made, barred, frames_made}
use Rattle.unroll.specs.Map.{literal_edge, start_edge, free_edge, Written, latch_var, input_var, start_word, next_word, input_word, Blank, Agrees}

-- the edge of a literal
pub literal-follows : {s : Mapping} {work : List ℕ} {g : Graph} {maps : List ℕ} → Agrees s work g maps → (w : ℕ)
    → edge_word (literal_edge maps (literal w)) ≡ literal_in s.edges w
literal-follows a w = ap (λ (e : ℕ). edge_word (cond (odd w) (opposite (word_edge e)) (word_edge e))) (a.edges (var w))

-- ---- gates

pub gate-follows : (gate : Gate) (n : ℕ) (work : List ℕ) (g : Graph) (maps last : List ℕ) (h : Graph) (e : ℕ) → var gate.lit < length maps
    → conjoin n (pairs_of work g) (edge_word (literal_edge maps (literal gate.left))) (edge_word (literal_edge maps (literal gate.right)))
    ≡ record { gates = pairs_of last h; edge = e }
    → (s : Mapping) → Agrees s work g maps → Agrees (gate_made n gate s) last h (set maps (var gate.lit) e)
unfolding gate_made
gate-follows gate n work g maps last h e l c s a =
    let v : ℕ = var gate.lit in
    let q : conjoin n s.gates (literal_in s.edges gate.left) (literal_in s.edges gate.right) ≡ record { gates = pairs_of last h; edge = e } =
    ap (λ (gs : List Pair). conjoin n gs (literal_in s.edges gate.left) (literal_in s.edges gate.right)) (sym a.gates)
    ∙ ap₂ (λ (x y : ℕ). conjoin n (pairs_of work g) x y) (sym (literal-follows a gate.left)) (sym (literal-follows a gate.right)) ∙ c in
    record {
      gates = sym (ap (λ (o : Outcome). o.gates) q);
      edges = λ u. go u (ap (λ (o : Outcome). o.edge) q) (ℕ_discrete v u);
    }
  where
    go : (u : ℕ) {d : ℕ} → d ≡ e → Dec (var gate.lit ≡ u) → get_or (set maps (var gate.lit) e) u 0 ≡ cond (eqb (var gate.lit) u) d (s.edges u)
    go u {d} q (yes z) =
        ap (λ (i : ℕ). get_or (set maps (var gate.lit) e) i 0) (sym z) ∙ get_or-set_same maps (var gate.lit) e 0 l ∙ sym q
        ∙ sym (ap (λ (b : Bool). cond b d (s.edges u)) (eq-eqb (var gate.lit) u z))
    go u {d} q (no z) =
        get_or-set_other maps (var gate.lit) u e 0 (λ i. z (sym i)) ∙ a.edges u
        ∙ sym (ap (λ (b : Bool). cond b d (s.edges u)) (ne_eqb (var gate.lit) u z))

-- the gate at place k of the order
pub chosen-gate : {c : Circuit} {order : List ℕ} → Ordered c order → (k : ℕ) → k < length c.gates → gate_on c order k ≡ gate_at c (get_or (depth_first c) k 0)
chosen-gate {c} {order} o k l = ap (gate_at c) (sym (get_or-take (length c.gates) order k 0 l) ∙ ap (λ (x : List ℕ). get_or x k 0) o.chosen)

module _ (c : Circuit) (n : ℕ) {last : List ℕ} {h : Graph} {after : List ℕ} where
  pub gates-start : (s : Mapping) → Agrees s last h after → Agrees (gates_made c n 0 s) last h after
  unfolding gates_made
  gates-start s a = a

  pub gates-more : (k : ℕ) (s : Mapping) {gate : Gate} → gate ≡ gate_at c (get_or (depth_first c) k 0) → Agrees (gate_made n gate (gates_made c n k s)) last h after
      → Agrees (gates_made c n (k + 1) s) last h after
  unfolding gates_made
  gates-more k s e a = rw (add-one k) (subst (λ (x : Gate). Agrees (gate_made n x (gates_made c n k s)) last h after) e a)

-- ---- leaves

filled_at : (place words edges : ℕ → ℕ) (v x n : ℕ) → ((j : ℕ) → j < n → place j ≡ v → x ≡ words j)
    → (((j : ℕ) → j < n → place j ≡ v → ⊥) → x ≡ edges v) → x ≡ filled place words n edges v
unfolding filled
filled_at place words edges v x zero new old = old (λ j l. absurd (omega arith))
filled_at place words edges v x (suc n) new old =
    go (ℕ_discrete (place n) v)
    (λ z. filled_at place words edges v x n (λ j l. new j (omega arith)) (λ none. old (λ j l e. rest z none j l e (ℕ_discrete j n))))
  where
    rest : (place n ≡ v → ⊥) → ((j : ℕ) → j < n → place j ≡ v → ⊥) → (j : ℕ) → j < suc n → place j ≡ v → Dec (j ≡ n) → ⊥
    rest z none j l e (yes q) = z (ap place (sym q) ∙ e)
    rest z none j l e (no q) = none j (omega arith) e

    go : Dec (place n ≡ v) → ((place n ≡ v → ⊥) → x ≡ filled place words n edges v) → x ≡ cond (eqb (place n) v) (words n) (filled place words n edges v)
    go (yes e) r = new n (omega arith) e ∙ sym (ap (λ (b : Bool). cond b (words n) (filled place words n edges v)) (eq-eqb (place n) v e))
    go (no z) r = r z ∙ sym (ap (λ (b : Bool). cond b (words n) (filled place words n edges v)) (ne_eqb (place n) v z))

-- words that are written, as words of the function
filled_is : {at put : ℕ → ℕ} {n : ℕ} {before after : List ℕ} (place words edges : ℕ → ℕ) → Written at put n before after
    → ((j : ℕ) → j < n → place j ≡ at j) → ((j : ℕ) → j < n → put j ≡ words j) → ((v : ℕ) → get_or before v 0 ≡ edges v)
    → (v : ℕ) → get_or after v 0 ≡ filled place words n edges v
filled_is {at} {put} {n} {before} {after} place words edges s p w b v =
    filled_at place words edges v (get_or after v 0) n
    (λ j l e. ap (λ (i : ℕ). get_or after i 0) (sym e ∙ p j l) ∙ s.new j l ∙ w j l)
    (λ none. s.others v (λ j l e. none j l (p j l ∙ e)) ∙ b v)

module _ {m : List ℕ} {layout : Layout} {order : List ℕ} {count : ℕ} (r : Ready m layout order count) where
  -- the words of the latches' starts
  pub start-words : (j : ℕ) → j < layout.l → start_word m layout.latches j ≡ starting (circuit_in m) j
  start-words j l =
      ap (λ (x : Latch). edge_word (start_edge x.lit x.reset (free_before (circuit_in m) j))) (sym (latch-place r.held r.layout_of j l))

  -- the words of the next literals
  pub next-words : (states old : List ℕ) → ((j : ℕ) → j < layout.l → get_or states j 0 ≡ next_word m layout.latches old j)
      → (s : Mapping) {work : List ℕ} {g : Graph} → Agrees s work g old → (j : ℕ) → j < layout.l → get_or states j 0 ≡ moving (circuit_in m) s j
  next-words states old next s a j l =
      next j l ∙ literal-follows a (word m (layout.latches + 3 * j + 1))
      ∙ ap (λ (x : Latch). literal_in s.edges x.next) (sym (latch-place r.held r.layout_of j l))

  module _ (first : ℕ) (words : ℕ → ℕ) (s : Mapping) where
    pub leaves-follow : {put : ℕ → ℕ} {work before mid after : List ℕ} {g : Graph} → ((j : ℕ) → j < layout.l → put j ≡ words j) → Agrees s work g before
        → Written (latch_var m layout.latches) put layout.l before mid → Written (input_var m) (input_word first) layout.i mid after
        → Agrees (leaves_made (circuit_in m) first words s) work g after
    unfolding leaves_made
    leaves-follow {mid = mid} {after = after} w a p q =
        let c : Circuit = circuit_in m in
        let moved : (v : ℕ) → get_or mid v 0 ≡ filled (λ j. var (latch_at c j).lit) words (length c.latches) s.edges v =
        λ v. filled_is (λ j. var (latch_at c j).lit) words s.edges p (latch-var r.held r.layout_of) w a.edges v
        ∙ ap (λ (k : ℕ). filled (λ j. var (latch_at c j).lit) words k s.edges v) (latches-are r.held r.layout_of) in
        record {
          gates = a.gates;
          edges = λ v.
              filled_is (λ i. var (input_at c i)) (λ i. edge_word (free_edge (first + i))) (filled (λ j. var (latch_at c j).lit) words (length c.latches) s.edges) q
              (input-var r.held r.layout_of) (λ i l. refl) moved v
              ∙ ap (λ (k : ℕ). filled (λ i. var (input_at c i)) (λ i. edge_word (free_edge (first + i))) k (filled (λ j. var (latch_at c j).lit) words (length c.latches) s.edges) v)
              (inputs_are r.held r.layout_of);
        }

  -- frame 0
  pub first-follows : (n : ℕ) {first : ℕ} {work blank started full last after : List ℕ} {g h : Graph} → first ≡ free_starts (circuit_in m) → Blank blank → pairs_of work g ≡ []
      → Written (latch_var m layout.latches) (start_word m layout.latches) layout.l blank started
      → Written (input_var m) (input_word first) layout.i started full
      → ((s : Mapping) → Agrees s work g full → Agrees (gates_made (circuit_in m) n (length (circuit_in m).gates) s) last h after)
      → Agrees (first_made (circuit_in m) n) last h after
  first-follows n {first} {work} {blank} {full = full} {last = last} {after = after} {g = g} {h = h} e z gs p q f =
      let c : Circuit = circuit_in m in
      let s : Mapping = record { gates = []; edges = λ v. 0 } in
      subst (λ (i : ℕ). Agrees (frame_made c n i (starting c) s) last h after) e
      (f (leaves_made c first (starting c) s) (leaves-follow first (starting c) s start-words (record { gates = gs; edges = z }) p q))

-- frame 0 with its constraints, and one frame more
pub framing-first : (alone : Bool) (c : Circuit) (b n : ℕ) {last map : List ℕ} {h : Graph} {e : ℕ} → ((v : ℕ) → get_or map v 0 ≡ (first_made c n).edges v)
    → constrained_made c n 1 (first_made c n) ≡ record { gates = pairs_of last h; edge = e }
    → Agrees (frames_made alone c b n 0).mapping last h map × (e ≡ (frames_made alone c b n 0).left)
unfolding frames_made
framing-first alone c b n s q = (
  record { gates = sym (ap (λ (o : Outcome). o.gates) q); edges = s },
  sym (ap (λ (o : Outcome). o.edge) q),
)

pub framing-next : (alone : Bool) (c : Circuit) (b n u first : ℕ) → first ≡ free_starts c + length c.inputs * (u + 1) → {last map : List ℕ} {h : Graph} {from e : ℕ}
    → (let f = barred alone c b n (frames_made alone c b n u) in
    from ≡ f.left → ((v : ℕ) → get_or map v 0 ≡ (next_made c n first f.mapping).edges v)
    → constrained_made c n from (next_made c n first f.mapping) ≡ record { gates = pairs_of last h; edge = e }
    → Agrees (frames_made alone c b n (u + 1)).mapping last h map × (e ≡ (frames_made alone c b n (u + 1)).left))
unfolding frames_made
framing-next alone c b n u first at {last} {map} {h} {from} {e} f s q =
    let i : first ≡ free_starts c + length c.inputs * suc u = at ∙ ap (λ (k : ℕ). free_starts c + length c.inputs * k) (add-one u) in
    let w = barred alone c b n (frames_made alone c b n u) in
    let z = w.mapping in
    let q' : constrained_made c n w.left (next_made c n (free_starts c + length c.inputs * suc u) z) ≡ record { gates = pairs_of last h; edge = e } =
    ap₂ (λ (a b : ℕ). constrained_made c n a (next_made c n b z)) (sym f) (sym i) ∙ q in
    subst (λ (k : ℕ). Agrees (frames_made alone c b n k).mapping last h map × (e ≡ (frames_made alone c b n k).left)) (sym (add-one u)) (
      record {
        gates = sym (ap (λ (o : Outcome). o.gates) q');
        edges = λ v. s v ∙ ap (λ (b : ℕ). (next_made c n b z).edges v) i;
      },
      sym (ap (λ (o : Outcome). o.edge) q'),
    )

-- a graph without gates
pub no-gates : (work : List ℕ) (free room : ℕ) {g : Graph} → g ≡ empty_graph free room → pairs_of work g ≡ []
unfolding pairs_of
no-gates work free room {g} e =
    let z : g.nodes - (g.free + 1) ≡ 0 = omega (arith, ap (λ (x : Graph). x.nodes) e, ap (λ (x : Graph). x.free) e) in
    ap (λ (k : ℕ). map (λ i. pair_of work (g.free + 1 + i)) (upto k)) z
