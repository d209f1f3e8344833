-- The edges of a row mean what they were made for. Assumes nothing.
use mathlib.Core.Path.{◌≡◌, refl, sym, ap, ap₂, ◌∙◌, subst}
use mathlib.Core.Bool.{Bool, true, false, not, cond, ◌&&◌}
use mathlib.Core.List.{List, [], ◌∷◌, ◌++◌, map}
use mathlib.Core.Option.{Option, none, some}
use Prim.Native.Nat.{ℕ, zero, suc, ◌+◌, ◌-◌, ◌/◌, ◌%◌, ◌^◌, ◌<◌}
use native.Mathlib.Nat.{mod-lt}
use native.Mathlib.Decide.{ℕ_discrete, dec_lt}
use native.Mathlib.Omega.{arith}
use borrow.Author.Tests.{eqb-false, not-true}
use lib.Dec.{eqb, ltb}
use lib.ListN.{length, get_or, set, replicate, length-append, length-map, get_or-append}
use lib.Seq.{get_or_at, get_or-append-add, set_out, get_or-set_same, get_or-set_other}
use Rattle.aiger.specs.Lists.{every}
use Rattle.aiger.specs.Bits.{nonzero, odd, bit}
use Rattle.aiger.specs.Circuit.{Circuit, var}
use Rattle.aiger.specs.Frames as frames
use Rattle.aiger.proofs.Tests.{T_true, true-T}
use Rattle.literals.specs.Literal.{literal}
use Rattle.meaning.specs.Frame.{input_at, latch_at, gate_at}
use Rattle.meaning.proofs.Lists.{get_or-map, get_d-same, every-at}
use Rattle.frames.specs.Lanes.{constrained_in, hit_in}
use Rattle.diagrams.specs.States.{State, Outcome, made}
use Rattle.diagrams.specs.declared.Vertex.{Vertex}
use Rattle.diagrams.specs.Words.{flip}
use Rattle.diagrams.specs.Meaning.{value, Terms, Good, Front, Built, Both, Answer, no_edge, is-edge, Right}
use Rattle.diagrams.proofs.Values.{flip-in, value_not, value-false, value-true, front_same, front-more, front-value, front-in}
use Rattle.diagrams.proofs.Sound.{right-as, right-here, right-then, right-if, made-right}
use Rattle.conjunction.specs.Conjunction.{both}
use Rattle.conjunction.proofs.Sound.{both_right}
use Rattle.diagram_rows.specs.Rows.{absent, is_present, edge_in, Filled, filled, on_words, fill_then, on_made, fill_from, noted, noted_in, latch_literal, next_literal, latches_put, bits_put, gate_put, gate_put_in, gates_put, with_literal, with_literals, row_words, row_end, Plan, blank, row_made, plan_of, plan_length, row_in}
use Rattle.diagram_rows.specs.Meaning.{Means, MapMeans, RowMeans, Got, no_words, has_words, RightFilled}

-- ---- answers

filled-then : {terms : Terms} {s : State} {p q : List Vertex → List ℕ → Type 0} (o : Filled) (k : State → List ℕ → Filled) → RightFilled terms s p o
    → ((ws : List ℕ) → p o.state.nodes ws → RightFilled terms o.state q (k o.state ws))
    → RightFilled terms s q (fill_then o k)
filled-then {terms} {s} {p} {q} o k r f = go r.answer
  where
    go : {x : Option (List ℕ)} → Got (p o.state.nodes) x → RightFilled terms s q (on_words x o.state k)
    go no_words = record { good = r.good; grows = r.grows; answer = no_words }
    go (has_words {ws} w) = let t = f ws w in record { good = t.good; grows = front-more r.grows t.grows; answer = t.answer }

filled-from : {terms : Terms} {s : State} {p : List Vertex → ℕ → Type 0} {q : List Vertex → List ℕ → Type 0} (o : Outcome) (k : State → ℕ → Filled)
    → Right terms s p o
    → ((e : ℕ) → p o.state.nodes e → RightFilled terms o.state q (k o.state e))
    → RightFilled terms s q (fill_from o k)
filled-from {terms} {s} {p} {q} o k r f = go r.answer
  where
    go : {x : Option ℕ} → Answer (p o.state.nodes) x → RightFilled terms s q (on_made x o.state k)
    go no_edge = record { good = r.good; grows = r.grows; answer = no_words }
    go (is-edge {e} w) = let t = f e w in record { good = t.good; grows = front-more r.grows t.grows; answer = t.answer }

filled-here : {terms : Terms} {s : State} {p : List Vertex → List ℕ → Type 0} → Good terms s → (x : Option (List ℕ)) → Got (p s.nodes) x
    → RightFilled terms s p (filled s x)
filled-here {terms} {s} g x r = record { good = g; grows = front_same s.nodes; answer = r }

filled-if : {terms : Terms} {s : State} {p : List Vertex → List ℕ → Type 0} (b : Bool) (o u : Filled) → (b ≡ true → RightFilled terms s p o)
    → (b ≡ false → RightFilled terms s p u) → RightFilled terms s p (cond b o u)
filled-if true o u f g = f refl
filled-if false o u f g = g refl

bit_is : (x y : ℕ) → bit x y ≡ nonzero (x / 2 ^ y % 2)
unfolding bit
bit_is x y = refl

module _ (c : Circuit) (p : Plan) (r : ℕ) where
  abbrev M : ((ℕ → Bool) → Bool) → List Vertex → ℕ → Type 0
  M f ns e = Means c p r f ns e

  -- ---- meanings

  means-front : {f : (ℕ → Bool) → Bool} {ns ms : List Vertex} {e : ℕ} → Front ns ms → Means c p r f ns e → Means c p r f ms e
  means-front {f} {ns} {ms} {e} t m =
      record { inside = front-in t e m.inside; same = λ w x h. front-value t x e m.inside ∙ m.same w x h }

  means-as : {f g : (ℕ → Bool) → Bool} {ns : List Vertex} {e : ℕ} → ((w : ℕ → Bool) → f w ≡ g w) → Means c p r f ns e → Means c p r g ns e
  means-as h m = record { inside = m.inside; same = λ w x q. m.same w x q ∙ h w }

  means-not : {f : (ℕ → Bool) → Bool} {ns : List Vertex} {e : ℕ} → Means c p r f ns e → Means c p r (λ w. not (f w)) ns (flip e 1)
  means-not {f} {ns} {e} m =
      record { inside = flip-in ns e 1 m.inside; same = λ w x h. value_not ns x e ∙ ap not (m.same w x h) }

  means-both : {f g : (ℕ → Bool) → Bool} {ns : List Vertex} {a b e : ℕ} → Means c p r f ns a → Means c p r g ns b → Both a b ns e
      → Means c p r (λ w. f w && g w) ns e
  means-both m n q =
      record {
        inside = q.r-in;
        same = λ w x h. q.same x ∙ ap₂ (λ (u v : Bool). u && v) (m.same w x h) (n.same w x h);
      }

  means-false : {ns : List Vertex} → Built ns → Means c p r (λ w. false) ns 0
  means-false {ns} b = record { inside = omega (arith, b.some-node); same = λ w x h. value-false ns b x }

  means-true : {ns : List Vertex} → Built ns → Means c p r (λ w. true) ns 1
  means-true {ns} b = record { inside = omega (arith, b.some-node); same = λ w x h. value-true ns b x }

  -- a number that is 0 or 1, as an edge
  means-bit : {ns : List Vertex} → Built ns → (e : ℕ) → e < 2 → Means c p r (λ w. nonzero e) ns e
  means-bit b zero h = means-false b
  means-bit b (suc zero) h = means-true b
  means-bit b (suc (suc e)) h = absurd (omega arith)

  -- ---- maps

  abbrev Told : List Vertex → List ℕ → Type 0
  Told ns m = MapMeans c p r ns m

  told-front : {ns ms : List Vertex} {m : List ℕ} → Front ns ms → Told ns m → Told ms m
  told-front f t = record { edge = λ v h. means-front f (t.edge v h) }

  told-set : {ns : List Vertex} {m : List ℕ} (u e : ℕ) → Means c p r (λ w. w u) ns e → Told ns m → Told ns (set m u e)
  told-set {ns} {m} u e q t = record { edge = λ v h. go v h (ℕ_discrete v u) (dec_lt u (length m)) }
    where
      go : (v : ℕ) → (get_or (set m u e) v absent ≡ absent → ⊥) → Dec (v ≡ u) → Dec (u < length m) → Means c p r (λ w. w v) ns (get_or (set m u e) v absent)
      go v h (yes z) (yes l) =
          let s : get_or (set m u e) v absent ≡ e = ap (λ (k : ℕ). get_or (set m u e) k absent) z ∙ get_or-set_same m u e absent l in
          subst (λ (k : ℕ). Means c p r (λ w. w v) ns k) (sym s) (subst (λ (k : ℕ). Means c p r (λ w. w k) ns e) (sym z) q)
      go v h (yes z) (no l) =
          let s : set m u e ≡ m = set_out m u e (omega arith) in
          subst (λ (k : List ℕ). Means c p r (λ w. w v) ns (get_or k v absent)) (sym s)
          (t.edge v (λ k. h (ap (λ (y : List ℕ). get_or y v absent) s ∙ k)))
      go v h (no z) l =
          let s : get_or (set m u e) v absent ≡ get_or m v absent = get_or-set_other m u v e absent z in
          subst (λ (k : ℕ). Means c p r (λ w. w v) ns k) (sym s) (t.edge v (λ k. h (s ∙ k)))

  -- the edge of a literal that is present
  told-literal : {ns : List Vertex} {m : List ℕ} → Told ns m → (l : ℕ) → is_present m (literal l) ≡ true
      → Means c p r (λ w. frames.value w l) ns (edge_in m (literal l))
  told-literal {ns} {m} t l h =
      go (odd l) (t.edge (var l) (eqb-false (get_or m (var l) absent) absent (not-true (eqb (get_or m (var l) absent) absent) h)))
    where
      go : (b : Bool) → Means c p r (λ w. w (var l)) ns (get_or m (var l) absent)
          → Means c p r (λ w. cond b (not (w (var l))) (w (var l))) ns (cond b (flip (get_or m (var l) absent) 1) (get_or m (var l) absent))
      go true q = means-not q
      go false q = q

  -- ---- the leaves

  blank-told : {ns : List Vertex} → Built ns → Told ns blank
  blank-told {ns} b =
      told-set {m = replicate 4097 absent} 0 0
      (record { inside = (means-false b).inside; same = λ w x h. (means-false b).same w x h ∙ sym h.constant })
      (record { edge = λ v h. absurd (h (get_d-same 4097 absent v)) })

  -- the inputs from place k on have their bits
  bits-told : {ns : List Vertex} → Built ns → (is m : List ℕ) (k : ℕ) → k + length is ≡ length p.inputs
      → ((j : ℕ) → j < length is → get_or is j 0 ≡ get_or p.inputs (k + j) 0) → Told ns m → Told ns (bits_put c r is m)
  unfolding bits_put
  bits-told b [] m k e h t = t
  bits-told {ns} b (i ∷ is) m k e h t =
      let n = length is in
      let q : bit r n ≡ nonzero (r / 2 ^ n % 2) = bit_is r n in
      let z : length p.inputs - (k + 1) ≡ n = omega arith in
      let s : get_or p.inputs k 0 ≡ i = ap (λ (x : ℕ). get_or p.inputs x 0) (omega arith) ∙ sym (h 0 (omega arith)) in
      told-set (var (input_at c i)) (r / 2 ^ n % 2)
      (let d = means-bit b (r / 2 ^ n % 2) (mod-lt (r / 2 ^ n) (omega arith)) in
      record {
        inside = d.inside;
        same = λ w x y.
            d.same w x y ∙ sym q ∙ sym (ap (bit r) z) ∙ sym (y.input k (omega arith)) ∙ ap (λ (x : ℕ). w (var (input_at c x))) s;
      })
      (bits-told b is m (k + 1) (omega arith) (λ j l. h (suc j) (omega arith) ∙ ap (λ (x : ℕ). get_or p.inputs x 0) (omega arith)) t)

  -- what is noted of an edge that means its variable
  noted-right : (terms : Terms) (s : State) (o : Outcome) (u : ℕ) {m : List ℕ} → Told s.nodes m → Right terms s (M (λ w. w u)) o
      → RightFilled terms s Told (noted_in o u m)
  noted-right terms s o u {m} t q = record { good = q.good; grows = q.grows; answer = go q.answer }
    where
      go : {x : Option ℕ} → Answer (M (λ w. w u) o.state.nodes) x → Got (Told o.state.nodes) (noted x u m)
      go no_edge = no_words
      go (is-edge {e} w) = has_words (told-set u e w (told-front q.grows t))

  -- the edge of a variable of the diagram
  variable-right : (terms : Terms) (s : State) → Good terms s → (v : ℕ) → v < length p.latches
      → Right terms s (M (λ w. w (latch_literal c (get_or p.latches v 0)).0.0)) (made s v 0 1)
  variable-right terms s g v h =
      let q = made-right terms s g v 0 1 (omega (arith, g.built.some-node)) (omega (arith, g.built.some-node)) in
      right-as
      (λ e d.
      record {
        inside = d.r-in;
        same = λ w x y.
            d.same x ∙ ap₂ (cond (x v)) (value-true _ q.good.built x) (value-false _ q.good.built x) ∙ itself (x v) ∙ y.latch v h;
      })
      q
    where
      itself : (b : Bool) → cond b true false ≡ b
      itself true = refl
      itself false = refl

  latches-right : (terms : Terms) (s : State) → Good terms s → (js m : List ℕ) (v : ℕ) → v + length js ≡ length p.latches
      → ((j : ℕ) → j < length js → get_or js j 0 ≡ get_or p.latches (v + j) 0) → Told s.nodes m → RightFilled terms s Told (latches_put c v js s m)
  unfolding latches_put
  latches-right terms s g [] m v e h t = filled-here g (some m) (has_words t)
  latches-right terms s g (j ∷ js) m v e h t =
      let z : get_or p.latches v 0 ≡ j = ap (λ (x : ℕ). get_or p.latches x 0) (omega arith) ∙ sym (h 0 (omega arith)) in
      let q : Right terms s (M (λ w. w (latch_literal c j).0.0)) (made s v 0 1) =
      subst (λ (x : ℕ). Right terms s (M (λ w. w (latch_literal c x).0.0)) (made s v 0 1)) z (variable-right terms s g v (omega arith)) in
      let n = noted-right terms s (made s v 0 1) (latch_literal c j).0.0 t q in
      filled-then (noted_in (made s v 0 1) (latch_literal c j).0.0 m) (latches_put c (v + 1) js) n
      (λ ws u.
      latches-right terms (made s v 0 1).state n.good js ws (v + 1) (omega arith)
      (λ k l. h (suc k) (omega arith) ∙ ap (λ (x : ℕ). get_or p.latches x 0) (omega arith)) u)

  -- ---- gates

  gate-right : (terms : Terms) (s : State) → Good terms s → (i : ℕ) (m : List ℕ) → Told s.nodes m → RightFilled terms s Told (gate_put_in (gate_at c i) s m)
  unfolding gate_put
  gate-right terms s g i m t =
      let d = gate_at c i in
      let none_right : RightFilled terms s Told (filled s none) = filled-here g none no_words in
      filled-if (is_present m (literal d.left)) _ _
      (λ a.
      filled-if (is_present m (literal d.right)) _ _
      (λ b.
      let x = told-literal t d.left a in
      let y = told-literal t d.right b in
      let q = both_right terms s g (edge_in m (literal d.left)) (edge_in m (literal d.right)) x.inside y.inside in
      noted-right terms s (both s (edge_in m (literal d.left)) (edge_in m (literal d.right))) (var d.lit) t
      (right-as
      (λ e k.
      let n = means-both (means-front q.grows x) (means-front q.grows y) k in
      record { inside = n.inside; same = λ w z h. n.same w z h ∙ sym (h.gate i) })
      q))
      (λ b. none_right))
      (λ a. none_right)

  gates-right : (terms : Terms) (s : State) → Good terms s → (gs m : List ℕ) → Told s.nodes m → RightFilled terms s Told (gates_put c gs s m)
  unfolding gates_put
  gates-right terms s g [] m t = filled-here g (some m) (has_words t)
  gates-right terms s g (i ∷ gs) m t =
      let n = gate-right terms s g i m t in
      filled-then (gate_put_in (gate_at c i) s m) (gates_put c gs) n (λ ws u. gates-right terms (gate_put_in (gate_at c i) s m).state n.good gs ws u)

  -- ---- lines

  line-right : (terms : Terms) (s : State) → Good terms s → (m : List ℕ) (l : ℕ) (e : ℕ) (f : (ℕ → Bool) → Bool) → Told s.nodes m → M f s.nodes e
      → Right terms s (M (λ w. f w && frames.value w l)) (with_literal m (literal l) s e)
  unfolding with_literal
  line-right terms s g m l e f t k =
      right-if (is_present m (literal l)) _ _
      (λ a.
      let x = told-literal t l a in
      let q = both_right terms s g e (edge_in m (literal l)) k.inside x.inside in
      right-as (λ d y. means-both (means-front q.grows k) (means-front q.grows x) y) q)
      (λ a. right-here g none no_edge)

  lines-right : (terms : Terms) (s : State) → Good terms s → (m ls : List ℕ) (e : ℕ) (f : (ℕ → Bool) → Bool) → Told s.nodes m → M f s.nodes e
      → Right terms s (M (λ w. f w && every (frames.value w) ls)) (with_literals m ls s e)
  unfolding with_literals
  lines-right terms s g m [] e f t k = right-here g (some e) (is-edge (means-as (λ w. sym (and-true (f w))) k))
    where
      and-true : (b : Bool) → (b && true) ≡ b
      and-true true = refl
      and-true false = refl
  lines-right terms s g m (l ∷ ls) e f t k =
      let q = line-right terms s g m l e f t k in
      let o = with_literal m (literal l) s e in
      right-then o (with_literals m ls) q
      (λ d y.
      right-as (λ x z. means-as (λ w. and_assoc (f w) (frames.value w l) (every (frames.value w) ls)) z)
      (lines-right terms o.state q.good m ls d (λ w. f w && frames.value w l) (told-front q.grows t) y))
    where
      and_assoc : (a b c : Bool) → ((a && b) && c) ≡ (a && (b && c))
      and_assoc true b c = refl
      and_assoc false b c = refl

  -- ---- the row

  words-mean : (b : ℕ) (ns : List Vertex) (m : List ℕ) (con hit : ℕ) → Told ns m → M (λ w. constrained_in c w) ns con → M (λ w. hit_in c b w) ns hit
      → Got (RowMeans c b p r ns) (row_words c p.latches m con hit)
  unfolding row_words
  words-mean b ns m con hit t k h = go (every (λ j. is_present m (next_literal c j)) p.latches) refl
    where
      size : length (map (λ j. edge_in m (next_literal c j)) p.latches) ≡ length p.latches
      size = simp length-map

      go : (q : Bool) → every (λ j. is_present m (next_literal c j)) p.latches ≡ q
          → Got (RowMeans c b p r ns) (cond q (some (map (λ j. edge_in m (next_literal c j)) p.latches ++ (con ∷ hit ∷ []))) none)
      go false e = no_words
      go true e =
          has_words {ws = map (λ j. edge_in m (next_literal c j)) p.latches ++ (con ∷ hit ∷ [])}
          (record {
            size = omega (arith, size, length-append (map (λ j. edge_in m (next_literal c j)) p.latches) (con ∷ hit ∷ []));
            next = λ v l.
                let j = get_or p.latches v 0 in
                subst (λ (x : ℕ). Means c p r (λ w. frames.value w (latch_at c j).next) ns x)
                (sym
                (get_or-append (map (λ j. edge_in m (next_literal c j)) p.latches) (con ∷ hit ∷ []) 0 v (omega (arith, size))
                ∙ get_or-map (λ j. edge_in m (next_literal c j)) p.latches v 0 0 l))
                (told-literal t (latch_at c j).next
                (true-T (is_present m (next_literal c j)) (every-at (λ j. is_present m (next_literal c j)) p.latches v 0 l (T_true e))));
            con =
                subst (λ (x : ℕ). Means c p r (λ w. constrained_in c w) ns x)
                (sym (get_or_at (map (λ j. edge_in m (next_literal c j)) p.latches) con (hit ∷ []) 0 (length p.latches) size)) k;
            hit =
                subst (λ (x : ℕ). Means c p r (λ w. hit_in c b w) ns x)
                (sym
                (ap (λ (x : ℕ). get_or (map (λ j. edge_in m (next_literal c j)) p.latches ++ (con ∷ hit ∷ [])) (x + 1) 0) (sym size)
                ∙ get_or-append-add (map (λ j. edge_in m (next_literal c j)) p.latches) (con ∷ hit ∷ []) 1 0))
                h;
          })

  end-right : (terms : Terms) (b : ℕ) (s : State) → Good terms s → (m : List ℕ) → Told s.nodes m
      → RightFilled terms s (RowMeans c b p r) (row_end c b p.latches s m)
  unfolding row_end
  end-right terms b s g m t =
      let q = lines-right terms s g m c.constraints 1 (λ w. true) t (means-true g.built) in
      let o = with_literals m c.constraints s 1 in
      filled-from o _ q
      (λ con k.
      let d = line-right terms o.state q.good m (get_or c.bads b 0) con (λ w. constrained_in c w) (told-front q.grows t) k in
      let u = with_literal m (literal (get_or c.bads b 0)) o.state con in
      filled-from u _ d
      (λ hit h.
      filled-here d.good (row_words c p.latches m con hit)
      (words-mean b u.state.nodes m con hit (told-front d.grows (told-front q.grows t)) (means-front d.grows k) h)))

  -- the row
  pub row-right : (terms : Terms) (b : ℕ) (s : State) → Good terms s → RightFilled terms s (RowMeans c b p r) (row_made c b p r s)
  unfolding row_made
  row-right terms b s g =
      let t = bits-told g.built p.inputs blank 0 (omega arith) (λ j l. ap (λ (x : ℕ). get_or p.inputs x 0) (omega arith)) (blank-told g.built) in
      let q =
      latches-right terms s g p.latches (bits_put c r p.inputs blank) 0 (omega arith)
      (λ j l. ap (λ (x : ℕ). get_or p.latches x 0) (omega arith)) t in
      let o = latches_put c 0 p.latches s (bits_put c r p.inputs blank) in
      filled-then o _ q
      (λ m u.
      let n = gates-right terms o.state q.good p.gates m u in
      filled-then (gates_put c p.gates o.state m) (row_end c b p.latches) n
      (λ k y. end-right terms b (gates_put c p.gates o.state m).state n.good k y))

-- the row of a plan in words
pub row-in-right : (c : Circuit) (b : ℕ) (ws : List ℕ) (r : ℕ) (terms : Terms) (s : State) → Good terms s
    → RightFilled terms s (RowMeans c b (plan_of ws) r) (row_in c b ws r s)
unfolding row_in
row-in-right c b ws r terms s g =
    filled-if (ltb (length ws) (plan_length ws)) _ _ (λ e. filled-here g none no_words) (λ e. row-right c (plan_of ws) r terms b s g)
