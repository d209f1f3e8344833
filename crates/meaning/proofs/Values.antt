-- The values in a frame: the equations that they satisfy, and that these equations determine them. Clause 2.6. Assumes nothing.
use mathlib.Core.Path.{◌≡◌, refl, sym, ap, ap₂, ◌∙◌, subst}
use mathlib.Core.Bool.{Bool, true, false, not, cond, ◌&&◌}
use mathlib.Core.List.{List, [], ◌∷◌, map, Memᴰ}
use mathlib.Core.Option.{Option, none, some}
use mathlib.Core.Logic.{inl, inr}
use Prim.Native.Nat.{ℕ, zero, suc, ◌+◌, ◌*◌, ◌/◌, ◌%◌, ◌<◌}
use native.Mathlib.Nat.{not-suc-le-zero, le_of_suc-le-suc}
use native.Mathlib.Omega.{arith}
use borrow.Author.Tests.{eq-eqb, ne_eqb}
use lib.Dec.{T}
use lib.ListN
use lib.ListN.{length, get_or, length-map}
use Rattle.aiger.specs.Bits.{nonzero, odd}
use Rattle.aiger.specs.Circuit.{Circuit, Gate, var, defined, literals_right, used_defined, gate_of, operands, settles, acyclic}
use Rattle.aiger.specs.Frames.{Run, value, conjunction, through, look, leaf, frame, state, value_at}
pub use Rattle.meaning.specs.Frame.{Valuation}
use Rattle.meaning.proofs.Lists.{mem-at, get_or-map}
use Rattle.meaning.proofs.Defined.{no_latch, no_gate, input_at, latch_at, gate_at, Known, constant, input, latch, gate, Apart, input-in, latch-in, gate-in, definition, apart-inputs, apart-latches, apart-gates, input-latch, input-gate, latch-gate, left-known, right-known, gate_of-none, gate_of-at}
use Rattle.meaning.proofs.Cycles.{operands-at, all-settle}

-- ---- literals

-- an even literal has the value of its variable
pub value-even : (w : ℕ → Bool) (l : ℕ) → l % 2 ≡ 0 → value w l ≡ w (var l)
value-even w l e = ap (λ (m : ℕ). cond (nonzero m) (not (w (var l))) (w (var l))) e

-- literals have the same value where their variable has
pub value-eq : (w u : ℕ → Bool) (l : ℕ) → w (var l) ≡ u (var l) → value w l ≡ value u l
value-eq w u l e = ap (λ (b : Bool). cond (odd l) (not b) b) e

-- 2v+1 is the complement of 2v
pub value-complement : (w : ℕ → Bool) (v : ℕ) → value w (2 * v + 1) ≡ not (value w (2 * v))
value-complement w v =
    let o : (2 * v + 1) % 2 ≡ 1 = omega arith in
    let h : (2 * v + 1) / 2 ≡ 2 * v / 2 = omega arith in
    ap (λ (m : ℕ). cond (nonzero m) (not (w (var (2 * v + 1)))) (w (var (2 * v + 1)))) o
    ∙ ap (λ (x : ℕ). not (w x)) h ∙ ap not (sym (value-even w (2 * v) (omega arith)))

-- ---- inputs and latches

look-out : (ls : List ℕ) (bs : List Bool) (v : ℕ) (d : Bool) → ((i : ℕ) → i < length ls → var (get_or ls i 0) ≡ v → ⊥) → look ls bs v d ≡ d
unfolding look
look-out [] bs v d h = refl
look-out (l ∷ ls) [] v d h = refl
look-out (l ∷ ls) (b ∷ bs) v d h = rw (ne_eqb (var l) v (h 0 (omega arith))) (look-out ls bs v d (λ i k e. h (suc i) (omega arith) e))

look_at : (ls : List ℕ) (bs : List Bool) (i : ℕ) (d : Bool) → Apart ls → i < length ls → look ls bs (var (get_or ls i 0)) d ≡ get_or bs i d
unfolding look
look_at [] bs i d a h = absurd (not-suc-le-zero h)
look_at (l ∷ ls) [] i d a h = refl
look_at (l ∷ ls) (b ∷ bs) zero d a h = rw (eq-eqb (var l) (var l) refl)
look_at (l ∷ ls) (b ∷ bs) (suc i) d a h =
    rw (ne_eqb (var l) (var (get_or ls i 0)) (a 0 (suc i) (omega arith) h))
    (look_at ls bs i d (λ m n k q e. a (suc m) (suc n) (omega arith) (omega arith) e) (le_of_suc-le-suc h))

-- ---- gates

-- the conjunction depends on the operands' values alone
conjunction-eq : (o : Option Gate) (b : Bool) (p : ℕ → Bool) (u w : ℕ → Bool) → T (operands o p) → ((v : ℕ) → T (p v) → u v ≡ w v)
    → conjunction o b u ≡ conjunction o b w
unfolding conjunction
conjunction-eq none b p u w t h = refl
conjunction-eq (some g) b p u w t h =
    ap₂ (λ (x y : Bool). x && y)
    (value-eq u w g.left (h _ (operands-at (some g) p g refl t _ (inl refl))))
    (value-eq u w g.right (h _ (operands-at (some g) p g refl t _ (inr refl))))

no-gate : (o : Option Gate) (b : Bool) (u : ℕ → Bool) → T (operands o (λ _. false)) → conjunction o b u ≡ b
unfolding conjunction
no-gate none b u t = refl
no-gate (some g) b u t = absurd (operands-at (some g) (λ _. false) g refl t _ (inl refl))

-- one step more changes nothing where n steps settle
stable : (gs : List Gate) (w : ℕ → Bool) (n v : ℕ) → T (settles gs n v) → through gs w (suc n) v ≡ through gs w n v
unfolding settles through
stable gs w zero v t = no-gate (gate_of gs v) (w v) w t
stable gs w (suc n) v t = conjunction-eq (gate_of gs v) (w v) (settles gs n) (through gs w (suc n)) (through gs w n) t (stable gs w n)

module _ (c : Circuit) where
  -- in an acyclic circuit a gate's variable has the conjunction, any other the value of the leaf
  frame_step : T (acyclic c) → (st row : List Bool) (v : ℕ) → frame c st row v ≡ conjunction (gate_of c.gates v) (leaf c st row v) (frame c st row)
  unfolding frame through
  frame_step a st row v = sym (stable c.gates (leaf c st row) (length c.gates) v (all-settle c a v))

  module _ (right : T (literals_right c)) (a : T (acyclic c)) (st row : List Bool) where
    frame-leaf : (v : ℕ) → ((i : ℕ) → i < length c.gates → var (gate_at c i).lit ≡ v → ⊥) → frame c st row v ≡ leaf c st row v
    unfolding conjunction
    frame-leaf v h =
        frame_step a st row v ∙ ap (λ (o : Option Gate). conjunction o (leaf c st row v) (frame c st row)) (gate_of-none c.gates v h)

    look-latches : (v : ℕ) → ((j : ℕ) → j < length c.latches → var (latch_at c j).lit ≡ v → ⊥) → look (map (λ l. l.lit) c.latches) st v false ≡ false
    look-latches v h =
        look-out (map (λ l. l.lit) c.latches) st v false
        (λ j k e. h j (simp length-map at k) (ap var (sym (ListN.get_or-map (λ l. l.lit) c.latches j no_latch)) ∙ e))

    leaf-constant : leaf c st row 0 ≡ false
    unfolding leaf
    leaf-constant =
        look-out c.inputs row 0 (look (map (λ l. l.lit) c.latches) st 0 false)
        (λ i k e. omega (arith, (definition c right (input_at c i) (input-in c i k)).0))
        ∙ look-latches 0 (λ j k e. omega (arith, (definition c right (latch_at c j).lit (latch-in c j k)).0))

    leaf-input : (i : ℕ) → i < length c.inputs → leaf c st row (var (input_at c i)) ≡ get_or row i false
    unfolding leaf
    leaf-input i h =
        look_at c.inputs row i (look (map (λ l. l.lit) c.latches) st (var (input_at c i)) false) (apart-inputs c right) h
        ∙ ap (get_or row i) (look-latches (var (input_at c i)) (λ j k e. input-latch c right i j h k (sym e)))

    leaf-latch : (j : ℕ) → j < length c.latches → leaf c st row (var (latch_at c j).lit) ≡ get_or st j false
    unfolding leaf
    leaf-latch j h =
        let v = var (latch_at c j).lit in
        look-out c.inputs row v (look (map (λ l. l.lit) c.latches) st v false) (λ i k e. input-latch c right i j k h e)
        ∙ ap (λ (x : ℕ). look (map (λ l. l.lit) c.latches) st (var x) false) (sym (ListN.get_or-map (λ l. l.lit) c.latches j no_latch))
        ∙ look_at (map (λ l. l.lit) c.latches) st j false (apart-latches c right) (simp length-map h)

    frame-gate : (i : ℕ) → i < length c.gates → (g : Gate) → gate_at c i ≡ g
        → frame c st row (var g.lit) ≡ (value (frame c st row) g.left && value (frame c st row) g.right)
    unfolding conjunction
    frame-gate i h g e =
        frame_step a st row (var g.lit)
        ∙ ap (λ (o : Option Gate). conjunction o (leaf c st row (var g.lit)) (frame c st row))
        (subst (λ (x : Gate). gate_of c.gates (var x.lit) ≡ some x) e (gate_of-at c.gates (apart-gates c right) i h))

    -- the values of a frame satisfy its equations
    pub frame-valuation : Valuation c row st (frame c st row)
    frame-valuation =
        record {
          constant = frame-leaf 0 (λ i k e. omega (arith, (definition c right (gate_at c i).lit (gate-in c i k)).0)) ∙ leaf-constant;
          input = λ i h. frame-leaf (var (input_at c i)) (λ j k e. input-gate c right i j h k (sym e)) ∙ leaf-input i h;
          latch = λ j h. frame-leaf (var (latch_at c j).lit) (λ i k e. latch-gate c right j i h k (sym e)) ∙ leaf-latch j h;
          gate = λ i h. frame-gate i h (gate_at c i) refl;
        }

  -- ---- the equations determine the values

  -- those of a closed set of variables depend on the latches of that set alone
  module _ (need : ℕ → Bool) where
    -- what a needed gate reads is needed
    abbrev pub Reads : Type 0
    Reads = (i : ℕ) → i < length c.gates → T (need (var (gate_at c i).lit)) → T (need (var (gate_at c i).left)) × T (need (var (gate_at c i).right))

    module _ (right : T (literals_right c)) (known : T (used_defined c)) (a : T (acyclic c)) (reads : Reads) where
      module _ {row st st' : List Bool} {w u : ℕ → Bool} (p : Valuation c row st w) (q : Valuation c row st' u)
          (agree : (j : ℕ) → j < length c.latches → T (need (var (latch_at c j).lit)) → get_or st j false ≡ get_or st' j false) where
        by-gate : (v : ℕ) → T (need v) → Known c v → ((i : ℕ) → i < length c.gates → var (gate_at c i).lit ≡ v → w v ≡ u v) → w v ≡ u v
        by-gate v n (constant e) k = ap w e ∙ p.constant ∙ sym q.constant ∙ ap u (sym e)
        by-gate v n (input i h e) k = ap w (sym e) ∙ p.input i h ∙ sym (q.input i h) ∙ ap u e
        by-gate v n (latch j h e) k =
            ap w (sym e) ∙ p.latch j h ∙ agree j h (subst (λ (x : ℕ). T (need x)) (sym e) n) ∙ sym (q.latch j h) ∙ ap u e
        by-gate v n (gate i h e) k = k i h e

        gate-at : (v i : ℕ) → i < length c.gates → var (gate_at c i).lit ≡ v → gate_of c.gates v ≡ some (gate_at c i)
        gate-at v i h e = ap (gate_of c.gates) (sym e) ∙ gate_of-at c.gates (apart-gates c right) i h

        settled_only : (n v : ℕ) → T (settles c.gates n v) → T (need v) → Known c v → w v ≡ u v
        unfolding settles
        settled_only zero v t m k = by-gate v m k (λ i h e. absurd (operands-at (gate_of c.gates v) (λ _. false) (gate_at c i) (gate-at v i h e) t _ (inl refl)))
        settled_only (suc n) v t m k =
            by-gate v m k
            (λ i h e.
            let b = operands-at (gate_of c.gates v) (settles c.gates n) (gate_at c i) (gate-at v i h e) t in
            let r = reads i h (subst (λ (x : ℕ). T (need x)) (sym e) m) in
            ap w (sym e) ∙ p.gate i h
            ∙ ap₂ (λ (x y : Bool). x && y)
            (value-eq w u (gate_at c i).left (settled_only n _ (b _ (inl refl)) r.0 (left-known c known i)))
            (value-eq w u (gate_at c i).right (settled_only n _ (b _ (inr refl)) r.1 (right-known c known i)))
            ∙ sym (q.gate i h) ∙ ap u e)

        -- values agree on every literal of the set
        pub depends : (l : ℕ) → T (need (var l)) → Known c (var l) → value w l ≡ value u l
        depends l n k = value-eq w u l (settled_only (length c.gates) (var l) (all-settle c a (var l)) n k)

  module _ (right : T (literals_right c)) (known : T (used_defined c)) (a : T (acyclic c)) where
    -- two valuations agree on every variable that is 0 or defined
    pub only : {row st : List Bool} {w u : ℕ → Bool} → Valuation c row st w → Valuation c row st u → (v : ℕ) → Known c v → w v ≡ u v
    only p q v k =
        settled_only (λ _. true) right known a (λ i h t. (tt, tt)) p q (λ j h t. refl) (length c.gates) v (all-settle c a v) tt k

    -- values that satisfy the equations are those of the frame
    pub valuation-frame : {row st : List Bool} {w : ℕ → Bool} → Valuation c row st w → (v : ℕ) → Known c v → w v ≡ frame c st row v
    valuation-frame {row} {st} p = only p (frame-valuation right a st row)

    -- the same of literals and frame t of a run
    pub valuation-value : (r : Run) (t : ℕ) {w : ℕ → Bool} → Valuation c (get_or r.rows t []) (state c r t) w → (l : ℕ) → Known c (var l) → value w l ≡ value_at c r t l
    unfolding value_at
    valuation-value r t {w} p l k = value-eq w (frame c (state c r t) (get_or r.rows t [])) l (valuation-frame p (var l) k)

  -- ---- the equations of frame t of a run

  module _ (r : Run) (t : ℕ) where
    -- the values of the variables in frame t
    abbrev pub frame_at : ℕ → Bool
    frame_at = frame c (state c r t) (get_or r.rows t [])

    -- 2v+1 is the complement of 2v
    pub complement-value : (v : ℕ) → value_at c r t (2 * v + 1) ≡ not (value_at c r t (2 * v))
    unfolding value_at
    complement-value v = value-complement frame_at v

    -- in the next frame the latches have the values that their next literals have in this one
    pub state-next : state c r (suc t) ≡ map (λ l. value_at c r t l.next) c.latches
    unfolding state value_at
    state-next = refl

    -- the same of the j-th latch
    pub state-next-at : (j : ℕ) → j < length c.latches → get_or (state c r (suc t)) j false ≡ value_at c r t (latch_at c j).next
    state-next-at j h = ap (λ (s : List Bool). get_or s j false) state-next ∙ get_or-map (λ l. value_at c r t l.next) c.latches j no_latch false h

    module _ (right : T (literals_right c)) (a : T (acyclic c)) where
      values : Valuation c (get_or r.rows t []) (state c r t) frame_at
      values = frame-valuation right a (state c r t) (get_or r.rows t [])

      even-value : (l : ℕ) → Memᴰ l (defined c) → value_at c r t l ≡ frame_at (var l)
      unfolding value_at
      even-value l m = value-even frame_at l (definition c right l m).1

      -- literal 0 is false
      pub zero-value : value_at c r t 0 ≡ false
      unfolding value_at
      zero-value = values.constant

      -- the i-th input has the i-th bit of the frame's row
      pub input-value : (i : ℕ) → i < length c.inputs → value_at c r t (input_at c i) ≡ get_or (get_or r.rows t []) i false
      input-value i h = even-value (input_at c i) (input-in c i h) ∙ values.input i h

      -- the j-th latch has the j-th bit of the state
      pub latch-value : (j : ℕ) → j < length c.latches → value_at c r t (latch_at c j).lit ≡ get_or (state c r t) j false
      latch-value j h = even-value (latch_at c j).lit (latch-in c j h) ∙ values.latch j h

      -- the i-th gate is true exactly when both its operands are true in the same frame
      pub gate-value : (i : ℕ) → i < length c.gates → value_at c r t (gate_at c i).lit ≡ (value_at c r t (gate_at c i).left && value_at c r t (gate_at c i).right)
      unfolding value_at
      gate-value i h = even-value (gate_at c i).lit (gate-in c i h) ∙ values.gate i h

  -- in frame 0 the latches have the run's start values
  pub state-start : (r : Run) → state c r 0 ≡ r.start
  unfolding state
  state-start r = refl

  -- a state has a bit for each latch, if the start has
  pub length-state : (r : Run) (t : ℕ) → length r.start ≡ length c.latches → length (state c r t) ≡ length c.latches
  unfolding state
  length-state r zero h = h
  length-state r (suc t) h = length-map c.latches (λ l. value (frame c (state c r t) (get_or r.rows t [])) l.next)
