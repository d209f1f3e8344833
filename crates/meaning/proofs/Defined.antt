-- The variables that a circuit defines, by position: each is defined once, and each that is used is defined. Assumes nothing.
use mathlib.Core.Path.{◌≡◌, refl, sym, ap, ◌∙◌, subst}
use mathlib.Core.Bool.{Bool, true, false, not, cond, ◌&&◌}
use mathlib.Core.List.Memᴰ
use mathlib.Core.List.{List, [], ◌∷◌, ◌++◌, map, Memᴰ}
use mathlib.Core.Option.{none, some}
use mathlib.Core.Logic.{⊎_elim}
use Prim.Native.Nat.{ℕ, zero, suc, ◌+◌, ◌%◌, ◌≤◌, ◌<◌}
use native.Mathlib.Nat.{not-suc-le-zero, le_of_suc-le-suc}
use native.Mathlib.Omega.{arith}
use borrow.Author.Tests.{eq-eqb, ne_eqb, eqb-true}
use lib.Dec.{T, leb, eqb, leb→le, eqb_refl}
use lib.ListN.{length, get_or, length-append, length-map, get_or-append, get_or-map}
use lib.Seq.{get_or-append-add}
use Rattle.aiger.specs.Lists.{member}
use Rattle.aiger.specs.Bits.{nonzero, odd}
use Rattle.aiger.specs.Circuit.{Circuit, Latch, Gate, var, defined, used, literal_tests, literals_right, used_defined, gate_of}
use Rattle.aiger.proofs.Tests.{and_left, and_right, not-both, all-at}
pub use Rattle.meaning.specs.Frame.{no_latch, no_gate, input_at, latch_at, gate_at}
use Rattle.meaning.proofs.Lists.{mem-get_d, mem-at, get_d-all, every-mem, pairwise-at, member-mem}

-- variable v is 0, or an input, a latch or a gate defines it
pub data Known (c : Circuit) (v : ℕ) : Type 0 where
  constant : v ≡ 0 → Known c v
  input : (i : ℕ) → i < length c.inputs → var (input_at c i) ≡ v → Known c v
  latch : (j : ℕ) → j < length c.latches → var (latch_at c j).lit ≡ v → Known c v
  gate : (i : ℕ) → i < length c.gates → var (gate_at c i).lit ≡ v → Known c v

-- no two of these literals have the same variable
abbrev pub Apart : List ℕ → Type 0
Apart ls = (i j : ℕ) → i < j → j < length ls → var (get_or ls i 0) ≡ var (get_or ls j 0) → ⊥

apart-left : (xs ys : List ℕ) → Apart (xs ++ ys) → Apart xs
apart-left xs ys a i j h l e =
    a i j h (simp length-append (omega arith)) (simp (get_or-append xs ys 0 i (omega arith), get_or-append xs ys 0 j l) e)

apart-right : (xs ys : List ℕ) → Apart (xs ++ ys) → Apart ys
apart-right xs ys a i j h l e =
    a (length xs + i) (length xs + j) (omega arith) (simp length-append (omega arith)) (simp (get_or-append-add xs ys i 0, get_or-append-add xs ys j 0) e)

apart-both : (xs ys : List ℕ) → Apart (xs ++ ys) → (i j : ℕ) → i < length xs → j < length ys → var (get_or xs i 0) ≡ var (get_or ys j 0) → ⊥
apart-both xs ys a i j h l e =
    a i (length xs + j) (omega arith) (simp length-append (omega arith)) (simp (get_or-append xs ys 0 i h, get_or-append-add xs ys j 0) e)

even-zero : (n : ℕ) → T (not (nonzero n)) → n ≡ 0
even-zero zero t = refl
even-zero (suc n) t = absurd t

module _ (c : Circuit) where
  abbrev latch_lits : List ℕ
  latch_lits = map (λ l. l.lit) c.latches

  abbrev gate_lits : List ℕ
  gate_lits = map (λ g. g.lit) c.gates

  -- the literals of inputs, latches and gates are defined literals
  pub input-in : (i : ℕ) → i < length c.inputs → Memᴰ (input_at c i) (defined c)
  unfolding defined
  input-in i h = Memᴰ.append_left gate_lits (Memᴰ.append_left latch_lits (mem-get_d c.inputs i 0 h))

  pub latch-in : (j : ℕ) → j < length c.latches → Memᴰ (latch_at c j).lit (defined c)
  unfolding defined
  latch-in j h = Memᴰ.append_left gate_lits (Memᴰ.append_right c.inputs (Memᴰ.map (λ l. l.lit) (mem-get_d c.latches j no_latch h)))

  pub gate-in : (i : ℕ) → i < length c.gates → Memᴰ (gate_at c i).lit (defined c)
  unfolding defined
  gate-in i h = Memᴰ.append_right (c.inputs ++ latch_lits) (Memᴰ.map (λ g. g.lit) (mem-get_d c.gates i no_gate h))

  -- a defined literal's variable is known
  pub defined-known : (l : ℕ) → Memᴰ l (defined c) → Known c (var l)
  unfolding defined
  defined-known l m = ⊎_elim (λ a. ⊎_elim inputs latches (Memᴰ.append_cases c.inputs a)) gates (Memᴰ.append_cases (c.inputs ++ latch_lits) m)
    where
      inputs : Memᴰ l c.inputs → Known c (var l)
      inputs d = let p = mem-at 0 d in input p.0 p.1 (ap var p.2)

      latches : Memᴰ l latch_lits → Known c (var l)
      latches d =
          let o = Memᴰ.of_map (λ x. x.lit) c.latches d in
          let p = mem-at no_latch o.1 in
          latch p.0 p.1 (ap (λ x. var x.lit) p.2 ∙ ap var o.2)

      gates : Memᴰ l gate_lits → Known c (var l)
      gates d =
          let o = Memᴰ.of_map (λ x. x.lit) c.gates d in
          let p = mem-at no_gate o.1 in
          gate p.0 p.1 (ap (λ x. var x.lit) p.2 ∙ ap var o.2)

  -- ---- a circuit whose definitions are right
  module _ (right : T (literals_right c)) where
    -- a defined literal is even and at least 2
    pub definition : (l : ℕ) → Memᴰ l (defined c) → (2 ≤ l) × (l % 2 ≡ 0)
    unfolding literals_right
    definition l m =
        let t = every-mem (λ x. leb 2 x && not (odd x)) m (all-at (literal_tests c) right 1) in
        (leb→le 2 l (and_left (leb 2 l) (not (odd l)) t), even-zero (l % 2) (and_right (leb 2 l) (not (odd l)) t))

    apart : Apart (defined c)
    unfolding literals_right
    apart i j h l e =
        let x = get_or (defined c) i 0 in
        let y = get_or (defined c) j 0 in
        let p = definition x (mem-get_d (defined c) i 0 (omega arith)) in
        let q = definition y (mem-get_d (defined c) j 0 l) in
        let s : x ≡ y = omega (arith, p.1, q.1) in
        not-both (eqb x y) (pairwise-at (λ a b. not (eqb a b)) (defined c) i j 0 h l (all-at (literal_tests c) right 2))
        (subst (λ z. T (eqb x z)) s (eqb_refl x))

    apart-front : Apart (c.inputs ++ latch_lits)
    unfolding defined
    apart-front = apart-left (c.inputs ++ latch_lits) gate_lits apart

    -- no two inputs, no two latches and no two gates have the same variable
    pub apart-inputs : Apart c.inputs
    apart-inputs = apart-left c.inputs latch_lits apart-front

    pub apart-latches : Apart (map (λ l. l.lit) c.latches)
    apart-latches = apart-right c.inputs latch_lits apart-front

    pub apart-gates : Apart (map (λ g. g.lit) c.gates)
    unfolding defined
    apart-gates = apart-right (c.inputs ++ latch_lits) gate_lits apart

    -- no variable is defined by two of an input, a latch and a gate
    pub input-latch : (i j : ℕ) → i < length c.inputs → j < length c.latches → var (input_at c i) ≡ var (latch_at c j).lit → ⊥
    input-latch i j h l e =
        apart-both c.inputs latch_lits apart-front i j h (simp length-map l) (e ∙ ap var (sym (get_or-map (λ x. x.lit) c.latches j no_latch)))

    front-gate : (i j : ℕ) → i < length (c.inputs ++ latch_lits) → j < length c.gates → var (get_or (c.inputs ++ latch_lits) i 0) ≡ var (gate_at c j).lit → ⊥
    unfolding defined
    front-gate i j h l e =
        apart-both (c.inputs ++ latch_lits) gate_lits apart i j h (simp length-map l) (e ∙ ap var (sym (get_or-map (λ x. x.lit) c.gates j no_gate)))

    pub input-gate : (i j : ℕ) → i < length c.inputs → j < length c.gates → var (input_at c i) ≡ var (gate_at c j).lit → ⊥
    input-gate i j h l e = front-gate i j (simp length-append (omega arith)) l (ap var (get_or-append c.inputs latch_lits 0 i h) ∙ e)

    pub latch-gate : (i j : ℕ) → i < length c.latches → j < length c.gates → var (latch_at c i).lit ≡ var (gate_at c j).lit → ⊥
    latch-gate i j h l e =
        front-gate (length c.inputs + i) j (simp (length-append, length-map) (omega arith)) l
        (ap var (get_or-append-add c.inputs latch_lits i 0 ∙ get_or-map (λ x. x.lit) c.latches i no_latch) ∙ e)

  -- ---- a circuit whose used variables are defined

  abbrev next_lits : List ℕ
  next_lits = map (λ l. l.next) c.latches

  abbrev line_lits : List ℕ
  line_lits = next_lits ++ c.outputs ++ c.bads ++ c.constraints

  module _ (known : T (used_defined c)) where
    -- the variable of a used literal is known
    pub used-known : (l : ℕ) → Memᴰ l (used c) → Known c (var l)
    unfolding used_defined
    used-known l m = go (member-mem (var l) (0 ∷ map var (defined c)) (every-mem (λ x. member (var x) (0 ∷ map var (defined c))) m known))
      where
        go : Memᴰ (var l) (0 ∷ map var (defined c)) → Known c (var l)
        go d =
            ⊎_elim constant
            (λ k. let o = Memᴰ.of_map var (defined c) k in subst (Known c) o.2 (defined-known o.0 o.1))
            (Memᴰ.cases_cons d)

    -- so by position; past the end stands literal 0
    pub next_known : (j : ℕ) → Known c (var (latch_at c j).next)
    unfolding used
    next_known =
        get_d-all (λ x. Known c (var x.next)) c.latches no_latch (constant refl)
        (λ x m. used-known x.next
        (Memᴰ.append_left _ (Memᴰ.append_left _ (Memᴰ.append_left _ (Memᴰ.append_left _ (Memᴰ.append_left _ (Memᴰ.map (λ l. l.next) m)))))))

    pub output-known : (i : ℕ) → Known c (var (get_or c.outputs i 0))
    unfolding used
    output-known =
        get_d-all (λ x. Known c (var x)) c.outputs 0 (constant refl)
        (λ x m. used-known x (Memᴰ.append_left _ (Memᴰ.append_left _ (Memᴰ.append_left _ (Memᴰ.append_left _ (Memᴰ.append_right next_lits m))))))

    pub bad-known : (i : ℕ) → Known c (var (get_or c.bads i 0))
    unfolding used
    bad-known =
        get_d-all (λ x. Known c (var x)) c.bads 0 (constant refl)
        (λ x m. used-known x (Memᴰ.append_left _ (Memᴰ.append_left _ (Memᴰ.append_left _ (Memᴰ.append_right (next_lits ++ c.outputs) m)))))

    pub constraint-known : (i : ℕ) → Known c (var (get_or c.constraints i 0))
    unfolding used
    constraint-known =
        get_d-all (λ x. Known c (var x)) c.constraints 0 (constant refl)
        (λ x m. used-known x (Memᴰ.append_left _ (Memᴰ.append_left _ (Memᴰ.append_right (next_lits ++ c.outputs ++ c.bads) m))))

    pub left-known : (i : ℕ) → Known c (var (gate_at c i).left)
    unfolding used
    left-known =
        get_d-all (λ x. Known c (var x.left)) c.gates no_gate (constant refl)
        (λ x m. used-known x.left (Memᴰ.append_left _ (Memᴰ.append_right line_lits (Memᴰ.map (λ g. g.left) m))))

    pub right-known : (i : ℕ) → Known c (var (gate_at c i).right)
    unfolding used
    right-known =
        get_d-all (λ x. Known c (var x.right)) c.gates no_gate (constant refl)
        (λ x m. used-known x.right (Memᴰ.append_right (line_lits ++ map (λ g. g.left) c.gates) (Memᴰ.map (λ g. g.right) m)))

-- ---- the gate of a variable

-- the gate of a variable stands among the gates and defines it
pub gate_of-in : (gs : List Gate) (v : ℕ) (g : Gate) → gate_of gs v ≡ some g → (i : ℕ) × (i < length gs) × (get_or gs i no_gate ≡ g) × (var g.lit ≡ v)
unfolding gate_of
gate_of-in [] v g e = let z : ◌≡◌ {A = ℕ} 0 1 = cc in absurd (omega arith)
gate_of-in (h ∷ gs) v g e = go (eqb (var h.lit) v) refl e (gate_of-in gs v g)
  where
    go : (b : Bool) → eqb (var h.lit) v ≡ b → cond b (some h) (gate_of gs v) ≡ some g
        → (gate_of gs v ≡ some g → (i : ℕ) × (i < length gs) × (get_or gs i no_gate ≡ g) × (var g.lit ≡ v))
        → (i : ℕ) × (i < length (h ∷ gs)) × (get_or (h ∷ gs) i no_gate ≡ g) × (var g.lit ≡ v)
    go true d k r =
        let s : h ≡ g = cc in
        (0, omega arith, s, ap (λ (x : Gate). var x.lit) (sym s) ∙ eqb-true (var h.lit) v d)
    go false d k r = let p = r k in (suc p.0, omega (arith, p.1), p.2, p.3)

-- a variable that no gate defines has no gate
pub gate_of-none : (gs : List Gate) (v : ℕ) → ((i : ℕ) → i < length gs → var (get_or gs i no_gate).lit ≡ v → ⊥) → gate_of gs v ≡ none
unfolding gate_of
gate_of-none [] v h = refl
gate_of-none (g ∷ gs) v h =
    rw (ne_eqb (var g.lit) v (h 0 (omega arith))) (gate_of-none gs v (λ i l e. h (suc i) (omega arith) e))

-- where no two gates have the same variable, the gate of the i-th gate's variable is the i-th gate
pub gate_of-at : (gs : List Gate) → Apart (map (λ g. g.lit) gs) → (i : ℕ) → i < length gs → gate_of gs (var (get_or gs i no_gate).lit) ≡ some (get_or gs i no_gate)
unfolding gate_of
gate_of-at [] a i h = absurd (not-suc-le-zero h)
gate_of-at (g ∷ gs) a zero h = rw (eq-eqb (var g.lit) (var g.lit) refl)
gate_of-at (g ∷ gs) a (suc i) h =
    let differ : var g.lit ≡ var (get_or gs i no_gate).lit → ⊥ =
    λ e. a 0 (suc i) (omega arith) (simp length-map h) (e ∙ ap var (sym (get_or-map (λ x. x.lit) gs i no_gate))) in
    rw (ne_eqb (var g.lit) (var (get_or gs i no_gate).lit) differ)
    (gate_of-at gs (λ m n k l e. a (suc m) (suc n) (omega arith) (omega arith) e) i (le_of_suc-le-suc h))
