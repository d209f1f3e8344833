-- The pinned circuit of a circuit that load accepts is one that load accepts. Clause 12.7. Assumes nothing.
use mathlib.Core.Path.{◌≡◌, refl, sym, ap, ap₂, ◌∙◌, subst}
use mathlib.Core.Bool.{Bool, true, false, not, cond, ◌&&◌, ◌||◌}
use mathlib.Core.List.Memᴰ
use mathlib.Core.List.{List, [], ◌∷◌, ◌++◌, map, map-append, append_assoc, Memᴰ}
use mathlib.Core.Option.{Option, none, some}
use mathlib.Core.Logic.{⊎_elim}
use Prim.Native.Nat.{ℕ, zero, suc, ◌+◌, ◌*◌, ◌≤◌, ◌<◌}
use native.Mathlib.Omega.{arith}
use borrow.Author.Tests.{le-leb}
use lib.Dec.{T, leb, eqb, le→leb}
use lib.ListN.{length, length-map, get_or}
use Rattle.aiger.specs.Lists.{every, distinct, member}
use Rattle.aiger.specs.Bits.{odd}
use Rattle.aiger.specs.Circuit.{Circuit, Latch, Gate, var, defined, used, literal_tests, literals_right, used_defined, gate_of, operands, settles, acyclic}
use Rattle.aiger.specs.File.{counts_fit, header_of}
use Rattle.aiger.specs.Load.{needed}
use Rattle.aiger.proofs.Tests.{and, and_left, and_right, T_true, true-T, every-left, every-right, every-imp, all-at, all_hold}
use Rattle.meaning.proofs.Lists.{every-mapped, every-both, every_in, member-mem, mem-member}
use Rattle.meaning.proofs.Defined.{no_gate, gate_at, definition, gate-in, gate_of-none}
use Rattle.meaning.proofs.Cycles.{all-settle}
use Rattle.roundtrip.proofs.LoadWrite.{Valid, Counts, counts-fit}
use Rattle.pins.specs.Pins.{is_held, kept, pin_of, constant_of, tied, tied_latch, tied_gate, pinned}
use Rattle.pins.proofs.Inputs.{every-kept, pairwise-kept, kept-mem, kept-most, tied-cases}

-- ---- lists

map-fuse : {A B C D : Type 0} (g : B → C) (f : A → B) (h : A → D) (k : D → C) → ((x : A) → g (f x) ≡ k (h x)) → (xs : List A)
    → map g (map f xs) ≡ map k (map h xs)
map-fuse g f h k e [] = refl
map-fuse g f h k e (x ∷ xs) = ap₂ ◌∷◌ (e x) (map-fuse g f h k e xs)

map-after : {A B C : Type 0} (g : B → C) (f : A → B) (h : A → C) → ((x : A) → g (f x) ≡ h x) → (xs : List A) → map g (map f xs) ≡ map h xs
map-after g f h e [] = refl
map-after g f h e (x ∷ xs) = ap₂ ◌∷◌ (e x) (map-after g f h e xs)

module _ (c : Circuit) (q : ℕ → ℕ) where
  abbrev tie : ℕ → ℕ
  tie = tied q c.inputs

  abbrev latch_lits : List ℕ
  latch_lits = map (λ l. l.lit) c.latches

  abbrev gate_lits : List ℕ
  gate_lits = map (λ g. g.lit) c.gates

  -- the literals that are used are those of c, tied
  pub used-pinned : used (pinned c q) ≡ map tie (used c)
  unfolding used pinned
  used-pinned =
      simp map-append
      (ap₂ ◌++◌
      (ap₂ ◌++◌
      (ap (λ (z : List ℕ). z ++ map tie c.outputs ++ map tie c.bads ++ map tie c.constraints)
      (map-fuse (λ l. l.next) (tied_latch q c.inputs) (λ l. l.next) tie (λ x. refl) c.latches))
      (map-fuse (λ g. g.left) (tied_gate q c.inputs) (λ g. g.left) tie (λ x. refl) c.gates))
      (map-fuse (λ g. g.right) (tied_gate q c.inputs) (λ g. g.right) tie (λ x. refl) c.gates))

  -- those that are defined are those of c without the held inputs
  defined-split : defined c ≡ c.inputs ++ (latch_lits ++ gate_lits)
  unfolding defined
  defined-split = append_assoc c.inputs latch_lits gate_lits

  defined-pinned : defined (pinned c q) ≡ kept q 0 c.inputs ++ (latch_lits ++ gate_lits)
  unfolding defined pinned
  defined-pinned =
      append_assoc (kept q 0 c.inputs) _ _
      ∙ ap₂ (λ (x y : List ℕ). kept q 0 c.inputs ++ (x ++ y))
      (map-after (λ l. l.lit) (tied_latch q c.inputs) (λ l. l.lit) (λ x. refl) c.latches)
      (map-after (λ g. g.lit) (tied_gate q c.inputs) (λ g. g.lit) (λ x. refl) c.gates)

  every-defined : (p : ℕ → Bool) → T (every p (defined c)) → T (every p (defined (pinned c q)))
  every-defined p h =
      subst (λ (z : List ℕ). T (every p z)) (sym defined-pinned)
      (every-kept p q 0 c.inputs (latch_lits ++ gate_lits) (subst (λ (z : List ℕ). T (every p z)) defined-split h))

  tie-cases : (l : ℕ) (P : ℕ → Type 0) → P 0 → P 1 → (is_held (pin_of q 0 c.inputs (var l)) ≡ false → P l) → P (tie l)
  unfolding tied
  tie-cases l P a b h = tied-cases (pin_of q 0 c.inputs (var l)) l P a b h

  every-used : (p : ℕ → Bool) → T (p 0) → T (p 1) → T (every p (used c)) → T (every p (used (pinned c q)))
  every-used p a b h =
      subst (λ (z : List ℕ). T (every p z)) (sym used-pinned)
      (every-mapped p tie (used c) (every-imp p (λ x. p (tie x)) (λ x t. tie-cases x (λ z. T (p z)) a b (λ _. t)) (used c) h))

  -- test 6
  pub pinned-right : T (literals_right c) → T (literals_right (pinned c q))
  unfolding literals_right pinned
  pinned-right r =
      let p : ℕ → Bool = λ l. leb l (2 * c.max_var + 1) in
      let t0 = all-at (literal_tests c) r 0 in
      all_hold (literal_tests (pinned c q))
      ((
        every-both p (defined (pinned c q)) (used (pinned c q))
            (every-defined p (every-left p (defined c) (used c) t0))
            (every-used p (le→leb 0 (2 * c.max_var + 1) (omega arith)) (le→leb 1 (2 * c.max_var + 1) (omega arith)) (every-right p (defined c) (used c) t0)),
        (
          every-defined (λ l. leb 2 l && not (odd l)) (all-at (literal_tests c) r 1),
          (apart (all-at (literal_tests c) r 2), (resets (all-at (literal_tests c) r 3), tt)),
        ),
      ))
    where
      apart : T (distinct (defined c)) → T (distinct (defined (pinned c q)))
      apart h =
          subst (λ (z : List ℕ). T (distinct z)) (sym defined-pinned)
          (pairwise-kept (λ x y. not (eqb x y)) q 0 c.inputs (latch_lits ++ gate_lits) (subst (λ (z : List ℕ). T (distinct z)) defined-split h))

      resets : T (every (λ l. leb l.reset 1 || eqb l.reset l.lit) c.latches)
          → T (every (λ l. leb l.reset 1 || eqb l.reset l.lit) (pinned c q).latches)
      resets h = every-mapped (λ l. leb l.reset 1 || eqb l.reset l.lit) (tied_latch q c.inputs) c.latches h

  -- test 7
  pub pinned-known : T (used_defined c) → T (used_defined (pinned c q))
  unfolding used_defined
  pinned-known k =
      subst (λ (z : List ℕ). T (every (λ l. member (var l) (0 ∷ map var (defined (pinned c q)))) z)) (sym used-pinned)
      (every-mapped (λ l. member (var l) (0 ∷ map var (defined (pinned c q)))) tie (used c)
      (every-imp (λ l. member (var l) (0 ∷ map var (defined c))) (λ l. member (var (tie l)) (0 ∷ map var (defined (pinned c q)))) one (used c) k))
    where
      vars : map var (defined c) ≡ map var c.inputs ++ map var (latch_lits ++ gate_lits)
      vars = ap (map var) defined-split ∙ map-append var c.inputs (latch_lits ++ gate_lits)

      vars' : map var (defined (pinned c q)) ≡ map var (kept q 0 c.inputs) ++ map var (latch_lits ++ gate_lits)
      vars' = ap (map var) defined-pinned ∙ map-append var (kept q 0 c.inputs) (latch_lits ++ gate_lits)

      there : (v : ℕ) → is_held (pin_of q 0 c.inputs v) ≡ false → Memᴰ v (map var (defined c)) → Memᴰ v (map var (defined (pinned c q)))
      there v f m =
          subst (Memᴰ v) (sym vars')
          (⊎_elim (λ a. Memᴰ.append_left (map var (latch_lits ++ gate_lits)) (kept-mem q 0 c.inputs v f a))
          (λ a. Memᴰ.append_right (map var (kept q 0 c.inputs)) a)
          (Memᴰ.append_cases (map var c.inputs) (subst (Memᴰ v) vars m)))

      one : (l : ℕ) → T (member (var l) (0 ∷ map var (defined c))) → T (member (var (tie l)) (0 ∷ map var (defined (pinned c q))))
      one l t =
          let zero_in : T (member 0 (0 ∷ map var (defined (pinned c q)))) = mem-member {x = 0} {xs = 0 ∷ map var (defined (pinned c q))} (Memᴰ.head refl) in
          tie-cases l (λ z. T (member (var z) (0 ∷ map var (defined (pinned c q))))) zero_in zero_in
          (λ f. mem-member {x = var l} {xs = 0 ∷ map var (defined (pinned c q))}
          (⊎_elim (λ a. Memᴰ.head a) (λ a. Memᴰ.tail (there (var l) f a)) (Memᴰ.cases_cons (member-mem (var l) (0 ∷ map var (defined c)) t))))

  -- test 8
  abbrev tie_option : Option Gate → Option Gate
  tie_option none = none
  tie_option (some g) = some (tied_gate q c.inputs g)

  gate_of-tied : (gs : List Gate) (v : ℕ) → gate_of (map (tied_gate q c.inputs) gs) v ≡ tie_option (gate_of gs v)
  unfolding gate_of
  gate_of-tied [] v = refl
  gate_of-tied (g ∷ gs) v = go (eqb (var g.lit) v) (gate_of-tied gs v)
    where
      go : (b : Bool) → gate_of (map (tied_gate q c.inputs) gs) v ≡ tie_option (gate_of gs v)
          → cond b (some (tied_gate q c.inputs g)) (gate_of (map (tied_gate q c.inputs) gs) v) ≡ tie_option (cond b (some g) (gate_of gs v))
      go true e = refl
      go false e = e

  operands-tied : (o : Option Gate) (p p' : ℕ → Bool) → ((u : ℕ) → T (p u) → T (p' u)) → T (p' 0) → T (operands o p) → T (operands (tie_option o) p')
  unfolding operands
  operands-tied none p p' h z t = tt
  operands-tied (some g) p p' h z t =
      let l = p (var g.left) in
      let r = p (var g.right) in
      and (p' (var (tie g.left))) (p' (var (tie g.right)))
      (tie-cases g.left (λ x. T (p' (var x))) z z (λ _. h (var g.left) (and_left l r t)))
      (tie-cases g.right (λ x. T (p' (var x))) z z (λ _. h (var g.right) (and_right l r t)))

  module _ (right : T (literals_right c)) where
    none-zero : gate_of c.gates 0 ≡ none
    none-zero = gate_of-none c.gates 0 (λ i l e. omega (arith, (definition c right (gate_at c i).lit (gate-in c i l)).0))

    zero-settles : (n : ℕ) → T (settles (map (tied_gate q c.inputs) c.gates) n 0)
    unfolding settles operands
    zero-settles zero = subst (λ (o : Option Gate). T (operands o (λ _. false))) (sym (gate_of-tied c.gates 0 ∙ ap tie_option none-zero)) tt
    zero-settles (suc n) =
        subst (λ (o : Option Gate). T (operands o (settles (map (tied_gate q c.inputs) c.gates) n))) (sym (gate_of-tied c.gates 0 ∙ ap tie_option none-zero)) tt

    settles-tied : (n v : ℕ) → T (settles c.gates n v) → T (settles (map (tied_gate q c.inputs) c.gates) n v)
    unfolding settles operands
    settles-tied zero v t =
        subst (λ (o : Option Gate). T (operands o (λ _. false))) (sym (gate_of-tied c.gates v)) (dead (gate_of c.gates v) t)
      where
        dead : (o : Option Gate) → T (operands o (λ _. false)) → T (operands (tie_option o) (λ _. false))
        dead none x = tt
        dead (some g) x = x
    settles-tied (suc n) v t =
        subst (λ (o : Option Gate). T (operands o (settles (map (tied_gate q c.inputs) c.gates) n))) (sym (gate_of-tied c.gates v))
        (operands-tied (gate_of c.gates v) (settles c.gates n) (settles (map (tied_gate q c.inputs) c.gates) n)
        (settles-tied n) (zero-settles n) t)

    pub pinned-acyclic : T (acyclic c) → T (acyclic (pinned c q))
    unfolding acyclic pinned
    pinned-acyclic a =
        let gs = map (tied_gate q c.inputs) c.gates in
        every_in (λ g. settles gs (length gs) (var g.lit)) gs no_gate
        (λ i l. subst (λ (n : ℕ). T (settles gs n (var (get_or gs i no_gate).lit))) (sym (length-map c.gates (tied_gate q c.inputs)))
        (settles-tied (length c.gates) (var (get_or gs i no_gate).lit) (all-settle c a (var (get_or gs i no_gate).lit))))

  -- ---- counts

  pub pinned-inputs : length (pinned c q).inputs ≤ length c.inputs
  unfolding pinned
  pinned-inputs = kept-most q 0 c.inputs

  -- the counts but that of the inputs are c's
  pub record SameCounts : Type 0 where
    pub top : (pinned c q).max_var ≡ c.max_var
    pub latches : length (pinned c q).latches ≡ length c.latches
    pub outputs : length (pinned c q).outputs ≡ length c.outputs
    pub bads : length (pinned c q).bads ≡ length c.bads
    pub constraints : length (pinned c q).constraints ≡ length c.constraints
    pub gates : length (pinned c q).gates ≡ length c.gates

  pub pinned-counts : SameCounts
  unfolding pinned
  pinned-counts =
      record {
        top = refl;
        latches = length-map c.latches (tied_latch q c.inputs);
        outputs = length-map c.outputs tie;
        bads = length-map c.bads tie;
        constraints = length-map c.constraints tie;
        gates = length-map c.gates (tied_gate q c.inputs);
      }

  counts-pinned : Counts c → counts_fit (header_of (pinned c q)) ≡ true
  unfolding counts_fit
  counts-pinned n =
      let s = pinned-counts in
      let i = pinned-inputs in
      let d = pinned c q in
      simp (
        le-leb d.max_var 4096 (omega (arith, s.top, n.max_var)),
        le-leb (length d.inputs) 256 (omega (arith, n.inputs)),
        le-leb (length d.latches) 1024 (omega (arith, s.latches, n.latches)),
        le-leb (length d.outputs) 64 (omega (arith, s.outputs, n.outputs)),
        le-leb (length d.gates) 3072 (omega (arith, s.gates, n.gates)),
        le-leb (length d.bads) 16 (omega (arith, s.bads, n.bads)),
        le-leb (length d.constraints) 16 (omega (arith, s.constraints, n.constraints)),
        le-leb (length d.inputs + length d.latches + length d.gates) d.max_var
            (omega (arith, s.top, s.latches, s.gates, n.definitions)),
      )

  -- load accepts the pinned circuit where it accepts c
  pub pinned-valid : {room : ℕ} → Valid room c → Valid room (pinned c q)
  pinned-valid {room} v =
      let right = T_true v.literals in
      record {
        fit = counts-pinned (counts-fit c v.fit);
        held = subst (λ (m : ℕ). needed m ≤ room) (sym pinned-counts.top) v.held;
        literals = true-T (literals_right (pinned c q)) (pinned-right right);
        uses = true-T (used_defined (pinned c q)) (pinned-known (T_true v.uses));
        order = true-T (acyclic (pinned c q)) (pinned-acyclic right (T_true v.order));
      }
