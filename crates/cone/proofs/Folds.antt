-- The circuit that a cone makes is a fold. Clauses 5.5, 5.6. Assumes nothing.
use mathlib.Core.Path.{◌≡◌, refl, sym, ap, ◌∙◌, subst}
use mathlib.Core.Bool.{Bool, true, false, not, ◌&&◌, ◌||◌, beq}
use mathlib.Core.List.{List, [], ◌∷◌, map}
use mathlib.Core.Logic.{◌⊎◌, inl, inr, ⊎_elim}
use Prim.Native.Nat.{ℕ, zero, suc, ◌+◌, ◌-◌, ◌*◌, ◌%◌, ◌≤◌, ◌<◌, ◌^◌}
use native.Mathlib.Omega.{arith}
use borrow.Author.Tests.{ne_eqb, ltb-false}
use lib.Dec.{T, leb, ltb, eqb, le→leb, eqb→eq}
use lib.ListN.{length, get_or}
use Rattle.aiger.specs.Lists.{every, any, pairwise, every_below, member, upto}
use Rattle.aiger.specs.Circuit.{Circuit, Gate, var}
use Rattle.aiger.specs.Frames.{free_bits, free_bit}
use Rattle.aiger.specs.Search.{reaches}
use Rattle.aiger.specs.Fold.{value_on, output, plain, alike, leads, twins, reduced, complement, among, repeated, repeated_in, fold_rules, folds}
use Rattle.aiger.specs.Bits.{nonzero, odd}
use Rattle.aiger.proofs.Tests.{and, and_left, and_right, or_cases, T_true, not_T, below_at, below_all, all_hold}
use Rattle.meaning.proofs.Lists.{or_left, or_right, equal-of-beq, eqb_of, every-all, pairwise-all, any_at, length-map-upto, get_d-map-upto}
use Rattle.meaning.proofs.Defined.{no_gate, gate_at}
use Rattle.meaning.proofs.Shape.{shape-in}
use Rattle.nodes.specs.Graph.{Pair, pair_at, nodes, edge_value, deep, Built}
use Rattle.cone.specs.Cone.{in_cone, kept_before, number, Numbered, renumbered, kept_gate, folded}
use Rattle.cone.proofs.Cone.{Operand, root_kept, reason, operand-earlier, before-lt, number-leaf, number_same}
use Rattle.cone.proofs.Gates.{length-folded, renumbered-var, renumbered-sign, renumbered-same, GateFrom, from-gate, to-gate, from-order, operand-numbered, shape}
use Rattle.cone.proofs.Circuit.{folded-shape}
use Rattle.cone.proofs.Values.{edge_on, node-on}

beq-of : {a b : Bool} → a ≡ b → T (beq a b)
beq-of {a} e = subst (λ (x : Bool). T (beq a x)) e (beq-refl a)
  where
    beq-refl : (a : Bool) → T (beq a a)
    beq-refl true = tt
    beq-refl false = tt

opposite-of-beq : (a b : Bool) → T (not (beq a b)) → a ≡ not b
opposite-of-beq true true t = absurd t
opposite-of-beq true false t = refl
opposite-of-beq false true t = refl
opposite-of-beq false false t = absurd t

plain_in : (g : Gate) → 2 ≤ g.right → var g.right < var g.left → T (plain g)
unfolding plain
plain_in g a b =
    and (leb 2 g.left && leb 2 g.right) (not (eqb (var g.left) (var g.right)))
    (and (leb 2 g.left) (leb 2 g.right) (le→leb 2 g.left (omega arith)) (le→leb 2 g.right a))
    (T_true (ap not (ne_eqb (var g.left) (var g.right) (λ e. omega arith))))

not_alike : (g h : Gate) → (g.left ≡ h.left → g.right ≡ h.right → ⊥) → T (not (alike g h))
unfolding alike
not_alike g h k =
    not_T (eqb g.left h.left && eqb g.right h.right)
    (λ t.
    k (eqb→eq g.left h.left (and_left (eqb g.left h.left) (eqb g.right h.right) t))
    (eqb→eq g.right h.right (and_right (eqb g.left h.left) (eqb g.right h.right) t)))

module _ (n : ℕ) (gs : List Pair) (root : ℕ) (built : Built n gs) (inside : var root < nodes n gs) where
  abbrev d : Circuit
  d = folded n gs root

  output-folded : output (folded n gs root) ≡ renumbered n gs root root
  unfolding folded
  output-folded = refl

  output-var : var (output (folded n gs root)) ≡ number n gs root (var root)
  output-var = ap var output-folded ∙ renumbered-var n gs root root

  pub folded-plain : T (every plain (folded n gs root).gates)
  folded-plain = every-all plain d.gates no_gate (λ i h. let s = shape n gs root built i h in plain_in (gate_at d i) s.nonconstant s.larger)

  -- gates that are kept have the same operands only if they are the same
  kept-apart : (i j : ℕ) → i < j → j < length gs → T (in_cone n gs root (n + 1 + i)) → T (in_cone n gs root (n + 1 + j))
      → (kept_gate n gs root i).left ≡ (kept_gate n gs root j).left → (kept_gate n gs root i).right ≡ (kept_gate n gs root j).right → ⊥
  unfolding kept_gate
  kept-apart i j h l a b p q =
      let u : i < length gs = omega arith in
      built.apart j i l h
      (sym (renumbered-same n gs root (pair_at gs i).left (pair_at gs j).left (operand-numbered n gs root built i (var (pair_at gs i).left) u a (inl refl))
      (operand-numbered n gs root built j (var (pair_at gs j).left) l b (inl refl)) p))
      (sym (renumbered-same n gs root (pair_at gs i).right (pair_at gs j).right (operand-numbered n gs root built i (var (pair_at gs i).right) u a (inr refl))
      (operand-numbered n gs root built j (var (pair_at gs j).right) l b (inr refl)) q))

  pub folded-unlike : T (pairwise (λ g h. not (alike g h)) (folded n gs root).gates)
  folded-unlike =
      pairwise-all (λ g h. not (alike g h)) d.gates no_gate
      (λ p q h l.
      let a = to-gate n gs root p (omega arith) in
      let b = to-gate n gs root q l in
      let o = from-order n gs root a.1 b.1 h in
      not_alike (gate_at d p) (gate_at d q)
      (λ e f.
      kept-apart a.0 b.0 o b.1.inside a.1.kept b.1.kept
      (ap (λ (g : Gate). g.left) (sym a.1.gate) ∙ e ∙ ap (λ (g : Gate). g.left) b.1.gate)
      (ap (λ (g : Gate). g.right) (sym a.1.gate) ∙ f ∙ ap (λ (g : Gate). g.right) b.1.gate)))

  -- ---- no operand is repeated one gate down

  renumbered-complement : (e : ℕ) → complement (renumbered n gs root e) ≡ renumbered n gs root (complement e)
  unfolding renumbered
  renumbered-complement e =
      let v : var (complement e) ≡ var e = omega arith in
      omega (arith, ap (number n gs root) v)

  renumbered-odd : (e : ℕ) → odd (renumbered n gs root e) ≡ odd e
  renumbered-odd e = ap nonzero (renumbered-sign n gs root e)

  -- an operand of gate j that is kept, renumbered
  among-back : (j e : ℕ) → j < length gs → T (in_cone n gs root (n + 1 + j)) → Numbered n gs root (var e)
      → T (among (renumbered n gs root (pair_at gs j).left) (renumbered n gs root (pair_at gs j).right) (renumbered n gs root e))
      → (e ≡ (pair_at gs j).left) ⊎ (e ≡ (pair_at gs j).right)
  among-back j e h t a o =
      let l = (pair_at gs j).left in
      let r = (pair_at gs j).right in
      ⊎_elim
      (λ q. inl (renumbered-same n gs root e l a (operand-numbered n gs root built j (var l) h t (inl refl)) (eqb→eq _ _ q)))
      (λ q. inr (renumbered-same n gs root e r a (operand-numbered n gs root built j (var r) h t (inr refl)) (eqb→eq _ _ q)))
      (or_cases (eqb (renumbered n gs root e) (renumbered n gs root l)) (eqb (renumbered n gs root e) (renumbered n gs root r)) o)

  among_in : (p : Pair) (e : ℕ) → (e ≡ p.left) ⊎ (e ≡ p.right) → T (among p.left p.right e)
  among_in p e (inl q) = or_left (eqb e p.left) (eqb e p.right) (eqb_of q)
  among_in p e (inr q) = or_right (eqb e p.left) (eqb e p.right) (eqb_of q)

  module _ (j : ℕ) (h : j < length gs) (t : T (in_cone n gs root (n + 1 + j))) (o a : ℕ) (numbered : Numbered n gs root (var a)) where
    -- the operand, or its complement, is one of gate j
    repeated-operand : T (repeated (renumbered n gs root (pair_at gs j).left) (renumbered n gs root (pair_at gs j).right) (renumbered n gs root o) (renumbered n gs root a))
        → ((complement a ≡ (pair_at gs j).left) ⊎ (complement a ≡ (pair_at gs j).right))
        ⊎ ((odd o ≡ false) × ((a ≡ (pair_at gs j).left) ⊎ (a ≡ (pair_at gs j).right)))
    unfolding repeated
    repeated-operand r =
        let l' = renumbered n gs root (pair_at gs j).left in
        let r' = renumbered n gs root (pair_at gs j).right in
        let o' = renumbered n gs root o in
        let a' = renumbered n gs root a in
        let v : var a ≡ var (complement a) = omega arith in
        ⊎_elim
        (λ q.
        inl (among-back j (complement a) h t (subst (Numbered n gs root) v numbered) (subst (λ (x : ℕ). T (among l' r' x)) (renumbered-complement a) q)))
        (λ q.
        inr (
          not-true (odd o) (subst (λ (x : Bool). T (not x)) (renumbered-odd o) (and_left (not (odd o')) (among l' r' a') q)),
          among-back j a h t numbered (and_right (not (odd o')) (among l' r' a') q),
        ))
        (or_cases (among l' r' (complement a')) (not (odd o') && among l' r' a') r)
      where
        not-true : (b : Bool) → T (not b) → b ≡ false
        not-true true t = absurd t
        not-true false t = refl

    repeated-back : T (repeated (renumbered n gs root (pair_at gs j).left) (renumbered n gs root (pair_at gs j).right) (renumbered n gs root o) (renumbered n gs root a))
        → T (repeated (pair_at gs j).left (pair_at gs j).right o a)
    unfolding repeated
    repeated-back r =
        let p = pair_at gs j in
        ⊎_elim
        (λ q. or_left (among p.left p.right (complement a)) (not (odd o) && among p.left p.right a) (among_in p (complement a) q))
        (λ q.
        or_right (among p.left p.right (complement a)) (not (odd o) && among p.left p.right a)
        (and (not (odd o)) (among p.left p.right a) (T_true (ap not q.0)) (among_in p a q.1)))
        (repeated-operand r)

    -- so its node comes before gate j
    repeated-earlier : T (repeated (renumbered n gs root (pair_at gs j).left) (renumbered n gs root (pair_at gs j).right) (renumbered n gs root o) (renumbered n gs root a))
        → var a < n + 1 + j
    repeated-earlier r =
        let l = built.earlier j h in
        let m = built.larger j h in
        let v : var (complement a) ≡ var a = omega arith in
        ⊎_elim (λ q. ⊎_elim (λ e. omega (arith, ap var e)) (λ e. omega (arith, ap var e)) q)
        (λ q. ⊎_elim (λ e. omega (arith, ap var e)) (λ e. omega (arith, ap var e)) q.1) (repeated-operand r)

  -- an operand that is repeated in gate j, where the left operand of gate i is gate j
  deep-there : (i : ℕ) → i < length gs → (j : ℕ) → n + 1 + j ≡ var (pair_at gs i).left
      → T (repeated (pair_at gs j).left (pair_at gs j).right (pair_at gs i).left (pair_at gs i).right) → ⊥
  unfolding deep
  deep-there i h j e r =
      let l = (pair_at gs i).left in
      let m = (pair_at gs i).right in
      let z : j ≡ var l - (n + 1) = omega arith in
      let k = var l - (n + 1) in
      let d : T (leb (n + 1) (var l) && repeated (pair_at gs k).left (pair_at gs k).right l m) =
      and (leb (n + 1) (var l)) (repeated (pair_at gs k).left (pair_at gs k).right l m) (le→leb (n + 1) (var l) (omega arith))
      (subst (λ (x : ℕ). T (repeated (pair_at gs x).left (pair_at gs x).right l m)) z r) in
      subst (λ (x : Bool). T x) (built.shallow i h) d

  kept-shallow : (i j : ℕ) → i < length gs → j < length gs → T (in_cone n gs root (n + 1 + i)) → T (in_cone n gs root (n + 1 + j))
      → T (repeated_in (kept_gate n gs root i) (kept_gate n gs root j)) → ⊥
  unfolding kept_gate repeated_in
  kept-shallow i j h k s t r =
      let l = (pair_at gs i).left in
      let m = (pair_at gs i).right in
      let a = operand-numbered n gs root built i (var l) h s (inl refl) in
      let b = operand-numbered n gs root built i (var m) h s (inr refl) in
      let ren : ℕ → ℕ = renumbered n gs root in
      let lit : ℕ = 2 * number n gs root (n + 1 + j) in
      let rep : ℕ → ℕ → Bool = λ o e. repeated (ren (pair_at gs j).left) (ren (pair_at gs j).right) o e in
      let is : (e : ℕ) → Numbered n gs root (var e) → T (eqb (var lit) (var (ren e))) → n + 1 + j ≡ var e =
      λ e z q.
      let w : var lit ≡ number n gs root (n + 1 + j) = omega arith in
      number_same n gs root (n + 1 + j) (var e) (inr t) z (sym w ∙ eqb→eq (var lit) (var (ren e)) q ∙ renumbered-var n gs root e) in
      ⊎_elim
      (λ q.
      let e = is l a (and_left (eqb (var lit) (var (ren l))) (rep (ren l) (ren m)) q) in
      deep-there i h j e (repeated-back j k t l m b (and_right (eqb (var lit) (var (ren l))) (rep (ren l) (ren m)) q)))
      (λ q.
      let e = is m b (and_left (eqb (var lit) (var (ren m))) (rep (ren m) (ren l)) q) in
      omega (arith, repeated-earlier j k t m l a (and_right (eqb (var lit) (var (ren m))) (rep (ren m) (ren l)) q), built.larger i h))
      (or_cases (eqb (var lit) (var (ren l)) && rep (ren l) (ren m)) (eqb (var lit) (var (ren m)) && rep (ren m) (ren l)) r)

  pub folded-shallow : T (every (λ g. every (λ h. not (repeated_in g h)) (folded n gs root).gates) (folded n gs root).gates)
  folded-shallow =
      every-all (λ g. every (λ h. not (repeated_in g h)) d.gates) d.gates no_gate
      (λ p h.
      let a = to-gate n gs root p h in
      every-all (λ k. not (repeated_in (gate_at d p) k)) d.gates no_gate
      (λ q l.
      let b = to-gate n gs root q l in
      not_T (repeated_in (gate_at d p) (gate_at d q))
      (λ r.
      kept-shallow a.0 b.0 a.1.inside b.1.inside a.1.kept b.1.kept
      (subst (λ (k : Gate). T (repeated_in (kept_gate n gs root a.0) k)) b.1.gate (subst (λ (g : Gate). T (repeated_in g (gate_at d q))) a.1.gate r)))))

  -- ---- every gate leads to the output

  leads-root : (s v : ℕ) → v ≡ number n gs root (var root) → T (leads (folded n gs root) s v)
  unfolding leads
  leads-root zero v e = eqb_of (e ∙ sym output-var)
  leads-root (suc s) v e =
      or_left (eqb v (var (output d))) (any (λ g. member v (var g.left ∷ var g.right ∷ []) && leads d s (var g.lit)) d.gates)
      (eqb_of (e ∙ sym output-var))

  operand-member : (j k : ℕ) → Operand gs j k → T (member (number n gs root k) (var (kept_gate n gs root j).left ∷ var (kept_gate n gs root j).right ∷ []))
  unfolding kept_gate
  operand-member j k (inl e) =
      or_left (eqb (number n gs root k) (var (renumbered n gs root (pair_at gs j).left)))
      (eqb (number n gs root k) (var (renumbered n gs root (pair_at gs j).right)) || false)
      (eqb_of (ap (number n gs root) e ∙ sym (renumbered-var n gs root (pair_at gs j).left)))
  operand-member j k (inr e) =
      or_right (eqb (number n gs root k) (var (renumbered n gs root (pair_at gs j).left)))
      (eqb (number n gs root k) (var (renumbered n gs root (pair_at gs j).right)) || false)
      (or_left (eqb (number n gs root k) (var (renumbered n gs root (pair_at gs j).right))) false
      (eqb_of (ap (number n gs root) e ∙ sym (renumbered-var n gs root (pair_at gs j).right))))

  kept-lit : (j : ℕ) → var (kept_gate n gs root j).lit ≡ number n gs root (n + 1 + j)
  unfolding kept_gate
  kept-lit j = omega arith

  leads-through : (s j k : ℕ) → j < length gs → T (in_cone n gs root (n + 1 + j)) → Operand gs j k
      → T (leads (folded n gs root) s (number n gs root (n + 1 + j))) → T (leads (folded n gs root) (suc s) (number n gs root k))
  unfolding leads
  leads-through s j k h t o r =
      let v = number n gs root k in
      let a = from-gate n gs root j h t in
      let p = kept_before n gs root j in
      let test : Gate → Bool = λ g. member v (var g.left ∷ var g.right ∷ []) && leads d s (var g.lit) in
      let z = kept_gate n gs root j in
      or_right (eqb v (var (output d))) (any test d.gates)
      (any_at test d.gates p no_gate (omega (arith, length-folded n gs root, before-lt n gs root j (length gs) h t))
      (subst (λ (g : Gate). T (test g)) (sym a.gate)
      (and (member v (var z.left ∷ var z.right ∷ [])) (leads d s (var z.lit)) (operand-member j k o)
      (subst (λ (x : ℕ). T (leads d s x)) (sym (kept-lit j)) r))))

  leads-in : (s i : ℕ) → i < length gs → T (in_cone n gs root (n + 1 + i)) → kept_before n gs root (length gs) ≤ s + 1 + kept_before n gs root i
      → T (leads (folded n gs root) s (number n gs root (n + 1 + i)))
  leads-in zero i h t l =
      ⊎_elim (λ e. leads-root 0 (number n gs root (n + 1 + i)) (ap (number n gs root) e))
      (λ (r : (j : ℕ) × (j < length gs) × T (in_cone n gs root (n + 1 + j)) × Operand gs j (n + 1 + i)).
      absurd
      (omega (
        arith,
        before-lt n gs root i r.0 (omega (arith, operand-earlier n gs root built r.0 (n + 1 + i) r.1 r.3)) t,
        before-lt n gs root r.0 (length gs) r.1 r.2,
      )))
      (reason n gs root built (n + 1 + i) t)
  leads-in (suc s) i h t l =
      ⊎_elim (λ e. leads-root (suc s) (number n gs root (n + 1 + i)) (ap (number n gs root) e))
      (λ (r : (j : ℕ) × (j < length gs) × T (in_cone n gs root (n + 1 + j)) × Operand gs j (n + 1 + i)).
      leads-through s r.0 (n + 1 + i) r.1 r.2 r.3
      (leads-in s r.0 r.1 r.2
      (omega (arith, before-lt n gs root i r.0 (omega (arith, operand-earlier n gs root built r.0 (n + 1 + i) r.1 r.3)) t))))
      (reason n gs root built (n + 1 + i) t)

  pub folded-leads : T (every (λ g. leads (folded n gs root) (length (folded n gs root).gates) (var g.lit)) (folded n gs root).gates)
  folded-leads =
      every-all (λ g. leads d (length d.gates) (var g.lit)) d.gates no_gate
      (λ p h.
      let a = to-gate n gs root p h in
      subst (λ (g : Gate). T (leads d (length d.gates) (var g.lit))) (sym a.1.gate)
      (subst (λ (x : ℕ). T (leads d (length d.gates) x)) (sym (kept-lit a.0))
      (leads-in (length d.gates) a.0 a.1.inside a.1.kept (omega (arith, length-folded n gs root)))))

  -- ---- gates are not equal or opposite in function

  not-twins : n ≤ 12 → (j k : ℕ) → j < length gs → T (in_cone n gs root (n + 1 + j)) → k < n + 1 + j → Numbered n gs root k
      → T (not (twins (folded n gs root) n (2 * number n gs root k) (2 * number n gs root (n + 1 + j))))
  unfolding twins
  not-twins small j k h t l a =
      let v : ℕ → Bool = λ x. value_on d n x (2 * number n gs root k) in
      let u : ℕ → Bool = λ x. value_on d n x (2 * number n gs root (n + 1 + j)) in
      let p : ℕ → Bool = λ x. beq (v x) (u x) in
      let q : ℕ → Bool = λ x. not (beq (v x) (u x)) in
      let e : (x : ℕ) → v x ≡ edge_value n gs (free_bit n x) (2 * k) = λ x. node-on n gs root built inside x k (omega arith) a in
      let f : (x : ℕ) → u x ≡ edge_value n gs (free_bit n x) (2 * (n + 1 + j)) = λ x. node-on n gs root built inside x (n + 1 + j) (omega arith) (inr t) in
      not_T (every_below (2 ^ n) p || every_below (2 ^ n) q)
      (λ b.
      ⊎_elim
      (λ s. built.unequal small j h k l (λ x z. sym (e x) ∙ equal-of-beq (v x) (u x) (below_at (2 ^ n) p s x z) ∙ f x))
      (λ s. built.unopposite small j h k l (λ x z. sym (e x) ∙ opposite-of-beq (v x) (u x) (below_at (2 ^ n) q s x z) ∙ ap not (f x)))
      (or_cases (every_below (2 ^ n) p) (every_below (2 ^ n) q) b))

  kept-lit-at : (p : ℕ) → p < length (folded n gs root).gates
      → (i : ℕ) × (i < length gs) × T (in_cone n gs root (n + 1 + i)) × GateFrom n gs root p i × ((gate_at (folded n gs root) p).lit ≡ 2 * number n gs root (n + 1 + i))
  unfolding kept_gate
  kept-lit-at p h = let a = to-gate n gs root p h in (a.0, a.1.inside, a.1.kept, a.1, ap (λ (g : Gate). g.lit) a.1.gate)

  leaf-lit : (i : ℕ) → i < length (0 ∷ (folded n gs root).inputs) → (get_or (0 ∷ (folded n gs root).inputs) i 0 ≡ 2 * number n gs root i) × (i ≤ n)
  unfolding folded
  leaf-lit zero h = (omega (arith, number-leaf n gs root 0 (omega arith)), omega arith)
  leaf-lit (suc i) h =
      let k : length (map (λ j. 2 * (j + 1)) (upto n)) ≡ n = length-map-upto (λ j. 2 * (j + 1)) n in
      let l : i < n = omega arith in
      (omega (arith, get_d-map-upto (λ j. 2 * (j + 1)) n i 0 l, number-leaf n gs root (suc i) l), l)

  pub folded-reduced : n ≤ 12 → T (reduced (folded n gs root) n)
  unfolding reduced
  folded-reduced small =
      let p : Gate → Gate → Bool = λ g h. not (twins d n g.lit h.lit) in
      let q : Gate → Bool = λ g. every (λ l. not (twins d n l g.lit)) (0 ∷ d.inputs) in
      and (pairwise p d.gates) (every q d.gates)
      (pairwise-all p d.gates no_gate
      (λ i j h l.
      let a = kept-lit-at i (omega arith) in
      let b = kept-lit-at j l in
      let o = from-order n gs root a.3 b.3 h in
      subst (λ (x : ℕ). T (not (twins d n x (gate_at d j).lit))) (sym a.4)
      (subst (λ (x : ℕ). T (not (twins d n (2 * number n gs root (n + 1 + a.0)) x))) (sym b.4)
      (not-twins small b.0 (n + 1 + a.0) b.1 b.2 (omega arith) (inr a.2)))))
      (every-all q d.gates no_gate
      (λ j l.
      let b = kept-lit-at j l in
      every-all (λ m. not (twins d n m (gate_at d j).lit)) (0 ∷ d.inputs) 0
      (λ i h.
      let a = leaf-lit i h in
      subst (λ (x : ℕ). T (not (twins d n x (gate_at d j).lit))) (sym a.0)
      (subst (λ (x : ℕ). T (not (twins d n (2 * number n gs root i) x))) (sym b.4)
      (not-twins small b.0 i b.1 b.2 (omega (arith, a.1)) (inl a.1))))))

  -- ---- the output

  pub folded-output : (x : ℕ) → value_on (folded n gs root) n x (output (folded n gs root)) ≡ edge_value n gs (free_bit n x) root
  folded-output x = ap (value_on d n x) output-folded ∙ edge_on n gs root built inside x root inside (inr (root_kept n gs root))

-- the circuit of the cone of an edge that has the value of the hit is a fold
pub folded-folds : (c : Circuit) (b t : ℕ) (gs : List Pair) (root : ℕ) → Built (free_bits c t) gs → var root < nodes (free_bits c t) gs
    → ((x : ℕ) → x < 2 ^ free_bits c t → edge_value (free_bits c t) gs (free_bit (free_bits c t) x) root ≡ reaches c b t x)
    → T (folds c b t (folded (free_bits c t) gs root))
unfolding folds
folded-folds c b t gs root built inside h =
    let n = free_bits c t in
    let d = folded n gs root in
    let hits : ℕ → Bool = λ x. beq (value_on d n x (output d)) (reaches c b t x) in
    let last : T (every_below (2 ^ n) hits) = below_all (2 ^ n) hits (λ x l. beq-of (folded-output n gs root built inside x ∙ h x l)) in
    let least : T (ltb 12 n || reduced d n) = small n (reduced d n) (folded-reduced n gs root built inside) in
    all_hold (fold_rules c b t d) (
      shape-in n d (folded-shape n gs root built inside),
      (
        folded-plain n gs root built inside,
        (
          folded-unlike n gs root built inside,
          (
            folded-shallow n gs root built inside,
            (folded-leads n gs root built inside, (least, (last, tt))),
          ),
        ),
      ),
    )
  where
    small : (n : ℕ) (r : Bool) → (n ≤ 12 → T r) → T (ltb 12 n || r)
    small n r k = go (ltb 12 n) refl
      where
        go : (s : Bool) → ltb 12 n ≡ s → T (s || r)
        go true e = tt
        go false e = k (ltb-false 12 n e)
