-- Gates that depend on themselves: the test of number 8 is true exactly when no gate reaches itself. Clause 6.1. Assumes nothing.
use mathlib.Core.Path.{◌≡◌, refl, sym, ap, ◌∙◌, subst}
use mathlib.Core.Bool.{Bool, true, false, ◌&&◌}
use mathlib.Core.List.Memᴰ
use mathlib.Core.List.{List, [], ◌∷◌, map, Memᴰ}
use mathlib.Core.Option.{Option, none, some}
use mathlib.Core.Logic.{◌⊎◌, inl, inr, ⊎_elim, ◌↔◌}
use Prim.Native.Nat.{ℕ, zero, suc, ◌≤◌, ◌<◌}
use native.Mathlib.Omega.{arith}
use lib.Dec.{T}
use lib.ListN.{length, length-map}
use Rattle.aiger.specs.Circuit.{Circuit, Gate, var, literals_right, gate_of, operands, settles, acyclic}
use Rattle.aiger.proofs.Tests.{and, and_left, and_right}
use Rattle.meaning.proofs.Lists.{mem-get_d, every-mem, by_contradiction, every-fails, Repeats, here, later, pigeonhole}
use Rattle.meaning.proofs.Defined.{no_gate, gate_at, apart-gates, gate_of-in, gate_of-at}

-- u is the variable of an operand of g
abbrev pub Operand : Gate → ℕ → Type 0
Operand g u = (u ≡ var g.left) ⊎ (u ≡ var g.right)

operands_of : (o : Option Gate) (p : ℕ → Bool) → ((g : Gate) → o ≡ some g → (u : ℕ) → Operand g u → T (p u)) → T (operands o p)
unfolding operands
operands_of none p h = tt
operands_of (some g) p h = and (p (var g.left)) (p (var g.right)) (h g refl _ (inl refl)) (h g refl _ (inr refl))

pub operands-at : (o : Option Gate) (p : ℕ → Bool) (g : Gate) → o ≡ some g → T (operands o p) → (u : ℕ) → Operand g u → T (p u)
unfolding operands
operands-at o p g e t u w =
    let l = p (var g.left) in
    let r = p (var g.right) in
    let s : T (l && r) = subst (λ (x : Option Gate). T (operands x p)) e t in
    ⊎_elim (λ k. subst (λ (x : ℕ). T (p x)) (sym k) (and_left l r s)) (λ k. subst (λ (x : ℕ). T (p x)) (sym k) (and_right l r s)) w

-- where not both operands pass, there is a gate, and one that does not pass
operand-fails : (o : Option Gate) (p : ℕ → Bool) → (T (operands o p) → ⊥) → (g : Gate) × (o ≡ some g) × (u : ℕ) × Operand g u × (T (p u) → ⊥)
unfolding operands
operand-fails none p h = absurd (h tt)
operand-fails (some g) p h = go (p (var g.left)) refl h
  where
    r : Bool
    r = p (var g.right)

    go : (b : Bool) → p (var g.left) ≡ b → (T (b && r) → ⊥) → (k : Gate) × (some g ≡ some k) × (u : ℕ) × Operand k u × (T (p u) → ⊥)
    go true e k = (g, refl, var g.right, inr refl, k)
    go false e k = (g, refl, var g.left, inl refl, λ t. subst T e t)

module _ (gs : List Gate) where
  -- the value of gate v asks for that of u: u is an operand, or what an operand asks for
  pub data Needs : ℕ → ℕ → Type 0 where
    step : {v u : ℕ} (g : Gate) → gate_of gs v ≡ some g → Operand g u → Needs v u
    on : {v u w : ℕ} → Needs v u → Needs u w → Needs v w

  -- ---- what settles does not ask for itself

  down-one : (n v u : ℕ) (g : Gate) → gate_of gs v ≡ some g → Operand g u → T (settles gs n v) → (m : ℕ) × (m < n) × T (settles gs m u)
  unfolding settles
  down-one zero v u g e s t = absurd (operands-at (gate_of gs v) (λ _. false) g e t u s)
  down-one (suc n) v u g e s t = (n, omega arith, operands-at (gate_of gs v) (settles gs n) g e t u s)

  down : (n : ℕ) {v u : ℕ} → Needs v u → T (settles gs n v) → (m : ℕ) × (m < n) × T (settles gs m u)
  down n {v} {u} (step g e s) t = down-one n v u g e s t
  down n (on d f) t =
      let a = down n d t in
      let b = down a.0 f a.2 in
      (b.0, omega (arith, a.1, b.1), b.2)

  no_loop : (k n v : ℕ) → n ≤ k → T (settles gs n v) → Needs v v → ⊥
  no_loop zero n v l t d = let a = down n d t in omega (arith, a.1)
  no_loop (suc k) n v l t d = let a = down n d t in no_loop k a.0 v (omega (arith, a.1)) a.2 d

  -- ---- what does not settle starts a walk through gates, and a walk through more gates than there are meets one twice

  -- a walk from gate to operand, from v on, where each is a gate
  data Walk : ℕ → List ℕ → Type 0 where
    ends : {v : ℕ} (g : Gate) → gate_of gs v ≡ some g → Walk v []
    goes : {v u : ℕ} {us : List ℕ} (g : Gate) → gate_of gs v ≡ some g → Operand g u → Walk u us → Walk v (u ∷ us)

  unsettled : (n v : ℕ) → (T (settles gs n v) → ⊥) → (us : List ℕ) × (length us ≡ n) × Walk v us
  unfolding settles
  unsettled zero v h = let f = operand-fails (gate_of gs v) (λ _. false) h in ([], refl, ends f.0 f.1)
  unsettled (suc n) v h =
      let f = operand-fails (gate_of gs v) (settles gs n) h in
      let r = unsettled n f.2 f.4 in
      (f.2 ∷ r.0, ap suc r.1, goes f.0 f.1 f.3 r.2)

  gate-var : (v : ℕ) (g : Gate) → gate_of gs v ≡ some g → Memᴰ v (map (λ x. var x.lit) gs)
  gate-var v g e =
      let p = gate_of-in gs v g e in
      Memᴰ.cast (sym p.3 ∙ ap (λ (x : Gate). var x.lit) (sym p.2)) (Memᴰ.map (λ x. var x.lit) (mem-get_d gs p.0 no_gate p.1))

  walk-gates : {v : ℕ} {us : List ℕ} → Walk v us → (u : ℕ) → Memᴰ u (v ∷ us) → Memᴰ u (map (λ x. var x.lit) gs)
  walk-gates {v} (ends g e) u m = ⊎_elim (λ k. Memᴰ.cast k (gate-var v g e)) (λ k. elim k [ ]) (Memᴰ.cases_cons m)
  walk-gates {v} (goes g e o p) u m = ⊎_elim (λ k. Memᴰ.cast k (gate-var v g e)) (λ k. walk-gates p u k) (Memᴰ.cases_cons m)

  walk-needs : {v : ℕ} {us : List ℕ} → Walk v us → (u : ℕ) → Memᴰ u us → Needs v u
  walk-needs (ends g e) u m = elim m [ ]
  walk-needs {v} (goes g e o p) u m =
      ⊎_elim (λ k. subst (Needs v) (sym k) (step g e o)) (λ k. on (step g e o) (walk-needs p u k)) (Memᴰ.cases_cons m)

  walk_loop : {v : ℕ} {us : List ℕ} → Walk v us → Repeats (v ∷ us) → (u : ℕ) × Needs u u
  walk_loop {v} p (here m) = (v, walk-needs p v m)
  walk_loop (ends g e) (later r) = elim r [ ]
  walk_loop (goes g e o p) (later r) = walk_loop p r

  -- a variable that does not settle in as many steps as there are gates leads to one that asks for itself
  loop : (v : ℕ) → (T (settles gs (length gs) v) → ⊥) → (u : ℕ) × Needs u u
  loop v h =
      let r = unsettled (length gs) v h in
      walk_loop r.2 (pigeonhole (v ∷ r.0) (map (λ x. var x.lit) gs) (simp length-map (omega (arith, r.1))) (walk-gates r.2))

  needs-rank : (rank : ℕ → ℕ) → ((v : ℕ) (g : Gate) → gate_of gs v ≡ some g → (u : ℕ) → Operand g u → rank u < rank v) → {v u : ℕ} → Needs v u → rank u < rank v
  needs-rank rank h {v} {u} (step g e o) = h v g e u o
  needs-rank rank h (on d f) = omega (arith, needs-rank rank h d, needs-rank rank h f)

  stuck-settles : (R : ℕ → Type 0) → ((v : ℕ) → R v → (g : Gate) × (gate_of gs v ≡ some g) × (u : ℕ) × Operand g u × R u)
      → (n v : ℕ) → R v → T (settles gs n v) → ⊥
  unfolding settles
  stuck-settles R h zero v r t = let s = h v r in operands-at (gate_of gs v) (λ _. false) s.0 s.1 t s.2 s.3
  stuck-settles R h (suc n) v r t =
      let s = h v r in
      stuck-settles R h n s.2 s.4 (operands-at (gate_of gs v) (settles gs n) s.0 s.1 t s.2 s.3)

module _ (c : Circuit) where
  abbrev A : ℕ
  A = length c.gates

  -- in an acyclic circuit every variable settles
  pub all-settle : T (acyclic c) → (v : ℕ) → T (settles c.gates (length c.gates) v)
  unfolding acyclic
  all-settle a v =
      by_contradiction (settles c.gates A v)
      (λ h.
      let m = Memᴰ.of_map (λ x. var x.lit) c.gates (walk-gates c.gates (unsettled c.gates A v h).2 v (Memᴰ.head refl)) in
      subst (λ (u : ℕ). T (settles c.gates A u)) m.2 (every-mem (λ g. settles c.gates A (var g.lit)) m.1 a))

  -- in an acyclic circuit no gate reaches itself
  pub acyclic-out : T (acyclic c) → (v : ℕ) → Needs c.gates v v → ⊥
  acyclic-out a v = no_loop c.gates A A v (omega arith) (all-settle a v)

  -- in a circuit that is not acyclic some gate reaches itself
  pub cyclic-out : (T (acyclic c) → ⊥) → (v : ℕ) × Needs c.gates v v
  unfolding acyclic
  cyclic-out n = let f = every-fails (λ g. settles c.gates A (var g.lit)) c.gates n in loop c.gates (var f.0.lit) f.2

  -- a circuit where no gate reaches itself is acyclic
  pub acyclic-in : ((v : ℕ) → Needs c.gates v v → ⊥) → T (acyclic c)
  acyclic-in h = by_contradiction (acyclic c) (λ n. let r = cyclic-out n in absurd (h r.0 r.1))

  -- number 8 in one line: acyclic is true exactly when no gate reaches itself
  pub acyclic-iff : T (acyclic c) ↔ ((v : ℕ) → Needs c.gates v v → ⊥)
  acyclic-iff = (acyclic-out, acyclic-in)

  -- ---- for code, by position

  -- a ranking of the variables in which each gate's operands are below the gate shows that a circuit is acyclic
  pub ranked : (rank : ℕ → ℕ)
      → ((i : ℕ) → i < length c.gates → (rank (var (gate_at c i).left) < rank (var (gate_at c i).lit)) × (rank (var (gate_at c i).right) < rank (var (gate_at c i).lit)))
      → T (acyclic c)
  ranked rank h = acyclic-in (λ v d. omega (arith, needs-rank c.gates rank below d))
    where
      below : (v : ℕ) (g : Gate) → gate_of c.gates v ≡ some g → (u : ℕ) → Operand g u → rank u < rank v
      below v g e u o =
          let p = gate_of-in c.gates v g e in
          let q = subst (λ (x : Gate). (rank (var x.left) < rank (var x.lit)) × (rank (var x.right) < rank (var x.lit))) p.2 (h p.0 p.1) in
          let r : rank (var g.lit) ≡ rank v = ap rank p.3 in
          ⊎_elim (λ k. let s : rank u ≡ rank (var g.left) = ap rank k in omega (arith, q.0)) (λ k. let s : rank u ≡ rank (var g.right) = ap rank k in omega (arith, q.1)) o

  -- a set of gate variables, each with an operand in the set, shows that a circuit is not acyclic
  pub stuck : (R : ℕ → Type 0) → ((v : ℕ) → R v → (g : Gate) × (gate_of c.gates v ≡ some g) × (u : ℕ) × Operand g u × R u)
      → (v : ℕ) → R v → T (acyclic c) → ⊥
  stuck R h v r a = stuck-settles c.gates R h A v r (all-settle a v)

  -- the same by position
  pub stuck_at : T (literals_right c) → (R : ℕ → Type 0)
      → ((v : ℕ) → R v → (i : ℕ) × (i < length c.gates) × (var (gate_at c i).lit ≡ v) × (R (var (gate_at c i).left) ⊎ R (var (gate_at c i).right)))
      → (v : ℕ) → R v → T (acyclic c) → ⊥
  stuck_at right R h = stuck R found
    where
      found : (v : ℕ) → R v → (g : Gate) × (gate_of c.gates v ≡ some g) × (u : ℕ) × Operand g u × R u
      found v r =
          let p = h v r in
          let e : gate_of c.gates v ≡ some (gate_at c p.0) = ap (gate_of c.gates) (sym p.2) ∙ gate_of-at c.gates (apart-gates c right) p.0 p.1 in
          ⊎_elim {C = (g : Gate) × (gate_of c.gates v ≡ some g) × (u : ℕ) × Operand g u × R u}
          (λ k. (gate_at c p.0, e, var (gate_at c p.0).left, inl refl, k)) (λ k. (gate_at c p.0, e, var (gate_at c p.0).right, inr refl, k)) p.3
