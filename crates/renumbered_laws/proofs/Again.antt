-- A circuit whose definitions are in order and whose gates have the larger operand first is its own renumbered circuit: the text of a
-- renumbered circuit, read back and written again, is the same. Clause 12.1. Assumes nothing.
use mathlib.Core.Path.{◌≡◌, refl, sym, ap, ap₂, ◌∙◌}
use mathlib.Core.Bool.{Bool, cond, ◌||◌}
use mathlib.Core.List.{List, [], ◌∷◌, map}
use mathlib.Core.Logic.{⊎_elim}
use mathlib.Core.Option.{Option, some}
use Prim.Native.Nat.{ℕ, zero, suc, ◌+◌, ◌-◌, ◌*◌, ◌≤◌, ◌<◌}
use native.Mathlib.Decide.{dec_lt}
use native.Mathlib.Omega.{arith}
use borrow.Author.Tests.{le-ltb}
use lib.Dec.{T, leb, ltb, eqb, leb→le, ltb→lt, lt→ltb, eqb→eq}
use lib.ListN
use lib.ListN.{length, get_or, set, length-set, length-map}
use lib.Seq.{ext_get_or, get_or-set_same, get_or-set_other}
use Rattle.aiger.specs.Lists.{from, upto}
use Rattle.aiger.specs.Search.{least_below}
use Rattle.aiger.specs.Circuit.{Circuit, Latch, Gate, var, literal_tests, literals_right, used_defined}
use Rattle.aiger.proofs.Tests.{T_true, and, and_left, and_right, all-at, or_cases}
use Rattle.meaning.proofs.Lists.{get_or-map, get_d-upto, every-at, or_right, eqb_of}
use Rattle.meaning.proofs.Defined.{Known, constant, input, latch, gate, no_latch, no_gate, input_at, latch_at, gate_at, next_known}
use Rattle.meaning.proofs.Defined.{output-known, bad-known, constraint-known, left-known, right-known}
use Rattle.roundtrip.proofs.LoadWrite.{Valid}
use Rattle.numbering.proofs.InOrder.{descends, implied-at}
use Rattle.gate_order.specs.Order.{has, is_ready, on_next, before, taken}
use Rattle.gate_order.specs.Waiting.{Below}
use Rattle.gate_order.proofs.Taking.{least-some}
use Rattle.joined.specs.Joined.{literal_under, latch_under, gate_under}
use Rattle.renumbered.specs.Renumbered.{gate_vars, operand_vars, leaf_numbers, numbering, new_number, sorted, renumbered}
use Rattle.renumbered_laws.proofs.Numbers.{left_at, right-at, gate-var, vars-length, gates-below, leaf-none, leaf-input}
use Rattle.renumbered_laws.proofs.Numbers.{leaf-latch, number-zero, number-input, number-latch, number-gate, order-length}
use Rattle.renumbered_laws.proofs.Accepted.{Placed}

-- ---- gates that are listed after their operands are taken as they are listed

-- gate i has variable K + i, its operands are below that, and the variables below k have numbers
record Listed (vars ops : List ℕ) (K k : ℕ) (table : List ℕ) : Type 0 where
  own : (i : ℕ) → i < length vars → get_or vars i 0 ≡ K + i
  left : (i : ℕ) → i < length vars → get_or ops (2 * i) 0 < K + i
  right : (i : ℕ) → i < length vars → get_or ops (2 * i + 1) 0 < K + i
  inside : Below vars (length table)
  some_number : 0 < k
  numbered : (u : ℕ) → 0 < u → u < k → 0 < get_or table u 0
  blank : (u : ℕ) → k ≤ u → get_or table u 0 ≡ 0

module _ {vars ops : List ℕ} {K p : ℕ} {table : List ℕ} (g : Listed vars ops K (K + p) table) (h : p < length vars) where
  has-number : (u : ℕ) → u < K + p → T (has table u)
  has-number zero l = tt
  has-number (suc u) l = or_right (eqb (suc u) 0) (ltb 0 (get_or table (suc u) 0))
      (lt→ltb 0 (get_or table (suc u) 0) (g.numbered (suc u) (omega arith) l))

  first-ready : least_below (length vars) (is_ready vars ops table) ≡ some p
  first-ready =
      least-some (is_ready vars ops table) (length vars) p h
      (and (eqb (get_or table (get_or vars p 0) 0) 0) _ (eqb_of (ap (λ (u : ℕ). get_or table u 0) (g.own p h) ∙ g.blank (K + p) (omega arith)))
      (and (has table (get_or ops (2 * p) 0)) _ (has-number (get_or ops (2 * p) 0) (g.left p h))
      (has-number (get_or ops (2 * p + 1) 0) (g.right p h))))
      (λ j l t.
      let z = eqb→eq (get_or table (get_or vars j 0) 0) 0 (and_left (eqb (get_or table (get_or vars j 0) 0) 0) _ t) in
      let e = ap (λ (u : ℕ). get_or table u 0) (g.own j (omega arith)) in
      positive (K + j) (omega arith) (omega (arith, g.left j (omega arith))) (sym e ∙ z))
    where
      positive : (u : ℕ) → u < K + p → 0 < u → get_or table u 0 ≡ 0 → ⊥
      positive u l s z = omega (arith, g.numbered u s l)

  listed_next : Listed vars ops K (K + suc p) (set table (get_or vars p 0) (K + p))
  listed_next =
      let v : get_or vars p 0 ≡ K + p = g.own p h in
      record {
        own = g.own;
        left = g.left;
        right = g.right;
        inside = λ j l. omega (arith, length-set table (get_or vars p 0) (K + p), g.inside j l);
        some_number = omega arith;
        numbered = λ u s l.
            elim (dec_lt u (K + p)) [
              | yes k ↦ (let e = get_or-set_other table (get_or vars p 0) u (K + p) 0 (λ q. omega arith) in omega (arith, g.numbered u s k))
              | no k ↦ (
                  let w : u ≡ get_or vars p 0 = omega arith in
                  let e = ap (λ (x : ℕ). get_or (set table (get_or vars p 0) (K + p)) x 0) w ∙ get_or-set_same table (get_or vars p 0) (K + p) 0 (g.inside p h) in
                  omega (arith, g.some_number))
            ];
        blank = λ u l. get_or-set_other table (get_or vars p 0) u (K + p) 0 (λ q. omega arith) ∙ g.blank u (omega arith);
      }

taken-listed : (n p : ℕ) (vars ops : List ℕ) (K : ℕ) (table : List ℕ) → p + n ≡ length vars → Listed vars ops K (K + p) table
    → (taken n vars ops (K + p) table).0 ≡ from p n
unfolding taken
taken-listed zero p vars ops K table e g = refl
taken-listed (suc n) p vars ops K table e g =
    let h : p < length vars = omega arith in
    let q : suc (K + p) ≡ K + suc p = omega arith in
    ap
    (λ (o : Option ℕ). (on_next {A = List ℕ × List ℕ} o ([], table)
    (λ j. before j (taken n vars ops (suc (K + p)) (set table (get_or vars j 0) (K + p))))).0)
    (first-ready g h)
    ∙ ap (λ (x : ℕ). p ∷ (taken n vars ops x (set table (get_or vars p 0) (K + p))).0) q
    ∙ ap (λ (xs : List ℕ). p ∷ xs) (taken-listed n (suc p) vars ops K (set table (get_or vars p 0) (K + p)) (omega arith) (listed_next g h))

map_same : {A : Type 0} (f : A → A) (d : A) (xs : List A) → ((i : ℕ) → i < length xs → f (get_or xs i d) ≡ get_or xs i d) → map f xs ≡ xs
map_same f d [] h = refl
map_same f d (x ∷ xs) h = ap₂ ◌∷◌ (h 0 (omega arith)) (map_same f d xs (λ i l. h (suc i) (omega arith)))

sorted-same : (g : Gate) → T (descends g) → sorted g ≡ g
sorted-same g t =
    let e = le-ltb g.left g.right (leb→le g.right g.left (and_left (leb g.right g.left) (ltb g.left g.lit) t)) in
    ap (λ (b : Bool). cond b (record { lit = g.lit; left = g.right; right = g.left }) g) e

module _ {room : ℕ} {d : Circuit} (v : Valid room d) (p : Placed d) where
  abbrev I : ℕ
  I = length d.inputs

  abbrev L : ℕ
  L = length d.latches

  abbrev A : ℕ
  A = length d.gates

  abbrev K : ℕ
  K = length d.inputs + length d.latches + 1

  abbrev σ : ℕ → ℕ
  σ = new_number d

  known : T (used_defined d)
  known = T_true v.uses

  input-lit : (i : ℕ) → i < length d.inputs → input_at d i ≡ 2 * (1 + i)
  input-lit i h = ap (λ (ls : List ℕ). get_or ls i 0) p.inputs ∙ implied-at 1 I i h

  latch-lit : (j : ℕ) → j < length d.latches → (latch_at d j).lit ≡ 2 * (length d.inputs + 1 + j)
  latch-lit j h =
      sym (ListN.get_or-map (λ (l : Latch). l.lit) d.latches j no_latch) ∙ ap (λ (ls : List ℕ). get_or ls j 0) p.latches ∙ implied-at
      (I + 1) L j h

  gate-lit : (i : ℕ) → i < length d.gates → (gate_at d i).lit ≡ 2 * (length d.inputs + length d.latches + 1 + i)
  gate-lit i h = sym (ListN.get_or-map (λ (g : Gate). g.lit) d.gates i no_gate) ∙ ap (λ (ls : List ℕ). get_or ls i 0) p.gates
      ∙ implied-at K A i h

  descending : (i : ℕ) → i < length d.gates → T (descends (gate_at d i))
  descending i h = every-at descends d.gates i no_gate h p.descend

  operands-low : (i : ℕ) → i < length d.gates
      → (var (gate_at d i).left < length d.inputs + length d.latches + 1 + i)
      × (var (gate_at d i).right < length d.inputs + length d.latches + 1 + i)
  operands-low i h =
      let g = gate_at d i in
      let t = descending i h in
      let r = leb→le g.right g.left (and_left (leb g.right g.left) (ltb g.left g.lit) t) in
      let l = ltb→lt g.left g.lit (and_right (leb g.right g.left) (ltb g.left g.lit) t) in
      let e = gate-lit i h in
      (omega arith, omega arith)

  leaves : Listed (gate_vars d) (operand_vars d.gates) (length d.inputs + length d.latches + 1)
      (length d.inputs + length d.latches + 1 + 0)
      (leaf_numbers d)
  leaves =
      record {
        own = λ i h. let l : i < A = omega (arith, vars-length v) in gate-var v i ∙ omega (arith, gate-lit i l);
        left = λ i h. let l : i < A = omega (arith, vars-length v) in omega (arith, left_at d.gates i, (operands-low i l).0);
        right = λ i h. let l : i < A = omega (arith, vars-length v) in omega (arith, right-at d.gates i, (operands-low i l).1);
        inside = gates-below v;
        some_number = omega arith;
        numbered = λ u s l.
            elim (dec_lt u (I + 1)) [
              | yes k ↦ (
                  let i = u - 1 in
                  let b : i < I = omega arith in
                  let e : var (input_at d i) ≡ u = omega (arith, input-lit i b) in
                  omega (arith, ap (λ (x : ℕ). get_or (leaf_numbers d) x 0) e, leaf-input v i b))
              | no k ↦ (
                  let j = u - (I + 1) in
                  let b : j < L = omega arith in
                  let e : var (latch_at d j).lit ≡ u = omega (arith, latch-lit j b) in
                  omega (arith, ap (λ (x : ℕ). get_or (leaf_numbers d) x 0) e, leaf-latch v j b))
            ];
        blank = λ u l. leaf-none v u (λ i h e. omega (arith, input-lit i h)) (λ j h e. omega (arith, latch-lit j h));
      }

  -- the gates are taken as they are listed
  order_is : (numbering d).0 ≡ upto (length (gate_vars d))
  unfolding numbering
  order_is =
      let e : K ≡ K + 0 = omega arith in
      ap (λ (k : ℕ). (taken (length (gate_vars d)) (gate_vars d) (operand_vars d.gates) k (leaf_numbers d)).0) e
      ∙ taken-listed (length (gate_vars d)) 0 (gate_vars d) (operand_vars d.gates) K (leaf_numbers d) (omega arith) leaves

  order-at : (i : ℕ) → i < length d.gates → get_or (numbering d).0 i 0 ≡ i
  order-at i h = ap (λ (xs : List ℕ). get_or xs i 0) order_is ∙ get_d-upto (length (gate_vars d)) i 0 (omega (arith, vars-length v))

  -- every number stays
  number_same : (u : ℕ) → Known d u → new_number d u ≡ u
  number_same u (constant e) = ap σ e ∙ number-zero v ∙ sym e
  number_same u (input i h e) = ap σ (sym e) ∙ number-input v i h ∙ omega (arith, input-lit i h)
  number_same u (latch j h e) = ap σ (sym e) ∙ number-latch v j h ∙ omega (arith, latch-lit j h)
  number_same u (gate i h e) =
      let l : i < length (numbering d).0 = omega (arith, order-length v) in
      ap σ (sym e) ∙ ap (λ (x : ℕ). σ (var (gate_at d x).lit)) (sym (order-at i h)) ∙ number-gate v i l ∙ omega (arith, gate-lit i h)

  literal-same : (l : ℕ) → Known d (var l) → literal_under (new_number d) l ≡ l
  literal-same l k = omega (arith, number_same (var l) k)

  reset-same : (j : ℕ) → j < length d.latches → literal_under (new_number d) (latch_at d j).reset ≡ (latch_at d j).reset
  unfolding literals_right
  reset-same j h =
      let l = latch_at d j in
      let t = every-at (λ (x : Latch). leb x.reset 1 || eqb x.reset x.lit) d.latches j no_latch h (all-at (literal_tests d) (T_true v.literals) 3) in
      ⊎_elim (λ x. let k = leb→le l.reset 1 x in literal-same l.reset (constant (omega arith)))
      (λ y. literal-same l.reset (latch j h (ap var (sym (eqb→eq l.reset l.lit y)))))
      (or_cases (leb l.reset 1) (eqb l.reset l.lit) t)

  gate_same : (i : ℕ) → i < length d.gates → sorted (gate_under (new_number d) (gate_at d i)) ≡ gate_at d i
  gate_same i h =
      let g = gate_at d i in
      let x = literal-same g.lit (gate i h refl) in
      let y = literal-same g.left (left-known d known i) in
      let z = literal-same g.right (right-known d known i) in
      let e : gate_under σ g ≡ g = λ k. record { lit = x k; left = y k; right = z k } in
      ap sorted e ∙ sorted-same g (descending i h)

  gates-same : map (λ i. sorted (gate_under (new_number d) (gate_at d i))) (numbering d).0 ≡ d.gates
  gates-same =
      let make : ℕ → Gate = λ i. sorted (gate_under σ (gate_at d i)) in
      let n : length (map make (numbering d).0) ≡ A = length-map (numbering d).0 make ∙ order-length v in
      ext_get_or no_gate (map make (numbering d).0) d.gates n
      (λ i h.
      let l : i < A = omega arith in
      get_or-map make (numbering d).0 i 0 no_gate (omega (arith, order-length v)) ∙ ap make (order-at i l) ∙ gate_same i l)

  -- the circuit stays
  pub renumbered-same : renumbered d ≡ d
  unfolding renumbered
  renumbered-same =
      let lits : (ls : List ℕ) → ((i : ℕ) → i < length ls → Known d (var (get_or ls i 0))) → map (literal_under σ) ls ≡ ls =
      λ ls k. map_same (literal_under σ) 0 ls (λ i h. literal-same (get_or ls i 0) (k i h)) in
      let i = lits d.inputs (λ i h. input i h refl) in
      let o = lits d.outputs (λ i h. output-known d known i) in
      let b = lits d.bads (λ i h. bad-known d known i) in
      let c = lits d.constraints (λ i h. constraint-known d known i) in
      let l : map (latch_under σ) d.latches ≡ d.latches =
      map_same (latch_under σ) no_latch d.latches
      (λ j h k.
      record {
        lit = literal-same (latch_at d j).lit (latch j h refl) k;
        next = literal-same (latch_at d j).next (next_known d known j) k;
        reset = reset-same j h k;
      }) in
      λ k. record {
        max_var = sym
            p.top k;
        inputs = i k;
        latches = l k;
        outputs = o k;
        bads = b k;
        constraints = c k;
        gates = gates-same k;
      }
