-- The new numbers of a circuit that load accepts: of inputs, latches and gates, and that every gate gets one. Assumes nothing.
use mathlib.Core.Path.{◌≡◌, refl, sym, ap, ◌∙◌, subst}
use mathlib.Core.Bool.{Bool, true, false}
use mathlib.Core.List.Memᴰ
use mathlib.Core.List.{List, [], ◌∷◌, map, Memᴰ}
use mathlib.Core.Logic.{◌⊎◌, inl, inr, ⊎_elim}
use mathlib.Core.Option.{Option, none}
use Prim.Native.Nat.{ℕ, zero, suc, ◌+◌, ◌*◌, ◌≤◌, ◌<◌}
use native.Mathlib.Decide.{dec_lt}
use native.Mathlib.Omega.{arith}
use lib.Dec.{T, leb, eqb, ltb, leb→le, lt→ltb}
use lib.ListN.{length, get_or, replicate, length-map, length-replicate, get_or-map}
use Rattle.aiger.specs.Lists.{upto}
use Rattle.aiger.specs.Search.{least_below}
use Rattle.aiger.specs.Circuit.{Circuit, Latch, Gate, var, defined, used, literal_tests, literals_right, used_defined}
use Rattle.aiger.proofs.Tests.{T_true, and, every-left, all-at}
use Rattle.meaning.proofs.Lists.{mem-get_d, mem-at, get_d-upto, get_d-zeros, every-mem, upto-in, length_from, Repeats, here, later}
use Rattle.meaning.proofs.Lists.{pigeonhole, or_left, or_right, eqb_of}
use Rattle.meaning.proofs.Decisions.{Least, least-below}
use Rattle.meaning.proofs.Defined.{Known, constant, input, latch, gate, no_latch, no_gate, input_at, latch_at, gate_at, definition, input-in}
use Rattle.meaning.proofs.Defined.{latch-in, gate-in, apart-inputs, apart-latches, apart-gates, input-latch, input-gate, latch-gate}
use Rattle.meaning.proofs.Defined.{left-known, right-known}
use Rattle.meaning.proofs.Cycles.{stuck_at}
use Rattle.roundtrip.proofs.LoadWrite.{Valid, counts-fit}
use Rattle.gate_order.specs.Order.{has, is_ready, given}
use Rattle.gate_order.specs.Waiting.{Below}
use Rattle.renumbered.specs.Renumbered.{gate_vars, operand_vars, leaf_numbers, numbering, new_number}
use Rattle.renumbered_laws.proofs.Taken.{given-length, given-other, given-at, given-low, Numbered, Took, took}

-- ---- the variables of operands by position

pub operands-length : (gs : List Gate) → length (operand_vars gs) ≡ 2 * length gs
unfolding operand_vars
operands-length [] = refl
operands-length (g ∷ gs) = omega (arith, operands-length gs)

pub left_at : (gs : List Gate) (i : ℕ) → get_or (operand_vars gs) (2 * i) 0 ≡ var (get_or gs i no_gate).left
unfolding operand_vars
left_at [] i = refl
left_at (g ∷ gs) zero = refl
left_at (g ∷ gs) (suc i) =
    let e : 2 * suc i ≡ suc (suc (2 * i)) = omega arith in
    ap (λ (x : ℕ). get_or (operand_vars (g ∷ gs)) x 0) e ∙ left_at gs i

pub right-at : (gs : List Gate) (i : ℕ) → get_or (operand_vars gs) (2 * i + 1) 0 ≡ var (get_or gs i no_gate).right
unfolding operand_vars
right-at [] i = refl
right-at (g ∷ gs) zero = refl
right-at (g ∷ gs) (suc i) =
    let e : 2 * suc i + 1 ≡ suc (suc (2 * i + 1)) = omega arith in
    ap (λ (x : ℕ). get_or (operand_vars (g ∷ gs)) x 0) e ∙ right-at gs i

-- an element that stands twice, by position
repeats-at : {xs : List ℕ} → Repeats xs → (i : ℕ) × (j : ℕ) × (i < j) × (j < length xs) × (get_or xs i 0 ≡ get_or xs j 0)
repeats-at (here m) = let r = mem-at 0 m in (0, suc r.0, omega arith, omega (arith, r.1), sym r.2)
repeats-at (later r) = let q = repeats-at r in (suc q.0, suc q.1, omega (arith, q.2), omega (arith, q.3), q.4)

-- the numbers below n stand once each
upto-once : (n : ℕ) → Repeats (upto n) → ⊥
upto-once n r =
    let q = repeats-at r in
    let e = length_from 0 n in
    omega (arith, q.2, q.3, q.4, get_d-upto n q.0 0 (omega (arith, q.2, q.3)), get_d-upto n q.1 0 (omega (arith, q.3)))

module _ {room : ℕ} {c : Circuit} (valid : Valid room c) where
  right : T (literals_right c)
  right = T_true valid.literals

  known : T (used_defined c)
  known = T_true valid.uses

  abbrev I : ℕ
  I = length c.inputs

  abbrev L : ℕ
  L = length c.latches

  abbrev A : ℕ
  A = length c.gates

  abbrev input_vars : List ℕ
  input_vars = map var c.inputs

  abbrev latch_vars : List ℕ
  latch_vars = map (λ l. var l.lit) c.latches

  abbrev zeros : List ℕ
  zeros = replicate 4097 0

  abbrev input_numbers : List ℕ
  input_numbers = given 1 input_vars zeros

  -- ---- variables by position

  pub input-var : (i : ℕ) → get_or input_vars i 0 ≡ var (input_at c i)
  input-var i = get_or-map var c.inputs i 0

  pub latch-var : (j : ℕ) → get_or latch_vars j 0 ≡ var (latch_at c j).lit
  latch-var j = get_or-map (λ l. var l.lit) c.latches j no_latch

  pub gate-var : (i : ℕ) → get_or (gate_vars c) i 0 ≡ var (gate_at c i).lit
  gate-var i = get_or-map (λ g. var g.lit) c.gates i no_gate

  pub vars-length : length (gate_vars c) ≡ length c.gates
  vars-length = length-map c.gates (λ g. var g.lit)

  pub defined-low : (l : ℕ) → Memᴰ l (defined c) → var l < 4097
  unfolding literals_right
  defined-low l m =
      let b = 2 * c.max_var + 1 in
      let t = every-left (λ x. leb x b) (defined c) (used c) (all-at (literal_tests c) right 0) in
      omega (arith, leb→le l b (every-mem (λ x. leb x b) m t), (counts-fit c valid.fit).max_var)

  some-var : (l : ℕ) → Memᴰ l (defined c) → 1 ≤ var l
  some-var l m = omega (arith, (definition c right l m).0)

  table-length : length zeros ≡ 4097
  table-length = length-replicate {A = ℕ} 4097 0

  pub inputs-below : Below input_vars (length zeros)
  inputs-below j h =
      omega (arith, input-var j, table-length, defined-low (input_at c j) (input-in c j (omega (arith, length-map c.inputs var))))

  pub numbers-length : length (leaf_numbers c) ≡ 4097
  numbers-length = given-length (I + 1) latch_vars input_numbers ∙ given-length 1 input_vars zeros ∙ table-length

  pub latches-below : Below latch_vars (length input_numbers)
  latches-below j h =
      omega (
        arith,
        latch-var j,
        given-length 1 input_vars zeros,
        table-length,
        defined-low (latch_at c j).lit (latch-in c j (omega (arith, length-map c.latches (λ (l : Latch). var l.lit)))),
      )

  -- no two inputs, latches or gates have one variable
  pub inputs-differ : (a b : ℕ) → a < b → b < length (map var c.inputs) → get_or (map var c.inputs) a 0 ≡ get_or
      (map var c.inputs) b 0 → ⊥
  inputs-differ a b l m e = apart-inputs c right a b l (omega (arith, length-map c.inputs var)) (sym (input-var a) ∙ e ∙ input-var b)

  latch-lit : (j : ℕ) → get_or (map (λ (l : Latch). l.lit) c.latches) j 0 ≡ (latch_at c j).lit
  latch-lit j = get_or-map (λ (l : Latch). l.lit) c.latches j no_latch

  pub latches-differ : (a b : ℕ) → a < b → b < length (map (λ l. var l.lit) c.latches)
      → get_or (map (λ l. var l.lit) c.latches) a 0 ≡ get_or (map (λ l. var l.lit) c.latches) b 0 → ⊥
  latches-differ a b l m e =
      apart-latches c right a b l
      (omega (arith, length-map c.latches (λ (l : Latch). var l.lit), length-map c.latches (λ (l : Latch). l.lit)))
      (ap var (latch-lit a) ∙ sym (latch-var a) ∙ e ∙ latch-var b ∙ sym (ap var (latch-lit b)))

  gate-lit : (a : ℕ) → get_or (map (λ (g : Gate). g.lit) c.gates) a 0 ≡ (gate_at c a).lit
  gate-lit a = get_or-map (λ (g : Gate). g.lit) c.gates a no_gate

  gates-differ : (a b : ℕ) → a < b → b < length c.gates → var (gate_at c a).lit ≡ var (gate_at c b).lit → ⊥
  gates-differ a b l m e =
      apart-gates c right a b l (omega (arith, length-map c.gates (λ (g : Gate). g.lit)))
      (ap var (gate-lit a) ∙ e ∙ sym (ap var (gate-lit b)))

  pub gates-once : (a b : ℕ) → a < length c.gates → b < length c.gates → var (gate_at c a).lit ≡ var (gate_at c b).lit → a ≡ b
  gates-once a b l m e =
      elim (dec_lt a b) [
        | yes k ↦ absurd (gates-differ a b k m e)
        | no k ↦ elim (dec_lt b a) [ yes q ↦ absurd (gates-differ b a q l (sym e)) | no q ↦ omega arith ]
      ]

  pub gates-below : Below (gate_vars c) (length (leaf_numbers c))
  gates-below i h = omega (arith, gate-var i, numbers-length, defined-low (gate_at c i).lit (gate-in c i (omega (arith, vars-length))))

  -- ---- inputs and latches

  -- what is neither input nor latch has no number
  pub leaf-none : (u : ℕ) → ((i : ℕ) → i < length c.inputs → var (input_at c i) ≡ u → ⊥)
      → ((j : ℕ) → j < length c.latches → var (latch_at c j).lit ≡ u → ⊥) → get_or (leaf_numbers c) u 0 ≡ 0
  leaf-none u ni nl =
      given-other (I + 1) latch_vars input_numbers u
      (λ j h e. nl j (omega (arith, length-map c.latches (λ (l : Latch). var l.lit))) (sym (latch-var j) ∙ e))
      ∙ given-other 1 input_vars zeros u (λ i h e. ni i (omega (arith, length-map c.inputs var)) (sym (input-var i) ∙ e))
      ∙ get_d-zeros 4097 u

  pub leaf-input : (i : ℕ) → i < length c.inputs → get_or (leaf_numbers c) (var (input_at c i)) 0 ≡ 1 + i
  leaf-input i h =
      given-other (I + 1) latch_vars input_numbers (var (input_at c i))
      (λ j l e. input-latch c right i j h (omega (arith, length-map c.latches (λ (l : Latch). var l.lit))) (sym e ∙ latch-var j))
      ∙ ap (λ (x : ℕ). get_or input_numbers x 0) (sym (input-var i))
      ∙ given-at 1 input_vars zeros i inputs-below inputs-differ
      (omega (arith, length-map c.inputs var))

  pub leaf-latch : (j : ℕ) → j < length c.latches → get_or (leaf_numbers c) (var (latch_at c j).lit) 0 ≡ length c.inputs + 1 + j
  leaf-latch j h =
      ap (λ (x : ℕ). get_or (leaf_numbers c) x 0) (sym (latch-var j))
      ∙ given-at (I + 1) latch_vars input_numbers j latches-below latches-differ
      (omega (arith, length-map c.latches (λ (l : Latch). var l.lit)))

  leaf-low : (u : ℕ) → get_or (leaf_numbers c) u 0 < length c.inputs + length c.latches + 1
  leaf-low =
      given-low (I + 1) latch_vars input_numbers (I + L + 1) latches-below
      (omega (arith, length-map c.latches (λ (l : Latch). var l.lit)))
      (given-low 1 input_vars zeros (I + L + 1) inputs-below (omega (arith, length-map c.inputs var))
      (λ u. omega (arith, get_d-zeros 4097 u)))

  leaf-gate : (i : ℕ) → i < length c.gates → get_or (leaf_numbers c) (var (gate_at c i).lit) 0 ≡ 0
  leaf-gate i h = leaf-none (var (gate_at c i).lit) (λ a l e. input-gate c right a i l h e) (λ b l e. latch-gate c right b i l h e)

  leaf-zero : get_or (leaf_numbers c) 0 0 ≡ 0
  leaf-zero =
      leaf-none 0 (λ i h e. omega (arith, some-var (input_at c i) (input-in c i h)))
      (λ j h e. omega (arith, some-var (latch_at c j).lit (latch-in c j h)))

  -- ---- all numbers

  pub all-taken : Took (length (gate_vars c)) (gate_vars c) (operand_vars c.gates) (length c.inputs + length c.latches + 1)
      (leaf_numbers c)
      (numbering c).0 (numbering c).1
  unfolding numbering
  all-taken = took (length (gate_vars c)) (gate_vars c) (operand_vars c.gates) (I + L + 1) (leaf_numbers c) gates-below
      (omega arith) leaf-low

  abbrev order : List ℕ
  order = (numbering c).0

  abbrev σ : ℕ → ℕ
  σ = new_number c

  pub number-input : (i : ℕ) → i < length c.inputs → new_number c (var (input_at c i)) ≡ 1 + i
  number-input i h = all-taken.kept (var (input_at c i)) (omega (arith, leaf-input i h)) ∙ leaf-input i h

  pub number-latch : (j : ℕ) → j < length c.latches → new_number c (var (latch_at c j).lit) ≡ length c.inputs + 1 + j
  number-latch j h = all-taken.kept (var (latch_at c j).lit) (omega (arith, leaf-latch j h)) ∙ leaf-latch j h

  pub order-inside : (p : ℕ) → p < length (numbering c).0 → get_or (numbering c).0 p 0 < length c.gates
  order-inside p h = omega (arith, all-taken.inside p h, vars-length)

  pub number-gate : (p : ℕ) → p < length (numbering c).0
      → new_number c (var (gate_at c (get_or (numbering c).0 p 0)).lit) ≡ length c.inputs + length c.latches + 1 + p
  number-gate p h = ap σ (sym (gate-var (get_or order p 0))) ∙ all-taken.number p h

  pub number-zero : new_number c 0 ≡ 0
  number-zero = elim (dec_lt 0 (σ 0)) [ yes h ↦ absurd (never h) | no h ↦ omega arith ]
    where
      never : 0 < σ 0 → ⊥
      never h =
          let r = all-taken.fresh 0 leaf-zero h in
          let i = get_or order r.0 0 in
          omega (arith, gate-var i, r.2, some-var (gate_at c i).lit (gate-in c i (order-inside r.0 r.1)))

  -- operands come before their gate
  pub left-before : (p : ℕ) → p < length (numbering c).0
      → Numbered (numbering c).1 (length c.inputs + length c.latches + 1 + p) (var (gate_at c (get_or (numbering c).0 p 0)).left)
  left-before p h = subst (λ (u : ℕ). Numbered (numbering c).1 (I + L + 1 + p) u) (left_at c.gates (get_or order p 0))
      (all-taken.left p h)

  pub right-before : (p : ℕ) → p < length (numbering c).0
      → Numbered (numbering c).1 (length c.inputs + length c.latches + 1 + p) (var (gate_at c (get_or (numbering c).0 p 0)).right)
  right-before p h = subst (λ (u : ℕ). Numbered (numbering c).1 (I + L + 1 + p) u) (right-at c.gates (get_or order p 0))
      (all-taken.right p h)

  -- no gate stands twice in the order
  order-once : Repeats (numbering c).0 → ⊥
  order-once r =
      let q = repeats-at r in
      let same = ap (λ (i : ℕ). σ (var (gate_at c i).lit)) q.4 in
      omega (arith, q.2, same, number-gate q.0 (omega (arith, q.2, q.3)), number-gate q.1 q.3)

  -- ---- every gate gets a number

  -- a variable that a gate defines and that has no number
  abbrev Waits : ℕ → Type 0
  Waits u = (i : ℕ) × (i < length c.gates) × (var (gate_at c i).lit ≡ u) × (new_number c u ≡ 0)

  -- a known variable without a number is such
  known-waits : (u : ℕ) → Known c u → (T (has (numbering c).1 u) → ⊥) → Waits u
  known-waits u k n = go k
    where
      blank : new_number c u ≡ 0
      blank =
          elim (dec_lt 0 (new_number c u)) [
            | yes h ↦ absurd (n (or_right (eqb u 0) (ltb 0 (new_number c u)) (lt→ltb 0 (new_number c u) h)))
            | no h ↦ omega arith
          ]

      go : Known c u → Waits u
      go (constant e) = absurd (n (or_left (eqb u 0) (ltb 0 (new_number c u)) (eqb_of e)))
      go (input i h e) = absurd (omega (arith, number-input i h, ap σ e, blank))
      go (latch j h e) = absurd (omega (arith, number-latch j h, ap σ e, blank))
      go (gate i h e) = (i, h, e, blank)

  -- where no gate is ready, a gate without a number has an operand without one
  waits-on : least_below (length (gate_vars c)) (is_ready (gate_vars c) (operand_vars c.gates) (numbering c).1) ≡ none → (u : ℕ) → Waits u
      → (i : ℕ) × (i < length c.gates) × (var (gate_at c i).lit ≡ u) × (Waits (var (gate_at c i).left) ⊎ Waits (var (gate_at c i).right))
  waits-on e u w =
      let i = w.0 in
      (i, w.1, w.2, go (has table (var (gate_at c i).left)) refl (has table (var (gate_at c i).right)) refl)
    where
      table : List ℕ
      table = (numbering c).1

      none-ready : Least (is_ready (gate_vars c) (operand_vars c.gates) (numbering c).1) (length (gate_vars c)) none
      none-ready =
          subst (λ (o : Option ℕ). Least (is_ready (gate_vars c) (operand_vars c.gates) (numbering c).1) (length (gate_vars c)) o) e
          (least-below (is_ready (gate_vars c) (operand_vars c.gates) (numbering c).1) (length (gate_vars c)))

      false-T : {b : Bool} → b ≡ false → T b → ⊥
      false-T q t = subst T q t

      go : (a : Bool) → has (numbering c).1 (var (gate_at c w.0).left) ≡ a → (b : Bool) → has (numbering c).1
          (var (gate_at c w.0).right) ≡ b
          → Waits (var (gate_at c w.0).left) ⊎ Waits (var (gate_at c w.0).right)
      go false p b q = inl (known-waits (var (gate_at c w.0).left) (left-known c known w.0) (false-T p))
      go true p false q = inr (known-waits (var (gate_at c w.0).right) (right-known c known w.0) (false-T q))
      go true p true q =
          let i = w.0 in
          let t = (numbering c).1 in
          let own : T (eqb (get_or t (get_or (gate_vars c) i 0) 0) 0) = eqb_of (ap σ (gate-var i ∙ w.2) ∙ w.3) in
          let l : T (has t (get_or (operand_vars c.gates) (2 * i) 0)) = subst (λ (x : ℕ). T (has t x)) (sym (left_at c.gates i)) (T_true p) in
          let r : T (has t (get_or (operand_vars c.gates) (2 * i + 1) 0)) = subst (λ (x : ℕ). T (has t x)) (sym (right-at c.gates i)) (T_true q) in
          absurd
          (none-ready i (omega (arith, vars-length, w.1))
          (and (eqb (get_or t (get_or (gate_vars c) i 0) 0) 0) _ own (and (has t (get_or (operand_vars c.gates) (2 * i) 0)) _ l r)))

  -- in that case every gate has a number
  none-waits : least_below (length (gate_vars c)) (is_ready (gate_vars c) (operand_vars c.gates) (numbering c).1) ≡ none → (u : ℕ)
      → Waits u → ⊥
  none-waits e u w = stuck_at c right Waits (waits-on e) u w (T_true valid.order)

  listed : (i : ℕ) → i < length c.gates → (new_number c (var (gate_at c i).lit) ≡ 0 → ⊥) → Memᴰ i (numbering c).0
  listed i h n =
      let r = all-taken.fresh (var (gate_at c i).lit) (leaf-gate i h) (omega arith) in
      let k = get_or order r.0 0 in
      let same : k ≡ i = gates-once k i (order-inside r.0 r.1) h (sym (gate-var k) ∙ r.2) in
      Memᴰ.cast (sym same) (mem-get_d order r.0 0 r.1)

  -- all gates are in the order
  pub order-length : length (numbering c).0 ≡ length c.gates
  order-length = elim (dec_lt (length order) A) [ yes h ↦ absurd (short h) | no h ↦ omega (arith, all-taken.few, vars-length) ]
    where
      short : length (numbering c).0 < length c.gates → ⊥
      short h =
          let e = all-taken.stopped (omega (arith, vars-length)) in
          upto-once (length c.gates)
          (pigeonhole (upto (length c.gates)) (numbering c).0 (omega (arith, length_from 0 (length c.gates)))
          (λ x m.
          let q = mem-at 0 m in
          let l : q.0 < length c.gates = omega (arith, q.1, length_from 0 (length c.gates)) in
          let b : x < length c.gates = omega (arith, q.2, get_d-upto (length c.gates) q.0 0 l) in
          listed x b (λ z. none-waits e (var (gate_at c x).lit) (x, b, refl, z))))

  -- and each has a place there
  pub order-has : (i : ℕ) → i < length c.gates → (p : ℕ) × (p < length (numbering c).0) × (get_or (numbering c).0 p 0 ≡ i)
  order-has i h = mem-at 0
      (go (pigeonhole (i ∷ (numbering c).0) (upto (length c.gates))
      (omega (arith, order-length, length_from 0 (length c.gates))) within))
    where
      within : (x : ℕ) → Memᴰ x (i ∷ (numbering c).0) → Memᴰ x (upto (length c.gates))
      within x m =
          ⊎_elim (λ e. upto-in (length c.gates) x (omega arith))
          (λ k. let q = mem-at 0 k in upto-in (length c.gates) x (omega (arith, q.2, order-inside q.0 q.1)))
          (Memᴰ.cases_cons m)

      go : Repeats (i ∷ (numbering c).0) → Memᴰ i (numbering c).0
      go (here m) = m
      go (later r) = absurd (order-once r)

  -- every number is at most M
  pub number-most : (u : ℕ) → new_number c u ≤ length c.inputs + length c.latches + length c.gates
  number-most u = omega (arith, all-taken.low u, order-length)
