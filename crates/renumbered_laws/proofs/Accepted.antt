-- The renumbered circuit has its definitions in order, each gate after its operands, and load accepts it. Assumes nothing.
use mathlib.Core.Path.{◌≡◌, refl, sym, ap, ap₂, ◌∙◌, subst}
use mathlib.Core.Bool.{Bool, true, false, not, cond, ◌&&◌, ◌||◌}
use mathlib.Core.List.{List, [], ◌∷◌, ◌++◌, map, Memᴰ}
use mathlib.Core.Logic.{⊎_elim}
use Prim.Native.Nat.{ℕ, zero, suc, ◌+◌, ◌*◌, ◌/◌, ◌%◌, ◌≤◌, ◌<◌}
use native.Mathlib.Omega.{arith}
use lib.Dec.{T, leb, ltb, eqb, leb→le, le→leb, lt→ltb, ltb→lt, eqb→eq}
use lib.ListN.{length, get_or, length-map}
use lib.Seq.{ext_get_or}
use borrow.Author.Tests.{ltb-false}
use Rattle.aiger.specs.Lists.{every, distinct}
use Rattle.aiger.specs.Bits.{nonzero, odd}
use Rattle.aiger.specs.Circuit.{Circuit, Latch, Gate, var, defined, used, literal_tests, literals_right, used_defined, acyclic}
use Rattle.aiger.specs.File.{count_tests, counts_fit, header_of}
use Rattle.aiger.specs.Load.{needed}
use Rattle.aiger.specs.Binary.{implied}
use Rattle.aiger.proofs.Tests.{T_true, true-T, and, not_T, every-imp, all-at, all_hold, or_cases, every_true}
use Rattle.meaning.proofs.Lists.{get_or-map, every_in, every-both, every-mapped, pairwise-in, or_left, or_right, eqb_of}
use Rattle.meaning.proofs.Shape.{not-odd}
use Rattle.parting.proofs.Accepted.{reset-right}
use Rattle.meaning.proofs.Defined.{no_latch, no_gate, input_at, latch_at, gate_at, definition, input-in, latch-in, gate-in}
use Rattle.roundtrip.proofs.LoadWrite.{Valid, Counts, counts-fit}
use Rattle.numbering.proofs.InOrder.{descends, InOrder, implied-length, implied-at, implied-append, order-right, order-defined, order-acyclic}
use Rattle.joined.specs.Joined.{literal_under, latch_under, gate_under}
use Rattle.renumbered.specs.Renumbered.{numbering, new_number, sorted, renumbered}
use Rattle.renumbered_laws.proofs.Taken.{Numbered}
use Rattle.renumbered_laws.proofs.Numbers.{
  number-input,
  number-latch,
  number-gate,
  number-zero,
  number-most,
  left-before,
  right-before,
  order-inside,
  order-length,
}

-- ---- gates with the larger operand first

-- what holds of both operands holds of both of the sorted gate
pub sorted-both : (P : ℕ → Type 0) (g : Gate) → P g.left → P g.right → P (sorted g).left × P (sorted g).right
sorted-both P g l r = go (ltb g.left g.right)
  where
    turned : Gate
    turned = record { lit = g.lit; left = g.right; right = g.left }

    go : (b : Bool) → P (cond b turned g).left × P (cond b turned g).right
    go true = (r, l)
    go false = (l, r)

pub sorted-lit : (g : Gate) → (sorted g).lit ≡ g.lit
sorted-lit g = go (ltb g.left g.right)
  where
    go : (b : Bool) → (cond b (record { lit = g.lit; left = g.right; right = g.left }) g).lit ≡ g.lit
    go true = refl
    go false = refl

sorted-descends : (g : Gate) → g.left < g.lit → g.right < g.lit → T (descends (sorted g))
sorted-descends g l r = go (ltb g.left g.right) refl
  where
    go : (b : Bool) → ltb g.left g.right ≡ b → T (descends (cond b (record { lit = g.lit; left = g.right; right = g.left }) g))
    go true e = and (leb g.left g.right) (ltb g.right g.lit)
        (le→leb g.left g.right (omega (arith, ltb→lt g.left g.right (T_true e)))) (lt→ltb g.right g.lit r)
    go false e = and (leb g.right g.left) (ltb g.left g.lit) (le→leb g.right g.left (ltb-false g.left g.right e))
        (lt→ltb g.left g.lit l)

-- ---- definitions in order

-- a list of the literals 2v, 2(v + 1) and so on
implied-of : (xs : List ℕ) (v n : ℕ) → length xs ≡ n → ((i : ℕ) → i < n → get_or xs i 0 ≡ 2 * (v + i)) → xs ≡ implied v n
implied-of xs v n e h =
    ext_get_or 0 xs (implied v n) (e ∙ sym (implied-length v n)) (λ i l. h i (omega arith) ∙ sym (implied-at v n i (omega arith)))

-- a literal of a definition under its number
under-even : (σ : ℕ → ℕ) (l n : ℕ) → l % 2 ≡ 0 → σ (var l) ≡ n → literal_under σ l ≡ 2 * n
under-even σ l n e h = omega arith

-- where each part of a circuit stands in order
pub record Placed (d : Circuit) : Type 0 where
  pub top : d.max_var ≡ length d.inputs + length d.latches + length d.gates
  pub inputs : d.inputs ≡ implied 1 (length d.inputs)
  pub latches : map (λ l. l.lit) d.latches ≡ implied (length d.inputs + 1) (length d.latches)
  pub gates : map (λ g. g.lit) d.gates ≡ implied (length d.inputs + length d.latches + 1) (length d.gates)
  pub descend : T (every descends d.gates)

pub placed-order : {d : Circuit} → Placed d → InOrder d
unfolding defined
placed-order {d} p =
    let I = length d.inputs in
    let L = length d.latches in
    let A = length d.gates in
    let a : implied (I + 1) L ≡ implied (1 + I) L = ap (λ (x : ℕ). implied x L) (omega arith) in
    let b : implied (I + L + 1) A ≡ implied (1 + (I + L)) A = ap (λ (x : ℕ). implied x A) (omega arith) in
    record {
      definitions =
          ap₂ (λ (x y : List ℕ). x ++ y ++ map (λ (g : Gate). g.lit) d.gates) p.inputs (p.latches ∙ a)
          ∙ ap (λ (x : List ℕ). implied 1 I ++ implied (1 + I) L ++ x) (p.gates ∙ b)
          ∙ ap (λ (x : List ℕ). x ++ implied (1 + (I + L)) A) (implied-append 1 I L) ∙ implied-append 1 (I + L) A ∙ ap (implied 1)
          (sym p.top);
      gates = p.descend;
    }

module _ {room : ℕ} {c : Circuit} (valid : Valid room c) where
  abbrev I : ℕ
  I = length c.inputs

  abbrev L : ℕ
  L = length c.latches

  abbrev A : ℕ
  A = length c.gates

  abbrev σ : ℕ → ℕ
  σ = new_number c

  abbrev order : List ℕ
  order = (numbering c).0

  abbrev make : ℕ → Gate
  make i = sorted (gate_under (new_number c) (gate_at c i))

  right : T (literals_right c)
  right = T_true valid.literals

  -- ---- the parts by position

  pub inputs-length : length (renumbered c).inputs ≡ length c.inputs
  unfolding renumbered
  inputs-length = length-map c.inputs (literal_under σ)

  pub latches-length : length (renumbered c).latches ≡ length c.latches
  unfolding renumbered
  latches-length = length-map c.latches (latch_under σ)

  pub gates-length : length (renumbered c).gates ≡ length c.gates
  unfolding renumbered
  gates-length = length-map (numbering c).0 make ∙ order-length valid

  pub input-at : (i : ℕ) → i < length c.inputs → input_at (renumbered c) i ≡ literal_under (new_number c) (input_at c i)
  unfolding renumbered
  input-at i h = get_or-map (literal_under σ) c.inputs i 0 0 h

  pub latch-at : (j : ℕ) → j < length c.latches → latch_at (renumbered c) j ≡ latch_under (new_number c) (latch_at c j)
  unfolding renumbered
  latch-at j h = get_or-map (latch_under σ) c.latches j no_latch no_latch h

  pub gate-at : (p : ℕ) → p < length c.gates
      → gate_at (renumbered c) p ≡ sorted (gate_under (new_number c) (gate_at c (get_or (numbering c).0 p 0)))
  unfolding renumbered
  gate-at p h = get_or-map make order p 0 no_gate (omega (arith, order-length valid))

  even : (l : ℕ) → Memᴰ l (defined c) → l % 2 ≡ 0
  even l m = (definition c right l m).1

  -- ---- definitions in order

  inputs_are : (renumbered c).inputs ≡ implied 1 (length c.inputs)
  inputs_are =
      implied-of (renumbered c).inputs 1 I inputs-length
      (λ i h. input-at i h ∙ under-even σ (input_at c i) (1 + i) (even (input_at c i) (input-in c i h)) (number-input valid i h))

  latches-are : map (λ l. l.lit) (renumbered c).latches ≡ implied (length c.inputs + 1) (length c.latches)
  latches-are =
      implied-of (map (λ (l : Latch). l.lit) (renumbered c).latches) (I + 1) L
      (length-map (renumbered c).latches (λ (l : Latch). l.lit) ∙ latches-length)
      (λ j h.
      get_or-map (λ (l : Latch). l.lit) (renumbered c).latches j no_latch 0 (omega (arith, latches-length)) ∙ ap (λ (l : Latch). l.lit)
      (latch-at j h)
      ∙ under-even σ (latch_at c j).lit (I + 1 + j) (even (latch_at c j).lit (latch-in c j h)) (number-latch valid j h))

  -- the literal of the gate at place p
  gate-lit : (p : ℕ) → p < length c.gates → literal_under (new_number c) (gate_at c (get_or (numbering c).0 p 0)).lit ≡ 2 *
      (length c.inputs + length c.latches + 1 + p)
  gate-lit p h =
      let i = get_or order p 0 in
      let l : p < length order = omega (arith, order-length valid) in
      under-even σ (gate_at c i).lit (I + L + 1 + p) (even (gate_at c i).lit (gate-in c i (order-inside valid p l))) (number-gate valid p l)

  gates-are : map (λ g. g.lit) (renumbered c).gates ≡ implied (length c.inputs + length c.latches + 1) (length c.gates)
  gates-are =
      implied-of (map (λ (g : Gate). g.lit) (renumbered c).gates) (I + L + 1) A
      (length-map (renumbered c).gates (λ (g : Gate). g.lit) ∙ gates-length)
      (λ p h.
      get_or-map (λ (g : Gate). g.lit) (renumbered c).gates p no_gate 0 (omega (arith, gates-length)) ∙ ap (λ (g : Gate). g.lit)
      (gate-at p h)
      ∙ sorted-lit (gate_under σ (gate_at c (get_or order p 0))) ∙ gate-lit p h)

  -- an operand that has a number below that of the gate
  operand_below : (n l : ℕ) → 0 < n → Numbered (numbering c).1 n (var l) → literal_under (new_number c) l < 2 * n
  operand_below n l s h = ⊎_elim (λ e. omega (arith, ap σ e, number-zero valid)) (λ e. omega (arith, e.1)) h

  -- both operands of a gate are below it
  pub operands-below : (p : ℕ) → p < length c.gates
      → (literal_under (new_number c) (gate_at c (get_or (numbering c).0 p 0)).left < literal_under (new_number c)
      (gate_at c (get_or (numbering c).0 p 0)).lit)
      × (literal_under (new_number c) (gate_at c (get_or (numbering c).0 p 0)).right < literal_under (new_number c)
      (gate_at c (get_or (numbering c).0 p 0)).lit)
  operands-below p h =
      let g = gate_at c (get_or order p 0) in
      let l : p < length order = omega (arith, order-length valid) in (
        omega (arith, gate-lit p h, operand_below (I + L + 1 + p) g.left (omega arith) (left-before valid p l)),
        omega (arith, gate-lit p h, operand_below (I + L + 1 + p) g.right (omega arith) (right-before valid p l)),
      )

  descending : (p : ℕ) → p < length c.gates → T (descends (sorted (gate_under (new_number c) (gate_at c (get_or (numbering c).0 p 0)))))
  descending p h = let o = operands-below p h in sorted-descends (gate_under σ (gate_at c (get_or order p 0))) o.0 o.1

  top-is : (renumbered c).max_var ≡ length c.inputs + length c.latches + length c.gates
  unfolding renumbered
  top-is = refl

  pub placed : Placed (renumbered c)
  placed =
      record {
        top = top-is ∙ omega (arith, inputs-length, latches-length, gates-length);
        inputs = inputs_are ∙ ap (implied 1) (sym inputs-length);
        latches = latches-are ∙ ap₂ (λ (x y : ℕ). implied (x + 1) y) (sym inputs-length) (sym latches-length);
        gates =
            gates-are ∙ ap₂ (λ (x y : ℕ). implied (x + 1) y) (omega (arith, inputs-length, latches-length)) (sym gates-length);
        descend =
            every_in descends (renumbered c).gates no_gate
            (λ p h. let l : p < A = omega (arith, gates-length) in subst (λ (g : Gate). T (descends g)) (sym (gate-at p l))
            (descending p l));
      }

  -- ---- what load tests

  abbrev small : ℕ → Bool
  small l = leb l (2 * (length c.inputs + length c.latches + length c.gates) + 1)

  under-small : (l : ℕ) → T (small (literal_under (new_number c) l))
  under-small l = le→leb (literal_under σ l) (2 * (I + L + A) + 1) (omega (arith, number-most valid (var l)))

  sorted-small : (g : Gate) → T (small (sorted (gate_under (new_number c) g)).left) × T (small (sorted (gate_under (new_number c) g)).right)
  sorted-small g = sorted-both (λ l. T (small l)) (gate_under σ g) (under-small g.left) (under-small g.right)

  used-small : T (every small (used (renumbered c)))
  unfolding used renumbered
  used-small =
      let nexts = map (λ (l : Latch). l.next) (map (latch_under σ) c.latches) in
      let outs = map (literal_under σ) c.outputs in
      let bads = map (literal_under σ) c.bads in
      let cons = map (literal_under σ) c.constraints in
      let gs = map make order in
      let lefts = map (λ (g : Gate). g.left) gs in
      let rights = map (λ (g : Gate). g.right) gs in
      let lits : (ls : List ℕ) → T (every small (map (literal_under σ) ls)) =
      λ ls. every-mapped small (literal_under σ) ls (every_true (λ l. small (literal_under σ l)) ls under-small) in
      let n = every-mapped small (λ (l : Latch). l.next) (map (latch_under σ) c.latches)
      (every-mapped (λ (l : Latch). small l.next) (latch_under σ) c.latches
      (every_true (λ (l : Latch). small (latch_under σ l).next) c.latches (λ l. under-small l.next))) in
      let l = every-mapped small (λ (g : Gate). g.left) gs
      (every-mapped (λ (g : Gate). small g.left) make order
      (every_true (λ i. small (make i).left) order (λ i. (sorted-small (gate_at c i)).0))) in
      let r = every-mapped small (λ (g : Gate). g.right) gs
      (every-mapped (λ (g : Gate). small g.right) make order
      (every_true (λ i. small (make i).right) order (λ i. (sorted-small (gate_at c i)).1))) in
      every-both small (nexts ++ outs ++ bads ++ cons ++ lefts) rights
      (every-both small (nexts ++ outs ++ bads ++ cons) lefts
      (every-both small (nexts ++ outs ++ bads) cons
      (every-both small (nexts ++ outs) bads (every-both small nexts outs n (lits c.outputs)) (lits c.bads))
      (lits c.constraints)) l) r

  resets-right : T (every (λ l. leb l.reset 1 || eqb l.reset l.lit) (renumbered c).latches)
  unfolding renumbered literals_right
  resets-right =
      every-mapped (λ (l : Latch). leb l.reset 1 || eqb l.reset l.lit) (latch_under σ) c.latches
      (every-imp (λ (l : Latch). leb l.reset 1 || eqb l.reset l.lit)
      (λ (l : Latch). leb (latch_under σ l).reset 1 || eqb (latch_under σ l).reset (latch_under σ l).lit)
      (λ l. reset-right σ (number-zero valid) l) c.latches
      (all-at (literal_tests c) right 3))

  pub renumbered-right : T (literals_right (renumbered c))
  renumbered-right =
      order-right (placed-order placed)
      (subst (λ (M : ℕ). T (every (λ l. leb l (2 * M + 1)) (used (renumbered c)))) (sym top-is) used-small) resets-right

  counts-right : T (counts_fit (header_of (renumbered c)))
  unfolding counts_fit renumbered
  counts-right =
      let n = counts-fit c valid.fit in
      let o = length-map c.outputs (literal_under σ) in
      let b = length-map c.bads (literal_under σ) in
      let k = length-map c.constraints (literal_under σ) in
      let i = length-map c.inputs (literal_under σ) in
      let l = length-map c.latches (latch_under σ) in
      let g : length (map make order) ≡ A = length-map order make ∙ order-length valid in
      let sum = length (map (literal_under σ) c.inputs) + length (map (latch_under σ) c.latches) + length (map make order) in
      all_hold (count_tests (header_of (renumbered c))) (
        le→leb (I + L + A) 4096 (omega (arith, n)),
        (
          le→leb (length (map (literal_under σ) c.inputs)) 256 (omega (arith, n, i)),
          (
            le→leb (length (map (latch_under σ) c.latches)) 1024 (omega (arith, n, l)),
            (
              le→leb (length (map (literal_under σ) c.outputs)) 64 (omega (arith, n, o)),
              (
                le→leb (length (map make order)) 3072 (omega (arith, n, g)),
                (
                  le→leb (length (map (literal_under σ) c.bads)) 16 (omega (arith, n, b)),
                  (
                    le→leb (length (map (literal_under σ) c.constraints)) 16 (omega (arith, n, k)),
                    (tt, (tt, (le→leb sum (I + L + A) (omega (arith, i, l, g)), tt))),
                  ),
                ),
              ),
            ),
          ),
        ),
      )

  -- load accepts the renumbered circuit
  pub renumbered-valid : Valid room (renumbered c)
  renumbered-valid =
      let o = placed-order placed in
      record {
        fit = true-T (counts_fit (header_of (renumbered c))) counts-right;
        held = omega (arith, valid.held, top-is, (counts-fit c valid.fit).definitions);
        literals = true-T (literals_right (renumbered c)) renumbered-right;
        uses = true-T (used_defined (renumbered c)) (order-defined o renumbered-right);
        order = true-T (acyclic (renumbered c)) (order-acyclic o);
      }
