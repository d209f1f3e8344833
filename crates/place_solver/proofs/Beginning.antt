-- What a conflict search supposes holds of the words of a netlist with the floor at a place: the place looked for is the first one from there
-- on at which the root is true. Assumes nothing.
use mathlib.Core.Path.{◌≡◌, refl, sym, ap, ap₂, ◌∙◌, subst}
use mathlib.Core.Bool.{Bool, true, false, not, cond, ◌&&◌}
use mathlib.Core.List.{List}
use mathlib.Core.Logic.{◌⊎◌, inl, inr}
use Prim.Native.Nat.{ℕ, zero, suc, ◌+◌, ◌-◌, ◌*◌, ◌/◌, ◌%◌, ◌^◌, ◌≤◌, ◌<◌}
use native.Mathlib.Nat.{pow-zero, div-one}
use native.Mathlib.Decide.{ℕ_discrete, dec_lt}
use native.Mathlib.Omega.{arith}
use borrow.Author.Tests.{eq-eqb, ne_eqb}
use lib.Dec.{T, eqb}
use lib.ListN.{length}
use Rattle.aiger.specs.Bits.{bit}
use Rattle.aiger.specs.Circuit.{var}
use Rattle.aiger.specs.Frames.{value, free_bit}
use Rattle.meaning.proofs.Decisions.{FirstHit}
use Rattle.nodes.specs.Graph.{Pair, nodes, edge_value, Built}
use Rattle.cone.specs.Cone.{in_cone, renumbered}
use Rattle.support.proofs.Support.{same-root}
use Rattle.memory.specs.Record.{field, fixed, bit_at}
use Rattle.clauses.specs.Clause.{Always, GateOf}
use Rattle.clauses.specs.Floor.{prefix}
use Rattle.clauses.proofs.Resolution.{value-node}
use Rattle.floor.specs.Place.{bit_of, floor_bit, is_idle}
use Rattle.choices.specs.Begun.{Begun}
use Rattle.netlist.specs.Netlist.{net_nodes, net_words, net_of}
use Rattle.netlist.proofs.Records.{net-long, nodes-more, none-known, first-bits, leaf-operand, leaf-known, val, val-zero, val-free, obeyed, left-before, right-before, root-inside, root-value}
use Rattle.place_solver.specs.From.{with_digit, digit_at, start_words}
use Rattle.place_solver.proofs.Started.{Started, started-all}
use Rattle.place_solver.proofs.Digits.{prefix-digits, without, without_other, without-less, without-above}

-- the digits of word 2
digits_of : (fact d : ℕ) → d ≤ 1 → (fixed (with_digit fact d) ≡ fixed fact) × (bit_at (with_digit fact d) ≡ d)
digits_of fact d l = (omega arith, omega arith)

digit-small : (b : Bool) → cond b 1 0 ≤ 1
digit-small true = omega arith
digit-small false = omega arith

-- 0 or 1 as the floor's bit
as-bit : (b : Bool) → ◌≡◌ {A = ℕ} (cond (eqb (cond b 1 0) 1) 1 0) (cond b 1 0)
as-bit true = refl
as-bit false = refl

module _ (n : ℕ) (gs : List Pair) (root words : ℕ) (room : 14 * net_nodes n gs root ≤ words) (built : Built n gs) (inside : var root < nodes n gs)
    (place : ℕ) (below : place < 2 ^ n) where
  abbrev N : ℕ
  N = net_nodes n gs root

  abbrev plain : List ℕ
  plain = net_words n gs root words

  abbrev start : List ℕ
  start = start_words n gs root words place

  -- the root is true at place x
  abbrev pub root_at : ℕ → Bool
  root_at x = edge_value n gs (free_bit n x) root

  -- the place looked for, and the values of the nodes there
  abbrev pub Hits : ℕ → Type 0
  Hits x = FirstHit root_at (2 ^ n) place x

  abbrev pub Hit : (ℕ → Bool) → Type 0
  Hit a = (x : ℕ) × Hits x × (a ≡ val n gs root words room built inside x)

  started : Started plain N n place (nodes-more n gs root words room) (omega (arith, net-long n gs root words room)) start n
  unfolding start_words
  started = started-all plain N n place (nodes-more n gs root words room) (omega (arith, net-long n gs root words room))

  pub start-long : length start ≡ words
  start-long = started.size ∙ net-long n gs root words room

  -- ---- nodes

  -- nodes other than free bits are as they were
  other : (v f : ℕ) → f < 14 → (v ≡ 0) ⊎ (n < v) → field start N v f ≡ field plain N v f
  other v f l o = started.other v f l o

  -- the second operand of a free bit is true, or the free bit itself
  cone-two : (b : Bool) (d : ℕ) → d ≡ cond b 0 2 → eqb d 2 ≡ not b
  cone-two true d e = ap (λ (k : ℕ). eqb k 2) e
  cone-two false d e = ap (λ (k : ℕ). eqb k 2) e

  second : (v : ℕ) → 1 ≤ v → v ≤ n → field start N v 1 ≡ cond (in_cone n gs root v) (2 * v) 1
  unfolding bit_of
  second v a l =
      started.second v a l
      ∙ ap₂ (λ (b : Bool) (k : ℕ). cond b 1 k) (cone-two (in_cone n gs root v) (bit_at (field plain N v 2)) (first-bits n gs root words room v l))
      (leaf-operand n gs root words room v 1 l (omega arith))
      ∙ turned (in_cone n gs root v)
    where
      turned : (b : Bool) → cond (not b) 1 (2 * v) ≡ cond b (2 * v) 1
      turned true = refl
      turned false = refl

  and_same : (b : Bool) → b ≡ (b && b)
  and_same true = refl
  and_same false = refl

  and-true : (b : Bool) → b ≡ (b && true)
  and-true true = refl
  and-true false = refl

  -- at each place each node is the conjunction of its operands
  obeys : (x v : ℕ) → v < N → GateOf (val n gs root words room built inside x) v (field start N v 0) (field start N v 1)
  obeys x v h =
      elim (dec_lt n v) [
        | yes l ↦ same (other v 0 (omega arith) (inr l)) (other v 1 (omega arith) (inr l))
        | no l ↦
            elim (ℕ_discrete v 0) [
              | yes e ↦ same (other v 0 (omega arith) (inl e)) (other v 1 (omega arith) (inl e))
              | no e ↦ leaf (in_cone n gs root v) (second v (omega arith) (omega arith)) (started.first v ∙ leaf-operand n gs root words room v 0 (omega arith) (omega arith))
            ]
      ]
    where
      same : field start N v 0 ≡ field plain N v 0 → field start N v 1 ≡ field plain N v 1
          → GateOf (val n gs root words room built inside x) v (field start N v 0) (field start N v 1)
      same p q =
          obeyed n gs root words room built inside x v h
          ∙ ap₂ (λ (d e : ℕ). value (val n gs root words room built inside x) d && value (val n gs root words room built inside x) e) (sym p) (sym q)

      true-there : value (val n gs root words room built inside x) 1 ≡ true
      true-there = ap not (val-zero n gs root words room built inside x)

      leaf : (b : Bool) → field start N v 1 ≡ cond b (2 * v) 1 → field start N v 0 ≡ 2 * v
          → GateOf (val n gs root words room built inside x) v (field start N v 0) (field start N v 1)
      leaf true q p =
          and_same (val n gs root words room built inside x v)
          ∙ ap₂ (λ (b c : Bool). b && c) (sym (value-node (val n gs root words room built inside x) v)) (sym (value-node (val n gs root words room built inside x) v))
          ∙ ap₂ (λ (d e : ℕ). value (val n gs root words room built inside x) d && value (val n gs root words room built inside x) e) (sym p) (sym q)
      leaf false q p =
          and-true (val n gs root words room built inside x v)
          ∙ ap₂ (λ (b c : Bool). b && c) (sym (value-node (val n gs root words room built inside x) v)) (sym true-there)
          ∙ ap₂ (λ (d e : ℕ). value (val n gs root words room built inside x) d && value (val n gs root words room built inside x) e) (sym p) (sym q)

  -- ---- the floor

  -- nothing is fixed, and each free bit has the place's digit
  unfixed : (v : ℕ) → fixed (field start N v 2) ≡ 0
  unfixed v =
      elim (dec_lt n v) [
        | yes l ↦ ap fixed (other v 2 (omega arith) (inr l)) ∙ (none-known n gs root words room v).0
        | no l ↦
            elim (ℕ_discrete v 0) [
              | yes e ↦ ap fixed (other v 2 (omega arith) (inl e)) ∙ (none-known n gs root words room v).0
              | no e ↦
                  ap fixed (started.fact v (omega arith) (omega arith))
                  ∙ (digits_of (field plain N v 2) (digit_at place (n - v)) (digit-small (bit place (n - v)))).0 ∙ (none-known n gs root words room v).0
            ]
      ]

  digit : (v : ℕ) → 1 ≤ v → v ≤ n → bit_of start N v ≡ digit_at place (n - v)
  unfolding bit_of
  digit v a l =
      ap bit_at (started.fact v a l) ∙ (digits_of (field plain N v 2) (digit_at place (n - v)) (digit-small (bit place (n - v)))).1

  pub start-floor : prefix (floor_bit start N) n ≡ place
  start-floor =
      let e : n - n ≡ 0 = omega arith in
      prefix-digits (floor_bit start N) n place below
      (λ v a l. ap (λ (d : ℕ). cond (eqb d 1) 1 0) (digit v a l) ∙ as-bit (bit place (n - v))) n (omega arith)
      ∙ ap (λ (k : ℕ). place / 2 ^ k) e ∙ ap (λ (k : ℕ). place / k) (pow-zero 2) ∙ div-one place

  -- each free bit counts at first
  counted : (b : Bool) (d : ℕ) → d ≡ cond b 1 0 → (d ≡ 0 → ⊥) → (d ≡ 1 → ⊥) → ⊥
  counted true d e p q = q e
  counted false d e p q = p e

  -- an idle node does not lead to the root
  idle-out : (v : ℕ) → 1 ≤ v → v ≤ n → is_idle start N v ≡ true → in_cone n gs root v ≡ false
  unfolding is_idle
  idle-out v a l i = go (in_cone n gs root v) (second v a l)
    where
      go : (b : Bool) → field start N v 1 ≡ cond b (2 * v) 1 → b ≡ false
      go false e = refl
      go true e =
          let s = started.first v ∙ leaf-operand n gs root words room v 0 l (omega arith) ∙ sym e in
          absurd (subst T (sym i ∙ ap not (eq-eqb (field start N v 0) (field start N v 1) s)) tt)

  -- the root does not see it: without its bit the place would come before
  spare : (v : ℕ) → v < n → is_idle start N (suc v) ≡ true → (x q : ℕ) → Hits x
      → prefix (floor_bit start N) n ≤ q * 2 ^ (n - v) → q * 2 ^ (n - v) ≤ x → free_bit n x v ≡ false
  spare v l i x q h s t = go (free_bit n x v) refl
    where
      power : n - v ≡ suc (n - (v + 1))
      power = omega arith

      out : in_cone n gs root (suc v) ≡ false
      out = idle-out (suc v) (omega arith) (omega arith) i

      less : free_bit n x v ≡ true → without x (n - (v + 1)) < x
      less e = without-less x (n - (v + 1)) e

      above : q * 2 ^ (n - v) ≤ without x (n - (v + 1))
      above =
          subst (λ (j : ℕ). q * 2 ^ j ≤ without x (n - (v + 1))) (sym power)
          (without-above x (n - (v + 1)) q (subst (λ (j : ℕ). q * 2 ^ j ≤ x) power t))

      seen : (j : ℕ) → j < n → T (in_cone n gs root (j + 1)) → free_bit n (without x (n - (v + 1))) j ≡ free_bit n x j
      seen j m c =
          without_other x (n - (v + 1)) (n - (j + 1))
          (λ z. let e : j + 1 ≡ suc v = omega arith in subst T (ap (in_cone n gs root) e ∙ out) c)

      hit-there : T (root_at (without x (n - (v + 1))))
      hit-there =
          subst T (sym (same-root n gs root built (free_bit n (without x (n - (v + 1)))) (free_bit n x) seen inside)) h.hit

      go : (b : Bool) → free_bit n x v ≡ b → free_bit n x v ≡ false
      go false e = e
      go true e = absurd (h.first (without x (n - (v + 1))) (omega (arith, start-floor, above)) (less e) hit-there)

  -- ---- the words meet what the search supposes
  pub begun-from : Begun Hit Hits (val n gs root words room built inside) (net_of n gs root words) start
  unfolding net_of
  begun-from =
      record {
        small = nodes-more n gs root words room;
        room = room;
        within = omega (arith, start-long);
        free = val-free n gs root words room built inside;
        bound = λ x h. h.fits;
        obeys = λ x h. (x, h, refl);
        top = λ x h. subst T (sym (root-value n gs root words room built inside x)) h.hit;
        gate = λ a h v l. subst (λ (b : ℕ → Bool). GateOf b v (field start N v 0) (field start N v 1)) (sym h.2) (obeys h.0 v l);
        never = λ a h.
            subst (λ (b : ℕ → Bool). T (value b 1)) (sym h.2)
            (subst (λ (b : Bool). T (not b)) (sym (val-zero n gs root words room built inside h.0)) tt);
        none = val-zero n gs root words room built inside;
        obeyed = λ x v l h. obeys x v h;
        left = λ v l h.
            subst (λ (k : ℕ). k / 2 < v) (sym (other v 0 (omega arith) (inr l))) (left-before n gs root words room built inside v l h);
        right = λ v l h.
            subst (λ (k : ℕ). k / 2 < v) (sym (other v 1 (omega arith) (inr l))) (right-before n gs root words room built inside v l h);
        root = root-inside n gs root words room built inside;
        unfixed = unfixed;
        low = λ x h. omega (arith, start-floor, h.from);
        clean = λ v l p q x h. absurd (counted (bit place (n - suc v)) (bit_of start N (suc v)) (digit (suc v) (omega arith) (omega arith)) p q);
        spare = spare;
      }
