-- Entries allow the values of a frame, where each entry that is stored is justified. Assumes nothing.
use mathlib.Core.Path.{◌≡◌, refl, sym, ap, ◌∙◌, subst}
use mathlib.Core.Bool.{Bool, true, false, not, cond, ◌&&◌, not-not}
use mathlib.Core.List.{List}
use Prim.Native.Nat.{ℕ, zero, suc, ◌+◌, ◌-◌, ◌*◌, ◌/◌, ◌%◌, ◌≤◌, ◌<◌}
use native.Mathlib.Decide.{ℕ_discrete}
use native.Mathlib.Omega.{arith}
use borrow.Author.Tests.{eq-eqb, ne_eqb}
use lib.Dec.{T, eqb}
use lib.Bits.{bit_xor, differ, xor_step, xor_zero_r}
use lib.ListN.{length, get_or, set, replicate, length-set, length-replicate, get_or-replicate}
use lib.Seq.{get_or-set_same, get_or-set_other}
use Rattle.aiger.specs.Bits.{nonzero, odd}
use Rattle.aiger.specs.Circuit.{Circuit, Gate, var}
use Rattle.aiger.specs.Frames.{value}
use Rattle.literals.specs.Literal.{literal, word_of, complemented}
use Rattle.literals.specs.declared.Lit.{Lit}
use Rattle.literals.proofs.Words.{word-literal}
use Rattle.layout.specs.Words.{word}
use Rattle.meaning.specs.Frame.{gate_at}
use Rattle.frames.specs.Lanes.{GateRoom}
use Rattle.ternary.specs.Cover.{Covers, Allows, Room}
use Rattle.ternary.specs.Entries.{may_of, put, conjunction, of_byte, put_below, gate_step, gates_below}
use Rattle.ternary.specs.declared.May.{May}
use Rattle.ternary.proofs.Entries.{put-length, gates-length}

pub value-even : (w : ℕ → Bool) (l v : ℕ) → l ≡ 2 * v → value w l ≡ w v
value-even w l v e =
    let z : l % 2 ≡ 0 = omega arith in
    let y : l / 2 ≡ v = omega arith in
    ap (λ (k : ℕ). cond (nonzero k) (not (w (l / 2))) (w (l / 2))) z ∙ ap w y

value-odd : (w : ℕ → Bool) (l v : ℕ) → l ≡ 2 * v + 1 → value w l ≡ not (w v)
value-odd w l v e =
    let z : l % 2 ≡ 1 = omega arith in
    let y : l / 2 ≡ v = omega arith in
    ap (λ (k : ℕ). cond (nonzero k) (not (w (l / 2))) (w (l / 2))) z ∙ ap (λ (k : ℕ). not (w k)) y

-- x allows value b
pub record Admits (x : May) (b : Bool) : Type 0 where
  pub high_one : T b → x.high ≡ 1
  pub low-one : T (not b) → x.low ≡ 1

-- the two entries of a variable
pub put-covers : (can : List ℕ) (w : ℕ → Bool) (v : ℕ) (x : May) → Admits x (w v) → Covers can w → Covers (put v x can) w
put-covers can w v x a c =
    record {
      may = λ l h t.
          let n = put-length v x can in
          let one = set can (2 * v) x.high in
          elim (ℕ_discrete l (2 * v + 1)) [
            | yes e ↦
                ap (λ (k : ℕ). get_or (put v x can) k 0) e
                ∙ get_or-set_same one (2 * v + 1) x.low 0 (omega (arith, n, length-set can (2 * v) x.high))
                ∙ a.low-one (subst T (value-odd w l v e) t)
            | no d ↦
                get_or-set_other one (2 * v + 1) l x.low 0 d
                ∙ elim (ℕ_discrete l (2 * v)) [
                  | yes e ↦
                      ap (λ (k : ℕ). get_or one k 0) e ∙ get_or-set_same can (2 * v) x.high 0 (omega (arith, n))
                      ∙ a.high_one (subst T (value-even w l v e) t)
                  | no f ↦ get_or-set_other can (2 * v) l x.high 0 f ∙ c.may l (omega (arith, n)) t
                ]
          ];
    }

pub below-covers : (v : ℕ → ℕ) (x : ℕ → May) (n : ℕ) (can : List ℕ) (w : ℕ → Bool) → ((i : ℕ) → i < n → Admits (x i) (w (v i)))
    → Covers can w
    → Covers (put_below v x n can) w
unfolding put_below
below-covers v x zero can w a c = c
below-covers v x (suc n) can w a c =
    put-covers (put_below v x n can) w (v n) (x n) (a n (omega arith)) (below-covers v x n can w (λ i h. a i (omega arith)) c)

-- ---- what a literal is allowed

word_bound : (l : Lit) → word_of l ≤ 2 * l.0.0 + 1
word_bound l = go l.0.0 l.1
  where
    go : (v : ℕ) (b : Bool) → 2 * v + cond b 1 0 ≤ 2 * v + 1
    go v true = omega arith
    go v false = omega arith

pub literal-inside : (l : Lit) (n : ℕ) → 2 * l.0.0 + 1 < n → (word_of l < n) × (word_of (complemented l) < n)
literal-inside l n h = (omega (arith, word_bound l), omega (arith, word_bound (complemented l)))

-- the word of the complement differs in the last bit
pub complement-word : (l : Lit) → bit_xor (word_of l) 1 ≡ word_of (complemented l)
complement-word l = go l.0.0 l.1
  where
    go : (v : ℕ) (b : Bool) → bit_xor (2 * v + cond b 1 0) 1 ≡ 2 * v + cond (not b) 1 0
    go v true =
        let half : (2 * v + 1) / 2 ≡ v = omega arith in
        let last : (2 * v + 1) % 2 ≡ 1 = omega arith in
        let one : differ 1 1 ≡ 0 = refl in
        xor_step (2 * v + 1) 1 ∙ (λ i. bit_xor (half i) 0 * 2 + differ (last i) 1) ∙ omega (arith, xor_zero_r v, one)
    go v false =
        let half : (2 * v + 0) / 2 ≡ v = omega arith in
        let last : (2 * v + 0) % 2 ≡ 0 = omega arith in
        let one : differ 0 1 ≡ 1 = refl in
        xor_step (2 * v + 0) 1 ∙ (λ i. bit_xor (half i) 0 * 2 + differ (last i) 1) ∙ omega (arith, xor_zero_r v, one)

flips : (w : ℕ → Bool) (l : Lit) → value w (word_of (complemented l)) ≡ not (value w (word_of l))
flips w l = go l.0.0 l.1
  where
    go : (v : ℕ) (b : Bool) → value w (2 * v + cond (not b) 1 0) ≡ not (value w (2 * v + cond b 1 0))
    go v true =
        value-even w (2 * v + 0) v (omega arith) ∙ sym (not-not (w v)) ∙ ap not (sym (value-odd w (2 * v + 1) v (omega arith)))
    go v false = value-odd w (2 * v + 1) v (omega arith) ∙ ap not (sym (value-even w (2 * v + 0) v (omega arith)))

pub read-admits : (can : List ℕ) (w : ℕ → Bool) (k : ℕ) → 2 * var k + 1 < length can → Covers can w
    → Admits (may_of can (literal k)) (value w k)
read-admits can w k h c =
    let l = literal k in
    let b = literal-inside l (length can) h in
    subst (λ (n : ℕ). Admits (may_of can l) (value w n)) (word-literal k)
    (record {
      high_one = λ t. c.may (word_of l) b.0 t;
      low-one = λ t. c.may (word_of (complemented l)) b.1 (subst T (sym (flips w l)) t);
    })

-- ---- a gate

both_true : (a b : Bool) → T (a && b) → T a × T b
both_true true true t = (tt, tt)
both_true true false t = absurd t
both_true false b t = absurd t

not-both-cases : (a b : Bool) (P : Type 0) → T (not (a && b)) → (T (not a) → P) → (T (not b) → P) → P
not-both-cases true true P t f g = absurd t
not-both-cases true false P t f g = g tt
not-both-cases false b P t f g = f tt

one_of : (b : Bool) (y : ℕ) → y ≡ 1 → cond b 1 y ≡ 1
one_of true y e = refl
one_of false y e = e

conjunction-admits : (x y : May) (a b : Bool) → Admits x a → Admits y b → Admits (conjunction x y) (a && b)
conjunction-admits x y a b p q =
    record {
      high_one = λ t.
          let s = both_true a b t in
          ap (λ (z : Bool). cond z y.high 0) (eq-eqb x.high 1 (p.high_one s.0)) ∙ q.high_one s.1;
      low-one = λ t.
          not-both-cases a b ((conjunction x y).low ≡ 1) t
          (λ s. ap (λ (z : Bool). cond z 1 y.low) (eq-eqb x.low 1 (p.low-one s)))
          (λ s. one_of (eqb x.low 1) y.low (q.low-one s));
    }

-- the variables of a gate have entries
pub record GateFits (g : Gate) (size : ℕ) : Type 0 where
  pub left : 2 * var g.left + 1 < size
  pub right : 2 * var g.right + 1 < size

pub gate-covers : (g : Gate) (can : List ℕ) (w : ℕ → Bool) → GateFits g (length can)
    → w (var g.lit) ≡ (value w g.left && value w g.right)
    → Covers can w → Covers (gate_step g can) w
gate-covers g can w h e c =
    let x = may_of can (literal g.left) in
    let y = may_of can (literal g.right) in
    put-covers can w (var g.lit) (conjunction x y)
    (subst (Admits (conjunction x y)) (sym e)
    (conjunction-admits x y (value w g.left) (value w g.right) (read-admits can w g.left h.left c)
    (read-admits can w g.right h.right c)))
    c

pub gates-covers : (c : Circuit) (order : List ℕ) (n : ℕ) (can : List ℕ) (w : ℕ → Bool)
    → ((k : ℕ) → k < n
    → (let g = gate_at c (get_or order k 0) in GateFits g (length can) × (w (var g.lit) ≡ (value w g.left && value w g.right))))
    → Covers can w → Covers (gates_below c order n can) w
unfolding gates_below
gates-covers c order zero can w h k = k
gates-covers c order (suc n) can w h k =
    let g = gate_at c (get_or order n 0) in
    let old = gates_below c order n can in
    let r = h n (omega arith) in
    gate-covers g old w (subst (GateFits g) (sym (gates-length c order n can)) r.0) r.1
    (gates-covers c order n can w (λ i l. h i (omega arith)) k)

pub room_of : {m : List ℕ} {at n size : ℕ} → GateRoom m at n → 2 * n ≤ size → Room m at size
room_of g h = record { inside = g.inside; lit = omega (arith, g.lit); left = omega (arith, g.left); right = omega (arith, g.right) }

-- ---- bytes, and all entries 1

pub byte-admits : (byte : ℕ) (b : Bool) → Allows byte b → Admits (of_byte byte) b
byte-admits byte b a =
    record {
      high_one = λ t. ap (λ (z : Bool). cond {A = ℕ} z 0 1) (ne_eqb byte 48 (a.true-one t));
      low-one = λ t. ap (λ (z : Bool). cond {A = ℕ} z 0 1) (ne_eqb byte 49 (a.false-one t));
    }

pub all-covers : (n : ℕ) (w : ℕ → Bool) → Covers (replicate n 1) w
all-covers n w = record { may = λ l h t. get_or-replicate {A = ℕ} n l 1 0 (omega (arith, length-replicate {A = ℕ} n 1)) }
