-- Words 2 and 3 of a record after a store. Assumes nothing.
use mathlib.Core.Path.{◌≡◌, refl, sym, ap, ap₂, ◌∙◌, subst}
use mathlib.Core.Bool.{Bool, true, false, not, cond, xor, ◌&&◌}
use mathlib.Core.List.{List}
use mathlib.Core.Logic.{⊎_elim}
use Prim.Native.Nat.{ℕ, zero, suc, ◌+◌, ◌-◌, ◌*◌, ◌/◌, ◌%◌, ◌^◌, ◌≤◌, ◌<◌}
use native.Mathlib.Nat.{eq-or-lt_of_le}
use native.Mathlib.Omega.{arith}
use lib.Bits.{bit_and, bit_xor}
use lib.Pow.{shr-shr}
use lib.Dec.{T}
use lib.ListN.{length, get_or, set, length-set}
use lib.Seq.{get_or-set_same, get_or-set_other}
use Rattle.aiger.specs.Bits.{nonzero, odd, bit}
use Rattle.aiger.specs.Frames.{value}
use Rattle.words.proofs.Bits.{bit-xor, bit-and, bit-all, bit-none, join-low}
use Rattle.nodes.specs.Store.{field}
use Rattle.simulation.specs.Store.{half, Kept, Evaluable, HalfEvaluated, GateEvaluated, WordPut}
pub use Rattle.cone.proofs.Marking.{first_word}

xor-with : (b : Bool) (d : Bool) → xor b d ≡ cond d (not b) b
unfolding xor
xor-with true true = refl
xor-with true false = refl
xor-with false true = refl
xor-with false false = refl

-- a word with its sign: the word, or its complement
pub sign-half : (x s q : ℕ) → s < 2 → q < 32 → bit (bit_xor x (s * 0xffff_ffff)) q ≡ cond (nonzero s) (not (bit x q)) (bit x q)
sign-half x zero q h l = bit-xor x 0 q ∙ ap (xor (bit x q)) (bit-none q) ∙ xor-with (bit x q) false
sign-half x (suc zero) q h l = bit-xor x 0xffff_ffff q ∙ ap (xor (bit x q)) (bit-all 32 q l) ∙ xor-with (bit x q) true
sign-half x (suc (suc s)) q h l = absurd (omega arith)

-- ---- one gate

pub half-evaluated : (work : List ℕ) (k h x y a b : ℕ) → 16 * k + 16 ≤ length work → h < 2 → a ≡ field work k 0 → b ≡ field work k 1
    → ((q : ℕ) → q < 32 → bit x q ≡ value (half work h q) a) → ((q : ℕ) → q < 32 → bit y q ≡ value (half work h q) b)
    → HalfEvaluated work (set work (16 * k + (2 + h)) (bit_and x y)) k h
half-evaluated work k h x y a b room l p r ex ey =
    record {
      result = λ q u.
          ap (λ (w : ℕ). bit w q) (get_or-set_same work (16 * k + (2 + h)) (bit_and x y) 0 (omega arith)) ∙ bit-and x y q
          ∙ ap₂ (λ (c d : Bool). c && d) (ex q u ∙ ap (value (half work h q)) p) (ey q u ∙ ap (value (half work h q)) r);
      others = λ i n. get_or-set_other work (16 * k + (2 + h)) i (bit_and x y) 0 n;
    }

-- the value of an edge of an earlier node
pub value_same : (u v : ℕ → Bool) (e : ℕ) → u (e / 2) ≡ v (e / 2) → value u e ≡ value v e
value_same u v e h = ap (λ (b : Bool). cond (odd e) (not b) b) h

pub evaluated-none : (work : List ℕ) (k : ℕ) → get_or work (16 * k + 10) 0 ≡ 0 → GateEvaluated work work k
evaluated-none work k z =
    record {
      result = λ t h q l u. absurd (subst T (ap nonzero z) t);
      others = λ i a b. refl;
    }

pub evaluated-both : (work mid last : List ℕ) (k : ℕ) → field work k 0 / 2 < k → field work k 1 / 2 < k → HalfEvaluated work mid k 0 → HalfEvaluated mid last k 1
    → GateEvaluated work last k
evaluated-both work mid last k left right a b =
    record {
      result = λ t h q l u. go h l q u;
      others = λ i m n. b.others i n ∙ a.others i m;
    }
  where
    operand : (e q : ℕ) → e / 2 < k → value (half mid 1 q) e ≡ value (half work 1 q) e
    operand e q l = value_same (half mid 1 q) (half work 1 q) e (ap (λ (w : ℕ). bit w q) (a.others (16 * (e / 2) + 3) (λ z. omega arith)))

    word : (f : ℕ) → f < 2 → field mid k f ≡ field work k f
    word f l = a.others (16 * k + f) (λ z. omega arith)

    go : (h : ℕ) → h < 2 → (q : ℕ) → q < 32 → half last h q k ≡ (value (half work h q) (field work k 0) && value (half work h q) (field work k 1))
    go zero l q u = ap (λ (w : ℕ). bit w q) (b.others (16 * k + 2) (λ z. omega arith)) ∙ a.result q u
    go (suc zero) l q u =
        b.result q u
        ∙ ap₂ (λ (c d : Bool). c && d) (ap (value (half mid 1 q)) (word 0 (omega arith)) ∙ operand (field work k 0) q left)
        (ap (value (half mid 1 q)) (word 1 (omega arith)) ∙ operand (field work k 1) q right)
    go (suc (suc h)) l q u = absurd (omega arith)

-- ---- a word given to a node

low_bit : (w q : ℕ) → q < 32 → bit (w % 4294967296) q ≡ bit w q
low_bit w q h =
    let e : w / 4294967296 * 4294967296 + w % 4294967296 ≡ w = omega arith in
    sym (join-low 32 (w / 4294967296) (w % 4294967296) q h) ∙ ap (λ (x : ℕ). bit x q) e

high_bit : (w q : ℕ) → bit (w / 4294967296) q ≡ bit w (32 + q)
unfolding bit
high_bit w q = ap odd (shr-shr w 32 q)

pub word-put : (work : List ℕ) (v word : ℕ) → 16 * v + 16 ≤ length work
    → WordPut work (set (set work (16 * v + 2) (word % 4294967296)) (16 * v + 3) (word / 4294967296)) v word
word-put work v word room =
    record {
      new = λ h q l u. go h l q u;
      others = λ i m n. get_or-set_other mid (16 * v + 3) i (word / 4294967296) 0 n ∙ get_or-set_other work (16 * v + 2) i (word % 4294967296) 0 m;
    }
  where
    mid : List ℕ
    mid = set work (16 * v + 2) (word % 4294967296)

    go : (h : ℕ) → h < 2 → (q : ℕ) → q < 32 → half (set mid (16 * v + 3) (word / 4294967296)) h q v ≡ bit word (32 * h + q)
    go zero l q u =
        let e : q ≡ 32 * 0 + q = omega arith in
        ap (λ (w : ℕ). bit w q)
        (get_or-set_other mid (16 * v + 3) (16 * v + 2) (word / 4294967296) 0 (λ z. omega arith) ∙ get_or-set_same work (16 * v + 2) (word % 4294967296) 0 (omega arith))
        ∙ low_bit word q u ∙ ap (bit word) e
    go (suc zero) l q u =
        let e : 32 + q ≡ 32 * 1 + q = omega arith in
        ap (λ (w : ℕ). bit w q) (get_or-set_same mid (16 * v + 3) (word / 4294967296) 0 (simp length-set (omega arith))) ∙ high_bit word q ∙ ap (bit word) e
    go (suc (suc h)) l q u = absurd (omega arith)

-- the gate may be evaluated after its first half is
pub evaluable-half : (work mid : List ℕ) (k : ℕ) → Evaluable work k → length mid ≡ length work → HalfEvaluated work mid k 0 → Evaluable mid k
evaluable-half work mid k e z a =
    record {
      held = omega (arith, e.held);
      left = omega (arith, e.left, a.others (16 * k + 0) (λ z. omega arith));
      right = omega (arith, e.right, a.others (16 * k + 1) (λ z. omega arith));
    }

pub true-false : true ≡ false → ⊥
true-false e = subst T e tt
