-- Slots of free bits: filling them, and giving their nodes values. Assumes nothing.
use mathlib.Core.Path.{◌≡◌, refl, sym, ap, ap₂, ◌∙◌, subst}
use mathlib.Core.Bool.{Bool, true, false, cond}
use mathlib.Core.List.{List}
use Prim.Native.Nat.{ℕ, zero, suc, ◌+◌, ◌-◌, ◌*◌, ◌/◌, ◌%◌, ◌^◌, ◌≤◌, ◌<◌}
use native.Mathlib.Nat.{div-eq_of_lt}
use native.Mathlib.Decide.{ℕ_discrete, dec_lt}
use native.Mathlib.Omega.{arith}
use lib.Pow.{shr-shr}
use lib.Dec.{T}
use lib.ListN.{length, get_or, set}
use lib.Seq.{get_or-set_same, get_or-set_other}
use Rattle.aiger.specs.Bits.{nonzero, bit}
use Rattle.aiger.proofs.Tests.{T_true, bit-most, nonzero-true}
use Rattle.nodes.specs.Graph.{Pair}
use Rattle.nodes.specs.Store.{field}
use Rattle.nodes.specs.declared.Graph.{Graph}
use Rattle.support.specs.Counting.{rank}
use Rattle.support.specs.Support.{support}
use Rattle.support.proofs.Counting.{rank-more, rank_lt}
use Rattle.simulation.specs.Store.{half, Kept, Net, WordPut, LeavesCleared, SlotsPut, Slotted, Taken, SlotsTo, Carried}
use Rattle.simulation.proofs.Nets.{kept-none, kept_trans, kept_word, net-mark-is, net-marked}

-- ---- clearing

pub cleared-none : (work : List ℕ) → LeavesCleared work work 0
cleared-none work = record { kept = kept-none work; zeros = λ v h. absurd (omega arith) }

pub cleared_more : (work mid last : List ℕ) (k : ℕ) → LeavesCleared work mid k → WordPut mid last k 0 → LeavesCleared work last (k + 1)
cleared_more work mid last k a e =
    record {
      kept = kept_trans work mid last a.kept (kept_word mid last k 0 e);
      zeros = λ v l h q u w.
          elim (ℕ_discrete v k) [
            | yes z ↦ subst (λ (x : ℕ). half last h q x ≡ bit 0 (32 * h + q)) (sym z) (e.new h q u w)
            | no z ↦
                ap (λ (x : ℕ). bit x q) (e.others (16 * v + (2 + h)) (λ y. z (omega arith)) (λ y. z (omega arith))) ∙ a.zeros v (omega arith) h q u w
          ];
    }

-- ---- giving values

pub put-none : (work slots : List ℕ) (from block : ℕ) → SlotsPut work work slots from from block
put-none work slots from block =
    record {
      kept = kept-none work;
      new = λ k l h. absurd (omega arith);
      others = λ v n h l. refl;
    }

pub put-more : (work mid last slots : List ℕ) (from k block word : ℕ) → from ≤ k → ((j l : ℕ) → j < l → l < k + 1 → get_or slots j 0 ≡ get_or slots l 0 → ⊥)
    → SlotsPut work mid slots from k block → ((p : ℕ) → p < 64 → bit word p ≡ bit (block * 64 + p) k) → WordPut mid last (get_or slots k 0) word
    → SlotsPut work last slots from (k + 1) block
put-more work mid last slots from k block word h differ a b e =
    record {
      kept = kept_trans work mid last a.kept (kept_word mid last (get_or slots k 0) word e);
      new = λ j l u c q hc hq.
          elim (ℕ_discrete j k) [
            | yes z ↦
                subst (λ (x : ℕ). half last c q (get_or slots x 0) ≡ bit (block * 64 + (32 * c + q)) x) (sym z)
                (e.new c q hc hq ∙ b (32 * c + q) (omega arith))
            | no z ↦
                (let n : get_or slots j 0 ≡ get_or slots k 0 → ⊥ = differ j k (omega arith) (omega arith) in
                ap (λ (x : ℕ). bit x q) (e.others (16 * get_or slots j 0 + (2 + c)) (λ y. n (omega arith)) (λ y. n (omega arith)))
                ∙ a.new j l (omega arith) c q hc hq)
          ];
      others = λ v n c hc.
          let m : get_or slots k 0 ≡ v → ⊥ = n k h (omega arith) in
          e.others (16 * v + (2 + c)) (λ y. m (omega arith)) (λ y. m (omega arith)) ∙ a.others v (λ j l u. n j l (omega arith)) c hc;
    }

-- ---- taking slots

pub taken_none : (slots : List ℕ) (r v mark : ℕ) → mark ≡ 0 → Taken slots slots r v mark r
taken_none slots r v mark z =
    let e : r ≡ r + 0 = omega arith in
    record {
      next-is = e ∙ ap (λ (m : ℕ). r + cond (nonzero m) 1 0) (sym z);
      new = λ t. absurd (subst T (ap nonzero z) t);
      others = λ k n. refl;
    }

pub taken-one : (slots : List ℕ) (r v mark : ℕ) → (mark ≡ 0 → ⊥) → r < length slots → Taken slots (set slots r v) r v mark (r + 1)
taken-one slots r v mark z h =
    record {
      next-is = ap (λ (b : Bool). r + cond b 1 0) (sym (nonzero-true mark z));
      new = λ t l. get_or-set_same slots r v 0 h;
      others = λ k n. get_or-set_other slots r k v 0 n;
    }

pub taken-over : (slots : List ℕ) (r v mark : ℕ) → (mark ≡ 0 → ⊥) → (r < 32 → ⊥) → Taken slots slots r v mark (r + 1)
taken-over slots r v mark z h =
    record {
      next-is = ap (λ (b : Bool). r + cond b 1 0) (sym (nonzero-true mark z));
      new = λ t l. absurd (h l);
      others = λ k n. refl;
    }

pub taken-bound : {slots last : List ℕ} {r v mark next : ℕ} → Taken slots last r v mark next → next ≤ r + 1
taken-bound {slots} {last} {r} {v} {mark} t = omega (arith, t.next-is, bit-most (nonzero mark))

-- the same, with the free bits of an equal number
pub as-taken : {slots last : List ℕ} {next after : ℕ} (i : ℕ) (g : Graph) (work : List ℕ) (free : ℕ) → g.free ≡ free
    → Taken slots last next (free - i) (get_or work (16 * (free - i) + 10) 0) after → Taken slots last next (g.free - i) (get_or work (16 * (g.free - i) + 10) 0) after
as-taken {slots} {last} {next} {after} i g work free z t =
    subst (λ (x : ℕ). Taken slots last next (x - i) (get_or work (16 * (x - i) + 10) 0) after) (sym z) t

module _ {work slots last : List ℕ} {g : Graph} {i next after : ℕ} (few : i < g.free)
    (e : Taken slots last next (g.free - i) (get_or work (16 * (g.free - i) + 10) 0) after) where
  pub next_more : {gs : List Pair} {root : ℕ} → Net gs root work g → next ≡ rank (support g.free gs root) i → after ≡ rank (support g.free gs root) (i + 1)
  next_more {gs} {root} net h =
      let s = support g.free gs root in
      let m : nonzero (get_or work (16 * (g.free - i) + 10) 0) ≡ s i = net-mark-is net (g.free - i) (omega (arith, net.sized.leaves)) in
      let q : ◌≡◌ {A = ℕ} (cond (nonzero (get_or work (16 * (g.free - i) + 10) 0)) 1 0) (cond (s i) 1 0) = ap (λ (b : Bool). cond b 1 0) m in
      omega (arith, e.next-is, rank-more s i)

  pub slots-more : ((gs : List Pair) (root : ℕ) → Net gs root work g → next ≡ rank (support g.free gs root) i) → SlotsTo work g slots i → SlotsTo work g last (i + 1)
  slots-more ranks a gs root net j l t u =
      let s = support g.free gs root in
      let r = ranks gs root net in
      elim (ℕ_discrete j i) [
        | yes z ↦
            subst (λ (x : ℕ). get_or last (rank s x) 0 ≡ g.free - x) (sym z)
            (subst (λ (x : ℕ). get_or last x 0 ≡ g.free - i) r
            (e.new (net-marked net (g.free - i) (omega (arith, net.sized.leaves)) (subst (λ (x : ℕ). T (s x)) z t)) (omega (arith, ap (rank s) z))))
        | no z ↦ e.others (rank s j) (λ y. omega (arith, rank_lt s j i t (omega arith))) ∙ a gs root net j (omega arith) t u
      ]

-- ---- the next block

pub carried-half : (block b i : ℕ) → block / 2 ^ i ≡ b → block / 2 ^ (i + 1) ≡ b / 2
carried-half block b i e = sym (shr-shr block i 1) ∙ ap (λ (x : ℕ). x / 2) e

pub carried : (block b i : ℕ) → block / 2 ^ i ≡ b → (block + 1) / 2 ^ i ≡ b + 1 → (b % 2 ≡ 1 → ⊥) → Carried block i
carried block b i e f o =
    let q : (b + 1) / 2 ≡ b / 2 = omega arith in
    record {
      higher = carried-half (block + 1) (b + 1) i f ∙ q ∙ sym (carried-half block b i e);
      bound = elim (dec_lt (block + 1) (2 ^ i)) [ yes h ↦ absurd (omega (arith, div-eq_of_lt h)) | no h ↦ omega arith ];
    }
