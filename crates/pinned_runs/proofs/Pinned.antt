-- Completions under pins, for any pins of the places of a text: which of them obey, and the verdict by a text in which the pins' bits stand.
-- Assumes nothing.
use mathlib.Core.Path.{◌≡◌, refl, sym, ap, ap₂, ◌∙◌, subst}
use mathlib.Core.Bool.{Bool, true, false, not, cond, ◌&&◌}
use mathlib.Core.List.{List, [], ◌∷◌}
use mathlib.Core.Logic.{◌⊎◌, inl, inr, ⊎_elim}
use Prim.Native.Nat.{ℕ, zero, suc, ◌+◌, ◌-◌, ◌≤◌, ◌<◌}
use native.Mathlib.Decide.{ℕ_discrete}
use native.Mathlib.Omega.{arith}
use borrow.Author.Tests.{eq-eqb, ne_eqb, eqb-true, eqb-false, ltb-true, ltb-false}
use lib.Dec.{T, ltb, eqb, eqb→eq}
use lib.ListN.{length, get_or, set, length-set}
use lib.Seq.{get_or-set_same, get_or-set_other}
use Rattle.aiger.proofs.Tests.{T_true, true-T, not_T, not-both}
use Rattle.meaning.proofs.Lists.{eqb_of}
use Rattle.completions.specs.Either.{is_either, eithers, completion, all_pass, none_passes, Verdict, verdict}
use Rattle.completions.specs.Forms.{Bit, Symbol, Completed, Completes, SameForm}
use Rattle.completions.proofs.Completions.{completes, all-at, all_from, none-at, none_from}
use Rattle.completions.proofs.Forms.{completes-form, bit-other}
use Rattle.completions.proofs.Widening.{both_ways}
use Rattle.pins.specs.Pins.{is_held}
use Rattle.pinned_runs.specs.Obeys.{obeys_pin}
use Rattle.pinned_runs.specs.Places.{agrees_at, settled_byte, Settled}

pub true-false : true ≡ false → ⊥
true-false e = subst T e tt

-- u has the pins' bits at the held places
abbrev pub Obeying : (ℕ → ℕ) → List ℕ → Type 0
Obeying P u = (k : ℕ) → T (obeys_pin (P k) (eqb (get_or u k 0) 49))

-- ---- one place

-- a bit that is not the pin's
pub wrong-bit : (p : ℕ) → is_held p ≡ true → Bit (49 - p)
wrong-bit zero h = inr refl
wrong-bit (suc zero) h = inl refl
wrong-bit (suc (suc p)) h = absurd (omega (arith, ltb-true (suc (suc p)) 2 h))

pub wrong-disobeys : (p : ℕ) → is_held p ≡ true → T (obeys_pin p (eqb (49 - p) 49)) → ⊥
wrong-disobeys zero h t = t
wrong-disobeys (suc zero) h t = t
wrong-disobeys (suc (suc p)) h t = omega (arith, ltb-true (suc (suc p)) 2 h)

pub pin-bit : (p : ℕ) → is_held p ≡ true → Bit (48 + p)
pin-bit zero h = inl refl
pin-bit (suc zero) h = inr refl
pin-bit (suc (suc p)) h = absurd (omega (arith, ltb-true (suc (suc p)) 2 h))

pub pin-obeys : (p : ℕ) → is_held p ≡ true → T (obeys_pin p (eqb (48 + p) 49))
pin-obeys zero h = tt
pin-obeys (suc zero) h = tt
pin-obeys (suc (suc p)) h = absurd (omega (arith, ltb-true (suc (suc p)) 2 h))

-- a bit that obeys is the pin's
pub obeys-bit : (p d : ℕ) → is_held p ≡ true → Bit d → T (obeys_pin p (eqb d 49)) → d ≡ 48 + p
obeys-bit zero d h (inl e) t = e
obeys-bit zero d h (inr e) t = absurd (subst (λ (x : ℕ). T (obeys_pin 0 (eqb x 49))) e t)
obeys-bit (suc zero) d h (inl e) t = absurd (subst (λ (x : ℕ). T (obeys_pin 1 (eqb x 49))) e t)
obeys-bit (suc zero) d h (inr e) t = e
obeys-bit (suc (suc p)) d h b t = absurd (omega (arith, ltb-true (suc (suc p)) 2 h))

pub free-obeys : (p : ℕ) (v : Bool) → is_held p ≡ false → T (obeys_pin p v)
free-obeys p v e = rw e tt

-- a byte of a completion obeys where the text's agrees and is no `x`
pub agrees-obeys : (p d e : ℕ) → T (agrees_at false p d) → Completed d e → T (obeys_pin p (eqb e 49))
agrees-obeys p d e t c = go (is_held p) refl (is_either d) refl t
  where
    go : (h : Bool) → is_held p ≡ h → (x : Bool) → is_either d ≡ x → T (cond h (cond x false (eqb p (cond (eqb d 49) 1 0))) true) → T (obeys_pin p (eqb e 49))
    go false q x r s = free-obeys p (eqb e 49) q
    go true q true r s = absurd s
    go true q false r s = rw (q, c.other (eqb-false d 120 r)) s

-- one that obeys agrees, `x` aside
pub obeys-agrees : (p d e : ℕ) → T (obeys_pin p (eqb e 49)) → Completed d e → T (agrees_at true p d)
obeys-agrees p d e t c = go (is_held p) refl (is_either d) refl
  where
    go : (h : Bool) → is_held p ≡ h → (x : Bool) → is_either d ≡ x → T (cond h (cond x true (eqb p (cond (eqb d 49) 1 0))) true)
    go false q x r = tt
    go true q true r = tt
    go true q false r = rw (q, c.other (eqb-false d 120 r)) at t

-- a place that agrees only loosely has `x` at a held place
pub loose-place : (p d : ℕ) → T (agrees_at true p d) → agrees_at false p d ≡ false → (is_held p ≡ true) × (d ≡ 120)
loose-place p d t f = go (is_held p) refl (is_either d) refl t f
  where
    go : (h : Bool) → is_held p ≡ h → (x : Bool) → is_either d ≡ x → T (cond h (cond x true (eqb p (cond (eqb d 49) 1 0))) true)
        → cond h (cond x false (eqb p (cond (eqb d 49) 1 0))) true ≡ false → (is_held p ≡ true) × (d ≡ 120)
    go false q x r s k = absurd (true-false k)
    go true q true r s k = (q, eqb-true d 120 r)
    go true q false r s k = absurd (subst T k s)

-- a byte with the pin's bit for `x`
pub record Placed (p d s : ℕ) : Type 0 where
  pub up : (e : ℕ) → Completed s e → Completed d e
  pub right : T (agrees_at true p d) → (e : ℕ) → Completed s e → T (obeys_pin p (eqb e 49))
  pub down : (e : ℕ) → Completed d e → T (obeys_pin p (eqb e 49)) → Completed s e
  pub symbol : (Symbol d → ⊥) → s ≡ d
  pub bits : Symbol d → Symbol s
  pub few : is_either s ≡ true → is_either d ≡ true

pub placed : (p d s : ℕ) → s ≡ settled_byte p d → Placed p d s
placed p d s z = go (is_held p) refl (is_either d) refl z
  where
    go : (h : Bool) → is_held p ≡ h → (x : Bool) → is_either d ≡ x → s ≡ cond (h && x) (48 + p) d → Placed p d s
    go true q true r z =
        let b : Bit s = subst Bit (sym z) (pin-bit p q) in
        let y : d ≡ 120 = eqb-true d 120 r in
        record {
          up = λ e c. record { either = λ _. subst Bit (sym (c.other (bit-other b))) b; other = λ n. absurd (n y) };
          right = λ t e c. let i : e ≡ 48 + p = c.other (bit-other b) ∙ z in subst (λ (v : ℕ). T (obeys_pin p (eqb v 49))) (sym i) (pin-obeys p q);
          down = λ e c t. record { either = λ n. absurd (bit-other b n); other = λ _. obeys-bit p e q (c.either y) t ∙ sym z };
          symbol = λ n. absurd (n (inr y));
          bits = λ _. inl b;
          few = λ _. r;
        }
    go true q false r z =
        record {
          up = λ e c. subst (λ (v : ℕ). Completed v e) z c;
          right = λ t e c.
              agrees-obeys p d e (strict q r t) (subst (λ (v : ℕ). Completed v e) z c);
          down = λ e c t. subst (λ (v : ℕ). Completed v e) (sym z) c;
          symbol = λ n. z;
          bits = λ b. subst Symbol (sym z) b;
          few = λ f. ap is_either (sym z) ∙ f;
        }
      where
        strict : is_held p ≡ true → is_either d ≡ false → T (agrees_at true p d) → T (agrees_at false p d)
        strict q r t = rw (q, r) (rw (q, r) at t)
    go false q x r z =
        record {
          up = λ e c. subst (λ (v : ℕ). Completed v e) z c;
          right = λ t e c. free-obeys p (eqb e 49) q;
          down = λ e c t. subst (λ (v : ℕ). Completed v e) (sym z) c;
          symbol = λ n. z;
          bits = λ b. subst Symbol (sym z) b;
          few = λ f. ap is_either (sym z) ∙ f;
        }

-- ---- texts

module _ (P : ℕ → ℕ) (w : List ℕ) where
  -- a completion with another bit in place of an `x`
  pub completes-set : {u : List ℕ} (k d : ℕ) → get_or w k 0 ≡ 120 → k < length w → Bit d → Completes w u → Completes w (set u k d)
  completes-set {u} k d x l b h =
      record {
        size = length-set u k d ∙ h.size;
        at = λ j.
            elim (ℕ_discrete j k) [
              | yes e ↦
                  let y : get_or (set u k d) j 0 ≡ d = ap (λ (i : ℕ). get_or (set u k d) i 0) e ∙ get_or-set_same u k d 0 (omega (arith, h.size)) in
                  record { either = λ _. subst Bit (sym y) b; other = λ n. absurd (n (ap (λ (i : ℕ). get_or w i 0) e ∙ x)) }
              | no n ↦ subst (Completed (get_or w j 0)) (sym (get_or-set_other u k j d 0 n)) (h.at j)
            ];
      }

  -- a completion that does not obey, where `x` stands at a held place
  pub disobeying : (k : ℕ) → is_held (P k) ≡ true → get_or w k 0 ≡ 120 → k < length w → (u : List ℕ) × Completes w u × (Obeying P u → ⊥)
  disobeying k h x l =
      let p : ℕ = P k in
      let u : List ℕ = completion 0 w in
      let v : List ℕ = set u k (49 - p) in
      let q : Completes w v = completes-set k (49 - p) x l (wrong-bit p h) (completes 0 w) in (
        v,
        q,
        λ o.
            wrong-disobeys p h
            (subst (λ (d : ℕ). T (obeys_pin p (eqb d 49))) (get_or-set_same u k (49 - p) 0 (omega (arith, (completes 0 w).size))) (o k)),
      )

  pub exact-obeying : ((k : ℕ) → T (agrees_at false (P k) (get_or w k 0))) → (u : List ℕ) → Completes w u → Obeying P u
  exact-obeying a u h k = agrees-obeys (P k) (get_or w k 0) (get_or u k 0) (a k) (h.at k)

  pub clash : (k : ℕ) → agrees_at true (P k) (get_or w k 0) ≡ false → (u : List ℕ) → Completes w u → Obeying P u → ⊥
  clash k f u h o = subst T f (obeys-agrees (P k) (get_or w k 0) (get_or u k 0) (o k) (h.at k))

  module _ {s : List ℕ} (S : Settled P w s) where
    pl : (k : ℕ) → Placed (P k) (get_or w k 0) (get_or s k 0)
    pl k = placed (P k) (get_or w k 0) (get_or s k 0) (S.at k)

    pub settled_up : {u : List ℕ} → Completes s u → Completes w u
    settled_up {u} h = record { size = h.size ∙ S.size; at = λ k. (pl k).up (get_or u k 0) (h.at k) }

    pub settled-obeying : ((k : ℕ) → T (agrees_at true (P k) (get_or w k 0))) → {u : List ℕ} → Completes s u → Obeying P u
    settled-obeying a {u} h k = (pl k).right (a k) (get_or u k 0) (h.at k)

    pub settled-down : {u : List ℕ} → Completes w u → Obeying P u → Completes s u
    settled-down {u} h o = record { size = h.size ∙ sym S.size; at = λ k. (pl k).down (get_or u k 0) (h.at k) (o k) }

    pub settled-form : {u : List ℕ} → SameForm s u → SameForm w u
    settled-form {u} h =
        record {
          size = h.size ∙ S.size;
          at = λ k. record {
            symbol = λ b. (h.at k).symbol ((pl k).bits b);
            other = λ n. let e = (pl k).symbol n in (h.at k).other (λ b. n (subst Symbol e b)) ∙ e;
          };
        }

-- how many `x` a text holds that has them where another has
pub eithers-fewer : (s w : List ℕ) → length s ≡ length w → ((k : ℕ) → is_either (get_or s k 0) ≡ true → is_either (get_or w k 0) ≡ true) → eithers s ≤ eithers w
eithers-fewer [] w e h = omega arith
eithers-fewer (c ∷ s) [] e h = absurd (omega arith)
eithers-fewer (c ∷ s) (d ∷ w) e h = go (is_either c) refl (is_either d) refl (eithers-fewer s w (omega arith) (λ k. h (suc k)))
  where
    go : (a : Bool) → is_either c ≡ a → (b : Bool) → is_either d ≡ b → eithers s ≤ eithers w → cond {A = ℕ} a 1 0 + eithers s ≤ cond {A = ℕ} b 1 0 + eithers w
    go true q true r i = omega arith
    go true q false r i = absurd (true-false (sym (h 0 q) ∙ r))
    go false q true r i = omega arith
    go false q false r i = omega arith

pub settled-few : (P : ℕ → ℕ) (w : List ℕ) {s : List ℕ} → Settled P w s → eithers s ≤ eithers w
settled-few P w {s} S = eithers-fewer s w S.size (λ k. (placed (P k) (get_or w k 0) (get_or s k 0) (S.at k)).few)
