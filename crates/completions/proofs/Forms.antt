-- Completions and texts of the same form, where one byte changes. Assumes nothing.
use mathlib.Core.Path.{◌≡◌, refl, sym, ap, ◌∙◌, subst}
use mathlib.Core.Bool.{Bool, true, false, cond, ◌||◌, or-true}
use mathlib.Core.List.{List, [], ◌∷◌}
use mathlib.Core.Logic.{◌⊎◌, inl, inr, ⊎_elim}
use Prim.Native.Nat.{ℕ, zero, suc, ◌+◌, ◌-◌, ◌≤◌, ◌<◌}
use native.Mathlib.Nat.{not-suc-le-zero, le_of_suc-le-suc}
use native.Mathlib.Decide.{dec_lt, ℕ_discrete}
use native.Mathlib.Omega.{arith}
use borrow.Author.Tests.{eq-eqb, ne_eqb, eqb-true, eqb-false}
use lib.Dec.{eqb}
use lib.ListN.{length, get_or, set, length-set, get_or-eq_default}
use lib.Seq.{get_or-set_same, get_or-set_other, set-get_or}
use Rattle.completions.specs.Either.{is_either, eithers, is_bit}
use Rattle.completions.specs.Forms.{Bit, Symbol, is_symbol, Completed, Completes, Formed, SameForm}

-- ---- bits and `x`

pub bit-other : {c : ℕ} → Bit c → c ≡ 120 → ⊥
bit-other (inl e) q = omega arith
bit-other (inr e) q = omega arith

pub bit_test : (c : ℕ) → Bit c → is_bit c ≡ true
bit_test c (inl e) = rw e
bit_test c (inr e) = rw e

pub test_bit : (c : ℕ) → is_bit c ≡ true → Bit c
test_bit c e = go (eqb c 48) refl (eqb c 49) refl
  where
    go : (a : Bool) → eqb c 48 ≡ a → (b : Bool) → eqb c 49 ≡ b → Bit c
    go true p b q = inl (eqb-true c 48 p)
    go false p true q = inr (eqb-true c 49 q)
    go false p false q = let z : ◌≡◌ {A = Bool} false true = (rw (p, q) at e) in let y : ◌≡◌ {A = ℕ} 0 1 = cc in absurd (omega arith)

pub symbol-test : (c : ℕ) → is_symbol c ≡ true → Symbol c
symbol-test c e = go (is_bit c) refl (is_either c) refl
  where
    go : (a : Bool) → is_bit c ≡ a → (b : Bool) → is_either c ≡ b → Symbol c
    go true p b q = inl (test_bit c p)
    go false p true q = inr (eqb-true c 120 q)
    go false p false q = let z : ◌≡◌ {A = Bool} false true = (rw (p, q) at e) in let y : ◌≡◌ {A = ℕ} 0 1 = cc in absurd (omega arith)

pub not-symbol : (c : ℕ) → is_symbol c ≡ false → Symbol c → ⊥
not-symbol c e (inl b) = let z : ◌≡◌ {A = Bool} true false = (rw (bit_test c b) at e) in let y : ◌≡◌ {A = ℕ} 0 1 = cc in omega arith
not-symbol c e (inr q) =
    let z : ◌≡◌ {A = Bool} true false = sym (or-true (is_bit c)) ∙ ap (λ (b : Bool). is_bit c || b) (sym (eq-eqb c 120 q)) ∙ e in
    let y : ◌≡◌ {A = ℕ} 0 1 = cc in
    omega arith

pub symbol? : (c : ℕ) → Dec (Symbol c)
symbol? c = go (is_symbol c) refl
  where
    go : (b : Bool) → is_symbol c ≡ b → Dec (Symbol c)
    go true e = yes (symbol-test c e)
    go false e = no (not-symbol c e)

-- the other bit
pub other-bit : (c : ℕ) → Bit c → Bit (97 - c)
other-bit c (inl e) = inr (omega arith)
other-bit c (inr e) = inl (omega arith)

-- two bits are the same or the one is the other one
pub two-bits : (c d : ℕ) → Bit c → Bit d → (d ≡ c) ⊎ (d ≡ 97 - c)
two-bits c d (inl e) (inl q) = inl (omega arith)
two-bits c d (inl e) (inr q) = inr (omega arith)
two-bits c d (inr e) (inl q) = inr (omega arith)
two-bits c d (inr e) (inr q) = inl (omega arith)

-- what is not 0 stands within a text
pub bit-inside : (w : List ℕ) (i : ℕ) → Bit (get_or w i 0) → i < length w
bit-inside w i b =
    elim (dec_lt i (length w)) [
      | yes l ↦ l
      | no n ↦
          let z : get_or w i 0 ≡ 0 = get_or-eq_default w 0 {n = i} (omega arith) in
          absurd (⊎_elim (λ e. omega arith) (λ e. omega arith) b)
    ]

-- ---- a completion has the form of its text

formed : {c d : ℕ} → Completed c d → Formed c d
formed {c} {d} h =
    record {
      symbol = λ s. ⊎_elim (λ b. subst Bit (sym (h.other (bit-other b))) b) (λ e. h.either e) s;
      other = λ n. h.other (λ e. n (inr e));
    }

pub completes-form : {w u : List ℕ} → Completes w u → SameForm w u
completes-form h = record { size = h.size; at = λ i. formed (h.at i) }

-- ---- one byte changed

module _ (w : List ℕ) (i : ℕ) where
  -- what holds of the new byte at i, and of the old ones elsewhere, holds after the store
  after_store : (P : ℕ → ℕ → Type 0) (x : ℕ) → i < length w → P i x → ((j : ℕ) → (j ≡ i → ⊥) → P j (get_or w j 0)) → (j : ℕ) → P j (get_or (set w i x) j 0)
  after_store P x l new old j =
      elim (ℕ_discrete j i) [
        | yes e ↦ subst (λ (k : ℕ). P k (get_or (set w i x) k 0)) (sym e) (subst (P i) (sym (get_or-set_same w i x 0 l)) new)
        | no n ↦ subst (P j) (sym (get_or-set_other w i j x 0 n)) (old j n)
      ]

  -- the same the other way round
  before-store : (P : ℕ → ℕ → Type 0) (x : ℕ) → P i (get_or w i 0) → ((j : ℕ) → P j (get_or (set w i x) j 0)) → (j : ℕ) → P j (get_or w j 0)
  before-store P x here h j =
      elim (ℕ_discrete j i) [
        | yes e ↦ subst (λ (k : ℕ). P k (get_or w k 0)) (sym e) here
        | no n ↦ subst (P j) (get_or-set_other w i j x 0 n) (h j)
      ]

  -- a text keeps its form where a bit or `x` takes the place of another
  pub form-set : (x : ℕ) {u : List ℕ} → i < length w → Symbol (get_or w i 0) → Symbol x → SameForm (set w i x) u → SameForm w u
  form-set x {u} l s y h =
      record {
        size = h.size ∙ length-set w i x;
        at = before-store (λ j c. Formed c (get_or u j 0)) x
            (record {
              symbol = λ _. (h.at i).symbol (subst Symbol (sym (get_or-set_same w i x 0 l)) y);
              other = λ n. absurd (n s);
            })
            h.at;
      }

  -- a completion is one of the text that has `x` for a bit
  pub completes-either : {u : List ℕ} → Bit (get_or w i 0) → Completes w u → Completes (set w i 120) u
  completes-either {u} b h =
      record {
        size = h.size ∙ sym (length-set w i 120);
        at = after_store (λ j c. Completed c (get_or u j 0)) 120 (bit-inside w i b)
            (record {
              either = λ _. subst Bit (sym ((h.at i).other (bit-other b))) b;
              other = λ n. absurd (n refl);
            })
            (λ j _. h.at j);
      }

  -- and the other way round, of the text that has the completion's own byte there
  pub completes-fixed : {u : List ℕ} → i < length w → Completes (set w i 120) u → Completes (set w i (get_or u i 0)) u
  completes-fixed {u} l h =
      let d : ℕ = get_or u i 0 in
      let b : Bit d = (h.at i).either (get_or-set_same w i 120 0 l) in
      record {
        size = h.size ∙ length-set w i 120 ∙ sym (length-set w i d);
        at = after_store (λ j c. Completed c (get_or u j 0)) d l
            (record { either = λ e. absurd (bit-other b e); other = λ n. refl })
            (λ j n. subst (λ (c : ℕ). Completed c (get_or u j 0)) (get_or-set_other w i j 120 0 n) (h.at j));
      }

  -- the completions of a text with `x` at i have there the one bit or the other
  pub either-bit : {u : List ℕ} → Bit (get_or w i 0) → Completes (set w i 120) u → Completes w u ⊎ Completes (set w i (97 - get_or w i 0)) u
  either-bit {u} b h =
      let l : i < length w = bit-inside w i b in
      let q : Completes (set w i (get_or u i 0)) u = completes-fixed l h in
      ⊎_elim
      (λ e. inl (subst (λ (x : List ℕ). Completes x u) (ap (set w i) e ∙ set-get_or w i 0) q))
      (λ e. inr (subst (λ (x : List ℕ). Completes x u) (ap (set w i) e) q))
      (two-bits (get_or w i 0) (get_or u i 0) b ((h.at i).either (get_or-set_same w i 120 0 l)))

-- ---- how many `x`

pub eithers-set : (w : List ℕ) (i : ℕ) → Bit (get_or w i 0) → eithers (set w i 120) ≡ eithers w + 1
eithers-set [] i b = absurd (⊎_elim (λ e. omega arith) (λ e. omega arith) b)
eithers-set (c ∷ w) zero b = rw (ne_eqb c 120 (bit-other b)) (omega arith)
eithers-set (c ∷ w) (suc i) b = omega (arith, eithers-set w i b)

pub eithers-bit : (w : List ℕ) (i x : ℕ) → Bit (get_or w i 0) → Bit x → eithers (set w i x) ≡ eithers w
eithers-bit [] i x b y = refl
eithers-bit (c ∷ w) zero x b y = rw (ne_eqb c 120 (bit-other b), ne_eqb x 120 (bit-other y))
eithers-bit (c ∷ w) (suc i) x b y = ap (λ (n : ℕ). cond {A = ℕ} (is_either c) 1 0 + n) (eithers-bit w i x b y)

-- ---- bytes of a text of the same form

module _ {w u : List ℕ} (h : SameForm w u) (i : ℕ) where
  -- a byte that is no bit and no `x`
  pub form-other : {x : ℕ} → (Symbol x → ⊥) → get_or w i 0 ≡ x → get_or u i 0 ≡ x
  form-other n e = (h.at i).other (λ s. n (subst Symbol e s)) ∙ e

  pub form-not : {x : ℕ} → (Bit x → ⊥) → (get_or w i 0 ≡ x → ⊥) → get_or u i 0 ≡ x → ⊥
  form-not n d e =
      elim (symbol? (get_or w i 0)) [
        | yes s ↦ n (subst Bit e ((h.at i).symbol s))
        | no q ↦ d (sym ((h.at i).other q) ∙ e)
      ]
