-- What the functions answer about one byte, and the bodies that they go through byte by byte. Assumes nothing.
use mathlib.Core.Path.{◌≡◌, refl, sym, ap, ap₂, ◌∙◌, subst}
use mathlib.Core.Bool.{Bool, true, false, cond, ◌&&◌}
use mathlib.Core.List.{List, [], ◌∷◌}
use Prim.Native.Nat.{ℕ, zero, suc, ◌+◌, ◌-◌, ◌*◌, ◌%◌, ◌≤◌, ◌<◌}
use native.Mathlib.Nat.{mul-le-mul_left, mul-le-mul_right}
use native.Mathlib.Decide.{dec_lt, ℕ_discrete}
use native.Mathlib.Omega.{arith}
use borrow.Author.Tests.{le-leb, lt-leb, lt-ltb, le-ltb, eq-eqb, ne_eqb}
use lib.Dec.{T, leb, ltb, eqb}
use lib.ListN.{length, get_or, set, take, drop, length-set}
use lib.Seq.{get_or-set_same, get_or-set_other, get_or-take, length-take-le, drop-set-lt}
use Rattle.aiger.specs.Lists.{every_below}
use Rattle.aiger.proofs.Tests.{below_at, below_all, T_true, true-T}
use Rattle.completions.specs.Either.{is_either}
use Rattle.completions.proofs.Widening.{both_ways}
use Rattle.pins.specs.Pins.{is_held}
use Rattle.pinned_runs.specs.Places.{place_pin, agrees_at, settled_byte, Settled}

-- ---- the pin of a place

module _ (q : ℕ → ℕ) (first n end k : ℕ) where
  and-false : (a b c : Bool) → b ≡ false → (a && b && c) ≡ false
  and-false true b c e = rw e
  and-false false b c e = refl

  last-false : (a b : Bool) → b ≡ false → (a && b) ≡ false
  last-false true b e = e
  last-false false b e = refl

  pub place-before : k < first → 2 ≡ place_pin q first n end k
  unfolding place_pin
  place-before h = rw (lt-leb first k h)

  pub place_after : end ≤ k → 2 ≡ place_pin q first n end k
  unfolding place_pin
  place_after h =
      sym (ap (λ (b : Bool). cond b (q ((k - first) % (n + 1))) 2) (and-false (leb first k) (ltb k end) (ltb ((k - first) % (n + 1)) n) (le-ltb k end h)))

  pub place_end : n ≤ (k - first) % (n + 1) → 2 ≡ place_pin q first n end k
  unfolding place_pin
  place_end h =
      sym (ap (λ (b : Bool). cond b (q ((k - first) % (n + 1))) 2) (last-false (leb first k && ltb k end) (ltb ((k - first) % (n + 1)) n) (le-ltb ((k - first) % (n + 1)) n h)))

  pub place_in : first ≤ k → k < end → (k - first) % (n + 1) < n → place_pin q first n end k ≡ q ((k - first) % (n + 1))
  unfolding place_pin
  place_in a b h = rw (le-leb first k a, lt-ltb k end b, lt-ltb ((k - first) % (n + 1)) n h)

pub get_d_any : (l : List ℕ) (i d e : ℕ) → i < length l → get_or l i d ≡ get_or l i e
get_d_any [] i d e h = absurd (omega arith)
get_d_any (x ∷ xs) zero d e h = refl
get_d_any (x ∷ xs) (suc i) d e h = get_d_any xs i d e (omega arith)

pub get_d_past : (l : List ℕ) (i d : ℕ) → length l ≤ i → get_or l i d ≡ d
get_d_past [] i d h = refl
get_d_past (x ∷ xs) zero d h = absurd (omega arith)
get_d_past (x ∷ xs) (suc i) d h = get_d_past xs i d (omega arith)

-- ---- a byte and its pin

module _ (loose : Bool) (p d : ℕ) where
  pub agree-free : 1 < p → true ≡ agrees_at loose p d
  agree-free h = rw (le-ltb p 2 h)

  pub agree-either : p ≤ 1 → d ≡ 120 → loose ≡ agrees_at loose p d
  agree-either h e = rw (lt-ltb p 2 (omega arith), eq-eqb d 120 e)

  pub agree-one : p ≤ 1 → (d ≡ 120 → ⊥) → d ≡ 49 → eqb p 1 ≡ agrees_at loose p d
  agree-one h n e = rw (lt-ltb p 2 (omega arith), ne_eqb d 120 n, eq-eqb d 49 e)

  pub agree-zero : p ≤ 1 → (d ≡ 120 → ⊥) → (d ≡ 49 → ⊥) → eqb p 0 ≡ agrees_at loose p d
  agree-zero h n e = rw (lt-ltb p 2 (omega arith), ne_eqb d 120 n, ne_eqb d 49 e)

module _ (p d : ℕ) where
  pub settle-free : 1 < p → d ≡ settled_byte p d
  settle-free h = rw (le-ltb p 2 h)

  pub settle-either : p ≤ 1 → d ≡ 120 → 48 + p ≡ settled_byte p d
  settle-either h e = rw (lt-ltb p 2 (omega arith), eq-eqb d 120 e)

  pub settle_other : (d ≡ 120 → ⊥) → d ≡ settled_byte p d
  settle_other n = sym (ap (λ (b : Bool). cond b (48 + p) d) (last-false' (is_held p) (is_either d) (ne_eqb d 120 n)))
    where
      last-false' : (a b : Bool) → b ≡ false → (a && b) ≡ false
      last-false' true b e = e
      last-false' false b e = refl

-- ---- all bytes

pub below_more : (f : ℕ → Bool) (k : ℕ) → ((j : ℕ) → j < k → T (f j)) → T (f k) → (j : ℕ) → j < k + 1 → T (f j)
below_more f k h t j l =
    elim (ℕ_discrete j k) [
      | yes e ↦ subst (λ (i : ℕ). T (f i)) (sym e) t
      | no n ↦ h j (omega arith)
    ]

pub below_true : (f : ℕ → Bool) (n k : ℕ) → ((j : ℕ) → j < k → T (f j)) → n ≤ k → true ≡ every_below n f
below_true f n k h l = sym (true-T (every_below n f) (below_all n f (λ j i. h j (omega arith))))

pub below_false : (f : ℕ → Bool) (n k : ℕ) → k < n → f k ≡ false → false ≡ every_below n f
below_false f n k l e = sym (both_ways (every_below n f) false (λ t. subst T e (below_at n f t k l)) (λ t. absurd t))

-- the first k bytes are those of w, settled, and the others are as they were
pub record Begun (P : ℕ → ℕ) (w copy left : List ℕ) (k : ℕ) : Type 0 where
  pub size : length left ≡ length copy
  pub done : (j : ℕ) → j < k → get_or left j 0 ≡ settled_byte (P j) (get_or w j 0)
  pub rest : (n : ℕ) → k ≤ n → drop n left ≡ drop n copy

pub begun-none : (P : ℕ → ℕ) (w copy : List ℕ) → Begun P w copy copy 0
begun-none P w copy = record { size = refl; done = λ j l. absurd (omega arith); rest = λ n l. refl }

pub begun_more : (P : ℕ → ℕ) (w copy left : List ℕ) (k x : ℕ) → Begun P w copy left k → k < length copy → x ≡ settled_byte (P k) (get_or w k 0)
    → Begun P w copy (set left k x) (k + 1)
begun_more P w copy left k x b l e =
    record {
      size = length-set left k x ∙ b.size;
      done = λ j h.
          elim (ℕ_discrete j k) [
            | yes z ↦
                ap (λ (i : ℕ). get_or (set left k x) i 0) z ∙ get_or-set_same left k x 0 (omega (arith, b.size)) ∙ e
                ∙ sym (ap (λ (i : ℕ). settled_byte (P i) (get_or w i 0)) z)
            | no n ↦ get_or-set_other left k j x 0 n ∙ b.done j (omega arith)
          ];
      rest = λ n h. drop-set-lt n left k x (omega arith) ∙ b.rest n (omega arith);
    }

pub begun_all : (P : ℕ → ℕ) (w copy left : List ℕ) (k : ℕ) → Begun P w copy left k → length w ≤ k → length w ≤ length copy → Settled P w (take (length w) left)
begun_all P w copy left k b l h =
    let n : length (take (length w) left) ≡ length w = length-take-le (length w) left (omega (arith, b.size)) in
    record {
      size = n;
      at = λ j.
          elim (dec_lt j (length w)) [
            | yes i ↦ get_or-take (length w) left j 0 i ∙ b.done j (omega arith)
            | no i ↦
                get_d_past (take (length w) left) j 0 (omega arith) ∙ sym (get_d_past w j 0 (omega arith))
                ∙ settle_other (P j) (get_or w j 0) (zero-not (get_d_past w j 0 (omega arith)))
          ];
    }
  where
    zero-not : {x : ℕ} → x ≡ 0 → x ≡ 120 → ⊥
    zero-not a b = omega arith

-- ---- the rows of a body

pub rows-most : (frames inputs : ℕ) → frames ≤ 256 → inputs ≤ 256 → frames * (inputs + 1) ≤ 65792
rows-most frames inputs h l =
    let a : frames * (inputs + 1) ≤ 256 * (inputs + 1) = mul-le-mul_right {m = frames} {n = 256} (inputs + 1) h in
    omega (arith, a)
