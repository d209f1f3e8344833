-- Levels over many runs: of one word, and of two groups. Assumes nothing.
use mathlib.Core.Path.{◌≡◌, refl, sym, ap, ap₂, ◌∙◌, subst}
use mathlib.Core.Bool.{Bool, true, false, not, cond, ◌&&◌}
use Prim.Native.Nat.{ℕ, zero, suc, ◌+◌, ◌-◌, ◌%◌, ◌^◌, ◌≤◌, ◌<◌}
use native.Mathlib.Decide.{dec_lt}
use native.Mathlib.Omega.{arith}
use borrow.Author.Tests.{eq-eqb, ne_eqb}
use mir.Val.{bool_byte}
use lib.Dec.{T, eqb}
use Rattle.aiger.specs.Bits.{bit}
use Rattle.aiger.specs.Lists.{every_below}
use Rattle.aiger.proofs.Tests.{and_left, and_right, and, true-T, T_true, not-both, below_at, below_all}
use Rattle.words.proofs.Bits.{bit-none, bit-all, bits-equal}
use Rattle.vcd.specs.Text.{Level, level_byte}
use Rattle.levels.specs.Levels.{level_over, joined, after, after_byte}

-- ---- two tests that hold of the same things are one

pub same_test : (a b : Bool) → (T a → T b) → (T b → T a) → a ≡ b
same_test true true f g = refl
same_test true false f g = absurd (f tt)
same_test false true f g = absurd (g tt)
same_test false false f g = refl

fails : (a : Bool) → (T a → ⊥) → a ≡ false
fails true f = absurd (f tt)
fails false f = refl

-- ---- the level, by what holds of the runs

module _ (n : ℕ) (p : ℕ → Bool) where
  abbrev flip : ℕ → Bool
  flip v = not (p v)

  pub over-high : ((v : ℕ) → v < n → p v ≡ true) → level_over n p ≡ Level.high
  unfolding level_over
  over-high h = rw (true-T (every_below n p) (below_all n p (λ v l. T_true (h v l))))

  pub over-low : 0 < n → ((v : ℕ) → v < n → p v ≡ false) → level_over n p ≡ Level.low
  unfolding level_over
  over-low o h =
      rw (
        fails (every_below n p) (λ t. subst T (h 0 o) (below_at n p t 0 o)),
        true-T (every_below n flip) (below_all n flip (λ v l. T_true (ap not (h v l)))),
      )

  pub over-either : (T (every_below n p) → ⊥) → (T (every_below n flip) → ⊥) → level_over n p ≡ Level.either
  unfolding level_over
  over-either f g = rw (fails (every_below n p) f, fails (every_below n flip) g)

  -- not both of all and none, where there is a run
  pub all-or-none : 0 < n → T (every_below n p) → T (every_below n flip) → ⊥
  all-or-none o s t = not-both (p 0) (below_at n flip t 0 o) (below_at n p s 0 o)

-- runs of the same values have the same level
pub over-same : (n : ℕ) (p q : ℕ → Bool) → ((v : ℕ) → v < n → p v ≡ q v) → level_over n p ≡ level_over n q
unfolding level_over
over-same n p q h =
    let a : every_below n p ≡ every_below n q =
    same_test (every_below n p) (every_below n q) (λ t. below_all n q (λ v l. subst T (h v l) (below_at n p t v l)))
    (λ t. below_all n p (λ v l. subst T (sym (h v l)) (below_at n q t v l))) in
    let b : every_below n (λ v. not (p v)) ≡ every_below n (λ v. not (q v)) =
    same_test (every_below n (λ v. not (p v))) (every_below n (λ v. not (q v)))
    (λ t. below_all n (λ v. not (q v)) (λ v l. subst T (ap not (h v l)) (below_at n (λ x. not (p x)) t v l)))
    (λ t. below_all n (λ v. not (p v)) (λ v l. subst T (ap not (sym (h v l))) (below_at n (λ x. not (q x)) t v l))) in
    ap₂ (λ (x y : Bool). cond x Level.high (cond y Level.low Level.either)) a b

-- ---- two groups of runs

every-add : (n m : ℕ) (p : ℕ → Bool) → every_below (n + m) p ≡ (every_below n p && every_below m (λ v. p (n + v)))
every-add n m p =
    let shifted : ℕ → Bool = λ v. p (n + v) in
    same_test (every_below (n + m) p) (every_below n p && every_below m shifted)
    (λ t.
    and (every_below n p) (every_below m shifted) (below_all n p (λ v l. below_at (n + m) p t v (omega arith)))
    (below_all m shifted (λ v l. below_at (n + m) p t (n + v) (omega arith))))
    (λ t.
    below_all (n + m) p
    (λ v l.
    elim (dec_lt v n) [
      | yes k ↦ below_at n p (and_left (every_below n p) (every_below m shifted) t) v k
      | no k ↦
          let e : n + (v - n) ≡ v = omega arith in
          subst (λ (x : ℕ). T (p x)) e (below_at m shifted (and_right (every_below n p) (every_below m shifted) t) (v - n) (omega arith))
    ]))

abbrev of : Bool → Bool → Level
of a b = cond a Level.high (cond b Level.low Level.either)

both : (a b d e : Bool) → (T a → T b → ⊥) → (T d → T e → ⊥) → of (a && d) (b && e) ≡ joined (of a b) (of d e)
both true true d e f g = absurd (f tt tt)
both true false true true f g = absurd (g tt tt)
both true false true false f g = refl
both true false false true f g = refl
both true false false false f g = refl
both false true true true f g = absurd (g tt tt)
both false true true false f g = refl
both false true false true f g = refl
both false true false false f g = refl
both false false true e f g = refl
both false false false e f g = refl

pub over-joined : (n m : ℕ) (p : ℕ → Bool) → 0 < n → 0 < m → level_over (n + m) p ≡ joined (level_over n p) (level_over m (λ v. p (n + v)))
unfolding level_over
over-joined n m p h k =
    ap₂ of (every-add n m p) (every-add n m (λ v. not (p v)))
    ∙ both (every_below n p) (every_below n (λ v. not (p v))) (every_below m (λ v. p (n + v))) (every_below m (λ v. not (p (n + v))))
    (all-or-none n p h)
    (all-or-none m (λ v. p (n + v)) k)

-- ---- the level of a word

module _ (x : ℕ) where
  -- the values of a literal with sign b of a variable with word x
  abbrev pub signed : Bool → ℕ → Bool
  signed b p = cond b (not (bit x p)) (bit x p)

  pub zero_word : (b : Bool) → x ≡ 0 → 48 + bool_byte b ≡ level_byte (level_over 64 (signed b))
  unfolding level_byte
  zero_word false e = ap level_byte (sym (over-low 64 (signed false) (omega arith) (λ p l. rw e (bit-none p))))
  zero_word true e = ap level_byte (sym (over-high 64 (signed true) (λ p l. rw e (ap not (bit-none p)))))

  pub full-word : (b : Bool) → x ≡ 18446744073709551615 → 49 - bool_byte b ≡ level_byte (level_over 64 (signed b))
  unfolding level_byte
  full-word false e = ap level_byte (sym (over-high 64 (signed false) (λ p l. rw e (bit-all 64 p l))))
  full-word true e = ap level_byte (sym (over-low 64 (signed true) (omega arith) (λ p l. rw e (ap not (bit-all 64 p l)))))

  not-false : (b : Bool) → T (not b) → b ≡ false
  not-false true t = absurd t
  not-false false t = refl

  no_ones : x < 2 ^ 64 → (x ≡ 0 → ⊥) → T (every_below 64 (λ p. not (bit x p))) → ⊥
  no_ones h n t =
      n (bits-equal 64 x 0 h (omega arith) (λ p l. not-false (bit x p) (below_at 64 (λ v. not (bit x v)) t p l) ∙ sym (bit-none p)))

  no-zeros : x < 2 ^ 64 → (x ≡ 18446744073709551615 → ⊥) → T (every_below 64 (bit x)) → ⊥
  no-zeros h n t =
      n (bits-equal 64 x 18446744073709551615 h (omega arith)
      (λ p l. true-T (bit x p) (below_at 64 (bit x) t p l) ∙ sym (bit-all 64 p l)))

  twice : (b : Bool) → not (not b) ≡ b
  twice true = refl
  twice false = refl

  pub other_word : (b : Bool) → x < 2 ^ 64 → (x ≡ 0 → ⊥) → (x ≡ 18446744073709551615 → ⊥) → 120 ≡ level_byte (level_over 64 (signed b))
  unfolding level_byte
  other_word false h n k = ap level_byte (sym (over-either 64 (signed false) (no-zeros h k) (no_ones h n)))
  other_word true h n k =
      ap level_byte
      (sym (over-either 64 (signed true) (no_ones h n)
      (λ t. no-zeros h k (below_all 64 (bit x) (λ p l. subst T (twice (bit x p)) (below_at 64 (λ v. not (not (bit x v))) t p l))))))

-- ---- the level after a block, by its character

bytes-joined : (f g : Level) → cond (eqb (level_byte f) (level_byte g)) (level_byte g) 120 ≡ level_byte (joined f g)
unfolding level_byte
bytes-joined Level.low Level.low = refl
bytes-joined Level.low Level.high = refl
bytes-joined Level.low Level.either = refl
bytes-joined Level.high Level.low = refl
bytes-joined Level.high Level.high = refl
bytes-joined Level.high Level.either = refl
bytes-joined Level.either Level.low = refl
bytes-joined Level.either Level.high = refl
bytes-joined Level.either Level.either = refl

module _ (block old new : ℕ) where
  pub first_byte : block ≡ 0 → new ≡ after_byte block old new
  first_byte e = rw (eq-eqb block 0 e)

  pub same_byte : (block ≡ 0 → ⊥) → old ≡ new → new ≡ after_byte block old new
  same_byte h e = rw (ne_eqb block 0 h, eq-eqb old new e)

  pub other_byte : (block ≡ 0 → ⊥) → (old ≡ new → ⊥) → 120 ≡ after_byte block old new
  other_byte h e = rw (ne_eqb block 0 h, ne_eqb old new e)

-- characters of levels give the character of the level over both
pub after-byte : (block : ℕ) {old new : ℕ} (f g : Level) → (0 < block → old ≡ level_byte f) → new ≡ level_byte g
    → after_byte block old new ≡ level_byte (after block f g)
after-byte zero f g o n = n
after-byte (suc block) f g o n =
    rw (ne_eqb (suc block) 0 (λ e. omega arith)) (ap₂ (λ (x y : ℕ). cond (eqb x y) y 120) (o (omega arith)) n ∙ bytes-joined f g)
