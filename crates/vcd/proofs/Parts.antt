-- The parts of a dump: one line or one sample more, and their lengths. Assumes nothing.
use mathlib.Core.Path.{◌≡◌, refl, ap, ◌∙◌}
use mathlib.Core.List.{List, [], ◌∷◌, ◌++◌}
use Prim.Native.Nat.{ℕ, zero, suc, ◌+◌, ◌-◌, ◌*◌, ◌≤◌, ◌<◌}
use native.Mathlib.Numerals.{add-one}
use native.Mathlib.Omega.{arith}
use lib.ListN.{length, length-append}
use Rattle.aiger.specs.Text.{bytes, digits}
use Rattle.numbers.proofs.Digits.{digits-most}
use Rattle.vcd.specs.declared.Name.{Name}
use Rattle.vcd.specs.Text.{Level, level_byte, identifier, declaration, declarations, opening, closing, header}
use Rattle.vcd.specs.Text.{time_mark, value_with, value_line, value_lines, sample, samples, dump}

-- ---- declarations

pub declaration-length : (k : ℕ) (n : Name) → length (declaration k n) ≡ 22 + length (digits n.index)
unfolding declaration identifier
declaration-length k n = simp length-append (omega arith)

module _ (name : ℕ → Name) where
  pub declarations-more : (k n : ℕ) → 0 < n → declarations name k n ≡ declaration k (name k) ++ declarations name (k + 1) (n - 1)
  unfolding declarations
  declarations-more k zero h = absurd (omega arith)
  declarations-more k (suc n) h = let e : suc n - 1 ≡ n = omega arith in rw (e, add-one k)

  pub declarations-none : (k n : ℕ) → n ≤ 0 → declarations name k n ≡ []
  unfolding declarations
  declarations-none k zero h = refl
  declarations-none k (suc n) h = absurd (omega arith)

  pub declarations-longer : (k n : ℕ) → 0 < n
      → length (declarations name k n) ≡ 22 + length (digits (name k).index) + length (declarations name (k + 1) (n - 1))
  declarations-longer k n h =
      ap length (declarations-more k n h)
      ∙ omega (arith, length-append (declaration k (name k)) (declarations name (k + 1) (n - 1)), declaration-length k (name k))

  pub declarations-most : (k n : ℕ) → length (declarations name k n) ≤ 32 * n
  unfolding declarations
  declarations-most k zero = omega arith
  declarations-most k (suc n) =
      omega (
        arith,
        length-append (declaration k (name k)) (declarations name (suc k) n),
        declaration-length k (name k),
        digits-most 9 (name k).index,
        declarations-most (suc k) n,
      )

-- ---- values

pub value-length : (k : ℕ) (v : Level) → length (value_line k v) ≡ 4
unfolding value_line identifier
value-length k v = refl

pub with-length : (k d : ℕ) → length (value_with k d) ≡ 4
unfolding identifier
with-length k d = refl

-- a character that is one of a level
pub with-level : (k : ℕ) {d : ℕ} (v : Level) → d ≡ level_byte v → value_with k d ≡ value_line k v
unfolding value_line
with-level k v e = ap (λ (d : ℕ). value_with k d) e

module _ (level : ℕ → Level) where
  pub values-more : (k n : ℕ) → 0 < n → value_lines level k n ≡ value_line k (level k) ++ value_lines level (k + 1) (n - 1)
  unfolding value_lines
  values-more k zero h = absurd (omega arith)
  values-more k (suc n) h = let e : suc n - 1 ≡ n = omega arith in rw (e, add-one k)

  pub values-none : (k n : ℕ) → n ≤ 0 → value_lines level k n ≡ []
  unfolding value_lines
  values-none k zero h = refl
  values-none k (suc n) h = absurd (omega arith)

  pub values_length : (k n : ℕ) → length (value_lines level k n) ≡ 4 * n
  unfolding value_lines
  values_length k zero = omega arith
  values_length k (suc n) =
      omega (arith, length-append (value_line k (level k)) (value_lines level (suc k) n), value-length k (level k), values_length (suc k) n)

-- wires that have the same values
pub values_same : (f g : ℕ → Level) (k n : ℕ) → ((j : ℕ) → j < k + n → f j ≡ g j) → value_lines f k n ≡ value_lines g k n
unfolding value_lines
values_same f g k zero h = refl
values_same f g k (suc n) h =
    rw (h k (omega arith), values_same f g (suc k) n (λ j l. h j (omega arith)))

-- ---- samples

pub time-length : (t : ℕ) → length (time_mark t) ≡ 2 + length (digits t)
unfolding time_mark
time-length t = simp length-append (omega arith)

pub sample-length : (level : ℕ → Level) (n t : ℕ) → length (sample level n t) ≡ 2 + length (digits t) + 4 * n
unfolding sample
sample-length level n t = length-append (time_mark t) (value_lines level 0 n) ∙ omega (arith, time-length t, values_length level 0 n)

pub sample-same : (f g : ℕ → Level) (n t : ℕ) → ((j : ℕ) → j < n → f j ≡ g j) → sample f n t ≡ sample g n t
unfolding sample
sample-same f g n t h = rw (values_same f g 0 n (λ j l. h j (omega arith)))

module _ (level : ℕ → ℕ → Level) (n : ℕ) where
  pub samples-more : (t f : ℕ) → 0 < f → samples level n t f ≡ sample (level t) n t ++ samples level n (t + 1) (f - 1)
  unfolding samples
  samples-more t zero h = absurd (omega arith)
  samples-more t (suc f) h = let e : suc f - 1 ≡ f = omega arith in rw (e, add-one t)

  pub samples-none : (t f : ℕ) → f ≤ 0 → samples level n t f ≡ time_mark t
  unfolding samples
  samples-none t zero h = refl
  samples-none t (suc f) h = absurd (omega arith)

  pub samples-longer : (t f : ℕ) → 0 < f
      → length (samples level n t f) ≡ 2 + length (digits t) + 4 * n + length (samples level n (t + 1) (f - 1))
  samples-longer t f h =
      ap length (samples-more t f h)
      ∙ omega (arith, length-append (sample (level t) n t) (samples level n (t + 1) (f - 1)), sample-length (level t) n t)

  pub samples-most : n ≤ 1376 → (t f : ℕ) → length (samples level n t f) ≤ 5516 * f + 12
  unfolding samples
  samples-most h t zero = omega (arith, time-length t, digits-most 9 t)
  samples-most h t (suc f) =
      omega (
        arith,
        length-append (sample (level t) n t) (samples level n (suc t) f),
        sample-length (level t) n t,
        digits-most 9 t,
        samples-most h (suc t) f,
      )

-- ---- the whole text

pub header-length : (name : ℕ → Name) (n : ℕ) → length (header name n) ≡ 83 + length (declarations name 0 n)
unfolding header
header-length name n = simp length-append (omega arith)

pub dump-length : (name : ℕ → Name) (n : ℕ) (level : ℕ → ℕ → Level) (f : ℕ)
    → length (dump name n level f) ≡ 83 + length (declarations name 0 n) + length (samples level n 0 f)
unfolding dump
dump-length name n level f = length-append (header name n) (samples level n 0 f) ∙ omega (arith, header-length name n)
