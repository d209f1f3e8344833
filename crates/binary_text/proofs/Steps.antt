-- The sections of a file in binary form, one entry more. Assumes nothing.
use mathlib.Core.Path.{◌≡◌, refl, sym, ap, ◌∙◌, subst}
use mathlib.Core.List.{List, [], ◌∷◌, ◌++◌}
use Prim.Native.Nat.{ℕ, zero, suc, ◌+◌, ◌-◌, ◌*◌, ◌≤◌, ◌<◌}
use native.Mathlib.Omega.{arith}
use borrow.Author.Tests.{eq-eqb, ne_eqb}
use lib.ListN.{length}
use Rattle.aiger.specs.Circuit.{var}
use Rattle.aiger.specs.Write.{line_of}
use Rattle.layout.specs.Words.{word}
use Rattle.differences.specs.Groups.{Placed-in}
use Rattle.renumber.specs.Names.{Within, under}
use Rattle.renumbered.specs.Renumbered.{sorted, gate_text}
use Rattle.output.specs.Row.{number_text}
use Rattle.output.specs.Output.{put_text, Placed}
use Rattle.binary_text.specs.Lines.{latch_line, latch_lines, literal_lines, gate_under_at, gate_bytes, Listed}

-- what the writer of a difference leaves
pub placed-in : {out : List ℕ} {at : ℕ} {text : List ℕ} {end : ℕ} {out' : List ℕ} → Placed-in out at text end out'
    → Placed out at text end out'
unfolding put_text
placed-in p = record { past = p.0; contents = p.1 }

-- ---- one entry more, and none

pub latch-one : (n r : ℕ) → r ≡ 0 → latch_line n r ≡ number_text n 0
unfolding line_of
latch-one n r e = rw (eq-eqb r 0 e)

pub latch-two : (n r : ℕ) → (r ≡ 0 → ⊥) → latch_line n r ≡ number_text n 1 ++ number_text r 0
unfolding line_of
latch-two n r h = rw (ne_eqb r 0 h)

pub literal-line : (n : ℕ) → line_of n [] ≡ number_text n 0
unfolding line_of
literal-line n = refl

module _ (names m : List ℕ) where
  pub latches-more : (p n : ℕ) → 0 < n
      → latch_lines names m p n ≡ latch_line (under names (word m (p + 1))) (under names (word m (p + 2))) ++ latch_lines names m (p + 3)
      (n - 1)
  unfolding latch_lines
  latches-more p zero h = absurd (omega arith)
  latches-more p (suc n) h = let e : suc n - 1 ≡ n = omega arith in rw e

  pub latches-none : (p n : ℕ) → n ≤ 0 → latch_lines names m p n ≡ []
  unfolding latch_lines
  latches-none p zero h = refl
  latches-none p (suc n) h = absurd (omega arith)

  pub literals-more : (p n : ℕ) → 0 < n → literal_lines names m p n ≡ number_text (under names (word m p)) 0 ++ literal_lines names m (p + 1)
      (n - 1)
  unfolding literal_lines
  literals-more p zero h = absurd (omega arith)
  literals-more p (suc n) h = let e : suc n - 1 ≡ n = omega arith in rw (e, literal-line (under names (word m p)))

  pub literals-none : (p n : ℕ) → n ≤ 0 → literal_lines names m p n ≡ []
  unfolding literal_lines
  literals-none p zero h = refl
  literals-none p (suc n) h = absurd (omega arith)

  module _ (first : ℕ) (order : List ℕ) where
    gates-more : (j n : ℕ) → 0 < n
        → gate_bytes names m first order j n ≡ gate_text
        (sorted (gate_under_at names m (first + 3 * word order j))) ++ gate_bytes names m first order (j + 1) (n - 1)
    unfolding gate_bytes
    gates-more j zero h = absurd (omega arith)
    gates-more j (suc n) h = let e : suc n - 1 ≡ n = omega arith in rw e

    gates-none : (j n : ℕ) → n ≤ 0 → gate_bytes names m first order j n ≡ []
    unfolding gate_bytes
    gates-none j zero h = refl
    gates-none j (suc n) h = absurd (omega arith)

    -- the gates from place j on
    pub gates-from : (j count : ℕ) → j < count
        → gate_bytes names m first order j (count - j)
        ≡ gate_text (sorted (gate_under_at names m (first + 3 * word order j))) ++ gate_bytes names m first order (j + 1) (count - (j + 1))
    gates-from j count h =
        let e : count - j - 1 ≡ count - (j + 1) = omega arith in
        gates-more j (count - j) (omega arith)
        ∙ ap (λ (n : ℕ). gate_text (sorted (gate_under_at names m (first + 3 * word order j))) ++ gate_bytes names m first order (j + 1) n) e

    pub gates-end : (j count : ℕ) → count ≤ j → gate_bytes names m first order j (count - j) ≡ []
    gates-end j count h = gates-none j (count - j) (omega arith)

-- ---- words within the table

pub within-from : (m : List ℕ) (p n : ℕ) (names : List ℕ) (k n' : ℕ) → k + n' ≤ n → Within m p n names → Within m (p + k) n' names
within-from m p n names k n' h w j l =
    let e : p + (k + j) ≡ p + k + j = omega arith in
    subst (λ (x : ℕ). (var (word m x) < length names) × (word names (var (word m x)) ≤ 4096)) e (w (k + j) (omega arith))

-- an operand of the gate at place j
pub operand-within : {names m : List ℕ} {first count : ℕ} {order : List ℕ} → Listed names m first count order → (j : ℕ) → j < count
    → (x : ℕ) → x < 3
    → (var (word m (first + 3 * word order j + x)) < length names) × (word names (var (word m (first + 3 * word order j + x))) ≤ 4096)
operand-within {names} {m} {first} {count} {order} g j h x l =
    within-from m first (3 * count) names (3 * word order j) 3 (omega (arith, g.places j h)) g.within x l

-- the first of n literals
pub within-here : (m : List ℕ) (p n : ℕ) (names : List ℕ) → 0 < n → Within m p n names → (var (word m p) < length names)
    × (word names (var (word m p)) ≤ 4096)
within-here m p n names h w =
    let e : p + 0 ≡ p = omega arith in
    subst (λ (x : ℕ). (var (word m x) < length names) × (word names (var (word m x)) ≤ 4096)) e (w 0 h)
