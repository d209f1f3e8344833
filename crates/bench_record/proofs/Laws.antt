-- What the functions over the bytes of a bench compute, over plain numbers and lists. Assumes nothing.
use mathlib.Core.Path.{◌≡◌, refl, sym, ap, ◌∙◌}
use mathlib.Core.Bool.{Bool, true, false, cond, ◌&&◌}
use mathlib.Core.List.{List}
use mathlib.Core.Option.{none, some}
use Prim.Native.Nat.{ℕ, zero, suc, ◌+◌, ◌-◌, ◌*◌, ◌%◌, ◌≤◌, ◌<◌}
use native.Mathlib.Omega.{arith}
use lib.Dec.{eqb}
use lib.ListN.{get_or}
use borrow.Author.Tests.{lt-ltb, le-ltb, eq-eqb, ne_eqb}
use Rattle.benches.specs.declared.Entry.{Entry}
use Rattle.benches.specs.Bench.{ended, is_free, is_waiting, waits, after, first_of, turn_of}
use Rattle.bench_bytes.specs.Bytes.{half_at, number_at, meant, entry_at, entry_place, allowance_place, next_place, is_there, bench_in, bench_of}
use Rattle.bench_bytes.proofs.Records.{in_entry}
use Rattle.bench_record.specs.Steps.{Below, first_in}

-- ---- numbers

pub half_is : (bytes : List ℕ) (p a b c d : ℕ) → Below (get_or bytes p 0) 256 a → Below (get_or bytes (p + 1) 0) 256 b → Below (get_or bytes (p + 2) 0) 256 c
    → Below (get_or bytes (p + 3) 0) 256 d → Below (half_at bytes p) 4294967296 (a + 256 * b + 65536 * c + 16777216 * d)
unfolding half_at
half_is bytes p a b c d f g h k = record { is = rw (f.is, g.is, h.is, k.is); below = omega arith }

pub number_is : (bytes : List ℕ) (p a b : ℕ) → Below (half_at bytes p) 4294967296 a → Below (half_at bytes (p + 4)) 4294967296 b
    → a + 4294967296 * b ≡ number_at bytes p
unfolding number_at
number_is bytes p a b f g = rw (f.is, g.is)

pub entry-is : (bytes : List ℕ) (p a b c d e f : ℕ) (r : Entry)
    → r ≡ meant (record { stage = a; b = b; k = c; budget = d; frame = e; place = f }) → a ≡ number_at bytes p → b ≡ number_at bytes (p + 8)
    → c ≡ number_at bytes (p + 16) → d ≡ number_at bytes (p + 24) → e ≡ number_at bytes (p + 32) → f ≡ number_at bytes (p + 40)
    → r ≡ entry_at bytes p
unfolding entry_at
entry-is bytes p a b c d e f r h e₁ e₂ e₃ e₄ e₅ e₆ =
    h ∙ ap meant (λ i. record { stage = e₁ i; b = e₂ i; k = e₃ i; budget = e₄ i; frame = e₅ i; place = e₆ i })

-- ---- the first that waits

module _ (p : ℕ → Bool) (n : ℕ) where
  first-stop : (left : ℕ) → 0 < left → p n ≡ true → first_of p n left ≡ some n
  unfolding first_of
  first-stop zero l e = absurd (omega arith)
  first-stop (suc m) l e = ap (λ (t : Bool). cond t (some n) (first_of p (after n) m)) e

  first_more : (left : ℕ) → 0 < left → p n ≡ false → first_of p n left ≡ first_of p (after n) (left - 1)
  unfolding first_of
  first_more zero l e = absurd (omega arith)
  first_more (suc m) l e =
      ap (λ (t : Bool). cond t (some n) (first_of p (after n) m)) e
      ∙ ap (first_of p (after n)) (let q : m ≡ suc m - 1 = omega arith in q)

  first-none : (left : ℕ) → left ≤ 0 → first_of p n left ≡ none
  unfolding first_of
  first-none zero l = refl
  first-none (suc m) l = absurd (omega arith)

-- tests that agree on sixteen numbers have the same first
first-same : (p q : ℕ → Bool) → ((i : ℕ) → i < 16 → p i ≡ q i) → (m n : ℕ) → n < 16 → first_of p n m ≡ first_of q n m
unfolding first_of
first-same p q f zero n l = refl
first-same p q f (suc m) n l = λ i. cond (f n l i) (some n) (first-same p q f m (after n) (omega arith) i)

module _ (shared : List ℕ) (user n left : ℕ) where
  abbrev w : ℕ → Bool
  w i = is_waiting (entry_at shared (entry_place user i))

  pub stop-in : (r : Bool) → r ≡ w n → r ≡ true → 0 < left → first_in shared user n left ≡ some n
  stop-in r e t l = first-stop w n left l (sym e ∙ t)

  pub more-in : (r : Bool) → r ≡ w n → r ≡ false → 0 < left → first_in shared user n left ≡ first_in shared user (after n) (left - 1)
  more-in r e t l = first_more w n left l (sym e ∙ t)

  pub none_in : left ≤ 0 → first_in shared user n left ≡ none
  none_in l = first-none w n left l

-- ---- whose turn it is

module _ (shared : List ℕ) (user : ℕ) where
  pub turn-absent : is_there shared user ≡ false → turn_of (bench_of shared user) ≡ none
  unfolding turn_of
  turn-absent e = ap (λ (t : Bool). turn_of (cond t (bench_in shared user) ended)) e

  module _ (there : is_there shared user ≡ true) where
    at-bench : turn_of (bench_of shared user) ≡ turn_of (bench_in shared user)
    at-bench = ap (λ (t : Bool). turn_of (cond t (bench_in shared user) ended)) there

    without : number_at shared (allowance_place user) ≡ 0 → turn_of (bench_in shared user) ≡ none
    unfolding turn_of bench_in
    without e =
        ap (λ (t : Bool). cond t none (first_of (waits (bench_in shared user)) (bench_in shared user).next 16))
        (eq-eqb (number_at shared (allowance_place user)) 0 e)

    pub turn-without : number_at shared (allowance_place user) ≡ 0 → turn_of (bench_of shared user) ≡ none
    turn-without e = at-bench ∙ without e

    within : (number_at shared (allowance_place user) ≡ 0 → ⊥)
        → turn_of (bench_in shared user) ≡ first_in shared user (number_at shared (next_place user) % 16) 16
    unfolding turn_of bench_in
    within f =
        ap (λ (t : Bool). cond t none (first_of (waits (bench_in shared user)) (number_at shared (next_place user) % 16) 16))
        (ne_eqb (number_at shared (allowance_place user)) 0 f)
        ∙ first-same (waits (bench_in shared user)) (λ i. is_waiting (entry_at shared (entry_place user i)))
        (λ i l. ap is_waiting (in_entry shared user i l)) 16 (number_at shared (next_place user) % 16) (omega arith)

    pub turn_in : (number_at shared (allowance_place user) ≡ 0 → ⊥)
        → turn_of (bench_of shared user) ≡ first_in shared user (number_at shared (next_place user) % 16) 16
    turn_in f = at-bench ∙ within f

  -- ---- numbers that may be queued

  pub free-beyond : (n : ℕ) → 15 < n → false ≡ is_free (bench_of shared user) n
  free-beyond n l = sym (ap (λ (t : Bool). t && eqb ((bench_of shared user).entry n).stage 0) (le-ltb n 16 (omega arith)))

  pub free-absent : (n : ℕ) → n ≤ 15 → is_there shared user ≡ false → true ≡ is_free (bench_of shared user) n
  free-absent n l e =
      sym (ap (λ (t : Bool). t && eqb ((bench_of shared user).entry n).stage 0) (lt-ltb n 16 (omega arith))
      ∙ ap (λ (t : Bool). eqb ((cond t (bench_in shared user) ended).entry n).stage 0) e)

  pub free_in : (n : ℕ) (e : Entry) → n ≤ 15 → is_there shared user ≡ true → e ≡ entry_at shared (entry_place user n)
      → eqb e.stage 0 ≡ is_free (bench_of shared user) n
  free_in n e l there q =
      ap (λ (x : Entry). eqb x.stage 0) (q ∙ sym (in_entry shared user n (omega arith)))
      ∙ sym (ap (λ (t : Bool). t && eqb ((bench_of shared user).entry n).stage 0) (lt-ltb n 16 (omega arith))
      ∙ ap (λ (t : Bool). eqb ((cond t (bench_in shared user) ended).entry n).stage 0) there)
