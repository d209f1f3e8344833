-- The floor's bits at the front of the words are the free bits of its place. Assumes nothing.
use mathlib.Core.Path.{◌≡◌, refl, sym, ap, ap₂, ◌∙◌, subst}
use mathlib.Core.Bool.{Bool, true, false, cond}
use mathlib.Core.List.{List}
use Prim.Native.Nat.{ℕ, zero, suc, ◌+◌, ◌-◌, ◌*◌, ◌/◌, ◌%◌, ◌^◌, ◌≤◌, ◌<◌}
use native.Mathlib.Decide.{ℕ_discrete}
use native.Mathlib.Omega.{arith}
use native.Mathlib.Nat.{pow-suc}
use lib.Dec.{eqb, leb}
use lib.ListN.{length, get_or, set, length-set}
use lib.Seq.{get_or-set_same, get_or-set_other}
use Rattle.aiger.specs.Bits.{nonzero}
use Rattle.aiger.specs.Frames.{free_bit}
use Rattle.memory.specs.Record.{field, bit_at}
use Rattle.clauses.specs.Floor.{prefix}
use Rattle.floor.specs.Place.{bit_of, floor_bit}
use Rattle.floor.proofs.Rise.{bits, digits}
use Rattle.floor.proofs.Evaluation.{place-bit}
use Rattle.solver.specs.Solved.{bits_put}
use Rattle.aiger.proofs.Tests.{nonzero-bit}

-- ---- one turn

pub put-none : (w : List ℕ) (nodes j k : ℕ) → k ≡ 0 → bits_put w nodes j k ≡ w
unfolding bits_put
put-none w nodes j zero e = refl
put-none w nodes j (suc k) e = absurd (omega arith)

pub put-more : (w u : List ℕ) (nodes j k m : ℕ) → k ≡ m + 1 → u ≡ set w j (floor_bit w nodes (j + 1)) → bits_put w nodes j k ≡ bits_put u nodes (j + 1) m
unfolding bits_put
put-more w u nodes j zero m e s = absurd (omega arith)
put-more w u nodes j (suc k) m e s = let p : k ≡ m = omega arith in ap₂ (λ (v : List ℕ) (i : ℕ). bits_put v nodes (j + 1) i) (sym s) p

-- ---- all bits

module _ (w : List ℕ) (nodes n : ℕ) (small : n < nodes) (long : 14 * nodes ≤ length w) where
  record Putting (u : List ℕ) (j : ℕ) : Type 0 where
    pub size : length u ≡ length w
    pub done : (i : ℕ) → i < j → get_or u i 0 ≡ floor_bit w nodes (i + 1)
    pub rest : (i : ℕ) → j ≤ i → get_or u i 0 ≡ get_or w i 0

  same_bit : (u : List ℕ) (j : ℕ) → Putting u j → floor_bit u nodes (j + 1) ≡ floor_bit w nodes (j + 1)
  unfolding bit_of field
  same_bit u j p = ap (λ (x : ℕ). cond (eqb (bit_at (cond (leb nodes (j + 1)) 0 x)) 1) 1 0) (p.rest (14 * (j + 1) + 2) (omega arith))

  putting-more : (u : List ℕ) (j : ℕ) → j < n → Putting u j → Putting (set u j (floor_bit u nodes (j + 1))) (j + 1)
  putting-more u j l p =
      let b = floor_bit u nodes (j + 1) in
      record {
        size = length-set u j b ∙ p.size;
        done = λ i h.
            elim (ℕ_discrete i j) [
              | yes e ↦
                  subst (λ (x : ℕ). get_or (set u j b) x 0 ≡ floor_bit w nodes (x + 1)) (sym e)
                  (get_or-set_same u j b 0 (omega (arith, p.size)) ∙ same_bit u j p)
              | no e ↦ get_or-set_other u j i b 0 e ∙ p.done i (omega arith)
            ];
        rest = λ i h. get_or-set_other u j i b 0 (λ e. omega arith) ∙ p.rest i (omega arith);
      }

  putting-all : (u : List ℕ) (j k : ℕ) → j + k ≡ n → Putting u j → Putting (bits_put u nodes j k) n
  unfolding bits_put
  putting-all u j zero e p = let q : j ≡ n = omega arith in subst (Putting u) q p
  putting-all u j (suc k) e p = putting-all (set u j (floor_bit u nodes (j + 1))) (j + 1) k (omega arith) (putting-more u j (omega arith) p)

  pub put-free : (j : ℕ) → j < n → nonzero (get_or (bits_put w nodes 0 n) j 0) ≡ free_bit n (prefix (bits w nodes) n) j
  put-free j l =
      let p = putting-all w 0 n (omega arith) (record { size = refl; done = λ i h. absurd (omega arith); rest = λ i h. refl }) in
      ap nonzero (p.done j l ∙ place-bit w nodes n j l) ∙ nonzero-bit (free_bit n (prefix (bits w nodes) n) j)

-- the floor is a place
pub prefix-place : (w : List ℕ) (nodes v : ℕ) → prefix (bits w nodes) v < 2 ^ v
unfolding prefix
prefix-place w nodes zero = omega arith
prefix-place w nodes (suc v) = omega (arith, prefix-place w nodes v, digits w nodes (suc v), pow-suc 2 v)
