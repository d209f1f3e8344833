-- The first place that passes, block after block. Assumes nothing.
use mathlib.Core.Path.{◌≡◌, refl, sym, ap, ◌∙◌, subst}
use mathlib.Core.Bool.{Bool, not}
use mathlib.Core.List.{List}
use Prim.Native.Nat.{ℕ, ◌+◌, ◌-◌, ◌*◌, ◌^◌, ◌≤◌, ◌<◌}
use native.Mathlib.Decide.{ℕ_discrete, dec_lt}
use native.Mathlib.Omega.{arith}
use lib.Dec.{T}
use lib.ListN.{length, get_or, set}
use lib.Seq.{get_or-set_same, get_or-set_other}
use Rattle.aiger.specs.Bits.{nonzero, bit}
use Rattle.aiger.specs.Signature.{FirstDifference}
use Rattle.aiger.proofs.Tests.{T_true}
use Rattle.words.proofs.Bits.{bit-none}
use Rattle.support.specs.Counting.{First}
use Rattle.simulation.specs.Store.{FirstIn, BitsPut}

module _ (block hits total p : ℕ) (f : FirstDifference 64 hits 0 p) where
  -- none before the word's first bit passes
  block-before : (passes : ℕ → Bool) → ((q : ℕ) → q < 64 → bit hits q ≡ passes (block * 64 + q)) → ((y : ℕ) → y < 64 * block → T (passes y) → ⊥)
      → (y : ℕ) → y < 64 * block + p → T (passes y) → ⊥
  block-before passes each none y l t = elim (dec_lt y (64 * block)) [ yes h ↦ none y h t | no h ↦ inside (omega arith) ]
    where
      inside : 64 * block ≤ y → ⊥
      inside h =
          let q = y - 64 * block in
          let e : block * 64 + q ≡ y = omega arith in
          subst T (sym (ap passes e) ∙ sym (each q (omega (arith, f.within))) ∙ f.below q (omega arith) ∙ bit-none q) t

  pub in-here : 64 * block + p < total → FirstIn block hits total (64 * block + p)
  in-here l passes each none last =
      record {
        within = omega arith;
        before = block-before passes each none;
        here = λ m.
            elim (ℕ_discrete p 64) [
              | yes e ↦ absurd (omega (arith, last (f.equal e)))
              | no e ↦
                  (let h : p < 64 = omega (arith, f.within) in
                  let z : 64 * block + p ≡ block * 64 + p = omega arith in
                  T_true (ap passes z ∙ sym (each p h) ∙ f.here h ∙ ap not (bit-none p)))
            ];
      }

  pub in-none : total ≤ 64 * block + p → FirstIn block hits total total
  in-none l passes each none last =
      record {
        within = omega arith;
        before = λ y m. block-before passes each none y (omega arith);
        here = λ m. absurd (omega arith);
      }

-- a block without a hit is passed
pub none_more : (passes : ℕ → Bool) (block : ℕ) → ((p : ℕ) → p < 64 → bit 0 p ≡ passes (block * 64 + p)) → ((y : ℕ) → y < 64 * block → T (passes y) → ⊥)
    → (y : ℕ) → y < 64 * (block + 1) → T (passes y) → ⊥
none_more passes block each none y l t = elim (dec_lt y (64 * block)) [ yes h ↦ none y h t | no h ↦ inside (omega arith) ]
  where
    inside : 64 * block ≤ y → ⊥
    inside h =
        let q = y - 64 * block in
        let e : block * 64 + q ≡ y = omega arith in
        subst T (sym (ap passes e) ∙ sym (each q (omega arith)) ∙ bit-none q) t

-- ---- the bits of a place in the front words

pub bits_none : (work slots : List ℕ) (y : ℕ) → BitsPut work work slots 0 y
bits_none work slots y = record { new = λ k h. absurd (omega arith); others = λ j n. refl }

pub bits-more : (work mid slots : List ℕ) (k y x : ℕ) → 1 ≤ get_or slots k 0 → get_or slots k 0 - 1 < length mid
    → ((j l : ℕ) → j < l → l < k + 1 → get_or slots j 0 ≡ get_or slots l 0 → ⊥) → ((j : ℕ) → j < k + 1 → 1 ≤ get_or slots j 0) → nonzero x ≡ bit y k → BitsPut work mid slots k y
    → BitsPut work (set mid (get_or slots k 0 - 1) x) slots (k + 1) y
bits-more work mid slots k y x one room differ ones e a =
    record {
      new = λ j h.
          elim (ℕ_discrete j k) [
            | yes z ↦
                subst (λ (i : ℕ). nonzero (get_or (set mid (get_or slots k 0 - 1) x) (get_or slots i 0 - 1) 0) ≡ bit y i) (sym z)
                (ap nonzero (get_or-set_same mid (get_or slots k 0 - 1) x 0 room) ∙ e)
            | no z ↦
                (let n : get_or slots j 0 ≡ get_or slots k 0 → ⊥ = differ j k (omega arith) (omega arith) in
                ap nonzero (get_or-set_other mid (get_or slots k 0 - 1) (get_or slots j 0 - 1) x 0 (λ w. n (omega (arith, ones j h)))) ∙ a.new j (omega arith))
          ];
      others = λ j n.
          let m : get_or slots k 0 ≡ j + 1 → ⊥ = n k (omega arith) in
          get_or-set_other mid (get_or slots k 0 - 1) j x 0 (λ w. m (omega arith)) ∙ a.others j (λ i h. n i (omega arith));
    }

pub zeros-more : (work : List ℕ) (j : ℕ) → j < length work → ((i : ℕ) → i < j → get_or work i 0 ≡ 0) → (i : ℕ) → i < j + 1 → get_or (set work j 0) i 0 ≡ 0
zeros-more work j h a i l =
    elim (ℕ_discrete i j) [
      | yes e ↦ subst (λ (x : ℕ). get_or (set work j 0) x 0 ≡ 0) (sym e) (get_or-set_same work j 0 0 h)
      | no e ↦ get_or-set_other work j i 0 0 e ∙ a i (omega arith)
    ]
