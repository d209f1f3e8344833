-- The lent memories suffice: 13 does not occur, and 12 only for a size above 65,536. Clause 6.4. Assumes nothing.
use mathlib.Core.Path.{◌≡◌, sym, ◌∙◌}
use mathlib.Core.Bool.{Bool, ◌&&◌}
use mathlib.Core.List.{List, [], ◌∷◌}
use Prim.Native.Nat.{ℕ, ◌+◌, ◌*◌, ◌≤◌, ◌<◌}
use native.Mathlib.Decide.{dec_lt}
use native.Mathlib.Nat.{mul-le-mul_left, mul-le-mul_right}
use native.Mathlib.Omega.{arith}
use lib.Dec.{T, leb, ltb, leb→le, le→leb, ltb→lt}
use lib.ListN.{length}
use Rattle.aiger.specs.Circuit.{Circuit}
use Rattle.aiger.specs.Load.{refused, gives, load}
use Rattle.aiger.specs.Frames.{size}
use Rattle.aiger.specs.Witness.{witness_length}
use Rattle.aiger.specs.Operations.{Test, need, judge, bad_test, budget_right, search_tests}
use Rattle.aiger.proofs.Tests.{and, and_left}
use Rattle.numbers.proofs.Digits.{digits-short}
use Rattle.roundtrip.proofs.LoadWrite.{Counts, counts-fit}
use Rattle.roundtrip.proofs.LoadValid.{load-valid}
use Rattle.limits.proofs.Refusals.{judge-past, judge-passed, judge-last}

-- no witness is longer
short : (c : Circuit) (b k : ℕ) → Counts c → b < length c.bads → k ≤ 255 → witness_length c b k ≤ 66825
unfolding witness_length
short c b k n l t =
    let I = length c.inputs in
    let bound : k + 1 ≤ 256 = omega arith in
    let frames : (k + 1) * (I + 1) ≤ 256 * (I + 1) = mul-le-mul_right (I + 1) bound in
    let few : I + 1 ≤ 257 = omega (arith, n.inputs) in
    let row : 256 * (I + 1) ≤ 256 * 257 = mul-le-mul_left 256 few in
    omega (arith, digits-short 9 1 b (omega (arith, n.bads)), n.latches)

module _ (c : Circuit) (b k D : ℕ) where
  abbrev bounded : Bool
  bounded = leb k 255 && budget_right D

  abbrev words-needed : Bool
  words-needed = leb (size c k) 65536 && leb (16 * size c k) 1048576

  abbrev bytes-needed : Bool
  bytes-needed = leb (witness_length c b k) 66825

  abbrev last : List Test
  last = need 13 bytes-needed ∷ []

  -- the tests before number 12 are passed
  sized : (n : ℕ) → (10 ≡ n → ⊥) → (11 ≡ n → ⊥) → judge (search_tests c b k D 1048576 66825) ≡ refused n
      → T (ltb b (length c.bads)) × T bounded × (judge (need 12 words-needed ∷ last) ≡ refused n)
  sized n p q e =
      let after = need 12 words-needed ∷ last in
      let x = judge-past (bad_test c b) (need 11 bounded ∷ after) n p e in
      let y = judge-past (need 11 bounded) after n q x.1 in
      (x.0, y.0, y.1)

  -- the witness fits where the first tests are passed
  enough : (f : List ℕ) → load 33032 f ≡ gives c → T (ltb b (length c.bads)) → T bounded → T bytes-needed
  enough f l p q =
      let bound = leb→le k 255 (and_left (leb k 255) (budget_right D) q) in
      le→leb (witness_length c b k) 66825 (short c b k (counts-fit c (load-valid f l).fit) (ltb→lt b (length c.bads) p) bound)

  pub output-suffices : (f : List ℕ) → load 33032 f ≡ gives c → judge (search_tests c b k D 1048576 66825) ≡ refused 13 → ⊥
  output-suffices f l e =
      let s = sized 13 (λ q. omega arith) (λ q. omega arith) e in
      let x = judge-past (need 12 words-needed) last 13 (λ q. omega arith) s.2 in
      judge-last 13 13 bytes-needed (enough f l s.0 s.1) x.1

  pub work-suffices : (f : List ℕ) → load 33032 f ≡ gives c → judge (search_tests c b k D 1048576 66825) ≡ refused 12 → 65536 < size c k
  work-suffices f g e =
      elim (dec_lt 65536 (size c k)) [
        | yes l ↦ l
        | no l ↦
            let s = le→leb (size c k) 65536 (omega arith) in
            let w = le→leb (16 * size c k) 1048576 (omega arith) in
            let r = sized 12 (λ q. omega arith) (λ q. omega arith) e in
            let p = and (leb (size c k) 65536) (leb (16 * size c k) 1048576) s w in
            absurd (judge-last 13 12 bytes-needed (enough f g r.0 r.1) (sym (judge-passed (need 12 words-needed) last p) ∙ r.2))
      ]
