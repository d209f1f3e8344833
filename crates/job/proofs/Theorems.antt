-- Clause 8.2: the program's output suffices wherever 12 is not given. Assumes nothing.
use mathlib.Core.Path.{◌≡◌, ap}
use mathlib.Core.Bool.{◌&&◌}
use mathlib.Core.List.{List, [], ◌∷◌}
use Prim.Native.Nat.{ℕ, suc, ◌+◌, ◌*◌, ◌≤◌, ◌<◌}
use native.Mathlib.Nat.{mul-suc, mul-le-mul_left}
use native.Mathlib.Numerals.{add-one}
use native.Mathlib.Omega.{arith}
use lib.Dec.{leb, leb→le, le→leb, ltb→lt}
use lib.ListN.{length}
use Rattle.aiger.specs.Circuit.{Circuit}
use Rattle.aiger.specs.Load.{refused, gives, load, needed}
use Rattle.aiger.specs.Frames.{size}
use Rattle.aiger.specs.Witness.{witness_length}
use Rattle.aiger.specs.Operations.{need, judge, bad_test, budget_right, size_test, search_tests}
use Rattle.aiger.proofs.Tests.{and_left, and_right}
use Rattle.numbers.proofs.Digits.{digits-short}
use Rattle.roundtrip.proofs.LoadWrite.{Counts, counts-fit}
use Rattle.roundtrip.proofs.LoadValid.{load-valid}
use Rattle.limits.proofs.Refusals.{judge-past, judge-last}

-- the witness of a circuit that 8,192 words hold, where 8,192 words are enough for its size
short : (c : Circuit) (b k : ℕ) → Counts c → needed c.max_var ≤ 8192 → b < length c.bads → k ≤ 255 → 16 * size c k ≤ 8192
    → witness_length c b k ≤ 2048
unfolding size witness_length
short c b k n h l t w =
    let I = length c.inputs in
    let rows : (k + 1) * (I + 1) ≡ (k + 1) * suc I = ap (λ (z : ℕ). (k + 1) * z) (add-one I) in
    let part : (k + 1) * I ≤ (k + 1) * (I + length c.gates + length c.constraints + 1) = mul-le-mul_left (k + 1) (omega arith) in
    omega (arith, digits-short 9 1 b (omega arith), mul-suc (k + 1) I)

-- a loaded circuit is never refused with 13
pub output-suffices : (f : List ℕ) {c : Circuit} → load 8192 f ≡ gives c → (b k D : ℕ) → judge (search_tests c b k D 8192 2048) ≡ refused 13 → ⊥
output-suffices f {c} e b k D r =
    let v = load-valid f e in
    let s = leb (size c k) 65536 in
    let w = leb (16 * size c k) 8192 in
    let W = witness_length c b k in
    let last = need 13 (leb W 2048) ∷ [] in
    let x1 = judge-past (bad_test c b) (need 11 (leb k 255 && budget_right D) ∷ size_test c k 8192 ∷ last) 13 (λ q. omega arith) r in
    let x2 = judge-past (need 11 (leb k 255 && budget_right D)) (size_test c k 8192 ∷ last) 13 (λ q. omega arith) x1.1 in
    let x3 = judge-past (size_test c k 8192) last 13 (λ q. omega arith) x2.1 in
    let bound = leb→le k 255 (and_left (leb k 255) (budget_right D) x2.0) in
    let room = leb→le (16 * size c k) 8192 (and_right s w x3.0) in
    let fits = short c b k (counts-fit c v.fit) v.held (ltb→lt b (length c.bads) x1.0) bound room in
    judge-last 13 13 (leb W 2048) (le→leb W 2048 fits) x3.1
