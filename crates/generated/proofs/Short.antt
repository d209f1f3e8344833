-- How long a generated text is at most: 55,798 bytes, where each literal that is drawn has four digits. Clause 12.12. Assumes nothing.
use mathlib.Core.Path.{◌≡◌, refl, sym, ap, ◌∙◌}
use mathlib.Core.List.{List, [], ◌∷◌, ◌++◌}
use Prim.Native.Nat.{ℕ, zero, suc, ◌+◌, ◌-◌, ◌*◌, ◌^◌, ◌≤◌, ◌<◌}
use native.Mathlib.Nat.{mul-suc}
use native.Mathlib.Decide.{dec_lt}
use native.Mathlib.Omega.{arith}
use lib.ListN.{length, length-append}
use Rattle.aiger.specs.Text.{bytes, digits, digits_up_to}
use Rattle.aiger.specs.Signature.{step}
use Rattle.aiger.specs.Write.{line_of}
use Rattle.numbers.proofs.Digits.{digits-short}
use Rattle.generated.specs.Generated.{after, picked, generated_text, Permitted}
use Rattle.generated.specs.Parts.{head_text, inputs_text, latches_text, bad_text, gates_text}
use Rattle.generated.proofs.Drawn.{picked-below}
use Rattle.generated.proofs.Parts.{text-parts, inputs-more, latches-more, gates-more, inputs-none, latches-none, gates-none}

-- a number below 10,000 has at most four digits
few : (n : ℕ) → n < 10000 → length (digits n) ≤ 4
few n h = digits-short 9 3 n h

-- ---- lines of one, two, three and six numbers

pub line-length : (a : ℕ) → length (line_of a []) ≡ length (digits a) + 1
unfolding line_of
line-length a = length-append (digits a) (bytes "\n")

pub line-longer : (a b : ℕ) (ns : List ℕ) → length (line_of a (b ∷ ns)) ≡ length (digits a) + 1 + length (line_of b ns)
unfolding line_of
line-longer a b ns = omega (arith, length-append (digits a ++ bytes " ") (line_of b ns), length-append (digits a) (bytes " "))

-- ---- the digits of the literals of k variables from v on

pub owns : ℕ → ℕ → ℕ
owns v zero = 0
owns v (suc k) = length (digits (2 * v)) + owns (suc v) k

owns-append : (v a b : ℕ) → owns v (a + b) ≡ owns v a + owns (v + a) b
unfolding owns
owns-append v zero b =
    let e : 0 + b ≡ b = omega arith in
    let z : v + 0 ≡ v = omega arith in
    rw (e, z) (omega arith)
owns-append v (suc a) b =
    let e : suc a + b ≡ suc (a + b) = omega arith in
    let z : v + suc a ≡ suc v + a = omega arith in
    rw (e, z) (omega (arith, owns-append (suc v) a b))

-- literals below ten to the power j + 1 have at most j + 1 digits each
owns-most : (j v k : ℕ) → 2 * (v + k) ≤ 10 ^ suc j + 1 → owns v k ≤ suc j * k
unfolding owns
owns-most j v zero h = omega arith
owns-most j v (suc k) h =
    omega (arith, mul-suc (suc j) k, digits-short 9 j (2 * v) (omega arith), owns-most j (suc v) k (omega arith))

-- all literals up to 2M: one digit each for 4 of them, two for 45, three for 450
owns-all : (M : ℕ) → 499 ≤ M → M ≤ 4096 → owns 1 M + 552 ≤ 4 * M
owns-all M h l =
    let k = M - 499 in
    let e : owns 1 M ≡ owns 1 (4 + (45 + (450 + k))) = ap (owns 1) (omega arith) in
    omega (
      arith,
      owns-append 1 4 (45 + (450 + k)),
      owns-append 5 45 (450 + k),
      owns-append 50 450 k,
      owns-most 0 1 4 (omega arith),
      owns-most 1 5 45 (omega arith),
      owns-most 2 50 450 (omega arith),
      owns-most 3 500 k (omega arith),
    )

-- ---- the parts

inputs-length : (v k : ℕ) → length (inputs_text v k) ≡ owns v k + k
unfolding owns
inputs-length v zero = ap length (inputs-none v)
inputs-length v (suc k) =
    omega (
      arith,
      ap length (inputs-more v k),
      length-append (line_of (2 * v) []) (inputs_text (suc v) k),
      line-length (2 * v),
      inputs-length (suc v) k,
    )

latches-short : (n s v k : ℕ) → 0 < n → n ≤ 10000 → length (latches_text n s v k) ≤ owns v k + 6 * k
unfolding owns
latches-short n s v zero h l = omega (arith, ap length (latches-none n s v))
latches-short n s v (suc k) h l =
    let x = picked n (step s) in
    omega (
      arith,
      ap length (latches-more v k n s),
      length-append (line_of (2 * v) (x ∷ [])) (latches_text n (step s) (suc v) k),
      line-longer (2 * v) x [],
      line-length x,
      few x (omega (arith, picked-below n (step s) h)),
      latches-short n (step s) (suc v) k h l,
    )

gates-short : (s v k : ℕ) → 0 < v → v + k ≤ 5000 → length (gates_text s v k) ≤ owns v k + 11 * k
unfolding owns
gates-short s v zero h l = omega (arith, ap length (gates-none s v))
gates-short s v (suc k) h l =
    let x = picked (2 * v) (step s) in
    let y = picked (2 * v) (step (step s)) in
    omega (
      arith,
      ap length (gates-more v k s),
      length-append (line_of (2 * v) (x ∷ y ∷ [])) (gates_text (step (step s)) (suc v) k),
      line-longer (2 * v) x (y ∷ []),
      line-longer x y [],
      line-length y,
      few x (omega (arith, picked-below (2 * v) (step s) (omega arith))),
      few y (omega (arith, picked-below (2 * v) (step (step s)) (omega arith))),
      gates-short (step (step s)) (suc v) k (omega arith) (omega arith),
    )

digits-zero : length (digits 0) ≡ 1
unfolding digits_up_to
digits-zero = refl

digits-one : length (digits 1) ≡ 1
unfolding digits_up_to
digits-one = refl

-- the header: 12 bytes beside the digits of four numbers
pub head-length : (I L A : ℕ)
    → length (head_text I L A) ≡ 12 + length (digits (I + L + A)) + length (digits I) + length (digits L) + length (digits A)
head-length I L A =
    omega (
      arith,
      length-append (bytes "aag ") (line_of (I + L + A) (I ∷ L ∷ 0 ∷ A ∷ 1 ∷ [])),
      line-longer (I + L + A) I (L ∷ 0 ∷ A ∷ 1 ∷ []),
      line-longer I L (0 ∷ A ∷ 1 ∷ []),
      line-longer L 0 (A ∷ 1 ∷ []),
      line-longer 0 A (1 ∷ []),
      line-longer A 1 [],
      line-length 1,
      digits-zero,
      digits-one,
    )

-- ---- the whole text

-- its length by the digits of the variables' own literals
lines-short : (s I L A : ℕ) → Permitted I L A
    → length (generated_text s I L A) ≤ length (head_text I L A) + owns 1 (I + L + A) + I + 6 * L + 11 * A + 5
lines-short s I L A p =
    let M = I + L + A in
    let n = 2 * M + 2 in
    let a : owns 1 (I + (L + A)) ≡ owns 1 M = ap (owns 1) (omega arith) in
    let b : owns (1 + I) (L + A) ≡ owns (I + 1) (L + A) = ap (λ (x : ℕ). owns x (L + A)) (omega arith) in
    let d : owns (I + 1 + L) A ≡ owns (I + L + 1) A = ap (λ (x : ℕ). owns x A) (omega arith) in
    let head = head_text I L A in
    let ins = inputs_text 1 I in
    let ls = latches_text n s (I + 1) L in
    let bad = bad_text M in
    let gs = gates_text (after L s) (I + L + 1) A in
    omega (
      arith,
      ap length (text-parts s I L A),
      length-append head (ins ++ (ls ++ (bad ++ gs))),
      length-append ins (ls ++ (bad ++ gs)),
      length-append ls (bad ++ gs),
      length-append bad gs,
      inputs-length 1 I,
      latches-short n s (I + 1) L (omega arith) (omega arith),
      line-length (2 * M),
      few (2 * M) (omega arith),
      gates-short (after L s) (I + L + 1) A (omega arith) (omega arith),
      owns-append 1 I (L + A),
      owns-append (I + 1) L A,
    )

-- the header has 27 bytes at most, 25 where I has one digit
head-short : (I L A : ℕ) → Permitted I L A → length (head_text I L A) ≤ 27
head-short I L A p =
    omega (
      arith,
      head-length I L A,
      few (I + L + A) (omega arith),
      digits-short 9 2 I (omega arith),
      few L (omega arith),
      few A (omega arith),
    )

head-shorter : (I L A : ℕ) → Permitted I L A → I < 10 → length (head_text I L A) ≤ 25
head-shorter I L A p h =
    omega (
      arith,
      head-length I L A,
      few (I + L + A) (omega arith),
      digits-short 9 0 I h,
      few L (omega arith),
      few A (omega arith),
    )

-- no generated text is longer
pub text-short : (s I L A : ℕ) → Permitted I L A → length (generated_text s I L A) ≤ 55798
text-short s I L A p =
    let M = I + L + A in
    elim (dec_lt M 499) [
      | yes few ↦ omega (arith, lines-short s I L A p, head-short I L A p, owns-most 3 1 M (omega arith))
      | no many ↦
          elim (dec_lt I 10) [
            | yes i ↦ omega (arith, lines-short s I L A p, head-shorter I L A p i, owns-all M (omega arith) p.all)
            | no i ↦ omega (arith, lines-short s I L A p, head-short I L A p, owns-all M (omega arith) p.all)
          ]
    ]
