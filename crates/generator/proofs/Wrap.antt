-- Sums and products modulo m, for every m: a turn of the loop that doubles one factor and halves the other.
-- Assumes nothing.
use Rattle.std.proofs.Common.{◌≡◌, ℕ, ◌+◌, ◌*◌, ◌/◌, ◌%◌, ◌<◌, sym, ap, ◌∙◌, mod-eq_of_lt, add-mul, mul-zero, div-add-mod', mul-one, mul-add, mul_right_comm, arith}
use native.Mathlib.Nat.{mod-add-mod, add-mod-mod, add-mul-mod_self_right}

-- a factor may be taken modulo m
mul-mod : (u k m : ℕ) → (u % m * k) % m ≡ (u * k) % m
mul-mod u k m =
    let whole : u * k ≡ u % m * k + u / m * k * m =
    ap (λ (n : ℕ). n * k) (sym (div-add-mod' u m))
    ∙ add-mul (u / m * m) (u % m) k
    ∙ ap (λ (n : ℕ). n + u % m * k) (mul_right_comm (u / m) m k)
    ∙ omega arith in
    sym (ap (λ (n : ℕ). n % m) whole ∙ add-mul-mod_self_right (u % m * k) (u / m * k) m)

-- the doubled factor wraps
doubled : (s x h m : ℕ) → (s + (x + x) % m * h) % m ≡ (s + (x + x) * h) % m
doubled s x h m =
    sym (add-mod-mod s ((x + x) % m * h) m) ∙ ap (λ (n : ℕ). (s + n) % m) (mul-mod (x + x) h m) ∙ add-mod-mod s ((x + x) * h) m

pub even-turn : (s x y m : ℕ) → y % 2 ≡ 0 → (s + (x + x) % m * (y / 2)) % m ≡ (s + x * y) % m
even-turn s x y m e =
    let twice : y ≡ y / 2 + y / 2 = omega arith in
    doubled s x (y / 2) m
    ∙ ap (λ (n : ℕ). (s + n) % m) (add-mul x x (y / 2) ∙ sym (mul-add x (y / 2) (y / 2)) ∙ ap (λ (n : ℕ). x * n) (sym twice))

pub odd-turn : (s x y m : ℕ) → y % 2 ≡ 1 → ((s + x) % m + (x + x) % m * (y / 2)) % m ≡ (s + x * y) % m
odd-turn s x y m e =
    let twice : y ≡ y / 2 + y / 2 + 1 = omega arith in
    let product : (x + x) * (y / 2) + x ≡ x * y =
    omega (arith, add-mul x x (y / 2), mul-add x (y / 2) (y / 2), mul-add x (y / 2 + y / 2) 1, mul-one x, ap (λ (n : ℕ). x * n) twice) in
    mod-add-mod (s + x) m ((x + x) % m * (y / 2))
    ∙ doubled (s + x) x (y / 2) m
    ∙ ap (λ (n : ℕ). n % m) (omega arith)

-- once the halved factor is 0 the sum is the product
pub last_turn : (s x y m : ℕ) → s < m → y ≡ 0 → s ≡ (s + x * y) % m
last_turn s x y m h e =
    let none : x * y ≡ 0 = ap (λ (n : ℕ). x * n) e ∙ mul-zero x in
    sym (mod-eq_of_lt h) ∙ ap (λ (n : ℕ). n % m) (omega arith)
