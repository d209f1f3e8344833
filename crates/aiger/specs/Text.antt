-- Numbers and lines, read and written. A text is the list of its bytes. Assumes nothing.
use Rattle.std.specs.Prelude.{Bool, true, false, not, cond, ◌&&◌, ◌||◌, List, [], ◌∷◌, ◌++◌, ℕ, zero, suc, ◌+◌, ◌-◌, ◌*◌, ◌/◌, ◌%◌, leb, ltb, eqb, length, get_or}
use Rattle.std.proofs.Math.Option.{Option, none, some}
use Prim.Native.String.{String}
use Prim.Native.Char.{code}
use Rattle.aiger.specs.Lists.{every}

-- the bytes of an ASCII text
abbrev pub bytes : String → List ℕ
bytes String.[] = []
bytes (String.◌∷◌ c s) = code c ∷ bytes s

infixl 20 ◌>>=◌ ◌>>◌
-- what may be missing: where the first is missing, so is the whole
abbrev pub ◌>>=◌ : {A B : Type 0} → Option A → (A → Option B) → Option B
none >>= f = none
some a >>= f = f a

abbrev pub ◌>>◌ : {A B : Type 0} → Option A → Option B → Option B
a >> b = a >>= λ _. b

abbrev pub when : Bool → Option (Unit {0})
when true = some tt
when false = none

abbrev pub is_digit : ℕ → Bool
is_digit c = leb 48 c && leb c 57

-- Clause 1.1: one to ten digits, the first of several not 0
unfoldable pub is_number : List ℕ → Bool
is_number w = every is_digit w && leb 1 (length w) && leb (length w) 10 && (not (eqb (get_or w 0 0) 48) || eqb (length w) 1)

-- the number that digits stand for, after those that stand for n
unfoldable pub decimal : ℕ → List ℕ → ℕ
decimal n [] = n
decimal n (c ∷ w) = decimal (n * 10 + (c - 48)) w

-- the digits at the front, and the bytes after them
unfoldable pub span : List ℕ → List ℕ × List ℕ
span [] = ([], [])
span (c ∷ f) = cond (is_digit c) (c ∷ (span f).0, (span f).1) ([], c ∷ f)

-- Clause 1.2: a space or a line feed ends a number: a number with what ends it, and the bytes after that
pub data Token : Type 0 where
  spaced : ℕ → List ℕ → Token
  ended : ℕ → List ℕ → Token
  malformed : Token

-- number n, by the byte after its digits
unfoldable pub ended_by : ℕ → List ℕ → Token
ended_by n [] = malformed
ended_by n (c ∷ f) = cond (eqb c 32) (spaced n f) (cond (eqb c 10) (ended n f) malformed)

-- the number at the front
unfoldable pub token : List ℕ → Token
token f = cond (is_number (span f).0) (ended_by (decimal 0 (span f).0) (span f).1) malformed

-- what follows a number that a space ended, and one that a line feed ended
abbrev pub on_token : {A : Type 0} → Token → (ℕ → List ℕ → Option A) → (ℕ → List ℕ → Option A) → Option A
on_token (spaced n f) s e = s n f
on_token (ended n f) s e = e n f
on_token malformed s e = none

-- a line of 1 to `most` numbers, and the bytes after it
unfoldable pub row : ℕ → List ℕ → Option (List ℕ × List ℕ)
row zero f = none
row (suc most) f = on_token (token f) (λ n g. row most g >>= λ r. some (n ∷ r.0, r.1)) (λ n g. some (n ∷ [], g))

-- so many lines of `least` to `most` numbers, and the bytes after them
unfoldable pub rows : ℕ → ℕ → ℕ → List ℕ → Option (List (List ℕ) × List ℕ)
rows least most zero f = some ([], f)
rows least most (suc n) f = do
  r ← row most f
  when (leb least (length r.0))
  rs ← rows least most n r.1
  some (r.0 ∷ rs.0, rs.1)

-- a number below ten to the power k + 1, written
unfoldable pub digits_up_to : ℕ → ℕ → List ℕ
digits_up_to zero n = (48 + n) ∷ []
digits_up_to (suc k) n = cond (ltb n 10) ((48 + n) ∷ []) (digits_up_to k (n / 10) ++ ((48 + n % 10) ∷ []))

-- a number below ten to the power 10, written
abbrev pub digits : ℕ → List ℕ
digits n = digits_up_to 9 n

-- a number below ten to the power 20, written: every number of 64 bits
abbrev pub long_digits : ℕ → List ℕ
long_digits n = digits_up_to 19 n
