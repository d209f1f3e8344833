-- What a read says of the buffer that it was lent. Assumes nothing.
use Rattle.std.specs.Prelude.{◌≡◌, ◌+◌, ◌≤◌, Bool, true, false, cond, List, ℕ, ℤ, pos, negsuc, ltb, length, take}
use Rattle.input.specs.declared.reading.Read.{Read}

-- n counts bytes at the front of a list
abbrev pub IsPrefixLen : ℕ → List ℕ → Type 0
IsPrefixLen n xs = (n ≤ length xs) × (n ≡ length (take n xs))

-- how many bytes a read gave, by the number that the system gave
abbrev pub count_given : ℤ → ℕ
count_given (pos k) = k
count_given (negsuc k) = 0

-- whether it failed
abbrev pub is_failure : ℤ → Bool
is_failure (pos k) = false
is_failure (negsuc k) = true

-- the number of the error of a read that failed, 0 where it did not fail or the number is 65,536 or more, which no error has
abbrev pub error_given : ℤ → ℤ
error_given (pos k) = pos 0
error_given (negsuc k) = cond (ltb k 65535) (pos (k + 1)) (pos 0)

-- the bytes that were read lie within the buffer
abbrev pub Gave : List ℕ → Read → Type 0
Gave buf r = IsPrefixLen (count_given r.given) buf
