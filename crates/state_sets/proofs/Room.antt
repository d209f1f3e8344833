-- The room of the rows in a table. Assumes nothing.
use mathlib.Core.Path.{◌≡◌, refl}
use Prim.Native.Nat.{ℕ, suc, ◌+◌, ◌*◌, ◌≤◌, ◌<◌}
use native.Mathlib.Nat.{mul-le-mul_right, suc-mul}
use native.Mathlib.Omega.{arith}
use Rattle.state_sets.specs.declared.Shape.{Shape}
use Rattle.state_sets.specs.Shape.{row_at, Fits}

pub row_is : (vars r : ℕ) → row_at vars r ≡ 258 + r * (vars + 2)
unfolding row_at
row_is vars r = refl

-- one row after the other
pub row_next : (vars r : ℕ) → row_at vars (suc r) ≡ row_at vars r + vars + 2
row_next vars r = omega (arith, row_is vars r, row_is vars (suc r), suc-mul r (vars + 2))

pub row-order : (vars r l : ℕ) → r ≤ l → row_at vars r ≤ row_at vars l
row-order vars r l h = omega (arith, row_is vars r, row_is vars l, mul-le-mul_right (vars + 2) h)

-- the edges of a row stand before those of a later one
pub row_inside : (vars r l : ℕ) → r < l → row_at vars r + vars + 2 ≤ row_at vars l
row_inside vars r l h = omega (arith, row_next vars r, row-order vars (suc r) l h)

pub row_small : (vars r : ℕ) → vars ≤ 256 → r ≤ 16 → r * (vars + 2) ≤ 4128
row_small vars r v h = omega (arith, mul-le-mul_right (vars + 2) h)

-- in a table
pub row_fits : (s : Shape) (words r : ℕ) → Fits s words → r < s.rows → row_at s.vars r + s.vars + 2 < words
row_fits s words r f h = omega (arith, row_inside s.vars r s.rows h, row_is s.vars s.rows, f.room)

pub last_fits : (s : Shape) (words : ℕ) → Fits s words → row_at s.vars s.rows < words
last_fits s words f = omega (arith, row_is s.vars s.rows, f.room)

pub row_low : (s : Shape) (words r : ℕ) → Fits s words → r ≤ s.rows → row_at s.vars r ≤ 4386
row_low s words r f h = omega (arith, row_is s.vars r, row_small s.vars r f.vars (omega (arith, f.rows)))
