-- The name of a file at the front of a buffer. Assumes nothing.
use mathlib.Core.Path.{◌≡◌, sym, ap, ◌∙◌}
use mathlib.Core.List.{List, ◌++◌}
use Prim.Native.Nat.{ℕ, ◌≤◌, ◌<◌}
use native.Mathlib.Omega.{arith}
use lib.Seq.{take_all, take_at, length-take-le}
use lib.ListN.{length, take, drop}

-- what a copy of n bytes leaves at the front
copied : (src kept kept' : List ℕ) (n : ℕ) → n ≡ length src → kept' ≡ take n src ++ drop n kept → take n kept' ≡ src
copied src kept kept' n e f =
    let whole : take n src ≡ src = take_all n src (omega (arith, e)) in
    ap (take n) f ∙ ap (λ (w : List ℕ). take n (w ++ drop n kept)) whole ∙ take_at src (drop n kept) n (sym e)

module _ (name kept : List ℕ) {kept' : List ℕ} {r : ℕ} (long : length kept' ≡ length kept) where
  -- the name has room
  pub name-whole : length name ≤ length kept → r ≡ length name → kept' ≡ take (length name) name ++ drop (length name) kept
      → (r ≤ length kept') × (take r kept' ≡ take (length kept) name)
  name-whole l e f = (
    omega (arith, long, l, e),
    ap (λ (i : ℕ). take i kept') e ∙ copied name kept kept' (length name) (λ i. length name) f ∙ sym (take_all (length kept) name l),
  )

  -- it has none for all of it
  pub name-front : {part : List ℕ} → length kept < length name → part ≡ take (length kept) name → r ≡ length part
      → kept' ≡ take (length part) part ++ drop (length part) kept → (r ≤ length kept') × (take r kept' ≡ take (length kept) name)
  name-front {part} l p e f = (
    omega (arith, long, e, ap length p, length-take-le (length kept) name (omega (arith, l))),
    ap (λ (i : ℕ). take i kept') e ∙ copied part kept kept' (length part) (λ i. length part) f ∙ p,
  )
