-- Reading the request line. Assumes nothing.
use mathlib.Core.Path.{◌≡◌, refl, sym, ap, ap₂, subst}
use mathlib.Core.Bool.{Bool, true, false}
use mathlib.Core.List.{List, [], ◌∷◌}
use mathlib.Core.Option.{none}
use Prim.Native.Nat.{ℕ, ◌≤◌, ◌<◌}
use native.Mathlib.Omega.{arith}
use borrow.Author.Tests.{eq-eqb, ne_eqb}
use lib.Dec.{eqb, eqb→eq}
use lib.ListN.{length, take, drop, length-take}
use lib.Seq.{get_or-take, length-take-le}
use Rattle.aiger.specs.Lists.{same}
use Rattle.aiger.specs.Text.{bytes, row}
use Rattle.aiger.specs.Program.{request}
use Rattle.aiger.proofs.Tests.{T_true, true-T, and_left, and_right}
use Rattle.lines.specs.Lines.{RowRead}
use Rattle.job.specs.Query.{query_of, FirstLineIs}
use Rattle.job.specs.declared.FirstLine.TheVariants.{Search}

-- two lists are the same where the test says so
same_refl : (xs : List ℕ) → same xs xs ≡ true
same_refl [] = refl
same_refl (x ∷ xs) = rw (eq-eqb x x refl) (same_refl xs)

same-eq : (xs ys : List ℕ) → same xs ys ≡ true → xs ≡ ys
same-eq [] [] e = refl
same-eq [] (y ∷ ys) e = let z : ◌≡◌ {A = ℕ} 0 1 = cc in absurd (omega arith)
same-eq (x ∷ xs) [] e = let z : ◌≡◌ {A = ℕ} 0 1 = cc in absurd (omega arith)
same-eq (x ∷ xs) (y ∷ ys) e =
    let t = T_true e in
    ap₂ (λ (z : ℕ) (zs : List ℕ). z ∷ zs) (eqb→eq x y (and_left (eqb x y) (same xs ys) t))
    (same-eq xs ys (true-T (same xs ys) (and_right (eqb x y) (same xs ys) t)))

-- a flag that is true exactly where two lists are equal
pub by-same : (r : Bool) (xs ys : List ℕ) → (r ≡ true → xs ≡ ys) × (xs ≡ ys → r ≡ true) → r ≡ same xs ys
by-same true xs ys h = sym (subst (λ (z : List ℕ). same xs z ≡ true) (h.0 refl) (same_refl xs))
by-same false xs ys h = go (same xs ys) refl
  where
    go : (b : Bool) → same xs ys ≡ b → false ≡ b
    go true e = h.1 (same-eq xs ys e)
    go false e = refl

-- a text that is too short begins with no word
pub too_short : (s word : List ℕ) (n : ℕ) → length word ≡ n → length s < n → false ≡ same (take n s) word
too_short s word n e l = go (same (take n s) word) refl
  where
    go : (b : Bool) → same (take n s) word ≡ b → false ≡ b
    go true q = absurd (omega (arith, length-take n s, ap length (same-eq (take n s) word q)))
    go false q = refl

module _ (s : List ℕ) where
  pub not-search : same (take 7 s) (bytes "search ") ≡ false → request s ≡ none
  unfolding request
  not-search e = rw e

  module _ (e : same (take 7 s) (bytes "search ") ≡ true) where
    pub no_row : row 3 (drop 7 s) ≡ none → request s ≡ none
    unfolding request
    no_row r = rw (e, r)

    module _ {before list : List ℕ} {count next : ℕ} (room : 3 ≤ length list) (r : RowRead s 7 3 before list count next) where
      size : length (take count list) ≡ count
      size = length-take-le count list (omega (arith, r.few))

      pub few : count < 3 → request s ≡ none
      unfolding request
      few l = rw (e, r.meaning, ne_eqb (length (take count list)) 3 (λ q. omega (arith, size)))

      pub whole : 3 ≤ count → FirstLineIs s (Search (query_of list next))
      unfolding request
      whole l = (
        rw (
          e,
          r.meaning,
          eq-eqb (length (take count list)) 3 (omega (arith, size, r.few)),
          get_or-take count list 0 0 (omega arith),
          get_or-take count list 1 0 (omega arith),
          get_or-take count list 2 0 (omega arith),
        ),
        r.inside,
      )
