-- Laws of the tail, at a position of a text. Assumes nothing.
use mathlib.Core.Path.{◌≡◌, sym, ◌∙◌}
use mathlib.Core.Bool.{true, false}
use mathlib.Core.List.{List, [], ◌∷◌}
use Prim.Native.Nat.{ℕ, suc, ◌+◌, ◌-◌, ◌≤◌, ◌<◌}
use native.Mathlib.Numerals.{add-one}
use native.Mathlib.Omega.{arith}
use borrow.Author.Tests.{eq-eqb, ne_eqb}
use lib.Dec.{eqb}
use lib.ListN.{length, get_or, drop, drop_of_length-le}
use lib.Seq.{drop-cons}
use Rattle.aiger.specs.File.{is_tail}
use Rattle.lines.proofs.Tests.{and-true, and-false}

module _ (s : List ℕ) (at : ℕ) where
  two : at + 1 < length s → drop at s ≡ get_or s at 0 ∷ get_or s (at + 1) 0 ∷ drop (suc (at + 1)) s
  two h = drop-cons s at 0 (omega arith) ∙ rw (← add-one at, drop-cons s (at + 1) 0 h)

  pub ended : length s ≤ at → true ≡ is_tail (drop at s)
  unfolding is_tail
  ended h = rw (drop_of_length-le s h)

  pub one_byte : at < length s → length s - at < 2 → false ≡ is_tail (drop at s)
  unfolding is_tail
  one_byte h l =
      let e : drop (suc at) s ≡ [] = drop_of_length-le s {i = suc at} (omega arith) in
      rw (drop-cons s at 0 h, e) (sym (and-false (eqb (get_or s at 0) 99)))

  pub other_byte : 2 ≤ length s - at → (get_or s at 0 ≡ 99 → ⊥) → false ≡ is_tail (drop at s)
  unfolding is_tail
  other_byte h n =
      let l : at + 1 < length s = omega arith in
      rw (two l, ne_eqb (get_or s at 0) 99 n)

  pub comment : 2 ≤ length s - at → get_or s at 0 ≡ 99 → eqb (get_or s (at + 1) 0) 10 ≡ is_tail (drop at s)
  unfolding is_tail
  comment h e =
      let l : at + 1 < length s = omega arith in
      rw (two l, eq-eqb (get_or s at 0) 99 e) (sym (and-true (eqb (get_or s (at + 1) 0) 10)))
