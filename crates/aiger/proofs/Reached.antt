-- Clause 12.10: what is told of a search that is spent, part by part. Assumes nothing.
use mathlib.Core.Path.{◌≡◌}
use mathlib.Core.Bool.{Bool, ◌&&◌}
use Prim.Native.Nat.{ℕ, ◌+◌, ◌≤◌, ◌<◌, min}
use lib.Dec.{T, leb, ltb, eqb, leb→le, le→leb, ltb→lt, lt→ltb, eqb→eq}
use Rattle.aiger.specs.Search.{Question, Outcome, clear_from, greatest, tells, reached_right}
use Rattle.aiger.proofs.Tests.{and, and_left, and_right}

module _ (p : ℕ → Bool) (places lo D R : ℕ) where
  pub tells-parts : T (tells p places lo D R) → (min (lo + D) greatest ≤ R) × (R ≤ greatest) × (R < places) × T (clear_from p lo R)
  unfolding tells
  tells-parts h =
      let p1 = leb (min (lo + D) greatest) R in
      let p2 = leb R greatest in
      let p3 = ltb R places in
      let p4 = clear_from p lo R in
      let h3 = and_left (p1 && p2 && p3) p4 h in
      let h2 = and_left (p1 && p2) p3 h3 in (
        leb→le (min (lo + D) greatest) R (and_left p1 p2 h2),
        leb→le R greatest (and_right p1 p2 h2),
        ltb→lt R places (and_right (p1 && p2) p3 h3),
        and_right (p1 && p2 && p3) p4 h,
      )

  pub tells_all : min (lo + D) greatest ≤ R → R ≤ greatest → R < places → T (clear_from p lo R) → T (tells p places lo D R)
  unfolding tells
  tells_all far most fits clear =
      let p1 = leb (min (lo + D) greatest) R in
      let p2 = leb R greatest in
      let p3 = ltb R places in
      and (p1 && p2 && p3) (clear_from p lo R)
      (and (p1 && p2) p3 (and p1 p2 (le→leb (min (lo + D) greatest) R far) (le→leb R greatest most)) (lt→ltb R places fits)) clear

module _ (q : Question) (D R : ℕ) where
  -- where nothing is spent, nothing is reached
  pub found-reached : (t : ℕ) → T (reached_right q D (Outcome.found t) R) → R ≡ 0
  unfolding reached_right
  found-reached t h = eqb→eq R 0 h

  pub none-reached : (k : ℕ) → T (reached_right q D (Outcome.none k) R) → R ≡ 0
  unfolding reached_right
  none-reached k h = eqb→eq R 0 h

  -- where frame t is spent, its own places up to R are known
  pub spent-reached : (t : ℕ) → T (reached_right q D (Outcome.spent t) R) → T (tells (q.hitting t) (q.places t) 0 D R)
  unfolding reached_right
  spent-reached t h = h
