-- The answers of the operation generate. Assumes nothing.
use mathlib.Core.Path.{◌≡◌}
use mathlib.Core.Bool.{true, false, ◌&&◌}
use mathlib.Core.List.{List}
use Prim.Native.Nat.{ℕ, ◌≤◌, ◌<◌}
use native.Mathlib.Omega.{arith}
use borrow.Author.Tests.{le-leb, lt-leb}
use lib.Dec.{T, leb, leb→le}
use lib.ListN.{length}
use Rattle.aiger.proofs.Tests.{T_true, and_left, and_right}
use Rattle.aiger.specs.Load.{refused, gives}
use Rattle.aiger.specs.Operations.{front, judge}
use Rattle.generated.specs.Generated.{generated_text, few_enough, counts_permitted, generate_tests, Generated}

-- counts that are permitted one by one
pub few-facts : (i l a : ℕ) → few_enough i l a ≡ true → (i ≤ 256) × (l ≤ 1024) × (a ≤ 3072)
few-facts i l a e =
    let t : T (few_enough i l a) = T_true e in
    let u = and_left (leb i 256 && leb l 1024) (leb a 3072) t in (
      leb→le i 256 (and_left (leb i 256) (leb l 1024) u),
      leb→le l 1024 (and_right (leb i 256) (leb l 1024) u),
      leb→le a 3072 (and_right (leb i 256 && leb l 1024) (leb a 3072) t),
    )

module _ (s I L A : ℕ) (out : List ℕ) where
  -- counts that are not permitted
  pub not-permitted : counts_permitted I L A ≡ false → Generated s I L A out (refused 3) out
  unfolding judge
  not-permitted e = Generated.refuses {n = 3} (rw e)

  module _ (e : counts_permitted I L A ≡ true) {n : ℕ} (q : n ≡ length (generated_text s I L A)) where
    -- the text is too long
    pub too_long : length out < n → Generated s I L A out (refused 13) out
    unfolding judge
    too_long l = Generated.refuses {n = 13} (rw (e, lt-leb (length (generated_text s I L A)) (length out) (omega arith)))

    -- the text fits and is written
    pub fitting : n ≤ length out → {out' : List ℕ} → out' ≡ front (generated_text s I L A) out → Generated s I L A out (gives n) out'
    unfolding judge
    fitting l p = rw (q, p) (Generated.writes (rw (e, le-leb (length (generated_text s I L A)) (length out) (omega arith))))
