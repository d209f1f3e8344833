-- Clause 12.10: the place that is told of a frame that is spent in a search of all frames. Assumes nothing.
use mathlib.Core.Path.{◌≡◌, refl, sym, ap, ◌∙◌, subst}
use mathlib.Core.Bool.{Bool, cond}
use mathlib.Core.List.{List}
use Prim.Native.Nat.{ℕ, ◌+◌, ◌^◌, ◌≤◌, ◌<◌, min, max}
use native.Mathlib.Omega.{arith}
use borrow.Author.Tests.{le-leb, lt-leb}
use lib.Dec.{leb}
use Rattle.aiger.specs.Circuit.{Circuit}
use Rattle.aiger.specs.Frames.{free_bits}
use Rattle.aiger.specs.Search.{reaches, greatest}
use Rattle.support.specs.Support.{support}
use Rattle.support.proofs.Counting.{passed-least}
use Rattle.unroll.specs.Chosen.{unrolled}
use Rattle.place_search.proofs.Answers.{tells-in}
use Rattle.decision.specs.Reach.{tried_by, reached_by, tried, floor_of, end_of, reached}
use Rattle.decision.specs.Decided.{SpentAt}
use Rattle.place_decision.specs.Reach.{reached_told}
use Rattle.place_decision.specs.Decided.{number_of, ReachedIs}
use Rattle.place_decision.proofs.Numbers.{number_is}

module _ (c : Circuit) (b t D n R : ℕ) (work : List ℕ) (e : n ≡ free_bits c t) (s : SpentAt c b t D work) where
  -- any number up to the one that was reached may be told, if it is D or more and not above the greatest
  tell-any : min D greatest ≤ R → R ≤ greatest → R ≤ reached c b t D → R ≡ reached_told c b t D → ReachedIs c b t D R
  tell-any far most up is =
      record {
        is = is;
        told =
            tells-in (reaches c b t) (2 ^ free_bits c t) 0 D R
            (record { far = omega (arith, far); told = most; fits = omega (arith, s.most); none = λ x a h. s.none x (omega arith) });
      }

  pub told-few : n ≤ 1024 → R ≡ min greatest (min 9223372036854775808 (number_of work n)) → ReachedIs c b t D R
  unfolding reached_told greatest
  told-few l q =
      let k : free_bits c t ≤ 1024 = omega (arith, e) in
      let number : number_of work n ≡ reached c b t D =
      ap (number_of work) e ∙ number_is work (free_bits c t) (reached c b t D) s.most (s.bits k) in
      let is : R ≡ min greatest (reached c b t D) = omega (arith, q, number) in
      tell-any (omega (arith, s.least)) (omega arith) (omega arith)
      (is ∙ sym (ap (λ (x : Bool). cond x (min greatest (reached c b t D)) (max D 16384)) (le-leb (free_bits c t) 1024 k)))

  pub told-many : 1024 < n → D ≤ 4294967296 → R ≡ max D 16384 → ReachedIs c b t D R
  unfolding reached_told greatest reached_by tried_by
  told-many l few q =
      let k : 1024 < free_bits c t = omega (arith, e) in
      let z = end_of (free_bits c t) (unrolled c b t).gates (unrolled c b t).edge (max D 16384) (floor_of c b t D) in
      let end : reached c b t D ≡ tried c b t D = ap (λ (x : Bool). cond x z (tried c b t D)) (lt-leb (free_bits c t) 1024 k) in
      let least = passed-least (support (free_bits c t) (unrolled c b t).gates (unrolled c b t).edge) (free_bits c t) (max D 16384) in
      tell-any (omega arith) (omega arith) (omega (arith, end, least, s.most))
      (q ∙ sym (ap (λ (x : Bool). cond x (min greatest (reached c b t D)) (max D 16384)) (lt-leb (free_bits c t) 1024 k)))
