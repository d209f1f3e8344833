-- The tests of a search from a place: which one fails, and what holds where all pass. Assumes nothing.
use mathlib.Core.Path.{◌≡◌, sym, ap, ◌∙◌}
use mathlib.Core.Bool.{Bool, true, false, ◌&&◌}
use mathlib.Core.List.{List, [], ◌∷◌}
use Prim.Native.Nat.{ℕ, ◌+◌, ◌*◌, ◌^◌, ◌≤◌, ◌<◌}
use lib.Dec.{T, leb, ltb, leb→le, ltb→lt}
use lib.ListN.{length}
use Rattle.aiger.specs.Circuit.{Circuit}
use Rattle.aiger.specs.Frames.{free_starts, free_bits, size}
use Rattle.aiger.specs.Load.{refused, gives}
use Rattle.aiger.specs.Search.{greatest}
use Rattle.aiger.specs.Witness.{witness_length}
use Rattle.aiger.specs.Operations.{Test, need, judge, budget_right, size_test}
use Rattle.aiger.proofs.Tests.{T_true, and_left, and_right}
use Rattle.limits.specs.Limits.{line_tests}
use Rattle.limits.proofs.Refusals.{judge-refused, judge-rest, judge-first, judge-passed, length-refused, length-passes}
use Rattle.place_search.specs.Operation.{place_right, place_test, place_tests}
use Rattle.place_search.proofs.Refused.{judge-fail}

-- the free bits by the counts
pub bits-counted : (asked : Circuit) (t u n : ℕ) → u ≡ free_starts asked → n ≡ length asked.inputs → u + n * (t + 1) ≡ free_bits asked t
unfolding free_bits
bits-counted asked t u n e f = cc

-- what holds where all pass
pub record PlacePassed (asked c : Circuit) (b t place D room len : ℕ) : Type 0 where
  pub bad : b < length c.bads
  pub last : t ≤ 255
  pub some : 1 ≤ D
  pub most : D ≤ 4294967296
  pub start : place ≤ greatest
  pub below : place < 2 ^ free_bits asked t
  pub small : size c t ≤ 65536
  pub words : 16 * size c t ≤ room
  pub output : witness_length c b t ≤ len

module _ (asked c : Circuit) (b t place D room len : ℕ) where
  abbrev rest : List Test
  rest = size_test c t room ∷ need 13 (leb (witness_length c b t) len) ∷ []

  pub line_refused : (n : ℕ) → judge (line_tests c b t (budget_right D)) ≡ refused n → judge (place_tests asked c b t place D room len) ≡ refused n
  line_refused n e = judge-refused (line_tests c b t (budget_right D)) (place_test asked t place ∷ rest) n e

  module _ (line : judge (line_tests c b t (budget_right D)) ≡ gives tt) where
    pub place-refused : place_right (free_bits asked t) place ≡ false → judge (place_tests asked c b t place D room len) ≡ refused 19
    place-refused e =
        judge-rest (line_tests c b t (budget_right D)) (place_test asked t place ∷ rest) line
        ∙ judge-fail 19 (place_right (free_bits asked t) place) rest e

    module _ (right : place_right (free_bits asked t) place ≡ true) where
      to-rest : judge (place_tests asked c b t place D room len) ≡ judge rest
      to-rest =
          judge-rest (line_tests c b t (budget_right D)) (place_test asked t place ∷ rest) line
          ∙ judge-passed (place_test asked t place) rest (T_true right)

      pub size-refused : (n : ℕ) → judge (size_test c t room ∷ []) ≡ refused n → judge (place_tests asked c b t place D room len) ≡ refused n
      size-refused n e = to-rest ∙ judge-refused (size_test c t room ∷ []) (need 13 (leb (witness_length c b t) len) ∷ []) n e

      module _ (fits : judge (size_test c t room ∷ []) ≡ gives tt) where
        pub output-refused : len < witness_length c b t → judge (place_tests asked c b t place D room len) ≡ refused 13
        output-refused l = to-rest ∙ length-refused (size_test c t room ∷ []) fits (witness_length c b t) len l

        pub all_pass : witness_length c b t ≤ len → judge (place_tests asked c b t place D room len) ≡ gives tt
        all_pass l = to-rest ∙ length-passes (size_test c t room ∷ []) fits (witness_length c b t) len l

  pub place-passed : judge (place_tests asked c b t place D room len) ≡ gives tt → PlacePassed asked c b t place D room len
  place-passed e =
      let p1 = judge-first _ _ e in
      let p2 = judge-first _ _ p1.1 in
      let p3 = judge-first _ _ p2.1 in
      let p4 = judge-first _ _ p3.1 in
      let p5 = judge-first _ _ p4.1 in
      let budget = and_right (leb t 255) (budget_right D) p2.0 in
      record {
        bad = ltb→lt b (length c.bads) p1.0;
        last = leb→le t 255 (and_left (leb t 255) (budget_right D) p2.0);
        some = leb→le 1 D (and_left (leb 1 D) (leb D 4294967296) budget);
        most = leb→le D 4294967296 (and_right (leb 1 D) (leb D 4294967296) budget);
        start = leb→le place greatest (and_left (leb place greatest) (ltb place (2 ^ free_bits asked t)) p3.0);
        below = ltb→lt place (2 ^ free_bits asked t) (and_right (leb place greatest) (ltb place (2 ^ free_bits asked t)) p3.0);
        small = leb→le (size c t) 65536 (and_left (leb (size c t) 65536) (leb (16 * size c t) room) p4.0);
        words = leb→le (16 * size c t) room (and_right (leb (size c t) 65536) (leb (16 * size c t) room) p4.0);
        output = leb→le (witness_length c b t) len p5.0;
      }
