-- The lent memories suffice: numbers 4 and 13 do not occur, and 12 only for a size above 65,536. Clause 6.4. Assumes nothing.
use mathlib.Core.Path.{◌≡◌, refl, sym, ap, ◌∙◌}
use mathlib.Core.Bool.{Bool, true, false, ◌&&◌}
use mathlib.Core.List.{List, [], ◌∷◌}
use mathlib.Core.Option.{Option, none, some}
use Prim.Native.Nat.{ℕ, ◌+◌, ◌*◌, ◌≤◌, ◌<◌}
use native.Mathlib.Decide.{dec_lt}
use native.Mathlib.Omega.{arith}
use borrow.Author.Tests.{le-leb}
use lib.Dec.{leb, leb→le, le→leb}
use lib.ListN.{length}
use Rattle.aiger.specs.Circuit.{Circuit, literals_right, used_defined, acyclic}
use Rattle.aiger.specs.File.{Header, is_binary, header, count_tests, counts_fit, counts_right, body}
use Rattle.aiger.specs.Load.{Answer, refused, gives, test, read, sections, load, needed, ◌>>=◌, ◌>>◌}
use Rattle.aiger.specs.Frames.{size}
use Rattle.aiger.specs.Operations.{Test, need, judge, bad_test, fold_tests}
use Rattle.aiger.proofs.Tests.{T_true, and, and_left, all-at}
use Rattle.roundtrip.proofs.LoadValid.{right-fit}
use Rattle.numbering.proofs.Reading.{sections-causes, refused-read}
use Rattle.replies.proofs.Loading.{past, given}
use Rattle.limits.proofs.Refusals.{judge-past, judge-passed, judge-last}

-- load, from number 6 on, and from number 3 on
abbrev judged : Circuit → Answer Circuit
judged c = test 6 (literals_right c) >> (test 7 (used_defined c) >> (test 8 (acyclic c) >> gives c))

not-four : (c : Circuit) → judged c ≡ refused 4 → ⊥
not-four c e =
    let x6 = past 6 4 (literals_right c) (test 7 (used_defined c) >> (test 8 (acyclic c) >> gives c)) (λ q. omega arith) e in
    let x7 = past 7 4 (used_defined c) (test 8 (acyclic c) >> gives c) (λ q. omega arith) x6.1 in
    given (past 8 4 (acyclic c) (gives c) (λ q. omega arith) x7.1).1

-- a refusal 4 of a chain whose first part does not give it is that of the rest
past-answer : {A B : Type 0} (a : Answer A) (f : A → Answer B) → (a ≡ refused 4 → ⊥) → (a >>= f) ≡ refused 4 → (x : A) × (f x ≡ refused 4)
past-answer (refused n) f h e = let z : n ≡ 4 = cc in absurd (h (ap refused z))
past-answer (gives x) f h e = (x, e)

read-not-four : {A : Type 0} (n : ℕ) (o : Option A) → (n ≡ 4 → ⊥) → read n o ≡ refused 4 → ⊥
read-not-four n none h e = let z : n ≡ 4 = cc in h z
read-not-four n (some x) h e = given e

-- the sections of a file are refused with 5 or 15
sections-not-four : (binary : Bool) (h : Header) (f : List ℕ) → sections binary h f ≡ refused 4 → ⊥
unfolding sections
sections-not-four false h f e = read-not-four 5 (body h f) (λ q. omega arith) e
sections-not-four true h f e = sections-causes h f 4 e (λ q. omega arith) (λ q. omega arith)

abbrev rest : Bool → Header × List ℕ → Answer Circuit
rest binary h = test 3 (counts_right binary h.0) >> (test 4 (leb (needed h.0.M) 33032) >> (sections binary h.0 h.1 >>= judged))

fits : (h : Header) → counts_fit h ≡ true → needed h.M ≤ 33032
unfolding counts_fit
fits h e = omega (arith, leb→le h.M 4096 (all-at (count_tests h) (T_true e) 0))

rest-not-four : (binary : Bool) (h : Header × List ℕ) → rest binary h ≡ refused 4 → ⊥
rest-not-four binary h e =
    let after = sections binary h.0 h.1 >>= judged in
    let m = leb (needed h.0.M) 33032 in
    let x3 = past 3 4 (counts_right binary h.0) (test 4 m >> after) (λ q. omega arith) e in
    let t : m ≡ true = le-leb (needed h.0.M) 33032 (fits h.0 (right-fit binary h.0 x3.0)) in
    let x4 : after ≡ refused 4 = rw t at x3.1 in
    let x5 = past-answer (sections binary h.0 h.1) judged (sections-not-four binary h.0 h.1) x4 in
    not-four x5.0 x5.1

pub memory-suffices : (f : List ℕ) → load 33032 f ≡ refused 4 → ⊥
unfolding load
memory-suffices f e =
    let x1 = past 1 4 (leb 1 (length f) && leb (length f) 65536) (read 2 (header f) >>= rest (is_binary f)) (λ q. omega arith) e in
    let x2 = refused-read 2 4 (header f) (rest (is_binary f)) (λ q. omega arith) x1.1 in
    rest-not-four (is_binary f) x2.0 x2.1

module _ (c : Circuit) (b t : ℕ) where
  abbrev bytes-needed : Bool
  bytes-needed = leb (24 * size c t + 64) 1572928

  abbrev words-needed : Bool
  words-needed = leb (size c t) 65536 && leb (16 * size c t) 1048576

  abbrev last : List Test
  last = need 13 bytes-needed ∷ []

  -- the tests before number 12 are passed
  sized : (n : ℕ) → (10 ≡ n → ⊥) → (11 ≡ n → ⊥) → judge (fold_tests c b t 1048576 1572928) ≡ refused n → judge (need 12 words-needed ∷ last) ≡ refused n
  sized n p q e =
      let after = need 12 words-needed ∷ last in
      let x = judge-past (bad_test c b) (need 11 (leb t 255 && true) ∷ after) n p e in
      (judge-past (need 11 (leb t 255 && true)) after n q x.1).1

  pub output-suffices : judge (fold_tests c b t 1048576 1572928) ≡ refused 13 → ⊥
  output-suffices e =
      let x = judge-past (need 12 words-needed) last 13 (λ q. omega arith) (sized 13 (λ q. omega arith) (λ q. omega arith) e) in
      let s = leb→le (size c t) 65536 (and_left (leb (size c t) 65536) (leb (16 * size c t) 1048576) x.0) in
      judge-last 13 13 bytes-needed (le→leb (24 * size c t + 64) 1572928 (omega arith)) x.1

  pub work-suffices : judge (fold_tests c b t 1048576 1572928) ≡ refused 12 → 65536 < size c t
  work-suffices e =
      elim (dec_lt 65536 (size c t)) [
        | yes l ↦ l
        | no l ↦
            let s = le→leb (size c t) 65536 (omega arith) in
            let w = le→leb (16 * size c t) 1048576 (omega arith) in
            let f = le→leb (24 * size c t + 64) 1572928 (omega arith) in
            let p = and (leb (size c t) 65536) (leb (16 * size c t) 1048576) s w in
            let r : judge (need 12 words-needed ∷ last) ≡ refused 12 = sized 12 (λ q. omega arith) (λ q. omega arith) e in
            absurd (judge-last 13 12 bytes-needed f (sym (judge-passed (need 12 words-needed) last p) ∙ r))
      ]
