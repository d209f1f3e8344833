-- The tests of an operation: which one fails, and what holds where all pass. Assumes nothing.
use mathlib.Core.Path.{◌≡◌, refl, sym, ap, ◌∙◌}
use mathlib.Core.Bool.{Bool, true, false, cond, ◌&&◌}
use mathlib.Core.List.{List, [], ◌∷◌, ◌++◌}
use Prim.Native.Nat.{ℕ, ◌*◌, ◌≤◌, ◌<◌}
use native.Mathlib.Omega.{arith}
use borrow.Author.Tests.{lt-ltb, le-ltb, le-leb, lt-leb, eq-eqb, ne_eqb}
use lib.Dec.{T, leb, ltb, leb→le, ltb→lt}
use lib.ListN.{length}
use Rattle.aiger.specs.Circuit.{Circuit}
use Rattle.aiger.specs.Load.{Answer, refused, gives}
use Rattle.aiger.specs.Frames.{size}
use Rattle.aiger.specs.Operations.{Test, need, judge, size_test, bound_tests}
use Rattle.aiger.proofs.Tests.{and_left, and_right}
use Rattle.limits.specs.Limits.{line_tests}

-- ---- any tests

-- where the first tests refuse, so do all
pub judge-refused : (xs ys : List Test) (n : ℕ) → judge xs ≡ refused n → judge (xs ++ ys) ≡ refused n
unfolding judge
judge-refused [] ys n e = let z : ◌≡◌ {A = ℕ} 0 1 = cc in absurd (omega arith)
judge-refused (x ∷ xs) ys n e = go x.passes e (judge-refused xs ys n)
  where
    go : (p : Bool) → cond p (judge xs) (refused x.number) ≡ refused n → (judge xs ≡ refused n → judge (xs ++ ys) ≡ refused n)
        → cond p (judge (xs ++ ys)) (refused x.number) ≡ refused n
    go true q h = h q
    go false q h = q

-- where they pass, the others decide
pub judge-rest : (xs ys : List Test) → judge xs ≡ gives tt → judge (xs ++ ys) ≡ judge ys
unfolding judge
judge-rest [] ys e = refl
judge-rest (x ∷ xs) ys e = go x.passes e (judge-rest xs ys)
  where
    go : (p : Bool) → cond p (judge xs) (refused x.number) ≡ gives tt → (judge xs ≡ gives tt → judge (xs ++ ys) ≡ judge ys)
        → cond p (judge (xs ++ ys)) (refused x.number) ≡ judge ys
    go true q h = h q
    go false q h = let z : ◌≡◌ {A = ℕ} 0 1 = cc in absurd (omega arith)

-- where all pass, the first does, and the others
pub judge-first : (x : Test) (xs : List Test) → judge (x ∷ xs) ≡ gives tt → T x.passes × (judge xs ≡ gives tt)
unfolding judge
judge-first x xs e = go x.passes e
  where
    go : (p : Bool) → cond p (judge xs) (refused x.number) ≡ gives tt → T p × (judge xs ≡ gives tt)
    go true q = (tt, q)
    go false q = let z : ◌≡◌ {A = ℕ} 0 1 = cc in absurd (omega arith)

-- a refusal with another number than the first test's is one of the others
pub judge-past : (x : Test) (xs : List Test) (n : ℕ) → (x.number ≡ n → ⊥) → judge (x ∷ xs) ≡ refused n → T x.passes × (judge xs ≡ refused n)
unfolding judge
judge-past x xs n h e = go x.passes e
  where
    go : (p : Bool) → cond p (judge xs) (refused x.number) ≡ refused n → T p × (judge xs ≡ refused n)
    go true q = (tt, q)
    go false q = let z : x.number ≡ n = cc in absurd (h z)

-- a test that passes leaves it to the others
pub judge-passed : (x : Test) (xs : List Test) → T x.passes → judge (x ∷ xs) ≡ judge xs
unfolding judge
judge-passed x xs t = go x.passes t
  where
    go : (p : Bool) → T p → cond p (judge xs) (refused x.number) ≡ judge xs
    go true q = refl
    go false q = absurd q

-- a last test that passes does not refuse
pub judge-last : (n m : ℕ) (p : Bool) → T p → judge (need n p ∷ []) ≡ refused m → ⊥
unfolding judge
judge-last n m true t e = let z : ◌≡◌ {A = ℕ} 0 1 = cc in omega arith
judge-last n m false t e = t

-- the last test, of an output of len bytes that needs n, where the others pass
module _ (xs : List Test) (e : judge xs ≡ gives tt) (n len : ℕ) where
  abbrev length_test : List Test
  length_test = need 13 (leb n len) ∷ []

  pub length-refused : len < n → judge (xs ++ length_test) ≡ refused 13
  unfolding judge
  length-refused l = judge-rest xs length_test e ∙ rw (lt-leb n len l)

  pub length-passes : n ≤ len → judge (xs ++ length_test) ≡ gives tt
  unfolding judge
  length-passes l = judge-rest xs length_test e ∙ rw (le-leb n len l)

pub length-enough : (n len : ℕ) → judge (need 13 (leb n len) ∷ []) ≡ gives tt → n ≤ len
length-enough n len e = leb→le n len (judge-first (need 13 (leb n len)) [] e).0

-- ---- the tests 10 to 12

-- what holds where they pass
pub record Passed (c : Circuit) (b k : ℕ) (budget : Bool) (room : ℕ) : Type 0 where
  pub bad : b < length c.bads
  pub bound : k ≤ 255
  pub right : T budget
  pub small : size c k ≤ 65536
  pub words : 16 * size c k ≤ room

module _ (c : Circuit) (b k : ℕ) (budget : Bool) where
  pub bad-refused : length c.bads ≤ b → judge (line_tests c b k budget) ≡ refused 10
  unfolding judge
  bad-refused h = rw (le-ltb b (length c.bads) h)

  module _ (h : b < length c.bads) where
    pub bound-refused : 255 < k → judge (line_tests c b k budget) ≡ refused 11
    unfolding judge
    bound-refused l = rw (lt-ltb b (length c.bads) h, lt-leb k 255 l)

    module _ (l : k ≤ 255) where
      pub budget-refused : budget ≡ false → judge (line_tests c b k budget) ≡ refused 11
      unfolding judge
      budget-refused e = rw (lt-ltb b (length c.bads) h, le-leb k 255 l, e)

      pub line-passes : budget ≡ true → judge (line_tests c b k budget) ≡ gives tt
      unfolding judge
      line-passes e = rw (lt-ltb b (length c.bads) h, le-leb k 255 l, e)

module _ (c : Circuit) (k room : ℕ) where
  pub size-refused : 65536 < size c k → judge (size_test c k room ∷ []) ≡ refused 12
  unfolding judge
  size-refused z = rw (lt-leb (size c k) 65536 z)

  module _ (q : size c k ≤ 65536) where
    pub room-refused : room < 16 * size c k → judge (size_test c k room ∷ []) ≡ refused 12
    unfolding judge
    room-refused z = rw (le-leb (size c k) 65536 q, lt-leb (16 * size c k) room z)

    pub size-passes : 16 * size c k ≤ room → judge (size_test c k room ∷ []) ≡ gives tt
    unfolding judge
    size-passes z = rw (le-leb (size c k) 65536 q, le-leb (16 * size c k) room z)

module _ (c : Circuit) (b k : ℕ) (budget : Bool) (room : ℕ) where
  pub passes : b < length c.bads → k ≤ 255 → budget ≡ true → size c k ≤ 65536 → 16 * size c k ≤ room
      → judge (bound_tests c b k budget room) ≡ gives tt
  passes h l e q z = judge-rest (line_tests c b k budget) (size_test c k room ∷ []) (line-passes c b k budget h l e) ∙ size-passes c k room q z

  -- where these tests and the others pass
  pub passed : (ys : List Test) → judge (bound_tests c b k budget room ++ ys) ≡ gives tt → Passed c b k budget room × (judge ys ≡ gives tt)
  passed ys e =
      let a = judge-first _ _ e in
      let d = judge-first _ _ a.1 in
      let f = judge-first _ _ d.1 in (
        record {
          bad = ltb→lt b (length c.bads) a.0;
          bound = leb→le k 255 (and_left (leb k 255) budget d.0);
          right = and_right (leb k 255) budget d.0;
          small = leb→le (size c k) 65536 (and_left (leb (size c k) 65536) (leb (16 * size c k) room) f.0);
          words = leb→le (16 * size c k) room (and_right (leb (size c k) 65536) (leb (16 * size c k) room) f.0);
        },
        f.1,
      )
