-- Laws of storing a line: padding, narrowing, and a run of stores. Assumes nothing.
use mathlib.Core.Path.{◌≡◌, refl, sym, ap, ◌∙◌}
use mathlib.Core.Bool.{Bool, true, ◌&&◌}
use mathlib.Core.List.{List, [], ◌∷◌, ◌++◌, map}
use Prim.Native.Nat.{ℕ, zero, suc, ◌+◌, ◌≤◌, ◌<◌}
use native.Mathlib.Nat.{add-zero}
use native.Mathlib.Numerals.{add-one}
use native.Mathlib.Omega.{arith}
use borrow.Author.Tests.{le-leb, lt-leb}
use lib.Dec.{T, leb}
use lib.ListN.{length, get_or, take, set, replicate, length-map}
use lib.Seq.{sets, take-suc, length-take-le, length-sets}
use Rattle.aiger.specs.Lists.{every}
use Rattle.aiger.proofs.Tests.{and_left, and_right, true-T}
use Rattle.lines.proofs.Tests.{and-true, and_assoc}
use Rattle.lines.specs.Lines.{padded, narrowed, within, Stored}

pub narrowed-within : (limit v : ℕ) → v ≤ limit → v ≡ narrowed limit v
unfolding narrowed
narrowed-within limit v h = rw (le-leb v limit h)

pub narrowed-above : (limit v : ℕ) → limit < v → 0 ≡ narrowed limit v
unfolding narrowed
narrowed-above limit v h = rw (lt-leb v limit h)

-- numbers within the limit are stored as they are
pub narrowed-all : (limit : ℕ) (xs : List ℕ) → T (within limit xs) → map (narrowed limit) xs ≡ xs
unfolding narrowed
narrowed-all limit [] t = refl
narrowed-all limit (x ∷ xs) t =
    rw (true-T (leb x limit) (and_left (leb x limit) (within limit xs) t), narrowed-all limit xs (and_right (leb x limit) (within limit xs) t))

pub every_append : {A : Type 0} (p : A → Bool) (xs ys : List A) → every p (xs ++ ys) ≡ (every p xs && every p ys)
every_append p [] ys = refl
every_append p (x ∷ xs) ys = rw (every_append p xs ys) (sym (and_assoc (p x) (every p xs) (every p ys)))

pub every-snoc : {A : Type 0} (p : A → Bool) (xs : List A) (y : A) → every p (xs ++ (y ∷ [])) ≡ (every p xs && p y)
every-snoc p xs y = rw (every_append p xs (y ∷ []), and-true (p y))

pub map-append : (f : ℕ → ℕ) (xs ys : List ℕ) → map f (xs ++ ys) ≡ map f xs ++ map f ys
map-append f [] ys = refl
map-append f (x ∷ xs) ys = rw (map-append f xs ys)

-- one run of stores after another
pub sets-append : (l xs ys : List ℕ) (i : ℕ) → sets (sets l i xs) (i + length xs) ys ≡ sets l i (xs ++ ys)
sets-append l [] ys i = rw (add-zero i)
sets-append l (x ∷ xs) ys i =
    let e : i + suc (length xs) ≡ suc i + length xs = omega arith in
    rw e (sets-append (set l i x) xs ys (suc i))

-- the first k words are stored, and tested
pub record Storing (words : List ℕ) (most limit : ℕ) (before : List ℕ) (from : ℕ) (out : List ℕ) (fits : Bool) (k : ℕ) : Type 0 where
  pub few : k ≤ most
  pub kept : length out ≡ length before
  pub tested : fits ≡ within limit (take k words)
  pub contents : out ≡ sets before from (map (narrowed limit) (take k words))

pub start : (words : List ℕ) (most limit : ℕ) (out : List ℕ) (from : ℕ) → Storing words most limit out from out true 0
start words most limit out from = record { few = omega arith; kept = refl; tested = refl; contents = refl }

module _ (words : List ℕ) (most limit : ℕ) (before : List ℕ) (from : ℕ) (out : List ℕ) (fits : Bool) (k : ℕ)
    (st : Storing words most limit before from out fits k) where
  pub more : (v : ℕ) → k < most → most ≤ length words → v ≡ narrowed limit (get_or words k 0)
      → Storing words most limit before from (set out (from + k) v) (fits && leb (get_or words k 0) limit) (k + 1)
  more v h room e =
      let w : k < length words = omega arith in
      let one : take (k + 1) words ≡ take k words ++ (get_or words k 0 ∷ []) = rw (add-one k, take-suc words k 0 w) in
      let stored = map (narrowed limit) (take k words) in
      let many : length stored ≡ k = length-map (take k words) (narrowed limit) ∙ length-take-le k words (omega arith) in
      let longer : map (narrowed limit) (take (k + 1) words) ≡ stored ++ (v ∷ []) = rw (one, map-append (narrowed limit) (take k words), ← e) in
      let written : set out (from + k) v ≡ sets before from (map (narrowed limit) (take (k + 1) words)) =
      rw (longer, ← sets-append before stored (v ∷ []) from, many, ← st.contents) in
      record {
        few = omega arith;
        kept = ap length written ∙ length-sets before from (map (narrowed limit) (take (k + 1) words));
        tested = rw (one, every-snoc (λ x. leb x limit) (take k words) (get_or words k 0), st.tested);
        contents = written;
      }

  pub end : most ≤ k → Stored words most limit before from out fits
  end h =
      let e : k ≡ most = omega arith in
      record { tested = rw (← e) st.tested; contents = rw (← e) st.contents }

-- the words of a line in a buffer of zeros
pub padded-take : (most count : ℕ) (words : List ℕ)
    → most ≤ length words → ((i : ℕ) → count ≤ i → get_or words i 0 ≡ 0) → take most words ≡ padded most (take count words)
unfolding padded
padded-take zero count words room z = refl
padded-take (suc most) count [] room z = absurd (omega arith)
padded-take (suc most) zero (w ∷ words) room z =
    rw (z 0 (omega arith), padded-take most zero words (omega arith) (λ i h. z (suc i) (omega arith)))
padded-take (suc most) (suc count) (w ∷ words) room z =
    rw (padded-take most count words (omega arith) (λ i h. z (suc i) (omega arith)))

pub length-padded : (k : ℕ) (r : List ℕ) → length (padded k r) ≡ k
unfolding padded
length-padded zero r = refl
length-padded (suc k) [] = rw (length-padded k [])
length-padded (suc k) (x ∷ r) = rw (length-padded k r)

leb-zero : (limit : ℕ) → leb 0 limit ≡ true
leb-zero limit = le-leb 0 limit (omega arith)

-- padding changes no test
pub within-padded : (limit k : ℕ) (r : List ℕ) → length r ≤ k → within limit (padded k r) ≡ within limit r
unfolding padded
within-padded limit zero [] h = refl
within-padded limit zero (x ∷ r) h = absurd (omega arith)
within-padded limit (suc k) [] h = rw (leb-zero limit) (within-padded limit k [] (omega arith))
within-padded limit (suc k) (x ∷ r) h = rw (within-padded limit k r (omega arith))

pub padded-within : (limit k : ℕ) (r : List ℕ) → T (within limit r) → T (within limit (padded k r))
unfolding padded
padded-within limit zero r t = tt
padded-within limit (suc k) [] t = rw (leb-zero limit) (padded-within limit k [] tt)
padded-within limit (suc k) (x ∷ r) t =
    rw (true-T (leb x limit) (and_left (leb x limit) (within limit r) t)) (padded-within limit k r (and_right (leb x limit) (within limit r) t))

pub zeros : (n j : ℕ) → get_or {A = ℕ} (replicate n 0) j 0 ≡ 0
zeros zero j = refl
zeros (suc n) zero = refl
zeros (suc n) (suc j) = zeros n j
