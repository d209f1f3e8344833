-- Laws of a run of lines: how long its lines are, the words that it stores, and what these words say. Assumes nothing.
use mathlib.Core.Path.{◌≡◌, refl, sym, ap, ap₂, ◌∙◌, subst}
use mathlib.Core.Bool.{Bool, true, ◌&&◌}
use mathlib.Core.List.{List, [], ◌∷◌, ◌++◌, map}
use mathlib.Core.Option.{some}
use Prim.Native.Nat.{ℕ, zero, suc, ◌+◌, ◌-◌, ◌*◌, ◌≤◌}
use native.Mathlib.Omega.{arith}
use lib.Dec.{T, leb, leb→le, le→leb}
use lib.ListN.{length, get_or, take, drop, length-append, length-drop}
use lib.Seq.{take_at, length-take-le, drop-append-add, drop-drop}
use Rattle.aiger.specs.Lists.{every}
use Rattle.aiger.specs.Text.{Token, spaced, ended, malformed, token, on_token, row, rows, when, ◌>>=◌}
use Rattle.aiger.specs.File.{first, latch, gate}
use Rattle.aiger.specs.Memory.{latch_words, gate_words}
use Rattle.aiger.proofs.Tests.{and, and_left, and_right}
use Rattle.roundtrip.proofs.LoadValid.{some-bind, some_same, rows-length}
use Rattle.lines.specs.Lines.{padded, flat, within, RowsRead}
use Rattle.lines.proofs.Storing.{every_append, within-padded}
use Rattle.lines.proofs.Lines.{length-flat}

abbrev Line : Type 0
Line = List ℕ × List ℕ

abbrev ShortRows : ℕ → Type 0
ShortRows most = (g : List ℕ) (r : Line) → row most g ≡ some r → length r.0 ≤ most

row_more : (most : ℕ) → ShortRows most → (t : Token) (r : Line)
    → on_token t (λ n g. row most g >>= λ q. some (n ∷ q.0, q.1)) (λ n g. some (n ∷ [], g)) ≡ some r → length r.0 ≤ suc most
row_more most k (spaced n g) r h =
    let a = some-bind (row most g) _ r h in
    let e : length (n ∷ a.0.0) ≡ length r.0 = ap (λ (x : Line). length x.0) (some_same a.2) in
    omega (arith, k g a.0 a.1)
row_more most k (ended n g) r h =
    let e : length (n ∷ []) ≡ length r.0 = ap (λ (x : Line). length x.0) (some_same h) in
    omega arith
row_more most k malformed r h = let z : ◌≡◌ {A = ℕ} 0 1 = cc in absurd (omega arith)

-- a line has no more numbers than were asked for
row-length : (most : ℕ) → ShortRows most
unfolding row
row-length zero g r h = let z : ◌≡◌ {A = ℕ} 0 1 = cc in absurd (omega arith)
row-length (suc most) g r h = row_more most (row-length most) (token g) r h

abbrev pub short : ℕ → List ℕ → Bool
short most r = leb (length r) most

-- no line of a run has
pub rows_short : (least most n : ℕ) (f : List ℕ) (r : List (List ℕ) × List ℕ) → rows least most n f ≡ some r → T (every (short most) r.0)
unfolding rows
rows_short least most zero f r h =
    let e : ◌≡◌ {A = List (List ℕ) × List ℕ} ([], f) r = some_same h in
    subst (λ (x : List (List ℕ) × List ℕ). T (every (short most) x.0)) e tt
rows_short least most (suc n) f r h =
    let a = some-bind (row most f) _ r h in
    let b = some-bind (when (leb least (length a.0.0))) _ r a.2 in
    let d = some-bind (rows least most n a.0.1) _ r b.2 in
    let e : ◌≡◌ {A = List (List ℕ) × List ℕ} (a.0.0 ∷ d.0.0, d.0.1) r = some_same d.2 in
    subst (λ (x : List (List ℕ) × List ℕ). T (every (short most) x.0)) e
    (and (short most a.0.0) (every (short most) d.0.0) (le→leb (length a.0.0) most (row-length most f a.0 a.1))
    (rows_short least most n a.0.1 d.0 d.1))

-- the numbers of short lines are within the limit where the words are that they make
pub within-flat : (limit most : ℕ) (ls : List (List ℕ)) → T (every (short most) ls) → every (within limit) ls ≡ within limit (flat most ls)
unfolding flat
within-flat limit most [] t = refl
within-flat limit most (r ∷ ls) t =
    let l = leb→le (length r) most (and_left (short most r) (every (short most) ls) t) in
    ap₂ (λ (a b : Bool). a && b) (sym (within-padded limit most r l))
    (within-flat limit most ls (and_right (short most r) (every (short most) ls) t))
    ∙ sym (every_append (λ x. leb x limit) (padded most r) (flat most ls))

-- lines as the words of literals, latches and gates

one_word : (r : List ℕ) → padded 1 r ≡ first r ∷ []
unfolding padded
one_word [] = refl
one_word (x ∷ r) = refl

three-words : (r : List ℕ) → padded 3 r ≡ get_or r 0 0 ∷ get_or r 1 0 ∷ get_or r 2 0 ∷ []
unfolding padded
three-words [] = refl
three-words (x ∷ []) = refl
three-words (x ∷ y ∷ []) = refl
three-words (x ∷ y ∷ z ∷ r) = refl

pub flat-ones : (ls : List (List ℕ)) → flat 1 ls ≡ map first ls
unfolding flat
flat-ones [] = refl
flat-ones (r ∷ ls) = rw (one_word r, flat-ones ls)

pub flat-latches : (ls : List (List ℕ)) → flat 3 ls ≡ latch_words (map latch ls)
unfolding flat latch_words
flat-latches [] = refl
flat-latches (r ∷ ls) = rw (three-words r, flat-latches ls)

pub flat-gates : (ls : List (List ℕ)) → flat 3 ls ≡ gate_words (map gate ls)
unfolding flat gate_words
flat-gates [] = refl
flat-gates (r ∷ ls) = rw (three-words r, flat-gates ls)

-- the first n words are xs
pub record Begins (w : List ℕ) (n : ℕ) (xs : List ℕ) : Type 0 where
  pub size : length xs ≡ n
  pub words : take n w ≡ xs

module _ {s : List ℕ} {at least most n limit : ℕ} {w : List ℕ} {from : ℕ} {w' : List ℕ} {next : ℕ} {fits : Bool}
    (r : RowsRead s at least most n limit w from w' next fits) where
  -- so many lines were read
  pub lines-length : length r.lines ≡ n
  lines-length = rows-length least most n (drop at s) (r.lines, drop next s) r.meaning

  -- the test is that of the words
  pub run_fits : fits ≡ within limit (flat most r.lines)
  run_fits = r.tested ∙ within-flat limit most r.lines (rows_short least most n (drop at s) (r.lines, drop next s) r.meaning)

  -- the words of the lines stand after those before
  pub run-begins : {xs : List ℕ} → fits ≡ true → Begins w from xs → Begins w' (from + n * most) (xs ++ flat most r.lines)
  run-begins {xs} t b =
      let many : length (flat most r.lines) ≡ n * most = length-flat most r.lines ∙ ap (λ (k : ℕ). k * most) lines-length in
      let size : length (xs ++ flat most r.lines) ≡ from + n * most =
      length-append xs (flat most r.lines) ∙ ap₂ (λ (a c : ℕ). a + c) b.size many in
      let e : w' ≡ xs ++ flat most r.lines ++ drop (from + n * most) w =
      r.contents t ∙ ap (λ (ys : List ℕ). ys ++ flat most r.lines ++ drop (from + n * most) w) b.words in
      record {
        size = size;
        words = ap (take (from + n * most)) e ∙ take_at (xs ++ flat most r.lines) (drop (from + n * most) w) (from + n * most) size;
      }

-- m words ys are stored from `from` on: what stands from `end` on stays, and so does the number of words
pub past : (w : List ℕ) {w₁ : List ℕ} (ys : List ℕ) (from m end : ℕ) → w₁ ≡ take from w ++ ys ++ drop (from + m) w → length ys ≡ m
    → from + m ≤ end → end ≤ length w → (drop end w₁ ≡ drop end w) × (length w₁ ≡ length w)
past w ys from m end e l h k =
    let front : List ℕ = take from w ++ ys in
    let size : length front ≡ from + m =
    length-append (take from w) ys ∙ ap₂ (λ (a b : ℕ). a + b) (length-take-le from w (omega arith)) l in
    let d = end - (from + m) in
    let there : end ≡ length front + d = omega (arith, size) in
    let back : from + m + d ≡ end = omega arith in (
      ap (drop end) e ∙ ap (λ (j : ℕ). drop j (front ++ drop (from + m) w)) there ∙ drop-append-add front (drop (from + m) w) d
          ∙ drop-drop d (from + m) w
          ∙ ap (λ (j : ℕ). drop j w) back,
      ap length e ∙ length-append front (drop (from + m) w) ∙ omega (arith, size, length-drop (from + m) w),
    )

-- and the words of a run of lines
pub run_past : {s : List ℕ} {at least most n limit : ℕ} {w : List ℕ} {from : ℕ} {w₁ : List ℕ} {next : ℕ} {fits : Bool}
    (r : RowsRead s at least most n limit w from w₁ next fits) → fits ≡ true → (end : ℕ) → from + n * most ≤ end → end ≤ length w
    → (drop end w₁ ≡ drop end w) × (length w₁ ≡ length w)
run_past {most = most} {n = n} {w = w} {from = from} r e end h k =
    past w (flat most r.lines) from (n * most) end (r.contents e)
    (length-flat most r.lines ∙ ap (λ (j : ℕ). j * most) (lines-length r)) h k
