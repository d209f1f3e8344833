-- Laws of the header: its name, its numbers in a buffer of zeros, and their limits. Assumes nothing.
use mathlib.Core.Path.{◌≡◌, refl, sym, ap, ◌∙◌}
use mathlib.Core.Bool.{Bool, true, false, ◌&&◌, ◌||◌}
use mathlib.Core.List.{List, [], ◌∷◌, ◌++◌}
use mathlib.Core.Option.{none, some}
use Prim.Native.Nat.{ℕ, ◌+◌, ◌^◌, ◌≤◌, ◌<◌}
use native.Mathlib.Decide.{dec_lt}
use native.Mathlib.Omega.{arith}
use borrow.Author.Tests.{le-leb, lt-leb, leb-true}
use lib.Dec.{T, leb, eqb, leb→le}
use lib.ListN.{length, get_or, take, drop, get_or-eq_default}
use lib.Seq.{get_or-take, length-take-le}
use Rattle.aiger.specs.Lists.{all}
use Rattle.aiger.specs.Text.{row}
use Rattle.aiger.specs.File.{is_text, is_binary, header, counts, count_tests, counts_fit, counts_right}
use Rattle.aiger.proofs.Tests.{true-T, T_true, all-at}
use Rattle.lines.proofs.Tests.{and-true, and-false, and_assoc}
use Rattle.lines.specs.Lines.{RowRead}
use Rattle.headers.specs.Header.{counts_of, counts_meant, HeaderAt, named, limits_hold}
use Rattle.headers.specs.declared.Counts.{Counts}
use Rattle.std.specs.Prelude.{Some, None}

-- the name

pub named-short : (l : ℕ) (s : List ℕ) → length s < 4 → false ≡ named l s
named-short l [] h = refl
named-short l (a ∷ []) h = rw (and-false (eqb a 97))
named-short l (a ∷ b ∷ []) h = rw (and-false (eqb b l), and-false (eqb a 97))
named-short l (a ∷ b ∷ c ∷ []) h = rw (and-false (eqb c 103), and-false (eqb b l), and-false (eqb a 97))
named-short l (a ∷ b ∷ c ∷ d ∷ s) h = absurd (omega arith)

grouped : (a b c d : Bool) → (a && b && c && d) ≡ (a && (b && (c && (d && true))))
grouped true true true d = sym (and-true d)
grouped true true false d = refl
grouped true false c d = refl
grouped false b c d = refl

pub named-long : (l : ℕ) (s : List ℕ) → 4 ≤ length s
    → (eqb (get_or s 0 0) 97 && eqb (get_or s 1 0) l && eqb (get_or s 2 0) 103 && eqb (get_or s 3 0) 32) ≡ named l s
named-long l [] h = absurd (omega arith)
named-long l (a ∷ []) h = absurd (omega arith)
named-long l (a ∷ b ∷ []) h = absurd (omega arith)
named-long l (a ∷ b ∷ c ∷ []) h = absurd (omega arith)
named-long l (a ∷ b ∷ c ∷ d ∷ s) h = grouped (eqb a 97) (eqb b l) (eqb c 103) (eqb d 32)

-- the letters of the two forms
pub named-text : (s : List ℕ) → named 97 s ≡ is_text s
unfolding is_text
named-text s = refl

pub named-binary : (s : List ℕ) → named 105 s ≡ is_binary s
unfolding is_binary
named-binary s = refl

-- either of the two words
abbrev pub named-either : List ℕ → Bool
named-either s = is_text s || is_binary s

-- the numbers

-- the first k are all that counts where zeros follow
front : (l : List ℕ) (k : ℕ) → k ≤ length l → ((j : ℕ) → k ≤ j → get_or l j 0 ≡ 0) → (j : ℕ) → get_or (take k l) j 0 ≡ get_or l j 0
front l k room z j = go (dec_lt j k)
  where
    go : Dec (j < k) → get_or (take k l) j 0 ≡ get_or l j 0
    go (yes h) = get_or-take k l j 0 h
    go (no h) = get_or-eq_default (take k l) 0 {n = j} (omega (arith, length-take-le k l room)) ∙ sym (z j (omega arith))

counts-front : (l : List ℕ) (k : ℕ) → k ≤ length l → ((j : ℕ) → k ≤ j → get_or l j 0 ≡ 0) → counts_meant (counts_of l) ≡ counts (take k l)
counts-front l k room z = simp (front l k room z)

all_small : (l : List ℕ) (k : ℕ) → ((j : ℕ) → j < k → get_or l j 0 < 10 ^ 10) → ((j : ℕ) → k ≤ j → get_or l j 0 ≡ 0)
    → (j : ℕ) → get_or l j 0 < 10 ^ 10
all_small l k b z j = go (dec_lt j k)
  where
    go : Dec (j < k) → get_or l j 0 < 10 ^ 10
    go (yes h) = b j h
    go (no h) = omega (arith, z j (omega arith))

-- the answers

pub not_named : (s : List ℕ) → named-either s ≡ false → HeaderAt s None
unfolding header
not_named s e = record { meaning = rw e; place = tt }

module _ (s : List ℕ) (named : named-either s ≡ true) where
  pub no_row : row 9 (drop 4 s) ≡ none → HeaderAt s None
  unfolding header
  no_row e = record { meaning = rw (named, e); place = tt }

  module _ (zeros list : List ℕ) (count next : ℕ) (room : 9 ≤ length list) (r : RowRead s 4 9 zeros list count next) where
    pub few : count < 5 → HeaderAt s None
    unfolding header
    few h =
        let l : length (take count list) < 5 = omega (arith, length-take-le count list (omega arith)) in
        record { meaning = rw (named, r.meaning, lt-leb 5 (length (take count list)) l); place = tt }

    pub enough : ((i : ℕ) → get_or zeros i 0 ≡ 0) → 5 ≤ count → HeaderAt s (Some (record { counts = counts_of list; next = next }))
    unfolding header
    enough z h =
        let l : 5 ≤ length (take count list) = omega (arith, length-take-le count list (omega arith)) in
        let rest : (j : ℕ) → count ≤ j → get_or list j 0 ≡ 0 = λ j b. r.rest j b ∙ z j in
        let small = all_small list count r.small rest in
        record {
          meaning =
              rw (named, r.meaning, le-leb 5 (length (take count list)) l)
              (ap (λ h. some (h, drop next s)) (counts-front list count (omega arith) rest));
          place =
              (r.inside, record { m = small 0; i = small 1; l = small 2; o = small 3; a = small 4; b = small 5; c = small 6; j = small 7; f = small 8 });
        }

-- the limits

-- tests joined from the left
abbrev joined : Bool → List Bool → Bool
joined b [] = b
joined b (x ∷ xs) = joined (b && x) xs

joined-all : (b : Bool) (xs : List Bool) → joined b xs ≡ (b && all xs)
joined-all b [] = sym (and-true b)
joined-all b (x ∷ xs) = joined-all (b && x) xs ∙ and_assoc b x (all xs)

module _ (c : Counts) where
  abbrev limits : List Bool
  limits =
      leb c.i 256 ∷ leb c.l 1024 ∷ leb c.o 64 ∷ leb c.a 3072 ∷ leb c.b 16 ∷ leb c.c 16 ∷ eqb c.j 0 ∷ eqb c.f 0 ∷ []

  each : limits_hold c ≡ true → (i : ℕ) → T (get_or (leb c.m 4096 ∷ limits) i true)
  each e = all-at (leb c.m 4096 ∷ limits) (T_true (sym (joined-all (leb c.m 4096) limits) ∙ e))

  -- no sum of the three wraps
  pub bounded : limits_hold c ≡ true → (c.i ≤ 256) × (c.l ≤ 1024) × (c.a ≤ 3072)
  bounded e = (
    leb-true c.i 256 (true-T (leb c.i 256) (each e 1)),
    leb-true c.l 1024 (true-T (leb c.l 1024) (each e 2)),
    leb-true c.a 3072 (true-T (leb c.a 3072) (each e 4)),
  )

  parted : counts_fit (counts_meant c) ≡ joined (leb c.m 4096) (limits ++ (leb (c.i + c.l + c.a) c.m ∷ []))
  unfolding counts_fit
  parted = sym (joined-all (leb c.m 4096) (limits ++ (leb (c.i + c.l + c.a) c.m ∷ [])))

  pub limits-hold : limits_hold c ≡ true → leb (c.i + c.l + c.a) c.m ≡ counts_fit (counts_meant c)
  limits-hold e = sym (parted ∙ ap (λ b. b && leb (c.i + c.l + c.a) c.m) e)

  pub limits-fail : limits_hold c ≡ false → false ≡ counts_fit (counts_meant c)
  limits-fail e = sym (parted ∙ ap (λ b. b && leb (c.i + c.l + c.a) c.m) e)

  -- number 3 in either form
  pub right-not : (binary : Bool) → counts_fit (counts_meant c) ≡ false → false ≡ counts_right binary (counts_meant c)
  unfolding counts_right
  right-not binary e = sym (rw e)

  pub right-text : counts_fit (counts_meant c) ≡ true → true ≡ counts_right false (counts_meant c)
  unfolding counts_right
  right-text e = sym (rw e)

  pub right-binary : counts_fit (counts_meant c) ≡ true → eqb (c.i + c.l + c.a) c.m ≡ counts_right true (counts_meant c)
  unfolding counts_right
  right-binary e = sym (rw e)

  -- counts that fit are small
  pub fit-bounded : counts_fit (counts_meant c) ≡ true → (c.i ≤ 256) × (c.l ≤ 1024) × (c.a ≤ 3072)
  unfolding counts_fit
  fit-bounded e =
      let at = all-at (count_tests (counts_meant c)) (T_true e) in
      (leb→le c.i 256 (at 1), leb→le c.l 1024 (at 2), leb→le c.a 3072 (at 4))
