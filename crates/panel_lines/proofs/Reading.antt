-- Words, numbers and commands of a request, by positions. Assumes nothing.
use mathlib.Core.Path.{◌≡◌, refl, sym, ap, ap₂, ◌∙◌}
use mathlib.Core.Bool.{Bool, true, false, cond}
use mathlib.Core.List.{List, [], ◌∷◌, ◌++◌, append_assoc, append-nil}
use mathlib.Core.Option.{Option, none, some}
use Prim.Native.Nat.{ℕ, zero, suc, ◌+◌, ◌-◌, ◌≤◌, ◌<◌}
use native.Mathlib.Numerals.{add-one}
use native.Mathlib.Omega.{arith}
use borrow.Author.Tests.{le-leb, lt-leb, eq-eqb, ne_eqb}
use lib.Dec.{eqb, leb}
use lib.ListN.{length, take, drop, get_or, length-drop, drop_of_length-le}
use lib.Seq.{take-suc, drop-cons, get_or-drop, length-take-le}
use Rattle.aiger.specs.Lists.{same}
use Rattle.aiger.specs.Text.{when, ◌>>=◌, ◌>>◌}
use Rattle.aiger.proofs.Tests.{T_true, true-T}
use Rattle.meaning.proofs.Lists.{same-eq, same_of}
use Rattle.arguments.specs.Arguments.{number_of, seed_of, place_of}
use Rattle.panel_lines.specs.Grammar.{split, word, number, seed, place, ended, two_numbers, place_number, one_name}
use Rattle.panel_lines.specs.Reading.{Inside, bytes_of, Ends, WordAt, NumberAt, SeedAt, PlaceAt, NameAt}
use Rattle.panel_lines.specs.declared.Part.{Part}

-- a flag that is true exactly where two lists are equal
pub by-same : (r : Bool) (xs ys : List ℕ) → (r ≡ true → xs ≡ ys) × (xs ≡ ys → r ≡ true) → r ≡ same xs ys
by-same true xs ys h = sym (true-T (same xs ys) (same_of (h.0 refl)))
by-same false xs ys h = go (same xs ys) refl
  where
    go : (b : Bool) → same xs ys ≡ b → false ≡ b
    go true e = h.1 (same-eq xs ys (T_true e))
    go false e = refl

-- ---- where a word ends

split-space : (s t : List ℕ) (x : ℕ) → s ≡ x ∷ t → x ≡ 32 → split s ≡ ([], s)
unfolding split
split-space s t x e h = rw (e, eq-eqb x 32 h)

split-more : (s t : List ℕ) (x : ℕ) → s ≡ x ∷ t → (x ≡ 32 → ⊥) → split s ≡ (x ∷ (split t).0, (split t).1)
unfolding split
split-more s t x e h = rw (e, ne_eqb x 32 h)

split-none : (s : List ℕ) → s ≡ [] → split s ≡ ([], [])
unfolding split
split-none s e = rw e

-- the word that begins at `from` has no space before i
pub record Reaches (s : List ℕ) (from i : ℕ) : Type 0 where
  pub forward : from ≤ i
  pub within : i ≤ length s
  pub so_far : split (drop from s) ≡ (take (i - from) (drop from s) ++ (split (drop i s)).0, (split (drop i s)).1)

module _ (s : List ℕ) (from : ℕ) where
  pub starts : from ≤ length s → Reaches s from from
  starts h = let z : from - from ≡ 0 = omega arith in record { forward = omega arith; within = h; so_far = rw z }

  module _ {i : ℕ} (r : Reaches s from i) where
    -- the next byte is no space
    pub goes : i < length s → (get_or s i 0 ≡ 32 → ⊥) → Reaches s from (i + 1)
    goes h n =
        let x = get_or s i 0 in
        let e : drop i s ≡ x ∷ drop (i + 1) s = rw (add-one i) (drop-cons s i 0 h) in
        let k : i + 1 - from ≡ suc (i - from) = omega (arith, r.forward) in
        let w = drop from s in
        let g : get_or w (i - from) 0 ≡ x = get_or-drop from s (i - from) 0 ∙ ap (λ (j : ℕ). get_or s j 0) (omega (arith, r.forward)) in
        let t : take (suc (i - from)) w ≡ take (i - from) w ++ (x ∷ []) =
        take-suc w (i - from) 0 (omega (arith, length-drop from s, r.forward)) ∙ ap (λ (y : ℕ). take (i - from) w ++ (y ∷ [])) g in
        let v = (split (drop (i + 1) s)).0 in
        record {
          forward = omega (arith, r.forward);
          within = omega arith;
          so_far =
              r.so_far
              ∙ rw (split-more (drop i s) (drop (i + 1) s) x e n, k, t)
              (ap (λ (l : List ℕ). (l, (split (drop (i + 1) s)).1)) (sym (append_assoc (take (i - from) w) (x ∷ []) v)));
        }

    -- it is a space
    pub stops : i < length s → get_or s i 0 ≡ 32 → Ends s from i
    stops h e =
        let d : drop i s ≡ get_or s i 0 ∷ drop (suc i) s = drop-cons s i 0 h in
        record {
          forward = r.forward;
          within = r.within;
          word-is =
              r.so_far
              ∙ rw (split-space (drop i s) (drop (suc i) s) (get_or s i 0) d e)
              (ap (λ (l : List ℕ). (l, drop i s)) (append-nil (take (i - from) (drop from s))));
        }

    -- the request ends
    pub finishes : length s ≤ i → Ends s from i
    finishes h =
        let d : drop i s ≡ [] = drop_of_length-le s {i = i} h in
        record {
          forward = r.forward;
          within = r.within;
          word-is =
              r.so_far
              ∙ rw (split-none (drop i s) d, d) (ap (λ (l : List ℕ). (l, [])) (append-nil (take (i - from) (drop from s))));
        }

-- ---- a word after a space

pub no_word : (s : List ℕ) (at : ℕ) → length s ≤ at → word (drop at s) ≡ none
unfolding word
no_word s at h = rw (drop_of_length-le s {i = at} h)

-- the space at `at` is followed by the word that ends at `end`
module _ (s : List ℕ) (at end : ℕ) (h : at < length s) (e : Ends s (at + 1) end) where
  from-space : drop at s ≡ get_or s at 0 ∷ drop (at + 1) s
  from-space = rw (add-one at) (drop-cons s at 0 h)

  size : length (take (end - (at + 1)) (drop (at + 1) s)) ≡ end - (at + 1)
  size = length-take-le (end - (at + 1)) (drop (at + 1) s) (omega (arith, length-drop (at + 1) s, e.within))

  pub empty-word : end ≡ at + 1 → word (drop at s) ≡ none
  unfolding word
  empty-word z =
      rw (from-space, e.word-is, lt-leb 1 (length (take (end - (at + 1)) (drop (at + 1) s))) (omega (arith, size)))

  pub a_word : at + 1 < end → WordAt s at (record { from = at + 1; to = end })
  unfolding word
  a_word n =
      record {
        inside = record { forward = e.forward; within = e.within };
        word-is =
            rw (from-space, e.word-is, le-leb 1 (length (take (end - (at + 1)) (drop (at + 1) s))) (omega (arith, size)));
      }

-- ---- a number after a space

module _ (s : List ℕ) (at : ℕ) where
  pub wordless : word (drop at s) ≡ none → number (drop at s) ≡ none
  unfolding number
  wordless e = rw e

  pub no_number : {p : Part} → WordAt s at p → none ≡ number_of (bytes_of s p) → number (drop at s) ≡ none
  unfolding number
  no_number w e = rw (w.word-is, ← e)

  pub a-number : {p : Part} {n : ℕ} → WordAt s at p → some n ≡ number_of (bytes_of s p) → NumberAt s at n p.to
  unfolding number
  a-number w e = record { within = w.inside.within; number_is = rw (w.word-is, ← e) }

-- ---- a seed after a space

module _ (s : List ℕ) (at : ℕ) where
  pub seedless : word (drop at s) ≡ none → seed (drop at s) ≡ none
  unfolding seed
  seedless e = rw e

  pub no-seed : {p : Part} → WordAt s at p → none ≡ seed_of (bytes_of s p) → seed (drop at s) ≡ none
  unfolding seed
  no-seed w e = rw (w.word-is, ← e)

  pub a-seed : {p : Part} {n : ℕ} → WordAt s at p → some n ≡ seed_of (bytes_of s p) → SeedAt s at n p.to
  unfolding seed
  a-seed w e = record { within = w.inside.within; seed-is = rw (w.word-is, ← e) }

-- ---- a place after a space

module _ (s : List ℕ) (at : ℕ) where
  pub placeless : word (drop at s) ≡ none → place (drop at s) ≡ none
  unfolding place
  placeless e = rw e

  pub no_place : {p : Part} → WordAt s at p → none ≡ place_of (bytes_of s p) → place (drop at s) ≡ none
  unfolding place
  no_place w e = rw (w.word-is, ← e)

  pub a-place : {p : Part} {n : ℕ} → WordAt s at p → some n ≡ place_of (bytes_of s p) → PlaceAt s at n p.to
  unfolding place
  a-place w e = record { within = w.inside.within; place_is = rw (w.word-is, ← e) }

-- ---- the end of a request

pub more-follows : (s : List ℕ) (at : ℕ) → at < length s → ended (drop at s) ≡ none
unfolding ended
more-follows s at h = rw (drop-cons s at 0 h)

pub all_read : (s : List ℕ) (at : ℕ) → length s ≤ at → ended (drop at s) ≡ some tt
unfolding ended
all_read s at h = rw (drop_of_length-le s {i = at} h)

-- ---- arguments

module _ (s : List ℕ) (at : ℕ) where
  pub two_none : number (drop at s) ≡ none → none ≡ two_numbers (drop at s)
  unfolding two_numbers
  two_none e = rw e

  module _ {a next : ℕ} (x : NumberAt s at a next) where
    pub two-half : number (drop next s) ≡ none → none ≡ two_numbers (drop at s)
    unfolding two_numbers
    two-half e = rw (x.number_is, e)

    module _ {b end : ℕ} (y : NumberAt s next b end) where
      pub two-more : end < length s → none ≡ two_numbers (drop at s)
      unfolding two_numbers
      two-more h = rw (x.number_is, y.number_is, more-follows s end h)

      pub two-all : length s ≤ end → some (a, b) ≡ two_numbers (drop at s)
      unfolding two_numbers
      two-all h = rw (x.number_is, y.number_is, all_read s end h)

  pub pair-none : place (drop at s) ≡ none → none ≡ place_number (drop at s)
  unfolding place_number
  pair-none e = rw e

  module _ {a next : ℕ} (x : PlaceAt s at a next) where
    pub pair-half : number (drop next s) ≡ none → none ≡ place_number (drop at s)
    unfolding place_number
    pair-half e = rw (x.place_is, e)

    module _ {b end : ℕ} (y : NumberAt s next b end) where
      pub pair-more : end < length s → none ≡ place_number (drop at s)
      unfolding place_number
      pair-more h = rw (x.place_is, y.number_is, more-follows s end h)

      pub pair-all : length s ≤ end → some (a, b) ≡ place_number (drop at s)
      unfolding place_number
      pair-all h = rw (x.place_is, y.number_is, all_read s end h)

  pub name-none : word (drop at s) ≡ none → one_name (drop at s) ≡ none
  unfolding one_name
  name-none e = rw e

  module _ {p : Part} (w : WordAt s at p) where
    pub name-more : p.to < length s → one_name (drop at s) ≡ none
    unfolding one_name
    name-more h = rw (w.word-is, more-follows s p.to h)

    pub name-all : length s ≤ p.to → NameAt s at p
    unfolding one_name
    name-all h = record { inside = w.inside; name-is = rw (w.word-is, all_read s p.to h) }
