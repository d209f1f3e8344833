-- What may be decided of the places of a frame, in plain terms. p says which places hit; the places looked at are those from lo on.
-- Assumes nothing.
use mathlib.Core.Path.{◌≡◌, refl, sym, ap, ◌∙◌, subst}
use mathlib.Core.Bool.{Bool, true, false, not, cond, ◌&&◌}
use mathlib.Core.Option.{Option, none, some}
use mathlib.Core.Logic.{⊎_elim}
use Prim.Native.Nat.{ℕ, zero, suc, ◌+◌, ◌≤◌, ◌<◌}
use native.Mathlib.Nat.{le_antisymm, eq-or-lt_of_le, le_of_suc-le-suc, not-suc-le-zero}
use native.Mathlib.Decide.{dec_le}
use native.Mathlib.Omega.{arith}
use lib.Dec.{T, leb, ltb, leb→le, le→leb, ltb→lt, lt→ltb}
use Rattle.aiger.specs.Search.{Decision, onward, clear_from, least_below, first_from, decides}
use Rattle.aiger.proofs.Tests.{T_true, and, and_left, and_right, not-both, not_T, below_at, below_all}

-- ---- the least number that passes

-- o is the least number below n that passes, if there is one
abbrev pub Least : (ℕ → Bool) → ℕ → Option ℕ → Type 0
Least p n (some x) = (x < n) × T (p x) × ((y : ℕ) → y < x → T (p y) → ⊥)
Least p n none = (y : ℕ) → y < n → T (p y) → ⊥

pub least-below : (p : ℕ → Bool) (n : ℕ) → Least p n (least_below n p)
unfolding least_below
least-below p zero = λ y l t. not-suc-le-zero l
least-below p (suc n) = go (least_below n p) (least-below p n) (p n) refl
  where
    go : (o : Option ℕ) → Least p n o → (b : Bool) → p n ≡ b → Least p (suc n) (elim o [ some x ↦ some x | none ↦ cond b (some n) none ])
    go (some x) h b e = (omega arith, h.1, h.2)
    go none h true e = (omega arith, T_true e, h)
    go none h false e =
        λ y l t. ⊎_elim (λ q. subst T (ap p q ∙ e) t) (λ k. h y k t) (eq-or-lt_of_le (le_of_suc-le-suc l))

-- ---- decisions

module _ (p : ℕ → Bool) where
  -- no place from lo up to hi hits
  abbrev pub NoneFrom : ℕ → ℕ → Type 0
  NoneFrom lo hi = (x : ℕ) → lo ≤ x → x < hi → T (p x) → ⊥

  -- x is the first hit of the places from lo on
  pub record FirstHit (places lo x : ℕ) : Type 0 where
    pub from : lo ≤ x
    pub fits : x < places
    pub first : NoneFrom lo x
    pub hit : T (p x)

  -- there are places past the first D from lo on, and none of those D hits
  pub record Exceeded (places lo D : ℕ) : Type 0 where
    pub beyond : lo + D < places
    pub first : NoneFrom lo (lo + D)

  -- what a decision says
  abbrev pub Says : ℕ → ℕ → ℕ → Decision → Type 0
  Says places lo D (Decision.hit x) = FirstHit places lo x
  Says places lo D Decision.clear = NoneFrom lo places
  Says places lo D Decision.spent = Exceeded places lo D

  -- the test in plain terms, out and in
  pub clear-out : (lo hi : ℕ) → T (clear_from p lo hi) → NoneFrom lo hi
  clear-out lo hi h x f l t = not-both (onward lo p x) (below_at hi (λ y. not (onward lo p y)) h x l) (and (leb lo x) (p x) (le→leb lo x f) t)

  pub clear_in : (lo hi : ℕ) → NoneFrom lo hi → T (clear_from p lo hi)
  clear_in lo hi h =
      below_all hi (λ y. not (onward lo p y))
      (λ x l. not_T (onward lo p x) (λ t. h x (leb→le lo x (and_left (leb lo x) (p x) t)) l (and_right (leb lo x) (p x) t)))

  pub decides-out : (places lo D : ℕ) (d : Decision) → T (decides p places lo D d) → Says places lo D d
  unfolding decides
  decides-out places lo D (Decision.hit x) h =
      let p1 = leb lo x in
      let p2 = ltb x places in
      let p3 = clear_from p lo x in
      let h3 = and_left (p1 && p2 && p3) (p x) h in
      let h2 = and_left (p1 && p2) p3 h3 in
      record {
        from = leb→le lo x (and_left p1 p2 h2);
        fits = ltb→lt x places (and_right p1 p2 h2);
        first = clear-out lo x (and_right (p1 && p2) p3 h3);
        hit = and_right (p1 && p2 && p3) (p x) h;
      }
  decides-out places lo D Decision.clear h = clear-out lo places h
  decides-out places lo D Decision.spent h =
      let p1 = ltb (lo + D) places in
      let p2 = clear_from p lo (lo + D) in
      record { beyond = ltb→lt (lo + D) places (and_left p1 p2 h); first = clear-out lo (lo + D) (and_right p1 p2 h) }

  pub decides-in : (places lo D : ℕ) (d : Decision) → Says places lo D d → T (decides p places lo D d)
  unfolding decides
  decides-in places lo D (Decision.hit x) f =
      let p1 = leb lo x in
      let p2 = ltb x places in
      let p3 = clear_from p lo x in
      and (p1 && p2 && p3) (p x)
      (and (p1 && p2) p3 (and p1 p2 (le→leb lo x f.from) (lt→ltb x places f.fits)) (clear_in lo x f.first))
      f.hit
  decides-in places lo D Decision.clear f = clear_in lo places f
  decides-in places lo D Decision.spent f =
      and (ltb (lo + D) places) (clear_from p lo (lo + D)) (lt→ltb (lo + D) places f.beyond) (clear_in lo (lo + D) f.first)

  -- ---- which decisions exclude each other

  least : {n n' lo x x' : ℕ} → FirstHit n lo x → FirstHit n' lo x' → x ≤ x'
  least {x = x} {x' = x'} f g = elim (dec_le x x') [ yes h ↦ h | no h ↦ absurd (f.first x' g.from (omega arith) g.hit) ]

  -- the first hit is one place, however many places there are
  pub first-same : {n n' lo x x' : ℕ} → FirstHit n lo x → FirstHit n' lo x' → x ≡ x'
  first-same f g = le_antisymm (least f g) (least g f)

  -- places with a hit are not clear
  pub hit-not-clear : {n lo x : ℕ} → FirstHit n lo x → NoneFrom lo n → ⊥
  hit-not-clear {x = x} f h = h x f.from f.fits f.hit

  -- ---- the first hit

  first-is : (n lo : ℕ) (o : Option ℕ) → Least (onward lo p) n o → {x : ℕ} → FirstHit n lo x → o ≡ some x
  first-is n lo (some y) h {x} f =
      let a : x < y → ⊥ = λ k. h.2 x k (and (leb lo x) (p x) (le→leb lo x f.from) f.hit) in
      let b : y < x → ⊥ = λ k. f.first y (leb→le lo y (and_left (leb lo y) (p y) h.1)) k (and_right (leb lo y) (p y) h.1) in
      ap some (omega arith)
  first-is n lo none h {x} f = absurd (h x f.fits (and (leb lo x) (p x) (le→leb lo x f.from) f.hit))

  -- the first hit is the one that first_from names
  pub first-from : {n lo x : ℕ} → FirstHit n lo x → first_from p n lo ≡ some x
  first-from {n} {lo} f = first-is n lo (first_from p n lo) (least-below (onward lo p) n) f

  least_first : (n lo : ℕ) {x : ℕ} → Least (onward lo p) n (some x) → FirstHit n lo x
  least_first n lo {x} h =
      record {
        from = leb→le lo x (and_left (leb lo x) (p x) h.1);
        fits = h.0;
        first = λ y f l t. h.2 y l (and (leb lo y) (p y) (le→leb lo y f) t);
        hit = and_right (leb lo x) (p x) h.1;
      }

  -- places that are not clear have a first hit
  pub not-clear : (n lo : ℕ) → T (not (clear_from p lo n)) → (x : ℕ) × FirstHit n lo x
  not-clear n lo h = go (first_from p n lo) (least-below (onward lo p) n)
    where
      go : (o : Option ℕ) → Least (onward lo p) n o → (x : ℕ) × FirstHit n lo x
      go (some x) l = (x, least_first n lo l)
      go none l =
          absurd
          (not-both (clear_from p lo n) h
          (clear_in lo n (λ x f k t. l x k (and (leb lo x) (p x) (le→leb lo x f) t))))

  pub hit-clear : {n lo x : ℕ} → FirstHit n lo x → T (not (clear_from p lo n))
  hit-clear {n} {lo} f = not_T (clear_from p lo n) (λ t. hit-not-clear f (clear-out lo n t))
