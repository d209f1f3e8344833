-- What the stores of one function leave, as a state: a node more, looks taken, an entry kept, the beginning. Assumes nothing.
use mathlib.Core.Path.{◌≡◌, refl, sym, ap, ap₂, ◌∙◌}
use mathlib.Core.Bool.{Bool, true, false, cond, ◌&&◌}
use mathlib.Core.List.{List, [], ◌∷◌, ◌++◌}
use mathlib.Core.Logic.{◌⊎◌, inl, inr}
use Prim.Native.Nat.{ℕ, zero, suc, ◌+◌, ◌-◌, ◌*◌, ◌/◌, ◌≤◌, ◌<◌}
use native.Mathlib.Decide.{ℕ_discrete}
use native.Mathlib.Numerals.{add-one}
use native.Mathlib.Omega.{arith}
use borrow.Author.Tests.{lt-ltb, le-ltb, ltb-true, ltb-false, le-leb, lt-leb}
use lib.Dec.{ltb, leb, eqb, lit<}
use lib.ListN.{length, get_or, set, take, drop, replicate, length-set, length-replicate, get_or-eq_default}
use lib.Seq.{get_or-set_same, get_or-set_other}
use Rattle.diagrams.specs.declared.Vertex.{Vertex}
use Rattle.std.specs.Prelude as code
use Rattle.diagrams.specs.Words.{no_vertex, word_of, node_in, view, node_at, bucket_of, room_of}
use Rattle.diagrams.specs.States.{State, state_of, added, paid, is_paid, entry_at, place_of, entry_of, stored, keeping}
use Rattle.diagrams.proofs.View.{length-view, view-same, state-eq, room-same, node-same, nodes-same, heads-same, cache-same, heads-set, cache-set, count-is, looks-is, head-is, length-heads, length-cache, cache-at, four_set, length-four, four-other, four-node}

-- ---- room

-- a node below the room has its words before the heads
pub room_fits : (words n : ℕ) → n < room_of words → word_of words n + 4 ≤ words - words / 16
unfolding room_of
room_fits words n h =
    let free = words - words / 16 in
    let used = 4 * (words / 16) + 4 in
    go (ltb free used) (ltb ((free - used) / 4) 1073741824) refl refl h
  where
    go : (a b : Bool) → ltb (words - words / 16) (4 * (words / 16) + 4) ≡ a
        → ltb ((words - words / 16 - (4 * (words / 16) + 4)) / 4) 1073741824 ≡ b
        → n < cond a 0 (cond b ((words - words / 16 - (4 * (words / 16) + 4)) / 4) 1073741824) → word_of words n + 4 ≤ words - words / 16
    go true b p q l = absurd (omega arith)
    go false true p q l = omega (arith, ltb-false (words - words / 16) (4 * (words / 16) + 4) p)
    go false false p q l =
        omega (
          arith,
          ltb-false (words - words / 16) (4 * (words / 16) + 4) p,
          ltb-false
              ((words - words / 16 - (4 * (words / 16) + 4)) / 4) 1073741824 q,
        )

pub room_small : (words : ℕ) → room_of words ≤ 1073741824
unfolding room_of
room_small words = go (ltb (words - words / 16) (4 * (words / 16) + 4)) (ltb q 1073741824) refl
  where
    q : ℕ
    q = (words - words / 16 - (4 * (words / 16) + 4)) / 4

    go : (a b : Bool) → ltb q 1073741824 ≡ b → cond a 0 (cond b q 1073741824) ≤ 1073741824
    go true b e = omega arith
    go false true e = omega (arith, ltb-true q 1073741824 e)
    go false false e = omega arith

-- ---- one node more

module _ (w : List ℕ) (k h v lo hi next at : ℕ) (ek : k ≡ get_or w 0 0) (less : k < room_of (length w))
    (en : next ≡ get_or (state_of w).heads h 0)
    (ea : at ≡ word_of (length w) k) where
  four : List ℕ
  four = four_set w at lo hi v next

  five : List ℕ
  five = set four (length w - length w / 16 + h) k

  six : List ℕ
  six = set five 0 (k + 1)

  fits : at + 4 ≤ length w - length w / 16
  fits = let r = room_fits (length w) k less in omega arith

  long₄ : length four ≡ length w
  unfolding four
  long₄ = length-four w at lo hi v next

  long₅ : length five ≡ length w
  unfolding five
  long₅ = length-set four (length w - length w / 16 + h) k ∙ long₄

  long₆ : length six ≡ length w
  unfolding six
  long₆ = length-set five 0 (k + 1) ∙ long₅

  -- a word that is not stored
  other : (j : ℕ) → (j ≡ 0 → ⊥) → (j < at) ⊎ (at + 3 < j) → (j ≡ length w - length w / 16 + h → ⊥) → get_or six j 0 ≡ get_or w j 0
  unfolding four five six
  other j p q r =
      get_or-set_other five 0 j (k + 1) 0 p ∙ get_or-set_other four (length w - length w / 16 + h) j k 0 r ∙ four-other w at lo hi v next j q

  new : Vertex
  new = record { lo = lo; hi = hi; var = v; next = get_or (state_of w).heads h 0 }

  nodes-new : (state_of six).nodes ≡ (state_of w).nodes ++ (new ∷ [])
  unfolding state_of view six five four new
  nodes-new =
      let f = fits in
      let l₄ = long₄ in
      let l₅ = long₅ in
      let l₆ = long₆ in
      let count : get_or six 0 0 ≡ suc k = get_or-set_same five 0 (k + 1) 0 (omega arith) ∙ add-one k in
      let last : node_in six k ≡ new =
      node-same six four (l₆ ∙ sym l₄) k
      (λ j p q. get_or-set_other five 0 j (k + 1) 0 (λ z. omega arith) ∙ get_or-set_other four (length w - length w / 16 + h) j k 0
      (λ z. omega arith))
      ∙ four-node w at lo hi v next (omega arith) k ea ∙ ap (λ (x : ℕ). record { lo = lo; hi = hi; var = v; next = x }) en in
      ap (view six) count
      ∙ ap₂ (λ (ns : List Vertex) (x : Vertex). ns ++ (x ∷ []))
      (view-same six w k (λ i p. node-same six w l₆ i (λ j a b. other j (λ z. omega arith) (inl (omega arith)) (λ z. omega arith)))) last
      ∙ ap (λ (n : ℕ). view w n ++ (new ∷ [])) ek

  looks-new : (state_of six).looks ≡ (state_of w).looks
  unfolding state_of
  looks-new = let f = fits in other 1 (λ z. omega arith) (inl (omega arith)) (λ z. omega arith)

  pub added-left : state_of (set (set (four_set w at lo hi v next) (length w - length w / 16 + h) k) 0 (k + 1)) ≡ added (state_of w) h v lo hi
  unfolding added six five four new
  added-left =
      let f = fits in
      let l₄ = long₄ in
      let l₅ = long₅ in
      let l₆ = long₆ in
      state-eq (room-same six w l₆) looks-new nodes-new
      (heads-same six five (l₆ ∙ sym l₅) (λ j p. get_or-set_other five 0 j (k + 1) 0 (λ z. omega arith))
      ∙ heads-set four h (length w - length w / 16 + h) k (ap (λ (n : ℕ). n - n / 16 + h) (sym l₄))
      ∙ ap₂ (λ (l : List ℕ) (x : ℕ). set l h x)
      (heads-same four w l₄ (λ j p. four-other w at lo hi v next j (inr (omega arith)))) (ek ∙ sym (count-is w)))
      (cache-same six w l₆ (λ j p q. other j (λ z. omega arith) (inl (omega arith)) (λ z. omega arith)))

-- ---- looks

pub paid-none : (w : List ℕ) (n : ℕ) → get_or w 1 0 < n → state_of w ≡ paid (state_of w) n
unfolding state_of paid
paid-none w n h = sym (rw (lt-ltb (get_or w 1 0) n h))

empty-heads : (w : List ℕ) → length w < 16 → (state_of w).heads ≡ []
empty-heads w h = none (state_of w).heads (omega (arith, length-heads w))
  where
    none : (l : List ℕ) → length l ≡ 0 → l ≡ []
    none [] e = refl
    none (x ∷ l) e = absurd (omega arith)

module _ (w : List ℕ) (n : ℕ) (h : n ≤ get_or w 1 0) where
  abbrev less : List ℕ
  less = set w 1 (get_or w 1 0 - n)

  looks-less : get_or less 1 0 ≡ get_or w 1 0 - n
  looks-less = go (ltb 1 (length w)) refl
    where
      go : (b : Bool) → ltb 1 (length w) ≡ b → get_or less 1 0 ≡ get_or w 1 0 - n
      go true e = get_or-set_same w 1 (get_or w 1 0 - n) 0 (ltb-true 1 (length w) e)
      go false e =
          let l = ltb-false 1 (length w) e in
          let z : get_or w 1 0 ≡ 0 = get_or-eq_default w 0 l in
          get_or-eq_default less 0 (omega (arith, length-set w 1 (get_or w 1 0 - n))) ∙ omega arith

  paid-looks : (s : State) → n ≤ s.looks
      → record { room = s.room; looks = s.looks - n; nodes = s.nodes; heads = s.heads; cache = s.cache } ≡ paid s n
  unfolding paid
  paid-looks s l = sym (rw (le-ltb s.looks n l))

  -- the heads begin past word 1, or the words are too few for a head
  heads-less : (state_of less).heads ≡ (state_of w).heads
  heads-less = go (ltb (length w) 16) refl
    where
      long : length less ≡ length w
      long = length-set w 1 (get_or w 1 0 - n)

      go : (b : Bool) → ltb (length w) 16 ≡ b → (state_of less).heads ≡ (state_of w).heads
      go true e =
          let l = ltb-true (length w) 16 e in
          empty-heads less (omega (arith, long)) ∙ sym (empty-heads w (omega arith))
      go false e =
          let l = ltb-false (length w) 16 e in
          heads-same less w long (λ j p. get_or-set_other w 1 j (get_or w 1 0 - n) 0 (λ z. omega arith))

  pub paid-some : state_of less ≡ paid (state_of w) n
  paid-some =
      let long = length-set w 1 (get_or w 1 0 - n) in
      let other : (j : ℕ) → (j ≡ 1 → ⊥) → get_or less j 0 ≡ get_or w j 0 = λ j p. get_or-set_other w 1 j (get_or w 1 0 - n) 0 p in
      let e = looks-is w in
      state-eq (room-same less w long) (looks-is less ∙ looks-less ∙ ap (λ (x : ℕ). x - n) (sym e))
      (nodes-same less w long (other 0 (λ z. omega arith)) (λ j p. other j (λ z. omega arith))) heads-less
      (cache-same less w long (λ j p q. other j (λ z. omega arith)))
      ∙ paid-looks (state_of w) (omega arith)

pub is-paid : (w : List ℕ) (n : ℕ) → n ≤ get_or w 1 0 → true ≡ is_paid (state_of w) n
unfolding state_of is_paid
is-paid w n h = sym (le-leb n (get_or w 1 0) h)

pub not-paid : (w : List ℕ) (n : ℕ) → get_or w 1 0 < n → false ≡ is_paid (state_of w) n
unfolding state_of is_paid
not-paid w n h = sym (lt-leb n (get_or w 1 0) h)

-- ---- the cache

module _ (w : List ℕ) (f g h i at : ℕ) (ei : i ≡ bucket_of (length w / 16) f g h) (ea : at ≡ 4 * i + 4) where
  abbrev cache : List ℕ
  cache = (state_of w).cache

  place_is : place_of cache f g h ≡ i
  place_is = let n : length cache / 4 ≡ length w / 16 = omega (arith, length-cache w) in ap (λ (x : ℕ). bucket_of x f g h) n ∙ sym ei

  -- what entry i has
  abbrev here : code.Option ℕ
  here =
      cond ((eqb (get_or w at 0) f && eqb (get_or w (at + 1) 0) g) && eqb (get_or w (at + 2) 0) h) (code.Some (get_or w (at + 3) 0))
      code.None

  pub entry_in : i < length w / 16 → entry_of cache f g h ≡ here
  unfolding entry_of entry_at
  entry_in l =
      let n = length-cache w in
      let word : (j k : ℕ) → j < 4 → k ≡ at + j → get_or cache (4 * i + j) 0 ≡ get_or w k 0 = λ j k q e.
      cache-at w (4 * i + j) (omega arith) ∙ ap (λ (x : ℕ). get_or w x 0) (omega arith) in
      let first : get_or cache (4 * i) 0 ≡ get_or w at 0 = cache-at w (4 * i) (omega arith) ∙ ap (λ (x : ℕ). get_or w x 0) (omega arith) in
      ap (λ (x : ℕ). entry_at cache x f g h) place_is
      ∙ rw (
        lt-ltb i (length cache / 4) (omega arith),
        first,
        word 1 (at + 1) (lit< tt) refl,
        word 2 (at + 2) (lit< tt) refl,
        word 3
            (at + 3) (lit< tt) refl,
      )

  pub entry-out : length w / 16 ≤ i → entry_of cache f g h ≡ code.None
  unfolding entry_of entry_at
  entry-out l =
      let n = length-cache w in
      ap (λ (x : ℕ). entry_at cache x f g h) place_is ∙ rw (le-ltb i (length cache / 4) (omega arith))

  module _ (r : ℕ) where
    stored-in : (c : List ℕ) → i < length c / 4 → four_set c (4 * i) f g h r ≡ stored c i f g h r
    unfolding stored
    stored-in c l = sym (rw (lt-ltb i (length c / 4) l))

    stored-out : (c : List ℕ) → length c / 4 ≤ i → c ≡ stored c i f g h r
    unfolding stored
    stored-out c l = sym (rw (le-ltb i (length c / 4) l))

    keeping-eq : (s : State) → s.room ≡ (state_of w).room → s.looks ≡ (state_of w).looks → s.nodes ≡ (state_of w).nodes
        → s.heads ≡ (state_of w).heads → s.cache ≡ stored cache i f g h r → s ≡ keeping (state_of w) f g h r
    unfolding keeping
    keeping-eq s p q t a b = state-eq p q t a (b ∙ ap (λ (x : ℕ). stored cache x f g h r) (sym place_is))

    pub kept_out : length w / 16 ≤ i → state_of w ≡ keeping (state_of w) f g h r
    kept_out l = keeping-eq (state_of w) refl refl refl refl (stored-out cache (omega (arith, length-cache w)))

    pub kept_in : i < length w / 16 → state_of (four_set w at f g h r) ≡ keeping (state_of w) f g h r
    kept_in l =
        let u = four_set w at f g h r in
        let long = length-four w at f g h r in
        let other : (j : ℕ) → (j < at) ⊎ (at + 3 < j) → get_or u j 0 ≡ get_or w j 0 = four-other w at f g h r in
        keeping-eq u-state (room-same u w long) (looks-is u ∙ other 1 (inl (omega arith)) ∙ sym (looks-is w))
        (nodes-same u w long (other 0 (inl (omega arith))) (λ j p. other j (inr (omega arith))))
        (heads-same u w long (λ j p. other j (inr (omega arith))))
        (cache-four ∙ stored-in cache (omega (arith, length-cache w)))
      where
        u-state : State
        u-state = state_of (four_set w at f g h r)

        cache-four : u-state.cache ≡ four_set cache (4 * i) f g h r
        cache-four =
            let one = set w at f in
            let two = set one (at + 1) g in
            let three = set two (at + 2) h in
            let l₁ : length one ≡ length w = length-set w at f in
            let l₂ : length two ≡ length w = length-set one (at + 1) g ∙ l₁ in
            let l₃ : length three ≡ length w = length-set two (at + 2) h ∙ l₂ in
            cache-set three (4 * i + 3) (at + 3) r (omega arith) (omega arith)
            ∙ ap (λ (c : List ℕ). set c (4 * i + 3) r)
            (cache-set two (4 * i + 2) (at + 2) h (omega arith) (omega arith)
            ∙ ap (λ (c : List ℕ). set c (4 * i + 2) h)
            (cache-set one (4 * i + 1) (at + 1) g (omega arith) (omega arith)
            ∙ ap (λ (c : List ℕ). set c (4 * i + 1) g) (cache-set w (4 * i) at f (omega arith) (omega arith))))

-- ---- the same by the lists that calls leave

pub added-by : (w : List ℕ) (k h v lo hi next at : ℕ) (u x : List ℕ) (i : ℕ) → k ≡ get_or w 0 0 → k < room_of (length w)
    → next ≡ get_or (state_of w).heads h 0 → at ≡ word_of (length w) k → i ≡ length w - length w / 16 + h
    → u ≡ set (four_set w at lo hi v next) i k → x ≡ set u 0 (k + 1) → state_of x ≡ added (state_of w) h v lo hi
added-by w k h v lo hi next at u x i ek less en ea ei eu ex =
    ap state_of
    (ex ∙ ap (λ (l : List ℕ). set l 0 (k + 1)) (eu ∙ ap (λ (j : ℕ). set (four_set w at lo hi v next) j k) ei))
    ∙ added-left w k h v lo hi next at ek less en ea
