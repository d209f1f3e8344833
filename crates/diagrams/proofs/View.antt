-- Where the parts of a diagram stand in words: what is read, and what a store leaves. Assumes nothing.
use mathlib.Core.Path.{◌≡◌, refl, sym, ap, ap₂, ◌∙◌}
use mathlib.Core.Bool.{Bool, true, false, cond}
use mathlib.Core.List.{List, [], ◌∷◌, ◌++◌}
use mathlib.Core.Logic.{◌⊎◌, inl, inr}
use Prim.Native.Nat.{ℕ, zero, suc, ◌+◌, ◌-◌, ◌*◌, ◌/◌, ◌≤◌, ◌<◌}
use native.Mathlib.Decide.{ℕ_discrete}
use native.Mathlib.Numerals.{add-one}
use native.Mathlib.Omega.{arith}
use borrow.Author.Tests.{lt-ltb, le-ltb, ltb-true, ltb-false}
use lib.Dec.{ltb, lit<}
use lib.ListN.{length, get_or, set, take, drop, length-set, length-drop, length-append, get_or-append, get_or-eq_default}
use lib.Seq.{get_or_at, get_or-set_same, get_or-set_other, get_or-drop, get_or-take, length-take-le, take-set-lt, drop-set-add, ext_get_or}
use Rattle.diagrams.specs.declared.Vertex.{Vertex}
use Rattle.diagrams.specs.Words.{no_vertex, word_of, node_in, view, node_at, room_of}
use Rattle.diagrams.specs.States.{State, state_of, added}

pub length-view : (w : List ℕ) (n : ℕ) → length (view w n) ≡ n
unfolding view
length-view w zero = refl
length-view w (suc n) = length-append (view w n) (node_in w n ∷ []) ∙ omega (arith, length-view w n)

view-at : (w : List ℕ) (n k : ℕ) → k < n → node_at (view w n) k ≡ node_in w k
unfolding view
view-at w zero k h = absurd (omega arith)
view-at w (suc n) k h = go (view-at w n k) (ℕ_discrete k n)
  where
    go : (k < n → node_at (view w n) k ≡ node_in w k) → Dec (k ≡ n) → node_at (view w n ++ (node_in w n ∷ [])) k ≡ node_in w k
    go f (yes e) = get_or_at (view w n) (node_in w n) [] no_vertex k (length-view w n ∙ sym e) ∙ ap (node_in w) (sym e)
    go f (no e) = get_or-append (view w n) (node_in w n ∷ []) no_vertex k (let q = length-view w n in omega arith) ∙ f (omega arith)

-- words that agree where the first n nodes stand have the same nodes there
pub view-same : (u w : List ℕ) (n : ℕ) → ((k : ℕ) → k < n → node_in u k ≡ node_in w k) → view u n ≡ view w n
unfolding view
view-same u w zero h = refl
view-same u w (suc n) h =
    ap₂ (λ (ns : List Vertex) (x : Vertex). ns ++ (x ∷ [])) (view-same u w n (λ k l. h k (omega arith))) (h n (omega arith))

pub node-eq : {a b c d a' b' c' d' : ℕ} → a ≡ a' → b ≡ b' → c ≡ c' → d ≡ d'
    → ◌≡◌ {A = Vertex} (record { lo = a; hi = b; var = c; next = d }) (record { lo = a'; hi = b'; var = c'; next = d' })
node-eq p q r s = λ i. record { lo = p i; hi = q i; var = r i; next = s i }

-- node k by the word at which it begins
pub node-whole : (w : List ℕ) (k at : ℕ) → at ≡ word_of (length w) k → at + 3 < length w
    → node_in w k ≡ record { lo = get_or w at 0; hi = get_or w (at + 1) 0; var = get_or w (at + 2) 0; next = get_or w (at + 3) 0 }
unfolding node_in
node-whole w k at e l =
    let here : node_in w k
    ≡ record {
      lo = get_or w (word_of (length w) k) 0;
      hi = get_or w (word_of (length w) k + 1) 0;
      var = get_or w
          (word_of (length w) k + 2) 0;
      next = get_or w (word_of (length w) k + 3) 0;
    } =
    rw (lt-ltb (word_of (length w) k + 3) (length w) (omega arith)) in
    here
    ∙ (let b = sym e in λ i. record { lo = get_or w (b i) 0; hi = get_or w (b i + 1) 0; var = get_or w (b i + 2) 0; next = get_or w (b i + 3) 0 })

node-cut : (w : List ℕ) (k at : ℕ) → at ≡ word_of (length w) k → length w ≤ at + 3 → node_in w k ≡ no_vertex
unfolding node_in
node-cut w k at e l = rw (le-ltb (word_of (length w) k + 3) (length w) (omega arith))

-- ---- what is read

pub count-is : (w : List ℕ) → length (state_of w).nodes ≡ get_or w 0 0
unfolding state_of
count-is w = length-view w (get_or w 0 0)

pub looks-is : (w : List ℕ) → (state_of w).looks ≡ get_or w 1 0
unfolding state_of
looks-is w = refl

pub room-is : (w : List ℕ) → (state_of w).room ≡ room_of (length w)
unfolding state_of
room-is w = refl

-- a node by its words
pub node_at_lem : (w : List ℕ) (k : ℕ) → k < get_or w 0 0 → node_at (state_of w).nodes k ≡ node_in w k
unfolding state_of
node_at_lem w k h = view-at w (get_or w 0 0) k h

pub read_whole : (w : List ℕ) (n k at : ℕ) → n ≡ get_or w 0 0 → at ≡ word_of (length w) k → k < n → at + 3 < length w
    → node_at (state_of w).nodes k
    ≡ record { lo = get_or w at 0; hi = get_or w (at + 1) 0; var = get_or w (at + 2) 0; next = get_or w (at + 3) 0 }
unfolding state_of
read_whole w n k at en e h l = view-at w (get_or w 0 0) k (omega arith) ∙ node-whole w k at e l

pub read-cut : (w : List ℕ) (n k at : ℕ) → n ≡ get_or w 0 0 → at ≡ word_of (length w) k → k < n → length w ≤ at + 3
    → node_at (state_of w).nodes k ≡ no_vertex
unfolding state_of
read-cut w n k at en e h l = view-at w (get_or w 0 0) k (omega arith) ∙ node-cut w k at e l

pub read_none : (w : List ℕ) (n k : ℕ) → n ≡ get_or w 0 0 → n ≤ k → node_at (state_of w).nodes k ≡ no_vertex
read_none w n k en h = get_or-eq_default (state_of w).nodes no_vertex (let q = count-is w in omega arith)

pub head-is : (w : List ℕ) (h : ℕ) → get_or (state_of w).heads h 0 ≡ get_or w (length w - length w / 16 + h) 0
unfolding state_of
head-is w h = get_or-drop (length w - length w / 16) w h 0

pub length-heads : (w : List ℕ) → length (state_of w).heads ≡ length w / 16
unfolding state_of
length-heads w = omega (arith, length-drop (length w - length w / 16) w)

pub length-cache : (w : List ℕ) → length (state_of w).cache ≡ 4 * (length w / 16)
unfolding state_of
length-cache w = length-take-le (4 * (length w / 16)) (drop 4 w) (let l = length-drop 4 w in omega arith)

pub cache-at : (w : List ℕ) (i : ℕ) → i < 4 * (length w / 16) → get_or (state_of w).cache i 0 ≡ get_or w (4 + i) 0
unfolding state_of
cache-at w i h = get_or-take (4 * (length w / 16)) (drop 4 w) i 0 h ∙ get_or-drop 4 w i 0

-- ---- words of one length that agree in some places

pub state-eq : {s t : State} → s.room ≡ t.room → s.looks ≡ t.looks → s.nodes ≡ t.nodes → s.heads ≡ t.heads → s.cache ≡ t.cache
    → s ≡ t
state-eq p q r a b = λ i. record { room = p i; looks = q i; nodes = r i; heads = a i; cache = b i }

module _ (u w : List ℕ) (long : length u ≡ length w) where
  pub room-same : (state_of u).room ≡ (state_of w).room
  unfolding state_of
  room-same = ap room_of long

  pub node-same : (k : ℕ) → ((j : ℕ) → word_of (length w) k ≤ j → j ≤ word_of (length w) k + 3 → get_or u j 0 ≡ get_or w j 0)
      → node_in u k ≡ node_in w k
  unfolding node_in
  node-same k same =
      let at = word_of (length w) k in
      (λ t.
      cond (ltb (word_of (long t) k + 3) (long t))
      (record {
        lo = get_or u (word_of (long t) k) 0;
        hi = get_or u (word_of (long t) k + 1) 0;
        var = get_or u
            (word_of (long t) k + 2) 0;
        next = get_or u (word_of (long t) k + 3) 0;
      })
      no_vertex)
      ∙ ap (λ (n : Vertex). cond (ltb (at + 3) (length w)) n no_vertex)
      (node-eq (same at (omega arith) (omega arith)) (same (at + 1) (omega arith) (omega arith)) (same (at + 2) (omega arith) (omega arith))
      (same (at + 3) (omega arith) (omega arith)))

  pub nodes-same : get_or u 0 0 ≡ get_or w 0 0 → ((j : ℕ) → 4 * (length w / 16) + 4 ≤ j → get_or u j 0 ≡ get_or w j 0)
      → (state_of u).nodes ≡ (state_of w).nodes
  unfolding state_of
  nodes-same count same = ap (view u) count ∙ view-same u w (get_or w 0 0) (λ k h. node-same k (λ j p q. same j (omega arith)))

  pub heads-same : ((j : ℕ) → length w - length w / 16 ≤ j → get_or u j 0 ≡ get_or w j 0) → (state_of u).heads ≡ (state_of w).heads
  heads-same same =
      let p = length-heads u in
      let q = length-heads w in
      ext_get_or 0 (state_of u).heads (state_of w).heads (omega arith)
      (λ i h.
      head-is u i ∙ ap (λ (n : ℕ). get_or u (n - n / 16 + i) 0) long ∙ same (length w - length w / 16 + i) (omega arith) ∙ sym (head-is w i))

  pub cache-same : ((j : ℕ) → 4 ≤ j → j < 4 * (length w / 16) + 4 → get_or u j 0 ≡ get_or w j 0) → (state_of u).cache ≡ (state_of w).cache
  cache-same same =
      let p = length-cache u in
      let q = length-cache w in
      ext_get_or 0 (state_of u).cache (state_of w).cache (omega arith)
      (λ i h. cache-at u i (omega arith) ∙ same (4 + i) (omega arith) (omega arith) ∙ sym (cache-at w i (omega arith)))

-- ---- one store

pub heads-set : (w : List ℕ) (h at x : ℕ) → at ≡ length w - length w / 16 + h → (state_of (set w at x)).heads ≡ set (state_of w).heads h x
unfolding state_of
heads-set w h at x e =
    let n = length w - length w / 16 in
    ap (λ (l : ℕ). drop (l - l / 16) (set w at x)) (length-set w at x) ∙ ap (λ (j : ℕ). drop n (set w j x)) e ∙ drop-set-add n w h x

pub cache-set : (w : List ℕ) (j at x : ℕ) → at ≡ 4 + j → j < 4 * (length w / 16) → (state_of (set w at x)).cache ≡ set (state_of w).cache j x
unfolding state_of
cache-set w j at x e h =
    let n = 4 * (length w / 16) in
    ap (λ (l : ℕ). take (4 * (l / 16)) (drop 4 (set w at x))) (length-set w at x)
    ∙ ap (λ (i : ℕ). take n (drop 4 (set w i x))) e ∙ ap (take n) (drop-set-add 4 w j x) ∙ take-set-lt n (drop 4 w) j x h

-- ---- four words in a row

abbrev pub four_set : List ℕ → ℕ → ℕ → ℕ → ℕ → ℕ → List ℕ
four_set w at a b c d = set (set (set (set w at a) (at + 1) b) (at + 2) c) (at + 3) d

module _ (w : List ℕ) (at a b c d : ℕ) where
  one : List ℕ
  one = set w at a

  two : List ℕ
  two = set one (at + 1) b

  three : List ℕ
  three = set two (at + 2) c

  pub length-four : length (four_set w at a b c d) ≡ length w
  length-four = simp length-set

  pub four-other : (j : ℕ) → (j < at) ⊎ (at + 3 < j) → get_or (four_set w at a b c d) j 0 ≡ get_or w j 0
  unfolding one two three
  four-other j away =
      get_or-set_other three (at + 3) j d 0 (λ q. go away 3 (lit< tt) q) ∙ get_or-set_other two (at + 2) j c 0 (λ q. go away 2 (lit< tt) q)
      ∙ get_or-set_other one (at + 1) j b 0 (λ q. go away 1 (lit< tt) q) ∙ get_or-set_other w at j a 0 (λ q. here away q)
    where
      go : (j < at) ⊎ (at + 3 < j) → (i : ℕ) → i < 4 → j ≡ at + i → ⊥
      go (inl h) i l q = omega arith
      go (inr h) i l q = omega arith

      here : (j < at) ⊎ (at + 3 < j) → j ≡ at → ⊥
      here (inl h) q = omega arith
      here (inr h) q = omega arith

  module _ (fits : at + 3 < length w) where
    l₁ : length one ≡ length w
    unfolding one
    l₁ = length-set w at a

    l₂ : length two ≡ length w
    unfolding two
    l₂ = length-set one (at + 1) b ∙ l₁

    l₃ : length three ≡ length w
    unfolding three
    l₃ = length-set two (at + 2) c ∙ l₂

    pub four-first : get_or (four_set w at a b c d) at 0 ≡ a
    unfolding one two three
    four-first =
        get_or-set_other three (at + 3) at d 0 (λ q. omega arith) ∙ get_or-set_other two (at + 2) at c 0 (λ q. omega arith)
        ∙ get_or-set_other one (at + 1) at b 0 (λ q. omega arith) ∙ get_or-set_same w at a 0 (omega arith)

    pub four-second : get_or (four_set w at a b c d) (at + 1) 0 ≡ b
    unfolding one two three
    four-second =
        get_or-set_other three (at + 3) (at + 1) d 0 (λ q. omega arith) ∙ get_or-set_other two (at + 2) (at + 1) c 0 (λ q. omega arith)
        ∙ get_or-set_same one (at + 1) b 0 (let l = l₁ in omega arith)

    pub four-third : get_or (four_set w at a b c d) (at + 2) 0 ≡ c
    unfolding one two three
    four-third =
        get_or-set_other three (at + 3) (at + 2) d 0 (λ q. omega arith) ∙ get_or-set_same two (at + 2) c 0 (let l = l₂ in omega arith)

    pub four-fourth : get_or (four_set w at a b c d) (at + 3) 0 ≡ d
    unfolding one two three
    four-fourth = get_or-set_same three (at + 3) d 0 (let l = l₃ in omega arith)

    -- they are a node where a node stands
    pub four-node : (k : ℕ) → at ≡ word_of (length w) k
        → node_in (four_set w at a b c d) k ≡ record { lo = a; hi = b; var = c; next = d }
    four-node k e =
        let l = length-four in
        node-whole (four_set w at a b c d) k at (e ∙ ap (λ (n : ℕ). word_of n k) (sym l)) (omega arith)
        ∙ node-eq four-first four-second four-third four-fourth
