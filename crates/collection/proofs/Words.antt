-- What the stores of a function leave, as a state: a node, a head, the first nodes with empty tables. Assumes nothing.
use mathlib.Core.Path.{◌≡◌, refl, sym, ap, ap₂, ◌∙◌}
use mathlib.Core.Bool.{Bool, true, false}
use mathlib.Core.List.{List, [], ◌∷◌}
use mathlib.Core.Logic.{◌⊎◌, inl, inr}
use Prim.Native.Nat.{ℕ, zero, suc, ◌+◌, ◌-◌, ◌*◌, ◌/◌, ◌≤◌, ◌<◌}
use native.Mathlib.Decide.{ℕ_discrete}
use native.Mathlib.Omega.{arith}
use borrow.Author.Tests.{ltb-true, ltb-false}
use lib.Dec.{ltb}
use lib.ListN.{length, get_or, set, take, replicate, length-set, length-replicate}
use lib.Seq.{get_or-set_same, get_or-set_other, set_out, ext_get_or, get_or-take, length-take-le}
use Rattle.diagrams.specs.declared.Vertex.{Vertex}
use Rattle.diagrams.specs.Words.{no_vertex, word_of, node_in, node_at, room_of}
use Rattle.diagrams.specs.States.{State, state_of}
use Rattle.diagrams.proofs.View.{node_at_lem, state-eq, room-same, node-same, nodes-same, heads-same, cache-same, heads-set, count-is, looks-is, room-is, head-is, length-heads, length-cache, cache-at, four_set, length-four, four-other, four-node}
use Rattle.diagrams.proofs.Stores.{room_fits}
use Rattle.collection.specs.Collecting.{with_nodes, trimmed}
use Rattle.collection.specs.Zeros.{Zeroed}

-- nodes that are the same by position
nodes-eq : (u : List ℕ) (ns : List Vertex) → get_or u 0 0 ≡ length ns → ((k : ℕ) → k < length ns → node_in u k ≡ node_at ns k)
    → (state_of u).nodes ≡ ns
nodes-eq u ns l same =
    let c = count-is u in
    ext_get_or no_vertex (state_of u).nodes ns (c ∙ l) (λ k h. node_at_lem u k (omega arith) ∙ same k (omega arith))

-- ---- a node

module _ (w : List ℕ) (k at : ℕ) (n : Vertex) (ea : at ≡ word_of (length w) k) where
  pub store_in : k < room_of (length w) → state_of (four_set w at n.lo n.hi n.var n.next) ≡ with_nodes (state_of w)
      (set (state_of w).nodes k n)
  store_in l =
      let u = four_set w at n.lo n.hi n.var n.next in
      let long = length-four w at n.lo n.hi n.var n.next in
      let other : (j : ℕ) → (j < at) ⊎ (at + 3 < j) → get_or u j 0 ≡ get_or w j 0 = four-other w at n.lo n.hi n.var n.next in
      let f = room_fits (length w) k l in
      let ns = (state_of w).nodes in
      let c = count-is w in
      let zero_same : get_or u 0 0 ≡ get_or w 0 0 = other 0 (inl (omega arith)) in
      state-eq (room-same u w long) (looks-is u ∙ other 1 (inl (omega arith)) ∙ sym (looks-is w))
      (nodes-eq u (set ns k n) (zero_same ∙ sym c ∙ sym (length-set ns k n))
      (λ j h. each j (omega (arith, length-set ns k n)) (ℕ_discrete j k) other long f))
      (heads-same u w long (λ j p. other j (inr (omega arith))))
      (cache-same u w long (λ j p q. other j (inl (omega arith))))
    where
      each : (j : ℕ) → j < length (state_of w).nodes → Dec (j ≡ k)
          → ((i : ℕ) → (i < at) ⊎ (at + 3 < i) → get_or (four_set w at n.lo n.hi n.var n.next) i 0 ≡ get_or w i 0)
          → length (four_set w at n.lo n.hi n.var n.next) ≡ length w → word_of (length w) k + 4 ≤ length w - length w / 16
          → node_in (four_set w at n.lo n.hi n.var n.next) j ≡ node_at (set (state_of w).nodes k n) j
      each j h (yes e) other long f =
          ap (node_in (four_set w at n.lo n.hi n.var n.next)) e
          ∙ four-node w at n.lo n.hi n.var n.next (omega arith) k ea
          ∙ sym (ap (node_at (set (state_of w).nodes k n)) e ∙ get_or-set_same (state_of w).nodes k n no_vertex (omega arith))
      each j h (no e) other long f =
          node-same (four_set w at n.lo n.hi n.var n.next) w long j (λ i p q. other i (side i p q (ltb j k) refl))
          ∙ sym (node_at_lem w j (omega (arith, count-is w))) ∙ sym (get_or-set_other (state_of w).nodes k j n no_vertex e)
        where
          side : (i : ℕ) → word_of (length w) j ≤ i → i ≤ word_of (length w) j + 3 → (b : Bool) → ltb j k ≡ b → (i < at) ⊎ (at + 3 < i)
          side i p q true z = inl (omega (arith, ltb-true j k z))
          side i p q false z = inr (let m = ltb-false j k z in let d : (j ≡ k → ⊥) = e in omega arith)

  pub store_out : room_of (length w) ≤ k → length (state_of w).nodes ≤ (state_of w).room
      → state_of w ≡ with_nodes (state_of w) (set (state_of w).nodes k n)
  store_out l h =
      state-eq {s = state_of w} refl refl (sym (set_out (state_of w).nodes k n (omega (arith, room-is w)))) refl refl

-- ---- a head

-- a store among the heads
module _ (w : List ℕ) (h at x : ℕ) (ea : at ≡ length w - length w / 16 + h) (inside : length (state_of w).nodes ≤ (state_of w).room) where
  abbrev headed : State
  headed =
      record {
        room = (state_of w).room;
        looks = (state_of w).looks;
        nodes = (state_of w).nodes;
        heads = set
            (state_of w).heads h x;
        cache = (state_of w).cache;
      }

  pub head-left : state_of (set w at x) ≡ headed
  head-left = go (ltb (length w) 16) refl
    where
      u : List ℕ
      u = set w at x

      long : length (set w at x) ≡ length w
      long = length-set w at x

      other : (j : ℕ) → (j ≡ at → ⊥) → get_or (set w at x) j 0 ≡ get_or w j 0
      other j p = get_or-set_other w at j x 0 p

      go : (b : Bool) → ltb (length w) 16 ≡ b → state_of (set w at x) ≡ headed
      go true e =
          let l = ltb-true (length w) 16 e in
          let same : set w at x ≡ w = set_out w at x (omega arith) in
          ap state_of same
          ∙ state-eq {s = state_of w} refl refl refl (sym (set_out (state_of w).heads h x (omega (arith, length-heads w)))) refl
      go false e =
          let l = ltb-false (length w) 16 e in
          let c = count-is w in
          state-eq (room-same (set w at x) w long) (looks-is (set w at x) ∙ other 1 (λ z. omega arith) ∙ sym (looks-is w))
          (nodes-eq (set w at x) (state_of w).nodes (other 0 (λ z. omega arith) ∙ sym c)
          (λ k i.
          let f = room_fits (length w) k (omega (arith, room-is w)) in
          node-same (set w at x) w long k (λ j p q. other j (λ z. omega arith)) ∙ sym (node_at_lem w k (omega arith))))
          (heads-set w h at x ea) (cache-same (set w at x) w long (λ j p q. other j (λ z. omega arith)))

-- ---- the first nodes, with empty tables

zeros-at : (n i : ℕ) → get_or {A = ℕ} (replicate n 0) i 0 ≡ 0
zeros-at zero i = refl
zeros-at (suc n) zero = refl
zeros-at (suc n) (suc i) = zeros-at n i

-- a list of zeros
zeros-eq : (l : List ℕ) (n : ℕ) → length l ≡ n → ((i : ℕ) → i < length l → get_or l i 0 ≡ 0) → l ≡ replicate n 0
zeros-eq l n e h =
    ext_get_or 0 l (replicate n 0) (e ∙ sym (length-replicate {A = ℕ} n 0)) (λ i p. h i p ∙ sym (zeros-at n i))

module _ (w u x y : List ℕ) (k : ℕ) (less : k ≤ length (state_of w).nodes) (inside : length (state_of w).nodes ≤ (state_of w).room)
    (some : 0 < k)
    (eu : u ≡ set w 0 k) (ex : Zeroed u x 4 (4 * (length w / 16) + 4)) (ey : Zeroed x y (length w - length w / 16) (length w)) where
  pub trim-left : state_of y ≡ trimmed (state_of w) k
  unfolding trimmed
  trim-left =
      let c = count-is w in
      let r = room-is w in
      let lu : length u ≡ length w = ap length eu ∙ length-set w 0 k in
      let long : length y ≡ length w = ey.long ∙ ex.long ∙ lu in
      let big = room_fits (length w) 0 (omega arith) in
      let first : get_or y 0 0 ≡ k =
      ey.outside 0 (inl (omega arith)) ∙ ex.outside 0 (inl (omega arith)) ∙ ap (λ (l : List ℕ). get_or l 0 0) eu ∙ get_or-set_same w 0 k 0
      (omega arith) in
      let below : (j : ℕ) → 0 < j → (j < 4) ⊎ (4 * (length w / 16) + 4 ≤ j) → j < length w - length w / 16
      → get_or y j 0 ≡ get_or w j 0 = λ j p q t.
      ey.outside j (inl t) ∙ ex.outside j q ∙ ap (λ (l : List ℕ). get_or l j 0) eu ∙ get_or-set_other w 0 j k 0 (λ z. omega arith) in
      let taken = length-take-le k (state_of w).nodes less in
      state-eq (room-same y w long) (looks-is y ∙ below 1 (omega arith) (inl (omega arith)) (omega arith) ∙ sym (looks-is w))
      (nodes-eq y (take k (state_of w).nodes) (first ∙ sym taken)
      (λ j i.
      let f = room_fits (length w) j (omega arith) in
      node-same y w long j (λ m p q. below m (omega arith) (inr (omega arith)) (omega arith)) ∙ sym (node_at_lem w j (omega arith))
      ∙ sym (get_or-take k (state_of w).nodes j no_vertex (omega arith))))
      (zeros-eq (state_of y).heads (length (state_of w).heads) (length-heads y ∙ ap (λ (n : ℕ). n / 16) long ∙ sym (length-heads w))
      (λ i h.
      head-is y i ∙ ap (λ (n : ℕ). get_or y (n - n / 16 + i) 0) long
      ∙ ey.inside (length w - length w / 16 + i) (omega arith) (omega (arith, length-heads y))))
      (zeros-eq (state_of y).cache (length (state_of w).cache) (length-cache y ∙ ap (λ (n : ℕ). 4 * (n / 16)) long ∙ sym (length-cache w))
      (λ i h.
      let l = length-cache y in
      cache-at y i (omega arith)
      ∙ ey.outside (4 + i) (inl (omega arith)) ∙ ex.inside (4 + i) (omega arith) (omega arith)))
