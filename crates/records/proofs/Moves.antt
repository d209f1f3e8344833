-- Records that are moved down in place. Assumes nothing.
use mathlib.Core.Path.{◌≡◌, refl, sym, ap, ap₂, ◌∙◌, subst}
use mathlib.Core.Bool.{Bool, true, false, cond}
use mathlib.Core.List.{List}
use mathlib.Core.Logic.{◌⊎◌, inl, inr, ⊎_elim}
use Prim.Native.Nat.{ℕ, zero, suc, ◌+◌, ◌-◌, ◌*◌, ◌/◌, ◌%◌, ◌≤◌, ◌<◌}
use native.Mathlib.Decide.{ℕ_discrete}
use native.Mathlib.Omega.{arith}
use borrow.Author.Tests.{eq-eqb, ne_eqb}
use lib.Dec.{eqb}
use lib.ListN.{length, get_or}
use Rattle.records.specs.Steps.{word, edge_to, renumber, three, zeroed, first_fact, leaf_set, leaves_set, gate_set, gates_set, moved_to, moved, all_moved, compacted}
use Rattle.records.proofs.Words.{Zeroed, zeroed-words, three-length, three-first, three-second, three_third, three-other, Set, Steady, set_all}

-- ---- leaves and gates

module _ (w : List ℕ) (n : ℕ) (room : 16 * n ≤ length w) where
  pub leaves-set : Set w 0 n (λ u k. edge_to k 0) (λ u k. edge_to k 0) (λ u k. first_fact (word u k 10)) 0 (leaves_set w n)
  unfolding leaf_set
  leaves-set =
      set_all w 0 n (λ u k. edge_to k 0) (λ u k. edge_to k 0) (λ u k. first_fact (word u k 10))
      (record { left-same = λ u k s. refl; right-same = λ u k s. refl; fact-same = λ u k s. ap first_fact (s k 10 (omega arith) (λ p q. omega arith)) })
      (omega arith) leaf_set
      (λ u j. let e : j ≡ 0 + j = omega arith in ap (λ (k : ℕ). three u (16 * k) (edge_to k 0) (edge_to k 0) (first_fact (word u k 10))) e)

module _ (w : List ℕ) (first n : ℕ) (room : 16 * (first + n) ≤ length w) where
  pub gates-set : Set w first n (λ u k. renumber u (word u k 0)) (λ u k. renumber u (word u k 1)) (λ u k. 0) first (gates_set w first n)
  unfolding gate_set renumber
  gates-set =
      set_all w first n (λ u k. renumber u (word u k 0)) (λ u k. renumber u (word u k 1)) (λ u k. 0)
      (record {
        left-same = λ u k s.
            let e = s k 0 (omega arith) (λ p q. omega arith) in
            ap₂ edge_to (s (word u k 0 / 2) 10 (omega arith) (λ p q. omega arith) ∙ ap (λ (x : ℕ). word w (x / 2) 10) e) e;
        right-same = λ u k s.
            let e = s k 1 (omega arith) (λ p q. omega arith) in
            ap₂ edge_to (s (word u k 1 / 2) 10 (omega arith) (λ p q. omega arith) ∙ ap (λ (x : ℕ). word w (x / 2) 10) e) e;
        fact-same = λ u k s. refl;
      })
      room (λ u j. gate_set u (first + j)) (λ u j. refl)

-- ---- one record

pub record Moved (w u : List ℕ) (k v : ℕ) : Type 0 where
  pub size : length u ≡ length w
  pub here : (f : ℕ) → f < 3 → get_or u (14 * v + f) 0 ≡ word w k f
  pub zero : (f : ℕ) → 3 ≤ f → f < 14 → get_or u (14 * v + f) 0 ≡ 0
  pub below : (j : ℕ) → j < 14 * v → get_or u j 0 ≡ get_or w j 0
  pub above : (j : ℕ) → 14 * v + 14 ≤ j → get_or u j 0 ≡ get_or w j 0

pub moved-to : (w : List ℕ) (k v : ℕ) → 14 * v + 14 ≤ length w → Moved w (moved_to w k v) k v
unfolding moved_to
moved-to w k v room =
    let z = zeroed-words w (14 * v) 14 room in
    let y = zeroed w (14 * v) 14 in
    let a = word w k 0 in
    let b = word w k 1 in
    let c = word w k 2 in
    let e : 14 * v + 0 ≡ 14 * v = omega arith in
    let fits : 14 * v + 3 ≤ length y = omega (arith, z.size) in
    record {
      size = three-length y (14 * v) a b c ∙ z.size;
      here = λ f h.
          elim (ℕ_discrete f 0) [
            | yes q ↦
                subst (λ (x : ℕ). get_or (three y (14 * v) a b c) (14 * v + x) 0 ≡ word w k x) (sym q)
                (ap (λ (j : ℕ). get_or (three y (14 * v) a b c) j 0) e ∙ three-first y (14 * v) a b c fits)
            | no q ↦
                elim (ℕ_discrete f 1) [
                  | yes r ↦ subst (λ (x : ℕ). get_or (three y (14 * v) a b c) (14 * v + x) 0 ≡ word w k x) (sym r) (three-second y (14 * v) a b c fits)
                  | no r ↦
                      let s : 2 ≡ f = omega arith in
                      subst (λ (x : ℕ). get_or (three y (14 * v) a b c) (14 * v + x) 0 ≡ word w k x) s (three_third y (14 * v) a b c fits)
                ]
          ];
      zero = λ f l h.
          three-other y (14 * v) a b c (14 * v + f) (λ q. omega arith) (λ q. omega arith) (λ q. omega arith) ∙ z.zero (14 * v + f) (omega arith) (omega arith);
      below = λ j h. three-other y (14 * v) a b c j (λ q. omega arith) (λ q. omega arith) (λ q. omega arith) ∙ z.below j h;
      above = λ j h. three-other y (14 * v) a b c j (λ q. omega arith) (λ q. omega arith) (λ q. omega arith) ∙ z.above j h;
    }

-- ---- all records

-- node i has a record in the netlist
abbrev pub Listed : List ℕ → ℕ → Type 0
Listed w i = (i ≡ 0) ⊎ (word w i 10 ≡ 0 → ⊥)

-- the numbers of n nodes rise and are no larger than the nodes
pub record Rising (w : List ℕ) (n : ℕ) : Type 0 where
  pub room : 16 * n ≤ length w
  pub some : 1 ≤ n
  pub constant : word w 0 10 ≡ 0
  pub small : (k : ℕ) → k < n → word w k 10 ≤ k
  pub more : (i k : ℕ) → i < k → k < n → Listed w i → (word w k 10 ≡ 0 → ⊥) → word w i 10 < word w k 10

-- the records of the nodes before node k are moved
pub record Moving (w : List ℕ) (k : ℕ) (u : List ℕ) : Type 0 where
  pub size : length u ≡ length w
  pub rest : (j : ℕ) → 16 * k ≤ j → get_or u j 0 ≡ get_or w j 0
  pub here : (i : ℕ) → i < k → Listed w i → (f : ℕ) → f < 3 → get_or u (14 * word w i 10 + f) 0 ≡ word w i f
  pub zero : (i : ℕ) → i < k → Listed w i → (f : ℕ) → 3 ≤ f → f < 14 → get_or u (14 * word w i 10 + f) 0 ≡ 0

module _ (w : List ℕ) (n : ℕ) (r : Rising w n) where
  moving-start : Moving w 1 (moved_to w 0 0)
  moving-start =
      let m = moved-to w 0 0 (omega (arith, r.room, r.some)) in
      let z : (i : ℕ) → i < 1 → i ≡ 0 = λ i h. omega arith in
      let e : (f : ℕ) → 14 * word w 0 10 + f ≡ 14 * 0 + f = λ f. omega (arith, r.constant) in
      record {
        size = m.size;
        rest = λ j h. m.above j (omega arith);
        here = λ i h l f s.
            subst (λ (x : ℕ). get_or (moved_to w 0 0) (14 * word w x 10 + f) 0 ≡ word w x f) (sym (z i h))
            (ap (λ (x : ℕ). get_or (moved_to w 0 0) x 0) (e f) ∙ m.here f s);
        zero = λ i h l f s t.
            subst (λ (x : ℕ). get_or (moved_to w 0 0) (14 * word w x 10 + f) 0 ≡ 0) (sym (z i h))
            (ap (λ (x : ℕ). get_or (moved_to w 0 0) x 0) (e f) ∙ m.zero f s t);
      }

  moving-skip : (k : ℕ) (u : List ℕ) → 1 ≤ k → Moving w k u → word w k 10 ≡ 0 → Moving w (k + 1) u
  moving-skip k u l m z =
      let before : (i : ℕ) → i < k + 1 → Listed w i → i < k =
      λ i h o.
      elim (ℕ_discrete i k) [
        | yes e ↦ absurd (⊎_elim (λ (a : i ≡ 0). omega arith) (λ (a : word w i 10 ≡ 0 → ⊥). a (ap (λ (x : ℕ). word w x 10) e ∙ z)) o)
        | no e ↦ omega arith
      ] in
      record {
        size = m.size;
        rest = λ j h. m.rest j (omega arith);
        here = λ i h o f s. m.here i (before i h o) o f s;
        zero = λ i h o f s t. m.zero i (before i h o) o f s t;
      }

  moving-here : (k : ℕ) (u : List ℕ) → k < n → Moving w k u → (word w k 10 ≡ 0 → ⊥) → Moving w (k + 1) (moved_to u k (word w k 10))
  moving-here k u l m z =
      let v = word w k 10 in
      let t = r.small k l in
      let d = moved-to u k v (omega (arith, m.size, r.room)) in
      record {
        size = d.size ∙ m.size;
        rest = λ j h. d.above j (omega arith) ∙ m.rest j (omega arith);
        here = λ i h o f s.
            elim (ℕ_discrete i k) [
              | yes e ↦
                  subst (λ (x : ℕ). get_or (moved_to u k v) (14 * word w x 10 + f) 0 ≡ word w x f) (sym e) (d.here f s ∙ m.rest (16 * k + f) (omega arith))
              | no e ↦ d.below (14 * word w i 10 + f) (omega (arith, r.more i k (omega arith) l o z)) ∙ m.here i (omega arith) o f s
            ];
        zero = λ i h o f s q.
            elim (ℕ_discrete i k) [
              | yes e ↦ subst (λ (x : ℕ). get_or (moved_to u k v) (14 * word w x 10 + f) 0 ≡ 0) (sym e) (d.zero f s q)
              | no e ↦ d.below (14 * word w i 10 + f) (omega (arith, r.more i k (omega arith) l o z)) ∙ m.zero i (omega arith) o f s q
            ];
      }

  moving-more : (k : ℕ) (u : List ℕ) → 1 ≤ k → k < n → Moving w k u → Moving w (k + 1) (moved u k)
  unfolding moved
  moving-more k u l h m =
      let e : word u k 10 ≡ word w k 10 = m.rest (16 * k + 10) (omega arith) in
      elim (ℕ_discrete (word w k 10) 0) [
        | yes z ↦ rw (eq-eqb (word u k 10) 0 (e ∙ z)) (moving-skip k u l m z)
        | no z ↦ rw (ne_eqb (word u k 10) 0 (λ q. z (sym e ∙ q)), e) (moving-here k u h m z)
      ]

  moving-all : (k j : ℕ) (u : List ℕ) → 1 ≤ k → k + j ≤ n → Moving w k u → Moving w (k + j) (all_moved u k j)
  unfolding all_moved
  moving-all k zero u l h m = let e : k ≡ k + 0 = omega arith in subst (λ (x : ℕ). Moving w x u) e m
  moving-all k (suc j) u l h m =
      let e : k + 1 + j ≡ k + suc j = omega arith in
      subst (λ (x : ℕ). Moving w x (all_moved (moved u k) (k + 1) j)) e
      (moving-all (k + 1) j (moved u k) (omega arith) (omega arith) (moving-more k u l (omega arith) m))

  pub moved_all : Moving w n (all_moved (moved_to w 0 0) 1 (n - 1))
  moved_all =
      let e : 1 + (n - 1) ≡ n = omega (arith, r.some) in
      subst (λ (x : ℕ). Moving w x (all_moved (moved_to w 0 0) 1 (n - 1))) e (moving-all 1 (n - 1) (moved_to w 0 0) (omega arith) (omega (arith, r.some)) moving-start)

-- the records of a netlist of so many nodes, from those of the words v, and nothing else
pub record Compact (v last : List ℕ) (n nodes : ℕ) : Type 0 where
  pub size : length last ≡ length v
  pub here : (i : ℕ) → i < n → Listed v i → (f : ℕ) → f < 3 → get_or last (14 * word v i 10 + f) 0 ≡ word v i f
  pub zero : (i : ℕ) → i < n → Listed v i → (f : ℕ) → 3 ≤ f → f < 14 → get_or last (14 * word v i 10 + f) 0 ≡ 0
  pub rest : (j : ℕ) → 14 * nodes ≤ j → j < length last → get_or last j 0 ≡ 0

pub compacted-words : (w : List ℕ) (first n nodes : ℕ) → Rising (gates_set w first (n - first)) n → 14 * nodes ≤ length (gates_set w first (n - first))
    → ((i : ℕ) → i < n → Listed (gates_set w first (n - first)) i → word (gates_set w first (n - first)) i 10 < nodes)
    → Compact (gates_set w first (n - first)) (compacted w first n nodes) n nodes
unfolding compacted
compacted-words w first n nodes r fits below =
    let v = gates_set w first (n - first) in
    let u = all_moved (moved_to v 0 0) 1 (n - 1) in
    let m = moved_all v n r in
    let z = zeroed-words u (14 * nodes) (length u - 14 * nodes) (omega (arith, m.size)) in
    record {
      size = z.size ∙ m.size;
      here = λ i h o f s. z.below (14 * word v i 10 + f) (omega (arith, below i h o)) ∙ m.here i h o f s;
      zero = λ i h o f s t. z.below (14 * word v i 10 + f) (omega (arith, below i h o)) ∙ m.zero i h o f s t;
      rest = λ j l h. z.zero j l (omega (arith, z.size));
    }
