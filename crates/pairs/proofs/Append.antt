-- A gate more, in front of its bucket. Assumes nothing.
use mathlib.Core.Path.{◌≡◌, sym, ap, ap₂, ◌∙◌, subst}
use mathlib.Core.List.{List, [], ◌∷◌, ◌++◌}
use Prim.Native.Nat.{ℕ, ◌+◌, ◌*◌, ◌≤◌, ◌<◌}
use native.Mathlib.Decide.{ℕ_discrete}
use native.Mathlib.Omega.{arith}
use lib.ListN.{length, get_or, set, length-set}
use lib.Seq.{get_or-set_same, get_or-set_other}
use Rattle.nodes.specs.Graph.{Pair}
use Rattle.nodes.specs.Store.{field, pairs_of, one_more}
use Rattle.nodes.specs.Last.{last_before}
use Rattle.nodes.specs.declared.Graph.{Graph}
use Rattle.nodes.proofs.Laws.{pairs_of-added, pair_eq}
use Rattle.nodes.proofs.Last.{last-yes, last-no, last-eq}
use Rattle.pairs.specs.Bucket.{bucket_of}
use Rattle.pairs.specs.Store.{bucket_at, in_bucket, Room, Appended}
use Rattle.pairs.proofs.Buckets.{bucket_of-lt, bucket-in, bucket-out, bucket-same, in-same}

-- what the four stores leave
pub record Written (work last : List ℕ) (g : Graph) (left right : ℕ) : Type 0 where
  pub left-stored : field last g.nodes 0 ≡ left
  pub right-stored : field last g.nodes 1 ≡ right
  pub link-stored : field last g.nodes 4 ≡ field work (bucket_of g.room left right) 6
  pub head-stored : field last (bucket_of g.room left right) 6 ≡ g.nodes + 1
  pub others :
      (i : ℕ) → (i ≡ 16 * g.nodes → ⊥) → (i ≡ 16 * g.nodes + 1 → ⊥) → (i ≡ 16 * g.nodes + 4 → ⊥) → (i ≡ 16 * bucket_of g.room left right + 6 → ⊥)
      → get_or last i 0 ≡ get_or work i 0

module _ (work last : List ℕ) (g : Graph) (left right : ℕ) (ready : Room work g) (w : Written work last g left right) where
  h : ℕ
  h = bucket_of g.room left right

  -- words 0, 1 and 4 of other records
  kept : (f : ℕ) → f < 6 → (k : ℕ) → (k ≡ g.nodes → ⊥) → field last k f ≡ field work k f
  unfolding h
  kept f l k n = w.others (16 * k + f) (λ e. n (omega arith)) (λ e. n (omega arith)) (λ e. n (omega arith)) (λ e. omega arith)

  bucket-kept : (k : ℕ) → (k ≡ g.nodes → ⊥) → bucket_at last (one_more g) k ≡ bucket_at work g k
  unfolding bucket_at
  bucket-kept k n = bucket-same work last g k (kept 0 (omega arith) k n) (kept 1 (omega arith) k n)

  bucket-new : bucket_at last (one_more g) g.nodes ≡ h
  unfolding bucket_at h
  bucket-new = ap₂ (bucket_of g.room) w.left-stored w.right-stored

  in_kept : (b k : ℕ) → k < g.nodes → in_bucket last (one_more g) b k ≡ in_bucket work g b k
  unfolding bucket_at in_bucket
  in_kept b k l = in-same work last g b k (bucket-kept k (λ e. omega arith))

  -- the gates below m in bucket b are those that there were
  last-kept : (b m : ℕ) → m ≤ g.nodes → last_before (in_bucket work g b) m ≡ last_before (in_bucket last (one_more g) b) m
  last-kept b m l = last-eq (in_bucket work g b) (in_bucket last (one_more g) b) m (λ k u. sym (in_kept b k (omega arith)))

  head : (b : ℕ) → b < g.room → Dec (b ≡ h) → field last b 6 ≡ last_before (in_bucket last (one_more g) b) (g.nodes + 1)
  unfolding h
  head b l (yes e) =
      ap (λ (x : ℕ). field last x 6) e ∙ w.head-stored
      ∙ sym (last-yes (in_bucket last (one_more g) b) g.nodes (bucket-in last (one_more g) b g.nodes ready.sized.leaves (bucket-new ∙ sym e)))
  head b l (no n) =
      w.others (16 * b + 6) (λ e. omega arith) (λ e. omega arith) (λ e. omega arith) (λ e. n (omega arith))
      ∙ ready.store.heads b l ∙ last-kept b g.nodes (omega arith)
      ∙ sym
      (last-no (in_bucket last (one_more g) b) g.nodes
      (bucket-out last (one_more g) b g.nodes ready.sized.leaves (λ e. n (sym e ∙ bucket-new))))

  link : (k : ℕ) → g.free + 1 ≤ k → k < g.nodes + 1 → Dec (k ≡ g.nodes) → field last k 4 ≡ last_before (in_bucket last (one_more g) (bucket_at last (one_more g) k)) k
  unfolding h
  link k l u (yes e) =
      ap (λ (x : ℕ). field last x 4) e ∙ w.link-stored
      ∙ ready.store.heads h (bucket_of-lt g.room left right (omega (arith, ready.room))) ∙ last-kept h g.nodes (omega arith)
      ∙ ap₂ (λ (b m : ℕ). last_before (in_bucket last (one_more g) b) m) (sym (ap (bucket_at last (one_more g)) e ∙ bucket-new)) (sym e)
  link k l u (no n) =
      kept 4 (omega arith) k n ∙ ready.store.links k l (omega arith) ∙ last-kept (bucket_at work g k) k (omega arith)
      ∙ ap (λ (b : ℕ). last_before (in_bucket last (one_more g) b) k) (sym (bucket-kept k n))

  pub written-appended : Appended work last g left right
  written-appended =
      record {
        pairs =
            pairs_of-added work last g ready.sized.leaves (λ k l u. (kept 0 (omega arith) k (λ e. omega arith), kept 1 (omega arith) k (λ e. omega arith)))
            ∙ ap (λ (p : Pair). pairs_of work g ++ (p ∷ [])) (pair_eq w.left-stored w.right-stored);
        store = record { heads = λ b l. head b l (ℕ_discrete b h); links = λ k l u. link k l u (ℕ_discrete k g.nodes) };
        others = w.others;
      }

-- the four stores of the code: operands, link and head of a gate k in bucket h
abbrev pub operands : List ℕ → ℕ → ℕ → ℕ → List ℕ
operands work k left right = set (set work (16 * k) left) (16 * k + 1) right

abbrev pub linked : List ℕ → ℕ → ℕ → List ℕ
linked work k h = set (set work (16 * k + 4) (get_or work (16 * h + 6) 0)) (16 * h + 6) (k + 1)

-- a word that no store to operands changes
operands-other : (work : List ℕ) (k left right i : ℕ) → (i ≡ 16 * k → ⊥) → (i ≡ 16 * k + 1 → ⊥) → get_or (operands work k left right) i 0 ≡ get_or work i 0
operands-other work k left right i a b =
    get_or-set_other (set work (16 * k) left) (16 * k + 1) i right 0 b ∙ get_or-set_other work (16 * k) i left 0 a

linked-other : (work : List ℕ) (k h i : ℕ) → (i ≡ 16 * k + 4 → ⊥) → (i ≡ 16 * h + 6 → ⊥) → get_or (linked work k h) i 0 ≡ get_or work i 0
linked-other work k h i a b =
    get_or-set_other (set work (16 * k + 4) (get_or work (16 * h + 6) 0)) (16 * h + 6) i (k + 1) 0 b
    ∙ get_or-set_other work (16 * k + 4) i (get_or work (16 * h + 6) 0) 0 a

module _ (work : List ℕ) (g : Graph) (left right b : ℕ) (ready : Room work g) (e : b ≡ bucket_of g.room left right) (l : b < g.room) where
  one : List ℕ
  one = set work (16 * g.nodes) left

  two : List ℕ
  two = operands work g.nodes left right

  last : List ℕ
  last = linked two g.nodes b

  length_two : length two ≡ length work
  unfolding two
  length_two = simp length-set

  pub stores-written : Written work (linked (operands work g.nodes left right) g.nodes b) g left right
  unfolding one two last
  stores-written =
      let lw : length (set work (16 * g.nodes) left) ≡ length work = simp length-set in
      let lt = length_two in
      let ls : length (set two (16 * g.nodes + 4) (get_or two (16 * b + 6) 0)) ≡ length two = simp length-set in
      let held = ready.sized.held in
      let z : 16 * g.nodes + 0 ≡ 16 * g.nodes = omega arith in
      record {
        left-stored =
            linked-other two g.nodes b (16 * g.nodes + 0) (λ q. omega arith) (λ q. omega arith)
            ∙ get_or-set_other one (16 * g.nodes + 1) (16 * g.nodes + 0) right 0 (λ q. omega arith)
            ∙ ap (λ (i : ℕ). get_or one i 0) z ∙ get_or-set_same work (16 * g.nodes) left 0 (omega (arith, ready.room));
        right-stored =
            linked-other two g.nodes b (16 * g.nodes + 1) (λ q. omega arith) (λ q. omega arith)
            ∙ get_or-set_same one (16 * g.nodes + 1) right 0 (omega (arith, ready.room));
        link-stored =
            get_or-set_other (set two (16 * g.nodes + 4) (get_or two (16 * b + 6) 0)) (16 * b + 6) (16 * g.nodes + 4) (g.nodes + 1) 0 (λ q. omega arith)
            ∙ get_or-set_same two (16 * g.nodes + 4) (get_or two (16 * b + 6) 0) 0 (omega (arith, ready.room))
            ∙ operands-other work g.nodes left right (16 * b + 6) (λ q. omega arith) (λ q. omega arith)
            ∙ ap (λ (x : ℕ). field work x 6) e;
        head-stored =
            ap (λ (x : ℕ). field last x 6) (sym e)
            ∙ get_or-set_same (set two (16 * g.nodes + 4) (get_or two (16 * b + 6) 0)) (16 * b + 6) (g.nodes + 1) 0 (omega arith);
        others = λ i n0 n1 n4 n6.
            linked-other two g.nodes b i n4 (λ q. n6 (omega arith)) ∙ operands-other work g.nodes left right i n0 n1;
      }

-- the same gate by equal words of its operands
pub appended-as : {work last : List ℕ} {g : Graph} {l m p q : ℕ} → l ≡ p → m ≡ q → Appended work last g l m → Appended work last g p q
appended-as {work} {last} {g} {l} {m} {p} {q} e f a = subst (λ (x : ℕ). Appended work last g x q) e (subst (λ (y : ℕ). Appended work last g l y) f a)
