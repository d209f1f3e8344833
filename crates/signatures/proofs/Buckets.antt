-- Laws of buckets: a signature and its complement have the same one, and a node is put in front of its bucket. Assumes nothing.
use mathlib.Core.Path.{◌≡◌, refl, sym, ap, ap₂, ◌∙◌}
use mathlib.Core.Bool.{Bool, true, false, cond}
use mathlib.Core.List.{List}
use mathlib.Core.Logic.{◌⊎◌, inl, inr}
use Prim.Native.Nat.{ℕ, ◌+◌, ◌-◌, ◌*◌, ◌%◌, ◌^◌, ◌≤◌, ◌<◌}
use native.Mathlib.Nat.{mod-lt, eq-or-lt_of_le}
use native.Mathlib.Omega.{arith}
use borrow.Author.Count.{below_more}
use borrow.Author.Tests.{eqb-true, eqb-false}
use lib.Dec.{eqb}
use lib.ListN.{length, get_or, set, length-set}
use lib.Seq.{get_or-set_same, get_or-set_other}
use Rattle.aiger.specs.Bits.{nonzero}
use Rattle.nodes.specs.Store.{field}
use Rattle.signatures.specs.Words.{word_at, Put, Kept, signature_word}
use Rattle.nodes.specs.Last.{last_before}
use Rattle.signatures.specs.Bucket.{normal, bucket_of}
use Rattle.signatures.specs.Store.{in_bucket, Chained, Linked}
use Rattle.signatures.proofs.Words.{word_same, test-apart}
use Rattle.nodes.proofs.Last.{last-zero, last-yes, last-no, last-eq}

pub bucket-below : (room s : ℕ) → 0 < room → bucket_of room s < room
unfolding bucket_of
bucket-below room s h = mod-lt _ h

pub normal-odd : (s : ℕ) → s % 2 ≡ 1 → normal s ≡ (2 ^ 64 - 1) - s
unfolding normal
normal-odd s h = ap (λ (r : ℕ). cond (nonzero r) ((2 ^ 64 - 1) - s) s) h

pub normal-even : (s : ℕ) → (s % 2 ≡ 1 → ⊥) → normal s ≡ s
unfolding normal
normal-even s h = let e : s % 2 ≡ 0 = omega arith in ap (λ (r : ℕ). cond (nonzero r) ((2 ^ 64 - 1) - s) s) e

pub normal-complement : (s : ℕ) → s < 2 ^ 64 → normal ((2 ^ 64 - 1) - s) ≡ normal s
normal-complement s h = go (eqb (s % 2) 1) refl
  where
    go : (b : Bool) → eqb (s % 2) 1 ≡ b → normal ((2 ^ 64 - 1) - s) ≡ normal s
    go true e =
        let o : s % 2 ≡ 1 = eqb-true (s % 2) 1 e in
        normal-even ((2 ^ 64 - 1) - s) (λ z. omega arith) ∙ sym (normal-odd s o)
    go false e =
        let n : s % 2 ≡ 1 → ⊥ = eqb-false (s % 2) 1 e in
        let z : (2 ^ 64 - 1) - ((2 ^ 64 - 1) - s) ≡ s = omega arith in
        normal-odd ((2 ^ 64 - 1) - s) (omega arith) ∙ z ∙ sym (normal-even s n)

pub bucket-complement : (room s : ℕ) → s < 2 ^ 64 → bucket_of room ((2 ^ 64 - 1) - s) ≡ bucket_of room s
unfolding bucket_of
bucket-complement room s h = rw (normal-complement s h)

-- ---- no node is in a bucket yet

-- the first m buckets are empty, and no word but that of a bucket was changed
pub record ClearedUpto (work last : List ℕ) (room m : ℕ) : Type 0 where
  pub long : length last ≡ length work
  pub heads : (h : ℕ) → h < m → field last h 7 ≡ 0
  pub others : (i : ℕ) → ((h : ℕ) → h < room → i ≡ 16 * h + 7 → ⊥) → get_or last i 0 ≡ get_or work i 0

pub cleared-none : (work : List ℕ) (room : ℕ) → ClearedUpto work work room 0
cleared-none work room = record { long = refl; heads = λ h l. absurd (omega arith); others = λ i h. refl }

pub cleared_more : (work now : List ℕ) (room m : ℕ) → m < room → 16 * m + 7 < length now → ClearedUpto work now room m → ClearedUpto work (set now (16 * m + 7) 0) room (m + 1)
cleared_more work now room m h i u =
    record {
      long = length-set now (16 * m + 7) 0 ∙ u.long;
      heads =
          below_more (λ j. field (set now (16 * m + 7) 0) j 7 ≡ 0) m
          (λ j l. get_or-set_other now (16 * m + 7) (16 * j + 7) 0 0 (omega arith) ∙ u.heads j l)
          (get_or-set_same now (16 * m + 7) 0 0 i);
      others = λ j k. get_or-set_other now (16 * m + 7) j 0 0 (k m h) ∙ u.others j k;
    }

pub chained-none : (work : List ℕ) (room : ℕ) → ((h : ℕ) → h < room → field work h 7 ≡ 0) → Chained work room 0
chained-none work room e =
    record { heads = λ h k. e h k ∙ sym (last-zero (in_bucket work room h)); chain = λ k h. absurd (omega arith) }

-- ---- a node is put in front of its bucket

pub link-node : (work now : List ℕ) (room k s h : ℕ) → h ≡ bucket_of room s → Put work now k 2 s → 16 * k + 5 < length now → 16 * h + 7 < length now
    → Linked work (set (set now (16 * k + 5) (get_or now (16 * h + 7) 0)) (16 * h + 7) (k + 1)) room k s
link-node work now room k s h e p i j =
    let next : ℕ = get_or now (16 * h + 7) 0 in
    let once : List ℕ = set now (16 * k + 5) next in
    let last : List ℕ = set once (16 * h + 7) (k + 1) in
    let other : (m : ℕ) → (m ≡ 16 * k + 5 → ⊥) → (m ≡ 16 * h + 7 → ⊥) → get_or last m 0 ≡ get_or now m 0 =
    λ m a b. get_or-set_other once (16 * h + 7) m (k + 1) 0 b ∙ get_or-set_other now (16 * k + 5) m next 0 a in
    record {
      stored = word_same now last k 2 (other (16 * k + 2) (omega arith) (omega arith)) (other (16 * k + 3) (omega arith) (omega arith)) ∙ p.stored;
      next = get_or-set_other once (16 * h + 7) (16 * k + 5) (k + 1) 0 (omega arith) ∙ get_or-set_same now (16 * k + 5) next 0 i
          ∙ p.others (16 * h + 7) (omega arith) (omega arith) ∙ ap (λ (m : ℕ). field work m 7) e;
      head = ap (λ (m : ℕ). field last m 7) (sym e) ∙ get_or-set_same once (16 * h + 7) (k + 1) 0 (simp length-set j);
      others = λ m a b c d. other m c (omega arith) ∙ p.others m a b;
    }

module _ (work last : List ℕ) (room k s : ℕ) (within : k < room) (linked : Linked work last room k s) where
  pub linked-word : (j : ℕ) → (j ≡ k → ⊥) → word_at last j 2 ≡ word_at work j 2
  linked-word j h =
      word_same work last j 2
      (linked.others (16 * j + 2) (omega arith) (omega arith) (omega arith) (omega arith))
      (linked.others (16 * j + 3) (omega arith) (omega arith) (omega arith) (omega arith))

  pub linked-kept : Kept signature_word work last
  linked-kept j f h t =
      let a : f ≡ 2 → ⊥ = test-apart signature_word f 2 t refl in
      let b : f ≡ 3 → ⊥ = test-apart signature_word f 3 t refl in
      let c : f ≡ 5 → ⊥ = test-apart signature_word f 5 t refl in
      let d : f ≡ 7 → ⊥ = test-apart signature_word f 7 t refl in
      linked.others (16 * j + f) (omega arith) (omega arith) (omega arith) (omega arith)

  pub linked-beyond : (i : ℕ) → 16 * room ≤ i → get_or last i 0 ≡ get_or work i 0
  linked-beyond i h =
      let b = bucket-below room s (omega arith) in
      linked.others i (omega arith) (omega arith) (omega arith) (omega arith)

  bucket-same : (h j : ℕ) → j < k → in_bucket work room h j ≡ in_bucket last room h j
  bucket-same h j l = ap (λ (w : ℕ). eqb (bucket_of room w) h) (sym (linked-word j (omega arith)))

  bucket-here : (h : ℕ) → in_bucket last room h k ≡ eqb (bucket_of room s) h
  bucket-here h = ap (λ (w : ℕ). eqb (bucket_of room w) h) linked.stored

  module _ (chained : Chained work room k) where
    before : (h : ℕ) → h < room → field work h 7 ≡ last_before (in_bucket last room h) k
    before h l = chained.heads h l ∙ last-eq (in_bucket work room h) (in_bucket last room h) k (bucket-same h)

    head : (h : ℕ) → h < room → (b : Bool) → eqb (bucket_of room s) h ≡ b → field last h 7 ≡ last_before (in_bucket last room h) (k + 1)
    head h l true e =
        let z : h ≡ bucket_of room s = sym (eqb-true (bucket_of room s) h e) in
        ap (λ (i : ℕ). field last i 7) z ∙ linked.head ∙ sym (last-yes (in_bucket last room h) k (bucket-here h ∙ e))
    head h l false e =
        let z : bucket_of room s ≡ h → ⊥ = eqb-false (bucket_of room s) h e in
        linked.others (16 * h + 7) (omega arith) (omega arith) (omega arith) (omega arith)
        ∙ before h l ∙ sym (last-no (in_bucket last room h) k (bucket-here h ∙ e))

    next : (j : ℕ) → (j ≡ k) ⊎ (j < k) → field last j 5 ≡ last_before (in_bucket last room (bucket_of room (word_at last j 2))) j
    next j (inl e) =
        let z : bucket_of room s ≡ bucket_of room (word_at last j 2) = ap (bucket_of room) (sym linked.stored ∙ ap (λ (i : ℕ). word_at last i 2) (sym e)) in
        ap (λ (i : ℕ). field last i 5) e ∙ linked.next ∙ before (bucket_of room s) (bucket-below room s (omega arith))
        ∙ ap₂ (λ (h i : ℕ). last_before (in_bucket last room h) i) z (sym e)
    next j (inr l) =
        let z : bucket_of room (word_at work j 2) ≡ bucket_of room (word_at last j 2) = ap (bucket_of room) (sym (linked-word j (omega arith))) in
        let h : ℕ = bucket_of room (word_at work j 2) in
        linked.others (16 * j + 5) (omega arith) (omega arith) (omega arith) (omega arith)
        ∙ chained.chain j l
        ∙ last-eq (in_bucket work room h) (in_bucket last room h) j (λ i m. bucket-same h i (omega arith))
        ∙ ap (λ (h : ℕ). last_before (in_bucket last room h) j) z

    pub chained_more : Chained last room (k + 1)
    chained_more =
        record { heads = λ h l. head h l (eqb (bucket_of room s) h) refl; chain = λ j l. next j (eq-or-lt_of_le (omega arith)) }
