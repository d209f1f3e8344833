-- Laws of the search for a twin: the candidate of a node, the walk along a bucket, and the candidates that are left. Assumes nothing.
use mathlib.Core.Path.{◌≡◌, refl, sym, ap, ap₂, ◌∙◌, subst}
use mathlib.Core.Bool.{Bool, true, false, not, cond, ◌||◌}
use mathlib.Core.List.{List}
use mathlib.Core.Logic.{◌⊎◌, inl, inr, ⊎_elim}
use Prim.Native.Nat.{ℕ, zero, suc, ◌+◌, ◌-◌, ◌*◌, ◌%◌, ◌^◌, ◌≤◌, ◌<◌}
use native.Mathlib.Omega.{arith}
use borrow.Author.Tests.{eq-eqb, eqb-true, eqb-false, ltb-true, ltb-false}
use lib.Dec.{eqb, ltb}
use lib.ListN.{get_or}
use Rattle.aiger.specs.Bits.{nonzero, bit}
use Rattle.aiger.specs.Circuit.{var}
use Rattle.aiger.specs.Frames.{value}
use Rattle.meaning.proofs.Values.{value-even, value-eq}
use Rattle.words.proofs.Bits.{bit_not, bits-equal}
use Rattle.nodes.specs.Graph.{Pair, nodes}
use Rattle.nodes.specs.Store.{field, pairs_of}
use Rattle.nodes.specs.declared.Graph.{Graph}
use Rattle.nodes.proofs.Laws.{nodes-pairs_of}
use Rattle.signatures.specs.Words.{word_at, Kept, search_word, signature_word}
use Rattle.nodes.specs.Last.{last_before}
use Rattle.signatures.specs.Bucket.{bucket_of}
use Rattle.signatures.specs.Store.{in_bucket, SignatureStore}
use Rattle.signatures.specs.Twin.{Conjunction, Twin, Ready, Searched, HasWord, Candidate, Both, Listed, Pushed, Gathered, Checked}
use Rattle.signatures.proofs.Words.{true-false, word_same, word_fits, kept_trans}
use Rattle.nodes.proofs.Last.{last-le, last-passes, last-after}
use Rattle.signatures.proofs.Buckets.{bucket-below, bucket-complement}
use Rattle.signatures.proofs.Patterns.{conjunction-pattern, pattern-conjunction}
use Rattle.signatures.proofs.Stores.{store_kept, store-edge}
use Rattle.signatures.proofs.Candidates.{listed-first, listed-none, pushed-kept}
use Rattle.signatures.proofs.Simulations.{pairs-kept}

-- ---- edges

value-odd : (w : ℕ → Bool) (l : ℕ) → l % 2 ≡ 1 → value w l ≡ not (w (var l))
value-odd w l e = ap (λ (m : ℕ). cond (nonzero m) (not (w (var l))) (w (var l))) e

not-twice : (a b : Bool) → a ≡ not b → b ≡ not a
not-twice true true e = e
not-twice true false e = refl
not-twice false true e = refl
not-twice false false e = e

sign_same : (b : Bool) (r t : ℕ) → r < 2 → t < 2 → cond (nonzero r) (not b) b ≡ cond (nonzero t) (not b) b → r ≡ t
sign_same b zero zero hr ht e = refl
sign_same b (suc zero) (suc zero) hr ht e = refl
sign_same true zero (suc zero) hr ht e = absurd (true-false e)
sign_same false zero (suc zero) hr ht e = absurd (true-false (sym e))
sign_same true (suc zero) zero hr ht e = absurd (true-false (sym e))
sign_same false (suc zero) zero hr ht e = absurd (true-false e)
sign_same b zero (suc (suc t)) hr ht e = absurd (omega arith)
sign_same b (suc zero) (suc (suc t)) hr ht e = absurd (omega arith)
sign_same b (suc (suc r)) t hr ht e = absurd (omega arith)

-- edges to one node that have the same value are the same
same-edge : (b : Bool) (e d : ℕ) → var e ≡ var d → value (λ j. b) e ≡ value (λ j. b) d → e ≡ d
same-edge b e d v s = let r : e % 2 ≡ d % 2 = sign_same b (e % 2) (d % 2) (omega arith) (omega arith) s in omega arith

-- ---- candidates

-- an edge of the node with signature t has signature s
abbrev Bits : ℕ → ℕ → ℕ → Type 0
Bits t s e = (p : ℕ) → p < 64 → bit s p ≡ value (λ j. bit t p) e

module _ (k t s : ℕ) (ht : t < 2 ^ 64) (hs : s < 2 ^ 64) where
  pub signature-cases : (e : ℕ) → Bits t s e → (t ≡ s) ⊎ (t ≡ (2 ^ 64 - 1) - s)
  signature-cases e h = go (eqb (e % 2) 1) refl
    where
      go : (b : Bool) → eqb (e % 2) 1 ≡ b → (t ≡ s) ⊎ (t ≡ (2 ^ 64 - 1) - s)
      go true o =
          let z : e % 2 ≡ 1 = eqb-true (e % 2) 1 o in
          inr
          (bits-equal 64 t ((2 ^ 64 - 1) - s) ht (omega arith)
          (λ p l. not-twice (bit s p) (bit t p) (h p l ∙ value-odd (λ j. bit t p) e z) ∙ sym (bit_not 64 s p hs l)))
      go false o =
          let y : e % 2 ≡ 1 → ⊥ = eqb-false (e % 2) 1 o in
          let z : e % 2 ≡ 0 = omega arith in
          inl (bits-equal 64 t s ht hs (λ p l. sym (h p l ∙ value-even (λ j. bit t p) e z)))

  pub candidate-even : t ≡ s → Candidate k t s (2 * k + 1)
  candidate-even q =
      record {
        found = λ e r. (
          omega arith,
          λ p l. ap (λ (w : ℕ). bit w p) (sym q) ∙ sym (value-even (λ j. bit t p) e (omega arith)),
        );
        none = λ z e v h. omega arith;
      }

  pub candidate-odd : t ≡ (2 ^ 64 - 1) - s → Candidate k t s (2 * k + 1 + 1)
  candidate-odd q =
      record {
        found = λ e r. (
          omega arith,
          λ p l. not-twice (bit t p) (bit s p) (ap (λ (w : ℕ). bit w p) q ∙ bit_not 64 s p hs l) ∙ sym (value-odd (λ j. bit t p) e (omega arith)),
        );
        none = λ z e v h. omega arith;
      }

  pub candidate-none : (t ≡ s → ⊥) → (t ≡ (2 ^ 64 - 1) - s → ⊥) → Candidate k t s 0
  candidate-none a b =
      record { found = λ e r. absurd (omega arith); none = λ z e v h. ⊎_elim a b (signature-cases e h) }

-- the word of the edge of an earlier node fits
pub candidate-small : {k t s : ℕ} (r : ℕ) → Candidate k t s r → k < 65536 → r ≤ 2 ^ 32
candidate-small zero c h = omega arith
candidate-small (suc e) c h = let z : suc e ≡ e + 1 = omega arith in omega (arith, (c.found e z).0)

-- the edge of the node that has signature s is the candidate
candidate-all : {k t s r : ℕ} → Candidate k t s r → (e : ℕ) → var e ≡ k → Bits t s e → r ≡ e + 1
candidate-all {k} {t} {s} {r} c e v h = go (eqb r 0) refl
  where
    go : (b : Bool) → eqb r 0 ≡ b → r ≡ e + 1
    go true z = absurd (c.none (eqb-true r 0 z) e v h)
    go false z =
        let y : r ≡ 0 → ⊥ = eqb-false r 0 z in
        let f = c.found (r - 1) (omega arith) in
        let d : e ≡ r - 1 = same-edge (bit t 0) e (r - 1) (v ∙ sym f.0) (sym (h 0 (omega arith)) ∙ f.1 0 (omega arith)) in
        omega arith

-- ---- the walk along a bucket

-- next is one more than the next node of s's bucket, or 0, and the candidates are the edges of the later nodes whose signature is s
pub record Walked (work now : List ℕ) (g : Graph) (s count next : ℕ) : Type 0 where
  pub room : count + next ≤ g.nodes
  pub here : (k : ℕ) → next ≡ k + 1 → in_bucket work g.room (bucket_of g.room s) k ≡ true
  pub listed : (e : ℕ) → Listed now count e → (var e < g.nodes) × HasWord work 2 s e
  pub all :
      (e : ℕ) → next ≤ var e → var e < g.nodes → in_bucket work g.room (bucket_of g.room s) (var e) ≡ true → HasWord work 2 s e
      → Listed now count e
  pub kept : Kept search_word work now

module _ {work : List ℕ} {g : Graph} (s : ℕ) (store : SignatureStore work g) where
  abbrev h₀ : ℕ
  h₀ = bucket_of g.room s

  abbrev In : ℕ → Bool
  In = in_bucket work g.room (bucket_of g.room s)

  pub walk_start : 0 < g.room → Walked work work g s 0 (field work (bucket_of g.room s) 7)
  walk_start room =
      let e = store.chained.heads h₀ (bucket-below g.room s room) in
      let m = last-le In g.nodes in
      record {
        room = omega arith;
        here = λ k q. last-passes In g.nodes k (sym e ∙ q);
        listed = λ d l. absurd (listed-none work 0 d refl l);
        all = λ d l u p h. absurd (true-false (sym p ∙ last-after In g.nodes (var d) (omega arith) u));
        kept = λ k f h t. refl;
      }

  module _ {now last : List ℕ} {count next t r more : ℕ} (w : Walked work now g s count next) (positive : 0 < next)
      (read : t ≡ word_at now (next - 1) 2) (cand : Candidate (next - 1) t s r) (pushed : Pushed now last count (λ d. r ≡ d + 1) more) where
    all-kept : Kept search_word work last
    all-kept = kept_trans search_word work now last w.kept (pushed-kept pushed)

    word : t ≡ word_at work (next - 1) 2
    word = read ∙ word_same work now (next - 1) 2 (w.kept (next - 1) 2 (omega arith) refl) (w.kept (next - 1) 3 (omega arith) refl)

    node : Candidate (next - 1) (word_at work (next - 1) 2) s r
    node = subst (λ (x : ℕ). Candidate (next - 1) x s r) word cand

    follows : field last (next - 1) 5 ≡ last_before In (next - 1)
    follows =
        all-kept (next - 1) 5 (omega arith) refl ∙ store.chained.chain (next - 1) (let z = w.room in omega arith)
        ∙ ap (λ (h : ℕ). last_before (in_bucket work g.room h) (next - 1))
        (eqb-true (bucket_of g.room (word_at work (next - 1) 2)) h₀ (w.here (next - 1) (omega arith)))

    pub walk-less : field last (next - 1) 5 < next
    walk-less = let m = last-le In (next - 1) in let f = follows in omega arith

    -- the bits of a node's edge
    at-node : (e : ℕ) → var e ≡ next - 1 → (p : ℕ)
        → value (λ j. bit (word_at work (next - 1) 2) p) e ≡ value (λ k. bit (word_at work k 2) p) e
    at-node e v p =
        value-eq (λ j. bit (word_at work (next - 1) 2) p) (λ k. bit (word_at work k 2) p) e (ap (λ (j : ℕ). bit (word_at work j 2) p) (sym v))

    listed : (e : ℕ) → Listed now count e ⊎ (r ≡ e + 1) → (var e < g.nodes) × HasWord work 2 s e
    listed e (inl l) = w.listed e l
    listed e (inr q) =
        let f = node.found e q in
        let z = w.room in
        (omega (arith, f.0), λ p l. f.1 p l ∙ at-node e f.0 p)

    all : (e : ℕ) → field last (next - 1) 5 ≤ var e → var e < g.nodes → In (var e) ≡ true → HasWord work 2 s e
        → (t : Bool) → ltb (var e) (next - 1) ≡ t → (u : Bool) → eqb (var e) (next - 1) ≡ u → Listed last more e
    all e l u p h true i y q =
        let f = follows in
        let z : var e < next - 1 = ltb-true (var e) (next - 1) i in
        absurd (true-false (sym p ∙ last-after In (next - 1) (var e) (omega arith) z))
    all e l u p h false i true q =
        let z : var e ≡ next - 1 = eqb-true (var e) (next - 1) q in
        pushed.new e (candidate-all node e z (λ m b. h m b ∙ sym (at-node e z m)))
    all e l u p h false i false q =
        let x : next - 1 ≤ var e = ltb-false (var e) (next - 1) i in
        let y : var e ≡ next - 1 → ⊥ = eqb-false (var e) (next - 1) q in
        pushed.before e (w.all e (omega arith) u p h)

    pub walk_more : Walked work last g s more (field last (next - 1) 5)
    walk_more =
        let m = last-le In (next - 1) in
        let f = follows in
        let z = w.room in
        record {
          room = omega (arith, pushed.most);
          here = λ k q. last-passes In (next - 1) k (sym f ∙ q);
          listed = λ e l. listed e (pushed.listed e l);
          all = λ e l u p h. all e l u p h (ltb (var e) (next - 1)) refl (eqb (var e) (next - 1)) refl;
          kept = all-kept;
        }

  module _ {last : List ℕ} {count next : ℕ} (w : Walked work last g s count next) (finished : next ≡ 0)
      (fits : (i : ℕ) → get_or work i 0 < 2 ^ 32) (hs : s < 2 ^ 64) where
    in-bucket : (j : ℕ) → (word_at work j 2 ≡ s) ⊎ (word_at work j 2 ≡ (2 ^ 64 - 1) - s) → bucket_of g.room (word_at work j 2) ≡ h₀
    in-bucket j (inl e) = ap (bucket_of g.room) e
    in-bucket j (inr e) = ap (bucket_of g.room) e ∙ bucket-complement g.room s hs

    pub walk_end : Gathered work last g s count
    walk_end =
        record {
          few = let z = w.room in omega arith;
          listed = w.listed;
          all = λ e l h.
              let y = in-bucket (var e) (signature-cases (var e) (word_at work (var e) 2) s (word_fits work fits (var e) 2) hs e h) in
              w.all e (omega arith) l (eq-eqb (bucket_of g.room (word_at work (var e) 2)) h₀ y) h;
          kept = w.kept;
        }

-- ---- what a search keeps

store-searched : (work last : List ℕ) (g : Graph) → Kept search_word work last → SignatureStore work g → SignatureStore last g
store-searched work last g k s =
    store_kept work last (λ j f h t. k j f h (ap₂ ◌||◌ (other f t 11 refl) (ap₂ ◌||◌ (other f t 8 refl) (other f t 9 refl)))) g
    (pairs-kept work last g k) s
  where
    other : (f : ℕ) → signature_word f ≡ true → (d : ℕ) → signature_word d ≡ false → eqb f d ≡ false
    other f t d h = go (eqb f d) refl
      where
        go : (b : Bool) → eqb f d ≡ b → eqb f d ≡ false
        go true p = absurd (true-false (sym t ∙ ap signature_word (eqb-true f d p) ∙ h))
        go false p = p

-- ---- the candidates that are left

module _ {work now last : List ℕ} {g : Graph} {a b s count left : ℕ} (ready : Ready work g a b) (both : Both work g a b s)
    (gathered : Gathered work now g s count)
    (checked : Checked now last g a b count left) where
  abbrev n : ℕ
  n = g.free

  abbrev gs : List Pair
  gs = pairs_of work g

  gates : pairs_of now g ≡ gs
  gates = pairs-kept work now g gathered.kept

  count-nodes : nodes n gs ≡ g.nodes
  count-nodes = nodes-pairs_of work g ready.sized.leaves

  has_word : (e : ℕ) → var e < g.nodes → Conjunction n gs a b e → HasWord work 2 s e
  has_word e h c p l = both.bits p l ∙ sym (conjunction-pattern n gs a b e c p) ∙ sym (store-edge work g ready.store e h p l)

  equal : (e : ℕ) → var e < g.nodes → HasWord work 2 s e → (6 < n → Conjunction n (pairs_of now g) a b e)
      → (t : Bool) → ltb 6 n ≡ t → Conjunction n gs a b e
  equal e h w c true t = subst (λ (hs : List Pair). Conjunction n hs a b e) gates (c (ltb-true 6 n t))
  equal e h w c false t =
      pattern-conjunction n gs a b e (ltb-false 6 n t)
      (λ p l. sym (store-edge work g ready.store e h p l) ∙ sym (w p l) ∙ both.bits p l)

  pub twin-none : left ≡ 0 → Twin n gs a b 0
  twin-none z =
      let m = count-nodes in
      record {
        found = λ e q. absurd (omega arith);
        none = λ y e h c.
            let l = gathered.all e (omega arith) (has_word e (omega arith) c) in
            listed-none last left e z (checked.all e l (λ k. subst (λ (hs : List Pair). Conjunction n hs a b e) (sym gates) c));
      }

  first-twin : 0 < left → Twin n gs a b (field last 0 11 + 1)
  first-twin h =
      let m = count-nodes in
      let x = checked.listed (field last 0 11) (listed-first last left h) in
      let y = gathered.listed (field last 0 11) x.0 in
      record {
        found = λ e q.
            let z : field last 0 11 ≡ e = omega arith in (
              omega (arith, y.0),
              subst (λ (d : ℕ). Conjunction n gs a b d) z (equal (field last 0 11) y.0 y.1 x.1 (ltb 6 n) refl),
            );
        none = λ z e u c. absurd (omega arith);
      }

  pub twin-first : 0 < left → {e : ℕ} → e ≡ field last 0 11 → Twin n gs a b (e + 1)
  twin-first h q = subst (λ (x : ℕ). Twin n gs a b (x + 1)) (sym q) (first-twin h)

  searched-kept : Kept search_word work last
  searched-kept = kept_trans search_word work now last gathered.kept checked.kept

  pub searched : {r : ℕ} → Twin n gs a b r → Searched work last g a b r
  searched t = record { twin = t; store = store-searched work last g searched-kept ready.store; kept = searched-kept }
