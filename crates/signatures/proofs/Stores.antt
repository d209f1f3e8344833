-- Laws of the signatures in working memory: the leaves, a gate more, and what keeps them. Assumes nothing.
use mathlib.Core.Path.{◌≡◌, refl, sym, ap, ap₂, ◌∙◌, subst}
use mathlib.Core.Bool.{Bool, true, false, ◌&&◌}
use mathlib.Core.List.{List, [], ◌∷◌, ◌++◌}
use mathlib.Core.Logic.{◌⊎◌, inl, inr}
use Prim.Native.Nat.{ℕ, ◌+◌, ◌-◌, ◌*◌, ◌≤◌, ◌<◌}
use native.Mathlib.Nat.{eq-or-lt_of_le}
use native.Mathlib.Omega.{arith}
use lib.Dec.{eqb}
use lib.ListN.{get_or}
use Rattle.aiger.specs.Bits.{bit}
use Rattle.aiger.specs.Circuit.{var}
use Rattle.aiger.specs.Signature.{pattern_bit}
use Rattle.aiger.specs.Frames.{value}
use Rattle.meaning.proofs.Values.{value-eq}
use Rattle.words.proofs.Bits.{bit-none}
use Rattle.nodes.specs.Graph.{Pair, Built, edge_value, node_values, nodes}
use Rattle.nodes.specs.Store.{field, pair_of, pairs_of, one_more}
use Rattle.nodes.specs.declared.Graph.{Graph}
use Rattle.nodes.proofs.Laws.{edge-node, edge-append, edge-new, edge-false, edge-free, pairs_of-added, nodes-pairs_of}
use Rattle.signatures.specs.Words.{word_at, Kept, signature_word}
use Rattle.nodes.specs.Last.{last_before}
use Rattle.signatures.specs.Bucket.{bucket_of}
use Rattle.signatures.specs.Store.{pattern_value, in_bucket, Chained, Linked, SignatureStore, Ordered, one_less, Unsigned, Signed, SignedLast}
use Rattle.signatures.proofs.Words.{word_same, kept_trans, test-apart}
use Rattle.nodes.proofs.Last.{last-eq}
use Rattle.signatures.proofs.Buckets.{chained-none, chained_more, linked-word, linked-kept, linked-beyond}

pub built-ordered : (n : ℕ) (gs : List Pair) → Built n gs → Ordered n gs
built-ordered n gs b =
    record { left = b.earlier; right = λ i h. let l = b.earlier i h in let r = b.larger i h in omega arith }

-- ---- a memory with the same words of signatures, and the same gates

module _ (work last : List ℕ)
    (same : (k f : ℕ) → f < 16 → signature_word f ≡ true → field last k f ≡ field work k f) where
  word_kept : (k : ℕ) → word_at last k 2 ≡ word_at work k 2
  word_kept k = word_same work last k 2 (same k 2 (omega arith) refl) (same k 3 (omega arith) refl)

  last-kept : (room h n : ℕ) → last_before (in_bucket work room h) n ≡ last_before (in_bucket last room h) n
  last-kept room h n =
      last-eq (in_bucket work room h) (in_bucket last room h) n (λ j l. ap (λ (w : ℕ). eqb (bucket_of room w) h) (sym (word_kept j)))

  pub chained-kept : (room m : ℕ) → Chained work room m → Chained last room m
  chained-kept room m c =
      record {
        heads = λ h l. same h 7 (omega arith) refl ∙ c.heads h l ∙ last-kept room h m;
        chain = λ k l. same k 5 (omega arith) refl ∙ c.chain k l ∙ last-kept room (bucket_of room (word_at work k 2)) k
            ∙ ap (λ (w : ℕ). last_before (in_bucket last room (bucket_of room w)) k) (sym (word_kept k));
      }

  pub store_kept : (g : Graph) → pairs_of last g ≡ pairs_of work g → SignatureStore work g → SignatureStore last g
  store_kept g e s =
      record {
        words = λ k h p l. ap (λ (w : ℕ). bit w p) (word_kept k) ∙ s.words k h p l
            ∙ ap (λ (gs : List Pair). pattern_value g.free gs (2 * k) p) (sym e);
        chained = chained-kept g.room g.nodes s.chained;
      }

-- ---- the signature of an edge

pub store-edge : (work : List ℕ) (g : Graph) → SignatureStore work g → (e : ℕ) → var e < g.nodes → (p : ℕ) → p < 64
    → value (λ k. bit (word_at work k 2) p) e ≡ pattern_value g.free (pairs_of work g) e p
store-edge work g s e h p l =
    let vs : List Bool = node_values g.free (pairs_of work g) (λ j. pattern_bit j p) in
    value-eq (λ k. bit (word_at work k 2) p) (λ k. get_or vs k false) e (s.words (var e) h p l ∙ edge-node vs (var e))

-- ---- the constant and the free bits

-- nodes below m have their signatures, whatever the gates are
pub record SignedUpto (work last : List ℕ) (n room m : ℕ) : Type 0 where
  pub words : (gs : List Pair) (k : ℕ) → k < m → (p : ℕ) → p < 64 → bit (word_at last k 2) p ≡ pattern_value n gs (2 * k) p
  pub chained : Chained last room m
  pub kept : Kept signature_word work last
  pub beyond : (i : ℕ) → 16 * room ≤ i → get_or last i 0 ≡ get_or work i 0

pub signed-none : (work last : List ℕ) (n room : ℕ) → ((h : ℕ) → h < room → field last h 7 ≡ 0)
    → ((i : ℕ) → ((h : ℕ) → h < room → i ≡ 16 * h + 7 → ⊥) → get_or last i 0 ≡ get_or work i 0) → SignedUpto work last n room 0
signed-none work last n room heads others =
    record {
      words = λ gs k h p l. absurd (omega arith);
      chained = chained-none last room heads;
      kept = λ k f h t.
          let d : f ≡ 7 → ⊥ = test-apart signature_word f 7 t refl in
          others (16 * k + f) (λ j l e. omega arith);
      beyond = λ i h. others i (λ j l e. omega arith);
    }

pub signed-more : (work now last : List ℕ) (n room m s : ℕ) → m < room → SignedUpto work now n room m → Linked now last room m s
    → ((gs : List Pair) (p : ℕ) → p < 64 → bit s p ≡ pattern_value n gs (2 * m) p) → SignedUpto work last n room (m + 1)
signed-more work now last n room m s h u l b =
    record {
      words = λ gs k i p q. at gs k p q (eq-or-lt_of_le (omega arith));
      chained = chained_more now last room m s h l u.chained;
      kept = kept_trans signature_word work now last u.kept (linked-kept now last room m s h l);
      beyond = λ i j. linked-beyond now last room m s h l i j ∙ u.beyond i j;
    }
  where
    at : (gs : List Pair) (k p : ℕ) → p < 64 → (k ≡ m) ⊎ (k < m) → bit (word_at last k 2) p ≡ pattern_value n gs (2 * k) p
    at gs k p q (inl e) =
        ap (λ (j : ℕ). bit (word_at last j 2) p) e ∙ ap (λ (w : ℕ). bit w p) l.stored ∙ b gs p q
        ∙ ap (λ (j : ℕ). pattern_value n gs (2 * j) p) (sym e)
    at gs k p q (inr i) = ap (λ (w : ℕ). bit w p) (linked-word now last room m s h l k (omega arith)) ∙ u.words gs k i p q

-- the signature of the constant is 0
pub constant-word : (n : ℕ) (gs : List Pair) (p : ℕ) → p < 64 → bit 0 p ≡ pattern_value n gs (2 * 0) p
constant-word n gs p h = bit-none p ∙ sym (edge-false n gs (λ j. pattern_bit j p))

pub free-word : (n j w : ℕ) → j < n → ((p : ℕ) → p < 64 → bit w p ≡ pattern_bit j p) → (gs : List Pair) (p : ℕ) → p < 64 → bit w p ≡ pattern_value n gs (2 * (j + 1)) p
free-word n j w h b gs p l = b p l ∙ sym (edge-free n gs (λ i. pattern_bit i p) j h)

pub signed_all : (work last : List ℕ) (g : Graph) → SignedUpto work last g.free g.room g.nodes → Signed work last g
signed_all work last g u =
    record {
      store = record { words = λ k h p l. u.words (pairs_of last g) k h p l; chained = u.chained };
      kept = u.kept;
      beyond = u.beyond;
    }

-- ---- a gate more

abbrev with_nodes : Graph → ℕ → Graph
with_nodes g m = record { free = g.free; nodes = m; room = g.room }

graph-back : (g : Graph) → 0 < g.nodes → one_more (one_less g) ≡ g
graph-back g h = let e : g.nodes - 1 + 1 ≡ g.nodes = omega arith in ap (with_nodes g) e

module _ (work last : List ℕ) (g : Graph) (s : ℕ) (held : g.nodes ≤ g.room) (a : Unsigned work g s)
    (linked : Linked work last g.room (g.nodes - 1) s) where
  abbrev n : ℕ
  n = g.free

  abbrev gs : List Pair
  gs = pairs_of work (one_less g)

  abbrev gate : Pair
  gate = pair_of last (g.nodes - 1)

  kept : Kept signature_word work last
  kept = linked-kept work last g.room (g.nodes - 1) s (let h = a.gate in omega arith) linked

  pub pairs-more : pairs_of last g ≡ gs ++ (gate ∷ [])
  pairs-more =
      let h = a.gate in
      sym (ap (pairs_of last) (graph-back g (omega arith)))
      ∙ pairs_of-added work last (one_less g) (omega arith) (λ k u v. (kept k 0 (omega arith) refl, kept k 1 (omega arith) refl))

  count : nodes n gs ≡ g.nodes - 1
  count = let h = a.gate in nodes-pairs_of work (one_less g) (omega arith)

  right : (k p : ℕ) → p < 64 → (k ≡ g.nodes - 1) ⊎ (k < g.nodes - 1) → bit (word_at last k 2) p ≡ pattern_value n (gs ++ (gate ∷ [])) (2 * k) p
  right k p l (inl e) =
      let f : ℕ → Bool = λ j. pattern_bit j p in
      let z : nodes n gs ≡ k = count ∙ sym e in
      ap (λ (j : ℕ). bit (word_at last j 2) p) e ∙ ap (λ (w : ℕ). bit w p) linked.stored ∙ a.bits p l
      ∙ ap₂ (λ (x y : ℕ). edge_value n gs f x && edge_value n gs f y) (sym (kept (g.nodes - 1) 0 (omega arith) refl)) (sym (kept (g.nodes - 1) 1 (omega arith) refl))
      ∙ sym (edge-new n gs gate f) ∙ ap (λ (j : ℕ). pattern_value n (gs ++ (gate ∷ [])) (2 * j) p) z
  right k p l (inr h) =
      let f : ℕ → Bool = λ j. pattern_bit j p in
      let c = count in
      ap (λ (w : ℕ). bit w p) (linked-word work last g.room (g.nodes - 1) s (omega arith) linked k (omega arith))
      ∙ a.store.words k h p l ∙ sym (edge-append n gs (gate ∷ []) f (2 * k) (omega arith))

  pub store-more : SignatureStore last g
  store-more =
      let h = a.gate in
      let z : g.nodes - 1 + 1 ≡ g.nodes = omega arith in
      record {
        words = λ k u p l. right k p l (eq-or-lt_of_le (omega arith)) ∙ ap (λ (hs : List Pair). pattern_value n hs (2 * k) p) (sym pairs-more);
        chained = subst (λ (m : ℕ). Chained last g.room m) z
            (chained_more work last g.room (g.nodes - 1) s (omega arith) linked a.store.chained);
      }

  pub signed-last : SignedLast work last g s
  signed-last = record { store = store-more; kept = kept; linked = linked }
