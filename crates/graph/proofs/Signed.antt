-- Gates with signatures: a new gate and its signature, and an edge that is equal in function. Assumes nothing.
use mathlib.Core.Path.{◌≡◌, refl, sym, ap, ap₂, ◌∙◌, subst}
use mathlib.Core.Bool.{Bool, true, false, ◌&&◌}
use mathlib.Core.List.{List, [], ◌∷◌, ◌++◌}
use Prim.Native.Nat.{ℕ, ◌+◌, ◌-◌, ◌*◌, ◌≤◌, ◌<◌}
use native.Mathlib.Omega.{arith}
use lib.Bits.{bit_and}
use lib.ListN.{length}
use Rattle.aiger.specs.Circuit.{var}
use Rattle.aiger.specs.Signature.{PatternWord}
use Rattle.words.proofs.Bits.{bit-and}
use Rattle.nodes.specs.Graph.{Pair, pair_at}
use Rattle.nodes.specs.Store.{field, pair_of, pairs_of, Sized, one_more}
use Rattle.nodes.specs.Edges.{edge_of, edge_word}
use Rattle.nodes.specs.declared.Graph.{Graph}
use Rattle.nodes.specs.declared.Edge.{Edge}
use Rattle.nodes.proofs.Laws.{pair_at-new, pairs_of-same, pairs_of-more, nodes-pairs_of}
use Rattle.pairs.specs.Store as pairs
use Rattle.pairs.proofs.Buckets.{SamePairs, store_same}
use Rattle.signatures.specs.Words.{Kept, signature_word}
use Rattle.signatures.specs.Store.{pattern_value, SignatureStore, Unsigned, SignedLast, one_less}
use Rattle.signatures.specs.Twin.{Searched, Ready}
use Rattle.signatures.proofs.Words.{test-apart}
use Rattle.signatures.proofs.Stores.{built-ordered, store_kept}
use Rattle.graph.specs.Stored.{Stored, made_of, Conjoined, New, Twinless}
use Rattle.graph.proofs.Chosen.{conjoin-merged}
use Rattle.graph.proofs.Outcomes.{pairs-same, stored_same, word_made, added-made}

-- ---- a new gate and its signature

module _ (work mid : List ℕ) (g : Graph) (left right : ℕ) (ready : New work g left right) (few : g.free ≤ 12)
    (long : length mid ≡ length work) (added : pairs.Appended work mid g left right) where
  pair : Pair
  pair = record { left = left; right = right }

  -- words of signatures were not changed
  signatures-kept : (k f : ℕ) → f < 16 → signature_word f ≡ true → field mid k f ≡ field work k f
  signatures-kept k f l t =
      added.others (16 * k + f) (λ e. test-apart signature_word 0 f refl t (omega arith)) (λ e. test-apart signature_word 1 f refl t (omega arith))
      (λ e. test-apart signature_word 4 f refl t (omega arith)) (λ e. test-apart signature_word 6 f refl t (omega arith))

  pairs-before : pairs_of mid g ≡ pairs_of work g
  pairs-before =
      pairs_of-same work mid g
      (λ k l u. (
        added.others (16 * k + 0) (λ e. omega arith) (λ e. omega arith) (λ e. omega arith) (λ e. omega arith),
        added.others (16 * k + 1) (λ e. omega arith) (λ e. omega arith) (λ e. omega arith) (λ e. omega arith),
      ))

  new-pair : pair_of mid g.nodes ≡ pair
  unfolding pair
  new-pair =
      sym (pair_at-new (pairs_of mid g) (pair_of mid g.nodes))
      ∙ ap (λ (l : List Pair). pair_at l (length (pairs_of mid g))) (sym (pairs_of-more mid g ready.proper.stored.sized.leaves) ∙ added.pairs)
      ∙ ap (λ (m : ℕ). pair_at (pairs_of work g ++ (pair ∷ [])) m) (ap length pairs-before) ∙ pair_at-new (pairs_of work g) pair

  back : one_less (one_more g) ≡ g
  back = let z : g.nodes + 1 - 1 ≡ g.nodes = omega arith in ap (λ (m : ℕ). record { free = g.free; nodes = m; room = g.room }) z

  last-left : field mid (g.nodes + 1 - 1) 0 ≡ left
  unfolding pair
  last-left = ap (λ (h : Graph). field mid h.nodes 0) back ∙ ap (λ (p : Pair). p.left) new-pair

  last-right : field mid (g.nodes + 1 - 1) 1 ≡ right
  unfolding pair
  last-right = ap (λ (h : Graph). field mid h.nodes 1) back ∙ ap (λ (p : Pair). p.right) new-pair

  gates-before : pairs_of mid (one_less (one_more g)) ≡ pairs_of work g
  gates-before = ap (pairs_of mid) back ∙ pairs-before

  larger-sized : Sized (one_more g) (length mid)
  larger-sized =
      record {
        leaves = omega (arith, ready.proper.stored.sized.leaves);
        nodes = omega (arith, ready.proper.room);
        room = ready.proper.stored.sized.room;
        held = omega (arith, ready.proper.stored.sized.held);
      }

  pub larger-size : (h : Graph) → h ≡ one_more g → Sized h (length mid)
  larger-size h e = subst (λ (z : Graph). Sized z (length mid)) (sym e) larger-sized

  module _ (a b : ℕ) (first : PatternWord (pattern_value g.free (pairs_of work g) left) a) (second : PatternWord (pattern_value g.free (pairs_of work g) right) b) where
    appended : Unsigned mid (one_more g) (bit_and a b)
    appended =
        record {
          gate = omega (arith, ready.proper.stored.sized.leaves);
          store = subst (λ (z : Graph). SignatureStore mid z) (sym back) (store_kept work mid signatures-kept g pairs-before (ready.proper.stored.signatures few));
          left = omega (arith, last-left, ready.proper.earlier);
          right = omega (arith, last-right, ready.proper.earlier, ready.proper.larger);
          bits = λ p u.
              bit-and a b p
              ∙ ap₂ (λ (x y : Bool). x && y)
              (first.bits p u ∙ ap₂ (λ (hs : List Pair) (e : ℕ). pattern_value g.free hs e p) (sym gates-before) (sym last-left))
              (second.bits p u ∙ ap₂ (λ (hs : List Pair) (e : ℕ). pattern_value g.free hs e p) (sym gates-before) (sym last-right));
        }

    pub signature-appended : (h : Graph) → h ≡ one_more g → Unsigned mid h (bit_and a b)
    signature-appended h e = subst (λ (z : Graph). Unsigned mid z (bit_and a b)) (sym e) appended

  -- the words of pairs, after the signature was added
  pairs-kept : (last : List ℕ) → Kept signature_word mid last → SamePairs mid last
  pairs-kept last k =
      record {
        first = λ j. k j 0 (omega arith) refl;
        second = λ j. k j 1 (omega arith) refl;
        link = λ j. k j 4 (omega arith) refl;
        head = λ j. k j 6 (omega arith) refl;
      }

  signed : (last : List ℕ) (s : ℕ) → length last ≡ length work → Twinless g.free (pairs_of work g) left right → SignedLast mid last (one_more g) s
      → (h : Graph) → h ≡ one_more g → Conjoined work last g left right (made_of h (edge_of g.nodes false))
  signed last s l t d h e =
      added-made work last g left right ready l (pairs-same mid last (one_more g) (pairs-kept last d.kept) ∙ added.pairs)
      (store_same mid last (one_more g) (pairs-kept last d.kept) added.store) (λ u. d.store) (λ u. t) h e

  pub signed-made : (last : List ℕ) (s : ℕ) → length last ≡ length work → Twinless g.free (pairs_of work g) left right → (h : Graph) → h ≡ one_more g → SignedLast mid last h s
      → Conjoined work last g left right (made_of h (edge_of g.nodes false))
  signed-made last s l t h e d = signed last s l t (subst (λ (z : Graph). SignedLast mid last z s) e d) h e

-- ---- an edge that is equal in function

pub twin-ready : (work : List ℕ) (g : Graph) (left right : ℕ) → g.free ≤ 12 → New work g left right → Ready work g left right
twin-ready work g left right few w =
    record {
      sized = w.proper.stored.sized;
      free = few;
      ordered = built-ordered g.free (pairs_of work g) w.proper.stored.built;
      store = w.proper.stored.signatures few;
      left = w.proper.earlier;
      right = omega (arith, w.proper.earlier, w.proper.larger);
    }

module _ (work last : List ℕ) (g : Graph) (left right r : ℕ) (ready : New work g left right) (long : length last ≡ length work) (d : Searched work last g left right r) where
  twin-kept : SamePairs work last
  twin-kept =
      record {
        first = λ j. d.kept j 0 (omega arith) refl;
        second = λ j. d.kept j 1 (omega arith) refl;
        link = λ j. d.kept j 4 (omega arith) refl;
        head = λ j. d.kept j 6 (omega arith) refl;
      }

  pub twin-pairs : pairs_of last g ≡ pairs_of work g
  twin-pairs = pairs-same work last g twin-kept

  pub twin-stored : Stored last g
  twin-stored = stored_same work last g long twin-kept (λ u. d.store) ready.proper.stored

  twin-edge : (k : ℕ) → r ≡ k + 1 → var k < g.nodes
  twin-edge k z = omega (arith, (d.twin.found k z).0, nodes-pairs_of work g ready.proper.stored.sized.leaves)

  pub twin-made : g.free ≤ 12 → (e : Edge) → r ≡ edge_word e + 1 → Conjoined work last g left right (made_of g e)
  twin-made few e z =
      let k = edge_word e in
      let equal = (d.twin.found k z).1 in
      word_made work last g left right twin-stored twin-pairs e (twin-edge k z) equal
      (conjoin-merged g.free (pairs_of work g) left right (omega (arith, ready.proper.larger)) ready.proper.stored.built
      ready.proper.no-rule ready.fresh few k (d.twin.found k z).0 equal)

  pub twin-none : r ≡ 0 → Twinless g.free (pairs_of last g) left right
  twin-none z = subst (λ (hs : List Pair). Twinless g.free hs left right) (sym twin-pairs) (d.twin.none z)
