-- What is made of two operands: an edge that is there, or a new gate. Assumes nothing.
use mathlib.Core.Path.{◌≡◌, refl, sym, ap, ap₂, ◌∙◌, subst}
use mathlib.Core.Bool.{Bool, false, ◌&&◌}
use mathlib.Core.List.{List, [], ◌∷◌, ◌++◌}
use mathlib.Core.Logic.{⊎_elim}
use mathlib.Core.Option.{none, some}
use Prim.Native.Nat.{ℕ, ◌+◌, ◌-◌, ◌*◌, ◌^◌, ◌≤◌, ◌<◌}
use native.Mathlib.Omega.{arith}
use lib.ListN.{length}
use Rattle.aiger.specs.Circuit.{var}
use Rattle.aiger.specs.Frames.{free_bit}
use Rattle.nodes.specs.Graph.{Pair, node_values, edge_value, nodes, pair_at, Built, Extends, same, more}
use Rattle.nodes.specs.Store.{pairs_of, one_more}
use Rattle.nodes.specs.Last.{last_before}
use Rattle.nodes.specs.Edges.{edge_of, edge_word}
use Rattle.nodes.specs.declared.Graph.{Graph}
use Rattle.nodes.specs.declared.Edge.{Edge}
use Rattle.nodes.proofs.Laws.{node-constant, edge-new, edge-gate, word-node, nodes-pairs_of, length-pairs_of, pairs_of-same}
use Rattle.pairs.specs.Store.{is_pair, PairStore}
use Rattle.pairs.proofs.Buckets.{SamePairs, store_same}
use Rattle.pairs.proofs.Found.{found-gate, found-holds, found_none}
use Rattle.signatures.specs.Store.{SignatureStore}
use Rattle.rules.specs.Rules.{simplified}
use Rattle.graph.specs.Stored.{Stored, Operands, made_of, Conjoined, Proper, New, Twinless}
use Rattle.graph.specs.Chosen.{Outcome, conjoin}
use Rattle.graph.specs.declared.Made.{Made}
use Rattle.rules.proofs.Rules as rules
use Rattle.rules.proofs.Rules.{ruled-value, ruled-edge, ruled-nonconstant-gate, ruled-larger, lowered-value, lowered-edge, known-cases, gate-cases}
use Rattle.graph.proofs.Chosen.{conjoin-known, conjoin-hashed, conjoin-added}
use Rattle.graph.proofs.Growth.{built-more}

-- the value of the conjunction of a and b under sequence x
abbrev pub both : List ℕ → Graph → ℕ → ℕ → ℕ → Bool
both work g a b x = edge_value g.free (pairs_of work g) (free_bit g.free x) a && edge_value g.free (pairs_of work g) (free_bit g.free x) b

outcome-eq : {gs hs : List Pair} {d e : ℕ} → gs ≡ hs → d ≡ e → ◌≡◌ {A = Outcome} (record { gates = gs; edge = d }) (record { gates = hs; edge = e })
outcome-eq p q = ap₂ (λ (x : List Pair) (y : ℕ). record { gates = x; edge = y }) p q

-- ---- an edge that is there

module _ (work last : List ℕ) (g : Graph) (a b : ℕ) (stored : Stored last g) (kept : pairs_of last g ≡ pairs_of work g) where
  pub edge-made : (w : ℕ) (e : Edge) → e.0.0 ≡ var w → edge_word e ≡ w → var w < g.nodes
      → ((x : ℕ) → x < 2 ^ g.free → edge_value g.free (pairs_of work g) (free_bit g.free x) w ≡ both work g a b x)
      → conjoin g.free (pairs_of work g) a b ≡ record { gates = pairs_of work g; edge = w }
      → Conjoined work last g a b (made_of g e)
  edge-made w e n q l v o =
      record {
        stored = stored;
        free = refl;
        room = refl;
        extends = subst (λ (hs : List Pair). Extends (pairs_of work g) hs) (sym kept) same;
        chosen = o ∙ outcome-eq (sym kept) (sym q);
        node = omega arith;
        value = λ x u. ap₂ (λ (hs : List Pair) (y : ℕ). edge_value g.free hs (free_bit g.free x) y) kept q ∙ v x u;
      }

  -- the edge whose word is known
  pub word_made : (e : Edge) → var (edge_word e) < g.nodes
      → ((x : ℕ) → x < 2 ^ g.free → edge_value g.free (pairs_of work g) (free_bit g.free x) (edge_word e) ≡ both work g a b x)
      → conjoin g.free (pairs_of work g) a b ≡ record { gates = pairs_of work g; edge = edge_word e }
      → Conjoined work last g a b (made_of g e)
  word_made e l v o = edge-made (edge_word e) e (sym (word-node e)) refl l v o

-- ---- the rules

module _ (work : List ℕ) (g : Graph) (left right : ℕ) (ready : Operands work g left right) (order : right ≤ left) where
  -- the value and the node of the edge that a rule says
  rule_value : (w : ℕ) → simplified g.free (pairs_of work g) left right ≡ some w → (x : ℕ)
      → edge_value g.free (pairs_of work g) (free_bit g.free x) w ≡ both work g left right x
  rule_value w s x =
      let n = g.free in
      let gs = pairs_of work g in
      let f = free_bit n x in
      ⊎_elim (λ q. ruled-value (node_values n gs f) (node-constant n gs f) left right order (rules.ruled left right) w q)
      (λ q.
      let i = var left - (n + 1) in
      let l : i < length gs = omega (arith, ready.left, length-pairs_of work g, q.0) in
      let b = ready.stored.built in
      let z : 2 * var left ≡ 2 * (n + 1 + i) = omega (arith, q.0) in
      lowered-value (node_values n gs f) (node-constant n gs f) (pair_at gs i) left right
      (ap (edge_value n gs f) z ∙ edge-gate n gs f i l (pair_at gs i) refl (b.earlier i l) (omega (arith, b.earlier i l, b.larger i l))) q.1)
      (known-cases n gs left right w s)

  rule-edge : (w : ℕ) → simplified g.free (pairs_of work g) left right ≡ some w → var w < g.nodes
  rule-edge w s =
      ⊎_elim (λ q. ruled-edge g.nodes ready.left (rules.ruled left right) w q) (λ q. lowered-edge g.nodes ready.left ready.right q.1)
      (known-cases g.free (pairs_of work g) left right w s)

  pub known-made : (e : Edge) → simplified g.free (pairs_of work g) left right ≡ some (edge_word e) → Conjoined work work g left right (made_of g e)
  known-made e s =
      word_made work work g left right ready.stored refl e (rule-edge (edge_word e) s) (λ x u. rule_value (edge_word e) s x)
      (conjoin-known g.free (pairs_of work g) left right order (edge_word e) s)

  pub gate-proper : simplified g.free (pairs_of work g) left right ≡ none → Proper work g left right
  gate-proper s =
      let r = (gate-cases g.free (pairs_of work g) left right s).0 in
      record {
        stored = ready.stored;
        room = ready.room;
        earlier = ready.left;
        larger = ruled-larger (rules.ruled left right) r order;
        nonconstant = ruled-nonconstant-gate (rules.ruled left right) r;
        no-rule = s;
      }

-- ---- a gate that is there

module _ (work : List ℕ) (g : Graph) (left right : ℕ) (ready : Proper work g left right) (r : ℕ) (e : r ≡ last_before (is_pair work g left right) g.nodes) where
  gate-value : 0 < r → (f : ℕ → Bool) → edge_value g.free (pairs_of work g) f (2 * (r - 1))
      ≡ (edge_value g.free (pairs_of work g) f left && edge_value g.free (pairs_of work g) f right)
  gate-value h f =
      let n = g.free in
      let gs = pairs_of work g in
      let i = r - (g.free + 2) in
      let d = found-holds work g left right r e h in
      let m = found-gate work g left right r e h in
      let z : 2 * (r - 1) ≡ 2 * (n + 1 + i) = omega arith in
      ap (edge_value n gs f) z
      ∙ edge-gate n gs f i d.below (pair_at gs i) refl (ready.stored.built.earlier i d.below)
      (omega (arith, ready.stored.built.earlier i d.below, ready.stored.built.larger i d.below))
      ∙ ap₂ (λ (x y : ℕ). edge_value n gs f x && edge_value n gs f y) d.first d.second

  found_below : 0 < r → r ≤ g.nodes
  found_below h =
      let d = found-holds work g left right r e h in
      omega (arith, found-gate work g left right r e h, d.below, length-pairs_of work g)

  found-chosen : 0 < r → conjoin g.free (pairs_of work g) left right ≡ record { gates = pairs_of work g; edge = 2 * (r - 1) }
  found-chosen h =
      let i = r - (g.free + 2) in
      let d = found-holds work g left right r e h in
      let m = found-gate work g left right r e h in
      let z : 2 * (g.free + 1 + i) ≡ 2 * (r - 1) = omega arith in
      conjoin-hashed g.free (pairs_of work g) left right (omega (arith, ready.larger)) ready.stored.built ready.no-rule
      i d.below d.first d.second
      ∙ outcome-eq refl z

  pub found-made : (k : ℕ) → k + 1 ≡ r → Conjoined work work g left right (made_of g (edge_of k false))
  found-made k q =
      let h : 0 < r = omega arith in
      edge-made work work g left right ready.stored refl (2 * (r - 1)) (edge_of k false) (omega arith) (omega arith) (omega (arith, found_below h))
      (λ x u. gate-value h (free_bit g.free x)) (found-chosen h)

  pub found-new : r ≡ 0 → New work g left right
  found-new z = record { proper = ready; fresh = found_none work g left right r e z }

-- ---- a new gate

module _ (work last : List ℕ) (g : Graph) (left right : ℕ) (ready : New work g left right)
    (long : length last ≡ length work) (grown : pairs_of last (one_more g) ≡ pairs_of work g ++ (record { left = left; right = right } ∷ []))
    (pairs : PairStore last (one_more g)) (signatures : g.free ≤ 12 → SignatureStore last (one_more g))
    (twinless : g.free ≤ 12 → Twinless g.free (pairs_of work g) left right) where
  pair : Pair
  pair = record { left = left; right = right }

  node-count : nodes g.free (pairs_of work g) ≡ g.nodes
  node-count = nodes-pairs_of work g ready.proper.stored.sized.leaves

  larger-built : Built g.free (pairs_of work g ++ (pair ∷ []))
  unfolding pair
  larger-built =
      built-more g.free (pairs_of work g) (record { left = left; right = right }) ready.proper.stored.built (omega (arith, node-count, ready.proper.earlier))
      ready.proper.larger ready.proper.nonconstant ready.fresh (gate-cases g.free (pairs_of work g) left right ready.proper.no-rule).1 twinless

  larger-stored : Stored last (one_more g)
  unfolding pair
  larger-stored =
      record {
        sized =
            record {
              leaves = omega (arith, ready.proper.stored.sized.leaves);
              nodes = omega (arith, ready.proper.room);
              room = ready.proper.stored.sized.room;
              held = omega (arith, ready.proper.stored.sized.held);
            };
        pairs = pairs;
        signatures = signatures;
        built = subst (λ (hs : List Pair). Built g.free hs) (sym grown) larger-built;
      }

  new-made : Conjoined work last g left right (made_of (one_more g) (edge_of g.nodes false))
  unfolding pair
  new-made =
      record {
        stored = larger-stored;
        free = refl;
        room = refl;
        extends = subst (λ (hs : List Pair). Extends (pairs_of work g) hs) (sym grown) (more pair);
        chosen =
            conjoin-added g.free (pairs_of work g) left right (omega (arith, ready.proper.larger)) ready.proper.stored.built
            ready.proper.no-rule ready.fresh twinless
            ∙ outcome-eq (sym grown) (omega (arith, node-count));
        node = omega arith;
        value = λ x u.
            let z : 2 * g.nodes + 0 ≡ 2 * nodes g.free (pairs_of work g) = omega (arith, node-count) in
            ap₂ (λ (hs : List Pair) (y : ℕ). edge_value g.free hs (free_bit g.free x) y) grown z
            ∙ edge-new g.free (pairs_of work g) pair (free_bit g.free x);
      }

  pub added-made : (h : Graph) → h ≡ one_more g → Conjoined work last g left right (made_of h (edge_of g.nodes false))
  added-made h e = subst (λ (z : Graph). Conjoined work last g left right (made_of z (edge_of g.nodes false))) (sym e) new-made

-- ---- a memory in which other words were changed

pub pairs-same : (work last : List ℕ) (g : Graph) → SamePairs work last → pairs_of last g ≡ pairs_of work g
pairs-same work last g s = pairs_of-same work last g (λ k l u. (s.first k, s.second k))

pub stored_same : (work last : List ℕ) (g : Graph) → length last ≡ length work → SamePairs work last → (g.free ≤ 12 → SignatureStore last g) → Stored work g → Stored last g
stored_same work last g long s t d =
    record {
      sized =
          record { leaves = d.sized.leaves; nodes = d.sized.nodes; room = d.sized.room; held = omega (arith, d.sized.held) };
      pairs = store_same work last g s d.pairs;
      signatures = t;
      built = subst (λ (hs : List Pair). Built g.free hs) (sym (pairs-same work last g s)) d.built;
    }

pub new-same : (work last : List ℕ) (g : Graph) (left right : ℕ) → Stored last g → pairs_of last g ≡ pairs_of work g → New work g left right → New last g left right
new-same work last g left right d q w =
    record {
      proper =
          record {
            stored = d;
            room = w.proper.room;
            earlier = w.proper.earlier;
            larger = w.proper.larger;
            nonconstant = w.proper.nonconstant;
            no-rule = rw q w.proper.no-rule;
          };
      fresh = rw q w.fresh;
    }

pub conjoined-same : (work now last : List ℕ) (g : Graph) (left right : ℕ) (made : Made) → pairs_of now g ≡ pairs_of work g → Conjoined now last g left right made
    → Conjoined work last g left right made
conjoined-same work now last g left right made q c =
    record {
      stored = c.stored;
      free = c.free;
      room = c.room;
      extends = rw q at c.extends;
      chosen = ap (λ (hs : List Pair). conjoin g.free hs left right) (sym q) ∙ c.chosen;
      node = c.node;
      value = λ x u.
          c.value x u ∙ ap (λ (hs : List Pair). edge_value g.free hs (free_bit g.free x) left && edge_value g.free hs (free_bit g.free x) right) q;
    }
