-- From a graph in memory, with the numbers of its nodes, to the words of its netlist. Assumes nothing.
use mathlib.Core.Path.{◌≡◌, refl, sym, ap, ap₂, ◌∙◌, subst}
use mathlib.Core.Bool.{Bool, true, false, cond}
use mathlib.Core.List.{List, map}
use mathlib.Core.Logic.{◌⊎◌, inl, inr, ⊎_elim}
use Prim.Native.Nat.{ℕ, zero, suc, ◌+◌, ◌-◌, ◌*◌, ◌/◌, ◌%◌, ◌≤◌, ◌<◌}
use native.Mathlib.Decide.{ℕ_discrete, dec_lt}
use native.Mathlib.Omega.{arith}
use borrow.Author.Tests.{eq-eqb, ne_eqb, lt-ltb, le-ltb, le-leb, lt-leb}
use lib.Dec.{T, eqb, leb, ltb}
use lib.ListN.{length, get_or}
use lib.Seq.{ext_get_or}
use Rattle.aiger.specs.Lists.{upto}
use Rattle.aiger.specs.Circuit.{Gate, var}
use Rattle.meaning.proofs.Lists.{length-map-upto, get_d-map-upto}
use Rattle.meaning.proofs.Defined.{gate_at}
use Rattle.nodes.specs.Graph.{Pair, pair_at, nodes, Built}
use Rattle.nodes.specs.Store.{field, pair_of, pairs_of, Sized}
use Rattle.nodes.specs.declared.Graph.{Graph}
use Rattle.nodes.proofs.Laws.{length-pairs_of, nodes-pairs_of, pair_at-pairs_of, pairs_of-same}
use Rattle.cone.specs.Cone.{in_cone, kept_before, number, Numbered, renumbered, kept_gate, folded}
use Rattle.cone.specs.Store.{Marks, Assigned, Assignment}
use Rattle.cone.proofs.Cone.{root_kept, operand-earlier, before-bound, number-leaf, gate-number, number-gate, number_lt, number_bound}
use Rattle.cone.proofs.Gates.{length-folded, GateFrom, to-gate, operand-numbered}
use Rattle.records.specs.Steps.{word, edge_to, renumber, first_fact, leaves_set, gates_set, compacted, arranged, all_linked}
use Rattle.records.proofs.Words.{Set}
use Rattle.records.proofs.Moves.{leaves-set, gates-set, Listed, Rising, Compact, compacted-words}
use Rattle.netlist.specs.Netlist.{net_nodes, leaf_word, gate_word, record_word, plain_word, plain, net_words, net_of, Marked, NetlistIs}

-- ---- the nodes that are no gates

module _ (work : List ℕ) (g : Graph) (root : ℕ) (k : Marked work g root) where
  abbrev leafs : List ℕ
  leafs = leaves_set work (g.free + 1)

  abbrev LeavesAre : Type 0
  LeavesAre = Set work 0 (g.free + 1) (λ u v. edge_to v 0) (λ u v. edge_to v 0) (λ u v. first_fact (word u v 10)) 0 (leaves_set work (g.free + 1))

  pub leaves-are : LeavesAre
  leaves-are = leaves-set work (g.free + 1) (omega (arith, k.sized.leaves, k.sized.nodes, k.exact))

  pub leaves-pairs : pairs_of (leaves_set work (g.free + 1)) g ≡ pairs_of work g
  leaves-pairs =
      pairs_of-same work (leaves_set work (g.free + 1)) g
      (λ v l h. (leaves-are.stay v 0 (omega arith) (λ p q. absurd (omega arith)), leaves-are.stay v 1 (omega arith) (λ p q. absurd (omega arith))))

  pub leaves-marks : Marks (pairs_of work g) (leaves_set work (g.free + 1)) g root
  leaves-marks v h = leaves-are.stay v 10 (omega arith) (λ p q. omega arith) ∙ k.marks v h

-- ---- the words with the numbers of all nodes

module _ (work mid : List ℕ) (g : Graph) (root kept : ℕ) (k : Marked work g root) (same : length mid ≡ length (leaves_set work (g.free + 1)))
    (given : Assignment (leaves_set work (g.free + 1)) mid g kept) where
  abbrev n : ℕ
  n = g.free

  abbrev gs : List Pair
  gs = pairs_of work g

  long : length mid ≡ length work
  long = same ∙ (leaves-are work g root k).size

  assigned : Assigned (pairs_of work g) mid g root kept
  assigned =
      let e = leaves-pairs work g root k in
      subst (λ (hs : List Pair). Assigned hs mid g root kept) e
      (given.assigned root (subst (λ (hs : List Pair). Marks hs (leaves_set work (g.free + 1)) g root) (sym e) (leaves-marks work g root k)))

  pairs : pairs_of mid g ≡ pairs_of work g
  pairs = given.pairs ∙ leaves-pairs work g root k

  nodes-are : nodes g.free (pairs_of work g) ≡ g.nodes
  nodes-are = nodes-pairs_of work g k.sized.leaves

  pub count-is : g.free + 1 + kept ≡ net_nodes g.free (pairs_of work g) root
  unfolding net_nodes
  count-is = omega (arith, assigned.count)

  -- a word of a leaf's record
  leaf-word : (v f : ℕ) → v ≤ g.free → f < 3 → word mid v f ≡ word (leaves_set work (g.free + 1)) v f
  leaf-word v f l h = given.others (16 * v + f) (λ i p e. omega arith)

  numbers-small : (v : ℕ) → v < g.nodes → Numbered g.free (pairs_of work g) root v → number g.free (pairs_of work g) root v ≤ 65536
  numbers-small v h a =
      omega (arith, number_bound g.free (pairs_of work g) root v (omega (arith, nodes-are)) a, before-bound g.free (pairs_of work g) root (length (pairs_of work g)), length-pairs_of work g, k.sized.leaves, k.sized.nodes, k.sized.room)

  -- an edge to a node that has a number
  pub edge-renumbered : (e : ℕ) → var e < g.nodes → Numbered g.free (pairs_of work g) root (var e) → renumber mid e ≡ renumbered g.free (pairs_of work g) root e
  unfolding renumber renumbered
  edge-renumbered e h a =
      let x = assigned.numbers (var e) h a in
      let y = numbers-small (var e) h a in
      omega arith

  pub root-renumbered : renumber mid root ≡ renumbered g.free (pairs_of work g) root root
  root-renumbered = edge-renumbered root k.inside (inr (root_kept g.free (pairs_of work g) root))

  -- ---- gates

  abbrev edges : List ℕ
  edges = gates_set mid (g.free + 1) (g.nodes - (g.free + 1))

  GatesAre : Type 0
  GatesAre =
      Set mid (g.free + 1) (g.nodes - (g.free + 1)) (λ u v. renumber u (word u v 0)) (λ u v. renumber u (word u v 1)) (λ u v. 0) (g.free + 1)
      (gates_set mid (g.free + 1) (g.nodes - (g.free + 1)))

  gates-are : Set mid (g.free + 1) (g.nodes - (g.free + 1)) (λ u v. renumber u (word u v 0)) (λ u v. renumber u (word u v 1)) (λ u v. 0) (g.free + 1)
      (gates_set mid (g.free + 1) (g.nodes - (g.free + 1)))
  gates-are = gates-set mid (g.free + 1) (g.nodes - (g.free + 1)) (omega (arith, long, k.sized.leaves, k.sized.nodes, k.exact))

  -- the number of a node that has one, and 0 of one that has none
  num-is : (v : ℕ) → v < g.nodes → Numbered g.free (pairs_of work g) root v → word edges v 10 ≡ number g.free (pairs_of work g) root v
  num-is v h a = gates-are.stay v 10 (omega arith) (λ p q. omega arith) ∙ assigned.numbers v h a

  num-none : (v : ℕ) → g.free < v → v < g.nodes → (T (in_cone g.free (pairs_of work g) root v) → ⊥) → word edges v 10 ≡ 0
  num-none v l h a = gates-are.stay v 10 (omega arith) (λ p q. omega arith) ∙ assigned.zeros v l h a

  in-or : (b : Bool) → T b ⊎ (T b → ⊥)
  in-or true = inl tt
  in-or false = inr (λ t. t)

  -- whether a node has a number
  numbered-or : (v : ℕ) → v < g.nodes → Numbered g.free (pairs_of work g) root v ⊎ (word edges v 10 ≡ 0)
  numbered-or v h =
      elim (dec_lt g.free v) [
        | yes l ↦
            ⊎_elim (λ (t : T (in_cone g.free (pairs_of work g) root v)). inl (inr t))
            (λ (t : T (in_cone g.free (pairs_of work g) root v) → ⊥). inr (num-none v l h t)) (in-or (in_cone g.free (pairs_of work g) root v))
        | no l ↦ inl (inl (omega arith))
      ]

  listed-numbered : (v : ℕ) → v < g.nodes → Listed edges v → Numbered g.free (pairs_of work g) root v
  listed-numbered v h (inl e) = inl (omega arith)
  listed-numbered v h (inr e) = ⊎_elim (λ a. a) (λ (z : word edges v 10 ≡ 0). absurd (e z)) (numbered-or v h)

  number-some : (v : ℕ) → 1 ≤ v → 1 ≤ number g.free (pairs_of work g) root v
  number-some v h =
      elim (dec_lt g.free v) [
        | yes l ↦ omega (arith, gate-number g.free (pairs_of work g) root v l)
        | no l ↦ omega (arith, number-leaf g.free (pairs_of work g) root v (omega arith))
      ]

  numbered-listed : (v : ℕ) → v < g.nodes → Numbered g.free (pairs_of work g) root v → Listed edges v
  numbered-listed v h a =
      elim (ℕ_discrete v 0) [
        | yes e ↦ inl e
        | no e ↦ inr (λ z. omega (arith, num-is v h a, number-some v (omega arith)))
      ]

  number-le : (v : ℕ) → number g.free (pairs_of work g) root v ≤ v
  number-le v =
      elim (dec_lt g.free v) [
        | yes l ↦ omega (arith, gate-number g.free (pairs_of work g) root v l, before-bound g.free (pairs_of work g) root (v - (g.free + 1)))
        | no l ↦ omega (arith, number-leaf g.free (pairs_of work g) root v (omega arith))
      ]

  rising : Rising edges g.nodes
  rising =
      record {
        room = omega (arith, gates-are.size, long, k.sized.nodes, k.exact);
        some = omega (arith, k.sized.leaves);
        constant = num-is 0 (omega (arith, k.sized.leaves)) (inl (omega arith)) ∙ number-leaf g.free (pairs_of work g) root 0 (omega arith);
        small = λ v h.
            ⊎_elim (λ (a : Numbered g.free (pairs_of work g) root v). omega (arith, num-is v h a, number-le v)) (λ (z : word edges v 10 ≡ 0). omega arith)
            (numbered-or v h);
        more = λ i v l h o z.
            let a = listed-numbered i (omega arith) o in
            omega (arith, num-is i (omega arith) a, num-is v h (listed-numbered v h (inr z)), number_lt g.free (pairs_of work g) root i v l a);
      }

  pub compact : Compact edges (compacted mid (g.free + 1) g.nodes (net_nodes g.free (pairs_of work g) root)) g.nodes (net_nodes g.free (pairs_of work g) root)
  unfolding net_nodes
  compact =
      let b = before-bound g.free (pairs_of work g) root (length (pairs_of work g)) in
      compacted-words mid (g.free + 1) g.nodes (g.free + 1 + kept_before g.free (pairs_of work g) root (length (pairs_of work g))) rising
      (omega (arith, b, length-pairs_of work g, gates-are.size, long, k.sized.leaves, k.sized.nodes, k.exact))
      (λ i h o.
      let a = listed-numbered i h o in
      omega (arith, num-is i h a, number_bound g.free (pairs_of work g) root i (omega (arith, nodes-are)) a))

  -- ---- word by word

  abbrev last : List ℕ
  last = compacted mid (g.free + 1) g.nodes (net_nodes g.free (pairs_of work g) root)

  -- the word of a node that has number v
  at-number : (i v f : ℕ) → i < g.nodes → Numbered g.free (pairs_of work g) root i → number g.free (pairs_of work g) root i ≡ v → f < 3
      → get_or last (14 * v + f) 0 ≡ word edges i f
  at-number i v f h a e l =
      let q : 14 * v + f ≡ 14 * word edges i 10 + f = omega (arith, num-is i h a) in
      ap (λ (j : ℕ). get_or last j 0) q ∙ compact.here i h (numbered-listed i h a) f l

  at_zero : (i v f : ℕ) → i < g.nodes → Numbered g.free (pairs_of work g) root i → number g.free (pairs_of work g) root i ≡ v → 3 ≤ f → f < 14
      → get_or last (14 * v + f) 0 ≡ 0
  at_zero i v f h a e l m =
      let q : 14 * v + f ≡ 14 * word edges i 10 + f = omega (arith, num-is i h a) in
      ap (λ (j : ℕ). get_or last j 0) q ∙ compact.zero i h (numbered-listed i h a) f l m

  fact-cond : (b : Bool) (m : ℕ) → m ≡ cond b 1 0 → first_fact m ≡ cond b 0 8
  unfolding first_fact
  fact-cond true m e = rw (ne_eqb m 0 (λ z. omega arith))
  fact-cond false m e = rw (eq-eqb m 0 e)

  leaf-left : (v : ℕ) → v ≤ g.free → edge_to v 0 ≡ 2 * v
  leaf-left v h = omega (arith, k.sized.leaves, k.sized.nodes, k.sized.room)

  leaf-at : (v f : ℕ) → v ≤ g.free → f < 14 → get_or last (14 * v + f) 0 ≡ leaf_word g.free (pairs_of work g) root v f
  unfolding leaf_word
  leaf-at v f l h =
      let a : Numbered g.free (pairs_of work g) root v = inl l in
      let e = number-leaf g.free (pairs_of work g) root v l in
      let i : v < g.nodes = omega (arith, k.sized.leaves) in
      let s = leaves-are work g root k in
      let to : (d : ℕ) → d < 3 → get_or last (14 * v + d) 0 ≡ word (leaves_set work (g.free + 1)) v d =
      λ d m. at-number v v d i a e m ∙ gates-are.stay v d (omega arith) (λ p q. absurd (omega arith)) ∙ leaf-word v d l m in
      elim (ℕ_discrete f 0) [
        | yes q ↦
            rw (lt-ltb f 2 (omega arith)) (ap (λ (d : ℕ). get_or last (14 * v + d) 0) q ∙ to 0 (omega arith) ∙ s.left_is v (omega arith) (omega arith) ∙ leaf-left v l)
        | no q ↦
            elim (ℕ_discrete f 1) [
              | yes r ↦
                  rw (lt-ltb f 2 (omega arith)) (ap (λ (d : ℕ). get_or last (14 * v + d) 0) r ∙ to 1 (omega arith) ∙ s.right_is v (omega arith) (omega arith) ∙ leaf-left v l)
              | no r ↦
                  elim (ℕ_discrete f 2) [
                    | yes t ↦
                        rw (le-ltb f 2 (omega arith), eq-eqb f 2 t)
                        (ap (λ (d : ℕ). get_or last (14 * v + d) 0) t ∙ to 2 (omega arith) ∙ s.fact-is v (omega arith) (omega arith)
                        ∙ fact-cond (in_cone g.free (pairs_of work g) root v) (word work v 10) (k.marks v i))
                    | no t ↦ rw (le-ltb f 2 (omega arith), ne_eqb f 2 t) (at_zero v v f i a e (omega arith) h)
                  ]
            ]
      ]

  -- an operand of gate i, which leads to the root
  operand-is : (i e : ℕ) → i < length (pairs_of work g) → T (in_cone g.free (pairs_of work g) root (g.free + 1 + i)) → (l : ℕ) → l ≡ e
      → (var e ≡ var (pair_at (pairs_of work g) i).left) ⊎ (var e ≡ var (pair_at (pairs_of work g) i).right) → renumber mid l ≡ renumbered g.free (pairs_of work g) root e
  operand-is i e h t l q o =
      let early = operand-earlier g.free (pairs_of work g) root k.built i (var e) h o in
      ap (renumber mid) q
      ∙ edge-renumbered e (omega (arith, length-pairs_of work g)) (operand-numbered g.free (pairs_of work g) root k.built i (var e) h t o)

  gate-at : (p f : ℕ) → p < kept_before g.free (pairs_of work g) root (length (pairs_of work g)) → f < 14
      → get_or last (14 * (g.free + 1 + p) + f) 0 ≡ gate_word g.free (pairs_of work g) root p f
  unfolding gate_word kept_gate
  gate-at p f h u =
      let from = to-gate g.free (pairs_of work g) root p (omega (arith, length-folded g.free (pairs_of work g) root)) in
      let i = from.0 in
      let z = from.1 in
      let v = g.free + 1 + i in
      let a : Numbered g.free (pairs_of work g) root v = inr z.kept in
      let inside : v < g.nodes = omega (arith, z.inside, length-pairs_of work g) in
      let e : number g.free (pairs_of work g) root v ≡ g.free + 1 + p = number-gate g.free (pairs_of work g) root i ∙ ap (λ (x : ℕ). g.free + 1 + x) z.place in
      let pr = pair_at (pairs_of work g) i in
      let same : pair_of mid v ≡ pr = sym (pair_at-pairs_of mid g i inside) ∙ ap (λ (hs : List Pair). pair_at hs i) pairs in
      let q = at-number v (g.free + 1 + p) in
      elim (ℕ_discrete f 0) [
        | yes r ↦
            rw (eq-eqb f 0 r)
            (ap (λ (d : ℕ). get_or last (14 * (g.free + 1 + p) + d) 0) r ∙ q 0 inside a e (omega arith) ∙ gates-are.left_is v (omega arith) (omega arith)
            ∙ operand-is i pr.left z.inside z.kept (word mid v 0) (ap (λ (x : Pair). x.left) same) (inl refl)
            ∙ ap (λ (x : Gate). x.left) (sym z.gate))
        | no r ↦
            elim (ℕ_discrete f 1) [
              | yes s ↦
                  rw (ne_eqb f 0 r, eq-eqb f 1 s)
                  (ap (λ (d : ℕ). get_or last (14 * (g.free + 1 + p) + d) 0) s ∙ q 1 inside a e (omega arith) ∙ gates-are.right_is v (omega arith) (omega arith)
                  ∙ operand-is i pr.right z.inside z.kept (word mid v 1) (ap (λ (x : Pair). x.right) same) (inr refl)
                  ∙ ap (λ (x : Gate). x.right) (sym z.gate))
              | no s ↦
                  rw (ne_eqb f 0 r, ne_eqb f 1 s)
                  (elim (ℕ_discrete f 2) [
                    | yes t ↦ ap (λ (d : ℕ). get_or last (14 * (g.free + 1 + p) + d) 0) t ∙ q 2 inside a e (omega arith) ∙ gates-are.fact-is v (omega arith) (omega arith)
                    | no t ↦ at_zero v (g.free + 1 + p) f inside a e (omega arith) u
                  ])
            ]
      ]

  record-at : (v f : ℕ) → v < net_nodes g.free (pairs_of work g) root → f < 14 → get_or last (14 * v + f) 0 ≡ record_word g.free (pairs_of work g) root v f
  unfolding record_word net_nodes
  record-at v f h u =
      elim (dec_lt g.free v) [
        | yes l ↦
            let p = v - (g.free + 1) in
            let e : g.free + 1 + p ≡ v = omega arith in
            rw (lt-leb v g.free l)
            (ap (λ (x : ℕ). get_or last (14 * x + f) 0) (sym e) ∙ gate-at p f (omega arith) u)
        | no l ↦ rw (le-leb v g.free (omega arith)) (leaf-at v f (omega arith) u)
      ]

  word-at : (j : ℕ) → j < length last → get_or last j 0 ≡ plain_word g.free (pairs_of work g) root j
  unfolding plain_word
  word-at j h =
      elim (dec_lt j (14 * net_nodes g.free (pairs_of work g) root)) [
        | yes l ↦
            let e : 14 * (j / 14) + j % 14 ≡ j = omega arith in
            rw (lt-ltb j (14 * net_nodes g.free (pairs_of work g) root) l)
            (ap (λ (x : ℕ). get_or last x 0) (sym e) ∙ record-at (j / 14) (j % 14) (omega arith) (omega arith))
        | no l ↦ rw (le-ltb j (14 * net_nodes g.free (pairs_of work g) root) (omega arith)) (compact.rest j (omega arith) h)
      ]

  words_long : length last ≡ length work
  words_long = compact.size ∙ gates-are.size ∙ long

  pub plain-is : compacted mid (g.free + 1) g.nodes (net_nodes g.free (pairs_of work g) root) ≡ plain g.free (pairs_of work g) root (length work)
  unfolding plain
  plain-is =
      ext_get_or 0 last (map (plain_word g.free (pairs_of work g) root) (upto (length work)))
      (words_long ∙ sym (length-map-upto (plain_word g.free (pairs_of work g) root) (length work)))
      (λ j h. word-at j h ∙ sym (get_d-map-upto (plain_word g.free (pairs_of work g) root) (length work) j 0 (omega (arith, words_long))))

  pub arranged_is : arranged mid (g.free + 1) g.nodes (g.free + 1 + kept) ≡ net_words g.free (pairs_of work g) root (length work)
  unfolding arranged net_words
  arranged_is =
      ap (arranged mid (g.free + 1) g.nodes) count-is
      ∙ ap (λ (u : List ℕ). all_linked u (net_nodes g.free (pairs_of work g) root) (g.free + 1) (net_nodes g.free (pairs_of work g) root - (g.free + 1))) plain-is

-- ---- what the code leaves

module _ (work one mid : List ℕ) (g : Graph) (root kept : ℕ) (k : Marked work g root) (leaves : one ≡ leaves_set work (g.free + 1))
    (same : length mid ≡ length one) (given : Assignment one mid g kept) where
  given-leaves : Assignment (leaves_set work (g.free + 1)) mid g kept
  given-leaves = subst (λ (u : List ℕ). Assignment u mid g kept) leaves given

  same-leaves : length mid ≡ length (leaves_set work (g.free + 1))
  same-leaves = same ∙ ap length leaves

  pub kept-few : g.free + 1 + kept ≤ g.nodes
  unfolding net_nodes
  kept-few =
      omega (arith, count-is work mid g root kept k same-leaves given-leaves, before-bound g.free (pairs_of work g) root (length (pairs_of work g)), length-pairs_of work g, k.sized.leaves)

  pub netlist-is : (last : List ℕ) (e top words : ℕ) → e ≡ root → top ≡ renumber mid e → last ≡ arranged mid (g.free + 1) g.nodes (g.free + 1 + kept)
      → words ≡ length work
      → NetlistIs g.free (pairs_of work g) root work last (record { nodes = g.free + 1 + kept; free = g.free; root = top; words = words })
  unfolding net_of
  netlist-is last e top words er et el ew =
      record {
        words_are = el ∙ arranged_is work mid g root kept k same-leaves given-leaves;
        net-is = cc (count-is work mid g root kept k same-leaves given-leaves, root-renumbered work mid g root kept k same-leaves given-leaves);
      }
