-- Places of blocks: the values of the free bits, and the next block. Assumes nothing.
use mathlib.Core.Path.{◌≡◌, refl, sym, ap, ap₂, ◌∙◌, subst}
use mathlib.Core.Bool.{Bool, true, false, cond, ◌&&◌}
use mathlib.Core.List.{List}
use mathlib.Core.Logic.{inl, inr}
use Prim.Native.Nat.{ℕ, zero, suc, ◌+◌, ◌-◌, ◌*◌, ◌/◌, ◌%◌, ◌^◌, ◌≤◌, ◌<◌, min}
use native.Mathlib.Nat.{not-suc-le-zero}
use native.Mathlib.Decide.{ℕ_discrete, dec_lt}
use native.Mathlib.Omega.{arith}
use lib.Pow.{shr-shr, pow_mono, pow-add}
use lib.Dec.{T}
use lib.ListN.{length, get_or}
use Rattle.aiger.specs.Bits.{nonzero, odd, bit}
use Rattle.aiger.specs.Circuit.{var}
use Rattle.aiger.specs.Frames.{value, free_bit}
use Rattle.aiger.proofs.Tests.{true-T}
use Rattle.words.proofs.Bits.{bit-none, bit-beyond, join-low, join-high}
use Rattle.nodes.specs.Graph.{Pair, pair_at, nodes, node_values, edge_value, Built}
use Rattle.nodes.specs.Store.{field, pairs_of}
use Rattle.nodes.specs.declared.Graph.{Graph}
use Rattle.nodes.proofs.Laws.{node-constant, node-free}
use Rattle.cone.specs.Cone.{in_cone}
use Rattle.cone.proofs.Cone.{root_kept}
use Rattle.support.specs.Counting.{rank, spread}
use Rattle.support.specs.Support.{support, node_value}
use Rattle.support.proofs.Counting.{rank-zero, rank-more, rank-le, rank_lt, spread-bit}
use Rattle.support.proofs.Support.{Apart, same-before}
use Rattle.simulation.specs.Store.{half, Kept, Net, Simulated, LeavesCleared, SlotsPut, Slotted, SlotsOf, Unused, UsedFrom, Carried, place_bit, InBlock, hit_at, GatesEvaluated, Scannable, Started, Advanced}
use Rattle.simulation.proofs.Words.{value_same}
use Rattle.simulation.proofs.Nets.{kept_trans, net-kept, net-gates, net-left, net-right, net-marked}

-- ---- the position that has a rank

pub position : (s : ℕ → Bool) (n k : ℕ) → k < rank s n → (i : ℕ) × (i < n) × T (s i) × (rank s i ≡ k)
position s zero k h = absurd (omega (arith, rank-zero s))
position s (suc n) k h = go (s n) refl (position s n k)
  where
    go : (b : Bool) → s n ≡ b → (k < rank s n → (i : ℕ) × (i < n) × T (s i) × (rank s i ≡ k)) → (i : ℕ) × (i < suc n) × T (s i) × (rank s i ≡ k)
    go true e r =
        let m : rank s (n + 1) ≡ rank s n + 1 = rank-more s n ∙ ap (λ (b : Bool). rank s n + cond b 1 0) e in
        let q : rank s (suc n) ≡ rank s (n + 1) = ap (rank s) (omega arith) in
        elim (ℕ_discrete (rank s n) k) [
          | yes z ↦ (n, omega arith, subst T (sym e) tt, z)
          | no z ↦ (let a = r (omega arith) in (a.0, omega (arith, a.1), a.2, a.3))
        ]
    go false e r =
        let m : rank s (n + 1) ≡ rank s n + 0 = rank-more s n ∙ ap (λ (b : Bool). rank s n + cond b 1 0) e in
        let q : rank s (suc n) ≡ rank s (n + 1) = ap (rank s) (omega arith) in
        let a = r (omega arith) in
        (a.0, omega (arith, a.1), a.2, a.3)

-- ---- bits of the next block's places

-- the lowest six bits are those of the place in its block
bit-low : (block next p k : ℕ) → k < 6 → bit (next * 64 + p) k ≡ bit (block * 64 + p) k
bit-low block next p k h = join-low 6 next p k h ∙ sym (join-low 6 block p k h)

same-high : (block r j : ℕ) → Carried block r → r < j → bit (block + 1) j ≡ bit block j
unfolding bit
same-high block r j c m =
    let e : j ≡ (r + 1) + (j - (r + 1)) = omega arith in
    ap odd
    (ap (λ (i : ℕ). (block + 1) / 2 ^ i) e ∙ sym (shr-shr (block + 1) (r + 1) (j - (r + 1))) ∙ ap (λ (x : ℕ). x / 2 ^ (j - (r + 1))) c.higher
    ∙ shr-shr block (r + 1) (j - (r + 1)) ∙ ap (λ (i : ℕ). block / 2 ^ i) (sym e))

-- those above the carry stay
bit_high : (block r p k : ℕ) → p < 64 → Carried block r → 6 + r < k → bit ((block + 1) * 64 + p) k ≡ bit (block * 64 + p) k
bit_high block r p k h c l =
    join-high 6 (block + 1) p k h (omega arith) ∙ same-high block r (k - 6) c (omega arith) ∙ sym (join-high 6 block p k h (omega arith))

-- ---- the values of leaves

module _ (n : ℕ) (gs : List Pair) (root block h q : ℕ) where
  -- a free bit that leads to the root is the bit of its rank of the place
  pub leaf-value : (j : ℕ) → j < n → T (in_cone n gs root (j + 1))
      → place_bit n gs root block h q j ≡ bit (block * 64 + (32 * h + q)) (rank (support n gs root) (n - (j + 1)))
  unfolding place_bit
  leaf-value j l t =
      let e : j + 1 ≡ n - (n - (j + 1)) = omega arith in
      let y = block * 64 + (32 * h + q) in
      spread-bit (support n gs root) n y (n - (j + 1)) (omega arith)
      ∙ ap (λ (b : Bool). b && bit y (rank (support n gs root) (n - (j + 1)))) (true-T (support n gs root (n - (j + 1))) (subst (λ (x : ℕ). T (in_cone n gs root x)) e t))

  pub root-value : edge_value n gs (place_bit n gs root block h q) root ≡ hit_at n gs root (block * 64 + (32 * h + q))
  unfolding place_bit
  root-value = refl

-- ---- slots

module _ {gs : List Pair} {root : ℕ} {work : List ℕ} {g : Graph} {slots : List ℕ} {count : ℕ} (net : Net gs root work g) (so : SlotsOf gs root g slots count) where
  -- slot k has the node of the free bit of rank k
  pub slot_at : (k : ℕ) → k < count
      → (i : ℕ) × (i < g.free) × T (support g.free gs root i) × (rank (support g.free gs root) i ≡ k) × (get_or slots k 0 ≡ g.free - i)
  slot_at k h =
      let s = support g.free gs root in
      let p = position s g.free k (omega (arith, so.count-is)) in
      let e : rank s p.0 ≡ k = p.3 in
      (p.0, p.1, p.2, e, ap (λ (x : ℕ). get_or slots x 0) (sym e) ∙ so.slots-are p.0 p.1 p.2 (omega (arith, so.count-is)))

  -- and no other slot has it
  pub slot-rank : (j k : ℕ) → j < g.free → k < count → get_or slots k 0 ≡ j + 1 → k ≡ rank (support g.free gs root) (g.free - (j + 1))
  slot-rank j k h l e =
      let p = slot_at k l in
      let q : p.0 ≡ g.free - (j + 1) = omega (arith, p.4, p.1) in
      sym p.3 ∙ ap (rank (support g.free gs root)) q

  pub slot-leaf : (k : ℕ) → k < count → (1 ≤ get_or slots k 0) × (get_or slots k 0 ≤ g.free)
  slot-leaf k l = let p = slot_at k l in (omega (arith, p.4, p.1), omega (arith, p.4))

  pub rank-slot : (j : ℕ) → j < g.free → T (in_cone g.free gs root (j + 1)) → rank (support g.free gs root) (g.free - (j + 1)) < 32
      → (rank (support g.free gs root) (g.free - (j + 1)) < count) × (get_or slots (rank (support g.free gs root) (g.free - (j + 1))) 0 ≡ j + 1)
  rank-slot j h t l =
      let s = support g.free gs root in
      let i = g.free - (j + 1) in
      let e : j + 1 ≡ g.free - i = omega arith in
      let u = subst (λ (x : ℕ). T (in_cone g.free gs root x)) e t in
      (omega (arith, so.count-is, rank_lt s i g.free u (omega arith)), so.slots-are i (omega arith) u l ∙ sym e)

  pub slotted : (to : ℕ) → to ≤ count → Slotted (length work) slots to
  slotted to h =
      record {
        held = omega (arith, so.held, so.count-is);
        inside = λ k l. omega (arith, slot-leaf k (omega arith), net.sized.leaves, net.sized.nodes, net.sized.held);
        differ = λ k l u w e.
            let p = slot_at k (omega arith) in
            let q = slot_at l (omega arith) in
            let z : p.0 ≡ q.0 = omega (arith, p.4, q.4, p.1, q.1) in
            omega (arith, p.3, q.3, ap (rank (support g.free gs root)) z);
      }

  -- the leaves of the first block
  pub block-leaves : (mid last : List ℕ) (block : ℕ) → 64 * block + 63 < 4294967296 → LeavesCleared work mid (g.free + 1) → SlotsPut mid last slots 0 count block
      → InBlock g.free gs root block last (g.free + 1)
  block-leaves mid last block small a b zero l t h q hh hq =
      ap (λ (w : ℕ). bit w q) (b.others 0 (λ k u w e. omega (arith, slot-leaf k w)) h hh) ∙ a.zeros 0 l h q hh hq ∙ bit-none (32 * h + q)
      ∙ sym (node-constant g.free gs (place_bit g.free gs root block h q))
  block-leaves mid last block small a b (suc j) l t h q hh hq =
      let n = g.free in
      let s = support n gs root in
      let e : suc j ≡ j + 1 = omega arith in
      let u = subst (λ (x : ℕ). T (in_cone n gs root x)) e t in
      let y = block * 64 + (32 * h + q) in
      let r = rank s (n - (j + 1)) in
      let v : node_value n gs (place_bit n gs root block h q) (j + 1) ≡ bit y r =
      node-free n gs (place_bit n gs root block h q) j (omega arith) ∙ leaf-value n gs root block h q j (omega arith) u in
      subst (λ (x : ℕ). half last h q x ≡ node_value n gs (place_bit n gs root block h q) x) (sym e)
      (elim (dec_lt r 32) [
        | yes w ↦
            (let p = rank-slot j (omega arith) u w in
            ap (λ (x : ℕ). half last h q x) (sym p.1) ∙ b.new r (omega arith) p.0 h q hh hq ∙ sym v)
        | no w ↦
            ap (λ (x : ℕ). bit x q)
            (b.others (j + 1) (λ k z m f. omega (arith, so.count-is, slot-rank j k (omega arith) m f)) h hh)
            ∙ a.zeros (j + 1) (omega arith) h q hh hq ∙ bit-none (32 * h + q) ∙ sym (bit-beyond 32 y r (omega arith) (omega arith)) ∙ sym v
      ])

  module _ (mid : List ℕ) (block c top : ℕ) (carried : Carried block c) (top-is : top ≡ 6 + c) (few : top < count) (b : SlotsPut work mid slots 6 (top + 1) (block + 1)) where
    -- a free bit that does not change
    same_bit : (j h q : ℕ) → j < g.free → h < 2 → q < 32 → T (in_cone g.free gs root (j + 1)) → (6 ≤ rank (support g.free gs root) (g.free - (j + 1)) → top < rank (support g.free gs root) (g.free - (j + 1)))
        → place_bit g.free gs root block h q j ≡ place_bit g.free gs root (block + 1) h q j
    same_bit j h q l hh hq t o =
        let n = g.free in
        let r = rank (support n gs root) (n - (j + 1)) in
        leaf-value n gs root block h q j l t
        ∙ sym (elim (dec_lt r 6) [
          | yes w ↦ bit-low block (block + 1) (32 * h + q) r w
          | no w ↦ bit_high block c (32 * h + q) r (omega arith) carried (omega (arith, o (omega arith)))
        ])
        ∙ sym (leaf-value n gs root (block + 1) h q j l t)

    -- the nodes before the first that uses the slots up to top
    pub block-next : (first : ℕ) → UsedFrom work g (get_or slots top 0) first → InBlock g.free gs root block work g.nodes
        → InBlock g.free gs root (block + 1) mid first
    block-next first used sim v l t h q hh hq =
        elim (dec_lt g.free v) [ yes w ↦ gate w | no w ↦ leaf v (omega arith) t ]
      where
        -- a node that is in no slot that changes has the words of before
        old : (x : ℕ) → x < g.nodes → T (in_cone g.free gs root x) → ((k : ℕ) → 6 ≤ k → k < top + 1 → get_or slots k 0 ≡ x → ⊥)
            → half mid h q x ≡ node_value g.free gs (place_bit g.free gs root block h q) x
        old x m y z = ap (λ (w : ℕ). bit w q) (b.others x z h hh) ∙ sim x m y h q hh hq

        apart : Apart g.free gs root net.built (place_bit g.free gs root block h q) (place_bit g.free gs root (block + 1) h q) (get_or slots top 0) first
        apart =
            let p = slot_at top few in
            record {
              leaf = omega (arith, slot-leaf top few);
              bits = λ j m w y.
                  same_bit j h q m hh hq y
                  (λ z. omega (arith, p.3, p.4, rank_lt (support g.free gs root) p.0 (g.free - (j + 1)) p.2 (omega (arith, p.4, p.1))));
              left = λ i m w y z.
                  let k = g.free + 1 + i in
                  let e : k - (g.free + 1) ≡ i = omega arith in
                  let u = used.unused k (omega arith) w in
                  let d : field work k 0 ≡ (pair_at gs i).left = net-left net k (omega arith) (omega (arith, net-gates net)) ∙ ap (λ (x : ℕ). (pair_at gs x).left) e in
                  omega (arith, u.left (net-marked net k (omega (arith, net-gates net)) y) (omega arith));
              right = λ i m w y z.
                  let k = g.free + 1 + i in
                  let e : k - (g.free + 1) ≡ i = omega arith in
                  let u = used.unused k (omega arith) w in
                  let d : field work k 1 ≡ (pair_at gs i).right = net-right net k (omega arith) (omega (arith, net-gates net)) ∙ ap (λ (x : ℕ). (pair_at gs x).right) e in
                  omega (arith, u.right (net-marked net k (omega (arith, net-gates net)) y) (omega arith));
            }

        gate : g.free < v → half mid h q v ≡ node_value g.free gs (place_bit g.free gs root (block + 1) h q) v
        gate w =
            old v (omega (arith, used.most)) t (λ k z m e. omega (arith, slot-leaf k (omega arith)))
            ∙ same-before g.free gs root net.built (place_bit g.free gs root block h q) (place_bit g.free gs root (block + 1) h q) apart v
            (omega (arith, used.most, net-gates net)) l (λ z. w) t

        leaf : (x : ℕ) → x ≤ g.free → T (in_cone g.free gs root x) → half mid h q x ≡ node_value g.free gs (place_bit g.free gs root (block + 1) h q) x
        leaf zero m y =
            old 0 (omega (arith, net.sized.leaves)) y (λ k z w e. omega (arith, slot-leaf k (omega arith)))
            ∙ node-constant g.free gs (place_bit g.free gs root block h q)
            ∙ sym (node-constant g.free gs (place_bit g.free gs root (block + 1) h q))
        leaf (suc j) m y =
            let e : suc j ≡ j + 1 = omega arith in
            let u = subst (λ (x : ℕ). T (in_cone g.free gs root x)) e y in
            let r = rank (support g.free gs root) (g.free - (j + 1)) in
            let stay : (6 ≤ r → top < r) → half mid h q (j + 1) ≡ node_value g.free gs (place_bit g.free gs root (block + 1) h q) (j + 1) =
            λ o.
            old (j + 1) (omega (arith, net.sized.leaves)) u (λ k z w f. omega (arith, o (omega (arith, slot-rank j k (omega arith) (omega arith) f)), slot-rank j k (omega arith) (omega arith) f))
            ∙ node-free g.free gs (place_bit g.free gs root block h q) j (omega arith) ∙ same_bit j h q (omega arith) hh hq u o
            ∙ sym (node-free g.free gs (place_bit g.free gs root (block + 1) h q) j (omega arith)) in
            subst (λ (x : ℕ). half mid h q x ≡ node_value g.free gs (place_bit g.free gs root (block + 1) h q) x) (sym e)
            (elim (dec_lt r 6) [
              | yes w ↦ stay (λ o. absurd (omega arith))
              | no w ↦
                  elim (dec_lt top r) [
                    | yes z ↦ stay (λ o. z)
                    | no z ↦
                        (let p = rank-slot j (omega arith) u (omega (arith, so.count-is)) in
                        ap (λ (x : ℕ). half mid h q x) (sym p.1) ∙ b.new r (omega arith) (omega arith) h q hh hq
                        ∙ sym (leaf-value g.free gs root (block + 1) h q j (omega arith) u)
                        ∙ sym (node-free g.free gs (place_bit g.free gs root (block + 1) h q) j (omega arith)))
                  ]
            ])

-- ---- which places hit

-- the word of the root in a block
pub block-hits : {gs : List Pair} {root : ℕ} {work : List ℕ} {g : Graph} → Net gs root work g → (block r : ℕ) → InBlock g.free gs root block work g.nodes
    → ((h q : ℕ) → h < 2 → q < 32 → bit r (32 * h + q) ≡ value (half work h q) root) → (p : ℕ) → p < 64 → bit r p ≡ hit_at g.free gs root (block * 64 + p)
block-hits {gs} {root} {work} {g} net block r sim e p h =
    let a = p / 32 in
    let q = p % 32 in
    let z : 32 * a + q ≡ p = omega arith in
    subst (λ (x : ℕ). bit r x ≡ hit_at g.free gs root (block * 64 + x)) z
    (e a q (omega arith) (omega arith)
    ∙ value_same (half work a q) (λ x. node_value g.free gs (place_bit g.free gs root block a q) x) root
    (sim (var root) net.inside (root_kept g.free gs root) a q (omega arith) (omega arith))
    ∙ root-value g.free gs root block a q)

-- two halves side by side
pub both_halves : (low high : ℕ) (v : ℕ → ℕ → Bool) → low < 4294967296 → ((q : ℕ) → q < 32 → bit low q ≡ v 0 q) → ((q : ℕ) → q < 32 → bit high q ≡ v 1 q) → (h q : ℕ) → h < 2 → q < 32
    → bit (high * 4294967296 + low) (32 * h + q) ≡ v h q
both_halves low high v l a b zero q hh hq =
    let e : 32 * 0 + q ≡ q = omega arith in
    ap (bit (high * 4294967296 + low)) e ∙ join-low 32 high low q hq ∙ a q hq
both_halves low high v l a b (suc zero) q hh hq =
    let e : 32 * 1 + q - 32 ≡ q = omega arith in
    join-high 32 high low (32 * 1 + q) l (omega arith) ∙ ap (bit high) e ∙ b q hq
both_halves low high v l a b (suc (suc h)) q hh hq = absurd (omega arith)

-- the slots that change are there
pub carry-few : (block c count : ℕ) → Carried block c → 64 * (block + 1) < 2 ^ count → 6 + c < count
carry-few block c count a h =
    elim (dec_lt (6 + c) count) [
      | yes l ↦ l
      | no l ↦
          (let m : 2 ^ count ≤ 2 ^ (6 + c) = pow_mono (omega arith) in
          absurd (omega (arith, pow-add 2 6 c, a.bound)))
    ]

-- ---- the two ways to a block's values

module _ {root : ℕ} {work : List ℕ} {g : Graph} where
  pub started : {slots : List ℕ} {count : ℕ} (mid put last : List ℕ) (block r : ℕ) → Net (pairs_of work g) root work g → SlotsOf (pairs_of work g) root g slots count
      → 64 * block + 63 < 4294967296 → length mid ≡ length work → length put ≡ length mid → length last ≡ length put → LeavesCleared work mid (g.free + 1)
      → SlotsPut mid put slots 0 count block → GatesEvaluated put last g (g.free + 1)
      → ((h q : ℕ) → h < 2 → q < 32 → bit r (32 * h + q) ≡ value (half last h q) root) → Started work last g root block r
  started {slots} mid put last block r net so small z₁ z₂ z₃ a b e hits =
      let k = kept_trans work mid put a.kept b.kept in
      let l = kept_trans work put last k e.kept in
      let v = e.values (pairs_of work g) root (net-kept net put k (z₂ ∙ z₁)) (place_bit g.free (pairs_of work g) root block)
      (block-leaves net so mid put block small a b) in
      record {
        kept = l;
        values = v;
        hits = block-hits (net-kept net last l (z₃ ∙ z₂ ∙ z₁)) block r v hits;
      }

  pub advanced : {slots firsts : List ℕ} {count : ℕ} (put last : List ℕ) (block c r : ℕ) → Scannable work g root slots firsts count → Carried block c
      → 64 * (block + 1) < 2 ^ count → length put ≡ length work → length last ≡ length put → SlotsPut work put slots 6 (6 + c + 1) (block + 1)
      → GatesEvaluated put last g (get_or firsts (6 + c) 0)
      → ((h q : ℕ) → h < 2 → q < 32 → bit r (32 * h + q) ≡ value (half last h q) root) → Advanced work last g root block r
  advanced {slots} {firsts} {count} put last block c r s carried more z₁ z₂ b e hits =
      let k = kept_trans work put last b.kept e.kept in
      let few = carry-few block c count carried more in
      let v : InBlock g.free (pairs_of work g) root block work g.nodes → InBlock g.free (pairs_of work g) root (block + 1) last g.nodes =
      λ sim.
      e.values (pairs_of work g) root (net-kept s.net put b.kept z₁) (place_bit g.free (pairs_of work g) root (block + 1))
      (block-next s.net s.slots-of put block c (6 + c) carried refl few b (get_or firsts (6 + c) 0) (s.firsts-of (6 + c) few) sim) in
      record {
        kept = k;
        values = v;
        hits = λ sim. block-hits (net-kept s.net last k (z₂ ∙ z₁)) (block + 1) r (v sim) hits;
      }

-- ---- what the scan requires stays

module _ {root : ℕ} {work : List ℕ} {g : Graph} {slots firsts : List ℕ} {count : ℕ} (s : Scannable work g root slots firsts count) (last : List ℕ)
    (kept : Kept work last) (size : length last ≡ length work) where
  pub same-pairs : pairs_of last g ≡ pairs_of work g
  same-pairs = (net-kept s.net last kept size).pairs

  pub scannable-kept : Scannable last g root slots firsts count
  scannable-kept =
      record {
        net = subst (λ (gs : List Pair). Net gs root last g) (sym same-pairs) (net-kept s.net last kept size);
        slots-of = subst (λ (gs : List Pair). SlotsOf gs root g slots count) (sym same-pairs) s.slots-of;
        held = s.held;
        firsts-of = λ k h.
            let u = s.firsts-of k h in
            record {
              gates = u.gates;
              most = u.most;
              unused = λ v l m.
                  let w = u.unused v l m in
                  let a = kept v 0 (omega arith) (λ e. omega arith) (λ e. omega arith) in
                  let b = kept v 1 (omega arith) (λ e. omega arith) (λ e. omega arith) in
                  let d = kept v 10 (omega arith) (λ e. omega arith) (λ e. omega arith) in
                  record {
                    left = λ t o. omega (arith, w.left (subst (λ (x : ℕ). T (nonzero x)) d t) (omega arith));
                    right = λ t o. omega (arith, w.right (subst (λ (x : ℕ). T (nonzero x)) d t) (omega arith));
                  };
            };
      }

  -- the next block, in the terms of the first memory
  pub advanced-from : (next : List ℕ) (block r : ℕ) → Advanced last next g root block r → InBlock g.free (pairs_of work g) root block last g.nodes
      → InBlock g.free (pairs_of work g) root (block + 1) next g.nodes × ((p : ℕ) → p < 64 → bit r p ≡ hit_at g.free (pairs_of work g) root ((block + 1) * 64 + p))
  advanced-from next block r a sim =
      (subst (λ (gs : List Pair). InBlock g.free gs root block last g.nodes → InBlock g.free gs root (block + 1) next g.nodes) same-pairs a.values sim, subst (λ (gs : List Pair). InBlock g.free gs root block last g.nodes → (p : ℕ) → p < 64 → bit r p ≡ hit_at g.free gs root ((block + 1) * 64 + p)) same-pairs a.hits sim)
