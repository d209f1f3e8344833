-- Laws of simulation: the leaves, the gates in turn, and the candidates that a block leaves. Assumes nothing.
use mathlib.Core.Path.{◌≡◌, refl, sym, ap, ap₂, ◌∙◌, subst}
use mathlib.Core.Bool.{Bool, true, false, ◌&&◌}
use mathlib.Core.List.{List}
use mathlib.Core.Logic.{◌⊎◌, inl, inr}
use Prim.Native.Nat.{ℕ, ◌+◌, ◌-◌, ◌*◌, ◌%◌, ◌^◌, ◌≤◌, ◌<◌}
use native.Mathlib.Nat.{eq-or-lt_of_le, mod-eq_of_lt}
use native.Mathlib.Omega.{arith}
use borrow.Author.Tests.{ltb-true, ltb-false}
use lib.Bits.{bit_and}
use lib.Dec.{ltb}
use lib.ListN.{length, get_or}
use lib.Pow.{pow-add, pow-lt}
use Rattle.aiger.specs.Bits.{bit}
use Rattle.aiger.specs.Circuit.{var}
use Rattle.aiger.specs.Frames.{value, free_bit}
use Rattle.meaning.proofs.Values.{value-eq}
use Rattle.words.proofs.Bits.{bit-none, bit-and}
use Rattle.nodes.specs.Graph.{Pair, edge_value, node_values, pair_at}
use Rattle.nodes.specs.Store.{field, pair_of, pairs_of, Sized}
use Rattle.nodes.specs.declared.Graph.{Graph}
use Rattle.nodes.proofs.Laws.{edge-node, edge-gate, edge-false, edge-free, pairs_of-same, pair_at-pairs_of, length-pairs_of}
use Rattle.signatures.specs.Words.{word_at, Put, Kept, simulation_word, search_word}
use Rattle.signatures.specs.Store.{Ordered}
use Rattle.signatures.specs.Twin.{edge_under, both_under, Conjunction, Simulated, LeavesSet, GateSet, Evaluated, Simulable}
use Rattle.signatures.specs.Twin.{HasWord, Listed, Candidates, Sifted, InBlock}
use Rattle.signatures.proofs.Words.{kept_trans, kept-simulated, simulation-kept, simulation-other}
use Rattle.signatures.proofs.Candidates.{listed-none, sifted-as, sifted-all, sifted-simulated, sifted-both, candidates-sifted}

-- a search changes no gate
pub pairs-kept : (work last : List ℕ) (g : Graph) → Kept search_word work last → pairs_of last g ≡ pairs_of work g
pairs-kept work last g k = pairs_of-same work last g (λ j a b. (k j 0 (omega arith) refl, k j 1 (omega arith) refl))

pub simulable-kept : (work last : List ℕ) (g : Graph) → length last ≡ length work → Kept search_word work last → Simulable work g
    → Simulable last g
simulable-kept work last g e k s =
    record {
      sized = subst (λ (m : ℕ). Sized g m) (sym e) s.sized;
      ordered = subst (λ (gs : List Pair). Ordered g.free gs) (sym (pairs-kept work last g k)) s.ordered;
    }

-- ---- the leaves

-- the leaves below m have their values in block q
pub record LeavesUpto (work last : List ℕ) (n q m : ℕ) : Type 0 where
  pub right : (gs : List Pair) (p : ℕ) → p < 64 → Simulated n gs last (free_bit n (q * 64 + p)) p m
  pub kept : Kept simulation_word work last

pub leaves_none : (work : List ℕ) (n q : ℕ) → LeavesUpto work work n q 0
leaves_none work n q = record { right = λ gs p l k h. absurd (omega arith); kept = λ k f h t. refl }

pub leaves-more : (work now last : List ℕ) (n q m w : ℕ) → LeavesUpto work now n q m → Put now last m 8 w
    → ((gs : List Pair) (p : ℕ) → p < 64 → bit w p ≡ edge_value n gs (free_bit n (q * 64 + p)) (2 * m)) → LeavesUpto work last n q (m + 1)
leaves-more work now last n q m w u s b =
    record {
      right = λ gs p l k h. at gs p l k (eq-or-lt_of_le (omega arith));
      kept = kept_trans simulation_word work now last u.kept (simulation-kept now last m s.others);
    }
  where
    at : (gs : List Pair) (p : ℕ) → p < 64 → (k : ℕ) → (k ≡ m) ⊎ (k < m) → bit (word_at last k 8) p ≡ edge_value n gs (free_bit n (q * 64 + p)) (2 * k)
    at gs p l k (inl e) =
        ap (λ (j : ℕ). bit (word_at last j 8) p) e ∙ ap (λ (w : ℕ). bit w p) s.stored ∙ b gs p l
        ∙ ap (λ (j : ℕ). edge_value n gs (free_bit n (q * 64 + p)) (2 * j)) (sym e)
    at gs p l k (inr h) = ap (λ (w : ℕ). bit w p) (simulation-other now last m s.others k (omega arith)) ∙ u.right gs p l k h

pub constant-bits : (n q : ℕ) (gs : List Pair) (p : ℕ) → p < 64 → bit 0 p ≡ edge_value n gs (free_bit n (q * 64 + p)) (2 * 0)
constant-bits n q gs p h = bit-none p ∙ sym (edge-false n gs (free_bit n (q * 64 + p)))

pub free-bits : (n q j w : ℕ) → j < n → ((p : ℕ) → p < 64 → bit w p ≡ bit (q * 64 + p) (n - (j + 1))) → (gs : List Pair) (p : ℕ) → p < 64
    → bit w p ≡ edge_value n gs (free_bit n (q * 64 + p)) (2 * (j + 1))
free-bits n q j w h b gs p l = b p l ∙ sym (edge-free n gs (free_bit n (q * 64 + p)) j h)

-- ---- the gates

-- the nodes below m have their values, where the leaves have them
pub record EvaluatedUpto (work last : List ℕ) (g : Graph) (m : ℕ) : Type 0 where
  pub right :
      (f : ℕ → Bool) (p : ℕ) → p < 64 → Simulated g.free (pairs_of work g) work f p (g.free + 1)
      → Simulated g.free (pairs_of work g) last f p m
  pub kept : Kept simulation_word work last

pub evaluated-none : (work : List ℕ) (g : Graph) → EvaluatedUpto work work g (g.free + 1)
evaluated-none work g = record { right = λ f p l h. h; kept = λ k f h t. refl }

module _ (work now : List ℕ) (g : Graph) (m : ℕ) (ordered : Ordered g.free (pairs_of work g)) (from : g.free + 1 ≤ m) (upto : m < g.nodes)
    (u : EvaluatedUpto work now g m) where
  abbrev n : ℕ
  n = g.free

  abbrev gs : List Pair
  gs = pairs_of work g

  abbrev i : ℕ
  i = m - (g.free + 1)

  place : n + 1 + i ≡ m
  place = omega arith

  among : i < length gs
  among = omega (arith, length-pairs_of work g)

  stands : pair_at gs i ≡ pair_of now m
  stands =
      pair_at-pairs_of work g i (omega arith)
      ∙ ap (λ (k : ℕ). pair_of work k) place
      ∙ ap₂ (λ (a b : ℕ). record { left = a; right = b }) (sym (u.kept m 0 (omega arith) refl)) (sym (u.kept m 1 (omega arith) refl))

  pub left_below : var (field now m 0) < m
  left_below = let h = subst (λ (p : Pair). var p.left < n + 1 + i) stands (ordered.left i among) in omega arith

  pub right-below : var (field now m 1) < m
  right-below = let h = subst (λ (p : Pair). var p.right < n + 1 + i) stands (ordered.right i among) in omega arith

  module _ (last : List ℕ) (set : GateSet now last m) where
    operand : (f : ℕ → Bool) (p : ℕ) → p < 64 → Simulated n gs work f p (n + 1) → (e : ℕ) → var e < m
        → value (λ j. bit (word_at now j 8) p) e ≡ edge_value n gs f e
    operand f p l s e h =
        let vs : List Bool = node_values n gs f in
        value-eq (λ j. bit (word_at now j 8) p) (λ k. get_or vs k false) e (u.right f p l s (var e) h ∙ edge-node vs (var e))

    here : (f : ℕ → Bool) (p : ℕ) → p < 64 → Simulated n gs work f p (n + 1) → bit (word_at last m 8) p ≡ edge_value n gs f (2 * m)
    here f p l s =
        let a = left_below in
        let b = right-below in
        set.right p l
        ∙ ap₂ ◌&&◌ (operand f p l s (field now m 0) a) (operand f p l s (field now m 1) b)
        ∙ sym (edge-gate n gs f i among (pair_of now m) stands (omega arith) (omega arith))
        ∙ ap (λ (k : ℕ). edge_value n gs f (2 * k)) place

    at : (f : ℕ → Bool) (p : ℕ) → p < 64 → Simulated n gs work f p (n + 1) → (k : ℕ) → (k ≡ m) ⊎ (k < m)
        → bit (word_at last k 8) p ≡ edge_value n gs f (2 * k)
    at f p l s k (inl e) = ap (λ (j : ℕ). bit (word_at last j 8) p) e ∙ here f p l s ∙ ap (λ (j : ℕ). edge_value n gs f (2 * j)) (sym e)
    at f p l s k (inr h) = ap (λ (w : ℕ). bit w p) (simulation-other now last m set.others k (omega arith)) ∙ u.right f p l s k h

    pub evaluated-more : EvaluatedUpto work last g (m + 1)
    evaluated-more =
        record {
          right = λ f p l s k h. at f p l s k (eq-or-lt_of_le (omega arith));
          kept = kept_trans simulation_word work now last u.kept (simulation-kept now last m set.others);
        }

-- ---- a block

module _ {work first last : List ℕ} {g : Graph} {q : ℕ} (leaves : LeavesSet work first g.free q) (all : Evaluated first last g) where
  same-gates : pairs_of first g ≡ pairs_of work g
  same-gates = pairs-kept work first g (kept-simulated work first leaves.kept)

  block-kept : Kept simulation_word work last
  block-kept = kept_trans simulation_word work first last leaves.kept all.kept

  -- the simulation word of an edge
  block-edge : (e : ℕ) → var e < g.nodes → (p : ℕ) → p < 64
      → value (λ k. bit (word_at last k 8) p) e ≡ edge_under g.free (pairs_of work g) e (q * 64 + p)
  block-edge e h p l =
      let f : ℕ → Bool = free_bit g.free (q * 64 + p) in
      let vs : List Bool = node_values g.free (pairs_of first g) f in
      value-eq (λ k. bit (word_at last k 8) p) (λ k. get_or vs k false) e
      (all.right f p l (leaves.right (pairs_of first g) p l) (var e) h ∙ edge-node vs (var e))
      ∙ ap (λ (gs : List Pair). edge_value g.free gs f e) same-gates

  module _ {count : ℕ} (candidates : Candidates work count g.nodes) where
    abbrev Node : ℕ → Type 0
    Node e = var e < g.nodes

    simulated : Sifted work last Node count count
    simulated = sifted-simulated candidates block-kept

    pub block-candidates : Candidates last count g.nodes
    block-candidates = candidates-sifted simulated candidates

    -- the candidates whose simulation word is that of the conjunction
    module _ (a b x y : ℕ) (ha : var a < g.nodes) (hb : var b < g.nodes) (bx : HasWord last 8 x a) (by : HasWord last 8 y b) where
      both : (p : ℕ) → p < 64 → bit (bit_and x y) p ≡ both_under g.free (pairs_of work g) a b (q * 64 + p)
      both p l = bit-and x y p ∙ ap₂ ◌&&◌ (bx p l ∙ block-edge a ha p l) (by p l ∙ block-edge b hb p l)

      pub block-sifted : {final : List ℕ} {left : ℕ} → Sifted last final (HasWord last 8 (bit_and x y)) count left
          → Sifted work final (InBlock g.free (pairs_of work g) a b q) count left
      block-sifted s =
          sifted-both simulated s
          (λ e h w p l. sym (block-edge e h p l) ∙ sym (w p l) ∙ both p l)
          (λ e l r. candidates.nodes e l)
          (λ e h r p l. both p l ∙ sym (r p l) ∙ sym (block-edge e h p l))

-- ---- all blocks

-- the blocks, as code shifts 1, hold all sequences and no more
pub all_blocks : (n : ℕ) → 6 ≤ n → n ≤ 12 → 1 * 2 ^ (n - 6) % 2 ^ 64 * 64 ≡ 2 ^ n
all_blocks n h l =
    let e : n - 6 + 6 ≡ n = omega arith in
    let m : 1 * 2 ^ (n - 6) ≡ 2 ^ (n - 6) = omega arith in
    ap (λ (x : ℕ). x % 2 ^ 64 * 64) m ∙ ap (λ (x : ℕ). x * 64) (mod-eq_of_lt (pow-lt {j = 64} (omega arith)))
    ∙ sym (pow-add 2 (n - 6) 6) ∙ ap (λ (x : ℕ). 2 ^ x) e

-- edge e has the values of the conjunction of a and b in the first q blocks
abbrev pub InBlocks : ℕ → List Pair → ℕ → ℕ → ℕ → ℕ → Type 0
InBlocks n gs a b q e = (x : ℕ) → x < q * 64 → edge_under n gs e x ≡ both_under n gs a b x

blocks_more : (n : ℕ) (gs : List Pair) (a b q e : ℕ) → InBlocks n gs a b q e → InBlock n gs a b q e → InBlocks n gs a b (q + 1) e
blocks_more n gs a b q e u i x l = go (ltb x (q * 64)) refl
  where
    go : (t : Bool) → ltb x (q * 64) ≡ t → edge_under n gs e x ≡ both_under n gs a b x
    go true k = u x (ltb-true x (q * 64) k)
    go false k =
        let h : q * 64 ≤ x = ltb-false x (q * 64) k in
        let z : q * 64 + (x - q * 64) ≡ x = omega arith in
        subst (λ (y : ℕ). edge_under n gs e y ≡ both_under n gs a b y) z (i (x - q * 64) (omega arith))

pub blocks-none : {work : List ℕ} (n : ℕ) (gs : List Pair) (a b : ℕ) {count : ℕ} → Sifted work work (InBlocks n gs a b 0) count count
blocks-none n gs a b = sifted-all (λ e x l. absurd (omega arith))

pub blocks-next : {work now last : List ℕ} (g : Graph) (a b q : ℕ) {count mid left : ℕ}
    → Sifted work now (InBlocks g.free (pairs_of work g) a b q) count mid
    → Sifted now last (InBlock g.free (pairs_of now g) a b q) mid left
    → Sifted work last (InBlocks g.free (pairs_of work g) a b (q + 1)) count left
blocks-next {work} {now} {last} g a b q {mid = mid} {left = left} s t =
    let n : ℕ = g.free in
    let gs : List Pair = pairs_of work g in
    let t' : Sifted now last (InBlock n gs a b q) mid left = rw (sym (pairs-kept work now g s.kept)) t in
    sifted-both s t'
    (blocks_more n gs a b q)
    (λ e l r x h. r x (omega arith))
    (λ e u r p h. r (q * 64 + p) (omega arith))

-- with six free bits or fewer no block is tried
pub blocks-few : {work : List ℕ} (n : ℕ) (gs : List Pair) (a b : ℕ) {count : ℕ} → n ≤ 6
    → Sifted work work (λ e. 6 < n → Conjunction n gs a b e) count count
blocks-few n gs a b h = sifted-all (λ e l. absurd (omega arith))

-- no candidate is left, or all blocks were tried
pub blocks_end : {work last : List ℕ} (n : ℕ) (gs : List Pair) (a b q : ℕ) {count left : ℕ}
    → 6 < n → q * 64 ≤ 2 ^ n → (left ≡ 0) ⊎ (2 ^ n ≤ q * 64)
    → Sifted work last (InBlocks n gs a b q) count left → Sifted work last (λ e. 6 < n → Conjunction n gs a b e) count left
blocks_end {last = last} n gs a b q {left = left} h l d s =
    sifted-as s (at d) (λ e c x k. c h x (omega arith))
  where
    at : (left ≡ 0) ⊎ (2 ^ n ≤ q * 64) → (e : ℕ) → Listed last left e → InBlocks n gs a b q e → 6 < n → Conjunction n gs a b e
    at (inl z) e m u = absurd (listed-none last left e z m)
    at (inr z) e m u = λ k x j. u x (omega arith)
