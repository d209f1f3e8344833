-- The value of an edge at a state, and the row that leads on. Assumes nothing.
use mathlib.Core.Path.{◌≡◌, refl, sym, ap, ◌∙◌, subst}
use mathlib.Core.Bool.{Bool, true, false, not, cond, ◌&&◌}
use mathlib.Core.List.{List}
use Prim.Native.Nat.{ℕ, zero, suc, ◌+◌, ◌-◌, ◌/◌, ◌≤◌, ◌<◌}
use native.Mathlib.Decide.{dec_lt, ℕ_discrete}
use native.Mathlib.Omega.{arith}
use borrow.Author.Tests.{lt-ltb, le-ltb, eq-eqb, ne_eqb}
use lib.Dec.{ltb, eqb}
use lib.ListN.{length, get_or, set, get_or-eq_default, length-set}
use lib.Seq.{get_or-set_same, get_or-set_other}
use Rattle.aiger.specs.Bits.{nonzero}
use Rattle.diagrams.specs.declared.Vertex.{Vertex}
use Rattle.diagrams.specs.Words.{node_at, flip}
use Rattle.diagrams.specs.States.{state_of}
use Rattle.diagrams.specs.Meaning.{Assignment, value, In, Built, if_else}
use Rattle.diagrams.proofs.Values.{flip-node, value-edge, value-false, value-true}
use Rattle.state_sets.specs.Shape.{row_at}
use Rattle.state_sets.specs.Meaning.{values_of, leads_to, row_value}
use Rattle.set_walk.specs.Walk.{bits_of, Legible, values_in, Followed, Moved, Leads, LeastRow}

-- ---- values

pub bits_in : (bits : List ℕ) (v : ℕ) → bits_of bits v ≡ nonzero (get_or bits v 0)
unfolding bits_of
bits_in bits v = refl

pub bits-past : (bits : List ℕ) (v : ℕ) → length bits ≤ v → bits_of bits v ≡ false
unfolding bits_of
bits-past bits v l = ap nonzero (get_or-eq_default bits 0 l)

module _ (ns : List Vertex) (b : Built ns) (x : Assignment) (e : ℕ) (l : 2 ≤ e) (i : In ns e) (n : Vertex) (q : n ≡ node_at ns (e / 2)) where
  pub follow-hi : (r : ℕ) → x n.var ≡ true → r ≡ flip n.hi e → Followed ns x e r
  follow-hi r t p =
      record {
        same = ap (value ns x) p ∙ sym (value-edge ns b x e i n q ∙ ap (λ (c : Bool). cond c (value ns x (flip n.hi e)) (value ns x (flip n.lo e))) t);
        lower =
            let z : n.hi ≡ (node_at ns (e / 2)).hi = ap (λ (m : Vertex). m.hi) q in
            let y : r / 2 ≡ n.hi / 2 = ap (λ (k : ℕ). k / 2) p ∙ flip-node n.hi e in
            omega (arith, b.hi (e / 2) (omega arith) i);
      }

  pub follow-lo : (r : ℕ) → x n.var ≡ false → r ≡ flip n.lo e → Followed ns x e r
  follow-lo r t p =
      record {
        same = ap (value ns x) p ∙ sym (value-edge ns b x e i n q ∙ ap (λ (c : Bool). cond c (value ns x (flip n.hi e)) (value ns x (flip n.lo e))) t);
        lower =
            let z : n.lo ≡ (node_at ns (e / 2)).lo = ap (λ (m : Vertex). m.lo) q in
            let y : r / 2 ≡ n.lo / 2 = ap (λ (k : ℕ). k / 2) p ∙ flip-node n.lo e in
            omega (arith, b.lo (e / 2) (omega arith) i);
      }

pub value-constant : (ns : List Vertex) → Built ns → (x : Assignment) (e : ℕ) → e ≤ 1 → eqb e 1 ≡ value ns x e
value-constant ns b x e l = elim (ℕ_discrete e 1) [
  | yes q ↦ eq-eqb e 1 q ∙ sym (ap (value ns x) q ∙ value-true ns b x)
  | no q ↦ let z : e ≡ 0 = omega arith in ne_eqb e 1 q ∙ sym (ap (value ns x) z ∙ value-false ns b x)
]

-- ---- a row

module _ (w table : List ℕ) (vars r : ℕ) (bits : List ℕ) where
  -- the words up to v have the next values
  abbrev pub NextTo : ℕ → List ℕ → ℕ → Type 0
  NextTo from after v = (i : ℕ) → i < v → nonzero (get_or after i 0) ≡ value (state_of w).nodes (bits_of bits) (get_or table (from + i) 0)

  pub next_more : (from v b : ℕ) (after : List ℕ) → v < length after → NextTo from after v
      → nonzero b ≡ value (state_of w).nodes (bits_of bits) (get_or table (from + v) 0) → NextTo from (set after v b) (v + 1)
  next_more from v b after l h e i k = elim (ℕ_discrete i v) [
    | yes q ↦
        ap (λ (j : ℕ). nonzero (get_or (set after v b) j 0)) q ∙ ap nonzero (get_or-set_same after v b 0 l) ∙ e
        ∙ ap (λ (j : ℕ). value (state_of w).nodes (bits_of bits) (get_or table (from + j) 0)) (sym q)
    | no q ↦ ap nonzero (get_or-set_other after v i b 0 q) ∙ h i (omega arith)
  ]

  pub next-end : (from : ℕ) (after : List ℕ) → from ≡ row_at vars r → length after ≡ vars → NextTo from after vars → Moved w table vars r bits after
  unfolding bits_of values_of
  next-end from after e n h = λ k v. at v k
    where
      at : (v : ℕ) → nonzero (get_or after v 0)
          ≡ cond (ltb v vars) (value (state_of w).nodes (λ u. nonzero (get_or bits u 0)) (get_or table (row_at vars r + v) 0)) false
      at v = elim (dec_lt v vars) [
        | yes l ↦
            h v l ∙ ap (λ (j : ℕ). value (state_of w).nodes (λ u. nonzero (get_or bits u 0)) (get_or table (j + v) 0)) e
            ∙ sym
            (ap (λ (t : Bool). cond t (value (state_of w).nodes (λ u. nonzero (get_or bits u 0)) (get_or table (row_at vars r + v) 0)) false) (lt-ltb v vars l))
        | no l ↦
            ap nonzero (get_or-eq_default after 0 (omega arith))
            ∙ sym
            (ap (λ (t : Bool). cond t (value (state_of w).nodes (λ u. nonzero (get_or bits u 0)) (get_or table (row_at vars r + v) 0)) false)
            (le-ltb v vars (omega arith)))
      ]

pub value_in : (w table : List ℕ) (x : Assignment) (i : ℕ) → values_in w table i x ≡ value (state_of w).nodes x (get_or table i 0)
unfolding values_of
value_in w table x i = refl

module _ (w table : List ℕ) (vars next r : ℕ) (bits : List ℕ) where
  abbrev at_bits : ℕ → Bool
  at_bits i = value (state_of w).nodes (bits_of bits) (get_or table i 0)

  pub leads-hit : (after : List ℕ) (i : ℕ) (q : Bool) → next ≡ 0 → i ≡ row_at vars r + vars + 1 → q ≡ at_bits i → Leads w table vars next r bits after q
  leads-hit after i q e p h =
      record {
        on =
            h ∙ ap at_bits p ∙ sym (value_in w table (bits_of bits) (row_at vars r + vars + 1))
            ∙ sym (ap (λ (k : ℕ). row_value (values_in w table) vars k r (bits_of bits)) e);
        moved = λ d. absurd (d e);
      }

  pub leads-no : (after : List ℕ) (last i : ℕ) → next ≡ suc last → i ≡ row_at vars r + vars → at_bits i ≡ false → Leads w table vars next r bits after false
  leads-no after last i e p h =
      record {
        on =
            sym
            (ap (λ (k : ℕ). row_value (values_in w table) vars k r (bits_of bits)) e
            ∙ ap (λ (b : Bool). b && values_in w table last (leads_to (values_in w table) vars r (bits_of bits)))
            (value_in w table (bits_of bits) (row_at vars r + vars) ∙ ap at_bits (sym p) ∙ h));
        moved = λ d t. absurd (let z : ◌≡◌ {A = ℕ} 0 1 = cc in omega arith);
      }

  pub leads-on : (after : List ℕ) (last i : ℕ) (q : Bool) → next ≡ suc last → i ≡ row_at vars r + vars → at_bits i ≡ true
      → Moved w table vars r bits after → q ≡ value (state_of w).nodes (bits_of after) (get_or table last 0) → Leads w table vars next r bits after q
  leads-on after last i q e p h moved k =
      record {
        on =
            k ∙ sym (value_in w table (bits_of after) last) ∙ ap (values_in w table last) moved
            ∙ sym
            (ap (λ (k : ℕ). row_value (values_in w table) vars k r (bits_of bits)) e
            ∙ ap (λ (b : Bool). b && values_in w table last (leads_to (values_in w table) vars r (bits_of bits)))
            (value_in w table (bits_of bits) (row_at vars r + vars) ∙ ap at_bits (sym p) ∙ h));
        moved = λ d t. moved;
      }

-- ---- the least row

module _ (w table : List ℕ) (vars rows next : ℕ) (bits : List ℕ) where
  -- no row before r leads on
  abbrev pub NoneTo : ℕ → Type 0
  NoneTo r = (k : ℕ) → k < r → row_value (values_in w table) vars next k (bits_of bits) ≡ false

  pub none_more : (r : ℕ) (after : List ℕ) (q : Bool) → NoneTo r → Leads w table vars next r bits after q → q ≡ false → NoneTo (r + 1)
  none_more r after q h l e k d = elim (ℕ_discrete k r) [
    | yes z ↦ ap (λ (j : ℕ). row_value (values_in w table) vars next j (bits_of bits)) z ∙ sym l.on ∙ e
    | no z ↦ h k (omega arith)
  ]

  pub least-here : (r : ℕ) (after : List ℕ) (q : Bool) → r < rows → NoneTo r → Leads w table vars next r bits after q → q ≡ true
      → LeastRow w table vars rows next bits after r
  least-here r after q l h d e =
      record { most = omega arith; before = h; on = λ _. sym d.on ∙ e; moved = λ _ n. d.moved n e }

  pub least-none : (r : ℕ) (after : List ℕ) → r ≡ rows → NoneTo r → LeastRow w table vars rows next bits after r
  least-none r after e h = record { most = omega arith; before = h; on = λ l. absurd (omega arith); moved = λ l. absurd (omega arith) }

-- ---- words

-- the test of a word
pub not-zero : (n : ℕ) → not (eqb n 0) ≡ nonzero n
not-zero zero = refl
not-zero (suc n) = ap not (ne_eqb (suc n) 0 (λ q. omega arith))

pub copied_more : (from to : List ℕ) (i : ℕ) → i < length to → ((k : ℕ) → k < i → get_or to k 0 ≡ get_or from k 0) → (k : ℕ) → k < i + 1
    → get_or (set to i (get_or from i 0)) k 0 ≡ get_or from k 0
copied_more from to i l h k d = elim (ℕ_discrete k i) [
  | yes q ↦ ap (λ (j : ℕ). get_or (set to i (get_or from i 0)) j 0) q ∙ get_or-set_same to i (get_or from i 0) 0 l ∙ ap (λ (j : ℕ). get_or from j 0) (sym q)
  | no q ↦ get_or-set_other to i k (get_or from i 0) 0 q ∙ h k (omega arith)
]
