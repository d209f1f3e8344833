-- Laws of what gates wait for: one count, a count stored, and the counts of all gates. Assumes nothing.
use mathlib.Core.Path.{◌≡◌, refl, sym, ap, ap₂, ◌∙◌, subst}
use mathlib.Core.Bool.{Bool, true, false, cond, ◌||◌}
use mathlib.Core.List.{List}
use mathlib.Core.Logic.{◌⊎◌, ⊎_elim}
use Prim.Native.Nat.{ℕ, ◌+◌, ◌-◌, ◌*◌, ◌/◌, ◌≤◌, ◌<◌}
use native.Mathlib.Omega.{arith}
use borrow.Author.Tests.{eq-eqb, ne_eqb, lt-ltb}
use lib.Dec.{eqb, ltb}
use lib.ListN.{length, get_or, set, length-set}
use Rattle.meaning.proofs.Lists.{get_d_set}
use Rattle.gate_order.specs.Order.{has}
use Rattle.gate_order.specs.Waiting.{lacks, waits, Waiting, Grown, Put}

module _ (table : List ℕ) (v : ℕ) where
  pub lacks-constant : v ≡ 0 → 0 ≡ lacks table v
  lacks-constant e = rw (eq-eqb v 0 e)

  pub lacks-none : (v ≡ 0 → ⊥) → get_or table v 0 ≡ 0 → 1 ≡ lacks table v
  lacks-none n e = rw (ne_eqb v 0 n, e)

  pub lacks-some : (v ≡ 0 → ⊥) → (get_or table v 0 ≡ 0 → ⊥) → 0 ≡ lacks table v
  lacks-some n e =
      let h : 0 < get_or table v 0 = omega arith in
      rw (ne_eqb v 0 n, lt-ltb 0 (get_or table v 0) h)

  pub lacks-few : lacks table v ≤ 1
  lacks-few = go (has table v)
    where
      go : (b : Bool) → cond b 0 1 ≤ 1
      go true = omega arith
      go false = omega arith

module _ (vars ops table : List ℕ) (i : ℕ) where
  pub waits-free : get_or table (get_or vars i 0) 0 ≡ 0 → (a b : ℕ) → a ≡ lacks table (get_or ops (2 * i) 0) → b ≡ lacks table (get_or ops (2 * i + 1) 0)
      → a + b ≡ waits vars ops table i
  unfolding waits
  waits-free e a b p q = ap₂ (λ (x y : ℕ). x + y) p q ∙ sym (rw (eq-eqb (get_or table (get_or vars i 0) 0) 0 e))

  pub waits-taken : (get_or table (get_or vars i 0) 0 ≡ 0 → ⊥) → 3 ≡ waits vars ops table i
  unfolding waits
  waits-taken n = sym (rw (ne_eqb (get_or table (get_or vars i 0) 0) 0 n))

-- ---- a count stored

grown-same : (marks : List ℕ) → Grown marks marks
grown-same marks = record { long = refl; kept = λ b h. h }

module _ (waiting marks : List ℕ) (i w : ℕ) where
  pub put-zero : w ≡ 0 → i < 64 * length marks → Put waiting marks i w (set waiting i w) (set marks (i / 64) 1)
  put-zero e l =
      let b : i / 64 < length marks = omega arith in
      record {
        count = refl;
        grown = record {
          long = length-set marks (i / 64) 1;
          kept = λ k h. ⊎_elim (λ p. omega (arith, p.1)) (λ p. omega (arith, p.1)) (get_d_set marks (i / 64) 1 k b);
        };
        mark = λ _. ⊎_elim (λ p. omega (arith, p.1)) (λ p. absurd (p.0 refl)) (get_d_set marks (i / 64) 1 (i / 64) b);
      }

  pub put-more : (w ≡ 0 → ⊥) → Put waiting marks i w (set waiting i w) marks
  put-more n = record { count = refl; grown = grown-same marks; mark = λ e. absurd (n e) }

-- ---- the counts of all gates, one after the other

pub record Started (vars ops table marks₀ waiting marks : List ℕ) (i : ℕ) : Type 0 where
  pub same : length marks ≡ length marks₀
  pub past : i ≤ length vars
  pub long : length waiting ≡ length vars
  pub blocks : length vars ≤ 64 * length marks
  pub counts : (j : ℕ) → j < i → get_or waiting j 0 ≡ waits vars ops table j
  pub marked : (j : ℕ) → j < i → get_or waiting j 0 ≡ 0 → 0 < get_or marks (j / 64) 0

pub start : (vars ops table waiting marks : List ℕ) → length waiting ≡ length vars → length vars ≤ 64 * length marks
    → Started vars ops table marks waiting marks 0
start vars ops table waiting marks l b =
    record { same = refl; past = omega arith; long = l; blocks = b; counts = λ j h. absurd (omega arith); marked = λ j h. absurd (omega arith) }

module _ {vars ops table marks₀ waiting marks : List ℕ} {i : ℕ} (g : Started vars ops table marks₀ waiting marks i) where
  pub more : {waiting' marks' : List ℕ} (w : ℕ) → i < length vars → w ≡ waits vars ops table i → Put waiting marks i w waiting' marks'
      → Started vars ops table marks₀ waiting' marks' (i + 1)
  more {waiting'} {marks'} w h e p =
      let inside : i < length waiting = omega (arith, g.long) in
      let at : (j : ℕ) → ((j ≡ i) × (get_or waiting' j 0 ≡ w)) ⊎ ((j ≡ i → ⊥) × (get_or waiting' j 0 ≡ get_or waiting j 0)) =
      λ j. rw p.count (get_d_set waiting i w j inside) in
      record {
        same = p.grown.long ∙ g.same;
        past = omega arith;
        long = ap length p.count ∙ length-set waiting i w ∙ g.long;
        blocks = omega (arith, g.blocks, p.grown.long);
        counts = λ j l.
            ⊎_elim (λ q. q.1 ∙ e ∙ ap (waits vars ops table) (sym q.0))
            (λ q. q.1 ∙ g.counts j (other j l q.0)) (at j);
        marked = λ j l z.
            ⊎_elim {C = 0 < get_or marks' (j / 64) 0}
            (λ q. subst (λ (k : ℕ). 0 < get_or marks' (k / 64) 0) (sym q.0) (p.mark (sym q.1 ∙ z)))
            (λ q. p.grown.kept (j / 64) (g.marked j (other j l q.0) (sym q.1 ∙ z))) (at j);
      }
    where
      other : (j : ℕ) → j < i + 1 → (j ≡ i → ⊥) → j < i
      other j l n = omega arith

  pub end : length vars ≤ i → Waiting vars ops table waiting marks
  end h =
      record {
        long = g.long;
        blocks = g.blocks;
        counts = λ j l. g.counts j (omega arith);
        marked = λ j l. g.marked j (omega (arith, g.long));
      }
