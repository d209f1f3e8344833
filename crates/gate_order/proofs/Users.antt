-- Laws of counting anew what the gates wait for that use a variable, from its last slot to its first. Assumes nothing.
use mathlib.Core.Path.{◌≡◌, refl, sym, ap, ◌∙◌, subst}
use mathlib.Core.Bool.{Bool}
use mathlib.Core.List.{List}
use mathlib.Core.Logic.{◌⊎◌, ⊎_elim}
use mathlib.Core.Option.{Option, none, some}
use Prim.Native.Nat.{ℕ, suc, ◌+◌, ◌-◌, ◌*◌, ◌/◌, ◌≤◌, ◌<◌}
use native.Mathlib.Decide.{dec_lt}
use native.Mathlib.Omega.{arith}
use borrow.Author.Tests.{eq-eqb}
use lib.Dec.{T, eqb, eqb→eq}
use lib.ListN.{length, get_or, set, length-set}
use Rattle.aiger.specs.Lists.{last_below}
use Rattle.aiger.proofs.Tests.{T_true}
use Rattle.meaning.proofs.Lists.{get_d_set}
use Rattle.gate_order.specs.Waiting.{waits, uses, link, Users, Waiting, Put, Gates, Awaits, Stale}
use Rattle.gate_order.proofs.Links.{Last, last-below}

-- a linked slot stands before
pub smaller : (p : ℕ → Bool) (s : ℕ) → link (last_below p s) ≤ s
smaller p s = go (last_below p s) (last-below p s)
  where
    go : (o : Option ℕ) → Last p s o → link o ≤ s
    go none l = omega arith
    go (some x) l = omega (arith, l.0)

-- what is counted anew, and the slot that is next
pub record Refreshing (vars ops table : List ℕ) (v : ℕ) (marks₀ waiting marks : List ℕ) (cur : ℕ) : Type 0 where
  pub n : ℕ
  pub low : n ≤ length ops
  pub next : cur ≡ link (last_below (uses ops v) n)
  pub same : length marks ≡ length marks₀
  pub stale : Stale vars ops table v n waiting marks

pub start : (vars ops table : List ℕ) (v cur : ℕ) (waiting marks : List ℕ) → cur ≡ link (last_below (uses ops v) (length ops))
    → Stale vars ops table v (length ops) waiting marks → Refreshing vars ops table v marks waiting marks cur
start vars ops table v cur waiting marks e s = record { n = length ops; low = omega arith; next = e; same = refl; stale = s }

module _ {vars ops table : List ℕ} {v : ℕ} {marks₀ waiting marks : List ℕ} {cur : ℕ} (g : Refreshing vars ops table v marks₀ waiting marks cur) where
  -- the slot that is next
  pub record Slot (s : ℕ) : Type 0 where
    pub inside : s < g.n
    pub here : get_or ops s 0 ≡ v
    pub last : (x : ℕ) → s < x → x < g.n → get_or ops x 0 ≡ v → ⊥

  pub slot : 0 < cur → Slot (cur - 1)
  slot h = go (last_below (uses ops v) g.n) g.next (last-below (uses ops v) g.n)
    where
      go : (o : Option ℕ) → cur ≡ link o → Last (uses ops v) g.n o → Slot (cur - 1)
      go none e l = absurd (omega arith)
      go (some s) e l =
          let q : cur - 1 ≡ s = omega arith in
          subst Slot (sym q)
          (record {
            inside = l.0;
            here = eqb→eq (get_or ops s 0) v l.1;
            last = λ x a b u. l.2 x a b (T_true (eq-eqb (get_or ops x 0) v u));
          })

  module _ (s : ℕ) (o : Slot s) (pairs : length ops ≡ 2 * length vars) where
    pub gate-inside : s / 2 < length vars
    gate-inside = omega (arith, o.inside, g.low)

    -- a slot of another gate is as it was
    not_last : (x : ℕ) → (x / 2 ≡ s / 2 → ⊥) → (Awaits ops v s x → ⊥) → Awaits ops v g.n x → ⊥
    not_last x d f a = elim (dec_lt x s) [
      | yes k ↦ f (a.0, k)
      | no k ↦ o.last x (above x d k) a.1 a.0
    ]
      where
        above : (x : ℕ) → (x / 2 ≡ s / 2 → ⊥) → (x < s → ⊥) → s < x
        above x d k = omega arith

    pub more : {waiting' marks' : List ℕ} → Put waiting marks (s / 2) (waits vars ops table (s / 2)) waiting' marks'
        → (cur' : ℕ) → cur' ≡ link (last_below (uses ops (get_or ops s 0)) s) → Refreshing vars ops table v marks₀ waiting' marks' cur'
    more {waiting'} {marks'} p cur' e =
        let st = g.stale in
        let w = waits vars ops table (s / 2) in
        let inside : s / 2 < length waiting = omega (arith, gate-inside, st.long) in
        let at : (i : ℕ) → ((i ≡ s / 2) × (get_or waiting' i 0 ≡ w)) ⊎ ((i ≡ s / 2 → ⊥) × (get_or waiting' i 0 ≡ get_or waiting i 0)) =
        λ i. rw p.count (get_d_set waiting (s / 2) w i inside) in
        let long' : length waiting' ≡ length vars = ap length p.count ∙ length-set waiting (s / 2) w ∙ st.long in
        record {
          n = s;
          low = omega (arith, o.inside, g.low);
          next = e ∙ ap (λ (u : ℕ). link (last_below (uses ops u) s)) o.here;
          same = p.grown.long ∙ g.same;
          stale = record {
            long = long';
            blocks = omega (arith, st.blocks, p.grown.long);
            counts = λ i l a b.
                ⊎_elim (λ q. q.1 ∙ ap (waits vars ops table) (sym q.0))
                (λ q. q.1 ∙ st.counts i l (not_last (2 * i) (left i q.0) a) (not_last (2 * i + 1) (right i q.0) b)) (at i);
            marked = λ i l z.
                ⊎_elim {C = 0 < get_or marks' (i / 64) 0}
                (λ q. subst (λ (k : ℕ). 0 < get_or marks' (k / 64) 0) (sym q.0) (p.mark (sym q.1 ∙ z)))
                (λ q. p.grown.kept (i / 64) (st.marked i (omega (arith, st.long)) (sym q.1 ∙ z))) (at i);
          };
        }
      where
        left : (i : ℕ) → (i ≡ s / 2 → ⊥) → 2 * i / 2 ≡ s / 2 → ⊥
        left i d e = d (omega arith)

        right : (i : ℕ) → (i ≡ s / 2 → ⊥) → (2 * i + 1) / 2 ≡ s / 2 → ⊥
        right i d e = d (omega arith)

  -- no slot is left
  pub end : cur ≤ 0 → Waiting vars ops table waiting marks
  end h =
      let st = g.stale in
      let none_left : (s : ℕ) → Awaits ops v g.n s → ⊥ = λ s a. go (last_below (uses ops v) g.n) g.next (last-below (uses ops v) g.n) s a in
      record {
        long = st.long;
        blocks = st.blocks;
        counts = λ i l. st.counts i l (none_left (2 * i)) (none_left (2 * i + 1));
        marked = st.marked;
      }
    where
      go : (o : Option ℕ) → cur ≡ link o → Last (uses ops v) g.n o → (s : ℕ) → Awaits ops v g.n s → ⊥
      go none e l s a = l s a.1 (T_true (eq-eqb (get_or ops s 0) v a.0))
      go (some x) e l s a = omega arith
