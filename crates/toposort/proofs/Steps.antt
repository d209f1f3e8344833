-- The steps of the depth-first search keep its invariant. Assumes nothing.
use Prim.Native.Nat.{ℕ, zero, suc, ◌+◌, ◌-◌, ◌<◌, ◌≤◌}
use mathlib.Core.Path.{◌≡◌, refl, sym, ap, ◌∙◌, subst}
use mathlib.Core.List.{List}
use mathlib.Core.Logic.{◌⊎◌, ⊎_elim}
use native.Mathlib.Omega.{arith}
use native.Mathlib.Decide.{dec_le}
use borrow.Author.Tests.{eq-eqb, ne_eqb}
use lib.Dec.{eqb}
use lib.ListN.{length, get_or, set}
use lib.Seq.{get_or-set_same, get_or-set_other}
use Rattle.toposort.specs.Gates.{Edge, Reach, one, more, InOrder, Cyclic}
use Rattle.toposort.specs.DepthFirst.{fresh, State, one-if}
use Rattle.meaning.proofs.Lists.{get_d_set}

at : (l : List ℕ) {a b : ℕ} → a ≡ b → get_or l a 0 ≡ get_or l b 0
at l e = ap (λ (z : ℕ). get_or l z 0) e

-- ---- how many gates are not met

white : (a : ℕ) → a ≡ 0 → one-if (eqb a 0) ≡ 1
white a e = rw (eq-eqb a 0 e)

met : (a : ℕ) → (a ≡ 0 → ⊥) → one-if (eqb a 0) ≡ 0
met a e = rw (ne_eqb a 0 e)

fresh-past : (m : ℕ) (p : List ℕ) (i v : ℕ) → m ≤ i → fresh m (set p i v) ≡ fresh m p
unfolding fresh
fresh-past zero p i v h = refl
fresh-past (suc m) p i v h = rw (get_or-set_other p i m v 0 (omega arith), fresh-past m p i v (omega arith))

pub fresh-less : (m : ℕ) (p : List ℕ) (i v : ℕ) → i < m → i < length p → get_or p i 0 ≡ 0 → (v ≡ 0 → ⊥) → fresh m (set p i v) + 1 ≡ fresh m p
unfolding fresh
fresh-less zero p i v h l z n = omega arith
fresh-less (suc m) p i v h l z n =
    ⊎_elim
    (λ r.
    let here = met (get_or (set p i v) m 0) (λ e. n (sym r.1 ∙ e)) in
    omega (arith, white (get_or p m 0) (at p r.0 ∙ z), fresh-past m p i v (omega (arith, r.0))))
    (λ r. omega (arith, ap (λ (a : ℕ). one-if (eqb a 0)) r.1, fresh-less m p i v (omega (arith, r.0)) l z n))
    (get_d_set p i v m l)

pub fresh_keep : (m : ℕ) (p : List ℕ) (i v : ℕ) → i < length p → (get_or p i 0 ≡ 0 → ⊥) → (v ≡ 0 → ⊥) → fresh m (set p i v) ≡ fresh m p
unfolding fresh
fresh_keep zero p i v l z n = refl
fresh_keep (suc m) p i v l z n =
    ⊎_elim
    (λ r.
    let here = met (get_or (set p i v) m 0) (λ e. n (sym r.1 ∙ e)) in
    omega (arith, met (get_or p m 0) (λ e. z (sym (at p r.0) ∙ e)), fresh_keep m p i v l z n))
    (λ r. omega (arith, ap (λ (a : ℕ). one-if (eqb a 0)) r.1, fresh_keep m p i v l z n))
    (get_d_set p i v m l)

pub fresh-all : (m : ℕ) (p : List ℕ) → ((g : ℕ) → g < m → get_or p g 0 ≡ 0) → fresh m p ≡ m
unfolding fresh
fresh-all zero p h = refl
fresh-all (suc m) p h = omega (arith, white (get_or p m 0) (h m (omega arith)), fresh-all m p (λ g l. h g (omega arith)))

pub fresh-none : (m : ℕ) (p : List ℕ) → ((g : ℕ) → g < m → get_or p g 0 ≡ 0 → ⊥) → fresh m p ≡ 0
unfolding fresh
fresh-none zero p h = refl
fresh-none (suc m) p h = omega (arith, met (get_or p m 0) (h m (omega arith)), fresh-none m p (λ g l. h g (omega arith)))

-- ---- a gate goes on the stack

module _ (lits : List ℕ) (m : ℕ) (pos order stack : List ℕ) (sp done : ℕ) (S : State lits m pos order stack sp done)
    (lp : m ≤ length pos) (ls : m ≤ length stack) (h : ℕ) (hm : h < m) (new : get_or pos h 0 ≡ 0) where
  pub room : done + sp < m
  room = omega (arith, fresh-less m pos h 1 hm (omega arith) new (λ e. omega arith), S.count)

  module _ (edge : (k : ℕ) → k + 1 ≡ sp → Edge lits m (get_or stack k 0) h) where
    abbrev P : List ℕ
    P = set pos h (m + 1 + sp)

    abbrev K : List ℕ
    K = set stack sp h

    at-pos : (j : ℕ) → ((j ≡ h) × (get_or P j 0 ≡ m + 1 + sp)) ⊎ ((j ≡ h → ⊥) × (get_or P j 0 ≡ get_or pos j 0))
    at-pos j = get_d_set pos h (m + 1 + sp) j (omega arith)

    at-stack : (j : ℕ) → ((j ≡ sp) × (get_or K j 0 ≡ h)) ⊎ ((j ≡ sp → ⊥) × (get_or K j 0 ≡ get_or stack j 0))
    at-stack j = get_d_set stack sp h j (omega (arith, room))

    there' : (k : ℕ) → k < done → get_or P (get_or order k 0) 0 ≡ k + 1
    there' k l =
        ⊎_elim (λ r. omega (arith, at pos r.0, S.there k l)) (λ r. omega (arith, S.there k l)) (at-pos (get_or order k 0))

    back' : (g : ℕ) → g < m → 0 < get_or P g 0 → get_or P g 0 ≤ m → (get_or P g 0 ≤ done) × (get_or order (get_or P g 0 - 1) 0 ≡ g)
    back' g gm a b =
        ⊎_elim (λ r. omega arith) (λ r. rw r.1 (S.back g gm (omega arith) (omega arith))) (at-pos g)

    before' : (g x : ℕ) → g < m → 0 < get_or P g 0 → get_or P g 0 ≤ m → Edge lits m g x → (0 < get_or P x 0) × (get_or P x 0 < get_or P g 0)
    before' g x gm a b e =
        ⊎_elim (λ r. omega arith)
        (λ r.
        let q = S.before g x gm (omega arith) (omega arith) e in
        ⊎_elim (λ t. omega (arith, at pos t.0)) (λ t. omega arith) (at-pos x))
        (at-pos g)

    on-gate' : (k : ℕ) → k < sp + 1 → get_or K k 0 < m
    on-gate' k l = ⊎_elim (λ r. omega arith) (λ r. omega (arith, S.on-gate k (omega (arith, r.0)))) (at-stack k)

    on-there' : (k : ℕ) → k < sp + 1 → get_or P (get_or K k 0) 0 ≡ m + 1 + k
    on-there' k l =
        ⊎_elim
        (λ r. rw r.1 (get_or-set_same pos h (m + 1 + sp) 0 (omega arith) ∙ omega arith))
        (λ r.
        let q = S.on-there k (omega (arith, r.0)) in
        rw r.1 (⊎_elim (λ t. omega (arith, at pos t.0)) (λ t. t.1 ∙ q) (at-pos (get_or stack k 0))))
        (at-stack k)

    on-back' : (g : ℕ) → g < m → m < get_or P g 0 → (get_or P g 0 < m + 1 + (sp + 1)) × (get_or K (get_or P g 0 - (m + 1)) 0 ≡ g)
    on-back' g gm a =
        ⊎_elim
        (λ r.
        let z : get_or P g 0 - (m + 1) ≡ sp = omega arith in
        (omega arith, rw z (get_or-set_same stack sp h 0 (omega (arith, room)) ∙ sym r.0)))
        (λ r.
        let q = S.on-back g gm (omega arith) in
        (omega arith, rw r.1 (⊎_elim (λ t. omega arith) (λ t. t.1 ∙ q.1) (at-stack (get_or pos g 0 - (m + 1))))))
        (at-pos g)

    path' : (k : ℕ) → k + 1 < sp + 1 → Edge lits m (get_or K k 0) (get_or K (k + 1) 0)
    path' k l =
        ⊎_elim (λ r. absurd (omega (arith, r.0)))
        (λ r. rw r.1 (⊎_elim (λ t. rw t.1 (edge k t.0)) (λ t. rw t.1 (S.path k (omega (arith, t.0)))) (at-stack (k + 1))))
        (at-stack k)

    pub pushed : State lits m (set pos h (m + 1 + sp)) order (set stack sp h) (sp + 1) done
    pushed =
        record {
          count = omega (arith, fresh-less m pos h (m + 1 + sp) hm (omega arith) new (λ e. omega arith), S.count);
          gate = S.gate;
          there = there';
          back = back';
          before = before';
          on-gate = on-gate';
          on-there = on-there';
          on-back = on-back';
          path = path';
        }

-- ---- the gate on top goes to the order

module _ (lits : List ℕ) (m : ℕ) (pos order stack : List ℕ) (sp done : ℕ) (S : State lits m pos order stack sp done)
    (lp : m ≤ length pos) (lo : m ≤ length order) (some : 0 < sp) (g : ℕ) (top : get_or stack (sp - 1) 0 ≡ g)
    (ready : (h : ℕ) → Edge lits m g h → (0 < get_or pos h 0) × (get_or pos h 0 ≤ m)) where
  pub gm : g < m
  gm = omega (arith, S.on-gate (sp - 1) (omega arith))

  pub gp : get_or pos g 0 ≡ m + sp
  gp = omega (arith, at pos top, S.on-there (sp - 1) (omega arith))

  pub place-room : done < m
  place-room = omega (arith, S.count)

  abbrev P₂ : List ℕ
  P₂ = set pos g (done + 1)

  abbrev O : List ℕ
  O = set order done g

  at-pos₂ : (j : ℕ) → ((j ≡ g) × (get_or P₂ j 0 ≡ done + 1)) ⊎ ((j ≡ g → ⊥) × (get_or P₂ j 0 ≡ get_or pos j 0))
  at-pos₂ j = get_d_set pos g (done + 1) j (omega (arith, gm))

  at-order : (j : ℕ) → ((j ≡ done) × (get_or O j 0 ≡ g)) ⊎ ((j ≡ done → ⊥) × (get_or O j 0 ≡ get_or order j 0))
  at-order j = get_d_set order done g j (omega (arith, place-room))

  gate₂ : (k : ℕ) → k < done + 1 → get_or O k 0 < m
  gate₂ k l = ⊎_elim (λ r. omega (arith, gm)) (λ r. omega (arith, S.gate k (omega (arith, r.0)))) (at-order k)

  there₂ : (k : ℕ) → k < done + 1 → get_or P₂ (get_or O k 0) 0 ≡ k + 1
  there₂ k l =
      ⊎_elim
      (λ r. rw r.1 (get_or-set_same pos g (done + 1) 0 (omega (arith, gm)) ∙ omega arith))
      (λ r.
      let q = S.there k (omega (arith, r.0)) in
      rw r.1 (⊎_elim (λ t. omega (arith, at pos t.0, gp, place-room)) (λ t. t.1 ∙ q) (at-pos₂ (get_or order k 0))))
      (at-order k)

  back₂ : (x : ℕ) → x < m → 0 < get_or P₂ x 0 → get_or P₂ x 0 ≤ m → (get_or P₂ x 0 ≤ done + 1) × (get_or O (get_or P₂ x 0 - 1) 0 ≡ x)
  back₂ x xm a b =
      ⊎_elim
      (λ r.
      let z : get_or P₂ x 0 - 1 ≡ done = omega arith in
      (omega arith, rw z (get_or-set_same order done g 0 (omega (arith, place-room)) ∙ sym r.0)))
      (λ r.
      let q = S.back x xm (omega arith) (omega arith) in
      (omega arith, rw r.1 (⊎_elim (λ t. omega arith) (λ t. t.1 ∙ q.1) (at-order (get_or pos x 0 - 1)))))
      (at-pos₂ x)

  before₂ : (x y : ℕ) → x < m → 0 < get_or P₂ x 0 → get_or P₂ x 0 ≤ m → Edge lits m x y → (0 < get_or P₂ y 0) × (get_or P₂ y 0 < get_or P₂ x 0)
  before₂ x y xm a b e =
      ⊎_elim
      (λ r.
      let d = ready y (rw r.0 at e) in
      let q = S.back y e.0 d.0 d.1 in
      ⊎_elim (λ t. omega (arith, at pos t.0, gp)) (λ t. omega arith) (at-pos₂ y))
      (λ r.
      let q = S.before x y xm (omega arith) (omega arith) e in
      ⊎_elim (λ t. omega (arith, at pos t.0, gp)) (λ t. omega arith) (at-pos₂ y))
      (at-pos₂ x)

  on-there₂ : (k : ℕ) → k < sp - 1 → get_or P₂ (get_or stack k 0) 0 ≡ m + 1 + k
  on-there₂ k l =
      let q = S.on-there k (omega arith) in
      ⊎_elim (λ t. omega (arith, at pos t.0, gp)) (λ t. t.1 ∙ q) (at-pos₂ (get_or stack k 0))

  on-back₂ : (x : ℕ) → x < m → m < get_or P₂ x 0 → (get_or P₂ x 0 < m + 1 + (sp - 1)) × (get_or stack (get_or P₂ x 0 - (m + 1)) 0 ≡ x)
  on-back₂ x xm a =
      ⊎_elim
      (λ r. absurd (omega (arith, place-room)))
      (λ r.
      let q = S.on-back x xm (omega arith) in
      let ne : get_or pos x 0 ≡ m + sp → ⊥ =
      λ e.
      let z : get_or pos x 0 - (m + 1) ≡ sp - 1 = omega arith in
      r.0 (sym q.1 ∙ at stack z ∙ top)
      in
      (omega arith, rw r.1 q.1))
      (at-pos₂ x)

  pub placed : State lits m (set pos g (done + 1)) (set order done g) stack (sp - 1) (done + 1)
  placed =
      record {
        count = omega (arith, fresh_keep m pos g (done + 1) (omega (arith, gm)) (λ e. omega (arith, gp)) (λ e. omega arith), S.count);
        gate = gate₂;
        there = there₂;
        back = back₂;
        before = before₂;
        on-gate = λ k l. S.on-gate k (omega arith);
        on-there = on-there₂;
        on-back = on-back₂;
        path = λ k l. S.path k (omega arith);
      }

-- ---- the start, the end, and a cycle

pub start : (lits : List ℕ) (m : ℕ) (pos order stack : List ℕ) → ((g : ℕ) → g < m → get_or pos g 0 ≡ 0) → State lits m pos order stack 0 0
start lits m pos order stack z =
    record {
      count = omega (arith, fresh-all m pos z);
      gate = λ k l. absurd (omega arith);
      there = λ k l. absurd (omega arith);
      back = λ g gm a b. absurd (omega (arith, z g gm));
      before = λ g h gm a b e. absurd (omega (arith, z g gm));
      on-gate = λ k l. absurd (omega arith);
      on-there = λ k l. absurd (omega arith);
      on-back = λ g gm a. absurd (omega (arith, z g gm));
      path = λ k l. absurd (omega arith);
    }

pub finish : (lits : List ℕ) (m : ℕ) (pos order stack : List ℕ) (sp done : ℕ) → State lits m pos order stack sp done → sp ≡ 0
    → ((g : ℕ) → g < m → get_or pos g 0 ≡ 0 → ⊥) → InOrder lits m pos order
finish lits m pos order stack sp done S z all =
    let full : done ≡ m = omega (arith, S.count, fresh-none m pos all) in
    let within : (g : ℕ) → g < m → (0 < get_or pos g 0) × (get_or pos g 0 ≤ m) =
    λ g gm. go g gm (dec_le (get_or pos g 0) m)
    in
    record {
      gate = λ k l. S.gate k (omega arith);
      there = λ k l. S.there k (omega arith);
      placed = within;
      back = λ g gm. (S.back g gm (within g gm).0 (within g gm).1).1;
      before = λ g h gm e. (S.before g h gm (within g gm).0 (within g gm).1 e).1;
    }
  where
    go : (g : ℕ) → g < m → Dec (get_or pos g 0 ≤ m) → (0 < get_or pos g 0) × (get_or pos g 0 ≤ m)
    go g gm (yes l) = let n = all g gm in (omega arith, l)
    go g gm (no l) = let q = S.on-back g gm (omega arith) in absurd (omega arith)

-- the stack from place k up to its top, and then an edge
along : (lits : List ℕ) (m : ℕ) (stack : List ℕ) (sp k d x : ℕ)
    → ((j : ℕ) → j + 1 < sp → Edge lits m (get_or stack j 0) (get_or stack (j + 1) 0)) → k + d < sp → Edge lits m (get_or stack (k + d) 0) x
    → Reach lits m (get_or stack k 0) x
along lits m stack sp k zero x path l e =
    let z : k + 0 ≡ k = omega arith in
    one (rw z at e)
along lits m stack sp k (suc d) x path l e =
    let z : k + suc d ≡ k + d + 1 = omega arith in
    more (along lits m stack sp k d (get_or stack (k + suc d) 0) path (omega arith) (rw z (path (k + d) (omega arith)))) e

pub cycle : (lits : List ℕ) (m : ℕ) (pos order stack : List ℕ) (sp done : ℕ) → State lits m pos order stack sp done → 0 < sp → (h : ℕ)
    → Edge lits m (get_or stack (sp - 1) 0) h → m < get_or pos h 0 → Cyclic lits m
cycle lits m pos order stack sp done S some h e grey =
    let q = S.on-back h e.0 grey in
    let k : ℕ = get_or pos h 0 - (m + 1) in
    let z : k + (sp - 1 - k) ≡ sp - 1 = omega arith in
    (h, e.0, subst (λ (y : ℕ). Reach lits m y h) q.1 (along lits m stack sp k (sp - 1 - k) h S.path (omega arith) (rw z e)))
