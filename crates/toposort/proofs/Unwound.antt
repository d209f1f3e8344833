-- The gates that are placed, with those that the stack still has to place: each step of the search leaves the same list. Assumes nothing.
use mathlib.Core.Path.{◌≡◌, refl, sym, ap, ap₂, ◌∙◌, subst}
use mathlib.Core.Bool.{Bool, true, false, cond, ◌||◌}
use mathlib.Core.Logic.{◌⊎◌, ⊎_elim}
use mathlib.Core.List.{List, [], ◌∷◌, ◌++◌}
use mathlib.Core.Option.{Option, none, some}
use Prim.Native.Nat.{ℕ, zero, suc, ◌+◌, ◌-◌, ◌<◌, ◌≤◌}
use native.Mathlib.Numerals.{add-one}
use native.Mathlib.Decide.{dec_le}
use native.Mathlib.Omega.{arith}
use lib.Dec.{T, eqb}
use lib.ListN.{length, get_or, set, take, length-take}
use lib.Seq.{get_or-set_same, get_or-set_other, get_or-take, take-suc-set}
use Rattle.aiger.specs.Lists.{member}
use Rattle.aiger.proofs.Tests.{true-T, T_true}
use Rattle.meaning.proofs.Lists.{member-mem, mem-at, member-in, eqb_of, or_left, or_right}
use Rattle.layout.specs.Order.{ensured, completed, placed_from}
use Rattle.toposort.proofs.Steps.{fresh-none}
use Rattle.toposort.specs.DepthFirst.{State, Search, Placed-at, Settled, Next, unwound, Continues}
use Rattle.toposort.specs.declared.Visit.TheVariants.{Fresh, Done}
use Rattle.toposort.specs.declared.Step.TheVariants.{Deeper, Placed}

-- ---- members

member-last : (l : List ℕ) (g : ℕ) → T (member g (l ++ (g ∷ [])))
member-last [] g = or_left (eqb g g) false (eqb_of {a = g} refl)
member-last (x ∷ l) g = or_right (eqb g x) (member g (l ++ (g ∷ []))) (member-last l g)

member-before : (l k : List ℕ) (x : ℕ) → T (member x l) → T (member x (l ++ k))
member-before [] k x t = absurd t
member-before (y ∷ l) k x t = go (eqb x y) (member-before l k x) t
  where
    go : (b : Bool) → (T (member x l) → T (member x (l ++ k))) → T (b || member x l) → T (b || member x (l ++ k))
    go true r t = tt
    go false r t = r t

member-false : (x : ℕ) (l : List ℕ) → (T (member x l) → ⊥) → member x l ≡ false
member-false x l h = go (member x l) h
  where
    go : (b : Bool) → (T b → ⊥) → b ≡ false
    go true h = absurd (h tt)
    go false h = refl

-- the gate that is named, if one is, is among those that are placed
abbrev pub There : List ℕ → Option ℕ → Type 0
There placed none = Unit {0}
There placed (some h) = T (member h placed)

-- ---- completed gates

module _ (left right : ℕ → Option ℕ) where
  ensured-there : (o : Option ℕ) (f : List ℕ → ℕ → List ℕ) (placed : List ℕ) → There placed o → ensured o f placed ≡ placed
  ensured-there none f placed t = refl
  ensured-there (some h) f placed t = ap (λ (b : Bool). cond b placed (f placed h)) (true-T (member h placed) t)

  ensured-new : (h : ℕ) (f : List ℕ → ℕ → List ℕ) (placed : List ℕ) → (T (member h placed) → ⊥) → ensured (some h) f placed ≡ f placed h
  ensured-new h f placed n = ap (λ (b : Bool). cond b placed (f placed h)) (member-false h placed n)

  -- what is placed stays placed
  ensured-keeps : (o : Option ℕ) (f : List ℕ → ℕ → List ℕ) (placed : List ℕ) (x : ℕ) → ((g : ℕ) → T (member x (f placed g))) → T (member x placed)
      → T (member x (ensured o f placed))
  ensured-keeps none f placed x k t = t
  ensured-keeps (some h) f placed x k t = go (member h placed)
    where
      go : (b : Bool) → T (member x (cond b placed (f placed h)))
      go true = t
      go false = k h

  pub completed-keeps : (n : ℕ) (placed : List ℕ) (g x : ℕ) → T (member x placed) → T (member x (completed left right n placed g))
  unfolding completed
  completed-keeps zero placed g x t = t
  completed-keeps (suc n) placed g x t =
      let first : List ℕ = ensured (left g) (completed left right n) placed in
      let t₁ : T (member x first) = ensured-keeps (left g) (completed left right n) placed x (λ h. completed-keeps n placed h x t) t in
      member-before (ensured (right g) (completed left right n) first) (g ∷ []) x
      (ensured-keeps (right g) (completed left right n) first x (λ h. completed-keeps n first h x t₁) t₁)

  pub completed-has : (n : ℕ) (placed : List ℕ) (g : ℕ) → T (member g (completed left right (suc n) placed g))
  unfolding completed
  completed-has n placed g = member-last (ensured (right g) (completed left right n) (ensured (left g) (completed left right n) placed)) g

  there-keeps : (n : ℕ) (placed : List ℕ) (g : ℕ) (o : Option ℕ) → There placed o → There (completed left right n placed g) o
  there-keeps n placed g none t = tt
  there-keeps n placed g (some h) t = completed-keeps n placed g h t

  -- both operands' gates are placed
  pub completed-ready : (n : ℕ) (placed : List ℕ) (g : ℕ) → There placed (left g) → There placed (right g)
      → completed left right (suc n) placed g ≡ placed ++ (g ∷ [])
  unfolding completed
  completed-ready n placed g a b =
      ap (λ (l : List ℕ). ensured (right g) (completed left right n) l ++ (g ∷ [])) (ensured-there (left g) (completed left right n) placed a)
      ∙ ap (λ (l : List ℕ). l ++ (g ∷ [])) (ensured-there (right g) (completed left right n) placed b)

  -- an operand's gate may be completed first
  pub completed-left : (n : ℕ) (placed : List ℕ) (g h : ℕ) → left g ≡ some h → (T (member h placed) → ⊥)
      → completed left right (suc (suc n)) (completed left right (suc n) placed h) g ≡ completed left right (suc (suc n)) placed g
  unfolding completed
  completed-left n placed g h e new =
      let f : List ℕ → ℕ → List ℕ = completed left right (suc n) in
      let q : ensured (left g) f (f placed h) ≡ ensured (left g) f placed =
      ap (λ (o : Option ℕ). ensured o f (f placed h)) e ∙ ensured-there (some h) f (f placed h) (completed-has n placed h)
      ∙ sym (ap (λ (o : Option ℕ). ensured o f placed) e ∙ ensured-new h f placed new) in
      ap (λ (l : List ℕ). ensured (right g) f l ++ (g ∷ [])) q

  pub completed-right : (n : ℕ) (placed : List ℕ) (g h : ℕ) → There placed (left g) → right g ≡ some h → (T (member h placed) → ⊥)
      → completed left right (suc (suc n)) (completed left right (suc n) placed h) g ≡ completed left right (suc (suc n)) placed g
  unfolding completed
  completed-right n placed g h t e new =
      let f : List ℕ → ℕ → List ℕ = completed left right (suc n) in
      let a : ensured (left g) f (f placed h) ≡ f placed h = ensured-there (left g) f (f placed h) (there-keeps (suc n) placed h (left g) t) in
      let b : ensured (left g) f placed ≡ placed = ensured-there (left g) f placed t in
      let q : ensured (right g) f (f placed h) ≡ ensured (right g) f placed =
      ap (λ (o : Option ℕ). ensured o f (f placed h)) e ∙ ensured-there (some h) f (f placed h) (completed-has n placed h)
      ∙ sym (ap (λ (o : Option ℕ). ensured o f placed) e ∙ ensured-new h f placed new) in
      ap (λ (l : List ℕ). ensured (right g) f l ++ (g ∷ [])) a ∙ ap (λ (l : List ℕ). l ++ (g ∷ [])) q
      ∙ sym (ap (λ (l : List ℕ). ensured (right g) f l ++ (g ∷ [])) b)

  -- ---- the gates from s on

  pub from-there : (m s k : ℕ) (placed : List ℕ) → T (member s placed) → placed_from left right m s (suc k) placed ≡ placed_from left right m (suc s) k placed
  unfolding placed_from
  from-there m s k placed t = ap (placed_from left right m (suc s) k) (ensured-there (some s) (completed left right m) placed t)

  pub from-new : (m s k : ℕ) (placed : List ℕ) → (T (member s placed) → ⊥)
      → placed_from left right (suc m) s (suc k) (completed left right (suc m) placed s) ≡ placed_from left right (suc m) s (suc k) placed
  unfolding placed_from
  from-new m s k placed n =
      let f : List ℕ → ℕ → List ℕ = completed left right (suc m) in
      ap (placed_from left right (suc m) (suc s) k)
      (ensured-there (some s) f (f placed s) (completed-has m placed s) ∙ sym (ensured-new s f placed n))

  -- ---- the stack

  pub unwound-eq : (m : ℕ) (stack other : List ℕ) (k : ℕ) (placed : List ℕ) → ((j : ℕ) → j < k → get_or other j 0 ≡ get_or stack j 0)
      → unwound left right m other k placed ≡ unwound left right m stack k placed
  unfolding unwound
  unwound-eq m stack other zero placed h = refl
  unwound-eq m stack other (suc k) placed h =
      unwound-eq m stack other k (completed left right (m - k) placed (get_or other k 0)) (λ j l. h j (omega arith))
      ∙ ap (λ (g : ℕ). unwound left right m stack k (completed left right (m - k) placed g)) (h k (omega arith))

-- ---- the search

module _ (left right : ℕ → Option ℕ) (lits : List ℕ) (m : ℕ) (pos order stack : List ℕ) (sp done : ℕ) (S : State lits m pos order stack sp done)
    (lo : m ≤ length order) (ls : m ≤ length stack) where
  -- the gates in the order, and no others, are placed
  placed-there : (h : ℕ) → h < m → Placed-at m pos h → T (member h (take done order))
  placed-there h l p =
      let b = S.back h l p.0 p.1 in
      let k : ℕ = get_or pos h 0 - 1 in
      let q : get_or (take done order) k 0 ≡ h = get_or-take done order k 0 (omega arith) ∙ b.1 in
      subst (λ (x : ℕ). T (member x (take done order))) q
      (member-in (take done order) k 0 (simp length-take (omega (arith, S.count))))

  settled-there : (o : Option ℕ) → Settled m pos o → There (take done order) o
  settled-there none t = tt
  settled-there (some h) t = placed-there h t.0 t.1

  fresh-absent : (h : ℕ) → get_or pos h 0 ≡ 0 → T (member h (take done order)) → ⊥
  fresh-absent h z t =
      let r = mem-at 0 (member-mem h (take done order) t) in
      let l : r.0 < done = omega (arith, simp length-take at r.1) in
      let q : get_or order r.0 0 ≡ h = sym (get_or-take done order r.0 0 l) ∙ r.2 in
      omega (arith, ap (λ (x : ℕ). get_or pos x 0) q, S.there r.0 l)

  -- the top gate, at place k of the stack
  module _ (k : ℕ) (top : sp ≡ suc k) where
    abbrev D : List ℕ
    D = take done order

    deeper-at : (h : ℕ) → sp < m → get_or pos h 0 ≡ 0 → Next m pos (left (get_or stack k 0)) (right (get_or stack k 0)) (Fresh h)
        → unwound left right m (set stack (suc k) h) (suc (suc k)) D ≡ unwound left right m stack (suc k) D
    unfolding unwound
    deeper-at h room z next =
        let g : ℕ = get_or stack k 0 in
        let n : ℕ = m - sp - 1 in
        let e₁ : m - suc k ≡ suc n = omega arith in
        let e₂ : m - k ≡ suc (suc n) = omega arith in
        let first : unwound left right m (set stack (suc k) h) (suc k) (completed left right (m - suc k) D (get_or (set stack (suc k) h) (suc k) 0))
        ≡ unwound left right m stack (suc k) (completed left right (suc n) D h) =
        ap₂ (λ (i x : ℕ). unwound left right m (set stack (suc k) h) (suc k) (completed left right i D x)) e₁ (get_or-set_same stack (suc k) h 0 (omega arith))
        ∙ unwound-eq left right m stack (set stack (suc k) h) (suc k) (completed left right (suc n) D h)
        (λ j l. get_or-set_other stack (suc k) j h 0 (omega arith)) in
        let same : completed left right (suc (suc n)) (completed left right (suc n) D h) g ≡ completed left right (suc (suc n)) D g =
        ⊎_elim (λ q. completed-left left right n D g h q (fresh-absent h z))
        (λ q. completed-right left right n D g h (settled-there (left g) q.0) q.1 (fresh-absent h z)) next in
        first ∙ ap (λ (i : ℕ). unwound left right m stack k (completed left right i (completed left right (suc n) D h) g)) e₂
        ∙ ap (unwound left right m stack k) same ∙ sym (ap (λ (i : ℕ). unwound left right m stack k (completed left right i D g)) e₂)

    placed_at : done < m → k < m → Next m pos (left (get_or stack k 0)) (right (get_or stack k 0)) Done
        → unwound left right m stack k (take (suc done) (set order done (get_or stack k 0))) ≡ unwound left right m stack (suc k) D
    unfolding unwound
    placed_at room l next =
        let g : ℕ = get_or stack k 0 in
        let e : m - k ≡ suc (m - k - 1) = omega arith in
        ap (unwound left right m stack k) (take-suc-set order done g (omega arith))
        ∙ sym (ap (λ (i : ℕ). unwound left right m stack k (completed left right i D g)) e
        ∙ ap (unwound left right m stack k) (completed-ready left right (m - k - 1) D g (settled-there (left g) next.0) (settled-there (right g) next.1)))

  -- a gate goes on the stack
  pub continues-deeper : 0 < sp → (h : ℕ) → sp < m → get_or pos h 0 ≡ 0 → Next m pos (left (get_or stack (sp - 1) 0)) (right (get_or stack (sp - 1) 0)) (Fresh h)
      → Continues left right m order stack order (set stack sp h) sp done Deeper
  continues-deeper more h room z next =
      let e : sp ≡ suc (sp - 1) = omega arith in
      let f : sp + 1 ≡ suc (suc (sp - 1)) = omega arith in
      rw f
      (ap (λ (i : ℕ). unwound left right m (set stack i h) (suc (suc (sp - 1))) (take done order)) e ∙ deeper-at (sp - 1) e h room z next
      ∙ sym (ap (λ (i : ℕ). unwound left right m stack i (take done order)) e))

  -- the gate on top goes to the order
  pub continues-placed : 0 < sp → done < m → sp ≤ m → Next m pos (left (get_or stack (sp - 1) 0)) (right (get_or stack (sp - 1) 0)) Done
      → Continues left right m order stack (set order done (get_or stack (sp - 1) 0)) stack sp done Placed
  continues-placed more room l next =
      let e : sp ≡ suc (sp - 1) = omega arith in
      ap (λ (i : ℕ). unwound left right m stack (sp - 1) (take i (set order done (get_or stack (sp - 1) 0)))) (add-one done)
      ∙ placed_at (sp - 1) e room (omega arith) next ∙ sym (ap (λ (i : ℕ). unwound left right m stack i (take done order)) e)

  -- the search starts from gate s
  pub starts_from : (s : ℕ) → s < m → sp ≡ 0 → get_or pos s 0 ≡ 0
      → placed_from left right m s (m - s) (unwound left right m (set stack sp s) (sp + 1) (take done order))
      ≡ placed_from left right m s (m - s) (unwound left right m stack sp (take done order))
  unfolding unwound
  starts_from s l z new =
      let placed : List ℕ = take done order in
      let a : m - s ≡ suc (m - s - 1) = omega arith in
      let b : m ≡ suc (m - 1) = omega arith in
      let c : m - 0 ≡ m = omega arith in
      let d : 0 + 1 ≡ suc 0 = omega arith in
      let first : unwound left right m (set stack sp s) (sp + 1) placed ≡ completed left right m placed s =
      ap (λ (i : ℕ). unwound left right m (set stack i s) (i + 1) placed) z ∙ ap (λ (i : ℕ). unwound left right m (set stack 0 s) i placed) d
      ∙ ap₂ (λ (i x : ℕ). completed left right i placed x) c (get_or-set_same stack 0 s 0 (omega arith)) in
      let same : placed_from left right m s (m - s) (completed left right m placed s) ≡ placed_from left right m s (m - s) placed =
      subst (λ (k : ℕ). placed_from left right k s (m - s) (completed left right k placed s) ≡ placed_from left right k s (m - s) placed) (sym b)
      (subst (λ (j : ℕ). placed_from left right (suc (m - 1)) s j (completed left right (suc (m - 1)) placed s) ≡ placed_from left right (suc (m - 1)) s j placed) (sym a)
      (from-new left right (m - 1) s (m - s - 1) placed (fresh-absent s new))) in
      ap (placed_from left right m s (m - s)) first ∙ same
      ∙ sym (ap (λ (i : ℕ). placed_from left right m s (m - s) (unwound left right m stack i placed)) z)

  -- gate s is in the order already
  pub passes : (s : ℕ) → s < m → sp ≡ 0 → (get_or pos s 0 ≡ 0 → ⊥)
      → placed_from left right m (s + 1) (m - (s + 1)) (unwound left right m stack sp (take done order))
      ≡ placed_from left right m s (m - s) (unwound left right m stack sp (take done order))
  unfolding unwound
  passes s l z met =
      let placed : List ℕ = take done order in
      let a : m - s ≡ suc (m - (s + 1)) = omega arith in
      let there : T (member s placed) = placed-there s l (go (dec_le (get_or pos s 0) m)) in
      ap (λ (i : ℕ). placed_from left right m (s + 1) (m - (s + 1)) (unwound left right m stack i placed)) z
      ∙ ap (λ (i : ℕ). placed_from left right m i (m - (s + 1)) placed) (add-one s)
      ∙ sym (from-there left right m s (m - (s + 1)) placed there)
      ∙ sym (ap (λ (i : ℕ). placed_from left right m s i placed) a)
      ∙ sym (ap (λ (i : ℕ). placed_from left right m s (m - s) (unwound left right m stack i placed)) z)
    where
      go : Dec (get_or pos s 0 ≤ m) → Placed-at m pos s
      go (yes q) = (omega arith, q)
      go (no q) = let r = S.on-back s l (omega arith) in absurd (omega arith)

  -- all gates are placed
  pub all_placed : (s : ℕ) → s ≡ m → sp ≡ 0 → ((g : ℕ) → g < m → get_or pos g 0 ≡ 0 → ⊥)
      → take m order ≡ placed_from left right m s (m - s) (unwound left right m stack sp (take done order))
  unfolding unwound placed_from
  all_placed s e z all =
      let full : done ≡ m = omega (arith, S.count, fresh-none m pos all) in
      let a : m - s ≡ 0 = omega arith in
      sym (ap (λ (i : ℕ). placed_from left right m s i (unwound left right m stack sp (take done order))) a
      ∙ ap (λ (i : ℕ). unwound left right m stack i (take done order)) z ∙ ap (λ (i : ℕ). take i order) full)
