-- What looks at a gate's operands tell of its edges. Assumes nothing.
use mathlib.Core.Path.{◌≡◌, sym, ap, ◌∙◌, subst}
use mathlib.Core.List.{List}
use mathlib.Core.Logic.{inl, inr, ⊎_elim}
use mathlib.Core.Option.{Option, none, some}
use Prim.Native.Nat.{ℕ, ◌+◌, ◌-◌, ◌*◌, ◌/◌, ◌≤◌, ◌<◌}
use native.Mathlib.Decide.{dec_le}
use native.Mathlib.Omega.{arith}
use lib.ListN.{get_or}
use Rattle.toposort.specs.declared.Visit.{Visit}
use Rattle.toposort.specs.declared.Visit.TheVariants.{Fresh, Open, Done}
use Rattle.toposort.specs.DepthFirst.{Linked, Looked, OperandOf, Operands, Settled, Next, Placed-at}

pub look-done : (pos : List ℕ) (base m a : ℕ) → (get_or pos (a - base - 1) 0 ≡ 0 → ⊥) → get_or pos (a - base - 1) 0 ≤ m
    → (h : ℕ) → a ≡ base + h + 1 → Placed-at m pos h
look-done pos base m a z l h e =
    let k : h ≡ a - base - 1 = omega arith in
    rw k (omega arith)

-- a gate that a table's entry names, and that a look found to be in the order or none
settled : (base m : ℕ) (pos : List ℕ) (a : ℕ) (o : Option ℕ) → a ≤ base + m → ((h : ℕ) → a ≡ base + h + 1 → o ≡ some h) → (a ≤ base → o ≡ none)
    → ((h : ℕ) → a ≡ base + h + 1 → Placed-at m pos h) → Settled m pos o
settled base m pos a o b s n p = go (dec_le a base)
  where
    go : Dec (a ≤ base) → Settled m pos o
    go (yes z) = subst (Settled m pos) (sym (n z)) tt
    go (no z) = let h : ℕ = a - base - 1 in subst (Settled m pos) (sym (s h (omega arith))) (omega arith, p h (omega arith))

module _ (lits : List ℕ) (base m : ℕ) (table pos : List ℕ) (g : ℕ) (gm : g < m) (l : Linked lits base m table) where
  pub next-left : (h : ℕ) → Looked base m table pos (get_or lits (3 * g + 1) 0 / 2) (Fresh h) → (left right : ℕ → Option ℕ)
      → Operands lits base m table left right → Next m pos (left g) (right g) (Fresh h)
  next-left h x left right o = inl (o.left-some g h gm x.1)

  left-settled : Looked base m table pos (get_or lits (3 * g + 1) 0 / 2) Done → (left right : ℕ → Option ℕ)
      → Operands lits base m table left right → Settled m pos (left g)
  left-settled d left right o =
      let v : ℕ = get_or lits (3 * g + 1) 0 / 2 in
      settled base m pos (get_or table v 0) (left g) (l.bound v) (λ h. o.left-some g h gm) (o.left-none g gm) d

  right-settled : Looked base m table pos (get_or lits (3 * g + 2) 0 / 2) Done → (left right : ℕ → Option ℕ)
      → Operands lits base m table left right → Settled m pos (right g)
  right-settled d left right o =
      let v : ℕ = get_or lits (3 * g + 2) 0 / 2 in
      settled base m pos (get_or table v 0) (right g) (l.bound v) (λ h. o.right-some g h gm) (o.right-none g gm) d

  pub next-right : Looked base m table pos (get_or lits (3 * g + 1) 0 / 2) Done → (r : Visit) → Looked base m table pos (get_or lits (3 * g + 2) 0 / 2) r
      → (left right : ℕ → Option ℕ) → Operands lits base m table left right → Next m pos (left g) (right g) r
  next-right d (Fresh h) x left right o = inr (left-settled d left right o, o.right-some g h gm x.1)
  next-right d Open x left right o = tt
  next-right d Done x left right o = (left-settled d left right o, right-settled x left right o)

module _ (lits : List ℕ) (base m : ℕ) (table pos : List ℕ) (g : ℕ) (l : Linked lits base m table) where
  pub first-fresh : (h : ℕ) → Looked base m table pos (get_or lits (3 * g + 1) 0 / 2) (Fresh h) → OperandOf lits m pos g (Fresh h)
  first-fresh h x = ((x.0, inl (l.only _ h x.1)), x.2)

  pub first-open : Looked base m table pos (get_or lits (3 * g + 1) 0 / 2) Open → OperandOf lits m pos g Open
  first-open x = (x.0, (x.1, inl (l.only _ x.0 x.2)), x.3)

  pub second : Looked base m table pos (get_or lits (3 * g + 1) 0 / 2) Done
      → (r : Visit) → Looked base m table pos (get_or lits (3 * g + 2) 0 / 2) r → OperandOf lits m pos g r
  second d (Fresh h) x = ((x.0, inr (l.only _ h x.1)), x.2)
  second d Open x = (x.0, (x.1, inr (l.only _ x.0 x.2)), x.3)
  second d Done x =
      λ h e.
      ⊎_elim (λ q. d h (ap (λ (z : ℕ). get_or table z 0) (sym q) ∙ l.drives h e.0))
      (λ q. x h (ap (λ (z : ℕ). get_or table z 0) (sym q) ∙ l.drives h e.0)) e.1
