-- The search's invariant with its memory, and each way round its loop keeps it. Assumes nothing.
use mathlib.Core.Path.{◌≡◌, refl, sym, ◌∙◌}
use mathlib.Core.List.{List, []}
use mathlib.Core.Logic.{⊎_elim}
use mathlib.Core.Option.{Option}
use Prim.Native.Nat.{ℕ, ◌+◌, ◌-◌, ◌<◌, ◌≤◌}
use native.Mathlib.Omega.{arith}
use borrow.Author.Count.{below_more}
use lib.ListN.{length, get_or, set, take, length-set}
use Rattle.layout.specs.Order.{placed_from}
use Rattle.toposort.specs.Gates.{Edge, InOrder, Cyclic}
use Rattle.toposort.specs.DepthFirst.{Search, Stays, Placed-at, Operands, Next, unwound, Continues}
use Rattle.toposort.specs.declared.Visit.TheVariants.{Fresh, Done}
use Rattle.toposort.specs.declared.Step.TheVariants.{Deeper, Placed}
use Rattle.meaning.proofs.Lists.{get_d_set}
use Rattle.toposort.proofs.Steps.{room, pushed, placed, start, finish, cycle}
use Rattle.toposort.proofs.Unwound.{continues-deeper, continues-placed, starts_from, passes, all_placed}

-- what is met stays met
stays-set : (pos : List ℕ) (h v : ℕ) → h < length pos → (v ≡ 0 → ⊥) → Stays pos (set pos h v)
stays-set pos h v l n g z = ⊎_elim (λ r. absurd (n (sym r.1 ∙ z))) (λ r. sym r.1 ∙ z) (get_d_set pos h v g l)

module _ (lits : List ℕ) (m : ℕ) (pos order stack : List ℕ) (sp done : ℕ) (S : Search lits m pos order stack sp done) where
  pub counts : done + sp ≤ m
  counts = omega (arith, S.state.count)

  module _ (h : ℕ) (hm : h < m) (new : get_or pos h 0 ≡ 0) where
    pub search-room : done + sp < m
    search-room = room lits m pos order stack sp done S.state S.pos-room S.stack-room h hm new

    pub search-push : (P K : List ℕ) → P ≡ set pos h (m + 1 + sp) → K ≡ set stack sp h
        → ((k : ℕ) → k + 1 ≡ sp → Edge lits m (get_or stack k 0) h) → Search lits m P order K (sp + 1) done × Stays pos P
    search-push P K p k edge =
        rw (p, k) (
          record {
            pos-room = omega (arith, length-set pos h (m + 1 + sp), S.pos-room);
            order-room = S.order-room;
            stack-room = omega (arith, length-set stack sp h, S.stack-room);
            state = pushed lits m pos order stack sp done S.state S.pos-room S.stack-room h hm new edge;
          },
          stays-set pos h (m + 1 + sp) (omega (arith, S.pos-room)) (λ e. omega arith),
        )

  module _ (some : 0 < sp) where
    pub top-gate : get_or stack (sp - 1) 0 < m
    top-gate = S.state.on-gate (sp - 1) (omega arith)

    pub search-cycle : (h : ℕ) → Edge lits m (get_or stack (sp - 1) 0) h → m < get_or pos h 0 → Cyclic lits m
    search-cycle h e l = cycle lits m pos order stack sp done S.state some h e l

    pub top-edge : (h : ℕ) → Edge lits m (get_or stack (sp - 1) 0) h → (k : ℕ) → k + 1 ≡ sp → Edge lits m (get_or stack k 0) h
    top-edge h e k z = let w : k ≡ sp - 1 = omega arith in rw w e

    pub search-place : (P O : List ℕ) → P ≡ set pos (get_or stack (sp - 1) 0) (done + 1) → O ≡ set order done (get_or stack (sp - 1) 0)
        → ((h : ℕ) → Edge lits m (get_or stack (sp - 1) 0) h → Placed-at m pos h) → Search lits m P O stack (sp - 1) (done + 1) × Stays pos P
    search-place P O p o ready =
        let g : ℕ = get_or stack (sp - 1) 0 in
        rw (p, o) (
          record {
            pos-room = omega (arith, length-set pos g (done + 1), S.pos-room);
            order-room = omega (arith, length-set order done g, S.order-room);
            stack-room = S.stack-room;
            state = placed lits m pos order stack sp done S.state S.pos-room S.order-room some g refl ready;
          },
          stays-set pos g (done + 1) (omega (arith, S.pos-room, top-gate)) (λ e. omega arith),
        )

-- each step leaves the same gates to be placed in the same order
module _ (left right : ℕ → Option ℕ) (lits : List ℕ) (m : ℕ) (pos order stack : List ℕ) (sp done : ℕ) (S : Search lits m pos order stack sp done)
    (more : 0 < sp) where
  pub search-deeper : (h : ℕ) → h < m → get_or pos h 0 ≡ 0 → (K : List ℕ) → K ≡ set stack sp h
      → Next m pos (left (get_or stack (sp - 1) 0)) (right (get_or stack (sp - 1) 0)) (Fresh h)
      → Continues left right m order stack order K sp done Deeper
  search-deeper h hm new K k next =
      rw k
      (continues-deeper left right lits m pos order stack sp done S.state S.order-room S.stack-room more h
      (omega (arith, search-room lits m pos order stack sp done S h hm new)) new next)

  pub search-placed : (O : List ℕ) → O ≡ set order done (get_or stack (sp - 1) 0)
      → Next m pos (left (get_or stack (sp - 1) 0)) (right (get_or stack (sp - 1) 0)) Done
      → Continues left right m order stack O stack sp done Placed
  search-placed O o next =
      let few = counts lits m pos order stack sp done S in
      rw o
      (continues-placed left right lits m pos order stack sp done S.state S.order-room S.stack-room more (omega arith) (omega arith) next)

-- the gates that are placed, with those that the stack and the gates from s on still place, make the depth-first order
abbrev pub Planned : List ℕ → ℕ → ℕ → List ℕ → List ℕ → List ℕ → ℕ → ℕ → ℕ → Type 0
Planned lits base m table order stack s sp done =
    (left right : ℕ → Option ℕ) → Operands lits base m table left right
    → placed_from left right m s (m - s) (unwound left right m stack sp (take done order)) ≡ placed_from left right m 0 m []

pub planned-start : (lits : List ℕ) (base m : ℕ) (table order stack : List ℕ) → Planned lits base m table order stack 0 0 0
unfolding unwound
planned-start lits base m table order stack left right o = let e : m - 0 ≡ m = omega arith in rw e

-- the gates below s are met, and at the end the stack is empty
pub record Run (lits : List ℕ) (m : ℕ) (pos order stack : List ℕ) (s sp done : ℕ) : Type 0 where
  pub at : s ≤ m
  pub search : Search lits m pos order stack sp done
  pub met : (g : ℕ) → g < s → get_or pos g 0 ≡ 0 → ⊥
  pub end : m ≤ s → sp ≡ 0

module _ (lits : List ℕ) (m : ℕ) (pos order stack : List ℕ) (s sp done : ℕ) (R : Run lits m pos order stack s sp done) where
  pub run-skip : s < m → sp ≤ 0 → (get_or pos s 0 ≡ 0 → ⊥) → Run lits m pos order stack (s + 1) sp done
  run-skip sm z n = record { at = omega arith; search = R.search; met = below_more _ _ R.met n; end = λ _. omega arith }

  -- a step that moves the stack
  pub run_step : (P O K : List ℕ) (sp' done' : ℕ) → s < m → Search lits m P O K sp' done' × Stays pos P → Run lits m P O K s sp' done'
  run_step P O K sp' done' sm x =
      record { at = R.at; search = x.0; met = λ g l z. R.met g l (x.1 g z); end = λ q. absurd (omega arith) }

  module _ (base : ℕ) (table : List ℕ) (plan : Planned lits base m table order stack s sp done) where
    pub planned-skip : s < m → sp ≤ 0 → (get_or pos s 0 ≡ 0 → ⊥) → Planned lits base m table order stack (s + 1) sp done
    planned-skip sm z n left right o =
        let S = R.search in
        passes left right lits m pos order stack sp done S.state S.order-room S.stack-room s sm (omega arith) n ∙ plan left right o

    pub planned-push : s < m → sp ≤ 0 → get_or pos s 0 ≡ 0 → (K : List ℕ) → K ≡ set stack sp s → Planned lits base m table order K s (sp + 1) done
    planned-push sm z n K k left right o =
        let S = R.search in
        rw k
        (starts_from left right lits m pos order stack sp done S.state S.order-room S.stack-room s sm (omega arith) n ∙ plan left right o)

    pub planned-end : m ≤ s → (left right : ℕ → Option ℕ) → Operands lits base m table left right → take m order ≡ placed_from left right m 0 m []
    planned-end l left right o =
        let S = R.search in
        let e : s ≡ m = omega (arith, R.at) in
        all_placed left right lits m pos order stack sp done S.state S.order-room S.stack-room s e (R.end l) (λ g gl. R.met g (omega arith))
        ∙ plan left right o

  pub run_end : m ≤ s → InOrder lits m pos order
  run_end l = finish lits m pos order stack sp done R.search.state (R.end l) (λ g gl. R.met g (omega arith))

pub run-start : (lits : List ℕ) (m : ℕ) (pos order stack : List ℕ) → m ≤ length pos → m ≤ length order → m ≤ length stack
    → ((g : ℕ) → g < m → get_or pos g 0 ≡ 0) → Run lits m pos order stack 0 0 0
run-start lits m pos order stack lp lo ls z =
    record {
      at = omega arith;
      search = record { pos-room = lp; order-room = lo; stack-room = ls; state = start lits m pos order stack z };
      met = λ g l. absurd (omega arith);
      end = λ _. refl;
    }
