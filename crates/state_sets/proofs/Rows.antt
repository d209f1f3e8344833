-- The rows of a table and those of a machine. Assumes nothing.
use mathlib.Core.Path.{◌≡◌, refl, sym, ap, ap₂, ◌∙◌, subst}
use mathlib.Core.Bool.{Bool, true, false, not, cond, ◌&&◌, ◌||◌}
use mathlib.Core.List.{List}
use mathlib.Core.Option.{Option, none, some}
use Prim.Native.Nat.{ℕ, zero, suc, ◌+◌, ◌≤◌, ◌<◌}
use native.Mathlib.Decide.{dec_lt}
use native.Mathlib.Omega.{arith}
use borrow.Author.Tests.{lt-ltb, le-ltb}
use lib.Dec.{T, ltb}
use lib.ListN.{length, get_or, take, drop, length-take, get_or-eq_default}
use lib.Seq.{get_or-take, get_or-drop}
use Rattle.aiger.proofs.Tests.{both_ways}
use Rattle.meaning.proofs.Decisions.{Least}
use Rattle.diagrams.specs.declared.Vertex.{Vertex}
use Rattle.diagrams.specs.Meaning.{Assignment, value, Built, after}
use Rattle.diagrams.proofs.Values.{value-false}
use Rattle.machine.specs.Machine.{Machine}
use Rattle.backward.specs.Sets.{any_below, into, hits_now, preimage, ahead, nearest, met, Inside}
use Rattle.backward.proofs.Ahead.{any-in, any_out, nearest_zero, nearest-suc}
use Rattle.state_sets.specs.Shape.{row_at}
use Rattle.state_sets.specs.Sets.{next_of}
use Rattle.state_sets.specs.Meaning.{Values, values_of, Coded, is_some, Alike, RowsOf, leads_to, row_value, adds, met_before}
use Rattle.state_sets.proofs.Room.{row_is}

and-true : (b : Bool) → (b && true) ≡ b
and-true true = refl
and-true false = refl

-- ---- where a row leads

-- the vector of a row puts these in place of the variables
pub after-row : (ns : List Vertex) → Built ns → (table : List ℕ) (vars k : ℕ) (x : Assignment)
    → after ns (next_of vars k table) x ≡ leads_to (values_of ns table) vars k x
unfolding after next_of values_of
after-row ns b table vars k x = λ i v. at v i
  where
    at : (v : ℕ) → value ns x (get_or (take vars (drop (row_at vars k) table)) v 0) ≡ cond (ltb v vars) (value ns x (get_or table (row_at vars k + v) 0)) false
    at v = elim (dec_lt v vars) [
      | yes l ↦
          ap (value ns x) (get_or-take vars (drop (row_at vars k) table) v 0 l ∙ get_or-drop (row_at vars k) table v 0)
          ∙ sym (ap (λ (t : Bool). cond t (value ns x (get_or table (row_at vars k + v) 0)) false) (lt-ltb v vars l))
      | no l ↦
          let far : length (take vars (drop (row_at vars k) table)) ≤ v = omega (arith, length-take vars (drop (row_at vars k) table)) in
          ap (value ns x) (get_or-eq_default (take vars (drop (row_at vars k) table)) 0 far) ∙ value-false ns b x
          ∙ sym (ap (λ (t : Bool). cond t (value ns x (get_or table (row_at vars k + v) 0)) false) (le-ltb v vars (omega arith)))
    ]

module _ (m : Machine) (n : ℕ) (inside : Inside m n) (at : ℕ → Assignment) (vars rows : ℕ) (coded : Coded at vars) (vs : Values)
    (rows_of_lem : RowsOf m n at vars rows vs) where
  -- a row that is allowed leads to its next state
  pub leads-state : (r s x : ℕ) → r < m.rows → s < n → m.step s r ≡ some x → leads_to vs vars (rows_of_lem.like r) (at s) ≡ at x
  leads-state r s x rl sl e = λ i v. go v i
    where
      k : ℕ
      k = rows_of_lem.like r

      go : (v : ℕ) → cond (ltb v vars) (vs (row_at vars (rows_of_lem.like r) + v) (at s)) false ≡ at x v
      go v = elim (dec_lt v vars) [
        | yes l ↦
            ap (λ (t : Bool). cond t (vs (row_at vars k + v) (at s)) false) (lt-ltb v vars l) ∙ (rows_of_lem.alike r s rl sl).leads x v e l
        | no l ↦
            ap (λ (t : Bool). cond t (vs (row_at vars k + v) (at s)) false) (le-ltb v vars (omega arith)) ∙ sym (coded.past x v (omega arith))
      ]

  -- sets before `next` stand in the table
  abbrev SetsIn : ℕ → Type 0
  SetsIn next = (j s : ℕ) → j < next → s < n → vs j (at s) ≡ nearest m j s

  -- what the row like r adds is what the machine's row r adds
  pub row-adds : (next r s : ℕ) → SetsIn next → r < m.rows → s < n → row_value vs vars next (rows_of_lem.like r) (at s) ≡ adds m next s r
  row-adds zero r s sets rl sl = (rows_of_lem.alike r s rl sl).hits
  row-adds (suc last) r s sets rl sl = go (m.step s r) refl
    where
      k : ℕ
      k = rows_of_lem.like r

      go : (o : Option ℕ) → m.step s r ≡ o
          → (vs (row_at vars (rows_of_lem.like r) + vars) (at s) && vs last (leads_to vs vars (rows_of_lem.like r) (at s))) ≡ into (nearest m last) (m.step s r)
      go none e =
          ap (λ (b : Bool). b && vs last (leads_to vs vars k (at s))) ((rows_of_lem.alike r s rl sl).allowed ∙ ap is_some e)
          ∙ sym (ap (into (nearest m last)) e)
      go (some x) e =
          ap₂ (λ (b c : Bool). b && c) ((rows_of_lem.alike r s rl sl).allowed ∙ ap is_some e)
          (ap (vs last) (leads-state r s x rl sl e) ∙ sets last x (omega arith) (inside.goes s r x sl rl e))
          ∙ sym (ap (into (nearest m last)) e)

  pub row-adds-first : (next k s : ℕ) → SetsIn next → k < rows → s < n → row_value vs vars next k (at s) ≡ adds m next s (rows_of_lem.first k)
  row-adds-first next k s sets kl sl =
      ap (λ (l : ℕ). row_value vs vars next l (at s)) (sym (rows_of_lem.like-first k kl))
      ∙ row-adds next (rows_of_lem.first k) s sets (rows_of_lem.first_fits k kl) sl

  -- a row of the machine and the first row that is like it add the same
  adds-alike : (next r s : ℕ) → SetsIn next → r < m.rows → s < n → adds m next s (rows_of_lem.first (rows_of_lem.like r)) ≡ adds m next s r
  adds-alike next r s sets rl sl =
      sym (row-adds-first next (rows_of_lem.like r) s sets (rows_of_lem.like-fits r rl) sl) ∙ row-adds next r s sets rl sl

  -- the rows of the table add what those of the machine add
  pub all-rows : (next s : ℕ) → SetsIn next → s < n
      → any_below rows (λ k. adds m next s (rows_of_lem.first k)) ≡ any_below m.rows (adds m next s)
  all-rows next s sets sl =
      both_ways (any_below rows (λ k. adds m next s (rows_of_lem.first k))) (any_below m.rows (adds m next s))
      (λ h.
      let a = any_out rows (λ k. adds m next s (rows_of_lem.first k)) h in
      any-in m.rows (adds m next s) (rows_of_lem.first a.0) (rows_of_lem.first_fits a.0 a.1) a.2)
      (λ h.
      let a = any_out m.rows (adds m next s) h in
      any-in rows (λ k. adds m next s (rows_of_lem.first k)) (rows_of_lem.like a.0) (rows_of_lem.like-fits a.0 a.1)
      (subst T (sym (adds-alike next a.0 s sets a.1 sl)) a.2))

  -- the least row of the table that adds a state, and the least row of the machine
  pub least-row : (next k s : ℕ) → SetsIn next → s < n → Least (λ l. row_value vs vars next l (at s)) rows (some k)
      → Least (adds m next s) m.rows (some (rows_of_lem.first k))
  least-row next k s sets sl (l, h, f) = (
    rows_of_lem.first_fits k l,
    subst T (row-adds-first next k s sets l sl) h,
    λ r b t.
        let rl : r < m.rows = omega (arith, rows_of_lem.first_fits k l) in
        let q : rows_of_lem.like r < rows = rows_of_lem.like-fits r rl in
        elim (dec_lt (rows_of_lem.like r) k) [
          | yes d ↦ f (rows_of_lem.like r) d (subst T (sym (row-adds next r s sets rl sl)) t)
          | no d ↦ omega (arith, rows_of_lem.first-order k (rows_of_lem.like r) (omega arith) q, rows_of_lem.first-least r rl)
        ],
  )

-- what the machine's rows add, less what is met, is the set of distance `next`
pub adds-nearest : (m : Machine) (next s : ℕ) → (any_below m.rows (adds m next s) && not (met_before m next s)) ≡ nearest m next s
unfolding any_below hits_now preimage met
adds-nearest m zero s = and-true (any_below m.rows (m.hit s)) ∙ sym (nearest_zero m s)
adds-nearest m (suc last) s = sym (nearest-suc m last s)
