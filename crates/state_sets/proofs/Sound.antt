-- The edges of the table are the sets of states. Assumes nothing.
use mathlib.Core.Path.{◌≡◌, refl, sym, ap, ap₂, ◌∙◌, subst}
use mathlib.Core.Bool.{Bool, true, false, not, cond, ◌&&◌, ◌||◌}
use mathlib.Core.List.{List, [], ◌∷◌}
use mathlib.Core.Option.{Option, none, some}
use Prim.Native.Nat.{ℕ, zero, suc, ◌+◌, ◌≤◌, ◌<◌}
use native.Mathlib.Decide.{dec_lt, ℕ_discrete}
use native.Mathlib.Omega.{arith}
use borrow.Author.Tests.{lt-ltb, le-ltb}
use lib.Dec.{T, ltb}
use lib.ListN.{length, get_or, set, take, drop, length-set, length-take, get_or-eq_default}
use lib.Seq.{get_or-set_same, get_or-set_other, set_out, drop-set-lt, get_or-take, get_or-drop}
use Rattle.aiger.proofs.Tests.{true-T}
use Rattle.diagrams.specs.declared.Vertex.{Vertex}
use Rattle.diagrams.specs.Words.{flip}
use Rattle.diagrams.specs.States.{State, Outcome, outcome, and_then}
use Rattle.diagrams.specs.Meaning.{Assignment, value, In, Built, Front, Both, Either, after, Composed, Terms, vector_of, VectorsIn, Good, Answer, no_edge, is-edge, Right}
use Rattle.diagrams.proofs.Values.{flip-in, value_not, value-false, front_same, front-more, front-in, front-value}
use Rattle.diagrams.proofs.Sound.{right-as, right-then}
use Rattle.conjunction.specs.Conjunction.{both, either}
use Rattle.conjunction.proofs.Sound.{both_right, either-right}
use Rattle.substitution.specs.Substitution.{substituted}
use Rattle.substitution.proofs.Sound.{substituted-right}
use Rattle.collection.specs.Collecting.{Collection, collected}
use Rattle.machine.specs.Machine.{Machine}
use Rattle.backward.specs.Sets.{any_below, ahead, nearest, Inside}
use Rattle.backward.proofs.Frames.{EmptyBelow}
use Rattle.state_sets.specs.Shape.{row_at}
use Rattle.state_sets.specs.Sets.{Sets, Tried, tried, on_done, where_done, next_of, before, row_part, with_row, part_in, added_row, set_in, closed, step_of, after_collection, on_kept, or_again, again, turns, advanced, starts_in}
use Rattle.state_sets.specs.Meaning.{Values, values_of, Coded, Alike, RowsOf, leads_to, row_value, adds, met_before, Standing, vectors_from, terms_of, Tabled, Held}
use Rattle.state_sets.proofs.Room.{row_is}
use Rattle.state_sets.proofs.Collections.{collects}
use Rattle.state_sets.proofs.Rows.{after-row, row-adds, row-adds-first, all-rows, adds-nearest}

-- ---- values of words

-- a longer diagram keeps them
pub values-front : {ns ms : List Vertex} → Front ns ms → (table : List ℕ) → ((i : ℕ) → In ns (get_or table i 0)) → values_of ms table ≡ values_of ns table
unfolding values_of
values-front f table h = λ k i x. front-value f x (get_or table i 0) (h i) k

pub values_same : (ns : List Vertex) (table : List ℕ) (i e : ℕ) (x : Assignment) → i < length table → values_of ns (set table i e) i x ≡ value ns x e
unfolding values_of
values_same ns table i e x l = ap (value ns x) (get_or-set_same table i e 0 l)

pub values_other : (ns : List Vertex) (table : List ℕ) (i e j : ℕ) (x : Assignment) → (j ≡ i → ⊥) → values_of ns (set table i e) j x ≡ values_of ns table j x
unfolding values_of
values_other ns table i e j x d = ap (value ns x) (get_or-set_other table i j e 0 d)

pub values-at : (ns : List Vertex) (table : List ℕ) (i : ℕ) (x : Assignment) → values_of ns table i x ≡ value ns x (get_or table i 0)
unfolding values_of
values-at ns table i x = refl

edges-set : (ns : List Vertex) (table : List ℕ) (i e : ℕ) → In ns e → ((j : ℕ) → In ns (get_or table j 0)) → (j : ℕ) → In ns (get_or (set table i e) j 0)
edges-set ns table i e e-in h j = elim (ℕ_discrete j i) [
  | yes q ↦ elim (dec_lt i (length table)) [
    | yes l ↦ subst (λ (d : ℕ). In ns d) (sym (ap (λ (k : ℕ). get_or (set table i e) k 0) q ∙ get_or-set_same table i e 0 l)) e-in
    | no l ↦ subst (λ (t : List ℕ). In ns (get_or t j 0)) (sym (set_out table i e (omega arith))) (h j)
  ]
  | no q ↦ subst (λ (d : ℕ). In ns d) (sym (get_or-set_other table i j e 0 q)) (h j)
]

-- ---- the vectors of the rows

vectors-length : (vars : ℕ) (table : List ℕ) (n r : ℕ) → length (vectors_from vars table n r) ≡ n
unfolding vectors_from
vectors-length vars table zero r = refl
vectors-length vars table (suc n) r = ap suc (vectors-length vars table n (suc r))

vectors-at : (vars : ℕ) (table : List ℕ) (n r k : ℕ) → k < n → get_or (vectors_from vars table n r) k [] ≡ next_of vars (r + k) table
unfolding vectors_from
vectors-at vars table zero r k l = absurd (omega arith)
vectors-at vars table (suc n) r zero l = ap (λ (i : ℕ). next_of vars i table) (omega arith)
vectors-at vars table (suc n) r (suc k) l =
    let q : suc r + k ≡ r + suc k = omega arith in
    vectors-at vars table n (suc r) k (omega arith) ∙ ap (λ (i : ℕ). next_of vars i table) q

next-set : (vars r i e : ℕ) (table : List ℕ) → i < 258 → next_of vars r (set table i e) ≡ next_of vars r table
unfolding next_of
next-set vars r i e table l = ap (take vars) (drop-set-lt (row_at vars r) table i e (omega (arith, row_is vars r)))

vectors-set : (vars n r i e : ℕ) (table : List ℕ) → i < 258 → vectors_from vars (set table i e) n r ≡ vectors_from vars table n r
unfolding vectors_from
vectors-set vars zero r i e table l = refl
vectors-set vars (suc n) r i e table l = ap₂ (λ (a : List ℕ) (b : List (List ℕ)). a ∷ b) (next-set vars r i e table l) (vectors-set vars n (suc r) i e table l)

pub word_in : (vars r v : ℕ) (ns : List Vertex) (table : List ℕ) → ((i : ℕ) → In ns (get_or table i 0)) → In ns 0 → In ns (get_or (next_of vars r table) v 0)
unfolding next_of
word_in vars r v ns table h z = elim (dec_lt v vars) [
  | yes l ↦
      subst (λ (d : ℕ). In ns d) (sym (get_or-take vars (drop (row_at vars r) table) v 0 l ∙ get_or-drop (row_at vars r) table v 0)) (h (row_at vars r + v))
  | no l ↦
      subst (λ (d : ℕ). In ns d)
      (sym (get_or-eq_default (take vars (drop (row_at vars r) table)) 0 (omega (arith, length-take vars (drop (row_at vars r) table))))) z
]

-- the edges of the vectors are words of the table
pub vectors-in : (level vars rows : ℕ) (ns : List Vertex) (table : List ℕ) → ((i : ℕ) → In ns (get_or table i 0)) → VectorsIn (terms_of level vars rows table) ns
vectors-in level vars rows ns table h tag v = elim (dec_lt tag rows) [
  | yes l ↦ subst (λ (d : List ℕ). In ns (get_or d v 0)) (sym (vectors-at vars table rows 0 tag l)) (next-in (0 + tag))
  | no l ↦
      subst (λ (d : List ℕ). In ns (get_or d v 0))
      (sym (get_or-eq_default (vectors_from vars table rows 0) [] (omega (arith, vectors-length vars table rows 0)))) zero_in
]
  where
    zero_in : In ns 0
    zero_in = omega (arith, h 0)

    next-in : (r : ℕ) → In ns (get_or (next_of vars r table) v 0)
    next-in r = word_in vars r v ns table h zero_in

-- ---- Booleans

and-swap : (a b : Bool) → (a && b) ≡ (b && a)
and-swap true true = refl
and-swap true false = refl
and-swap false true = refl
and-swap false false = refl

and-true : (b : Bool) → (b && true) ≡ b
and-true true = refl
and-true false = refl

or-less : (a b u : Bool) → ((a && u) || (b && u)) ≡ ((a || b) && u)
or-less true true true = refl
or-less true true false = refl
or-less true false true = refl
or-less true false false = refl
or-less false b u = refl

or_new : (a b : Bool) → (a || (b && not a)) ≡ (a || b)
or_new true b = refl
or_new false b = and-true b

-- ---- rows that stay

rows_same : (m : Machine) (n : ℕ) (at : ℕ → Assignment) (vars rows : ℕ) (us vs : Values) → ((i : ℕ) (x : Assignment) → 258 ≤ i → us i x ≡ vs i x)
    → RowsOf m n at vars rows vs → RowsOf m n at vars rows us
rows_same m n at vars rows us vs e r =
    record {
      like = r.like;
      first = r.first;
      like-fits = r.like-fits;
      first_fits = r.first_fits;
      like-first = r.like-first;
      first-least = r.first-least;
      first-order = r.first-order;
      alike = λ q s ql sl.
          let a = r.alike q s ql sl in
          let k = r.like q in
          record {
            hits = e (row_at vars k + vars + 1) (at s) (omega (arith, row_is vars k)) ∙ a.hits;
            allowed = e (row_at vars k + vars) (at s) (omega (arith, row_is vars k)) ∙ a.allowed;
            leads = λ x v h l. e (row_at vars k + v) (at s) (omega (arith, row_is vars k)) ∙ a.leads x v h l;
          };
      begins = λ y l. e (row_at vars rows) (at (m.start y)) (omega (arith, row_is vars rows)) ∙ r.begins y l;
    }

-- the value of a set with the edges of a row in place of the variables
composed-value : (vars : ℕ) {ns ms : List Vertex} → Front ns ms → Built ms → (table : List ℕ) → ((i : ℕ) → In ns (get_or table i 0)) → (k last x : ℕ)
    (a : Assignment) → Composed (next_of vars k table) (get_or table last 0) ms x
    → value ms a x ≡ values_of ns table last (leads_to (values_of ns table) vars k a)
composed-value vars {ns} {ms} f b table h k last x a c =
    let y : Assignment = leads_to (values_of ns table) vars k a in
    c.same a
    ∙ ap (λ (z : Assignment). value ms z (get_or table last 0))
    (after-row ms b table vars k a ∙ ap (λ (us : Values). leads_to us vars k a) (values-front f table h))
    ∙ sym (values-at ms table last y) ∙ ap (λ (us : Values). us last y) (values-front f table h)

-- a step: what holds where it was done, and where not
pub record Did (p q : Sets → Type 0) (t : Tried) : Type 0 where
  pub yes : t.done ≡ true → q t.sets
  pub no : t.done ≡ false → p t.sets

not-both-ways : {A : Type 0} → true ≡ false → A
not-both-ways e = absurd (let z : ◌≡◌ {A = ℕ} 0 1 = cc in omega arith)

-- a collection that was done
abbrev pub collected_of : Sets → Sets
collected_of z = record { state = (collected z.state z.table).state; table = (collected z.state z.table).roots }

-- a step, and once more after a collection
pub again-right : (p q : Sets → Type 0) (step : Sets → Tried) → ((z : Sets) → p z → Did p q (step z))
    → ((z : Sets) → p z → (collected z.state z.table).kept ≡ true → p (collected_of z)) → (z : Sets) → p z → (again step z).done ≡ true
    → q (again step z).sets
again-right p q step right keeps z h = go (step z).done refl
  where
    more : (b : Bool) → (collected (step z).sets.state (step z).sets.table).kept ≡ b → p (step z).sets
        → (on_kept b (collected (step z).sets.state (step z).sets.table).state (collected (step z).sets.state (step z).sets.table).roots step).done ≡ true
        → q (on_kept b (collected (step z).sets.state (step z).sets.table).state (collected (step z).sets.state (step z).sets.table).roots step).sets
    more true e w d = (right _ (keeps (step z).sets w e)).yes d
    more false e w d = not-both-ways (sym d)

    go : (b : Bool) → (step z).done ≡ b → (or_again b (step z).sets step).done ≡ true → q (or_again b (step z).sets step).sets
    go true e d = (right z h).yes e
    go false e d = more (collected (step z).sets.state (step z).sets.table).kept refl ((right z h).no e) d

-- steps one after the other
pub turns-right : (p : ℕ → Sets → Type 0) (step : ℕ → Sets → Tried) (n r : ℕ)
    → ((i : ℕ) (z : Sets) → r ≤ i → i < r + n → p i z → Did (p i) (p (suc i)) (step i z))
    → ((i : ℕ) (z : Sets) → r ≤ i → i < r + n → p i z → (collected z.state z.table).kept ≡ true → p i (collected_of z)) → (z : Sets) → p r z
    → (turns step n r z).done ≡ true → p (r + n) (turns step n r z).sets
unfolding turns
turns-right p step zero r right keeps z h d = subst (λ (i : ℕ). p i z) (omega arith) h
turns-right p step (suc n) r right keeps z h d =
    go (again (step r) z).done refl (again-right (p r) (p (suc r)) (step r) (λ y k. right r y (omega arith) (omega arith) k) (λ y k e. keeps r y (omega arith) (omega arith) k e) z h)
    (λ y k e. turns-right p step n (suc r) (λ i x a b. right i x (omega arith) (omega arith)) (λ i x a b. keeps i x (omega arith) (omega arith)) y k e) d
  where
    go : (b : Bool) → (again (step r) z).done ≡ b → ((again (step r) z).done ≡ true → p (suc r) (again (step r) z).sets)
        → ((y : Sets) → p (suc r) y → (turns step n (suc r) y).done ≡ true → p (suc r + n) (turns step n (suc r) y).sets)
        → (on_done b (again (step r) z).sets (turns step n (suc r))).done ≡ true
        → p (r + suc n) (on_done b (again (step r) z).sets (turns step n (suc r))).sets
    go true q h more d =
        let e : suc r + n ≡ r + suc n = omega arith in
        subst (λ (i : ℕ). p i (turns step n (suc r) (again (step r) z).sets).sets) e (more (again (step r) z).sets (h q) d)
    go false q h more d = not-both-ways (sym d)

module _ (level : ℕ) (m : Machine) (n : ℕ) (inside : Inside m n) (at : ℕ → Assignment) (vars rows : ℕ) (coded : Coded at vars)
    (few : rows ≤ 16) where
  -- an edge of the diagram with these values at the states
  pub record Says (p : ℕ → Bool) (ns : List Vertex) (e : ℕ) : Type 0 where
    pub e-in : In ns e
    pub same : (s : ℕ) → s < n → value ns (at s) e ≡ p s

  abbrev Holds : ℕ → ℕ → Sets → Type 0
  Holds next k z = Held level m n at vars rows next k z

  -- a diagram with more nodes
  held-front : (next k : ℕ) (s t : State) (table : List ℕ) → Holds next k (record { state = s; table = table }) → Front s.nodes t.nodes
      → Good (terms_of level vars rows table) t → Holds next k (record { state = t; table = table })
  held-front next k s t table h f g =
      record {
        room = h.room;
        tabled = record { good = g; edges = λ i. front-in f (get_or table i 0) (h.tabled.edges i) };
        standing = subst (Standing m n at vars rows next k) (sym (values-front f table h.tabled.edges)) h.standing;
      }

  module _ (next k : ℕ) (table : List ℕ) (s : State) (h : Holds next k (record { state = s; table = table })) (kl : k < rows) where
    abbrev terms : Terms
    terms = terms_of level vars rows table

    abbrev vs : Values
    vs = values_of s.nodes table

    abbrev first : ℕ → ℕ
    first = h.standing.rows-of.first

    -- what row k adds to the set, less what is met
    abbrev added : ℕ → Bool
    added q = adds m next q (first k) && not (met_before m next q)

    row-is-added : (q : ℕ) → q < n → (row_value vs vars next k (at q) && not (vs 256 (at q))) ≡ added q
    row-is-added q l =
        ap₂ (λ (a b : Bool). a && not b)
        (row-adds-first m n inside at vars rows coded vs h.standing.rows-of next k q h.standing.sets kl l) (h.standing.union q l)

    before-right : (last : ℕ) → next ≡ suc last → Right terms s (Says added) (before vars last k table s)
    unfolding before
    before-right last e =
        let set-in = h.tabled.edges last in
        let con = get_or table (row_at vars k + vars) 0 in
        let con-in = h.tabled.edges (row_at vars k + vars) in
        let all = get_or table 256 0 in
        let all_in = h.tabled.edges 256 in
        let none_in = flip-in s.nodes all 1 all_in in
        let vector : vector_of terms k ≡ next_of vars k table = vectors-at vars table rows 0 k kl ∙ ap (λ (i : ℕ). next_of vars i table) (omega arith) in
        let o₁ = substituted (next_of vars k table) k s (get_or table last 0) in
        let r₁ : Right terms s (Composed (next_of vars k table) (get_or table last 0)) o₁ =
        substituted-right terms k (omega (arith, vectors-length vars table rows 0)) (omega arith) (next_of vars k table) vector s h.tabled.good
        (get_or table last 0) set-in in
        right-then o₁ (λ t x. and_then (both t con x) (λ u y. both u (flip all 1) y)) r₁
        (λ x cx.
        let t₁ = r₁.grows in
        let o₂ = both o₁.state con x in
        let r₂ = both_right terms o₁.state r₁.good con x (front-in t₁ con con-in) cx.r-in in
        right-then o₂ (λ u y. both u (flip all 1) y) r₂
        (λ y by.
        let t₂ = r₂.grows in
        let o₃ = both o₂.state (flip all 1) y in
        let r₃ = both_right terms o₂.state r₂.good (flip all 1) y (front-in (front-more t₁ t₂) (flip all 1) none_in) by.r-in in
        let t₃ = r₃.grows in
        let ms = o₃.state.nodes in
        right-as
        (λ d bd.
        record {
          e-in = bd.r-in;
          same = λ q l.
              let a = at q in
              let one : value ms a (flip all 1) ≡ not (vs 256 a) =
              front-value (front-more t₁ (front-more t₂ t₃)) a (flip all 1) none_in ∙ value_not s.nodes a all ∙ ap not (sym (values-at s.nodes table 256 a)) in
              let two : value ms a y ≡ row_value vs vars (suc last) k a =
              front-value t₃ a y by.r-in ∙ by.same a
              ∙ ap₂ (λ (p q : Bool). p && q)
              (front-value (front-more t₁ t₂) a con con-in ∙ sym (values-at s.nodes table (row_at vars k + vars) a))
              (front-value t₂ a x cx.r-in ∙ composed-value vars t₁ r₁.good.built table h.tabled.edges k last x a cx) in
              bd.same a ∙ ap₂ (λ (p q : Bool). p && q) one two ∙ and-swap (not (vs 256 a)) (row_value vs vars (suc last) k a)
              ∙ ap (λ (i : ℕ). row_value vs vars i k a && not (vs 256 a)) (sym e) ∙ row-is-added q l;
        })
        r₃))

    row-part-right : (i : ℕ) → next ≡ i → Right terms s (Says added) (row_part vars i k table s)
    unfolding any_below
    row-part-right zero e =
        record {
          good = h.tabled.good;
          grows = front_same s.nodes;
          answer =
              is-edge
              (record {
                e-in = h.tabled.edges (row_at vars k + vars + 1);
                same = λ q l.
                    let one : vs (row_at vars k + vars + 1) (at q) ≡ adds m next q (first k) =
                    ap (λ (i : ℕ). row_value vs vars i k (at q)) (sym e)
                    ∙ row-adds-first m n inside at vars rows coded vs h.standing.rows-of next k q h.standing.sets kl l in
                    sym (values-at s.nodes table (row_at vars k + vars + 1) (at q)) ∙ one ∙ sym (and-true (adds m next q (first k)))
                    ∙ ap (λ (i : ℕ). adds m next q (first k) && not (met_before m i q)) (sym e);
              });
        }
    row-part-right (suc last) e = before-right last e

    -- the part of the set with this row
    with-row-right : Right terms s (Says (λ q. any_below (suc k) (λ l. adds m next q (first l)) && not (met_before m next q))) (with_row vars next k table s)
    unfolding with_row any_below
    with-row-right =
        let o = row_part vars next k table s in
        let r = row-part-right next refl in
        let part = get_or table 257 0 in
        let part_in_lem = h.tabled.edges 257 in
        right-then o (λ t x. either t part x) r
        (λ x w.
        let r₂ = either-right terms o.state r.good part x (front-in r.grows part part_in_lem) w.e-in in
        right-as
        (λ d bd.
        record {
          e-in = bd.r-in;
          same = λ q l.
              let a = at q in
              bd.same a
              ∙ ap₂ (λ (p q : Bool). p || q)
              (front-value (front-more r.grows r₂.grows) a part part_in_lem ∙ sym (values-at s.nodes table 257 a) ∙ h.standing.part q l)
              (front-value r₂.grows a x w.e-in ∙ w.same q l)
              ∙ or-less (any_below k (λ l. adds m next q (first l))) (adds m next q (first k)) (not (met_before m next q));
        })
        r₂)

    -- row k is added
    added-right : next ≤ 256 → Did (Holds next k) (Holds next (suc k)) (added_row vars next k (record { state = s; table = table }))
    unfolding added_row rows_same held-front
    added-right nl = go (with_row vars next k table s).edge with-row-right.answer
      where
        t : State
        t = (with_row vars next k table s).state

        go : (x : Option ℕ)
            → Answer (Says (λ q. any_below (suc k) (λ l. adds m next q (h.standing.rows-of.first l)) && not (met_before m next q)) (with_row vars next k table s).state.nodes) x
            → Did (Holds next k) (Holds next (suc k)) (part_in table (outcome (with_row vars next k table s).state x))
        go none a = record { yes = λ q. not-both-ways (sym q); no = λ q. held-front next k s t table h with-row-right.grows with-row-right.good }
        go (some e) (is-edge w) =
            let g = held-front next k s t table h with-row-right.grows with-row-right.good in
            let ns = t.nodes in
            record {
              no = λ q. not-both-ways q;
              yes = λ q.
                  record {
                    room = omega (arith, h.room, length-set table 257 e);
                    tabled =
                        record {
                          good =
                              subst (λ (v : List (List ℕ)). Good (record { level = level; vectors = v }) t)
                              (sym (vectors-set vars rows 0 257 e table (omega arith))) with-row-right.good;
                          edges = edges-set ns table 257 e w.e-in g.tabled.edges;
                        };
                    standing =
                        record {
                          rows-of =
                              rows_same m n at vars rows (values_of ns (set table 257 e)) (values_of ns table)
                              (λ i x l. values_other ns table 257 e i x (λ q. omega arith)) g.standing.rows-of;
                          sets = λ j q jl ql. values_other ns table 257 e j (at q) (λ z. omega arith) ∙ g.standing.sets j q jl ql;
                          union = λ q ql. values_other ns table 257 e 256 (at q) (λ z. omega arith) ∙ g.standing.union q ql;
                          part = λ q ql. values_same ns table 257 e (at q) (omega (arith, h.room)) ∙ w.same q ql;
                        };
                  };
            }

  module _ (next : ℕ) (table : List ℕ) (s : State) (h : Holds next rows (record { state = s; table = table })) where
    -- the part is the set, where all rows were added
    part-nearest : (q : ℕ) → q < n → values_of s.nodes table 257 (at q) ≡ nearest m next q
    part-nearest q l =
        h.standing.part q l
        ∙ ap (λ (b : Bool). b && not (met_before m next q))
        (all-rows m n inside at vars rows coded (values_of s.nodes table) h.standing.rows-of next q h.standing.sets l)
        ∙ adds-nearest m next q

    union_more : (q : ℕ) → (met_before m next q || nearest m next q) ≡ met_before m (suc next) q
    unfolding nearest any_below
    union_more q = or_new (met_before m next q) (ahead m next q)

    closed-right : next < 256 → Did (Holds next rows) (Holds (suc next) 0) (closed next (record { state = s; table = table }))
    unfolding closed any_below
    closed-right nl = go o.edge r.answer
      where
        all : ℕ
        all = get_or table 256 0

        part : ℕ
        part = get_or table 257 0

        o : Outcome
        o = either s (get_or table 256 0) (get_or table 257 0)

        r : Right (terms_of level vars rows table) s (Either (get_or table 256 0) (get_or table 257 0)) (either s (get_or table 256 0) (get_or table 257 0))
        r =
            either-right (terms_of level vars rows table) s h.tabled.good (get_or table 256 0) (get_or table 257 0) (h.tabled.edges 256)
            (h.tabled.edges 257)

        go : (x : Option ℕ)
            → Answer (Either (get_or table 256 0) (get_or table 257 0) (either s (get_or table 256 0) (get_or table 257 0)).state.nodes) x
            → Did (Holds next rows) (Holds (suc next) 0) (set_in next table (outcome (either s (get_or table 256 0) (get_or table 257 0)).state x))
        go none a = record { yes = λ q. not-both-ways (sym q); no = λ q. held-front next rows s o.state table h r.grows r.good }
        go (some e) (is-edge w) =
            let t = o.state in
            let ns = t.nodes in
            let g = held-front next rows s t table h r.grows r.good in
            let ta = set table 256 e in
            let tb = set ta 257 0 in
            let tc = set tb next part in
            let la : length ta ≡ length table = length-set table 256 e in
            let lb : length tb ≡ length table = length-set ta 257 0 ∙ la in
            let lc : length tc ≡ length table = length-set tb next part ∙ lb in
            let zero_in : In ns 0 = omega (arith, w.r-in) in
            let other : (i : ℕ) (x : Assignment) → (i ≡ 256 → ⊥) → (i ≡ 257 → ⊥) → (i ≡ next → ⊥) → values_of ns tc i x ≡ values_of ns table i x =
            λ i x a b c. values_other ns tb next part i x c ∙ values_other ns ta 257 0 i x b ∙ values_other ns table 256 e i x a in
            let was : (q : ℕ) → q < n → value ns (at q) part ≡ nearest m next q =
            λ q l. front-value r.grows (at q) part (h.tabled.edges 257) ∙ sym (values-at s.nodes table 257 (at q)) ∙ part-nearest q l in
            record {
              no = λ q. not-both-ways q;
              yes = λ q.
                  record {
                    room = omega (arith, h.room);
                    tabled =
                        record {
                          good =
                              subst (λ (v : List (List ℕ)). Good (record { level = level; vectors = v }) t)
                              (sym
                              (vectors-set vars rows 0 next part tb (omega arith) ∙ vectors-set vars rows 0 257 0 ta (omega arith)
                              ∙ vectors-set vars rows 0 256 e table (omega arith)))
                              r.good;
                          edges =
                              edges-set ns tb next part (g.tabled.edges 257)
                              (edges-set ns ta 257 0 zero_in (edges-set ns table 256 e w.r-in g.tabled.edges));
                        };
                    standing =
                        record {
                          rows-of =
                              rows_same m n at vars rows (values_of ns tc) (values_of ns table)
                              (λ i x l. other i x (λ z. omega arith) (λ z. omega arith) (λ z. omega arith)) g.standing.rows-of;
                          sets = λ j q jl ql. elim (ℕ_discrete j next) [
                            | yes z ↦
                                ap (λ (i : ℕ). values_of ns tc i (at q)) z ∙ values_same ns tb next part (at q) (omega (arith, h.room)) ∙ was q ql
                                ∙ ap (λ (i : ℕ). nearest m i q) (sym z)
                            | no z ↦ other j (at q) (λ y. omega arith) (λ y. omega arith) z ∙ g.standing.sets j q (omega arith) ql
                          ];
                          union = λ q ql.
                              values_other ns tb next part 256 (at q) (λ z. omega arith) ∙ values_other ns ta 257 0 256 (at q) (λ z. omega arith)
                              ∙ values_same ns table 256 e (at q) (omega (arith, h.room)) ∙ w.same (at q)
                              ∙ ap₂ (λ (a b : Bool). a || b) (sym (values-at ns table 256 (at q)) ∙ g.standing.union q ql) (was q ql)
                              ∙ union_more q;
                          part = λ q ql.
                              values_other ns tb next part 257 (at q) (λ z. omega arith) ∙ values_same ns ta 257 0 (at q) (omega (arith, h.room))
                              ∙ value-false ns r.good.built (at q);
                        };
                  };
            }

  -- a collection keeps all of it
  pub collected-held : (next k : ℕ) (z : Sets) → Holds next k z → (collected z.state z.table).kept ≡ true
      → Holds next k (record { state = (collected z.state z.table).state; table = (collected z.state z.table).roots })
  unfolding values_of
  collected-held next k z h e =
      let g = collected z.state z.table in
      let c =
      collects (terms_of level vars rows z.table) z.state h.tabled.good z.table (omega (arith, h.room)) h.tabled.edges e in
      record {
        room = omega (arith, h.room, c.lengths);
        tabled =
            record {
              good = c.good (terms_of level vars rows g.roots) (vectors-in level vars rows g.state.nodes g.roots c.roots-in);
              edges = c.roots-in;
            };
        standing =
            subst (Standing m n at vars rows next k) (λ i. λ j x. sym (c.same x j) i) h.standing;
      }

  -- ---- steps

  -- what holds before step r
  abbrev Before : ℕ → ℕ → Sets → Type 0
  Before next r z = cond (ltb rows r) (Holds (suc next) 0 z) (Holds next r z)

  before-is : (next r : ℕ) (z : Sets) → r ≤ rows → Before next r z → Holds next r z
  before-is next r z l h = subst (λ (b : Bool). cond b (Holds (suc next) 0 z) (Holds next r z)) (le-ltb rows r l) h

  is-before : (next r : ℕ) (z : Sets) → r ≤ rows → Holds next r z → Before next r z
  is-before next r z l h = subst (λ (b : Bool). cond b (Holds (suc next) 0 z) (Holds next r z)) (sym (le-ltb rows r l)) h

  step_right : (next r : ℕ) → next < 256 → r ≤ rows → (z : Sets) → Before next r z → Did (Before next r) (Before next (suc r)) (step_of vars rows next r z)
  unfolding step_of
  step_right next r nl rl z w = elim (dec_lt r rows) [
    | yes l ↦
        let d = added-right next r z.table z.state (before-is next r z rl w) l (omega arith) in
        subst (λ (b : Bool). Did (Before next r) (Before next (suc r)) (cond b (added_row vars next r z) (closed next z))) (sym (lt-ltb r rows l))
        (record { yes = λ q. is-before next (suc r) _ l (d.yes q); no = λ q. is-before next r _ rl (d.no q) })
    | no l ↦
        let e : r ≡ rows = omega arith in
        let d = closed-right next z.table z.state (subst (λ (i : ℕ). Holds next i z) e (before-is next r z rl w)) nl in
        let after : (y : Sets) → Holds (suc next) 0 y → Before next (suc r) y =
        λ y h. subst (λ (b : Bool). cond b (Holds (suc next) 0 y) (Holds next (suc r) y)) (sym (lt-ltb rows (suc r) (omega arith))) h in
        subst (λ (b : Bool). Did (Before next r) (Before next (suc r)) (cond b (added_row vars next r z) (closed next z)))
        (sym (le-ltb r rows (omega arith)))
        (record { yes = λ q. after _ (d.yes q); no = λ q. is-before next r _ rl (subst (λ (i : ℕ). Holds next i (closed next z).sets) (sym e) (d.no q)) })
  ]

  -- one set more
  pub advanced-right : (next : ℕ) → next < 256 → (z : Sets) → Holds next 0 z → (advanced vars rows next z).done ≡ true
      → Holds (suc next) 0 (advanced vars rows next z).sets
  unfolding advanced
  advanced-right next nl z h d =
      let w =
      turns-right (Before next) (step_of vars rows next) (suc rows) 0 (λ i y a b. step_right next i nl (omega arith) y)
      (λ i y a b k e. is-before next i _ (omega arith) (collected-held next i y (before-is next i y (omega arith) k) e)) z (is-before next 0 z (omega arith) h) d in
      subst (λ (b : Bool). cond b (Holds (suc next) 0 (turns (step_of vars rows next) (suc rows) 0 z).sets) (Holds next (0 + suc rows) (turns (step_of vars rows next) (suc rows) 0 z).sets))
      (lt-ltb rows (0 + suc rows) (omega arith)) w

  -- ---- what the sets say

  module _ (next : ℕ) (z : Sets) (h : Holds next 0 z) where
    -- a set whose edge is 0 is empty
    pub empty-set : (j : ℕ) → j < next → get_or z.table j 0 ≡ 0 → EmptyBelow m n j
    empty-set j l e s sl t =
        not-both-ways
        (sym (true-T (nearest m j s) t) ∙ sym (h.standing.sets j s l sl) ∙ values-at z.state.nodes z.table j (at s)
        ∙ ap (value z.state.nodes (at s)) e ∙ value-false z.state.nodes h.tabled.good.built (at s))

    -- the start states of a set
    pub starts-right : (t : ℕ) → t < next
        → Right (terms_of level vars rows z.table) z.state
        (λ ns e. In ns e × ((y : ℕ) → y < m.starts → value ns (at (m.start y)) e ≡ nearest m t (m.start y)))
        (starts_in vars rows t z.table z.state)
    unfolding starts_in
    starts-right t l =
        let set-in = h.tabled.edges t in
        let start-in = h.tabled.edges (row_at vars rows) in
        let r =
        both_right (terms_of level vars rows z.table) z.state h.tabled.good (get_or z.table t 0) (get_or z.table (row_at vars rows) 0) set-in start-in in
        right-as
        (λ e b. (
          b.r-in,
          λ y yl.
              let a = at (m.start y) in
              b.same a
              ∙ ap₂ (λ (p q : Bool). p && q)
              (front-value r.grows a (get_or z.table t 0) set-in ∙ sym (values-at z.state.nodes z.table t a)
              ∙ h.standing.sets t (m.start y) l (inside.begins y yl))
              (front-value r.grows a (get_or z.table (row_at vars rows) 0) start-in ∙ sym (values-at z.state.nodes z.table (row_at vars rows) a)
              ∙ h.standing.rows-of.begins y yl)
              ∙ and-true (nearest m t (m.start y)),
        ))
        r
