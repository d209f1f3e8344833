-- Laws of taking gates one after the other. Assumes nothing.
use mathlib.Core.Path.{◌≡◌, refl, sym, ap, ap₂, ◌∙◌, subst}
use mathlib.Core.Bool.{Bool, true, false, cond, ◌&&◌}
use mathlib.Core.List.{List, [], ◌∷◌, ◌++◌, append_assoc, append-nil}
use mathlib.Core.Logic.{◌⊎◌, ⊎_elim}
use mathlib.Core.Option.{Option, none, some}
use Prim.Native.Nat.{ℕ, zero, suc, ◌+◌, ◌-◌, ◌*◌, ◌/◌, ◌≤◌, ◌<◌}
use native.Mathlib.Decide.{dec_lt}
use native.Mathlib.Numerals.{add-one}
use native.Mathlib.Omega.{arith}
use borrow.Author.Tests.{eq-eqb, ne_eqb}
use lib.Dec.{T, eqb, eqb→eq}
use lib.ListN.{length, get_or, drop, set, length-set, length-append}
use lib.Seq.{set_at, drop-cons, append_snoc}
use Rattle.aiger.specs.Search.{least_below}
use Rattle.aiger.proofs.Tests.{T_true}
use Rattle.meaning.proofs.Lists.{get_d_set}
use Rattle.meaning.proofs.Decisions.{Least, least-below}
use Rattle.gate_order.specs.Order.{has, is_ready, on_next, before, taken}
use Rattle.gate_order.specs.Waiting.{lacks, waits, Marked, Waiting, Put, FoundReady, Gates, Awaits, Stale, Apart, Numbered}

-- ---- the first gate that waits for nothing is the next one

abbrev Taken : Type 0
Taken = List ℕ × List ℕ

three-tests : (own left right : Bool) → (own && (left && right)) ≡ eqb (cond own (cond left 0 1 + cond right 0 1) 3) 0
three-tests true true true = refl
three-tests true true false = refl
three-tests true false true = refl
three-tests true false false = refl
three-tests false left right = refl

ready-waits : (vars ops table : List ℕ) (i : ℕ) → is_ready vars ops table i ≡ eqb (waits vars ops table i) 0
unfolding waits
ready-waits vars ops table i =
    three-tests (eqb (get_or table (get_or vars i 0) 0) 0) (has table (get_or ops (2 * i) 0)) (has table (get_or ops (2 * i + 1) 0))

pub least-some : (p : ℕ → Bool) (n r : ℕ) → r < n → T (p r) → ((j : ℕ) → j < r → T (p j) → ⊥) → least_below n p ≡ some r
least-some p n r h t f = go (least_below n p) (least-below p n)
  where
    go : (o : Option ℕ) → Least p n o → o ≡ some r
    go none l = absurd (l r h t)
    go (some x) l =
        elim (dec_lt x r) [
          | yes k ↦ absurd (f x k l.1)
          | no k ↦
              elim (dec_lt r x) [
                | yes m ↦ absurd (l.2 r m t)
                | no m ↦ (let e : x ≡ r = omega arith in ap some e)
              ]
        ]

pub least-none : (p : ℕ → Bool) (n : ℕ) → ((j : ℕ) → j < n → T (p j) → ⊥) → least_below n p ≡ none
least-none p n f = go (least_below n p) (least-below p n)
  where
    go : (o : Option ℕ) → Least p n o → o ≡ none
    go none l = refl
    go (some x) l = absurd (f x l.0 l.1)

module _ {vars ops table waiting marks : List ℕ} (w : Waiting vars ops table waiting marks) {r : ℕ} (f : FoundReady waiting r) where
  not-ready : (j : ℕ) → j < r → T (is_ready vars ops table j) → ⊥
  not-ready j h t =
      let l : j < length vars = omega (arith, f.high, w.long) in
      let z : waits vars ops table j ≡ 0 = eqb→eq (waits vars ops table j) 0 (subst T (ready-waits vars ops table j) t) in
      let c : get_or waiting j 0 ≡ waits vars ops table j = w.counts j l in
      omega (arith, f.none_before j (omega arith) h)

  pub found-next : r < length vars → least_below (length vars) (is_ready vars ops table) ≡ some r
  found-next h =
      let z : waits vars ops table r ≡ 0 = sym (w.counts r h) ∙ f.here (omega (arith, w.long)) in
      least-some (is_ready vars ops table) (length vars) r h (T_true (ready-waits vars ops table r ∙ eq-eqb (waits vars ops table r) 0 z)) not-ready

  pub found_none : length vars ≤ r → least_below (length vars) (is_ready vars ops table) ≡ none
  found_none h = least-none (is_ready vars ops table) (length vars) (λ j l. not-ready j (omega arith))

-- ---- after a number for the variable of gate r, the counts of gates that do not use it stay

module _ {vars ops table waiting marks : List ℕ} (w : Waiting vars ops table waiting marks) (gs : Gates vars ops table) (apart : Apart vars)
    (r x : ℕ) (h : r < length vars) where
  abbrev v : ℕ
  v = get_or vars r 0

  abbrev table' : List ℕ
  table' = set table v x

  table-other : (u : ℕ) → (u ≡ v → ⊥) → get_or table' u 0 ≡ get_or table u 0
  table-other u d = ⊎_elim (λ p. absurd (d p.0)) (λ p. p.1) (get_d_set table v x u (gs.known r h))

  waits-other : (i : ℕ) → i < length vars → (i ≡ r → ⊥) → (get_or ops (2 * i) 0 ≡ v → ⊥) → (get_or ops (2 * i + 1) 0 ≡ v → ⊥)
      → waits vars ops table' i ≡ waits vars ops table i
  unfolding waits
  waits-other i l d a b =
      rw (
        table-other (get_or vars i 0) (λ e. d (apart i r l h e)),
        table-other (get_or ops (2 * i) 0) a,
        table-other (get_or ops (2 * i + 1) 0) b,
      )

  pub stale : {waiting' marks' : List ℕ} → Put waiting marks r (waits vars ops table' r) waiting' marks'
      → Stale vars ops table' v (length ops) waiting' marks'
  stale {waiting'} {marks'} p =
      let y = waits vars ops table' r in
      let inside : r < length waiting = omega (arith, w.long) in
      let at : (i : ℕ) → ((i ≡ r) × (get_or waiting' i 0 ≡ y)) ⊎ ((i ≡ r → ⊥) × (get_or waiting' i 0 ≡ get_or waiting i 0)) =
      λ i. rw p.count (get_d_set waiting r y i inside) in
      record {
        long = ap length p.count ∙ length-set waiting r y ∙ w.long;
        blocks = omega (arith, w.blocks, p.grown.long);
        counts = λ i l a b.
            ⊎_elim (λ q. q.1 ∙ ap (waits vars ops table') (sym q.0))
            (λ q. q.1 ∙ w.counts i l ∙ sym (waits-other i l q.0 (λ e. a (e, low i l)) (λ e. b (e, high i l)))) (at i);
        marked = λ i l z.
            ⊎_elim {C = 0 < get_or marks' (i / 64) 0}
            (λ q. subst (λ (k : ℕ). 0 < get_or marks' (k / 64) 0) (sym q.0) (p.mark (sym q.1 ∙ z)))
            (λ q. p.grown.kept (i / 64) (w.marked i (omega (arith, ap length p.count, length-set waiting r y)) (sym q.1 ∙ z))) (at i);
      }
    where
      low : (i : ℕ) → i < length vars → 2 * i < length ops
      low i l = omega (arith, gs.pairs)

      high : (i : ℕ) → i < length vars → 2 * i + 1 < length ops
      high i l = omega (arith, gs.pairs)

-- other marks that serve as well
pub remarked : {vars ops table waiting marks marks' : List ℕ} → Waiting vars ops table waiting marks → length marks' ≡ length marks
    → Marked waiting marks' → Waiting vars ops table waiting marks'
remarked w e m = record { long = w.long; blocks = omega (arith, w.blocks); counts = w.counts; marked = m }

-- the table has as many words, and so the gates are as they were
pub gates-set : {vars ops table : List ℕ} → Gates vars ops table → (v x : ℕ) → Gates vars ops (set table v x)
gates-set {vars} {ops} {table} g v x =
    record {
      pairs = g.pairs;
      few = g.few;
      known = λ j h. rw (length-set table v x) (g.known j h);
      used = λ j h. rw (length-set table v x) (g.used j h);
    }

-- ---- one gate after the other

pub record Taking (vars ops : List ℕ) (k : ℕ) (table₀ order₀ table order waiting marks : List ℕ) (n next : ℕ) : Type 0 where
  pub done : List ℕ
  pub size : length done ≡ n
  pub past : n ≤ length vars
  pub number : next ≡ k + n
  pub same : length table ≡ length table₀
  pub stored : order ≡ done ++ drop n order₀
  pub rest : taken (length vars) vars ops k table₀
      ≡ (done ++ (taken (length vars - n) vars ops next table).0, (taken (length vars - n) vars ops next table).1)
  pub gates : Gates vars ops table
  pub state : Waiting vars ops table waiting marks

pub start : (vars ops : List ℕ) (k : ℕ) (table order waiting marks : List ℕ) → Gates vars ops table → Waiting vars ops table waiting marks
    → Taking vars ops k table order table order waiting marks 0 k
start vars ops k table order waiting marks g w =
    record {
      done = [];
      size = refl;
      past = omega arith;
      number = omega arith;
      same = refl;
      stored = refl;
      rest =
          let e : length vars ≡ length vars - 0 = omega arith in
          ap (λ (n : ℕ). taken n vars ops k table) e;
      gates = g;
      state = w;
    }

module _ {vars ops : List ℕ} {k : ℕ} {table₀ order₀ table order waiting marks : List ℕ} {n next : ℕ}
    (g : Taking vars ops k table₀ order₀ table order waiting marks n next) where
  taken_more : (m i : ℕ) → least_below (length vars) (is_ready vars ops table) ≡ some i
      → taken (suc m) vars ops next table
      ≡ (i ∷ (taken m vars ops (next + 1) (set table (get_or vars i 0) next)).0, (taken m vars ops (next + 1) (set table (get_or vars i 0) next)).1)
  unfolding taken
  taken_more m i e =
      ap (λ (o : Option ℕ). on_next {A = Taken} o ([], table) (λ j. before j (taken m vars ops (suc next) (set table (get_or vars j 0) next)))) e
      ∙ ap (λ (x : ℕ). before i (taken m vars ops x (set table (get_or vars i 0) next))) (sym (add-one next))

  taken_none : (m : ℕ) → least_below (length vars) (is_ready vars ops table) ≡ none → taken m vars ops next table ≡ ([], table)
  unfolding taken
  taken_none zero e = refl
  taken_none (suc m) e =
      ap (λ (o : Option ℕ). on_next {A = Taken} o ([], table) (λ j. before j (taken m vars ops (suc next) (set table (get_or vars j 0) next)))) e

  pub more : (i : ℕ) → n < length vars → i < length vars → n < length order₀ → least_below (length vars) (is_ready vars ops table) ≡ some i
      → {waiting' marks' : List ℕ} → Waiting vars ops (set table (get_or vars i 0) next) waiting' marks'
      → Taking vars ops k table₀ order₀ (set table (get_or vars i 0) next) (set order n i) waiting' marks' (n + 1) (next + 1)
  more i h l room e w =
      let m : ℕ = length vars - (n + 1) in
      let q : length vars - n ≡ suc m = omega arith in
      let r = taken m vars ops (next + 1) (set table (get_or vars i 0) next) in
      let t : taken (length vars - n) vars ops next table ≡ (i ∷ r.0, r.1) = ap (λ (x : ℕ). taken x vars ops next table) q ∙ taken_more m i e in
      record {
        done = g.done ++ (i ∷ []);
        size = length-append g.done (i ∷ []) ∙ omega (arith, g.size);
        past = omega arith;
        number = omega (arith, g.number);
        same = length-set table (get_or vars i 0) next ∙ g.same;
        stored =
            ap (λ (xs : List ℕ). set xs n i) (g.stored ∙ ap (λ (xs : List ℕ). g.done ++ xs) (drop-cons order₀ n 0 room))
            ∙ set_at g.done (get_or order₀ n 0) (drop (suc n) order₀) i n g.size
            ∙ sym (append_snoc g.done i (drop (suc n) order₀))
            ∙ ap (λ (x : ℕ). g.done ++ (i ∷ []) ++ drop x order₀) (sym (add-one n));
        rest =
            g.rest ∙ ap (λ (x : Taken). (g.done ++ x.0, x.1)) t
            ∙ ap (λ (xs : List ℕ). (xs, r.1)) (sym (append_snoc g.done i r.0));
        gates = gates-set g.gates (get_or vars i 0) next;
        state = w;
      }

  finished : taken (length vars - n) vars ops next table ≡ ([], table) → Numbered vars ops k table₀ order₀ n table order
  finished e =
      let whole : taken (length vars) vars ops k table₀ ≡ (g.done, table) =
      g.rest ∙ ap (λ (x : Taken). (g.done ++ x.0, x.1)) e ∙ ap (λ (xs : List ℕ). (xs, table)) (append-nil g.done) in
      let first : (taken (length vars) vars ops k table₀).0 ≡ g.done = ap (λ (x : Taken). x.0) whole in
      record {
        count = sym g.size ∙ ap length (sym first);
        listed = g.stored ∙ ap (λ (xs : List ℕ). xs ++ drop n order₀) (sym first);
        numbers = sym (ap (λ (x : Taken). x.1) whole);
      }

  pub stopped : least_below (length vars) (is_ready vars ops table) ≡ none → Numbered vars ops k table₀ order₀ n table order
  stopped e = finished (taken_none (length vars - n) e)

  taken-all : (m : ℕ) → m ≡ 0 → taken m vars ops next table ≡ ([], table)
  unfolding taken
  taken-all m e = rw e

  pub end : length vars ≤ n → Numbered vars ops k table₀ order₀ n table order
  end h = finished (taken-all (length vars - n) (omega arith))
