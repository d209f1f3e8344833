-- Tables of numbers: numbers given one after the other, and gates taken one after the other. Assumes nothing.
use mathlib.Core.Path.{◌≡◌, refl, sym, ap, ◌∙◌, subst}
use mathlib.Core.Bool.{Bool, true, false, ◌&&◌, ◌||◌}
use mathlib.Core.List.{List, [], ◌∷◌}
use mathlib.Core.Logic.{◌⊎◌, inl, inr, ⊎_elim}
use mathlib.Core.Option.{Option, none, some}
use Prim.Native.Nat.{ℕ, zero, suc, ◌+◌, ◌*◌, ◌≤◌, ◌<◌}
use native.Mathlib.Nat.{not-suc-le-zero}
use native.Mathlib.Omega.{arith}
use lib.Dec.{T, eqb, ltb, eqb→eq, ltb→lt}
use lib.ListN.{length, get_or, set, length-set}
use lib.Seq.{get_or-set_same, get_or-set_other}
use Rattle.aiger.specs.Search.{least_below}
use Rattle.aiger.proofs.Tests.{and_left, and_right, or_cases}
use Rattle.meaning.proofs.Lists.{get_d_set}
use Rattle.meaning.proofs.Decisions.{Least, least-below}
use Rattle.gate_order.specs.Order.{has, is_ready, given, on_next, before, taken}
use Rattle.gate_order.specs.Waiting.{Below}

-- ---- numbers given one after the other

pub given-length : (k : ℕ) (vs t : List ℕ) → length (given k vs t) ≡ length t
unfolding given
given-length k [] t = refl
given-length k (v ∷ vs) t = given-length (suc k) vs (set t v k) ∙ length-set t v k

-- a variable that is none of them
pub given-other : (k : ℕ) (vs t : List ℕ) (u : ℕ) → ((j : ℕ) → j < length vs → get_or vs j 0 ≡ u → ⊥) → get_or (given k vs t) u 0 ≡ get_or t u 0
unfolding given
given-other k [] t u h = refl
given-other k (v ∷ vs) t u h =
    given-other (suc k) vs (set t v k) u (λ j l. h (suc j) (omega arith)) ∙ get_or-set_other t v u k 0 (λ e. h 0 (omega arith) (sym e))

-- the j-th of them
pub given-at : (k : ℕ) (vs t : List ℕ) (j : ℕ) → Below vs (length t) → ((a b : ℕ) → a < b → b < length vs → get_or vs a 0 ≡ get_or vs b 0 → ⊥)
    → j < length vs → get_or (given k vs t) (get_or vs j 0) 0 ≡ k + j
unfolding given
given-at k [] t j i d h = absurd (not-suc-le-zero h)
given-at k (v ∷ vs) t zero i d h =
    given-other (suc k) vs (set t v k) v (λ j l e. d 0 (suc j) (omega arith) (omega arith) (sym e)) ∙ get_or-set_same t v k 0
    (i 0 (omega arith))
    ∙ omega arith
given-at k (v ∷ vs) t (suc j) i d h =
    given-at (suc k) vs (set t v k) j (λ a l. omega (arith, length-set t v k, i (suc a) (omega arith)))
    (λ a b l m. d (suc a) (suc b) (omega arith) (omega arith)) (omega arith) ∙ omega arith

-- all numbers stay below a bound
set-low : (t : List ℕ) (v x b : ℕ) → v < length t → x < b → ((u : ℕ) → get_or t u 0 < b) → (u : ℕ) → get_or (set t v x) u 0 < b
set-low t v x b i h l u = ⊎_elim (λ e. omega (arith, e.1)) (λ e. omega (arith, e.1, l u)) (get_d_set t v x u i)

pub given-low : (k : ℕ) (vs t : List ℕ) (b : ℕ) → Below vs (length t) → k + length vs ≤ b → ((u : ℕ) → get_or t u 0 < b) → (u : ℕ) → get_or
    (given k vs t) u 0 < b
unfolding given
given-low k [] t b i h l = l
given-low k (v ∷ vs) t b i h l =
    given-low (suc k) vs (set t v k) b (λ a m. omega (arith, length-set t v k, i (suc a) (omega arith))) (omega arith)
    (set-low t v k b (i 0 (omega arith)) (omega arith) l)

-- ---- gates taken one after the other

-- an operand that is the constant, or has a number below b
abbrev pub Numbered : List ℕ → ℕ → ℕ → Type 0
Numbered t b u = (u ≡ 0) ⊎ ((0 < get_or t u 0) × (get_or t u 0 < b))

-- what holds of n gates at most that were taken, numbered from k on: their order, and the table after them
pub record Took (n : ℕ) (vars ops : List ℕ) (k : ℕ) (table order table' : List ℕ) : Type 0 where
  pub few : length order ≤ n
  pub low : (u : ℕ) → get_or table' u 0 < k + length order
  pub inside : (p : ℕ) → p < length order → get_or order p 0 < length vars
  pub blank : (p : ℕ) → p < length order → get_or table (get_or vars (get_or order p 0) 0) 0 ≡ 0
  pub number : (p : ℕ) → p < length order → get_or table' (get_or vars (get_or order p 0) 0) 0 ≡ k + p
  pub left : (p : ℕ) → p < length order → Numbered table' (k + p) (get_or ops (2 * get_or order p 0) 0)
  pub right : (p : ℕ) → p < length order → Numbered table' (k + p) (get_or ops (2 * get_or order p 0 + 1) 0)
  pub kept : (u : ℕ) → 0 < get_or table u 0 → get_or table' u 0 ≡ get_or table u 0
  pub fresh : (u : ℕ) → get_or table u 0 ≡ 0 → 0 < get_or table' u 0 → (p : ℕ) × (p < length order) × (get_or vars (get_or order p 0) 0 ≡ u)
  pub stopped : length order < n → least_below (length vars) (is_ready vars ops table') ≡ none

-- none is taken
took-none : (n : ℕ) (vars ops : List ℕ) (k : ℕ) (table : List ℕ) → ((u : ℕ) → get_or table u 0 < k)
    → (0 < n → least_below (length vars) (is_ready vars ops table) ≡ none) → Took n vars ops k table [] table
took-none n vars ops k table l e =
    record {
      few = omega arith;
      low = λ u. omega (arith, l u);
      inside = λ p h. absurd (not-suc-le-zero h);
      blank = λ p h. absurd (not-suc-le-zero h);
      number = λ p h. absurd (not-suc-le-zero h);
      left = λ p h. absurd (not-suc-le-zero h);
      right = λ p h. absurd (not-suc-le-zero h);
      kept = λ u h. refl;
      fresh = λ u z h. absurd (omega arith);
      stopped = e;
    }

-- an operand that has a number keeps it
has-numbered : (t t' : List ℕ) (b u : ℕ) → T (has t u) → ((v : ℕ) → get_or t v 0 < b)
    → ((v : ℕ) → 0 < get_or t v 0 → get_or t' v 0 ≡ get_or t v 0) → Numbered t' b u
has-numbered t t' b u h l k =
    ⊎_elim (λ e. inl (eqb→eq u 0 e)) (λ e. let p = ltb→lt 0 (get_or t u 0) e in inr (omega (arith, k u p), omega (arith, k u p, l u)))
    (or_cases (eqb u 0) (ltb 0 (get_or t u 0)) h)

module _ (vars ops : List ℕ) (k i : ℕ) (table : List ℕ) (known : Below vars (length table)) (Some-number : 0 < k)
    (l : (u : ℕ) → get_or table u 0 < k)
    (inside : i < length vars) (ready : T (is_ready vars ops table i)) where
  v : ℕ
  v = get_or vars i 0

  next : List ℕ
  next = set table (get_or vars i 0) k

  own : get_or table (get_or vars i 0) 0 ≡ 0
  own = eqb→eq (get_or table (get_or vars i 0) 0) 0 (and_left (eqb (get_or table (get_or vars i 0) 0) 0) _ ready)

  put : get_or (set table (get_or vars i 0) k) (get_or vars i 0) 0 ≡ k
  put = get_or-set_same table (get_or vars i 0) k 0 (known i inside)

  -- what has a number keeps it
  stays : (u : ℕ) → 0 < get_or table u 0 → get_or (set table (get_or vars i 0) k) u 0 ≡ get_or table u 0
  stays u h = get_or-set_other table (get_or vars i 0) u k 0 (λ e. omega (arith, own, ap (λ (x : ℕ). get_or table x 0) e))

  was-blank : (u : ℕ) → get_or (set table (get_or vars i 0) k) u 0 ≡ 0 → get_or table u 0 ≡ 0
  was-blank u z = ⊎_elim (λ e. absurd (omega (arith, e.1))) (λ e. sym e.1 ∙ z) (get_d_set table (get_or vars i 0) k u (known i inside))

  pub next_low : (u : ℕ) → get_or (set table (get_or vars i 0) k) u 0 < suc k
  next_low = set-low table (get_or vars i 0) k (suc k) (known i inside) (omega arith) (λ u. omega (arith, l u))

  -- gate i, and then others
  pub took_more : {n : ℕ} {order table' : List ℕ} → Took n vars ops (suc k) (set table (get_or vars i 0) k) order table' → Took
      (suc n) vars ops k table (i ∷ order) table'
  took_more {n} {order} {table'} t =
      let both = and_right (eqb (get_or table (get_or vars i 0) 0) 0) _ ready in
      let keeps : (u : ℕ) → 0 < get_or table u 0 → get_or table' u 0 ≡ get_or table u 0 = λ u h. t.kept u (omega (arith, stays u h)) ∙ stays u h in
      record {
        few = omega (arith, t.few);
        low = λ u. omega (arith, t.low u);
        inside = λ p. inside-at p;
        blank = λ p. blank-at p;
        number = λ p. number_at p;
        left = λ p. operand_at (λ x. 2 * x)
            (has-numbered table table' k (get_or ops (2 * i) 0) (and_left (has table (get_or ops (2 * i) 0)) _ both) l keeps) t.left p;
        right = λ p. operand_at (λ x. 2 * x + 1)
            (has-numbered table table' k (get_or ops (2 * i + 1) 0) (and_right (has table (get_or ops (2 * i) 0)) _ both) l keeps) t.right p;
        kept = keeps;
        fresh = λ u z h. fresh_at u z h;
        stopped = λ h. t.stopped (omega arith);
      }
    where
      inside-at : (p : ℕ) → p < suc (length order) → get_or (i ∷ order) p 0 < length vars
      inside-at zero h = inside
      inside-at (suc p) h = t.inside p (omega arith)

      blank-at : (p : ℕ) → p < suc (length order) → get_or table (get_or vars (get_or (i ∷ order) p 0) 0) 0 ≡ 0
      blank-at zero h = own
      blank-at (suc p) h = was-blank (get_or vars (get_or order p 0) 0) (t.blank p (omega arith))

      number_at : (p : ℕ) → p < suc (length order) → get_or table' (get_or vars (get_or (i ∷ order) p 0) 0) 0 ≡ k + p
      number_at zero h = t.kept (get_or vars i 0) (omega (arith, put)) ∙ put ∙ omega arith
      number_at (suc p) h = t.number p (omega arith) ∙ omega arith

      operand_at : (f : ℕ → ℕ) → Numbered table' k (get_or ops (f i) 0)
          → ((p : ℕ) → p < length order → Numbered table' (suc k + p) (get_or ops (f (get_or order p 0)) 0))
          → (p : ℕ) → p < suc (length order) → Numbered table' (k + p) (get_or ops (f (get_or (i ∷ order) p 0)) 0)
      operand_at f a b zero h = ⊎_elim (λ e. inl e) (λ e. inr (e.0, omega (arith, e.1))) a
      operand_at f a b (suc p) h = ⊎_elim (λ e. inl e) (λ e. inr (e.0, omega (arith, e.1))) (b p (omega arith))

      fresh_at : (u : ℕ) → get_or table u 0 ≡ 0 → 0 < get_or table' u 0 → (p : ℕ) × (p < suc (length order))
          × (get_or vars (get_or (i ∷ order) p 0) 0 ≡ u)
      fresh_at u z h =
          ⊎_elim (λ e. (0, omega arith, sym e.0))
          (λ e. let r = t.fresh u (e.1 ∙ z) h in (suc r.0, omega (arith, r.1), r.2))
          (get_d_set table (get_or vars i 0) k u (known i inside))

-- taking gates
pub took : (n : ℕ) (vars ops : List ℕ) (k : ℕ) (table : List ℕ) → Below vars (length table) → 0 < k → ((u : ℕ) → get_or table u 0 < k)
    → Took n vars ops k table (taken n vars ops k table).0 (taken n vars ops k table).1
unfolding taken
took zero vars ops k table b p l = took-none 0 vars ops k table l (λ h. absurd (omega arith))
took (suc n) vars ops k table b p l =
    go (least_below (length vars) (is_ready vars ops table)) refl (least-below (is_ready vars ops table) (length vars))
    (λ i h r. took n vars ops (suc k) (set table (get_or vars i 0) k) (λ j m. omega (arith, length-set table (get_or vars i 0) k, b j m))
    (omega arith)
    (next_low vars ops k i table b p l h r))
  where
    go : (o : Option ℕ) → least_below (length vars) (is_ready vars ops table) ≡ o → Least (is_ready vars ops table) (length vars) o
        → ((i : ℕ) → i < length vars → T (is_ready vars ops table i)
        → Took n vars ops (suc k) (set table (get_or vars i 0) k) (taken n vars ops (suc k) (set table (get_or vars i 0) k)).0
        (taken n vars ops (suc k) (set table (get_or vars i 0) k)).1)
        → Took (suc n) vars ops k table
        (on_next {A = List ℕ × List ℕ} o ([], table) (λ i. before i (taken n vars ops (suc k) (set table (get_or vars i 0) k)))).0
        (on_next {A = List ℕ × List ℕ} o ([], table) (λ i. before i (taken n vars ops (suc k) (set table (get_or vars i 0) k)))).1
    go none e m r = took-none (suc n) vars ops k table l (λ h. e)
    go (some i) e m r = took_more vars ops k i table b p l m.0 m.1 (r i m.0 m.1)
