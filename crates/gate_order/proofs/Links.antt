-- Laws of the slots that use a variable, linked from the last to the first. Assumes nothing.
use mathlib.Core.Path.{◌≡◌, refl, sym, ap, ◌∙◌, subst}
use mathlib.Core.Bool.{Bool, true, false, cond}
use mathlib.Core.List.{List}
use mathlib.Core.Logic.{◌⊎◌, inl, inr, ⊎_elim}
use mathlib.Core.Option.{Option, none, some}
use Prim.Native.Nat.{ℕ, zero, suc, ◌+◌, ◌≤◌, ◌<◌}
use native.Mathlib.Nat.{eq-or-lt_of_le, le_of_suc-le-suc}
use native.Mathlib.Numerals.{add-one}
use native.Mathlib.Omega.{arith}
use borrow.Author.Tests.{eq-eqb, ne_eqb}
use lib.Dec.{T, eqb, eqb→eq}
use lib.ListN.{length, get_or, set, length-set}
use Rattle.aiger.specs.Lists.{last_below}
use Rattle.aiger.proofs.Tests.{T_true}
use Rattle.meaning.proofs.Lists.{get_d_set}
use Rattle.gate_order.specs.Waiting.{uses, link, Users, Zeros}

-- ---- the last number that passes

-- o is the last number below n that passes, if there is one
abbrev pub Last : (ℕ → Bool) → ℕ → Option ℕ → Type 0
Last p n (some s) = (s < n) × T (p s) × ((x : ℕ) → s < x → x < n → T (p x) → ⊥)
Last p n none = (x : ℕ) → x < n → T (p x) → ⊥

pub last-below : (p : ℕ → Bool) (n : ℕ) → Last p n (last_below p n)
unfolding last_below
last-below p zero = λ x l t. absurd (omega arith)
last-below p (suc n) = go (p n) refl (last_below p n) (last-below p n)
  where
    back : p n ≡ false → (x : ℕ) → x < suc n → T (p x) → x < n
    back e x l t = ⊎_elim (λ q. absurd (subst T (ap p q ∙ e) t)) (λ k. k) (eq-or-lt_of_le (le_of_suc-le-suc l))

    go : (b : Bool) → p n ≡ b → (o : Option ℕ) → Last p n o → Last p (suc n) (cond b (some n) o)
    go true e o h = (omega arith, T_true e, λ x l m t. absurd (omega arith))
    go false e (some s) h = (omega (arith, h.0), h.1, λ x l m t. h.2 x l (back e x m t) t)
    go false e none h = λ x l t. h x (back e x l t) t

-- ---- one slot after the other

pub record Linked (ops links₀ links : List ℕ) (s : ℕ) : Type 0 where
  pub past : s ≤ length ops
  pub kept : length links ≡ length links₀
  pub users : Users ops s links

pub start : (ops links : List ℕ) → Zeros links → Linked ops links links 0
unfolding last_below
start ops links z =
    record { past = omega arith; kept = refl; users = record { starts = λ v h. z v; goes = λ s h. absurd (omega arith) } }

module _ {ops links₀ links : List ℕ} {s : ℕ} (g : Linked ops links₀ links s) where
  module _ (h : s < length ops) (room : 4097 + length ops ≤ length links₀) (low : get_or ops s 0 < 4097) where
    abbrev v : ℕ
    v = get_or ops s 0

    abbrev middle : List ℕ
    middle = set links (4097 + s) (get_or links v 0)

    abbrev after : ℕ → List ℕ
    after x = set middle v x

    long : length middle ≡ length links
    long = length-set links (4097 + s) (get_or links v 0)

    -- what stands after the two stores
    at-start : (x : ℕ) (u : ℕ) → u < 4097
        → ((u ≡ v) × (get_or (after x) u 0 ≡ x)) ⊎ ((u ≡ v → ⊥) × (get_or (after x) u 0 ≡ get_or links u 0))
    at-start x u l =
        ⊎_elim {C = ((u ≡ v) × (get_or (after x) u 0 ≡ x)) ⊎ ((u ≡ v → ⊥) × (get_or (after x) u 0 ≡ get_or links u 0))} (λ p. inl p)
        (λ p. inr (p.0, p.1 ∙ low-kept)) (get_d_set middle v x u (omega (arith, long, g.kept)))
      where
        low-kept : get_or middle u 0 ≡ get_or links u 0
        low-kept =
            ⊎_elim (λ p. absurd (omega (arith, p.0))) (λ p. p.1) (get_d_set links (4097 + s) (get_or links v 0) u (omega (arith, g.kept)))

    at_slot : (x : ℕ) (r : ℕ) → ((r ≡ s) × (get_or (after x) (4097 + r) 0 ≡ get_or links v 0)) ⊎ ((r ≡ s → ⊥) × (get_or (after x) (4097 + r) 0 ≡ get_or links (4097 + r) 0))
    at_slot x r =
        ⊎_elim {C = ((r ≡ s) × (get_or (after x) (4097 + r) 0 ≡ get_or links v 0)) ⊎ ((r ≡ s → ⊥) × (get_or (after x) (4097 + r) 0 ≡ get_or links (4097 + r) 0))}
        (λ p. inl (omega (arith, p.0), high-kept ∙ p.1)) (λ p. inr ((λ e. p.0 (omega arith)), high-kept ∙ p.1))
        (get_d_set links (4097 + s) (get_or links v 0) (4097 + r) (omega (arith, g.kept)))
      where
        high-kept : get_or (after x) (4097 + r) 0 ≡ get_or middle (4097 + r) 0
        high-kept = ⊎_elim (λ p. absurd (omega (arith, p.0))) (λ p. p.1) (get_d_set middle v x (4097 + r) (omega (arith, long, g.kept)))

    last-here : last_below (uses ops v) (suc s) ≡ some s
    unfolding last_below
    last-here = rw (eq-eqb (get_or ops s 0) v refl)

    last-other : (u : ℕ) → (u ≡ v → ⊥) → last_below (uses ops u) (suc s) ≡ last_below (uses ops u) s
    unfolding last_below
    last-other u n = rw (ne_eqb (get_or ops s 0) u (λ e. n (sym e)))

    pub more : (x : ℕ) → x ≡ s + 1 → Linked ops links₀ (after x) (s + 1)
    more x e =
        record {
          past = omega arith;
          kept = length-set middle v x ∙ long ∙ g.kept;
          users = record {
            starts = λ u l.
                ⊎_elim {C = get_or (after x) u 0 ≡ link (last_below (uses ops u) (s + 1))}
                (λ p. p.1 ∙ e ∙ add-one s ∙ sym (ap link (ap₂' p.0))) (λ p. p.1 ∙ g.users.starts u l ∙ sym (ap link (past-other u p.0)))
                (at-start x u l);
            goes = λ r l.
                ⊎_elim {C = get_or (after x) (4097 + r) 0 ≡ link (last_below (uses ops (get_or ops r 0)) r)}
                (λ p. p.1 ∙ g.users.starts v low ∙ sym (ap (λ (k : ℕ). link (last_below (uses ops (get_or ops k 0)) k)) p.0))
                (λ p. p.1 ∙ g.users.goes r (other r l p.0)) (at_slot x r);
          };
        }
      where
        ap₂' : {u : ℕ} → u ≡ v → last_below (uses ops u) (s + 1) ≡ some s
        ap₂' {u} q = ap (λ (k : ℕ). last_below (uses ops k) (s + 1)) q ∙ ap (last_below (uses ops v)) (add-one s) ∙ last-here

        past-other : (u : ℕ) → (u ≡ v → ⊥) → last_below (uses ops u) (s + 1) ≡ last_below (uses ops u) s
        past-other u n = ap (last_below (uses ops u)) (add-one s) ∙ last-other u n

        other : (r : ℕ) → r < s + 1 → (r ≡ s → ⊥) → r < s
        other r l n = omega arith

  pub end : length ops ≤ s → Users ops (length ops) links
  end h =
      let e : s ≡ length ops = omega (arith, g.past) in
      subst (λ (k : ℕ). Users ops k links) e g.users
