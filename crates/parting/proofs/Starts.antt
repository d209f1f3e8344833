-- Start values that agree with the resets: of renumbered latches, of two lists of latches, and where no start is free. Assumes nothing.
use mathlib.Core.Path.{◌≡◌, refl, sym, ap, ap₂, ◌∙◌, subst}
use mathlib.Core.Bool.{Bool, true, false, cond, ◌&&◌, ◌||◌, and_assoc}
use mathlib.Core.List.{List, [], ◌∷◌, ◌++◌, map}
use mathlib.Core.Logic.{⊎_elim}
use Prim.Native.Nat.{ℕ, zero, suc, ◌+◌, ◌*◌, ◌/◌, ◌%◌, ◌≤◌, ◌<◌}
use native.Mathlib.Omega.{arith}
use borrow.Author.Tests.{eq-eqb, ne_eqb}
use lib.Dec.{T, leb, eqb, leb→le, eqb→eq}
use lib.ListN.{length, get_or, take, drop}
use Rattle.aiger.specs.Lists.{tally}
use Rattle.aiger.specs.Circuit.{Latch, var}
use Rattle.aiger.specs.Frames.{is_free}
use Rattle.aiger.specs.Witness.{agrees}
use Rattle.aiger.proofs.Tests.{and_left, and_right, or_cases}
use Rattle.meaning.proofs.Defined.{no_latch}
use Rattle.joined.specs.Joined.{literal_under, latch_under}

-- what load's tests say of a latch, and that its number is not the constant's
pub record Numbered (σ : ℕ → ℕ) (l : Latch) : Type 0 where
  pub own : 2 ≤ l.lit
  pub number : 1 ≤ σ (var l.lit)
  pub reset : T (leb l.reset 1 || eqb l.reset l.lit)

-- a latch under other numbers has a free start where the latch has one, and else the same reset
pub start_under : (σ : ℕ → ℕ) → σ 0 ≡ 0 → (l : Latch) → Numbered σ l
    → (is_free (latch_under σ l) ≡ is_free l) × (is_free l ≡ false → (latch_under σ l).reset ≡ l.reset)
start_under σ z l n =
    ⊎_elim
    (λ h.
    let k = leb→le l.reset 1 h in
    let v : var l.reset ≡ 0 = omega arith in
    let w : σ (var l.reset) ≡ 0 = ap σ v ∙ z in
    let e : literal_under σ l.reset ≡ l.reset = omega arith in
    let new : literal_under σ l.reset ≡ literal_under σ l.lit → ⊥ = λ q. omega (arith, n.number) in
    let old : l.reset ≡ l.lit → ⊥ = λ q. omega (arith, n.own) in
    (ne_eqb (literal_under σ l.reset) (literal_under σ l.lit) new ∙ sym (ne_eqb l.reset l.lit old), λ _. e))
    (λ h.
    let q = eqb→eq l.reset l.lit h in
    (eq-eqb (literal_under σ l.reset) (literal_under σ l.lit) (ap (literal_under σ) q) ∙ sym (eq-eqb l.reset l.lit q), λ f. absurd (subst T f h)))
    (or_cases (leb l.reset 1) (eqb l.reset l.lit) n.reset)

-- a bit is a start of the renumbered latch where it is one of the latch
bit-under : (σ : ℕ → ℕ) → σ 0 ≡ 0 → (l : Latch) → Numbered σ l → (b : Bool)
    → (is_free (latch_under σ l) || eqb (latch_under σ l).reset (cond b 1 0)) ≡ (is_free l || eqb l.reset (cond b 1 0))
bit-under σ z l n b = go (is_free l) refl
  where
    go : (f : Bool) → is_free l ≡ f → (is_free (latch_under σ l) || eqb (latch_under σ l).reset (cond b 1 0)) ≡ (is_free l || eqb l.reset (cond b 1 0))
    go true e =
        ap (λ (x : Bool). x || eqb (latch_under σ l).reset (cond b 1 0)) ((start_under σ z l n).0 ∙ e)
        ∙ sym (ap (λ (x : Bool). x || eqb l.reset (cond b 1 0)) e)
    go false e = ap₂ (λ (x : Bool) (r : ℕ). x || eqb r (cond b 1 0)) (start_under σ z l n).0 ((start_under σ z l n).1 e)

-- starts of renumbered latches are starts of the latches
pub agrees-under : (σ : ℕ → ℕ) → σ 0 ≡ 0 → (ls : List Latch) → ((j : ℕ) → j < length ls → Numbered σ (get_or ls j no_latch)) → (bs : List Bool)
    → agrees (map (latch_under σ) ls) bs ≡ agrees ls bs
unfolding agrees
agrees-under σ z [] g bs = refl
agrees-under σ z (l ∷ ls) g [] = refl
agrees-under σ z (l ∷ ls) g (b ∷ bs) =
    ap₂ (λ (x y : Bool). x && y) (bit-under σ z l (g 0 (omega arith)) b) (agrees-under σ z ls (λ j h. g (suc j) (omega arith)) bs)

-- starts of two lists of latches
pub agrees-both : (xs ys : List Latch) (bs : List Bool) → agrees (xs ++ ys) bs ≡ (agrees xs (take (length xs) bs) && agrees ys (drop (length xs) bs))
unfolding agrees
agrees-both [] ys bs = refl
agrees-both (x ∷ xs) ys [] = refl
agrees-both (x ∷ xs) ys (b ∷ bs) =
    let p = is_free x || eqb x.reset (cond b 1 0) in
    ap (λ (y : Bool). p && y) (agrees-both xs ys bs) ∙ sym (and_assoc p (agrees xs (take (length xs) bs)) (agrees ys (drop (length xs) bs)))

-- where no start is free there is one start
pub one-start : (ls : List Latch) (xs bs : List Bool) → tally is_free ls ≡ 0 → length xs ≡ length ls → length bs ≡ length ls → T (agrees ls xs) → T (agrees ls bs) → xs ≡ bs
unfolding agrees
one-start [] [] [] f h k s t = refl
one-start [] [] (b ∷ bs) f h k s t = absurd (omega arith)
one-start [] (a ∷ xs) bs f h k s t = absurd (omega arith)
one-start (l ∷ ls) [] bs f h k s t = absurd (omega arith)
one-start (l ∷ ls) (a ∷ xs) [] f h k s t = absurd (omega arith)
one-start (l ∷ ls) (a ∷ xs) (b ∷ bs) f h k s t =
    let p : Bool → Bool = λ x. is_free l || eqb l.reset (cond x 1 0) in
    let none : ◌≡◌ {A = ℕ} (cond (is_free l) 1 0) 0 = omega arith in
    ap₂ (λ (x : Bool) (ys : List Bool). x ∷ ys)
    (same (is_free l) none a b (and_left (p a) (agrees ls xs) s) (and_left (p b) (agrees ls bs) t))
    (one-start ls xs bs (omega arith) (omega arith) (omega arith) (and_right (p a) (agrees ls xs) s) (and_right (p b) (agrees ls bs) t))
  where
    same : (f : Bool) → ◌≡◌ {A = ℕ} (cond f 1 0) 0 → (a b : Bool) → T (f || eqb l.reset (cond a 1 0)) → T (f || eqb l.reset (cond b 1 0)) → a ≡ b
    same true e a b s t = absurd (omega arith)
    same false e true true s t = refl
    same false e false false s t = refl
    same false e true false s t = let x = eqb→eq l.reset 1 s in let y = eqb→eq l.reset 0 t in absurd (omega arith)
    same false e false true s t = let x = eqb→eq l.reset 0 s in let y = eqb→eq l.reset 1 t in absurd (omega arith)
