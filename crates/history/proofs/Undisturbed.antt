-- What a user's calls return is what they return in the history without the other user's calls other than accepted loads. Clause 12.7.
-- Assumes nothing.
use mathlib.Core.Path.{◌≡◌, refl, sym, ap, ap₂, ◌∙◌, subst}
use mathlib.Core.Bool.{Bool, true, false, cond, ◌||◌}
use mathlib.Core.List.{List, [], ◌∷◌, map}
use mathlib.Core.Logic.{⊎_elim}
use Prim.Native.Nat.{ℕ}
use native.Mathlib.Omega.{arith}
use lib.Dec.{T, eqb, eqb→eq}
use Rattle.aiger.proofs.Tests.{T_true, or_cases}
use Rattle.meaning.proofs.Lists.{or_left, or_right, eqb_of}
use Rattle.call_forms.specs.History.{State, Call, Returned, Step, Event, History, Same, user_of, is_accepted}
use Rattle.history.specs.Concerning.{concerns, concerning}
use Rattle.history.proofs.Calls.{own-step, load_step, other_step}
use Rattle.history.proofs.Moves.{Moved, own-moves, accepted-moves}

abbrev calls : List Event → List Call
calls es = map (λ (e : Event). e.call) es

abbrev returns : List Event → List Returned
returns es = map (λ (e : Event). e.returned) es

-- a call that concerns user u returns one thing
concerned : (u : ℕ) (c : Call) (r r' : Returned) {s t s₁ t₁ : State} → Same u s t → T (eqb (user_of c) u || is_accepted r) → Step s c r s₁ → Step t c r' t₁
    → (r ≡ r') × Same u s₁ t₁
concerned u c r r' {s} {t} {s₁} {t₁} a h x y =
    ⊎_elim
    (λ k.
    let e = eqb→eq (user_of c) u k in
    let z = own-step (subst (λ (v : ℕ). Same v s t) (sym e) a) x y in
    (z.0, subst (λ (v : ℕ). Same v s₁ t₁) e z.1))
    (λ k. load_step u a k x y)
    (or_cases (eqb (user_of c) u) (is_accepted r) h)

false-not : (b : Bool) → b ≡ false → T b → ⊥
false-not true e t = subst T e t
false-not false e t = t

-- the theorem: from states that are the same to user u, a history and one that has its calls that concern u, and no others, return the
-- same for them
pub undisturbed : (u : ℕ) (es es₂ : List Event) {s t : State} → Same u s t → History s es → History t es₂
    → map (λ (e : Event). e.call) es₂ ≡ map (λ (e : Event). e.call) (concerning u es)
    → map (λ (e : Event). e.returned) es₂ ≡ map (λ (e : Event). e.returned) (concerning u es)
unfolding concerning
undisturbed u [] [] a h k e = refl
undisturbed u [] (x ∷ xs) a h k e = let z : ◌≡◌ {A = ℕ} 0 1 = cc in absurd (omega arith)
undisturbed u (x ∷ xs) es₂ {s} {t} a (History.goes {s' = s₁} st h) k e =
    go (concerns u x) refl es₂ k e (λ ys t' b l d. undisturbed u xs ys {s = s₁} {t = t'} b h l d)
  where
    go : (b : Bool) → concerns u x ≡ b → (es₂ : List Event) → History t es₂ → calls es₂ ≡ calls (cond b (x ∷ concerning u xs) (concerning u xs))
        → ((ys : List Event) (t' : State) → Same u s₁ t' → History t' ys → calls ys ≡ calls (concerning u xs) → returns ys ≡ returns (concerning u xs))
        → returns es₂ ≡ returns (cond b (x ∷ concerning u xs) (concerning u xs))
    go true c [] k d f = let z : ◌≡◌ {A = ℕ} 0 1 = cc in absurd (omega arith)
    go true c (y ∷ ys) (History.goes {s' = t₁} su l) d f =
        let one : y.call ≡ x.call = cc in
        let rest : calls ys ≡ calls (concerning u xs) = cc in
        let z = concerned u x.call x.returned y.returned a (T_true c) st (subst (λ (v : Call). Step t v y.returned t₁) one su) in
        ap₂ ◌∷◌ (sym z.0) (f ys t₁ z.1 l rest)
    go false c ys k d f =
        f ys t
        (other_step u a (λ q. false-not (concerns u x) c (or_left (eqb (user_of x.call) u) (is_accepted x.returned) (eqb_of q)))
        (λ q. false-not (concerns u x) c (or_right (eqb (user_of x.call) u) (is_accepted x.returned) q)) st)
        k d

-- that shorter history is there: the events that concern user u, with what they returned, are a history by themselves
pub apart : (u : ℕ) (es : List Event) {s t : State} → Same u s t → History s es → History t (concerning u es)
unfolding concerning
apart u [] a h = History.ends
apart u (x ∷ xs) {s} {t} a (History.goes {s' = s₁} st h) = go (concerns u x) refl (λ t' b. apart u xs {s = s₁} {t = t'} b h)
  where
    moved : T (eqb (user_of x.call) u || is_accepted x.returned) → Moved u t x.call x.returned s₁
    moved k =
        ⊎_elim
        (λ q.
        let e = eqb→eq (user_of x.call) u q in
        subst (λ (v : ℕ). Moved v t x.call x.returned s₁) e (own-moves (subst (λ (v : ℕ). Same v s t) (sym e) a) st))
        (λ q. accepted-moves u a q st)
        (or_cases (eqb (user_of x.call) u) (is_accepted x.returned) k)

    go : (b : Bool) → concerns u x ≡ b → ((t' : State) → Same u s₁ t' → History t' (concerning u xs))
        → History t (cond b (x ∷ concerning u xs) (concerning u xs))
    go true c f = let m = moved (T_true c) in History.goes m.step (f m.next m.same)
    go false c f =
        f t
        (other_step u a (λ q. false-not (concerns u x) c (or_left (eqb (user_of x.call) u) (is_accepted x.returned) (eqb_of q)))
        (λ q. false-not (concerns u x) c (or_right (eqb (user_of x.call) u) (is_accepted x.returned) q)) st)
