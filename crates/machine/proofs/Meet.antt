-- What it does to the list of states met that one state more is met. Assumes nothing.
use mathlib.Core.Path.{◌≡◌, refl, sym, ap, ◌∙◌, subst}
use mathlib.Core.Bool.{Bool, true, false, cond, ◌||◌}
use mathlib.Core.List.{List, [], ◌∷◌, ◌++◌}
use mathlib.Core.Option.{Option, none, some}
use mathlib.Core.Logic.{⊎_elim}
use Prim.Native.Nat.{ℕ, zero, suc, ◌+◌, ◌≤◌, ◌<◌}
use native.Mathlib.Nat.{not-suc-le-zero, le_of_suc-le-suc}
use native.Mathlib.Omega.{arith}
use lib.Dec.{T, eqb, eqb→eq}
use lib.ListN.{length, get_or, length-append, get_or-append}
use lib.Seq.{get_or_at}
use Rattle.aiger.proofs.Tests.{T_true, or_cases}
use Rattle.machine.specs.Layers.{Entry, no_entry, state_of, place_of, met, meet}

-- a state that was met stands somewhere
pub met_at : (s : ℕ) (es : List Entry) → T (met s es) → (i : ℕ) × (i < length es) × (state_of es i ≡ s)
unfolding met
met_at s [] h = absurd h
met_at s (e ∷ es) h =
    ⊎_elim (λ k. (0, omega arith, eqb→eq e.state s k)) (λ k. let r = met_at s es k in (suc r.0, omega (arith, r.1), r.2))
    (or_cases (eqb e.state s) (met s es) h)

-- out is what acc becomes where o is met after prefix y
pub record Met (o : Option ℕ) (y : ℕ) (acc out : List Entry) : Type 0 where
  pub longer : length acc ≤ length out
  pub old : (i : ℕ) → i < length acc → get_or out i no_entry ≡ get_or acc i no_entry
  pub new : (i : ℕ) → length acc ≤ i → i < length out → (i ≡ length acc) × (place_of out i ≡ y) × (o ≡ some (state_of out i))
  pub holds : (s : ℕ) → o ≡ some s → (j : ℕ) × (j < length out) × (state_of out j ≡ s)

pub meets : (o : Option ℕ) (y : ℕ) (acc : List Entry) → Met o y acc (meet o y acc)
unfolding meet
meets none y acc =
    record {
      longer = omega arith;
      old = λ i l. refl;
      new = λ i l k. absurd (omega arith);
      holds = λ s e. absurd (let z : ◌≡◌ {A = ℕ} 0 1 = cc in omega arith);
    }
meets (some s) y acc = go (met s acc) refl
  where
    go : (b : Bool) → met s acc ≡ b → Met (some s) y acc (cond b acc (acc ++ (record { state = s; place = y } ∷ [])))
    go true e =
        record {
          longer = omega arith;
          old = λ i l. refl;
          new = λ i l k. absurd (omega arith);
          holds = λ x q. let z : s ≡ x = cc in let r = met_at s acc (T_true e) in (r.0, r.1, r.2 ∙ z);
        }
    go false e =
        let n : Entry = record { state = s; place = y } in
        let out = acc ++ (n ∷ []) in
        let l : length out ≡ length acc + 1 = length-append acc (n ∷ []) in
        record {
          longer = omega arith;
          old = λ i k. get_or-append acc (n ∷ []) no_entry i k;
          new = λ i h k.
              let q : i ≡ length acc = omega arith in
              let g : get_or out i no_entry ≡ n = get_or_at acc n [] no_entry i (sym q) in
              (q, ap (λ (x : Entry). x.place) g, ap (λ (x : Entry). some x.state) (sym g));
          holds = λ x q.
              let z : s ≡ x = cc in
              (length acc, omega arith, ap (λ (x : Entry). x.state) (get_or_at acc n [] no_entry (length acc) refl) ∙ z);
        }
