-- What a C function returns, tells and leaves is determined by what was lent to it and asked. Assumes nothing.
use mathlib.Core.Path.{◌≡◌, refl, sym, ap, ◌∙◌}
use mathlib.Core.List.{List}
use Prim.Native.Nat.{ℕ}
use Rattle.call_forms.specs.History.{State, Call, Returned, Same, user_of}
use Rattle.history.proofs.Calls.{own-step}
use Rattle.interface.specs.Told.{told, number_of, answer_after, output_of, Called}

pub called_same : {s s₁ s₂ : State} {c : Call} {out₁ out₂ answer answer₁ answer₂ : List ℕ} {n₁ n₂ : ℕ}
    → Called s c s₁ out₁ answer n₁ answer₁ → Called s c s₂ out₂ answer n₂ answer₂
    → (n₁ ≡ n₂) × (answer₁ ≡ answer₂) × (out₁ ≡ out₂) × Same (user_of c) s₁ s₂
called_same {answer = answer} x y =
    let e = own-step (record { memory = refl; work = refl; room = refl; own = λ i h. refl }) x.step y.step in (
      x.tells.returns ∙ ap (λ (r : Returned). number_of (told r)) e.0 ∙ sym y.tells.returns,
      x.tells.leaves ∙ ap (λ (r : Returned). answer_after (told r) answer) e.0 ∙ sym y.tells.leaves,
      sym x.output ∙ ap output_of e.0 ∙ y.output,
      e.1,
    )
