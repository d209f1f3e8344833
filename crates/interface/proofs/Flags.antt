-- A none is told with its flag. Assumes nothing.
use mathlib.Core.Path.{◌≡◌, ap, ◌∙◌}
use mathlib.Core.Bool.{Bool}
use mathlib.Core.List.{List}
use Prim.Native.Nat.{ℕ}
use Rattle.answer_places.specs.Places.{none, places, no_counts, overlaid}
use Rattle.interface.specs.Told.{flag}

pub flag-told : (k : ℕ) (b : Bool) (answer : List ℕ) {answer' : List ℕ} {x : ℕ} → x ≡ flag b → answer' ≡ overlaid (places none k 0 0 no_counts x 0) answer
    → answer' ≡ overlaid (places none k 0 0 no_counts (flag b) 0) answer
flag-told k b answer e h = h ∙ ap (λ (n : ℕ). overlaid (places none k 0 0 no_counts n 0) answer) e
