-- A generated text part by part, and each part line by line. Assumes nothing.
use mathlib.Core.Path.{◌≡◌, refl, ◌∙◌, ap}
use mathlib.Core.List.{List, [], ◌∷◌, ◌++◌, map, append_assoc, append-nil}
use Prim.Native.Nat.{ℕ, suc, ◌+◌, ◌*◌}
use Rattle.aiger.specs.Binary.{implied}
use Rattle.aiger.specs.Signature.{step}
use Rattle.aiger.specs.Write.{line_of, lines_of, literal_row, latch_row, gate_row}
use Rattle.roundtrip.proofs.LoadValid.{implied-length}
use Rattle.generated.specs.Generated.{after, picked, drawn_latches, drawn_gates, generated, six_text, generated_text}
use Rattle.generated.specs.Parts.{head_text, inputs_text, latches_text, bad_text, gates_text}
use Rattle.generated.proofs.Drawn.{drawn-latches, drawn-gates}

-- header, inputs, latches, the bad line, gates
pub text-parts : (s I L A : ℕ)
    → generated_text s I L A
    ≡ head_text I L A
    ++ (inputs_text 1 I
    ++ (latches_text (2 * (I + L + A) + 2) s (I + 1) L ++ (bad_text (I + L + A) ++ gates_text (after L s) (I + L + 1) A)))
unfolding six_text generated lines_of
text-parts s I L A =
    simp (
      implied-length 1 I,
      drawn-latches (2 * (I + L + A) + 2) s (I + 1) L,
      drawn-gates (after L s) (I + L + 1) A,
      append_assoc,
      append-nil,
    )

module _ (v k : ℕ) where
  pub inputs-more : inputs_text v (suc k) ≡ line_of (2 * v) [] ++ inputs_text (suc v) k
  unfolding implied lines_of
  inputs-more = refl

  pub latches-more : (n s : ℕ) → latches_text n s v (suc k) ≡ line_of (2 * v) (picked n (step s) ∷ []) ++ latches_text n (step s) (suc v) k
  unfolding drawn_latches latch_row lines_of
  latches-more n s = refl

  pub gates-more : (s : ℕ)
      → gates_text s v (suc k)
      ≡ line_of (2 * v) (picked (2 * v) (step s) ∷ picked (2 * v) (step (step s)) ∷ []) ++ gates_text (step (step s)) (suc v) k
  unfolding drawn_gates lines_of
  gates-more s = refl

pub inputs-none : (v : ℕ) → inputs_text v 0 ≡ []
unfolding implied lines_of
inputs-none v = refl

pub latches-none : (n s v : ℕ) → latches_text n s v 0 ≡ []
unfolding drawn_latches lines_of
latches-none n s v = refl

pub gates-none : (s v : ℕ) → gates_text s v 0 ≡ []
unfolding drawn_gates lines_of
gates-none s v = refl
