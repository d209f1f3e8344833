-- Lines of a generated text by the draws that were made for them: one line less, and how long lines are. Assumes nothing.
use mathlib.Core.Path.{◌≡◌, refl, sym, ap, ap₂, ◌∙◌}
use mathlib.Core.List.{List, [], ◌∷◌, ◌++◌}
use Prim.Native.Nat.{ℕ, zero, suc, ◌+◌, ◌-◌, ◌*◌, ◌≤◌, ◌<◌}
use native.Mathlib.Numerals.{add-one}
use native.Mathlib.Omega.{arith}
use lib.ListN.{length, length-append}
use Rattle.aiger.specs.Text.{digits}
use Rattle.aiger.specs.Signature.{step}
use Rattle.aiger.specs.Write.{line_of}
use Rattle.numbers.proofs.Digits.{digits-most}
use Rattle.output.specs.Row.{number_text, row_text}
use Rattle.output.proofs.Row.{row_line}
use Rattle.generator.specs.declared.Generator.{Generator}
use Rattle.generator.specs.Draws.{started_at}
use Rattle.generated.specs.Generated.{after, picked}
use Rattle.generated.specs.Parts.{head_text, inputs_text, latches_text, gates_text}
use Rattle.generated.proofs.Parts.{inputs-more, latches-more, gates-more, inputs-none, latches-none, gates-none}
use Rattle.generated.proofs.Short.{line-length, line-longer, head-length}
use Rattle.generate.specs.declared.Choice.{Choice}
use Rattle.generate.specs.declared.Operands.{Operands}
use Rattle.generate.specs.declared.Place.{Place}
use Rattle.generate.specs.Steps.{choice, operands_of, past_latches}

-- rows of one, two, three and six numbers
pub line-one : (a : ℕ) → number_text a 0 ≡ line_of a []
unfolding line_of
line-one a = refl

pub line-two : (a b : ℕ) → row_text (a ∷ b ∷ []) 0 2 ≡ line_of a (b ∷ [])
line-two a b = row_line (a ∷ b ∷ []) 0 1

pub line-three : (a b c : ℕ) → row_text (a ∷ b ∷ c ∷ []) 0 3 ≡ line_of a (b ∷ c ∷ [])
line-three a b c = row_line (a ∷ b ∷ c ∷ []) 0 2

pub line-six : (a b c d e f : ℕ) → row_text (a ∷ b ∷ c ∷ d ∷ e ∷ f ∷ []) 0 6 ≡ line_of a (b ∷ c ∷ d ∷ e ∷ f ∷ [])
line-six a b c d e f = row_line (a ∷ b ∷ c ∷ d ∷ e ∷ f ∷ []) 0 5

-- ---- nothing is left

pub inputs-done : (v k : ℕ) → k ≤ 0 → inputs_text v k ≡ []
inputs-done v zero h = inputs-none v
inputs-done v (suc k) h = absurd (omega arith)

pub latches-done : (n s v k : ℕ) → k ≤ 0 → latches_text n s v k ≡ []
latches-done n s v zero h = latches-none n s v
latches-done n s v (suc k) h = absurd (omega arith)

pub gates-done : (s v k : ℕ) → k ≤ 0 → gates_text s v k ≡ []
gates-done s v zero h = gates-none s v
gates-done s v (suc k) h = absurd (omega arith)

pub after-done : (k s : ℕ) → k ≤ 0 → after k s ≡ s
unfolding after
after-done zero s h = refl
after-done (suc k) s h = absurd (omega arith)

-- ---- one line less

pub inputs-next : (v k : ℕ) → 0 < k → inputs_text v k ≡ number_text (2 * v) 0 ++ inputs_text (v + 1) (k - 1)
inputs-next v zero h = absurd (omega arith)
inputs-next v (suc k) h = let z : suc k - 1 ≡ k = omega arith in rw (z, add-one v, line-one (2 * v)) (inputs-more v k)

latches-next : (n s v k : ℕ) → 0 < k
    → latches_text n s v k ≡ line_of (2 * v) (picked n (step s) ∷ []) ++ latches_text n (step s) (v + 1) (k - 1)
latches-next n s v zero h = absurd (omega arith)
latches-next n s v (suc k) h = let z : suc k - 1 ≡ k = omega arith in rw (z, add-one v) (latches-more v k n s)

gates-next : (s v k : ℕ) → 0 < k
    → gates_text s v k
    ≡ line_of (2 * v) (picked (2 * v) (step s) ∷ picked (2 * v) (step (step s)) ∷ []) ++ gates_text (step (step s)) (v + 1) (k - 1)
gates-next s v zero h = absurd (omega arith)
gates-next s v (suc k) h = let z : suc k - 1 ≡ k = omega arith in rw (z, add-one v) (gates-more v k s)

after_next : (k s : ℕ) → 0 < k → after k s ≡ after (k - 1) (step s)
unfolding after
after_next zero s h = absurd (omega arith)
after_next (suc k) s h = let z : suc k - 1 ≡ k = omega arith in rw z

-- ---- lengths

pub inputs-longer : (v k : ℕ) → 0 < k → length (inputs_text v k) ≡ length (digits (2 * v)) + 1 + length (inputs_text (v + 1) (k - 1))
inputs-longer v k h =
    ap length (inputs-next v k h)
    ∙ omega (arith, length-append (number_text (2 * v) 0) (inputs_text (v + 1) (k - 1)), length-append (digits (2 * v)) (10 ∷ []))

two-length : (a b : ℕ) → length (line_of a (b ∷ [])) ≡ length (digits a) + length (digits b) + 2
two-length a b = omega (arith, line-longer a b [], line-length b)

three-length : (a b c : ℕ) → length (line_of a (b ∷ c ∷ [])) ≡ length (digits a) + length (digits b) + length (digits c) + 3
three-length a b c = omega (arith, line-longer a b (c ∷ []), two-length b c)

pub inputs-most : (v k : ℕ) → length (inputs_text v k) ≤ 11 * k
inputs-most v zero = omega (arith, ap length (inputs-none v))
inputs-most v (suc k) =
    omega (
      arith,
      ap length (inputs-more v k),
      length-append (line_of (2 * v) []) (inputs_text (suc v) k),
      line-length (2 * v),
      digits-most 9 (2 * v),
      inputs-most (suc v) k,
    )

pub latches-most : (n s v k : ℕ) → length (latches_text n s v k) ≤ 22 * k
latches-most n s v zero = omega (arith, ap length (latches-none n s v))
latches-most n s v (suc k) =
    let x = picked n (step s) in
    omega (
      arith,
      ap length (latches-more v k n s),
      length-append (line_of (2 * v) (x ∷ [])) (latches_text n (step s) (suc v) k),
      two-length (2 * v) x,
      digits-most 9 (2 * v),
      digits-most 9 x,
      latches-most n (step s) (suc v) k,
    )

pub gates-most : (s v k : ℕ) → length (gates_text s v k) ≤ 33 * k
gates-most s v zero = omega (arith, ap length (gates-none s v))
gates-most s v (suc k) =
    let x = picked (2 * v) (step s) in
    let y = picked (2 * v) (step (step s)) in
    omega (
      arith,
      ap length (gates-more v k s),
      length-append (line_of (2 * v) (x ∷ y ∷ [])) (gates_text (step (step s)) (suc v) k),
      three-length (2 * v) x y,
      digits-most 9 (2 * v),
      digits-most 9 x,
      digits-most 9 y,
      gates-most (step (step s)) (suc v) k,
    )

-- ---- a latch whose next literal was drawn

module _ (g : Generator) (x : Choice) (n v k : ℕ) (e : x ≡ choice g n) (h : 0 < k) where
  pub latch-line : latches_text n g.state v k ≡ line_of (2 * v) (x.literal ∷ []) ++ latches_text n x.generator.state (v + 1) (k - 1)
  latch-line = rw e (latches-next n g.state v k h)

  pub latch-longer : length (latches_text n g.state v k)
      ≡ length (digits (2 * v)) + length (digits x.literal) + 2 + length (latches_text n x.generator.state (v + 1) (k - 1))
  latch-longer =
      ap length latch-line
      ∙ omega (
        arith,
        length-append (line_of (2 * v) (x.literal ∷ [])) (latches_text n x.generator.state (v + 1) (k - 1)),
        two-length (2 * v) x.literal,
      )

  pub latch-after : after k g.state ≡ after (k - 1) x.generator.state
  latch-after = rw e (after_next k g.state h)

-- where no latch is left, what was counted is the place after them
pub latches-end : (g : Generator) (first n literals total : ℕ) (state : Generator) (v left : ℕ) → left ≤ 0
    → total + length (latches_text literals state.state v left) ≡ length (latches_text literals g.state first n)
    → after left state.state ≡ after n g.state
    → ◌≡◌ {A = Place} (record { at = total; generator = state }) (past_latches g first n literals)
latches-end g first n literals total state v left h e f =
    let a : total ≡ length (latches_text literals g.state first n) =
    omega (arith, ap length (latches-done literals state.state v left h)) in
    let b : state.state ≡ after n g.state = sym (after-done left state.state h) ∙ f in
    ap₂ (λ (x y : ℕ). record { at = x; generator = started_at y }) a b

-- ---- a gate whose operands were drawn

module _ (g : Generator) (x : Operands) (v k : ℕ) (e : x ≡ operands_of g (2 * v)) (h : 0 < k) where
  pub gate-line : gates_text g.state v k
      ≡ line_of (2 * v) (x.left ∷ x.right ∷ []) ++ gates_text x.generator.state (v + 1) (k - 1)
  gate-line = rw e (gates-next g.state v k h)

  pub gate-longer : length (gates_text g.state v k)
      ≡ length (digits (2 * v)) + length (digits x.left) + length (digits x.right) + 3
      + length (gates_text x.generator.state (v + 1) (k - 1))
  gate-longer =
      ap length gate-line
      ∙ omega (
        arith,
        length-append (line_of (2 * v) (x.left ∷ x.right ∷ [])) (gates_text x.generator.state (v + 1) (k - 1)),
        three-length (2 * v) x.left x.right,
      )

-- both draws, one after the other
pub both-drawn : (g : Generator) (x y : Choice) (own : ℕ) → x ≡ choice g own → y ≡ choice x.generator own
    → ◌≡◌ {A = Operands} (record { left = x.literal; right = y.literal; generator = y.generator }) (operands_of g own)
both-drawn g x y own e f = rw (f, e)

-- the header has at most 52 bytes, whatever the counts
pub head-most : (I L A : ℕ) → length (head_text I L A) ≤ 52
head-most I L A =
    omega (
      arith,
      head-length I L A,
      digits-most 9 (I + L + A),
      digits-most 9 I,
      digits-most 9 L,
      digits-most 9 A,
    )
