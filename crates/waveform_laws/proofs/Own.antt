-- Clause 13.3: an `x` of the witness is x on its own wire. Assumes nothing.
use mathlib.Core.Path.{◌≡◌, refl, sym, ap, ◌∙◌, subst}
use mathlib.Core.Bool.{Bool, true, false, not, cond}
use mathlib.Core.List.{List, [], ◌∷◌, ◌++◌, map}
use mathlib.Core.Option.{Option, none, some}
use Prim.Native.Nat.{ℕ, zero, suc, ◌+◌, ◌-◌, ◌*◌, ◌%◌, ◌^◌, ◌≤◌, ◌<◌}
use native.Mathlib.Nat.{not-suc-le-zero}
use native.Mathlib.Omega.{arith}
use borrow.Author.Tests.{eq-eqb}
use lib.Dec.{T, eqb}
use lib.ListN.{length, get_or, take, length-map, get_or-append, get_or-map}
use lib.Pow.{pow_pos}
use lib.Seq.{get_or-append-add}
use Rattle.aiger.specs.Bits.{bit, nonzero}
use Rattle.aiger.specs.Circuit.{Circuit, Latch, var, literals_right, used_defined, acyclic}
use Rattle.aiger.specs.Frames.{Run, value, value_at}
use Rattle.aiger.specs.Witness.{Witness, read_run}
use Rattle.aiger.proofs.Tests.{below_at}
use Rattle.words.proofs.Bits.{bit-none, bit-all}
use Rattle.completions.specs.Either.{is_either, eithers, completion}
use Rattle.completions.specs.Forms.{completed}
use Rattle.completions.proofs.Completions.{completion-at, eithers-more}
use Rattle.meaning.proofs.Defined.{no_latch, input_at, latch_at, input-in, latch-in, definition}
use Rattle.meaning.proofs.Values.{frame_at, value-even}
use Rattle.meaning.proofs.Runs.{run-satisfies}
use Rattle.vcd.specs.Text.{Level}
use Rattle.vcd.specs.Wires.{literals, literal_at}
use Rattle.levels.proofs.Levels.{over-either}
use Rattle.waveform.specs.Waveform.{is_high, level_at, frame_count}
use Rattle.waveform_laws.proofs.Twins.{other-read}
use Rattle.waveform_laws.proofs.Positions.{read-bits}

-- ---- two completions that differ at an `x`

take-few : (i : ℕ) (w : List ℕ) → eithers (take i w) ≤ eithers w
take-few zero w = omega arith
take-few (suc i) [] = omega arith
take-few (suc i) (c ∷ w) = omega (arith, take-few i w)

module _ (body : List ℕ) (at : ℕ) (e : get_or body at 0 ≡ 120) where
  before : eithers (take at body) < eithers body
  before =
      omega (arith, eithers-more body at, ap (λ (b : Bool). cond {A = ℕ} b 1 0) (eq-eqb (get_or body at 0) 120 e), take-few (at + 1) body)

  bit-there : (v : ℕ) (b : Bool) → bit v (eithers (take at body)) ≡ b → eqb (get_or (completion v body) at 0) 49 ≡ b
  bit-there v b q =
      let k = eithers (take at body) in
      ap (λ (x : ℕ). eqb x 49) (completion-at v body at) ∙ ap (λ (x : ℕ). eqb (completed x (bit v k)) 49) e
      ∙ ap (λ (d : Bool). eqb (completed 120 d) 49) q ∙ go b
    where
      go : (d : Bool) → eqb (completed 120 d) 49 ≡ d
      go true = refl
      go false = refl

  -- a wire that has the value of that bit in every completion
  own-level : (c : Circuit) (b t k : ℕ) → ((v : ℕ) → is_high c b t k (completion v body) ≡ eqb (get_or (completion v body) at 0) 49)
      → level_at c b body t k ≡ Level.either
  unfolding level_at
  own-level c b t k h =
      let n = 2 ^ eithers body in
      let last = n - 1 in
      let some : 0 < n = pow_pos (eithers body) in
      let p : ℕ → Bool = λ v. is_high c b t k (completion v body) in
      let low : p 0 ≡ false = h 0 ∙ bit-there 0 false (bit-none (eithers (take at body))) in
      let high : p last ≡ true = h last ∙ bit-there last true (bit-all (eithers body) (eithers (take at body)) before) in
      over-either n p (λ t. subst T low (below_at n p t 0 some))
      (λ t. subst T (ap not high) (below_at n (λ v. not (p v)) t last (omega arith)))

-- ---- the values of inputs, and of latches in the first frame

input-literal : (c : Circuit) (i : ℕ) → i < length c.inputs → literal_at c i ≡ input_at c i
unfolding literals
input-literal c i h = get_or-append c.inputs (map (λ (l : Latch). l.lit) c.latches ++
    (c.outputs ++ (c.bads ++ c.constraints))) 0 i h

latch-literal : (c : Circuit) (j : ℕ) → j < length c.latches → literal_at c (length c.inputs + j) ≡ (latch_at c j).lit
unfolding literals
latch-literal c j h =
    let lits = map (λ (l : Latch). l.lit) c.latches in
    let rest = c.outputs ++ (c.bads ++ c.constraints) in
    get_or-append-add c.inputs (lits ++ rest) j 0 ∙ get_or-append lits rest 0 j
    (omega (arith, length-map c.latches (λ (l : Latch). l.lit)))
    ∙ get_or-map (λ (l : Latch). l.lit) c.latches j no_latch

module _ (c : Circuit) (right : T (literals_right c)) (known : T (used_defined c)) (a : T (acyclic c)) where
  input-value : (r : Run) (t i : ℕ) → i < length c.inputs → value_at c r t (literal_at c i) ≡ get_or (get_or r.rows t []) i false
  unfolding value_at
  input-value r t i h =
      ap (value (frame_at c r t)) (input-literal c i h) ∙ value-even (frame_at c r t) (input_at c i)
      (definition c right (input_at c i) (input-in c i h)).1
      ∙ (run-satisfies c right known a r t).input t (omega arith) i h

  latch-value : (r : Run) (j : ℕ) → j < length c.latches
      → value_at c r 0 (literal_at c (length c.inputs + j)) ≡ get_or r.start j false
  unfolding value_at
  latch-value r j h =
      ap (value (frame_at c r 0)) (latch-literal c j h) ∙ value-even (frame_at c r 0) (latch_at c j).lit
      (definition c right (latch_at c j).lit (latch-in c j h)).1
      ∙ (run-satisfies c right known a r 0).start j h

  module _ (b : ℕ) (body : List ℕ) where
    -- what is shown of a completion, where the text is read
    high-of : (t k v : ℕ) (y : Witness) → read_run c b (completion v body) ≡ some y
        → is_high c b t k (completion v body) ≡ value_at c y.run t (literal_at c k)
    unfolding is_high
    high-of t k v y q = ap (λ (o : Option Witness). elim o [ none ↦ false | some x ↦ value_at c x.run t (literal_at c k) ]) q

    read-input : (o : Option Witness) → read_run c b (completion 0 body) ≡ o → (t i : ℕ)
        → t < elim o [ none ↦ 0 | some x ↦ length x.run.rows ]
        → i < length c.inputs → (v : ℕ)
        → is_high c b t i (completion v body) ≡ eqb (get_or (completion v body)
        (suc (length c.latches) + (t * (length c.inputs + 1) + i)) 0) 49
    read-input none e t i h l v = absurd (not-suc-le-zero h)
    read-input (some x) e t i h l v =
        let y = other-read c b 0 v body x e in
        high-of t i v y.witness y.reads ∙ input-value y.witness.run t i l
        ∙ (read-bits c b (completion v body) y.witness y.reads).row t i (omega (arith, y.frames-are, h)) l

    read-latch : (o : Option Witness) → read_run c b (completion 0 body) ≡ o → 0 < elim o [ none ↦ 0 | some x ↦ length x.run.rows ]
        → (j : ℕ) → j < length c.latches → (v : ℕ)
        → is_high c b 0 (length c.inputs + j) (completion v body) ≡ eqb (get_or (completion v body) j 0) 49
    read-latch none e h j l v = absurd (not-suc-le-zero h)
    read-latch (some x) e h j l v =
        let y = other-read c b 0 v body x e in
        high-of 0 (length c.inputs + j) v y.witness y.reads ∙ latch-value y.witness.run j l
        ∙ (read-bits c b (completion v body) y.witness y.reads).start j l

    -- an `x` of a row is x on the wire of its input in that frame
    pub own-input : (t i : ℕ) → t < frame_count c b body → i < length c.inputs
        → get_or body (suc (length c.latches) + (t * (length c.inputs + 1) + i)) 0 ≡ 120 → level_at c b body t i ≡ Level.either
    unfolding frame_count
    own-input t i h l e =
        own-level body (suc (length c.latches) + (t * (length c.inputs + 1) + i)) e c b t i
        (read-input (read_run c b (completion 0 body)) refl t i h l)

    -- and one of the start values on the wire of its latch in the first
    pub own-latch : (j : ℕ) → 0 < frame_count c b body → j < length c.latches → get_or body j 0 ≡ 120
        → level_at c b body 0 (length c.inputs + j) ≡ Level.either
    unfolding frame_count
    own-latch j h l e = own-level body j e c b 0 (length c.inputs + j) (read-latch (read_run c b (completion 0 body)) refl h j l)
