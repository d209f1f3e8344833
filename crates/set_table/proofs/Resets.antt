-- The start values of latches, and the edge of the start states. Assumes nothing.
use mathlib.Core.Path.{◌≡◌, refl, sym, ap, ap₂, ◌∙◌}
use mathlib.Core.Bool.{Bool, true, false, cond}
use mathlib.Core.List.{List, map}
use mathlib.Core.Option.{none, some}
use Prim.Native.Nat.{ℕ, ◌+◌, ◌-◌, ◌≤◌, ◌<◌}
use native.Mathlib.Decide.{dec_lt}
use native.Mathlib.Omega.{arith}
use lib.Dec.{eqb}
use lib.ListN.{length, get_or, drop, length-map, drop_of_length-le, get_or-eq_default}
use lib.Seq.{ext_get_or}
use Rattle.aiger.specs.Circuit.{Circuit, Latch}
use Rattle.aiger.specs.Frames.{is_free}
use Rattle.literals.specs.Literal.{literal, word_of}
use Rattle.literals.specs.declared.Lit.{Lit}
use Rattle.literals.proofs.Words.{word_read}
use Rattle.layout.specs.Words.{circuit_in}
use Rattle.layout.specs.declared.Layout.{Layout}
use Rattle.meaning.specs.Frame.{no_latch, latch_at}
use Rattle.meaning.proofs.Lists.{get_or-map}
use Rattle.frames.proofs.Facts.{latch-place, latches-are}
use Rattle.diagrams.specs.Words.{flip}
use Rattle.diagrams.specs.States.{State, Outcome, outcome, and_then, made}
use Rattle.conjunction.specs.Conjunction.{both}
use Rattle.diagram_rows.specs.Words.{triple_word, Prepared}
use Rattle.diagram_rows.proofs.Read.{word_in, word_out, latch-read}
use Rattle.diagram_rows.proofs.Follow.{rest, Begun}
use Rattle.set_stage.specs.Plans.{reset_word, base_of}
use Rattle.set_stage.specs.Table.{with_reset, with_resets}

-- ---- what is read

module _ {m : List ℕ} {layout : Layout} (p : Prepared m layout) (j : ℕ) where
  reset-read : triple_word m layout.latches layout.l j 2 ≡ (latch_at (circuit_in m) j).reset
  reset-read = elim (dec_lt j layout.l) [
    | yes h ↦ word_in j layout.l _ _ h (sym (ap (λ (x : Latch). x.reset) (latch-place p.1 j h)))
    | no h ↦
        word_out j layout.l _ (omega arith)
        ∙ sym (ap (λ (x : Latch). x.reset) (get_or-eq_default (circuit_in m).latches no_latch (omega (arith, latches-are p.1))))
  ]

  module _ (reset : Lit) (er : reset ≡ literal (triple_word m layout.latches layout.l j 2)) where
    pub free-test : (lit : Lit) → lit ≡ literal (triple_word m layout.latches layout.l j 0)
        → eqb (word_of reset) (word_of lit) ≡ is_free (latch_at (circuit_in m) j)
    free-test lit el =
        ap₂ eqb (word_read (triple_word m layout.latches layout.l j 2) er ∙ reset-read)
        (word_read (triple_word m layout.latches layout.l j 0) el ∙ latch-read p j)

    pub one-test : eqb (word_of reset) 1 ≡ eqb (latch_at (circuit_in m) j).reset 1
    one-test = ap (λ (x : ℕ). eqb x 1) (word_read (triple_word m layout.latches layout.l j 2) er ∙ reset-read)

-- ---- the start value of a latch

module _ (c : Circuit) (j : ℕ) where
  pub reset-free : is_free (latch_at c j) ≡ true → ◌≡◌ {A = ℕ} 0 (reset_word c j)
  reset-free e = sym (ap (λ (b : Bool). cond b 0 (cond (eqb (latch_at c j).reset 1) 1 0)) e)

  pub reset-given : is_free (latch_at c j) ≡ false → (b : Bool) → eqb (latch_at c j).reset 1 ≡ b → ◌≡◌ {A = ℕ} (cond b 1 0) (reset_word c j)
  reset-given e b f = sym (ap₂ (λ (b d : Bool). cond b 0 (cond d 1 0)) e f)

pub base-whole : (c : Circuit) (js base : List ℕ) (n : ℕ) → n ≡ length js → length base ≡ length js → Begun (reset_word c) js n base → base ≡ base_of c js
unfolding base_of
base-whole c js base n e l b =
    let m : length (map (reset_word c) js) ≡ length js = simp length-map in
    ext_get_or 0 base (map (reset_word c) js) (omega arith)
    (λ k h. b k (omega arith) ∙ sym (get_or-map (reset_word c) js k 0 0 (omega arith)))

-- ---- the edge of the start states

side-is : (b : Bool) → ◌≡◌ {A = ℕ} (1 - cond b 1 0) (cond b 0 1)
side-is true = refl
side-is false = refl

module _ (c : Circuit) (v j : ℕ) (s : State) (e : ℕ) where
  pub with-free : is_free (latch_at c j) ≡ true → outcome s (some e) ≡ with_reset c v j s e
  unfolding with_reset
  with-free f =
      sym
      (ap (λ (b : Bool). cond b (outcome s (some e)) (and_then (made s v 0 1) (λ t x. both t e (flip x (cond (eqb (latch_at c j).reset 1) 0 1)))))
      f)

  pub with-given : is_free (latch_at c j) ≡ false → (value : ℕ) → value ≡ reset_word c j → (o : Outcome)
      → o ≡ and_then (made s v 0 1) (λ t x. both t e (flip x (1 - value))) → o ≡ with_reset c v j s e
  unfolding with_reset
  with-given f value h o q =
      let one = eqb (latch_at c j).reset 1 in
      let k : 1 - value ≡ cond one 0 1 = ap (λ (n : ℕ). 1 - n) (h ∙ ap (λ (b : Bool). cond b 0 (cond one 1 0)) f) ∙ side-is one in
      q ∙ ap (λ (n : ℕ). and_then (made s v 0 1) (λ t x. both t e (flip x n))) k
      ∙ sym (ap (λ (b : Bool). cond b (outcome s (some e)) (and_then (made s v 0 1) (λ t x. both t e (flip x (cond one 0 1))))) f)

module _ (c : Circuit) (js : List ℕ) (v : ℕ) (s : State) (e : ℕ) where
  pub resets-done : length js ≤ v → outcome s (some e) ≡ with_resets c v (drop v js) s e
  unfolding with_resets
  resets-done h = sym (ap (λ (xs : List ℕ). with_resets c v xs s e) (drop_of_length-le js {i = v} h))

  module _ (h : v < length js) where
    resets_step : and_then (with_reset c v (get_or js v 0) s e) (with_resets c (v + 1) (drop (v + 1) js)) ≡ with_resets c v (drop v js) s e
    unfolding with_resets
    resets_step = sym (ap (λ (xs : List ℕ). with_resets c v xs s e) (rest js v h))

    pub resets-full : (t : State) → outcome t none ≡ with_reset c v (get_or js v 0) s e → outcome t none ≡ with_resets c v (drop v js) s e
    resets-full t q = ap (λ (o : Outcome). and_then o (with_resets c (v + 1) (drop (v + 1) js))) q ∙ resets_step

    pub resets_more : (t : State) (x : ℕ) → outcome t (some x) ≡ with_reset c v (get_or js v 0) s e
        → with_resets c (v + 1) (drop (v + 1) js) t x ≡ with_resets c v (drop v js) s e
    resets_more t x q = ap (λ (o : Outcome). and_then o (with_resets c (v + 1) (drop (v + 1) js))) q ∙ resets_step
