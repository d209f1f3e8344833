-- The literals that are read by their places in the file are those of the circuit. Assumes nothing.
use mathlib.Core.Path.{◌≡◌, sym, ap, ◌∙◌}
use mathlib.Core.Bool.{cond}
use mathlib.Core.List.{List}
use Prim.Native.Nat.{ℕ, ◌+◌, ◌*◌, ◌≤◌, ◌<◌}
use native.Mathlib.Decide.{dec_lt}
use native.Mathlib.Omega.{arith}
use borrow.Author.Tests.{lt-ltb, le-ltb}
use lib.Dec.{ltb}
use lib.ListN.{length, get_or, get_or-eq_default}
use Rattle.aiger.specs.Circuit.{Latch, Gate}
use Rattle.layout.specs.Words.{word, circuit_in}
use Rattle.layout.specs.declared.Layout.{Layout}
use Rattle.meaning.specs.Frame.{no_latch, no_gate, input_at, latch_at, gate_at}
use Rattle.frames.specs.Lanes.{Ready}
use Rattle.frames.proofs.Facts.{inside, gate-place, latch-place, gates-are, latches-are, constraints-are, constraint-place, bad-place, bad-count, gates-inside, latches-inside, constraint-inside}
use Rattle.frames.proofs.Places.{input-count, input-word}
use Rattle.diagram_rows.specs.Words.{triple_word, single_word, Prepared}

-- a word that a test chooses
pub word_in : (j rows w x : ℕ) → j < rows → w ≡ x → cond (ltb j rows) w 0 ≡ x
word_in j rows w x h e = rw (lt-ltb j rows h) e

pub word_out : (j rows w : ℕ) → rows ≤ j → ◌≡◌ {A = ℕ} (cond (ltb j rows) w 0) 0
word_out j rows w h = rw (le-ltb j rows h)

module _ {m : List ℕ} {layout : Layout} (p : Prepared m layout) where
  r : Ready m layout p.0 4097
  r = p.1

  pub latches-fit : layout.latches + 3 * layout.l ≤ length m
  latches-fit = latches-inside r

  pub gates-fit : layout.gates + 3 * layout.a ≤ length m
  gates-fit = gates-inside r

  pub inputs-fit : 7 + layout.i ≤ length m
  inputs-fit = omega (arith, inside r.held, r.layout_of.i-is)

  pub bads-fit : layout.bads + layout.b ≤ length m
  bads-fit = omega (arith, inside r.held, r.layout_of.bads-is, r.layout_of.b-is)

  -- the literal and the next literal of latch j
  module _ (j : ℕ) where
    latch-of : layout.l ≤ j → latch_at (circuit_in m) j ≡ no_latch
    latch-of h = get_or-eq_default (circuit_in m).latches no_latch (omega (arith, latches-are r))

    pub latch-read : triple_word m layout.latches layout.l j 0 ≡ (latch_at (circuit_in m) j).lit
    latch-read = elim (dec_lt j layout.l) [
      | yes h ↦
          word_in j layout.l _ _ h
          (ap (λ (x : ℕ). word m x) (omega arith) ∙ sym (ap (λ (x : Latch). x.lit) (latch-place r j h)))
      | no h ↦ word_out j layout.l _ (omega arith) ∙ sym (ap (λ (x : Latch). x.lit) (latch-of (omega arith)))
    ]

    pub next-read : triple_word m layout.latches layout.l j 1 ≡ (latch_at (circuit_in m) j).next
    next-read = elim (dec_lt j layout.l) [
      | yes h ↦ word_in j layout.l _ _ h (sym (ap (λ (x : Latch). x.next) (latch-place r j h)))
      | no h ↦ word_out j layout.l _ (omega arith) ∙ sym (ap (λ (x : Latch). x.next) (latch-of (omega arith)))
    ]

  -- the literals of gate g
  module _ (g : ℕ) where
    gate-of : layout.a ≤ g → gate_at (circuit_in m) g ≡ no_gate
    gate-of h = get_or-eq_default (circuit_in m).gates no_gate (omega (arith, gates-are r))

    pub gate-read : triple_word m layout.gates layout.a g 0 ≡ (gate_at (circuit_in m) g).lit
    gate-read = elim (dec_lt g layout.a) [
      | yes h ↦
          word_in g layout.a _ _ h
          (ap (λ (x : ℕ). word m x) (omega arith) ∙ sym (ap (λ (x : Gate). x.lit) (gate-place r g h)))
      | no h ↦ word_out g layout.a _ (omega arith) ∙ sym (ap (λ (x : Gate). x.lit) (gate-of (omega arith)))
    ]

    pub left-read : triple_word m layout.gates layout.a g 1 ≡ (gate_at (circuit_in m) g).left
    left-read = elim (dec_lt g layout.a) [
      | yes h ↦ word_in g layout.a _ _ h (sym (ap (λ (x : Gate). x.left) (gate-place r g h)))
      | no h ↦ word_out g layout.a _ (omega arith) ∙ sym (ap (λ (x : Gate). x.left) (gate-of (omega arith)))
    ]

    pub right-read : triple_word m layout.gates layout.a g 2 ≡ (gate_at (circuit_in m) g).right
    right-read = elim (dec_lt g layout.a) [
      | yes h ↦ word_in g layout.a _ _ h (sym (ap (λ (x : Gate). x.right) (gate-place r g h)))
      | no h ↦ word_out g layout.a _ (omega arith) ∙ sym (ap (λ (x : Gate). x.right) (gate-of (omega arith)))
    ]

  pub input-read : (i : ℕ) → single_word m 7 layout.i i ≡ input_at (circuit_in m) i
  input-read i = elim (dec_lt i layout.i) [
    | yes h ↦ word_in i layout.i _ _ h (sym (input-word m i (omega (arith, r.layout_of.i-is))))
    | no h ↦
        word_out i layout.i _ (omega arith)
        ∙ sym (get_or-eq_default (circuit_in m).inputs 0 (omega (arith, r.layout_of.i-is, input-count m)))
  ]

  pub bad-read : (b : ℕ) → single_word m layout.bads layout.b b ≡ get_or (circuit_in m).bads b 0
  bad-read b = elim (dec_lt b layout.b) [
    | yes h ↦ word_in b layout.b _ _ h (sym (bad-place r b (omega (arith, r.layout_of.b-is))))
    | no h ↦
        word_out b layout.b _ (omega arith)
        ∙ sym (get_or-eq_default (circuit_in m).bads 0 (omega (arith, r.layout_of.b-is, bad-count m)))
  ]

  -- constraint k
  pub constraint-read : (k : ℕ) → k < layout.c → word m (layout.constraints + k) ≡ get_or (circuit_in m).constraints k 0
  constraint-read k h = sym (constraint-place r k h)

  pub constraint-fits : (k : ℕ) → k < layout.c → layout.constraints + k < length m
  constraint-fits k h = constraint-inside r k h

  pub constraint-number : layout.c ≡ length (circuit_in m).constraints
  constraint-number = constraints-are r
