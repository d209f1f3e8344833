-- The frames of a block of completions, one after the other: the words of the variables are the values of a frame. Assumes nothing.
use mathlib.Core.Path.{◌≡◌, refl, sym, ap, ap₂, ◌∙◌, subst}
use mathlib.Core.Bool.{Bool, true, false, ◌&&◌}
use mathlib.Core.List.{List, []}
use Prim.Native.Nat.{ℕ, zero, suc, ◌+◌, ◌-◌, ◌*◌, ◌≤◌, ◌<◌}
use native.Mathlib.Nat.{suc-mul, mul-le-mul_left, mul-le-mul_right}
use native.Mathlib.Omega.{arith}
use lib.Bits.{bit_and}
use lib.Dec.{eqb}
use lib.ListN.{length, get_or, set}
use lib.Seq.{get_or-set_same, get_or-set_other}
use Rattle.aiger.specs.Bits.{bit}
use Rattle.aiger.specs.Circuit.{Circuit, var}
use Rattle.aiger.specs.Frames.{Run, state, constrained, allowed, hits}
use Rattle.aiger.specs.Witness.{agrees}
use Rattle.completions.specs.Either.{completion}
use Rattle.layout.specs.Words.{word, circuit_in}
use Rattle.layout.specs.declared.Layout.{Layout}
use Rattle.words.proofs.Bits.{bit-none, bit-and}
use Rattle.meaning.specs.Frame.{input_at, latch_at, Valuation}
use Rattle.meaning.proofs.Defined.{input-in, latch-in, definition, input-latch}
use Rattle.meaning.proofs.Values.{state-start}
use Rattle.meaning.proofs.Allowed.{allowed-first, allowed-next, barred}
use Rattle.frames.specs.Lanes.{lane, Ready, Apart, Evaluated, Advanced, bad_in}
use Rattle.frames.proofs.Facts.{right, known, no-cycle, latches-are, latch-place}
use Rattle.frames.proofs.Laws.{constrained-of-run, hit-of-run, next-latch, next-constant}
use Rattle.enumeration.specs.Blocks.{Given, Constrained}
use Rattle.frames.proofs.Places.{inputs_are, input-var, input-small, inputs-differ, latch-var}
use Rattle.witness.specs.Line.{values}
use Rattle.witness.proofs.Lines.{value-at, values_length}
use Rattle.blocks.specs.Runs.{line_bit, Latches, Started, FrameGiven, RunAt}

-- a row before the last lies within the rows
pub row_fits : (frames u w : ℕ) → u < frames → u * w + w ≤ frames * w
row_fits frames u w h = let m : suc u * w ≤ frames * w = mul-le-mul_right w h in omega (arith, suc-mul u w)

pub row_next : (u w : ℕ) → (u + 1) * w ≡ u * w + w
row_next u w = let e : u + 1 ≡ suc u = omega arith in ap (λ (n : ℕ). n * w) e ∙ suc-mul u w

pub rows_more : (n w : ℕ) → n ≤ n * (w + 1)
rows_more n w = let m : n * 1 ≤ n * (w + 1) = mul-le-mul_left n (omega arith) in omega arith

-- completion p of a block
abbrev pub lane_text : List ℕ → ℕ → ℕ → List ℕ
lane_text body block p = completion (block * 64 + p) body

-- the words are the values of frame t in each completion's run
abbrev pub Valued : List ℕ → List ℕ → ℕ → ℕ → ℕ → List ℕ → Type 0
Valued m body block frames t words =
    (p : ℕ) → p < 64 → (r : Run) → RunAt (circuit_in m) (lane_text body block p) frames r
    → Valuation (circuit_in m) (get_or r.rows t []) (state (circuit_in m) r t) (lane words p)

-- `left` are the completions that start as the resets say and are allowed at frame t
abbrev pub Left : List ℕ → List ℕ → ℕ → ℕ → ℕ → ℕ → Type 0
Left m body block frames t left =
    (p : ℕ) → p < 64 → (r : Run) → RunAt (circuit_in m) (lane_text body block p) frames r
    → bit left p ≡ (agrees (circuit_in m).latches r.start && allowed (circuit_in m) r t)

and_assoc : (a b d : Bool) → ((a && b) && d) ≡ (a && (b && d))
and_assoc true b d = refl
and_assoc false b d = refl

neither : (a b d : Bool) → false ≡ (a && b) → (b ≡ false → d ≡ false) → false ≡ (a && d)
neither true b d e f = sym (f (sym e))
neither false b d e f = refl

module _ {m : List ℕ} {layout : Layout} {order : List ℕ} {count : ℕ} (R : Ready m layout order count) where
  abbrev c : Circuit
  c = circuit_in m

  -- ---- the variables of the inputs, as a column

  column-place : (i : ℕ) → var (word m (7 + 1 * i)) ≡ var (word m (7 + i))
  column-place i = let e : 7 + 1 * i ≡ 7 + i = omega arith in ap (λ (n : ℕ). var (word m n)) e

  input-place : (i : ℕ) → i < layout.i → var (word m (7 + 1 * i)) ≡ var (input_at c i)
  input-place i l = column-place i ∙ sym (input-var R.held R.layout_of i l)

  pub inputs_apart : Apart (λ i. var (word m (7 + 1 * i))) layout.i count
  inputs_apart =
      record {
        below = λ i l. omega (arith, column-place i, input-small R.held R.layout_of i l, R.room);
        differ = λ i j l k e.
            inputs-differ R.held R.layout_of i j l k (sym (input-place i (omega arith)) ∙ e ∙ input-place j k);
      }

  input-nonzero : (i : ℕ) → i < layout.i → var (word m (7 + 1 * i)) ≡ 0 → ⊥
  input-nonzero i l e =
      let k : i < length c.inputs = omega (arith, inputs_are R.held R.layout_of) in
      omega (arith, (definition c (right R.held) (input_at c i) (input-in c i k)).0, input-place i l)

  latch-nonzero : (j : ℕ) → j < layout.l → var (word m (layout.latches + 3 * j)) ≡ 0 → ⊥
  latch-nonzero j l e =
      let k : j < length c.latches = omega (arith, latches-are R) in
      omega (arith, (definition c (right R.held) (latch_at c j).lit (latch-in c j k)).0, latch-var R.held R.layout_of j l)

  -- ---- one frame

  module _ (text : List ℕ) (at block : ℕ) (before filled after : List ℕ)
      (g : Given (λ i. var (word m (7 + 1 * i))) (line_bit text at block) layout.i before filled) (e : Evaluated c filled after) where
    -- what is no input's variable
    kept : (v : ℕ) → ((i : ℕ) → i < length c.inputs → var (input_at c i) ≡ v → ⊥) → (p : ℕ) → lane filled p v ≡ lane before p v
    kept v n p =
        ap (λ (w : ℕ). bit w p)
        (g.others v (λ i k z. n i (omega (arith, inputs_are R.held R.layout_of)) (sym (input-place i k) ∙ z)))

    pub frame-given : FrameGiven c text at block before after
    frame-given =
        record {
          valued = λ p h st z ls.
              e.values p h (values (completion (block * 64 + p) text) at (length c.inputs)) st
              (record {
                constant = ap (λ (w : ℕ). bit w p) (g.others 0 input-nonzero) ∙ z;
                input = λ i l.
                    let k : i < layout.i = omega (arith, inputs_are R.held R.layout_of) in
                    ap (lane filled p) (sym (input-place i k)) ∙ g.new i k p h
                    ∙ sym (value-at (completion (block * 64 + p) text) at (length c.inputs) i l);
                latch = λ j l. kept (var (latch_at c j).lit) (λ i k. input-latch c (right R.held) i j k l) p ∙ ls j l;
              });
          others = λ p h v n k. e.others p h v k ∙ kept v n p;
        }

  -- ---- the start

  pub started : (body : List ℕ) (block : ℕ) (before words : List ℕ) → 0 < length before
      → Given (λ j. var (word m (layout.latches + 3 * j))) (line_bit body 0 block) layout.l (set before 0 0) words
      → Started c body block before words
  started body block before words n g =
      let z : get_or (set before 0 0) 0 0 ≡ 0 = get_or-set_same before 0 0 0 n in
      record {
        constant = λ p. ap (λ (w : ℕ). bit w p) (g.others 0 latch-nonzero ∙ z) ∙ bit-none p;
        latches = λ p h.
            record {
              size = values_length (lane_text body block p) 0 (length c.latches);
              latch = λ j l.
                  let k : j < layout.l = omega (arith, latches-are R) in
                  ap (lane words p) (latch-var R.held R.layout_of j k) ∙ g.new j k p h
                  ∙ sym (value-at (lane_text body block p) 0 (length c.latches) j l);
            };
        others = λ v n k.
            g.others v
            (λ j l e. k j (omega (arith, latches-are R)) (latch-var R.held R.layout_of j l ∙ e))
            ∙ get_or-set_other before 0 v 0 0 n;
      }

  module _ (body : List ℕ) (block frames : ℕ) where
    -- the row of frame t, by the layout
    pub row-at : (u : List ℕ) (r : Run) → RunAt c u frames r → (t at : ℕ) → t < frames → at ≡ layout.l + 1 + t * (layout.i + 1)
        → values u at (length c.inputs) ≡ get_or r.rows t []
    row-at u r q t at h e =
        let w : at ≡ length c.latches + 1 + t * (length c.inputs + 1) =
        e ∙ ap₂ (λ (x y : ℕ). x + 1 + t * (y + 1)) (latches-are R) (inputs_are R.held R.layout_of) in
        ap (λ (p : ℕ). values u p (length c.inputs)) w ∙ sym (q.row_is t h)

    -- frame 0
    pub valued-start : (at : ℕ) {entry : List ℕ} (begun words : List ℕ) → 1 ≤ frames → at ≡ layout.l + 1
        → Started c body block entry begun → FrameGiven c body at block begun words
        → Valued m body block frames 0 words
    valued-start at begun words h e s g p l r q =
        let z : at ≡ layout.l + 1 + 0 * (layout.i + 1) = omega arith in
        subst (λ (row : List Bool). Valuation c row (state c r 0) (lane words p)) (row-at (lane_text body block p) r q 0 at (omega arith) z)
        (g.valued p l (state c r 0) (s.constant p)
        (λ j k. (s.latches p l).latch j k ∙ ap (λ (st : List Bool). get_or st j false) (sym q.start_is ∙ sym (state-start c r))))

    -- the frame after t
    pub valued-next : (t at : ℕ) (old moved words : List ℕ) → suc t < frames → at ≡ layout.l + 1 + suc t * (layout.i + 1)
        → Valued m body block frames t old → Advanced c old moved → FrameGiven c body at block moved words → Valued m body block frames (suc t) words
    valued-next t at old moved words h e w d g p l r q =
        let v = w p l r q in
        subst (λ (row : List Bool). Valuation c row (state c r (suc t)) (lane words p)) (row-at (lane_text body block p) r q (suc t) at h e)
        (g.valued p l (state c r (suc t)) (next-constant (right R.held) (known R.held) (no-cycle R.held) r t d p l v)
        (next-latch (right R.held) (known R.held) (no-cycle R.held) r t d p l v))

    -- the completions that start as the resets say and are allowed at frame t: at frame 0, and at the frame after t
    pub left-start : (agree left : ℕ) {entry : List ℕ} (begun words : List ℕ) → Started c body block entry begun
        → ((p : ℕ) → p < 64 → (start : List Bool) → Latches c start (lane begun p) → bit agree p ≡ agrees c.latches start)
        → Valued m body block frames 0 words → Constrained c agree words left → Left m body block frames 0 left
    left-start agree left begun words s a w h p l r q =
        h p l
        ∙ ap₂ (λ (u v : Bool). u && v)
        (a p l (values (lane_text body block p) 0 (length c.latches)) (s.latches p l) ∙ ap (agrees c.latches) (sym q.start_is))
        (constrained-of-run (right R.held) (known R.held) (no-cycle R.held) r 0 (w p l r q) ∙ sym (allowed-first c r))

    pub left-next : (t from left : ℕ) (words : List ℕ) → Left m body block frames t from → Valued m body block frames (suc t) words → Constrained c from words left
        → Left m body block frames (suc t) left
    left-next t from left words f w h p l r q =
        h p l
        ∙ ap₂ (λ (u v : Bool). u && v) (f p l r q) (constrained-of-run (right R.held) (known R.held) (no-cycle R.held) r (suc t) (w p l r q))
        ∙ and_assoc (agrees c.latches r.start) (allowed c r t) (constrained c r (suc t))
        ∙ ap (λ (v : Bool). agrees c.latches r.start && v) (sym (allowed-next c r t))

    -- whether the start agrees and frame t is a hit
    pub valued-hit : (t b left bad : ℕ) (words : List ℕ) → Left m body block frames t left → Valued m body block frames t words
        → ((p : ℕ) → p < 64 → bit bad p ≡ bad_in c b (lane words p))
        → (p : ℕ) → p < 64 → (r : Run) → RunAt c (lane_text body block p) frames r → bit (bit_and left bad) p ≡ (agrees c.latches r.start && hits c b r t)
    valued-hit t b left bad words f w h p l r q =
        bit-and left bad p ∙ ap₂ (λ (u v : Bool). u && v) (f p l r q) (h p l)
        ∙ and_assoc (agrees c.latches r.start) (allowed c r t) (bad_in c b (lane words p))
        ∙ ap (λ (v : Bool). agrees c.latches r.start && v) (hit-of-run (right R.held) (known R.held) (no-cycle R.held) r t (w p l r q) b)

    -- where none is left at a frame, none hits there or later
    pub none_left : (t u b : ℕ) → u ≤ t → Left m body block frames u 0
        → (p : ℕ) → p < 64 → (r : Run) → RunAt c (lane_text body block p) frames r → bit 0 p ≡ (agrees c.latches r.start && hits c b r t)
    none_left t u b k f p l r q =
        bit-none p ∙ neither (agrees c.latches r.start) (allowed c r u) (hits c b r t) (sym (bit-none p) ∙ f p l r q) (barred c r b t u k)
