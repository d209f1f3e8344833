-- Samples written one after the other: the words have the latches of the next frame, and its sample and those after it are left. Assumes
-- nothing.
use mathlib.Core.Path.{◌≡◌, refl, sym, ap, ◌∙◌, subst}
use mathlib.Core.Bool.{Bool, false}
use mathlib.Core.List.{List, [], ◌∷◌, ◌++◌, map}
use Prim.Native.Nat.{ℕ, zero, suc, ◌+◌, ◌-◌, ◌*◌, ◌≤◌, ◌<◌}
use native.Mathlib.Numerals.{add-one}
use native.Mathlib.Omega.{arith}
use lib.ListN.{length, get_or, length-append}
use Rattle.aiger.specs.Lists.{upto}
use Rattle.aiger.specs.Circuit.{Circuit, var}
use Rattle.aiger.specs.Frames.{Run, state, value, value_at}
use Rattle.layout.specs.Words.{circuit_in}
use Rattle.layout.specs.declared.Layout.{Layout}
use Rattle.meaning.specs.Frame.{latch_at}
use Rattle.meaning.proofs.Lists.{length-map-upto, get_d-map-upto}
use Rattle.meaning.proofs.Values.{Valuation, valuation-value, state-start}
use Rattle.frames.specs.Lanes.{lane, Ready, Advanced}
use Rattle.frames.proofs.Facts.{right, known, no-cycle}
use Rattle.frames.proofs.Laws.{next-constant, next-latch}
use Rattle.completions.specs.Either.{completion}
use Rattle.blocks.specs.Runs.{RunAt, Started, FrameGiven}
use Rattle.blocks.proofs.Runs.{row-at}
use Rattle.witness.specs.Line.{values}
use Rattle.output.specs.Output.{Room, Placed}
use Rattle.output.proofs.Output.{Rest, rest-start, rest-room, rest_more, last-room, last-placed}
use Rattle.vcd.specs.Text.{Level, time_mark, sample, samples}
use Rattle.vcd.specs.Wires.{literal_at}
use Rattle.vcd.proofs.Parts.{sample-same, sample-length, samples-more, samples-none}
use Rattle.levels.specs.Levels.{level_over, after}
use Rattle.levels.proofs.Levels.{over-same}
use Rattle.levels.proofs.Wires.{wire-known}
use Rattle.samples.specs.Passes.{level_in, level_of_runs, low, Stands, Rewritten, RunsOf}
use Rattle.samples.proofs.Standing.{stands-next, stands-first}

-- ---- every body has runs

pub any_run : Circuit → List ℕ → ℕ → Run
any_run c body frames =
    let l = length c.latches in
    let n = length c.inputs in
    record { start = values body 0 l; rows = map (λ u. values body (l + 1 + u * (n + 1)) n) (upto frames) }

pub any-run : (c : Circuit) (body : List ℕ) (frames : ℕ) → RunAt c body frames (any_run c body frames)
unfolding any_run
any-run c body frames =
    let n = length c.inputs in
    let row : ℕ → List Bool = λ u. values body (length c.latches + 1 + u * (n + 1)) n in
    record { start_is = refl; row_is = λ u l. get_d-map-upto row frames u [] l; frames-are = length-map-upto row frames }

-- ---- lengths do not depend on the values

pub sample-size : (f g : ℕ → Level) (n t : ℕ) → length (sample f n t) ≡ length (sample g n t)
sample-size f g n t = sample-length f n t ∙ sym (sample-length g n t)

pub samples-size : (f g : ℕ → ℕ → Level) (n t k : ℕ) → length (samples f n t k) ≡ length (samples g n t k)
unfolding samples
samples-size f g n t zero = refl
samples-size f g n t (suc k) =
    omega (
      arith,
      length-append (sample (f t) n t) (samples f n (suc t) k),
      length-append (sample (g t) n t) (samples g n (suc t) k),
      sample-size (f t) (g t) n t,
      samples-size f g n (suc t) k,
    )

-- samples of the same levels
pub samples-same : (f g : ℕ → ℕ → Level) (n t k : ℕ) → ((u j : ℕ) → u < t + k → f u j ≡ g u j) → samples f n t k ≡ samples g n t k
unfolding samples
samples-same f g n t zero h = refl
samples-same f g n t (suc k) h =
    rw (sample-same (f t) (g t) n t (λ j _. h t j (omega arith)), samples-same f g n (suc t) k (λ u j l. h u j (omega arith)))

-- the first sample, and those after it
pub samples-length : (f : ℕ → ℕ → Level) (n t left : ℕ) → 0 < left
    → length (samples f n t left) ≡ length (sample (f t) n t) + length (samples f n (t + 1) (left - 1))
samples-length f n t left h =
    ap length (samples-more f n t left h) ∙ length-append (sample (f t) n t) (samples f n (t + 1) (left - 1))

-- ---- the frames of each run of a block

-- w has the constant and the latches of frame t
pub record Latched (c : Circuit) (r : Run) (t : ℕ) (w : ℕ → Bool) : Type 0 where
  pub constant : w 0 ≡ false
  pub latch : (j : ℕ) → j < length c.latches → w (var (latch_at c j).lit) ≡ get_or (state c r t) j false

abbrev pub AllLatched : Circuit → (ℕ → Run) → ℕ → List ℕ → Type 0
AllLatched c r t words = (p : ℕ) → p < 64 → Latched c (r p) t (lane words p)

pub all-started : (c : Circuit) (body : List ℕ) (block frames : ℕ) (r : ℕ → Run) {before : List ℕ} (words : List ℕ)
    → RunsOf c body block frames r → Started c body block before words → AllLatched c r 0 words
all-started c body block frames r words q s p h =
    record {
      constant = s.constant p;
      latch = λ j l.
          (s.latches p h).latch j l ∙ ap (λ (st : List Bool). get_or st j false) (sym (q p h).start_is ∙ sym (state-start c (r p)));
    }

-- the levels after a block
abbrev pub mixed : Circuit → (ℕ → Run) → ℕ → (ℕ → ℕ → Level) → ℕ → ℕ → Level
mixed c r block old t k = after block (old t k) (level_of_runs c r t k)

-- before frame t: the words have its latches, its sample and those of the frames after it are left, and the old ones stand there
pub record Turn (c : Circuit) (r : ℕ → Run) (block frames : ℕ) (out₀ : List ℕ) (at n : ℕ) (old : ℕ → ℕ → Level) (t left : ℕ)
    (words out : List ℕ) (end : ℕ) : Type 0 where
  pub latches : AllLatched c r t words
  pub rest : Rest out₀ at (samples (mixed c r block old) n 0 frames) out end (samples (mixed c r block old) n t left)
  pub stands : 0 < block → Stands out end (samples old n t left)

pub turn-start : (c : Circuit) (r : ℕ → Run) (block frames : ℕ) (out₀ : List ℕ) (at n : ℕ) (old : ℕ → ℕ → Level) {words : List ℕ}
    → AllLatched c r 0 words
    → (0 < block → Stands out₀ at (samples old n 0 frames)) → Turn c r block frames out₀ at n old 0 frames words out₀ at
turn-start c r block frames out₀ at n old k s =
    record { latches = k; rest = rest-start out₀ at (samples (mixed c r block old) n 0 frames); stands = s }

module _ {m : List ℕ} {layout : Layout} {order : List ℕ} {count : ℕ} (R : Ready m layout order count) (body : List ℕ) (block frames : ℕ)
    (r : ℕ → Run)
    (q : RunsOf (circuit_in m) body block frames r) where
  abbrev c : Circuit
  c = circuit_in m

  abbrev Valued : ℕ → List ℕ → Type 0
  Valued t words = (p : ℕ) → p < 64 → Valuation c (get_or (r p).rows t []) (state c (r p) t) (lane words p)

  valued : (t at : ℕ) (old words : List ℕ) → t < frames → at ≡ layout.l + 1 + t * (layout.i + 1) → AllLatched c r t old
      → FrameGiven c body at block old words → Valued t words
  valued t at old words h e k g p l =
      subst (λ (row : List Bool). Valuation c row (state c (r p) t) (lane words p))
      (row-at R body block frames (completion (block * 64 + p) body) (r p) (q p l) t at h e)
      (g.valued p l (state c (r p) t) (k p l).constant (k p l).latch)

  latched : (t : ℕ) (words moved : List ℕ) → Valued t words → Advanced c words moved → AllLatched c r (suc t) moved
  latched t words moved v d p l =
      record {
        constant = next-constant (right R.held) (known R.held) (no-cycle R.held) (r p) t d p l (v p l);
        latch = next-latch (right R.held) (known R.held) (no-cycle R.held) (r p) t d p l (v p l);
      }

  -- the levels of the words are those of the frame
  levels-are : (t : ℕ) (words : List ℕ) → Valued t words → (k : ℕ) → level_in m words k ≡ level_of_runs c r t k
  levels-are t words v k =
      let l = literal_at c k in
      over-same 64 (λ p. value (lane words p) l) (λ p. value_at c (r p) t l)
      (λ p h. valuation-value c (right R.held) (known R.held) (no-cycle R.held) (r p) t (v p h) l
      (wire-known c (known R.held) k))

  -- ---- one sample after the other

  module _ (out₀ : List ℕ) (at n : ℕ) (old : ℕ → ℕ → Level) where
    abbrev all : ℕ → ℕ → Level
    all = mixed c r block old

    abbrev Now : ℕ → ℕ → List ℕ → List ℕ → ℕ → Type 0
    Now = Turn c r block frames out₀ at n old

    module _ (space : Room out₀ at (samples all n 0 frames)) where
      module _ (filled : List ℕ) {t left row end : ℕ} {words out : List ℕ} (k : Now t left words out end) (l : 0 < left)
          (h : t + left ≡ frames)
          (e : row ≡ layout.l + 1 + t * (layout.i + 1)) (g : FrameGiven c body row block words filled) where
        here : Valued t filled
        here = valued t row words filled (omega arith) e k.latches g

        abbrev mine : ℕ → Level
        mine j = after block (old t j) (level_in m filled j)

        same : sample mine n t ≡ sample (all t) n t
        same = sample-same mine (all t) n t (λ j _. ap (after block (old t j)) (levels-are t filled here j))

        rest-here : Rest out₀ at (samples all n 0 frames) out end (sample mine n t ++ samples all n (t + 1) (left - 1))
        rest-here = rw (same, sym (samples-more all n t left l)) k.rest

        old-here : 0 < block → Stands out end (sample (old t) n t ++ samples old n (t + 1) (left - 1))
        old-here b = rw (sym (samples-more old n t left l)) (k.stands b)

        pub turn-next : {end₂ : ℕ} {out₂ : List ℕ} (moved : List ℕ)
            → Rewritten (λ f. sample f n t) block (level_in m filled) out end end₂ out₂
            → Advanced c filled moved → Now (t + 1) (left - 1) moved out₂ end₂
        turn-next moved w d =
            let rest = samples old n (t + 1) (left - 1) in
            let p = w.placed (old t) (λ b. stands-first (sample (old t) n t) rest (old-here b)) in
            let room = rest-room (sample mine n t) (samples all n (t + 1) (left - 1)) space rest-here in
            record {
              latches = rw (add-one t) (latched t filled moved here d);
              rest = rest_more (sample mine n t) (samples all n (t + 1) (left - 1)) space rest-here p;
              stands = λ b. stands-next (sample (old t) n t) rest (old-here b) (sample mine n t) room (sample-size mine (old t) n t) p;
            }

      -- no frame is left
      module _ {t left end : ℕ} {words out : List ℕ} (k : Now t left words out end) (l : left ≤ 0) where
        rest-mark : Rest out₀ at (samples all n 0 frames) out end (time_mark t)
        rest-mark = rw (samples-none all n t left l) at k.rest

        pub mark-placed : {end₂ : ℕ} {out₂ : List ℕ} → Placed out end (time_mark t) end₂ out₂
            → Placed out₀ at (samples all n 0 frames) end₂ out₂
        mark-placed p = last-placed (time_mark t) space rest-mark p
