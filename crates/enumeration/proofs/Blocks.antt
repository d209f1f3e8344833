-- A block of 64 sequences, frame by frame: the words of the variables are the values of 64 runs. Assumes nothing.
use mathlib.Core.Path.{◌≡◌, sym, ap, ap₂, ◌∙◌, subst}
use mathlib.Core.Bool.{Bool, false, ◌&&◌}
use mathlib.Core.List.{List, []}
use Prim.Native.Nat.{ℕ, suc, ◌+◌, ◌-◌, ◌*◌, ◌≤◌, ◌<◌}
use native.Mathlib.Nat.{mul-suc, mul-le-mul_left}
use native.Mathlib.Numerals.{add-one}
use native.Mathlib.Omega.{arith}
use lib.Dec.{T}
use lib.Bits.{bit_and}
use lib.ListN.{length, get_or}
use Rattle.aiger.specs.Bits.{bit}
use Rattle.aiger.specs.Circuit.{Circuit, var, literals_right, used_defined, acyclic}
use Rattle.aiger.specs.Frames.{free_starts, free_bits, free_bit, run, state, allowed}
use Rattle.aiger.specs.Search.{reaches, reaches_in}
use Rattle.layout.specs.Words.{word}
use Rattle.layout.specs.declared.Layout.{Layout}
use Rattle.words.proofs.Bits.{bit-none, bit-all, bit-and}
use Rattle.meaning.proofs.Defined.{input_at, latch_at, input-in, latch-in, definition, input-latch}
use Rattle.meaning.proofs.Values.{Valuation, state-start}
use Rattle.meaning.proofs.Sequences.{run-input}
use Rattle.meaning.proofs.Allowed.{barred}
use Rattle.frames.specs.Lanes.{lane, Ready, Evaluated, Advanced, bad_in}
use Rattle.frames.proofs.Laws.{hit-of-run, next-leaves, allowed-start, allowed-more}
use Rattle.frames.specs.Starts.{start_bit}
use Rattle.enumeration.specs.Blocks.{Given, InputsGiven, StartsGiven, Constrained}
use Rattle.frames.proofs.Starts.{start-of-run, latches-room}

-- the words are the values of frame u in the runs of the block's sequences
abbrev pub Valued : Circuit → ℕ → ℕ → ℕ → List ℕ → Type 0
Valued c t block u values =
    (p : ℕ) → p < 64
    → Valuation c (get_or (run c t (block * 64 + p)).rows u []) (state c (run c t (block * 64 + p)) u) (lane values p)

-- `left` are the runs that are allowed at frame u
abbrev pub Left : Circuit → ℕ → ℕ → ℕ → ℕ → Type 0
Left c t block u left = (p : ℕ) → p < 64 → bit left p ≡ allowed c (run c t (block * 64 + p)) u

-- top free bits remain before the inputs of frame u are given theirs
abbrev pub Remaining : Circuit → ℕ → ℕ → ℕ → Type 0
Remaining c t u top = free_starts c + length c.inputs * u + top ≡ free_bits c t

pub row_first : (c : Circuit) (t n free : ℕ) → n ≡ free_bits c t → free ≡ free_starts c → Remaining c t 0 (n - free)
row_first c t n free e f = omega (arith, latches-room c t)

-- the free bits of frame u are there
pub row_room : (c : Circuit) (t u top : ℕ) → u ≤ t → Remaining c t u top → length c.inputs ≤ top
unfolding free_bits
row_room c t u top l e =
    let I = length c.inputs in
    let m : I * suc u ≤ I * (t + 1) = mul-le-mul_left I (omega arith) in
    omega (arith, mul-suc I u)

-- those of the next frame remain after them
pub row_next : (c : Circuit) (t u top : ℕ) → u ≤ t → Remaining c t u top → Remaining c t (u + 1) (top - length c.inputs)
row_next c t u top l e =
    let I = length c.inputs in
    let q : I * (u + 1) ≡ I * u + I = ap (λ (n : ℕ). I * n) (add-one u) ∙ mul-suc I u in
    omega (arith, row_room c t u top l e)

module _ (c : Circuit) (right : T (literals_right c)) where
  input-nonzero : (i : ℕ) → i < length c.inputs → var (input_at c i) ≡ 0 → ⊥
  input-nonzero i l e = omega (arith, (definition c right (input_at c i) (input-in c i l)).0)

  latch-nonzero : (j : ℕ) → j < length c.latches → var (latch_at c j).lit ≡ 0 → ⊥
  latch-nonzero j l e = omega (arith, (definition c right (latch_at c j).lit (latch-in c j l)).0)

  module _ (top block : ℕ) {before after : List ℕ} (g : InputsGiven c top block before after) (p : ℕ) where
    -- the inputs' words leave the constant and the latches as they are
    kept-constant : lane after p 0 ≡ lane before p 0
    kept-constant = ap (λ (w : ℕ). bit w p) (g.others 0 input-nonzero)

    kept-latch : (j : ℕ) → j < length c.latches → lane after p (var (latch_at c j).lit) ≡ lane before p (var (latch_at c j).lit)
    kept-latch j l = ap (λ (w : ℕ). bit w p) (g.others (var (latch_at c j).lit) (λ i k e. input-latch c right i j k l e))

    -- and are the row of frame u
    given-row : (t u : ℕ) → u ≤ t → Remaining c t u top → p < 64 → (i : ℕ) → i < length c.inputs
        → lane after p (var (input_at c i)) ≡ get_or (get_or (run c t (block * 64 + p)).rows u []) i false
    given-row t u l e hp i k =
        let I = length c.inputs in
        let d : top - (i + 1) ≡ free_bits c t - (free_starts c + I * u + i + 1) = omega arith in
        g.new i k p hp ∙ ap (bit (block * 64 + p)) d ∙ sym (run-input c t (block * 64 + p) u i (omega arith) k)

  -- frame 0
  pub valued-start : (t block top : ℕ) (cleared started filled values : List ℕ) → get_or cleared 0 0 ≡ 0 → StartsGiven c (free_bits c t) block cleared started
      → Remaining c t 0 top → InputsGiven c top block started filled → Evaluated c filled values → Valued c t block 0 values
  valued-start t block top cleared started filled values z s e g v p hp =
      let r = run c t (block * 64 + p) in
      v.values p hp (get_or r.rows 0 []) (state c r 0)
      (record {
        constant = kept-constant top block g p ∙ ap (λ (w : ℕ). bit w p) (s.others 0 latch-nonzero ∙ z) ∙ bit-none p;
        input = given-row top block g p t 0 (omega arith) e hp;
        latch = λ j l.
            kept-latch top block g p j l ∙ s.new j l p hp ∙ start-of-run c t (block * 64 + p) j l ∙ ap (λ (st : List Bool). get_or st j false) (sym (state-start c r));
      })

  module _ (known : T (used_defined c)) (a : T (acyclic c)) where
    -- the frame after u
    pub valued-next : (t block u top : ℕ) (old moved filled values : List ℕ) → Valued c t block u old → Advanced c old moved → u < t
        → Remaining c t (u + 1) top → InputsGiven c top block moved filled → Evaluated c filled values → Valued c t block (u + 1) values
    valued-next t block u top old moved filled values w d l e g v =
        subst (λ (n : ℕ). Valued c t block n values) (sym (add-one u))
        (λ p hp.
        let r = run c t (block * 64 + p) in
        let q = subst (λ (n : ℕ). Remaining c t n top) (add-one u) e in
        v.values p hp (get_or r.rows (suc u) []) (state c r (suc u))
        (next-leaves right known a r u d p hp (w p hp) (kept-constant top block g p) (kept-latch top block g p) (given-row top block g p t (suc u) (omega arith) q hp)))

    -- the runs that are allowed at frame 0, and at the frame after u
    pub left-start : (t block left : ℕ) (values : List ℕ) → Valued c t block 0 values → Constrained c 18446744073709551615 values left → Left c t block 0 left
    left-start t block left values w h p hp =
        allowed-start right known a (run c t (block * 64 + p)) (h p hp) (bit-all 64 p hp) (w p hp)

    pub left-next : (t block u from left : ℕ) (values : List ℕ) → Valued c t block (u + 1) values → Left c t block u from → Constrained c from values left
        → Left c t block (u + 1) left
    left-next t block u from left values w l h p hp =
        let r = run c t (block * 64 + p) in
        subst (λ (n : ℕ). bit left p ≡ allowed c r n) (sym (add-one u))
        (allowed-more right known a r u (h p hp) (l p hp)
        (subst (λ (n : ℕ). Valuation c (get_or r.rows n []) (state c r n) (lane values p)) (add-one u) (w p hp)))

    -- the hits of frame t
    pub valued-hits : (t block b left : ℕ) (values : List ℕ) (bad : ℕ) → Valued c t block t values → Left c t block t left
        → ((p : ℕ) → p < 64 → bit bad p ≡ bad_in c b (lane values p)) → (p : ℕ) → p < 64 → bit (bit_and left bad) p ≡ reaches c b t (block * 64 + p)
    unfolding reaches reaches_in run
    valued-hits t block b left values bad w l h p hp =
        bit-and left bad p ∙ ap₂ (λ (x y : Bool). x && y) (l p hp) (h p hp) ∙ hit-of-run right known a (run c t (block * 64 + p)) t (w p hp) b

-- where no run is allowed at a frame, none hits at it or later
pub none_left : (c : Circuit) (t block u b : ℕ) → u ≤ t → Left c t block u 0 → (p : ℕ) → p < 64 → bit 0 p ≡ reaches c b t (block * 64 + p)
unfolding reaches reaches_in run
none_left c t block u b k l p hp =
    bit-none p ∙ sym (barred c (run c t (block * 64 + p)) b t u k (sym (l p hp) ∙ bit-none p))
