-- The machine of a circuit does what the circuit does. Assumes nothing.
use mathlib.Core.Path.{◌≡◌, refl, sym, ap, ap₂, ◌∙◌, subst}
use mathlib.Core.Bool.{Bool, true, false, cond, ◌&&◌}
use mathlib.Core.List.{List, [], ◌∷◌, map}
use mathlib.Core.Option.{Option, none, some}
use Prim.Native.Nat.{ℕ, zero, suc, ◌+◌, ◌-◌, ◌*◌, ◌/◌, ◌%◌, ◌^◌, ◌≤◌, ◌<◌}
use native.Mathlib.Nat.{mod-lt, mul-suc}
use native.Mathlib.Numerals.{add-one}
use native.Mathlib.Decide.{dec_lt}
use native.Mathlib.Omega.{arith}
use borrow.Author.Tests.{ltb-true, lt-ltb}
use lib.Dec.{T, ltb}
use lib.ListN.{length, get_or, length-map}
use lib.Pow.{pow_pos, pow_mono, pow-add}
use lib.Seq.{ext_get_or}
use Rattle.aiger.specs.Lists.{every_below}
use Rattle.aiger.specs.Circuit.{Circuit}
use Rattle.aiger.specs.Frames.{Run, value, frame, state, value_at, constrained, allowed, hits, free_starts, free_bits, free_bit, run, space}
use Rattle.aiger.specs.Search.{reaches, reaches_in}
use Rattle.aiger.proofs.Tests.{T_true, and_left, true-T}
use Rattle.meaning.proofs.Lists.{get_or-map}
use Rattle.meaning.proofs.Defined.{no_latch, latch_at}
use Rattle.meaning.proofs.Values.{length-state}
use Rattle.meaning.proofs.Sequences.{Shaped, run-shaped}
use Rattle.frames.specs.Lanes.{constrained_in, hit_in}
use Rattle.machine.specs.Machine.{Machine, prefixes, stepped, state_after, hit_from, hits_at}
use Rattle.machine.proofs.Expand.{Fair}
use Rattle.influence.specs.Part.{Part, kept_at, Same, Closed}
use Rattle.transitions.specs.Transitions.{number_of, latches_of, packed, row_of, values_in, start_number, next_number, next_in, machine_of}
use Rattle.transitions.proofs.Numbers.{map_at, latches-length, latches-number}
use Rattle.transitions.proofs.Prefixes.{last_row, prefix-state, prefix-before, first-start}

module _ (part : Part) (b : ℕ) where
  abbrev c : Circuit
  c = part.circuit

  abbrev W : ℕ
  W = length part.circuit.inputs

  -- ---- the machine's numbers fit
  slots-enough : 2 ^ W ≤ 64 * 2 ^ (W - 6)
  slots-enough = elim (dec_lt W 6) [
    | yes l ↦ let a : 2 ^ W ≤ 2 ^ 6 = pow_mono {i = W} {j = 6} (omega arith) in let z = pow_pos (W - 6) in omega arith
    | no l ↦
        let e : W ≡ 6 + (W - 6) = omega arith in
        let q : 2 ^ W ≡ 2 ^ 6 * 2 ^ (W - 6) = ap (λ (n : ℕ). 2 ^ n) e ∙ pow-add 2 6 (W - 6) in
        omega arith
  ]

  pub fair : Fair (machine_of part b)
  unfolding machine_of
  fair =
      record {
        some-row = pow_pos W;
        slotted = slots-enough;
        step_row = λ s r x e. go r (next_in part s r) x (ltb r (2 ^ W)) refl e;
        hit-row = λ s r h. ltb-true r (2 ^ W) (true-T (ltb r (2 ^ W)) (and_left (ltb r (2 ^ W)) (hit_in c b (values_in part s r)) h));
      }
    where
      go : (r : ℕ) (n : Option ℕ) (x : ℕ) (q : Bool) → ltb r (2 ^ W) ≡ q → cond q n none ≡ some x → r < 2 ^ W
      go r n x true e h = ltb-true r (2 ^ W) e
      go r n x false e h = absurd (let z : ◌≡◌ {A = ℕ} 0 1 = cc in omega arith)

  -- ---- states
  row_small : (x : ℕ) → ltb (x % 2 ^ W) (2 ^ W) ≡ true
  row_small x = lt-ltb (x % 2 ^ W) (2 ^ W) (mod-lt x (pow_pos W))

  -- a state that is there where a test passes: one step more, and a hit
  step-where : (q p : Bool) (n m r : ℕ) → stepped (machine_of part b) (some n) r ≡ cond p (some m) none
      → stepped (machine_of part b) (cond q (some n) none) r ≡ cond (q && p) (some m) none
  step-where true p n m r e = e
  step-where false p n m r e = refl

  hit-where : (q : Bool) (n r : ℕ) → hit_from (machine_of part b) (cond q (some n) none) r ≡ (q && hit_from (machine_of part b) (some n) r)
  hit-where true n r = refl
  hit-where false n r = refl

  and_assoc : (p q r : Bool) → (p && (q && r)) ≡ ((p && q) && r)
  and_assoc true q r = refl
  and_assoc false q r = refl

  module _ (closed : Closed part b) where
    -- the values in the state that a run has in frame t, with its row, are those of the run where it matters
    same-values : (t x : ℕ)
        → Same part b (frame c (state c (run c t x) t) (row_of c (x % 2 ^ W))) (values_in part (packed part (state c (run c t x) t)) (x % 2 ^ W))
    unfolding values_in
    same-values t x =
        let st = state c (run c t x) t in
        closed.same st (latches_of part (packed part st)) (row_of c (x % 2 ^ W)) (length-state c (run c t x) t (run-shaped c t x).start)
        (latches-length part closed.listed (packed part st)) (latches-number part closed.listed st)

    -- the constraints in that state with that row
    constrained-of : (t x : ℕ) → constrained_in c (values_in part (packed part (state c (run c t x) t)) (x % 2 ^ W)) ≡ constrained c (run c t x) t
    unfolding constrained value_at
    constrained-of t x =
        sym (same-values t x).constrained ∙ ap (λ (row : List Bool). constrained_in c (frame c (state c (run c t x) t) row)) (sym (last_row c t x))

    hit-of : (t x : ℕ) → hit_in c b (values_in part (packed part (state c (run c t x) t)) (x % 2 ^ W))
        ≡ (constrained c (run c t x) t && value_at c (run c t x) t (get_or c.bads b 0))
    unfolding value_at
    hit-of t x =
        ap₂ (λ (p q : Bool). p && q) (constrained-of t x)
        (sym (same-values t x).bad ∙ ap (λ (row : List Bool). value (frame c (state c (run c t x) t) row) (get_or c.bads b 0)) (sym (last_row c t x)))

    -- the number of the next state
    next_of : (t y : ℕ) → next_number part (packed part (state c (run c t y) t)) (y % 2 ^ W) ≡ packed part (state c (run c t y) (suc t))
    unfolding next_number state
    next_of t y =
        let st = state c (run c t y) t in
        let s = packed part st in
        let g : ℕ → Bool = λ j. value (values_in part s (y % 2 ^ W)) (latch_at c j).next in
        let h : ℕ → Bool = λ j. get_or (state c (run c t y) (suc t)) j false in
        ap number_of
        (ext_get_or false (map g part.kept) (map h part.kept) (length-map part.kept g ∙ sym (length-map part.kept h))
        (λ i l.
        let k : i < length part.kept = omega (arith, length-map part.kept g) in
        let j = kept_at part i in
        map_at g part.kept i k ∙ sym ((same-values t y).next i k)
        ∙ ap (λ (row : List Bool). value (frame c st row) (latch_at c j).next) (sym (last_row c t y))
        ∙ sym (get_or-map (λ x. value (frame c st (get_or (run c t y).rows t [])) x.next) c.latches j no_latch false (closed.listed.inside i k))
        ∙ sym (map_at h part.kept i k)))

    step_of : (t y : ℕ) → stepped (machine_of part b) (some (packed part (state c (run c t y) t))) (y % 2 ^ W)
        ≡ cond (constrained c (run c t y) t) (some (packed part (state c (run c t y) (suc t)))) none
    unfolding machine_of next_in
    step_of t y =
        ap (λ (q : Bool). cond q (next_in part (packed part (state c (run c t y) t)) (y % 2 ^ W)) none) (row_small y)
        ∙ ap₂ (λ (q : Bool) (n : ℕ). cond q (some n) none) (constrained-of t y) (next_of t y)

    -- the state that a run has in frame t, by the machine, where no frame before breaks a constraint
    pub state-of : (t x : ℕ) → state_after (machine_of part b) t (x / 2 ^ W)
        ≡ cond (every_below t (constrained c (run c t x))) (some (packed part (state c (run c t x) t))) none
    unfolding state_after machine_of state start_number
    state-of zero x = ap (λ (l : List Bool). some (packed part l)) (first-start c x)
    state-of (suc t) x =
        let y = x / 2 ^ W in
        let m = machine_of part b in
        ap (λ (o : Option ℕ). stepped m o (y % 2 ^ W)) (state-of t y)
        ∙ step-where (every_below t (constrained c (run c t y))) (constrained c (run c t y) t) (packed part (state c (run c t y) t))
        (packed part (state c (run c t y) (suc t))) (y % 2 ^ W) (step_of t y)
        ∙ ap₂ (λ (q : Bool) (l : List Bool). cond q (some (packed part l)) none) (sym (prefix-before c t x)) (sym (prefix-state c t x (suc t) (omega arith)))

    -- a sequence hits where its prefix leads to a state that hits with its last row
    pub reaches_of : (t x : ℕ) → reaches part.circuit b t x ≡ hits_at (machine_of part b) t x
    unfolding reaches reaches_in run hits allowed hits_at machine_of
    reaches_of t x =
        let r = run c t x in
        let n = packed part (state c r t) in
        sym (ap (λ (o : Option ℕ). hit_from (machine_of part b) o (x % 2 ^ W)) (state-of t x)
        ∙ hit-where (every_below t (constrained c r)) n (x % 2 ^ W)
        ∙ ap (λ (q : Bool). every_below t (constrained c r) && (q && hit_in c b (values_in part n (x % 2 ^ W)))) (row_small x)
        ∙ ap (λ (q : Bool). every_below t (constrained c r) && q) (hit-of t x)
        ∙ and_assoc (every_below t (constrained c r)) (constrained c r t) (value_at c r t (get_or c.bads b 0)))

  -- the sequences of a frame are its prefixes of one frame more
  pub prefixes-of : (t : ℕ) → prefixes (machine_of part b) (suc t) ≡ 2 ^ free_bits part.circuit t
  unfolding prefixes machine_of free_bits
  prefixes-of t = go t
    where
      go : (t : ℕ) → prefixes (machine_of part b) (suc t) ≡ 2 ^ (free_starts c + W * (t + 1))
      go zero = sym (pow-add 2 (free_starts c) W) ∙ ap (λ (n : ℕ). 2 ^ n) (omega arith)
      go (suc t) =
          ap (λ (n : ℕ). n * 2 ^ W) (go t) ∙ sym (pow-add 2 (free_starts c + W * (t + 1)) W)
          ∙ ap (λ (n : ℕ). 2 ^ n) (omega (arith, mul-suc W (t + 1), ap (λ (n : ℕ). W * n) {x = suc t + 1} {y = suc (t + 1)} (omega arith)))
