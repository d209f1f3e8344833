-- What a search of the pinned circuit may answer is what may be answered of the circuit's sequences that obey the pins; with all pins free
-- that is what it was. Clause 12.7. Assumes nothing.
use mathlib.Core.Path.{◌≡◌, refl, sym, ap, ap₂, ◌∙◌, subst}
use mathlib.Core.Bool.{Bool, true, false, not, cond}
use mathlib.Core.List.{List, [], ◌∷◌, map}
use mathlib.Core.Option.{Option}
use Prim.Native.Nat.{ℕ, zero, suc, ◌+◌, ◌*◌, ◌^◌, ◌≤◌, ◌<◌}
use native.Mathlib.Omega.{arith}
use borrow.Author.Tests.{le-ltb, ltb-false}
use lib.Dec.{T, eqb}
use lib.ListN.{length, get_or}
use Rattle.aiger.specs.Lists.{tally, from, upto}
use Rattle.aiger.specs.Circuit.{Circuit, Latch, Gate, var, literals_right, used_defined, acyclic}
use Rattle.aiger.specs.Frames.{Run, Space, space, bits_in, run_in, run, free_bit, free_bits, free_starts, is_free, starts}
use Rattle.aiger.specs.Search.{Question, question, Outcome, permitted, permitted_of, reaches, reaches_in, first_at, first_witness}
use Rattle.aiger.specs.Witness.{witness}
use Rattle.meaning.proofs.Lists.{get_d-map-upto}
use Rattle.meaning.proofs.Sequences.{run-input}
use Rattle.pins.specs.Pins.{is_held, fill, free_inputs, kept, pin_of, constant_of, tied, tied_latch, tied_gate, pinned, pinned_space, pinned_question, pinned_witness}
use Rattle.pins.proofs.Inputs.{fill-eq, kept-length}
use Rattle.pins.proofs.Values.{Fills, pinned-hits}

-- ---- the start

starts-tied : (q : ℕ → ℕ) (is : List ℕ) (f : ℕ → Bool) (j : ℕ) (ls : List Latch) → starts f j (map (tied_latch q is) ls) ≡ starts f j ls
unfolding starts
starts-tied q is f j [] = refl
starts-tied q is f j (l ∷ ls) =
    ap₂ (λ (x y : List Bool). cond (is_free l) (f j ∷ x) (eqb l.reset 1 ∷ y)) (starts-tied q is f (j + 1) ls) (starts-tied q is f j ls)

tally-tied : (q : ℕ → ℕ) (is : List ℕ) (ls : List Latch) → tally is_free (map (tied_latch q is) ls) ≡ tally is_free ls
tally-tied q is [] = refl
tally-tied q is (l ∷ ls) = ap (λ (n : ℕ). cond (is_free l) 1 0 + n) (tally-tied q is ls)

module _ (c : Circuit) (q : ℕ → ℕ) where
  pub free-starts : free_starts (pinned c q) ≡ free_starts c
  unfolding free_starts pinned
  free-starts = tally-tied q c.inputs c.latches

  pub free-inputs : length (pinned c q).inputs ≡ free_inputs q (length c.inputs)
  unfolding pinned
  free-inputs = kept-length q c.inputs

  -- the free bits are as many
  pub free-bits : (t : ℕ) → free_bits (pinned c q) t ≡ bits_in (pinned_space c q) t
  unfolding free_bits
  free-bits t = ap₂ (λ (u w : ℕ). u + w * (t + 1)) free-starts free-inputs

  run-start : (t x : ℕ) → (run (pinned c q) t x).start ≡ (run_in (pinned_space c q) t x).start
  unfolding run pinned free_bits
  run-start t x =
      starts-tied q c.inputs (free_bit (free_bits (pinned c q) t) x) 0 c.latches
      ∙ ap (λ (n : ℕ). starts (free_bit n x) 0 c.latches) (free-bits t)

  -- the run of a sequence of the pinned space is that of the pinned circuit with the pins' values filled in
  pub run-fills : (t x : ℕ) → Fills c q t (run (pinned c q) t x) (run_in (pinned_space c q) t x)
  unfolding free_inputs
  run-fills t x =
      let n = bits_in (pinned_space c q) t in
      let w = free_inputs q (length c.inputs) in
      record {
        start = sym (run-start t x);
        row = λ u h.
            get_d-map-upto _ (t + 1) u [] (omega arith)
            ∙ fill-eq q (λ i. free_bit n x (free_starts c + w * u + i)) (λ j. get_or (get_or (run (pinned c q) t x).rows u []) j false) (length c.inputs) 0 0
            (λ k l.
            let i : 0 + k < length (pinned c q).inputs = omega (arith, free-inputs) in
            sym (run-input (pinned c q) t x u (0 + k) (omega arith) i
            ∙ ap (λ (m : ℕ). free_bit m x (free_starts (pinned c q) + length (pinned c q).inputs * u + (0 + k))) (free-bits t)
            ∙ ap₂ (λ (a b : ℕ). free_bit n x (a + b * u + (0 + k))) free-starts free-inputs));
      }

  module _ (right : T (literals_right c)) (known : T (used_defined c)) (a : T (acyclic c)) (b : ℕ) (bad : b < length c.bads) where
    -- a sequence of the pinned circuit hits where the sequence of the pinned space does
    pub pinned-reaches : (t x : ℕ) → reaches (pinned c q) b t x ≡ reaches_in (pinned_space c q) c b t x
    unfolding reaches reaches_in run
    pinned-reaches t x = pinned-hits c q right known a t (run (pinned c q) t x) (run_in (pinned_space c q) t x) (run-fills t x) b bad

    -- the two questions are one
    pub pinned-question : question (pinned c q) b ≡ pinned_question c q b
    pinned-question = λ i. record { places = λ t. 2 ^ free-bits t i; hitting = λ t x. pinned-reaches t x i }

    -- permitted answers are the same
    pub pinned-permitted : (k D : ℕ) (o : Outcome) → permitted (pinned c q) b k D o ≡ permitted_of (pinned_question c q b) k D o
    pinned-permitted k D o = ap (λ (z : Question). permitted_of z k D o) pinned-question

    -- the first hit is at one place
    pub pinned-first : (t : ℕ) → first_at (question (pinned c q) b) t ≡ first_at (pinned_question c q b) t
    pinned-first t = ap (λ (z : Question). first_at z t) pinned-question

-- ---- all pins free

module _ (q : ℕ → ℕ) where
  -- none of n pins from the i-th on holds
  abbrev pub AllFree : ℕ → ℕ → Type 0
  AllFree i n = (k : ℕ) → i ≤ k → k < i + n → is_held (q k) ≡ false

  kept_free : (i : ℕ) (ls : List ℕ) → AllFree i (length ls) → kept q i ls ≡ ls
  unfolding kept
  kept_free i [] h = refl
  kept_free i (l ∷ ls) h =
      rw (h i (omega arith) (omega arith)) (ap (λ (z : List ℕ). l ∷ z) (kept_free (suc i) ls (λ k m n. h k (omega arith) (omega arith))))

  pin-free : (i : ℕ) (ls : List ℕ) (v : ℕ) → AllFree i (length ls) → is_held (pin_of q i ls v) ≡ false
  unfolding pin_of
  pin-free i [] v h = refl
  pin-free i (l ∷ ls) v h = go (eqb (var l) v) (pin-free (suc i) ls v (λ k m n. h k (omega arith) (omega arith)))
    where
      go : (e : Bool) → is_held (pin_of q (suc i) ls v) ≡ false → is_held (cond e (q i) (pin_of q (suc i) ls v)) ≡ false
      go true r = h i (omega arith) (omega arith)
      go false r = r

  tied-free : (ls : List ℕ) (l : ℕ) → AllFree 0 (length ls) → tied q ls l ≡ l
  unfolding tied
  tied-free ls l h = rw (pin-free 0 ls (var l) h)

  map-free : {A : Type 0} (f : A → A) → ((x : A) → f x ≡ x) → (xs : List A) → map f xs ≡ xs
  map-free f e [] = refl
  map-free f e (x ∷ xs) = ap₂ ◌∷◌ (e x) (map-free f e xs)

  -- with all pins free the pinned circuit is the circuit
  pub pinned-free : (c : Circuit) → AllFree 0 (length c.inputs) → pinned c q ≡ c
  unfolding pinned
  pinned-free c h =
      let t : (l : ℕ) → tied q c.inputs l ≡ l = λ l. tied-free c.inputs l h in
      λ i. record {
        max_var = c.max_var;
        inputs = kept_free 0 c.inputs h i;
        latches = map-free (tied_latch q c.inputs) (λ x j. record { lit = x.lit; next = t x.next j; reset = x.reset }) c.latches i;
        outputs = map-free (tied q c.inputs) t c.outputs i;
        bads = map-free (tied q c.inputs) t c.bads i;
        constraints = map-free (tied q c.inputs) t c.constraints i;
        gates = map-free (tied_gate q c.inputs) (λ x j. record { lit = x.lit; left = t x.left j; right = t x.right j }) c.gates i;
      }

  fill-free : (f : ℕ → Bool) (n i j : ℕ) → AllFree i n → fill q f i j n ≡ map f (from j n)
  unfolding fill
  fill-free f zero i j h = refl
  fill-free f (suc n) i j h =
      rw (h i (omega arith) (omega arith)) (ap (λ (z : List Bool). f j ∷ z) (fill-free f n (suc i) (suc j) (λ k m l. h k (omega arith) (omega arith))))

  pub space-free : (c : Circuit) → AllFree 0 (length c.inputs) → pinned_space c q ≡ space c
  unfolding pinned
  space-free c h =
      λ i. record {
        free = free_starts c;
        width = (sym (kept-length q c.inputs) ∙ ap length (kept_free 0 c.inputs h)) i;
        start_of = λ f. starts f 0 c.latches;
        row_of = λ f. fill-free f (length c.inputs) 0 0 h i;
      }

  pub witness-free : (c : Circuit) (b t : ℕ) → AllFree 0 (length c.inputs) → pinned_witness c q b t ≡ first_witness c b t
  unfolding pinned_witness first_witness run free_bits reaches
  witness-free c b t h =
      ap (λ (s : Space).
      elim (first_at (record { places = λ u. 2 ^ bits_in s u; hitting = reaches_in s c b }) t) [ Option.some x ↦ witness b (run_in s t x) | Option.none ↦ [] ])
      (space-free c h)
