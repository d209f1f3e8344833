-- The lists of a circuit that words say, as columns of the words. Assumes nothing.
use mathlib.Core.Path.{◌≡◌, refl, sym, ap, ◌∙◌, subst}
use mathlib.Core.Bool.{Bool}
use mathlib.Core.List.{List, ◌++◌, map, map-map}
use Prim.Native.Nat.{ℕ, ◌+◌, ◌-◌, ◌*◌, ◌<◌}
use native.Mathlib.Decide.{dec_lt}
use native.Mathlib.Omega.{arith}
use lib.Dec.{T}
use lib.ListN.{length, get_or, length-append, get_or-append}
use lib.Seq.{get_or-append-add}
use Rattle.aiger.specs.Lists.{every, upto}
use Rattle.aiger.specs.Circuit.{defined, used}
use Rattle.aiger.proofs.Tests.{every-left, every-right}
use Rattle.meaning.proofs.Lists.{every-at, every_in}
use Rattle.layout.specs.Words.{word, latches_at, outputs_at, bads_at, constraints_at, gates_at, circuit_in}
use Rattle.roundtrip.proofs.Lists.{every_append, upto-length, upto-get}
use Rattle.layout.specs.Layout.{Counted}
use Rattle.columns.specs.declared.Column.{Column}
use Rattle.columns.specs.declared.Role.{Role}
use Rattle.columns.specs.declared.Role.TheVariants.{Input, Latch, Gate, Next, Root, Left, Right}
use Rattle.columns.specs.Columns.{at, Inside, spaced, column_of, total, definition, Used}

-- every column is within the words
pub inside : (w : List ℕ) → Counted w → (r : Role) → Inside w (column_of w r)
inside w C Input i l = omega (arith, C.held)
inside w C Latch i l = omega (arith, C.held)
inside w C Gate i l = omega (arith, C.held)
inside w C Next i l = omega (arith, C.held)
inside w C Root i l = omega (arith, C.held)
inside w C Left i l = omega (arith, C.held)
inside w C Right i l = omega (arith, C.held)

-- six lists in one
module _ {A : Type 0} (p : A → Bool) (a b c d e f : List A) where
  every-six : T (every p a) → T (every p b) → T (every p c) → T (every p d) → T (every p e) → T (every p f)
      → T (every p (a ++ b ++ c ++ d ++ e ++ f))
  every-six s t u v w x =
      every_append p (a ++ b ++ c ++ d ++ e) f
      (every_append p (a ++ b ++ c ++ d) e (every_append p (a ++ b ++ c) d (every_append p (a ++ b) c (every_append p a b s t) u) v) w) x

  six-every : T (every p (a ++ b ++ c ++ d ++ e ++ f))
      → T (every p a) × T (every p b) × T (every p c) × T (every p d) × T (every p e) × T (every p f)
  six-every t =
      let u = every-left p (a ++ b ++ c ++ d ++ e) f t in
      let v = every-left p (a ++ b ++ c ++ d) e u in
      let w = every-left p (a ++ b ++ c) d v in
      let x = every-left p (a ++ b) c w in (
        every-left p a b x,
        every-right p a b x,
        every-right p (a ++ b) c w,
        every-right p (a ++ b ++ c) d v,
        every-right p (a ++ b ++ c ++ d) e u,
        every-right p (a ++ b ++ c ++ d ++ e) f t,
      )

module _ (w : List ℕ) where
  -- the words of a column
  abbrev cells : Column → List ℕ
  cells c = map (at w c) (upto c.n)

  abbrev input_cells : List ℕ
  input_cells = cells (column_of w Input)

  abbrev latch_cells : List ℕ
  latch_cells = cells (column_of w Latch)

  abbrev gate_cells : List ℕ
  gate_cells = cells (column_of w Gate)

  pub max-var : (circuit_in w).max_var ≡ word w 0
  unfolding circuit_in
  max-var = refl

  defined-cells : defined (circuit_in w) ≡ input_cells ++ latch_cells ++ gate_cells
  unfolding defined circuit_in
  defined-cells = simp map-map

  -- word k of part i of parts of three words, from `from` on
  abbrev third : ℕ → ℕ → ℕ → ℕ
  third from k i = word w (from + 3 * i + k)

  abbrev outputs_of : Column
  outputs_of = spaced (outputs_at w) 1 (word w 3)

  abbrev bads_of : Column
  bads_of = spaced (bads_at w) 1 (word w 5)

  abbrev constraints_of : Column
  constraints_of = spaced (constraints_at w) 1 (word w 6)

  abbrev next_cells : List ℕ
  next_cells = map (third (latches_at w) 1) (upto (word w 2))

  abbrev left_cells : List ℕ
  left_cells = map (third (gates_at w) 1) (upto (word w 4))

  abbrev right_cells : List ℕ
  right_cells = map (third (gates_at w) 2) (upto (word w 4))

  used-cells : used (circuit_in w) ≡ next_cells ++ cells outputs_of ++ cells bads_of ++ cells constraints_of ++ left_cells ++ right_cells
  unfolding used circuit_in
  used-cells = simp map-map

  -- ---- definitions by place

  length-cells : (c : Column) → length (cells c) ≡ c.n
  length-cells c = upto-length (at w c) c.n

  pub length-defined : length (defined (circuit_in w)) ≡ total w
  length-defined =
      ap length defined-cells
      ∙ simp (length-append, length-cells (column_of w Input), length-cells (column_of w Latch), length-cells (column_of w Gate))

  front : List ℕ
  front = input_cells ++ latch_cells

  length_front : length front ≡ word w 1 + word w 2
  unfolding front
  length_front = simp (length-append, length-cells (column_of w Input), length-cells (column_of w Latch))

  pub input-place : (i : ℕ) → i < word w 1 → at w (column_of w Input) i ≡ definition w (0 + i)
  unfolding definition
  input-place i h =
      let z : 0 + i ≡ i = omega arith in
      let k : i < length input_cells = omega (arith, length-cells (column_of w Input)) in
      rw (z, defined-cells)
      (sym
      (get_or-append (input_cells ++ latch_cells) gate_cells 0 i (simp length-append (omega arith))
      ∙ get_or-append input_cells latch_cells 0 i k
      ∙ upto-get (at w (column_of w Input)) (word w 1) i 0 h))

  pub latch-place : (j : ℕ) → j < word w 2 → at w (column_of w Latch) j ≡ definition w (word w 1 + j)
  unfolding definition
  latch-place j h =
      let a = length-cells (column_of w Input) in
      let k : j < length latch_cells = omega (arith, length-cells (column_of w Latch)) in
      sym
      (ap (λ (x : ℕ). get_or (defined (circuit_in w)) (x + j) 0) (sym a)
      ∙ ap (λ (xs : List ℕ). get_or xs (length input_cells + j) 0) defined-cells
      ∙ get_or-append (input_cells ++ latch_cells) gate_cells 0 (length input_cells + j) (simp length-append (omega arith))
      ∙ get_or-append-add input_cells latch_cells j 0
      ∙ upto-get (at w (column_of w Latch)) (word w 2) j 0 h)

  pub gate-place : (g : ℕ) → g < word w 4 → at w (column_of w Gate) g ≡ definition w (word w 1 + word w 2 + g)
  unfolding definition front
  gate-place g h =
      rw (defined-cells, ← length_front)
      (sym (get_or-append-add (input_cells ++ latch_cells) gate_cells g 0 ∙ upto-get (at w (column_of w Gate)) (word w 4) g 0 h))

  -- ---- a test of each literal that is used

  module _ (p : ℕ → Bool) where
    -- a test of the values of f at the numbers below n
    range-every : (f : ℕ → ℕ) (n : ℕ) → ((i : ℕ) → i < n → T (p (f i))) → T (every p (map f (upto n)))
    range-every f n h =
        every_in p (map f (upto n)) 0
        (λ i l. let k : i < n = omega (arith, upto-length f n) in subst (λ (x : ℕ). T (p x)) (sym (upto-get f n i 0 k)) (h i k))

    every-range : (f : ℕ → ℕ) (n : ℕ) → T (every p (map f (upto n))) → (i : ℕ) → i < n → T (p (f i))
    every-range f n t i l =
        subst (λ (x : ℕ). T (p x)) (upto-get f n i 0 l) (every-at p (map f (upto n)) i 0 (omega (arith, upto-length f n)) t)

    move : (i j : ℕ) → i ≡ j → T (p (word w i)) → T (p (word w j))
    move i j e t = subst (λ (x : ℕ). T (p (word w x))) e t

    pub used-every : Used w (λ l. T (p l)) → T (every p (used (circuit_in w)))
    used-every u =
        rw used-cells
        (every-six p next_cells (cells outputs_of) (cells bads_of) (cells constraints_of) left_cells right_cells
        (range-every (third (latches_at w) 1) (word w 2)
        (λ i l. move (latches_at w + 1 + 3 * i) (latches_at w + 3 * i + 1) (omega arith) (u.nexts i l)))
        (range-every (at w outputs_of) (word w 3) (λ i l. u.roots i (omega arith)))
        (range-every (at w bads_of) (word w 5)
        (λ i l. move (outputs_at w + 1 * (word w 3 + i)) (bads_at w + 1 * i) (omega arith) (u.roots (word w 3 + i) (omega arith))))
        (range-every (at w constraints_of) (word w 6)
        (λ i l. move (outputs_at w + 1 * (word w 3 + word w 5 + i)) (constraints_at w + 1 * i) (omega arith)
        (u.roots (word w 3 + word w 5 + i) (omega arith))))
        (range-every (third (gates_at w) 1) (word w 4)
        (λ i l. move (gates_at w + 1 + 3 * i) (gates_at w + 3 * i + 1) (omega arith) (u.lefts i l)))
        (range-every (third (gates_at w) 2) (word w 4)
        (λ i l. move (gates_at w + 2 + 3 * i) (gates_at w + 3 * i + 2) (omega arith) (u.rights i l))))

    root : T (every p (cells outputs_of)) → T (every p (cells bads_of)) → T (every p (cells constraints_of))
        → (i : ℕ) → i < word w 3 + word w 5 + word w 6
        → Dec (i < word w 3) → Dec (i < word w 3 + word w 5) → T (p (word w (outputs_at w + 1 * i)))
    root o b c i l (yes h) k = every-range (at w outputs_of) (word w 3) o i h
    root o b c i l (no h) (yes k) =
        let j : ℕ = i - word w 3 in
        move (bads_at w + 1 * j) (outputs_at w + 1 * i) (omega arith) (every-range (at w bads_of) (word w 5) b j (omega arith))
    root o b c i l (no h) (no k) =
        let j : ℕ = i - (word w 3 + word w 5) in
        move (constraints_at w + 1 * j) (outputs_at w + 1 * i) (omega arith) (every-range (at w constraints_of) (word w 6) c j (omega arith))

    pub every-used : T (every p (used (circuit_in w))) → Used w (λ l. T (p l))
    every-used s =
        let t = six-every p next_cells (cells outputs_of) (cells bads_of) (cells constraints_of) left_cells right_cells (rw used-cells at s) in
        record {
          nexts = λ i l.
              move (latches_at w + 3 * i + 1) (latches_at w + 1 + 3 * i) (omega arith)
              (every-range (third (latches_at w) 1) (word w 2) t.0 i l);
          roots = λ i l. root t.1 t.2 t.3 i l (dec_lt i (word w 3)) (dec_lt i (word w 3 + word w 5));
          lefts = λ i l.
              move (gates_at w + 3 * i + 1) (gates_at w + 1 + 3 * i) (omega arith) (every-range (third (gates_at w) 1) (word w 4) t.4 i l);
          rights = λ i l.
              move (gates_at w + 3 * i + 2) (gates_at w + 2 + 3 * i) (omega arith) (every-range (third (gates_at w) 2) (word w 4) t.5 i l);
        }
