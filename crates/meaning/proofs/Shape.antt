-- A circuit with the shape of a fold: its literals are right, what it uses is defined, and it is acyclic. So load accepts it wherever its
-- counts fit. And the values that `value_on` gives are those of its sequences of frame 0. Assumes nothing.
use mathlib.Core.Path.{◌≡◌, refl, sym, ap, ap₂, ◌∙◌, subst}
use mathlib.Core.Bool.{Bool, true, not, ◌&&◌, ◌||◌}
use mathlib.Core.List.Memᴰ
use mathlib.Core.List.{List, [], ◌∷◌, ◌++◌, map, append-nil, Memᴰ}
use Prim.Native.Nat.{ℕ, zero, suc, ◌+◌, ◌-◌, ◌*◌, ◌%◌, ◌≤◌, ◌<◌}
use native.Mathlib.Decide.{dec_lt}
use native.Mathlib.Omega.{arith}
use borrow.Author.Tests.{ne_eqb}
use lib.Dec.{T, leb, ltb, eqb, leb→le, le→leb, ltb→lt, lt→ltb, eqb→eq}
use lib.ListN.{length, get_or, length-append, get_or-append, get_or-map}
use lib.Seq.{get_or-append-add, ext_get_or}
use Rattle.aiger.specs.Lists.{every, tally, distinct, member, same, upto}
use Rattle.aiger.specs.Bits.{nonzero, odd}
use Rattle.aiger.specs.Circuit.{Circuit, Latch, Gate, var, defined, used, literals_right, used_defined, acyclic}
use Rattle.aiger.specs.Frames.{Run, value_at, is_free, free_starts, free_bits, free_bit, starts, run}
use Rattle.aiger.specs.Fold.{value_on, output, shaped}
use Rattle.aiger.proofs.Tests.{and, and_left, and_right, T_true}
use Rattle.meaning.proofs.Lists.{mem-get_d, map-upto-eq, length-map-upto, get_d-map-upto, every-at, eqb_of, every_in, pairwise-in, every-both, every-mapped, same-eq, same_of, mem-member}
use Rattle.meaning.proofs.Defined.{no_latch, no_gate, gate_at}
use Rattle.meaning.proofs.Cycles.{ranked}

-- what the tests of the shape say
pub record FoldShape (n : ℕ) (d : Circuit) : Type 0 where
  pub top : d.max_var ≡ n + length d.gates
  pub inputs : d.inputs ≡ map (λ j. 2 * (j + 1)) (upto n)
  pub latches : d.latches ≡ []
  pub outputs : d.outputs ≡ output d ∷ []
  pub bads : d.bads ≡ []
  pub constraints : d.constraints ≡ []
  pub output-bound : output d ≤ 2 * d.max_var + 1
  pub lits : map (λ g. g.lit) d.gates ≡ map (λ i. 2 * (n + 1 + i)) (upto (length d.gates))
  pub operands : (i : ℕ) → i < length d.gates → ((gate_at d i).right < (gate_at d i).left) × ((gate_at d i).left < (gate_at d i).lit)

module _ (n : ℕ) (d : Circuit) where
  -- the tests, in order
  abbrev t1 : Bool
  t1 = eqb d.max_var (n + length d.gates)

  abbrev t2 : Bool
  t2 = same d.inputs (map (λ j. 2 * (j + 1)) (upto n))

  abbrev t3 : Bool
  t3 = eqb (length d.latches) 0

  abbrev t4 : Bool
  t4 = eqb (length d.outputs) 1

  abbrev t5 : Bool
  t5 = eqb (length d.bads) 0

  abbrev t6 : Bool
  t6 = eqb (length d.constraints) 0

  abbrev t7 : Bool
  t7 = leb (output d) (2 * d.max_var + 1)

  abbrev t8 : Bool
  t8 = same (map (λ g. g.lit) d.gates) (map (λ i. 2 * (n + 1 + i)) (upto (length d.gates)))

  abbrev earlier : Gate → Bool
  earlier g = ltb g.right g.left && ltb g.left g.lit

  pub shape-in : FoldShape n d → T (shaped n d)
  unfolding shaped
  shape-in s =
      and (t1 && t2 && t3 && t4 && t5 && t6 && t7 && t8) (every earlier d.gates)
      (and (t1 && t2 && t3 && t4 && t5 && t6 && t7) t8
      (and (t1 && t2 && t3 && t4 && t5 && t6) t7
      (and (t1 && t2 && t3 && t4 && t5) t6
      (and (t1 && t2 && t3 && t4) t5
      (and (t1 && t2 && t3) t4
      (and (t1 && t2) t3 (and t1 t2 (eqb_of s.top) (same_of s.inputs)) (eqb_of (ap length s.latches)))
      (eqb_of (ap length s.outputs)))
      (eqb_of (ap length s.bads)))
      (eqb_of (ap length s.constraints)))
      (le→leb (output d) (2 * d.max_var + 1) s.output-bound))
      (same_of s.lits))
      (every_in earlier d.gates no_gate
      (λ i h.
      let g = gate_at d i in
      let o = s.operands i h in
      and (ltb g.right g.left) (ltb g.left g.lit) (lt→ltb g.right g.left o.0) (lt→ltb g.left g.lit o.1)))

  pub shape-out : T (shaped n d) → FoldShape n d
  unfolding shaped
  shape-out t =
      let u8 = and_left (t1 && t2 && t3 && t4 && t5 && t6 && t7 && t8) (every earlier d.gates) t in
      let u7 = and_left (t1 && t2 && t3 && t4 && t5 && t6 && t7) t8 u8 in
      let u6 = and_left (t1 && t2 && t3 && t4 && t5 && t6) t7 u7 in
      let u5 = and_left (t1 && t2 && t3 && t4 && t5) t6 u6 in
      let u4 = and_left (t1 && t2 && t3 && t4) t5 u5 in
      let u3 = and_left (t1 && t2 && t3) t4 u4 in
      let u2 = and_left (t1 && t2) t3 u3 in
      let gates = and_right (t1 && t2 && t3 && t4 && t5 && t6 && t7 && t8) (every earlier d.gates) t in
      let one = eqb→eq (length d.outputs) 1 (and_right (t1 && t2 && t3) t4 u4) in
      record {
        top = eqb→eq d.max_var (n + length d.gates) (and_left t1 t2 u2);
        inputs = same-eq d.inputs (map (λ j. 2 * (j + 1)) (upto n)) (and_right t1 t2 u2);
        latches = empty no_latch d.latches (and_right (t1 && t2) t3 u3);
        outputs = ext_get_or 0 d.outputs (output d ∷ []) one (λ i h. let z : i ≡ 0 = omega arith in rw z);
        bads = empty 0 d.bads (and_right (t1 && t2 && t3 && t4) t5 u5);
        constraints = empty 0 d.constraints (and_right (t1 && t2 && t3 && t4 && t5) t6 u6);
        output-bound = leb→le (output d) (2 * d.max_var + 1) (and_right (t1 && t2 && t3 && t4 && t5 && t6) t7 u7);
        lits =
            same-eq (map (λ g. g.lit) d.gates) (map (λ i. 2 * (n + 1 + i)) (upto (length d.gates)))
            (and_right (t1 && t2 && t3 && t4 && t5 && t6 && t7) t8 u8);
        operands =
            λ i h.
            let g = gate_at d i in
            let a = ltb g.right g.left in
            let b = ltb g.left g.lit in
            let e = every-at earlier d.gates i no_gate h gates in
            (ltb→lt g.right g.left (and_left a b e), ltb→lt g.left g.lit (and_right a b e));
      }
    where
      empty : {A : Type 0} (z : A) (xs : List A) → T (eqb (length xs) 0) → xs ≡ []
      empty z xs t = let e = eqb→eq (length xs) 0 t in ext_get_or z xs [] e (λ i h. absurd (omega arith))

pub not-odd : (v : ℕ) → T (not (odd (2 * v)))
not-odd v = let e : 2 * v % 2 ≡ 0 = omega arith in subst (λ (x : ℕ). T (not (nonzero x))) (sym e) tt

module _ {n : ℕ} {d : Circuit} (s : FoldShape n d) where
  -- gates are numbered upward from n + 1
  pub gate-lit : (i : ℕ) → i < length d.gates → (gate_at d i).lit ≡ 2 * (n + 1 + i)
  gate-lit i h =
      sym (get_or-map (λ g. g.lit) d.gates i no_gate) ∙ ap (λ (l : List ℕ). get_or l i 0) s.lits
      ∙ get_d-map-upto (λ j. 2 * (n + 1 + j)) (length d.gates) i 0 h

  -- ---- the definitions: the variables from 1 to M, in order

  abbrev input_lits : List ℕ
  input_lits = map (λ j. 2 * (j + 1)) (upto n)

  abbrev gate_lits : List ℕ
  gate_lits = map (λ i. 2 * (n + 1 + i)) (upto (length d.gates))

  defined-are : defined d ≡ map (λ j. 2 * (j + 1)) (upto n) ++ map (λ i. 2 * (n + 1 + i)) (upto (length d.gates))
  unfolding defined
  defined-are =
      ap₂ (λ (x y : List ℕ). x ++ y)
      (ap₂ (λ (x y : List ℕ). x ++ y) s.inputs (ap (map (λ l. l.lit)) s.latches) ∙ append-nil input_lits) s.lits

  defined-length : length (defined d) ≡ d.max_var
  defined-length =
      ap length defined-are ∙ length-append input_lits gate_lits
      ∙ omega (arith, s.top, length-map-upto (λ j. 2 * (j + 1)) n, length-map-upto (λ i. 2 * (n + 1 + i)) (length d.gates))

  defined-at : (j : ℕ) → j < d.max_var → get_or (defined d) j 0 ≡ 2 * (j + 1)
  defined-at j h =
      let k : length input_lits ≡ n = length-map-upto (λ i. 2 * (i + 1)) n in
      ap (λ (l : List ℕ). get_or l j 0) defined-are
      ∙ elim (dec_lt j n) [
        | yes l ↦ get_or-append input_lits gate_lits 0 j (omega arith) ∙ get_d-map-upto (λ i. 2 * (i + 1)) n j 0 l
        | no l ↦
            (let e : j ≡ length input_lits + (j - n) = omega arith in
            ap (λ (x : ℕ). get_or (input_lits ++ gate_lits) x 0) e ∙ get_or-append-add input_lits gate_lits (j - n) 0
            ∙ get_d-map-upto (λ i. 2 * (n + 1 + i)) (length d.gates) (j - n) 0 (omega (arith, s.top)) ∙ omega arith)
      ]

  -- a test that the literals 2, 4, .. pass is one that the definitions pass
  defined-all : (p : ℕ → Bool) → ((j : ℕ) → j < d.max_var → T (p (2 * (j + 1)))) → T (every p (defined d))
  defined-all p h =
      every_in p (defined d) 0
      (λ j l.
      let u : j < d.max_var = omega (arith, defined-length) in
      subst (λ (x : ℕ). T (p x)) (sym (defined-at j u)) (h j u))

  defined-once : T (distinct (defined d))
  defined-once =
      pairwise-in (λ x y. not (eqb x y)) (defined d) 0
      (λ i j h l.
      let x = get_or (defined d) i 0 in
      let y = get_or (defined d) j 0 in
      let k = defined-length in
      let a : x ≡ 2 * (i + 1) = defined-at i (omega arith) in
      let b : y ≡ 2 * (j + 1) = defined-at j (omega arith) in
      T_true (ap not (ne_eqb x y (λ e. omega arith))))

  -- ---- the uses: the output and the operands

  used-are : used d ≡ (output d ∷ []) ++ map (λ g. g.left) d.gates ++ map (λ g. g.right) d.gates
  unfolding used
  used-are = rw (s.latches, s.outputs, s.bads, s.constraints)

  -- a test that the literals up to 2M+1 pass is one that the uses pass
  used_all : (p : ℕ → Bool) → ((l : ℕ) → l ≤ 2 * d.max_var + 1 → T (p l)) → T (every p (used d))
  used_all p h =
      let lefts = map (λ (g : Gate). g.left) d.gates in
      let rights = map (λ (g : Gate). g.right) d.gates in
      let operands : (i : ℕ) → i < length d.gates → T (p (gate_at d i).left) × T (p (gate_at d i).right) = λ i l.
      let o = s.operands i l in
      let e = gate-lit i l in
      let u : (gate_at d i).left ≤ 2 * d.max_var + 1 = omega (arith, o, s.top) in
      (h (gate_at d i).left u, h (gate_at d i).right (omega (arith, o))) in
      rw used-are
      (every-both p ((output d ∷ []) ++ lefts) rights
      (and (p (output d)) (every p lefts) (h (output d) s.output-bound)
      (every-mapped p (λ g. g.left) d.gates (every_in (λ g. p g.left) d.gates no_gate (λ i l. (operands i l).0))))
      (every-mapped p (λ g. g.right) d.gates (every_in (λ g. p g.right) d.gates no_gate (λ i l. (operands i l).1))))

  -- ---- the causes 6, 7 and 8

  pub shape-right : T (literals_right d)
  unfolding literals_right
  shape-right =
      let m = 2 * d.max_var + 1 in
      let r1 = every (λ l. leb l m) (defined d ++ used d) in
      let r2 = every (λ l. leb 2 l && not (odd l)) (defined d) in
      let r3 = distinct (defined d) in
      let resets : List Latch → Bool = every (λ l. leb l.reset 1 || eqb l.reset l.lit) in
      and r1 (r2 && (r3 && (resets d.latches && true)))
      (every-both (λ l. leb l m) (defined d) (used d)
      (defined-all (λ l. leb l m) (λ j h. le→leb (2 * (j + 1)) m (omega arith)))
      (used_all (λ l. leb l m) (λ l h. le→leb l m h)))
      (and r2 (r3 && (resets d.latches && true))
      (defined-all (λ l. leb 2 l && not (odd l))
      (λ j h. and (leb 2 (2 * (j + 1))) (not (odd (2 * (j + 1)))) (le→leb 2 (2 * (j + 1)) (omega arith)) (not-odd (j + 1))))
      (and r3 (resets d.latches && true) defined-once (subst (λ (ls : List Latch). T (resets ls && true)) (sym s.latches) tt)))

  variable-in : (v : ℕ) → v ≤ d.max_var → Memᴰ v (0 ∷ map var (defined d))
  variable-in zero h = Memᴰ.head refl
  variable-in (suc j) h =
      let e : suc j ≡ var (get_or (defined d) j 0) = omega (arith, defined-at j (omega arith)) in
      Memᴰ.tail (Memᴰ.cast e (Memᴰ.map var (mem-get_d (defined d) j 0 (omega (arith, defined-length)))))

  pub shape-defined : T (used_defined d)
  unfolding used_defined
  shape-defined = used_all (λ l. member (var l) (0 ∷ map var (defined d))) (λ l h. mem-member (variable-in (var l) (omega arith)))

  pub shape-acyclic : T (acyclic d)
  shape-acyclic =
      ranked d (λ v. v)
      (λ i h. let o = s.operands i h in let l = gate-lit i h in (omega (arith, o), omega (arith, o)))

  -- ---- sequences

  no_start : free_starts d ≡ 0
  unfolding free_starts
  no_start = ap (tally is_free) s.latches

  pub input-count : length d.inputs ≡ n
  input-count = ap length s.inputs ∙ length-map-upto (λ j. 2 * (j + 1)) n

  -- its free bits at frame 0 are its inputs
  pub shape-bits : free_bits d 0 ≡ n
  unfolding free_bits
  shape-bits = omega (arith, no_start, input-count)

  shape-run : (x : ℕ) → run d 0 x ≡ record { start = []; rows = map (free_bit n x) (upto n) ∷ [] }
  unfolding run free_bits starts
  shape-run x =
      let free = free_bit (free_bits d 0) x in
      let I = length d.inputs in
      let row : map (λ i. free (free_starts d + I * 0 + i)) (upto I) ≡ map (free_bit n x) (upto n) =
      map-upto-eq (λ i. free (free_starts d + I * 0 + i)) (free_bit n x) I
      (λ i h.
      let e : free_starts d + I * 0 + i ≡ i = omega (arith, no_start) in
      ap₂ (λ (k j : ℕ). free_bit k x j) shape-bits e)
      ∙ ap (λ (k : ℕ). map (free_bit n x) (upto k)) input-count in
      ap₂ (λ (st : List Bool) (r : List Bool). record { start = st; rows = r ∷ [] }) (ap (starts free 0) s.latches) row

  -- the values of `value_on` are those in frame 0 of its sequences
  pub shape-values : (x l : ℕ) → value_at d (run d 0 x) 0 l ≡ value_on d n x l
  unfolding value_on
  shape-values x l = ap (λ (r : Run). value_at d r 0 l) (shape-run x)
