-- The wires of a circuit in memory: where the literal of each stands, and that its variable has a word. Assumes nothing.
use mathlib.Core.Path.{◌≡◌, refl, sym, ap, ◌∙◌, subst}
use mathlib.Core.List.{List, [], ◌∷◌, ◌++◌, map}
use Prim.Native.Nat.{ℕ, ◌+◌, ◌-◌, ◌*◌, ◌≤◌, ◌<◌}
use native.Mathlib.Decide.{dec_lt}
use native.Mathlib.Omega.{arith}
use lib.Dec.{T}
use lib.ListN.{length, get_or, length-append, length-map, get_or-append, get_or-map}
use Rattle.aiger.specs.Circuit.{Circuit, Latch, var, used_defined}
use Rattle.aiger.specs.Memory.{Holds}
use Rattle.layout.specs.Words.{word, outputs_at, circuit_in}
use Rattle.layout.specs.Layout.{LayoutOf}
use Rattle.layout.specs.declared.Layout.{Layout}
use Rattle.roundtrip.proofs.Lists.{upto-length, upto-get}
use Rattle.meaning.proofs.Defined.{no_latch, input_at, latch_at, Known, input, latch, output-known, bad-known, constraint-known}
use Rattle.frames.proofs.Facts.{latch-count, bad-count, constraint-count, bad-word, constraint-word, counts, known, inside, known_small}
use Rattle.frames.proofs.Places.{input-count, input-place, latch-place, inputs_are, latches-are}
use Rattle.vcd.specs.Wires.{literals, literal_at, wires_in, FewWires}
use Rattle.vcd.proofs.Names.{get_d_past}

-- ---- the outputs

module _ (m : List ℕ) where
  output-count : length (circuit_in m).outputs ≡ word m 3
  unfolding circuit_in
  output-count = upto-length (λ i. word m (outputs_at m + 1 * i)) (word m 3)

  output-word : (i : ℕ) → i < word m 3 → get_or (circuit_in m).outputs i 0 ≡ word m (outputs_at m + i)
  unfolding circuit_in
  output-word i h = upto-get (λ k. word m (outputs_at m + 1 * k)) (word m 3) i 0 h ∙ ap (word m) (omega arith)

-- ---- what holds of each wire

-- what holds of the elements of two lists holds of those of both
split : (P : ℕ → Type 0) (xs ys : List ℕ) → ((i : ℕ) → i < length xs → P (get_or xs i 0)) → ((j : ℕ) → P (get_or ys j 0)) → (k : ℕ) → P (get_or (xs ++ ys) k 0)
split P xs ys f g k =
    elim (dec_lt k (length xs)) [
      | yes l ↦ subst P (sym (get_or-append xs ys 0 k l)) (f k l)
      | no l ↦ subst P (sym (get_d_past xs ys (length xs) k 0 refl (omega arith))) (g (k - length xs))
    ]

lit-at : (c : Circuit) (j : ℕ) → get_or (map (λ (l : Latch). l.lit) c.latches) j 0 ≡ (latch_at c j).lit
lit-at c j = get_or-map (λ (l : Latch). l.lit) c.latches j no_latch

pub wire-known : (c : Circuit) → T (used_defined c) → (k : ℕ) → Known c (var (literal_at c k))
unfolding literals
wire-known c u =
    let P : ℕ → Type 0 = λ l. Known c (var l) in
    split P c.inputs _ (λ i l. input i l refl)
    (split P (map (λ (l : Latch). l.lit) c.latches) _
    (λ j l. latch j (omega (arith, length-map c.latches (λ (x : Latch). x.lit))) (ap var (sym (lit-at c j))))
    (split P c.outputs _ (λ i l. output-known c u i) (split P c.bads c.constraints (λ i l. bad-known c u i) (constraint-known c u))))

-- ---- a circuit in memory

module _ {m : List ℕ} {p : Layout} (h : Holds m (circuit_in m)) (a : LayoutOf m p) where
  abbrev c : Circuit
  c = circuit_in m

  pub outputs-are : p.o ≡ length (circuit_in m).outputs
  outputs-are = a.o_is ∙ sym (output-count m)

  pub bads-are : p.b ≡ length (circuit_in m).bads
  bads-are = a.b-is ∙ sym (bad-count m)

  pub constraints-are : p.c ≡ length (circuit_in m).constraints
  constraints-are = a.c-is ∙ sym (constraint-count m)

  pub wires-are : wires_in p ≡ length (literals (circuit_in m))
  unfolding literals
  wires-are =
      simp (length-append, length-map) (omega (arith, inputs_are h a, latches-are h a, outputs-are, bads-are, constraints-are))

  pub wires-few : wires_in p ≤ 1376
  wires-few =
      let n = counts h in
      omega (arith, n.inputs, n.latches, n.outputs, n.bads, n.constraints, inputs_are h a, latches-are h a, outputs-are, bads-are, constraints-are)

  module _ (k : ℕ) where
    pub input-literal : k < p.i → word m (7 + k) ≡ literal_at (circuit_in m) k
    unfolding literals
    input-literal l =
        sym (get_or-append c.inputs (map (λ (x : Latch). x.lit) c.latches ++ (c.outputs ++ (c.bads ++ c.constraints))) 0 k (omega (arith, inputs_are h a))
        ∙ input-place h a k l)

    module _ (past : p.i ≤ k) where
      others : List ℕ
      others = c.outputs ++ (c.bads ++ c.constraints)

      past-inputs : literal_at (circuit_in m) k ≡ get_or (map (λ (x : Latch). x.lit) c.latches ++ others) (k - p.i) 0
      unfolding literals others
      past-inputs =
          get_d_past c.inputs (map (λ (x : Latch). x.lit) c.latches ++ (c.outputs ++ (c.bads ++ c.constraints))) p.i k 0 (sym (inputs_are h a)) past

      lits-length : length (map (λ (x : Latch). x.lit) c.latches) ≡ p.l
      lits-length = length-map c.latches (λ (x : Latch). x.lit) ∙ sym (latches-are h a)

      pub latch-literal : k - p.i < p.l → word m (p.latches + 3 * (k - p.i)) ≡ literal_at (circuit_in m) k
      latch-literal l =
          sym (past-inputs
          ∙ get_or-append (map (λ (x : Latch). x.lit) c.latches) others 0 (k - p.i) (omega (arith, lits-length))
          ∙ lit-at c (k - p.i) ∙ ap (λ (x : Latch). x.lit) (latch-place h a (k - p.i) l))

      pub other-literal : p.l ≤ k - p.i → k < wires_in p → word m (p.outputs + (k - p.i - p.l)) ≡ literal_at (circuit_in m) k
      unfolding others
      other-literal q s =
          let j = k - p.i - p.l in
          sym (past-inputs ∙ get_d_past (map (λ (x : Latch). x.lit) c.latches) others p.l (k - p.i) 0 lits-length q
          ∙ elim (dec_lt j p.o) [
            | yes l ↦
                get_or-append c.outputs (c.bads ++ c.constraints) 0 j (omega (arith, outputs-are))
                ∙ output-word m j (omega (arith, a.o_is)) ∙ ap (word m) (omega (arith, a.outputs-is))
            | no l ↦
                get_d_past c.outputs (c.bads ++ c.constraints) p.o j 0 (sym outputs-are) (omega arith)
                ∙ elim (dec_lt (j - p.o) p.b) [
                  | yes x ↦
                      get_or-append c.bads c.constraints 0 (j - p.o) (omega (arith, bads-are))
                      ∙ bad-word m (j - p.o) (omega (arith, a.b-is)) ∙ ap (word m) (omega (arith, a.outputs-is, a.o_is))
                  | no x ↦
                      get_d_past c.bads c.constraints p.b (j - p.o) 0 (sym bads-are) (omega arith)
                      ∙ constraint-word m (j - p.o - p.b) (omega (arith, a.c-is)) ∙ ap (word m) (omega (arith, a.outputs-is, a.o_is, a.b-is))
                ]
          ])

  -- the words where literals stand lie within the memory
  pub input-inside : (k : ℕ) → k < p.i → 7 + k < length m
  input-inside k l = omega (arith, inside h, a.i-is)

  pub latch-inside : (j : ℕ) → j < p.l → p.latches + 3 * j + 2 < length m
  latch-inside j l = omega (arith, inside h, a.latches-is, a.l-is)

  pub other-inside : (j : ℕ) → p.i + p.l + j < wires_in p → p.outputs + j < length m
  other-inside j l = omega (arith, inside h, a.outputs-is, a.o_is, a.b-is, a.c-is)

  -- the variable of a wire is at most M
  pub wire-small : (k : ℕ) → var (literal_at (circuit_in m) k) ≤ word m 0
  wire-small k = known_small h (var (literal_at (circuit_in m) k)) (wire-known (circuit_in m) (known h) k)
