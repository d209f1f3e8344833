-- The table of numbers that `number_all` fills. Assumes nothing.
use mathlib.Core.Path.{◌≡◌, refl, sym, ap, ◌∙◌, subst, subst₂}
use mathlib.Core.List.Memᴰ
use mathlib.Core.List.{List, ◌∷◌, map, Memᴰ}
use mathlib.Core.Logic.{⊎_elim}
use Prim.Native.Nat.{ℕ, ◌+◌, ◌*◌, ◌/◌, ◌≤◌, ◌<◌}
use native.Mathlib.Omega.{arith}
use lib.Dec.{T}
use lib.ListN.{length, get_or, length-map, get_or-map}
use Rattle.aiger.specs.Lists.{member}
use Rattle.aiger.specs.Circuit.{Circuit, Latch, Gate, var, defined, literals_right}
use Rattle.aiger.specs.Memory.{Holds}
use Rattle.layout.specs.Words.{word, latch_in, gate_in, latches_at, gates_at, circuit_in}
use Rattle.layout.specs.Layout.{LayoutOf}
use Rattle.layout.specs.declared.Layout.{Layout}
use Rattle.roundtrip.proofs.Lists.{upto-length, upto-get}
use Rattle.meaning.proofs.Lists.{member-mem}
use Rattle.meaning.proofs.Defined.{Known, constant, input, latch, gate, no_latch, no_gate, input_at, latch_at, gate_at, definition, input-in, latch-in, gate-in, defined-known, apart-inputs, apart-latches, apart-gates, input-latch, input-gate, latch-gate}
use Rattle.frames.specs.Lanes.{Apart, Stored}
use Rattle.frames.proofs.Facts.{top-is, latch-count, gate-count, latch-word, gate-word, counts, right, inside, known_small}
use Rattle.joined.specs.Joined.{number_of}
use Rattle.renumber.specs.Names.{Named}
use Rattle.parting.proofs.Numbers.{number-input, number-latch, number-gate, number-zero}
pub use Rattle.frames.proofs.Places.{input-count, input-word}

-- a variable among those of the definitions
pub member-known : (c : Circuit) (v : ℕ) → T (member v (0 ∷ map var (defined c))) → Known c v
member-known c v t = go (member-mem v (0 ∷ map var (defined c)) t)
  where
    go : Memᴰ v (0 ∷ map var (defined c)) → Known c v
    go m =
        ⊎_elim constant (λ k. let o = Memᴰ.of_map var (defined c) k in subst (Known c) o.2 (defined-known c o.0 o.1)) (Memᴰ.cases_cons m)

module _ {m : List ℕ} (h : Holds m (circuit_in m)) where
  abbrev c : Circuit
  c = circuit_in m

  -- where definitions stand
  abbrev input_place : ℕ → ℕ
  input_place j = var (word m (7 + j))

  abbrev latch_place : ℕ → ℕ
  latch_place j = var (word m (latches_at m + 3 * j))

  abbrev gate_place : ℕ → ℕ
  gate_place j = var (word m (gates_at m + 3 * j))

  input-place : (j : ℕ) → j < word m 1 → input_place j ≡ var (input_at c j)
  input-place j l = ap var (sym (input-word m j l))

  latch-place : (j : ℕ) → j < word m 2 → latch_place j ≡ var (latch_at c j).lit
  latch-place j l = ap (λ (x : Latch). var x.lit) (sym (latch-word m j l))

  gate-place : (j : ℕ) → j < word m 4 → gate_place j ≡ var (gate_at c j).lit
  gate-place j l = ap (λ (x : Gate). var x.lit) (sym (gate-word m j l))

  -- places are apart where the literals of a list are
  apart_of : (place : ℕ → ℕ) (ls : List ℕ) (n count : ℕ) → length ls ≡ n → ((j : ℕ) → j < n → place j ≡ var (get_or ls j 0)) → ((j : ℕ) → j < n → place j < count)
      → ((i j : ℕ) → i < j → j < length ls → var (get_or ls i 0) ≡ var (get_or ls j 0) → ⊥) → Apart place n count
  apart_of place ls n count e p b a =
      record { below = b; differ = λ i j l k q. a i j l (omega arith) (sym (p i (omega arith)) ∙ q ∙ p j k) }

  module _ (count : ℕ) (room : word m 0 < count) where
    pub inputs_apart : Apart (λ j. var (word m (7 + j))) (word m 1) count
    inputs_apart =
        apart_of input_place c.inputs (word m 1) count (input-count m) input-place
        (λ j l. omega (arith, input-place j l, known_small h (var (input_at c j)) (input j (omega (arith, input-count m)) refl))) (apart-inputs c (right h))

    pub latches-apart : Apart (λ j. var (word m (latches_at m + 3 * j))) (word m 2) count
    latches-apart =
        apart_of latch_place (map (λ (l : Latch). l.lit) c.latches) (word m 2) count (length-map c.latches (λ (l : Latch). l.lit) ∙ latch-count m)
        (λ j l. latch-place j l ∙ ap var (sym (get_or-map (λ (x : Latch). x.lit) c.latches j no_latch)))
        (λ j l. omega (arith, latch-place j l, known_small h (var (latch_at c j).lit) (latch j (omega (arith, latch-count m)) refl))) (apart-latches c (right h))

    pub gates-apart : Apart (λ j. var (word m (gates_at m + 3 * j))) (word m 4) count
    gates-apart =
        apart_of gate_place (map (λ (g : Gate). g.lit) c.gates) (word m 4) count (length-map c.gates (λ (g : Gate). g.lit) ∙ gate-count m)
        (λ j l. gate-place j l ∙ ap var (sym (get_or-map (λ (x : Gate). x.lit) c.gates j no_gate)))
        (λ j l. omega (arith, gate-place j l, known_small h (var (gate_at c j).lit) (gate j (omega (arith, gate-count m)) refl))) (apart-gates c (right h))

  -- after the three loops each variable has its number
  module _ (p q : ℕ) (n₀ n₁ n₂ n₃ : List ℕ) (blank : (v : ℕ) → word n₀ v ≡ 0)
      (si : Stored (λ j. var (word m (7 + j))) (λ j. 1 + j) (word m 1) n₀ n₁)
      (sl : Stored (λ j. var (word m (latches_at m + 3 * j))) (λ j. p + j) (word m 2) n₁ n₂)
      (sg : Stored (λ j. var (word m (gates_at m + 3 * j))) (λ j. q + j) (word m 4) n₂ n₃) where
    not-latch : (v : ℕ) → ((j : ℕ) → j < length c.latches → var (latch_at c j).lit ≡ v → ⊥) → word n₂ v ≡ word n₁ v
    not-latch v n = sl.others v (λ j l e. n j (omega (arith, latch-count m)) (sym (latch-place j l) ∙ e))

    not-gate : (v : ℕ) → ((j : ℕ) → j < length c.gates → var (gate_at c j).lit ≡ v → ⊥) → word n₃ v ≡ word n₂ v
    not-gate v n = sg.others v (λ j l e. n j (omega (arith, gate-count m)) (sym (gate-place j l) ∙ e))

    not-input : (v : ℕ) → ((j : ℕ) → j < length c.inputs → var (input_at c j) ≡ v → ⊥) → word n₁ v ≡ word n₀ v
    not-input v n = si.others v (λ j l e. n j (omega (arith, input-count m)) (sym (input-place j l) ∙ e))

    known-number : (v : ℕ) → Known c v → word n₃ v ≡ number_of c p q v
    known-number v (constant e) =
        let r = right h in
        ap (word n₃) e ∙ not-gate 0 (λ i l k. omega (arith, (definition c r (gate_at c i).lit (gate-in c i l)).0))
        ∙ not-latch 0 (λ j l k. omega (arith, (definition c r (latch_at c j).lit (latch-in c j l)).0))
        ∙ not-input 0 (λ i l k. omega (arith, (definition c r (input_at c i) (input-in c i l)).0)) ∙ blank 0 ∙ sym (number-zero c r p q) ∙ ap (number_of c p q) (sym e)
    known-number v (input i l e) =
        let r = right h in
        let k : i < word m 1 = omega (arith, input-count m) in
        ap (word n₃) (sym e) ∙ not-gate (var (input_at c i)) (λ j b f. input-gate c r i j l b (sym f))
        ∙ not-latch (var (input_at c i)) (λ j b f. input-latch c r i j l b (sym f)) ∙ ap (word n₁) (sym (input-place i k)) ∙ si.new i k
        ∙ sym (number-input c r p q i l) ∙ ap (number_of c p q) e
    known-number v (latch j l e) =
        let r = right h in
        let k : j < word m 2 = omega (arith, latch-count m) in
        ap (word n₃) (sym e) ∙ not-gate (var (latch_at c j).lit) (λ i b f. latch-gate c r j i l b (sym f)) ∙ ap (word n₂) (sym (latch-place j k)) ∙ sl.new j k
        ∙ sym (number-latch c r p q j l) ∙ ap (number_of c p q) e
    known-number v (gate i l e) =
        let r = right h in
        let k : i < word m 4 = omega (arith, gate-count m) in
        ap (word n₃) (sym e) ∙ ap (word n₃) (sym (gate-place i k)) ∙ sg.new i k ∙ sym (number-gate c r p q i l) ∙ ap (number_of c p q) e

    pub all-numbered : Named c p q n₃
    all-numbered v t = known-number v (member-known c v t)

-- ---- the same where a layout gives the places

module _ {m : List ℕ} (h : Holds m (circuit_in m)) (p : Layout) (a : LayoutOf m p) where
  small_top : word m 0 ≤ 4096
  small_top = omega (arith, (counts h).max_var, top-is m)

  module _ (names : List ℕ) (room : 4097 ≤ length names) where
    pub inputs-ready : ((p.i ≤ 256) × (7 + p.i ≤ length m)) × Apart (λ j. var (word m (7 + j))) p.i (length names)
    inputs-ready = (
      (omega (arith, (counts h).inputs, input-count m, a.i-is), omega (arith, inside h, a.i-is)),
      subst (λ (n : ℕ). Apart (λ j. var (word m (7 + j))) n (length names)) (sym a.i-is) (inputs_apart h (length names) (omega (arith, small_top))),
    )

    pub latches-ready : (first : ℕ) → first ≤ 4097
        → ((p.l ≤ 4096) × (first ≤ 8192) × (p.latches + 3 * p.l ≤ length m)) × Apart (λ j. var (word m (p.latches + 3 * j))) p.l (length names)
    latches-ready first f = (
      (omega (arith, (counts h).latches, latch-count m, a.l-is), omega arith, omega (arith, inside h, a.l-is, a.latches-is)),
      subst₂ (λ (n q : ℕ). Apart (λ j. var (word m (q + 3 * j))) n (length names)) (sym a.l-is) (sym a.latches-is)
          (latches-apart h (length names) (omega (arith, small_top))),
    )

    pub gates-ready : (first : ℕ) → first ≤ 4097
        → ((p.a ≤ 4096) × (first ≤ 8192) × (p.gates + 3 * p.a ≤ length m)) × Apart (λ j. var (word m (p.gates + 3 * j))) p.a (length names)
    gates-ready first f = (
      (omega (arith, (counts h).gates, gate-count m, a.a-is), omega arith, omega (arith, inside h, a.a-is, a.gates-is)),
      subst₂ (λ (n q : ℕ). Apart (λ j. var (word m (q + 3 * j))) n (length names)) (sym a.a-is) (sym a.gates-is)
          (gates-apart h (length names) (omega (arith, small_top))),
    )

  pub numbered : (l g : ℕ) (n₀ n₁ n₂ n₃ : List ℕ) → ((v : ℕ) → word n₀ v ≡ 0) → Stored (λ j. var (word m (7 + j))) (λ j. 1 + j) p.i n₀ n₁
      → Stored (λ j. var (word m (p.latches + 3 * j))) (λ j. l + j) p.l n₁ n₂ → Stored (λ j. var (word m (p.gates + 3 * j))) (λ j. g + j) p.a n₂ n₃
      → Named (circuit_in m) l g n₃
  numbered l g n₀ n₁ n₂ n₃ b si sl sg =
      all-numbered h l g n₀ n₁ n₂ n₃ b (subst (λ (n : ℕ). Stored (λ j. var (word m (7 + j))) (λ j. 1 + j) n n₀ n₁) a.i-is si)
      (subst₂ (λ (n q : ℕ). Stored (λ j. var (word m (q + 3 * j))) (λ j. l + j) n n₁ n₂) a.l-is a.latches-is sl)
      (subst₂ (λ (n q : ℕ). Stored (λ j. var (word m (q + 3 * j))) (λ j. g + j) n n₂ n₃) a.a-is a.gates-is sg)
