-- The sections of a renumbered circuit, as texts of the words of the circuit in memory. Assumes nothing.
use mathlib.Core.Path.{◌≡◌, refl, sym, ap, ap₂, ◌∙◌, subst}
use mathlib.Core.List.{List, [], ◌∷◌, ◌++◌, map, append_assoc, append-nil}
use Prim.Native.Nat.{ℕ, zero, suc, ◌+◌, ◌*◌, ◌≤◌, ◌<◌}
use native.Mathlib.Omega.{arith}
use lib.ListN.{length, get_or, length-map}
use Rattle.aiger.specs.Text.{bytes}
use Rattle.aiger.specs.Circuit.{Circuit, Latch, Gate}
use Rattle.aiger.specs.Memory.{Holds}
use Rattle.aiger.specs.Write.{line_of, lines_of, literal_row, count_row}
use Rattle.meaning.proofs.Defined.{gate_at}
use Rattle.layout.specs.Words.{word, latch_in, gate_in, latches_at, outputs_at, bads_at, constraints_at, gates_at, circuit_in}
use Rattle.roundtrip.proofs.Lists.{upto-length}
use Rattle.roundtrip.proofs.Content.{words_at, triples_at, column-words, map-triples, words-length, make_latch}
use Rattle.frames.proofs.Facts.{gate-count, gate-word, valid}
use Rattle.joined.specs.Joined.{literal_under, latch_under, gate_under}
use Rattle.renumbered.specs.Renumbered.{numbering, new_number, sorted, renumbered, latch_tail, gate_text, gates_text}
use Rattle.renumbered_laws.proofs.Numbers.{order-inside, order-length}
use Rattle.binary_text.specs.Lines.{latch_line, latch_lines, literal_lines, gate_under_at, gate_bytes}

-- ---- texts of words

module _ (names m : List ℕ) where
  latches-text : (p n : ℕ) → lines_of (map latch_tail (map (latch_under (word names)) (triples_at make_latch m p n))) ≡ latch_lines names m p n
  unfolding lines_of latch_tail latch_lines
  latches-text p zero = refl
  latches-text p (suc n) =
      let e₁ : p + 1 ≡ suc p = omega arith in
      let e₂ : p + 2 ≡ suc (suc p) = omega arith in
      let e₃ : p + 3 ≡ suc (suc (suc p)) = omega arith in
      rw (e₁, e₂, e₃, ← latches-text (suc (suc (suc p))) n)

  literals-text : (p n : ℕ) → lines_of (map literal_row (map (literal_under (word names)) (words_at m p n))) ≡ literal_lines names m p n
  unfolding lines_of literal_lines
  literals-text p zero = refl
  literals-text p (suc n) = let e : p + 1 ≡ suc p = omega arith in rw (e, ← literals-text (suc p) n)

  -- two runs of lines, one after the other
  literals-add : (p a b : ℕ) → literal_lines names m p a ++ literal_lines names m (p + a) b ≡ literal_lines names m p (a + b)
  unfolding literal_lines
  literals-add p zero b =
      let e : p + 0 ≡ p = omega arith in
      let f : 0 + b ≡ b = omega arith in
      rw (e, f)
  literals-add p (suc a) b =
      let e : p + suc a ≡ p + 1 + a = omega arith in
      let f : suc a + b ≡ suc (a + b) = omega arith in
      rw (e, f, append_assoc) (ap (λ (w : List ℕ). line_of (literal_under (word names) (word m p)) [] ++ w) (literals-add (p + 1) a b))

  -- gates in the order that is listed from place j on, where make i is gate i under the names
  gates-text : (first : ℕ) (make : ℕ → Gate) (order is : List ℕ) (j : ℕ) → ((k : ℕ) → k < length is → word order (j + k) ≡ get_or is k 0)
      → ((k : ℕ) → k < length is → make (get_or is k 0) ≡ sorted (gate_under_at names m (first + 3 * get_or is k 0)))
      → gates_text (map make is) ≡ gate_bytes names m first order j (length is)
  unfolding gates_text gate_bytes
  gates-text first make order [] j o e = refl
  gates-text first make order (i ∷ is) j o e =
      let z : j + 0 ≡ j = omega arith in
      let here : word order j ≡ i = ap (word order) (sym z) ∙ o 0 (omega arith) in
      ap₂ (λ (g : Gate) (w : List ℕ). gate_text g ++ w)
      (e 0 (omega arith) ∙ ap (λ (x : ℕ). sorted (gate_under_at names m (first + 3 * x))) (sym here))
      (gates-text first make order is (j + 1)
      (λ k h. let q : j + 1 + k ≡ j + suc k = omega arith in ap (word order) q ∙ o (suc k) (omega arith))
      (λ k h. e (suc k) (omega arith)))

-- ---- the sections

module _ {m : List ℕ} (h : Holds m (circuit_in m)) where
  abbrev c : Circuit
  c = circuit_in m

  abbrev T : List ℕ
  T = (numbering (circuit_in m)).1

  latches-are : (circuit_in m).latches ≡ triples_at make_latch m (latches_at m) (word m 2)
  unfolding circuit_in
  latches-are = map-triples make_latch m (latches_at m) (word m 2)

  outputs-are : (circuit_in m).outputs ≡ words_at m (outputs_at m) (word m 3)
  unfolding circuit_in
  outputs-are = column-words m (outputs_at m) (word m 3)

  bads-are : (circuit_in m).bads ≡ words_at m (bads_at m) (word m 5)
  unfolding circuit_in
  bads-are = column-words m (bads_at m) (word m 5)

  constraints-are : (circuit_in m).constraints ≡ words_at m (constraints_at m) (word m 6)
  unfolding circuit_in
  constraints-are = column-words m (constraints_at m) (word m 6)

  pub latches-part : lines_of (map latch_tail (renumbered (circuit_in m)).latches) ≡ latch_lines (numbering (circuit_in m)).1 m (latches_at m)
      (word m 2)
  unfolding renumbered
  latches-part = ap (λ (ls : List Latch). lines_of (map latch_tail (map (latch_under (new_number c)) ls))) latches-are ∙ latches-text T m
      (latches_at m) (word m 2)

  lines-of : (ls : List ℕ) (p n : ℕ) → ls ≡ words_at m p n
      → lines_of (map literal_row (map (literal_under (new_number (circuit_in m))) ls)) ≡ literal_lines (numbering (circuit_in m)).1 m p n
  lines-of ls p n e = ap (λ (ks : List ℕ). lines_of (map literal_row (map (literal_under (new_number c)) ks))) e ∙ literals-text T m p n

  -- outputs, bad lines and constraints stand one after the other
  pub lines-part : lines_of (map literal_row (renumbered (circuit_in m)).outputs) ++ lines_of (map literal_row (renumbered (circuit_in m)).bads)
      ++ lines_of (map literal_row (renumbered (circuit_in m)).constraints)
      ≡ literal_lines (numbering (circuit_in m)).1 m (outputs_at m) (word m 3 + word m 5 + word m 6)
  unfolding renumbered
  lines-part =
      let q = outputs_at m in
      let e : q + word m 3 + word m 5 ≡ q + (word m 3 + word m 5) = omega arith in
      ap₂ (λ (x y : List ℕ). x ++ y ++ lines_of (map literal_row (map (literal_under (new_number c)) c.constraints)))
      (lines-of c.outputs q (word m 3) outputs-are) (lines-of c.bads (bads_at m) (word m 5) bads-are)
      ∙ ap₂ (λ (x y : List ℕ). x ++ y) (literals-add T m q (word m 3) (word m 5))
      (lines-of c.constraints (constraints_at m) (word m 6) constraints-are)
      ∙ ap (λ (p : ℕ). literal_lines T m q (word m 3 + word m 5) ++ literal_lines T m p (word m 6)) e ∙ literals-add T m q
      (word m 3 + word m 5) (word m 6)

  pub gates-part : (order : List ℕ)
      → ((j : ℕ) → j < length (numbering (circuit_in m)).0 → word order j ≡ get_or (numbering (circuit_in m)).0 j 0)
      → gates_text (renumbered (circuit_in m)).gates ≡ gate_bytes (numbering (circuit_in m)).1 m (gates_at m) order 0 (word m 4)
  unfolding renumbered
  gates-part order o =
      let v = valid h in
      let make : ℕ → Gate = λ i. sorted (gate_under (new_number c) (gate_at c i)) in
      gates-text T m (gates_at m) make order (numbering c).0 0 (λ k b. let z : 0 + k ≡ k = omega arith in ap (word order) z ∙ o k b)
      (λ k b. ap (λ (g : Gate). sorted (gate_under (new_number c) g))
      (gate-word m (get_or (numbering c).0 k 0) (omega (arith, gate-count m, order-inside v k b))))
      ∙ ap (gate_bytes T m (gates_at m) order 0) (order-length v ∙ gate-count m)
