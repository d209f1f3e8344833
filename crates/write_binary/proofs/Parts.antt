-- The text of a renumbered circuit, part by part, and what the writers of the parts ask. Assumes nothing.
use mathlib.Core.Path.{◌≡◌, refl, sym, ap, ap₂, ◌∙◌, subst, subst₂}
use mathlib.Core.List.{List, [], ◌∷◌, ◌++◌, map, append_assoc, append-nil}
use Prim.Native.Nat.{ℕ, zero, suc, ◌+◌, ◌-◌, ◌*◌, ◌≤◌, ◌<◌}
use native.Mathlib.Decide.{dec_lt}
use native.Mathlib.Omega.{arith}
use lib.ListN.{length, get_or, drop, length-map, length-append, length-drop, get_or-append}
use lib.Seq.{sets, sets-eq}
use Rattle.aiger.specs.Text.{bytes}
use Rattle.aiger.specs.Circuit.{Circuit, Gate, var}
use Rattle.aiger.specs.Write.{line_of, lines_of, literal_row, count_row}
use Rattle.meaning.proofs.Defined.{Known, gate_at, bad-known}
use Rattle.layout.specs.Words.{word, gate_in, latches_at, outputs_at, bads_at, constraints_at, gates_at, circuit_in}
use Rattle.layout.specs.Layout.{LayoutOf}
use Rattle.layout.specs.declared.Layout.{Layout}
use Rattle.roundtrip.proofs.LoadWrite.{Counts}
use Rattle.roundtrip.proofs.Lists.{upto-length}
use Rattle.frames.proofs.Facts.{
  top-is,
  latch-count,
  bad-count,
  constraint-count,
  gate-count,
  bad-word,
  gate-word,
  valid,
  counts,
  known,
  inside,
  known_small,
}
use Rattle.renumber.specs.Names.{Within}
use Rattle.renumber.proofs.Naming.{input-count}
use Rattle.pairing.proofs.Sections.{latches-known, gates-known, constraints-known, outputs-known}
use Rattle.joined.specs.Joined.{literal_under}
use Rattle.renumbered.specs.Renumbered.{numbering, new_number, renumbered, latch_tail, gates_text, binary_text, write_binary}
use Rattle.renumbered_laws.proofs.Numbers.{order-inside, order-length, number-most}
use Rattle.renumbered_laws.proofs.Accepted.{inputs-length, latches-length, gates-length, operands-below, placed, renumbered-valid}
use Rattle.renumbered_laws.proofs.Reading.{binary-short}
use Rattle.binary_text.specs.Lines.{latch_lines, literal_lines, gate_under_at, gate_bytes, Listed}
use Rattle.output.specs.Row.{row_text}
use Rattle.output.specs.Output.{put_text, Room, Placed}
use Rattle.output.proofs.Output.{Rest, rest-start, rest-room, rest_more, rest_end}
use Rattle.output.proofs.Row.{row_line}
use Rattle.write_binary.specs.Texts.{head_text, Small, Ready}
use Rattle.write_binary.proofs.Sections.{latches-part, lines-part, gates-part}
use Rattle.pairing.proofs.Images.{output-count}

module _ {m : List ℕ} {p : Layout} {names order : List ℕ} (g : Ready m p names order) where
  abbrev c : Circuit
  c = circuit_in m

  abbrev a : LayoutOf m p
  a = g.layout_of

  pub small : Small p
  small =
      let n = counts g.held in
      record {
        definitions =
            omega (arith, n.definitions, n.max_var, a.i-is, a.l-is, a.a-is, input-count m, latch-count m, gate-count m);
        outputs = omega (arith, n.outputs, a.o_is, output-count m);
        bads = omega (arith, n.bads, a.b-is, bad-count m);
        constraints = omega (arith, n.constraints, a.c-is, constraint-count m);
      }

  -- ---- the text

  few-gates : length (numbering (circuit_in m)).0 ≤ 3072
  few-gates = omega (arith, order-length (valid g.held), (counts g.held).gates)

  order-at : (j : ℕ) → j < length (numbering (circuit_in m)).0 → word order j ≡ get_or (numbering (circuit_in m)).0 j 0
  order-at j h =
      let is = (numbering c).0 in
      ap (λ (xs : List ℕ). word xs j) g.numbered.listed ∙ get_or-append is (drop (length is) g.before) 0 j h

  head-part : bytes "aig " ++ line_of (renumbered (circuit_in m)).max_var (count_row (renumbered (circuit_in m))) ≡ head_text p
  unfolding renumbered
  head-part =
      let v = valid g.held in
      let i : length c.inputs ≡ p.i = input-count m ∙ sym a.i-is in
      let l : length c.latches ≡ p.l = latch-count m ∙ sym a.l-is in
      let n : length c.gates ≡ p.a = gate-count m ∙ sym a.a-is in
      let i' = inputs-length v ∙ i in
      let l' = latches-length v ∙ l in
      let n' = gates-length v ∙ n in
      let o = length-map c.outputs (literal_under (new_number c)) ∙ output-count m ∙ sym a.o_is in
      let b = length-map c.bads (literal_under (new_number c)) ∙ bad-count m ∙ sym a.b-is in
      let k = length-map c.constraints (literal_under (new_number c)) ∙ constraint-count m ∙ sym a.c-is in
      λ x. bytes "aig " ++ line_of (i x + l x + n x) (i' x ∷ l' x ∷ o x ∷ n' x ∷ b x ∷ k x ∷ [])

  -- four parts, one after the other
  pub text-parts : write_binary (circuit_in m)
      ≡ head_text p ++ (latch_lines names m p.latches p.l ++
      (literal_lines names m p.outputs (p.o + p.b + p.c) ++ (gate_bytes names m p.gates order 0 p.a ++ [])))
  unfolding binary_text
  text-parts =
      let d = renumbered c in
      let ls = lines_of (map latch_tail d.latches) in
      let os = lines_of (map literal_row d.outputs) in
      let bs = lines_of (map literal_row d.bads) in
      let cs = lines_of (map literal_row d.constraints) in
      let gs = gates_text d.gates in
      let head = bytes "aig " ++ line_of d.max_var (count_row d) in
      let regroup : head ++ ls ++ os ++ bs ++ cs ++ gs ≡ head ++ (ls ++ ((os ++ bs ++ cs) ++ (gs ++ []))) = simp (append_assoc, append-nil) in
      let t = sym g.numbered.numbers in
      let la = sym a.latches-is in
      let l = sym a.l-is in
      let oa = sym a.outputs-is in
      let o = sym a.o_is in
      let b = sym a.b-is in
      let k = sym a.c-is in
      let ga = sym a.gates-is in
      let n = sym a.a-is in
      regroup
      ∙ (λ x. head-part x ++ (latches-part g.held x ++ (lines-part g.held x ++ (gates-part g.held order order-at x ++ []))))
      ∙ (λ x. head_text p ++
      (latch_lines (t x) m (la x) (l x) ++
      (literal_lines (t x) m (oa x) (o x + b x + k x) ++ (gate_bytes (t x) m (ga x) order 0 (n x) ++ []))))

  -- ---- what the writers ask

  number-low : (v : ℕ) → word names v ≤ 4096
  number-low v =
      let n = counts g.held in
      omega (arith, ap (λ (t : List ℕ). word t v) g.numbered.numbers, number-most (valid g.held) v, n.definitions, n.max_var)

  within : (at n : ℕ) → ((j : ℕ) → j < n → Known (circuit_in m) (var (word m (at + j)))) → Within m at n names
  within at n k j b =
      let v = var (word m (at + j)) in
      (omega (arith, known_small g.held v (k j b), (counts g.held).max_var, top-is m, g.size), number-low v)

  pub latches-within : (p.latches + 3 * p.l ≤ length m) × Within m p.latches (3 * p.l) names
  latches-within = (
    omega (arith, inside g.held, a.latches-is, a.l-is),
    subst₂ (λ (x n : ℕ). Within m x (3 * n) names) (sym a.latches-is) (sym a.l-is)
        (within (latches_at m) (3 * word m 2) (latches-known g.held)),
  )

  lines-known : (j : ℕ) → j < word m 3 + word m 5 + word m 6 → Known (circuit_in m) (var (word m (outputs_at m + j)))
  lines-known j h =
      elim (dec_lt j (word m 3)) [
        | yes k ↦ outputs-known g.held j k
        | no k ↦
            elim (dec_lt j (word m 3 + word m 5)) [
              | yes l ↦ (
                  let i = j - word m 3 in
                  let b : i < word m 5 = omega arith in
                  let e : bads_at m + i ≡ outputs_at m + j = omega arith in
                  subst (λ (x : ℕ). Known c (var x)) (bad-word m i b ∙ ap (word m) e) (bad-known c (known g.held) i))
              | no l ↦ (
                  let i = j - word m 3 - word m 5 in
                  let e : constraints_at m + i ≡ outputs_at m + j = omega arith in
                  subst (λ (x : ℕ). Known c (var (word m x))) e (constraints-known g.held i (omega arith)))
            ]
      ]

  pub lines-within : (p.outputs + (p.o + p.b + p.c) ≤ length m) × Within m p.outputs (p.o + p.b + p.c) names
  lines-within =
      let n : word m 3 + word m 5 + word m 6 ≡ p.o + p.b + p.c = omega (arith, a.o_is, a.b-is, a.c-is) in (
        omega (arith, inside g.held, a.outputs-is, a.o_is, a.b-is, a.c-is),
        subst₂ (λ (x k : ℕ). Within m x k names) (sym a.outputs-is) n
            (within (outputs_at m) (word m 3 + word m 5 + word m 6) lines-known),
      )

  -- the gate at a place of the order
  gate-here : (j : ℕ) → j < p.a → gate_under_at names m (p.gates + 3 * word order j)
      ≡ record {
        lit = literal_under (new_number (circuit_in m)) (gate_at (circuit_in m) (get_or (numbering (circuit_in m)).0 j 0)).lit;
        left = literal_under (new_number (circuit_in m)) (gate_at (circuit_in m) (get_or (numbering (circuit_in m)).0 j 0)).left;
        right = literal_under (new_number (circuit_in m)) (gate_at (circuit_in m) (get_or (numbering (circuit_in m)).0 j 0)).right;
      }
  gate-here j h =
      let v = valid g.held in
      let b : j < length (numbering c).0 = omega (arith, order-length v, a.a-is, gate-count m) in
      let i = get_or (numbering c).0 j 0 in
      let w : gate_at c i ≡ gate_in m (gates_at m + 3 * i) = gate-word m i (omega (arith, order-inside v j b, gate-count m)) in
      let e : p.gates + 3 * word order j ≡ gates_at m + 3 * i = omega (arith, a.gates-is, order-at j b) in
      (λ x. gate_under_at (g.numbered.numbers x) m (e x))
      ∙ ap
      (λ (z : Gate).
      record {
        lit = literal_under (new_number c) z.lit;
        left = literal_under (new_number c) z.left;
        right = literal_under (new_number c)
            z.right;
      })
      (sym w)

  pub listed : Listed names m p.gates p.a order
  listed =
      let v = valid g.held in
      let is = (numbering c).0 in
      let n : p.a ≡ length is = a.a-is ∙ sym (gate-count m) ∙ sym (order-length v) in
      let count : length c.gates ≡ p.a = gate-count m ∙ sym a.a-is in
      record {
        inside = omega (arith, inside g.held, a.gates-is, a.a-is);
        within = subst₂ (λ (x k : ℕ). Within m x (3 * k) names) (sym a.gates-is) (sym a.a-is)
            (within (gates_at m) (3 * word m 4) (gates-known g.held));
        room =
            omega (
              arith,
              ap length g.numbered.listed,
              length-append is (drop (length is) g.before),
              length-drop (length is) g.before,
              g.room,
              few-gates,
            );
        places = λ j h. omega (arith, order-at j (omega arith), order-inside v j (omega arith));
        left = λ j h. subst (λ (z : Gate). z.left < z.lit) (sym (gate-here j h)) (operands-below v j (omega arith)).0;
        right = λ j h. subst (λ (z : Gate). z.right < z.lit) (sym (gate-here j h)) (operands-below v j (omega arith)).1;
      }

  -- ---- the parts, one after the other

  abbrev latches_text : List ℕ
  latches_text = latch_lines names m p.latches p.l

  abbrev lines_text : List ℕ
  lines_text = literal_lines names m p.outputs (p.o + p.b + p.c)

  abbrev gates_bytes : List ℕ
  gates_bytes = gate_bytes names m p.gates order 0 p.a

  module _ (out : List ℕ) (room : Room out 0 (write_binary (circuit_in m))) where
    start : Rest out 0 (write_binary (circuit_in m)) out 0
        (head_text p ++ (latch_lines names m p.latches p.l ++
        (literal_lines names m p.outputs (p.o + p.b + p.c) ++ (gate_bytes names m p.gates order 0 p.a ++ []))))
    start = subst (λ (r : List ℕ). Rest out 0 (write_binary c) out 0 r) text-parts (rest-start out 0 (write_binary c))

    pub head-room : Room out 0 (head_text p)
    head-room = rest-room (head_text p) (latches_text ++ (lines_text ++ (gates_bytes ++ []))) room start

    module _ {out₁ : List ℕ} {e₁ : ℕ} (p₁ : Placed out 0 (head_text p) e₁ out₁) where
      after-head : Rest out 0 (write_binary (circuit_in m)) out₁ e₁
          (latch_lines names m p.latches p.l ++
          (literal_lines names m p.outputs (p.o + p.b + p.c) ++ (gate_bytes names m p.gates order 0 p.a ++ [])))
      after-head = rest_more (head_text p) (latches_text ++ (lines_text ++ (gates_bytes ++ []))) room start p₁

      pub latches-room : Room out₁ e₁ (latch_lines names m p.latches p.l)
      latches-room = rest-room latches_text (lines_text ++ (gates_bytes ++ [])) room after-head

      module _ {out₂ : List ℕ} {e₂ : ℕ} (p₂ : Placed out₁ e₁ (latch_lines names m p.latches p.l) e₂ out₂) where
        after-latches : Rest out 0 (write_binary (circuit_in m)) out₂ e₂
            (literal_lines names m p.outputs (p.o + p.b + p.c) ++ (gate_bytes names m p.gates order 0 p.a ++ []))
        after-latches = rest_more latches_text (lines_text ++ (gates_bytes ++ [])) room after-head p₂

        pub lines-room : Room out₂ e₂ (literal_lines names m p.outputs (p.o + p.b + p.c))
        lines-room = rest-room lines_text (gates_bytes ++ []) room after-latches

        module _ {out₃ : List ℕ} {e₃ : ℕ} (p₃ : Placed out₂ e₂ (literal_lines names m p.outputs (p.o + p.b + p.c)) e₃ out₃) where
          after-lines : Rest out 0 (write_binary (circuit_in m)) out₃ e₃ (gate_bytes names m p.gates order 0 p.a ++ [])
          after-lines = rest_more lines_text (gates_bytes ++ []) room after-latches p₃

          pub gates-room : Room out₃ e₃ (gate_bytes names m p.gates order 0 p.a)
          gates-room = rest-room gates_bytes [] room after-lines

          pub all-written : {out₄ : List ℕ} {e₄ : ℕ} → Placed out₃ e₃ (gate_bytes names m p.gates order 0 p.a) e₄ out₄
              → Placed out 0 (write_binary (circuit_in m)) e₄ out₄
          all-written p₄ = rest_end (rest_more gates_bytes [] room after-lines p₄)

-- ---- the header

pub name-placed : (out rest : List ℕ) → Room out 0 (bytes "aig " ++ rest) → Placed out 0 (bytes "aig ") 4 (sets out 0 (bytes "aig "))
unfolding put_text
name-placed out rest room = record {
  past = refl;
  contents = sets-eq (bytes "aig ") out 0
      (omega (arith, length-append (bytes "aig ") rest));
}

pub head-line : (M I L O A B C : ℕ) → row_text (M ∷ I ∷ L ∷ O ∷ A ∷ B ∷ C ∷ []) 0 7 ≡ line_of M (I ∷ L ∷ O ∷ A ∷ B ∷ C ∷ [])
head-line M I L O A B C = row_line (M ∷ I ∷ L ∷ O ∷ A ∷ B ∷ C ∷ []) 0 6
