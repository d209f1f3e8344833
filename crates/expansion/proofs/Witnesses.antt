-- The witness of a run of the pinned circuit, written out, is that of the run of the circuit that obeys the pins. Clause 12.7. Assumes nothing.
use mathlib.Core.Path.{◌≡◌, refl, sym, ap, ap₂, ◌∙◌, subst}
use mathlib.Core.Bool.{Bool, true, false, cond}
use mathlib.Core.List.{List, [], ◌∷◌, ◌++◌, map, append_assoc}
use mathlib.Core.Option.{Option}
use Prim.Native.Nat.{ℕ, zero, suc, ◌+◌, ◌*◌, ◌^◌, ◌≤◌, ◌<◌}
use native.Mathlib.Nat.{suc-mul, le_of_suc-le-suc, not-suc-le-zero, mul-le-mul_right}
use native.Mathlib.Omega.{arith}
use lib.Dec.{T, eqb}
use lib.ListN.{length, get_or, take, drop, length-append, length-map, get_or-append}
use lib.Seq.{get_or-drop, drop-drop, drop_at, take_at, ext_get_or}
use Rattle.aiger.specs.Lists.{upto, from}
use Rattle.aiger.specs.Text.{bytes, digits}
use Rattle.aiger.specs.Circuit.{Circuit, literals_right, used_defined, acyclic}
use Rattle.aiger.specs.Frames.{Run, run_in, run, free_bits}
use Rattle.aiger.specs.Search.{Outcome, question, permitted, reaches, first_at, first_witness}
use Rattle.aiger.specs.Witness.{bit_line, bit_lines, witness, witness_length}
use Rattle.aiger.specs.Operations.{front}
use Rattle.meaning.proofs.Lists.{length-map-upto, get_or-map}
use Rattle.meaning.proofs.Outcomes.{found-out, first-witness}
use Rattle.meaning.proofs.Decisions.{first-from}
use Rattle.meaning.proofs.Sequences.{run-shaped}
use Rattle.witness.proofs.Rows.{line-length}
use Rattle.pins.specs.Pins.{fill, free_inputs, pinned, pinned_space, pinned_question, pinned_witness}
use Rattle.pins.proofs.Inputs.{fill-eq, length-fill}
use Rattle.pins.proofs.Values.{Fills}
use Rattle.pins.proofs.Questions.{free-inputs, run-fills, pinned-first}
use Rattle.pins.proofs.Valid.{pinned-counts}
use Rattle.expansion.specs.Rows.{byte_of, bits_at, rows_text, expanded}

-- ---- a line of bits in a text

line-bit : (row : List Bool) (s : List ℕ) (j : ℕ) → j < length row → eqb (get_or (bit_line row ++ s) j 0) 49 ≡ get_or row j false
line-bit [] s j h = absurd (not-suc-le-zero h)
line-bit (true ∷ row) s zero h = refl
line-bit (false ∷ row) s zero h = refl
line-bit (b ∷ row) s (suc j) h = line-bit row s j (le_of_suc-le-suc h)

module _ (text : List ℕ) (q : ℕ → ℕ) (n : ℕ) where
  -- a row in full
  abbrev whole : List Bool → List Bool
  whole row = fill q (λ j. get_or row j false) 0 0 n

  row_is : (from : ℕ) (row : List Bool) (s : List ℕ) → length row ≡ free_inputs q n → drop from text ≡ bit_line row ++ s → fill q (bits_at text from) 0 0 n ≡ whole row
  unfolding free_inputs
  row_is from row s l e =
      fill-eq q (bits_at text from) (λ j. get_or row j false) n 0 0
      (λ k h.
      ap (λ (x : ℕ). eqb x 49) (sym (get_or-drop from text (0 + k) 0) ∙ ap (λ (w : List ℕ). get_or w (0 + k) 0) e)
      ∙ line-bit row s (0 + k) (omega arith))

  past_row : (from : ℕ) (row : List Bool) (s : List ℕ) → length row ≡ free_inputs q n → drop from text ≡ bit_line row ++ s → drop (from + free_inputs q n + 1) text ≡ s
  past_row from row s l e =
      let w = free_inputs q n in
      let a : from + w + 1 ≡ from + (w + 1) = omega arith in
      ap (λ (p : ℕ). drop p text) a ∙ sym (drop-drop (w + 1) from text) ∙ ap (drop (w + 1)) e
      ∙ drop_at (bit_line row) s (w + 1) (line-length row ∙ ap (λ (k : ℕ). k + 1) l)

  rows_are : (rows : List (List Bool)) (from : ℕ) (s : List ℕ) → ((u : ℕ) → u < length rows → length (get_or rows u []) ≡ free_inputs q n)
      → drop from text ≡ bit_lines rows ++ s → rows_text text q n from (length rows) ≡ bit_lines (map whole rows) ++ bytes ".\n"
  unfolding rows_text
  rows_are [] from s h e = refl
  rows_are (row ∷ rows) from s h e =
      let d : drop from text ≡ bit_line row ++ (bit_lines rows ++ s) = e ∙ append_assoc (bit_line row) (bit_lines rows) s in
      let l = h 0 (omega arith) in
      ap₂ (λ (x : List Bool) (y : List ℕ). bit_line x ++ y) (row_is from row (bit_lines rows ++ s) l d)
      (rows_are rows (from + free_inputs q n + 1) s (λ u k. h (suc u) (omega arith)) (past_row from row (bit_lines rows ++ s) l d))
      ∙ sym (append_assoc (bit_line (whole row)) (bit_lines (map whole rows)) (bytes ".\n"))

  pub length-rows : (from f : ℕ) → length (rows_text text q n from f) ≡ f * (n + 1) + 2
  unfolding rows_text
  length-rows from zero = omega arith
  length-rows from (suc f) =
      let row = bit_line (fill q (bits_at text from) 0 0 n) in
      let rest = rows_text text q n (from + free_inputs q n + 1) f in
      length-append row rest
      ∙ omega (
        arith,
        line-length (fill q (bits_at text from) 0 0 n),
        length-fill q (bits_at text from) n 0 0,
        length-rows (from + free_inputs q n + 1) f,
        suc-mul f (n + 1),
      )

-- ---- the parts of a witness

regroup : (a d n s r e z : List ℕ) → (a ++ d ++ n ++ s ++ r ++ e) ++ z ≡ (a ++ d ++ n ++ s) ++ (r ++ (e ++ z))
regroup a d n s r e z = simp append_assoc

rejoin : (a d n s r e : List ℕ) → (a ++ d ++ n ++ s) ++ (r ++ e) ≡ a ++ d ++ n ++ s ++ r ++ e
rejoin a d n s r e = simp append_assoc

-- the lines before the rows
abbrev top_of : ℕ → List Bool → List ℕ
top_of b st = bytes "1\nb" ++ digits b ++ bytes "\n" ++ bit_line st

top-length : (b : ℕ) (st : List Bool) → length (top_of b st) ≡ 4 + length (digits b) + (length st + 1)
top-length b st = simp length-append (omega (arith, line-length st))

module _ (c : Circuit) (q : ℕ → ℕ) where
  -- where the rows begin
  abbrev pub rows_at : ℕ → ℕ
  rows_at b = 4 + length (digits b) + (length c.latches + 1)

  rows-filled : (t x : ℕ) → (run_in (pinned_space c q) t x).rows ≡ map (λ row. fill q (λ j. get_or row j false) 0 0 (length c.inputs)) (run (pinned c q) t x).rows
  rows-filled t x =
      let r = run (pinned c q) t x in
      let s = run_in (pinned_space c q) t x in
      let F : List Bool → List Bool = λ row. fill q (λ j. get_or row j false) 0 0 (length c.inputs) in
      let shape = run-shaped (pinned c q) t x in
      let l : length s.rows ≡ t + 1 = length-map-upto _ (t + 1) in
      ext_get_or [] s.rows (map F r.rows) (l ∙ sym (length-map r.rows F ∙ shape.frames))
      (λ u h.
      (run-fills c q t x).row u (omega arith)
      ∙ sym (get_or-map F r.rows u [] [] (omega (arith, shape.frames))))

  -- the text of a run of the pinned circuit, written out
  pub expanded-run : (b t x : ℕ) (text z : List ℕ) → text ≡ witness b (run (pinned c q) t x) ++ z
      → expanded text q (length c.inputs) (rows_at b) (t + 1) ≡ witness b (run_in (pinned_space c q) t x)
  unfolding witness expanded
  expanded-run b t x text z e =
      let r = run (pinned c q) t x in
      let s = run_in (pinned_space c q) t x in
      let n = length c.inputs in
      let shape = run-shaped (pinned c q) t x in
      let X = top_of b r.start in
      let long : length X ≡ rows_at b = top-length b r.start ∙ ap (λ (k : ℕ). 4 + length (digits b) + (k + 1)) (shape.start ∙ (pinned-counts c q).latches) in
      let split : text ≡ X ++ (bit_lines r.rows ++ (bytes ".\n" ++ z)) =
      e ∙ regroup (bytes "1\nb") (digits b) (bytes "\n") (bit_line r.start) (bit_lines r.rows) (bytes ".\n") z in
      let front : take (rows_at b) text ≡ X = ap (take (rows_at b)) split ∙ take_at X _ (rows_at b) long in
      let behind : drop (rows_at b) text ≡ bit_lines r.rows ++ (bytes ".\n" ++ z) = ap (drop (rows_at b)) split ∙ drop_at X _ (rows_at b) long in
      let rows : rows_text text q n (rows_at b) (t + 1) ≡ bit_lines s.rows ++ bytes ".\n" =
      ap (rows_text text q n (rows_at b)) (sym shape.frames)
      ∙ rows_are text q n r.rows (rows_at b) (bytes ".\n" ++ z) (λ u h. shape.row u (omega (arith, shape.frames)) ∙ free-inputs c q) behind
      ∙ ap (λ (w : List (List Bool)). bit_lines w ++ bytes ".\n") (sym (rows-filled t x)) in
      ap₂ (λ (x y : List ℕ). x ++ y) (front ∙ ap (top_of b) (sym (run-fills c q t x).start)) rows
      ∙ rejoin (bytes "1\nb") (digits b) (bytes "\n") (bit_line s.start) (bit_lines s.rows) (bytes ".\n")

  module _ (right : T (literals_right c)) (known : T (used_defined c)) (a : T (acyclic c)) (b : ℕ) (bad : b < length c.bads) where
    -- the first witness of the pinned circuit, written out, is the first that obeys the pins
    pub expanded-first : (k D t : ℕ) → T (permitted (pinned c q) b k D (Outcome.found t)) → (text before : List ℕ) → text ≡ front (first_witness (pinned c q) b t) before
        → expanded text q (length c.inputs) (rows_at b) (t + 1) ≡ pinned_witness c q b t
    unfolding pinned_witness
    expanded-first k D t h text before e =
        let f = found-out (question (pinned c q) b) k D t h in
        let x = f.place in
        let w : first_witness (pinned c q) b t ≡ witness b (run (pinned c q) t x) = first-witness (pinned c q) b t x f.first in
        let some : first_at (pinned_question c q b) t ≡ Option.some x =
        sym (pinned-first c q right known a b bad t) ∙ first-from (reaches (pinned c q) b t) f.first in
        expanded-run b t x text (drop (length (first_witness (pinned c q) b t)) before)
        (e ∙ ap (λ (y : List ℕ). y ++ drop (length (first_witness (pinned c q) b t)) before) w)
        ∙ sym (ap (λ (o : Option ℕ). elim o [ Option.some y ↦ witness b (run_in (pinned_space c q) t y) | Option.none ↦ [] ]) some)
