-- The text of rows in a circuit memory: one row more, its length, and that rows are the lines of literals, latches and gates. Assumes
-- nothing.
use mathlib.Core.Path.{◌≡◌, refl, sym, ap, ◌∙◌}
use mathlib.Core.Bool.{cond}
use mathlib.Core.List.{List, [], ◌∷◌, ◌++◌, map, append-nil}
use Prim.Native.Nat.{ℕ, zero, suc, ◌+◌, ◌-◌, ◌*◌, ◌≤◌, ◌<◌}
use native.Mathlib.Nat.{suc-mul}
use native.Mathlib.Numerals.{add-one}
use native.Mathlib.Omega.{arith}
use lib.Dec.{eqb, eqb-suc-zero}
use lib.ListN.{length, length-append}
use Rattle.aiger.specs.Lists.{upto}
use Rattle.aiger.specs.Write.{line_of, lines_of, literal_row, latch_row, gate_row}
use Rattle.layout.specs.Words.{word, column, latch_in, gate_in}
use Rattle.roundtrip.proofs.Content.{words_at, triples_at, make_latch, make_gate, column-words, map-triples}
use Rattle.output.specs.Row.{row_text}
use Rattle.output.proofs.Row.{row-most, row_line}
use Rattle.write.specs.Rows.{row_count, rows_text, RowsIn}

-- a row of one length only
either : (w n : ℕ) → cond (eqb w 0) n n ≡ n
either zero n = refl
either (suc w) n = simp (eqb-suc-zero w)

first-and-others : (most n : ℕ) → 0 < n → n * most ≡ most + (n - 1) * most
first-and-others most zero h = absurd (omega arith)
first-and-others most (suc n) h = let e : suc n - 1 ≡ n = omega arith in rw e (omega (arith, suc-mul n most))

module _ (m : List ℕ) where
  -- one row more
  pub rows_more : (least most p n : ℕ) → 0 < n
      → rows_text least most m p n ≡ row_text m p (row_count least most m p) ++ rows_text least most m (p + most) (n - 1)
  unfolding rows_text
  rows_more least most p zero h = absurd (omega arith)
  rows_more least most p (suc n) h = let e : suc n - 1 ≡ n = omega arith in rw e

  -- the length of one row more
  pub rows-longer : (least most p n : ℕ) → 0 < n
      → length (rows_text least most m p n) ≡ length (row_text m p (row_count least most m p)) + length (rows_text least most m (p + most) (n - 1))
  rows-longer least most p n h =
      ap length (rows_more least most p n h) ∙ length-append (row_text m p (row_count least most m p)) (rows_text least most m (p + most) (n - 1))

  -- none
  pub rows_none : (least most p n : ℕ) → n ≤ 0 → rows_text least most m p n ≡ []
  unfolding rows_text
  rows_none least most p zero h = refl
  rows_none least most p (suc n) h = absurd (omega arith)

  -- the length of rows
  pub count_most : (least most p : ℕ) → least ≤ most → row_count least most m p ≤ most
  count_most least most p h = go (word m (p + (most - 1)))
    where
      go : (w : ℕ) → cond (eqb w 0) least most ≤ most
      go zero = h
      go (suc w) = simp (eqb-suc-zero w) (omega arith)

  pub rows-most : (least most p n : ℕ) → least ≤ most → most ≤ 3 → length (rows_text least most m p n) ≤ 33 * n
  unfolding rows_text
  rows-most least most p zero h k = omega arith
  rows-most least most p (suc n) h k =
      omega (
        arith,
        length-append (row_text m p (row_count least most m p)) (rows_text least most m (p + most) n),
        row-most m p (row_count least most m p),
        count_most least most p h,
        rows-most least most (p + most) n h k,
      )

  -- the first of some rows, and the others
  pub first-in : {p n most : ℕ} → 0 < n → RowsIn m p n most → p + most ≤ length m
  first-in {p} {n} {most} h r = omega (arith, r.inside, first-and-others most n h)

  pub others-in : {p n most : ℕ} → 0 < n → RowsIn m p n most → RowsIn m (p + most) (n - 1) most
  others-in {p} {n} {most} h r =
      record {
        inside = omega (arith, r.inside, first-and-others most n h);
        few = omega (arith, r.few);
        some_word = r.some_word;
        wide = r.wide;
      }

  -- rows of one word
  literal-rows : (p n : ℕ) → rows_text 1 1 m p n ≡ lines_of (map literal_row (words_at m p n))
  unfolding rows_text lines_of
  literal-rows p zero = refl
  literal-rows p (suc n) =
      rw (either (word m (p + (1 - 1))) 1, row_line m p 0, add-one p)
      (ap (λ (w : List ℕ). line_of (word m p) [] ++ w) (literal-rows (suc p) n))

  pub rows-literals : (p n : ℕ) → rows_text 1 1 m p n ≡ lines_of (map literal_row (column m p 1 n))
  rows-literals p n = literal-rows p n ∙ ap (λ (w : List ℕ). lines_of (map literal_row w)) (sym (column-words m p n))

  -- rows of three words, where the row at each position is a line of the thing there
  module _ {A : Type 0} (least : ℕ) (make : ℕ → ℕ → ℕ → A) (row : A → List ℕ) where
    abbrev Row : ℕ → Type 0
    Row p =
        (ls : List (List ℕ))
        → row_text m p (row_count least 3 m p) ++ lines_of ls ≡ lines_of (row (make (word m p) (word m (suc p)) (word m (suc (suc p)))) ∷ ls)

    triple-rows : ((p : ℕ) → Row p) → (p n : ℕ) → rows_text least 3 m p n ≡ lines_of (map row (triples_at make m p n))
    unfolding rows_text lines_of
    triple-rows each p zero = refl
    triple-rows each p (suc n) =
        let e : p + 3 ≡ suc (suc (suc p)) = omega arith in
        let q = suc (suc (suc p)) in
        rw (e, triple-rows each q n) (each p (map row (triples_at make m q n)))

  latch-row : (p : ℕ) → Row 2 make_latch latch_row p
  unfolding lines_of latch_row
  latch-row p ls =
      let e : p + (3 - 1) ≡ suc (suc p) = omega arith in
      rw e (go (word m (suc (suc p))) refl)
    where
      go : (w : ℕ) → word m (suc (suc p)) ≡ w
          → row_text m p (cond (eqb w 0) 2 3) ++ lines_of ls ≡ line_of (word m p) (word m (suc p) ∷ cond (eqb w 0) [] (w ∷ [])) ++ lines_of ls
      go zero q = rw (row_line m p 1)
      go (suc w) q = simp (eqb-suc-zero w, row_line m p 2, q)

  gate-row : (p : ℕ) → Row 3 make_gate gate_row p
  unfolding lines_of
  gate-row p ls = rw (either (word m (p + (3 - 1))) 3, row_line m p 2)

  pub rows-latches : (p n : ℕ) → rows_text 2 3 m p n ≡ lines_of (map latch_row (map (λ j. latch_in m (p + 3 * j)) (upto n)))
  rows-latches p n = triple-rows 2 make_latch latch_row latch-row p n ∙ ap (λ w. lines_of (map latch_row w)) (sym (map-triples make_latch m p n))

  pub rows-gates : (p n : ℕ) → rows_text 3 3 m p n ≡ lines_of (map gate_row (map (λ j. gate_in m (p + 3 * j)) (upto n)))
  rows-gates p n = triple-rows 3 make_gate gate_row gate-row p n ∙ ap (λ w. lines_of (map gate_row w)) (sym (map-triples make_gate m p n))
