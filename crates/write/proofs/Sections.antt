-- The sections of a held circuit, by the table of sections: they stand in the memory, and their texts, one after the other, are what write
-- gives. Assumes nothing.
use mathlib.Core.Path.{◌≡◌, ap, ◌∙◌, subst}
use mathlib.Core.List.{List, [], ◌∷◌, ◌++◌, map, append_assoc, append-nil}
use Prim.Native.Nat.{ℕ, zero, suc, ◌+◌, ◌*◌, ◌≤◌, ◌<◌}
use native.Mathlib.Nat.{mul-suc}
use native.Mathlib.Omega.{arith}
use lib.ListN.{length, drop, length-append}
use Rattle.aiger.specs.Text.{bytes}
use Rattle.aiger.specs.Circuit.{Circuit}
use Rattle.aiger.specs.Write.{line_of, lines_of, literal_row, latch_row, gate_row, count_row, write}
use Rattle.aiger.specs.Memory.{Holds}
use Rattle.layout.specs.Words.{circuit_in, word, content_end, latches_at, outputs_at, bads_at, constraints_at, gates_at}
use Rattle.layout.specs.Layout.{LayoutOf}
use Rattle.layout.specs.Table.{table, section_at}
use Rattle.layout.specs.declared.Layout.{Layout}
use Rattle.layout.specs.declared.Section.{Section}
use Rattle.layout.proofs.Table.{Inside, places, from-section, section-inside}
use Rattle.roundtrip.proofs.Lists.{upto-length}
use Rattle.roundtrip.proofs.LoadWrite.{counts-fit, text-short}
use Rattle.roundtrip.proofs.Content.{content-length}
use Rattle.roundtrip.proofs.Holding.{held-valid, content-fits}
use Rattle.output.specs.Row.{row_text}
use Rattle.output.proofs.Row.{row_line}
use Rattle.write.specs.Rows.{rows_text, RowsIn, section_text, SectionIn}
use Rattle.write.proofs.Rows.{rows-literals, rows-latches, rows-gates}

-- a section in the memory whose lines have three numbers at least has lines of three
module _ {m : List ℕ} (t : Section) (i : SectionIn m t) (e : t.least ≡ 3) where
  three : t.most ≡ 3
  three = omega (arith, e, i.0.wide, i.1)

  pub three-in : RowsIn m t.at t.rows 3
  three-in = subst (λ (k : ℕ). RowsIn m t.at t.rows k) three i.0

  pub three-text : section_text m t ≡ rows_text 3 3 m t.at t.rows
  three-text = λ j. rows_text (e j) (three j) m t.at t.rows

-- the text of sections one after the other
abbrev pub sections_text : List ℕ → List Section → List ℕ
sections_text m [] = []
sections_text m (t ∷ ts) = section_text m t ++ sections_text m ts

-- what write gives, part after part
written : (c : Circuit) → write c
    ≡ bytes "aag "
    ++ (line_of c.max_var (count_row c)
    ++ (lines_of (map literal_row c.inputs)
    ++ (lines_of (map latch_row c.latches)
    ++ (lines_of (map literal_row c.outputs)
    ++ (lines_of (map literal_row c.bads) ++ (lines_of (map literal_row c.constraints) ++ (lines_of (map gate_row c.gates) ++ [])))))))
unfolding write
written c = simp (append_assoc, append-nil)

at_most : (n k : ℕ) → 0 < k → n ≤ n * k
at_most n zero h = absurd (omega arith)
at_most n (suc k) h = omega (arith, mul-suc n k)

module _ (m : List ℕ) (p : Layout) (k : ℕ) (b : k < 6) where
  -- one section, and those after it
  pub text-more : sections_text m (drop k (table p)) ≡ section_text m (section_at p k) ++ sections_text m (drop (suc k) (table p))
  text-more = ap (sections_text m) (from-section p k b)

  pub text-longer : length (sections_text m (drop k (table p)))
      ≡ length (section_text m (section_at p k)) + length (sections_text m (drop (suc k) (table p)))
  text-longer = ap length text-more ∙ length-append (section_text m (section_at p k)) (sections_text m (drop (suc k) (table p)))

module _ {m : List ℕ} {p : Layout} (h : Holds m (circuit_in m)) (l : LayoutOf m p) where
  end-small : content_end m ≤ 65536
  end-small = let v = held-valid h in omega (arith, (counts-fit (circuit_in m) v.fit).max_var, content-fits v, content-length m)

  end-inside : content_end m ≤ length m
  end-inside = let v = held-valid h in omega (arith, v.held, content-fits v, content-length m)

  -- the header and the sections of a held circuit stand in its memory
  pub head-inside : 7 ≤ length m
  head-inside = omega (arith, end-inside)

  pub section-rows : (k : ℕ) → k < 6 → SectionIn m (section_at p k)
  section-rows k b =
      let t = section_at p k in
      let i : Inside t (length m) = section-inside p k b (places l) end-inside in
      let s : Inside t 65536 = section-inside p k b (places l) end-small in (
        record {
          inside = i.ends;
          few = omega (arith, s.ends, at_most t.rows t.most i.some_word);
          some_word = i.some_word;
          wide = i.wide;
        },
        i.least-most,
      )

  -- what write gives is the texts of header and sections
  pub text-parts : write (circuit_in m) ≡ bytes "aag " ++ (row_text m 0 7 ++ sections_text m (table p))
  unfolding circuit_in
  text-parts =
      written (circuit_in m)
      ∙ rw (
        l.i-is,
        l.l-is,
        l.o_is,
        l.a-is,
        l.b-is,
        l.c-is,
        l.latches-is,
        l.outputs-is,
        l.bads-is,
        l.constraints-is,
        l.gates-is,
      )
      (simp (
        upto-length,
        row_line m 0 6,
        rows-literals m 7 (word m 1),
        rows-latches m (latches_at m) (word m 2),
        rows-literals m (outputs_at m) (word m 3),
        rows-literals m (bads_at m) (word m 5),
        rows-literals m (constraints_at m) (word m 6),
        rows-gates m (gates_at m) (word m 4),
      ))

  -- its length, which is small
  pub text-size : length (write (circuit_in m)) ≡ 4 + length (row_text m 0 7) + length (sections_text m (table p))
  text-size = ap length text-parts ∙ simp length-append (omega arith)

  pub text-small : length (write (circuit_in m)) ≤ 65536
  text-small = text-short (held-valid h)
