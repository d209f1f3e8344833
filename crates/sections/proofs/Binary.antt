-- Laws of the sections of a file in binary form: where they are stored, the circuit that they make, and that its content is what was
-- stored. Assumes nothing.
use mathlib.Core.Path.{◌≡◌, refl, sym, ap, ap₂, ◌∙◌, subst}
use mathlib.Core.Bool.{Bool, true, false, ◌&&◌}
use mathlib.Core.List.{List, [], ◌∷◌, ◌++◌, map, append_assoc}
use mathlib.Core.Option.{none}
use Prim.Native.Nat.{ℕ, suc, ◌+◌, ◌*◌, ◌≤◌}
use native.Mathlib.Omega.{arith}
use lib.Dec.{leb}
use lib.ListN.{length, take, drop, length-append, length-map, take-append-drop}
use lib.Seq.{take_at, slice}
use Rattle.aiger.specs.Text.{rows}
use Rattle.aiger.specs.Circuit.{Circuit, Gate}
use Rattle.aiger.specs.File.{Header, is_tail, first}
use Rattle.aiger.specs.Binary.{implied, latches_from, gates_from}
use Rattle.aiger.specs.Load as load
use Rattle.aiger.specs.Load.{Answer, refused, gives, read, test, binary_body, sections}
use Rattle.aiger.specs.Write.{count_row}
use Rattle.aiger.specs.Memory.{content, latch_words, gate_words}
use Rattle.roundtrip.proofs.LoadValid.{rows-length, implied-length, latches-length, gates-length}
use Rattle.roundtrip.proofs.Content.{words_take}
use Rattle.layout.specs.Words.{word, content_end}
use Rattle.layout.specs.declared.Layout.{Layout}
use Rattle.layout.specs.Layout.{PlacesOf}
use Rattle.layout.specs.Table.{table, Chained}
use Rattle.lines.specs.Lines.{flat, within}
use Rattle.lines.proofs.Storing.{every_append}
use Rattle.binary.specs.Sections.{LatchesRead, GatesRead}
use Rattle.binary.proofs.Latches as latches
use Rattle.binary.proofs.Differences as gates
use Rattle.sections.specs.Sections.{header_at, latch_numbers, line_numbers, numbers_within, BodyAt, PastKept}
use Rattle.sections.specs.declared.Body.TheVariants.{Read, Large}
use Rattle.sections.specs.Spans.{SpanRead, Stops}
use Rattle.sections.proofs.Lines.{Begins, rows_short, within-flat, past, flat-ones}
use Rattle.sections.proofs.Parts.{
  header_in,
  layout-header,
  two,
  moved,
  Lines,
  head,
  rest,
  answer,
  stopped,
  lines,
  answered,
  stacked,
  counted,
  fits,
  begins,
  past_all,
}

-- ---- words after words, and what they say of the lines

put-begins : {w w' xs : List ℕ} {n : ℕ} (ys r : List ℕ) (m : ℕ) → Begins w n xs → w' ≡ take n w ++ ys ++ r → length ys ≡ m
    → Begins w' (n + m) (xs ++ ys)
put-begins {w} {w'} {xs} {n} ys r m b e l =
    let size : length (xs ++ ys) ≡ n + m = length-append xs ys ∙ ap₂ (λ (a c : ℕ). a + c) b.size l in
    let e' : w' ≡ xs ++ ys ++ r = e ∙ ap (λ (zs : List ℕ). zs ++ ys ++ r) b.words in
    record { size = size; words = ap (take (n + m)) e' ∙ take_at (xs ++ ys) r (n + m) size }

-- latch lines as the numbers of latches
flat-pairs : (v : ℕ) (ls : List (List ℕ)) → flat 2 ls ≡ latch_numbers (latches_from v ls)
unfolding flat latch_numbers latches_from
flat-pairs v [] = refl
flat-pairs v (r ∷ ls) = rw (latches.two-words r, flat-pairs (suc v) ls)

-- ---- the sections

module _ (s : List ℕ) (at : ℕ) (p : Layout) (limit : ℕ) (w : List ℕ) (q : PlacesOf w p) where
  same_body : sections true (header_at w) (drop at s) ≡ binary_body (header_in p) (drop at s)
  unfolding sections
  same_body = ap (λ (h : Header). binary_body h (drop at s)) (layout-header p q)

  pub bad-latches : rows 1 2 p.l (drop at s) ≡ none → sections true (header_at w) (drop at s) ≡ refused 5
  unfolding binary_body
  bad-latches e = same_body ∙ rw e

  module _ {w1 : List ℕ} (r1 : w1 ≡ take 7 w ++ implied 1 p.i ++ drop (7 + p.i) w) {w2 : List ℕ} {a2 : ℕ} {f2 : Bool}
      (r2 : LatchesRead s at p.l (p.i + 1) limit w1 p.latches w2 a2 f2) where
    -- the circuit with these lines and gates
    abbrev circuit : Lines → List Gate → Circuit
    circuit ls gs =
        record {
          max_var = p.m;
          inputs = implied 1 p.i;
          latches = latches_from (p.i + 1) r2.lines;
          outputs = map first (head ls);
          bads = map first (head (rest ls));
          constraints = map first (head (rest (rest ls)));
          gates = gs;
        }

    -- the gates and the tail, after these lines
    abbrev ends : Lines → List ℕ → Answer Circuit
    ends ls f =
        load.◌>>=◌ (read 15 (gates_from (p.i + p.l + 1) p.a f))
        (λ g. load.◌>>◌ (test 5 (is_tail g.1)) (gives (circuit ls g.0)))

    -- the outputs, bad lines and constraints, and what follows them
    after-latches : sections true (header_at w) (drop at s) ≡ answer (slice 2 5 (table p)) ends (drop a2 s)
    unfolding binary_body
    after-latches = same_body ∙ rw r2.meaning

    pub bad-lines : Stops s (slice 2 5 (table p)) a2 → sections true (header_at w) (drop at s) ≡ refused 5
    bad-lines h = after-latches ∙ stopped h ends

    module _ {w3 : List ℕ} {a3 : ℕ} {f3 : Bool} (r3 : SpanRead s limit a3 w3 f3 (slice 2 5 (table p)) a2 w2 true) where
      after-lines : sections true (header_at w) (drop at s) ≡ ends (lines r3) (drop a3 s)
      after-lines = after-latches ∙ answered r3 ends

      pub bad-gates : gates_from (p.i + p.l + 1) p.a (drop a3 s) ≡ none → sections true (header_at w) (drop at s) ≡ refused 15
      bad-gates e = after-lines ∙ rw e

      module _ {w4 : List ℕ} {a4 : ℕ} (r4 : GatesRead s a3 p.a (p.i + p.l + 1) w3 p.gates w4 a4) where
        pub bad-tail : is_tail (drop a4 s) ≡ false → sections true (header_at w) (drop at s) ≡ refused 5
        bad-tail e = after-lines ∙ rw (r4.meaning, e)

        -- the circuit that the sections make
        abbrev made : Circuit
        made = circuit (lines r3) r4.gates

        body-made : is_tail (drop a4 s) ≡ true → sections true (header_at w) (drop at s) ≡ gives made
        body-made e = after-lines ∙ rw (r4.meaning, e)

        many-latches : length made.latches ≡ p.l
        many-latches =
            latches-length (p.i + 1) r2.lines ∙ rows-length 1 2 p.l (drop at s) (r2.lines, drop a2 s) r2.meaning

        many-gates : length made.gates ≡ p.a
        many-gates = gates-length (p.i + p.l + 1) p.a (drop a3 s) (r4.gates, drop a4 s) r4.meaning

        heads : 7 ≤ length w → take 7 w ≡ made.max_var ∷ count_row made
        heads h =
            let i : length made.inputs ≡ p.i = implied-length 1 p.i in
            let k = counted r3 in
            let ls = lines r3 in
            let o : length made.outputs ≡ p.o = length-map (head ls) first ∙ k.0 in
            let b : length made.bads ≡ p.b = length-map (head (rest ls)) first ∙ k.1.0 in
            let c : length made.constraints ≡ p.c = length-map (head (rest (rest ls))) first ∙ k.1.1.0 in
            sym (words_take w 0 7 h)
            ∙ (λ t.
            sym q.m-is t ∷ (sym q.i-is ∙ sym i) t ∷ (sym q.l-is ∙ sym many-latches) t ∷ (sym q.o_is ∙ sym o) t
            ∷ (sym q.a-is ∙ sym many-gates) t ∷ (sym q.b-is ∙ sym b) t ∷ (sym q.c-is ∙ sym c) t ∷ [])

        -- where the outputs, bad lines and constraints stand
        lines-chained : Chained (slice 2 5 (table p)) p.outputs p.gates
        lines-chained = (refl, (omega (arith, q), (omega (arith, q), omega (arith, q))))

        -- the words that were stored are its content
        stored : 7 ≤ length w → (f2 && f3) ≡ true → w4 ≡ content made ++ drop p.end w4
        unfolding content
        stored h e =
            let t = two f2 f3 e in
            let heading = made.max_var ∷ count_row made in
            let ls = latch_words made.latches in
            let gs = gate_words made.gates in
            let b0 : Begins w 7 heading = record { size = refl; words = heads h } in
            let b1 : Begins w1 p.latches (heading ++ made.inputs) =
            moved (omega (arith, q)) (put-begins made.inputs (drop (7 + p.i) w) p.i b0 r1 (implied-length 1 p.i)) in
            let b2 : Begins w2 p.outputs (heading ++ made.inputs ++ ls) =
            moved (omega (arith, q))
            (put-begins ls (drop (p.latches + p.l * 3) w1) (p.l * 3) b1 (r2.contents t.0)
            (omega (arith, latches.words-length (p.i + 1) r2.lines, latches-length (p.i + 1) r2.lines, many-latches))) in
            let xs = heading ++ made.inputs ++ ls in
            let os = stacked xs (slice 2 5 (table p)) (lines r3) in
            let b3 : Begins w3 p.gates os = begins r3 t.1 lines-chained b2 in
            let b4 : Begins w4 p.end (os ++ gs) =
            moved (omega (arith, q))
            (put-begins gs (drop (p.gates + p.a * 3) w3) (p.a * 3) b3 r4.contents
            (omega (arith, gates.words-length r4.gates, many-gates))) in
            let lines_are : os ≡ xs ++ made.outputs ++ made.bads ++ made.constraints =
            rw (flat-ones (head (lines r3)), flat-ones (head (rest (lines r3))), flat-ones (head (rest (rest (lines r3))))) in
            let whole : take p.end w4 ≡ content made = b4.words ∙ ap (λ (ys : List ℕ). ys ++ gs) lines_are in
            sym (take-append-drop p.end w4) ∙ ap (λ (xs : List ℕ). xs ++ drop p.end w4) whole

        -- what stands past it stays
        past-kept : content_end w ≤ length w → (f2 && f3) ≡ true → drop (content_end w) w4 ≡ drop (content_end w) w
        past-kept l e =
            let t = two f2 f3 e in
            let h : p.end ≡ content_end w = omega (arith, q) in
            let k1 = past w (implied 1 p.i) 7 p.i p.end r1 (implied-length 1 p.i) (omega (arith, q)) (omega (arith, h)) in
            let ls = latch_words made.latches in
            let many : length ls ≡ p.l * 3 =
            omega (arith, latches.words-length (p.i + 1) r2.lines, latches-length (p.i + 1) r2.lines, many-latches) in
            let k2 = past w1 ls p.latches (p.l * 3) p.end (r2.contents t.0) many (omega (arith, q)) (omega (arith, h, k1.1)) in
            let k3 =
            past_all r3 t.1 p.outputs p.gates lines-chained p.end (omega (arith, q)) (omega (arith, h, k1.1, k2.1)) in
            let k4 =
            past w3 (gate_words made.gates) p.gates (p.a * 3) p.end r4.contents
            (omega (arith, gates.words-length r4.gates, many-gates)) (omega (arith, q)) (omega (arith, h, k1.1, k2.1, k3.1)) in
            subst (λ (k : ℕ). drop k w4 ≡ drop k w) h (k4.0 ∙ k3.0 ∙ k2.0 ∙ k1.0)

        latches-tested : f2 ≡ within limit (latch_numbers made.latches)
        latches-tested =
            let few = rows_short 1 2 p.l (drop at s) (r2.lines, drop a2 s) r2.meaning in
            r2.tested ∙ within-flat limit 2 r2.lines few ∙ ap (within limit) (flat-pairs (p.i + 1) r2.lines)

        lines-tested : f3 ≡ within limit (made.outputs ++ made.bads ++ made.constraints)
        lines-tested =
            let ls = lines r3 in
            let same : stacked [] (slice 2 5 (table p)) ls ≡ made.outputs ++ made.bads ++ made.constraints =
            rw (flat-ones (head ls), flat-ones (head (rest ls)), flat-ones (head (rest (rest ls)))) in
            fits r3 [] refl ∙ ap (within limit) same

        numbers-are : latch_numbers made.latches ++ (made.outputs ++ made.bads ++ made.constraints) ≡ line_numbers true made
        unfolding line_numbers
        numbers-are = rw (append_assoc, append_assoc, append_assoc)

        -- the test is that of the numbers in the lines
        tested : limit ≡ 2 * word w 0 + 1 → numbers_within true made ≡ (f2 && f3)
        unfolding numbers_within
        tested l =
            let e : limit ≡ 2 * p.m + 1 = omega (arith, q, l) in
            let xs = latch_numbers made.latches in
            let ys = made.outputs ++ made.bads ++ made.constraints in
            sym (ap₂ (λ (a b : Bool). a && b) latches-tested lines-tested ∙ sym (every_append (λ x. leb x limit) xs ys)
            ∙ ap (within limit) numbers-are
            ∙ ap (λ (k : ℕ). within k (line_numbers true made)) e)

        -- every number is within the limit, or one is not
        pub all_read : content_end w ≤ length w → limit ≡ 2 * word w 0 + 1 → is_tail (drop a4 s) ≡ true → (f2 && f3) ≡ true
            → BodyAt true (header_at w) (drop at s) w4 Read × PastKept w w4 Read
        all_read h l t e = ((made, body-made t, drop p.end w4, stored (omega (arith, h)) e, tested l ∙ e), past-kept h e)

        pub one-large : limit ≡ 2 * word w 0 + 1 → is_tail (drop a4 s) ≡ true → (f2 && f3) ≡ false
            → BodyAt true (header_at w) (drop at s) w4 Large × PastKept w w4 Large
        one-large l t e = ((made, body-made t, tested l ∙ e), tt)
