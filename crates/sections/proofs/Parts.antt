-- Sections read one after the other by the table of sections; those of a file in text form: the circuit that they make, and that its
-- content is what was stored. Assumes nothing.
use mathlib.Core.Path.{◌≡◌, refl, sym, ap, ap₂, ◌∙◌, subst}
use mathlib.Core.Bool.{Bool, true, false, ◌&&◌}
use mathlib.Core.List.{List, [], ◌∷◌, ◌++◌, map}
use mathlib.Core.Option.{Option, none, some}
use Prim.Native.Nat.{ℕ, zero, suc, ◌+◌, ◌*◌, ◌≤◌, ◌<◌}
use native.Mathlib.Omega.{arith}
use lib.Dec.{leb}
use lib.ListN.{length, get_or, take, drop, length-map, take-append-drop}
use Rattle.aiger.specs.Text.{rows, when, ◌>>=◌, ◌>>◌}
use Rattle.aiger.specs.Circuit.{Circuit}
use Rattle.aiger.specs.File.{Header, is_tail, body, first, latch, gate}
use Rattle.aiger.specs.Load as load
use Rattle.aiger.specs.Load.{Answer, refused, gives, read, sections}
use Rattle.aiger.specs.Write.{count_row}
use Rattle.aiger.specs.Memory.{content}
use Rattle.aiger.proofs.Tests.{and_left, and_right, T_true, true-T}
use Rattle.roundtrip.proofs.Content.{words_take}
use Rattle.lines.specs.Lines.{flat, within}
use Rattle.lines.proofs.Storing.{every_append}
use Rattle.layout.specs.declared.Layout.{Layout}
use Rattle.layout.specs.declared.Section.{Section}
use Rattle.layout.specs.Words.{word, content_end}
use Rattle.layout.specs.Layout.{PlacesOf}
use Rattle.layout.specs.Table.{table, section_at, Chained}
use Rattle.layout.proofs.Table.{chained}
use Rattle.sections.specs.Sections.{header_at, line_numbers, numbers_within, BodyAt, PastKept}
use Rattle.sections.specs.declared.Body.TheVariants.{Read, Large}
use Rattle.sections.specs.Spans.{section_end, SpanRead, Stops}
use Rattle.sections.specs.Spans.SpanRead.{done, more}
use Rattle.sections.specs.Spans.Stops.{here, later}
use Rattle.sections.proofs.Lines.{
  Begins,
  lines-length,
  run_fits,
  run-begins,
  run_past,
  flat-ones,
  flat-latches,
  flat-gates,
}

-- the counts of a layout
abbrev pub header_in : Layout → Header
header_in p = record { M = p.m; I = p.i; L = p.l; O = p.o; A = p.a; B = p.b; C = p.c; J = 0; F = 0 }

pub layout-header : {w : List ℕ} (p : Layout) → PlacesOf w p → header_at w ≡ header_in p
layout-header p q =
    λ t. record {
      M = sym q.m-is t;
      I = sym q.i-is t;
      L = sym q.l-is t;
      O = sym q.o_is t;
      A = sym q.a-is t;
      B = sym q.b-is t;
      C = sym q.c-is t;
      J = 0;
      F = 0;
    }

pub two : (f g : Bool) → (f && g) ≡ true → (f ≡ true) × (g ≡ true)
two f g e = (true-T f (and_left f g (T_true e)), true-T g (and_right f g (T_true e)))

pub moved : {w xs : List ℕ} {n k : ℕ} → n ≡ k → Begins w n xs → Begins w k xs
moved {w} {xs} e b = subst (λ (j : ℕ). Begins w j xs) e b

-- ---- the lines of all sections

abbrev pub Lines : Type 0
Lines = List (List (List ℕ))

-- those of the first section, and of the others
abbrev pub head : Lines → List (List ℕ)
head [] = []
head (l ∷ ls) = l

abbrev pub rest : Lines → Lines
rest [] = []
rest (l ∷ ls) = ls

-- the circuit that the lines make
abbrev pub made : ℕ → Lines → Circuit
made m i =
    let l = rest i in
    let o = rest l in
    let b = rest o in
    let c = rest b in
    let g = rest c in
    record {
      max_var = m;
      inputs = map first (head i);
      latches = map latch (head l);
      outputs = map first (head o);
      bads = map first (head b);
      constraints = map first (head c);
      gates = map gate (head g);
    }

-- the circuit, where the tail is right
abbrev finish : ℕ → Lines → List ℕ → Option Circuit
finish m ls f = when (is_tail f) >> some (made m ls)

-- the sections one after the other, and what is made of their lines
abbrev parse : List Section → (Lines → List ℕ → Option Circuit) → List ℕ → Option Circuit
parse [] k f = k [] f
parse (t ∷ ts) k f = rows t.least t.most t.rows f >>= λ q. parse ts (λ ls. k (q.0 ∷ ls)) q.1

-- the same, 5 where a line is malformed
abbrev pub answer : List Section → (Lines → List ℕ → Answer Circuit) → List ℕ → Answer Circuit
answer [] k f = k [] f
answer (t ∷ ts) k f = load.◌>>=◌ (read 5 (rows t.least t.most t.rows f)) (λ q. answer ts (λ ls. k (q.0 ∷ ls)) q.1)

parse-answer : (ts : List Section) (k : Lines → List ℕ → Option Circuit) (f : List ℕ)
    → read 5 (parse ts k f) ≡ answer ts (λ ls g. read 5 (k ls g)) f
parse-answer [] k f = refl
parse-answer (t ∷ ts) k f = go (rows t.least t.most t.rows f) (λ q. parse-answer ts (λ ls. k (q.0 ∷ ls)) q.1)
  where
    go : (o : Option (List (List ℕ) × List ℕ))
        → ((q : List (List ℕ) × List ℕ)
        → read 5 (parse ts (λ ls. k (q.0 ∷ ls)) q.1) ≡ answer ts (λ ls g. read 5 (k (q.0 ∷ ls) g)) q.1)
        → read 5 (o >>= λ q. parse ts (λ ls. k (q.0 ∷ ls)) q.1)
        ≡ load.◌>>=◌ (read 5 o) (λ q. answer ts (λ ls g. read 5 (k (q.0 ∷ ls) g)) q.1)
    go none h = refl
    go (some q) h = h q

-- one of them has a malformed line
pub stopped : {s : List ℕ} {ts : List Section} {at : ℕ} → Stops s ts at → (k : Lines → List ℕ → Answer Circuit)
    → answer ts k (drop at s) ≡ refused 5
stopped (here e) k = rw e
stopped (later ls next e q) k = rw e (stopped q (λ m. k (ls ∷ m)))

-- so many lines as the table says
abbrev pub Counted : List Section → Lines → Type 0
Counted [] ls = Unit {0}
Counted (t ∷ ts) ls = (length (head ls) ≡ t.rows) × Counted ts (rest ls)

-- the words of the sections, after others
abbrev pub stacked : List ℕ → List Section → Lines → List ℕ
stacked xs [] ls = xs
stacked xs (t ∷ ts) ls = stacked (xs ++ flat t.most (head ls)) ts (rest ls)

-- they end where they start, or later
chained-le : (ts : List Section) {start end : ℕ} → Chained ts start end → start ≤ end
chained-le [] c = omega (arith, c)
chained-le (t ∷ ts) c = omega (arith, chained-le ts c.1)

-- each of them ends there, or before
chained-end : (ts : List Section) (start end : ℕ) → Chained ts start end → (k : ℕ) (d : Section) → k < length ts
    → section_end (get_or ts k d) ≤ end
chained-end [] start end c k d h = absurd (omega arith)
chained-end (t ∷ ts) start end c zero d h = omega (arith, c.0, chained-le ts c.1)
chained-end (t ∷ ts) start end c (suc k) d h = chained-end ts (start + t.rows * t.most) end c.1 k d (omega arith)

pub section-end : (p : Layout) (k : ℕ) → k < 6 → Chained (table p) 7 p.end → section_end (section_at p k) ≤ p.end
section-end p k h c = chained-end (table p) 7 p.end c k _ h

module _ {s : List ℕ} {limit n : ℕ} {w' : List ℕ} {f' : Bool} where
  abbrev pub lines : {ts : List Section} {at : ℕ} {w : List ℕ} {f : Bool} → SpanRead s limit n w' f' ts at w f → Lines
  lines done = []
  lines (more r q) = r.lines ∷ lines q

  pub answered : {ts : List Section} {at : ℕ} {w : List ℕ} {f : Bool} (r : SpanRead s limit n w' f' ts at w f)
      (k : Lines → List ℕ → Answer Circuit) → answer ts k (drop at s) ≡ k (lines r) (drop n s)
  answered done k = refl
  answered (more r q) k = rw r.meaning (answered q (λ ls. k (r.lines ∷ ls)))

  pub runs-inside : {ts : List Section} {at : ℕ} {w : List ℕ} {f : Bool} → SpanRead s limit n w' f' ts at w f → at ≤ length s → n ≤ length s
  runs-inside done h = h
  runs-inside (more r q) h = runs-inside q r.inside

  pub counted : {ts : List Section} {at : ℕ} {w : List ℕ} {f : Bool} (r : SpanRead s limit n w' f' ts at w f) → Counted ts (lines r)
  counted done = tt
  counted (more r q) = (lines-length r, counted q)

  -- what passes at the end passed before
  passed : {ts : List Section} {at : ℕ} {w : List ℕ} {f : Bool} → SpanRead s limit n w' f' ts at w f → f' ≡ true → f ≡ true
  passed done e = e
  passed (more {f = f} {f₁ = f₁} r q) e = (two f f₁ (passed q e)).0

  -- the test is that of the words
  pub fits : {ts : List Section} {at : ℕ} {w : List ℕ} {f : Bool} (r : SpanRead s limit n w' f' ts at w f) (xs : List ℕ)
      → f ≡ within limit xs → f' ≡ within limit (stacked xs ts (lines r))
  fits done xs e = e
  fits (more {t = t} r q) xs e =
      let ys = flat t.most r.lines in
      fits q (xs ++ ys) (ap₂ (λ (a b : Bool). a && b) e (run_fits r) ∙ sym (every_append (λ x. leb x limit) xs ys))

  -- each section's words stand after those before
  pub begins : {ts : List Section} {at : ℕ} {w : List ℕ} {f : Bool} (r : SpanRead s limit n w' f' ts at w f) → f' ≡ true
      → {start end : ℕ} {xs : List ℕ} → Chained ts start end → Begins w start xs → Begins w' end (stacked xs ts (lines r))
  begins done e c b = moved c b
  begins (more {t = t} {f = f} {f₁ = f₁} r q) e c b =
      begins q e c.1
      (moved (ap (λ (k : ℕ). k + t.rows * t.most) c.0) (run-begins r (two f f₁ (passed q e)).1 (moved (sym c.0) b)))

  -- what stands past the last of them stays, and so does the number of words
  pub past_all : {ts : List Section} {at : ℕ} {w : List ℕ} {f : Bool} → SpanRead s limit n w' f' ts at w f → f' ≡ true
      → (start end : ℕ) → Chained ts start end → (past : ℕ) → end ≤ past → past ≤ length w
      → (drop past w' ≡ drop past w) × (length w' ≡ length w)
  past_all done e start end c past h l = (refl, refl)
  past_all (more {t = t} {ts = ts} {f = f} {f₁ = f₁} r q) e start end c past h l =
      let k = run_past r (two f f₁ (passed q e)).1 past (omega (arith, c.0, chained-le ts c.1)) l in
      let m = past_all q e (start + t.rows * t.most) end c.1 past h (omega (arith, k.1)) in
      (m.0 ∙ k.0, m.1 ∙ k.1)

-- ---- the whole text

module _ (s : List ℕ) (at : ℕ) (p : Layout) (limit : ℕ) (w : List ℕ) (q : PlacesOf w p) where
  same_body : sections false (header_at w) (drop at s) ≡ read 5 (parse (table p) (finish p.m) (drop at s))
  unfolding body sections
  same_body = ap (λ (h : Header). sections false h (drop at s)) (layout-header p q)

  pub no_lines : Stops s (table p) at → sections false (header_at w) (drop at s) ≡ refused 5
  no_lines h = same_body ∙ parse-answer (table p) (finish p.m) (drop at s) ∙ stopped h (λ ls g. read 5 (finish p.m ls g))

  module _ {n : ℕ} {w' : List ℕ} {f' : Bool} (r : SpanRead s limit n w' f' (table p) at w true) where
    whole : sections false (header_at w) (drop at s) ≡ read 5 (finish p.m (lines r) (drop n s))
    whole = same_body ∙ parse-answer (table p) (finish p.m) (drop at s) ∙ answered r (λ ls g. read 5 (finish p.m ls g))

    pub no-tail : is_tail (drop n s) ≡ false → sections false (header_at w) (drop at s) ≡ refused 5
    no-tail e = whole ∙ rw e

    abbrev circuit : Circuit
    circuit = made p.m (lines r)

    body-made : is_tail (drop n s) ≡ true → sections false (header_at w) (drop at s) ≡ gives circuit
    body-made e = whole ∙ rw e

    heads : 7 ≤ length w → take 7 w ≡ circuit.max_var ∷ count_row circuit
    heads h =
        let k = counted r in
        let x = rest (rest (rest (lines r))) in
        let i : length circuit.inputs ≡ p.i = length-map (head (lines r)) first ∙ k.0 in
        let l : length circuit.latches ≡ p.l = length-map (head (rest (lines r))) latch ∙ k.1.0 in
        let o : length circuit.outputs ≡ p.o = length-map (head (rest (rest (lines r)))) first ∙ k.1.1.0 in
        let b : length circuit.bads ≡ p.b = length-map (head x) first ∙ k.1.1.1.0 in
        let c : length circuit.constraints ≡ p.c = length-map (head (rest x)) first ∙ k.1.1.1.1.0 in
        let g : length circuit.gates ≡ p.a = length-map (head (rest (rest x))) gate ∙ k.1.1.1.1.1.0 in
        sym (words_take w 0 7 h)
        ∙ (λ t.
        sym q.m-is t ∷ (sym q.i-is ∙ sym i) t ∷ (sym q.l-is ∙ sym l) t ∷ (sym q.o_is ∙ sym o) t
        ∷ (sym q.a-is ∙ sym g) t ∷ (sym q.b-is ∙ sym b) t ∷ (sym q.c-is ∙ sym c) t ∷ [])

    -- the words that were stored are its content
    stored : 7 ≤ length w → f' ≡ true → w' ≡ content circuit ++ drop p.end w'
    unfolding content
    stored h e =
        let b : Begins w' p.end (stacked (circuit.max_var ∷ count_row circuit) (table p) (lines r)) =
        begins r e (chained p q) (record { size = refl; words = heads h }) in
        let i = lines r in
        let l = rest i in
        let o = rest l in
        let k = rest o in
        let c = rest k in
        let same : take p.end w' ≡ content circuit =
        b.words
        ∙ rw (
          flat-ones (head i),
          flat-latches (head l),
          flat-ones (head o),
          flat-ones (head k),
          flat-ones (head c),
          flat-gates (head (rest c)),
        ) in
        sym (take-append-drop p.end w') ∙ ap (λ (xs : List ℕ). xs ++ drop p.end w') same

    past-kept : content_end w ≤ length w → f' ≡ true → drop (content_end w) w' ≡ drop (content_end w) w
    past-kept l e =
        let h : p.end ≡ content_end w = omega (arith, q) in
        subst (λ (k : ℕ). drop k w' ≡ drop k w) h (past_all r e 7 p.end (chained p q) p.end (omega arith) (omega (arith, h))).0

    numbers-are : stacked [] (table p) (lines r) ≡ line_numbers false circuit
    unfolding line_numbers content
    numbers-are =
        let i = lines r in
        let l = rest i in
        let o = rest l in
        let k = rest o in
        let c = rest k in
        rw (
          flat-ones (head i),
          flat-latches (head l),
          flat-ones (head o),
          flat-ones (head k),
          flat-ones (head c),
          flat-gates (head (rest c)),
        )

    -- the test is that of the numbers in the lines
    tested : limit ≡ 2 * word w 0 + 1 → numbers_within false circuit ≡ f'
    unfolding numbers_within
    tested l =
        let e : 2 * p.m + 1 ≡ limit = omega (arith, q, l) in
        sym (fits r [] refl ∙ ap (within limit) numbers-are
        ∙ ap (λ (k : ℕ). within k (line_numbers false circuit)) (sym e))

    -- every number is within the limit, or one is not
    pub all_read : content_end w ≤ length w → limit ≡ 2 * word w 0 + 1 → is_tail (drop n s) ≡ true → f' ≡ true
        → BodyAt false (header_at w) (drop at s) w' Read × PastKept w w' Read
    all_read h l t e = ((circuit, body-made t, drop p.end w', stored (omega (arith, h)) e, tested l ∙ e), past-kept h e)

    pub one-large : limit ≡ 2 * word w 0 + 1 → is_tail (drop n s) ≡ true → f' ≡ false
        → BodyAt false (header_at w) (drop at s) w' Large × PastKept w w' Large
    one-large l t e = ((circuit, body-made t, tested l ∙ e), tt)
