-- Laws of reading the latch lines of a binary file, one at a time. Assumes nothing.
use mathlib.Core.Path.{◌≡◌, refl, sym, ap, ◌∙◌}
use mathlib.Core.Bool.{Bool, true, ◌&&◌}
use mathlib.Core.List.{List, [], ◌∷◌, ◌++◌, map, append-nil}
use mathlib.Core.Option.{none, some}
use Prim.Native.Nat.{ℕ, suc, ◌+◌, ◌-◌, ◌*◌, ◌≤◌, ◌<◌}
use native.Mathlib.Numerals.{add-one}
use native.Mathlib.Omega.{arith}
use lib.Dec.{T}
use lib.ListN.{length, get_or, take, drop, set, length-append, length-map, length-set}
use lib.Seq.{sets, sets-eq, length-sets}
use Rattle.aiger.specs.Lists.{every}
use Rattle.aiger.specs.Text.{row, rows}
use Rattle.aiger.specs.Binary.{latches_from}
use Rattle.aiger.specs.Memory.{latch_words}
use Rattle.aiger.proofs.Tests.{T_true, true-T, and_left, and_right}
use Rattle.lines.specs.Lines.{padded, narrowed, within, NoLine, LineRead, on_line}
use Rattle.lines.proofs.Storing.{every-snoc, sets-append, narrowed-all, length-padded, padded-within}
use Rattle.lines.proofs.Lines.{prefixed, prefixed-none, one_fewer, rows_more, rows-bad, line-more, line-bad}
use Rattle.binary.specs.Sections.{LatchesRead, latches_left}

abbrev words : ℕ → List (List ℕ) → List ℕ
words v rs = latch_words (latches_from v rs)

-- the words of one latch more
words_snoc : (v : ℕ) (rs : List (List ℕ)) (r : List ℕ)
    → words v (rs ++ (r ∷ [])) ≡ words v rs ++ (2 * (v + length rs) ∷ get_or r 0 0 ∷ get_or r 1 0 ∷ [])
unfolding latch_words latches_from
words_snoc v [] r =
    let e : v + 0 ≡ v = omega arith in
    rw e
words_snoc v (q ∷ rs) r =
    let e : v + suc (length rs) ≡ suc v + length rs = omega arith in
    rw (e, words_snoc (suc v) rs r)

pub words-length : (v : ℕ) (rs : List (List ℕ)) → length (words v rs) ≡ 3 * length rs
unfolding latch_words latches_from
words-length v [] = refl
words-length v (r ∷ rs) = omega (arith, words-length (suc v) rs)

pub two-words : (r : List ℕ) → padded 2 r ≡ get_or r 0 0 ∷ get_or r 1 0 ∷ []
unfolding padded
two-words [] = refl
two-words (x ∷ []) = refl
two-words (x ∷ y ∷ r) = refl

-- what a text leaves, a latch line at a time

module _ (limit v k : ℕ) (f l : List ℕ) (to : ℕ) where
  abbrev line_then : List ℕ → List ℕ → List ℕ
  line_then r g = map (narrowed limit) (padded 2 r) ++ latches_left limit (suc v) k g

  literal-first : sets l to (latches_left limit v (suc k) f) ≡ sets (set l to (2 * v)) (to + 1) (on_line 1 (row 2 f) line_then)
  unfolding latches_left
  literal-first = rw (add-one to)

  left-more : (r g : List ℕ) → row 2 f ≡ some (r, g) → 1 ≤ length r
      → sets l to (latches_left limit v (suc k) f)
      ≡ sets (sets (set l to (2 * v)) (to + 1) (map (narrowed limit) (padded 2 r))) (to + 3) (latches_left limit (v + 1) k g)
  left-more r g e h =
      let words = map (narrowed limit) (padded 2 r) in
      let first = set l to (2 * v) in
      let size : length words ≡ 2 = length-map (padded 2 r) (narrowed limit) ∙ length-padded 2 r in
      let place : to + 1 + length words ≡ to + 3 = omega (arith, size) in
      literal-first ∙ ap (sets first (to + 1)) (line-more 1 (row 2 f) line_then r g e h)
      ∙ sym (sets-append first words (latches_left limit (suc v) k g) (to + 1))
      ∙ ap (λ (n : ℕ). sets (sets first (to + 1) words) n (latches_left limit (suc v) k g)) place
      ∙ ap (λ (u : ℕ). sets (sets first (to + 1) words) (to + 3) (latches_left limit u k g)) (sym (add-one v))

  left-bad : NoLine 1 (row 2 f) → sets l to (latches_left limit v (suc k) f) ≡ set l to (2 * v)
  left-bad b = literal-first ∙ ap (sets (set l to (2 * v)) (to + 1)) (line-bad 1 (row 2 f) line_then b)

left-none : (limit v k : ℕ) (f : List ℕ) → k ≡ 0 → latches_left limit v k f ≡ []
unfolding latches_left
left-none limit v k f e = rw e

-- some lines are read and stored, and `left` are left
pub record Run (s : List ℕ) (at n v limit : ℕ) (before : List ℕ) (from : ℕ) (out : List ℕ) (next : ℕ) (fits : Bool) (var to left : ℕ) : Type 0 where
  pub lines : List (List ℕ)
  pub count : length lines + left ≡ n
  pub kept : length out ≡ length before
  pub inside : next ≤ length s
  pub number : var ≡ v + length lines
  pub low : var + left ≤ 10000
  pub place : to ≡ from + 3 * length lines
  pub room : to + left * 3 ≤ length before
  pub meaning : rows 1 2 n (drop at s) ≡ prefixed lines (rows 1 2 left (drop next s))
  pub tested : fits ≡ every (within limit) lines
  pub contents : fits ≡ true → out ≡ sets before from (words v lines)
  pub whole : sets before from (latches_left limit v n (drop at s)) ≡ sets out to (latches_left limit var left (drop next s))

pub start : (s : List ℕ) (at n v limit : ℕ) (out : List ℕ) (from : ℕ) → at ≤ length s → from + n * 3 ≤ length out → v + n ≤ 10000
    → Run s at n v limit out from out at true v from n
unfolding latch_words latches_from
start s at n v limit out from inside room low =
    record {
      lines = [];
      count = omega arith;
      kept = refl;
      inside = inside;
      number = omega arith;
      low = low;
      place = omega arith;
      room = room;
      meaning = prefixed-none (rows 1 2 n (drop at s));
      tested = refl;
      contents = λ _. refl;
      whole = refl;
    }

module _ {s : List ℕ} {at n v limit : ℕ} {before : List ℕ} {from : ℕ} {out : List ℕ} {next : ℕ} {fits : Bool} {var to left : ℕ}
    (run : Run s at n v limit before from out next fits var to left) where
  next-line : 0 < left → rows 1 2 n (drop at s) ≡ prefixed run.lines (rows 1 2 (suc (left - 1)) (drop next s))
  next-line h = run.meaning ∙ ap (λ (k : ℕ). prefixed run.lines (rows 1 2 k (drop next s))) (one_fewer left h)

  next-words : 0 < left
      → sets before from (latches_left limit v n (drop at s)) ≡ sets out to (latches_left limit var (suc (left - 1)) (drop next s))
  next-words h = run.whole ∙ ap (λ (k : ℕ). sets out to (latches_left limit var k (drop next s))) (one_fewer left h)

  pub room-here : 0 < left → to + 3 ≤ length out
  room-here h = omega (arith, run.room, run.kept)

  module _ (x : ℕ) (e : x ≡ 2 * var) (out' : List ℕ) (after : ℕ) (ok : Bool) (h : 0 < left)
      (r : LineRead s next 1 2 limit (set out to x) (to + 1) out' after ok) where
    stored : ok ≡ true → out' ≡ sets out to (x ∷ get_or r.line 0 0 ∷ get_or r.line 1 0 ∷ [])
    stored t =
        let w : T (within limit r.line) = T_true (sym r.tested ∙ t) in
        r.contents
        ∙ ap (λ (xs : List ℕ). sets (set out to x) (to + 1) xs) (narrowed-all limit (padded 2 r.line) (padded-within limit 2 r.line w) ∙ two-words r.line)
        ∙ rw (add-one to)

    written : (fits && ok) ≡ true → out' ≡ sets before from (words v (run.lines ++ (r.line ∷ [])))
    written t =
        let p : fits ≡ true = true-T fits (and_left fits ok (T_true t)) in
        let q : ok ≡ true = true-T ok (and_right fits ok (T_true t)) in
        let line = x ∷ get_or r.line 0 0 ∷ get_or r.line 1 0 ∷ [] in
        let there : to ≡ from + length (words v run.lines) = omega (arith, run.place, words-length v run.lines) in
        let literal : 2 * (v + length run.lines) ≡ x = omega (arith, run.number, e) in
        stored q ∙ ap (λ (l : List ℕ). sets l to line) (run.contents p)
        ∙ ap (λ (k : ℕ). sets (sets before from (words v run.lines)) k line) there
        ∙ sets-append before (words v run.lines) line from
        ∙ ap (sets before from)
        (sym (words_snoc v run.lines r.line
        ∙ ap (λ (k : ℕ). words v run.lines ++ (k ∷ get_or r.line 0 0 ∷ get_or r.line 1 0 ∷ [])) literal))

    abbrev later : List ℕ
    later = latches_left limit (var + 1) (left - 1) (drop after s)

    pub more : Run s at n v limit before from out' after (fits && ok) (var + 1) (to + 3) (left - 1)
    more =
        let size : length (run.lines ++ (r.line ∷ [])) ≡ length run.lines + 1 = length-append run.lines (r.line ∷ []) in
        record {
          lines = run.lines ++ (r.line ∷ []);
          count = omega (arith, size, run.count);
          kept =
              ap length r.contents ∙ length-sets (set out to x) (to + 1) (map (narrowed limit) (padded 2 r.line)) ∙ length-set out to x ∙ run.kept;
          inside = r.inside;
          number = omega (arith, size, run.number);
          low = omega (arith, run.low);
          place = omega (arith, size, run.place);
          room = omega (arith, run.room);
          meaning = next-line h ∙ rows_more 1 2 (left - 1) (drop next s) run.lines r.line (drop after s) r.meaning r.enough;
          tested = rw (every-snoc (within limit) run.lines r.line, run.tested, r.tested);
          contents = written;
          whole =
              next-words h ∙ left-more limit var (left - 1) (drop next s) out to r.line (drop after s) r.meaning r.enough
              ∙ ap (λ (u : ℕ). sets (sets (set out to u) (to + 1) (map (narrowed limit) (padded 2 r.line))) (to + 3) later) (sym e)
              ∙ ap (λ (l : List ℕ). sets l (to + 3) later) (sym r.contents);
        }

  pub bad : 0 < left → NoLine 1 (row 2 (drop next s)) → rows 1 2 n (drop at s) ≡ none
  bad h b = next-line h ∙ rows-bad 1 2 (left - 1) (drop next s) run.lines b

  pub bad-left : (out' : List ℕ) → 0 < left → NoLine 1 (row 2 (drop next s)) → out' ≡ set out to (2 * var)
      → out' ≡ sets before from (latches_left limit v n (drop at s))
  bad-left out' h b e = e ∙ sym (next-words h ∙ left-bad limit var (left - 1) (drop next s) out to b)

  pub end-left : left ≤ 0 → out ≡ sets before from (latches_left limit v n (drop at s))
  end-left h = sym (run.whole ∙ ap (sets out to) (left-none limit var left (drop next s) (omega arith)))

  ended : left ≤ 0 → prefixed run.lines (rows 1 2 left (drop next s)) ≡ some (run.lines, drop next s)
  unfolding rows
  ended h =
      let z : left ≡ 0 = omega arith in
      rw (z, append-nil run.lines)

  pub end : left ≤ 0 → LatchesRead s at n v limit before from out next fits
  end h =
      let size : length (words v run.lines) ≡ n * 3 = omega (arith, words-length v run.lines, run.count) in
      record {
        lines = run.lines;
        meaning = run.meaning ∙ ended h;
        inside = run.inside;
        tested = run.tested;
        contents = λ t.
            run.contents t
            ∙ sets-eq (words v run.lines) before from (omega (arith, size, words-length v run.lines, run.place, run.room))
            ∙ ap (λ (k : ℕ). take from before ++ words v run.lines ++ drop (from + k) before) size;
      }
