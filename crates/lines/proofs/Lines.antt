-- Laws of reading a run of lines, a line at a time. Assumes nothing.
use mathlib.Core.Path.{◌≡◌, refl, sym, ap, ◌∙◌}
use mathlib.Core.Bool.{Bool, true, ◌&&◌}
use mathlib.Core.List.{List, [], ◌∷◌, ◌++◌, map, append_assoc, append-nil}
use mathlib.Core.Option.{Option, none, some}
use Prim.Native.Nat.{ℕ, suc, ◌+◌, ◌-◌, ◌*◌, ◌≤◌, ◌<◌}
use native.Mathlib.Nat.{suc-mul}
use native.Mathlib.Omega.{arith}
use borrow.Author.Tests.{le-leb, lt-leb}
use lib.Dec.{T, leb}
use lib.ListN.{length, get_or, take, drop, length-append, length-map}
use lib.Seq.{sets, sets-eq, length-sets, length-take-le}
use Rattle.aiger.specs.Lists.{every}
use Rattle.aiger.specs.Text.{row, rows, ◌>>=◌, ◌>>◌, when}
use Rattle.aiger.proofs.Tests.{and, and_left, and_right, T_true}
use Rattle.lines.specs.Lines.{RowRead, padded, flat, narrowed, within, Stored, NoLine, LineRead, on_line, rows_left, RowsRead}
use Rattle.lines.proofs.Storing.{every_append, every-snoc, map-append, sets-append, narrowed-all, length-padded, padded-take, padded-within, within-padded}

-- one line

module _ (s : List ℕ) (at least most : ℕ) where
  pub line-malformed : row most (drop at s) ≡ none → NoLine least (row most (drop at s))
  line-malformed e = rw e tt

  pub line-short : (before after : List ℕ) (count next : ℕ)
      → most ≤ length after → RowRead s at most before after count next → count < least → NoLine least (row most (drop at s))
  line-short before after count next room r h =
      let l : length (take count after) ≡ count = length-take-le count after (omega arith) in
      rw (r.meaning, l) h

  -- the line stands in a buffer that was zeros
  pub line_read : (limit : ℕ) (words out : List ℕ) (from : ℕ) (after : List ℕ) (zeros : List ℕ) (count next : ℕ) (fits : Bool) → most ≤ length words
      → ((i : ℕ) → get_or zeros i 0 ≡ 0) → RowRead s at most zeros words count next → least ≤ count → Stored words most limit out from after fits
      → LineRead s at least most limit out from after next fits
  line_read limit words out from after zeros count next fits room z r h st =
      let l : length (take count words) ≡ count = length-take-le count words (omega arith) in
      let p : take most words ≡ padded most (take count words) = padded-take most count words room (λ i b. r.rest i b ∙ z i) in
      record {
        line = take count words;
        meaning = r.meaning;
        enough = omega arith;
        inside = r.inside;
        tested = st.tested ∙ ap (within limit) p ∙ within-padded limit most (take count words) (omega arith);
        contents = st.contents ∙ ap (λ (xs : List ℕ). sets out from (map (narrowed limit) xs)) p;
      }

-- rows one after the other

pub flat-snoc : (k : ℕ) (rs : List (List ℕ)) (r : List ℕ) → flat k (rs ++ (r ∷ [])) ≡ flat k rs ++ padded k r
unfolding flat
flat-snoc k [] r = append-nil (padded k r)
flat-snoc k (q ∷ rs) r = rw (flat-snoc k rs r, append_assoc)

pub flat-within : (limit k : ℕ) (rs : List (List ℕ)) → T (every (within limit) rs) → T (within limit (flat k rs))
unfolding flat
flat-within limit k [] t = tt
flat-within limit k (r ∷ rs) t =
    rw (every_append (λ x. leb x limit) (padded k r) (flat k rs))
    (and (within limit (padded k r)) (within limit (flat k rs))
    (padded-within limit k r (and_left (within limit r) (every (within limit) rs) t))
    (flat-within limit k rs (and_right (within limit r) (every (within limit) rs) t)))

pub length-flat : (k : ℕ) (rs : List (List ℕ)) → length (flat k rs) ≡ length rs * k
unfolding flat
length-flat k [] = omega arith
length-flat k (r ∷ rs) =
    rw (length-append (padded k r) (flat k rs), length-padded k r, length-flat k rs, suc-mul (length rs) k) (omega arith)

-- a run whose first rows are rs
abbrev pub prefixed : List (List ℕ) → Option (List (List ℕ) × List ℕ) → Option (List (List ℕ) × List ℕ)
prefixed rs none = none
prefixed rs (some q) = some (rs ++ q.0, q.1)

pub prefixed-none : (o : Option (List (List ℕ) × List ℕ)) → o ≡ prefixed [] o
prefixed-none none = refl
prefixed-none (some q) = refl

prefixed-one : (rs : List (List ℕ)) (r : List ℕ) (o : Option (List (List ℕ) × List ℕ))
    → prefixed rs (o >>= λ q. some (r ∷ q.0, q.1)) ≡ prefixed (rs ++ (r ∷ [])) o
prefixed-one rs r none = refl
prefixed-one rs r (some q) = rw append_assoc

pub one_fewer : (n : ℕ) → 0 < n → n ≡ suc (n - 1)
one_fewer n h = omega arith

module _ (least most k : ℕ) (f : List ℕ) (rs : List (List ℕ)) where
  pub rows_more : (r g : List ℕ) → row most f ≡ some (r, g) → least ≤ length r
      → prefixed rs (rows least most (suc k) f) ≡ prefixed (rs ++ (r ∷ [])) (rows least most k g)
  unfolding rows
  rows_more r g e l = rw (e, le-leb least (length r) l) (prefixed-one rs r (rows least most k g))

  pub rows-bad : NoLine least (row most f) → prefixed rs (rows least most (suc k) f) ≡ none
  unfolding rows
  rows-bad b = go (row most f) b
    where
      go : (o : Option (List ℕ × List ℕ)) → NoLine least o
          → prefixed rs (o >>= λ r. when (leb least (length r.0)) >> (rows least most k r.1 >>= λ q. some (r.0 ∷ q.0, q.1))) ≡ none
      go none b = refl
      go (some r) b = rw (lt-leb least (length r.0) b)

-- what a text leaves, a line at a time

pub line-more : (least : ℕ) (o : Option (List ℕ × List ℕ)) (more : List ℕ → List ℕ → List ℕ) (r g : List ℕ)
    → o ≡ some (r, g) → least ≤ length r → on_line least o more ≡ more r g
line-more least o more r g e l = rw (e, le-leb least (length r) l)

pub line-bad : (least : ℕ) (o : Option (List ℕ × List ℕ)) (more : List ℕ → List ℕ → List ℕ) → NoLine least o → on_line least o more ≡ []
line-bad least none more b = refl
line-bad least (some r) more b = rw (lt-leb least (length r.0) b)

module _ (least most limit : ℕ) where
  abbrev line_then : ℕ → List ℕ → List ℕ → List ℕ
  line_then k r g = map (narrowed limit) (padded most r) ++ rows_left least most limit k g

  left-more : (k : ℕ) (f r g l : List ℕ) (to : ℕ) → row most f ≡ some (r, g) → least ≤ length r
      → sets l to (rows_left least most limit (suc k) f)
      ≡ sets (sets l to (map (narrowed limit) (padded most r))) (to + most) (rows_left least most limit k g)
  unfolding rows_left
  left-more k f r g l to e h =
      let words = map (narrowed limit) (padded most r) in
      let size : length words ≡ most = length-map (padded most r) (narrowed limit) ∙ length-padded most r in
      ap (sets l to) (line-more least (row most f) (line_then k) r g e h) ∙ sym (sets-append l words (rows_left least most limit k g) to)
      ∙ ap (λ (n : ℕ). sets (sets l to words) (to + n) (rows_left least most limit k g)) size

  left-bad : (k : ℕ) (f : List ℕ) → NoLine least (row most f) → rows_left least most limit (suc k) f ≡ []
  unfolding rows_left
  left-bad k f b = line-bad least (row most f) (line_then k) b

  left-none : (k : ℕ) (f : List ℕ) → k ≡ 0 → rows_left least most limit k f ≡ []
  unfolding rows_left
  left-none k f e = rw e

product : (k m : ℕ) → 0 < k → k * m ≡ (k - 1) * m + m
product k m h = ap (λ (n : ℕ). n * m) (one_fewer k h) ∙ suc-mul (k - 1) m

-- some lines are read and stored, and `left` are left
pub record Run (s : List ℕ) (at least most n limit : ℕ) (before : List ℕ) (from : ℕ) (out : List ℕ) (next : ℕ) (fits : Bool) (to left : ℕ) : Type 0 where
  pub lines : List (List ℕ)
  pub count : length lines + left ≡ n
  pub kept : length out ≡ length before
  pub inside : next ≤ length s
  pub place : to ≡ from + length (flat most lines)
  pub room : to + left * most ≤ length before
  pub meaning : rows least most n (drop at s) ≡ prefixed lines (rows least most left (drop next s))
  pub tested : fits ≡ every (within limit) lines
  pub contents : out ≡ sets before from (map (narrowed limit) (flat most lines))
  pub whole : sets before from (rows_left least most limit n (drop at s)) ≡ sets out to (rows_left least most limit left (drop next s))

pub start : (s : List ℕ) (at least most n limit : ℕ) (out : List ℕ) (from : ℕ) → at ≤ length s → from + n * most ≤ length out
    → Run s at least most n limit out from out at true from n
unfolding flat
start s at least most n limit out from inside room =
    record {
      lines = [];
      count = omega arith;
      kept = refl;
      inside = inside;
      place = omega arith;
      room = room;
      meaning = prefixed-none (rows least most n (drop at s));
      tested = refl;
      contents = refl;
      whole = refl;
    }

module _ (s : List ℕ) (at least most n limit : ℕ) (before : List ℕ) (from : ℕ) (out : List ℕ) (next : ℕ) (fits : Bool) (to left : ℕ)
    (run : Run s at least most n limit before from out next fits to left) where
  next-line : 0 < left → rows least most n (drop at s) ≡ prefixed run.lines (rows least most (suc (left - 1)) (drop next s))
  next-line h = run.meaning ∙ ap (λ (k : ℕ). prefixed run.lines (rows least most k (drop next s))) (one_fewer left h)

  next-words : 0 < left
      → sets before from (rows_left least most limit n (drop at s)) ≡ sets out to (rows_left least most limit (suc (left - 1)) (drop next s))
  next-words h = run.whole ∙ ap (λ (k : ℕ). sets out to (rows_left least most limit k (drop next s))) (one_fewer left h)

  pub room-here : 0 < left → to + most ≤ length out
  room-here h = omega (arith, product left most h, run.room, run.kept)

  pub more : (out' : List ℕ) (after : ℕ) (ok : Bool) → 0 < left → LineRead s next least most limit out to out' after ok
      → Run s at least most n limit before from out' after (fits && ok) (to + most) (left - 1)
  more out' after ok h r =
      let line = r.line in
      let longer : flat most (run.lines ++ (line ∷ [])) ≡ flat most run.lines ++ padded most line = flat-snoc most run.lines line in
      let stored = map (narrowed limit) (flat most run.lines) in
      let size : length stored ≡ length (flat most run.lines) = length-map (flat most run.lines) (narrowed limit) in
      let there : to ≡ from + length stored = run.place ∙ ap (λ (k : ℕ). from + k) (sym size) in
      let written : out' ≡ sets before from (map (narrowed limit) (flat most (run.lines ++ (line ∷ [])))) =
      r.contents
      ∙ ap (λ (l : List ℕ). sets l to (map (narrowed limit) (padded most line))) run.contents
      ∙ ap (λ (k : ℕ). sets (sets before from stored) k (map (narrowed limit) (padded most line))) there
      ∙ sets-append before stored (map (narrowed limit) (padded most line)) from
      ∙ ap (sets before from) (sym (map-append (narrowed limit) (flat most run.lines) (padded most line)))
      ∙ ap (λ (xs : List ℕ). sets before from (map (narrowed limit) xs)) (sym longer) in
      record {
        lines = run.lines ++ (line ∷ []);
        count = rw (length-append run.lines (line ∷ [])) (omega (arith, run.count));
        kept = ap length written ∙ length-sets before from (map (narrowed limit) (flat most (run.lines ++ (line ∷ []))));
        inside = r.inside;
        place = rw (longer, length-append (flat most run.lines) (padded most line), length-padded most line) (omega (arith, run.place));
        room = omega (arith, product left most h, run.room);
        meaning = next-line h ∙ rows_more least most (left - 1) (drop next s) run.lines line (drop after s) r.meaning r.enough;
        tested = rw (every-snoc (within limit) run.lines line, run.tested, r.tested);
        contents = written;
        whole =
            next-words h ∙ left-more least most limit (left - 1) (drop next s) line (drop after s) out to r.meaning r.enough
            ∙ ap (λ (l : List ℕ). sets l (to + most) (rows_left least most limit (left - 1) (drop after s))) (sym r.contents);
      }

  pub bad : 0 < left → NoLine least (row most (drop next s)) → rows least most n (drop at s) ≡ none
  bad h b = next-line h ∙ rows-bad least most (left - 1) (drop next s) run.lines b

  pub bad-left : (out' : List ℕ) → 0 < left → NoLine least (row most (drop next s)) → out' ≡ out
      → out' ≡ sets before from (rows_left least most limit n (drop at s))
  bad-left out' h b e = e ∙ sym (next-words h ∙ ap (sets out to) (left-bad least most limit (left - 1) (drop next s) b))

  pub end-left : left ≤ 0 → out ≡ sets before from (rows_left least most limit n (drop at s))
  end-left h = sym (run.whole ∙ ap (sets out to) (left-none least most limit left (drop next s) (omega arith)))

  ended : left ≤ 0 → prefixed run.lines (rows least most left (drop next s)) ≡ some (run.lines, drop next s)
  unfolding rows
  ended h =
      let z : left ≡ 0 = omega arith in
      rw (z, append-nil run.lines)

  pub end : left ≤ 0 → RowsRead s at least most n limit before from out next fits
  end h =
      let many : length run.lines ≡ n = omega (arith, run.count) in
      let size : length (flat most run.lines) ≡ n * most = length-flat most run.lines ∙ ap (λ (k : ℕ). k * most) many in
      record {
        lines = run.lines;
        meaning = run.meaning ∙ ended h;
        inside = run.inside;
        tested = run.tested;
        contents = λ t.
            run.contents
            ∙ ap (sets before from) (narrowed-all limit (flat most run.lines) (flat-within limit most run.lines (T_true (sym run.tested ∙ t))))
            ∙ sets-eq (flat most run.lines) before from (omega (arith, size, run.place, run.room))
            ∙ ap (λ (k : ℕ). take from before ++ flat most run.lines ++ drop (from + k) before) size;
      }
