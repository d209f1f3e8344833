-- A read more of a line. Assumes nothing.
use mathlib.Core.Path.{◌≡◌, refl, sym, ap, ◌∙◌, subst}
use mathlib.Core.Bool.{Bool, true, false, cond}
use mathlib.Core.List.{List, [], ◌∷◌, ◌++◌, append-nil}
use mathlib.Core.Logic.{◌⊎◌}
use Prim.Native.Nat.{ℕ, suc, ◌+◌, ◌≤◌, ◌<◌}
use native.Mathlib.Numerals.{add-one}
use native.Mathlib.Omega.{arith}
use lib.Dec.{eqb, ltb}
use lib.Seq.{take_all, take-append-le, take-suc-set, length-take-le}
use lib.ListN.{length, take, set, length-append, length-set, length-take, length-replicate}
use borrow.Author.Tests.{ltb-true, ltb-false, eq-eqb, ne_eqb}
use Rattle.input.specs.Reading.{count_given, is_failure}
use Rattle.panel_input.specs.Line.{empty_line, missed_read, input_end, line_feed, keep_byte, step, gathered, byte_of, bytes_of, Keeps, NoneOver, Received}
use Rattle.panel_input.specs.declared.gathering.ByteRead.{ByteRead}
use Rattle.panel_input.specs.declared.gathering.RequestLine.{RequestLine}

-- ---- which step a read is

module _ (l : RequestLine) {t : RequestLine} (r : ByteRead) where
  pub step-failed : is_failure r.read.given ≡ true → t ≡ missed_read l → t ≡ step l r
  unfolding step
  step-failed f e =
      e
      ∙ ap
      (λ (b : Bool).
      cond b (missed_read l)
      (cond (eqb (count_given r.read.given) 0) (input_end l) (cond (eqb r.byte 10) (line_feed l) (keep_byte l r.byte))))
      (sym f)

  module _ (f : is_failure r.read.given ≡ false) where
    pub step-ended : count_given r.read.given ≡ 0 → t ≡ input_end l → t ≡ step l r
    unfolding step
    step-ended z e = rw (f, eq-eqb (count_given r.read.given) 0 z) e

    module _ (z : count_given r.read.given ≡ 0 → ⊥) where
      pub step-fed : r.byte ≡ 10 → t ≡ line_feed l → t ≡ step l r
      unfolding step
      step-fed n e = rw (f, ne_eqb (count_given r.read.given) 0 z, eq-eqb r.byte 10 n) e

      pub step_kept : (r.byte ≡ 10 → ⊥) → t ≡ keep_byte l r.byte → t ≡ step l r
      unfolding step
      step_kept n e = rw (f, ne_eqb (count_given r.read.given) 0 z, ne_eqb r.byte 10 n) e

-- ---- the bytes that were read stand at the front

-- there is room for the byte
stored : (bs buf : List ℕ) (n b : ℕ) → Keeps bs buf n → n < length buf → Keeps (bs ++ (b ∷ [])) (set buf n b) (n + 1)
stored bs buf n b k l =
    let long : length (set buf n b) ≡ length buf = length-set buf n b in
    let more : length (bs ++ (b ∷ [])) ≡ length bs + 1 = length-append bs (b ∷ []) in
    let same : n ≡ length bs = k.all l in
    record {
      inside = omega (arith, long);
      kept =
          ap (λ (i : ℕ). take i (set buf n b)) (add-one n) ∙ take-suc-set buf n b l ∙ ap (λ (w : List ℕ). w ++ (b ∷ [])) (k.kept ∙ take_all (length buf) bs (omega (arith, same)))
          ∙ sym (take_all (length (set buf n b)) (bs ++ (b ∷ [])) (omega (arith, long, more, same)));
      all = λ h. omega (arith, more, same);
    }

-- there is none
passed : (bs buf : List ℕ) (n b : ℕ) → Keeps bs buf n → n ≡ length buf → Keeps (bs ++ (b ∷ [])) buf n
passed bs buf n b k e =
    let full : n ≤ length bs =
    omega (arith, ap length k.kept, length-take-le n buf k.inside, length-take (length buf) bs) in
    record {
      inside = k.inside;
      kept = k.kept ∙ sym (take-append-le (length buf) bs (b ∷ []) (omega (arith, full, e)));
      all = λ h. absurd (omega (arith, h, e));
    }

-- what a read leaves of the bytes before it and its own
abbrev After : ℕ → List ℕ → RequestLine → Type 0
After n bytes l = Keeps bytes l.line l.count × (length l.line ≡ 4097) × (l.reads ≡ n + 1)

module _ (l : RequestLine) (bytes : List ℕ) (k : Keeps bytes l.line l.count) (long : length l.line ≡ 4097) where
  same : Keeps (bytes ++ []) l.line l.count
  same = subst (λ (w : List ℕ). Keeps w l.line l.count) (sym (append-nil bytes)) k

  after-missed : After l.reads (bytes ++ []) (missed_read l)
  after-missed = go (ltb l.missed 7)
    where
      go : (b : Bool) → After l.reads (bytes ++ [])
          (cond b
          (record { line = l.line; count = l.count; failed = true; missed = l.missed + 1; ended = false; over = false; reads = l.reads + 1 })
          (record { line = l.line; count = l.count; failed = true; missed = l.missed; ended = true; over = true; reads = l.reads + 1 }))
      go true = (same, long, refl)
      go false = (same, long, refl)

  after_kept : (b : ℕ) → After l.reads (bytes ++ (b ∷ [])) (keep_byte l b)
  after_kept b = go (ltb l.count 4097) (ltb-true l.count 4097) (ltb-false l.count 4097)
    where
      go : (t : Bool) → (t ≡ true → l.count < 4097) → (t ≡ false → 4097 ≤ l.count) → After l.reads (bytes ++ (b ∷ []))
          (cond t
          (record {
            line = set l.line l.count b;
            count = l.count + 1;
            failed = l.failed;
            missed = 0;
            ended = false;
            over = false;
            reads = l.reads + 1;
          })
          (record { line = l.line; count = l.count; failed = l.failed; missed = 0; ended = false; over = false; reads = l.reads + 1 }))
      go true f g = (stored bytes l.line l.count b k (omega (arith, f refl, long)), length-set l.line l.count b ∙ long, refl)
      go false f g = (passed bytes l.line l.count b k (omega (arith, g refl, long, k.inside)), long, refl)

  after : (r : ByteRead) → After l.reads (bytes ++ byte_of r) (step l r)
  unfolding step
  after r = go (is_failure r.read.given) (eqb (count_given r.read.given) 0) (eqb r.byte 10)
    where
      go : (f e n : Bool) → After l.reads (bytes ++ cond f [] (cond e [] (cond n [] (r.byte ∷ []))))
          (cond f (missed_read l) (cond e (input_end l) (cond n (line_feed l) (keep_byte l r.byte))))
      go true e n = after-missed
      go false true n = (same, long, refl)
      go false false true = (same, long, refl)
      go false false false = after_kept r.byte

-- ---- a line that is gathered

-- the reads of a line so far
pub record Gathers (l : RequestLine) : Type 0 where
  pub reads : List ByteRead
  pub line-is : l ≡ gathered reads
  pub number : length reads ≡ l.reads
  pub keeps : Keeps (bytes_of reads) l.line l.count
  pub long : length l.line ≡ 4097
  pub first-end : NoneOver reads

pub empty-gathers : {l : RequestLine} → l ≡ empty_line → Gathers l
unfolding empty_line gathered bytes_of NoneOver
empty-gathers {l} e =
    let n : l.count ≡ 0 = ap (λ (x : RequestLine). x.count) e in
    record {
      reads = [];
      line-is = e;
      number = sym (ap (λ (x : RequestLine). x.reads) e);
      keeps = record {
        inside = omega (arith, n);
        kept = ap (λ (i : ℕ). take i l.line) n ∙ sym (take_all (length l.line) [] (omega arith));
        all = λ h. n;
      };
      long = ap (λ (x : RequestLine). length x.line) e ∙ length-replicate {A = ℕ} 4097 0;
      first-end = tt;
    }

pub empty-reads : {l : RequestLine} → l ≡ empty_line → l.reads < 18446744073709551615
unfolding empty_line
empty-reads {l} e = let n : l.reads ≡ 0 = ap (λ (x : RequestLine). x.reads) e in omega (arith, n)

-- how many reads a step adds
pub step-reads : {l k t : RequestLine} (r : ByteRead) → Gathers l → k ≡ l → t ≡ step k r → t.reads ≡ l.reads + 1
step-reads {l} r g d e =
    ap (λ (x : RequestLine). x.reads) (e ∙ ap (λ (x : RequestLine). step x r) d) ∙ (after l (bytes_of g.reads) g.keeps g.long r).2

pub empty-open : {l : RequestLine} → l ≡ empty_line → l.over ≡ false
unfolding empty_line
empty-open e = ap (λ (x : RequestLine). x.over) e

pub step-gathers : {l k t : RequestLine} (r : ByteRead) → Gathers l → l.over ≡ false → k ≡ l → t ≡ step k r → Gathers t
unfolding gathered bytes_of NoneOver
step-gathers {l} {k} {t} r g o d e =
    let f : t ≡ step l r = e ∙ ap (λ (x : RequestLine). step x r) d in
    let a = after l (bytes_of g.reads) g.keeps g.long r in
    record {
      reads = r ∷ g.reads;
      line-is = f ∙ ap (λ (x : RequestLine). step x r) g.line-is;
      number = sym (add-one (length g.reads)) ∙ ap (λ (n : ℕ). n + 1) g.number ∙ sym a.2 ∙ sym (ap (λ (x : RequestLine). x.reads) f);
      keeps = subst (λ (x : RequestLine). Keeps (bytes_of g.reads ++ byte_of r) x.line x.count) (sym f) a.0;
      long = ap (λ (x : RequestLine). length x.line) f ∙ a.1;
      first-end = (ap (λ (x : RequestLine). x.over) (sym g.line-is) ∙ o, g.first-end);
    }

pub received : {l t : RequestLine} → t ≡ l → Gathers l → ((l.over ≡ true) ⊎ (l.reads ≡ 18446744073709551615)) → Received t
received {l} {t} e g s =
    subst Received (sym e)
    (record {
      reads = g.reads;
      line-is = g.line-is;
      number = g.number;
      keeps = g.keeps;
      counts = (g.keeps.inside, sym (length-take-le l.count l.line g.keeps.inside));
      first-end = g.first-end;
      stops = s;
    })

pub differ : {A : Type 0} → false ≡ true → A
differ e = let z : ◌≡◌ {A = ℕ} 0 1 = ap (λ (b : Bool). cond b 1 0) e in absurd (omega (arith, z))
