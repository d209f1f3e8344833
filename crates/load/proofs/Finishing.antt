-- Laws of load as a whole: its tests, what the words say once the lines are stored, and what is left. Assumes nothing.
use mathlib.Core.Path.{◌≡◌, refl, sym, ap, ◌∙◌, subst}
use mathlib.Core.Bool.{Bool, true, false}
use mathlib.Core.List.{List, [], ◌∷◌, ◌++◌}
use mathlib.Core.Option.{Option, none, some}
use Prim.Native.Nat.{ℕ, ◌+◌, ◌*◌, ◌≤◌, ◌<◌}
use native.Mathlib.Omega.{arith}
use borrow.Author.Tests.{le-leb, lt-leb}
use lib.Dec.{leb→le, eqb→eq}
use lib.ListN.{length, take, drop, length-append}
use Rattle.aiger.specs.Circuit.{Circuit, literals_right, used_defined, acyclic}
use Rattle.aiger.specs.File.{Header, is_binary, header, counts_fit, counts_right, count_tests, header_of}
use Rattle.aiger.specs.Load as spec
use Rattle.aiger.specs.Load.{Answer, refused, gives, test, read, sections, needed, ◌>>=◌, ◌>>◌}
use Rattle.aiger.specs.Write.{count_row}
use Rattle.aiger.specs.Memory.{content, image}
use Rattle.aiger.specs.Operations.{front, Loaded}
use Rattle.aiger.proofs.Tests.{T_true, all-at}
use Rattle.layout.specs.Words.{word, content_end, circuit_in}
use Rattle.roundtrip.proofs.Lists.{upto-length}
use Rattle.roundtrip.proofs.LoadValid.{sections-counted, right-fit, same-header, load-valid}
use Rattle.roundtrip.proofs.Content.{words_take, content-length, circuit-in}
use Rattle.headers.specs.Header.{counts_meant}
use Rattle.headers.specs.declared.Counts as headers
use Rattle.layout.specs.declared.Layout.{Layout}
use Rattle.layout.specs.Layout.{PlacesOf, Counted}
use Rattle.sections.specs.Sections.{header_at, numbers_within}
use Rattle.sections.proofs.Literals.{large-wrong}
use Rattle.roundtrip.proofs.Counts.{counted}
use Rattle.validity.specs.Validity.{judged}
use Rattle.load.specs.declared.Counts.{Counts}
use Rattle.load.specs.declared.LoadAnswer.{LoadAnswer}
use Rattle.load.specs.declared.LoadAnswer.TheVariants as LoadAnswer
use Rattle.load.specs.declared.Judgement.{Judgement}
use Rattle.load.specs.Answers.{answered, numbers}
use Rattle.load.specs.Preview.{counts_of, words_needed, Previewed, JudgedAs, Judges}
use Rattle.load.specs.Steps.{narrowed, header_meant, accepts, load_body, CircuitJudged}

-- the greatest counts
pub record Limits (k : Counts) : Type 0 where
  pub m : k.m ≤ 4096
  pub i : k.i ≤ 256
  pub l : k.l ≤ 1024
  pub o : k.o ≤ 64
  pub a : k.a ≤ 3072
  pub b : k.b ≤ 16
  pub c : k.c ≤ 16
  pub sum : k.i + k.l + k.a ≤ k.m

pub limits_of : (h : Header) → counts_fit h ≡ true
    → Limits (record { m = h.M; i = h.I; l = h.L; o = h.O; a = h.A; b = h.B; c = h.C })
unfolding counts_fit
limits_of h e =
    let at = all-at (count_tests h) (T_true e) in
    record {
      m = leb→le h.M 4096 (at 0);
      i = leb→le h.I 256 (at 1);
      l = leb→le h.L 1024 (at 2);
      o = leb→le h.O 64 (at 3);
      a = leb→le h.A 3072 (at 4);
      b = leb→le h.B 16 (at 5);
      c = leb→le h.C 16 (at 6);
      sum = leb→le (h.I + h.L + h.A) h.M (at 9);
    }

pub limits : (k : Counts) → counts_fit (header_meant k) ≡ true → Limits k
limits k e = limits_of (header_meant k) e

pub limits-read : (h : headers.Counts) → counts_fit (counts_meant h) ≡ true → Limits (narrowed h)
limits-read h e = limits_of (counts_meant h) e

-- counts within their limits have no justice and no fairness
pub same-narrowed : (h : headers.Counts) → counts_fit (counts_meant h) ≡ true → header_meant (narrowed h) ≡ counts_meant h
unfolding counts_fit
same-narrowed h e =
    let at = all-at (count_tests (counts_meant h)) (T_true e) in
    λ t. record {
      M = h.m;
      I = h.i;
      L = h.l;
      O = h.o;
      A = h.a;
      B = h.b;
      C = h.c;
      J = sym (eqb→eq h.j 0 (at 7)) t;
      F = sym (eqb→eq h.f 0 (at 8)) t;
    }

pub fit_narrowed : (h : headers.Counts) → counts_fit (counts_meant h) ≡ true → counts_fit (header_meant (narrowed h)) ≡ true
fit_narrowed h e = ap counts_fit (same-narrowed h e) ∙ e

-- the counts in the first seven words

module _ (k : Counts) (w : List ℕ) (r : List ℕ) (e : w ≡ numbers k ++ r) where
  pub header-stored : header_at w ≡ header_meant k
  header-stored = rw e

  pub limit-stored : 2 * k.m + 1 ≡ 2 * word w 0 + 1
  limit-stored = rw e

  pub few-stored : counts_fit (header_meant k) ≡ true → (p : Layout) → PlacesOf w p → (p.i + p.l + p.a ≤ 4096) × (p.o + p.b + p.c ≤ 96)
  few-stored f p q =
      let h : header_at w ≡ header_meant k = header-stored in
      let i : word w 1 ≡ k.i = ap (λ (x : Header). x.I) h in
      let l : word w 2 ≡ k.l = ap (λ (x : Header). x.L) h in
      let o : word w 3 ≡ k.o = ap (λ (x : Header). x.O) h in
      let a : word w 4 ≡ k.a = ap (λ (x : Header). x.A) h in
      let b : word w 5 ≡ k.b = ap (λ (x : Header). x.B) h in
      let c : word w 6 ≡ k.c = ap (λ (x : Header). x.C) h in
      (omega (arith, q.i-is, q.l-is, q.a-is, limits k f), omega (arith, q.o_is, q.b-is, q.c-is, limits k f))

  pub room-stored : counts_fit (header_meant k) ≡ true → 12391 ≤ length w → content_end w ≤ length w
  room-stored f h = rw e (omega (arith, limits k f, ap length (sym e)))

-- the content of a circuit with the counts k

module _ (binary : Bool) (k : Counts) (g : List ℕ) (c : Circuit) (b : sections binary (header_meant k) g ≡ gives c) where
  same-counts : numbers k ≡ c.max_var ∷ count_row c
  same-counts =
      let n = sections-counted binary (header_meant k) g c b in
      λ t.
      sym n.max_var t ∷ sym n.inputs t ∷ sym n.latches t ∷ sym n.outputs t ∷ sym n.gates t ∷ sym n.bads t
      ∷ sym n.constraints t ∷ []

  module _ (w r : List ℕ) (e : w ≡ content c ++ r) where
    same-circuit : circuit_in w ≡ c
    same-circuit = ap circuit_in e ∙ circuit-in c r

    pub counts-stored : counts_fit (header_meant k) ≡ true → Counted w
    counts-stored f =
        let fit : counts_fit (header_of (circuit_in w)) ≡ true =
        ap (λ (d : Circuit). counts_fit (header_of d)) same-circuit
        ∙ ap counts_fit (same-header (header_meant k) c (sections-counted binary (header_meant k) g c b) f) ∙ f in
        let end : content_end w ≡ length (content c) = sym (content-length w) ∙ ap (λ (d : Circuit). length (content d)) same-circuit in
        counted w fit (omega (arith, ap length e, length-append (content c) r))

    -- load of the lines accepts what the words say
    pub body-accepts : accepts (circuit_in w) ≡ load_body binary (header_meant k) g
    unfolding load_body
    body-accepts = ap accepts same-circuit ∙ rw b

  -- a circuit with a number above the limit
  pub body-large : numbers_within binary c ≡ false → load_body binary (header_meant k) g ≡ refused 6
  unfolding load_body accepts judged
  body-large e = rw (b, large-wrong binary c e)

-- no circuit
pub body_refused : (binary : Bool) (h : Header) (g : List ℕ) {n : ℕ} → sections binary h g ≡ refused n → load_body binary h g ≡ refused n
unfolding load_body
body_refused binary h g e = rw e

-- the causes 6 to 8, and what is stored

pub accepts-refused : (c : Circuit) {n : ℕ} → judged c ≡ refused n → accepts c ≡ refused n
unfolding accepts
accepts-refused c e = rw e

pub accepts-right : (c : Circuit) → judged c ≡ gives tt → accepts c ≡ gives c
unfolding accepts
accepts-right c e = rw e

-- load as a whole

chain : (c : Circuit) (x y z : Bool) → (test 6 x >> (test 7 y >> (test 8 z >> gives c))) ≡ (test 6 x >> test 7 y >> test 8 z >> gives c)
chain c true true true = refl
chain c true true false = refl
chain c true false z = refl
chain c false y z = refl

after-body : (o : Answer Circuit)
    → (o >>= λ c. test 6 (literals_right c) >> (test 7 (used_defined c) >> (test 8 (acyclic c) >> gives c))) ≡ (o >>= accepts)
unfolding accepts judged
after-body (refused n) = refl
after-body (gives c) = chain c (literals_right c) (used_defined c) (acyclic c)

module _ (room : ℕ) (f : List ℕ) where
  pub refused-empty : length f < 1 → spec.load room f ≡ refused 1
  unfolding spec.load
  refused-empty h = rw (lt-leb 1 (length f) h)

  pub refused-long : 65536 < length f → spec.load room f ≡ refused 1
  unfolding spec.load
  refused-long h =
      let a : 1 ≤ length f = omega arith in
      rw (le-leb 1 (length f) a, lt-leb (length f) 65536 h)

  module _ (some_byte : 1 ≤ length f) (short : length f ≤ 65536) where
    pub refused-header : header f ≡ none → spec.load room f ≡ refused 2
    unfolding spec.load
    refused-header e = rw (le-leb 1 (length f) some_byte, le-leb (length f) 65536 short, e)

    module _ (h : headers.Counts) (at : ℕ) (e : header f ≡ some (counts_meant h, drop at f)) where
      pub refused-counts : counts_right (is_binary f) (counts_meant h) ≡ false → spec.load room f ≡ refused 3
      unfolding spec.load
      refused-counts n = rw (le-leb 1 (length f) some_byte, le-leb (length f) 65536 short, e, n)

      module _ (n : counts_right (is_binary f) (counts_meant h) ≡ true) where
        pub refused-room : room < needed h.m → spec.load room f ≡ refused 4
        unfolding spec.load
        refused-room l =
            rw (le-leb 1 (length f) some_byte, le-leb (length f) 65536 short, e, n, lt-leb (needed h.m) room l)

        pub load-rest : needed h.m ≤ room → spec.load room f ≡ load_body (is_binary f) (header_meant (narrowed h)) (drop at f)
        unfolding spec.load load_body
        load-rest l =
            rw (le-leb 1 (length f) some_byte, le-leb (length f) 65536 short, e, n, le-leb (needed h.m) room l)
            (after-body (sections (is_binary f) (counts_meant h) (drop at f))
            ∙ ap (λ (x : Header). sections (is_binary f) x (drop at f) >>= accepts) (sym (same-narrowed h (right-fit (is_binary f) (counts_meant h) n))))

-- the words needed

module _ (f : List ℕ) where
  pub none-empty : length f < 1 → 0 ≡ words_needed f
  unfolding words_needed
  none-empty h = rw (lt-leb 1 (length f) h)

  pub none-long : 65536 < length f → 0 ≡ words_needed f
  unfolding words_needed
  none-long h =
      let a : 1 ≤ length f = omega arith in
      rw (le-leb 1 (length f) a, lt-leb (length f) 65536 h)

  module _ (some_byte : 1 ≤ length f) (short : length f ≤ 65536) where
    pub none-header : header f ≡ none → 0 ≡ words_needed f
    unfolding words_needed
    none-header e = rw (le-leb 1 (length f) some_byte, le-leb (length f) 65536 short, e)

    module _ (h : headers.Counts) (at : ℕ) (e : header f ≡ some (counts_meant h, drop at f)) where
      pub none-counts : counts_right (is_binary f) (counts_meant h) ≡ false → 0 ≡ words_needed f
      unfolding words_needed
      none-counts n = rw (le-leb 1 (length f) some_byte, le-leb (length f) 65536 short, e, n)

      pub some_words : counts_right (is_binary f) (counts_meant h) ≡ true → needed h.m ≡ words_needed f
      unfolding words_needed
      some_words n = rw (le-leb 1 (length f) some_byte, le-leb (length f) 65536 short, e, n)

-- ---- a judgement, and what is stored after it

-- the sections make a circuit, which stands in the words
pub sections-judged : (binary : Bool) (k : Counts) (g : List ℕ) (c : Circuit) → sections binary (header_meant k) g ≡ gives c → (w r : List ℕ)
    → w ≡ content c ++ r → (x : LoadAnswer) → CircuitJudged (circuit_in w) k x → JudgedAs (load_body binary (header_meant k) g) w x
sections-judged y k g c b w r e (LoadAnswer.Loaded k') z =
    (c, sym (body-accepts y k g c b w r e) ∙ z.1 ∙ ap gives (same-circuit y k g c b w r e), ap numbers z.0 ∙ same-counts y k g c b, r, e)
sections-judged y k g c b w r e (LoadAnswer.Refused n) z = sym (body-accepts y k g c b w r e) ∙ z

pub file-judged : {a b : Answer Circuit} → a ≡ b → (w : List ℕ) (x : LoadAnswer) → JudgedAs b w x → JudgedAs a w x
file-judged e w (LoadAnswer.Loaded k) z = (z.0, e ∙ z.1, z.2, z.3, z.4)
file-judged e w (LoadAnswer.Refused n) z = e ∙ z

-- a refusal before the words needed are known
pub judged-refused : {room n : ℕ} {f w : List ℕ} {r : Judgement} → r ≡ record { answer = LoadAnswer.Refused n; needed = 0 }
    → spec.load room f ≡ refused n → 0 ≡ words_needed f → Judges room f w r
judged-refused {room} {n} {f} {w} e a b = subst (Judges room f w) (sym e) (record { answer = a; needed = b })

-- what is judged is previewed
pub previewed : {room : ℕ} {f w : List ℕ} {r : Judgement} → Judges room f w r → Previewed room f r
previewed {room} {f} {w} {r} j = record { answer = go r.answer j.answer; needed = j.needed }
  where
    go : (x : LoadAnswer) → JudgedAs (spec.load room f) w x → answered x ≡ (spec.load room f >>= λ c. gives (counts_of c))
    go (LoadAnswer.Loaded k) z = ap gives z.2 ∙ sym (ap (λ (a : Answer Circuit). a >>= λ c. gives (counts_of c)) z.1)
    go (LoadAnswer.Refused n) z = sym (ap (λ (a : Answer Circuit). a >>= λ c. gives (counts_of c)) z)

module _ (m f w : List ℕ) (k : Counts) (z : JudgedAs (spec.load (length m) f) w (LoadAnswer.Loaded k)) where
  is-circuit : circuit_in w ≡ z.0
  is-circuit = ap circuit_in z.4 ∙ circuit-in z.0 z.3

  pub judged-counted : Counted w
  judged-counted =
      let v = load-valid f z.1 in
      let end : content_end w ≡ length (content z.0) = sym (content-length w) ∙ ap (λ (d : Circuit). length (content d)) is-circuit in
      counted w (ap (λ (d : Circuit). counts_fit (header_of d)) is-circuit ∙ v.fit) (omega (arith, ap length z.4, length-append (content z.0) z.3))

  pub judged-room : needed (word w 0) ≤ length m
  unfolding content
  judged-room = omega (arith, (load-valid f z.1).held, ap (λ (x : List ℕ). word x 0) z.4)

  pub judged-stored : (m' : List ℕ) → m' ≡ front (image (circuit_in w)) m → Loaded m f (gives (numbers k)) m'
  judged-stored m' e = rw (z.2, e, is-circuit) (Loaded.stores z.0 z.1)
