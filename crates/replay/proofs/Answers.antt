-- What is read of a witness, and what replay answers. Assumes nothing.
use mathlib.Core.Path.{◌≡◌, refl, sym, ap, ap₂, ◌∙◌, subst}
use mathlib.Core.Bool.{Bool, true, false, not}
use mathlib.Core.List.{List, [], ◌∷◌}
use mathlib.Core.Option.{Option, none, some}
use Prim.Native.Nat.{ℕ, ◌+◌, ◌-◌, ◌*◌, ◌≤◌, ◌<◌}
use native.Mathlib.Decide.{dec_lt}
use native.Mathlib.Omega.{arith}
use borrow.Author.Tests.{lt-ltb, le-ltb, le-leb, lt-leb}
use lib.ListN.{length, take, drop, length-drop}
use lib.Seq.{take_all}
use Rattle.std.specs.Prelude as code
use Rattle.aiger.specs.Circuit.{Circuit}
use Rattle.aiger.specs.Load.{Answer, refused, gives}
use Rattle.aiger.specs.Operations.{judge, Operated, HoldsNone}
use Rattle.aiger.specs.Memory.{Holds}
use Rattle.aiger.specs.Witness.{Witness, bits, bit_rows, read_run}
use Rattle.completions.specs.Either.{heading, eithers, completion, all_pass, none_passes, Verdict, verdict, shows, read_either}
use Rattle.completions.specs.Operations.{either_tests, EitherReplayed}
use Rattle.layout.specs.Words.{word, circuit_in}
use Rattle.layout.specs.Layout.{LayoutOf}
use Rattle.layout.specs.Order.{Ordered}
use Rattle.layout.specs.declared.Layout.{Layout}
use Rattle.frames.specs.Lanes.{Ready}
use Rattle.frames.proofs.Facts.{counts, top-is, bad-count}
use Rattle.frames.proofs.Places.{inputs_are, latches-are}
use Rattle.completions.specs.Forms.{SameForm}
use Rattle.completions.proofs.Completions.{completes}
use Rattle.completions.proofs.Forms.{completes-form}
use Rattle.witness.specs.Line.{values}
use Rattle.blocks.specs.Runs.{RunAt, BodyRead, Fits, Posed}
use Rattle.blocks.specs.declared.Instance.{Instance}
use Rattle.circuit.specs.Held.{HeldIs}
use Rattle.replay.specs.Texts.{CountsOf, RowsAt, Counted, malformed, well_formed, Framed, Placed, ReadIn, HeldRead}
use Rattle.replay.specs.declared.Reading.{Reading}
use Rattle.replay.specs.declared.Reading.TheVariants as reading
use Rattle.replay.specs.declared.Rows.{Rows}
use Rattle.replay.specs.declared.Rows.TheVariants.{Read, Malformed}
pub use Rattle.roundtrip.proofs.Lists.{take_rest as rest-is}

-- ---- what is read after line `b`

module _ (c : Circuit) (b : ℕ) (w : List ℕ) where
  pub bad-none : length c.bads ≤ b → read_run c b w ≡ none
  unfolding read_run
  bad-none h = simp (le-ltb b (length c.bads) h)

  module _ (h : b < length c.bads) where
    start_none : bits (length c.latches) w ≡ none → read_run c b w ≡ none
    unfolding read_run
    start_none e = simp (lt-ltb b (length c.bads) h, e)

    module _ (bs : List Bool) (f : List ℕ) (e : bits (length c.latches) w ≡ some (bs, f)) where
      rows_none : bit_rows (length c.inputs) 256 f ≡ none → read_run c b w ≡ none
      unfolding read_run
      rows_none q = simp (lt-ltb b (length c.bads) h, e, q)

      rows_empty : bit_rows (length c.inputs) 256 f ≡ some [] → read_run c b w ≡ none
      unfolding read_run
      rows_empty q = simp (lt-ltb b (length c.bads) h, e, q)

      rows-some : (rs : List (List Bool)) → 1 ≤ length rs → bit_rows (length c.inputs) 256 f ≡ some rs
          → read_run c b w ≡ some (record { bad = b; run = record { start = bs; rows = rs } })
      unfolding read_run
      rows-some rs l q = simp (lt-ltb b (length c.bads) h, e, q, le-leb 1 (length rs) l)

  -- whatever b is, where nothing is read for a b that there is
  for-each : (b < length c.bads → read_run c b w ≡ none) → read_run c b w ≡ none
  for-each f =
      elim (dec_lt b (length c.bads)) [
        | yes l ↦ f l
        | no n ↦ bad-none (omega arith)
      ]

empty : {A : Type 0} (xs : List A) → length xs ≡ 0 → xs ≡ []
empty [] e = refl
empty (x ∷ xs) e = absurd (omega arith)

-- ---- a body, line by line

module _ (l i : ℕ) (body : List ℕ) (c : Circuit) (p : l ≡ length c.latches) (q : i ≡ length c.inputs) (b : ℕ) where
  pub no_start : bits l (drop 0 body) ≡ none → read_run c b body ≡ none
  no_start e = for-each c b body (λ h. start_none c b body h (ap (λ (n : ℕ). bits n body) (sym p) ∙ e))

  module _ (rows : ℕ) (s : bits l (drop 0 body) ≡ some (values body 0 l, drop rows body)) where
    first : bits (length c.latches) body ≡ some (values body 0 (length c.latches), drop rows body)
    first = subst (λ (n : ℕ). bits n body ≡ some (values body 0 n, drop rows body)) p s

    counted : {r : Rows} → Counted body rows i r → Counted body rows (length c.inputs) r
    counted {r} n = subst (λ (k : ℕ). Counted body rows k r) q n

    pub no_rows : Counted body rows i Malformed → read_run c b body ≡ none
    no_rows n = for-each c b body (λ h. go h (counted n))
      where
        go : b < length c.bads → Counted body rows (length c.inputs) Malformed → read_run c b body ≡ none
        go h (malformed e) = rows_none c b body h (values body 0 (length c.latches)) (drop rows body) first e

    pub zero-rows : {r : ℕ} → Counted body rows i (Read r) → r ≡ 0 → read_run c b body ≡ none
    zero-rows n z = for-each c b body (λ h. go h (counted n) z)
      where
        go : {r : ℕ} → b < length c.bads → Counted body rows (length c.inputs) (Read r) → r ≡ 0 → read_run c b body ≡ none
        go h (well_formed w) z =
            rows_empty c b body h (values body 0 (length c.latches)) (drop rows body) first (w.read ∙ ap some (empty w.rows (w.size ∙ z)))

    pub body-read : {r : ℕ} → rows ≡ l + 1 → Counted body rows i (Read r) → (r ≡ 0 → ⊥) → b < length c.bads → BodyRead c b r body
    body-read {r} e n o h = go (counted n)
      where
        go : Counted body rows (length c.inputs) (Read r) → BodyRead c b r body
        go (well_formed w) =
            record {
              run = record { start = values body 0 (length c.latches); rows = w.rows };
              reads =
                  rows-some c b body h (values body 0 (length c.latches)) (drop rows body) first w.rows (omega (arith, w.size, o)) w.read;
              run_at =
                  record {
                    start_is = refl;
                    row_is = λ u k.
                        w.row u k ∙ ap (λ (n : ℕ). values body (n + u * (length c.inputs + 1)) (length c.inputs)) (e ∙ ap (λ (n : ℕ). n + 1) p);
                    frames-are = w.size;
                  };
            }

-- the rows lie within the body
pub rows_inside : {text : List ℕ} {at count r : ℕ} → Counted text at count (Read r) → at + r * (count + 1) ≤ length text
rows_inside (well_formed w) = w.inside

-- ---- the tests

module _ (c : Circuit) (text : List ℕ) where
  refused-read : read_either c text ≡ none → judge (either_tests c text) ≡ refused 14
  unfolding judge
  refused-read e = rw e

  read-headless : heading text ≡ none → read_either c text ≡ none
  unfolding read_either
  read-headless e = simp e

  pub no-heading : heading text ≡ none → judge (either_tests c text) ≡ refused 14
  no-heading e = refused-read (read-headless e)

  module _ (b : ℕ) (body : List ℕ) where
    pub too_many : read_either c text ≡ some (b, body) → 16 < eithers body → judge (either_tests c text) ≡ refused 16
    unfolding judge
    too_many e l = rw (e, lt-leb (eithers body) 16 l)

    pub passed : read_either c text ≡ some (b, body) → eithers body ≤ 16 → judge (either_tests c text) ≡ gives tt
    unfolding judge
    passed e l = rw (e, le-leb (eithers body) 16 l)

    module _ (e : heading text ≡ some (b, body)) where
      read-bodyless : read_run c b (completion 0 body) ≡ none → read_either c text ≡ none
      unfolding read_either
      read-bodyless q = simp (e, q)

      pub no_body : read_run c b (completion 0 body) ≡ none → judge (either_tests c text) ≡ refused 14
      no_body q = refused-read (read-bodyless q)

      pub no-bad : length c.bads ≤ b → judge (either_tests c text) ≡ refused 14
      no-bad l = no_body (bad-none c b (completion 0 body) l)

      pub was_read : (x : Witness) → read_run c b (completion 0 body) ≡ some x → read_either c text ≡ some (b, body)
      unfolding read_either
      was_read x q = simp (e, q)

-- the completion in which every `x` is 0 has the body's form
pub zero-form : (body : List ℕ) → SameForm body (completion 0 body)
zero-form body = completes-form (completes 0 body)

-- a body whose frames were read fits
pub body-fits : (c : Circuit) (b l i frames count : ℕ) (body : List ℕ) → l ≡ length c.latches → i ≡ length c.inputs → b < length c.bads
    → ((u : List ℕ) → SameForm body u → Framed l i frames u) → count ≡ eithers body → count ≤ 16 → Fits c b frames count body
body-fits c b l i frames count body p q h f e k =
    let z = f (completion 0 body) (zero-form body) in
    record {
      form = λ u s. (f u s).reads c p q b h;
      some-frame = z.some-frame;
      inside =
          let o : l + 1 + frames * (i + 1) ≡ length c.latches + 1 + frames * (length c.inputs + 1) =
          ap₂ (λ (x y : ℕ). x + 1 + frames * (y + 1)) p q in
          omega (arith, z.inside, (zero-form body).size);
      eithers-are = e;
      few = k;
    }

-- ---- the answers

module _ {m : List ℕ} (c : Circuit) (held : Holds m c) (text : List ℕ) where
  pub refuses : (n : ℕ) → judge (either_tests c text) ≡ refused n → EitherReplayed m text (refused n)
  refuses n e = Operated.refuses c held e

  pub judged : (b : ℕ) (body : List ℕ) {a : Answer Verdict} → read_either c text ≡ some (b, body) → eithers body ≤ 16 → a ≡ gives (verdict (shows c b) body)
      → EitherReplayed m text a
  judged b body e l q =
      subst (EitherReplayed m text) (sym q)
      (Operated.acts c held (passed c text b body e l) (record { bad = b; body = body; reads = e; judged = refl }))

-- the verdict, by what the blocks say
module _ (p : List ℕ → Bool) (w : List ℕ) where
  pub verdict-all : true ≡ all_pass p w → Verdict.all ≡ verdict p w
  unfolding verdict
  verdict-all e = rw (sym e)

  pub verdict-no : false ≡ all_pass p w → true ≡ none_passes p w → Verdict.no ≡ verdict p w
  unfolding verdict
  verdict-no e k = rw (sym e, sym k)

  pub verdict-mixed : false ≡ all_pass p w → false ≡ none_passes p w → Verdict.mixed ≡ verdict p w
  unfolding verdict
  verdict-mixed e k = rw (sym e, sym k)

  -- none passes where every completion fails
  pub none_is : none_passes p w ≡ all_pass (λ u. not (p u)) w
  unfolding none_passes all_pass
  none_is = refl

-- ---- a circuit that is held

module _ {m : List ℕ} {layout : Layout} (held : Holds m (circuit_in m)) (a : LayoutOf m layout) where
  pub counts_of : CountsOf (circuit_in m) layout
  counts_of = record { latches = latches-are held a; inputs = inputs_are held a; bads = omega (arith, a.b-is, bad-count m) }

  pub ready_of : {order : List ℕ} → Ordered (circuit_in m) order → 3072 ≤ length order → Ready m layout order 4097
  ready_of o l = record { held = held; layout_of = a; ordered = o; ranks = l; room = omega (arith, (counts held).max_var, top-is m) }

  pub bad-word : {b : ℕ} → b < length (circuit_in m).bads → b < word m 5
  bad-word l = omega (arith, bad-count m)

-- ---- a witness of the circuit that is held

-- the number of a refusal
abbrev cause : Reading → ℕ
cause (reading.Read start w) = 0
cause (reading.Refused n) = n

abbrev Refusal : Reading → Type 0
Refusal (reading.Read start w) = ⊥
Refusal (reading.Refused n) = Unit {0}

module _ {m text old order : List ℕ} {r : Reading} (z : HeldRead m text old order r) where
  -- a refusal: there is no circuit, or a test of the text refuses
  pub refusal-read : (P : ℕ → Type 0) → (HoldsNone m → P 9)
      → ((n : ℕ) → Holds m (circuit_in m) → judge (either_tests (circuit_in m) text) ≡ refused n → P n)
      → {n : ℕ} → r ≡ reading.Refused n → P n
  refusal-read P f g {n} e = go z.held z.held-is (subst (ReadIn m text z.held) e z.read)
    where
      go : (h : code.Option Layout) → HeldIs m order h → ReadIn m text h (reading.Refused n) → P n
      go (code.Some p) i e = g n i.1 e
      go code.None i e = subst P (sym (ap cause e)) (f i)

  -- a witness: what is asked of its body
  pub posed-read : 3072 ≤ length order → {start : ℕ} {w : Instance} → r ≡ reading.Read start w
      → Posed m order w (drop start text) 4097 × Placed (circuit_in m) text start w.q
  posed-read l {start} {w} e = go z.held z.held-is (subst (ReadIn m text z.held) e z.read)
    where
      go : (h : code.Option Layout) → HeldIs m order h → ReadIn m text h (reading.Read start w)
          → Posed m order w (drop start text) 4097 × Placed (circuit_in m) text start w.q
      go (code.Some p) i e = (
        record {
          ready = subst (λ (y : Layout). Ready m y order 4097) (sym e.0) (ready_of i.1 i.0 i.2 l);
          bad = bad-word i.1 i.0 e.1.bad;
          fits = e.1.fits;
        },
        e.1,
      )
      go code.None i e = absurd (subst Refusal (sym e) tt)
