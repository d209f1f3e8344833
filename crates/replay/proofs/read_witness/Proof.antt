-- `replay::read_witness` meets its contract. Assumes nothing.
use mathlib.Core.Path.{◌≡◌, refl, sym, ap, ◌∙◌, subst}
use mathlib.Core.List.{List}
use mathlib.Core.Option.{some}
use Prim.Native.Nat.{ℕ, ◌-◌, ◌<◌}
use native.Mathlib.Omega.{arith}
use borrow.Author.Rules.{rules}
use lib.ListN.{length, take, drop}
use Rattle.completions.specs.Either.{heading, completion, eithers}
use Rattle.completions.specs.Forms.{SameForm}
use Rattle.witness.specs.Heading.{Within}
use Rattle.replay.proofs.Heads.{on_read, on-malformed}
use Rattle.replay.specs.Texts.{FramesRead}
use Rattle.replay.specs.declared.Rows.TheVariants as rows
use Rattle.replay.proofs.Answers.{no-heading, no_body, no-bad, too_many, was_read, zero-form, body-fits, rest-is}
use Rattle.replay.proofs.read_witness.Statement.{statement}
use Rattle.replay.proofs.read_witness.Tie as tie

-- after line `b`: the entry, b, and where the body begins
module _ (k : tie.In-Read) where
  abbrev S : tie.Start
  S = k.before.before.before

  abbrev text : List ℕ
  text = S.args.text.now

  abbrev bad : ℕ
  bad = k.in-Read.b

  abbrev start : ℕ
  start = k.in-Read.start

  headed : (heading text ≡ some (bad, drop start text)) × Within text bad start
  headed = on_read k.read_heading.ensures k.in-Read.is

-- after the frames: what was read of the body
module _ (r : tie.After-read_frames) where
  abbrev h : tie.In-Read
  h = r.before.before.before

  abbrev body : List ℕ
  body = drop (start h) (text h)

  frames-read : (u : List ℕ) → SameForm body u → FramesRead (S h).args.layout.l (S h).args.layout.i u r.read_frames.result
  frames-read =
      subst (λ (w : List ℕ). (u : List ℕ) → SameForm w u → FramesRead (S h).args.layout.l (S h).args.layout.i u r.read_frames.result)
      (rest-is (text h) (start h)) r.read_frames.ensures

returns : tie.Need-returns-in_default
returns c = λ d k. no-heading d c.args.text.now (on-malformed c.read_heading.ensures c.in_default.is)

returns-2 : tie.Need-returns-then-layout-b
returns-2 c = λ d k.
    no-bad d (text c.before) (bad c.before) (drop (start c.before) (text c.before)) (headed c.before).0 (omega (arith, c.if-layout-b.true, k.bads))

sub-body : tie.Need-slice_bounds-body-count
sub-body c = (headed c.before).1.inside

part-body-start : tie.Need-slice_bounds-body-start
part-body-start c = (headed c.before).1.inside

returns-3 : tie.Need-returns-in_default-read_frames
returns-3 c = λ d k.
    let z = subst (FramesRead (S (h c.before)).args.layout.l (S (h c.before)).args.layout.i (completion 0 (body c.before))) c.in_default-read_frames.is (frames-read c.before (completion 0 (body c.before)) (zero-form (body c.before))) in
    no_body d (text (h c.before)) (bad (h c.before)) (body c.before) (headed (h c.before)).0 (z d k.latches k.inputs (bad (h c.before)))

-- the x are counted: what follows from that
module _ (n : tie.After-count_eithers-eithers) where
  abbrev r : tie.After-read_frames
  r = n.before.before

  abbrev frames : ℕ
  frames = n.in-Read-read_frames.frames

  framed : (u : List ℕ) → SameForm (body r) u → FramesRead (S (h r)).args.layout.l (S (h r)).args.layout.i u (rows.Read frames)
  framed u s = subst (FramesRead (S (h r)).args.layout.l (S (h r)).args.layout.i u) n.in-Read-read_frames.is (frames-read r u s)

  counted : n.count_eithers-eithers.result ≡ eithers (body r)
  counted = n.count_eithers-eithers.ensures ∙ ap eithers (rest-is (text (h r)) (start (h r)))

  below : bad (h r) < (S (h r)).args.layout.b
  below = omega (arith, r.if-layout-b.false)

returns-4 : tie.Need-returns-then-eithers-gt16
returns-4 c = λ d k.
    let z = (framed c.before (completion 0 (body (r c.before))) (zero-form (body (r c.before)))).reads d k.latches k.inputs (bad (h (r c.before))) (omega (arith, below c.before, k.bads)) in
    too_many d (text (h (r c.before))) (bad (h (r c.before))) (body (r c.before)) (was_read d (text (h (r c.before))) (bad (h (r c.before))) (body (r c.before)) (headed (h (r c.before))).0 _ z.reads)
    (omega (arith, counted c.before, c.if-eithers-gt16.true))

returns-5 : tie.Need-returns
returns-5 c = λ d k.
    let b : bad (h (r c.before)) < length d.bads = omega (arith, below c.before, k.bads) in
    let z = (framed c.before (completion 0 (body (r c.before))) (zero-form (body (r c.before)))).reads d k.latches k.inputs (bad (h (r c.before))) b in (
      refl,
      record {
        inside = (headed (h (r c.before))).1.inside;
        bad = b;
        reads = was_read d (text (h (r c.before))) (bad (h (r c.before))) (body (r c.before)) (headed (h (r c.before))).0 _ z.reads;
        fits =
            body-fits d (bad (h (r c.before))) (S (h (r c.before))).args.layout.l (S (h (r c.before))).args.layout.i (frames c.before) c.count_eithers-eithers.result
            (body (r c.before))
            k.latches k.inputs b (framed c.before) (counted c.before) (omega (arith, c.if-eithers-gt16.false));
      },
    )

pub read_witness_spec : {M : Type 1} → statement M
read_witness_spec =
    tie.close
    (tie.spec (λ c κs. search rules) (λ c. search rules) (λ c. search rules) returns returns-2 sub-body part-body-start (λ c. search rules) (λ c κs. search rules) (λ c. search rules) (λ c. search rules) returns-3 (λ c κs. search rules) returns-4 returns-5)
