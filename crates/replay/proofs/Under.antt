-- Replay under pins: what the functions require, and the verdict by what they found. Assumes nothing.
use mathlib.Core.Path.{◌≡◌, refl, sym, ap, ap₂, ◌∙◌, subst}
use mathlib.Core.Bool.{Bool, true, false}
use mathlib.Core.List.{List}
use mathlib.Core.Option.{some}
use Prim.Native.Nat.{ℕ, ◌+◌, ◌*◌, ◌≤◌, ◌<◌}
use native.Mathlib.Omega.{arith}
use lib.ListN.{length, get_or}
use Rattle.aiger.specs.Lists.{every_below}
use Rattle.aiger.specs.Circuit.{Circuit}
use Rattle.aiger.specs.Load.{Answer, refused, gives}
use Rattle.aiger.specs.Memory.{Holds}
use Rattle.aiger.specs.Operations.{judge, Operated}
use Rattle.aiger.proofs.Tests.{T_true}
use Rattle.roundtrip.proofs.LoadWrite.{counts-fit}
use Rattle.roundtrip.proofs.Holding.{held-valid}
use Rattle.layout.specs.Words.{circuit_in}
use Rattle.layout.specs.declared.Layout.{Layout}
use Rattle.frames.specs.Lanes.{Ready}
use Rattle.completions.specs.Either.{eithers, Verdict, verdict, shows, read_either}
use Rattle.completions.specs.Operations.{either_tests}
use Rattle.blocks.specs.Runs.{Fits}
use Rattle.pinned_runs.specs.Obeys.{pinned_shows, PinnedReplayed}
use Rattle.pinned_runs.specs.Places.{place_pin, pin_at, agrees_at, demoted, Settled}
use Rattle.pinned_runs.specs.declared.Rows.{Rows}
use Rattle.pinned_runs.proofs.Bytes.{rows-most}
use Rattle.pinned_runs.proofs.Lengths.{fits-size}
use Rattle.pinned_runs.proofs.Links.{under}
use Rattle.pinned_runs.proofs.Pinned.{settled-form, settled-few}
use Rattle.pinned_runs.proofs.Verdicts.{agree-all, clash-verdict, exact-verdict, loose-verdict}
use Rattle.replay.specs.Answer.{answered, Judged, JudgedUnder, demoted_answer, SettledJudged}
use Rattle.replay.specs.declared.ReplayAnswer.{ReplayAnswer}
use Rattle.replay.specs.declared.ReplayAnswer.TheVariants.{No}
use Rattle.replay.specs.Texts.{CountsOf}
use Rattle.replay.proofs.Answers.{counts_of, passed}

module _ {m : List ℕ} {layout : Layout} {order : List ℕ} {room : ℕ} (R : Ready m layout order room) {b frames count : ℕ} {body : List ℕ}
    (F : Fits (circuit_in m) b frames count body) where
  abbrev c : Circuit
  c = circuit_in m

  counts : CountsOf c layout
  counts = counts_of R.held R.layout_of

  pub rows_fit : (layout.l ≤ 1024) × (layout.i ≤ 256) × (frames ≤ 256)
  rows_fit =
      let k = counts-fit c (held-valid R.held).fit in
      (omega (arith, counts.latches, k.latches), omega (arith, counts.inputs, k.inputs), (fits-size F).1)

  pub body-short : length body ≤ 66825
  body-short =
      let k = counts-fit c (held-valid R.held).fit in
      omega (arith, (fits-size F).0, k.latches, rows-most frames (length c.inputs) (fits-size F).1 k.inputs)

  pub settled-fits : (q : ℕ → ℕ) {s : List ℕ} → Settled (pin_at c q frames) body s → Fits c b frames (eithers s) s
  settled-fits q {s} S =
      record {
        form = λ u h. F.form u (settled-form (pin_at c q frames) body S h);
        some-frame = F.some-frame;
        inside = omega (arith, F.inside, S.size);
        eithers-are = refl;
        few = omega (arith, settled-few (pin_at c q frames) body S, F.eithers-are, F.few);
      }

  module _ (q : ℕ → ℕ) (rows : Rows)
      (e : rows ≡ record { first = layout.l + 1; inputs = layout.i; end = layout.l + 1 + frames * (layout.i + 1) }) where
    pub inputs-few : rows.inputs ≤ 256
    inputs-few = let i : rows.inputs ≡ layout.i = ap (λ (r : Rows). r.inputs) e in omega (arith, rows_fit.1)

    pub pins-are : place_pin q rows.first rows.inputs rows.end ≡ pin_at c q frames
    pins-are =
        ap (λ (r : Rows). place_pin q r.first r.inputs r.end) e
        ∙ ap₂ (λ (l i : ℕ). place_pin q (l + 1) i (l + 1 + frames * (i + 1))) counts.latches counts.inputs

    -- what `agree` says of the body
    abbrev Said : Bool → Bool → Type 0
    Said loose r = r ≡ every_below (length body) (λ k. agrees_at loose (place_pin q rows.first rows.inputs rows.end k) (get_or body k 0))

    said : (loose : Bool) {r : Bool} → Said loose r → every_below (length body) (λ k. agrees_at loose (pin_at c q frames k) (get_or body k 0)) ≡ r
    said loose s = ap (λ (P : ℕ → ℕ). every_below (length body) (λ k. agrees_at loose (P k) (get_or body k 0))) (sym pins-are) ∙ sym s

    pub no_hit : {r : Bool} → Said true r → r ≡ false → JudgedUnder c q b body No
    no_hit s f = ap gives (sym (clash-verdict (under c q b F) (said true s ∙ f)))

    pub as_plain : {r : Bool} (a : ReplayAnswer) → Said false r → r ≡ true → Judged c b body a → JudgedUnder c q b body a
    as_plain a s t j = j ∙ ap gives (sym (exact-verdict (under c q b F) (agree-all (under c q b F) false (T_true (said false s ∙ t)))))

    pub by_copy : {r r' : Bool} (a d : ReplayAnswer) → Said true r → r ≡ true → Said false r' → r' ≡ false → SettledJudged c q b frames body a
        → answered d ≡ demoted_answer (answered a) → JudgedUnder c q b body d
    by_copy a d s t s' f j z =
        z ∙ ap demoted_answer j.judged
        ∙ ap gives (sym (loose-verdict (under c q b F) (agree-all (under c q b F) true (T_true (said true s ∙ t))) (said false s' ∙ f) j.settled))

-- ---- the answers

module _ {m : List ℕ} (c : Circuit) (held : Holds m c) (q : ℕ → ℕ) (text : List ℕ) where
  pub refuses-under : (n : ℕ) → judge (either_tests c text) ≡ refused n → PinnedReplayed m q text (refused n)
  refuses-under n e = Operated.refuses c held e

  pub judged-under : (b : ℕ) (body : List ℕ) {a : Answer Verdict} → read_either c text ≡ some (b, body) → eithers body ≤ 16
      → a ≡ gives (verdict (pinned_shows c q b) body) → PinnedReplayed m q text a
  judged-under b body e l z =
      subst (PinnedReplayed m q text) (sym z)
      (Operated.acts c held (passed c text b body e l) (record { bad = b; body = body; reads = e; judged = refl }))
