-- What the operation waveform answers, by what was read of the witness and by the length of the text. Assumes nothing.
use mathlib.Core.Path.{◌≡◌, refl, sym, ap, ap₂, ◌∙◌, subst}
use mathlib.Core.Bool.{Bool, true, false, cond}
use mathlib.Core.List.{List, [], ◌∷◌, ◌++◌}
use mathlib.Core.Option.{some}
use Prim.Native.Nat.{ℕ, ◌+◌, ◌≤◌, ◌<◌}
use native.Mathlib.Omega.{arith}
use borrow.Author.Tests.{lt-leb, le-leb}
use lib.Dec.{leb}
use lib.ListN.{length}
use Rattle.aiger.specs.Circuit.{Circuit}
use Rattle.aiger.specs.Load.{refused, gives}
use Rattle.aiger.specs.Memory.{Holds}
use Rattle.aiger.specs.Operations.{front, Test, need, judge, Operated}
use Rattle.completions.specs.Either.{eithers, read_either}
use Rattle.completions.specs.Operations.{either_tests}
use Rattle.layout.specs.Words.{circuit_in}
use Rattle.layout.specs.Layout.{LayoutOf}
use Rattle.layout.specs.declared.Layout.{Layout}
use Rattle.frames.proofs.Places.{inputs_are, latches-are}
use Rattle.limits.proofs.Refusals.{judge-refused, judge-rest}
use Rattle.replay.proofs.Answers.{passed}
use Rattle.output.specs.Output.{put_text, Room, Placed}
use Rattle.output.proofs.Output.{Rest, rest-start, rest-room, rest_more, put_front, last-room, last-placed}
use Rattle.vcd.specs.declared.Name.{Name}
use Rattle.vcd.specs.Text.{Level, header, samples, dump}
use Rattle.vcd.specs.Wires.{literals, name_at, name_in, wires_in, FewWires}
use Rattle.levels.proofs.Wires.{outputs-are, bads-are, constraints-are, wires-are, wires-few}
use Rattle.samples.specs.Passes.{low}
use Rattle.samples.proofs.Samples.{samples-size}
use Rattle.waveform.specs.Waveform.{level_at, frame_count, wire_count, waveform, waveform_of, waveform_tests, WaveformEffect, Waveformed}
use Rattle.waveform.specs.Answer.{answered}
use Rattle.waveform.specs.Blocks.{ShownAs}
use Rattle.waveform.specs.declared.WaveformAnswer.{WaveformAnswer}
use Rattle.waveform.specs.declared.WaveformAnswer.TheVariants.{Length, Refused}

-- ---- the answers

module _ {m : List ℕ} (c : Circuit) (held : Holds m c) (only : Bool) (text out : List ℕ) where
  -- the last test
  abbrev short : Test
  short = need 13 (leb (length (waveform_of c only (read_either c text))) (length out))

  pub refuses : (n : ℕ) → judge (either_tests c text) ≡ refused n → Waveformed m only text out (refused n) out
  refuses n e = Operated.refuses c held (judge-refused (either_tests c text) (short ∷ []) n e)

  module _ (b : ℕ) (body : List ℕ) (e : read_either c text ≡ some (b, body)) (l : eithers body ≤ 16) where
    text_of : waveform_of c only (read_either c text) ≡ waveform c only (b, body)
    unfolding waveform_of
    text_of = ap (waveform_of c only) e

    rest : judge (waveform_tests c only text (length out)) ≡ judge (short ∷ [])
    rest = judge-rest (either_tests c text) (short ∷ []) (passed c text b body e l)

    last-refuses : length out < length (waveform c only (b, body)) → judge (short ∷ []) ≡ refused 13
    unfolding judge
    last-refuses k = rw (text_of, lt-leb (length (waveform c only (b, body))) (length out) k)

    last-passes : length (waveform c only (b, body)) ≤ length out → judge (short ∷ []) ≡ gives tt
    unfolding judge
    last-passes k = rw (text_of, le-leb (length (waveform c only (b, body))) (length out) k)

    pub shown : (r : WaveformAnswer) (out' : List ℕ) → ShownAs c only (b, body) out r out' → Waveformed m only text out (answered r) out'
    shown (Length n) out' (q, f, o) =
        let effect : WaveformEffect only text out c n out' =
        record { count = q ∙ ap length (sym text_of); shows = o ∙ ap (λ (w : List ℕ). front w out) (sym text_of) } in
        Operated.acts c {a = n} {s = out'} held (rest ∙ last-passes (omega (arith, q, f))) effect
    shown (Refused n) out' (q, f, o) =
        subst (λ (k : ℕ). Waveformed m only text out (refused k) out') (sym q)
        (subst (λ (w : List ℕ). Waveformed m only text out (refused 13) w) (sym o) (Operated.refuses c held (rest ∙ last-refuses f)))

-- ---- the text by the layout

wires-within : (only : Bool) (p : Layout) → cond only p.i (wires_in p) ≤ wires_in p
wires-within true p = omega arith
wires-within false p = omega arith

module _ {m : List ℕ} {p : Layout} (h : Holds m (circuit_in m)) (a : LayoutOf m p) where
  names-are : name_in p ≡ name_at (circuit_in m)
  names-are = rw (inputs_are h a, latches-are h a, outputs-are h a, bads-are h a, constraints-are h a)

  module _ (only : Bool) {n : ℕ} (e : n ≡ cond only p.i (wires_in p)) where
    pub few-wires : FewWires p n
    few-wires = record { there = omega (arith, e, wires-within only p); few = wires-few h a }

    count-is : n ≡ wire_count (circuit_in m) only
    count-is = e ∙ ap₂ (λ (x y : ℕ). cond only x y) (inputs_are h a) (wires-are h a)

    pub wires-there : n ≤ length (literals (circuit_in m))
    wires-there = omega (arith, few-wires.there, wires-are h a)

    pub text-is : (b : ℕ) (body : List ℕ) {f : ℕ} → frame_count (circuit_in m) b body ≡ f
        → dump (name_in p) n (level_at (circuit_in m) b body) f ≡ waveform (circuit_in m) only (b, body)
    unfolding waveform
    text-is b body {f} s =
        let level = level_at (circuit_in m) b body in
        ap (λ (name : ℕ → Name). dump name n level f) names-are ∙ ap (λ (k : ℕ). dump (name_at (circuit_in m)) k level f) count-is
        ∙ ap (λ (k : ℕ). dump (name_at (circuit_in m)) (wire_count (circuit_in m) only) level k) (sym s)

-- ---- the text written: the header, and then the samples

module _ (out : List ℕ) (name : ℕ → Name) (n : ℕ) (level : ℕ → ℕ → Level) (f : ℕ) (fits : length (dump name n level f) ≤ length out) where
  space : Room out 0 (dump name n level f)
  space = omega arith

  whole : Rest out 0 (dump name n level f) out 0 (header name n ++ samples level n 0 f)
  unfolding dump
  whole = rest-start out 0 (dump name n level f)

  pub header-room : Room out 0 (header name n)
  header-room = rest-room (header name n) (samples level n 0 f) space whole

  module _ {e₁ : ℕ} {out₁ : List ℕ} (p : Placed out 0 (header name n) e₁ out₁) where
    headed : Rest out 0 (dump name n level f) out₁ e₁ (samples level n 0 f)
    headed = rest_more (header name n) (samples level n 0 f) space whole p

    pub samples-room : Room out₁ e₁ (samples (λ t. low) n 0 f)
    samples-room = omega (arith, last-room (samples level n 0 f) space headed, samples-size level (λ t. low) n 0 f)

    pub all-written : {out₂ : List ℕ} → out₂ ≡ put_text out₁ e₁ (samples level n 0 f) → out₂ ≡ front (dump name n level f) out
    all-written q = (last-placed (samples level n 0 f) space headed (record { past = refl; contents = q })).contents
        ∙ put_front out (dump name n level f)
