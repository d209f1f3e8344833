-- Waveform answers one thing; its text is never longer than 1,456,223 bytes, so that 13 is never given where so many are lent; for a
-- witness without `x` each wire has its value in the one run; the wire of the witness's bad line is 1 in the last frame where every
-- completion is confirmed. Assumes nothing.
use mathlib.Core.Path.{◌≡◌, refl, sym, ap, ◌∙◌, subst}
use mathlib.Core.Bool.{Bool, true, false, not, cond, ◌&&◌}
use mathlib.Core.List.{List, [], ◌∷◌, ◌++◌, map}
use mathlib.Core.Option.{Option, none, some}
use Prim.Native.Nat.{ℕ, ◌+◌, ◌-◌, ◌^◌, ◌≤◌, ◌<◌}
use native.Mathlib.Decide.{dec_lt}
use native.Mathlib.Omega.{arith}
use borrow.Author.Tests.{le-leb}
use lib.Dec.{T, leb}
use lib.ListN.{length, get_or, length-append, length-map, get_or-append}
use lib.Seq.{get_or-append-add}
use Rattle.aiger.specs.Circuit.{Circuit, Latch}
use Rattle.aiger.specs.Load.{Answer, refused, gives, load}
use Rattle.aiger.specs.Memory.{Holds}
use Rattle.aiger.specs.Frames.{Run, value_at, allowed, hits}
use Rattle.aiger.specs.Operations.{Test, need, is_some, judge}
use Rattle.aiger.specs.Text.{◌>>=◌}
use Rattle.aiger.specs.Witness.{Witness, read_run, read_witness, confirms, agrees}
use Rattle.aiger.proofs.Tests.{true-T}
use Rattle.completions.specs.Either.{heading, eithers, completion, all_pass, Verdict, shows, read_either}
use Rattle.completions.specs.Operations.{few_eithers, EitherReplayed}
use Rattle.completions.proofs.Completions.{completes, all-at}
use Rattle.roundtrip.proofs.Determined.{operated-same, alike_self, acted, refused_as}
use Rattle.roundtrip.proofs.Holding.{held-valid}
use Rattle.roundtrip.proofs.LoadValid.{load-valid}
use Rattle.roundtrip.proofs.LoadWrite.{Counts, counts-fit}
use Rattle.limits.proofs.Refusals.{judge-past}
use Rattle.replay.proofs.Answers.{bad-none, was_read}
use Rattle.replay.proofs.Heads.{heading-read}
use Rattle.replay.proofs.Plain.{run-plain, completion-plain, verdict-passes}
use Rattle.replay.proofs.Shapes.{run-shaped-read, run-bad}
use Rattle.vcd.specs.Text.{Level, level_of, header, samples, dump}
use Rattle.vcd.specs.Wires.{literals, literal_at, name_at}
use Rattle.vcd.proofs.Parts.{dump-length, declarations-most, samples-most}
use Rattle.levels.specs.Levels.{level_over}
use Rattle.levels.proofs.Levels.{over-high}
use Rattle.samples.proofs.Samples.{samples-same}
use Rattle.waveform.specs.Waveform.{is_high, level_at, frame_count, wire_count, waveform, waveform_of, waveform_tests, Waveformed}
use Rattle.waveform_laws.proofs.Twins.{completions-twins, runs-twins}

-- ---- Clause 13.6: one answer

pub waveformed-same : {m text out o₁ o₂ : List ℕ} {only : Bool} {a b : Answer ℕ} → Waveformed m only text out a o₁
    → Waveformed m only text out b o₂
    → (a ≡ b) × (o₁ ≡ o₂)
waveformed-same w v =
    operated-same (λ (o p : List ℕ). o ≡ p) alike_self (λ c. refl) refl
    (λ c a b s t e f. (e.count ∙ sym f.count, e.shows ∙ sym f.shows)) w v

-- ---- the length

-- what is read of a body has at most 256 frames
count-few : (c : Circuit) (b : ℕ) (body : List ℕ) → frame_count c b body ≤ 256
unfolding frame_count
count-few c b body = go (read_run c b (completion 0 body)) refl
  where
    go : (o : Option Witness) → read_run c b (completion 0 body) ≡ o → elim o [ none ↦ 0 | some x ↦ length x.run.rows ] ≤ 256
    go none e = omega arith
    go (some x) e = let s = run-shaped-read c b (completion 0 body) e in omega (arith, s.few, s.shaped.frames)

pub waveform-short : (c : Circuit) (only : Bool) (h : ℕ × List ℕ) → wire_count c only ≤ 1376 → length (waveform c only h) ≤ 1456223
unfolding waveform
waveform-short c only h k =
    let n = wire_count c only in
    let f = frame_count c h.0 h.1 in
    omega (
      arith,
      dump-length (name_at c) n (level_at c h.0 h.1) f,
      declarations-most (name_at c) 0 n,
      samples-most (level_at c h.0 h.1) n k 0 f,
      count-few c h.0 h.1,
    )

wires-few : (c : Circuit) (only : Bool) → Counts c → wire_count c only ≤ 1376
unfolding literals
wires-few c true n = omega (arith, n.inputs)
wires-few c false n =
    simp (length-append, length-map) (omega (arith, n.inputs, n.latches, n.outputs, n.bads, n.constraints))

text-short : (c : Circuit) (only : Bool) (o : Option (ℕ × List ℕ)) → Counts c → length (waveform_of c only o) ≤ 1456223
unfolding waveform_of
text-short c only none n = omega arith
text-short c only (some h) n = waveform-short c only h (wires-few c only n)

-- the tests never give 13 where the output has 1,456,223 bytes
tests-suffice : (c : Circuit) (only : Bool) (text : List ℕ) (len : ℕ) → Counts c → 1456223 ≤ len → judge
    (waveform_tests c only text len) ≡ refused 13 → ⊥
unfolding judge
tests-suffice c only text len n h e =
    let o = read_either c text in
    let p = le-leb (length (waveform_of c only o)) len (omega (arith, text-short c only o n)) in
    let room : Test = need 13 (leb (length (waveform_of c only o)) len) in
    let few : Test = need 16 (few_eithers o) in
    let x = judge-past (need 14 (is_some o)) (few ∷ room ∷ []) 13 (λ z. omega (arith, z)) e in
    let y = judge-past few (room ∷ []) 13 (λ z. omega (arith, z)) x.1 in
    last (leb (length (waveform_of c only o)) len) p y.1
  where
    last : (q : Bool) → q ≡ true → judge (need 13 q ∷ []) ≡ refused 13 → ⊥
    last true f z = let b : ◌≡◌ {A = ℕ} 0 1 = cc in absurd (omega arith)
    last false f z = let b : ◌≡◌ {A = ℕ} 0 1 = cc in absurd (omega arith)

-- so 13 is never given where so many bytes are lent
pub never-short : {m text out out' : List ℕ} {only : Bool} {a : Answer ℕ} (c : Circuit) → Holds m c → 1456223 ≤ length out
    → Waveformed m only text out a out' → a ≡ refused 13 → ⊥
never-short {m} {text} {out} {out'} {only} c k h w e =
    tests-suffice c only text (length out) (counts-fit c (held-valid k).fit) h (refused_as k w e).0

-- nor by the program waveform, which lends 1,572,928 bytes, on any file that it loads into its 33,032 words
pub program-suffices : (f : List ℕ) {c : Circuit} (only : Bool) (text : List ℕ) → load 33032 f ≡ gives c
    → judge (waveform_tests c only text 1572928) ≡ refused 13 → ⊥
program-suffices f {c} only text e = tests-suffice c only text 1572928 (counts-fit c (load-valid f e).fit) (omega arith)

-- ---- Clause 13.3: a witness without `x`

one-level : (p : ℕ → Bool) → level_over 1 p ≡ level_of (p 0)
unfolding level_over
one-level p = go (p 0)
  where
    go : (b : Bool) → cond (true && b) Level.high (cond (true && not b) Level.low Level.either) ≡ level_of b
    go true = refl
    go false = refl

-- the text of one run
abbrev pub run_text : Circuit → Bool → Run → List ℕ
run_text c only r = dump (name_at c) (wire_count c only) (λ t k. level_of (value_at c r t (literal_at c k))) (length r.rows)

module _ (c : Circuit) (b : ℕ) (body : List ℕ) (w : Witness) (e : read_run c b body ≡ some w) where
  plain : completion 0 body ≡ body
  plain = completion-plain 0 body (run-plain c b body w e)

  plain-high : (t k : ℕ) → is_high c b t k (completion 0 body) ≡ value_at c w.run t (literal_at c k)
  unfolding is_high
  plain-high t k =
      ap (λ (u : List ℕ). elim (read_run c b u) [ none ↦ false | some x ↦ value_at c x.run t (literal_at c k) ]) plain
      ∙ ap (λ (o : Option Witness). elim o [ none ↦ false | some x ↦ value_at c x.run t (literal_at c k) ]) e

  plain-level : (t k : ℕ) → level_at c b body t k ≡ level_of (value_at c w.run t (literal_at c k))
  unfolding level_at
  plain-level t k =
      ap (λ (n : ℕ). level_over (2 ^ n) (λ v. is_high c b t k (completion v body))) (run-plain c b body w e)
      ∙ one-level (λ v. is_high c b t k (completion v body)) ∙ ap level_of (plain-high t k)

  plain-frames : frame_count c b body ≡ length w.run.rows
  unfolding frame_count
  plain-frames =
      ap (λ (u : List ℕ). elim (read_run c b u) [ none ↦ 0 | some x ↦ length x.run.rows ]) plain
      ∙ ap (λ (o : Option Witness). elim o [ none ↦ 0 | some x ↦ length x.run.rows ]) e

  plain-text : (only : Bool) → waveform c only (b, body) ≡ run_text c only w.run
  unfolding waveform dump
  plain-text only =
      let level : ℕ → ℕ → Level = λ t k. level_of (value_at c w.run t (literal_at c k)) in
      let n = wire_count c only in
      ap (λ (u : List ℕ). header (name_at c) n ++ u)
      (samples-same (level_at c b body) level n 0 (frame_count c b body) (λ t k _. plain-level t k) ∙ ap (samples level n 0) plain-frames)

-- where the form without `x` reads a witness, the text is that of its one run
pub waveform-plain : (c : Circuit) (only : Bool) (text : List ℕ) (w : Witness) → read_witness c text ≡ some w
    → waveform_of c only (read_either c text) ≡ run_text c only w.run
unfolding waveform_of
waveform-plain c only text w e = go (heading text) refl (sym (heading-read c text) ∙ e)
  where
    go : (h : Option (ℕ × List ℕ)) → heading text ≡ h → (h >>= λ x. read_run c x.0 x.1) ≡ some w
        → waveform_of c only (read_either c text) ≡ run_text c only w.run
    go none q r = let z : ◌≡◌ {A = ℕ} 0 1 = cc in absurd (omega arith)
    go (some (b, body)) q r =
        ap (waveform_of c only) (was_read c text b body q w (ap (read_run c b) (plain c b body w r) ∙ r)) ∙ plain-text c b body w r only

-- ---- Clause 13.9: the hit

-- the number of the wire of bad line b
abbrev pub bad_wire : Circuit → ℕ → ℕ
bad_wire c b = length c.inputs + (length c.latches + (length c.outputs + b))

bad-literal : (c : Circuit) (b : ℕ) → b < length c.bads → literal_at c (bad_wire c b) ≡ get_or c.bads b 0
unfolding literals
bad-literal c b h =
    let lits = map (λ (l : Latch). l.lit) c.latches in
    let rest = c.outputs ++ (c.bads ++ c.constraints) in
    let k = length c.outputs + b in
    let e : length c.latches ≡ length lits = sym (length-map c.latches (λ (l : Latch). l.lit)) in
    get_or-append-add c.inputs (lits ++ rest) (length c.latches + k) 0
    ∙ ap (λ (n : ℕ). get_or (lits ++ rest) (n + k) 0) e ∙ get_or-append-add lits rest k 0
    ∙ get_or-append-add c.outputs (c.bads ++ c.constraints) b 0 ∙ get_or-append c.bads c.constraints 0 b h

both : (a b : Bool) → (a && b) ≡ true → b ≡ true
both true b e = e
both false b e = let z : ◌≡◌ {A = ℕ} 0 1 = cc in absurd (omega arith)

-- a run that is confirmed has the bad line in its last frame
confirmed-bad : (c : Circuit) (w : Witness) → confirms c w ≡ true
    → value_at c w.run (length w.run.rows - 1) (get_or c.bads w.bad 0) ≡ true
unfolding confirms hits
confirmed-bad c w e =
    let t = length w.run.rows - 1 in
    let hit = both (agrees c.latches w.run.start) (allowed c w.run t && value_at c w.run t (get_or c.bads w.bad 0)) e in
    both (allowed c w.run t) (value_at c w.run t (get_or c.bads w.bad 0)) hit

module _ (c : Circuit) (b : ℕ) (body : List ℕ) where
  -- a completion that shows a hit has as many frames as any, and the wire of the bad line is 1 in the last
  high-here : (o p : Option Witness) (v : ℕ) → b < length c.bads → read_run c b (completion 0 body) ≡ o
      → read_run c b (completion v body) ≡ p
      → T (elim o [ none ↦ false | some x ↦ confirms c x ]) → T (elim p [ none ↦ false | some x ↦ confirms c x ])
      → elim p [
        | none ↦ false
        | some x ↦ value_at c x.run (elim o [ none ↦ 0 | some y ↦ length y.run.rows ] - 1)
            (literal_at c (bad_wire c b))
      ] ≡ true
  high-here none p v h e f s t = absurd s
  high-here (some y) none v h e f s t = absurd t
  high-here (some y) (some x) v h e f s t =
      let n : length y.run.rows ≡ length x.run.rows =
      rw (e, f) at (runs-twins c b (completion 0 body) (completion v body) (completions-twins 0 v body)) in
      ap (λ (k : ℕ). value_at c x.run (k - 1) (literal_at c (bad_wire c b))) n
      ∙ ap (value_at c x.run (length x.run.rows - 1)) (bad-literal c b h ∙ ap (λ (k : ℕ). get_or c.bads k 0)
      (sym (run-bad c b (completion v body) x f)))
      ∙ confirmed-bad c x (true-T (confirms c x) t)

  -- a body that shows a hit is one of a bad line that there is
  bad-there : (u : List ℕ) → T (shows c b u) → b < length c.bads
  unfolding shows
  bad-there u t =
      elim (dec_lt b (length c.bads)) [
        | yes l ↦ l
        | no l ↦ absurd (subst (λ (o : Option Witness). T (elim o [ none ↦ false | some x ↦ confirms c x ]))
            (bad-none c b u (omega arith)) t)
      ]

  -- where every completion is confirmed, the wire of the bad line is 1 in the last frame
  pub hit-shown : T (all_pass (shows c b) body) → level_at c b body (frame_count c b body - 1) (bad_wire c b) ≡ Level.high
  unfolding level_at is_high frame_count shows
  hit-shown t =
      let at : (v : ℕ) → T (shows c b (completion v body)) = λ v. all-at (shows c b) body t (completion v body) (completes v body) in
      over-high (2 ^ eithers body) (λ v. is_high c b (frame_count c b body - 1) (bad_wire c b) (completion v body))
      (λ v _. high-here (read_run c b (completion 0 body)) (read_run c b (completion v body)) v (bad-there (completion 0 body) (at 0)) refl
      refl (at 0) (at v))

-- so where replay says all
pub all_shown : {m text : List ℕ} (c : Circuit) → Holds m c → EitherReplayed m text (gives Verdict.all)
    → (h : ℕ × List ℕ) × (read_either c text ≡ some h) × (level_at c h.0 h.1 (frame_count c h.0 h.1 - 1)
    (bad_wire c h.0) ≡ Level.high)
all_shown c k r =
    let e = (acted k r refl).1 in
    ((e.bad, e.body), e.reads, hit-shown c e.bad e.body (verdict-passes (shows c e.bad) e.body (sym e.judged)))
