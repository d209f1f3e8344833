-- Replay, hits and search: replay says all exactly to the witnesses whose completions are hits, so to every witness that a search shows.
-- Clauses 4.1, 4.2 and 12.2. Assumes nothing.
use mathlib.Core.Path.{◌≡◌, refl, sym, ap, ap₂, ◌∙◌, subst}
use mathlib.Core.Bool.{Bool, true, false, cond, ◌&&◌}
use mathlib.Core.List.{List, [], ◌∷◌}
use mathlib.Core.Option.{Option, none, some}
use Prim.Native.Nat.{ℕ, zero, suc, ◌+◌, ◌-◌, ◌^◌, ◌≤◌, ◌<◌}
use native.Mathlib.Nat.{not-suc-le-zero, le_of_suc-le-suc}
use native.Mathlib.Decide.{dec_lt}
use native.Mathlib.Omega.{arith}
use lib.Dec.{T}
use lib.ListN.{length, get_or, get_or-eq_default}
use Rattle.aiger.specs.Circuit.{Circuit}
use Rattle.aiger.specs.Load.{Answer, gives}
use Rattle.aiger.specs.Frames.{Run, free_bits, run, hits, allowed, value_at}
use Rattle.aiger.specs.Search.{question, Outcome, reaches, reaches_in, permitted, first_witness}
use Rattle.aiger.specs.Witness.{Witness, witness, read_run, read_witness, agrees, confirms}
use Rattle.aiger.specs.Memory.{Holds}
use Rattle.aiger.specs.Operations.{Replayed}
use Rattle.completions.specs.Either.{Verdict, eithers, all_pass, shows, verdict, read_either}
use Rattle.completions.specs.Operations.{EitherReplayEffect, EitherReplayed}
use Rattle.aiger.proofs.Tests.{and_left, and_right, true-T, T_true, not-both}
use Rattle.roundtrip.proofs.LoadWrite.{counts-fit}
use Rattle.roundtrip.proofs.Holding.{held-valid}
use Rattle.roundtrip.proofs.Witness.{run-back}
use Rattle.roundtrip.proofs.LoadValid.{some_same}
use Rattle.roundtrip.proofs.Determined.{alike_self, operated-same, acted}
use Rattle.meaning.proofs.Values.{zero-value}
use Rattle.meaning.proofs.Outcomes.{found-out, none_out, first-witness}
use Rattle.meaning.proofs.Sequences.{run-shaped, run-agrees, every-run}
use Rattle.completions.specs.Forms.{Completes}
use Rattle.completions.proofs.Completions.{all-at, all_from, none-at}
use Rattle.replay.proofs.Shapes.{run-shaped-read, run-bad}
use Rattle.replay.proofs.Answers.{judged, verdict-all}
use Rattle.replay.proofs.Plain.{plain-read, verdict-passes, verdict-none}

-- replay answers one thing
pub either_same : {m text : List ℕ} {a b : Answer Verdict} → EitherReplayed m text a → EitherReplayed m text b → a ≡ b
either_same {text = text} r s =
    (operated-same (λ (o p : Unit {0}). Unit {0}) alike_self (λ c. refl) tt (λ c a b s t e f. (one-verdict c e f, tt)) r s).0
  where
    one-verdict : (c : Circuit) {x y : Verdict} {u v : Unit {0}} → EitherReplayEffect text c x u → EitherReplayEffect text c y v → x ≡ y
    one-verdict c e f =
        let z : ◌≡◌ {A = ℕ × List ℕ} (e.bad, e.body) (f.bad, f.body) = some_same (sym e.reads ∙ f.reads) in
        e.judged ∙ ap (λ (h : ℕ × List ℕ). verdict (shows c h.0) h.1) z ∙ sym f.judged

-- a witness that the form without `x` reads is answered all where it is confirmed, else no
pub plain-says : {m text : List ℕ} {a : Answer Verdict} (c : Circuit) → Holds m c → (w : Witness) → read_witness c text ≡ some w → EitherReplayed m text a
    → a ≡ gives (cond (confirms c w) Verdict.all Verdict.no)
plain-says {text = text} c h w e r =
    let p = plain-read c text w e in
    either_same r (judged c h text p.bad p.body p.reads (omega (arith, p.none-either)) refl) ∙ ap gives p.shows-it

-- so for a witness without `x` all is the yes, and no the no, of replay without `x`
pub all-is-yes : {m text : List ℕ} {a : Answer Verdict} {says : Bool} (c : Circuit) → Holds m c → Replayed m text (gives says) → EitherReplayed m text a
    → a ≡ gives (cond says Verdict.all Verdict.no)
all-is-yes {says = says} c h r s =
    let e = (acted h r refl).1 in
    plain-says c h e.witness e.reads s ∙ ap (λ (x : Bool). gives (cond x Verdict.all Verdict.no)) (sym e.judged)

-- ---- all to every hit

module _ {m : List ℕ} (c : Circuit) (h : Holds m c) where
  -- a bad line that is not there is never hit
  bad-below : (b : ℕ) (r : Run) (t : ℕ) → T (hits c b r t) → b < length c.bads
  unfolding hits
  bad-below b r t p =
      let v = held-valid h in
      elim (dec_lt b (length c.bads)) [
        | yes l ↦ l
        | no n ↦
            let e : get_or c.bads b 0 ≡ 0 = get_or-eq_default c.bads 0 {n = b} (omega arith) in
            absurd
            (subst T (ap (value_at c r t) e ∙ zero-value c r t (T_true v.literals) (T_true v.order))
            (and_right (allowed c r t) (value_at c r t (get_or c.bads b 0)) p))
      ]

  -- the run of a sequence that hits is confirmed
  confirms-run : (b t x : ℕ) → T (reaches c b t x) → confirms c (record { bad = b; run = run c t x }) ≡ true
  unfolding confirms reaches reaches_in run
  confirms-run b t x p =
      let e : t + 1 - 1 ≡ t = omega arith in
      let n : length (run c t x).rows - 1 ≡ t = ap (λ (k : ℕ). k - 1) (run-shaped c t x).frames ∙ e in
      rw (true-T (agrees c.latches (run c t x).start) (run-agrees c t x (T_true (held-valid h).literals)), n, true-T (hits c b (run c t x) t) p)

  reach-hit : (b t x : ℕ) → T (reaches c b t x) → T (hits c b (run c t x) t)
  unfolding reaches reaches_in run
  reach-hit b t x p = p

  -- replay says all to the witness of every sequence of at most 256 frames that hits; b is then below B
  pub hit-all : {a : Answer Verdict} (b t x : ℕ) → t ≤ 255 → T (reaches c b t x) → EitherReplayed m (witness b (run c t x)) a → a ≡ gives Verdict.all
  hit-all b t x l p r =
      plain-says c h (record { bad = b; run = run c t x })
      (run-back c b t x (bad-below b (run c t x) t (reach-hit b t x p)) (counts-fit c (held-valid h).fit).bads l) r
      ∙ ap (λ (y : Bool). gives (cond y Verdict.all Verdict.no)) (confirms-run b t x p)

  -- so to every witness that a search shows
  pub shown-all : {a : Answer Verdict} (b k D t : ℕ) → T (permitted c b k D (Outcome.found t)) → t ≤ 255 → EitherReplayed m (first_witness c b t) a
      → a ≡ gives Verdict.all
  shown-all {a} b k D t p l r =
      let f = found-out (question c b) k D t p in
      hit-all b t f.place l f.first.hit (subst (λ (w : List ℕ). EitherReplayed m w a) (first-witness c b t f.place f.first) r)

-- ---- all only where every completion is a hit

-- a body, what follows line `b`, is that of a sequence x of frame t that hits bad line b there
pub record Hit (c : Circuit) (b : ℕ) (body : List ℕ) : Type 0 where
  pub frame : ℕ
  pub sequence : ℕ
  pub few : frame ≤ 255
  pub fits : sequence < 2 ^ free_bits c frame
  pub reached : T (reaches c b frame sequence)
  -- what is read of the body
  pub reads : read_run c b body ≡ some (record { bad = b; run = run c frame sequence })

module _ (c : Circuit) (b : ℕ) (body : List ℕ) where
  -- a body that is confirmed is one of a sequence that hits
  confirmed-hit : (w : Witness) → read_run c b body ≡ some w → w.bad ≡ b → confirms c w ≡ true → Hit c b body
  unfolding confirms reaches reaches_in run
  confirmed-hit w e z k =
      let s = run-shaped-read c b body e in
      let t = s.frame in
      let both : T (agrees c.latches w.run.start && hits c w.bad w.run (length w.run.rows - 1)) = T_true k in
      let x = every-run c t w.run s.shaped (and_left (agrees c.latches w.run.start) (hits c w.bad w.run (length w.run.rows - 1)) both) in
      let last : length w.run.rows - 1 ≡ t = omega (arith, s.shaped.frames) in
      let hit : T (hits c b w.run t) =
      subst (λ (j : ℕ). T (hits c j w.run t)) z
      (subst (λ (n : ℕ). T (hits c w.bad w.run n)) last
      (and_right (agrees c.latches w.run.start) (hits c w.bad w.run (length w.run.rows - 1)) both)) in
      record {
        frame = t;
        sequence = x.0;
        few = s.few;
        fits = x.1;
        reached = subst (λ (r : Run). T (hits c b r t)) (sym x.2) hit;
        reads = e ∙ ap₂ (λ (j : ℕ) (r : Run). some (record { bad = j; run = r })) z (sym x.2);
      }

  by_read : (o : Option Witness) → read_run c b body ≡ o → elim o [ none ↦ false | some x ↦ confirms c x ] ≡ true → Hit c b body
  by_read none e k = let z : ◌≡◌ {A = ℕ} 0 1 = cc in absurd (omega arith)
  by_read (some w) e k = confirmed-hit w e (run-bad c b body w e) k

  -- what a body shows
  pub shows-hit : T (shows c b body) → Hit c b body
  unfolding shows
  shows-hit t = by_read (read_run c b body) refl (true-T (shows c b body) t)

  -- and no search for it up to that frame or further may answer none
  pub hit-not-none : (y : Hit c b body) (k D j : ℕ) → y.frame ≤ k → T (permitted c b k D (Outcome.none j)) → ⊥
  hit-not-none y k D j l p = (none_out (question c b) k D j p).quiet y.frame (omega arith) y.sequence (omega arith) y.fits y.reached

-- replay says all only to a witness each of whose completions is a hit
pub all-hits : {m text : List ℕ} (c : Circuit) → Holds m c → EitherReplayed m text (gives Verdict.all)
    → (h : ℕ × List ℕ) × (read_either c text ≡ some h) × ((u : List ℕ) → Completes h.1 u → Hit c h.0 u)
all-hits c k r =
    let e = (acted k r refl).1 in
    let p = verdict-passes (shows c e.bad) e.body (sym e.judged) in
    ((e.bad, e.body), e.reads, λ u q. shows-hit c e.bad u (all-at (shows c e.bad) e.body p u q))

-- and where each of them shows a hit it says all
pub all-where : {m text : List ℕ} {a : Answer Verdict} (c : Circuit) → Holds m c → EitherReplayed m text a → (b : ℕ) (body : List ℕ)
    → read_either c text ≡ some (b, body) → eithers body ≤ 16 → ((u : List ℕ) → Completes body u → T (shows c b u)) → a ≡ gives Verdict.all
all-where {text = text} c k r b body e l f =
    let v : Verdict.all ≡ verdict (shows c b) body = verdict-all (shows c b) body (sym (true-T (all_pass (shows c b) body) (all_from (shows c b) body f))) in
    either_same r (judged c k text b body e l refl) ∙ ap gives (sym v)

-- no only where none of them is
pub no-hits : {m text : List ℕ} (c : Circuit) → Holds m c → EitherReplayed m text (gives Verdict.no)
    → (h : ℕ × List ℕ) × (read_either c text ≡ some h) × ((u : List ℕ) → Completes h.1 u → T (shows c h.0 u) → ⊥)
no-hits c k r =
    let e = (acted k r refl).1 in
    let p = verdict-none (shows c e.bad) e.body (sym e.judged) in
    ((e.bad, e.body), e.reads, λ u q t. not-both (shows c e.bad u) (none-at (shows c e.bad) e.body p u q) t)
