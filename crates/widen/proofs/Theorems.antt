-- Widening and replay, clause 12.2: a widened witness is answered all, the given one is among its completions, a witness that is not
-- answered all stays as it is, with fewer than 16 `x` no further one can be added, and widening twice is widening once. Assumes nothing.
use mathlib.Core.Path.{◌≡◌, refl, sym, ap, ap₂, ◌∙◌, subst}
use mathlib.Core.Bool.{Bool, true, false}
use mathlib.Core.List.{List, [], ◌∷◌, ◌++◌}
use mathlib.Core.Option.{Option, none, some}
use Prim.Native.Nat.{ℕ, ◌+◌, ◌-◌, ◌≤◌, ◌<◌}
use native.Mathlib.Omega.{arith}
use lib.Dec.{T, leb, leb→le}
use lib.ListN.{length, get_or, set, take, drop, length-append}
use lib.Seq.{take_at}
use Rattle.aiger.specs.Text.{◌>>=◌, ◌>>◌}
use Rattle.aiger.specs.Circuit.{Circuit}
use Rattle.aiger.specs.Load.{Answer, gives}
use Rattle.aiger.specs.Memory.{Holds}
use Rattle.aiger.specs.Operations.{front, need, is_some}
use Rattle.aiger.specs.Witness.{Witness, read_run, confirms}
use Rattle.aiger.proofs.Tests.{T_true, true-T}
use Rattle.roundtrip.proofs.LoadValid.{some_same}
use Rattle.roundtrip.proofs.Determined.{alike_self, operated-same, acted}
use Rattle.limits.proofs.Refusals.{judge-first}
use Rattle.completions.specs.Either.{heading, eithers, completion, all_pass, Verdict, verdict, shows, read_either, widened, widened_text}
use Rattle.completions.specs.Operations.{EitherReplayed, few_eithers, WidenEffect, Widened}
use Rattle.completions.specs.Forms.{Bit, Completes}
use Rattle.completions.proofs.Completions.{completes, all-at}
use Rattle.completions.proofs.Widening.{widened-passes, widened-few, widened-wider, widened-not, widened-full, widened-again, wider-completes}
use Rattle.replay.proofs.Answers.{was_read, judged, verdict-all}
use Rattle.replay.proofs.Plain.{completion-plain, verdict-passes}
use Rattle.widen.proofs.Headings.{Headed, headed}

-- widening answers one thing and leaves one output
pub widened_same : {m text out o₁ o₂ : List ℕ} {a b : Answer ℕ} → Widened m text out a o₁ → Widened m text out b o₂ → (a ≡ b) × (o₁ ≡ o₂)
widened_same {text = text} {out = out} w v =
    operated-same (λ (o p : List ℕ). o ≡ p) alike_self (λ c. refl) refl (λ c a b s t e f. (e.count ∙ sym f.count, one-text c e f)) w v
  where
    one-text : (c : Circuit) {i j : ℕ} {s t : List ℕ} → WidenEffect text out c i s → WidenEffect text out c j t → s ≡ t
    one-text c e f =
        let z : ◌≡◌ {A = ℕ × List ℕ} (e.bad, e.body) (f.bad, f.body) = some_same (sym e.reads ∙ f.reads) in
        e.writes ∙ ap (λ (h : ℕ × List ℕ). front (widened_text c text h) out) z ∙ sym f.writes

-- ---- what was read

pub read-heading : (c : Circuit) (text : List ℕ) (h : ℕ × List ℕ) → read_either c text ≡ some h → heading text ≡ some h
unfolding read_either
read-heading c text h e = go (heading text) e
  where
    read : (k : ℕ × List ℕ) (o : Option Witness) → (o >> some k) ≡ some h → ◌≡◌ {A = Option (ℕ × List ℕ)} (some k) (some h)
    read k none q = let z : ◌≡◌ {A = ℕ} 0 1 = cc in absurd (omega arith)
    read k (some x) q = q

    go : (o : Option (ℕ × List ℕ)) → (o >>= λ k. read_run c k.0 (completion 0 k.1) >> some k) ≡ some h → o ≡ some h
    go none q = let z : ◌≡◌ {A = ℕ} 0 1 = cc in absurd (omega arith)
    go (some k) q = read k (read_run c k.0 (completion 0 k.1)) q

some-run : (c : Circuit) (b : ℕ) (w : List ℕ) → T (shows c b w) → (x : Witness) × (read_run c b w ≡ some x)
unfolding shows
some-run c b w t = go (read_run c b w) refl t
  where
    go : (o : Option Witness) → read_run c b w ≡ o → T (elim o [ none ↦ false | some x ↦ confirms c x ]) → (x : Witness) × (read_run c b w ≡ some x)
    go none e t = absurd t
    go (some x) e t = (x, e)

-- ---- a witness and what widening made of it

-- `lines` are the two lines in front; W is the widened body
pub record Made (c : Circuit) (text new : List ℕ) : Type 0 where
  pub bad : ℕ
  pub body : List ℕ
  pub lines : List ℕ
  pub reads : read_either c text ≡ some (bad, body)
  pub few : eithers body ≤ 16
  pub text-is : text ≡ lines ++ body
  pub again : (g : List ℕ) → heading (lines ++ g) ≡ some (bad, g)
  pub new_is : new ≡ lines ++ widened (shows c bad) body

module _ (c : Circuit) (text : List ℕ) (b : ℕ) (body : List ℕ) (r : read_either c text ≡ some (b, body)) where
  parts : Headed text b body
  parts = headed text b body (read-heading c text (b, body) r)

  sizes : length text ≡ length parts.lines + length body
  sizes = ap length parts.text-is ∙ length-append parts.lines body

  abbrev new_text : List ℕ
  new_text = parts.lines ++ widened (shows c b) body

  new-length : length new_text ≡ length text
  new-length =
      length-append parts.lines (widened (shows c b) body)
      ∙ ap (λ (j : ℕ). length parts.lines + j) (widened-wider (shows c b) body).size
      ∙ sym sizes

  -- a widened witness is its two lines and its widened body
  text-parts : widened_text c text (b, body) ≡ new_text
  unfolding widened_text
  text-parts =
      let n : ℕ = length text - length body in
      let k : length parts.lines ≡ n = omega (arith, sizes) in
      ap (λ (x : List ℕ). x ++ widened (shows c b) body) (ap (take n) parts.text-is ∙ take_at parts.lines body n k)

  -- it is as long as the witness
  pub widened-length : length (widened_text c text (b, body)) ≡ length text
  widened-length = ap length text-parts ∙ new-length

pub made : {m text out out' : List ℕ} {n : ℕ} (c : Circuit) → Holds m c → Widened m text out (gives n) out' → Made c text (take n out')
made {text = text} {out = out} {out' = out'} {n = n} c held w =
    let A = acted held w refl in
    let e = A.1 in
    let H = parts c text e.bad e.body e.reads in
    let N = new_text c text e.bad e.body e.reads in
    let F = (judge-first (need 16 (few_eithers (read_either c text))) _ (judge-first (need 14 (is_some (read_either c text))) _ A.0).1).0 in
    record {
      bad = e.bad;
      body = e.body;
      lines = H.lines;
      reads = e.reads;
      few = leb→le (eithers e.body) 16 (subst (λ (o : Option (ℕ × List ℕ)). T (few_eithers o)) e.reads F);
      text-is = H.text-is;
      again = H.again;
      new_is =
          ap (take n) (e.writes ∙ ap (λ (x : List ℕ). front x out) (text-parts c text e.bad e.body e.reads))
          ∙ take_at N (drop (length N) out) n (new-length c text e.bad e.body e.reads ∙ sym e.count);
    }

module _ {m text new : List ℕ} (c : Circuit) (held : Holds m c) (k : Made c text new) where
  abbrev p : List ℕ → Bool
  p = shows c k.bad

  abbrev W : List ℕ
  W = widened p k.body

  -- replay says all exactly where every completion shows a hit
  all-passes : EitherReplayed m text (gives Verdict.all) → T (all_pass p k.body)
  all-passes r =
      let e = (acted held r refl).1 in
      let z : ◌≡◌ {A = ℕ × List ℕ} (e.bad, e.body) (k.bad, k.body) = some_same (sym e.reads ∙ k.reads) in
      verdict-passes p k.body (sym (e.judged ∙ ap (λ (h : ℕ × List ℕ). verdict (shows c h.0) h.1) z))

  -- what is read of a body after these lines all of whose completions show a hit
  body-read : (g : List ℕ) → T (all_pass p g) → read_either c (k.lines ++ g) ≡ some (k.bad, g)
  body-read g t =
      let s = some-run c k.bad (completion 0 g) (all-at p g t (completion 0 g) (completes 0 g)) in
      was_read c (k.lines ++ g) k.bad g (k.again g) s.0 s.1

  body-all : (g : List ℕ) → T (all_pass p g) → eithers g ≤ 16 → EitherReplayed m (k.lines ++ g) (gives Verdict.all)
  body-all g t l =
      let v : Verdict.all ≡ verdict p g = verdict-all p g (sym (true-T (all_pass p g) t)) in
      judged c held (k.lines ++ g) k.bad g (body-read g t) l (ap gives v)

  -- a widened witness is answered all
  pub widened-all : EitherReplayed m text (gives Verdict.all) → EitherReplayed m new (gives Verdict.all)
  widened-all r =
      let t = all-passes r in
      subst (λ (x : List ℕ). EitherReplayed m x (gives Verdict.all)) (sym k.new_is) (body-all W (widened-passes p k.body t) (widened-few p k.body t k.few))

  -- every completion of the given witness is one of the widened witness
  pub given-completes : (u : List ℕ) → Completes k.body u → Completes W u
  given-completes u q = wider-completes (widened-wider p k.body) q

  -- so is the given witness, where it holds no `x`
  pub given-among : eithers k.body ≡ 0 → Completes W k.body
  given-among e = subst (Completes W) (completion-plain 0 k.body e) (given-completes (completion 0 k.body) (completes 0 k.body))

  -- a witness that is not answered all stays as it is
  pub widened-copied : {v : Verdict} → EitherReplayed m text (gives v) → (v ≡ Verdict.all → ⊥) → new ≡ text
  widened-copied {v} r n = go (all_pass p k.body) refl
    where
      e : (h : T (all_pass p k.body)) → v ≡ Verdict.all
      e h =
          let x = (acted held r refl).1 in
          let z : ◌≡◌ {A = ℕ × List ℕ} (x.bad, x.body) (k.bad, k.body) = some_same (sym x.reads ∙ k.reads) in
          x.judged ∙ ap (λ (h : ℕ × List ℕ). verdict (shows c h.0) h.1) z ∙ sym (verdict-all p k.body (sym (true-T (all_pass p k.body) h)))

      go : (b : Bool) → all_pass p k.body ≡ b → new ≡ text
      go true q = absurd (n (e (T_true q)))
      go false q = k.new_is ∙ ap (λ (x : List ℕ). k.lines ++ x) (widened-not p k.body q) ∙ sym k.text-is

  -- with fewer than 16 `x` a widened witness with one more is not answered all
  pub widened-most : EitherReplayed m text (gives Verdict.all) → eithers W < 16 → (i : ℕ) → Bit (get_or W i 0)
      → EitherReplayed m (k.lines ++ set W i 120) (gives Verdict.all) → ⊥
  widened-most r l i b s =
      let e = (acted held s refl).1 in
      let g : List ℕ = set W i 120 in
      let h : heading (k.lines ++ g) ≡ some (e.bad, e.body) = read-heading c (k.lines ++ g) (e.bad, e.body) e.reads in
      let z : ◌≡◌ {A = ℕ × List ℕ} (e.bad, e.body) (k.bad, g) = some_same (sym h ∙ k.again g) in
      widened-full p k.body (all-passes r) l i b
      (verdict-passes p g (sym (e.judged ∙ ap (λ (h : ℕ × List ℕ). verdict (shows c h.0) h.1) z)))

  -- widening again changes nothing
  pub widened_twice : {last : List ℕ} → Made c new last → last ≡ new
  widened_twice {last} j =
      let h : heading new ≡ some (j.bad, j.body) = read-heading c new (j.bad, j.body) j.reads in
      let z : ◌≡◌ {A = ℕ × List ℕ} (j.bad, j.body) (k.bad, W) = some_same (sym h ∙ ap heading k.new_is ∙ k.again W) in
      let x : widened (shows c j.bad) j.body ≡ j.body =
      ap (λ (h : ℕ × List ℕ). widened (shows c h.0) h.1) z ∙ widened-again p k.body ∙ sym (ap (λ (h : ℕ × List ℕ). h.1) z) in
      j.new_is ∙ ap (λ (y : List ℕ). j.lines ++ y) x ∙ sym j.text-is
