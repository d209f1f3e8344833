-- A witness without `x`: all is then the old yes, and no the old no. Assumes nothing.
use mathlib.Core.Path.{◌≡◌, refl, sym, ap, ap₂, ◌∙◌, subst}
use mathlib.Core.Bool.{Bool, true, false, not, cond, ◌&&◌, ◌||◌}
use mathlib.Core.List.{List, [], ◌∷◌}
use mathlib.Core.Option.{Option, none, some}
use Prim.Native.Nat.{ℕ, zero, suc, ◌+◌, ◌/◌, ◌^◌, ◌≤◌, ◌<◌}
use native.Mathlib.Omega.{arith}
use borrow.Author.Tests.{eq-eqb, ne_eqb, eqb-true, le-leb}
use lib.Dec.{T, eqb, leb, ltb}
use lib.ListN.{length, take, drop}
use Rattle.aiger.specs.Bits.{odd}
use Rattle.aiger.specs.Lists.{same, every_below}
use Rattle.aiger.specs.Text.{bytes, when, ◌>>=◌, ◌>>◌}
use Rattle.aiger.specs.Circuit.{Circuit}
use Rattle.aiger.specs.Witness.{Witness, bits, bit_rows, read_run, read_witness, confirms}
use Rattle.completions.specs.Either.{is_either, eithers, completion, heading, all_pass, none_passes, Verdict, verdict, shows, read_either}
use Rattle.aiger.proofs.Tests.{T_true}
use Rattle.meaning.proofs.Lists.{same-eq}
use Rattle.completions.proofs.Forms.{bit-other, test_bit}
use Rattle.replay.proofs.Heads.{heading-read}
use Rattle.replay.proofs.Answers.{was_read}
use Rattle.replay.proofs.Lines.{rows_end, rows-malformed, rows_more}

-- ---- lines of bits hold no `x`

plain_byte : (c : ℕ) (w : List ℕ) → (c ≡ 120 → ⊥) → eithers (c ∷ w) ≡ eithers w
plain_byte c w n = rw (ne_eqb c 120 n) (omega arith)

-- where a line was read, what is left holds as many
abbrev Line : Option (List Bool × List ℕ) → List ℕ → Type 0
Line none w = Unit {0}
Line (some r) w = eithers w ≡ eithers r.1

bits-plain : (n : ℕ) (w : List ℕ) → Line (bits n w) w
unfolding bits
bits-plain n [] = tt
bits-plain zero (c ∷ w) = go (eqb c 10) refl
  where
    go : (b : Bool) → eqb c 10 ≡ b → Line (when b >> some ([], w)) (c ∷ w)
    go true e = plain_byte c w (λ q. let z : c ≡ 10 = eqb-true c 10 e in omega arith)
    go false e = tt
bits-plain (suc n) (c ∷ w) = go (eqb c 48 || eqb c 49) refl (bits n w) (bits-plain n w)
  where
    go : (b : Bool) → (eqb c 48 || eqb c 49) ≡ b → (o : Option (List Bool × List ℕ)) → Line o w
        → Line (when b >> (o >>= λ r. some (eqb c 49 ∷ r.0, r.1))) (c ∷ w)
    go true e none h = tt
    go true e (some r) h = plain_byte c w (bit-other (test_bit c e)) ∙ h
    go false e o h = tt

abbrev Rows : Option (List (List Bool)) → List ℕ → Type 0
Rows none w = Unit {0}
Rows (some rs) w = eithers w ≡ 0

end-plain : (w : List ℕ) → same w (bytes ".\n") ≡ true → eithers w ≡ 0
end-plain w e = ap eithers (same-eq w (bytes ".\n") (T_true e))

rows-plain : (n most : ℕ) (w : List ℕ) → Rows (bit_rows n most w) w
unfolding bit_rows
rows-plain n zero w = go (same w (bytes ".\n")) refl
  where
    go : (b : Bool) → same w (bytes ".\n") ≡ b → Rows (when b >> some []) w
    go true e = end-plain w e
    go false e = tt
rows-plain n (suc most) w = go (same w (bytes ".\n")) refl (bits n w) refl (bits-plain n w) (rows-plain n most)
  where
    go : (b : Bool) → same w (bytes ".\n") ≡ b → (o : Option (List Bool × List ℕ)) → bits n w ≡ o → Line o w
        → ((f : List ℕ) → Rows (bit_rows n most f) f) → Rows (bit_rows n (suc most) w) w
    go true e o q h k = subst (λ (x : Option (List (List Bool))). Rows x w) (sym (rows_end n w (suc most) e)) (end-plain w e)
    go false e none q h k = subst (λ (x : Option (List (List Bool))). Rows x w) (sym (rows-malformed n w most e q)) tt
    go false e (some r) q h k =
        subst (λ (x : Option (List (List Bool))). Rows x w) (sym (rows_more n w most r.0 r.1 e q)) (more (bit_rows n most r.1) (k r.1))
      where
        more : (o : Option (List (List Bool))) → Rows o r.1 → Rows (o >>= λ rs. some (r.0 ∷ rs)) w
        more none z = tt
        more (some rs) z = h ∙ z

abbrev Read : Option Witness → List ℕ → Type 0
Read none w = Unit {0}
Read (some x) w = eithers w ≡ 0

read_plain : (c : Circuit) (b : ℕ) (f : List ℕ) → Read (read_run c b f) f
unfolding read_run
read_plain c b f = go (ltb b (length c.bads)) (bits (length c.latches) f) (bits-plain (length c.latches) f)
  where
    some-row : (start : List Bool) (rs : List (List Bool)) → eithers f ≡ 0 → (p : Bool)
        → Read (when p >> some (record { bad = b; run = record { start = start; rows = rs } })) f
    some-row start rs h true = h
    some-row start rs h false = tt

    rows : (s : List Bool × List ℕ) → eithers f ≡ eithers s.1 → (o : Option (List (List Bool))) → Rows o s.1
        → Read (o >>= λ rs. when (leb 1 (length rs)) >> some (record { bad = b; run = record { start = s.0; rows = rs } })) f
    rows s h none z = tt
    rows s h (some rs) z = some-row s.0 rs (h ∙ z) (leb 1 (length rs))

    go : (p : Bool) (o : Option (List Bool × List ℕ)) → Line o f
        → Read (when p >> (o >>= λ s. bit_rows (length c.inputs) 256 s.1 >>= λ rs. when (leb 1 (length rs)) >> some (record { bad = b; run = record { start = s.0; rows = rs } }))) f
    go true none h = tt
    go true (some s) h = rows s h (bit_rows (length c.inputs) 256 s.1) (rows-plain (length c.inputs) 256 s.1)
    go false o h = tt

-- what was read after line `b` holds none
pub run-plain : (c : Circuit) (b : ℕ) (w : List ℕ) (x : Witness) → read_run c b w ≡ some x → eithers w ≡ 0
run-plain c b w x e = subst (λ (o : Option Witness). Read o w) e (read_plain c b w)

-- ---- the completions of a text without `x`

pub completion-plain : (v : ℕ) (w : List ℕ) → eithers w ≡ 0 → completion v w ≡ w
unfolding completion
completion-plain v [] e = refl
completion-plain v (c ∷ w) e = go (is_either c) refl (completion-plain v w)
  where
    go : (b : Bool) → is_either c ≡ b → (eithers w ≡ 0 → completion v w ≡ w) → cond b (cond (odd v) 49 48) c ∷ completion (cond b (v / 2) v) w ≡ c ∷ w
    go true q k = absurd (omega (arith, ap (λ (b : Bool). cond {A = ℕ} b 1 0) q))
    go false q k = ap (λ (y : List ℕ). c ∷ y) (k (omega (arith, ap (λ (b : Bool). cond {A = ℕ} b 1 0) q)))

module _ (p : List ℕ → Bool) (w : List ℕ) (e : eithers w ≡ 0) where
  one-completion : (q : List ℕ → Bool) → every_below (2 ^ eithers w) (λ v. q (completion v w)) ≡ q w
  one-completion q =
      ap (λ (n : ℕ). every_below (2 ^ n) (λ v. q (completion v w))) e ∙ ap q (completion-plain 0 w e)

  -- all where it passes, else no
  pub verdict-plain : verdict p w ≡ cond (p w) Verdict.all Verdict.no
  unfolding verdict all_pass none_passes
  verdict-plain =
      ap₂ (λ (x y : Bool). cond x Verdict.all (cond y Verdict.no Verdict.mixed)) (one-completion p) (one-completion (λ u. not (p u)))
      ∙ go (p w)
    where
      go : (b : Bool) → cond b Verdict.all (cond (not b) Verdict.no Verdict.mixed) ≡ cond b Verdict.all Verdict.no
      go true = refl
      go false = refl

-- ---- a witness that the form without `x` reads

shows-read : (c : Circuit) (b : ℕ) (w : List ℕ) (x : Witness) → read_run c b w ≡ some x → shows c b w ≡ confirms c x
unfolding shows
shows-read c b w x e = ap (λ (o : Option Witness). elim o [ none ↦ false | some y ↦ confirms c y ]) e

-- its heading and its body, which holds no `x`
pub record Plain (c : Circuit) (text : List ℕ) (w : Witness) : Type 0 where
  pub bad : ℕ
  pub body : List ℕ
  pub reads : read_either c text ≡ some (bad, body)
  pub none-either : eithers body ≡ 0
  pub shows-it : verdict (shows c bad) body ≡ cond (confirms c w) Verdict.all Verdict.no

by-heading : (c : Circuit) (text : List ℕ) (w : Witness) (h : Option (ℕ × List ℕ)) → heading text ≡ h → (h >>= λ x. read_run c x.0 x.1) ≡ some w
    → Plain c text w
by-heading c text w none e q = let z : ◌≡◌ {A = ℕ} 0 1 = cc in absurd (omega arith)
by-heading c text w (some (b, body)) e q =
    let n : eithers body ≡ 0 = run-plain c b body w q in
    record {
      bad = b;
      body = body;
      reads = was_read c text b body e w (ap (read_run c b) (completion-plain 0 body n) ∙ q);
      none-either = n;
      shows-it = verdict-plain (shows c b) body n ∙ ap (λ (x : Bool). cond x Verdict.all Verdict.no) (shows-read c b body w q);
    }

-- all where it is confirmed, else no
pub plain-read : (c : Circuit) (text : List ℕ) (w : Witness) → read_witness c text ≡ some w → Plain c text w
plain-read c text w e = by-heading c text w (heading text) refl (sym (heading-read c text) ∙ e)

-- where the verdict is all, every completion passes
pub verdict-passes : (p : List ℕ → Bool) (w : List ℕ) → verdict p w ≡ Verdict.all → T (all_pass p w)
unfolding verdict
verdict-passes p w e = go (all_pass p w) (none_passes p w) e
  where
    go : (a b : Bool) → cond a Verdict.all (cond b Verdict.no Verdict.mixed) ≡ Verdict.all → T a
    go true b q = tt
    go false true q = let z : ◌≡◌ {A = ℕ} 0 1 = cc in absurd (omega arith)
    go false false q = let z : ◌≡◌ {A = ℕ} 0 1 = cc in absurd (omega arith)

-- where it is no, none does
pub verdict-none : (p : List ℕ → Bool) (w : List ℕ) → verdict p w ≡ Verdict.no → T (none_passes p w)
unfolding verdict
verdict-none p w e = go (all_pass p w) (none_passes p w) e
  where
    go : (a b : Bool) → cond a Verdict.all (cond b Verdict.no Verdict.mixed) ≡ Verdict.no → T b
    go true b q = let z : ◌≡◌ {A = ℕ} 0 1 = cc in absurd (omega arith)
    go false true q = tt
    go false false q = let z : ◌≡◌ {A = ℕ} 0 1 = cc in absurd (omega arith)
