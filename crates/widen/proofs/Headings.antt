-- The two lines in front of a witness, with another body after them. Assumes nothing.
use mathlib.Core.Path.{◌≡◌, refl, sym, ap, ap₂, ◌∙◌, subst}
use mathlib.Core.Bool.{Bool, true, false, cond}
use mathlib.Core.List.{List, [], ◌∷◌, ◌++◌, append_assoc}
use mathlib.Core.Option.{Option, none, some}
use Prim.Native.Nat.{ℕ}
use native.Mathlib.Omega.{arith}
use borrow.Author.Tests.{eqb-true}
use lib.Dec.{eqb}
use lib.ListN.{take, drop, take-append-drop}
use Rattle.aiger.specs.Lists.{same}
use Rattle.aiger.specs.Text.{bytes, is_digit, is_number, decimal, span, Token, spaced, ended, malformed, ended_by, token, on_token, when, ◌>>◌}
use Rattle.aiger.proofs.Tests.{T_true}
use Rattle.meaning.proofs.Lists.{same-eq}
use Rattle.completions.specs.Either.{heading}
use Rattle.roundtrip.proofs.WitnessRead.{ended-exact}

-- digits that a line feed ends are the same digits whatever follows it
fed : (f r : List ℕ) → (span f).1 ≡ 10 ∷ r → (f ≡ (span f).0 ++ 10 ∷ r) × ((g : List ℕ) → span ((span f).0 ++ 10 ∷ g) ≡ ((span f).0, 10 ∷ g))
unfolding span
fed [] r e = let z : ◌≡◌ {A = ℕ} 0 1 = cc in absurd (omega arith)
fed (c ∷ f) r e = go (is_digit c) refl e (fed f r)
  where
    go : (b : Bool) → is_digit c ≡ b → (cond {A = List ℕ × List ℕ} b (c ∷ (span f).0, (span f).1) ([], c ∷ f)).1 ≡ 10 ∷ r
        → ((span f).1 ≡ 10 ∷ r → (f ≡ (span f).0 ++ 10 ∷ r) × ((g : List ℕ) → span ((span f).0 ++ 10 ∷ g) ≡ ((span f).0, 10 ∷ g)))
        → (let s = cond {A = List ℕ × List ℕ} b (c ∷ (span f).0, (span f).1) ([], c ∷ f) in (c ∷ f ≡ s.0 ++ 10 ∷ r) × ((g : List ℕ) → span (s.0 ++ 10 ∷ g) ≡ (s.0, 10 ∷ g)))
    go true q k h = (ap (λ (x : List ℕ). c ∷ x) (h k).0, λ g. rw (q, (h k).1 g))
    go false q k h = (k, λ g. refl)

feed : (j : ℕ) (g : List ℕ) → ended_by j (10 ∷ g) ≡ ended j g
unfolding ended_by
feed j g = refl

-- a line with a number, and others that differ after it
record Numbered (f : List ℕ) (n : ℕ) (r : List ℕ) : Type 0 where
  digits : List ℕ
  line : f ≡ digits ++ 10 ∷ r
  again : (g : List ℕ) → token (digits ++ 10 ∷ g) ≡ ended n g

numbered : (f : List ℕ) (n : ℕ) (r : List ℕ) → token f ≡ ended n r → Numbered f n r
unfolding token
numbered f n r e = go (is_number (span f).0) refl e
  where
    go : (b : Bool) → is_number (span f).0 ≡ b → cond b (ended_by (decimal 0 (span f).0) (span f).1) malformed ≡ ended n r → Numbered f n r
    go false q k = let z : ◌≡◌ {A = ℕ} 0 1 = cc in absurd (omega arith)
    go true q k =
        let x = ended-exact (decimal 0 (span f).0) n (span f).1 r k in
        let y = fed f r x.1 in
        record {
          digits = (span f).0;
          line = y.0;
          again = λ g. simp (y.1 g, q) (feed (decimal 0 (span f).0) g ∙ ap (λ (j : ℕ). ended j g) x.0);
        }

-- a text whose heading was read is two lines and what follows; with another body after them the same is read
pub record Headed (w : List ℕ) (b : ℕ) (body : List ℕ) : Type 0 where
  pub lines : List ℕ
  pub text-is : w ≡ lines ++ body
  pub again : (g : List ℕ) → heading (lines ++ g) ≡ some (b, g)

abbrev both : ℕ → List ℕ → Option (ℕ × List ℕ)
both b f = some (b, f)

pub headed : (w : List ℕ) (b : ℕ) (body : List ℕ) → heading w ≡ some (b, body) → Headed w b body
unfolding heading
headed w b body e = go (same (take 3 w) (bytes "1\nb")) refl (token (drop 3 w)) refl e
  where
    go : (t : Bool) → same (take 3 w) (bytes "1\nb") ≡ t → (k : Token) → token (drop 3 w) ≡ k
        → when t >> on_token k (λ b f. none) both ≡ some (b, body) → Headed w b body
    go false p k q z = let y : ◌≡◌ {A = ℕ} 0 1 = cc in absurd (omega arith)
    go true p (spaced n f) q z = let y : ◌≡◌ {A = ℕ} 0 1 = cc in absurd (omega arith)
    go true p malformed q z = let y : ◌≡◌ {A = ℕ} 0 1 = cc in absurd (omega arith)
    go true p (ended n f) q z =
        let r : ◌≡◌ {A = ℕ × List ℕ} (n, f) (b, body) = cc in
        let x : n ≡ b = ap (λ (p : ℕ × List ℕ). p.0) r in
        let y : f ≡ body = ap (λ (p : ℕ × List ℕ). p.1) r in
        let N = numbered (drop 3 w) n f q in
        record {
          lines = bytes "1\nb" ++ (N.digits ++ 10 ∷ []);
          text-is =
              sym (take-append-drop 3 w)
              ∙ ap₂ (λ (s t : List ℕ). s ++ t) (same-eq (take 3 w) (bytes "1\nb") (T_true p)) (N.line ∙ ap (λ (t : List ℕ). N.digits ++ 10 ∷ t) y)
              ∙ simp append_assoc;
          again = λ g. simp (append_assoc, N.again g) (ap (λ (j : ℕ). some (j, g)) x);
        }
