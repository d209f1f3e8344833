-- Load, and each operation on the circuit that a memory holds, answers and leaves one thing only. Clause 10.1. Assumes nothing.
use mathlib.Core.Path.{◌≡◌, refl, sym, ap, ap₂, ◌∙◌, subst}
use mathlib.Core.Bool.{Bool}
use mathlib.Core.List.{List, [], ◌∷◌}
use mathlib.Core.Option.{Option, none, some}
use Prim.Native.Nat.{ℕ, ◌≤◌}
use native.Mathlib.Omega.{arith}
use borrow.Author.Tests.{le-leb}
use lib.ListN.{length}
use Rattle.aiger.specs.Circuit.{Circuit}
use Rattle.aiger.specs.Load.{Answer, refused, gives, read, ◌>>=◌}
use Rattle.aiger.specs.Witness.{Witness, read_witness, confirms}
use Rattle.aiger.specs.Search.{Outcome, Report, first_witness}
use Rattle.aiger.specs.Write.{count_row, write}
use Rattle.aiger.specs.Memory.{Holds, image}
use Rattle.aiger.specs.Operations.{front, Loaded, Test, judge, Operated, Written, ReplayEffect, Replayed, SearchEffect, Searched, FoldEffect, Folded, shown, search_tests, fold_tests}
use Rattle.roundtrip.proofs.LoadValid.{gives_same, some_same}
use Rattle.roundtrip.proofs.Holding.{one-circuit}

pub refused-same : {A : Type 0} {n k : ℕ} → ◌≡◌ {A = Answer A} (refused n) (refused k) → n ≡ k
refused-same e = cc

pub never : {A : Type 0} {n : ℕ} {a : A} → refused n ≡ gives a → ⊥
never e = let z : ◌≡◌ {A = ℕ} 0 1 = cc in omega arith

-- load answers one thing and leaves one memory
pub loaded-same : {m f m₁ m₂ : List ℕ} {a b : Answer (List ℕ)} → Loaded m f a m₁ → Loaded m f b m₂ → (a ≡ b) × (m₁ ≡ m₂)
loaded-same (Loaded.refuses e) (Loaded.refuses k) = (ap refused (refused-same (sym e ∙ k)), refl)
loaded-same (Loaded.refuses e) (Loaded.stores d k) = absurd (never (sym e ∙ k))
loaded-same (Loaded.stores c e) (Loaded.refuses k) = absurd (never (sym k ∙ e))
loaded-same {m} (Loaded.stores c e) (Loaded.stores d k) =
    let same = gives_same (sym e ∙ k) in
    (ap (λ (x : Circuit). gives (x.max_var ∷ count_row x)) same, ap (λ (x : Circuit). front (image x) m) same)

-- ---- operations on the circuit that a memory holds

-- two memories that hold the same circuit, or both none
pub record Alike (m m' : List ℕ) : Type 0 where
  pub there : (c : Circuit) → Holds m c → Holds m' c
  pub back : (c : Circuit) → Holds m' c → Holds m c

pub alike_self : {m : List ℕ} → Alike m m
alike_self = record { there = λ c h. h; back = λ c h. h }

pub alike-held : {m m' : List ℕ} {c : Circuit} → Holds m c → Holds m' c → Alike m m'
alike-held {m} {m'} h k =
    record { there = λ d g. subst (Holds m') (one-circuit h g) k; back = λ d g. subst (Holds m) (one-circuit k g) h }

-- what an answer says of the circuit that the memory holds: the tests pass and there is the effect, or the first that fails has this number
-- and all is as it was
module _ {A S : Type 0} {m : List ℕ} {c : Circuit} (h : Holds m c) {tests : Circuit → List Test} {lent : S} {effect : Circuit → A → S → Type 0} where
  pub acted : {x : Answer A} {s : S} {a : A} → Operated m tests lent effect x s → x ≡ gives a → (judge (tests c) ≡ gives tt) × effect c a s
  acted (Operated.no_circuit f) e = absurd (f c h)
  acted (Operated.refuses d k t) e = absurd (never e)
  acted {a = a} (Operated.acts d {a = b} {s = s} k t f) e =
      let z = one-circuit k h in (
        sym (ap (λ (x : Circuit). judge (tests x)) z) ∙ t,
        subst (λ (x : Circuit). effect x a s) z (subst (λ (y : A). effect d y s) (gives_same e) f),
      )

  pub refused_as : {x : Answer A} {s : S} {n : ℕ} → Operated m tests lent effect x s → x ≡ refused n → (judge (tests c) ≡ refused n) × (s ≡ lent)
  refused_as (Operated.no_circuit f) e = absurd (f c h)
  refused_as (Operated.refuses d k t) e =
      (sym (ap (λ (x : Circuit). judge (tests x)) (one-circuit k h)) ∙ t ∙ ap refused (refused-same e), refl)
  refused_as (Operated.acts d k t f) e = absurd (never (sym e))

-- Two calls of one operation: the memories hold the same circuit, the tests are the same, what was lent is related by R, and the effect
-- on a circuit has one answer and leaves what R relates. Then the answers are the same, and R relates what is left.
module _ {A S S' : Type 0} (R : S → S' → Type 0) {m m' : List ℕ} (alike : Alike m m') {tests tests' : Circuit → List Test}
    (one : (c : Circuit) → tests c ≡ tests' c) {lent : S} {lent' : S'} (kept : R lent lent') {effect : Circuit → A → S → Type 0}
    {effect' : Circuit → A → S' → Type 0} (unique : (c : Circuit) (a b : A) (s : S) (t : S') → effect c a s → effect' c b t → (a ≡ b) × R s t) where
  tests_same : {c d : Circuit} → Holds m c → Holds m' d → judge (tests c) ≡ judge (tests' d)
  tests_same {c} h k = ap judge (one c) ∙ ap (λ (x : Circuit). judge (tests' x)) (one-circuit (alike.there c h) k)

  pub operated-same : {x y : Answer A} {s : S} {t : S'} → Operated m tests lent effect x s → Operated m' tests' lent' effect' y t → (x ≡ y) × R s t
  operated-same (Operated.no_circuit f) (Operated.no_circuit g) = (refl, kept)
  operated-same (Operated.no_circuit f) (Operated.refuses d k t) = absurd (f d (alike.back d k))
  operated-same (Operated.no_circuit f) (Operated.acts d k t e) = absurd (f d (alike.back d k))
  operated-same (Operated.refuses c h s) (Operated.no_circuit g) = absurd (g c (alike.there c h))
  operated-same (Operated.refuses c h s) (Operated.refuses d k t) = (ap refused (refused-same (sym s ∙ tests_same h k ∙ t)), kept)
  operated-same (Operated.refuses c h s) (Operated.acts d k t e) = absurd (never (sym s ∙ tests_same h k ∙ t))
  operated-same (Operated.acts c h s e) (Operated.no_circuit g) = absurd (g c (alike.there c h))
  operated-same (Operated.acts c h s e) (Operated.refuses d k t) = absurd (never (sym t ∙ sym (tests_same h k) ∙ s))
  operated-same (Operated.acts c {a = a} {s = y} h s e) (Operated.acts d {a = b} {s = z} k t f) =
      let u = unique c a b y z e (subst (λ (x : Circuit). effect' x b z) (sym (one-circuit (alike.there c h) k)) f) in
      (ap gives u.0, u.1)

-- write answers one thing and leaves one output
pub written_same : {m out o₁ o₂ : List ℕ} {a b : Answer ℕ} → Written m out a o₁ → Written m out b o₂ → (a ≡ b) × (o₁ ≡ o₂)
written_same w v =
    operated-same (λ (o p : List ℕ). o ≡ p) alike_self (λ c. refl) refl (λ c a b s t e f. (e.count ∙ sym f.count, e.shows ∙ sym f.shows)) w v

-- a text that fits is written
pub written_in : {m out : List ℕ} (c : Circuit) → Holds m c → length (write c) ≤ length out → Written m out (gives (length (write c))) (front (write c) out)
unfolding judge
written_in {out = out} c h l = Operated.acts c h (rw (le-leb (length (write c)) (length out) l)) (record { count = refl; shows = refl })

-- replay answers one thing
pub replayed-same : {m text : List ℕ} {a b : Answer Bool} → Replayed m text a → Replayed m text b → a ≡ b
replayed-same {text = text} r s =
    (operated-same (λ (o p : Unit {0}). Unit {0}) alike_self (λ c. refl) tt (λ c a b s t e f. (one-judgement c text e f, tt)) r s).0
  where
    one-judgement : (c : Circuit) (t : List ℕ) {x y : Bool} {u v : Unit {0}} → ReplayEffect t c x u → ReplayEffect t c y v → x ≡ y
    one-judgement c t e f = let w : e.witness ≡ f.witness = some_same (sym e.reads ∙ f.reads) in e.judged ∙ ap (confirms c) w ∙ sym f.judged

-- the same text is written at the front of two outputs
pub record OneText (out out₁ out' out₂ : List ℕ) : Type 0 where
  pub text : List ℕ
  pub first : out₁ ≡ front text out
  pub second : out₂ ≡ front text out'

-- the text that an outcome shows
abbrev pub shown_text : Circuit → ℕ → Outcome → List ℕ
shown_text c b (Outcome.found t) = first_witness c b t
shown_text c b (Outcome.none k) = []
shown_text c b (Outcome.spent t) = []

pub shown-text : (c : Circuit) (b : ℕ) (o : Outcome) (out : List ℕ) → shown c b o out ≡ front (shown_text c b o) out
shown-text c b (Outcome.found t) out = refl
shown-text c b (Outcome.none k) out = refl
shown-text c b (Outcome.spent t) out = refl

-- search answers one thing and writes one text, whatever working memory and output held, for all memories that hold one circuit
pub searched-same : {chosen : Circuit → ℕ → ℕ → ℕ → Report} {m m' w w' out out' w₁ w₂ o₁ o₂ : List ℕ} {b k D : ℕ} {x y : Answer Report}
    → Alike m m' → length w ≡ length w' → length out ≡ length out' → Searched chosen m b k D w out x w₁ o₁ → Searched chosen m' b k D w' out' y w₂ o₂
    → (x ≡ y) × OneText out o₁ out' o₂
searched-same {chosen = chosen} {out = out} {out' = out'} {b = b} {k = k} {D = D} alike l n s t =
    operated-same (λ (p q : List ℕ × List ℕ). OneText out p.1 out' q.1) alike
    (λ c. ap₂ (λ (i j : ℕ). search_tests c b k D i j) l n)
    (record { text = []; first = refl; second = refl })
    (λ c a b s t e f. one-outcome c e f)
    s t
  where
    one-outcome : (c : Circuit) {o o' : Report} {p q : List ℕ × List ℕ} → SearchEffect chosen b k D out c o p → SearchEffect chosen b k D out' c o' q
        → (o ≡ o') × OneText out p.1 out' q.1
    one-outcome c {o} {o'} e f =
        let same : o ≡ o' = e.chose ∙ sym f.chose in (
          same,
          record {
            text = shown_text c b o.outcome;
            first = e.shows ∙ shown-text c b o.outcome out;
            second = f.shows ∙ ap (λ (z : Report). shown c b z.outcome out') (sym same) ∙ shown-text c b o.outcome out';
          },
        )

-- fold answers one thing and writes one text, in the same way
pub folded-same : {chosen : Circuit → ℕ → ℕ → Circuit} {m m' w w' out out' w₁ w₂ o₁ o₂ : List ℕ} {b t : ℕ} {x y : Answer ℕ} → Alike m m'
    → length w ≡ length w' → length out ≡ length out' → Folded chosen m b t w out x w₁ o₁ → Folded chosen m' b t w' out' y w₂ o₂
    → (x ≡ y) × OneText out o₁ out' o₂
folded-same {chosen = chosen} {out = out} {out' = out'} {b = b} {t = t} alike l n s u =
    operated-same (λ (p q : List ℕ × List ℕ). OneText out p.1 out' q.1) alike
    (λ c. ap₂ (λ (i j : ℕ). fold_tests c b t i j) l n)
    (record { text = []; first = refl; second = refl })
    (λ c a b p q e f. one-fold c e f)
    s u
  where
    one-fold : (c : Circuit) {i j : ℕ} {p q : List ℕ × List ℕ} → FoldEffect chosen b t out c i p → FoldEffect chosen b t out' c j q
        → (i ≡ j) × OneText out p.1 out' q.1
    one-fold c e f = (e.count ∙ sym f.count, record { text = write (chosen c b t); first = e.shows; second = f.shows })

-- ---- replay as one equation

-- what replay answers for a circuit and what was read
abbrev pub judgement : Circuit → Option Witness → Answer Bool
judgement c w = read 14 w >>= λ x. gives (confirms c x)

pub replayed-in : {m text : List ℕ} (c : Circuit) → Holds m c → Replayed m text (judgement c (read_witness c text))
unfolding judge
replayed-in {m} {text} c h = go (read_witness c text) refl
  where
    go : (o : Option Witness) → read_witness c text ≡ o → Replayed m text (judgement c o)
    go none e = Operated.refuses c {n = 14} h (rw e)
    go (some w) e = Operated.acts c h (rw e) (record { witness = w; reads = e; judged = refl })

pub replayed-out : {m text : List ℕ} {a : Answer Bool} (c : Circuit) → Holds m c → Replayed m text a → a ≡ judgement c (read_witness c text)
replayed-out c h r = replayed-same r (replayed-in c h)
