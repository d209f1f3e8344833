-- The search at a depth as an operation: it answers one thing and writes one text, whatever working memory and output held; its answers say
-- what they say of the circuit in memory; and its tests, one after the other. Clause 12.15. Assumes nothing.
use mathlib.Core.Path.{◌≡◌, refl, sym, ap, ap₂, ◌∙◌, subst}
use mathlib.Core.Bool.{Bool, true, false, cond, ◌&&◌}
use mathlib.Core.List.{List, [], ◌∷◌}
use Prim.Native.Nat.{ℕ, ◌+◌, ◌*◌, ◌^◌, ◌≤◌, ◌<◌}
use lib.Dec.{T, leb, ltb}
use lib.ListN.{length}
use Rattle.aiger.specs.Circuit.{Circuit}
use Rattle.aiger.specs.Frames.{Space, space, size, free_bits, run_in}
use Rattle.aiger.specs.Load.{Answer, refused, gives}
use Rattle.aiger.specs.Memory.{Holds}
use Rattle.aiger.specs.Search.{reaches, first_witness}
use Rattle.aiger.specs.Witness.{witness, witness_length}
use Rattle.aiger.specs.Operations.{Test, front, judge, budget_right}
use Rattle.place_search.proofs.Refused.{judge-pass, judge-fail}
use Rattle.roundtrip.proofs.Determined.{Alike, OneText, acted, operated-same}
use Rattle.never_search.specs.Runs.{freed_space, freed}
use Rattle.never_search.specs.Depth.{Verdict, depth_question, permitted_at, witness_at}
use Rattle.never_search.specs.Operation.{never_tests, shown_at, length_at, NeverReport, NeverEffect, NeverSearched}
use Rattle.never_search.proofs.Freed.{freed-size}
use Rattle.never_search.proofs.Answers.{Opened, opened_out, open-witness, permitted-out, found-witness, never-search}

-- the text that an answer shows
abbrev pub shown_text_at : Circuit → Space → ℕ → ℕ → Verdict → List ℕ
shown_text_at c s b k (Verdict.found t) = witness_at c s b k t
shown_text_at c s b k (Verdict.never j) = []
shown_text_at c s b k (Verdict.opened j) = witness_at c s b k (k + 1)
shown_text_at c s b k (Verdict.spent t R) = []

pub shown-text-at : (c : Circuit) (s : Space) (b k : ℕ) (v : Verdict) (out : List ℕ) → shown_at c s b k v out ≡ front (shown_text_at c s b k v) out
shown-text-at c s b k (Verdict.found t) out = refl
shown-text-at c s b k (Verdict.never j) out = refl
shown-text-at c s b k (Verdict.opened j) out = refl
shown-text-at c s b k (Verdict.spent t R) out = refl

module _ {chosen : Circuit → ℕ → ℕ → ℕ → Verdict} {b k D : ℕ} where
  one-report : (c : Circuit) {out out' : List ℕ} {r r' : NeverReport} {p q : List ℕ × List ℕ} → NeverEffect chosen b k D out c r p
      → NeverEffect chosen b k D out' c r' q → (r ≡ r') × OneText out p.1 out' q.1
  one-report c {out} {out'} {r} {r'} e f =
      let same : r.verdict ≡ r'.verdict = e.chose ∙ sym f.chose in
      let long : r.length ≡ r'.length = e.measured ∙ ap (length_at c b k) same ∙ sym f.measured in (
        λ i. record { verdict = same i; length = long i },
        record {
          text = shown_text_at c (space c) b k r.verdict;
          first = e.shows ∙ shown-text-at c (space c) b k r.verdict out;
          second =
              f.shows ∙ ap (λ (v : Verdict). shown_at c (space c) b k v out') (sym same) ∙ shown-text-at c (space c) b k r.verdict out';
        },
      )

  -- Clause 12.15: two calls answer one thing and write one text, whatever the memories held and whichever of them holds the circuit
  pub never-searched-same : {m m' w w' out out' w₁ w₂ o₁ o₂ : List ℕ} {x y : Answer NeverReport} → Alike m m' → length w ≡ length w'
      → length out ≡ length out' → NeverSearched chosen m b k D w out x w₁ o₁ → NeverSearched chosen m' b k D w' out' y w₂ o₂
      → (x ≡ y) × OneText out o₁ out' o₂
  never-searched-same {out = out} {out' = out'} alike l n s t =
      operated-same (λ (p q : List ℕ × List ℕ). OneText out p.1 out' q.1) alike
      (λ c. ap₂ (λ (i j : ℕ). never_tests c b k D i j) l n)
      (record { text = []; first = refl; second = refl })
      (λ c x y p q e f. one-report c e f)
      s t

  module _ {m w out w' out' : List ℕ} {c : Circuit} {r : NeverReport} (h : Holds m c)
      (s : NeverSearched chosen m b k D w out (gives r) w' out') where
    effect : NeverEffect chosen b k D out c r (w', out')
    effect = (acted h s refl).1

    right : {v : Verdict} → r.verdict ≡ v → T (permitted_at (depth_question c (space c) b k) k D v)
    right e = subst (λ (v : Verdict). T (permitted_at (depth_question c (space c) b k) k D v)) e effect.allowed

    showing : {v : Verdict} → r.verdict ≡ v → out' ≡ shown_at c (space c) b k v out
    showing e = subst (λ (v : Verdict). out' ≡ shown_at c (space c) b k v out) e effect.shows

    -- Clause 12.15: where never is answered no sequence hits at any frame, however late, and no byte is written
    pub never-only : {j : ℕ} → r.verdict ≡ Verdict.never j → ((t x : ℕ) → x < 2 ^ free_bits c t → T (reaches c b t x) → ⊥) × (out' ≡ out)
    never-only {j} e = (never-search c b k D j (right e), showing e)

    -- found shows the first witness of the plain search
    pub found-shows : {t : ℕ} → r.verdict ≡ Verdict.found t → out' ≡ front (first_witness c b t) out
    found-shows {t} e =
        showing e
        ∙ ap (λ (x : List ℕ). front x out) (found-witness c b k t (permitted-out (depth_question c (space c) b k) k D (Verdict.found t) (right e)).0)

    -- open shows the first run of k + 2 frames from any latch values that hits in its last frame alone
    pub open-shows : {j : ℕ} → r.verdict ≡ Verdict.opened j
        → (o : Opened c (space c) b k) × (out' ≡ front (witness b (run_in (freed_space c (space c)) (k + 1) o.place)) out)
    open-shows {j} e =
        let o = opened_out c (space c) b k D j (right e) in
        (o, showing e ∙ ap (λ (x : List ℕ). front x out) (open-witness c (space c) b k o))

-- ---- the tests

module _ (c : Circuit) (b k D room len : ℕ) where
  -- a depth above 254 is 11, also where a plain search with that bound is not refused
  pub depth-refused : ltb b (length c.bads) ≡ true → (leb k 254 && budget_right D) ≡ false → judge (never_tests c b k D room len) ≡ refused 11
  depth-refused e₁ e₂ = judge-pass 10 (ltb b (length c.bads)) _ e₁ ∙ judge-fail 11 (leb k 254 && budget_right D) _ e₂

  -- the size that 12 tests is that of bound k + 1 with every latch counted
  pub size-refused : ltb b (length c.bads) ≡ true → (leb k 254 && budget_right D) ≡ true
      → (let n = (k + 1 + 1) * (length c.inputs + length c.gates + length c.constraints + 1) + length c.latches + 1 in
      (leb n 65536 && leb (16 * n) room) ≡ false)
      → judge (never_tests c b k D room len) ≡ refused 12
  size-refused e₁ e₂ e₃ =
      judge-pass 10 (ltb b (length c.bads)) _ e₁ ∙ judge-pass 11 (leb k 254 && budget_right D) _ e₂
      ∙ judge-fail 12 (leb (size (freed c) (k + 1)) 65536 && leb (16 * size (freed c) (k + 1)) room) _
      (ap (λ (n : ℕ). leb n 65536 && leb (16 * n) room) (freed-size c (k + 1)) ∙ e₃)
