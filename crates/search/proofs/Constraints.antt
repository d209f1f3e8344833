-- Constraints hold in every frame. Clauses 2.5 and 12.4: a witness that a search shows breaks none in any of its frames, and where a
-- circuit
-- has none, hits and answers are those that counting constraints in the frame of the hit alone would give. Assumes nothing.
use mathlib.Core.Path.{◌≡◌, refl, sym, ap, ap₂, ◌∙◌, subst, fun_ext}
use mathlib.Core.Bool.{Bool, true, ◌&&◌}
use mathlib.Core.List.{List, [], Memᴰ}
use Prim.Native.Nat.{ℕ, ◌≤◌, ◌<◌, ◌^◌}
use lib.Dec.{T}
use lib.ListN.{get_or}
use Rattle.aiger.specs.Lists.{every}
use Rattle.aiger.specs.Circuit.{Circuit}
use Rattle.aiger.specs.Frames.{Run, value_at, constrained, allowed, hits, free_bits, run}
use Rattle.aiger.specs.Load.{gives}
use Rattle.aiger.specs.Search.{Question, Outcome, Report, question, permitted, permitted_of, reaches, reaches_in}
use Rattle.aiger.specs.Witness.{witness}
use Rattle.aiger.specs.Memory.{Holds}
use Rattle.aiger.specs.Operations.{Searched, front}
use Rattle.aiger.proofs.Tests.{and_left}
use Rattle.meaning.proofs.Allowed.{constraint-true, unconstrained}
use Rattle.meaning.proofs.Outcomes.{first-witness}
use Rattle.search.specs.Chosen.{chosen}
use Rattle.search.proofs.Theorems.{found-only}

-- ---- a witness that a search shows

-- a sequence that hits breaks no constraint in any frame up to that of the hit
pub reached-allowed : (c : Circuit) (b t x : ℕ) → T (reaches c b t x) → (u l : ℕ) → u ≤ t → Memᴰ l c.constraints
    → T (value_at c (run c t x) u l)
unfolding reaches reaches_in run hits
reached-allowed c b t x h u l k m =
    let r = run c t x in
    constraint-true c r t u l (and_left (allowed c r t) (value_at c r t (get_or c.bads b 0)) h) k m

-- the witness at the front of the output is the run of a sequence in which every constraint is true in every frame
pub witness-allowed : {m w out w' out' : List ℕ} {c : Circuit} {b k D t : ℕ} {o : Report} → Holds m c
    → Searched chosen m b k D w out (gives o) w' out' → o.outcome ≡ Outcome.found t
    → (x : ℕ) × (x < 2 ^ free_bits c t) × (out' ≡ front (witness b (run c t x)) out)
    × ((u l : ℕ) → u ≤ t → Memᴰ l c.constraints → T (value_at c (run c t x) u l))
witness-allowed {out = out} {c = c} {b = b} {t = t} h s e =
    let f = found-only h s e in
    let p = f.0.first in (
      f.0.place,
      p.fits,
      f.1 ∙ ap (λ (text : List ℕ). front text out) (first-witness c b t f.0.place p),
      reached-allowed c b t f.0.place p.hit,
    )

-- ---- circuits without a constraint

-- a hit where the constraints count in its own frame alone
abbrev pub hits_alone : Circuit → ℕ → Run → ℕ → Bool
hits_alone c b r t = constrained c r t && value_at c r t (get_or c.bads b 0)

abbrev pub question_alone : Circuit → ℕ → Question
question_alone c b = record { places = λ t. 2 ^ free_bits c t; hitting = λ t x. hits_alone c b (run c t x) t }

module _ (c : Circuit) (none : c.constraints ≡ []) (b : ℕ) where
  always : (r : Run) (t : ℕ) → constrained c r t ≡ true
  unfolding constrained
  always r t = ap (λ (ls : List ℕ). every (value_at c r t) ls) none

  -- hits are the same
  pub hits-alone : (r : Run) (t : ℕ) → hits c b r t ≡ hits_alone c b r t
  unfolding hits
  hits-alone r t = ap (λ (x : Bool). x && value_at c r t (get_or c.bads b 0)) (unconstrained c r none t ∙ sym (always r t))

  reaches-alone : (t x : ℕ) → reaches c b t x ≡ hits_alone c b (run c t x) t
  unfolding reaches reaches_in run
  reaches-alone t x = hits-alone (run c t x) t

  -- and so are the permitted answers
  pub permitted-alone : (k D : ℕ) (o : Outcome) → permitted c b k D o ≡ permitted_of (question_alone c b) k D o
  permitted-alone k D o =
      ap (λ (h : ℕ → ℕ → Bool). permitted_of (record { places = λ t. 2 ^ free_bits c t; hitting = h }) k D o)
      (fun_ext (λ t. fun_ext (λ x. reaches-alone t x)))
