-- What an effort finds of a frame is so, and is found with every larger effort; the stage that goes frame by frame is one that the list of
-- stages may have. Assumes nothing.
use mathlib.Core.Path.{◌≡◌, refl, sym, ap, ◌∙◌, subst}
use mathlib.Core.Bool.{Bool, true, false, cond}
use Prim.Native.Nat.{ℕ, ◌*◌, ◌^◌, ◌≤◌}
use native.Mathlib.Omega.{arith}
use borrow.Author.Tests.{le-leb, leb-true}
use lib.Dec.{leb}
use Rattle.aiger.specs.Circuit.{Circuit}
use Rattle.aiger.specs.Frames.{free_bits, size}
use Rattle.aiger.specs.Search.{Question, question, Decision, reaches}
use Rattle.meaning.proofs.Decisions as decisions
use Rattle.enumeration.specs.Choice.{decision_at}
use Rattle.enumeration.proofs.Laws.{hit-first, clear_none}
use Rattle.unroll.specs.Chosen.{unrolled}
use Rattle.conflicts.specs.Conflicts.{Result}
use Rattle.conflicts.specs.declared.Verdict as conflict
use Rattle.conflicts.specs.declared.Verdict.TheVariants.{Found, Clear, Out}
use Rattle.conflicts.proofs.Theorems.{more-effort}
use Rattle.netlist.specs.Netlist.{net_words, net_of}
use Rattle.solver.specs.Solved.{solved}
use Rattle.decision.specs.Reach.{first_places, effort}
use Rattle.stages.specs.Endings.{NoHit, FirstAt, Sound}
use Rattle.stages.specs.Conflicts.{Verdict, Attempt, VerdictRight, AttemptsSound, Grows}
use Rattle.stages.proofs.Attempts.{stage-right, stage-keeps}
use Rattle.attempts.specs.Attempts.{undecided, whole, by_search, first_or, is_small, cost_of, support_at, nodes_at, all_of, solved_at}
use Rattle.attempts.specs.Attempts.{graph_attempt, attempt_of}
use Rattle.attempts.specs.Stage.{effort_at, conflict_stage}

-- ---- what is found is so

module _ (c : Circuit) (b t : ℕ) where
  first-at : {x : ℕ} → decisions.FirstHit (reaches c b t) (2 ^ free_bits c t) 0 x → FirstAt (question c b) t x
  first-at f = record { fits = f.fits; hits = f.hit; first = λ y l. f.first y (omega arith) l }

  -- what is decided of the first R sequences
  whole-right : (R : ℕ) (d : Decision) → decision_at (question c b) t R ≡ d → (u : ℕ) → VerdictRight (question c b) t (whole d u).verdict
  whole-right R (Decision.hit x) e u = first-at (hit-first (reaches c b t) (2 ^ free_bits c t) 0 R e)
  whole-right R Decision.clear e u = λ x l. clear_none (reaches c b t) (2 ^ free_bits c t) 0 R e x (omega arith) l
  whole-right R Decision.spent e u = tt

  search-right : (v : conflict.Verdict) → VerdictRight (question c b) t (by_search v (all_of c b t)).verdict
  search-right Found = whole-right (2 ^ free_bits c t) (all_of c b t) refl 0
  search-right (Clear used) = whole-right (2 ^ free_bits c t) (all_of c b t) refl used
  search-right Out = tt

  graph-right : (e : ℕ) → VerdictRight (question c b) t (graph_attempt c b t e).verdict
  unfolding graph_attempt
  graph-right e = go (is_small (support_at c b t) (nodes_at c b t)) (leb (cost_of (support_at c b t) (nodes_at c b t)) e)
    where
      go : (small enough : Bool) → VerdictRight (question c b) t
          (cond small (cond enough (whole (all_of c b t) (cost_of (support_at c b t) (nodes_at c b t))) undecided)
          (by_search (solved_at c b t (16 * size c t) e) (all_of c b t))).verdict
      go true true = whole-right (2 ^ free_bits c t) (all_of c b t) refl (cost_of (support_at c b t) (nodes_at c b t))
      go true false = tt
      go false enough = search-right (solved_at c b t (16 * size c t) e)

  attempt-right : (e : ℕ) → VerdictRight (question c b) t (attempt_of c b t e).verdict
  unfolding attempt_of
  attempt-right e = go (decision_at (question c b) t (first_places (free_bits c t))) refl
    where
      go : (d : Decision) → decision_at (question c b) t (first_places (free_bits c t)) ≡ d
          → VerdictRight (question c b) t (first_or d (graph_attempt c b t e)).verdict
      go (Decision.hit x) p = whole-right (first_places (free_bits c t)) (Decision.hit x) p 0
      go Decision.clear p = whole-right (first_places (free_bits c t)) Decision.clear p 0
      go Decision.spent p = graph-right e

  -- ---- a larger effort

  solved-more : (words e g : ℕ) → e ≤ g → (solved_at c b t words e ≡ Out → ⊥) → solved_at c b t words g ≡ solved_at c b t words e
  unfolding solved_at solved
  solved-more words e g l n =
      let o = unrolled c b t in
      let w = net_words (free_bits c t) o.gates o.edge words in
      let net = net_of (free_bits c t) o.gates o.edge words in
      ap (λ (r : Result). r.verdict) (more-effort w net e g l n)

  search-more : (e g : ℕ) → e ≤ g → (v : conflict.Verdict) → solved_at c b t (16 * size c t) e ≡ v
      → ((by_search v (all_of c b t)).verdict ≡ Verdict.out → ⊥) → by_search (solved_at c b t (16 * size c t) g) (all_of c b t) ≡ by_search v (all_of c b t)
  search-more e g l Found p n =
      ap (λ (v : conflict.Verdict). by_search v (all_of c b t))
      (solved-more (16 * size c t) e g l (λ z. let f : Found ≡ Out = sym p ∙ z in let o : ◌≡◌ {A = ℕ} 0 1 = cc in omega arith) ∙ p)
  search-more e g l (Clear used) p n =
      ap (λ (v : conflict.Verdict). by_search v (all_of c b t))
      (solved-more (16 * size c t) e g l (λ z. let f : Clear used ≡ Out = sym p ∙ z in let o : ◌≡◌ {A = ℕ} 0 1 = cc in omega arith) ∙ p)
  search-more e g l Out p n = absurd (n refl)

  graph-more : (e g : ℕ) → e ≤ g → ((graph_attempt c b t e).verdict ≡ Verdict.out → ⊥) → graph_attempt c b t g ≡ graph_attempt c b t e
  unfolding graph_attempt
  graph-more e g l = go (is_small (support_at c b t) (nodes_at c b t)) (leb (cost_of (support_at c b t) (nodes_at c b t)) e) refl
    where
      go : (small enough : Bool) → leb (cost_of (support_at c b t) (nodes_at c b t)) e ≡ enough
          → ((cond small (cond enough (whole (all_of c b t) (cost_of (support_at c b t) (nodes_at c b t))) undecided)
          (by_search (solved_at c b t (16 * size c t) e) (all_of c b t))).verdict ≡ Verdict.out → ⊥)
          → cond small (cond (leb (cost_of (support_at c b t) (nodes_at c b t)) g) (whole (all_of c b t) (cost_of (support_at c b t) (nodes_at c b t))) undecided)
          (by_search (solved_at c b t (16 * size c t) g) (all_of c b t))
          ≡ cond small (cond enough (whole (all_of c b t) (cost_of (support_at c b t) (nodes_at c b t))) undecided)
          (by_search (solved_at c b t (16 * size c t) e) (all_of c b t))
      go true true p n =
          let k = cost_of (support_at c b t) (nodes_at c b t) in
          ap (λ (x : Bool). cond x (whole (all_of c b t) k) undecided) (le-leb k g (omega (arith, leb-true k e p)))
      go true false p n = absurd (n refl)
      go false enough p n = search-more e g l (solved_at c b t (16 * size c t) e) refl n

  attempt-more : (e g : ℕ) → e ≤ g → ((attempt_of c b t e).verdict ≡ Verdict.out → ⊥) → attempt_of c b t g ≡ attempt_of c b t e
  unfolding attempt_of
  attempt-more e g l = go (decision_at (question c b) t (first_places (free_bits c t)))
    where
      go : (d : Decision) → ((first_or d (graph_attempt c b t e)).verdict ≡ Verdict.out → ⊥)
          → first_or d (graph_attempt c b t g) ≡ first_or d (graph_attempt c b t e)
      go (Decision.hit x) n = refl
      go Decision.clear n = refl
      go Decision.spent n = graph-more e g l n

-- ---- the stage

pub attempts-sound : (c : Circuit) (b : ℕ) → AttemptsSound (question c b) (attempt_of c b)
attempts-sound c b = record { right = λ t e. attempt-right c b t e; keeps = λ t e g l n. attempt-more c b t e g l n }

effort-grows : (c : Circuit) → Grows (effort_at c)
unfolding effort
effort-grows c t D E l = omega arith

-- with any limit it is one of the list's
pub conflict-sound : (c : Circuit) (b limit : ℕ) → Sound (question c b) (conflict_stage c b limit)
unfolding conflict_stage
conflict-sound c b limit =
    record {
      right = λ first D l n. stage-right (question c b) (attempt_of c b) (attempts-sound c b) (effort_at c) limit first D l n;
      keeps =
          λ first D E l n m. stage-keeps (question c b) (attempt_of c b) (attempts-sound c b) (effort_at c) (effort-grows c) D E m limit first l n;
    }
