-- From the graph of the hit to what an effort finds of the frame. Assumes nothing.
use mathlib.Core.Path.{◌≡◌, refl, sym, ap, ap₂, ◌∙◌, subst}
use mathlib.Core.Bool.{Bool, true, false, cond, ◌&&◌}
use mathlib.Core.List.{List, ◌++◌}
use Prim.Native.Nat.{ℕ, ◌+◌, ◌*◌, ◌^◌, ◌≤◌, ◌<◌}
use native.Mathlib.Omega.{arith}
use borrow.Author.Tests.{le-leb, lt-leb}
use lib.Dec.{T, leb}
use lib.ListN.{length, get_or-append}
use Rattle.aiger.specs.Bits.{nonzero}
use Rattle.aiger.specs.Circuit.{Circuit}
use Rattle.aiger.specs.Frames.{free_bits, size}
use Rattle.aiger.specs.Search.{question, Decision, reaches}
use Rattle.enumeration.specs.Choice.{decision_at}
use Rattle.enumeration.specs.Frame.{FreeBits, FrameIs}
use Rattle.enumeration.specs.declared.Frame.{Frame}
use Rattle.enumeration.specs.declared.Frame.TheVariants as F
use Rattle.nodes.specs.Graph.{Pair, nodes}
use Rattle.nodes.specs.Store.{pairs_of}
use Rattle.nodes.specs.Edges.{edge_word}
use Rattle.nodes.proofs.Laws.{nodes-pairs_of}
use Rattle.graph.specs.declared.Made.{Made}
use Rattle.graph.specs.Chosen.{Outcome}
use Rattle.support.specs.Counting.{rank}
use Rattle.support.specs.Support.{support}
use Rattle.support.proofs.Counting.{passed-most}
use Rattle.simulation.specs.Found.{root_at, NoHit, FoundIs}
use Rattle.simulation.specs.declared.Found as scan
use Rattle.simulation.specs.declared.Found.TheVariants as found
use Rattle.unroll.specs.Chosen.{unrolled}
use Rattle.conflicts.specs.declared.Verdict as conflict
use Rattle.conflicts.specs.declared.Verdict.TheVariants.{Found, Clear, Out}
use Rattle.solver.specs.Solved.{solved, SolvedIs}
use Rattle.decision.specs.Reach.{first_places}
use Rattle.decision.specs.Decided.{Prepared}
use Rattle.decision.proofs.Deciding.{hit-at, clear_at}
use Rattle.stages.specs.Conflicts.{Verdict, Attempt}
use Rattle.attempts.specs.Attempts.{undecided, whole, by_search, first_or, is_small, cost_of, support_at, nodes_at, all_of, solved_at}
use Rattle.attempts.specs.Attempts.{graph_attempt, attempt_of, Answers, AttemptIs, GraphIs}
use Rattle.attempts.specs.declared.Tried.{Tried}
use Rattle.attempts.specs.declared.Tried.TheVariants as tried

module _ {c : Circuit} {b t : ℕ} {work : List ℕ} {made : Made} (u : Prepared c b t work made) where
  abbrev n : ℕ
  n = made.graph.free

  abbrev gs : List Pair
  gs = pairs_of work made.graph

  abbrev root : ℕ
  root = edge_word made.edge

  -- the support and the nodes are those of the frame's graph
  pub support-is : rank (support made.graph.free (pairs_of work made.graph) (edge_word made.edge)) made.graph.free ≡ support_at c b t
  unfolding support_at
  support-is = ap₂ (λ (m : ℕ) (o : Outcome). rank (support m o.gates o.edge) m) u.free (sym u.chosen)

  pub nodes-are : made.graph.nodes ≡ nodes_at c b t
  unfolding nodes_at
  nodes-are = sym (nodes-pairs_of work made.graph u.net.sized.leaves) ∙ ap₂ (λ (m : ℕ) (o : Outcome). nodes m o.gates) u.free (sym u.chosen)

  -- what all sequences have
  all-hit : (last : List ℕ) (x : ℕ) → x < 2 ^ n → T (root_at n gs root x) → NoHit n gs root x → FreeBits n x last
      → (all_of c b t ≡ Decision.hit x) × FreeBits (free_bits c t) x last
  all-hit last x l h none bits =
      let p : 2 ^ n ≡ 2 ^ free_bits c t = ap (λ (m : ℕ). 2 ^ m) u.free in
      let k : x < 2 ^ free_bits c t = omega arith in (
        hit-at (reaches c b t) (2 ^ free_bits c t) (2 ^ free_bits c t) x k k (subst T (u.hit x k) h)
            (λ y less w. none y less (subst T (sym (u.hit y (omega arith))) w)),
        subst (λ (m : ℕ). FreeBits m x last) u.free bits,
      )

  all-clear : NoHit n gs root (2 ^ n) → all_of c b t ≡ Decision.clear
  all-clear none =
      let p : 2 ^ n ≡ 2 ^ free_bits c t = ap (λ (m : ℕ). 2 ^ m) u.free in
      clear_at (reaches c b t) (2 ^ free_bits c t) (2 ^ free_bits c t) (omega arith) (λ y l w. none y (omega arith) (subst T (sym (u.hit y l)) w))

  -- the answer to what the scan of all places of the support found
  module _ (s d cost : ℕ) (power : d ≡ 2 ^ s)
      (count : s ≡ rank (support made.graph.free (pairs_of work made.graph) (edge_word made.edge)) made.graph.free)
      (last : List ℕ) (f : scan.Found) (is : FoundIs made.graph.free (pairs_of work made.graph) (edge_word made.edge) d last f) where
    pub scan-hit : f ≡ found.Hit → Answers (whole (all_of c b t) cost) (free_bits c t) last tried.Hit
    scan-hit e =
        let (x, h) = subst (FoundIs n gs root d last) e is in
        let r = all-hit last x (omega (arith, h.below, passed-most (support n gs root) n d)) h.hit h.first h.bits in
        (x, ap (λ (z : Decision). whole z cost) r.0, r.1)

    pub scan-clear : f ≡ found.Clear → Answers (whole (all_of c b t) cost) (free_bits c t) last (tried.Clear cost)
    scan-clear e = ap (λ (z : Decision). whole z cost) (all-clear (subst (FoundIs n gs root d last) e is).1)

    pub scan-spent : f ≡ found.Spent → Answers (whole (all_of c b t) cost) (free_bits c t) last tried.Out
    scan-spent e =
        let h = subst (FoundIs n gs root d last) e is in
        let p : 2 ^ s ≡ 2 ^ rank (support n gs root) n = ap (λ (m : ℕ). 2 ^ m) count in
        absurd (omega (arith, h.0))

  -- the answer to what the conflict search found
  module _ (e : ℕ) (last : List ℕ) (v : conflict.Verdict)
      (is : SolvedIs made.graph.free (pairs_of work made.graph) (edge_word made.edge) work e last v) where
    solved-is : solved n gs root (length work) e ≡ solved_at c b t (length work) e
    unfolding solved_at
    solved-is = ap₂ (λ (m : ℕ) (o : Outcome). solved m o.gates o.edge (length work) e) u.free (sym u.chosen)

    searched-with : (x : conflict.Verdict) → solved n gs root (length work) e ≡ x
        → by_search (solved_at c b t (length work) e) (all_of c b t) ≡ by_search x (all_of c b t)
    searched-with x p = ap (λ (z : conflict.Verdict). by_search z (all_of c b t)) (sym solved-is ∙ p)

    pub search-hit : v ≡ Found → Answers (by_search (solved_at c b t (length work) e) (all_of c b t)) (free_bits c t) last tried.Hit
    search-hit q =
        let (p, (x, f)) = subst (SolvedIs n gs root work e last) q is in
        let h = all-hit last x f.place f.true-there f.first f.bits in
        (x, searched-with Found p ∙ ap (λ (d : Decision). whole d 0) h.0, h.1)

    pub search-clear : (used : ℕ) → v ≡ Clear used
        → Answers (by_search (solved_at c b t (length work) e) (all_of c b t)) (free_bits c t) last (tried.Clear used)
    search-clear used q =
        let (p, f) = subst (SolvedIs n gs root work e last) q is in
        searched-with (Clear used) p ∙ ap (λ (d : Decision). whole d used) (all-clear f)

    pub search-out : v ≡ Out → Answers (by_search (solved_at c b t (length work) e) (all_of c b t)) (free_bits c t) last tried.Out
    search-out q = searched-with Out (subst (SolvedIs n gs root work e last) q is).0

-- ---- which of them it is

-- what the first sequences have is the variant that the match found
pub framed : (c : Circuit) (b t : ℕ) {first : ℕ} → first ≡ first_places (free_bits c t) → (last : List ℕ) {r x : Frame} → FrameIs c b t first last r
    → r ≡ x → FrameIs c b t (first_places (free_bits c t)) last x
framed c b t p last {r} {x} h e = subst (FrameIs c b t (first_places (free_bits c t)) last) e (subst (λ (f : ℕ). FrameIs c b t f last r) p h)

module _ (c : Circuit) (b t e : ℕ) where
  pub same_answer : {a a' : Attempt} → a ≡ a' → (n : ℕ) (work : List ℕ) (r : Tried) → Answers a n work r → Answers a' n work r
  same_answer p n work r h = subst (λ (a : Attempt). Answers a n work r) p h

  module _ (s nodes : ℕ) (support-of : s ≡ support_at c b t) (nodes-of : nodes ≡ nodes_at c b t) where
    pub small-out : is_small s nodes ≡ true → (cost : ℕ) → cost ≡ cost_of s nodes → e < cost → graph_attempt c b t e ≡ undecided
    unfolding graph_attempt
    small-out small cost is less =
        rw (← support-of, ← nodes-of, small, lt-leb (cost_of s nodes) e (subst (λ (x : ℕ). e < x) is less))

    pub small-scan : is_small s nodes ≡ true → (cost : ℕ) → cost ≡ cost_of s nodes → cost ≤ e → whole (all_of c b t) cost ≡ graph_attempt c b t e
    unfolding graph_attempt
    small-scan small cost is enough =
        rw (← support-of, ← nodes-of, small, le-leb (cost_of s nodes) e (subst (λ (x : ℕ). x ≤ e) is enough), is)

    pub large : is_small s nodes ≡ false → (words : ℕ) → words ≡ 16 * size c t
        → by_search (solved_at c b t words e) (all_of c b t) ≡ graph_attempt c b t e
    unfolding graph_attempt
    large small words is = rw (← support-of, ← nodes-of, small, is)

  -- the first sequences decide
  pub first-hit : {x : ℕ} → decision_at (question c b) t (first_places (free_bits c t)) ≡ Decision.hit x
      → attempt_of c b t e ≡ record { verdict = Verdict.hit x; used = 0 }
  unfolding attempt_of
  first-hit p = ap (λ (d : Decision). first_or d (graph_attempt c b t e)) p

  pub first-clear : decision_at (question c b) t (first_places (free_bits c t)) ≡ Decision.clear
      → attempt_of c b t e ≡ record { verdict = Verdict.clear; used = 0 }
  unfolding attempt_of
  first-clear p = ap (λ (d : Decision). first_or d (graph_attempt c b t e)) p

  -- or they do not
  first-spent : decision_at (question c b) t (first_places (free_bits c t)) ≡ Decision.spent → graph_attempt c b t e ≡ attempt_of c b t e
  unfolding attempt_of
  first-spent p = sym (ap (λ (d : Decision). first_or d (graph_attempt c b t e)) p)

  -- in the words of the frame, which are the first ones of working memory
  pub part-answers : decision_at (question c b) t (first_places (free_bits c t)) ≡ Decision.spent → (part rest : List ℕ) (r : Tried)
      → free_bits c t ≤ length part → GraphIs c b t e part r → AttemptIs c b t e (part ++ rest) r
  part-answers p part rest r l h = same_answer (first-spent p) (free_bits c t) (part ++ rest) r (go r h)
    where
      go : (r : Tried) → GraphIs c b t e part r → GraphIs c b t e (part ++ rest) r
      go tried.Hit (x, a, f) = (x, a, λ j k. ap nonzero (get_or-append part rest 0 j (omega arith)) ∙ f j k)
      go (tried.Clear used) a = a
      go tried.Out a = a
