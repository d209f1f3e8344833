-- The stage frame by frame, with a bound. Assumes nothing.
use mathlib.Core.Path.{◌≡◌, refl, sym, ap, ◌∙◌, subst}
use mathlib.Core.List.{List}
use mathlib.Core.Bool.{Bool, true, false, cond}
use Prim.Native.Nat.{ℕ, suc, ◌+◌, ◌-◌, ◌*◌, ◌≤◌, ◌<◌, min}
use native.Mathlib.Nat.{mul-le-mul_right}
use native.Mathlib.Numerals.{add-one}
use native.Mathlib.Omega.{arith}
use borrow.Author.Tests.{le-leb, lt-ltb, le-ltb}
use lib.ListN.{length}
use Rattle.aiger.specs.Circuit.{Circuit}
use Rattle.aiger.specs.Frames.{size}
use Rattle.decision.specs.Reach.{effort}
use Rattle.stages.specs.Endings.{Ending, Cut, Staged, staged_at}
use Rattle.stages.specs.Conflicts.{Verdict, Attempt, attempted, attempts_from, attempt_stage}
use Rattle.stages.proofs.Attempts.{frames-from}
use Rattle.stages.proofs.Choice.{past_bound}
use Rattle.attempts.specs.Attempts.{attempt_of, AttemptIs}
use Rattle.attempts.specs.declared.Tried.{Tried}
use Rattle.attempts.specs.Stage.{effort_at, conflict_stage}

module _ (c : Circuit) (b k D : ℕ) where
  -- what is seen of the frames from t on, where so much of the limit is left
  abbrev pub seen_from : ℕ → ℕ → Cut
  seen_from t left = staged_at k (attempts_from (attempt_of c b) (effort_at c) D (256 - t) t left)

  pub seen_first : (limit first : ℕ) → staged_at k (conflict_stage c b limit first D) ≡ seen_from first limit
  unfolding conflict_stage attempt_stage
  seen_first limit first = refl

  pub seen-past : (t left : ℕ) → k < t → seen_from t left ≡ Cut.none
  seen-past t left l =
      past_bound k t l (attempts_from (attempt_of c b) (effort_at c) D (256 - t) t left) (frames-from (attempt_of c b) (effort_at c) D (256 - t) t left)

  module _ (t left : ℕ) (within : t ≤ k) (small : k ≤ 255) where
    turn : (a : Attempt) → attempt_of c b t (min left (effort_at c t D)) ≡ a
        → attempts_from (attempt_of c b) (effort_at c) D (256 - t) t left
        ≡ attempted a.verdict t (effort_at c t D) left (attempts_from (attempt_of c b) (effort_at c) D (256 - (t + 1)) (t + 1) (left - a.used))
    unfolding attempts_from
    turn a p =
        let e : 256 - t ≡ suc (256 - (t + 1)) = omega arith in
        ap (λ (n : ℕ). attempts_from (attempt_of c b) (effort_at c) D n t left) e
        ∙ ap (λ (a : Attempt). attempted a.verdict t (effort_at c t D) left
        (attempts_from (attempt_of c b) (effort_at c) D (256 - (t + 1)) (suc t) (left - a.used))) p
        ∙ ap (λ (s : ℕ). attempted a.verdict t (effort_at c t D) left
        (attempts_from (attempt_of c b) (effort_at c) D (256 - (t + 1)) s (left - a.used))) (sym (add-one t))

    pub seen-hit : {x u : ℕ} → attempt_of c b t (min left (effort_at c t D)) ≡ record { verdict = Verdict.hit x; used = u } → seen_from t left ≡ Cut.hit t x
    seen-hit {x} {u} p = ap (staged_at k) (turn (record { verdict = Verdict.hit x; used = u }) p) ∙ ap (λ (z : Bool). cond z (Cut.hit t x) Cut.none) (le-leb t k within)

    pub seen-clear : {u : ℕ} → attempt_of c b t (min left (effort_at c t D)) ≡ record { verdict = Verdict.clear; used = u }
        → seen_from t left ≡ seen_from (t + 1) (left - u)
    seen-clear {u} p = ap (staged_at k) (turn (record { verdict = Verdict.clear; used = u }) p)

    -- a frame that is not decided
    pub seen-cut : {u : ℕ} → attempt_of c b t (min left (effort_at c t D)) ≡ record { verdict = Verdict.out; used = u } → effort_at c t D < left
        → seen_from t left ≡ Cut.cut_off t
    seen-cut {u} p l =
        ap (staged_at k) (turn (record { verdict = Verdict.out; used = u }) p
        ∙ ap (λ (z : Bool). cond z (Staged.cut_off t) (Staged.ends (Ending.gave_up t))) (lt-ltb (effort_at c t D) left l))
        ∙ ap (λ (z : Bool). cond z (Cut.cut_off t) Cut.none) (le-leb t k within)

    pub seen-given-up : {u : ℕ} → attempt_of c b t (min left (effort_at c t D)) ≡ record { verdict = Verdict.out; used = u } → left ≤ effort_at c t D
        → seen_from t left ≡ Cut.gave_up t
    seen-given-up {u} p l =
        ap (staged_at k) (turn (record { verdict = Verdict.out; used = u }) p
        ∙ ap (λ (z : Bool). cond z (Staged.cut_off t) (Staged.ends (Ending.gave_up t))) (le-ltb (effort_at c t D) left l))
        ∙ ap (λ (z : Bool). cond z (Cut.gave_up t) Cut.none) (le-leb t k within)

-- ---- what the code asks for

-- the size of an earlier frame is no larger
pub size-within : (c : Circuit) (t k : ℕ) → t ≤ k → size c t ≤ size c k
unfolding size
size-within c t k l =
    let w = length c.inputs + length c.gates + length c.constraints in
    let x : (t + 1) * w ≤ (k + 1) * w = mul-le-mul_right w (omega arith) in
    omega arith

module _ (c : Circuit) (t D : ℕ) {units : ℕ} (is : units ≡ size c t) {most : ℕ} (granted : most ≡ effort units D) where
  pub allowed : most ≡ effort_at c t D
  allowed = granted ∙ ap (λ (n : ℕ). effort n D) is

  pub asked : {e : ℕ} (left : ℕ) → e ≡ min left most → e ≡ min left (effort_at c t D)
  asked left p = p ∙ ap (min left) allowed

-- the answer on frame t is the variant that the match found
pub answered : (c : Circuit) (b t : ℕ) {e f : ℕ} → e ≡ f → (last : List ℕ) {r x : Tried} → AttemptIs c b t e last r → r ≡ x → AttemptIs c b t f last x
answered c b t p last {r} {x} h q = subst (AttemptIs c b t _ last) q (subst (λ (e : ℕ). AttemptIs c b t e last r) p h)
