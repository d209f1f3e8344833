-- Decisions on the places of a frame, from what is known of them. Assumes nothing.
use mathlib.Core.Path.{◌≡◌, refl, sym, ap, ◌∙◌, subst}
use mathlib.Core.Bool.{Bool, true, false, cond}
use mathlib.Core.Option.{Option, none, some}
use Prim.Native.Nat.{ℕ, ◌+◌, ◌-◌, ◌*◌, ◌^◌, ◌≤◌, ◌<◌, min, max}
use native.Mathlib.Decide.{ℕ_discrete, dec_lt}
use native.Mathlib.Omega.{arith}
use borrow.Author.Tests.{le-leb, lt-leb, leb-true}
use lib.Pow.{pow_mono}
use lib.Dec.{T, leb, le→leb}
use lib.ListN.{length}
use Rattle.aiger.specs.Circuit.{Circuit}
use Rattle.aiger.specs.Frames.{free_bits, size}
use Rattle.aiger.specs.Search.{Decision, onward, decides, reaches}
use Rattle.never_search.specs.Runs.{question_by, reaches_by}
use Rattle.aiger.proofs.Tests.{and, and_right}
use Rattle.meaning.proofs.Decisions.{Says, decides-in}
use Rattle.enumeration.specs.Choice.{least_below, decided, decision, decision_at}
use Rattle.meaning.proofs.Decisions.{Least, least-below}
use Rattle.enumeration.proofs.Laws.{hit-first, clear_none, spent-first}
use Rattle.support.specs.Counting.{rank, passed}
use Rattle.support.specs.Support.{support}
use Rattle.support.proofs.Counting.{rank-bound, passed-all, passed-most, passed-least, passed-mono}
use Rattle.unroll.specs.Chosen.{unrolled_by}
use Rattle.conflicts.specs.declared.Verdict.{Verdict}
use Rattle.conflicts.specs.declared.Verdict.TheVariants.{Found, Clear, Out}
use Rattle.conflicts.specs.Conflicts.{Result}
use Rattle.conflicts.proofs.Theorems.{more-effort}
use Rattle.netlist.specs.Netlist.{net_words, net_of}
use Rattle.solver.specs.Solved.{solved}
use Rattle.decision.specs.Reach.{effort, searched_by, decided_or, tried_by, reach_by, decision_by, decision_of}

module _ (p : ℕ → Bool) (places R : ℕ) where
  passes : (x : ℕ) → T (p x) → T (onward 0 p x)
  passes x t = and (leb 0 x) (p x) (le→leb 0 x (omega arith)) t

  pub hit-at : (x : ℕ) → x < R → x < places → T (p x) → ((y : ℕ) → y < x → T (p y) → ⊥) → decision p places 0 R ≡ Decision.hit x
  unfolding decision
  hit-at x l f t first = go (least_below (min places (0 + R)) (onward 0 p)) (least-below (onward 0 p) (min places (0 + R)))
    where
      go : (o : Option ℕ) → Least (onward 0 p) (min places (0 + R)) o → decided o (cond (leb places (0 + R)) Decision.clear Decision.spent) ≡ Decision.hit x
      go (some z) h =
          let a : z < x → ⊥ = λ k. first z k (and_right (leb 0 z) (p z) h.1) in
          let b : x < z → ⊥ = λ k. h.2 x k (passes x t) in
          ap Decision.hit (omega arith)
      go none h = absurd (h x (omega arith) (passes x t))

  none-at : ((y : ℕ) → y < min places (0 + R) → T (p y) → ⊥) → decision p places 0 R ≡ cond (leb places (0 + R)) Decision.clear Decision.spent
  unfolding decision
  none-at none_below = go (least_below (min places (0 + R)) (onward 0 p)) (least-below (onward 0 p) (min places (0 + R)))
    where
      go : (o : Option ℕ) → Least (onward 0 p) (min places (0 + R)) o
          → decided o (cond (leb places (0 + R)) Decision.clear Decision.spent) ≡ cond (leb places (0 + R)) Decision.clear Decision.spent
      go (some z) h = absurd (none_below z h.0 (and_right (leb 0 z) (p z) h.1))
      go none h = refl

  pub clear_at : places ≤ R → ((y : ℕ) → y < places → T (p y) → ⊥) → decision p places 0 R ≡ Decision.clear
  clear_at l n =
      none-at (λ y h. n y (omega arith)) ∙ ap (λ (b : Bool). cond b Decision.clear Decision.spent) (le-leb places (0 + R) (omega arith))

  pub spent-at : R < places → ((y : ℕ) → y < R → T (p y) → ⊥) → decision p places 0 R ≡ Decision.spent
  spent-at l n =
      none-at (λ y h. n y (omega arith)) ∙ ap (λ (b : Bool). cond b Decision.clear Decision.spent) (lt-leb places (0 + R) (omega arith))

module _ (alone : Bool) (c : Circuit) (b t D : ℕ) where
  tried-most : tried_by alone c b t D ≤ 2 ^ free_bits c t
  unfolding tried_by
  tried-most = passed-most (support (free_bits c t) (unrolled_by alone c b t).gates (unrolled_by alone c b t).edge) (free_bits c t) (max D 16384)

  pub reach-most : reach_by alone c b t D ≤ 2 ^ free_bits c t
  unfolding reach_by
  reach-most = go (searched_by alone c b t D)
    where
      go : (v : Verdict) → decided_or v (2 ^ free_bits c t) (tried_by alone c b t D) ≤ 2 ^ free_bits c t
      go Found = omega arith
      go (Clear used) = omega arith
      go Out = tried-most

  -- what is tried is passed
  pub reach-tried : tried_by alone c b t D ≤ reach_by alone c b t D
  unfolding reach_by
  reach-tried = go (searched_by alone c b t D)
    where
      go : (v : Verdict) → tried_by alone c b t D ≤ decided_or v (2 ^ free_bits c t) (tried_by alone c b t D)
      go Found = tried-most
      go (Clear used) = tried-most
      go Out = omega arith

  -- the first D sequences, and the first 16,384
  pub reach-least : (min (2 ^ free_bits c t) D ≤ reach_by alone c b t D) × (min (2 ^ free_bits c t) 16384 ≤ reach_by alone c b t D)
  unfolding tried_by
  reach-least =
      let h = passed-least (support (free_bits c t) (unrolled_by alone c b t).gates (unrolled_by alone c b t).edge) (free_bits c t) (max D 16384) in
      (omega (arith, reach-tried), omega (arith, reach-tried))

  -- what is decided says of the frame what a decision with a budget of D says
  pub decision-says : (d : Decision) → decision_by alone c b t D ≡ d → Says (reaches_by alone c b t) (2 ^ free_bits c t) 0 D d
  unfolding decision_by
  decision-says (Decision.hit x) e = hit-first (reaches_by alone c b t) (2 ^ free_bits c t) 0 (reach_by alone c b t D) e
  decision-says Decision.clear e = clear_none (reaches_by alone c b t) (2 ^ free_bits c t) 0 (reach_by alone c b t D) e
  decision-says Decision.spent e =
      let s = spent-first (reaches_by alone c b t) (2 ^ free_bits c t) 0 (reach_by alone c b t D) e in
      record { beyond = omega (arith, s.beyond, reach-least.0); first = λ x f l. s.first x f (omega (arith, s.beyond, reach-least.0)) }

  -- what is decided may be decided with a budget of D
  pub decision-right : T (decides (reaches_by alone c b t) (2 ^ free_bits c t) 0 D (decision_by alone c b t D))
  decision-right = decides-in (reaches_by alone c b t) (2 ^ free_bits c t) 0 D (decision_by alone c b t D) (decision-says (decision_by alone c b t D) refl)

-- ---- what a decision with a smaller budget tells

module _ (p : ℕ → Bool) (places R : ℕ) where
  -- the place of a hit is one that is tried
  pub hit-tried : {x : ℕ} → decision p places 0 R ≡ Decision.hit x → x < min places (0 + R)
  unfolding decision
  hit-tried {x} e = go (least_below (min places (0 + R)) (onward 0 p)) (least-below (onward 0 p) (min places (0 + R))) (leb places (0 + R)) e
    where
      go : (o : Option ℕ) → Least (onward 0 p) (min places (0 + R)) o → (q : Bool) → decided o (cond q Decision.clear Decision.spent) ≡ Decision.hit x → x < min places (0 + R)
      go (some z) h q e = let s : z ≡ x = cc in subst (λ (y : ℕ). y < min places (0 + R)) s h.0
      go none h true e = let z : ◌≡◌ {A = ℕ} 0 1 = cc in absurd (omega arith)
      go none h false e = let z : ◌≡◌ {A = ℕ} 0 1 = cc in absurd (omega arith)

  -- all places are tried where the frame is clear
  pub clear-tried : decision p places 0 R ≡ Decision.clear → places ≤ R
  unfolding decision
  clear-tried e = go (least_below (min places (0 + R)) (onward 0 p)) (leb places (0 + R)) refl e
    where
      go : (o : Option ℕ) (q : Bool) → leb places (0 + R) ≡ q → decided o (cond q Decision.clear Decision.spent) ≡ Decision.clear → places ≤ R
      go (some z) q w e = let z : ◌≡◌ {A = ℕ} 0 1 = cc in absurd (omega arith)
      go none true w e = omega (arith, leb-true places (0 + R) w)
      go none false w e = let z : ◌≡◌ {A = ℕ} 0 1 = cc in absurd (omega arith)

module _ (alone : Bool) (c : Circuit) (b t D : ℕ) where
  -- a first hit among the sequences that are tried on the circuit is what is decided
  pub tried-hit : (F : ℕ) → F ≤ 16384 → {x : ℕ} → decision_at (question_by alone c b) t F ≡ Decision.hit x → decision_by alone c b t D ≡ Decision.hit x
  unfolding decision_by
  tried-hit F few {x} e =
      let places = 2 ^ free_bits c t in
      let l = hit-tried (reaches_by alone c b t) places F e in
      let f = hit-first (reaches_by alone c b t) places 0 F e in
      hit-at (reaches_by alone c b t) places (reach_by alone c b t D) x (omega (arith, (reach-least alone c b t D).1)) f.fits f.hit (λ y h. f.first y (omega arith) h)

  reach-all : 2 ^ free_bits c t ≤ 16384 → reach_by alone c b t D ≡ 2 ^ free_bits c t
  unfolding tried_by
  reach-all h =
      let s = support (free_bits c t) (unrolled_by alone c b t).gates (unrolled_by alone c b t).edge in
      let m : 2 ^ rank s (free_bits c t) ≤ 2 ^ free_bits c t = pow_mono (rank-bound s (free_bits c t)) in
      let e = passed-all s (free_bits c t) (max D 16384) (omega arith) in
      omega (arith, reach-tried alone c b t D, reach-most alone c b t D)

  -- and so is none, where there are no more
  pub tried-clear : (F : ℕ) → F ≤ 16384 → decision_at (question_by alone c b) t F ≡ Decision.clear → decision_by alone c b t D ≡ Decision.clear
  unfolding decision_by
  tried-clear F few e =
      let places = 2 ^ free_bits c t in
      let all = clear-tried (reaches_by alone c b t) places F e in
      clear_at (reaches_by alone c b t) places (reach_by alone c b t D) (omega (arith, reach-all (omega arith)))
      (λ y h. clear_none (reaches_by alone c b t) places 0 F e y (omega arith) h)

-- ---- more budget passes no fewer sequences

effort-more : (units D E : ℕ) → D ≤ E → effort units D ≤ effort units E
unfolding effort
effort-more units D E h = omega arith

-- a frame that the conflict search decides with a budget of D it decides alike with a larger one
pub searched-more : (alone : Bool) (c : Circuit) (b t D E : ℕ) → D ≤ E → (searched_by alone c b t D ≡ Out → ⊥) → searched_by alone c b t E ≡ searched_by alone c b t D
unfolding searched_by solved
searched-more alone c b t D E h n =
    let o = unrolled_by alone c b t in
    let w = net_words (free_bits c t) o.gates o.edge (16 * size c t) in
    let net = net_of (free_bits c t) o.gates o.edge (16 * size c t) in
    ap (λ (r : Result). r.verdict) (more-effort w net (effort (size c t) D) (effort (size c t) E) (effort-more (size c t) D E h) n)

tried-more : (alone : Bool) (c : Circuit) (b t D E : ℕ) → D ≤ E → tried_by alone c b t D ≤ tried_by alone c b t E
unfolding tried_by
tried-more alone c b t D E h =
    passed-mono (support (free_bits c t) (unrolled_by alone c b t).gates (unrolled_by alone c b t).edge) (free_bits c t) (max D 16384) (max E 16384) (omega arith)

pub reach-more : (alone : Bool) (c : Circuit) (b t D E : ℕ) → D ≤ E → reach_by alone c b t D ≤ reach_by alone c b t E
unfolding reach_by
reach-more alone c b t D E h = go (searched_by alone c b t D) refl
  where
    all : (v : Verdict) → searched_by alone c b t D ≡ v → (v ≡ Out → ⊥) → decided_or v (2 ^ free_bits c t) (tried_by alone c b t E) ≤ decided_or (searched_by alone c b t E) (2 ^ free_bits c t) (tried_by alone c b t E)
    all v e n =
        let s : v ≡ searched_by alone c b t E = sym (searched-more alone c b t D E h (λ q. n (sym e ∙ q)) ∙ e) in
        subst (λ (u : Verdict). decided_or v (2 ^ free_bits c t) (tried_by alone c b t E) ≤ decided_or u (2 ^ free_bits c t) (tried_by alone c b t E)) s (omega arith)

    go : (v : Verdict) → searched_by alone c b t D ≡ v
        → decided_or v (2 ^ free_bits c t) (tried_by alone c b t D) ≤ decided_or (searched_by alone c b t E) (2 ^ free_bits c t) (tried_by alone c b t E)
    go Found e = all Found e (λ q. let z : ◌≡◌ {A = ℕ} 0 1 = cc in omega arith)
    go (Clear used) e = all (Clear used) e (λ q. let z : ◌≡◌ {A = ℕ} 0 1 = cc in omega arith)
    go Out e = out (searched_by alone c b t E)
      where
        out : (v : Verdict) → tried_by alone c b t D ≤ decided_or v (2 ^ free_bits c t) (tried_by alone c b t E)
        out Found = tried-most alone c b t D
        out (Clear used) = tried-most alone c b t D
        out Out = tried-more alone c b t D E h

-- Request 13: what is decided of a frame with a budget of D, a first hit or no hit, is decided with every larger one. Which places are scanned
-- before any conflict search is no part of it: where they are all tried, all sequences are passed anyway
pub decision-more : (alone : Bool) (c : Circuit) (b t D E : ℕ) → D ≤ E → (decision_by alone c b t D ≡ Decision.spent → ⊥) → decision_by alone c b t E ≡ decision_by alone c b t D
unfolding decision_by
decision-more alone c b t D E h n = go (decision_at (question_by alone c b) t (reach_by alone c b t D)) refl n
  where
    go : (d : Decision) → decision_at (question_by alone c b) t (reach_by alone c b t D) ≡ d → (d ≡ Decision.spent → ⊥) → decision_at (question_by alone c b) t (reach_by alone c b t E) ≡ d
    go (Decision.hit x) e n =
        let f = hit-first (reaches_by alone c b t) (2 ^ free_bits c t) 0 (reach_by alone c b t D) e in
        hit-at (reaches_by alone c b t) (2 ^ free_bits c t) (reach_by alone c b t E) x
        (omega (arith, hit-tried (reaches_by alone c b t) (2 ^ free_bits c t) (reach_by alone c b t D) e, reach-more alone c b t D E h)) f.fits f.hit
        (λ y l. f.first y (omega arith) l)
    go Decision.clear e n =
        clear_at (reaches_by alone c b t) (2 ^ free_bits c t) (reach_by alone c b t E)
        (omega (arith, clear-tried (reaches_by alone c b t) (2 ^ free_bits c t) (reach_by alone c b t D) e, reach-more alone c b t D E h))
        (λ y l. clear_none (reaches_by alone c b t) (2 ^ free_bits c t) 0 (reach_by alone c b t D) e y (omega arith) l)
    go Decision.spent e n = absurd (n refl)

-- ---- the same of any hit

pub decided-says : (c : Circuit) (b t D : ℕ) (d : Decision) → decision_of c b t D ≡ d → Says (reaches c b t) (2 ^ free_bits c t) 0 D d
decided-says c b t D d e = decision-says false c b t D d e

pub decided-right : (c : Circuit) (b t D : ℕ) → T (decides (reaches c b t) (2 ^ free_bits c t) 0 D (decision_of c b t D))
decided-right c b t D = decision-right false c b t D

pub decided-more : (c : Circuit) (b t D E : ℕ) → D ≤ E → (decision_of c b t D ≡ Decision.spent → ⊥) → decision_of c b t E ≡ decision_of c b t D
decided-more c b t D E h n = decision-more false c b t D E h n
