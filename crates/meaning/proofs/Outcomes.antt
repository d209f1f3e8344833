-- What a search may answer: each permitted outcome in plain terms, and which outcomes exclude each other. Clauses 3.2, 3.3, 3.4.
-- Assumes nothing.
use mathlib.Core.Path.{◌≡◌, sym, ap, ap₂, ◌∙◌, subst}
use mathlib.Core.Bool.{not, ◌&&◌}
use mathlib.Core.List.Memᴰ
use mathlib.Core.List.{List, [], ◌++◌, map, Memᴰ}
use mathlib.Core.Option.{Option}
use Prim.Native.Nat.{ℕ, ◌+◌, ◌≤◌, ◌<◌, ◌^◌}
use native.Mathlib.Nat.{le_antisymm}
use native.Mathlib.Decide.{dec_le}
use native.Mathlib.Omega.{arith}
use lib.Dec.{T, leb, eqb, leb→le, le→leb, eqb→eq, eqb_refl}
use Rattle.aiger.specs.Lists.{upto}
use Rattle.aiger.specs.Circuit.{Circuit}
use Rattle.aiger.specs.Frames.{free_bits, run}
use Rattle.aiger.specs.Search.{Question, question, Decision, Outcome, decides_at, clear_at, clear_before, permitted_of, reaches, permitted, first_witness}
use Rattle.aiger.specs.Witness.{witness}
use Rattle.aiger.specs.Examples.{outcomes}
use Rattle.aiger.proofs.Tests.{and, and_left, and_right, below_at, below_all}
use Rattle.meaning.proofs.Lists.{upto-in}
use Rattle.meaning.proofs.Decisions.{NoneFrom, FirstHit, Exceeded, clear-out, clear_in, decides-out, decides-in, first-same, first-from, not-clear, hit-clear}

-- the outcome is not spent
abbrev pub Decided : Outcome → Type 0
Decided (Outcome.found t) = Unit {0}
Decided (Outcome.none k) = Unit {0}
Decided (Outcome.spent t) = ⊥

module _ (q : Question) where
  -- none of the first d sequences of frame t hits
  abbrev pub Clear : ℕ → ℕ → Type 0
  Clear t d = NoneFrom (q.hitting t) 0 d

  -- no frame before t has a hit
  abbrev pub Quiet : ℕ → Type 0
  Quiet t = (u : ℕ) → u < t → Clear u (q.places u)

  -- the test in plain terms, out and in
  pub before-out : (t : ℕ) → T (clear_before q t) → Quiet t
  before-out t h u l = clear-out (q.hitting u) 0 (q.places u) (below_at t (clear_at q) h u l)

  pub before-in : (t : ℕ) → Quiet t → T (clear_before q t)
  before-in t h = below_all t (clear_at q) (λ u l. clear_in (q.hitting u) 0 (q.places u) (h u l))

  -- found t: t is the first frame with a hit, and `place` is the first hit there
  pub record Found (k t : ℕ) : Type 0 where
    pub within : t ≤ k
    pub quiet : Quiet t
    pub place : ℕ
    pub first : FirstHit (q.hitting t) (q.places t) 0 place

  -- none j: the bound is j, and no frame up to it has a hit
  pub record None (k j : ℕ) : Type 0 where
    pub bound : j ≡ k
    pub quiet : Quiet (k + 1)

  -- spent t: no frame before t has a hit, frame t has more than D sequences, and none of the first D hits
  pub record Spent (k D t : ℕ) : Type 0 where
    pub within : t ≤ k
    pub quiet : Quiet t
    pub first : Exceeded (q.hitting t) (q.places t) 0 D

  module _ (k D : ℕ) where
    -- a permitted found is a Found, and the other way round
    pub found-out : (t : ℕ) → T (permitted_of q k D (Outcome.found t)) → Found k t
    unfolding permitted_of
    found-out t h =
        let p1 = leb t k in
        let p2 = clear_before q t in
        let p3 = not (clear_at q t) in
        let h2 = and_left (p1 && p2) p3 h in
        let f = not-clear (q.hitting t) (q.places t) 0 (and_right (p1 && p2) p3 h) in
        record { within = leb→le t k (and_left p1 p2 h2); quiet = before-out t (and_right p1 p2 h2); place = f.0; first = f.1 }

    pub found_in : (t : ℕ) → Found k t → T (permitted_of q k D (Outcome.found t))
    unfolding permitted_of
    found_in t f =
        let p1 = leb t k in
        let p2 = clear_before q t in
        and (p1 && p2) (not (clear_at q t)) (and p1 p2 (le→leb t k f.within) (before-in t f.quiet)) (hit-clear (q.hitting t) f.first)

    -- a permitted none is a None, and the other way round
    pub none_out : (j : ℕ) → T (permitted_of q k D (Outcome.none j)) → None k j
    unfolding permitted_of
    none_out j h =
        let p1 = eqb j k in
        let p2 = clear_before q (k + 1) in
        record { bound = eqb→eq j k (and_left p1 p2 h); quiet = before-out (k + 1) (and_right p1 p2 h) }

    pub none_in : (j : ℕ) → None k j → T (permitted_of q k D (Outcome.none j))
    unfolding permitted_of
    none_in j n = and (eqb j k) (clear_before q (k + 1)) (subst (λ (i : ℕ). T (eqb j i)) n.bound (eqb_refl j)) (before-in (k + 1) n.quiet)

    -- a permitted spent is a Spent, and the other way round: in particular 2 to the power n exceeds D and none of the first D hits
    pub spent-out : (t : ℕ) → T (permitted_of q k D (Outcome.spent t)) → Spent k D t
    unfolding permitted_of
    spent-out t h =
        let p1 = leb t k in
        let p2 = clear_before q t in
        let p3 = decides_at q t D Decision.spent in
        let h2 = and_left (p1 && p2) p3 h in
        record {
          within = leb→le t k (and_left p1 p2 h2);
          quiet = before-out t (and_right p1 p2 h2);
          first = decides-out (q.hitting t) (q.places t) 0 D Decision.spent (and_right (p1 && p2) p3 h);
        }

    pub spent-in : (t : ℕ) → Spent k D t → T (permitted_of q k D (Outcome.spent t))
    unfolding permitted_of
    spent-in t s =
        let p1 = leb t k in
        let p2 = clear_before q t in
        and (p1 && p2) (decides_at q t D Decision.spent) (and p1 p2 (le→leb t k s.within) (before-in t s.quiet))
        (decides-in (q.hitting t) (q.places t) 0 D Decision.spent s.first)

  -- ---- which outcomes exclude each other

  later : {k t k' t' : ℕ} → Found k t → Found k' t' → t ≤ t'
  later {t = t} {t' = t'} f g =
      let a = g.first in
      elim (dec_le t t') [ yes h ↦ h | no h ↦ absurd (f.quiet t' (omega arith) g.place a.from a.fits a.hit) ]

  -- found has one frame, whatever the bounds
  pub found-same : {k t k' t' : ℕ} → Found k t → Found k' t' → t ≡ t'
  found-same f g = le_antisymm (later f g) (later g f)

  -- and one sequence there
  pub place_same : {k k' t : ℕ} (f : Found k t) (g : Found k' t) → f.place ≡ g.place
  place_same {t = t} f g = first-same (q.hitting t) f.first g.first

  -- none up to a bound and found within that bound exclude each other
  pub none_found : {k j k' t : ℕ} → None k j → Found k' t → t ≤ k → ⊥
  none_found {t = t} n f l = let a = f.first in n.quiet t (omega arith) f.place a.from a.fits a.hit

  -- two answers for the same bound that are not spent are the same, whatever the budgets
  pub answer-same : (k D D' : ℕ) (o o' : Outcome) → Decided o → Decided o' → T (permitted_of q k D o) → T (permitted_of q k D' o') → o ≡ o'
  answer-same k D D' (Outcome.found t) (Outcome.found t') d d' p r = ap Outcome.found (found-same (found-out k D t p) (found-out k D' t' r))
  answer-same k D D' (Outcome.found t) (Outcome.none j) d d' p r =
      let f = found-out k D t p in
      absurd (none_found (none_out k D' j r) f f.within)
  answer-same k D D' (Outcome.none j) (Outcome.found t) d d' p r =
      let f = found-out k D' t r in
      absurd (none_found (none_out k D j p) f f.within)
  answer-same k D D' (Outcome.none j) (Outcome.none j') d d' p r = ap Outcome.none ((none_out k D j p).bound ∙ sym (none_out k D' j' r).bound)
  answer-same k D D' (Outcome.found t) (Outcome.spent t') d d' p r = absurd d'
  answer-same k D D' (Outcome.none j) (Outcome.spent t') d d' p r = absurd d'
  answer-same k D D' (Outcome.spent t) o' d d' p r = absurd d

-- ---- the witness that is shown

-- where x is the first hit of frame t, the first witness is that of its run
pub first-witness : (c : Circuit) (b t x : ℕ) → FirstHit (reaches c b t) (2 ^ free_bits c t) 0 x → first_witness c b t ≡ witness b (run c t x)
unfolding first_witness
first-witness c b t x f =
    ap (λ (o : Option ℕ). elim o [ Option.some y ↦ witness b (run c t y) | Option.none ↦ [] ]) (first-from (reaches c b t) f)

-- ---- the outcomes that the examples try

-- every permitted outcome is among those that the examples try
pub covered : (c : Circuit) (b k D : ℕ) (o : Outcome) → T (permitted c b k D o) → Memᴰ o (outcomes k)
unfolding outcomes
covered c b k D (Outcome.found t) h =
    let f = found-out (question c b) k D t h in
    Memᴰ.append_left (map Outcome.spent (upto (k + 2))) (Memᴰ.append_left (map Outcome.none (upto (k + 2)))
    (Memᴰ.map Outcome.found (upto-in (k + 2) t (omega (arith, f.within)))))
covered c b k D (Outcome.none j) h =
    Memᴰ.append_left (map Outcome.spent (upto (k + 2))) (Memᴰ.append_right (map Outcome.found (upto (k + 2)))
    (Memᴰ.map Outcome.none (upto-in (k + 2) j (omega (arith, (none_out (question c b) k D j h).bound)))))
covered c b k D (Outcome.spent t) h =
    Memᴰ.append_right (map Outcome.found (upto (k + 2)) ++ map Outcome.none (upto (k + 2)))
    (Memᴰ.map Outcome.spent (upto-in (k + 2) t (omega (arith, (spent-out (question c b) k D t h).within))))
