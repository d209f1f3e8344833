-- What is chosen of a frame from a place on, from what is known of its sequences. Assumes nothing.
use mathlib.Core.Path.{◌≡◌, refl, sym, ap, ap₂, ◌∙◌, subst}
use mathlib.Core.Bool.{Bool, true, false, cond}
use mathlib.Core.List.{List}
use mathlib.Core.Logic.{◌⊎◌, inl, inr}
use mathlib.Core.Option.{Option, none, some}
use Prim.Native.Nat.{ℕ, ◌+◌, ◌-◌, ◌*◌, ◌^◌, ◌≤◌, ◌<◌, min, max}
use native.Mathlib.Decide.{dec_lt}
use native.Mathlib.Omega.{arith}
use borrow.Author.Tests.{le-leb, lt-leb, leb-true}
use lib.Dec.{T, leb, leb→le, le→leb}
use Rattle.aiger.specs.Circuit.{Circuit}
use Rattle.aiger.specs.Frames.{free_bits, size}
use Rattle.aiger.specs.Search.{Decision, onward, reaches, greatest}
use Rattle.aiger.proofs.Tests.{and, and_left, and_right}
use Rattle.meaning.proofs.Decisions.{Least, least-below, NoneFrom, FirstHit, Exceeded}
use Rattle.enumeration.specs.Choice.{least_below, decided, decision}
use Rattle.enumeration.specs.Frame.{FreeBits}
use Rattle.enumeration.specs.declared.Frame.{Frame}
use Rattle.enumeration.specs.declared.Frame.TheVariants as N
use Rattle.enumeration.proofs.Laws.{hit-first, clear_none, spent-first}
use Rattle.conflicts.specs.declared.Verdict.{Verdict}
use Rattle.conflicts.specs.declared.Verdict.TheVariants.{Found, Clear, Out}
use Rattle.place_search.specs.Places.{Placed, answers}
use Rattle.place_search.proofs.Answers.{answers-in}
use Rattle.place_enumeration.specs.From.{FrameFrom}
use Rattle.decision.specs.Reach.{first_places, decided_or}
use Rattle.place_decision.specs.Reach.{searched_from, floor_of, tries, reach_from, reached_from, telling, place_chosen}
use Rattle.place_decision.specs.Decided.{DecidedFrom, told_of, GoneOn}
use Rattle.place_decision.specs.declared.PlaceFrame.{PlaceFrame}
use Rattle.place_decision.specs.declared.PlaceFrame.TheVariants as P

-- ---- decisions from a place on

module _ (p : ℕ → Bool) (places lo R : ℕ) where
  abbrev total : ℕ
  total = min places (lo + R)

  passes : (x : ℕ) → lo ≤ x → T (p x) → T (onward lo p x)
  passes x l t = and (leb lo x) (p x) (le→leb lo x l) t

  pub hit-at : {x : ℕ} → FirstHit p places lo x → x < lo + R → decision p places lo R ≡ Decision.hit x
  unfolding decision
  hit-at {x} f l = go (least_below total (onward lo p)) (least-below (onward lo p) total)
    where
      go : (o : Option ℕ) → Least (onward lo p) (min places (lo + R)) o → decided o (cond (leb places (lo + R)) Decision.clear Decision.spent) ≡ Decision.hit x
      go (some z) h =
          let a : z < x → ⊥ = λ k. f.first z (leb→le lo z (and_left (leb lo z) (p z) h.1)) k (and_right (leb lo z) (p z) h.1) in
          let b : x < z → ⊥ = λ k. h.2 x k (passes x f.from f.hit) in
          ap Decision.hit (omega arith)
      go none h = absurd (h x (omega (arith, f.fits)) (passes x f.from f.hit))

  none-at : NoneFrom p lo (min places (lo + R)) → decision p places lo R ≡ cond (leb places (lo + R)) Decision.clear Decision.spent
  unfolding decision
  none-at free = go (least_below total (onward lo p)) (least-below (onward lo p) total)
    where
      go : (o : Option ℕ) → Least (onward lo p) (min places (lo + R)) o
          → decided o (cond (leb places (lo + R)) Decision.clear Decision.spent) ≡ cond (leb places (lo + R)) Decision.clear Decision.spent
      go (some z) h =
          absurd (free z (leb→le lo z (and_left (leb lo z) (p z) h.1)) h.0 (and_right (leb lo z) (p z) h.1))
      go none h = refl

  pub clear_at : places ≤ lo + R → NoneFrom p lo places → decision p places lo R ≡ Decision.clear
  clear_at l f =
      none-at (λ y a b. f y a (omega arith)) ∙ ap (λ (b : Bool). cond b Decision.clear Decision.spent) (le-leb places (lo + R) l)

  pub spent-at : lo + R < places → NoneFrom p lo (lo + R) → decision p places lo R ≡ Decision.spent
  spent-at l f =
      none-at (λ y a b. f y a (omega arith)) ∙ ap (λ (b : Bool). cond b Decision.clear Decision.spent) (lt-leb places (lo + R) l)

  -- the place of a hit is one that is tried, and all are where there is none
  pub hit-tried : {x : ℕ} → decision p places lo R ≡ Decision.hit x → x < lo + R
  unfolding decision
  hit-tried {x} e = go (least_below total (onward lo p)) (least-below (onward lo p) total) (leb places (lo + R)) e
    where
      go : (o : Option ℕ) → Least (onward lo p) (min places (lo + R)) o → (q : Bool) → decided o (cond q Decision.clear Decision.spent) ≡ Decision.hit x → x < lo + R
      go (some z) h q e = let s : z ≡ x = cc in omega (arith, h.0)
      go none h true e = let z : ◌≡◌ {A = ℕ} 0 1 = cc in absurd (omega arith)
      go none h false e = let z : ◌≡◌ {A = ℕ} 0 1 = cc in absurd (omega arith)

  pub clear-tried : decision p places lo R ≡ Decision.clear → places ≤ lo + R
  unfolding decision
  clear-tried e = go (least_below total (onward lo p)) (leb places (lo + R)) refl e
    where
      go : (o : Option ℕ) (q : Bool) → leb places (lo + R) ≡ q → decided o (cond q Decision.clear Decision.spent) ≡ Decision.clear → places ≤ lo + R
      go (some z) q w e = let z : ◌≡◌ {A = ℕ} 0 1 = cc in absurd (omega arith)
      go none true w e = leb-true places (lo + R) w
      go none false w e = let z : ◌≡◌ {A = ℕ} 0 1 = cc in absurd (omega arith)

-- the number of sequences that are tried
pub tries-is : (n D f d : ℕ) → f ≡ first_places n → d ≡ max D f → d ≡ tries n D
unfolding tries
tries-is n D f d e g = g ∙ ap (max D) e

-- ---- what is chosen

module _ (c : Circuit) (b t lo D : ℕ) where
  abbrev p : ℕ → Bool
  p = reaches c b t

  abbrev all : ℕ
  all = 2 ^ free_bits c t

  -- all sequences are passed, or those that are tried
  reach-all : (v : Verdict) → searched_from c b t lo D ≡ v → (v ≡ Out → ⊥) → reach_from c b t lo D ≡ all
  unfolding reach_from
  reach-all Found e n = ap (λ (v : Verdict). decided_or v all (tries (free_bits c t) D)) e
  reach-all (Clear used) e n = ap (λ (v : Verdict). decided_or v all (tries (free_bits c t) D)) e
  reach-all Out e n = absurd (n refl)

  pub reach-out : searched_from c b t lo D ≡ Out → reach_from c b t lo D ≡ tries (free_bits c t) D
  unfolding reach_from
  reach-out e = ap (λ (v : Verdict). decided_or v all (tries (free_bits c t) D)) e

  pub reach-found : searched_from c b t lo D ≡ Found → reach_from c b t lo D ≡ all
  unfolding reach_from
  reach-found e = ap (λ (v : Verdict). decided_or v all (tries (free_bits c t) D)) e

  pub reach-clear : {used : ℕ} → searched_from c b t lo D ≡ Clear used → reach_from c b t lo D ≡ all
  unfolding reach_from
  reach-clear e = ap (λ (v : Verdict). decided_or v all (tries (free_bits c t) D)) e

  -- those of the first that there are
  pub reach-first : min all (first_places (free_bits c t)) ≤ reach_from c b t lo D
  unfolding reach_from tries
  reach-first = go (searched_from c b t lo D)
    where
      go : (v : Verdict) → min all (first_places (free_bits c t)) ≤ decided_or v all (max D (first_places (free_bits c t)))
      go Found = omega arith
      go (Clear used) = omega arith
      go Out = omega arith

  -- a first hit among the sequences that are passed
  pub as-hit : (work : List ℕ) (x : ℕ) → FirstHit p all lo x → x < lo + reach_from c b t lo D → FreeBits (free_bits c t) x work
      → DecidedFrom c b t lo D work P.Hit
  unfolding place_chosen
  as-hit work x f l bits =
      let e : place_chosen c b t lo D ≡ Placed.hit x =
      ap (λ (d : Decision). telling d (reached_from c b t lo D)) (hit-at p all lo (reach_from c b t lo D) f l) in
      record {
        chose = (x, e, bits);
        allowed = subst (λ (a : Placed). T (answers p all lo D a)) (sym e) (answers-in p all lo D (Placed.hit x) f);
      }

  pub as-clear : (work : List ℕ) → NoneFrom p lo all → all ≤ lo + reach_from c b t lo D → DecidedFrom c b t lo D work P.Clear
  unfolding place_chosen
  as-clear work f l =
      let e : place_chosen c b t lo D ≡ Placed.clear =
      ap (λ (d : Decision). telling d (reached_from c b t lo D)) (clear_at p all lo (reach_from c b t lo D) l f) in
      record { chose = e; allowed = subst (λ (a : Placed). T (answers p all lo D a)) (sym e) (answers-in p all lo D Placed.clear f) }

  -- where the conflict search is given up, its floor is a place, and none from the starting place up to it hits
  module _ (out : searched_from c b t lo D ≡ Out) (none_below : NoneFrom p lo (floor_of c b t lo D)) (inside : floor_of c b t lo D < all) where
    abbrev end : ℕ
    end = lo + tries (free_bits c t) D

    pub as-spent : (work : List ℕ) (R : ℕ) → end < all → NoneFrom p lo end → R ≡ min greatest (max (floor_of c b t lo D) end)
        → DecidedFrom c b t lo D work (P.Spent R)
    unfolding place_chosen reached_from tries
    as-spent work R l f e =
        let q = reach-out out in
        let s : lo + reach_from c b t lo D ≡ end = ap (λ (k : ℕ). lo + k) q in
        let d : decision p all lo (reach_from c b t lo D) ≡ Decision.spent =
        spent-at p all lo (reach_from c b t lo D) (omega (arith, s)) (λ x a b. f x a (omega (arith, s))) in
        let g : place_chosen c b t lo D ≡ Placed.spent R = ap₂ telling d (sym e) in
        record {
          chose = g;
          allowed =
              subst (λ (a : Placed). T (answers p all lo D a)) (sym g)
              (answers-in p all lo D (Placed.spent R) (
                record { beyond = omega arith; first = λ x a b. f x a (omega arith) },
                record {
                  far = omega arith;
                  told = omega arith;
                  fits = omega arith;
                  none = λ x a h. elim (dec_lt x (floor_of c b t lo D)) [ yes k ↦ none_below x a k | no k ↦ f x a (omega arith) ];
                },
              ));
        }

    -- by the floor as a number, and what the sequences from there on have
    pub as-gone : (start : lo ≤ greatest) (few : tries (free_bits c t) D ≤ 4294967296) (work : List ℕ) (floor : ℕ)
        → floor ≡ min 9223372036854775808 (floor_of c b t lo D) → (r : PlaceFrame) → GoneOn c b t lo (tries (free_bits c t) D) floor work r
        → DecidedFrom c b t lo D work r
    unfolding greatest
    as-gone start few work floor e r (inl g) =
        subst (DecidedFrom c b t lo D work) (sym g.1)
        (as-spent work (min greatest floor) (omega (arith, g.0)) (λ x a b. none_below x a (omega (arith, g.0))) (omega (arith, g.0)))
    as-gone start few work floor e r (inr g) =
        subst (DecidedFrom c b t lo D work) (sym g.1.2) (go g.1.0 g.1.1)
      where
        from : ℕ
        from = max floor lo

        same : floor ≡ floor_of c b t lo D
        same = omega (arith, g.0)

        up : max floor lo + (lo + tries (free_bits c t) D - max floor lo) ≡ lo + tries (free_bits c t) D
        up = omega (arith, g.0)

        skipped : NoneFrom p lo (max floor lo)
        skipped x a h = none_below x a (omega arith)

        joined : (hi : ℕ) → NoneFrom p (max floor lo) hi → NoneFrom p lo hi
        joined hi f x a h = elim (dec_lt x (max floor lo)) [ yes k ↦ skipped x a k | no k ↦ f x (omega arith) h ]

        reach : lo + reach_from c b t lo D ≡ lo + tries (free_bits c t) D
        reach = ap (λ (k : ℕ). lo + k) (reach-out out)

        go : (f : Frame) → FrameFrom c b t (max floor lo) (lo + tries (free_bits c t) D - max floor lo) work f
            → DecidedFrom c b t lo D work (told_of f (min greatest (lo + tries (free_bits c t) D)))
        go N.Hit w =
            let h = hit-first p all (max floor lo) (lo + tries (free_bits c t) D - max floor lo) w.1 in
            let l = hit-tried p all (max floor lo) (lo + tries (free_bits c t) D - max floor lo) w.1 in
            as-hit work w.0
            (record { from = omega (arith, h.from); fits = h.fits; first = joined w.0 h.first; hit = h.hit })
            (omega (arith, l, up, reach)) w.2
        go N.Clear w =
            let h = clear_none p all (max floor lo) (lo + tries (free_bits c t) D - max floor lo) w in
            let l = clear-tried p all (max floor lo) (lo + tries (free_bits c t) D - max floor lo) w in
            as-clear work (joined all h) (omega (arith, l, up, reach))
        go N.Spent w =
            let h = spent-first p all (max floor lo) (lo + tries (free_bits c t) D - max floor lo) w in
            as-spent work (min greatest (lo + tries (free_bits c t) D)) (omega (arith, h.beyond, up))
            (joined (lo + tries (free_bits c t) D) (λ x a k. h.first x a (omega (arith, up)))) (omega (arith, g.0, same))

  -- what the first sequences have, where they decide
  pub first-hit-chosen : (work : List ℕ) (F : ℕ) → F ≡ first_places (free_bits c t) → FrameFrom c b t lo F work N.Hit → DecidedFrom c b t lo D work P.Hit
  first-hit-chosen work F e w =
      let h = hit-first p all lo F w.1 in
      let l = hit-tried p all lo F w.1 in
      as-hit work w.0 h (omega (arith, l, e, reach-first, h.fits)) w.2

  pub first-clear-chosen : (work : List ℕ) (F : ℕ) → F ≡ first_places (free_bits c t) → FrameFrom c b t lo F work N.Clear → DecidedFrom c b t lo D work P.Clear
  first-clear-chosen work F e w =
      as-clear work (clear_none p all lo F w) (omega (arith, clear-tried p all lo F w, e, reach-first))
