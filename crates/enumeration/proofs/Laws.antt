-- What a decision says of the places of a frame. Assumes nothing.
use mathlib.Core.Path.{◌≡◌, refl, subst}
use mathlib.Core.Bool.{Bool, true, false, cond}
use mathlib.Core.Option.{Option, none, some}
use Prim.Native.Nat.{ℕ, ◌+◌, ◌<◌, min}
use native.Mathlib.Omega.{arith}
use borrow.Author.Tests.{leb-true, leb-false}
use lib.Dec.{T, leb, leb→le, le→leb}
use Rattle.aiger.specs.Search.{Decision, onward, decides}
use Rattle.aiger.proofs.Tests.{and, and_left, and_right}
use Rattle.meaning.proofs.Decisions.{Least, least-below, NoneFrom, FirstHit, Exceeded, Says, decides-in}
use Rattle.enumeration.specs.Choice.{least_below, decided, decision}

module _ (p : ℕ → Bool) (places lo D : ℕ) where
  says : Says p places lo D (decision p places lo D)
  unfolding decision
  says = go (least_below total (onward lo p)) (least-below (onward lo p) total) (leb places (lo + D)) refl
    where
      total : ℕ
      total = min places (lo + D)

      go : (o : Option ℕ) → Least (onward lo p) total o → (q : Bool) → leb places (lo + D) ≡ q
          → Says p places lo D (decided o (cond q Decision.clear Decision.spent))
      go (some x) h q e =
          record {
            from = leb→le lo x (and_left (leb lo x) (p x) h.1);
            fits = omega arith;
            first = λ y f l t. h.2 y l (and (leb lo y) (p y) (le→leb lo y f) t);
            hit = and_right (leb lo x) (p x) h.1;
          }
      go none h true e = λ x f l t. h x (omega (arith, leb-true places (lo + D) e)) (and (leb lo x) (p x) (le→leb lo x f) t)
      go none h false e =
          let k = leb-false places (lo + D) e in
          record { beyond = k; first = λ x f l t. h x (omega arith) (and (leb lo x) (p x) (le→leb lo x f) t) }

  -- what is decided may be decided
  pub decision-decides : T (decides p places lo D (decision p places lo D))
  decision-decides = decides-in p places lo D (decision p places lo D) says

  -- hit x: x is a place from lo on, it hits, and none before it does
  pub hit-first : {x : ℕ} → decision p places lo D ≡ Decision.hit x → FirstHit p places lo x
  hit-first e = subst (Says p places lo D) e says

  -- clear: no place from lo on hits
  pub clear_none : decision p places lo D ≡ Decision.clear → NoneFrom p lo places
  clear_none e = subst (Says p places lo D) e says

  -- spent: there are places past the first D from lo on, and none of those D hits
  pub spent-first : decision p places lo D ≡ Decision.spent → Exceeded p places lo D
  spent-first e = subst (Says p places lo D) e says
