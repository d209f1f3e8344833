-- What the treatment of a frame from a place on requires, answers and leaves. Assumes nothing.
use Rattle.std.specs.Prelude.{◌≡◌, Bool, cond, List, ◌⊎◌, ℕ, zero, suc, ◌+◌, ◌-◌, ◌*◌, ◌^◌, ◌≤◌, ◌<◌, min, max, T, length, get_or}
use Rattle.aiger.specs.Bits.{nonzero}
use Rattle.aiger.specs.Circuit.{Circuit}
use Rattle.aiger.specs.Frames.{free_bits}
use Rattle.aiger.specs.Search.{reaches, greatest, tells}
use Rattle.layout.specs.Words.{circuit_in}
use Rattle.layout.specs.declared.Layout.{Layout}
use Rattle.enumeration.specs.Frame.{FreeBits}
use Rattle.enumeration.specs.declared.Frame.{Frame}
use Rattle.enumeration.specs.declared.Frame.TheVariants as N
use Rattle.place_enumeration.specs.From.{FrameFrom}
use Rattle.place_search.specs.Places.{Placed, answers}
use Rattle.decision.specs.Decided.{FrameFits}
use Rattle.place_decision.specs.Reach.{place_chosen, reached_told}
use Rattle.place_decision.specs.declared.PlaceFrame.{PlaceFrame}
use Rattle.place_decision.specs.declared.PlaceFrame.TheVariants.{Hit, Clear, Spent}

-- a frame that fits, and a starting place that is right
pub record PlaceFits (work m : List ℕ) (layout : Layout) (order : List ℕ) (b t place D : ℕ) : Type 0 where
  pub frame : FrameFits work m layout order b t D
  pub start : place ≤ greatest
  pub below : place < 2 ^ free_bits (circuit_in m) t

-- the answer is what is chosen. After a hit, working memory begins with the free bits of the first one at or after the place
abbrev pub Chose : Circuit → ℕ → ℕ → ℕ → ℕ → List ℕ → PlaceFrame → Type 0
Chose c b t place D work Hit = (x : ℕ) × (place_chosen c b t place D ≡ Placed.hit x) × FreeBits (free_bits c t) x work
Chose c b t place D work Clear = place_chosen c b t place D ≡ Placed.clear
Chose c b t place D work (Spent R) = place_chosen c b t place D ≡ Placed.spent R

-- Clause 12.11: and it may be answered
pub record DecidedFrom (c : Circuit) (b t place D : ℕ) (work : List ℕ) (r : PlaceFrame) : Type 0 where
  pub chose : Chose c b t place D work r
  pub allowed : T (answers (reaches c b t) (2 ^ free_bits c t) place D (place_chosen c b t place D))

-- the number that the first n words make as binary digits, the first the most significant
unfoldable pub number_of : List ℕ → ℕ → ℕ
number_of bits zero = 0
number_of bits (suc j) = 2 * number_of bits j + cond (nonzero (get_or bits j 0)) 1 0

-- what the enumeration of a frame says, as an answer that tells R where it is spent
abbrev pub told_of : Frame → ℕ → PlaceFrame
told_of N.Hit R = Hit
told_of N.Clear R = Clear
told_of N.Spent R = Spent R

-- what is answered by the floor that was come to: spent, where it is not before the end; else what the sequences from there on have
abbrev pub GoneOn : Circuit → ℕ → ℕ → ℕ → ℕ → ℕ → List ℕ → PlaceFrame → Type 0
GoneOn c b t place D floor work r =
    ((place + D ≤ floor) × (r ≡ Spent (min greatest floor)))
    ⊎ ((floor < place + D)
    × ((f : Frame) × FrameFrom c b t (max floor place) (place + D - max floor place) work f × (r ≡ told_of f (min greatest (place + D)))))

-- Clause 12.10: the number is the one that is told of frame t, and may be told
pub record ReachedIs (c : Circuit) (b t D R : ℕ) : Type 0 where
  pub is : R ≡ reached_told c b t D
  pub told : T (tells (reaches c b t) (2 ^ free_bits c t) 0 D R)
