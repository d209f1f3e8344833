-- The parts of memory that an attempt uses. Assumes nothing.
use mathlib.Core.Path.{◌≡◌, refl, sym, ap, ◌∙◌, subst}
use mathlib.Core.Bool.{Bool}
use mathlib.Core.List.{List}
use Prim.Native.Nat.{ℕ, ◌+◌, ◌-◌, ◌≤◌, ◌<◌}
use native.Mathlib.Omega.{arith}
use lib.ListN.{length, get_or, replicate, take, drop}
use Rattle.aiger.specs.Bits.{nonzero}
use Rattle.aiger.specs.Circuit.{Circuit}
use Rattle.layout.specs.Words.{word}
use Rattle.machine.specs.Machine.{Machine}
use Rattle.backward.specs.Walk.{Walking}
use Rattle.diagrams.specs.Meaning.{Assignment}
use Rattle.diagram_rows.specs.Rows.{plan_of}
use Rattle.set_walk.specs.Walk.{bits_of, Setting, Ended}
use Rattle.set_attempt.specs.Bits.{free_value}
use Rattle.set_search.specs.declared.Place.{Place}
use Rattle.set_search.specs.Search.{HitPut}
use Rattle.diagrams.specs.States.{state_of, begun}
use Rattle.state_sets.specs.Sets.{Sets, sets_of}
use Rattle.set_attempt.specs.Attempt.{table_made, blank_sets}

-- a table of zeros and a diagram that is begun
pub blank-is : (c : Circuit) (b : ℕ) (plan : List ℕ) (n share : ℕ) (w table : List ℕ) → w ≡ begun n share → table ≡ replicate 2083 0
    → table_made c b plan (sets_of w table) ≡ table_made c b plan (blank_sets n share)
unfolding blank_sets
blank-is c b plan n share w table e f = λ i. table_made c b plan (record { state = state_of (e i); table = f i })

-- the inputs of a plan as a part of its words
pub inputs-part : (plan : List ℕ) → take (3 + word plan 0 + word plan 1 - (3 + word plan 0)) (drop (3 + word plan 0) plan) ≡ (plan_of plan).inputs
inputs-part plan =
    let e : 3 + word plan 0 + word plan 1 - (3 + word plan 0) ≡ word plan 1 = omega arith in ap (λ (n : ℕ). take n (drop (3 + word plan 0) plan)) e

-- the walk from a copy of the start state, and the free bits of its trace
pub hit-put : (p : Place) (plan table frees bits base work work' trace inputs : List ℕ) (q : Bool) → base ≡ bits
    → ((level : ℕ) (m : Machine) (n : ℕ) (at : ℕ → Assignment) (g : Setting level m n at p.s p.t (take p.words work) table) (y : ℕ)
    → Walking m p.t 0 0 y (m.start y) → bits_of base ≡ at (m.start y) → Ended g y trace q)
    → inputs ≡ (plan_of plan).inputs
    → ((j : ℕ) → j < p.count → nonzero (get_or work' j 0) ≡ free_value frees bits inputs trace p.width j)
    → HitPut p plan table frees bits work work'
hit-put p plan table frees bits base work work' trace inputs q e walks same put =
    record {
      trace = trace;
      traced = λ level m n at g y k h. (walks level m n at g y k (ap bits_of e ∙ h)).first;
      put = λ j l. put j l ∙ ap (λ (is : List ℕ). free_value frees bits is trace p.width j) same;
    }
