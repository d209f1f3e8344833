-- The states of a circuit's machine are below 2 to the power of the number of latches that are kept. Assumes nothing.
use mathlib.Core.Path.{◌≡◌, refl, sym, ap, ◌∙◌, subst}
use mathlib.Core.Bool.{Bool, true, false, cond}
use mathlib.Core.List.{List, map}
use mathlib.Core.Option.{Option, none, some}
use Prim.Native.Nat.{ℕ, ◌^◌, ◌<◌}
use native.Mathlib.Omega.{arith}
use lib.Dec.{ltb}
use lib.ListN.{length, get_or, length-map}
use Rattle.frames.specs.Lanes.{constrained_in}
use Rattle.machine.specs.Machine.{Machine}
use Rattle.backward.specs.Sets.{Inside}
use Rattle.influence.specs.Part.{Part}
use Rattle.transitions.specs.Transitions.{number_of, values_in, start_number, next_number, next_in, machine_of}
use Rattle.transitions.proofs.Numbers.{number_small}

-- a number made of a value for each latch that is kept
number-below : (f : ℕ → Bool) (ks : List ℕ) → number_of (map f ks) < 2 ^ length ks
number-below f ks = subst (λ (n : ℕ). number_of (map f ks) < 2 ^ n) (length-map ks f) (number_small (map f ks))

pub step_is : (part : Part) (b s r x : ℕ) → (machine_of part b).step s r ≡ some x → next_number part s r ≡ x
unfolding machine_of next_in
step_is part b s r x e =
    go (ltb r (2 ^ length part.circuit.inputs)) (constrained_in part.circuit (values_in part s r)) e
  where
    go : (p q : Bool) → cond p (cond q (some (next_number part s r)) none) none ≡ some x → next_number part s r ≡ x
    go true true h = cc
    go true false h = absurd (let z : ◌≡◌ {A = ℕ} 0 1 = cc in omega arith)
    go false q h = absurd (let z : ◌≡◌ {A = ℕ} 0 1 = cc in omega arith)

start-below : (part : Part) (y : ℕ) → start_number part y < 2 ^ length part.kept
unfolding start_number
start-below part y = number-below _ part.kept

next-below : (part : Part) (s r : ℕ) → next_number part s r < 2 ^ length part.kept
unfolding next_number
next-below part s r = number-below _ part.kept

pub machine-inside : (part : Part) (b : ℕ) → Inside (machine_of part b) (2 ^ length part.kept)
unfolding machine_of
machine-inside part b =
    record {
      begins = λ y l. start-below part y;
      goes = λ s r x l k e. subst (λ (n : ℕ). n < 2 ^ length part.kept) (step_is part b s r x e) (next-below part s r);
    }
