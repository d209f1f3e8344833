-- What the search by layers answers. Assumes nothing.
use Rattle.std.specs.Prelude.{◌≡◌, List, ℕ, ◌+◌, ◌*◌, ◌^◌, ◌≤◌, ◌<◌, length}
use Rattle.aiger.specs.Frames.{free_bits}
use Rattle.enumeration.specs.Frame.{FreeBits}
use Rattle.machine.specs.Layers as spec
use Rattle.states.specs.Trace.{Trace}
use Rattle.influence.specs.Part.{Part}
use Rattle.transitions.specs.Transitions.{machine_of}
use Rattle.reachable.specs.Quota.{width, quota}
use Rattle.reachable.specs.declared.Limit.{Limit}
use Rattle.reachable.specs.declared.Layers.{Layers}
use Rattle.reachable.specs.declared.Layers.TheVariants.{Hit, Clear, Never, GaveUp}
use Rattle.reachable.specs.declared.Found.{Found}
use Rattle.reachable.specs.declared.Found.TheVariants.{At, Nowhere, Ended, Left}

-- what the layers say of frames 0 to k, where nothing is known of the frames from `first` on
unfoldable pub layered : Part → ℕ → ℕ → Limit → ℕ → spec.Layered
layered c b first limit k = spec.layered (machine_of c b) (quota c first limit) (k + 1)

-- the first hit is row `row` of record e
unfoldable pub FoundOf : Part → ℕ → ℕ → Limit → ℕ → List ℕ → Found → Type 0
FoundOf c b first limit k records (At t e row) =
    (y : ℕ) × (layered c b first limit k ≡ spec.hit t (y * 2 ^ length c.circuit.inputs + row))
    × Trace (2 ^ length c.circuit.inputs) (width c) records t e y × (row < 2 ^ length c.circuit.inputs) × (t ≤ k)
    × ((width c + 4) * e + (width c + 4) ≤ length records) × (length c.circuit.inputs ≤ 16)
FoundOf c b first limit k records Nowhere = layered c b first limit k ≡ spec.clear
FoundOf c b first limit k records Ended = (t : ℕ) × (layered c b first limit k ≡ spec.never t) × (t ≤ k)
FoundOf c b first limit k records (Left t) = layered c b first limit k ≡ spec.gave_up t

-- After a hit, working memory begins with the free bits of the first one. That no frame at all has a hit is said where the layer of a frame
-- up to k led to no new state.
unfoldable pub LayersOf : Part → ℕ → ℕ → Limit → ℕ → List ℕ → Layers → Type 0
LayersOf c b first limit k work (Hit t) =
    (x : ℕ) × (layered c b first limit k ≡ spec.hit t x) × (t ≤ k) × FreeBits (free_bits c.circuit t) x work
LayersOf c b first limit k work Clear = layered c b first limit k ≡ spec.clear
LayersOf c b first limit k work Never = (t : ℕ) × (layered c b first limit k ≡ spec.never t) × (t ≤ k)
LayersOf c b first limit k work (GaveUp t) = layered c b first limit k ≡ spec.gave_up t
