-- From the record of the first hit to the free bits. Assumes nothing.
use mathlib.Core.Path.{◌≡◌, sym, ap, ap₂, subst}
use mathlib.Core.List.{List}
use Prim.Native.Nat.{ℕ, ◌+◌, ◌*◌, ◌^◌, ◌≤◌, ◌<◌}
use native.Mathlib.Omega.{arith}
use lib.ListN.{length}
use Rattle.aiger.specs.Frames.{free_starts, free_bits, size}
use Rattle.enumeration.specs.Frame.{FreeBits}
use Rattle.machine.specs.Layers as spec
use Rattle.influence.specs.Part.{Part}
use Rattle.states.specs.Trace.{Trace}
use Rattle.reachable.specs.declared.Limit.{Limit}
use Rattle.reachable.specs.Quota.{width}
use Rattle.reachable.specs.Layers.{layered, FoundOf, LayersOf}
use Rattle.reachable.specs.declared.Found.{Found}
use Rattle.reachable.specs.declared.Found.TheVariants.{At, Nowhere, Ended, Left}
use Rattle.reachable.specs.declared.Layers.TheVariants.{Hit, Clear, Never, GaveUp}
use Rattle.limits.proofs.Sizes.{bits-within}

module _ (c : Part) (b first : ℕ) (limit : Limit) (k : ℕ) (records : List ℕ) (r : Found) (f : FoundOf c b first limit k records r) where
  -- the first hit, in plain terms
  pub record Place (t e row : ℕ) : Type 0 where
    pub prefix : ℕ
    pub hits : layered c b first limit k ≡ spec.hit t (prefix * 2 ^ length c.circuit.inputs + row)
    pub trace : Trace (2 ^ length c.circuit.inputs) (width c) records t e prefix
    pub row-in : row < 2 ^ length c.circuit.inputs
    pub within : t ≤ k
    pub inside : (width c + 4) * e + (width c + 4) ≤ length records
    pub narrow : length c.circuit.inputs ≤ 16

  pub place_of : {t e row : ℕ} → r ≡ At t e row → Place t e row
  unfolding FoundOf
  place_of q =
      let (y, h, tr, rl, tk, el, w) = subst (FoundOf c b first limit k records) q f in
      record { prefix = y; hits = h; trace = tr; row-in = rl; within = tk; inside = el; narrow = w }

  pub none_of : r ≡ Nowhere → (work : List ℕ) → LayersOf c b first limit k work Clear
  unfolding FoundOf LayersOf
  none_of q work = subst (FoundOf c b first limit k records) q f

  pub ended_of : r ≡ Ended → (work : List ℕ) → LayersOf c b first limit k work Never
  unfolding FoundOf LayersOf
  ended_of q work = subst (FoundOf c b first limit k records) q f

  pub left-of : {t : ℕ} → r ≡ Left t → (work : List ℕ) → LayersOf c b first limit k work (GaveUp t)
  unfolding FoundOf LayersOf
  left-of q work = subst (FoundOf c b first limit k records) q f

  module _ {t e row : ℕ} (p : Place t e row) (i u : ℕ) (is : i ≡ length c.circuit.inputs) (us : u ≡ free_starts c.circuit) where
    bits_is : u + i * (t + 1) ≡ free_bits c.circuit t
    unfolding free_bits
    bits_is = ap₂ (λ (x : ℕ) (y : ℕ). x + y * (t + 1)) us is

    -- what writing the free bits asks
    pub asks : k ≤ 255 → u ≤ 16 → size c.circuit k ≤ length records
        → (t ≤ 255) × (row < 2 ^ i) × (u ≤ 16) × (i ≤ 16) × ((width c + 4) * e + (width c + 4) ≤ length records) × (u + i * (t + 1) ≤
        length records)
    asks l h w = (
      omega (arith, p.within),
      subst (λ (x : ℕ). row < 2 ^ x) (sym is) p.row-in,
      h,
      omega (arith, p.narrow),
      p.inside,
      omega
          (arith, bits_is, bits-within c.circuit t k p.within),
    )

    pub asks-trace : (y : ℕ) × Trace (2 ^ i) (width c) records t e y
    asks-trace = (p.prefix, subst (λ (x : ℕ). Trace (2 ^ x) (width c) records t e p.prefix) (sym is) p.trace)

    -- and what it gives
    pub gives-bits : (work : List ℕ) → ((y : ℕ) → Trace (2 ^ i) (width c) records t e y → FreeBits (u + i * (t + 1)) (y * 2 ^ i + row) work)
        → LayersOf c b first limit k work (Hit t)
    unfolding LayersOf asks-trace
    gives-bits work h =
        let x = p.prefix * 2 ^ length c.circuit.inputs + row in
        let z : p.prefix * 2 ^ i + row ≡ x = ap (λ (n : ℕ). p.prefix * 2 ^ n + row) is in (
          x,
          p.hits,
          p.within,
          subst (λ (n : ℕ). FreeBits n x work) bits_is
              (subst (λ (n : ℕ). FreeBits (u + i * (t + 1)) n work) z (h p.prefix asks-trace.1)),
        )
