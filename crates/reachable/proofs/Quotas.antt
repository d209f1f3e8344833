-- What the quota of a frame says, and that it does not fall. Assumes nothing.
use mathlib.Core.Path.{◌≡◌, refl, sym, ap, ap₂, ◌∙◌}
use mathlib.Core.Bool.{Bool, true, false, cond, ◌&&◌}
use mathlib.Core.List.{List}
use Prim.Native.Nat.{ℕ, ◌+◌, ◌-◌, ◌*◌, ◌/◌, ◌^◌, ◌≤◌, ◌<◌, max, min}
use native.Mathlib.Nat.{mul-le-mul_left, mul-le-mul_right, mul-le-mul, mul-add, mul_comm, div-lt_iff_lt-mul, div-mul-le_self}
use native.Mathlib.Decide.{dec_lt}
use native.Mathlib.Omega.{arith}
use borrow.Author.Tests.{le-leb, lt-leb}
use lib.Dec.{leb, leb→le}
use lib.ListN.{length}
use lib.Pow.{pow_pos}
use Rattle.aiger.specs.Frames.{free_starts, size}
use Rattle.aiger.proofs.Tests.{T_true, and_left, and_right}
use Rattle.aiger.specs.Memory.{Holds}
use Rattle.layout.specs.Words.{circuit_in}
use Rattle.layout.specs.Layout.{LayoutOf}
use Rattle.layout.specs.declared.Layout.{Layout}
use Rattle.frames.proofs.Facts.{counts, gate-count}
use Rattle.frames.proofs.Places.{inputs_are, latches-are}
use Rattle.influence.specs.Part.{Part, part_in}
use Rattle.limits.specs.Limits.{size_of}
use Rattle.limits.proofs.Sizes.{product_small, size_is, counts_of, limited}
use Rattle.reachable.specs.declared.Limit.{Limit}
use Rattle.reachable.specs.Quota.{width, effort, size_by, work_of, quota, Moderate}

-- a larger dividend has no smaller quotient
quotient-mono : (a b e : ℕ) → 0 < e → a ≤ b → a / e ≤ b / e
quotient-mono a b e l h = elim (dec_lt (b / e) (a / e)) [
  | yes d ↦ let x : b < a / e * e = (div-lt_iff_lt-mul {k = e} {x = b} {y = a / e} l).0 d in absurd (omega (arith, div-mul-le_self a e))
  | no d ↦ omega arith
]

-- a product of quotients
quotient-room : (k s q : ℕ) → q ≤ s / k → k * q ≤ s
quotient-room k s q l =
    let a : k * q ≤ k * (s / k) = mul-le-mul_left k l in
    omega (arith, div-mul-le_self s k, mul_comm k (s / k))

-- four words for each record at least
quotient-few : (s w : ℕ) → 16 * s / (w + 4) ≤ 4 * s
quotient-few s w =
    let k : (4 * s + 1) * (w + 4) ≡ (4 * s + 1) * w + (4 * s + 1) * 4 = mul-add (4 * s + 1) w 4 in
    let l : 16 * s / (w + 4) < 4 * s + 1 = (div-lt_iff_lt-mul {k = w + 4} {x = 16 * s} {y = 4 * s + 1} (omega arith)).1 (omega arith) in
    omega arith

module _ (c : Part) where
  abbrev I : ℕ
  I = length c.circuit.inputs

  pub effort-some : 0 < effort c
  unfolding effort
  effort-some =
      let a : 1 * 1 ≤ (length c.circuit.gates + length c.circuit.latches + 1) * 2 ^ (I - 6) = mul-le-mul {n₁ = 1} {m₁ = 1}
      {n₂ = length c.circuit.gates + length c.circuit.latches + 1} {m₂ = 2 ^ (I - 6)} (omega arith) (pow_pos (I - 6)) in
      omega arith

  pub size_mono : (t u : ℕ) → t ≤ u → size c.circuit t ≤ size c.circuit u
  unfolding size
  size_mono t u l =
      let n = length c.circuit.inputs + length c.circuit.gates + length c.circuit.constraints in
      let a : (t + 1) * n ≤ (u + 1) * n = mul-le-mul_right n (omega arith) in
      omega arith

  -- a state of up to 1,024 latches has 32 words at most
  pub width_few : length c.kept ≤ 1024 → width c ≤ 32
  width_few l = omega arith

  module _ (first : ℕ) (limit : Limit) where
    abbrev small : Bool
    small = leb (length c.circuit.inputs) 16 && leb (free_starts c.circuit) 16

    -- as many as the two bounds allow
    abbrev allowed : ℕ → ℕ
    allowed t = min (16 * size_by c first t / (width c + 4)) (work_of limit (size_by c first t) / effort c)

    size-by : (t u : ℕ) → t ≤ u → size_by c first t ≤ size_by c first u
    size-by t u l = size_mono (max t first) (max u first) (omega arith)

    pub quota-mono : (t u : ℕ) → t ≤ u → quota c first limit t ≤ quota c first limit u
    unfolding quota
    quota-mono t u l = go small
      where
        go : (b : Bool) → cond b (allowed t) 0 ≤ cond b (allowed u) 0
        go true =
            let a = size-by t u l in
            let w : limit.unit * size_by c first t ≤ limit.unit * size_by c first u = mul-le-mul_left limit.unit a in
            let d = quotient-mono (16 * size_by c first t) (16 * size_by c first u) (width c + 4) (omega arith) (omega arith) in
            let e = quotient-mono (work_of limit (size_by c first t)) (work_of limit (size_by c first u)) (effort c) effort-some (omega
            arith) in
            omega arith
        go false = omega arith

    -- the records of a quota stand within the words of the frame
    pub quota-room : (t : ℕ) → (width c + 4) * quota c first limit t ≤ 16 * size_by c first t
    unfolding quota
    quota-room t = go small
      where
        go : (b : Bool) → (width c + 4) * cond b (allowed t) 0 ≤ 16 * size_by c first t
        go true = quotient-room (width c + 4) (16 * size_by c first t) (allowed t) (omega arith)
        go false = quotient-room (width c + 4) (16 * size_by c first t) 0 (omega arith)

    pub quota-few : (t : ℕ) → quota c first limit t ≤ 4 * size_by c first t
    unfolding quota
    quota-few t = go small
      where
        go : (b : Bool) → cond b (allowed t) 0 ≤ 4 * size_by c first t
        go true = omega (arith, quotient-few (size_by c first t) (width c))
        go false = omega arith

    pub quota-small : (t : ℕ) → 0 < quota c first limit t → (length c.circuit.inputs ≤ 16) × (free_starts c.circuit ≤ 16)
    unfolding quota
    quota-small t l = go small refl l
      where
        go : (b : Bool) → small ≡ b → 0 < cond b (allowed t) 0 → (length c.circuit.inputs ≤ 16) × (free_starts c.circuit ≤ 16)
        go true e h =
            let k = T_true e in (
              leb→le I 16 (and_left (leb I 16) (leb (free_starts c.circuit) 16) k),
              leb→le (free_starts c.circuit) 16 (and_right (leb I 16) (leb (free_starts c.circuit) 16) k),
            )
        go false e h = absurd (omega arith)

    pub quota-many : (t : ℕ) → 16 < length c.circuit.inputs → quota c first limit t ≡ 0
    unfolding quota
    quota-many t l = ap (λ (b : Bool). cond (b && leb (free_starts c.circuit) 16) (allowed t) 0) (lt-leb I 16 l)

    pub quota-free : (t : ℕ) → length c.circuit.inputs ≤ 16 → 16 < free_starts c.circuit → quota c first limit t ≡ 0
    unfolding quota
    quota-free t l f = ap₂ (λ (a b : Bool). cond (a && b) (allowed t) 0) (le-leb I 16 l) (lt-leb (free_starts c.circuit) 16 f)

    pub quota-is : (t : ℕ) → length c.circuit.inputs ≤ 16 → free_starts c.circuit ≤ 16
        → quota c first limit t ≡ min (16 * size_by c first t / (width c + 4)) (work_of limit (size_by c first t) / effort c)
    unfolding quota
    quota-is t l f = ap₂ (λ (a b : Bool). cond (a && b) (allowed t) 0) (le-leb I 16 l) (le-leb (free_starts c.circuit) 16 f)

-- ---- a circuit in memory
module _ {m : List ℕ} {p : Layout} (ks : List ℕ) (held : Holds m (circuit_in m)) (a : LayoutOf m p) where
  inputs-is : p.i ≡ length (circuit_in m).inputs
  inputs-is = inputs_are held a

  latches-is : p.l ≡ length (circuit_in m).latches
  latches-is = latches-are held a

  gates-is : p.a ≡ length (circuit_in m).gates
  gates-is = a.a-is ∙ sym (gate-count m)

  pub gates-small : p.a ≤ 3072
  gates-small = omega (arith, gates-is, (counts held).gates)

  pub effort-is : (words rows : ℕ) → words ≡ 2 ^ (p.i - 6) → rows ≡ 2 ^ p.i
      → (p.a + p.l + 1) * words + (length ks + 8) * rows ≡ effort (part_in m ks)
  unfolding effort
  effort-is words rows w r = let x = inputs-is in let y = latches-is in let z = gates-is in cc

  -- nothing wraps
  pub size_few : (t : ℕ) → t ≤ 255 → size_of p t ≤ 1048576
  size_few t l =
      let n = limited held a in
      omega (arith, n.starts, product_small t (p.i + p.a + p.c + 1) l (omega (arith, n.inputs, n.gates, n.constraints)))

  -- the quota, from what the code computes
  pub quota-from : (first : ℕ) (limit : Limit) (t units each stride : ℕ) → units ≡ size_of p (max t first) → each ≡ effort (part_in m ks)
      → stride ≡ width (part_in m ks) + 4 → p.i ≤ 16 → p.u ≤ 16
      → min (16 * units / stride) ((limit.base + limit.unit * units) / each) ≡ quota (part_in m ks) first limit t
  quota-from first limit t units each stride x y z i u =
      (λ k. min (16 * (x ∙ size_is (counts_of held a) (max t first)) k / z k)
      ((limit.base + limit.unit * (x ∙ size_is (counts_of held a) (max t first)) k) / y k))
      ∙ sym (quota-is (part_in m ks) first limit t (omega (arith, inputs-is)) (omega (arith, a.u-is)))

  -- nothing of the limit wraps
  pub work-few : (limit : Limit) (units : ℕ) → Moderate limit → units ≤ 1048576 → limit.unit * units ≤ 4503599627370496
  work-few limit units n l = mul-le-mul {n₁ = limit.unit} {m₁ = units} {n₂ = 4294967296} {m₂ = 1048576} n.unit-small l
