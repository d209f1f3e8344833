-- What the loop of `read_difference` keeps: the number is a total, and a scale times the number that is left. Assumes nothing.
use mathlib.Core.Path.{◌≡◌, refl, sym, ap, ◌∙◌}
use mathlib.Core.List.{List}
use mathlib.Core.Option.{Option, none, some}
use Prim.Native.Nat.{ℕ, suc, ◌+◌, ◌-◌, ◌*◌, ◌^◌, ◌≤◌, ◌<◌}
use native.Mathlib.Nat.{mul_comm, mul-add, mul_assoc, mul-le-mul_right, pow-suc, pow-le-pow_right}
use native.Mathlib.Numerals.{add-one}
use native.Mathlib.Omega.{arith}
use borrow.Author.Tests.{lt-ltb, le-ltb}
use lib.ListN.{length, get_or, drop, drop_of_length-le}
use lib.Seq.{drop-cons}
use Rattle.aiger.specs.Text.{◌>>=◌}
use Rattle.aiger.specs.Binary.{groups, difference}
use Rattle.differences.specs.Groups.{DifferenceAt}
use Rattle.std.specs.Prelude.{Some, None}

-- t and s times a number
abbrev onto : ℕ → ℕ → Option (ℕ × List ℕ) → Option (ℕ × List ℕ)
onto t s o = o >>= λ r. some (t + s * r.0, r.1)

onto-start : (o : Option (ℕ × List ℕ)) → o ≡ onto 0 1 o
onto-start none = refl
onto-start (some r) = let e : r.0 ≡ 0 + 1 * r.0 = omega arith in ap (λ (v : ℕ). some (v, r.1)) e

scaled : (t s c v : ℕ) → t + s * (c + 128 * v) ≡ t + c * s + s * 128 * v
scaled t s c v = omega (arith, mul-add s c (128 * v), mul_comm s c, mul_assoc s 128 v)

onto-more : (t s c : ℕ) (o : Option (ℕ × List ℕ)) → onto t s (o >>= λ r. some (c + 128 * r.0, r.1)) ≡ onto (t + c * s) (s * 128) o
onto-more t s c none = refl
onto-more t s c (some r) = ap (λ (v : ℕ). some (v, r.1)) (scaled t s c r.0)

-- one group, by the byte at i
module _ (s : List ℕ) (n i : ℕ) (h : i < length s) where
  group-last : get_or s i 0 < 128 → groups (suc n) (drop i s) ≡ some (get_or s i 0, drop (i + 1) s)
  unfolding groups
  group-last l = rw (add-one, drop-cons s i 0 h) (rw (lt-ltb (get_or s i 0) 128 l))

  group-more : 128 ≤ get_or s i 0
      → groups (suc n) (drop i s) ≡ (groups n (drop (i + 1) s) >>= λ r. some ((get_or s i 0 - 128) + 128 * r.0, r.1))
  unfolding groups
  group-more l = rw (add-one, drop-cons s i 0 h) (rw (le-ltb (get_or s i 0) 128 l))

pub record Reading (s : List ℕ) (at total scale left i : ℕ) : Type 0 where
  pub few : left ≤ 5
  pub here : i + left ≡ at + 5
  pub power : scale ≡ 128 ^ (5 - left)
  pub small : total < scale
  pub inside : at < i → i ≤ length s
  pub same : groups 5 (drop at s) ≡ onto total scale (groups left (drop i s))

pub start : (s : List ℕ) (at : ℕ) → Reading s at 0 1 5 at
start s at =
    record {
      few = omega arith;
      here = omega arith;
      power = refl;
      small = omega arith;
      inside = λ h. absurd (omega arith);
      same = onto-start (groups 5 (drop at s));
    }

module _ {s : List ℕ} {at total scale left i : ℕ} (g : Reading s at total scale left i) where
  -- while groups are left, the scale is at most 128 to the power 4
  pub low : 0 < left → scale ≤ 128 ^ 4
  low h =
      let m : 128 ^ (5 - left) ≤ 128 ^ 4 = pow-le-pow_right (omega arith) {i = 5 - left} {j = 4} (omega arith) in
      omega (arith, g.power)

  pub product : (b : ℕ) → b ≤ 255 → b * scale ≤ 255 * scale
  product b h = mul-le-mul_right scale h

  -- the text ends
  pub cut_short : 0 < left → length s ≤ i → DifferenceAt s at None
  unfolding difference groups
  cut_short h l =
      let k : left ≡ suc (left - 1) = omega arith in
      let z : groups left (drop i s) ≡ none = rw (k, drop_of_length-le s {i = i} l) in
      record { meaning = sym (rw (g.same, z)); place = tt }

  module _ (some_left : 0 < left) (h : i < length s) where
    last : get_or s i 0 < 128 → groups 5 (drop at s) ≡ some (total + scale * get_or s i 0, drop (i + 1) s)
    last l =
        let k : left ≡ suc (left - 1) = omega arith in
        g.same ∙ ap (λ (n : ℕ). onto total scale (groups n (drop i s))) k ∙ ap (onto total scale) (group-last s (left - 1) i h l)

    pub read-it : get_or s i 0 < 128 → (v : ℕ) → v ≡ total + get_or s i 0 * scale → v < 2 ^ 32 → DifferenceAt s at (Some (record { value = v; next = i + 1 }))
    unfolding difference
    read-it l v e small =
        let f : total + scale * get_or s i 0 ≡ v = omega (arith, mul_comm scale (get_or s i 0)) in
        record { meaning = sym (rw (last l, f, lt-ltb v (2 ^ 32) small)); place = (omega (arith, g.here, g.few), omega arith) }

    pub too_large : get_or s i 0 < 128 → 2 ^ 32 ≤ total + get_or s i 0 * scale → DifferenceAt s at None
    unfolding difference
    too_large l large =
        let v : ℕ = total + scale * get_or s i 0 in
        let f : 2 ^ 32 ≤ v = omega (arith, mul_comm scale (get_or s i 0)) in
        record { meaning = sym (rw (last l, le-ltb v (2 ^ 32) f)); place = tt }

    pub more : 128 ≤ get_or s i 0 → get_or s i 0 ≤ 255 → (c : ℕ) → c ≡ get_or s i 0 - 128
        → Reading s at (total + c * scale) (scale * 128) (left - 1) (i + 1)
    more l b c e =
        let k : left ≡ suc (left - 1) = omega arith in
        let p : 5 - (left - 1) ≡ suc (5 - left) = omega (arith, g.few) in
        let z : (get_or s i 0 - 128) ≡ c = sym e in
        let q : c * scale ≤ 127 * scale = mul-le-mul_right scale (omega arith) in
        record {
          few = omega (arith, g.few);
          here = omega (arith, g.here);
          power = ap (λ (x : ℕ). x * 128) g.power ∙ sym (pow-suc 128 (5 - left)) ∙ ap (λ (x : ℕ). 128 ^ x) (sym p);
          small = omega (arith, g.small);
          inside = λ _. omega arith;
          same =
              g.same ∙ ap (λ (n : ℕ). onto total scale (groups n (drop i s))) k
              ∙ ap (onto total scale)
              (group-more s (left - 1) i h l ∙ ap (λ (x : ℕ). groups (left - 1) (drop (i + 1) s) >>= λ r. some (x + 128 * r.0, r.1)) z)
              ∙ onto-more total scale c (groups (left - 1) (drop (i + 1) s));
        }

  -- no group is left
  pub too_many : left ≤ 0 → DifferenceAt s at None
  unfolding difference groups
  too_many h =
      let k : left ≡ 0 = omega arith in
      let z : groups left (drop i s) ≡ none = rw k in
      record { meaning = sym (rw (g.same, z)); place = tt }
