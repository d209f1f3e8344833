-- Laws of implied literals, stored one after the other. Assumes nothing.
use mathlib.Core.Path.{◌≡◌, refl, sym, ap, ◌∙◌}
use mathlib.Core.List.{List, ◌++◌}
use Prim.Native.Nat.{ℕ, zero, suc, ◌+◌, ◌-◌, ◌*◌, ◌≤◌, ◌<◌}
use native.Mathlib.Numerals.{add-one}
use native.Mathlib.Omega.{arith}
use lib.ListN.{length, take, drop, set, length-set}
use lib.Seq.{sets, sets-eq}
use Rattle.aiger.specs.Binary.{implied}

implied-length : (v n : ℕ) → length (implied v n) ≡ n
unfolding implied
implied-length v zero = refl
implied-length v (suc n) = ap suc (implied-length (suc v) n)

-- what is stored, and then the rest, is the whole
pub record Storing (before : List ℕ) (from v n : ℕ) (out : List ℕ) (var to left : ℕ) : Type 0 where
  pub kept : length out ≡ length before
  pub room : to + left ≤ length before
  pub low : var + left ≤ 10000
  pub whole : sets before from (implied v n) ≡ sets out to (implied var left)

pub start : (out : List ℕ) (from v n : ℕ) → from + n ≤ length out → v + n ≤ 10000 → Storing out from v n out v from n
start out from v n h l = record { kept = refl; room = h; low = l; whole = refl }

module _ {before : List ℕ} {from v n : ℕ} {out : List ℕ} {var to left : ℕ} (g : Storing before from v n out var to left) where
  one_more : (k : ℕ) → left ≡ suc k → (x : ℕ) → x ≡ 2 * var
      → sets out to (implied var left) ≡ sets (set out to x) (to + 1) (implied (var + 1) k)
  unfolding implied
  one_more k e x h = rw (e, h, add-one to, add-one var)

  pub more : 0 < left → (x : ℕ) → x ≡ 2 * var → Storing before from v n (set out to x) (var + 1) (to + 1) (left - 1)
  more h x e =
      record {
        kept = length-set out to x ∙ g.kept;
        room = omega (arith, g.room);
        low = omega (arith, g.low);
        whole = g.whole ∙ one_more (left - 1) (omega arith) x e;
      }

  done : (k : ℕ) → k ≡ 0 → sets out to (implied var k) ≡ out
  unfolding implied
  done k e = rw e

  pub end : left ≤ 0 → from + n ≤ length before → out ≡ take from before ++ implied v n ++ drop (from + n) before
  end h r =
      sym (done left (omega arith)) ∙ sym g.whole ∙ sets-eq (implied v n) before from (omega (arith, implied-length v n))
      ∙ ap (λ (k : ℕ). take from before ++ implied v n ++ drop (from + k) before) (implied-length v n)
