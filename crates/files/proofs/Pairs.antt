-- Two files that were read. Assumes nothing.
use Rattle.std.specs.Prelude as Prelude
use Rattle.std.specs.Prelude.{Some, None}
use mathlib.Core.Path.{◌≡◌, refl, sym, ap, ap₂, ◌∙◌, subst}
use mathlib.Core.Bool.{Bool, true, false, cond, ◌||◌}
use mathlib.Core.List.{List}
use Prim.Native.Nat.{ℕ, zero-le}
use native.Mathlib.Omega.{arith}
use Rattle.input.specs.Reading.{IsPrefixLen}
use Rattle.input.specs.Contents.{nothing}
use Rattle.files.specs.Reading.{Read, OtherRead, BothRead}
use Rattle.files.specs.declared.Fetched.{Fetched}
use Rattle.files.specs.declared.Two.{Two}

module _ {i j : ℕ} {first second : List ℕ} {one other : Fetched} {r : Two} (a : Read i first one) where
  -- what is said of both
  both_read : OtherRead j second one other → IsPrefixLen other.count second → r.one ≡ one → r.other ≡ other → r.first ≡ one.count
      → r.second ≡ other.count → r.failed ≡ (one.failed || other.failed) → BothRead i j first second r
  both_read b k p q n m f =
      record {
        first-counts = subst (λ (x : ℕ). IsPrefixLen x first) (sym n) a.counts;
        second-counts = subst (λ (x : ℕ). IsPrefixLen x second) (sym m) k;
        first-is = n ∙ ap (λ (g : Fetched). g.count) (sym p);
        second_is = m ∙ ap (λ (g : Fetched). g.count) (sym q);
        failed-is = f ∙ ap₂ (λ (g h : Fetched). g.failed || h.failed) (sym p) (sym q);
        one-is = subst (Read i first) (sym p) a;
        other-is = subst (λ (g : Fetched). OtherRead j second g r.other) (sym p) (subst (OtherRead j second one) (sym q) b);
      }

  -- the second was not read
  pub one-read : one.failed ≡ true
      → (other.word.index ≡ j) × (other.file.content ≡ nothing) × (other.count ≡ 0) × (other.failed ≡ true)
      → r.one ≡ one → r.other ≡ other → r.first ≡ one.count → r.second ≡ other.count → r.failed ≡ (one.failed || other.failed)
      → BothRead i j first second r
  one-read e s = both_read (OtherRead.skipped e s.0 s.1 s.2 s.3) (subst (λ (x : ℕ). IsPrefixLen x second) (sym s.2) (zero-le, refl))

  -- both were
  pub two-read : one.failed ≡ false → Read j second other → r.one ≡ one → r.other ≡ other → r.first ≡ one.count → r.second ≡ other.count
      → r.failed ≡ (one.failed || other.failed) → BothRead i j first second r
  two-read e b = both_read (OtherRead.read e b) b.counts

pub differ : {A : Type 0} → false ≡ true → A
differ e = let z : ◌≡◌ {A = ℕ} 0 1 = ap (λ (b : Bool). cond b 1 0) e in absurd (omega (arith, z))

-- a value that is there is not missing
abbrev given : {B : Type 0} → Prelude.Option B → Bool
given (Some x) = true
given None = false

pub not-none : {A B : Type 0} {o : Prelude.Option B} {x : B} → o ≡ Some x → o ≡ None → A
not-none e f = differ (sym (ap given f) ∙ ap given e)
