-- A preview's answer is the answer of load on the same file and memory, or on any memory as long. Assumes nothing.
use mathlib.Core.Path.{◌≡◌, refl, ap, ◌∙◌}
use mathlib.Core.Bool.{Bool, true, false, ◌&&◌}
use mathlib.Core.List.{List}
use mathlib.Core.Option.{Option, none, some}
use Prim.Native.Nat.{ℕ, ◌≤◌}
use native.Mathlib.Omega.{arith}
use lib.Dec.{leb}
use lib.ListN.{length}
use Rattle.aiger.specs.Circuit.{Circuit}
use Rattle.aiger.specs.File.{Header, is_binary, header, counts_right}
use Rattle.aiger.specs.Load.{Answer, gives, test, read, needed, ◌>>=◌, ◌>>◌}
use Rattle.aiger.specs.Operations.{Loaded}
use Rattle.roundtrip.proofs.LoadValid.{right-fit}
use Rattle.load.specs.Answers.{answered}
use Rattle.load.specs.Preview.{counts_of, or_zero, words_needed, Previewed}
use Rattle.load.proofs.Finishing.{limits_of}
use Rattle.load.specs.declared.Judgement.{Judgement}

-- the words needed are at most those of M 4,096
pub words-few : (f : List ℕ) → words_needed f ≤ 33032
unfolding words_needed
words-few f = go (leb 1 (length f) && leb (length f) 65536) (header f)
  where
    within : (h : Header) (b : Bool) → counts_right (is_binary f) h ≡ b → or_zero (test 3 b >> gives (needed h.M)) ≤ 33032
    within h true e = omega (arith, limits_of h (right-fit (is_binary f) h e))
    within h false e = omega arith

    go : (b : Bool) (o : Option (Header × List ℕ))
        → or_zero (test 1 b >> read 2 o >>= λ h. test 3 (counts_right (is_binary f) h.0) >> gives (needed h.0.M)) ≤ 33032
    go false o = omega arith
    go true none = omega arith
    go true (some h) = within h.0 (counts_right (is_binary f) h.0) refl

pub preview-load : (m f m' : List ℕ) (a : Answer (List ℕ)) (r : Judgement) → Loaded m f a m' → Previewed (length m) f r → answered r.answer ≡ a
preview-load m f m' a r (Loaded.refuses e) p = p.answer ∙ ap (λ (x : Answer Circuit). x >>= λ c. gives (counts_of c)) e
preview-load m f m' a r (Loaded.stores c e) p = p.answer ∙ ap (λ (x : Answer Circuit). x >>= λ c. gives (counts_of c)) e
