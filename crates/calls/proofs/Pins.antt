-- Bytes that are freed one after the other, and the tests of a pin. Assumes nothing.
use mathlib.Core.Path.{◌≡◌, refl, sym, ap, ◌∙◌}
use mathlib.Core.Bool.{true, ◌&&◌}
use mathlib.Core.List.{List, [], ◌∷◌}
use Prim.Native.Nat.{ℕ, ◌+◌, ◌*◌, ◌≤◌, ◌<◌}
use native.Mathlib.Decide.{ℕ_discrete}
use native.Mathlib.Omega.{arith}
use borrow.Author.Tests.{le-leb, lt-leb, lt-ltb, le-ltb}
use lib.Dec.{leb}
use lib.ListN.{length, get_or, set, length-set}
use lib.Seq.{ext_get_or, get_or-set_same, get_or-set_other}
use Rattle.aiger.specs.Load.{Answer, refused, gives}
use Rattle.aiger.specs.Memory.{Holds}
use Rattle.aiger.specs.Operations.{Operated, judge}
use Rattle.meaning.proofs.Lists.{length-map-upto, get_d-map-upto}
use Rattle.layout.specs.Words.{circuit_in}
use Rattle.layout.specs.Layout.{LayoutOf}
use Rattle.layout.specs.declared.Layout.{Layout}
use Rattle.limits.proofs.Sizes.{counts_of}
use Rattle.call_forms.specs.Forms.{Tested, PinSet, pin_first, free_byte, freed}

-- the first i bytes are freed
abbrev pub Freed : List ℕ → List ℕ → ℕ → Type 0
Freed before shared i = (length shared ≡ length before) × ((k : ℕ) → k < i → get_or shared k 0 ≡ free_byte k)

pub freed-more : (before shared : List ℕ) (i v : ℕ) → v ≡ free_byte i → Freed before shared i → i < length shared → Freed before (set shared i v) (i + 1)
freed-more before shared i v e f l = (length-set shared i v ∙ f.0, one)
  where
    one : (k : ℕ) → k < i + 1 → get_or (set shared i v) k 0 ≡ free_byte k
    one k h =
        elim (ℕ_discrete k i) [
          | yes d ↦ ap (λ (x : ℕ). get_or (set shared i v) x 0) d ∙ get_or-set_same shared i v 0 l ∙ e ∙ sym (ap free_byte d)
          | no d ↦ get_or-set_other shared i k v 0 d ∙ f.1 k (below k d h)
        ]
      where
        below : (k : ℕ) → (k ≡ i → ⊥) → k < i + 1 → k < i
        below k d h = omega arith

pub freed-all : (before shared : List ℕ) (i : ℕ) → Freed before shared i → length shared ≤ i → shared ≡ freed before
freed-all before shared i f l =
    ext_get_or 0 shared (freed before) (f.0 ∙ sym (length-map-upto free_byte (length before)))
    (λ k h. f.1 k (omega arith) ∙ sym (get_d-map-upto free_byte (length before) k 0 (omega (arith, f.0))))

-- ---- the setting of a pin

pub value-known : (user value : ℕ) → leb user 1 ≡ true → value ≤ 2 → judge (pin_first user value) ≡ gives tt
unfolding judge
value-known user value e v = rw (e, le-leb value 2 v)

pub value_none : (user value : ℕ) → leb user 1 ≡ true → 2 < value → judge (pin_first user value) ≡ refused 18
unfolding judge
value_none user value e v = rw (e, lt-leb value 2 v)

module _ (user input value : ℕ) {m : List ℕ} {p : Layout} (h : Holds m (circuit_in m)) (a : LayoutOf m p) {shared : List ℕ}
    (j : judge (pin_first user value) ≡ gives tt) where
  pub no-input : p.i ≤ input → PinSet m user input value shared (refused 18) shared
  unfolding judge
  no-input l =
      let n = (counts_of h a).inputs in
      Tested.passes j (Operated.refuses (circuit_in m) {n = 18} h (rw (le-ltb input (length (circuit_in m).inputs) (omega arith))))

  pub no_byte : input < p.i → length shared ≤ 256 * user + input → PinSet m user input value shared (refused 18) shared
  unfolding judge
  no_byte l e =
      let n = (counts_of h a).inputs in
      Tested.passes j
      (Operated.refuses (circuit_in m) {n = 18} h (rw (lt-ltb input (length (circuit_in m).inputs) (omega arith), le-ltb (256 * user + input) (length shared) e)))

  pub pin-set : input < p.i → 256 * user + input < length shared → PinSet m user input value shared (gives tt) (set shared (256 * user + input) value)
  unfolding judge
  pin-set l e =
      let n = (counts_of h a).inputs in
      Tested.passes j
      (Operated.acts (circuit_in m) h (rw (lt-ltb input (length (circuit_in m).inputs) (omega arith), lt-ltb (256 * user + input) (length shared) e)) refl)
