-- An accepted load leaves no pin of either user. Clause 12.7. Assumes nothing.
use mathlib.Core.Path.{◌≡◌, ap, ◌∙◌}
use mathlib.Core.Bool.{false}
use mathlib.Core.List.{List, [], ◌∷◌}
use Prim.Native.Nat.{ℕ, zero, suc, ◌+◌, ◌*◌, ◌≤◌, ◌<◌}
use native.Mathlib.Decide.{dec_lt}
use native.Mathlib.Omega.{arith}
use borrow.Author.Tests.{lt-ltb}
use lib.ListN.{length, get_or, take, drop, get_or-eq_default}
use lib.Seq.{get_or-take, get_or-drop}
use Rattle.meaning.proofs.Lists.{length-map-upto, get_d-map-upto}
use Rattle.pins.specs.Pins.{is_held, pins_of}
use Rattle.call_forms.specs.Forms.{free_byte, freed}

few : (n : ℕ) (l : List ℕ) → length (take n l) ≤ n
few zero l = omega arith
few (suc n) [] = omega arith
few (suc n) (x ∷ xs) = omega (arith, few n xs)

free-byte : (i : ℕ) → i < 512 → ◌≡◌ {A = ℕ} (free_byte i) 2
free-byte i l = rw (lt-ltb i 512 l)

byte-free : (shared : List ℕ) (i : ℕ) → i < 512 → ◌≡◌ {A = ℕ} (get_or (freed shared) i 2) 2
byte-free shared i l =
    elim (dec_lt i (length shared)) [
      | yes h ↦ get_d-map-upto free_byte (length shared) i 2 h ∙ free-byte i l
      | no h ↦ get_or-eq_default (freed shared) 2 {n = i} (omega (arith, length-map-upto free_byte (length shared)))
    ]

pub freed-free : (shared : List ℕ) (user i : ℕ) → user ≤ 1 → is_held (pins_of (freed shared) user i) ≡ false
unfolding pins_of
freed-free shared user i u =
    elim (dec_lt i 256) [
      | yes h ↦ ap is_held (get_or-take 256 (drop (256 * user) (freed shared)) i 2 h ∙ get_or-drop (256 * user) (freed shared) i 2 ∙ byte-free shared (256 * user + i) (omega arith))
      | no h ↦ ap is_held (get_or-eq_default (take 256 (drop (256 * user) (freed shared))) 2 {n = i} (omega (arith, few 256 (drop (256 * user) (freed shared)))))
    ]
