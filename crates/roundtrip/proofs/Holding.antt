-- Which circuit a memory holds: one at most, the one that its words say, where that one is valid and zeros follow. Clause 2.8.
-- Assumes nothing.
use mathlib.Core.Path.{◌≡◌, refl, sym, ap, ◌∙◌, subst}
use mathlib.Core.List.{List, ◌++◌, append_assoc}
use mathlib.Core.Logic.{◌↔◌}
use Prim.Native.Nat.{ℕ, ◌+◌, ◌-◌, ◌*◌, ◌≤◌, ◌<◌}
use native.Mathlib.Omega.{arith}
use lib.ListN.{length, take, drop, replicate, take-append-drop, length-append, length-drop, length-replicate}
use lib.Seq.{take_at}
use Rattle.aiger.specs.Circuit.{Circuit}
use Rattle.aiger.specs.File.{header_of}
use Rattle.aiger.specs.Load.{load, gives, needed}
use Rattle.aiger.specs.Write.{write}
use Rattle.aiger.specs.Memory.{content, image, Holds}
use Rattle.aiger.specs.Operations.{front, HoldsNone}
use Rattle.layout.specs.Words.{word, content_end, circuit_in}
use Rattle.roundtrip.proofs.Lists.{upto-length, padded-in, padded-out}
use Rattle.roundtrip.proofs.LoadWrite.{Valid, counts-fit, load-write}
use Rattle.roundtrip.proofs.LoadValid.{load-valid}
use Rattle.roundtrip.proofs.Content.{packed-length, latches-packed, gates-packed, content-length, content-of-words, circuit-in}

-- a memory holds no other circuit than the one that its words say
pub held : {m : List ℕ} {c : Circuit} → Holds m c → circuit_in m ≡ c
unfolding image
held {m} {c} h =
    let n = needed c.max_var in
    let z : List ℕ = replicate (n - length (content c)) 0 in
    let e : m ≡ content c ++ (z ++ drop n m) =
    sym (take-append-drop n m) ∙ ap (λ (w : List ℕ). w ++ drop n m) h.words ∙ append_assoc (content c) z (drop n m) in
    ap circuit_in e ∙ circuit-in c (z ++ drop n m)

-- a memory holds at most one circuit
pub one-circuit : {m : List ℕ} {c d : Circuit} → Holds m c → Holds m d → c ≡ d
one-circuit h k = sym (held h) ∙ held k

-- a circuit that a memory holds is valid
pub held-valid : {m : List ℕ} {c : Circuit} → Holds m c → Valid (length m) c
held-valid h = load-valid h.file h.accepted

-- a memory whose needed words are a valid circuit's image holds it: the file is the one that write gives
pub holds : {m : List ℕ} {c : Circuit} → Valid (length m) c → take (needed c.max_var) m ≡ image c → Holds m c
holds {m} {c} v e = record { file = write c; accepted = load-write v; words = e }

-- a memory holds a circuit exactly where the circuit that its words say is valid and has these words
pub accepted : (m : List ℕ)
    → ((c : Circuit) × Holds m c) ↔ (Valid (length m) (circuit_in m) × (take (needed (circuit_in m).max_var) m ≡ image (circuit_in m)))
accepted m = (
  λ h. subst (λ (d : Circuit). Valid (length m) d × (take (needed d.max_var) m ≡ image d)) (sym (held h.1)) (held-valid h.1, h.1.words),
  λ s. (circuit_in m, holds s.0 s.1),
)

-- the words of a circuit, counted
pub content-size : (c : Circuit)
    → length (content c)
    ≡ 7 + length c.inputs + 3 * length c.latches + length c.outputs + length c.bads + length c.constraints + 3 * length c.gates
unfolding content
content-size c = simp length-append (omega (arith, packed-length latches-packed c.latches, packed-length gates-packed c.gates))

-- the content of a valid circuit has room in the needed words
pub content-fits : {room : ℕ} {c : Circuit} → Valid room c → length (content c) ≤ needed c.max_var
content-fits {room} {c} v = omega (arith, content-size c, counts-fit c v.fit)

-- the image of a valid circuit is all the needed words
pub image-length : {room : ℕ} {c : Circuit} → Valid room c → length (image c) ≡ needed c.max_var
unfolding image
image-length {room} {c} v =
    length-append (content c) (replicate (needed c.max_var - length (content c)) 0)
    ∙ omega (arith, content-fits v, length-replicate {A = ℕ} (needed c.max_var - length (content c)) 0)

-- the counts of the circuit that the words say are the first seven words
pub header-in : (m : List ℕ)
    → header_of (circuit_in m)
    ≡ record { M = word m 0; I = word m 1; L = word m 2; O = word m 3; A = word m 4; B = word m 5; C = word m 6; J = 0; F = 0 }
unfolding circuit_in
header-in m = simp upto-length

-- what code tests: the circuit that the words say is valid, and the needed words after its content are zero
pub record Sound (m : List ℕ) : Type 0 where
  pub valid : Valid (length m) (circuit_in m)
  pub zeros : (i : ℕ) → content_end m ≤ i → i < needed (word m 0) → word m i ≡ 0

module _ (m : List ℕ) (v : Valid (length m) (circuit_in m)) where
  top_in : (circuit_in m).max_var ≡ word m 0
  unfolding circuit_in
  top_in = refl

  room_in : needed (word m 0) ≤ length m
  room_in = omega (arith, v.held, top_in)

  end-in : content_end m ≤ needed (word m 0)
  end-in = omega (arith, content-fits v, content-length m, top_in)

  image-in : image (circuit_in m) ≡ take (content_end m) m ++ replicate (needed (word m 0) - content_end m) 0
  unfolding image
  image-in = rw (content-length m, content-of-words m (omega (arith, end-in, room_in)), top_in)

-- a sound memory holds the circuit that its words say
pub sound-holds : {m : List ℕ} → Sound m → Holds m (circuit_in m)
unfolding circuit_in
sound-holds {m} s =
    let v = s.valid in
    holds v (padded-in 0 m (content_end m) (needed (word m 0)) (end-in m v) (room_in m v) s.zeros ∙ sym (image-in m v))

-- a memory that holds a circuit is sound
pub holds-sound : {m : List ℕ} {c : Circuit} → Holds m c → Sound m
unfolding circuit_in
holds-sound {m} {c} h =
    let s = (accepted m).0 (c, h) in
    let v = s.0 in
    record { valid = v; zeros = padded-out 0 m (content_end m) (needed (word m 0)) (end-in m v) (room_in m v) (s.1 ∙ image-in m v) }

-- a memory holds a circuit exactly where it is sound
pub accepted-sound : (m : List ℕ) → ((c : Circuit) × Holds m c) ↔ Sound m
accepted-sound m = (λ h. holds-sound h.1, λ s. (circuit_in m, sound-holds s))

-- where the test fails, no circuit is held
pub unsound : {m : List ℕ} → (Sound m → ⊥) → HoldsNone m
unsound f c h = f (holds-sound h)

-- a circuit that is valid for one memory is valid for each that has the needed words
pub valid-room : {a : ℕ} {c : Circuit} (b : ℕ) → Valid a c → needed c.max_var ≤ b → Valid b c
valid-room b v l = record { fit = v.fit; held = l; literals = v.literals; uses = v.uses; order = v.order }

-- what load accepted, written, loads again as the same circuit
pub load_again : (room : ℕ) (f : List ℕ) {c : Circuit} → load room f ≡ gives c → load room (write c) ≡ gives c
load_again room f e = load-write (load-valid f e)

-- what a memory holds, written, loads as the same circuit into each memory that has the needed words
pub held-again : {m : List ℕ} {c : Circuit} → Holds m c → (m₂ : List ℕ) → needed c.max_var ≤ length m₂ → load (length m₂) (write c) ≡ gives c
held-again h m₂ l = load-write (valid-room (length m₂) (held-valid h) l)

-- an accepted load leaves a memory as long as before
pub front_length : (m : List ℕ) {c : Circuit} → Valid (length m) c → length (front (image c) m) ≡ length m
front_length m {c} v =
    length-append (image c) (drop (length (image c)) m) ∙ omega (arith, length-drop (length (image c)) m, image-length v, v.held)

-- an accepted load leaves a memory that holds the circuit
pub loaded-holds : (m f : List ℕ) {c : Circuit} → load (length m) f ≡ gives c → Holds (front (image c) m) c
loaded-holds m f {c} e =
    let v = load-valid f e in
    record {
      file = f;
      accepted = rw (front_length m v) e;
      words = take_at (image c) (drop (length (image c)) m) (needed c.max_var) (image-length v);
    }

-- loading what write gives for a held circuit leaves the same needed words
pub same-words : {m : List ℕ} {c : Circuit} → Holds m c → (m₂ : List ℕ)
    → take (needed c.max_var) (front (image c) m₂) ≡ take (needed c.max_var) m
same-words {m} {c} h m₂ =
    take_at (image c) (drop (length (image c)) m₂) (needed c.max_var) (image-length (held-valid h)) ∙ sym h.words
