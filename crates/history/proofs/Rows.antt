-- Each call does what its row in the table of operations says: it changes nothing else, and refuses who may not call it. Clause 12.7.
-- Assumes nothing.
use mathlib.Core.Path.{◌≡◌, refl, ap, ◌∙◌}
use mathlib.Core.List.{List, []}
use Prim.Native.Nat.{ℕ, ◌+◌, ◌*◌, ◌≤◌, ◌<◌}
use native.Mathlib.Omega.{arith}
use lib.ListN.{length, get_or, length-set}
use lib.Seq.{get_or-set_other}
use Rattle.aiger.specs.Load.{Answer, refused, gives}
use Rattle.aiger.specs.Operations.{Loaded, Operated, Test}
use Rattle.joined.specs.Joined.{JoinedInto}
use Rattle.meaning.proofs.Lists.{length-map-upto}
use Rattle.call_forms.specs.Table.{load_row, pin_row, search_row, search_from_row, fold_row, write_row, preview_row, join_row, replay_row, widen_row, waveform_row, generate_row}
use Rattle.call_forms.specs.Forms.{Tested, free_byte, shared_after, PinSet}
use Rattle.call_forms.specs.History.{State, Call, Returned, Step, user_of, row_of, refusal_of, Changed}
use Rattle.call_forms.proofs.Tests.{first-refuses}
use Rattle.history.proofs.Calls.{Replacing, pin-within}

shared_long : (a : Answer (List ℕ)) (p : List ℕ) → length (shared_after a p) ≡ length p
shared_long (refused n) p = refl
shared_long (gives counts) p = length-map-upto free_byte (length p)

replaced-changes : (s : State) {tests : List Test} (P : Answer (List ℕ) → List ℕ → Type 0) {x : Answer (List ℕ)} {m₁ p₁ : List ℕ} → Replacing tests s P x m₁ p₁
    → length p₁ ≡ length s.pins
replaced-changes s P (Tested.refuses k) = refl
replaced-changes s P {x = x} (Tested.passes k l) = ap length l.1 ∙ shared_long x s.pins

pin-changes : (user input value : ℕ) {m p p₁ : List ℕ} {x : Answer (Unit {0})} → PinSet m user input value p x p₁
    → (length p₁ ≡ length p) × ((i : ℕ) → (256 * user ≤ i → i < 256 * user + 256 → ⊥) → get_or p₁ i 2 ≡ get_or p i 2)
pin-changes user input value (Tested.refuses h) = (refl, λ i l. refl)
pin-changes user input value (Tested.passes h (Operated.no_circuit f)) = (refl, λ i l. refl)
pin-changes user input value (Tested.passes h (Operated.refuses c k j)) = (refl, λ i l. refl)
pin-changes user input value {p = p} (Tested.passes h (Operated.acts c k j f)) =
    let w = (pin-within user input (length p) k j).0 in
    rw f (
      length-set p (256 * user + input) value,
      λ i l. get_or-set_other p (256 * user + input) i value 2 (λ e. l (omega (arith, e)) (omega (arith, e, w))),
    )

pub changes-own : {c : Call} {r : Returned} {s s₁ : State} → Step s c r s₁ → Changed (row_of c).changes (user_of c) s s₁
changes-own {s = s} (Step.loads {file = file} x) = (refl, replaced-changes s (Loaded s.memory file) x)
changes-own (Step.pins {user = user} {input = input} {value = value} x) =
    let z = pin-changes user input value x in
    (refl, refl, z.0, z.1)
changes-own (Step.searches x e) = (refl, refl, e)
changes-own (Step.searches_from x e) = (refl, refl, e)
changes-own (Step.folds x e) = (refl, refl, e)
changes-own (Step.writes x) = (refl, refl, refl)
changes-own (Step.previews x) = (refl, refl, refl)
changes-own {s = s} (Step.joins {first = first} {second = second} x) = (refl, replaced-changes s (JoinedInto first second s.memory) x)
changes-own (Step.replays x) = (refl, refl, refl)
changes-own (Step.widens x) = (refl, refl, refl)
changes-own (Step.waveforms x) = (refl, refl, refl)
changes-own (Step.generates x) = (refl, refl, refl)

pub strangers-refused : {c : Call} {r : Returned} {s s₁ : State} → Step s c r s₁ → (row_of c).last < user_of c → refusal_of r ≡ 18
strangers-refused (Step.loads {user = user} x) h = ap (λ (a : Answer (List ℕ)). refusal_of (Returned.loaded a)) (first-refuses load_row user [] h x).0
strangers-refused (Step.pins {user = user} x) h = ap (λ (a : Answer (Unit {0})). refusal_of (Returned.pinned a)) (first-refuses pin_row user _ h x).0
strangers-refused (Step.searches {user = user} {out' = o} x e) h = ap (λ a. refusal_of (Returned.searched a o)) (first-refuses search_row user [] h x).0
strangers-refused (Step.searches_from {user = user} {out' = o} x e) h = ap (λ a. refusal_of (Returned.searched a o)) (first-refuses search_from_row user [] h x).0
strangers-refused (Step.folds {user = user} {out' = o} x e) h = ap (λ a. refusal_of (Returned.folded a o)) (first-refuses fold_row user [] h x).0
strangers-refused (Step.writes {user = user} {out' = o} x) h = ap (λ a. refusal_of (Returned.written a o)) (first-refuses write_row user _ h x).0
strangers-refused (Step.previews {user = user} {n = n} x) h = ap (λ a. refusal_of (Returned.previewed a n)) (first-refuses preview_row user [] h x).0
strangers-refused (Step.joins {user = user} x) h = ap (λ (a : Answer (List ℕ)). refusal_of (Returned.loaded a)) (first-refuses join_row user [] h x).0
strangers-refused (Step.replays {user = user} x) h = ap (λ a. refusal_of (Returned.replayed a)) (first-refuses replay_row user [] h x).0
strangers-refused (Step.widens {user = user} {out' = o} x) h = ap (λ a. refusal_of (Returned.written a o)) (first-refuses widen_row user [] h x).0
strangers-refused (Step.waveforms {user = user} {out' = o} x) h = ap (λ a. refusal_of (Returned.written a o)) (first-refuses waveform_row user [] h x).0
strangers-refused (Step.generates {user = user} {out' = o} x) h = ap (λ a. refusal_of (Returned.written a o)) (first-refuses generate_row user [] h x).0
