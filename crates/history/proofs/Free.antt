-- With all pins of a user free every operation is what it is without users. Clause 12.7. Assumes nothing.
use mathlib.Core.Path.{◌≡◌, refl}
use mathlib.Core.Bool.{false}
use mathlib.Core.List.{List}
use Prim.Native.Nat.{ℕ, ◌≤◌}
use native.Mathlib.Omega.{arith}
use Rattle.aiger.specs.Circuit.{Circuit}
use Rattle.aiger.specs.Load.{Answer}
use Rattle.aiger.specs.Search.{Report}
use Rattle.aiger.specs.Operations.{Searched, Folded}
use Rattle.pins.specs.Pins.{is_held, pins_of}
use Rattle.pinning.proofs.Free.{searched-plain, folded-plain}
use Rattle.pinning.specs.Operations.{pinned_report}
use Rattle.pinning.proofs.FromPlace.{from-plain}
use Rattle.place_search.specs.Places.{Placed}
use Rattle.place_search.specs.Operation.{PlaceSearched}
use Rattle.completions.specs.Either.{Verdict}
use Rattle.completions.specs.Operations.{EitherReplayed, Widened}
use Rattle.pinned_runs.proofs.Free.{replayed-free, widened-free}
use Rattle.search.specs.Chosen.{chosen}
use Rattle.load.specs.declared.Judgement.{Judgement}
use Rattle.load.specs.Preview.{Previewed}
use Rattle.load.specs.Answers.{answered}
use Rattle.call_forms.specs.Table.{Row, preview_row, search_row, search_from_row, fold_row, replay_row, widen_row}
use Rattle.call_forms.specs.Forms.{Replaced, UserSearched, UserSearchedFrom, UserFolded, UserReplayed, UserWidened, UserPreviewed}
use Rattle.call_forms.proofs.Tests.{known_only}

pub known-preview : {room : ℕ} {f : List ℕ} (user : ℕ) → user ≤ 1 → (r : Judgement) → UserPreviewed room f user (answered r.answer) r.needed
    → Previewed room f r
known-preview user u r x =
    let p = known_only preview_row user u (answered r.answer) r.needed x in
    record { answer = p.0; needed = p.1 }

-- a load and a join of user 0
pub first-replaces : (row : Row) {m pins : List ℕ} (P : Answer (List ℕ) → List ℕ → Type 0) (a : Answer (List ℕ)) (m' pins' : List ℕ)
    → Replaced row 0 m pins P a m' pins' → P a m'
first-replaces row P a m' pins' x = (known_only row 0 (omega arith) a (m', pins') x).0

-- ---- operations under pins

-- what the search reports of the circuit itself has the length of its witness
plain-report : (c : Circuit) (b k D : ℕ) → pinned_report c b (chosen c b k D) ≡ chosen c b k D
unfolding chosen
plain-report c b k D = refl

module _ (pins : List ℕ) (user : ℕ) (u : user ≤ 1) (free : (i : ℕ) → is_held (pins_of pins user i) ≡ false) where
  abbrev q : ℕ → ℕ
  q = pins_of pins user

  pub searched-free : {m w w' out out' : List ℕ} {b k D : ℕ} {a : Answer Report} → UserSearched chosen m pins user b k D w out a w' out'
      → Searched chosen m b k D w out a w' out'
  searched-free {w' = w'} {out' = out'} {a = a} x =
      searched-plain q (λ c h k _ _. free k) plain-report (known_only search_row user u a (w', out') x)

  pub searched-from-free : {chosen : Circuit → ℕ → ℕ → ℕ → ℕ → Placed} {m w w' out out' : List ℕ} {b t place D : ℕ} {a : Answer Report}
      → UserSearchedFrom chosen m pins user b t place D w out a w' out' → PlaceSearched chosen m b t place D w out a w' out'
  searched-from-free {w' = w'} {out' = out'} {a = a} x = from-plain q (λ c h k _ _. free k) (known_only search_from_row user u a (w', out') x)

  pub folded-free : {chosen : Circuit → ℕ → ℕ → Circuit} {m w w' out out' : List ℕ} {b t : ℕ} {a : Answer ℕ}
      → UserFolded chosen m pins user b t w out a w' out' → Folded chosen m b t w out a w' out'
  folded-free {w' = w'} {out' = out'} {a = a} x = folded-plain q (λ c h k _ _. free k) (known_only fold_row user u a (w', out') x)

  pub user-replayed-free : {m witness : List ℕ} {a : Answer Verdict} → UserReplayed m pins user witness a → EitherReplayed m witness a
  user-replayed-free {a = a} x = replayed-free q free (known_only {S = Unit {0}} replay_row user u a tt x)

  pub user-widened-free : {m witness out out' : List ℕ} {a : Answer ℕ} → UserWidened m pins user witness out a out' → Widened m witness out a out'
  user-widened-free {out' = out'} {a = a} x = widened-free q free (known_only widen_row user u a out' x)
