-- From what the operations answer to users to what is printed. Assumes nothing.
use mathlib.Core.Path.{◌≡◌, refl, sym, ap, ◌∙◌, subst}
use mathlib.Core.List.{List, [], ◌∷◌, ◌++◌}
use Prim.Native.Nat.{ℕ, ◌≤◌, ◌<◌}
use native.Mathlib.Omega.{arith}
use lib.Dec.{T, leb}
use lib.ListN.{length, drop, length-append, length-take}
use Rattle.aiger.specs.Circuit.{Circuit}
use Rattle.aiger.specs.Load.{Answer, refused, gives}
use Rattle.aiger.specs.Search.{Outcome, Report, permitted_of}
use Rattle.aiger.specs.Witness.{witness_length}
use Rattle.aiger.specs.Write.{write}
use Rattle.aiger.specs.Operations.{Operated, Written, front, need, budget_right, shown_length}
use Rattle.meaning.proofs.Outcomes.{found-out}
use Rattle.limits.proofs.Sizes.{length-within}
use Rattle.limits.proofs.Refusals.{passed, length-enough}
use Rattle.job.specs.Replies.{told_length}
use Rattle.load.specs.Answers.{answered}
use Rattle.load.specs.declared.LoadAnswer.{LoadAnswer}
use Rattle.load.specs.declared.LoadAnswer.TheVariants.{Loaded, Refused}
use Rattle.pins.specs.Pins.{pins_of, pinned, pinned_question}
use Rattle.preview_command.specs.Texts.{answer_line}
use Rattle.search.specs.Chosen as Search
use Rattle.search.specs.declared.SearchAnswer.{SearchAnswer}
use Rattle.fold.specs.Chosen as Fold
use Rattle.pinning.specs.Operations.{PinnedSearched}
use Rattle.pinning.specs.FromPlace.{PinnedSearchedFrom}
use Rattle.place_search.specs.Places.{Placed, outcome_of}
use Rattle.place_limits.proofs.Passing.{place-passed}
use Rattle.place_decision.specs.Reach.{place_chosen}
use Rattle.call_forms.specs.Table.{search_row, search_from_row}
use Rattle.call_forms.specs.Forms.{Tested, ForUser, UserSearched, UserSearchedFrom, UserFolded, UserWritten, UserGenerated}
use Rattle.writer.specs.Forms.{InForm}
use Rattle.generated.proofs.Theorems.{generated-made}
use Rattle.renumbered.specs.Renumbered.{write_binary}
use Rattle.panel.specs.Answers.{load_words}

-- the line of a load
pub load-words : (x : LoadAnswer) → answer_line x ≡ load_words (answered x)
load-words (Loaded k) = refl
load-words (Refused n) = refl

-- ---- what is printed after the line lies in the output

front-inside : (text out : List ℕ) {out' : List ℕ} {n : ℕ} → n ≡ length text → out' ≡ front text out → n ≤ length out'
front-inside text out e f = omega (arith, ap length f, length-append text (drop (length text) out))

pub fold-inside : (m pins w out : List ℕ) {w' out' : List ℕ} (user b t : ℕ) {n : ℕ} → UserFolded Fold.chosen m pins user b t w out (gives n) w' out'
    → n ≤ length out'
fold-inside m pins w out user b t (Tested.passes k (Operated.acts c h j e)) = front-inside (write (Fold.chosen (pinned c (pins_of pins user)) b t)) out e.count e.shows

pub write-inside : (m out : List ℕ) (user form : ℕ) {out' : List ℕ} {n : ℕ} → UserWritten m user form out (gives n) out' → n ≤ length out'
write-inside m out user form (Tested.passes k (InForm.text f (Operated.acts c h j e))) = front-inside (write c) out e.count e.shows
write-inside m out user form (Tested.passes k (InForm.binary f (Operated.acts c h j e))) = front-inside (write_binary c) out e.count e.shows

pub generate-inside : (user seed i l a : ℕ) (out : List ℕ) {out' : List ℕ} {n : ℕ} → UserGenerated user seed i l a out (gives n) out' → n ≤ length out'
generate-inside user seed i l a out {out' = out'} {n = n} (Tested.passes k g) =
    let m = generated-made g in
    omega (arith, length-take n out', ap length m.text, m.count)

-- ---- a search

-- a permitted outcome shows no more than the output was tested for
outcome-within : (c : Circuit) (q : ℕ → ℕ) (b k D : ℕ) (o : Outcome) → T (permitted_of (pinned_question c q b) k D o) → shown_length c b o ≤ witness_length c b k
outcome-within c q b k D (Outcome.found t) p = length-within c b t k (found-out (pinned_question c q b) k D t p).within
outcome-within c q b k D (Outcome.none n) p = omega arith
outcome-within c q b k D (Outcome.spent t) p = omega arith

module _ (m pins w out : List ℕ) (user b k D : ℕ) where
  told-within : {a : Answer Report} {l : List ℕ × List ℕ}
      → ForUser search_row user (w, out) (PinnedSearched Search.chosen m (pins_of pins user) b k D w out) a l → told_length a ≤ length out
  told-within (Tested.refuses h) = omega arith
  told-within (Tested.passes u (Operated.no_circuit h)) = omega arith
  told-within (Tested.passes u (Operated.refuses c h j)) = omega arith
  told-within (Tested.passes u (Operated.acts c {a = o} h j e)) =
      let p = passed c b k (budget_right D) (length w) (need 13 (leb (witness_length c b k) (length out)) ∷ []) j in
      omega (
        arith,
        e.measured,
        outcome-within c (pins_of pins user) b k D o.outcome e.allowed,
        length-enough (witness_length c b k) (length out) p.1,
      )

  pub shown-inside : (a : SearchAnswer) {w' out' : List ℕ} {n : ℕ} → UserSearched Search.chosen m pins user b k D w out (Search.said a) w' out'
      → length out' ≡ length out → n ≡ told_length (Search.said a) → n ≤ length out'
  shown-inside a s l e = omega (arith, told-within s)

-- ---- a search from a place

placed-within : (c : Circuit) (b t : ℕ) (a : Placed) → shown_length c b (outcome_of t a) ≤ witness_length c b t
placed-within c b t (Placed.hit x) = omega arith
placed-within c b t Placed.clear = omega arith
placed-within c b t (Placed.spent R) = omega arith

module _ (m pins w out : List ℕ) (user b t place D : ℕ) where
  from-within : {a : Answer Report} {l : List ℕ × List ℕ}
      → ForUser search_from_row user (w, out) (PinnedSearchedFrom place_chosen m (pins_of pins user) b t place D w out) a l → told_length a ≤ length out
  from-within (Tested.refuses h) = omega arith
  from-within (Tested.passes u (Operated.no_circuit h)) = omega arith
  from-within (Tested.passes u (Operated.refuses c h j)) = omega arith
  from-within (Tested.passes u (Operated.acts c {a = o} h j e)) =
      let d = pinned c (pins_of pins user) in
      omega (
        arith,
        ap (λ (r : Report). r.length) e.chose,
        placed-within c b t (place_chosen d b t place D),
        (place-passed d c b t place D (length w) (length out) j).output,
      )

  pub from-inside : (a : SearchAnswer) {w' out' : List ℕ} {n : ℕ} → UserSearchedFrom place_chosen m pins user b t place D w out (Search.said a) w' out'
      → length out' ≡ length out → n ≡ told_length (Search.said a) → n ≤ length out'
  from-inside a s l e = omega (arith, from-within s)
