-- What the steps of a pinned search require and answer. Assumes nothing.
use Rattle.std.specs.Prelude.{◌≡◌, List, ℕ, ◌+◌, ◌≤◌, ◌<◌, T, length}
use Rattle.aiger.specs.Text.{digits}
use Rattle.aiger.specs.Circuit.{Circuit}
use Rattle.aiger.specs.Load.{Answer, refused, gives}
use Rattle.aiger.specs.Memory.{Holds}
use Rattle.aiger.specs.Search.{Report, NeverOf, reached_right, question, permitted}
use Rattle.aiger.specs.Operations.{front, judge, search_tests, shown}
use Rattle.layout.specs.Words.{circuit_in}
use Rattle.layout.specs.Layout.{LayoutOf}
use Rattle.layout.specs.declared.Layout.{Layout}
use Rattle.pins.specs.Pins.{pinned}
use Rattle.pinning.specs.Operations.{pinned_report, pinned_shown}
use Rattle.limits.specs.Limits.{Limited, length_of}
use Rattle.expansion.specs.Rows.{expanded}
use Rattle.search.specs.Chosen.{chosen, found_report, none_report, spent_report}
use Rattle.search.specs.declared.SearchAnswer.{SearchAnswer}
use Rattle.search.specs.declared.SearchAnswer.TheVariants.{Found, Nothing, Spent, Refused}

-- where the rows of a witness for b begin
abbrev pub rows_start : Layout → ℕ → ℕ
rows_start p b = 4 + length (digits b) + (p.l + 1)

-- what writing the witness of an answer out requires: room for it, where there is one
abbrev pub FullFits : Layout → ℕ → ℕ → SearchAnswer → ℕ → Type 0
FullFits p user b (Found t n) len = Limited p × (user ≤ 1) × (b < p.b) × (t ≤ 255) × (length_of p b t ≤ len)
FullFits p user b (Nothing n flag) len = Unit {0}
FullFits p user b (Spent t R) len = Unit {0}
FullFits p user b (Refused n) len = Unit {0}

-- the answer with its witness written out under the pins q, at the front of the output that held it
abbrev pub InFull : Layout → (ℕ → ℕ) → ℕ → SearchAnswer → List ℕ → Answer Report → List ℕ → Type 0
InFull p q b (Found t n) out a out' =
    (a ≡ gives (found_report t (length_of p b t))) × (out' ≡ front (expanded out q p.i (rows_start p b) (t + 1)) out)
InFull p q b (Nothing n flag) out a out' = (a ≡ gives (none_report n flag)) × (out' ≡ out)
InFull p q b (Spent t R) out a out' = (a ≡ gives (spent_report t R)) × (out' ≡ out)
InFull p q b (Refused n) out a out' = (a ≡ refused n) × (out' ≡ out)

-- a circuit, a user who is known, and tests that pass with `room` words of working memory and `len` bytes
pub record PinnedFits (m : List ℕ) (p : Layout) (user b k D room len : ℕ) : Type 0 where
  pub held : Holds m (circuit_in m)
  pub layout_of : LayoutOf m p
  pub user-of : user ≤ 1
  pub tests : judge (search_tests (circuit_in m) b k D room len) ≡ gives tt

-- what the search of the pinned circuit answers and leaves
pub record TextIs (c : Circuit) (q : ℕ → ℕ) (b k D : ℕ) (before : List ℕ) (a : Answer Report) (after : List ℕ) : Type 0 where
  pub says : a ≡ gives (chosen (pinned c q) b k D)
  pub allowed : T (permitted (pinned c q) b k D (chosen (pinned c q) b k D).outcome)
  pub never : NeverOf (question (pinned c q) b) k (chosen (pinned c q) b k D)
  pub told : T (reached_right (question (pinned c q) b) D (chosen (pinned c q) b k D).outcome (chosen (pinned c q) b k D).reached)
  pub shows : after ≡ shown (pinned c q) b (chosen (pinned c q) b k D).outcome before

-- what a pinned search answers and leaves
pub record OutputIs (c : Circuit) (q : ℕ → ℕ) (b k D : ℕ) (before : List ℕ) (a : Answer Report) (after : List ℕ) : Type 0 where
  pub says : a ≡ gives (pinned_report c b (chosen (pinned c q) b k D))
  pub allowed : T (permitted (pinned c q) b k D (chosen (pinned c q) b k D).outcome)
  pub never : NeverOf (question (pinned c q) b) k (chosen (pinned c q) b k D)
  pub told : T (reached_right (question (pinned c q) b) D (chosen (pinned c q) b k D).outcome (chosen (pinned c q) b k D).reached)
  pub shows : after ≡ pinned_shown c q b (chosen (pinned c q) b k D).outcome before
