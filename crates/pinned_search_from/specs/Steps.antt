-- What the steps of a search from a place under pins require and answer. Assumes nothing.
use Rattle.std.specs.Prelude.{◌≡◌, List, ℕ, ◌^◌, ◌≤◌, T}
use Rattle.aiger.specs.Circuit.{Circuit}
use Rattle.aiger.specs.Frames.{free_bits}
use Rattle.aiger.specs.Load.{Answer, gives}
use Rattle.aiger.specs.Memory.{Holds}
use Rattle.aiger.specs.Search.{Report, reaches}
use Rattle.aiger.specs.Operations.{judge}
use Rattle.layout.specs.Words.{circuit_in}
use Rattle.layout.specs.Layout.{LayoutOf}
use Rattle.layout.specs.declared.Layout.{Layout}
use Rattle.pins.specs.Pins.{pinned}
use Rattle.pinning.specs.FromPlace.{pinned_text_at}
use Rattle.place_search.specs.Places.{Placed, answers}
use Rattle.place_search.specs.Operation.{place_tests, report_of, shown_at, shown_from}
use Rattle.place_decision.specs.Reach.{place_chosen}

-- a circuit, a user who is known, and tests that pass with `room` words of working memory and `len` bytes
pub record PinnedFromFits (m : List ℕ) (p : Layout) (q : ℕ → ℕ) (user b t place D room len : ℕ) : Type 0 where
  pub held : Holds m (circuit_in m)
  pub layout_of : LayoutOf m p
  pub user-of : user ≤ 1
  pub tests : judge (place_tests (pinned (circuit_in m) q) (circuit_in m) b t place D room len) ≡ gives tt

-- what is chosen of the pinned circuit
abbrev pub chosen_under : Circuit → (ℕ → ℕ) → ℕ → ℕ → ℕ → ℕ → Placed
chosen_under c q b t place D = place_chosen (pinned c q) b t place D

-- what is chosen may be answered of the pinned circuit
abbrev pub AllowedUnder : Circuit → (ℕ → ℕ) → ℕ → ℕ → ℕ → ℕ → Type 0
AllowedUnder c q b t place D = T (answers (reaches (pinned c q) b t) (2 ^ free_bits (pinned c q) t) place D (chosen_under c q b t place D))

-- what the search of the pinned circuit answers and leaves
pub record FromTextIs (c : Circuit) (q : ℕ → ℕ) (b t place D : ℕ) (before : List ℕ) (a : Answer Report) (after : List ℕ) : Type 0 where
  pub says : a ≡ gives (report_of (pinned c q) b t (chosen_under c q b t place D))
  pub allowed : AllowedUnder c q b t place D
  pub shows : after ≡ shown_from (pinned c q) b t (chosen_under c q b t place D) before

-- what the search under pins answers and leaves
pub record FromOutputIs (c : Circuit) (q : ℕ → ℕ) (b t place D : ℕ) (before : List ℕ) (a : Answer Report) (after : List ℕ) : Type 0 where
  pub says : a ≡ gives (report_of c b t (chosen_under c q b t place D))
  pub allowed : AllowedUnder c q b t place D
  pub shows : after ≡ shown_at (pinned_text_at c q b t) (chosen_under c q b t place D) before
