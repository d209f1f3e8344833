-- What the steps of a pinned fold require and answer. Assumes nothing.
use Rattle.std.specs.Prelude.{◌≡◌, List, ℕ, ◌≤◌}
use Rattle.aiger.specs.Circuit.{Circuit}
use Rattle.aiger.specs.Load.{Answer, gives}
use Rattle.aiger.specs.Memory.{Holds}
use Rattle.aiger.specs.Operations.{FoldEffect, judge, fold_tests}
use Rattle.layout.specs.Words.{circuit_in}
use Rattle.layout.specs.Layout.{LayoutOf}
use Rattle.layout.specs.declared.Layout.{Layout}
use Rattle.pins.specs.Pins.{pinned}
use Rattle.fold.specs.Chosen.{chosen}

-- a circuit, a user who is known, and tests that pass with `room` words of working memory and `len` bytes
pub record FoldFits (m : List ℕ) (p : Layout) (user b t room len : ℕ) : Type 0 where
  pub held : Holds m (circuit_in m)
  pub layout_of : LayoutOf m p
  pub user-of : user ≤ 1
  pub tests : judge (fold_tests (circuit_in m) b t room len) ≡ gives tt

-- what the fold of the pinned circuit answers and leaves
pub record FoldIs (c : Circuit) (q : ℕ → ℕ) (b t : ℕ) (before : List ℕ) (a : Answer ℕ) (after : List ℕ) : Type 0 where
  pub length-of : ℕ
  pub says : a ≡ gives length-of
  pub work : List ℕ
  pub effect : FoldEffect chosen b t before (pinned c q) length-of (work, after)
