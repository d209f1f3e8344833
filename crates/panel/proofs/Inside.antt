-- What is to be printed for a query lies within line and output. Assumes nothing.
use mathlib.Core.List.{List}
use Prim.Native.Nat.{ℕ, ◌≤◌}
use lib.ListN.{length}
use Rattle.replies.specs.declared.Report.{Report}
use Rattle.replies.proofs.Putting.{fronts-inside}
use Rattle.call_forms.specs.History.{State}
use Rattle.panel_lines.specs.declared.Query.{Query}
use Rattle.panel_lines.specs.declared.Query.TheVariants.{Pin, Search, Fold, Write, Generate, SearchFrom}
use Rattle.panel.specs.Answers.{Queried}

pub query-inside : (q : Query) (user : ℕ) (s : State) (out line : List ℕ) (r : Report) (s' : State) (out' line' : List ℕ)
    → Queried q user s out line r s' out' line' → (r.line ≤ length line') × (r.out ≤ length out')
query-inside (Pin input value) user s out line r s' out' line' x = (fronts-inside x.line-is, x.inside)
query-inside (Search b k D) user s out line r s' out' line' x = (fronts-inside x.line-is, x.inside)
query-inside (Fold b t) user s out line r s' out' line' x = (fronts-inside x.line-is, x.inside)
query-inside (Write form) user s out line r s' out' line' x = (fronts-inside x.line-is, x.inside)
query-inside (Generate seed i l a) user s out line r s' out' line' x = (fronts-inside x.line-is, x.inside)
query-inside (SearchFrom b t place D) user s out line r s' out' line' x = (fronts-inside x.line-is, x.inside)
