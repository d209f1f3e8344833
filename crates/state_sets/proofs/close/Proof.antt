-- `state_sets::close` meets its contract. Assumes nothing.
use mathlib.Core.Path.{◌≡◌, refl, sym, ap, ◌∙◌}
use Prim.Native.Nat.{ℕ, suc, ◌+◌, ◌-◌, ◌*◌, ◌≤◌, ◌<◌}
use native.Mathlib.Omega.{arith}
use borrow.Author.Rules.{rules}
use lib.ListN.{length, get_or, set}
use lib.ListN.{length-set}
use Rattle.diagrams.specs.States.{state_of, left}
use Rattle.state_sets.proofs.Follow.{closed_none, closed-edge}
use Rattle.state_sets.proofs.close.Statement.{statement}
use Rattle.state_sets.proofs.close.Tie as tie

slice-write-table-3 : tie.Need-bounds-table-next
slice-write-table-3 c = simp length-set (omega (arith, c.requires))

same_length : tie.Need-shape_of-w-in-Err
same_length c = c.either.auto.w

returns : tie.Need-returns-in-Err
returns c =
    let a = c.args in
    closed_none a.next a.table.now (state_of a.w.now) (state_of c.either.new.w)
    (ap (left c.either.new.w) (sym c.in-Err.is) ∙ c.either.ensures)

same-length-2 : tie.Need-shape_of-w-in-Ok
same-length-2 c = c.either.auto.w

returns-2 : tie.Need-returns-in-Ok
returns-2 c =
    let a = c.args in
    closed-edge a.next a.table.now (state_of a.w.now) (state_of c.either.new.w) c.in-Ok.e
    (ap (left c.either.new.w) (sym c.in-Ok.is) ∙ c.either.ensures)

pub close_spec : {M : Type 1} → statement M
close_spec =
    tie.close
    (tie.spec (λ c. search rules) (λ c. search rules) (λ c κs. search rules) (λ c. search rules) (λ c. search rules) (λ c. search rules) (λ c. search rules) (λ c. search rules) slice-write-table-3 same_length returns same-length-2 (λ c. search rules) returns-2)
