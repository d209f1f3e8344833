-- `pinned_search::in_full` meets its contract. Assumes nothing.
use mathlib.Core.Path.{refl, ap, ◌∙◌}
use Prim.Native.Nat.{ℕ, ◌+◌}
use native.Mathlib.Omega.{arith}
use borrow.Author.Rules.{rules}
use Rattle.aiger.specs.Load.{gives}
use Rattle.aiger.specs.Operations.{front}
use Rattle.pins.specs.Pins.{pins_of}
use Rattle.expansion.specs.Rows.{expanded}
use Rattle.search.specs.Chosen.{found_report}
use Rattle.search.proofs.Within.{length-word}
use Rattle.pinned_search.proofs.Answers.{expand-room}
use Rattle.pinned_search.proofs.in_full.Statement.{statement}
use Rattle.pinned_search.proofs.in_full.Tie as tie

rows-at-requires : tie.Need-rows_at-start-requires
rows-at-requires c κs =
    let h = rw c.in-Found.is at c.requires in
    omega (arith, h.0.latches)

cast-expand : tie.Need-overflow_cast-t
cast-expand c =
    let h = rw c.in-Found.is at c.requires in
    omega (arith, h.3)

expand-requires : tie.Need-expand-requires
expand-requires c κs =
    let h = rw c.in-Found.is at c.requires in
    expand-room (pins_of c.args.pins.now c.args.user) c.args.out.now refl h c.rows_at-start.ensures

cast-witness-length : tie.Need-overflow_cast-t-in-Found
cast-witness-length c =
    let h = rw c.in-Found.is at c.requires in
    omega (arith, h.3)

witness-length-requires : tie.Need-witness_length-length-requires
witness-length-requires c κs =
    let h = rw c.in-Found.is at c.requires in
    (h.0, h.3)

cast-t21 : tie.Need-overflow_cast-result
cast-t21 c =
    let h = rw c.in-Found.is at c.requires in
    omega (arith, length-word c.args.layout c.args.b _ h.0 h.2 h.3, c.witness_length-length.ensures)

same_length : tie.Need-shape_of-out
same_length c = c.expand.auto.out

returns : tie.Need-returns-in-Found
returns c =
    let a = c.args in
    let t = c.in-Found.t in
    rw c.in-Found.is (
      ap (λ (n : ℕ). gives (found_report t n)) c.witness_length-length.ensures,
      c.expand.ensures
          ∙ ap (λ (s : ℕ). front (expanded a.out.now (pins_of a.pins.now a.user) a.layout.i s (t + 1)) a.out.now) c.rows_at-start.ensures,
    )

returns-2 : tie.Need-returns-in-Nothing
returns-2 c = rw c.in-Nothing.is (refl, refl)

returns-3 : tie.Need-returns-in-Spent
returns-3 c = rw c.in-Spent.is (refl, refl)

returns-4 : tie.Need-returns-in-Refused
returns-4 c = rw c.in-Refused.is (refl, refl)

pub in_full_spec : {M : Type 1} → statement M
in_full_spec =
    tie.close
    (tie.spec (λ c. search rules) rows-at-requires cast-expand expand-requires cast-witness-length witness-length-requires cast-t21 (λ c. search rules) (λ c. search rules) (λ c. search rules) same_length returns returns-2 returns-3 returns-4)
