-- `replay::count_rows` meets its contract. Assumes nothing.
use mathlib.Core.Path.{sym, ◌∙◌}
use mathlib.Core.List.{List}
use Prim.Native.Nat.{ℕ, ◌-◌, ◌≤◌}
use native.Mathlib.Omega.{arith}
use borrow.Author.Rules.{rules}
use Rattle.completions.specs.Forms.{SameForm}
use Rattle.witness.proofs.Lines.{on_read, on-malformed}
use Rattle.replay.proofs.Lines.{Turn, begin, ended, full, no_row, more}
use Rattle.replay.proofs.count_rows.Statement.{statement}
use Rattle.replay.proofs.count_rows.Tie as tie

abbrev invariant-loop : tie.invariant-loop-rows
invariant-loop text at count next₀ rows₀ next rows = (rows ≤ 256) × ((u : List ℕ) → SameForm text u → Turn u at count next rows)

abbrev decreases-loop : tie.decreases-loop-rows
decreases-loop text at count next₀ rows₀ next rows = 256 - rows

-- the entry, from the loop's head
abbrev start : tie.At-loop-rows invariant-loop decreases-loop → tie.Start invariant-loop decreases-loop
start l = l.before.before

loop-holds : tie.Need-loop-rows-init invariant-loop decreases-loop
loop-holds c = (omega arith, λ u h. begin u c.args.at c.args.count (omega (arith, c.requires, h.size)))

is-last-requires : tie.Need-is_last-requires invariant-loop decreases-loop
is-last-requires c κs = tt

returns : tie.Need-returns-then-is_last invariant-loop decreases-loop
returns c = λ u h.
    let a = (start c.before.before.before).args in
    ended u a.at a.count (c.loop-rows.invariant.1 u h) (sym (c.is_last.ensures u h) ∙ c.if-is_last.true)

read-symbols-requires : tie.Need-read_symbols-requires invariant-loop decreases-loop
read-symbols-requires c κs = tt

returns-2 : tie.Need-returns-in_default invariant-loop decreases-loop
returns-2 c = λ u h.
    let a = (start c.before.before.before.before.before).args in
    no_row u a.at a.count (c.loop-rows.invariant.1 u h) (omega arith) (sym (c.is_last.ensures u h) ∙ c.if-is_last.false)
    (on-malformed (c.read_symbols.ensures u h) c.in_default.is)

add-rows : tie.Need-overflow_add-rows invariant-loop decreases-loop
add-rows c = omega arith

loop-less : tie.Need-loop-rows-smaller invariant-loop decreases-loop
loop-less c = omega arith

loop-again : tie.Need-loop-rows-preserved invariant-loop decreases-loop
loop-again c =
    let a = (start c.before.before.before.before.before).args in (
      omega arith,
      λ u h.
          let r = on_read (c.read_symbols.ensures u h) c.in-Read.is in
          more u a.at a.count (c.loop-rows.invariant.1 u h) (omega arith) (sym (c.is_last.ensures u h) ∙ c.if-is_last.false) r.0 r.1,
    )

is-last-requires-2 : tie.Need-is_last-requires-2 invariant-loop decreases-loop
is-last-requires-2 c κs = tt

returns-3 : tie.Need-returns-then-is_last-2 invariant-loop decreases-loop
returns-3 c = λ u h.
    let a = (start c.before.before.before).args in
    ended u a.at a.count (c.loop-rows.invariant.1 u h) (sym (c.is_last-2.ensures u h) ∙ c.if-is_last-2.true)

returns-4 : tie.Need-returns invariant-loop decreases-loop
returns-4 c = λ u h.
    let a = (start c.before.before.before).args in
    full u a.at a.count (c.loop-rows.invariant.1 u h) (omega arith) (sym (c.is_last-2.ensures u h) ∙ c.if-is_last-2.false)

pub count_rows_spec : {M : Type 1} → statement M
count_rows_spec =
    tie.close
    (tie.spec invariant-loop decreases-loop loop-holds is-last-requires returns read-symbols-requires (λ c. search rules) (λ c. search rules) returns-2 add-rows loop-less loop-again is-last-requires-2 returns-3 returns-4)
