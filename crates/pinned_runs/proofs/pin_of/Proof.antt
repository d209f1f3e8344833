-- `pinned_runs::pin_of` meets its contract. Assumes nothing.
use mathlib.Core.Path.{◌≡◌, sym, ◌∙◌}
use Prim.Native.Nat.{ℕ, ◌+◌, ◌-◌, ◌%◌}
use native.Mathlib.Omega.{arith}
use borrow.Author.Rules.{rules}
use lib.ListN.{get_or}
use Rattle.pinned_runs.proofs.Bytes.{place-before, place_after, place_end, place_in, get_d_any, get_d_past}
use Rattle.pinned_runs.proofs.pin_of.Statement.{statement}
use Rattle.pinned_runs.proofs.pin_of.Tie as tie

-- the pins of the user
abbrev pins_in : tie.Start → ℕ → ℕ
pins_in s i = get_or s.args.own.now i 2

abbrev column : tie.Start → ℕ
column s = (s.args.k - s.args.rows.first) % (s.args.rows.inputs + 1)

returns : tie.Need-returns-then-k-rows
returns c =
    let r = c.args.rows in
    place-before (pins_in c.before.before) r.first r.inputs r.end c.args.k (omega arith)

returns-2 : tie.Need-returns-then-rows-k
returns-2 c =
    let r = c.args.rows in
    place_after (pins_in c.before.before.before.before) r.first r.inputs r.end c.args.k (omega arith)

returns-3 : tie.Need-returns-then-rows-column
returns-3 c =
    let r = c.args.rows in
    place_end (pins_in c.before.before.before.before.before.before.before.before) r.first r.inputs r.end c.args.k c.if-rows-column.true

returns-4 : tie.Need-returns-then-own-column
returns-4 c =
    let r = c.args.rows in
    sym (place_in (pins_in c.before.before.before.before.before.before.before.before.before) r.first r.inputs r.end c.args.k (omega arith) (omega arith) c.if-rows-column.false
    ∙ get_d_past c.args.own.now (column c.before.before.before.before.before.before.before.before.before) 2 c.if-own-column.true)

returns-5 : tie.Need-returns
returns-5 c =
    let r = c.args.rows in
    get_d_any c.args.own.now (column c.before.before.before.before.before.before.before.before.before.before) 0 2 c.if-own-column.false
    ∙ sym (place_in (pins_in c.before.before.before.before.before.before.before.before.before.before) r.first r.inputs r.end c.args.k (omega arith) (omega arith) c.if-rows-column.false)

pub pin_of_spec : {M : Type 1} → statement M
pin_of_spec =
    tie.close
    (tie.spec returns returns-2 (λ c. search rules) (λ c. search rules) returns-3 returns-4 (λ c. search rules) returns-5)
