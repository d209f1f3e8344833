-- `pinned_search::search` meets its contract. Assumes nothing.
use mathlib.Core.Path.{◌≡◌, sym, ◌∙◌}
use native.Mathlib.Omega.{arith}
use borrow.Author.Rules.{rules}
use Rattle.pins.specs.Pins.{pins_of}
use Rattle.pinning.proofs.Free.{held-free, plain-searched}
use Rattle.pinned_search.proofs.Answers.{plain-report, searched-for}
use Rattle.pinned_search.proofs.search.Statement.{statement}
use Rattle.pinned_search.proofs.search.Tie as tie

none-held-requires : tie.Need-none_held-requires
none-held-requires c κs = omega arith

search-requires : tie.Need-search-requires
search-requires c κs = tt

same_length : tie.Need-shape_of-work-then-none_held
same_length c = c.search.auto.work

same-length-2 : tie.Need-shape_of-out-then-none_held
same-length-2 c = c.search.auto.out

returns : tie.Need-returns-then-none_held
returns c =
    let a = c.args in
    let q = pins_of a.pins.now a.user in
    plain-searched q (held-free q (sym c.none_held.ensures ∙ c.if-none_held.true)) plain-report c.search.ensures

search-held-requires : tie.Need-search_held-requires
search-held-requires c κs = omega arith

same-length-3 : tie.Need-shape_of-work-then-user-eq0
same-length-3 c = c.search_held.auto.work

same-length-4 : tie.Need-shape_of-out-then-user-eq0
same-length-4 c = c.search_held.auto.out

returns-2 : tie.Need-returns-then-user-eq0
returns-2 c = searched-for c.args.pins.now c.if-user-eq0.true c.search_held.ensures

search-held-requires-2 : tie.Need-search_held-requires-2
search-held-requires-2 c κs = omega arith

same-length-5 : tie.Need-shape_of-work
same-length-5 c = c.search_held-2.auto.work

same-length-6 : tie.Need-shape_of-out
same-length-6 c = c.search_held-2.auto.out

returns-3 : tie.Need-returns
returns-3 c =
    let a = c.args in
    let u : a.user ≡ 1 = omega (arith, c.requires, c.if-user-eq0.false) in
    searched-for a.pins.now u c.search_held-2.ensures

pub search_spec : {M : Type 1} → statement M
search_spec =
    tie.close
    (tie.spec none-held-requires search-requires same_length same-length-2 returns search-held-requires same-length-3 same-length-4 returns-2 search-held-requires-2 same-length-5 same-length-6 returns-3)
