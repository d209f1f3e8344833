-- `calls::widen` meets its contract. Assumes nothing.
use mathlib.Core.Path.{sym, ◌∙◌}
use borrow.Author.Rules.{rules}
use borrow.Author.Tests.{not-true, not-false}
use Rattle.call_forms.specs.Table.{widen_row}
use Rattle.call_forms.proofs.Tests.{known, stranger}
use mathlib.Core.Path.{refl, subst}
use Prim.Native.Nat.{ℕ}
use native.Mathlib.Omega.{arith}
use borrow.Author.Tests.{leb-true}
use lib.ListN.{length}
use Rattle.pinned_runs.specs.Obeys.{PinnedWidened}
use Rattle.pinned_runs.proofs.Lengths.{own_at, own-are}
use Rattle.widen.specs.Answer.{answered}
use Rattle.calls.proofs.widen.Statement.{statement}
use Rattle.calls.proofs.widen.Tie as tie

returns : tie.Need-returns-then-not-may
returns c = stranger widen_row c.args.user (sym c.may.ensures ∙ c.if-not-may.true)

cast-own-bytes : tie.Need-overflow_cast-user
cast-own-bytes c = omega (arith, leb-true c.args.user 1 (sym c.may.ensures ∙ c.if-not-may.false))

own-bytes-requires : tie.Need-own_bytes-own-requires
own-bytes-requires c κs = leb-true c.args.user 1 (sym c.may.ensures ∙ c.if-not-may.false)

sub-widen-under : tie.Need-slice_bounds-widen_under-count
sub-widen-under c = (own_at (length c.args.shared.now) c.args.user c.own_bytes-own.ensures).ordered

part-widen-under-start : tie.Need-slice_bounds-widen_under-start
part-widen-under-start c = (own_at (length c.args.shared.now) c.args.user c.own_bytes-own.ensures).ordered

part-widen-under-end : tie.Need-slice_bounds-widen_under-end
part-widen-under-end c = (own_at (length c.args.shared.now) c.args.user c.own_bytes-own.ensures).inside

returns-2 : tie.Need-returns
returns-2 c =
    let a = c.args in
    known widen_row a.user (sym c.may.ensures ∙ c.if-not-may.false)
    (subst (λ (q : ℕ → ℕ). PinnedWidened a.m.now q a.text.now a.out.now (answered c.widen_under.result) c.widen_under.new.out)
    (own-are a.shared.now _ a.user c.own_bytes-own.result refl
    (own_at (length c.args.shared.now) c.args.user c.own_bytes-own.ensures)) c.widen_under.ensures)

pub widen_spec : {M : Type 1} → statement M
widen_spec =
    tie.close
    (tie.spec (λ c κs. search rules) returns cast-own-bytes own-bytes-requires sub-widen-under part-widen-under-start part-widen-under-end (λ c κs. search rules) (λ c. search rules) returns-2)
