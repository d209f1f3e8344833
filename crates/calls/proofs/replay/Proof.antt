-- `calls::replay` meets its contract. Assumes nothing.
use mathlib.Core.Path.{sym, ◌∙◌}
use borrow.Author.Rules.{rules}
use borrow.Author.Tests.{not-true, not-false}
use Rattle.call_forms.specs.Table.{replay_row}
use Rattle.call_forms.proofs.Tests.{known, stranger}
use mathlib.Core.Path.{refl, subst}
use Prim.Native.Nat.{ℕ}
use native.Mathlib.Omega.{arith}
use borrow.Author.Tests.{leb-true}
use lib.ListN.{length}
use Rattle.pinned_runs.specs.Obeys.{PinnedReplayed}
use Rattle.pinned_runs.proofs.Lengths.{own_at, own-are}
use Rattle.replay.specs.Answer.{answered}
use Rattle.calls.proofs.replay.Statement.{statement}
use Rattle.calls.proofs.replay.Tie as tie

returns : tie.Need-returns-then-not-may
returns c = stranger replay_row c.args.user (sym c.may.ensures ∙ c.if-not-may.true)

cast-own-bytes : tie.Need-overflow_cast-user
cast-own-bytes c = omega (arith, leb-true c.args.user 1 (sym c.may.ensures ∙ c.if-not-may.false))

own-bytes-requires : tie.Need-own_bytes-own-requires
own-bytes-requires c κs = leb-true c.args.user 1 (sym c.may.ensures ∙ c.if-not-may.false)

sub-replay-under : tie.Need-slice_bounds-replay_under-count
sub-replay-under c = (own_at (length c.args.shared.now) c.args.user c.own_bytes-own.ensures).ordered

part-replay-under-start : tie.Need-slice_bounds-replay_under-start
part-replay-under-start c = (own_at (length c.args.shared.now) c.args.user c.own_bytes-own.ensures).ordered

part-replay-under-end : tie.Need-slice_bounds-replay_under-end
part-replay-under-end c = (own_at (length c.args.shared.now) c.args.user c.own_bytes-own.ensures).inside

returns-2 : tie.Need-returns
returns-2 c =
    let a = c.args in
    known replay_row a.user (sym c.may.ensures ∙ c.if-not-may.false)
    (subst (λ (q : ℕ → ℕ). PinnedReplayed a.m.now q a.text.now (answered c.replay_under.result))
    (own-are a.shared.now _ a.user c.own_bytes-own.result refl
    (own_at (length c.args.shared.now) c.args.user c.own_bytes-own.ensures)) c.replay_under.ensures)

pub replay_spec : {M : Type 1} → statement M
replay_spec =
    tie.close
    (tie.spec (λ c κs. search rules) returns cast-own-bytes own-bytes-requires sub-replay-under part-replay-under-start part-replay-under-end (λ c κs. search rules) returns-2)
