-- `collection::mark` meets its contract. Assumes nothing.
use mathlib.Core.Path.{◌≡◌, refl, sym, ap, ◌∙◌}
use Prim.Native.Nat.{ℕ, ◌+◌, ◌-◌, ◌*◌, ◌/◌, ◌≤◌, ◌<◌}
use native.Mathlib.Omega.{arith}
use borrow.Author.Rules.{rules}
use lib.ListN.{length}
use Rattle.diagrams.specs.States.{state_of}
use Rattle.diagrams.proofs.View.{count-is}
use Rattle.collection.specs.Collecting.{with_nodes, unmarked_in, rooted_in, swept_in}
use Rattle.collection.proofs.Turns.{inside-by, length-unmarked, length-rooted, length-swept, marked_by}
use Rattle.collection.proofs.mark.Statement.{statement}
use Rattle.collection.proofs.mark.Tie as tie

unmark-requires : tie.Need-unmark-requires
unmark-requires c κs = c.requires.0

mark-roots-requires : tie.Need-mark_roots-requires
mark-roots-requires c κs =
    let s = state_of c.args.w.now in
    inside-by s (state_of c.unmark.new.w) (unmarked_in (length s.nodes) s.nodes)
    c.unmark.ensures (length-unmarked (length s.nodes) s.nodes)
    c.requires.0

sub-sweep : tie.Need-overflow_sub-n
sub-sweep c = omega (
  arith,
  c.get-n.ensures,
  count-is
      c.args.w.now,
  c.requires.1,
)

sweep-requires : tie.Need-sweep-requires
sweep-requires c κs =
    let s = state_of
    c.args.w.now in
    let a = state_of c.unmark.new.w in
    let roots = c.args.roots.now in
    inside-by a (state_of c.mark_roots.new.w) (rooted_in roots (length roots) a.nodes)
    c.mark_roots.ensures (length-rooted roots (length roots) a.nodes)
    (inside-by s a (unmarked_in (length s.nodes) s.nodes)
    c.unmark.ensures (length-unmarked (length s.nodes) s.nodes)
    c.requires.0)

link-requires : tie.Need-link-requires
link-requires c κs =
    let s = state_of
    c.args.w.now in
    let a = state_of c.unmark.new.w in
    let b = state_of c.mark_roots.new.w in
    let roots = c.args.roots.now in
    let last = c.get-n.result - 1 in
    inside-by b (state_of c.sweep.new.w) (swept_in last last b.nodes)
    c.sweep.ensures (length-swept last last b.nodes)
    (inside-by a b (rooted_in roots (length roots) a.nodes)
    c.mark_roots.ensures (length-rooted roots (length roots) a.nodes)
    (inside-by s a (unmarked_in (length s.nodes) s.nodes)
    c.unmark.ensures
    (length-unmarked (length s.nodes) s.nodes)
    c.requires.0))

same_length : tie.Need-shape_of-w
same_length c = c.link.auto.w ∙ c.sweep.auto.w
    ∙ c.mark_roots.auto.w
    ∙ c.unmark.auto.w

returns : tie.Need-returns
returns c =
    let w = c.args.w.now in
    marked_by (state_of w) (state_of
    c.unmark.new.w)
    (state_of c.mark_roots.new.w)
    (state_of c.sweep.new.w) (state_of c.link.new.w)
    c.args.roots.now
    c.get-n.result
    (c.get-n.ensures ∙ sym (count-is w))
    c.unmark.ensures
    c.mark_roots.ensures
    c.sweep.ensures c.link.ensures

pub mark_spec : {M : Type 1} → statement M
mark_spec =
    tie.close
    (tie.spec (λ c κs. search rules) unmark-requires mark-roots-requires sub-sweep sweep-requires link-requires same_length returns)
