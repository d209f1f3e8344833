-- `pairs::find_pair` meets its contract. The loop's invariant: what is looked for is found below next. It is said of every graph that
-- is stored in the memory. Assumes nothing.
use mathlib.Core.Path.{◌≡◌, refl, sym, ap, ◌∙◌}
use Prim.Native.Nat.{ℕ, ◌+◌, ◌-◌}
use native.Mathlib.Omega.{arith}
use Rattle.nodes.specs.Edges.{edge_word}
use Rattle.nodes.specs.declared.Graph.{Graph}
use Rattle.pairs.specs.Bucket.{bucket_of}
use Rattle.pairs.specs.Store.{Chained}
use Rattle.pairs.proofs.Walk.{Walk, walk_start, walk_more, walk-less, walk-found, walk_end}
use Rattle.pairs.proofs.find_pair.Statement.{statement}
use Rattle.pairs.proofs.find_pair.Tie as tie

abbrev invariant-loop : tie.invariant-loop-next
invariant-loop work left right room h next₀ next = (g : Graph) → Chained work g → room ≡ g.room → Walk work g (edge_word left) (edge_word right) next

abbrev decreases-loop : tie.decreases-loop-next
decreases-loop work left right room h next₀ next = next

-- the invariant at the graph that was given
walk : (c : tie.In-loop-next invariant-loop decreases-loop)
    → Walk c.args.work.now c.args.g
    (edge_word c.args.left) (edge_word c.args.right) c.loop-next.next
walk c = c.loop-next.invariant c.args.g c.requires.0 refl

bucket-requires : tie.Need-bucket-h-requires invariant-loop decreases-loop
bucket-requires c κs = ((omega (arith, c.requires.0.sized.leaves, c.requires.0.sized.nodes), c.requires.0.sized.room), c.requires.1)

word-requires : tie.Need-word-next-requires invariant-loop decreases-loop
word-requires c κs = omega arith

loop-holds : tie.Need-loop-next-init invariant-loop decreases-loop
loop-holds c g d e =
    let a = c.args in
    walk_start a.work.now g (edge_word a.left) (edge_word a.right) d c.bucket-h.result c.word-next.result
    (c.bucket-h.ensures.0 ∙ ap (λ (x : ℕ). bucket_of x (edge_word a.left) (edge_word a.right)) e)
    (omega arith) c.word-next.ensures

sub-has-pair : tie.Need-overflow_sub-next invariant-loop decreases-loop
sub-has-pair c = omega arith

has-pair-requires : tie.Need-has_pair-requires invariant-loop decreases-loop
has-pair-requires c κs = omega (arith, (walk c).bound)

sub-t11 : tie.Need-overflow_sub-result invariant-loop decreases-loop
sub-t11 c = omega arith

cast-t12 : tie.Need-overflow_cast-result invariant-loop decreases-loop
cast-t12 c = omega (arith, (walk c.before.before).bound, c.requires.0.sized.nodes, c.requires.0.sized.room)

returns : tie.Need-returns-then-has_pair invariant-loop decreases-loop
returns c =
    let n = c.loop-next.next in
    let k : n ≡ n - 1 + 1 = omega arith in
    sym k ∙ walk-found c.args.work.now c.args.g (edge_word c.args.left) (edge_word c.args.right) n (n - 1) k (walk c.before.before)
    (sym c.has_pair.ensures ∙ c.if-has_pair.true)

sub_word : tie.Need-overflow_sub-next-in-loop-next invariant-loop decreases-loop
sub_word c = omega arith

word-requires-2 : tie.Need-word-next-requires-in-loop-next invariant-loop decreases-loop
word-requires-2 c κs = omega (arith, (walk c.before.before).bound)

loop-less : tie.Need-loop-next-smaller invariant-loop decreases-loop
loop-less c =
    let n = c.loop-next.next in
    walk-less c.args.work.now c.args.g (edge_word c.args.left) (edge_word c.args.right) c.requires.0 n (n - 1) c.word-next-in-loop-next.result (omega arith)
    (walk c.before.before.before) c.word-next-in-loop-next.ensures

loop-again : tie.Need-loop-next-preserved invariant-loop decreases-loop
loop-again c g d e =
    let n = c.loop-next.next in
    walk_more c.args.work.now g (edge_word c.args.left) (edge_word c.args.right) d n (n - 1) c.word-next-in-loop-next.result (omega arith)
    (c.loop-next.invariant g d e) (sym c.has_pair.ensures ∙ c.if-has_pair.false)
    c.word-next-in-loop-next.ensures

returns-2 : tie.Need-returns invariant-loop decreases-loop
returns-2 c =
    walk_end c.args.work.now c.args.g (edge_word c.args.left) (edge_word c.args.right) c.loop-next.next (omega arith)
    (c.loop-next.invariant c.args.g c.requires.0 refl)

pub find_pair_spec : {M : Type 1} → statement M
find_pair_spec =
    tie.close
    (tie.spec invariant-loop decreases-loop bucket-requires word-requires loop-holds sub-has-pair has-pair-requires sub-t11 cast-t12 returns sub_word word-requires-2 loop-less loop-again returns-2)
