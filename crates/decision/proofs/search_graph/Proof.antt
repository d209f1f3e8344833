-- `decision::search_graph` meets its contract. Assumes nothing.
use mathlib.Core.Path.{◌≡◌, sym, ap, ◌∙◌, subst}
use mathlib.Core.Bool.{Bool, true}
use Prim.Native.Nat.{ℕ, ◌^◌, ◌≤◌, max}
use native.Mathlib.Omega.{arith}
use lib.Dec.{T}
use Rattle.aiger.specs.Frames.{size}
use Rattle.layout.specs.Words.{circuit_in}
use Rattle.nodes.specs.Store.{pairs_of}
use Rattle.nodes.specs.Edges.{edge_word}
use Rattle.conflicts.specs.declared.Verdict.{Verdict}
use Rattle.conflicts.specs.declared.Verdict.TheVariants.{Out}
use Rattle.solver.specs.Solved.{SolvedIs}
use Rattle.decision.specs.Reach.{effort, searched_by}
use Rattle.decision.specs.Decided.{FrameFits, Floored}
use Rattle.decision.proofs.Graphs.{scanned, marked, solved-hit, solved-clear, solved-out}
use Rattle.decision.proofs.Resuming.{scannable-all}
use borrow.Author.Rules.{rules}
use Rattle.decision.proofs.search_graph.Statement.{statement}
use Rattle.decision.proofs.search_graph.Tie as tie
use Rattle.decision.proofs.search_graph.Reads as reads
use Rattle.decision.proofs.search_graph.Lts as lts
use Rattle.decision.proofs.effort.Reads as effort-reads
use Rattle.decision.proofs.prepare_aim.Reads as prepare-aim-reads
use Rattle.decision.proofs.scan.Reads as scan-reads
use Rattle.decision.proofs.search_all.Reads as search-all-reads
use Rattle.decision.proofs.search_support.Reads as search-support-reads
use Rattle.decision.proofs.support_size.Reads as support-size-reads
use Rattle.solver.proofs.first_hit.Reads as first-hit-reads

true_of : {b : Bool} → b ≡ true → T b
true_of e = subst T (sym e) tt

-- what the conflict search says is the variant that the match found
told : (n : tie.After-first_hit) (r : Verdict) → n.first_hit.result ≡ r
    → SolvedIs n.prepare_aim-made.result.graph.free (pairs_of n.prepare_aim-made.new.work n.prepare_aim-made.result.graph) (edge_word n.prepare_aim-made.result.edge) n.prepare_aim-made.new.work n.effort-e.result n.first_hit.new.work r
told n r e =
    subst (SolvedIs n.prepare_aim-made.result.graph.free (pairs_of n.prepare_aim-made.new.work n.prepare_aim-made.result.graph) (edge_word n.prepare_aim-made.result.edge) n.prepare_aim-made.new.work n.effort-e.result n.first_hit.new.work) e n.first_hit.ensures

-- the effort is that of the frame
enough : (n : tie.After-first_hit) → let s = n.args in n.effort-e.result ≡ effort (size (circuit_in s.m.now) s.aim.t) s.d
enough n =
    let s = n.args in
    n.effort-e.ensures ∙ ap (λ (x : ℕ). effort x s.d) n.prepare_aim-made.ensures.room

is-small-requires : tie.Need-is_small-requires
is-small-requires c κs = omega (arith, c.prepare_aim-made.ensures.net.sized.nodes, c.prepare_aim-made.ensures.net.sized.room)

scan-requires : tie.Need-scan-requires
scan-requires c κs =
    scannable-all c.prepare_aim-made.ensures.net c.args.d c.requires.0.budget

returns : tie.Need-returns-then-is_small
returns c =
    let k = c.support_size-s.ensures (edge_word c.prepare_aim-made.result.edge) c.prepare_aim-made.ensures.net.marks in
    let few = c.is_small.ensures (true_of c.if-is_small.true) in
    scanned c.prepare_aim-made.ensures c.args.d c.scan.new.work c.scan.result (subst (λ (x : ℕ). 2 ^ x ≤ max c.args.d 16384) k few) c.scan.ensures

first-hit-requires : tie.Need-first_hit-requires
first-hit-requires c κs = marked c.prepare_aim-made.ensures c.args.d (c.prepare_aim-made.auto.work ∙ c.requires.1)

-- what the conflict search leaves undecided, with its floor
left_out : (n : tie.After-first_hit) → n.first_hit.result ≡ Out
    → let C = circuit_in n.args.m.now in (searched_by n.args.aim.alone C n.args.aim.b n.args.aim.t n.args.d ≡ Out) × Floored n.args.aim.alone C n.args.aim.b n.args.aim.t n.args.d n.first_hit.new.work
left_out n e =
    solved-out n.prepare_aim-made.ensures n.args.d (n.prepare_aim-made.auto.work ∙ n.requires.1) n.effort-e.result (enough n) n.first_hit.new.work (told n Out e)

-- the words are those of the frame
fits : (n : tie.After-first_hit) → FrameFits n.first_hit.new.work n.args.m.now n.args.layout n.args.order.now n.args.aim.b n.args.aim.t n.args.d
fits n =
    let f = n.requires.0 in
    let e = n.first_hit.auto.work ∙ n.prepare_aim-made.auto.work in
    record { ready = f.ready; bad = f.bad; last = f.last; some = f.some; budget = f.budget; units = f.units; held = omega (arith, f.held, e) }

search-support-requires : tie.Need-search_support-requires
search-support-requires c κs =
    let o = left_out c.before.before.before.before.before.before c.in-Out.is in
    (fits c.before.before.before.before.before.before, (o.0, (o.1, omega (arith, c.prepare_aim-made.ensures.free, c.if-graph-le-HELD.true))))

returns-2 : tie.Need-returns-then-graph-le-HELD
returns-2 c = c.search_support.ensures

search-all-requires : tie.Need-search_all-requires
search-all-requires c κs =
    let o = left_out c.before.before.before.before.before.before c.in-Out.is in
    (fits c.before.before.before.before.before.before, (o.0, omega (arith, c.prepare_aim-made.ensures.free, c.if-graph-le-HELD.false)))

returns-3 : tie.Need-returns-in-Found
returns-3 c =
    solved-hit c.prepare_aim-made.ensures c.args.d (c.prepare_aim-made.auto.work ∙ c.requires.1) c.effort-e.result (enough c.before.before.before) c.first_hit.new.work (told c.before.before.before _ c.in-Found.is)

returns-4 : tie.Need-returns-in-Clear
returns-4 c =
    solved-clear c.prepare_aim-made.ensures c.args.d (c.prepare_aim-made.auto.work ∙ c.requires.1) c.effort-e.result (enough c.before.before.before) c.first_hit.new.work (told c.before.before.before _ c.in-Clear.is)

returns-5 : tie.Need-returns-else-graph-le-HELD
returns-5 c = c.search_all.ensures

pub search_graph_spec : {M : Type 1} → statement M
search_graph_spec =
    tie.close
    (tie.spec (λ c κs. search rules) (λ c κs. search rules) is-small-requires scan-requires (λ c. search rules) returns (λ c κs. search rules) first-hit-requires (λ c. search rules) (λ c. search rules) (λ c. search rules) search-support-requires (λ c. search rules) returns-2 search-all-requires (λ c. search rules) returns-3 (λ c. search rules) returns-4 (λ c. search rules) returns-5)
