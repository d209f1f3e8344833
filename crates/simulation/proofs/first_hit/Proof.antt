use mathlib.Core.Path.{◌≡◌, refl, sym, ◌∙◌, subst}
use Prim.Native.Nat.{ℕ, ◌+◌, ◌-◌, ◌*◌, ◌/◌, ◌%◌, ◌^◌, ◌≤◌, ◌<◌, min}
use native.Mathlib.Omega.{arith}
use Rattle.nodes.specs.Store.{pairs_of}
use Rattle.nodes.specs.Edges.{edge_word}
use Rattle.nodes.proofs.Laws.{word-node}
use Rattle.simulation.specs.Store.{Net}
use Rattle.simulation.specs.Found.{Counted, FoundIs}
use Rattle.simulation.proofs.Founds.{count-slots}
use borrow.Author.Rules.{rules}
use Rattle.simulation.proofs.first_hit.Statement.{statement}
use Rattle.simulation.proofs.first_hit.Tie as tie
use Rattle.simulation.proofs.first_hit.Reads as reads
use Rattle.simulation.proofs.first_hit.Lts as lts
use Rattle.nodes.proofs.Edge.word.Reads as word-reads
use Rattle.simulation.proofs.fill_slots.Reads as fill-slots-reads
use Rattle.simulation.proofs.scan_slots.Reads as scan-slots-reads

word-requires : tie.Need-word-e-requires
word-requires c κs = tt

cast-e : tie.Need-overflow_cast-e
cast-e c =
    omega (arith, c.word-e.ensures, word-node c.args.root, c.requires.0.inside, c.requires.0.sized)

slice-aggregate-fill-slots : tie.Need-slice_bounds-fill_slots-end
slice-aggregate-fill-slots c = refl

fill-slots-requires : tie.Need-fill_slots-r-requires
fill-slots-requires c κs =
    ((pairs_of c.args.work.now c.args.g, edge_word c.args.root, c.requires.0), (omega arith, omega arith, omega arith, refl))

slice-aggregate-scan-slots : tie.Need-slice_bounds-scan_slots-end
slice-aggregate-scan-slots c = sym c.fill_slots-r.auto.slots

scan-slots-requires : tie.Need-scan_slots-requires
scan-slots-requires c κs =
    let w = c.args.work.now in
    let g = c.args.g in
    let root = edge_word c.args.root in
    let e : c.word-e.result ≡ root = c.word-e.ensures in
    let counted = count-slots w g root c.fill_slots-r.new.slots c.args.from c.fill_slots-r.result c.requires.0 c.requires.1.1 c.fill_slots-r.auto.slots c.fill_slots-r.ensures in
    (subst (λ (x : ℕ). Net (pairs_of w g) x w g) (sym e) c.requires.0, (subst (λ (x : ℕ). Counted (pairs_of w g) x g c.fill_slots-r.new.slots c.args.from c.fill_slots-r.result) (sym e) counted, c.requires.1.0))

same_length : tie.Need-shape_of-work
same_length c = c.scan_slots.auto.work

returns : tie.Need-returns
returns c =
    let e : c.word-e.result ≡ edge_word c.args.root = c.word-e.ensures in
    subst (λ (x : ℕ). FoundIs c.args.g.free (pairs_of c.args.work.now c.args.g) x c.args.d c.scan_slots.new.work c.scan_slots.result) e c.scan_slots.ensures

pub first_hit_spec : {M : Type 1} → statement M
first_hit_spec =
    tie.close
    (tie.spec word-requires cast-e slice-aggregate-fill-slots fill-slots-requires slice-aggregate-scan-slots scan-slots-requires same_length returns)
