-- `decision::search_support` meets its contract. Assumes nothing.
use mathlib.Core.Path.{◌≡◌, sym, ap, ◌∙◌}
use Prim.Native.Nat.{ℕ, ◌≤◌, min}
use native.Mathlib.Omega.{arith}
use lib.ListN.{length, length-replicate}
use Rattle.aiger.specs.Frames.{free_bits, size}
use Rattle.layout.specs.Words.{circuit_in}
use Rattle.limits.proofs.Sizes.{bits-within, limited, counts_of, size_is}
use Rattle.decision.specs.Reach.{floor_by}
use Rattle.decision.specs.Decided.{Floored}
use Rattle.decision.proofs.Graphs.{resumed, floored, floor-copied}
use borrow.Author.Rules.{rules}
use Rattle.decision.proofs.search_support.Statement.{statement}
use Rattle.decision.proofs.search_support.Tie as tie
use Rattle.decision.proofs.search_support.Reads as reads
use Rattle.decision.proofs.search_support.Lts as lts
use Rattle.decision.proofs.go_on.Reads as go-on-reads
use Rattle.decision.proofs.held.Reads as held_reads
use Rattle.decision.proofs.prepare_aim.Reads as prepare-aim-reads
use Rattle.limits.proofs.size.Reads as size-reads
use Rattle.resume.proofs.copy_bits.Reads as copy-bits-reads

-- how many words are copied
copied : (n : tie.After-copy_bits) → n.held-n.result ≡ min (size (circuit_in n.args.m.now) n.args.aim.t) 1024
copied n =
    let r = n.requires.0.ready in
    n.held-n.ensures ∙ ap (λ (k : ℕ). min k 1024) (n.size.ensures ∙ size_is (counts_of r.held r.layout_of) n.args.aim.t)

-- the floor's free bits, in the local words
floor-in : (n : tie.After-copy_bits) → let a = n.args in Floored a.aim.alone (circuit_in a.m.now) a.aim.b a.aim.t a.d n.copy_bits.new.to
floor-in n =
    let a = n.args in
    let C = circuit_in a.m.now in
    floor-copied a.aim.alone C a.aim.b a.aim.t a.d n.held-n.result a.work.now n.copy_bits.new.to
    (omega (arith, copied n, bits-within C a.aim.t a.aim.t (omega arith), n.requires.1.1.1)) n.copy_bits.ensures.new n.requires.1.1.0

size-requires : tie.Need-size-requires
size-requires c κs =
    let p = c.requires.0 in
    (limited p.ready.held p.ready.layout_of, p.last)

held-requires : tie.Need-held-n-requires
held-requires c κs = tt

slice-aggregate-copy-bits : tie.Need-slice_bounds-copy_bits-end
slice-aggregate-copy-bits c = sym (length-replicate {A = ℕ} 1024 0)

copy-bits-requires : tie.Need-copy_bits-requires
copy-bits-requires c κs =
    let p = c.requires.0 in
    let z = c.size.ensures ∙ size_is (counts_of p.ready.held p.ready.layout_of) c.args.aim.t in
    let h = c.held-n.ensures in
    (omega (arith, z, h, p.held), omega (arith, h, length-replicate {A = ℕ} 1024 0))

slice-aggregate-go-on : tie.Need-slice_bounds-go_on-end
slice-aggregate-go-on c = sym (c.copy_bits.auto.to ∙ length-replicate {A = ℕ} 1024 0)

go-on-requires : tie.Need-go_on-requires
go-on-requires c κs =
    let a = c.args in
    let u = c.prepare_aim-made.ensures in
    record {
      net = u.net;
      budget = c.requires.0.budget;
      long = omega (arith, u.free, c.requires.1.1.1, c.copy_bits.auto.to ∙ length-replicate {A = ℕ} 1024 0);
      from = floor_by a.aim.alone (circuit_in a.m.now) a.aim.b a.aim.t a.d;
      left = floored u a.d c.copy_bits.new.to (floor-in c.before.before.before.before.before.before.before.before.before);
    }

returns : tie.Need-returns
returns c =
    let a = c.args in
    let u = c.prepare_aim-made.ensures in
    let x = floor_by a.aim.alone (circuit_in a.m.now) a.aim.b a.aim.t a.d in
    resumed u a.d c.go_on.new.work c.go_on.result c.requires.1.0 c.requires.1.1.1 (c.go_on.ensures x (floored u a.d c.copy_bits.new.to (floor-in c.before.before.before.before.before.before.before.before.before.before.before.before.before)))

pub search_support_spec : {M : Type 1} → statement M
search_support_spec =
    tie.close
    (tie.spec size-requires held-requires slice-aggregate-copy-bits copy-bits-requires (λ c κs. search rules) slice-aggregate-go-on go-on-requires (λ c. search rules) returns)
