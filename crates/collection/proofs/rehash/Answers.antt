use Rattle.std.proofs.Common.{◌≡◌, ap, ◌∙◌, ℕ, ◌+◌, arith}
use Rattle.diagrams.specs.States.{State, state_of}
use Rattle.collection.specs.Collecting.{hashed, rehashed}
use Rattle.collection.proofs.Turns.{inside-same, rehashed-more, rehashed-none, length-rehashed}
use Rattle.collection.proofs.rehash.Goals as goal

pub loop-j-init : goal.loop-j-init
loop-j-init c = rehashed-none (state_of c.args.w.now)

pub hash-requires : goal.hash-requires
hash-requires c =
    let s = state_of c.args.w.now in
    let r = length-rehashed c.loop-j.j s in
    inside-same (rehashed c.loop-j.j s) (state_of c.loop-j.w) c.loop-j.invariant (omega (arith, r.0, r.1, c.requires.0))

pub loop-j-preserved : goal.loop-j-preserved
loop-j-preserved c =
    let s = state_of c.args.w.now in
    c.hash.ensures ∙ ap (λ (t : State). hashed t (c.loop-j.j + 1)) c.loop-j.invariant ∙ rehashed-more c.loop-j.j s

pub returns : goal.returns
returns c =
    let s = state_of c.args.w.now in
    let e : c.loop-j.j ≡ c.args.last = omega (arith, c.loop-j.auto.j-end, c.loop-j-test.false) in
    c.loop-j.invariant ∙ ap (λ (i : ℕ). rehashed i s) e
