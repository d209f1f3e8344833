-- `renumber::number_triples` meets its contract. Assumes nothing.
use mathlib.Core.Path.{◌≡◌, ap, ◌∙◌}
use Prim.Native.Nat.{◌+◌, ◌*◌, ◌<◌}
use native.Mathlib.Omega.{arith}
use lib.ListN.{length}
use Rattle.aiger.specs.Circuit.{var}
use Rattle.literals.specs.declared.Lit.{Lit}
use Rattle.literals.specs.declared.Var.{Var}
use Rattle.layout.specs.Words.{word}
use Rattle.frames.proofs.Stores.{stored-start, stored_more}
use Rattle.renumber.proofs.Runs.{stored-all}
use Rattle.renumber.proofs.number_triples.Goals as goal

pub loop-j-init : goal.loop-j-init
loop-j-init c = stored-start _ _ _

pub bounds-names-v : goal.bounds-names-v
bounds-names-v c =
    let read = ap (λ (v : Var). v.0) c.var-v.ensures ∙ ap (λ (l : Lit). l.0.0) c.from_word.ensures in
    omega (arith, read, c.requires.apart.below c.loop-j.j (omega arith), c.loop-j.auto.names)

pub loop-j-preserved : goal.loop-j-preserved
loop-j-preserved c =
    let read = ap (λ (v : Var). v.0) c.var-v.ensures ∙ ap (λ (l : Lit). l.0.0) c.from_word.ensures in
    rw read (stored_more (λ i. var (word c.args.m.now (c.args.at + 3 * i))) (λ i. c.args.first + i) c.loop-j.j c.args.names.now c.loop-j.names c.requires.apart
    c.loop-j.auto.names (omega arith) c.loop-j.invariant)

pub returns : goal.returns
returns c =
    stored-all (λ i. var (word c.args.m.now (c.args.at + 3 * i))) (λ i. c.args.first + i) c.args.names.now c.loop-j.names (omega arith) c.loop-j.invariant
