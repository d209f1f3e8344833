-- `resume::copy_bits`: the words below i are copied. Assumes nothing.
use Rattle.std.proofs.Common.{◌≡◌, subst, ℕ, arith}
use Rattle.resume.specs.Resume.{Copied}
use Rattle.resume.proofs.Turns.{copied_none, copied_more}
use Rattle.resume.proofs.copy_bits.Goals as goal

pub loop-i-init : goal.loop-i-init
loop-i-init c = copied_none c.args.from.now c.args.to.now

pub loop-i-preserved : goal.loop-i-preserved
loop-i-preserved c = copied_more c.args.from.now c.args.to.now c.loop-i.to c.loop-i.i (omega arith) c.loop-i.invariant

pub returns : goal.returns
returns c =
    let e : c.loop-i.i ≡ c.args.n = omega arith in
    subst (λ (k : ℕ). Copied c.args.from.now k c.args.to.now c.loop-i.to) e c.loop-i.invariant
