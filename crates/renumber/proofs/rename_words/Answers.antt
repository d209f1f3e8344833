-- `renumber::rename_words` meets its contract. Assumes nothing.
use Prim.Native.Nat.{◌+◌}
use native.Mathlib.Omega.{arith}
use Rattle.layout.specs.Words.{word}
use Rattle.frames.proofs.Stores.{stored-start}
use Rattle.renumber.specs.Names.{under}
use Rattle.renumber.proofs.Runs.{put-more, stored-all}
use Rattle.renumber.proofs.rename_words.Goals as goal

pub loop-j-init : goal.loop-j-init
loop-j-init c = stored-start _ _ _

pub rename_word-requires : goal.rename_word-requires
rename_word-requires c = c.requires.within c.loop-j.j (omega arith)

pub loop-j-preserved : goal.loop-j-preserved
loop-j-preserved c =
    put-more c.args.to (λ i. under c.args.names.now (word c.args.from.now (c.args.at + i))) c.args.n c.loop-j.j c.args.m.now c.loop-j.m
    c.loop-j.auto.m (omega arith) (omega arith) c.loop-j.invariant _ c.rename_word.ensures.0

pub returns : goal.returns
returns c =
    stored-all (λ i. c.args.to + i) (λ i. under c.args.names.now (word c.args.from.now (c.args.at + i))) c.args.m.now c.loop-j.m (omega arith) c.loop-j.invariant
