-- `bench_record::settle`: what a turn's number leaves. Assumes nothing.
use Rattle.bench_record.specs.Steps.{placed_of}
use Rattle.bench_bytes.proofs.Settled.{turn_below, settled}
use Rattle.bench_record.proofs.settle.Goals as goal

pub entry_of-e-requires : goal.entry_of-e-requires
entry_of-e-requires c = (c.requires.0, turn_below c.args.shared.now c.args.user c.args.n c.requires.1)

pub put_turned-requires : goal.put_turned-requires
put_turned-requires c = (c.requires.0, turn_below c.args.shared.now c.args.user c.args.n c.requires.1)

pub returns : goal.returns
returns c = λ x. settled c.args.shared.now c.args.user c.args.n c.requires.1 c.entry_of-e.result c.after_turn.result c.allowance_of-allowance.result c.grant_of-grant.result (placed_of c.args.outcome x) _ c.entry_of-e.ensures c.allowance_of-allowance.ensures c.grant_of-grant.ensures (c.after_turn.ensures x) c.put_turned.ensures
