-- What holds at each turn of the loop of `lines::read_rows`. Assumes nothing.
use Rattle.std.proofs.Common.{◌-◌}
use Rattle.lines.proofs.Lines.{Run}
use Rattle.lines.proofs.read_rows.Given as goal

-- the lines before this turn are read and stored
abbrev pub invariant-loop : goal.invariant-loop
invariant-loop l = Run l.s l.at l.form.least l.form.most l.n l.form.limit l.initial.out l.from l.out l.next l.fits l.to (l.n - l.counter)
