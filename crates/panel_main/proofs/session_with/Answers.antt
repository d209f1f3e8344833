-- The working memory is that of the start. Assumes nothing.
use Rattle.std.proofs.Common.{arith, ◌≤◌, subst, sym}
use Rattle.panel_main.proofs.Starting.{session-at}
use Rattle.panel_main.proofs.session_with.Goals as goal

pub session-requires : goal.session-requires
session-requires c = omega (arith, c.requires.out_len)

pub returns-clause-session_of : goal.returns-clause-session_of
returns-clause-session_of c = session-at c.requires.out_len c.requires.work_value c.session.ensures.session_of
