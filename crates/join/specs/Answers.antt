-- The counts of the joined circuit, and what join's tests answer. Assumes nothing.
use Rattle.std.specs.Prelude.{◌≡◌, ℕ, ◌+◌, ◌*◌, ◌≤◌, Result, OnOk}
use Rattle.aiger.specs.Circuit.{Circuit}
use Rattle.aiger.specs.Load.{needed}
use Rattle.aiger.specs.Operations.{judge}
use Rattle.layout.specs.declared.Layout.{Layout}
use Rattle.load.specs.declared.Counts.{Counts}
use Rattle.limits.specs.Limits.{told}
use Rattle.refusals.specs.declared.Refusal.{Refusal}
use Rattle.joined.specs.Joined.{join_tests}
use Rattle.pairing.specs.Words.{CountsAre, variables, Joins}

-- the counts of the joined circuit
abbrev pub counts_of : Layout → Layout → Counts
counts_of p q =
    record {
      m = p.i + (p.l + q.l) + (p.a + q.a + 3 * p.o);
      i = p.i;
      l = p.l + q.l;
      o = 0;
      a = p.a + q.a + 3 * p.o;
      b = p.o;
      c = p.c + q.c;
    }

-- the first of the tests 17, 3 and 4 that fails, of any circuits with these counts; what holds where all pass
pub record RulingIs (p q : Layout) (room : ℕ) (r : Result (Unit {0}) Refusal) : Type 0 where
  pub tests : (c d : Circuit) → CountsAre c p → CountsAre d q → judge (join_tests c d room) ≡ told r
  pub passes : OnOk r (Joins p q × (needed (variables p q) ≤ room))
