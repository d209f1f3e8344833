-- Visits of the clauses that watch a literal, as functions of the words. Assumes nothing.
use Rattle.std.specs.Prelude.{Bool, false, cond, Option, Some, None, List, ℕ, zero, suc, ◌+◌, ◌-◌, ◌*◌, ◌/◌, ◌%◌, eqb, leb, ltb}
use Rattle.memory.specs.Record.{undef, field, stored, head, headed}
use Rattle.memory.specs.declared.Netlist.{Netlist}
use Rattle.memory.specs.declared.Arena.{Arena}
use Rattle.reasons.specs.Reason.{kept_literal}
use Rattle.kept.specs.Kept.{attached}
use Rattle.trail.specs.declared.State.{State}
use Rattle.trail.specs.Trail.{Stood, stood, value, assigned}

unfoldable pub side : List ℕ → ℕ → ℕ → ℕ → ℕ
side w words c f = cond (eqb (head w words c 5) f) 1 0

unfoldable pub partner : List ℕ → ℕ → ℕ → ℕ → ℕ
partner w words c s = cond (eqb s 0) (head w words c 5) (head w words c 4)

unfoldable pub following : List ℕ → ℕ → ℕ → ℕ → ℕ
following w words c s = cond (eqb s 0) (head w words c 2) (head w words c 3)

-- literal x is not false and not o
unfoldable pub can_watch : List ℕ → ℕ → ℕ → ℕ → Bool
can_watch w nodes x o = cond (eqb x o) false (leb 1 (value w nodes x))

-- among the first n literals of clause c, the last that can be watched beside o
unfoldable pub found : List ℕ → Netlist → ℕ → ℕ → ℕ → Option ℕ
found w net c o zero = None
found w net c o (suc n) = cond (can_watch w net.nodes (kept_literal w net c n) o) (Some (kept_literal w net c n)) (found w net c o n)

unfoldable pub linked : List ℕ → Netlist → Arena → ℕ → ℕ → ℕ → List ℕ
linked w net arena f from x =
    cond (ltb (from / 2) arena.count)
    (cond (eqb (from % 2) 0) (headed w net.words (from / 2) 2 x) (headed w net.words (from / 2) 3 x))
    (cond (eqb (f % 2) 0) (stored w net.nodes (f / 2) 7 x) (stored w net.nodes (f / 2) 8 x))

-- at this clause, reached by this link
abbrev pub at : State → ℕ → ℕ → State
at t c link =
    record {
      length = t.length;
      next = t.next;
      level = t.level;
      ticks = t.ticks;
      clash = t.clash;
      clause = c;
      link = link;
    }

unfoldable pub passed : List ℕ → ℕ → State → ℕ → State
passed w words t s = at t (following w words t.clause s) (2 * t.clause + s % 2)

unfoldable pub rewatched : List ℕ → Netlist → Arena → State → ℕ → ℕ → ℕ → Stood
rewatched w net arena t f s x =
    stood (attached (linked w net arena f t.link (following w net.words t.clause s)) net t.clause s x)
    (at t (following w net.words t.clause s) t.link)

-- the violated clause, after which none is visited
abbrev pub clashed : State → ℕ → State
clashed t why =
    record {
      length = t.length;
      next = t.next;
      level = t.level;
      ticks = t.ticks;
      clash = why;
      clause = undef;
      link = t.link;
    }

unfoldable pub closed : List ℕ → Netlist → State → ℕ → ℕ → Stood
closed w net t o s =
    cond (eqb (value w net.nodes o) 0) (stood w (clashed t (4 * t.clause + 3)))
    (assigned w net (passed w net.words t s) o (4 * t.clause + 3))

-- by the other literal o that the clause watches, and by the literal that it may watch instead
unfoldable pub chosen : List ℕ → Netlist → Arena → State → ℕ → ℕ → ℕ → Option ℕ → Stood
chosen w net arena t f s o (Some x) = rewatched w net arena t f s x
chosen w net arena t f s o None = closed w net t o s

unfoldable pub turned_by : List ℕ → Netlist → Arena → State → ℕ → ℕ → ℕ → Stood
turned_by w net arena t f s o =
    cond (eqb (value w net.nodes o) 1) (stood w (passed w net.words t s))
    (chosen w net arena t f s o (found w net t.clause o (head w net.words t.clause 1 % 1048576)))

unfoldable pub turned : List ℕ → Netlist → Arena → State → ℕ → ℕ → Stood
turned w net arena t f s = turned_by w net arena t f s (partner w net.words t.clause s)

unfoldable pub stepped : List ℕ → Netlist → Arena → State → ℕ → Stood
stepped w net arena t f =
    cond (leb arena.count t.clause) (stood w t)
    (cond (leb 1073741823 t.clause) (stood w t)
    (cond (eqb t.clash undef) (turned w net arena t f (side w net.words t.clause f)) (stood w t)))

unfoldable pub walked : List ℕ → Netlist → Arena → State → ℕ → ℕ → Stood
walked w net arena t f zero = stood w t
walked w net arena t f (suc n) =
    cond (leb arena.count t.clause) (stood w t)
    (walked (stepped w net arena t f).words net arena (stepped w net arena t f).state f n)

unfoldable pub first : List ℕ → ℕ → ℕ → ℕ
first w nodes f = cond (eqb (f % 2) 0) (field w nodes (f / 2) 7) (field w nodes (f / 2) 8)

unfoldable pub visited : List ℕ → Netlist → Arena → State → ℕ → Stood
visited w net arena t f = walked w net arena (at t (first w net.nodes f) undef) f arena.count
