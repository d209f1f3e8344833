-- Runs that hit in their last frame alone, from any latch values: the second question of a search at a depth. Clause 12.15. Assumes
-- nothing.
use Rattle.std.specs.Prelude.{Bool, not, cond, ◌&&◌, map, ℕ, zero, suc, ◌^◌, length, get_or}
use Rattle.aiger.specs.Lists.{every_below, upto}
use Rattle.aiger.specs.Circuit.{Circuit, Latch}
use Rattle.aiger.specs.Frames.{Run, Space, space, value_at, constrained, hits, run_in, bits_in, free_bits}
use Rattle.aiger.specs.Search.{Question, reaches}

-- Clause 12.15: run r hits bad line b at frame t, with the constraints true up to there, and the bad line is false in every frame before
unfoldable pub hits_alone : Circuit → ℕ → Run → ℕ → Bool
hits_alone c b r t = hits c b r t && every_below t (λ u. not (value_at c r u (get_or c.bads b 0)))

-- Clause 12.15: the space s with every latch free, also one that has a reset: the start values in file order are the first free bits, and
-- the bits of each frame are those of s
abbrev pub freed_space : Circuit → Space → Space
freed_space c s =
    record {
      free = length c.latches;
      width = s.width;
      start_of = λ f. map f (upto (length c.latches));
      row_of = s.row_of;
    }

-- sequence x of a space hits bad line b at frame t alone
unfoldable pub reaches_alone : Space → Circuit → ℕ → ℕ → ℕ → Bool
reaches_alone s c b t x = hits_alone c b (run_in s t x) t

-- the question whether runs hit in their last frame alone, among the sequences of a space
abbrev pub alone_question : Space → Circuit → ℕ → Question
alone_question s c b = record { places = λ t. 2 ^ bits_in s t; hitting = reaches_alone s c b }

-- ---- a hit of a frame in two modes: any hit, and where `alone` is true a hit in the last frame alone

-- run r can still hit at frame t: its constraints are true up to there and, where the hit is to be alone, its bad line was false in every
-- frame before
unfoldable pub left_by : Bool → Circuit → ℕ → Run → ℕ → Bool
left_by alone c b r zero = constrained c r 0
left_by alone c b r (suc t) = left_by alone c b r t && not (alone && value_at c r t (get_or c.bads b 0)) && constrained c r (suc t)

-- sequence x of a circuit hits bad line b at frame t, in the mode
abbrev pub reaches_by : Bool → Circuit → ℕ → ℕ → ℕ → Bool
reaches_by alone c b t x = cond alone (reaches_alone (space c) c b t x) (reaches c b t x)

abbrev pub question_by : Bool → Circuit → ℕ → Question
question_by alone c b = record { places = λ t. 2 ^ free_bits c t; hitting = reaches_by alone c b }

-- ---- the circuit in which every latch has a free start

abbrev pub freed_latch : Latch → Latch
freed_latch l = record { lit = l.lit; next = l.next; reset = l.lit }

unfoldable pub freed : Circuit → Circuit
freed c =
    record {
      max_var = c.max_var;
      inputs = c.inputs;
      latches = map freed_latch c.latches;
      outputs = c.outputs;
      bads = c.bads;
      constraints = c.constraints;
      gates = c.gates;
    }
