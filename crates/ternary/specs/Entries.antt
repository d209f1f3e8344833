-- Three-valued simulation of a witness that may hold `x`, as a function of the circuit, the order in which its gates are evaluated and the
-- witness. Entry l of a list is 1 where literal l may be true in some completion. Assumes nothing.
use Rattle.std.specs.Prelude.{Bool, false, cond, ◌&&◌, ◌||◌, List, ℕ, zero, suc, ◌+◌, ◌-◌, ◌*◌, eqb, length, get_or, set, replicate}
use Rattle.aiger.specs.Lists.{every_below}
use Rattle.aiger.specs.Circuit.{Circuit, Gate, var}
use Rattle.literals.specs.Literal.{literal, word_of, complemented}
use Rattle.literals.specs.declared.Lit.{Lit}
use Rattle.meaning.specs.Frame.{input_at, latch_at, gate_at}
use Rattle.ternary.specs.declared.May.{May}

-- what a literal may be, by its entry and that of its complement
abbrev pub may_of : List ℕ → Lit → May
may_of can l = record { high = get_or can (word_of l) 0; low = get_or can (word_of (complemented l)) 0 }

-- the two entries of variable v
abbrev pub put : ℕ → May → List ℕ → List ℕ
put v x can = set (set can (2 * v) x.high) (2 * v + 1) x.low

-- what a conjunction may be
abbrev pub conjunction : May → May → May
conjunction x y = record { high = cond (eqb x.high 1) y.high 0; low = cond (eqb x.low 1) 1 y.low }

-- what the bit in place of a byte of a witness may be: for `0` and `1` that bit only, else either
abbrev pub of_byte : ℕ → May
of_byte byte = record { high = cond (eqb byte 48) 0 1; low = cond (eqb byte 49) 0 1 }

-- the entries of the first n of the variables v
unfoldable pub put_below : (ℕ → ℕ) → (ℕ → May) → ℕ → List ℕ → List ℕ
put_below v x zero can = can
put_below v x (suc n) can = put (v n) (x n) (put_below v x n can)

-- those of a gate, and of the first n gates of an order
abbrev pub gate_step : Gate → List ℕ → List ℕ
gate_step g can = put (var g.lit) (conjunction (may_of can (literal g.left)) (may_of can (literal g.right))) can

unfoldable pub gates_below : Circuit → List ℕ → ℕ → List ℕ → List ℕ
gates_below c order zero can = can
gates_below c order (suc n) can = gate_step (gate_at c (get_or order n 0)) (gates_below c order n can)

-- a frame: the constant is false, the inputs have the row at `at` of the witness, and then the gates
abbrev pub line_of : List ℕ → ℕ → ℕ → May
line_of body at i = of_byte (get_or body (at + i) 0)

unfoldable pub frame_step : Circuit → List ℕ → List ℕ → ℕ → List ℕ → List ℕ
frame_step c order body at can =
    gates_below c order (length c.gates) (put_below (λ i. var (input_at c i)) (line_of body at) (length c.inputs) (set can 0 0))

-- the latches: in frame 0 the start values of the witness, in a later one what their next literals may be in the frame before
abbrev pub latches_from : Circuit → (ℕ → May) → ℕ → List ℕ
latches_from c x n = put_below (λ j. var (latch_at c j).lit) x (length c.latches) (replicate n 1)

abbrev pub next_of : Circuit → List ℕ → ℕ → May
next_of c can j = may_of can (literal (latch_at c j).next)

-- where the row of frame t stands
abbrev pub row_at : Circuit → ℕ → ℕ
row_at c t = length c.latches + 1 + t * (length c.inputs + 1)

-- n entries after frame t
unfoldable pub entries_at : ℕ → Circuit → List ℕ → List ℕ → ℕ → List ℕ
entries_at n c order body zero = frame_step c order body (row_at c 0) (latches_from c (line_of body 0) n)
entries_at n c order body (suc t) =
    frame_step c order body (row_at c (suc t)) (latches_from c (next_of c (entries_at n c order body t)) n)

-- a literal is true in every completion where its complement may be in none
abbrev pub sure : List ℕ → ℕ → Bool
sure can l = eqb (may_of can (literal l)).low 0

-- every constraint is
abbrev pub sure_below : Circuit → List ℕ → Bool
sure_below c can = every_below (length c.constraints) (λ k. sure can (get_or c.constraints k 0))

-- a latch's start value agrees with its reset, whatever stands for the byte
abbrev pub start_agrees : ℕ → ℕ → ℕ → Bool
start_agrees lit reset byte = eqb reset lit || cond (eqb byte 49) (eqb reset 1) (cond (eqb byte 48) (eqb reset 0) false)

abbrev pub starts_agree : Circuit → List ℕ → Bool
starts_agree c body = every_below (length c.latches) (λ j. start_agrees (latch_at c j).lit (latch_at c j).reset (get_or body j 0))

-- what is seen of Clause 12.2: in every completion the start values agree with the resets, every constraint is true in every frame and bad
-- line b in the last one
unfoldable pub sees_hit : ℕ → Circuit → List ℕ → ℕ → ℕ → List ℕ → Bool
sees_hit n c order b frames body =
    starts_agree c body
    && (every_below frames (λ t. sure_below c (entries_at n c order body t))
    && sure (entries_at n c order body (frames - 1)) (get_or c.bads b 0))
