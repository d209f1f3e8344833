-- `layers::judge_rows` meets its contract. Assumes nothing.
use mathlib.Core.Path.{◌≡◌, sym, ap, ◌∙◌}
use mathlib.Core.Bool.{Bool, ◌&&◌}
use Prim.Native.Nat.{ℕ, ◌<◌}
use lib.ListN.{length}
use native.Mathlib.Omega.{arith}
use lib.Bits.{bit_and}
use Rattle.aiger.specs.Bits.{bit}
use Rattle.words.proofs.Bits.{bit-and, bit-all}
use Rattle.layout.specs.Words.{circuit_in}
use Rattle.frames.specs.Lanes.{lane, constrained_in}
use Rattle.states.specs.Number.{number_at}
use Rattle.influence.specs.Part.{part_in}
use Rattle.frames.proofs.Facts.{right, known, no-cycle}
use Rattle.frames.proofs.Facts.{ready_with}
use Rattle.layers.specs.Rows.{Allowed}
use Rattle.layers.proofs.Rows.{first-row}
use borrow.Author.Rules.{rules}
use Rattle.layers.proofs.judge_rows.Statement.{statement}
use Rattle.layers.proofs.judge_rows.Tie as tie

-- a word of rows, all of which were asked
all-rows : (p : ℕ) (q : Bool) → p < 64 → {r : Bool} → r ≡ (bit 0xffff_ffff_ffff_ffff p && q) → r ≡ q
all-rows p q l e = e ∙ ap (λ (x : Bool). x && q) (bit-all 64 p l)

eval-rows-requires : tie.Need-eval_rows-requires
eval-rows-requires c κs = (
  c.requires.0,
  (c.requires.1.1.listed, c.requires.1.2),
)

bad-word-requires : tie.Need-bad_word-bad-requires
bad-word-requires c κs = (
  ready_with c.requires.0
      (omega (
        arith,
        c.eval_rows.auto.values,
        c.requires.0.room,
      )),
  c.requires.1.0,
)

constrain-requires : tie.Need-constrain-allowed-requires
constrain-requires c κs = ready_with c.requires.0
    (omega (
      arith,
      c.eval_rows.auto.values,
      c.requires.0.room,
    ))

first-difference-requires : tie.Need-first_difference-first-requires
first-difference-requires c κs = tt

same_length : tie.Need-shape_of-values
same_length c = c.eval_rows.auto.values

returns : tie.Need-returns
returns c =
    let a = c.args in
    let C = part_in a.m.now a.kept.now in
    let H = c.requires.0.held in
    let v = c.eval_rows.new.values in
    let bad = c.bad_word-bad.result in
    let allowed = c.constrain-allowed.result in
    let rows : Allowed (circuit_in a.m.now) v allowed = λ p l. all-rows p (constrained_in (circuit_in a.m.now) (lane v p)) l
    (c.constrain-allowed.ensures p l) in (
      first-row C (right H) (known H) (no-cycle H) a.query.b c.requires.1.1 (number_at a.s.now 0 (length a.s.now)) a.query.block v bad
          (bit_and bad allowed)
          c.first_difference-first.result c.eval_rows.ensures
          c.bad_word-bad.ensures
          (λ p l. bit-and bad allowed p ∙ ap (λ (x : Bool). bit bad p && x) (rows p l)) c.first_difference-first.ensures,
      rows,
    )

pub judge_rows_spec : {M : Type 1} → statement M
judge_rows_spec =
    tie.close
    (tie.spec eval-rows-requires bad-word-requires constrain-requires first-difference-requires same_length returns)
