-- `vcd::write_time` meets its contract: the mark, and then the number. Assumes nothing.
use mathlib.Core.List.{List, [], ◌∷◌}
use Prim.Native.Nat.{ℕ}
use Rattle.output.specs.Row.{number_text}
use Rattle.output.specs.Output.{Room, Placed}
use Rattle.output.proofs.Output.{Rest, rest-start, rest-room, rest_more, last-room, last-placed}
use Rattle.vcd.specs.Text.{time_mark}
use borrow.Author.Rules.{rules}
use Rattle.vcd.proofs.write_time.Statement.{statement}
use Rattle.vcd.proofs.write_time.Tie as tie
use Rattle.vcd.proofs.write_time.Reads as reads
use Rattle.vcd.proofs.write_time.Lts as lts
use Rattle.output.proofs.put.Reads as put_reads
use Rattle.output.proofs.put_ended.Reads as put-ended-reads

module _ (out : List ℕ) (at t : ℕ) (h : Room out at (time_mark t)) where
  mark-room : Room out at (35 ∷ [])
  unfolding time_mark
  mark-room = rest-room (35 ∷ []) (number_text t 0) h (rest-start out at (time_mark t))

  marked : {e₁ : ℕ} {out₁ : List ℕ} → Placed out at (35 ∷ []) e₁ out₁ → Rest out at (time_mark t) out₁ e₁ (number_text t 0)
  unfolding time_mark
  marked p = rest_more (35 ∷ []) (number_text t 0) h (rest-start out at (time_mark t)) p

put-requires : tie.Need-put-number-requires
put-requires c κs =
    let a = c.args in
    mark-room a.out.now a.at a.t c.requires

put-ended-requires : tie.Need-put_ended-requires
put-ended-requires c κs =
    let a = c.args in
    last-room (number_text a.t 0) c.requires (marked a.out.now a.at a.t c.requires
    c.put-number.ensures)

returns : tie.Need-returns
returns c =
    let a = c.args in
    last-placed (number_text a.t 0) c.requires (marked a.out.now a.at a.t c.requires
    c.put-number.ensures) c.put_ended.ensures

pub write_time_spec : {M : Type 1} → statement M
write_time_spec = tie.close (tie.spec put-requires put-ended-requires (λ c. search rules) returns)
