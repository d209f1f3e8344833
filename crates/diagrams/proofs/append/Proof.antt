-- `diagrams::append` meets its contract. Assumes nothing.
use mathlib.Core.Path.{◌≡◌, sym, ap, ◌∙◌}
use native.Mathlib.Omega.{arith}
use borrow.Author.Rules.{rules}
use lib.ListN.{length}
use Rattle.diagrams.specs.Words.{edge_to}
use Rattle.diagrams.specs.States.{state_of}
use Rattle.diagrams.proofs.View.{count-is, room-is}
use Rattle.diagrams.proofs.Follow.{appended-no-room, appended-low, appended-high, appended-new}
use Rattle.diagrams.proofs.append.Statement.{statement}
use Rattle.diagrams.proofs.append.Tie as tie

add-requires : tie.Need-add-requires
add-requires c κs = (
  c.requires,
  omega (
    arith,
    c.get-k.ensures,
    c.room.ensures,
    c.if-k-room.true,
  ),
)

returns : tie.Need-returns-then-is_above-2
returns c =
    let a = c.args in
    let s = state_of a.w.now in
    let e : c.get-k.result ≡
    length s.nodes = c.get-k.ensures ∙ sym (count-is a.w.now) in
    appended-new s a.h a.v a.lo a.hi (omega (
      arith,
      e,
      room-is
          a.w.now,
      c.room.ensures,
      c.if-k-room.true,
    ))
    (state_of c.add.new.w) c.edge_to.result
    (sym c.is_above.ensures
    ∙ c.if-is_above.true)
    (sym c.is_above-then-is_above.ensures ∙ c.if-is_above-2.true)
    c.add.ensures
    (c.edge_to.ensures ∙ ap edge_to e)

returns-2 : tie.Need-returns-else-is_above-2
returns-2 c =
    let a = c.args in
    let s = state_of a.w.now in
    let e : c.get-k.result ≡ length
    s.nodes = c.get-k.ensures ∙ sym (count-is a.w.now) in
    appended-high s a.h a.v a.lo a.hi (omega (
      arith,
      e,
      room-is
          a.w.now,
      c.room.ensures,
      c.if-k-room.true,
    ))
    (sym c.is_above.ensures ∙ c.if-is_above.true)
    (sym c.is_above-then-is_above.ensures ∙ c.if-is_above-2.false)

returns-3 : tie.Need-returns-else-is_above
returns-3 c =
    let a = c.args in
    let s = state_of a.w.now in
    let e : c.get-k.result ≡ length
    s.nodes = c.get-k.ensures ∙ sym (count-is a.w.now) in
    appended-low s a.h a.v a.lo a.hi (omega
    (arith, e, room-is a.w.now, c.room.ensures, c.if-k-room.true))
    (sym c.is_above.ensures ∙ c.if-is_above.false)

returns-4 : tie.Need-returns-else-k-room
returns-4 c =
    let a = c.args in
    let s = state_of a.w.now in
    let e : c.get-k.result ≡ length s.nodes = c.get-k.ensures ∙ sym (count-is a.w.now) in
    appended-no-room s a.h a.v a.lo a.hi (omega (arith, e, room-is a.w.now, c.room.ensures, c.if-k-room.false))

pub append_spec : {M : Type 1} → statement M
append_spec =
    tie.close
    (tie.spec (λ c κs. search rules) (λ c κs. search rules) (λ c κs. search rules) (λ c κs. search rules) add-requires (λ c κs. search rules) (λ c. search rules) returns (λ c. search rules) returns-2 (λ c. search rules) returns-3 (λ c. search rules) returns-4)
