-- `collection::collect` meets its contract. Assumes nothing.
use mathlib.Core.Path.{◌≡◌, refl, sym, ap, ◌∙◌}
use Prim.Native.Nat.{ℕ, ◌+◌, ◌-◌, ◌*◌, ◌/◌, ◌≤◌, ◌<◌}
use native.Mathlib.Omega.{arith}
use borrow.Author.Rules.{rules}
use lib.ListN.{length}
use Rattle.diagrams.specs.States.{state_of}
use Rattle.diagrams.proofs.View.{count-is, room-is}
use Rattle.collection.proofs.Turns.{paid-inside, collected-no-node, collected-no-room, collected-unpaid, collected-paid}
use Rattle.collection.proofs.collect.Statement.{statement}
use Rattle.collection.proofs.collect.Tie as tie

returns : tie.Need-returns-then-n-eq0
returns c =
    let w = c.args.w.now in
    collected-no-node (state_of w) c.args.roots.now c.get-n.result
    (c.get-n.ensures ∙ sym (count-is w)) c.if-n-eq0.true

returns-2 : tie.Need-returns-then-room-n
returns-2 c =
    let w = c.args.w.now in
    collected-no-room (state_of w) c.args.roots.now
    c.get-n.result (c.get-n.ensures ∙ sym (count-is w)) c.if-n-eq0.false
    (omega (arith, c.room.ensures, room-is w, c.if-room-n.true))

gather-requires : tie.Need-gather-requires
gather-requires c κs =
    let w = c.args.w.now in
    let n : (c.get-n.result ≡ 0
    → ⊥) = c.if-n-eq0.false in
    paid-inside (state_of w) (state_of c.pay.new.w)
    (c.get-n.result / 4)
    c.pay.ensures.0
    (omega (
      arith,
      c.get-n.ensures,
      count-is w,
      c.room.ensures,
      room-is w,
      c.if-room-n.false,
    )) (omega
    (arith, c.get-n.ensures, count-is w))

returns-3 : tie.Need-returns-then-pay
returns-3 c =
    let w = c.args.w.now in
    collected-paid (state_of w)
    c.args.roots.now
    c.get-n.result (c.get-n.ensures ∙ sym (count-is w))
    c.if-n-eq0.false
    (omega (
      arith,
      c.room.ensures,
      room-is w,
      c.if-room-n.false,
    ))
    (state_of c.pay.new.w)
    c.pay.ensures.0 _
    (sym c.pay.ensures.1
    ∙ c.if-pay.true) c.gather.ensures

returns-4 : tie.Need-returns
returns-4 c =
    let w = c.args.w.now in
    collected-unpaid (state_of w)
    c.args.roots.now
    c.get-n.result
    (c.get-n.ensures ∙ sym (count-is w))
    c.if-n-eq0.false
    (omega (
      arith,
      c.room.ensures,
      room-is w,
      c.if-room-n.false,
    )) (state_of c.pay.new.w) c.pay.ensures.0
    (sym c.pay.ensures.1 ∙ c.if-pay.false)

pub collect_spec : {M : Type 1} → statement M
collect_spec =
    tie.close
    (tie.spec (λ c κs. search rules) (λ c. search rules) returns (λ c κs. search rules) (λ c. search rules) returns-2 (λ c κs. search rules) gather-requires (λ c. search rules) (λ c. search rules) returns-3 (λ c. search rules) returns-4)
