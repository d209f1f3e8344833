-- `collection::trim` meets its contract. Assumes nothing.
use mathlib.Core.Path.{◌≡◌, refl, sym, ap, ◌∙◌}
use Prim.Native.Nat.{ℕ, ◌+◌, ◌-◌, ◌*◌, ◌/◌, ◌≤◌, ◌<◌}
use native.Mathlib.Omega.{arith}
use borrow.Author.Rules.{rules}
use lib.ListN.{length}
use Rattle.diagrams.proofs.View.{room-is}
use Rattle.diagrams.proofs.Stores.{room_fits}
use Rattle.collection.proofs.Words.{trim-left}
use Rattle.collection.proofs.trim.Statement.{statement}
use Rattle.collection.proofs.trim.Tie as tie

zero-requires : tie.Need-zero-requires
zero-requires c κs =
    let w = c.args.w.now in
    let f = room_fits (length w) 0 (omega (
      arith,
      room-is w,
      c.requires.0,
      c.requires.1,
      c.requires.2,
    )) in
    (omega arith, omega (arith, f, c.put.auto.w))

zero-requires-2 : tie.Need-zero-requires-2
zero-requires-2 c κs = (
  omega arith,
  omega
      (arith, c.put.auto.w, c.zero.auto.w),
)

same_length : tie.Need-shape_of-w
same_length c = c.zero-2.auto.w ∙ c.zero.auto.w
    ∙ c.put.auto.w

returns : tie.Need-returns
returns c =
    let a = c.args in
    trim-left a.w.now c.put.new.w
    c.zero.new.w c.zero-2.new.w a.k
    c.requires.0
    c.requires.1
    c.requires.2
    c.put.ensures
    c.zero.ensures c.zero-2.ensures

pub trim_spec : {M : Type 1} → statement M
trim_spec =
    tie.close
    (tie.spec (λ c. search rules) (λ c. search rules) (λ c. search rules) (λ c κs. search rules) zero-requires zero-requires-2 same_length returns)
