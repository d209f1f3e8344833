-- `diagrams::add` meets its contract: the words of a node below the room stand before the heads. Assumes nothing.
use mathlib.Core.Path.{◌≡◌, refl, sym, ap, ◌∙◌}
use Prim.Native.Nat.{ℕ, ◌+◌, ◌-◌, ◌*◌, ◌/◌}
use native.Mathlib.Omega.{arith}
use borrow.Author.Rules.{rules}
use lib.ListN.{length, length-set}
use Rattle.diagrams.proofs.View.{length-four}
use Rattle.diagrams.proofs.Stores.{room_fits, room_small, added-by}
use Rattle.diagrams.proofs.add.Statement.{statement}
use Rattle.diagrams.proofs.add.Tie as tie

slice-write-w : tie.Need-bounds-w-at
slice-write-w c = let l = room_fits (length c.args.w.now) c.get-k.result
    (omega (arith, c.get-k.ensures, c.requires.1)) in omega (arith, l)

slice-write-w-2 : tie.Need-bounds-w-at-2
slice-write-w-2 c = let l = room_fits (length c.args.w.now) c.get-k.result
    (omega (arith, c.get-k.ensures, c.requires.1)) in simp length-set
    (omega (arith, l))

slice-write-w-3 : tie.Need-bounds-w-at-3
slice-write-w-3 c = let l = room_fits (length c.args.w.now) c.get-k.result
    (omega (arith, c.get-k.ensures, c.requires.1)) in simp length-set
    (omega (arith, l))

slice-write-w-4 : tie.Need-bounds-w-at-4
slice-write-w-4 c = let l = room_fits (length c.args.w.now) c.get-k.result
    (omega (arith, c.get-k.ensures, c.requires.1)) in simp length-set
    (omega (arith, l))

add-put : tie.Need-overflow_add-k
add-put c = omega (
  arith,
  room_small
      (length c.args.w.now),
  c.get-k.ensures,
  c.requires.1,
)

same_length : tie.Need-shape_of-w
same_length c =
    let w = c.args.w.now in
    let at = 4 * (length w / 16 + c.get-k.result) + 4 in
    c.put-2.auto.w ∙ c.put.auto.w ∙ length-four w at
    c.args.lo
    c.args.hi
    c.args.v
    c.head-next.result

returns : tie.Need-returns
returns c =
    let a = c.args in
    let w = a.w.now in
    let k = c.get-k.result in
    added-by w k a.h a.v a.lo a.hi c.head-next.result
    (4 * (length w / 16 + k) + 4) c.put.new.w c.put-2.new.w
    (length w - length w / 16 + a.h)
    c.get-k.ensures
    (omega (
      arith,
      c.get-k.ensures,
      c.requires.1,
    ))
    c.head-next.ensures refl refl
    c.put.ensures c.put-2.ensures

pub add_spec : {M : Type 1} → statement M
add_spec =
    tie.close
    (tie.spec (λ c κs. search rules) (λ c κs. search rules) (λ c. search rules) (λ c. search rules) (λ c. search rules) (λ c. search rules) (λ c. search rules) (λ c. search rules) (λ c. search rules) slice-write-w (λ c. search rules) (λ c. search rules) slice-write-w-2 (λ c. search rules) (λ c. search rules) slice-write-w-3 (λ c. search rules) (λ c. search rules) slice-write-w-4 (λ c κs. search rules) add-put (λ c κs. search rules) same_length returns)
