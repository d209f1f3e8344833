-- `collection::store` meets its contract. Assumes nothing.
use mathlib.Core.Path.{◌≡◌, refl, sym, ap, ◌∙◌}
use Prim.Native.Nat.{ℕ, ◌+◌, ◌-◌, ◌*◌, ◌/◌, ◌≤◌, ◌<◌}
use native.Mathlib.Omega.{arith}
use borrow.Author.Rules.{rules}
use lib.ListN.{length, length-set}
use Rattle.diagrams.proofs.View.{length-four}
use Rattle.diagrams.proofs.Stores.{room_fits}
use Rattle.collection.proofs.Words.{store_in, store_out}
use Rattle.collection.proofs.store.Statement.{statement}
use Rattle.collection.proofs.store.Tie as tie

slice-write-w : tie.Need-bounds-w-at
slice-write-w c = let l = room_fits (length c.args.w.now) c.args.k
    (omega (arith, c.room.ensures, c.if-k-room.true)) in omega (arith, l)

slice-write-w-2 : tie.Need-bounds-w-at-then-k-room
slice-write-w-2 c = let l = room_fits (length c.args.w.now) c.args.k
    (omega (arith, c.room.ensures, c.if-k-room.true)) in simp length-set (omega (arith, l))

slice-write-w-3 : tie.Need-bounds-w-at-then-k-room-2
slice-write-w-3 c = let l = room_fits (length c.args.w.now) c.args.k
    (omega (arith, c.room.ensures, c.if-k-room.true)) in simp length-set (omega (arith, l))

slice-write-w-4 : tie.Need-bounds-w-at-then-k-room-3
slice-write-w-4 c = let l = room_fits (length c.args.w.now) c.args.k
    (omega (arith, c.room.ensures, c.if-k-room.true)) in simp length-set (omega (arith, l))

returns : tie.Need-returns-then-k-room
returns c =
    let a = c.args in
    store_in a.w.now a.k (4 * (length a.w.now / 16 + a.k) + 4) a.n refl
    (omega (arith, c.room.ensures, c.if-k-room.true))

returns-2 : tie.Need-returns-else-k-room
returns-2 c =
    let a = c.args in
    store_out a.w.now a.k (4 * (length a.w.now / 16 + a.k) + 4) a.n refl
    (omega (arith, c.room.ensures, c.if-k-room.false)) c.requires

pub store_spec : {M : Type 1} → statement M
store_spec =
    tie.close
    (tie.spec (λ c κs. search rules) (λ c. search rules) (λ c. search rules) (λ c. search rules) (λ c. search rules) slice-write-w (λ c. search rules) (λ c. search rules) slice-write-w-2 (λ c. search rules) (λ c. search rules) slice-write-w-3 (λ c. search rules) (λ c. search rules) slice-write-w-4 (λ c. search rules) returns returns-2)
