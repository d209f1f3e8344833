-- `pinned_runs::copy_settled` meets its contract. Assumes nothing.
use mathlib.Core.Path.{◌≡◌, refl, sym, ap, ◌∙◌, subst}
use mathlib.Core.List.{List}
use Prim.Native.Nat.{ℕ, ◌-◌, ◌≤◌, ◌<◌}
use native.Mathlib.Omega.{arith}
use borrow.Author.Rules.{rules}
use lib.ListN.{length, get_or}
use Rattle.pinned_runs.specs.Places.{place_pin, settled_byte}
use Rattle.pinned_runs.specs.declared.Rows.{Rows}
use Rattle.pinned_runs.proofs.Bytes.{Begun, begun-none, begun_more, begun_all}
use Rattle.pinned_runs.proofs.copy_settled.Statement.{statement}
use Rattle.pinned_runs.proofs.copy_settled.Tie as tie

-- the pins of the places
abbrev pins_on : Rows → List ℕ → ℕ → ℕ
pins_on rows own = place_pin (λ i. get_or own i 2) rows.first rows.inputs rows.end

abbrev invariant-loop : tie.invariant-loop-k
invariant-loop rows own body copy₀ k₀ copy k = (k ≤ length body) × Begun (pins_on rows own) body copy₀ copy k

abbrev decreases-loop : tie.decreases-loop-k
decreases-loop rows own body copy₀ k₀ copy k = length body - k

loop-holds : tie.Need-loop-k-init invariant-loop decreases-loop
loop-holds c =
    let a = c.args in
    (omega arith, begun-none (pins_on a.rows a.own.now) a.body.now a.copy.now)

pin-of-requires : tie.Need-pin_of-pin-requires invariant-loop decreases-loop
pin-of-requires c κs = c.requires.0

shared-slice-read-settle : tie.Need-bounds-body-k invariant-loop decreases-loop
shared-slice-read-settle c = omega arith

settle-requires : tie.Need-settle-requires invariant-loop decreases-loop
settle-requires c κs = tt

-- at a byte
module _ (e : tie.After-settle invariant-loop decreases-loop) where
  abbrev L : tie.At-loop-k invariant-loop decreases-loop
  L = e.before.before.before.before

  abbrev S : tie.Start invariant-loop decreases-loop
  S = L.before.before.before.before

slice-write-copy : tie.Need-bounds-copy-k invariant-loop decreases-loop
slice-write-copy c = omega (arith, (L c).loop-k.invariant.1.size, (S c).requires.1)

add-k : tie.Need-overflow_add-k invariant-loop decreases-loop
add-k c = omega arith

loop-less : tie.Need-loop-k-smaller invariant-loop decreases-loop
loop-less c = omega arith

loop-again : tie.Need-loop-k-preserved invariant-loop decreases-loop
loop-again c =
    let l = L c in
    let a = (S c).args in
    let P = pins_on a.rows a.own.now in (
      omega arith,
      begun_more P a.body.now a.copy.now l.loop-k.copy l.loop-k.k c.settle.result l.loop-k.invariant.1 (omega (arith, (S c).requires.1))
          (c.settle.ensures ∙ ap (λ (p : ℕ). settled_byte p (get_or a.body.now l.loop-k.k 0)) c.pin_of-pin.ensures),
    )

same_length : tie.Need-shape_of-copy invariant-loop decreases-loop
same_length c = c.loop-k.invariant.1.size

returns : tie.Need-returns invariant-loop decreases-loop
returns c =
    let a = c.args in (
      begun_all (pins_on a.rows a.own.now) a.body.now a.copy.now c.loop-k.copy c.loop-k.k
          c.loop-k.invariant.1 (omega arith) c.requires.1,
      c.loop-k.invariant.1.rest (length a.body.now) c.loop-k.invariant.0,
    )

pub copy_settled_spec : {M : Type 1} → statement M
copy_settled_spec =
    tie.close
    (tie.spec invariant-loop decreases-loop loop-holds pin-of-requires shared-slice-read-settle settle-requires slice-write-copy add-k loop-less loop-again same_length returns)
