-- Widening under pins: a held input is passed over, elsewhere the plain test decides. Assumes nothing.
use mathlib.Core.Path.{◌≡◌, refl, sym, ap, ◌∙◌, subst}
use mathlib.Core.Bool.{Bool, true, false}
use mathlib.Core.List.{List}
use Prim.Native.Nat.{ℕ, ◌+◌, ◌*◌, ◌≤◌, ◌<◌}
use native.Mathlib.Omega.{arith}
use borrow.Author.Tests.{lt-ltb, le-ltb}
use lib.Dec.{T}
use lib.ListN.{length, get_or}
use Rattle.aiger.specs.Lists.{every_below}
use Rattle.aiger.specs.Circuit.{Circuit}
use Rattle.aiger.proofs.Tests.{T_true}
use Rattle.layout.specs.Words.{circuit_in}
use Rattle.layout.specs.declared.Layout.{Layout}
use Rattle.frames.specs.Lanes.{Ready}
use Rattle.completions.specs.Either.{all_pass, shows, widen_at, widened}
use Rattle.completions.proofs.Widening.{both_ways, widened-not}
use Rattle.blocks.specs.Runs.{Fits}
use Rattle.pins.specs.Pins.{is_held}
use Rattle.pinned_runs.specs.Obeys.{pinned_shows}
use Rattle.pinned_runs.specs.Places.{place_pin, pin_at, agrees_at}
use Rattle.pinned_runs.specs.declared.Rows.{Rows}
use Rattle.pinned_runs.proofs.Links.{under}
use Rattle.pinned_runs.proofs.Verdicts.{agree-all, all-down, exact-all, loose-not, held_stays, free-same}
use Rattle.replay.proofs.Under.{pins-are}

module _ {m : List ℕ} {layout : Layout} {order : List ℕ} {room : ℕ} (R : Ready m layout order room) {b frames count : ℕ} {w : List ℕ}
    (F : Fits (circuit_in m) b frames count w) (q : ℕ → ℕ) (rows : Rows)
    (e : rows ≡ record { first = layout.l + 1; inputs = layout.i; end = layout.l + 1 + frames * (layout.i + 1) }) where
  abbrev c : Circuit
  c = circuit_in m

  -- one place, all completions hitting and obeying
  module _ (t : T (all_pass (pinned_shows c q b) w)) (i pin : ℕ) (z : pin ≡ place_pin q rows.first rows.inputs rows.end i) where
    held-is : is_held (pin_at c q frames i) ≡ is_held pin
    held-is = ap (λ (P : ℕ → ℕ). is_held (P i)) (sym (pins-are R F q rows e)) ∙ ap is_held (sym z)

    pub at_held : pin ≤ 1 → widen_at (pinned_shows c q b) w i ≡ w
    at_held h = held_stays (under c q b F) t i (held-is ∙ lt-ltb pin 2 (omega arith))

    pub at-free : 1 < pin → widen_at (pinned_shows c q b) w i ≡ widen_at (shows c b) w i
    at-free h = free-same (under c q b F) t i (held-is ∙ le-ltb pin 2 h)

  pub all_plain : T (all_pass (pinned_shows c q b) w) → T (all_pass (shows c b) w)
  all_plain t = all-down (under c q b F) t

  -- what `agree` says of the body
  module _ (r : Bool) (s : r ≡ every_below (length w) (λ k. agrees_at false (place_pin q rows.first rows.inputs rows.end k) (get_or w k 0))) where
    said : every_below (length w) (λ k. agrees_at false (pin_at c q frames k) (get_or w k 0)) ≡ r
    said = ap (λ (P : ℕ → ℕ). every_below (length w) (λ k. agrees_at false (P k) (get_or w k 0))) (sym (pins-are R F q rows e)) ∙ sym s

    pub stays-apart : r ≡ false → w ≡ widened (pinned_shows c q b) w
    stays-apart f = sym (widened-not (pinned_shows c q b) w (loose-not (under c q b F) (said ∙ f)))

    pub all-agree : r ≡ true → all_pass (pinned_shows c q b) w ≡ all_pass (shows c b) w
    all-agree f = exact-all (under c q b F) (agree-all (under c q b F) false (T_true (said ∙ f)))
