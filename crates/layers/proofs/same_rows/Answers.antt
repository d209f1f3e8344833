-- Each turn leaves the rows that agree in a word. Assumes nothing.
use mathlib.Core.Path.{◌≡◌, refl, sym, ap₂, ◌∙◌}
use mathlib.Core.Bool.{Bool, true, false, ◌&&◌}
use Prim.Native.Nat.{ℕ}
use native.Mathlib.Omega.{arith}
use borrow.Author.Count.{below_more}
use lib.ListN.{get_or}
use Rattle.aiger.specs.Bits.{bit}
use Rattle.words.proofs.Bits.{bit-and, bit-all}
use Rattle.layers.proofs.same_rows.Goals as goal

both : (a b : Bool) → (a && b) ≡ true → (a ≡ true) × (b ≡ true)
both true b e = (refl, e)
both false b e = absurd (let z : ◌≡◌ {A = ℕ} 0 1 = cc in omega arith)

pub loop-w-init : goal.loop-w-init
loop-w-init c = ((λ q l t i h. absurd (omega arith)), bit-all 64 c.args.p c.requires)

pub loop-w-preserved : goal.loop-w-preserved
loop-w-preserved c =
    let s = c.args.state.now in (
      λ q l t.
          let t2 = both (bit c.loop-w.same q) (bit c.alike-same.result q) (sym (bit-and c.loop-w.same c.alike-same.result q) ∙ t) in
          below_more (λ k. bit (get_or s k 0) q ≡ bit (get_or s k 0) c.args.p) c.loop-w.w-index
          (c.loop-w.invariant.0 q l t2.0) (c.alike-same.ensures.0 q l t2.1),
      bit-and c.loop-w.same c.alike-same.result c.args.p ∙ ap₂ (λ (x y : Bool). x && y) c.loop-w.invariant.1 c.alike-same.ensures.1,
    )

pub returns : goal.returns
returns c = ((λ q l t i h. c.loop-w.invariant.0 q l t i (omega arith)), c.loop-w.invariant.1)
