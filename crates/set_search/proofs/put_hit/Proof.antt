-- `set_search::put_hit` meets its contract. Assumes nothing.
use mathlib.Core.Path.{◌≡◌, sym, ap, ◌∙◌, subst}
use mathlib.Core.List.{List}
use Prim.Native.Nat.{ℕ, ◌+◌, ◌-◌, ◌≤◌}
use native.Mathlib.Omega.{arith}
use borrow.Author.Rules.{rules}
use lib.ListN.{length, replicate, length-replicate, take, drop}
use lib.Seq.{length-take-le}
use Rattle.layout.specs.Words.{word}
use Rattle.diagram_rows.specs.Rows.{plan_of}
use Rattle.set_search.proofs.Parts.{inputs-part, hit-put}
use Rattle.set_search.proofs.Plans.{inputs-counted}
use Rattle.set_search.proofs.put_hit.Statement.{statement}
use Rattle.set_search.proofs.put_hit.Tie as tie

slice-aggregate-walk : tie.Need-slice_bounds-walk-end-2
slice-aggregate-walk c = sym (length-take-le c.args.p.words c.args.work.now c.requires.words)

slice-aggregate-walk-2 : tie.Need-slice_bounds-walk-end-3
slice-aggregate-walk-2 c = sym (length-take-le c.args.p.s.vars (replicate 112 0) (omega (arith, c.requires.few, length-replicate {A = ℕ} 112 0)))

walk-requires : tie.Need-walk-requires
walk-requires c κs =
    let p = c.requires in (
      p.legible,
      (
        p.fits,
        (
          ap length c.copy.ensures ∙ p.bits-room,
          length-take-le c.args.p.s.vars (replicate 112 0) (omega (arith, p.few, length-replicate {A = ℕ} 112 0)),
          p.frame,
          omega arith,
        ),
      ),
    )

put-bits-requires : tie.Need-put_bits-requires
put-bits-requires c κs =
    let p = c.requires in
    let plan = c.args.plan.now in (
      omega (arith, ap length (inputs-part plan), inputs-counted plan p.whole, p.inputs),
      p.width,
      p.some,
      p.room,
    )

returns : tie.Need-returns
returns c =
    let a = c.args in
    hit-put a.p a.plan.now a.table.now a.frees.now a.bits.now c.copy.new.to a.work.now c.put_bits.new.work
    c.walk.new.trace (take (3 + word a.plan.now 0 + word a.plan.now 1 - (3 + word a.plan.now 0)) (drop (3 + word a.plan.now 0) a.plan.now))
    c.walk.result c.copy.ensures c.walk.ensures (inputs-part a.plan.now) c.put_bits.ensures

pub put_hit_spec : {M : Type 1} → statement M
put_hit_spec =
    tie.close
    (tie.spec (λ c. search rules) (λ c. search rules) (λ c. search rules) (λ c. search rules) (λ c. search rules) (λ c. search rules) (λ c κs. search rules) (λ c. search rules) slice-aggregate-walk (λ c. search rules) slice-aggregate-walk-2 (λ c. search rules) walk-requires (λ c. search rules) (λ c. search rules) (λ c. search rules) (λ c. search rules) (λ c. search rules) put-bits-requires (λ c. search rules) (λ c. search rules) returns)
