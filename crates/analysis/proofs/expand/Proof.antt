-- `analysis::expand` meets its contract. Assumes nothing.
use mathlib.Core.Path.{◌≡◌, refl, sym, ap, ◌∙◌}
use mathlib.Core.Bool.{Bool, true, false, cond}
use mathlib.Core.List.{List}
use Prim.Native.Nat.{ℕ, ◌/◌}
use Rattle.memory.specs.Record.{field, opposite}
use Rattle.memory.specs.declared.Netlist.{Netlist}
use Rattle.memory.specs.declared.Arena.{Arena}
use Rattle.memory.specs.declared.Draft.{Draft}
use Rattle.reasons.specs.Reason.{is_reason}
use Rattle.resolve.specs.Draft as D
use Rattle.analysis.specs.Analysis as S
use borrow.Author.Rules.{rules}
use Rattle.analysis.proofs.expand.Statement.{statement}
use Rattle.analysis.proofs.expand.Tie as tie

-- a literal whose complement the working clause has not
passed : (w : List ℕ) (net : Netlist) (arena : Arena) (d : Draft) (l why : ℕ) → D.is_member w net arena d (opposite l) ≡ false
    → S.unfolded w net arena d l why ≡ D.drafted w d
unfolding S.unfolded
passed w net arena d l why e = rw e (go (is_reason net arena why))
  where
    go : (b : Bool) → cond b (D.drafted w d) (D.drafted w d) ≡ D.drafted w d
    go true = refl
    go false = refl

returns : tie.Need-returns-then-is_reason
unfolding S.expanded S.unfolded
returns c =
    rw (
      ← c.field-l.ensures,
      ← c.field-why.ensures,
      ← c.is_reason.ensures,
      ← c.opposite.ensures,
      ← c.is_member.ensures,
      c.if-is_member.true,
      c.if-is_reason.true,
    ) c.resolve.ensures

returns-2 : tie.Need-returns-else-is_reason
unfolding S.expanded S.unfolded
returns-2 c =
    rw (
      ← c.field-l.ensures,
      ← c.field-why.ensures,
      ← c.is_reason.ensures,
      c.if-is_reason.false,
    ) (record { words = refl; draft = refl })

returns-3 : tie.Need-returns-else-is_member
unfolding S.expanded
returns-3 c =
    let a = c.args in
    let l = c.field-l.result in
    let out : D.is_member a.work.now a.net a.arena a.d (opposite l) ≡ false =
    ap (D.is_member a.work.now a.net a.arena a.d) (sym c.opposite.ensures) ∙ sym c.is_member.ensures
    ∙ c.if-is_member.false in
    rw (← c.field-l.ensures, passed a.work.now a.net a.arena a.d l (field a.work.now a.net.nodes (l / 2) 4) out) (record { words = refl; draft = refl })

pub expand_spec : {M : Type 1} → statement M
expand_spec =
    tie.close
    (tie.spec (λ c κs. search rules) (λ c κs. search rules) (λ c κs. search rules) (λ c κs. search rules) (λ c κs. search rules) (λ c κs. search rules) (λ c. search rules) returns (λ c. search rules) returns-2 (λ c. search rules) returns-3)
