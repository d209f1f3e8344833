-- `circuit::is_shaped` meets its contract: each test is one of the three facts. Assumes nothing.
use mathlib.Core.Path.{◌≡◌, sym, ap, ◌∙◌}
use mathlib.Core.Bool.{true}
use Prim.Native.Nat.{◌≤◌}
use native.Mathlib.Omega.{arith}
use borrow.Author.Rules.{rules}
use borrow.Author.Tests.{not-true, not-false}
use Rattle.aiger.specs.File.{counts_fit}
use Rattle.headers.specs.declared.Counts.{Counts}
use Rattle.headers.specs.Header.{counts_meant}
use Rattle.circuit.specs.Held.{counts_in}
use Rattle.circuit.proofs.Testing.{small, not-fit, too_short, shaped}
use Rattle.circuit.proofs.is_shaped.Statement.{statement}
use Rattle.circuit.proofs.is_shaped.Tie as tie

-- what the test of the counts says
said : (t : tie.After-counts_fit) → counts_fit (counts_meant (counts_in t.args.p)) ≡ t.counts_fit.result
said t = ap (λ (k : Counts). counts_fit (counts_meant k)) (sym t.counts_of.ensures) ∙ sym t.counts_fit.ensures

fit : (t : tie.Else-not-counts_fit) → counts_fit (counts_meant (counts_in t.args.p)) ≡ true
fit t = said t.before ∙ t.if-not-counts_fit.false

returns : tie.Need-returns-then-not-counts_fit
returns c =
    not-fit _ c.args.p c.requires (said c.before ∙ c.if-not-counts_fit.true)

low : (t : tie.After-struct_known-1) → t.args.p.m ≤ 4096
low t =
    small _ t.args.p t.requires (fit t.before)

add-needed : tie.Need-overflow_add-needed
add-needed c = omega (arith, low c)

mul-needed : tie.Need-overflow_mul-needed
mul-needed c = omega (arith, low c)

add-needed-2 : tie.Need-overflow_add-needed-2
add-needed-2 c = omega (arith, low c)

returns-2 : tie.Need-returns-then-m-needed
returns-2 c =
    too_short _ c.args.p c.requires c.if-m-needed.true

returns-3 : tie.Need-returns
returns-3 c =
    shaped c.args.m.now c.args.p c.requires (fit c.before.before.before) c.if-m-needed.false c.are_zeros.result c.are_zeros.ensures

pub is_shaped_spec : {M : Type 1} → statement M
is_shaped_spec =
    tie.close
    (tie.spec (λ c κs. search rules) (λ c κs. search rules) returns add-needed mul-needed add-needed-2 returns-2 (λ c κs. search rules) returns-3)
