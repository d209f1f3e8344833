-- `layout::section_at` meets its contract, arm by arm. Assumes nothing.
use mathlib.Core.Path.{◌≡◌, sym, ap}
use Prim.Native.Nat.{ℕ}
use native.Mathlib.Omega.{arith}
use Rattle.layout.specs.Table.{section_at}
use Rattle.layout.proofs.section_at.Statement.{statement}
use Rattle.layout.proofs.section_at.Tie as tie

returns : tie.Need-returns-in-0
returns c = ap (section_at c.args.p) (sym c.in-0.is)

returns-2 : tie.Need-returns-in-1
returns-2 c = ap (section_at c.args.p) (sym c.in-1.is)

returns-3 : tie.Need-returns-in-2
returns-3 c = ap (section_at c.args.p) (sym c.in-2.is)

returns-4 : tie.Need-returns-in-3
returns-4 c = ap (section_at c.args.p) (sym c.in-3.is)

returns-5 : tie.Need-returns-in-4
returns-5 c = ap (section_at c.args.p) (sym c.in-4.is)

returns-6 : tie.Need-returns-in_default
returns-6 c =
    let r = c.in_default.in_default-own.rest in
    let e : 5 ≡ c.args.k = omega (arith, c.requires, r.1, r.0.1, r.0.0.1, r.0.0.0.1, r.0.0.0.0.1) in
    ap (section_at c.args.p) e

pub section_at_spec : {M : Type 1} → statement M
section_at_spec = tie.close (tie.spec returns returns-2 returns-3 returns-4 returns-5 returns-6)
