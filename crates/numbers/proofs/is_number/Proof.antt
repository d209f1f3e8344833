-- `numbers::is_number` meets its contract: each answer by how many digits there are. Assumes nothing.
use native.Mathlib.Omega.{arith}
use mathlib.Core.Path.{◌≡◌, sym, ap, ◌∙◌}
use mathlib.Core.List.{List}
use Prim.Native.Nat.{ℕ}
use lib.ListN.{length, take, drop, get_or, length-drop}
use lib.Seq.{get_or-take, get_or-drop, length-take-le}
use Rattle.numbers.proofs.Run.{none, single, several}
use Rattle.numbers.proofs.is_number.Statement.{statement}
use Rattle.numbers.proofs.is_number.Tie as tie

abbrev run : tie.Start → List ℕ
run c = take c.args.count (drop c.args.at c.args.s.now)

long : (c : tie.Start) → length (run c) ≡ c.args.count
long c = length-take-le _ _ c.requires.held

returns : tie.Need-returns-then-count-eq0
returns c = sym (none (run c.before) (long c.before ∙ c.if-count-eq0.true))

returns-2 : tie.Need-returns-then-count-eq1
returns-2 c =
    let s = c.before.before in
    sym (single (run s) s.requires.all (long s ∙ c.if-count-eq1.true))

shared-slice-read-result : tie.Need-bounds-s-at
shared-slice-read-result c =
    let s = c.before.before.before in
    omega (arith, length-drop s.args.at s.args.s.now, s.requires.held)

returns-3 : tie.Need-returns
returns-3 c =
    let s = c.before.before.before in
    let l = long s in
    let e : get_or (run s) 0 0 ≡ get_or s.args.s.now s.args.at 0 =
    get_or-take s.args.count (drop s.args.at s.args.s.now) 0 0 (omega arith) ∙ get_or-drop s.args.at s.args.s.now 0 0
    ∙ ap (λ (k : ℕ). get_or s.args.s.now k 0) (omega arith)
    in
    sym (several (run s) s.requires.all (omega arith) (omega (arith, s.requires.few)) ∙ rw e)

pub is_number_spec : {M : Type 1} → statement M
is_number_spec = tie.close (tie.spec returns returns-2 shared-slice-read-result returns-3)
