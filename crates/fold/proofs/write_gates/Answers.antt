-- Each turn writes a gate's line, if it has a number. Assumes nothing.
use mathlib.Core.Path.{◌≡◌}
use mathlib.Core.List.{List}
use Prim.Native.Nat.{ℕ, ◌+◌, ◌-◌}
use native.Mathlib.Omega.{arith}
use Rattle.fold.specs.Text.{gate_text, gates_text}
use Rattle.output.proofs.Output.{placed-none}
use Rattle.fold.proofs.Parts.{part_room, part-more}
use Rattle.fold.proofs.Lines.{gates-more, gates-none}
use Rattle.fold.proofs.write_gates.Goals as goal

-- the line of gate j of the memory
abbrev line : List ℕ → ℕ → ℕ → List ℕ
line work first j = gate_text work (first + j)

pub overflow_sub-gates : goal.overflow_sub-gates
overflow_sub-gates c = omega (arith, c.requires.0.sized.leaves)

pub loop-j-init : goal.loop-j-init
loop-j-init c = rw (gates-none c.args.work.now (c.args.g.free + 1)) (placed-none c.args.out.now c.args.at)

pub overflow_add-first-in-loop-j : goal.overflow_add-first-in-loop-j
overflow_add-first-in-loop-j c = omega (arith, c.requires.0.sized)

pub write_gate-end-requires : goal.write_gate-end-requires
write_gate-end-requires c =
    let a = c.args in
    let first = a.g.free + 1 in (
      c.requires.0.each (first + c.loop-j.j) (omega arith) (omega (arith, c.requires.0.sized.leaves)),
      part_room (gates_text a.work.now first) (line a.work.now first) (gates-more a.work.now first) a.out.now a.at (a.g.nodes - first)
          c.requires.1 c.loop-j.j (omega arith) c.loop-j.invariant,
    )

pub loop-j-preserved : goal.loop-j-preserved
loop-j-preserved c =
    let a = c.args in
    let first = a.g.free + 1 in
    part-more (gates_text a.work.now first) (line a.work.now first) (gates-more a.work.now first) a.out.now a.at (a.g.nodes - first)
    c.requires.1 c.loop-j.j (omega arith) c.loop-j.invariant c.write_gate-end.ensures

pub returns : goal.returns
returns c =
    let e : c.loop-j.j ≡ c.args.g.nodes - (c.args.g.free + 1) = omega arith in
    rw e at c.loop-j.invariant
