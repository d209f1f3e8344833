-- Each turn gives an input its edge. Assumes nothing.
use mathlib.Core.Path.{◌≡◌, ap, ◌∙◌, subst}
use Prim.Native.Nat.{ℕ, ◌+◌}
use native.Mathlib.Omega.{arith}
use Rattle.literals.specs.declared.Lit.{Lit}
use Rattle.literals.specs.declared.Var.{Var}
use Rattle.nodes.specs.Edges.{edge_word}
use Rattle.nodes.specs.declared.Edge.{Edge}
use Rattle.frames.proofs.Stores.{stored-start}
use Rattle.frames.proofs.Places.{inputs-inside}
use Rattle.unroll.specs.Map.{Written, input_var, input_word}
use Rattle.unroll.proofs.Edges.{free-node}
use Rattle.unroll.proofs.Facts.{inputs_apart}
use Rattle.unroll.proofs.Stores.{put-more}
use Rattle.unroll.proofs.put_inputs.Goals as goal

pub loop-i-init : goal.loop-i-init
loop-i-init c = stored-start _ _ _

pub overflow_add-i : goal.overflow_add-i
overflow_add-i c = let r = c.requires.prepared.1 in omega (arith, inputs-inside r.held r.layout_of)

pub bounds-m-i : goal.bounds-m-i
bounds-m-i c = let r = c.requires.prepared.1 in omega (arith, inputs-inside r.held r.layout_of)

pub put_edge-requires : goal.put_edge-requires
put_edge-requires c = (
  omega (arith, ap (λ (v : Var). v.0) c.var.ensures, ap (λ (l : Lit). l.0.0) c.from_word-l.ensures, (inputs_apart c.requires.prepared.1).below c.loop-i.i (omega arith)),
  omega (arith, ap (λ (e : Edge). edge_word e) c.free_edge.ensures, free-node (c.args.first + c.loop-i.i)),
)

pub loop-i-preserved : goal.loop-i-preserved
loop-i-preserved c =
    put-more (input_var c.args.m.now) (input_word c.args.first) c.loop-i.i c.args.map.now c.loop-i.map c.put_edge.new.map (inputs_apart c.requires.prepared.1) c.loop-i.auto.map (omega arith) c.loop-i.invariant
    (ap (λ (v : Var). v.0) c.var.ensures ∙ ap (λ (l : Lit). l.0.0) c.from_word-l.ensures) (ap (λ (e : Edge). edge_word e) c.free_edge.ensures) c.put_edge.ensures

pub returns : goal.returns
returns c =
    let e : c.loop-i.i ≡ c.args.layout.i = omega arith in
    subst (λ (n : ℕ). Written (input_var c.args.m.now) (input_word c.args.first) n c.args.map.now c.loop-i.map) e c.loop-i.invariant
