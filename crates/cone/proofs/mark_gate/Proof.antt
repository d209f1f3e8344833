-- `cone::mark_gate` meets its contract. Assumes nothing.
use mathlib.Core.Path.{◌≡◌, ap, ◌∙◌}
use mathlib.Core.List.{List}
use Prim.Native.Nat.{ℕ, ◌+◌, ◌*◌, ◌≤◌}
use native.Mathlib.Omega.{arith}
use lib.ListN.{length, length-set, get_or}
use Rattle.nodes.specs.Graph.{node_of}
use Rattle.nodes.specs.Store.{field}
use Rattle.nodes.specs.Edges.{word_edge}
use Rattle.nodes.specs.declared.Edge.{Edge}
use Rattle.cone.proofs.Marking.{passed_none, passed-both, first_word}
use borrow.Author.Rules.{rules}
use Rattle.cone.proofs.mark_gate.Statement.{statement}
use Rattle.cone.proofs.mark_gate.Tie as tie

-- the nodes of the operands that are read
left-node : (m : List ℕ) (k : ℕ) {e : Edge} → e ≡ word_edge (get_or m (16 * k) 0) → e.0.0 ≡ node_of (field m k 0)
left-node m k q = ap (λ (e : Edge). e.0.0) q ∙ ap node_of (first_word m k)

right-node : (m : List ℕ) (k : ℕ) {e : Edge} → e ≡ word_edge (get_or m (16 * k + 1) 0) → e.0.0 ≡ node_of (field m k 1)
right-node m k q = ap (λ (e : Edge). e.0.0) q

returns : tie.Need-returns-then-work-k-eq0
returns c = let a = c.args in passed_none a.work.now a.k (omega arith)

left-read : (c : tie.After-struct_known-2-1)
    → (let a = c.args in
    c.from_word-a.result.0.0 ≡ node_of (field a.work.now a.k 0))
left-read c =
    let a = c.args in
    left-node a.work.now a.k c.from_word-a.ensures

right-read : (c : tie.After-struct_known-2-1)
    → (let a = c.args in
    c.from_word-b.result.0.0 ≡ node_of (field a.work.now a.k 1))
right-read c =
    let a = c.args in
    right-node a.work.now a.k c.from_word-b.ensures

-- the records of both nodes are before that of the gate
inside : (c : tie.After-struct_known-2-1)
    → (let a = c.args in
    (16 * c.from_word-a.result.0.0 + 16 ≤ length a.work.now)
    × (16 * c.from_word-b.result.0.0 + 16 ≤ length a.work.now))
inside c =
    let p = c.requires in
    (omega (arith, left-read c, p.held, p.left), omega (arith, right-read c, p.held, p.right))

mul-work : tie.Need-overflow_mul-work
mul-work c = omega (arith, (inside c).0)

add-work : tie.Need-overflow_add-work
add-work c = omega (arith, (inside c).0)

mul-work-2 : tie.Need-offset_bounds-work-left
mul-work-2 c = omega (arith, (inside c).0)

slice-write-work : tie.Need-bounds-work-left
slice-write-work c = omega (arith, (inside c).0)

mul-work-3 : tie.Need-overflow_mul-work-2
mul-work-3 c = omega (arith, (inside c).1)

add-work-2 : tie.Need-overflow_add-work-2
add-work-2 c = omega (arith, (inside c).1)

mul-work-4 : tie.Need-offset_bounds-work-right
mul-work-4 c = omega (arith, (inside c).1)

slice-write-work-2 : tie.Need-bounds-work-right
slice-write-work-2 c = simp length-set (omega (arith, (inside c).1))

returns-2 : tie.Need-returns
returns-2 c =
    passed-both c.args.work.now c.args.k _ _ c.requires (λ z. omega arith) (left-read c) (right-read c)

pub mark_gate_spec : {M : Type 1} → statement M
mark_gate_spec =
    tie.close
    (tie.spec (λ c. search rules) (λ c. search rules) (λ c. search rules) (λ c. search rules) returns (λ c. search rules) (λ c. search rules) (λ c. search rules) (λ c κs. search rules) (λ c. search rules) (λ c. search rules) (λ c. search rules) (λ c. search rules) (λ c κs. search rules) (λ c. search rules) (λ c. search rules) mul-work add-work mul-work-2 slice-write-work mul-work-3 add-work-2 mul-work-4 slice-write-work-2 (λ c. search rules) returns-2)
