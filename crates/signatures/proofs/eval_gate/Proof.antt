-- `signatures::eval_gate` meets its contract. Assumes nothing.
use mathlib.Core.Path.{◌≡◌, ap, ap₂, ◌∙◌}
use mathlib.Core.Bool.{◌&&◌}
use mathlib.Core.List.{List}
use Prim.Native.Nat.{ℕ, ◌+◌, ◌*◌}
use lib.ListN.{get_or}
use native.Mathlib.Omega.{arith}
use Rattle.aiger.specs.Bits.{bit}
use Rattle.words.proofs.Bits.{bit-and}
use Rattle.nodes.specs.Graph.{edge_by}
use Rattle.nodes.specs.Store.{field}
use Rattle.nodes.specs.Edges.{edge_word, word_edge}
use Rattle.nodes.specs.declared.Edge.{Edge}
use Rattle.nodes.proofs.Laws.{edge-word}
use Rattle.signatures.specs.Words.{word_at}
use Rattle.signatures.proofs.Words.{field-first}
use borrow.Author.Rules.{rules}
use Rattle.signatures.proofs.eval_gate.Statement.{statement}
use Rattle.signatures.proofs.eval_gate.Tie as tie

-- the words of the operands that are read
left-read : (m : List ℕ) (k : ℕ) {e : Edge} → e ≡ word_edge (get_or m (16 * k) 0) → edge_word e ≡ field m k 0
left-read m k q = ap edge_word q ∙ edge-word (get_or m (16 * k) 0) ∙ field-first m k

right-read : (m : List ℕ) (k : ℕ) {e : Edge} → e ≡ word_edge (get_or m (16 * k + 1) 0) → edge_word e ≡ field m k 1
right-read m k q = ap edge_word q ∙ edge-word (get_or m (16 * k + 1) 0)

edge-word-requires : tie.Need-edge_word-requires
edge-word-requires c κs =
    let a = c.args in
    omega (arith, left-read a.work.now a.k c.from_word-left.ensures)

edge-word-requires-2 : tie.Need-edge_word-requires-2
edge-word-requires-2 c κs =
    let a = c.args in
    omega (arith, right-read a.work.now a.k c.from_word-right.ensures)

returns : tie.Need-returns
returns c =
    let a = c.args in
    let m = a.work.now in
    let l = left-read m a.k c.from_word-left.ensures in
    let r = right-read m a.k c.from_word-right.ensures in
    let s = c.put_word.ensures in
    record {
      right = λ p h.
          ap (λ (w : ℕ). bit w p) s.stored ∙ bit-and c.edge_word.result c.edge_word-2.result p
          ∙ ap₂ ◌&&◌ (c.edge_word.ensures p h ∙ ap (edge_by (λ j. bit (word_at m j 8) p)) l) (c.edge_word-2.ensures p h ∙ ap (edge_by (λ j. bit (word_at m j 8) p)) r);
      others = s.others;
    }

pub eval_gate_spec : {M : Type 1} → statement M
eval_gate_spec =
    tie.close
    (tie.spec (λ c. search rules) (λ c. search rules) (λ c. search rules) (λ c κs. search rules) (λ c. search rules) (λ c. search rules) (λ c. search rules) (λ c. search rules) (λ c κs. search rules) edge-word-requires edge-word-requires-2 (λ c κs. search rules) (λ c. search rules) returns)
