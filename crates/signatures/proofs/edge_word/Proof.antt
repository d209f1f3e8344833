-- `signatures::edge_word` meets its contract. Assumes nothing.
use mathlib.Core.Path.{ap₂, ◌∙◌}
use mathlib.Core.Bool.{Bool, xor}
use Prim.Native.Nat.{ℕ}
use native.Mathlib.Omega.{arith}
use Rattle.aiger.specs.Bits.{bit}
use Rattle.nodes.proofs.Laws.{word-node}
use Rattle.signatures.specs.Words.{word_at}
use Rattle.signatures.proofs.Words.{edge-sign}
use borrow.Author.Rules.{rules}
use Rattle.signatures.proofs.edge_word.Statement.{statement}
use Rattle.signatures.proofs.edge_word.Tie as tie

word-at-requires : tie.Need-word_at-requires
word-at-requires c κs = omega (arith, word-node c.args.edge)

returns : tie.Need-returns
returns c =
    λ p l.
    let a = c.args in
    c.literal_word.ensures p l
    ∙ ap₂ (λ (s : Bool) (x : ℕ). xor s (bit x p)) c.is_complement.ensures c.word_at.ensures
    ∙ edge-sign (λ k. bit (word_at a.work.now k a.f) p) a.edge

pub edge_word_spec : {M : Type 1} → statement M
edge_word_spec = tie.close (tie.spec (λ c. search rules) word-at-requires (λ c κs. search rules) (λ c κs. search rules) returns)
