-- `signatures::push` meets its contract. Assumes nothing.
use mathlib.Core.Path.{◌≡◌, sym, ap, ◌∙◌}
use Prim.Native.Nat.{ℕ, ◌+◌}
use native.Mathlib.Omega.{arith}
use Rattle.nodes.specs.Edges.{edge_word}
use Rattle.signatures.specs.Answers.{place_of}
use Rattle.signatures.proofs.Candidates.{pushed_none, pushed-one}
use borrow.Author.Rules.{rules}
use Rattle.signatures.proofs.push.Statement.{statement}
use Rattle.signatures.proofs.push.Tie as tie

cast-work : tie.Need-overflow_cast-work
cast-work c = omega (arith, c.requires.1, ap place_of c.in-Some.is, c.word.ensures)

returns : tie.Need-returns-in-None
returns c = pushed_none (λ d q. let z : ◌≡◌ {A = ℕ} 0 (d + 1) = sym (ap place_of c.in-None.is) ∙ q in omega arith)

returns-2 : tie.Need-returns-in-Some
returns-2 c =
    let a = c.args in
    let w = c.in-Some.w in
    let z : place_of a.e ≡ edge_word w + 1 = ap place_of c.in-Some.is in
    let y : c.word.result ≡ edge_word w = c.word.ensures in
    pushed-one a.work.now a.count c.word.result c.requires.0 (λ d q. omega arith) (λ d q. omega arith)

pub push_spec : {M : Type 1} → statement M
push_spec =
    tie.close
    (tie.spec (λ c. search rules) (λ c. search rules) (λ c κs. search rules) cast-work (λ c. search rules) (λ c. search rules) (λ c. search rules) (λ c. search rules) (λ c. search rules) returns (λ c. search rules) returns-2)
