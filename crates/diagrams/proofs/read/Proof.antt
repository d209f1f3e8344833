-- `diagrams::read` meets its contract. Assumes nothing.
use mathlib.Core.Path.{refl, sym}
use Prim.Native.Nat.{◌+◌, ◌*◌, ◌/◌}
use borrow.Author.Rules.{rules}
use lib.ListN.{length}
use Rattle.diagrams.proofs.View.{read_whole, read-cut, read_none}
use Rattle.diagrams.proofs.read.Statement.{statement}
use Rattle.diagrams.proofs.read.Tie as tie

returns : tie.Need-returns-then-at-w
returns c =
    let a = c.args in
    sym (read_whole a.w.now c.get.result a.k
    (4 * (length a.w.now / 16 + a.k) + 4) c.get.ensures refl
    c.if-k-get.true c.if-at-w.true)

returns-2 : tie.Need-returns-else-at-w
returns-2 c =
    let a = c.args in
    sym (read-cut a.w.now c.get.result a.k (4 * (length a.w.now / 16 + a.k) + 4)
    c.get.ensures refl c.if-k-get.true c.if-at-w.false)

returns-3 : tie.Need-returns-else-k-get
returns-3 c =
    let a = c.args in
    sym (read_none a.w.now c.get.result a.k c.get.ensures c.if-k-get.false)

pub read_spec : {M : Type 1} → statement M
read_spec =
    tie.close
    (tie.spec (λ c κs. search rules) (λ c. search rules) (λ c. search rules) (λ c. search rules) (λ c. search rules) (λ c. search rules) (λ c. search rules) (λ c. search rules) (λ c. search rules) (λ c. search rules) (λ c. search rules) (λ c. search rules) (λ c. search rules) (λ c. search rules) (λ c. search rules) (λ c. search rules) returns returns-2 returns-3)
