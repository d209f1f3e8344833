-- `diagrams::entry` meets its contract. Assumes nothing.
use mathlib.Core.Path.{◌≡◌, refl, sym, ap, ◌∙◌}
use mathlib.Core.Bool.{Bool, cond}
use Prim.Native.Nat.{ℕ, ◌+◌, ◌*◌}
use borrow.Author.Rules.{rules}
use lib.ListN.{get_or}
use Rattle.std.specs.Prelude as code
use Rattle.diagrams.proofs.Stores.{entry_in, entry-out}
use Rattle.diagrams.proofs.entry.Statement.{statement}
use Rattle.diagrams.proofs.entry.Tie as tie

returns : tie.Need-returns-then-w-at
returns c =
    let a = c.args in
    sym
    (entry_in a.w.now a.f a.g a.h c.bucket-i.result (4 * c.bucket-i.result + 4) c.bucket-i.ensures.0 refl
    c.if-i-w.true
    ∙ ap (λ (t : Bool). cond t (code.Some (get_or a.w.now (4 * c.bucket-i.result + 4 + 3) 0)) code.None)
    c.if-w-at.true)

returns-2 : tie.Need-returns-else-w-at
returns-2 c =
    let a = c.args in
    sym
    (entry_in a.w.now a.f a.g a.h c.bucket-i.result (4 * c.bucket-i.result + 4) c.bucket-i.ensures.0 refl
    c.if-i-w.true
    ∙ ap (λ (t : Bool). cond t (code.Some (get_or a.w.now (4 * c.bucket-i.result + 4 + 3) 0)) code.None) c.if-w-at.false)

returns-3 : tie.Need-returns-else-i-w
returns-3 c =
    let a = c.args in
    sym (entry-out a.w.now a.f a.g a.h c.bucket-i.result (4 * c.bucket-i.result + 4) c.bucket-i.ensures.0 refl c.if-i-w.false)

pub entry_spec : {M : Type 1} → statement M
entry_spec =
    tie.close
    (tie.spec (λ c κs. search rules) (λ c. search rules) (λ c. search rules) (λ c. search rules) (λ c. search rules) (λ c. search rules) (λ c. search rules) (λ c. search rules) (λ c. search rules) (λ c. search rules) (λ c. search rules) (λ c. search rules) (λ c. search rules) (λ c. search rules) returns returns-2 returns-3)
