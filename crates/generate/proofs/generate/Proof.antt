-- `generate::generate` meets its contract: each answer by the tests. Assumes nothing.
use mathlib.Core.Path.{◌≡◌, sym, ◌∙◌}
use Prim.Native.Nat.{ℕ, ◌+◌, ◌≤◌, ◌<◌}
use native.Mathlib.Omega.{arith}
use borrow.Author.Rules.{rules}
use borrow.Author.Tests.{not-true, not-false}
use lib.ListN.{length}
use Rattle.generated.proofs.Loads.{permitted}
use Rattle.generated.proofs.Short.{text-short}
use Rattle.generate.proofs.Answers.{not-permitted, too_long, fitting}
use Rattle.generate.proofs.generate.Statement.{statement}
use Rattle.generate.proofs.generate.Tie as tie

returns : tie.Need-returns-then-not-permits
returns c =
    let a = c.args in
    not-permitted a.seed a.i a.l a.a a.out.now (sym c.permits.ensures ∙ c.if-not-permits.true)

cast-t10 : tie.Need-overflow_cast-n
cast-t10 c =
    let a = c.args in
    omega (arith, permitted a.i a.l a.a (sym c.permits.ensures ∙ c.if-not-permits.false))

cast-t11 : tie.Need-overflow_cast-n-2
cast-t11 c =
    let a = c.args in
    omega (arith, permitted a.i a.l a.a (sym c.permits.ensures ∙ c.if-not-permits.false))

cast-t12 : tie.Need-overflow_cast-n-3
cast-t12 c =
    let a = c.args in
    omega (arith, permitted a.i a.l a.a (sym c.permits.ensures ∙ c.if-not-permits.false))

text-length-requires : tie.Need-text_length-length-requires
text-length-requires c κs =
    let a = c.args in
    permitted a.i a.l a.a (sym c.permits.ensures ∙ c.if-not-permits.false)

returns-2 : tie.Need-returns-then-out-length
returns-2 c =
    let a = c.args in
    too_long a.seed a.i a.l a.a a.out.now (sym c.permits.ensures ∙ c.if-not-permits.false) c.text_length-length.ensures c.if-out-length.true

put-text-requires : tie.Need-put_text-requires
put-text-requires c κs =
    let a = c.args in (
      permitted a.i a.l a.a (sym c.permits.ensures ∙ c.if-not-permits.false),
      omega (arith, c.text_length-length.ensures, c.if-out-length.false),
    )

cast-t12-2 : tie.Need-overflow_cast-result
cast-t12-2 c =
    let a = c.args in
    omega (arith, c.text_length-length.ensures, text-short a.seed a.i a.l a.a (permitted a.i a.l a.a (sym c.permits.ensures ∙ c.if-not-permits.false)))

returns-3 : tie.Need-returns
returns-3 c =
    let a = c.args in
    fitting a.seed a.i a.l a.a a.out.now (sym c.permits.ensures ∙ c.if-not-permits.false) c.text_length-length.ensures c.if-out-length.false c.put_text.ensures

pub generate_spec : {M : Type 1} → statement M
generate_spec =
    tie.close
    (tie.spec (λ c κs. search rules) returns cast-t10 cast-t11 cast-t12 text-length-requires returns-2 put-text-requires cast-t12-2 (λ c. search rules) returns-3)
