-- `diagram_rows::finish_row` meets its contract. Assumes nothing.
use mathlib.Core.Path.{◌≡◌, refl, sym, ap, ◌∙◌}
use mathlib.Core.Option.{none, some}
use Prim.Native.Nat.{ℕ, ◌-◌}
use native.Mathlib.Omega.{arith}
use borrow.Author.Rules.{rules}
use borrow.Author.Tests.{not-true, not-false}
use Rattle.literals.specs.Literal.{literal}
use Rattle.literals.specs.declared.Lit.{Lit}
use Rattle.layout.specs.Words.{circuit_in}
use Rattle.diagrams.specs.States.{state_of, left}
use Rattle.diagram_rows.specs.Rows.{with_literal}
use Rattle.diagram_rows.proofs.Read.{bads-fit, bad-read}
use Rattle.diagram_rows.proofs.Follow.{end-first, end-second, end-words, words-absent, words-there}
use Rattle.diagram_rows.proofs.finish_row.Statement.{statement}
use Rattle.diagram_rows.proofs.finish_row.Tie as tie

constrain-requires : tie.Need-constrain-made-requires
constrain-requires c κs = c.requires.0

same_length : tie.Need-shape_of-w-in_default
same_length c = c.constrain-made.auto.w

returns : tie.Need-returns-in_default
returns c =
    let a = c.args in
    record {
      left =
          end-first (circuit_in a.m.now) a.b a.latches.now (state_of a.w.now) a.edges.now (state_of c.constrain-made.new.w)
          (ap (left c.constrain-made.new.w) (sym c.in_default.is) ∙ c.constrain-made.ensures);
      stays = λ _. refl;
    }

single-at-requires : tie.Need-single_at-bad-requires
single-at-requires c κs = bads-fit c.requires.0

same-length-2 : tie.Need-shape_of-w-in_default-last
same-length-2 c = c.with_literal-last.auto.w ∙ c.constrain-made.auto.w

returns-2 : tie.Need-returns-in_default-last
returns-2 c =
    let a = c.args in
    let l = c.single_at-bad.ensures ∙ ap literal (bad-read c.requires.0 a.b) in
    record {
      left =
          end-second (circuit_in a.m.now) a.b a.latches.now (state_of a.w.now) a.edges.now (state_of c.constrain-made.new.w) c.in-Ok.con
          (ap (left c.constrain-made.new.w) (sym c.in-Ok.is) ∙ c.constrain-made.ensures) (state_of c.with_literal-last.new.w)
          (ap (left c.with_literal-last.new.w) (sym c.in_default-last.is) ∙ c.with_literal-last.ensures
          ∙ ap (λ (x : Lit). with_literal a.edges.now x (state_of c.constrain-made.new.w) c.in-Ok.con) l);
      stays = λ _. refl;
    }

are-present-requires : tie.Need-are_present-requires
are-present-requires c κs = c.requires.0

same-length-3 : tie.Need-shape_of-w-then-not-are_present
same-length-3 c = c.with_literal-last.auto.w ∙ c.constrain-made.auto.w

returns-3 : tie.Need-returns-then-not-are_present
returns-3 c =
    let a = c.args in
    let l = c.single_at-bad.ensures ∙ ap literal (bad-read c.requires.0 a.b) in
    record {
      left =
          end-words (circuit_in a.m.now) a.b a.latches.now (state_of a.w.now) a.edges.now (state_of c.constrain-made.new.w) c.in-Ok.con
          (ap (left c.constrain-made.new.w) (sym c.in-Ok.is) ∙ c.constrain-made.ensures) (state_of c.with_literal-last.new.w) c.in-Ok-last.hit
          (ap (left c.with_literal-last.new.w) (sym c.in-Ok-last.is) ∙ c.with_literal-last.ensures ∙ ap (λ (x : Lit). with_literal a.edges.now x (state_of c.constrain-made.new.w) c.in-Ok.con) l) none
          (words-absent (circuit_in a.m.now) a.latches.now a.edges.now c.in-Ok.con c.in-Ok-last.hit
          (sym c.if-not-are_present.true ∙ c.are_present.ensures));
      stays = λ _. refl;
    }

write-row-requires : tie.Need-write_row-requires
write-row-requires c κs = (c.requires.0, c.requires.1)

same-length-4 : tie.Need-shape_of-w
same-length-4 c = c.with_literal-last.auto.w ∙ c.constrain-made.auto.w

same-length-5 : tie.Need-shape_of-row
same-length-5 c = c.write_row.auto.row

returns-4 : tie.Need-returns
returns-4 c =
    let a = c.args in
    let l = c.single_at-bad.ensures ∙ ap literal (bad-read c.requires.0 a.b) in
    record {
      left =
          end-words (circuit_in a.m.now) a.b a.latches.now (state_of a.w.now) a.edges.now (state_of c.constrain-made.new.w) c.in-Ok.con
          (ap (left c.constrain-made.new.w) (sym c.in-Ok.is) ∙ c.constrain-made.ensures) (state_of c.with_literal-last.new.w) c.in-Ok-last.hit
          (ap (left c.with_literal-last.new.w) (sym c.in-Ok-last.is) ∙ c.with_literal-last.ensures ∙ ap (λ (x : Lit). with_literal a.edges.now x (state_of c.constrain-made.new.w) c.in-Ok.con) l)
          (some c.write_row.new.row)
          (words-there (circuit_in a.m.now) a.latches.now a.edges.now c.in-Ok.con c.in-Ok-last.hit c.write_row.new.row
          (sym c.if-not-are_present.false ∙ c.are_present.ensures) c.write_row.ensures);
      stays = λ t. absurd (let z : ◌≡◌ {A = ℕ} 0 1 = cc in omega arith);
    }

pub finish_row_spec : {M : Type 1} → statement M
finish_row_spec =
    tie.close
    (tie.spec constrain-requires (λ c. search rules) (λ c. search rules) same_length returns single-at-requires (λ c κs. search rules) (λ c. search rules) (λ c. search rules) same-length-2 returns-2 are-present-requires same-length-3 returns-3 write-row-requires same-length-4 same-length-5 returns-4)
