-- `write::write_section` meets its contract. Assumes nothing.
use mathlib.Core.Path.{sym, subst}
use mathlib.Core.List.{List}
use Prim.Native.Nat.{ℕ}
use native.Mathlib.Omega.{arith}
use borrow.Author.Rules.{rules}
use Rattle.output.specs.Output.{Room, Placed}
use Rattle.write.proofs.Sections.{three-in, three-text}
use Rattle.write.proofs.write_section.Statement.{statement}
use Rattle.write.proofs.write_section.Tie as tie

write-rows-requires : tie.Need-write_rows-requires
write-rows-requires c κs =
    let a = c.args in
    let e = c.if-t-eq3.true in (
      three-in a.t c.requires.0 e,
      omega arith,
      subst (Room a.out.now a.at) (three-text a.t c.requires.0 e) c.requires.1,
    )

returns : tie.Need-returns-then-t-eq3
returns c =
    let a = c.args in
    subst (λ (u : List ℕ). Placed a.out.now a.at u c.write_rows.result c.write_rows.new.out)
    (sym (three-text a.t c.requires.0 c.if-t-eq3.true)) c.write_rows.ensures

write-rows-requires-2 : tie.Need-write_rows-requires-2
write-rows-requires-2 c κs =
    (c.requires.0.0, c.requires.0.1, c.requires.1)

returns-2 : tie.Need-returns
returns-2 c = c.write_rows-2.ensures

pub write_section_spec : {M : Type 1} → statement M
write_section_spec =
    tie.close
    (tie.spec write-rows-requires (λ c. search rules) returns write-rows-requires-2 (λ c. search rules) returns-2)
