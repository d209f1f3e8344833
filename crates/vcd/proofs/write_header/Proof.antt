-- `vcd::write_header` meets its contract: its three parts, one after the other. Assumes nothing.
use mathlib.Core.List.{List, ◌++◌}
use Prim.Native.Nat.{ℕ}
use Rattle.output.specs.Output.{Room, Placed}
use Rattle.output.proofs.Output.{Rest, rest-start, rest-room, rest_more, last-room, last-placed}
use Rattle.vcd.specs.declared.Name.{Name}
use Rattle.vcd.specs.Text.{declarations, opening, closing, header}
use Rattle.vcd.specs.Wires.{name_in}
use borrow.Author.Rules.{rules}
use Rattle.vcd.proofs.write_header.Statement.{statement}
use Rattle.vcd.proofs.write_header.Tie as tie
use Rattle.vcd.proofs.write_header.Reads as reads
use Rattle.vcd.proofs.write_header.Lts as lts
use Rattle.output.proofs.put.Reads as put_reads
use Rattle.vcd.proofs.write_declarations.Reads as write-declarations-reads

module _ (out : List ℕ) (at : ℕ) (name : ℕ → Name) (n : ℕ) (h : Room out at (header name n)) where
  whole : Rest out at (header name n) out at (opening ++ (declarations name 0 n ++ closing))
  unfolding header
  whole = rest-start out at (header name n)

  opening-room : Room out at opening
  opening-room = rest-room opening (declarations name 0 n ++ closing) h whole

  module _ {e₁ : ℕ} {out₁ : List ℕ} (p : Placed out at opening e₁ out₁) where
    opened : Rest out at (header name n) out₁ e₁ (declarations name 0 n ++ closing)
    opened = rest_more opening (declarations name 0 n ++ closing) h whole p

    declarations-room : Room out₁ e₁ (declarations name 0 n)
    declarations-room = rest-room (declarations name 0 n) closing h opened

    declared : {e₂ : ℕ} {out₂ : List ℕ} → Placed out₁ e₁ (declarations name 0 n) e₂ out₂ → Rest out at (header name n) out₂ e₂ closing
    declared q = rest_more (declarations name 0 n) closing h opened q

put-requires : tie.Need-put-wires-requires
put-requires c κs =
    let a = c.args in
    opening-room a.out.now a.at (name_in a.layout) a.n c.requires.1

write-declarations-requires : tie.Need-write_declarations-end-requires
write-declarations-requires c κs =
    let a = c.args in
    (c.requires.0, declarations-room a.out.now a.at (name_in a.layout) a.n c.requires.1 c.put-wires.ensures)

put-requires-2 : tie.Need-put-requires
put-requires-2 c κs =
    let a = c.args in
    last-room closing c.requires.1
    (declared a.out.now a.at (name_in a.layout) a.n c.requires.1 c.put-wires.ensures c.write_declarations-end.ensures)

returns : tie.Need-returns
returns c =
    let a = c.args in
    last-placed closing c.requires.1
    (declared a.out.now a.at (name_in a.layout) a.n c.requires.1 c.put-wires.ensures c.write_declarations-end.ensures) c.put.ensures

pub write_header_spec : {M : Type 1} → statement M
write_header_spec =
    tie.close
    (tie.spec put-requires write-declarations-requires put-requires-2 (λ c. search rules) returns)
