-- `vcd::write_declaration` meets its contract: the parts of the line, one after the other. Assumes nothing.
use mathlib.Core.List.{List, [], ◌∷◌, ◌++◌}
use Prim.Native.Nat.{ℕ, ◌+◌, ◌/◌, ◌%◌}
use Rattle.aiger.specs.Text.{bytes}
use Rattle.output.specs.Row.{number_text}
use Rattle.output.specs.Output.{Room, Placed}
use Rattle.output.proofs.Output.{Rest, rest-start, rest-room, rest_more, last-room, last-placed}
use Rattle.vcd.specs.declared.Name.{Name}
use Rattle.vcd.specs.Text.{identifier, declaration}
use borrow.Author.Rules.{rules}
use Rattle.vcd.proofs.write_declaration.Statement.{statement}
use Rattle.vcd.proofs.write_declaration.Tie as tie
use Rattle.vcd.proofs.write_declaration.Reads as reads
use Rattle.vcd.proofs.write_declaration.Lts as lts
use Rattle.output.proofs.put.Reads as put_reads
use Rattle.output.proofs.put_ended.Reads as put-ended-reads

-- the parts of the line
abbrev word : List ℕ
word = bytes "$var wire 1 "

abbrev end : List ℕ
end = bytes "$end\n"

abbrev label : ℕ → Name → List ℕ
label k name = (33 + k / 94) ∷ (33 + k % 94) ∷ 32 ∷ name.kind ∷ []

abbrev number : Name → List ℕ
number name = number_text name.index 1

module _ (out : List ℕ) (at k : ℕ) (name : Name) (h : Room out at (declaration k name)) where
  whole : Rest out at (declaration k name) out at (word ++ (label k name ++ (number name ++ end)))
  unfolding declaration identifier
  whole = rest-start out at (declaration k name)

  word_room : Room out at word
  word_room = rest-room word (label k name ++ (number name ++ end)) h whole

  module _ {e₁ : ℕ} {out₁ : List ℕ} (p : Placed out at word e₁ out₁) where
    worded : Rest out at (declaration k name) out₁ e₁ (label k name ++ (number name ++ end))
    worded = rest_more word (label k name ++ (number name ++ end)) h whole p

    label-room : Room out₁ e₁ (label k name)
    label-room = rest-room (label k name) (number name ++ end) h worded

    module _ {e₂ : ℕ} {out₂ : List ℕ} (q : Placed out₁ e₁ (label k name) e₂ out₂) where
      labelled : Rest out at (declaration k name) out₂ e₂ (number name ++ end)
      labelled = rest_more (label k name) (number name ++ end) h worded q

      number-room : Room out₂ e₂ (number name)
      number-room = rest-room (number name) end h labelled

      numbered : {e₃ : ℕ} {out₃ : List ℕ} → Placed out₂ e₂ (number name) e₃ out₃ → Rest out at (declaration k name) out₃ e₃ end
      numbered r = rest_more (number name) end h labelled r

put-requires : tie.Need-put-identifier-requires
put-requires c κs =
    let a = c.args in
    word_room a.out.now a.at a.k a.name c.requires.1

put-requires-2 : tie.Need-put-number-requires
put-requires-2 c κs =
    let a = c.args in
    label-room a.out.now a.at a.k a.name c.requires.1 c.put-identifier.ensures

put-ended-requires : tie.Need-put_ended-end-requires
put-ended-requires c κs =
    let a = c.args in
    number-room a.out.now a.at a.k a.name c.requires.1
    c.put-identifier.ensures c.put-number.ensures

put-requires-3 : tie.Need-put-requires
put-requires-3 c κs =
    let a = c.args in
    last-room end c.requires.1 (numbered a.out.now a.at a.k a.name c.requires.1
    c.put-identifier.ensures
    c.put-number.ensures
    c.put_ended-end.ensures)

returns : tie.Need-returns
returns c =
    let a = c.args in
    last-placed end c.requires.1 (numbered a.out.now a.at a.k a.name c.requires.1
    c.put-identifier.ensures c.put-number.ensures
    c.put_ended-end.ensures) c.put.ensures

pub write_declaration_spec : {M : Type 1} → statement M
write_declaration_spec =
    tie.close
    (tie.spec (λ c. search rules) (λ c. search rules) (λ c. search rules) (λ c. search rules) put-requires (λ c. search rules) put-requires-2 put-ended-requires put-requires-3 (λ c. search rules) returns)
