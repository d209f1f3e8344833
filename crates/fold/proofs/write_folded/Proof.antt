-- `fold::write_folded` meets its contract: after each call the text is written but for the parts that are left. Assumes nothing.
use mathlib.Core.Path.{◌≡◌, sym}
use mathlib.Core.List.{List, ◌++◌}
use Prim.Native.Nat.{ℕ, ◌+◌, ◌-◌}
use native.Mathlib.Omega.{arith}
use Rattle.aiger.specs.Circuit.{var}
use Rattle.aiger.specs.Write.{write}
use Rattle.nodes.specs.Edges.{edge_word}
use Rattle.nodes.proofs.Laws.{word-node, word-edge}
use Rattle.output.specs.Row.{number_text}
use Rattle.output.specs.Output.{Room}
use Rattle.output.proofs.Output.{Rest, rest-room, rest_more, last-room}
use Rattle.fold.specs.Text.{literal_word, gates_text, inputs_text, head_text, folded_in}
use Rattle.fold.proofs.Parts.{shown}
use Rattle.fold.proofs.Lines.{literal-told, literal-small, left-all, kept-few, node-fits, gates-fit}
use borrow.Author.Rules.{rules}
use Rattle.fold.proofs.write_folded.Statement.{statement}
use Rattle.fold.proofs.write_folded.Tie as tie

-- the parts of the text
abbrev head : tie.Start → List ℕ
head s = head_text s.args.g.free s.args.kept

abbrev inputs : tie.Start → List ℕ
inputs s = inputs_text s.args.g.free

abbrev output : tie.Start → List ℕ
output s = number_text (literal_word s.args.work.now (edge_word s.args.root)) 0

abbrev gates : tie.Start → List ℕ
gates s = gates_text s.args.work.now (s.args.g.free + 1) (s.args.g.nodes - (s.args.g.free + 1))

abbrev text : tie.Start → List ℕ
text s = write (folded_in s.args.work.now s.args.g (edge_word s.args.root))

-- the text is written but for its rest
abbrev Leaves : tie.Start → List ℕ → ℕ → List ℕ → Type 0
Leaves s out end rest = Rest s.args.out.now 0 (text s) out end rest

room : (s : tie.Start) → Room s.args.out.now 0 (text s)
room s = omega (arith, s.requires.1)

left-0 : (s : tie.Start) → Leaves s s.args.out.now 0 (head s ++ (inputs s ++ (output s ++ gates s)))
left-0 s = left-all s.requires.0 s.args.out.now

abbrev entry-1 : tie.After-write_head-inputs → tie.Start
entry-1 c = c.before.before.before.before.before.before

abbrev entry-2 : tie.After-write_inputs-line → tie.Start
entry-2 c = entry-1 c.before.before.before.before

abbrev entry-3 : tie.After-put_ended-gates → tie.Start
entry-3 c = entry-2 c.before.before.before.before

left-1 : (c : tie.After-write_head-inputs) → Leaves (entry-1 c) c.write_head-inputs.new.out c.write_head-inputs.result (inputs (entry-1 c) ++ (output (entry-1 c) ++ gates (entry-1 c)))
left-1 c = let s = entry-1 c in rest_more (head s) (inputs s ++ (output s ++ gates s)) (room s) (left-0 s) c.write_head-inputs.ensures

left-2 : (c : tie.After-write_inputs-line) → Leaves (entry-2 c) c.write_inputs-line.new.out c.write_inputs-line.result (output (entry-2 c) ++ gates (entry-2 c))
left-2 c = let s = entry-2 c in rest_more (inputs s) (output s ++ gates s) (room s) (left-1 c.before.before.before.before) c.write_inputs-line.ensures

-- the number that is written is the literal of the root
told : (c : tie.After-word-output) → (c.word-output.result ≡ literal_word c.args.work.now (edge_word c.args.root))
told c =
    literal-told c.args.work.now (edge_word c.args.root) (sym (word-edge c.args.root)) c.literal.ensures c.word-output.ensures

left-3 : (c : tie.After-put_ended-gates) → Leaves (entry-3 c) c.put_ended-gates.new.out c.put_ended-gates.result (gates (entry-3 c))
left-3 c =
    let s = entry-3 c in
    rest_more (output s) (gates s) (room s) (left-2 c.before.before.before.before) (rw (told c.before.before.before.before.before.before.before.before.before.before) at c.put_ended-gates.ensures)

literal-requires : tie.Need-literal-requires
literal-requires c κs =
    node-fits c.requires.0 c.args.root.0.0 (omega (arith, word-node c.args.root, c.requires.0.inside))

cast-output : tie.Need-overflow_cast-output
cast-output c =
    let root = edge_word c.args.root in
    omega (arith, told c, literal-small c.args.work.now root (node-fits c.requires.0 (var root) c.requires.0.inside).small)

write-head-requires : tie.Need-write_head-inputs-requires
write-head-requires c κs =
    (omega (arith, kept-few c.requires.0, c.requires.0.sized), rest-room (head c.before.before.before.before.before) (inputs c.before.before.before.before.before ++ (output c.before.before.before.before.before ++ gates c.before.before.before.before.before)) (room c.before.before.before.before.before) (left-0 c.before.before.before.before.before))

write-inputs-requires : tie.Need-write_inputs-line-requires
write-inputs-requires c κs =
    let s = entry-1 c.before.before.before in
    (omega (arith, s.requires.0.sized), rest-room (inputs s) (output s ++ gates s) (room s) (left-1 c.before.before.before))

put-ended-requires : tie.Need-put_ended-gates-requires
put-ended-requires c κs =
    let s = entry-2 c.before.before.before in
    rw (told c.before.before.before.before.before.before.before.before.before) (rest-room (output s) (gates s) (room s) (left-2 c.before.before.before))

write-gates-requires : tie.Need-write_gates-requires
write-gates-requires c κs =
    let s = entry-3 c.before.before.before in
    (gates-fit s.requires.0, last-room (gates s) (room s) (left-3 c.before.before.before))

returns : tie.Need-returns
returns c =
    let s = entry-3 c.before.before.before.before.before.before in
    shown (room s) (left-3 c.before.before.before.before.before.before) c.write_gates.ensures

pub write_folded_spec : {M : Type 1} → statement M
write_folded_spec =
    tie.close
    (tie.spec literal-requires (λ c κs. search rules) cast-output write-head-requires write-inputs-requires put-ended-requires write-gates-requires (λ c. search rules) returns)
