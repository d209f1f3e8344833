-- `freeing::free_circuit` meets its contract. Assumes nothing.
use mathlib.Core.Path.{◌∙◌}
use Rattle.freeing.proofs.Freeing.{copy-fits, reset-fits, steps-freed}
use borrow.Author.Rules.{rules}
use Rattle.freeing.proofs.free_circuit.Statement.{statement}
use Rattle.freeing.proofs.free_circuit.Tie as tie

copy-words-requires : tie.Need-copy_words-requires
copy-words-requires c κs = copy-fits c.requires

free-resets-requires : tie.Need-free_resets-requires
free-resets-requires c κs = reset-fits c.requires c.copy_words.new.words c.copy_words.auto.words

same_length : tie.Need-shape_of-words
same_length c = c.free_resets.auto.words ∙ c.copy_words.auto.words

returns : tie.Need-returns
returns c = steps-freed c.requires c.copy_words.ensures c.free_resets.ensures

pub free_circuit_spec : {M : Type 1} → statement M
free_circuit_spec =
    tie.close
    (tie.spec copy-words-requires free-resets-requires same_length returns)
