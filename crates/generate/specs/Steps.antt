-- What the functions of `generate` require, answer and leave. Assumes nothing.
use Rattle.std.specs.Prelude.{◌≡◌, List, ℕ, ◌+◌, ◌≤◌, ◌<◌, length}
use Rattle.aiger.specs.Signature.{step}
use Rattle.output.specs.Output.{Placed}
use Rattle.generator.specs.declared.Generator.{Generator}
use Rattle.generator.specs.Draws.{started_at}
use Rattle.generated.specs.Generated.{after, picked, generated_text, Permitted}
use Rattle.generated.specs.Parts.{latches_text}
use Rattle.generate.specs.declared.Counts.{Counts}
use Rattle.generate.specs.declared.Choice.{Choice}
use Rattle.generate.specs.declared.Operands.{Operands}
use Rattle.generate.specs.declared.Place.{Place}

-- the counts are permitted
abbrev pub PermittedCounts : Counts → Type 0
PermittedCounts n = Permitted n.inputs n.latches n.gates

-- the text of a seed and counts
abbrev pub text_of : ℕ → Counts → List ℕ
text_of seed n = generated_text seed n.inputs n.latches n.gates

-- a draw picks one of n literals
abbrev pub choice : Generator → ℕ → Choice
choice g n = record { literal = picked n (step g.state); generator = started_at (step g.state) }

-- two draws pick two of the literals below `own`
abbrev pub operands_of : Generator → ℕ → Operands
operands_of g own =
    record {
      left = picked own (step g.state);
      right = picked own (step (step g.state));
      generator = started_at (step (step g.state));
    }

-- where the lines of latches end that begin at 0, and the generator after them
abbrev pub past_latches : Generator → ℕ → ℕ → ℕ → Place
past_latches g first n literals =
    record { at = length (latches_text literals g.state first n); generator = started_at (after n g.state) }

-- n variables from `first` on, and some literals
pub record Numbers (first n literals : ℕ) : Type 0 where
  pub variables : first + n ≤ 4097
  pub some : 0 < literals

-- the lines of latches stand where they begin, and r is where they end, with the generator after them
pub record LatchesPut (out : List ℕ) (from : Place) (first n literals : ℕ) (r : Place) (out' : List ℕ) : Type 0 where
  pub placed : Placed out from.at (latches_text literals from.generator.state first n) r.at out'
  pub state : r.generator.state ≡ after n from.generator.state
