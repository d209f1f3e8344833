-- `write_binary::encode` meets its contract. Assumes nothing.
use mathlib.Core.Path.{◌≡◌, ◌∙◌}
use Prim.Native.Nat.{ℕ}
use native.Mathlib.Omega.{arith}
use borrow.Author.Rules.{rules}
use lib.ListN.{replicate, length-replicate}
use Rattle.meaning.proofs.Lists.{get_d-zeros}
use Rattle.write_binary.proofs.encode.Statement.{statement}
use Rattle.write_binary.proofs.encode.Tie as tie

number-circuit-requires : tie.Need-number_circuit-requires
number-circuit-requires c κs =
    (c.requires.0, (c.requires.1, (length-replicate {A = ℕ} 4097 0, get_d-zeros 4097, omega (arith, length-replicate {A = ℕ} 3072 0))))

write-text-requires : tie.Need-write_text-requires
write-text-requires c κs = (
  record {
    held = c.requires.0;
    layout_of = c.requires.1;
    size = c.number_circuit.auto.names ∙ length-replicate {A = ℕ} 4097 0;
    before = replicate 3072 0;
    room = omega (arith, length-replicate {A = ℕ} 3072 0);
    numbered = c.number_circuit.ensures;
  },
  c.requires.2,
)

pub encode_spec : {M : Type 1} → statement M
encode_spec =
    tie.close
    (tie.spec (λ c. search rules) (λ c. search rules) number-circuit-requires (λ c. search rules) (λ c. search rules) write-text-requires (λ c. search rules) (λ c. search rules))
