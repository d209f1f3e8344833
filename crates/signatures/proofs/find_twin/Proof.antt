-- `signatures::find_twin` meets its contract. Assumes nothing.
use mathlib.Core.Path.{ap, ap₂, ◌∙◌}
use mathlib.Core.Bool.{◌&&◌}
use native.Mathlib.Omega.{arith}
use lib.Bits.{bit_and, and_lt}
use lib.ListN.{get_or}
use Rattle.words.proofs.Bits.{bit-and}
use Rattle.nodes.specs.Edges.{edge_word}
use Rattle.nodes.proofs.Laws.{edge-word}
use Rattle.signatures.specs.Twin.{Both}
use Rattle.signatures.proofs.Simulations.{simulable-kept}
use Rattle.signatures.proofs.Twins.{twin-none, twin-first, searched}
use borrow.Author.Rules.{rules}
use Rattle.signatures.proofs.find_twin.Statement.{statement}
use Rattle.signatures.proofs.find_twin.Tie as tie

-- what is known once both signatures are read
module _ (c : tie.After-signature-2) where
  both : (
      let a = c.args in
      Both a.work.now a.g (edge_word a.a) (edge_word a.b) (bit_and c.signature.result c.signature-2.result))
  both =
      let x = c.signature.ensures c.args.g c.requires.store c.requires.left in
      let y = c.signature-2.ensures c.args.g c.requires.store c.requires.right in
      record {
        fits = and_lt 64 c.signature.result c.signature-2.result x.fits y.fits;
        bits = λ p l. bit-and c.signature.result c.signature-2.result p ∙ ap₂ ◌&&◌ (x.bits p l) (y.bits p l);
      }

check-blocks-requires : tie.Need-check_blocks-left-requires
check-blocks-requires c κs =
    let a = c.args in (
      (
        simulable-kept a.work.now c.gather-count.new.work a.g c.gather-count.auto.work c.gather-count.ensures.kept
            (record { sized = c.requires.sized; ordered = c.requires.ordered }),
        record { few = c.gather-count.ensures.few; nodes = λ e l. (c.gather-count.ensures.listed e l).0 },
      ),
      (c.requires.left, c.requires.right, c.requires.free),
    )

returns : tie.Need-returns-then-left-eq0
returns c =
    let h = both c.before.before.before.before.before.before.before.before.before in
    searched c.requires h c.gather-count.ensures c.check_blocks-left.ensures (twin-none c.requires h c.gather-count.ensures c.check_blocks-left.ensures c.if-left-eq0.true)

returns-2 : tie.Need-returns
returns-2 c =
    let h = both c.before.before.before.before.before.before.before.before.before.before.before in
    searched c.requires h c.gather-count.ensures c.check_blocks-left.ensures (twin-first c.requires h c.gather-count.ensures c.check_blocks-left.ensures (omega arith)
    (ap edge_word c.from_word.ensures ∙ edge-word (get_or c.check_blocks-left.new.work 11 0)))

pub find_twin_spec : {M : Type 1} → statement M
find_twin_spec =
    tie.close
    (tie.spec (λ c κs. search rules) (λ c κs. search rules) (λ c κs. search rules) check-blocks-requires (λ c. search rules) returns (λ c. search rules) (λ c κs. search rules) (λ c. search rules) returns-2)
