-- A graph without gates in working memory. Assumes nothing.
use mathlib.Core.Path.{◌≡◌, refl, sym, ◌∙◌, subst}
use mathlib.Core.List.{List, []}
use Prim.Native.Nat.{ℕ, ◌+◌, ◌-◌, ◌≤◌}
use native.Mathlib.Omega.{arith}
use lib.ListN.{length}
use lib.Seq.{ext_get_or}
use Rattle.nodes.specs.Graph.{Pair, Built, no_pair}
use Rattle.nodes.specs.Store.{pairs_of}
use Rattle.nodes.specs.declared.Graph.{Graph}
use Rattle.nodes.proofs.Laws.{length-pairs_of}
use Rattle.pairs.specs.Store as pairs
use Rattle.pairs.proofs.Buckets.{store_same}
use Rattle.signatures.specs.Store.{SignatureStore, Signed}
use Rattle.graph.specs.Stored.{Stored, Enough, empty_graph}
use Rattle.graph.proofs.Growth.{built-empty}

no-gates : (gs : List Pair) → length gs ≡ 0 → gs ≡ []
no-gates gs h = ext_get_or no_pair gs [] h (λ i l. absurd (omega arith))

pub start-pairs : (work : List ℕ) (free room : ℕ) → pairs_of work (empty_graph free room) ≡ []
start-pairs work free room =
    no-gates (pairs_of work (empty_graph free room))
    (let z : free + 1 - (free + 1) ≡ 0 = omega arith in length-pairs_of work (empty_graph free room) ∙ z)

pub start-stored : (last : List ℕ) (free room words : ℕ) → length last ≡ words → Enough free room words → pairs.PairStore last (empty_graph free room)
    → (free ≤ 12 → SignatureStore last (empty_graph free room)) → Stored last (empty_graph free room)
start-stored last free room words long enough p s =
    record {
      sized =
          record { leaves = omega arith; nodes = enough.leaves; room = enough.most; held = omega (arith, enough.held) };
      pairs = p;
      signatures = s;
      built = subst (λ (hs : List Pair). Built free hs) (sym (start-pairs last free room)) (built-empty free);
    }

-- signatures leave the words of pairs as they were
pub start-signed : (work last : List ℕ) (g : Graph) → pairs.PairStore work g → Signed work last g → pairs.PairStore last g
start-signed work last g p d =
    store_same work last g
    (record {
      first = λ j. d.kept j 0 (omega arith) refl;
      second = λ j. d.kept j 1 (omega arith) refl;
      link = λ j. d.kept j 4 (omega arith) refl;
      head = λ j. d.kept j 6 (omega arith) refl;
    }) p
