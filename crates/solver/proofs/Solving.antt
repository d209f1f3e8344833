-- From the verdict on a netlist to the first sequence that makes the root true. Assumes nothing.
use mathlib.Core.Path.{◌≡◌, sym, ap, ap₂, ◌∙◌, subst}
use mathlib.Core.List.{List}
use Prim.Native.Nat.{ℕ, suc, ◌*◌, ◌^◌, ◌≤◌, ◌<◌}
use native.Mathlib.Omega.{arith}
use lib.Dec.{T}
use lib.ListN.{length}
use Rattle.aiger.specs.Circuit.{var}
use Rattle.nodes.specs.Graph.{Pair, nodes, Built}
use Rattle.nodes.specs.Store.{pairs_of}
use Rattle.nodes.specs.declared.Graph.{Graph}
use Rattle.nodes.proofs.Laws.{length-pairs_of, nodes-pairs_of}
use Rattle.cone.proofs.Cone.{before-bound}
use Rattle.memory.specs.declared.Netlist.{Netlist}
use Rattle.clauses.specs.Floor.{prefix}
use Rattle.floor.proofs.Rise.{bits}
use Rattle.conflicts.specs.Conflicts.{ran, Ran, Result}
use Rattle.conflicts.specs.declared.Verdict.{Verdict}
use Rattle.conflicts.specs.declared.Verdict.TheVariants.{Found, Clear, Out}
use Rattle.choices.specs.Begun.{Begun}
use Rattle.conflicts.proofs.Theorems.{found_first, clear_none, out-floor}
use Rattle.netlist.specs.Netlist.{net_nodes, net_words, net_of, Marked, NetlistIs}
use Rattle.netlist.proofs.Records.{net-long, nodes-more, none-known, not-idle, floor-zero, val, val-zero, val-free, obeyed, left-before, right-before}
use Rattle.netlist.proofs.Records.{root-inside, root-value}
use Rattle.netlist.proofs.Premises.{Hits, Hit, hits-hit, hits-root, hit-gate, hit-never, clean, first-true, none_true}
use Rattle.solver.specs.Solved.{bits_put, solved, solved_floor, NoneBelow, FirstTrue, FloorLeft, SolvedIs}
use Rattle.solver.proofs.Bits.{put-free, prefix-place}

module _ (n : ℕ) (gs : List Pair) (root words : ℕ) (room : 14 * net_nodes n gs root ≤ words) (built : Built n gs)
    (inside : var root < nodes n gs) where
  -- the words of the netlist meet what the search supposes
  pub begun : Begun (Hit n gs root words room built inside) (Hits n gs root words room built inside)
      (val n gs root words room built inside) (net_of n gs root words) (net_words n gs root words)
  unfolding net_of
  begun =
      record {
        small = nodes-more n gs root words room;
        room = room;
        within = omega (arith, net-long n gs root words room);
        free = val-free n gs root words room built inside;
        bound = λ x h. h.place;
        obeys = hits-hit n gs root words room built inside;
        top = hits-root n gs root words room built inside;
        gate = hit-gate n gs root words room built inside;
        never = hit-never n gs root words room built inside;
        none = val-zero n gs root words room built inside;
        obeyed = λ x v l h. obeyed n gs root words room built inside x v h;
        left = left-before n gs root words room built inside;
        right = right-before n gs root words room built inside;
        root = root-inside n gs root words room built inside;
        unfixed = λ v. (none-known n gs root words room v).0;
        low = λ x h. omega (arith, floor-zero n gs root words room n);
        clean = λ v l p q. clean n gs root words room built inside v l p;
        spare = λ v l i x q h s t. absurd (subst T (sym i ∙ not-idle n gs root words room (suc v) (omega arith)) tt);
      }

  -- how the search ends, the place of the floor then, and the free bits put in front
  abbrev ended : ℕ → Result
  ended e = ran (net_words n gs root words) (net_of n gs root words) e

  abbrev floor : ℕ → ℕ
  floor e = prefix (bits (ended e).words (net_nodes n gs root)) n

  abbrev put : ℕ → List ℕ
  put e = bits_put (ended e).words (net_nodes n gs root) 0 n

  pub found-true : (e : ℕ) → (ended e).verdict ≡ Found → length (ended e).words ≡ words → FirstTrue n gs root (floor e) (put e)
  unfolding net_of
  found-true e q size =
      let f =
      found_first (Hit n gs root words room built inside) (Hits n gs root words room built inside) (val n gs root words room built inside)
      (net_of n gs root words) (net_words n gs root words) begun e q in
      record {
        place = prefix-place (ended e).words (net_nodes n gs root) n;
        true-there = subst T (root-value n gs root words room built inside (floor e)) f.1;
        first = first-true n gs root words room built inside (floor e) f.0;
        bits = put-free (ended e).words (net_nodes n gs root) n (nodes-more n gs root words room) (omega arith);
      }

  -- the floor, where the search is given up
  pub out-left : (e : ℕ) → (ended e).verdict ≡ Out → length (ended e).words ≡ words → FloorLeft n gs root (floor e) (put e)
  unfolding net_of
  out-left e q size =
      record {
        place = prefix-place (ended e).words (net_nodes n gs root) n;
        none =
            first-true n gs root words room built inside (floor e)
            (out-floor (Hit n gs root words room built inside) (Hits n gs root words room built inside)
            (val n gs root words room built inside) (net_of n gs root words) (net_words n gs root words) begun e q);
        bits = put-free (ended e).words (net_nodes n gs root) n (nodes-more n gs root words room) (omega arith);
      }

  pub clear-false : (e : ℕ) {used : ℕ} → (ended e).verdict ≡ Clear used → NoneBelow n gs root (2 ^ n)
  clear-false e q x l =
      none_true n gs root words room built inside
      (clear_none (Hit n gs root words room built inside) (Hits n gs root words room built inside) (val n gs root words room built inside)
      (net_of n gs root words) (net_words n gs root words) begun e q) x

-- ---- a graph in memory

module _ (work : List ℕ) (g : Graph) (root : ℕ) (k : Marked work g root) where
  pub net-room : 14 * net_nodes g.free (pairs_of work g) root ≤ length work
  unfolding net_nodes
  net-room =
      omega (
        arith,
        before-bound g.free (pairs_of work g) root (length (pairs_of work g)),
        length-pairs_of work g,
        k.sized.leaves,
        k.sized.nodes,
        k.exact,
      )

  pub net-inside : var root < nodes g.free (pairs_of work g)
  net-inside = omega (arith, nodes-pairs_of work g k.sized.leaves, k.inside)

module _ (work mid last : List ℕ) (g : Graph) (root e : ℕ) (k : Marked work g root) (net : Netlist) (r : Verdict)
    (built : NetlistIs g.free (pairs_of work g) root work mid net) (given : Ran last r (ran mid net e)) where
  abbrev end_of : Result
  end_of = ran (net_words g.free (pairs_of work g) root (length work)) (net_of g.free (pairs_of work g) root (length work)) e

  same-run : ran mid net e ≡ end_of
  same-run = ap₂ (λ (u : List ℕ) (m : Netlist). ran u m e) built.words_are built.net-is

  same-verdict : end_of.verdict ≡ r
  same-verdict = sym (given.verdict ∙ ap (λ (x : Result). x.verdict) same-run)

  same-words : last ≡ end_of.words
  same-words = given.words ∙ ap (λ (x : Result). x.words) same-run

  pub free-few : net.free ≤ 65536
  unfolding net_of
  free-few = omega (arith, ap (λ (m : Netlist). m.free) built.net-is, k.sized.leaves, k.sized.nodes, k.sized.room)

  abbrev N : ℕ
  N = net_nodes g.free (pairs_of work g) root

  abbrev left : List ℕ
  left = end_of.words

  -- the words that are left in the end
  last-words : (end : List ℕ) → end ≡ bits_put last net.nodes 0 net.free → end ≡ bits_put left N 0 g.free
  unfolding net_of
  last-words end put = put ∙ ap₂ (λ (u : List ℕ) (x : Netlist). bits_put u x.nodes 0 x.free) same-words built.net-is

  pub solved-is : (end : List ℕ) (v : Verdict) → r ≡ v → length last ≡ length work → end ≡ bits_put last net.nodes 0 net.free
      → SolvedIs g.free (pairs_of work g) root work e end v
  unfolding solved solved_floor
  solved-is end Found q size put =
      let f =
      found-true g.free (pairs_of work g) root (length work) (net-room work g root k) k.built (net-inside work g root k) e
      (same-verdict ∙ q)
      (ap length (sym same-words) ∙ size) in (
        same-verdict ∙ q,
        (
          prefix (bits left N) g.free,
          subst (FirstTrue g.free (pairs_of work g) root (prefix (bits left N) g.free)) (sym (last-words end put)) f,
        ),
      )
  solved-is end (Clear used) q size put = (
    same-verdict ∙ q,
    clear-false g.free (pairs_of work g) root (length work) (net-room work g root k) k.built (net-inside work g root k) e
        (same-verdict ∙ q),
  )
  solved-is end Out q size put =
      let f =
      out-left g.free (pairs_of work g) root (length work) (net-room work g root k) k.built (net-inside work g root k) e
      (same-verdict ∙ q)
      (ap length (sym same-words) ∙ size) in
      (same-verdict ∙ q, subst (FloorLeft g.free (pairs_of work g) root (prefix (bits left N) g.free)) (sym (last-words end put)) f)
