-- From the verdict on a netlist to the first sequence at or after a place that makes the root true. Assumes nothing.
use mathlib.Core.Path.{◌≡◌, refl, sym, ap, ap₂, ◌∙◌, subst}
use mathlib.Core.Bool.{Bool, not}
use mathlib.Core.List.{List}
use Prim.Native.Nat.{ℕ, ◌*◌, ◌^◌, ◌≤◌, ◌<◌}
use native.Mathlib.Omega.{arith}
use lib.Dec.{T}
use lib.ListN.{length}
use Rattle.aiger.specs.Circuit.{var}
use Rattle.aiger.specs.Search.{clear_from}
use Rattle.aiger.proofs.Tests.{not_T}
use Rattle.meaning.proofs.Decisions.{NoneFrom, FirstHit, clear-out, not-clear}
use Rattle.nodes.specs.Graph.{Pair, nodes, Built}
use Rattle.nodes.specs.Store.{pairs_of}
use Rattle.nodes.specs.declared.Graph.{Graph}
use Rattle.memory.specs.declared.Netlist.{Netlist}
use Rattle.clauses.specs.Floor.{Floor, prefix}
use Rattle.floor.proofs.Rise.{bits}
use Rattle.conflicts.specs.Conflicts.{ran, Ran, Result}
use Rattle.conflicts.specs.declared.Verdict.{Verdict}
use Rattle.conflicts.specs.declared.Verdict.TheVariants.{Found, Clear, Out}
use Rattle.conflicts.proofs.Theorems.{found_first, clear_none, out-floor}
use Rattle.netlist.specs.Netlist.{net_nodes, net_words, net_of, Marked, NetlistIs}
use Rattle.netlist.proofs.Records.{nodes-more, val, root-value}
use Rattle.solver.specs.Solved.{bits_put}
use Rattle.solver.proofs.Bits.{put-free, prefix-place}
use Rattle.solver.proofs.Solving.{net-room, net-inside}
use Rattle.place_solver.specs.From.{started_bits, start_words, solved_from, floor_from, NoneBetween, FirstFrom, FloorAt, SolvedFrom}
use Rattle.place_solver.proofs.Beginning.{root_at, Hits, Hit, start-floor, begun-from}

module _ (n : ℕ) (gs : List Pair) (root words : ℕ) (room : 14 * net_nodes n gs root ≤ words) (built : Built n gs)
    (inside : var root < nodes n gs) (place : ℕ) (below : place < 2 ^ n) where
  abbrev p : ℕ → Bool
  p = root_at n gs root words room built inside place below

  abbrev H : ℕ → Type 0
  H = Hits n gs root words room built inside place below

  -- where no first hit stands before m, there is no hit from the place up to m
  none-up : (m : ℕ) → m ≤ 2 ^ n → ((x : ℕ) → FirstHit p (2 ^ n) place x → m ≤ x) → NoneBetween n gs root place m
  none-up m l floor x from h t = absurd (here (not-clear p (2 ^ n) place (not_T (clear_from p place (2 ^ n)) (λ c. clear-out p place (2 ^ n) c x from (omega arith) t))))
    where
      here : ((y : ℕ) × FirstHit p (2 ^ n) place y) → ⊥
      here f = f.1.first x from (omega (arith, floor f.0 f.1)) t

  -- how the search ends, the place of the floor then, and the free bits put in front
  abbrev ended : ℕ → Result
  ended e = ran (start_words n gs root words place) (net_of n gs root words) e

  abbrev floor : ℕ → ℕ
  floor e = prefix (bits (ended e).words (net_nodes n gs root)) n

  abbrev put : ℕ → List ℕ
  put e = bits_put (ended e).words (net_nodes n gs root) 0 n

  pub found_from : (e : ℕ) → (ended e).verdict ≡ Found → length (ended e).words ≡ words → FirstFrom n gs root place (floor e) (put e)
  unfolding net_of
  found_from e q size =
      let f =
      found_first (Hit n gs root words room built inside place below) H (val n gs root words room built inside) (net_of n gs root words)
      (start_words n gs root words place) (begun-from n gs root words room built inside place below) e q in
      let inside-all = prefix-place (ended e).words (net_nodes n gs root) n in
      record {
        from = omega (arith, f.2, start-floor n gs root words room built inside place below);
        place = inside-all;
        true-there = subst T (root-value n gs root words room built inside (floor e)) f.1;
        first = none-up (floor e) (omega (arith, inside-all)) f.0;
        bits = put-free (ended e).words (net_nodes n gs root) n (nodes-more n gs root words room) (omega arith);
      }

  -- the floor, where the search is given up
  pub out-from : (e : ℕ) → (ended e).verdict ≡ Out → length (ended e).words ≡ words → FloorAt n gs root place (floor e) (put e)
  unfolding net_of
  out-from e q size =
      let f =
      out-floor (Hit n gs root words room built inside place below) H (val n gs root words room built inside) (net_of n gs root words)
      (start_words n gs root words place) (begun-from n gs root words room built inside place below) e q in
      let inside-all = prefix-place (ended e).words (net_nodes n gs root) n in
      record {
        place = inside-all;
        none = none-up (floor e) (omega (arith, inside-all)) f;
        bits = put-free (ended e).words (net_nodes n gs root) n (nodes-more n gs root words room) (omega arith);
      }

  pub clear-from : (e : ℕ) {used : ℕ} → (ended e).verdict ≡ Clear used → NoneBetween n gs root place (2 ^ n)
  clear-from e q =
      let f =
      clear_none (Hit n gs root words room built inside place below) H (val n gs root words room built inside) (net_of n gs root words)
      (start_words n gs root words place) (begun-from n gs root words room built inside place below) e q in
      none-up (2 ^ n) (omega arith) (λ x h. absurd (f x h))

-- ---- a graph in memory

pub free-few : (work mid : List ℕ) (g : Graph) (root : ℕ) → Marked work g root → (net : Netlist) → NetlistIs g.free (pairs_of work g) root work mid net
    → net.free ≤ 65536
unfolding net_of
free-few work mid g root k net built =
    omega (arith, ap (λ (m : Netlist). m.free) built.net-is, k.sized.leaves, k.sized.nodes, k.sized.room)

module _ (work mid start last : List ℕ) (g : Graph) (root place e : ℕ) (k : Marked work g root) (below : place < 2 ^ g.free) (net : Netlist) (r : Verdict)
    (built : NetlistIs g.free (pairs_of work g) root work mid net) (put-there : start ≡ started_bits mid net.nodes net.free place 0 net.free)
    (given : Ran last r (ran start net e)) where
  abbrev N : ℕ
  N = net_nodes g.free (pairs_of work g) root

  abbrev end_of : Result
  end_of = ran (start_words g.free (pairs_of work g) root (length work) place) (net_of g.free (pairs_of work g) root (length work)) e

  start_is : start ≡ start_words g.free (pairs_of work g) root (length work) place
  unfolding start_words net_of
  start_is =
      put-there ∙ ap₂ (λ (u : List ℕ) (x : Netlist). started_bits u x.nodes x.free place 0 x.free) built.words_are built.net-is

  same-run : ran start net e ≡ end_of
  same-run = ap₂ (λ (u : List ℕ) (m : Netlist). ran u m e) start_is built.net-is

  same-verdict : end_of.verdict ≡ r
  same-verdict = sym (given.verdict ∙ ap (λ (x : Result). x.verdict) same-run)

  same-words : last ≡ end_of.words
  same-words = given.words ∙ ap (λ (x : Result). x.words) same-run

  -- the words that are left in the end
  last-words : (end : List ℕ) → end ≡ bits_put last net.nodes 0 net.free → end ≡ bits_put end_of.words N 0 g.free
  unfolding net_of
  last-words end put = put ∙ ap₂ (λ (u : List ℕ) (x : Netlist). bits_put u x.nodes 0 x.free) same-words built.net-is

  pub solved-from : (end : List ℕ) (v : Verdict) → r ≡ v → length last ≡ length work → end ≡ bits_put last net.nodes 0 net.free
      → SolvedFrom g.free (pairs_of work g) root place work e end v
  unfolding solved_from floor_from
  solved-from end Found q size put =
      let f =
      found_from g.free (pairs_of work g) root (length work) (net-room work g root k) k.built (net-inside work g root k) place below e
      (same-verdict ∙ q) (ap length (sym same-words) ∙ size) in (
        same-verdict ∙ q,
        (
          prefix (bits end_of.words N) g.free,
          subst (FirstFrom g.free (pairs_of work g) root place (prefix (bits end_of.words N) g.free)) (sym (last-words end put)) f,
        ),
      )
  solved-from end (Clear used) q size put = (
    same-verdict ∙ q,
    clear-from g.free (pairs_of work g) root (length work) (net-room work g root k) k.built (net-inside work g root k) place below e
        (same-verdict ∙ q),
  )
  solved-from end Out q size put =
      let f =
      out-from g.free (pairs_of work g) root (length work) (net-room work g root k) k.built (net-inside work g root k) place below e
      (same-verdict ∙ q) (ap length (sym same-words) ∙ size) in
      (same-verdict ∙ q, subst (FloorAt g.free (pairs_of work g) root place (prefix (bits end_of.words N) g.free)) (sym (last-words end put)) f)
