-- From the graph of the hit and what its places have to the decision on the frame. Assumes nothing.
use mathlib.Core.Path.{◌≡◌, refl, sym, ap, ap₂, ◌∙◌, subst}
use mathlib.Core.Bool.{Bool, true, false, cond}
use mathlib.Core.List.{List, ◌++◌}
use Prim.Native.Nat.{ℕ, ◌+◌, ◌*◌, ◌^◌, ◌≤◌, ◌<◌, max}
use native.Mathlib.Decide.{dec_lt}
use native.Mathlib.Omega.{arith}
use borrow.Author.Tests.{leb-false, le-leb, lt-leb}
use lib.Pow.{pow_mono}
use lib.Dec.{T, leb}
use lib.ListN.{length, get_or, take, length-take, get_or-append}
use Rattle.aiger.specs.Bits.{nonzero}
use Rattle.aiger.specs.Circuit.{Circuit, var}
use Rattle.aiger.specs.Frames.{free_bits, free_bit, size}
use Rattle.aiger.specs.Search.{Decision}
use Rattle.never_search.specs.Runs.{question_by, reaches_by}
use Rattle.enumeration.specs.Choice.{decision_at}
use Rattle.enumeration.specs.Frame.{FreeBits}
use Rattle.enumeration.specs.declared.Frame.{Frame}
use Rattle.enumeration.specs.declared.Frame.TheVariants as F
use Rattle.enumeration.proofs.Laws.{spent-first}
use Rattle.nodes.specs.Graph.{Pair, edge_value, Built}
use Rattle.nodes.specs.Store.{pairs_of}
use Rattle.nodes.specs.Edges.{edge_word}
use Rattle.nodes.specs.declared.Graph.{Graph}
use Rattle.nodes.specs.declared.Edge.{Edge}
use Rattle.nodes.proofs.Laws.{word-node}
use Rattle.graph.specs.declared.Made.{Made}
use Rattle.graph.specs.Chosen.{Outcome}
use Rattle.cone.specs.Store.{Markable, ConeMarked}
use Rattle.cone.proofs.Marking.{cone-marks}
use Rattle.support.specs.Counting.{rank, passed}
use Rattle.support.specs.Support.{support}
use Rattle.support.proofs.Counting.{spread-lt, spread-ge, passed-all, passed-part, passed-covers}
use Rattle.simulation.specs.Store.{Net}
use Rattle.simulation.specs.Found.{root_at, NoHit, FirstHit}
use Rattle.unroll.specs.Chosen.{unrolled_by}
use Rattle.unroll.specs.Unrolled.{UnrolledBy}
use Rattle.conflicts.specs.declared.Verdict.{Verdict}
use Rattle.conflicts.specs.declared.Verdict.TheVariants.{Found, Clear, Out}
use Rattle.netlist.specs.Netlist.{Marked}
use Rattle.solver.specs.Solved.{solved, solved_floor, FloorLeft, SolvedIs}
use Rattle.decision.specs.Reach.{effort, searched_by, decided_or, tried_by, floor_by, end_of, reached_by, reach_by, decision_by}
use Rattle.decision.specs.Decided.{PreparedBy, Scanned, Floored, Resumed, DecidedBy}
use Rattle.decision.proofs.Deciding.{hit-at, clear_at, spent-at, reach-most, reach-tried}

-- ---- the graph, when its cone is marked

module _ {alone : Bool} {c : Circuit} {b t room : ℕ} {work : List ℕ} {made : Made} (u : UnrolledBy alone c b t work room made) where
  pub markable : Markable work made.graph (edge_word made.edge)
  markable =
      record {
        sized = u.stored.sized;
        built = u.stored.built;
        inside = omega (arith, u.node, word-node made.edge);
      }

  pub prepared : (last : List ℕ) → ConeMarked work last made.graph (edge_word made.edge) → length last ≡ length work → room ≡ size c t → PreparedBy alone c b t last made
  prepared last marked long is =
      let s = u.stored.sized in
      record {
        net =
            record {
              sized = record { leaves = s.leaves; nodes = s.nodes; room = s.room; held = omega (arith, s.held) };
              pairs = refl;
              built = subst (Built made.graph.free) (sym marked.pairs) u.stored.built;
              marks = cone-marks work last made.graph (edge_word made.edge) marked;
              inside = omega (arith, u.node, word-node made.edge);
            };
        free = u.free;
        room = u.room-is ∙ is;
        hit = λ x h. ap₂ (λ (m : ℕ) (hs : List Pair). root_at m hs (edge_word made.edge) x) u.free marked.pairs ∙ u.hit x h;
        chosen = u.chosen ∙ ap (λ (hs : List Pair). record { gates = hs; edge = edge_word made.edge }) (sym marked.pairs);
      }

module _ {alone : Bool} {c : Circuit} {b t : ℕ} {work : List ℕ} {made : Made} (u : PreparedBy alone c b t work made) where
  -- what is tried of the graph
  tried-is : (D : ℕ) → passed (support made.graph.free (pairs_of work made.graph) (edge_word made.edge)) made.graph.free (max D 16384) ≡ tried_by alone c b t D
  unfolding tried_by
  tried-is D = ap₂ (λ (m : ℕ) (o : Outcome). passed (support m o.gates o.edge) m (max D 16384)) u.free (sym u.chosen)

  module _ (D : ℕ) where
    scan-hit : {after : List ℕ} {x : ℕ} → FirstHit made.graph.free (pairs_of work made.graph) (edge_word made.edge) (max D 16384) after x
        → (decision_by alone c b t D ≡ Decision.hit x) × FreeBits (free_bits c t) x after
    unfolding decision_by
    scan-hit {after} {x} f =
        let l : x < reach_by alone c b t D = omega (arith, f.below, tried-is D, reach-tried alone c b t D) in
        let k : x < 2 ^ free_bits c t = omega (arith, reach-most alone c b t D) in
        (hit-at (reaches_by alone c b t) (2 ^ free_bits c t) (reach_by alone c b t D) x l k (subst T (u.hit x k) f.hit) (λ y h s. f.first y h (subst T (sym (u.hit y (omega arith))) s)), subst (λ (m : ℕ). FreeBits m x after) u.free f.bits)

    scan-clear : (2 ^ rank (support made.graph.free (pairs_of work made.graph) (edge_word made.edge)) made.graph.free ≤ max D 16384) × NoHit made.graph.free (pairs_of work made.graph) (edge_word made.edge) (2 ^ made.graph.free)
        → decision_by alone c b t D ≡ Decision.clear
    unfolding decision_by
    scan-clear f =
        let s = support made.graph.free (pairs_of work made.graph) (edge_word made.edge) in
        let e : 2 ^ made.graph.free ≡ 2 ^ free_bits c t = ap (λ (m : ℕ). 2 ^ m) u.free in
        clear_at (reaches_by alone c b t) (2 ^ free_bits c t) (reach_by alone c b t D)
        (omega (arith, tried-is D, reach-tried alone c b t D, passed-all s made.graph.free (max D 16384) f.0))
        (λ y h w. f.1 y (omega arith) (subst T (sym (u.hit y h)) w))

    reach-part : searched_by alone c b t D ≡ Out → reach_by alone c b t D ≡ tried_by alone c b t D
    unfolding reach_by
    reach-part o = ap (λ (v : Verdict). decided_or v (2 ^ free_bits c t) (tried_by alone c b t D)) o

    scan-spent : searched_by alone c b t D ≡ Out → (max D 16384 < 2 ^ rank (support made.graph.free (pairs_of work made.graph) (edge_word made.edge)) made.graph.free) × NoHit made.graph.free (pairs_of work made.graph) (edge_word made.edge) (passed (support made.graph.free (pairs_of work made.graph) (edge_word made.edge)) made.graph.free (max D 16384))
        → decision_by alone c b t D ≡ Decision.spent
    unfolding decision_by
    scan-spent o f =
        let s = support made.graph.free (pairs_of work made.graph) (edge_word made.edge) in
        let e : 2 ^ made.graph.free ≡ 2 ^ free_bits c t = ap (λ (m : ℕ). 2 ^ m) u.free in
        let p : passed s made.graph.free (max D 16384) ≡ reach_by alone c b t D = tried-is D ∙ sym (reach-part o) in
        let k : passed s made.graph.free (max D 16384) < 2 ^ made.graph.free =
        leb-false (2 ^ made.graph.free) (passed s made.graph.free (max D 16384))
        (passed-covers s made.graph.free (max D 16384) ∙ lt-leb (2 ^ rank s made.graph.free) (max D 16384) f.0) in
        spent-at (reaches_by alone c b t) (2 ^ free_bits c t) (reach_by alone c b t D) (omega arith)
        (λ y h w. f.1 y (omega arith) (subst T (sym (u.hit y (omega (arith, reach-most alone c b t D)))) w))

    -- the places of the support decide the frame, where they are no more than are tried
    pub scanned : (after : List ℕ) (r : Frame)
        → 2 ^ rank (support made.graph.free (pairs_of work made.graph) (edge_word made.edge)) made.graph.free ≤ max D 16384
        → Scanned made.graph.free (pairs_of work made.graph) (edge_word made.edge) (max D 16384) after r → DecidedBy alone c b t D after r
    scanned after F.Hit o f = let h = scan-hit f.1 in (f.0, h.0, h.1)
    scanned after F.Clear o f = scan-clear f
    scanned after F.Spent o f = absurd (omega (arith, f.0))

    -- the end of what is tried on the graph
    end_is : (x : ℕ) → x ≡ floor_by alone c b t D → free_bits c t ≤ 1024 → end_of made.graph.free (pairs_of work made.graph) (edge_word made.edge) (max D 16384) x ≡ reached_by alone c b t D
    unfolding reached_by
    end_is x e h =
        let z = end_of (free_bits c t) (unrolled_by alone c b t).gates (unrolled_by alone c b t).edge (max D 16384) (floor_by alone c b t D) in
        ap₂ (λ (m : ℕ) (o : Outcome). end_of m o.gates o.edge (max D 16384) x) u.free (sym u.chosen)
        ∙ ap (end_of (free_bits c t) (unrolled_by alone c b t).gates (unrolled_by alone c b t).edge (max D 16384)) e
        ∙ sym (ap (λ (q : Bool). cond q z (tried_by alone c b t D)) (le-leb (free_bits c t) 1024 h))

    -- with more free bits the end is what is tried
    end-tried : 1024 < free_bits c t → tried_by alone c b t D ≡ reached_by alone c b t D
    unfolding reached_by
    end-tried h =
        let z = end_of (free_bits c t) (unrolled_by alone c b t).gates (unrolled_by alone c b t).edge (max D 16384) (floor_by alone c b t D) in
        sym (ap (λ (q : Bool). cond q z (tried_by alone c b t D)) (lt-leb (free_bits c t) 1024 h))

    pub scanned-all : (after : List ℕ) (r : Frame) → searched_by alone c b t D ≡ Out → 1024 < free_bits c t
        → Scanned made.graph.free (pairs_of work made.graph) (edge_word made.edge) (max D 16384) after r → DecidedBy alone c b t D after r
    scanned-all after F.Hit o many f = let h = scan-hit f.1 in (f.0, h.0, h.1)
    scanned-all after F.Clear o many f = scan-clear f
    scanned-all after F.Spent o many f =
        let s = support made.graph.free (pairs_of work made.graph) (edge_word made.edge) in
        let e = tried-is D in
        let z = end-tried many in
        let p : 2 ^ made.graph.free ≡ 2 ^ free_bits c t = ap (λ (m : ℕ). 2 ^ m) u.free in
        let q = passed-part s made.graph.free (max D 16384) f.0 in
        let m = spread-lt s made.graph.free (max D 16384) in
        record {
          decided = scan-spent o f;
          none = λ x l w. f.1 x (omega arith) (subst T (sym (u.hit x (omega arith))) w);
          least = omega (arith, spread-ge s made.graph.free (max D 16384) f.0);
          most = omega arith;
          bits = λ h. absurd (omega arith);
        }

    -- the places of the support from the floor on decide the frame
    pub resumed : (after : List ℕ) (r : Frame) → searched_by alone c b t D ≡ Out → free_bits c t ≤ 1024
        → Resumed made.graph.free (pairs_of work made.graph) (edge_word made.edge) (max D 16384) (floor_by alone c b t D) after r → DecidedBy alone c b t D after r
    resumed after F.Hit o few f = let h = scan-hit f.1 in (f.0, h.0, h.1)
    resumed after F.Clear o few f = scan-clear f
    resumed after F.Spent o few f =
        let e = end_is (floor_by alone c b t D) refl few in
        let p : 2 ^ made.graph.free ≡ 2 ^ free_bits c t = ap (λ (m : ℕ). 2 ^ m) u.free in
        record {
          decided = scan-spent o (f.beyond, f.tried);
          none = λ x l w. f.none x (omega arith) (subst T (sym (u.hit x (omega (arith, f.most)))) w);
          least = omega (arith, f.least);
          most = omega (arith, f.most);
          bits = λ h. subst (λ (m : ℕ). FreeBits m (reached_by alone c b t D) after) u.free (subst (λ (z : ℕ). FreeBits made.graph.free z after) e f.bits);
        }

    -- the floor as the graph has it
    pub floored : (words : List ℕ) → Floored alone c b t D words → FloorLeft made.graph.free (pairs_of work made.graph) (edge_word made.edge) (floor_by alone c b t D) words
    floored words f =
        let p : 2 ^ made.graph.free ≡ 2 ^ free_bits c t = ap (λ (m : ℕ). 2 ^ m) u.free in
        record {
          place = omega (arith, f.place);
          none = λ x l w. f.none x l (subst T (u.hit x (omega (arith, f.place))) w);
          bits = subst (λ (m : ℕ). FreeBits m (floor_by alone c b t D) words) (sym u.free) f.bits;
        }

    -- ---- the conflict search

    -- the graph has all words to itself
    pub marked : length work ≡ 16 * size c t → Marked work made.graph (edge_word made.edge)
    marked e =
        record {
          sized = u.net.sized;
          exact = e ∙ ap (λ (x : ℕ). 16 * x) (sym u.room);
          built = u.net.built;
          marks = u.net.marks;
          inside = u.net.inside;
        }

    searched-is : length work ≡ 16 * size c t → (e : ℕ) → e ≡ effort (size c t) D
        → solved made.graph.free (pairs_of work made.graph) (edge_word made.edge) (length work) e ≡ searched_by alone c b t D
    unfolding searched_by
    searched-is long e q =
        ap₂ (λ (m : ℕ) (o : Outcome). solved m o.gates o.edge (length work) e) u.free (sym u.chosen)
        ∙ ap₂ (solved (free_bits c t) (unrolled_by alone c b t).gates (unrolled_by alone c b t).edge) long q

    reach-found : searched_by alone c b t D ≡ Found → reach_by alone c b t D ≡ 2 ^ free_bits c t
    unfolding reach_by
    reach-found o = ap (λ (v : Verdict). decided_or v (2 ^ free_bits c t) (tried_by alone c b t D)) o

    reach-clear : {used : ℕ} → searched_by alone c b t D ≡ Clear used → reach_by alone c b t D ≡ 2 ^ free_bits c t
    unfolding reach_by
    reach-clear o = ap (λ (v : Verdict). decided_or v (2 ^ free_bits c t) (tried_by alone c b t D)) o

    module _ (long : length work ≡ 16 * size c t) (e : ℕ) (q : e ≡ effort (size c t) D) (after : List ℕ) where
      pub solved-hit : SolvedIs made.graph.free (pairs_of work made.graph) (edge_word made.edge) work e after Found → DecidedBy alone c b t D after F.Hit
      unfolding decision_by
      solved-hit f =
          let x = f.1.0 in
          let h = f.1.1 in
          let r = reach-found (sym (searched-is long e q) ∙ f.0) in
          let p : 2 ^ made.graph.free ≡ 2 ^ free_bits c t = ap (λ (m : ℕ). 2 ^ m) u.free in
          let k : x < 2 ^ free_bits c t = omega (arith, h.place) in (
            x,
            hit-at (reaches_by alone c b t) (2 ^ free_bits c t) (reach_by alone c b t D) x (omega arith) k (subst T (u.hit x k) h.true-there)
                (λ y l s. h.first y l (subst T (sym (u.hit y (omega arith))) s)),
            subst (λ (m : ℕ). FreeBits m x after) u.free h.bits,
          )

      pub solved-clear : {used : ℕ}
          → SolvedIs made.graph.free (pairs_of work made.graph) (edge_word made.edge) work e after (Clear used) → DecidedBy alone c b t D after F.Clear
      unfolding decision_by
      solved-clear f =
          let r = reach-clear (sym (searched-is long e q) ∙ f.0) in
          let p : 2 ^ made.graph.free ≡ 2 ^ free_bits c t = ap (λ (m : ℕ). 2 ^ m) u.free in
          clear_at (reaches_by alone c b t) (2 ^ free_bits c t) (reach_by alone c b t D) (omega arith) (λ y h w. f.1 y (omega arith) (subst T (sym (u.hit y h)) w))

      floor-is : solved_floor made.graph.free (pairs_of work made.graph) (edge_word made.edge) (length work) e ≡ floor_by alone c b t D
      unfolding floor_by
      floor-is =
          ap₂ (λ (m : ℕ) (o : Outcome). solved_floor m o.gates o.edge (length work) e) u.free (sym u.chosen)
          ∙ ap₂ (solved_floor (free_bits c t) (unrolled_by alone c b t).gates (unrolled_by alone c b t).edge) long q

      pub solved-out : SolvedIs made.graph.free (pairs_of work made.graph) (edge_word made.edge) work e after Out → (searched_by alone c b t D ≡ Out) × Floored alone c b t D after
      solved-out f =
          let p : 2 ^ made.graph.free ≡ 2 ^ free_bits c t = ap (λ (m : ℕ). 2 ^ m) u.free in
          let l = f.1 in (
            sym (searched-is long e q) ∙ f.0,
            record {
              place = omega (arith, l.place, floor-is);
              none = λ x h w. l.none x (omega (arith, floor-is)) (subst T (sym (u.hit x (omega (arith, l.place, floor-is)))) w);
              bits =
                  subst (λ (m : ℕ). FreeBits m (floor_by alone c b t D) after) u.free
                  (subst (λ (z : ℕ). FreeBits made.graph.free z after) floor-is l.bits);
            },
          )

-- the floor's free bits, copied
pub floor-copied : (alone : Bool) (c : Circuit) (b t D n : ℕ) (from to : List ℕ) → free_bits c t ≤ n → ((j : ℕ) → j < n → get_or to j 0 ≡ get_or from j 0) → Floored alone c b t D from → Floored alone c b t D to
floor-copied alone c b t D n from to h e f =
    record { place = f.place; none = f.none; bits = λ j l. ap nonzero (e j (omega arith)) ∙ f.bits j l }

-- ---- the frame's words are the first ones of working memory

pub part-decided : (alone : Bool) (c : Circuit) (b t D : ℕ) (part rest : List ℕ) (r : Frame) → free_bits c t ≤ length part → DecidedBy alone c b t D part r
    → DecidedBy alone c b t D (part ++ rest) r
part-decided alone c b t D part rest F.Hit l f =
    (f.0, f.1, λ j h. ap nonzero (get_or-append part rest 0 j (omega arith)) ∙ f.2 j h)
part-decided alone c b t D part rest F.Clear l f = f
part-decided alone c b t D part rest F.Spent l f =
    record {
      decided = f.decided;
      none = f.none;
      least = f.least;
      most = f.most;
      bits = λ k j h. ap nonzero (get_or-append part rest 0 j (omega arith)) ∙ f.bits k j h;
    }

pub part-long : (n : ℕ) (xs : List ℕ) → n ≤ length xs → length (take n xs) ≡ n
part-long n xs h = simp length-take (omega arith)
