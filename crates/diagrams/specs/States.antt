-- What a diagram in words is, and what each step leaves, as a function of it. Assumes nothing.
use Rattle.std.specs.Prelude.{Result, Ok, Err, Bool, cond, ◌&&◌, List, [], ◌∷◌, ◌++◌, ℕ, zero, suc, ◌+◌, ◌-◌, ◌*◌, ◌/◌, ltb, leb, eqb, length, get_or, set, take, drop, replicate}
use Rattle.std.proofs.Math.Option.{Option, none, some}
use Rattle.diagrams.specs.declared.Vertex.{Vertex}
use Rattle.std.specs.Prelude as code
use Rattle.diagrams.specs.declared.Full.{Full}
use Rattle.diagrams.specs.Words.{no_vertex, view, node_at, bucket_of, room_of, flip, edge_to, is_node}

-- how many nodes fit, how many looks are left, the nodes, the heads of the hash lists, and the cache, four words for each entry. Words past
-- the nodes are no part of it
pub record State : Type 0 where
  pub room : ℕ
  pub looks : ℕ
  pub nodes : List Vertex
  pub heads : List ℕ
  pub cache : List ℕ

-- the diagram that stands in words
unfoldable pub state_of : List ℕ → State
state_of w =
    record {
      room = room_of (length w);
      looks = get_or w 1 0;
      nodes = view w (get_or w 0 0);
      heads = drop (length w - length w / 16) w;
      cache = take (4 * (length w / 16)) (drop 4 w);
    }

-- what a step answers: an edge, or that the diagram is full
abbrev pub Made : Type 0
Made = Result ℕ Full

-- what a look answers: what is known of a result, or that no look is left
abbrev pub Hint : Type 0
Hint = Result (code.Option ℕ) Full

-- a state, and an edge unless the answer is `Full`
pub record Outcome : Type 0 where
  pub state : State
  pub edge : Option ℕ

abbrev pub outcome : State → Option ℕ → Outcome
outcome s e = record { state = s; edge = e }

abbrev pub edge_of : Made → Option ℕ
edge_of (Ok e) = some e
edge_of (Err full) = none

-- what the words that are left and the answer stand for
abbrev pub left : List ℕ → Made → Outcome
left w r = outcome (state_of w) (edge_of r)

-- what follows where there is an edge
abbrev pub on_edge : Option ℕ → State → (State → ℕ → Outcome) → Outcome
on_edge none s k = outcome s none
on_edge (some e) s k = k s e

abbrev pub and_then : Outcome → (State → ℕ → Outcome) → Outcome
and_then o k = on_edge o.edge o.state k

-- ---- nodes

-- the node of a variable and two edges among the first n of the hash list that begins at `at`, or 0
unfoldable pub found : List Vertex → ℕ → ℕ → ℕ → ℕ → ℕ → ℕ
found ns v lo hi zero at = 0
found ns v lo hi (suc n) at =
    cond (eqb at 0) 0 (cond (is_node (node_at ns at) v lo hi) at (found ns v lo hi n (node_at ns at).next))

-- whether variable v stands above edge e
unfoldable pub is_above : List Vertex → ℕ → ℕ → Bool
is_above ns v e = ltb v (node_at ns (e / 2)).var

-- one node more, the first of hash list h
unfoldable pub added : State → ℕ → ℕ → ℕ → ℕ → State
added s h v lo hi =
    record {
      room = s.room;
      looks = s.looks;
      nodes = s.nodes ++ (record { lo = lo; hi = hi; var = v; next = get_or s.heads h 0 } ∷ []);
      heads = set s.heads h (length s.nodes);
      cache = s.cache;
    }

-- the same where there is room and the variable stands above both edges
unfoldable pub appended : State → ℕ → ℕ → ℕ → ℕ → Outcome
appended s h v lo hi =
    cond (ltb (length s.nodes) s.room)
    (cond (is_above s.nodes v lo)
    (cond (is_above s.nodes v hi) (outcome (added s h v lo hi) (some (edge_to (length s.nodes)))) (outcome s none)) (outcome s none))
    (outcome s none)

abbrev pub or_appended : State → ℕ → ℕ → ℕ → ℕ → ℕ → Outcome
or_appended s h v lo hi k = cond (ltb 0 k) (outcome s (some (edge_to k))) (appended s h v lo hi)

-- the hash list of a variable and two edges
abbrev pub list_of : State → ℕ → ℕ → ℕ → ℕ
list_of s v lo hi = bucket_of (length s.heads) lo hi v

unfoldable pub found_or_appended : State → ℕ → ℕ → ℕ → Outcome
found_or_appended s v lo hi =
    or_appended s (list_of s v lo hi) v lo hi
    (found s.nodes v lo hi (length s.nodes) (get_or s.heads (list_of s v lo hi) 0))

-- the edge that is hi where variable v is true and lo where it is false. In a node lo is no complement: that of the result is taken in its
-- place
unfoldable pub made : State → ℕ → ℕ → ℕ → Outcome
made s v lo hi =
    cond (eqb lo hi) (outcome s (some lo))
    (and_then (found_or_appended s v (flip lo lo) (flip hi lo)) (λ t e. outcome t (some (flip e lo))))

-- ---- looks, and the cache: four words for each entry, three operands and the result. An entry is empty where its first operand is 0

-- n looks taken, where so many are left
unfoldable pub paid : State → ℕ → State
paid s n =
    cond (ltb s.looks n) s
    (record { room = s.room; looks = s.looks - n; nodes = s.nodes; heads = s.heads; cache = s.cache })

-- whether so many are left
unfoldable pub is_paid : State → ℕ → Bool
is_paid s n = leb n s.looks

-- what entry i has for three operands
unfoldable pub entry_at : List ℕ → ℕ → ℕ → ℕ → ℕ → code.Option ℕ
entry_at cache i f g h =
    cond (ltb i (length cache / 4))
    (cond ((eqb (get_or cache (4 * i) 0) f && eqb (get_or cache (4 * i + 1) 0) g) && eqb (get_or cache (4 * i + 2) 0) h)
    (code.Some (get_or cache (4 * i + 3) 0)) code.None)
    code.None

-- the place of three operands
abbrev pub place_of : List ℕ → ℕ → ℕ → ℕ → ℕ
place_of cache f g h = bucket_of (length cache / 4) f g h

-- what the cache has for three operands
unfoldable pub entry_of : List ℕ → ℕ → ℕ → ℕ → code.Option ℕ
entry_of cache f g h = entry_at cache (place_of cache f g h) f g h

-- a state and what a look at the cache told
pub record Seen : Type 0 where
  pub state : State
  pub hint : Hint

-- the words that are left after a look, and what it told
abbrev pub seen : List ℕ → Hint → Seen
seen w r = record { state = state_of w; hint = r }

-- a look for three operands, for one of the looks that are left: `Full` where there is none
unfoldable pub looked_up : State → ℕ → ℕ → ℕ → Seen
looked_up s f g h = record { state = paid s 1; hint = cond (is_paid s 1) (Ok (entry_of s.cache f g h)) (Err (record {})) }

-- what is done where nothing is known
abbrev pub on_hint : Hint → State → (State → Outcome) → Outcome
on_hint (Ok (code.Some e)) s k = outcome s (some e)
on_hint (Ok code.None) s k = k s
on_hint (Err full) s k = outcome s none

abbrev pub or_else : Seen → (State → Outcome) → Outcome
or_else x k = on_hint x.hint x.state k

-- entry i with three operands and their result
unfoldable pub stored : List ℕ → ℕ → ℕ → ℕ → ℕ → ℕ → List ℕ
stored cache i f g h r =
    cond (ltb i (length cache / 4)) (set (set (set (set cache (4 * i) f) (4 * i + 1) g) (4 * i + 2) h) (4 * i + 3) r) cache

-- the result r kept for three operands
unfoldable pub keeping : State → ℕ → ℕ → ℕ → ℕ → State
keeping s f g h r =
    record {
      room = s.room;
      looks = s.looks;
      nodes = s.nodes;
      heads = s.heads;
      cache = stored s.cache (place_of s.cache f g h) f g h r;
    }

-- the edge of an outcome, kept for three operands
unfoldable pub remembered : Outcome → ℕ → ℕ → ℕ → Outcome
remembered o f g h = and_then o (λ t e. outcome (keeping t f g h e) (some e))

-- the node of two results, kept for three operands
unfoldable pub finished : State → ℕ → ℕ → ℕ → ℕ → ℕ → ℕ → Outcome
finished s v lo hi f g h = remembered (made s v lo hi) f g h

-- ---- the beginning

-- so many words with node 0 alone, and so many looks
unfoldable pub begun : ℕ → ℕ → List ℕ
begun words looks = set (set (set (replicate words 0) 0 1) 1 looks) (4 * (words / 16) + 6) 4294967295
