-- Nodes as they stand in words, edges, and the small functions of the code. Assumes nothing.
use Rattle.std.specs.Prelude.{Bool, cond, ◌&&◌, List, [], ◌∷◌, ◌++◌, ℕ, zero, suc, ◌+◌, ◌-◌, ◌*◌, ◌/◌, ◌%◌, ltb, eqb, length, get_or}
use Rattle.diagrams.specs.declared.Vertex.{Vertex}

-- what is read where there is no node
abbrev pub no_vertex : Vertex
no_vertex = record { lo = 0; hi = 0; var = 0; next = 0 }

-- node 0: no variable stands below it
abbrev pub false_vertex : Vertex
false_vertex = record { lo = 0; hi = 0; var = 4294967295; next = 0 }

-- the first word of node k, where there are so many words
abbrev pub word_of : ℕ → ℕ → ℕ
word_of words k = 4 * (words / 16 + k) + 4

-- node k, where all of it is in the words
unfoldable pub node_in : List ℕ → ℕ → Vertex
node_in w k =
    cond (ltb (word_of (length w) k + 3) (length w))
    (record {
      lo = get_or w (word_of (length w) k) 0;
      hi = get_or w (word_of (length w) k + 1) 0;
      var = get_or w
          (word_of (length w) k + 2) 0;
      next = get_or w (word_of (length w) k + 3) 0;
    })
    no_vertex

-- the first n nodes
unfoldable pub view : List ℕ → ℕ → List Vertex
view w zero = []
view w (suc n) = view w n ++ (node_in w n ∷ [])

abbrev pub node_at : List Vertex → ℕ → Vertex
node_at ns k = get_or ns k no_vertex

-- a place below size for three words, by multiplication; 0 where there is none
unfoldable pub bucket_of : ℕ → ℕ → ℕ → ℕ → ℕ
bucket_of size a b c = (a * 1327217885 + b * 889516853 + c * 1640531527) % 4294967296 * (size % 4294967296) / 4294967296

-- for how many nodes there is room in so many words
unfoldable pub room_of : ℕ → ℕ
room_of words =
    cond (ltb (words - words / 16) (4 * (words / 16) + 4)) 0
    (cond (ltb ((words - words / 16 - (4 * (words / 16) + 4)) / 4) 1073741824)
    ((words - words / 16 - (4 * (words / 16) + 4)) / 4) 1073741824)

-- the edge e, or its complement where c is odd
unfoldable pub flip : ℕ → ℕ → ℕ
flip e c = 2 * (e / 2) + (e % 2 + c % 2) % 2

-- the edge to node k
unfoldable pub edge_to : ℕ → ℕ
edge_to k = 2 * k % 4294967296

unfoldable pub is_node : Vertex → ℕ → ℕ → ℕ → Bool
is_node n v lo hi = (eqb n.lo lo && eqb n.hi hi) && eqb n.var v
