-- The values of edges under an assignment of the variables, and when a state is right for them. Assumes nothing.
use Rattle.std.specs.Prelude.{◌≡◌, Bool, true, false, not, cond, ◌&&◌, ◌||◌, List, [], ◌∷◌, ◌++◌, ℕ, ◌+◌, ◌*◌, ◌/◌, ◌%◌, ◌≤◌, ◌<◌, eqb, length, get_or}
use Rattle.std.proofs.Math.Option.{Option, none, some}
use Rattle.diagrams.specs.declared.Vertex.{Vertex}
use Rattle.diagrams.specs.Words.{false_vertex, node_at}
use Rattle.diagrams.specs.States.{State, Outcome}

-- a value for each variable
abbrev pub Assignment : Type 0
Assignment = ℕ → Bool

-- the value of an edge, where the nodes have the values vs
unfoldable pub edge_in : List Bool → ℕ → Bool
edge_in vs e = cond (eqb (e % 2) 0) (get_or vs (e / 2) false) (not (get_or vs (e / 2) false))

-- the values of nodes, each in turn from those before it
unfoldable pub grown : Assignment → List Bool → List Vertex → List Bool
grown x vs [] = vs
grown x vs (n ∷ ns) = grown x (vs ++ (cond (x n.var) (edge_in vs n.hi) (edge_in vs n.lo) ∷ [])) ns

abbrev pub values : List Vertex → Assignment → List Bool
values ns x = grown x [] ns

-- the value of an edge
unfoldable pub value : List Vertex → Assignment → ℕ → Bool
value ns x e = edge_in (values ns x) e

-- e is an edge of the diagram
abbrev pub In : List Vertex → ℕ → Type 0
In ns e = e / 2 < length ns

-- variable v stands above edge e
abbrev pub Above : List Vertex → ℕ → ℕ → Type 0
Above ns v e = v < (node_at ns (e / 2)).var

-- node 0 is false; the two edges of another node differ, lead to earlier nodes, and its variable stands above both
pub record Built (ns : List Vertex) : Type 0 where
  pub some-node : 0 < length ns
  pub first : node_at ns 0 ≡ false_vertex
  pub lo : (k : ℕ) → 0 < k → k < length ns → (node_at ns k).lo / 2 < k
  pub hi : (k : ℕ) → 0 < k → k < length ns → (node_at ns k).hi / 2 < k
  pub apart : (k : ℕ) → 0 < k → k < length ns → (node_at ns k).lo ≡ (node_at ns k).hi → ⊥
  pub lo-above : (k : ℕ) → 0 < k → k < length ns → Above ns (node_at ns k).var (node_at ns k).lo
  pub hi-above : (k : ℕ) → 0 < k → k < length ns → Above ns (node_at ns k).var (node_at ns k).hi

-- ms has the nodes of ns, and after them others
pub record Front (ns ms : List Vertex) : Type 0 where
  pub more : List Vertex
  pub same : ms ≡ ns ++ more

-- ---- what is asked of an edge r

-- hi where the variable is true, lo where it is false
abbrev pub if_else : List Vertex → ℕ → ℕ → ℕ → Assignment → Bool
if_else ns v lo hi x = cond (x v) (value ns x hi) (value ns x lo)

pub record Branch (v lo hi : ℕ) (ns : List Vertex) (r : ℕ) : Type 0 where
  pub r-in : In ns r
  pub same : (x : Assignment) → value ns x r ≡ if_else ns v lo hi x

-- the conjunction of f and g
pub record Both (f g : ℕ) (ns : List Vertex) (r : ℕ) : Type 0 where
  pub f-in : In ns f
  pub g-in : In ns g
  pub r-in : In ns r
  pub same : (x : Assignment) → value ns x r ≡ (value ns x f && value ns x g)

-- the disjunction of f and g
pub record Either (f g : ℕ) (ns : List Vertex) (r : ℕ) : Type 0 where
  pub f-in : In ns f
  pub g-in : In ns g
  pub r-in : In ns r
  pub same : (x : Assignment) → value ns x r ≡ (value ns x f || value ns x g)

-- g where f is true, h where it is false
pub record Choice (f g h : ℕ) (ns : List Vertex) (r : ℕ) : Type 0 where
  pub f-in : In ns f
  pub g-in : In ns g
  pub h-in : In ns h
  pub r-in : In ns r
  pub same : (x : Assignment) → value ns x r ≡ cond (value ns x f) (value ns x g) (value ns x h)

-- y has the values of x for the variables before a level
abbrev pub Agree : ℕ → Assignment → Assignment → Type 0
Agree level x y = (v : ℕ) → v < level → y v ≡ x v

-- e is true for some values of the variables from the level on
pub record Possible (level : ℕ) (ns : List Vertex) (e : ℕ) (x : Assignment) : Type 0 where
  pub there : Assignment
  pub agrees : Agree level x there
  pub holds : value ns there e ≡ true

-- r is true exactly where e is possible
pub record Shadow (level e : ℕ) (ns : List Vertex) (r : ℕ) : Type 0 where
  pub e-in : In ns e
  pub r-in : In ns r
  pub sound : (x : Assignment) → value ns x r ≡ true → Possible level ns e x
  pub complete : (x : Assignment) → Possible level ns e x → value ns x r ≡ true

-- the values of a vector of edges, as an assignment: variable v has that of the edge at v, and is false past the vector
unfoldable pub after : List Vertex → List ℕ → Assignment → Assignment
after ns vector x v = value ns x (get_or vector v 0)

-- r is e with the edges of a vector in place of the variables
pub record Composed (vector : List ℕ) (e : ℕ) (ns : List Vertex) (r : ℕ) : Type 0 where
  pub e-in : In ns e
  pub r-in : In ns r
  pub same : (x : Assignment) → value ns x r ≡ value ns (after ns vector x) e

-- ---- states

-- what the entries of a cache are for: the level of `exists`, and for each tag the vector of edges that are put in place of variables
pub record Terms : Type 0 where
  pub level : ℕ
  pub vectors : List (List ℕ)

-- the vector of a tag
abbrev pub vector_of : Terms → ℕ → List ℕ
vector_of terms tag = get_or terms.vectors tag []

-- the terms with one vector more, whose tag is the number of vectors before
abbrev pub with_vector : Terms → List ℕ → Terms
with_vector terms vector = record { level = terms.level; vectors = terms.vectors ++ (vector ∷ []) }

-- the edges of every vector are of the diagram
abbrev pub VectorsIn : Terms → List Vertex → Type 0
VectorsIn terms ns = (tag v : ℕ) → In ns (get_or (vector_of terms tag) v 0)

-- an entry of the cache is empty, or its result is right for its three operands
pub data Entry (terms : Terms) (ns : List Vertex) (f g h r : ℕ) : Type 0 where
  empty : f ≡ 0 → Entry terms ns f g h r
  both : h ≡ 0 → Both f g ns r → Entry terms ns f g h r
  shadow : h ≡ 1 → g ≡ 0 → Shadow terms.level f ns r → Entry terms ns f g h r
  composed :
      (tag : ℕ) → h ≡ 1 → g ≡ tag + 1 → tag < length terms.vectors → Composed (vector_of terms tag) f ns r → Entry terms ns f g h r

-- every entry is right
abbrev pub Entries : Terms → List Vertex → List ℕ → Type 0
Entries terms ns c =
    (i : ℕ) → i < length c / 4
    → Entry terms ns (get_or c (4 * i) 0) (get_or c (4 * i + 1) 0) (get_or c (4 * i + 2) 0) (get_or c (4 * i + 3) 0)

-- nodes and cache of a state are right, for terms
pub record Good (terms : Terms) (s : State) : Type 0 where
  pub built : Built s.nodes
  pub small : length s.nodes ≤ 1073741824
  pub fits : s.room ≤ 1073741824
  pub vectors-in : VectorsIn terms s.nodes
  pub entries : Entries terms s.nodes s.cache

-- no edge, or one of which holds what is asked
pub data Answer (asked : ℕ → Type 0) : Option ℕ → Type 0 where
  no_edge : Answer asked none
  is-edge : {e : ℕ} → asked e → Answer asked (some e)

-- the state that is left is good, nodes were only added, and what is asked holds of an edge in the diagram that is left
pub record Right (terms : Terms) (s : State) (asked : List Vertex → ℕ → Type 0) (o : Outcome) : Type 0 where
  pub good : Good terms o.state
  pub grows : Front s.nodes o.state.nodes
  pub answer : Answer (asked o.state.nodes) o.edge
