-- What a collection keeps. Assumes nothing.
use Rattle.std.specs.Prelude.{◌≡◌, List, ℕ, ◌<◌, length, get_or}
use Rattle.diagrams.specs.declared.Vertex.{Vertex}
use Rattle.diagrams.specs.Meaning.{Assignment, value, In, Terms, VectorsIn, Good}
use Rattle.collection.specs.Collecting.{Collection}

-- the state that is left is good for any terms whose vectors have edges of it, and every root that was an edge of ns is one of it, with the
-- value that it had
pub record Keeps (ns : List Vertex) (roots : List ℕ) (c : Collection) : Type 0 where
  pub good : (terms : Terms) → VectorsIn terms c.state.nodes → Good terms c.state
  pub long : length c.roots ≡ length roots
  pub inside : (i : ℕ) → i < length roots → In ns (get_or roots i 0) → In c.state.nodes (get_or c.roots i 0)
  pub same :
      (i : ℕ) → i < length roots → In ns (get_or roots i 0) → (x : Assignment)
      → value c.state.nodes x (get_or c.roots i 0) ≡ value ns x (get_or roots i 0)
