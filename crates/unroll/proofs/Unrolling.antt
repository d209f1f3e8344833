-- From the requirement of `unroll` to its contract: the room for each part of the graph, and the hit of the last frame. Assumes nothing.
use mathlib.Core.Path.{◌≡◌, refl, sym, ap, ◌∙◌, subst}
use mathlib.Core.Bool.{Bool}
use mathlib.Core.List.{List, []}
use Prim.Native.Nat.{ℕ, zero, suc, ◌+◌, ◌*◌, ◌≤◌, ◌<◌}
use native.Mathlib.Omega.{arith}
use lib.ListN.{length, get_or, replicate}
use Rattle.aiger.specs.Frames.{free_bits}
use Rattle.layout.specs.Words.{circuit_in}
use Rattle.layout.specs.declared.Layout.{Layout}
use Rattle.frames.proofs.Facts.{gates-are, constraints-are}
use Rattle.frames.proofs.Places.{inputs_are}
use Rattle.frames.proofs.Starts.{bits_are}
use Rattle.nodes.specs.Store.{pairs_of}
use Rattle.nodes.specs.declared.Graph.{Graph}
use Rattle.graph.specs.Stored.{Stored, Enough, empty_graph}
use Rattle.graph.specs.declared.Made.{Made}
use Rattle.graph.specs.Chosen.{conjoin}
use Rattle.unroll.specs.Chosen.{literal_in, frames_made, unrolled_by}
use Rattle.unroll.specs.Map.{Blank, Extensible, nodes_to, FramedTo, HitMapped, FirstFits, FramesFit}
use Rattle.unroll.specs.Unrolled.{UnrollFits, UnrolledBy}
use Rattle.unroll.proofs.Facts.{product_le, size-enough}
use Rattle.unroll.proofs.Frames.{reached}
use Rattle.unroll.proofs.Follows.{no-gates}

pub blank-zeros : (n : ℕ) → Blank (replicate n 0)
blank-zeros zero v = refl
blank-zeros (suc n) zero = refl
blank-zeros (suc n) (suc v) = blank-zeros n v

module _ {work m : List ℕ} {layout : Layout} {order : List ℕ} {b t room : ℕ} (f : UnrollFits work m layout order b t room) where
  free-is : layout.u + layout.i * (t + 1) ≡ free_bits (circuit_in m) t
  free-is = bits_are (circuit_in m) t f.ready.layout_of.u-is (inputs_are f.ready.held f.ready.layout_of)

  -- the free bits, and the gates, constraints and bad line of each frame
  pub room-enough : layout.u + layout.i * (t + 1) + 1 + (layout.a + layout.c) * (t + 1) + (t + 1) ≤ room
  room-enough =
      let e : layout.a + layout.c ≡ length (circuit_in m).gates + length (circuit_in m).constraints = omega (arith, gates-are f.ready, constraints-are f.ready) in
      omega (arith, free-is, size-enough (circuit_in m) t, f.room-is, ap (λ (k : ℕ). k * (t + 1)) e)

  pub start-enough : Enough (layout.u + layout.i * (t + 1)) room (length work)
  start-enough = record { leaves = omega (arith, room-enough); most = f.most; held = f.held }

  module _ {first : List ℕ} {e : Graph} (empty : e ≡ empty_graph (layout.u + layout.i * (t + 1)) room) (s : Stored first e) where
    nodes-are : e.nodes ≡ layout.u + layout.i * (t + 1) + 1
    nodes-are = ap (λ (g : Graph). g.nodes) empty

    free-are : e.free ≡ layout.u + layout.i * (t + 1)
    free-are = ap (λ (g : Graph). g.free) empty

    room-are : e.room ≡ room
    room-are = ap (λ (g : Graph). g.room) empty

    pub first_fits : (map : List ℕ) → Blank map → FirstFits layout first e map
    first_fits map z =
        record {
          blank = z;
          extensible = record {
            stored = s;
            room = omega (arith, nodes-are, room-are, room-enough, product_le (layout.a + layout.c) {u = 1} {t = t + 1} (omega arith));
            edges = λ v. omega (arith, z v, nodes-are);
          };
          bits = omega (arith, free-are, product_le layout.i {u = 1} {t = t + 1} (omega arith));
        }

    module _ {second : List ℕ} {g : Made} {map : List ℕ}
        (u : pairs_of first e ≡ [] → (alone : Bool) (b t : ℕ) → FramedTo alone (circuit_in m) b t 0 e.free e.room second g map) (alone : Bool) where
      framed : FramedTo alone (circuit_in m) b t 0 e.free e.room second g map
      framed = u (no-gates first _ _ empty) alone b t

      count-is : (layout.a + layout.c) * (t + 1) + t ≡ nodes_to (circuit_in m) t
      count-is =
          let d : layout.a + layout.c ≡ length (circuit_in m).gates + length (circuit_in m).constraints = omega (arith, gates-are f.ready, constraints-are f.ready) in
          ap (λ (k : ℕ). k * (t + 1) + t) d

      pub frames-fit : FramesFit m layout alone b t second g map
      frames-fit =
          record {
            bad = f.bad;
            framed =
                subst (λ (n : ℕ). FramedTo alone (circuit_in m) b t 0 n g.graph.room second g map) (sym framed.free)
                (subst (λ (n : ℕ). FramedTo alone (circuit_in m) b t 0 e.free n second g map) (sym framed.room-is) framed);
            room = omega (arith, framed.free, framed.room-is, free-are, room-are, room-enough, count-is);
            bits = omega (arith, framed.free, free-are);
          }

      module _ {third : List ℕ} {h : Made} {after : List ℕ} (v : FramedTo alone (circuit_in m) b t t g.graph.free g.graph.room third h after) where
        pub hit-fits : Extensible 1 third h.graph after
        hit-fits =
            record {
              stored = v.stored;
              room = omega (arith, v.most, v.room-is, framed.free, framed.room-is, free-are, room-are, room-enough, count-is);
              edges = v.edges;
            }

        pub hit-node : h.edge.0.0 < h.graph.nodes
        hit-node = v.node

        bits : g.graph.free ≡ free_bits (circuit_in m) t
        bits = framed.free ∙ free-are ∙ free-is

        pub unrolled : (last : List ℕ) (made : Made) → HitMapped (circuit_in m) b h.graph.free third h after last made
            → UnrolledBy alone (circuit_in m) b t last room made
        unfolding unrolled_by
        unrolled last made w =
            let c = circuit_in m in
            let n = free_bits c t in
            let p = subst (λ (k : ℕ). HitMapped c b k third h after last made) (v.free ∙ bits) w in
            let q = subst (λ (k : ℕ). FramedTo alone c b t t k g.graph.room third h after) bits v in
            let z = frames_made alone c b n t in
            record {
              stored = p.grown.stored;
              free = p.grown.free;
              room-is = p.grown.room ∙ v.room-is ∙ framed.room-is ∙ room-are;
              node = p.node;
              hit = reached f.ready alone b t n third h after last made (q.values refl) (q.kept refl) p;
              chosen =
                  ap (λ (l : ℕ). conjoin n z.mapping.gates l (literal_in z.mapping.edges (get_or c.bads b 0))) (sym q.left)
                  ∙ p.follows z.mapping q.agrees;
            }
