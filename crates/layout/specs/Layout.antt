-- The counts and positions that the words of a circuit memory say, and the limits of the counts. Assumes nothing.
use Rattle.std.specs.Prelude.{◌≡◌, List, ℕ, ◌+◌, ◌≤◌, length}
use Rattle.aiger.specs.Frames.{free_starts}
use Rattle.layout.specs.Words.{word, latches_at, outputs_at, bads_at, constraints_at, gates_at, content_end, circuit_in}
use Rattle.layout.specs.declared.Layout.{Layout}

pub record LayoutOf (m : List ℕ) (p : Layout) : Type 0 where
  pub m-is : p.m ≡ word m 0
  pub i-is : p.i ≡ word m 1
  pub l-is : p.l ≡ word m 2
  pub o_is : p.o ≡ word m 3
  pub a-is : p.a ≡ word m 4
  pub b-is : p.b ≡ word m 5
  pub c-is : p.c ≡ word m 6
  pub latches-is : p.latches ≡ latches_at m
  pub outputs-is : p.outputs ≡ outputs_at m
  pub bads-is : p.bads ≡ bads_at m
  pub constraints-is : p.constraints ≡ constraints_at m
  pub gates-is : p.gates ≡ gates_at m
  pub end_is : p.end ≡ content_end m
  pub u-is : p.u ≡ free_starts (circuit_in m)

-- a layout with another U
abbrev pub with_starts : Layout → ℕ → Layout
with_starts p u =
    record {
      m = p.m;
      i = p.i;
      l = p.l;
      o = p.o;
      a = p.a;
      b = p.b;
      c = p.c;
      latches = p.latches;
      outputs = p.outputs;
      bads = p.bads;
      constraints = p.constraints;
      gates = p.gates;
      end = p.end;
      u = u;
    }

-- all of the layout but U
abbrev pub PlacesOf : List ℕ → Layout → Type 0
PlacesOf m p = LayoutOf m (with_starts p (free_starts (circuit_in m)))

-- the counts in the first seven words are within their limits, and the words hold what they count
pub record Counted (w : List ℕ) : Type 0 where
  pub max_var : word w 0 ≤ 4096
  pub inputs : word w 1 ≤ 256
  pub latches : word w 2 ≤ 1024
  pub outputs : word w 3 ≤ 64
  pub gates : word w 4 ≤ 3072
  pub bads : word w 5 ≤ 16
  pub constraints : word w 6 ≤ 16
  pub sum : word w 1 + word w 2 + word w 4 ≤ word w 0
  pub held : content_end w ≤ length w
