-- What reading a header answers, and the limits of its numbers. Assumes nothing.
use Rattle.std.specs.Prelude as std
use Rattle.std.specs.Prelude.{◌≡◌, Bool, ◌&&◌, List, [], ◌∷◌, ℕ, ◌^◌, ◌≤◌, ◌<◌, leb, eqb, length, get_or, take, drop}
use Rattle.std.proofs.Math.Option.{Option, none, some}
use Rattle.aiger.specs.Lists.{same}
use Rattle.aiger.specs.File as file
use Rattle.headers.specs.declared.Counts.{Counts}
use Rattle.headers.specs.declared.Header.{Header}

-- the numbers of a list: one that is missing is 0
abbrev pub counts_of : List ℕ → Counts
counts_of n =
    record {
      m = get_or n 0 0;
      i = get_or n 1 0;
      l = get_or n 2 0;
      o = get_or n 3 0;
      a = get_or n 4 0;
      b = get_or n 5 0;
      c = get_or n 6 0;
      j = get_or n 7 0;
      f = get_or n 8 0;
    }

abbrev pub counts_meant : Counts → file.Header
counts_meant c =
    record { M = c.m; I = c.i; L = c.l; O = c.o; A = c.a; B = c.b; C = c.c; J = c.j; F = c.f }

-- an answer on a text
abbrev pub meant_header : List ℕ → std.Option Header → Option (file.Header × List ℕ)
meant_header s (std.Some h) = some (counts_meant h.counts, drop h.next s)
meant_header s std.None = none

pub record Small (h : Counts) : Type 0 where
  pub m : h.m < 10 ^ 10
  pub i : h.i < 10 ^ 10
  pub l : h.l < 10 ^ 10
  pub o : h.o < 10 ^ 10
  pub a : h.a < 10 ^ 10
  pub b : h.b < 10 ^ 10
  pub c : h.c < 10 ^ 10
  pub j : h.j < 10 ^ 10
  pub f : h.f < 10 ^ 10

-- the position past a header, and how large its numbers are
abbrev pub Placed : List ℕ → std.Option Header → Type 0
Placed s (std.Some h) = (h.next ≤ length s) × Small h.counts
Placed s std.None = Unit {0}

-- r is the header that s begins with
pub record HeaderAt (s : List ℕ) (r : std.Option Header) : Type 0 where
  pub meaning : meant_header s r ≡ file.header s
  pub place : Placed s r

-- s begins with `a`, a letter, `g` and a space
abbrev pub named : ℕ → List ℕ → Bool
named letter s = same (take 4 s) (97 ∷ letter ∷ 103 ∷ 32 ∷ [])

-- the limit of each number by itself
abbrev pub limits_hold : Counts → Bool
limits_hold c =
    leb c.m 4096 && leb c.i 256 && leb c.l 1024 && leb c.o 64 && leb c.a 3072 && leb c.b 16 && leb c.c 16
    && eqb c.j 0
    && eqb c.f 0
