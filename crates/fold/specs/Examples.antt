-- Texts that fold writes: the starred row and some of our own. Assumes nothing.
use Rattle.std.specs.Prelude.{Bool, List, [], ◌∷◌, ℕ}
use Prim.Native.String.{String}
use Rattle.aiger.specs.Lists.{same}
use Rattle.aiger.specs.Text.{bytes}
use Rattle.aiger.specs.Write.{write}
use Rattle.aiger.specs.Examples.{on_loaded}
use Rattle.fold.specs.Chosen.{chosen}

-- a file, b, t, and the text that fold writes
pub record Example : Type 0 where
  pub file : String
  pub b : ℕ
  pub t : ℕ
  pub text : String

-- the chosen circuit's text is that of the row
unfoldable pub writes_text : Example → Bool
writes_text x = on_loaded x.file (λ c. same (write (chosen c x.b x.t)) (bytes x.text))

unfoldable pub texts : List Example
texts =
    -- document 01's shift register, folded at 2: the starred row
    record { file = "aag 4 1 2 0 1 1\n2\n4 2\n6 4\n8\n8 4 6\n"; b = 0; t = 2; text = "aag 4 3 0 1 1 0 0\n2\n4\n6\n8\n8 4 2\n" }
    -- two inputs that differ, by three gates
    ∷ record {
      file = "aag 5 2 0 0 3 1\n2\n4\n11\n6 2 5\n8 3 4\n10 7 9\n";
      b = 0;
      t = 0;
      text =
          "aag 5 2 0 1 3 0 0\n2\n4\n11\n6 5 2\n8 4 3\n10 9 7\n";
    }
    -- an input with the complement of (its complement and the complement of the other) is that input, by a rule one gate down
    ∷ record { file = "aag 4 2 0 0 2 1\n2\n4\n8\n6 3 5\n8 2 7\n"; b = 0; t = 0; text = "aag 2 2 0 1 0 0 0\n2\n4\n2\n" }
    -- a gate that is equal in function to an input is merged: the input with the other one, or with its complement
    ∷ record { file = "aag 5 2 0 0 3 1\n2\n4\n11\n6 2 4\n8 2 5\n10 7 9\n"; b = 0; t = 0; text = "aag 2 2 0 1 0 0 0\n2\n4\n2\n" }
    -- gates that stand in another order than the depth-first one
    ∷ record {
      file = "aag 5 2 0 0 3 1\n2\n4\n10\n10 9 7\n8 3 4\n6 2 5\n";
      b = 0;
      t = 0;
      text =
          "aag 5 2 0 1 3 0 0\n2\n4\n10\n6 4 3\n8 5 2\n10 9 7\n";
    }
    -- an operand that is repeated one gate down: the same, its complement, and its complement under a complement
    ∷ record {
      file = "aag 6 3 0 0 3 1\n2\n4\n6\n12\n8 2 4\n10 8 2\n12 10 6\n";
      b = 0;
      t = 0;
      text =
          "aag 5 3 0 1 2 0 0\n2\n4\n6\n10\n8 4 2\n10 8 6\n";
    }
    ∷ record { file = "aag 4 2 0 0 2 1\n2\n4\n8\n6 2 4\n8 5 6\n"; b = 0; t = 0; text = "aag 2 2 0 1 0 0 0\n2\n4\n0\n" }
    ∷ record { file = "aag 4 2 0 0 2 1\n2\n4\n8\n6 2 4\n8 7 5\n"; b = 0; t = 0; text = "aag 2 2 0 1 0 0 0\n2\n4\n5\n" }
    -- the constraints of both frames: they forbid the input that the hit needs, or ask for it
    ∷ record { file = "aag 3 1 1 0 0 1 1\n2\n4 2\n4\n3\n"; b = 0; t = 1; text = "aag 2 2 0 1 0 0 0\n2\n4\n0\n" }
    ∷ record { file = "aag 3 1 1 0 0 1 1\n2\n4 2\n4\n2\n"; b = 0; t = 1; text = "aag 3 2 0 1 1 0 0\n2\n4\n6\n6 4 2\n" }
    ∷ []
