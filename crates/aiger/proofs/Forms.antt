-- The two forms of a file: load of a file in text form is what it is where there is no binary form. Clause 12.1. Assumes nothing.
use mathlib.Core.Path.{◌≡◌, refl, sym, ap, ◌∙◌}
use mathlib.Core.Bool.{Bool, true, false, ◌&&◌, ◌||◌, and-true, or-false}
use mathlib.Core.List.{List, [], ◌∷◌}
use Prim.Native.Nat.{ℕ}
use lib.Dec.{T, leb, eqb, eqb→eq}
use lib.ListN.{length, take}
use Rattle.aiger.specs.Lists.{same}
use Rattle.aiger.specs.Text.{bytes}
use Rattle.aiger.specs.Circuit.{Circuit, literals_right, used_defined, acyclic}
use Rattle.aiger.specs.File.{Header, is_text, is_binary, heading, header, text_header, counts_fit, counts_right, body}
use Rattle.aiger.proofs.Tests.{and_left, and_right, same-eq}
use Rattle.aiger.specs.Load.{Answer, test, read, sections, load, load_text, needed, gives, ◌>>=◌, ◌>>◌}

-- in text form number 3 asks for no more than that the counts fit
pub counts-text : (h : Header) → counts_right false h ≡ counts_fit h
unfolding counts_right
counts-text h = and-true (counts_fit h)

-- a file without the first word of the binary form gets what it gets where there is no binary form
pub load-text : (room : ℕ) (f : List ℕ) → is_binary f ≡ false → load room f ≡ load_text room f
unfolding load load_text header text_header sections
load-text room f e = rw e (simp (or-false, counts-text))

-- a file whose first word is `aag` has not that of the binary form
pub text-word : (f : List ℕ) → T (is_text f) → is_binary f ≡ false
unfolding is_text is_binary
text-word f t =
    let e : take 4 f ≡ bytes "aag " = same-eq (take 4 f) (bytes "aag ") t in
    rw e
