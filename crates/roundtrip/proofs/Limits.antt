-- What write gives for a circuit past load's limits is refused, and with which number. Assumes nothing.
use mathlib.Core.Path.{◌≡◌}
use mathlib.Core.Bool.{true, false}
use mathlib.Core.List.{List, [], ◌∷◌, ◌++◌, map}
use Prim.Native.Nat.{ℕ, suc, ◌+◌, ◌^◌, ◌≤◌, ◌<◌}
use native.Mathlib.Nat.{not-suc-le-zero}
use native.Mathlib.Omega.{arith}
use lib.Dec.{T, lt→ltb}
use borrow.Author.Tests.{le-leb, lt-leb}
use lib.ListN.{length, length-append}
use Rattle.aiger.specs.Lists.{every}
use Rattle.aiger.specs.Text.{bytes, digits}
use Rattle.aiger.specs.Circuit.{Circuit}
use Rattle.aiger.specs.File.{header_of, counts_fit}
use Rattle.aiger.specs.Load.{refused, load, needed}
use Rattle.aiger.specs.Write.{line_of, lines_of, literal_row, latch_row, gate_row, count_row, write}
use Rattle.aiger.proofs.Tests.{and}
use Rattle.roundtrip.proofs.Text.{below}
use Rattle.aiger.proofs.Forms.{counts-text}
use Rattle.roundtrip.proofs.LoadWrite.{Valid, head-text, head-back, writes-text, some_byte, text-short}

-- ---- each line takes a byte at least, so the counts of a circuit are at most the length of its text

line-least : (n : ℕ) (ns : List ℕ) → 1 ≤ length (line_of n ns)
unfolding line_of
line-least n [] = omega (arith, length-append (digits n) (bytes "\n"))
line-least n (m ∷ ns) = omega (arith, length-append (digits n ++ bytes " ") (line_of m ns), length-append (digits n) (bytes " "))

lines_more : (r : List ℕ) (ls : List (List ℕ)) → 1 ≤ length r → suc (length (lines_of ls)) ≤ length (lines_of (r ∷ ls))
unfolding lines_of
lines_more [] ls h = absurd (not-suc-le-zero h)
lines_more (n ∷ ns) ls h = omega (arith, length-append (line_of n ns) (lines_of ls), line-least n ns)

lines-least : {A : Type 0} (h : A → List ℕ) → ((x : A) → 1 ≤ length (h x)) → (xs : List A) → length xs ≤ length (lines_of (map h xs))
lines-least h k [] = omega arith
lines-least h k (x ∷ xs) = omega (arith, lines-least h k xs, lines_more (h x) (map h xs) (k x))

module _ (c : Circuit) where
  -- the lines after the header
  pub text-lines
      : length c.inputs + length c.latches + length c.outputs + length c.bads + length c.constraints + length c.gates
      ≤ length (write c)
  unfolding write latch_row
  text-lines =
      simp length-append
      (omega (
        arith,
        lines-least literal_row (λ l. omega arith) c.inputs,
        lines-least latch_row (λ l. omega arith) c.latches,
        lines-least literal_row (λ l. omega arith) c.outputs,
        lines-least literal_row (λ l. omega arith) c.bads,
        lines-least literal_row (λ l. omega arith) c.constraints,
        lines-least gate_row (λ g. omega arith) c.gates,
      ))

  heads-below : c.max_var < 10 ^ 10 → length (write c) ≤ 65536 → T (every (below (10 ^ 10)) (c.max_var ∷ count_row c))
  heads-below h l =
      let b = below (10 ^ 10) in
      let at : (n : ℕ) → n < 10 ^ 10 → T (below (10 ^ 10) n) = λ n k. lt→ltb n (10 ^ 10) k in
      and (b c.max_var) _ (at c.max_var h)
      (and (b (length c.inputs)) _ (at (length c.inputs) (omega (arith, text-lines)))
      (and (b (length c.latches)) _ (at (length c.latches) (omega (arith, text-lines)))
      (and (b (length c.outputs)) _ (at (length c.outputs) (omega (arith, text-lines)))
      (and (b (length c.gates)) _ (at (length c.gates) (omega (arith, text-lines)))
      (and (b (length c.bads)) _ (at (length c.bads) (omega (arith, text-lines)))
      (and (b (length c.constraints)) true (at (length c.constraints) (omega (arith, text-lines))) tt))))))

-- ---- the refusals

-- number 1: a text of more than 65,536 bytes
pub load-long : (room : ℕ) (f : List ℕ) → 65536 < length f → load room f ≡ refused 1
unfolding load
load-long room f h = let a : 1 ≤ length f = omega arith in rw (le-leb 1 (length f) a, lt-leb (length f) 65536 h)

-- number 3: a shorter one whose counts do not fit, where M has at most 10 digits
pub load_many : (room : ℕ) (c : Circuit) → length (write c) ≤ 65536 → c.max_var < 10 ^ 10 → counts_fit (header_of c) ≡ false
    → load room (write c) ≡ refused 3
unfolding load
load_many room c l h e =
    rw (
      le-leb 1 (length (write c)) (some_byte c),
      le-leb (length (write c)) 65536 l,
      writes-text c,
      head-text c (heads-below c h l),
      counts-text (header_of c),
      e,
    )

-- number 4: what some memory can hold, and this one is too short for
pub load-small : {most : ℕ} {c : Circuit} → Valid most c → (room : ℕ) → room < needed c.max_var → load room (write c) ≡ refused 4
unfolding load
load-small {most} {c} v room h =
    rw (
      le-leb 1 (length (write c)) (some_byte c),
      le-leb (length (write c)) 65536 (text-short v),
      writes-text c,
      head-back v,
      counts-text (header_of c),
      v.fit,
      lt-leb (needed c.max_var) room h,
    )
