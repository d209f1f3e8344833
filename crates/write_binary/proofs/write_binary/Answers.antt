-- `write_binary::write_binary` meets its contract: each answer by the test of the memory and by the length of the text. Assumes nothing.
use mathlib.Core.Path.{◌≡◌, sym, ap, ◌∙◌}
use Prim.Native.Nat.{ℕ}
use native.Mathlib.Omega.{arith}
use borrow.Author.Rules.{rules}
use lib.ListN.{length, drop, length-replicate}
use mathlib.Core.List.{List, ◌++◌}
use lib.Seq.{length-take-le}
use Rattle.aiger.specs.Operations.{Operated}
use Rattle.write_binary.proofs.Answers.{copied_front, text-short, too_long, fitting}
use Rattle.write_binary.proofs.write_binary.Goals as goal

pub returns-in_default : goal.returns-in_default
returns-in_default c = Operated.no_circuit (rw c.in_default.is at c.test.ensures)

pub encode-length-requires : goal.encode-length-requires
encode-length-requires c =
    let t = rw c.in-Some.is at c.test.ensures in
    (t.1, t.0, omega (arith, text-short t.1, length-replicate {A = ℕ} 24576 0))

pub returns-then-out-length : goal.returns-then-out-length
returns-then-out-length c =
    let t = rw c.in-Some.is at c.test.ensures in
    too_long t.1 (c.encode-length.ensures.past ∙ omega arith) c.args.out.now (omega (arith, c.if-out-length.true))

pub slice_bounds-text-end : goal.slice_bounds-text-end
slice_bounds-text-end c =
    let t = rw c.in-Some.is at c.test.ensures in
    omega (arith, text-short t.1, c.encode-length.ensures.past)

pub slice_bounds-copy_from_slice-end-3 : goal.slice_bounds-copy_from_slice-end-3
slice_bounds-copy_from_slice-end-3 c =
    let t = rw c.in-Some.is at c.test.ensures in
    let e = c.encode-length in
    sym (length-take-le e.result e.new.out (omega (arith, text-short t.1, e.ensures.past, e.auto.out, length-replicate {A = ℕ} 24576 0)))

pub copy_from_slice-requires : goal.copy_from_slice-requires
copy_from_slice-requires c =
    let t = rw c.in-Some.is at c.test.ensures in
    let e = c.encode-length in
    length-take-le e.result c.args.out.now (omega (arith, c.if-out-length.false))
    ∙ sym (length-take-le e.result e.new.out (omega (arith, text-short t.1, e.ensures.past, e.auto.out, length-replicate {A = ℕ} 24576 0)))

pub returns : goal.returns
returns c =
    let t = rw c.in-Some.is at c.test.ensures in
    let out = c.args.out.now in
    fitting t.1 (c.encode-length.ensures.past ∙ omega arith) out (omega (arith, c.if-out-length.false))
    (ap (λ (x : List ℕ). x ++ drop c.encode-length.result out) c.copy_from_slice.ensures.after ∙ copied_front out c.encode-length.ensures)
