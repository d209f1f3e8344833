-- `headers::read_header` meets its contract: the numbers stand in a buffer of zeros. Assumes nothing.
use mathlib.Core.Path.{ap₂}
use Rattle.std.proofs.Common.{arith, subst, sym, ◌∙◌, ◌≡◌, ◌≤◌, Bool, Some, length, List, ℕ}
use Rattle.aiger.specs.File.{is_binary}
use mathlib.Core.Bool.{◌||◌}
use Rattle.headers.specs.Header.{HeaderAt, named}
use Rattle.headers.specs.declared.Counts.{Counts}
use Rattle.lines.proofs.Storing.{zeros}
use Rattle.headers.proofs.Heading.{named-text, named-either, not_named, no_row, few, enough}
use Rattle.headers.proofs.read_header.Goals as goal

-- the two tests of the name
said : (f : List ℕ) {t b : Bool} → t ≡ named 97 f → b ≡ is_binary f → (t || b) ≡ named-either f
said f e g = ap₂ (λ (a b : Bool). a || b) (e ∙ named-text f) g

pub returns-then-not-text-binary : goal.returns-then-not-text-binary
returns-then-not-text-binary c = not_named c.args.s.now (sym (said _ c.is_named-text.ensures c.is_binary-binary.ensures) ∙ c.if-not-text-binary.true)

pub returns-in_err-count : goal.returns-in_err-count
returns-in_err-count c =
    let either = sym (said c.args.s.now c.is_named-text.ensures c.is_binary-binary.ensures) ∙ c.if-not-text-binary.false in
    rw c.from_residual.ensures (no_row c.args.s.now either c.in_err-count.ensures.0)

pub returns-then-count-lt5 : goal.returns-then-count-lt5
returns-then-count-lt5 c =
    let either = sym (said c.args.s.now c.is_named-text.ensures c.is_binary-binary.ensures) ∙ c.if-not-text-binary.false in
    let list = c.read_row.new.buf in
    let room : 9 ≤ length list = omega (arith, c.read_row.auto.buf) in
    few c.args.s.now either _ list _ _ room c.in_ok-count.ensures.0 c.if-count-lt5.true

pub returns : goal.returns
returns c =
    let either = sym (said c.args.s.now c.is_named-text.ensures c.is_binary-binary.ensures) ∙ c.if-not-text-binary.false in
    let list = c.read_row.new.buf in
    let room : 9 ≤ length list = omega (arith, c.read_row.auto.buf) in
    subst (λ (h : Counts). HeaderAt c.args.s.now (Some (record { counts = h; next = c.in_ok-count.field-0.next }))) (sym c.counts_of-counts.ensures)
    (enough c.args.s.now either _ list _ _ room c.in_ok-count.ensures.0 (zeros 9) c.if-count-lt5.false)
