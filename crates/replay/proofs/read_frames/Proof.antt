-- `replay::read_frames` meets its contract. Assumes nothing.
use mathlib.Core.Path.{◌≡◌, subst}
use Prim.Native.Nat.{◌+◌}
use native.Mathlib.Omega.{arith}
use borrow.Author.Rules.{rules}
use Rattle.completions.specs.Either.{completion}
use Rattle.witness.proofs.Lines.{on_read, on-malformed}
use Rattle.replay.specs.Texts.{Counted}
use Rattle.replay.proofs.Answers.{no_start, no_rows, zero-rows, body-read, rows_inside, zero-form}
use Rattle.replay.proofs.read_frames.Statement.{statement}
use Rattle.replay.proofs.read_frames.Tie as tie

returns : tie.Need-returns-in_default
returns c = λ u h d p q b.
    let a = c.args in
    no_start a.l a.i u d p q b (on-malformed (c.read_symbols.ensures u h) c.in_default.is)

count-rows-requires : tie.Need-count_rows-requires
count-rows-requires c κs =
    let body = c.args.body.now in
    let r = on_read (c.read_symbols.ensures (completion 0 body) (zero-form body)) c.in-Read.is in
    omega (arith, r.1.inside, (zero-form body).size)

returns-2 : tie.Need-returns-in_default-count_rows
returns-2 c = λ u h d p q b.
    let a = c.args in
    let r = on_read (c.read_symbols.ensures u h) c.in-Read.is in
    no_rows a.l a.i u d p q b c.in-Read.rows r.0 (subst (Counted u c.in-Read.rows a.i) c.in_default-count_rows.is (c.count_rows.ensures u h))

returns-3 : tie.Need-returns-then-frames-eq0
returns-3 c = λ u h d p q b.
    let a = c.args in
    let r = on_read (c.read_symbols.ensures u h) c.in-Read.is in
    zero-rows a.l a.i u d p q b c.in-Read.rows r.0
    (subst (Counted u c.in-Read.rows a.i) c.in-Read-count_rows.is (c.count_rows.ensures u h)) c.if-frames-eq0.true

returns-4 : tie.Need-returns
returns-4 c = λ u h.
    let a = c.args in
    let r = on_read (c.read_symbols.ensures u h) c.in-Read.is in
    let n = subst (Counted u c.in-Read.rows a.i) c.in-Read-count_rows.is (c.count_rows.ensures u h) in
    let e : c.in-Read.rows ≡ a.l + 1 = omega (arith, r.1.past) in
    record {
      some-frame = omega (arith, c.if-frames-eq0.false);
      inside = omega (arith, rows_inside n);
      reads = λ d p q b l. body-read a.l a.i u d p q b c.in-Read.rows r.0 e n c.if-frames-eq0.false l;
    }

pub read_frames_spec : {M : Type 1} → statement M
read_frames_spec =
    tie.close
    (tie.spec (λ c κs. search rules) (λ c. search rules) (λ c. search rules) returns count-rows-requires (λ c. search rules) (λ c. search rules) returns-2 returns-3 returns-4)
