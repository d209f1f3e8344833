-- `job::run` meets its contract: each way of the work is one of those that may be printed. Assumes nothing.
use mathlib.Core.Path.{◌≡◌, ap}
use mathlib.Core.Option.{some}
use Prim.Native.Nat.{◌≤◌}
use native.Mathlib.Omega.{arith}
use lib.ListN.{length, drop}
use Rattle.aiger.specs.Operations.{Loaded}
use Rattle.aiger.specs.Program.{request}
use Rattle.load.specs.Answers.{answered}
use Rattle.job.specs.Query.{request_of}
use Rattle.load_laws.proofs.Stored.{stored, stored-in}
use Rattle.job.proofs.Running.{whole-rest, all-ensured, too_long, no-request, refused-load, search-ran}
use borrow.Author.Rules.{rules}
use Rattle.job.proofs.run.Statement.{statement}
use Rattle.job.proofs.run.Tie as tie

-- the beginning, from the places that the answers name
abbrev first : tie.In-Search → tie.Start
first k = k.before.before.before.before.before.before.before.before

-- the request that was read, and the file after it
asked : (k : tie.In-Search) → let i = (first k).args.input.now in
    (request i ≡ some (request_of i k.in-Search.q)) × (k.in-Search.q.file ≤ length i)
asked k = rw k.in-Search.is at k.read_request.ensures

abbrev told : tie.After-load → tie.In-Search
told n = n.before.before.before

-- what load answers on it
load_of : (n : tie.After-load) → let a = (first (told n)).args in
    Loaded a.m.now (drop (told n).in-Search.q.file a.input.now) (answered n.load.result) n.load.new.m
load_of n =
    let a = (first (told n)).args in
    rw (whole-rest a.input.now (told n).in-Search.q.file) at n.load.ensures

-- the input is not too long
within : (k : tie.In-Search) → length (first k).args.input.now ≤ 65536
within k = omega (arith, k.if-input-gt65536.false)

returns : tie.Need-returns-then-input-gt65536
returns c =
    let f = c.refuse.ensures in
    let a = c.args in
    all-ensured a.input.now a.m.now a.work.now a.out.now a.line.now
    (too_long a.input.now a.m.now a.work.now a.out.now a.line.now (omega (arith, c.if-input-gt65536.true)) f.0 f.1)

returns-2 : tie.Need-returns-in_default
returns-2 c =
    let f = c.refuse-in_default.ensures in
    let a = c.args in
    all-ensured a.input.now a.m.now a.work.now a.out.now a.line.now
    (no-request a.input.now a.m.now a.work.now a.out.now a.line.now (omega (arith, c.if-input-gt65536.false))
    (rw c.in_default.is at c.read_request.ensures) f.0 f.1)

sub-load : tie.Need-slice_bounds-load-count
sub-load c = omega (arith, (asked c).1)

part-load-start : tie.Need-slice_bounds-load-start
part-load-start c = omega (arith, (asked c).1)

reply-requires : tie.Need-reply-requires
reply-requires c κs =
    (stored-in (stored (load_of c.before.before.before.before.before.before) (ap answered c.in-Loaded.is)), omega (arith, (first (told c.before.before.before.before.before.before)).requires.3))

returns-3 : tie.Need-returns-in-Refused
returns-3 c =
    let f = c.refuse-in-Refused.ensures in
    let k = told c.before.before.before.before.before.before.before in
    let s = first k in
    let a = s.args in
    all-ensured a.input.now a.m.now a.work.now a.out.now a.line.now
    (refused-load a.input.now a.m.now a.work.now a.out.now a.line.now (within k)
    (request_of a.input.now k.in-Search.q) (asked k).0 s.requires.0 (load_of c.before.before.before.before.before.before.before) (ap answered c.in-Refused.is) f.0 f.1)

returns-4 : tie.Need-returns-in-Loaded
returns-4 c =
    let k = told c.before.before.before.before.before.before.before.before.before.before.before.before.before in
    let s = first k in
    let a = s.args in
    all-ensured a.input.now a.m.now a.work.now a.out.now a.line.now
    (search-ran a.input.now a.m.now a.work.now a.out.now a.line.now (within k)
    (request_of a.input.now k.in-Search.q) (asked k).0 s.requires.0 (load_of c.before.before.before.before.before.before.before.before.before.before.before.before.before) (ap answered c.in-Loaded.is)
    s.requires.1 s.requires.2 c.reply.ensures)

pub run_spec : {M : Type 1} → statement M
run_spec =
    tie.close
    (tie.spec (λ c κs. search rules) (λ c. search rules) returns (λ c κs. search rules) (λ c. search rules) (λ c. search rules) (λ c κs. search rules) (λ c. search rules) returns-2 sub-load part-load-start (λ c. search rules) (λ c κs. search rules) (λ c. search rules) (λ c κs. search rules) (λ c. search rules) reply-requires (λ c. search rules) (λ c. search rules) returns-3 (λ c. search rules) (λ c. search rules) (λ c. search rules) (λ c. search rules) returns-4)
