-- `widen::widen_under` meets its contract: each answer by what was read of the text. Assumes nothing.
use mathlib.Core.Path.{refl}
use mathlib.Core.List.{List}
use Prim.Native.Nat.{ℕ, ◌≤◌}
use native.Mathlib.Omega.{arith}
use lib.ListN.{length, drop, get_or}
use Rattle.aiger.specs.Load.{refused}
use Rattle.aiger.specs.Operations.{Operated}
use Rattle.completions.specs.Either.{eithers}
use Rattle.layout.specs.Words.{circuit_in}
use Rattle.blocks.specs.Runs.{Posed}
use Rattle.pinned_runs.specs.Obeys.{PinnedWidened}
use Rattle.replay.specs.Texts.{Placed}
use Rattle.replay.proofs.Answers.{refusal-read, posed-read}
use Rattle.widen.proofs.Outputs.{refuses, too_short, widens}
use borrow.Author.Rules.{rules}
use Rattle.widen.proofs.widen_under.Statement.{statement}
use Rattle.widen.proofs.widen_under.Tie as tie

abbrev pin : tie.Start → ℕ → ℕ
pin S i = get_or S.args.own.now i 2

-- a witness that was read: what is asked of its body
module _ (k : tie.In-Read) where
  abbrev m : List ℕ
  m = k.args.m.now

  abbrev text : List ℕ
  text = k.args.text.now

  abbrev body : List ℕ
  body = drop k.in-Read.start text

  read : (let w = k.in-Read.w in
      Posed m k.read_held.new.order w body 4097 × Placed (circuit_in m) text k.in-Read.start w.q)
  read = posed-read k.read_held.ensures (search rules) k.in-Read.is

  few : eithers body ≤ 16
  few = omega (arith, read.1.fits.eithers-are, read.1.fits.few)

returns : tie.Need-returns-then-out-text
returns c =
    let P = read c.before in
    too_short (circuit_in (m c.before)) P.0.ready.held (pin c.before.before.before.before.before.before.before.before.before) (text c.before) c.args.out.now c.in-Read.w.q.bad (body c.before)
    P.1.reads (few c.before) (omega (arith, c.if-out-text.true))

widen-copy-requires : tie.Need-widen_copy-requires
widen-copy-requires c κs =
    let P = read c.before.before.before in
    (P.0, (P.1.inside, omega (arith, c.if-out-text.false)))

returns-2 : tie.Need-returns-in-Refused
returns-2 c =
    let a = c.args in
    refusal-read c.read_held.ensures
    (λ (n : ℕ). PinnedWidened a.m.now (pin c.before.before.before.before.before.before.before.before) a.text.now a.out.now (refused n) a.out.now) Operated.no_circuit
    (λ n h e. refuses (circuit_in a.m.now) h (pin c.before.before.before.before.before.before.before.before) a.text.now a.out.now n e) c.in-Refused.is

returns-3 : tie.Need-returns-else-out-text
returns-3 c =
    let P = read c.before.before.before.before.before.before in
    widens (circuit_in (m c.before.before.before.before.before.before)) P.0.ready.held (pin c.before.before.before.before.before.before.before.before.before.before.before.before.before.before) (text c.before.before.before.before.before.before) c.args.out.now c.in-Read.w.q.bad (body c.before.before.before.before.before.before)
    P.1.reads (few c.before.before.before.before.before.before) (omega (arith, c.if-out-text.false)) c.in-Read.start P.1.inside
    refl (length (text c.before.before.before.before.before.before)) refl _ c.widen_copy.ensures

pub widen_under_spec : {M : Type 1} → statement M
widen_under_spec =
    tie.close
    (tie.spec (λ c. search rules) (λ c κs. search rules) (λ c. search rules) (λ c. search rules) returns (λ c. search rules) widen-copy-requires returns-2 (λ c. search rules) returns-3)
