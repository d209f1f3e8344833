-- `replay::replay_under` meets its contract: each answer by what was read of the text. Assumes nothing.
use mathlib.Core.Path.{sym, subst}
use mathlib.Core.List.{List}
use Prim.Native.Nat.{ℕ}
use native.Mathlib.Omega.{arith}
use borrow.Author.Rules.{rules}
use lib.ListN.{drop, get_or}
use Rattle.aiger.specs.Load.{refused}
use Rattle.aiger.specs.Operations.{Operated}
use Rattle.layout.specs.Words.{circuit_in}
use Rattle.blocks.specs.Runs.{Posed}
use Rattle.pinned_runs.specs.Obeys.{PinnedReplayed}
use Rattle.replay.specs.Answer.{JudgedUnder}
use Rattle.replay.specs.Texts.{Placed}
use Rattle.replay.proofs.Answers.{rest-is, refusal-read, posed-read}
use Rattle.replay.proofs.Under.{refuses-under, judged-under}
use Rattle.replay.proofs.replay_under.Statement.{statement}
use Rattle.replay.proofs.replay_under.Tie as tie

abbrev pin : tie.Start → ℕ → ℕ
pin S i = get_or S.args.own.now i 2

-- a witness that was read: what is asked of its body
module _ (k : tie.In-Read) where
  abbrev H : tie.After-read_held
  H = k.before.before

  abbrev text : List ℕ
  text = k.args.text.now

  read : (let w = k.in-Read.w in
      let m = k.args.m.now in
      Posed m H.read_held.new.order w (drop k.in-Read.start text) 4097
      × Placed (circuit_in m) text k.in-Read.start w.q)
  read = posed-read H.read_held.ensures (search rules) k.in-Read.is

sub-judge-under : tie.Need-slice_bounds-judge_under-count
sub-judge-under c = (read c.before).1.inside

part-judge-under-start : tie.Need-slice_bounds-judge_under-start
part-judge-under-start c = (read c.before).1.inside

judge-under-requires : tie.Need-judge_under-requires
judge-under-requires c κs =
    let m = c.args.m.now in
    subst (λ (u : List ℕ). Posed m (H c.before.before).read_held.new.order c.in-Read.w u 4097)
    (sym (rest-is (text c.before.before) c.in-Read.start)) (read c.before.before).0

returns : tie.Need-returns-in-Refused
returns c =
    let m = c.args.m.now in
    let u = c.args.text.now in
    refusal-read c.read_held.ensures
    (λ (n : ℕ). PinnedReplayed m (pin c.before.before.before.before.before.before.before) u (refused n)) Operated.no_circuit
    (λ n h e. refuses-under (circuit_in m) h (pin c.before.before.before.before.before.before.before) u n e) c.in-Refused.is

returns-2 : tie.Need-returns-in-Read
returns-2 c =
    let d = circuit_in c.args.m.now in
    let q = c.in-Read.w.q in
    let start = c.in-Read.start in
    let P = read c.before.before.before in
    judged-under d P.0.ready.held (pin c.before.before.before.before.before.before.before.before.before.before) (text c.before.before.before) q.bad (drop start (text c.before.before.before)) P.1.reads
    (omega (arith, P.1.fits.eithers-are, P.1.fits.few))
    (subst (λ (u : List ℕ). JudgedUnder d (pin c.before.before.before.before.before.before.before.before.before.before) q.bad u c.judge_under.result) (rest-is (text c.before.before.before) start) c.judge_under.ensures)

pub replay_under_spec : {M : Type 1} → statement M
replay_under_spec =
    tie.close
    (tie.spec (λ c. search rules) (λ c κs. search rules) (λ c. search rules) (λ c. search rules) (λ c. search rules) sub-judge-under part-judge-under-start (λ c. search rules) judge-under-requires returns returns-2)
