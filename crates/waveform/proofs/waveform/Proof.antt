-- `waveform::waveform` meets its contract: each answer by what was read and by the length of the text. Assumes nothing.
use mathlib.Core.Path.{sym, subst}
use mathlib.Core.List.{List}
use Prim.Native.Nat.{ℕ}
use native.Mathlib.Omega.{arith}
use borrow.Author.Rules.{rules}
use lib.ListN.{drop}
use Rattle.aiger.specs.Load.{refused}
use Rattle.aiger.specs.Operations.{Operated}
use Rattle.layout.specs.Words.{circuit_in}
use Rattle.blocks.specs.Runs.{Posed}
use Rattle.replay.specs.Texts.{Placed}
use Rattle.replay.proofs.Answers.{rest-is, refusal-read, posed-read}
use Rattle.waveform.specs.Waveform.{Waveformed}
use Rattle.waveform.specs.Blocks.{ShownAs}
use Rattle.waveform.proofs.Answers.{refuses, shown}
use Rattle.waveform.proofs.waveform.Statement.{statement}
use Rattle.waveform.proofs.waveform.Tie as tie

-- a witness that was read: what is asked of its body
module _ (k : tie.In-Read) where
  abbrev H : tie.After-read_held
  H = k.before.before

  abbrev text : List ℕ
  text = k.args.text.now

  read : (let w = k.in-Read.w in
      let m = k.args.m.now in
      Posed m H.read_held.new.order w (drop k.in-Read.start text) 4097
      × Placed (circuit_in m) text k.in-Read.start w.q)
  read = posed-read H.read_held.ensures (search rules) k.in-Read.is

sub-show : tie.Need-slice_bounds-show-count
sub-show c = (read c.before).1.inside

part-show-start : tie.Need-slice_bounds-show-start
part-show-start c = (read c.before).1.inside

show-requires : tie.Need-show-requires
show-requires c κs =
    let m = c.args.m.now in
    subst (λ (u : List ℕ). Posed m (H c.before.before.before).read_held.new.order c.in-Read.w u 4097)
    (sym (rest-is (text c.before.before.before) c.in-Read.start)) (read c.before.before.before).0

returns : tie.Need-returns-in-Refused
returns c =
    let a = c.args in
    let m = a.m.now in
    refusal-read c.read_held.ensures
    (λ (n : ℕ). Waveformed m a.only a.text.now a.out.now (refused n) a.out.now) Operated.no_circuit
    (λ n h e. refuses (circuit_in m) h a.only a.text.now a.out.now n e) c.in-Refused.is

returns-2 : tie.Need-returns-in-Read
returns-2 c =
    let a = c.args in
    let d = circuit_in a.m.now in
    let q = c.in-Read.w.q in
    let start = c.in-Read.start in
    let P = read c.before.before.before.before.before.before in
    let out' = c.show.new.out in
    shown d P.0.ready.held a.only (text c.before.before.before.before.before.before) a.out.now q.bad (drop start (text c.before.before.before.before.before.before)) P.1.reads
    (omega (arith, P.1.fits.eithers-are, P.1.fits.few)) c.show.result out'
    (subst (λ (u : List ℕ). ShownAs d a.only (q.bad, u) a.out.now c.show.result out') (rest-is (text c.before.before.before.before.before.before) start)
    c.show.ensures)

pub waveform_spec : {M : Type 1} → statement M
waveform_spec =
    tie.close
    (tie.spec (λ c. search rules) (λ c κs. search rules) (λ c. search rules) (λ c. search rules) (λ c. search rules) sub-show part-show-start (λ c. search rules) show-requires returns (λ c. search rules) returns-2)
