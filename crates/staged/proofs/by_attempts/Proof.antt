-- `staged::by_attempts` meets its contract. Assumes nothing.
use mathlib.Core.Path.{◌≡◌, subst}
use borrow.Author.Rules.{rules}
use Rattle.layout.specs.Words.{circuit_in}
use Rattle.stages.specs.Endings.{staged_at}
use Rattle.attempts.specs.Stage.{conflict_stage, Seen}
use Rattle.staged.proofs.by_attempts.Statement.{statement}
use Rattle.staged.proofs.by_attempts.Tie as tie

attempt-frames-requires : tie.Need-attempt_frames-requires
attempt-frames-requires c κs = c.requires

returns : tie.Need-returns-in-Hit
returns c =
    let s = c.args in
    let C = circuit_in s.m.now in
    subst (Seen C (staged_at s.q.k (conflict_stage C s.q.b s.limit s.first s.q.d)) c.attempt_frames.new.work) c.in-Hit.is c.attempt_frames.ensures

returns-2 : tie.Need-returns-in-Nothing
returns-2 c =
    let s = c.args in
    let C = circuit_in s.m.now in
    subst (Seen C (staged_at s.q.k (conflict_stage C s.q.b s.limit s.first s.q.d)) c.attempt_frames.new.work) c.in-Nothing.is c.attempt_frames.ensures

returns-3 : tie.Need-returns-in-GaveUp
returns-3 c =
    let s = c.args in
    let C = circuit_in s.m.now in
    subst (Seen C (staged_at s.q.k (conflict_stage C s.q.b s.limit s.first s.q.d)) c.attempt_frames.new.work) c.in-GaveUp.is c.attempt_frames.ensures

returns-4 : tie.Need-returns-in-CutOff
returns-4 c =
    let s = c.args in
    let C = circuit_in s.m.now in
    subst (Seen C (staged_at s.q.k (conflict_stage C s.q.b s.limit s.first s.q.d)) c.attempt_frames.new.work) c.in-CutOff.is c.attempt_frames.ensures

pub by_attempts_spec : {M : Type 1} → statement M
by_attempts_spec =
    tie.close
    (tie.spec attempt-frames-requires (λ c. search rules) (λ c. search rules) (λ c. search rules) (λ c. search rules) (λ c. search rules) returns (λ c. search rules) returns-2 (λ c. search rules) returns-3 (λ c. search rules) returns-4)
