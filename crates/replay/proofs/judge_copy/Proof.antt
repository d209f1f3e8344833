-- `replay::judge_copy` meets its contract. Assumes nothing.
use mathlib.Core.Path.{◌≡◌, refl, sym, ap, ◌∙◌, subst}
use mathlib.Core.List.{List}
use Prim.Native.Nat.{ℕ, ◌-◌, ◌≤◌}
use native.Mathlib.Omega.{arith}
use borrow.Author.Rules.{rules}
use lib.ListN.{length, get_or, take}
use Rattle.layout.specs.Words.{circuit_in}
use Rattle.blocks.specs.Runs.{Fits}
use Rattle.completions.specs.Either.{eithers}
use Rattle.replay.specs.Answer.{Judged}
use Rattle.pinned_runs.specs.Places.{pin_at, Settled}
use Rattle.replay.proofs.Under.{rows_fit, inputs-few, pins-are, settled-fits}
use Rattle.replay.proofs.judge_copy.Statement.{statement}
use Rattle.replay.proofs.judge_copy.Tie as tie

rows-of-requires : tie.Need-rows_of-rows-requires
rows-of-requires c κs = rows_fit c.requires.0.ready c.requires.0.fits

copy-settled-requires : tie.Need-copy_settled-requires
copy-settled-requires c κs = (
  inputs-few c.requires.0.ready c.requires.0.fits (λ i. get_or c.args.own.now i 2) c.rows_of-rows.result
      c.rows_of-rows.ensures,
  c.requires.1,
)

-- the copy: the body with the pins' bits
module _ (k : tie.After-copy_settled) where
  abbrev S : tie.Start
  S = k.before.before.before.before.before.before.before.before.before.before

  abbrev body : List ℕ
  body = S.args.body.now

  abbrev q : ℕ → ℕ
  q i = get_or S.args.own.now i 2

  abbrev copied : List ℕ
  copied = take (length body) k.copy_settled.new.copy

  settled : Settled (pin_at (circuit_in S.args.m.now) q S.args.w.q.frames) body copied
  settled =
      subst (λ (P : ℕ → ℕ). Settled P body copied)
      (pins-are S.requires.0.ready S.requires.0.fits q k.rows_of-rows.result k.rows_of-rows.ensures) k.copy_settled.ensures.0

  long : length body ≤ length k.copy_settled.new.copy
  long = omega (arith, k.copy_settled.auto.copy, S.requires.1)

  -- the part of the copy that is judged
  part-is : take (length body - 0) k.copy_settled.new.copy ≡ copied
  part-is = let e : length body - 0 ≡ length body = omega arith in ap (λ (n : ℕ). take n k.copy_settled.new.copy) e

part-judge-counted-end : tie.Need-slice_bounds-judge_counted-end
part-judge-counted-end c = long c.before.before

judge-counted-requires : tie.Need-judge_counted-requires
judge-counted-requires c κs =
    let s = S c.before.before.before in
    let a = s.args in
    let P = s.requires.0 in
    record {
      ready = P.ready;
      bad = P.bad;
      fits =
          subst (λ (u : List ℕ). Fits (circuit_in a.m.now) a.w.q.bad a.w.q.frames (eithers u) u) (sym (part-is c.before.before.before))
          (settled-fits P.ready P.fits (q c.before.before.before) (settled c.before.before.before));
    }

returns : tie.Need-returns
returns c =
    let a = (S c.before.before.before.before).args in
    record {
      text = copied c.before.before.before.before;
      settled = settled c.before.before.before.before;
      judged = subst (λ (w : List ℕ). Judged (circuit_in a.m.now) a.w.q.bad w c.judge_counted.result) (part-is c.before.before.before.before)
          c.judge_counted.ensures;
    }

pub judge_copy_spec : {M : Type 1} → statement M
judge_copy_spec =
    tie.close
    (tie.spec rows-of-requires copy-settled-requires (λ c. search rules) (λ c. search rules) part-judge-counted-end judge-counted-requires (λ c. search rules) returns)
