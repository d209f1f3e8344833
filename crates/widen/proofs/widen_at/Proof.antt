-- `widen::widen_at` meets its contract. Assumes nothing.
use mathlib.Core.Path.{◌≡◌, sym, ap, ◌∙◌}
use mathlib.Core.Bool.{Bool}
use mathlib.Core.List.{List}
use Prim.Native.Nat.{ℕ, ◌-◌, ◌≤◌, ◌<◌}
use native.Mathlib.Omega.{arith}
use borrow.Author.Rules.{rules}
use borrow.Author.Tests.{not-true, not-false}
use lib.ListN.{get_or}
use Rattle.completions.specs.Either.{eithers, shows}
use Rattle.layout.specs.Words.{circuit_in}
use Rattle.completions.specs.Forms.{Bit}
use Rattle.completions.proofs.Forms.{test_bit, other-bit}
use Rattle.widen.proofs.Steps.{fits-bit, at-full, at_other, at-taken, at-kept, taken-count, kept-count, bit-small}
use Rattle.widen.proofs.widen_at.Statement.{statement}
use Rattle.widen.proofs.widen_at.Tie as tie

returns : tie.Need-returns-then-count-gt15
returns c =
    let a = c.args in
    let F = c.requires.0.fits in (
      at-full (shows (circuit_in a.m.now) a.w.q.bad) a.body.now a.i (omega (arith, c.if-count-gt15.true, F.eithers-are)),
      F.eithers-are,
    )

returns-2 : tie.Need-returns-then-not-is_bit
returns-2 c =
    let a = c.args in (
      at_other (shows (circuit_in a.m.now) a.w.q.bad) a.body.now a.i
          (sym c.is_bit.ensures ∙ c.if-not-is_bit.true),
      c.requires.0.fits.eithers-are,
    )

-- byte i is a bit, and there are fewer than 16 x
module _ (e : tie.Else-not-is_bit) where
  abbrev S : tie.Start
  S = e.before.before.before.before.before.before.before.before.before.before

  abbrev w : List ℕ
  w = S.args.body.now

  abbrev p : List ℕ → Bool
  p = shows (circuit_in S.args.m.now) S.args.w.q.bad

  is-a-bit : Bit (get_or w S.args.i 0)
  is-a-bit = test_bit (get_or w S.args.i 0) (sym e.is_bit.ensures ∙ e.if-not-is_bit.false)

  few : eithers w < 16
  few = omega (arith, e.if-count-gt15.false, S.requires.0.fits.eithers-are)

sub-body : tie.Need-overflow_sub-body
sub-body c = bit-small (get_or (w c) (S c).args.i 0) (is-a-bit c)

every-hit-requires : tie.Need-every_hit-requires
every-hit-requires c κs =
    let b : ℕ = get_or (w c.before.before) (S c.before.before).args.i 0 in (
      record {
        ready = (S c.before.before).requires.0.ready;
        bad = (S c.before.before).requires.0.bad;
        fits = fits-bit (S c.before.before).requires.0.fits (S c.before.before).args.i (is-a-bit c.before.before) (97 - b) (other-bit b (is-a-bit c.before.before));
      },
      (S c.before.before).requires.1.0.0,
    )

returns-3 : tie.Need-returns-then-every_hit
returns-3 c =
    let i : ℕ = (S c.before.before.before.before.before.before.before.before).args.i in (
      at-taken (p c.before.before.before.before.before.before.before.before) (w c.before.before.before.before.before.before.before.before) i (S c.before.before.before.before.before.before.before.before).requires.1.1 (is-a-bit c.before.before.before.before.before.before.before.before) (few c.before.before.before.before.before.before.before.before) (sym c.if-every_hit.true ∙ c.every_hit.ensures),
      taken-count (w c.before.before.before.before.before.before.before.before) i (97 - get_or (w c.before.before.before.before.before.before.before.before) i 0) (S c.before.before.before.before.before.before.before.before).args.w.q.eithers (is-a-bit c.before.before.before.before.before.before.before.before) (S c.before.before.before.before.before.before.before.before).requires.0.fits.eithers-are,
    )

returns-4 : tie.Need-returns
returns-4 c =
    let i : ℕ = (S c.before.before.before.before.before.before.before.before).args.i in (
      at-kept (p c.before.before.before.before.before.before.before.before) (w c.before.before.before.before.before.before.before.before) i (S c.before.before.before.before.before.before.before.before).requires.1.1 (is-a-bit c.before.before.before.before.before.before.before.before) (few c.before.before.before.before.before.before.before.before) (sym c.if-every_hit.false ∙ c.every_hit.ensures),
      kept-count (w c.before.before.before.before.before.before.before.before) i (97 - get_or (w c.before.before.before.before.before.before.before.before) i 0) (S c.before.before.before.before.before.before.before.before).args.w.q.eithers (S c.before.before.before.before.before.before.before.before).requires.0.fits.eithers-are,
    )

pub widen_at_spec : {M : Type 1} → statement M
widen_at_spec =
    tie.close
    (tie.spec returns (λ c. search rules) (λ c κs. search rules) returns-2 sub-body (λ c. search rules) every-hit-requires (λ c. search rules) (λ c. search rules) (λ c. search rules) (λ c. search rules) (λ c. search rules) returns-3 (λ c. search rules) (λ c. search rules) (λ c. search rules) (λ c. search rules) returns-4)
