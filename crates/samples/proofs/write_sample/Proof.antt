-- `samples::write_sample` meets its contract: the time mark, and then the levels. Assumes nothing.
use mathlib.Core.Path.{◌≡◌, refl, sym, ◌∙◌}
use mathlib.Core.List.{List, ◌++◌}
use Prim.Native.Nat.{ℕ, ◌+◌, ◌*◌, ◌≤◌, ◌<◌}
use native.Mathlib.Omega.{arith}
use borrow.Author.Rules.{rules}
use lib.ListN.{length, length-append}
use Rattle.output.specs.Output.{Room, Placed}
use Rattle.output.proofs.Output.{Rest, rest-start, rest-room, rest_more, last-placed}
use Rattle.vcd.specs.Text.{Level, time_mark, value_lines, sample}
use Rattle.vcd.proofs.Parts.{values_length}
use Rattle.levels.specs.Levels.{after}
use Rattle.samples.specs.Passes.{level_in, low, Stands, Rewritten}
use Rattle.samples.proofs.Standing.{stands-next}
use Rattle.samples.proofs.Samples.{sample-size}
use Rattle.samples.proofs.write_sample.Statement.{statement}
use Rattle.samples.proofs.write_sample.Tie as tie

module _ (out : List ℕ) (at n t : ℕ) (h : Room out at (sample low n t)) where
  sizes : length (sample low n t) ≡ length (time_mark t) + 4 * n
  unfolding sample
  sizes = length-append (time_mark t) (value_lines low 0 n) ∙ omega (arith, values_length low 0 n)

  mark-room : Room out at (time_mark t)
  mark-room = omega (arith, sizes)

  module _ {e₁ : ℕ} {out₁ : List ℕ} (p : Placed out at (time_mark t) e₁ out₁) where
    values-room : length out₁ ≡ length out → e₁ + 4 * n ≤ length out₁
    values-room k = omega (arith, sizes, p.past)

    both : (block : ℕ) (new : ℕ → Level) {e₂ : ℕ} {out₂ : List ℕ} → Rewritten (λ f. value_lines f 0 n) block new out₁ e₁ e₂ out₂
        → Rewritten (λ f. sample f n t) block new out at e₂ out₂
    unfolding sample
    both block new w =
        record {
          past = omega (arith, sizes, p.past, w.past, values_length low 0 n);
          placed = λ old s.
              let mixed : ℕ → Level = λ k. after block (old k) (new k) in
              let space : Room out at (sample mixed n t) = omega (arith, sample-size mixed low n t) in
              last-placed (value_lines mixed 0 n) space (rest_more (time_mark t) (value_lines mixed 0 n) space
              (rest-start out at (sample mixed n t)) p)
              (w.placed old (λ b. stands-next (time_mark t) (value_lines old 0 n) (s b) (time_mark t) mark-room refl p));
        }

write-time-requires : tie.Need-write_time-next-requires
write-time-requires c κs =
    let a = c.args in
    mark-room a.out.now a.at a.pass.wires a.t c.requires.1

write-values-requires : tie.Need-write_values-requires
write-values-requires c κs =
    let a = c.args in
    (c.requires.0, values-room a.out.now a.at a.pass.wires a.t c.requires.1 c.write_time-next.ensures c.write_time-next.auto.out)

returns : tie.Need-returns
returns c =
    let a = c.args in
    both a.out.now a.at a.pass.wires a.t c.requires.1 c.write_time-next.ensures a.pass.block
    (level_in a.m.now a.values.now)
    c.write_values.ensures

pub write_sample_spec : {M : Type 1} → statement M
write_sample_spec =
    tie.close (tie.spec write-time-requires write-values-requires (λ c. search rules) returns)
