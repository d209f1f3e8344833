-- `diagram_rows::put_bits` meets its contract. The loop's invariant: the inputs from place k on have their bits, and what is left of the
-- number is for those before it. Assumes nothing.
use mathlib.Core.Path.{◌≡◌, refl, ap, ◌∙◌}
use Prim.Native.Nat.{ℕ, ◌-◌, ◌/◌, ◌%◌, ◌^◌, ◌≤◌}
use native.Mathlib.Omega.{arith}
use borrow.Author.Rules.{rules}
use lib.ListN.{length, get_or, set, drop}
use Rattle.literals.specs.Literal.{literal}
use Rattle.literals.specs.declared.Var.{Var}
use Rattle.layout.specs.Words.{circuit_in}
use Rattle.diagram_rows.specs.Rows.{bits_put}
use Rattle.diagram_rows.proofs.Read.{inputs-fit, input-read}
use Rattle.diagram_rows.proofs.Follow.{bits_none, bits-all, bits-more, left-none, left-more}
use Rattle.diagram_rows.proofs.put_bits.Statement.{statement}
use Rattle.diagram_rows.proofs.put_bits.Tie as tie

abbrev invariant-loop : tie.invariant-loop-k
invariant-loop m layout inputs r edges₀ left₀ k₀ edges left k =
    (k ≤ length inputs) × (length edges ≡ length edges₀) × (left ≡ r / 2 ^ (length inputs - k))
    × (edges ≡ bits_put (circuit_in m) r (drop k inputs) edges₀)

abbrev decreases-loop : tie.decreases-loop-k
decreases-loop m layout inputs r edges₀ left₀ k₀ edges left k = k

loop-holds : tie.Need-loop-k-init invariant-loop decreases-loop
loop-holds c =
    let a = c.args in
    (omega arith, refl, left-none a.r (length a.inputs.now), bits_none (circuit_in a.m.now) a.r a.inputs.now a.edges.now _ refl)

cast-single-at : tie.Need-overflow_cast-inputs invariant-loop decreases-loop
cast-single-at c = omega (arith, c.shared_slice_known-in-loop-k-1.given (c.loop-k.k - 1))

single-at-requires : tie.Need-single_at-l-requires invariant-loop decreases-loop
single-at-requires c κs = inputs-fit c.requires

loop-again : tie.Need-loop-k-preserved invariant-loop decreases-loop
loop-again c =
    let a = c.args in
    let v = c.var-v.ensures in (
      omega arith,
      c.put.auto.work ∙ c.loop-k.invariant.1,
      left-more a.r (length a.inputs.now) c.loop-k.k c.loop-k.left (omega arith) c.loop-k.invariant.0 c.loop-k.invariant.2,
      c.put.ensures ∙ ap (λ (x : Var). set {A = ℕ} c.loop-k.edges x.0 (c.loop-k.left % 2)) v
          ∙ bits-more (circuit_in a.m.now) a.r a.inputs.now a.edges.now c.loop-k.edges c.loop-k.k c.loop-k.left c.single_at-l.result (omega arith) c.loop-k.invariant.0
          (c.single_at-l.ensures ∙ ap literal (input-read c.requires (get_or a.inputs.now (c.loop-k.k - 1) 0))) c.loop-k.invariant.2 c.loop-k.invariant.3,
    )

same_length : tie.Need-shape_of-edges invariant-loop decreases-loop
same_length c = c.loop-k.invariant.1

returns : tie.Need-returns invariant-loop decreases-loop
returns c =
    let a = c.args in
    bits-all (circuit_in a.m.now) a.r a.inputs.now a.edges.now c.loop-k.edges c.loop-k.k (omega arith) c.loop-k.invariant.3

pub put_bits_spec : {M : Type 1} → statement M
put_bits_spec =
    tie.close
    (tie.spec invariant-loop decreases-loop loop-holds (λ c. search rules) (λ c. search rules) (λ c. search rules) cast-single-at single-at-requires (λ c κs. search rules) (λ c. search rules) (λ c κs. search rules) (λ c. search rules) loop-again same_length returns)
