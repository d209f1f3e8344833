-- The first two lines of a witness, as `witness` reads them and as the definitions have them. Assumes nothing.
use mathlib.Core.Path.{◌≡◌, refl, sym, ap, ◌∙◌, subst}
use mathlib.Core.List.{List}
use mathlib.Core.Option.{Option, none, some}
use Prim.Native.Nat.{ℕ}
use lib.ListN.{drop}
use Rattle.aiger.specs.Text.{◌>>=◌}
use Rattle.aiger.specs.Circuit.{Circuit}
use Rattle.aiger.specs.Witness.{read_run, read_witness}
use Rattle.completions.specs.Either.{heading}
use Rattle.witness.specs.Heading as heads
use Rattle.witness.specs.declared.Heading.{Heading}
use Rattle.witness.specs.declared.Heading.TheVariants.{Read, Malformed}
use Rattle.witness.proofs.Heads as laws

same-heading : (text : List ℕ) → heads.heading text ≡ heading text
unfolding heads.heading heading
same-heading text = refl

-- a witness is its heading, and a run after it
pub heading-read : (c : Circuit) (text : List ℕ) → read_witness c text ≡ (heading text >>= λ h. read_run c h.0 h.1)
heading-read c text =
    laws.heading-read c text ∙ ap (λ (o : Option (ℕ × List ℕ)). o >>= λ h. read_run c h.0 h.1) (same-heading text)

-- what a caller learns from an answer
module _ {text : List ℕ} {r : Heading} (h : heads.HeadingAt text r) where
  pub on_read : {b next : ℕ} → r ≡ Read b next → (heading text ≡ some (b, drop next text)) × heads.Within text b next
  on_read e = (sym (same-heading text) ∙ sym h.meaning ∙ ap (heads.meant text) e, subst (heads.Placed text) e h.place)

  pub on-malformed : r ≡ Malformed → heading text ≡ none
  on-malformed e = sym (same-heading text) ∙ sym h.meaning ∙ ap (heads.meant text) e
