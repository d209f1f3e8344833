-- Reading the first two lines of a witness. Assumes nothing.
use mathlib.Core.Path.{◌≡◌, refl, sym, ap, ◌∙◌, subst}
use mathlib.Core.Bool.{Bool, true, false, ◌&&◌}
use mathlib.Core.List.{List, [], ◌∷◌}
use mathlib.Core.Option.{Option, none, some}
use Prim.Native.Nat.{ℕ, ◌≤◌, ◌<◌}
use native.Mathlib.Omega.{arith}
use borrow.Author.Tests.{eq-eqb, ne_eqb}
use lib.Dec.{eqb}
use lib.ListN.{length, take, drop, get_or}
use Rattle.aiger.specs.Lists.{same}
use Rattle.aiger.specs.Text.{Token, spaced, ended, malformed, bytes, token, on_token, when, ◌>>◌, ◌>>=◌}
use Rattle.aiger.specs.Circuit.{Circuit}
use Rattle.aiger.specs.Witness.{read_run, read_witness}
use Rattle.numbers.specs.Number.{NumberAt}
use Rattle.numbers.specs.declared.Number.{Number}
use Rattle.numbers.specs.declared.Number.TheVariants.{Ended}
use Rattle.std.specs.Prelude as std
use Rattle.numbers.proofs.Reading.{on-ended}
use Rattle.numbers.specs.Number as numbers
use Rattle.witness.specs.Heading.{heading, meant, Within, Placed, HeadingAt}
use Rattle.witness.specs.declared.Heading.{Heading}
use Rattle.witness.specs.declared.Heading.TheVariants.{Read, Malformed}

abbrev both : ℕ → List ℕ → Option (ℕ × List ℕ)
both b f = some (b, f)

-- a witness is its heading, and a run after it
pub heading-read : (c : Circuit) (text : List ℕ) → read_witness c text ≡ (heading text >>= λ h. read_run c h.0 h.1)
unfolding read_witness heading
heading-read c text = go (same (take 3 text) (bytes "1\nb")) (token (drop 3 text))
  where
    go : (b : Bool) (k : Token)
        → when b >> on_token k (λ b f. none) (read_run c) ≡ ((when b >> on_token k (λ b f. none) both) >>= λ h. read_run c h.0 h.1)
    go true (spaced n f) = refl
    go true (ended n f) = refl
    go true malformed = refl
    go false k = refl

-- the first three bytes
abbrev opens : List ℕ → Bool
opens w = same (take 3 w) (bytes "1\nb")

no-heading : (w : List ℕ) → opens w ≡ false → none ≡ heading w
unfolding heading
no-heading w e = rw e

and-false : (b : Bool) → b && false ≡ false
and-false true = refl
and-false false = refl

three : (w : List ℕ) → 3 ≤ length w → opens w ≡ eqb (get_or w 0 0) 49 && (eqb (get_or w 1 0) 10 && (eqb (get_or w 2 0) 98 && true))
three [] h = absurd (omega arith)
three (a ∷ []) h = absurd (omega arith)
three (a ∷ b ∷ []) h = absurd (omega arith)
three (a ∷ b ∷ c ∷ w) h = refl

pub short : (w : List ℕ) → length w < 3 → none ≡ heading w
short [] h = no-heading [] refl
short (a ∷ []) h = no-heading (a ∷ []) (and-false (eqb a 49))
short (a ∷ b ∷ []) h = no-heading (a ∷ b ∷ []) (rw (and-false (eqb b 10)) (and-false (eqb a 49)))
short (a ∷ b ∷ c ∷ w) h = absurd (omega arith)

module _ (w : List ℕ) (h : 3 ≤ length w) where
  pub no_one : (get_or w 0 0 ≡ 49 → ⊥) → none ≡ heading w
  no_one n = no-heading w (three w h ∙ rw (ne_eqb (get_or w 0 0) 49 n))

  pub no-feed : (get_or w 1 0 ≡ 10 → ⊥) → none ≡ heading w
  no-feed n = no-heading w (three w h ∙ rw (ne_eqb (get_or w 1 0) 10 n) (and-false (eqb (get_or w 0 0) 49)))

  pub no-b : (get_or w 2 0 ≡ 98 → ⊥) → none ≡ heading w
  no-b n = no-heading w (three w h ∙ rw (ne_eqb (get_or w 2 0) 98 n, and-false (eqb (get_or w 1 0) 10)) (and-false (eqb (get_or w 0 0) 49)))

  module _ (a : get_or w 0 0 ≡ 49) (b : get_or w 1 0 ≡ 10) (c : get_or w 2 0 ≡ 98) where
    opened : opens w ≡ true
    opened = three w h ∙ rw (eq-eqb (get_or w 0 0) 49 a, eq-eqb (get_or w 1 0) 10 b, eq-eqb (get_or w 2 0) 98 c)

    -- what follows is judged by the number
    by_number : on_token (token (drop 3 w)) (λ b f. none) both ≡ heading w
    unfolding heading
    by_number = rw opened

    pub other : {r : std.Option Number} → NumberAt w 3 r → on_token (numbers.meant w r) (λ b f. none) both ≡ none → none ≡ heading w
    other g z = sym z ∙ ap (λ (x : Token). on_token x (λ b f. none) both) g.meaning ∙ by_number

    pub number : {r : std.Option Number} {v next : ℕ} → NumberAt w 3 r → r ≡ std.Some (Ended v next) → HeadingAt w (Read v next)
    number g e =
        let k = on-ended g e in
        record { meaning = sym (ap (λ (x : Token). on_token x (λ b f. none) both) k.0) ∙ by_number; place = record { inside = k.1.inside; small = k.1.small } }

-- text that is no heading
pub no_answer : {w : List ℕ} → none ≡ heading w → HeadingAt w Malformed
no_answer e = record { meaning = e; place = tt }

-- what a caller learns from an answer
module _ {text : List ℕ} {r : Heading} (h : HeadingAt text r) (c : Circuit) where
  pub on_read : {b next : ℕ} → r ≡ Read b next → (read_witness c text ≡ read_run c b (drop next text)) × Within text b next
  on_read e = (
    heading-read c text ∙ ap (λ (o : Option (ℕ × List ℕ)). o >>= λ x. read_run c x.0 x.1) (sym h.meaning ∙ ap (meant text) e),
    subst (Placed text) e h.place,
  )

  pub on-malformed : r ≡ Malformed → read_witness c text ≡ none
  on-malformed e = heading-read c text ∙ ap (λ (o : Option (ℕ × List ℕ)). o >>= λ x. read_run c x.0 x.1) (sym h.meaning ∙ ap (meant text) e)
