-- `layers::meet_row` meets its contract. Assumes nothing.
use mathlib.Core.Path.{◌≡◌, refl, sym, ap, ◌∙◌, subst}
use mathlib.Core.Bool.{Bool, true, false, not, xor, ◌&&◌}
use mathlib.Core.List.{List, map}
use mathlib.Core.Logic.{◌⊎◌, inl, inr, ⊎_elim}
use Prim.Native.Nat.{ℕ, zero, suc, ◌+◌, ◌/◌, ◌%◌, ◌^◌, ◌<◌}
use native.Mathlib.Omega.{arith}
use lib.Bits.{bit_and}
use lib.ListN.{length, get_or, length-map}
use lib.Seq.{ext_get_or}
use Rattle.aiger.specs.Bits.{nonzero, bit}
use Rattle.words.proofs.Bits.{bit-and, xor-true}
use Rattle.states.specs.Number.{number_at}
use Rattle.states.specs.Table.{Meets, count_of}
use Rattle.transitions.specs.Transitions.{number_of}
use Rattle.transitions.proofs.Numbers.{map_at}
use borrow.Author.Rules.{rules}
use Rattle.layers.proofs.meet_row.Statement.{statement}
use Rattle.layers.proofs.meet_row.Tie as tie

-- lists under functions that agree on them
map-eq : (f g : ℕ → Bool) (ks : List ℕ) → ((i : ℕ) → i < length ks → f (get_or ks i 0) ≡ g (get_or ks i 0)) → map f ks ≡ map g ks
map-eq f g ks h =
    ext_get_or false (map f ks) (map g ks) (length-map ks f ∙ sym (length-map ks g))
    (λ i l. let k : i < length ks = omega (arith, length-map ks f) in map_at f ks i k ∙ h i k ∙ sym (map_at g ks i k))

-- a row is left out because it was before, or because it is among the same rows
cases : (a b : Bool) → (a && not b) ≡ false → (a ≡ false) ⊎ (b ≡ true)
cases false b e = inl refl
cases true true e = inr refl
cases true false e = inl e

module _ (left same others : ℕ) (f : (q : ℕ) → q < 64 → bit others q ≡ xor true (bit same q)) where
  out : (q : ℕ) → q < 64 → bit (bit_and left others) q ≡ false → (bit left q ≡ false) ⊎ (bit same q ≡ true)
  out q l e =
      cases (bit left q) (bit same q) (ap (λ (x : Bool). bit left q && x) (sym (f q l ∙ xor-true (bit same q)))
      ∙ sym (bit-and left others q) ∙ e)

first-of : (a b : Bool) → (a && b) ≡ true → a ≡ true
first-of true b e = refl
first-of false b e = e

-- a row that stays was left before
left_in : (left others q : ℕ) → bit (bit_and left others) q ≡ true → bit left q ≡ true
left_in left others q e = first-of (bit left q) (bit others q) (sym (bit-and left others q) ∙ e)

-- the row itself is among the same rows
no_more : (a b : Bool) → b ≡ false → (a && b) ≡ false
no_more true b e = e
no_more false b e = refl

pack-words-requires : tie.Need-pack_words-requires
pack-words-requires c κs = (
  c.requires.1.0,
  c.requires.1.4,
  c.requires.1.5,
)

same-rows-requires : tie.Need-same_rows-requires
same-rows-requires c κs = c.requires.1.0

literal-word-requires : tie.Need-literal_word-others-requires
literal-word-requires c κs = tt

add-meet : tie.Need-overflow_add-span
add-meet c = omega (
  arith,
  c.requires.1.0,
  c.requires.1.1,
)

meet-requires : tie.Need-meet-met-requires
meet-requires c κs = (
  c.requires.0,
  c.requires.1.2,
  c.pack_words.auto.s ∙ c.requires.1.3,
)

same_length : tie.Need-shape_of-records
same_length c = c.meet-met.auto.records

same-length-2 : tie.Need-shape_of-s
same-length-2 c = c.pack_words.auto.s

returns : tie.Need-returns
returns c =
    let a = c.args in
    let s = c.pack_words.new.s in
    let state : number_at s 0 (length s) ≡ number_of (map (λ w. bit w a.p) a.state.now) =
    ap (number_at s 0) c.pack_words.auto.s ∙ c.pack_words.ensures in (
      record {
        meets = subst
            (λ (n : ℕ).
            Meets a.span.table a.span.quota (count_of a.span.quota a.pending.met) n a.span.e (a.span.first + a.p)
            a.records.now (count_of a.span.quota c.meet-met.result) c.meet-met.new.records) state c.meet-met.ensures.0;
        dropped = λ q l g. ⊎_elim (λ h. inl h)
            (λ h. inr (ap number_of (map-eq (λ w. bit w q) (λ w. bit w a.p) a.state.now (c.same_rows.ensures.0 q l h))))
            (out a.pending.left c.same_rows.result c.literal_word-others.result c.literal_word-others.ensures q l g);
        within = λ q g. left_in a.pending.left c.literal_word-others.result q g;
        gone = bit-and a.pending.left c.literal_word-others.result a.p
            ∙ no_more (bit a.pending.left a.p) (bit c.literal_word-others.result a.p)
            (c.literal_word-others.ensures a.p c.requires.1.0 ∙ ap (xor true) c.same_rows.ensures.1 ∙ xor-true true);
      },
      c.meet-met.ensures.1,
    )

pub meet_row_spec : {M : Type 1} → statement M
meet_row_spec =
    tie.close
    (tie.spec pack-words-requires same-rows-requires literal-word-requires add-meet meet-requires same_length same-length-2 returns)
