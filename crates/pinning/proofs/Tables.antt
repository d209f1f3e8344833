-- The table of pins by variable, and pins in the pin memory. Assumes nothing.
use mathlib.Core.Path.{◌≡◌, refl, sym, ap, ap₂, ◌∙◌}
use mathlib.Core.Bool.{Bool, true, false, not, cond, beq}
use mathlib.Core.List.{List, [], ◌∷◌}
use Prim.Native.Nat.{ℕ, zero, suc, ◌+◌, ◌-◌, ◌*◌, ◌/◌, ◌%◌, ◌≤◌, ◌<◌}
use native.Mathlib.Nat.{not-suc-le-zero, le_of_suc-le-suc}
use native.Mathlib.Decide.{ℕ_discrete}
use native.Mathlib.Numerals.{add-one}
use native.Mathlib.Omega.{arith}
use borrow.Author.Tests.{eq-eqb, ne_eqb, lt-ltb, le-ltb}
use lib.Dec.{eqb}
use lib.ListN.{length, get_or, set, take, drop, get_or-eq_default}
use lib.Seq.{get_or-set_same, get_or-set_other, get_or-drop, get_or-take}
use Rattle.aiger.specs.Circuit.{var}
use Rattle.literals.specs.Literal.{signed, literal, word_of}
use Rattle.literals.specs.declared.Lit.{Lit}
use Rattle.literals.proofs.Words.{literal-word, word-literal, word_read}
use Rattle.layout.specs.Words.{word, column}
use Rattle.roundtrip.proofs.Content.{words_at, column-words}
use Rattle.pins.specs.Pins.{is_held, pins_of, pin_of, constant_of}
pub use Rattle.meaning.proofs.Lists.{get_d_any}

-- what stands past the end of a list
pub get_d_past : (l : List ℕ) (i d : ℕ) → length l ≤ i → get_or l i d ≡ d
get_d_past l i d h = get_or-eq_default l d {n = i} h

-- a pin by its place
pub pin-is : (pins : List ℕ) (user i : ℕ) → i < 256 → pins_of pins user i ≡ get_or pins (256 * user + i) 2
unfolding pins_of
pin-is pins user i h = get_or-take 256 (drop (256 * user) pins) i 2 h ∙ get_or-drop (256 * user) pins i 2

-- the constant of a literal, as code computes it: 0 with the literal's sign, or the other one where the pin is 1
pub constant-held : (p : ℕ) (l : Lit) → p < 2 → signed 0 (not (beq l.1 (eqb p 1))) ≡ literal (constant_of p (word_of l))
constant-held p l h = rw (lt-ltb p 2 h) (go p l.0.0 l.1 h)
  where
    go : (p v : ℕ) (b : Bool) → p < 2 → signed 0 (not (beq b (eqb p 1))) ≡ literal ((p + (2 * v + cond b 1 0)) % 2)
    go zero v true h = let e : (0 + (2 * v + 1)) % 2 ≡ 1 = omega arith in sym (ap literal e)
    go zero v false h = let e : (0 + (2 * v + 0)) % 2 ≡ 0 = omega arith in sym (ap literal e)
    go (suc zero) v true h = let e : (1 + (2 * v + 1)) % 2 ≡ 0 = omega arith in sym (ap literal e)
    go (suc zero) v false h = let e : (1 + (2 * v + 0)) % 2 ≡ 1 = omega arith in sym (ap literal e)
    go (suc (suc p)) v b h = absurd (omega arith)

pub constant-free : (p : ℕ) (l : Lit) → 2 ≤ p → l ≡ literal (constant_of p (word_of l))
constant-free p l h = rw (le-ltb p 2 h) (sym (literal-word l))

-- a literal that was read from a word, tied, and written as a word
pub tied-word : (table : List ℕ) (w : ℕ) {l r : Lit} {x : ℕ} → l ≡ literal w → r ≡ literal (constant_of (get_or table l.0.0 2) (word_of l))
    → x ≡ word_of r → x ≡ constant_of (get_or table (var w) 2) w
tied-word table w {l} e t h =
    h ∙ word_read (constant_of (get_or table l.0.0 2) (word_of l)) t
    ∙ ap (λ (l : Lit). constant_of (get_or table l.0.0 2) (word_of l)) e ∙ ap (constant_of (get_or table (var w) 2)) (word-literal w)

pub constant-small : (p w : ℕ) → w < 4294967296 → constant_of p w < 4294967296
constant-small p w h = go (is_held p)
  where
    go : (b : Bool) → cond b ((p + w) % 2) w < 4294967296
    go true = omega arith
    go false = h

-- the table has the pins of the inputs from the i-th on
abbrev pub Entered : List ℕ → (ℕ → ℕ) → ℕ → ℕ → List ℕ → Type 0
Entered m q n i table = (v : ℕ) → get_or table v 2 ≡ pin_of q i (words_at m (7 + i) (n - i)) v

module _ (m : List ℕ) (q : ℕ → ℕ) (n : ℕ) where
  pub entered-start : (table : List ℕ) → ((v : ℕ) → get_or table v 2 ≡ 2) → Entered m q n n table
  unfolding pin_of
  entered-start table h v = let e : n - n ≡ 0 = omega arith in rw e (h v)

  pub entered-more : (i : ℕ) (table : List ℕ) (u : ℕ) → i < n → u ≡ var (word m (7 + i)) → u < length table → Entered m q n (i + 1) table
      → Entered m q n i (set table u (q i))
  unfolding pin_of
  entered-more i table u h e l r v =
      let one : n - i ≡ suc (n - (i + 1)) = omega arith in
      let next : 7 + (i + 1) ≡ suc (7 + i) = omega arith in
      let old : get_or table v 2 ≡ pin_of q (suc i) (words_at m (suc (7 + i)) (n - (i + 1))) v =
      r v ∙ ap₂ (λ (a b : ℕ). pin_of q a (words_at m b (n - (i + 1))) v) (add-one i) next in
      rw one
      (elim (ℕ_discrete v u) [
        | yes d ↦ ap (λ (x : ℕ). get_or (set table u (q i)) x 2) d ∙ get_or-set_same table u (q i) 2 l
            ∙ sym (ap (λ (b : Bool). cond b (q i) (pin_of q (suc i) (words_at m (suc (7 + i)) (n - (i + 1))) v)) (eq-eqb (word m (7 + i) / 2) v (omega arith)))
        | no d ↦ get_or-set_other table u v (q i) 2 d ∙ old
            ∙ sym (ap (λ (b : Bool). cond b (q i) (pin_of q (suc i) (words_at m (suc (7 + i)) (n - (i + 1))) v)) (ne_eqb (word m (7 + i) / 2) v (λ z. d (sym z ∙ sym e))))
      ])

  pub entered-end : (table : List ℕ) → Entered m q n 0 table → (v : ℕ) → get_or table v 2 ≡ pin_of q 0 (column m 7 1 n) v
  entered-end table h v =
      let a : 7 + 0 ≡ 7 = omega arith in
      let b : n - 0 ≡ n = omega arith in
      h v ∙ ap₂ (λ (x y : ℕ). pin_of q 0 (words_at m x y) v) a b ∙ ap (λ (ls : List ℕ). pin_of q 0 ls v) (sym (column-words m 7 n))
