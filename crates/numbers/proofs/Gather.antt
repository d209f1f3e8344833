-- What the loop of `read_number` keeps: the digits at a position are those that were read, which stand for the total, and those that
-- are left.
-- Assumes nothing.
use mathlib.Core.Path.{◌≡◌, refl, sym, ap, ◌∙◌, subst}
use mathlib.Core.Bool.{Bool, true, false, cond}
use mathlib.Core.List.{List, [], ◌∷◌, ◌++◌, append_assoc, append-nil}
use Prim.Native.Nat.{ℕ, suc, ◌+◌, ◌-◌, ◌*◌, ◌^◌, ◌≤◌, ◌<◌}
use native.Mathlib.Numerals.{add-one}
use native.Mathlib.Omega.{arith}
use borrow.Author.Tests.{le-leb, lt-leb, ne_eqb}
use lib.Dec.{T}
use lib.ListN.{length, get_or, take, drop, length-append, length-drop, drop_of_length-le}
use lib.Seq.{drop-cons, get_or-drop, take-suc, length-take-le}
use Rattle.aiger.specs.Lists.{every}
use Rattle.aiger.specs.Text.{is_digit, is_number, decimal, span, Token, malformed, ended_by, token}
use Rattle.aiger.proofs.Tests.{and, every-left, T_true}
use Rattle.numbers.specs.Number.{NumberAt, Digits, part}
use Rattle.std.specs.Prelude.{Some, None}
use Rattle.numbers.specs.declared.Number.TheVariants.{Spaced, Ended}
use Rattle.numbers.proofs.Run.{overlong, small-more, small-in}

digit : (b : ℕ) → 48 ≤ b → b < 58 → is_digit b ≡ true
digit b p q =
    let r : b ≤ 57 = omega arith in
    simp (le-leb _ _ p, le-leb _ _ r)

pub low : (b : ℕ) → b < 48 → is_digit b ≡ false
low b p = simp (lt-leb _ _ p)

pub high : (b : ℕ) → 58 ≤ b → is_digit b ≡ false
high b p =
    let q : 48 ≤ b = omega arith in
    let r : 57 < b = omega arith in
    simp (le-leb _ _ q, lt-leb _ _ r)

span-all : (f : List ℕ) → T (every is_digit (span f).0)
unfolding span
span-all [] = tt
span-all (c ∷ f) = go (is_digit c) refl (span-all f)
  where
    go : (t : Bool) → is_digit c ≡ t → T (every is_digit (span f).0)
        → T (every is_digit (cond {A = List ℕ × List ℕ} t (c ∷ (span f).0, (span f).1) ([], c ∷ f)).0)
    go true e r = and (is_digit c) (every is_digit (span f).0) (T_true e) r
    go false e r = tt

-- the digits at i, by the byte there
span_more : (s : List ℕ) (i : ℕ) → i < length s → is_digit (get_or s i 0) ≡ true
    → span (drop i s) ≡ (get_or s i 0 ∷ (span (drop (i + 1) s)).0, (span (drop (i + 1) s)).1)
unfolding span
span_more s i p d = rw (add-one, drop-cons s i 0 p) (simp d)

span-stop : (s : List ℕ) (i : ℕ) → i < length s → is_digit (get_or s i 0) ≡ false → span (drop i s) ≡ ([], get_or s i 0 ∷ drop (i + 1) s)
unfolding span
span-stop s i p d = rw (add-one, drop-cons s i 0 p) (simp d)

span-end : (s : List ℕ) (i : ℕ) → length s ≤ i → span (drop i s) ≡ ([], [])
unfolding span
span-end s i p = ap span (drop_of_length-le s p)

cond_same : (b : Bool) (t : Token) → cond b t t ≡ t
cond_same true t = refl
cond_same false t = refl

-- one more digit
decimal-more : (n : ℕ) (w : List ℕ) (c : ℕ) → decimal n (w ++ (c ∷ [])) ≡ decimal n w * 10 + (c - 48)
unfolding decimal
decimal-more n [] c = refl
decimal-more n (d ∷ w) c = decimal-more (n * 10 + (d - 48)) w c

pub record Gathering (s : List ℕ) (at total count i : ℕ) : Type 0 where
  pub few : count ≤ 10
  pub inside : count ≤ length (drop at s)
  pub here : i ≡ at + count
  pub run : (span (drop at s)).0 ≡ part s at count ++ (span (drop i s)).0
  pub rest : (span (drop at s)).1 ≡ (span (drop i s)).1
  pub value : total ≡ decimal 0 (part s at count)
  pub small : total < 10 ^ count

pub start : (s : List ℕ) (at : ℕ) → Gathering s at 0 0 at
unfolding decimal
start s at =
    record { few = omega arith; inside = omega arith; here = omega arith; run = refl; rest = refl; value = refl; small = omega arith }

module _ {s : List ℕ} {at total count i : ℕ} (g : Gathering s at total count i) where
  pub turn : count < 10 → i < length s → 48 ≤ get_or s i 0 → get_or s i 0 < 58 → (d : ℕ) → d ≡ get_or s i 0 - 48
      → Gathering s at (total * 10 + d) (count + 1) (i + 1)
  turn room p lo hi d e =
      let m = span_more s i p (digit (get_or s i 0) lo hi) in
      let q : count < length (drop at s) = omega (arith, length-drop at s, g.here) in
      let x : get_or (drop at s) count 0 ≡ get_or s i 0 = get_or-drop at s count 0 ∙ ap (λ (k : ℕ). get_or s k 0) (sym g.here) in
      let y : part s at (count + 1) ≡ part s at count ++ (get_or s i 0 ∷ []) =
      ap (λ (k : ℕ). take k (drop at s)) (add-one count) ∙ take-suc (drop at s) count 0 q
      ∙ ap (λ (c : ℕ). part s at count ++ (c ∷ [])) x
      in
      record {
        few = omega arith;
        inside = omega arith;
        here = omega (arith, g.here);
        run = g.run ∙ rw (m, y, append_assoc);
        rest = g.rest ∙ rw m;
        value = rw (y, decimal-more, ← g.value, e);
        small = small-more count total d g.small (omega arith);
      }

  -- what was read are digits
  pub held : Digits s at count
  held = record {
    few = g.few;
    held = g.inside;
    all = every-left is_digit (part s at count) (span (drop i s)).0 (subst (λ (w : List ℕ). T (every is_digit w)) g.run (span-all (drop at s)));
  }

  -- the total fits
  pub low-total : count < 10 → total < 10 ^ 9
  low-total h = small-in count 9 total (omega arith) g.small

  -- where no digit is left, the token goes by the buffer and by what is left
  stopped : (f : List ℕ) → span (drop i s) ≡ ([], f) → token (drop at s) ≡ cond (is_number (part s at count)) (ended_by (decimal 0 (part s at count)) f) malformed
  unfolding token
  stopped f e =
      let a : (span (drop at s)).0 ≡ part s at count = g.run ∙ rw e (append-nil _) in
      let b : (span (drop at s)).1 ≡ f = g.rest ∙ rw e in
      rw (a, b)

  pub by-space : i < length s → get_or s i 0 ≡ 32 → is_number (part s at count) ≡ true → NumberAt s at (Some (Spaced total (i + 1)))
  unfolding ended_by
  by-space p b n =
      record {
        meaning = sym (stopped _ (span-stop s i p (low (get_or s i 0) (omega arith))) ∙ rw (n, b, ← g.value));
        place = record { past = omega arith; inside = omega arith; small = small-in count 10 total g.few g.small };
      }

  pub by-line : i < length s → get_or s i 0 ≡ 10 → is_number (part s at count) ≡ true → NumberAt s at (Some (Ended total (i + 1)))
  unfolding ended_by
  by-line p b n =
      record {
        meaning = sym (stopped _ (span-stop s i p (low (get_or s i 0) (omega arith))) ∙ rw (n, b, ← g.value));
        place = record { past = omega arith; inside = omega arith; small = small-in count 10 total g.few g.small };
      }

  -- the digits are no number
  pub no_number : i < length s → is_digit (get_or s i 0) ≡ false → is_number (part s at count) ≡ false → NumberAt s at None
  no_number p d n = record { meaning = sym (stopped _ (span-stop s i p d) ∙ rw n); place = tt }

  -- the byte after the digits ends no number
  pub no_end : i < length s → is_digit (get_or s i 0) ≡ false → (get_or s i 0 ≡ 32 → ⊥) → (get_or s i 0 ≡ 10 → ⊥) → NumberAt s at None
  unfolding ended_by
  no_end p d a b =
      record { meaning = sym (stopped _ (span-stop s i p d) ∙ simp (ne_eqb _ _ a, ne_eqb _ _ b, cond_same)); place = tt }

  -- the text ends with the digits
  pub text-end : length s ≤ i → NumberAt s at None
  unfolding ended_by
  text-end p = record { meaning = sym (stopped [] (span-end s i p) ∙ simp cond_same); place = tt }

  -- a digit too many
  pub eleventh : count ≡ 10 → i < length s → 48 ≤ get_or s i 0 → get_or s i 0 < 58 → NumberAt s at None
  unfolding token
  eleventh z p lo hi =
      let w : List ℕ = (span (drop (i + 1) s)).0 in
      let n : length (span (drop at s)).0 ≡ 10 + suc (length w) =
      rw (g.run, span_more s i p (digit (get_or s i 0) lo hi), length-append, length-take-le count (drop at s) g.inside, z) in
      record { meaning = sym (rw (overlong (span (drop at s)).0 (omega arith))); place = tt }
