-- What is read as a witness is the text of that witness: no other text is read as it. Clauses 3.5, 4.1. Assumes nothing.
use mathlib.Core.Path.{◌≡◌, refl, sym, ap, ap₂, ◌∙◌, subst}
use mathlib.Core.Bool.{Bool, true, false, not, cond, ◌&&◌, ◌||◌}
use mathlib.Core.List.{List, [], ◌∷◌, ◌++◌, append_assoc}
use mathlib.Core.Logic.{⊎_elim}
use mathlib.Core.Option.{none, some}
use Prim.Native.Nat.{ℕ, zero, suc, ◌+◌, ◌-◌, ◌*◌, ◌^◌, ◌≤◌, ◌<◌}
use native.Mathlib.Decide.{ℕ_discrete, dec_lt}
use native.Mathlib.Omega.{arith}
use borrow.Author.Tests.{eq-eqb, ne_eqb, eqb-true, ltb-true}
use lib.Dec.{T, leb, ltb, eqb, leb→le, eqb→eq}
use lib.ListN.{length, get_or, take, drop, take-append-drop, length-drop}
use Rattle.aiger.specs.Lists.{every, same}
use Rattle.aiger.specs.Text.{bytes, is_digit, is_number, decimal, span, Token, spaced, ended, malformed, ended_by, token, digits}
use Rattle.aiger.specs.Text.{on_token, when, ◌>>=◌}
use Rattle.aiger.specs.Circuit.{Circuit}
use Rattle.aiger.specs.Witness.{Witness, bit_line, bit_lines, witness, bits, bit_rows, read_run, read_witness}
use Rattle.aiger.proofs.Tests.{and_left, and_right, or_cases, T_true, not-both, every-right}
use Rattle.meaning.proofs.Lists.{same-eq}
use Rattle.numbers.proofs.Digits.{digits-one}
use Rattle.numbers.proofs.ReadBack.{digits_are}
use Rattle.roundtrip.proofs.LoadValid.{some-bind, some_same}

-- ---- numbers: no two texts of digits without a leading zero stand for the same number

digit-bounds : (x : ℕ) → T (is_digit x) → (48 ≤ x) × (x ≤ 57)
digit-bounds x t = (leb→le 48 x (and_left (leb 48 x) (leb x 57) t), leb→le x 57 (and_right (leb 48 x) (leb x 57) t))

-- as many digits after a and after b that stand for the same number
digits_same : (v w : List ℕ) (a b : ℕ) → length v ≡ length w → T (every is_digit v) → T (every is_digit w)
    → decimal a v ≡ decimal b w → (a ≡ b) × (v ≡ w)
unfolding decimal
digits_same [] [] a b l p q e = (e, refl)
digits_same [] (y ∷ w) a b l p q e = absurd (omega arith)
digits_same (x ∷ v) [] a b l p q e = absurd (omega arith)
digits_same (x ∷ v) (y ∷ w) a b l p q e =
    let r =
    digits_same v w (a * 10 + (x - 48)) (b * 10 + (y - 48)) (omega arith) (and_right (is_digit x) (every is_digit v) p)
    (and_right (is_digit y) (every is_digit w) q) e in
    let hx = digit-bounds x (and_left (is_digit x) (every is_digit v) p) in
    let hy = digit-bounds y (and_left (is_digit y) (every is_digit w) q) in
    let s : x ≡ y = omega (arith, r.0, hx, hy) in
    (omega (arith, r.0, hx, hy), ap₂ (λ (z : ℕ) (zs : List ℕ). z ∷ zs) s r.1)

decimal-append : (a : ℕ) (u v : List ℕ) → decimal a (u ++ v) ≡ decimal (decimal a u) v
unfolding decimal
decimal-append a [] v = refl
decimal-append a (x ∷ u) v = decimal-append (a * 10 + (x - 48)) u v

decimal-least : (a : ℕ) (w : List ℕ) → a ≤ decimal a w
unfolding decimal
decimal-least a [] = omega arith
decimal-least a (x ∷ w) = omega (arith, decimal-least (a * 10 + (x - 48)) w)

-- more digits, the first one not 0, stand for another number
not-longer : (v : List ℕ) (y : ℕ) (w : List ℕ) → length v ≤ length w → T (every is_digit v) → T (every is_digit (y ∷ w)) → (y ≡ 48 → ⊥)
    → decimal 0 v ≡ decimal 0 (y ∷ w) → ⊥
unfolding decimal
not-longer v y w l p q n e =
    let k = length w - length v in
    let a = 0 * 10 + (y - 48) in
    let s = take-append-drop k w in
    let ds : T (every is_digit (take k w ++ drop k w)) =
    subst (λ (z : List ℕ). T (every is_digit z)) (sym s) (and_right (is_digit y) (every is_digit w) q) in
    let r =
    digits_same v (drop k w) 0 (decimal a (take k w)) (omega (arith, length-drop k w)) p (every-right is_digit (take k w) (drop k w) ds)
    (e ∙ ap (decimal a) (sym s) ∙ decimal-append a (take k w) (drop k w)) in
    omega (arith, r.0, decimal-least a (take k w), digit-bounds y (and_left (is_digit y) (every is_digit w) q))

-- what the test of a number says
record Numeral (w : List ℕ) : Type 0 where
  all : T (every is_digit w)
  some_one : 1 ≤ length w
  lead : 1 < length w → get_or w 0 0 ≡ 48 → ⊥

numeral : (w : List ℕ) → is_number w ≡ true → Numeral w
unfolding is_number
numeral w e =
    let t1 = every is_digit w in
    let t2 = leb 1 (length w) in
    let t3 = leb (length w) 10 in
    let t4 = not (eqb (get_or w 0 0) 48) || eqb (length w) 1 in
    let t : T (t1 && t2 && t3 && t4) = T_true e in
    let u = and_left (t1 && t2) t3 (and_left (t1 && t2 && t3) t4 t) in
    record {
      all = and_left t1 t2 u;
      some_one = leb→le 1 (length w) (and_right t1 t2 u);
      lead =
          λ l z.
          ⊎_elim (λ k. not-both (eqb (get_or w 0 0) 48) k (T_true (eq-eqb (get_or w 0 0) 48 z))) (λ k. omega (arith, eqb→eq (length w) 1 k))
          (or_cases (not (eqb (get_or w 0 0) 48)) (eqb (length w) 1) (and_right (t1 && t2 && t3) t4 t));
    }

longer : (v w : List ℕ) → length v < length w → T (every is_digit v) → T (every is_digit w) → (get_or w 0 0 ≡ 48 → ⊥)
    → decimal 0 v ≡ decimal 0 w → ⊥
longer v [] l p q n e = omega arith
longer v (y ∷ w) l p q n e = not-longer v y w (omega arith) p q n e

-- a number's text is the one that is written for it
number-exact : (w : List ℕ) → is_number w ≡ true → decimal 0 w < 10 ^ 10 → w ≡ digits (decimal 0 w)
number-exact w e h =
    let n = decimal 0 w in
    let v = digits n in
    let d = digits_are 9 n h in
    let m = numeral w e in
    elim (dec_lt (length v) (length w)) [
      | yes l ↦ absurd (longer v w l d.all m.all (m.lead (omega (arith, d.some_one))) d.value)
      | no l ↦
          elim (dec_lt (length w) (length v)) [
            | yes k ↦
                elim (ℕ_discrete n 0) [
                  | yes z ↦
                      (let s : digits n ≡ (48 + n) ∷ [] = digits-one n (omega arith) in
                      absurd (omega (arith, ap length s, m.some_one)))
                  | no z ↦ absurd (longer w v k m.all d.all (d.lead (omega arith)) (sym d.value))
                ]
            | no k ↦ (digits_same w v 0 0 (omega arith) m.all d.all (sym d.value)).1
          ]
    ]

-- ---- a number that a line feed ended

span-append : (f : List ℕ) → (span f).0 ++ (span f).1 ≡ f
unfolding span
span-append [] = refl
span-append (c ∷ f) = go (is_digit c) (span-append f)
  where
    front : Bool → List ℕ × List ℕ
    front b = cond b (c ∷ (span f).0, (span f).1) ([], c ∷ f)

    go : (b : Bool) → (span f).0 ++ (span f).1 ≡ f → (front b).0 ++ (front b).1 ≡ c ∷ f
    go true e = ap (λ (l : List ℕ). c ∷ l) e
    go false e = refl

pub ended-exact : (n m : ℕ) (s r : List ℕ) → ended_by n s ≡ ended m r → (n ≡ m) × (s ≡ 10 ∷ r)
unfolding ended_by
ended-exact n m [] r e = let z : ◌≡◌ {A = ℕ} 0 1 = cc in absurd (omega arith)
ended-exact n m (c ∷ f) r e = go (eqb c 32) (eqb c 10) refl e
  where
    go : (a b : Bool) → eqb c 10 ≡ b → cond a (spaced n f) (cond b (ended n f) malformed) ≡ ended m r → (n ≡ m) × (c ∷ f ≡ 10 ∷ r)
    go true b q k = let z : ◌≡◌ {A = ℕ} 0 1 = cc in absurd (omega arith)
    go false false q k = let z : ◌≡◌ {A = ℕ} 0 1 = cc in absurd (omega arith)
    go false true q k =
        let u : n ≡ m = cc in
        let v : f ≡ r = cc in
        (u, ap₂ (λ (x : ℕ) (xs : List ℕ). x ∷ xs) (eqb-true c 10 q) v)

token-exact : (f : List ℕ) (n : ℕ) (r : List ℕ) → token f ≡ ended n r → n < 10 ^ 10 → f ≡ digits n ++ 10 ∷ r
unfolding token
token-exact f n r e h = go (is_number (span f).0) refl e
  where
    go : (b : Bool) → is_number (span f).0 ≡ b → cond b (ended_by (decimal 0 (span f).0) (span f).1) malformed ≡ ended n r
        → f ≡ digits n ++ 10 ∷ r
    go false q k = let z : ◌≡◌ {A = ℕ} 0 1 = cc in absurd (omega arith)
    go true q k =
        let w = (span f).0 in
        let s = ended-exact (decimal 0 w) n (span f).1 r k in
        let x : w ≡ digits n = number-exact w q (omega (arith, s.0)) ∙ ap digits s.0 in
        sym (span-append f) ∙ ap₂ (λ (a b : List ℕ). a ++ b) x s.1

-- ---- lines of bits

bit_byte : (c : ℕ) → (eqb c 48 || eqb c 49) ≡ true → c ≡ cond (eqb c 49) 49 48
bit_byte c e =
    elim (ℕ_discrete c 49) [
      | yes z ↦ rw (eq-eqb c 49 z) z
      | no z ↦
          rw (ne_eqb c 49 z)
          (⊎_elim (λ k. eqb→eq c 48 k) (λ k. absurd (z (eqb→eq c 49 k))) (or_cases (eqb c 48) (eqb c 49) (T_true e)))
    ]

pub when_true : (b : Bool) (u : Unit {0}) → when b ≡ some u → b ≡ true
when_true true u e = refl
when_true false u e = let z : ◌≡◌ {A = ℕ} 0 1 = cc in absurd (omega arith)

bits-exact : (n : ℕ) (w : List ℕ) (r : List Bool × List ℕ) → bits n w ≡ some r → w ≡ bit_line r.0 ++ r.1
unfolding bits
bits-exact n [] r e = let z : ◌≡◌ {A = ℕ} 0 1 = cc in absurd (omega arith)
bits-exact zero (c ∷ w) r e =
    let a = some-bind (when (eqb c 10)) _ r e in
    let s : ◌≡◌ {A = List Bool × List ℕ} ([], w) r = some_same a.2 in
    ap (λ (x : ℕ). x ∷ w) (eqb-true c 10 (when_true (eqb c 10) a.0 a.1))
    ∙ ap (λ (x : List Bool × List ℕ). bit_line x.0 ++ x.1) s
bits-exact (suc n) (c ∷ w) r e =
    let a = some-bind (when (eqb c 48 || eqb c 49)) _ r e in
    let b = some-bind (bits n w) _ r a.2 in
    let s : ◌≡◌ {A = List Bool × List ℕ} (eqb c 49 ∷ b.0.0, b.0.1) r = some_same b.2 in
    ap₂ (λ (x : ℕ) (xs : List ℕ). x ∷ xs) (bit_byte c (when_true (eqb c 48 || eqb c 49) a.0 a.1)) (bits-exact n w b.0 b.1)
    ∙ ap (λ (x : List Bool × List ℕ). bit_line x.0 ++ x.1) s

-- lines of bits and the line that ends the text
abbrev rows_text : List (List Bool) → List ℕ
rows_text rs = bit_lines rs ++ bytes ".\n"

module _ (n most : ℕ) (w : List ℕ) where
  rows_end : same w (bytes ".\n") ≡ true → bit_rows n (suc most) w ≡ some []
  unfolding bit_rows
  rows_end e = simp (bit_rows, e)

  rows_next : same w (bytes ".\n") ≡ false → bit_rows n (suc most) w ≡ (bits n w >>= λ r. bit_rows n most r.1 >>= λ rs. some (r.0 ∷ rs))
  unfolding bit_rows
  rows_next e = simp (bit_rows, e)

rows-exact : (n most : ℕ) (w : List ℕ) (rs : List (List Bool)) → bit_rows n most w ≡ some rs → w ≡ rows_text rs
unfolding bit_rows
rows-exact n zero w rs e =
    let a = some-bind (when (same w (bytes ".\n"))) _ rs e in
    let s : ◌≡◌ {A = List (List Bool)} [] rs = some_same a.2 in
    same-eq w (bytes ".\n") (T_true (when_true (same w (bytes ".\n")) a.0 a.1)) ∙ ap rows_text s
rows-exact n (suc most) w rs e = go (same w (bytes ".\n")) refl (rows-exact n most)
  where
    go : (b : Bool) → same w (bytes ".\n") ≡ b → ((f : List ℕ) (qs : List (List Bool)) → bit_rows n most f ≡ some qs → f ≡ rows_text qs)
        → w ≡ rows_text rs
    go true q k =
        let s : ◌≡◌ {A = List (List Bool)} [] rs = some_same (sym (rows_end n most w q) ∙ e) in
        same-eq w (bytes ".\n") (T_true q) ∙ ap rows_text s
    go false q k =
        let a = some-bind (bits n w) _ rs (sym (rows_next n most w q) ∙ e) in
        let b = some-bind (bit_rows n most a.0.1) _ rs a.2 in
        let s : ◌≡◌ {A = List (List Bool)} (a.0.0 ∷ b.0) rs = some_same b.2 in
        bits-exact n w a.0 a.1 ∙ ap (λ (x : List ℕ). bit_line a.0.0 ++ x) (k a.0.1 b.0 b.1)
        ∙ sym (append_assoc (bit_line a.0.0) (bit_lines b.0) (bytes ".\n")) ∙ ap rows_text s

-- ---- the witness

-- what was read after line `b`
record After (c : Circuit) (b : ℕ) (f : List ℕ) (w : Witness) : Type 0 where
  below : b < length c.bads
  bad : w.bad ≡ b
  lines : f ≡ bit_line w.run.start ++ rows_text w.run.rows

run-exact : (c : Circuit) (b : ℕ) (f : List ℕ) (w : Witness) → read_run c b f ≡ some w → After c b f w
unfolding read_run
run-exact c b f w e =
    let a1 = some-bind (when (ltb b (length c.bads))) _ w e in
    let a2 = some-bind (bits (length c.latches) f) _ w a1.2 in
    let a3 = some-bind (bit_rows (length c.inputs) 256 a2.0.1) _ w a2.2 in
    let a4 = some-bind (when (leb 1 (length a3.0))) _ w a3.2 in
    let s : record { bad = b; run = record { start = a2.0.0; rows = a3.0 } } ≡ w = some_same a4.2 in
    subst (After c b f) s
    (record {
      below = ltb-true b (length c.bads) (when_true (ltb b (length c.bads)) a1.0 a1.1);
      bad = refl;
      lines =
          bits-exact (length c.latches) f a2.0 a2.1
          ∙ ap (λ (x : List ℕ). bit_line a2.0.0 ++ x) (rows-exact (length c.inputs) 256 a2.0.1 a3.0 a3.1);
    })

module _ (c : Circuit) (text : List ℕ) (w : Witness) (few : length c.bads ≤ 16) where
  by_token : (k : Token) → token (drop 3 text) ≡ k → on_token k (λ b f. none) (read_run c) ≡ some w
      → drop 3 text ≡ digits w.bad ++ 10 ∷ (bit_line w.run.start ++ rows_text w.run.rows)
  by_token (spaced n f) q e = let z : ◌≡◌ {A = ℕ} 0 1 = cc in absurd (omega arith)
  by_token malformed q e = let z : ◌≡◌ {A = ℕ} 0 1 = cc in absurd (omega arith)
  by_token (ended n f) q e =
      let r = run-exact c n f w e in
      token-exact (drop 3 text) n f q (omega (arith, r.below))
      ∙ ap₂ (λ (b : ℕ) (x : List ℕ). digits b ++ 10 ∷ x) (sym r.bad) r.lines

  -- what is read as a witness is its text
  pub read-exact : read_witness c text ≡ some w → text ≡ witness w.bad w.run
  unfolding read_witness witness
  read-exact e =
      let a = some-bind (when (same (take 3 text) (bytes "1\nb"))) _ w e in
      let h = same-eq (take 3 text) (bytes "1\nb") (T_true (when_true (same (take 3 text) (bytes "1\nb")) a.0 a.1)) in
      sym (take-append-drop 3 text) ∙ ap₂ (λ (x y : List ℕ). x ++ y) h (by_token (token (drop 3 text)) refl a.2) ∙ simp append_assoc
