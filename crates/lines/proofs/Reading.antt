-- Laws of reading a line, a number at a time. Assumes nothing.
use mathlib.Core.Path.{◌≡◌, refl, sym, ◌∙◌}
use mathlib.Core.Logic.{◌≢◌, ⊎_elim}
use mathlib.Core.List.{List, [], ◌∷◌, ◌++◌, append_assoc}
use mathlib.Core.Option.{Option, none, some}
use Prim.Native.Nat.{ℕ, suc, ◌+◌, ◌-◌, ◌^◌, ◌≤◌, ◌<◌}
use native.Mathlib.Nat.{eq-or-lt_of_le}
use native.Mathlib.Numerals.{add-one}
use native.Mathlib.Omega.{arith}
use lib.ListN.{length, get_or, take, drop, set, length-set}
use lib.Seq.{sets, take-suc-set, get_or-set_same, get_or-set_other}
use Rattle.aiger.specs.Text.{spaced, ended, malformed, token, row, ◌>>=◌}
use Rattle.numbers.specs.Number.{NumberAt}
use Rattle.std.specs.Prelude.{Some, None}
use Rattle.numbers.specs.declared.Number.TheVariants.{Spaced, Ended}
use Rattle.lines.specs.Lines.{RowRead, begun}

-- a line whose first numbers are vs
abbrev pub prefixed : List ℕ → Option (List ℕ × List ℕ) → Option (List ℕ × List ℕ)
prefixed vs none = none
prefixed vs (some r) = some (vs ++ r.0, r.1)

prefixed-none : (o : Option (List ℕ × List ℕ)) → o ≡ prefixed [] o
prefixed-none none = refl
prefixed-none (some r) = refl

prefixed-one : (vs : List ℕ) (v : ℕ) (o : Option (List ℕ × List ℕ)) → prefixed vs (o >>= λ r. some (v ∷ r.0, r.1)) ≡ prefixed (vs ++ (v ∷ [])) o
prefixed-one vs v none = refl
prefixed-one vs v (some r) = rw append_assoc

fewer : (n k : ℕ) → k < n → n - k ≡ suc (n - (k + 1))
fewer n k h = omega arith

row-spaced : (vs f g : List ℕ) (n k v : ℕ) → k < n → token f ≡ spaced v g
    → prefixed vs (row (n - k) f) ≡ prefixed (vs ++ (v ∷ [])) (row (n - (k + 1)) g)
unfolding row
row-spaced vs f g n k v h e = rw (fewer n k h, e) (prefixed-one vs v (row (n - (k + 1)) g))

row-ended : (vs f g : List ℕ) (n k v : ℕ) → k < n → token f ≡ ended v g → prefixed vs (row (n - k) f) ≡ some (vs ++ (v ∷ []), g)
unfolding row
row-ended vs f g n k v h e = rw (fewer n k h, e)

row-malformed : (vs f : List ℕ) (n k : ℕ) → k < n → token f ≡ malformed → prefixed vs (row (n - k) f) ≡ none
unfolding row
row-malformed vs f n k h e = rw (fewer n k h, e)

row-long : (vs f : List ℕ) (n k : ℕ) → n ≤ k → prefixed vs (row (n - k) f) ≡ none
unfolding row
row-long vs f n k h =
    let z : n - k ≡ 0 = omega arith in
    rw z

-- what a line leaves, a number at a time

left-spaced : (l f g : List ℕ) (n k v : ℕ) → k < n → token f ≡ spaced v g
    → sets l k (begun (n - k) f) ≡ sets (set l k v) (k + 1) (begun (n - (k + 1)) g)
unfolding begun
left-spaced l f g n k v h e = rw (fewer n k h, e, add-one k)

left_ended : (l f g : List ℕ) (n k v : ℕ) → k < n → token f ≡ ended v g → sets l k (begun (n - k) f) ≡ set l k v
unfolding begun
left_ended l f g n k v h e = rw (fewer n k h, e)

left-malformed : (l f : List ℕ) (n k : ℕ) → k < n → token f ≡ malformed → sets l k (begun (n - k) f) ≡ l
unfolding begun
left-malformed l f n k h e = rw (fewer n k h, e)

left-long : (l f : List ℕ) (n k : ℕ) → n ≤ k → sets l k (begun (n - k) f) ≡ l
unfolding begun
left-long l f n k h =
    let z : n - k ≡ 0 = omega arith in
    rw z

-- what holds of the numbers below k, and of v, holds of those below k + 1 once v is stored
below_set : (P : ℕ → Type 0) (l : List ℕ) (k v : ℕ)
    → k < length l → ((i : ℕ) → i < k → P (get_or l i 0)) → P v → (i : ℕ) → i < k + 1 → P (get_or (set l k v) i 0)
below_set P l k v room h p i b = ⊎_elim same other (eq-or-lt_of_le (omega arith))
  where
    same : i ≡ k → P (get_or (set l k v) i 0)
    same e = rw (e, get_or-set_same l k v 0 room) p

    other : i < k → P (get_or (set l k v) i 0)
    other b' =
        let n : i ≢ k = λ e. omega arith in
        rw (get_or-set_other l k i v 0 n) (h i b')

rest-set : (before l : List ℕ) (k v : ℕ)
    → ((i : ℕ) → k ≤ i → get_or l i 0 ≡ get_or before i 0) → (i : ℕ) → k + 1 ≤ i → get_or (set l k v) i 0 ≡ get_or before i 0
rest-set before l k v h i b =
    let n : i ≢ k = λ e. omega arith in
    get_or-set_other l k i v 0 n ∙ h i (omega arith)

-- count numbers of the line are read, and the next stands at `next`
pub record Reading (s : List ℕ) (at most : ℕ) (before buf : List ℕ) (count next : ℕ) : Type 0 where
  pub few : count ≤ most
  pub room : most ≤ length buf
  pub kept : length buf ≡ length before
  pub meaning : row most (drop at s) ≡ prefixed (take count buf) (row (most - count) (drop next s))
  pub small : (i : ℕ) → i < count → get_or buf i 0 < 10 ^ 10
  pub rest : (i : ℕ) → count ≤ i → get_or buf i 0 ≡ get_or before i 0
  pub whole : sets before 0 (begun most (drop at s)) ≡ sets buf count (begun (most - count) (drop next s))

pub start : (s : List ℕ) (at most : ℕ) (buf : List ℕ) → most ≤ length buf → Reading s at most buf buf 0 at
start s at most buf room =
    record {
      few = omega arith;
      room = room;
      kept = refl;
      meaning =
          let z : most - 0 ≡ most = omega arith in
          rw z (prefixed-none (row most (drop at s)));
      small = λ i h. absurd (omega arith);
      rest = λ i h. refl;
      whole =
          let z : most - 0 ≡ most = omega arith in
          rw z;
    }

module _ (s : List ℕ) (at most : ℕ) (before buf : List ℕ) (count next : ℕ) (l : Reading s at most before buf count next) where
  pub more : (v after : ℕ) → count < most → NumberAt s next (Some (Spaced v after)) → Reading s at most before (set buf count v) (count + 1) after
  more v after h n =
      let room : count < length buf = omega arith in
      record {
        few = omega arith;
        room = rw (length-set buf count v) l.room;
        kept = rw (length-set buf count v) l.kept;
        meaning =
            l.meaning ∙ row-spaced (take count buf) (drop next s) (drop after s) most count v h (sym n.meaning)
            ∙ rw (add-one count, take-suc-set buf count v room);
        small = below_set (λ x. x < 10 ^ 10) buf count v room l.small n.place.small;
        rest = rest-set before buf count v l.rest;
        whole = l.whole ∙ left-spaced buf (drop next s) (drop after s) most count v h (sym n.meaning);
      }

  pub last : (v after : ℕ) → count < most → NumberAt s next (Some (Ended v after)) → RowRead s at most before (set buf count v) (count + 1) after
  last v after h n =
      let room : count < length buf = omega arith in
      record {
        meaning =
            l.meaning ∙ row-ended (take count buf) (drop next s) (drop after s) most count v h (sym n.meaning)
            ∙ rw (add-one count, take-suc-set buf count v room);
        any = omega arith;
        few = omega arith;
        inside = n.place.inside;
        small = below_set (λ x. x < 10 ^ 10) buf count v room l.small n.place.small;
        rest = rest-set before buf count v l.rest;
      }

  pub last-left : (v after : ℕ) → count < most → NumberAt s next (Some (Ended v after)) → set buf count v ≡ sets before 0 (begun most (drop at s))
  last-left v after h n = sym (l.whole ∙ left_ended buf (drop next s) (drop after s) most count v h (sym n.meaning))

  pub bad : count < most → NumberAt s next None → row most (drop at s) ≡ none
  bad h n = l.meaning ∙ row-malformed (take count buf) (drop next s) most count h (sym n.meaning)

  pub long : most ≤ count → row most (drop at s) ≡ none
  long h = l.meaning ∙ row-long (take count buf) (drop next s) most count h

  pub bad-left : count < most → NumberAt s next None → buf ≡ sets before 0 (begun most (drop at s))
  bad-left h n = sym (l.whole ∙ left-malformed buf (drop next s) most count h (sym n.meaning))

  pub long-left : most ≤ count → buf ≡ sets before 0 (begun most (drop at s))
  long-left h = sym (l.whole ∙ left-long buf (drop next s) most count h)
