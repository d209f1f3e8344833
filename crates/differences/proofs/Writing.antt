-- The groups of a difference, one after the other, and that what is written is read back. Assumes nothing.
use mathlib.Core.Path.{◌≡◌, refl, sym, ap, ◌∙◌}
use mathlib.Core.List.{List, [], ◌∷◌, ◌++◌, append_assoc, append-nil}
use mathlib.Core.Option.{some}
use Prim.Native.Nat.{ℕ, zero, suc, ◌+◌, ◌-◌, ◌*◌, ◌/◌, ◌%◌, ◌^◌, ◌≤◌, ◌<◌}
use native.Mathlib.Decide.{dec_lt}
use native.Mathlib.Nat.{pow-suc}
use native.Mathlib.Numerals.{add-one}
use native.Mathlib.Omega.{arith}
use borrow.Author.Tests.{lt-ltb, le-ltb}
use lib.ListN.{length, get_or, take, drop, set, length-append}
use lib.Seq.{set_at, drop-cons, length-take-le, append_snoc}
use Rattle.aiger.specs.Binary.{groups, difference, grouped, difference_text}

-- ---- one group

pub one : (k n : ℕ) → n < 128 → grouped k n ≡ n ∷ []
unfolding grouped
one zero n h = refl
one (suc k) n h = rw (lt-ltb n 128 h)

pub another : (k n : ℕ) → 127 < n → grouped (suc k) n ≡ (128 + n % 128) ∷ grouped k (n / 128)
unfolding grouped
another k n h = rw (le-ltb n 128 h)

-- n needs k + 1 groups at most
pub fits_more : (k n : ℕ) → n < 128 ^ suc (suc k) → n / 128 < 128 ^ suc k
fits_more k n h = omega (arith, pow-suc 128 (suc k))

-- ---- read back

read_one : (k n : ℕ) (f : List ℕ) → n < 128 → groups (suc k) (grouped k n ++ f) ≡ some (n, f)
unfolding groups
read_one k n f l = rw (one k n l) (rw (lt-ltb n 128 l))

read_more : (k n : ℕ) (f : List ℕ) → 127 < n → groups (suc k) (grouped k (n / 128) ++ f) ≡ some (n / 128, f)
    → groups (suc (suc k)) (grouped (suc k) n ++ f) ≡ some (n, f)
unfolding groups
read_more k n f l r =
    let b : 128 ≤ 128 + n % 128 = omega arith in
    let e : (128 + n % 128 - 128) + 128 * (n / 128) ≡ n = omega arith in
    rw (another k n l) (rw (le-ltb (128 + n % 128) 128 b) (rw r (ap (λ (v : ℕ). some (v, f)) e)))

pub read_back : (k n : ℕ) (f : List ℕ) → n < 128 ^ suc k → groups (suc k) (grouped k n ++ f) ≡ some (n, f)
read_back zero n f h = read_one 0 n f h
read_back (suc k) n f h =
    elim (dec_lt n 128) [
      | yes l ↦ read_one (suc k) n f l
      | no l ↦ read_more k n f (omega arith) (read_back k (n / 128) f (fits_more k n h))
    ]

-- a difference that was written, read
pub difference-back : (n : ℕ) (f : List ℕ) → n < 2 ^ 32 → difference (difference_text n ++ f) ≡ some (n, f)
unfolding difference
difference-back n f h = rw (read_back 4 n f (omega arith)) (rw (lt-ltb n (2 ^ 32) h))

-- ---- how many groups

pub record Counting (n count rest : ℕ) : Type 0 where
  pub some-group : 1 ≤ count
  pub few : count ≤ 5
  pub small : rest < 128 ^ (6 - count)
  pub total : count + length (grouped (5 - count) rest) ≡ 1 + length (difference_text n)

pub count-start : (n : ℕ) → n < 2 ^ 32 → Counting n 1 n
count-start n h = record { some-group = omega arith; few = omega arith; small = omega arith; total = refl }

module _ {n count rest : ℕ} (g : Counting n count rest) where
  room-left : 127 < rest → count < 5
  room-left l = elim (dec_lt count 5) [ yes k ↦ k | no k ↦ last (omega (arith, g.few)) ]
    where
      last : count ≡ 5 → count < 5
      last e =
          let p : 6 - count ≡ 1 = omega arith in
          let q : rest < 128 = rw p at g.small in
          absurd (omega arith)

  pub count-more : 127 < rest → Counting n (count + 1) (rest / 128)
  count-more l =
      let r = room-left l in
      let a : 5 - count ≡ suc (5 - (count + 1)) = omega arith in
      let b : 6 - count ≡ suc (suc (4 - count)) = omega arith in
      let d : 6 - (count + 1) ≡ suc (4 - count) = omega arith in
      let s : rest < 128 ^ suc (suc (4 - count)) = rw b at g.small in
      let t = ap (λ (k : ℕ). length (grouped k rest)) a ∙ ap length (another (5 - (count + 1)) rest l) in
      record {
        some-group = omega arith;
        few = omega arith;
        small = rw d (fits_more (4 - count) rest s);
        total = omega (arith, g.total, t);
      }

  pub count-done : rest ≤ 127 → count ≡ length (difference_text n)
  count-done l = omega (arith, g.total, ap length (one (5 - count) rest (omega arith)))

-- ---- the groups written

-- w stands at `at`, and rest in k + 1 groups at most is left
pub record Written (old : List ℕ) (at n : ℕ) (out : List ℕ) (end rest : ℕ) : Type 0 where
  pub w : List ℕ
  pub k : ℕ
  pub small : rest < 128 ^ suc k
  pub text : w ++ grouped k rest ≡ difference_text n
  pub past : end ≡ at + length w
  pub contents : out ≡ take at old ++ w ++ drop end old

pub write-start : (old : List ℕ) (at n : ℕ) → n < 2 ^ 32 → old ≡ take at old ++ drop at old → Written old at n old at n
write-start old at n h e =
    record {
      w = [];
      k = 4;
      small = omega arith;
      text = refl;
      past = omega arith;
      contents = e ∙ ap (λ (r : List ℕ). r ++ drop at old) (sym (append-nil (take at old)));
    }

-- one byte more
put_one : (old : List ℕ) (at : ℕ) (w : List ℕ) (end v : ℕ) → end ≡ at + length w → end < length old
    → set ((take at old ++ w) ++ drop end old) end v ≡ (take at old ++ (w ++ (v ∷ []))) ++ drop (end + 1) old
put_one old at w end v e h =
    let p : List ℕ = take at old ++ w in
    let size : length p ≡ end = length-append (take at old) w ∙ omega (arith, length-take-le at old (omega arith)) in
    ap (λ (r : List ℕ). set (p ++ r) end v) (drop-cons old end 0 h)
    ∙ set_at p (get_or old end 0) (drop (suc end) old) v end size
    ∙ sym (append_snoc p v (drop (suc end) old))
    ∙ ap (λ (r : List ℕ). r ++ drop (suc end) old) (append_assoc (take at old) w (v ∷ []))
    ∙ ap (λ (j : ℕ). (take at old ++ (w ++ (v ∷ []))) ++ drop j old) (sym (add-one end))

module _ {old : List ℕ} {at n : ℕ} {out : List ℕ} {end rest : ℕ} (g : Written old at n out end rest)
    (room : at + length (difference_text n) ≤ length old) where
  left-length : length g.w + length (grouped g.k rest) ≡ length (difference_text n)
  left-length = sym (length-append g.w (grouped g.k rest)) ∙ ap length g.text

  some_more : (k n : ℕ) → 1 ≤ length (grouped k n)
  unfolding grouped
  some_more zero n = omega arith
  some_more (suc k) n = elim (dec_lt n 128) [ yes l ↦ rw (lt-ltb n 128 l) (omega arith) | no l ↦ rw (le-ltb n 128 (omega arith)) (omega arith) ]

  pub inside : end < length old
  inside = omega (arith, g.past, left-length, some_more g.k rest)

  several : 127 < rest → 0 < g.k
  several l = go g.k g.small
    where
      go : (k : ℕ) → rest < 128 ^ suc k → 0 < k
      go zero s = absurd (omega arith)
      go (suc k) s = omega arith

  pub write-more : 127 < rest → (v : ℕ) → v ≡ 128 + rest % 128 → Written old at n (set out end v) (end + 1) (rest / 128)
  write-more l v e =
      let k : ℕ = g.k - 1 in
      let q : g.k ≡ suc k = omega (arith, several l) in
      let s : rest < 128 ^ suc (suc k) = rw q at g.small in
      record {
        w = g.w ++ (v ∷ []);
        k = k;
        small = fits_more k rest s;
        text = append_snoc g.w v (grouped k (rest / 128))
            ∙ ap (λ (x : List ℕ). g.w ++ x) (rw e (sym (another k rest l)) ∙ ap (λ (j : ℕ). grouped j rest) (sym q)) ∙ g.text;
        past = omega (arith, g.past, length-append g.w (v ∷ []));
        contents = ap (λ (x : List ℕ). set x end v) g.contents ∙ put_one old at g.w end v g.past inside;
      }

  pub write_done : rest ≤ 127 → (v : ℕ) → v ≡ rest
      → (end + 1 ≡ at + length (difference_text n))
      × (set out end v ≡ take at old ++ difference_text n ++ drop (at + length (difference_text n)) old)
  write_done l v e =
      let t : g.w ++ (v ∷ []) ≡ difference_text n =
      ap (λ (x : List ℕ). g.w ++ x) (rw e (sym (one g.k rest (omega arith)))) ∙ g.text in
      let p : end + 1 ≡ at + length (difference_text n) = omega (arith, g.past, length-append g.w (v ∷ []), ap length t) in
      (p, ap (λ (x : List ℕ). set x end v) g.contents ∙ put_one old at g.w end v g.past inside ∙ rw (t, p))
