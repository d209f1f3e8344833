-- Laws of an output that a text is written to, part after part. Assumes nothing.
use mathlib.Core.Path.{◌≡◌, refl, sym, ap, ◌∙◌}
use mathlib.Core.List.{List, [], ◌∷◌, ◌++◌, append_assoc, append-nil}
use Prim.Native.Nat.{ℕ, suc, ◌+◌, ◌-◌, ◌^◌, ◌≤◌, ◌<◌}
use native.Mathlib.Nat.{add-zero, zero-add}
use native.Mathlib.Numerals.{add-one}
use native.Mathlib.Omega.{arith}
use lib.ListN.{length, take, drop, set, take-append-drop, length-append, length-take, length-drop, drop_of_length-le}
use lib.Seq.{length-take-le, drop-drop, take_all, take_at, drop-append-add, set_split}
use borrow.Rule.Slice.PartMut.{put_mid}
use Rattle.aiger.specs.Operations.{front}
use Rattle.aiger.specs.Text.{long_digits}
use Rattle.numbers.specs.Last.{last_digits}
use Rattle.numbers.proofs.Digits.{digits_last}
use Rattle.output.specs.Output.{put_text, Room, Placed}

module _ (out : List ℕ) (at : ℕ) where
  -- nothing written
  pub put-nil : put_text out at [] ≡ out
  unfolding put_text
  put-nil = rw (add-zero at, append-nil (take at out)) (take-append-drop at out)

  -- one byte stored
  pub put_byte : (b : ℕ) → at < length out → set out at b ≡ put_text out at (b ∷ [])
  unfolding put_text
  put_byte b h = set_split out at b h ∙ rw (add-one at) (sym (append_assoc (take at out) (b ∷ []) (drop (suc at) out)))

  module _ (u : List ℕ) (h : Room out at u) where
    head-length : length (take at out ++ u) ≡ at + length u
    head-length = length-append (take at out) u ∙ omega (arith, length-take-le at out (omega arith))

    -- an output keeps its length
    pub put-length : length (put_text out at u) ≡ length out
    unfolding put_text
    put-length =
        length-append (take at out ++ u) (drop (at + length u) out) ∙ omega (arith, head-length, length-drop (at + length u) out)

    -- two parts, one after the other
    pub put-put : (v : List ℕ) → put_text (put_text out at u) (at + length u) v ≡ put_text out at (u ++ v)
    unfolding put_text
    put-put v =
        let w = take at out ++ u in
        let n = at + length u in
        let r = drop n out in
        let t : take n (w ++ r) ≡ w = take_at w r n head-length in
        let d : drop (n + length v) (w ++ r) ≡ drop (n + length v) out =
        ap (λ (k : ℕ). drop (k + length v) (w ++ r)) (sym head-length) ∙ drop-append-add w r (length v) ∙ drop-drop (length v) n out in
        let e : at + length (u ++ v) ≡ n + length v = omega (arith, length-append u v) in
        rw (t, d, e, ← append_assoc (take at out) u v)

-- a text at the front
pub put_front : (out text : List ℕ) → put_text out 0 text ≡ front text out
unfolding put_text
put_front out text = rw (zero-add (length text))

-- ---- a part of an output that a callee has written

-- the part from `at` on that has the text's length holds the text
part-put : (out part text : List ℕ) (at n : ℕ) → n ≡ length text → part ≡ text → put_mid at (at + n - at) out part ≡ put_text out at text
unfolding put_text
part-put out part text at n e q =
    let k : at + n - at ≡ n = omega arith in
    rw (q, k, drop-drop n at out, e) (sym (append_assoc (take at out) text (drop (at + length text) out)))

-- a text is copied to it
pub copied : (out text part : List ℕ) (at : ℕ)
    → part ≡ take (length text) text ++ drop (length text) (take (at + length text - at) (drop at out))
    → put_mid at (at + length text - at) out part ≡ put_text out at text
copied out text part at e =
    let n = length text in
    let k : at + n - at ≡ n = omega arith in
    let d = take n (drop at out) in
    let z : drop n d ≡ [] = drop_of_length-le d {i = n} (omega (arith, length-take n (drop at out))) in
    part-put out part text at n refl (rw k at e ∙ rw (z, take_all n text (omega arith)) (append-nil text))

-- a text is copied to a part of its length
pub copied_whole : (out text part : List ℕ) (at : ℕ) → part ≡ text → put_mid at (at + length text - at) out part ≡ put_text out at text
copied_whole out text part at e = part-put out part text at (length text) refl e

-- it is filled with the last digits of n, as many as n has
pub filled : (out part : List ℕ) (at n count : ℕ) → n < 10 ^ 20 → count ≡ length (long_digits n) → at + count ≤ length out
    → part ≡ last_digits (length (take (at + count - at) (drop at out))) n
    → put_mid at (at + count - at) out part ≡ put_text out at (long_digits n)
filled out part at n count small c room e =
    let k : at + count - at ≡ count = omega arith in
    let m : length (take count (drop at out)) ≡ count = length-take-le count (drop at out) (omega (arith, length-drop at out)) in
    part-put out part (long_digits n) at count c (e ∙ rw (k, m, c) (digits_last n small))

-- ---- one text after the other

-- nothing is written
pub placed-none : (out : List ℕ) (at : ℕ) → Placed out at [] at out
placed-none out at = record { past = omega arith; contents = sym (put-nil out at) }

module _ {out : List ℕ} {at : ℕ} {u : List ℕ} {end : ℕ} {out' : List ℕ} (h : Room out at u) (p : Placed out at u end out') where
  -- an output keeps its length
  pub placed-length : length out' ≡ length out
  placed-length = ap length p.contents ∙ put-length out at u h

  -- one text more
  pub placed-more : {v : List ℕ} {end' : ℕ} {out'' : List ℕ} → Placed out' end v end' out'' → Placed out at (u ++ v) end' out''
  placed-more {v} q =
      record {
        past = omega (arith, p.past, q.past, length-append u v);
        contents = q.contents ∙ rw (p.contents, p.past) (put-put out at u h v);
      }

-- two texts
module _ (out : List ℕ) (at : ℕ) (u v : List ℕ) (room : Room out at (u ++ v)) where
  pub room-first : Room out at u
  room-first = omega (arith, length-append u v)

  module _ {end : ℕ} {out' : List ℕ} (p : Placed out at u end out') where
    pub room-second : Room out' end v
    room-second = omega (arith, length-append u v, p.past, placed-length room-first p)

    pub placed-two : {end' : ℕ} {out'' : List ℕ} → Placed out' end v end' out'' → Placed out at (u ++ v) end' out''
    placed-two q = placed-more room-first p q

-- one byte is stored
pub placed-byte : (out : List ℕ) (at b : ℕ) → at < length out → Placed out at (b ∷ []) (at + 1) (set out at b)
placed-byte out at b h = record { past = refl; contents = put_byte out at b h }

-- the text is written but for its rest, which is to stand at `end`
pub record Rest (out : List ℕ) (at : ℕ) (text out' : List ℕ) (end : ℕ) (rest : List ℕ) : Type 0 where
  pub ends : end + length rest ≡ at + length text
  pub kept : length out' ≡ length out
  pub contents : put_text out' end rest ≡ put_text out at text

-- all is left
pub rest-start : (out : List ℕ) (at : ℕ) (text : List ℕ) → Rest out at text out at text
rest-start out at text = record { ends = refl; kept = refl; contents = refl }

module _ {out : List ℕ} {at : ℕ} {text out₁ : List ℕ} {e₁ : ℕ} where
  -- there is room for the first part of the rest
  pub rest-room : (u v : List ℕ) → Room out at text → Rest out at text out₁ e₁ (u ++ v) → Room out₁ e₁ u
  rest-room u v h r = omega (arith, r.ends, r.kept, length-append u v)

  -- one part more
  pub rest_more : {out₂ : List ℕ} {e₂ : ℕ} (u v : List ℕ) → Room out at text → Rest out at text out₁ e₁ (u ++ v) → Placed out₁ e₁ u e₂ out₂
      → Rest out at text out₂ e₂ v
  rest_more {out₂} {e₂} u v h r p =
      let room = rest-room u v h r in
      record {
        ends = omega (arith, p.past, r.ends, length-append u v);
        kept = ap length p.contents ∙ put-length out₁ e₁ u room ∙ r.kept;
        contents = rw (p.contents, p.past) (put-put out₁ e₁ u room v ∙ r.contents);
      }

  -- nothing is left
  pub rest_end : Rest out at text out₁ e₁ [] → Placed out at text e₁ out₁
  rest_end r = record { past = omega (arith, r.ends); contents = sym (put-nil out₁ e₁) ∙ r.contents }

-- the rest is one part: there is room for it, and it is written
module _ {out : List ℕ} {at : ℕ} {text out₁ : List ℕ} {e₁ : ℕ} (u : List ℕ) (h : Room out at text) (r : Rest out at text out₁ e₁ u) where
  pub last-room : Room out₁ e₁ u
  last-room = omega (arith, r.ends, r.kept)

  pub last-placed : {out₂ : List ℕ} {e₂ : ℕ} → Placed out₁ e₁ u e₂ out₂ → Placed out at text e₂ out₂
  last-placed p = record { past = omega (arith, p.past, r.ends); contents = p.contents ∙ r.contents }
