-- Writing bytes at a position of a text, one piece after the other. Assumes nothing.
use mathlib.Core.Path.{◌≡◌, refl, sym, ap, ◌∙◌}
use mathlib.Core.List.{List, [], ◌∷◌, ◌++◌, append_assoc, append-nil}
use Prim.Native.Nat.{ℕ, ◌+◌, ◌-◌, ◌≤◌, ◌<◌}
use native.Mathlib.Nat.{zero-add, add-zero, add_assoc}
use native.Mathlib.Numerals.{add-one}
use native.Mathlib.Omega.{arith}
use lib.ListN.{length, take, drop, set, length-append, length-drop, take-append-drop, drop_of_length-le}
use lib.Seq.{set_split, append_snoc, length-take-le, take_all, take_at, drop_at, drop-drop}
use borrow.Rule.Slice.PartMut.{put_mid}
use Rattle.aiger.specs.Operations.{front}

-- a text after the bytes w are written at `at`
unfoldable pub put : List ℕ → ℕ → List ℕ → List ℕ
put out at w = take at out ++ w ++ drop (at + length w) out

pub put_is : (out : List ℕ) (at : ℕ) (w : List ℕ) → take at out ++ w ++ drop (at + length w) out ≡ put out at w
unfolding put
put_is out at w = refl

-- bytes at position 0 stand at the front
pub put_front : (out w : List ℕ) → put out 0 w ≡ front w out
unfolding put
put_front out w = rw (zero-add (length w))

-- no bytes change nothing
pub put-none : (out : List ℕ) (at : ℕ) → put out at [] ≡ out
unfolding put
put-none out at = rw (append-nil (take at out), add-zero at) (take-append-drop at out)

-- one byte is a store
pub put_byte : (out : List ℕ) (at x : ℕ) → at < length out → put out at (x ∷ []) ≡ set out at x
unfolding put
put_byte out at x h = rw (add-one at) (append_snoc (take at out) x _ ∙ sym (set_split out at x h))

pub put-length : (out : List ℕ) (at : ℕ) (w : List ℕ) → at + length w ≤ length out → length (put out at w) ≡ length out
unfolding put
put-length out at w h =
    simp length-append (omega (arith, length-take-le at out (omega arith), length-drop (at + length w) out))

-- the rest of the text after the bytes are written
put_rest : (out : List ℕ) (at : ℕ) (v : List ℕ) (n : ℕ) → at + length v ≤ length out → drop (at + length v + n) (put out at v) ≡ drop (at + length v + n) out
unfolding put
put_rest out at v n h =
    let front = take at out ++ v in
    let e : length front ≡ at + length v = length-append (take at out) v ∙ omega (arith, length-take-le at out (omega arith)) in
    let k = at + length v in
    sym (drop-drop n k (front ++ drop k out)) ∙ ap (drop n) (drop_at front (drop k out) k e) ∙ drop-drop n k out

-- bytes after bytes: what two writers leave, the second where the first ended
pub put-append : (out : List ℕ) (at : ℕ) (v w : List ℕ) → at + length v ≤ length out → put (put out at v) (at + length v) w ≡ put out at (v ++ w)
unfolding put
put-append out at v w h =
    let front = take at out ++ v in
    let e : length front ≡ at + length v = length-append (take at out) v ∙ omega (arith, length-take-le at out (omega arith)) in
    let k = at + length v in
    rw (take_at front (drop k out) k e, put_rest out at v (length w) h, length-append v w, ← add_assoc at (length v) (length w), ← append_assoc (take at out) v w)

-- a store, and the bytes after it
pub put-cons : (out : List ℕ) (at x : ℕ) (w : List ℕ) → at < length out → put out at (x ∷ w) ≡ put (set out at x) (at + 1) w
put-cons out at x w h = sym (put-append out at (x ∷ []) w (omega arith)) ∙ rw (put_byte out at x h)

-- a part that starts at `at` and has bytes written to its front
pub put-part : (out : List ℕ) (at : ℕ) (w : List ℕ) → put out at w ≡ take at out ++ front w (drop at out)
unfolding put
put-part out at w = rw (drop-drop (length w) at out) (append_assoc (take at out) w (drop (at + length w) out))

-- bytes at the front, then bytes after them
pub front-append : (out v w : List ℕ) → length v ≤ length out → put (front v out) (length v) w ≡ front (v ++ w) out
front-append out v w h =
    let e : 0 + length v ≡ length v = zero-add (length v) in
    rw (← put_front out v, ← put_front out (v ++ w)) (rw e at (put-append out 0 v w (omega arith)))

pub front_length : (out w : List ℕ) → length w ≤ length out → length (front w out) ≡ length out
front_length out w h = rw (← put_front out w) (put-length out 0 w (omega arith))

-- a part that starts at `at`, up to the end, and comes back with bytes written to its front
pub part-put : (out part w : List ℕ) (at : ℕ) → at + length w ≤ length out → part ≡ front w (take (length out - at) (drop at out))
    → put_mid at (length out - at) out part ≡ put out at w
part-put out part w at h e =
    let k = length out - at in
    let a : take k (drop at out) ≡ drop at out = take_all k (drop at out) (omega (arith, length-drop at out)) in
    let z : drop k (drop at out) ≡ [] = drop_of_length-le (drop at out) {i = k} (omega (arith, length-drop at out)) in
    rw (z, e, a, append-nil (front w (drop at out))) (sym (put-part out at w))

-- the same, where the bytes before the part were written to the front
pub front-part : (out one part v w : List ℕ) (at : ℕ) → at ≡ length v → length v + length w ≤ length out → one ≡ front v out
    → part ≡ front w (take (length one - at) (drop at one)) → put_mid at (length one - at) one part ≡ front (v ++ w) out
front-part out one part v w at a h e q =
    let size : length one ≡ length out = ap length e ∙ front_length out v (omega arith) in
    part-put one part w at (omega arith) q ∙ rw (e, a) (front-append out v w (omega arith))
