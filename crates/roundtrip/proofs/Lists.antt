-- Laws of lists over any element type. Assumes nothing.
use mathlib.Core.Path.{◌≡◌, refl, sym, ap, ◌∙◌}
use mathlib.Core.Bool.{Bool, true, false, cond}
use mathlib.Core.List.{List, [], ◌∷◌, ◌++◌, map}
use Prim.Native.Nat.{ℕ, zero, suc, ◌+◌, ◌-◌, ◌≤◌, ◌<◌}
use native.Mathlib.Nat.{zero-add, add-zero}
use native.Mathlib.Numerals.{add-one}
use native.Mathlib.Omega.{arith}
use lib.Dec.{T}
use lib.ListN.{length, get_or, take, drop, replicate, length-map, length-drop, length-replicate, get_or-replicate}
use lib.Seq.{take_all, drop-drop, drop-append_seam, take-add, length-take-le, get_or-take, get_or-drop, get_or-append-add, ext_get_or}
use Rattle.aiger.specs.Lists.{every, from, upto}
use Rattle.aiger.proofs.Tests.{and, and_left, and_right}
pub use Rattle.meaning.proofs.Lists.{every-both as every_append, length_from as from-length, length-map-upto as upto-length, get_d-map-upto as upto-get}

-- what f makes of anything passes
pub every_made : {A B : Type 0} (p : B → Bool) (f : A → B) → ((x : A) → T (p (f x))) → (xs : List A) → T (every p (map f xs))
every_made p f k [] = tt
every_made p f k (x ∷ xs) = and (p (f x)) (every p (map f xs)) (k x) (every_made p f k xs)

-- either way as many elements
pub cond-length : {A : Type 0} (b : Bool) (u v : List A) (n : ℕ) → length u ≡ n → length v ≡ n → length (cond b u v) ≡ n
cond-length true u v n e f = e
cond-length false u v n e f = f

-- the part of a list from a position up to its end
pub take_rest : {A : Type 0} (l : List A) (i : ℕ) → take (length l - i) (drop i l) ≡ drop i l
take_rest l i = take_all (length l - i) (drop i l) (omega (arith, length-drop i l))

-- the place past a list that stands at p
pub drop_past : {A : Type 0} (m : List A) (p : ℕ) (xs r : List A) → drop p m ≡ xs ++ r → drop (p + length xs) m ≡ r
drop_past m p xs r e = sym (drop-drop (length xs) p m) ∙ ap (drop (length xs)) e ∙ drop-append_seam xs r

-- the first element of a list that stands at p
pub get_d_front : {A : Type 0} (m : List A) (p : ℕ) (x d : A) (r : List A) → drop p m ≡ x ∷ r → get_or m p d ≡ x
get_d_front {A} m p x d r e = ap (λ (i : ℕ). get_or m i d) (sym (add-zero p)) ∙ sym (get_or-drop p m 0 d) ∙ ap (λ (w : List A). get_or w 0 d) e

-- the place past one element
pub drop-suc : {A : Type 0} (m : List A) (p : ℕ) (x : A) (r : List A) → drop p m ≡ x ∷ r → drop (suc p) m ≡ r
drop-suc m p x r e = rw (← add-one p) (drop_past m p (x ∷ []) r e)

module _ {A : Type 0} (d : A) (m : List A) (e n : ℕ) (h : e ≤ n) (l : n ≤ length m) where
  -- a list with d at the places from e to n is its first e elements, and d as often, up to place n
  pub padded-in : ((i : ℕ) → e ≤ i → i < n → get_or m i d ≡ d) → take n m ≡ take e m ++ replicate (n - e) d
  padded-in z =
      let k = n - e in
      let same : n ≡ e + k = omega arith in
      let size : length (take k (drop e m)) ≡ k = length-take-le k (drop e m) (omega (arith, length-drop e m)) in
      ap (λ (j : ℕ). take j m) same ∙ take-add e k m
      ∙ ap (λ (w : List A). take e m ++ w) (ext_get_or d (take k (drop e m)) (replicate k d) (size ∙ sym (length-replicate k d))
      (λ i b. let b' : i < k = omega arith in
      get_or-take k (drop e m) i d b' ∙ get_or-drop e m i d ∙ z (e + i) (omega arith) (omega arith) ∙ sym (get_or-replicate k i d d b')))

  -- and the other way round
  pub padded-out : take n m ≡ take e m ++ replicate (n - e) d → (i : ℕ) → e ≤ i → i < n → get_or m i d ≡ d
  padded-out q i a b =
      let size : length (take e m) ≡ e = length-take-le e m (omega arith) in
      let same : i ≡ length (take e m) + (i - e) = omega arith in
      sym (get_or-take n m i d b) ∙ ap (λ (w : List A). get_or w i d) q ∙ ap (λ (j : ℕ). get_or (take e m ++ replicate (n - e) d) j d) same
      ∙ get_or-append-add (take e m) (replicate (n - e) d) (i - e) d ∙ get_or-replicate (n - e) (i - e) d d (omega arith)
