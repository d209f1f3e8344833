-- Words written one section after the other at the front of a memory. Assumes nothing.
use mathlib.Core.Path.{◌≡◌, refl, sym, ap, ◌∙◌, subst}
use mathlib.Core.List.{List, [], ◌∷◌, ◌++◌, map, append_assoc}
use Prim.Native.Nat.{ℕ, zero, suc, ◌+◌, ◌-◌, ◌≤◌, ◌<◌}
use native.Mathlib.Decide.{dec_lt}
use native.Mathlib.Omega.{arith}
use lib.ListN.{length, get_or, drop, length-append, length-drop, get_or-append}
use lib.Seq.{ext_get_or, get_or-append-add, get_or-drop}
use Rattle.aiger.specs.Lists.{upto}
use Rattle.aiger.specs.Operations.{front}
use Rattle.meaning.proofs.Lists.{length-map-upto, get_d-map-upto}
use Rattle.renumber.specs.Names.{Put}

front_length : (xs m : List ℕ) → length xs ≤ length m → length (front xs m) ≡ length m
front_length xs m h = omega (arith, length-append xs (drop (length xs) m), length-drop (length xs) m)

-- a word of the front, and one past it
front-in : (xs m : List ℕ) (i : ℕ) → i < length xs → get_or (front xs m) i 0 ≡ get_or xs i 0
front-in xs m i h = get_or-append xs (drop (length xs) m) 0 i h

front_out : (xs m : List ℕ) (i : ℕ) → length xs ≤ i → get_or (front xs m) i 0 ≡ get_or m i 0
front_out xs m i h =
    let e : length xs + (i - length xs) ≡ i = omega arith in
    ap (λ (k : ℕ). get_or (front xs m) k 0) (sym e) ∙ get_or-append-add xs (drop (length xs) m) (i - length xs) 0
    ∙ get_or-drop (length xs) m (i - length xs) 0 ∙ ap (λ (k : ℕ). get_or m k 0) e

-- n words put behind the front are part of it
pub put_front : (xs m after : List ℕ) (to n : ℕ) (f : ℕ → ℕ) → to ≡ length xs → to + n ≤ length m → length after ≡ length (front xs m)
    → Put to f n (front xs m) after → after ≡ front (xs ++ map f (upto n)) m
put_front xs m after to n f e h z p =
    let ys : List ℕ = map f (upto n) in
    let k : length ys ≡ n = length-map-upto f n in
    let l : length (xs ++ ys) ≡ length xs + n = length-append xs ys ∙ ap (λ (x : ℕ). length xs + x) k in
    let s : length (front xs m) ≡ length m = front_length xs m (omega arith) in
    ext_get_or 0 after (front (xs ++ ys) m) (z ∙ s ∙ sym (front_length (xs ++ ys) m (omega arith)))
    (λ i b.
    elim (dec_lt i (length xs)) [
      | yes lt ↦
          p.others i (λ j q r. omega arith) ∙ front-in xs m i lt ∙ sym (get_or-append xs ys 0 i lt) ∙ sym (front-in (xs ++ ys) m i (omega arith))
      | no ge ↦
          elim (dec_lt i (length xs + n)) [
            | yes lt ↦
                let j = i - length xs in
                let w : to + j ≡ i = omega arith in
                let v : length xs + j ≡ i = omega arith in
                ap (λ (x : ℕ). get_or after x 0) (sym w) ∙ p.new j (omega arith) ∙ sym (get_d-map-upto f n j 0 (omega arith))
                ∙ sym (get_or-append-add xs ys j 0) ∙ ap (λ (x : ℕ). get_or (xs ++ ys) x 0) v ∙ sym (front-in (xs ++ ys) m i (omega arith))
            | no past ↦ p.others i (λ j q r. omega arith) ∙ front_out xs m i (omega arith) ∙ sym (front_out (xs ++ ys) m i (omega arith))
          ]
    ])

-- the same, where what stands before is such a front by an equation
pub next-front : (xs m before after : List ℕ) (to n : ℕ) (f : ℕ → ℕ) → before ≡ front xs m → to ≡ length xs → to + n ≤ length m → length after ≡ length before
    → Put to f n before after → after ≡ front (xs ++ map f (upto n)) m
next-front xs m before after to n f e t h z p =
    put_front xs m after to n f t h (subst (λ (l : List ℕ). length after ≡ length l) e z) (subst (λ (l : List ℕ). Put to f n l after) e p)

-- the length of a front with n words more
pub longer : (xs : List ℕ) (to n : ℕ) (f : ℕ → ℕ) → to ≡ length xs → to + n ≡ length (xs ++ map f (upto n))
longer xs to n f e = omega (arith, length-append xs (map f (upto n)), length-map-upto f n)

-- three sections behind others, as one
pub regroup : (xs us vs ws : List ℕ) → xs ++ us ++ vs ++ ws ≡ xs ++ (us ++ vs ++ ws)
regroup xs us vs ws = ap (λ (l : List ℕ). l ++ ws) (append_assoc xs us vs) ∙ append_assoc xs (us ++ vs) ws
