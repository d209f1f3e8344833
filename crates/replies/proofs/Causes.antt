-- The words of the causes: how long they are, that no other number has one, and how they are cut from one text. Assumes nothing.
use mathlib.Core.Path.{◌≡◌, refl, sym}
use mathlib.Core.Bool.{Bool, true, ◌&&◌}
use mathlib.Core.List.{List, [], ◌∷◌, ◌++◌}
use Prim.Native.Nat.{ℕ, zero, suc, ◌+◌, ◌-◌, ◌≤◌, ◌<◌}
use native.Mathlib.Omega.{arith}
use lib.Dec.{T, leb, leb→le}
use lib.ListN.{length, get_or, take, drop}
use Rattle.aiger.specs.Lists.{every}
use Rattle.aiger.proofs.Tests.{and_left, and_right}
use Rattle.output.specs.Output.{Placed}
use Rattle.output.proofs.Output.{put-nil}
use Rattle.replies.specs.Refusal.{causes, cause}

short : (xs : List (List ℕ)) (n : ℕ) → T (every (λ w. leb (length w) 80) xs) → length (get_or xs n []) ≤ 80
short [] n h = omega arith
short (x ∷ xs) zero h = leb→le (length x) 80 (and_left (leb (length x) 80) (every (λ w. leb (length w) 80) xs) h)
short (x ∷ xs) (suc n) h = short xs n (and_right (leb (length x) 80) (every (λ w. leb (length w) 80) xs) h)

pub cause-short : (n : ℕ) → length (cause n) ≤ 80
unfolding cause
cause-short n = short causes n tt

past : (xs : List (List ℕ)) (n : ℕ) → length xs ≤ n → get_or xs n [] ≡ []
past [] n h = refl
past (x ∷ xs) zero h = absurd (omega arith)
past (x ∷ xs) (suc n) h = past xs n (omega arith)

-- numbers above 21 have no cause
pub no_words : (line : List ℕ) (at n : ℕ) → 21 < n → Placed line at (cause n) at line
unfolding cause
no_words line at n h = rw (past causes n (omega arith)) (record { past = omega arith; contents = sym (put-nil line at) })

-- a text cut at rising places, the first of which is `from`
abbrev pub cut : ℕ → List ℕ → List ℕ → List (List ℕ)
cut from [] text = []
cut from (to ∷ places) text = take (to - from) (drop from text) ∷ cut to places text

abbrev pub rising : ℕ → List ℕ → List ℕ → Bool
rising from [] text = true
rising from (to ∷ places) text = leb from to && (leb to (length text) && rising to places text)

pub record Part (from : ℕ) (places text : List ℕ) (n : ℕ) : Type 0 where
  pub forward : get_or (from ∷ places) n 0 ≤ get_or places n 0
  pub inside : get_or places n 0 ≤ length text
  pub contents : take (get_or places n 0 - get_or (from ∷ places) n 0) (drop (get_or (from ∷ places) n 0) text) ≡ get_or (cut from places text) n []

pub part : (from : ℕ) (places text : List ℕ) (n : ℕ) → T (rising from places text) → n < length places → Part from places text n
part from [] text n r h = absurd (omega arith)
part from (to ∷ places) text zero r h =
    let s = and_right (leb from to) (leb to (length text) && rising to places text) r in
    record {
      forward = leb→le from to (and_left (leb from to) (leb to (length text) && rising to places text) r);
      inside = leb→le to (length text) (and_left (leb to (length text)) (rising to places text) s);
      contents = refl;
    }
part from (to ∷ places) text (suc n) r h =
    let s = and_right (leb from to) (leb to (length text) && rising to places text) r in
    let p = part to places text n (and_right (leb to (length text)) (rising to places text) s) (omega arith) in
    record { forward = p.forward; inside = p.inside; contents = p.contents }

-- the words of all causes, one after another, and where each ends
abbrev pub joined : List (List ℕ) → List ℕ
joined [] = []
joined (x ∷ xs) = x ++ joined xs

abbrev pub ends : ℕ → List (List ℕ) → List ℕ
ends from [] = []
ends from (x ∷ xs) = (from + length x) ∷ ends (from + length x) xs

-- cause n is cut from them at these places
pub cause-part : (n : ℕ) → n ≤ 21 → Part 0 (ends 0 causes) (joined causes) n
cause-part n h = part 0 (ends 0 causes) (joined causes) n tt (omega arith)

pub cause-words : (n : ℕ) → n ≤ 21
    → (let p = ends 0 causes in take (get_or p n 0 - get_or (0 ∷ p) n 0) (drop (get_or (0 ∷ p) n 0) (joined causes)) ≡ cause n)
unfolding cause
cause-words n h = (cause-part n h).contents
