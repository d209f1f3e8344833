-- Laws of storing a circuit's words: a copy of the content, and zeros after it. Assumes nothing.
use mathlib.Core.Path.{◌≡◌, refl, sym, ap, ◌∙◌}
use mathlib.Core.List.{List, [], ◌∷◌, ◌++◌, append_assoc, append-nil}
use Prim.Native.Nat.{ℕ, zero, suc, ◌+◌, ◌-◌, ◌≤◌, ◌<◌}
use native.Mathlib.Numerals.{add-one}
use native.Mathlib.Omega.{arith}
use lib.ListN.{length, get_or, take, drop, set, replicate, take-append-drop, length-append, length-replicate, replicate-append-replicate}
use lib.Seq.{set_at, drop-cons, drop-drop, drop-append-add, length-take-le, take_at, append_snoc}
use Rattle.aiger.specs.Load.{needed}
use Rattle.aiger.specs.Memory.{image}
use Rattle.aiger.specs.Operations.{front}
use Rattle.layout.specs.Words.{word, content_end, circuit_in}
use Rattle.roundtrip.proofs.Content.{content-length, content-of-words}
use Rattle.layout.specs.Layout.{Counted}

-- the first i words are copied
abbrev pub copied : List ℕ → List ℕ → ℕ → List ℕ
copied w d i = take i w ++ drop i d

copy-one : (w d : List ℕ) (i : ℕ) → i < length w → i < length d → set (copied w d i) i (get_or w i 0) ≡ copied w d (suc i)
copy-one [] d i a b = absurd (omega arith)
copy-one (x ∷ w) [] i a b = absurd (omega arith)
copy-one (x ∷ w) (y ∷ d) zero a b = refl
copy-one (x ∷ w) (y ∷ d) (suc i) a b = ap (λ (l : List ℕ). x ∷ l) (copy-one w d i (omega arith) (omega arith))

-- one word more
pub copy_more : (w d : List ℕ) {m : List ℕ} (i : ℕ) → m ≡ copied w d i → i < length w → i < length d → set m i (get_or w i 0) ≡ copied w d (i + 1)
copy_more w d i e a b =
    ap (λ (m : List ℕ). set m i (get_or w i 0)) e ∙ copy-one w d i a b ∙ ap (copied w d) (sym (add-one i))

pub copy_done : (w d : List ℕ) {m : List ℕ} {i n : ℕ} → m ≡ copied w d i → i ≤ n → n ≤ i → m ≡ copied w d n
copy_done w d {m} {i} {n} e a b = let h : i ≡ n = omega arith in e ∙ ap (copied w d) h

-- the words from a up to i are 0
abbrev pub cleared : List ℕ → ℕ → ℕ → List ℕ
cleared d a i = take a d ++ replicate (i - a) 0 ++ drop i d

head-length : (d : List ℕ) (a i : ℕ) → a ≤ i → i ≤ length d → length (take a d ++ replicate (i - a) 0) ≡ i
head-length d a i h l =
    length-append (take a d) (replicate (i - a) 0)
    ∙ omega (arith, length-take-le a d (omega arith), length-replicate {A = ℕ} (i - a) 0)

pub clear_none : (d : List ℕ) (a : ℕ) → d ≡ cleared d a a
clear_none d a =
    let z : a - a ≡ 0 = omega arith in
    sym (rw (z, append-nil (take a d)) (take-append-drop a d))

clear-one : (d : List ℕ) (a i : ℕ) → a ≤ i → i < length d → set (cleared d a i) i 0 ≡ cleared d a (i + 1)
clear-one d a i h l =
    let k = i - a in
    let p : List ℕ = take a d ++ replicate k 0 in
    let n : i + 1 - a ≡ k + 1 = omega arith in
    ap (λ (r : List ℕ). set (p ++ r) i 0) (drop-cons d i 0 l)
    ∙ set_at p (get_or d i 0) (drop (suc i) d) 0 i (head-length d a i h (omega arith))
    ∙ sym (append_snoc p 0 (drop (suc i) d))
    ∙ ap (λ (r : List ℕ). r ++ drop (suc i) d) (append_assoc (take a d) (replicate k 0) (0 ∷ []) ∙ ap (λ (r : List ℕ). take a d ++ r) (replicate-append-replicate k 1 0))
    ∙ ap (λ (r : List ℕ). r ++ drop (suc i) d) (ap (λ (j : ℕ). take a d ++ replicate j 0) (sym n))
    ∙ ap (λ (j : ℕ). take a d ++ replicate (i + 1 - a) 0 ++ drop j d) (sym (add-one i))

-- one word more
pub clear-more : (d : List ℕ) {m : List ℕ} (a i : ℕ) → m ≡ cleared d a i → a ≤ i → i < length d → set m i 0 ≡ cleared d a (i + 1)
clear-more d a i e h l = ap (λ (m : List ℕ). set m i 0) e ∙ clear-one d a i h l

pub clear-done : (d : List ℕ) {m : List ℕ} (a : ℕ) {i n : ℕ} → m ≡ cleared d a i → i ≤ n → n ≤ i → m ≡ cleared d a n
clear-done d {m} a {i} {n} e h l = let k : i ≡ n = omega arith in e ∙ ap (cleared d a) k

-- the words of the circuit that w says, and zeros
pub image-words : {w : List ℕ} → Counted w
    → image (circuit_in w) ≡ take (content_end w) w ++ replicate (needed (word w 0) - content_end w) 0
unfolding image circuit_in
image-words {w} k = rw (content-length w, content-of-words w k.held)

-- the content has room in the needed words
pub content-fits : {w : List ℕ} → Counted w → content_end w ≤ needed (word w 0)
content-fits k = omega arith

-- a copy of the content, and zeros up to the needed words, store the circuit
pub stored : (w m : List ℕ) {m₁ m₂ : List ℕ} (e n : ℕ) → Counted w → e ≡ content_end w → n ≡ needed (word w 0) → n ≤ length m
    → m₁ ≡ copied w m e → m₂ ≡ cleared m₁ e n → m₂ ≡ front (image (circuit_in w)) m
stored w m e n k p q l c z =
    let a : e ≤ length w = omega (arith, k.held) in
    let b : e ≤ n = omega (arith, content-fits k) in
    let size : length (take e w) ≡ e = length-take-le e w a in
    let whole : image (circuit_in w) ≡ take e w ++ replicate (n - e) 0 = rw (p, q) (image-words k) in
    let many : length (image (circuit_in w)) ≡ n =
    ap length whole ∙ length-append (take e w) (replicate (n - e) 0) ∙ omega (arith, length-replicate {A = ℕ} (n - e) 0) in
    let there : n ≡ length (take e w) + (n - e) = omega arith in
    let back : e + (n - e) ≡ n = omega arith in
    let tail : drop n (copied w m e) ≡ drop n m =
    ap (λ (j : ℕ). drop j (copied w m e)) there ∙ drop-append-add (take e w) (drop e m) (n - e) ∙ drop-drop (n - e) e m
    ∙ ap (λ (j : ℕ). drop j m) back in
    z ∙ ap (λ (x : List ℕ). cleared x e n) c ∙ rw (take_at (take e w) (drop e m) e size, tail, many, whole)
