-- Start values compared with the resets, one latch after the other. Assumes nothing.
use mathlib.Core.Path.{◌≡◌, refl, sym, ap, ap₂, ◌∙◌}
use mathlib.Core.Bool.{Bool, true, false, ◌&&◌}
use mathlib.Core.List.{List, [], ◌∷◌}
use Prim.Native.Nat.{ℕ, zero, suc, ◌+◌, ◌*◌, ◌≤◌, ◌<◌}
use native.Mathlib.Omega.{arith}
use lib.ListN.{length, get_or}
use Rattle.aiger.specs.Lists.{every_below}
use Rattle.aiger.specs.Circuit.{Latch, var}
use Rattle.aiger.specs.Witness.{agrees}
use Rattle.layout.specs.Words.{word, latch_in, circuit_in}
use Rattle.layout.specs.declared.Layout.{Layout}
use Rattle.meaning.specs.Frame.{latch_at}
use Rattle.meaning.proofs.Defined.{no_latch}
use Rattle.frames.specs.Lanes.{lane, Ready}
use Rattle.frames.proofs.Facts.{latches-are, latch-place}
use Rattle.blocks.specs.Runs.{Latches}
use Rattle.blocks.proofs.Words.{agrees_one}

and-true : (b : Bool) → (b && true) ≡ b
and-true true = refl
and-true false = refl

and_assoc : (a b c : Bool) → ((a && b) && c) ≡ (a && (b && c))
and_assoc true b c = refl
and_assoc false b c = refl

-- the first number aside
below-first : (n : ℕ) (p : ℕ → Bool) → every_below (suc n) p ≡ (p 0 && every_below n (λ i. p (suc i)))
below-first zero p = sym (and-true (p 0))
below-first (suc n) p =
    ap (λ (b : Bool). b && p (suc n)) (below-first n p) ∙ and_assoc (p 0) (every_below n (λ i. p (suc i))) (p (suc n))

-- tests that agree below n
below-same : (n : ℕ) (p q : ℕ → Bool) → ((i : ℕ) → i < n → p i ≡ q i) → every_below n p ≡ every_below n q
below-same zero p q h = refl
below-same (suc n) p q h = ap₂ (λ (x y : Bool). x && y) (below-same n p q (λ i l. h i (omega arith))) (h n (omega arith))

-- the start values agree where each does
agrees-below : (ls : List Latch) (bs : List Bool) → length bs ≡ length ls
    → agrees ls bs ≡ every_below (length ls) (λ j. agrees_one (get_or ls j no_latch).lit (get_or ls j no_latch).reset (get_or bs j false))
unfolding agrees
agrees-below [] bs e = refl
agrees-below (l ∷ ls) [] e = absurd (omega arith)
agrees-below (l ∷ ls) (b ∷ bs) e =
    ap (λ (x : Bool). agrees_one l.lit l.reset b && x) (agrees-below ls bs (omega arith))
    ∙ sym (below-first (length ls) (λ j. agrees_one (get_or (l ∷ ls) j no_latch).lit (get_or (l ∷ ls) j no_latch).reset (get_or (b ∷ bs) j false)))

-- whether latch j agrees, by its words, in completion p
abbrev pub latch_agrees : List ℕ → ℕ → List ℕ → ℕ → ℕ → Bool
latch_agrees m latches values p j =
    agrees_one (word m (latches + 3 * j)) (word m (latches + 3 * j + 2)) (lane values p (var (word m (latches + 3 * j))))

pub agrees-end : {m : List ℕ} {layout : Layout} {order : List ℕ} {count : ℕ} → Ready m layout order count → (values : List ℕ) (p : ℕ) (start : List Bool)
    → Latches (circuit_in m) start (lane values p)
    → every_below layout.l (latch_agrees m layout.latches values p) ≡ agrees (circuit_in m).latches start
agrees-end {m} {layout} R values p start s =
    let ls = (circuit_in m).latches in
    below-same layout.l (latch_agrees m layout.latches values p)
    (λ j. agrees_one (get_or ls j no_latch).lit (get_or ls j no_latch).reset (get_or start j false))
    (λ j l.
    let e : latch_at (circuit_in m) j ≡ latch_in m (layout.latches + 3 * j) = latch-place R j l in
    ap (λ (x : Latch). agrees_one x.lit x.reset (lane values p (var x.lit))) (sym e)
    ∙ ap (agrees_one (latch_at (circuit_in m) j).lit (latch_at (circuit_in m) j).reset) (s.latch j (omega (arith, latches-are R))))
    ∙ ap (λ (n : ℕ). every_below n (λ j. agrees_one (get_or ls j no_latch).lit (get_or ls j no_latch).reset (get_or start j false))) (latches-are R)
    ∙ sym (agrees-below ls start s.size)
