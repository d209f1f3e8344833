-- The sections of a circuit's memory: each literal in them is 0, 1 or of a defined variable, and the renumbered sections are those of the
-- renumbered circuit. Assumes nothing.
use mathlib.Core.Path.{◌≡◌, refl, sym, ap, ap₂, ◌∙◌, subst, subst₂}
use mathlib.Core.Bool.{Bool, ◌||◌}
use mathlib.Core.List.{List, [], ◌∷◌, ◌++◌, map}
use mathlib.Core.Logic.{◌⊎◌, ⊎_elim, inl, inr}
use Prim.Native.Nat.{ℕ, zero, suc, ◌+◌, ◌*◌, ◌/◌, ◌%◌, ◌≤◌, ◌<◌}
use native.Mathlib.Nat.{div-add-mod, mod-lt, not-suc-le-zero}
use native.Mathlib.Omega.{arith}
use lib.Dec.{T, leb, eqb, leb→le, eqb→eq}
use lib.ListN.{length, get_or}
use Rattle.aiger.specs.Lists.{upto, every}
use Rattle.aiger.specs.Circuit.{Circuit, Latch, Gate, var, literal_tests, literals_right}
use Rattle.aiger.specs.Memory.{Holds, latch_words, gate_words}
use Rattle.aiger.proofs.Tests.{all-at, or_cases}
use Rattle.layout.specs.Words.{word, latch_in, gate_in, latches_at, outputs_at, constraints_at, gates_at, circuit_in}
use Rattle.roundtrip.proofs.Lists.{upto-length, upto-get}
use Rattle.meaning.proofs.Lists.{map-upto-eq, every-at}
use Rattle.meaning.proofs.Defined.{Known, constant, input, latch, gate, no_latch, no_gate, latch_at, gate_at, next_known, output-known, constraint-known, left-known, right-known}
use Rattle.frames.proofs.Facts.{latch-count, gate-count, constraint-count, latch-word, gate-word, constraint-word, right, known}
use Rattle.joined.specs.Joined.{literal_under, latch_under, gate_under}
use Rattle.renumber.specs.Names.{under}
use Rattle.pairing.specs.Words.{renamed_words}

-- what holds of the three words of each triple holds of each word
triples : (P : ℕ → Type 0) (n : ℕ) → ((k : ℕ) → k < n → P (3 * k) × P (3 * k + 1) × P (3 * k + 2)) → (j : ℕ) → j < 3 * n → P j
triples P n h j l =
    let k = j / 3 in
    let e : 3 * k + j % 3 ≡ j = div-add-mod j 3 in
    let b : k < n = omega arith in
    go (j % 3) (mod-lt j (omega arith)) e (h k b)
  where
    go : (r : ℕ) → r < 3 → 3 * (j / 3) + r ≡ j → P (3 * (j / 3)) × P (3 * (j / 3) + 1) × P (3 * (j / 3) + 2) → P j
    go zero s e t = let z : 3 * (j / 3) ≡ j = omega arith in subst P z t.0
    go (suc zero) s e t = subst P e t.1
    go (suc (suc zero)) s e t = subst P e t.2
    go (suc (suc (suc r))) s e t = absurd (omega arith)

module _ {m : List ℕ} (h : Holds m (circuit_in m)) where
  abbrev c : Circuit
  c = circuit_in m

  -- a latch's reset is a literal of the constant or the latch's own
  reset-known : (j : ℕ) → j < length c.latches → Known c (var (latch_at c j).reset)
  unfolding literals_right
  reset-known j l =
      let t = every-at (λ (x : Latch). leb x.reset 1 || eqb x.reset x.lit) c.latches j no_latch l (all-at (literal_tests c) (right h) 3) in
      ⊎_elim (λ k. constant (let z = leb→le (latch_at c j).reset 1 k in omega arith))
      (λ k. latch j l (ap var (sym (eqb→eq (latch_at c j).reset (latch_at c j).lit k)))) (or_cases (leb (latch_at c j).reset 1) (eqb (latch_at c j).reset (latch_at c j).lit) t)

  -- the words of n rows of three literals from `at` on are known, where the literals of each row are
  rows-known : (at n : ℕ) (x y z : ℕ → ℕ)
      → ((k : ℕ) → k < n → (x k ≡ word m (at + 3 * k)) × (y k ≡ word m (at + 3 * k + 1)) × (z k ≡ word m (at + 3 * k + 2)))
      → ((k : ℕ) → k < n → Known c (var (x k)) × Known c (var (y k)) × Known c (var (z k)))
      → (j : ℕ) → j < 3 * n → Known c (var (word m (at + j)))
  rows-known at n x y z are all =
      triples (λ j. Known c (var (word m (at + j)))) n
      (λ k l.
      let e = are k l in
      let t = all k l in
      let p : at + 3 * k + 1 ≡ at + (3 * k + 1) = omega arith in
      let q : at + 3 * k + 2 ≡ at + (3 * k + 2) = omega arith in (
        subst (λ (w : ℕ). Known c (var w)) e.0 t.0,
        subst (λ (w : ℕ). Known c (var w)) (e.1 ∙ ap (word m) p) t.1,
        subst (λ (w : ℕ). Known c (var w)) (e.2 ∙ ap (word m) q) t.2,
      ))

  pub latches-known : (j : ℕ) → j < 3 * word m 2 → Known c (var (word m (latches_at m + j)))
  latches-known =
      rows-known (latches_at m) (word m 2) (λ k. (latch_at c k).lit) (λ k. (latch_at c k).next) (λ k. (latch_at c k).reset)
      (λ k l. let e = latch-word m k l in (ap (λ (x : Latch). x.lit) e, ap (λ (x : Latch). x.next) e, ap (λ (x : Latch). x.reset) e))
      (λ k l. let n : k < length c.latches = omega (arith, latch-count m) in (latch k n refl, next_known c (known h) k, reset-known k n))

  pub gates-known : (j : ℕ) → j < 3 * word m 4 → Known c (var (word m (gates_at m + j)))
  gates-known =
      rows-known (gates_at m) (word m 4) (λ k. (gate_at c k).lit) (λ k. (gate_at c k).left) (λ k. (gate_at c k).right)
      (λ k l. let e = gate-word m k l in (ap (λ (x : Gate). x.lit) e, ap (λ (x : Gate). x.left) e, ap (λ (x : Gate). x.right) e))
      (λ k l. (gate k (omega (arith, gate-count m)) refl, left-known c (known h) k, right-known c (known h) k))

  pub constraints-known : (j : ℕ) → j < word m 6 → Known c (var (word m (constraints_at m + j)))
  constraints-known j l = subst (λ (x : ℕ). Known c (var x)) (constraint-word m j l) (constraint-known c (known h) j)

  output-word : (i : ℕ) → i < word m 3 → get_or c.outputs i 0 ≡ word m (outputs_at m + i)
  unfolding circuit_in
  output-word i l = upto-get (λ k. word m (outputs_at m + 1 * k)) (word m 3) i 0 l ∙ ap (word m) (omega arith)

  pub outputs-known : (j : ℕ) → j < word m 3 → Known c (var (word m (outputs_at m + j)))
  outputs-known j l = subst (λ (x : ℕ). Known c (var x)) (output-word j l) (output-known c (known h) j)

-- renumbered triples, written, are the renumbered words
pub latch-words-under : (σ : ℕ → ℕ) (ls : List Latch) → latch_words (map (latch_under σ) ls) ≡ map (literal_under σ) (latch_words ls)
unfolding latch_words
latch-words-under σ [] = refl
latch-words-under σ (l ∷ ls) =
    ap (λ (w : List ℕ). literal_under σ l.lit ∷ literal_under σ l.next ∷ literal_under σ l.reset ∷ w) (latch-words-under σ ls)

pub gate-words-under : (σ : ℕ → ℕ) (gs : List Gate) → gate_words (map (gate_under σ) gs) ≡ map (literal_under σ) (gate_words gs)
unfolding gate_words
gate-words-under σ [] = refl
gate-words-under σ (g ∷ gs) =
    ap (λ (w : List ℕ). literal_under σ g.lit ∷ literal_under σ g.left ∷ literal_under σ g.right ∷ w) (gate-words-under σ gs)
