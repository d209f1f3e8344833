-- What the words of a frame say of runs. Assumes nothing.
use mathlib.Core.Path.{◌≡◌, refl, sym, ap, ap₂, ◌∙◌, subst}
use mathlib.Core.Bool.{Bool, true, false, ◌&&◌}
use mathlib.Core.List.{List, [], ◌∷◌, Memᴰ}
use Prim.Native.Nat.{ℕ, suc, ◌<◌}
use lib.Dec.{T}
use lib.ListN.{length, get_or}
use Rattle.aiger.specs.Lists.{every}
use Rattle.aiger.specs.Circuit.{Circuit, var, literals_right, used_defined, acyclic}
use Rattle.aiger.specs.Frames.{Run, value, state, value_at, constrained, allowed, hits}
use Rattle.meaning.proofs.Lists.{mem-at}
use Rattle.meaning.proofs.Defined.{Known, input_at, latch_at, next_known, bad-known, constraint-known}
use Rattle.meaning.proofs.Values.{Valuation, valuation-value, state-next-at}
use Rattle.meaning.proofs.Allowed.{allowed-first, allowed-next}
use Rattle.frames.specs.Lanes.{lane, Leaves, Advanced, constrained_in, bad_in}

-- tests that agree on the elements of a list
every-same : {A : Type 0} (p q : A → Bool) (xs : List A) → ((x : A) → Memᴰ x xs → p x ≡ q x) → every p xs ≡ every q xs
every-same p q [] h = refl
every-same p q (x ∷ xs) h =
    ap₂ (λ (a b : Bool). a && b) (h x (Memᴰ.head refl)) (every-same p q xs (λ y m. h y (Memᴰ.tail m)))

module _ {c : Circuit} (right : T (literals_right c)) (known : T (used_defined c)) (a : T (acyclic c)) (r : Run) (t : ℕ) where
  constraint-in : (l : ℕ) → Memᴰ l c.constraints → Known c (var l)
  constraint-in l m = let q = mem-at 0 m in subst (λ (x : ℕ). Known c (var x)) q.2 (constraint-known c known q.0)

  -- where w has the values of frame t of run r, it says whether the constraints hold there
  pub constrained-of-run : {w : ℕ → Bool} → Valuation c (get_or r.rows t []) (state c r t) w → constrained_in c w ≡ constrained c r t
  unfolding constrained
  constrained-of-run {w} v =
      every-same (value w) (value_at c r t) c.constraints (λ l m. valuation-value c right known a r t v l (constraint-in l m))

  -- and whether the bad line is true
  pub bad-of-run : {w : ℕ → Bool} → Valuation c (get_or r.rows t []) (state c r t) w → (b : ℕ) → bad_in c b w ≡ value_at c r t (get_or c.bads b 0)
  bad-of-run v b = valuation-value c right known a r t v (get_or c.bads b 0) (bad-known c known b)

  -- and whether an allowed run hits
  pub hit-of-run : {w : ℕ → Bool} → Valuation c (get_or r.rows t []) (state c r t) w → (b : ℕ) → (allowed c r t && bad_in c b w) ≡ hits c b r t
  unfolding hits
  hit-of-run v b = ap (λ (x : Bool). allowed c r t && x) (bad-of-run v b)

  module _ {before after : List ℕ} (d : Advanced c before after) (p : ℕ) (h : p < 64)
      (v : Valuation c (get_or r.rows t []) (state c r t) (lane before p)) where
    -- where a lane has the values of frame t before, it has after the latches of frame t + 1
    pub next-latch : (j : ℕ) → j < length c.latches → lane after p (var (latch_at c j).lit) ≡ get_or (state c r (suc t)) j false
    next-latch j l =
        d.latch p h j l ∙ valuation-value c right known a r t v (latch_at c j).next (next_known c known j) ∙ sym (state-next-at c r t j l)

    -- and the constant
    pub next-constant : lane after p 0 ≡ false
    next-constant = d.constant p h ∙ v.constant

    -- so that with the constant and the latches of that lane, and the inputs of the row, u has the leaves of frame t + 1
    pub next-leaves : {u : ℕ → Bool} → u 0 ≡ lane after p 0
        → ((j : ℕ) → j < length c.latches → u (var (latch_at c j).lit) ≡ lane after p (var (latch_at c j).lit))
        → ((i : ℕ) → i < length c.inputs → u (var (input_at c i)) ≡ get_or (get_or r.rows (suc t) []) i false)
        → Leaves c (get_or r.rows (suc t) []) (state c r (suc t)) u
    next-leaves e f g = record { constant = e ∙ next-constant; input = g; latch = λ j l. f j l ∙ next-latch j l }

-- Whether a run is allowed, frame by frame: `from` is whether it was so far, `left` whether it still is.
module _ {c : Circuit} (right : T (literals_right c)) (known : T (used_defined c)) (a : T (acyclic c)) (r : Run) {left from : Bool} {w : ℕ → Bool} where
  -- after frame 0
  pub allowed-start : left ≡ (from && constrained_in c w) → from ≡ true → Valuation c (get_or r.rows 0 []) (state c r 0) w → left ≡ allowed c r 0
  allowed-start e o v = e ∙ ap₂ (λ (x y : Bool). x && y) o (constrained-of-run right known a r 0 v) ∙ sym (allowed-first c r)

  -- after one frame more
  pub allowed-more : (t : ℕ) → left ≡ (from && constrained_in c w) → from ≡ allowed c r t
      → Valuation c (get_or r.rows (suc t) []) (state c r (suc t)) w → left ≡ allowed c r (suc t)
  allowed-more t e o v = e ∙ ap₂ (λ (x y : Bool). x && y) o (constrained-of-run right known a r (suc t) v) ∙ sym (allowed-next c r t)
