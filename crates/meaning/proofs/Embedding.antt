-- One circuit inside another under other names: its values there are those that it has alone. Assumes nothing.
use mathlib.Core.Path.{◌≡◌, refl, sym, ap, ap₂, ◌∙◌, subst}
use mathlib.Core.Bool.{Bool, true, false, not, cond, ◌&&◌, and_comm}
use mathlib.Core.List.{List, []}
use mathlib.Core.Logic.{◌⊎◌, inl, inr}
use Prim.Native.Nat.{ℕ, zero, suc, ◌+◌, ◌*◌, ◌/◌, ◌%◌, ◌<◌}
use native.Mathlib.Omega.{arith}
use lib.Dec.{T}
use lib.ListN.{length, get_or}
use Rattle.aiger.specs.Bits.{nonzero, odd}
use Rattle.aiger.specs.Circuit.{Circuit, Gate, var, literals_right, used_defined, acyclic}
use Rattle.aiger.specs.Frames.{Run, value, frame, state, value_at}
use Rattle.meaning.specs.Frame.{Valuation}
use Rattle.meaning.proofs.Defined.{input_at, latch_at, gate_at, Known, next_known}
use Rattle.meaning.proofs.Values.{value-eq, frame-valuation, valuation-value, state-next-at, state-start}

-- the literal of the renamed variable, with the same sign
abbrev pub renamed : (ℕ → ℕ) → ℕ → ℕ
renamed σ l = 2 * σ (var l) + l % 2

-- a renamed literal has the value that the literal has where each variable has its new name's value
pub value-renamed : (σ : ℕ → ℕ) (w : ℕ → Bool) (l : ℕ) → value w (renamed σ l) ≡ value (λ v. w (σ v)) l
value-renamed σ w l =
    let v : renamed σ l / 2 ≡ σ (var l) = omega arith in
    let s : renamed σ l % 2 ≡ l % 2 = omega arith in
    ap₂ (λ (m x : ℕ). cond (nonzero m) (not (w x)) (w x)) s v

-- gate h is gate g with renamed operands, in either order
abbrev pub SameOperands : (ℕ → ℕ) → Gate → Gate → Type 0
SameOperands σ g h =
    ((h.left ≡ renamed σ g.left) × (h.right ≡ renamed σ g.right)) ⊎ ((h.left ≡ renamed σ g.right) × (h.right ≡ renamed σ g.left))

-- c stands in d under the names σ: input i as input `input_of i`, latch j as latch `latch_of j`, each gate as some gate
pub record Embeds (c d : Circuit) (σ input_of latch_of : ℕ → ℕ) : Type 0 where
  pub zero : σ 0 ≡ 0
  pub input : (i : ℕ) → i < length c.inputs → (input_of i < length d.inputs) × (var (input_at d (input_of i)) ≡ σ (var (input_at c i)))
  pub latch : (j : ℕ) → j < length c.latches → (latch_of j < length d.latches) × (var (latch_at d (latch_of j)).lit ≡ σ (var (latch_at c j).lit))
  pub next : (j : ℕ) → j < length c.latches → (latch_at d (latch_of j)).next ≡ renamed σ (latch_at c j).next
  pub gate : (i : ℕ) → i < length c.gates
      → (k : ℕ) × (k < length d.gates) × (var (gate_at d k).lit ≡ σ (var (gate_at c i).lit)) × SameOperands σ (gate_at c i) (gate_at d k)

-- bits of c's list are those of d's list at the places that p gives
abbrev pub Picked : (ℕ → ℕ) → ℕ → List Bool → List Bool → Type 0
Picked p n xs ys = (i : ℕ) → i < n → get_or xs i false ≡ get_or ys (p i) false

module _ (c d : Circuit) (σ input_of latch_of : ℕ → ℕ) (e : Embeds c d σ input_of latch_of) where
  operands-renamed : (w : ℕ → Bool) (g h : Gate) → SameOperands σ g h
      → (value w h.left && value w h.right) ≡ (value (λ v. w (σ v)) g.left && value (λ v. w (σ v)) g.right)
  operands-renamed w g h (inl p) =
      ap₂ (λ (x y : Bool). x && y) (ap (value w) p.0 ∙ value-renamed σ w g.left) (ap (value w) p.1 ∙ value-renamed σ w g.right)
  operands-renamed w g h (inr p) =
      ap₂ (λ (x y : Bool). x && y) (ap (value w) p.0 ∙ value-renamed σ w g.right) (ap (value w) p.1 ∙ value-renamed σ w g.left)
      ∙ and_comm (value (λ v. w (σ v)) g.right) (value (λ v. w (σ v)) g.left)

  -- values that satisfy d's equations satisfy c's under the names
  pub embedded-valuation : {row st row' st' : List Bool} {w : ℕ → Bool} → Picked input_of (length c.inputs) row row'
      → Picked latch_of (length c.latches) st st' → Valuation d row' st' w → Valuation c row st (λ v. w (σ v))
  embedded-valuation {w = w} p q u =
      record {
        constant = ap w e.zero ∙ u.constant;
        input = λ i h. ap w (sym (e.input i h).1) ∙ u.input (input_of i) (e.input i h).0 ∙ sym (p i h);
        latch = λ j h. ap w (sym (e.latch j h).1) ∙ u.latch (latch_of j) (e.latch j h).0 ∙ sym (q j h);
        gate = λ i h.
            let k = e.gate i h in
            ap w (sym k.2) ∙ u.gate k.0 k.1 ∙ operands-renamed w (gate_at c i) (gate_at d k.0) k.3;
      }

  module _ (right : T (literals_right c)) (known : T (used_defined c)) (a : T (acyclic c)) (right' : T (literals_right d)) (a' : T (acyclic d)) where
    module _ (r s : Run) (starts : Picked latch_of (length c.latches) r.start s.start)
        (rows : (t : ℕ) → Picked input_of (length c.inputs) (get_or r.rows t []) (get_or s.rows t [])) where
      -- where the states correspond, so do the values of literals
      value-now : (t : ℕ) → Picked latch_of (length c.latches) (state c r t) (state d s t) → (l : ℕ) → Known c (var l)
          → value_at c r t l ≡ value_at d s t (renamed σ l)
      unfolding value_at
      value-now t q l k =
          let w = frame d (state d s t) (get_or s.rows t []) in
          sym
          (value-renamed σ w l
          ∙ valuation-value c right known a r t (embedded-valuation (rows t) q (frame-valuation d right' a' (state d s t) (get_or s.rows t []))) l k)

      -- the states correspond in every frame
      pub embedded-state : (t : ℕ) → Picked latch_of (length c.latches) (state c r t) (state d s t)
      unfolding state
      embedded-state zero j h = starts j h
      embedded-state (suc t) j h =
          state-next-at c r t j h ∙ value-now t (embedded-state t) (latch_at c j).next (next_known c known j)
          ∙ ap (value_at d s t) (sym (e.next j h)) ∙ sym (state-next-at d s t (latch_of j) (e.latch j h).0)

      -- and the values
      pub embedded-value : (t l : ℕ) → Known c (var l) → value_at c r t l ≡ value_at d s t (renamed σ l)
      embedded-value t l k = value-now t (embedded-state t) l k
