-- A whole run is determined: the values of the constant, the inputs, the latches' starts, the gate equations and the next-state equations
-- leave one value for each literal in each frame. Assumes nothing.
use mathlib.Core.Path.{◌≡◌, sym, ap, ◌∙◌}
use mathlib.Core.Bool.{Bool, false, ◌&&◌}
use mathlib.Core.List.{List, []}
use Prim.Native.Nat.{ℕ, zero, suc, ◌≤◌, ◌<◌}
use native.Mathlib.Omega.{arith}
use lib.Dec.{T}
use lib.ListN.{length, get_or}
use Rattle.aiger.specs.Circuit.{Circuit, var, literals_right, used_defined, acyclic}
use Rattle.aiger.specs.Frames.{Run, value, state, value_at}
use Rattle.meaning.proofs.Defined.{Known, input_at, latch_at, gate_at, next_known}
use Rattle.meaning.proofs.Values.{Valuation, frame-valuation, valuation-value, frame_at, state-start, state-next-at}

-- w u gives the variables values in frame u, for frames 0 to t, that satisfy the equations of a run
pub record Satisfies (c : Circuit) (r : Run) (t : ℕ) (w : ℕ → ℕ → Bool) : Type 0 where
  pub constant : (u : ℕ) → u ≤ t → w u 0 ≡ false
  pub input : (u : ℕ) → u ≤ t → (i : ℕ) → i < length c.inputs → w u (var (input_at c i)) ≡ get_or (get_or r.rows u []) i false
  pub start : (j : ℕ) → j < length c.latches → w 0 (var (latch_at c j).lit) ≡ get_or r.start j false
  pub next : (u : ℕ) → u < t → (j : ℕ) → j < length c.latches → w (suc u) (var (latch_at c j).lit) ≡ value (w u) (latch_at c j).next
  pub gate : (u : ℕ) → u ≤ t → (i : ℕ) → i < length c.gates
      → w u (var (gate_at c i).lit) ≡ (value (w u) (gate_at c i).left && value (w u) (gate_at c i).right)

module _ (c : Circuit) (right : T (literals_right c)) (known : T (used_defined c)) (a : T (acyclic c)) (r : Run) (t : ℕ) where
  valuation : {w : ℕ → ℕ → Bool} → Satisfies c r t w → (u : ℕ) → u ≤ t → Valuation c (get_or r.rows u []) (state c r u) (w u)
  valuation {w} s zero h =
      record {
        constant = s.constant zero h;
        input = s.input zero h;
        latch = λ j l. s.start j l ∙ ap (λ (x : List Bool). get_or x j false) (sym (state-start c r));
        gate = s.gate zero h;
      }
  valuation {w} s (suc u) h =
      let before = valuation s u (omega arith) in
      record {
        constant = s.constant (suc u) h;
        input = s.input (suc u) h;
        latch = λ j l.
            s.next u (omega arith) j l ∙ valuation-value c right known a r u before (latch_at c j).next (next_known c known j)
            ∙ sym (state-next-at c r u j l);
        gate = s.gate (suc u) h;
      }

  -- the value of a literal in each frame is the one that the run gives it
  pub run-determined : {w : ℕ → ℕ → Bool} → Satisfies c r t w → (u : ℕ) → u ≤ t → (l : ℕ) → Known c (var l) → value (w u) l ≡ value_at c r u l
  run-determined s u h l k = valuation-value c right known a r u (valuation s u h) l k

  -- so any two that satisfy the equations agree
  pub run-unique : {w w' : ℕ → ℕ → Bool} → Satisfies c r t w → Satisfies c r t w' → (u : ℕ) → u ≤ t → (l : ℕ) → Known c (var l)
      → value (w u) l ≡ value (w' u) l
  run-unique s s' u h l k = run-determined s u h l k ∙ sym (run-determined s' u h l k)

  at : (u : ℕ) → Valuation c (get_or r.rows u []) (state c r u) (frame_at c r u)
  at u = frame-valuation c right a (state c r u) (get_or r.rows u [])

  -- and the values that the run gives do satisfy them
  pub run-satisfies : Satisfies c r t (frame_at c r)
  unfolding value_at
  run-satisfies =
      record {
        constant = λ u h. (at u).constant;
        input = λ u h. (at u).input;
        start = λ j l. (at 0).latch j l ∙ ap (λ (x : List Bool). get_or x j false) (state-start c r);
        next = λ u h j l. (at (suc u)).latch j l ∙ state-next-at c r u j l;
        gate = λ u h. (at u).gate;
      }
