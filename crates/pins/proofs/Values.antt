-- A run of the pinned circuit is the run of the circuit in whose rows the pins' values are filled in. Clause 12.7. Assumes nothing.
use mathlib.Core.Path.{◌≡◌, refl, sym, ap, ap₂, ◌∙◌, subst}
use mathlib.Core.Bool.{Bool, true, false, ◌&&◌}
use mathlib.Core.List.{List, [], ◌∷◌, map}
use Prim.Native.Nat.{ℕ, zero, suc, ◌+◌, ◌≤◌, ◌<◌}
use native.Mathlib.Omega.{arith}
use lib.Dec.{T}
use lib.ListN.{length, get_or, length-map}
use Rattle.aiger.specs.Lists.{every}
use Rattle.aiger.specs.Circuit.{Circuit, var, literals_right, used_defined, acyclic}
use Rattle.aiger.specs.Frames.{Run, value, state, value_at, constrained, allowed, hits}
use Rattle.meaning.proofs.Allowed.{allowed_same}
use Rattle.meaning.proofs.Lists.{get_or-map, every-under}
use Rattle.meaning.proofs.Defined.{Known, no_latch, no_gate, input_at, latch_at, gate_at, bad-known, constraint-known}
use Rattle.meaning.proofs.Values.{frame_at}
use Rattle.meaning.proofs.Runs.{Satisfies, run-determined, run-satisfies}
use Rattle.pins.specs.Pins.{fill, kept, tied, tied_latch, tied_gate, pinned}
use Rattle.pins.proofs.Inputs.{Agrees, filled-agrees, filled-given, given-at, tied-value}
use Rattle.pins.proofs.Valid.{pinned-right, pinned-known, pinned-acyclic, pinned-counts}

-- row is the row of the free inputs in full: r has the pins' values where it has none, up to frame t
pub record Fills (c : Circuit) (q : ℕ → ℕ) (t : ℕ) (r s : Run) : Type 0 where
  pub start : s.start ≡ r.start
  pub row : (u : ℕ) → u ≤ t → get_or s.rows u [] ≡ fill q (λ j. get_or (get_or r.rows u []) j false) 0 0 (length c.inputs)

module _ (c : Circuit) (q : ℕ → ℕ) (right : T (literals_right c)) (known : T (used_defined c)) (a : T (acyclic c)) (t : ℕ) (r s : Run)
    (fills : Fills c q t r s) where
  abbrev w : ℕ → ℕ → Bool
  w = frame_at c s

  sat : Satisfies c s t w
  sat = run-satisfies c right known a s t

  filled : (u : ℕ) → u ≤ t → (k : ℕ) → k < length c.inputs
      → w u (var (get_or c.inputs k 0)) ≡ get_or (fill q (λ j. get_or (get_or r.rows u []) j false) 0 0 (length c.inputs)) k false
  filled u h k l = sat.input u h k l ∙ ap (λ (x : List Bool). get_or x k false) (fills.row u h)

  agree : (u : ℕ) → u ≤ t → Agrees q 0 (w u) c.inputs
  agree u h = filled-agrees q (λ j. get_or (get_or r.rows u []) j false) (w u) 0 0 c.inputs (filled u h)

  -- a tied literal has the literal's value
  tied-now : (u : ℕ) → u ≤ t → (l : ℕ) → value (w u) (tied q c.inputs l) ≡ value (w u) l
  tied-now u h l = tied-value q (w u) c.inputs (sat.constant u h) (agree u h) l

  input-now : (u : ℕ) → u ≤ t → (k : ℕ) → k < length (kept q 0 c.inputs) → w u (var (get_or (kept q 0 c.inputs) k 0)) ≡ get_or (get_or r.rows u []) k false
  input-now u h k l =
      let f : ℕ → Bool = λ j. get_or (get_or r.rows u []) j false in
      given-at q f (w u) 0 (kept q 0 c.inputs) (filled-given q f (w u) 0 0 c.inputs (filled u h)) k l ∙ ap f (omega arith)

  -- the values of c satisfy the equations of the pinned circuit
  pub pinned-satisfies : Satisfies (pinned c q) r t w
  unfolding pinned
  pinned-satisfies =
      record {
        constant = sat.constant;
        input = input-now;
        start = λ j l.
            let k : j < length c.latches = subst (λ (n : ℕ). j < n) (length-map c.latches (tied_latch q c.inputs)) l in
            ap (λ x. w 0 (var x.lit)) (get_or-map (tied_latch q c.inputs) c.latches j no_latch no_latch k)
            ∙ sat.start j k ∙ ap (λ (x : List Bool). get_or x j false) fills.start;
        next = λ u h j l.
            let k : j < length c.latches = subst (λ (n : ℕ). j < n) (length-map c.latches (tied_latch q c.inputs)) l in
            let e = get_or-map (tied_latch q c.inputs) c.latches j no_latch no_latch k in
            ap (λ x. w (suc u) (var x.lit)) e ∙ sat.next u h j k ∙ sym (tied-now u (omega arith) (latch_at c j).next)
            ∙ ap (λ x. value (w u) x.next) (sym e);
        gate = λ u h i l.
            let k : i < length c.gates = subst (λ (n : ℕ). i < n) (length-map c.gates (tied_gate q c.inputs)) l in
            let e = get_or-map (tied_gate q c.inputs) c.gates i no_gate no_gate k in
            ap (λ x. w u (var x.lit)) e ∙ sat.gate u h i k
            ∙ ap₂ (λ (x y : Bool). x && y) (sym (tied-now u h (gate_at c i).left)) (sym (tied-now u h (gate_at c i).right))
            ∙ ap (λ x. value (w u) x.left && value (w u) x.right) (sym e);
      }

  -- a literal that the pinned circuit uses in place of l has there the value that l has in c
  pub pinned-value : (u : ℕ) → u ≤ t → (l : ℕ) → Known (pinned c q) (var (tied q c.inputs l)) → value_at (pinned c q) r u (tied q c.inputs l) ≡ value_at c s u l
  unfolding value_at
  pinned-value u h l k =
      sym
      (run-determined (pinned c q) (pinned-right c q right) (pinned-known c q known) (pinned-acyclic c q right a) r t pinned-satisfies u h (tied q c.inputs l) k)
      ∙ tied-now u h l

  constraint-value : (u : ℕ) → u ≤ t → (i : ℕ) → i < length c.constraints
      → value_at (pinned c q) r u (tied q c.inputs (get_or c.constraints i 0)) ≡ value_at c s u (get_or c.constraints i 0)
  unfolding pinned
  constraint-value u h i l =
      pinned-value u h (get_or c.constraints i 0)
      (subst (λ (x : ℕ). Known (pinned c q) (var x)) (get_or-map (tied q c.inputs) c.constraints i 0 0 l)
      (constraint-known (pinned c q) (pinned-known c q known) i))

  -- the constraints of a frame
  pub pinned-constraints : (u : ℕ) → u ≤ t → every (value_at (pinned c q) r u) (pinned c q).constraints ≡ every (value_at c s u) c.constraints
  unfolding pinned
  pinned-constraints u h = every-under (value_at (pinned c q) r u) (value_at c s u) (tied q c.inputs) c.constraints (constraint-value u h)

  pub pinned-allowed : allowed (pinned c q) r t ≡ allowed c s t
  unfolding constrained
  pinned-allowed = allowed_same (pinned c q) c r s t pinned-constraints

  pub pinned-bad : (b : ℕ) → b < length c.bads → value_at (pinned c q) r t (get_or (pinned c q).bads b 0) ≡ value_at c s t (get_or c.bads b 0)
  unfolding pinned
  pinned-bad b l =
      let e = get_or-map (tied q c.inputs) c.bads b 0 0 l in
      ap (value_at (pinned c q) r t) e
      ∙ pinned-value t (omega arith) (get_or c.bads b 0)
      (subst (λ (x : ℕ). Known (pinned c q) (var x)) e (bad-known (pinned c q) (pinned-known c q known) b))

  -- a run of the pinned circuit hits where the filled run of c does
  pub pinned-hits : (b : ℕ) → b < length c.bads → hits (pinned c q) b r t ≡ hits c b s t
  unfolding hits
  pinned-hits b l = ap₂ (λ (x y : Bool). x && y) pinned-allowed (pinned-bad b l)
