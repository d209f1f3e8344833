-- The words of a circuit that is ready, as gates and literals with marks. Assumes nothing.
use mathlib.Core.Path.{◌≡◌, refl, sym, ap, ap₂, ◌∙◌, subst}
use mathlib.Core.Bool.{Bool, true, false, not, ◌&&◌, ◌||◌}
use mathlib.Core.List.{List}
use Prim.Native.Nat.{ℕ, ◌+◌, ◌*◌, ◌≤◌, ◌<◌}
use native.Mathlib.Omega.{arith}
use lib.ListN.{length, get_or, replicate, length-replicate}
use Rattle.aiger.specs.Lists.{every_below}
use Rattle.aiger.specs.Circuit.{Circuit, Latch, Gate, literals_right, used_defined, acyclic}
use Rattle.aiger.proofs.Tests.{true-T}
use Rattle.layout.specs.Words.{word, circuit_in}
use Rattle.layout.specs.declared.Layout.{Layout}
use Rattle.meaning.specs.Frame.{latch_at, gate_at}
use Rattle.frames.specs.Lanes.{Ready}
use Rattle.frames.proofs.Facts.{right, known, no-cycle, gate-place, latch-place, bad-place, constraint-place, gates-are, latches-are, constraints-are, gate-room, latches-inside, latches-apart, next-below, bad-inside, bad-below, constraint-inside, constraint-below}
use Rattle.influence.specs.Cone.{marked, mark, mark_below, as_gate, reach_down, spread, closed_at, closed, settle, cone_from, marks, settled, kept_below, kept_latches, gate_by, Rooms, Literals}
use Rattle.influence.proofs.Marks.{mark-one, mark-same, down-same, below-same}

module _ {m : List ℕ} {layout : Layout} {order : List ℕ} {count : ℕ} (r : Ready m layout order count) where
  abbrev c : Circuit
  c = circuit_in m

  pub gate-rooms : Rooms m layout.gates layout.a 2 count
  gate-rooms i l =
      let g = gate-room r i l in
      record { inside = g.inside; short = omega arith; lit = g.lit; left = g.left; right = g.right }

  pub latch-rooms : Rooms m layout.latches layout.l 1 count
  latch-rooms j l =
      record {
        inside = omega (arith, latches-inside r);
        short = omega arith;
        lit = (latches-apart r).below j l;
        left = next-below r j l;
        right = next-below r j l;
      }

  pub constraint-literals : Literals m layout.constraints layout.c count
  constraint-literals i l = (constraint-inside r i l, constraint-below r i l)

  gate-is : (i : ℕ) → i < layout.a → gate_by m (layout.gates + 3 * i) 2 ≡ gate_at c i
  gate-is i l = sym (gate-place r i l)

  latch-is : (j : ℕ) → j < layout.l → gate_by m (layout.latches + 3 * j) 1 ≡ as_gate (latch_at c j)
  latch-is j l = sym (ap as_gate (latch-place r j l))

  -- one round
  pub spread-is : (ms : List ℕ)
      → reach_down (λ j. gate_by m (layout.latches + 3 * j) 1) layout.l (reach_down (λ i. gate_by m (layout.gates + 3 * i) 2) layout.a ms) ≡ spread (circuit_in m) ms
  spread-is ms =
      ap (reach_down (λ j. gate_by m (layout.latches + 3 * j) 1) layout.l)
      (down-same (λ i. gate_by m (layout.gates + 3 * i) 2) (gate_at c) layout.a ms gate-is ∙ ap (λ (n : ℕ). reach_down (gate_at c) n ms) (gates-are r))
      ∙ down-same (λ j. gate_by m (layout.latches + 3 * j) 1) (λ j. as_gate (latch_at c j)) layout.l (reach_down (gate_at c) (length c.gates) ms) latch-is
      ∙ ap (λ (n : ℕ). reach_down (λ j. as_gate (latch_at c j)) n (reach_down (gate_at c) (length c.gates) ms)) (latches-are r)

  module _ (b : ℕ) (l : b < word m 5) where
    -- the bad line, as one literal
    pub bad-literals : Literals m (layout.bads + b) 1 count
    bad-literals i h =
        let e : layout.bads + b + i ≡ layout.bads + b = omega arith in
        (omega (arith, bad-inside r b l), omega (arith, bad-below r b l, ap (λ (p : ℕ). word m p) e))

    bad-is : (i : ℕ) → i < 1 → word m (layout.bads + b + i) ≡ get_or c.bads b 0
    bad-is i h = let e : layout.bads + b + i ≡ layout.bads + b = omega arith in ap (word m) e ∙ sym (bad-place r b l)

    constraint-is : (i : ℕ) → i < layout.c → word m (layout.constraints + i) ≡ get_or c.constraints i 0
    constraint-is i h = sym (constraint-place r i h)

    -- the test
    pub closed_is : (ms : List ℕ)
        → (every_below layout.a (λ i. closed_at ms (gate_by m (layout.gates + 3 * i) 2))
        && (every_below layout.l (λ j. closed_at ms (gate_by m (layout.latches + 3 * j) 1))
        && (every_below 1 (λ i. marked ms (word m (layout.bads + b + i))) && every_below layout.c (λ i. marked ms (word m (layout.constraints + i))))))
        ≡ closed (circuit_in m) b ms
    unfolding closed
    closed_is ms =
        ap₂ (λ (x y : Bool). x && y)
        (below-same layout.a (λ i. closed_at ms (gate_by m (layout.gates + 3 * i) 2)) (λ i. closed_at ms (gate_at c i)) (λ i h. ap (closed_at ms) (gate-is i h))
        ∙ ap (λ (n : ℕ). every_below n (λ i. closed_at ms (gate_at c i))) (gates-are r))
        (ap₂ (λ (x y : Bool). x && y)
        (below-same layout.l (λ j. closed_at ms (gate_by m (layout.latches + 3 * j) 1)) (λ j. closed_at ms (as_gate (latch_at c j))) (λ j h. ap (closed_at ms) (latch-is j h))
        ∙ ap (λ (n : ℕ). every_below n (λ j. closed_at ms (as_gate (latch_at c j)))) (latches-are r))
        (ap₂ (λ (x y : Bool). x && y)
        (below-same 1 (λ i. marked ms (word m (layout.bads + b + i))) (λ i. marked ms (get_or c.bads b 0)) (λ i h. ap (marked ms) (bad-is i h)))
        (below-same layout.c (λ i. marked ms (word m (layout.constraints + i))) (λ i. marked ms (get_or c.constraints i 0)) (λ i h. ap (marked ms) (constraint-is i h))
        ∙ ap (λ (n : ℕ). every_below n (λ i. marked ms (get_or c.constraints i 0))) (constraints-are r))))

    -- the marks at the end
    pub marks-are : (ms one two three : List ℕ) → one ≡ mark_below (λ i. word m (layout.bads + b + i)) 1 ms
        → two ≡ mark_below (λ i. word m (layout.constraints + i)) layout.c one → three ≡ settle 129 (circuit_in m) b two
        → three ≡ cone_from (circuit_in m) b ms
    unfolding cone_from
    marks-are ms one two three e f g =
        g
        ∙ ap (settle 129 c b)
        (f
        ∙ mark-same (λ i. word m (layout.constraints + i)) (λ i. get_or c.constraints i 0) layout.c one (constraint-is)
        ∙ ap₂ (λ (n : ℕ) (ms : List ℕ). mark_below (λ i. get_or c.constraints i 0) n ms) (constraints-are r)
        (e ∙ mark-one (λ i. word m (layout.bads + b + i)) ms ∙ ap (λ (l : ℕ). mark l ms) (bad-is 0 (omega arith))))

    -- where nothing was marked before they are those of the cone
    pub cone-marks : (ms : List ℕ) → ms ≡ cone_from (circuit_in m) b (replicate 4097 0) → ms ≡ marks (circuit_in m) b
    unfolding marks
    cone-marks ms e = e

    -- whether they are the cone
    settled_is : closed (circuit_in m) b (marks (circuit_in m) b) ≡ settled (circuit_in m) b
    unfolding settled
    settled_is =
        let k : Bool = closed c b (marks c b) in
        sym
        (ap₂ (λ (x y : Bool). (x && y) && k) (true-T (literals_right c) (right r.held))
        (ap₂ (λ (x y : Bool). x && y) (true-T (used_defined c) (known r.held)) (true-T (acyclic c) (no-cycle r.held))))

    -- the latches that are kept
    pub kept-are : (ms : List ℕ) (s : Bool) → ms ≡ marks (circuit_in m) b → s ≡ closed (circuit_in m) b ms
        → kept_below (λ j. not s || marked ms (latch_at (circuit_in m) j).lit) layout.l ≡ kept_latches (circuit_in m) b
    unfolding kept_latches
    kept-are ms s e f =
        let q : s ≡ settled c b = f ∙ ap (closed c b) e ∙ settled_is in
        ap₂ (λ (x : Bool) (y : List ℕ). kept_below (λ j. not x || marked y (latch_at c j).lit) layout.l) q e
        ∙ ap (kept_below (λ j. not (settled c b) || marked (marks c b) (latch_at c j).lit)) (latches-are r)

-- a test that fails does not pass
pub not-true : (x : Bool) → not x ≡ true → x ≡ false
not-true true e = sym e
not-true false e = refl

pub not-false : (x : Bool) → not x ≡ false → x ≡ true
not-false true e = refl
not-false false e = sym e
