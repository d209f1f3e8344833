-- What a circuit in memory says of the memory's words: counts, where each part stands, and the variables' bounds. Assumes nothing.
use mathlib.Core.Path.{◌≡◌, refl, sym, ap, ap₂, ◌∙◌, subst}
use mathlib.Core.List.Memᴰ
use mathlib.Core.List.{List, Memᴰ}
use Prim.Native.Nat.{ℕ, ◌+◌, ◌*◌, ◌≤◌, ◌<◌}
use native.Mathlib.Omega.{arith}
use lib.Dec.{T, leb, leb→le}
use lib.ListN.{length, get_or, drop, length-map, length-drop, get_or-map}
use lib.Seq.{get_or-drop}
use Rattle.aiger.specs.Circuit.{Circuit, Latch, Gate, var, defined, used, literal_tests, literals_right, used_defined, acyclic}
use Rattle.aiger.specs.Memory.{Holds}
use Rattle.aiger.proofs.Tests.{T_true, all-at}
use Rattle.layout.specs.Words.{word, latches_at, bads_at, constraints_at, gates_at, content_end, latch_in, gate_in, circuit_in}
use Rattle.roundtrip.proofs.Lists.{upto-length, upto-get}
use Rattle.roundtrip.proofs.Content.{content-length}
use Rattle.roundtrip.proofs.LoadWrite.{Valid, Counts, counts-fit}
use Rattle.roundtrip.proofs.Holding.{held-valid, content-fits}
use Rattle.meaning.proofs.Lists.{every-mem}
use Rattle.meaning.proofs.Defined.{no_latch, no_gate, latch_at, gate_at, Known, constant, input, latch, gate, input-in, latch-in, gate-in, left-known, right-known, next_known, bad-known, constraint-known, apart-latches}
use Rattle.layout.specs.declared.Layout.{Layout}
use Rattle.frames.specs.Lanes.{Ready, GateRoom, Apart}

-- ---- the parts of the circuit that the words say, by position
module _ (m : List ℕ) where
  pub top-is : (circuit_in m).max_var ≡ word m 0
  unfolding circuit_in
  top-is = refl

  pub latch-count : length (circuit_in m).latches ≡ word m 2
  unfolding circuit_in
  latch-count = upto-length (λ j. latch_in m (latches_at m + 3 * j)) (word m 2)

  pub bad-count : length (circuit_in m).bads ≡ word m 5
  unfolding circuit_in
  bad-count = upto-length (λ i. word m (bads_at m + 1 * i)) (word m 5)

  pub constraint-count : length (circuit_in m).constraints ≡ word m 6
  unfolding circuit_in
  constraint-count = upto-length (λ i. word m (constraints_at m + 1 * i)) (word m 6)

  pub gate-count : length (circuit_in m).gates ≡ word m 4
  unfolding circuit_in
  gate-count = upto-length (λ j. gate_in m (gates_at m + 3 * j)) (word m 4)

  pub latch-word : (j : ℕ) → j < word m 2 → latch_at (circuit_in m) j ≡ latch_in m (latches_at m + 3 * j)
  unfolding circuit_in
  latch-word j h = upto-get (λ i. latch_in m (latches_at m + 3 * i)) (word m 2) j no_latch h

  pub bad-word : (i : ℕ) → i < word m 5 → get_or (circuit_in m).bads i 0 ≡ word m (bads_at m + i)
  unfolding circuit_in
  bad-word i h = upto-get (λ k. word m (bads_at m + 1 * k)) (word m 5) i 0 h ∙ ap (word m) (omega arith)

  pub constraint-word : (i : ℕ) → i < word m 6 → get_or (circuit_in m).constraints i 0 ≡ word m (constraints_at m + i)
  unfolding circuit_in
  constraint-word i h = upto-get (λ k. word m (constraints_at m + 1 * k)) (word m 6) i 0 h ∙ ap (word m) (omega arith)

  pub gate-word : (g : ℕ) → g < word m 4 → gate_at (circuit_in m) g ≡ gate_in m (gates_at m + 3 * g)
  unfolding circuit_in
  gate-word g h = upto-get (λ j. gate_in m (gates_at m + 3 * j)) (word m 4) g no_gate h

-- ---- a circuit that a memory holds
module _ {m : List ℕ} (h : Holds m (circuit_in m)) where
  abbrev c : Circuit
  c = circuit_in m

  pub valid : Valid (length m) (circuit_in m)
  valid = held-valid h

  pub counts : Counts (circuit_in m)
  counts = counts-fit (circuit_in m) valid.fit

  pub right : T (literals_right (circuit_in m))
  right = T_true valid.literals

  pub known : T (used_defined (circuit_in m))
  known = T_true valid.uses

  pub no-cycle : T (acyclic (circuit_in m))
  no-cycle = T_true valid.order

  -- the parts lie within the memory
  pub inside : content_end m ≤ length m
  inside = omega (arith, content-fits valid, content-length m, valid.held)

  -- a variable that is 0 or defined is at most M
  defined-small : (l : ℕ) → Memᴰ l (defined c) → var l ≤ word m 0
  unfolding literals_right
  defined-small l d =
      let t = every-mem (λ x. leb x (2 * c.max_var + 1)) (Memᴰ.append_left (used c) d) (all-at (literal_tests c) right 0) in
      omega (arith, leb→le l (2 * c.max_var + 1) t, top-is m)

  pub known_small : (v : ℕ) → Known (circuit_in m) v → v ≤ word m 0
  known_small v (constant e) = omega arith
  known_small v (input i l e) = omega (arith, defined-small _ (input-in c i l))
  known_small v (latch j l e) = omega (arith, defined-small _ (latch-in c j l))
  known_small v (gate i l e) = omega (arith, defined-small _ (gate-in c i l))

-- ---- the words of a part of the memory are those of the memory
module _ (m : List ℕ) (from : ℕ) where
  rest-word : (i k : ℕ) → word (drop from m) (i + k) ≡ word m (from + i + k)
  rest-word i k = let e : from + (i + k) ≡ from + i + k = omega arith in get_or-drop from m (i + k) 0 ∙ ap (word m) e

  rest-first : (i : ℕ) → word (drop from m) i ≡ word m (from + i)
  rest-first i = get_or-drop from m i 0

  pub rest-gate : (i : ℕ) → gate_in (drop from m) i ≡ gate_in m (from + i)
  rest-gate i =
      ap (λ (x : ℕ). record { lit = x; left = word (drop from m) (i + 1); right = word (drop from m) (i + 2) }) (rest-first i)
      ∙ ap₂ (λ (x y : ℕ). record { lit = word m (from + i); left = x; right = y }) (rest-word i 1) (rest-word i 2)

  pub rest-room : (i count : ℕ) → GateRoom m (from + i) count → GateRoom (drop from m) i count
  rest-room i count g =
      record {
        inside = omega (arith, g.inside, length-drop from m);
        lit = subst (λ (x : ℕ). var x < count) (sym (rest-first i)) g.lit;
        left = subst (λ (x : ℕ). var x < count) (sym (rest-word i 1)) g.left;
        right = subst (λ (x : ℕ). var x < count) (sym (rest-word i 2)) g.right;
      }

-- ---- a circuit that is ready
module _ {m : List ℕ} {layout : Layout} {order : List ℕ} {count : ℕ} (r : Ready m layout order count) where
  -- where gate g stands
  pub gate-place : (g : ℕ) → g < layout.a → gate_at (circuit_in m) g ≡ gate_in m (layout.gates + 3 * g)
  gate-place g l = gate-word m g (omega (arith, r.layout_of.a-is)) ∙ ap (λ (p : ℕ). gate_in m (p + 3 * g)) (sym r.layout_of.gates-is)

  pub latch-place : (j : ℕ) → j < layout.l → latch_at (circuit_in m) j ≡ latch_in m (layout.latches + 3 * j)
  latch-place j l = latch-word m j (omega (arith, r.layout_of.l-is)) ∙ ap (λ (p : ℕ). latch_in m (p + 3 * j)) (sym r.layout_of.latches-is)

  pub bad-place : (i : ℕ) → i < word m 5 → get_or (circuit_in m).bads i 0 ≡ word m (layout.bads + i)
  bad-place i l = bad-word m i l ∙ ap (λ (p : ℕ). word m (p + i)) (sym r.layout_of.bads-is)

  pub constraint-place : (i : ℕ) → i < layout.c → get_or (circuit_in m).constraints i 0 ≡ word m (layout.constraints + i)
  constraint-place i l =
      constraint-word m i (omega (arith, r.layout_of.c-is)) ∙ ap (λ (p : ℕ). word m (p + i)) (sym r.layout_of.constraints-is)

  -- the gates are those that the order names
  pub gates-are : layout.a ≡ length (circuit_in m).gates
  gates-are = r.layout_of.a-is ∙ sym (gate-count m)

  pub latches-are : layout.l ≡ length (circuit_in m).latches
  latches-are = r.layout_of.l-is ∙ sym (latch-count m)

  pub constraints-are : layout.c ≡ length (circuit_in m).constraints
  constraints-are = r.layout_of.c-is ∙ sym (constraint-count m)

  -- a variable that is 0 or defined has a word
  pub known-below : (v : ℕ) → Known (circuit_in m) v → v < count
  known-below v k = omega (arith, known_small r.held v k, r.room)

  pub gates-few : layout.a ≤ 3072
  gates-few = omega (arith, gates-are, (counts r.held).gates)

  -- the gates' words lie within the memory
  pub gates-inside : layout.gates + 3 * layout.a ≤ length m
  gates-inside = omega (arith, inside r.held, r.layout_of.gates-is, r.layout_of.a-is)

  pub gate-room : (g : ℕ) → g < layout.a → GateRoom m (layout.gates + 3 * g) count
  gate-room g l =
      let e = gate-place g l in
      let h : g < length (circuit_in m).gates = omega (arith, gates-are) in
      record {
        inside = omega (arith, gates-inside);
        lit = subst (λ (x : Gate). var x.lit < count) e (known-below _ (gate g h refl));
        left = subst (λ (x : Gate). var x.left < count) e (known-below _ (left-known (circuit_in m) (known r.held) g));
        right = subst (λ (x : Gate). var x.right < count) e (known-below _ (right-known (circuit_in m) (known r.held) g));
      }

  -- the latches' words lie within the memory
  pub latches-inside : layout.latches + 3 * layout.l ≤ length m
  latches-inside = omega (arith, inside r.held, r.layout_of.latches-is, r.layout_of.l-is)

  pub latches-few : layout.l ≤ 1024
  latches-few = omega (arith, latches-are, (counts r.held).latches)

  pub next-below : (j : ℕ) → j < layout.l → var (word m (layout.latches + 3 * j + 1)) < count
  next-below j l =
      subst (λ (x : Latch). var x.next < count) (latch-place j l) (known-below _ (next_known (circuit_in m) (known r.held) j))

  pub latches-apart : Apart (λ j. var (word m (layout.latches + 3 * j))) layout.l count
  latches-apart =
      record {
        below = λ j l. subst (λ (x : Latch). var x.lit < count) (latch-place j l) (known-below _ (latch j (omega (arith, latches-are)) refl));
        differ = λ i j l k e.
            apart-latches (circuit_in m) (right r.held) i j l (simp length-map (omega (arith, latches-are)))
            (ap var (get_or-map (λ (x : Latch). x.lit) (circuit_in m).latches i no_latch)
            ∙ ap (λ (x : Latch). var x.lit) (latch-place i (omega arith)) ∙ e
            ∙ sym (ap var (get_or-map (λ (x : Latch). x.lit) (circuit_in m).latches j no_latch) ∙ ap (λ (x : Latch). var x.lit) (latch-place j k)));
      }

  pub bad-inside : (i : ℕ) → i < word m 5 → layout.bads + i < length m
  bad-inside i l = omega (arith, inside r.held, r.layout_of.bads-is)

  pub bad-below : (i : ℕ) → i < word m 5 → var (word m (layout.bads + i)) < count
  bad-below i l = subst (λ (x : ℕ). var x < count) (bad-place i l) (known-below _ (bad-known (circuit_in m) (known r.held) i))

  pub constraint-inside : (i : ℕ) → i < layout.c → layout.constraints + i < length m
  constraint-inside i l = omega (arith, inside r.held, r.layout_of.constraints-is, r.layout_of.c-is)

  pub constraint-below : (i : ℕ) → i < layout.c → var (word m (layout.constraints + i)) < count
  constraint-below i l =
      subst (λ (x : ℕ). var x < count) (constraint-place i l) (known-below _ (constraint-known (circuit_in m) (known r.held) i))

-- a circuit that is ready is so with another number of words, if they suffice
pub ready_with : {m : List ℕ} {layout : Layout} {order : List ℕ} {count n : ℕ} → Ready m layout order count → word m 0 < n → Ready m layout order n
ready_with r h = record { held = r.held; layout_of = r.layout_of; ordered = r.ordered; ranks = r.ranks; room = h }
