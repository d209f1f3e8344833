-- The latches that are kept decide. Assumes nothing.
use mathlib.Core.Path.{◌≡◌, refl, sym, ap, ap₂, ◌∙◌, subst}
use mathlib.Core.Bool.{Bool, true, false, not, cond, ◌&&◌, ◌||◌}
use mathlib.Core.List.{List, [], ◌∷◌, Memᴰ}
use mathlib.Core.Logic.{◌⊎◌, inl, inr, ⊎_elim}
use Prim.Native.Nat.{ℕ, zero, suc, ◌+◌, ◌≤◌, ◌<◌}
use native.Mathlib.Omega.{arith}
use lib.Dec.{T}
use lib.ListN.{length, get_or}
use lib.Seq.{ext_get_or}
use Rattle.aiger.specs.Lists.{every, every_below}
use Rattle.aiger.specs.Bits.{nonzero}
use Rattle.aiger.specs.Circuit.{Circuit, Gate, var, literals_right, used_defined, acyclic}
use Rattle.aiger.specs.Frames.{value, frame}
use Rattle.aiger.proofs.Tests.{T_true, and_left, and_right, below_at, or_cases, not-both}
use Rattle.meaning.specs.Frame.{latch_at, gate_at}
use Rattle.meaning.proofs.Lists.{mem-at, or_left, or_right}
use Rattle.meaning.proofs.Defined.{Known, next_known, bad-known, constraint-known}
use Rattle.meaning.proofs.Values.{frame-valuation, depends}
use Rattle.frames.specs.Lanes.{constrained_in, bad_in}
use Rattle.influence.specs.Part.{Part, kept_at, Agree, Same, Closed}
use Rattle.influence.specs.Cone.{marked, as_gate, closed_at, closed, marks, settled, kept_below, kept_latches, part_of}
use Rattle.influence.proofs.Kept.{Chosen, chosen}

-- a marked gate of closed marks
closed-gate : (ms : List ℕ) (g : Gate) → T (closed_at ms g) → T (marked ms g.lit) → T (marked ms g.left) × T (marked ms g.right)
closed-gate ms g t m = go (marked ms g.lit) t m
  where
    go : (q : Bool) → T (cond q (marked ms g.left && marked ms g.right) true) → T q → T (marked ms g.left) × T (marked ms g.right)
    go true t m = (and_left (marked ms g.left) (marked ms g.right) t, and_right (marked ms g.left) (marked ms g.right) t)
    go false t m = absurd m

-- tests of values that agree on the literals that are tested
every-same : (w u : ℕ → Bool) (ls : List ℕ) → ((l : ℕ) → Memᴰ l ls → value w l ≡ value u l) → every (value w) ls ≡ every (value u) ls
every-same w u [] h = refl
every-same w u (l ∷ ls) h = ap₂ (λ (x y : Bool). x && y) (h l (Memᴰ.head refl)) (every-same w u ls (λ k m. h k (Memᴰ.tail m)))

module _ (c : Circuit) (b : ℕ) where
  abbrev L : ℕ
  L = length c.latches

  abbrev passing : ℕ → Bool
  passing j = not (settled c b) || marked (marks c b) (latch_at c j).lit

  ks : Chosen passing L (kept_below passing L)
  ks = chosen passing L

  abbrev part : Part
  part = record { circuit = c; kept = kept_below passing L }

  -- ---- where the marks are the cone
  module _ (yes-settled : T (settled c b)) where
    abbrev ms : List ℕ
    ms = marks c b

    abbrev need : ℕ → Bool
    need v = nonzero (get_or ms v 0)

    valid : T (literals_right c && (used_defined c && acyclic c))
    unfolding settled
    valid = and_left (literals_right c && (used_defined c && acyclic c)) (closed c b ms) yes-settled

    right : T (literals_right c)
    right = and_left (literals_right c) (used_defined c && acyclic c) valid

    known : T (used_defined c)
    known = and_left (used_defined c) (acyclic c) (and_right (literals_right c) (used_defined c && acyclic c) valid)

    no-cycle : T (acyclic c)
    no-cycle = and_right (used_defined c) (acyclic c) (and_right (literals_right c) (used_defined c && acyclic c) valid)

    abbrev gates-test : Bool
    gates-test = every_below (length c.gates) (λ i. closed_at ms (gate_at c i))

    abbrev latches-test : Bool
    latches-test = every_below (length c.latches) (λ j. closed_at ms (as_gate (latch_at c j)))

    abbrev bad-test : Bool
    bad-test = every_below 1 (λ i. marked ms (get_or c.bads b 0))

    abbrev constraints-test : Bool
    constraints-test = every_below (length c.constraints) (λ i. marked ms (get_or c.constraints i 0))

    all_closed : T (gates-test && (latches-test && (bad-test && constraints-test)))
    unfolding settled closed
    all_closed = and_right (literals_right c && (used_defined c && acyclic c)) (closed c b ms) yes-settled

    gates-closed : T gates-test
    gates-closed = and_left gates-test (latches-test && (bad-test && constraints-test)) all_closed

    others-closed : T (latches-test && (bad-test && constraints-test))
    others-closed = and_right gates-test (latches-test && (bad-test && constraints-test)) all_closed

    latches-closed : T latches-test
    latches-closed = and_left latches-test (bad-test && constraints-test) others-closed

    roots-closed : T (bad-test && constraints-test)
    roots-closed = and_right latches-test (bad-test && constraints-test) others-closed

    bad-marked : T (need (var (get_or c.bads b 0)))
    bad-marked = below_at 1 (λ i. marked ms (get_or c.bads b 0)) (and_left bad-test constraints-test roots-closed) 0 (omega arith)

    constraint-marked : (i : ℕ) → i < length c.constraints → T (need (var (get_or c.constraints i 0)))
    constraint-marked i l = below_at (length c.constraints) (λ i. marked ms (get_or c.constraints i 0)) (and_right bad-test constraints-test roots-closed) i l

    kept-marked : (i : ℕ) → i < length (kept_below passing L) → T (need (var (latch_at c (get_or (kept_below passing L) i 0)).lit))
    kept-marked i l =
        ⊎_elim (λ t. absurd (not-both (settled c b) t yes-settled)) (λ t. t)
        (or_cases (not (settled c b)) (marked ms (latch_at c (get_or (kept_below passing L) i 0)).lit) (ks.passes i l))

    passing-marked : (j : ℕ) → T (need (var (latch_at c j).lit)) → T (passing j)
    passing-marked j t = or_right (not (settled c b)) (marked ms (latch_at c j).lit) t

    module _ (st st' row : List Bool) (agree : Agree part st st') where
      abbrev w : ℕ → Bool
      w = frame c st row

      abbrev u : ℕ → Bool
      u = frame c st' row

      latches-agree : (j : ℕ) → j < L → T (need (var (latch_at c j).lit)) → get_or st j false ≡ get_or st' j false
      latches-agree j l t =
          let r = ks.there j l (passing-marked j t) in
          subst (λ (x : ℕ). get_or st x false ≡ get_or st' x false) r.2 (agree r.0 r.1)

      on-cone : (l : ℕ) → T (need (var l)) → Known c (var l) → value w l ≡ value u l
      on-cone =
          depends c need right known no-cycle
          (λ i l t. closed-gate ms (gate_at c i) (below_at (length c.gates) (λ i. closed_at ms (gate_at c i)) gates-closed i l) t)
          (frame-valuation c right no-cycle st row) (frame-valuation c right no-cycle st' row) latches-agree

      cone-same : Same part b w u
      cone-same =
          record {
            constrained = every-same w u c.constraints (λ l m.
                let q = mem-at 0 m in
                subst (λ (x : ℕ). value w x ≡ value u x) q.2
                (on-cone (get_or c.constraints q.0 0) (constraint-marked q.0 q.1) (constraint-known c known q.0)));
            bad = on-cone (get_or c.bads b 0) bad-marked (bad-known c known b);
            next = λ i l.
                let j = get_or (kept_below passing L) i 0 in
                on-cone (latch_at c j).next
                (closed-gate ms (as_gate (latch_at c j)) (below_at L (λ j. closed_at ms (as_gate (latch_at c j))) latches-closed j (ks.below i l)) (kept-marked i l)).0
                (next_known c known j);
          }

  -- ---- where they are not, all latches are kept
  module _ (not-settled : T (not (settled c b))) where
    all_same : (st st' row : List Bool) → length st ≡ L → length st' ≡ L → Agree part st st' → Same part b (frame c st row) (frame c st' row)
    all_same st st' row e f agree =
        let q : st ≡ st' = ext_get_or false st st' (e ∙ sym f) (λ j l.
        let r = ks.there j (omega arith) (or_left (not (settled c b)) (marked (marks c b) (latch_at c j).lit) not-settled) in
        subst (λ (x : ℕ). get_or st x false ≡ get_or st' x false) r.2 (agree r.0 r.1)) in
        subst (λ (x : List Bool). Same part b (frame c st row) (frame c x row)) q
        (record { constrained = refl; bad = refl; next = λ i l. refl })

  -- the latches that are kept decide
  pub part-closed : Closed (part_of c b) b
  unfolding kept_latches
  part-closed =
      record {
        listed = record { inside = ks.below; rising = ks.rising };
        same = λ st st' row e f agree. go (settled c b) refl st st' row e f agree;
      }
    where
      go : (q : Bool) → settled c b ≡ q → (st st' row : List Bool) → length st ≡ L → length st' ≡ L → Agree part st st'
          → Same part b (frame c st row) (frame c st' row)
      go true e st st' row k l agree = cone-same (T_true e) st st' row agree
      go false e st st' row k l agree = all_same (subst (λ (x : Bool). T (not x)) (sym e) tt) st st' row k l agree

  -- there are no more of them than latches
  pub kept-few : length (kept_latches c b) ≤ length c.latches
  unfolding kept_latches
  kept-few = ks.few
