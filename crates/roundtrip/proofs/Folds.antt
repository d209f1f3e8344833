-- What fold writes, load accepts within its limits and refuses past them; the output of the circuit that it gives is the hit,
-- and for n at Clauses 5.1, 5.2.
-- most 12 it has no gate exactly where the hit is constant, an input or an input's complement. This holds of every circuit that fold may
-- write. Assumes nothing.
use mathlib.Core.Path.{◌≡◌, refl, sym, ap, ◌∙◌}
use mathlib.Core.Bool.{Bool, true, false, cond, ◌&&◌, ◌||◌, not, beq}
use mathlib.Core.List.{List, ◌∷◌}
use mathlib.Core.Logic.{◌⊎◌, inl, inr, ⊎_elim}
use Prim.Native.Nat.{ℕ, ◌+◌, ◌≤◌, ◌<◌, ◌^◌}
use native.Mathlib.Decide.{dec_lt}
use native.Mathlib.Omega.{arith}
use borrow.Author.Tests.{le-leb, lt-leb}
use lib.Dec.{T, leb, ltb, ltb→lt}
use lib.ListN.{length, take, drop}
use lib.Seq.{take_at}
use Rattle.aiger.specs.Lists.{every, pairwise, every_below}
use Rattle.aiger.specs.Circuit.{Circuit, var, literals_right, used_defined, acyclic}
use Rattle.aiger.specs.File.{header_of, counts_fit}
use Rattle.aiger.specs.Load.{Answer, refused, gives, load, needed}
use Rattle.aiger.specs.Write.{count_row, write}
use Rattle.aiger.specs.Frames.{value_at, free_bits, run}
use Rattle.aiger.specs.Search.{reaches}
use Rattle.aiger.specs.Memory.{Holds}
use Rattle.aiger.specs.Fold.{value_on, output, leads, reduced, fold_rules, folds}
use Rattle.aiger.specs.Operations.{Loaded, Operated, FoldEffect, Folded, fold_tests}
use Rattle.aiger.proofs.Tests.{and_left, and_right, or_cases, true-T, below_at, all-at}
use Rattle.meaning.proofs.Lists.{equal-of-beq}
use Rattle.meaning.proofs.Shape.{FoldShape, shape-out, shape-right, shape-defined, shape-acyclic, input-count, shape-bits, shape-values}
use Rattle.meaning.proofs.Leaves.{Leaf, leaf-equal, leaf-no-gate, no-gate-leaf}
use Rattle.roundtrip.proofs.LoadWrite.{Valid, counts-fit, load-write}
use Rattle.roundtrip.proofs.LoadValid.{load-valid, gives_same}
use Rattle.roundtrip.proofs.Limits.{text-lines, load-long, load_many, load-small}
use Rattle.roundtrip.proofs.Holding.{loaded-holds}
use Rattle.roundtrip.proofs.Determined.{loaded-same}

-- load's limits for a fold d of frame t of c, and a circuit memory of `room` words. The other limits follow: M is I + A, O is 1, L, B and C
-- are 0, and the text has at most 65,536 bytes.
pub record Loadable (room : ℕ) (c : Circuit) (t : ℕ) (d : Circuit) : Type 0 where
  pub inputs : free_bits c t ≤ 256
  pub gates : length d.gates ≤ 3072
  pub words : needed d.max_var ≤ room

-- the number with which load refuses a fold d of frame t of c past its limits: 4 where only the memory is too short; else 3, or 1 where the
-- text is longer than 65,536 bytes
abbrev pub refusal : Circuit → ℕ → Circuit → ℕ
refusal c t d = cond (leb (free_bits c t) 256 && leb (length d.gates) 3072) 4 (cond (leb (length (write d)) 65536) 3 1)

-- what the tests of a fold say of its shape, of its gates together, and of its output
record Parts (c : Circuit) (b t : ℕ) (d : Circuit) : Type 0 where
  shape : FoldShape (free_bits c t) d
  leading : T (every (λ g. leads d (length d.gates) (var g.lit)) d.gates)
  least : T (ltb 12 (free_bits c t) || reduced d (free_bits c t))
  hit : (x : ℕ) → x < 2 ^ free_bits c t → value_on d (free_bits c t) x (output d) ≡ reaches c b t x

not-true : (a : Bool) → (a ≡ true → ⊥) → a ≡ false
not-true true h = absurd (h refl)
not-true false h = refl

module _ (c : Circuit) (b t : ℕ) (d : Circuit) (f : T (folds c b t d)) where
  parts : Parts c b t d
  unfolding folds
  parts =
      let n = free_bits c t in
      let rules = fold_rules c b t d in
      record {
        shape = shape-out n d (all-at rules f 0);
        leading = all-at rules f 4;
        least = all-at rules f 5;
        hit = λ x h.
            equal-of-beq (value_on d n x (output d)) (reaches c b t x)
            (below_at (2 ^ n) (λ x. beq (value_on d n x (output d)) (reaches c b t x)) (all-at rules f 6) x h);
      }

  fold-shape : FoldShape (free_bits c t) d
  fold-shape = parts.shape

  -- the output has, under every sequence, the value of the hit
  pub folded-output : (x : ℕ) → x < 2 ^ free_bits c t → value_on d (free_bits c t) x (output d) ≡ reaches c b t x
  folded-output = parts.hit

  -- the same in frame 0 of the circuit itself, whose sequences have as many free bits
  pub folded-bits : free_bits d 0 ≡ free_bits c t
  folded-bits = shape-bits fold-shape

  pub folded-frame : (x : ℕ) → x < 2 ^ free_bits c t → value_at d (run d 0 x) 0 (output d) ≡ reaches c b t x
  folded-frame x h = shape-values fold-shape x (output d) ∙ folded-output x h

  -- ---- hits without a gate

  -- a hit that is constant, or an input or its complement, has no gate
  pub folded-leaf : free_bits c t ≤ 12 → Leaf (free_bits c t) (reaches c b t) → length d.gates ≡ 0
  folded-leaf h k =
      let n = free_bits c t in
      leaf-no-gate fold-shape parts.leading
      (⊎_elim (λ l. absurd (omega (arith, ltb→lt 12 n l))) (λ r. r) (or_cases (ltb 12 n) (reduced d n) parts.least))
      (leaf-equal folded-output k)

  -- and what has no gate is such a hit, whatever n is
  pub folded-no-gate : length d.gates ≡ 0 → Leaf (free_bits c t) (reaches c b t)
  folded-no-gate e = leaf-equal (λ x l. sym (folded-output x l)) (no-gate-leaf fold-shape e)

  -- ---- load's limits

  fold-counts : free_bits c t ≤ 256 → length d.gates ≤ 3072 → counts_fit (header_of d) ≡ true
  unfolding counts_fit
  fold-counts h k =
      let s = fold-shape in
      let i : length d.inputs ≡ free_bits c t = input-count s in
      let l : length d.latches ≡ 0 = ap length s.latches in
      let o : length d.outputs ≡ 1 = ap length s.outputs in
      let z : length d.bads ≡ 0 = ap length s.bads in
      let q : length d.constraints ≡ 0 = ap length s.constraints in
      simp (
        le-leb d.max_var 4096 (omega (arith, s.top)),
        le-leb (length d.inputs) 256 (omega arith),
        le-leb (length d.latches) 1024 (omega arith),
        le-leb (length d.outputs) 64 (omega arith),
        le-leb (length d.gates) 3072 k,
        le-leb (length d.bads) 16 (omega arith),
        le-leb (length d.constraints) 16 (omega arith),
        le-leb (length d.inputs + length d.latches + length d.gates) d.max_var (omega (arith, s.top)),
      )

  module _ {room : ℕ} where
    fold-valid : Loadable room c t d → Valid room d
    fold-valid l =
        let s = fold-shape in
        record {
          fit = fold-counts l.inputs l.gates;
          held = l.words;
          literals = true-T (literals_right d) (shape-right s);
          uses = true-T (used_defined d) (shape-defined s);
          order = true-T (acyclic d) (shape-acyclic s);
        }

    -- within the limits, and only there, load gives the circuit back
    pub folded-loads : Loadable room c t d → load room (write d) ≡ gives d
    folded-loads l = load-write (fold-valid l)

    pub folded-limits : load room (write d) ≡ gives d → Loadable room c t d
    folded-limits e =
        let v = load-valid (write d) e in
        let k = counts-fit d v.fit in
        record { inputs = omega (arith, k.inputs, input-count fold-shape); gates = k.gates; words = v.held }

  counts-unfit : (256 < free_bits c t) ⊎ (3072 < length d.gates) → counts_fit (header_of d) ≡ false
  counts-unfit h =
      not-true (counts_fit (header_of d))
      (λ e.
      let k = counts-fit d e in
      let i = input-count fold-shape in
      ⊎_elim (λ l. omega (arith, k.inputs)) (λ l. omega (arith, k.gates)) h)

  module _ (room : ℕ) where
    -- past the limits load refuses. Too many inputs or gates: with 3, or with 1 where the text is longer than 65,536 bytes
    pub folded-many : (256 < free_bits c t) ⊎ (3072 < length d.gates)
        → load room (write d) ≡ refused (cond (leb (length (write d)) 65536) 3 1)
    folded-many h =
        elim (dec_lt 65536 (length (write d))) [
          | yes l ↦ rw (lt-leb (length (write d)) 65536 l) (load-long room (write d) l)
          | no l ↦
              (let s : length (write d) ≤ 65536 = omega arith in
              let m : d.max_var < 10 ^ 10 = omega (arith, fold-shape.top, input-count fold-shape, text-lines d) in
              rw (le-leb (length (write d)) 65536 s) (load_many room d s m (counts-unfit h)))
        ]

    -- otherwise, where the memory is too short: with 4
    pub folded-small : free_bits c t ≤ 256 → length d.gates ≤ 3072 → room < needed d.max_var → load room (write d) ≡ refused 4
    folded-small i g h =
        let l : Loadable (needed d.max_var) c t d = record { inputs = i; gates = g; words = omega arith } in
        load-small (fold-valid l) room h

    -- together: load refuses wherever the fold is not within the limits
    pub folded-refused : (Loadable room c t d → ⊥) → load room (write d) ≡ refused (refusal c t d)
    folded-refused h =
        elim (dec_lt 256 (free_bits c t)) [
          | yes l ↦ rw (lt-leb (free_bits c t) 256 l) (folded-many (inl l))
          | no l ↦
              (let i : free_bits c t ≤ 256 = omega arith in
              rw (le-leb (free_bits c t) 256 i)
              (elim (dec_lt 3072 (length d.gates)) [
                | yes k ↦ rw (lt-leb (length d.gates) 3072 k) (folded-many (inr k))
                | no k ↦
                    (let g : length d.gates ≤ 3072 = omega arith in
                    rw (le-leb (length d.gates) 3072 g)
                    (elim (dec_lt room (needed d.max_var)) [
                      | yes s ↦ folded-small i g s
                      | no s ↦ absurd (h (record { inputs = i; gates = g; words = omega arith }))
                    ]))
              ]))
        ]

-- what holds of the text that fold wrote for bad line b and frame t of the circuit that memory m holds
pub record Reloads (m : List ℕ) (b t : ℕ) (text : List ℕ) : Type 0 where
  pub c : Circuit
  pub d : Circuit
  pub held : Holds m c
  pub permitted : T (folds c b t d)
  pub text-is : text ≡ write d
  pub loads : (room : ℕ) → Loadable room c t d → load room text ≡ gives d
  pub refuses : (room : ℕ) → (Loadable room c t d → ⊥) → load room text ≡ refused (refusal c t d)
  pub hit : (x : ℕ) → x < 2 ^ free_bits c t → value_on d (free_bits c t) x (output d) ≡ reaches c b t x

reloads : {chosen : Circuit → ℕ → ℕ → Circuit} {m w out : List ℕ} {left : List ℕ × List ℕ} {b t n : ℕ} {a : Answer ℕ}
    → Operated m (λ c. fold_tests c b t (length w) (length out)) (w, out) (FoldEffect chosen b t out) a left → a ≡ gives n
    → Reloads m b t (take n left.1)
reloads (Operated.no_circuit h) q = let z : ◌≡◌ {A = ℕ} 0 1 = cc in absurd (omega arith)
reloads (Operated.refuses c h e) q = let z : ◌≡◌ {A = ℕ} 0 1 = cc in absurd (omega arith)
reloads {chosen = chosen} {out = out} {left = left} {b = b} {t = t} {n = n} (Operated.acts c h e f) q =
    let d : Circuit = chosen c b t in
    let s : take n left.1 ≡ write d =
    ap (take n) f.shows ∙ take_at (write d) (drop (length (write d)) out) n (sym f.count ∙ gives_same q) in
    record {
      c = c;
      d = d;
      held = h;
      permitted = f.permitted;
      text-is = s;
      loads = λ room l. rw s (folded-loads c b t d f.permitted l);
      refuses = λ room l. rw s (folded-refused c b t d f.permitted room l);
      hit = folded-output c b t d f.permitted;
    }

-- a folded text loads exactly where it is within load's limits, and its output is the hit
pub folded-reloads : {chosen : Circuit → ℕ → ℕ → Circuit} {m w out w' out' : List ℕ} {b t n : ℕ} → Folded chosen m b t w out (gives n) w' out' → Reloads m b t (take n out')
folded-reloads f = reloads f refl

-- so the operation load answers its counts and leaves a memory that holds the folded circuit
pub reloads-loaded : {m text m₂ m₂' : List ℕ} {b t : ℕ} {a : Answer (List ℕ)} (r : Reloads m b t text) → Loadable (length m₂) r.c t r.d
    → Loaded m₂ text a m₂' → (a ≡ gives (r.d.max_var ∷ count_row r.d)) × Holds m₂' r.d
reloads-loaded {text = text} {m₂ = m₂} r l k =
    let e = r.loads (length m₂) l in
    let s = loaded-same k (Loaded.stores r.d e) in
    (s.0, rw s.1 (loaded-holds m₂ text e))

-- and past the limits it refuses, and leaves the memory as it was
pub reloads-refused : {m text m₂ m₂' : List ℕ} {b t : ℕ} {a : Answer (List ℕ)} (r : Reloads m b t text)
    → (Loadable (length m₂) r.c t r.d → ⊥)
    → Loaded m₂ text a m₂' → (a ≡ refused (refusal r.c t r.d)) × (m₂' ≡ m₂)
reloads-refused {m₂ = m₂} r l k = loaded-same k (Loaded.refuses (r.refuses (length m₂) l))
