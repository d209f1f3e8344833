-- What the verdicts of the conflict search say, and that more effort keeps a verdict. Assumes nothing.
use mathlib.Core.Path.{◌≡◌, refl, ap, ◌∙◌}
use mathlib.Core.Bool.{Bool, true, false, cond}
use mathlib.Core.List.{List}
use Prim.Native.Nat.{ℕ, zero, suc, ◌-◌, ◌^◌, ◌≤◌, ◌<◌}
use native.Mathlib.Nat.{pow-suc, pow-zero}
use native.Mathlib.Decide.{ℕ_discrete}
use native.Mathlib.Omega.{arith}
use borrow.Author.Tests.{eq-eqb, ne_eqb, eqb-true, leb-false}
use lib.Dec.{T, eqb, leb}
use Rattle.aiger.specs.Frames.{value}
use Rattle.memory.specs.declared.Netlist.{Netlist}
use Rattle.clauses.specs.Floor.{Floor, prefix}
use Rattle.floor.proofs.Rise.{bits, digits}
use Rattle.heap.specs.Heap.{heap_of}
use Rattle.learning.specs.declared.Search.{Search}
use Rattle.learning.specs.Learning.{Searched, searched}
use Rattle.choices.specs.Begun.{Begun}
use Rattle.choices.proofs.Sound.{Holds, holds, floor_at}
use Rattle.conflicts.specs.declared.Verdict.{Verdict}
use Rattle.conflicts.specs.Conflicts.{Result, initial, begun, run, ran, stepped, steps, verdict_of}
use Rattle.conflicts.proofs.Begin.{begin-standing}
use Rattle.conflicts.proofs.Sound.{steps-hold}
use Rattle.conflicts.proofs.Turns.{steps-over, steps-more}

module _ (x n : ℕ) where
  found-one : verdict_of x n ≡ Verdict.Found → x ≡ 1
  unfolding verdict_of
  found-one e = go (ℕ_discrete x 1) (ℕ_discrete x 2)
    where
      go : Dec (x ≡ 1) → Dec (x ≡ 2) → x ≡ 1
      go (yes p) q = p
      go (no p) (yes q) =
          let f : Verdict.Clear n ≡ Verdict.Found = rw (ne_eqb x 1 p, eq-eqb x 2 q) at e in
          absurd (let z : ◌≡◌ {A = ℕ} 0 1 = cc in omega arith)
      go (no p) (no q) =
          let f : Verdict.Out ≡ Verdict.Found = rw (ne_eqb x 1 p, ne_eqb x 2 q) at e in
          absurd (let z : ◌≡◌ {A = ℕ} 0 1 = cc in omega arith)

  clear-two : {m : ℕ} → verdict_of x n ≡ Verdict.Clear m → x ≡ 2
  unfolding verdict_of
  clear-two {m} e = go (ℕ_discrete x 1) (ℕ_discrete x 2)
    where
      go : Dec (x ≡ 1) → Dec (x ≡ 2) → x ≡ 2
      go (yes p) q =
          let f : Verdict.Found ≡ Verdict.Clear m = rw (eq-eqb x 1 p) at e in
          absurd (let z : ◌≡◌ {A = ℕ} 0 1 = cc in omega arith)
      go (no p) (yes q) = q
      go (no p) (no q) =
          let f : Verdict.Out ≡ Verdict.Clear m = rw (ne_eqb x 1 p, ne_eqb x 2 q) at e in
          absurd (let z : ◌≡◌ {A = ℕ} 0 1 = cc in omega arith)

  found-out : x ≡ 1 → verdict_of x n ≡ Verdict.Out → ⊥
  unfolding verdict_of
  found-out p e =
      let f : Verdict.Found ≡ Verdict.Out = rw (eq-eqb x 1 p) at e in
      let z : ◌≡◌ {A = ℕ} 0 1 = cc in
      omega arith

  clear-out : x ≡ 2 → verdict_of x n ≡ Verdict.Out → ⊥
  unfolding verdict_of
  clear-out p e =
      let other : (x ≡ 1 → ⊥) = λ q. omega arith in
      let f : Verdict.Clear n ≡ Verdict.Out = rw (ne_eqb x 1 other, eq-eqb x 2 p) at e in
      let z : ◌≡◌ {A = ℕ} 0 1 = cc in
      omega arith

module _ (hit : (ℕ → Bool) → Type 0) (hits : ℕ → Type 0) (val : ℕ → ℕ → Bool) (net : Netlist) (w : List ℕ) (begin : Begun hit hits val net w)
    (effort : ℕ) where
  end-holds : Holds hit hits val net w begin (run w net effort)
  end-holds =
      let h = begun w net in
      let s = initial h.heap in
      steps-hold hit hits val net w begin h.words s effort effort
      (holds hit hits val net w begin (searched h.words s) (begin-standing hit hits val net w begin (heap_of 0 1024), refl))

  -- Found: the root is true at the floor's place, no smaller place is looked for, and it is no lower than the floor at the beginning
  pub found_first : (ran w net effort).verdict ≡ Verdict.Found
      → Floor hits (floor_at net (ran w net effort).words) × T (value (val (floor_at net (ran w net effort).words)) net.root)
      × (floor_at net w ≤ floor_at net (ran w net effort).words)
  unfolding ran
  found_first e = end-holds.found (found-one (run w net effort).search.order.verdict (run w net effort).search.order.ticks e)

  -- Clear: no place is looked for
  pub clear_none : {n : ℕ} → (ran w net effort).verdict ≡ Verdict.Clear n → (x : ℕ) → hits x → ⊥
  unfolding ran
  clear_none e = end-holds.clear (clear-two (run w net effort).search.order.verdict (run w net effort).search.order.ticks e)

  -- Out: no place below the floor is looked for
  pub out-floor : (ran w net effort).verdict ≡ Verdict.Out → Floor hits (floor_at net (ran w net effort).words)
  unfolding ran
  out-floor e =
      let x = (run w net effort).search.order.verdict in
      let n = (run w net effort).search.order.ticks in
      end-holds.out (λ z. found-out x n z e) (λ z. clear-out x n z e)

-- ---- the floor is a place

prefix-bound : (b : ℕ → ℕ) → ((v : ℕ) → b v < 2) → (n : ℕ) → prefix b n < 2 ^ n
unfolding prefix
prefix-bound b d zero = omega (arith, pow-zero 2)
prefix-bound b d (suc n) = omega (arith, prefix-bound b d n, d (suc n), pow-suc 2 n)

pub floor-bound : (net : Netlist) (w : List ℕ) → floor_at net w < 2 ^ net.free
floor-bound net w = prefix-bound (bits w net.nodes) (digits w net.nodes) net.free

-- ---- more effort

steps-again : (w : List ℕ) (net : Netlist) (s : Search) (e f k j : ℕ) → e ≤ f → k ≤ j → ((steps w net s e k).search.order.verdict ≡ 0 → ⊥)
    → steps w net s f j ≡ steps w net s e k
unfolding steps
steps-again w net s e f zero j l m n = steps-over w net s f j n
steps-again w net s e f (suc k) j l m n =
    go (eqb s.order.verdict 0) refl (leb e s.order.ticks) refl n
    (λ h. steps-again (stepped w net s).words net (stepped w net s).search e f k (j - 1) l (omega arith) h)
  where
    go : (a : Bool) → eqb s.order.verdict 0 ≡ a → (b : Bool) → leb e s.order.ticks ≡ b
        → ((cond a (cond b (searched w s) (steps (stepped w net s).words net (stepped w net s).search e k)) (searched w s)).search.order.verdict ≡ 0 → ⊥)
        → (((steps (stepped w net s).words net (stepped w net s).search e k).search.order.verdict ≡ 0 → ⊥)
        → steps (stepped w net s).words net (stepped w net s).search f (j - 1) ≡ steps (stepped w net s).words net (stepped w net s).search e k)
        → steps w net s f j ≡ cond a (cond b (searched w s) (steps (stepped w net s).words net (stepped w net s).search e k)) (searched w s)
    go false p b q h rec = steps-over w net s f j h
    go true p true q h rec = absurd (h (eqb-true s.order.verdict 0 p))
    go true p false q h rec =
        steps-more w net s f j (omega arith) (eqb-true s.order.verdict 0 p) (omega (arith, leb-false e s.order.ticks q)) ∙ rec h

out-zero : (n : ℕ) → verdict_of 0 n ≡ Verdict.Out
unfolding verdict_of
out-zero n = refl

-- a search that ends with Found or Clear ends so with every larger effort, after the same work, and leaves the same words
pub more-effort : (w : List ℕ) (net : Netlist) (e f : ℕ) → e ≤ f → ((ran w net e).verdict ≡ Verdict.Out → ⊥) → ran w net f ≡ ran w net e
unfolding ran
more-effort w net e f l n =
    let h = begun w net in
    let s = initial h.heap in
    let ticks = (run w net e).search.order.ticks in
    let same = steps-again h.words net s e f e f l l (λ z. n (ap (λ (x : ℕ). verdict_of x ticks) z ∙ out-zero ticks)) in
    let result : Searched → Result =
    λ t. record { words = t.words; verdict = verdict_of t.search.order.verdict t.search.order.ticks } in
    ap result same
