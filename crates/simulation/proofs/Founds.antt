-- What the scan of the places says of the sequences. Assumes nothing.
use mathlib.Core.Path.{◌≡◌, refl, sym, ap, ◌∙◌, subst}
use mathlib.Core.Bool.{Bool, true, false, ◌&&◌}
use mathlib.Core.List.{List}
use Prim.Native.Nat.{ℕ, ◌+◌, ◌-◌, ◌*◌, ◌^◌, ◌≤◌, ◌<◌, min}
use native.Mathlib.Decide.{dec_lt}
use native.Mathlib.Omega.{arith}
use borrow.Author.Tests.{leb-true, leb-false}
use lib.Dec.{T, leb}
use lib.ListN.{length, get_or}
use Rattle.aiger.specs.Bits.{nonzero, bit}
use Rattle.aiger.specs.Circuit.{var}
use Rattle.aiger.specs.Frames.{free_bit}
use Rattle.words.proofs.Bits.{bit-beyond}
use Rattle.nodes.specs.Graph.{Pair, nodes, Built}
use Rattle.nodes.specs.Store.{pairs_of}
use Rattle.nodes.specs.declared.Graph.{Graph}
use Rattle.cone.specs.Cone.{in_cone}
use Rattle.support.specs.Counting.{rank, spread, passed, First}
use Rattle.support.specs.Support.{support}
use Rattle.support.proofs.Counting.{rank-zero, spread-bit, spread-passed, passed-all, none_before, none_passed}
use Rattle.support.proofs.Support.{root-sees}
use Rattle.simulation.specs.Store.{Net, SlotsOf, SlotsTo, SlotsFilled, BitsPut, Scannable, Started, InBlock, hit_at, Firsts}
use Rattle.simulation.specs.Found.{root_at, NoHit, Counted, FirstHit}
use Rattle.simulation.proofs.Nets.{net-gates}
use Rattle.simulation.proofs.Places.{slot_at, slot-rank, rank-slot, same-pairs, scannable-kept}

-- ---- the first place and the first sequence

module _ (n : ℕ) (gs : List Pair) (root D : ℕ) (built : Built n gs) (inside : var root < nodes n gs) {total y : ℕ}
    (size : total ≡ min (2 ^ rank (support n gs root) n) D) (f : First (hit_at n gs root) total y) where
  pub found-hit : (work : List ℕ) → y < total → ((j : ℕ) → j < n → nonzero (get_or work j 0) ≡ free_bit n (spread (support n gs root) n y) j)
      → FirstHit n gs root D work (spread (support n gs root) n y)
  found-hit work l bits =
      let s = support n gs root in
      record {
        below = spread-passed s n D y (omega arith);
        hit = f.here l;
        first = none_before s n (root_at n gs root) (λ x h. root-sees n gs root built inside x) y f.before;
        bits = bits;
      }

  none_yet : total ≤ y → NoHit n gs root (passed (support n gs root) n D)
  none_yet l =
      none_passed (support n gs root) n (root_at n gs root) (λ x h. root-sees n gs root built inside x) D (λ z h. f.before z (omega arith))

  pub found-clear : total ≤ y → leb (2 ^ rank (support n gs root) n) D ≡ true → (2 ^ rank (support n gs root) n ≤ D) × NoHit n gs root (2 ^ n)
  found-clear l e =
      let h : 2 ^ rank (support n gs root) n ≤ D = leb-true (2 ^ rank (support n gs root) n) D e in
      (h, subst (NoHit n gs root) (passed-all (support n gs root) n D h) (none_yet l))

  pub found-spent : total ≤ y → leb (2 ^ rank (support n gs root) n) D ≡ false
      → (D < 2 ^ rank (support n gs root) n) × NoHit n gs root (passed (support n gs root) n D)
  found-spent l e = (leb-false (2 ^ rank (support n gs root) n) D e, none_yet l)

-- ---- the free bits of a place

module _ {gs : List Pair} {root : ℕ} {work : List ℕ} {g : Graph} {slots : List ℕ} {count : ℕ} (net : Net gs root work g) (so : SlotsOf gs root g slots count)
    (mid last : List ℕ) (y : ℕ) (small : y < 4294967296) (zeros : (j : ℕ) → j < g.free → get_or mid j 0 ≡ 0) (put : BitsPut mid last slots count y) where
  pub place-bits : (j : ℕ) → j < g.free → nonzero (get_or last j 0) ≡ free_bit g.free (spread (support g.free gs root) g.free y) j
  place-bits j h =
      go (support g.free gs root (g.free - (j + 1))) refl ∙ sym (spread-bit (support g.free gs root) g.free y (g.free - (j + 1)) (omega arith))
    where
      i-is : g.free - (g.free - (j + 1)) ≡ j + 1
      i-is = omega arith

      unslotted : ((k : ℕ) → k < count → get_or slots k 0 ≡ j + 1 → ⊥) → nonzero (get_or last j 0) ≡ false
      unslotted n = ap nonzero (put.others j n ∙ zeros j h)

      go : (b : Bool) → support g.free gs root (g.free - (j + 1)) ≡ b
          → nonzero (get_or last j 0) ≡ (support g.free gs root (g.free - (j + 1)) && bit y (rank (support g.free gs root) (g.free - (j + 1))))
      go true e =
          let r = rank (support g.free gs root) (g.free - (j + 1)) in
          let t : T (in_cone g.free gs root (j + 1)) = subst (λ (x : ℕ). T (in_cone g.free gs root x)) i-is (subst T (sym e) tt) in
          elim (dec_lt r 32) [
            | yes w ↦
                (let p = rank-slot net so j h t w in
                let q : get_or slots r 0 - 1 ≡ j = omega (arith, p.1) in
                ap (λ (x : ℕ). nonzero (get_or last x 0)) (sym q) ∙ put.new r p.0)
            | no w ↦
                unslotted (λ k l z. omega (arith, so.count-is, slot-rank net so j k h l z)) ∙ sym (bit-beyond 32 y r (omega arith) (omega arith))
          ]
          ∙ ap (λ (b : Bool). b && bit y r) (sym e)
      go false e =
          unslotted
          (λ k l z.
          let p = slot_at net so k l in
          let q : p.0 ≡ g.free - (j + 1) = omega (arith, p.4, p.1) in
          subst T (ap (support g.free gs root) q ∙ e) p.2)
          ∙ ap (λ (b : Bool). b && bit y (rank (support g.free gs root) (g.free - (j + 1)))) (sym e)

-- ---- the scan of the slots

pub slots-of : {gs : List Pair} {root : ℕ} {g : Graph} {slots : List ℕ} {from r : ℕ} (count : ℕ) → Counted gs root g slots from r → count ≡ min r 32 → SlotsOf gs root g slots count
slots-of count c e = record { held = c.held; count-is = omega (arith, c.count); slots-are = c.slots-are }

pub total-small : (r D count total : ℕ) → count ≡ min r 32 → D ≤ 4294967296 → total ≡ min (2 ^ r) D → total ≤ 2 ^ count
total-small r D count total e h z =
    elim (dec_lt r 33) [
      | yes l ↦ (let q : count ≡ r = omega arith in omega (arith, ap (λ (x : ℕ). 2 ^ x) q))
      | no l ↦ (let q : count ≡ 32 = omega arith in omega (arith, ap (λ (x : ℕ). 2 ^ x) q))
    ]

module _ {root : ℕ} {work : List ℕ} {g : Graph} {slots firsts : List ℕ} {count : ℕ} (s : Scannable work g root slots firsts count) (last : List ℕ) (block r : ℕ)
    (size : length last ≡ length work) (e : Started work last g root block r) where
  abbrev q : pairs_of last g ≡ pairs_of work g
  q = same-pairs s last e.kept size

  pub started-ready : Scannable last g root slots firsts count
  started-ready = scannable-kept s last e.kept size

  pub started-values : InBlock g.free (pairs_of last g) root block last g.nodes
  started-values = subst (λ (gs : List Pair). InBlock g.free gs root block last g.nodes) (sym q) e.values

  pub started-hits : (p : ℕ) → p < 64 → bit r p ≡ hit_at g.free (pairs_of last g) root (block * 64 + p)
  started-hits = subst (λ (gs : List Pair). (p : ℕ) → p < 64 → bit r p ≡ hit_at g.free gs root (block * 64 + p)) (sym q) e.hits

  pub started_none : ((y : ℕ) → y < 64 * block → T (hit_at g.free (pairs_of work g) root y) → ⊥) → (y : ℕ) → y < 64 * block → T (hit_at g.free (pairs_of last g) root y) → ⊥
  started_none h = subst (λ (gs : List Pair). (y : ℕ) → y < 64 * block → T (hit_at g.free gs root y) → ⊥) (sym q) h

  pub scanned-first : (total y : ℕ) → First (hit_at g.free (pairs_of last g) root) total y → First (hit_at g.free (pairs_of work g) root) total y
  scanned-first total y f = subst (λ (gs : List Pair). First (hit_at g.free gs root) total y) q f

-- no slot is asked for at the start
pub slots-start : (work : List ℕ) (g : Graph) (slots : List ℕ) → SlotsTo work g slots 0
slots-start work g slots gs root net j h t l = absurd (omega arith)

pub net-nodes : {gs : List Pair} {root : ℕ} {work : List ℕ} {g : Graph} → Net gs root work g → var root < nodes g.free gs
net-nodes {gs} {root} {work} {g} net = omega (arith, net.inside, net-gates net, net.sized.leaves)

-- the slots of all free bits that count
pub count-slots : (work : List ℕ) (g : Graph) (root : ℕ) {slots : List ℕ} (last : List ℕ) (from r : ℕ) → Net (pairs_of work g) root work g
    → ((y : ℕ) → y < from → T (hit_at g.free (pairs_of work g) root y) → ⊥) → length last ≡ 32 → SlotsFilled work g slots last 0 g.free 0 r
    → Counted (pairs_of work g) root g last from r
count-slots work g root {slots} last from r net none size a =
    let gs = pairs_of work g in
    let ranks : (hs : List Pair) (e : ℕ) → Net hs e work g → 0 ≡ rank (support g.free hs e) 0 = λ hs e m. sym (rank-zero (support g.free hs e)) in
    record {
      held = size;
      count = a.next-is gs root net (ranks gs root net);
      slots-are = a.slots-are ranks (slots-start work g slots) gs root net;
      none = none;
    }
