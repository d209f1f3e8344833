-- An enumeration that goes on from a sequence, and where it ends. Assumes nothing.
use mathlib.Core.Path.{◌≡◌, refl, sym, ap, ◌∙◌, subst}
use mathlib.Core.Bool.{Bool, true, false, cond}
use mathlib.Core.List.{List}
use Prim.Native.Nat.{ℕ, zero, suc, ◌+◌, ◌-◌, ◌*◌, ◌/◌, ◌%◌, ◌^◌, ◌≤◌, ◌<◌, min}
use native.Mathlib.Omega.{arith}
use borrow.Author.Tests.{le-leb, lt-leb}
use lib.Pow.{pow_mono}
use lib.Dec.{T, leb}
use lib.ListN.{length, get_or}
use Rattle.aiger.specs.Bits.{nonzero}
use Rattle.aiger.specs.Frames.{free_bit}
use Rattle.enumeration.specs.Frame.{FreeBits}
use Rattle.nodes.specs.Graph.{Pair}
use Rattle.nodes.specs.Store.{pairs_of}
use Rattle.nodes.specs.declared.Graph.{Graph}
use Rattle.cone.specs.Cone.{in_cone}
use Rattle.support.specs.Counting.{after, rank, spread, passed}
use Rattle.support.specs.Support.{support}
use Rattle.support.proofs.Counting.{rank-bound, spread-lt, spread-ge, passed-part}
use Rattle.simulation.specs.Store.{Net, hit_at}
use Rattle.simulation.specs.Found.{NoHit}
use Rattle.solver.specs.Solved.{FloorLeft}
use Rattle.resume.specs.Resume.{before, marked, place_of, Spread}
use Rattle.resume.proofs.Turns.{spread-bits}
use Rattle.resume.proofs.Places.{before_same, before-most, before-less, before_more}
use Rattle.decision.specs.Reach.{end_of}
use Rattle.decision.specs.Decided.{Scannable, Resumable, Stopped}
use Rattle.aiger.proofs.Tests.{nonzero-bit}

spread_same : (s t : ℕ → Bool) → ((i : ℕ) → s i ≡ t i) → (n y : ℕ) → spread s n y ≡ spread t n y
unfolding spread
spread_same s t e zero y = refl
spread_same s t e (suc n) y =
    let a = after s in
    let b = after t in
    let r = spread_same a b (λ i. e (suc i)) n in
    ap (λ (c : Bool). cond c (2 * spread a n (y / 2) + y % 2) (2 * spread a n y)) (e 0)
    ∙ ap (λ (c : ℕ). cond (t 0) (2 * c + y % 2) (2 * spread a n y)) (r (y / 2))
    ∙ ap (λ (c : ℕ). cond (t 0) (2 * spread b n (y / 2) + y % 2) (2 * c)) (r y)

-- ---- where it ends

module _ (n : ℕ) (gs : List Pair) (root D x : ℕ) where
  -- the places to be tried lie before the floor
  pub stop-floor : D ≤ before (in_cone n gs root) (free_bit n x) n → {words : List ℕ} → FloorLeft n gs root x words → (last : List ℕ) → FreeBits n x last
      → Stopped n gs root D x last
  stop-floor h left last bits =
      let s = support n gs root in
      let d = in_cone n gs root in
      let e : end_of n gs root D x ≡ x = ap (λ (b : Bool). cond b x (passed s n D)) (le-leb D (before d (free_bit n x) n) h) in
      let l : D < 2 ^ rank s n = omega (arith, before-most d n x) in
      let m = before_more d n x D h in
      record {
        beyond = l;
        tried = λ z k t. left.none z (omega (arith, passed-part s n D l)) t;
        none = subst (NoHit n gs root) (sym e) left.none;
        least = omega (arith, spread-ge s n D l);
        most = omega (arith, left.place);
        bits = subst (λ (z : ℕ). FreeBits n z last) (sym e) bits;
      }

  -- all of them were tried
  pub stop-tried : before (in_cone n gs root) (free_bit n x) n < D → D < 2 ^ rank (support n gs root) n → NoHit n gs root (passed (support n gs root) n D)
      → (last : List ℕ) → FreeBits n (spread (support n gs root) n D) last → Stopped n gs root D x last
  stop-tried h l none last bits =
      let s = support n gs root in
      let p = passed-part s n D l in
      let e : end_of n gs root D x ≡ passed s n D =
      ap (λ (b : Bool). cond b x (passed s n D)) (lt-leb D (before (in_cone n gs root) (free_bit n x) n) h) in
      record {
        beyond = l;
        tried = none;
        none = subst (NoHit n gs root) (sym e) none;
        least = omega (arith, spread-ge s n D l);
        most = omega (arith, spread-lt s n D);
        bits = subst (λ (z : ℕ). FreeBits n z last) (sym (e ∙ p)) bits;
      }

-- ---- by the marks

module _ {work : List ℕ} {g : Graph} {root : ℕ} (net : Net (pairs_of work g) root work g) where
  mark-is : (v : ℕ) → v ≤ g.free → marked work v ≡ in_cone g.free (pairs_of work g) root v
  mark-is v h = ap nonzero (net.marks v (omega (arith, net.sized.leaves))) ∙ nonzero-bit (in_cone g.free (pairs_of work g) root v)

  pub place_is : (x : ℕ) (bits : List ℕ) → FreeBits g.free x bits
      → place_of work bits g.free ≡ before (in_cone g.free (pairs_of work g) root) (free_bit g.free x) g.free
  place_is x bits f =
      before_same (marked work) (in_cone g.free (pairs_of work g) root) (λ j. nonzero (get_or bits j 0)) (free_bit g.free x) g.free mark-is f

  pub spread-is : (y : ℕ) {old : List ℕ} (bits : List ℕ) → Spread work y g.free old bits
      → FreeBits g.free (spread (support g.free (pairs_of work g) root) g.free y) bits
  spread-is y bits f =
      subst (λ (z : ℕ). FreeBits g.free z bits)
      (spread_same (λ i. marked work (g.free - i)) (support g.free (pairs_of work g) root) (λ i. mark-is (g.free - i) (omega arith))
      g.free y)
      (spread-bits f)

  -- no place before the floor hits
  pub scannable-from : (D x : ℕ) (bits : List ℕ) (from : ℕ) → D ≤ 4294967296 → FloorLeft g.free (pairs_of work g) root x bits
      → from ≡ min 4294967296 (place_of work bits g.free) → Scannable work g root from D
  scannable-from D x bits from h left e =
      record {
        net = net;
        budget = h;
        none = λ y l t.
            left.none (spread (support g.free (pairs_of work g) root) g.free y)
            (before-less (in_cone g.free (pairs_of work g) root) g.free x y (omega (arith, place_is x bits left.bits))) t;
      }

  pub scannable-all : (D : ℕ) → D ≤ 4294967296 → Scannable work g root 0 D
  scannable-all D h = record { net = net; budget = h; none = λ y l t. absurd (omega arith) }

-- ---- what is left at the front

pub bits-copied : (n x : ℕ) (from to : List ℕ) → FreeBits n x from → ((j : ℕ) → j < n → get_or to j 0 ≡ get_or from j 0) → FreeBits n x to
bits-copied n x from to f e j h = ap nonzero (e j h) ∙ f j h
