-- Searches that bytes may stand for: they stay such in a turn, and their numbers have eight bytes. Assumes nothing.
use mathlib.Core.Path.{◌≡◌, refl, sym, ap, ◌∙◌, subst}
use mathlib.Core.Bool.{Bool, true, false, cond, ◌&&◌}
use mathlib.Core.List.{List}
use Prim.Native.Nat.{ℕ, ◌+◌, ◌≤◌, ◌<◌}
use native.Mathlib.Omega.{arith}
use lib.Dec.{T, leb, ltb, leb→le, le→leb}
use lib.ListN.{get_or}
use borrow.Author.Tests.{ltb-true}
use Rattle.aiger.specs.Search.{greatest}
use Rattle.aiger.proofs.Tests.{and, and_left, and_right, T_true, true-T}
use Rattle.place_search.specs.Places.{Placed}
use Rattle.benches.specs.declared.Entry.{Entry}
use Rattle.benches.specs.Bench.{no_entry, moved, entry_after}
use Rattle.bench_bytes.specs.Bytes.{number_at, raw_at, is_entry, meant, entry_at}
use Rattle.bench_bytes.proofs.Stores.{number_small}
use Rattle.bench_bytes.proofs.Records.{Fits}

-- the test of a search, in plain terms
pub record Right (e : Entry) : Type 0 where
  pub used : 1 ≤ e.stage
  pub stage : e.stage ≤ 3
  pub bound : e.k ≤ 255
  pub within : e.frame ≤ e.k
  pub budget : e.budget ≤ 4294967296

pub right-out : (e : Entry) → T (is_entry e) → Right e
right-out e h =
    let p1 = leb 1 e.stage in
    let p2 = leb e.stage 3 in
    let p3 = leb e.k 255 in
    let p4 = leb e.frame e.k in
    let p5 = leb e.budget 4294967296 in
    let h4 = and_left (p1 && p2 && p3 && p4) p5 h in
    let h3 = and_left (p1 && p2 && p3) p4 h4 in
    let h2 = and_left (p1 && p2) p3 h3 in
    record {
      used = leb→le 1 e.stage (and_left p1 p2 h2);
      stage = leb→le e.stage 3 (and_right p1 p2 h2);
      bound = leb→le e.k 255 (and_right (p1 && p2) p3 h3);
      within = leb→le e.frame e.k (and_right (p1 && p2 && p3) p4 h4);
      budget = leb→le e.budget 4294967296 (and_right (p1 && p2 && p3 && p4) p5 h);
    }

pub right-in : (e : Entry) → Right e → T (is_entry e)
right-in e r =
    let p1 = leb 1 e.stage in
    let p2 = leb e.stage 3 in
    let p3 = leb e.k 255 in
    let p4 = leb e.frame e.k in
    let p5 = leb e.budget 4294967296 in
    and (p1 && p2 && p3 && p4) p5
    (and (p1 && p2 && p3) p4
    (and (p1 && p2) p3 (and p1 p2 (le→leb 1 e.stage r.used) (le→leb e.stage 3 r.stage)) (le→leb e.k 255 r.bound))
    (le→leb e.frame e.k r.within))
    (le→leb e.budget 4294967296 r.budget)

-- such a search means itself
pub right-meant : (e : Entry) → Right e → meant e ≡ e
right-meant e r = ap (λ (t : Bool). cond t e no_entry) (true-T (is_entry e) (right-in e r))

-- what is meant is such a search where its number is in use
pub meant-right : (e : Entry) → ((meant e).stage ≡ 0 → ⊥) → Right (meant e)
meant-right e f = go (is_entry e) refl f
  where
    go : (t : Bool) → is_entry e ≡ t → ((cond t e no_entry).stage ≡ 0 → ⊥) → Right (cond t e no_entry)
    go true h f = right-out e (T_true h)
    go false h f = absurd (f refl)

-- a turn keeps it so
pub after-right : (e : Entry) (grant : ℕ) (a : Placed) → Right e → Right (entry_after e grant a)
after-right e grant (Placed.hit x) r =
    record { used = omega arith; stage = omega arith; bound = r.bound; within = r.within; budget = omega (arith, r.budget) }
after-right e grant Placed.clear r = go (ltb e.frame e.k) refl
  where
    go : (t : Bool) → ltb e.frame e.k ≡ t → Right (cond t (moved e grant 1 (e.frame + 1) 0) (moved e grant 3 e.frame e.place))
    go true h =
        record {
          used = omega arith;
          stage = omega arith;
          bound = r.bound;
          within = omega (arith, ltb-true e.frame e.k h);
          budget = omega (arith, r.budget);
        }
    go false h = record { used = omega arith; stage = omega arith; bound = r.bound; within = r.within; budget = omega (arith, r.budget) }
after-right e grant (Placed.spent R) r =
    record { used = omega arith; stage = omega arith; bound = r.bound; within = r.within; budget = omega (arith, r.budget) }

-- a place that is told has eight bytes
abbrev pub Told : Placed → Type 0
Told (Placed.hit x) = Unit {0}
Told Placed.clear = Unit {0}
Told (Placed.spent R) = R ≤ greatest

pub after-fits : (e : Entry) (grant : ℕ) (a : Placed) → Right e → Fits e → Told a → Fits (entry_after e grant a)
unfolding greatest
after-fits e grant (Placed.hit x) r f t =
    record { stage = omega arith; b = f.b; k = f.k; budget = omega (arith, f.budget); frame = f.frame; place = f.place }
after-fits e grant Placed.clear r f t = go (ltb e.frame e.k)
  where
    go : (t : Bool) → Fits (cond t (moved e grant 1 (e.frame + 1) 0) (moved e grant 3 e.frame e.place))
    go true =
        record {
          stage = omega arith;
          b = f.b;
          k = f.k;
          budget = omega (arith, f.budget);
          frame = omega (arith, r.within, r.bound);
          place = omega arith;
        }
    go false = record { stage = omega arith; b = f.b; k = f.k; budget = omega (arith, f.budget); frame = f.frame; place = f.place }
after-fits e grant (Placed.spent R) r f t =
    record { stage = omega arith; b = f.b; k = f.k; budget = omega (arith, f.budget); frame = f.frame; place = omega arith }

-- what is read from bytes has eight bytes
pub read_fits : (bytes : List ℕ) → ((i : ℕ) → get_or bytes i 0 < 256) → (p : ℕ) → Fits (entry_at bytes p)
unfolding entry_at
read_fits bytes small p = go (is_entry (raw_at bytes p))
  where
    n : (q : ℕ) → number_at bytes q < 18446744073709551616
    n q = number_small bytes small q

    go : (t : Bool) → Fits (cond t (raw_at bytes p) no_entry)
    go true = record { stage = n p; b = n (p + 8); k = n (p + 16); budget = n (p + 24); frame = n (p + 32); place = n (p + 40) }
    go false = record { stage = omega arith; b = omega arith; k = omega arith; budget = omega arith; frame = omega arith; place = omega arith }
