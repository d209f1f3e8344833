-- What join's contract says: one answer and one memory; where it is not refused, those of a load of the joined circuit's text. Clause 12.6.
-- Assumes nothing.
use mathlib.Core.Path.{◌≡◌, refl, sym, ap, ap₂, ◌∙◌, subst, subst₂}
use mathlib.Core.Bool.{Bool, ◌&&◌}
use mathlib.Core.List.{List, [], ◌∷◌}
use mathlib.Core.Logic.{◌⊎◌, ⊎_elim, inl, inr}
use Prim.Native.Nat.{ℕ, ◌*◌, ◌≤◌, ◌<◌}
use native.Mathlib.Omega.{arith}
use lib.Dec.{T, leb, eqb, leb→le, eqb→eq}
use lib.ListN.{length}
use Rattle.aiger.specs.Lists.{upto}
use Rattle.aiger.specs.Circuit.{Circuit}
use Rattle.aiger.specs.File.{counts_fit, header_of}
use Rattle.aiger.specs.Load.{Answer, refused, gives, load, needed}
use Rattle.aiger.specs.Write.{count_row, write}
use Rattle.aiger.specs.Memory.{Holds, image}
use Rattle.aiger.specs.Operations.{front, HoldsNone, judge, need, Loaded}
use Rattle.aiger.proofs.Tests.{T_true, and_left, and_right}
use Rattle.meaning.proofs.Lists.{length-map-upto}
use Rattle.roundtrip.proofs.LoadWrite.{Valid, load-write}
use Rattle.roundtrip.proofs.LoadValid.{gives_same}
use Rattle.roundtrip.proofs.Holding.{one-circuit, held-valid, loaded-holds}
use Rattle.limits.proofs.Refusals.{judge-first}
use Rattle.joined.specs.Joined.{joined, can_pair, join_tests, JoinedInto}
use Rattle.parting.proofs.Theorems.{Joinable, joined-valid}

-- what a join answers and leaves in m, by the answer of its tests
abbrev Says : Circuit → Circuit → List ℕ → Answer (Unit {0}) → Answer (List ℕ) → List ℕ → Type 0
Says c d m (refused n) x s = (x ≡ refused n) × (s ≡ m)
Says c d m (gives u) x s = (x ≡ gives ((joined c d).max_var ∷ count_row (joined c d))) × (s ≡ front (image (joined c d)) m)

one : (c d : Circuit) (m : List ℕ) (a : Answer (Unit {0})) {x y : Answer (List ℕ)} {s s' : List ℕ} → Says c d m a x s → Says c d m a y s' → (x ≡ y) × (s ≡ s')
one c d m (refused n) p q = (p.0 ∙ sym q.0, p.1 ∙ sym q.1)
one c d m (gives u) p q = (p.0 ∙ sym q.0, p.1 ∙ sym q.1)

module _ {m₁ m₂ : List ℕ} {c d : Circuit} (h : Holds m₁ c) (h' : Holds m₂ d) (room : ℕ) (e : judge (join_tests c d room) ≡ gives tt) where
  first-test : T (can_pair c d) × (judge (need 3 (counts_fit (header_of (joined c d))) ∷ need 4 (leb (needed (joined c d).max_var) room) ∷ []) ≡ gives tt)
  first-test = judge-first _ _ e

  second-test : T (counts_fit (header_of (joined c d))) × (judge (need 4 (leb (needed (joined c d).max_var) room) ∷ []) ≡ gives tt)
  second-test = judge-first _ _ first-test.1

  -- the circuits of a join that is not refused
  pub joinable : Joinable c d
  joinable =
      let v = held-valid h in
      let v' = held-valid h' in
      let t = first-test.0 in
      let p1 = leb 1 (length c.outputs) in
      let p2 = leb (length c.outputs) 16 in
      let p3 = eqb (length c.inputs) (length d.inputs) in
      let p4 = eqb (length c.outputs) (length d.outputs) in
      record {
        right = T_true v.literals;
        known = T_true v.uses;
        order = T_true v.order;
        right' = T_true v'.literals;
        known' = T_true v'.uses;
        order' = T_true v'.order;
        inputs = eqb→eq (length c.inputs) (length d.inputs) (and_right (p1 && p2) p3 (and_left (p1 && p2 && p3) p4 t));
        outputs = eqb→eq (length c.outputs) (length d.outputs) (and_right (p1 && p2 && p3) p4 t);
      }

  pub join-valid : Valid room (joined c d)
  join-valid = joined-valid joinable room second-test.0 (leb→le (needed (joined c d).max_var) room (judge-first _ _ second-test.1).0)

module _ {m₁ m₂ m : List ℕ} where
  says : {c d : Circuit} {x : Answer (List ℕ)} {s : List ℕ} → Holds m₁ c → Holds m₂ d → JoinedInto m₁ m₂ m x s → Says c d m (judge (join_tests c d (length m))) x s
  says h h' (JoinedInto.no_circuit n) = absurd (⊎_elim (λ f. f _ h) (λ f. f _ h') n)
  says {c} {d} h h' (JoinedInto.refuses e f {n} k k' t) =
      subst₂ (λ (c d : Circuit). Says c d m (judge (join_tests c d (length m))) (refused n) m) (one-circuit k h) (one-circuit k' h')
      (subst (λ (a : Answer (Unit {0})). Says e f m a (refused n) m) (sym t) (refl, refl))
  says {c} {d} h h' (JoinedInto.stores e f k k' t) =
      let z : Answer (List ℕ) = gives ((joined e f).max_var ∷ count_row (joined e f)) in
      subst₂ (λ (c d : Circuit). Says c d m (judge (join_tests c d (length m))) z (front (image (joined e f)) m)) (one-circuit k h) (one-circuit k' h')
      (subst (λ (a : Answer (Unit {0})). Says e f m a z (front (image (joined e f)) m)) (sym t) (refl, refl))

  -- 9 where a memory holds no circuit, and then nothing is changed
  pub join-without : {x : Answer (List ℕ)} {s : List ℕ} → HoldsNone m₁ ⊎ HoldsNone m₂ → JoinedInto m₁ m₂ m x s → (x ≡ refused 9) × (s ≡ m)
  join-without n (JoinedInto.no_circuit f) = (refl, refl)
  join-without n (JoinedInto.refuses c d k k' t) = absurd (⊎_elim (λ f. f c k) (λ f. f d k') n)
  join-without n (JoinedInto.stores c d k k' t) = absurd (⊎_elim (λ f. f c k) (λ f. f d k') n)

  -- join answers one thing and leaves one memory
  pub join-determined : {x y : Answer (List ℕ)} {s s' : List ℕ} → JoinedInto m₁ m₂ m x s → JoinedInto m₁ m₂ m y s' → (x ≡ y) × (s ≡ s')
  join-determined (JoinedInto.no_circuit n) q = let r = join-without n q in (sym r.0, sym r.1)
  join-determined (JoinedInto.refuses c d {n} k k' t) q =
      one c d m (judge (join_tests c d (length m))) (says k k' (JoinedInto.refuses c d k k' t)) (says k k' q)
  join-determined (JoinedInto.stores c d k k' t) q =
      one c d m (judge (join_tests c d (length m))) (says k k' (JoinedInto.stores c d k k' t)) (says k k' q)

  module _ {c d : Circuit} (h : Holds m₁ c) (h' : Holds m₂ d) where
    -- a refusal has the number of the first test that fails, and changes nothing
    pub join-refused : {n : ℕ} {s : List ℕ} → JoinedInto m₁ m₂ m (refused n) s → (judge (join_tests c d (length m)) ≡ refused n) × (s ≡ m)
    join-refused {n} {s} o = go (judge (join_tests c d (length m))) (says h h' o)
      where
        go : (a : Answer (Unit {0})) → Says c d m a (refused n) s → (a ≡ refused n) × (s ≡ m)
        go (refused k) p = (same p.0, p.1)
          where
            same : ◌≡◌ {A = Answer (List ℕ)} (refused n) (refused k) → ◌≡◌ {A = Answer (Unit {0})} (refused k) (refused n)
            same e = cc
        go (gives u) p = let z : ◌≡◌ {A = ℕ} 0 1 = cc p.0 in absurd (omega arith)

    -- where no test fails, the counts and the words of the joined circuit
    pub join-accepted : {x : Answer (List ℕ)} {s : List ℕ} → judge (join_tests c d (length m)) ≡ gives tt → JoinedInto m₁ m₂ m x s
        → (x ≡ gives ((joined c d).max_var ∷ count_row (joined c d))) × (s ≡ front (image (joined c d)) m)
    join-accepted {x} {s} e o = subst (λ (a : Answer (Unit {0})). Says c d m a x s) e (says h h' o)

    -- an answer has no refusal
    passed : {a s : List ℕ} → JoinedInto m₁ m₂ m (gives a) s → judge (join_tests c d (length m)) ≡ gives tt
    passed {a} {s} o = go (judge (join_tests c d (length m))) (says h h' o)
      where
        go : (b : Answer (Unit {0})) → Says c d m b (gives a) s → b ≡ gives tt
        go (refused k) p = let z : ◌≡◌ {A = ℕ} 0 1 = cc p.0 in absurd (omega arith)
        go (gives tt) p = refl

    -- an accepted join is a load of the text of the joined circuit, which the third memory then holds
    pub join-loads : {a s : List ℕ} → JoinedInto m₁ m₂ m (gives a) s → Loaded m (write (joined c d)) (gives a) s × Holds s (joined c d) × Joinable c d
    join-loads {a} {s} o =
        let e = passed o in
        let v = join-valid h h' (length m) e in
        let q = join-accepted e o in
        let l = load-write v in (
          subst₂ (λ (x : Answer (List ℕ)) (z : List ℕ). Loaded m (write (joined c d)) x z) (sym q.0) (sym q.1) (Loaded.stores (joined c d) l),
          subst (λ (z : List ℕ). Holds z (joined c d)) (sym q.1) (loaded-holds m (write (joined c d)) l),
          joinable h h' (length m) e,
        )

-- a joined circuit has a bad line for each pair
pub bad-lines : (c d : Circuit) → length (joined c d).bads ≡ length c.outputs
unfolding joined
bad-lines c d = length-map-upto _ (length c.outputs)
