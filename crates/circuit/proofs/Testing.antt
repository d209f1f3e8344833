-- The laws of the test whether a memory holds a circuit: zeros, counts, and the causes 6 to 8. Assumes nothing.
use mathlib.Core.Path.{◌≡◌, refl, sym, ap, ◌∙◌}
use mathlib.Core.Bool.{Bool, true, false}
use mathlib.Core.List.{List}
use mathlib.Core.Logic.{⊎_elim}
use Prim.Native.Nat.{ℕ, ◌+◌, ◌≤◌, ◌<◌}
use native.Mathlib.Nat.{eq-or-lt_of_le}
use native.Mathlib.Omega.{arith}
use lib.Dec.{leb→le}
use lib.ListN.{length}
use Rattle.std.specs.Prelude.{Option, Some, None}
use Rattle.aiger.specs.Circuit.{literals_right, used_defined, acyclic}
use Rattle.aiger.specs.Circuit as circuit
use Rattle.aiger.specs.File.{counts_fit, count_tests, header_of}
use Rattle.aiger.specs.Load.{Answer, refused, gives, test, needed, ◌>>◌}
use Rattle.aiger.specs.Operations.{HoldsNone}
use Rattle.aiger.proofs.Tests.{T_true, all-at}
use Rattle.layout.specs.Words.{word, circuit_in}
use Rattle.roundtrip.proofs.Content.{content-length}
use Rattle.roundtrip.proofs.LoadWrite.{Valid, counts-fit}
use Rattle.roundtrip.proofs.Holding.{Sound, content-size, header-in, unsound}
use Rattle.headers.specs.Header.{counts_meant}
use Rattle.layout.specs.declared.Layout.{Layout}
use Rattle.layout.specs.Layout.{PlacesOf, Counted}
use Rattle.roundtrip.proofs.Counts.{counted}
use Rattle.validity.specs.Validity.{judged}
use Rattle.circuit.specs.Held.{Says, Zeros, Shaped, counts_in, Tested, HeldIs}

-- the word at i, after those up to it
pub zeros-more : (m : List ℕ) (a i : ℕ) → Zeros m a i → word m i ≡ 0 → Zeros m a (i + 1)
zeros-more m a i z e k l h = ⊎_elim (λ s. ap (word m) s ∙ e) (λ b. z k l b) (eq-or-lt_of_le (omega arith))

-- counts within their limits, and the needed words, leave room for the content
pub shaped-counted : {m : List ℕ} → Shaped m → Counted m
unfolding circuit_in
shaped-counted {m} s =
    counted m s.fit
    (omega (arith, s.room, content-length m, content-size (circuit_in m), counts-fit (circuit_in m) s.fit))

module _ (m : List ℕ) (p : Layout) (q : PlacesOf m p) where
  -- the counts of the layout are those of the circuit that the words say
  header_is : counts_meant (counts_in p) ≡ header_of (circuit_in m)
  header_is =
      (λ t. record {
        M = q.m-is t;
        I = q.i-is t;
        L = q.l-is t;
        O = q.o_is t;
        A = q.a-is t;
        B = q.b-is t;
        C = q.c-is t;
        J = 0;
        F = 0;
      })
      ∙ sym (header-in m)

  pub fit-in : counts_fit (counts_meant (counts_in p)) ≡ true → counts_fit (header_of (circuit_in m)) ≡ true
  fit-in e = ap counts_fit (sym header_is) ∙ e

  pub small : counts_fit (counts_meant (counts_in p)) ≡ true → p.m ≤ 4096
  unfolding counts_fit
  small e = leb→le p.m 4096 (all-at (count_tests (counts_meant (counts_in p))) (T_true e) 0)

  pub not-fit : counts_fit (counts_meant (counts_in p)) ≡ false → Shaped m → ⊥
  not-fit e s =
      let z : true ≡ false = sym s.fit ∙ ap counts_fit (sym header_is) ∙ e in
      let z' : ◌≡◌ {A = ℕ} 0 1 = cc in
      omega arith

  pub too_short : length m < needed p.m → Shaped m → ⊥
  too_short h s = omega (arith, s.room, q.m-is)

  pub shaped : counts_fit (counts_meant (counts_in p)) ≡ true → needed p.m ≤ length m → (b : Bool) → Says b (Zeros m p.end (needed p.m)) → Says b (Shaped m)
  shaped e h true z =
      record {
        fit = fit-in e;
        room = omega (arith, q.m-is);
        zeros = λ i l k. z i (omega (arith, q.end_is)) (omega (arith, q.m-is));
      }
  shaped e h false z = λ s. z (λ i l k. s.zeros i (omega (arith, q.end_is)) (omega (arith, q.m-is)))

-- the causes 6 to 8

never-gives : {n : ℕ} → ◌≡◌ {A = Answer (Unit {0})} (refused n) (gives tt) → ⊥
never-gives e = let z : ◌≡◌ {A = ℕ} 0 1 = cc in omega arith

chain-right : (a b d : Bool) → (test 6 a >> test 7 b >> test 8 d) ≡ gives tt → (a ≡ true) × (b ≡ true) × (d ≡ true)
chain-right true true true e = (refl, refl, refl)
chain-right true true false e = absurd (never-gives e)
chain-right true false d e = absurd (never-gives e)
chain-right false b d e = absurd (never-gives e)

judged-right : (c : circuit.Circuit) → judged c ≡ gives tt → (literals_right c ≡ true) × (used_defined c ≡ true) × (acyclic c ≡ true)
unfolding judged
judged-right c e = chain-right (literals_right c) (used_defined c) (acyclic c) e

judged-valid : {room : ℕ} {c : circuit.Circuit} → Valid room c → judged c ≡ gives tt
unfolding judged
judged-valid v = rw (v.literals, v.uses, v.order)

-- a shaped memory whose circuit no cause refuses is sound
pub sound : {m : List ℕ} → Shaped m → judged (circuit_in m) ≡ gives tt → Sound m
unfolding circuit_in
sound {m} s e =
    let r = judged-right (circuit_in m) e in
    record { valid = record { fit = s.fit; held = s.room; literals = r.0; uses = r.1; order = r.2 }; zeros = s.zeros }

-- a sound memory is shaped
sound-shaped : {m : List ℕ} → Sound m → Shaped m
unfolding circuit_in
sound-shaped s = record { fit = s.valid.fit; room = s.valid.held; zeros = s.zeros }

-- no circuit is held where the memory is too short for the smallest, is not shaped, or a cause refuses what its words say
pub none-short : {m : List ℕ} → length m < 264 → HoldsNone m
none-short {m} h = unsound (λ s. omega (arith, (sound-shaped s).room))

pub none-unshaped : {m : List ℕ} → (Shaped m → ⊥) → HoldsNone m
none-unshaped f = unsound (λ s. f (sound-shaped s))

pub none-refused : {m : List ℕ} {n : ℕ} → judged (circuit_in m) ≡ refused n → HoldsNone m
none-refused e = unsound (λ s. never-gives (sym e ∙ judged-valid s.valid))

-- the test keeps no order
pub tested : (m order : List ℕ) (r : Option Layout) → HeldIs m order r → Tested m r
tested m order (Some p) h = (h.0, h.1)
tested m order None h = h
