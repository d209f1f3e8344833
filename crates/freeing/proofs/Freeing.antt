-- The words after both steps hold the freed circuit. Assumes nothing.
use mathlib.Core.Path.{◌≡◌, refl, sym, ap, ap₂, ◌∙◌, subst}
use mathlib.Core.List.{List, [], ◌∷◌, map}
use Prim.Native.Nat.{ℕ, ◌+◌, ◌*◌, ◌≤◌, ◌<◌}
use native.Mathlib.Omega.{arith}
use lib.ListN.{length}
use Rattle.aiger.specs.Lists.{upto}
use Rattle.aiger.specs.Circuit.{Circuit, Latch, Gate}
use Rattle.aiger.specs.Memory.{Holds}
use Rattle.layout.specs.Words.{word, latches_at, outputs_at, bads_at, constraints_at, gates_at, content_end, column, latch_in, gate_in, circuit_in}
use Rattle.layout.specs.declared.Layout.{Layout}
use Rattle.meaning.proofs.Lists.{map-upto-eq, length-map-upto}
use Rattle.roundtrip.proofs.LoadWrite.{Valid, counts-fit}
use Rattle.roundtrip.proofs.Content.{content-length}
use Rattle.roundtrip.proofs.Holding.{held-valid, content-fits, sound-holds, valid-room}
use Rattle.never_search.specs.Runs.{freed_latch, freed}
use Rattle.never_search.proofs.Freed.{freed-valid}
use Rattle.freeing.specs.Steps.{Copied, Reset, FreeFits}

map-after : {A B : Type 0} (f : A → B) (g : ℕ → A) (xs : List ℕ) → map f (map g xs) ≡ map (λ j. f (g j)) xs
map-after f g [] = refl
map-after f g (x ∷ xs) = ap (λ (ys : List _). f (g x) ∷ ys) (map-after f g xs)

module _ {m : List ℕ} {p : Layout} {words : List ℕ} (fits : FreeFits m p words) where
  valid : Valid (length m) (circuit_in m)
  valid = held-valid fits.held

  top : word m 0 ≤ 4096
  unfolding circuit_in
  top = (counts-fit (circuit_in m) valid.fit).max_var

  few : word m 2 ≤ 1024
  unfolding circuit_in
  few = omega (arith, (counts-fit (circuit_in m) valid.fit).latches, length-map-upto (λ j. latch_in m (latches_at m + 3 * j)) (word m 2))

  end-inside : (content_end m ≤ length m) × (content_end m ≤ length words)
  unfolding circuit_in
  end-inside =
      let a = content-fits valid in
      let e = content-length m in
      (omega (arith, a, e, valid.held), omega (arith, a, e, top, fits.room))

  -- what the steps require
  pub copy-fits : (p.end ≤ length m) × (p.end ≤ length words)
  copy-fits = (omega (arith, end-inside.0, fits.layout_of.end_is), omega (arith, end-inside.1, fits.layout_of.end_is))

  pub reset-fits : (after : List ℕ) → length after ≡ length words → (p.latches + 3 * p.l ≤ length after) × (p.l ≤ 1024)
  reset-fits after e =
      let q = fits.layout_of in (
        omega (arith, end-inside.1, q.latches-is, q.l-is),
        omega (arith, few, q.l-is),
      )

  module _ {mid last : List ℕ} (copied : Copied m p.end words mid) (reset : Reset p.latches p.l mid last) where
    abbrev at : ℕ
    at = latches_at m

    abbrev L : ℕ
    L = word m 2

    places : (p.latches ≡ at) × (p.l ≡ L) × (p.end ≡ content_end m)
    places = (fits.layout_of.latches-is, fits.layout_of.l-is, fits.layout_of.end_is)

    -- a word that is no reset
    plain : (i : ℕ) → i < content_end m → ((j : ℕ) → j < L → at + 3 * j + 2 ≡ i → ⊥) → word last i ≡ word m i
    plain i l f =
        reset.others i (λ j k e. f j (omega (arith, places.1)) (omega (arith, places.0))) ∙ copied.new i (omega (arith, places.2))

    before : (i : ℕ) → i < at → word last i ≡ word m i
    before i l = plain i (omega arith) (λ j k e. omega arith)

    after : (i : ℕ) → at + 3 * L ≤ i → i < content_end m → word last i ≡ word m i
    after i a l = plain i l (λ j k e. omega arith)

    -- the counts, and where the parts begin
    inputs-is : word last 1 ≡ word m 1
    inputs-is = before 1 (omega arith)

    latches-is : word last 2 ≡ L
    latches-is = before 2 (omega arith)

    outputs-is : word last 3 ≡ word m 3
    outputs-is = before 3 (omega arith)

    gates-is : word last 4 ≡ word m 4
    gates-is = before 4 (omega arith)

    bads-is : word last 5 ≡ word m 5
    bads-is = before 5 (omega arith)

    constraints-is : word last 6 ≡ word m 6
    constraints-is = before 6 (omega arith)

    -- a part after the latches
    part : (from from' n n' : ℕ) → from' ≡ from → n' ≡ n → at + 3 * L ≤ from → from + n ≤ content_end m → column last from' 1 n' ≡ column m from 1 n
    part from from' n n' e f a l =
        ap₂ (λ (x y : ℕ). column last x 1 y) e f
        ∙ map-upto-eq (λ i. word last (from + 1 * i)) (λ i. word m (from + 1 * i)) n (λ i k. after (from + 1 * i) (omega arith) (omega arith))

    inputs-same : column last 7 1 (word last 1) ≡ column m 7 1 (word m 1)
    inputs-same =
        ap (column last 7 1) inputs-is
        ∙ map-upto-eq (λ i. word last (7 + 1 * i)) (λ i. word m (7 + 1 * i)) (word m 1) (λ i k. before (7 + 1 * i) (omega arith))

    latch-same : (j : ℕ) → j < L → latch_in last (at + 3 * j) ≡ freed_latch (latch_in m (at + 3 * j))
    latch-same j l =
        let lit : word last (at + 3 * j) ≡ word m (at + 3 * j) = plain (at + 3 * j) (omega arith) (λ i k e. omega arith) in
        let next : word last (at + 3 * j + 1) ≡ word m (at + 3 * j + 1) = plain (at + 3 * j + 1) (omega arith) (λ i k e. omega arith) in
        let own : word mid (at + 3 * j) ≡ word m (at + 3 * j) = copied.new (at + 3 * j) (omega (arith, places.2)) in
        let new : word last (p.latches + 3 * j + 2) ≡ word mid (p.latches + 3 * j) = reset.new j (omega (arith, places.1)) in
        let back : word last (at + 3 * j + 2) ≡ word m (at + 3 * j) =
        subst (λ (x : ℕ). word last (x + 3 * j + 2) ≡ word mid (x + 3 * j)) places.0 new ∙ own in
        λ i. record { lit = lit i; next = next i; reset = back i }

    latches-same : map (λ j. latch_in last (latches_at last + 3 * j)) (upto (word last 2)) ≡ map freed_latch (map (λ j. latch_in m (at + 3 * j)) (upto L))
    latches-same =
        let e : latches_at last ≡ at = omega (arith, inputs-is) in
        ap₂ (λ (x y : ℕ). map (λ j. latch_in last (x + 3 * j)) (upto y)) e latches-is
        ∙ map-upto-eq (λ j. latch_in last (at + 3 * j)) (λ j. freed_latch (latch_in m (at + 3 * j))) L latch-same
        ∙ sym (map-after freed_latch (λ j. latch_in m (at + 3 * j)) (upto L))

    gates-same : map (λ j. gate_in last (gates_at last + 3 * j)) (upto (word last 4)) ≡ map (λ j. gate_in m (gates_at m + 3 * j)) (upto (word m 4))
    gates-same =
        let e : gates_at last ≡ gates_at m = omega (arith, inputs-is, latches-is, outputs-is, bads-is, constraints-is) in
        let g = gates_at m in
        ap₂ (λ (x y : ℕ). map (λ j. gate_in last (x + 3 * j)) (upto y)) e gates-is
        ∙ map-upto-eq (λ j. gate_in last (g + 3 * j)) (λ j. gate_in m (g + 3 * j)) (word m 4)
        (λ j l.
        let a = after (g + 3 * j) (omega arith) (omega arith) in
        let b = after (g + 3 * j + 1) (omega arith) (omega arith) in
        let c = after (g + 3 * j + 2) (omega arith) (omega arith) in
        λ i. record { lit = a i; left = b i; right = c i })

    says : circuit_in last ≡ freed (circuit_in m)
    unfolding circuit_in freed
    says =
        let outputs = part (outputs_at m) (outputs_at last) (word m 3) (word last 3) (omega (arith, inputs-is, latches-is)) outputs-is (omega arith) (omega arith) in
        let bads = part (bads_at m) (bads_at last) (word m 5) (word last 5) (omega (arith, inputs-is, latches-is, outputs-is)) bads-is (omega arith) (omega arith) in
        let constraints =
        part (constraints_at m) (constraints_at last) (word m 6) (word last 6) (omega (arith, inputs-is, latches-is, outputs-is, bads-is)) constraints-is
        (omega arith) (omega arith) in
        λ i. record {
          max_var = before 0 (omega arith) i;
          inputs = inputs-same i;
          latches = latches-same i;
          outputs = outputs i;
          bads = bads i;
          constraints = constraints i;
          gates = gates-same i;
        }

    room : Valid (length last) (freed (circuit_in m))
    unfolding circuit_in freed
    room = valid-room (length last) (freed-valid (circuit_in m) valid) (omega (arith, top, fits.room, reset.size, copied.size))

    -- the words hold the freed circuit
    pub steps-freed : Holds last (freed (circuit_in m))
    steps-freed =
        let e : content_end last ≡ content_end m = omega (arith, inputs-is, latches-is, outputs-is, gates-is, bads-is, constraints-is) in
        subst (Holds last) says
        (sound-holds
        (record {
          valid = subst (Valid (length last)) (sym says) room;
          zeros = λ i a l.
              reset.others i (λ j k q. omega (arith, places.0, places.1)) ∙ copied.others i (omega (arith, places.2)) ∙ fits.zeros i;
        }))
