-- What an operation that meets `Generated` has done: its answer is one, the text is a function of seed and counts alone, has at most 55,798
-- bytes and loads as the defined circuit wherever circuit memory suffices. Clause 12.12. Assumes nothing.
use mathlib.Core.Path.{◌≡◌, refl, sym, ap, ◌∙◌}
use mathlib.Core.Bool.{Bool, true, false, cond}
use mathlib.Core.List.{List, [], ◌∷◌, ◌++◌}
use mathlib.Core.Logic.{◌⊎◌, inl, inr, ⊎_elim}
use Prim.Native.Nat.{ℕ, ◌+◌, ◌≤◌, ◌<◌}
use native.Mathlib.Omega.{arith}
use borrow.Author.Tests.{leb-false}
use lib.Dec.{leb}
use lib.ListN.{length, take, drop}
use lib.Seq.{take_at, drop_at}
use Rattle.aiger.specs.Load.{Answer, refused, gives, load, needed}
use Rattle.aiger.specs.Write.{count_row}
use Rattle.aiger.specs.Memory.{Holds}
use Rattle.aiger.specs.Operations.{front, judge, Loaded}
use Rattle.roundtrip.proofs.Determined.{refused-same, never, loaded-same}
use Rattle.roundtrip.proofs.Holding.{loaded-holds}
use Rattle.roundtrip.proofs.LoadValid.{gives_same}
use Rattle.generated.specs.Generated.{generated, generated_text, counts_permitted, generate_tests, Permitted, Generated}
use Rattle.generated.proofs.Short.{text-short}
use Rattle.generated.proofs.Loads.{permitted, generated-loads}

-- the two tests one after the other
passed : (a b : Bool) → ◌≡◌ {A = Answer (Unit {0})} (cond a (cond b (gives tt) (refused 13)) (refused 3)) (gives tt)
    → (a ≡ true) × (b ≡ true)
passed true true e = (refl, refl)
passed true false e = let z : ◌≡◌ {A = ℕ} 0 1 = cc in absurd (omega arith)
passed false b e = let z : ◌≡◌ {A = ℕ} 0 1 = cc in absurd (omega arith)

failed : (a b : Bool) (n : ℕ) → ◌≡◌ {A = Answer (Unit {0})} (cond a (cond b (gives tt) (refused 13)) (refused 3)) (refused n)
    → ((n ≡ 3) × (a ≡ false)) ⊎ ((n ≡ 13) × (a ≡ true) × (b ≡ false))
failed true true n e = let z : ◌≡◌ {A = ℕ} 0 1 = cc in absurd (omega arith)
failed true false n e = let z : n ≡ 13 = cc in inr (z, refl, refl)
failed false b n e = let z : n ≡ 3 = cc in inl (z, refl)

-- an accepted call: the text stands at the front, and the bytes past it are as they were
pub record Made (s I L A : ℕ) (out : List ℕ) (n : ℕ) (out' : List ℕ) : Type 0 where
  pub counts : Permitted I L A
  pub count : n ≡ length (generated_text s I L A)
  pub short : n ≤ 55798
  pub text : take n out' ≡ generated_text s I L A
  pub rest : drop n out' ≡ drop n out
  pub loads : (room : ℕ) → needed (I + L + A) ≤ room → load room (take n out') ≡ gives (generated s I L A)

made : {s I L A n : ℕ} {out out' : List ℕ} {a : Answer ℕ} → Generated s I L A out a out' → a ≡ gives n → Made s I L A out n out'
unfolding judge
made (Generated.refuses e) q = let z : ◌≡◌ {A = ℕ} 0 1 = cc in absurd (omega arith)
made {s} {I} {L} {A} {n} {out} (Generated.writes e) q =
    let w = generated_text s I L A in
    let t = passed (counts_permitted I L A) (leb (length w) (length out)) e in
    let p = permitted I L A t.0 in
    let c : n ≡ length w = sym (gives_same q) in
    let f : take n (front w out) ≡ w = take_at w (drop (length w) out) n (sym c) in
    record {
      counts = p;
      count = c;
      short = omega (arith, text-short s I L A p);
      text = f;
      rest = rw c (drop_at w (drop (length w) out) (length w) refl);
      loads = λ room h. rw f (generated-loads s I L A p room h);
    }

pub generated-made : {s I L A n : ℕ} {out out' : List ℕ} → Generated s I L A out (gives n) out' → Made s I L A out n out'
generated-made g = made g refl

-- a refused call
pub record Kept (s I L A : ℕ) (out : List ℕ) (n : ℕ) (out' : List ℕ) : Type 0 where
  pub kept : out' ≡ out
  pub cause : ((n ≡ 3) × (counts_permitted I L A ≡ false)) ⊎ ((n ≡ 13) × Permitted I L A × (length out < length (generated_text s I L A)))

kept : {s I L A n : ℕ} {out out' : List ℕ} {a : Answer ℕ} → Generated s I L A out a out' → a ≡ refused n → Kept s I L A out n out'
unfolding judge
kept {s} {I} {L} {A} {n} {out} (Generated.refuses {n = m} e) q =
    let w = generated_text s I L A in
    let c : m ≡ n = refused-same q in
    let t = failed (counts_permitted I L A) (leb (length w) (length out)) n (e ∙ ap refused c) in
    record {
      kept = refl;
      cause =
          ⊎_elim (λ x. inl x) (λ x. inr (x.0, permitted I L A x.1, leb-false (length w) (length out) x.2)) t;
    }
kept (Generated.writes e) q = let z : ◌≡◌ {A = ℕ} 0 1 = cc in absurd (omega arith)

pub generated-kept : {s I L A n : ℕ} {out out' : List ℕ} → Generated s I L A out (refused n) out' → Kept s I L A out n out'
generated-kept g = kept g refl

-- 13 is never given where 55,798 bytes are lent
pub never-short : {s I L A n : ℕ} {out out' : List ℕ} → 55798 ≤ length out → Generated s I L A out (refused n) out' → n ≡ 3
never-short {s} {I} {L} {A} h g =
    ⊎_elim (λ x. x.0) (λ x. absurd (omega (arith, x.2, text-short s I L A x.1))) (generated-kept g).cause

-- the answer is one, and so is what is left
pub generated-same : {s I L A : ℕ} {out out₁ out₂ : List ℕ} {a b : Answer ℕ} → Generated s I L A out a out₁ → Generated s I L A out b out₂
    → (a ≡ b) × (out₁ ≡ out₂)
generated-same (Generated.refuses e) (Generated.refuses k) = (ap refused (refused-same (sym e ∙ k)), refl)
generated-same (Generated.refuses e) (Generated.writes k) = absurd (never (sym e ∙ k))
generated-same (Generated.writes e) (Generated.refuses k) = absurd (never (sym k ∙ e))
generated-same (Generated.writes e) (Generated.writes k) = (refl, refl)

-- equal seeds and counts give equal bytes, whatever the outputs held
pub same_bytes : {s I L A m n : ℕ} {out₁ out₂ out₁' out₂' : List ℕ} → Generated s I L A out₁ (gives m) out₁' → Generated s I L A out₂ (gives n) out₂'
    → (m ≡ n) × (take m out₁' ≡ take n out₂')
same_bytes g h =
    let p = generated-made g in
    let q = generated-made h in
    (p.count ∙ sym q.count, p.text ∙ sym q.text)

-- the operation load answers the counts of the circuit, and leaves a memory that holds it
pub generated-loaded : {s I L A n : ℕ} {out out' m m' : List ℕ} {a : Answer (List ℕ)} → Generated s I L A out (gives n) out'
    → needed (I + L + A) ≤ length m → Loaded m (take n out') a m'
    → (a ≡ gives ((generated s I L A).max_var ∷ count_row (generated s I L A))) × Holds m' (generated s I L A)
generated-loaded {s} {I} {L} {A} {n} {out} {out'} {m} g h l =
    let c = generated s I L A in
    let e = (generated-made g).loads (length m) h in
    let q = loaded-same l (Loaded.stores c e) in
    (q.0, rw q.1 (loaded-holds m (take n out') e))
