-- What write wrote, loaded, leaves the words that were written. Clause 7.1. Assumes nothing.
use mathlib.Core.Path.{◌≡◌, refl, sym, ap, ◌∙◌}
use mathlib.Core.List.{List, ◌∷◌}
use Prim.Native.Nat.{ℕ, ◌≤◌}
use native.Mathlib.Omega.{arith}
use lib.ListN.{length, take, drop}
use lib.Seq.{take_at}
use Rattle.aiger.specs.Circuit.{Circuit}
use Rattle.aiger.specs.Load.{Answer, gives, needed}
use Rattle.aiger.specs.Write.{count_row, write}
use Rattle.aiger.specs.Memory.{Holds, image}
use Rattle.aiger.specs.Operations.{front, Loaded, Operated, Written}
use Rattle.layout.specs.Words.{word, circuit_in}
use Rattle.roundtrip.proofs.Lists.{upto-length}
use Rattle.roundtrip.proofs.LoadWrite.{text-short}
use Rattle.roundtrip.proofs.LoadValid.{gives_same}
use Rattle.roundtrip.proofs.Content.{words_take}
use Rattle.roundtrip.proofs.Holding.{held, held-valid, held-again, loaded-holds, same-words}
use Rattle.roundtrip.proofs.Determined.{loaded-same, written_same, written_in}

-- a written text is that of the circuit that the memory holds
record Wrote (m out' : List ℕ) (n : ℕ) : Type 0 where
  holds : Holds m (circuit_in m)
  text : take n out' ≡ write (circuit_in m)

own : {m : List ℕ} {c : Circuit} → Holds m c → Holds m (circuit_in m)
own h = rw (held h) h

wrote : {m out out' : List ℕ} {a : Answer ℕ} {n : ℕ} → Written m out a out' → a ≡ gives n → Wrote m out' n
wrote (Operated.no_circuit f) q = let z : ◌≡◌ {A = ℕ} 0 1 = cc in absurd (omega arith)
wrote (Operated.refuses c h t) q = let z : ◌≡◌ {A = ℕ} 0 1 = cc in absurd (omega arith)
wrote {out = out} {n = n} (Operated.acts c h t f) q =
    record {
      holds = own h;
      text = ap (take n) f.shows ∙ take_at (write c) (drop (length (write c)) out) n (sym f.count ∙ gives_same q) ∙ ap write (sym (held h));
    }

module _ (m : List ℕ) (h : Holds m (circuit_in m)) where
  top : (circuit_in m).max_var ≡ word m 0
  unfolding circuit_in
  top = refl

  heads : (circuit_in m).max_var ∷ count_row (circuit_in m) ≡ take 7 m
  unfolding circuit_in
  heads = simp upto-length (words_take m 0 7 (omega (arith, (held-valid h).held)))

-- an accepted load leaves a memory that holds a circuit, and answers its first seven words
loaded : {m f m' : List ℕ} {a : Answer (List ℕ)} {r : List ℕ} → Loaded m f a m' → a ≡ gives r → Holds m' (circuit_in m') × (r ≡ take 7 m')
loaded (Loaded.refuses e) q = let z : ◌≡◌ {A = ℕ} 0 1 = cc in absurd (omega arith)
loaded {m} {f} (Loaded.stores c e) q =
    let h = loaded-holds m f e in
    let m' = front (image c) m in
    (own h, sym (gives_same q) ∙ ap (λ (d : Circuit). d.max_var ∷ count_row d) (sym (held h)) ∙ heads m' (own h))

-- what write wrote, loaded into a memory with the needed words, is accepted with the same counts and leaves the same needed words
pub write-load : {m out out' m₂ m₂' : List ℕ} {n : ℕ} {a : Answer (List ℕ)} → Written m out (gives n) out' → needed (word m 0) ≤ length m₂
    → Loaded m₂ (take n out') a m₂' → (a ≡ gives (take 7 m)) × (take (needed (word m 0)) m₂' ≡ take (needed (word m 0)) m)
write-load {m} {out} {out'} {m₂} {m₂'} {n} {a} w room l =
    let r = wrote w refl in
    let c = circuit_in m in
    let t = top m r.holds in
    let k : needed c.max_var ≤ length m₂ = omega arith in
    let s = loaded-same (rw r.text at l) (Loaded.stores c (held-again r.holds m₂ k)) in
    (s.0 ∙ ap gives (heads m r.holds), rw (← t, s.1) (same-words r.holds m₂))

-- what load left is written, into an output of 65,536 bytes at least
pub load-write : {m f m' out out' : List ℕ} {r : List ℕ} {a : Answer ℕ} → Loaded m f (gives r) m' → 65536 ≤ length out → Written m' out a out'
    → (n : ℕ) × (a ≡ gives n)
load-write {m' = m'} {out = out} l room w =
    let h = (loaded l refl).0 in
    let n = length (write (circuit_in m')) in
    (n, (written_same w (written_in (circuit_in m') h (omega (arith, text-short (held-valid h))))).0)

-- what load left, written and loaded again, is accepted with the same answer and leaves the same needed words
pub load-write-load : {m f m' out out' m₂ m₂' r : List ℕ} {n : ℕ} {a : Answer (List ℕ)} → Loaded m f (gives r) m' → Written m' out (gives n) out'
    → needed (word m' 0) ≤ length m₂ → Loaded m₂ (take n out') a m₂'
    → (a ≡ gives r) × (take (needed (word m' 0)) m₂' ≡ take (needed (word m' 0)) m')
load-write-load l w room k =
    let s = write-load w room k in
    (s.0 ∙ ap gives (sym (loaded l refl).1), s.1)
