-- What the binary writer wrote, loaded: the renumbered circuit, of which a search may answer the same; written again, the same bytes.
-- Clause 12.1. Assumes nothing.
use mathlib.Core.Path.{◌≡◌, refl, sym, ap, ap₂, ◌∙◌, subst}
use mathlib.Core.Bool.{Bool}
use mathlib.Core.List.{List, ◌∷◌}
use Prim.Native.Nat.{ℕ, ◌≤◌}
use native.Mathlib.Omega.{arith}
use lib.ListN.{length, take, drop}
use lib.Seq.{take_at}
use Rattle.aiger.specs.Circuit.{Circuit}
use Rattle.aiger.specs.Load.{Answer, refused, gives, load, needed}
use Rattle.aiger.specs.Write.{count_row}
use Rattle.aiger.specs.Memory.{Holds, image}
use Rattle.aiger.specs.Search.{Outcome, permitted}
use Rattle.aiger.specs.Operations.{front, Loaded, Operated}
use Rattle.layout.specs.Words.{circuit_in}
use Rattle.roundtrip.proofs.LoadWrite.{Valid}
use Rattle.roundtrip.proofs.LoadValid.{gives_same}
use Rattle.roundtrip.proofs.Holding.{held, one-circuit, held-valid, valid-room, loaded-holds}
use Rattle.roundtrip.proofs.Determined.{loaded-same, alike_self, operated-same}
use Rattle.renumbered.specs.Renumbered.{renumbered, binary_text, write_binary, BinaryEffect, WrittenBinary}
use Rattle.renumbered.proofs.Written.{written_in}
use Rattle.renumbered_laws.proofs.Accepted.{placed, renumbered-valid}
use Rattle.renumbered_laws.proofs.Same.{same-permitted}
use Rattle.renumbered_laws.proofs.Reading.{binary-short, load-binary}
use Rattle.renumbered_laws.proofs.Again.{renumbered-same}

-- the binary writer answers one thing and leaves one output
pub written_same : {m out o₁ o₂ : List ℕ} {a b : Answer ℕ} → WrittenBinary m out a o₁ → WrittenBinary m out b o₂ → (a ≡ b) × (o₁ ≡ o₂)
written_same w v =
    operated-same (λ (o p : List ℕ). o ≡ p) alike_self (λ c. refl) refl
    (λ c a b s t e f. (e.count ∙ sym f.count, e.shows ∙ sym f.shows)) w v

-- every circuit that a memory holds is written, into an output of 24,576 bytes at least
pub always-written : {m out out' : List ℕ} {c : Circuit} {a : Answer ℕ} → Holds m c → 24576 ≤ length out → WrittenBinary m out a out'
    → (n : ℕ) × (a ≡ gives n)
always-written {c = c} h room w =
    let v = held-valid h in
    let s = binary-short (renumbered-valid v) (placed v) in
    (length (write_binary c), (written_same w (written_in c h (omega arith))).0)

-- what was written is the text of the circuit that the memory holds
pub record Wrote (m out' : List ℕ) (n : ℕ) : Type 0 where
  pub circuit : Circuit
  pub holds : Holds m circuit
  pub count : n ≡ length (write_binary circuit)
  pub text : take n out' ≡ write_binary circuit

pub wrote : {m out out' : List ℕ} {a : Answer ℕ} {n : ℕ} → WrittenBinary m out a out' → a ≡ gives n → Wrote m out' n
wrote (Operated.no_circuit f) q = let z : ◌≡◌ {A = ℕ} 0 1 = cc in absurd (omega arith)
wrote (Operated.refuses c h t) q = let z : ◌≡◌ {A = ℕ} 0 1 = cc in absurd (omega arith)
wrote {out = out} {n = n} (Operated.acts c h t f) q =
    let e : n ≡ length (write_binary c) = sym (gives_same q) ∙ f.count in
    record {
      circuit = c;
      holds = h;
      count = e;
      text = ap (take n) f.shows ∙ take_at (write_binary c) (drop (length (write_binary c)) out) n (sym e);
    }

-- load accepts it into any memory that has the needed words, and leaves the renumbered circuit there
pub write-load : {m out out' m₂ m₂' : List ℕ} {n : ℕ} {a : Answer (List ℕ)} {c : Circuit} → Holds m c → WrittenBinary m out (gives n) out'
    → needed (renumbered c).max_var ≤ length m₂ → Loaded m₂ (take n out') a m₂'
    → (a ≡ gives ((renumbered c).max_var ∷ count_row (renumbered c))) × (m₂' ≡ front (image (renumbered c)) m₂) × Holds m₂' (renumbered c)
write-load {m₂ = m₂} {m₂' = m₂'} {a = a} {c = c} h w room l =
    let r = wrote w refl in
    let same : r.circuit ≡ c = one-circuit r.holds h in
    let v = held-valid h in
    let d = renumbered c in
    let e : load (length m₂) (binary_text d) ≡ gives d = load-binary (valid-room (length m₂) (renumbered-valid v) room) (placed v) in
    let s = loaded-same (subst (λ (f : List ℕ). Loaded m₂ f a m₂') (r.text ∙ ap write_binary same) l) (Loaded.stores d e) in
    (s.0, s.1, subst (λ (x : List ℕ). Holds x d) (sym s.1) (loaded-holds m₂ (binary_text d) e))

-- of the renumbered circuit a search may answer what it may answer of the first one, for every bad line, bound and budget
pub written-permitted : {m : List ℕ} {c : Circuit} → Holds m c → (b k D : ℕ) (o : Outcome) → permitted
    (renumbered c) b k D o ≡ permitted c b k D o
written-permitted h = same-permitted (held-valid h)

-- written again, the same bytes
pub write_again : {m out out' m₂ out₂ out₂' : List ℕ} {n k : ℕ} {c : Circuit} → Holds m c → WrittenBinary m out (gives n) out' → Holds m₂
    (renumbered c)
    → WrittenBinary m₂ out₂ (gives k) out₂' → (k ≡ n) × (take k out₂' ≡ take n out')
write_again {c = c} h w h₂ w₂ =
    let v = held-valid h in
    let r = wrote w refl in
    let r₂ = wrote w₂ refl in
    let t : write_binary r.circuit ≡ write_binary c = ap write_binary (one-circuit r.holds h) in
    let t₂ : write_binary r₂.circuit ≡ write_binary c =
    ap write_binary (one-circuit r₂.holds h₂) ∙ ap binary_text (renumbered-same (renumbered-valid v) (placed v)) in
    (r₂.count ∙ ap length (t₂ ∙ sym t) ∙ sym r.count, r₂.text ∙ t₂ ∙ sym (r.text ∙ t))
