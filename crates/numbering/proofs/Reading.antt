-- What load reads from a binary file is in order, so a binary file never gets 7 or 8. Clause 12.1. Assumes nothing.
use mathlib.Core.Path.{◌≡◌, refl, sym, ap, ap₂, ◌∙◌, subst}
use mathlib.Core.Bool.{Bool, true, false, not, ◌&&◌, ◌||◌}
use mathlib.Core.List.{List, [], ◌∷◌, ◌++◌, map}
use mathlib.Core.Option.{Option, none, some}
use Prim.Native.Nat.{ℕ, zero, suc, ◌+◌, ◌-◌, ◌*◌, ◌≤◌, ◌<◌}
use native.Mathlib.Omega.{arith}
use lib.Dec.{T, leb, ltb, eqb, leb→le, le→leb, lt→ltb, eqb→eq}
use lib.ListN.{length}
use Rattle.aiger.specs.Lists.{every}
use Rattle.aiger.specs.Text.{when, rows}
use Rattle.aiger.specs.Circuit.{Circuit, Latch, Gate, defined, literals_right, used_defined, acyclic}
use Rattle.aiger.specs.File.{Header, is_binary, header, counts_fit, counts_right, is_tail}
use Rattle.aiger.specs.Binary.{difference, implied, latches_from, gate_by, gates_from}
use Rattle.aiger.specs.Load.{Answer, refused, gives, test, read, binary_body, sections, load, needed, ◌>>=◌, ◌>>◌}
use Rattle.aiger.proofs.Tests.{and, and_left, and_right, T_true, true-T}
use Rattle.roundtrip.proofs.LoadValid.{some-bind, some_same, rows-length, BinaryParts, binary-parts}
use Rattle.numbering.proofs.InOrder.{descends, InOrder, implied-append, order-defined, order-acyclic}
use Rattle.roundtrip.proofs.WitnessRead.{when_true}

-- a gate by its differences
gate-by : (l : ℕ) (f : List ℕ) (r : Gate × List ℕ) → gate_by l f ≡ some r → (r.0.lit ≡ l) × T (descends r.0)
unfolding gate_by
gate-by l f r h =
    let d = some-bind (difference f) _ r h in
    let w = some-bind (when (leb 1 d.0.0 && leb d.0.0 l)) _ r d.2 in
    let e = some-bind (difference d.0.1) _ r w.2 in
    let u = some-bind (when (leb e.0.0 (l - d.0.0))) _ r e.2 in
    let a = d.0.0 in
    let b = e.0.0 in
    let g : Gate = record { lit = l; left = l - a; right = l - a - b } in
    let q : ◌≡◌ {A = Gate × List ℕ} (g, e.0.1) r = some_same u.2 in
    let t = T_true (when_true (leb 1 a && leb a l) w.0 w.1) in
    let one = leb→le 1 a (and_left (leb 1 a) (leb a l) t) in
    let low = leb→le a l (and_right (leb 1 a) (leb a l) t) in
    subst (λ (x : Gate × List ℕ). (x.0.lit ≡ l) × T (descends x.0)) q
    (refl, and (leb (l - a - b) (l - a)) (ltb (l - a) l) (le→leb (l - a - b) (l - a) (omega arith)) (lt→ltb (l - a) l (omega arith)))

-- gates by their differences
pub gates-by : (v n : ℕ) (f : List ℕ) (r : List Gate × List ℕ) → gates_from v n f ≡ some r
    → (map (λ g. g.lit) r.0 ≡ implied v n) × T (every descends r.0)
unfolding gates_from implied
gates-by v zero f r h =
    let e : ◌≡◌ {A = List Gate × List ℕ} ([], f) r = some_same h in
    subst (λ (x : List Gate × List ℕ). (map (λ g. g.lit) x.0 ≡ []) × T (every descends x.0)) e (refl, tt)
gates-by v (suc n) f r h =
    let a = some-bind (gate_by (2 * v) f) _ r h in
    let d = some-bind (gates_from (suc v) n a.0.1) _ r a.2 in
    let e : ◌≡◌ {A = List Gate × List ℕ} (a.0.0 ∷ d.0.0, d.0.1) r = some_same d.2 in
    let g = gate-by (2 * v) f a.0 a.1 in
    let gs = gates-by (suc v) n a.0.1 d.0 d.1 in
    subst (λ (x : List Gate × List ℕ). (map (λ g. g.lit) x.0 ≡ 2 * v ∷ implied (suc v) n) × T (every descends x.0)) e
    (ap₂ (λ (x : ℕ) (xs : List ℕ). x ∷ xs) g.0 gs.0, and (descends a.0.0) (every descends d.0.0) g.1 gs.1)

latches-by : (v : ℕ) (rs : List (List ℕ)) → map (λ l. l.lit) (latches_from v rs) ≡ implied v (length rs)
unfolding latches_from implied
latches-by v [] = refl
latches-by v (r ∷ rs) = ap (λ (xs : List ℕ). 2 * v ∷ xs) (latches-by (suc v) rs)

-- what is read is in order
pub binary-order : (h : Header) (f : List ℕ) (c : Circuit) → counts_right true h ≡ true → binary_body h f ≡ gives c → InOrder c
unfolding counts_right defined
binary-order h f c k e =
    let p = binary-parts h f c e in
    let g = gates-by (h.I + h.L + 1) h.A p.k.1 p.g p.g-is in
    let top : h.I + h.L + h.A ≡ h.M =
    eqb→eq (h.I + h.L + h.A) h.M (and_right (counts_fit h) (eqb (h.I + h.L + h.A) h.M) (T_true k)) in
    let l : map (λ (x : Latch). x.lit) (latches_from (h.I + 1) p.l.0) ≡ implied (1 + h.I) h.L =
    latches-by (h.I + 1) p.l.0
    ∙ ap₂ (λ (v n : ℕ). implied v n) (omega arith) (rows-length 1 2 h.L f p.l p.l-is) in
    let gs : map (λ (x : Gate). x.lit) p.g.0 ≡ implied (1 + (h.I + h.L)) h.A =
    g.0 ∙ ap (λ (v : ℕ). implied v h.A) (omega arith) in
    subst InOrder p.circuit
    (record {
      definitions =
          ap₂ (λ (x y : List ℕ). implied 1 h.I ++ x ++ y) l gs
          ∙ ap (λ (x : List ℕ). x ++ implied (1 + (h.I + h.L)) h.A) (implied-append 1 h.I h.L)
          ∙ implied-append 1 (h.I + h.L) h.A ∙ ap (implied 1) top;
      gates = g.1;
    })

-- ---- the causes of a binary file

-- causes from 6 on of a circuit in order
judged-order : (d : Circuit) → InOrder d → (n : ℕ) → 7 ≤ n → n ≤ 8
    → (test 6 (literals_right d) >> (test 7 (used_defined d) >> (test 8 (acyclic d) >> gives d))) ≡ refused n → ⊥
judged-order d o n l k e = go (literals_right d) refl e
  where
    go : (b : Bool) → literals_right d ≡ b → (test 6 b >> (test 7 (used_defined d) >> (test 8 (acyclic d) >> gives d))) ≡ refused n → ⊥
    go false r e = let z : ◌≡◌ {A = ℕ} 6 n = cc in omega arith
    go true r e =
        let u : used_defined d ≡ true = true-T (used_defined d) (order-defined o (T_true r)) in
        let a : acyclic d ≡ true = true-T (acyclic d) (order-acyclic o) in
        let e' : gives d ≡ refused n = rw (u, a) at e in
        let z : ◌≡◌ {A = ℕ} 0 1 = cc in
        omega arith

pub refused-read : {A B : Type 0} (m n : ℕ) (o : Option A) (k : A → Answer B) → (m ≡ n → ⊥) → (read m o >>= k) ≡ refused n → (x : A) × (k x ≡ refused n)
refused-read m n none k h e = let z : m ≡ n = cc in absurd (h z)
refused-read m n (some x) k h e = (x, e)

refused-test : {B : Type 0} (m n : ℕ) (b : Bool) (k : Answer B) → (m ≡ n → ⊥) → (test m b >> k) ≡ refused n → (b ≡ true) × (k ≡ refused n)
refused-test m n true k h e = (refl, e)
refused-test m n false k h e = let z : m ≡ n = cc in absurd (h z)

given : {A : Type 0} {a : A} {m : ℕ} → gives a ≡ refused m → ⊥
given e = let z : ◌≡◌ {A = ℕ} 0 1 = cc in omega arith

-- the sections are refused with 5 or 15
pub sections-causes : (h : Header) (f : List ℕ) (n : ℕ) → binary_body h f ≡ refused n → (5 ≡ n → ⊥) → (15 ≡ n → ⊥) → ⊥
unfolding binary_body
sections-causes h f n e p q =
    let l = refused-read 5 n (rows 1 2 h.L f) _ p e in
    let o = refused-read 5 n (rows 1 1 h.O l.0.1) _ p l.1 in
    let b = refused-read 5 n (rows 1 1 h.B o.0.1) _ p o.1 in
    let c = refused-read 5 n (rows 1 1 h.C b.0.1) _ p b.1 in
    let g = refused-read 15 n (gates_from (h.I + h.L + 1) h.A c.0.1) _ q c.1 in
    given (refused-test 5 n (is_tail g.0.1) _ p g.1).1

-- a binary file never gets 7 or 8
pub binary-causes : (room : ℕ) (f : List ℕ) → is_binary f ≡ true → (n : ℕ) → 7 ≤ n → n ≤ 8 → load room f ≡ refused n → ⊥
unfolding load sections
binary-causes room f b n l k e =
    let e' = rw b at e in
    let x1 = refused-test 1 n (leb 1 (length f) && leb (length f) 65536) _ (λ q. omega arith) e' in
    let x2 = refused-read 2 n (header f) _ (λ q. omega arith) x1.1 in
    let h = x2.0.0 in
    let g = x2.0.1 in
    let x3 = refused-test 3 n (counts_right true h) _ (λ q. omega arith) x2.1 in
    let x4 = refused-test 4 n (leb (needed h.M) room) _ (λ q. omega arith) x3.1 in
    go h g x3.0 (binary_body h g) refl x4.1
  where
    go : (h : Header) (g : List ℕ) → counts_right true h ≡ true → (a : Answer Circuit) → binary_body h g ≡ a
        → (a >>= λ d. test 6 (literals_right d) >> (test 7 (used_defined d) >> (test 8 (acyclic d) >> gives d))) ≡ refused n → ⊥
    go h g t (refused m) r e =
        let z : m ≡ n = cc in
        sections-causes h g n (r ∙ ap refused z) (λ q. omega arith) (λ q. omega arith)
    go h g t (gives d) r e = judged-order d (binary-order h g d t r) n l k e
