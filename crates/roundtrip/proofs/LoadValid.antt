-- An accepted load gives a valid circuit. Assumes nothing.
use mathlib.Core.Path.{◌≡◌, refl, sym, ap, ◌∙◌, subst}
use mathlib.Core.Bool.{Bool, true, false, not, ◌&&◌, ◌||◌}
use mathlib.Core.List.{List, [], ◌∷◌, map}
use mathlib.Core.Option.{Option, none, some}
use Prim.Native.Nat.{ℕ, zero, suc, ◌+◌, ◌*◌, ◌≤◌}
use native.Mathlib.Omega.{arith}
use lib.Dec.{leb, eqb, eqb→eq}
use borrow.Author.Tests.{leb-true}
use lib.ListN.{length, length-map}
use Rattle.aiger.specs.Text.{row, rows, when}
use Rattle.aiger.specs.Text as Text
use Rattle.aiger.specs.Circuit.{Circuit, Gate, literals_right, used_defined, acyclic}
use Rattle.aiger.specs.File.{header_of, Header, is_binary, header, counts_fit, counts_right, is_tail, body, first, latch, gate, count_tests}
use Rattle.aiger.specs.Binary.{implied, latches_from, gate_by, gates_from}
use Rattle.aiger.specs.Load.{Answer, refused, gives, ◌>>=◌, test, read, binary_body, sections, load, needed}
use Rattle.aiger.proofs.Tests.{T_true, true-T, and_left, all-at}
use Rattle.roundtrip.proofs.LoadWrite.{Valid}

-- a chain that gives something: its first part gives something too
pub gives-bind : {A B : Type 0} (a : Answer A) (f : A → Answer B) (c : B) → (a >>= f) ≡ gives c → (x : A) × (a ≡ gives x) × (f x ≡ gives c)
gives-bind (refused n) f c h = let z : ◌≡◌ {A = ℕ} 0 1 = cc in absurd (omega arith)
gives-bind (gives x) f c h = (x, refl, h)

-- a test that gives something has passed
pub gives-test : (n : ℕ) (b : Bool) (u : Unit {0}) → test n b ≡ gives u → b ≡ true
gives-test n true u h = refl
gives-test n false u h = let z : ◌≡◌ {A = ℕ} 0 1 = cc in absurd (omega arith)

-- a reading that gives something has read it
pub gives-read : {A : Type 0} (n : ℕ) (o : Option A) (a : A) → read n o ≡ gives a → o ≡ some a
gives-read n none a h = let z : ◌≡◌ {A = ℕ} 0 1 = cc in absurd (omega arith)
gives-read n (some x) a h = cc

-- a chain that has a value: its first part has one too
pub some-bind : {A B : Type 0} (a : Option A) (f : A → Option B) (c : B) → Text.◌>>=◌ a f ≡ some c → (x : A) × (a ≡ some x) × (f x ≡ some c)
some-bind none f c h = let z : ◌≡◌ {A = ℕ} 0 1 = cc in absurd (omega arith)
some-bind (some x) f c h = (x, refl, h)

-- equal values, taken out
pub some_same : {A : Type 0} {a b : A} → some a ≡ some b → a ≡ b
some_same h = cc

-- equal answers, taken out
pub gives_same : {A : Type 0} {a b : A} → gives a ≡ gives b → a ≡ b
gives_same h = cc

-- as many lines are read as were asked for
pub rows-length : (least most n : ℕ) (f : List ℕ) (r : List (List ℕ) × List ℕ) → rows least most n f ≡ some r → length r.0 ≡ n
unfolding rows
rows-length least most zero f r h =
    let e : ◌≡◌ {A = List (List ℕ) × List ℕ} ([], f) r = cc in
    ap (λ (x : List (List ℕ) × List ℕ). length x.0) (sym e)
rows-length least most (suc n) f r h =
    let a = some-bind (row most f) _ r h in
    let b = some-bind (when (leb least (length a.0.0))) _ r a.2 in
    let d = some-bind (rows least most n a.0.1) _ r b.2 in
    let e : ◌≡◌ {A = List (List ℕ) × List ℕ} (a.0.0 ∷ d.0.0, d.0.1) r = some_same d.2 in
    ap (λ (x : List (List ℕ) × List ℕ). length x.0) (sym e) ∙ ap suc (rows-length least most n a.0.1 d.0 d.1)

-- the circuit has the header's counts
pub record Counted (h : Header) (c : Circuit) : Type 0 where
  pub max_var : c.max_var ≡ h.M
  pub inputs : length c.inputs ≡ h.I
  pub latches : length c.latches ≡ h.L
  pub outputs : length c.outputs ≡ h.O
  pub gates : length c.gates ≡ h.A
  pub bads : length c.bads ≡ h.B
  pub constraints : length c.constraints ≡ h.C

-- the circuit that a body gives has the header's counts
pub body-counted : (h : Header) (f : List ℕ) (c : Circuit) → body h f ≡ some c → Counted h c
unfolding body
body-counted h f c e =
    let i = some-bind (rows 1 1 h.I f) _ c e in
    let l = some-bind (rows 2 3 h.L i.0.1) _ c i.2 in
    let o = some-bind (rows 1 1 h.O l.0.1) _ c l.2 in
    let b = some-bind (rows 1 1 h.B o.0.1) _ c o.2 in
    let k = some-bind (rows 1 1 h.C b.0.1) _ c b.2 in
    let g = some-bind (rows 3 3 h.A k.0.1) _ c k.2 in
    let t = some-bind (when (is_tail g.0.1)) _ c g.2 in
    subst (Counted h) (some_same t.2)
    (record {
      max_var = refl;
      inputs = length-map i.0.0 first ∙ rows-length 1 1 h.I f i.0 i.1;
      latches = length-map l.0.0 latch ∙ rows-length 2 3 h.L i.0.1 l.0 l.1;
      outputs = length-map o.0.0 first ∙ rows-length 1 1 h.O l.0.1 o.0 o.1;
      gates = length-map g.0.0 gate ∙ rows-length 3 3 h.A k.0.1 g.0 g.1;
      bads = length-map b.0.0 first ∙ rows-length 1 1 h.B o.0.1 b.0 b.1;
      constraints = length-map k.0.0 first ∙ rows-length 1 1 h.C b.0.1 k.0 k.1;
    })

-- ---- the binary form

pub implied-length : (v n : ℕ) → length (implied v n) ≡ n
unfolding implied
implied-length v zero = refl
implied-length v (suc n) = ap suc (implied-length (suc v) n)

pub latches-length : (v : ℕ) (rs : List (List ℕ)) → length (latches_from v rs) ≡ length rs
unfolding latches_from
latches-length v [] = refl
latches-length v (r ∷ rs) = ap suc (latches-length (suc v) rs)

-- as many gates are read as were asked for
pub gates-length : (v n : ℕ) (f : List ℕ) (r : List Gate × List ℕ) → gates_from v n f ≡ some r → length r.0 ≡ n
unfolding gates_from
gates-length v zero f r h =
    let e : ◌≡◌ {A = List Gate × List ℕ} ([], f) r = cc in
    ap (λ (x : List Gate × List ℕ). length x.0) (sym e)
gates-length v (suc n) f r h =
    let a = some-bind (gate_by (2 * v) f) _ r h in
    let d = some-bind (gates_from (suc v) n a.0.1) _ r a.2 in
    let e : ◌≡◌ {A = List Gate × List ℕ} (a.0.0 ∷ d.0.0, d.0.1) r = some_same d.2 in
    ap (λ (x : List Gate × List ℕ). length x.0) (sym e) ∙ ap suc (gates-length (suc v) n a.0.1 d.0 d.1)

-- what the sections of a file in binary form are, where they give a circuit
pub record BinaryParts (h : Header) (f : List ℕ) (c : Circuit) : Type 0 where
  pub l : List (List ℕ) × List ℕ
  pub o : List (List ℕ) × List ℕ
  pub b : List (List ℕ) × List ℕ
  pub k : List (List ℕ) × List ℕ
  pub g : List Gate × List ℕ
  pub l-is : rows 1 2 h.L f ≡ some l
  pub o_is : rows 1 1 h.O l.1 ≡ some o
  pub b-is : rows 1 1 h.B o.1 ≡ some b
  pub k-is : rows 1 1 h.C b.1 ≡ some k
  pub g-is : gates_from (h.I + h.L + 1) h.A k.1 ≡ some g
  pub circuit : record {
    max_var = h.M;
    inputs = implied 1 h.I;
    latches = latches_from (h.I + 1) l.0;
    outputs = map first o.0;
    bads = map first b.0;
    constraints = map first k.0;
    gates = g.0;
  } ≡ c

pub binary-parts : (h : Header) (f : List ℕ) (c : Circuit) → binary_body h f ≡ gives c → BinaryParts h f c
unfolding binary_body
binary-parts h f c e =
    let l = gives-bind (read 5 (rows 1 2 h.L f)) _ c e in
    let o = gives-bind (read 5 (rows 1 1 h.O l.0.1)) _ c l.2 in
    let b = gives-bind (read 5 (rows 1 1 h.B o.0.1)) _ c o.2 in
    let k = gives-bind (read 5 (rows 1 1 h.C b.0.1)) _ c b.2 in
    let g = gives-bind (read 15 (gates_from (h.I + h.L + 1) h.A k.0.1)) _ c k.2 in
    let t = gives-bind (test 5 (is_tail g.0.1)) _ c g.2 in
    record {
      l = l.0;
      o = o.0;
      b = b.0;
      k = k.0;
      g = g.0;
      l-is = gives-read 5 (rows 1 2 h.L f) l.0 l.1;
      o_is = gives-read 5 (rows 1 1 h.O l.0.1) o.0 o.1;
      b-is = gives-read 5 (rows 1 1 h.B o.0.1) b.0 b.1;
      k-is = gives-read 5 (rows 1 1 h.C b.0.1) k.0 k.1;
      g-is = gives-read 15 (gates_from (h.I + h.L + 1) h.A k.0.1) g.0 g.1;
      circuit = gives_same t.2;
    }

pub binary-counted : (h : Header) (f : List ℕ) (c : Circuit) → binary_body h f ≡ gives c → Counted h c
binary-counted h f c e =
    let p = binary-parts h f c e in
    subst (Counted h) p.circuit
    (record {
      max_var = refl;
      inputs = implied-length 1 h.I;
      latches = latches-length (h.I + 1) p.l.0 ∙ rows-length 1 2 h.L f p.l p.l-is;
      outputs = length-map p.o.0 first ∙ rows-length 1 1 h.O p.l.1 p.o p.o_is;
      gates = gates-length (h.I + h.L + 1) h.A p.k.1 p.g p.g-is;
      bads = length-map p.b.0 first ∙ rows-length 1 1 h.B p.o.1 p.b p.b-is;
      constraints = length-map p.k.0 first ∙ rows-length 1 1 h.C p.b.1 p.k p.k-is;
    })

-- the circuit that the sections give has the header's counts
pub sections-counted : (binary : Bool) (h : Header) (f : List ℕ) (c : Circuit) → sections binary h f ≡ gives c → Counted h c
unfolding sections
sections-counted true h f c e = binary-counted h f c e
sections-counted false h f c e = body-counted h f c (gives-read 5 (body h f) c e)

-- counts that are right fit
pub right-fit : (binary : Bool) (h : Header) → counts_right binary h ≡ true → counts_fit h ≡ true
unfolding counts_right
right-fit binary h e =
    true-T (counts_fit h) (and_left (counts_fit h) (not binary || eqb (h.I + h.L + h.A) h.M) (T_true e))

-- a header whose counts fit is that of the circuit
pub same-header : (h : Header) (c : Circuit) → Counted h c → counts_fit h ≡ true → header_of c ≡ h
unfolding counts_fit
same-header h c n e =
    let at = all-at (count_tests h) (T_true e) in
    λ i. record {
      M = n.max_var i;
      I = n.inputs i;
      L = n.latches i;
      O = n.outputs i;
      A = n.gates i;
      B = n.bads i;
      C = n.constraints i;
      J = sym (eqb→eq h.J 0 (at 7)) i;
      F = sym (eqb→eq h.F 0 (at 8)) i;
    }

valid-of : (room : ℕ) (h : Header) (c : Circuit) → Counted h c → counts_fit h ≡ true → needed h.M ≤ room → literals_right c ≡ true
    → used_defined c ≡ true → acyclic c ≡ true → Valid room c
valid-of room h c n e r l u o =
    record { fit = ap counts_fit (same-header h c n e) ∙ e; held = rw n.max_var r; literals = l; uses = u; order = o }

-- an accepted load gives a valid circuit
pub load-valid : {room : ℕ} (f : List ℕ) {c : Circuit} → load room f ≡ gives c → Valid room c
unfolding load
load-valid {room} f {c} e =
    let a1 = gives-bind (test 1 (leb 1 (length f) && leb (length f) 65536)) _ c e in
    let a2 = gives-bind (read 2 (header f)) _ c a1.2 in
    let h = a2.0.0 in
    let a3 = gives-bind (test 3 (counts_right (is_binary f) h)) _ c a2.2 in
    let a4 = gives-bind (test 4 (leb (needed h.M) room)) _ c a3.2 in
    let a5 = gives-bind (sections (is_binary f) h a2.0.1) _ c a4.2 in
    let d = a5.0 in
    let a6 = gives-bind (test 6 (literals_right d)) _ c a5.2 in
    let a7 = gives-bind (test 7 (used_defined d)) _ c a6.2 in
    let a8 = gives-bind (test 8 (acyclic d)) _ c a7.2 in
    subst (Valid room) (gives_same a8.2)
    (valid-of room h d (sections-counted (is_binary f) h a2.0.1 d a5.1)
    (right-fit (is_binary f) h (gives-test 3 (counts_right (is_binary f) h) a3.0 a3.1))
    (leb-true (needed h.M) room (gives-test 4 (leb (needed h.M) room) a4.0 a4.1)) (gives-test 6 (literals_right d) a6.0 a6.1)
    (gives-test 7 (used_defined d) a7.0 a7.1) (gives-test 8 (acyclic d) a8.0 a8.1))
