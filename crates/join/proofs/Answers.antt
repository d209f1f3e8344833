-- What join answers, by the counts of the two circuits. Assumes nothing.
use mathlib.Core.Path.{◌≡◌, refl, sym, ap, ap₂, ◌∙◌, subst₂}
use mathlib.Core.Bool.{Bool, true, false, ◌&&◌}
use mathlib.Core.List.{List, [], ◌∷◌, ◌++◌, map}
use Prim.Native.Nat.{ℕ, ◌+◌, ◌*◌, ◌≤◌, ◌<◌}
use native.Mathlib.Omega.{arith}
use borrow.Author.Tests.{le-leb, lt-leb}
use lib.Dec.{T, leb, eqb, leb→le, eqb→eq}
use lib.ListN.{length, length-map, length-append}
use Rattle.aiger.specs.Circuit.{Circuit, Latch, Gate}
use Rattle.aiger.specs.File.{Header, count_tests, counts_fit, header_of}
use Rattle.aiger.specs.Load.{refused, gives, needed}
use Rattle.aiger.specs.Write.{count_row}
use Rattle.aiger.specs.Memory.{Holds, image}
use Rattle.aiger.specs.Operations.{front, judge, need}
use Rattle.aiger.proofs.Tests.{T_true, and_left, and_right, all-at}
use Rattle.layout.specs.Words.{circuit_in}
use Rattle.layout.specs.Layout.{LayoutOf}
use Rattle.layout.specs.declared.Layout.{Layout}
use Rattle.meaning.proofs.Lists.{length-map-upto}
use Rattle.roundtrip.proofs.LoadWrite.{Counts}
use Rattle.frames.proofs.Facts.{counts}
use Rattle.load.specs.declared.Counts as load
use Rattle.load.specs.declared.LoadAnswer.TheVariants.{Loaded}
use Rattle.load.specs.Answers.{answered, numbers}
use Rattle.load.specs.Steps.{header_meant}
use Rattle.std.specs.Prelude.Result.{Ok, Err}
use Rattle.refusals.specs.Refusals.{number_of}
use Rattle.refusals.specs.declared.Refusal.{Refusal}
use Rattle.refusals.specs.declared.Refusal.TheVariants as refusal
use Rattle.joined.specs.Joined.{literal_under, latch_under, gate_under, pairs_gates, first_number, second_number, pairs_from, joined, can_pair}
use Rattle.joined.specs.Joined.{JoinedInto}
use Rattle.parting.proofs.Shape.{pairs-length}
use Rattle.pairing.specs.Words.{CountsAre, Small, variables}
use Rattle.pairing.proofs.Images.{layout-counts}
use Rattle.join.specs.Answers.{counts_of, RulingIs}

-- ---- counts

module _ {m : List ℕ} {p : Layout} (a : LayoutOf m p) where
  pub small : Holds m (circuit_in m) → Small p
  small h =
      let k = counts h in
      let e = layout-counts a in
      record {
        inputs = omega (arith, k.inputs, e.inputs);
        latches = omega (arith, k.latches, e.latches);
        outputs = omega (arith, k.outputs, e.outputs);
        gates = omega (arith, k.gates, e.gates);
        constraints = omega (arith, k.constraints, e.constraints);
      }

module _ {c d : Circuit} {p q : Layout} (e : CountsAre c p) (f : CountsAre d q) where
  -- the test for 17 by the counts
  pub pair-test : can_pair c d ≡ (leb 1 p.o && leb p.o 16 && eqb p.i q.i && eqb p.o q.o)
  pair-test = cc

  -- the counts of the joined circuit
  pub header_is : p.o ≡ q.o → header_of (joined c d) ≡ header_meant (counts_of p q)
  unfolding joined
  header_is o =
      let σ = first_number c d in
      let τ = second_number c d in
      let ps : List ℕ = map (literal_under σ) c.outputs in
      let qs : List ℕ = map (literal_under τ) d.outputs in
      let gs : List Gate = map (gate_under σ) c.gates in
      let hs : List Gate = map (gate_under τ) d.gates in
      let ls : List Latch = map (latch_under σ) c.latches in
      let ks : List Latch = map (latch_under τ) d.latches in
      let same : length ps ≡ length qs =
      omega (arith, length-map c.outputs (literal_under σ), length-map d.outputs (literal_under τ), e.outputs, f.outputs) in
      let top : (joined c d).max_var ≡ (counts_of p q).m = omega (arith, e.inputs, e.latches, f.latches, e.gates, f.gates, e.outputs) in
      let inputs : length (joined c d).inputs ≡ p.i = length-map-upto (λ (i : ℕ). 2 * (i + 1)) (length c.inputs) ∙ sym e.inputs in
      let latches : length (ls ++ ks) ≡ p.l + q.l = omega (arith, length-append ls ks, length-map c.latches (latch_under σ), length-map d.latches (latch_under τ), e.latches, f.latches) in
      let gates : length (gs ++ hs ++ pairs_gates (pairs_from c d) ps qs) ≡ p.a + q.a + 3 * p.o =
      omega (
        arith,
        length-append (gs ++ hs) (pairs_gates (pairs_from c d) ps qs),
        length-append gs hs,
        length-map c.gates (gate_under σ),
        length-map d.gates (gate_under τ),
        pairs-length (pairs_from c d) ps qs same,
        length-map c.outputs (literal_under σ),
        e.gates,
        f.gates,
        e.outputs,
      ) in
      let bads : length (joined c d).bads ≡ p.o = length-map-upto (λ (j : ℕ). 2 * (pairs_from c d + 3 * j + 2) + 1) (length c.outputs) ∙ sym e.outputs in
      let cs : List ℕ = map (literal_under σ) c.constraints in
      let ds : List ℕ = map (literal_under τ) d.constraints in
      let constraints : length (cs ++ ds) ≡ p.c + q.c =
      omega (arith, length-append cs ds, length-map c.constraints (literal_under σ), length-map d.constraints (literal_under τ), e.constraints, f.constraints) in
      λ i. record { M = top i; I = inputs i; L = latches i; O = 0; A = gates i; B = bads i; C = constraints i; J = 0; F = 0 }

  pub top-is-variables : (joined c d).max_var ≡ variables p q
  unfolding joined
  top-is-variables = omega (arith, e.inputs, e.latches, f.latches, e.gates, f.gates, e.outputs)

-- ---- the tests

header-top : (h : Header) → counts_fit h ≡ true → T (leb h.M 4096)
unfolding counts_fit
header-top h e = all-at (count_tests h) (T_true e) 0

pub fails-17 : {x : Bool} (y z : Bool) → x ≡ false → judge (need 17 x ∷ need 3 y ∷ need 4 z ∷ []) ≡ refused 17
unfolding judge
fails-17 y z e = ap (λ (x : Bool). judge (need 17 x ∷ need 3 y ∷ need 4 z ∷ [])) e

pub fails-3 : {x y : Bool} (z : Bool) → x ≡ true → y ≡ false → judge (need 17 x ∷ need 3 y ∷ need 4 z ∷ []) ≡ refused 3
unfolding judge
fails-3 z e f = ap₂ (λ (x y : Bool). judge (need 17 x ∷ need 3 y ∷ need 4 z ∷ [])) e f

pub fails-4 : {x y z : Bool} → x ≡ true → y ≡ true → z ≡ false → judge (need 17 x ∷ need 3 y ∷ need 4 z ∷ []) ≡ refused 4
unfolding judge
fails-4 {z = z} e f g = ap₂ (λ (x y : Bool). judge (need 17 x ∷ need 3 y ∷ need 4 z ∷ [])) e f ∙ ap (λ (z : Bool). judge (need 4 z ∷ [])) g

pub fails-none : {x y z : Bool} → x ≡ true → y ≡ true → z ≡ true → judge (need 17 x ∷ need 3 y ∷ need 4 z ∷ []) ≡ gives tt
unfolding judge
fails-none {z = z} e f g = ap₂ (λ (x y : Bool). judge (need 17 x ∷ need 3 y ∷ need 4 z ∷ [])) e f ∙ ap (λ (z : Bool). judge (need 4 z ∷ [])) g

module _ (p q : Layout) (room : ℕ) where
  abbrev pairs : Bool
  pairs = leb 1 p.o && leb p.o 16 && eqb p.i q.i && eqb p.o q.o

  same-outputs : pairs ≡ true → p.o ≡ q.o
  same-outputs t = eqb→eq p.o q.o (and_right (leb 1 p.o && leb p.o 16 && eqb p.i q.i) (eqb p.o q.o) (T_true t))

  abbrev fits : Bool
  fits = counts_fit (header_meant (counts_of p q))

  fit_is : {c d : Circuit} → CountsAre c p → CountsAre d q → p.o ≡ q.o → counts_fit (header_of (joined c d)) ≡ fits
  fit_is e f o = ap counts_fit (header_is e f o)

  room-is : {c d : Circuit} → CountsAre c p → CountsAre d q → leb (needed (joined c d).max_var) room ≡ leb (needed (variables p q)) room
  room-is e f = ap (λ (n : ℕ). leb (needed n) room) (top-is-variables e f)

  pub says-17 : pairs ≡ false → RulingIs p q room (Err refusal.Shape)
  says-17 n = record { tests = λ c d e f. fails-17 _ _ (pair-test e f ∙ n); passes = tt }

  pub says-3 : pairs ≡ true → counts_fit (header_meant (counts_of p q)) ≡ false → RulingIs p q room (Err refusal.Counts)
  says-3 t n =
      record {
        tests = λ c d e f. fails-3 _ (pair-test e f ∙ t) (fit_is e f (same-outputs t) ∙ n);
        passes = tt;
      }

  module _ (t : (leb 1 p.o && leb p.o 16 && eqb p.i q.i && eqb p.o q.o) ≡ true) (u : counts_fit (header_meant (counts_of p q)) ≡ true) where
    pub says-4 : room < needed (variables p q) → RulingIs p q room (Err refusal.CircuitMemory)
    says-4 l =
        record {
          tests = λ c d e f. fails-4 (pair-test e f ∙ t) (fit_is e f (same-outputs t) ∙ u) (room-is e f ∙ lt-leb (needed (variables p q)) room l);
          passes = tt;
        }

    pub says_none : Small p → Small q → needed (variables p q) ≤ room → RulingIs p q room (Ok tt)
    says_none s s' l =
        record {
          tests = λ c d e f. fails-none (pair-test e f ∙ t) (fit_is e f (same-outputs t) ∙ u) (room-is e f ∙ le-leb (needed (variables p q)) room l);
          passes = (
            record {
              small = s;
              small' = s';
              outputs = same-outputs t;
              some = leb→le 1 p.o (and_left (leb 1 p.o) (leb p.o 16) (and_left (leb 1 p.o && leb p.o 16) (eqb p.i q.i) (and_left (leb 1 p.o && leb p.o 16 && eqb p.i q.i) (eqb p.o q.o) (T_true t))));
              few = leb→le p.o 16 (and_right (leb 1 p.o) (leb p.o 16) (and_left (leb 1 p.o && leb p.o 16) (eqb p.i q.i) (and_left (leb 1 p.o && leb p.o 16 && eqb p.i q.i) (eqb p.o q.o) (T_true t))));
              top = top-most;
            },
            l,
          );
        }
      where
        top-most : variables p q ≤ 4096
        top-most = let t = leb→le (counts_of p q).m 4096 (header-top (header_meant (counts_of p q)) u) in omega arith

-- ---- the answers

module _ {m₁ m₂ m : List ℕ} {p q : Layout} (h : Holds m₁ (circuit_in m₁)) (a : LayoutOf m₁ p) (h' : Holds m₂ (circuit_in m₂))
    (a' : LayoutOf m₂ q) where
  pub refuses-in : {e : Refusal} → RulingIs p q (length m) (Err e) → JoinedInto m₁ m₂ m (refused (number_of e)) m
  refuses-in t =
      JoinedInto.refuses (circuit_in m₁) (circuit_in m₂) h h' (t.tests (circuit_in m₁) (circuit_in m₂) (layout-counts a) (layout-counts a'))

  pub stores-in : RulingIs p q (length m) (Ok tt) → {after : List ℕ} {k : load.Counts}
      → after ≡ front (image (joined (circuit_in m₁) (circuit_in m₂))) m → k ≡ counts_of p q → JoinedInto m₁ m₂ m (answered (Loaded k)) after
  stores-in t {after} {k} e f =
      let J = joined (circuit_in m₁) (circuit_in m₂) in
      let passed = t.passes in
      let hd = header_is (layout-counts a) (layout-counts a') passed.0.outputs in
      let row : numbers k ≡ J.max_var ∷ count_row J = ap numbers f ∙ sym (ap (λ (x : Header). x.M ∷ x.I ∷ x.L ∷ x.O ∷ x.A ∷ x.B ∷ x.C ∷ []) hd) in
      subst₂ (λ (x : List ℕ) (y : List ℕ). JoinedInto m₁ m₂ m (gives x) y) (sym row) (sym e)
      (JoinedInto.stores (circuit_in m₁) (circuit_in m₂) h h' (t.tests (circuit_in m₁) (circuit_in m₂) (layout-counts a) (layout-counts a')))
