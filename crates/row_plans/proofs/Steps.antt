-- The steps of the code, each taken by the definitions. Assumes nothing.
use mathlib.Core.Path.{◌≡◌, refl, sym, ap, ap₂, ◌∙◌, subst}
use mathlib.Core.Bool.{Bool, true, false, cond}
use mathlib.Core.List.{List, [], ◌∷◌, ◌++◌, map, append-nil}
use Prim.Native.Nat.{ℕ, zero, suc, ◌+◌, ◌-◌, ◌%◌, ◌≤◌, ◌<◌}
use native.Mathlib.Nat.{not-suc-le-zero, le_of_suc-le-suc}
use native.Mathlib.Numerals.{add-one}
use native.Mathlib.Omega.{arith}
use borrow.Author.Tests.{lt-ltb, le-ltb}
use lib.Dec.{ltb, leb}
use lib.ListN.{length, get_or, set, take, drop, length-append}
use lib.Seq.{sets, set_comm, drop-cons, get_or-take}
use Rattle.aiger.specs.Lists.{upto}
use Rattle.aiger.specs.Bits.{nonzero, odd}
use Rattle.aiger.specs.Circuit.{Circuit, Gate, var}
use Rattle.meaning.specs.Frame.{latch_at, gate_at}
use Rattle.meaning.proofs.Lists.{map-upto-suc, length-map-upto}
use Rattle.influence.specs.Cone.{marked, kept_below}
use Rattle.diagram_rows.specs.Rows.{Plan}
use Rattle.row_plans.specs.Plans.{inputs_of, listed, gates_of, Meeting, meeting_of, numbered, met, met_gate, met_gates, met_all, met_first, met_latches, copied, unmet, meeting, turned, arranged, planned, Listed, Planned}

-- ---- lists in words

pub sets-append : (l : List ℕ) (at : ℕ) (xs ys : List ℕ) → sets l at (xs ++ ys) ≡ sets (sets l at xs) (at + length xs) ys
sets-append l at [] ys = ap (λ (n : ℕ). sets l n ys) (omega arith)
sets-append l at (x ∷ xs) ys = sets-append (set l at x) (suc at) xs ys ∙ ap (λ (n : ℕ). sets (sets (set l at x) (suc at) xs) n ys) (omega arith)

-- a store before what is written
pub set_before : (l : List ℕ) (at : ℕ) (xs : List ℕ) (i x : ℕ) → i < at → set (sets l at xs) i x ≡ sets (set l i x) at xs
set_before l at [] i x h = refl
set_before l at (y ∷ ys) i x h =
    set_before (set l at y) (suc at) ys i x (omega arith)
    ∙ ap (λ (m : List ℕ). sets m (suc at) ys) (set_comm l at i y x (λ e. omega arith))

-- two lists, one after the other, the second one written first
pub sets-before : (l : List ℕ) (at to : ℕ) (xs ys : List ℕ) → at + length xs ≤ to → sets (sets l to ys) at xs ≡ sets (sets l at xs) to ys
sets-before l at to [] ys h = refl
sets-before l at to (x ∷ xs) ys h =
    ap (λ (m : List ℕ). sets m (suc at) xs) (set_before l to ys at x (omega arith)) ∙ sets-before (set l at x) (suc at) to xs ys (omega arith)

-- nothing is written yet
pub listed-none : (at : ℕ) (l : List ℕ) → Listed [] at l l at
listed-none at l = record { words = refl; end = omega arith }

pub listed_more : {xs ys : List ℕ} {at n r : ℕ} {a b c : List ℕ} → Listed xs at a b n → Listed ys n b c r → Listed (xs ++ ys) at a c r
listed_more {xs} {ys} {at} {n} {r} {a} {b} {c} p q =
    record {
      words =
          q.words ∙ ap (λ (l : List ℕ). sets l n ys) p.words ∙ ap (λ (k : ℕ). sets (sets a at xs) k ys) p.end
          ∙ sym (sets-append a at xs ys);
      end = omega (arith, p.end, q.end, length-append xs ys);
    }

-- one that passes, or none
pub if_yes : (t : Bool) (x n r : ℕ) (l m : List ℕ) → t ≡ true → m ≡ set l n x → r ≡ n + 1 → Listed (cond t (x ∷ []) []) n l m r
if_yes t x n r l m e p q =
    subst (λ (b : Bool). Listed (cond b (x ∷ []) []) n l m r) (sym e) (record { words = p; end = q })

pub if_no : (t : Bool) (x n : ℕ) (l : List ℕ) → t ≡ false → Listed (cond t (x ∷ []) []) n l l n
if_no t x n l e = subst (λ (b : Bool). Listed (cond b (x ∷ []) []) n l l n) (sym e) (listed-none n l)

-- the next one of a list of those that pass
after-cond : (b : Bool) (xs : List ℕ) (x : ℕ) → xs ++ cond b (x ∷ []) [] ≡ cond b (xs ++ (x ∷ [])) xs
after-cond true xs x = refl
after-cond false xs x = append-nil xs

pub kept_more : (p : ℕ → Bool) (i : ℕ) (t : Bool) → t ≡ p i → kept_below p i ++ cond t (i ∷ []) [] ≡ kept_below p (i + 1)
unfolding kept_below
kept_more p i t e =
    ap (λ (b : Bool). kept_below p i ++ cond b (i ∷ []) []) e ∙ after-cond (p i) (kept_below p i) i ∙ sym (ap (kept_below p) (add-one i))

pub kept-none : (p : ℕ → Bool) → [] ≡ kept_below p 0
unfolding kept_below
kept-none p = refl

pub listing-more : (p : ℕ → Bool) (f : ℕ → ℕ) (i : ℕ) (t : Bool) (x : ℕ) → t ≡ p i → x ≡ f i → listed p f i ++ cond t (x ∷ []) [] ≡ listed p f (i + 1)
unfolding listed
listing-more p f i t x e q =
    ap₂ (λ (b : Bool) (y : ℕ). listed p f i ++ cond b (y ∷ []) []) e q ∙ after-cond (p i) (listed p f i) (f i) ∙ sym (ap (listed p f) (add-one i))

pub listing_none : (p : ℕ → Bool) (f : ℕ → ℕ) → [] ≡ listed p f 0
unfolding listed
listing_none p f = refl

-- it is no longer than what was tried
pub kept-few : (p : ℕ → Bool) (n : ℕ) → length (kept_below p n) ≤ n
unfolding kept_below
kept-few p zero = omega arith
kept-few p (suc n) = go (p n) (kept-few p n)
  where
    go : (b : Bool) → length (kept_below p n) ≤ n → length (cond b (kept_below p n ++ (n ∷ [])) (kept_below p n)) ≤ suc n
    go true h = omega (arith, length-append (kept_below p n) (n ∷ []))
    go false h = omega arith

pub listing-few : (p : ℕ → Bool) (f : ℕ → ℕ) (n : ℕ) → length (listed p f n) ≤ n
unfolding listed
listing-few p f zero = omega arith
listing-few p f (suc n) = go (p n) (listing-few p f n)
  where
    go : (b : Bool) → length (listed p f n) ≤ n → length (cond b (listed p f n ++ (f n ∷ [])) (listed p f n)) ≤ suc n
    go true h = omega (arith, length-append (listed p f n) (f n ∷ []))
    go false h = omega arith

-- a list with the same elements
pub listed-as : {xs ys : List ℕ} {at r : ℕ} {a b : List ℕ} → xs ≡ ys → Listed xs at a b r → Listed ys at a b r
listed-as {xs} {ys} {at} {r} {a} {b} e l = subst (λ (zs : List ℕ). Listed zs at a b r) e l

-- ---- latches

-- nothing is left past the end
drop_all : (k : ℕ) (xs : List ℕ) → length xs ≤ k → drop k xs ≡ []
drop_all zero [] h = refl
drop_all (suc k) [] h = refl
drop_all zero (x ∷ xs) h = absurd (not-suc-le-zero h)
drop_all (suc k) (x ∷ xs) h = drop_all k xs (le_of_suc-le-suc h)

rest : (xs : List ℕ) (k : ℕ) → k < length xs → drop k xs ≡ get_or xs k 0 ∷ drop (k + 1) xs
rest xs k h = rw (add-one, drop-cons xs k 0)

module _ (c : Circuit) (js : List ℕ) (k : ℕ) where
  pub numbered-done : (ms : List ℕ) → length js ≤ k → ms ≡ numbered c (drop k js) ms
  unfolding numbered
  numbered-done ms h = sym (ap (λ (xs : List ℕ). numbered c xs ms) (drop_all k js h))

  pub numbered_more : (ms ns : List ℕ) (v : ℕ) → k < length js → v ≡ var (latch_at c (get_or js k 0)).lit
      → ns ≡ set ms v ((get_or js k 0 + 2) % 4294967296) → numbered c (drop (k + 1) js) ns ≡ numbered c (drop k js) ms
  unfolding numbered
  numbered_more ms ns v h e q =
      ap (numbered c (drop (k + 1) js)) (q ∙ ap (λ (u : ℕ). set ms u ((get_or js k 0 + 2) % 4294967296)) e)
      ∙ sym (ap (λ (xs : List ℕ). numbered c xs ms) (rest js k h))

  pub latches-done : (s : Meeting) → length js ≤ k → s ≡ met_latches c (drop k js) s
  unfolding met_latches
  latches-done s h = sym (ap (λ (xs : List ℕ). met_latches c xs s) (drop_all k js h))

  pub latches-more : (s t : Meeting) (v : ℕ) → k < length js → v ≡ var (latch_at c (get_or js k 0)).lit → t ≡ met v s
      → met_latches c (drop (k + 1) js) t ≡ met_latches c (drop k js) s
  unfolding met_latches
  latches-more s t v h e q =
      ap (met_latches c (drop (k + 1) js)) (q ∙ ap (λ (u : ℕ). met u s) e) ∙ sym (ap (λ (xs : List ℕ). met_latches c xs s) (rest js k h))

module _ (v : ℕ) (s : Meeting) where
  pub met-full : length s.list ≤ s.count → s ≡ met v s
  unfolding met
  met-full h = sym (rw (le-ltb s.count (length s.list) h))

  pub met-not : s.count < length s.list → get_or s.marks v 0 ≤ 1 → s ≡ met v s
  unfolding met
  met-not h l = sym (rw (lt-ltb s.count (length s.list) h, le-ltb 1 (get_or s.marks v 0) l))

  pub met-now : s.count < length s.list → 1 < get_or s.marks v 0
      → record { marks = set s.marks v 1; list = set s.list s.count (get_or s.marks v 0 - 2); count = s.count + 1 } ≡ met v s
  unfolding met
  met-now h l = sym (rw (lt-ltb s.count (length s.list) h, lt-ltb 1 (get_or s.marks v 0) l))

pub gate-not : (g : Gate) (s : Meeting) (t : Bool) → t ≡ marked s.marks g.lit → t ≡ false → s ≡ met_gate g s
unfolding met_gate
gate-not g s t e f = sym (ap (λ (b : Bool). cond b (met (var g.right) (met (var g.left) s)) s) (sym e ∙ f))

pub gate-met : (g : Gate) (s u w : Meeting) (t : Bool) (x y : ℕ) → t ≡ marked s.marks g.lit → t ≡ true → x ≡ var g.left → y ≡ var g.right
    → u ≡ met x s → w ≡ met y u → w ≡ met_gate g s
unfolding met_gate
gate-met g s u w t x y e f p q a b =
    b ∙ ap₂ (λ (z : ℕ) (m : Meeting). met z m) q (a ∙ ap (λ (z : ℕ). met z s) p)
    ∙ sym (ap (λ (b : Bool). cond b (met (var g.right) (met (var g.left) s)) s) (sym e ∙ f))

pub gates-more : (f : ℕ → Gate) (k : ℕ) (s t : Meeting) → 0 < k → t ≡ met_gate (f (k - 1)) s → met_gates f (k - 1) t ≡ met_gates f k s
unfolding met_gates
gates-more f k s t h e = let z : k ≡ suc (k - 1) = omega arith in ap (met_gates f (k - 1)) e ∙ sym (ap (λ (n : ℕ). met_gates f n s) z)

pub gates-none : (f : ℕ → Gate) (k : ℕ) (s : Meeting) → k ≡ 0 → s ≡ met_gates f k s
unfolding met_gates
gates-none f k s e = sym (ap (λ (n : ℕ). met_gates f n s) e)

pub first-yes : (c : Circuit) (order : List ℕ) (which : ℕ) (s : Meeting) → 1 < which → met_all c order s ≡ met_first c order which s
first-yes c order which s h = sym (rw (lt-ltb 1 which h))

pub first-no : (c : Circuit) (order : List ℕ) (which : ℕ) (s : Meeting) → which ≤ 1 → s ≡ met_first c order which s
first-no c order which s h = sym (rw (le-ltb 1 which h))

pub meeting-is : (c : Circuit) (ms ns order : List ℕ) (which : ℕ) (js xs : List ℕ) (s t : Meeting) → ns ≡ numbered c js ms → xs ≡ copied js
    → s ≡ met_first c order which (meeting_of ns xs 0) → t ≡ met_latches c js s → t.list ≡ (meeting c ms order which js).list
unfolding meeting
meeting-is c ms ns order which js xs s t e f p q =
    ap (λ (m : Meeting). m.list)
    (q ∙ ap (met_latches c js) (p ∙ ap₂ (λ (a b : List ℕ). met_first c order which (meeting_of a b 0)) e f))

-- ---- turned round

pub turned-even : (xs : List ℕ) (n which k r : ℕ) → which % 2 ≡ 0 → r ≡ get_or xs k 0 → r ≡ get_or xs (cond (odd which) (n - (k + 1)) k) 0
turned-even xs n which k r e q = q ∙ sym (ap (λ (z : ℕ). get_or xs (cond (nonzero z) (n - (k + 1)) k) 0) e)

pub turned-odd : (xs : List ℕ) (n which k r : ℕ) → (which % 2 ≡ 0 → ⊥) → r ≡ get_or xs (n - (k + 1)) 0 → r ≡ get_or xs (cond (odd which) (n - (k + 1)) k) 0
turned-odd xs n which k r e q =
    let z : which % 2 ≡ 1 = omega arith in q ∙ sym (ap (λ (z : ℕ). get_or xs (cond (nonzero z) (n - (k + 1)) k) 0) z)

pub turned_more : (b : Bool) (n k at : ℕ) (xs l m : List ℕ) (x : ℕ) → x ≡ get_or xs (cond b (n - (k + 1)) k) 0
    → m ≡ sets l at (map (λ i. get_or xs (cond b (n - (i + 1)) i) 0) (upto k))
    → set m (at + k) x ≡ sets l at (map (λ i. get_or xs (cond b (n - (i + 1)) i) 0) (upto (k + 1)))
turned_more b n k at xs l m x e q =
    let f : ℕ → ℕ = λ i. get_or xs (cond b (n - (i + 1)) i) 0 in
    let z : at + length (map f (upto k)) ≡ at + k = omega (arith, length-map-upto f k) in
    (λ i. set (q i) (at + k) (e i)) ∙ ap (λ (j : ℕ). set (sets l at (map f (upto k))) j (f k)) (sym z)
    ∙ sym (sets-append l at (map f (upto k)) (f k ∷ [])) ∙ ap (sets l at) (sym (ap (λ (j : ℕ). map f (upto j)) (add-one k) ∙ map-upto-suc f k))

-- ---- the whole plan

pub plan-whole : (p : Plan) (l a b d e f g : List ℕ) (v i n ends : ℕ) → v ≡ length p.latches → Listed p.inputs (3 + v) l a i
    → Listed p.gates i a b n → d ≡ sets b 3 p.latches → e ≡ set d 0 v → f ≡ set e 1 (i - (3 + v)) → g ≡ set f 2 (n - i)
    → Planned p l g (leb (i - (3 + v)) 4)
plan-whole p l a b d e f g v i n ends ev hi hg hd he hf hh =
    let x = p.latches in
    let y = p.inputs in
    let z = p.gates in
    let ni : i - (3 + v) ≡ length y = omega (arith, hi.end) in
    let ng : n - i ≡ length z = omega (arith, hg.end) in
    let one : b ≡ sets l (3 + v) (y ++ z) = (listed_more hi hg).words in
    let two : d ≡ sets (sets l 3 x) (3 + v) (y ++ z) =
    hd ∙ ap (λ (m : List ℕ). sets m 3 x) one ∙ sets-before l 3 (3 + v) x (y ++ z) (omega arith) in
    let three : d ≡ sets l 3 (x ++ (y ++ z)) =
    two ∙ ap (λ (m : ℕ). sets (sets l 3 x) m (y ++ z)) {x = 3 + v} {y = 3 + length x} (omega arith) ∙ sym (sets-append l 3 x (y ++ z)) in
    let w = x ++ (y ++ z) in
    record {
      words =
          hh ∙ ap₂ (λ (m : List ℕ) (k : ℕ). set m 2 k) hf ng ∙ ap₂ (λ (m : List ℕ) (k : ℕ). set (set m 1 k) 2 (length z)) he ni
          ∙ ap₂ (λ (m : List ℕ) (k : ℕ). set (set (set m 0 k) 1 (length y)) 2 (length z)) three ev
          ∙ ap (λ (m : List ℕ). set (set m 1 (length y)) 2 (length z)) (set_before l 3 w 0 (length x) (omega arith))
          ∙ ap (λ (m : List ℕ). set m 2 (length z)) (set_before (set l 0 (length x)) 3 w 1 (length y) (omega arith))
          ∙ set_before (set (set l 0 (length x)) 1 (length y)) 3 w 2 (length z) (omega arith);
      few = ap (λ (k : ℕ). leb k 4) ni;
    }

-- ---- another list with the same order

module _ (order other : List ℕ) where
  listing-same : (p : ℕ → Bool) (n : ℕ) → ((k : ℕ) → k < n → get_or order k 0 ≡ get_or other k 0)
      → listed (λ k. p (get_or order k 0)) (λ k. get_or order k 0) n ≡ listed (λ k. p (get_or other k 0)) (λ k. get_or other k 0) n
  unfolding listed
  listing-same p zero h = refl
  listing-same p (suc n) h =
      ap₂
      (λ (x : ℕ) (xs : List ℕ). cond (p x) (xs ++ (x ∷ [])) xs) (h n (omega arith)) (listing-same p n (λ k l. h k (omega arith)))

  gates-same : (f : ℕ → Gate) (n : ℕ) (s : Meeting) → ((k : ℕ) → k < n → get_or order k 0 ≡ get_or other k 0)
      → met_gates (λ k. f (get_or order k 0)) n s ≡ met_gates (λ k. f (get_or other k 0)) n s
  unfolding met_gates
  gates-same f zero s h = refl
  gates-same f (suc n) s h =
      gates-same f n (met_gate (f (get_or order n 0)) s) (λ k l. h k (omega arith))
      ∙ ap (λ (x : ℕ). met_gates (λ k. f (get_or other k 0)) n (met_gate (f x) s)) (h n (omega arith))

pub planned-same : (c : Circuit) (ms ns order other : List ℕ) (which : ℕ) (js : List ℕ) → ms ≡ ns
    → ((k : ℕ) → k < length c.gates → get_or order k 0 ≡ get_or other k 0) → planned c ms order which js ≡ planned c ns other which js
unfolding planned arranged meeting
planned-same c ms ns order other which js e h =
    ap (λ (m : List ℕ). planned c m order which js) e
    ∙ ap₂
    (λ (s : Meeting) (gs : List ℕ).
    record { latches = turned (odd which) (length js) (met_latches c js (cond (ltb 1 which) s (unmet c js ns))).list; inputs = inputs_of c ns; gates = gs })
    (gates-same order other (gate_at c) (length c.gates) (unmet c js ns) h)
    (listing-same order other (λ g. marked ns (gate_at c g).lit) (length c.gates) h)

-- the order of a circuit that is ready
pub order_same : (order other : List ℕ) (n : ℕ) → take n order ≡ other → (k : ℕ) → k < n → get_or order k 0 ≡ get_or other k 0
order_same order other n e k h = sym (get_or-take n order k 0 h) ∙ ap (λ (xs : List ℕ). get_or xs k 0) e

pub plan-made : (c : Circuit) (ms order : List ℕ) (which : ℕ) (js xs l a b d e f g : List ℕ) (v i n : ℕ) → v ≡ length js
    → Listed (inputs_of c ms) (3 + v) l a i → Listed (gates_of c ms order) i a b n → xs ≡ (meeting c ms order which js).list
    → d ≡ sets b 3 (turned (odd which) v xs) → e ≡ set d 0 v → f ≡ set e 1 (i - (3 + v)) → g ≡ set f 2 (n - i)
    → Planned (planned c ms order which js) l g (leb (i - (3 + v)) 4)
unfolding planned arranged
plan-made c ms order which js xs l a b d e f g v i n ev hi hg hx hd he hf hh =
    plan-whole (planned c ms order which js) l a b d e f g v i n 0
    (ev ∙ sym (length-map-upto (λ k. get_or (meeting c ms order which js).list (cond (odd which) (length js - (k + 1)) k) 0) (length js)))
    hi hg (hd ∙ ap₂ (λ (m : ℕ) (ys : List ℕ). sets b 3 (turned (odd which) m ys)) ev hx) he hf hh
