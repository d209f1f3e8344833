-- The latches of a plan are among those that it was made of. Assumes nothing.
use mathlib.Core.Path.{◌≡◌, refl, sym, ap, ◌∙◌}
use mathlib.Core.Bool.{Bool, true, false, cond}
use mathlib.Core.List.{List, [], ◌∷◌, ◌++◌, map}
use Prim.Native.Nat.{ℕ, zero, suc, ◌+◌, ◌-◌, ◌%◌, ◌≤◌, ◌<◌}
use native.Mathlib.Decide.{ℕ_discrete, dec_lt}
use native.Mathlib.Omega.{arith}
use borrow.Author.Tests.{ltb-true}
use lib.Dec.{ltb}
use lib.ListN.{length, get_or, set, replicate, length-replicate, get_or-append}
use lib.Seq.{sets-eq, set_out, get_or-set_same, get_or-set_other}
use Rattle.aiger.specs.Lists.{upto}
use Rattle.aiger.specs.Bits.{odd}
use Rattle.aiger.specs.Circuit.{Circuit, Gate, var}
use Rattle.meaning.specs.Frame.{latch_at, gate_at}
use Rattle.meaning.proofs.Lists.{get_d-map-upto, length-map-upto, get_d-zeros}
use Rattle.influence.specs.Cone.{marked, mark, mark_below, as_gate, reach, reach_down, spread, closed, settle, cone_from, marks}
use Rattle.row_plans.specs.Plans.{Meeting, numbered, met, met_gate, met_gates, met_all, met_first, met_latches, copied, unmet, meeting, arranged}

-- ---- marks are 0 or 1

pub record Small (ms : List ℕ) : Type 0 where
  pub most : (v : ℕ) → get_or ms v 0 ≤ 1

small-set : {ms : List ℕ} (u : ℕ) → Small ms → Small (set ms u 1)
small-set {ms} u s = record { most = λ v. go v (ℕ_discrete v u) (dec_lt u (length ms)) }
  where
    go : (v : ℕ) → Dec (v ≡ u) → Dec (u < length ms) → get_or (set ms u 1) v 0 ≤ 1
    go v (yes e) (yes l) = omega (arith, ap (λ (k : ℕ). get_or (set ms u 1) k 0) e ∙ get_or-set_same ms u 1 0 l)
    go v (yes e) (no l) = omega (arith, s.most v, ap (λ (xs : List ℕ). get_or xs v 0) (set_out ms u 1 (omega arith)))
    go v (no e) l = omega (arith, s.most v, get_or-set_other ms u v 1 0 e)

small-below : (f : ℕ → ℕ) (n : ℕ) {ms : List ℕ} → Small ms → Small (mark_below f n ms)
unfolding mark_below
small-below f zero s = s
small-below f (suc n) s = small-set (var (f n)) (small-below f n s)

small-reach : (g : Gate) {ms : List ℕ} → Small ms → Small (reach g ms)
small-reach g {ms} s = go (marked ms g.lit)
  where
    go : (b : Bool) → Small (cond b (mark g.right (mark g.left ms)) ms)
    go true = small-set (var g.right) (small-set (var g.left) s)
    go false = s

small-down : (f : ℕ → Gate) (n : ℕ) {ms : List ℕ} → Small ms → Small (reach_down f n ms)
unfolding reach_down
small-down f zero s = s
small-down f (suc n) s = small-down f n (small-reach (f n) s)

small-settle : (n : ℕ) (c : Circuit) (b : ℕ) {ms : List ℕ} → Small ms → Small (settle n c b ms)
unfolding settle
small-settle zero c b s = s
small-settle (suc n) c b {ms} s =
    go (closed c b ms)
    (small-settle n c b (small-down (λ j. as_gate (latch_at c j)) (length c.latches) (small-down (gate_at c) (length c.gates) s)))
  where
    go : (q : Bool) → Small (settle n c b (spread c ms)) → Small (cond q ms (settle n c b (spread c ms)))
    go true t = s
    go false t = t

pub marks-small : (c : Circuit) (b : ℕ) → Small (marks c b)
unfolding marks cone_from
marks-small c b =
    small-settle 129 c b
    (small-below (λ i. get_or c.constraints i 0) (length c.constraints)
    (small-set {ms = replicate 4097 0} (var (get_or c.bads b 0)) (record { most = λ v. omega (arith, get_d-zeros 4097 v) })))

-- ---- what is met

module _ (js : List ℕ) where
  -- x is one of the latches
  pub record Among (x : ℕ) : Type 0 where
    pub place : ℕ
    pub below : place < length js
    pub same : get_or js place 0 ≡ x

  among-as : {x y : ℕ} → x ≡ y → Among x → Among y
  among-as e a = record { place = a.place; below = a.below; same = a.same ∙ e }

  -- marks above 1 tell latches
  record Tells (ms : List ℕ) : Type 0 where
    tells : (v : ℕ) → 1 < get_or ms v 0 → Among (get_or ms v 0 - 2)

  tells-set : {ms : List ℕ} (u x : ℕ) → (1 < x → Among (x - 2)) → Tells ms → Tells (set ms u x)
  tells-set {ms} u x a t = record { tells = λ v h. go v h (ℕ_discrete v u) (dec_lt u (length ms)) }
    where
      go : (v : ℕ) → 1 < get_or (set ms u x) v 0 → Dec (v ≡ u) → Dec (u < length ms) → Among (get_or (set ms u x) v 0 - 2)
      go v h (yes e) (yes l) =
          let q : get_or (set ms u x) v 0 ≡ x = ap (λ (k : ℕ). get_or (set ms u x) k 0) e ∙ get_or-set_same ms u x 0 l in
          among-as (ap (λ (k : ℕ). k - 2) (sym q)) (a (omega arith))
      go v h (yes e) (no l) =
          let q : get_or (set ms u x) v 0 ≡ get_or ms v 0 = ap (λ (xs : List ℕ). get_or xs v 0) (set_out ms u x (omega arith)) in
          among-as (ap (λ (k : ℕ). k - 2) (sym q)) (t.tells v (omega arith))
      go v h (no e) l =
          let q : get_or (set ms u x) v 0 ≡ get_or ms v 0 = get_or-set_other ms u v x 0 e in
          among-as (ap (λ (k : ℕ). k - 2) (sym q)) (t.tells v (omega arith))

  record Keeps (s : Meeting) : Type 0 where
    marks-tell : Tells s.marks
    list-keeps : (k : ℕ) → k < length js → Among (get_or s.list k 0)

  numbered-tells : (c : Circuit) (is : List ℕ) {ms : List ℕ} → ((i : ℕ) → i < length is → get_or is i 0 < 4294967294)
      → ((i : ℕ) → i < length is → Among (get_or is i 0)) → Tells ms → Tells (numbered c is ms)
  unfolding numbered
  numbered-tells c [] f a t = t
  numbered-tells c (j ∷ is) f a t =
      let d : j < 4294967294 = f 0 (omega arith) in
      numbered-tells c is (λ i h. f (suc i) (omega arith)) (λ i h. a (suc i) (omega arith))
      (tells-set (var (latch_at c j).lit) ((j + 2) % 4294967296) (λ h. among-as (omega arith) (a 0 (omega arith))) t)

  met-keeps : (v : ℕ) (s : Meeting) → Keeps s → Keeps (met v s)
  unfolding met
  met-keeps v s k = go (ltb s.count (length s.list)) (ltb 1 (get_or s.marks v 0)) refl
    where
      x : ℕ
      x = get_or s.marks v 0

      stored : 1 < get_or s.marks v 0 → (i : ℕ) → i < length js → Dec (i ≡ s.count) → Dec (s.count < length s.list)
          → Among (get_or (set s.list s.count (get_or s.marks v 0 - 2)) i 0)
      stored h i l (yes e) (yes d) =
          among-as
          (sym
          (ap (λ (n : ℕ). get_or (set s.list s.count (get_or s.marks v 0 - 2)) n 0) e
          ∙ get_or-set_same s.list s.count (get_or s.marks v 0 - 2) 0 d))
          (k.marks-tell.tells v h)
      stored h i l (yes e) (no d) =
          among-as (sym (ap (λ (xs : List ℕ). get_or xs i 0) (set_out s.list s.count (get_or s.marks v 0 - 2) (omega arith)))) (k.list-keeps i l)
      stored h i l (no e) d =
          among-as (sym (get_or-set_other s.list s.count i (get_or s.marks v 0 - 2) 0 e)) (k.list-keeps i l)

      go : (p q : Bool) → ltb 1 (get_or s.marks v 0) ≡ q
          → Keeps
          (cond p
          (cond q
          (record { marks = set s.marks v 1; list = set s.list s.count (get_or s.marks v 0 - 2); count = s.count + 1 }) s)
          s)
      go false q e = k
      go true false e = k
      go true true e =
          let h = ltb-true 1 (get_or s.marks v 0) e in
          record {
            marks-tell = tells-set v 1 (λ z. absurd (omega arith)) k.marks-tell;
            list-keeps = λ i l. stored h i l (ℕ_discrete i s.count) (dec_lt s.count (length s.list));
          }

  gate-keeps : (g : Gate) (s : Meeting) → Keeps s → Keeps (met_gate g s)
  unfolding met_gate
  gate-keeps g s k = go (marked s.marks g.lit)
    where
      go : (b : Bool) → Keeps (cond b (met (var g.right) (met (var g.left) s)) s)
      go true = met-keeps (var g.right) (met (var g.left) s) (met-keeps (var g.left) s k)
      go false = k

  gates-keep : (f : ℕ → Gate) (n : ℕ) (s : Meeting) → Keeps s → Keeps (met_gates f n s)
  unfolding met_gates
  gates-keep f zero s k = k
  gates-keep f (suc n) s k = gates-keep f n (met_gate (f n) s) (gate-keeps (f n) s k)

  latches-keep : (c : Circuit) (is : List ℕ) (s : Meeting) → Keeps s → Keeps (met_latches c is s)
  unfolding met_latches
  latches-keep c [] s k = k
  latches-keep c (j ∷ is) s k = latches-keep c is (met (var (latch_at c j).lit) s) (met-keeps (var (latch_at c j).lit) s k)

  copied-keeps : length js ≤ 1024 → (k : ℕ) → k < length js → Among (get_or (copied js) k 0)
  copied-keeps h k l =
      let f : ℕ → ℕ = λ i. get_or js i 0 in
      let n = length-map-upto f (length js) in
      let e : copied js ≡ [] ++ (map f (upto (length js)) ++ _) =
      sets-eq (map f (upto (length js))) (replicate 1024 0) 0 (omega (arith, length-replicate {A = ℕ} 1024 0)) in
      record {
        place = k;
        below = l;
        same =
            sym (ap (λ (xs : List ℕ). get_or xs k 0) e ∙ get_or-append (map f (upto (length js))) _ 0 k (omega arith) ∙ get_d-map-upto f (length js) k 0 l);
      }

  -- every latch of an order is one of those that were given
  pub arranged-kept : (c : Circuit) (ms order : List ℕ) (which : ℕ) → Small ms → length js ≤ 1024
      → ((i : ℕ) → i < length js → get_or js i 0 < 4294967294) → (v : ℕ) → v < length js
      → Among (get_or (arranged c ms order which js) v 0)
  unfolding arranged meeting
  arranged-kept c ms order which s h f v l =
      among-as (sym (get_d-map-upto (λ k. get_or end.list (cond (odd which) (length js - (k + 1)) k) 0) (length js) v 0 l))
      (keeps.list-keeps (cond (odd which) (length js - (v + 1)) v) (inside (odd which)))
    where
      start : Keeps (unmet c js ms)
      start =
          record {
            marks-tell =
                numbered-tells c js f (λ i d. record { place = i; below = d; same = refl })
                (record { tells = λ u d. absurd (omega (arith, s.most u)) });
            list-keeps = copied-keeps h;
          }

      first : (b : Bool) → Keeps (cond b (met_all c order (unmet c js ms)) (unmet c js ms))
      first true = gates-keep (λ k. gate_at c (get_or order k 0)) (length c.gates) (unmet c js ms) start
      first false = start

      end : Meeting
      end = met_latches c js (met_first c order which (unmet c js ms))

      keeps : Keeps (met_latches c js (met_first c order which (unmet c js ms)))
      keeps = latches-keep c js (met_first c order which (unmet c js ms)) (first (ltb 1 which))

      inside : (b : Bool) → cond b (length js - (v + 1)) v < length js
      inside true = omega arith
      inside false = l
