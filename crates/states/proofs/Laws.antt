-- What the table holds after a state is met, and after its buckets are filled. Assumes nothing.
use mathlib.Core.Path.{◌≡◌, refl, sym, ap, ap₂, ◌∙◌, subst}
use mathlib.Core.Bool.{Bool, true, false, cond}
use mathlib.Core.List.{List, [], ◌∷◌, ◌++◌}
use mathlib.Core.Option.{some}
use Prim.Native.Nat.{ℕ, zero, suc, ◌+◌, ◌*◌, ◌≤◌, ◌<◌}
use native.Mathlib.Nat.{mul-suc}
use native.Mathlib.Decide.{ℕ_discrete, dec_lt}
use native.Mathlib.Omega.{arith}
use lib.Dec.{eqb}
use lib.ListN.{length, get_or, set, length-set, length-append, get_or-append}
use lib.Seq.{get_or-set_same, get_or-set_other, get_or_at}
use Rattle.nodes.specs.Last.{last_before}
use Rattle.nodes.proofs.Last.{last-zero, last-yes, last-no, last-eq}
use Rattle.machine.specs.Layers.{Entry, no_entry, state_of, place_of, met, meet}
use Rattle.states.specs.declared.Table.{Table}
use Rattle.states.specs.Number.{number_at, bucket_of}
use Rattle.states.specs.Table.{
  field,
  in_bucket,
  States,
  Linked,
  Buckets,
  Stored,
  Kept,
  Copied,
  Put,
  linked_in,
  Cleared,
  Filled,
  Fits,
  Meets,
}
use Rattle.states.specs.Trace.{Trace, Placed, Holds, Leads}
use Rattle.states.proofs.Numbers.{number_same, bucket-small}
use Rattle.states.proofs.Places.{record-before, record-order, place_same, not-head, head-same}
use Rattle.states.proofs.Walk.{bucket_in, bucket-in, bucket-out}

-- ---- records that are kept
-- the state of a record
pub state-kept : (w n : ℕ) (r r' : List ℕ) → Kept w n r r' → (i : ℕ) → i < n
    → number_at r' ((w + 4) * i + 4) w ≡ number_at r ((w + 4) * i + 4) w
state-kept w n r r' k i l =
    number_same r' r ((w + 4) * i + 4) ((w + 4) * i + 4) w
    (λ j h.
    let e : (w + 4) * i + 4 + j ≡ (w + 4) * i + (4 + j) = omega arith in
    ap (λ (x : ℕ). get_or r' x 0) e ∙ k i (4 + j) l (omega arith) (omega arith) ∙ ap (λ (x : ℕ). get_or r x 0) (sym e))

states-kept : (w : ℕ) (r r' : List ℕ) (es : List Entry) → length r' ≡ length r → Kept w (length es) r r' → States w r es → States w r' es
states-kept w r r' es e k s =
    record { room = omega (arith, s.room); states = λ i l. state-kept w (length es) r r' k i l ∙ s.states i l }

-- ---- a record written
-- what is written, from the two words and the state
pub written : (r s q : List ℕ) (n parent row : ℕ) → (length s + 4) * n + (length s + 4) ≤ length r → length q ≡ length r
    → Copied (set (set r ((length s + 4) * n + 2) parent) ((length s + 4) * n + 3) row) ((length s + 4) * n + 4) s q
    → Put (length s) r n (number_at s 0 (length s)) parent row q
written r s q n parent row l e C =
    let at = (length s + 4) * n in
    let one = set r (at + 2) parent in
    record {
      long = e;
      below = λ j h.
          C.below j (omega arith) ∙ get_or-set_other one (at + 3) j row 0 (λ z. omega arith)
          ∙ get_or-set_other r (at + 2) j parent 0 (λ z. omega arith);
      above = λ j h.
          C.above j (omega arith) ∙ get_or-set_other one (at + 3) j row 0 (λ z. omega arith)
          ∙ get_or-set_other r (at + 2) j parent 0 (λ z. omega arith);
      parent_is =
          C.below (at + 2) (omega arith) ∙ get_or-set_other one (at + 3) (at + 2) row 0 (λ z. omega arith)
          ∙ get_or-set_same r (at + 2) parent 0 (omega arith);
      row_is =
          C.below (at + 3) (omega arith) ∙ get_or-set_same one (at + 3) row 0 (omega (arith, length-set r (at + 2) parent));
      state-is =
          number_same q s (at + 4) 0 (length s)
          (λ i h. let z : i ≡ 0 + i = omega arith in C.here i h ∙ ap (λ (x : ℕ). get_or s x 0) z);
    }

-- ---- traces
-- a trace is read off the records up to its own
pub trace-kept : (rows w : ℕ) (r r' : List ℕ) (n : ℕ) → Kept w n r r' → (t i z : ℕ) → i < n → Trace rows w r t i z → Trace rows w r' t i z
unfolding Trace
trace-kept rows w r r' n same zero i z l h = h ∙ sym (same i 3 l (omega arith) (omega arith))
trace-kept rows w r r' n same (suc t) i z l (p, q, (y, h, e)) =
    let a : field w r' i 2 ≡ field w r i 2 = same i 2 l (omega arith) (omega arith) in
    let b : field w r' i 3 ≡ field w r i 3 = same i 3 l (omega arith) (omega arith) in (
      omega arith,
      omega arith,
      (
        y,
        subst (λ (x : ℕ). Trace rows w r' t x y) (sym a) (trace-kept rows w r r' n same t (field w r i 2) y (omega arith) h),
        omega arith,
      ),
    )

-- the trace of a record that was written
pub trace-new : (rows w : ℕ) (r r' : List ℕ) (n : ℕ) → Kept w n r r' → (t parent row y : ℕ)
    → field w r' n 2 ≡ parent → field w r' n 3 ≡ row → Leads rows w r t n parent row y → Trace rows w r' t n y
unfolding Trace Leads
trace-new rows w r r' n same zero parent row y a b h = h ∙ sym b
trace-new rows w r r' n same (suc t) parent row y a b (p, q, (x, h, e)) = (
  omega arith,
  omega arith,
  (x, subst (λ (z : ℕ). Trace rows w r' t z x) (sym a) (trace-kept rows w r r' n same t parent x p h), omega arith),
)

-- ---- a record put in front of its bucket
module _ (p : Table) (r : List ℕ) (n h : ℕ) where
  abbrev k : ℕ
  k = p.width + 4

  abbrev mid : List ℕ
  mid = set r ((p.width + 4) * n + 1) (get_or r ((p.width + 4) * h) 0)

  pub length-linked : length (linked_in p.width r n h) ≡ length r
  length-linked = simp length-set

  -- all words but the links stay
  pub linked-kept : (m : ℕ) → Kept p.width m r (linked_in p.width r n h)
  linked-kept m i f l a b =
      get_or-set_other mid (k * h) (k * i + f) (n + 1) 0 (λ e. not-head k i f h (omega arith) b e)
      ∙ get_or-set_other r (k * n + 1) (k * i + f) (get_or r (k * h) 0) 0
      (λ e. let q = (place_same k i f n 1 b (omega arith) e).1 in omega arith)

  module _ (es : List Entry) (t : Linked p r es n) (b : Buckets p r) (l : (p.width + 4) * n + (p.width + 4) ≤ length r)
      (is : h ≡ bucket_in p (state_of es n)) where
    h-in : h < p.buckets
    h-in = omega (arith, bucket-small p.width p.buckets (state_of es n) b.some)

    first : (g : ℕ) → g < p.buckets → get_or (linked_in p.width r n h) ((p.width + 4) * g) 0 ≡ last_before (in_bucket p es g) (n + 1)
    first g u = elim (ℕ_discrete g h) [
      | yes e ↦
          ap (λ (x : ℕ). get_or (linked_in p.width r n h) (k * x) 0) e
          ∙ get_or-set_same mid (k * h) (n + 1) 0
          (omega (
            arith,
            length-set r (k * n + 1) (get_or r (k * h) 0),
            b.heads,
            record-before k h p.buckets h-in,
          ))
          ∙ sym (last-yes (in_bucket p es g) n (bucket-in p es g n (sym is ∙ sym e)))
      | no e ↦
          get_or-set_other mid (k * h) (k * g) (n + 1) 0 (λ q. e (head-same k g h (omega arith) q))
          ∙ get_or-set_other r (k * n + 1) (k * g) (get_or r (k * h) 0) 0 (λ q. not-head k n 1 g (omega arith) (omega arith) (sym q))
          ∙ t.firsts g u ∙ sym (last-no (in_bucket p es g) n (bucket-out p es g n (λ q. e (sym q ∙ sym is))))
    ]

    link : (i : ℕ) → i < n + 1
        → field p.width (linked_in p.width r n h) i 1 ≡ last_before (in_bucket p es (bucket_in p (state_of es i))) i
    link i u = elim (ℕ_discrete i n) [
      | yes e ↦
          ap (λ (x : ℕ). field p.width (linked_in p.width r n h) x 1) e
          ∙ get_or-set_other mid (k * h) (k * n + 1) (n + 1) 0 (λ q. not-head k n 1 h (omega arith) (omega arith) q)
          ∙ get_or-set_same r (k * n + 1) (get_or r (k * h) 0) 0 (omega arith) ∙ t.firsts h h-in
          ∙ ap₂ (λ (x : ℕ) (y : ℕ). last_before (in_bucket p es x) y) (is ∙ ap (λ (x : ℕ). bucket_in p (state_of es x)) (sym e)) (sym e)
      | no e ↦
          get_or-set_other mid (k * h) (k * i + 1) (n + 1) 0 (λ q. not-head k i 1 h (omega arith) (omega arith) q)
          ∙ get_or-set_other r (k * n + 1) (k * i + 1) (get_or r (k * h) 0) 0
          (λ q. e (place_same k i 1 n 1 (omega arith) (omega arith) q).0)
          ∙ t.links i (omega arith)
    ]

    pub linked-more : Linked p (linked_in p.width r n h) es (n + 1)
    linked-more = record { firsts = first; links = link }

-- where heads are is said of the length alone
pub buckets-kept : {p : Table} {r r' : List ℕ} → length r' ≡ length r → Buckets p r → Buckets p r'
buckets-kept e b = record { some = b.some; few = b.few; heads = omega (arith, b.heads) }

-- ---- an entry more
module _ (p : Table) (r q : List ℕ) (es : List Entry) (s y parent row : ℕ) (t : Stored p r es)
    (l : (p.width + 4) * length es + (p.width + 4) ≤ length r) (u : Put p.width r (length es) s parent row q) where
  abbrev new : Entry
  new = record { state = s; place = y }

  abbrev es' : List Entry
  es' = es ++ (new ∷ [])

  abbrev n : ℕ
  n = length es

  abbrev c : ℕ
  c = p.width + 4

  abbrev r' : List ℕ
  r' = linked_in p.width q (length es) (bucket_of p.width p.buckets s)

  more : length es' ≡ n + 1
  more = length-append es (new ∷ [])

  state-old : (i : ℕ) → i < n → state_of es' i ≡ state_of es i
  state-old i h = ap (λ (e : Entry). e.state) (get_or-append es (new ∷ []) no_entry i h)

  pub place-old : (i : ℕ) → i < length es → place_of (es ++ (record { state = s; place = y } ∷ [])) i ≡ place_of es i
  place-old i h = ap (λ (e : Entry). e.place) (get_or-append es (new ∷ []) no_entry i h)

  state-new : state_of es' n ≡ s
  state-new = ap (λ (e : Entry). e.state) (get_or_at es new [] no_entry n refl)

  pub place-new : place_of (es ++ (record { state = s; place = y } ∷ [])) (length es) ≡ y
  place-new = ap (λ (e : Entry). e.place) (get_or_at es new [] no_entry n refl)

  in-old : (h i : ℕ) → i < n → in_bucket p es h i ≡ in_bucket p es' h i
  unfolding in_bucket
  in-old h i k = ap (λ (x : ℕ). eqb (bucket_in p x) h) (sym (state-old i k))

  last-old : (h m : ℕ) → m ≤ n → last_before (in_bucket p es h) m ≡ last_before (in_bucket p es' h) m
  last-old h m w = last-eq (in_bucket p es h) (in_bucket p es' h) m (λ i v. in-old h i (omega arith))

  -- the records before it stay
  put-kept : Kept p.width n r q
  put-kept i f a b d = u.below (c * i + f) (omega (arith, record-before c i n a))

  pub kept_more : Kept p.width (length es) r (linked_in p.width q (length es) (bucket_of p.width p.buckets s))
  kept_more i f a b d = linked-kept p q n (bucket_in p s) n i f a b d ∙ put-kept i f a b d

  pub field-more : (f : ℕ) → 1 < f → f < p.width + 4
      → field p.width (linked_in p.width q (length es) (bucket_of p.width p.buckets s)) (length es) f
      ≡ field p.width q (length es) f
  field-more f a b = linked-kept p q n (bucket_in p s) (suc n) n f (omega arith) a b

  head-put : (h : ℕ) → get_or q (c * h) 0 ≡ get_or r (c * h) 0
  head-put h = elim (dec_lt n h) [
    | yes d ↦ u.above (c * h) (omega (arith, record-before c n h d))
    | no d ↦ u.below (c * h) (omega (arith, record-order c h n (omega arith)))
  ]

  put_linked : Linked p q es' n
  put_linked =
      record {
        firsts = λ h d. head-put h ∙ t.linked.firsts h d ∙ last-old h n (omega arith);
        links = λ i d.
            u.below (c * i + 1) (omega (arith, record-before c i n d)) ∙ t.linked.links i d
            ∙ last-old (bucket_in p (state_of es i)) i (omega arith)
            ∙ ap (λ (x : ℕ). last_before (in_bucket p es' (bucket_in p x)) i) (sym (state-old i d));
      }

  put-states : States p.width q es'
  put-states =
      record {
        room = omega (arith, u.long, ap (λ (x : ℕ). c * x) more, record-room);
        states = λ i d. elim (ℕ_discrete i n) [
          | yes e ↦
              ap (λ (x : ℕ). number_at q (c * x + 4) p.width) e ∙ u.state-is ∙ sym state-new ∙ ap (state_of es') (sym e)
          | no e ↦
              let h : i < n = omega (arith, more) in
              state-kept p.width n r q put-kept i h ∙ t.held.states i h ∙ sym (state-old i h)
        ];
      }
    where
      record-room : c * (n + 1) ≡ c * n + c
      record-room = let e : n + 1 ≡ suc n = omega arith in ap (λ (x : ℕ). c * x) e ∙ mul-suc c n

  pub stored_more : Stored p (linked_in p.width q (length es) (bucket_of p.width p.buckets s)) (es ++ (record {
    state = s;
    place =
        y;
  } ∷ []))
  stored_more =
      let e = length-linked p q n (bucket_in p s) in
      record {
        held = states-kept p.width q r' es' e (linked-kept p q n (bucket_in p s) (length es')) put-states;
        buckets = buckets-kept (e ∙ u.long) t.buckets;
        linked = subst (Linked p r' es') (sym more)
            (linked-more p q n (bucket_in p s) es' put_linked (buckets-kept u.long t.buckets) (omega (arith, u.long))
            (ap (bucket_in p) (sym state-new)));
      }

-- ---- a state met

-- what is held fits
pub holds_fits : {rows t lo : ℕ} {p : Table} {quota count : ℕ} {r : List ℕ} {es : List Entry} → Holds rows t lo p quota count r es
    → Fits p quota count r
holds_fits {es = es} h =
    record {
      quota-room = h.quota-room;
      quota-small = h.quota-small;
      count_small = h.count_small;
      stored = λ l. (
        es,
        h.counted l,
        h.stored l,
      );
    }

-- there is room for a record more
more_room : (p : Table) (quota n : ℕ) (r : List ℕ) → (p.width + 4) * quota ≤ length r → n < quota
    → (p.width + 4) * n + (p.width + 4) ≤ length r
more_room p quota n r a l = omega (arith, record-before (p.width + 4) n quota l)

-- records before count stay as they are
pub words-kept : {p : Table} {quota count s parent row count' : ℕ} {r r' : List ℕ} → Meets p quota count s parent row r count' r'
    → Kept p.width count r r'
words-kept (Meets.lost l) i f a b d = refl
words-kept (Meets.again l g) i f a b d = refl
words-kept (Meets.full l g) i f a b d = refl
words-kept {p = p} {count = count} {s = s} (Meets.added l g q u) i f a b d =
    linked-kept p q count (bucket_in p s) count i f a b d
    ∙ u.below ((p.width + 4) * i + f) (omega (arith, record-before (p.width + 4) i count a))

-- the records keep their length, and the count does not fall
pub meets-lengths : {p : Table} {quota count s parent row count' : ℕ} {r r' : List ℕ} → Meets p quota count s parent row r count' r'
    → (length r' ≡ length r) × (count ≤ count')
meets-lengths (Meets.lost l) = (refl, omega arith)
meets-lengths (Meets.again l g) = (refl, omega arith)
meets-lengths (Meets.full l g) = (refl, omega arith)
meets-lengths {p = p} {count = count} {s = s} (Meets.added l g q u) = (length-linked p q count (bucket_in p s) ∙ u.long, omega arith)

meet-known : (s y : ℕ) (es : List Entry) → met s es ≡ true → meet (some s) y es ≡ es
unfolding meet
meet-known s y es e = rw e

meet-new : (s y : ℕ) (es : List Entry) → met s es ≡ false → meet (some s) y es ≡ es ++ (record { state = s; place = y } ∷ [])
unfolding meet
meet-new s y es e = rw e

pub meet-longer : (s y : ℕ) (es : List Entry) → length es ≤ length (meet (some s) y es)
unfolding meet
meet-longer s y es = go (met s es)
  where
    go : (b : Bool) → length es ≤ length (cond b es (es ++ (record { state = s; place = y } ∷ [])))
    go true = omega arith
    go false = omega (arith, length-append es (record { state = s; place = y } ∷ []))

module _ {rows t lo : ℕ} {p : Table} {quota count : ℕ} {r : List ℕ} {es : List Entry} (h : Holds rows t lo p quota count r es)
    (s parent row y : ℕ) (leads : Leads rows p.width r t count parent row y) where
  added : count < quota → met s es ≡ false → (q : List ℕ) → Put p.width r count s parent row q
      → Holds rows t lo p quota (count + 1) (linked_in p.width q count (bucket_of p.width p.buckets s))
      (es ++ (record { state = s; place = y } ∷ []))
  added l e q u =
      subst
      (λ (n : ℕ).
      Holds rows t lo p quota (n + 1) (linked_in p.width q n (bucket_of p.width p.buckets s))
      (es ++ (record { state = s; place = y } ∷ []))) c
      (record {
        quota-room = omega (arith, h.quota-room, length-linked p q (length es) b, u'.long);
        quota-small = h.quota-small;
        count_small = omega (arith, c);
        counted = λ _. length-append es new;
        stored = λ _. stored_more p r q es s y parent row k room u';
        placed = λ _ i a v. elim (ℕ_discrete i (length es)) [
          | yes z ↦
              subst (λ (x : ℕ). Trace rows p.width r' t x (place_of (es ++ new) i)) (sym z)
              (subst (Trace rows p.width r' t (length es))
              (sym (ap (place_of (es ++ new)) z ∙ place-new p r q es s y parent row k room u'))
              (trace-new rows p.width r r' (length es) kept t parent row y
              (field-more p r q es s y parent row k room u' 2 (omega arith) (omega arith) ∙ u'.parent_is)
              (field-more p r q es s y parent row k room u' 3 (omega arith) (omega arith) ∙ u'.row_is)
              (subst (λ (n : ℕ). Leads rows p.width r t n parent row y) (sym c) leads)))
          | no z ↦
              let il : i < length es = omega (arith, length-append es new) in
              subst (Trace rows p.width r' t i) (sym (place-old p r q es s y parent row k room u' i il))
              (trace-kept rows p.width r r' (length es) kept t i (place_of es i) il (h.placed (omega arith) i a il))
        ];
        lost = λ v. absurd (omega (arith, c));
      })
    where
      c : length es ≡ count
      c = h.counted (omega arith)

      k : Stored p r es
      k = h.stored (omega arith)

      new : List Entry
      new = record { state = s; place = y } ∷ []

      b : ℕ
      b = bucket_of p.width p.buckets s

      room : (p.width + 4) * length es + (p.width + 4) ≤ length r
      room = more_room p quota (length es) r h.quota-room (omega (arith, c))

      u' : Put p.width r (length es) s parent row q
      u' = subst (λ (n : ℕ). Put p.width r n s parent row q) (sym c) u

      r' : List ℕ
      r' = linked_in p.width q (length es) (bucket_of p.width p.buckets s)

      kept : Kept p.width (length es) r (linked_in p.width q (length es) (bucket_of p.width p.buckets s))
      kept = kept_more p r q es s y parent row k room u'

  -- the table holds the state after it is met
  pub holds-met : {count' : ℕ} {r' : List ℕ} → Meets p quota count s parent row r count' r'
      → Holds rows t lo p quota count' r' (meet (some s) y es)
  holds-met (Meets.lost l) =
      record {
        quota-room = h.quota-room;
        quota-small = h.quota-small;
        count_small = h.count_small;
        counted = λ u. absurd (omega arith);
        stored = λ u. absurd (omega arith);
        placed = λ u. absurd (omega arith);
        lost = λ u. omega (arith, h.lost l, meet-longer s y es);
      }
  holds-met (Meets.again l f) = subst (Holds rows t lo p quota count r) (sym (meet-known s y es (f es (h.stored l)))) h
  holds-met (Meets.full e f) =
      record {
        quota-room = h.quota-room;
        quota-small = h.quota-small;
        count_small = omega arith;
        counted = λ u. absurd (omega arith);
        stored = λ u. absurd (omega arith);
        placed = λ u. absurd (omega arith);
        lost = λ u.
            omega (
              arith,
              ap length (meet-new s y es (f es (h.stored (omega arith)))),
              length-append es (record { state = s; place = y }
                  ∷ []),
              h.counted (omega arith),
            );
      }
  holds-met (Meets.added l f q u) =
      let e = f es (h.stored (omega arith)) in
      subst (Holds rows t lo p quota (count + 1) (linked_in p.width q count (bucket_of p.width p.buckets s)))
      (sym (meet-new s y es e)) (added l e q u)

-- a table that fits does so after a state is met
pub fits-met : {p : Table} {quota count s parent row count' : ℕ} {r r' : List ℕ} → Fits p quota count r
    → Meets p quota count s parent row r count' r' → Fits p quota count' r'
fits-met f (Meets.lost l) = f
fits-met f (Meets.again l g) = f
fits-met f (Meets.full e g) =
    record { quota-room = f.quota-room; quota-small = f.quota-small; count_small = omega arith; stored = λ l. absurd (omega arith) }
fits-met {p = p} {quota = quota} {count = count} {s = s} {parent = parent} {row = row} {r = r} f (Meets.added l g q u) =
    let h = f.stored (omega arith) in
    let new : List Entry = record { state = s; place = 0 } ∷ [] in
    record {
      quota-room = omega (arith, f.quota-room, length-linked p q count (bucket_in p s), u.long);
      quota-small = f.quota-small;
      count_small = omega arith;
      stored = λ _. (
        h.0 ++ new,
        length-append h.0 new ∙ omega (arith, h.1),
        subst (λ (n : ℕ). Stored p (linked_in p.width q n (bucket_of p.width p.buckets s)) (h.0 ++ new)) h.1
            (stored_more p r q h.0 s 0 parent row h.2 (more_room p quota (length h.0) r f.quota-room (omega (arith, h.1)))
            (subst (λ (n : ℕ). Put p.width r n s parent row q) (sym h.1) u)),
      );
    }

-- a table holds no record of the next layer yet
pub holds-next : {rows t lo : ℕ} {p : Table} {quota count : ℕ} {r : List ℕ} {es : List Entry} (u : ℕ) → count ≤ quota
    → Holds rows t lo p quota count r es → Holds rows u (length es) p quota count r es
holds-next u l h =
    record {
      quota-room = h.quota-room;
      quota-small = h.quota-small;
      count_small = h.count_small;
      counted = h.counted;
      stored = h.stored;
      placed = λ k i a b. absurd (omega arith);
      lost = h.lost;
    }

-- ---- buckets filled
-- empty buckets
pub linked-none : (p : Table) (r r' : List ℕ) (es : List Entry) → Cleared p r r' → Linked p r' es 0
linked-none p r r' es c =
    record { firsts = λ h l. c.none h l ∙ sym (last-zero (in_bucket p es h)); links = λ i l. absurd (omega arith) }

pub cleared-kept : (p : Table) (r r' : List ℕ) (n : ℕ) → Cleared p r r' → Kept p.width n r r'
cleared-kept p r r' n c i f l a b =
    c.others ((p.width + 4) * i + f) (λ h e. not-head (p.width + 4) i f h (omega arith) b e)

-- first emptied, then filled
pub filled-both : (p : Table) (count : ℕ) (r q r' : List ℕ) → length q ≡ length r → Cleared p r q → Kept p.width count q r'
    → ((es : List Entry) → length es ≡ count → States p.width q es → Linked p q es 0 → Stored p r' es) → Filled p count r r'
filled-both p count r q r' e c k f =
    record {
      kept = λ i g l a b. k i g l a b ∙ cleared-kept p r q count c i g l a b;
      stored = λ es n s.
          f es n (states-kept p.width r q es e (cleared-kept p r q (length es) c) s) (linked-none p r q es c);
    }

-- the first n of `count` records are in their buckets
pub record Filling (p : Table) (count : ℕ) (r₀ : List ℕ) (n : ℕ) (r : List ℕ) : Type 0 where
  pub long : length r ≡ length r₀
  pub kept : Kept p.width count r₀ r
  pub linked : (es : List Entry) → length es ≡ count → States p.width r₀ es → Linked p r₀ es 0 → Linked p r es n

pub filling-start : (p : Table) (count : ℕ) (r : List ℕ) → Filling p count r 0 r
filling-start p count r = record { long = refl; kept = λ i f l a b. refl; linked = λ es e s t. t }

pub filling-more : (p : Table) (count : ℕ) (r₀ : List ℕ) (n : ℕ) (r : List ℕ) (h : ℕ) → Filling p count r₀ n r → Buckets p r₀ → n < count
    → (p.width + 4) * count ≤ length r₀
    → h ≡ bucket_of p.width p.buckets (number_at r ((p.width + 4) * n + 4) p.width)
    → Filling p count r₀ (n + 1) (linked_in p.width r n h)
filling-more p count r₀ n r h f b l room is =
    record {
      long = length-linked p r n h ∙ f.long;
      kept = λ i g u a d. linked-kept p r n h count i g u a d ∙ f.kept i g u a d;
      linked = λ es e s t.
          linked-more p r n h es (f.linked es e s t) (buckets-kept f.long b)
          (omega (arith, f.long, record-before (p.width + 4) n count l))
          (is ∙ ap (bucket_in p) (state-kept p.width count r₀ r f.kept n l ∙ s.states n (omega (arith, e))));
    }

pub filling-end : (p : Table) (count : ℕ) (r₀ r : List ℕ) → Filling p count r₀ count r → Buckets p r₀
    → (es : List Entry) → length es ≡ count → States p.width r₀ es → Linked p r₀ es 0 → Stored p r es
filling-end p count r₀ r f b es e s t =
    record {
      held = states-kept p.width r₀ r es f.long (subst (λ (n : ℕ). Kept p.width n r₀ r) (sym e) f.kept) s;
      buckets = buckets-kept f.long b;
      linked = subst (Linked p r es) (sym e) (f.linked es e s t);
    }

-- a table whose buckets are filled anew holds what it held
pub holds-filled : {rows t lo : ℕ} {p : Table} {quota count : ℕ} {r : List ℕ} {es : List Entry} (n : ℕ) (r' : List ℕ) → count ≤ quota
    → length r' ≡ length r → Filled (record { width = p.width; buckets = n }) count r r'
    → Holds rows t lo p quota count r es → Holds rows t lo (record { width = p.width; buckets = n }) quota count r' es
holds-filled {rows} {t} {lo} {p} {quota} {count} {r} {es} n r' l e f h =
    record {
      quota-room = omega (arith, h.quota-room);
      quota-small = h.quota-small;
      count_small = h.count_small;
      counted = h.counted;
      stored = λ _. f.stored es (h.counted l) (h.stored l).held;
      placed = λ _ i a b.
          trace-kept rows p.width r r' count f.kept t i (place_of es i) (omega (arith, h.counted l)) (h.placed l i a b);
      lost = h.lost;
    }

-- a table without records, whose buckets are filled
pub holds-none : (rows quota : ℕ) (p : Table) (r r' : List ℕ) → (p.width + 4) * quota ≤ length r' → quota < 4294967295 → Filled p 0 r r'
    → Holds rows 0 0 p quota 0 r' []
holds-none rows quota p r r' room small f =
    record {
      quota-room = room;
      quota-small = small;
      count_small = omega arith;
      counted = λ l. refl;
      stored = λ l. f.stored [] refl (record { room = omega arith; states = λ i u. absurd (omega arith) });
      placed = λ l i a u. absurd (omega arith);
      lost = λ l. absurd (omega arith);
    }
