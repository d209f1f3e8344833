-- Rows met one after the other. Assumes nothing.
use mathlib.Core.Path.{◌≡◌, refl, sym, ap, ap₂, ◌∙◌, subst}
use mathlib.Core.List.{List, map}
use mathlib.Core.Option.{Option, none, some}
use Prim.Native.Nat.{ℕ, zero, suc, ◌+◌, ◌*◌, ◌≤◌, ◌<◌}
use native.Mathlib.Numerals.{add-one}
use native.Mathlib.Omega.{arith}
use lib.ListN.{length, get_or, length-map}
use lib.Seq.{ext_get_or}
use mathlib.Core.Bool.{Bool, true, false, not, cond, ◌&&◌}
use mathlib.Core.Logic.{◌⊎◌, inl, inr, ⊎_elim}
use native.Mathlib.Decide.{ℕ_discrete, dec_lt}
use lib.Dec.{T}
use Rattle.aiger.specs.Bits.{bit}
use Rattle.aiger.specs.Lists.{upto}
use Rattle.aiger.specs.Frames.{value}
use Rattle.meaning.specs.Frame.{latch_at}
use Rattle.meaning.proofs.Lists.{get_d-map-upto}
use Rattle.aiger.specs.Circuit.{literals_right, used_defined, acyclic}
use Rattle.aiger.specs.Signature.{FirstDifference}
use Rattle.aiger.proofs.Tests.{T_true}
use Rattle.words.proofs.Bits.{bit-none}
use Rattle.frames.specs.Lanes.{lane, constrained_in, bad_in, hit_in}
use Rattle.machine.specs.Layers.{Entry, met, meet}
use Rattle.machine.proofs.Meet.{meets, met_at}
use Rattle.states.proofs.Walk.{met_some}
use Rattle.states.specs.declared.Table.{Table}
use Rattle.states.specs.Table.{Kept, Fits, Meets}
use Rattle.states.specs.Trace.{Trace, Holds, Leads}
use Rattle.states.proofs.Laws.{trace-kept, words-kept, meets-lengths, holds-met, fits-met}
use Rattle.influence.specs.Part.{Part, kept_at, Closed}
use Rattle.transitions.specs.Transitions.{number_of, values_in, ValuedIn, next_number, next_in}
use Rattle.transitions.proofs.Numbers.{map_at}
use Rattle.transitions.proofs.Rows.{hit-is, next-is}
use Rattle.layers.proofs.Begin.{holds-lost}
use Rattle.layers.specs.Rows.{leading, met_rows, RowsMet, RowStep, Valued, FirstRow}

-- none yet
pub rows_none : (next : ℕ → Option ℕ) (tab : Table) (quota count e first : ℕ) (r : List ℕ) → Fits tab quota count r
    → RowsMet next tab quota count e first 0 r count r
unfolding met_rows
rows_none next tab quota count e first r f =
    record { longer = omega arith; words = λ i f l a b. refl; fits = f; holds = λ rows t lo x es h l w k. h }

leads : (rows width : ℕ) (r : List ℕ) (t count e row x : ℕ) → e < count → row < rows → Trace rows width r t e x
    → Leads rows width r (suc t) count e row (x * rows + row)
unfolding Leads
leads rows width r t count e row x l w h = (l, w, (x, h, refl))

-- one more, whose state is met
pub rows_more : (next : ℕ → Option ℕ) (tab : Table) (quota count e first n : ℕ) (r : List ℕ) (met : ℕ) (r₁ : List ℕ) (s met₂ : ℕ) (r₂ :
    List ℕ)
    → RowsMet next tab quota count e first n r met r₁ → next n ≡ some s → Meets tab quota met s e (first + n) r₁ met₂ r₂
    → RowsMet next tab quota count e first (n + 1) r met₂ r₂
unfolding met_rows
rows_more next tab quota count e first n r met r₁ s met₂ r₂ a q m =
    let l = meets-lengths m in
    record {
      longer = omega (arith, a.longer, l.1);
      words = λ i f k g h. words-kept m i f (omega (arith, a.longer)) g h ∙ a.words i f k g h;
      fits = fits-met a.fits m;
      holds = λ rows t lo x es h k w tr.
          let before = a.holds rows t lo x es h k (omega arith) tr in
          let tr₁ : Trace rows tab.width r₁ t e x = trace-kept rows tab.width r r₁ count a.words t e x k tr in
          let y = x * rows + (first + n) in
          let after = holds-met before s e (first + n) y (leads rows tab.width r₁ t met e (first + n) x (omega (arith, a.longer))
          (omega arith)
          tr₁) m in
          subst (λ (z : ℕ). Holds rows (suc t) lo tab quota met₂ r₂ (met_rows next (λ p. x * rows + (first + p)) z es)) (sym (add-one n))
          (subst (λ (o : Option ℕ). Holds rows (suc t) lo tab quota met₂ r₂ (meet o y (met_rows next (λ p. x * rows + (first + p)) n es)))
          (sym q) after);
    }

-- where a state is lost, the rows after it change nothing
rows-longer : (next : ℕ → Option ℕ) (place : ℕ → ℕ) (n : ℕ) (es : List Entry) → length es ≤ length (met_rows next place n es)
unfolding met_rows
rows-longer next place zero es = omega arith
rows-longer next place (suc n) es = omega (arith, rows-longer next place n es, (meets (next n) (place n) (met_rows next place n es)).longer)

pub rows-lost : (next : ℕ → Option ℕ) (tab : Table) (quota count e first n : ℕ) (r : List ℕ) → Fits tab quota count r → quota < count
    → RowsMet next tab quota count e first n r count r
rows-lost next tab quota count e first n r f q =
    record {
      longer = omega arith;
      words = λ i f l a b. refl;
      fits = f;
      holds = λ rows t lo x es h l w k.
          holds-lost (met_rows next (λ p. x * rows + (first + p)) n es) q (rows-longer next (λ p. x * rows + (first + p)) n es) h;
    }

-- ---- rows that lead to one state
-- a state that is met stays so
met-kept : (o : Option ℕ) (y s : ℕ) (es : List Entry) → met s es ≡ true → met s (meet o y es) ≡ true
met-kept o y s es e =
    let t = meets o y es in
    let i = met_at s es (T_true e) in
    met_some s (meet o y es) i.0 (omega (arith, i.1, t.longer)) (ap (λ (x : Entry). x.state) (t.old i.0 i.1) ∙ i.2)

-- the states of the rows are met
met-row : (next : ℕ → Option ℕ) (place : ℕ → ℕ) (n : ℕ) (es : List Entry) (p s : ℕ) → p < n → next p ≡ some s
    → met s (met_rows next place n es) ≡ true
unfolding met_rows
met-row next place zero es p s l g = absurd (omega arith)
met-row next place (suc n) es p s l g = elim (ℕ_discrete p n) [
  | yes e ↦
      let acc = met_rows next place n es in
      let j = (meets (next n) (place n) acc).holds s (ap next (sym e) ∙ g) in
      met_some s (meet (next n) (place n) acc) j.0 j.1 j.2
  | no e ↦ met-kept (next n) (place n) s (met_rows next place n es) (met-row next place n es p s (omega arith) g)
]

meet-known : (s y : ℕ) (es : List Entry) → met s es ≡ true → meet (some s) y es ≡ es
unfolding meet
meet-known s y es e = rw e

meet-none : (o : Option ℕ) (y : ℕ) (es : List Entry) → o ≡ none → meet o y es ≡ es
unfolding meet
meet-none o y es e = ap (λ (x : Option ℕ). meet x y es) e

-- a row at which nothing is met
rows_stay : (next : ℕ → Option ℕ) (tab : Table) (quota count e first n : ℕ) (r : List ℕ) (met₁ : ℕ) (r₁ : List ℕ)
    → RowsMet next tab quota count e first n r met₁ r₁
    → ((place : ℕ → ℕ) (es : List Entry) → meet (next n) (place n) (met_rows next place n es) ≡ met_rows next place n es)
    → RowsMet next tab quota count e first (n + 1) r met₁ r₁
unfolding met_rows
rows_stay next tab quota count e first n r met₁ r₁ a stay =
    record {
      longer = a.longer;
      words = a.words;
      fits = a.fits;
      holds = λ rows t lo x es h k w tr.
          let place : ℕ → ℕ = λ z. x * rows + (first + z) in
          subst (λ (z : ℕ). Holds rows (suc t) lo tab quota met₁ r₁ (met_rows next place z es)) (sym (add-one n))
          (subst (Holds rows (suc t) lo tab quota met₁ r₁) (sym (stay place es)) (a.holds rows t lo x es h k (omega arith) tr));
    }

-- a row that leads nowhere
pub rows-nowhere : (next : ℕ → Option ℕ) (tab : Table) (quota count e first n : ℕ) (r : List ℕ) (met₁ : ℕ) (r₁ : List ℕ)
    → RowsMet next tab quota count e first n r met₁ r₁
    → next n ≡ none → RowsMet next tab quota count e first (n + 1) r met₁ r₁
rows-nowhere next tab quota count e first n r met₁ r₁ a q =
    rows_stay next tab quota count e first n r met₁ r₁ a (λ place es. meet-none (next n) (place n) (met_rows next place n es) q)

-- a row that leads where a row before it leads
pub rows-skip : (next : ℕ → Option ℕ) (tab : Table) (quota count e first n : ℕ) (r : List ℕ) (met₁ : ℕ) (r₁ : List ℕ)
    → RowsMet next tab quota count e first n r met₁ r₁
    → (p s : ℕ) → p < n → next p ≡ some s → next n ≡ some s → RowsMet next tab quota count e first (n + 1) r met₁ r₁
rows-skip next tab quota count e first n r met₁ r₁ a p s l f g =
    rows_stay next tab quota count e first n r met₁ r₁ a
    (λ place es.
    ap (λ (o : Option ℕ). meet o (place n) (met_rows next place n es)) g
    ∙ meet-known s (place n) (met_rows next place n es) (met-row next place n es p s l f))

-- a row that is left out leads nowhere, or where a row before row p leads
abbrev pub Dropped : ℕ → (ℕ → ℕ) → ℕ → ℕ → Type 0
Dropped start numbers p left =
    (q : ℕ) → q < 64 → bit left q ≡ false → (bit start q ≡ false) ⊎ ((z : ℕ) × (z < p) × (bit start z ≡ true) × (numbers z ≡ numbers q))

-- The first n rows of those that are left at the start are met.
pub record Treated (start : ℕ) (numbers : ℕ → ℕ) (tab : Table) (quota count e first n : ℕ) (r : List ℕ) (met₁ left : ℕ) (r₁ : List ℕ) :
    Type 0
  where
    pub rows : RowsMet (leading start numbers) tab quota count e first n r met₁ r₁
    pub dropped : Dropped start numbers n left
    pub within : (q : ℕ) → bit left q ≡ true → bit start q ≡ true

pub treated-none : (start : ℕ) (numbers : ℕ → ℕ) (tab : Table) (quota count e first : ℕ) (r : List ℕ) → Fits tab quota count r
    → Treated start numbers tab quota count e first 0 r count start r
treated-none start numbers tab quota count e first r f =
    record { rows = rows_none (leading start numbers) tab quota count e first r f; dropped = λ q l g. inl g; within = λ q g. g }

-- where a row leads, by its bit
lead-some : (start : ℕ) (numbers : ℕ → ℕ) (p s : ℕ) → bit start p ≡ true → numbers p ≡ s → leading start numbers p ≡ some s
lead-some start numbers p s e f = ap₂ (λ (q : Bool) (n : ℕ). cond q (some n) none) e f

lead-none : (start : ℕ) (numbers : ℕ → ℕ) (p : ℕ) → bit start p ≡ false → leading start numbers p ≡ none
lead-none start numbers p e = ap (λ (q : Bool). cond q (some (numbers p)) none) e

-- a row that is not left
treated-skip : (start : ℕ) (numbers : ℕ → ℕ) (tab : Table) (quota count e first n : ℕ) (r : List ℕ) {met₁ left : ℕ} {r₁ : List ℕ}
    → n < 64 → bit left n ≡ false → Treated start numbers tab quota count e first n r met₁ left r₁
    → Treated start numbers tab quota count e first (n + 1) r met₁ left r₁
treated-skip start numbers tab quota count e first n r {met₁} {left} {r₁} w f a =
    record {
      rows = go (bit start n) refl (a.dropped n w f);
      dropped = λ q l g. ⊎_elim inl (λ x. inr (x.0, omega (arith, x.1), x.2, x.3)) (a.dropped q l g);
      within = a.within;
    }
  where
    go : (q : Bool) → bit start n ≡ q → (bit start n ≡ false) ⊎ ((z : ℕ) × (z < n) × (bit start z ≡ true) × (numbers z ≡ numbers n))
        → RowsMet (leading start numbers) tab quota count e first (n + 1) r met₁ r₁
    go false g d = rows-nowhere (leading start numbers) tab quota count e first n r met₁ r₁ a.rows (lead-none start numbers n g)
    go true g d =
        ⊎_elim (λ h. rows-nowhere (leading start numbers) tab quota count e first n r met₁ r₁ a.rows (lead-none start numbers n h))
        (λ x.
        rows-skip (leading start numbers) tab quota count e first n r met₁ r₁ a.rows x.0 (numbers n) x.1
        (lead-some start numbers x.0 (numbers n) x.2 x.3) (lead-some start numbers n (numbers n) g refl)) d

-- rows up to the next that is left
pub treated-to : (start : ℕ) (numbers : ℕ → ℕ) (tab : Table) (quota count e first n d : ℕ) (r : List ℕ) {met₁ left : ℕ} {r₁ : List ℕ}
    → n + d ≤ 64 → ((q : ℕ) → q < n + d → bit left q ≡ false) → Treated start numbers tab quota count e first n r met₁ left r₁
    → Treated start numbers tab quota count e first (n + d) r met₁ left r₁
treated-to start numbers tab quota count e first n zero r {met₁} {left} {r₁} w f a =
    subst (λ (k : ℕ). Treated start numbers tab quota count e first k r met₁ left r₁) {x = n} {y = n + 0} (omega arith) a
treated-to start numbers tab quota count e first n (suc d) r {met₁} {left} {r₁} w f a =
    subst (λ (k : ℕ). Treated start numbers tab quota count e first k r met₁ left r₁) {x = n + d + 1} {y = n + suc d} (omega arith)
    (treated-skip start numbers tab quota count e first (n + d) r (omega arith) (f (n + d) (omega arith))
    (treated-to start numbers tab quota count e first n d r (omega arith) (λ q l. f q (omega arith)) a))

-- a row that is left
pub treated-more : (start : ℕ) (numbers : ℕ → ℕ) (tab : Table) (quota count e first n : ℕ) (r : List ℕ) {met₁ left : ℕ} {r₁ : List ℕ}
    {met₂ left₂ : ℕ} {r₂ : List ℕ}
    → bit left n ≡ true → Treated start numbers tab quota count e first n r met₁ left r₁
    → RowStep numbers tab quota e (first + n) n met₁ left r₁ met₂ left₂ r₂
    → Treated start numbers tab quota count e first (n + 1) r met₂ left₂ r₂
treated-more start numbers tab quota count e first n r {met₁} {left} {r₁} {met₂} {left₂} {r₂} here a s =
    record {
      rows =
          rows_more (leading start numbers) tab quota count e first n r met₁ r₁ (numbers n) met₂ r₂ a.rows
          (lead-some start numbers n (numbers n) (a.within n here) refl) s.meets;
      dropped = λ q l h.
          ⊎_elim (λ k. ⊎_elim inl (λ x. inr (x.0, omega (arith, x.1), x.2, x.3)) (a.dropped q l k))
          (λ k. inr (n, omega arith, a.within n here, sym k)) (s.dropped q l h);
      within = λ q h. a.within q (s.within q h);
    }

-- ---- the next row that is left
-- none before the first of a word
pub none_before : (left p : ℕ) → FirstDifference 64 left 0 p → (q : ℕ) → q < p → bit left q ≡ false
none_before left p f q l = f.below q l ∙ bit-none q

-- which is itself left
pub is-left : (left p : ℕ) → FirstDifference 64 left 0 p → p < 64 → bit left p ≡ true
is-left left p f l = f.here l ∙ ap not (bit-none p)

clash : (b : Bool) → b ≡ true → b ≡ false → ⊥
clash true e f = let z : ◌≡◌ {A = ℕ} 0 1 = cc in omega arith
clash false e f = let z : ◌≡◌ {A = ℕ} 0 1 = cc in omega arith

-- it comes after one that was treated
pub next-later : (left left₂ p p₂ : ℕ) → FirstDifference 64 left 0 p → p < 64 → FirstDifference 64 left₂ 0 p₂
    → ((q : ℕ) → bit left₂ q ≡ true → bit left q ≡ true) → bit left₂ p ≡ false → p < p₂
next-later left left₂ p p₂ f l g w h = elim (dec_lt p p₂) [
  | yes d ↦ d
  | no d ↦
      elim (ℕ_discrete p p₂) [
        | yes e ↦ absurd (clash (bit left₂ p) (ap (bit left₂) e ∙ is-left left₂ p₂ g (omega arith)) h)
        | no e ↦
            absurd
            (clash (bit left p₂) (w p₂ (is-left left₂ p₂ g (omega arith))) (none_before left p f p₂ (omega arith)))
      ]
]

-- the same states, named otherwise
same_rows : (f g : ℕ → Option ℕ) (place : ℕ → ℕ) (n : ℕ) (es : List Entry) → ((p : ℕ) → p < n → f p ≡ g p)
    → met_rows f place n es ≡ met_rows g place n es
unfolding met_rows
same_rows f g place zero es h = refl
same_rows f g place (suc n) es h =
    ap₂ (λ (o : Option ℕ) (l : List Entry). meet o (place n) l) (h n (omega arith)) (same_rows f g place n es (λ p l. h p (omega arith)))

pub rows_named : (f g : ℕ → Option ℕ) (tab : Table) (quota count e first n : ℕ) (r : List ℕ) (met : ℕ) (r₁ : List ℕ)
    → ((p : ℕ) → p < n → f p ≡ g p)
    → RowsMet f tab quota count e first n r met r₁ → RowsMet g tab quota count e first n r met r₁
rows_named f g tab quota count e first n r met r₁ q a =
    record {
      longer = a.longer;
      words = a.words;
      fits = a.fits;
      holds = λ rows t lo x es h k w tr.
          subst (Holds rows (suc t) lo tab quota met r₁) (same_rows f g (λ p. x * rows + (first + p)) n es q)
          (a.holds rows t lo x es h k w tr);
    }

-- where a row leads, from its bit and its state's number
pub next-in : (c : Part) (s r : ℕ) (q : Bool) (x : ℕ) → q ≡ constrained_in c.circuit (values_in c s r) → x ≡ next_number c s r
    → cond q (some x) none ≡ next_in c s r
unfolding next_in
next-in c s r q x e f = ap₂ (λ (p : Bool) (n : ℕ). cond p (some n) none) e f

-- a bit by itself
one : (b : Bool) → bit (cond b 1 0) 0 ≡ b
unfolding bit
one true = refl
one false = refl

-- the state that a row leads to, from the words of the latches that are kept
pub next_of : (c : Part) → T (literals_right c.circuit) → T (used_defined c.circuit) → T (acyclic c.circuit) → (b : ℕ) → Closed c b
    → (s r : ℕ) (w : ℕ → Bool) → ValuedIn c s r w → (words : List ℕ) (p : ℕ) → length words ≡ length c.kept
    → ((i : ℕ) → i < length c.kept → bit (get_or words i 0) p ≡ value w (latch_at c.circuit (kept_at c i)).next)
    → number_of (map (λ x. bit x p) words) ≡ next_number c s r
next_of c right known a b closed s r w v words p e q =
    let latches = length c.circuit.latches in
    let g : ℕ → ℕ = λ j. cond (value w (latch_at c.circuit j).next) 1 0 in
    let st = map g (upto latches) in
    let at : (j : ℕ) → j < latches → bit (get_or st j 0) 0 ≡ value w (latch_at c.circuit j).next =
    λ j l. ap (λ (x : ℕ). bit x 0) (get_d-map-upto g latches j 0 l) ∙ one (value w (latch_at c.circuit j).next) in
    let f : ℕ → Bool = λ x. bit x p in
    let h : ℕ → Bool = λ j. bit (get_or st j 0) 0 in
    ap number_of
    (ext_get_or false (map f words) (map h c.kept) (length-map words f ∙ e ∙ sym (length-map c.kept h))
    (λ i l.
    let k : i < length words = omega (arith, length-map words f) in
    let o : i < length c.kept = omega arith in
    map_at f words i k ∙ q i o ∙ sym (at (kept_at c i) (closed.listed.inside i o)) ∙ sym (map_at h c.kept i o)))
    ∙ next-is c closed.listed right known a b closed s r w v st 0 at

and-swap : (a b : Bool) → (a && b) ≡ (b && a)
and-swap true true = refl
and-swap true false = refl
and-swap false true = refl
and-swap false false = refl

-- the first row, from the word of hits
pub first-row : (c : Part) → T (literals_right c.circuit) → T (used_defined c.circuit) → T (acyclic c.circuit) → (b : ℕ)
    → Closed c b → (s block : ℕ) (values : List ℕ) (bad hits r : ℕ)
    → Valued c s block values → ((p : ℕ) → p < 64 → bit bad p ≡ bad_in c.circuit b (lane values p))
    → ((p : ℕ) → p < 64 → bit hits p ≡ (bit bad p && constrained_in c.circuit (lane values p))) → FirstDifference 64 hits 0 r
    → FirstRow c b s block values r
first-row c right known a b closed s block values bad hits r v g h f =
    let same : (p : ℕ) → p < 64 → bit hits p ≡ hit_in c.circuit b (values_in c s (block * 64 + p)) =
    λ p l.
    let w = lane values p in
    h p l ∙ ap (λ (x : Bool). x && constrained_in c.circuit w) (g p l) ∙ and-swap (bad_in c.circuit b w) (constrained_in c.circuit w)
    ∙ hit-is c closed.listed right known a b closed s (block * 64 + p) (lane values p) (v p l) in
    record {
      within = f.within;
      before = λ p l t. let k : p < 64 = omega (arith, f.within) in subst T (sym (same p k) ∙ f.below p l ∙ bit-none p) t;
      here = λ l. T_true (sym (same r l) ∙ f.here l ∙ ap not (bit-none r));
      valued = v;
    }
