-- From the answer of the search of the pinned circuit to the answer for the user. Assumes nothing.
use mathlib.Core.Path.{◌≡◌, refl, sym, ap, ap₂, ◌∙◌, subst}
use mathlib.Core.Bool.{Bool, true, false}
use mathlib.Core.List.{List, [], ◌∷◌, ◌++◌}
use Prim.Native.Nat.{ℕ, ◌+◌, ◌-◌, ◌*◌, ◌≤◌, ◌<◌}
use native.Mathlib.Nat.{mul-le-mul_left, mul-le-mul_right}
use native.Mathlib.Omega.{arith}
use lib.Dec.{T, leb}
use lib.ListN.{length, take, drop, length-append}
use lib.Seq.{length-take-le, drop-append-add, drop-drop}
use Rattle.aiger.specs.Text.{digits}
use Rattle.aiger.specs.Circuit.{Circuit}
use Rattle.aiger.specs.Load.{Answer, refused, gives}
use Rattle.aiger.specs.Memory.{Holds}
use Rattle.aiger.specs.Search.{Question, Outcome, Report, NeverOf, reached_right, question, permitted, first_witness}
use Rattle.aiger.specs.Witness.{witness_length}
use Rattle.aiger.specs.Operations.{front, need, judge, budget_right, Operated, search_tests, Searched, SearchEffect, shown}
use Rattle.aiger.proofs.Tests.{T_true}
use Rattle.layout.specs.Words.{word, circuit_in}
use Rattle.layout.specs.Layout.{LayoutOf}
use Rattle.layout.specs.declared.Layout.{Layout}
use Rattle.meaning.proofs.Outcomes.{found-out, first-witness}
use Rattle.numbers.proofs.Digits.{digits-short}
use Rattle.roundtrip.proofs.Witness.{run_length}
use Rattle.roundtrip.proofs.LoadWrite.{counts-fit}
use Rattle.roundtrip.proofs.Holding.{held-valid}
use Rattle.limits.specs.Limits.{Limited, length_of}
use Rattle.limits.proofs.Refusals.{passed, length-enough}
use Rattle.limits.proofs.Sizes.{counts_of, limited, length-is, length-within}
use Rattle.pins.specs.Pins.{pins_of, pinned, pinned_witness}
use Rattle.pins.proofs.Questions.{pinned-question, pinned-permitted}
use Rattle.expansion.specs.Rows.{rows_text, expanded}
use Rattle.expansion.proofs.Witnesses.{rows_at, length-rows, expanded-first}
use Rattle.pinning.specs.Operations.{PinnedSearched, PinnedSearchEffect, pinned_report, pinned_shown}
use Rattle.pinning.proofs.Tests.{acts-only, search-pinned, length-pinned}
use Rattle.search.specs.Chosen.{chosen, found_report, none_report, spent_report, said}
use Rattle.search.specs.declared.SearchAnswer.{SearchAnswer}
use Rattle.search.specs.declared.SearchAnswer.TheVariants.{Found, Nothing, Spent, Refused}
use Rattle.pinned_search.specs.Steps.{rows_start, FullFits, InFull, PinnedFits, TextIs, OutputIs}

-- the longest witness
long-most : (c : Circuit) (b k : ℕ) → b < 16 → k ≤ 255 → length c.latches ≤ 1024 → length c.inputs ≤ 256 → witness_length c b k ≤ 66825
unfolding witness_length
long-most c b k l h n i =
    let x : (k + 1) * (length c.inputs + 1) ≤ (k + 1) * 257 = mul-le-mul_left (k + 1) (omega arith) in
    let y : (k + 1) * 257 ≤ 256 * 257 = let z : k + 1 ≤ 256 = omega arith in mul-le-mul_right 257 z in
    omega (arith, digits-short 9 1 b (omega arith))

-- what the search reports of the circuit itself has the length of its witness
pub plain-report : (c : Circuit) (b k D : ℕ) → pinned_report c b (chosen c b k D) ≡ chosen c b k D
unfolding chosen
plain-report c b k D = refl

-- a text written over a shorter one at the front
pub over : (w v out : List ℕ) → length v ≤ length w → front w (front v out) ≡ front w out
over w v out h =
    let d = length w - length v in
    let e : length w ≡ length v + d = omega arith in
    let behind = drop (length v) out in
    ap (λ (z : List ℕ). w ++ z)
    (ap (λ (n : ℕ). drop n (v ++ behind)) e ∙ drop-append-add v behind d ∙ drop-drop d (length v) out ∙ ap (λ (n : ℕ). drop n out) (sym e))

module _ {m : List ℕ} {p : Layout} {user b k D room len : ℕ} (f : PinnedFits m p user b k D room len) where
  abbrev c : Circuit
  c = circuit_in m

  pub fits_bound : k ≤ 255
  fits_bound = (passed c b k (budget_right D) room (need 13 (leb (witness_length c b k) len) ∷ []) f.tests).0.bound

  pub fits-bad : b < length c.bads
  fits-bad = (passed c b k (budget_right D) room (need 13 (leb (witness_length c b k) len) ∷ []) f.tests).0.bad

  pub fits-output : witness_length c b k ≤ len
  fits-output = length-enough (witness_length c b k) len (passed c b k (budget_right D) room (need 13 (leb (witness_length c b k) len) ∷ []) f.tests).1

  pub fits-long : witness_length c b k ≤ 66825
  fits-long =
      let n = counts-fit c (held-valid f.held).fit in
      long-most c b k (omega (arith, n.bads, fits-bad)) fits_bound n.latches n.inputs

  -- the search of words that hold the pinned circuit
  pub text-is : (q : ℕ → ℕ) {words w w' text text' : List ℕ} {a : Answer Report} → length w ≡ room → witness_length c b k ≤ length text → Holds words (pinned c q)
      → Searched chosen words b k D w text a w' text' → TextIs c q b k D text a text'
  text-is q {words} {w} {w'} {text} {text'} {a} e l h s =
      let j = search-pinned c q b k D room len (length text) f.tests (omega (arith, length-pinned c q b k)) in
      let r =
      acts-only {tests = λ d. search_tests d b k D (length w) (length text)} h
      (ap (λ (n : ℕ). judge (search_tests (pinned c q) b k D n (length text))) e ∙ j) s in
      let x = r.2 in
      record {
        says = r.1 ∙ ap gives x.chose;
        allowed = subst (λ (o : Report). T (permitted (pinned c q) b k D o.outcome)) x.chose x.allowed;
        never = subst (NeverOf (question (pinned c q) b) k) x.chose x.never;
        told = subst (λ (o : Report). T (reached_right (question (pinned c q) b) D o.outcome o.reached)) x.chose x.told;
        shows = x.shows ∙ ap (λ (o : Report). shown (pinned c q) b o.outcome text) x.chose;
      }

  module _ (q : ℕ → ℕ) where
    abbrev o : Report
    o = chosen (pinned c q) b k D

    -- an answer is the report
    pub report-is : {before after : List ℕ} {a : Answer Report} {y : Report} → TextIs c q b k D before a after → a ≡ gives y → y ≡ o
    report-is t e = let z = sym e ∙ t.says in cc

    outcome-is : {before after : List ℕ} {y : Report} → TextIs c q b k D before (gives y) after → y.outcome ≡ o.outcome
    outcome-is x = ap (λ (r : Report). r.outcome) (report-is x refl)

    pub found_within : {before after : List ℕ} {t n : ℕ} → TextIs c q b k D before (gives (found_report t n)) after → t ≤ k
    found_within {t = t} x =
        let e = outcome-is x in
        (found-out (question (pinned c q) b) k D t (subst (λ (y : Outcome). T (permitted (pinned c q) b k D y)) (sym e) x.allowed)).within

    -- the rows have room in the output
    pub rows-room : (text : List ℕ) (t : ℕ) → t ≤ k → rows_at c q b + length (rows_text text q (length c.inputs) (rows_at c q b) (t + 1)) ≤ len
    unfolding witness_length
    rows-room text t h =
        omega (arith, length-rows text q (length c.inputs) (rows_at c q b) (t + 1), length-within c b t k h, fits-output)

    -- the witness of the pinned circuit is no longer than that of the circuit
    shorter : {before after : List ℕ} {t n : ℕ} → TextIs c q b k D before (gives (found_report t n)) after
        → length (first_witness (pinned c q) b t) ≤ witness_length c b t
    shorter {t = t} x =
        let e = outcome-is x in
        let f = found-out (question (pinned c q) b) k D t (subst (λ (y : Outcome). T (permitted (pinned c q) b k D y)) (sym e) x.allowed) in
        omega (
          arith,
          ap length (first-witness (pinned c q) b t f.place f.first),
          run_length (pinned c q) b t f.place,
          length-pinned c q b t,
        )

    -- the witness written out is the answer's
    pub found-is : {before after : List ℕ} {t long : ℕ} → length after ≡ len → TextIs c q b k D before (gives (found_report t long)) after
        → OutputIs c q b k D before (gives (found_report t (witness_length c b t)))
        (front (expanded after q (length c.inputs) (rows_at c q b) (t + 1)) after)
    unfolding witness_length expanded
    found-is {before} {after} {t} long x =
        let e = outcome-is x in
        let v = held-valid f.held in
        let n = length c.inputs in
        let s = rows_at c q b in
        let W = expanded after q n s (t + 1) in
        let first = first_witness (pinned c q) b t in
        let w : after ≡ front first before = x.shows ∙ ap (λ (y : Outcome). shown (pinned c q) b y before) (sym e) in
        let fits : s + length (rows_text after q n s (t + 1)) ≤ len = rows-room after t (found_within x) in
        let size : length first ≤ length W =
        omega (
          arith,
          shorter x,
          length-append (take s after) (rows_text after q n s (t + 1)),
          length-take-le s after (omega arith),
          length-rows after q n s (t + 1),
        ) in
        record {
          says = ap (λ (r : Report). gives (pinned_report c b r)) (report-is x refl);
          allowed = x.allowed;
          never = x.never;
          told = x.told;
          shows =
              ap (front W) w ∙ over W first before size
              ∙ ap (λ (z : List ℕ). front z before)
              (expanded-first c q (T_true v.literals) (T_true v.uses) (T_true v.order) b fits-bad k D t
              (subst (λ (y : Outcome). T (permitted (pinned c q) b k D y)) (sym e) x.allowed) after before w)
              ∙ ap (λ (y : Outcome). pinned_shown c q b y before) e;
        }

    -- what writing it out requires, in the layout's numbers
    pub expand-fits : {before after : List ℕ} {t n start : ℕ} → length after ≡ len → TextIs c q b k D before (gives (found_report t n)) after
        → start ≡ 4 + length (digits b) + (p.l + 1)
        → (user ≤ 1) × (p.i ≤ 256) × (t ≤ 255) × (start + length (rows_text after q p.i start (t + 1)) ≤ length after)
    expand-fits {before} {after} {t} {start} long x s =
        let n = counts_of f.held f.layout_of in
        let h = found_within x in
        let a : start ≡ rows_at c q b = s ∙ ap (λ (l : ℕ). 4 + length (digits b) + (l + 1)) n.latches in (
          f.user-of,
          omega (arith, n.inputs, (counts-fit c (held-valid f.held).fit).inputs),
          omega (arith, fits_bound),
          rw (n.inputs, a, long) (rows-room after t h),
        )

    -- the length of the witness of all inputs
    pub length-is-found : {before after : List ℕ} {t n : ℕ} → TextIs c q b k D before (gives (found_report t n)) after
        → (length_of p b t ≡ witness_length c b t) × (length_of p b t ≤ 66825)
    length-is-found {t = t} x =
        let e = length-is (counts_of f.held f.layout_of) b t in
        (e, omega (arith, e, length-within c b t k (found_within x), fits-long))

    pub expand-is : {before after out : List ℕ} {t n start size : ℕ} → length after ≡ len → TextIs c q b k D before (gives (found_report t n)) after
        → start ≡ 4 + length (digits b) + (p.l + 1) → out ≡ front (expanded after q p.i start (t + 1)) after → size ≡ length_of p b t
        → OutputIs c q b k D before (gives (found_report t size)) out
    expand-is {before} {after} {out} {t = t} {start = start} long x s e l =
        let n = counts_of f.held f.layout_of in
        let a : start ≡ rows_at c q b = s ∙ ap (λ (l : ℕ). 4 + length (digits b) + (l + 1)) n.latches in
        subst (λ (m : ℕ). OutputIs c q b k D before (gives (found_report t m)) out) (sym (l ∙ (length-is-found x).0))
        (subst (OutputIs c q b k D before (gives (found_report t (witness_length c b t))))
        (sym (e ∙ ap₂ (λ (i y : ℕ). front (expanded after q i y (t + 1)) after) n.inputs a)) (found-is long x))

    -- a report without a witness leaves every byte, and what is said of it stays
    other-is : {before after : List ℕ} (y : Report) → y ≡ pinned_report c b y → ((out : List ℕ) → shown (pinned c q) b y.outcome out ≡ pinned_shown c q b y.outcome out)
        → TextIs c q b k D before (gives y) after → OutputIs c q b k D before (gives y) after
    other-is {before} y e s x =
        record {
          says = ap gives (e ∙ ap (pinned_report c b) (report-is x refl));
          allowed = x.allowed;
          never = x.never;
          told = x.told;
          shows =
              x.shows ∙ ap (λ (o : Outcome). shown (pinned c q) b o before) (sym (outcome-is x)) ∙ s before
              ∙ ap (λ (o : Outcome). pinned_shown c q b o before) (outcome-is x);
        }

    pub none_is : {before after : List ℕ} {n : ℕ} {flag : Bool} → TextIs c q b k D before (gives (none_report n flag)) after
        → OutputIs c q b k D before (gives (none_report n flag)) after
    none_is {n = n} {flag = flag} x = other-is (none_report n flag) refl (λ out. refl) x

    pub spent-is : {before after : List ℕ} {t R : ℕ} → TextIs c q b k D before (gives (spent_report t R)) after
        → OutputIs c q b k D before (gives (spent_report t R)) after
    spent-is {t = t} {R = R} x = other-is (spent_report t R) refl (λ out. refl) x

    pub never-refused : {before after : List ℕ} {n : ℕ} → TextIs c q b k D before (refused n) after → ⊥
    never-refused x = let e = x.says in let z : ◌≡◌ {A = ℕ} 0 1 = cc in omega arith

    -- ---- the answer in full

    -- what writing its witness out requires
    pub fits-full : (x : SearchAnswer) {before after : List ℕ} → length after ≡ len → TextIs c q b k D before (said x) after
        → FullFits p user b x (length after)
    fits-full (Found t n) {before} {after} long x =
        let counts = counts_of f.held f.layout_of in (
          limited f.held f.layout_of,
          f.user-of,
          omega (arith, fits-bad, counts.bads),
          omega (arith, found_within x, fits_bound),
          omega (arith, (length-is-found x).0, length-within c b t k (found_within x), fits-output, long),
        )
    fits-full (Nothing n flag) long x = tt
    fits-full (Spent t R) long x = tt
    fits-full (Refused n) long x = tt

    -- and what it makes of the answer
    pub full_is : (x : SearchAnswer) {before after out : List ℕ} {a : Answer Report} → length after ≡ len → TextIs c q b k D before (said x) after
        → InFull p q b x after a out → OutputIs c q b k D before a out
    full_is (Found t n) {before} {out = out} long x w =
        subst (λ (y : Answer Report). OutputIs c q b k D before y out) (sym w.0) (expand-is long x refl w.1 refl)
    full_is (Nothing n flag) {before} {out = out} long x w =
        subst (λ (y : Answer Report). OutputIs c q b k D before y out) (sym w.0) (subst (OutputIs c q b k D before (gives (none_report n flag))) (sym w.1) (none_is x))
    full_is (Spent t R) {before} {out = out} long x w =
        subst (λ (y : Answer Report). OutputIs c q b k D before y out) (sym w.0) (subst (OutputIs c q b k D before (gives (spent_report t R))) (sym w.1) (spent-is x))
    full_is (Refused n) long x w = absurd (never-refused x)

-- what writing a witness out requires
pub expand-room : {p : Layout} {user b t len : ℕ} (q : ℕ → ℕ) (out : List ℕ) → length out ≡ len
    → Limited p × (user ≤ 1) × (b < p.b) × (t ≤ 255) × (length_of p b t ≤ len) → {start : ℕ} → start ≡ rows_start p b
    → (user ≤ 1) × (p.i ≤ 256) × (t ≤ 255) × (start + length (rows_text out q p.i start (t + 1)) ≤ length out)
expand-room {p} {t = t} q out long h {start} e =
    (h.1, h.0.inputs, h.3, omega (arith, length-rows out q p.i start (t + 1), h.4))

-- what the user gets
module _ {m : List ℕ} (q : ℕ → ℕ) (h : Holds m (circuit_in m)) {b k D : ℕ} {w out : List ℕ} where
  pub answered : judge (search_tests (circuit_in m) b k D (length w) (length out)) ≡ gives tt → {a : Answer Report} {w' out' : List ℕ}
      → OutputIs (circuit_in m) q b k D out a out' → PinnedSearched chosen m q b k D w out a (w', out')
  answered j {a} {w'} {out'} x =
      let c = circuit_in m in
      let v = held-valid h in
      let bad = (passed c b k (budget_right D) (length w) (need 13 (leb (witness_length c b k) (length out)) ∷ []) j).0.bad in
      acted x.says
      (Operated.acts c h j
      (record {
        chose = refl;
        allowed = subst T (pinned-permitted c q (T_true v.literals) (T_true v.uses) (T_true v.order) b bad k D (chosen (pinned c q) b k D).outcome) x.allowed;
        measured = refl;
        never = subst (λ (z : Question). NeverOf z k (pinned_report c b (chosen (pinned c q) b k D)))
            (pinned-question c q (T_true v.literals) (T_true v.uses) (T_true v.order) b bad) x.never;
        told = subst (λ (z : Question). T (reached_right z D (chosen (pinned c q) b k D).outcome (chosen (pinned c q) b k D).reached))
            (pinned-question c q (T_true v.literals) (T_true v.uses) (T_true v.order) b bad) x.told;
        shows = x.shows;
      }))
    where
      acted : {o : Report} {y : Answer Report} → y ≡ gives o
          → Operated m (λ d. search_tests d b k D (length w) (length out)) (w, out) (PinnedSearchEffect chosen q b k D out) (gives o) (w', out')
          → Operated m (λ d. search_tests d b k D (length w) (length out)) (w, out) (PinnedSearchEffect chosen q b k D out) y (w', out')
      acted e g =
          subst (λ (y : Answer Report).
          Operated m (λ d. search_tests d b k D (length w) (length out)) (w, out) (PinnedSearchEffect chosen q b k D out) y (w', out'))
          (sym e) g

  pub refused-with : {n : ℕ} → judge (search_tests (circuit_in m) b k D (length w) (length out)) ≡ refused n
      → PinnedSearched chosen m q b k D w out (refused n) (w, out)
  refused-with e = Operated.refuses (circuit_in m) h e

-- the pins of a user who is this one
pub searched-for : (pins : List ℕ) {user v : ℕ} → user ≡ v → {m : List ℕ} {b k D : ℕ} {w out : List ℕ} {a : Answer Report} {left : List ℕ × List ℕ}
    → PinnedSearched chosen m (pins_of pins v) b k D w out a left → PinnedSearched chosen m (pins_of pins user) b k D w out a left
searched-for pins e {m} {b} {k} {D} {w} {out} {a} {left} x =
    subst (λ (u : ℕ). PinnedSearched chosen m (pins_of pins u) b k D w out a left) (sym e) x
