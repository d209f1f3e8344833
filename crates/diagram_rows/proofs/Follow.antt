-- The steps of the code, each taken by the definitions. Assumes nothing.
use mathlib.Core.Path.{◌≡◌, refl, sym, ap, ap₂, ◌∙◌}
use mathlib.Core.Bool.{Bool, true, false, cond, ◌&&◌}
use mathlib.Core.List.{List, [], ◌∷◌, ◌++◌, map}
use mathlib.Core.Option.{Option, none, some}
use Prim.Native.Nat.{ℕ, zero, suc, ◌+◌, ◌-◌, ◌/◌, ◌%◌, ◌^◌, ◌≤◌, ◌<◌}
use native.Mathlib.Nat.{not-suc-le-zero, le_of_suc-le-suc}
use native.Mathlib.Decide.{ℕ_discrete, dec_lt}
use native.Mathlib.Numerals.{add-one}
use native.Mathlib.Omega.{arith}
use borrow.Author.Tests.{lt-ltb, le-ltb}
use lib.ListN.{length, get_or, set, take, drop, length-set, length-append, length-map, length-drop, length-take, get_or-append}
use lib.Pow.{shr-shr}
use lib.Seq.{drop-cons, get_or-set_same, get_or-set_other, get_or_at, ext_get_or, get_or-append-add}
use Rattle.aiger.specs.Lists.{every}
use Rattle.aiger.specs.Circuit.{Circuit}
use Rattle.literals.specs.Literal.{literal}
use Rattle.literals.specs.declared.Lit.{Lit}
use Rattle.layout.specs.Words.{word}
use Rattle.meaning.specs.Frame.{input_at, gate_at}
use Rattle.meaning.proofs.Lists.{get_or-map}
use Rattle.diagrams.specs.States.{State, Outcome, outcome, and_then, made}
use Rattle.conjunction.specs.Conjunction.{both}
use Rattle.diagram_rows.specs.Rows.{is_present, edge_in, Filled, filled, fill_then, fill_from, leaves, noted_in, latch_literal, next_literal, latches_put, bits_put, gate_put, gate_put_in, gates_put, with_literal, with_literals, row_words, row_end, blank, row_made, plan_of, plan_length, row_in}

-- ---- one thing after the other

pub fill_none : (o : Filled) (k : State → List ℕ → Filled) (s : State) → filled s none ≡ o → filled s none ≡ fill_then o k
fill_none o k s e = ap (λ (x : Filled). fill_then x k) e

pub fill-some : (o : Filled) (k : State → List ℕ → Filled) (s : State) (ws : List ℕ) → filled s (some ws) ≡ o → k s ws ≡ fill_then o k
fill-some o k s ws e = ap (λ (x : Filled). fill_then x k) e

pub from-none : (o : Outcome) (k : State → ℕ → Filled) (s : State) → outcome s none ≡ o → filled s none ≡ fill_from o k
from-none o k s e = ap (λ (x : Outcome). fill_from x k) e

pub from_some : (o : Outcome) (k : State → ℕ → Filled) (s : State) (x : ℕ) → outcome s (some x) ≡ o → k s x ≡ fill_from o k
from_some o k s x e = ap (λ (x : Outcome). fill_from x k) e

-- what is left where the answer is known
pub leaves-as : (w ws : List ℕ) (r q : Bool) → r ≡ q → leaves w ws q ≡ leaves w ws r
leaves-as w ws r q e = ap (leaves w ws) (sym e)

-- nothing is left past the end
drop_all : (k : ℕ) (xs : List ℕ) → length xs ≤ k → drop k xs ≡ []
drop_all zero [] h = refl
drop_all (suc k) [] h = refl
drop_all zero (x ∷ xs) h = absurd (not-suc-le-zero h)
drop_all (suc k) (x ∷ xs) h = drop_all k xs (le_of_suc-le-suc h)

-- the rest of a list from a place on
pub rest : (xs : List ℕ) (k : ℕ) → k < length xs → drop k xs ≡ get_or xs k 0 ∷ drop (k + 1) xs
rest xs k h = rw (add-one, drop-cons xs k 0)

-- ---- latches

module _ (c : Circuit) (js : List ℕ) (v : ℕ) (s : State) (m : List ℕ) where
  pub latches-done : length js ≤ v → filled s (some m) ≡ latches_put c v (drop v js) s m
  unfolding latches_put
  latches-done h = sym (ap (λ (xs : List ℕ). latches_put c v xs s m) (drop_all v js h))

  module _ (h : v < length js) (l : Lit) (e : l ≡ latch_literal c (get_or js v 0)) where
    latches-step : fill_then (noted_in (made s v 0 1) l.0.0 m) (latches_put c (v + 1) (drop (v + 1) js)) ≡ latches_put c v (drop v js) s m
    unfolding latches_put
    latches-step =
        ap (λ (x : Lit). fill_then (noted_in (made s v 0 1) x.0.0 m) (latches_put c (v + 1) (drop (v + 1) js))) e
        ∙ sym (ap (λ (xs : List ℕ). latches_put c v xs s m) (rest js v h))

    pub latches-full : (t : State) → filled t none ≡ noted_in (made s v 0 1) l.0.0 m → filled t none ≡ latches_put c v (drop v js) s m
    latches-full t q = fill_none (noted_in (made s v 0 1) l.0.0 m) (latches_put c (v + 1) (drop (v + 1) js)) t q ∙ latches-step

    pub latches-more : (t : State) (n : List ℕ) → filled t (some n) ≡ noted_in (made s v 0 1) l.0.0 m
        → latches_put c (v + 1) (drop (v + 1) js) t n ≡ latches_put c v (drop v js) s m
    latches-more t n q = fill-some (noted_in (made s v 0 1) l.0.0 m) (latches_put c (v + 1) (drop (v + 1) js)) t n q ∙ latches-step

-- ---- bits of the row

pub bits_none : (c : Circuit) (r : ℕ) (is m : List ℕ) (k : ℕ) → k ≡ length is → m ≡ bits_put c r (drop k is) m
unfolding bits_put
bits_none c r is m k e = sym (ap (λ (xs : List ℕ). bits_put c r xs m) (drop_all k is (omega arith)))

pub bits-all : (c : Circuit) (r : ℕ) (is m n : List ℕ) (k : ℕ) → k ≡ 0 → n ≡ bits_put c r (drop k is) m → n ≡ bits_put c r is m
bits-all c r is m n k e q = q ∙ ap (λ (z : ℕ). bits_put c r (drop z is) m) e

pub bits-more : (c : Circuit) (r : ℕ) (is m n : List ℕ) (k left : ℕ) (l : Lit) → 0 < k → k ≤ length is
    → l ≡ literal (input_at c (get_or is (k - 1) 0)) → left ≡ r / 2 ^ (length is - k) → n ≡ bits_put c r (drop k is) m
    → set n l.0.0 (left % 2) ≡ bits_put c r (drop (k - 1) is) m
unfolding bits_put
bits-more c r is m n k left l p h e f q =
    let z : k - 1 + 1 ≡ k = omega arith in
    let d : drop (k - 1) is ≡ get_or is (k - 1) 0 ∷ drop k is =
    rest is (k - 1) (omega arith) ∙ ap (λ (x : ℕ). get_or is (k - 1) 0 ∷ drop x is) z in
    let g : left ≡ r / 2 ^ length (drop k is) = f ∙ ap (λ (x : ℕ). r / 2 ^ x) (sym (length-drop k is)) in
    (λ i. set (q i) (e i).0.0 (g i % 2)) ∙ sym (ap (λ (xs : List ℕ). bits_put c r xs m) d)

pub left-more : (r n k left : ℕ) → 0 < k → k ≤ n → left ≡ r / 2 ^ (n - k) → left / 2 ≡ r / 2 ^ (n - (k - 1))
left-more r n k left p h e =
    let z : n - k + 1 ≡ n - (k - 1) = omega arith in
    ap (λ (x : ℕ). x / 2) e ∙ shr-shr r (n - k) 1 ∙ ap (λ (x : ℕ). r / 2 ^ x) z

pub left-none : (r n : ℕ) → r ≡ r / 2 ^ (n - n)
left-none r n = let z : n - n ≡ 0 = omega arith in let q : r ≡ r / 1 = omega arith in q ∙ sym (ap (λ (x : ℕ). r / 2 ^ x) z)

-- ---- gates

module _ (v : ℕ) (x y : Lit) (s : State) (m : List ℕ) where
  pub gate-left : false ≡ is_present m x → filled s none ≡ gate_put v x y s m
  unfolding gate_put
  gate-left e =
      ap (λ (p : Bool). cond p (cond (is_present m y) (noted_in (both s (edge_in m x) (edge_in m y)) v m) (filled s none)) (filled s none)) e

  pub gate-right : true ≡ is_present m x → false ≡ is_present m y → filled s none ≡ gate_put v x y s m
  unfolding gate_put
  gate-right e f =
      ap₂
      (λ (p q : Bool). cond p (cond q (noted_in (both s (edge_in m x) (edge_in m y)) v m) (filled s none)) (filled s none)) e f

  pub gate-made : true ≡ is_present m x → true ≡ is_present m y → noted_in (both s (edge_in m x) (edge_in m y)) v m ≡ gate_put v x y s m
  unfolding gate_put
  gate-made e f =
      ap₂
      (λ (p q : Bool). cond p (cond q (noted_in (both s (edge_in m x) (edge_in m y)) v m) (filled s none)) (filled s none)) e f

module _ (c : Circuit) (gs : List ℕ) (k : ℕ) (s : State) (m : List ℕ) where
  pub gates-done : length gs ≤ k → filled s (some m) ≡ gates_put c (drop k gs) s m
  unfolding gates_put
  gates-done h = sym (ap (λ (xs : List ℕ). gates_put c xs s m) (drop_all k gs h))

  module _ (h : k < length gs) where
    gates-step : fill_then (gate_put_in (gate_at c (get_or gs k 0)) s m) (gates_put c (drop (k + 1) gs)) ≡ gates_put c (drop k gs) s m
    unfolding gates_put
    gates-step = sym (ap (λ (xs : List ℕ). gates_put c xs s m) (rest gs k h))

    pub gates-full : (t : State) → filled t none ≡ gate_put_in (gate_at c (get_or gs k 0)) s m → filled t none ≡ gates_put c (drop k gs) s m
    gates-full t q = fill_none (gate_put_in (gate_at c (get_or gs k 0)) s m) (gates_put c (drop (k + 1) gs)) t q ∙ gates-step

    pub gates-more : (t : State) (n : List ℕ) → filled t (some n) ≡ gate_put_in (gate_at c (get_or gs k 0)) s m
        → gates_put c (drop (k + 1) gs) t n ≡ gates_put c (drop k gs) s m
    gates-more t n q = fill-some (gate_put_in (gate_at c (get_or gs k 0)) s m) (gates_put c (drop (k + 1) gs)) t n q ∙ gates-step

-- ---- lines

module _ (m : List ℕ) (l : Lit) (s : State) (e : ℕ) where
  pub literal-absent : false ≡ is_present m l → outcome s none ≡ with_literal m l s e
  unfolding with_literal
  literal-absent q = ap (λ (p : Bool). cond p (both s e (edge_in m l)) (outcome s none)) q

  pub literal-made : (f : ℕ) → f ≡ edge_in m l → true ≡ is_present m l → both s e f ≡ with_literal m l s e
  unfolding with_literal
  literal-made f g q = ap (both s e) g ∙ ap (λ (p : Bool). cond p (both s e (edge_in m l)) (outcome s none)) q

module _ (m ls : List ℕ) (k : ℕ) (s : State) (e : ℕ) where
  pub lines-done : length ls ≤ k → outcome s (some e) ≡ with_literals m (drop k ls) s e
  unfolding with_literals
  lines-done h = sym (ap (λ (xs : List ℕ). with_literals m xs s e) (drop_all k ls h))

  module _ (h : k < length ls) (l : Lit) (q : l ≡ literal (get_or ls k 0)) where
    lines_step : and_then (with_literal m l s e) (with_literals m (drop (k + 1) ls)) ≡ with_literals m (drop k ls) s e
    unfolding with_literals
    lines_step =
        ap (λ (x : Lit). and_then (with_literal m x s e) (with_literals m (drop (k + 1) ls))) q
        ∙ sym (ap (λ (xs : List ℕ). with_literals m xs s e) (rest ls k h))

    pub lines-full : (t : State) → outcome t none ≡ with_literal m l s e → outcome t none ≡ with_literals m (drop k ls) s e
    lines-full t p = ap (λ (o : Outcome). and_then o (with_literals m (drop (k + 1) ls))) p ∙ lines_step

    pub lines_more : (t : State) (f : ℕ) → outcome t (some f) ≡ with_literal m l s e
        → with_literals m (drop (k + 1) ls) t f ≡ with_literals m (drop k ls) s e
    lines_more t f p = ap (λ (o : Outcome). and_then o (with_literals m (drop (k + 1) ls))) p ∙ lines_step

-- ---- every element passes

module _ (p : ℕ → Bool) (xs : List ℕ) (k : ℕ) where
  pub every-done : length xs ≤ k → true ≡ every p (drop k xs)
  every-done h = sym (ap (every p) (drop_all k xs h))

  module _ (h : k < length xs) where
    pub every-stop : p (get_or xs k 0) ≡ false → false ≡ every p (drop k xs)
    every-stop e = sym (ap (every p) (rest xs k h) ∙ ap (λ (b : Bool). b && every p (drop (k + 1) xs)) e)

    pub every_more : p (get_or xs k 0) ≡ true → every p (drop (k + 1) xs) ≡ every p (drop k xs)
    every_more e = sym (ap (every p) (rest xs k h) ∙ ap (λ (b : Bool). b && every p (drop (k + 1) xs)) e)

-- ---- the words of a row

-- the first n words of ws are those of f at the elements of xs
abbrev pub Begun : (ℕ → ℕ) → List ℕ → ℕ → List ℕ → Type 0
Begun f xs n ws = (k : ℕ) → k < n → get_or ws k 0 ≡ f (get_or xs k 0)

pub begun_more : (f : ℕ → ℕ) (xs : List ℕ) (n : ℕ) (ws : List ℕ) (e : ℕ) → n < length ws → e ≡ f (get_or xs n 0) → Begun f xs n ws
    → Begun f xs (n + 1) (set ws n e)
begun_more f xs n ws e h q b k l = elim (ℕ_discrete k n) [
  | yes z ↦ ap (λ (x : ℕ). get_or (set ws n e) x 0) z ∙ get_or-set_same ws n e 0 h ∙ q ∙ ap (λ (x : ℕ). f (get_or xs x 0)) (sym z)
  | no z ↦ get_or-set_other ws n k e 0 z ∙ b k (omega arith)
]

pub row-whole : (f : ℕ → ℕ) (xs : List ℕ) (n : ℕ) (ws : List ℕ) (con hit : ℕ) → n ≡ length xs → length ws ≡ length xs + 2 → Begun f xs n ws
    → set (set ws n con) (n + 1) hit ≡ map f xs ++ (con ∷ hit ∷ [])
row-whole f xs n ws con hit e l b =
    let one = length-set ws n con in
    let two = length-set (set ws n con) (n + 1) hit in
    let m : length (map f xs) ≡ length xs = simp length-map in
    let a = length-append (map f xs) (con ∷ hit ∷ []) in
    ext_get_or 0 (set (set ws n con) (n + 1) hit) (map f xs ++ (con ∷ hit ∷ [])) (omega arith)
    (λ k h.
    elim (dec_lt k n) [
      | yes z ↦
          get_or-set_other (set ws n con) (n + 1) k hit 0 (λ q. omega arith) ∙ get_or-set_other ws n k con 0 (λ q. omega arith) ∙ b k z
          ∙ sym (get_or-append (map f xs) (con ∷ hit ∷ []) 0 k (omega arith) ∙ get_or-map f xs k 0 0 (omega arith))
      | no z ↦
          elim (ℕ_discrete k n) [
            | yes u ↦
                ap (λ (x : ℕ). get_or (set (set ws n con) (n + 1) hit) x 0) u
                ∙ get_or-set_other (set ws n con) (n + 1) n hit 0 (λ q. omega arith) ∙ get_or-set_same ws n con 0 (omega arith)
                ∙ sym (get_or_at (map f xs) con (hit ∷ []) 0 k (omega arith))
            | no u ↦
                let q : k ≡ n + 1 = omega arith in
                ap (λ (x : ℕ). get_or (set (set ws n con) (n + 1) hit) x 0) q
                ∙ get_or-set_same (set ws n con) (n + 1) hit 0 (omega arith)
                ∙ sym (last (map f xs) con hit k (omega arith))
          ]
    ])
  where
    last : (ys : List ℕ) (a z k : ℕ) → k ≡ length ys + 1 → get_or (ys ++ (a ∷ z ∷ [])) k 0 ≡ z
    last ys a z k q = ap (λ (x : ℕ). get_or (ys ++ (a ∷ z ∷ [])) x 0) q ∙ get_or-append-add ys (a ∷ z ∷ []) 1 0

-- ---- the end of a row

module _ (c : Circuit) (b : ℕ) (js : List ℕ) (s : State) (m : List ℕ) where
  abbrev line : Lit
  line = literal (get_or c.bads b 0)

  abbrev after : State → ℕ → Filled
  after t con = fill_from (with_literal m line t con) (λ u hit. filled u (row_words c js m con hit))

  -- the constraints are full
  pub end-first : (t : State) → outcome t none ≡ with_literals m c.constraints s 1 → filled t none ≡ row_end c b js s m
  unfolding row_end
  end-first t e = from-none (with_literals m c.constraints s 1) after t e

  module _ (t : State) (con : ℕ) (e : outcome t (some con) ≡ with_literals m c.constraints s 1) where
    -- the hit is full
    pub end-second : (u : State) → outcome u none ≡ with_literal m line t con → filled u none ≡ row_end c b js s m
    unfolding row_end
    end-second u f =
        from-none (with_literal m line t con) (λ u hit. filled u (row_words c js m con hit)) u f
        ∙ from_some (with_literals m c.constraints s 1) after t con e

    module _ (u : State) (hit : ℕ) (f : outcome u (some hit) ≡ with_literal m line t con) where
      pub end-words : (ws : Option (List ℕ)) → ws ≡ row_words c js m con hit → filled u ws ≡ row_end c b js s m
      unfolding row_end
      end-words ws q =
          ap (filled u) q ∙ from_some (with_literal m line t con) (λ u hit. filled u (row_words c js m con hit)) u hit f
          ∙ from_some (with_literals m c.constraints s 1) after t con e

pub words-absent : (c : Circuit) (js m : List ℕ) (con hit : ℕ) → false ≡ every (λ j. is_present m (next_literal c j)) js → none ≡ row_words c js m con hit
unfolding row_words
words-absent c js m con hit e =
    ap (λ (p : Bool). cond p (some (map (λ j. edge_in m (next_literal c j)) js ++ (con ∷ hit ∷ []))) none) e

pub words-there : (c : Circuit) (js m : List ℕ) (con hit : ℕ) (ws : List ℕ) → true ≡ every (λ j. is_present m (next_literal c j)) js
    → ws ≡ map (λ j. edge_in m (next_literal c j)) js ++ (con ∷ hit ∷ []) → some ws ≡ row_words c js m con hit
unfolding row_words
words-there c js m con hit ws e q =
    ap some q ∙ ap (λ (p : Bool). cond p (some (map (λ j. edge_in m (next_literal c j)) js ++ (con ∷ hit ∷ []))) none) e

-- ---- a whole row

module _ (c : Circuit) (b : ℕ) (p : List ℕ) (r : ℕ) (s : State) where
  pub row-short : length p < plan_length p → filled s none ≡ row_in c b p r s
  unfolding row_in
  row-short h = sym (rw (lt-ltb (length p) (plan_length p) h))

  module _ (h : plan_length p ≤ length p) (js is gs bits : List ℕ) (ej : js ≡ (plan_of p).latches) (ei : is ≡ (plan_of p).inputs) (eg : gs ≡ (plan_of p).gates) (eb : bits ≡ bits_put c r is blank) where
    abbrev leafing : Filled
    leafing = latches_put c 0 js s bits

    abbrev gating : State → List ℕ → Filled
    gating t m = fill_then (gates_put c gs t m) (row_end c b js)

    row_is : fill_then (latches_put c 0 js s bits) (λ t m. fill_then (gates_put c gs t m) (row_end c b js)) ≡ row_in c b p r s
    unfolding row_in row_made
    row_is =
        (λ i. fill_then (latches_put c 0 (ej i) s (eb i)) (λ t m. fill_then (gates_put c (eg i) t m) (row_end c b (ej i))))
        ∙ ap (λ (xs : List ℕ). fill_then (latches_put c 0 (plan_of p).latches s (bits_put c r xs blank)) (λ t m. fill_then (gates_put c (plan_of p).gates t m) (row_end c b (plan_of p).latches))) ei
        ∙ sym (rw (le-ltb (length p) (plan_length p) h))

    pub row_first : (t : State) → filled t none ≡ leafing → filled t none ≡ row_in c b p r s
    row_first t e = fill_none leafing gating t e ∙ row_is

    module _ (t : State) (m : List ℕ) (e : filled t (some m) ≡ leafing) where
      pub row-second : (u : State) → filled u none ≡ gates_put c gs t m → filled u none ≡ row_in c b p r s
      row-second u f = fill_none (gates_put c gs t m) (row_end c b js) u f ∙ fill-some leafing gating t m e ∙ row_is

      pub row-third : (u : State) (n : List ℕ) → filled u (some n) ≡ gates_put c gs t m → row_end c b js u n ≡ row_in c b p r s
      row-third u n f = fill-some (gates_put c gs t m) (row_end c b js) u n f ∙ fill-some leafing gating t m e ∙ row_is

-- ---- parts of a plan

pub part_length : (xs : List ℕ) (k n : ℕ) → k + n ≤ length xs → length (take n (drop k xs)) ≡ n
part_length xs k n h = simp (length-take, length-drop) (omega arith)

pub part-short : (xs : List ℕ) (k n : ℕ) → n < 4294967296 → length (take n (drop k xs)) < 4294967296
part-short xs k n h = simp (length-take) (omega arith)

module _ (p : List ℕ) (v i a : ℕ) (ev : v ≡ word p 0) (ei : i ≡ word p 1) (ea : a ≡ word p 2) where
  part_at : (x y n k : ℕ) → x ≡ n → y ≡ k → take x (drop y p) ≡ take n (drop k p)
  part_at x y n k e f = ap₂ (λ (z u : ℕ). take z (drop u p)) e f

  pub latches-part : take (3 + v - 3) (drop 3 p) ≡ (plan_of p).latches
  latches-part = part_at (3 + v - 3) 3 (word p 0) 3 (omega arith) refl

  pub inputs-part : take (3 + v + i - (3 + v)) (drop (3 + v) p) ≡ (plan_of p).inputs
  inputs-part = part_at (3 + v + i - (3 + v)) (3 + v) (word p 1) (3 + word p 0) (omega arith) (omega arith)

  pub gates-part : take (3 + v + i + a - (3 + v + i)) (drop (3 + v + i) p) ≡ (plan_of p).gates
  gates-part = part_at (3 + v + i + a - (3 + v + i)) (3 + v + i) (word p 2) (3 + word p 0 + word p 1) (omega arith) (omega arith)
