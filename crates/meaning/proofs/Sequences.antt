-- Sequences and runs: the run of a sequence bit by bit, and that the runs of sequences are all runs. Clauses 2.3, 2.4. Assumes nothing.
use mathlib.Core.Path.{◌≡◌, refl, sym, ap, ap₂, ◌∙◌, subst}
use mathlib.Core.Bool.{Bool, true, false, cond, ◌||◌}
use mathlib.Core.List.{List, [], ◌∷◌, ◌++◌}
use mathlib.Core.Logic.{◌⊎◌, ⊎_elim}
use Prim.Native.Nat.{ℕ, zero, suc, ◌+◌, ◌-◌, ◌*◌, ◌/◌, ◌%◌, ◌^◌, ◌≤◌, ◌<◌}
use native.Mathlib.Nat.{not-suc-le-zero, le_of_suc-le-suc, mul-suc, div-add-mod, mod-lt, div-lt_iff_lt-mul, mul_comm, mul-le-mul_left, zero-add}
use native.Mathlib.Decide.{dec_lt}
use native.Mathlib.Omega.{arith}
use borrow.Author.Tests.{eq-eqb, ne_eqb}
use lib.Dec.{T, leb, eqb, leb→le, eqb→eq}
use lib.ListN.{length, get_or, take, length-append, get_or-append}
use lib.Seq.{get_or-append-add, ext_get_or}
use Rattle.aiger.specs.Lists.{every, tally}
use Rattle.aiger.specs.Circuit.{Circuit, Latch, literal_tests, literals_right}
use Rattle.aiger.specs.Frames.{Run, is_free, free_starts, free_bits, free_bit, starts, run}
use Rattle.aiger.specs.Witness.{agrees}
use Rattle.aiger.proofs.Tests.{and, and_left, and_right, T_true, all-at, or_cases}
use Rattle.meaning.proofs.Lists.{or_left, or_right, length-map-upto, get_d-map-upto}
use Rattle.meaning.proofs.Defined.{no_latch, latch_at}
use Rattle.meaning.proofs.Bits.{sequence-same, sequence-of}

-- ---- the start

-- start values depend on the free bits of the start alone
pub starts-same : (f g : ℕ → Bool) (k : ℕ) (ls : List Latch) → ((j : ℕ) → j < k + tally is_free ls → f j ≡ g j) → starts f k ls ≡ starts g k ls
unfolding starts
starts-same f g k [] h = refl
starts-same f g k (l ∷ ls) h = go (is_free l) h (starts-same f g (k + 1) ls) (starts-same f g k ls)
  where
    go : (b : Bool) → ((j : ℕ) → j < k + (cond b 1 0 + tally is_free ls) → f j ≡ g j)
        → (((j : ℕ) → j < k + 1 + tally is_free ls → f j ≡ g j) → starts f (k + 1) ls ≡ starts g (k + 1) ls)
        → (((j : ℕ) → j < k + tally is_free ls → f j ≡ g j) → starts f k ls ≡ starts g k ls)
        → cond b (f k ∷ starts f (k + 1) ls) (eqb l.reset 1 ∷ starts f k ls) ≡ cond b (g k ∷ starts g (k + 1) ls) (eqb l.reset 1 ∷ starts g k ls)
    go true q p r = ap₂ ◌∷◌ (q k (omega arith)) (p (λ j i. q j (omega arith)))
    go false q p r = ap (λ (z : List Bool). eqb l.reset 1 ∷ z) (r (λ j i. q j (omega arith)))

pub length-starts : (free : ℕ → Bool) (k : ℕ) (ls : List Latch) → length (starts free k ls) ≡ length ls
unfolding starts
length-starts free k [] = refl
length-starts free k (l ∷ ls) = go (is_free l) (length-starts free (k + 1) ls) (length-starts free k ls)
  where
    go : (f : Bool) → length (starts free (k + 1) ls) ≡ length ls → length (starts free k ls) ≡ length ls
        → length (cond f (free k ∷ starts free (k + 1) ls) (eqb l.reset 1 ∷ starts free k ls)) ≡ suc (length ls)
    go true a b = ap suc a
    go false a b = ap suc b

-- a latch has its reset, or the free bit numbered by the free latches before it
starts-at : (free : ℕ → Bool) (k : ℕ) (ls : List Latch) (j : ℕ) → j < length ls
    → get_or (starts free k ls) j false ≡ cond (is_free (get_or ls j no_latch)) (free (k + tally is_free (take j ls))) (eqb (get_or ls j no_latch).reset 1)
unfolding starts
starts-at free k [] j h = absurd (not-suc-le-zero h)
starts-at free k (l ∷ ls) zero h = go (is_free l)
  where
    go : (f : Bool) → get_or (cond f (free k ∷ starts free (k + 1) ls) (eqb l.reset 1 ∷ starts free k ls)) 0 false ≡ cond f (free (k + 0)) (eqb l.reset 1)
    go true = ap free (omega arith)
    go false = refl
starts-at free k (l ∷ ls) (suc j) h = go (is_free l) (starts-at free (k + 1) ls j (le_of_suc-le-suc h)) (starts-at free k ls j (le_of_suc-le-suc h))
  where
    m : ℕ
    m = tally is_free (take j ls)

    value : ℕ → Bool
    value i = cond (is_free (get_or ls j no_latch)) (free i) (eqb (get_or ls j no_latch).reset 1)

    go : (f : Bool) → get_or (starts free (k + 1) ls) j false ≡ value (k + 1 + m) → get_or (starts free k ls) j false ≡ value (k + m)
        → get_or (cond f (free k ∷ starts free (k + 1) ls) (eqb l.reset 1 ∷ starts free k ls)) (suc j) false ≡ value (k + (cond f 1 0 + m))
    go true a b = a ∙ ap value (omega arith)
    go false a b = b ∙ ap value (omega arith)

-- resets are 0, 1 or the latch's literal
abbrev Resets : List Latch → Type 0
Resets ls = T (every (λ l. leb l.reset 1 || eqb l.reset l.lit) ls)

reset-value : (r : ℕ) → r ≤ 1 → T (eqb r (cond (eqb r 1) 1 0))
reset-value zero h = tt
reset-value (suc zero) h = tt
reset-value (suc (suc r)) h = absurd (omega arith)

starts-agree : (free : ℕ → Bool) (k : ℕ) (ls : List Latch) → Resets ls → T (agrees ls (starts free k ls))
unfolding starts agrees
starts-agree free k [] t = tt
starts-agree free k (l ∷ ls) t =
    go (is_free l) refl (or_cases (leb l.reset 1) (is_free l) (and_left small rest t)) (starts-agree free (k + 1) ls (and_right small rest t)) (starts-agree free k ls (and_right small rest t))
  where
    small : Bool
    small = leb l.reset 1 || is_free l

    rest : Bool
    rest = every (λ x. leb x.reset 1 || is_free x) ls

    go : (f : Bool) → is_free l ≡ f → T (leb l.reset 1) ⊎ T f → T (agrees ls (starts free (k + 1) ls)) → T (agrees ls (starts free k ls))
        → T (agrees (l ∷ ls) (cond f (free k ∷ starts free (k + 1) ls) (eqb l.reset 1 ∷ starts free k ls)))
    go true e w a b = and (is_free l || eqb l.reset (cond (free k) 1 0)) (agrees ls (starts free (k + 1) ls)) (or_left (is_free l) (eqb l.reset (cond (free k) 1 0)) (T_true e)) a
    go false e w a b =
        let reset = eqb l.reset (cond (eqb l.reset 1) 1 0) in
        and (is_free l || reset) (agrees ls (starts free k ls)) (or_right (is_free l) reset (⊎_elim (λ s. reset-value l.reset (leb→le l.reset 1 s)) (λ z. absurd z) w)) b

-- ---- the free bits of a run, in order

-- the bits of a start at the latches that are free
unfoldable pub free_of : List Latch → List Bool → List Bool
free_of [] bs = []
free_of (l ∷ ls) [] = []
free_of (l ∷ ls) (b ∷ bs) = cond (is_free l) (b ∷ free_of ls bs) (free_of ls bs)

-- the bits of rows, one row after the other
unfoldable pub row_bits : List (List Bool) → List Bool
row_bits [] = []
row_bits (r ∷ rs) = r ++ row_bits rs

-- the free bits of a run
unfoldable pub word : Circuit → Run → List Bool
word c r = free_of c.latches r.start ++ row_bits r.rows

length-free_of : (ls : List Latch) (bs : List Bool) → length bs ≡ length ls → length (free_of ls bs) ≡ tally is_free ls
unfolding free_of
length-free_of [] bs e = refl
length-free_of (l ∷ ls) [] e = absurd (omega arith)
length-free_of (l ∷ ls) (b ∷ bs) e = go (is_free l) (length-free_of ls bs (omega arith))
  where
    go : (f : Bool) → length (free_of ls bs) ≡ tally is_free ls → length (cond f (b ∷ free_of ls bs) (free_of ls bs)) ≡ cond f 1 0 + tally is_free ls
    go true a = omega arith
    go false a = omega arith

reset-bit : (r : ℕ) (b : Bool) → T (eqb r (cond b 1 0)) → eqb r 1 ≡ b
reset-bit r true t = eq-eqb r 1 (eqb→eq r 1 t)
reset-bit r false t = ne_eqb r 1 (λ e. omega (arith, eqb→eq r 0 t))

-- the start that the free bits of a start give is that start, if it agrees with the resets
starts-free_of : (ls : List Latch) (bs : List Bool) → length bs ≡ length ls → T (agrees ls bs) → (free : ℕ → Bool) (k : ℕ)
    → ((m : ℕ) → m < length (free_of ls bs) → free (k + m) ≡ get_or (free_of ls bs) m false) → starts free k ls ≡ bs
unfolding starts agrees free_of
starts-free_of [] [] e t free k h = refl
starts-free_of [] (b ∷ bs) e t free k h = absurd (omega arith)
starts-free_of (l ∷ ls) [] e t free k h = absurd (omega arith)
starts-free_of (l ∷ ls) (b ∷ bs) e t free k h =
    go (is_free l) (and_left (is_free l || reset) (agrees ls bs) t) h
    (λ i. starts-free_of ls bs (omega arith) (and_right (is_free l || reset) (agrees ls bs) t) free i)
  where
    reset : Bool
    reset = eqb l.reset (cond b 1 0)

    go : (f : Bool) → T (f || reset)
        → ((m : ℕ) → m < length (cond f (b ∷ free_of ls bs) (free_of ls bs)) → free (k + m) ≡ get_or (cond f (b ∷ free_of ls bs) (free_of ls bs)) m false)
        → ((i : ℕ) → ((m : ℕ) → m < length (free_of ls bs) → free (i + m) ≡ get_or (free_of ls bs) m false) → starts free i ls ≡ bs)
        → cond f (free k ∷ starts free (k + 1) ls) (eqb l.reset 1 ∷ starts free k ls) ≡ b ∷ bs
    go true s q r =
        let e0 : k ≡ k + 0 = omega arith in
        ap₂ ◌∷◌ (ap free e0 ∙ q 0 (omega arith))
        (r (k + 1) (λ m w. let e1 : k + 1 + m ≡ k + suc m = omega arith in ap free e1 ∙ q (suc m) (omega arith)))
    go false s q r = ap₂ ◌∷◌ (reset-bit l.reset b s) (r k q)

-- and the free bits of the start that free bits give are those bits
free_of-starts : (free : ℕ → Bool) (k : ℕ) (ls : List Latch) (m : ℕ) → m < tally is_free ls → get_or (free_of ls (starts free k ls)) m false ≡ free (k + m)
unfolding starts free_of
free_of-starts free k [] m h = absurd (not-suc-le-zero h)
free_of-starts free k (l ∷ ls) m h = go (is_free l) refl m h (free_of-starts free (k + 1) ls) (free_of-starts free k ls)
  where
    go : (f : Bool) → is_free l ≡ f → (m : ℕ) → m < cond f 1 0 + tally is_free ls
        → ((i : ℕ) → i < tally is_free ls → get_or (free_of ls (starts free (k + 1) ls)) i false ≡ free (k + 1 + i))
        → ((i : ℕ) → i < tally is_free ls → get_or (free_of ls (starts free k ls)) i false ≡ free (k + i))
        → get_or (free_of (l ∷ ls) (cond f (free k ∷ starts free (k + 1) ls) (eqb l.reset 1 ∷ starts free k ls))) m false ≡ free (k + m)
    go true e zero h a b = rw e (ap free (omega arith))
    go true e (suc i) h a b = rw e (a i (omega arith) ∙ ap free (omega arith))
    go false e i h a b = rw e (b i (omega arith))

-- rows of I bits each
abbrev Rows : ℕ → List (List Bool) → Type 0
Rows I rs = (u : ℕ) → u < length rs → length (get_or rs u []) ≡ I

length-row_bits : (I : ℕ) (rs : List (List Bool)) → Rows I rs → length (row_bits rs) ≡ I * length rs
unfolding row_bits
length-row_bits I [] h = omega arith
length-row_bits I (r ∷ rs) h =
    let a = length-row_bits I rs (λ u l. h (suc u) (omega arith)) in
    simp (length-append, mul-suc) (omega (arith, h 0 (omega arith), a))

-- bit i of row u
row_bits-at : (I : ℕ) (rs : List (List Bool)) → Rows I rs → (u i : ℕ) → u < length rs → i < I → get_or (row_bits rs) (I * u + i) false ≡ get_or (get_or rs u []) i false
unfolding row_bits
row_bits-at I [] h u i l k = absurd (not-suc-le-zero l)
row_bits-at I (r ∷ rs) h zero i l k =
    let e : I * 0 + i ≡ i = omega arith in
    ap (λ (m : ℕ). get_or (r ++ row_bits rs) m false) e ∙ get_or-append r (row_bits rs) false i (omega (arith, h 0 (omega arith)))
row_bits-at I (r ∷ rs) h (suc u) i l k =
    let e : I * suc u + i ≡ length r + (I * u + i) = omega (arith, mul-suc I u, h 0 (omega arith)) in
    ap (λ (m : ℕ). get_or (r ++ row_bits rs) m false) e ∙ get_or-append-add r (row_bits rs) (I * u + i) false
    ∙ row_bits-at I rs (λ v w. h (suc v) (omega arith)) u i (le_of_suc-le-suc l) k

-- ---- the run of a sequence

-- a run of frame t has a start value for each latch, and t+1 rows with a bit for each input
pub record Shaped (c : Circuit) (t : ℕ) (r : Run) : Type 0 where
  pub start : length r.start ≡ length c.latches
  pub frames : length r.rows ≡ t + 1
  pub row : (u : ℕ) → u < t + 1 → length (get_or r.rows u []) ≡ length c.inputs

pick : {A : Type 0} (f : Bool) (a b : A) → T f → cond f a b ≡ a
pick true a b t = refl
pick false a b t = absurd t

pick_other : {A : Type 0} (f : Bool) (a b : A) → (T f → ⊥) → cond f a b ≡ b
pick_other true a b n = absurd (n tt)
pick_other false a b n = refl

positive : (I m k : ℕ) → m < I * k → 0 < I
positive zero m k h = absurd (omega arith)
positive (suc I) m k h = omega arith

tally-take : (ls : List Latch) (j : ℕ) → j < length ls → T (is_free (get_or ls j no_latch)) → tally is_free (take j ls) < tally is_free ls
tally-take [] j h f = absurd (not-suc-le-zero h)
tally-take (l ∷ ls) zero h f = let e : ◌≡◌ {A = ℕ} (cond (is_free l) 1 0) 1 = pick (is_free l) 1 0 f in omega arith
tally-take (l ∷ ls) (suc j) h f = omega (arith, tally-take ls j (le_of_suc-le-suc h) f)

module _ (c : Circuit) (t : ℕ) where
  module _ (x : ℕ) where
    pub run-shaped : Shaped c t (run c t x)
    unfolding run free_bits
    run-shaped =
        record {
          start = length-starts (free_bit (free_bits c t) x) 0 c.latches;
          frames = length-map-upto _ (t + 1);
          row = λ u h. ap length (get_d-map-upto _ (t + 1) u [] h) ∙ length-map-upto _ (length c.inputs);
        }

    -- bit i of row u is the free bit that follows those of the latches, of the rows before and of the inputs before
    pub run-input : (u i : ℕ) → u < t + 1 → i < length c.inputs
        → get_or (get_or (run c t x).rows u []) i false ≡ free_bit (free_bits c t) x (free_starts c + length c.inputs * u + i)
    unfolding run free_bits
    run-input u i h l = ap (λ (r : List Bool). get_or r i false) (get_d-map-upto _ (t + 1) u [] h) ∙ get_d-map-upto _ (length c.inputs) i false l

    run-start : (j : ℕ) → j < length c.latches
        → get_or (run c t x).start j false ≡ cond (is_free (latch_at c j)) (free_bit (free_bits c t) x (tally is_free (take j c.latches))) (eqb (latch_at c j).reset 1)
    unfolding run free_bits
    run-start j h =
        starts-at (free_bit (free_bits c t) x) 0 c.latches j h
        ∙ ap (λ (m : ℕ). cond (is_free (latch_at c j)) (free_bit (free_bits c t) x m) (eqb (latch_at c j).reset 1)) (zero-add (tally is_free (take j c.latches)))

    -- a latch that is not free starts at its reset
    pub run-reset : (j : ℕ) → j < length c.latches → (T (is_free (latch_at c j)) → ⊥) → get_or (run c t x).start j false ≡ eqb (latch_at c j).reset 1
    run-reset j h n = run-start j h ∙ pick_other (is_free (latch_at c j)) _ _ n

    -- a latch that is free starts at the free bit numbered by the free latches before it
    pub run-free : (j : ℕ) → j < length c.latches → T (is_free (latch_at c j))
        → get_or (run c t x).start j false ≡ free_bit (free_bits c t) x (tally is_free (take j c.latches))
    run-free j h f = run-start j h ∙ pick (is_free (latch_at c j)) _ _ f

    -- the start agrees with every reset
    pub run-agrees : T (literals_right c) → T (agrees c.latches (run c t x).start)
    unfolding run free_bits literals_right
    run-agrees right = starts-agree (free_bit (free_bits c t) x) 0 c.latches (all-at (literal_tests c) right 3)

  -- ---- sequences and runs, one to one

  module _ {r : Run} (s : Shaped c t r) where
    length_front : length (free_of c.latches r.start) ≡ free_starts c
    unfolding free_starts
    length_front = length-free_of c.latches r.start s.start

    word-front : (j : ℕ) → j < free_starts c → get_or (word c r) j false ≡ get_or (free_of c.latches r.start) j false
    unfolding word
    word-front j h = get_or-append (free_of c.latches r.start) (row_bits r.rows) false j (omega (arith, length_front))

    word_back : (u i : ℕ) → u < t + 1 → i < length c.inputs → get_or (word c r) (free_starts c + length c.inputs * u + i) false ≡ get_or (get_or r.rows u []) i false
    unfolding word
    word_back u i h l =
        let I = length c.inputs in
        let front = free_of c.latches r.start in
        let e : free_starts c + I * u + i ≡ length front + (I * u + i) = omega (arith, length_front) in
        ap (λ (m : ℕ). get_or (front ++ row_bits r.rows) m false) e
        ∙ get_or-append-add front (row_bits r.rows) (I * u + i) false
        ∙ row_bits-at I r.rows (λ v w. s.row v (omega (arith, s.frames))) u i (omega (arith, s.frames)) l

  run-free_of : (x j : ℕ) → j < free_starts c → get_or (free_of c.latches (run c t x).start) j false ≡ free_bit (free_bits c t) x j
  unfolding run free_bits free_starts
  run-free_of x j h = free_of-starts (free_bit (free_bits c t) x) 0 c.latches j h ∙ ap (free_bit (free_bits c t) x) (zero-add j)

  -- the free bits of the run of x are those of x
  pub word-run : (x j : ℕ) → j < free_bits c t → get_or (word c (run c t x)) j false ≡ free_bit (free_bits c t) x j
  unfolding free_bits
  word-run x j h = elim (dec_lt j (free_starts c)) [ yes l ↦ front l | no l ↦ back (omega arith) ]
    where
      I : ℕ
      I = length c.inputs

      front : j < free_starts c → get_or (word c (run c t x)) j false ≡ free_bit (free_bits c t) x j
      front l = word-front (run-shaped x) j l ∙ run-free_of x j l

      back : free_starts c ≤ j → get_or (word c (run c t x)) j false ≡ free_bit (free_bits c t) x j
      back l =
          let m = j - free_starts c in
          let p : 0 < I = positive I m (t + 1) (omega arith) in
          let b : m / I < t + 1 = (div-lt_iff_lt-mul p).1 (rw (mul_comm (t + 1) I) (omega arith)) in
          let e : free_starts c + I * (m / I) + m % I ≡ j = omega (arith, div-add-mod m I) in
          subst (λ (i : ℕ). get_or (word c (run c t x)) i false ≡ free_bit (free_bits c t) x i) e
          (word_back (run-shaped x) (m / I) (m % I) b (mod-lt m p) ∙ run-input x (m / I) (m % I) b (mod-lt m p))

  -- two sequences with the same run are equal
  pub run-same : (x y : ℕ) → x < 2 ^ free_bits c t → y < 2 ^ free_bits c t → run c t x ≡ run c t y → x ≡ y
  run-same x y hx hy e =
      sequence-same (free_bits c t) x y hx hy (λ j h. sym (word-run x j h) ∙ ap (λ (r : Run). get_or (word c r) j false) e ∙ word-run y j h)

  -- the number of a latch's free bit is below the number of free bits
  pub latch-number : (j : ℕ) → j < length c.latches → T (is_free (latch_at c j)) → tally is_free (take j c.latches) < free_bits c t
  unfolding free_bits free_starts
  latch-number j h f = omega (arith, tally-take c.latches j h f)

  -- the number of an input's free bit is below the number of free bits
  pub input-number : (u i : ℕ) → u < t + 1 → i < length c.inputs → free_starts c + length c.inputs * u + i < free_bits c t
  unfolding free_bits
  input-number u i h l =
      let I = length c.inputs in
      let m : I * suc u ≤ I * (t + 1) = mul-le-mul_left I h in
      omega (arith, mul-suc I u)

  module _ (r : Run) (s : Shaped c t r) (x : ℕ) (h : (j : ℕ) → j < free_bits c t → free_bit (free_bits c t) x j ≡ get_or (word c r) j false) where
    same_start : T (agrees c.latches r.start) → (run c t x).start ≡ r.start
    unfolding run free_bits
    same_start a =
        starts-free_of c.latches r.start s.start a (free_bit (free_bits c t) x) 0
        (λ m k. let l : m < free_starts c = omega (arith, length_front s) in ap (free_bit (free_bits c t) x) (zero-add m) ∙ h m (omega arith) ∙ word-front s m l)

    same_row : (u : ℕ) → u < t + 1 → get_or (run c t x).rows u [] ≡ get_or r.rows u []
    same_row u l =
        let e = (run-shaped x).row u l in
        ext_get_or false (get_or (run c t x).rows u []) (get_or r.rows u []) (e ∙ sym (s.row u l))
        (λ i k.
        let b : i < length c.inputs = omega arith in
        run-input x u i l b ∙ h (free_starts c + length c.inputs * u + i) (input-number u i l b) ∙ word_back s u i l b)

    same_rows : (run c t x).rows ≡ r.rows
    same_rows =
        let e = (run-shaped x).frames in
        ext_get_or [] (run c t x).rows r.rows (e ∙ sym s.frames) (λ u k. same_row u (omega arith))

  -- every run of frame t whose start agrees with the resets is the run of a sequence
  pub every-run : (r : Run) → Shaped c t r → T (agrees c.latches r.start) → (x : ℕ) × (x < 2 ^ free_bits c t) × (run c t x ≡ r)
  every-run r s a =
      let q = sequence-of (free_bits c t) (λ j. get_or (word c r) j false) in
      let start = same_start r s q.0 q.2 a in
      let rows = same_rows r s q.0 q.2 in
      (q.0, q.1, λ i. record { start = start i; rows = rows i })
