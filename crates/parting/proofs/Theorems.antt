-- What the bad lines of a joined circuit say of the two circuits: an allowed run of both on the same inputs whose outputs differ. Clause 12.6.
-- Assumes nothing.
use mathlib.Core.Path.{◌≡◌, refl, sym, ap, ap₂, ◌∙◌, subst}
use mathlib.Core.Bool.{Bool, true, false, not, cond, ◌&&◌, ◌||◌, beq, and_assoc}
use mathlib.Core.List.{List, [], ◌∷◌, ◌++◌, map}
use mathlib.Core.Logic.{⊎_elim}
use Prim.Native.Nat.{ℕ, zero, suc, ◌+◌, ◌-◌, ◌*◌, ◌≤◌, ◌<◌, ◌^◌}
use native.Mathlib.Omega.{arith}
use lib.Dec.{T, leb, eqb, leb→le, eqb→eq}
use lib.Seq.{take_at, drop_at}
use lib.ListN.{length, get_or, take, drop, length-map, length-append, length-take, length-drop}
use Rattle.aiger.specs.Lists.{every, tally, upto}
use Rattle.aiger.specs.Circuit.{Circuit, Latch, var, literal_tests, literals_right, used_defined, acyclic}
use Rattle.aiger.specs.File.{counts_fit, header_of}
use Rattle.aiger.specs.Frames.{Run, value_at, constrained, allowed, hits, is_free, free_starts, free_bits, run}
use Rattle.aiger.specs.Search.{question, reaches, reaches_in, first_witness}
use Rattle.aiger.specs.Witness.{agrees, witness}
use Rattle.aiger.specs.Load.{Answer, refused, gives, load, needed}
use Rattle.aiger.specs.Write.{count_row, write}
use Rattle.aiger.specs.Memory.{Holds, image}
use Rattle.aiger.specs.Operations.{front, judge}
use Rattle.aiger.proofs.Tests.{true-T, T_true, and, and_left, and_right, all-at}
use Rattle.meaning.proofs.Lists.{length-map-upto, every-at}
use Rattle.meaning.proofs.Defined.{Known, no_latch, latch_at, definition, latch-in, constraint-known}
use Rattle.meaning.proofs.Sequences.{Shaped, run-shaped, run-agrees, every-run}
use Rattle.meaning.proofs.Allowed.{allowed-both}
use Rattle.meaning.proofs.Outcomes.{Found, None, first-witness}
use Rattle.roundtrip.proofs.LoadWrite.{Valid, load-write}
use Rattle.roundtrip.proofs.Holding.{loaded-holds}
use Rattle.joined.specs.Joined.{number_of, literal_under, latch_under, first_number, second_number, joined}
use Rattle.parting.proofs.Numbers.{number-zero, number-latch}
use Rattle.parting.proofs.Accepted.{joined-right, joined-known}
use Rattle.parting.proofs.Acyclic.{joined-acyclic}
use Rattle.parting.proofs.Parted as parted
use Rattle.parting.proofs.Parted.{first_run, second_run}
use Rattle.parting.proofs.Starts.{Numbered, agrees-under, agrees-both, one-start}

-- two circuits that load accepts, with the same numbers of inputs and of outputs
pub record Joinable (c d : Circuit) : Type 0 where
  pub right : T (literals_right c)
  pub known : T (used_defined c)
  pub order : T (acyclic c)
  pub right' : T (literals_right d)
  pub known' : T (used_defined d)
  pub order' : T (acyclic d)
  pub inputs : length c.inputs ≡ length d.inputs
  pub outputs : length c.outputs ≡ length d.outputs

-- runs of the two circuits on the same inputs, which start as the resets say and are allowed at frame t, and whose outputs j differ there
pub record Parting (c d : Circuit) (j t : ℕ) (r r' : Run) : Type 0 where
  pub rows : r.rows ≡ r'.rows
  pub shaped : Shaped c t r
  pub shaped' : Shaped d t r'
  pub starts : T (agrees c.latches r.start)
  pub starts' : T (agrees d.latches r'.start)
  pub allows : T (allowed c r t)
  pub allows' : T (allowed d r' t)
  pub differ : value_at c r t (get_or c.outputs j 0) ≡ value_at d r' t (get_or d.outputs j 0) → ⊥

every_append : {A : Type 0} (p : A → Bool) (xs ys : List A) → every p (xs ++ ys) ≡ (every p xs && every p ys)
every_append p [] ys = refl
every_append p (x ∷ xs) ys = ap (λ (b : Bool). p x && b) (every_append p xs ys) ∙ sym (and_assoc (p x) (every p xs) (every p ys))

every-renamed : {A B : Type 0} (p : B → Bool) (q : A → Bool) (f : A → B) (d : A) (xs : List A) → ((i : ℕ) → i < length xs → p (f (get_or xs i d)) ≡ q (get_or xs i d))
    → every p (map f xs) ≡ every q xs
every-renamed p q f d [] h = refl
every-renamed p q f d (x ∷ xs) h = ap₂ (λ (a b : Bool). a && b) (h 0 (omega arith)) (every-renamed p q f d xs (λ i l. h (suc i) (omega arith)))

true-false : {A : Type 0} → true ≡ false → A
true-false e = absurd (subst (λ (b : Bool). T b) e tt)

unequal : (x y : Bool) → T (not (beq x y)) → x ≡ y → ⊥
unequal true true t e = t
unequal true false t e = true-false e
unequal false true t e = true-false (sym e)
unequal false false t e = t

unequal-in : (x y : Bool) → (x ≡ y → ⊥) → T (not (beq x y))
unequal-in true true n = n refl
unequal-in true false n = tt
unequal-in false true n = tt
unequal-in false false n = n refl

reaches-hits : (c : Circuit) (b t x : ℕ) → reaches c b t x ≡ hits c b (run c t x) t
unfolding reaches reaches_in run
reaches-hits c b t x = refl

-- latches of a circuit that load accepts, numbered from p on
latches-numbered : (c : Circuit) → T (literals_right c) → (p q : ℕ) → 1 ≤ p → (j : ℕ) → j < length c.latches → Numbered (number_of c p q) (latch_at c j)
unfolding literals_right
latches-numbered c r p q h j l =
    record {
      own = (definition c r (latch_at c j).lit (latch-in c j l)).0;
      number = omega (arith, number-latch c r p q j l);
      reset = every-at (λ (x : Latch). leb x.reset 1 || eqb x.reset x.lit) c.latches j no_latch l (all-at (literal_tests c) r 3);
    }

module _ {c d : Circuit} (w : Joinable c d) where
  abbrev J : Circuit
  J = joined c d

  abbrev L : ℕ
  L = length c.latches

  -- ---- load accepts the joined circuit

  right_of : T (literals_right J)
  right_of = joined-right c d w.inputs w.outputs w.right w.right'

  order-of : T (acyclic J)
  order-of = joined-acyclic c d w.right w.known w.order w.right' w.known' w.order' w.inputs w.outputs

  pub joined-valid : (room : ℕ) → T (counts_fit (header_of (joined c d))) → needed (joined c d).max_var ≤ room → Valid room (joined c d)
  joined-valid room f h =
      record {
        fit = true-T (counts_fit (header_of (joined c d))) f;
        held = h;
        literals = true-T (literals_right J) right_of;
        uses = true-T (used_defined J) (joined-known c d w.inputs w.outputs w.right w.right');
        order = true-T (acyclic J) order-of;
      }

  -- ---- runs

  module _ (s : Run) (t : ℕ) where
    first-value : (l : ℕ) → Known c (var l) → value_at J s t (literal_under (first_number c d) l) ≡ value_at c (first_run c s) t l
    first-value l k = sym (parted.first-value c d w.right w.known w.order w.right' w.known' w.order' w.inputs w.outputs s t l k)

    second-value : (l : ℕ) → Known d (var l) → value_at J s t (literal_under (second_number c d) l) ≡ value_at d (second_run c s) t l
    second-value l k = sym (parted.second-value c d w.right w.known w.order w.right' w.known' w.order' w.inputs w.outputs s t l k)

    -- the constraints of the joined circuit are true in a frame where those of both circuits are
    constraints-value : every (value_at J s t) J.constraints ≡ (every (value_at c (first_run c s) t) c.constraints && every (value_at d (second_run c s) t) d.constraints)
    unfolding joined
    constraints-value =
        let σ = literal_under (first_number c d) in
        let τ = literal_under (second_number c d) in
        every_append (value_at J s t) (map σ c.constraints) (map τ d.constraints)
        ∙ ap₂ (λ (a b : Bool). a && b)
        (every-renamed (value_at J s t) (value_at c (first_run c s) t) σ 0 c.constraints (λ i h. first-value (get_or c.constraints i 0) (constraint-known c w.known i)))
        (every-renamed (value_at J s t) (value_at d (second_run c s) t) τ 0 d.constraints (λ i h. second-value (get_or d.constraints i 0) (constraint-known d w.known' i)))

  module _ (s : Run) (t : ℕ) where
    -- a run is allowed exactly when those of both circuits are
    pub joined-allowed : allowed (joined c d) s t ≡ (allowed c (first_run c s) t && allowed d (second_run c s) t)
    unfolding constrained
    joined-allowed = allowed-both J c d s (first_run c s) (second_run c s) t (λ u h. constraints-value s u)

    -- bad line j is hit exactly when both runs are allowed and the outputs j differ
    pub joined-hits : (j : ℕ) → j < length c.outputs
        → hits (joined c d) j s t
        ≡ (allowed c (first_run c s) t && allowed d (second_run c s) t
        && not (beq (value_at c (first_run c s) t (get_or c.outputs j 0)) (value_at d (second_run c s) t (get_or d.outputs j 0))))
    unfolding hits
    joined-hits j h =
        ap₂ (λ (a b : Bool). a && b) joined-allowed
        (parted.bad-value c d w.right w.known w.order w.right' w.known' w.order' w.inputs w.outputs s t j h)

  -- ---- starts

  abbrev σ : ℕ → ℕ
  σ = first_number c d

  abbrev τ : ℕ → ℕ
  τ = second_number c d

  latch-count : length (map (latch_under σ) c.latches) ≡ L
  latch-count = length-map c.latches (latch_under σ)

  -- a start of the joined circuit is one of both
  pub joined-starts : (bs : List Bool) → agrees (joined c d).latches bs ≡ (agrees c.latches (take (length c.latches) bs) && agrees d.latches (drop (length c.latches) bs))
  unfolding joined
  joined-starts bs =
      agrees-both (map (latch_under σ) c.latches) (map (latch_under τ) d.latches) bs
      ∙ ap (λ (n : ℕ). agrees (map (latch_under σ) c.latches) (take n bs) && agrees (map (latch_under τ) d.latches) (drop n bs)) latch-count
      ∙ ap₂ (λ (a b : Bool). a && b)
      (agrees-under σ (number-zero c w.right _ _) c.latches (latches-numbered c w.right (length c.inputs + 1) (length c.inputs + L + length d.latches + 1) (omega arith)) (take L bs))
      (agrees-under τ (number-zero d w.right' _ _) d.latches
      (latches-numbered d w.right' (length c.inputs + L + 1) (length c.inputs + L + length d.latches + length c.gates + 1) (omega arith)) (drop L bs))

  -- ---- the shape of runs

  latches-are : length J.latches ≡ L + length d.latches
  unfolding joined
  latches-are =
      length-append (map (latch_under σ) c.latches) (map (latch_under τ) d.latches) ∙ ap₂ (λ (x y : ℕ). x + y) latch-count (length-map d.latches (latch_under τ))

  inputs_are : length J.inputs ≡ length c.inputs
  unfolding joined
  inputs_are = length-map-upto (λ i. 2 * (i + 1)) (length c.inputs)

  shaped-first : (t : ℕ) (s : Run) → Shaped J t s → Shaped c t (first_run c s)
  shaped-first t s h =
      record {
        start = length-take L s.start ∙ omega (arith, h.start, latches-are);
        frames = h.frames;
        row = λ u l. h.row u l ∙ inputs_are;
      }

  shaped-second : (t : ℕ) (s : Run) → Shaped J t s → Shaped d t (second_run c s)
  shaped-second t s h =
      record {
        start = length-drop L s.start ∙ omega (arith, h.start, latches-are);
        frames = h.frames;
        row = λ u l. h.row u l ∙ inputs_are ∙ w.inputs;
      }

  -- ---- hits

  -- a sequence that hits bad line j is a run of both circuits that parts the outputs j
  pub hit-parts : (j t x : ℕ) → j < length c.outputs → T (reaches (joined c d) j t x)
      → Parting c d j t (first_run c (run (joined c d) t x)) (second_run c (run (joined c d) t x))
  hit-parts j t x l h =
      let s = run J t x in
      let r = first_run c s in
      let r' = second_run c s in
      let all = subst T (reaches-hits J j t x ∙ joined-hits s t j l) h in
      let both = and_left (allowed c r t && allowed d r' t) (not (beq (value_at c r t (get_or c.outputs j 0)) (value_at d r' t (get_or d.outputs j 0)))) all in
      let parts = and_right (allowed c r t && allowed d r' t) (not (beq (value_at c r t (get_or c.outputs j 0)) (value_at d r' t (get_or d.outputs j 0)))) all in
      let start = subst T (joined-starts s.start) (run-agrees J t x right_of) in
      record {
        rows = refl;
        shaped = shaped-first t s (run-shaped J t x);
        shaped' = shaped-second t s (run-shaped J t x);
        starts = and_left (agrees c.latches r.start) (agrees d.latches r'.start) start;
        starts' = and_right (agrees c.latches r.start) (agrees d.latches r'.start) start;
        allows = and_left (allowed c r t) (allowed d r' t) both;
        allows' = and_right (allowed c r t) (allowed d r' t) both;
        differ = unequal (value_at c r t (get_or c.outputs j 0)) (value_at d r' t (get_or d.outputs j 0)) parts;
      }

  -- runs of both circuits that part the outputs j are a sequence that hits bad line j
  pub parting-hits : (j t : ℕ) (r r' : Run) → j < length c.outputs → Parting c d j t r r'
      → (x : ℕ) × (x < 2 ^ free_bits (joined c d) t) × T (reaches (joined c d) j t x)
  parting-hits j t r r' l p =
      let s : Run = record { start = r.start ++ r'.start; rows = r.rows } in
      let a : take L (r.start ++ r'.start) ≡ r.start = take_at r.start r'.start L p.shaped.start in
      let b : drop L (r.start ++ r'.start) ≡ r'.start = drop_at r.start r'.start L p.shaped.start in
      let e : first_run c s ≡ r = λ i. record { start = a i; rows = r.rows } in
      let f : second_run c s ≡ r' = λ i. record { start = b i; rows = p.rows i } in
      let shape : Shaped J t s =
      record {
        start = length-append r.start r'.start ∙ omega (arith, p.shaped.start, p.shaped'.start, latches-are);
        frames = p.shaped.frames;
        row = λ u h. p.shaped.row u h ∙ sym inputs_are;
      } in
      let start : T (agrees J.latches s.start) =
      subst T (sym (joined-starts s.start))
      (and (agrees c.latches (take L s.start)) (agrees d.latches (drop L s.start)) (subst (λ (z : List Bool). T (agrees c.latches z)) (sym a) p.starts)
      (subst (λ (z : List Bool). T (agrees d.latches z)) (sym b) p.starts')) in
      let q = every-run J t s shape start in
      let hit : T (hits J j s t) =
      subst T (sym (joined-hits s t j l))
      (subst (λ (z : Run). T (allowed c z t && allowed d (second_run c s) t && not (beq (value_at c z t (get_or c.outputs j 0)) (value_at d (second_run c s) t (get_or d.outputs j 0)))))
      (sym e)
      (subst (λ (z : Run). T (allowed c r t && allowed d z t && not (beq (value_at c r t (get_or c.outputs j 0)) (value_at d z t (get_or d.outputs j 0))))) (sym f)
      (and (allowed c r t && allowed d r' t) (not (beq (value_at c r t (get_or c.outputs j 0)) (value_at d r' t (get_or d.outputs j 0))))
      (and (allowed c r t) (allowed d r' t) p.allows p.allows') (unequal-in (value_at c r t (get_or c.outputs j 0)) (value_at d r' t (get_or d.outputs j 0)) p.differ)))) in
      (q.0, q.1, subst T (sym (reaches-hits J j t q.0 ∙ ap (λ (z : Run). hits J j z t) q.2)) hit)

  -- ---- what a search of the joined circuit says

  -- no runs of frame t part the outputs j
  abbrev Alike : ℕ → ℕ → Type 0
  Alike j t = (r r' : Run) → Parting c d j t r r' → ⊥

  -- found t: t is the first frame in which allowed runs part the outputs j, and the witness shows such runs
  pub found-parts : {j k t : ℕ} → j < length c.outputs → Found (question (joined c d) j) k t
      → (s : Run) × (first_witness (joined c d) j t ≡ witness j s) × Parting c d j t (first_run c s) (second_run c s)
      × ((u : ℕ) → u < t → (r r' : Run) → Parting c d j u r r' → ⊥)
  found-parts {j} {k} {t} l f =
      (run J t f.place, first-witness J j t f.place f.first, hit-parts j t f.place l f.first.hit, before)
    where
      before : (u : ℕ) → u < t → Alike j u
      before u h r r' p = let q = parting-hits j u r r' l p in f.quiet u h q.0 (omega arith) q.1 q.2

  -- none k: no allowed runs part the outputs j in frames 0 to k
  pub none-parts : {j k i : ℕ} → j < length c.outputs → None (question (joined c d) j) k i
      → (u : ℕ) → u ≤ k → (r r' : Run) → Parting c d j u r r' → ⊥
  none-parts {j} l n u h r r' p = let q = parting-hits j u r r' l p in n.quiet u (omega arith) q.0 (omega arith) q.1 q.2

-- a circuit joined with itself never parts where no start is free
pub self-same : (c : Circuit) → free_starts c ≡ 0 → (j t : ℕ) (r r' : Run) → Parting c c j t r r' → ⊥
unfolding free_starts
self-same c n j t r r' p =
    let e = one-start c.latches r.start r'.start n p.shaped.start p.shaped'.start p.starts p.starts' in
    let f : r ≡ r' = λ i. record { start = e i; rows = p.rows i } in
    p.differ (ap (λ (z : Run). value_at c z t (get_or c.outputs j 0)) f)
