-- The circuit in which every latch has a free start: load accepts it where it accepts the circuit, its runs have the same values, and its
-- sequences are those of the space with every latch free, so that the second question of a circuit is a question about the runs of that
-- one. Clause 12.15. Assumes nothing.
use mathlib.Core.Path.{◌≡◌, refl, sym, ap, ap₂, ◌∙◌, subst}
use mathlib.Core.Bool.{Bool, true, false, not, cond, ◌&&◌, ◌||◌}
use mathlib.Core.List.{List, [], ◌∷◌, ◌++◌, map}
use Prim.Native.Nat.{ℕ, zero, suc, ◌+◌, ◌*◌, ◌^◌, ◌≤◌, ◌<◌}
use native.Mathlib.Omega.{arith}
use borrow.Author.Tests.{eq-eqb}
use lib.Dec.{T, leb, eqb}
use lib.ListN.{length, get_or, length-map}
use Rattle.aiger.specs.Lists.{every, every_below, all, distinct, tally, from, upto, member}
use Rattle.aiger.specs.Bits.{odd}
use Rattle.aiger.specs.Circuit.{Circuit, Latch, var, defined, used, literal_tests, literals_right, used_defined, acyclic}
use Rattle.aiger.specs.File.{counts_fit, header_of}
use Rattle.aiger.specs.Load.{needed}
use Rattle.aiger.specs.Frames.{Run, Space, space, value, through, look, leaf, frame, state, value_at, constrained, allowed, hits, is_free, free_starts, starts, free_bits, run, run_in, bits_in, size}
use Rattle.aiger.specs.Search.{Question}
use Rattle.aiger.specs.Witness.{agrees}
use Rattle.aiger.proofs.Tests.{and, T_true, true-T, all-at, all_hold, every_true}
use Rattle.meaning.proofs.Lists.{every-mapped, or_left, or_right}
use Rattle.roundtrip.proofs.LoadWrite.{Valid}
use Rattle.never_search.specs.Runs.{hits_alone, freed_space, reaches_alone, alone_question, freed_latch, freed}

-- ---- lists of freed latches

map-freed : {A : Type 0} (f g : Latch → A) → ((l : Latch) → f (freed_latch l) ≡ g l) → (ls : List Latch) → map f (map freed_latch ls) ≡ map g ls
map-freed f g e [] = refl
map-freed f g e (l ∷ ls) = ap₂ ◌∷◌ (e l) (map-freed f g e ls)

is_free_lem : (l : Latch) → is_free (freed_latch l) ≡ true
is_free_lem l = eq-eqb l.lit l.lit refl

tally-freed : (ls : List Latch) → tally is_free (map freed_latch ls) ≡ length ls
tally-freed [] = refl
tally-freed (l ∷ ls) = ap₂ (λ (b : Bool) (n : ℕ). cond b 1 0 + n) (is_free_lem l) (tally-freed ls) ∙ omega arith

starts-freed : (f : ℕ → Bool) (j : ℕ) (ls : List Latch) → starts f j (map freed_latch ls) ≡ map f (from j (length ls))
unfolding starts
starts-freed f j [] = refl
starts-freed f j (l ∷ ls) =
    let e : j + 1 ≡ suc j = omega arith in
    ap (λ (b : Bool). cond b (f j ∷ starts f (j + 1) (map freed_latch ls)) (eqb l.lit 1 ∷ starts f j (map freed_latch ls))) (is_free_lem l)
    ∙ ap (λ (z : List Bool). f j ∷ z) (starts-freed f (j + 1) ls ∙ ap (λ (i : ℕ). map f (from i (length ls))) e)

agrees-freed : (ls : List Latch) (bs : List Bool) → length bs ≡ length ls → T (agrees (map freed_latch ls) bs)
unfolding agrees
agrees-freed [] bs e = tt
agrees-freed (l ∷ ls) [] e = absurd (omega arith)
agrees-freed (l ∷ ls) (b ∷ bs) e =
    let free = is_free (freed_latch l) in
    let reset = eqb l.lit (cond b 1 0) in
    and (free || reset) (agrees (map freed_latch ls) bs) (or_left free reset (T_true (is_free_lem l))) (agrees-freed ls bs (omega arith))

module _ (c : Circuit) where
  -- ---- the sequences

  pub freed-starts : free_starts (freed c) ≡ length c.latches
  unfolding free_starts freed
  freed-starts = tally-freed c.latches

  -- the space of the freed circuit is that of c with every latch free
  pub freed-space : space (freed c) ≡ freed_space c (space c)
  unfolding freed
  freed-space =
      λ i. record {
        free = freed-starts i;
        width = length c.inputs;
        start_of = λ f. starts-freed f 0 c.latches i;
        row_of = λ f. map f (upto (length c.inputs));
      }

  pub freed-bits : (t : ℕ) → free_bits (freed c) t ≡ bits_in (freed_space c (space c)) t
  unfolding free_bits
  freed-bits t = ap (λ (s : Space). bits_in s t) freed-space

  pub freed-run : (t x : ℕ) → run (freed c) t x ≡ run_in (freed_space c (space c)) t x
  unfolding run
  freed-run t x = ap (λ (s : Space). run_in s t x) freed-space

  -- Clause 12.15: its size is that of c with L in place of U
  pub freed-size : (k : ℕ)
      → size (freed c) k ≡ (k + 1) * (length c.inputs + length c.gates + length c.constraints + 1) + length c.latches + 1
  unfolding size freed
  freed-size k =
      ap (λ (u : ℕ). (k + 1) * (length c.inputs + length c.gates + length c.constraints + 1) + u + 1) freed-starts

  -- ---- the runs

  frame-freed : (st row : List Bool) → frame (freed c) st row ≡ frame c st row
  unfolding frame leaf freed
  frame-freed st row =
      ap (λ (ls : List ℕ). through c.gates (λ v. look c.inputs row v (look ls st v false)) (length c.gates))
      (map-freed (λ l. l.lit) (λ l. l.lit) (λ l. refl) c.latches)

  pub freed-state : (r : Run) (t : ℕ) → state (freed c) r t ≡ state c r t
  unfolding state freed
  freed-state r zero = refl
  freed-state r (suc t) =
      map-freed (λ l. value (frame (freed c) (state (freed c) r t) (get_or r.rows t [])) l.next)
      (λ l. value (frame (freed c) (state (freed c) r t) (get_or r.rows t [])) l.next) (λ l. refl) c.latches
      ∙ ap (λ (w : ℕ → Bool). map (λ l. value w l.next) c.latches)
      (frame-freed (state (freed c) r t) (get_or r.rows t []) ∙ ap (λ (st : List Bool). frame c st (get_or r.rows t [])) (freed-state r t))

  pub freed-value : (r : Run) (t l : ℕ) → value_at (freed c) r t l ≡ value_at c r t l
  unfolding value_at
  freed-value r t l =
      ap (λ (w : ℕ → Bool). value w l)
      (frame-freed (state (freed c) r t) (get_or r.rows t []) ∙ ap (λ (st : List Bool). frame c st (get_or r.rows t [])) (freed-state r t))

  values : (r : Run) → ◌≡◌ {A = ℕ → ℕ → Bool} (value_at (freed c) r) (value_at c r)
  values r = λ i t l. freed-value r t l i

  -- a run hits in the one where it hits in the other
  pub freed-hits : (b : ℕ) (r : Run) (t : ℕ) → hits (freed c) b r t ≡ hits c b r t
  unfolding hits allowed constrained freed
  freed-hits b r t =
      ap (λ (v : ℕ → ℕ → Bool). every_below (suc t) (λ u. every (v u) c.constraints) && v t (get_or c.bads b 0)) (values r)

  pub freed-alone : (b : ℕ) (r : Run) (t : ℕ) → hits_alone (freed c) b r t ≡ hits_alone c b r t
  unfolding hits_alone freed
  freed-alone b r t =
      ap₂ (λ (x y : Bool). x && y) (freed-hits b r t) (ap (λ (v : ℕ → ℕ → Bool). every_below t (λ u. not (v u (get_or c.bads b 0)))) (values r))

  freed-reaches : (b t x : ℕ) → reaches_alone (space (freed c)) (freed c) b t x ≡ reaches_alone (freed_space c (space c)) c b t x
  unfolding reaches_alone
  freed-reaches b t x = freed-alone b (run_in (space (freed c)) t x) t ∙ ap (λ (s : Space). hits_alone c b (run_in s t x) t) freed-space

  -- the second question of c is the question about the runs of the freed circuit
  pub freed-question : (b : ℕ) → alone_question (space (freed c)) (freed c) b ≡ alone_question (freed_space c (space c)) c b
  freed-question b = λ i. record { places = λ t. 2 ^ bits_in (freed-space i) t; hitting = λ t x. freed-reaches b t x i }

  -- any start agrees with the resets of the freed circuit
  pub freed-agrees : (bs : List Bool) → length bs ≡ length c.latches → T (agrees (freed c).latches bs)
  unfolding freed
  freed-agrees bs e = agrees-freed c.latches bs e

  -- ---- load accepts it

  defined-freed : defined (freed c) ≡ defined c
  unfolding defined freed
  defined-freed =
      ap (λ (ls : List ℕ). c.inputs ++ ls ++ map (λ g. g.lit) c.gates) (map-freed (λ l. l.lit) (λ l. l.lit) (λ l. refl) c.latches)

  used-freed : used (freed c) ≡ used c
  unfolding used freed
  used-freed =
      ap (λ (ls : List ℕ).
      ls ++ c.outputs ++ c.bads ++ c.constraints ++ map (λ g. g.left) c.gates ++ map (λ g. g.right) c.gates)
      (map-freed (λ l. l.next) (λ l. l.next) (λ l. refl) c.latches)

  freed-right : T (literals_right c) → T (literals_right (freed c))
  unfolding literals_right freed
  freed-right r =
      let p : ℕ → Bool = λ l. leb l (2 * c.max_var + 1) in
      let q : ℕ → Bool = λ l. leb 2 l && not (odd l) in
      all_hold (literal_tests (freed c))
      ((
        subst (λ (z : List ℕ). T (every p z)) (sym (ap₂ (λ (x y : List ℕ). x ++ y) defined-freed used-freed)) (all-at (literal_tests c) r 0),
        (
          subst (λ (z : List ℕ). T (every q z)) (sym defined-freed) (all-at (literal_tests c) r 1),
          (subst (λ (z : List ℕ). T (distinct z)) (sym defined-freed) (all-at (literal_tests c) r 2), (resets, tt)),
        ),
      ))
    where
      resets : T (every (λ l. leb l.reset 1 || eqb l.reset l.lit) (map freed_latch c.latches))
      resets =
          every-mapped (λ l. leb l.reset 1 || eqb l.reset l.lit) freed_latch c.latches
          (every_true (λ l. leb l.lit 1 || eqb l.lit l.lit) c.latches
          (λ l. or_right (leb l.lit 1) (eqb l.lit l.lit) (T_true (is_free_lem l))))

  freed-known : used_defined (freed c) ≡ used_defined c
  unfolding used_defined
  freed-known = ap₂ (λ (x y : List ℕ). every (λ l. member (var l) (0 ∷ map var x)) y) defined-freed used-freed

  freed-acyclic : acyclic (freed c) ≡ acyclic c
  unfolding acyclic freed
  freed-acyclic = refl

  freed-fit : counts_fit (header_of (freed c)) ≡ counts_fit (header_of c)
  unfolding freed
  freed-fit =
      ap (λ (n : ℕ). counts_fit (record {
        M = c.max_var;
        I = length c.inputs;
        L = n;
        O = length c.outputs;
        A = length c.gates;
        B = length c.bads;
        C = length c.constraints;
        J = 0;
        F = 0;
      })) (length-map c.latches freed_latch)

  freed-top : (freed c).max_var ≡ c.max_var
  unfolding freed
  freed-top = refl

  -- load accepts the freed circuit where it accepts c
  pub freed-valid : {room : ℕ} → Valid room c → Valid room (freed c)
  freed-valid {room} v =
      record {
        fit = freed-fit ∙ v.fit;
        held = subst (λ (m : ℕ). needed m ≤ room) (sym freed-top) v.held;
        literals = true-T (literals_right (freed c)) (freed-right (T_true v.literals));
        uses = freed-known ∙ v.uses;
        order = freed-acyclic ∙ v.order;
      }
