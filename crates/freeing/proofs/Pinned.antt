-- The second question under pins: never excludes every hit that obeys them, and the question is one about the runs of the circuit that is
-- pinned and freed. Clause 12.14. Assumes nothing.
use mathlib.Core.Path.{◌≡◌, refl, sym, ap, ap₂, ◌∙◌, subst}
use mathlib.Core.Bool.{Bool, not, ◌&&◌}
use mathlib.Core.List.{List, [], ◌∷◌, map}
use Prim.Native.Nat.{ℕ, ◌+◌, ◌^◌, ◌≤◌, ◌<◌}
use native.Mathlib.Omega.{arith}
use lib.Dec.{T}
use lib.ListN.{length, get_or}
use Rattle.aiger.specs.Lists.{every_below}
use Rattle.aiger.specs.Circuit.{Circuit, Latch, literals_right, used_defined, acyclic}
use Rattle.aiger.specs.Frames.{Run, Space, space, value_at, hits, free_starts, starts, free_bits, run, run_in, bits_in}
use Rattle.aiger.specs.Search.{Question, reaches_in}
use Rattle.aiger.proofs.Tests.{T_true, below-same}
use Rattle.meaning.proofs.Sequences.{starts-same, length-starts}
use Rattle.roundtrip.proofs.LoadWrite.{Valid}
use Rattle.pins.specs.Pins.{fill, free_inputs, kept, tied, tied_latch, tied_gate, pinned, pinned_space}
use Rattle.pins.proofs.Inputs.{fill-eq}
use Rattle.pins.proofs.Values.{Fills, pinned-hits, pinned-bad}
use Rattle.pins.proofs.Questions.{free-bits, run-fills}
use Rattle.never_search.specs.Runs.{hits_alone, freed_space, reaches_alone, alone_question, freed_latch, freed}
use Rattle.never_search.specs.Depth.{Verdict, depth_question, permitted_at}
use Rattle.never_search.proofs.Windows.{Local}
use Rattle.never_search.proofs.Freed.{freed-space, freed-alone, freed-valid}
use Rattle.never_search.proofs.Answers.{never-fires}

-- the sequences that obey pins depend on their own free bits alone
pub pinned-local : (c : Circuit) (q : ℕ → ℕ) → Local c (pinned_space c q)
unfolding free_starts free_inputs
pinned-local c q =
    record {
      start = λ f g h. starts-same f g 0 c.latches (λ j l. h j (omega arith));
      row = λ f g h. fill-eq q f g (length c.inputs) 0 0 (λ k l. h (0 + k) (omega arith));
      latches = λ f. length-starts f 0 c.latches;
    }

-- Clause 12.14: where never is answered under pins, no sequence that obeys them hits at any frame, however late
pub never-pinned : (c : Circuit) (q : ℕ → ℕ) (b k D j : ℕ) → T (permitted_at (depth_question c (pinned_space c q) b k) k D (Verdict.never j))
    → (t x : ℕ) → x < 2 ^ bits_in (pinned_space c q) t → T (reaches_in (pinned_space c q) c b t x) → ⊥
never-pinned c q b k D j h t x l r = never-fires c (pinned_space c q) b k (pinned-local c q) D j h t x l r

-- ---- the pinned circuit

module _ (c : Circuit) (q : ℕ → ℕ) (right : T (literals_right c)) (known : T (used_defined c)) (a : T (acyclic c)) (b : ℕ) (inside : b < length c.bads) where
  -- a run of the pinned circuit hits in its last frame alone where the filled run of c does
  alone-fills : (t : ℕ) (r s : Run) → Fills c q t r s → hits_alone (pinned c q) b r t ≡ hits_alone c b s t
  unfolding hits_alone
  alone-fills t r s f =
      ap₂ (λ (x y : Bool). x && y) (pinned-hits c q right known a t r s f b inside)
      (below-same t (λ u. not (value_at (pinned c q) r u (get_or (pinned c q).bads b 0))) (λ u. not (value_at c s u (get_or c.bads b 0)))
      (λ u l. ap not (pinned-bad c q right known a u r s (record { start = f.start; row = λ v h. f.row v (omega arith) }) b inside)))

  alone-reaches : (t x : ℕ) → reaches_alone (space (pinned c q)) (pinned c q) b t x ≡ reaches_alone (pinned_space c q) c b t x
  unfolding reaches_alone run
  alone-reaches t x = alone-fills t (run (pinned c q) t x) (run_in (pinned_space c q) t x) (run-fills c q t x)

  alone-question : alone_question (space (pinned c q)) (pinned c q) b ≡ alone_question (pinned_space c q) c b
  unfolding free_bits
  alone-question = λ i. record { places = λ t. 2 ^ free-bits c q t i; hitting = λ t x. alone-reaches t x i }

-- ---- pinned and freed

swapped : (q : ℕ → ℕ) (is : List ℕ) (ls : List Latch) → map freed_latch (map (tied_latch q is) ls) ≡ map (tied_latch q is) (map freed_latch ls)
swapped q is [] = refl
swapped q is (l ∷ ls) = ap (λ (z : List Latch). freed_latch (tied_latch q is l) ∷ z) (swapped q is ls)

module _ (c : Circuit) (q : ℕ → ℕ) where
  -- the order does not matter
  pub freed-pinned : freed (pinned c q) ≡ pinned (freed c) q
  unfolding freed pinned
  freed-pinned =
      λ i. record {
        max_var = c.max_var;
        inputs = kept q 0 c.inputs;
        latches = swapped q c.inputs c.latches i;
        outputs = map (tied q c.inputs) c.outputs;
        bads = map (tied q c.inputs) c.bads;
        constraints = map (tied q c.inputs) c.constraints;
        gates = map (tied_gate q c.inputs) c.gates;
      }

  pinned-space : pinned_space (freed c) q ≡ freed_space c (pinned_space c q)
  unfolding freed
  pinned-space =
      λ i. record {
        free = ap (λ (s : Space). s.free) (freed-space c) i;
        width = free_inputs q (length c.inputs);
        start_of = λ f. ap (λ (s : Space). s.start_of f) (freed-space c) i;
        row_of = λ f. fill q f 0 0 (length c.inputs);
      }

  freed-reaches : (b t x : ℕ) → reaches_alone (pinned_space (freed c) q) (freed c) b t x ≡ reaches_alone (freed_space c (pinned_space c q)) c b t x
  unfolding reaches_alone
  freed-reaches b t x =
      freed-alone c b (run_in (pinned_space (freed c) q) t x) t ∙ ap (λ (s : Space). hits_alone c b (run_in s t x) t) pinned-space

  freed-asked : (b : ℕ) → alone_question (pinned_space (freed c) q) (freed c) b ≡ alone_question (freed_space c (pinned_space c q)) c b
  freed-asked b = λ i. record { places = λ t. 2 ^ bits_in (pinned-space i) t; hitting = λ t x. freed-reaches b t x i }

  -- the second question of c under pins is the question about the runs of the circuit that is pinned and freed
  pub second-pinned : {room : ℕ} → Valid room c → (b : ℕ) → b < length c.bads
      → alone_question (space (freed (pinned c q))) (freed (pinned c q)) b ≡ alone_question (freed_space c (pinned_space c q)) c b
  unfolding freed
  second-pinned v b inside =
      let w = freed-valid c v in
      ap (λ (d : Circuit). alone_question (space d) d b) freed-pinned
      ∙ alone-question (freed c) q (T_true w.literals) (T_true w.uses) (T_true w.order) b inside
      ∙ freed-asked b
