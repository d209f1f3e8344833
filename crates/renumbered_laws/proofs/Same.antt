-- The renumbered circuit has the runs, hits and permitted answers of the first one. Clause 12.1. Assumes nothing.
use mathlib.Core.Path.{◌≡◌, refl, sym, ap, ap₂, ◌∙◌, subst}
use mathlib.Core.Bool.{Bool, true, false, cond, ◌&&◌, ◌||◌}
use mathlib.Core.List.{List, [], ◌∷◌, map}
use mathlib.Core.Logic.{◌⊎◌, inl, inr, ⊎_elim}
use mathlib.Core.Option.{Option, none, some}
use Prim.Native.Nat.{ℕ, zero, suc, ◌+◌, ◌*◌, ◌/◌, ◌%◌, ◌^◌, ◌≤◌, ◌<◌}
use native.Mathlib.Omega.{arith}
use borrow.Author.Tests.{eq-eqb, ne_eqb}
use lib.Dec.{T, leb, ltb, eqb, leb→le, eqb→eq}
use lib.ListN.{length, get_or, length-map, get_or-map}
use Rattle.aiger.specs.Lists.{every, every_below, tally, upto}
use Rattle.aiger.specs.Circuit.{Circuit, Latch, Gate, var, literal_tests, literals_right, used_defined, acyclic}
use Rattle.aiger.specs.Frames.{
  Run,
  Space,
  value,
  value_at,
  constrained,
  allowed,
  hits,
  is_free,
  free_starts,
  starts,
  space,
  bits_in,
  run_in,
  free_bits,
  run,
}
use Rattle.aiger.specs.Search.{Question, Outcome, first_at, permitted_of, reaches_in, reaches, question, permitted, first_witness}
use Rattle.aiger.specs.Witness.{witness}
use Rattle.aiger.proofs.Tests.{T_true, or_cases, all-at}
use Rattle.meaning.proofs.Lists.{every-at, every-under}
use Rattle.meaning.proofs.Defined.{
  Known,
  no_latch,
  input_at,
  latch_at,
  gate_at,
  definition,
  latch-in,
  bad-known,
  constraint-known,
  output-known,
}
use Rattle.meaning.proofs.Embedding.{Embeds, SameOperands, embedded-value}
use Rattle.roundtrip.proofs.LoadWrite.{Valid}
use Rattle.joined.specs.Joined.{literal_under, latch_under, gate_under}
use Rattle.parting.proofs.Starts.{Numbered, start_under}
use Rattle.renumbered.specs.Renumbered.{numbering, new_number, sorted, renumbered}
use Rattle.renumbered_laws.proofs.Numbers.{number-zero, number-latch, order-has, order-length}
use Rattle.renumbered_laws.proofs.Accepted.{
  sorted-lit,
  inputs-length,
  latches-length,
  gates-length,
  input-at,
  latch-at,
  gate-at,
  renumbered-valid,
}

-- ---- start values

module _ (σ : ℕ → ℕ) (z : σ 0 ≡ 0) where
  tally-under : (ls : List Latch) → ((j : ℕ) → j < length ls → Numbered σ (get_or ls j no_latch)) → tally is_free
      (map (latch_under σ) ls) ≡ tally is_free ls
  tally-under [] g = refl
  tally-under (l ∷ ls) g =
      ap₂ (λ (b : Bool) (n : ℕ). cond b 1 0 + n) (start_under σ z l (g 0 (omega arith))).0
      (tally-under ls (λ j h. g (suc j) (omega arith)))

  starts-under : (f : ℕ → Bool) (j : ℕ) (ls : List Latch) → ((i : ℕ) → i < length ls → Numbered σ (get_or ls i no_latch))
      → starts f j (map (latch_under σ) ls) ≡ starts f j ls
  unfolding starts
  starts-under f j [] g = refl
  starts-under f j (l ∷ ls) g =
      let s = start_under σ z l (g 0 (omega arith)) in
      go (is_free l) (λ e. ap (λ (x : ℕ). eqb x 1) (s.1 e)) (starts-under f (j + 1) ls (λ i h. g (suc i) (omega arith)))
      (starts-under f j ls (λ i h. g (suc i) (omega arith)))
      (ap
      (λ (b : Bool). cond b (f j ∷ starts f (j + 1) (map (latch_under σ) ls))
      (eqb (latch_under σ l).reset 1 ∷ starts f j (map (latch_under σ) ls))) s.0)
    where
      go : (b : Bool) → (b ≡ false → eqb (latch_under σ l).reset 1 ≡ eqb l.reset 1) → starts f (j + 1)
          (map (latch_under σ) ls) ≡ starts f (j + 1) ls
          → starts f j (map (latch_under σ) ls) ≡ starts f j ls → {xs : List Bool}
          → xs ≡ cond b (f j ∷ starts f (j + 1) (map (latch_under σ) ls))
          (eqb (latch_under σ l).reset 1 ∷ starts f j (map (latch_under σ) ls))
          → xs ≡ cond b (f j ∷ starts f (j + 1) ls) (eqb l.reset 1 ∷ starts f j ls)
      go true r p q e = e ∙ ap (λ (ys : List Bool). f j ∷ ys) p
      go false r p q e = e ∙ ap₂ (λ (x : Bool) (ys : List Bool). x ∷ ys) (r refl) q

module _ {room : ℕ} {c : Circuit} (valid : Valid room c) where
  abbrev σ : ℕ → ℕ
  σ = new_number c

  right : T (literals_right c)
  right = T_true valid.literals

  known : T (used_defined c)
  known = T_true valid.uses

  -- ---- the same sequences

  latches-numbered : (j : ℕ) → j < length c.latches → Numbered (new_number c) (latch_at c j)
  unfolding literals_right
  latches-numbered j h =
      record {
        own = (definition c right (latch_at c j).lit (latch-in c j h)).0;
        number = omega (arith, number-latch valid j h);
        reset = every-at (λ (x : Latch). leb x.reset 1 || eqb x.reset x.lit) c.latches j no_latch h
            (all-at (literal_tests c) right 3);
      }

  -- the space of sequences is the same
  pub same-space : space (renumbered c) ≡ space c
  unfolding renumbered free_starts
  same-space =
      let w = length-map c.inputs (literal_under σ) in
      let n = tally-under σ (number-zero valid) c.latches latches-numbered in
      let s : (f : ℕ → Bool) → starts f 0 (map (latch_under σ) c.latches) ≡ starts f 0 c.latches =
      λ f. starts-under σ (number-zero valid) f 0 c.latches latches-numbered in
      λ i. record { free = n i; width = w i; start_of = λ f. s f i; row_of = λ f. map f (upto (w i)) }

  pub same_bits : (t : ℕ) → free_bits (renumbered c) t ≡ free_bits c t
  unfolding free_bits
  same_bits t = ap (λ (s : Space). bits_in s t) same-space

  -- each sequence has the same run
  pub same-run : (t x : ℕ) → run (renumbered c) t x ≡ run c t x
  unfolding run
  same-run t x = ap (λ (s : Space). run_in s t x) same-space

  -- ---- the same values

  pub embeds : Embeds c (renumbered c) (new_number c) (λ i. i) (λ j. j)
  embeds =
      record {
        zero = number-zero valid;
        input = λ i h. (omega (arith, inputs-length valid), ap var (input-at valid i h) ∙ under-var (input_at c i));
        latch = λ j h. (
          omega (arith, latches-length valid),
          ap (λ (l : Latch). var l.lit) (latch-at valid j h) ∙ under-var
              (latch_at c j).lit,
        );
        next = λ j h. ap (λ (l : Latch). l.next) (latch-at valid j h);
        gate = λ i h.
            let r = order-has valid i h in
            let k : r.0 < length c.gates = omega (arith, r.1, order-length valid) in
            let e : gate_at (renumbered c) r.0 ≡ sorted (gate_under σ (gate_at c i)) =
            gate-at valid r.0 k ∙ ap (λ (x : ℕ). sorted (gate_under σ (gate_at c x))) r.2 in (
              r.0,
              omega (arith, k, gates-length valid),
              ap (λ (g : Gate). var g.lit) e ∙ ap var (sorted-lit (gate_under σ (gate_at c i))) ∙ under-var (gate_at c i).lit,
              subst (λ (g : Gate). SameOperands σ (gate_at c i) g) (sym e) (either (gate_at c i)),
            );
      }
    where
      under-var : (l : ℕ) → var (literal_under (new_number c) l) ≡ new_number c (var l)
      under-var l = omega arith

      either : (g : Gate) → SameOperands (new_number c) g (sorted (gate_under (new_number c) g))
      either g = go (ltb (literal_under σ g.left) (literal_under σ g.right))
        where
          go : (b : Bool) → SameOperands (new_number c) g
              (cond b (record {
                lit = literal_under (new_number c) g.lit;
                left = literal_under (new_number c)
                    g.right;
                right = literal_under (new_number c) g.left;
              })
              (gate_under (new_number c) g))
          go true = inr (refl, refl)
          go false = inl (refl, refl)

  -- on the same inputs from the same start a literal has the value that it has, renumbered, in the renumbered circuit
  pub same-value : (r : Run) (t l : ℕ) → Known c (var l) → value_at (renumbered c) r t (literal_under (new_number c) l) ≡ value_at c r t l
  same-value r t l k =
      let v = renumbered-valid valid in
      sym
      (embedded-value c (renumbered c) σ (λ i. i) (λ j. j) embeds right known (T_true valid.order) (T_true v.literals)
      (T_true v.order) r r
      (λ j h. refl) (λ u i h. refl) t l k)

  -- a line of outputs, bad lines or constraints, by its number
  line_at : (ls : List ℕ) (i : ℕ) → get_or (map (literal_under (new_number c)) ls) i 0 ≡ literal_under (new_number c) (get_or ls i 0)
  line_at ls i =
      let e : literal_under σ 0 ≡ 0 = omega (arith, number-zero valid) in
      ap (λ (x : ℕ). get_or (map (literal_under σ) ls) i x) (sym e) ∙ get_or-map (literal_under σ) ls i 0

  pub same-output : (r : Run) (t i : ℕ) → value_at (renumbered c) r t (get_or (renumbered c).outputs i 0) ≡ value_at c r t
      (get_or c.outputs i 0)
  unfolding renumbered
  same-output r t i = ap (value_at (renumbered c) r t) (line_at c.outputs i) ∙ same-value r t (get_or c.outputs i 0)
      (output-known c known i)

  pub same-bad : (r : Run) (t b : ℕ) → value_at (renumbered c) r t (get_or (renumbered c).bads b 0) ≡ value_at c r t (get_or c.bads b 0)
  unfolding renumbered
  same-bad r t b = ap (value_at (renumbered c) r t) (line_at c.bads b) ∙ same-value r t (get_or c.bads b 0) (bad-known c known b)

  same-constrained : (r : Run) (t : ℕ) → constrained (renumbered c) r t ≡ constrained c r t
  unfolding constrained renumbered
  same-constrained r t =
      every-under (value_at (renumbered c) r t) (value_at c r t) (literal_under σ) c.constraints
      (λ i h. same-value r t (get_or c.constraints i 0) (constraint-known c known i))

  pub same-allowed : (r : Run) (t : ℕ) → allowed (renumbered c) r t ≡ allowed c r t
  unfolding allowed
  same-allowed r t = ap (every_below (suc t)) (λ i u. same-constrained r u i)

  -- ---- the same hits and answers

  pub same-hits : (b : ℕ) (r : Run) (t : ℕ) → hits (renumbered c) b r t ≡ hits c b r t
  unfolding hits
  same-hits b r t = ap₂ (λ (x y : Bool). x && y) (same-allowed r t) (same-bad r t b)

  pub same-reaches : (b t x : ℕ) → reaches (renumbered c) b t x ≡ reaches c b t x
  unfolding reaches reaches_in
  same-reaches b t x = same-hits b (run_in (space (renumbered c)) t x) t ∙ ap (λ (s : Space). hits c b (run_in s t x) t) same-space

  pub same-question : (b : ℕ) → question (renumbered c) b ≡ question c b
  same-question b = λ i. record { places = λ t. 2 ^ same_bits t i; hitting = λ t x. same-reaches b t x i }

  -- a search may answer the same of both circuits, for every bad line, bound and budget
  pub same-permitted : (b k D : ℕ) (o : Outcome) → permitted (renumbered c) b k D o ≡ permitted c b k D o
  same-permitted b k D o = ap (λ (q : Question). permitted_of q k D o) (same-question b)

  -- and found shows the same witness
  pub same-witness : (b t : ℕ) → first_witness (renumbered c) b t ≡ first_witness c b t
  unfolding first_witness
  same-witness b t =
      ap₂ (λ (q : Question) (f : ℕ → Run). elim (first_at q t) [ Option.some x ↦ witness b (f x) | Option.none ↦ [] ]) (same-question b)
      (λ i x. same-run t x i)
