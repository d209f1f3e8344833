-- Where none of a circuit's inputs is held, search and fold under the pins are the operations without pins. Clause 12.7. Assumes nothing.
use mathlib.Core.Path.{◌≡◌, refl, sym, ap, ◌∙◌, subst}
use mathlib.Core.Bool.{Bool, true, false, not, cond, ◌&&◌}
use mathlib.Core.List.{List}
use Prim.Native.Nat.{ℕ, suc, ◌+◌, ◌*◌, ◌^◌, ◌≤◌, ◌<◌}
use native.Mathlib.Numerals.{add-one}
use native.Mathlib.Omega.{arith}
use borrow.Author.Tests.{lt-ltb, le-ltb, le-leb, lt-leb, leb-true}
use lib.Dec.{T, leb}
use lib.ListN.{length}
use Rattle.aiger.specs.Lists.{every_below}
use Rattle.aiger.specs.Circuit.{Circuit}
use Rattle.aiger.specs.Load.{Answer}
use Rattle.aiger.specs.Memory.{Holds}
use Rattle.aiger.specs.Frames.{Space, bits_in, free_bits, run}
use Rattle.aiger.specs.Search.{Outcome, Report, NeverOf, Question, question, reaches, reaches_in, permitted_of, reached_right}
use Rattle.aiger.specs.Operations.{Test, Operated, SearchEffect, Searched, FoldEffect, Folded, shown, front}
use Rattle.aiger.proofs.Tests.{T_true, false_of, below_at}
use Rattle.meaning.proofs.Lists.{length-map-upto}
use Rattle.layout.specs.Words.{word, circuit_in}
use Rattle.roundtrip.proofs.LoadWrite.{counts-fit}
use Rattle.roundtrip.proofs.Holding.{held, held-valid}
use Rattle.pins.specs.Pins.{is_held, pinned, pinned_question}
use Rattle.pins.proofs.Questions.{AllFree, pinned-free, space-free, witness-free}
use Rattle.pinning.specs.Free.{none_held, inputs_said}
use Rattle.pinning.proofs.Tables.{get_d_past}
use Rattle.pinning.specs.Operations.{PinnedSearchEffect, PinnedSearched, PinnedFolded, pinned_report, pinned_shown}

-- ---- how many inputs the words say

pub said-none : (m : List ℕ) → length m < 2 → 0 ≡ inputs_said m
said-none m h = sym (ap (λ (n : ℕ). cond (leb n 256) n 256) (get_d_past m 1 0 (omega (arith, h))))

pub said-some : (m : List ℕ) → word m 1 ≤ 256 → word m 1 ≡ inputs_said m
said-some m h = sym (ap (λ (b : Bool). cond b (word m 1) 256) (le-leb (word m 1) 256 h))

pub said_more : (m : List ℕ) → 256 < word m 1 → 256 ≡ inputs_said m
said_more m h = sym (ap (λ (b : Bool). cond b (word m 1) 256) (lt-leb (word m 1) 256 h))

pub said-few : (m : List ℕ) → inputs_said m ≤ 256
said-few m = go (leb (word m 1) 256) refl
  where
    go : (b : Bool) → leb (word m 1) 256 ≡ b → cond b (word m 1) 256 ≤ 256
    go true e = leb-true (word m 1) 256 e
    go false e = omega arith

-- ---- the test, input by input

pub none-start : (q : ℕ → ℕ) → none_held q 0 ≡ true
unfolding none_held
none-start q = refl

pub none_more : (q : ℕ → ℕ) (i : ℕ) → none_held q i ≡ true → 2 ≤ q i → none_held q (i + 1) ≡ true
unfolding none_held
none_more q i e h = ap (none_held q) (add-one i) ∙ rw (e, le-ltb (q i) 2 h) refl

pub one-held : (q : ℕ → ℕ) (i n : ℕ) → i < n → q i < 2 → none_held q n ≡ false
unfolding none_held
one-held q i n l h =
    false_of (none_held q n) (λ t. subst (λ (b : Bool). T (not b)) (lt-ltb (q i) 2 h) (below_at n (λ j. not (is_held (q j))) t i l))

not-held : (b : Bool) → T (not b) → b ≡ false
not-held true t = absurd t
not-held false t = refl

-- the words say how many inputs the circuit has
inputs-said : {m : List ℕ} {c : Circuit} → Holds m c → inputs_said m ≡ length c.inputs
unfolding circuit_in
inputs-said {m} {c} h =
    let e : word m 1 ≡ length c.inputs = sym (length-map-upto (λ i. word m (7 + 1 * i)) (word m 1)) ∙ ap (λ (d : Circuit). length d.inputs) (held h) in
    sym (said-some m (omega (arith, e, (counts-fit c (held-valid h).fit).inputs))) ∙ e

-- the test answers yes of the circuit that the memory holds
pub held-free : (q : ℕ → ℕ) {m : List ℕ} → none_held q (inputs_said m) ≡ true → (c : Circuit) → Holds m c → AllFree q 0 (length c.inputs)
unfolding none_held
held-free q {m} e c h k _ l =
    let n = length c.inputs in
    not-held (is_held (q k)) (below_at n (λ j. not (is_held (q j))) (T_true (sym (ap (none_held q) (inputs-said h)) ∙ e)) k (omega (arith, l)))

-- ---- the operations

-- an operation whose effect on the circuit in memory is another's is that other
operated-as : {A S : Type 0} {m : List ℕ} {tests : Circuit → List Test} {lent : S} {E F : Circuit → A → S → Type 0}
    → ((c : Circuit) → Holds m c → (a : A) (s : S) → E c a s → F c a s) → {x : Answer A} {s : S} → Operated m tests lent E x s
    → Operated m tests lent F x s
operated-as f (Operated.no_circuit h) = Operated.no_circuit h
operated-as f (Operated.refuses c h j) = Operated.refuses c h j
operated-as f (Operated.acts c {a = a} {s = s} h j e) = Operated.acts c h j (f c h a s e)

module _ (q : ℕ → ℕ) (c : Circuit) (free : AllFree q 0 (length c.inputs)) where
  question-free : (b : ℕ) → pinned_question c q b ≡ question c b
  unfolding free_bits reaches run
  question-free b = ap (λ (s : Space). record { places = λ t. 2 ^ bits_in s t; hitting = reaches_in s c b }) (space-free q c free)

  shown-free : (b : ℕ) (o : Outcome) (out : List ℕ) → pinned_shown c q b o out ≡ shown c b o out
  shown-free b (Outcome.found t) out = ap (λ (w : List ℕ). front w out) (witness-free q c b t free)
  shown-free b (Outcome.none k) out = refl
  shown-free b (Outcome.spent t) out = refl

module _ (q : ℕ → ℕ) {m : List ℕ} (free : (c : Circuit) → Holds m c → AllFree q 0 (length c.inputs)) where
  -- where what is chosen of a circuit has the length of the circuit's witness
  module _ {chosen : Circuit → ℕ → ℕ → ℕ → Report} {b k D : ℕ} {w w' out out' : List ℕ} {a : Answer Report}
      (exact : (c : Circuit) (b k D : ℕ) → pinned_report c b (chosen c b k D) ≡ chosen c b k D) where
    pub searched-plain : PinnedSearched chosen m q b k D w out a (w', out') → Searched chosen m b k D w out a w' out'
    searched-plain =
        operated-as (λ c h o l e. record {
          chose = e.chose ∙ ap (λ (d : Circuit). pinned_report c b (chosen d b k D)) (pinned-free q c (free c h)) ∙ exact c b k D;
          allowed = subst (λ (z : Question). T (permitted_of z k D o.outcome)) (question-free q c (free c h) b) e.allowed;
          measured = e.measured;
          never = subst (λ (z : Question). NeverOf z k o) (question-free q c (free c h) b) e.never;
          told = subst (λ (z : Question). T (reached_right z D o.outcome o.reached)) (question-free q c (free c h) b) e.told;
          shows = e.shows ∙ shown-free q c (free c h) b o.outcome out;
        })

    pub plain-searched : Searched chosen m b k D w out a w' out' → PinnedSearched chosen m q b k D w out a (w', out')
    plain-searched =
        operated-as (λ c h o l e. record {
          chose = e.chose ∙ sym (exact c b k D) ∙ ap (λ (d : Circuit). pinned_report c b (chosen d b k D)) (sym (pinned-free q c (free c h)));
          allowed = subst (λ (z : Question). T (permitted_of z k D o.outcome)) (sym (question-free q c (free c h) b)) e.allowed;
          measured = e.measured;
          never = subst (λ (z : Question). NeverOf z k o) (sym (question-free q c (free c h) b)) e.never;
          told = subst (λ (z : Question). T (reached_right z D o.outcome o.reached)) (sym (question-free q c (free c h) b)) e.told;
          shows = e.shows ∙ sym (shown-free q c (free c h) b o.outcome out);
        })

  module _ {chosen : Circuit → ℕ → ℕ → Circuit} {b t : ℕ} {w w' out out' : List ℕ} {a : Answer ℕ} where
    pub folded-plain : PinnedFolded chosen m q b t w out a (w', out') → Folded chosen m b t w out a w' out'
    folded-plain = operated-as (λ c h n l e. subst (λ (d : Circuit). FoldEffect chosen b t out d n l) (pinned-free q c (free c h)) e)

    pub plain-folded : Folded chosen m b t w out a w' out' → PinnedFolded chosen m q b t w out a (w', out')
    plain-folded = operated-as (λ c h n l e. subst (λ (d : Circuit). FoldEffect chosen b t out d n l) (sym (pinned-free q c (free c h))) e)
