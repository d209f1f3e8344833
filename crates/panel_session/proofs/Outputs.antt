-- What the output held before a call does not matter. Assumes nothing.
use mathlib.Core.Path.{◌≡◌, refl, sym, ap, ◌∙◌, subst}
use mathlib.Core.Bool.{Bool, true, false}
use mathlib.Core.List.{List, [], ◌∷◌, ◌++◌}
use mathlib.Core.Option.{Option, none, some}
use Prim.Native.Nat.{ℕ, ◌+◌, ◌-◌, ◌≤◌, ◌<◌}
use native.Mathlib.Omega.{arith}
use borrow.Author.Tests.{eq-eqb}
use lib.Dec.{T, leb}
use lib.ListN.{length, take, drop, length-append, length-take}
use Rattle.aiger.specs.Lists.{upto}
use Rattle.aiger.specs.Circuit.{Circuit}
use Rattle.aiger.specs.Frames.{run_in}
use Rattle.aiger.specs.Load.{Answer, refused, gives}
use Rattle.aiger.specs.Memory.{Holds}
use Rattle.aiger.specs.Search.{Outcome, Report, first_at, permitted_of}
use Rattle.aiger.specs.Witness.{witness, witness_length}
use Rattle.aiger.specs.Write.{write}
use Rattle.aiger.specs.Operations.{Operated, Test, need, judge, front, Written, search_tests, shown_length, fold_tests}
use Rattle.aiger.proofs.Tests.{T_true}
use Rattle.meaning.proofs.Decisions.{first-from}
use Rattle.meaning.proofs.Outcomes.{found-out}
use Rattle.roundtrip.proofs.Holding.{held}
use Rattle.roundtrip.proofs.Lists.{upto-length, every_made}
use Rattle.roundtrip.proofs.Witness.{Shaped, wide, witness-length, run-shaped}
use Rattle.completions.specs.Either.{read_either, widened}
use Rattle.completions.proofs.Widening.{widened-wider}
use Rattle.pins.specs.Pins.{pins_of, pinned, pinned_space, pinned_question, pinned_witness}
use Rattle.pins.proofs.Inputs.{length-fill}
use Rattle.pins.proofs.Questions.{run-fills}
use Rattle.pins.proofs.Valid.{pinned-counts}
use Rattle.pinned_runs.specs.Obeys.{pinned_shows, pinned_widened_text}
use Rattle.pinning.specs.Operations.{PinnedSearchEffect, pinned_shown}
use Rattle.pinning.specs.FromPlace.{pinned_text_at, PinnedPlaceEffect}
use Rattle.place_search.specs.Places.{Placed, outcome_of}
use Rattle.place_search.specs.Operation.{place_tests, text_of}
use Rattle.place_search.proofs.Searches.{shown-as}
use Rattle.place_decision.specs.Reach.{place_chosen}
use Rattle.call_forms.specs.Forms.{Tested, UserSearched, UserSearchedFrom, UserFolded, UserWritten, UserWidened, UserWaveformed, UserGenerated}
use Rattle.writer.specs.Forms.{InForm}
use Rattle.generated.specs.Generated.{generated_text, generate_tests, Generated}
use Rattle.renumbered.specs.Renumbered.{write_binary, WrittenBinary}
use Rattle.waveform.specs.Waveform.{waveform_of, waveform_tests}
use Rattle.completions.specs.Operations.{widen_tests}
use Rattle.widen.proofs.Headings.{headed}
use Rattle.widen.proofs.Theorems.{read-heading}
use Rattle.search.specs.Chosen as Search
use Rattle.fold.specs.Chosen as Fold
use Rattle.job.specs.Replies.{told_length}
use Rattle.panel.specs.Answers.{text_length}

-- a text was written at the front of the output, and would be so whatever the output held
pub record Told (out out₀ out' : List ℕ) (n : ℕ) (P : List ℕ → Type 0) : Type 0 where
  pub text : List ℕ
  pub long : n ≡ length text
  pub left : out' ≡ front text out
  pub again : P (front text out₀)

-- nothing was written
none_told : {out out₀ : List ℕ} {n : ℕ} {P : List ℕ → Type 0} → n ≡ 0 → P out₀ → Told out out₀ out n P
none_told e p = record { text = []; long = e; left = refl; again = p }

module _ {A : Type 0} {m out out₀ : List ℕ} {tests tests₀ : Circuit → List Test} (long : Answer A → ℕ) (zero-long : (n : ℕ) → long (refused n) ≡ 0)
    (same : (c : Circuit) → tests c ≡ tests₀ c) where
  -- an operation that is lent the output alone
  pub operated-told : {effect effect₀ : Circuit → A → List ℕ → Type 0}
      → ((c : Circuit) → Holds m c → judge (tests c) ≡ gives tt → (a : A) (s : List ℕ) → effect c a s → Told out out₀ s (long (gives a)) (effect₀ c a))
      → {a : Answer A} {s : List ℕ} → Operated m tests out effect a s → Told out out₀ s (long a) (Operated m tests₀ out₀ effect₀ a)
  operated-told f (Operated.no_circuit h) = none_told (zero-long 9) (Operated.no_circuit h)
  operated-told f (Operated.refuses c {n = n} h j) = none_told (zero-long n) (Operated.refuses c h (ap judge (sym (same c)) ∙ j))
  operated-told f (Operated.acts c {a = a} {s = s} h j e) =
      let t = f c h j a s e in
      record { text = t.text; long = t.long; left = t.left; again = Operated.acts c h (ap judge (sym (same c)) ∙ j) t.again }

  -- one that is lent working memory and the output
  pub operated-told-beside : {w : List ℕ} {effect effect₀ : Circuit → A → List ℕ × List ℕ → Type 0}
      → ((c : Circuit) → Holds m c → judge (tests c) ≡ gives tt → (a : A) (w' s : List ℕ) → effect c a (w', s)
      → Told out out₀ s (long (gives a)) (λ (o : List ℕ). effect₀ c a (w', o)))
      → {a : Answer A} {w' s : List ℕ} → Operated m tests (w, out) effect a (w', s)
      → Told out out₀ s (long a) (λ (o : List ℕ). Operated m tests₀ (w, out₀) effect₀ a (w', o))
  operated-told-beside f (Operated.no_circuit h) = none_told (zero-long 9) (Operated.no_circuit h)
  operated-told-beside f (Operated.refuses c {n = n} h j) = none_told (zero-long n) (Operated.refuses c h (ap judge (sym (same c)) ∙ j))
  operated-told-beside f (Operated.acts c {a = a} {s = s} h j e) =
      let t = f c h j a s.0 s.1 e in
      record { text = t.text; long = t.long; left = t.left; again = Operated.acts c h (ap judge (sym (same c)) ∙ j) t.again }

module _ {A : Type 0} {first : List Test} {out out₀ : List ℕ} (long : Answer A → ℕ) (zero-long : (n : ℕ) → long (refused n) ≡ 0) where
  pub for-told : {P P₀ : Answer A → List ℕ → Type 0} → ((a : Answer A) (s : List ℕ) → P a s → Told out out₀ s (long a) (P₀ a))
      → {a : Answer A} {s : List ℕ} → Tested first out P a s → Told out out₀ s (long a) (Tested first out₀ P₀ a)
  for-told f (Tested.refuses {n = n} h) = none_told (zero-long n) (Tested.refuses h)
  for-told f (Tested.passes {a = a} {s = s} h p) =
      let t = f a s p in
      record { text = t.text; long = t.long; left = t.left; again = Tested.passes h t.again }

  pub for-told-beside : {w : List ℕ} {P P₀ : Answer A → List ℕ × List ℕ → Type 0}
      → ((a : Answer A) (w' s : List ℕ) → P a (w', s) → Told out out₀ s (long a) (λ (o : List ℕ). P₀ a (w', o)))
      → {a : Answer A} {w' s : List ℕ} → Tested first (w, out) P a (w', s)
      → Told out out₀ s (long a) (λ (o : List ℕ). Tested first (w, out₀) P₀ a (w', o))
  for-told-beside f (Tested.refuses {n = n} h) = none_told (zero-long n) (Tested.refuses h)
  for-told-beside f (Tested.passes {a = a} {s = s} h p) =
      let t = f a s.0 s.1 p in
      record { text = t.text; long = t.long; left = t.left; again = Tested.passes h t.again }

-- ---- operations that write a text and answer its length

text-told : {m out out₀ s : List ℕ} {a : Answer ℕ} → length out ≡ length out₀ → Written m out a s → Told out out₀ s (text_length a) (Written m out₀ a)
text-told e p =
    operated-told text_length (λ n. refl) (λ c. ap (λ (n : ℕ). need 13 (leb (length (write c)) n) ∷ []) e)
    (λ c h j n s f. record { text = write c; long = f.count; left = f.shows; again = record { count = f.count; shows = refl } }) p

binary-told : {m out out₀ s : List ℕ} {a : Answer ℕ} → length out ≡ length out₀ → WrittenBinary m out a s
    → Told out out₀ s (text_length a) (WrittenBinary m out₀ a)
binary-told e p =
    operated-told text_length (λ n. refl) (λ c. ap (λ (n : ℕ). need 13 (leb (length (write_binary c)) n) ∷ []) e)
    (λ c h j n s f. record { text = write_binary c; long = f.count; left = f.shows; again = record { count = f.count; shows = refl } }) p

form-told : (form : ℕ) {m out out₀ : List ℕ} → length out ≡ length out₀ → (a : Answer ℕ) (s : List ℕ) → InForm form m out a s
    → Told out out₀ s (text_length a) (InForm form m out₀ a)
form-told form e a s (InForm.text z p) =
    let t = text-told e p in
    record { text = t.text; long = t.long; left = t.left; again = InForm.text z t.again }
form-told form e a s (InForm.binary z p) =
    let t = binary-told e p in
    record { text = t.text; long = t.long; left = t.left; again = InForm.binary z t.again }

pub write-told : (user form : ℕ) {m out out₀ out' : List ℕ} {a : Answer ℕ} → length out ≡ length out₀ → UserWritten m user form out a out'
    → Told out out₀ out' (text_length a) (UserWritten m user form out₀ a)
write-told user form e x = for-told text_length (λ n. refl) (form-told form e) x

pub waveform-told : (user : ℕ) {m witness out out₀ out' : List ℕ} {only : Bool} {a : Answer ℕ} → length out ≡ length out₀
    → UserWaveformed m user only witness out a out' → Told out out₀ out' (text_length a) (UserWaveformed m user only witness out₀ a)
waveform-told user {witness = witness} {out = out} {out₀ = out₀} {only = only} e x =
    for-told text_length (λ n. refl)
    (λ a s p.
    operated-told text_length (λ n. refl) (λ c. ap (λ (n : ℕ). waveform_tests c only witness n) e)
    (λ c h j n s f.
    record { text = waveform_of c only (read_either c witness); long = f.count; left = f.shows; again = record { count = f.count; shows = refl } }) p)
    x

-- a generated circuit
generated-told : {seed i l g : ℕ} {out out₀ out' : List ℕ} {a : Answer ℕ} → length out ≡ length out₀ → Generated seed i l g out a out'
    → Told out out₀ out' (text_length a) (Generated seed i l g out₀ a)
generated-told {seed} {i} {l} {g} e (Generated.refuses j) =
    none_told refl (Generated.refuses (ap (λ (n : ℕ). judge (generate_tests seed i l g n)) (sym e) ∙ j))
generated-told {seed} {i} {l} {g} e (Generated.writes j) =
    record {
      text = generated_text seed i l g;
      long = refl;
      left = refl;
      again = Generated.writes (ap (λ (n : ℕ). judge (generate_tests seed i l g n)) (sym e) ∙ j);
    }

pub generate-told : (user : ℕ) {seed i l g : ℕ} {out out₀ out' : List ℕ} {a : Answer ℕ} → length out ≡ length out₀ → UserGenerated user seed i l g out a out'
    → Told out out₀ out' (text_length a) (UserGenerated user seed i l g out₀ a)
generate-told user e x = for-told text_length (λ n. refl) (λ a s p. generated-told e p) x

-- a widened witness is as long as the witness
widened-long : (c : Circuit) (q : ℕ → ℕ) (witness : List ℕ) (b : ℕ) (body : List ℕ) → read_either c witness ≡ some (b, body)
    → length witness ≡ length (pinned_widened_text c q witness (b, body))
unfolding pinned_widened_text
widened-long c q witness b body r =
    let H = headed witness b body (read-heading c witness (b, body) r) in
    let z : length witness ≡ length H.lines + length body = ap length H.text-is ∙ length-append H.lines body in
    sym (length-append (take (length witness - length body) witness) (widened (pinned_shows c q b) body)
    ∙ omega (arith, length-take (length witness - length body) witness, z, (widened-wider (pinned_shows c q b) body).size))

pub widen-told : (pins : List ℕ) (user : ℕ) {m witness out out₀ out' : List ℕ} {a : Answer ℕ} → length out ≡ length out₀
    → UserWidened m pins user witness out a out' → Told out out₀ out' (text_length a) (UserWidened m pins user witness out₀ a)
widen-told pins user {witness = witness} {out = out} {out₀ = out₀} e x =
    for-told text_length (λ n. refl)
    (λ a s p.
    operated-told text_length (λ n. refl) (λ c. ap (λ (n : ℕ). widen_tests c witness n) e)
    (λ c h j n s f.
    record {
      text = pinned_widened_text c (pins_of pins user) witness (f.bad, f.body);
      long = f.count ∙ widened-long c (pins_of pins user) witness f.bad f.body f.reads;
      left = f.writes;
      again = record { bad = f.bad; body = f.body; reads = f.reads; count = f.count; writes = refl };
    }) p)
    x

pub fold-told : (pins : List ℕ) (user : ℕ) {m w w' out out₀ out' : List ℕ} {b t : ℕ} {a : Answer ℕ} → length out ≡ length out₀
    → UserFolded Fold.chosen m pins user b t w out a w' out'
    → Told out out₀ out' (text_length a) (λ (o : List ℕ). UserFolded Fold.chosen m pins user b t w out₀ a w' o)
fold-told pins user {w = w} {out = out} {out₀ = out₀} {b = b} {t = t} e x =
    for-told-beside text_length (λ n. refl)
    (λ a w' s p.
    operated-told-beside text_length (λ n. refl) (λ c. ap (λ (n : ℕ). fold_tests c b t (length w) n) e)
    (λ c h j n w' s f.
    record {
      text = write (Fold.chosen (pinned c (pins_of pins user)) b t);
      long = f.count;
      left = f.shows;
      again = record { permitted = f.permitted; short = f.short; count = f.count; shows = refl };
    }) p)
    x

-- ---- search

module _ (c : Circuit) (q : ℕ → ℕ) where
  shaped : (t x : ℕ) → Shaped c t (run_in (pinned_space c q) t x)
  shaped t x =
      let n = length c.inputs in
      record {
        start = ap length (run-fills c q t x).start ∙ (run-shaped (pinned c q) t x).start ∙ (pinned-counts c q).latches;
        frames = upto-length _ (t + 1);
        inputs = every_made (wide n) _ (λ u. T_true (eq-eqb _ n (length-fill q _ n 0 0))) (upto (t + 1));
      }

  -- the length of the witness of the first hit
  witness-long : (b k D t : ℕ) → T (permitted_of (pinned_question c q b) k D (Outcome.found t)) → witness_length c b t ≡ length (pinned_witness c q b t)
  unfolding pinned_witness
  witness-long b k D t h =
      let f = found-out (pinned_question c q b) k D t h in
      let x = f.place in
      let some : first_at (pinned_question c q b) t ≡ Option.some x = first-from ((pinned_question c q b).hitting t) f.first in
      sym (witness-length c b t (run_in (pinned_space c q) t x) (shaped t x))
      ∙ sym (ap (λ (o : Option ℕ). length {A = ℕ} (elim o [ Option.some y ↦ witness b (run_in (pinned_space c q) t y) | Option.none ↦ [] ])) some)

  -- what an outcome shows, as a text
  abbrev shown_text : ℕ → Outcome → List ℕ
  shown_text b (Outcome.found t) = pinned_witness c q b t
  shown_text b (Outcome.none k) = []
  shown_text b (Outcome.spent t) = []

  shown-text : (b : ℕ) (o : Outcome) (out : List ℕ) → pinned_shown c q b o out ≡ front (shown_text b o) out
  shown-text b (Outcome.found t) out = refl
  shown-text b (Outcome.none k) out = refl
  shown-text b (Outcome.spent t) out = refl

  text-long : (b k D : ℕ) (o : Outcome) → T (permitted_of (pinned_question c q b) k D o) → shown_length c b o ≡ length (shown_text b o)
  text-long b k D (Outcome.found t) h = witness-long b k D t h
  text-long b k D (Outcome.none n) h = refl
  text-long b k D (Outcome.spent t) h = refl

  report-told : {out out₀ s : List ℕ} (w : List ℕ) (b k D : ℕ) (o : Report) → PinnedSearchEffect Search.chosen q b k D out c o (w, s)
      → Told out out₀ s o.length (λ (z : List ℕ). PinnedSearchEffect Search.chosen q b k D out₀ c o (w, z))
  report-told {out = out} {out₀ = out₀} w b k D o f =
      record {
        text = shown_text b o.outcome;
        long = f.measured ∙ text-long b k D o.outcome f.allowed;
        left = f.shows ∙ shown-text b o.outcome out;
        again = record {
          chose = f.chose;
          allowed = f.allowed;
          measured = f.measured;
          never = f.never;
          told = f.told;
          shows = sym (shown-text b o.outcome out₀);
        };
      }

  -- from a place
  placed-long : (b t : ℕ) (a : Placed) → shown_length c b (outcome_of t a) ≡ length (text_of (pinned_text_at c q b t) a)
  placed-long b t (Placed.hit x) = sym (witness-length c b t (run_in (pinned_space c q) t x) (shaped t x))
  placed-long b t Placed.clear = refl
  placed-long b t (Placed.spent R) = refl

  placed-told : {out out₀ s : List ℕ} (w : List ℕ) (b t place D : ℕ) (o : Report) → PinnedPlaceEffect place_chosen q b t place D out c o (w, s)
      → Told out out₀ s o.length (λ (z : List ℕ). PinnedPlaceEffect place_chosen q b t place D out₀ c o (w, z))
  placed-told {out = out} {out₀ = out₀} w b t place D o f =
      let a = place_chosen (pinned c q) b t place D in
      record {
        text = text_of (pinned_text_at c q b t) a;
        long = ap (λ (r : Report). r.length) f.chose ∙ placed-long b t a;
        left = f.shows ∙ shown-as (pinned_text_at c q b t) a out;
        again = record { chose = f.chose; allowed = f.allowed; shows = sym (shown-as (pinned_text_at c q b t) a out₀) };
      }

pub search-told : (pins : List ℕ) (user : ℕ) {m w w' out out₀ out' : List ℕ} {b k D : ℕ} {a : Answer Report} → length out ≡ length out₀
    → UserSearched Search.chosen m pins user b k D w out a w' out'
    → Told out out₀ out' (told_length a) (λ (o : List ℕ). UserSearched Search.chosen m pins user b k D w out₀ a w' o)
search-told pins user {w = w} {out = out} {out₀ = out₀} {b = b} {k = k} {D = D} e x =
    for-told-beside told_length (λ n. refl)
    (λ a w' s p.
    operated-told-beside told_length (λ n. refl) (λ c. ap (λ (n : ℕ). search_tests c b k D (length w) n) e)
    (λ c h j o w' s f. report-told c (pins_of pins user) w' b k D o f) p)
    x

pub from_told : (pins : List ℕ) (user : ℕ) {m w w' out out₀ out' : List ℕ} {b t place D : ℕ} {a : Answer Report} → length out ≡ length out₀
    → UserSearchedFrom place_chosen m pins user b t place D w out a w' out'
    → Told out out₀ out' (told_length a) (λ (o : List ℕ). UserSearchedFrom place_chosen m pins user b t place D w out₀ a w' o)
from_told pins user {w = w} {out = out} {out₀ = out₀} {b = b} {t = t} {place = place} {D = D} e x =
    for-told-beside told_length (λ n. refl)
    (λ a w' s p.
    operated-told-beside told_length (λ n. refl) (λ c. ap (λ (n : ℕ). place_tests (pinned c (pins_of pins user)) c b t place D (length w) n) e)
    (λ c h j o w' s f. placed-told c (pins_of pins user) w' b t place D o f) p)
    x
