-- All that is claimed, in one record: the three demands and what the requests add, each field proved by a theorem of the crates below. That
-- every call stays within what was lent, that nothing wraps and that every call returns is what the check of each function shows; the
-- contracts that the fields speak of are those of the operations, in the specs of aiger, completions, joined, renumbered, waveform, load,
-- history and generated. Assumes nothing.
use mathlib.Core.Path.{◌≡◌, refl, sym, ap, ◌∙◌, subst}
use mathlib.Core.Bool.{Bool, true, false, cond}
use mathlib.Core.List.{List, [], ◌∷◌, Memᴰ, map}
use mathlib.Core.Option.{some}
use mathlib.Core.Logic.{◌⊎◌}
use Prim.Native.Nat.{ℕ, suc, ◌+◌, ◌-◌, ◌*◌, ◌≤◌, ◌<◌, ◌^◌}
use native.Mathlib.Omega.{arith}
use lib.Dec.{T}
use lib.ListN.{length, get_or, take}
use Rattle.aiger.specs.Circuit.{Circuit, var, literals_right, used_defined, acyclic}
use Rattle.aiger.specs.Frames.{Run, value, value_at, hits, run, free_bits, free_starts}
use Rattle.aiger.specs.File.{is_binary}
use Rattle.aiger.specs.Load.{Answer, refused, gives, load, load_text, needed}
use Rattle.aiger.specs.Search.{Outcome, Report, question, reaches, first_witness, permitted, permitted_of, reached_right}
use Rattle.aiger.specs.Witness.{Witness, agrees, witness, read_witness}
use Rattle.aiger.specs.Write.{count_row, write}
use Rattle.aiger.specs.Memory.{Holds, image}
use Rattle.aiger.specs.Fold.{folds, value_on, output}
use Rattle.aiger.specs.Operations.{front, HoldsNone, Loaded, Test, judge, Operated, Searched, Folded, Replayed, Written}
use Rattle.completions.specs.Either.{Verdict, shows, read_either}
use Rattle.completions.specs.Operations.{EitherReplayed, Widened}
use Rattle.completions.specs.Forms.{Completes}
use Rattle.meaning.proofs.Defined.{Known}
use Rattle.meaning.proofs.Runs.{Satisfies, run-determined, run-satisfies}
use Rattle.meaning.proofs.Sequences.{Shaped, every-run, run-same}
use Rattle.meaning.proofs.Outcomes.{Decided, Found, None, Spent, Quiet}
use Rattle.meaning.proofs.Values.{frame_at}
use Rattle.roundtrip.proofs.LoadValid.{gives_same}
use Rattle.roundtrip.proofs.Holding.{held-valid, load_again}
use Rattle.roundtrip.proofs.Folds.{folded-output}
use Rattle.roundtrip.proofs.Determined.{OneText, loaded-same, acted, refused_as}
use Rattle.aiger.proofs.Forms.{load-text}
use Rattle.numbering.proofs.Reading.{binary-causes}
use Rattle.load.specs.Answers.{answered}
use Rattle.load.specs.Preview.{Previewed}
use Rattle.load.specs.declared.Judgement.{Judgement}
use Rattle.load.proofs.Previews.{preview-load}
use Rattle.pins.specs.Pins.{pins_of, pinned, pinned_question}
use Rattle.pinning.specs.Operations.{PinnedSearched}
use Rattle.pinning.specs.FromPlace.{PinnedSearchedFrom}
use Rattle.place_search.specs.Places.{frame_alone, outcome_of}
use Rattle.place_search.proofs.Searches.{SearchChain, SearchRanges, WroteAlike}
use Rattle.place_decision.specs.Reach.{place_chosen}
use Rattle.pinned_search_from.proofs.Theorems.{AskedUnder}
use Rattle.pinned_search_from.proofs.Theorems as from
use Rattle.place_search.proofs.Answers.{Reached}
use Rattle.pinned_search.proofs.More.{Stays}
use Rattle.call_forms.specs.Forms.{UserSearched}
use Rattle.call_forms.specs.History.{State, Event, History, Same}
use Rattle.history.specs.Concerning.{concerning}
use Rattle.history.proofs.Undisturbed.{undisturbed, apart}
use Rattle.history.proofs.Budgets.{user-budget-kept, user-found-kept, user-none-kept}
use Rattle.panel_session.specs.Session.{Files, Exchange, Session, SessionOf, Totals, start}
use Rattle.panel_session.specs.Session as sessions
use Rattle.panel_session.proofs.Undisturbed as panel
use Rattle.panel_session.proofs.Undisturbed.{Apart}
use Rattle.panel_session.proofs.Start.{start-empty, start-free, loop-apart, loop-undisturbed}
use Rattle.fold.specs.Chosen as folding
use Rattle.joined.specs.Joined.{literal_under, joined, join_tests, JoinedInto}
use Rattle.parting.proofs.Parted.{first_run, second_run}
use Rattle.parting.proofs.Theorems.{Parting, found-parts, none-parts, self-same}
use Rattle.parting.proofs.Contract.{join-without, join-refused, join-accepted, join-loads}
use Rattle.renumbered.specs.Renumbered.{new_number, renumbered, WrittenBinary}
use Rattle.layout.specs.Words.{word}
use Rattle.writer.specs.Forms.{WrittenIn}
use Rattle.writer.proofs.Forms.{form-text, text-form, form-binary, binary-form, other-form, write_same}
use Rattle.writer.proofs.RoundTrip as writer
use Rattle.renumbered_laws.proofs.Same.{same-run, same-value, same-output, same-hits, same-permitted, same-witness}
use Rattle.search.specs.Chosen.{chosen}
use Rattle.replay.proofs.Theorems.{Hit, either_same, all-is-yes, all-hits, no-hits}
use Rattle.widen.proofs.Theorems.{made, widened_same, widened-all, widened-copied, widened_twice}
use Rattle.search.proofs.Theorems.{
  found-only,
  found-length,
  none_only,
  never-only,
  spent-only,
  reached-only,
  reached-nothing,
  memory-same,
  budget-kept,
  found-kept,
  none_kept,
}
use Rattle.vcd.specs.Text.{Level}
use Rattle.waveform.specs.Waveform.{level_at, frame_count, waveform_of, Waveformed}
use Rattle.waveform_laws.proofs.Own.{own-input, own-latch}
use Rattle.waveform_laws.proofs.Theorems.{waveformed-same, never-short, run_text, waveform-plain, bad_wire, all_shown}
use Rattle.search.proofs.Constraints.{question_alone, witness-allowed, permitted-alone}
use Rattle.generated.specs.Generated.{generated, generated_text, counts_permitted, Generated, Permitted}
use Rattle.generated.proofs.Theorems as drawn
use Rattle.generated.proofs.Theorems.{generated-kept, generated-same, generated-loaded, same_bytes}

pub record Correct : Type 1 where
  -- ---- Demand 1: bad input gets its number, in the table's order, and changes nothing; input with no such cause is never refused.

  -- load answers one thing and leaves one memory
  pub load-determined : {m f m₁ m₂ : List ℕ} {a b : Answer (List ℕ)} → Loaded m f a m₁ → Loaded m f b m₂ → (a ≡ b) × (m₁ ≡ m₂)
  -- a refused load has the cause of its number, and leaves the memory as it was
  pub load-refused : {m f m' : List ℕ} {n : ℕ} → Loaded m f (refused n) m' → (load (length m) f ≡ refused n) × (m' ≡ m)
  -- a file without a cause is loaded: the counts are answered, the circuit's words stand at the front, and the others are as they were
  pub load-accepted : {m f m' : List ℕ} {a : Answer (List ℕ)} {c : Circuit} → Loaded m f a m' → load (length m) f ≡ gives c
      → (a ≡ gives (c.max_var ∷ count_row c)) × (m' ≡ front (image c) m)
  -- every other operation: 9 exactly where the memory holds no circuit, and then nothing is changed
  pub no-circuit : {A S : Type 0} {m : List ℕ} {tests : Circuit → List Test} {lent s : S} {effect : Circuit → A → S → Type 0} {x : Answer A} → HoldsNone m
      → Operated m tests lent effect x s → (x ≡ refused 9) × (s ≡ lent)
  -- a refusal has the number of the first test that fails, and changes nothing
  pub first-cause : {A S : Type 0} {m : List ℕ} {tests : Circuit → List Test} {lent s : S} {effect : Circuit → A → S → Type 0} {n : ℕ} {c : Circuit} → Holds m c
      → Operated m tests lent effect (refused n) s → (judge (tests c) ≡ refused n) × (s ≡ lent)
  -- where no test fails the operation is not refused, and has its effect
  pub never-refused : {A S : Type 0} {m : List ℕ} {tests : Circuit → List Test} {lent s : S} {effect : Circuit → A → S → Type 0} {x : Answer A} {c : Circuit} → Holds m c
      → judge (tests c) ≡ gives tt → Operated m tests lent effect x s → (a : A) × (x ≡ gives a) × effect c a s
  -- ---- Demand 2: files are read, evaluated and written as AIGER says; what is written is read back; a folded frame has the hit's value.

  -- the values of literals in a run satisfy the equations of AIGER, and are the only ones that do
  pub run-values : (c : Circuit) → T (literals_right c) → T (used_defined c) → T (acyclic c) → (r : Run) (t : ℕ)
      → Satisfies c r t (frame_at c r)
      × ((w : ℕ → ℕ → Bool) → Satisfies c r t w → (u : ℕ) → u ≤ t → (l : ℕ) → Known c (var l) → value (w u) l ≡ value_at c r u l)
  -- each run that starts as the resets say is the run of a sequence
  pub sequences-all : (c : Circuit) (t : ℕ) (r : Run) → Shaped c t r → T (agrees c.latches r.start) → (x : ℕ) × (x < 2 ^ free_bits c t) × (run c t x ≡ r)
  -- and two sequences have two runs
  pub sequences-apart : (c : Circuit) (t x y : ℕ) → x < 2 ^ free_bits c t → y < 2 ^ free_bits c t → run c t x ≡ run c t y → x ≡ y
  -- a loaded circuit, written, is read back as the same circuit
  pub written_back : (room : ℕ) (f : List ℕ) {c : Circuit} → load room f ≡ gives c → load room (write c) ≡ gives c
  -- fold writes the text of one circuit, the same whatever the memories held, which obeys the rules of folded frames: `folds` lists them
  pub folded-text : {m w out w' out' : List ℕ} {c : Circuit} {b t n : ℕ} → Holds m c → Folded folding.chosen m b t w out (gives n) w' out'
      → T (folds c b t (folding.chosen c b t)) × (n ≡ length (write (folding.chosen c b t))) × (out' ≡ front (write (folding.chosen c b t)) out)
  -- and its output has, for every value of the free bits, the value of the hit in the file's circuit
  pub folded-value : {m w out w' out' : List ℕ} {c : Circuit} {b t n : ℕ} → Holds m c → Folded folding.chosen m b t w out (gives n) w' out'
      → (x : ℕ) → x < 2 ^ free_bits c t → value_on (folding.chosen c b t) (free_bits c t) x (output (folding.chosen c b t)) ≡ reaches c b t x
  -- join: 9 where either memory holds no circuit, and then the third memory is as it was
  pub join-no-circuit : {m₁ m₂ m m' : List ℕ} {x : Answer (List ℕ)} → HoldsNone m₁ ⊎ HoldsNone m₂ → JoinedInto m₁ m₂ m x m' → (x ≡ refused 9) × (m' ≡ m)
  -- a refused join has the number of the first of the tests 17, 3 and 4 that fails, and leaves the third memory as it was
  pub join-first-cause : {m₁ m₂ m m' : List ℕ} {c d : Circuit} {n : ℕ} → Holds m₁ c → Holds m₂ d → JoinedInto m₁ m₂ m (refused n) m'
      → (judge (join_tests c d (length m)) ≡ refused n) × (m' ≡ m)
  -- where none of them fails it is not refused: the counts of the joined circuit, its words at the front, the others as they were
  pub join-never-refused : {m₁ m₂ m m' : List ℕ} {c d : Circuit} {x : Answer (List ℕ)} → Holds m₁ c → Holds m₂ d → judge (join_tests c d (length m)) ≡ gives tt
      → JoinedInto m₁ m₂ m x m' → (x ≡ gives ((joined c d).max_var ∷ count_row (joined c d))) × (m' ≡ front (image (joined c d)) m)
  -- and this is what a load of the joined circuit's text answers and leaves
  pub join-is-load : {m₁ m₂ m m' a : List ℕ} {c d : Circuit} → Holds m₁ c → Holds m₂ d → JoinedInto m₁ m₂ m (gives a) m'
      → Loaded m (write (joined c d)) (gives a) m' × Holds m' (joined c d)
  -- a search of a joined circuit that says found t for bad line j shows runs of both circuits on the same inputs, allowed at frame t, whose
  -- outputs j differ there; and there are none before frame t
  pub join-found : {m₁ m₂ m m' a w out w' out' : List ℕ} {c d : Circuit} {j k D t : ℕ} {r : Report} → Holds m₁ c → Holds m₂ d → JoinedInto m₁ m₂ m (gives a) m'
      → j < length c.outputs → Searched chosen m' j k D w out (gives r) w' out' → r.outcome ≡ Outcome.found t
      → (s : Run) × (out' ≡ front (witness j s) out) × Parting c d j t (first_run c s) (second_run c s) × ((u : ℕ) → u < t → (r r' : Run) → Parting c d j u r r' → ⊥)
  -- one that says none k shows that there are no such runs in frames 0 to k
  pub join-none : {m₁ m₂ m m' a w out w' out' : List ℕ} {c d : Circuit} {j k D i : ℕ} {r : Report} → Holds m₁ c → Holds m₂ d → JoinedInto m₁ m₂ m (gives a) m'
      → j < length c.outputs → Searched chosen m' j k D w out (gives r) w' out' → r.outcome ≡ Outcome.none i → (u : ℕ) → u ≤ k
      → (s s' : Run) → Parting c d j u s s' → ⊥
  -- a circuit without a free start never parts from itself
  pub join-self : (c : Circuit) → free_starts c ≡ 0 → (j t : ℕ) (r r' : Run) → Parting c c j t r r' → ⊥
  -- ---- Demand 3: a search that is not refused says found, none or spent exactly as permitted, whatever the memories held before.

  -- found: the first frame with a hit, and the witness of its first hit in counting order at the front of the output
  pub says-found : {m w out w' out' : List ℕ} {c : Circuit} {b k D t : ℕ} {r : Report} → Holds m c → Searched chosen m b k D w out (gives r) w' out'
      → r.outcome ≡ Outcome.found t → Found (question c b) k t × (out' ≡ front (first_witness c b t) out)
  -- with the length of that witness
  pub says-length : {m w out w' out' : List ℕ} {c : Circuit} {b k D t : ℕ} {r : Report} → Holds m c → Searched chosen m b k D w out (gives r) w' out'
      → r.outcome ≡ Outcome.found t → r.length ≡ length (first_witness c b t)
  -- none: no frame up to the bound has a hit
  pub says_none : {m w out w' out' : List ℕ} {c : Circuit} {b k D j : ℕ} {r : Report} → Holds m c → Searched chosen m b k D w out (gives r) w' out'
      → r.outcome ≡ Outcome.none j → None (question c b) k j
  -- where it is told that no frame at all has a hit, the outcome is none, and none holds for every bound
  pub says_never : {m w out w' out' : List ℕ} {c : Circuit} {b k D : ℕ} {r : Report} → Holds m c → Searched chosen m b k D w out (gives r) w' out'
      → T r.never → (r.outcome ≡ Outcome.none k) × ((j : ℕ) → None (question c b) j j)
  -- spent: no earlier frame has a hit, the frame has more than D sequences, and none of the first D hits
  pub says-spent : {m w out w' out' : List ℕ} {c : Circuit} {b k D t : ℕ} {r : Report} → Holds m c → Searched chosen m b k D w out (gives r) w' out'
      → r.outcome ≡ Outcome.spent t → Spent (question c b) k D t
  -- Clause 12.10: with spent a place is told that was reached in that frame, D or more, below 2 to the power n and not above 2 to the power
  -- 62, before which no sequence hits; with found and none 0
  pub says-reached : {m w out w' out' : List ℕ} {c : Circuit} {b k D t : ℕ} {r : Report} → Holds m c → Searched chosen m b k D w out (gives r) w' out'
      → r.outcome ≡ Outcome.spent t → Reached (reaches c b t) (2 ^ free_bits c t) 0 D r.reached
  pub says-no-place : {m w out w' out' : List ℕ} {c : Circuit} {b k D : ℕ} {r : Report} → Holds m c → Searched chosen m b k D w out (gives r) w' out'
      → Decided r.outcome → r.reached ≡ 0
  -- a witness that is shown breaks no constraint in any of its frames
  pub constraints-hold : {m w out w' out' : List ℕ} {c : Circuit} {b k D t : ℕ} {r : Report} → Holds m c → Searched chosen m b k D w out (gives r) w' out'
      → r.outcome ≡ Outcome.found t → (x : ℕ) × (x < 2 ^ free_bits c t) × (out' ≡ front (witness b (run c t x)) out)
      × ((u l : ℕ) → u ≤ t → Memᴰ l c.constraints → T (value_at c (run c t x) u l))
  -- where there is no constraint, what may be answered is as if constraints counted in the frame of the hit alone
  pub without-constraints : (c : Circuit) → c.constraints ≡ [] → (b k D : ℕ) (o : Outcome) → permitted c b k D o ≡ permitted_of (question_alone c b) k D o
  -- what the memories held never matters
  pub memory-never-matters : {m m' w w' out out' w₁ w₂ o₁ o₂ : List ℕ} {c : Circuit} {b k D : ℕ} {x y : Answer Report} → Holds m c → Holds m' c
      → length w ≡ length w' → length out ≡ length out' → Searched chosen m b k D w out x w₁ o₁ → Searched chosen m' b k D w' out' y w₂ o₂
      → (x ≡ y) × OneText out o₁ out' o₂
  -- ---- Clause 12.16: more budget keeps an answer, of any two searches that are not refused, whatever their memories.

  -- found and none stay with every larger budget, with the same witness
  pub budget-keeps : {m m' w w' w₁ w₂ out out' o₁ o₂ : List ℕ} {c : Circuit} {b k D E : ℕ} {o o' : Report} → Holds m c → Holds m' c → D ≤ E
      → Searched chosen m b k D w out (gives o) w₁ o₁ → Searched chosen m' b k E w' out' (gives o') w₂ o₂ → Decided o.outcome
      → (o'.outcome ≡ o.outcome) × OneText out o₁ out' o₂
  -- found stays with every larger bound too, none with every smaller one
  pub found-keeps : {m m' w w' w₁ w₂ out out' o₁ o₂ : List ℕ} {c : Circuit} {b k k' D E : ℕ} {o o' : Report} → Holds m c → Holds m' c → D ≤ E → k ≤ k'
      → Searched chosen m b k D w out (gives o) w₁ o₁ → Searched chosen m' b k' E w' out' (gives o') w₂ o₂ → (t : ℕ) → o.outcome ≡ Outcome.found t
      → (o'.outcome ≡ Outcome.found t) × OneText out o₁ out' o₂
  pub none-keeps : {m m' w w' w₁ w₂ out out' o₁ o₂ : List ℕ} {c : Circuit} {b k k' D E : ℕ} {o o' : Report} → Holds m c → Holds m' c → D ≤ E → k' ≤ k
      → Searched chosen m b k D w out (gives o) w₁ o₁ → Searched chosen m' b k' E w' out' (gives o') w₂ o₂ → (i : ℕ) → o.outcome ≡ Outcome.none i
      → o'.outcome ≡ Outcome.none k'
  -- the same of a user's searches under any pins; length and place stay too
  pub user-budget-keeps : (shared shared' : List ℕ) (user : ℕ) {m m' w w' w₁ w₂ out out' o₁ o₂ : List ℕ} {c : Circuit} {b k D E : ℕ} {o o' : Report}
      → pins_of shared user ≡ pins_of shared' user → Holds m c → Holds m' c → D ≤ E → UserSearched chosen m shared user b k D w out (gives o) w₁ o₁
      → UserSearched chosen m' shared' user b k E w' out' (gives o') w₂ o₂ → Decided o.outcome → Stays o o' out o₁ out' o₂
  pub user-found-keeps : (shared shared' : List ℕ) (user : ℕ) {m m' w w' w₁ w₂ out out' o₁ o₂ : List ℕ} {c : Circuit} {b k k' D E : ℕ} {o o' : Report}
      → pins_of shared user ≡ pins_of shared' user → Holds m c → Holds m' c → D ≤ E → k ≤ k'
      → UserSearched chosen m shared user b k D w out (gives o) w₁ o₁ → UserSearched chosen m' shared' user b k' E w' out' (gives o') w₂ o₂
      → (t : ℕ) → o.outcome ≡ Outcome.found t → Stays o o' out o₁ out' o₂
  pub user-none-keeps : (shared shared' : List ℕ) (user : ℕ) {m m' w w' w₁ w₂ out out' o₁ o₂ : List ℕ} {c : Circuit} {b k k' D E : ℕ} {o o' : Report}
      → pins_of shared user ≡ pins_of shared' user → Holds m c → Holds m' c → D ≤ E → k' ≤ k
      → UserSearched chosen m shared user b k D w out (gives o) w₁ o₁ → UserSearched chosen m' shared' user b k' E w' out' (gives o') w₂ o₂
      → (i : ℕ) → o.outcome ≡ Outcome.none i → o'.outcome ≡ Outcome.none k'
  -- ---- Clause 12.2: witnesses that may hold `x`.

  -- replay answers one thing
  pub replay-determined : {m text : List ℕ} {a b : Answer Verdict} → EitherReplayed m text a → EitherReplayed m text b → a ≡ b
  -- for a witness without `x`, all is the yes and no the no of clause 4.2
  pub replay-plain : {m text : List ℕ} {a : Answer Verdict} {says : Bool} {c : Circuit} → Holds m c → Replayed m text (gives says)
      → EitherReplayed m text a → a ≡ gives (cond says Verdict.all Verdict.no)
  -- all only where every completion is the witness of a sequence that hits
  pub replay-all : {m text : List ℕ} {c : Circuit} → Holds m c → EitherReplayed m text (gives Verdict.all)
      → (h : ℕ × List ℕ) × (read_either c text ≡ some h) × ((u : List ℕ) → Completes h.1 u → Hit c h.0 u)
  -- no only where none shows a hit
  pub replay-no : {m text : List ℕ} {c : Circuit} → Holds m c → EitherReplayed m text (gives Verdict.no)
      → (h : ℕ × List ℕ) × (read_either c text ≡ some h) × ((u : List ℕ) → Completes h.1 u → T (shows c h.0 u) → ⊥)
  -- widening answers one thing and leaves one output
  pub widen-determined : {m text out o₁ o₂ : List ℕ} {a b : Answer ℕ} → Widened m text out a o₁ → Widened m text out b o₂ → (a ≡ b) × (o₁ ≡ o₂)
  -- a widened witness is answered all
  pub widen-all : {m text out out' : List ℕ} {n : ℕ} {c : Circuit} → Holds m c → Widened m text out (gives n) out'
      → EitherReplayed m text (gives Verdict.all) → EitherReplayed m (take n out') (gives Verdict.all)
  -- a witness that is not answered all stays as it is
  pub widen-else : {m text out out' : List ℕ} {n : ℕ} {c : Circuit} {v : Verdict} → Holds m c → Widened m text out (gives n) out'
      → EitherReplayed m text (gives v) → (v ≡ Verdict.all → ⊥) → take n out' ≡ text
  -- widening twice is widening once
  pub widen_twice : {m text out out' o o' : List ℕ} {n k : ℕ} {c : Circuit} → Holds m c → Widened m text out (gives n) out'
      → Widened m (take n out') o (gives k) o' → take k o' ≡ take n out'
  -- ---- Clauses 12.1 and 12.8: the binary form, read; the preview of a load.

  -- a binary file never gets 7 or 8
  pub binary-causes-few : (room : ℕ) (f : List ℕ) → is_binary f ≡ true → (n : ℕ) → 7 ≤ n → n ≤ 8 → load room f ≡ refused n → ⊥
  -- any other file gets what it gets where there is no binary form
  pub text-alone : (room : ℕ) (f : List ℕ) → is_binary f ≡ false → load room f ≡ load_text room f
  -- a preview answers what a load into that memory answers
  pub preview-agrees : (m f m' : List ℕ) (a : Answer (List ℕ)) (r : Judgement) → Loaded m f a m' → Previewed (length m) f r → answered r.answer ≡ a
  -- ---- Clauses 12.1 and 12.14: the operation write in its two forms.

  -- write answers one thing and leaves one output
  pub write-determined : {form : ℕ} {m out o₁ o₂ : List ℕ} {a b : Answer ℕ} → WrittenIn form m out a o₁ → WrittenIn form m out b o₂ → (a ≡ b) × (o₁ ≡ o₂)
  -- form 0 is the text writer, form 1 the binary writer
  pub write-text : {m out out' : List ℕ} {a : Answer ℕ}
      → (WrittenIn 0 m out a out' → Written m out a out') × (Written m out a out' → WrittenIn 0 m out a out')
  pub write-binary : {m out out' : List ℕ} {a : Answer ℕ}
      → (WrittenIn 1 m out a out' → WrittenBinary m out a out') × (WrittenBinary m out a out' → WrittenIn 1 m out a out')
  -- any other form gets 21, whatever is lent
  pub write-form : {m out out' : List ℕ} {a : Answer ℕ} (form : ℕ) → 1 < form → WrittenIn form m out a out' → (a ≡ refused 21) × (out' ≡ out)
  -- load accepts what form 0 wrote, with the same counts, and leaves the same needed words
  pub text-back : {m out out' m₂ m₂' : List ℕ} {n : ℕ} {a : Answer (List ℕ)} → WrittenIn 0 m out (gives n) out' → needed (word m 0) ≤ length m₂
      → Loaded m₂ (take n out') a m₂' → (a ≡ gives (take 7 m)) × (take (needed (word m 0)) m₂' ≡ take (needed (word m 0)) m)
  -- every circuit that a memory holds is written in form 1, into an output of 24,576 bytes at least
  pub binary-written : {m out out' : List ℕ} {c : Circuit} {a : Answer ℕ} → Holds m c → 24576 ≤ length out → WrittenIn 1 m out a out'
      → (n : ℕ) × (a ≡ gives n)
  -- load accepts what it wrote, and leaves the renumbered circuit
  pub binary-back : {m out out' m₂ m₂' : List ℕ} {n : ℕ} {a : Answer (List ℕ)} {c : Circuit} → Holds m c → WrittenIn 1 m out (gives n) out'
      → needed (renumbered c).max_var ≤ length m₂ → Loaded m₂ (take n out') a m₂'
      → (a ≡ gives ((renumbered c).max_var ∷ count_row (renumbered c))) × (m₂' ≡ front (image (renumbered c)) m₂) × Holds m₂' (renumbered c)
  -- each sequence has the same run in it, and hits where it hits in the circuit that was written
  pub binary-runs : {m : List ℕ} {c : Circuit} → Holds m c → (b t x : ℕ)
      → (run (renumbered c) t x ≡ run c t x) × (hits (renumbered c) b (run (renumbered c) t x) t ≡ hits c b (run c t x) t)
  -- each variable that is used has the same value under its new number, in every frame of every run, and so has each output
  pub binary-values : {m : List ℕ} {c : Circuit} → Holds m c → (r : Run) (t l : ℕ) → Known c (var l)
      → value_at (renumbered c) r t (literal_under (new_number c) l) ≡ value_at c r t l
  pub binary-outputs : {m : List ℕ} {c : Circuit} → Holds m c → (r : Run) (t i : ℕ)
      → value_at (renumbered c) r t (get_or (renumbered c).outputs i 0) ≡ value_at c r t (get_or c.outputs i 0)
  -- so a search may answer the same of both, for every bad line, bound and budget, and shows the same witness
  pub binary-answers : {m : List ℕ} {c : Circuit} → Holds m c → (b k D : ℕ) (o : Outcome)
      → (permitted (renumbered c) b k D o ≡ permitted c b k D o) × ((t : ℕ) → first_witness (renumbered c) b t ≡ first_witness c b t)
  -- written again, it gives the same bytes
  pub binary-again : {m out out' m₂ out₂ out₂' : List ℕ} {n k : ℕ} {c : Circuit} → Holds m c → WrittenIn 1 m out (gives n) out' → Holds m₂ (renumbered c)
      → WrittenIn 1 m₂ out₂ (gives k) out₂' → (k ≡ n) × (take k out₂' ≡ take n out')
  -- ---- Clause 13: waveforms.

  -- waveform answers one thing and leaves one output
  pub waveform-determined : {m text out o₁ o₂ : List ℕ} {only : Bool} {a b : Answer ℕ} → Waveformed m only text out a o₁ → Waveformed m only text out b o₂
      → (a ≡ b) × (o₁ ≡ o₂)
  -- it is never refused with 13 where 1,456,223 bytes are lent
  pub waveform-room : {m text out out' : List ℕ} {only : Bool} {a : Answer ℕ} {c : Circuit} → Holds m c → 1456223 ≤ length out → Waveformed m only text out a out'
      → a ≡ refused 13 → ⊥
  -- for a witness without `x`, each wire has its value in each frame of the one run
  pub waveform-values : (c : Circuit) (only : Bool) (text : List ℕ) (w : Witness) → read_witness c text ≡ some w
      → waveform_of c only (read_either c text) ≡ run_text c only w.run
  -- an `x` of the witness is x on its own wire: of a row on that of its input in that frame, of the start values on that of its latch in frame 0
  pub waveform-own-input : (c : Circuit) → T (literals_right c) → T (used_defined c) → T (acyclic c) → (b : ℕ) (body : List ℕ) (t i : ℕ)
      → t < frame_count c b body → i < length c.inputs → get_or body (suc (length c.latches) + (t * (length c.inputs + 1) + i)) 0 ≡ 120
      → level_at c b body t i ≡ Level.either
  pub waveform-own-latch : (c : Circuit) → T (literals_right c) → T (used_defined c) → T (acyclic c) → (b : ℕ) (body : List ℕ) (j : ℕ)
      → 0 < frame_count c b body → j < length c.latches → get_or body j 0 ≡ 120 → level_at c b body 0 (length c.inputs + j) ≡ Level.either
  -- where replay says all, the wire of the witness's bad line is 1 in the last frame
  pub waveform-hit : {m text : List ℕ} {c : Circuit} → Holds m c → EitherReplayed m text (gives Verdict.all)
      → (h : ℕ × List ℕ) × (read_either c text ≡ some h) × (level_at c h.0 h.1 (frame_count c h.0 h.1 - 1) (bad_wire c h.0) ≡ Level.high)
  -- ---- Clauses 12.10, 12.11 and 12.13: searches from a place, under any pins.

  -- what a chain of searches ends with, each from the place that the one before it reached, is the report and the witness of every search
  -- from its first place that is not spent
  pub from-chained : {c : Circuit} {q : ℕ → ℕ} {b t lo : ℕ} {o o₁ : Report} {out out' out₁ out₁' : List ℕ} → AskedUnder c q b t lo o₁ out₁ out₁'
      → Decided o₁.outcome → SearchChain (AskedUnder c q b t) lo o out out' → (o₁ ≡ o) × WroteAlike out out' out₁ out₁'
  -- so is what searches from several places end with, in any order of time
  pub from-ranged : {c : Circuit} {q : ℕ → ℕ} {b t lo : ℕ} {o o₁ : Report} {out out' out₁ out₁' : List ℕ} → AskedUnder c q b t lo o₁ out₁ out₁'
      → Decided o₁.outcome → SearchRanges (AskedUnder c q b t) lo o out out' → (o₁ ≡ o) × WroteAlike out out' out₁ out₁'
  -- where a search of all frames is spent at t, and a chain from the place that it reached ends with found, that is the answer, with its
  -- witness, of every search of all frames that is not spent and whose bound is t or more
  pub from-spent : {m w out₀ : List ℕ} {left₀ : List ℕ × List ℕ} {c : Circuit} {q : ℕ → ℕ} {b k D t u : ℕ} {o₀ o : Report} {out out' : List ℕ} → Holds m c
      → PinnedSearched chosen m q b k D w out₀ (gives o₀) left₀ → o₀.outcome ≡ Outcome.spent t
      → SearchChain (AskedUnder c q b t) o₀.reached o out out' → o.outcome ≡ Outcome.found u
      → {m₂ w₂ out₂ : List ℕ} {left₂ : List ℕ × List ℕ} {k₂ D₂ : ℕ} {o₂ : Report} → Holds m₂ c
      → PinnedSearched chosen m₂ q b k₂ D₂ w₂ out₂ (gives o₂) left₂ → t ≤ k₂ → Decided o₂.outcome
      → (o₂.outcome ≡ Outcome.found t) × WroteAlike out out' out₂ left₂.1
  -- and where it ends with none, no frame up to t has a hit
  pub from-spent-none : {m w out₀ : List ℕ} {left₀ : List ℕ × List ℕ} {c : Circuit} {q : ℕ → ℕ} {b k D t u : ℕ} {o₀ o : Report} {out out' : List ℕ}
      → Holds m c → PinnedSearched chosen m q b k D w out₀ (gives o₀) left₀ → o₀.outcome ≡ Outcome.spent t
      → SearchChain (AskedUnder c q b t) o₀.reached o out out' → o.outcome ≡ Outcome.none u → Quiet (pinned_question c q b) (t + 1)
  -- at place 0 the answer is permitted for the search of that frame alone; where no frame before t has a hit, for the search with bound t
  pub from_zero : {m w out w' out' : List ℕ} {c : Circuit} {q : ℕ → ℕ} {b t D : ℕ} {o : Report} → Holds m c
      → PinnedSearchedFrom place_chosen m q b t 0 D w out (gives o) (w', out')
      → T (permitted_of (frame_alone (pinned_question c q b) t) 0 D (outcome_of 0 (place_chosen (pinned c q) b t 0 D)))
      × (Quiet (pinned_question c q b) t
      → T (permitted_of (pinned_question c q b) t D o.outcome) × T (reached_right (pinned_question c q b) D o.outcome o.reached))
  -- what is not spent is answered with every larger budget, with the same witness
  pub from-kept : {m m' w w' w₁ w₂ out out' o₁ o₂ : List ℕ} {c : Circuit} {q : ℕ → ℕ} {b t place D E : ℕ} {o o' : Report} → Holds m c → Holds m' c
      → D ≤ E → PinnedSearchedFrom place_chosen m q b t place D w out (gives o) (w₁, o₁)
      → PinnedSearchedFrom place_chosen m' q b t place E w' out' (gives o') (w₂, o₂) → Decided o.outcome → (o' ≡ o) × WroteAlike out o₁ out' o₂
  -- ---- Clause 12.7: two users.

  -- a history without the calls of the other user, save accepted loads, is a history, from any state that is the same to user u
  pub users-apart : (u : ℕ) (es : List Event) {s t : State} → Same u s t → History s es → History t (concerning u es)
  -- and whatever history has these calls returns the same for them
  pub users-undisturbed : (u : ℕ) (es es₂ : List Event) {s t : State} → Same u s t → History s es → History t es₂
      → map (λ (e : Event). e.call) es₂ ≡ map (λ (e : Event). e.call) (concerning u es)
      → map (λ (e : Event). e.returned) es₂ ≡ map (λ (e : Event). e.returned) (concerning u es)
  -- the requests of a session that concern user u are a session by themselves, with the same replies, to a state that is the
  -- same to u
  pub sessions-apart : (u : ℕ) {room : ℕ} (es : List Exchange) {s t s' : State} → Same u s t → Session room s es s' → Apart u room t (sessions.concerning u es) s'
  -- and whatever session has these requests prints these replies
  pub sessions-undisturbed : (u : ℕ) {room : ℕ} (es es₂ : List Exchange) {s t s' t' : State} → Same u s t → Session room s es s' → Session room t es₂ t'
      → map {B = List ℕ × Files} (λ (e : Exchange). (e.request, e.files)) es₂
      ≡ map {B = List ℕ × Files} (λ (e : Exchange). (e.request, e.files)) (sessions.concerning u es)
      → (map (λ (e : Exchange). e.reply) es₂ ≡ map (λ (e : Exchange). e.reply) (sessions.concerning u es)) × Same u s' t'
  -- the resident program starts with no circuit and with all pins free
  pub panel-start-empty : HoldsNone start.memory
  pub panel-start-free : (user i : ℕ) → pins_of start.pins user i ≡ 2
  -- and of what its loop ensures (`panel_serving::session`) from there the same holds
  pub panel-apart : (u : ℕ) {room : ℕ} {n : Totals} {t : State} (a : SessionOf room start n t) → Apart u room start (sessions.concerning u a.exchanges) t
  pub panel-undisturbed : (u : ℕ) {room : ℕ} {n n₂ : Totals} {t t₂ : State} (a : SessionOf room start n t) (b : SessionOf room start n₂ t₂)
      → map {B = List ℕ × Files} (λ (e : Exchange). (e.request, e.files)) b.exchanges
      ≡ map {B = List ℕ × Files} (λ (e : Exchange). (e.request, e.files)) (sessions.concerning u a.exchanges)
      → (map (λ (e : Exchange). e.reply) b.exchanges ≡ map (λ (e : Exchange). e.reply) (sessions.concerning u a.exchanges)) × Same u t t₂
  -- ---- Clause 12.12: circuits made from a seed.

  -- generate answers one thing and leaves one output
  pub generate-determined : {s i l a : ℕ} {out o₁ o₂ : List ℕ} {x y : Answer ℕ} → Generated s i l a out x o₁ → Generated s i l a out y o₂
      → (x ≡ y) × (o₁ ≡ o₂)
  -- the text is a function of seed and counts: equal ones give equal bytes, whatever the outputs held
  pub generate-bytes : {s i l a m n : ℕ} {out₁ out₂ o₁ o₂ : List ℕ} → Generated s i l a out₁ (gives m) o₁ → Generated s i l a out₂ (gives n) o₂
      → (m ≡ n) × (take m o₁ ≡ take n o₂)
  -- a refusal is 3 for counts that are not permitted, or 13 for an output that is shorter than the text, and leaves every byte
  pub generate-refused : {s i l a n : ℕ} {out out' : List ℕ} → Generated s i l a out (refused n) out'
      → (out' ≡ out)
      × (((n ≡ 3) × (counts_permitted i l a ≡ false)) ⊎ ((n ≡ 13) × Permitted i l a × (length out < length (generated_text s i l a))))
  -- it is never refused with 13 where 55,798 bytes are lent
  pub generate-room : {s i l a n : ℕ} {out out' : List ℕ} → 55798 ≤ length out → Generated s i l a out (refused n) out' → n ≡ 3
  -- every such file loads where circuit memory suffices: load answers the counts of the circuit, and leaves a memory that holds it
  pub generate-loads : {s i l a n : ℕ} {out out' m m' : List ℕ} {x : Answer (List ℕ)} → Generated s i l a out (gives n) out'
      → needed (i + l + a) ≤ length m → Loaded m (take n out') x m'
      → (x ≡ gives ((generated s i l a).max_var ∷ count_row (generated s i l a))) × Holds m' (generated s i l a)

-- ---- the fields that stand nowhere else

never : {A : Type 0} {n : ℕ} {a : A} → refused n ≡ gives a → ⊥
never e = let z : ◌≡◌ {A = ℕ} 0 1 = cc in absurd (omega arith)

refused-load : {m f m' : List ℕ} {n : ℕ} {a : Answer (List ℕ)} → Loaded m f a m' → a ≡ refused n → (load (length m) f ≡ refused n) × (m' ≡ m)
refused-load (Loaded.refuses e) q = (e ∙ q' q, refl)
  where
    q' : {k n : ℕ} → ◌≡◌ {A = Answer (List ℕ)} (refused k) (refused n) → ◌≡◌ {A = Answer Circuit} (refused k) (refused n)
    q' z = cc
refused-load (Loaded.stores c e) q = absurd (never (sym q))

accepted-load : {m f m' : List ℕ} {a : Answer (List ℕ)} {c : Circuit} → Loaded m f a m' → load (length m) f ≡ gives c
    → (a ≡ gives (c.max_var ∷ count_row c)) × (m' ≡ front (image c) m)
accepted-load (Loaded.refuses e) q = absurd (never (sym e ∙ q))
accepted-load {m} (Loaded.stores d e) q =
    let z = gives_same (sym e ∙ q) in
    (ap (λ (x : Circuit). gives (x.max_var ∷ count_row x)) z, ap (λ (x : Circuit). front (image x) m) z)

module _ {A S : Type 0} {m : List ℕ} {tests : Circuit → List Test} {lent : S} {effect : Circuit → A → S → Type 0} where
  without : {x : Answer A} {s : S} → HoldsNone m → Operated m tests lent effect x s → (x ≡ refused 9) × (s ≡ lent)
  without n (Operated.no_circuit f) = (refl, refl)
  without n (Operated.refuses c h t) = absurd (n c h)
  without n (Operated.acts c h t e) = absurd (n c h)

  accepted : {x : Answer A} {s : S} {c : Circuit} → Holds m c → judge (tests c) ≡ gives tt → Operated m tests lent effect x s → (a : A) × (x ≡ gives a) × effect c a s
  accepted {x = refused n} h j o = absurd (never (sym (refused_as h o refl).0 ∙ j))
  accepted {x = gives a} h j o = (a, refl, (acted h o refl).1)

join-shows : {m₁ m₂ m m' a w out w' out' : List ℕ} {c d : Circuit} {j k D t : ℕ} {r : Report} → Holds m₁ c → Holds m₂ d → JoinedInto m₁ m₂ m (gives a) m'
    → j < length c.outputs → Searched chosen m' j k D w out (gives r) w' out' → r.outcome ≡ Outcome.found t
    → (s : Run) × (out' ≡ front (witness j s) out) × Parting c d j t (first_run c s) (second_run c s) × ((u : ℕ) → u < t → (r r' : Run) → Parting c d j u r r' → ⊥)
join-shows {out = out} h h' o l s e =
    let q = join-loads h h' o in
    let f = found-only q.1 s e in
    let p = found-parts q.2 l f.0 in
    (p.0, f.1 ∙ ap (λ (x : List ℕ). front x out) p.1, p.2, p.3)

pub correct : Correct
correct =
    record {
      load-determined = loaded-same;
      load-refused = λ l. refused-load l refl;
      load-accepted = accepted-load;
      no-circuit = without;
      first-cause = λ h o. refused_as h o refl;
      never-refused = accepted;
      run-values = λ c right known a r t. (run-satisfies c right known a r t, λ w s. run-determined c right known a r t s);
      sequences-all = every-run;
      sequences-apart = run-same;
      written_back = load_again;
      folded-text = λ h o. let e = (acted h o refl).1 in (e.permitted, e.count, e.shows);
      folded-value = λ {c = c} {b = b} {t = t} h o. folded-output c b t (folding.chosen c b t) (acted h o refl).1.permitted;
      join-no-circuit = join-without;
      join-first-cause = λ h h' o. join-refused h h' o;
      join-never-refused = λ h h' e o. join-accepted h h' e o;
      join-is-load = λ h h' o. let q = join-loads h h' o in (q.0, q.1);
      join-found = λ h h' o l s e. join-shows h h' o l s e;
      join-none = λ h h' o l s e. let q = join-loads h h' o in none-parts q.2 l (none_only q.1 s e);
      join-self = self-same;
      says-found = λ h s e. found-only h s e;
      says-length = λ h s e. found-length h s e;
      says_none = λ h s e. none_only h s e;
      says_never = λ h s f. never-only h s f;
      says-spent = λ h s e. spent-only h s e;
      says-reached = λ h s e. reached-only h s e;
      says-no-place = λ h s d. reached-nothing h s d;
      constraints-hold = λ h s e. witness-allowed h s e;
      without-constraints = λ c none b. permitted-alone c none b;
      memory-never-matters = memory-same;
      budget-keeps = λ h h' l s s' d. budget-kept h h' l s s' refl d;
      found-keeps = λ h h' l n s s' t e. found-kept h h' l s s' t n e;
      none-keeps = λ h h' l n s s' i e. none_kept h h' l s s' i n e;
      user-budget-keeps = λ x y u p h h' l s s' d. user-budget-kept x y u p h h' l s s' refl d;
      user-found-keeps = λ x y u p h h' l n s s' t e. user-found-kept x y u p h h' l s s' t n e;
      user-none-keeps = λ x y u p h h' l n s s' i e. user-none-kept x y u p h h' l s s' i n e;
      replay-determined = either_same;
      replay-plain = λ {c = c} h r s. all-is-yes c h r s;
      replay-all = λ {c = c} h r. all-hits c h r;
      replay-no = λ {c = c} h r. no-hits c h r;
      widen-determined = widened_same;
      widen-all = λ {c = c} h w r. widened-all c h (made c h w) r;
      widen-else = λ {c = c} h w r n. widened-copied c h (made c h w) r n;
      widen_twice = λ {c = c} h w v. widened_twice c h (made c h w) (made c h v);
      binary-causes-few = binary-causes;
      text-alone = load-text;
      preview-agrees = preview-load;
      write-determined = λ w v. write_same w v;
      write-text = (λ w. form-text w, λ w. text-form 0 refl w);
      write-binary = (λ w. form-binary w, λ w. binary-form 1 refl w);
      write-form = other-form;
      text-back = λ w room l. writer.text-back w room l;
      binary-written = λ h room w. writer.binary-written h room w;
      binary-back = λ h w room l. writer.binary-back h w room l;
      binary-runs = λ {c = c} h b t x.
          let v = held-valid h in
          (same-run v t x, same-hits v b (run (renumbered c) t x) t ∙ ap (λ (r : Run). hits c b r t) (same-run v t x));
      binary-values = λ h. same-value (held-valid h);
      binary-outputs = λ h. same-output (held-valid h);
      binary-answers = λ h b k D o. let v = held-valid h in (same-permitted v b k D o, same-witness v b);
      binary-again = λ h w h₂ w₂. writer.binary-again h w h₂ w₂;
      waveform-determined = waveformed-same;
      waveform-room = λ {c = c} h l w e. never-short c h l w e;
      waveform-values = waveform-plain;
      waveform-own-input = own-input;
      waveform-own-latch = own-latch;
      waveform-hit = λ {c = c} h r. all_shown c h r;
      from-chained = λ a d r. from.chained a d r;
      from-ranged = λ a d r. from.ranged a d r;
      from-spent = λ h s e r f h₂ s₂ l d. from.plain-chained h s e r f h₂ s₂ l d;
      from-spent-none = λ h s e r f. from.plain_quiet h s e r f;
      from_zero = λ h s. from.at_zero h s;
      from-kept = λ h h' l s s' d. from.budget-kept h h' l s s' d;
      users-apart = apart;
      users-undisturbed = undisturbed;
      sessions-apart = panel.apart;
      sessions-undisturbed = panel.undisturbed;
      panel-start-empty = start-empty;
      panel-start-free = start-free;
      panel-apart = loop-apart;
      panel-undisturbed = loop-undisturbed;
      generate-determined = generated-same;
      generate-bytes = same_bytes;
      generate-refused = λ g. let k = generated-kept g in (k.kept, k.cause);
      generate-room = drawn.never-short;
      generate-loads = generated-loaded;
    }
