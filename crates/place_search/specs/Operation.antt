-- The search of one frame from a place as an operation: its tests, what it answers and what it leaves. Assumes nothing.
use Rattle.std.specs.Prelude.{◌≡◌, Bool, false, ◌&&◌, List, [], ◌∷◌, ℕ, ◌^◌, T, leb, ltb, length}
use Rattle.aiger.specs.Circuit.{Circuit}
use Rattle.aiger.specs.Frames.{free_bits, run}
use Rattle.aiger.specs.Load.{Answer}
use Rattle.aiger.specs.Search.{Report, reaches, greatest}
use Rattle.aiger.specs.Witness.{witness, witness_length}
use Rattle.aiger.specs.Operations.{Test, need, bad_test, budget_right, size_test, front, shown_length, Operated}
use Rattle.place_search.specs.Places.{Placed, answers, outcome_of, reached_of}

-- Clause 12.11: a starting place is not above the greatest number that is told, and is one of the 2 to the power n places
abbrev pub place_right : ℕ → ℕ → Bool
place_right n place = leb place greatest && ltb place (2 ^ n)

-- Clause 12.11, number 19. The free bits are those of the circuit that is asked: under pins the pinned one
abbrev pub place_test : Circuit → ℕ → ℕ → Test
place_test c t place = need 19 (place_right (free_bits c t) place)

-- Clauses 12.11 and 6.3: the tests 10, 11, 19, 12 and 13. The circuit `asked` has the free bits, c the size and the length of the output:
-- they differ under pins alone. Working memory has `room` words and the output `len` bytes
abbrev pub place_tests : Circuit → Circuit → ℕ → ℕ → ℕ → ℕ → ℕ → ℕ → List Test
place_tests asked c b t place D room len =
    bad_test c b ∷ need 11 (leb t 255 && budget_right D) ∷ place_test asked t place ∷ size_test c t room
    ∷ need 13 (leb (witness_length c b t) len) ∷ []

-- found leaves a text at the front, by the place of the first hit at or after the starting place; none and spent leave every byte
abbrev pub shown_at : (ℕ → List ℕ) → Placed → List ℕ → List ℕ
shown_at text (Placed.hit x) out = front (text x) out
shown_at text Placed.clear out = out
shown_at text (Placed.spent R) out = out

-- the text that is left, nothing where it is none or spent
abbrev pub text_of : (ℕ → List ℕ) → Placed → List ℕ
text_of text (Placed.hit x) = text x
text_of text Placed.clear = []
text_of text (Placed.spent R) = []

-- the text is the witness of the sequence at that place
abbrev pub shown_from : Circuit → ℕ → ℕ → Placed → List ℕ → List ℕ
shown_from c b t a out = shown_at (λ x. witness b (run c t x)) a out

-- what is reported: found t with the length of its witness, none t, or spent t with the place that was reached. Nothing is known of other
-- frames
abbrev pub report_of : Circuit → ℕ → ℕ → Placed → Report
report_of c b t a =
    record { outcome = outcome_of t a; length = shown_length c b (outcome_of t a); never = false; reached = reached_of a }

-- Clause 12.11: which of the permitted answers is given is a function of the circuit, b, frame, place and D alone
pub record PlaceEffect (chosen : Circuit → ℕ → ℕ → ℕ → ℕ → Placed) (b t place D : ℕ) (out : List ℕ)
    (c : Circuit) (r : Report) (left : List ℕ × List ℕ) : Type 0 where
  pub chose : r ≡ report_of c b t (chosen c b t place D)
  pub allowed : T (answers (reaches c b t) (2 ^ free_bits c t) place D (chosen c b t place D))
  pub shows : left.1 ≡ shown_from c b t (chosen c b t place D) out

abbrev pub PlaceSearched : (Circuit → ℕ → ℕ → ℕ → ℕ → Placed) → List ℕ → ℕ → ℕ → ℕ → ℕ → List ℕ → List ℕ → Answer Report
    → List ℕ → List ℕ → Type 0
PlaceSearched chosen m b t place D w out a w' out' =
    Operated m (λ c. place_tests c c b t place D (length w) (length out)) (w, out) (PlaceEffect chosen b t place D out) a (w', out')
