-- The sixteen places of the answer that a C function is lent. Assumes nothing.
use Rattle.std.specs.Prelude.{List, [], ◌∷◌, ◌++◌, ℕ}

-- place 0, the kind of an answer, in all functions
abbrev pub done : ℕ
done = 0

abbrev pub found : ℕ
found = 1

abbrev pub none : ℕ
none = 2

abbrev pub spent : ℕ
spent = 3

abbrev pub all : ℕ
all = 4

abbrev pub no : ℕ
no = 5

abbrev pub mixed : ℕ
mixed = 6

-- the places in their order: 0 kind, 1 frame, 2 the length of the text that was written, 3 the words that the circuit needs, 4 the place
-- that a spent search reached, 5 to 11 the counts M I L O A B C, 12 whether a none holds for every bound, 13 the number that load would
-- answer, 14 and 15 kept for later. Each is 0 where it does not apply
abbrev pub places_with : ℕ → ℕ → ℕ → ℕ → ℕ → List ℕ → ℕ → ℕ → List ℕ
places_with kind frame length words reached counts always number =
    kind ∷ frame ∷ length ∷ words ∷ reached ∷ (counts ++ (always ∷ number ∷ 0 ∷ 0 ∷ []))

-- where no search is spent
abbrev pub places : ℕ → ℕ → ℕ → ℕ → List ℕ → ℕ → ℕ → List ℕ
places kind frame length words counts always number = places_with kind frame length words 0 counts always number

abbrev pub no_counts : List ℕ
no_counts = 0 ∷ 0 ∷ 0 ∷ 0 ∷ 0 ∷ 0 ∷ 0 ∷ []

-- a row of numbers in the places that are there; the numbers after them are as they were
abbrev pub overlaid : List ℕ → List ℕ → List ℕ
overlaid [] answer = answer
overlaid (x ∷ row) [] = []
overlaid (x ∷ row) (y ∷ answer) = x ∷ overlaid row answer
