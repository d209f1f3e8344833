-- The search program: standard input, and what it prints. Assumes nothing.
use Rattle.std.specs.Prelude.{◌≡◌, Bool, List, ◌++◌, ℕ, ◌≤◌, ◌<◌, T, eqb, length, get_or, take, drop}
use Rattle.std.proofs.Math.Option.{Option, none, some}
use Rattle.aiger.specs.Lists.{same}
use Rattle.aiger.specs.Text.{bytes, digits, row, ◌>>=◌, ◌>>◌, when}
use Rattle.aiger.specs.Circuit.{Circuit}
use Rattle.aiger.specs.Load.{refused, gives, load}
use Rattle.aiger.specs.Search.{Outcome, permitted, first_witness}
use Rattle.aiger.specs.Operations.{judge, search_tests}

pub record Request : Type 0 where
  pub b : ℕ
  pub k : ℕ
  pub D : ℕ
  pub file : List ℕ

-- Clause 8.1: the line `search b k D`, its numbers read as those of a file, and the file after it
unfoldable pub request : List ℕ → Option Request
request f = do
  when (same (take 7 f) (bytes "search "))
  r ← row 3 (drop 7 f)
  when (eqb (length r.0) 3)
  some (record { b = get_or r.0 0 0; k = get_or r.0 1 0; D = get_or r.0 2 0; file = r.1 })

-- Clause 8.3: a word with its number, and after found the witness
unfoldable pub report : Circuit → ℕ → Outcome → List ℕ
report c b (Outcome.found t) = bytes "found " ++ digits t ++ bytes "\n" ++ first_witness c b t
report c b (Outcome.none k) = bytes "none " ++ digits k ++ bytes "\n"
report c b (Outcome.spent t) = bytes "spent " ++ digits t ++ bytes "\n"

unfoldable pub refusal_line : ℕ → List ℕ
refusal_line n = bytes "refused " ++ digits n ++ bytes "\n"

-- Clauses 8.1 and 8.2: what may be printed. Length is judged first, then the first line, then the file, in 8,192 words of circuit memory,
-- 8,192 of working memory and 2,048 bytes of output. Where several outcomes are
-- permitted, `chosen` is the program's choice
pub data Prints (chosen : Circuit → ℕ → ℕ → ℕ → Outcome) (input : List ℕ) : List ℕ → Type 0 where
  too_long : 65536 < length input → Prints chosen input (refusal_line 1)
  no_request : length input ≤ 65536 → request input ≡ none → Prints chosen input (refusal_line 11)
  not_loaded : length input ≤ 65536 → (q : Request) → request input ≡ some q → {n : ℕ} → load 8192 q.file ≡ refused n
      → Prints chosen input (refusal_line n)
  not_searched : length input ≤ 65536 → (q : Request) → request input ≡ some q → (c : Circuit) → load 8192 q.file ≡ gives c
      → {n : ℕ} → judge (search_tests c q.b q.k q.D 8192 2048) ≡ refused n → Prints chosen input (refusal_line n)
  answers : length input ≤ 65536 → (q : Request) → request input ≡ some q → (c : Circuit) → load 8192 q.file ≡ gives c
      → judge (search_tests c q.b q.k q.D 8192 2048) ≡ gives tt → (o : Outcome) → chosen c q.b q.k q.D ≡ o
      → T (permitted c q.b q.k q.D o)
      → Prints chosen input (report c q.b o)
