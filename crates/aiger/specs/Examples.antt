-- Clause 9.1: the examples that are to be proved and some of our own as one table, and the test of a row. Assumes nothing.
use Rattle.std.specs.Prelude.{Bool, true, false, not, cond, ◌&&◌, List, [], ◌∷◌, ◌++◌, map, ℕ, ◌+◌, eqb, length, take, replicate}
use Rattle.std.specs.Bool.{beq}
use Rattle.std.proofs.Math.Option.{Option}
use Prim.Native.String.{String}
use Rattle.aiger.specs.Lists.{same, upto}
use Rattle.aiger.specs.Text.{bytes}
use Rattle.aiger.specs.Circuit.{Circuit}
use Rattle.aiger.specs.Load.{Answer, refused, gives, load, needed}
use Rattle.aiger.specs.Search.{Outcome, permitted}
use Rattle.aiger.specs.Write.{write}
use Rattle.aiger.specs.Fold.{plain, alike, repeated, folds}
use Rattle.aiger.specs.Witness.{read_witness, confirms}
use Rattle.aiger.specs.Memory.{image}
use Rattle.aiger.specs.Signature.{draw, pattern_bit}
use Rattle.aiger.specs.Operations.{judge, size_test, search_tests, fold_tests}
use Rattle.aiger.specs.Program.{request, report}

unfoldable pub keep : {A : Type 0} → (A → Bool) → List A → List A
keep p [] = []
keep p (x ∷ xs) = cond (p x) (x ∷ keep p xs) (keep p xs)

-- every outcome that a bound k leaves, and those just past it
unfoldable pub outcomes : ℕ → List Outcome
outcomes k =
    map Outcome.found (upto (k + 2)) ++ map Outcome.none (upto (k + 2)) ++ map Outcome.spent (upto (k + 2))

-- the texts are the same, one by one
unfoldable pub same_texts : List (List ℕ) → List String → Bool
same_texts [] [] = true
same_texts [] (y ∷ ys) = false
same_texts (x ∷ xs) [] = false
same_texts (x ∷ xs) (y ∷ ys) = same x (bytes y) && same_texts xs ys

-- the number of a refusal, 0 where there is none
unfoldable pub refusal_of : {A : Type 0} → Answer A → ℕ
refusal_of (refused n) = n
refusal_of (gives a) = 0

pub data Example : Type 0 where
  -- file, b, k, D, and what may be answered: these answers and no others
  searched : String → ℕ → ℕ → ℕ → List String → Example
  -- file, b, k, D, the words of working memory, the bytes of output, and the number of the refusal, 0 for none
  search_refused : String → ℕ → ℕ → ℕ → ℕ → ℕ → ℕ → Example
  -- how many inputs and free latches a circuit without gates has, a bound, the words of working memory, and the number of the refusal
  -- by its size, 0 for none
  size_refused : ℕ → ℕ → ℕ → ℕ → ℕ → Example
  -- what standard input holds, and whether it begins with a request
  requested : String → Bool → Example
  -- file, witness, and yes or no
  replayed : String → String → Bool → Example
  -- file, a text's first lines, how many empty lines and then a line `.` follow, and whether that is a witness
  witnessed : String → String → ℕ → Bool → Example
  -- file, and a text that is no witness
  no_witness : String → String → Example
  -- file, b, t, a text, and whether fold may write it
  folded : String → ℕ → ℕ → String → Bool → Example
  -- two operands, and whether a folded gate may have them, whatever n is
  operand_pair : ℕ → ℕ → Bool → Example
  -- the operands of two gates, and whether they are the same
  operand_pairs : ℕ → ℕ → ℕ → ℕ → Bool → Example
  -- the operands of a gate and an operand of theirs, and whether the other operand is repeated one gate down
  operand_below : ℕ → ℕ → ℕ → ℕ → Bool → Example
  -- file, b, t, the words of working memory, the bytes of output, and the number of the refusal, 0 for none
  fold_refused : String → ℕ → ℕ → ℕ → ℕ → ℕ → Example
  -- file, and what write gives
  written : String → String → Example
  -- file, and the first words that its load leaves
  stored : String → List ℕ → Example
  -- words of circuit memory, file, and the number of the refusal, 0 for none
  refusal : ℕ → String → ℕ → Example
  -- a file's text, the bytes after it, and the number of the refusal, 0 for none
  binary_refusal : String → List ℕ → ℕ → Example
  -- a file's text, the bytes after it, and what write gives
  binary_loaded : String → List ℕ → String → Example
  -- file, how many bytes follow it, and the number of the refusal, 0 for none
  long_file : String → ℕ → ℕ → Example
  -- draw i
  drawn : ℕ → ℕ → Example
  -- free bit j in pattern p
  patterned : ℕ → ℕ → Bool → Example

unfoldable pub on_loaded : String → (Circuit → Bool) → Bool
on_loaded f p = elim (load 8192 (bytes f)) [ refused n ↦ false | gives c ↦ p c ]

-- so many inputs and free latches, and nothing else
unfoldable pub plain_of : ℕ → ℕ → Circuit
plain_of inputs free =
    record {
      max_var = inputs + free;
      inputs = replicate inputs 2;
      latches = replicate free (record { lit = 2; next = 2; reset = 2 });
      outputs = [];
      bads = [];
      constraints = [];
      gates = [];
    }

unfoldable pub holds : Example → Bool
holds (searched f b k D answers) =
    on_loaded f (λ c.
    eqb (refusal_of (judge (search_tests c b k D 8192 2048))) 0
    && same_texts (map (report c b) (keep (permitted c b k D) (outcomes k))) answers)
holds (search_refused f b k D room len n) = on_loaded f (λ c. eqb (refusal_of (judge (search_tests c b k D room len))) n)
holds (size_refused inputs free k room n) = eqb (refusal_of (judge (size_test (plain_of inputs free) k room ∷ []))) n
holds (requested f says) = elim (request (bytes f)) [ Option.none ↦ not says | Option.some q ↦ says ]
holds (replayed f w says) =
    on_loaded f (λ c. elim (read_witness c (bytes w)) [ Option.none ↦ false | Option.some x ↦ beq (confirms c x) says ])
holds (no_witness f w) = on_loaded f (λ c. elim (read_witness c (bytes w)) [ Option.none ↦ true | Option.some x ↦ false ])
holds (folded f b t w says) =
    on_loaded f (λ c.
    eqb (refusal_of (judge (fold_tests c b t 8192 2048))) 0 && on_loaded w (λ d. same (write d) (bytes w) && beq (folds c b t d) says))
holds (operand_pair l r says) = beq (plain (record { lit = 0; left = l; right = r })) says
holds (operand_pairs l r m s says) =
    beq (alike (record { lit = 0; left = l; right = r }) (record { lit = 0; left = m; right = s })) says
holds (operand_below l r o a says) = beq (repeated l r o a) says
holds (fold_refused f b t room len n) = on_loaded f (λ c. eqb (refusal_of (judge (fold_tests c b t room len))) n)
holds (written f w) = on_loaded f (λ c. same (write c) (bytes w))
holds (witnessed f w n says) =
    on_loaded f
    (λ c. elim (read_witness c (bytes w ++ replicate n 10 ++ bytes ".\n")) [ Option.none ↦ not says | Option.some x ↦ says ])
holds (stored f words) = on_loaded f (λ c. same (take (length words) (image c)) words && eqb (length (image c)) (needed c.max_var))
holds (binary_refusal f g n) = eqb (refusal_of (load 8192 (bytes f ++ g))) n
holds (binary_loaded f g w) = elim (load 8192 (bytes f ++ g)) [ refused n ↦ false | gives c ↦ same (write c) (bytes w) ]
holds (long_file f more n) = eqb (refusal_of (load 8192 (bytes f ++ replicate more 0))) n
holds (drawn i w) = eqb (draw i) w
holds (patterned j p says) = beq (pattern_bit j p) says
holds (refusal room f n) = eqb (refusal_of (load room (bytes f))) n

-- document 01's shift register: two latches after one input, bad when both are true
abbrev S : String
S = "aag 4 1 2 0 1 1\n2\n4 2\n6 4\n8\n8 4 6\n"

-- an input and a free latch; bad is the latch, the constraint forbids the input
abbrev F : String
F = "aag 2 1 1 0 0 1 1\n2\n4 4 4\n4\n3\n"

-- a free latch that keeps its value, and an input; bad when the input is true and the latch false
abbrev G : String
G = "aag 3 1 1 0 1 1\n2\n4 4 4\n6\n6 2 5\n"

-- two inputs; bad when they differ, by three gates
abbrev X : String
X = "aag 5 2 0 0 3 1\n2\n4\n11\n6 2 5\n8 3 4\n10 7 9\n"

-- three inputs; bad when all are true, by two gates of which the second repeats an input
abbrev R : String
R = "aag 6 3 0 0 3 1\n2\n4\n6\n12\n8 2 4\n10 8 2\n12 10 6\n"

-- a latch that starts at 1 and stays there, and no input; bad is the latch
abbrev H : String
H = "aag 1 0 1 0 0 1\n2 2 1\n2\n"

-- the rows that document 01 stars, in its order
unfoldable pub starred : List Example
starred =
    searched S 0 3 16 ("found 2\n1\nb0\n00\n1\n1\n0\n.\n" ∷ [])
    ∷ searched S 0 1 16 ("none 1\n" ∷ [])
    ∷ searched S 0 2 7 ("found 2\n1\nb0\n00\n1\n1\n0\n.\n" ∷ [])
    ∷ searched S 0 2 6 ("found 2\n1\nb0\n00\n1\n1\n0\n.\n" ∷ "spent 2\n" ∷ [])
    ∷ replayed S "1\nb0\n00\n0\n1\n0\n.\n" false
    ∷ replayed S "1\nb0\n10\n1\n1\n0\n.\n" false
    ∷ folded S 0 2 "aag 4 3 0 1 1 0 0\n2\n4\n6\n8\n8 4 2\n" true
    ∷ searched "aag 2 1 0 0 1 1\n2\n4\n4 2 3\n" 0 0 2 ("none 0\n" ∷ [])
    ∷ searched "aag 1 0 1 0 0 1\n2 2 2\n2\n" 0 0 2 ("found 0\n1\nb0\n1\n\n.\n" ∷ [])
    ∷ refusal 8192 "aag 1 1 0 0 0\n3\n" 6
    ∷ refusal 8192 "aag 1 0 0 1 0\n2\n" 7
    ∷ refusal 8192 "aag 2 0 0 0 2\n2 4 4\n4 2 2\n" 8
    ∷ []

-- rows of our own, for mistakes that the starred ones let pass
unfoldable pub further : List Example
further =
    -- constraints, resets and free starts
    searched "aag 1 1 0 0 0 1 1\n2\n2\n3\n" 0 0 2 ("none 0\n" ∷ [])
    ∷ searched H 0 0 2 ("found 0\n1\nb0\n1\n\n.\n" ∷ [])
    ∷ searched F 0 0 2 ("found 0\n1\nb0\n1\n0\n.\n" ∷ "spent 0\n" ∷ [])
    ∷ searched G 0 0 4 ("found 0\n1\nb0\n0\n1\n.\n" ∷ [])
    ∷ searched X 0 0 1 ("found 0\n1\nb0\n\n01\n.\n" ∷ "spent 0\n" ∷ [])
    -- frames before a spent one have no hit
    ∷ searched S 0 3 6 ("found 2\n1\nb0\n00\n1\n1\n0\n.\n" ∷ "spent 2\n" ∷ [])
    -- lines in the order outputs, bad lines, constraints
    ∷ searched "aag 2 2 0 1 0 2 1\n2\n4\n0\n2\n4\n5\n" 0 0 4 ("found 0\n1\nb0\n\n10\n.\n" ∷ [])
    -- inputs frame by frame, gates in any order
    ∷ searched "aag 6 2 2 0 2 1\n2\n4\n6 4\n8 1\n12\n12 11 8\n10 7 3\n" 0 1 16 ("found 1\n1\nb0\n00\n00\n10\n.\n" ∷ [])
    -- a constraint counts in every frame up to that of the hit
    ∷ searched "aag 3 1 1 0 0 1 1\n2\n4 2\n4\n3\n" 0 1 4 ("none 1\n" ∷ [])
    ∷ searched "aag 3 1 1 0 0 1 1\n2\n4 2\n4\n2\n" 0 2 8 ("found 1\n1\nb0\n0\n1\n1\n.\n" ∷ [])
    ∷ replayed "aag 3 1 1 0 0 1 1\n2\n4 2\n4\n3\n" "1\nb0\n0\n1\n0\n.\n" false
    ∷ replayed "aag 3 1 1 0 0 1 1\n2\n4 2\n4\n2\n" "1\nb0\n0\n1\n0\n.\n" false
    ∷ replayed "aag 3 1 1 0 0 1 1\n2\n4 2\n4\n2\n" "1\nb0\n0\n1\n1\n.\n" true
    ∷ folded "aag 3 1 1 0 0 1 1\n2\n4 2\n4\n3\n" 0 1 "aag 2 2 0 1 0 0 0\n2\n4\n0\n" true
    ∷ folded "aag 3 1 1 0 0 1 1\n2\n4 2\n4\n3\n" 0 1 "aag 3 2 0 1 1 0 0\n2\n4\n6\n6 5 2\n" false
    -- the second of two bad lines
    ∷ searched "aag 1 1 0 0 0 2\n2\n2\n3\n" 1 0 2 ("found 0\n1\nb1\n\n0\n.\n" ∷ [])
    -- size counts free starts and constraints; the output counts b's digits
    ∷ search_refused F 0 0 1 80 2048 0
    ∷ search_refused F 0 0 1 79 2048 12
    ∷ search_refused "aag 0 0 0 0 0 11\n0\n0\n0\n0\n0\n0\n0\n0\n0\n0\n0\n" 10 0 1 8192 10 0
    ∷ search_refused "aag 0 0 0 0 0 11\n0\n0\n0\n0\n0\n0\n0\n0\n0\n0\n0\n" 10 0 1 8192 9 13
    -- numbers 10 to 13: S at bound 169 has size 511, at 170 514
    ∷ search_refused S 1 256 0 0 0 10
    ∷ search_refused S 0 256 16 8192 2048 11
    ∷ search_refused S 0 254 0 8192 2048 11
    ∷ search_refused S 0 254 4294967297 8192 2048 11
    ∷ search_refused S 0 170 16 8192 2048 12
    ∷ search_refused S 0 255 16 8192 2048 12
    ∷ search_refused S 0 169 16 8175 2048 12
    ∷ search_refused S 0 169 4294967296 8176 350 0
    ∷ search_refused S 0 169 16 8176 349 13
    ∷ search_refused "aag 0 0 0 0 0\n" 0 0 1 8192 2048 10
    -- a size of 65,536 and one of 65,537
    ∷ size_refused 254 255 255 1048576 0
    ∷ size_refused 254 256 255 1048592 12
    ∷ size_refused 254 255 255 1048575 12
    -- the search program's first line: three numbers in the file's form, then a line feed
    ∷ requested "search 0 2 16\n" true
    ∷ requested "search 0 2\n" false
    ∷ requested "search 0 2 16 1\n" false
    ∷ requested "search 0 02 16\n" false
    ∷ requested "search 0 2 16" false
    ∷ requested "search 0  2 16\n" false
    ∷ requested "Search 0 2 16\n" false
    ∷ fold_refused S 1 256 0 0 10
    ∷ fold_refused S 0 256 8192 2048 11
    ∷ fold_refused S 0 255 8192 99999 12
    ∷ fold_refused S 0 2 160 304 0
    ∷ fold_refused S 0 2 159 304 12
    ∷ fold_refused S 0 2 160 303 13
    -- replay
    ∷ replayed S "1\nb0\n00\n1\n1\n0\n.\n" true
    ∷ replayed S "1\nb0\n00\n1\n1\n0\n0\n.\n" false
    ∷ replayed H "1\nb0\n1\n\n.\n" true
    ∷ replayed "aag 1 0 1 0 0 1\n2 2 1\n3\n" "1\nb0\n0\n\n.\n" false
    ∷ replayed F "1\nb0\n1\n0\n.\n" true
    ∷ replayed F "1\nb0\n1\n1\n.\n" false
    ∷ no_witness S "1\nb1\n00\n1\n1\n0\n.\n"
    ∷ no_witness S "1\nb0\n00\n.\n"
    ∷ no_witness S "1\nb0\n00\n1\n1\n0\n"
    ∷ no_witness S "1\nb0\n00\n1\n1\n0\n.\n\n"
    ∷ no_witness S "1\nb0\n0\n1\n1\n0\n.\n"
    ∷ no_witness S "1\nb0\n00\nx\n.\n"
    ∷ no_witness S "1\nb0 \n00\n1\n.\n"
    ∷ witnessed H "1\nb0\n1\n" 0 false
    ∷ witnessed H "1\nb0\n1\n" 256 true
    ∷ witnessed H "1\nb0\n1\n" 257 false
    -- fold: each text breaks one rule
    ∷ folded S 0 2 "aag 4 3 0 1 1 0 0\n2\n4\n6\n8\n8 2 4\n" false
    ∷ folded S 0 2 "aag 4 3 0 1 1 0 0\n2\n4\n6\n9\n8 4 2\n" false
    ∷ folded S 0 2 "aag 5 3 0 1 2 0 0\n2\n4\n6\n8\n8 4 2\n10 6 4\n" false
    ∷ folded S 0 2 "aag 5 3 0 1 2 0 0\n2\n4\n6\n10\n8 4 2\n10 8 4\n" false
    ∷ folded S 0 2 "aag 5 3 0 1 1 0 0\n2\n4\n6\n8\n8 4 2\n" false
    ∷ folded S 0 1 "aag 2 2 0 1 0 0 0\n2\n4\n0\n" true
    ∷ folded S 0 1 "aag 3 2 0 1 1 0 0\n2\n4\n6\n6 3 2\n" false
    ∷ folded X 0 0 "aag 5 2 0 1 3 0 0\n2\n4\n11\n6 5 2\n8 4 3\n10 9 7\n" true
    ∷ folded X 0 0 "aag 5 2 0 1 3 0 0\n2\n4\n10\n6 4 2\n8 5 3\n10 9 7\n" true
    ∷ folded F 0 0 "aag 3 2 0 1 1 0 0\n2\n4\n6\n6 5 2\n" true
    ∷ folded G 0 0 "aag 3 2 0 1 1 0 0\n2\n4\n6\n6 4 3\n" true
    ∷ folded "aag 2 2 0 0 0 1\n2\n4\n2\n" 0 0 "aag 2 2 0 1 0 0 0\n2\n4\n2\n" true
    ∷ folded "aag 2 2 0 0 0 1\n2\n4\n2\n" 0 0 "aag 5 2 0 1 3 0 0\n2\n4\n11\n6 4 2\n8 5 2\n10 9 7\n" false
    ∷ folded S 0 1 "aag 5 2 0 1 3 0 0\n2\n4\n10\n6 4 2\n8 5 3\n10 8 6\n" false
    ∷ folded S 0 2 "aag 5 3 0 1 1 0 0\n2\n4\n6\n10\n10 4 2\n" false
    ∷ folded R 0 0 "aag 5 3 0 1 2 0 0\n2\n4\n6\n10\n8 4 2\n10 8 6\n" true
    ∷ folded S 0 2 "aag 5 3 0 1 2 0 0\n2\n4\n6\n10\n8 4 2\n10 8 2\n" false
    -- operand 2 or its complement, with gate 8 of operands 6 and 2, 2 and 6, 6 and 3, or its complement 9
    ∷ operand_below 6 2 8 2 true
    ∷ operand_below 6 2 8 3 true
    ∷ operand_below 6 2 9 3 true
    ∷ operand_below 6 2 9 2 false
    ∷ operand_below 6 2 8 4 false
    ∷ operand_below 6 2 8 6 true
    ∷ operand_below 7 2 8 6 true
    ∷ operand_below 7 2 9 6 true
    ∷ operand_below 7 2 9 7 false
    ∷ operand_pairs 5 2 5 2 true
    ∷ operand_pairs 5 2 5 4 false
    ∷ operand_pairs 5 2 4 2 false
    ∷ operand_pair 5 2 true
    ∷ operand_pair 3 2 false
    ∷ operand_pair 2 2 false
    ∷ operand_pair 2 1 false
    ∷ operand_pair 0 2 false
    -- load, cause by cause, and write
    ∷ refusal 8192 "" 1
    ∷ refusal 8192 "aag 1 1 0 0 1" 2
    ∷ refusal 8192 "aag 1 1 0 0\n" 2
    ∷ refusal 8192 "aag 0 0 0 0 0 0 0 0 0 0\n" 2
    ∷ refusal 8192 "aag 00 0 0 0 0\n" 2
    ∷ refusal 8192 "aag 10000000000 0 0 0 0\n" 2
    ∷ refusal 8192 "aag 9999999999 0 0 0 0\n" 3
    ∷ refusal 8192 "aag 1 1 0 0 1\n" 3
    ∷ refusal 33032 "aag 4096 0 0 0 0\n" 0
    ∷ refusal 40000 "aag 4097 0 0 0 0\n" 3
    ∷ refusal 33032 "aag 4096 256 1024 64 2816 16 16 0 0\n" 5
    ∷ refusal 33032 "aag 4096 257 0 0 0\n" 3
    ∷ refusal 33032 "aag 4096 0 1025 0 0\n" 3
    ∷ refusal 33032 "aag 4096 0 0 65 0\n" 3
    ∷ refusal 33032 "aag 4096 0 0 0 3072\n" 5
    ∷ refusal 33032 "aag 4096 0 0 0 3073\n" 3
    ∷ refusal 33032 "aag 4096 0 0 0 0 17\n" 3
    ∷ refusal 33032 "aag 4096 0 0 0 0 0 17\n" 3
    ∷ refusal 33032 "aag 4096 0 0 0 0 0 0 1\n" 3
    ∷ refusal 33032 "aag 4096 0 0 0 0 0 0 0 1\n" 3
    ∷ refusal 33032 "aag 4095 0 1024 0 3072\n" 3
    ∷ refusal 33032 "aag 4096 0 1024 0 3072\n" 5
    ∷ refusal 33031 "aag 4096 0 0 0 0\n" 4
    ∷ refusal 8192 "aag 992 0 0 0 0\n" 4
    ∷ refusal 8192 "aag 991 0 0 0 0\n" 0
    ∷ refusal 8192 "aag 1 1 0 0 0\n" 5
    ∷ refusal 8192 "aag 1 1 0 0 0\n2" 5
    ∷ refusal 8192 "aag 1 1 0 0 0\n2\nc" 5
    ∷ refusal 8192 "aag 1 1 0 0 0\n2\nc\nanything" 0
    ∷ refusal 8192 "aag 1 1 0 0 0\n2\ni0 x\n" 5
    ∷ refusal 8192 "aag 1 1 0 0 0\n4294967298\n" 6
    ∷ refusal 8192 "aag 2 2 0 0 0\n2\n2\n" 6
    ∷ refusal 8192 "aag 2 1 1 0 0\n2\n4 2 2\n" 6
    ∷ refusal 8192 "aag 2 2 0 0 0\n2\n6\n" 6
    ∷ refusal 8192 "aag 1 1 0 1 0\n2\n4\n" 6
    ∷ refusal 8192 "aag 2 1 0 0 1\n2\n2 2 2\n" 6
    ∷ refusal 8192 "aag 1 1 0 0 0\n0\n" 6
    ∷ refusal 8192 "aag 2 1 0 0 1\n2\n5 2 2\n" 6
    ∷ refusal 8192 "aag 2 0 1 0 0\n2 4\n" 7
    ∷ refusal 8192 "aag 2 0 0 1 0\n4\n" 7
    ∷ refusal 8192 "aag 2 0 0 0 0 1\n4\n" 7
    ∷ refusal 8192 "aag 2 0 0 0 0 0 1\n5\n" 7
    ∷ refusal 8192 "aag 2 0 0 0 1\n2 4 0\n" 7
    ∷ refusal 8192 "aag 2 0 0 0 1\n2 1 5\n" 7
    -- 5 before 6, 6 before 7, 7 before 8, each over the whole file
    ∷ refusal 8192 "aag 2 1 0 0 1\n3\n4 2\n" 5
    ∷ refusal 8192 "aag 2 0 0 1 1\n2\n5 0 0\n" 6
    ∷ refusal 8192 "aag 3 0 0 1 1\n4\n2 2 2\n" 7
    ∷ refusal 8192 "aag 2 1 0 0 1\n2\n4 4 2\n" 8
    ∷ refusal 8192 "aag 3 0 0 0 3\n2 1 4\n4 6 0\n6 1 2\n" 8
    ∷ refusal 8192 "aag 3 0 0 0 3\n2 1 4\n4 6 0\n6 1 0\n" 0
    ∷ long_file "aag 0 0 0 0 0\nc\n" 65520 0
    ∷ long_file "aag 0 0 0 0 0\nc\n" 65521 1
    ∷ written "aag 5 1 3 0 1 1\n2\n4 2 0\n6 4 1\n10 1 10\n8\n8 4 6\nc\n" "aag 5 1 3 0 1 1 0\n2\n4 2\n6 4 1\n10 1 10\n8\n8 4 6\n"
    -- binary form: an empty circuit, a half adder, a counter with a reset and a tail, and padded groups
    ∷ binary_loaded "aig 0 0 0 0 0\n" [] "aag 0 0 0 0 0 0 0\n"
    ∷ binary_loaded "aig 5 2 0 2 3\n10\n6\n" (2 ∷ 2 ∷ 3 ∷ 2 ∷ 1 ∷ 2 ∷ []) "aag 5 2 0 2 3 0 0\n2\n4\n10\n6\n6 4 2\n8 5 3\n10 9 7\n"
    ∷ binary_loaded "aig 3 1 1 0 1 1 1\n7 1\n6\n3\n" (1 ∷ 3 ∷ 99 ∷ 10 ∷ 7 ∷ []) "aag 3 1 1 0 1 1 1\n2\n4 7 1\n6\n3\n6 5 2\n"
    ∷ binary_loaded "aig 2 0 2 0 0 1\n4 2\n3\n5\n" [] "aag 2 0 2 0 0 1 0\n2 4 2\n4 3\n5\n"
    ∷ binary_loaded "aig 2 1 0 1 1\n4\n" (130 ∷ 128 ∷ 128 ∷ 128 ∷ 0 ∷ 0 ∷ []) "aag 2 1 0 1 1 0 0\n2\n4\n4 2 2\n"
    ∷ binary_loaded "aig 65 64 0 0 1\n" (128 ∷ 1 ∷ 2 ∷ []) "aag 65 64 0 0 1 0 0\n2\n4\n6\n8\n10\n12\n14\n16\n18\n20\n22\n24\n26\n28\n30\n32\n34\n36\n38\n40\n42\n44\n46\n48\n50\n52\n54\n56\n58\n60\n62\n64\n66\n68\n70\n72\n74\n76\n78\n80\n82\n84\n86\n88\n90\n92\n94\n96\n98\n100\n102\n104\n106\n108\n110\n112\n114\n116\n118\n120\n122\n124\n126\n128\n130 2 0\n"
    -- six groups, more than 32 bits, a difference cut short, absent, operands that are not below the gate or below 0
    ∷ binary_refusal "aig 2 1 0 1 1\n4\n" (130 ∷ 128 ∷ 128 ∷ 128 ∷ 128 ∷ 0 ∷ 0 ∷ []) 15
    ∷ binary_refusal "aig 2 1 0 1 1\n4\n" (130 ∷ 128 ∷ 128 ∷ 128 ∷ 16 ∷ 0 ∷ []) 15
    ∷ binary_refusal "aig 2 1 0 1 1\n4\n" (2 ∷ []) 15
    ∷ binary_refusal "aig 2 1 0 1 1\n4\n" (2 ∷ 128 ∷ []) 15
    ∷ binary_refusal "aig 2 1 0 1 1\n4\n" [] 15
    ∷ binary_refusal "aig 2 1 0 1 1\n4\n" (0 ∷ 2 ∷ []) 15
    ∷ binary_refusal "aig 2 1 0 1 1\n4\n" (5 ∷ 0 ∷ []) 15
    ∷ binary_refusal "aig 2 1 0 1 1\n4\n" (4 ∷ 0 ∷ []) 0
    ∷ binary_refusal "aig 2 1 0 1 1\n4\n" (2 ∷ 3 ∷ []) 15
    ∷ binary_refusal "aig 2 1 0 1 1\n4\n" (2 ∷ 2 ∷ []) 0
    -- the earlier fault: lines, gates, tail; then the causes from 6 on
    ∷ binary_refusal "aig 2 1 0 1 1\n4 \n" (0 ∷ 2 ∷ []) 5
    ∷ binary_refusal "aig 2 1 0 1 1\n4\n" (0 ∷ 2 ∷ 99 ∷ []) 15
    ∷ binary_refusal "aig 2 1 0 1 1\n4\n" (2 ∷ 2 ∷ 99 ∷ []) 5
    ∷ binary_refusal "aig 2 1 0 1 1\n6\n" (2 ∷ 2 ∷ 99 ∷ []) 5
    ∷ binary_refusal "aig 2 1 0 1 1\n6\n" (2 ∷ 2 ∷ []) 6
    ∷ binary_refusal "aig 2 1 0 1 1\n4294967300\n" (2 ∷ 2 ∷ []) 6
    ∷ binary_refusal "aig 2 1 1 0 0\n2 2\n" [] 6
    ∷ binary_refusal "aig 2 1 1 0 0\n2 4\n" [] 0
    ∷ binary_refusal "aig 2 1 1 0 0\n2 4 4\n" [] 5
    ∷ binary_refusal "aig 3 1 0 1 1\n4\n" (2 ∷ 2 ∷ []) 3
    ∷ binary_refusal "aig 1 1 0 1 1\n4\n" (2 ∷ 2 ∷ []) 3
    ∷ binary_refusal "aig 992 1 0 0 0\n" [] 3
    ∷ binary_refusal "aig 2 1 0 1\n4\n" (2 ∷ 2 ∷ []) 2
    ∷ binary_refusal "aog 2 1 0 1 1\n4\n" (2 ∷ 2 ∷ []) 2
    -- circuit memory and signature words
    ∷ stored "aag 5 1 2 1 1 1 1\n2\n4 2 1\n6 4\n8\n9\n3\n8 4 6\n"
    (5 ∷ 1 ∷ 2 ∷ 1 ∷ 1 ∷ 1 ∷ 1 ∷ 2 ∷ 4 ∷ 2 ∷ 1 ∷ 6 ∷ 4 ∷ 0 ∷ 8 ∷ 9 ∷ 3 ∷ 8 ∷ 4 ∷ 6 ∷ 0 ∷ 0 ∷ [])
    ∷ drawn 1 7806831264735756412
    ∷ drawn 2 9396908728118811419
    ∷ patterned 0 1 true
    ∷ patterned 5 31 false
    ∷ patterned 5 32 true
    ∷ patterned 6 0 false
    ∷ patterned 6 2 true
    ∷ patterned 7 0 true
    ∷ []
