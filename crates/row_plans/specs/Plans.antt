-- Which inputs and gates a bad line needs, and orders of the latches as variables of a diagram. What an order is good for is no part of any
-- claim: it is a function of the circuit. Assumes nothing.
use Rattle.std.specs.Prelude.{◌≡◌, Bool, false, cond, List, [], ◌∷◌, ◌++◌, map, ℕ, zero, suc, ◌+◌, ◌-◌, ◌%◌, ltb, leb, length, get_or, set, replicate}
use Rattle.std.proofs.lemmas.List.Edits.{sets}
use Rattle.aiger.specs.Lists.{upto}
use Rattle.aiger.specs.Bits.{odd}
use Rattle.aiger.specs.Circuit.{Circuit, Gate, var}
use Rattle.meaning.specs.Frame.{input_at, latch_at, gate_at}
use Rattle.influence.specs.Cone.{marked, marks, kept_below}
use Rattle.diagram_rows.specs.Rows.{Plan}

-- ---- inputs and gates

-- the inputs that are marked, in the order of the file
abbrev pub inputs_of : Circuit → List ℕ → List ℕ
inputs_of c ms = kept_below (λ i. marked ms (input_at c i)) (length c.inputs)

-- f of the numbers below n that pass, in their order
unfoldable pub listed : (ℕ → Bool) → (ℕ → ℕ) → ℕ → List ℕ
listed p f zero = []
listed p f (suc n) = cond (p n) (listed p f n ++ (f n ∷ [])) (listed p f n)

-- the gates that are marked, in the order that is given
abbrev pub gates_of : Circuit → List ℕ → List ℕ → List ℕ
gates_of c ms order = listed (λ k. marked ms (gate_at c (get_or order k 0)).lit) (λ k. get_or order k 0) (length c.gates)

-- ---- latches

-- marks in which a latch that was not met has its place in the file and 2, a list of places, and how many are in it
pub record Meeting : Type 0 where
  pub marks : List ℕ
  pub list : List ℕ
  pub count : ℕ

-- the marks with the places of these latches
unfoldable pub numbered : Circuit → List ℕ → List ℕ → List ℕ
numbered c [] ms = ms
numbered c (j ∷ js) ms = numbered c js (set ms (var (latch_at c j).lit) ((j + 2) % 4294967296))

-- variable v is met: where it is a latch that was not met before, and there is room, it is the next of the list
unfoldable pub met : ℕ → Meeting → Meeting
met v s =
    cond (ltb s.count (length s.list))
    (cond (ltb 1 (get_or s.marks v 0))
    (record { marks = set s.marks v 1; list = set s.list s.count (get_or s.marks v 0 - 2); count = s.count + 1 }) s)
    s

-- the operands of a gate, if it is marked
unfoldable pub met_gate : Gate → Meeting → Meeting
met_gate g s = cond (marked s.marks g.lit) (met (var g.right) (met (var g.left) s)) s

-- the first n of the gates f, the last one first
unfoldable pub met_gates : (ℕ → Gate) → ℕ → Meeting → Meeting
met_gates f zero s = s
met_gates f (suc n) s = met_gates f n (met_gate (f n) s)

unfoldable pub met_latches : Circuit → List ℕ → Meeting → Meeting
met_latches c [] s = s
met_latches c (j ∷ js) s = met_latches c js (met (var (latch_at c j).lit) s)

-- n words of a list from the first on, or from the n-th on backward
abbrev pub turned : Bool → ℕ → List ℕ → List ℕ
turned backward n xs = map (λ k. get_or xs (cond backward (n - (k + 1)) k) 0) (upto n)

-- so many words with these latches at the front
abbrev pub copied : List ℕ → List ℕ
copied js = sets (replicate 1024 0) 0 (turned false (length js) js)

-- before any latch was met; the latches stand in the list, so that it holds no others
abbrev pub unmet : Circuit → List ℕ → List ℕ → Meeting
unmet c js ms = record { marks = numbered c js ms; list = copied js; count = 0 }

-- the operands of all gates that are marked, in the order that is given, the last one first
abbrev pub met_all : Circuit → List ℕ → Meeting → Meeting
met_all c order s = met_gates (λ k. gate_at c (get_or order k 0)) (length c.gates) s

-- the same from `which` 2 on
abbrev pub met_first : Circuit → List ℕ → ℕ → Meeting → Meeting
met_first c order which s = cond (ltb 1 which) (met_all c order s) s

-- latches as the gates meet them, from `which` 2 on; then those that are left, in the order of the file
unfoldable pub meeting : Circuit → List ℕ → List ℕ → ℕ → List ℕ → Meeting
meeting c ms order which js = met_latches c js (met_first c order which (unmet c js ms))

-- Orders of latches: 0 file, 1 file backward, 2 as the gates meet them from the last one down, 3 that backward.
unfoldable pub arranged : Circuit → List ℕ → List ℕ → ℕ → List ℕ → List ℕ
arranged c ms order which js = turned (odd which) (length js) (meeting c ms order which js).list

-- ---- plans

unfoldable pub planned : Circuit → List ℕ → List ℕ → ℕ → List ℕ → Plan
planned c ms order which js =
    record { latches = arranged c ms order which js; inputs = inputs_of c ms; gates = gates_of c ms order }

-- the words of a plan
abbrev pub plan_words : Plan → List ℕ
plan_words p =
    length p.latches ∷ length p.inputs ∷ length p.gates ∷ (p.latches ++ (p.inputs ++ p.gates))

-- ---- in words

abbrev pub meeting_of : List ℕ → List ℕ → ℕ → Meeting
meeting_of ms xs n = record { marks = ms; list = xs; count = n }

-- a list was written from `at` on, and ends at r
pub record Listed (xs : List ℕ) (at : ℕ) (before after : List ℕ) (r : ℕ) : Type 0 where
  pub words : after ≡ sets before at xs
  pub end : r ≡ at + length xs

-- a plan was written at the front, and at most four inputs matter
pub record Planned (p : Plan) (before after : List ℕ) (r : Bool) : Type 0 where
  pub words : after ≡ sets before 0 (plan_words p)
  pub few : r ≡ leb (length p.inputs) 4
