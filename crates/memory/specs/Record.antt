-- Records of nodes in memory, as the code reads them. Every definition is total: a word past the end is 0, a store past the end changes
-- nothing, and a node that is not in the netlist has a record of zeros. Assumes nothing.
--
-- Words 0 and 1 of a record are the operands (edge 2v is node v, 2v + 1 its complement); a free bit v, and node 0, is its own conjunction:
-- both operands are 2v. Word 2 is what is known of the node in every hit: `fixed`, `bit_at` and the first fan-out are its digits. Words 3
-- to 13 guide the search and are part of no claim: place in the working clause, reason, value, level, watches of the two literals, an
-- entry of the trail, an entry of the heap, activity, next fan-outs after those of the node's two operands.
use Rattle.std.specs.Prelude.{◌≡◌, cond, List, ℕ, ◌+◌, ◌-◌, ◌*◌, ◌/◌, ◌%◌, eqb, leb, get_or, set}

-- what a step leaves: the words and a number
pub record Counted : Type 0 where
  pub words : List ℕ
  pub count : ℕ

pub record Told (w : List ℕ) (n : ℕ) (to : Counted) : Type 0 where
  pub words : w ≡ to.words
  pub count : n ≡ to.count

abbrev pub counted : List ℕ → ℕ → Counted
counted w n = record { words = w; count = n }

-- the word that names no clause, no reason and no place in a list of watches
abbrev pub undef : ℕ
undef = 4294967295

-- the largest word
abbrev pub largest : ℕ
largest = 4294967295

unfoldable pub successor : ℕ → ℕ
successor i = cond (eqb i largest) i (i + 1)

abbrev pub place : ℕ → ℕ → ℕ
place v f = 14 * v + f

-- word f of the record of node v, of so many nodes
unfoldable pub field : List ℕ → ℕ → ℕ → ℕ → ℕ
field w nodes v f = cond (leb nodes v) 0 (get_or w (place v f) 0)

unfoldable pub stored : List ℕ → ℕ → ℕ → ℕ → ℕ → List ℕ
stored w nodes v f x = cond (leb nodes v) w (set w (place v f) x)

-- the complement of a literal: 2v for node v, 2v + 1 for its complement
unfoldable pub opposite : ℕ → ℕ
opposite l = cond (eqb (l % 2) 0) (l + 1) (l - 1)

-- the digits of word 2: 1 where the node is true in every hit and 2 where it is false in every hit; the bit of the floor, or 2 where the
-- hit does not depend on the node; the first fan-out
abbrev pub fixed : ℕ → ℕ
fixed fact = fact % 4

abbrev pub bit_at : ℕ → ℕ
bit_at fact = fact / 4 % 4

abbrev pub first_fan : ℕ → ℕ
first_fan fact = fact / 16

-- Heads of clauses stand from the last of so many words downward, six words for a clause: where its literals begin, counted from the first
-- word after the records; its length and 2 to the power 20 times its glue; the next clause in either watch list; the two literals watched
unfoldable pub head_place : ℕ → ℕ → ℕ → ℕ
head_place words c f = words + f - (6 * c + 6)

abbrev pub head : List ℕ → ℕ → ℕ → ℕ → ℕ
head w words c f = get_or w (head_place words c f) 0

abbrev pub headed : List ℕ → ℕ → ℕ → ℕ → ℕ → List ℕ
headed w words c f x = set w (head_place words c f) x

-- Literals of clauses stand after the records: the one i words after place p
abbrev pub literal : List ℕ → ℕ → ℕ → ℕ → ℕ
literal w nodes p i = get_or w (14 * nodes + p + i) 0

abbrev pub written : List ℕ → ℕ → ℕ → ℕ → ℕ → List ℕ
written w nodes p i x = set w (14 * nodes + p + i) x
