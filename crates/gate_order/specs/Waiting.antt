-- What the words say from which the order of the gates is found: for how many operands each gate waits, which slots use a variable, and in
-- which blocks of 64 gates one may be ready. Slot s is operand s % 2 of gate s / 2. Assumes nothing.
use Rattle.std.specs.Prelude.{◌≡◌, Bool, cond, List, ◌++◌, ℕ, suc, ◌+◌, ◌*◌, ◌/◌, ◌≤◌, ◌<◌, eqb, length, get_or, drop, set}
use Rattle.std.proofs.Math.Option.{Option, none, some}
use Rattle.aiger.specs.Lists.{last_below}
use Rattle.gate_order.specs.Order.{has, taken}

-- every element is below n
abbrev pub Below : List ℕ → ℕ → Type 0
Below xs n = (j : ℕ) → j < length xs → get_or xs j 0 < n

-- 1 for an operand without a number
abbrev pub lacks : List ℕ → ℕ → ℕ
lacks table v = cond (has table v) 0 1

-- the operands of gate i that have no number; 3 for a gate that has one itself
unfoldable pub waits : List ℕ → List ℕ → List ℕ → ℕ → ℕ
waits vars ops table i =
    cond (eqb (get_or table (get_or vars i 0) 0) 0) (lacks table (get_or ops (2 * i) 0) + lacks table (get_or ops (2 * i + 1) 0)) 3

-- slot s uses variable v
abbrev pub uses : List ℕ → ℕ → ℕ → Bool
uses ops v s = eqb (get_or ops s 0) v

-- a slot as a word: 0 for none
abbrev pub link : Option ℕ → ℕ
link none = 0
link (some s) = suc s

-- word v of links has the last slot below n that uses variable v, and word 4097 + s the last slot before s that uses the variable of slot s
pub record Users (ops : List ℕ) (n : ℕ) (links : List ℕ) : Type 0 where
  pub starts : (v : ℕ) → v < 4097 → get_or links v 0 ≡ link (last_below (uses ops v) n)
  pub goes : (s : ℕ) → s < n → get_or links (4097 + s) 0 ≡ link (last_below (uses ops (get_or ops s 0)) s)

-- a gate that waits for nothing stands in a marked block
abbrev pub Marked : List ℕ → List ℕ → Type 0
Marked waiting marks = (i : ℕ) → i < length waiting → get_or waiting i 0 ≡ 0 → 0 < get_or marks (i / 64) 0

-- the words of all gates
pub record Waiting (vars ops table waiting marks : List ℕ) : Type 0 where
  pub long : length waiting ≡ length vars
  pub blocks : length vars ≤ 64 * length marks
  pub counts : (i : ℕ) → i < length vars → get_or waiting i 0 ≡ waits vars ops table i
  pub marked : Marked waiting marks

-- marks that stay, or are added
pub record Grown (marks marks' : List ℕ) : Type 0 where
  pub long : length marks' ≡ length marks
  pub kept : (b : ℕ) → 0 < get_or marks b 0 → 0 < get_or marks' b 0

-- count w stands at i, and the block of i is marked where it is 0
pub record Put (waiting marks : List ℕ) (i w : ℕ) (waiting' marks' : List ℕ) : Type 0 where
  pub count : waiting' ≡ set waiting i w
  pub grown : Grown marks marks'
  pub mark : w ≡ 0 → 0 < get_or marks' (i / 64) 0

-- r is the first place from `from` on and below `to` where 0 stands, or `to`
pub record FirstIn (waiting : List ℕ) (from to r : ℕ) : Type 0 where
  pub low : from ≤ r
  pub high : r ≤ to
  pub none_before : (i : ℕ) → from ≤ i → i < r → 0 < get_or waiting i 0
  pub here : r < to → get_or waiting r 0 ≡ 0

-- r is the first place of block b where 0 stands, or past all places where there is none
pub record BlockSeen (waiting marks : List ℕ) (b r : ℕ) (marks' : List ℕ) : Type 0 where
  pub long : length marks' ≡ length marks
  pub marked : Marked waiting marks'
  pub inside : r ≤ length waiting
  pub found : r < length waiting → (64 * b ≤ r) × (get_or waiting r 0 ≡ 0) × ((i : ℕ) → 64 * b ≤ i → i < r → 0 < get_or waiting i 0)
  pub none_here : length waiting ≤ r → (i : ℕ) → 64 * b ≤ i → i < 64 * (b + 1) → i < length waiting → 0 < get_or waiting i 0

-- r is the first place where 0 stands, or the number of places
abbrev pub FoundReady : List ℕ → ℕ → Type 0
FoundReady waiting r = FirstIn waiting 0 (length waiting) r

abbrev pub Zeros : List ℕ → Type 0
Zeros xs = (i : ℕ) → get_or xs i 0 ≡ 0

-- gates by their variables and those of their operands, two for each; the table has a word for each of these
pub record Gates (vars ops table : List ℕ) : Type 0 where
  pub pairs : length ops ≡ 2 * length vars
  pub few : length vars ≤ 3072
  pub known : Below vars (length table)
  pub used : Below ops (length table)

-- slot s uses v, and is below n
abbrev pub Awaits : List ℕ → ℕ → ℕ → ℕ → Type 0
Awaits ops v n s = (get_or ops s 0 ≡ v) × (s < n)

-- the counts are right but for gates with a slot below n that uses v
pub record Stale (vars ops table : List ℕ) (v n : ℕ) (waiting marks : List ℕ) : Type 0 where
  pub long : length waiting ≡ length vars
  pub blocks : length vars ≤ 64 * length marks
  pub counts : (i : ℕ) → i < length vars → (Awaits ops v n (2 * i) → ⊥) → (Awaits ops v n (2 * i + 1) → ⊥)
      → get_or waiting i 0 ≡ waits vars ops table i
  pub marked : Marked waiting marks

-- no two gates have one variable
abbrev pub Apart : List ℕ → Type 0
Apart vars = (i j : ℕ) → i < length vars → j < length vars → get_or vars i 0 ≡ get_or vars j 0 → i ≡ j

-- the gates in their order at the front, their count, and the table of numbers
pub record Numbered (vars ops : List ℕ) (k : ℕ) (table₀ order₀ : List ℕ) (r : ℕ) (table order : List ℕ) : Type 0 where
  pub count : r ≡ length (taken (length vars) vars ops k table₀).0
  pub listed : order ≡ (taken (length vars) vars ops k table₀).0 ++ drop r order₀
  pub numbers : table ≡ (taken (length vars) vars ops k table₀).1
