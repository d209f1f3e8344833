-- Kept clauses and fixed literals, as functions of the words. Assumes nothing.
use Rattle.std.specs.Prelude.{◌≡◌, Bool, true, cond, List, ℕ, zero, suc, ◌+◌, ◌-◌, ◌*◌, ◌/◌, ◌%◌, eqb, leb, ltb}
use Rattle.memory.specs.Record.{undef, field, stored, headed}
use Rattle.memory.specs.declared.Netlist.{Netlist}
use Rattle.memory.specs.declared.Arena.{Arena}
use Rattle.memory.specs.declared.Draft.{Draft}
use Rattle.resolve.specs.Draft.{draft_at, taken}

-- what a step leaves: the words and the arena
pub record Arenaed : Type 0 where
  pub words : List ℕ
  pub arena : Arena

pub record Left (w : List ℕ) (a : Arena) (to : Arenaed) : Type 0 where
  pub words : w ≡ to.words
  pub arena : a ≡ to.arena

abbrev pub arena_of : ℕ → ℕ → Arena
arena_of used count = record { used = used; count = count }

abbrev pub arenaed : List ℕ → Arena → Arenaed
arenaed w a = record { words = w; arena = a }

-- word 2 of a record, once literal l of its node is fixed
abbrev pub fixed_word : ℕ → ℕ → ℕ
fixed_word fact l = fact - fact % 4 + (1 + l % 2)

unfoldable pub fixed : List ℕ → ℕ → ℕ → List ℕ
fixed w nodes l = stored w nodes (l / 2) 2 (fixed_word (field w nodes (l / 2) 2) l)

unfoldable pub settled : List ℕ → Netlist → Arena → Draft → List ℕ
settled w net arena d = cond d.whole (cond (eqb d.length 1) (fixed w net.nodes (draft_at w net arena 0)) w) w

-- the length of a clause and 2 to the power 20 times its glue, of which the last six bits count
abbrev pub length_word : ℕ → ℕ → ℕ
length_word n glue = n + 1048576 * (glue % 64)

unfoldable pub with_head : List ℕ → ℕ → ℕ → ℕ → ℕ → ℕ → List ℕ
with_head w words c place n glue = headed (headed w words c 0 place) words c 1 (length_word n glue)

unfoldable pub kept : List ℕ → Netlist → Arena → Draft → ℕ → Arenaed
kept w net arena d glue =
    cond (ltb net.words (taken net arena d + 6)) (arenaed w arena)
    (cond (leb 1048576 d.length) (arenaed w arena)
    (cond d.whole
    (arenaed (with_head w net.words arena.count arena.used d.length glue) (arena_of (arena.used + d.length) (arena.count + 1)))
    (arenaed w arena)))

-- the word of the first clause that watches literal x
abbrev pub watch : ℕ → ℕ
watch x = 7 + x % 2

unfoldable pub attached : List ℕ → Netlist → ℕ → ℕ → ℕ → List ℕ
attached w net c s x =
    stored (headed (headed w net.words c (2 + s) (field w net.nodes (x / 2) (watch x))) net.words c (4 + s) x) net.nodes
    (x / 2) (watch x) c

unfoldable pub detached : List ℕ → Netlist → ℕ → List ℕ
detached w net zero = w
detached w net (suc n) = detached (stored (stored w net.nodes n 7 undef) net.nodes n 8 undef) net n
