-- The working clause and its resolution, as functions of the words. Assumes nothing.
use Rattle.std.specs.Prelude.{◌≡◌, Bool, true, false, cond, List, ℕ, zero, suc, ◌+◌, ◌-◌, ◌*◌, ◌/◌, eqb, leb}
use Rattle.memory.specs.Record.{field, stored, literal, written, opposite}
use Rattle.memory.specs.declared.Netlist.{Netlist}
use Rattle.memory.specs.declared.Arena.{Arena}
use Rattle.memory.specs.declared.Draft.{Draft}
use Rattle.reasons.specs.Reason as R

-- what a step leaves: the words and the working clause
pub record Drafted : Type 0 where
  pub words : List ℕ
  pub draft : Draft

pub record Left (w : List ℕ) (d : Draft) (to : Drafted) : Type 0 where
  pub words : w ≡ to.words
  pub draft : d ≡ to.draft

abbrev pub draft_of : ℕ → Bool → Draft
draft_of n b = record { length = n; whole = b }

abbrev pub drafted : List ℕ → Draft → Drafted
drafted w d = record { words = w; draft = d }

abbrev pub length_of : List ℕ → Netlist → ℕ → ℕ
length_of w net r = R.length_of w net r

-- the literal at place i of the working clause
abbrev pub draft_at : List ℕ → Netlist → Arena → ℕ → ℕ
draft_at w net arena i = literal w net.nodes arena.used i

-- where the word of literal l's node says that it stands
abbrev pub pos_of : List ℕ → Netlist → ℕ → ℕ
pos_of w net l = field w net.nodes (l / 2) 3

unfoldable pub is_member : List ℕ → Netlist → Arena → Draft → ℕ → Bool
is_member w net arena d l = cond (leb d.length (pos_of w net l)) false (eqb (draft_at w net arena (pos_of w net l)) l)

-- the words that are taken
abbrev pub taken : Netlist → Arena → Draft → ℕ
taken net arena d = 14 * net.nodes + arena.used + 6 * arena.count + d.length

unfoldable pub appended : List ℕ → Netlist → Arena → Draft → ℕ → Drafted
appended w net arena d l =
    cond (leb net.words (taken net arena d)) (drafted w (draft_of d.length false))
    (drafted (stored (written w net.nodes arena.used d.length l) net.nodes (l / 2) 3 d.length)
    (draft_of (d.length + 1) d.whole))

unfoldable pub included : List ℕ → Netlist → Arena → Draft → ℕ → Drafted
included w net arena d l =
    cond (R.is_false w net.nodes l) (drafted w d) (cond (is_member w net arena d l) (drafted w d) (appended w net arena d l))

-- the last literal takes the place p
unfoldable pub removed : List ℕ → Netlist → Arena → Draft → ℕ → ℕ → Drafted
removed w net arena d p x =
    drafted (stored (written w net.nodes arena.used p x) net.nodes (x / 2) 3 p) (draft_of (d.length - 1) d.whole)

unfoldable pub excluded : List ℕ → Netlist → Arena → Draft → ℕ → Drafted
excluded w net arena d l =
    cond (leb d.length (pos_of w net l)) (drafted w (draft_of d.length false))
    (cond (eqb (draft_at w net arena (pos_of w net l)) l) (removed w net arena d (pos_of w net l) (draft_at w net arena (d.length - 1)))
    (drafted w (draft_of d.length false)))

unfoldable pub joined : List ℕ → Netlist → Arena → Draft → ℕ → ℕ → Drafted
joined w net arena d l x = cond (eqb l x) (drafted w d) (included w net arena d l)

-- the first k literals of reason r but x join, the last of them first
unfoldable pub gathered : List ℕ → Netlist → Arena → Draft → ℕ → ℕ → ℕ → Drafted
gathered w net arena d r x zero = drafted w d
gathered w net arena d r x (suc k) =
    gathered (joined w net arena d (R.literal_of w net r k) x).words net arena (joined w net arena d (R.literal_of w net r k) x).draft r x k

unfoldable pub started : List ℕ → Netlist → Arena → ℕ → Drafted
started w net arena r =
    cond (R.is_reason net arena r) (gathered w net arena (draft_of 0 true) r 0 (length_of w net r)) (drafted w (draft_of 0 false))

unfoldable pub resolved : List ℕ → Netlist → Arena → Draft → ℕ → ℕ → Drafted
resolved w net arena d r x =
    cond (R.is_reason net arena r)
    (gathered (excluded w net arena d (opposite x)).words net arena (excluded w net arena d (opposite x)).draft r x
    (length_of (excluded w net arena d (opposite x)).words net r)) (drafted w (draft_of d.length false))
