-- The clause that explains a value holds in every hit. Assumes nothing.
use mathlib.Core.Path.{◌≡◌, refl, sym, subst}
use mathlib.Core.Bool.{Bool, true, false, cond}
use mathlib.Core.List.{List}
use Prim.Native.Nat.{ℕ, ◌+◌, ◌-◌, ◌*◌, ◌/◌, ◌%◌, ◌≤◌, ◌<◌}
use native.Mathlib.Omega.{arith}
use borrow.Author.Tests.{leb-false}
use lib.Dec.{T, eqb, leb}
use lib.ListN.{length}
use lib.Seq.{get_or-set_same}
use Rattle.memory.specs.Record.{field, opposite, written}
use Rattle.memory.specs.declared.Netlist.{Netlist}
use Rattle.memory.specs.declared.Arena.{Arena}
use Rattle.clauses.specs.Clause.{Always}
use Rattle.clauses.proofs.Resolution.{opposite-node, opposite-sign}
use Rattle.reasons.specs.Reason.{is_false}
use Rattle.reasons.specs.Claims.{Sound}
use Rattle.reasons.proofs.Valid.{sound-same, false-always}
use Rattle.reasons.proofs.Frame.{written_same}
use Rattle.resolve.specs.Draft.{Drafted, draft_of, drafted, started, draft_at}
use Rattle.resolve.proofs.Sound.{Drafting, lost, start-sound}
use Rattle.analysis.specs.Analysis.{expanded_all}
use Rattle.analysis.proofs.Sound.{expand-all-sound}
use Rattle.learning.specs.declared.Search.{Search}
use Rattle.learning.proofs.Keeps.{Keeps, keeps-refl, keeps-set, start-keeps, expand-all-keeps}
use Rattle.choices.specs.Choices.{started_literal, explained}

opposite-twice : (l : ℕ) → opposite (opposite l) ≡ l
opposite-twice l =
    omega (arith, opposite-node l, opposite-sign l, opposite-node (opposite l), opposite-sign (opposite l))

module _ (hit : (ℕ → Bool) → Type 0) (net : Netlist) where
  -- a step of the working clause: it holds in every hit, and operands and bits stay
  abbrev pub Explains : Arena → List ℕ → Drafted → Type 0
  Explains arena w t = Drafting hit net arena t.words t.draft × Keeps net w t.words

  literal-explains : (arena : Arena) (w : List ℕ) (l : ℕ) → Sound hit net arena w → Always hit l → Explains arena w (started_literal w net arena l)
  unfolding started_literal
  literal-explains arena w l sound always = go (leb net.words (14 * net.nodes + arena.used + 6 * arena.count)) refl
    where
      go : (b : Bool) → leb net.words (14 * net.nodes + arena.used + 6 * arena.count) ≡ b
          → Explains arena w (cond b (drafted w (draft_of 0 false)) (drafted (written w net.nodes arena.used 0 l) (draft_of 1 true)))
      go true e = (lost hit net arena w 0 sound (omega (arith, sound.room)), keeps-refl net w)
      go false e =
          let free = leb-false net.words (14 * net.nodes + arena.used + 6 * arena.count) e in
          let at = 14 * net.nodes + arena.used + 0 in (
            record {
              sound = sound-same (written_same net arena w sound.room 0 l (omega arith)) sound;
              fits = omega arith;
              valid = λ z a h. (l, (0, omega arith, get_or-set_same w at l 0 (omega (arith, sound.within))), always a h);
            },
            keeps-set net w at l (omega arith),
          )

  either : (arena : Arena) (w : List ℕ) (b : Bool) (s t : Drafted) → Explains arena w s → Explains arena w t → Explains arena w (cond b s t)
  either arena w true s t p q = p
  either arena w false s t p q = q

  pub explain-explains : (w : List ℕ) (s : Search) (l : ℕ) → Sound hit net s.arena w → Explains s.arena w (explained w net s l)
  unfolding explained
  explain-explains w s l sound = go (is_false w net.nodes (opposite l)) refl
    where
      go : (b : Bool) → is_false w net.nodes (opposite l) ≡ b
          → Explains s.arena w
          (cond b (started_literal w net s.arena l)
          (cond (eqb l net.root) (started w net s.arena (4 * (l / 2 % 1073741824)))
          (expanded_all w net s.arena (field w net.nodes (l / 2) 4) s.trail.length)))
      go true e =
          literal-explains s.arena w l sound
          (subst (Always hit) (opposite-twice l) (false-always sound (opposite l) (subst T (sym e) tt)))
      go false e =
          let r = 4 * (l / 2 % 1073741824) in
          let why = field w net.nodes (l / 2) 4 in
          let n = s.trail.length in
          either s.arena w (eqb l net.root) (started w net s.arena r) (expanded_all w net s.arena why n)
          (start-sound hit net s.arena w r sound, start-keeps net s.arena w r)
          (expand-all-sound hit net s.arena w why n sound, expand-all-keeps net s.arena w why n)
