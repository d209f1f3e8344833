-- Steps of the working clause leave the operands of gates and the bits of the floor as they are. Assumes nothing.
use mathlib.Core.Path.{◌≡◌, refl, sym, ap, ◌∙◌}
use mathlib.Core.Bool.{Bool, true, false, cond}
use mathlib.Core.List.{List}
use Prim.Native.Nat.{ℕ, zero, suc, ◌+◌, ◌-◌, ◌*◌, ◌/◌, ◌%◌, ◌≤◌, ◌<◌}
use native.Mathlib.Decide.{ℕ_discrete, dec_lt}
use native.Mathlib.Omega.{arith}
use borrow.Author.Tests.{ltb-false, lt-leb, le-leb}
use lib.Dec.{eqb, leb, ltb}
use lib.ListN.{length, get_or, set}
use lib.Seq.{get_or-set_same}
use Rattle.memory.specs.Record.{Counted, counted, field, place, stored, written, headed, head_place, bit_at, opposite}
use Rattle.memory.specs.declared.Netlist.{Netlist}
use Rattle.memory.specs.declared.Arena.{Arena}
use Rattle.memory.specs.declared.Draft.{Draft}
use Rattle.memory.specs.declared.Trail.{Trail}
use Rattle.reasons.specs.Reason.{is_false, is_reason, literal_of}
use Rattle.reasons.specs.Claims.{Same, Sound}
use Rattle.reasons.proofs.Frame.{field-other, stored-field}
use Rattle.resolve.specs.Draft.{Drafted, draft_of, drafted, length_of, draft_at, pos_of, is_member, taken, appended, included, removed, excluded, joined, gathered, started, resolved}
use Rattle.analysis.specs.declared.Analysis.{Analysis}
use Rattle.analysis.specs.Analysis.{Analysed, reached, sum, less, touched, tallied, draft, analysis_of, touched_all, recounted, replaced}
use Rattle.analysis.specs.Analysis.{visited, descended, followed, analysed, unfolded, expanded, expanded_from, expanded_all}
use Rattle.kept.specs.Kept.{Arenaed, arena_of, arenaed, fixed_word, fixed, settled, length_word, with_head, kept}
use Rattle.floor.specs.Place.{bit_of}

pub record Keeps (net : Netlist) (w u : List ℕ) : Type 0 where
  pub operand : (v f : ℕ) → f < 2 → field u net.nodes v f ≡ field w net.nodes v f
  pub bit : (v : ℕ) → bit_of u net.nodes v ≡ bit_of w net.nodes v

module _ (net : Netlist) where
  pub keeps-refl : (w : List ℕ) → Keeps net w w
  keeps-refl w = record { operand = λ v f h. refl; bit = λ v. refl }

  pub keeps-trans : {w u x : List ℕ} → Keeps net w u → Keeps net u x → Keeps net w x
  keeps-trans a b = record { operand = λ v f h. b.operand v f h ∙ a.operand v f h; bit = λ v. b.bit v ∙ a.bit v }

  pub keeps_same : {arena : Arena} {w u : List ℕ} → Same net arena w u → Keeps net w u
  unfolding bit_of
  keeps_same s = record { operand = λ v f h. s.node v f (omega arith); bit = λ v. ap bit_at (s.node v 2 (omega arith)) }

  pub keeps-stored : (w : List ℕ) (v f x : ℕ) → 3 ≤ f → f < 14 → Keeps net w (stored w net.nodes v f x)
  unfolding bit_of
  keeps-stored w v f x low high =
      record {
        operand = λ u h l. stored-field w net.nodes v f x u h high (omega arith) (λ e z. omega arith);
        bit = λ u. ap bit_at (stored-field w net.nodes v f x u 2 high (omega arith) (λ e z. omega arith));
      }

  pub keeps-set : (w : List ℕ) (i x : ℕ) → 14 * net.nodes ≤ i → Keeps net w (set w i x)
  unfolding bit_of
  keeps-set w i x past =
      record {
        operand = λ u h l. field-other w net.nodes u h i x (λ s z. omega arith);
        bit = λ u. ap bit_at (field-other w net.nodes u 2 i x (λ s z. omega arith));
      }

  either : (w : List ℕ) (b : Bool) (s t : Drafted) → Keeps net w s.words → Keeps net w t.words → Keeps net w (cond b s t).words
  either w true s t p q = p
  either w false s t p q = q

  module _ (arena : Arena) where
    -- literal x is written at place p of the working clause, and the word of its node follows
    put_keeps : (w : List ℕ) (p x : ℕ) → Keeps net w (stored (written w net.nodes arena.used p x) net.nodes (x / 2) 3 p)
    put_keeps w p x =
        let u = written w net.nodes arena.used p x in
        keeps-trans (keeps-set w (14 * net.nodes + arena.used + p) x (omega arith)) (keeps-stored u (x / 2) 3 p (omega arith) (omega arith))

    append-keeps : (w : List ℕ) (d : Draft) (l : ℕ) → Keeps net w (appended w net arena d l).words
    unfolding appended
    append-keeps w d l =
        let new = drafted (stored (written w net.nodes arena.used d.length l) net.nodes (l / 2) 3 d.length) (draft_of (d.length + 1) d.whole) in
        either w (leb net.words (taken net arena d)) (drafted w (draft_of d.length false)) new (keeps-refl w) (put_keeps w d.length l)

    include-keeps : (w : List ℕ) (d : Draft) (l : ℕ) → Keeps net w (included w net arena d l).words
    unfolding included
    include-keeps w d l =
        let new = appended w net arena d l in
        either w (is_false w net.nodes l) (drafted w d) (cond (is_member w net arena d l) (drafted w d) new) (keeps-refl w)
        (either w (is_member w net arena d l) (drafted w d) new (keeps-refl w) (append-keeps w d l))

    exclude-keeps : (w : List ℕ) (d : Draft) (l : ℕ) → Keeps net w (excluded w net arena d l).words
    unfolding excluded removed
    exclude-keeps w d l =
        let p = pos_of w net l in
        let x = draft_at w net arena (d.length - 1) in
        let bad = drafted w (draft_of d.length false) in
        let new = drafted (stored (written w net.nodes arena.used p x) net.nodes (x / 2) 3 p) (draft_of (d.length - 1) d.whole) in
        either w (leb d.length p) bad (cond (eqb (draft_at w net arena p) l) new bad) (keeps-refl w)
        (either w (eqb (draft_at w net arena p) l) new bad (put_keeps w p x) (keeps-refl w))

    join-keeps : (w : List ℕ) (d : Draft) (l x : ℕ) → Keeps net w (joined w net arena d l x).words
    unfolding joined
    join-keeps w d l x = either w (eqb l x) (drafted w d) (included w net arena d l) (keeps-refl w) (include-keeps w d l)

    gather-keeps : (w : List ℕ) (d : Draft) (r x k : ℕ) → Keeps net w (gathered w net arena d r x k).words
    unfolding gathered
    gather-keeps w d r x zero = keeps-refl w
    gather-keeps w d r x (suc k) =
        let s = joined w net arena d (literal_of w net r k) x in
        keeps-trans (join-keeps w d (literal_of w net r k) x) (gather-keeps s.words s.draft r x k)

    pub start-keeps : (w : List ℕ) (r : ℕ) → Keeps net w (started w net arena r).words
    unfolding started
    start-keeps w r =
        either w (is_reason net arena r) (gathered w net arena (draft_of 0 true) r 0 (length_of w net r)) (drafted w (draft_of 0 false))
        (gather-keeps w (draft_of 0 true) r 0 (length_of w net r)) (keeps-refl w)

    resolve-keeps : (w : List ℕ) (d : Draft) (r x : ℕ) → Keeps net w (resolved w net arena d r x).words
    unfolding resolved
    resolve-keeps w d r x =
        let s = excluded w net arena d (opposite x) in
        let new = gathered s.words net arena s.draft r x (length_of s.words net r) in
        either w (is_reason net arena r) new (drafted w (draft_of d.length false))
        (keeps-trans (exclude-keeps w d (opposite x)) (gather-keeps s.words s.draft r x (length_of s.words net r))) (keeps-refl w)

    touch-keeps : (w : List ℕ) (v step : ℕ) → Keeps net w (touched w net.nodes v step)
    unfolding touched
    touch-keeps w v step = keeps-stored w v 11 (sum (field w net.nodes v 11) step) (omega arith) (omega arith)

    touch-all-keeps : (w : List ℕ) (from level step k n : ℕ) → Keeps net w (touched_all w net arena from level step k n).words
    unfolding touched_all
    touch-all-keeps w from level step zero n = keeps-refl w
    touch-all-keeps w from level step (suc k) n =
        let v = draft_at w net arena k / 2 in
        let u = touched w net.nodes v step in
        let m = tallied w net.nodes v level n in
        go (leb (suc k) from) (counted w n) (touched_all u net arena from level step k m) (keeps-refl w)
        (keeps-trans (touch-keeps w v step) (touch-all-keeps u from level step k m))
      where
        go : (b : Bool) (s t : Counted) → Keeps net w s.words → Keeps net w t.words → Keeps net w (cond b s t).words
        go true s t p q = p
        go false s t p q = q

    replace-keeps : (w : List ℕ) (a : Analysis) (l level step : ℕ) → Keeps net w (replaced w net arena a l level step).words
    unfolding replaced recounted
    replace-keeps w a l level step =
        let why = field w net.nodes (l / 2) 4 in
        let s = resolved w net arena (draft a) why l in
        keeps-trans (resolve-keeps w (draft a) why l) (touch-all-keeps s.words (less a.length) level step s.draft.length 0)

    choice : (w : List ℕ) (b : Bool) (s t : Analysed) → Keeps net w s.words → Keeps net w t.words → Keeps net w (cond b s t).words
    choice w true s t p q = p
    choice w false s t p q = q

    visit-keeps : (w : List ℕ) (a : Analysis) (t level step : ℕ) → Keeps net w (visited w net arena a t level step).words
    unfolding visited
    visit-keeps w a t level step =
        let l = field w net.nodes t 9 in
        choice w (is_member w net arena (draft a) (opposite l)) (replaced w net arena a l level step) (reached w a) (replace-keeps w a l level step)
        (keeps-refl w)

    descend-keeps : (w : List ℕ) (a : Analysis) (level step t : ℕ) → Keeps net w (descended w net arena a level step t).words
    unfolding descended
    descend-keeps w a level step zero = keeps-refl w
    descend-keeps w a level step (suc t) =
        let s = visited w net arena a t level step in
        choice w (leb a.current 1) (reached w a) (descended s.words net arena s.now level step t) (keeps-refl w)
        (keeps-trans (visit-keeps w a t level step) (descend-keeps s.words s.now level step t))

    pub analyse-keeps : (w : List ℕ) (trail : Trail) (r step : ℕ) → Keeps net w (analysed w net arena trail r step).words
    unfolding analysed followed
    analyse-keeps w trail r step =
        let s = started w net arena r in
        let d = s.draft in
        let c = touched_all s.words net arena 0 trail.level step d.length 0 in
        keeps-trans (start-keeps w r)
        (keeps-trans (touch-all-keeps s.words 0 trail.level step d.length 0)
        (descend-keeps c.words (analysis_of d c.count) trail.level step trail.length))

    expand-keeps : (w : List ℕ) (d : Draft) (t : ℕ) → Keeps net w (expanded w net arena d t).words
    unfolding expanded unfolded
    expand-keeps w d t =
        let l = field w net.nodes t 9 in
        let why = field w net.nodes (l / 2) 4 in
        let old = drafted w d in
        let new = resolved w net arena d why l in
        either w (is_reason net arena why) (cond (is_member w net arena d (opposite l)) new old) old
        (either w (is_member w net arena d (opposite l)) new old (resolve-keeps w d why l) (keeps-refl w)) (keeps-refl w)

    expand-from-keeps : (w : List ℕ) (d : Draft) (t : ℕ) → Keeps net w (expanded_from w net arena d t).words
    unfolding expanded_from
    expand-from-keeps w d zero = keeps-refl w
    expand-from-keeps w d (suc t) =
        let s = expanded w net arena d t in
        keeps-trans (expand-keeps w d t) (expand-from-keeps s.words s.draft t)

    pub expand-all-keeps : (w : List ℕ) (r n : ℕ) → Keeps net w (expanded_all w net arena r n).words
    unfolding expanded_all
    expand-all-keeps w r n =
        let s = started w net arena r in
        keeps-trans (start-keeps w r) (expand-from-keeps s.words s.draft n)

    -- the head of a clause stands after the records
    pub keep-keeps : (w : List ℕ) (d : Draft) (glue : ℕ) → Keeps net w (kept w net arena d glue).words
    unfolding kept with_head head_place
    keep-keeps w d glue = go (ltb net.words (taken net arena d + 6)) (leb 1048576 d.length) d.whole refl
      where
        place' : ℕ → ℕ
        place' f = head_place net.words arena.count f

        to : Bool → Bool → Bool → Arenaed
        to a b c =
            cond a (arenaed w arena)
            (cond b (arenaed w arena)
            (cond c
            (arenaed
            (headed (headed w net.words arena.count 0 arena.used) net.words arena.count 1 (length_word d.length glue))
            (arena_of (arena.used + d.length) (arena.count + 1))) (arenaed w arena)))

        go : (a b c : Bool) → ltb net.words (taken net arena d + 6) ≡ a → Keeps net w (to a b c).words
        go true b c e = keeps-refl w
        go false true c e = keeps-refl w
        go false false false e = keeps-refl w
        go false false true e =
            let h = ltb-false net.words (taken net arena d + 6) e in
            let u = headed w net.words arena.count 0 arena.used in
            keeps-trans (keeps-set w (head_place net.words arena.count 0) arena.used (omega arith))
            (keeps-set u (head_place net.words arena.count 1) (length_word d.length glue) (omega arith))

  -- ---- a literal that is fixed

  fixed-bit : (f l : ℕ) → bit_at (fixed_word f l) ≡ bit_at f
  fixed-bit f l = omega arith

  module _ (w : List ℕ) (long : 14 * net.nodes ≤ length w) where
    -- the bit of the node whose word 2 is stored, where the bit of that word is the old one
    bit-at : (v x : ℕ) → bit_at x ≡ bit_at (field w net.nodes v 2) → bit_at (field (stored w net.nodes v 2 x) net.nodes v 2) ≡ bit_at (field w net.nodes v 2)
    unfolding stored field
    bit-at v x e =
        elim (dec_lt v net.nodes) [
          | yes h ↦ (rw (lt-leb net.nodes v h) (ap bit_at (get_or-set_same w (place v 2) x 0 (omega arith)) ∙ (rw (lt-leb net.nodes v h) at e)))
          | no h ↦ (let q : net.nodes ≤ v = omega arith in rw (le-leb net.nodes v q))
        ]

    fix-bit : (l v : ℕ) → bit_of (fixed w net.nodes l) net.nodes v ≡ bit_of w net.nodes v
    unfolding bit_of fixed
    fix-bit l v =
        let old = field w net.nodes (l / 2) 2 in
        let x = fixed_word old l in
        elim (ℕ_discrete v (l / 2)) [
          | no n ↦ ap bit_at (stored-field w net.nodes (l / 2) 2 x v 2 (omega arith) (omega arith) (λ s z. n s))
          | yes s ↦
              ap (λ (k : ℕ). bit_at (field (stored w net.nodes (l / 2) 2 x) net.nodes k 2)) s ∙ bit-at (l / 2) x (fixed-bit old l)
              ∙ sym (ap (λ (k : ℕ). bit_at (field w net.nodes k 2)) s)
        ]

    fix-keeps : (l : ℕ) → Keeps net w (fixed w net.nodes l)
    unfolding fixed
    fix-keeps l =
        let x = fixed_word (field w net.nodes (l / 2) 2) l in
        record {
          operand = λ v f h. stored-field w net.nodes (l / 2) 2 x v f (omega arith) (omega arith) (λ e z. omega arith);
          bit = λ v. fix-bit l v;
        }

    pub settle-keeps : (arena : Arena) (d : Draft) → Keeps net w (settled w net arena d)
    unfolding settled
    settle-keeps arena d = go d.whole (eqb d.length 1)
      where
        go : (a b : Bool) → Keeps net w (cond a (cond b (fixed w net.nodes (draft_at w net arena 0)) w) w)
        go true true = fix-keeps (draft_at w net arena 0)
        go true false = keeps-refl w
        go false b = keeps-refl w
