-- What a search knows after a choice, and what its verdicts say, whatever trail, levels, reasons and heap say. Assumes nothing.
use mathlib.Core.Path.{◌≡◌, refl, sym, ap, ap₂, ◌∙◌, subst}
use mathlib.Core.Bool.{Bool, true, false, cond, ◌&&◌}
use mathlib.Core.List.{List}
use Prim.Native.Nat.{ℕ, suc, ◌+◌, ◌-◌, ◌*◌, ◌/◌, ◌%◌, ◌≤◌, ◌<◌}
use native.Mathlib.Decide.{ℕ_discrete}
use native.Mathlib.Omega.{arith}
use borrow.Author.Tests.{eq-eqb, ne_eqb, eqb-true, eqb-false}
use lib.Dec.{T, eqb, leb, ltb}
use lib.ListN.{length}
use Rattle.aiger.specs.Frames.{value}
use Rattle.memory.specs.Record.{field, opposite}
use Rattle.memory.specs.declared.Netlist.{Netlist}
use Rattle.clauses.specs.Floor.{Floor, prefix}
use Rattle.resolve.specs.Draft.{Drafted}
use Rattle.analysis.specs.Analysis.{expanded_all}
use Rattle.analysis.proofs.Sound.{expand-all-sound}
use Rattle.floor.specs.declared.Refutation.{Refutation}
use Rattle.floor.specs.declared.Refutation.TheVariants.{Raised, NoHit, Unlearnt}
use Rattle.floor.specs.Place.{refuted, edge, evaluated}
use Rattle.floor.proofs.Bits.{prefix_same}
use Rattle.floor.proofs.Rise.{bits}
use Rattle.floor.proofs.Evaluation.{evaluate-same, show-hit}
use Rattle.trail.specs.Trail as R
use Rattle.trail.proofs.Frame.{decide-same}
use Rattle.heap.specs.Heap.{node_at, skimmed}
use Rattle.heap.proofs.Frame.{skim-same}
use Rattle.learning.specs.declared.Search.{Search}
use Rattle.learning.specs.Learning.{Searched, searched, with_trail, with_heap, with_order, retreated}
use Rattle.learning.proofs.Keeps.{keeps_same, expand-all-keeps}
use Rattle.learning.proofs.Standing.{Standing, stand-on, stand-same}
use Rattle.learning.proofs.Sound.{Stands, retreat-stands}
use Rattle.choices.specs.Begun.{Begun}
use Rattle.choices.specs.Choices.{agreed, wish, with_agreed, ended, explained, less, smaller, released, concluded, contradicted, contradicted_by, contradicted_at_zero, taken, assumed, ordered, changed, shown_words, is_shown, confirmed, modelled, decided_active, decided_next, chosen}
use Rattle.choices.proofs.Explained.{Explains, explain-explains}
use Rattle.choices.proofs.Refuted.{Known, refute-known}

-- the place of the floor
abbrev pub floor_at : Netlist → List ℕ → ℕ
floor_at net w = prefix (bits w net.nodes) net.free

module _ (hit : (ℕ → Bool) → Type 0) (hits : ℕ → Type 0) (val : ℕ → ℕ → Bool) (net : Netlist) (begun : List ℕ) (begin : Begun hit hits val net begun) where
  -- while there is no verdict the search knows what it knew; verdict 1: the root is true at the floor, no place below it hits, and it is no
  -- lower than at the beginning; verdict 2: no place hits; any other: no place below the floor hits
  pub record Holds (t : Searched) : Type 0 where
    pub going : t.search.order.verdict ≡ 0 → Standing hit hits net begun t.search.arena t.words
    pub found : t.search.order.verdict ≡ 1
        → Floor hits (floor_at net t.words) × T (value (val (floor_at net t.words)) net.root) × (floor_at net begun ≤ floor_at net t.words)
    pub clear : t.search.order.verdict ≡ 2 → (x : ℕ) → hits x → ⊥
    pub out : (t.search.order.verdict ≡ 1 → ⊥) → (t.search.order.verdict ≡ 2 → ⊥) → Floor hits (floor_at net t.words)

  pub holds : (t : Searched) → Stands hit hits net begun t → Holds t
  holds t s =
      record {
        going = λ e. s.0;
        found = λ e. absurd (omega (arith, s.1));
        clear = λ e. absurd (omega (arith, s.1));
        out = λ p q. s.0.floor;
      }

  pub either : (b : Bool) (s t : Searched) → Holds s → Holds t → Holds (cond b s t)
  either true s t p q = p
  either false s t p q = q

  ended-out : (w : List ℕ) (s : Search) → Floor hits (floor_at net w) → Holds (searched w (ended s 3))
  ended-out w s f = record { going = λ e. absurd (omega arith); found = λ e. absurd (omega arith); clear = λ e. absurd (omega arith); out = λ p q. f }

  ended-none : (w : List ℕ) (s : Search) → ((x : ℕ) → hits x → ⊥) → Holds (searched w (ended s 2))
  ended-none w s f = record { going = λ e. absurd (omega arith); found = λ e. absurd (omega arith); clear = λ e. f; out = λ p q. absurd (q refl) }

  release-stands : (w : List ℕ) (s : Search) (i : ℕ) → Stands hit hits net begun (searched w s) → Stands hit hits net begun (released w net s i)
  unfolding released
  release-stands w s i given = go (eqb (field w net.nodes i 5) 0)
    where
      go : (b : Bool)
          → Stands hit hits net begun
          (cond b (retreated w net s (less (field w net.nodes i 6)))
          (searched w (with_order s (with_agreed s.order (smaller s.order.agreed (less i))))))
      go true = retreat-stands hit hits net begun w s (less (field w net.nodes i 6)) given
      go false = given

  -- by a working clause that holds in every hit
  clause-holds : (w : List ℕ) (s : Search) (d : Drafted) → Explains hit net s.arena w d → Stands hit hits net begun (searched w s)
      → Holds (contradicted_by d net s)
  unfolding concluded
  clause-holds w s d e given =
      let stand = stand-on hit hits net begun given.0 e.1 e.0.sound in
      let r = refuted d.words net s.arena d.draft in
      go r.words r.says (refute-known hit hits val net begun begin s.arena d.words d.draft e.0 stand)
    where
      go : (u : List ℕ) (r : Refutation) → Known hit hits net begun s.arena u r → Holds (concluded u net s r)
      go u (Raised i) k = holds (released u net s i) (release-stands u s i (k, given.1))
      go u NoHit k = ended-none u s k
      go u Unlearnt k = ended-out u s k.floor

  contradict-holds : (w : List ℕ) (s : Search) (l : ℕ) → Stands hit hits net begun (searched w s) → Holds (contradicted w net s l)
  unfolding contradicted
  contradict-holds w s l given = clause-holds w s (explained w net s l) (explain-explains hit net w s l given.0.sound) given

  pub zero-holds : (w : List ℕ) (s : Search) (r : ℕ) → Stands hit hits net begun (searched w s) → Holds (contradicted_at_zero w net s r)
  unfolding contradicted_at_zero
  zero-holds w s r given =
      let n = s.trail.length in
      clause-holds w s (expanded_all w net s.arena r n)
      (expand-all-sound hit net s.arena w r n given.0.sound, expand-all-keeps net s.arena w r n) given

  take-holds : (w : List ℕ) (s : Search) (l : ℕ) → Stands hit hits net begun (searched w s) → Holds (taken w net s l)
  unfolding taken
  take-holds w s l given =
      let t = R.decided w net s.trail l in
      holds (searched t.words (with_trail s t.state))
      (stand-same hit hits net begun given.0 (decide-same net s.arena given.0.sound.room w s.trail l), given.1)

  assume-holds : (w : List ℕ) (s : Search) (v : ℕ) → Stands hit hits net begun (searched w s) → Holds (assumed w net s v)
  unfolding assumed
  assume-holds w s v given =
      let l = wish w net.nodes v in
      either (eqb (R.value w net.nodes l) 0) (contradicted w net s (opposite l)) (taken w net s l) (contradict-holds w s (opposite l) given)
      (take-holds w s l given)

  pub change-stands : (w : List ℕ) (s : Search) (sweep : Bool) (goal more : ℕ) → Stands hit hits net begun (searched w s)
      → Stands hit hits net begun (changed w net s sweep goal more)
  unfolding changed
  change-stands w s sweep goal more given = retreat-stands hit hits net begun w (with_order s (ordered s.order sweep goal more)) 0 given

  -- evaluation at the floor
  confirm-holds : (w : List ℕ) (s : Search) → Stands hit hits net begun (searched w s) → Holds (confirmed w net s)
  unfolding confirmed
  confirm-holds w s given = go (is_shown w net) refl
    where
      go : (b : Bool) → is_shown w net ≡ b
          → Holds (cond b (searched (shown_words w net) (ended s 1)) (searched (shown_words w net) (ended s 3)))
      go false e =
          let same = evaluate-same net s.arena w given.0.sound.room 0 net.nodes in
          ended-out (shown_words w net) s (stand-same hit hits net begun given.0 same).floor
      go true e =
          let same = evaluate-same net s.arena w given.0.sound.room 0 net.nodes in
          let stand = stand-same hit hits net begun given.0 same in
          let op = given.0.operand in
          let at : floor_at net w ≡ floor_at net (shown_words w net) =
          prefix_same (bits w net.nodes) (bits (shown_words w net) net.nodes) net.free
          (λ j h. ap (λ (d : ℕ). cond (eqb d 1) 1 0) (sym ((keeps_same net same).bit j))) in
          let true-at =
          show-hit net w val begin.free (omega (arith, given.0.sound.room, given.0.sound.within)) begin.none
          (λ x v h l. begin.obeyed x v h l ∙ operands (val x) v (op v 0 (omega arith)) (op v 1 (omega arith)))
          (λ v h l. subst (λ (k : ℕ). k / 2 < v) (sym (op v 0 (omega arith))) (begin.left v h l))
          (λ v h l. subst (λ (k : ℕ). k / 2 < v) (sym (op v 1 (omega arith))) (begin.right v h l)) begin.root e in
          record {
            going = λ z. absurd (omega arith);
            found = λ z. (stand.floor, subst (λ (p : ℕ). T (value (val p) net.root)) at true-at, stand.from);
            clear = λ z. absurd (omega arith);
            out = λ p q. absurd (p refl);
          }
        where
          operands : (a : ℕ → Bool) (v : ℕ) → field w net.nodes v 0 ≡ field begun net.nodes v 0
              → field w net.nodes v 1 ≡ field begun net.nodes v 1
              → (value a (field begun net.nodes v 0) && value a (field begun net.nodes v 1))
              ≡ (value a (field w net.nodes v 0) && value a (field w net.nodes v 1))
          operands a v p q = sym (ap₂ (λ (x y : ℕ). value a x && value a y) p q)

  model-holds : (w : List ℕ) (s : Search) → Stands hit hits net begun (searched w s) → Holds (modelled w net s)
  unfolding modelled
  model-holds w s given =
      let a = agreed w net.nodes s.order.agreed (net.free - s.order.agreed) in
      let c = changed w net s true (a + 1) 30000 in
      either (ltb a net.free) c (confirmed w net s) (holds c (change-stands w s true (a + 1) 30000 given)) (confirm-holds w s given)

  active-holds : (w : List ℕ) (s : Search) → Stands hit hits net begun (searched w s) → Holds (decided_active w net s)
  unfolding decided_active
  active-holds w s given =
      let h = skimmed w net.nodes s.heap s.heap.size in
      let t = with_heap s h.heap in
      let l = 2 * (node_at h.words net.nodes 0 % 65536) + 1 in
      let on : Stands hit hits net begun (searched h.words t) =
      (stand-same hit hits net begun given.0 (skim-same net s.arena given.0.sound.room w s.heap s.heap.size), given.1) in
      either (eqb h.heap.size 0) (modelled h.words net t) (taken h.words net t l) (model-holds h.words t on) (take-holds h.words t l on)

  next-holds : (w : List ℕ) (s : Search) (end : ℕ) → Stands hit hits net begun (searched w s) → Holds (decided_next w net s end)
  unfolding decided_next
  next-holds w s end given =
      let a = agreed w net.nodes s.order.agreed (end - s.order.agreed) in
      let t = with_order s (with_agreed s.order a) in
      either (ltb a end) (assumed w net t (a + 1)) (decided_active w net t) (assume-holds w t (a + 1) given) (active-holds w t given)

  pub choose-holds : (w : List ℕ) (s : Search) → Stands hit hits net begun (searched w s) → Holds (chosen w net s)
  unfolding chosen
  choose-holds w s given =
      let x = R.value w net.nodes net.root in
      let l = opposite net.root in
      let a = decided_next w net s net.free in
      let b = decided_next w net s s.order.goal in
      either (eqb x 2) (taken w net s net.root) (cond (eqb x 0) (contradicted w net s l) (cond s.order.sweep a b)) (take-holds w s net.root given)
      (either (eqb x 0) (contradicted w net s l) (cond s.order.sweep a b) (contradict-holds w s l given)
      (either s.order.sweep a b (next-holds w s net.free given) (next-holds w s s.order.goal given)))
