-- What is kept and what is fixed holds in every hit. Assumes nothing.
use mathlib.Core.Path.{◌≡◌, refl, sym, ap, ap₂, ◌∙◌, subst}
use mathlib.Core.Bool.{Bool, true, false, cond, ◌&&◌}
use mathlib.Core.List.{List}
use Prim.Native.Nat.{ℕ, zero, suc, ◌+◌, ◌-◌, ◌*◌, ◌/◌, ◌%◌, ◌≤◌, ◌<◌}
use native.Mathlib.Decide.{ℕ_discrete, dec_lt}
use native.Mathlib.Omega.{arith}
use borrow.Author.Tests.{ltb-true, ltb-false, leb-true, leb-false, eqb-true, eqb-false, le-leb, lt-leb}
use lib.Dec.{T, eqb, leb, ltb}
use lib.ListN.{length, get_or, set, length-set, get_or-eq_default}
use lib.Seq.{get_or-set_same, get_or-set_other}
use Rattle.aiger.specs.Frames.{value}
use Rattle.memory.specs.Record.{undef, field, place, stored, head, headed, head_place, literal}
use Rattle.memory.specs.Record as M
use Rattle.memory.specs.declared.Netlist.{Netlist}
use Rattle.memory.specs.declared.Arena.{Arena}
use Rattle.memory.specs.declared.Draft.{Draft}
use Rattle.clauses.specs.Clause.{Among, Valid, Always, GateOf}
use Rattle.clauses.proofs.Resolution.{single}
use Rattle.reasons.specs.Reason.{kept_length, kept_literal}
use Rattle.reasons.specs.Claims.{Same, Sound}
use Rattle.reasons.proofs.Valid.{same_refl, same-trans, sound-same}
use Rattle.reasons.proofs.Frame.{field-other, length-stored, stored-after, stored-field, stored_same, headed-same, stored_at, stored-none}
use Rattle.resolve.specs.Draft.{draft_at, taken}
use Rattle.resolve.proofs.Sound.{InDraft, Drafting}
use Rattle.kept.specs.Kept.{Arenaed, arena_of, arenaed, fixed_word, fixed, settled, length_word, with_head, kept, watch, attached, detached}

-- ---- fixed literals

module _ {hit : (ℕ → Bool) → Type 0} {net : Netlist} {arena : Arena} {w : List ℕ} (sound : Sound hit net arena w) where
  -- the literal that is fixed, or one that was
  fixed-case : (l k : ℕ) → Always hit l
      → M.fixed (field (fixed w net.nodes l) net.nodes (k / 2) 2) ≡ 1 + k % 2 → Always hit k
  unfolding fixed
  fixed-case l k always e =
      let old = field w net.nodes (l / 2) 2 in
      let x = fixed_word old l in
      elim (ℕ_discrete (k / 2) (l / 2)) [
        | no n ↦ sound.fixed k (ap M.fixed (sym (stored-field w net.nodes (l / 2) 2 x (k / 2) 2 (omega arith) (omega arith) (λ s z. n s))) ∙ e)
        | yes s ↦
            elim (dec_lt (l / 2) net.nodes) [
              | yes h ↦
                  let y : field (stored w net.nodes (l / 2) 2 x) net.nodes (k / 2) 2 ≡ x =
                  ap (λ (v : ℕ). field (stored w net.nodes (l / 2) 2 x) net.nodes v 2) s
                  ∙ stored_at w net.nodes (l / 2) 2 x (omega (arith, sound.room, sound.within)) (omega arith) h in
                  let z : M.fixed x ≡ 1 + k % 2 = ap M.fixed (sym y) ∙ e in
                  let same : l ≡ k = omega arith in
                  subst (Always hit) same always
              | no h ↦
                  let y = stored-none w net.nodes (l / 2) 2 x (omega arith) in
                  sound.fixed k (ap (λ (u : List ℕ). M.fixed (field u net.nodes (k / 2) 2)) (sym y) ∙ e)
            ]
      ]

  pub fix-sound : (l : ℕ) → Always hit l → Sound hit net arena (fixed w net.nodes l)
  unfolding fixed head_place
  fix-sound l always =
      let x = fixed_word (field w net.nodes (l / 2) 2) l in
      let u = stored w net.nodes (l / 2) 2 x in
      let room = sound.room in
      let part : (v f : ℕ) → f < 2 → field u net.nodes v f ≡ field w net.nodes v f =
      λ v f h. stored-field w net.nodes (l / 2) 2 x v f (omega arith) (omega arith) (λ e z. omega arith) in
      let word : (i : ℕ) → 14 * net.nodes ≤ i → get_or u i 0 ≡ get_or w i 0 = λ i h. stored-after w net.nodes (l / 2) 2 x i (omega arith) h in
      let top : (c f : ℕ) → c < arena.count → head u net.words c f ≡ head w net.words c f =
      λ c f h. word (head_place net.words c f) (omega arith) in
      let long : (c : ℕ) → c < arena.count → kept_length u net c ≡ kept_length w net c = λ c h. ap (λ (k : ℕ). k % 1048576) (top c 1 h) in
      record {
        room = room;
        within = omega (arith, sound.within, length-stored w net.nodes (l / 2) 2 x);
        gate = λ a h v s. sound.gate a h v s ∙ ap₂ (λ (p q : ℕ). value a p && value a q) (sym (part v 0 (omega arith))) (sym (part v 1 (omega arith)));
        zero = sound.zero;
        fixed = λ k e. fixed-case l k always e;
        inside = λ c h. omega (arith, sound.inside c h, top c 0 h, long c h);
        valid = λ c h a t.
            let r = sound.valid c h a t in
            let i = r.1.0 in
            let p = head w net.words c 0 in (
              r.0,
              (
                i,
                subst (λ (k : ℕ). i < k) (sym (long c h)) r.1.1,
                ap (λ (k : ℕ). get_or u (14 * net.nodes + k + i) 0) (top c 0 h) ∙ word (14 * net.nodes + p + i) (omega arith) ∙ r.1.2,
              ),
              r.2,
            );
      }

-- a working clause of one literal fixes it
pub settle-sound : (hit : (ℕ → Bool) → Type 0) (net : Netlist) (arena : Arena) (w : List ℕ) (d : Draft) → Drafting hit net arena w d
    → Sound hit net arena (settled w net arena d)
unfolding settled
settle-sound hit net arena w d given = go d.whole (eqb d.length 1) refl refl
  where
    go : (a b : Bool) → d.whole ≡ a → eqb d.length 1 ≡ b
        → Sound hit net arena (cond a (cond b (fixed w net.nodes (draft_at w net arena 0)) w) w)
    go true true e f =
        fix-sound given.sound (draft_at w net arena 0)
        (single hit (InDraft net arena w d) (draft_at w net arena 0)
        (λ l i. let n = eqb-true d.length 1 f in let z : i.0 ≡ 0 = omega (arith, i.1) in sym i.2 ∙ ap (draft_at w net arena) z) (given.valid e))
    go true false e f = given.sound
    go false b e f = given.sound

-- ---- kept clauses

-- the words with the head of the working clause
abbrev new : Netlist → Arena → List ℕ → Draft → ℕ → List ℕ
new net arena w d glue = headed (headed w net.words arena.count 0 arena.used) net.words arena.count 1 (length_word d.length glue)

-- the arena with the working clause
abbrev longer : Arena → Draft → Arena
longer arena d = arena_of (arena.used + d.length) (arena.count + 1)

module _ (hit : (ℕ → Bool) → Type 0) (net : Netlist) (arena : Arena) (w : List ℕ) (d : Draft) (given : Drafting hit net arena w d) (glue : ℕ)
    (free : taken net arena d + 6 ≤ net.words) (small : d.length < 1048576) (whole : d.whole ≡ true) where
  -- all words but those of the new head
  other : (i : ℕ) → (i ≡ head_place net.words arena.count 0 → ⊥) → (i ≡ head_place net.words arena.count 1 → ⊥)
      → get_or (new net arena w d glue) i 0 ≡ get_or w i 0
  other i n m =
      let u = headed w net.words arena.count 0 arena.used in
      get_or-set_other u (head_place net.words arena.count 1) i (length_word d.length glue) 0 m
      ∙ get_or-set_other w (head_place net.words arena.count 0) i arena.used 0 n

  place_at : head (new net arena w d glue) net.words arena.count 0 ≡ arena.used
  unfolding head_place
  place_at =
      let u = headed w net.words arena.count 0 arena.used in
      get_or-set_other u (head_place net.words arena.count 1) (head_place net.words arena.count 0) (length_word d.length glue) 0 (λ e. omega arith)
      ∙ get_or-set_same w (head_place net.words arena.count 0) arena.used 0 (omega (arith, given.sound.within))

  length_at : kept_length (new net arena w d glue) net arena.count ≡ d.length
  unfolding head_place
  length_at =
      let u = headed w net.words arena.count 0 arena.used in
      let e = length-set w (head_place net.words arena.count 0) arena.used in
      let q : length_word d.length glue % 1048576 ≡ d.length = omega arith in
      ap (λ (k : ℕ). k % 1048576)
      (get_or-set_same u (head_place net.words arena.count 1) (length_word d.length glue) 0 (omega (arith, given.sound.within)))
      ∙ q

  below : (i : ℕ) → i < 14 * net.nodes + arena.used + d.length → get_or (new net arena w d glue) i 0 ≡ get_or w i 0
  unfolding head_place
  below i h = other i (λ e. omega arith) (λ e. omega arith)

  head-old : (c f : ℕ) → c < arena.count → f < 2 → head (new net arena w d glue) net.words c f ≡ head w net.words c f
  unfolding head_place
  head-old c f h k = other (head_place net.words c f) (λ e. omega arith) (λ e. omega arith)

  field-old : (v f : ℕ) → f < 14 → field (new net arena w d glue) net.nodes v f ≡ field w net.nodes v f
  unfolding field
  field-old v f h = go (leb net.nodes v) refl
    where
      go : (b : Bool) → leb net.nodes v ≡ b → cond b 0 (get_or (new net arena w d glue) (place v f) 0) ≡ cond b 0 (get_or w (place v f) 0)
      go true e = refl
      go false e = let l = leb-false net.nodes v e in below (place v f) (omega arith)

  -- what is shown of the clauses before and of the new one
  each : {P : ℕ → Type 0} → ((c : ℕ) → c < arena.count → P c) → P arena.count → (c : ℕ) → c < arena.count + 1 → P c
  each {P} old last c h = elim (ℕ_discrete c arena.count) [ yes e ↦ subst P (sym e) last | no n ↦ old c (omega arith) ]

  literal-old : (c i : ℕ) → c < arena.count → i < kept_length w net c → kept_literal (new net arena w d glue) net c i ≡ kept_literal w net c i
  literal-old c i h l =
      let p = head w net.words c 0 in
      ap (λ (k : ℕ). get_or (new net arena w d glue) (14 * net.nodes + k + i) 0) (head-old c 0 h (omega arith))
      ∙ below (14 * net.nodes + p + i) (omega (arith, given.sound.inside c h))

  literal-new : (i : ℕ) → i < d.length → kept_literal (new net arena w d glue) net arena.count i ≡ draft_at w net arena i
  literal-new i l =
      ap (λ (k : ℕ). get_or (new net arena w d glue) (14 * net.nodes + k + i) 0) place_at ∙ below (14 * net.nodes + arena.used + i) (omega arith)

  new-sound : Sound hit net (longer arena d) (new net arena w d glue)
  new-sound =
      let u = new net arena w d glue in
      let s = given.sound in
      record {
        room = omega arith;
        within =
            let e = length-set w (head_place net.words arena.count 0) arena.used in
            let f = length-set (headed w net.words arena.count 0 arena.used) (head_place net.words arena.count 1) (length_word d.length glue) in
            omega (arith, s.within);
        gate = λ a h v l. s.gate a h v l ∙ ap₂ (λ (p q : ℕ). value a p && value a q) (sym (field-old v 0 (omega arith))) (sym (field-old v 1 (omega arith)));
        zero = s.zero;
        fixed = λ l e. s.fixed l (ap M.fixed (sym (field-old (l / 2) 2 (omega arith))) ∙ e);
        inside = each {P = λ c. head u net.words c 0 + kept_length u net c ≤ arena.used + d.length}
            (λ c h. omega (arith, s.inside c h, head-old c 0 h (omega arith), ap (λ (k : ℕ). k % 1048576) (head-old c 1 h (omega arith))))
            (omega (arith, place_at, length_at));
        valid = each {P = λ c. Valid hit (Among (kept_length u net c) (kept_literal u net c))}
            (λ c h a t.
            let r = s.valid c h a t in
            let i = r.1.0 in
            let n = ap (λ (k : ℕ). k % 1048576) (head-old c 1 h (omega arith)) in
            (r.0, (i, subst (λ (k : ℕ). i < k) (sym n) r.1.1, literal-old c i h r.1.1 ∙ r.1.2), r.2))
            (λ a t.
            let r = given.valid whole a t in
            let i = r.1.0 in
            (r.0, (i, subst (λ (k : ℕ). i < k) (sym length_at) r.1.1, literal-new i r.1.1 ∙ r.1.2), r.2));
      }

-- keeping the working clause keeps all claims: the clause that joins the others holds in every hit
pub keep-sound : (hit : (ℕ → Bool) → Type 0) (net : Netlist) (arena : Arena) (w : List ℕ) (d : Draft) (glue : ℕ) → Drafting hit net arena w d
    → Sound hit net (kept w net arena d glue).arena (kept w net arena d glue).words
unfolding kept with_head
keep-sound hit net arena w d glue given = go (ltb net.words (taken net arena d + 6)) (leb 1048576 d.length) d.whole refl refl refl
  where
    to : Bool → Bool → Bool → Arenaed
    to a b c = cond a (arenaed w arena) (cond b (arenaed w arena) (cond c (arenaed (new net arena w d glue) (longer arena d)) (arenaed w arena)))

    go : (a b c : Bool) → ltb net.words (taken net arena d + 6) ≡ a → leb 1048576 d.length ≡ b → d.whole ≡ c
        → Sound hit net (to a b c).arena (to a b c).words
    go true b c e f g = given.sound
    go false true c e f g = given.sound
    go false false false e f g = given.sound
    go false false true e f g =
        new-sound hit net arena w d given glue (ltb-false net.words (taken net arena d + 6) e) (leb-false 1048576 d.length f) g

-- no clause is kept
pub drop-sound : (hit : (ℕ → Bool) → Type 0) (net : Netlist) (arena : Arena) (w : List ℕ) → Sound hit net arena w → Sound hit net (arena_of 0 0) w
drop-sound hit net arena w sound =
    record {
      room = omega (arith, sound.room);
      within = sound.within;
      gate = sound.gate;
      zero = sound.zero;
      fixed = sound.fixed;
      inside = λ c h. absurd (omega arith);
      valid = λ c h. absurd (omega arith);
    }

-- ---- watches are part of no claim

module _ (net : Netlist) (arena : Arena) (room : 14 * net.nodes + arena.used + 6 * arena.count ≤ net.words) where
  pub attach-same : (w : List ℕ) (c s x : ℕ) → c < arena.count → s < 2 → Same net arena w (attached w net c s x)
  unfolding attached
  attach-same w c s x h l =
      let next = field w net.nodes (x / 2) (watch x) in
      let u = headed w net.words c (2 + s) next in
      let v = headed u net.words c (4 + s) x in
      same-trans (headed-same net arena w room c (2 + s) next h (omega arith) (omega arith))
      (same-trans (headed-same net arena u room c (4 + s) x h (omega arith) (omega arith))
      (stored_same net arena v room (x / 2) (watch x) c (omega arith) (omega arith)))

  pub detach-same : (w : List ℕ) (n : ℕ) → Same net arena w (detached w net n)
  unfolding detached
  detach-same w zero = same_refl net arena w
  detach-same w (suc n) =
      let u = stored w net.nodes n 7 undef in
      let v = stored u net.nodes n 8 undef in
      same-trans (stored_same net arena w room n 7 undef (omega arith) (omega arith))
      (same-trans (stored_same net arena u room n 8 undef (omega arith) (omega arith)) (detach-same v n))
