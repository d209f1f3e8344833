-- The working clause holds in every hit after each step, whatever the words held that guide the search. Assumes nothing.
use mathlib.Core.Path.{◌≡◌, refl, sym, ap, ◌∙◌, subst}
use mathlib.Core.Bool.{Bool, true, false, not, cond}
use mathlib.Core.List.{List}
use mathlib.Core.Logic.{◌⊎◌, inl, inr}
use Prim.Native.Nat.{ℕ, zero, suc, ◌+◌, ◌-◌, ◌*◌, ◌/◌, ◌%◌, ◌≤◌, ◌<◌}
use native.Mathlib.Decide.{ℕ_discrete}
use native.Mathlib.Omega.{arith}
use borrow.Author.Tests.{leb-true, leb-false, eqb-true, eqb-false, eq-eqb, ne_eqb}
use lib.Dec.{T, eqb, leb, ltb}
use lib.ListN.{length, get_or, set, length-set}
use lib.Seq.{get_or-set_same, get_or-set_other}
use Rattle.memory.specs.Record.{field, stored, literal, written, opposite}
use Rattle.memory.specs.declared.Netlist.{Netlist}
use Rattle.memory.specs.declared.Arena.{Arena}
use Rattle.memory.specs.declared.Draft.{Draft}
use Rattle.clauses.specs.Clause.{Among, Holds, Valid, Always, Covers}
use Rattle.clauses.proofs.Resolution as L
use Rattle.reasons.specs.Reason.{is_false, is_reason, literal_of}
use Rattle.reasons.specs.Reason as R
use Rattle.reasons.specs.Claims.{Same, Sound}
use Rattle.reasons.proofs.Valid.{same_refl, same-trans, sound-same, reason-length, reason-literal, false-always, reason-valid}
use Rattle.reasons.proofs.Frame.{stored_same, written_same, stored-after}
use Rattle.resolve.specs.Draft.{Drafted, draft_of, drafted, draft_at, pos_of, is_member, taken, appended, included, removed, excluded, joined, gathered, started, resolved}
use Rattle.aiger.proofs.Tests.{T_true}

-- the literals of a working clause
abbrev pub InDraft : Netlist → Arena → List ℕ → Draft → ℕ → Type 0
InDraft net arena w d l = Among d.length (draft_at w net arena) l

-- what a step leaves of the words and the working clause: the claimed words, and every literal but x
pub record Kept (net : Netlist) (arena : Arena) (w : List ℕ) (d : Draft) (x : ℕ) (to : Drafted) : Type 0 where
  pub same : Same net arena w to.words
  pub fits : taken net arena to.draft ≤ net.words
  pub whole : to.draft.whole ≡ true → d.whole ≡ true
  pub rest : to.draft.whole ≡ true → (l : ℕ) → InDraft net arena w d l → (l ≡ x → ⊥) → InDraft net arena to.words to.draft l

-- every literal stays
pub record Grows (net : Netlist) (arena : Arena) (w : List ℕ) (d : Draft) (to : Drafted) : Type 0 where
  pub same : Same net arena w to.words
  pub fits : taken net arena to.draft ≤ net.words
  pub whole : to.draft.whole ≡ true → d.whole ≡ true
  pub rest : (l : ℕ) → InDraft net arena w d l → InDraft net arena to.words to.draft l

-- literal x is written at place p of the working clause, and the word of its node follows
abbrev put : Netlist → Arena → List ℕ → ℕ → ℕ → List ℕ
put net arena w p x = stored (written w net.nodes arena.used p x) net.nodes (x / 2) 3 p

never : false ≡ true → ⊥
never e = subst T (sym e) tt

module _ (net : Netlist) (arena : Arena) where
  still : (w : List ℕ) (d : Draft) → taken net arena d ≤ net.words → Grows net arena w d (drafted w d)
  still w d fits = record { same = same_refl net arena w; fits = fits; whole = λ e. e; rest = λ l i. i }

  failed : (w : List ℕ) (d : Draft) → taken net arena d ≤ net.words → Grows net arena w d (drafted w (draft_of d.length false))
  failed w d fits = record { same = same_refl net arena w; fits = fits; whole = λ e. absurd (never e); rest = λ l i. i }

  module _ (w : List ℕ) (d : Draft) (p x : ℕ) (within : net.words ≤ length w) (fits : taken net arena d ≤ net.words)
      (free : 14 * net.nodes + arena.used + 6 * arena.count + p < net.words) where
    put_same : Same net arena w (put net arena w p x)
    put_same =
        let u = written w net.nodes arena.used p x in
        same-trans (written_same net arena w (omega arith) p x free) (stored_same net arena u (omega arith) (x / 2) 3 p (omega arith) (omega arith))

    put-at : draft_at (put net arena w p x) net arena p ≡ x
    put-at =
        let u = written w net.nodes arena.used p x in
        let at = 14 * net.nodes + arena.used + p in
        stored-after u net.nodes (x / 2) 3 p at (omega arith) (omega arith) ∙ get_or-set_same w at x 0 (omega arith)

    put_other : (i : ℕ) → (i ≡ p → ⊥) → draft_at (put net arena w p x) net arena i ≡ draft_at w net arena i
    put_other i n =
        let u = written w net.nodes arena.used p x in
        let at = 14 * net.nodes + arena.used + p in
        let to = 14 * net.nodes + arena.used + i in
        stored-after u net.nodes (x / 2) 3 p to (omega arith) (omega arith) ∙ get_or-set_other w at to x 0 (λ e. n (omega arith))

  module _ (w : List ℕ) (d : Draft) (within : net.words ≤ length w) (fits : taken net arena d ≤ net.words) where
    append-grows : (l : ℕ) → Grows net arena w d (appended w net arena d l)
        × ((appended w net arena d l).draft.whole ≡ true → InDraft net arena (appended w net arena d l).words (appended w net arena d l).draft l)
    unfolding appended
    append-grows l = go (leb net.words (taken net arena d)) refl
      where
        n : ℕ
        n = d.length

        to : Bool → Drafted
        to b =
            cond b (drafted w (draft_of d.length false))
            (drafted (stored (written w net.nodes arena.used d.length l) net.nodes (l / 2) 3 d.length) (draft_of (d.length + 1) d.whole))

        go : (b : Bool) → leb net.words (taken net arena d) ≡ b
            → Grows net arena w d (to b) × ((to b).draft.whole ≡ true → InDraft net arena (to b).words (to b).draft l)
        go true e = (failed w d fits, λ z. absurd (never z))
        go false e =
            let free = leb-false net.words (taken net arena d) e in (
              record {
                same = put_same w d n l within fits (omega arith);
                fits = omega arith;
                whole = λ z. z;
                rest = λ k i. (i.0, omega (arith, i.1), put_other w d n l within fits (omega arith) i.0 (λ z. omega (arith, i.1)) ∙ i.2);
              },
              λ z. (n, omega arith, put-at w d n l within fits (omega arith)),
            )

    -- literal l is taken out
    exclude-kept : (l : ℕ) → Kept net arena w d l (excluded w net arena d l)
    unfolding excluded removed
    exclude-kept l = go (leb d.length p) (eqb (draft_at w net arena p) l) refl refl
      where
        p : ℕ
        p = pos_of w net l

        x : ℕ
        x = draft_at w net arena (d.length - 1)

        to : Bool → Bool → Drafted
        to a b =
            cond a (drafted w (draft_of d.length false))
            (cond b (drafted (stored (written w net.nodes arena.used p x) net.nodes (x / 2) 3 p) (draft_of (d.length - 1) d.whole))
            (drafted w (draft_of d.length false)))

        bad : Kept net arena w d l (drafted w (draft_of d.length false))
        bad = record { same = same_refl net arena w; fits = fits; whole = λ e. absurd (never e); rest = λ e k i n. absurd (never e) }

        go : (a b : Bool) → leb d.length p ≡ a → eqb (draft_at w net arena p) l ≡ b → Kept net arena w d l (to a b)
        go true b e f = bad
        go false false e f = bad
        go false true e f =
            let h = leb-false d.length p e in
            let here = eqb-true (draft_at w net arena p) l f in
            record {
              same = put_same w d p x within fits (omega arith);
              fits = omega arith;
              whole = λ z. z;
              rest = λ z k i n.
                  elim (ℕ_discrete i.0 p) [
                    | yes s ↦ absurd (n (sym i.2 ∙ ap (draft_at w net arena) s ∙ here))
                    | no s ↦
                        elim (ℕ_discrete i.0 (d.length - 1)) [
                          | yes t ↦
                              (p, omega (arith, i.1), put-at w d p x within fits (omega arith) ∙ ap (draft_at w net arena) (sym t) ∙ i.2)
                          | no t ↦ (i.0, omega (arith, i.1), put_other w d p x within fits (omega arith) i.0 s ∙ i.2)
                        ]
                  ];
            }

  module _ (hit : (ℕ → Bool) → Type 0) where
    -- literal l is in the working clause, or false in every hit
    abbrev Taken : List ℕ → Draft → ℕ → Type 0
    Taken w d l = InDraft net arena w d l ⊎ Always hit (opposite l)

    include-grows : (w : List ℕ) (d : Draft) → Sound hit net arena w → taken net arena d ≤ net.words → (l : ℕ)
        → Grows net arena w d (included w net arena d l)
        × ((included w net arena d l).draft.whole ≡ true → Taken (included w net arena d l).words (included w net arena d l).draft l)
    unfolding included is_member
    include-grows w d sound fits l = go (is_false w net.nodes l) refl (leb d.length p) (eqb (draft_at w net arena p) l) refl refl
      where
        p : ℕ
        p = pos_of w net l

        to : Bool → Bool → Bool → Drafted
        to a b c = cond a (drafted w d) (cond (cond b false c) (drafted w d) (appended w net arena d l))

        go : (a : Bool) → is_false w net.nodes l ≡ a → (b c : Bool) → leb d.length p ≡ b → eqb (draft_at w net arena p) l ≡ c
            → Grows net arena w d (to a b c) × ((to a b c).draft.whole ≡ true → Taken (to a b c).words (to a b c).draft l)
        go true e b c f g = (still w d fits, λ z. inr (false-always sound l (T_true e)))
        go false e false true f g = (still w d fits, λ z. inl (p, leb-false d.length p f, eqb-true (draft_at w net arena p) l g))
        go false e false false f g = let r = append-grows w d sound.within fits l in (r.0, λ z. inl (r.1 z))
        go false e true c f g = let r = append-grows w d sound.within fits l in (r.0, λ z. inl (r.1 z))

    join-grows : (w : List ℕ) (d : Draft) → Sound hit net arena w → taken net arena d ≤ net.words → (l x : ℕ)
        → Grows net arena w d (joined w net arena d l x)
        × ((l ≡ x → ⊥) → (joined w net arena d l x).draft.whole ≡ true → Taken (joined w net arena d l x).words (joined w net arena d l x).draft l)
    unfolding joined
    join-grows w d sound fits l x = go (eqb l x) refl
      where
        to : Bool → Drafted
        to a = cond a (drafted w d) (included w net arena d l)

        go : (a : Bool) → eqb l x ≡ a → Grows net arena w d (to a) × ((l ≡ x → ⊥) → (to a).draft.whole ≡ true → Taken (to a).words (to a).draft l)
        go true e = (still w d fits, λ n z. absurd (n (eqb-true l x e)))
        go false e = let r = include-grows w d sound fits l in (r.0, λ n z. r.1 z)

    -- what the loop leaves: the working clause grows, and covers the first k literals of the reason but x
    module _ (r x : ℕ) (reason : T (is_reason net arena r)) where
      gather-grows : (w : List ℕ) (d : Draft) → Sound hit net arena w → taken net arena d ≤ net.words → (k : ℕ) → k ≤ R.length_of w net r
          → Grows net arena w d (gathered w net arena d r x k)
          × ((gathered w net arena d r x k).draft.whole ≡ true → (i : ℕ) → i < k → (literal_of w net r i ≡ x → ⊥)
          → Taken (gathered w net arena d r x k).words (gathered w net arena d r x k).draft (literal_of w net r i))
      unfolding gathered
      gather-grows w d sound fits zero l = (still w d fits, λ z i h. absurd (omega arith))
      gather-grows w d sound fits (suc k) l =
          let s = joined w net arena d (literal_of w net r k) x in
          let one = join-grows w d sound fits (literal_of w net r k) x in
          let sound' = sound-same one.0.same sound in
          let rest = gather-grows s.words s.draft sound' one.0.fits k (let e = reason-length one.0.same sound r reason in omega arith) in
          let t = gathered s.words net arena s.draft r x k in (
            record {
              same = same-trans one.0.same rest.0.same;
              fits = rest.0.fits;
              whole = λ z. one.0.whole (rest.0.whole z);
              rest = λ j i. rest.0.rest j (one.0.rest j i);
            },
            λ z i h n.
                elim (ℕ_discrete i k) [
                  | yes e ↦
                      let f = ap (literal_of w net r) e in
                      subst (Taken t.words t.draft) (sym f)
                      (elim (one.1 (λ q. n (f ∙ q)) (rest.0.whole z)) [ inl a ↦ inl (rest.0.rest (literal_of w net r k) a) | inr a ↦ inr a ])
                  | no e ↦
                      let f = reason-literal one.0.same sound r i reason (omega arith) in
                      subst (Taken t.words t.draft) f (rest.1 z i (omega arith) (λ q. n (sym f ∙ q)))
                ],
          )

-- the words are sound, the working clause has room, and it holds in every hit unless a literal found no room
pub record Drafting (hit : (ℕ → Bool) → Type 0) (net : Netlist) (arena : Arena) (w : List ℕ) (d : Draft) : Type 0 where
  pub sound : Sound hit net arena w
  pub fits : taken net arena d ≤ net.words
  pub valid : d.whole ≡ true → Valid hit (InDraft net arena w d)

module _ (hit : (ℕ → Bool) → Type 0) (net : Netlist) (arena : Arena) where
  -- nothing is claimed of a working clause that lost a literal
  pub lost : (w : List ℕ) (n : ℕ) → Sound hit net arena w → taken net arena (draft_of n false) ≤ net.words → Drafting hit net arena w (draft_of n false)
  lost w n sound fits = record { sound = sound; fits = fits; valid = λ e. absurd (never e) }

  -- the clause of a reason
  pub start-sound : (w : List ℕ) (r : ℕ) → Sound hit net arena w → Drafting hit net arena (started w net arena r).words (started w net arena r).draft
  unfolding started opposite
  start-sound w r sound = go (is_reason net arena r) refl
    where
      fits : taken net arena (draft_of 0 true) ≤ net.words
      fits = omega (arith, sound.room)

      to : Bool → Drafted
      to b = cond b (gathered w net arena (draft_of 0 true) r 0 (R.length_of w net r)) (drafted w (draft_of 0 false))

      go : (b : Bool) → is_reason net arena r ≡ b → Drafting hit net arena (to b).words (to b).draft
      go false e = lost w 0 sound fits
      go true e =
          let n = R.length_of w net r in
          let g = gather-grows net arena hit r 0 (T_true e) w (draft_of 0 true) sound fits n (omega arith) in
          let t = gathered w net arena (draft_of 0 true) r 0 n in
          record {
            sound = sound-same g.0.same sound;
            fits = g.0.fits;
            valid = λ z.
                L.covered hit (Among n (literal_of w net r)) (InDraft net arena t.words t.draft) 0 sound.zero (reason-valid sound r (T_true e))
                (λ l i m.
                subst (λ (k : ℕ). InDraft net arena t.words t.draft k ⊎ Always hit (opposite k)) i.2
                (g.1 z i.0 i.1 (λ q. m (sym i.2 ∙ q))));
          }

  -- resolution keeps the working clause valid, whatever x and the words that guide the search are
  pub resolve-sound : (w : List ℕ) (d : Draft) (r x : ℕ) → Drafting hit net arena w d
      → Drafting hit net arena (resolved w net arena d r x).words (resolved w net arena d r x).draft
  unfolding resolved
  resolve-sound w d r x given = go (is_reason net arena r) refl
    where
      to : Bool → Drafted
      to b =
          cond b
          (gathered (excluded w net arena d (opposite x)).words net arena (excluded w net arena d (opposite x)).draft r x
          (R.length_of (excluded w net arena d (opposite x)).words net r)) (drafted w (draft_of d.length false))

      go : (b : Bool) → is_reason net arena r ≡ b → Drafting hit net arena (to b).words (to b).draft
      go false e = lost w d.length given.sound given.fits
      go true e =
          let x' = opposite x in
          let s = excluded w net arena d x' in
          let k = exclude-kept net arena w d given.sound.within given.fits x' in
          let sound = sound-same k.same given.sound in
          let n = R.length_of s.words net r in
          let g = gather-grows net arena hit r x (T_true e) s.words s.draft sound k.fits n (omega arith) in
          let t = gathered s.words net arena s.draft r x n in
          record {
            sound = sound-same g.0.same sound;
            fits = g.0.fits;
            valid = λ z.
                let y = g.0.whole z in
                L.resolved hit (InDraft net arena w d) (Among n (literal_of s.words net r)) (InDraft net arena t.words t.draft) x
                (given.valid (k.whole y)) (reason-valid sound r (T_true e)) (λ l i m. inl (g.0.rest l (k.rest y l i m)))
                (λ l i m.
                subst (λ (j : ℕ). InDraft net arena t.words t.draft j ⊎ Always hit (opposite j)) i.2
                (g.1 z i.0 i.1 (λ q. m (sym i.2 ∙ q))));
          }
