-- A search with bound k sees of the stage what the frames up to k show. Assumes nothing.
use mathlib.Core.Path.{◌≡◌, refl, sym, ap, ap₂, ◌∙◌, subst}
use mathlib.Core.Bool.{Bool, true, false, cond}
use mathlib.Core.List.{List, [], ◌∷◌}
use Prim.Native.Nat.{ℕ, zero, suc, ◌+◌, ◌≤◌, ◌<◌, max}
use native.Mathlib.Omega.{arith}
use borrow.Author.Tests.{lt-ltb, leb-true, leb-false, le-leb, lt-leb}
use lib.Dec.{ltb, leb}
use Rattle.aiger.specs.Circuit.{Circuit}
use Rattle.aiger.specs.Search.{question}
use Rattle.diagram_rows.specs.Rows.{plan_of}
use Rattle.state_sets.specs.Sets.{Sets}
use Rattle.stages.specs.Endings.{Ending, Cut, cut_at}
use Rattle.set_attempt.specs.Attempt.{setup_of, table_made, blank_sets, on_table, with_table, is_distinct, attempt_ending, or_later, in_turn, orders, Trial, sets_within, sets_ending}
use Rattle.set_attempt.proofs.Frames.{frames-cut}

-- what is seen of an attempt that decides a frame from `first` on, otherwise of what comes later
abbrev cut_later : ℕ → Cut → Cut → Cut
cut_later first (Cut.hit t x) later = Cut.hit t x
cut_later first Cut.never later = Cut.never
cut_later first Cut.none later = Cut.none
cut_later first (Cut.gave_up t) later = cond (ltb first t) (Cut.gave_up t) later
cut_later first (Cut.cut_off t) later = Cut.cut_off t

module _ (k first : ℕ) (fl : first ≤ k) where
  later-cut : (e later : Ending) → cut_at k (or_later first e later) ≡ cut_later first (cut_at k e) (cut_at k later)
  later-cut (Ending.hit t x) later = go (leb t k)
    where
      go : (p : Bool) → cond p (Cut.hit t x) Cut.none ≡ cut_later first (cond p (Cut.hit t x) Cut.none) (cut_at k later)
      go true = refl
      go false = refl
  later-cut (Ending.never t) later = go (leb t k) refl
    where
      go : (p : Bool) → leb t k ≡ p → cut_at k (Ending.never (max t first)) ≡ cut_later first (cond p Cut.never Cut.none) (cut_at k later)
      go true e = ap (λ (p : Bool). cond p Cut.never Cut.none) (le-leb (max t first) k (omega (arith, leb-true t k e)))
      go false e = ap (λ (p : Bool). cond p Cut.never Cut.none) (lt-leb (max t first) k (omega (arith, leb-false t k e)))
  later-cut Ending.clear later = refl
  later-cut (Ending.gave_up t) later = go (leb t k) refl
    where
      within : leb t k ≡ true → (d : Bool) → cut_at k (cond d (Ending.gave_up t) later) ≡ cond d (Cut.gave_up t) (cut_at k later)
      within e true = ap (λ (p : Bool). cond p (Cut.gave_up t) Cut.none) e
      within e false = refl

      go : (p : Bool) → leb t k ≡ p
          → cut_at k (cond (ltb first t) (Ending.gave_up t) later) ≡ cut_later first (cond p (Cut.gave_up t) Cut.none) (cut_at k later)
      go true e = within e (ltb first t)
      go false e =
          ap (λ (d : Bool). cut_at k (cond d (Ending.gave_up t) later)) (lt-ltb first t (omega (arith, leb-false t k e)))
          ∙ ap (λ (p : Bool). cond p (Cut.gave_up t) Cut.none) e

  turn-cut : (f g : ℕ → Ending) → ((w : ℕ) → cut_at k (f w) ≡ cut_at k (g w)) → (ws : List ℕ) → cut_at k (in_turn first f ws) ≡ cut_at k (in_turn first g ws)
  unfolding in_turn
  turn-cut f g h [] = refl
  turn-cut f g h (w ∷ ws) =
      later-cut (f w) (in_turn first f ws) ∙ ap₂ (cut_later first) (h w) (turn-cut f g h ws) ∙ sym (later-cut (g w) (in_turn first g ws))

  module _ (small : k ≤ 255) (c : Circuit) (b : ℕ) where
    pub attempt-cut : (plan : List ℕ) (words looks : ℕ)
        → cut_at k (attempt_ending c b plan words looks first 256) ≡ cut_at k (attempt_ending c b plan words looks first (k + 1))
    unfolding attempt_ending
    attempt-cut plan words looks =
        by (is_distinct (plan_of plan).latches) (with_table c b plan first 256 (table_made c b plan (blank_sets words looks)))
        (with_table c b plan first (k + 1) (table_made c b plan (blank_sets words looks)))
        (go (table_made c b plan (blank_sets words looks)).done (table_made c b plan (blank_sets words looks)).sets)
      where
        by : (d : Bool) (x y : Ending) → cut_at k x ≡ cut_at k y → cut_at k (cond d x (Ending.gave_up 0)) ≡ cut_at k (cond d y (Ending.gave_up 0))
        by true x y h = h
        by false x y h = refl

        go : (d : Bool) (z : Sets) → cut_at k (on_table c b plan first 256 d z) ≡ cut_at k (on_table c b plan first (k + 1) d z)
        go true z = frames-cut (question c b) (setup_of c plan) first k (k + 1) 256 0 z (omega arith) (omega arith)
        go false z = refl

    -- the first k + 1 frames show what bound k lets be seen of the stage
    pub sets-cut : (o : Trial) → cut_at k (sets_ending c b o first) ≡ cut_at k (sets_within c b o (k + 1) first)
    unfolding sets_within
    sets-cut o = go (o.may first)
      where
        go : (d : Bool)
            → cut_at k (cond d (in_turn first (λ w. attempt_ending c b (o.plans w) (o.words first) o.looks first 256) orders) (Ending.gave_up first))
            ≡ cut_at k (cond d (in_turn first (λ w. attempt_ending c b (o.plans w) (o.words first) o.looks first (k + 1)) orders) (Ending.gave_up first))
        go true =
            turn-cut (λ w. attempt_ending c b (o.plans w) (o.words first) o.looks first 256)
            (λ w. attempt_ending c b (o.plans w) (o.words first) o.looks first (k + 1))
            (λ w. attempt-cut (o.plans w) (o.words first) o.looks) orders
        go false = refl
