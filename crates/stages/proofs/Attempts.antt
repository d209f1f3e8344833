-- A stage that goes frame by frame is one that the list may have, where its attempts are sound and no larger budget allows less.
-- Assumes nothing.
use mathlib.Core.Path.{◌≡◌, refl, sym, ap, ◌∙◌, subst}
use mathlib.Core.Bool.{Bool, true, false, cond}
use Prim.Native.Nat.{ℕ, zero, suc, ◌+◌, ◌-◌, ◌≤◌, ◌<◌, min}
use native.Mathlib.Numerals.{add-one}
use native.Mathlib.Omega.{arith}
use borrow.Author.Count.{below_more}
use borrow.Author.Tests.{ltb-true, ltb-false, lt-ltb, le-ltb}
use lib.Dec.{ltb}
use Rattle.aiger.specs.Search.{Question}
use Rattle.stages.specs.Endings.{Ending, Staged, NoHit, NoneBefore, StagedRight, FromOn, Keeps, Sound}
use Rattle.stages.specs.Conflicts.{Verdict, Attempt, Attempts, Efforts, attempted, attempts_from, attempt_stage}
use Rattle.stages.specs.Conflicts.{VerdictRight, AttemptsSound, Grows}
use Rattle.stages.proofs.Lists.{from-earlier}

-- it leaves nothing before its first frame
pub frames-from : (f : Attempts) (effort : Efforts) (D n t left : ℕ) → FromOn t (attempts_from f effort D n t left)
unfolding attempts_from
frames-from f effort D zero t left = tt
frames-from f effort D (suc n) t left =
    let a = f t (min left (effort t D)) in
    let later = attempts_from f effort D n (suc t) (left - a.used) in
    go a.verdict later (frames-from f effort D n (suc t) (left - a.used))
  where
    go : (v : Verdict) (later : Staged) → FromOn (suc t) later → FromOn t (attempted v t (effort t D) left later)
    go (Verdict.hit x) later h = omega arith
    go Verdict.clear later h = from-earlier t (suc t) (omega arith) later h
    go Verdict.out later h = undecided (ltb (effort t D) left)
      where
        undecided : (b : Bool) → FromOn t (cond b (Staged.cut_off t) (Staged.ends (Ending.gave_up t)))
        undecided true = omega arith
        undecided false = omega arith

module _ (q : Question) (f : Attempts) (sound : AttemptsSound q f) (effort : Efforts) where
  abbrev frames : (D n t left : ℕ) → Staged
  frames D n t left = attempts_from f effort D n t left

  -- the list is cut off at frame t, or the stage gives up there
  abbrev stops : ℕ → Bool → Staged
  stops t b = cond b (Staged.cut_off t) (Staged.ends (Ending.gave_up t))

  none_more : (t : ℕ) → NoneBefore q t → NoHit q t → NoneBefore q (suc t)
  none_more t n h = subst (NoneBefore q) (add-one t) (below_more (NoHit q) t n h)

  -- ---- it says what is so

  module _ (D first : ℕ) where
    attempt-right : (t allowed left : ℕ) (later : Staged) → first ≤ t → t ≤ 255 → NoneBefore q t → (v : Verdict) → VerdictRight q t v
        → (NoneBefore q (suc t) → StagedRight q first later) → StagedRight q first (attempted v t allowed left later)
    attempt-right t allowed left later l m n (Verdict.hit x) h r = (l, m, n, h)
    attempt-right t allowed left later l m n Verdict.clear h r = r (none_more t n h)
    attempt-right t allowed left later l m n Verdict.out h r = go (ltb allowed left)
      where
        go : (b : Bool) → StagedRight q first (cond b (Staged.cut_off t) (Staged.ends (Ending.gave_up t)))
        go true = (l, omega arith, n)
        go false = (l, omega arith, n)

    pub frames-right : (n t left : ℕ) → t + n ≡ 256 → first ≤ t → NoneBefore q t → StagedRight q first (frames D n t left)
    unfolding attempts_from
    frames-right zero t left e l h = subst (NoneBefore q) (omega arith) h
    frames-right (suc n) t left e l h =
        let a = f t (min left (effort t D)) in
        attempt-right t (effort t D) left (frames D n (suc t) (left - a.used)) l (omega arith) h a.verdict
        (sound.right t (min left (effort t D)))
        (λ k. frames-right n (suc t) (left - a.used) (omega arith) (omega arith) k)

  -- ---- a larger budget

  turn : (n t left B : ℕ) (a : Attempt) → f t (min left (effort t B)) ≡ a
      → frames B (suc n) t left ≡ attempted a.verdict t (effort t B) left (frames B n (suc t) (left - a.used))
  unfolding attempts_from
  turn n t left B a p = ap (λ (a : Attempt). attempted a.verdict t (effort t B) left (frames B n (suc t) (left - a.used))) p

  both : (x y x' y' : Staged) → x ≡ x' → y ≡ y' → Keeps x' y' → Keeps x y
  both x y x' y' p r k = subst (λ (z : Staged). Keeps z y) (sym p) (subst (λ (z : Staged). Keeps x' z) (sym r) k)

  module _ (grows : Grows effort) (D E : ℕ) (more : D ≤ E) where
    no-frame : (t left : ℕ) → Keeps (frames D zero t left) (frames E zero t left)
    unfolding attempts_from
    no-frame t left = refl

    -- where the smaller budget decides the frame, both do alike
    same_attempt : (t left : ℕ) → ((f t (min left (effort t D))).verdict ≡ Verdict.out → ⊥)
        → f t (min left (effort t E)) ≡ f t (min left (effort t D))
    same_attempt t left n = sound.keeps t (min left (effort t D)) (min left (effort t E)) (omega (arith, grows t D E more)) n

    -- and where it allows no less than is left, both allow all that is left
    same_left : (t left : ℕ) → left ≤ effort t D → min left (effort t E) ≡ min left (effort t D)
    same_left t left l = omega (arith, grows t D E more)

    pub frames-keep : (n t left : ℕ) → t + n ≡ 256 → NoneBefore q t → Keeps (frames D n t left) (frames E n t left)
    frames-keep zero t left e h = no-frame t left
    frames-keep (suc n) t left e h =
        go (f t (min left (effort t D))) refl (sound.right t (min left (effort t D)))
        (λ u k. frames-keep n (suc t) (left - u) (omega arith) k)
      where
        -- a frame that is not decided
        undecided : (u : ℕ) → f t (min left (effort t D)) ≡ record { verdict = Verdict.out; used = u } → (b : Bool) → ltb (effort t D) left ≡ b
            → Keeps (frames D (suc n) t left) (frames E (suc n) t left)
        undecided u p true w =
            both (frames D (suc n) t left) (frames E (suc n) t left) (Staged.cut_off t)
            (frames E (suc n) t left)
            (turn n t left D (record { verdict = Verdict.out; used = u }) p
            ∙ ap (stops t) w) refl (frames-from f effort E (suc n) t left)
        undecided u p false w =
            let l : left ≤ effort t D = ltb-false (effort t D) left w in
            let p' : f t (min left (effort t E)) ≡ record { verdict = Verdict.out; used = u } = ap (f t) (same_left t left l) ∙ p in
            both (frames D (suc n) t left) (frames E (suc n) t left) (Staged.ends (Ending.gave_up t))
            (Staged.ends (Ending.gave_up t))
            (turn n t left D (record { verdict = Verdict.out; used = u }) p
            ∙ ap (stops t) w)
            (turn n t left E (record { verdict = Verdict.out; used = u }) p'
            ∙ ap (stops t) (le-ltb (effort t E) left (omega (arith, grows t D E more))))
            refl

        go : (a : Attempt) → f t (min left (effort t D)) ≡ a → VerdictRight q t (f t (min left (effort t D))).verdict
            → ((u : ℕ) → NoneBefore q (suc t) → Keeps (frames D n (suc t) (left - u)) (frames E n (suc t) (left - u)))
            → Keeps (frames D (suc n) t left) (frames E (suc n) t left)
        go a p s rec = cases a.verdict refl
          where
            decided : (v : Verdict) → a.verdict ≡ v → (v ≡ Verdict.out → ⊥)
                → Keeps (attempted v t (effort t D) left (frames D n (suc t) (left - a.used)))
                (attempted v t (effort t E) left (frames E n (suc t) (left - a.used)))
                → Keeps (frames D (suc n) t left) (frames E (suc n) t left)
            decided v w apart k =
                let p' : f t (min left (effort t E)) ≡ a =
                same_attempt t left (λ z. apart (sym w ∙ ap (λ (r : Attempt). r.verdict) (sym p) ∙ z)) ∙ p in
                both (frames D (suc n) t left) (frames E (suc n) t left)
                (attempted v t (effort t D) left (frames D n (suc t) (left - a.used)))
                (attempted v t (effort t E) left (frames E n (suc t) (left - a.used)))
                (turn n t left D a p ∙ ap (λ (v : Verdict). attempted v t (effort t D) left (frames D n (suc t) (left - a.used))) w)
                (turn n t left E a p' ∙ ap (λ (v : Verdict). attempted v t (effort t E) left (frames E n (suc t) (left - a.used))) w)
                k

            cases : (v : Verdict) → a.verdict ≡ v → Keeps (frames D (suc n) t left) (frames E (suc n) t left)
            cases (Verdict.hit x) w = decided (Verdict.hit x) w (λ z. let o : ◌≡◌ {A = ℕ} 0 1 = cc in omega arith) refl
            cases Verdict.clear w =
                let quiet : NoHit q t = subst (VerdictRight q t) (ap (λ (r : Attempt). r.verdict) p ∙ w) s in
                decided Verdict.clear w (λ z. let o : ◌≡◌ {A = ℕ} 0 1 = cc in omega arith) (rec a.used (none_more t h quiet))
            cases Verdict.out w =
                undecided a.used (p ∙ ap (λ (v : Verdict). record { verdict = v; used = a.used }) w) (ltb (effort t D) left) refl

    -- the stage
    pub stage-keeps : (limit first : ℕ) → first ≤ 256 → NoneBefore q first
        → Keeps (attempt_stage f effort limit first D) (attempt_stage f effort limit first E)
    unfolding attempt_stage
    stage-keeps limit first l n = frames-keep (256 - first) first limit (omega arith) n

  pub stage-right : (limit first D : ℕ) → first ≤ 256 → NoneBefore q first → StagedRight q first (attempt_stage f effort limit first D)
  unfolding attempt_stage
  stage-right limit first D l n = frames-right D first (256 - first) first limit (omega arith) (omega arith) n

  -- with any limit it is a stage of the list
  pub attempt-sound : Grows effort → (limit : ℕ) → Sound q (attempt_stage f effort limit)
  attempt-sound grows limit =
      record { right = λ first D l n. stage-right limit first D l n; keeps = λ first D E l n m. stage-keeps grows D E m limit first l n }
