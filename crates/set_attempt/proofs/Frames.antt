-- The frames of an attempt: what they say is so, and they name no frame before the first of them. Assumes nothing.
use mathlib.Core.Path.{◌≡◌, refl, sym, ap, ◌∙◌, subst}
use mathlib.Core.Bool.{Bool, true, false, cond}
use mathlib.Core.List.{List}
use mathlib.Core.Option.{Option, none, some}
use Prim.Native.Nat.{ℕ, zero, suc, ◌+◌, ◌≤◌, ◌<◌}
use native.Mathlib.Decide.{ℕ_discrete}
use native.Mathlib.Omega.{arith}
use borrow.Author.Tests.{eqb-true, ltb-true}
use lib.Dec.{T, eqb, ltb}
use lib.ListN.{length, get_or}
use Rattle.aiger.specs.Frames.{free_bit}
use Rattle.aiger.specs.Search.{Question, least_below}
use Rattle.meaning.proofs.Decisions.{Least, least-below}
use Rattle.machine.specs.Machine.{Machine}
use Rattle.machine.proofs.Theorems.{Quiet, QuietBefore}
use Rattle.backward.specs.Sets.{Inside}
use Rattle.backward.specs.Walk.{Walking}
use Rattle.backward.proofs.Frames.{empty-below-quiet}
use Rattle.diagrams.specs.States.{State}
use Rattle.diagrams.specs.Meaning.{Assignment}
use Rattle.diagrams.proofs.Values.{front-in}
use Rattle.collection.specs.Collecting.{collected}
use Rattle.state_sets.specs.Sets.{Sets, Tried, advanced}
use Rattle.state_sets.specs.Meaning.{Coded, Standing, terms_of, Held}
use Rattle.state_sets.proofs.Sound.{values-front, collected-held, advanced-right, empty-set}
use Rattle.set_walk.specs.declared.Start.{Start}
use Rattle.set_walk.specs.declared.Start.TheVariants as variants
use Rattle.set_walk.specs.Walk.{bits_of}
use Rattle.set_walk.specs.Start.{seek, StartsOf}
use Rattle.set_walk.proofs.Starts.{Grown}
use Rattle.set_walk.proofs.Found.{seek-right, nowhere-quiet, least-walks}
use Rattle.stages.specs.Endings.{Ending, Cut, Staged, cut_at, NoHit, NoneBefore, FirstAt, EndsRight, FromOn}
use Rattle.stages.proofs.Lists.{from-earlier}
use Rattle.stages.proofs.Choice.{past_bound}
use Rattle.set_attempt.specs.Attempt.{Setup, Seen, start_seen, on_collected, or_once_more, start_again}
use Rattle.set_attempt.specs.Attempt.{first_hits, hit_at, on_start, after_start, on_set, on_tried, frames_from}

-- which of the three was found, as a number
abbrev which : Start → ℕ
which variants.Least = 0
which variants.Nowhere = 1
which variants.Full = 2

apart : {A : Type 0} (x y : Start) (i j : ℕ) → which x ≡ i → which y ≡ j → (i ≡ j → ⊥) → x ≡ y → A
apart x y i j p q d e = absurd (d (sym p ∙ ap which e ∙ q))

-- ---- what is named

module _ (q : Question) (p : Setup) (first : ℕ) where
  hit-from : (t : ℕ) (o : Option ℕ) → FromOn t (Staged.ends (hit_at t o))
  hit-from t none = omega arith
  hit-from t (some x) = omega arith

  start-from : (t : ℕ) (f : Start) (z : Sets) (later : Sets → Ending) → ((y : Sets) → FromOn t (Staged.ends (later y)))
      → FromOn t (Staged.ends (on_start q t f z later))
  start-from t variants.Least z later h = hit-from t (first_hits q t)
  start-from t variants.Nowhere z later h = h z
  start-from t variants.Full z later h = omega arith

  tried-from : (t : ℕ) (d : Bool) (z : Sets) (later : Sets → Ending) → ((y : Sets) → FromOn t (Staged.ends (later y)))
      → FromOn t (Staged.ends (on_tried q p first t d z later))
  tried-from t false z later h = omega arith
  tried-from t true z later h = go (eqb (get_or z.table t 0) 0) (ltb t first)
    where
      go : (a l : Bool) → FromOn t (Staged.ends (cond a (Ending.never t) (cond l (later z) (after_start q t (start_again p t z) later))))
      go true l = omega arith
      go false true = h z
      go false false = start-from t (start_again p t z).found (start_again p t z).sets later h

  -- the frames from t on name no frame before t
  pub frames-from : (n t : ℕ) (z : Sets) → FromOn t (Staged.ends (frames_from q p first n t z))
  unfolding frames_from
  frames-from zero t z = tt
  frames-from (suc n) t z =
      let o = advanced p.vars p.rows t z in
      tried-from t o.done o.sets (frames_from q p first n (suc t))
      (λ y. from-earlier t (suc t) (omega arith) (Staged.ends (frames_from q p first n (suc t) y)) (frames-from n (suc t) y))

  module _ (k : ℕ) where
    start-cut : (t : ℕ) (f : Start) (z : Sets) (a b : Sets → Ending) → ((y : Sets) → cut_at k (a y) ≡ cut_at k (b y))
        → cut_at k (on_start q t f z a) ≡ cut_at k (on_start q t f z b)
    start-cut t variants.Least z a b h = refl
    start-cut t variants.Nowhere z a b h = h z
    start-cut t variants.Full z a b h = refl

    tried-cut : (t : ℕ) (d : Bool) (z : Sets) (a b : Sets → Ending) → ((y : Sets) → cut_at k (a y) ≡ cut_at k (b y))
        → cut_at k (on_tried q p first t d z a) ≡ cut_at k (on_tried q p first t d z b)
    tried-cut t false z a b h = refl
    tried-cut t true z a b h = go (eqb (get_or z.table t 0) 0) (ltb t first)
      where
        go : (e l : Bool) → cut_at k (cond e (Ending.never t) (cond l (a z) (after_start q t (start_again p t z) a)))
            ≡ cut_at k (cond e (Ending.never t) (cond l (b z) (after_start q t (start_again p t z) b)))
        go true l = refl
        go false true = h z
        go false false = start-cut t (start_again p t z).found (start_again p t z).sets a b h

    -- frames up to bound k show what bound k lets be seen of more frames
    pub frames-cut : (n j t : ℕ) (z : Sets) → t + n ≡ k + 1 → n ≤ j → cut_at k (frames_from q p first j t z) ≡ cut_at k (frames_from q p first n t z)
    unfolding frames_from
    frames-cut zero j t z e l = past_bound k t (omega arith) (Staged.ends (frames_from q p first j t z)) (frames-from j t z)
    frames-cut (suc n) zero t z e l = absurd (omega arith)
    frames-cut (suc n) (suc j) t z e l =
        let o = advanced p.vars p.rows t z in
        tried-cut t o.done o.sets (frames_from q p first j (suc t)) (frames_from q p first n (suc t))
        (λ y. frames-cut n j (suc t) y (omega arith) (omega arith))

-- ---- what is found of a set's start states

module _ (level : ℕ) (m : Machine) (n : ℕ) (inside : Inside m n) (at : ℕ → Assignment) (p : Setup) (coded : Coded at p.vars)
    (few : p.rows ≤ 16) (starts : StartsOf m at p.vars p.frees p.base) where
  -- the sets before `next` stand
  abbrev pub Stand : ℕ → Sets → Type 0
  Stand next z = Held level m n at p.vars p.rows next 0 z

  -- what was found at frame t is so, and unless the diagram was full the sets stand
  pub record SeenRight (t : ℕ) (o : Seen) : Type 0 where
    pub held : (o.found ≡ variants.Full → ⊥) → Held level m n at p.vars p.rows (suc t) 0 o.sets
    pub nowhere : o.found ≡ variants.Nowhere → Quiet m t
    pub least : o.found ≡ variants.Least → (y : ℕ) × Walking m t 0 0 y (m.start y) × (bits_of o.bits ≡ at (m.start y))
        × ((u : ℕ) → u < length p.frees → free_bit (length p.frees) y u ≡ bits_of o.bits (get_or p.frees u 0))

  stand-grown : (next : ℕ) (s t : State) (table : List ℕ) → Stand next (record { state = s; table = table })
      → Grown (terms_of level p.vars p.rows table) s t → Stand next (record { state = t; table = table })
  stand-grown next s t table h g =
      record {
        room = h.room;
        tabled = record { good = g.good; edges = λ i. front-in g.grows (get_or table i 0) (h.tabled.edges i) };
        standing = subst (Standing m n at p.vars p.rows next 0) (sym (values-front g.grows table h.tabled.edges)) h.standing;
      }

  module _ (t : ℕ) (quiet : QuietBefore m t) where
    seen-stand : (z : Sets) → Stand (suc t) z → Stand (suc t) (start_seen p t z).sets
    unfolding start_seen
    seen-stand z h =
        stand-grown (suc t) z.state (seek p.vars p.rows t p.frees z.table p.base z.state).state z.table h
        (seek-right level m n inside at p.vars p.rows coded few p.frees p.base starts (suc t) z h t (omega arith)).grown

    seen-right : (z : Sets) → Stand (suc t) z → SeenRight t (start_seen p t z)
    unfolding start_seen
    seen-right z h =
        record {
          held = λ d. seen-stand z h;
          nowhere = nowhere-quiet level m n inside at p.vars p.rows coded few p.frees p.base starts (suc t) z h t (omega arith) quiet;
          least = least-walks level m n inside at p.vars p.rows coded few p.frees p.base starts (suc t) z h t (omega arith) quiet;
        }

    collected-right : (y : Sets) (bits : List ℕ) → Stand (suc t) y → (b : Bool) → (collected y.state y.table).kept ≡ b
        → SeenRight t (on_collected b (record { state = (collected y.state y.table).state; table = (collected y.state y.table).roots }) bits (start_seen p t))
    collected-right y bits h true e =
        seen-right (record { state = (collected y.state y.table).state; table = (collected y.state y.table).roots })
        (collected-held level m n inside at p.vars p.rows coded few (suc t) 0 y h e)
    collected-right y bits h false e =
        record {
          held = λ d. absurd (d refl);
          nowhere = λ z. apart variants.Full variants.Nowhere 2 1 refl refl (λ w. omega arith) z;
          least = λ z. apart variants.Full variants.Least 2 0 refl refl (λ w. omega arith) z;
        }

    pub again-right : (z : Sets) → Stand (suc t) z → SeenRight t (start_again p t z)
    unfolding start_again
    again-right z h = go (start_seen p t z).found refl
      where
        o : Seen
        o = start_seen p t z

        go : (f : Start) → (start_seen p t z).found ≡ f → SeenRight t (or_once_more f (start_seen p t z) (start_seen p t))
        go variants.Least e = seen-right z h
        go variants.Nowhere e = seen-right z h
        go variants.Full e =
            collected-right (start_seen p t z).sets (start_seen p t z).bits (seen-stand z h)
            (collected (start_seen p t z).sets.state (start_seen p t z).sets.table).kept refl

  -- ---- what the frames say is so

  module _ (q : Question) (same : (t : ℕ) → NoHit q t → Quiet m t) (back : (t : ℕ) → Quiet m t → NoHit q t) (first : ℕ) (before : NoneBefore q first) where
    none_more : (t : ℕ) → NoneBefore q t → NoHit q t → NoneBefore q (suc t)
    none_more t b h u l = elim (ℕ_discrete u t) [ yes e ↦ subst (NoHit q) (sym e) h | no e ↦ b u (omega arith) ]

    hit-right : (t : ℕ) → t ≤ 255 → NoneBefore q t → EndsRight q 0 (hit_at t (first_hits q t))
    unfolding first_hits
    hit-right t l b = go (least_below (q.places t) (q.hitting t)) (least-below (q.hitting t) (q.places t))
      where
        go : (o : Option ℕ) → Least (q.hitting t) (q.places t) o → EndsRight q 0 (hit_at t o)
        go none h = (omega arith, omega arith, b)
        go (some x) (f, h, k) = (omega arith, l, b, record { fits = f; hits = h; first = k })

    -- what comes later is right
    abbrev Later : ℕ → (Sets → Ending) → Type 0
    Later t later = (y : Sets) → Stand (suc t) y → NoneBefore q (suc t) → EndsRight q 0 (later y)

    start_right : (t : ℕ) → t ≤ 255 → NoneBefore q t → (later : Sets → Ending) → Later t later → (o : Seen) → SeenRight t o
        → (f : Start) → o.found ≡ f → EndsRight q 0 (on_start q t f o.sets later)
    start_right t l b later k o s variants.Least e = hit-right t l b
    start_right t l b later k o s variants.Nowhere e =
        k o.sets (s.held (λ d. apart variants.Nowhere variants.Full 1 2 refl refl (λ w. omega arith) (sym e ∙ d))) (none_more t b (back t (s.nowhere e)))
    start_right t l b later k o s variants.Full e = (omega arith, omega arith, b)

    set-right : (t : ℕ) → t ≤ 255 → NoneBefore q t → (z : Sets) → Stand (suc t) z → (later : Sets → Ending) → Later t later
        → EndsRight q 0 (on_set q p first t z later)
    set-right t l b z h later k = go (eqb (get_or z.table t 0) 0) refl (ltb t first) refl
      where
        quiet : QuietBefore m t
        quiet u ul = same u (b u ul)

        go : (e : Bool) → eqb (get_or z.table t 0) 0 ≡ e → (i : Bool) → ltb t first ≡ i
            → EndsRight q 0 (cond e (Ending.never t) (cond i (later z) (after_start q t (start_again p t z) later)))
        go true e i d = (
          omega arith,
          omega arith,
          λ u. back u
              (empty-below-quiet m n inside t
              (empty-set level m n inside at p.vars p.rows coded few (suc t) z h t (omega arith) (eqb-true (get_or z.table t 0) 0 e))
              (λ v vl. same v (b v vl)) u),
        )
        go false e true d = k z h (λ u ul. before u (omega (arith, ltb-true t first d)))
        go false e false d =
            start_right t l b later k (start_again p t z) (again-right t (λ v vl. same v (b v vl)) z h) (start_again p t z).found refl

    -- the frames from t on, where the sets before t stand
    pub frames-right : (j t : ℕ) (z : Sets) → t + j ≡ 256 → Stand t z → NoneBefore q t → EndsRight q 0 (frames_from q p first j t z)
    unfolding frames_from
    frames-right zero t z e h b = subst (NoneBefore q) (omega arith) b
    frames-right (suc j) t z e h b =
        go (advanced p.vars p.rows t z).done refl
        (λ d. advanced-right level m n inside at p.vars p.rows coded few t (omega arith) z h d)
        (λ y k c. frames-right j (suc t) y (omega arith) k c)
      where
        go : (d : Bool) → (advanced p.vars p.rows t z).done ≡ d
            → ((advanced p.vars p.rows t z).done ≡ true → Stand (suc t) (advanced p.vars p.rows t z).sets)
            → Later t (frames_from q p first j (suc t))
            → EndsRight q 0 (on_tried q p first t d (advanced p.vars p.rows t z).sets (frames_from q p first j (suc t)))
        go true d s k = set-right t (omega arith) b (advanced p.vars p.rows t z).sets (s d) (frames_from q p first j (suc t)) k
        go false d s k = (omega arith, omega arith, b)
