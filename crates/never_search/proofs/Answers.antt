-- What a search at a depth may answer, in plain terms: which answers exclude each other, what each says of the circuit, and that more
-- budget keeps all but spent. Clause 12.15. Assumes nothing.
use mathlib.Core.Path.{◌≡◌, refl, sym, ap, ap₂, ◌∙◌, subst}
use mathlib.Core.Bool.{Bool, not, cond, ◌&&◌}
use mathlib.Core.List.{List, []}
use mathlib.Core.Option.{Option}
use Prim.Native.Nat.{ℕ, ◌+◌, ◌-◌, ◌*◌, ◌^◌, ◌≤◌, ◌<◌}
use native.Mathlib.Decide.{dec_lt}
use native.Mathlib.Omega.{arith}
use borrow.Author.Tests.{le-leb, lt-leb}
use lib.Dec.{T, leb, eqb, leb→le, le→leb, eqb→eq, eqb_refl}
use lib.ListN.{length, get_or}
use Rattle.aiger.specs.Lists.{every_below}
use Rattle.aiger.specs.Circuit.{Circuit}
use Rattle.aiger.specs.Frames.{Run, Space, space, value_at, hits, run, free_bits, run_in, bits_in, free_bit}
use Rattle.aiger.specs.Search.{Question, question, Outcome, onward, least_below, first_at, permitted, permitted_of, tells, reaches, reaches_in, first_witness}
use Rattle.aiger.specs.Witness.{witness, agrees, confirms}
use Rattle.aiger.proofs.Tests.{and, and_left, and_right}
use Rattle.meaning.proofs.Lists.{length-map-upto}
use Rattle.meaning.proofs.Decisions.{NoneFrom, FirstHit, first-from}
use Rattle.meaning.proofs.Outcomes.{Found, None, Spent, Quiet, found-out, found_in, none_out, none_in, spent-out, found-same, none_found}
use Rattle.place_search.proofs.Answers.{Reached, tells-out}
use Rattle.never_search.specs.Runs.{hits_alone, freed_space, reaches_alone, alone_question, freed}
use Rattle.never_search.specs.Depth.{space_at, depth_question, Verdict, permitted_at, witness_at}
use Rattle.never_search.proofs.Windows.{Local, space-local}
use Rattle.never_search.proofs.Never.{never-hit}
use Rattle.never_search.proofs.Freed.{freed-hits, freed-agrees}

-- the answer is not spent
abbrev pub Settled : Verdict → Type 0
Settled (Verdict.found t) = Unit {0}
Settled (Verdict.never k) = Unit {0}
Settled (Verdict.opened k) = Unit {0}
Settled (Verdict.spent t R) = ⊥

module _ (q : Question) (k D : ℕ) where
  -- what an answer says of the question
  abbrev pub Told : Verdict → Type 0
  Told (Verdict.found t) = (t ≤ k) × Found q (k + 1) t
  Told (Verdict.never j) = (j ≡ k) × Quiet q (k + 2)
  Told (Verdict.opened j) = (j ≡ k) × Found q (k + 1) (k + 1)
  Told (Verdict.spent t R) = Spent q (k + 1) D t × Reached (q.hitting t) (q.places t) 0 D R

  pub permitted-out : (v : Verdict) → T (permitted_at q k D v) → Told v
  unfolding permitted_at
  permitted-out (Verdict.found t) h =
      let a = leb t k in
      let p = permitted_of q (k + 1) D (Outcome.found t) in
      (leb→le t k (and_left a p h), found-out q (k + 1) D t (and_right a p h))
  permitted-out (Verdict.never j) h =
      let a = eqb j k in
      let p = permitted_of q (k + 1) D (Outcome.none (k + 1)) in
      (eqb→eq j k (and_left a p h), λ u l. (none_out q (k + 1) D (k + 1) (and_right a p h)).quiet u (omega arith))
  permitted-out (Verdict.opened j) h =
      let a = eqb j k in
      let p = permitted_of q (k + 1) D (Outcome.found (k + 1)) in
      (eqb→eq j k (and_left a p h), found-out q (k + 1) D (k + 1) (and_right a p h))
  permitted-out (Verdict.spent t R) h =
      let p = permitted_of q (k + 1) D (Outcome.spent t) in
      let r = tells (q.hitting t) (q.places t) 0 D R in
      (spent-out q (k + 1) D t (and_left p r h), tells-out (q.hitting t) (q.places t) 0 D R (and_right p r h))

  -- ---- and the other way round, from an outcome of a search up to bound k + 1

  pub found-permitted : (t : ℕ) → t ≤ k → T (permitted_of q (k + 1) D (Outcome.found t)) → T (permitted_at q k D (Verdict.found t))
  unfolding permitted_at
  found-permitted t l h = and (leb t k) (permitted_of q (k + 1) D (Outcome.found t)) (le→leb t k l) h

  pub never-permitted : T (permitted_of q (k + 1) D (Outcome.none (k + 1))) → T (permitted_at q k D (Verdict.never k))
  unfolding permitted_at
  never-permitted h = and (eqb k k) (permitted_of q (k + 1) D (Outcome.none (k + 1))) (eqb_refl k) h

  pub open-permitted : T (permitted_of q (k + 1) D (Outcome.found (k + 1))) → T (permitted_at q k D (Verdict.opened k))
  unfolding permitted_at
  open-permitted h = and (eqb k k) (permitted_of q (k + 1) D (Outcome.found (k + 1))) (eqb_refl k) h

  pub spent-permitted : (t R : ℕ) → T (permitted_of q (k + 1) D (Outcome.spent t)) → T (tells (q.hitting t) (q.places t) 0 D R)
      → T (permitted_at q k D (Verdict.spent t R))
  unfolding permitted_at
  spent-permitted t R h r = and (permitted_of q (k + 1) D (Outcome.spent t)) (tells (q.hitting t) (q.places t) 0 D R) h r

-- ---- the answer is one

module _ (q : Question) (k : ℕ) where
  quiet-found : {k' t : ℕ} → Quiet q (k + 2) → Found q k' t → t ≤ k + 1 → ⊥
  quiet-found {t = t} n f l = let a = f.first in n t (omega arith) f.place a.from a.fits a.hit

  told_same : (D D' : ℕ) (v v' : Verdict) → Settled v → Settled v' → Told q k D v → Told q k D' v' → v ≡ v'
  told_same D D' (Verdict.found t) (Verdict.found t') s s' h h' = ap Verdict.found (found-same q h.1 h'.1)
  told_same D D' (Verdict.found t) (Verdict.never j) s s' h h' = absurd (quiet-found h'.1 h.1 (omega (arith, h.0)))
  told_same D D' (Verdict.found t) (Verdict.opened j) s s' h h' = absurd (omega (arith, h.0, found-same q h.1 h'.1))
  told_same D D' (Verdict.never j) (Verdict.found t) s s' h h' = absurd (quiet-found h.1 h'.1 (omega (arith, h'.0)))
  told_same D D' (Verdict.never j) (Verdict.never j') s s' h h' = ap Verdict.never (h.0 ∙ sym h'.0)
  told_same D D' (Verdict.never j) (Verdict.opened j') s s' h h' = absurd (quiet-found h.1 h'.1 (omega arith))
  told_same D D' (Verdict.opened j) (Verdict.found t) s s' h h' = absurd (omega (arith, h'.0, found-same q h.1 h'.1))
  told_same D D' (Verdict.opened j) (Verdict.never j') s s' h h' = absurd (quiet-found h'.1 h.1 (omega arith))
  told_same D D' (Verdict.opened j) (Verdict.opened j') s s' h h' = ap Verdict.opened (h.0 ∙ sym h'.0)
  told_same D D' (Verdict.found t) (Verdict.spent u R) s s' h h' = absurd s'
  told_same D D' (Verdict.never j) (Verdict.spent u R) s s' h h' = absurd s'
  told_same D D' (Verdict.opened j) (Verdict.spent u R) s s' h h' = absurd s'
  told_same D D' (Verdict.spent t R) v' s s' h h' = absurd s

  -- two permitted answers that are not spent are the same, whatever the budgets
  pub verdict-same : (D D' : ℕ) (v v' : Verdict) → Settled v → Settled v' → T (permitted_at q k D v) → T (permitted_at q k D' v') → v ≡ v'
  verdict-same D D' v v' s s' h h' = told_same D D' v v' s s' (permitted-out q k D v h) (permitted-out q k D' v' h')

  -- a choice that is permitted, and that with more budget is not spent where it was not, keeps found, never and open with more budget
  pub verdict-kept : (chosen : ℕ → Verdict) → ((D : ℕ) → T (permitted_at q k D (chosen D)))
      → ((D E : ℕ) → D ≤ E → Settled (chosen D) → Settled (chosen E)) → (D E : ℕ) → D ≤ E → Settled (chosen D) → chosen E ≡ chosen D
  verdict-kept chosen right kept D E l s = verdict-same E D (chosen E) (chosen D) (kept D E l s) s (right E) (right D)

-- ---- what is said of a circuit

module _ (c : Circuit) (s : Space) (b k : ℕ) where
  abbrev asked : Question
  asked = depth_question c s b k

  -- the question about the frames up to the depth is the plain one, among the sequences of s
  abbrev pub plain_question : Question
  plain_question = record { places = λ t. 2 ^ bits_in s t; hitting = reaches_in s c b }

  abbrev pub second_question : Question
  second_question = alone_question (freed_space c s) c b

  -- the places of frame t and which of them hit, where the frame is within the depth and where it is not
  abbrev places_by : ℕ → Bool → ℕ
  places_by t within = 2 ^ bits_in (cond within s (freed_space c s)) t

  abbrev hitting_by : ℕ → Bool → ℕ → Bool
  hitting_by t within x = cond within (reaches_in s c b t x) (reaches_alone (freed_space c s) c b t x)

  pub plain-clear : (t : ℕ) → t ≤ k → NoneFrom (asked.hitting t) 0 (asked.places t) → NoneFrom (reaches_in s c b t) 0 (2 ^ bits_in s t)
  plain-clear t l h = subst (λ (w : Bool). NoneFrom (hitting_by t w) 0 (places_by t w)) (le-leb t k l) h

  pub clear-plain : (t : ℕ) → t ≤ k → NoneFrom (reaches_in s c b t) 0 (2 ^ bits_in s t) → NoneFrom (asked.hitting t) 0 (asked.places t)
  clear-plain t l h = subst (λ (w : Bool). NoneFrom (hitting_by t w) 0 (places_by t w)) (sym (le-leb t k l)) h

  pub plain-first : (t x : ℕ) → t ≤ k → FirstHit (asked.hitting t) (asked.places t) 0 x → FirstHit (reaches_in s c b t) (2 ^ bits_in s t) 0 x
  plain-first t x l h = subst (λ (w : Bool). FirstHit (hitting_by t w) (places_by t w) 0 x) (le-leb t k l) h

  pub first_plain : (t x : ℕ) → t ≤ k → FirstHit (reaches_in s c b t) (2 ^ bits_in s t) 0 x → FirstHit (asked.hitting t) (asked.places t) 0 x
  first_plain t x l h = subst (λ (w : Bool). FirstHit (hitting_by t w) (places_by t w) 0 x) (sym (le-leb t k l)) h

  pub second-clear : NoneFrom (asked.hitting (k + 1)) 0 (asked.places (k + 1))
      → NoneFrom (reaches_alone (freed_space c s) c b (k + 1)) 0 (2 ^ bits_in (freed_space c s) (k + 1))
  second-clear h = subst (λ (w : Bool). NoneFrom (hitting_by (k + 1) w) 0 (places_by (k + 1) w)) (lt-leb (k + 1) k (omega arith)) h

  pub second-first : (x : ℕ) → FirstHit (asked.hitting (k + 1)) (asked.places (k + 1)) 0 x
      → FirstHit (reaches_alone (freed_space c s) c b (k + 1)) (2 ^ bits_in (freed_space c s) (k + 1)) 0 x
  second-first x h = subst (λ (w : Bool). FirstHit (hitting_by (k + 1) w) (places_by (k + 1) w) 0 x) (lt-leb (k + 1) k (omega arith)) h

  -- Clause 12.15: found is what the plain search with bound k may answer, and the other way round
  pub found_plain : (D t : ℕ) → T (permitted_at asked k D (Verdict.found t)) → T (permitted_of plain_question k D (Outcome.found t))
  found_plain D t h =
      let a = permitted-out asked k D (Verdict.found t) h in
      let f = a.1 in
      found_in plain_question k D t
      (record {
        within = a.0;
        quiet = λ u l. plain-clear u (omega (arith, a.0)) (f.quiet u l);
        place = f.place;
        first = plain-first t f.place a.0 f.first;
      })

  pub plain-found : (D t : ℕ) → T (permitted_of plain_question k D (Outcome.found t)) → T (permitted_at asked k D (Verdict.found t))
  plain-found D t h =
      let f = found-out plain_question k D t h in
      found-permitted asked k D t f.within
      (found_in asked (k + 1) D t
      (record {
        within = omega (arith, f.within);
        quiet = λ u l. clear-plain u (omega (arith, f.within)) (f.quiet u l);
        place = f.place;
        first = first_plain t f.place f.within f.first;
      }))

  -- Clause 12.15: where never is answered no sequence of any frame hits, however late the frame
  pub never-fires : Local c s → (D j : ℕ) → T (permitted_at asked k D (Verdict.never j)) → (t x : ℕ) → x < 2 ^ bits_in s t → T (reaches_in s c b t x) → ⊥
  never-fires local D j h t x l r =
      let a = permitted-out asked k D (Verdict.never j) h in
      never-hit c s local b k (λ u m. plain-clear u m (a.1 u (omega arith))) (second-clear (a.1 (k + 1) (omega arith))) t x (omega arith) l r

  -- what open says: no frame up to the depth has a hit, and of the sequences of k + 2 frames from any latch values `place` is the first whose
  -- run hits in its last frame alone
  pub record Opened : Type 0 where
    pub quiet : (t : ℕ) → t ≤ k → NoneFrom (reaches_in s c b t) 0 (2 ^ bits_in s t)
    pub place : ℕ
    pub first : FirstHit (reaches_alone (freed_space c s) c b (k + 1)) (2 ^ bits_in (freed_space c s) (k + 1)) 0 place

  pub opened_out : (D j : ℕ) → T (permitted_at asked k D (Verdict.opened j)) → Opened
  opened_out D j h =
      let a = permitted-out asked k D (Verdict.opened j) h in
      let f = a.1 in
      record { quiet = λ t l. plain-clear t l (f.quiet t (omega arith)); place = f.place; first = second-first f.place f.first }

  -- its witness is that of this run
  pub open-witness : (o : Opened) → witness_at c s b k (k + 1) ≡ witness b (run_in (freed_space c s) (k + 1) o.place)
  unfolding witness_at
  open-witness o =
      ap (λ (w : Bool).
      elim (least_below (places_by (k + 1) w) (onward 0 (hitting_by (k + 1) w))) [
        | Option.some x ↦ witness b (run_in (cond w s (freed_space c s)) (k + 1) x)
        | Option.none ↦ []
      ]) (lt-leb (k + 1) k (omega arith))
      ∙ ap (λ (p : Option ℕ). elim p [ Option.some x ↦ witness b (run_in (freed_space c s) (k + 1) x) | Option.none ↦ [] ])
      (first-from (reaches_alone (freed_space c s) c b (k + 1)) o.first)

  -- and replayed from its own start, in the circuit in which every latch has a free start, it hits
  pub open-replays : (o : Opened) → T (confirms (freed c) (record { bad = b; run = run_in (freed_space c s) (k + 1) o.place }))
  unfolding confirms reaches_alone hits_alone
  open-replays o =
      let r = run_in (freed_space c s) (k + 1) o.place in
      let f = free_bit (bits_in (freed_space c s) (k + 1)) o.place in
      let rows = length-map-upto (λ u. s.row_of (λ i. f (length c.latches + s.width * u + i))) (k + 1 + 1) in
      let n : length r.rows - 1 ≡ k + 1 = omega (arith, rows) in
      and (agrees (freed c).latches r.start) (hits (freed c) b r (length r.rows - 1))
      (freed-agrees c r.start (length-map-upto f (length c.latches)))
      (subst T (sym (freed-hits c b r (length r.rows - 1) ∙ ap (hits c b r) n)) (and_left (hits c b r (k + 1)) (every_below (k + 1) (λ u. not (value_at c r u (get_or c.bads b 0)))) o.first.hit))

-- without pins found's witness is the plain search's
pub found-witness : (c : Circuit) (b k t : ℕ) → t ≤ k → witness_at c (space c) b k t ≡ first_witness c b t
unfolding witness_at first_witness free_bits reaches run
found-witness c b k t l =
    ap (λ (w : Bool).
    elim (least_below (places_by c (space c) b k t w) (onward 0 (hitting_by c (space c) b k t w))) [
      | Option.some x ↦ witness b (run_in (cond w (space c) (freed_space c (space c))) t x)
      | Option.none ↦ []
    ]) (le-leb t k l)

-- and found itself is permitted for the plain search with the same bound and budget
pub found-search : (c : Circuit) (b k D t : ℕ) → T (permitted_at (depth_question c (space c) b k) k D (Verdict.found t)) → T (permitted c b k D (Outcome.found t))
unfolding free_bits reaches
found-search c b k D t h = found_plain c (space c) b k D t h

-- where never is answered no sequence of the circuit hits at any frame
pub never-search : (c : Circuit) (b k D j : ℕ) → T (permitted_at (depth_question c (space c) b k) k D (Verdict.never j))
    → (t x : ℕ) → x < 2 ^ free_bits c t → T (reaches c b t x) → ⊥
unfolding free_bits reaches
never-search c b k D j h t x l r = never-fires c (space c) b k (space-local c) D j h t x l r
