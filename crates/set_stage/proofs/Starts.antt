-- The start states of a circuit's machine, by the values of its free latches. Assumes nothing.
use mathlib.Core.Path.{◌≡◌, refl, sym, ap, ap₂, ◌∙◌, subst}
use mathlib.Core.Bool.{Bool, true, false, cond}
use mathlib.Core.List.{List, [], ◌∷◌, ◌++◌, map}
use Prim.Native.Nat.{ℕ, zero, suc, ◌+◌, ◌-◌, ◌^◌, ◌≤◌, ◌<◌}
use native.Mathlib.Decide.{dec_lt, ℕ_discrete}
use native.Mathlib.Omega.{arith}
use borrow.Author.Tests.{eq-eqb, ne_eqb, eqb-true, eqb-false}
use lib.Dec.{T, eqb}
use lib.ListN.{length, get_or, length-map, length-append, get_or-append}
use lib.Seq.{get_or_at}
use Rattle.aiger.specs.Bits.{nonzero, bit}
use Rattle.aiger.specs.Circuit.{Circuit}
use Rattle.aiger.specs.Frames.{is_free, free_starts, free_bit}
use Rattle.aiger.proofs.Tests.{true-T, T_true, nonzero-bit}
use Rattle.meaning.specs.Frame.{latch_at}
use Rattle.meaning.proofs.Lists.{get_or-map}
use Rattle.frames.specs.Starts.{free_before, start_bit}
use Rattle.frames.proofs.Starts.{free-none, free_more, free_all}
use Rattle.machine.specs.Machine.{Machine}
use Rattle.influence.specs.Part.{Part, Listed}
use Rattle.influence.specs.Cone.{kept_below}
use Rattle.influence.proofs.Kept.{chosen, kept_in, kept_out}
use Rattle.transitions.specs.Transitions.{number_of, rank_in, start_number, machine_of}
use Rattle.transitions.proofs.Packing.{start-list}
use Rattle.set_walk.specs.Start.{StartsOf}
use Rattle.set_stage.specs.Plans.{code_of, Among, free_places, frees_of, reset_word, base_of}
use Rattle.set_stage.proofs.Rows.{coded, code_at, kept-bit}

-- ---- free latches by their places

module _ (c : Circuit) where
  abbrev is_free_at : ℕ → Bool
  is_free_at j = is_free (latch_at c j)

  -- the free latches below n, and how many are before each of them
  record Counted (n : ℕ) (ks : List ℕ) : Type 0 where
    size : length ks ≡ free_before c n
    before : (k : ℕ) → k < length ks → free_before c (get_or ks k 0) ≡ k

  counted : (n : ℕ) → n ≤ length c.latches → Counted n (kept_below (λ j. is_free (latch_at c j)) n)
  unfolding kept_below
  counted zero l = record { size = sym (free-none c); before = λ k h. absurd (omega arith) }
  counted (suc n) l = go (is_free (latch_at c n)) refl (counted n (omega arith))
    where
      go : (b : Bool) → is_free (latch_at c n) ≡ b → Counted n (kept_below (λ j. is_free (latch_at c j)) n)
          → Counted (suc n) (cond b (kept_below (λ j. is_free (latch_at c j)) n ++ (n ∷ [])) (kept_below (λ j. is_free (latch_at c j)) n))
      go b e h =
          let ks = kept_below (λ j. is_free (latch_at c j)) n in
          let one : n + 1 ≡ suc n = omega arith in
          let more : free_before c (suc n) ≡ free_before c n + cond b 1 0 =
          ap (free_before c) (sym one) ∙ free_more c n (omega arith) ∙ ap (λ (t : Bool). free_before c n + cond t 1 0) e in
          by b more ks h
        where
          by : (b : Bool) → free_before c (suc n) ≡ free_before c n + cond b 1 0 → (ks : List ℕ) → Counted n ks → Counted (suc n) (cond b (ks ++ (n ∷ [])) ks)
          by false q ks h = record { size = omega (arith, h.size); before = h.before }
          by true q ks h =
              let s : length (ks ++ (n ∷ [])) ≡ length ks + 1 = length-append ks (n ∷ []) in
              record {
                size = omega (arith, h.size);
                before = λ k l. elim (dec_lt k (length ks)) [
                  | yes z ↦ ap (free_before c) (get_or-append ks (n ∷ []) 0 k z) ∙ h.before k z
                  | no z ↦ let w : length ks ≡ k = omega arith in ap (free_before c) (get_or_at ks n [] 0 k w) ∙ sym h.size ∙ w
                ];
              }

  abbrev L : ℕ
  L = length c.latches

  pub free-count : length (free_places c) ≡ free_starts c
  unfolding free_places
  free-count = (counted L (omega arith)).size ∙ free_all c

  free-order : (u : ℕ) → u < length (free_places c) → free_before c (get_or (free_places c) u 0) ≡ u
  unfolding free_places
  free-order u l = (counted L (omega arith)).before u l

  free-is : (u : ℕ) → u < length (free_places c) → is_free (latch_at c (get_or (free_places c) u 0)) ≡ true
  unfolding free_places
  free-is u l = true-T (is_free (latch_at c (get_or (kept_below is_free_at L) u 0))) ((chosen is_free_at L).passes u l)

  free-there : (j : ℕ) → j < length c.latches → is_free (latch_at c j) ≡ true → (u : ℕ) × (u < length (free_places c)) × (get_or (free_places c) u 0 ≡ j)
  unfolding free_places
  free-there j l e = (chosen is_free_at L).there j l (T_true e)

-- ---- ranks

pub rank-found : (ks : List ℕ) (j : ℕ) → rank_in ks j < length ks → get_or ks (rank_in ks j) 0 ≡ j
unfolding rank_in
rank-found [] j l = absurd (omega arith)
rank-found (k ∷ ks) j l = go (eqb k j) refl l (rank-found ks j)
  where
    go : (b : Bool) → eqb k j ≡ b → cond b 0 (suc (rank_in ks j)) < suc (length ks) → (rank_in ks j < length ks → get_or ks (rank_in ks j) 0 ≡ j)
        → get_or (k ∷ ks) (cond b 0 (suc (rank_in ks j))) 0 ≡ j
    go true e l ih = eqb-true k j e
    go false e l ih = ih (omega arith)

pub rank_below : (ks : List ℕ) (v : ℕ) → v < length ks → rank_in ks (get_or ks v 0) < length ks
unfolding rank_in
rank_below [] v l = absurd (omega arith)
rank_below (k ∷ ks) zero l = subst (λ (b : Bool). cond b 0 (suc (rank_in ks k)) < suc (length ks)) (sym (eq-eqb k k refl)) (omega arith)
rank_below (k ∷ ks) (suc v) l = go (eqb k (get_or ks v 0)) (rank_below ks v (omega arith))
  where
    go : (b : Bool) → rank_in ks (get_or ks v 0) < length ks → cond b 0 (suc (rank_in ks (get_or ks v 0))) < suc (length ks)
    go true h = omega arith
    go false h = omega arith

module _ (part : Part) (listed : Listed part) (b : ℕ) (latches : List ℕ) (among : Among part latches) where
  abbrev c : Circuit
  c = part.circuit

  abbrev frees : List ℕ
  frees = frees_of c latches

  frees-length : length (frees_of part.circuit latches) ≡ length (free_places part.circuit)
  unfolding frees_of
  frees-length = length-map (free_places c) (rank_in latches)

  frees-at : (u : ℕ) → u < length (free_places part.circuit) → get_or (frees_of part.circuit latches) u 0 ≡ rank_in latches (get_or (free_places part.circuit) u 0)
  unfolding frees_of
  frees-at u l = get_or-map (rank_in latches) (free_places c) u 0 0 l

  base-at : (v : ℕ) → v < length latches → get_or (base_of part.circuit latches) v 0 ≡ reset_word part.circuit (get_or latches v 0)
  unfolding base_of
  base-at v l = get_or-map (reset_word c) latches v 0 0 l

  base-length : length (base_of part.circuit latches) ≡ length latches
  unfolding base_of
  base-length = length-map latches (reset_word c)

  -- the latch of a free latch's variable
  latch-of : (u : ℕ) → u < length (free_places part.circuit) → get_or (frees_of part.circuit latches) u 0 < length latches
      → get_or latches (get_or (frees_of part.circuit latches) u 0) 0 ≡ get_or (free_places part.circuit) u 0
  latch-of u l h =
      let e = frees-at u l in
      ap (λ (v : ℕ). get_or latches v 0) e ∙ rank-found latches (get_or (free_places c) u 0) (subst (λ (v : ℕ). v < length latches) e h)

  -- a start state as an assignment
  pub start-code : (y v : ℕ) → v < length latches → code_of part latches ((machine_of part b).start y) v ≡ start_bit part.circuit (free_starts part.circuit) y (get_or latches v 0)
  unfolding machine_of
  start-code y v l =
      let i = among.kept v l in
      code_at part latches (start_number part y) v l
      ∙ ap (λ (s : ℕ). bit s (rank_in part.kept (get_or latches v 0))) (sym (start-list c y part.kept listed.inside))
      ∙ kept-bit part listed (start_bit c (free_starts c) y) (get_or latches v 0) i.0 i.1 i.2

  free-bit : (y u : ℕ) → u < length (free_places part.circuit)
      → start_bit part.circuit (free_starts part.circuit) y (get_or (free_places part.circuit) u 0) ≡ free_bit (free_starts part.circuit) y u
  unfolding start_bit
  free-bit y u l =
      let j = get_or (free_places c) u 0 in
      ap (λ (t : Bool). cond t (free_bit (free_starts c) y (free_before c j)) (eqb (latch_at c j).reset 1)) (free-is c u l)
      ∙ ap (free_bit (free_starts c) y) (free-order c u l)

  pub fixed-bit : (y j : ℕ) → is_free (latch_at part.circuit j) ≡ false
      → start_bit part.circuit (free_starts part.circuit) y j ≡ nonzero (reset_word part.circuit j)
  unfolding start_bit
  fixed-bit y j e =
      ap (λ (t : Bool). cond t (free_bit (free_starts c) y (free_before c j)) (eqb (latch_at c j).reset 1)) e
      ∙ sym (nonzero-bit (eqb (latch_at c j).reset 1))
      ∙ sym (ap (λ (t : Bool). nonzero (cond t 0 (cond (eqb (latch_at c j).reset 1) 1 0))) e)

  places-are : (machine_of part b).starts ≡ 2 ^ free_starts part.circuit
  unfolding machine_of
  places-are = refl

  free-all-length : length (frees_of part.circuit latches) ≡ free_starts part.circuit
  free-all-length = frees-length ∙ free-count c

  pub starts-of : StartsOf (machine_of part b) (code_of part latches) (length latches) (frees_of part.circuit latches) (base_of part.circuit latches)
  starts-of =
      record {
        places = places-are ∙ ap (λ (n : ℕ). 2 ^ n) (sym free-all-length);
        wide = base-length;
        past = (coded part latches).past;
        clear = λ u l h.
            let k : u < length (free_places c) = omega (arith, frees-length) in
            base-at (get_or frees u 0) h
            ∙ ap (λ (t : Bool). cond t 0 (cond (eqb (latch_at c (get_or latches (get_or frees u 0) 0)).reset 1) 1 0))
            (ap (λ (j : ℕ). is_free (latch_at c j)) (latch-of u k h) ∙ free-is c u k);
        apart = λ u i ul il h e.
            let k : u < length (free_places c) = omega (arith, frees-length) in
            let l : i < length (free_places c) = omega (arith, frees-length) in
            let g : get_or frees i 0 < length latches = omega arith in
            sym (free-order c u k)
            ∙ ap (free_before c) (sym (latch-of u k h) ∙ ap (λ (v : ℕ). get_or latches v 0) e ∙ latch-of i l g)
            ∙ free-order c i l;
        free = λ y u yl ul h.
            let k : u < length (free_places c) = omega (arith, frees-length) in
            start-code y (get_or frees u 0) h ∙ ap (start_bit c (free_starts c) y) (latch-of u k h) ∙ free-bit y u k
            ∙ ap (λ (n : ℕ). free_bit n y u) (sym free-all-length);
        fixed = λ y v yl vl none_free.
            let j = get_or latches v 0 in
            start-code y v vl
            ∙ fixed-bit y j
            (not_free (is_free (latch_at c j)) refl
            (λ e.
            let i = among.kept v vl in
            let inside : j < length c.latches = subst (λ (x : ℕ). x < length c.latches) i.2 (listed.inside i.0 i.1) in
            let f = free-there c j inside e in
            let same : get_or frees f.0 0 ≡ v =
            frees-at f.0 f.1 ∙ ap (rank_in latches) f.2
            ∙ among.apart (rank_in latches j) v (rank_below latches v vl) vl (rank-found latches j (rank_below latches v vl)) in
            none_free f.0 (omega (arith, frees-length, f.1)) same))
            ∙ ap nonzero (sym (base-at v vl));
      }
    where
      not_free : (t : Bool) {x : Bool} → x ≡ t → (x ≡ true → ⊥) → x ≡ false
      not_free true e f = absurd (f e)
      not_free false e f = e
