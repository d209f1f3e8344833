-- What memory held, but for the netlist, changes nothing. Assumes nothing.
use mathlib.Core.Path.{◌≡◌, sym, ◌∙◌}
use mathlib.Core.List.{List}
use mathlib.Core.Logic.{◌⊎◌, inl, inr}
use Prim.Native.Nat.{ℕ, zero, suc, ◌+◌, ◌-◌, ◌*◌, ◌%◌, ◌≤◌, ◌<◌}
use native.Mathlib.Decide.{ℕ_discrete, dec_lt}
use native.Mathlib.Omega.{arith}
use borrow.Author.Tests.{lt-leb}
use lib.ListN.{length, get_or, set, length-set}
use lib.Seq.{get_or-set_same, get_or-set_other, ext_get_or}
use Rattle.memory.specs.Record.{undef, place, stored}
use Rattle.memory.specs.declared.Netlist.{Netlist}
use Rattle.reasons.proofs.Frame.{length-stored}
use Rattle.conflicts.specs.Conflicts.{reset, reset_rest, reset_all, wiped, prepared, ran}

-- two lists of one size that have the same word j where P holds
record Alike (size j : ℕ) (P : Type 0) (a b : List ℕ) : Type 0 where
  long : length a ≡ size
  also : length b ≡ size
  same : P → get_or a j 0 ≡ get_or b j 0

module _ {size j : ℕ} {P : Type 0} {a b : List ℕ} where
  alike-if : {Q : Type 0} → (Q → P) → Alike size j P a b → Alike size j Q a b
  alike-if f t = record { long = t.long; also = t.also; same = λ q. t.same (f q) }

  -- after the same store
  alike_set : (i x : ℕ) → i < size → Alike size j ((j ≡ i → ⊥) × P) a b → Alike size j P (set a i x) (set b i x)
  alike_set i x small t =
      record {
        long = length-set a i x ∙ t.long;
        also = length-set b i x ∙ t.also;
        same = λ p. word (ℕ_discrete j i)
            (λ n. t.same (n, p));
      }
    where
      word : Dec (j ≡ i) → ((j ≡ i → ⊥) → get_or a j 0 ≡ get_or b j 0) → get_or (set a i x) j 0 ≡ get_or (set b i x) j 0
      word (yes e) f = rw e (get_or-set_same a i x 0 (omega (arith, t.long)) ∙ sym (get_or-set_same b i x 0 (omega (arith, t.also))))
      word (no n) f = get_or-set_other a i j x 0 n ∙ f n ∙ sym (get_or-set_other b i j x 0 n)

  module _ (nodes : ℕ) (wide : 14 * nodes ≤ size) where
    alike-stored : (v f x : ℕ) → (P → v < nodes) → f < 14 → Alike size j ((j ≡ 14 * v + f → ⊥) × P) a b
        → Alike size j P (stored a nodes v f x) (stored b nodes v f x)
    unfolding stored
    alike-stored v f x small l t =
        record {
          long = length-stored a nodes v f x ∙ t.long;
          also = length-stored b nodes v f x ∙ t.also;
          same = λ p. word (small p) p;
        }
      where
        word : v < nodes → P → get_or (stored a nodes v f x) j 0 ≡ get_or (stored b nodes v f x) j 0
        word h p = rw (lt-leb nodes v h) ((alike_set (place v f) x (omega arith) t).same p)

least : (b x : ℕ) → (x < b → ⊥) → b ≤ x
least b x n = omega arith

most : (x : ℕ) → (11 < x → ⊥) → x < 12
most x n = omega arith

module _ (nodes : ℕ) where
  -- word j of a record is one that the netlist gives, or of a node from n on
  abbrev Given : ℕ → ℕ → Type 0
  Given n j = (j < 14 * nodes) × ((j % 14 < 3) ⊎ ((11 < j % 14) ⊎ (14 * n ≤ j)))

  -- a word of node n or a later one that is none of three neighbours
  three : (n j f : ℕ) → f < 12 → 14 * n ≤ j → f ≤ j % 14 → j % 14 < f + 3 → (j ≡ 14 * n + f → ⊥) → (j ≡ 14 * n + (f + 1) → ⊥)
      → (j ≡ 14 * n + (f + 2) → ⊥) → 14 * suc n ≤ j
  three n j f s l a b p q r = omega arith

  given-more : (n j : ℕ) → Given n j → (j ≡ 14 * n + 3 → ⊥) → (j ≡ 14 * n + 4 → ⊥) → (j ≡ 14 * n + 5 → ⊥) → (j ≡ 14 * n + 6 → ⊥)
      → (j ≡ 14 * n + 7 → ⊥) → (j ≡ 14 * n + 8 → ⊥) → (j ≡ 14 * n + 9 → ⊥) → (j ≡ 14 * n + 10 → ⊥) → (j ≡ 14 * n + 11 → ⊥) → Given (suc n) j
  given-more n j (h, inl a) n3 n4 n5 n6 n7 n8 n9 n10 n11 = (h, inl a)
  given-more n j (h, inr (inl a)) n3 n4 n5 n6 n7 n8 n9 n10 n11 = (h, inr (inl a))
  given-more n j (h, inr (inr a)) n3 n4 n5 n6 n7 n8 n9 n10 n11 = (
    h,
    split (dec_lt (j % 14) 3) (dec_lt (j % 14) 6) (dec_lt (j % 14) 9) (dec_lt 11 (j % 14)) (λ l h. three n j 3 below a l h n3 n4 n5)
        (λ l h. three n j 6 below' a l h n6 n7 n8) (λ l h. three n j 9 below'' a l h n9 n10 n11),
  )
    where
      below : 3 < 12
      below = omega arith

      below' : 6 < 12
      below' = omega arith

      below'' : 9 < 12
      below'' = omega arith

      split : Dec (j % 14 < 3) → Dec (j % 14 < 6) → Dec (j % 14 < 9) → Dec (11 < j % 14) → (3 ≤ j % 14 → j % 14 < 6 → 14 * suc n ≤ j)
          → (6 ≤ j % 14 → j % 14 < 9 → 14 * suc n ≤ j) → (9 ≤ j % 14 → j % 14 < 12 → 14 * suc n ≤ j) → (j % 14 < 3)
          ⊎ ((11 < j % 14) ⊎ (14 * suc n ≤ j))
      split (yes p) q r t x y z = inl p
      split (no p) (yes q) r t x y z = inr (inr (x (least 3 (j % 14) p) q))
      split (no p) (no q) (yes r) t x y z = inr (inr (y (least 6 (j % 14) q) r))
      split (no p) (no q) (no r) (yes t) x y z = inr (inl t)
      split (no p) (no q) (no r) (no t) x y z = inr (inr (z (least 9 (j % 14) r) (most (j % 14) t)))

  module _ (size j : ℕ) (wide : 14 * nodes ≤ size) where
    -- j is not word f of node v
    abbrev Other : ℕ → ℕ → Type 0
    Other v f = j ≡ 14 * v + f → ⊥

    alike-reset : {P : Type 0} {a b : List ℕ} (v : ℕ) → (P → v < nodes)
        → Alike size j (Other v 3 × (Other v 4 × (Other v 5 × (Other v 6 × (Other v 7 × P))))) a b
        → Alike size j P (reset a nodes v 2) (reset b nodes v 2)
    unfolding reset
    alike-reset v h t =
        alike-stored nodes wide v 7 undef h (omega arith) (alike-stored nodes wide v 6 0 (λ p. h p.1) (omega arith)
        (alike-stored nodes wide v 5 2 (λ p. h p.1.1) (omega arith)
        (alike-stored nodes wide v 4 undef (λ p. h p.1.1.1) (omega arith)
        (alike-stored nodes wide v 3 0 (λ p. h p.1.1.1.1) (omega arith) t))))

    alike-rest : {P : Type 0} {a b : List ℕ} (v : ℕ) → (P → v < nodes)
        → Alike size j (Other v 8 × (Other v 9 × (Other v 10 × (Other v 11 × P)))) a b
        → Alike size j P (reset_rest a nodes v) (reset_rest b nodes v)
    unfolding reset_rest
    alike-rest v h t =
        alike-stored nodes wide v 11 0 h (omega arith) (alike-stored nodes wide v 10 0 (λ p. h p.1) (omega arith)
        (alike-stored nodes wide v 9 0 (λ p. h p.1.1) (omega arith)
        (alike-stored nodes wide v 8 undef (λ p. h p.1.1.1) (omega arith) t)))

    alike_all : (n : ℕ) (a b : List ℕ) → n ≤ nodes → Alike size j (Given n j) a b
        → Alike size j (Given 0 j) (reset_all a nodes n) (reset_all b nodes n)
    unfolding reset_all
    alike_all zero a b l t = t
    alike_all (suc n) a b l t =
        let h : n < nodes = omega arith in
        alike_all n (reset_rest (reset a nodes n 2) nodes n) (reset_rest (reset b nodes n 2) nodes n) (omega arith)
        (alike-rest n (λ p. h) (alike-reset n (λ p. h) (alike-if (λ o.
        let (n3, (n4, (n5, (n6, (n7, (n8, (n9, (n10, (n11, g))))))))) = o in given-more n j g n3 n4 n5 n6 n7 n8 n9 n10 n11) t)))

alike-wiped : {size j : ℕ} (k i : ℕ) {a b : List ℕ} → i + k ≤ size → Alike size j (j < i) a b
    → Alike size j (j < i + k) (wiped a i k) (wiped b i k)
unfolding wiped
alike-wiped zero i room t = alike-if (λ l. omega arith) t
alike-wiped (suc k) i room t =
    alike-if (λ l. omega arith) (alike-wiped k (i + 1) (omega arith) (alike_set i 0 (omega arith)
    (alike-if (λ o. omega (arith, o.0, o.1)) t)))

module _ (w u : List ℕ) (net : Netlist) (room : 14 * net.nodes ≤ net.words) (long : length w ≡ net.words) (wide : length u ≡ net.words)
    (same : (j : ℕ) → j < 14 * net.nodes → (j % 14 < 3) ⊎ (11 < j % 14) → get_or w j 0 ≡ get_or u j 0) where
  held : (j : ℕ) → Given net.nodes net.nodes j → get_or w j 0 ≡ get_or u j 0
  held j (h, inl a) = same j h (inl a)
  held j (h, inr (inl a)) = same j h (inr a)
  held j (h, inr (inr a)) = absurd (omega arith)

  alike-prepared : (j : ℕ) → Alike net.words j (j < net.words) (prepared w net) (prepared u net)
  unfolding prepared
  alike-prepared j =
      let n = net.nodes in
      let all = alike_all n net.words j room n w u (omega arith) (record { long = long; also = wide; same = held j }) in
      alike-if (λ l. omega arith) (alike-wiped (net.words - 14 * n) (14 * n) (omega arith)
      (alike-stored n room 0 5 0 (λ h. omega arith) (omega arith) (alike-if (λ o. (o.1, inr (inr (omega arith)))) all)))

  -- words that agree in the netlist are the same before the first decision
  pub prepared-same : prepared w net ≡ prepared u net
  prepared-same =
      let t = alike-prepared in
      ext_get_or 0 (prepared w net) (prepared u net) ((t 0).long ∙ sym (t 0).also) (λ j h. (t j).same (omega (arith, (t j).long)))

  -- so the verdict, and the words that a search leaves, are a function of the netlist and the effort
  pub ran-same : (effort : ℕ) → ran w net effort ≡ ran u net effort
  unfolding ran
  ran-same effort = rw prepared-same
