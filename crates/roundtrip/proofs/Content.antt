-- Circuits and words: what the content of a circuit says is that circuit, and words are the content of what they say. Assumes nothing.
use mathlib.Core.Path.{◌≡◌, refl, sym, ap, ap₂, ◌∙◌}
use mathlib.Core.List.{List, [], ◌∷◌, ◌++◌, map, append_assoc}
use Prim.Native.Nat.{ℕ, zero, suc, ◌+◌, ◌*◌, ◌≤◌, ◌<◌}
use native.Mathlib.Nat.{zero-add, add-zero}
use native.Mathlib.Omega.{arith}
use lib.ListN.{length, take, drop}
use lib.Seq.{drop-cons}
use Rattle.aiger.specs.Lists.{from, upto}
use Rattle.aiger.specs.Circuit.{Circuit, Latch, Gate}
use Rattle.aiger.specs.Memory.{latch_words, gate_words, content}
use Rattle.aiger.specs.Write.{count_row}
use Rattle.layout.specs.Words.{word, latches_at, outputs_at, bads_at, constraints_at, gates_at, content_end, column, latch_in, gate_in, circuit_in}
use Rattle.roundtrip.proofs.Lists.{upto-length, drop_past, get_d_front, drop-suc}

-- n words from position p on
abbrev pub words_at : List ℕ → ℕ → ℕ → List ℕ
words_at m p zero = []
words_at m p (suc n) = word m p ∷ words_at m (suc p) n

-- n things of three words each from position p on
abbrev pub triples_at : {A : Type 0} → (ℕ → ℕ → ℕ → A) → List ℕ → ℕ → ℕ → List A
triples_at make m p zero = []
triples_at make m p (suc n) = make (word m p) (word m (suc p)) (word m (suc (suc p))) ∷ triples_at make m (suc (suc (suc p))) n

-- the two forms of the words from p on are the same
pub column-words : (m : List ℕ) (p n : ℕ) → column m p 1 n ≡ words_at m p n
column-words m p n = go n 0 p (omega arith)
  where
    go : (n s q : ℕ) → p + 1 * s ≡ q → map (λ i. word m (p + 1 * i)) (from s n) ≡ words_at m q n
    go zero s q e = refl
    go (suc n) s q e = ap₂ (λ (x : ℕ) (w : List ℕ). word m x ∷ w) e (go n (suc s) (suc q) (omega arith))

-- the two forms of the things from p on are the same
pub map-triples : {A : Type 0} (make : ℕ → ℕ → ℕ → A) (m : List ℕ) (p n : ℕ)
    → map (λ j. make (word m (p + 3 * j)) (word m (p + 3 * j + 1)) (word m (p + 3 * j + 2))) (upto n) ≡ triples_at make m p n
map-triples {A} make m p n = go n 0 p (omega arith)
  where
    go : (n s q : ℕ) → p + 3 * s ≡ q
        → map (λ j. make (word m (p + 3 * j)) (word m (p + 3 * j + 1)) (word m (p + 3 * j + 2))) (from s n) ≡ triples_at make m q n
    go zero s q e = refl
    go (suc n) s q e =
        let e1 : p + 3 * s + 1 ≡ suc q = omega arith in
        let e2 : p + 3 * s + 2 ≡ suc (suc q) = omega arith in
        let h : make (word m (p + 3 * s)) (word m (p + 3 * s + 1)) (word m (p + 3 * s + 2)) ≡ make (word m q) (word m (suc q)) (word m (suc (suc q))) = rw (e1, e2, e) in
        ap₂ (λ (x : A) (w : List A). x ∷ w) h (go n (suc s) (suc (suc (suc q))) (omega arith))

-- n words are n
pub words-length : (m : List ℕ) (p n : ℕ) → length (words_at m p n) ≡ n
words-length m p zero = refl
words-length m p (suc n) = ap suc (words-length m (suc p) n)

-- n words and the k after them
pub words_append : (m : List ℕ) (p n k : ℕ) → words_at m p n ++ words_at m (p + n) k ≡ words_at m p (n + k)
words_append m p zero k = rw (zero-add, add-zero)
words_append m p (suc n) k =
    let e : p + suc n ≡ suc p + n = omega arith in
    let f : suc n + k ≡ suc (n + k) = omega arith in
    rw (e, f) (ap (λ (w : List ℕ). word m p ∷ w) (words_append m (suc p) n k))

-- where there are so many words
pub words_take : (m : List ℕ) (p n : ℕ) → p + n ≤ length m → words_at m p n ≡ take n (drop p m)
words_take m p zero h = refl
words_take m p (suc n) h =
    let l : p < length m = omega arith in
    rw (drop-cons m p 0 l) (ap (λ (w : List ℕ). word m p ∷ w) (words_take m (suc p) n (omega arith)))

-- a list that stands at p is the words there
pub column-back : (m : List ℕ) (p : ℕ) (xs r : List ℕ) → drop p m ≡ xs ++ r → column m p 1 (length xs) ≡ xs
column-back m p xs r e = column-words m p (length xs) ∙ go p xs e
  where
    go : (p : ℕ) (xs : List ℕ) → drop p m ≡ xs ++ r → words_at m p (length xs) ≡ xs
    go p [] e = refl
    go p (x ∷ xs) e = ap₂ (λ (y : ℕ) (w : List ℕ). y ∷ w) (get_d_front m p x 0 (xs ++ r) e) (go (suc p) xs (drop-suc m p x (xs ++ r) e))

-- things of three words each: how they are made, and how they are written
pub record Packed {A : Type 0} (make : ℕ → ℕ → ℕ → A) (words : List A → List ℕ) : Type 0 where
  pub first : A → ℕ
  pub second : A → ℕ
  pub third : A → ℕ
  pub nil : words [] ≡ []
  pub made : (a b c : ℕ) (xs : List A) → words (make a b c ∷ xs) ≡ a ∷ b ∷ c ∷ words xs
  pub whole : (x : A) → make (first x) (second x) (third x) ≡ x

module _ {A : Type 0} {make : ℕ → ℕ → ℕ → A} {words : List A → List ℕ} (k : Packed make words) where
  packed-cons : (x : A) (xs : List A) → words (x ∷ xs) ≡ k.first x ∷ k.second x ∷ k.third x ∷ words xs
  packed-cons x xs = ap (λ (y : A). words (y ∷ xs)) (sym (k.whole x)) ∙ k.made (k.first x) (k.second x) (k.third x) xs

  -- three words each
  pub packed-length : (xs : List A) → length (words xs) ≡ 3 * length xs
  packed-length [] = ap length k.nil
  packed-length (x ∷ xs) = ap length (packed-cons x xs) ∙ omega (arith, packed-length xs)

  -- things written at p are the things there
  pub triples-back : (m : List ℕ) (p : ℕ) (xs : List A) (r : List ℕ) → drop p m ≡ words xs ++ r → triples_at make m p (length xs) ≡ xs
  triples-back m p [] r e = refl
  triples-back m p (x ∷ xs) r e =
      let a = k.first x in
      let b = k.second x in
      let c = k.third x in
      let w = words xs ++ r in
      let f : drop p m ≡ a ∷ b ∷ c ∷ w = e ∙ ap (λ (v : List ℕ). v ++ r) (packed-cons x xs) in
      let f1 = drop-suc m p a (b ∷ c ∷ w) f in
      let f2 = drop-suc m (suc p) b (c ∷ w) f1 in
      let made : make (word m p) (word m (suc p)) (word m (suc (suc p))) ≡ x =
      rw (get_d_front m p a 0 (b ∷ c ∷ w) f, get_d_front m (suc p) b 0 (c ∷ w) f1, get_d_front m (suc (suc p)) c 0 w f2) (k.whole x) in
      ap₂ (λ (y : A) (v : List A). y ∷ v) made (triples-back m (suc (suc (suc p))) xs r (drop-suc m (suc (suc p)) c w f2))

  -- the things at p, written, are the words there
  pub triples-words : (m : List ℕ) (p n : ℕ) → words (triples_at make m p n) ≡ words_at m p (3 * n)
  triples-words m p zero = k.nil
  triples-words m p (suc n) =
      let e : 3 * suc n ≡ suc (suc (suc (3 * n))) = omega arith in
      let p1 = suc p in
      let p2 = suc p1 in
      let p3 = suc p2 in
      rw e (k.made (word m p) (word m p1) (word m p2) (triples_at make m p3 n)
      ∙ ap (λ (w : List ℕ). word m p ∷ word m p1 ∷ word m p2 ∷ w) (triples-words m p3 n))

-- a latch and a gate of three words
abbrev pub make_latch : ℕ → ℕ → ℕ → Latch
make_latch a b c = record { lit = a; next = b; reset = c }

abbrev pub make_gate : ℕ → ℕ → ℕ → Gate
make_gate a b c = record { lit = a; left = b; right = c }

-- latches are three words each
pub latches-packed : Packed make_latch latch_words
unfolding latch_words
latches-packed =
    record { first = λ l. l.lit; second = λ l. l.next; third = λ l. l.reset; nil = refl; made = λ a b c ls. refl; whole = λ l. refl }

-- gates are three words each
pub gates-packed : Packed make_gate gate_words
unfolding gate_words
gates-packed =
    record { first = λ g. g.lit; second = λ g. g.left; third = λ g. g.right; nil = refl; made = λ a b c gs. refl; whole = λ g. refl }

join : (m : List ℕ) {u v : List ℕ} (p n : ℕ) → u ≡ words_at m 0 p → v ≡ words_at m p n → u ++ v ≡ words_at m 0 (p + n)
join m p n e f =
    ap₂ (λ (x y : List ℕ). x ++ y) e f ∙ ap (λ (q : ℕ). words_at m 0 p ++ words_at m q n) (sym (zero-add p)) ∙ words_append m 0 p n

module _ (m : List ℕ) where
  -- the latches and gates that the words say, written, are the words there
  latches-at : latch_words (map (λ j. latch_in m (latches_at m + 3 * j)) (upto (word m 2))) ≡ words_at m (latches_at m) (3 * word m 2)
  latches-at = ap latch_words (map-triples make_latch m (latches_at m) (word m 2)) ∙ triples-words latches-packed m (latches_at m) (word m 2)

  gates-at : gate_words (map (λ j. gate_in m (gates_at m + 3 * j)) (upto (word m 4))) ≡ words_at m (gates_at m) (3 * word m 4)
  gates-at = ap gate_words (map-triples make_gate m (gates_at m) (word m 4)) ∙ triples-words gates-packed m (gates_at m) (word m 4)

  heads-at : (circuit_in m).max_var ∷ count_row (circuit_in m) ≡ words_at m 0 7
  unfolding circuit_in
  heads-at = simp upto-length

  -- the content of the circuit that the words say is so many words from the first on
  pub content-at : content (circuit_in m) ≡ words_at m 0 (content_end m)
  unfolding content circuit_in
  content-at =
      join m (gates_at m) (3 * word m 4)
      (join m (constraints_at m) (word m 6)
      (join m (bads_at m) (word m 5)
      (join m (outputs_at m) (word m 3)
      (join m (latches_at m) (3 * word m 2) (join m 7 (word m 1) heads-at (column-words m 7 (word m 1))) latches-at)
      (column-words m (outputs_at m) (word m 3)))
      (column-words m (bads_at m) (word m 5)))
      (column-words m (constraints_at m) (word m 6)))
      gates-at

  -- the number of content words
  pub content-length : length (content (circuit_in m)) ≡ content_end m
  content-length = ap length content-at ∙ words-length m 0 (content_end m)

  -- where the memory has so many words: the content of the circuit that they say is the first words
  pub content-of-words : content_end m ≤ length m → content (circuit_in m) ≡ take (content_end m) m
  content-of-words h = content-at ∙ words_take m 0 (content_end m) (omega arith)

regroup : (a b c d e f r : List ℕ) → a ++ b ++ c ++ d ++ e ++ f ++ r ≡ a ++ (b ++ (c ++ (d ++ (e ++ (f ++ r)))))
regroup a b c d e f r = simp append_assoc

module _ (c : Circuit) (r : List ℕ) where
  abbrev m : List ℕ
  m = content c ++ r

  past_head : drop 7 m ≡ c.inputs ++ (latch_words c.latches ++ (c.outputs ++ (c.bads ++ (c.constraints ++ (gate_words c.gates ++ r)))))
  unfolding content
  past_head = regroup c.inputs (latch_words c.latches) c.outputs c.bads c.constraints (gate_words c.gates) r

  -- a circuit's content, with anything after it, says that circuit
  pub circuit-in : circuit_in (content c ++ r) ≡ c
  unfolding circuit_in content
  circuit-in =
      let ls = latch_words c.latches in
      let r5 = gate_words c.gates ++ r in
      let r4 = c.constraints ++ r5 in
      let r3 = c.bads ++ r4 in
      let r2 = c.outputs ++ r3 in
      let r1 = ls ++ r2 in
      let p1 = 7 + length c.inputs in
      let p2 = p1 + 3 * length c.latches in
      let p3 = p2 + length c.outputs in
      let p4 = p3 + length c.bads in
      let p5 = p4 + length c.constraints in
      let d1 = drop_past m 7 c.inputs r1 past_head in
      let d2 : drop p2 m ≡ r2 = rw (packed-length latches-packed c.latches) at (drop_past m p1 ls r2 d1) in
      let d3 = drop_past m p2 c.outputs r3 d2 in
      let d4 = drop_past m p3 c.bads r4 d3 in
      let d5 = drop_past m p4 c.constraints r5 d4 in
      λ t. record {
        max_var = c.max_var;
        inputs = column-back m 7 c.inputs r1 past_head t;
        latches = (map-triples make_latch m p1 (length c.latches) ∙ triples-back latches-packed m p1 c.latches r2 d1) t;
        outputs = column-back m p2 c.outputs r3 d2 t;
        bads = column-back m p3 c.bads r4 d3 t;
        constraints = column-back m p4 c.constraints r5 d4 t;
        gates = (map-triples make_gate m p5 (length c.gates) ∙ triples-back gates-packed m p5 c.gates r d5) t;
      }
