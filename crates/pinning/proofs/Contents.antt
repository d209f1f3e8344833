-- The words of a pinned circuit: its counts, the free inputs, and the circuit's other words, each as what its literal is. Assumes nothing.
use mathlib.Core.Path.{◌≡◌, refl, sym, ap, ap₂, ◌∙◌, subst}
use mathlib.Core.Bool.{Bool, true, false, not, cond}
use mathlib.Core.List.{List, [], ◌∷◌, ◌++◌, map, map-append, append_assoc}
use mathlib.Core.Logic.{⊎_elim}
use Prim.Native.Nat.{ℕ, zero, suc, ◌+◌, ◌-◌, ◌*◌, ◌/◌, ◌≤◌, ◌<◌}
use native.Mathlib.Nat.{zero-add}
use native.Mathlib.Omega.{arith}
use borrow.Author.Tests.{eq-eqb, ne_eqb}
use lib.Dec.{T, leb, eqb, leb→le, eqb→eq}
use lib.ListN.{length, get_or, take, drop, length-append, length-map, length-drop}
use lib.Seq.{drop_at, take_at, drop-drop, get_or-append-add, get_or-drop, length-take-le}
use Rattle.aiger.specs.Lists.{upto}
use Rattle.aiger.specs.Circuit.{Circuit, Latch, Gate, var, literal_tests, literals_right, used, defined}
use Rattle.aiger.specs.Load.{needed}
use Rattle.aiger.specs.Memory.{Holds, content, latch_words, gate_words}
use Rattle.aiger.specs.Operations.{front}
use Rattle.aiger.specs.Write.{count_row}
use Rattle.aiger.proofs.Tests.{T_true, all-at, every-left, or_cases}
use Rattle.layout.specs.Words.{word, latches_at, content_end, column, circuit_in}
use Rattle.layout.specs.Layout.{Counted, LayoutOf}
use Rattle.layout.specs.declared.Layout.{Layout}
use Rattle.meaning.proofs.Lists.{every-mem, every-at, get_d-map-upto, length_from}
use Rattle.meaning.proofs.Defined.{no_latch, no_gate, input_at, latch_at, gate_at, input-in, definition, input-latch, input-gate}
use Rattle.roundtrip.proofs.Lists.{upto-length}
use Rattle.roundtrip.proofs.LoadWrite.{Valid, Counts, counts-fit}
use Rattle.roundtrip.proofs.Counts.{counted}
use Rattle.roundtrip.proofs.Content.{words_at, words-length, words_append, column-words, content-at, content-length, circuit-in}
use Rattle.roundtrip.proofs.Holding.{held-valid, content-fits, content-size, Sound, sound-holds, valid-room}
use Rattle.witness.proofs.Put.{put, put_is, put_front, put-append, front_length}
use Rattle.pins.specs.Pins.{is_held, kept, pin_of, constant_of, tied, tied_latch, tied_gate, pinned}
use Rattle.pins.proofs.Inputs.{kept-most}
use Rattle.pins.proofs.Valid.{pinned-valid, pinned-counts, pinned-inputs}
use Rattle.pinning.specs.Steps.{stored, heads, PinFits, Pinned}

-- ---- literals that no pin ties

pin-out : (q : ℕ → ℕ) (i : ℕ) (ls : List ℕ) (v : ℕ) → ((k : ℕ) → k < length ls → var (get_or ls k 0) ≡ v → ⊥) → pin_of q i ls v ≡ 2
unfolding pin_of
pin-out q i [] v h = refl
pin-out q i (l ∷ ls) v h = rw (ne_eqb (var l) v (h 0 (omega arith))) (pin-out q (suc i) ls v (λ k n e. h (suc k) (omega arith) e))

tied_out : (q : ℕ → ℕ) (ls : List ℕ) (l : ℕ) → ((k : ℕ) → k < length ls → var (get_or ls k 0) ≡ var l → ⊥) → tied q ls l ≡ l
unfolding tied
tied_out q ls l h = rw (pin-out q 0 ls (var l) h)

latches-tied : (f : ℕ → ℕ) (ls : List Latch) → ((j : ℕ) → j < length ls → (f (get_or ls j no_latch).lit ≡ (get_or ls j no_latch).lit) × (f (get_or ls j no_latch).reset ≡ (get_or ls j no_latch).reset))
    → map f (latch_words ls) ≡ latch_words (map (λ x. record { lit = x.lit; next = f x.next; reset = x.reset }) ls)
unfolding latch_words
latches-tied f [] h = refl
latches-tied f (l ∷ ls) h =
    let a = h 0 (omega arith) in
    ap₂ (λ (x : ℕ) (y : List ℕ). x ∷ f l.next ∷ y) a.0
    (ap₂ ◌∷◌ a.1 (latches-tied f ls (λ j n. h (suc j) (omega arith))))

gates-tied : (f : ℕ → ℕ) (gs : List Gate) → ((j : ℕ) → j < length gs → f (get_or gs j no_gate).lit ≡ (get_or gs j no_gate).lit)
    → map f (gate_words gs) ≡ gate_words (map (λ x. record { lit = x.lit; left = f x.left; right = f x.right }) gs)
unfolding gate_words
gates-tied f [] h = refl
gates-tied f (g ∷ gs) h =
    ap₂ (λ (x : ℕ) (y : List ℕ). x ∷ f g.left ∷ f g.right ∷ y) (h 0 (omega arith)) (gates-tied f gs (λ j n. h (suc j) (omega arith)))

map_same : (f g : ℕ → ℕ) → ((x : ℕ) → f x ≡ g x) → (xs : List ℕ) → map f xs ≡ map g xs
map_same f g e [] = refl
map_same f g e (x ∷ xs) = ap₂ ◌∷◌ (e x) (map_same f g e xs)

-- the words after the inputs
abbrev tail_of : Circuit → List ℕ
tail_of c = latch_words c.latches ++ c.outputs ++ c.bads ++ c.constraints ++ gate_words c.gates

regroup : (a b c d e f : List ℕ) (h : List ℕ) → h ++ a ++ b ++ c ++ d ++ e ++ f ≡ (h ++ a) ++ (b ++ c ++ d ++ e ++ f)
regroup a b c d e f h = simp append_assoc

content-split : (c : Circuit) → content c ≡ ((c.max_var ∷ count_row c) ++ c.inputs) ++ tail_of c
unfolding content
content-split c =
    regroup c.inputs (latch_words c.latches) c.outputs c.bads c.constraints (gate_words c.gates) (c.max_var ∷ count_row c)

module _ (c : Circuit) (q : ℕ → ℕ) (right : T (literals_right c)) where
  abbrev tie : ℕ → ℕ
  tie = tied q c.inputs

  zero-out : (l : ℕ) → var l ≡ 0 → tie l ≡ l
  zero-out l z = tied_out q c.inputs l (λ k n e. omega (arith, (definition c right (input_at c k) (input-in c k n)).0))

  lit-out : (j : ℕ) → j < length c.latches → tie (latch_at c j).lit ≡ (latch_at c j).lit
  lit-out j n = tied_out q c.inputs (latch_at c j).lit (λ k l e. input-latch c right k j l n e)

  reset-out : (j : ℕ) → j < length c.latches → tie (latch_at c j).reset ≡ (latch_at c j).reset
  unfolding literals_right
  reset-out j n =
      let r = (latch_at c j).reset in
      ⊎_elim (λ t. zero-out r (omega (arith, leb→le r 1 t)))
      (λ t. let e : r ≡ (latch_at c j).lit = eqb→eq r (latch_at c j).lit t in subst (λ (x : ℕ). tie x ≡ x) (sym e) (lit-out j n))
      (or_cases (leb r 1) (eqb r (latch_at c j).lit) (every-at _ c.latches j no_latch n (all-at (literal_tests c) right 3)))

  gate-out : (j : ℕ) → j < length c.gates → tie (gate_at c j).lit ≡ (gate_at c j).lit
  gate-out j n = tied_out q c.inputs (gate_at c j).lit (λ k l e. input-gate c right k j l n e)

  tail-tied : map tie (tail_of c) ≡ tail_of (pinned c q)
  unfolding pinned
  tail-tied =
      simp map-append
      (ap₂ (λ (x y : List ℕ). x ++ map tie c.outputs ++ map tie c.bads ++ map tie c.constraints ++ y)
      (latches-tied tie c.latches (λ j n. (lit-out j n, reset-out j n)))
      (gates-tied tie c.gates gate-out))

-- ---- the words of a memory

module _ (m : List ℕ) where
  inputs-length : length (circuit_in m).inputs ≡ word m 1
  unfolding circuit_in
  inputs-length = upto-length _ (word m 1)

  inputs_in : (circuit_in m).inputs ≡ column m 7 1 (word m 1)
  unfolding circuit_in
  inputs_in = refl

  pub tail-in : column m (latches_at m) 1 (content_end m - latches_at m) ≡ tail_of (circuit_in m)
  tail-in =
      let c = circuit_in m in
      let L = latches_at m in
      let n = content_end m - L in
      let H = (c.max_var ∷ count_row c) ++ c.inputs in
      let size : length H ≡ L = omega (arith, length-append (c.max_var ∷ count_row c) c.inputs, inputs-length) in
      let back : L + n ≡ content_end m = omega arith in
      let all : words_at m 0 L ++ words_at m L n ≡ content c =
      ap (λ (p : ℕ). words_at m 0 L ++ words_at m p n) (sym (zero-add L)) ∙ words_append m 0 L n
      ∙ ap (words_at m 0) back ∙ sym (content-at m) in
      column-words m L n
      ∙ sym (drop_at (words_at m 0 L) (words_at m L n) L (words-length m 0 L))
      ∙ ap (drop L) (all ∙ content-split c)
      ∙ drop_at H (tail_of c) L size

  pub record Facts : Type 0 where
    pub valid : Valid (length m) (circuit_in m)
    pub counts : Counted m
    pub variable : (i : ℕ) → i < word m 1 → word m (7 + i) / 2 ≤ 4096
    pub short : content_end m ≤ 12391

  pub facts : Holds m (circuit_in m) → Facts
  unfolding literals_right circuit_in
  facts h =
      let v = held-valid h in
      let e : content_end m ≤ length m = omega (arith, content-fits v, content-length m, v.held) in
      let k = counted m v.fit e in
      record {
        valid = v;
        counts = k;
        variable = λ i l.
            let c = circuit_in m in
            let p : ℕ → Bool = λ x. leb x (2 * c.max_var + 1) in
            let t = every-mem p (input-in c i (omega (arith, inputs-length))) (every-left p (defined c) (used c) (all-at (literal_tests c) (T_true v.literals) 0)) in
            let s : input_at c i ≡ word m (7 + 1 * i) = ap (λ (z : List ℕ). get_or z i 0) inputs_in ∙ get_d-map-upto (λ j. word m (7 + 1 * j)) (word m 1) i 0 l in
            let one : 7 + 1 * i ≡ 7 + i = omega arith in
            let b = leb→le (input_at c i) (2 * word m 0 + 1) t in
            omega (arith, s, ap (word m) one, b, k.max_var);
        short = omega (arith, k.inputs, k.latches, k.outputs, k.gates, k.bads, k.constraints);
      }

-- words stored before words that are stored already
put-before : (out h k : List ℕ) (n : ℕ) → length h ≡ n → n ≤ length out → put (put out n k) 0 h ≡ put out 0 (h ++ k)
unfolding put
put-before out h k n e l =
    let z : 0 + length h ≡ n = omega arith in
    let y : 0 + length (h ++ k) ≡ n + length k = omega (arith, length-append h k) in
    rw (z, y, append_assoc (take n out) k (drop (n + length k) out), drop_at (take n out) (k ++ drop (n + length k) out) n (length-take-le n out l))
    (sym (append_assoc h k (drop (n + length k) out)))

-- a circuit's content at the front of words that are 0 is held there
holds-front : (d : Circuit) (words : List ℕ) → Valid (length words) d → ((i : ℕ) → word words i ≡ 0) → Holds (front (content d) words) d
holds-front d words v zeros =
    let X = content d in
    let w = front X words in
    let says : circuit_in w ≡ d = circuit-in d (drop (length X) words) in
    let size : length w ≡ length words = front_length words X (omega (arith, content-fits v, v.held)) in
    subst (Holds w) says
    (sound-holds
    (record {
      valid = subst (λ (e : Circuit). Valid (length w) e) (sym says) (subst (λ (k : ℕ). Valid k d) (sym size) v);
      zeros = λ i h l.
          let n : content_end w ≡ length X = sym (content-length w) ∙ ap (λ (e : Circuit). length (content e)) says in
          let e : i ≡ length X + (i - length X) = omega arith in
          ap (word w) e ∙ get_or-append-add X (drop (length X) words) (i - length X) 0 ∙ get_or-drop (length X) words (i - length X) 0
          ∙ zeros (length X + (i - length X));
    }))

-- ---- what is left

module _ (m : List ℕ) (q : ℕ → ℕ) (held : Holds m (circuit_in m)) where
  abbrev c : Circuit
  c = circuit_in m

  abbrev kept_in : List ℕ
  kept_in = kept q 0 (column m 7 1 (word m 1))

  inputs-is : (pinned c q).inputs ≡ kept_in
  unfolding pinned circuit_in
  inputs-is = refl

  head-is : (pinned c q).max_var ∷ count_row (pinned c q) ≡ heads m (length kept_in)
  unfolding pinned circuit_in
  head-is = simp (length-map, length_from)

  pinned-content : content (pinned c q) ≡ (heads m (length kept_in) ++ kept_in) ++ map (tied q c.inputs) (column m (latches_at m) 1 (content_end m - latches_at m))
  pinned-content =
      content-split (pinned c q)
      ∙ ap₂ (λ (x y : List ℕ). x ++ y)
      (ap₂ (λ (x y : List ℕ). x ++ y) head-is inputs-is)
      (sym (tail-tied c q (T_true (facts m held).valid.literals)) ∙ ap (map (tied q c.inputs)) (sym (tail-in m)))

  module _ (table words : List ℕ) (entered : (v : ℕ) → get_or table v 2 ≡ pin_of q 0 (column m 7 1 (word m 1)) v) (zeros : (i : ℕ) → word words i ≡ 0)
      (room : 33032 ≤ length words) where
    -- the inputs, the counts and the other words, stored in this order, hold the pinned circuit
    pub stores-pinned : (w1 w2 w3 : List ℕ) (next n : ℕ) → w1 ≡ stored words 7 kept_in → next ≡ 7 + length kept_in → n ≡ next - 7
        → w2 ≡ stored w1 0 (heads m n)
        → w3 ≡ stored w2 next (map (λ l. constant_of (get_or table (l / 2) 2) l) (column m (latches_at m) 1 (content_end m - latches_at m)))
        → Pinned m q w3
    unfolding tied
    stores-pinned w1 w2 w3 next n e1 a d e2 e3 =
        let f = facts m held in
        let K = kept_in in
        let H = heads m (length K) in
        let g : ℕ → ℕ = λ l. constant_of (get_or table (l / 2) 2) l in
        let ls = column m (latches_at m) 1 (content_end m - latches_at m) in
        let T' = map (tied q c.inputs) ls in
        let v : Valid (length words) (pinned c q) = pinned-room f in
        let x : content (pinned c q) ≡ (H ++ K) ++ T' = pinned-content in
        let few : length K ≤ word m 1 = omega (arith, kept-most q 0 (column m 7 1 (word m 1)), upto-length (λ i. word m (7 + 1 * i)) (word m 1)) in
        let at : next ≡ 0 + length (H ++ K) = omega (arith, length-append H K) in
        let k : n ≡ length K = omega arith in
        let s1 : w1 ≡ put words 7 K = e1 ∙ put_is words 7 K in
        let s2 : w2 ≡ put words 0 (H ++ K) =
        e2 ∙ ap (λ (z : ℕ). stored w1 0 (heads m z)) k ∙ put_is w1 0 H ∙ ap (λ (z : List ℕ). put z 0 H) s1 ∙ put-before words H K 7 refl (omega arith) in
        let s3 : w3 ≡ front (content (pinned c q)) words =
        e3 ∙ put_is w2 next (map g ls) ∙ ap (put w2 next) (map_same g (tied q c.inputs) one ls)
        ∙ ap₂ (λ (y : List ℕ) (z : ℕ). put y z T') s2 at
        ∙ put-append words 0 (H ++ K) T' (omega (arith, length-append H K, f.counts.inputs))
        ∙ put_front words ((H ++ K) ++ T') ∙ ap (λ (z : List ℕ). front z words) (sym x) in
        subst (λ (z : List ℕ). Holds z (pinned c q)) (sym s3) (holds-front (pinned c q) words v zeros)
      where
        one : (l : ℕ) → constant_of (get_or table (l / 2) 2) l ≡ tied q c.inputs l
        one l = ap (λ (z : ℕ). constant_of z l) (entered (l / 2) ∙ ap (λ (ls : List ℕ). pin_of q 0 ls (l / 2)) (sym (inputs_in m)))

        pinned-room : Facts m → Valid (length words) (pinned c q)
        pinned-room f =
            valid-room (length words) (pinned-valid c q f.valid)
            (omega (arith, (pinned-counts c q).top, (counts-fit c f.valid.fit).max_var))

-- ---- what the steps require

module _ {m : List ℕ} {p : Layout} {user : ℕ} {table words : List ℕ} (fits : PinFits m p user table words) where
  pub fits-inputs : (p.i ≤ 256) × (7 + p.i ≤ length m) × (7 + p.i ≤ length words)
  fits-inputs =
      let f = facts m fits.held in
      let i = fits.layout_of.i-is in (
        omega (arith, f.counts.inputs),
        omega (arith, f.counts.held),
        omega (arith, f.counts.inputs, fits.room),
      )

  pub fits-variables : (i : ℕ) → i < p.i → word m (7 + i) / 2 < length table
  fits-variables i l = omega (arith, (facts m fits.held).variable i (omega (arith, fits.layout_of.i-is)), fits.variables)

  pub fits-tail : (next : ℕ) → next ≤ 7 + p.i → (p.latches + (p.end - p.latches) ≤ length m) × (next + (p.end - p.latches) ≤ length words)
  fits-tail next h =
      let f = facts m fits.held in
      let i = fits.layout_of.i-is in
      let l = fits.layout_of.latches-is in
      let e = fits.layout_of.end_is in (
        omega (arith, f.counts.held),
        omega (arith, f.short, fits.room),
      )

  module _ (q : ℕ → ℕ) where
    abbrev kept_as : List ℕ
    kept_as = kept q 0 (column m 7 1 p.i)

    pub fits_next : (next : ℕ) → next ≡ 7 + length (kept q 0 (column m 7 1 p.i)) → next ≤ 7 + p.i
    fits_next next e = omega (arith, kept-most q 0 (column m 7 1 p.i), upto-length (λ i. word m (7 + 1 * i)) p.i)

    pub steps-pinned : (table' w1 w2 w3 : List ℕ) (next : ℕ) → ((v : ℕ) → get_or table' v 2 ≡ pin_of q 0 (column m 7 1 p.i) v)
        → w1 ≡ stored words 7 (kept q 0 (column m 7 1 p.i)) → next ≡ 7 + length (kept q 0 (column m 7 1 p.i)) → w2 ≡ stored w1 0 (heads m (next - 7))
        → w3 ≡ stored w2 next (map (λ l. constant_of (get_or table' (l / 2) 2) l) (column m p.latches 1 (p.end - p.latches))) → Pinned m q w3
    steps-pinned table' w1 w2 w3 next t e1 a e2 e3 =
        let i = fits.layout_of.i-is in
        let l = fits.layout_of.latches-is in
        let e = fits.layout_of.end_is in
        let g : ℕ → ℕ = λ x. constant_of (get_or table' (x / 2) 2) x in
        stores-pinned m q fits.held table' words
        (λ v. t v ∙ ap (λ (k : ℕ). pin_of q 0 (column m 7 1 k) v) i) fits.zeros fits.room w1 w2 w3 next (next - 7)
        (e1 ∙ ap (λ (k : ℕ). stored words 7 (kept q 0 (column m 7 1 k))) i)
        (a ∙ ap (λ (k : ℕ). 7 + length (kept q 0 (column m 7 1 k))) i) refl e2
        (e3 ∙ ap₂ (λ (x y : ℕ). stored w2 next (map g (column m x 1 (y - x)))) l e)
