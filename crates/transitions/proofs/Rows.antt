-- A state with the 64 rows of a block: the words of the variables, hits, and next states. Assumes nothing.
use mathlib.Core.Path.{◌≡◌, refl, sym, ap, ap₂, ◌∙◌, subst}
use mathlib.Core.Bool.{Bool, true, false, ◌&&◌}
use mathlib.Core.List.{List, [], ◌∷◌, map, Memᴰ}
use Prim.Native.Nat.{ℕ, ◌+◌, ◌-◌, ◌*◌, ◌^◌, ◌≤◌, ◌<◌}
use native.Mathlib.Omega.{arith}
use lib.Dec.{T}
use lib.ListN.{length, get_or, length-map}
use lib.Seq.{ext_get_or}
use Rattle.aiger.specs.Lists.{every, upto}
use Rattle.aiger.specs.Bits.{bit}
use Rattle.aiger.specs.Circuit.{Circuit, var, literals_right, used_defined, acyclic}
use Rattle.aiger.specs.Frames.{value, frame, free_bit}
use Rattle.words.proofs.Bits.{bit-none}
use Rattle.meaning.proofs.Lists.{mem-at, length-map-upto, get_d-map-upto}
use Rattle.meaning.proofs.Defined.{Known, input_at, latch_at, input-in, latch-in, definition, input-latch, next_known, bad-known, constraint-known}
use Rattle.meaning.proofs.Values.{Valuation, valuation-frame, value-eq}
use Rattle.frames.specs.Lanes.{lane, Leaves, Evaluated, constrained_in, hit_in}
use Rattle.enumeration.specs.Blocks.{Given}
use Rattle.influence.specs.Part.{Part, kept_at, Same, Listed, Closed}
use Rattle.transitions.specs.Transitions.{number_of, latches_of, row_of, values_in, ValuedIn, next_number}
use Rattle.transitions.proofs.Numbers.{map_at, latch-of, latches-length}

module _ (part : Part) (listed : Listed part) (right : T (literals_right part.circuit)) where
  abbrev c : Circuit
  c = part.circuit

  abbrev I : ℕ
  I = length part.circuit.inputs

  abbrev L : ℕ
  L = length part.circuit.latches

  input-nonzero : (i : ℕ) → i < I → var (input_at c i) ≡ 0 → ⊥
  input-nonzero i l e = omega (arith, (definition c right (input_at c i) (input-in c i l)).0)

  latch-nonzero : (j : ℕ) → j < L → var (latch_at c j).lit ≡ 0 → ⊥
  latch-nonzero j l e = omega (arith, (definition c right (latch_at c j).lit (latch-in c j l)).0)

  -- the words after the gates are evaluated are the values of the rows
  pub rows-valued : (s block : ℕ) (cleared latched filled values : List ℕ) (top : ℕ) → top ≡ length part.circuit.inputs → get_or cleared 0 0 ≡ 0
      → Given (λ i. var (latch_at part.circuit (kept_at part i)).lit) (λ i p. bit s i) (length part.kept) cleared latched
      → Given (λ i. var (input_at part.circuit i)) (λ i p. free_bit top (block * 64 + p) i) (length part.circuit.inputs) latched filled
      → Evaluated part.circuit filled values → (p : ℕ) → p < 64 → ValuedIn part s (block * 64 + p) (lane values p)
  unfolding row_of
  rows-valued s block cleared latched filled values top e z g h v p hp =
      let f : ℕ → Bool = λ j. lane latched p (var (latch_at c j).lit) in
      record {
        latches = map f (upto L);
        whole = length-map-upto f L;
        agree = λ i l.
            get_d-map-upto f L (kept_at part i) false (listed.inside i l) ∙ g.new i l p hp ∙ sym (latch-of part listed s i l);
        valuation =
            v.values p hp (map (free_bit I (block * 64 + p)) (upto I)) (map f (upto L))
            (record {
              constant =
                  ap (λ (w : ℕ). bit w p) (h.others 0 input-nonzero)
                  ∙ ap (λ (w : ℕ). bit w p) (g.others 0 (λ i l. latch-nonzero (kept_at part i) (listed.inside i l)) ∙ z) ∙ bit-none p;
              input = λ i l.
                  h.new i l p hp ∙ ap (λ (n : ℕ). free_bit n (block * 64 + p) i) e ∙ sym (get_d-map-upto (free_bit I (block * 64 + p)) I i false l);
              latch = λ j l.
                  ap (λ (w : ℕ). bit w p) (h.others (var (latch_at c j).lit) (λ i k q. input-latch c right i j k l q))
                  ∙ sym (get_d-map-upto f L j false l);
            });
      }

  module _ (known : T (used_defined part.circuit)) (a : T (acyclic part.circuit)) (b : ℕ) (closed : Closed part b) (s r : ℕ) (w : ℕ → Bool) (v : ValuedIn part s r w) where
    abbrev u : ℕ → Bool
    u = frame c v.latches (row_of c r)

    value-is : (l : ℕ) → Known c (var l) → value w l ≡ value u l
    value-is l k = value-eq w u l (valuation-frame c right known a v.valuation (var l) k)

    -- what the latches that are not kept are makes no difference
    same : Same part b u (values_in part s r)
    unfolding values_in
    same = closed.same v.latches (latches_of part s) (row_of c r) v.whole (latches-length part listed s) v.agree

    constraint-in : (l : ℕ) → Memᴰ l c.constraints → Known c (var l)
    constraint-in l m = let q = mem-at 0 m in subst (λ (x : ℕ). Known c (var x)) q.2 (constraint-known c known q.0)

    every-is : (ls : List ℕ) → ((l : ℕ) → Memᴰ l ls → Known c (var l)) → every (value w) ls ≡ every (value u) ls
    every-is [] h = refl
    every-is (l ∷ ls) h = ap₂ (λ (x y : Bool). x && y) (value-is l (h l (Memᴰ.head refl))) (every-is ls (λ k m. h k (Memᴰ.tail m)))

    -- whether the row breaks a constraint
    pub constrained-is : constrained_in part.circuit w ≡ constrained_in part.circuit (values_in part s r)
    constrained-is = every-is c.constraints constraint-in ∙ same.constrained

    -- a hit of the row
    pub hit-is : hit_in part.circuit b w ≡ hit_in part.circuit b (values_in part s r)
    hit-is = ap₂ (λ (x y : Bool). x && y) constrained-is (value-is (get_or c.bads b 0) (bad-known c known b) ∙ same.bad)

    -- the state that the row leads to, from the words of the next literals
    pub next-is : (state : List ℕ) (p : ℕ) → ((j : ℕ) → j < length part.circuit.latches → bit (get_or state j 0) p ≡ value w (latch_at part.circuit j).next)
        → number_of (map (λ j. bit (get_or state j 0) p) part.kept) ≡ next_number part s r
    unfolding next_number
    next-is state p h =
        let f : ℕ → Bool = λ j. bit (get_or state j 0) p in
        let g : ℕ → Bool = λ j. value (values_in part s r) (latch_at c j).next in
        ap number_of
        (ext_get_or false (map f part.kept) (map g part.kept) (length-map part.kept f ∙ sym (length-map part.kept g))
        (λ i l.
        let k : i < length part.kept = omega (arith, length-map part.kept f) in
        let j = kept_at part i in
        map_at f part.kept i k ∙ h j (listed.inside i k) ∙ value-is (latch_at c j).next (next_known c known j) ∙ same.next i k
        ∙ sym (map_at g part.kept i k)))
