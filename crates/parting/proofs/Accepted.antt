-- A joined circuit passes load's tests 6 to 8. Assumes nothing.
use mathlib.Core.Path.{◌≡◌, refl, sym, ap, ap₂, ◌∙◌, subst}
use mathlib.Core.Bool.{Bool, true, false, not, cond, ◌&&◌, ◌||◌}
use mathlib.Core.List.{List, [], ◌∷◌, ◌++◌, map}
use mathlib.Core.Logic.{⊎_elim}
use Prim.Native.Nat.{ℕ, zero, suc, ◌+◌, ◌*◌, ◌/◌, ◌%◌, ◌-◌, ◌≤◌, ◌<◌}
use native.Mathlib.Nat.{not-suc-le-zero}
use native.Mathlib.Omega.{arith}
use borrow.Author.Tests.{eq-eqb, ne_eqb}
use lib.Dec.{T, leb, eqb, eqb→eq, le→leb, leb→le}
use lib.ListN.{length, get_or, length-map, length-append}
use Rattle.aiger.specs.Lists.{every, upto, member, distinct, pairwise}
use Rattle.aiger.specs.Bits.{nonzero, odd}
use Rattle.aiger.specs.Circuit.{Circuit, Latch, Gate, var, defined, used, literal_tests, literals_right, used_defined}
use Rattle.aiger.proofs.Tests.{and, and_left, and_right, not_T, every-imp, all-at, or_cases, every_true}
use Rattle.meaning.proofs.Lists.{get_d-map-upto, length-map-upto, every_in, every-both, every-mapped, pairwise-in, member-in, get_or-map, or_left, or_right, eqb_of}
use Rattle.joined.specs.Joined.{place_from, number_of, literal_under, latch_under, gate_under, complement, pair_gates, pairs_gates, first_number, second_number, pairs_from, joined}
use Rattle.parting.proofs.Numbers.{number-zero}
use Rattle.parting.proofs.Shape.{evens, evens_at, evens-length, joined-defined}
use Rattle.meaning.proofs.Shape.{not-odd}

-- ---- numbers are at most M

place-most : (ls : List ℕ) (n v d b : ℕ) → n + length ls ≤ b + 1 → d ≤ b → place_from ls n v d ≤ b
unfolding place_from
place-most [] n v d b h k = k
place-most (l ∷ ls) n v d b h k = go (eqb (var l) v) (place-most ls (n + 1) v d b (omega arith) k)
  where
    go : (x : Bool) → place_from ls (n + 1) v d ≤ b → cond x n (place_from ls (n + 1) v d) ≤ b
    go true r = omega arith
    go false r = r

pub number-most : (c : Circuit) (p q b v : ℕ) → length c.inputs ≤ b → p + length c.latches ≤ b + 1 → q + length c.gates ≤ b + 1 → number_of c p q v ≤ b
unfolding number_of
number-most c p q b v h k l =
    place-most c.inputs 1 v _ b (omega arith)
    (place-most (map (λ l. l.lit) c.latches) p v _ b (simp length-map (omega arith))
    (place-most (map (λ g. g.lit) c.gates) q v 0 b (simp length-map (omega arith)) (omega arith)))

-- the variable of literal l is at most M
abbrev small : ℕ → ℕ → Bool
small M l = leb (var l) M

under-small : (σ : ℕ → ℕ) (M l : ℕ) → σ (var l) ≤ M → T (small M (literal_under σ l))
under-small σ M l h = le→leb (var (literal_under σ l)) M (omega arith)

complement-small : (M l : ℕ) → T (small M l) → T (small M (complement l))
complement-small M l h = le→leb (var (complement l)) M (omega (arith, leb→le (var l) M h))

-- the operands of the gates of the pairs
pairs_small : (M v : ℕ) (ps qs : List ℕ) → v + 3 * length ps ≤ M + 1 → T (every (small M) ps) → T (every (small M) qs)
    → T (every (λ g. small M g.left) (pairs_gates v ps qs)) × T (every (λ g. small M g.right) (pairs_gates v ps qs))
unfolding pairs_gates
pairs_small M v [] qs h s t = (tt, tt)
pairs_small M v (p ∷ ps) [] h s t = (tt, tt)
pairs_small M v (p ∷ ps) (q ∷ qs) h s t =
    let sp = and_left (small M p) (every (small M) ps) s in
    let sq = and_left (small M q) (every (small M) qs) t in
    let r = pairs_small M (v + 3) ps qs (omega arith) (and_right (small M p) (every (small M) ps) s) (and_right (small M q) (every (small M) qs) t) in
    let first : T (small M (2 * v + 1)) = le→leb (var (2 * v + 1)) M (omega arith) in
    let second : T (small M (2 * (v + 1) + 1)) = le→leb (var (2 * (v + 1) + 1)) M (omega arith) in (
      and (small M p) _ sp (and (small M (complement p)) _ (complement-small M p sp) (and (small M (2 * v + 1)) _ first r.0)),
      and (small M (complement q)) _ (complement-small M q sq) (and (small M q) _ sq (and (small M (2 * (v + 1) + 1)) _ second r.1)),
    )

-- a reset stays right under new numbers
pub reset-right : (f : ℕ → ℕ) → f 0 ≡ 0 → (l : Latch) → T (leb l.reset 1 || eqb l.reset l.lit)
    → T (leb (latch_under f l).reset 1 || eqb (latch_under f l).reset (latch_under f l).lit)
reset-right f z l t =
    ⊎_elim
    (λ h.
    let k = leb→le l.reset 1 h in
    let v : var l.reset ≡ 0 = omega arith in
    let w : f (var l.reset) ≡ 0 = ap f v ∙ z in
    or_left (leb (literal_under f l.reset) 1) _ (le→leb (literal_under f l.reset) 1 (omega arith)))
    (λ h. or_right (leb (literal_under f l.reset) 1) _ (eqb_of (ap (literal_under f) (eqb→eq l.reset l.lit h))))
    (or_cases (leb l.reset 1) (eqb l.reset l.lit) t)

module _ (c d : Circuit) (inputs : length c.inputs ≡ length d.inputs) (outputs : length c.outputs ≡ length d.outputs) where
  abbrev M : ℕ
  M = length c.inputs + length c.latches + length d.latches + length c.gates + length d.gates + 3 * length c.outputs

  abbrev σ : ℕ → ℕ
  σ = first_number c d

  abbrev τ : ℕ → ℕ
  τ = second_number c d

  pub first-most : (v : ℕ) → first_number c d v ≤ M
  first-most v = number-most c (length c.inputs + 1) (length c.inputs + length c.latches + length d.latches + 1) M v (omega arith) (omega arith) (omega arith)

  pub second-most : (v : ℕ) → second_number c d v ≤ M
  second-most v =
      number-most d (length c.inputs + length c.latches + 1) (length c.inputs + length c.latches + length d.latches + length c.gates + 1) M v
      (omega arith) (omega arith) (omega arith)

  first_small : (l : ℕ) → T (small M (literal_under σ l))
  first_small l = under-small σ M l (first-most (var l))

  second-small : (l : ℕ) → T (small M (literal_under τ l))
  second-small l = under-small τ M l (second-most (var l))

  -- both circuits' parts, renumbered
  both_small : {A B : Type 0} (f : B → ℕ) (g h : A → B) (xs ys : List A) → ((x : A) → T (small M (f (g x)))) → ((x : A) → T (small M (f (h x))))
      → T (every (λ z. small M (f z)) (map g xs ++ map h ys))
  both_small f g h xs ys p q =
      every-both (λ z. small M (f z)) (map g xs) (map h ys) (every-mapped (λ z. small M (f z)) g xs (every_true (λ x. small M (f (g x))) xs p))
      (every-mapped (λ z. small M (f z)) h ys (every_true (λ x. small M (f (h x))) ys q))

  abbrev ps : List ℕ
  ps = map (literal_under σ) c.outputs

  abbrev qs : List ℕ
  qs = map (literal_under τ) d.outputs

  pairs : T (every (λ g. small M g.left) (pairs_gates (pairs_from c d) ps qs)) × T (every (λ g. small M g.right) (pairs_gates (pairs_from c d) ps qs))
  pairs =
      pairs_small M (pairs_from c d) ps qs (omega (arith, length-map c.outputs (literal_under σ)))
      (every-mapped (small M) (literal_under σ) c.outputs (every_true (λ l. small M (literal_under σ l)) c.outputs first_small))
      (every-mapped (small M) (literal_under τ) d.outputs (every_true (λ l. small M (literal_under τ l)) d.outputs second-small))

  bads-small : T (every (small M) (map (λ j. 2 * (pairs_from c d + 3 * j + 2) + 1) (upto (length c.outputs))))
  bads-small =
      let f : ℕ → ℕ = λ j. 2 * (pairs_from c d + 3 * j + 2) + 1 in
      let n = length c.outputs in
      every_in (small M) (map f (upto n)) 0
      (λ i h.
      let k : i < n = omega (arith, length-map-upto f n) in
      subst (λ (x : ℕ). T (small M x)) (sym (get_d-map-upto f n i 0 k)) (le→leb (var (f i)) M (omega arith)))

  -- every used literal's variable is at most M
  pub used-small : T (every (small M) (used (joined c d)))
  unfolding used joined
  used-small =
      let S = small M in
      let two : List Gate = map (gate_under σ) c.gates ++ map (gate_under τ) d.gates in
      let three : List Gate = pairs_gates (pairs_from c d) ps qs in
      let ls : List Latch = map (latch_under σ) c.latches ++ map (latch_under τ) d.latches in
      let nexts : List ℕ = map (λ (l : Latch). l.next) ls in
      let bads : List ℕ = map (λ j. 2 * (pairs_from c d + 3 * j + 2) + 1) (upto (length c.outputs)) in
      let cons : List ℕ = map (literal_under σ) c.constraints ++ map (literal_under τ) d.constraints in
      let lefts : List ℕ = map (λ (g : Gate). g.left) (two ++ three) in
      let rights : List ℕ = map (λ (g : Gate). g.right) (two ++ three) in
      let gl = every-mapped S (λ (g : Gate). g.left) (two ++ three)
      (every-both (λ (g : Gate). S g.left) two three
      (both_small (λ (g : Gate). g.left) (gate_under σ) (gate_under τ) c.gates d.gates (λ g. first_small g.left) (λ g. second-small g.left)) pairs.0) in
      let gr = every-mapped S (λ (g : Gate). g.right) (two ++ three)
      (every-both (λ (g : Gate). S g.right) two three
      (both_small (λ (g : Gate). g.right) (gate_under σ) (gate_under τ) c.gates d.gates (λ g. first_small g.right) (λ g. second-small g.right)) pairs.1) in
      let nx = every-mapped S (λ (l : Latch). l.next) ls
      (both_small (λ (l : Latch). l.next) (latch_under σ) (latch_under τ) c.latches d.latches (λ l. first_small l.next) (λ l. second-small l.next)) in
      let cs = both_small (λ (l : ℕ). l) (literal_under σ) (literal_under τ) c.constraints d.constraints first_small second-small in
      every-both S (nexts ++ [] ++ bads ++ cons ++ lefts) rights
      (every-both S (nexts ++ [] ++ bads ++ cons) lefts
      (every-both S (nexts ++ [] ++ bads) cons (every-both S (nexts ++ []) bads (every-both S nexts [] nx tt) bads-small) cs) gl) gr

  module _ (right : T (literals_right c)) (right' : T (literals_right d)) where
    abbrev J : Circuit
    J = joined c d

    max-is : (joined c d).max_var ≡ M
    unfolding joined
    max-is = refl

    defined-is : defined J ≡ evens 1 M
    defined-is = joined-defined c d right right' outputs ∙ ap (evens 1) max-is

    -- what holds of 2, 4 and so on up to 2M holds of every definition
    every-defined : (p : ℕ → Bool) → ((v : ℕ) → 1 ≤ v → v ≤ M → T (p (2 * v))) → T (every p (defined J))
    every-defined p h =
        subst (λ (l : List ℕ). T (every p l)) (sym defined-is)
        (every_in p (evens 1 M) 0
        (λ i k.
        let b : i < M = omega (arith, evens-length 1 M) in
        subst (λ (x : ℕ). T (p x)) (sym (evens_at 1 M i b)) (h (1 + i) (omega arith) (omega arith))))

    within : (v : ℕ) → v ≤ M → T (member v (0 ∷ map var (defined J)))
    within v h =
        let xs : List ℕ = 0 ∷ map var (evens 1 M) in
        let e : get_or xs v 0 ≡ v = place v h in
        let n : v < length xs = omega (arith, length-map (evens 1 M) var, evens-length 1 M) in
        subst (λ (l : List ℕ). T (member v (0 ∷ map var l))) (sym defined-is) (subst (λ (x : ℕ). T (member x xs)) e (member-in xs v 0 n))
      where
        place : (v : ℕ) → v ≤ M → get_or (0 ∷ map var (evens 1 M)) v 0 ≡ v
        place zero h = refl
        place (suc v) h = get_or-map var (evens 1 M) v 0 0 (omega (arith, evens-length 1 M)) ∙ ap var (evens_at 1 M v (omega arith)) ∙ omega arith

    resets-right : (e : Circuit) → T (literals_right e) → (f : ℕ → ℕ) → f 0 ≡ 0
        → T (every (λ l. leb l.reset 1 || eqb l.reset l.lit) (map (latch_under f) e.latches))
    unfolding literals_right
    resets-right e r f z =
        every-mapped (λ (l : Latch). leb l.reset 1 || eqb l.reset l.lit) (latch_under f) e.latches
        (every-imp (λ (l : Latch). leb l.reset 1 || eqb l.reset l.lit)
        (λ (l : Latch). leb (latch_under f l).reset 1 || eqb (latch_under f l).reset (latch_under f l).lit) (λ l. reset-right f z l) e.latches
        (all-at (literal_tests e) r 3))

    latches-right : T (every (λ l. leb l.reset 1 || eqb l.reset l.lit) (joined c d).latches)
    unfolding joined
    latches-right =
        every-both (λ (l : Latch). leb l.reset 1 || eqb l.reset l.lit) (map (latch_under σ) c.latches) (map (latch_under τ) d.latches)
        (resets-right c right σ (number-zero c right _ _)) (resets-right d right' τ (number-zero d right' _ _))

    apart : T (distinct (defined J))
    apart =
        subst (λ (l : List ℕ). T (distinct l)) (sym defined-is)
        (pairwise-in (λ x y. not (eqb x y)) (evens 1 M) 0
        (λ i j h k.
        let n : j < M = omega (arith, evens-length 1 M) in
        let a = evens_at 1 M i (omega arith) in
        let b = evens_at 1 M j n in
        not_T (eqb (get_or (evens 1 M) i 0) (get_or (evens 1 M) j 0)) (λ t. let e = eqb→eq (get_or (evens 1 M) i 0) (get_or (evens 1 M) j 0) t in omega arith)))

    -- number 6 is no cause
    pub joined-right : T (literals_right (joined c d))
    unfolding literals_right
    joined-right =
        let tests = literal_tests J in
        let t0 = every (λ l. leb l (2 * J.max_var + 1)) (defined J ++ used J) in
        let t1 = every (λ l. leb 2 l && not (odd l)) (defined J) in
        let t2 = distinct (defined J) in
        let t3 = every (λ l. leb l.reset 1 || eqb l.reset l.lit) J.latches in
        let low : T t0 =
        every-both (λ l. leb l (2 * J.max_var + 1)) (defined J) (used J)
        (every-defined (λ l. leb l (2 * J.max_var + 1)) (λ v h k. le→leb (2 * v) (2 * J.max_var + 1) (omega (arith, max-is))))
        (every-imp (small M) (λ l. leb l (2 * J.max_var + 1)) (λ l t. le→leb l (2 * J.max_var + 1) (omega (arith, max-is, leb→le (var l) M t))) (used J) used-small) in
        let even : T t1 =
        every-defined (λ l. leb 2 l && not (odd l))
        (λ v h k. and (leb 2 (2 * v)) (not (odd (2 * v))) (le→leb 2 (2 * v) (omega arith)) (not-odd v)) in
        and t0 (t1 && (t2 && (t3 && true))) low (and t1 (t2 && (t3 && true)) even (and t2 (t3 && true) apart (and t3 true latches-right tt)))

    -- number 7 is no cause
    pub joined-known : T (used_defined (joined c d))
    unfolding used_defined
    joined-known = every-imp (small M) (λ l. member (var l) (0 ∷ map var (defined J))) (λ l t. within (var l) (leb→le (var l) M t)) (used J) used-small
