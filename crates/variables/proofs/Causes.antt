-- What the tests of the causes 6 and 7 ask of the words. Assumes nothing.
use mathlib.Core.Path.{◌≡◌, refl, sym, ap, ◌∙◌, subst}
use mathlib.Core.Bool.{Bool, true, not, ◌&&◌, ◌||◌}
use mathlib.Core.List.{List, [], ◌∷◌, ◌++◌, map}
use Prim.Native.Nat.{ℕ, zero, suc, ◌+◌, ◌-◌, ◌*◌, ◌/◌, ◌%◌, ◌<◌, ◌≤◌}
use native.Mathlib.Decide.{ℕ_discrete}
use native.Mathlib.Omega.{arith}
use borrow.Author.Tests.{le-leb, eq-eqb}
use lib.Dec.{T, leb, eqb, leb→le, eqb→eq, not_T}
use lib.ListN.{length, get_or, length-map, get_or-map}
use Rattle.aiger.specs.Lists.{all, every, pairwise, member, upto}
use Rattle.aiger.specs.Bits.{nonzero, odd}
use Rattle.aiger.specs.Circuit.{Circuit, Latch, var, defined, used, literal_tests, literals_right, used_defined}
use Rattle.aiger.proofs.Tests.{and, and_left, and_right, not-both, T_true, all-at, every-left, every-right}
use Rattle.meaning.proofs.Lists.{every-at, every_in, pairwise-at, pairwise-in, member-mem, member-in, mem-at, or_left, or_right}
use Rattle.layout.specs.Words.{word, latches_at, latch_in, circuit_in}
use Rattle.roundtrip.proofs.Lists.{every_append, upto-length, upto-get}
use Rattle.columns.specs.Columns.{Used, total, definition}
use Rattle.columns.proofs.Parts.{max-var, length-defined, used-every, every-used}
use Rattle.variables.specs.Table.{Defines, Definitions, Entered, Resets, Known}

le_T : (a b : ℕ) → a ≤ b → T (leb a b)
le_T a b h = T_true (le-leb a b h)

all4 : (a b c d : Bool) → T a → T b → T c → T d → T (all (a ∷ b ∷ c ∷ d ∷ []))
all4 a b c d s t u v = and a (b && (c && (d && true))) s (and b (c && (d && true)) t (and c (d && true) u (and d true v tt)))

pub used-map : (w : List ℕ) (P Q : ℕ → Type 0) → ((l : ℕ) → P l → Q l) → Used w P → Used w Q
used-map w P Q f u =
    record {
      nexts = λ i l. f _ (u.nexts i l);
      roots = λ i l. f _ (u.roots i l);
      lefts = λ i l. f _ (u.lefts i l);
      rights = λ i l. f _ (u.rights i l);
    }

even-in : (n : ℕ) → n ≡ 0 → T (not (nonzero n))
even-in n e = subst (λ (x : ℕ). T (not (nonzero x))) (sym e) tt

even-out : (n : ℕ) → T (not (nonzero n)) → n ≡ 0
even-out zero t = refl
even-out (suc n) t = absurd t

abbrev reset-right : Latch → Bool
reset-right l = leb l.reset 1 || eqb l.reset l.lit

module _ (w : List ℕ) where
  abbrev c : Circuit
  c = circuit_in w

  abbrev fits : ℕ → Bool
  fits l = leb l (2 * (circuit_in w).max_var + 1)

  abbrev defines : ℕ → Bool
  defines l = leb 2 l && not (odd l)

  abbrev other : ℕ → ℕ → Bool
  other x y = not (eqb x y)

  -- ---- a test of each definition

  defined-every : (p : ℕ → Bool) → ((i : ℕ) → i < total w → T (p (definition w i))) → T (every p (defined (circuit_in w)))
  unfolding definition
  defined-every p h = every_in p (defined (circuit_in w)) 0 (λ i l. h i (omega (arith, length-defined w)))

  every-defined : (p : ℕ → Bool) → T (every p (defined (circuit_in w))) → (i : ℕ) → i < total w → T (p (definition w i))
  unfolding definition
  every-defined p t i l = every-at p (defined (circuit_in w)) i 0 (omega (arith, length-defined w)) t

  distinct-in : Definitions w (total w) → T (pairwise other (defined (circuit_in w)))
  unfolding definition
  distinct-in D =
      pairwise-in other (defined (circuit_in w)) 0
      (λ i j h l. not_T (eqb (get_or (defined (circuit_in w)) i 0) (get_or (defined (circuit_in w)) j 0))
      (λ t. D.apart i j h (omega (arith, length-defined w)) (ap (λ (x : ℕ). x / 2) (eqb→eq _ _ t))))

  distinct-out : T (pairwise other (defined (circuit_in w))) → (i j : ℕ) → i < j → j < total w → definition w i ≡ definition w j → ⊥
  unfolding definition
  distinct-out t i j h l e =
      not-both (eqb (get_or (defined (circuit_in w)) i 0) (get_or (defined (circuit_in w)) j 0))
      (pairwise-at other (defined (circuit_in w)) i j 0 h (omega (arith, length-defined w)) t) (T_true (eq-eqb _ _ e))

  -- ---- resets

  abbrev latch : ℕ → Latch
  latch j = latch_in w (latches_at w + 3 * j)

  resets-in : Resets w → T (every reset-right (circuit_in w).latches)
  unfolding circuit_in
  resets-in r =
      every_in reset-right (map latch (upto (word w 2))) (latch 0)
      (λ j l. let k : j < word w 2 = omega (arith, upto-length latch (word w 2)) in subst (λ (x : Latch). T (reset-right x))
      (sym (upto-get latch (word w 2) j (latch 0) k)) (r j k))

  resets-out : T (every reset-right (circuit_in w).latches) → Resets w
  unfolding circuit_in
  resets-out t j l =
      subst (λ (x : Latch). T (reset-right x)) (upto-get latch (word w 2) j (latch 0) l)
      (every-at reset-right (map latch (upto (word w 2))) j (latch 0) (omega (arith, upto-length latch (word w 2))) t)

  -- ---- cause 6

  fits_in : (l : ℕ) → l / 2 ≤ word w 0 → T (fits l)
  fits_in l h = le_T l (2 * (circuit_in w).max_var + 1) (omega (arith, max-var w))

  fits_out : (l : ℕ) → T (fits l) → l / 2 ≤ word w 0
  fits_out l t = omega (arith, max-var w, leb→le l (2 * (circuit_in w).max_var + 1) t)

  pub literals-in : Definitions w (total w) → Used w (λ l. l / 2 ≤ word w 0) → Resets w → T (literals_right (circuit_in w))
  unfolding literals_right
  literals-in D u r =
      all4 (every fits (defined c ++ used c)) (every defines (defined c)) (pairwise other (defined c)) (every reset-right c.latches)
      (every_append fits (defined c) (used c)
      (defined-every fits (λ i l. fits_in (definition w i) (D.right i l).bound))
      (used-every w fits (used-map w (λ l. l / 2 ≤ word w 0) (λ l. T (fits l)) fits_in u)))
      (defined-every defines
      (λ i l.
      let d = D.right i l in
      let x : ℕ = definition w i in
      and (leb 2 x) (not (odd x)) (le_T 2 x (omega (arith, d.some))) (even-in (x % 2) d.even)))
      (distinct-in D)
      (resets-in r)

  module _ (t : T (literals_right (circuit_in w))) where
    test : (i : ℕ) → T (get_or (literal_tests (circuit_in w)) i true)
    unfolding literals_right
    test = all-at (literal_tests c) t

    right : (i : ℕ) → i < total w → Defines (word w 0) (definition w i)
    right i l =
        let x : ℕ = definition w i in
        let a = every-defined fits (every-left fits (defined c) (used c) (test 0)) i l in
        let b = every-defined defines (test 1) i l in
        record {
          some = omega (arith, leb→le 2 x (and_left (leb 2 x) (not (odd x)) b));
          bound = fits_out x a;
          even = even-out (x % 2) (and_right (leb 2 x) (not (odd x)) b);
        }

    pub literals-definitions : Definitions w (total w)
    literals-definitions =
        record {
          right = right;
          apart = λ i j h l e. distinct-out (test 2) i j h l (omega (arith, (right i (omega arith)).even, (right j l).even));
        }

    pub literals-used : Used w (λ l. l / 2 ≤ word w 0)
    literals-used =
        used-map w (λ l. T (fits l)) (λ l. l / 2 ≤ word w 0) fits_out (every-used w fits (every-right fits (defined c) (used c) (test 0)))

    pub literals-resets : Resets w
    literals-resets = resets-out (test 3)

  -- ---- cause 7

  abbrev known : ℕ → Bool
  known l = member (var l) (0 ∷ map var (defined (circuit_in w)))

  var-at : (i : ℕ) → get_or (map var (defined (circuit_in w))) i 0 ≡ definition w i / 2
  unfolding definition
  var-at i = get_or-map var (defined c) i 0

  var-member : (i v : ℕ) → i < total w → definition w i / 2 ≡ v → T (member v (map var (defined (circuit_in w))))
  var-member i v l e =
      subst (λ (x : ℕ). T (member x (map var (defined c)))) (var-at i ∙ e)
      (member-in (map var (defined c)) i 0 (omega (arith, length-map (defined c) var, length-defined w)))

  module _ (t : List ℕ) (E : Entered w (total w) t) where
    known_in : (l : ℕ) → Known t l → T (known l)
    known_in l k = go (ℕ_discrete (get_or t (l / 2) 0) 0)
      where
        go : Dec (get_or t (l / 2) 0 ≡ 0) → T (known l)
        go (yes z) = or_left (eqb (var l) 0) (member (var l) (map var (defined c))) (T_true (eq-eqb (var l) 0 (k z)))
        go (no z) =
            let q = E.only (l / 2) (get_or t (l / 2) 0 - 1) (omega arith) in
            or_right (eqb (var l) 0) (member (var l) (map var (defined c))) (var-member (get_or t (l / 2) 0 - 1) (l / 2) q.0 q.1)

    at_place : (l i : ℕ) → i < length (0 ∷ map var (defined (circuit_in w)))
        → get_or (0 ∷ map var (defined (circuit_in w))) i 0 ≡ l / 2 → Known t l
    at_place l zero h e z = sym e
    at_place l (suc i) h e z =
        let here = E.has i (omega (arith, length-map (defined c) var, length-defined w)) in
        absurd (omega (arith, ap (λ (x : ℕ). get_or t x 0) (sym (var-at i) ∙ e)))

    known_out : (l : ℕ) → T (known l) → Known t l
    known_out l s = let m = mem-at 0 (member-mem (var l) (0 ∷ map var (defined c)) s) in at_place l m.0 m.1 m.2

    pub uses-in : Used w (Known t) → T (used_defined (circuit_in w))
    unfolding used_defined
    uses-in u = used-every w known (used-map w (Known t) (λ l. T (known l)) known_in u)

    pub uses-out : T (used_defined (circuit_in w)) → Used w (Known t)
    unfolding used_defined
    uses-out s = used-map w (λ l. T (known l)) (Known t) known_out (every-used w known s)
