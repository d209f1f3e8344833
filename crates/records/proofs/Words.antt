-- Words after stores: three in a row, zeros, and the three words of some nodes of a graph. Assumes nothing.
use mathlib.Core.Path.{◌≡◌, refl, sym, ap, ap₂, ◌∙◌, subst}
use mathlib.Core.List.{List}
use Prim.Native.Nat.{ℕ, zero, suc, ◌+◌, ◌-◌, ◌*◌, ◌≤◌, ◌<◌}
use native.Mathlib.Decide.{ℕ_discrete}
use native.Mathlib.Omega.{arith}
use lib.ListN.{length, get_or, set, length-set}
use lib.Seq.{get_or-set_same, get_or-set_other}
use Rattle.records.specs.Steps.{word, three, down, zeroed}

-- what each step keeps holds at the end
pub down-keeps : (P : ℕ → List ℕ → Type 0) (step : List ℕ → ℕ → List ℕ) (n : ℕ) (w : List ℕ) → P n w
    → ((j : ℕ) (u : List ℕ) → j < n → P (suc j) u → P j (step u j)) → P 0 (down step n w)
unfolding down
down-keeps P step zero w p more = p
down-keeps P step (suc n) w p more = down-keeps P step n (step w n) (more n w (omega arith) p) (λ j u l q. more j u (omega arith) q)

module _ (w : List ℕ) (i a b c : ℕ) where
  pub three-length : length (three w i a b c) ≡ length w
  unfolding three
  three-length = simp length-set

  pub three-other : (j : ℕ) → (j ≡ i → ⊥) → (j ≡ i + 1 → ⊥) → (j ≡ i + 2 → ⊥) → get_or (three w i a b c) j 0 ≡ get_or w j 0
  unfolding three
  three-other j x y z =
      get_or-set_other (set (set w i a) (i + 1) b) (i + 2) j c 0 z ∙ get_or-set_other (set w i a) (i + 1) j b 0 y ∙ get_or-set_other w i j a 0 x

  module _ (room : i + 3 ≤ length w) where
    pub three-first : get_or (three w i a b c) i 0 ≡ a
    unfolding three
    three-first =
        get_or-set_other (set (set w i a) (i + 1) b) (i + 2) i c 0 (λ e. omega arith) ∙ get_or-set_other (set w i a) (i + 1) i b 0 (λ e. omega arith)
        ∙ get_or-set_same w i a 0 (omega arith)

    pub three-second : get_or (three w i a b c) (i + 1) 0 ≡ b
    unfolding three
    three-second =
        get_or-set_other (set (set w i a) (i + 1) b) (i + 2) (i + 1) c 0 (λ e. omega arith)
        ∙ get_or-set_same (set w i a) (i + 1) b 0 (omega (arith, length-set w i a))

    pub three_third : get_or (three w i a b c) (i + 2) 0 ≡ c
    unfolding three
    three_third =
        get_or-set_same (set (set w i a) (i + 1) b) (i + 2) c 0 (omega (arith, length-set w i a, length-set (set w i a) (i + 1) b))

-- ---- zeros

pub record Zeroed (w u : List ℕ) (i n : ℕ) : Type 0 where
  pub size : length u ≡ length w
  pub zero : (j : ℕ) → i ≤ j → j < i + n → get_or u j 0 ≡ 0
  pub below : (j : ℕ) → j < i → get_or u j 0 ≡ get_or w j 0
  pub above : (j : ℕ) → i + n ≤ j → get_or u j 0 ≡ get_or w j 0

module _ (w : List ℕ) (i n : ℕ) (room : i + n ≤ length w) where
  record Zeroing (m : ℕ) (u : List ℕ) : Type 0 where
    pub size : length u ≡ length w
    pub zero : (j : ℕ) → i + m ≤ j → j < i + n → get_or u j 0 ≡ 0
    pub below : (j : ℕ) → j < i + m → get_or u j 0 ≡ get_or w j 0
    pub above : (j : ℕ) → i + n ≤ j → get_or u j 0 ≡ get_or w j 0

  zeroing-more : (m : ℕ) (u : List ℕ) → m < n → Zeroing (suc m) u → Zeroing m (set u (i + m) 0)
  zeroing-more m u l z =
      record {
        size = length-set u (i + m) 0 ∙ z.size;
        zero = λ j a b.
            elim (ℕ_discrete j (i + m)) [
              | yes e ↦ ap (λ (k : ℕ). get_or (set u (i + m) 0) k 0) e ∙ get_or-set_same u (i + m) 0 0 (omega (arith, z.size))
              | no e ↦ get_or-set_other u (i + m) j 0 0 e ∙ z.zero j (omega arith) b
            ];
        below = λ j a. get_or-set_other u (i + m) j 0 0 (λ e. omega arith) ∙ z.below j (omega arith);
        above = λ j a. get_or-set_other u (i + m) j 0 0 (λ e. omega arith) ∙ z.above j a;
      }

  pub zeroed-words : Zeroed w (zeroed w i n) i n
  zeroed-words =
      let z =
      down-keeps Zeroing (λ u j. set u (i + j) 0) n w
      (record { size = refl; zero = λ j a b. absurd (omega arith); below = λ j a. refl; above = λ j a. refl }) zeroing-more in
      record {
        size = z.size;
        zero = λ j a b. z.zero j (omega arith) b;
        below = λ j a. z.below j (omega arith);
        above = z.above;
      }

-- ---- the three words of n nodes of a graph, from node `first` on

module _ (w : List ℕ) (first n : ℕ) (left right fact : List ℕ → ℕ → ℕ) where
  -- no word changed but the three words of the nodes from node m up to first + n
  abbrev pub Stay : ℕ → List ℕ → Type 0
  Stay m u = (k f : ℕ) → f < 16 → (m ≤ k → k < first + n → 3 ≤ f) → word u k f ≡ word w k f

  pub record Set (m : ℕ) (u : List ℕ) : Type 0 where
    pub size : length u ≡ length w
    pub left_is : (k : ℕ) → m ≤ k → k < first + n → word u k 0 ≡ left w k
    pub right_is : (k : ℕ) → m ≤ k → k < first + n → word u k 1 ≡ right w k
    pub fact-is : (k : ℕ) → m ≤ k → k < first + n → word u k 2 ≡ fact w k
    pub stay : Stay m u

  -- what is stored at node k is the same as in w, where the words from word 3 on and those of node k are
  pub record Steady : Type 0 where
    pub left-same : (u : List ℕ) (k : ℕ) → Stay (k + 1) u → left u k ≡ left w k
    pub right-same : (u : List ℕ) (k : ℕ) → Stay (k + 1) u → right u k ≡ right w k
    pub fact-same : (u : List ℕ) (k : ℕ) → Stay (k + 1) u → fact u k ≡ fact w k

  module _ (steady : Steady) (room : 16 * (first + n) ≤ length w) (step : List ℕ → ℕ → List ℕ)
      (is : (u : List ℕ) (j : ℕ) → step u j ≡ three u (16 * (first + j)) (left u (first + j)) (right u (first + j)) (fact u (first + j))) where
    set_more : (j : ℕ) (u : List ℕ) → j < n → Set (first + suc j) u → Set (first + j) (step u j)
    set_more j u l s =
        let k = first + j in
        let e : first + suc j ≡ k + 1 = omega arith in
        let stay : Stay (k + 1) u = subst (λ (m : ℕ). Stay m u) e s.stay in
        let a = left u k in
        let b = right u k in
        let c = fact u k in
        let z : 16 * k + 0 ≡ 16 * k = omega arith in
        let fits : 16 * k + 3 ≤ length u = omega (arith, s.size) in
        subst (Set (first + j)) (sym (is u j))
        (record {
          size = three-length u (16 * k) a b c ∙ s.size;
          left_is = λ x p q.
              elim (ℕ_discrete x k) [
                | yes y ↦
                    subst (λ (v : ℕ). word (three u (16 * k) a b c) v 0 ≡ left w v) (sym y)
                    (ap (λ (v : ℕ). get_or (three u (16 * k) a b c) v 0) z ∙ three-first u (16 * k) a b c fits ∙ steady.left-same u k stay)
                | no y ↦
                    three-other u (16 * k) a b c (16 * x + 0) (λ h. y (omega arith)) (λ h. omega arith) (λ h. omega arith) ∙ s.left_is x (omega arith) q
              ];
          right_is = λ x p q.
              elim (ℕ_discrete x k) [
                | yes y ↦
                    subst (λ (v : ℕ). word (three u (16 * k) a b c) v 1 ≡ right w v) (sym y)
                    (three-second u (16 * k) a b c fits ∙ steady.right-same u k stay)
                | no y ↦
                    three-other u (16 * k) a b c (16 * x + 1) (λ h. omega arith) (λ h. y (omega arith)) (λ h. omega arith) ∙ s.right_is x (omega arith) q
              ];
          fact-is = λ x p q.
              elim (ℕ_discrete x k) [
                | yes y ↦
                    subst (λ (v : ℕ). word (three u (16 * k) a b c) v 2 ≡ fact w v) (sym y)
                    (three_third u (16 * k) a b c fits ∙ steady.fact-same u k stay)
                | no y ↦
                    three-other u (16 * k) a b c (16 * x + 2) (λ h. omega arith) (λ h. omega arith) (λ h. y (omega arith)) ∙ s.fact-is x (omega arith) q
              ];
          stay = λ x f h o.
              let far : (d : ℕ) → d < 3 → 16 * x + f ≡ 16 * k + d → ⊥ =
              λ d i g. let y : x ≡ k = omega arith in let v : 3 ≤ f = o (omega arith) (omega arith) in omega arith in
              three-other u (16 * k) a b c (16 * x + f) (λ g. far 0 (omega arith) (omega arith)) (far 1 (omega arith)) (far 2 (omega arith))
              ∙ s.stay x f h (λ p q. o (omega arith) q);
        })

    pub set_all : Set first (down step n w)
    set_all =
        let z : first + 0 ≡ first = omega arith in
        subst (λ (m : ℕ). Set m (down step n w)) z
        (down-keeps (λ j. Set (first + j)) step n w
        (record {
          size = refl;
          left_is = λ k p q. absurd (omega arith);
          right_is = λ k p q. absurd (omega arith);
          fact-is = λ k p q. absurd (omega arith);
          stay = λ k f h o. refl;
        })
        set_more)
