-- Laws of the table of definitions: it starts empty, takes one definition at a time, and refuses what is wrong or repeated.
-- Assumes nothing.
use mathlib.Core.Path.{◌≡◌, sym, ap, ◌∙◌}
use mathlib.Core.Bool.{Bool, true, false, cond}
use mathlib.Core.List.{List}
use mathlib.Core.Logic.{⊎_elim}
use Prim.Native.Nat.{ℕ, ◌+◌, ◌*◌, ◌-◌, ◌/◌, ◌<◌, ◌≤◌}
use native.Mathlib.Decide.{ℕ_discrete}
use native.Mathlib.Omega.{arith}
use lib.Dec.{leb}
use lib.ListN.{length, get_or, set, replicate, length-set, length-replicate}
use lib.Seq.{ext_get_or}
use borrow.Author.Tests.{leb-true, leb-false}
use Rattle.meaning.proofs.Lists.{get_d_set, get_d-zeros}
use Rattle.literals.specs.declared.Lit.{Lit}
use Rattle.literals.specs.Literal.{word_of}
use Rattle.literals.proofs.Words.{word-var}
use Rattle.layout.specs.Words.{word}
use Rattle.columns.specs.declared.Column.{Column}
use Rattle.columns.specs.Columns.{at, total, definition}
use Rattle.variables.specs.Table.{Defines, Definitions, Entered, Enters, Defining, Known}

module _ (w : List ℕ) where
  pub entered-none : (t : List ℕ) → word w 0 < length t → ((v : ℕ) → get_or t v 0 ≡ 0) → Entered w 0 t
  entered-none t room z =
      record {
        room = room;
        right = λ i l. absurd (omega arith);
        has = λ i l. absurd (omega arith);
        only = λ v i e. absurd (omega (arith, z v));
      }

  module _ (n : ℕ) (t : List ℕ) (E : Entered w n t) where
    -- the variable of the next definition
    abbrev v : ℕ
    v = definition w n / 2

    pub entered-more : Defines (word w 0) (definition w n) → get_or t (definition w n / 2) 0 ≡ 0
        → Entered w (n + 1) (set t (definition w n / 2) (n + 1))
    entered-more d z =
        record {
          room = omega (arith, length-set t v (n + 1), E.room);
          right = λ i l. right' i (ℕ_discrete i n) l;
          has = λ i l. ⊎_elim (λ r. r.1 ∙ same i r.0 l (ℕ_discrete i n)) (λ r. r.1 ∙ E.has i (less i r.0 l (ℕ_discrete i n)))
              (get_d_set t v (n + 1) (definition w i / 2) here);
          only = λ u i e.
              ⊎_elim (λ r. let k : i ≡ n = omega arith in (omega arith, rw k (sym r.0)))
              (λ r. let q = E.only u i (sym r.1 ∙ e) in (omega (arith, q.0), q.1))
              (get_d_set t v (n + 1) u here);
        }
      where
        here : definition w n / 2 < length t
        here = omega (arith, d.bound, E.room)

        right' : (i : ℕ) → Dec (i ≡ n) → i < n + 1 → Defines (word w 0) (definition w i)
        right' i (yes e) l = rw e d
        right' i (no e) l = E.right i (omega arith)

        -- another definition of the variable would be in the table
        same : (i : ℕ) → definition w i / 2 ≡ definition w n / 2 → i < n + 1 → Dec (i ≡ n) → n + 1 ≡ i + 1
        same i e l (yes q) = omega arith
        same i e l (no q) = absurd (omega (arith, E.has i (omega arith), ap (λ (u : ℕ). get_or t u 0) e))

        less : (i : ℕ) → (definition w i / 2 ≡ definition w n / 2 → ⊥) → i < n + 1 → Dec (i ≡ n) → i < n
        less i k l (yes q) = absurd (k (ap (λ (x : ℕ). definition w x / 2) q))
        less i k l (no q) = omega arith

    -- a definition that is not entered is wrong or repeated
    pub entered-not : (k : ℕ) → n < k → (Defines (word w 0) (definition w n) → get_or t (definition w n / 2) 0 ≡ 0 → ⊥) → Definitions w k
        → ⊥
    entered-not k l f D =
        let filled = f (D.right n l) in
        let q = E.only v (get_or t v 0 - 1) (omega arith) in
        D.apart (get_or t v 0 - 1) n q.0 l q.1

    pub entered-right : Definitions w n
    entered-right =
        record {
          right = E.right;
          apart = λ i j h l e. omega (arith, E.has i (omega arith), E.has j l, ap (λ (u : ℕ). get_or t u 0) e);
        }

-- ---- a column is entered

module _ (w : List ℕ) (c : Column) (m base : ℕ) (t₀ : List ℕ) (D : Defining w c m base t₀) (i : ℕ) (h : i < c.n) (t : List ℕ)
    (E : Entered w (base + i) t) where
  pub define-more : (u : List ℕ) → Enters m (at w c i) (base + i + 1) t u true → Entered w (base + (i + 1)) u
  define-more u e =
      let k : base + (i + 1) ≡ base + i + 1 = omega arith in
      let x = rw (D.part i h, D.most) at e in
      rw (k, x.2) (entered-more w (base + i) t E x.0 x.1)

  pub define-not : (u : List ℕ) → Enters m (at w c i) (base + i + 1) t u false → Definitions w (total w) → ⊥
  define-not u e = entered-not w (base + i) t E (total w) (omega (arith, D.within)) (rw (D.part i h, D.most) at e)

-- ---- what the tests of a literal say of its word

signed_word : (l : Lit) {b : Bool} → l.1 ≡ b → word_of l ≡ 2 * l.0.0 + cond b 1 0
signed_word l e = ap (λ (b : Bool). 2 * l.0.0 + cond b 1 0) e

module _ (m label : ℕ) (l : Lit) (t u : List ℕ) where
  pub enters-constant : leb (word_of l) 1 ≡ true → Enters m (word_of l) label t u false
  enters-constant e = λ d z. omega (arith, leb-true (word_of l) 1 e, d.some)

  pub enters-complement : l.1 ≡ true → Enters m (word_of l) label t u false
  enters-complement e = λ d z. omega (arith, signed_word l e, d.even)

  pub enters-beyond : m < l.0.0 → Enters m (word_of l) label t u false
  enters-beyond h = λ d z. omega (arith, word-var l, d.bound)

  pub enters-again : (get_or t l.0.0 0 ≡ 0 → ⊥) → Enters m (word_of l) label t u false
  enters-again n = λ d z. n (ap (λ (v : ℕ). get_or t v 0) (sym (word-var l)) ∙ z)

pub enters-new : (m label : ℕ) (l : Lit) (t : List ℕ) (at : ℕ) → at ≡ l.0.0 → leb (word_of l) 1 ≡ false → l.1 ≡ false → l.0.0 ≤ m
    → get_or t at 0 ≡ 0 → Enters m (word_of l) label t (set t at label) true
enters-new m label l t at q a e h z =
    let v : at ≡ word_of l / 2 = q ∙ sym (word-var l) in (
      record {
        some = omega (arith, leb-false (word_of l) 1 a);
        bound = omega (arith, word-var l);
        even = omega (arith, signed_word l e);
      },
      ap (λ (x : ℕ). get_or t x 0) (sym v) ∙ z,
      ap (λ (x : ℕ). set t x label) v,
    )

pub known_constant : (t : List ℕ) (l : Lit) → leb (word_of l) 1 ≡ true → Known t (word_of l)
known_constant t l e = λ z. omega (arith, leb-true (word_of l) 1 e)

pub known-not : (t : List ℕ) (l : Lit) (at : ℕ) → at ≡ l.0.0 → leb (word_of l) 1 ≡ false → get_or t at 0 ≡ 0 → Known t (word_of l) → ⊥
known-not t l at q e z k =
    let v : at ≡ word_of l / 2 = q ∙ sym (word-var l) in
    omega (arith, leb-false (word_of l) 1 e, k (ap (λ (x : ℕ). get_or t x 0) (sym v) ∙ z))

pub known-there : (t : List ℕ) (l : Lit) (at : ℕ) → at ≡ l.0.0 → (get_or t at 0 ≡ 0 → ⊥) → Known t (word_of l)
known-there t l at q n = λ z. absurd (n (ap (λ (x : ℕ). get_or t x 0) (q ∙ sym (word-var l)) ∙ z))

-- ---- words that are 0

-- the word at k becomes v, which is 0
pub zeros-more : (t : List ℕ) (k v : ℕ) → ((i : ℕ) → i < k → get_or t i 0 ≡ 0) → k < length t → v ≡ 0
    → (i : ℕ) → i < k + 1 → get_or (set t k v) i 0 ≡ 0
zeros-more t k v z l e i h = ⊎_elim (λ r. r.1 ∙ e) (λ r. r.1 ∙ z i (less r.0)) (get_d_set t k v i l)
  where
    less : (i ≡ k → ⊥) → i < k
    less n = omega arith

pub zeros-all : (t : List ℕ) (n : ℕ) → length t ≡ n → ((i : ℕ) → i < length t → get_or t i 0 ≡ 0) → t ≡ replicate n 0
zeros-all t n e z = ext_get_or 0 t (replicate n 0) (e ∙ sym (length-replicate {A = ℕ} n 0)) (λ i l. z i l ∙ sym (get_d-zeros n i))

-- words that were 0 and are cleared are as they were
pub cleared-same : (old : List ℕ) {n : ℕ} {new : List ℕ} → ((v : ℕ) → get_or old v 0 ≡ 0) → n ≡ length old → new ≡ replicate n 0 → new ≡ old
cleared-same old {n} z e s = s ∙ sym (zeros-all old n (sym e) (λ i l. z i))

-- the table is a function of the definitions
pub entered-same : {w : List ℕ} {n : ℕ} {t u : List ℕ} → Entered w n t → Entered w n u → length t ≡ length u → t ≡ u
entered-same {w} {n} {t} {u} E F e = ext_get_or 0 t u e (λ v l. go v (ℕ_discrete (get_or t v 0) 0) (ℕ_discrete (get_or u v 0) 0))
  where
    -- what one table has at v, the other has
    there : {a b : List ℕ} → Entered w n a → Entered w n b → (v : ℕ) → (get_or a v 0 ≡ 0 → ⊥) → get_or a v 0 ≡ get_or b v 0
    there {a} {b} A B v f =
        let i : ℕ = get_or a v 0 - 1 in
        let q = A.only v i (omega arith) in
        omega (arith, B.has i q.0, ap (λ (x : ℕ). get_or b x 0) q.1)

    go : (v : ℕ) → Dec (get_or t v 0 ≡ 0) → Dec (get_or u v 0 ≡ 0) → get_or t v 0 ≡ get_or u v 0
    go v (yes a) (yes b) = a ∙ sym b
    go v (no a) d = there E F v a
    go v (yes a) (no b) = sym (there F E v b)
