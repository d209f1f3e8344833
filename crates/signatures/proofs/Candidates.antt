-- Laws of the list of candidates: one more, and those that pass. Assumes nothing.
use mathlib.Core.Path.{◌≡◌, refl, sym, ap, ◌∙◌, subst}
use mathlib.Core.Bool.{Bool, true, false, not}
use mathlib.Core.List.{List}
use mathlib.Core.Logic.{◌⊎◌, inl, inr}
use Prim.Native.Nat.{ℕ, ◌+◌, ◌*◌, ◌≤◌, ◌<◌}
use native.Mathlib.Nat.{eq-or-lt_of_le}
use native.Mathlib.Omega.{arith}
use lib.ListN.{length, get_or, set}
use lib.Seq.{get_or-set_same, get_or-set_other}
use Rattle.aiger.specs.Bits.{bit}
use Rattle.aiger.specs.Circuit.{var}
use Rattle.aiger.specs.Frames.{value}
use Rattle.aiger.specs.Signature.{FirstDifference}
use Rattle.meaning.proofs.Values.{value-eq}
use Rattle.nodes.specs.Store.{field}
use Rattle.signatures.specs.Words.{word_at, Kept, simulation_word, search_word}
use Rattle.signatures.specs.Twin.{HasWord, Listed, Candidates, Pushed, Sifted}
use Rattle.signatures.proofs.Words.{word_same, test-apart, kept_trans, kept-simulated}

pub listed-first : (work : List ℕ) (count : ℕ) → 0 < count → Listed work count (field work 0 11)
listed-first work count h = (0, h, refl)

pub listed-none : (work : List ℕ) (count e : ℕ) → count ≡ 0 → Listed work count e → ⊥
listed-none work count e z l = omega (arith, l.1)

-- ---- one more

pub pushed_none : {work : List ℕ} {count : ℕ} {New : ℕ → Type 0} → ((e : ℕ) → New e → ⊥) → Pushed work work count New count
pushed_none h =
    record {
      most = omega arith;
      listed = λ e l. inl l;
      before = λ e l. l;
      new = λ e n. absurd (h e n);
      others = λ i a. refl;
    }

module _ (work : List ℕ) (count e : ℕ) {New : ℕ → Type 0} (within : 16 * count + 11 < length work)
    (only : (d : ℕ) → New d → d ≡ e) (named : (d : ℕ) → d ≡ e → New d) where
  abbrev last : List ℕ
  last = set work (16 * count + 11) e

  other : (i : ℕ) → (i ≡ 16 * count + 11 → ⊥) → get_or last i 0 ≡ get_or work i 0
  other i a = get_or-set_other work (16 * count + 11) i e 0 a

  here : field last count 11 ≡ e
  here = get_or-set_same work (16 * count + 11) e 0 within

  pub pushed-one : Pushed work last count New (count + 1)
  pushed-one =
      record {
        most = omega arith;
        listed = λ d l. at d l.0 l.2 (eq-or-lt_of_le (omega (arith, l.1)));
        before = λ d l. (l.0, omega (arith, l.1), other (16 * l.0 + 11) (λ z. omega (arith, l.1)) ∙ l.2);
        new = λ d m. (count, omega arith, here ∙ sym (only d m));
        others = other;
      }
    where
      at : (d i : ℕ) → field last i 11 ≡ d → (i ≡ count) ⊎ (i < count) → Listed work count d ⊎ New d
      at d i q (inl z) = inr (named d (sym q ∙ ap (λ (j : ℕ). field last j 11) z ∙ here))
      at d i q (inr h) = inl (i, h, sym (other (16 * i + 11) (λ z. omega arith)) ∙ q)

pub pushed-kept : {work last : List ℕ} {count : ℕ} {New : ℕ → Type 0} {r : ℕ} → Pushed work last count New r → Kept search_word work last
pushed-kept p j f h t =
    let a : f ≡ 11 → ⊥ = test-apart search_word f 11 t refl in
    p.others (16 * j + f) (omega arith)

-- ---- one more, if its simulation word is w

not_same : (a b : Bool) → a ≡ not b → a ≡ b → ⊥
not_same true true p q = let z : ◌≡◌ {A = ℕ} 0 1 = cc in omega arith
not_same true false p q = let z : ◌≡◌ {A = ℕ} 0 1 = cc in omega arith
not_same false true p q = let z : ◌≡◌ {A = ℕ} 0 1 = cc in omega arith
not_same false false p q = let z : ◌≡◌ {A = ℕ} 0 1 = cc in omega arith

abbrev Same : List ℕ → ℕ → ℕ → ℕ → Type 0
Same work e w d = (d ≡ e) × HasWord work 8 w d

module _ (work : List ℕ) (left e : ℕ) {w x r : ℕ} (has : HasWord work 8 x e) (d : FirstDifference 64 x w r) where
  pub keep-none : r < 64 → Pushed work work left (Same work e w) left
  keep-none h =
      pushed_none
      (λ f s. not_same (bit x r) (bit w r) (d.here h)
      (has r h ∙ ap (λ (g : ℕ). value (λ k. bit (word_at work k 8) r) g) (sym s.0) ∙ sym (s.1 r h)))

  pub keep_one : 64 ≤ r → 16 * left + 11 < length work → {v : ℕ} → v ≡ e
      → Pushed work (set work (16 * left + 11) v) left (Same work e w) (left + 1)
  keep_one h within {v} z =
      pushed-one work left v within (λ f s. s.0 ∙ sym z)
      (λ f q. (
        q ∙ z,
        λ p l. sym (d.below p (omega arith)) ∙ has p l ∙ ap (λ (g : ℕ). value (λ k. bit (word_at work k 8) p) g) (sym (q ∙ z)),
      ))

-- the same edge by an equal word
pub same-as : {work last : List ℕ} {count r e f : ℕ} (w : ℕ) → e ≡ f → Pushed work last count (Same work e w) r → Pushed work last count (Same work f w) r
same-as {work} {last} {count} {r} w q p = subst (λ (x : ℕ). Pushed work last count (Same work x w) r) q p

-- ---- those that pass

module _ {work last : List ℕ} {P Q : ℕ → Type 0} {count left : ℕ} (s : Sifted work last P count left) where
  -- another way to say what passes
  pub sifted-as : ((e : ℕ) → Listed last left e → P e → Q e) → ((e : ℕ) → Q e → P e) → Sifted work last Q count left
  sifted-as there back =
      record {
        fewer = s.fewer;
        listed = λ e l. let p = s.listed e l in (p.0, there e l p.1);
        all = λ e l q. s.all e l (back e q);
        kept = s.kept;
      }

pub sifted-all : {work : List ℕ} {P : ℕ → Type 0} {count : ℕ} → ((e : ℕ) → P e) → Sifted work work P count count
sifted-all h =
    record { fewer = omega arith; listed = λ e l. (l, h e); all = λ e l p. l; kept = λ k f l t. refl }

-- a simulation changes no candidate
pub sifted-simulated : {work last : List ℕ} {count m : ℕ} → Candidates work count m → Kept simulation_word work last
    → Sifted work last (λ e. var e < m) count count
sifted-simulated {work} {last} {count} c k =
    let there : (e : ℕ) → Listed last count e → Listed work count e =
    λ e l. (l.0, l.1, sym (k l.0 11 (omega arith) refl) ∙ l.2) in
    record {
      fewer = omega arith;
      listed = λ e l. (there e l, c.nodes e (there e l));
      all = λ e l p. (l.0, l.1, k l.0 11 (omega arith) refl ∙ l.2);
      kept = kept-simulated work last k;
    }

-- what passes P and then Q passes R
pub sifted-both : {work now last : List ℕ} {P Q R : ℕ → Type 0} {count mid left : ℕ}
    → Sifted work now P count mid → Sifted now last Q mid left → ((e : ℕ) → P e → Q e → R e)
    → ((e : ℕ) → Listed work count e → R e → P e) → ((e : ℕ) → P e → R e → Q e) → Sifted work last R count left
sifted-both {work} {now} {last} s t r p q =
    record {
      fewer = let a = s.fewer in let b = t.fewer in omega arith;
      listed = λ e l.
          let y = t.listed e l in
          let x = s.listed e y.0 in
          (x.0, r e x.1 y.1);
      all = λ e l h. let x = p e l h in t.all e (s.all e l x) (q e x h);
      kept = kept_trans search_word work now last s.kept t.kept;
    }

pub candidates-sifted : {work last : List ℕ} {P : ℕ → Type 0} {count left m : ℕ}
    → Sifted work last P count left → Candidates work count m → Candidates last left m
candidates-sifted s c =
    record {
      few = let a = s.fewer in let b = c.few in omega arith;
      nodes = λ e l. c.nodes e (s.listed e l).0;
    }

pub candidates-more : {work : List ℕ} {count m n : ℕ} → m ≤ n → Candidates work count m → Candidates work count n
candidates-more h c =
    record { few = let a = c.few in omega arith; nodes = λ e l. let a = c.nodes e l in omega arith }

-- ---- in place

-- of the first i candidates those whose simulation word is w are left; the others are as they were
pub record SiftedUpto (work now : List ℕ) (w i left : ℕ) : Type 0 where
  pub sifted : Sifted work now (HasWord work 8 w) i left
  pub rest : (j : ℕ) → i ≤ j → field now j 11 ≡ field work j 11
  pub words : (k : ℕ) → word_at now k 8 ≡ word_at work k 8

pub upto-none : (work : List ℕ) (w : ℕ) → SiftedUpto work work w 0 0
upto-none work w =
    record {
      sifted =
          record {
            fewer = omega arith;
            listed = λ e l. absurd (listed-none work 0 e refl l);
            all = λ e l p. l;
            kept = λ k f h t. refl;
          };
      rest = λ j h. refl;
      words = λ k. refl;
    }

word_moved : (work now : List ℕ) → ((k : ℕ) → word_at now k 8 ≡ word_at work k 8) → (w e : ℕ) → HasWord work 8 w e → HasWord now 8 w e
word_moved work now s w e h p l =
    h p l ∙ value-eq (λ k. bit (word_at work k 8) p) (λ k. bit (word_at now k 8) p) e (ap (λ (x : ℕ). bit x p) (sym (s (var e))))

module _ {work now last : List ℕ} {w i left r : ℕ} (u : SiftedUpto work now w i left)
    (pushed : Pushed now last left (λ d. (d ≡ field now i 11) × HasWord now 8 w d) r) where
  read : field now i 11 ≡ field work i 11
  read = u.rest i (omega arith)

  below : left ≤ i
  below = u.sifted.fewer

  listed : (e : ℕ) → Listed now left e ⊎ ((e ≡ field now i 11) × HasWord now 8 w e) → Listed work (i + 1) e × HasWord work 8 w e
  listed e (inl l) = let x = u.sifted.listed e l in ((x.0.0, omega (arith, x.0.1), x.0.2), x.1)
  listed e (inr n) = ((i, omega arith, sym (n.0 ∙ read)), word_moved now work (λ k. sym (u.words k)) w e n.1)

  all : (e j : ℕ) → field work j 11 ≡ e → HasWord work 8 w e → (j ≡ i) ⊎ (j < i) → Listed last r e
  all e j q p (inl z) =
      pushed.new e (sym q ∙ ap (λ (k : ℕ). field work k 11) z ∙ sym read, word_moved work now u.words w e p)
  all e j q p (inr h) = pushed.before e (u.sifted.all e (j, h, q) p)

  pub upto-more : SiftedUpto work last w (i + 1) r
  upto-more =
      let b = below in
      let k = pushed-kept pushed in
      record {
        sifted =
            record {
              fewer = omega (arith, pushed.most);
              listed = λ e l. listed e (pushed.listed e l);
              all = λ e l p. all e l.0 l.2 p (eq-or-lt_of_le (omega (arith, l.1)));
              kept = kept_trans search_word work now last u.sifted.kept k;
            };
        rest = λ j h. pushed.others (16 * j + 11) (λ z. omega arith) ∙ u.rest j (omega arith);
        words = λ m.
            word_same now last m 8 (pushed.others (16 * m + 8) (λ z. omega arith)) (pushed.others (16 * m + 9) (λ z. omega arith))
            ∙ u.words m;
      }
