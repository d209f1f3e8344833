-- For which files the words needed are told: for those that load, with as many words as their circuit has in circuit memory, and for those
-- that are refused with a number above 3. Clause 12.8. Assumes nothing.
use mathlib.Core.Path.{◌≡◌, refl, sym, ap, ◌∙◌}
use mathlib.Core.Bool.{Bool, true, false, ◌&&◌}
use mathlib.Core.List.{List}
use mathlib.Core.Option.{Option, none, some}
use Prim.Native.Nat.{ℕ, ◌≤◌, ◌<◌}
use native.Mathlib.Omega.{arith}
use lib.Dec.{leb}
use lib.ListN.{length}
use Rattle.aiger.specs.Circuit.{Circuit, literals_right, used_defined, acyclic}
use Rattle.aiger.specs.File.{Header, is_binary, header, counts_right, body}
use Rattle.aiger.specs.Load.{Answer, refused, gives, test, read, sections, load, needed, ◌>>=◌, ◌>>◌}
use Rattle.roundtrip.proofs.LoadValid.{gives_same, gives-bind, sections-counted}
use Rattle.replies.proofs.Loading.{given}
use Rattle.numbering.proofs.Reading.{sections-causes}
use Rattle.load.specs.Preview.{or_zero, words_needed}

-- no number up to 3 comes
abbrev Late : {A : Type 0} → Answer A → Type 0
Late a = (n : ℕ) → n ≤ 3 → a ≡ refused n → ⊥

late-test : {A : Type 0} (k : ℕ) (b : Bool) (r : Answer A) → 3 < k → Late r → Late (test k b >> r)
late-test k true r h l n s e = l n s e
late-test k false r h l n s e = let z : k ≡ n = cc in omega arith

late-bind : {A B : Type 0} (a : Answer A) (f : A → Answer B) → Late a → ((x : A) → Late (f x)) → Late (a >>= f)
late-bind (refused k) f l r n s e = let z : k ≡ n = cc in l k (omega arith) refl
late-bind (gives x) f l r n s e = r x n s e

late-sections : (binary : Bool) (h : Header) (f : List ℕ) → Late (sections binary h f)
unfolding sections
late-sections true h f n s e = sections-causes h f n e (λ q. omega arith) (λ q. omega arith)
late-sections false h f n s e = go (body h f) n s e
  where
    go : (o : Option Circuit) → Late (read 5 o)
    go none n s e = let z : ◌≡◌ {A = ℕ} 5 n = cc in omega arith
    go (some c) n s e = given e

-- load, from number 6 on, and from number 4 on
abbrev judged : Circuit → Answer Circuit
judged c = test 6 (literals_right c) >> (test 7 (used_defined c) >> (test 8 (acyclic c) >> gives c))

abbrev rest : Bool → Header × List ℕ → Answer Circuit
rest binary h = test 4 (leb (needed h.0.M) 33032) >> (sections binary h.0 h.1 >>= judged)

late-judged : (c : Circuit) → Late (judged c)
late-judged c =
    let last = test 8 (acyclic c) >> gives c in
    late-test 6 (literals_right c) (test 7 (used_defined c) >> last) (omega arith)
    (late-test 7 (used_defined c) last (omega arith) (late-test 8 (acyclic c) (gives c) (omega arith) (λ n s e. given e)))

late-rest : (binary : Bool) (h : Header × List ℕ) → Late (rest binary h)
late-rest binary h =
    let s = sections binary h.0 h.1 in
    late-test 4 (leb (needed h.0.M) 33032) (s >>= judged) (omega arith) (late-bind s judged (late-sections binary h.0 h.1) late-judged)

-- a circuit that is accepted has the header's M
same-top : (binary : Bool) (h : Header × List ℕ) (c : Circuit) → rest binary h ≡ gives c → c.max_var ≡ h.0.M
same-top binary h c e =
    let a4 = gives-bind (test 4 (leb (needed h.0.M) 33032)) _ c e in
    let a5 = gives-bind (sections binary h.0 h.1) _ c a4.2 in
    let d = a5.0 in
    let a6 = gives-bind (test 6 (literals_right d)) _ c a5.2 in
    let a7 = gives-bind (test 7 (used_defined d)) _ c a6.2 in
    let a8 = gives-bind (test 8 (acyclic d)) _ c a7.2 in
    ap (λ (x : Circuit). x.max_var) (sym (gives_same a8.2)) ∙ (sections-counted binary h.0 h.1 d a5.1).max_var

-- load and the words needed, by the tests 1 to 3
module _ (binary : Bool) where
  abbrev answer : Bool → Option (Header × List ℕ) → Answer Circuit
  answer b o = test 1 b >> (read 2 o >>= λ h. test 3 (counts_right binary h.0) >> rest binary h)

  abbrev words : Bool → Option (Header × List ℕ) → ℕ
  words b o = or_zero (test 1 b >> read 2 o >>= λ h. test 3 (counts_right binary h.0) >> gives (needed h.0.M))

  told : (b : Bool) (o : Option (Header × List ℕ)) (n : ℕ) → answer b o ≡ refused n → 3 < n → 0 < words b o
  told false o n e h = let z : ◌≡◌ {A = ℕ} 1 n = cc in omega arith
  told true none n e h = let z : ◌≡◌ {A = ℕ} 2 n = cc in omega arith
  told true (some g) n e h = go (counts_right binary g.0) e
    where
      go : (t : Bool) → (test 3 t >> rest binary g) ≡ refused n → 0 < or_zero (test 3 t >> gives (needed g.0.M))
      go true q = omega arith
      go false q = let z : ◌≡◌ {A = ℕ} 3 n = cc in omega arith

  untold : (b : Bool) (o : Option (Header × List ℕ)) (n : ℕ) → answer b o ≡ refused n → n ≤ 3 → words b o ≡ 0
  untold false o n e h = refl
  untold true none n e h = refl
  untold true (some g) n e h = go (counts_right binary g.0) e
    where
      go : (t : Bool) → (test 3 t >> rest binary g) ≡ refused n → or_zero (test 3 t >> gives (needed g.0.M)) ≡ 0
      go true q = absurd (late-rest binary g n h q)
      go false q = refl

  loaded : (b : Bool) (o : Option (Header × List ℕ)) (c : Circuit) → answer b o ≡ gives c → words b o ≡ needed c.max_var
  loaded false o c e = absurd (given (sym e))
  loaded true none c e = absurd (given (sym e))
  loaded true (some g) c e = go (counts_right binary g.0) e
    where
      go : (t : Bool) → (test 3 t >> rest binary g) ≡ gives c → or_zero (test 3 t >> gives (needed g.0.M)) ≡ needed c.max_var
      go true q = ap needed (sym (same-top binary g c q))
      go false q = absurd (given (sym q))

-- with a number above 3 the words needed are told, with a number up to 3 they are not
pub words-told : (f : List ℕ) (n : ℕ) → load 33032 f ≡ refused n → 3 < n → 0 < words_needed f
unfolding load words_needed
words-told f n e h = told (is_binary f) (leb 1 (length f) && leb (length f) 65536) (header f) n e h

pub words-untold : (f : List ℕ) (n : ℕ) → load 33032 f ≡ refused n → n ≤ 3 → words_needed f ≡ 0
unfolding load words_needed
words-untold f n e h = untold (is_binary f) (leb 1 (length f) && leb (length f) 65536) (header f) n e h

-- of a file that loads they are those of its circuit
pub words-loaded : (f : List ℕ) (c : Circuit) → load 33032 f ≡ gives c → words_needed f ≡ needed c.max_var
unfolding load words_needed
words-loaded f c e = loaded (is_binary f) (leb 1 (length f) && leb (length f) 65536) (header f) c e
