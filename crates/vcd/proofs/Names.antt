-- The wires of a circuit by their numbers: names and literals, and that identifiers differ. Assumes nothing.
use mathlib.Core.Path.{◌≡◌, sym, ap, ◌∙◌}
use mathlib.Core.List.{List, [], ◌∷◌, ◌++◌, map}
use Prim.Native.Nat.{ℕ, ◌+◌, ◌-◌, ◌≤◌, ◌<◌}
use native.Mathlib.Omega.{arith}
use lib.ListN.{length, get_or, get_or-append}
use lib.Seq.{get_or-append-add}
use Rattle.aiger.specs.Lists.{upto}
use Rattle.roundtrip.proofs.Lists.{upto-length, upto-get}
use Rattle.vcd.specs.declared.Name.{Name}
use Rattle.vcd.specs.Text.{identifier}
use Rattle.vcd.specs.Wires.{name_of, section, names}

-- past the first of two lists, which has n elements
pub get_d_past : {A : Type 0} (xs ys : List A) (n k : ℕ) (d : A) → length xs ≡ n → n ≤ k → get_or (xs ++ ys) k d ≡ get_or ys (k - n) d
get_d_past xs ys n k d e h =
    let q : k ≡ length xs + (k - n) = omega arith in
    ap (λ (x : ℕ). get_or (xs ++ ys) x d) q ∙ get_or-append-add xs ys (k - n) d

abbrev none : Name
none = name_of 0 0

module _ (kind n : ℕ) (rest : List Name) (k : ℕ) where
  first : k < n → get_or (section kind n ++ rest) k none ≡ name_of kind k
  first h =
      get_or-append (section kind n) rest none k (omega (arith, upto-length (name_of kind) n)) ∙ upto-get (name_of kind) n k none h

  past : n ≤ k → get_or (section kind n ++ rest) k none ≡ get_or rest (k - n) none
  past h = get_d_past (section kind n) rest n k none (upto-length (name_of kind) n) h

module _ (i l o b c k : ℕ) where
  pub input-name : k < i → name_of 105 k ≡ get_or (names i l o b c) k (name_of 0 0)
  unfolding names
  input-name h = sym (first 105 i (section 108 l ++ (section 111 o ++ (section 98 b ++ section 99 c))) k h)

  module _ (p : i ≤ k) where
    past-inputs : get_or (names i l o b c) k (name_of 0 0) ≡ get_or (section 108 l ++ (section 111 o ++ (section 98 b ++ section 99 c))) (k - i) none
    unfolding names
    past-inputs = past 105 i (section 108 l ++ (section 111 o ++ (section 98 b ++ section 99 c))) k p

    pub latch-name : k - i < l → name_of 108 (k - i) ≡ get_or (names i l o b c) k (name_of 0 0)
    latch-name h = sym (past-inputs ∙ first 108 l (section 111 o ++ (section 98 b ++ section 99 c)) (k - i) h)

    module _ (q : l ≤ k - i) where
      past-latches : get_or (names i l o b c) k (name_of 0 0) ≡ get_or (section 111 o ++ (section 98 b ++ section 99 c)) (k - i - l) none
      past-latches = past-inputs ∙ past 108 l (section 111 o ++ (section 98 b ++ section 99 c)) (k - i) q

      pub output-name : k - i - l < o → name_of 111 (k - i - l) ≡ get_or (names i l o b c) k (name_of 0 0)
      output-name h = sym (past-latches ∙ first 111 o (section 98 b ++ section 99 c) (k - i - l) h)

      module _ (r : o ≤ k - i - l) where
        past-outputs : get_or (names i l o b c) k (name_of 0 0) ≡ get_or (section 98 b ++ section 99 c) (k - i - l - o) none
        past-outputs = past-latches ∙ past 111 o (section 98 b ++ section 99 c) (k - i - l) r

        pub bad-name : k - i - l - o < b → name_of 98 (k - i - l - o) ≡ get_or (names i l o b c) k (name_of 0 0)
        bad-name h = sym (past-outputs ∙ first 98 b (section 99 c) (k - i - l - o) h)

        pub constraint-name : b ≤ k - i - l - o → k - i - l - o - b < c → name_of 99 (k - i - l - o - b) ≡ get_or (names i l o b c) k (name_of 0 0)
        constraint-name s h =
            sym (past-outputs ∙ past 98 b (section 99 c) (k - i - l - o) s ∙ upto-get (name_of 99) c (k - i - l - o - b) none h)

-- Clause 13.4: two wires have different identifiers
pub identifiers-differ : (j k : ℕ) → identifier j ≡ identifier k → j ≡ k
unfolding identifier
identifiers-differ j k e = omega (arith, ap (λ (w : List ℕ). get_or w 0 0) e, ap (λ (w : List ℕ). get_or w 1 0) e)
