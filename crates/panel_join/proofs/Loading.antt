-- A file loaded into a memory of 33,032 words. Assumes nothing.
use mathlib.Core.Path.{◌≡◌, refl, sym, ◌∙◌, subst}
use mathlib.Core.Bool.{Bool, true, false}
use mathlib.Core.List.{List, [], ◌∷◌}
use Prim.Native.Nat.{ℕ}
use native.Mathlib.Omega.{arith}
use borrow.Author.Tests.{leb-true, leb-false}
use lib.Dec.{leb}
use lib.ListN.{length}
use Rattle.aiger.specs.Circuit.{Circuit}
use Rattle.aiger.specs.Load.{Answer, refused, gives, load}
use Rattle.aiger.specs.Memory.{Holds}
use Rattle.aiger.specs.Operations.{Loaded, judge}
use Rattle.roundtrip.proofs.Holding.{loaded-holds}
use Rattle.call_forms.specs.Table.{load_row}
use Rattle.call_forms.specs.Forms.{Tested, ForUser, UserLoaded, shared_after, user_test}
use Rattle.call_forms.proofs.Tests.{judged-known, judged-stranger}
use Rattle.panel_join.specs.Joins.{FilesJoined}

-- a circuit that is accepted is held
pub record Accepted (f m : List ℕ) : Type 0 where
  pub circuit : Circuit
  pub loads : load 33032 f ≡ gives circuit
  pub holds : Holds m circuit

module _ {m f : List ℕ} (room : length m ≡ 33032) where
  pub load-refused : {n : ℕ} {a : Answer (List ℕ)} {m' : List ℕ} → a ≡ refused n → Loaded m f a m' → load 33032 f ≡ refused n
  load-refused {n} e (Loaded.refuses {n = k} l) = let z : k ≡ n = cc in rw (room, z) at l
  load-refused e (Loaded.stores c l) = let z : ◌≡◌ {A = ℕ} 0 1 = cc in absurd (omega arith)

  pub load-accepted : {k : List ℕ} {a : Answer (List ℕ)} {m' : List ℕ} → a ≡ gives k → Loaded m f a m' → Accepted f m'
  load-accepted e (Loaded.refuses l) = let z : ◌≡◌ {A = ℕ} 0 1 = cc in absurd (omega arith)
  load-accepted e (Loaded.stores c l) = record { circuit = c; loads = rw room at l; holds = loaded-holds m f l }

-- the user who may is user 0
first-user : (user : ℕ) → judge (user_test load_row user ∷ []) ≡ gives tt → user ≡ 0
first-user user j = go (leb user 0) refl
  where
    go : (b : Bool) → leb user 0 ≡ b → user ≡ 0
    go true l = omega (arith, leb-true user 0 l)
    go false l = let z = sym (judged-stranger load_row user [] l) ∙ j in let y : ◌≡◌ {A = ℕ} 0 1 = cc in absurd (omega arith)

-- ---- a load by a user who may, or may not

-- what is answered, and what is left of the memory and of what is shared
abbrev loading : List ℕ → List ℕ → List ℕ → Answer (List ℕ) → List ℕ × List ℕ → Type 0
loading m f shared a left = Loaded m f a left.0 × (left.1 ≡ shared_after a shared)

module _ {m f shared : List ℕ} (user : ℕ) (room : length m ≡ 33032) where
  told : {n : ℕ} (new joined pins : List ℕ) (a : Answer (List ℕ)) (s : List ℕ × List ℕ) → a ≡ refused n
      → ForUser {S = List ℕ × List ℕ} load_row user (m, shared) (loading m f shared) a s → FilesJoined f new joined pins user (refused n) joined pins
  told {n} new joined pins a s e (Tested.refuses {n = k} j) = go (leb user 0) refl
    where
      go : (b : Bool) → leb user 0 ≡ b → FilesJoined f new joined pins user (refused n) joined pins
      go true l = let z = sym (judged-known load_row user l) ∙ j in let y : ◌≡◌ {A = ℕ} 0 1 = cc in absurd (omega arith)
      go false l =
          let z = sym (judged-stranger load_row user [] l) ∙ j in
          let y : n ≡ 18 = cc in
          subst (λ (i : ℕ). FilesJoined f new joined pins user (refused i) joined pins) (sym y) (FilesJoined.stranger (leb-false user 0 l))
  told new joined pins a s e (Tested.passes j p) = FilesJoined.refuses (first-user user j) (load-refused room e p.0)

  accepted : {k : List ℕ} (a : Answer (List ℕ)) (s : List ℕ × List ℕ) → a ≡ gives k
      → ForUser {S = List ℕ × List ℕ} load_row user (m, shared) (loading m f shared) a s → (user ≡ 0) × Accepted f s.0
  accepted a s e (Tested.refuses j) = let z : ◌≡◌ {A = ℕ} 0 1 = cc in absurd (omega arith)
  accepted a s e (Tested.passes j p) = (first-user user j, load-accepted room e p.0)

  module _ {m' shared' : List ℕ} {a : Answer (List ℕ)} where
    pub load_told : {n : ℕ} {new joined pins : List ℕ} → a ≡ refused n → UserLoaded m f shared user a m' shared'
        → FilesJoined f new joined pins user (refused n) joined pins
    load_told {new = new} {joined = joined} {pins = pins} e x = told new joined pins a (m', shared') e x

    pub load-joins : {k : List ℕ} → a ≡ gives k → UserLoaded m f shared user a m' shared' → (user ≡ 0) × Accepted f m'
    load-joins e x = accepted a (m', shared') e x
