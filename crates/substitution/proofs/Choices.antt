-- A choice is g where f is true and h where it is false, for every assignment; the state stays good and nodes are only added.
-- Assumes nothing.
use mathlib.Core.Path.{◌≡◌, refl, sym, ap, ap₂, ◌∙◌}
use mathlib.Core.Bool.{Bool, true, false, not, cond, ◌&&◌, ◌||◌}
use mathlib.Core.List.{List}
use mathlib.Core.Option.{some}
use Prim.Native.Nat.{ℕ}
use native.Mathlib.Omega.{arith}
use borrow.Author.Tests.{eqb-true}
use lib.Dec.{eqb}
use Rattle.diagrams.specs.declared.Vertex.{Vertex}
use Rattle.diagrams.specs.Words.{flip}
use Rattle.diagrams.specs.States.{State, Outcome, outcome, and_then}
use Rattle.diagrams.specs.Meaning.{Assignment, value, In, Built, Both, Either, Choice, Terms, Good, is-edge, Right}
use Rattle.diagrams.proofs.Values.{flip-in, value_not, value-false, value-true, same-either, front-more, front-in}
use Rattle.diagrams.proofs.Sound.{right-as, right-here, right-then, right-if, both-front}
use Rattle.conjunction.specs.Conjunction.{both, either}
use Rattle.substitution.specs.Substitution.{arm, whole, of_arms, choice}
use Rattle.conjunction.proofs.Sound.{both_right, either-right}

-- ---- two values

or_cases : (p q r : Bool) → ((p && q) || (not p && r)) ≡ cond p q r
or_cases true true r = refl
or_cases true false r = refl
or_cases false q true = refl
or_cases false q false = refl

then-true : (p r : Bool) → (p || r) ≡ cond p true r
then-true true r = refl
then-true false r = refl

then-false : (p r : Bool) → (not p && r) ≡ cond p false r
then-false true r = refl
then-false false r = refl

else-true : (p q : Bool) → (not p || q) ≡ cond p q true
else-true true q = refl
else-true false q = refl

else-false : (p q : Bool) → (p && q) ≡ cond p q false
else-false true q = refl
else-false false q = refl

cond-arms : (p a b c d : Bool) → (p ≡ true → a ≡ c) → (not p ≡ true → b ≡ d) → cond p a b ≡ cond p c d
cond-arms true a b c d i j = i refl
cond-arms false a b c d i j = j refl

-- ---- in one diagram

module _ {ns : List Vertex} (b : Built ns) {f g h : ℕ} (f-in : In ns f) (g-in : In ns g) (h-in : In ns h) where
  choice-of : (r : ℕ) → In ns r → ((x : Assignment) → value ns x r ≡ cond (value ns x f) (value ns x g) (value ns x h)) → Choice f g h ns r
  choice-of r i q = record { f-in = f-in; g-in = g-in; h-in = h-in; r-in = i; same = q }

  of-same : g ≡ h → Choice f g h ns g
  of-same e =
      choice-of g g-in
      (λ x. sym (same-either (value ns x f) (value ns x g)) ∙ ap (λ (y : ℕ). cond (value ns x f) (value ns x g) (value ns x y)) e)

  of-true : f ≡ 1 → Choice f g h ns g
  of-true e =
      choice-of g g-in (λ x. sym (ap (λ (y : Bool). cond y (value ns x g) (value ns x h)) (ap (value ns x) e ∙ value-true ns b x)))

  of-false : f ≡ 0 → Choice f g h ns h
  of-false e =
      choice-of h h-in (λ x. sym (ap (λ (y : Bool). cond y (value ns x g) (value ns x h)) (ap (value ns x) e ∙ value-false ns b x)))

  of-then-true : g ≡ 1 → (r : ℕ) → Either f h ns r → Choice f g h ns r
  of-then-true e r w =
      choice-of r w.r-in
      (λ x.
      w.same x ∙ then-true (value ns x f) (value ns x h)
      ∙ sym (ap (λ (y : Bool). cond (value ns x f) y (value ns x h)) (ap (value ns x) e ∙ value-true ns b x)))

  of-then-false : g ≡ 0 → (r : ℕ) → Both (flip f 1) h ns r → Choice f g h ns r
  of-then-false e r w =
      choice-of r w.r-in
      (λ x.
      w.same x ∙ ap (λ (y : Bool). y && value ns x h) (value_not ns x f) ∙ then-false (value ns x f) (value ns x h)
      ∙ sym (ap (λ (y : Bool). cond (value ns x f) y (value ns x h)) (ap (value ns x) e ∙ value-false ns b x)))

  of-else-true : h ≡ 1 → (r : ℕ) → Either (flip f 1) g ns r → Choice f g h ns r
  of-else-true e r w =
      choice-of r w.r-in
      (λ x.
      w.same x ∙ ap (λ (y : Bool). y || value ns x g) (value_not ns x f) ∙ else-true (value ns x f) (value ns x g)
      ∙ sym (ap (λ (y : Bool). cond (value ns x f) (value ns x g) y) (ap (value ns x) e ∙ value-true ns b x)))

  of-else-false : h ≡ 0 → (r : ℕ) → Both f g ns r → Choice f g h ns r
  of-else-false e r w =
      choice-of r w.r-in
      (λ x.
      w.same x ∙ else-false (value ns x f) (value ns x g)
      ∙ sym (ap (λ (y : Bool). cond (value ns x f) (value ns x g) y) (ap (value ns x) e ∙ value-false ns b x)))

  of-whole : (p q r : ℕ) → Both f g ns p → Both (flip f 1) h ns q → Either p q ns r → Choice f g h ns r
  of-whole p q r bp bq w =
      choice-of r w.r-in
      (λ x.
      w.same x
      ∙ ap₂ (λ (y z : Bool). y || z) (bp.same x) (bq.same x ∙ ap (λ (y : Bool). y && value ns x h) (value_not ns x f))
      ∙ or_cases (value ns x f) (value ns x g) (value ns x h))

-- where f is true the arm has the value of g
module _ {ns : List Vertex} (b : Built ns) (f g : ℕ) where
  arm-value : (x : Assignment) → value ns x f ≡ true → value ns x (arm f g) ≡ value ns x g
  unfolding arm
  arm-value x t = go (eqb g f) (eqb g (flip f 1)) refl refl
    where
      go : (p q : Bool) → eqb g f ≡ p → eqb g (flip f 1) ≡ q → value ns x (cond p 1 (cond q 0 g)) ≡ value ns x g
      go true q i j = value-true ns b x ∙ sym (ap (value ns x) (eqb-true g f i) ∙ t)
      go false true i j = value-false ns b x ∙ sym (ap (value ns x) (eqb-true g (flip f 1) j) ∙ value_not ns x f ∙ ap not t)
      go false false i j = refl

  arm_in : In ns g → In ns (arm f g)
  unfolding arm
  arm_in i = go (eqb g f) (eqb g (flip f 1))
    where
      go : (p q : Bool) → In ns (cond p 1 (cond q 0 g))
      go true q = omega (arith, b.some-node)
      go false true = omega (arith, b.some-node)
      go false false = i

-- the choice of the arms is that of g and h
of-arms : {ns : List Vertex} → Built ns → {f g h r : ℕ} → In ns g → In ns h → Choice f (arm f g) (arm (flip f 1) h) ns r → Choice f g h ns r
of-arms {ns} b {f} {g} {h} {r} g-in h-in w =
    choice-of b w.f-in g-in h-in r w.r-in
    (λ x.
    w.same x
    ∙ cond-arms (value ns x f) (value ns x (arm f g)) (value ns x (arm (flip f 1) h)) (value ns x g) (value ns x h) (arm-value b f g x)
    (λ t. arm-value b (flip f 1) h x (value_not ns x f ∙ t)))

-- ---- the steps

module _ (terms : Terms) (s : State) (good : Good terms s) (f g h : ℕ) (f-in : In s.nodes f) (g-in : In s.nodes g)
    (h-in : In s.nodes h) where
  whole-right : Right terms s (Choice f g h) (whole s f g h)
  unfolding whole
  whole-right =
      let o₁ = both s f g in
      let r₁ = both_right terms s good f g f-in g-in in
      let t₁ = r₁.grows in
      let c-in = flip-in s.nodes f 1 f-in in
      right-then o₁ (λ t p. and_then (both t (flip f 1) h) (λ u q. either u p q)) r₁
      (λ p bp.
      let o₂ = both o₁.state (flip f 1) h in
      let r₂ = both_right terms o₁.state r₁.good (flip f 1) h (front-in t₁ (flip f 1) c-in) (front-in t₁ h h-in) in
      let t₂ = r₂.grows in
      right-then o₂ (λ u q. either u p q) r₂
      (λ q bq.
      let r₃ = either-right terms o₂.state r₂.good p q (front-in t₂ p bp.r-in) bq.r-in in
      let t₃ = r₃.grows in
      let t = front-more t₁ (front-more t₂ t₃) in
      right-as
      (λ r w.
      of-whole r₃.good.built (front-in t f f-in) (front-in t g g-in) (front-in t h h-in) p q r
      (both-front t₃ (both-front t₂ bp)) (both-front t₃ bq) w)
      r₃))

  of_arms-right : Right terms s (Choice f g h) (of_arms s f g h)
  unfolding of_arms
  of_arms-right =
      let c-in = flip-in s.nodes f 1 f-in in
      right-if (eqb g h) _ _
      (λ e. right-here good (some g) (is-edge (of-same good.built f-in g-in h-in (eqb-true g h e))))
      (λ e₀.
      right-if (eqb g 1) _ _
      (λ e.
      let w = either-right terms s good f h f-in h-in in
      let t = w.grows in
      right-as (λ r d. of-then-true w.good.built (front-in t f f-in) (front-in t g g-in) (front-in t h h-in) (eqb-true g 1 e) r d) w)
      (λ e₁.
      right-if (eqb g 0) _ _
      (λ e.
      let w = both_right terms s good (flip f 1) h c-in h-in in
      let t = w.grows in
      right-as (λ r d. of-then-false w.good.built (front-in t f f-in) (front-in t g g-in) (front-in t h h-in) (eqb-true g 0 e) r d) w)
      (λ e₂.
      right-if (eqb h 1) _ _
      (λ e.
      let w = either-right terms s good (flip f 1) g c-in g-in in
      let t = w.grows in
      right-as (λ r d. of-else-true w.good.built (front-in t f f-in) (front-in t g g-in) (front-in t h h-in) (eqb-true h 1 e) r d) w)
      (λ e₃.
      right-if (eqb h 0) _ _
      (λ e.
      let w = both_right terms s good f g f-in g-in in
      let t = w.grows in
      right-as (λ r d. of-else-false w.good.built (front-in t f f-in) (front-in t g g-in) (front-in t h h-in) (eqb-true h 0 e) r d) w)
      (λ e₄. whole-right)))))

-- the choice has the value of g where f is true, and that of h where it is false
pub choice-right : (terms : Terms) (s : State) → Good terms s → (f g h : ℕ) → In s.nodes f → In s.nodes g → In s.nodes h
    → Right terms s (Choice f g h) (choice s f g h)
unfolding choice
choice-right terms s good f g h f-in g-in h-in =
    let b = good.built in
    right-if (eqb g h) _ _
    (λ e. right-here good (some g) (is-edge (of-same b f-in g-in h-in (eqb-true g h e))))
    (λ e₀.
    right-if (eqb f 1) _ _
    (λ e. right-here good (some g) (is-edge (of-true b f-in g-in h-in (eqb-true f 1 e))))
    (λ e₁.
    right-if (eqb f 0) _ _
    (λ e. right-here good (some h) (is-edge (of-false b f-in g-in h-in (eqb-true f 0 e))))
    (λ e₂.
    let w = of_arms-right terms s good f (arm f g) (arm (flip f 1) h) f-in (arm_in b f g g-in) (arm_in b (flip f 1) h h-in) in
    let t = w.grows in
    right-as (λ r d. of-arms w.good.built (front-in t g g-in) (front-in t h h-in) d) w)))
