-- Start places met one after the other. Assumes nothing.
use mathlib.Core.Path.{◌≡◌, refl, sym, ap, ◌∙◌, subst}
use mathlib.Core.List.{List, []}
use mathlib.Core.Option.{some}
use Prim.Native.Nat.{ℕ, zero, suc, ◌+◌, ◌-◌, ◌≤◌, ◌<◌}
use native.Mathlib.Numerals.{add-one}
use native.Mathlib.Omega.{arith}
use lib.ListN.{length}
use Rattle.machine.specs.Machine.{Machine}
use Rattle.machine.specs.Layers.{Entry, meet, started}
use Rattle.machine.proofs.Meet.{meets}
use Rattle.states.specs.declared.Table.{Table}
use Rattle.states.specs.Table.{Fits, Meets}
use Rattle.states.specs.Trace.{Holds, Leads}
use Rattle.states.proofs.Laws.{holds-met, fits-met}
use Rattle.influence.specs.Part.{Part}
use Rattle.transitions.specs.Transitions.{start_number, machine_of}

-- more start places have no fewer states
started-longer : (m : Machine) (y d : ℕ) → length (started m y) ≤ length (started m (y + d))
unfolding started
started-longer m y zero = let e : y + 0 ≡ y = omega arith in omega (arith, ap (λ (n : ℕ). length (started m n)) e)
started-longer m y (suc d) =
    let e : y + suc d ≡ suc (y + d) = omega arith in
    omega (
      arith,
      started-longer m y d,
      ap (λ (n : ℕ). length (started m n)) e,
      (meets (some (m.start (y + d))) (y + d)
          (started m (y + d))).longer,
    )

-- a table that lost a state has lost one, whatever is met after it
pub holds-lost : {rows t lo : ℕ} {tab : Table} {quota count : ℕ} {r : List ℕ} {es : List Entry} (fs : List Entry) → quota < count →
    length es ≤ length fs
    → Holds rows t lo tab quota count r es → Holds rows t lo tab quota count r fs
holds-lost fs l k h =
    record {
      quota-room = h.quota-room;
      quota-small = h.quota-small;
      count_small = h.count_small;
      counted = λ x. absurd (omega arith);
      stored = λ x. absurd (omega arith);
      placed = λ x. absurd (omega arith);
      lost = λ x. omega (arith, h.lost x);
    }

module _ (c : Part) (tab : Table) (quota : ℕ) (r₀ : List ℕ) where
  -- the first y places are met
  pub record Beginning (y met : ℕ) (r : List ℕ) : Type 0 where
    pub fits : Fits tab quota met r
    pub holds : (rows b : ℕ) → Holds rows 0 0 tab quota 0 r₀ [] → Holds rows 0 0 tab quota met r (started (machine_of c b) y)

  pub beginning-start : Fits tab quota 0 r₀ → Beginning 0 0 r₀
  unfolding started
  beginning-start f = record { fits = f; holds = λ rows b h. h }

  leads : (rows : ℕ) (r : List ℕ) (met y : ℕ) → Leads rows tab.width r 0 met 0 y y
  unfolding Leads
  leads rows r met y = refl

  pub beginning-more : {y met : ℕ} {r : List ℕ} → Beginning y met r → (s : ℕ) → s ≡ start_number c y → {met₂ : ℕ} {r₂ : List ℕ}
      → Meets tab quota met s 0 y r met₂ r₂ → Beginning (y + 1) met₂ r₂
  unfolding started machine_of
  beginning-more {y} {met} {r} k s e {met₂} {r₂} m =
      record {
        fits = fits-met k.fits m;
        holds = λ rows b h.
            subst (λ (n : ℕ). Holds rows 0 0 tab quota met₂ r₂ (started (machine_of c b) n)) (sym (add-one y))
            (subst (λ (n : ℕ). Holds rows 0 0 tab quota met₂ r₂ (meet (some n) y (started (machine_of c b) y))) e
            (holds-met (k.holds rows b h) s 0 y y (leads rows r met y) m));
      }

  -- where a state is lost, the places after it change nothing
  pub beginning-lost : {y met : ℕ} {r : List ℕ} → Beginning y met r → quota < met → (n : ℕ) → y ≤ n → Beginning n met r
  beginning-lost {y} {met} {r} k l n h =
      let e : y + (n - y) ≡ n = omega arith in
      record {
        fits = k.fits;
        holds = λ rows b z.
            holds-lost (started (machine_of c b) n) l
            (omega (arith, started-longer (machine_of c b) y (n - y), ap (λ (i : ℕ). length (started (machine_of c b) i)) e))
            (k.holds rows b z);
      }
