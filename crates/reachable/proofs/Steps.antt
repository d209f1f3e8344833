-- What the answer of a layer says of the search. Assumes nothing.
use mathlib.Core.Path.{◌≡◌, sym, ap, ◌∙◌, subst}
use mathlib.Core.List.{List}
use mathlib.Core.Option.{Option, none}
use Prim.Native.Nat.{ℕ, zero, suc, ◌+◌, ◌*◌, ◌^◌, ◌≤◌, ◌<◌}
use native.Mathlib.Numerals.{add-one}
use native.Mathlib.Omega.{arith}
use lib.ListN.{length}
use Rattle.aiger.specs.Frames.{free_starts}
use Rattle.machine.specs.Machine.{Machine}
use Rattle.machine.proofs.Meet.{meets}
use Rattle.machine.specs.Layers.{Entry, meet, started, slot_step, slot_place, slot_hit, expanded, layer_slots, least_below, hit}
use Rattle.influence.specs.Part.{Part}
use Rattle.states.specs.declared.Table.{Table}
use Rattle.states.specs.Table.{Filled}
use Rattle.states.specs.Trace.{Trace, Holds}
use Rattle.states.proofs.Places.{record-before, record-order}
use Rattle.states.proofs.Laws.{holds-filled}
use Rattle.transitions.specs.Transitions.{machine_of}
use Rattle.layers.specs.Asked.{AskedOf}
use Rattle.layers.specs.declared.Asked.{Asked}
use Rattle.layers.specs.declared.Asked.TheVariants.{Hit, Next, Full}
use Rattle.reachable.specs.declared.Limit.{Limit}
use Rattle.reachable.specs.Quota.{width, quota}
use Rattle.reachable.specs.Asking.{Regrown}
use Rattle.reachable.specs.Layers.{FoundOf}
use Rattle.reachable.specs.declared.Found.TheVariants.{At, Nowhere, Ended, Left}
use Rattle.reachable.proofs.Frames.{Rest, holds-with, rest-start, rest-full, rest_end, rest-hit, rest-lost, rest-last, rest_more}

-- no entry is lost
meet-longer : (o : Option ℕ) (y : ℕ) (es : List Entry) → length es ≤ length (meet o y es)
meet-longer o y es = (meets o y es).longer

expanded-longer : (m : Machine) (es : List Entry) (lo z : ℕ) → length es ≤ length (expanded m es lo z)
unfolding expanded
expanded-longer m es lo zero = omega arith
expanded-longer m es lo (suc z) = omega (
  arith,
  expanded-longer m es lo z,
  meet-longer (slot_step m es lo z) (slot_place m es lo z) (expanded m es lo z),
)

module _ (c : Part) (b first : ℕ) (limit : Limit) (k : ℕ) where
  -- the table holds the layer of frame t, and frames t to k are left
  pub record Standing (t lo hi : ℕ) (p : Table) (records : List ℕ) : Type 0 where
    pub entries : List Entry
    pub holds : Holds (2 ^ length c.circuit.inputs) t lo p hi hi records entries
    pub left : Rest c b first limit k t entries lo
    pub low : lo ≤ hi
    pub wide : p.width ≡ width c

  -- the start states
  pub standing-start : (n met quota₀ : ℕ) (p : Table) (records : List ℕ) → p.width ≡ width c → quota₀ ≡ quota c first limit 0 → met ≤
      quota₀ → n ≡ 2 ^ free_starts c.circuit
      → Holds (2 ^ length c.circuit.inputs) 0 0 p quota₀ met records (started (machine_of c b) n) → Standing 0 0 met p records
  standing-start n met quota₀ p records w q l e h =
      let es = started (machine_of c b) n in
      let f : es ≡ started (machine_of c b) (2 ^ free_starts c.circuit) = ap (started (machine_of c b)) e in
      let g = h.counted l in
      record {
        entries = started (machine_of c b) (2 ^ free_starts c.circuit);
        holds = subst (Holds (2 ^ length c.circuit.inputs) 0 0 p met met records) f
            (holds-with met (omega (arith, h.quota-room, record-order (p.width + 4) met quota₀ l)) (omega (arith, h.quota-small)) l
            (omega arith) h);
        left = rest-start c b first limit k (omega (arith, ap length f));
        low = omega arith;
        wide = w;
      }

  pub started-full : (n met quota₀ : ℕ) (p : Table) (records : List ℕ) → quota₀ ≡ quota c first limit 0 → quota₀ < met → n ≡ 2 ^
      free_starts c.circuit
      → Holds (2 ^ length c.circuit.inputs) 0 0 p quota₀ met records (started (machine_of c b) n) → FoundOf c b first limit k records
      (Left 0)
  unfolding FoundOf
  started-full n met quota₀ p records q l e h =
      rest-full c b first limit k (omega (arith, h.lost l, ap (λ (x : ℕ). length (started (machine_of c b) x)) e))

  pub standing-end : (t lo hi : ℕ) (p : Table) (records : List ℕ) → Standing t lo hi p records → k < t → FoundOf c b first limit k
      records Nowhere
  unfolding FoundOf
  standing-end t lo hi p records s l = rest_end c b first limit k t s.entries lo s.left l

  -- the same after the buckets are filled anew
  pub standing-filled : {t lo hi : ℕ} {p : Table} {r : List ℕ} (n : ℕ) (r' : List ℕ) → length r' ≡ length r
      → Filled (record { width = p.width; buckets = n }) hi r r' → Standing t lo hi p r
      → Standing t lo hi (record { width = p.width; buckets = n }) r'
  standing-filled n r' e f s =
      record {
        entries = s.entries;
        holds = holds-filled n r' (omega arith) e f s.holds;
        left = s.left;
        low = s.low;
        wide = s.wide;
      }

  pub standing-regrown : {t lo hi most : ℕ} {p p' : Table} {r r' : List ℕ} → length r' ≡ length r → Regrown p hi most r p' r'
      → Standing t lo hi p r → Standing t lo hi p' r'
  standing-regrown e (Regrown.same l) s = s
  standing-regrown e (Regrown.grown {r'} l f) s = standing-filled _ r' e f s

  -- the same before the layer of frame t is asked, with a quota of `most` records
  pub record Asking (t lo hi most : ℕ) (p : Table) (records : List ℕ) : Type 0 where
    pub standing : Standing t lo hi p records
    pub within : t ≤ k
    pub room : (p.width + 4) * most ≤ length records
    pub few : most ≤ 262144
    pub high : hi ≤ most
    pub is-quota : most ≡ quota c first limit t

  module _ {t lo hi most : ℕ} {p : Table} {r₀ : List ℕ} (s : Asking t lo hi most p r₀) where
    abbrev es : List Entry
    es = s.standing.entries

    abbrev rest : Rest c b first limit k t es lo
    rest = s.standing.left

    -- the table with the quota of the frame
    pub standing-holds : Holds (2 ^ length c.circuit.inputs) t lo p most hi r₀ es
    standing-holds = holds-with most s.room (omega arith) (omega arith) s.high s.standing.holds

    counted : length es ≡ hi
    counted = s.standing.holds.counted (omega arith)

    module _ (records : List ℕ) {a : Asked}
        (asked : (u : ℕ) (xs : List Entry) → Holds (2 ^ length c.circuit.inputs) u lo p most hi r₀ xs
        → AskedOf c b u lo p most records xs a) where
      pub case-hit : length records ≡ length r₀ → length c.circuit.inputs ≤ 16 → {e row : ℕ} → a ≡ Hit e row → FoundOf c b first
          limit k records (At t e row)
      unfolding AskedOf FoundOf
      case-hit same w {e} {row} q =
          let (z, f, y, tr, rl, sp, el) = subst (AskedOf c b t lo p most records es) q (asked t es standing-holds) in (
            y,
            rest-hit c b first limit k t es lo rest s.within z f ∙ ap (hit t) sp,
            subst (λ (x : ℕ). Trace (2 ^ length c.circuit.inputs) x records t e y) s.standing.wide tr,
            rl,
            s.within,
            subst (λ (x : ℕ). (x + 4) * e + (x + 4) ≤ length records) s.standing.wide
                (omega (arith, record-before (p.width + 4) e most (omega (arith, counted, s.high)), s.room)),
            w,
          )

      met-case : {met : ℕ} → a ≡ Next met → (least_below (layer_slots (machine_of c b) es lo) (slot_hit (machine_of c b) es lo) ≡ none)
          × Holds (2 ^ length c.circuit.inputs) (suc t) (length es) p most met records
          (expanded (machine_of c b) es lo (layer_slots (machine_of c b) es lo))
          × (met ≤ most)
      unfolding AskedOf
      met-case e = subst (AskedOf c b t lo p most records es) e (asked t es standing-holds)

      pub case-lost : a ≡ Full → FoundOf c b first limit k records (Left (t + 1))
      unfolding AskedOf FoundOf
      case-lost e =
          let m = subst (AskedOf c b t lo p most records es) e (asked t es standing-holds) in
          rest-lost c b first limit k t es lo rest s.within m.0 (omega (arith, m.1.lost (omega arith)))

      pub case-last : {met : ℕ} → a ≡ Next met → met ≡ hi → FoundOf c b first limit k records Ended
      unfolding FoundOf
      case-last e w =
          let m = met-case e in (
            t,
            rest-last c b first limit k t es lo rest s.within m.0 (omega (arith, m.2, m.1.counted m.2))
                (omega (arith, m.1.counted m.2, counted)),
            s.within,
          )

      pub met-few : {met : ℕ} → a ≡ Next met → met ≤ most
      met-few e = (met-case e).2

      pub case-more : {met : ℕ} → a ≡ Next met → (met ≡ hi → ⊥) → Standing (t + 1) hi met p records
      case-more {met} e w =
          let m = met-case e in
          let h = m.2 in
          let all = expanded (machine_of c b) es lo (layer_slots (machine_of c b) es lo) in
          let g : length all ≡ met = m.1.counted h in
          record {
            entries = all;
            holds = subst (λ (u : ℕ). Holds (2 ^ length c.circuit.inputs) u hi p met met records all) (sym (add-one t))
                (subst (λ (n : ℕ). Holds (2 ^ length c.circuit.inputs) (suc t) n p met met records all) counted
                (holds-with met (omega (arith, m.1.quota-room, record-order (p.width + 4) met most h)) (omega (arith, s.few)) h
                (omega arith) m.1));
            left = subst (λ (n : ℕ). Rest c b first limit k (t + 1) all n) counted
                (rest_more c b first limit k t es lo rest s.within m.0 (omega arith) (λ x. w (omega (arith, counted))));
            wide = s.standing.wide;
            low = omega (arith, counted, expanded-longer (machine_of c b) es lo (layer_slots (machine_of c b) es lo));
          }
