-- An attempt with a plan, step by step: what the calls leave is what the laws of the attempt ask for. Assumes nothing.
use mathlib.Core.Path.{◌≡◌, refl, sym, ap, ◌∙◌, subst}
use mathlib.Core.Bool.{Bool, true, false, cond}
use mathlib.Core.List.{List, ◌++◌}
use Prim.Native.Nat.{ℕ, zero, suc, ◌+◌, ◌-◌, ◌*◌, ◌^◌, ◌≤◌, ◌<◌}
use native.Mathlib.Nat.{mul-le-mul_right}
use native.Mathlib.Omega.{arith}
use lib.ListN.{length, get_or, take, drop, length-append, length-drop}
use Rattle.aiger.specs.Bits.{nonzero}
use Rattle.aiger.specs.Circuit.{Circuit}
use Rattle.aiger.specs.Frames.{free_starts, free_bits, size}
use Rattle.aiger.specs.Search.{question}
use Rattle.layout.specs.Words.{word}
use Rattle.layout.specs.declared.Layout.{Layout}
use Rattle.limits.specs.Limits.{CountsOf, size_of}
use Rattle.limits.proofs.Sizes.{size_is}
use Rattle.influence.specs.Cone.{part_of}
use Rattle.diagram_rows.specs.Rows.{plan_of, plan_length}
use Rattle.state_sets.specs.declared.Shape.{Shape}
use Rattle.state_sets.specs.Shape.{Fits}
use Rattle.state_sets.specs.Sets.{Sets, Tried, sets_of, left}
use Rattle.state_sets.proofs.Room.{row_is}
use Rattle.set_stage.specs.Plans.{frees_of, base_of}
use Rattle.set_walk.specs.Walk.{Legible}
use Rattle.stages.specs.Endings.{Ending, NoneBefore}
use Rattle.set_attempt.specs.Attempt.{rows_of, table_made, blank_sets, on_table, with_table}
use Rattle.set_attempt.specs.Bits.{free_value}
use Rattle.set_attempt.specs.Fit.{Fit}
use Rattle.set_attempt.proofs.Begun.{rows_few, rows-small}
use Rattle.set_table.specs.Room.{TableRoom}
use Rattle.set_frames.specs.declared.Reached.{Reached}
use Rattle.set_frames.specs.declared.Reached.TheVariants as reached
use Rattle.set_frames.specs.Frames.{Begun, ending_of, FramesAre}
use Rattle.set_search.specs.declared.Place.{Place}
use Rattle.set_search.specs.Search.{Reaches, plan_ending, Traced, HitPut}
use Rattle.set_search.proofs.Plans.{Proper, latches-counted, inputs-counted}
use Rattle.set_search.proofs.Reached.{shape_of, table-begun, ends_so, hit-so, started, bits_are}

-- ---- sizes

pub size-grows : (c : Circuit) (t k : ℕ) → t ≤ k → size c t ≤ size c k
unfolding size
size-grows c t k l =
    let w = length c.inputs + length c.gates + length c.constraints + 1 in
    let m : (t + 1) * w ≤ (k + 1) * w = mul-le-mul_right w (omega arith) in
    omega arith

-- so many words for each unit of an earlier frame
pub size_fits : {c : Circuit} {p : Layout} → CountsOf c p → {t n : ℕ} → n ≡ size_of p t → (k room : ℕ) → t ≤ k → 16 * size c k ≤ room → 16 * n ≤ room
size_fits {c} {p} e {t} {n} q k room l h = omega (arith, q, size_is e t, size-grows c t k l)

-- the free bits of a frame by the counts of a layout
pub bits-by : {c : Circuit} {p : Layout} → CountsOf c p → (t : ℕ) → p.u + p.i * (t + 1) ≡ free_bits c t
unfolding free_bits
bits-by {c} {p} e t = λ i. e.starts i + e.inputs i * (t + 1)

-- there is a bit that is not one of the start
pub width_some : (u w t : ℕ) → u < u + w * (t + 1) → 0 < w
width_some u zero t l = absurd (omega arith)
width_some u (suc w) t l = omega arith

pub product-few : (w t : ℕ) → w ≤ 256 → t ≤ 255 → w * (t + 1) ≤ 65536
product-few w t l h = let m : w * (t + 1) ≤ 256 * (t + 1) = mul-le-mul_right (t + 1) l in omega arith

-- ---- parts of words

-- words at the front of others
pub front_length : (n : ℕ) (v work : List ℕ) → length v ≡ n → n ≤ length work → length (v ++ drop n work) ≡ length work
front_length n v work e l = omega (arith, length-append v (drop n work), length-drop n work)

pub front-room : (n : ℕ) (v work : List ℕ) → length v ≡ n → n ≤ length (v ++ drop n work)
front-room n v work e = omega (arith, length-append v (drop n work))

-- ---- an attempt

-- a shape, the variables of the free latches, the start values, and a diagram with its table
record Posed : Type 0 where
  shape : Shape
  frees : List ℕ
  base : List ℕ
  sets : Sets

module _ (c : Circuit) (b : ℕ) (given : Proper c) (plan : List ℕ) (fit : Fit (part_of c b) plan) where
  pub vars-few : word plan 0 ≤ 112
  vars-few = omega (arith, latches-counted plan fit.whole, fit.vars)

  pub inputs-few : word plan 1 ≤ 4
  inputs-few = omega (arith, inputs-counted plan fit.whole, fit.few)

  rows_are : rows_of plan ≡ 2 ^ word plan 1
  rows_are = ap (λ (n : ℕ). 2 ^ n) (inputs-counted plan fit.whole)

  -- there is room for the table
  pub table-room : TableRoom plan 2083
  table-room =
      record {
        whole = fit.whole;
        vars = omega (arith, vars-few);
        inputs = inputs-few;
        room =
            omega (
              arith,
              row_is (word plan 0) (2 ^ word plan 1),
              rows-small (word plan 0) (2 ^ word plan 1) vars-few (subst (λ (n : ℕ). n ≤ 16) rows_are (rows_few (part_of c b) plan fit)),
            );
      }

  pub shape-fits : (s : Shape) (n : ℕ) → s.vars ≡ word plan 0 → s.rows ≡ 2 ^ word plan 1 → n ≡ 2083 → Fits s n
  shape-fits s n e f l =
      record {
        vars = omega (arith, vars-few);
        rows = omega (arith, subst (λ (n : ℕ). n ≤ 16) rows_are (rows_few (part_of c b) plan fit));
        room = let r = table-room.room in subst (λ (x : ℕ). x ≤ n) (λ i. 259 + sym f i * (sym e i + 2)) (omega arith);
      }

  module _ (share first k : ℕ) (large : 1024 ≤ size c first) (before : NoneBefore (question c b) first) (words : ℕ) (words_are : words ≡ 16 * size c first)
      (w table : List ℕ) (done : Bool) (made : left w table done ≡ table_made c b plan (blank_sets words share)) where
    made-is : left w table done ≡ table_made c b plan (blank_sets (16 * size c first) share)
    made-is = made ∙ ap (λ (n : ℕ). table_made c b plan (blank_sets n share)) words_are

    -- the table was not made
    pub not_made : done ≡ false → plan_ending c b share first (k + 1) plan ≡ Ending.gave_up 0
    not_made e = ap (with_table c b plan first (k + 1)) (sym made-is) ∙ ap (λ (d : Bool). on_table c b plan first (k + 1) d (sets_of w table)) e

    enough : 16 ≤ 16 * size c first
    enough = omega arith

    module _ (yes : done ≡ true) (s : Shape) (s-vars : s.vars ≡ word plan 0) (s-rows : s.rows ≡ 2 ^ word plan 1) (frees base w' : List ℕ)
        (frees-are : frees ≡ frees_of c (plan_of plan).latches) (base-are : base ≡ base_of c (plan_of plan).latches) (same : w' ≡ w) where
      done-is : (table_made c b plan (blank_sets (16 * size c first) share)).done ≡ true
      done-is = sym (ap (λ (o : Tried). o.done) made-is) ∙ yes

      shape_is : s ≡ shape_of c b given.right given.no-cycle plan fit
      shape_is =
          λ i. record { vars = (s-vars ∙ sym (latches-counted plan fit.whole)) i; rows = (s-rows ∙ sym rows_are) i }

      sets-are : sets_of w' table ≡ (table_made c b plan (blank_sets (16 * size c first) share)).sets
      sets-are = ap (λ (x : List ℕ). sets_of x table) same ∙ ap (λ (o : Tried). o.sets) made-is

      posed : ◌≡◌ {A = Posed} (record { shape = s; frees = frees; base = base; sets = sets_of w' table })
          (record { shape = shape_of c b given.right given.no-cycle plan fit; frees = frees_of c (plan_of plan).latches; base = base_of c (plan_of plan).latches; sets = (table_made c b plan (blank_sets (16 * size c first) share)).sets })
      posed = λ i. record { shape = shape_is i; frees = frees-are i; base = base-are i; sets = sets-are i }

      -- the frames can begin
      pub begins : Begun s frees base (sets_of w' table)
      begins =
          subst (λ (p : Posed). Begun p.shape p.frees p.base p.sets) (sym posed)
          (table-begun c b given.right given.no-cycle plan fit (16 * size c first) share enough done-is)

      module _ (v table' bits : List ℕ) (r : Reached) (ran : FramesAre s frees base first (k + 1) (sets_of w' table) v table' bits r) where
        ran-is : FramesAre (shape_of c b given.right given.no-cycle plan fit) (frees_of c (plan_of plan).latches) (base_of c (plan_of plan).latches) first (k + 1)
            (table_made c b plan (blank_sets (16 * size c first) share)).sets v table' bits r
        ran-is = subst (λ (p : Posed). FramesAre p.shape p.frees p.base first (k + 1) p.sets v table' bits r) posed ran

        -- an attempt that ends otherwise than with a hit
        pub ends_as : {x : Reached} → r ≡ x → plan_ending c b share first (k + 1) plan ≡ ending_of (question c b) x
        ends_as {x} e =
            ends_so c b given.right given.no-cycle plan fit (16 * size c first) share enough done-is first k before v table' bits r ran-is
            ∙ ap (ending_of (question c b)) e

        module _ {t : ℕ} (e : r ≡ reached.Hit t) where
          pub hit-within : t ≤ k
          hit-within = let l = (ran.hit t e).0 in omega arith

          pub hit-legible : (x : List ℕ) → x ≡ v → Legible x table'
          hit-legible x q =
              let g = (started c b given.right given.no-cycle plan fit (16 * size c first) share enough done-is first k before v table' bits r ran-is t e
              ).setting.held.tabled in
              subst (λ (y : List ℕ). Legible y table') (sym q) (record { built = g.good.built; edges = g.edges })

          -- the free bits of the first hit stand in working memory
          pub hit-put-so : (p : Place) (work after : List ℕ) → p.s ≡ s → p.t ≡ t → p.width ≡ length c.inputs → p.count ≡ free_bits c t
              → take p.words work ≡ v → HitPut p plan table' frees bits work after
              → Reaches c k (plan_ending c b share first (k + 1) plan) after (reached.Hit t)
          hit-put-so p work after es et ew en ev h =
              hit-so c b given.right given.no-cycle plan fit (16 * size c first) share enough done-is first k before v table' bits r ran-is t e
              h.trace after traced put
            where
              traced : Traced (shape_of c b given.right given.no-cycle plan fit) t v table' bits h.trace
              traced =
                  subst (λ (y : Shape). Traced y t v table' bits h.trace) (es ∙ shape_is)
                  (subst (λ (u : ℕ). Traced p.s u v table' bits h.trace) et
                  (subst (λ (y : List ℕ). Traced p.s p.t y table' bits h.trace) ev h.traced))

              put : (j : ℕ) → j < free_bits c t
                  → nonzero (get_or after j 0) ≡ free_value (frees_of c (plan_of plan).latches) bits (plan_of plan).inputs h.trace (length c.inputs) j
              put j l =
                  h.put j (subst (λ (n : ℕ). j < n) (sym en) l)
                  ∙ (λ i. free_value (frees-are i) bits (plan_of plan).inputs h.trace (ew i) j)
