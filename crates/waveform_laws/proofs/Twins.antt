-- Two completions of a text: where one is read as a run, so is the other. Assumes nothing.
use mathlib.Core.Path.{◌≡◌, refl, sym, ap, ◌∙◌, subst}
use mathlib.Core.Bool.{Bool, true, false, cond, ◌||◌, ◌&&◌}
use mathlib.Core.List.{List, [], ◌∷◌}
use mathlib.Core.Logic.{◌⊎◌, inl, inr}
use mathlib.Core.Option.{Option, none, some}
use Prim.Native.Nat.{ℕ, zero, suc, ◌/◌}
use native.Mathlib.Omega.{arith}
use lib.Dec.{eqb, leb, ltb}
use lib.ListN.{length}
use Rattle.aiger.specs.Bits.{odd}
use Rattle.aiger.specs.Lists.{same}
use Rattle.aiger.specs.Text.{bytes, when, ◌>>=◌, ◌>>◌}
use Rattle.aiger.specs.Circuit.{Circuit}
use Rattle.aiger.specs.Witness.{Witness, bits, bit_rows, read_run}
use Rattle.completions.specs.Either.{is_either, completion}
use Rattle.completions.specs.Forms.{Bit}

-- two bytes that are the same or both bits
abbrev Twin : ℕ → ℕ → Type 0
Twin c d = (c ≡ d) ⊎ (Bit c × Bit d)

abbrev Twins : List ℕ → List ℕ → Type 0
Twins [] [] = Unit {0}
Twins [] (d ∷ u) = ⊥
Twins (c ∷ w) [] = ⊥
Twins (c ∷ w) (d ∷ u) = Twin c d × Twins w u

digit-bit : (b : Bool) → Bit (cond b 49 48)
digit-bit true = inr refl
digit-bit false = inl refl

pub completions-twins : (v v' : ℕ) (w : List ℕ) → Twins (completion v w) (completion v' w)
unfolding completion
completions-twins v v' [] = tt
completions-twins v v' (c ∷ w) = go (is_either c) (λ (x y : ℕ). completions-twins x y w)
  where
    go : (b : Bool) → ((x y : ℕ) → Twins (completion x w) (completion y w))
        → Twins (cond b (cond (odd v) 49 48) c ∷ completion (cond b (v / 2) v) w)
        (cond b (cond (odd v') 49 48) c ∷ completion (cond b (v' / 2) v') w)
    go true k = (inr (digit-bit (odd v), digit-bit (odd v')), k (v / 2) (v' / 2))
    go false k = (inl refl, k v v')

-- ---- tests that twins pass both or neither

twin-bit : (c d : ℕ) → Twin c d → (eqb c 48 || eqb c 49) ≡ (eqb d 48 || eqb d 49)
twin-bit c d (inl e) = rw e
twin-bit c d (inr (inl e, inl f)) = rw (e, f)
twin-bit c d (inr (inl e, inr f)) = rw (e, f)
twin-bit c d (inr (inr e, inl f)) = rw (e, f)
twin-bit c d (inr (inr e, inr f)) = rw (e, f)

twin-feed : (c d : ℕ) → Twin c d → eqb c 10 ≡ eqb d 10
twin-feed c d (inl e) = rw e
twin-feed c d (inr (inl e, inl f)) = rw (e, f)
twin-feed c d (inr (inl e, inr f)) = rw (e, f)
twin-feed c d (inr (inr e, inl f)) = rw (e, f)
twin-feed c d (inr (inr e, inr f)) = rw (e, f)

twin-dot : (c d : ℕ) → Twin c d → eqb c 46 ≡ eqb d 46
twin-dot c d (inl e) = rw e
twin-dot c d (inr (inl e, inl f)) = rw (e, f)
twin-dot c d (inr (inl e, inr f)) = rw (e, f)
twin-dot c d (inr (inr e, inl f)) = rw (e, f)
twin-dot c d (inr (inr e, inr f)) = rw (e, f)

twins-end : (w u : List ℕ) → Twins w u → same w (bytes ".\n") ≡ same u (bytes ".\n")
twins-end [] [] t = refl
twins-end (c ∷ []) (d ∷ []) (t, _) = rw (twin-dot c d t)
twins-end (c ∷ e ∷ []) (d ∷ f ∷ []) (t, (s, _)) = rw (twin-dot c d t, twin-feed e f s)
twins-end (c ∷ e ∷ x ∷ w) (d ∷ f ∷ y ∷ u) (t, (s, _)) = rw (twin-dot c d t, twin-feed e f s)
twins-end [] (d ∷ u) t = absurd t
twins-end (c ∷ w) [] t = absurd t
twins-end (c ∷ []) (d ∷ f ∷ u) (t, s) = absurd s
twins-end (c ∷ e ∷ w) (d ∷ []) (t, s) = absurd s
twins-end (c ∷ e ∷ []) (d ∷ f ∷ y ∷ u) (t, (s, r)) = absurd r
twins-end (c ∷ e ∷ x ∷ w) (d ∷ f ∷ []) (t, (s, r)) = absurd r

-- ---- both are read, or neither

abbrev Lines : Option (List Bool × List ℕ) → Option (List Bool × List ℕ) → Type 0
Lines none none = Unit {0}
Lines none (some s) = ⊥
Lines (some r) none = ⊥
Lines (some r) (some s) = Twins r.1 s.1

bits-twins : (n : ℕ) (w u : List ℕ) → Twins w u → Lines (bits n w) (bits n u)
unfolding bits
bits-twins n [] [] t = tt
bits-twins n [] (d ∷ u) t = absurd t
bits-twins n (c ∷ w) [] t = absurd t
bits-twins zero (c ∷ w) (d ∷ u) (t, s) = go (eqb c 10) (eqb d 10) (twin-feed c d t)
  where
    go : (p q : Bool) → p ≡ q → Lines (when p >> some ([], w)) (when q >> some ([], u))
    go true true e = s
    go true false e = let z : ◌≡◌ {A = ℕ} 0 1 = cc in absurd (omega arith)
    go false true e = let z : ◌≡◌ {A = ℕ} 0 1 = cc in absurd (omega arith)
    go false false e = tt
bits-twins (suc n) (c ∷ w) (d ∷ u) (t, s) =
    go (eqb c 48 || eqb c 49) (eqb d 48 || eqb d 49) (twin-bit c d t) (bits n w) (bits n u) (bits-twins n w u s)
  where
    go : (p q : Bool) → p ≡ q → (o o' : Option (List Bool × List ℕ)) → Lines o o'
        → Lines (when p >> (o >>= λ r. some (eqb c 49 ∷ r.0, r.1))) (when q >> (o' >>= λ r. some (eqb d 49 ∷ r.0, r.1)))
    go true true e none none h = tt
    go true true e none (some y) h = absurd h
    go true true e (some x) none h = absurd h
    go true true e (some x) (some y) h = h
    go true false e o o' h = let z : ◌≡◌ {A = ℕ} 0 1 = cc in absurd (omega arith)
    go false true e o o' h = let z : ◌≡◌ {A = ℕ} 0 1 = cc in absurd (omega arith)
    go false false e o o' h = tt

abbrev Rows : Option (List (List Bool)) → Option (List (List Bool)) → Type 0
Rows none none = Unit {0}
Rows none (some s) = ⊥
Rows (some r) none = ⊥
Rows (some r) (some s) = length r ≡ length s

row_more : (v v' : List Bool) (o o' : Option (List (List Bool))) → Rows o o' → Rows (o >>= λ rs. some (v ∷ rs))
    (o' >>= λ rs. some (v' ∷ rs))
row_more v v' none none h = tt
row_more v v' none (some y) h = absurd h
row_more v v' (some x) none h = absurd h
row_more v v' (some x) (some y) h = ap suc h

rows-twins : (n most : ℕ) (w u : List ℕ) → Twins w u → Rows (bit_rows n most w) (bit_rows n most u)
unfolding bit_rows
rows-twins n zero w u t = go (same w (bytes ".\n")) (same u (bytes ".\n")) (twins-end w u t)
  where
    go : (p q : Bool) → p ≡ q → Rows (when p >> some []) (when q >> some [])
    go true true e = refl
    go true false e = let z : ◌≡◌ {A = ℕ} 0 1 = cc in absurd (omega arith)
    go false true e = let z : ◌≡◌ {A = ℕ} 0 1 = cc in absurd (omega arith)
    go false false e = tt
rows-twins n (suc most) w u t =
    go (same w (bytes ".\n")) (same u (bytes ".\n")) (twins-end w u t) (bits n w) (bits n u) (bits-twins n w u t)
    (λ (x y : List ℕ) (s : Twins x y). rows-twins n most x y s)
  where
    go : (p q : Bool) → p ≡ q → (o o' : Option (List Bool × List ℕ))
        → Lines o o' → ((x y : List ℕ) → Twins x y → Rows (bit_rows n most x) (bit_rows n most y))
        → Rows (elim p [ true ↦ some [] | false ↦ o >>= λ r. bit_rows n most r.1 >>= λ rs. some (r.0 ∷ rs) ])
        (elim q [ true ↦ some [] | false ↦ o' >>= λ r. bit_rows n most r.1 >>= λ rs. some (r.0 ∷ rs) ])
    go true true e o o' h k = refl
    go true false e o o' h k = let z : ◌≡◌ {A = ℕ} 0 1 = cc in absurd (omega arith)
    go false true e o o' h k = let z : ◌≡◌ {A = ℕ} 0 1 = cc in absurd (omega arith)
    go false false e none none h k = tt
    go false false e none (some y) h k = absurd h
    go false false e (some x) none h k = absurd h
    go false false e (some x) (some y) h k = row_more x.0 y.0 (bit_rows n most x.1) (bit_rows n most y.1) (k x.1 y.1 h)

-- runs of as many frames
abbrev Runs : Option Witness → Option Witness → Type 0
Runs none none = Unit {0}
Runs none (some y) = ⊥
Runs (some x) none = ⊥
Runs (some x) (some y) = length x.run.rows ≡ length y.run.rows

abbrev run : ℕ → List Bool × List ℕ → List (List Bool) → Option Witness
run b s rs = when (leb 1 (length rs)) >> some (record { bad = b; run = record { start = s.0; rows = rs } })

pub runs-twins : (c : Circuit) (b : ℕ) (w u : List ℕ) → Twins w u → Runs (read_run c b w) (read_run c b u)
unfolding read_run
runs-twins c b w u t = start (ltb b (length c.bads)) (bits (length c.latches) w) (bits (length c.latches) u)
    (bits-twins (length c.latches) w u t)
  where
    last : (s s' : List Bool × List ℕ) (rs rs' : List (List Bool)) → length rs ≡ length rs' → (p q : Bool) → p ≡ q
        → Runs (when p >> some (record { bad = b; run = record { start = s.0; rows = rs } }))
        (when q >> some (record { bad = b; run = record { start = s'.0; rows = rs' } }))
    last s s' rs rs' h true true e = h
    last s s' rs rs' h true false e = let z : ◌≡◌ {A = ℕ} 0 1 = cc in absurd (omega arith)
    last s s' rs rs' h false true e = let z : ◌≡◌ {A = ℕ} 0 1 = cc in absurd (omega arith)
    last s s' rs rs' h false false e = tt

    rows : (s s' : List Bool × List ℕ) (o o' : Option (List (List Bool))) → Rows o o' → Runs (o >>= run b s) (o' >>= run b s')
    rows s s' none none h = tt
    rows s s' none (some y) h = absurd h
    rows s s' (some x) none h = absurd h
    rows s s' (some x) (some y) h = last s s' x y h (leb 1 (length x)) (leb 1 (length y)) (ap (leb 1) h)

    start : (p : Bool) (o o' : Option (List Bool × List ℕ)) → Lines o o'
        → Runs (when p >> (o >>= λ s. bit_rows (length c.inputs) 256 s.1 >>= run b s))
        (when p >> (o' >>= λ s. bit_rows (length c.inputs) 256 s.1 >>= run b s))
    start true none none h = tt
    start true none (some y) h = absurd h
    start true (some x) none h = absurd h
    start true (some x) (some y) h =
        rows x y (bit_rows (length c.inputs) 256 x.1) (bit_rows (length c.inputs) 256 y.1)
        (rows-twins (length c.inputs) 256 x.1 y.1 h)
    start false o o' h = tt

-- another completion of a text one of whose completions is read: read too, with as many frames
pub record Other (c : Circuit) (b : ℕ) (u : List ℕ) (frames : ℕ) : Type 0 where
  pub witness : Witness
  pub reads : read_run c b u ≡ some witness
  pub frames-are : length witness.run.rows ≡ frames

pub other-read : (c : Circuit) (b v v' : ℕ) (body : List ℕ) (x : Witness) → read_run c b (completion v body) ≡ some x
    → Other c b (completion v' body) (length x.run.rows)
other-read c b v v' body x e = go (read_run c b (completion v' body)) refl
    (subst (λ (o : Option Witness). Runs o (read_run c b (completion v' body))) e
    (runs-twins c b (completion v body) (completion v' body) (completions-twins v v' body)))
  where
    go : (o : Option Witness) → read_run c b (completion v' body) ≡ o → Runs (some x) o
        → Other c b (completion v' body) (length x.run.rows)
    go none q h = absurd h
    go (some y) q h = record { witness = y; reads = q; frames-are = sym h }
