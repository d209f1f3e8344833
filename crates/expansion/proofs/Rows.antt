-- Rows written out where they stand: bit by bit and row by row, from the last to the first. Assumes nothing.
use mathlib.Core.Path.{◌≡◌, refl, sym, ap, ap₂, ◌∙◌}
use mathlib.Core.Bool.{Bool, true, false, not, cond}
use mathlib.Core.List.{List, [], ◌∷◌, ◌++◌, map, append_assoc}
use Prim.Native.Nat.{ℕ, zero, suc, ◌+◌, ◌-◌, ◌*◌, ◌≤◌, ◌<◌}
use native.Mathlib.Nat.{zero-mul, suc-mul, mul-le-mul_left, mul-le-mul_right}
use native.Mathlib.Numerals.{add-one}
use native.Mathlib.Omega.{arith}
use lib.Dec.{eqb}
use lib.ListN.{length, get_or, set, take, drop, length-set, length-append, length-map, take-append-drop, get_or-append}
use lib.Seq.{length-take-le, get_or-take, take-take, take-append-le, drop_at, drop-drop}
use Rattle.aiger.specs.Lists.{from, tally, upto}
use Rattle.aiger.specs.Text.{bytes}
use Rattle.aiger.specs.Witness.{bit_line}
use Rattle.aiger.specs.Operations.{front}
use Rattle.witness.proofs.Put.{put, put_is, put-none, put_byte, put-cons, put-append, put-length, front-append}
use Rattle.witness.proofs.Rows.{line-length}
use Rattle.pins.specs.Pins.{is_held, fill, free_inputs}
use Rattle.pins.proofs.Inputs.{fill-eq, length-fill}
use Rattle.pinning.specs.Steps.{stored}
use Rattle.expansion.specs.Rows.{byte_of, bits_at, rows_text, expanded}
use Rattle.expansion.proofs.Witnesses.{length-rows}

-- ---- bytes written before bytes that were written

-- what stands before them stays
put-below : (out : List ℕ) (at : ℕ) (w : List ℕ) (p : ℕ) → at ≤ length out → p < at → get_or (put out at w) p 0 ≡ get_or out p 0
unfolding put
put-below out at w p h l =
    let e = length-take-le at out h in
    ap (λ (z : List ℕ). get_or z p 0) (append_assoc (take at out) w (drop (at + length w) out))
    ∙ get_or-append (take at out) (w ++ drop (at + length w) out) 0 p (omega (arith, e)) ∙ get_or-take at out p 0 l

-- two writers, the second of which ends where the first began
put-before : (out : List ℕ) (at : ℕ) (v w : List ℕ) → at + length v ≤ length out → put (put out (at + length v) w) at v ≡ put out at (v ++ w)
unfolding put
put-before out at v w h =
    let k = at + length v in
    let first = take k out in
    let e : length first ≡ k = length-take-le k out h in
    let behind = w ++ drop (k + length w) out in
    let whole : take k out ++ w ++ drop (k + length w) out ≡ first ++ behind = append_assoc first w (drop (k + length w) out) in
    let a : take at (first ++ behind) ≡ take at out = take-append-le at first behind (omega arith) ∙ take-take at k out (omega arith) in
    let d : drop k (first ++ behind) ≡ behind = drop_at first behind k e in
    let n : k + length w ≡ at + length (v ++ w) = omega (arith, length-append v w) in
    ap (λ (z : List ℕ). take at z ++ v ++ drop k z) whole ∙ ap₂ (λ (x y : List ℕ). x ++ v ++ y) a d
    ∙ sym (append_assoc (take at out ++ v) w (drop (k + length w) out))
    ∙ ap₂ (λ (x : List ℕ) (m : ℕ). x ++ drop m out) (append_assoc (take at out) v w) n

-- ---- the free ones of the first inputs

pub bit-most : (b : Bool) → cond b 0 1 ≤ 1
bit-most true = omega arith
bit-most false = omega arith

tally-last : (p : ℕ → Bool) (k i : ℕ) → tally p (from i (suc k)) ≡ tally p (from i k) + cond (p (i + k)) 1 0
tally-last p zero i = let z : i + 0 ≡ i = omega arith in rw z (omega arith)
tally-last p (suc k) i =
    let z : suc i + k ≡ i + suc k = omega arith in
    let e = tally-last p k (suc i) in
    let f : tally p (from (suc i) (suc k)) ≡ tally p (from (suc i) k) + cond (p (i + suc k)) 1 0 = e ∙ ap (λ (x : ℕ). tally p (from (suc i) k) + cond (p x) 1 0) z in
    omega (arith, f)

module _ (q : ℕ → ℕ) where
  pub free-none : free_inputs q 0 ≡ 0
  unfolding free_inputs
  free-none = refl

  pub free_one : (i : ℕ) → free_inputs q (i + 1) ≡ free_inputs q i + cond (is_held (q i)) 0 1
  unfolding free_inputs
  free_one i =
      let z : 0 + i ≡ i = omega arith in
      ap (λ (k : ℕ). tally (λ x. not (is_held (q x))) (upto k)) (add-one i) ∙ tally-last (λ x. not (is_held (q x))) i 0
      ∙ ap (λ (k : ℕ). free_inputs q i + cond (not (is_held (q k))) 1 0) z ∙ ap (λ (k : ℕ). free_inputs q i + k) (turned (is_held (q i)))
    where
      turned : (b : Bool) → ◌≡◌ {A = ℕ} (cond (not b) 1 0) (cond b 0 1)
      turned true = refl
      turned false = refl

  pub free-most : (n : ℕ) → free_inputs q n ≤ n
  unfolding free_inputs
  free-most n = go 0 n
    where
      one : (b : Bool) → cond (not b) 1 0 ≤ 1
      one true = omega arith
      one false = omega arith

      go : (i k : ℕ) → tally (λ x. not (is_held (q x))) (from i k) ≤ k
      go i zero = omega arith
      go i (suc k) = omega (arith, go (suc i) k, one (is_held (q i)))

-- ---- one row

line-bits : (bs : List Bool) → bit_line bs ≡ map byte_of bs ++ (10 ∷ [])
line-bits [] = refl
line-bits (b ∷ bs) = ap (λ (z : List ℕ). byte_of b ∷ z) (line-bits bs)

module _ (q : ℕ → ℕ) (n from at : ℕ) where
  -- the bytes of the inputs from the i-th on, whose free ones are the bits from the j-th on
  abbrev bytes_from : List ℕ → ℕ → ℕ → List ℕ
  bytes_from before i j = map byte_of (fill q (bits_at before from) i j (n - i))

  pub record Filling (before out : List ℕ) (i j : ℕ) : Type 0 where
    pub within : i ≤ n
    pub used : j ≡ free_inputs q i
    pub size : length out ≡ length before
    pub contents : out ≡ put before (at + i) (map byte_of (fill q (bits_at before from) i j (n - i)))

  pub fill_start : (before : List ℕ) {j : ℕ} → j ≡ free_inputs q n → Filling before before n j
  unfolding fill
  fill_start before {j} e =
      let z : n - n ≡ 0 = omega arith in
      let r : bytes_from before n j ≡ [] = rw z in
      record { within = omega arith; used = e; size = refl; contents = sym (ap (put before (at + n)) r ∙ put-none before (at + n)) }

  bytes-more : (before : List ℕ) (i j : ℕ) → i < n
      → bytes_from before i j
      ≡ cond (is_held (q i)) (byte_of (eqb (q i) 1)) (byte_of (bits_at before from j)) ∷ bytes_from before (i + 1) (j + cond (is_held (q i)) 0 1)
  unfolding fill
  bytes-more before i j h =
      let one : n - i ≡ suc (n - (i + 1)) = omega arith in
      rw (one, add-one i) (go (is_held (q i)))
    where
      go : (b : Bool)
          → map byte_of (cond b (eqb (q i) 1 ∷ fill q (bits_at before from) (suc i) j (n - suc i)) (bits_at before from j ∷ fill q (bits_at before from) (suc i) (suc j) (n - suc i)))
          ≡ cond b (byte_of (eqb (q i) 1)) (byte_of (bits_at before from j)) ∷ map byte_of (fill q (bits_at before from) (suc i) (j + cond b 0 1) (n - suc i))
      go true = ap (λ (k : ℕ). byte_of (eqb (q i) 1) ∷ map byte_of (fill q (bits_at before from) (suc i) k (n - suc i))) (omega arith)
      go false = ap (λ (k : ℕ). byte_of (bits_at before from j) ∷ map byte_of (fill q (bits_at before from) (suc i) k (n - suc i))) (sym (add-one j))

  -- how many bits are left before input i
  pub left-used : {before out : List ℕ} {i j : ℕ} (i' : ℕ) → Filling before out i j → i ≡ i' + 1 → j ≡ free_inputs q i' + cond (is_held (q i')) 0 1
  left-used i' k e = k.used ∙ ap (free_inputs q) e ∙ free_one q i'

  pub fill_more : {before out : List ℕ} {i j : ℕ} (i' j' x : ℕ) → Filling before out i j → i ≡ i' + 1 → j ≡ j' + cond (is_held (q i')) 0 1
      → from ≤ at → at + n ≤ length before → x ≡ cond (is_held (q i')) (byte_of (eqb (q i') 1)) (byte_of (bits_at out from j'))
      → Filling before (set out (at + i') x) i' j'
  fill_more {before} {out} {i} {j} i' j' x k a b behind room e =
      let u : ℕ = cond (is_held (q i')) 0 1 in
      let s : j' ≡ free_inputs q i' = omega (arith, b, left-used i' k a) in
      let i-most : i ≤ n = k.within in
      let same : get_or out (from + j') 0 ≡ get_or before (from + j') 0 =
      ap (λ (z : List ℕ). get_or z (from + j') 0) k.contents
      ∙ put-below before (at + i) (bytes_from before i j) (from + j') (omega arith) (omega (arith, s, free-most q i')) in
      let y : x ≡ cond (is_held (q i')) (byte_of (eqb (q i') 1)) (byte_of (bits_at before from j')) =
      e ∙ ap (λ (z : ℕ). cond (is_held (q i')) (byte_of (eqb (q i') 1)) (byte_of (eqb z 49))) same in
      let one : at + i ≡ at + i' + 1 = omega arith in
      let row : x ∷ bytes_from before i j ≡ bytes_from before i' j' =
      ap₂ (λ (z : ℕ) (w : List ℕ). z ∷ w) y (ap₂ (λ (p r : ℕ). bytes_from before p r) a b) ∙ sym (bytes-more before i' j' (omega arith)) in
      record {
        within = omega arith;
        used = s;
        size = length-set out (at + i') x ∙ k.size;
        contents =
            sym (put_byte out (at + i') x (omega (arith, k.size)))
            ∙ ap (λ (z : List ℕ). put z (at + i') (x ∷ [])) (k.contents ∙ ap (λ (p : ℕ). put before p (bytes_from before i j)) one)
            ∙ put-before before (at + i') (x ∷ []) (bytes_from before i j) (omega arith) ∙ ap (put before (at + i')) row;
      }

  pub fill_end : {before out : List ℕ} {i j : ℕ} → Filling before out i j → i ≡ 0 → at + n < length before
      → set out (at + n) 10 ≡ stored before at (bit_line (fill q (bits_at before from) 0 0 n))
  fill_end {before} {out} {i} {j} k z l =
      let row = fill q (bits_at before from) 0 0 n in
      let B = map byte_of row in
      let none : j ≡ 0 = k.used ∙ ap (free_inputs q) z ∙ free-none q in
      let all : n - 0 ≡ n = omega arith in
      let here : at + 0 ≡ at = omega arith in
      let e : out ≡ put before at B =
      k.contents ∙ ap₂ (λ (p r : ℕ). put before (at + p) (bytes_from before p r)) z none
      ∙ ap₂ (λ (p r : ℕ). put before p (map byte_of (fill q (bits_at before from) 0 0 r))) here all in
      let s : at + n ≡ at + length B = omega (arith, length-map row byte_of, length-fill q (bits_at before from) n 0 0) in
      sym (put_byte out (at + n) 10 (omega (arith, k.size)))
      ∙ ap₂ (λ (y : List ℕ) (p : ℕ). put y p (10 ∷ [])) e s ∙ put-append before at B (10 ∷ []) (omega arith)
      ∙ ap (put before at) (sym (line-bits row)) ∙ sym (put_is before at (bit_line row))

-- ---- row after row

less_one : (u u' w : ℕ) → u ≡ u' + 1 → u * w ≡ u' * w + w
less_one u u' w e = ap (λ (k : ℕ). k * w) (e ∙ add-one u') ∙ suc-mul u' w

module _ (q : ℕ → ℕ) (n start f : ℕ) where
  -- the rows without the line that ends a witness
  unfoldable pub rows_of : List ℕ → ℕ → ℕ → List ℕ
  rows_of text from zero = []
  rows_of text from (suc k) = bit_line (fill q (bits_at text from) 0 0 n) ++ rows_of text (from + free_inputs q n + 1) k

  rows_end : (text : List ℕ) (from k : ℕ) → rows_text text q n from k ≡ rows_of text from k ++ bytes ".\n"
  unfolding rows_text rows_of
  rows_end text from zero = refl
  rows_end text from (suc k) =
      let row = bit_line (fill q (bits_at text from) 0 0 n) in
      let next = from + free_inputs q n + 1 in
      ap (λ (z : List ℕ). row ++ z) (rows_end text next k) ∙ sym (append_assoc row (rows_of text next k) (bytes ".\n"))

  rows_long : (text : List ℕ) (from k : ℕ) → length (rows_of text from k) ≡ k * (n + 1)
  rows_long text from k =
      omega (arith, length-rows text q n from k, ap length (rows_end text from k), length-append (rows_of text from k) (bytes ".\n"))

  row-long : (text : List ℕ) (from : ℕ) → length (bit_line (fill q (bits_at text from) 0 0 n)) ≡ n + 1
  row-long text from = line-length (fill q (bits_at text from) 0 0 n) ∙ ap (λ (k : ℕ). k + 1) (length-fill q (bits_at text from) n 0 0)

  pub record Filed (before out : List ℕ) (from at u : ℕ) : Type 0 where
    pub within : u ≤ f
    pub source : from ≡ start + u * (free_inputs q n + 1)
    pub target : at ≡ start + u * (n + 1)
    pub size : length out ≡ length before
    pub contents : out ≡ put before at (rows_of before from (f - u))

  pub filed-start : (before : List ℕ) {from at : ℕ} → from ≡ start + f * (free_inputs q n + 1) → at ≡ start + f * (n + 1) → Filed before before from at f
  unfolding rows_of
  filed-start before {from} {at} a b =
      let z : f - f ≡ 0 = omega arith in
      let r : rows_of before from (f - f) ≡ [] = rw z in
      record { within = omega arith; source = a; target = b; size = refl; contents = sym (ap (put before at) r ∙ put-none before at) }

  -- the row before stands where these say, and has room
  pub record Next (before : List ℕ) (from at from' at' : ℕ) : Type 0 where
    pub source-less : from ≡ from' + free_inputs q n + 1
    pub target-less : at ≡ at' + n + 1
    pub behind : from' ≤ at'
    pub room : at ≤ length before

  pub filed-next : {before out : List ℕ} {from at u : ℕ} (u' : ℕ) → Filed before out from at u → u ≡ u' + 1 → start + f * (n + 1) ≤ length before
      → Next before from at (start + u' * (free_inputs q n + 1)) (start + u' * (n + 1))
  filed-next {before} {out} {from} {at} {u} u' k e h =
      let w = free_inputs q n in
      let a = less_one u u' (w + 1) e in
      let b = less_one u u' (n + 1) e in
      let m : u' * (w + 1) ≤ u' * (n + 1) = mul-le-mul_left u' (let z : w + 1 ≤ n + 1 = omega (arith, free-most q n) in z) in
      let r : u * (n + 1) ≤ f * (n + 1) = mul-le-mul_right (n + 1) k.within in
      record {
        source-less = omega (arith, k.source, a);
        target-less = omega (arith, k.target, b);
        behind = omega arith;
        room = omega (arith, k.target);
      }

  row_kept : (before : List ℕ) (from at : ℕ) (w : List ℕ) → at ≤ length before → from + free_inputs q n ≤ at
      → fill q (bits_at (put before at w) from) 0 0 n ≡ fill q (bits_at before from) 0 0 n
  unfolding free_inputs
  row_kept before from at w h l =
      fill-eq q (bits_at (put before at w) from) (bits_at before from) n 0 0
      (λ k m. ap (λ (x : ℕ). eqb x 49) (put-below before at w (from + (0 + k)) h (omega (arith, m))))

  pub filed-more : {before out out' : List ℕ} {from at u : ℕ} (from' at' u' : ℕ) → Filed before out from at u → u ≡ u' + 1
      → start + f * (n + 1) ≤ length before → from ≡ from' + (free_inputs q n + 1) → at ≡ at' + (n + 1)
      → out' ≡ stored out at' (bit_line (fill q (bits_at out from') 0 0 n)) → length out' ≡ length out → Filed before out' from' at' u'
  unfolding rows_of
  filed-more {before} {out} {out'} {from} {at} {u} from' at' u' k e h a b g s =
      let w = free_inputs q n in
      let t = filed-next u' k e h in
      let rest = rows_of before from (f - u) in
      let row = bit_line (fill q (bits_at before from') 0 0 n) in
      let sizes = less_one u u' (w + 1) e in
      let sizes' = less_one u u' (n + 1) e in
      let one : f - u' ≡ suc (f - u) = omega (arith, k.within) in
      let there : from' + w + 1 ≡ from = omega arith in
      let all : rows_of before from' (f - u') ≡ row ++ rest = rw one (ap (λ (p : ℕ). row ++ rows_of before p (f - u)) there) in
      let same : bit_line (fill q (bits_at out from') 0 0 n) ≡ row =
      ap bit_line
      (ap (λ (z : List ℕ). fill q (bits_at z from') 0 0 n) k.contents
      ∙ row_kept before from' at rest t.room (omega (arith, t.source-less, t.target-less, t.behind, free-most q n))) in
      let place : at ≡ at' + length row = omega (arith, row-long before from') in
      record {
        within = omega (arith, k.within);
        source = omega (arith, k.source);
        target = omega (arith, k.target);
        size = s ∙ k.size;
        contents =
            g ∙ put_is out at' (bit_line (fill q (bits_at out from') 0 0 n))
            ∙ ap₂ (λ (y z : List ℕ). put y at' z) (k.contents ∙ ap (λ (p : ℕ). put before p rest) place) same
            ∙ put-before before at' row rest (omega (arith, t.room)) ∙ ap (put before at') (sym all);
      }

  pub filed-end : {before out : List ℕ} {from at u : ℕ} → Filed before out from at u → u ≡ 0 → start + f * (n + 1) + 2 ≤ length before
      → set (set out (start + f * (n + 1)) 46) (start + f * (n + 1) + 1) 10 ≡ stored before start (rows_text before q n start f)
  filed-end {before} {out} {from} {at} {u} k e h =
      let body = rows_of before start f in
      let none : (w : ℕ) → start + u * w ≡ start = λ w. let z : u * w ≡ 0 = ap (λ (x : ℕ). x * w) e ∙ zero-mul w in omega arith in
      let all : f - u ≡ f = omega arith in
      let a : from ≡ start = k.source ∙ none (free_inputs q n + 1) in
      let b : at ≡ start = k.target ∙ none (n + 1) in
      let c : out ≡ put before start body =
      k.contents ∙ ap₂ (λ (p r : ℕ). put before p (rows_of before r (f - u))) b a ∙ ap (λ (r : ℕ). put before start (rows_of before start r)) all in
      let end = start + f * (n + 1) in
      let place : end ≡ start + length body = omega (arith, rows_long before start f) in
      let two : set (set out end 46) (end + 1) 10 ≡ put out end (bytes ".\n") =
      sym
      (put-cons out end 46 (10 ∷ []) (omega (arith, k.size))
      ∙ put_byte (set out end 46) (end + 1) 10 (simp length-set (omega (arith, k.size)))) in
      two ∙ ap₂ (λ (y : List ℕ) (p : ℕ). put y p (bytes ".\n")) c place ∙ put-append before start body (bytes ".\n") (omega arith)
      ∙ ap (put before start) (sym (rows_end before start f)) ∙ sym (put_is before start (rows_text before q n start f))

-- ---- the first bytes, which stay, and the rows after them
pub expand-all : (q : ℕ → ℕ) (n start f : ℕ) (before after : List ℕ) → start ≤ length before → after ≡ stored before start (rows_text before q n start f)
    → after ≡ front (expanded before q n start f) before
unfolding expanded
expand-all q n start f before after h e =
    let X = take start before in
    let R = rows_text before q n start f in
    let s : length X ≡ start = length-take-le start before h in
    let same : front X before ≡ before = ap (λ (k : ℕ). X ++ drop k before) s ∙ take-append-drop start before in
    e ∙ put_is before start R ∙ ap₂ (λ (y : List ℕ) (p : ℕ). put y p R) (sym same) (sym s) ∙ front-append before X R (omega arith)
