-- A content with one read more. Assumes nothing.
use mathlib.Core.Path.{◌≡◌, refl, sym, ap, ap₂, ◌∙◌, subst}
use mathlib.Core.Bool.{Bool, true, false, ◌||◌}
use mathlib.Core.List.{List, [], ◌∷◌, ◌++◌, append-nil, append_assoc}
use mathlib.Core.Logic.{◌⊎◌, inl}
use Prim.Native.Nat.{ℕ, ◌+◌, ◌-◌, ◌≤◌, ◌<◌}
use native.Mathlib.Numerals.{add-one}
use native.Mathlib.Omega.{arith}
use lib.Dec.{eqb}
use lib.Seq.{take_all, take_at, take-take, length-take-le}
use lib.ListN.{length, take, drop, length-append, length-drop, length-replicate, drop_of_length-le}
use borrow.Author.Tests.{eq-eqb, ne_eqb}
use borrow.Rule.Slice.PartMut.{put_mid}
use Rattle.input.specs.Reading.{IsPrefixLen, count_given}
use Rattle.input.specs.Contents.{size_of, piece_of, text_of, nothing, extended, gathered, bytes_of, is_done, NoneDone, Grows, Whole, Within, Delivered}
use Rattle.input.specs.declared.content.Chunk.{Chunk}
use Rattle.input.specs.declared.content.Content.{Content}
use Rattle.input.specs.declared.content.Extended.{Extended}

-- ---- the bytes of a read, copied behind those before them

pub joined_bytes : (bs src : List ℕ) (part : List ℕ) (n k : ℕ) → length bs ≡ 66826 → k ≡ length src → n ≤ 66826
    → part ≡ take (length src) src ++ drop (length src) (take (66826 - n) (drop n bs))
    → put_mid n (66826 - n) bs part ≡ take n bs ++ (src ++ drop k (drop n bs))
joined_bytes bs src part n k l e h f =
    let long : length (drop n bs) ≡ 66826 - n = length-drop n bs ∙ ap (λ (i : ℕ). i - n) l in
    let whole : take (66826 - n) (drop n bs) ≡ drop n bs = take_all (66826 - n) (drop n bs) (omega (arith, long)) in
    let rest : drop (66826 - n) (drop n bs) ≡ [] = drop_of_length-le (drop n bs) {i = 66826 - n} (omega (arith, long)) in
    let own : take (length src) src ≡ src = take_all (length src) src (omega arith) in
    let part-is : part ≡ src ++ drop k (drop n bs) =
    f ∙ ap₂ (λ (x y : List ℕ). x ++ drop (length src) y) own whole ∙ ap (λ (i : ℕ). src ++ drop i (drop n bs)) (sym e) in
    ap (λ (w : List ℕ). take n bs ++ w) (ap₂ (λ (x y : List ℕ). x ++ y) part-is rest ∙ append-nil (src ++ drop k (drop n bs)))

-- how many bytes a part of a content's buffer has
pub room-long : (bs : List ℕ) (n : ℕ) → length bs ≡ 66826 → length (take (66826 - n) (drop n bs)) ≡ 66826 - n
room-long bs n l =
    let long : length (drop n bs) ≡ 66826 - n = length-drop n bs ∙ ap (λ (i : ℕ). i - n) l in
    length-take-le (66826 - n) (drop n bs) (omega (arith, long))

module _ (c : Content) (k : Chunk) (w : Within c) (size : c.count + size_of k ≤ 66826) (inside : IsPrefixLen (size_of k) k.bytes) where
  front : length (take c.count c.bytes) ≡ c.count
  front = length-take-le c.count c.bytes (omega (arith, w.inside, w.long))

  piece : length (piece_of k) ≡ size_of k
  piece = sym inside.1

  pub extended-within : Within (extended c k)
  extended-within =
      let rest = drop (size_of k) (drop c.count c.bytes) in
      let a = length-append (take c.count c.bytes) (piece_of k ++ rest) in
      let b = length-append (piece_of k) rest in
      let d = length-drop (size_of k) (drop c.count c.bytes) in
      let e = length-drop c.count c.bytes in
      record { inside = size; long = omega (arith, a, b, d, e, front, piece, w.long, size) }

  extended-text : text_of (extended c k) ≡ text_of c ++ piece_of k
  extended-text =
      let rest = drop (size_of k) (drop c.count c.bytes) in
      let long : length (text_of c ++ piece_of k) ≡ c.count + size_of k =
      length-append (text_of c) (piece_of k) ∙ ap₂ (λ (x y : ℕ). x + y) front piece in
      ap (take (c.count + size_of k)) (sym (append_assoc (text_of c) (piece_of k) rest)) ∙ take_at (text_of c ++ piece_of k) rest (c.count + size_of k) long

-- ---- a content that is gathered

pub record Gathers (c : Content) : Type 0 where
  pub chunks : List Chunk
  pub content-is : c ≡ gathered chunks
  pub number : length chunks ≡ c.reads
  pub bytes-are : text_of c ≡ bytes_of chunks
  pub within : Within c
  pub first-end : NoneDone chunks

pub nothing-within : {c : Content} → c ≡ nothing → Within c
unfolding nothing
nothing-within {c} e =
    record {
      inside = omega (arith, ap (λ (x : Content). x.count) e);
      long = ap (λ (x : Content). length x.bytes) e ∙ length-replicate {A = ℕ} 66826 0;
    }

pub nothing-reads : {c : Content} → c ≡ nothing → c.reads < 18446744073709551615
unfolding nothing
nothing-reads {c} e = let n : c.reads ≡ 0 = ap (λ (x : Content). x.reads) e in omega (arith, n)

-- a chunk more is a read more, of which the one before was not the end
more-open : (k : Chunk) (ks : List Chunk) → is_done (gathered ks) ≡ false → NoneDone ks → NoneDone (k ∷ ks)
unfolding NoneDone
more-open k [] e n = tt
more-open k (j ∷ ks) e n = (e, n)

grown : {c : Content} {e : Extended} (g : Gathers c) → Grows c e → NoneDone (e.chunk ∷ g.chunks) → Gathers e.content
unfolding gathered bytes_of
grown {c} {e} g h o =
    let k = e.chunk in
    record {
      chunks = k ∷ g.chunks;
      content-is = h.content-is ∙ ap (λ (x : Content). extended x k) g.content-is;
      number = sym (add-one (length g.chunks)) ∙ ap (λ (n : ℕ). n + 1) g.number ∙ sym (ap (λ (x : Content). x.reads) h.content-is);
      bytes-are = ap text_of h.content-is ∙ extended-text c k g.within h.size h.inside ∙ ap (λ (x : List ℕ). x ++ piece_of k) g.bytes-are;
      within = subst Within (sym h.content-is) (extended-within c k g.within h.size h.inside);
      first-end = o;
    }

nothing-gathers : {c : Content} → c ≡ nothing → Gathers c
unfolding nothing gathered bytes_of NoneDone
nothing-gathers {c} e =
    record {
      chunks = [];
      content-is = e;
      number = sym (ap (λ (x : Content). x.reads) e);
      bytes-are = ap (λ (i : ℕ). take i c.bytes) (ap (λ (x : Content). x.count) e);
      within = nothing-within e;
      first-end = tt;
    }

pub first-gathers : {c : Content} {e : Extended} → c ≡ nothing → Grows c e → Gathers e.content
unfolding NoneDone nothing nothing-gathers
first-gathers {c} {e} n h = grown (nothing-gathers n) h tt

pub grow-gathers : {c d : Content} {e : Extended} → Gathers c → d ≡ c → is_done c ≡ false → Grows d e → Gathers e.content
grow-gathers {c} {d} {e} g p o h =
    let h' : Grows c e = subst (λ (x : Content). Grows x e) p h in
    grown g h' (more-open e.chunk g.chunks (ap is_done (sym g.content-is) ∙ o) g.first-end)

-- how many reads there are after one more
pub grown-reads : {c d : Content} {e : Extended} → d ≡ c → Grows d e → e.content.reads ≡ c.reads + 1
grown-reads {c} {d} {e} p h = ap (λ (x : Content). x.reads) h.content-is ∙ ap (λ (x : Content). x.reads + 1) p

pub whole_of : {c d : Content} → d ≡ c → Gathers c → ((is_done c ≡ true) ⊎ (c.reads ≡ 18446744073709551615)) → Whole d
whole_of {c} {d} p g s =
    subst Whole (sym p)
    (record {
      within = g.within;
      chunks = g.chunks;
      content-is = g.content-is;
      number = g.number;
      bytes-are = g.bytes-are;
      first-end = g.first-end;
      stops = s;
    })

-- a file that could not be opened
nothing-done : is_done nothing ≡ true
unfolding nothing
nothing-done = refl

pub unread-whole : {c : Content} → c ≡ nothing → Whole c
unread-whole {c} e = whole_of refl (nothing-gathers e) (inl (ap is_done e ∙ nothing-done))

-- ---- whether it goes on

pub done_none : (c : Content) → count_given c.last.given ≡ 0 → is_done c ≡ true
done_none c e = ap (λ (b : Bool). b || eqb c.count 66826) (eq-eqb (count_given c.last.given) 0 e)

pub done_full : (c : Content) → (count_given c.last.given ≡ 0 → ⊥) → c.count ≡ 66826 → is_done c ≡ true
done_full c n e = ap₂ (λ (a b : Bool). a || b) (ne_eqb (count_given c.last.given) 0 n) (eq-eqb c.count 66826 e)

pub not_done : (c : Content) → (count_given c.last.given ≡ 0 → ⊥) → (c.count ≡ 66826 → ⊥) → is_done c ≡ false
not_done c n e = ap₂ (λ (a b : Bool). a || b) (ne_eqb (count_given c.last.given) 0 n) (ne_eqb c.count 66826 e)

-- ---- a content in a buffer

module _ (buf buf' : List ℕ) (r : ℕ) (c : Content) (w : Within c) (long : length buf' ≡ length buf) where
  -- these bytes were copied to the front
  copied : (src : List ℕ) → length src ≤ length buf → src ≡ take (length buf') (text_of c) → r ≡ length src
      → buf' ≡ take (length src) src ++ drop (length src) buf → Delivered buf' r c
  copied src h t e f =
      let inside : r ≤ length buf' = omega (arith, e, long, h) in
      record {
        counts = (inside, sym (length-take-le r buf' inside));
        bytes-are =
            ap (take r) f
            ∙ ap (λ (x : List ℕ). take r (x ++ drop (length src) buf)) (take_all (length src) src (omega arith))
            ∙ take_at src (drop (length src) buf) r (sym e)
            ∙ t;
      }

  module _ {bs : List ℕ} {n : ℕ} (p : bs ≡ c.bytes) (q : n ≡ c.count) where
    text : take n bs ≡ text_of c
    text = λ i. take (q i) (p i)

    size : length (text_of c) ≡ n
    size = length-take-le c.count c.bytes (omega (arith, w.inside, w.long)) ∙ sym q

    -- there is room for all of them
    pub delivered-all : n ≤ length buf → r ≡ length (take n bs) → buf' ≡ take (length (take n bs)) (take n bs) ++ drop (length (take n bs)) buf
        → Delivered buf' r c
    delivered-all h =
        let l : length (take n bs) ≡ n = ap length text ∙ size in
        copied (take n bs) (omega (arith, l, h)) (text ∙ sym (take_all (length buf') (text_of c) (omega (arith, size, long, h))))

    -- there is room for some
    pub delivered-front : {m : ℕ} → m ≡ length buf → m < n → r ≡ length (take m bs)
        → buf' ≡ take (length (take m bs)) (take m bs) ++ drop (length (take m bs)) buf → Delivered buf' r c
    delivered-front {m} d h =
        let l : length (take m bs) ≡ m = length-take-le m bs (omega (arith, ap length p, w.inside, w.long, q, h)) in
        copied (take m bs) (omega (arith, l, d))
        (sym (take-take m n bs (omega (arith, h))) ∙ ap (take m) text ∙ ap (λ (i : ℕ). take i (text_of c)) (d ∙ sym long))
