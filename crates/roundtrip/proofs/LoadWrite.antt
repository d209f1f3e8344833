-- What write gives loads again, as the same circuit. Clauses 1.4, 7.1. Assumes nothing.
use mathlib.Core.Path.{◌≡◌, refl, ap, ap₂}
use mathlib.Core.Bool.{Bool, true, false, cond, ◌&&◌, ◌||◌}
use mathlib.Core.List.{List, [], ◌∷◌, ◌++◌, map, append_assoc, append-nil}
use mathlib.Core.Logic.{⊎_elim}
use mathlib.Core.Option.{some}
use Prim.Native.Nat.{ℕ, zero, suc, ◌+◌, ◌*◌, ◌^◌, ◌≤◌, ◌<◌}
use native.Mathlib.Omega.{arith}
use lib.Dec.{T, leb, eqb, leb→le, ltb→lt, lt→ltb, eqb→eq, eqb-suc-zero, lit<, lit≤}
use borrow.Author.Tests.{le-leb}
use lib.ListN.{length, get_or, length-map, length-append}
use Rattle.aiger.specs.Lists.{every}
use Rattle.aiger.specs.Text.{rows}
use Rattle.aiger.specs.Circuit.{Circuit, Latch, Gate, defined, used, literal_tests, literals_right, used_defined, acyclic}
use Rattle.aiger.specs.File.{is_text, is_binary, header, count_tests, counts_fit, header_of, is_tail, body, first, latch, gate}
use Rattle.aiger.specs.Load.{gives, sections, load, needed}
use Rattle.aiger.specs.Write.{lines_of, literal_row, latch_row, gate_row, count_row, write}
use Rattle.aiger.proofs.Forms.{counts-text}
use Rattle.aiger.proofs.Tests.{and, T_true, every-left, every-right, every-unmap, every_map, every-imp, all-at, or_cases}
use Rattle.roundtrip.proofs.Text.{below, row_fits, row_line, rows-lines, every-below, line-short, lines-short}

-- a circuit that some file has, for a circuit memory of `room` words
pub record Valid (room : ℕ) (c : Circuit) : Type 0 where
  pub fit : counts_fit (header_of c) ≡ true
  pub held : needed c.max_var ≤ room
  pub literals : literals_right c ≡ true
  pub uses : used_defined c ≡ true
  pub order : acyclic c ≡ true

-- every count and literal is below 10,000
abbrev pub low : ℕ → Bool
low = below (10 ^ 4)

pub first-map : (ls : List ℕ) → map first (map literal_row ls) ≡ ls
first-map [] = refl
first-map (l ∷ ls) = ap (λ (k : List ℕ). l ∷ k) (first-map ls)

gate-map : (gs : List Gate) → map gate (map gate_row gs) ≡ gs
gate-map [] = refl
gate-map (g ∷ gs) = ap (λ (k : List Gate). g ∷ k) (gate-map gs)

pub reset-row : (r : ℕ) → get_or (cond (eqb r 0) [] (r ∷ [])) 0 0 ≡ r
reset-row zero = refl
reset-row (suc r) = simp (eqb-suc-zero r)

latch-row : (l : Latch) → latch (latch_row l) ≡ l
unfolding latch_row
latch-row l = λ i. record { lit = l.lit; next = l.next; reset = reset-row l.reset i }

latch-map : (ls : List Latch) → map latch (map latch_row ls) ≡ ls
latch-map [] = refl
latch-map (l ∷ ls) = ap₂ (λ (x : Latch) (k : List Latch). x ∷ k) (latch-row l) (latch-map ls)

-- the lines of one part of the file: read back, and their length
module _ {A : Type 0} (least most : ℕ) (h : A → List ℕ) (xs : List A) (t : T (every (row_fits (10 ^ 4) least most) (map h xs))) where
  pub rows-map : (f : List ℕ) → rows least most (length xs) (lines_of (map h xs) ++ f) ≡ some (map h xs, f)
  rows-map f = rw (← length-map xs h) (rows-lines (10 ^ 4) least most (lit≤ tt) (map h xs) t f)

  pub map-short : length (lines_of (map h xs)) ≤ 5 * most * length xs
  map-short = rw (← length-map xs h) (lines-short 3 least most (map h xs) t)

-- the rows of one literal, of a gate, of a latch
one-fits : (a : ℕ) → T (low a) → T (row_fits (10 ^ 4) 1 1 (literal_row a))
one-fits a h = and (low a) true h tt

three-fits : (least a b c : ℕ) → least ≤ 3 → T (low a) → T (low b) → T (low c) → T (row_fits (10 ^ 4) least 3 (a ∷ b ∷ c ∷ []))
three-fits least a b c l ha hb hc =
    rw (le-leb least 3 l) (and (low a) (low b && (low c && true)) ha (and (low b) (low c && true) hb (and (low c) true hc tt)))

latch-fits : (a b r : ℕ) → T (low a) → T (low b) → T (low r) → T (row_fits (10 ^ 4) 2 3 (a ∷ b ∷ cond (eqb r 0) [] (r ∷ [])))
latch-fits a b zero ha hb hr = and (low a) (low b && true) ha (and (low b) true hb tt)
latch-fits a b (suc r) ha hb hr = simp (eqb-suc-zero r) (three-fits 2 a b (suc r) (lit≤ tt) ha hb hr)

pub ones-fit : (ls : List ℕ) → T (every low ls) → T (every (row_fits (10 ^ 4) 1 1) (map literal_row ls))
ones-fit ls h = every_map low low low (row_fits (10 ^ 4) 1 1) literal_row (λ l a b c. one-fits l a) ls h h h

-- the lines of the six parts are such as are read
pub record Fits (c : Circuit) : Type 0 where
  pub inputs : T (every (row_fits (10 ^ 4) 1 1) (map literal_row c.inputs))
  pub latches : T (every (row_fits (10 ^ 4) 2 3) (map latch_row c.latches))
  pub outputs : T (every (row_fits (10 ^ 4) 1 1) (map literal_row c.outputs))
  pub bads : T (every (row_fits (10 ^ 4) 1 1) (map literal_row c.bads))
  pub constraints : T (every (row_fits (10 ^ 4) 1 1) (map literal_row c.constraints))
  pub gates : T (every (row_fits (10 ^ 4) 3 3) (map gate_row c.gates))

-- the lines of the body
abbrev pub body_text : Circuit → List ℕ
body_text c =
    lines_of (map literal_row c.inputs)
    ++ (lines_of (map latch_row c.latches)
    ++ (lines_of (map literal_row c.outputs)
    ++ (lines_of (map literal_row c.bads) ++ (lines_of (map literal_row c.constraints) ++ (lines_of (map gate_row c.gates) ++ [])))))

-- they are read back
pub body-text : (c : Circuit) → Fits c → body (header_of c) (body_text c) ≡ some c
unfolding body is_tail
body-text c f =
    simp (
      rows-map 1 1 literal_row c.inputs f.inputs,
      rows-map 2 3 latch_row c.latches f.latches,
      rows-map 1 1 literal_row c.outputs f.outputs,
      rows-map 1 1 literal_row c.bads f.bads,
      rows-map 1 1 literal_row c.constraints f.constraints,
      rows-map 3 3 gate_row c.gates f.gates,
      first-map,
      latch-map,
      gate-map,
    )

-- the header is read back where its numbers have at most 10 digits
pub head-text : (c : Circuit) → T (every (below (10 ^ 10)) (c.max_var ∷ count_row c)) → header (write c) ≡ some (header_of c, body_text c)
unfolding is_text header write
head-text c h = simp (append_assoc, append-nil, row_line 9 c.max_var (count_row c) (lit< tt) h)

-- write gives the text form
pub writes-text : (c : Circuit) → is_binary (write c) ≡ false
unfolding is_binary write
writes-text c = refl

-- a text is not empty
pub some_byte : (c : Circuit) → 1 ≤ length (write c)
unfolding write
some_byte c = omega arith

-- the greatest counts
pub record Counts (c : Circuit) : Type 0 where
  pub max_var : c.max_var ≤ 4096
  pub inputs : length c.inputs ≤ 256
  pub latches : length c.latches ≤ 1024
  pub outputs : length c.outputs ≤ 64
  pub gates : length c.gates ≤ 3072
  pub bads : length c.bads ≤ 16
  pub constraints : length c.constraints ≤ 16
  pub definitions : length c.inputs + length c.latches + length c.gates ≤ c.max_var

-- what number 3 says of a circuit's counts
pub counts-fit : (c : Circuit) → counts_fit (header_of c) ≡ true → Counts c
unfolding counts_fit
counts-fit c e =
    let at = all-at (count_tests (header_of c)) (T_true e) in
    record {
      max_var = leb→le c.max_var 4096 (at 0);
      inputs = leb→le (length c.inputs) 256 (at 1);
      latches = leb→le (length c.latches) 1024 (at 2);
      outputs = leb→le (length c.outputs) 64 (at 3);
      gates = leb→le (length c.gates) 3072 (at 4);
      bads = leb→le (length c.bads) 16 (at 5);
      constraints = leb→le (length c.constraints) 16 (at 6);
      definitions = leb→le (length c.inputs + length c.latches + length c.gates) c.max_var (at 9);
    }

-- what holds of all literals of a circuit holds of those of each role
pub record Each (p : ℕ → Bool) (c : Circuit) : Type 0 where
  pub inputs : T (every p c.inputs)
  pub latches : T (every (λ l. p l.lit) c.latches)
  pub nexts : T (every (λ l. p l.next) c.latches)
  pub outputs : T (every p c.outputs)
  pub bads : T (every p c.bads)
  pub constraints : T (every p c.constraints)
  pub gates : T (every (λ g. p g.lit) c.gates)
  pub lefts : T (every (λ g. p g.left) c.gates)
  pub rights : T (every (λ g. p g.right) c.gates)

pub each : (p : ℕ → Bool) (c : Circuit) → T (every p (defined c ++ used c)) → Each p c
unfolding defined used
each p c all =
    let i = c.inputs in
    let l = map (λ (x : Latch). x.lit) c.latches in
    let g = map (λ (x : Gate). x.lit) c.gates in
    let n = map (λ (x : Latch). x.next) c.latches in
    let o = c.outputs in
    let b = c.bads in
    let k = c.constraints in
    let x = map (λ (x : Gate). x.left) c.gates in
    let y = map (λ (x : Gate). x.right) c.gates in
    let d = every-left p (i ++ l ++ g) (n ++ o ++ b ++ k ++ x ++ y) all in
    let u = every-right p (i ++ l ++ g) (n ++ o ++ b ++ k ++ x ++ y) all in
    let u4 = every-left p (n ++ o ++ b ++ k ++ x) y u in
    let u3 = every-left p (n ++ o ++ b ++ k) x u4 in
    let u2 = every-left p (n ++ o ++ b) k u3 in
    let u1 = every-left p (n ++ o) b u2 in
    let dl = every-left p (i ++ l) g d in
    record {
      inputs = every-left p i l dl;
      latches = every-unmap p (λ (x : Latch). x.lit) c.latches (every-right p i l dl);
      nexts = every-unmap p (λ (x : Latch). x.next) c.latches (every-left p n o u1);
      outputs = every-right p n o u1;
      bads = every-right p (n ++ o) b u2;
      constraints = every-right p (n ++ o ++ b) k u3;
      gates = every-unmap p (λ (x : Gate). x.lit) c.gates (every-right p (i ++ l) g d);
      lefts = every-unmap p (λ (x : Gate). x.left) c.gates (every-right p (n ++ o ++ b ++ k) x u4);
      rights = every-unmap p (λ (x : Gate). x.right) c.gates (every-right p (n ++ o ++ b ++ k ++ x) y u);
    }

module _ {room : ℕ} {c : Circuit} (v : Valid room c) where
  pub counts : Counts c
  counts = counts-fit c v.fit

  -- the tests of the literals, by place
  rights : (i : ℕ) → T (get_or (literal_tests c) i true)
  unfolding literals_right
  rights = all-at (literal_tests c) (T_true v.literals)

  pub heads-low : T (every low (c.max_var ∷ count_row c))
  heads-low =
      and (low c.max_var) _ (at c.max_var (omega (arith, counts)))
      (and (low (length c.inputs)) _ (at (length c.inputs) (omega (arith, counts)))
      (and (low (length c.latches)) _ (at (length c.latches) (omega (arith, counts)))
      (and (low (length c.outputs)) _ (at (length c.outputs) (omega (arith, counts)))
      (and (low (length c.gates)) _ (at (length c.gates) (omega (arith, counts)))
      (and (low (length c.bads)) _ (at (length c.bads) (omega (arith, counts)))
      (and (low (length c.constraints)) true (at (length c.constraints) (omega (arith, counts))) tt))))))
    where
      at : (n : ℕ) → n < 10 ^ 4 → T (low n)
      at n h = lt→ltb n (10 ^ 4) h

  pub all-low : T (every low (defined c ++ used c))
  all-low = every-imp (λ l. leb l (2 * c.max_var + 1)) low (λ l h. lt→ltb l (10 ^ 4) (low_of l (leb→le l (2 * c.max_var + 1) h)))
      (defined c ++ used c) (rights 0)
    where
      low_of : (l : ℕ) → l ≤ 2 * c.max_var + 1 → l < 10 ^ 4
      low_of l h = omega (arith, counts.max_var)

  pub reset-low : (l : Latch) → T (low l.lit) → T (leb l.reset 1 || eqb l.reset l.lit) → T (low l.reset)
  reset-low l h t =
      let a = l.lit in
      let r = l.reset in
      lt→ltb r (10 ^ 4)
      (⊎_elim (λ x. omega (arith, leb→le r 1 x)) (λ y. omega (arith, eqb→eq r a y, ltb→lt a (10 ^ 4) h)) (or_cases (leb r 1) (eqb r a) t))

  pub low-each : Each low c
  low-each = each low c all-low

  pub fits : Fits c
  unfolding latch_row
  fits =
      let e = low-each in
      record {
        inputs = ones-fit c.inputs e.inputs;
        latches =
            every_map (λ x. low x.lit) (λ x. low x.next) (λ x. leb x.reset 1 || eqb x.reset x.lit)
            (row_fits (10 ^ 4) 2 3) latch_row
            (λ x s t r. latch-fits x.lit x.next x.reset s t (reset-low x s r)) c.latches e.latches e.nexts (rights 3);
        outputs = ones-fit c.outputs e.outputs;
        bads = ones-fit c.bads e.bads;
        constraints = ones-fit c.constraints e.constraints;
        gates =
            every_map (λ x. low x.lit) (λ x. low x.left) (λ x. low x.right) (row_fits (10 ^ 4) 3 3) gate_row
            (λ x s t r. three-fits 3 x.lit x.left x.right (lit≤ tt) s t r) c.gates e.gates e.lefts e.rights;
      }

  -- its numbers are below 10,000, so the header is read back
  pub head-back : header (write c) ≡ some (header_of c, body_text c)
  head-back = head-text c (every-below (10 ^ 4) (10 ^ 10) (lit≤ tt) (c.max_var ∷ count_row c) heads-low)

  -- the text of a circuit has at most 65,536 bytes
  pub text-short : length (write c) ≤ 65536
  unfolding write
  text-short =
      simp length-append
      (omega (
        arith,
        counts,
        line-short 3 c.max_var (count_row c) heads-low,
        map-short 1 1 literal_row c.inputs fits.inputs,
        map-short 2 3 latch_row c.latches fits.latches,
        map-short 1 1 literal_row c.outputs fits.outputs,
        map-short 1 1 literal_row c.bads fits.bads,
        map-short 1 1 literal_row c.constraints fits.constraints,
        map-short 3 3 gate_row c.gates fits.gates,
      ))

  -- what write gives loads as the same circuit
  pub load-write : load room (write c) ≡ gives c
  unfolding sections load
  load-write =
      simp (
        le-leb 1 (length (write c)) (some_byte c),
        le-leb (length (write c)) 65536 text-short,
        writes-text c,
        head-back,
        counts-text,
        v.fit,
        le-leb (needed c.max_var) room v.held,
        body-text c fits,
        v.literals,
        v.uses,
        v.order,
      )
