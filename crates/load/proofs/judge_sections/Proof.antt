-- `load::judge_sections` meets its contract: the counts, the sections, and then the circuit that the words say. Assumes nothing.
use mathlib.Core.Path.{◌≡◌, subst}
use mathlib.Core.List.{List, ◌++◌}
use Prim.Native.Nat.{ℕ}
use native.Mathlib.Omega.{arith}
use borrow.Author.Rules.{rules}
use lib.ListN.{length, drop}
use Rattle.aiger.specs.File.{Header}
use Rattle.load.specs.Answers.{numbers}
use Rattle.sections.specs.Sections.{header_at, BodyAt}
use Rattle.sections.specs.declared.Body.{Body}
use Rattle.load.specs.Steps.{header_meant}
use Rattle.load.proofs.Finishing.{limits, header-stored, limit-stored, few-stored, room-stored, counts-stored, body-large, body_refused, sections-judged}
use Rattle.load.proofs.judge_sections.Statement.{statement}
use Rattle.load.proofs.judge_sections.Tie as tie

-- the function's entry
abbrev S : tie.After-store_counts → tie.Start
S t = t.before.before.before.before.before

-- the words with the counts
abbrev W : tie.After-store_counts → List ℕ
W t = t.store_counts.new.words

counts : (t : tie.After-store_counts) → W t ≡ numbers (S t).args.k ++ drop 7 (S t).args.words.now
counts t = t.store_counts.ensures

size : (t : tie.After-store_counts) → length (W t) ≡ length (S t).args.words.now
size t = t.store_counts.auto.words

-- the place where the counts were stored
abbrev at : tie.After-read_sections → tie.After-store_counts
at n = n.before.before.before.before.before.before

-- the words with the lines
abbrev lined : tie.After-read_sections → List ℕ
lined n = n.read_sections.new.words

-- the lines after the header
abbrev rest : tie.After-read_sections → List ℕ
rest n = drop (S (at n)).args.at (S (at n)).args.s.now

-- the answer of the call is the variant that the match found
found : (n : tie.After-read_sections) (r : Body) → n.read_sections.result ≡ r → BodyAt (S (at n)).args.binary (header_meant (S (at n)).args.k) (rest n) (lined n) r
found n r e =
    let t = at n in
    subst (λ (h : Header). BodyAt (S t).args.binary h (rest n) (lined n) r) (header-stored (S t).args.k (W t) (drop 7 (S t).args.words.now) (counts t))
    (subst (BodyAt (S t).args.binary (header_at (W t)) (rest n) (lined n)) e n.read_sections.ensures.0)

mul-read-sections : tie.Need-overflow_mul-k
mul-read-sections c =
    let s = S c.before.before.before.before in
    omega (arith, limits s.args.k s.requires.1.0)

add-read-sections : tie.Need-overflow_add-k
add-read-sections c =
    let s = S c.before.before.before.before in
    omega (arith, limits s.args.k s.requires.1.0)

read-sections-requires : tie.Need-read_sections-requires
read-sections-requires c κs =
    let s = S c.before.before.before.before.before in
    let k = s.args.k in
    let r = drop 7 s.args.words.now in (
      s.requires.0,
      (
        c.layout_of-p.ensures.0,
        (
          room-stored k (W c.before.before.before.before.before) r (counts c.before.before.before.before.before) s.requires.1.0 (omega (arith, size c.before.before.before.before.before, s.requires.1.1.0)),
          (limit-stored k (W c.before.before.before.before.before) r (counts c.before.before.before.before.before), few-stored k (W c.before.before.before.before.before) r (counts c.before.before.before.before.before) s.requires.1.0 c.layout_of-p.result c.layout_of-p.ensures.0),
        ),
      ),
    )

judge-circuit-requires : tie.Need-judge_circuit-requires
judge-circuit-requires c κs =
    let s = S (at c.before.before.before.before) in
    let f = found c.before.before.before.before _ c.in-Read.is in
    (counts-stored s.args.binary s.args.k (rest c.before.before.before.before) f.0 f.1 (lined c.before.before.before.before) f.2 f.3 s.requires.1.0, s.requires.1.1.1)

returns : tie.Need-returns-in-Malformed
returns c =
    let s = S (at c.before.before.before) in
    body_refused s.args.binary (header_meant s.args.k) (rest c.before.before.before) (found c.before.before.before _ c.in-Malformed.is)

returns-2 : tie.Need-returns-in-Damaged
returns-2 c =
    let s = S (at c.before.before.before) in
    body_refused s.args.binary (header_meant s.args.k) (rest c.before.before.before) (found c.before.before.before _ c.in-Damaged.is)

returns-3 : tie.Need-returns-in-Large
returns-3 c =
    let s = S (at c.before.before.before) in
    let f = found c.before.before.before _ c.in-Large.is in
    body-large s.args.binary s.args.k (rest c.before.before.before) f.0 f.1 f.2

returns-4 : tie.Need-returns-in-Read
returns-4 c =
    let s = S (at c.before.before.before.before.before.before.before) in
    let f = found c.before.before.before.before.before.before.before _ c.in-Read.is in
    sections-judged s.args.binary s.args.k (rest c.before.before.before.before.before.before.before) f.0 f.1 (lined c.before.before.before.before.before.before.before) f.2 f.3 c.judge_circuit.result c.judge_circuit.ensures

pub judge_sections_spec : {M : Type 1} → statement M
judge_sections_spec =
    tie.close
    (tie.spec (λ c κs. search rules) (λ c κs. search rules) mul-read-sections add-read-sections read-sections-requires (λ c. search rules) (λ c. search rules) (λ c. search rules) (λ c. search rules) judge-circuit-requires (λ c. search rules) returns (λ c. search rules) returns-2 (λ c. search rules) returns-3 (λ c. search rules) (λ c. search rules) returns-4)
