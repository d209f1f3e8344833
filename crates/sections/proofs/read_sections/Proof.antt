-- `sections::read_sections` meets its contract. Assumes nothing.
use mathlib.Core.Path.{◌≡◌, ap, ◌∙◌, subst}
use mathlib.Core.List.{List}
use Prim.Native.Nat.{ℕ}
use borrow.Author.Rules.{rules}
use lib.ListN.{length, drop, replicate}
use Rattle.sections.specs.Sections.{header_at, BodyAt, PastKept}
use Rattle.sections.specs.declared.Body.{Body}
use Rattle.sections.proofs.read_sections.Statement.{statement}
use Rattle.sections.proofs.read_sections.Tie as tie

-- the function's entry
abbrev S : tie.After-read_body → tie.Start
S n = n.before.before.before.before

-- the words after the call
abbrev words : tie.After-read_body → List ℕ
words n = n.read_body.new.words

-- the answer of the call is the variant that the match found
found : (n : tie.After-read_body) (r : Body) → n.read_body.result ≡ r
    → let a = (S n).args in
    BodyAt a.binary (header_at a.words.now) (drop a.at a.s.now) (words n) r × PastKept a.words.now (words n) r
found n r e =
    let a = (S n).args in
    subst
    (λ (b : Body).
    BodyAt a.binary (header_at a.words.now) (drop a.at a.s.now) (words n) b × PastKept a.words.now (words n) b)
    e n.read_body.ensures

-- zeros in place of the words are as many as there were
zeros : (n : tie.After-read_body) {w : List ℕ} → w ≡ replicate (length (words n)) 0 → w ≡ replicate (length (S n).args.words.now) 0
zeros n e = e ∙ ap (λ (k : ℕ). replicate k 0) n.read_body.auto.words

returns : tie.Need-returns-in-Read
returns c = found c.before.before.before _ c.in-Read.is

returns-2 : tie.Need-returns-in-Large
returns-2 c =
    ((found c.before.before.before.before.before.before.before _ c.in-Large.is).0, zeros c.before.before.before.before.before.before.before c.clear.ensures)

returns-3 : tie.Need-returns-in-Malformed
returns-3 c =
    ((found c.before.before.before.before.before.before.before _ c.in-Malformed.is).0, zeros c.before.before.before.before.before.before.before c.clear-in-Malformed.ensures)

returns-4 : tie.Need-returns-in-Damaged
returns-4 c =
    ((found c.before.before.before.before.before.before.before _ c.in-Damaged.is).0, zeros c.before.before.before.before.before.before.before c.clear-in-Damaged.ensures)

pub read_sections_spec : {M : Type 1} → statement M
read_sections_spec =
    tie.close
    (tie.spec (λ c κs. search rules) (λ c. search rules) (λ c. search rules) (λ c κs. search rules) (λ c. search rules) (λ c κs. search rules) (λ c. search rules) (λ c κs. search rules) (λ c. search rules) returns (λ c. search rules) returns-2 (λ c. search rules) returns-3 (λ c. search rules) returns-4)
