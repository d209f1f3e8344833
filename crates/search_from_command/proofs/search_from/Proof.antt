-- `search_from_command::search_from` meets its contract. Assumes nothing.
use mathlib.Core.Path.{ap}
use Rattle.load.specs.Answers.{answered}
use Rattle.load_laws.proofs.Stored.{not-loaded, stored, stored-in}
use Rattle.replies.proofs.Loading.{loaded-words}
use Rattle.search_from_command.proofs.Searching.{from-refusal, from-text}
use borrow.Author.Rules.{rules}
use Rattle.search_from_command.proofs.search_from.Statement.{statement}
use Rattle.search_from_command.proofs.search_from.Tie as tie

search-loaded-requires : tie.Need-search_loaded-requires
search-loaded-requires c κs =
    let h = stored c.load.ensures (ap answered c.in-Loaded.is) in
    (stored-in h, c.requires.3)

returns : tie.Need-returns-in-Refused
returns c =
    let a = c.args in
    let e = not-loaded c.load.ensures (ap answered c.in-Refused.is) in
    let f = c.refuse.ensures in (
      from-refusal a.m.now a.file.now c.requires.0 a.q.b a.q.t a.q.place a.q.d a.out.now e f.0 f.1,
      loaded-words c.load.ensures,
    )

returns-2 : tie.Need-returns-in-Loaded
returns-2 c =
    let a = c.args in
    let g = c.search_loaded.ensures in
    let e = stored c.load.ensures (ap answered c.in-Loaded.is) in
    let t = from-text a.m.now a.file.now c.requires.0 a.q.b a.q.t a.q.place a.q.d e in
    (rw t at (rw (c.requires.1, c.requires.2) at g), loaded-words c.load.ensures)

pub search_from_spec : {M : Type 1} → statement M
search_from_spec =
    tie.close
    (tie.spec (λ c κs. search rules) (λ c. search rules) (λ c κs. search rules) (λ c. search rules) search-loaded-requires (λ c. search rules) (λ c. search rules) returns (λ c. search rules) (λ c. search rules) (λ c. search rules) (λ c. search rules) returns-2)
