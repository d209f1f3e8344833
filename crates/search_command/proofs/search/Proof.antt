-- `search_command::search` meets its contract. Assumes nothing.
use mathlib.Core.Path.{ap}
use Rattle.load.specs.Answers.{answered}
use Rattle.load_laws.proofs.Stored.{not-loaded, stored, stored-in}
use Rattle.replies.proofs.Loading.{loaded-words}
use Rattle.search_command.proofs.Searching.{search-refusal, search-text, search-note}
use borrow.Author.Rules.{rules}
use Rattle.search_command.proofs.search.Statement.{statement}
use Rattle.search_command.proofs.search.Tie as tie

search-loaded-requires : tie.Need-search_loaded-requires
search-loaded-requires c κs =
    let h = stored c.load.ensures (ap answered c.in-Loaded.is) in
    (stored-in h, c.requires.3, c.requires.4)

returns : tie.Need-returns-in-Refused
returns c =
    let a = c.args in
    let e = not-loaded c.load.ensures (ap answered c.in-Refused.is) in (
      search-refusal a.m.now a.file.now c.requires.0 a.q.b a.q.k a.q.d a.out.now a.note.now e
          c.write_refusal-length.ensures,
      loaded-words c.load.ensures,
    )

returns-2 : tie.Need-returns-in-Loaded
returns-2 c =
    let a = c.args in
    let g = c.search_loaded.ensures in
    let e = stored c.load.ensures (ap answered c.in-Loaded.is) in
    let t = search-text a.m.now a.file.now c.requires.0 a.q.b a.q.k a.q.d e in
    let n = search-note a.m.now a.file.now c.requires.0 a.q.b a.q.k a.q.d e in
    (rw (t, n) at (rw (c.requires.1, c.requires.2) at g), loaded-words c.load.ensures)

pub search_spec : {M : Type 1} → statement M
search_spec =
    tie.close
    (tie.spec (λ c κs. search rules) (λ c. search rules) (λ c κs. search rules) (λ c. search rules) search-loaded-requires (λ c. search rules) (λ c. search rules) returns (λ c. search rules) (λ c. search rules) (λ c. search rules) (λ c. search rules) (λ c. search rules) returns-2)
