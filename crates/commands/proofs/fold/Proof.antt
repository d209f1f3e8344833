-- `commands::fold` meets its contract. Assumes nothing.
use mathlib.Core.Path.{ap}
use Rattle.load.specs.Answers.{answered}
use Rattle.load_laws.proofs.Stored.{not-loaded, stored, stored-in}
use Rattle.replies.proofs.Loading.{loaded-words}
use Rattle.commands.proofs.Answers.{fold-refusal, fold-text}
use borrow.Author.Rules.{rules}
use Rattle.commands.proofs.fold.Statement.{statement}
use Rattle.commands.proofs.fold.Tie as tie

fold-loaded-requires : tie.Need-fold_loaded-requires
fold-loaded-requires c κs =
    let h = stored c.load.ensures (ap answered c.in-Loaded.is) in
    (stored-in h, c.requires.3)

returns : tie.Need-returns-in-Refused
returns c =
    let f = c.refuse.ensures in
    let a = c.args in
    let e = not-loaded c.load.ensures (ap answered c.in-Refused.is) in (
      fold-refusal a.m.now a.file.now c.requires.0 a.b a.t a.out.now e f.0 f.1,
      loaded-words c.load.ensures,
    )

returns-2 : tie.Need-returns-in-Loaded
returns-2 c =
    let g = c.fold_loaded.ensures in
    let a = c.args in
    let e = stored c.load.ensures (ap answered c.in-Loaded.is) in
    let x = fold-text a.m.now a.file.now c.requires.0 e a.b a.t in
    (rw x at (rw (c.requires.1, c.requires.2) at g), loaded-words c.load.ensures)

pub fold_spec : {M : Type 1} → statement M
fold_spec =
    tie.close
    (tie.spec (λ c κs. search rules) (λ c. search rules) (λ c κs. search rules) (λ c. search rules) fold-loaded-requires (λ c. search rules) (λ c. search rules) returns (λ c. search rules) (λ c. search rules) (λ c. search rules) (λ c. search rules) returns-2)
