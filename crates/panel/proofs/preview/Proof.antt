-- `panel::preview` meets its contract. Assumes nothing.
use lib.ListN.{length}
use Rattle.panel.proofs.Previews.{preview-few, previewed-to}
use borrow.Author.Rules.{rules}
use Rattle.panel.proofs.preview.Statement.{statement}
use Rattle.panel.proofs.preview.Tie as tie

write-judgement-requires : tie.Need-write_judgement-requires
write-judgement-requires c κs =
    (preview-few (length c.args.m.now) c.args.file.now c.args.user c.preview.ensures, c.requires.1, c.requires.2)

returns : tie.Need-returns
returns c =
    let w = c.write_judgement.ensures in
    previewed-to c.args.file.now c.args.user c.preview.result c.requires.0 c.preview.ensures w.0 w.1

pub preview_spec : {M : Type 1} → statement M
preview_spec =
    tie.close
    (tie.spec (λ c κs. search rules) write-judgement-requires (λ c. search rules) (λ c. search rules) returns)
