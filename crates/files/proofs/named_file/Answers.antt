-- A word that is not all there names no file. Assumes nothing.
use Rattle.input.proofs.Contents.{unread-whole}
use Rattle.files.proofs.Pairs.{not-none}
use Rattle.files.proofs.named_file.Goals as goal

pub returns-in-Some : goal.returns-in-Some
returns-in-Some c =
    let e = c.no_file.ensures in
    record { named = λ h. not-none c.in-Some.is h; missing = λ h. e.0; whole = unread-whole e.0 }
