-- A file that could not be opened has no bytes. Assumes nothing.
use Rattle.input.proofs.Contents.{unread-whole}
use Rattle.files.proofs.read_named_content.Goals as goal

pub returns-in-Err : goal.returns-in-Err
returns-in-Err c = unread-whole c.unread.ensures
