-- The files that are read are those that the request names. Assumes nothing.
use Rattle.panel_fetching.proofs.Files.{fetched-none, fetched_one}
use Rattle.panel_fetching.proofs.fetch.Goals as goal

pub returns-in-Zero : goal.returns-in-Zero
returns-in-Zero c = let e = c.none.ensures in fetched-none (rw c.in-Zero.is at c.files_of.ensures.0) e.0 e.1 e.2

pub returns-in-One : goal.returns-in-One
returns-in-One c = let e = c.one.ensures in fetched_one (rw c.in-One.is at c.files_of.ensures.0) c.read_part.ensures e.0 e.1 e.2
