-- `panel_lines::read_task` meets its contract. Assumes nothing.
use borrow.Author.Rules.{rules}
use Rattle.panel_lines.proofs.read_task.Statement.{statement}
use Rattle.panel_lines.proofs.read_task.Tie as tie

returns : tie.Need-returns-in-Pin
returns c = rw c.in-Pin.is c.read_pin.ensures

returns-2 : tie.Need-returns-in-Search
returns-2 c = rw c.in-Search.is c.read_search.ensures

returns-3 : tie.Need-returns-in-Fold
returns-3 c = rw c.in-Fold.is c.read_fold.ensures

returns-4 : tie.Need-returns-in-Write
returns-4 c = rw c.in-Write.is c.read_write.ensures

returns-5 : tie.Need-returns-in-Load
returns-5 c = rw c.in-Load.is c.read_load.ensures

returns-6 : tie.Need-returns-in-Preview
returns-6 c = rw c.in-Preview.is c.read_preview.ensures

returns-7 : tie.Need-returns-in-Join
returns-7 c = rw c.in-Join.is c.read_join.ensures

returns-8 : tie.Need-returns-in-Replay
returns-8 c = rw c.in-Replay.is c.read_view.ensures

returns-9 : tie.Need-returns-in-Widen
returns-9 c = rw c.in-Widen.is c.read_view-in-Widen.ensures

returns-10 : tie.Need-returns-in-Waveform
returns-10 c = rw c.in-Waveform.is c.read_waveform.ensures

returns-11 : tie.Need-returns-in-Generate
returns-11 c = rw c.in-Generate.is c.read_generate.ensures

returns-12 : tie.Need-returns-in-SearchFrom
returns-12 c = rw c.in-SearchFrom.is c.read_search_from.ensures

pub read_task_spec : {M : Type 1} → statement M
read_task_spec =
    tie.close
    (tie.spec (λ c. search rules) (λ c κs. search rules) (λ c. search rules) (λ c κs. search rules) (λ c. search rules) (λ c κs. search rules) (λ c. search rules) (λ c κs. search rules) (λ c. search rules) (λ c κs. search rules) (λ c. search rules) (λ c κs. search rules) (λ c. search rules) (λ c κs. search rules) (λ c. search rules) (λ c κs. search rules) (λ c. search rules) (λ c κs. search rules) (λ c. search rules) (λ c κs. search rules) (λ c. search rules) (λ c κs. search rules) (λ c. search rules) (λ c κs. search rules) returns returns-2 returns-3 returns-4 returns-5 returns-6 returns-7 returns-8 returns-9 returns-10 returns-11 returns-12)
