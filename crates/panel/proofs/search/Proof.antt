-- `panel::search` meets its contract. Assumes nothing.
use Rattle.search.specs.Chosen.{said}
use Rattle.panel.proofs.Answers.{shown-inside}
use borrow.Author.Rules.{rules}
use Rattle.panel.proofs.search.Statement.{statement}
use Rattle.panel.proofs.search.Tie as tie

returns : tie.Need-returns
returns c =
    let p = c.report_search.ensures in
    let a = c.args in
    record {
      answer = said c.search-answer.result;
      permitted = c.search-answer.ensures;
      line-is = p.0;
      out-is = p.1;
      inside =
          shown-inside a.m.now a.pins.now a.work.now a.out.now a.user a.q.b a.q.k a.q.d c.search-answer.result c.search-answer.ensures
          c.search-answer.auto.out p.1;
    }

pub search_spec : {M : Type 1} → statement M
search_spec =
    tie.close
    (tie.spec (λ c κs. search rules) (λ c κs. search rules) (λ c. search rules) (λ c. search rules) (λ c. search rules) returns)
