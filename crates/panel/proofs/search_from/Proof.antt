-- `panel::search_from` meets its contract. Assumes nothing.
use Rattle.search.specs.Chosen.{said}
use Rattle.panel.proofs.Answers.{from-inside}
use borrow.Author.Rules.{rules}
use Rattle.panel.proofs.search_from.Statement.{statement}
use Rattle.panel.proofs.search_from.Tie as tie

returns : tie.Need-returns
returns c =
    let p = c.report_search.ensures in
    let a = c.args in
    record {
      answer = said c.search_from-answer.result;
      permitted = c.search_from-answer.ensures;
      line-is = p.0;
      out-is = p.1;
      inside =
          from-inside a.m.now a.pins.now a.work.now a.out.now a.user a.q.b a.q.t a.q.place a.q.d c.search_from-answer.result c.search_from-answer.ensures
          c.search_from-answer.auto.out p.1;
    }

pub search_from_spec : {M : Type 1} → statement M
search_from_spec =
    tie.close
    (tie.spec (λ c κs. search rules) (λ c κs. search rules) (λ c. search rules) (λ c. search rules) (λ c. search rules) returns)
