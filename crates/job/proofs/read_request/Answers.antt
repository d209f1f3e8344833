-- `job::read_request` meets its contract: the words and the three numbers of the line. Assumes nothing.
use Rattle.std.proofs.Common.{sym, subst, ◌∙◌, ◌≤◌, length, arith}
use Rattle.job.specs.Query.{FirstLineIs}
use Rattle.job.specs.declared.Query.{Query}
use Rattle.job.specs.declared.FirstLine.TheVariants.{Search}
use Rattle.job.proofs.Requests.{not-search, no_row, few, whole}
use Rattle.job.proofs.read_request.Goals as goal

pub returns-then-not-is_search : goal.returns-then-not-is_search
returns-then-not-is_search c = not-search c.args.input.now (sym c.is_search.ensures ∙ c.if-not-is_search.true)

pub returns-in_default : goal.returns-in_default
returns-in_default c =
    no_row c.args.input.now (sym c.is_search.ensures ∙ c.if-not-is_search.false) c.in_default.ensures.0

pub returns-then-count-lt3 : goal.returns-then-count-lt3
returns-then-count-lt3 c =
    let room : 3 ≤ length c.read_row.new.buf = omega (arith, c.read_row.auto.buf) in
    few c.args.input.now (sym c.is_search.ensures ∙ c.if-not-is_search.false) room c.in-Some.ensures.0 c.if-count-lt3.true

pub returns : goal.returns
returns c =
    let room : 3 ≤ length c.read_row.new.buf = omega (arith, c.read_row.auto.buf) in
    subst (λ (q : Query). FirstLineIs c.args.input.now (Search q)) (sym c.query_of.ensures)
    (whole c.args.input.now (sym c.is_search.ensures ∙ c.if-not-is_search.false) room c.in-Some.ensures.0 c.if-count-lt3.false)
