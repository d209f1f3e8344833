-- A request that was read is one turn. Assumes nothing.
use Rattle.std.proofs.Common.{sym, ◌∙◌, rules}
use Rattle.panel_serving.proofs.Exchanges.{serves-missing, serves-read, text-is, text-inside}
use Rattle.panel_serving.proofs.serving.serve.Statement.{statement}
use Rattle.panel_serving.proofs.serving.serve.Tie as tie

answer-unreadable-requires : tie.Need-answer_unreadable-told-requires
answer-unreadable-requires c κs = c.fetch-fetched.ensures.lacks (sym c.has_failed.ensures ∙ c.if-has_failed.true)

returns : tie.Need-returns-then-has_failed
returns c = serves-missing _ _ c.fetch-fetched.ensures (sym c.has_failed.ensures ∙ c.if-has_failed.true) c.answer_unreadable-told.ensures

array-share-prefix-first : tie.Need-slice_bounds-first-end
array-share-prefix-first c = (text-inside c.bytes_of-first.ensures c.size_of-n.ensures c.content_of-old.ensures c.first_of.ensures c.fetch-fetched.ensures.old-is).0

slice-aggregate-answer : tie.Need-slice_bounds-answer-end
slice-aggregate-answer c = (text-inside c.bytes_of-first.ensures c.size_of-n.ensures c.content_of-old.ensures c.first_of.ensures c.fetch-fetched.ensures.old-is).1

array-share-prefix-second : tie.Need-slice_bounds-second-end
array-share-prefix-second c = (text-inside c.bytes_of-second.ensures c.size_of-k.ensures c.content_of-new.ensures c.second_of.ensures c.fetch-fetched.ensures.new_is).0

slice-aggregate-answer-2 : tie.Need-slice_bounds-answer-end-2
slice-aggregate-answer-2 c = (text-inside c.bytes_of-second.ensures c.size_of-k.ensures c.content_of-new.ensures c.second_of.ensures c.fetch-fetched.ensures.new_is).1

answer-requires : tie.Need-answer-told-requires
answer-requires c κs = c.requires

returns-2 : tie.Need-returns
returns-2 c =
    serves-read c.fetch-fetched.ensures (sym c.has_failed.ensures ∙ c.if-has_failed.false)
    (text-is c.bytes_of-first.ensures c.size_of-n.ensures c.content_of-old.ensures c.first_of.ensures)
    (text-is c.bytes_of-second.ensures c.size_of-k.ensures c.content_of-new.ensures c.second_of.ensures)
    c.answer-told.ensures

pub serve_spec : {M : Type 1} → statement M
serve_spec =
    tie.close
    (tie.spec (λ c κs. search rules) (λ c κs. search rules) answer-unreadable-requires (λ c. search rules) returns (λ c κs. search rules) (λ c κs. search rules) (λ c κs. search rules) (λ c κs. search rules) (λ c κs. search rules) (λ c κs. search rules) (λ c κs. search rules) (λ c κs. search rules) array-share-prefix-first slice-aggregate-answer array-share-prefix-second slice-aggregate-answer-2 answer-requires (λ c. search rules) (λ c. search rules) (λ c. search rules) (λ c. search rules) returns-2)
