-- One request more, and its bytes. Assumes nothing.
use Rattle.std.proofs.Common.{ℕ, ◌+◌, ◌%◌, ap, ◌∙◌, arith, rules}
use Rattle.panel_serving.proofs.Exchanges.{wrapped}
use Rattle.panel_serving.proofs.turning.counted.Statement.{statement}
use Rattle.panel_serving.proofs.turning.counted.Tie as tie

add-t7 : tie.Need-overflow_add-result
add-t7 c = record { fits = omega (arith, c.requires) }

returns : tie.Need-returns
returns c =
    let a = c.args in
    let x = c.wrapping_add_u64.ensures ∙ ap (λ (n : ℕ). (a.before.asked + n) % 18446744073709551616) c.count_of-asked.ensures in
    let y = wrapped a.before.told (a.told.response.count + a.told.response.out) c.length_of-printed.ensures c.wrapping_add_u64-2.ensures in
    λ i. record { requests = a.before.requests + 1; asked = x i; told = y i }

pub counted_spec : {M : Type 1} → statement M
counted_spec =
    tie.close
    (tie.spec (λ c κs. search rules) (λ c κs. search rules) add-t7 (λ c κs. search rules) (λ c κs. search rules) returns)
