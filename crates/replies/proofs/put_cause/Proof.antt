-- `replies::put_cause` meets its contract: the words are cut from one text at the places of a table. Assumes nothing.
use mathlib.Core.Path.{◌≡◌}
use mathlib.Core.List.{◌∷◌}
use Prim.Native.Nat.{ℕ, ◌+◌, ◌-◌, ◌≤◌}
use native.Mathlib.Numerals.{add-one}
use native.Mathlib.Omega.{arith}
use lib.ListN.{length, get_or, take, drop}
use Rattle.replies.specs.Refusal.{causes, cause}
use Rattle.replies.proofs.Causes.{cause-short, no_words, joined, ends, cause-part, cause-words}
use borrow.Author.Rules.{rules}
use Rattle.replies.proofs.put_cause.Statement.{statement}
use Rattle.replies.proofs.put_cause.Tie as tie

-- the places of cause n in the code's own table, and the words between them in its text
module _ (w : tie.After-put-arg-1) where
  abbrev number : ℕ
  number = w.args.n

  abbrev from : ℕ
  from = get_or (0 ∷ ends 0 causes) number 0

  abbrev to : ℕ
  to = get_or (0 ∷ ends 0 causes) (number + 1) 0

  few : number ≤ 21
  few = omega (arith, w.if-n-gt21.false)

  forward : from ≤ to
  forward = rw (add-one number) (cause-part number few).forward

  inside : to ≤ length (joined causes)
  inside = rw (add-one number) (cause-part number few).inside

  words : take (to - from) (drop from (joined causes)) ≡ cause number
  words = rw (add-one number) (cause-words number few)

returns : tie.Need-returns-then-n-gt21
returns c = let a = c.args in no_words a.line.now a.at a.n (omega (arith, c.if-n-gt21.true))

sub-put : tie.Need-slice_bounds-put-count
sub-put c = forward c

part-put-start : tie.Need-slice_bounds-put-start
part-put-start c = omega (arith, forward c, inside c)

part-put-end : tie.Need-slice_bounds-put-end
part-put-end c = omega (arith, inside c)

put-requires : tie.Need-put-requires
put-requires c κs = rw (words c.before) (omega (arith, cause-short (number c.before)))

returns-2 : tie.Need-returns
returns-2 c = rw (words c.before.before.before.before) at c.put.ensures

pub put_cause_spec : {M : Type 1} → statement M
put_cause_spec =
    tie.close
    (tie.spec returns (λ c. search rules) (λ c. search rules) (λ c. search rules) (λ c. search rules) (λ c. search rules) sub-put part-put-start part-put-end put-requires (λ c. search rules) returns-2)
