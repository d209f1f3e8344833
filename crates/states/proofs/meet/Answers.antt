-- `states::meet` meets its contract. Assumes nothing.
use mathlib.Core.Path.{◌≡◌, refl, sym, ap, ◌∙◌, subst}
use mathlib.Core.List.{List}
use Prim.Native.Nat.{ℕ, ◌+◌, ◌-◌, ◌*◌, ◌≤◌, ◌<◌}
use native.Mathlib.Omega.{arith}
use lib.ListN.{length, get_or, set, length-set}
use Rattle.states.specs.declared.Table.{Table}
use Rattle.std.specs.Prelude.{Some, None}
use Rattle.states.specs.Number.{number_at, bucket_of}
use Rattle.states.specs.Table.{Tally, Put, linked_in, Fits, Meets, count_of, TallyFits}
use Rattle.states.proofs.Numbers.{bucket-small}
use Rattle.states.proofs.Places.{record-before}
use borrow.Author.Rules.{rules}
use Rattle.states.proofs.meet.Goals as goal

pub returns-in_err-count : goal.returns-in_err-count
returns-in_err-count c =
    let h : c.from_residual.result ≡ None = c.from_residual.ensures in
    let w : c.args.tally ≡ None = c.in_err-count.was in
    rw (h, w) (Meets.lost (omega arith), tt)

pub bucket-h-requires : goal.bucket-h-requires
bucket-h-requires c =
    let a = c.args in
    let count = c.in_ok-count.count in
    let told : a.tally ≡ Some count = c.in_ok-count.was in
    let fits = subst (λ (t : Tally). Fits a.table a.quota (count_of a.quota t) a.records.now) told c.requires.0 in
    let within = subst (TallyFits a.quota) told c.requires.1 in
    (fits.stored within).2.buckets.few

pub known-requires : goal.known-requires
known-requires c =
    let a = c.args in
    let count = c.in_ok-count.count in
    let told : a.tally ≡ Some count = c.in_ok-count.was in
    let fits = subst (λ (t : Tally). Fits a.table a.quota (count_of a.quota t) a.records.now) told c.requires.0 in
    let within = subst (TallyFits a.quota) told c.requires.1 in
    let st = fits.stored within in
    record {
      stored = (st.0, st.2);
      s_len = (
        c.requires.2,
        c.bucket-h.ensures ∙ ap (λ (w : ℕ).
            bucket_of w a.table.buckets (number_at a.s.now 0 (length a.s.now))) c.requires.2,
      );
    }

pub returns-then-known : goal.returns-then-known
returns-then-known c =
    let a = c.args in
    let S = number_at a.s.now 0 (length a.s.now) in
    let count = c.in_ok-count.count in
    let told : a.tally ≡ Some count = c.in_ok-count.was in
    let within = subst (TallyFits a.quota) told c.requires.1 in (
      subst (λ (t : Tally). Meets a.table a.quota (count_of a.quota t) S a.parent a.row a.records.now count a.records.now) (sym told)
          (Meets.again within (λ es t. sym (c.known.ensures es t) ∙ c.if-known.true)),
      within,
    )

pub returns-then-count-quota : goal.returns-then-count-quota
returns-then-count-quota c =
    let a = c.args in
    let S = number_at a.s.now 0 (length a.s.now) in
    let count = c.in_ok-count.count in
    let told : a.tally ≡ Some count = c.in_ok-count.was in
    let e : count + 1 ≡ a.quota + 1 = ap (λ (x : ℕ). x + 1) c.if-count-quota.true in (
      subst (λ (t : Tally). Meets a.table a.quota (count_of a.quota t) S a.parent a.row a.records.now (a.quota + 1) a.records.now) (sym told)
          (subst (λ (x : ℕ). Meets a.table a.quota count S a.parent a.row a.records.now x a.records.now) e
          (Meets.full c.if-count-quota.true (λ es t. sym (c.known.ensures es t) ∙ c.if-known.false))),
      tt,
    )

pub put-requires : goal.put-requires
put-requires c =
    let a = c.args in
    let count = c.in_ok-count.count in
    let told : a.tally ≡ Some count = c.in_ok-count.was in
    let fits = subst (λ (t : Tally). Fits a.table a.quota (count_of a.quota t) a.records.now) told c.requires.0 in
    let within = subst (TallyFits a.quota) told c.requires.1 in
    subst (λ (w : ℕ). (w + 4) * count + (w + 4) ≤ length a.records.now) (sym c.requires.2)
    (omega (arith, fits.quota-room, record-before (a.table.width + 4) count a.quota (omega (arith, within, c.if-count-quota.false))))

pub link-requires : goal.link-requires
link-requires c =
    let a = c.args in
    let p = a.table in
    let count = c.in_ok-count.count in
    let told : a.tally ≡ Some count = c.in_ok-count.was in
    let fits = subst (λ (t : Tally). Fits a.table a.quota (count_of a.quota t) a.records.now) told c.requires.0 in
    let within = subst (TallyFits a.quota) told c.requires.1 in
    let b = (fits.stored within).2.buckets in
    let S = number_at a.s.now 0 (length a.s.now) in
    let hl : c.bucket-h.result < p.buckets = omega (
      arith,
      c.bucket-h.ensures,
      bucket-small (length a.s.now) p.buckets S b.some,
    ) in (
      omega (
        arith,
        c.put.auto.records,
        fits.quota-room,
        record-before (p.width + 4) count a.quota (omega
            (arith, within, c.if-count-quota.false)),
      ),
      omega (
        arith,
        c.put.auto.records,
        b.heads,
        record-before (p.width + 4) c.bucket-h.result p.buckets hl,
      ),
      omega (arith, within, c.if-count-quota.false, fits.quota-small),
    )

pub overflow_add-result : goal.overflow_add-result
overflow_add-result c =
    let a = c.args in
    let told : a.tally ≡ Some c.in_ok-count.count = c.in_ok-count.was in
    let fits = subst (λ (t : Tally). Fits a.table a.quota (count_of a.quota t) a.records.now) told c.requires.0 in
    let within = subst (TallyFits a.quota) told c.requires.1 in
    omega (arith, within, fits.quota-small)

pub shape_of-records : goal.shape_of-records
shape_of-records c = c.link.auto.records ∙ c.put.auto.records

pub returns : goal.returns
returns c =
    let a = c.args in
    let p = a.table in
    let S = number_at a.s.now 0 (length a.s.now) in
    let count = c.in_ok-count.count in
    let told : a.tally ≡ Some count = c.in_ok-count.was in
    let within = subst (TallyFits a.quota) told c.requires.1 in
    let less : count < a.quota = omega (arith, within, c.if-count-quota.false) in
    let u : Put p.width a.records.now count S a.parent a.row c.put.new.records =
    subst (λ (w : ℕ). Put w a.records.now count S a.parent a.row c.put.new.records) c.requires.2 c.put.ensures in
    let e : c.bucket-h.result ≡ bucket_of
    p.width p.buckets S = c.bucket-h.ensures ∙ ap (λ (w : ℕ). bucket_of w p.buckets S) c.requires.2 in (
      subst (λ (t : Tally). Meets p a.quota (count_of a.quota t) S a.parent a.row a.records.now (count + 1) c.link.new.records) (sym told)
          (subst (λ (r : List ℕ). Meets p a.quota count S a.parent a.row a.records.now (count + 1) r)
          (sym (c.link.ensures ∙ ap (linked_in p.width c.put.new.records count) e))
          (Meets.added less (λ es t. sym (c.known.ensures es t) ∙ c.if-known.false) c.put.new.records u)),
      omega arith,
    )
