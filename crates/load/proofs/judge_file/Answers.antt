-- `load::judge_file` meets its contract: the tests 1 to 4, and then the lines. Assumes nothing.
use Rattle.std.proofs.Common.{sym, ap, ◌∙◌, Bool, arith, drop}
use Rattle.aiger.specs.File as file
use Rattle.headers.specs.Header.{counts_meant}
use Rattle.roundtrip.proofs.LoadValid.{right-fit}
use Rattle.load.specs.Steps.{narrowed, header_meant, load_body}
use Rattle.load.specs.declared.Counts.{Counts}
use Rattle.load.proofs.Finishing.{limits-read, fit_narrowed, refused-empty, refused-long, refused-header, refused-counts, refused-room, load-rest, none-empty, none-long, none-header, none-counts, some_words, file-judged, judged-refused}
use Rattle.load.proofs.judge_file.Goals as goal

pub returns-then-file-lt1 : goal.returns-then-file-lt1
returns-then-file-lt1 c =
    let a = c.args in
    judged-refused c.refused.ensures (refused-empty a.room a.file.now c.if-file-lt1.true) (none-empty a.file.now c.if-file-lt1.true)

pub returns-then-file-gt65536 : goal.returns-then-file-gt65536
returns-then-file-gt65536 c =
    let a = c.args in
    judged-refused c.refused-then-file-gt65536.ensures (refused-long a.room a.file.now c.if-file-gt65536.true)
    (none-long a.file.now c.if-file-gt65536.true)

pub returns-in_default : goal.returns-in_default
returns-in_default c =
    let a = c.args in
    let e = sym c.in_default.ensures.meaning in
    judged-refused c.refused-in_default.ensures (refused-header a.room a.file.now c.if-file-lt1.false c.if-file-gt65536.false e)
    (none-header a.file.now c.if-file-lt1.false c.if-file-gt65536.false e)

pub returns-then-not-counts_right : goal.returns-then-not-counts_right
returns-then-not-counts_right c =
    let a = c.args in
    let h = c.in-Some.header in
    let e = sym c.in-Some.ensures.meaning in
    let said = ap (λ (b : Bool). file.counts_right b (counts_meant h.counts)) (sym c.is_binary-binary.ensures) ∙ sym c.counts_right.ensures in
    let wrong = said ∙ c.if-not-counts_right.true in
    judged-refused c.refused-then-not-counts_right.ensures (refused-counts a.room a.file.now c.if-file-lt1.false c.if-file-gt65536.false h.counts h.next e wrong) (none-counts a.file.now c.if-file-lt1.false c.if-file-gt65536.false h.counts h.next e wrong)

pub overflow_mul-needed : goal.overflow_mul-needed
overflow_mul-needed c =
    let a = c.args in
    let h = c.in-Some.header in
    let e = sym c.in-Some.ensures.meaning in
    let said = ap (λ (b : Bool). file.counts_right b (counts_meant h.counts)) (sym c.is_binary-binary.ensures) ∙ sym c.counts_right.ensures in
    let right = said ∙ c.if-not-counts_right.false in
    omega (arith, limits-read h.counts (right-fit _ _ right))

pub overflow_add-needed : goal.overflow_add-needed
overflow_add-needed c =
    let a = c.args in
    let h = c.in-Some.header in
    let e = sym c.in-Some.ensures.meaning in
    let said = ap (λ (b : Bool). file.counts_right b (counts_meant h.counts)) (sym c.is_binary-binary.ensures) ∙ sym c.counts_right.ensures in
    let right = said ∙ c.if-not-counts_right.false in
    omega (arith, limits-read h.counts (right-fit _ _ right))

pub overflow_add-needed-2 : goal.overflow_add-needed-2
overflow_add-needed-2 c =
    let a = c.args in
    let h = c.in-Some.header in
    let e = sym c.in-Some.ensures.meaning in
    let said = ap (λ (b : Bool). file.counts_right b (counts_meant h.counts)) (sym c.is_binary-binary.ensures) ∙ sym c.counts_right.ensures in
    let right = said ∙ c.if-not-counts_right.false in
    omega (arith, limits-read h.counts (right-fit _ _ right))

pub returns-then-room-needed : goal.returns-then-room-needed
returns-then-room-needed c =
    let a = c.args in
    let h = c.in-Some.header in
    let e = sym c.in-Some.ensures.meaning in
    let said = ap (λ (b : Bool). file.counts_right b (counts_meant h.counts)) (sym c.is_binary-binary.ensures) ∙ sym c.counts_right.ensures in
    let right = said ∙ c.if-not-counts_right.false in
    record {
      answer = refused-room a.room a.file.now c.if-file-lt1.false c.if-file-gt65536.false h.counts h.next e right c.if-room-needed.true;
      needed = some_words a.file.now c.if-file-lt1.false c.if-file-gt65536.false h.counts h.next e right;
    }

pub narrow-requires : goal.narrow-requires
narrow-requires c =
    let a = c.args in
    let h = c.in-Some.header in
    let e = sym c.in-Some.ensures.meaning in
    let said = ap (λ (b : Bool). file.counts_right b (counts_meant h.counts)) (sym c.is_binary-binary.ensures) ∙ sym c.counts_right.ensures in
    let right = said ∙ c.if-not-counts_right.false in
    right-fit _ _ right

pub judge_sections-answer-requires-clause-k_value : goal.judge_sections-answer-requires-clause-k_value
judge_sections-answer-requires-clause-k_value c =
    let h = c.in-Some.header in
    let said = ap (λ (b : Bool). file.counts_right b (counts_meant h.counts)) (sym c.is_binary-binary.ensures) ∙ sym c.counts_right.ensures in
    let right = said ∙ c.if-not-counts_right.false in
    ap (λ (x : Counts). file.counts_fit (header_meant x)) c.narrow.ensures ∙ fit_narrowed h.counts (right-fit _ _ right)

pub returns : goal.returns
returns c =
    let a = c.args in
    let h = c.in-Some.header in
    let e = sym c.in-Some.ensures.meaning in
    let said = ap (λ (b : Bool). file.counts_right b (counts_meant h.counts)) (sym c.is_binary-binary.ensures) ∙ sym c.counts_right.ensures in
    let right = said ∙ c.if-not-counts_right.false in
    let k = c.narrow.ensures in
    record {
      answer =
          file-judged
          (load-rest a.room a.file.now c.if-file-lt1.false c.if-file-gt65536.false h.counts h.next e right c.if-room-needed.false
          ∙ ap (λ (x : Bool). load_body x (header_meant (narrowed h.counts)) (drop h.next a.file.now)) (sym c.is_binary-binary.ensures)
          ∙ ap (λ (x : Counts). load_body c.is_binary-binary.result (header_meant x) (drop h.next a.file.now)) (sym k))
          _ c.judge_sections-answer.result c.judge_sections-answer.ensures;
      needed = some_words a.file.now c.if-file-lt1.false c.if-file-gt65536.false h.counts h.next e right;
    }
