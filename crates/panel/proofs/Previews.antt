-- From what a preview answers to a user to what is printed. Assumes nothing.
use mathlib.Core.Path.{◌≡◌, refl}
use mathlib.Core.Bool.{Bool, true, false, cond}
use mathlib.Core.List.{List, []}
use Prim.Native.Nat.{ℕ, ◌≤◌}
use native.Mathlib.Omega.{arith}
use borrow.Author.Tests.{ltb-true, ltb-false}
use lib.Dec.{ltb}
use Rattle.aiger.specs.Load.{Answer, refused}
use Rattle.load.specs.Answers.{answered}
use Rattle.load.specs.declared.Judgement.{Judgement}
use Rattle.load.proofs.Previews.{words-few}
use Rattle.replies.specs.Refusal.{refusal_text}
use Rattle.replies.specs.Reply.{refusal, Fronts, Leaves}
use Rattle.replies.specs.declared.Report.{Report}
use Rattle.preview_command.specs.Texts.{words_line, answer_line, preview_reply}
use Rattle.preview_command.proofs.Answers.{answer-line, preview-leaves}
use Rattle.call_forms.specs.Table.{preview_row}
use Rattle.call_forms.specs.Forms.{Tested, UserPreviewed}
use Rattle.call_forms.proofs.Tests.{known_only, first-refuses}
use Rattle.panel.specs.Answers.{preview_reply_to}

-- the words that are told are few
pub preview-few : (room : ℕ) (f : List ℕ) (user : ℕ) {a : Answer (List ℕ)} {n : ℕ} → UserPreviewed room f user a n → n ≤ 33032
preview-few room f user (Tested.refuses e) = omega arith
preview-few room f user (Tested.passes e p) = omega (arith, p.1, words-few f)

pub previewed-to : {room : ℕ} (f : List ℕ) (user : ℕ) (x : Judgement) {line out line' out' : List ℕ} {r : Report} → room ≡ 33032
    → UserPreviewed room f user (answered x.answer) x.needed → Fronts (answer_line x.answer) line r.line line'
    → Fronts (words_line x.needed) out r.out out' → Leaves (preview_reply_to user f) line out r line' out'
previewed-to f user x {line} {out} {line'} {out'} {r} long y l o = go (ltb 1 user) refl
  where
    go : (b : Bool) → ltb 1 user ≡ b → Leaves (cond b (refusal 18) (preview_reply f)) line out r line' out'
    go true e =
        let s = first-refuses preview_row user [] (ltb-true 1 user e) y in
        record { line-is = rw (answer-line x.answer (refused 18) s.0) at l; out-is = rw s.1 at o }
    go false e =
        let p = known_only preview_row user (ltb-false 1 user e) (answered x.answer) x.needed y in
        preview-leaves {x = x} (record { answer = p.0; needed = p.1 }) long l o
