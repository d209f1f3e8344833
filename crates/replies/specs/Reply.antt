-- What a command leaves to be printed: two texts, and how a report tells their lengths. Assumes nothing.
use Rattle.std.specs.Prelude.{◌≡◌, List, [], ℕ, length}
use Rattle.aiger.specs.Load.{Answer, refused, gives}
use Rattle.aiger.specs.Operations.{front}
use Rattle.replies.specs.Refusal.{refusal_text}
use Rattle.replies.specs.declared.Report.{Report}

-- a line, and what is printed after it
pub record Reply : Type 0 where
  pub line : List ℕ
  pub out : List ℕ

-- the line of refusal n, and nothing after it
abbrev pub refusal : ℕ → Reply
refusal n = record { line = refusal_text n; out = [] }

-- the reply to an answer: that of its value, or the line of its refusal
abbrev pub reply_of : {A : Type 0} → (A → Reply) → Answer A → Reply
reply_of f (refused n) = refusal n
reply_of f (gives a) = f a

-- a text stands at the front, everything after it is as it was, and n is the text's length
pub record Fronts (text before : List ℕ) (n : ℕ) (after : List ℕ) : Type 0 where
  pub long : n ≡ length text
  pub contents : after ≡ front text before

-- the two texts stand at the fronts of line and out, and the report has their lengths
pub record Leaves (reply : Reply) (line out : List ℕ) (r : Report) (line' out' : List ℕ) : Type 0 where
  pub line-is : Fronts reply.line line r.line line'
  pub out-is : Fronts reply.out out r.out out'
