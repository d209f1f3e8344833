-- Clause 12.12: what the program generate prints. Assumes nothing.
use Rattle.std.specs.Prelude.{cond, [], ℕ}
use Rattle.replies.specs.Reply.{Reply, refusal}
use Rattle.generated.specs.Generated.{counts_permitted, generated_text}

-- the text of the circuit of a seed and counts, or the line of refusal 3. An output for the longest text is lent, so 13 is never given
unfoldable pub generate_reply : ℕ → ℕ → ℕ → ℕ → Reply
generate_reply seed i l a = cond (counts_permitted i l a) (record { line = []; out = generated_text seed i l a }) (refusal 3)
