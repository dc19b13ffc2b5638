-- What a command replies to the contents of the files that it got.
use Rattle.std.specs.Prelude.{ℕ, List}
use Rattle.optra_frame.specs.Puts.{texts_of}
use Rattle.optra_frame.specs.declared.answer.Answer.{Answer}

-- A refusal, by its status and its line; or a status, the text to print, and the files to put before it, each a name and
-- a text.
pub data Reply : Type 0 where
  refused : ℕ → List ℕ → Reply
  answered : ℕ → List ℕ → List (List ℕ × List ℕ) → Reply

-- the reply of an answer
abbrev pub reply_of : Answer → Reply
reply_of answer = answered answer.status answer.text.items (texts_of answer.puts.items)
