-- What laying the text into a buffer answers.
-- Assumes nothing.
use Rattle.std.specs.Prelude.{cond, List, ℕ, leb, length, Option, Some, None}

-- the length of bytes that fit into a buffer, and none where it is too short
abbrev pub answer_of : List ℕ → List ℕ → Option ℕ
answer_of bytes out = cond (leb (length bytes) (length out)) (Some (length bytes)) None
