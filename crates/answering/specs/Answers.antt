-- What the functions that answer traces promise.
-- Assumes nothing.
use Rattle.std.specs.Prelude.{◌≡◌, Bool, true, false, cond, ◌&&◌, ℕ, ◌+◌, ◌-◌, ◌≤◌, ◌<◌, min}
use Rattle.answering.specs.declared.output.Written.{Written}

-- the number after n, up to the largest that a counter holds
abbrev pub next : ℕ → ℕ
next n = min (n + 1) 18446744073709551615

-- nothing is written, and no write failed
abbrev pub nothing : Written
nothing = record { input = false; files = 0; all = true }

-- standard input is answered, or the write failed
abbrev pub input_answered : Bool → Written
input_answered done = record { input = done; files = 0; all = done }

-- one more file is answered
abbrev pub one_more : Written → Written
one_more w = record { input = w.input; files = next w.files; all = true }

-- a write failed
abbrev pub failed : Written → Written
failed w = record { input = w.input; files = w.files; all = false }

-- what was written, and the answer to the next file after it, where that was written; what follows a write that failed is not counted
abbrev pub plus_file : Written → Bool → Written
plus_file w done = cond (w.all && done) (one_more w) (failed w)

-- so many arguments, the program's own name first: where no write failed each of the others is answered, and else fewer are
pub record FilesAnswered (count : ℕ) (w : Written) : Type 0 where
  pub input : w.input ≡ false
  pub each : w.all ≡ true → w.files ≡ count - 1
  pub fewer : w.all ≡ false → w.files < count - 1

-- every trace is answered: standard input where no argument names a file, and else each file
pub record Answered (count : ℕ) (w : Written) : Type 0 where
  pub input : count < 2 → w ≡ input_answered w.all
  pub files : 2 ≤ count → FilesAnswered count w
