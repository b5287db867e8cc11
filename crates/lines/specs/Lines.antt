-- The lines that are printed, as ASCII bytes: document 01, "What the program prints".
-- Assumes nothing.
use Rattle.std.specs.Prelude.{Bool, true, false, List, [], ◌∷◌, ◌++◌, ℕ, Ok, Err}
use Rattle.digits.specs.Digits.{decimal, warps}
use Rattle.refusals.specs.Refusals.{number}
use Rattle.block.specs.Verdicts.{Verdict}

-- ---- words

-- done: 1 or 0
abbrev pub flag : Bool → ℕ
flag true = 49
flag false = 48

abbrev pub space : ℕ
space = 32

abbrev pub newline : ℕ
newline = 10

-- `ok`, `no` and `end`
abbrev pub ok : List ℕ
ok = 111 ∷ 107 ∷ []

abbrev pub no : List ℕ
no = 110 ∷ 111 ∷ []

abbrev pub end : List ℕ
end = 101 ∷ 110 ∷ 100 ∷ []

-- ---- lines

-- a line has at most 56 bytes
abbrev pub most_line : ℕ
most_line = 56

-- words with a space between each and the next, and a newline after the last
abbrev pub line : List (List ℕ) → List ℕ
line [] = newline ∷ []
line (w ∷ []) = w ++ newline ∷ []
line (w ∷ x ∷ ws) = w ++ space ∷ line (x ∷ ws)

-- `N ok V D M` or `N no R`
unfoldable pub line_of : ℕ → Verdict → List ℕ
line_of n (Ok a) = line (decimal n ∷ ok ∷ decimal a.value ∷ (flag a.done ∷ []) ∷ warps a.released ∷ [])
line_of n (Err r) = line (decimal n ∷ no ∷ decimal (number r) ∷ [])

-- `end A B`
unfoldable pub end_of : ℕ → ℕ → List ℕ
end_of a b = line (end ∷ decimal a ∷ decimal b ∷ [])
