-- The numbers of the refusal table's lines, the line that a number names, and what is answered by a table.
-- Assumes nothing.
use Rattle.std.specs.Prelude.{◌≡◌, ◌↔◌, Bool, true, ◌&&◌, ℕ, zero, suc, ◌-◌, ◌≤◌, leb, List, [], ◌∷◌, get_or, Result, Ok, Err}
use Rattle.folds.specs.Folds.{Line, lowest}
use Rattle.folds.specs.Lowest.{ascending, Lowest, None}
use Rattle.refusals.specs.declared.Refusal.{Refusal}
use Rattle.refusals.specs.declared.Refusal.TheVariants.{UnknownKind, TooFewBytes, Unsound, NoSuchWarp, NotReady, NoSuchBarrier, BadThreads, BadSelector, Clashes, AlreadyArrived, BadAddress, NotLive, AlreadyLive, BadCount, OutOfRange, Unseen, EndsQuietly, EndsLast, BadToken, BadParity, TooLong}

-- the number of a line
abbrev pub number : Refusal → ℕ
number UnknownKind = 1
number TooFewBytes = 2
number Unsound = 3
number NoSuchWarp = 4
number NotReady = 5
number NoSuchBarrier = 6
number BadThreads = 7
number BadSelector = 8
number Clashes = 9
number AlreadyArrived = 10
number BadAddress = 11
number NotLive = 12
number AlreadyLive = 13
number BadCount = 14
number OutOfRange = 15
number Unseen = 16
number EndsQuietly = 17
number EndsLast = 18
number BadToken = 19
number BadParity = 20
number TooLong = 21

-- the lines in the order of their numbers
abbrev pub refusals : List Refusal
refusals =
    UnknownKind ∷ TooFewBytes ∷ Unsound ∷ NoSuchWarp ∷ NotReady ∷ NoSuchBarrier ∷ BadThreads ∷ BadSelector ∷ Clashes ∷ AlreadyArrived
    ∷ BadAddress ∷ NotLive ∷ AlreadyLive ∷ BadCount ∷ OutOfRange ∷ Unseen ∷ EndsQuietly ∷ EndsLast ∷ BadToken ∷ BadParity ∷ TooLong ∷ []

-- the line that a number names; past the last it is the last
abbrev pub named : ℕ → Refusal
named n = get_or refusals (n - 1) TooLong

-- a line's number names it
abbrev pub NumberNames : Type 0
NumberNames = (r : Refusal) → named (number r) ≡ r

-- the number of the line that a number names
abbrev pub NamedNumber : Type 0
NamedNumber = (n : ℕ) → 1 ≤ n → n ≤ 21 → number (named n) ≡ n

-- ---- what is answered by a table

-- the refusal of this number, or where it is 0 what is answered else
abbrev pub unless : {A : Type 0} → ℕ → A → Result A Refusal
unless zero a = Ok a
unless (suc n) a = Err (named (suc n))

-- whether a table refuses: its lowest line that applies, and nothing where none does
abbrev pub judged : List Line → Result (Unit {0}) Refusal
judged ls = unless (lowest ls) tt

-- no number of a table is above 21
abbrev pub within : List Line → Bool
within [] = true
within (l ∷ ls) = leb l.1 21 && within ls

-- where a line of such a table holds, the lowest number is that of the line that it names
abbrev pub LowestNamed : Type 0
LowestNamed = (ls : List Line) → within ls ≡ true → (lowest ls ≡ 0 → ⊥) → number (named (lowest ls)) ≡ lowest ls

-- a line is answered exactly when it holds and no line of a lower number does
abbrev pub RefusedExactly : Type 0 → Type 0
RefusedExactly A =
    (ls : List Line) (a : A) → ascending 0 ls ≡ true → within ls ≡ true
    → (r : Refusal) → (unless (lowest ls) a ≡ Err r) ↔ Lowest ls (number r)

-- what is answered else is answered exactly when no line holds
abbrev pub AnsweredExactly : Type 0 → Type 0
AnsweredExactly A = (ls : List Line) (a : A) → ascending 0 ls ≡ true → (unless (lowest ls) a ≡ Ok a) ↔ None ls
