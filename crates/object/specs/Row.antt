-- One mbarrier object's row, and what each step does to it (document 01, "Mbarrier objects" and "Refusal numbers").
-- Assumes nothing.
use Rattle.std.specs.Prelude.{ℕ, ◌+◌, ◌-◌, ◌%◌, Bool, true, false, not, cond, ◌&&◌, ◌||◌, List, [], ◌∷◌, ltb, leb, eqb, Result, ℤ, pos, negsuc, neg_ℤ, ◌+ℤ◌, ◌-ℤ◌}
use Rattle.std.specs.Int.Signed.{lt_z}
use Rattle.folds.specs.Folds.{digit, Line, lowest}
use Rattle.object.specs.declared.Object.{Object}
use Rattle.object.specs.declared.Act.{Act}
use Rattle.object.specs.declared.Act.TheVariants.{Init, Inval, Arrive, Expect, Complete, Token, Parity}
use Rattle.object.specs.declared.Answer.{Answer}
use Rattle.refusals.specs.declared.Refusal.{Refusal}
use Rattle.refusals.specs.Refusals.{unless}
use Rattle.object.specs.Tokens.{token, phase_in, slot_in, too_large}

-- 1,048,575: the most that is expected, and the most transactions either way
abbrev pub most : ℕ
most = 1048575

-- 4,294,967,295: the last phase
abbrev pub last_phase : ℕ
last_phase = 4294967295

-- ---- what a step does to a row

-- "Inval makes the row dead and zero"
abbrev pub dead : Object
dead = record { live = false; expected = 0; pending = 0; tx = pos 0; phase = 0; seen = false }

-- "expected and pending are the count, transactions 0, phase 0, seen"
abbrev pub fresh : ℕ → Object
fresh n = record { live = true; expected = n; pending = n; tx = pos 0; phase = 0; seen = true }

-- the row with another transaction count
abbrev pub with_tx : Object → ℤ → Object
with_tx o z = record { live = o.live; expected = o.expected; pending = o.pending; tx = z; phase = o.phase; seen = o.seen }

-- "Expect adds to the transaction count"
abbrev pub expects : Object → ℕ → Object
expects o x = with_tx o (o.tx +ℤ pos x)

-- "complete subtracts"
abbrev pub completes : Object → ℕ → Object
completes o x = with_tx o (o.tx -ℤ pos x)

-- "A drop lowers expected, then arrives"; "Arrive lowers pending by the count"
abbrev pub arrives : Object → ℕ → Bool → Object
arrives o n drop = record {
  live = o.live;
  expected = cond drop (o.expected - n) o.expected;
  pending = o.pending - n;
  tx = o.tx;
  phase = o.phase;
  seen = o.seen;
}

-- "A 1 sets the seen mark"
abbrev pub told : Object → Bool → Object
told o said = record { live = o.live; expected = o.expected; pending = o.pending; tx = o.tx; phase = o.phase; seen = said || o.seen }

-- "A test by token says 1 if the token's phase is before the current one"
abbrev pub token_says : Object → ℕ → Bool
token_says o t = ltb (phase_in t) o.phase

-- "A test by parity says 1 if the parity differs from the phase's; in phase 0 there is no previous phase and parity 1 says 0"
abbrev pub parity_says : Object → ℕ → Bool
parity_says o p = not (eqb p (o.phase % 2)) && not (eqb o.phase 0)

-- what a step does to the row, before a phase completes; "With an attached expect .. the expect comes first"
abbrev pub acted : Object → Act → Object
acted o (Init n) = fresh n
acted o Inval = dead
acted o (Arrive n drop x quiet) = arrives (expects o x) n drop
acted o (Expect x) = expects o x
acted o (Complete x) = completes o x
acted o (Token t) = told o (token_says o t)
acted o (Parity p) = told o (parity_says o p)

-- ---- completing a phase

-- a signed number is zero
abbrev pub is_zero : ℤ → Bool
is_zero (pos n) = eqb n 0
is_zero (negsuc n) = false

-- "pending and transactions are both 0"
abbrev pub both_zero : Object → Bool
both_zero o = eqb o.pending 0 && is_zero o.tx

-- "the phase goes up by one, pending becomes expected, seen is cleared"
abbrev pub next_phase : Object → Object
next_phase o = record { live = o.live; expected = o.expected; pending = o.expected; tx = o.tx; phase = o.phase + 1; seen = false }

-- "After an arrival or a complete, and not after an expect alone"
abbrev pub may_end : Act → Bool
may_end (Init n) = false
may_end Inval = false
may_end (Arrive n drop x quiet) = true
may_end (Expect x) = false
may_end (Complete x) = true
may_end (Token t) = false
may_end (Parity p) = false

-- "the phase completes if pending and transactions are both 0"
abbrev pub ends : Object → Act → Bool
ends o a = may_end a && both_zero (acted o a)

-- the row after an accepted step
abbrev pub row_after : Object → Act → Object
row_after o a = cond (ends o a) (next_phase (acted o a)) (acted o a)

-- ---- the value

-- "Arrivals and drops answer a token of the state before them", tests 1 or 0; "a value not fixed here .. is 0"
abbrev pub value_of : Object → ℕ → Act → ℕ
value_of o slot (Init n) = 0
value_of o slot Inval = 0
value_of o slot (Arrive n drop x quiet) = token o slot
value_of o slot (Expect x) = 0
value_of o slot (Complete x) = 0
value_of o slot (Token t) = digit (token_says o t)
value_of o slot (Parity p) = digit (parity_says o p)

-- ---- the refusal table, lines 12 to 20

-- an init
abbrev pub is_init : Act → Bool
is_init (Init n) = true
is_init Inval = false
is_init (Arrive n drop x quiet) = false
is_init (Expect x) = false
is_init (Complete x) = false
is_init (Token t) = false
is_init (Parity p) = false

-- 12: "object not live (all but init)"
abbrev pub not_live : Object → Act → Bool
not_live o a = not (is_init a) && not o.live

-- 13: "object live (init)"
abbrev pub already_live : Object → Act → Bool
already_live o a = is_init a && o.live

-- "init count not 1 to 1,048,575"
abbrev pub bad_init : ℕ → Bool
bad_init n = eqb n 0 || ltb most n

-- "arrival or drop count 0 or above pending; drop count also not below expected"
abbrev pub bad_arrival : Object → ℕ → Bool → Bool
bad_arrival o n drop = eqb n 0 || ltb o.pending n || (drop && leb o.expected n)

-- 14: the count of an init, an arrival or a drop
abbrev pub bad_count : Object → Act → Bool
bad_count o (Init n) = bad_init n
bad_count o Inval = false
bad_count o (Arrive n drop x quiet) = bad_arrival o n drop
bad_count o (Expect x) = false
bad_count o (Complete x) = false
bad_count o (Token t) = false
bad_count o (Parity p) = false

-- below -1,048,575 or above 1,048,575
abbrev pub outside : ℤ → Bool
outside z = lt_z z (neg_ℤ (pos most)) || lt_z (pos most) z

-- 15: "transaction count would leave its range"
abbrev pub out_of_range : Object → Act → Bool
out_of_range o (Init n) = false
out_of_range o Inval = false
out_of_range o (Arrive n drop x quiet) = outside (o.tx +ℤ pos x)
out_of_range o (Expect x) = outside (o.tx +ℤ pos x)
out_of_range o (Complete x) = outside (o.tx -ℤ pos x)
out_of_range o (Token t) = false
out_of_range o (Parity p) = false

-- 16: "arrival or drop while the previous phase is unseen"
abbrev pub unseen : Object → Act → Bool
unseen o (Init n) = false
unseen o Inval = false
unseen o (Arrive n drop x quiet) = not o.seen
unseen o (Expect x) = false
unseen o (Complete x) = false
unseen o (Token t) = false
unseen o (Parity p) = false

-- a noComplete step
abbrev pub no_complete : Act → Bool
no_complete (Init n) = false
no_complete Inval = false
no_complete (Arrive n drop x quiet) = quiet
no_complete (Expect x) = false
no_complete (Complete x) = false
no_complete (Token t) = false
no_complete (Parity p) = false

-- 17: "a noComplete step would complete the phase"
abbrev pub ends_quietly : Object → Act → Bool
ends_quietly o a = no_complete a && ends o a

-- 18: "the step would complete phase 4,294,967,295"
abbrev pub ends_last : Object → Act → Bool
ends_last o a = ends o a && eqb o.phase last_phase

-- "of a phase neither current nor the one before"; before phase 0 there is none
abbrev pub far_phase : Object → ℕ → Bool
far_phase o t = not (eqb (phase_in t) o.phase) && not (eqb (phase_in t + 1) o.phase)

-- 19: "token of 2^58 or more; in a test also another object's, or of a phase neither current nor the one before"
abbrev pub bad_token : Object → ℕ → Act → Bool
bad_token o slot (Init n) = false
bad_token o slot Inval = false
bad_token o slot (Arrive n drop x quiet) = false
bad_token o slot (Expect x) = false
bad_token o slot (Complete x) = false
bad_token o slot (Token t) = too_large t || not (eqb (slot_in t) slot) || far_phase o t
bad_token o slot (Parity p) = false

-- 20: "parity above 1"
abbrev pub bad_parity : Act → Bool
bad_parity (Init n) = false
bad_parity Inval = false
bad_parity (Arrive n drop x quiet) = false
bad_parity (Expect x) = false
bad_parity (Complete x) = false
bad_parity (Token t) = false
bad_parity (Parity p) = ltb 1 p

-- the lines of the table, in its order
abbrev pub lines : Object → ℕ → Act → List Line
lines o slot a =
    (not_live o a, 12)
    ∷ (already_live o a, 13)
    ∷ (bad_count o a, 14)
    ∷ (out_of_range o a, 15)
    ∷ (unseen o a, 16)
    ∷ (ends_quietly o a, 17)
    ∷ (ends_last o a, 18)
    ∷ (bad_token o slot a, 19)
    ∷ (bad_parity a, 20)
    ∷ []

-- "Where several apply, the lowest is given"; 0 where none does
abbrev pub refusal : Object → ℕ → Act → ℕ
refusal o slot a = lowest (lines o slot a)

-- ---- a step

-- what an accepted step leaves and answers that completes no phase
abbrev pub not_done : Object → ℕ → Answer
not_done o v = record { row = o; value = v; done = false }

-- what an accepted step leaves and answers: the row after it, its value, and whether the phase completed
abbrev pub answered : Object → ℕ → Act → Answer
answered o slot a = record { row = row_after o a; value = value_of o slot a; done = ends o a }

-- a step on the row of the object at a slot, which is its address divided by 8
unfoldable pub step_row : Object → ℕ → Act → Result Answer Refusal
step_row o slot a = unless (refusal o slot a) (answered o slot a)
