-- An arrival's token, and what is read off one (document 01, "Mbarrier objects").
-- Assumes nothing.
use Rattle.std.specs.Prelude.{ℕ, ◌+◌, ◌*◌, ◌/◌, ◌%◌, ◌^◌, ◌<◌, ◌≡◌, Bool, cond, leb, Result, Ok, Err}
use Rattle.object.specs.declared.Object.{Object}
use Rattle.refusals.specs.declared.Refusal.{Refusal}
use Rattle.refusals.specs.declared.Refusal.TheVariants.{BadToken}

-- "address divided by 8 times 2^20"
abbrev pub slot_unit : ℕ
slot_unit = 2 ^ 20

-- "phase times 2^26"
abbrev pub phase_unit : ℕ
phase_unit = 2 ^ 26

-- "token of 2^58 or more"
abbrev pub token_end : ℕ
token_end = 2 ^ 58

-- "64 mbarrier objects"
abbrev pub slots : ℕ
slots = 64

-- "phase times 2^26, plus address divided by 8 times 2^20, plus pending"
abbrev pub token : Object → ℕ → ℕ
token o slot = o.phase * phase_unit + slot * slot_unit + o.pending

-- the phase in a token
abbrev pub phase_in : ℕ → ℕ
phase_in t = t / phase_unit

-- the slot in a token: an address divided by 8
abbrev pub slot_in : ℕ → ℕ
slot_in t = t / slot_unit % slots

-- the pending count in a token
abbrev pub pending_in : ℕ → ℕ
pending_in t = t % slot_unit

-- "token of 2^58 or more"
abbrev pub too_large : ℕ → Bool
too_large t = leb token_end t

-- "Pending count answers the token's remainder by 2^20", or 19
abbrev pub pending_count : ℕ → Result ℕ Refusal
pending_count t = cond (too_large t) (Err BadToken) (Ok (pending_in t))

-- a row's token gives back its phase, slot and pending count, and is below 2^58
pub record Apart (o : Object) (slot : ℕ) : Type 0 where
  pub phase : phase_in (token o slot) ≡ o.phase
  pub place : slot_in (token o slot) ≡ slot
  pub pending : pending_in (token o slot) ≡ o.pending
  pub small : o.phase < 2 ^ 32 → token o slot < token_end

-- every token comes apart, at a slot of the 64 and a pending count below 2^20
abbrev pub TakenApart : Type 0
TakenApart = (o : Object) (slot : ℕ) → slot < slots → o.pending < slot_unit → Apart o slot
