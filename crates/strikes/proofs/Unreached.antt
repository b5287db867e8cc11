-- The answers that no trace reaches, computed.
-- Assumes nothing.
use mathlib.Core.Path.{refl}
use Rattle.folds.specs.Folds.{all, first, every, lowest, firsts}
use Rattle.sets.specs.Sets.{size_below, set_of}
use Rattle.block.specs.Tables.{sound_block}
use Rattle.tables.specs.Refusals.{refusal}
use Rattle.tables.specs.Effect.{taken}
use Rattle.strikes.specs.Unreached.{AllBroken, LastPhase, LargestTally}

pub all_broken : AllBroken
unfolding taken refusal lowest sound_block every all set_of size_below first firsts
all_broken = refl

pub last_phase : LastPhase
unfolding taken refusal lowest sound_block every all set_of size_below first firsts
last_phase = refl

pub largest_tally : LargestTally
largest_tally = refl
