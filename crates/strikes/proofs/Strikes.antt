-- The strikes, computed.
-- Assumes nothing.
use mathlib.Core.Path.{refl}
use Rattle.folds.specs.Folds.{all, first, every, lowest, firsts}
use Rattle.sets.specs.Sets.{size_below, set_of}
use Rattle.block.specs.Tables.{sound_block}
use Rattle.tables.specs.Refusals.{refusal}
use Rattle.tables.specs.Effect.{taken}
use Rattle.strikes.specs.Strikes.{AllStrike}

pub all_strike : AllStrike
unfolding taken refusal lowest sound_block every all set_of size_below first firsts
all_strike = refl
