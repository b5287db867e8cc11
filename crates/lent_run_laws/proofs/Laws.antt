-- Proofs of what `specs/Laws` claims.
-- Assumes nothing.
use mathlib.Core.Path.{◌≡◌, refl, sym, ap, ap₂, ◌∙◌, subst}
use mathlib.Core.Bool.{Bool, true, false, false≢true}
use mathlib.Core.List.{List, [], ◌∷◌}
use Prim.Native.Nat.{ℕ}
use lib.ListN.{get_or, set}
use lib.Seq.{set-get_or}
use Rattle.steps.specs.declared.Step.{Step}
use Rattle.object.specs.declared.Object.{Object}
use Rattle.object.specs.Row.{dead}
use Rattle.block.specs.declared.Block.{Block}
use Rattle.block.specs.Verdicts.{Verdict}
use Rattle.block.specs.Tables.{live_of}
use Rattle.block_laws.specs.Sound.{Shaped}
use Rattle.std.specs.Prelude.{Option, Some, None, is_some, unwrap_or, Result, Err}
use Rattle.std.specs.Option.{option_map}
use Rattle.refusals.specs.declared.Refusal.{Refusal}
use Rattle.refusals.specs.declared.Refusal.TheVariants.{Unsound}
use Rattle.tables.specs.declared.Seen.{Seen}
use Rattle.tables.specs.declared.Taken.{Taken}
use Rattle.tables.specs.Tables.{Tables, sound_tables, view_of, slot_of, seen_of, is_accepted, tallied}
use Rattle.tables.specs.Effect.{State, taken, verdict, after, next, run, verdicts, live_after}
use Rattle.tables.specs.Laws.{Sound}
use Rattle.tables.proofs.Chains.{taken_unsound}
use Rattle.tables.proofs.Laws.{refused_leaves_all}
use Rattle.tables.proofs.Kept.{keeps_sound, live_followed}
use Rattle.step_decides.specs.declared.Decided.{Decided}
use Rattle.step_decides.specs.Decides.{decided_on, left_of}
use Rattle.step_decides.proofs.Decides.{decided_unsound, decision_seen}
use Rattle.lent.specs.Entries.{tables_of}
use Rattle.lent_run.specs.declared.Checked.{Checked}
use Rattle.lent_run.specs.Run.{known, checked_after, decided_with, onward}
use Rattle.lent_run_laws.specs.Laws.{Fits, CheckFits, GoesOn, GoneIsStepped, RunsOn, UnsoundRefused}

-- what is known of tables is so, as it is of any of which it is said whether they are sound and who is live
known_fits : (z : Bool) (live : ℕ) → (is_some (known z live).live ≡ z) × (z ≡ true → (known z live).live ≡ Some live)
known_fits true live = (refl, λ h. refl)
known_fits false live = (refl, λ h. absurd (false≢true h))

pub check_fits : CheckFits
check_fits t = let k = known_fits (sound_tables t) (live_of t.block) in record { sound = k.0; live = k.1 }

-- ---- one step

-- where nothing is known of the tables it is refused with 3
said_unsound : (live : ℕ) (b : Block) (o : Object) (s : Step) → decided_on (seen_of false live b s) o s ≡ Err Unsound
said_unsound live b o s = sym (decided_unsound (seen_of false live b s) o s refl)

module _ (x : State) (c : Checked) (s : Step) (shaped : Shaped x.tables.block) where
  abbrev t : Tables
  t = x.tables

  abbrev o : Object
  o = get_or t.objects (slot_of s.op) dead

  -- what is seen where this is said to be live
  abbrev seen_with : Option ℕ → Seen
  seen_with live = seen_of (is_some live) (unwrap_or live 0) t.block s

  module _ (fits : Fits c t) where
    -- it decides what it decides on what a check finds
    same : decided_with c t s ≡ decided_on (seen_of (sound_tables t) (live_of t.block) t.block s) o s
    same = go (sound_tables t) refl
      where
        go : (z : Bool) → sound_tables t ≡ z → decided_with c t s ≡ decided_on (seen_of (sound_tables t) (live_of t.block) t.block s) o s
        go true e = ap (λ (live : Option ℕ). decided_on (seen_with live) o s) (fits.live e) ∙ ap (λ (z : Bool). decided_on (seen_of z (live_of t.block) t.block s) o s) (sym e)
        go false e =
            ap (λ (z : Bool). decided_on (seen_of z (unwrap_or c.live 0) t.block s) o s) (fits.sound ∙ e)
            ∙ said_unsound (unwrap_or c.live 0) t.block o s
            ∙ sym (said_unsound (live_of t.block) t.block o s)
            ∙ ap (λ (z : Bool). decided_on (seen_of z (live_of t.block) t.block s) o s) (sym e)

    -- and leaves what the whole step leaves
    left : left_of t.block o (decided_with c t s) ≡ taken (view_of t s) s
    left = ap (left_of t.block o) same ∙ decision_seen t.block shaped (sound_tables t) o s

    decided : (left_of t.block o (decided_with c t s)).verdict ≡ verdict t s
    decided = ap (λ (v : Taken). v.verdict) left

    reached : (onward x c s).state ≡ next x s
    reached = λ i. record {
      tables = record { block = (left i).block; objects = set t.objects (slot_of s.op) (left i).object };
      tally = tallied x.tally (left i).verdict;
    }

    -- unsound tables stay as they are
    stay : sound_tables t ≡ false → after t s ≡ t
    stay e =
        (refused_leaves_all t s (ap (λ (v : Taken). is_accepted v.verdict) (sym (taken_unsound (view_of t s) s e)))).tables

    still_fits : Fits (onward x c s).checked (after t s)
    unfolding checked_after
    still_fits = go (sound_tables t) refl
      where
        some : (live : Option ℕ) (v : Verdict) → is_some (option_map (λ (l : ℕ). live_after l s v) live) ≡ is_some live
        some (Some l) v = refl
        some None v = refl

        go : (z : Bool) → sound_tables t ≡ z → Fits (onward x c s).checked (after t s)
        go true e =
            let ok : Sound t = record { shaped = shaped; sound = e } in
            record {
              sound = some c.live _ ∙ fits.sound ∙ e ∙ sym (keeps_sound t s ok).sound;
              live = λ _.
                  ap₂ (λ (live : Option ℕ) (v : Verdict). option_map (λ (l : ℕ). live_after l s v) live) (fits.live e) decided
                  ∙ ap Some (sym (live_followed t s ok));
            }
        go false e = record {
          sound = some c.live _ ∙ fits.sound ∙ ap sound_tables (sym (stay e));
          live = λ h. absurd (false≢true (sym e ∙ ap sound_tables (sym (stay e)) ∙ h));
        }

    -- sound tables or not, the block keeps its shape
    pub next_shaped : Shaped (next x s).tables.block
    next_shaped = go (sound_tables t) refl
      where
        go : (z : Bool) → sound_tables t ≡ z → Shaped (after t s).block
        go true e = (keeps_sound t s (record { shaped = shaped; sound = e })).shaped
        go false e = subst (λ (u : Tables). Shaped u.block) (sym (stay e)) shaped

pub goes_on : GoesOn
goes_on x c s shaped fits = record {
  verdict = decided x c s shaped fits;
  state = reached x c s shaped fits;
  fits = subst (λ (y : State). Fits (onward x c s).checked y.tables) (sym (reached x c s shaped fits)) (still_fits x c s shaped fits);
}

pub gone_is_stepped : GoneIsStepped
gone_is_stepped x c s g b l y shaped fits e =
    let r = reached x c s shaped fits in (
      record {
        verdict = e.verdict ∙ decided x c s shaped fits;
        block = e.block ∙ ap (λ (z : State). z.tables.block) r;
        objects = e.objects ∙ ap (λ (z : State). z.tables.objects) r;
        tally = e.tally ∙ ap (λ (z : State). z.tally) r;
      },
      subst (λ (k : Checked). Fits k (tables_of b l)) (sym e.checked)
          (subst (Fits (onward x c s).checked) (λ i. tables_of (sym e.block i) (sym e.objects i)) (goes_on x c s shaped fits).fits),
    )

-- ---- a run

pub runs_on : RunsOn
runs_on x c [] shaped fits = record { verdicts = refl; state = refl }
runs_on x c (s ∷ l) shaped fits =
    let step = goes_on x c s shaped fits in
    let ok = subst (λ (y : State). Shaped y.tables.block) (sym step.state) (next_shaped x c s shaped fits) in
    let more = runs_on (onward x c s).state (onward x c s).checked l ok step.fits in
    record {
      verdicts = ap₂ {C = List Verdict} ◌∷◌ step.verdict (more.verdicts ∙ ap (λ (y : State). verdicts y l) step.state);
      state = more.state ∙ ap (λ (y : State). run y l) step.state;
    }

-- ---- tables that are known to be unsound

module _ (x : State) (c : Checked) (s : Step) (shaped : Shaped x.tables.block) (e : c.live ≡ None) where
  refused : decided_with c x.tables s ≡ Err Unsound
  refused =
      ap (λ (live : Option ℕ). decided_on (seen_with x c s shaped live) (o x c s shaped) s) e
      ∙ said_unsound 0 x.tables.block (o x c s shaped) s

  tables_stay : (onward x c s).state.tables ≡ x.tables
  tables_stay =
      (λ i. let left = left_of x.tables.block (o x c s shaped) (refused i) in record { block = left.block; objects = set x.tables.objects (slot_of s.op) left.object })
      ∙ (λ i. record { block = x.tables.block; objects = set-get_or x.tables.objects (slot_of s.op) dead i })

  unsound_stays : (onward x c s).checked.live ≡ None
  unfolding checked_after
  unsound_stays = rw e

pub unsound_refused : UnsoundRefused
unsound_refused x c [] shaped e = record { verdicts = refl; tables = refl }
unsound_refused x c (s ∷ l) shaped e =
    let same = tables_stay x c s shaped e in
    let more = unsound_refused (onward x c s).state (onward x c s).checked l (subst (λ (t : Tables). Shaped t.block) (sym same) shaped) (unsound_stays x c s shaped e) in
    record {
      verdicts =
          ap₂ {C = List Verdict} ◌∷◌ (ap (λ (d : Result Decided Refusal). (left_of x.tables.block (o x c s shaped) d).verdict) (refused x c s shaped e))
          more.verdicts;
      tables = more.tables ∙ same;
    }
