-- Proofs of what `specs/Laws` claims: each law of `tables` at what the entries' promises allow.
-- Assumes nothing.
use mathlib.Core.Path.{◌≡◌, refl, sym, ◌∙◌, ap, subst}
use mathlib.Core.Logic.{◌↔◌}
use mathlib.Core.Bool.{true, false, true≢false, false≢true}
use Prim.Native.Nat.{ℕ, zero, suc}
use native.Mathlib.Omega.{arith}
use lib.ListN.{length, get_or}
use native.Mathlib.Decide.{ℕ_discrete}
use Rattle.folds.specs.Folds.{all, every}
use Rattle.folds.specs.Lowest.{Lowest, ascending}
use Rattle.folds.proofs.Lowest.{lowest_given}
use Rattle.object.specs.Row.{dead}
use Rattle.block.specs.declared.Turn.{Turn}
use Rattle.std.specs.Prelude.{Ok, Err}
use Rattle.refusals.specs.Refusals.{number, named}
use Rattle.refusals.proofs.Refusals.{number_names, lowest_named, number_some}
use Rattle.block.specs.Verdicts.{Verdict, refused}
use Rattle.block.specs.Tables.{sound_block, fresh_block}
use Rattle.block_laws.proofs.Sound as block-laws
use Rattle.tables.specs.declared.Tally.{Tally}
use Rattle.tables.specs.Tables.{Tables, sound_objects, view_of, is_accepted, number_of, counted, tallied, fresh_tables}
use Rattle.tables.specs.Refusals.{lines}
use Rattle.tables.specs.Effect.{verdict}
use Rattle.tables.specs.Laws.{Sound}
use Rattle.tables.proofs.Laws as tables
use Rattle.tables.proofs.Laws.{refused_leaves_all, objects_left}
use Rattle.tables.proofs.Kept as kept
use Rattle.lent.specs.Entries.{tables_of, fresh_lines, fresh_refusal, fresh_turn}
use Rattle.lent.proofs.Entries.{some_warps}
use Rattle.lent.specs.Laws.{OneAnswer, OneFreshAnswer, RefusedExactly, RefusedLeaves, OthersLeft, KeepsSound, FreshExactly, FreshSound, NoneUnsound}

-- ---- a step

pub one_answer : OneAnswer
one_answer x s v v' b b' l l' y y' e f = record {
  verdict = e.verdict ∙ sym f.verdict;
  block = e.block ∙ sym f.block;
  objects = e.objects ∙ sym f.objects;
  tally = e.tally ∙ sym f.tally;
}

pub refused_exactly : RefusedExactly
refused_exactly x s v b l y e r = subst (λ (u : Verdict). (u ≡ Err r) ↔ Lowest (lines (view_of x.tables s) s) (number r)) (sym e.verdict) (tables.refused_exactly x.tables s r)

-- a refusal adds one to the refused number
counts : (y : Tally) (v : Verdict) → is_accepted v ≡ false → tallied y v ≡ record { accepted = y.accepted; refused = counted y.refused }
counts y (Err r) e = refl
counts y (Ok a) e = cc

pub refused_leaves : RefusedLeaves
refused_leaves x s v b l y e out =
    let h = ap is_accepted (sym e.verdict) ∙ out in
    let same = (refused_leaves_all x.tables s h).tables in
    record {
      block = e.block ∙ ap (λ (t : Tables). t.block) same;
      objects = e.objects ∙ ap (λ (t : Tables). t.objects) same;
      tally = e.tally ∙ counts x.tally (verdict x.tables s) h;
    }

pub others_left : OthersLeft
others_left x s v b l y e i h = ap (λ z. get_or z i dead) e.objects ∙ objects_left x.tables s i h

pub keeps_sound : KeepsSound
keeps_sound x s v b l y e h = subst Sound (sym (λ i. tables_of (e.block i) (e.objects i))) (kept.keeps_sound x.tables s h)

-- ---- fresh tables

pub one_fresh_answer : OneFreshAnswer
one_fresh_answer l₀ y₀ w r r' l l' y y' e f =
    let same = e.answer ∙ sym f.answer in
    record {
      verdict = ap (λ (t : Turn). t.verdict) same;
      block = ap (λ (t : Turn). t.block) same;
      objects = e.objects ∙ sym f.objects;
      tally = e.tally ∙ sym f.tally;
    }

-- the turn where a number is given, and where none is
given_some : (m w : ℕ) → (m ≡ 0 → ⊥) → fresh_turn m w ≡ record { verdict = refused m; block = fresh_block 0 }
given_some zero w h = absurd (h refl)
given_some (suc m) w h = refl

given_none : (m w : ℕ) → m ≡ 0 → is_accepted (fresh_turn m w).verdict ≡ true
given_none m w e = rw e

refused_some : (m w : ℕ) → is_accepted (fresh_turn m w).verdict ≡ false → m ≡ 0 → ⊥
refused_some m w h e = true≢false (sym (given_none m w e) ∙ h)

accepted_none : (m w : ℕ) → is_accepted (fresh_turn m w).verdict ≡ true → m ≡ 0
accepted_none m w h = go (ℕ_discrete m 0)
  where
    go : Dec (m ≡ 0) → m ≡ 0
    go (yes e) = e
    go (no k) = absurd (false≢true (ap (λ z. is_accepted z.verdict) (sym (given_some m w k)) ∙ h))

pub fresh_exactly : FreshExactly
unfolding fresh_refusal ascending
fresh_exactly l₀ y₀ w r l y e n = (to, of)
  where
    m : ℕ
    m = fresh_refusal (length l₀) w

    to : r.verdict ≡ Err n → Lowest (fresh_lines (length l₀) w) (number n)
    to v =
        let h = ap (λ z. z.verdict) (sym e.answer) ∙ v in
        let some = refused_some m w (ap is_accepted h) in
        let k : number (named m) ≡ number n = ap number_of (ap (λ z. z.verdict) (sym (given_some m w some)) ∙ h) in
        (lowest_given (fresh_lines (length l₀) w) refl (number n) (number_some n)).0 (sym (lowest_named (fresh_lines (length l₀) w) refl some) ∙ k)

    of : Lowest (fresh_lines (length l₀) w) (number n) → r.verdict ≡ Err n
    of h =
        let k : m ≡ number n = (lowest_given (fresh_lines (length l₀) w) refl (number n) (number_some n)).1 h in
        ap (λ z. z.verdict) (e.answer ∙ given_some m w (λ z. omega (arith, k, z, number_some n))) ∙ ap refused k ∙ ap Err (number_names n)

-- 64 dead rows are sound
dead_sound : (w : ℕ) → sound_objects (fresh_tables w).objects ≡ true
unfolding all
dead_sound w = refl

pub fresh_sound : FreshSound
fresh_sound l₀ y₀ w r l y e h =
    let none = accepted_none (fresh_refusal (length l₀) w) w (ap (λ z. is_accepted z.verdict) (sym e.answer) ∙ h) in
    let warps = some_warps (length l₀) w none in
    rw (e.answer, e.objects, none) (record { shaped = (block-laws.shape_kept).fresh w; sound = rw (block-laws.fresh_sound w warps.0 warps.1, dead_sound w) })

-- a block of no warps is not
none_sound : sound_block (fresh_block 0) ≡ false
unfolding sound_block every
none_sound = refl

pub none_unsound : NoneUnsound
none_unsound l₀ y₀ w r l y e h l' =
    let some = refused_some (fresh_refusal (length l₀) w) w (ap (λ z. is_accepted z.verdict) (sym e.answer) ∙ h) in
    rw (e.answer, given_some (fresh_refusal (length l₀) w) w some, none_sound)
