-- Laws of changes: which change is which turn of a block.
-- Assumes nothing.
use mathlib.Core.Path.{◌≡◌, refl, sym, ap, ◌∙◌}
use mathlib.Core.Bool.{Bool, true, false, not, cond, ◌&&◌, and-false, false≢true}
use mathlib.Core.List.{List, [], ◌∷◌}
use Prim.Native.Nat.{ℕ, zero, suc, ◌<◌, ◌^◌}
use native.Mathlib.Decide.{ℕ_discrete}
use native.Mathlib.Nat.{lt_of_le_of_lt}
use lib.Bits.{bit_and, bit_or, and_le_l}
use lib.Dec.{eqb, ltb}
use lib.ListN.{length}
use lib.Seq.{set_out, get_or-set_same, get_or-set_other}
use borrow.Author.Tests.{eq-eqb, ltb-true, ltb-false}
use Rattle.folds.specs.Folds.{first, every, firsts}
use Rattle.std.specs.Prelude.{Some, None}
use Rattle.sets.specs.Sets.{has, put, part}
use Rattle.sets.proofs.Sets.{has_none, has_and, has_put_own, has_put_other, has_set_of, set_of_lt, ext, part_has}
use Rattle.block.specs.Tables.{most_warps, barrier_count, fresh_warp, barrier_at, is_idle, is_exited, live_of}
use Rattle.barrier_row.specs.Rows.{arrived_row, completes}
use Rattle.block.specs.declared.Status.TheVariants.{Ready, Waiting, Exited}
use Rattle.block.specs.declared.Warp.{Warp}
use Rattle.block.specs.declared.Barrier.{Barrier}
use Rattle.block.specs.declared.Block.{Block}
use Rattle.block.specs.Verdicts.{Verdict, accepted}
use Rattle.block.specs.declared.Turn.{Turn}
use Rattle.block_steps.specs.Steps.{released_warp, released_warps, completed, goes_on, without, opened}
use Rattle.block_steps.specs.Changes.{with_status, changed, none_freed, no_change, made, going_on, completing, ArrivalSeen, first_opening, ExitSeen}

-- where none waits, none is released
freed_none : (n i : ℕ) (ws : List Warp) → firsts n i (released_warp none_freed) ws ≡ ws
unfolding firsts
freed_none zero i ws = refl
freed_none (suc n) i [] = refl
freed_none (suc n) i (x ∷ ws) =
    (λ j. cond (has_none i j) (record { status = Ready; result = x.result }) x ∷ firsts n (suc i) (released_warp none_freed) ws)
    ∙ ap (λ (t : List Warp). x ∷ t) (freed_none n (suc i) ws)

pub none_released : (ws : List Warp) → released_warps none_freed ws ≡ ws
none_released ws = freed_none most_warps 0 ws

-- the same verdict with the same rows is the same turn
same_turn : (v : Verdict) (n : ℕ) {ws us : List Warp} {rs ts : List Barrier} → ws ≡ us → rs ≡ ts
    → ◌≡◌ {A = Turn} (record { verdict = v; block = record { warps = n; rows = ws; barriers = rs } }) (record { verdict = v; block = record { warps = n; rows = us; barriers = ts } })
same_turn v n e f = λ j. record { verdict = v; block = record { warps = n; rows = e j; barriers = f j } }

module _ (b : Block) where
  -- no change leaves the block
  pub unchanged : changed b no_change ≡ b
  unchanged = λ j. record { warps = b.warps; rows = none_released b.rows j; barriers = b.barriers }

  made_waits : (w k : ℕ) (r : Barrier) → made b (going_on (Some (w, Waiting k)) (Some (k, r))) ≡ goes_on b k r w true
  made_waits w k r = same_turn _ _ (none_released (with_status b.rows w (Waiting k))) refl

  made_arrives : (w k : ℕ) (r : Barrier) → made b (going_on None (Some (k, r))) ≡ goes_on b k r w false
  made_arrives w k r = same_turn _ _ (none_released b.rows) refl

  made_exited : (w : ℕ) → made b (going_on (Some (w, Exited)) None) ≡ record { verdict = accepted 0 false 0; block = without b w }
  made_exited w = same_turn _ _ (none_released (with_status b.rows w Exited)) refl

-- ---- an arrival, by the rows that it looks at

pub arrival_seen : ArrivalSeen
arrival_seen b w k c l m =
    let r = arrived_row (barrier_at b k) w c in
    go r (completes (live_of b) r) c.waits
  where
    go : (r : Barrier) (u v : Bool)
        → made b (cond u (completing None k r) (cond v (going_on (Some (w, Waiting k)) (Some (k, r))) (going_on None (Some (k, r))))) ≡ cond u (completed b k r) (goes_on b k r w v)
    go r true v = refl
    go r false true = made_waits b w k r
    go r false false = made_arrives b w k r

-- ---- an exit, by the rows that it looks at

-- a set whose every warp another has is a part of it
part_in : (a s : ℕ) → a < 2 ^ most_warps → ((v : ℕ) → v < most_warps → has a v ≡ true → has s v ≡ true) → part a s ≡ true
part_in a s la h =
    eq-eqb (bit_and a s) a
    (ext most_warps (bit_and a s) a (lt_of_le_of_lt (and_le_l a s) la) la (λ v l. has_and a s v ∙ go v l (has a v) refl))
  where
    go : (v : ℕ) → v < most_warps → (t : Bool) → has a v ≡ t → has a v && has s v ≡ has a v
    go v l true e = rw e (h v l e)
    go v l false e = rw e

-- two tests that follow from each other are the same
both_ways : (s t : Bool) → (s ≡ true → t ≡ true) → (t ≡ true → s ≡ true) → s ≡ t
both_ways true t f g = sym (f refl)
both_ways false true f g = g refl
both_ways false false f g = refl

module _ (b : Block) (w : ℕ) (l : length b.rows ≡ most_warps) where
  -- the live warps of the block without w are those of the block, less w
  pub live_other : (v : ℕ) → v < most_warps → (v ≡ w → ⊥) → has (live_of (without b w)) v ≡ has (live_of b) v
  live_other v h d =
      has_set_of _ most_warps v h
      ∙ ap (λ (x : Warp). ltb v b.warps && not (is_exited x.status)) (get_or-set_other b.rows w v _ fresh_warp d)
      ∙ sym (has_set_of _ most_warps v h)

  pub live_own : w < most_warps → has (live_of (without b w)) w ≡ false
  live_own h =
      has_set_of _ most_warps w h
      ∙ ap (λ (x : Warp). ltb w b.warps && not (is_exited x.status)) (get_or-set_same b.rows w _ fresh_warp (rw l h))
      ∙ and-false (ltb w b.warps)

  -- they have all arrived when those of the block have, w put among the arrived
  part_left : (s : ℕ) → w < most_warps → part (live_of b) (put s w) ≡ part (live_of (without b w)) s
  part_left s h =
      both_ways _ _
      (λ p. part_in (live_of (without b w)) s (set_of_lt _ most_warps) (λ v m e. left v m (ℕ_discrete v w) p e))
      (λ p. part_in (live_of b) (put s w) (set_of_lt _ most_warps) (λ v m e. back v m (ℕ_discrete v w) p e))
    where
      left : (v : ℕ) → v < most_warps → Dec (v ≡ w) → part (live_of b) (put s w) ≡ true → has (live_of (without b w)) v ≡ true → has s v ≡ true
      left v m (yes q) p e = absurd (false≢true (sym (live_own h) ∙ rw q at e))
      left v m (no d) p e = sym (has_put_other s w v h d) ∙ part_has _ _ p v (sym (live_other v m d) ∙ e)

      back : (v : ℕ) → v < most_warps → Dec (v ≡ w) → part (live_of (without b w)) s ≡ true → has (live_of b) v ≡ true → has (put s w) v ≡ true
      back v m (yes q) p e = rw q (has_put_own s w h)
      back v m (no d) p e = has_put_other s w v h d ∙ part_has _ _ p v (live_other v m d ∙ e)

  -- also where there is no such warp, which leaves both
  part_without : (s : ℕ) → part (live_of b) (put s w) ≡ part (live_of (without b w)) s
  part_without s = go (ltb w most_warps) refl
    where
      go : (t : Bool) → ltb w most_warps ≡ t → part (live_of b) (put s w) ≡ part (live_of (without b w)) s
      go true e = part_left s (ltb-true w most_warps e)
      go false e =
          ap (part (live_of b)) (ap (λ (t : Bool). cond t (bit_or s (2 ^ w)) s) e)
          ∙ ap (λ (ws : List Warp). part (live_of (record { warps = b.warps; rows = ws; barriers = b.barriers })) s)
          (sym (set_out b.rows w _ (rw l (ltb-false w most_warps e))))

-- the barrier that opens is found on the rows
same_opened : (b : Block) (w : ℕ) → length b.rows ≡ most_warps → first_opening b.barriers (live_of b) w ≡ opened (without b w)
same_opened b w l =
    λ i. first barrier_count (λ k. every (not (is_idle (barrier_at b k).form) ∷ eqb (barrier_at b k).threads 0 ∷ part_without b w l (barrier_at b k).arrived i ∷ []))

pub exit_seen : ExitSeen
exit_seen b w l m =
    let k = opened (without b w) in
    rw (same_opened b w l) (go k (ltb k barrier_count))
  where
    go : (k : ℕ) (u : Bool)
        → made b (cond u (completing (Some (w, Exited)) k (barrier_at b k)) (going_on (Some (w, Exited)) None))
        ≡ cond u (completed (without b w) k (barrier_at b k)) (record { verdict = accepted 0 false 0; block = without b w })
    go k true = refl
    go k false = made_exited b w
