-- What a step completes and releases, what it leaves as it was, and who has not exited after it.
-- Assumes nothing.
use mathlib.Core.Path.{◌≡◌, refl, sym, ◌∙◌}
use mathlib.Core.Bool.{Bool, true, false, not, cond, ◌&&◌, and-true, and-false, false≢true}
use Prim.Native.Nat.{ℕ, ◌<◌}
use native.Mathlib.Decide.{ℕ_discrete}
use native.Mathlib.Nat.{zero-add}
use native.Mathlib.Omega.{arith}
use lib.Dec.{eqb}
use lib.ListN.{get_or, set}
use lib.Seq.{get_or-set_other}
use borrow.Author.Tests.{eq-eqb, ne_eqb, eqb-true}
use Rattle.folds.proofs.Folds.{every_at}
use Rattle.sets.specs.Sets.{has, less}
use Rattle.sets.proofs.Sets.{has_less, less_lt, set_of_lt, ext}
use Rattle.block.specs.Tables.{is_reduction, most_warps, barrier_count, fresh_warp, idle, warp_at, barrier_at, is_exited, live_of, sound_block}
use Rattle.barrier_row.specs.Rows.{arrived_row, result_of}
use Rattle.block_steps.proofs.Changes.{live_other, live_own}
use Rattle.block_steps.specs.Steps.{released_warp, freed_by, completed, goes_on, without, opens, opened}
use Rattle.block.specs.declared.Status.TheVariants.{Ready, Waiting}
use Rattle.block.specs.declared.Warp.{Warp}
use Rattle.block.specs.declared.Barrier.{Barrier}
use Rattle.block.specs.declared.Block.{Block}
use Rattle.block.specs.Verdicts.{accepted}
use Rattle.block.proofs.Verdicts.{same, undone}
use Rattle.block_laws.specs.Sound.{Shaped}
use Rattle.block_laws.specs.Changes.{LeavesRefused, RefusedLeave, ExitCompletesOne, Releases, ArrivalReleases, ReleasesSet, ArriveReleases, ExitReleases, ReleasesNone, NoneReleased, GivesResults, ResultsGiven, LeavesRow, RowsLeft, CountedSurvive, LeavesWarp, WarpsLeft, ArrivalKeepsLive, ExitTakesOut}
use Rattle.folds.proofs.General.{first_holds, firsts_leaves, set_either}
use Rattle.block_laws.proofs.Facts.{Free, sound_at, sound_but, free_says}
use Rattle.block_laws.proofs.Ends.{arrival_ends, exit_ends}
use Rattle.block_laws.proofs.Arrived.{has_grown}
use Rattle.block_laws.proofs.Changed.{same_live, completed_live, given, released_at}
use Rattle.block_laws.proofs.Arrival.{arrived_free}
use Rattle.block_laws.proofs.Exit.{opens_one, left_shape, left_free}

-- ---- refusal

pub refused_leave : RefusedLeave
refused_leave = record {
  arrival = λ b w k c. arrival_ends (LeavesRefused b) b w k c (λ m n e. refl) (λ j n e. cc) (λ j o n e. cc);
  exit = λ b w. exit_ends (LeavesRefused b) b w (λ m n e. refl) (λ f l n e. cc) (λ f l n e. cc);
}

-- ---- released warps

pub exit_completes_one : ExitCompletesOne
exit_completes_one b w j k ok e = opens_one b w ok (free_says b w e) j k

-- a ready warp is in no waiting set
not_waiting : (b : Block) (w k : ℕ) → sound_block b ≡ true → Free b w → k < barrier_count → has (barrier_at b k).waiting w ≡ false
not_waiting b w k ok free h = (sound_at b ok k h).agree w (omega (arith, free.warp, (sound_but b ok k).high)) ∙ rw free.ready

-- what a completed barrier releases is its row's waiting set
releases : (b : Block) (k : ℕ) (r : Barrier) (value released : ℕ) → (completed b k r).verdict ≡ accepted value true released → released ≡ r.waiting
releases b k r value released e = sym (same e).released

pub arrival_releases : ArrivalReleases
arrival_releases b w k c ok =
    arrival_ends (Releases _) b w k c (λ n value released v e. cc)
    (λ j value released v e.
    rw (releases b k (arrived_row (barrier_at b k) w c) value released e)
    (has_grown (barrier_at b k).waiting w v c.waits (omega (arith, j.free.warp, (sound_but b ok k).high))))
    (λ j o value released v e. absurd (undone e))

pub arrive_releases : ArriveReleases
arrive_releases b w k c ok waits =
    arrival_ends (ReleasesSet _ _) b w k c (λ n value released e. (cc, cc))
    (λ j value released e.
    let q : released ≡ (barrier_at b k).waiting = rw waits at (releases b k (arrived_row (barrier_at b k) w c) value released e) in
    (q, rw q (not_waiting b w k ok j.free j.barrier)))
    (λ j o value released e. absurd (undone e))

pub exit_releases : ExitReleases
exit_releases b w ok =
    exit_ends (ReleasesSet _ _) b w (λ n value released e. (cc, cc))
    (λ f l value released e.
    let q = releases (without b w) (opened (without b w)) (barrier_at b (opened (without b w))) value released e in
    (q, rw q (not_waiting b w (opened (without b w)) ok f l)))
    (λ f l value released e. absurd (undone e))

pub none_released : NoneReleased
none_released = record {
  arrival = λ b w k c. arrival_ends ReleasesNone b w k c (λ n value released e. cc) (λ j value released e. absurd (undone (sym e))) (λ j o value released e. sym (same e).released);
  exit = λ b w. exit_ends ReleasesNone b w (λ n value released e. cc) (λ f l value released e. absurd (undone (sym e))) (λ f l value released e. sym (same e).released);
}

-- ---- results

-- a completed barrier gives them, whatever block it starts from
gives_results : (b : Block) (k : ℕ) (r : Barrier) → Shaped b → GivesResults r.form b (completed b k r)
gives_results b k r shape value released v h e =
    rw (← (same e).value, ← (same e).released)
    (released_at b r v shape h ∙ (λ i. cond (has r.waiting v) (record { status = Ready; result = given (is_reduction r.form) (result_of r) (warp_at b v).result i }) (warp_at b v)))

pub results_given : ResultsGiven
results_given = record {
  arrival = λ b w k c shape.
      arrival_ends (GivesResults c.form b) b w k c (λ n value released v h e. cc)
      (λ j. gives_results b k (arrived_row (barrier_at b k) w c) shape) (λ j o value released v h e. absurd (undone e));
  exit = λ b w shape.
      exit_ends (GivesResults (barrier_at b (opened (without b w))).form (without b w)) b w (λ n value released v h e. cc)
      (λ f l. gives_results (without b w) (opened (without b w)) (barrier_at b (opened (without b w))) (left_shape b w shape))
      (λ f l value released v h e. absurd (undone e));
}

-- ---- what stays

pub rows_left : RowsLeft
rows_left = record {
  arrival = λ b w k j c d.
      arrival_ends (LeavesRow b j) b w k c (λ n. refl) (λ i. get_or-set_other b.barriers k j idle idle d)
      (λ i o. get_or-set_other b.barriers k j (arrived_row (barrier_at b k) w c) idle d);
  exit = λ b w j d.
      exit_ends (LeavesRow b j) b w (λ n. refl) (λ f l. get_or-set_other b.barriers (opened (without b w)) j idle idle d) (λ f l. refl);
}

pub counted_survive : CountedSurvive
counted_survive b w k counted =
    exit_ends (LeavesRow b k) b w (λ n. refl)
    (λ f l. get_or-set_other b.barriers (opened (without b w)) k idle idle
    (λ q. counted (rw q (eqb-true _ _ (every_at _ (first_holds (opens (without b w)) barrier_count l) 1))))) (λ f l. refl)

-- a completed barrier leaves the warps that it does not release
unreleased : (b : Block) (k v : ℕ) (r : Barrier) → LeavesWarp b v (completed b k r)
unreleased b k v r value released done e h =
    let q : r.waiting ≡ released = (same e).released in
    firsts_leaves (released_warp (freed_by r)) b.rows most_warps 0 v fresh_warp (λ x. rw (zero-add, q, h))

-- an arrival that goes on leaves the other warps, and its own where it does not wait
waits_leaves : (b : Block) (w v : ℕ) (x : Warp) (t : Bool) → (v ≡ w → t ≡ false)
    → get_or (cond t (set b.rows w x) b.rows) v fresh_warp ≡ warp_at b v
waits_leaves b w v x true d = get_or-set_other b.rows w v x fresh_warp (λ q. false≢true (sym (d q)))
waits_leaves b w v x false d = refl

pub warps_left : WarpsLeft
warps_left = record {
  arrival = λ b w k v c d.
      arrival_ends (LeavesWarp b v) b w k c (λ n value released done e h. refl) (λ j. unreleased b k v (arrived_row (barrier_at b k) w c))
      (λ j o value released done e h. waits_leaves b w v _ c.waits d);
  exit = λ b w v d.
      exit_ends (LeavesWarp b v) b w (λ n value released done e h. refl)
      (λ f l value released done e h.
      unreleased (without b w) (opened (without b w)) v (barrier_at b (opened (without b w))) value released done e h
      ∙ get_or-set_other b.rows w v _ fresh_warp d)
      (λ f l value released done e h. get_or-set_other b.rows w v _ fresh_warp d);
}

-- ---- who has not exited

-- an arrival that goes on is of a ready warp, which has not exited before or after
goes_on_live : (b : Block) (k : ℕ) (r : Barrier) (w : ℕ) (t : Bool) → (warp_at b w).status ≡ Ready → live_of (goes_on b k r w t).block ≡ live_of b
goes_on_live b k r w true e =
    same_live b (set b.rows w (record { status = Waiting k; result = (warp_at b w).result }))
    (λ v h. set_either (λ (x : Warp). is_exited x.status ≡ is_exited (warp_at b v).status) b.rows w v _ fresh_warp refl (λ q. rw (q, e)))
goes_on_live b k r w false e = refl

pub arrival_keeps_live : ArrivalKeepsLive
arrival_keeps_live b w k c ok =
    arrival_ends (λ t. live_of t.block ≡ live_of b) b w k c (λ n. refl)
    (λ j. completed_live b k (arrived_row (barrier_at b k) w c) (arrived_free b w k c ok j))
    (λ j o. goes_on_live b k (arrived_row (barrier_at b k) w c) w c.waits j.free.ready)

-- who has not exited without w: the others
left_live : (b : Block) (w : ℕ) → Shaped b → live_of (without b w) ≡ less (live_of b) w
left_live b w shape =
    ext most_warps (live_of (without b w)) (less (live_of b) w) (set_of_lt _ most_warps) (less_lt most_warps (live_of b) w (set_of_lt _ most_warps))
    (λ v h. go v h (ℕ_discrete v w) ∙ sym (has_less (live_of b) w v))
  where
    go : (v : ℕ) → v < most_warps → Dec (v ≡ w) → has (live_of (without b w)) v ≡ has (live_of b) v && not (eqb v w)
    go v h (yes q) = rw (q, eq-eqb w w refl) (live_own b w shape.rows (rw q at h) ∙ sym (and-false (has (live_of b) w)))
    go v h (no d) = live_other b w shape.rows v h d ∙ rw (ne_eqb v w d) (sym (and-true (has (live_of b) v)))

pub exit_takes_out : ExitTakesOut
exit_takes_out b w shape ok =
    exit_ends (λ t. (value released : ℕ) (done : Bool) → t.verdict ≡ accepted value done released → live_of t.block ≡ less (live_of b) w)
    b w (λ n value released done e. cc)
    (λ f l value released done e.
    completed_live (without b w) (opened (without b w)) (barrier_at b (opened (without b w))) (left_free b w ok f shape l) ∙ left_live b w shape)
    (λ f l value released done e. left_live b w shape)
