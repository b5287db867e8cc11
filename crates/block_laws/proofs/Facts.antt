-- What soundness and no refusal say, fact by fact.
-- Assumes nothing.
use mathlib.Core.Path.{◌≡◌, refl, sym, subst}
use mathlib.Core.Bool.{true, false, not}
use mathlib.Core.List.{[], ◌∷◌}
use Prim.Native.Nat.{ℕ, ◌*◌, ◌%◌, ◌^◌, ◌<◌, ◌≤◌}
use native.Mathlib.Decide.{ℕ_discrete}
use lib.Dec.{eqb, leb}
use borrow.Author.Tests.{eq-eqb, ne_eqb, eqb-true, eqb-false, lt-ltb, ltb-true, le-leb, leb-true, leb-false, not-true, not-false}
use Rattle.folds.specs.Folds.{every, lowest}
use Rattle.folds.proofs.Folds.{every_at, all_at, all_of, none_at, alike, alike_of}
use Rattle.sets.specs.Sets.{has, part, within, size}
use Rattle.block.specs.Tables.{most_warps, lane_count, barrier_count, warp_at, barrier_at, live_of, is_idle, is_plain, is_reduction, is_ready, waits_at, sets_inside, idle_zero, active_arrived, active_count, count_open, all_open, reduction_waits, plain_none, warp_sound, row_sound, rows_sound, agreeing, sound_block}
use Rattle.barrier_row.specs.Rows.{bad_threads, clashes}
use Rattle.block_steps.specs.Steps.{exit_lines, arrival_lines}
use Rattle.block.specs.declared.Status.{Status}
use Rattle.block.specs.declared.Status.TheVariants.{Ready, Waiting, Exited}
use Rattle.block.specs.declared.Barrier.{Barrier}
use Rattle.block.specs.declared.Block.{Block}
use Rattle.block.specs.declared.Call.{Call}
use Rattle.folds.proofs.General.{then, implied, both, each, not_of, not_is}

-- ---- a barrier row

-- a row that is sound in a block of n warps, apart from the warp that an all-thread row lacks
pub record Row (n : ℕ) (r : Barrier) : Type 0 where
  pub arrived_in : r.arrived < 2 ^ n
  pub waiting_in : r.waiting < 2 ^ n
  pub waiting_arrived : part r.waiting r.arrived ≡ true
  pub no_threads : is_idle r.form ≡ true → r.threads ≡ 0
  pub no_arrived : is_idle r.form ≡ true → r.arrived ≡ 0
  pub no_waiting : is_idle r.form ≡ true → r.waiting ≡ 0
  pub no_trues : is_idle r.form ≡ true → r.trues ≡ 0
  pub arrival : is_idle r.form ≡ false → r.arrived ≡ 0 → ⊥
  pub multiple : is_idle r.form ≡ false → eqb r.threads 0 ≡ false → r.threads % lane_count ≡ 0
  pub most : is_idle r.form ≡ false → eqb r.threads 0 ≡ false → r.threads ≤ lane_count * n
  pub below : is_idle r.form ≡ false → eqb r.threads 0 ≡ false → lane_count * size r.arrived < r.threads
  pub all_wait : is_idle r.form ≡ false → eqb r.threads 0 ≡ true → r.waiting ≡ r.arrived
  pub reduction_wait : is_reduction r.form ≡ true → r.waiting ≡ r.arrived
  pub reduction_trues : is_reduction r.form ≡ true → r.trues ≤ lane_count * size r.arrived
  pub plain_trues : is_plain r.form ≡ true → r.trues ≡ 0

-- at an all-thread row some warp of live is missing
abbrev pub Missing : ℕ → Barrier → Type 0
Missing live r = is_idle r.form ≡ false → eqb r.threads 0 ≡ true → part live r.arrived ≡ false

module _ (n live : ℕ) (r : Barrier) (ok : row_sound n live r ≡ true) where
  inside_says : (within n r.arrived ≡ true) × (within n r.waiting ≡ true)
  inside_says = each _ _ (every_at _ ok 0)

  zero_says : is_idle r.form ≡ true → every (eqb r.threads 0 ∷ eqb r.arrived 0 ∷ eqb r.waiting 0 ∷ eqb r.trues 0 ∷ []) ≡ true
  zero_says h = then _ _ (every_at _ ok 2) (not_is _ h)

  count_says : is_idle r.form ≡ false → eqb r.threads 0 ≡ false
      → (eqb (r.threads % lane_count) 0 ≡ true) × (leb r.threads (lane_count * n) ≡ true)
  count_says h z = each _ _ (then _ _ (then _ _ (every_at _ ok 4) h) z)

  all_says : is_idle r.form ≡ false → eqb r.threads 0 ≡ true → (not (part live r.arrived) ≡ true) × (eqb r.waiting r.arrived ≡ true)
  all_says h z = each _ _ (then _ _ (then _ _ (every_at _ ok 6) h) (not_is _ z))

  reduction_says : is_reduction r.form ≡ true → (eqb r.waiting r.arrived ≡ true) × (leb r.trues (lane_count * size r.arrived) ≡ true)
  reduction_says h = each _ _ (then _ _ (every_at _ ok 7) (not_is _ h))

  row_says : Row n r
  row_says = record {
    arrived_in = ltb-true _ _ inside_says.0;
    waiting_in = ltb-true _ _ inside_says.1;
    waiting_arrived = every_at _ ok 1;
    no_threads = λ h. eqb-true _ _ (every_at _ (zero_says h) 0);
    no_arrived = λ h. eqb-true _ _ (every_at _ (zero_says h) 1);
    no_waiting = λ h. eqb-true _ _ (every_at _ (zero_says h) 2);
    no_trues = λ h. eqb-true _ _ (every_at _ (zero_says h) 3);
    arrival = λ h. eqb-false _ _ (not-true _ (then _ _ (every_at _ ok 3) h));
    multiple = λ h z. eqb-true _ _ (count_says h z).0;
    most = λ h z. leb-true _ _ (count_says h z).1;
    below = λ h z. ltb-true _ _ (then _ _ (then _ _ (every_at _ ok 5) h) z);
    all_wait = λ h z. eqb-true _ _ (all_says h z).1;
    reduction_wait = λ h. eqb-true _ _ (reduction_says h).0;
    reduction_trues = λ h. leb-true _ _ (reduction_says h).1;
    plain_trues = λ h. eqb-true _ _ (then _ _ (every_at _ ok 8) (not_is _ h));
  }

  missing_says : Missing live r
  missing_says h z = not-true _ (all_says h z).0

-- the other way round
module _ (n live : ℕ) (r : Barrier) (f : Row n r) (m : Missing live r) where
  inside_of : sets_inside n r ≡ true
  inside_of = both _ _ (lt-ltb _ _ f.arrived_in) (lt-ltb _ _ f.waiting_in)

  zero_of : idle_zero r ≡ true
  unfolding every
  zero_of =
      implied _ _ λ h.
      let i = not-false _ h in
      rw (eq-eqb _ _ (f.no_threads i), eq-eqb _ _ (f.no_arrived i), eq-eqb _ _ (f.no_waiting i), eq-eqb _ _ (f.no_trues i))

  arrived_of : active_arrived r ≡ true
  arrived_of = implied _ _ (λ h. not_of _ (ne_eqb _ _ (f.arrival h)))

  count_of : active_count n r ≡ true
  count_of = implied _ _ (λ h. implied _ _ (λ z. both _ _ (eq-eqb _ _ (f.multiple h z)) (le-leb _ _ (f.most h z))))

  below_of : count_open r ≡ true
  below_of = implied _ _ (λ h. implied _ _ (λ z. lt-ltb _ _ (f.below h z)))

  all_of_row : all_open live r ≡ true
  all_of_row =
      implied _ _ λ h. implied _ _ λ z. both _ _ (not_of _ (m h (not-false _ z))) (eq-eqb _ _ (f.all_wait h (not-false _ z)))

  reduction_of : reduction_waits r ≡ true
  reduction_of =
      implied _ _ λ h. both _ _ (eq-eqb _ _ (f.reduction_wait (not-false _ h))) (le-leb _ _ (f.reduction_trues (not-false _ h)))

  plain_of : plain_none r ≡ true
  plain_of = implied _ _ (λ h. eq-eqb _ _ (f.plain_trues (not-false _ h)))

  row_of : row_sound n live r ≡ true
  unfolding every
  row_of =
      rw (inside_of, f.waiting_arrived, zero_of, arrived_of, count_of, below_of, all_of_row, reduction_of, plain_of)

-- ---- the tables

-- the tables are sound at barrier k
pub record SoundAt (b : Block) (k : ℕ) : Type 0 where
  pub row : Row b.warps (barrier_at b k)
  pub missing : Missing (live_of b) (barrier_at b k)
  pub agree : (v : ℕ) → v < most_warps → has (barrier_at b k).waiting v ≡ waits_at (warp_at b v).status k

-- the tables are sound, apart from barrier k; from 16 on that is no exception
pub record SoundBut (b : Block) (k : ℕ) : Type 0 where
  pub low : 1 ≤ b.warps
  pub high : b.warps ≤ most_warps
  pub warp : (v : ℕ) → v < most_warps → warp_sound b.warps v (warp_at b v) ≡ true
  pub others : (j : ℕ) → j < barrier_count → (j ≡ k → ⊥) → SoundAt b j

module _ (b : Block) (ok : sound_block b ≡ true) where
  counted : (leb 1 b.warps ≡ true) × (leb b.warps most_warps ≡ true)
  unfolding sound_block
  counted = each _ _ (every_at _ ok 0)

  rows_say : (j : ℕ) → j < barrier_count → row_sound b.warps (live_of b) (barrier_at b j) ≡ true
  unfolding sound_block
  rows_say j h = all_at _ barrier_count j h (every_at _ ok 2)

  pub sound_at : (k : ℕ) → k < barrier_count → SoundAt b k
  unfolding sound_block
  sound_at k h = record {
    row = row_says b.warps (live_of b) (barrier_at b k) (rows_say k h);
    missing = missing_says b.warps (live_of b) (barrier_at b k) (rows_say k h);
    agree = λ v l. alike _ _ (all_at _ most_warps v l (all_at _ barrier_count k h (every_at _ ok 3)));
  }

  pub sound_but : (k : ℕ) → SoundBut b k
  unfolding sound_block
  sound_but k = record {
    low = leb-true _ _ counted.0;
    high = leb-true _ _ counted.1;
    warp = λ v h. all_at _ most_warps v h (every_at _ ok 1);
    others = λ j h d. sound_at j h;
  }

module _ (b : Block) (k : ℕ) (s : SoundBut b k) (own : k < barrier_count → SoundAt b k) where
  at : (j : ℕ) → j < barrier_count → Dec (j ≡ k) → SoundAt b j
  at j h (yes e) = subst (λ (i : ℕ). SoundAt b i) (sym e) (own (subst (λ (i : ℕ). i < barrier_count) e h))
  at j h (no d) = s.others j h d

  rows_of : rows_sound b ≡ true
  rows_of =
      all_of _ barrier_count λ j h.
      let f = at j h (ℕ_discrete j k) in
      row_of b.warps (live_of b) (barrier_at b j) f.row f.missing

  agreeing_of : agreeing b ≡ true
  agreeing_of = all_of _ barrier_count λ j h. all_of _ most_warps λ v l. alike_of _ _ ((at j h (ℕ_discrete j k)).agree v l)

  pub sound_of : sound_block b ≡ true
  unfolding sound_block every
  sound_of = rw (le-leb _ _ s.low, le-leb _ _ s.high, all_of _ most_warps s.warp, rows_of, agreeing_of)

-- ---- refusals

-- what no refusal of a step of warp w says
pub record Free (b : Block) (w : ℕ) : Type 0 where
  pub warp : w < b.warps
  pub ready : (warp_at b w).status ≡ Ready

-- and of an arrival at barrier k
pub record Joins (b : Block) (w k : ℕ) (c : Call) : Type 0 where
  pub free : Free b w
  pub barrier : k < barrier_count
  pub count : bad_threads b.warps c.threads ≡ false
  pub form : is_idle c.form ≡ false
  pub fits : clashes (barrier_at b k) c ≡ false
  pub new : has (barrier_at b k).arrived w ≡ false

ready_is : (s : Status) → is_ready s ≡ true → s ≡ Ready
ready_is Ready e = refl
ready_is (Waiting at) e = cc
ready_is Exited e = cc

pub free_says : (b : Block) (w : ℕ) → lowest (exit_lines b w) ≡ 0 → Free b w
free_says b w e =
    let none = none_at _ refl e in
    record { warp = leb-false _ _ (none 0); ready = ready_is _ (not-false _ (none 1)) }

pub joins_says : (b : Block) (w k : ℕ) (c : Call) → lowest (arrival_lines b w k c) ≡ 0 → Joins b w k c
joins_says b w k c e =
    let none = none_at _ refl e in
    record {
      free = record { warp = leb-false _ _ (none 0); ready = ready_is _ (not-false _ (none 1)) };
      barrier = leb-false _ _ (none 2);
      count = none 3;
      form = none 4;
      fits = none 5;
      new = none 6;
    }
