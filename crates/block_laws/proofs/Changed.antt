-- Where one barrier row and the warp rows change, and where a barrier completes, sound tables stay sound.
-- Assumes nothing.
use mathlib.Core.Path.{◌≡◌, refl, sym, ap, ◌∙◌}
use mathlib.Core.Bool.{Bool, true, false, not, cond, ◌&&◌, ◌||◌, false≢true}
use mathlib.Core.List.{List}
use Prim.Native.Nat.{ℕ, ◌^◌, ◌<◌}
use native.Mathlib.Nat.{zero-add}
use native.Mathlib.Omega.{arith}
use lib.Dec.{ltb}
use lib.ListN.{get_or, set}
use lib.Pow.{pow_pos}
use lib.Seq.{get_or-set_same, get_or-set_other}
use borrow.Author.Tests.{ne_eqb, eqb-true, lt-ltb}
use Rattle.sets.specs.Sets.{has}
use Rattle.sets.proofs.Sets.{has_none, has_below, set_of_cong}
use Rattle.block.specs.Tables.{most_warps, barrier_count, fresh_warp, idle, warp_at, barrier_at, is_ready, is_exited, waits_at, live_of, warp_sound, sound_block}
use Rattle.std.specs.Prelude.{Some, None, unwrap_or}
use Rattle.block_steps.specs.Steps.{released_warp, released_warps, freed_by, completed}
use Rattle.block.specs.declared.Status.{Status}
use Rattle.block.specs.declared.Status.TheVariants.{Ready, Waiting, Exited}
use Rattle.block.specs.declared.Warp.{Warp}
use Rattle.block.specs.declared.Barrier.{Barrier}
use Rattle.block.specs.declared.Block.{Block}
use Rattle.block_laws.specs.Sound.{Shaped}
use Rattle.folds.proofs.General.{untrue, get_d_firsts, firsts_either}
use Rattle.block_laws.proofs.Facts.{Row, Missing, SoundBut, SoundAt, sound_of}

-- ---- who has not exited

-- where the same warps have exited, the same have not, whatever the barrier rows are
pub same_live : (b : Block) (ws : List Warp)
    → ((v : ℕ) → v < most_warps → is_exited (get_or ws v fresh_warp).status ≡ is_exited (warp_at b v).status)
    → live_of (record { warps = b.warps; rows = ws; barriers = b.barriers }) ≡ live_of b
same_live b ws h = set_of_cong _ _ most_warps (λ v l. ap (λ (t : Bool). ltb v b.warps && not t) (h v l))

-- ---- one barrier row and the warp rows change

-- warp v's row may become y: y is sound, exited where the row was, and waits where the row did, barrier k apart
pub record Moves (b : Block) (k v : ℕ) (y : Warp) : Type 0 where
  pub exited : is_exited y.status ≡ is_exited (warp_at b v).status
  pub sound : warp_sound b.warps v y ≡ true
  pub away : (j : ℕ) → (j ≡ k → ⊥) → waits_at y.status j ≡ waits_at (warp_at b v).status j

-- a warp row that stays
pub stays : (b : Block) (k v : ℕ) → SoundBut b k → v < most_warps → Moves b k v (warp_at b v)
stays b k v s h = record { exited = refl; sound = s.warp v h; away = λ j d. refl }

module _ (b : Block) (k : ℕ) (r : Barrier) (ws : List Warp) (shape : Shaped b) (k16 : k < barrier_count) (s : SoundBut b k)
    (row : Row b.warps r) (missing : Missing (live_of b) r) (moves : (v : ℕ) → v < most_warps → Moves b k v (get_or ws v fresh_warp))
    (here : (v : ℕ) → v < most_warps → has r.waiting v ≡ waits_at (get_or ws v fresh_warp).status k) where
  abbrev after : Block
  after = record { warps = b.warps; rows = ws; barriers = set b.barriers k r }

  own : barrier_at after k ≡ r
  own = get_or-set_same b.barriers k r idle (rw shape.barriers k16)

  other : (j : ℕ) → (j ≡ k → ⊥) → barrier_at after j ≡ barrier_at b j
  other j d = get_or-set_other b.barriers k j r idle d

  live : live_of after ≡ live_of b
  live = same_live b ws (λ v h. (moves v h).exited)

  but : SoundBut after k
  but = record {
    low = s.low;
    high = s.high;
    warp = λ v h. (moves v h).sound;
    others = λ j h d. record {
      row = rw (other j d) (s.others j h d).row;
      missing = rw (live, other j d) (s.others j h d).missing;
      agree = λ v l. rw (other j d) ((s.others j h d).agree v l ∙ sym ((moves v l).away j d));
    };
  }

  at : SoundAt after k
  at = record { row = rw own row; missing = rw (live, own) missing; agree = λ v h. rw own (here v h) }

  pub changed : sound_block after ≡ true
  changed = sound_of after k but (λ h. at)

-- ---- a barrier completes

-- the row of a warp that it releases
abbrev freed : Barrier → Warp → Warp
freed r x = record { status = Ready; result = unwrap_or (freed_by r).result x.result }

-- a red's result is given, and else a warp keeps its own
pub given : (t : Bool) (n d : ℕ) → unwrap_or (cond t (Some n) None) d ≡ cond t n d
given true n d = refl
given false n d = refl

-- a warp that is ready or waits at barrier k has not exited, and waits nowhere else
free_exited : (s : Status) (k : ℕ) → is_ready s || waits_at s k ≡ true → is_exited s ≡ false
free_exited Ready k e = refl
free_exited (Waiting at) k e = refl
free_exited Exited k e = sym e

free_away : (s : Status) (j k : ℕ) → is_ready s || waits_at s k ≡ true → (j ≡ k → ⊥) → waits_at s j ≡ false
free_away Ready j k e d = refl
free_away (Waiting at) j k e d = ne_eqb at j (λ q. d (sym q ∙ eqb-true at k e))
free_away Exited j k e d = refl

-- where every warp that it releases was so, the same have not exited
pub completed_live : (b : Block) (k : ℕ) (r : Barrier)
    → ((v : ℕ) → v < most_warps → has r.waiting v ≡ true → is_ready (warp_at b v).status || waits_at (warp_at b v).status k ≡ true)
    → live_of (completed b k r).block ≡ live_of b
completed_live b k r frees =
    same_live b (released_warps (freed_by r) b.rows)
    (λ v h. firsts_either (λ (x : Warp). is_exited x.status ≡ is_exited (warp_at b v).status) _ b.rows most_warps 0 v fresh_warp refl
    (rw zero-add (go v h (has r.waiting v) refl)))
  where
    go : (v : ℕ) → v < most_warps → (t : Bool) → has r.waiting v ≡ t
        → is_exited (cond t (freed r (warp_at b v)) (warp_at b v)).status ≡ is_exited (warp_at b v).status
    go v h true e = sym (free_exited (warp_at b v).status k (frees v h e))
    go v h false e = refl

-- the row that a completed barrier gets
pub idle_row : (n : ℕ) → Row n idle
idle_row n = record {
  arrived_in = pow_pos n;
  waiting_in = pow_pos n;
  waiting_arrived = refl;
  no_threads = λ h. refl;
  no_arrived = λ h. refl;
  no_waiting = λ h. refl;
  no_trues = λ h. refl;
  arrival = λ h. absurd (false≢true (sym h));
  multiple = λ h. absurd (false≢true (sym h));
  most = λ h. absurd (false≢true (sym h));
  below = λ h. absurd (false≢true (sym h));
  all_wait = λ h z. refl;
  reduction_wait = λ h. refl;
  reduction_trues = λ h. omega arith;
  plain_trues = λ h. refl;
}

-- the row of warp v, released or not
pub released_at : (b : Block) (r : Barrier) (v : ℕ) → Shaped b → v < most_warps
    → get_or (released_warps (freed_by r) b.rows) v fresh_warp ≡ released_warp (freed_by r) v (warp_at b v)
released_at b r v shape h = get_d_firsts (released_warp (freed_by r)) b.rows most_warps 0 v fresh_warp h (rw shape.rows h) ∙ rw zero-add

module _ (b : Block) (k : ℕ) (r : Barrier) (shape : Shaped b) (k16 : k < barrier_count) (s : SoundBut b k)
    (inside : r.waiting < 2 ^ b.warps)
    (frees : (v : ℕ) → v < most_warps → has r.waiting v ≡ true → is_ready (warp_at b v).status || waits_at (warp_at b v).status k ≡ true)
    (all : (v : ℕ) → v < most_warps → waits_at (warp_at b v).status k ≡ true → has r.waiting v ≡ true) where
  moves : (v : ℕ) → v < most_warps → Moves b k v (get_or (released_warps (freed_by r) b.rows) v fresh_warp)
  moves v h = rw (released_at b r v shape h) (go (has r.waiting v) refl)
    where
      go : (t : Bool) → has r.waiting v ≡ t → Moves b k v (cond t (freed r (warp_at b v)) (warp_at b v))
      go true e =
          let f = frees v h e in
          let n : v < b.warps = has_below b.warps r.waiting v inside e in
          record {
            exited = sym (free_exited (warp_at b v).status k f);
            sound = rw (lt-ltb v b.warps n);
            away = λ j d. sym (free_away (warp_at b v).status j k f d);
          }
      go false e = stays b k v s h

  here : (v : ℕ) → v < most_warps → has idle.waiting v ≡ waits_at (get_or (released_warps (freed_by r) b.rows) v fresh_warp).status k
  here v h = has_none v ∙ rw (released_at b r v shape h) (go (has r.waiting v) refl)
    where
      go : (t : Bool) → has r.waiting v ≡ t → false ≡ waits_at (cond t (freed r (warp_at b v)) (warp_at b v)).status k
      go true e = refl
      go false e = sym (untrue _ (λ q. false≢true (sym e ∙ all v h q)))

  pub completed_keeps : sound_block (completed b k r).block ≡ true
  completed_keeps =
      changed b k idle (released_warps (freed_by r) b.rows) shape k16 s (idle_row b.warps) (λ h. absurd (false≢true (sym h))) moves here
