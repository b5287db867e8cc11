-- What the conditions say of the row and of the steps.
-- Assumes nothing.
use mathlib.Core.Path.{◌≡◌, refl, ap}
use mathlib.Core.Logic.{◌≢◌}
use mathlib.Core.Bool.{Bool, true, false, not, ◌&&◌, ◌||◌, false≢true}
use mathlib.Core.List.{List, [], ◌∷◌}
use Prim.Native.Nat.{ℕ, ◌/◌, ◌≤◌, ◌<◌}
use native.Mathlib.Omega.{arith}
use borrow.Author.Tests.{eqb-true, leb-true}
use lib.Dec.{eqb, leb}
use lib.IntN.{pos, ◌+ℤ◌}
use Rattle.folds.proofs.Folds.{and_left, and_right}
use Rattle.steps.specs.declared.Op.{Op}
use Rattle.steps.specs.declared.Op.TheVariants as op
use Rattle.steps.specs.declared.Step.{Step}
use Rattle.object.specs.Row.{most, last_phase}
use Rattle.object.specs.Soundness.{expected_sound, pending_sound, tx_sound, phase_sound, seen_sound, live_sound}
use Rattle.block.specs.declared.Block.{Block}
use Rattle.tables.specs.Tables.{Tables, sound_tables}
use Rattle.tables.specs.Refusals.{of_object}
use Rattle.orders.specs.Due.{object_at, counts, drops, expectations, completions, each, on, is_part, takes_part, some_of, at_least_one, ready, from_ready, Due}
use Rattle.orders.proofs.Row.{part, Left}
use Rattle.orders.proofs.Step.{row_sound_lem}
use Rattle.orders.proofs.Finishes.{Good, AllGood, sums, Going}

-- ---- the steps

good_op : (b : Block) (a w : ℕ) (p : Op) → of_object (λ c y. eqb c a) p ≡ true → of_object (λ c y. is_part y) p ≡ true → of_object (λ c y. some_of y) p ≡ true
    → ready b w ≡ true → Good b a (record { warp = w; op = p })
good_op b a w op.Exit h k n r = absurd (false≢true h)
good_op b a w (op.Barrier c y) h k n r = absurd (false≢true h)
good_op b a w (op.Object c o) h k n r = record {
  step = o;
  here = ap (λ (d : ℕ). record { warp = w; op = op.Object d o }) (eqb-true c a h);
  part = part _ k;
  size = n;
  ready = r;
}
good_op b a w (op.PendingCount t) h k n r = absurd (false≢true h)

each_split : (p : Step → Bool) (s : Step) (l : List Step) → each p (s ∷ l) ≡ true → (p s ≡ true) × (each p l ≡ true)
each_split p s l h = (and_left (p s) (each p l) h, and_right (p s) (each p l) h)

all_good : (b : Block) (a : ℕ) (l : List Step) → each (on a) l ≡ true → each takes_part l ≡ true → each at_least_one l ≡ true → each (from_ready b) l ≡ true
    → AllGood b a l
all_good b a [] h k n r = tt
all_good b a (s ∷ l) h k n r =
    let h' = each_split (on a) s l h in
    let k' = each_split takes_part s l k in
    let n' = each_split at_least_one s l n in
    let r' = each_split (from_ready b) s l r in
    (good_op b a s.warp s.op h'.0 k'.0 n'.0 r'.0, all_good b a l h'.1 k'.1 n'.1 r'.1)

-- ---- the row

-- "its previous phase seen (or none)": in sound tables the mark is set where there is none
seen_set : (s z : Bool) → s || z ≡ true → not z || s ≡ true → s ≡ true
seen_set true z h k = refl
seen_set false true h k = k
seen_set false false h k = h

-- the conditions, but those of the address and that arrivals are pending
module _ (t : Tables) (a : ℕ) (l : List Step) (sound : sound_tables t ≡ true) (live : (object_at t a).live ≡ true)
    (seen : (object_at t a).seen || eqb (object_at t a).phase 0 ≡ true) (phase : (object_at t a).phase ≢ last_phase)
    (meet : counts l ≡ (object_at t a).pending) (balance : (object_at t a).tx +ℤ pos (expectations l) ≡ pos (completions l)) (fewer : drops l < (object_at t a).expected)
    (expects : expectations l ≤ most) (completes : completions l ≤ most)
  where
    row_left : Left (object_at t a) (sums l)
    row_left =
        let o = object_at t a in
        let h : live_sound o ≡ true = rw live at (row_sound_lem t sound (a / 8)) in
        let p = and_left (expected_sound o && pending_sound o && tx_sound o && phase_sound o) (seen_sound o) h in
        let q = and_left (expected_sound o && pending_sound o && tx_sound o) (phase_sound o) p in
        let r = and_left (expected_sound o && pending_sound o) (tx_sound o) q in
        record {
          live = live;
          seen = seen_set o.seen (eqb o.phase 0) seen (and_right (expected_sound o && pending_sound o && tx_sound o && phase_sound o) (seen_sound o) h);
          few = leb-true o.expected most (and_right (leb 1 o.expected) (leb o.expected most) (and_left (expected_sound o) (pending_sound o) r));
          room = leb-true o.pending o.expected (and_right (expected_sound o) (pending_sound o) r);
          phase = before (leb-true o.phase last_phase (and_right (expected_sound o && pending_sound o && tx_sound o) (phase_sound o) p));
          counts = meet;
          drops = fewer;
          balance = balance;
          expects = expects;
          completes = completes;
        }
      where
        before : (object_at t a).phase ≤ last_phase → (object_at t a).phase < last_phase
        before h = omega arith

    pub going : each (on a) l ≡ true → each takes_part l ≡ true → each at_least_one l ≡ true → each (from_ready t.block) l ≡ true → Going t a l
    going h k n r = record { sound = sound; left = row_left; steps = all_good t.block a l h k n r }

pub due_going : (t : Tables) (a : ℕ) (l : List Step) → Due t a l → Going t a l
due_going t a l d =
    going t a l d.sound d.live d.seen d.phase (omega (arith, d.counts)) d.balance (omega (arith, d.drops))
    (omega (arith, d.expectations)) (omega (arith, d.completions)) d.on d.kinds d.sizes d.warps

-- arrivals are pending, so there is a step
pub due_some : (t : Tables) (a : ℕ) → Due t a [] → ⊥
due_some t a d = omega (arith, d.counts, d.pending)
