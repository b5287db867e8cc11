-- The cases, computed, and what follows from the other conditions.
-- Assumes nothing.
use mathlib.Core.Path.{◌≡◌, refl, sym, ap, subst⁻¹, ◌∙◌}
use mathlib.Core.Logic.{◌≢◌}
use mathlib.Core.Bool.{Bool, true, false, not, ◌&&◌, and-false, false≢true}
use mathlib.Core.List.{List, [], ◌∷◌, ◌++◌}
use Prim.Native.Nat.{ℕ, ◌/◌, ◌<◌, ◌≤◌}
use native.Mathlib.Decide.{dec_lt}
use native.Mathlib.Omega.{arith}
use borrow.Author.Tests.{eqb-true, eqb-false, eq-eqb, ne_eqb, leb-true, le-leb, ltb-true, lt-ltb, not-true}
use lib.IntN.{ℤ, pos, negsuc}
use lib.Dec.{eqb}
use lib.ListN.{get_or, set}
use Rattle.folds.specs.Folds.{all, every, lowest}
use Rattle.steps.specs.declared.Step.{Step}
use Rattle.object.specs.declared.Object.{Object}
use Rattle.object.specs.Tokens.{slots}
use Rattle.object.specs.Soundness.{dead_sound, sound_row}
use Rattle.std.specs.Prelude.{Ok, Err}
use Rattle.block.specs.Verdicts.{Verdict}
use Rattle.std.specs.Prelude.{Ok, Err}
use Rattle.block.specs.Verdicts.{accepted}
use Rattle.block.specs.Tables.{sound_block}
use Rattle.tables.specs.declared.Tally.{Tally}
use Rattle.tables.specs.Tables.{Tables, fresh_tally, tallied}
use Rattle.tables.specs.Refusals.{refusal}
use Rattle.tables.specs.Effect.{taken, verdict, State, next, run, verdicts, after}
use Rattle.orders.specs.Due.{object_at}
use Rattle.orders.specs.Finishes.{none, answer_of}
use Rattle.orders_tight.specs.Tight.{equals, conditions, met, AllMet, Needed, Tight, WithinFollows, LiveFollows, PendingSpared}
use Rattle.orders.proofs.Step.{past_end, row_sound_lem}
use Rattle.orders.proofs.Finishes.{going_finishes}
use Rattle.orders.proofs.Due.{going}

-- ---- the list of conditions

-- one of a list that is known
at : {c d : List Bool} → c ≡ d → (k : ℕ) → get_or c k true ≡ get_or d k true
at e k = ap (λ (c : List Bool). get_or c k true) e

equals_is : (z : ℤ) (n : ℕ) → equals z n ≡ true → z ≡ pos n
equals_is (pos m) n h = ap pos (eqb-true m n h)
equals_is (negsuc m) n h = absurd (false≢true h)

is_equals : (z : ℤ) (n : ℕ) → z ≡ pos n → equals z n ≡ true
is_equals z n e = rw e (eq-eqb n n refl)

not_eqb : (m n : ℕ) → not (eqb m n) ≡ true → m ≢ n
not_eqb m n h = eqb-false m n (not-true (eqb m n) h)

pub all_met : AllMet
all_met t a l = (
  λ d i. d.sound i
      ∷ eq-eqb _ _ d.multiple i
      ∷ le-leb _ _ d.within i
      ∷ d.live i
      ∷ lt-ltb _ _ d.pending i
      ∷ d.seen i
      ∷ not (ne_eqb _ _ d.phase i)
      ∷ d.on i
      ∷ d.kinds i
      ∷ d.sizes i
      ∷ d.warps i
      ∷ eq-eqb _ _ d.counts i
      ∷ is_equals _ _ d.balance i
      ∷ lt-ltb _ _ d.drops i
      ∷ le-leb _ _ d.expectations i
      ∷ le-leb _ _ d.completions i
      ∷ [],
  λ e. record {
    sound = at e 0;
    multiple = eqb-true _ _ (at e 1);
    within = leb-true _ _ (at e 2);
    live = at e 3;
    pending = ltb-true _ _ (at e 4);
    seen = at e 5;
    phase = not_eqb _ _ (at e 6);
    on = at e 7;
    kinds = at e 8;
    sizes = at e 9;
    warps = at e 10;
    counts = eqb-true _ _ (at e 11);
    balance = equals_is _ _ (at e 12);
    drops = ltb-true _ _ (at e 13);
    expectations = leb-true _ _ (at e 14);
    completions = leb-true _ _ (at e 15);
  },
)

-- ---- steps that don't finish the phase

-- every step is accepted, and the phase completes once, at the last
abbrev once : List Verdict → Bool
once [] = false
once (Err r ∷ vs) = false
once (Ok a ∷ []) = a.done
once (Ok a ∷ (u ∷ vs)) = not a.done && once (u ∷ vs)

completes_once : (x : State) (a : ℕ) (s : Step) (l : List Step)
    → ((pre : List Step) (u : Step) (post : List Step) → s ∷ l ≡ pre ++ (u ∷ post)
    → verdict (run x pre).tables u ≡ accepted (answer_of (object_at (run x pre).tables a) u.op) (none post) 0)
    → once (verdicts x (s ∷ l)) ≡ true
completes_once x a s [] f = subst⁻¹ (λ (v : Verdict). once (v ∷ []) ≡ true) (f [] s [] refl) refl
completes_once x a s (u ∷ l) f =
    subst⁻¹ (λ (v : Verdict). once (v ∷ verdicts (next x s) (u ∷ l)) ≡ true) (f [] s (u ∷ l) refl)
    (completes_once (next x s) a u l (λ pre k post e. f (s ∷ pre) k post (ap (λ (r : List Step). s ∷ r) e)))

-- the tally is nothing to a verdict
any_tally : (t : Tables) (y z : Tally) (l : List Step) → verdicts (record { tables = t; tally = y }) l ≡ verdicts (record { tables = t; tally = z }) l
any_tally t y z [] = refl
any_tally t y z (s ∷ l) = ap (λ (vs : List Verdict). verdict t s ∷ vs) (any_tally (after t s) (tallied y (verdict t s)) (tallied z (verdict t s)) l)

-- so steps with other verdicts don't
needed : (k : ℕ) (t : Tables) (a : ℕ) (s : Step) (l : List Step) (vs : List Verdict)
    → conditions t a (s ∷ l) ≡ set met k false → verdicts (record { tables = t; tally = fresh_tally }) (s ∷ l) ≡ vs → once vs ≡ false → Needed k t a (s ∷ l) vs
needed k t a s l vs c e h = record {
  broken = c;
  answers = e;
  fails = λ y f. false≢true (sym h ∙ ap once (sym e ∙ any_tally t fresh_tally y (s ∷ l)) ∙ completes_once (record { tables = t; tally = y }) a s l f.steps);
}

pub tight : Tight
unfolding all every lowest sound_block refusal taken
tight = record {
  sound = needed 0 _ _ _ _ _ refl refl refl;
  multiple = needed 1 _ _ _ _ _ refl refl refl;
  pending = record { broken = refl; answers = refl; fails = λ y f. stays (ap (λ (x : State). (object_at x.tables 16).phase) f.end) };
  seen = needed 5 _ _ _ _ _ refl refl refl;
  phase = needed 6 _ _ _ _ _ refl refl refl;
  on = needed 7 _ _ _ _ _ refl refl refl;
  no_complete = needed 8 _ _ _ _ _ refl refl refl;
  expect_alone = needed 8 _ _ _ _ _ refl refl refl;
  zero_arrival = needed 9 _ _ _ _ _ refl refl refl;
  zero_drop = needed 9 _ _ _ _ _ refl refl refl;
  zero_completion = needed 9 _ _ _ _ _ refl refl refl;
  no_such_warp = needed 10 _ _ _ _ _ refl refl refl;
  not_ready = needed 10 _ _ _ _ _ refl refl refl;
  fewer_counts = needed 11 _ _ _ _ _ refl refl refl;
  more_counts = needed 11 _ _ _ _ _ refl refl refl;
  more_completions = needed 12 _ _ _ _ _ refl refl refl;
  fewer_completions = needed 12 _ _ _ _ _ refl refl refl;
  drops = needed 13 _ _ _ _ _ refl refl refl;
  expectations = needed 14 _ _ _ _ _ refl refl refl;
  completions = needed 15 _ _ _ _ _ refl refl refl;
}
  where
    stays : ◌≡◌ {A = ℕ} 0 1 → ⊥
    stays e = omega arith

-- ---- what follows from the others

pub live_follows : LiveFollows
live_follows t a sound some = by (object_at t a) (row_sound_lem t sound (a / 8)) some (object_at t a).live refl
  where
    by : (o : Object) → sound_row o ≡ true → 0 < o.pending → (b : Bool) → o.live ≡ b → o.live ≡ true
    by o h p true e = e
    by o h p false e =
        let d : dead_sound o ≡ true = rw e at h in
        absurd (false≢true (simp (ne_eqb o.pending 0 (omega arith), and-false) at d))

pub within_follows : WithinFollows
within_follows t a sound m live = by (dec_lt (a / 8) slots)
  where
    by : Dec (a / 8 < slots) → a ≤ 504
    by (yes h) = omega arith
    by (no f) = absurd (false≢true (ap (λ (o : Object). o.live) (sym (past_end t sound (a / 8) (omega arith))) ∙ live))

pub pending_spared : PendingSpared
pending_spared x a s l e =
    going_finishes a (eqb-true _ _ (at e 1), leb-true _ _ (at e 2)) x s l
    (going x.tables a (s ∷ l) (at e 0) (at e 3) (at e 5) (not_eqb _ _ (at e 6))
    (eqb-true _ _ (at e 11)) (equals_is _ _ (at e 12)) (ltb-true _ _ (at e 13)) (leb-true _ _ (at e 14)) (leb-true _ _ (at e 15))
    (at e 7) (at e 8) (at e 9) (at e 10))
