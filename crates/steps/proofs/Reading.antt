-- Reading, case by case, and what a step that was found says of the bytes.
-- Assumes nothing.
use mathlib.Core.Path.{◌≡◌, refl, sym, ap}
use mathlib.Core.Bool.{Bool, true, false, ◌&&◌}
use mathlib.Core.List.{List}
use Prim.Native.Nat.{ℕ, ◌+◌, ◌≤◌, ◌<◌}
use native.Mathlib.Omega.{arith}
use borrow.Author.Tests.{le-ltb, lt-ltb, ltb-false, eq-eqb, ne_eqb, eqb-false}
use lib.Dec.{eqb, ltb}
use lib.ListN.{length, drop}
use Rattle.std.specs.Prelude.{Ok, Err}
use Rattle.fields.specs.Row.{decode}
use Rattle.folds.specs.Folds.{lowest}
use Rattle.folds.proofs.Folds.{none_at}
use Rattle.steps.specs.declared.Step.{Step}
use Rattle.steps.specs.declared.Cursor.{Cursor}
use Rattle.refusals.specs.declared.Refusal.TheVariants.{UnknownKind, TooFewBytes}
use Rattle.refusals.proofs.Refusals.{unless_ok}
use Rattle.steps.specs.Step.{kind_at, length_of, step_of, row, read_refusal, read_at}

-- an answer of a byte that is there is not of an unknown kind
known_kind : (b : Bool) (n : ℕ) → b ≡ true → b && eqb n 0 ≡ false → 0 < n
known_kind b n e h = pos (eqb-false n 0 (rw e at h))
  where
    pos : (n ≡ 0 → ⊥) → 0 < n
    pos f = omega arith

module _ (s : List ℕ) (at : ℕ) where
  abbrev pub step_at : Step
  step_at = step_of (kind_at s at) (decode (row (kind_at s at)) (drop (at + 1) s))

  abbrev pub next : Cursor
  next = record { at = at + 1 + length_of (kind_at s at) }

  pub read_end : length s ≤ at → Err TooFewBytes ≡ read_at s at
  unfolding lowest read_at
  read_end h = rw (le-ltb at (length s) h, lt-ltb (length s) (at + 1 + length_of (kind_at s at)) (omega arith))

  pub read_unknown : at < length s → length_of (kind_at s at) ≡ 0 → Err UnknownKind ≡ read_at s at
  unfolding lowest read_at
  read_unknown more h = rw (lt-ltb at (length s) more, eq-eqb (length_of (kind_at s at)) 0 h)

  module _ (more : at < length s) (is : 0 < length_of (kind_at s at)) where
    pub read_short : length s < at + 1 + length_of (kind_at s at) → Err TooFewBytes ≡ read_at s at
    unfolding lowest read_at
    read_short h =
        rw (lt-ltb at (length s) more, ne_eqb (length_of (kind_at s at)) 0 (λ z. omega arith), lt-ltb (length s) (at + 1 + length_of (kind_at s at)) h)

    pub read_found : at + 1 + length_of (kind_at s at) ≤ length s → Ok (step_at, next) ≡ read_at s at
    unfolding lowest read_at
    read_found h =
        rw (lt-ltb at (length s) more, ne_eqb (length_of (kind_at s at)) 0 (λ z. omega arith), le-ltb (length s) (at + 1 + length_of (kind_at s at)) h)

-- what a step that was found says
pub record IsFound (s : List ℕ) (at : ℕ) (st : Step) (c : Cursor) : Type 0 where
  pub more : at < length s
  pub known : 0 < length_of (kind_at s at)
  pub fits : at + 1 + length_of (kind_at s at) ≤ length s
  pub step : step_at s at ≡ st
  pub cursor : next s at ≡ c

pub is_found : (s : List ℕ) (at : ℕ) (st : Step) (c : Cursor) → read_at s at ≡ Ok (st, c) → IsFound s at st c
unfolding read_at
is_found s at st c e =
    let h = unless_ok (read_refusal s at) (step_at s at, next s at) (st, c) e in
    let no = none_at _ refl h.0 in
    let fits = ltb-false (length s) (at + 1 + length_of (kind_at s at)) (no 1) in
    let more : at < length s = omega arith in
    record {
      more = more;
      known = known_kind (ltb at (length s)) (length_of (kind_at s at)) (lt-ltb at (length s) more) (no 0);
      fits = fits;
      step = sym (ap (λ (x : Step × Cursor). x.0) h.1);
      cursor = sym (ap (λ (x : Step × Cursor). x.1) h.1);
    }
