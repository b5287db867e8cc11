-- `steps::Cursor::read` meets its contract: at each return the tests that led there say which line applies, or that none does.
-- Assumes nothing.
use Prim.Native.Nat.{ℕ, ◌+◌, ◌-◌, ◌≤◌, ◌<◌}
use mathlib.Core.Path.{◌≡◌, ap, ◌∙◌}
use mathlib.Core.List.{List}
use native.Mathlib.Omega.{arith}
use native.Mathlib.Nat.{add-zero}
use lib.ListN.{length, take, drop, get_or, length-drop}
use lib.Seq.{get_or-drop, drop-drop, take_all}
use Rattle.std.specs.Prelude.{Ok, Err}
use Rattle.std.proofs.lemmas.Result.{err_from_is_err_and}
use Rattle.fields.specs.Row.{decode}
use Rattle.refusals.specs.declared.Refusal.TheVariants.{UnknownKind, TooFewBytes}
use Rattle.steps.specs.declared.Step.{Step}
use Rattle.steps.specs.declared.kinds.Kind.{Kind}
use Rattle.steps.specs.Kind.{byte_of}
use Rattle.steps.specs.Step.{kind_at, length_of, step_of, row, read_at}
use Rattle.steps.proofs.Each.{some, none}
use Rattle.steps.proofs.Reading.{read_end, read_unknown, read_short, read_found}
use Rattle.steps.proofs.Cursor.read.Goals as goal

-- what is left from the place on begins with a byte
module _ (s l : List ℕ) (at : ℕ) (el : l ≡ drop at s) (is : 1 ≤ length l) where
  more : at < length s
  more = omega (arith, length-drop at s, ap length el)

  byte : get_or l 0 0 ≡ kind_at s at
  byte = rw el (get_or-drop at s 0 0 ∙ ap (λ (i : ℕ). get_or s i 0) (add-zero at))

  body : take (length l - 1) (drop 1 l) ≡ drop (at + 1) s
  body = take_all (length l - 1) (drop 1 l) (simp length-drop (omega arith)) ∙ ap (drop 1) el ∙ drop-drop 1 at s

  no_kind : ((k : Kind) → byte_of k ≡ get_or l 0 0 → ⊥) → Err UnknownKind ≡ read_at s at
  no_kind h = read_unknown s at more (rw (← byte) (none (get_or l 0 0) h))

  -- a kind has it, of so many bytes behind it
  module _ (k : Kind) (n : ℕ) (ek : byte_of k ≡ get_or l 0 0) (en : n ≡ length_of (get_or l 0 0)) where
    has : byte_of k ≡ kind_at s at
    has = ek ∙ byte

    long : n ≡ length_of (kind_at s at)
    long = en ∙ ap length_of byte

    known : 0 < length_of (kind_at s at)
    known = rw (← has) (some k)

    cut : length (take (length l - 1) (drop 1 l)) < n → Err TooFewBytes ≡ read_at s at
    cut h = read_short s at more known (omega (arith, ap length body, length-drop (at + 1) s, long))

    whole : (st : Step) → n ≤ length (take (length l - 1) (drop 1 l)) → st ≡ step_of (byte_of k) (decode (row (byte_of k)) (take (length l - 1) (drop 1 l)))
        → Ok (st, record { at = at + 1 + n }) ≡ read_at s at
    whole st h e =
        (λ i. Ok ((e ∙ (λ j. step_of (has j) (decode (row (has j)) (body j)))) i, record { at = at + 1 + long i }))
        ∙ read_found s at more known (omega (arith, ap length body, length-drop (at + 1) s, long, more))

pub returns-in_default : goal.returns-in_default
returns-in_default c = read_end c.args.s.now c.args.self.at (omega (arith, length-drop c.args.self.at c.args.s.now, ap length c.rest.ensures))

pub returns-in_err-kind : goal.returns-in_err-kind
returns-in_err-kind c =
    let h = c.in_err-kind.ensures in
    let e = err_from_is_err_and c.from_residual.result c.from_residual.ensures.1 in
    e.1 ∙ ap Err (e.2 ∙ h.0)
    ∙ no_kind c.args.s.now c.rest.result.now c.args.self.at c.rest.ensures c.in-len1-up.len_at_least h.1

pub returns-then-body-n : goal.returns-then-body-n
returns-then-body-n c =
    cut c.args.s.now c.rest.result.now c.args.self.at c.rest.ensures c.in-len1-up.len_at_least c.in_ok-kind.kind c.length_of-n.result
    c.in_ok-kind.ensures c.length_of-n.ensures c.if-body-n.true

pub returns : goal.returns
returns c =
    whole c.args.s.now c.rest.result.now c.args.self.at c.rest.ensures c.in-len1-up.len_at_least c.in_ok-kind.kind c.length_of-n.result
    c.in_ok-kind.ensures c.length_of-n.ensures c.step_of.result c.if-body-n.false c.step_of.ensures
