-- The kinds one by one: which there are, and that reading keeps a kind and its fields.
-- Assumes nothing.
use mathlib.Core.Path.{◌≡◌, refl, ap}
use mathlib.Core.List.{List, []}
use Prim.Native.Nat.{ℕ, ◌<◌}
use native.Mathlib.Decide.{dec_lt}
use native.Mathlib.Omega.{arith}
use lib.Dec.{lit<}
use lib.ListN.{get_or-eq_default}
use Rattle.fields.specs.Row.{decode, total}
use Rattle.folds.proofs.Cases.{cases, ◌&◌}
use Rattle.steps.specs.declared.kinds.Kind.{Kind}
use Rattle.steps.specs.declared.kinds.Kind.TheVariants.{Exit, SyncAll, Sync, BarrierArrive, RedAll, Red, Init, Inval, Arrive, ArriveNoComplete, ArriveExpect, Drop, DropExpect, Expect, Complete, TestToken, TestParity, PendingCount, DropNoComplete}
use Rattle.steps.specs.Kind.{byte_of}
use Rattle.steps.specs.Step.{rows, row, length_of, step_of, kind_of, values_of}

-- a kind past the rows has none
pub in_rows : (k : ℕ) → (row k ≡ [] → ⊥) → k < 20
in_rows k ne = go (dec_lt k 20)
  where
    go : Dec (k < 20) → k < 20
    go (yes l) = l
    go (no g) = absurd (ne (get_or-eq_default rows [] {n = k} (omega arith)))

-- a kind with a length is one of the rows
pub known : (k : ℕ) → 0 < length_of k → k < 20
known k h = in_rows k (λ e. omega (arith, ap total e))

-- a step that was read has the kind and the fields that were read
pub kept : (b : List ℕ) (k : ℕ) → k < 20 → 0 < length_of k
    → (kind_of (step_of k (decode (row k) b)) ≡ k) × (values_of (step_of k (decode (row k) b)) ≡ decode (row k) b)
kept b =
    cases (λ k. 0 < length_of k → (kind_of (step_of k (decode (row k) b)) ≡ k) × (values_of (step_of k (decode (row k) b)) ≡ decode (row k) b)) 20
    ((λ h. absurd (omega arith)) & (λ h. (refl, refl)) & (λ h. (refl, refl)) & (λ h. (refl, refl)) & (λ h. (refl, refl)) & (λ h. (refl, refl)) & (λ h. (refl, refl)) & (λ h. (refl, refl)) & (λ h. (refl, refl)) & (λ h. (refl, refl)) & (λ h. (refl, refl)) & (λ h. (refl, refl)) & (λ h. (refl, refl)) & (λ h. (refl, refl)) & (λ h. (refl, refl)) & (λ h. (refl, refl)) & (λ h. (refl, refl)) & (λ h. (refl, refl)) & (λ h. (refl, refl)) & (λ h. (refl, refl)) & tt)

-- a kind's byte is of some length
pub some : (k : Kind) → 0 < length_of (byte_of k)
some Exit = lit< tt
some SyncAll = lit< tt
some Sync = lit< tt
some BarrierArrive = lit< tt
some RedAll = lit< tt
some Red = lit< tt
some Init = lit< tt
some Inval = lit< tt
some Arrive = lit< tt
some ArriveNoComplete = lit< tt
some ArriveExpect = lit< tt
some Drop = lit< tt
some DropExpect = lit< tt
some Expect = lit< tt
some Complete = lit< tt
some TestToken = lit< tt
some TestParity = lit< tt
some PendingCount = lit< tt
some DropNoComplete = lit< tt

-- a byte that no kind has is of no length
pub none : (b : ℕ) → ((k : Kind) → byte_of k ≡ b → ⊥) → length_of b ≡ 0
none b h = go (dec_lt b 20)
  where
    each : (n : ℕ) → n < 20 → ((k : Kind) → byte_of k ≡ n → ⊥) → length_of n ≡ 0
    each =
        cases (λ n. ((k : Kind) → byte_of k ≡ n → ⊥) → length_of n ≡ 0) 20
        ((λ h. refl) & (λ h. absurd (h Exit refl)) & (λ h. absurd (h SyncAll refl)) & (λ h. absurd (h Sync refl)) & (λ h. absurd (h BarrierArrive refl)) & (λ h. absurd (h RedAll refl)) & (λ h. absurd (h Red refl)) & (λ h. absurd (h Init refl)) & (λ h. absurd (h Inval refl)) & (λ h. absurd (h Arrive refl)) & (λ h. absurd (h ArriveNoComplete refl)) & (λ h. absurd (h ArriveExpect refl)) & (λ h. absurd (h Drop refl)) & (λ h. absurd (h DropExpect refl)) & (λ h. absurd (h Expect refl)) & (λ h. absurd (h Complete refl)) & (λ h. absurd (h TestToken refl)) & (λ h. absurd (h TestParity refl)) & (λ h. absurd (h PendingCount refl)) & (λ h. absurd (h DropNoComplete refl)) & tt)

    go : Dec (b < 20) → length_of b ≡ 0
    go (yes l) = each b l h
    go (no g) = ap total (get_or-eq_default rows [] {n = b} (omega arith))
