-- That numbers and lines name each other, and what is answered by a table.
-- Assumes nothing.
use mathlib.Core.Path.{◌≡◌, refl, sym, ap, ◌∙◌}
use mathlib.Core.Bool.{Bool, true, false, cond}
use mathlib.Core.List.{List, [], ◌∷◌}
use Prim.Native.Nat.{ℕ, zero, suc, ◌≤◌, ◌<◌}
use lib.Dec.{leb}
use borrow.Author.Tests.{leb-true}
use Rattle.std.specs.Prelude.{Ok, Err}
use native.Mathlib.Omega.{arith}
use Rattle.folds.specs.Folds.{Line, lowest}
use Rattle.folds.proofs.Folds.{and_left, and_right}
use Rattle.folds.proofs.Lowest.{lowest_given, none_given}
use Rattle.folds.proofs.Cases.{cases, ◌&◌}
use Rattle.refusals.specs.declared.Refusal.{Refusal}
use Rattle.refusals.specs.declared.Refusal.TheVariants.{UnknownKind, TooFewBytes, Unsound, NoSuchWarp, NotReady, NoSuchBarrier, BadThreads, BadSelector, Clashes, AlreadyArrived, BadAddress, NotLive, AlreadyLive, BadCount, OutOfRange, Unseen, EndsQuietly, EndsLast, BadToken, BadParity, TooLong}
use Rattle.refusals.specs.Refusals.{number, named, NumberNames, NamedNumber, unless, within, LowestNamed, RefusedExactly, AnsweredExactly}

pub number_names : NumberNames
number_names UnknownKind = refl
number_names TooFewBytes = refl
number_names Unsound = refl
number_names NoSuchWarp = refl
number_names NotReady = refl
number_names NoSuchBarrier = refl
number_names BadThreads = refl
number_names BadSelector = refl
number_names Clashes = refl
number_names AlreadyArrived = refl
number_names BadAddress = refl
number_names NotLive = refl
number_names AlreadyLive = refl
number_names BadCount = refl
number_names OutOfRange = refl
number_names Unseen = refl
number_names EndsQuietly = refl
number_names EndsLast = refl
number_names BadToken = refl
number_names BadParity = refl
number_names TooLong = refl

pub named_number : NamedNumber
named_number n low high = each n (omega arith) low
  where
    each : (k : ℕ) → k < 22 → 1 ≤ k → number (named k) ≡ k
    each =
        cases (λ k. 1 ≤ k → number (named k) ≡ k) 22
        ((λ h. absurd (omega arith)) & (λ h. refl) & (λ h. refl) & (λ h. refl) & (λ h. refl) & (λ h. refl) & (λ h. refl) & (λ h. refl) & (λ h. refl) & (λ h. refl) & (λ h. refl) & (λ h. refl) & (λ h. refl) & (λ h. refl) & (λ h. refl) & (λ h. refl) & (λ h. refl) & (λ h. refl) & (λ h. refl) & (λ h. refl) & (λ h. refl) & (λ h. refl) & tt)

-- ---- what is answered by a table

-- the lowest number is one of the table's
pub lowest_within : (ls : List Line) → within ls ≡ true → lowest ls ≤ 21
unfolding lowest
lowest_within [] h = omega arith
lowest_within (l ∷ ls) h = go l.0 (leb-true l.1 21 (and_left (leb l.1 21) (within ls) h)) (lowest_within ls (and_right (leb l.1 21) (within ls) h))
  where
    go : (t : Bool) → l.1 ≤ 21 → lowest ls ≤ 21 → cond t l.1 (lowest ls) ≤ 21
    go true a b = a
    go false a b = b

pub lowest_named : LowestNamed
lowest_named ls h f = named_number (lowest ls) (omega arith) (lowest_within ls h)

-- a line's number is not 0
pub number_some : (r : Refusal) → 0 < number r
number_some r = omega (arith, none)
  where
    none : number r ≡ 0 → ⊥
    none e = let q : UnknownKind ≡ r = sym (ap named e) ∙ number_names r in let k : 1 ≡ number r = ap number q in omega arith

-- what is answered else is answered where the number is 0
pub unless_ok : {A : Type 0} (n : ℕ) (a b : A) → unless n a ≡ Ok b → (n ≡ 0) × (b ≡ a)
unless_ok zero a b e = (refl, cc)
unless_ok (suc n) a b e = (cc, cc)

-- a refusal is answered where the number is its line's
pub unless_err : {A : Type 0} (n : ℕ) (a : A) (r : Refusal) → n ≤ 21 → unless n a ≡ Err r → n ≡ number r
unless_err zero a r l e = cc
unless_err (suc n) a r l e = let q : named (suc n) ≡ r = cc in sym (named_number (suc n) (omega arith) l) ∙ ap number q

-- and where it is, that is answered
pub err_unless : {A : Type 0} (n : ℕ) (a : A) (r : Refusal) → n ≡ number r → unless n a ≡ Err r
err_unless zero a r e = absurd (omega (arith, number_some r))
err_unless (suc n) a r e = ap Err (ap named e ∙ number_names r)

pub refused_exactly : {A : Type 0} → RefusedExactly A
refused_exactly ls a up h r = (
  λ e. (lowest_given ls up (number r) (number_some r)).0 (unless_err (lowest ls) a r (lowest_within ls h) e),
  λ w. err_unless (lowest ls) a r ((lowest_given ls up (number r) (number_some r)).1 w),
)

pub answered_exactly : {A : Type 0} → AnsweredExactly A
answered_exactly ls a up = (
  λ e. (none_given ls up).0 (unless_ok (lowest ls) a a e).0,
  λ f. ap (λ (n : ℕ). unless n a) ((none_given ls up).1 f),
)
