-- Every order of steps that are due is due, so it finishes the phase, and at the same end.
-- Assumes nothing.
use mathlib.Core.Path.{◌≡◌, refl, sym, ap, subst, subst⁻¹, ◌∙◌}
use mathlib.Core.Bool.{Bool, true, false, ◌&&◌, Bool-set}
use mathlib.Core.List.Perm
use mathlib.Core.List.{List, [], ◌∷◌, ◌++◌, append-nil, foldr, Perm}
use Prim.Native.Nat.{ℕ, ◌+◌}
use native.Mathlib.Nat.{ℕ_set, add_left_comm}
use Rattle.steps.specs.declared.Step.{Step}
use Rattle.block.specs.declared.Block.{Block}
use Rattle.tables.specs.Tables.{Tables, sound_tables, counted}
use Rattle.tables.specs.Effect.{State, next, after, run}
use Rattle.orders.specs.Due.{object_at, Share, brings, total, each, on, takes_part, at_least_one, ready, from_ready, Due}
use Rattle.orders.specs.Finishes.{ended, with_row, finished, step_on, Finishes}
use Rattle.orders.specs.Orders.{EveryOrder, SameEnd, SoundThroughout, Tested, end, step, test, TestsAside}
use Rattle.orders.proofs.Step.{Address}
use Rattle.orders.proofs.Finishes.{Going, goes, reaches, comes_to, tests_no, last_sound, going_finishes}
use Rattle.orders.proofs.Due.{due_going, due_some}

-- ---- what an order leaves

and_left_comm : (a b c : Bool) → a && (b && c) ≡ b && (a && c)
and_left_comm true b c = refl
and_left_comm false true c = refl
and_left_comm false false c = refl

pub total_perm : (f : Share → ℕ) {l l' : List Step} → Perm l l' → total f l ≡ total f l'
total_perm f p = Perm.foldr-eq ℕ_set (λ s n. f (brings s.op) + n) (λ s u n. add_left_comm (f (brings s.op)) (f (brings u.op)) n) p 0

each_perm : (q : Step → Bool) {l l' : List Step} → Perm l l' → each q l ≡ true → each q l' ≡ true
each_perm q p h = sym (Perm.foldr-eq Bool-set (λ s b. q s && b) (λ s u b. and_left_comm (q s) (q u) b) p true) ∙ h

counted_perm : (n : ℕ) {l l' : List Step} → Perm l l' → foldr (λ s k. counted k) n l ≡ foldr (λ s k. counted k) n l'
counted_perm n p = Perm.foldr-eq ℕ_set (λ s k. counted k) (λ s u k. refl) p n

due_perm : (t : Tables) (a : ℕ) {l l' : List Step} → Due t a l → Perm l l' → Due t a l'
due_perm t a {l} {l'} d p =
    let c = total_perm (λ r. r.count) p in
    let n = total_perm (λ r. r.drop) p in
    let e = total_perm (λ r. r.expect) p in
    let k = total_perm (λ r. r.complete) p in
    record {
      sound = d.sound;
      multiple = d.multiple;
      within = d.within;
      live = d.live;
      pending = d.pending;
      seen = d.seen;
      phase = d.phase;
      on = each_perm (on a) p d.on;
      kinds = each_perm takes_part p d.kinds;
      sizes = each_perm at_least_one p d.sizes;
      warps = each_perm (from_ready t.block) p d.warps;
      counts = rw c at d.counts;
      balance = rw (e, k) at d.balance;
      drops = rw n at d.drops;
      expectations = rw e at d.expectations;
      completions = rw k at d.completions;
    }

-- ---- the theorem

due_finishes : (x : State) (a : ℕ) (l : List Step) → Due x.tables a l → Finishes x a l
due_finishes x a [] d = absurd (due_some x.tables a d)
due_finishes x a (s ∷ l) d = going_finishes a (d.multiple, d.within) x s l (due_going x.tables a (s ∷ l) d)

pub every_order : EveryOrder
every_order x a l l' d p = due_finishes x a l' (due_perm x.tables a d p)

-- an order has the end of the list that is due
same_ended : (x : State) (a : ℕ) {l l' : List Step} → Perm l l' → ended x a l ≡ ended x a l'
same_ended x a p = λ i. record {
  tables = with_row x.tables a (finished (object_at x.tables a) (total_perm (λ r. r.drop) p i));
  tally = record { accepted = counted_perm x.tally.accepted p i; refused = x.tally.refused };
}

pub same_end : SameEnd
same_end x a l l' l'' d p q = (every_order x a l l' d p).end ∙ sym (same_ended x a p) ∙ same_ended x a q ∙ sym (every_order x a l l'' d q).end

-- ---- the tables on the way

due_sound : (x : State) (a : ℕ) (l : List Step) → Due x.tables a l → (pre post : List Step) → l ≡ pre ++ post → sound_tables (run x pre).tables ≡ true
due_sound x a [] d pre post e = absurd (due_some x.tables a d)
due_sound x a (s ∷ l) d pre [] e =
    let g = due_going x.tables a (s ∷ l) d in
    let k : pre ≡ s ∷ l = sym (e ∙ append-nil pre) in
    subst⁻¹ (λ (r : List Step). sound_tables (run x r).tables ≡ true) k
    (subst⁻¹ (λ (y : State). sound_tables y.tables ≡ true) (comes_to a (d.multiple, d.within) x s l g) (last_sound a (d.multiple, d.within) x s l g))
due_sound x a (s ∷ l) d pre (u ∷ post) e =
    (reaches a (d.multiple, d.within) x pre u post (subst (Going x.tables a) e (due_going x.tables a (s ∷ l) d))).0.sound

pub sound_throughout : SoundThroughout
sound_throughout x a l l' d p = due_sound x a l' (due_perm x.tables a d p)

-- ---- with tests put in

module _ (b : Block) (a ph : ℕ) (good : Address a) where
  -- while a step is left, it is of the phase ph, in a block b
  abbrev Open : Tables → List Step → Type 0
  Open t [] = Unit {0}
  Open t (s ∷ l) = Going t a (s ∷ l) × (t.block ≡ b) × ((object_at t a).phase ≡ ph)

  open_next : (t : Tables) (s : Step) (l : List Step) → Open t (s ∷ l) → Open (after t s) l
  open_next t s [] h = tt
  open_next t s (u ∷ l) h = let r = goes a good t s u l h.0 in (r.0, r.1.block ∙ h.1, r.1.phase ∙ h.2)

  aside : (x y : State) {l m : List Step} → Open x.tables l → y.tables ≡ x.tables → Tested b a ph l m → (run y m).tables ≡ (run x l).tables
  aside x y h e end = e
  aside x y h e (step {s = s} {l = l} r) = aside (next x s) (next y s) (open_next x.tables s l h) (ap (λ (t : Tables). after t s) e) r
  aside x y h e (test {w = w} {o = o} {s = s} {l = l} k q r) =
      aside x (next y (step_on w a o)) h
      (ap (λ (t : Tables). after t (step_on w a o)) e
      ∙ (tests_no a good x.tables s l h.0 w (subst⁻¹ (λ (c : Block). ready c w ≡ true) h.1 k) ph h.2 o q).1)
      r

pub tests_aside : TestsAside
tests_aside x a l l' m d p r = aside x.tables.block a (object_at x.tables a).phase (d.multiple, d.within) x x (opened l' (due_perm x.tables a d p)) refl r
  where
    opened : (k : List Step) → Due x.tables a k → Open x.tables.block a (object_at x.tables a).phase (d.multiple, d.within) x.tables k
    opened [] d = tt
    opened (s ∷ k) d = (due_going x.tables a (s ∷ k) d, refl, refl)
