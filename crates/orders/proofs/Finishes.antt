-- Steps that are due on an object finish its phase, in the order in which they stand.
-- Assumes nothing.
use mathlib.Core.Path.{◌≡◌, refl, sym, ap, subst, subst⁻¹, ◌∙◌}
use mathlib.Core.Bool.{Bool, true, false, cond}
use mathlib.Core.List.{List, [], ◌∷◌, ◌++◌, foldr}
use Prim.Native.Nat.{ℕ, ◌+◌, ◌/◌, ◌<◌}
use native.Mathlib.Omega.{arith}
use borrow.Author.Tests.{leb-true}
use Rattle.folds.specs.Folds.{digit}
use Rattle.steps.specs.declared.ObjectStep.{ObjectStep}
use Rattle.steps.specs.declared.Step.{Step}
use Rattle.object.specs.declared.Object.{Object}
use Rattle.object.specs.declared.Act.{Act}
use Rattle.object.specs.Row.{last_phase, next_phase, acted, ends, both_zero, lines}
use Rattle.block.specs.declared.Block.{Block}
use Rattle.block.specs.Verdicts.{accepted}
use Rattle.tables.specs.Tables.{Tables, sound_tables, counted, tallied}
use Rattle.tables.specs.Refusals.{act_of}
use Rattle.tables.specs.Effect.{verdict, after, State, next, run}
use Rattle.orders.specs.Due.{object_at, Share, share_of, brings, counts, drops, expectations, completions, some_of, ready}
use Rattle.orders.specs.Finishes.{none, answer_of, finished, with_row, ended, step_on, TestOf, Finishes}
use Rattle.orders.proofs.Clear.{Clear}
use Rattle.orders.proofs.Row.{Part, arrival, completion, plus, Left, left_sound, stays, passes, ends_so, phase_acted}
use Rattle.orders.proofs.Row.{goes_on, ends_now, next_is, finished_acted, finished_sound}
use Rattle.orders.proofs.Tests.{Says, says_no, says_yes}
use Rattle.orders.proofs.Step.{Address, slot_below, at_row, with_sound, with_with, with_same, says, leaves}

-- ---- the steps of the list

-- a step on the object at a that takes part, from a ready warp
pub record Good (b : Block) (a : ℕ) (s : Step) : Type 0 where
  pub step : ObjectStep
  pub here : s ≡ step_on s.warp a step
  pub part : Part (act_of step)
  pub size : some_of (act_of step) ≡ true
  pub ready : ready b s.warp ≡ true

abbrev pub AllGood : Block → ℕ → List Step → Type 0
AllGood b a [] = Unit {0}
AllGood b a (s ∷ l) = Good b a s × AllGood b a l

-- what they bring together
abbrev pub sums : List Step → Share
sums l = record { count = counts l; drop = drops l; expect = expectations l; complete = completions l }

-- an expectation comes with an arrival, and every step is an arrival or a completion
share_some : {y : Act} → Part y → some_of y ≡ true → ((share_of y).count ≡ 0 → (share_of y).expect ≡ 0) × (0 < (share_of y).count + (share_of y).complete)
share_some (arrival n drop x) h = (λ e. absurd (omega (arith, leb-true)), omega (arith, leb-true))
share_some (completion x) h = (λ e. refl, omega (arith, leb-true))

brings_some : (b : Block) (a : ℕ) (s : Step) → Good b a s
    → ((brings s.op).count ≡ 0 → (brings s.op).expect ≡ 0) × (0 < (brings s.op).count + (brings s.op).complete)
brings_some b a s g =
    subst⁻¹ (λ (s : Step). ((brings s.op).count ≡ 0 → (brings s.op).expect ≡ 0) × (0 < (brings s.op).count + (brings s.op).complete))
    g.here (share_some g.part g.size)

no_arrivals : (b : Block) (a : ℕ) (l : List Step) → AllGood b a l → counts l ≡ 0 → expectations l ≡ 0
no_arrivals b a [] g e = refl
no_arrivals b a (s ∷ l) g e =
    let p = (brings_some b a s g.0).0 (omega arith) in
    let q = no_arrivals b a l g.1 (omega arith) in
    omega arith

-- the tally counts them one by one
counted_out : (l : List Step) (n : ℕ) → foldr (λ s k. counted k) (counted n) l ≡ counted (foldr (λ s k. counted k) n l)
counted_out [] n = refl
counted_out (s ∷ l) n = ap counted (counted_out l n)

-- ---- one step

-- in sound tables the steps l are left of the phase of the object at a
pub record Going (t : Tables) (a : ℕ) (l : List Step) : Type 0 where
  pub sound : sound_tables t ≡ true
  pub left : Left (object_at t a) (sums l)
  pub steps : AllGood t.block a l

-- what is kept while a step is left: the block, and the object's phase
pub record Same (a : ℕ) (t t' : Tables) : Type 0 where
  pub block : t'.block ≡ t.block
  pub phase : (object_at t' a).phase ≡ (object_at t a).phase

-- the row that a step leaves, with the steps that are left after it
abbrev landed : Object → Act → List Step → Object
landed o y l = cond (none l) (next_phase (acted o y)) (acted o y)

module _ (a : ℕ) (good : Address a) where
  module _ (t : Tables) (s : Step) (l : List Step) (g : Going t a (s ∷ l)) where
    open g.steps.0 use {step, here, part, size, ready as from}

    abbrev o : Object
    o = object_at t a

    abbrev y : Act
    y = act_of step

    whole : Left o (plus (share_of y) (sums l))
    whole = subst (λ (u : Step). Left o (sums (u ∷ l))) here g.left

    mid : Left (acted o y) (sums l)
    mid = stays o (sums l) part size whole

    clear : Clear (lines o (a / 8) y)
    clear = passes o (sums l) (a / 8) part size whole

    ends_last : ends o y ≡ none l
    ends_last = ends_so o part ∙ by l g.steps.1 mid
      where
        by : (l : List Step) → AllGood t.block a l → Left (acted o y) (sums l) → both_zero (acted o y) ≡ none l
        by [] h m = ends_now (acted o y) m
        by (u ∷ l) h m =
            let q = (brings_some t.block a u h.0).1 in
            goes_on (acted o y) m (no_arrivals t.block a (u ∷ l) h) (omega arith)

    pub moves : verdict t s ≡ accepted (answer_of o s.op) (none l) 0
    moves =
        ap (verdict t) here
        ∙ says t g.sound a good s.warp from step clear
        ∙ (λ i. accepted (answer_of o (sym here i).op) (ends_last i) 0)

    lands : after t s ≡ with_row t a (landed o y l)
    lands =
        ap (after t) here
        ∙ leaves t g.sound a good s.warp from step clear
        ∙ ap (λ (b : Bool). with_row t a (cond b (next_phase (acted o y)) (acted o y))) ends_last

  -- ---- any number of steps, with one left

  pub goes : (t : Tables) (s u : Step) (l : List Step) → Going t a (s ∷ (u ∷ l)) → Going (after t s) a (u ∷ l) × Same a t (after t s)
  goes t s u l g =
      subst⁻¹ (λ (k : Tables). Going k a (u ∷ l) × Same a t k) (lands t s (u ∷ l) g) (
        record {
          sound = with_sound t g.sound a good row (left_sound row (mid t s (u ∷ l) g));
          left = subst⁻¹ (λ (k : Object). Left k (sums (u ∷ l))) there (mid t s (u ∷ l) g);
          steps = g.steps.1;
        },
        record { block = refl; phase = ap (λ (k : Object). k.phase) there ∙ phase_acted (object_at t a) g.steps.0.part },
      )
    where
      row : Object
      row = acted (object_at t a) (y t s (u ∷ l) g)

      there : object_at (with_row t a row) a ≡ row
      there = at_row t g.sound a good row

  pub reaches : (x : State) (pre : List Step) (s : Step) (post : List Step) → Going x.tables a (pre ++ (s ∷ post))
      → Going (run x pre).tables a (s ∷ post) × Same a x.tables (run x pre).tables
  reaches x [] s post g = (g, record { block = refl; phase = refl })
  reaches x (p ∷ []) s post g = goes x.tables p s post g
  reaches x (p ∷ (q ∷ pre)) s post g =
      let h = goes x.tables p q (pre ++ (s ∷ post)) g in
      let r = reaches (next x p) (q ∷ pre) s post h.0 in
      (r.0, record { block = r.1.block ∙ h.1.block; phase = r.1.phase ∙ h.1.phase })

  -- ---- the end

  -- the state after an accepted step that leaves the row o
  abbrev stepped : State → Object → State
  stepped x o = record { tables = with_row x.tables a o; tally = record { accepted = counted x.tally.accepted; refused = x.tally.refused } }

  next_state : (x : State) (s : Step) (l : List Step) (g : Going x.tables a (s ∷ l))
      → next x s ≡ stepped x (landed (object_at x.tables a) (y x.tables s l g) l)
  next_state x s l g = λ i. record { tables = lands x.tables s l g i; tally = tallied x.tally (moves x.tables s l g i) }

  pub comes_to : (x : State) (s : Step) (l : List Step) → Going x.tables a (s ∷ l) → run x (s ∷ l) ≡ ended x a (s ∷ l)
  comes_to x s [] g =
      next_state x s [] g
      ∙ ap (stepped x) (
      next_is (acted (object_at x.tables a) (y x.tables s [] g)) (mid x.tables s [] g)
      ∙ finished_acted (object_at x.tables a) 0 g.steps.0.part
      ∙ ap (λ (u : Step). finished (object_at x.tables a) (drops (u ∷ []))) (sym g.steps.0.here)
      )
  comes_to x s (u ∷ l) g =
      comes_to (next x s) u l (goes x.tables s u l g).0
      ∙ ap (λ (k : State). ended k a (u ∷ l)) (next_state x s (u ∷ l) g)
      ∙ (λ i. record { tables = tables_are i; tally = record { accepted = counted_out (u ∷ l) x.tally.accepted i; refused = x.tally.refused } })
    where
      row : Object
      row = acted (object_at x.tables a) (y x.tables s (u ∷ l) g)

      tables_are : with_row (with_row x.tables a row) a (finished (object_at (with_row x.tables a row) a) (drops (u ∷ l)))
          ≡ with_row x.tables a (finished (object_at x.tables a) (drops (s ∷ (u ∷ l))))
      tables_are =
          with_with x.tables a row _
          ∙ ap (with_row x.tables a) (
          ap (λ (k : Object). finished k (drops (u ∷ l))) (at_row x.tables g.sound a good row)
          ∙ finished_acted (object_at x.tables a) (drops (u ∷ l)) g.steps.0.part
          ∙ ap (λ (k : Step). finished (object_at x.tables a) (drops (k ∷ (u ∷ l)))) (sym g.steps.0.here)
          )

  -- ---- tests

  module _ (t : Tables) (sound : sound_tables t ≡ true) (w : ℕ) (h : ready t.block w ≡ true) (o : ObjectStep) where
    test_says : (b : Bool) → Says (object_at t a) (a / 8) (act_of o) b → verdict t (step_on w a o) ≡ accepted (digit b) false 0
    test_says b k = says t sound a good w h o k.clear ∙ (λ i. accepted (k.value i) (k.done i) 0)

    test_leaves : Says (object_at t a) (a / 8) (act_of o) false → after t (step_on w a o) ≡ t
    test_leaves k = leaves t sound a good w h o k.clear ∙ ap (with_row t a) k.row ∙ with_same t a

  -- where a step is left, a test of the phase says no and leaves the tables
  pub tests_no : (t : Tables) (s : Step) (l : List Step) → Going t a (s ∷ l) → (w : ℕ) → ready t.block w ≡ true
      → (ph : ℕ) → (object_at t a).phase ≡ ph → (o : ObjectStep) → TestOf a ph o
      → (verdict t (step_on w a o) ≡ accepted 0 false 0) × (after t (step_on w a o) ≡ t)
  tests_no t s l g w h ph e o q =
      let k = says_no a ph (slot_below a good) (subst (λ (n : ℕ). n < last_phase) e g.left.phase) (object_at t a) g.left.live q e in
      (test_says t g.sound w h o false k, test_leaves t g.sound w h o k)

  -- ---- all of it

  module _ (x : State) (s₀ : Step) (l₀ : List Step) (g : Going x.tables a (s₀ ∷ l₀)) where
    abbrev first : Object
    first = object_at x.tables a

    pub last_sound : sound_tables (ended x a (s₀ ∷ l₀)).tables ≡ true
    last_sound = with_sound x.tables g.sound a good _ (finished_sound first g.left)

    tests_yes : (w : ℕ) → ready x.tables.block w ≡ true → (o : ObjectStep) → TestOf a first.phase o
        → verdict (ended x a (s₀ ∷ l₀)).tables (step_on w a o) ≡ accepted 1 false 0
    tests_yes w h o q =
        let e = at_row x.tables g.sound a good (finished first (drops (s₀ ∷ l₀))) in
        test_says (ended x a (s₀ ∷ l₀)).tables last_sound w h o true
        (says_yes a first.phase (slot_below a good) g.left.phase _ (ap (λ (k : Object). k.live) e) q (ap (λ (k : Object). k.phase) e))

    pub going_finishes : Finishes x a (s₀ ∷ l₀)
    going_finishes = record {
      steps = λ pre s post e. moves (run x pre).tables s post (reaches x pre s post (subst (Going x.tables a) e g)).0;
      end = comes_to x s₀ l₀ g;
      no = λ pre s post e w h.
          let r = reaches x pre s post (subst (Going x.tables a) e g) in
          tests_no (run x pre).tables s post r.0 w (subst⁻¹ (λ (b : Block). ready b w ≡ true) r.1.block h) first.phase r.1.phase;
      yes = λ w h o q. ap (λ (k : State). verdict k.tables (step_on w a o)) (comes_to x s₀ l₀ g) ∙ tests_yes w h o q;
    }
