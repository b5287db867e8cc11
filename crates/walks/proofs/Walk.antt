-- Steps of the kit's calculus (`types.Kit`) that every walk over a lent row or a lent list of rows cites. It says nothing of the crate.
--     is_false         a test that failed, as an equation
--     says_too         what an `ensures` says of a result, by another name
--     forks            `if c { a }` whose a returns, and the rest: a runs where the test holds, and the rest where it fails
--     gone1            a local that holds something dies, at the end of a function
--     concluded        from a walk to the function's statement
--     calls_saying     a call of a function by value: nothing is owned before it or after it, and whatever its `ensures` allows lands
--     calls_exact      a call of a function by value whose `ensures` says that its result is s: nothing is owned before it or after it, and s lands
-- Assumes `Logic`.
use mathlib.Core.Path.{◌≡◌, refl, sym, ap, subst}
use Prim.Native.Nat.{ℕ}
use mathlib.Core.List.{List, [], ◌∷◌}
use seplogic.Ra.Ura.{Ura}
use mathlib.Core.Bool.{Bool, true, false, not}
use base.Fraction.{full_share}
use lib.Dec.{T}
use mir.Syntax.{Ty, Fn, Callee, Place, Opd as Operand, Body, seq, call, cond, skip}
use mir.Val.{Val, vbool}
use base.Logic.{ent, emp, ex_e, id⊢, via, snd∗}
use base.Fml.{ftrue, fat, fdies}
use prog.Model.{Model}
use prog.Routine.{Env as Routines}
use prog.Wp.{Env, Calls, Loops, Wp, WpFn, Tables, Closed, after_seq}
use contract.Running.{Running, tables, tables_of}
use types.Logic.{Logic, sem}
use sound.WpLaws.{FmC, WpFn-mono}
use contract.Monad.{fact}
use types.Kit.{Item, ‵, raw, some, later, ◌⊛◌, Post, post, Goal, runs, lands, frees, any_q, Seq, Step, step, ◌$◌, ◌∵◌, !, qed, move, use0, use1, split, join, frame, drop, pick, await, done}
use types.Run.{Opd, Opds, first, branches, skips, forget, free1}
use denote.RattleType.{RattleType, owns}
use denote.Laws.{Is, Ises, Are, Tells, Makess, shows, owns_make}
use denote.Steps.{only, peeks, heard, nothing}
use denote.Signature.{Slot, plain, types_at}
use denote.Triple.Entry.{Args, Vals}
use denote.Triple.End.{Kepts}
use denote.Triple.Clauses.{Ended, Clauses, AtExit, at_exit, closing, ensured, lasts}
use denote.Triple.Spec.{triple_of}
use denote.Triple.Statement.{Contract, Triple}
use denote.Triple.Call.{calls_at}
use denote.Triple.Table.{entered}
use denote.Triple.Walked.{Stays, AllGo, Walks, walk_Meets}

pub is_false : (y : Bool) → T (not y) → y ≡ false
is_false true h = absurd h
is_false false h = refl

-- a fact that something is x is one that it is y, where x is y
pub says_too : {M : Type 1} (𝓤 : Ura M) {X : Type 0} {x y : X} → y ≡ x → (a : X) → ent 𝓤 (fact 𝓤 (a ≡ x)) (fact 𝓤 (a ≡ y))
says_too 𝓤 {X} {x} e a = subst (λ (z : X). ent 𝓤 (fact 𝓤 (a ≡ x)) (fact 𝓤 (a ≡ z))) (sym e) (id⊢ 𝓤 _)

-- a signature by value
abbrev pub ByValue : (ps : List (Slot 0)) → RattleType → Kepts ps → Ended
ByValue ps R ks = record { signature = record { lifetimes = 0; outlives = []; params = ps; result = plain (λ _. R) }; kept = ks }

-- its contract
abbrev pub Valued : {M : Type 1} {𝓤 : Ura M} (𝓛 : Logic 𝓤) (ps : List (Slot 0)) (R : RattleType) (ks : Kepts ps) → Clauses 𝓤 (ByValue ps R ks) → Contract 𝓤
Valued 𝓛 ps R ks c = triple_of 𝓛 (ByValue ps R ks).signature (closing 𝓛 (ByValue ps R ks) c)

module _ {M : Type 1} {𝓤 : Ura M} {𝓛 : Logic 𝓤} {K : Type 0} {Γ : List (Item 𝓤)} {E : Env 𝓤 𝓛.H} {C : Calls 𝓤 𝓛.H} {Λ : Loops 𝓤 𝓛.H} {q : Post 𝓤 𝓛.H} {f : Callee} {xs : List Operand} {d : Place} {rest : Body} where
  open 𝓛 use {H}

  pub calls_saying : K → FmC 𝓤 H 𝓛.laws C → (ps : List (Slot 0)) (R : RattleType) (ks : Kepts ps) (c : Clauses 𝓤 (ByValue ps R ks)) → Triple 𝓤 (C f) (Valued 𝓛 ps R ks c) → Makess 𝓛 (types_at ps tt) (Ises (types_at ps tt)) → (val : R.Denot → Val) → Tells R (Is R) (λ r. val r ∷ [])
      → (a : Args (ByValue ps R ks).signature tt) (vss : Vals (ByValue ps R ks).signature tt) → Are (types_at ps tt) (Ises (types_at ps tt)) a vss → (g : (c tt a).ghost) → ent 𝓤 (emp 𝓤) ((c tt a).requires g)
      → (Said : R.Denot → Type 0) → ((r : R.Denot) (e : AtExit (ByValue ps R ks) tt) → ent 𝓤 ((c tt a).ensures g r e) (fact 𝓤 (Said r)))
      → Opds K 𝓛 (raw ((Valued 𝓛 ps R ks c).pre ((tt, tt, tt, a, vss), g)) ∷ Γ) E xs ((Valued 𝓛 ps R ks c).args ((tt, tt, tt, a, vss), g))
      → ((r : R.Denot) → Said r → Is R r (val r ∷ []) → Seq K 𝓛 Γ (lands C Λ E d (val r) rest q)) → Seq K 𝓛 Γ (runs C Λ E (seq (call f xs d) rest) q)
  calls_saying t fm ps R ks c known mk val tl a vss are g req Said ens os k =
      use0 𝓛 (raw ((Valued 𝓛 ps R ks c).pre ((tt, tt, tt, a, vss), g))) pre $
      calls_at t fm (Valued 𝓛 ps R ks c) known ((tt, tt, tt, a, vss), g) os (λ v.
      use1 𝓛 (later (some (λ (r : R.Denot). (‵ ftrue ⊛ ‵ (R.own_val r (v ∷ []))) ⊛ raw (ensured 𝓛 (ByValue ps R ks) c tt a g r)))) (id⊢ 𝓤 _) $ await t tt $ pick t (λ r.
      split t $ move t (1 ∷ []) $ use1 𝓛 (raw (fact 𝓤 (Said r))) (said r) $ heard t (Said r) (λ e. split t $ drop t $ peeks t R (Is R) (shows 𝓛 R) r (v ∷ []) (λ is. drop t $
      there r v e is))))
    where
      pre : ent 𝓤 (emp 𝓤) ((Valued 𝓛 ps R ks c).pre ((tt, tt, tt, a, vss), g))
      pre = qed 𝓛 [] ∵ use0 𝓛 (raw ((c tt a).requires g)) req $ use0 𝓛 (‵ (owns (types_at ps tt) a vss)) (owns_make 𝓛 (types_at ps tt) (Ises (types_at ps tt)) mk a vss are) $ nothing ! $ join ! $ frame ! $ done !

      said : (r : R.Denot) → ent 𝓤 (ensured 𝓛 (ByValue ps R ks) c tt a g r) (fact 𝓤 (Said r))
      said r = ex_e 𝓤 _ (λ ws. via 𝓤 ((c tt a).ensures g r (at_exit (ByValue ps R ks) tt a ws))
          (snd∗ 𝓤 (sem 𝓛 (lasts (ByValue ps R ks) tt a ws)) ((c tt a).ensures g r (at_exit (ByValue ps R ks) tt a ws))) (ens r (at_exit (ByValue ps R ks) tt a ws)))

      there : (r : R.Denot) (v : Val) → Said r → Is R r (v ∷ []) → Seq K 𝓛 Γ (lands C Λ E d v rest q)
      there r v e is = subst (λ (u : Val). Seq K 𝓛 Γ (lands C Λ E d u rest q)) (sym (ap only (tl r (v ∷ []) is))) (k r e (subst (Is R r) (tl r (v ∷ []) is) is))

  pub calls_exact : K → FmC 𝓤 H 𝓛.laws C → (ps : List (Slot 0)) (R : RattleType) (ks : Kepts ps) (c : Clauses 𝓤 (ByValue ps R ks)) → Triple 𝓤 (C f) (Valued 𝓛 ps R ks c) → Makess 𝓛 (types_at ps tt) (Ises (types_at ps tt)) → (val : R.Denot → Val) → Tells R (Is R) (λ r. val r ∷ [])
      → (a : Args (ByValue ps R ks).signature tt) (vss : Vals (ByValue ps R ks).signature tt) → Are (types_at ps tt) (Ises (types_at ps tt)) a vss → (g : (c tt a).ghost) → ent 𝓤 (emp 𝓤) ((c tt a).requires g)
      → (s : R.Denot) → ((r : R.Denot) (e : AtExit (ByValue ps R ks) tt) → ent 𝓤 ((c tt a).ensures g r e) (fact 𝓤 (r ≡ s)))
      → Opds K 𝓛 (raw ((Valued 𝓛 ps R ks c).pre ((tt, tt, tt, a, vss), g)) ∷ Γ) E xs ((Valued 𝓛 ps R ks c).args ((tt, tt, tt, a, vss), g))
      → (Is R s (val s ∷ []) → Seq K 𝓛 Γ (lands C Λ E d (val s) rest q)) → Seq K 𝓛 Γ (runs C Λ E (seq (call f xs d) rest) q)
  calls_exact t fm ps R ks c known mk val tl a vss are g req s ens os k =
      calls_saying t fm ps R ks c known mk val tl a vss are g req (λ r. r ≡ s) ens os (λ r e is.
      subst (λ (z : R.Denot). Seq K 𝓛 Γ (lands C Λ E d (val z) rest q)) (sym e) (k (subst (λ (z : R.Denot). Is R z (val z ∷ [])) e is)))

module _ {M : Type 1} {𝓤 : Ura M} {𝓛 : Logic 𝓤} {K : Type 0} {Γ : List (Item 𝓤)} {E : Env 𝓤 𝓛.H} where
  open 𝓛 use {H}

  pub forks : K → {C : Calls 𝓤 H} {Λ : Loops 𝓤 H} {q : Post 𝓤 H} {c : Operand} {a b : Body} {y : Bool} → Opd K 𝓛 Γ E c (vbool y) → (T y → Seq K 𝓛 Γ (runs C Λ E a (any_q (after_seq 𝓤 H (Wp 𝓤 H C Λ E b (post 𝓤 H q)) (post 𝓤 H q)))))
      → (T (not y) → Seq K 𝓛 Γ (runs C Λ E b q)) → Seq K 𝓛 Γ (runs C Λ E (seq (cond c a skip) b) q)
  forks t o held failed = first t $ branches t o held (λ no. skips t $ record { prf = (failed no).prf })

  pub gone1 : K → {τ : Ty} {l : ℕ} {v : Val} {g : Goal 𝓤 H} → Step K 𝓛 Γ (frees E g) (‵ (fat full_share τ l 0 v) ∷ ‵ (fdies τ l) ∷ Γ) (frees ((τ, l) ∷ E) g)
  gone1 t = step (λ s. forget t 0 refl $ free1 t $ s)

-- from a walk to the function's statement: what every proof by hand ends in. The walk is over the tables `tables_of … (tables … env)`
module _ {M : Type 1} {𝓤 : Ura M} (𝓛 : Logic 𝓤) (𝓜 : Model 𝓤 𝓛.H) (𝓡 : Running 𝓤 𝓛.H 𝓜) (env : Routines) where
  open 𝓛 use {H}

  abbrev pub over : Tables 𝓤 H
  over = tables_of 𝓤 H 𝓜 (tables 𝓤 H 𝓜 𝓡 env)

  pub concluded : (T : Ended) (hs : Stays T.signature.params T.kept) → AllGo 𝓛 T.signature.lifetimes T.signature.params T.kept hs → (c : Clauses 𝓤 T) (k : Callee) (f : Fn) → Closed 𝓤 H (tables 𝓤 H 𝓜 𝓡 env).C (tables 𝓤 H 𝓜 𝓡 env).Λ k f
      → Walks 𝓛 T hs (WpFn 𝓤 H over.C over.Λ f) c → Triple 𝓤 ((tables 𝓤 H 𝓜 𝓡 env).C k) (triple_of 𝓛 T.signature (closing 𝓛 T c))
  unfolding tables_of
  concluded T hs go c k f closed w =
      entered 𝓤 H (triple_of 𝓛 T.signature (closing 𝓛 T c)) (tables 𝓤 H 𝓜 𝓡 env).C (tables 𝓤 H 𝓜 𝓡 env).Λ k f closed
      (walk_Meets 𝓛 T hs go c (WpFn 𝓤 H over.C over.Λ f) (WpFn-mono 𝓤 H 𝓛.laws over f) w)
