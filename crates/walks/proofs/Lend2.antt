-- A call of a function that is lent two things for the call alone: as `Lend` has it for one, with a lifetime for each.
--     Loan2            what is lent of P, as one of two references
--     calls_lending2   the call: the function's first two parameters are the references, the others are by value, and its `ensures` says its result
-- Positions: in the operands every position is one higher than before the call.
-- Assumes `Logic`.
use mathlib.Core.Path.{◌≡◌, sym, ◌∙◌, ap, subst}
use mathlib.Core.List.{List, [], ◌∷◌}
use seplogic.Ra.Ura.{Ura}
use base.Fraction.{full_share}
use mir.Syntax.{Callee, Place, Opd as Operand, Body, seq, call}
use mir.Val.{Val}
use base.Logic.{ent, sep, emp, ex, id⊢}
use base.Fml.{Lft, GName, Fml, ftrue, fsep, flft}
use prog.Wp.{Env, Calls, Loops}
use types.Logic.{Logic, sem}
use sound.WpLaws.{FmC}
use contract.Monad.{fact}
use types.Kit.{Item, ‵, raw, some, later, ◌⊛◌, Post, runs, lands, Seq, ◌$◌, ◌∵◌, !, qed, move, use0, use1, use3, split, join, fsplit, fjoin, frame, drop, pick, await, done}
use types.Run.{Opds}
use types.Tokens.{lft_new, lft_end}
use denote.RattleType.{RattleType, owns, Denots, Valss}
use denote.Laws.{Is, Ises, Are, Tells, Makess, shows, owns_make}
use denote.Exit.{Kept, Last, left}
use denote.Steps.{only, peeks, heard, nothing}
use denote.Signature.{Slot, plain, types_at}
use denote.Triple.End.{Kepts}
use denote.Triple.Clauses.{Ended, Clauses, Lasts, at_exit, closing, lasts}
use denote.Triple.Spec.{triple_of}
use denote.Triple.Statement.{Contract, Triple}
use denote.Triple.Call.{calls_at}

-- what is lent of P, as the reference s, one of two
pub record Loan2 {M : Type 1} {𝓤 : Ura M} (𝓛 : Logic 𝓤) (s : Slot 2) (P : Fml) : Type 2 where
  pub arg : (κ κ' : Lft) → GName → (s.row (κ, (κ', tt))).Denot
  pub val : Val
  pub Keep : Lft → Lft → GName → Fml
  pub lend : (κ κ' : Lft) → ent 𝓤 (sem 𝓛 P) (𝓛.H.⇛ (ex 𝓤 (λ (δ : GName). sep 𝓤 (sem 𝓛 ((s.row (κ, (κ', tt))).own_val (arg κ κ' δ) (val ∷ []))) (sem 𝓛 (Keep κ κ' δ)))))

-- what comes back of it once the lifetime α, one of the two, is dead, at the last value w: P'
abbrev pub Back2 : {M : Type 1} {𝓤 : Ura M} (𝓛 : Logic 𝓤) (s : Slot 2) (P : Fml) (L : Loan2 𝓛 s P) (k : Kept) (α κ κ' : Lft) (δ : GName) → Last ((s.row (κ, (κ', tt))).exit k) (L.arg κ κ' δ) → Fml → Type 1
Back2 {𝓤 = 𝓤} 𝓛 s P L k α κ κ' δ w P' = ent 𝓤 (sep 𝓤 (𝓛.A.dead α) (sep 𝓤 (sem 𝓛 (L.Keep κ κ' δ)) (sem 𝓛 (left ((s.row (κ, (κ', tt))).exit k) (L.arg κ κ' δ) w)))) (𝓛.H.⇛ (sem 𝓛 P'))

abbrev pub Lending2 : (s s' : Slot 2) (ps : List (Slot 2)) → RattleType → Kept → Kept → Kepts ps → Ended
Lending2 s s' ps Q k k' ks = record { signature = record { lifetimes = 2; outlives = []; params = s ∷ s' ∷ ps; result = plain (λ _. Q) }; kept = (k, (k', ks)) }

abbrev pub Lends2 : {M : Type 1} {𝓤 : Ura M} (𝓛 : Logic 𝓤) (s s' : Slot 2) (ps : List (Slot 2)) (Q : RattleType) (k k' : Kept) (ks : Kepts ps) → Clauses 𝓤 (Lending2 s s' ps Q k k' ks) → Contract 𝓤
Lends2 𝓛 s s' ps Q k k' ks c = triple_of 𝓛 (Lending2 s s' ps Q k k' ks).signature (closing 𝓛 (Lending2 s s' ps Q k k' ks) c)

module _ {M : Type 1} {𝓤 : Ura M} {𝓛 : Logic 𝓤} {K : Type 0} {Γ : List (Item 𝓤)} {E : Env 𝓤 𝓛.H} {C : Calls 𝓤 𝓛.H} {Λ : Loops 𝓤 𝓛.H} {q : Post 𝓤 𝓛.H} {f : Callee} {xs : List Operand} {d : Place} {rest : Body} where
  open 𝓛 use {H, A}

  pub calls_lending2 : K → FmC 𝓤 H 𝓛.laws C → (s s' : Slot 2) (ps : List (Slot 2)) (Q : RattleType) (k k' : Kept) (ks : Kepts ps) (c : Clauses 𝓤 (Lending2 s s' ps Q k k' ks)) → Triple 𝓤 (C f) (Lends2 𝓛 s s' ps Q k k' ks c)
      → ((κ κ' : Lft) → Makess 𝓛 (types_at ps (κ, (κ', tt))) (Ises (types_at ps (κ, (κ', tt))))) → (val : Q.Denot → Val) → Tells Q (Is Q) (λ r. val r ∷ [])
      → {P P' : Fml} (Z Z' : Fml) (L : Loan2 𝓛 s P) (L' : Loan2 𝓛 s' P') (a : (κ κ' : Lft) → Denots (types_at ps (κ, (κ', tt)))) (vss : (κ κ' : Lft) → Valss (types_at ps (κ, (κ', tt)))) → ((κ κ' : Lft) → Are (types_at ps (κ, (κ', tt))) (Ises (types_at ps (κ, (κ', tt)))) (a κ κ') (vss κ κ'))
      → (g : (κ κ' : Lft) (δ δ' : GName) → (c (κ, (κ', tt)) (L.arg κ κ' δ, (L'.arg κ κ' δ', a κ κ'))).ghost) → ((κ κ' : Lft) (δ δ' : GName) → ent 𝓤 (emp 𝓤) ((c (κ, (κ', tt)) (L.arg κ κ' δ, (L'.arg κ κ' δ', a κ κ'))).requires (g κ κ' δ δ')))
      → (z : Q.Denot) (Said : (κ κ' : Lft) (δ δ' : GName) → Q.Denot → Last ((s.row (κ, (κ', tt))).exit k) (L.arg κ κ' δ) → Last ((s'.row (κ, (κ', tt))).exit k') (L'.arg κ κ' δ') → Type 0)
      → ((κ κ' : Lft) (δ δ' : GName) (r : Q.Denot) (ws : Lasts (Lending2 s s' ps Q k k' ks) (κ, (κ', tt)) (L.arg κ κ' δ, (L'.arg κ κ' δ', a κ κ')))
      → ent 𝓤 ((c (κ, (κ', tt)) (L.arg κ κ' δ, (L'.arg κ κ' δ', a κ κ'))).ensures (g κ κ' δ δ') r (at_exit (Lending2 s s' ps Q k k' ks) (κ, (κ', tt)) (L.arg κ κ' δ, (L'.arg κ κ' δ', a κ κ')) ws)) (fact 𝓤 (Said κ κ' δ δ' r ws.0 ws.1.0)))
      → ((κ κ' : Lft) (δ δ' : GName) (r : Q.Denot) (w : Last ((s.row (κ, (κ', tt))).exit k) (L.arg κ κ' δ)) (w' : Last ((s'.row (κ, (κ', tt))).exit k') (L'.arg κ κ' δ')) → Said κ κ' δ δ' r w w'
      → (r ≡ z) × Back2 𝓛 s P L k κ κ κ' δ w Z × Back2 𝓛 s' P' L' k' κ' κ κ' δ' w' Z')
      → ((κ κ' : Lft) (δ δ' : GName) → Opds K 𝓛 (raw ((Lends2 𝓛 s s' ps Q k k' ks c).pre (((κ, (κ', tt)), (full_share, (full_share, tt)), tt, (L.arg κ κ' δ, (L'.arg κ κ' δ', a κ κ')), (L.val ∷ [], (L'.val ∷ [], vss κ κ'))), g κ κ' δ δ')) ∷ ‵ (L'.Keep κ κ' δ') ∷ ‵ (L.Keep κ κ' δ) ∷ Γ) E xs
      ((Lends2 𝓛 s s' ps Q k k' ks c).args (((κ, (κ', tt)), (full_share, (full_share, tt)), tt, (L.arg κ κ' δ, (L'.arg κ κ' δ', a κ κ')), (L.val ∷ [], (L'.val ∷ [], vss κ κ'))), g κ κ' δ δ')))
      → (Is Q z (val z ∷ []) → Seq K 𝓛 (‵ Z ∷ ‵ Z' ∷ Γ) (lands C Λ E d (val z) rest q)) → Seq K 𝓛 (‵ P ∷ ‵ P' ∷ Γ) (runs C Λ E (seq (call f xs d) rest) q)
  calls_lending2 t fm s s' ps Q k k' ks c known mk val tl {P} {P'} Z Z' L L' a vss are g req z Said ens means os cont =
      -- [the second token; the first; P; P']
      lft_new t tt (λ ν. lft_new t tt (λ ν'. move t (2 ∷ []) $
      use1 𝓛 (later (some (λ (δ : GName). ‵ ((s.row (ν ∷ [], (ν' ∷ [], tt))).own_val (L.arg (ν ∷ []) (ν' ∷ []) δ) (L.val ∷ [])) ⊛ ‵ (L.Keep (ν ∷ []) (ν' ∷ []) δ)))) (L.lend (ν ∷ []) (ν' ∷ [])) $ await t tt $ pick t (λ δ. split t $ move t (4 ∷ []) $
      use1 𝓛 (later (some (λ (δ' : GName). ‵ ((s'.row (ν ∷ [], (ν' ∷ [], tt))).own_val (L'.arg (ν ∷ []) (ν' ∷ []) δ') (L'.val ∷ [])) ⊛ ‵ (L'.Keep (ν ∷ []) (ν' ∷ []) δ')))) (L'.lend (ν ∷ []) (ν' ∷ [])) $ await t tt $ pick t (λ δ'. split t $
      -- [the second reference; what is kept of it; the first; what is kept of it; the second token; the first]
      move t (2 ∷ 0 ∷ []) $ fjoin t $ move t (4 ∷ 3 ∷ 0 ∷ []) $ use3 𝓛 (raw ((Lends2 𝓛 s s' ps Q k k' ks c).pre (outside (ν ∷ []) (ν' ∷ []) δ δ'))) (goes (ν ∷ []) (ν' ∷ []) δ δ') $
      calls_at t fm (Lends2 𝓛 s s' ps Q k k' ks c) known (outside (ν ∷ []) (ν' ∷ []) δ δ') (os (ν ∷ []) (ν' ∷ []) δ δ') (λ v.
      use1 𝓛 (later (some (λ (r : Q.Denot). ((‵ (flft (ν ∷ []) full_share) ⊛ ‵ (flft (ν' ∷ []) full_share) ⊛ ‵ ftrue) ⊛ ‵ (Q.own_val r (v ∷ [])))
      ⊛ some (λ (ws : Lasts (Lending2 s s' ps Q k k' ks) (ν ∷ [], (ν' ∷ [], tt)) (params (ν ∷ []) (ν' ∷ []) δ δ')). ‵ (lasts (Lending2 s s' ps Q k k' ks) (ν ∷ [], (ν' ∷ [], tt)) (params (ν ∷ []) (ν' ∷ []) δ δ') ws)
      ⊛ raw ((c (ν ∷ [], (ν' ∷ [], tt)) (params (ν ∷ []) (ν' ∷ []) δ δ')).ensures (g (ν ∷ []) (ν' ∷ []) δ δ') r (at_exit (Lending2 s s' ps Q k k' ks) (ν ∷ [], (ν' ∷ [], tt)) (params (ν ∷ []) (ν' ∷ []) δ δ') ws)))))) (id⊢ 𝓤 _) $ await t tt $ pick t (λ r.
      split t $ move t (1 ∷ []) $ pick t (λ ws. split t $ move t (1 ∷ []) $ use1 𝓛 (raw (fact 𝓤 (Said (ν ∷ []) (ν' ∷ []) δ δ' r ws.0 ws.1.0))) (ens (ν ∷ []) (ν' ∷ []) δ δ' r ws) $ heard t (Said (ν ∷ []) (ν' ∷ []) δ δ' r ws.0 ws.1.0) (λ e.
      -- [the last values; the tokens and the result; what is kept of the second and of the first]
      fsplit t $ move t (1 ∷ []) $ fsplit t $ move t (1 ∷ []) $ drop t $ move t (2 ∷ []) $ split t $ move t (1 ∷ []) $ peeks t Q (Is Q) (shows 𝓛 Q) r (v ∷ []) (λ is. drop t $
      split t $ lft_end t tt $ move t (1 ∷ []) $ split t $ lft_end t tt $
      move t (0 ∷ 5 ∷ 3 ∷ []) $ use3 𝓛 (later (‵ Z')) (means (ν ∷ []) (ν' ∷ []) δ δ' r ws.0 ws.1.0 e).2 $ await t tt $
      move t (2 ∷ 4 ∷ 3 ∷ []) $ use3 𝓛 (later (‵ Z)) (means (ν ∷ []) (ν' ∷ []) δ δ' r ws.0 ws.1.0 e).1 $ await t tt $ move t (2 ∷ []) $ drop t $
      there r v (means (ν ∷ []) (ν' ∷ []) δ δ' r ws.0 ws.1.0 e).0 is)))))))))
    where
      params : (κ κ' : Lft) → GName → GName → Denots (types_at (s ∷ s' ∷ ps) (κ, (κ', tt)))
      params κ κ' δ δ' = (L.arg κ κ' δ, (L'.arg κ κ' δ', a κ κ'))

      outside : (κ κ' : Lft) (δ δ' : GName) → (Lends2 𝓛 s s' ps Q k k' ks c).Ghost
      outside κ κ' δ δ' = (((κ, (κ', tt)), (full_share, (full_share, tt)), tt, (L.arg κ κ' δ, (L'.arg κ κ' δ', a κ κ')), (L.val ∷ [], (L'.val ∷ [], vss κ κ'))), g κ κ' δ δ')

      goes : (κ κ' : Lft) (δ δ' : GName) → ent 𝓤 (sep 𝓤 (A.lft κ full_share) (sep 𝓤 (A.lft κ' full_share) (sem 𝓛 (fsep ((s.row (κ, (κ', tt))).own_val (L.arg κ κ' δ) (L.val ∷ [])) ((s'.row (κ, (κ', tt))).own_val (L'.arg κ κ' δ') (L'.val ∷ [])))))) ((Lends2 𝓛 s s' ps Q k k' ks c).pre (outside κ κ' δ δ'))
      goes κ κ' δ δ' = qed 𝓛 (‵ (flft κ full_share) ∷ ‵ (flft κ' full_share) ∷ ‵ (fsep ((s.row (κ, (κ', tt))).own_val (L.arg κ κ' δ) (L.val ∷ [])) ((s'.row (κ, (κ', tt))).own_val (L'.arg κ κ' δ') (L'.val ∷ []))) ∷ []) ∵
          use0 𝓛 (raw ((c (κ, (κ', tt)) (params κ κ' δ δ')).requires (g κ κ' δ δ'))) (req κ κ' δ δ') $
          use0 𝓛 (‵ (owns (types_at ps (κ, (κ', tt))) (a κ κ') (vss κ κ'))) (owns_make 𝓛 (types_at ps (κ, (κ', tt))) (Ises (types_at ps (κ, (κ', tt)))) (mk κ κ') (a κ κ') (vss κ κ') (are κ κ')) $
          -- [the others; the requires; the tokens; the references]
          move ! (4 ∷ []) $ fsplit ! $ move ! (1 ∷ 2 ∷ []) $ fjoin ! $ move ! (1 ∷ 0 ∷ []) $ fjoin ! $ nothing ! $ move ! (4 ∷ 0 ∷ []) $ join ! $ move ! (3 ∷ 0 ∷ []) $ join ! $ move ! (0 ∷ 1 ∷ []) $ join ! $ frame ! $ done !

      there : (r : Q.Denot) (v : Val) → r ≡ z → Is Q r (v ∷ []) → Seq K 𝓛 (‵ Z ∷ ‵ Z' ∷ Γ) (lands C Λ E d v rest q)
      there r v e is = subst (λ (u : Val). Seq K 𝓛 (‵ Z ∷ ‵ Z' ∷ Γ) (lands C Λ E d u rest q)) (sym (ap only (tl r (v ∷ []) is) ∙ ap val e))
          (cont (subst (λ (y : Q.Denot). Is Q y (val y ∷ [])) e (subst (Is Q r) (tl r (v ∷ []) is) is)))
