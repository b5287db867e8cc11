-- A call of a function that is lent a record, rows and another record for the call alone: as `Lend` has it for one, with a lifetime for each.
--     Lending3         such a signature: the three references first, and the others by value.        Lends3      its contract
--     calls_lending3   the call: whatever its `ensures` allows lands, and the three come back at their last values
-- Positions: in the operands every position is one higher than before the call.
-- Assumes `Logic`.
use mathlib.Core.Path.{◌≡◌, sym, ap, subst}
use Prim.Native.Nat.{ℕ}
use mathlib.Core.List.{List, [], ◌∷◌}
use lib.ListN.{length}
use seplogic.Ra.Ura.{Ura}
use base.Fraction.{full_share}
use mir.Syntax.{Callee, Place, Opd as Operand, Body, seq, call, named}
use mir.Val.{Val, vptr}
use base.Logic.{ent, emp, id⊢}
use base.Fml.{Lft, GName, ftrue, flft, flent}
use prog.Wp.{Env, Calls, Loops}
use types.Logic.{Logic}
use sound.WpLaws.{FmC}
use contract.Monad.{fact}
use types.Kit.{Item, ‵, raw, some, later, ◌⊛◌, Post, runs, lands, Seq, ◌$◌, move, drop, use0, use1, use3, split, join, pick, await, fsplit, fjoin, feq_l, feq_i}
use types.Run.{Opds}
use types.SemTy.{Body as Holds}
use types.Tokens.{lft_new, lft_end}
use denote.RattleType.{RattleType, owns, flat, Denots, Valss}
use denote.Laws.{Is, Ises, Are, Tells, Makess, shows, owns_make}
use denote.Memory.{mem, part_at}
use denote.Ref.{MutRef}
use denote.Slice.{slice_val, MutSlice, Room}
use denote.Lend.{Held}
use denote.Index.{row}
use denote.Exit.{yes}
use denote.Steps.{only, peeks, heard, nothing}
use denote.Signature.{Slot, plain, types_at, mut_ref_to, mut_slice_of}
use denote.Triple.End.{Kepts}
use denote.Triple.Clauses.{Ended, Clauses, Lasts, at_exit, closing, lasts}
use denote.Triple.Spec.{triple_of}
use denote.Triple.Statement.{Contract, Triple}
use denote.Triple.Call.{calls_at}
use Rattle.walks.proofs.Lend.{rows_lent, rows_lent_back, record_lent, record_lent_back}

abbrev pub Lending3 : (R S T : RattleType) (ps : List (Slot 3)) → RattleType → Kepts ps → Ended
Lending3 R S T ps Q ks = record {
  signature = record { lifetimes = 3; outlives = []; params = mut_ref_to (0 ∷ []) tt (plain (λ _. R)) ∷ mut_slice_of (1 ∷ []) tt (plain (λ _. S)) ∷ mut_ref_to (2 ∷ []) tt (plain (λ _. T)) ∷ ps; result = plain (λ _. Q) };
  kept = (yes, (yes, (yes, ks)));
}

abbrev pub Lends3 : {M : Type 1} {𝓤 : Ura M} (𝓛 : Logic 𝓤) (R S T : RattleType) (ps : List (Slot 3)) (Q : RattleType) (ks : Kepts ps) → Clauses 𝓤 (Lending3 R S T ps Q ks) → Contract 𝓤
Lends3 𝓛 R S T ps Q ks c = triple_of 𝓛 (Lending3 R S T ps Q ks).signature (closing 𝓛 (Lending3 R S T ps Q ks) c)

-- what is lent, at these lifetimes and under these names, and the others
abbrev pub lent3 : (R S T : RattleType) (ps : List (Slot 3)) (b o : ℕ) (d : R.Denot) (b' o' : ℕ) (ys : List S.Denot) (b'' o'' : ℕ) (h : T.Denot) (κ κ' κ'' : Lft) → Denots (types_at ps (κ, (κ', (κ'', tt)))) → GName → GName → GName
    → Denots (types_at (mut_ref_to (0 ∷ []) tt (plain (λ _. R)) ∷ mut_slice_of (1 ∷ []) tt (plain (λ _. S)) ∷ mut_ref_to (2 ∷ []) tt (plain (λ _. T)) ∷ ps) (κ, (κ', (κ'', tt))))
lent3 R S T ps b o d b' o' ys b'' o'' h κ κ' κ'' a δ δ' δ'' = (record { ref_ptr = (b, o); ghost_name = δ; now = d }, (record { ref_ptr = (b', o'); ghost_name = δ'; now = ys }, (record { ref_ptr = (b'', o''); ghost_name = δ''; now = h }, a)))

module _ {M : Type 1} {𝓤 : Ura M} {𝓛 : Logic 𝓤} {K : Type 0} {Γ : List (Item 𝓤)} {E : Env 𝓤 𝓛.H} {C : Calls 𝓤 𝓛.H} {Λ : Loops 𝓤 𝓛.H} {q : Post 𝓤 𝓛.H} {f : Callee} {xs : List Operand} {p : Place} {rest : Body} where
  open 𝓛 use {H}

  pub calls_lending3 : K → FmC 𝓤 H 𝓛.laws C → (R S T : RattleType) (ps : List (Slot 3)) (Q : RattleType) (ks : Kepts ps) (c : Clauses 𝓤 (Lending3 R S T ps Q ks)) → Triple 𝓤 (C f) (Lends3 𝓛 R S T ps Q ks c)
      → ((κ κ' κ'' : Lft) → Makess 𝓛 (types_at ps (κ, (κ', (κ'', tt)))) (Ises (types_at ps (κ, (κ', (κ'', tt)))))) → (val : Q.Denot → Val) → Tells Q (Is Q) (λ r. val r ∷ [])
      → (b o : ℕ) (d : R.Denot) (b' o' : ℕ) (ys : List S.Denot) (b'' o'' : ℕ) (h : T.Denot) → Room S (length ys)
      → (a : (κ κ' κ'' : Lft) → Denots (types_at ps (κ, (κ', (κ'', tt))))) (vss : (κ κ' κ'' : Lft) → Valss (types_at ps (κ, (κ', (κ'', tt))))) → ((κ κ' κ'' : Lft) → Are (types_at ps (κ, (κ', (κ'', tt)))) (Ises (types_at ps (κ, (κ', (κ'', tt))))) (a κ κ' κ'') (vss κ κ' κ''))
      → (g : (κ κ' κ'' : Lft) (δ δ' δ'' : GName) → (c (κ, (κ', (κ'', tt))) (lent3 R S T ps b o d b' o' ys b'' o'' h κ κ' κ'' (a κ κ' κ'') δ δ' δ'')).ghost)
      → ((κ κ' κ'' : Lft) (δ δ' δ'' : GName) → ent 𝓤 (emp 𝓤) ((c (κ, (κ', (κ'', tt))) (lent3 R S T ps b o d b' o' ys b'' o'' h κ κ' κ'' (a κ κ' κ'') δ δ' δ'')).requires (g κ κ' κ'' δ δ' δ'')))
      → (Said : Q.Denot → R.Denot → List S.Denot → T.Denot → Type 0)
      → ((κ κ' κ'' : Lft) (δ δ' δ'' : GName) (r : Q.Denot) (ws : Lasts (Lending3 R S T ps Q ks) (κ, (κ', (κ'', tt))) (lent3 R S T ps b o d b' o' ys b'' o'' h κ κ' κ'' (a κ κ' κ'') δ δ' δ''))
      → ent 𝓤 ((c (κ, (κ', (κ'', tt))) (lent3 R S T ps b o d b' o' ys b'' o'' h κ κ' κ'' (a κ κ' κ'') δ δ' δ'')).ensures (g κ κ' κ'' δ δ' δ'') r (at_exit (Lending3 R S T ps Q ks) (κ, (κ', (κ'', tt))) (lent3 R S T ps b o d b' o' ys b'' o'' h κ κ' κ'' (a κ κ' κ'') δ δ' δ'') ws))
      (fact 𝓤 (Said r ws.0 ws.1.0 ws.1.1.0)))
      → ((κ κ' κ'' : Lft) (i i₁ i₂ i₃ : Item 𝓤) → Opds K 𝓛 (i ∷ i₁ ∷ i₂ ∷ i₃ ∷ Γ) E xs (vptr b o ∷ slice_val (b', o') (length ys) ∷ vptr b'' o'' ∷ flat (types_at ps (κ, (κ', (κ'', tt)))) (vss κ κ' κ'')))
      → ((r : Q.Denot) (d' : R.Denot) (zs : List S.Denot) (h' : T.Denot) → length zs ≡ length ys → Said r d' zs h' → Is Q r (val r ∷ []) → Seq K 𝓛 (‵ (part_at R full_share d' b o) ∷ ‵ (row S full_share zs b' o') ∷ ‵ (part_at T full_share h' b'' o'') ∷ Γ) (lands C Λ E p (val r) rest q))
      → Seq K 𝓛 (‵ (part_at R full_share d b o) ∷ ‵ (row S full_share ys b' o') ∷ ‵ (part_at T full_share h b'' o'') ∷ Γ) (runs C Λ E (seq (call f xs p) rest) q)
  calls_lending3 t fm R S T ps Q ks c known mk val tl b o d b' o' ys b'' o'' h room a vss are g req Said ens os cont =
      -- [the three tokens, the last first; the record; the rows; the other record]
      lft_new t tt (λ ν. lft_new t tt (λ ν'. lft_new t tt (λ ν''. move t (4 ∷ []) $
      use1 𝓛 (later (some (λ (δ' : GName). ‵ ((MutSlice (named 1) (ν' ∷ []) S).own_val (record { ref_ptr = (b', o'); ghost_name = δ'; now = ys }) (slice_val (b', o') (length ys) ∷ [])) ⊛ ‵ (flent (ν' ∷ []) (Held S (length ys) b' o' δ'))))) ((rows_lent 𝓛 S b' o' ys room).lend (ν' ∷ [])) $ await t tt $ pick t (λ δ'. split t $ move t (6 ∷ []) $
      use1 𝓛 (later (some (λ (δ'' : GName). ‵ ((MutRef (named 2) (ν'' ∷ []) T).own_val (record { ref_ptr = (b'', o''); ghost_name = δ''; now = h }) (vptr b'' o'' ∷ [])) ⊛ ‵ (flent (ν'' ∷ []) (Holds (mem T) b'' o'' δ''))))) ((record_lent 𝓛 T b'' o'' h).lend (ν'' ∷ [])) $ await t tt $ pick t (λ δ''. split t $ move t (7 ∷ []) $
      use1 𝓛 (later (some (λ (δ : GName). ‵ ((MutRef (named 0) (ν ∷ []) R).own_val (record { ref_ptr = (b, o); ghost_name = δ; now = d }) (vptr b o ∷ [])) ⊛ ‵ (flent (ν ∷ []) (Holds (mem R) b o δ))))) ((record_lent 𝓛 R b o d).lend (ν ∷ [])) $ await t tt $ pick t (λ δ. split t $
      -- [the record's reference, and what is kept of it; the other record's; the rows'; the three tokens]
      use0 𝓛 (‵ (owns (At (ν ∷ []) (ν' ∷ []) (ν'' ∷ [])) (a (ν ∷ []) (ν' ∷ []) (ν'' ∷ [])) (vss (ν ∷ []) (ν' ∷ []) (ν'' ∷ [])))) (owns_make 𝓛 (At (ν ∷ []) (ν' ∷ []) (ν'' ∷ [])) (Ises (At (ν ∷ []) (ν' ∷ []) (ν'' ∷ []))) (mk (ν ∷ []) (ν' ∷ []) (ν'' ∷ [])) (a (ν ∷ []) (ν' ∷ []) (ν'' ∷ [])) (vss (ν ∷ []) (ν' ∷ []) (ν'' ∷ [])) (are (ν ∷ []) (ν' ∷ []) (ν'' ∷ []))) $
      move t (3 ∷ 0 ∷ []) $ fjoin t $ move t (4 ∷ 0 ∷ []) $ fjoin t $ move t (1 ∷ 0 ∷ []) $ fjoin t $
      nothing t $ move t (5 ∷ 0 ∷ []) $ join t $ move t (5 ∷ 0 ∷ []) $ join t $ move t (5 ∷ 0 ∷ []) $ join t $ join t $
      use0 𝓛 (raw ((c ((ν ∷ []), ((ν' ∷ []), ((ν'' ∷ []), tt))) (args (ν ∷ []) (ν' ∷ []) (ν'' ∷ []) δ δ' δ'')).requires (g (ν ∷ []) (ν' ∷ []) (ν'' ∷ []) δ δ' δ''))) (req (ν ∷ []) (ν' ∷ []) (ν'' ∷ []) δ δ' δ'') $ move t (1 ∷ 0 ∷ []) $ join t $
      use1 𝓛 (raw ((Lends3 𝓛 R S T ps Q ks c).pre (outside (ν ∷ []) (ν' ∷ []) (ν'' ∷ []) δ δ' δ''))) (id⊢ 𝓤 _) $
      calls_at t fm (Lends3 𝓛 R S T ps Q ks c) known (outside (ν ∷ []) (ν' ∷ []) (ν'' ∷ []) δ δ' δ'') (os (ν ∷ []) (ν' ∷ []) (ν'' ∷ []) _ _ _ _) (λ v.
      use1 𝓛 (later (some (λ (r : Q.Denot). ((‵ (flft (ν ∷ []) full_share) ⊛ ‵ (flft (ν' ∷ []) full_share) ⊛ ‵ (flft (ν'' ∷ []) full_share) ⊛ ‵ ftrue) ⊛ ‵ (Q.own_val r (v ∷ []))) ⊛ some (λ (ws : Lasts (Lending3 R S T ps Q ks) ((ν ∷ []), ((ν' ∷ []), ((ν'' ∷ []), tt))) (args (ν ∷ []) (ν' ∷ []) (ν'' ∷ []) δ δ' δ'')).
      ‵ (lasts (Lending3 R S T ps Q ks) ((ν ∷ []), ((ν' ∷ []), ((ν'' ∷ []), tt))) (args (ν ∷ []) (ν' ∷ []) (ν'' ∷ []) δ δ' δ'') ws)
      ⊛ raw ((c ((ν ∷ []), ((ν' ∷ []), ((ν'' ∷ []), tt))) (args (ν ∷ []) (ν' ∷ []) (ν'' ∷ []) δ δ' δ'')).ensures (g (ν ∷ []) (ν' ∷ []) (ν'' ∷ []) δ δ' δ'') r (at_exit (Lending3 R S T ps Q ks) ((ν ∷ []), ((ν' ∷ []), ((ν'' ∷ []), tt))) (args (ν ∷ []) (ν' ∷ []) (ν'' ∷ []) δ δ' δ'') ws)))))) (id⊢ 𝓤 _) $ await t tt $ pick t (λ r. split t $ move t (1 ∷ []) $ pick t (λ ws. split t $ move t (1 ∷ []) $
      use1 𝓛 (raw (fact 𝓤 (Said r ws.0 ws.1.0 ws.1.1.0))) (ens (ν ∷ []) (ν' ∷ []) (ν'' ∷ []) δ δ' δ'' r ws) $ heard t (Said r ws.0 ws.1.0 ws.1.1.0) (λ e.
      -- the lifetimes end, and the two records and the rows come back
      fsplit t $ move t (1 ∷ []) $ fsplit t $ move t (1 ∷ []) $ fsplit t $ move t (1 ∷ []) $ drop t $ move t (3 ∷ []) $ split t $ move t (1 ∷ []) $ peeks t Q (Is Q) (shows 𝓛 Q) r (v ∷ []) (λ is. drop t $
      split t $ lft_end t tt $ move t (1 ∷ []) $ split t $ lft_end t tt $ move t (1 ∷ []) $ split t $ lft_end t tt $
      move t (0 ∷ 8 ∷ 4 ∷ []) $ use3 𝓛 (later (‵ (part_at T full_share ws.1.1.0 b'' o''))) (record_lent_back 𝓛 T b'' o'' h (ν'' ∷ []) δ'' ws.1.1.0) $ await t tt $
      move t (3 ∷ 6 ∷ 5 ∷ []) $ use3 𝓛 (later (‵ (part_at R full_share ws.0 b o))) (record_lent_back 𝓛 R b o d (ν ∷ []) δ ws.0) $ await t tt $
      move t (4 ∷ []) $ fsplit t $ fsplit t $ move t (1 ∷ []) $ feq_l t (λ lw. feq_i t ℕ (length ws.1.0) (length ys) lw $ move t (1 ∷ 0 ∷ []) $ fjoin t $ fjoin t $ move t (4 ∷ 5 ∷ 0 ∷ []) $ use3 𝓛 (later (‵ (row S full_share ws.1.0 b' o'))) (rows_lent_back 𝓛 S b' o' ys room (ν' ∷ []) δ' ws.1.0) $ await t tt $
      move t (3 ∷ []) $ drop t $ move t (1 ∷ []) $ there r v ws.0 ws.1.0 ws.1.1.0 lw e is))))))))))))
    where
      At : Lft → Lft → Lft → List RattleType
      At κ κ' κ'' = types_at ps (κ, (κ', (κ'', tt)))

      args : (κ κ' κ'' : Lft) → GName → GName → GName → Denots (types_at (Lending3 R S T ps Q ks).signature.params (κ, (κ', (κ'', tt))))
      args κ κ' κ'' δ δ' δ'' = lent3 R S T ps b o d b' o' ys b'' o'' h κ κ' κ'' (a κ κ' κ'') δ δ' δ''

      outside : (κ κ' κ'' : Lft) (δ δ' δ'' : GName) → (Lends3 𝓛 R S T ps Q ks c).Ghost
      outside κ κ' κ'' δ δ' δ'' = (
        ((κ, (κ', (κ'', tt))), (full_share, (full_share, (full_share, tt))), tt, lent3 R S T ps b o d b' o' ys b'' o'' h κ κ' κ'' (a κ κ' κ'') δ δ' δ'', (vptr b o ∷ [], (slice_val (b', o') (length ys) ∷ [], (vptr b'' o'' ∷ [], vss κ κ' κ'')))),
        g κ κ' κ'' δ δ' δ'',
      )

      there : (r : Q.Denot) (v : Val) (d' : R.Denot) (zs : List S.Denot) (h' : T.Denot) → length zs ≡ length ys → Said r d' zs h' → Is Q r (v ∷ []) → Seq K 𝓛 (‵ (part_at R full_share d' b o) ∷ ‵ (row S full_share zs b' o') ∷ ‵ (part_at T full_share h' b'' o'') ∷ Γ) (lands C Λ E p v rest q)
      there r v d' zs h' lw e is = subst (λ (u : Val). Seq K 𝓛 (‵ (part_at R full_share d' b o) ∷ ‵ (row S full_share zs b' o') ∷ ‵ (part_at T full_share h' b'' o'') ∷ Γ) (lands C Λ E p u rest q)) (sym (ap only (tl r (v ∷ []) is)))
          (cont r d' zs h' lw e (subst (Is Q r) (tl r (v ∷ []) is) is))
