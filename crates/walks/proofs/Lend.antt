-- A call of a function that is lent something for the call alone: what lies in memory is lent for a lifetime that the step makes, the function is called, the lifetime is ended, and what lies there comes back.
--     Loan             what is lent: the reference at each lifetime and name, its machine value, and what the lender keeps
--     LentFree R t     the share t of each value of R in memory is lent as a `&` with no token.         copied_free, whole_free      at every share, a type that is copied has it, and so has one a `&` to which is one borrow of the whole value.        bytes_free      a byte has it
--     rows_shared      rows lent as a `&[T]`, of a T that has it, since each type says itself what a `&` to it holds. A `&` has no name, and is the same at each.        rows_shared_back      they come back as they were
--     rows_lent        rows lent as a `&mut [T]`.        rows_lent_back      they come back at the last list
--     record_lent      a record lent as a `&mut T`.        record_lent_back      it comes back at its last value
--     part_shut        a value's cell with what it owns is the value in memory
--     calls_lending    the call: the function's first parameter is the reference, the others are by value, and its `ensures` says its result
-- Positions: in the operands every position is one higher than before the call.
-- Assumes `Logic`.
use mathlib.Core.Path.{◌≡◌, refl, sym, ◌∙◌, ap, subst}
use Prim.Native.Nat.{ℕ, ◌+◌}
use mathlib.Core.List.{List, [], ◌∷◌}
use lib.ListN.{length}
use seplogic.Ra.Ura.{Ura}
use base.Fraction.{full_share}
use mir.Syntax.{Callee, Place, Opd as Operand, Body, seq, call, named, w8}
use mir.Val.{Val, vptr}
use base.Logic.{ent, sep, emp, ex, id⊢}
use base.Fml.{Lft, GName, Share, Fml, ftrue, fsep, feq, fdead, flft, flent, fbor, fres, fhide}
use prog.Wp.{Env, Calls, Loops}
use types.Logic.{Logic, sem}
use sound.WpLaws.{FmC}
use contract.Monad.{fact}
use types.Kit.{Item, ‵, raw, some, later, ◌⊛◌, Post, runs, lands, Seq, ◌$◌, ◌∵◌, !, qed, by, move, keep, use0, use1, use2, use3, split, join, fsplit, fjoin, fpack, feq_i, frame, drop, pick, await, updating, now as at_once, show, done}
use types.Run.{Opds}
use types.Tokens.{lft_new, lft_end, lent_back}
use types.SemTy.{cells, Arr, Body as Holds}
use types.Share.{arr_parts}
use denote.RattleType.{RattleType, owns, Denots, Valss}
use denote.Laws.{Is, Ises, Are, Tells, Makess, shows, owns_make}
use denote.Memory.{cell_at, part_of, part_at, mem, shares, shared_of}
use denote.Copied.{Copied, uint_Copied}
use denote.Shadow.{pure_i}
use denote.Slice.{slice_val, ShrSlice, Room, finally, shr_slice_at, elements_shared}
use denote.Lend.{Held, lends_ref, ref_back, lends_slice, slice_back}
use denote.Lends.{Lent, Lent-nothing, Lent-one, Lent-both, Lent-map}
use denote.Shares.{Whole}
use denote.Builtin.{u8}
use denote.Index.{row, whole_out, whole_in}
use denote.Exit.{Kept, yes, Last, left}
use denote.Steps.{only, peeks, heard, nothing}
use denote.Signature.{Slot, plain, types_at, mut_ref_to, mut_slice_of, shr_slice_of}
use denote.Triple.End.{Kepts}
use denote.Triple.Clauses.{Ended, Clauses, Lasts, at_exit, closing, lasts}
use denote.Triple.Spec.{triple_of}
use denote.Triple.Statement.{Contract, Triple}
use denote.Triple.Call.{calls_at}

-- what is lent of P, as the reference s
pub record Loan {M : Type 1} {𝓤 : Ura M} (𝓛 : Logic 𝓤) (s : Slot 1) (P : Fml) : Type 2 where
  pub arg : (κ : Lft) → GName → (s.row (κ, tt)).Denot
  pub val : Val
  pub Keep : Lft → GName → Fml
  pub lend : (κ : Lft) → ent 𝓤 (sem 𝓛 P) (𝓛.H.⇛ (ex 𝓤 (λ (δ : GName). sep 𝓤 (sem 𝓛 ((s.row (κ, tt)).own_val (arg κ δ) (val ∷ []))) (sem 𝓛 (Keep κ δ)))))

-- what comes back of it, at the last value w: P'
abbrev pub Back : {M : Type 1} {𝓤 : Ura M} (𝓛 : Logic 𝓤) (s : Slot 1) (P : Fml) (L : Loan 𝓛 s P) (k : Kept) (κ : Lft) (δ : GName) → Last ((s.row (κ, tt)).exit k) (L.arg κ δ) → Fml → Type 1
Back {𝓤 = 𝓤} 𝓛 s P L k κ δ w P' = ent 𝓤 (sep 𝓤 (𝓛.A.dead κ) (sep 𝓤 (sem 𝓛 (L.Keep κ δ)) (sem 𝓛 (left ((s.row (κ, tt)).exit k) (L.arg κ δ) w)))) (𝓛.H.⇛ (sem 𝓛 P'))

-- each value of R is lent out of the share t of its memory, with no token
abbrev pub LentFree : {M : Type 1} {𝓤 : Ura M} (𝓛 : Logic 𝓤) (R : RattleType) → Share → Type 1
LentFree 𝓛 R t = (x : R.Denot) (b o : ℕ) → Lent 𝓛 (part_at R t x b o) (shared_of R x b o)

-- so it is of a type that is copied, at every share
pub copied_free : {M : Type 1} {𝓤 : Ura M} (𝓛 : Logic 𝓤) (R : RattleType) → Copied 𝓛 R → (t : Share) → LentFree 𝓛 R t
copied_free 𝓛 R copied t = copied.lends t

-- and of a type a `&` to which is one borrow of the whole value
pub whole_free : {M : Type 1} {𝓤 : Ura M} (𝓛 : Logic 𝓤) (R : RattleType) → Whole R → (t : Share) → LentFree 𝓛 R t
whole_free 𝓛 R whole t x b o = subst (λ (s : Lft → Fml). Lent 𝓛 (part_at R t x b o) s) (sym (whole x b o)) (Lent-one 𝓛 (λ q. part_at R q x b o) t)

-- so of a byte
pub bytes_free : {M : Type 1} {𝓤 : Ura M} (𝓛 : Logic 𝓤) (t : Share) → LentFree 𝓛 u8 t
bytes_free 𝓛 = copied_free 𝓛 u8 (uint_Copied 𝓛 w8)

-- where each value is, so is a row of them
row_free : {M : Type 1} {𝓤 : Ura M} (𝓛 : Logic 𝓤) (R : RattleType) (t : Share) → LentFree 𝓛 R t → (ys : List R.Denot) (b o : ℕ) → Lent 𝓛 (row R t ys b o) (elements_shared R ys b o)
row_free 𝓛 R t free [] b o = Lent-nothing 𝓛
row_free 𝓛 R t free (y ∷ ys) b o =
    Lent-both 𝓛 (part_at R t y b o) (row R t ys b (o + (mem R).size)) (shared_of R y b o) (elements_shared R ys b (o + (mem R).size)) (free y b o) (row_free 𝓛 R t free ys b (o + (mem R).size))

module _ {M : Type 1} {𝓤 : Ura M} (𝓛 : Logic 𝓤) (R : RattleType) (b o : ℕ) where
  open 𝓛 use {H, A}

  abbrev all : Share → List R.Denot → Fml
  all t ys = (arr_parts (shares R) (length ys)).part t ys b o

  -- the rows as a `&[T]`
  abbrev lent_as : (ys : List R.Denot) → Lft → Fml
  lent_as ys κ = (ShrSlice (named 0) κ R).own_val (record { ref_ptr = (b, o); now = ys }) (slice_val (b, o) (length ys) ∷ [])

  pub lends_row : (t : Share) → LentFree 𝓛 R t → (ys : List R.Denot) → Room R (length ys) → (κ : Lft) → ent 𝓤 (sem 𝓛 (row R t ys b o)) (H.⇛ (ex 𝓤 (λ (_ : GName). sep 𝓤 (sem 𝓛 (lent_as ys κ)) (A.lent κ (all t ys)))))
  lends_row t free ys room κ =
      qed 𝓛 (‵ (row R t ys b o) ∷ []) ∵ updating ! $ feq_i ! ℕ (length ys) (length ys) refl $ fjoin ! $
      use1 𝓛 (later (‵ (fhide (elements_shared R ys b o κ)) ⊛ ‵ (flent κ (all t ys)))) (Lent-map 𝓛 (all t ys) (row R t ys b o) (elements_shared R ys b o)
      (qed 𝓛 (‵ (all t ys) ∷ []) {P = sem 𝓛 (row R t ys b o)} (fsplit ! $ drop ! $ done !))
      (qed 𝓛 (‵ (row R t ys b o) ∷ []) {P = sem 𝓛 (all t ys)} (feq_i ! ℕ (length ys) (length ys) refl $ done !)) (row_free 𝓛 R t free ys b o) κ) $
      await ! tt $ split ! $ at_once ! $ show ! (λ (_ : GName). sep 𝓤 (sem 𝓛 (lent_as ys κ)) (A.lent κ (all t ys))) 0 $
      pure_i ! (shr_slice_at R (record { ref_ptr = (b, o); now = ys }) (slice_val (b, o) (length ys) ∷ [])) (tt, (tt, tt)) (refl, room) $ fjoin ! $ done !

  abbrev pub rows_shared : (t : Share) → LentFree 𝓛 R t → (ys : List R.Denot) → Room R (length ys) → Loan 𝓛 (shr_slice_of (0 ∷ []) tt (plain (λ _. R))) (row R t ys b o)
  rows_shared t free ys room = record {
    arg = λ κ δ. record { ref_ptr = (b, o); now = ys };
    val = slice_val (b, o) (length ys);
    Keep = λ κ δ. flent κ (all t ys);
    lend = lends_row t free ys room;
  }

  pub rows_shared_back : (t : Share) (free : LentFree 𝓛 R t) (ys : List R.Denot) (room : Room R (length ys)) (k : Kept) (κ : Lft) (δ : GName) (w : Unit {0}) → Back 𝓛 (shr_slice_of (0 ∷ []) tt (plain (λ _. R))) (row R t ys b o) (rows_shared t free ys room) k κ δ w (row R t ys b o)
  rows_shared_back t free ys room k κ δ w = qed 𝓛 (‵ (fdead κ) ∷ ‵ (flent κ (all t ys)) ∷ ‵ ftrue ∷ []) ∵ updating ! $ lent_back ! tt $ fsplit ! $ drop ! $ at_once ! $ keep ! (0 ∷ []) $ done !

  abbrev pub rows_lent : (ys : List R.Denot) → Room R (length ys) → Loan 𝓛 (mut_slice_of (0 ∷ []) tt (plain (λ _. R))) (row R full_share ys b o)
  rows_lent ys room = record {
    arg = λ κ δ. record { ref_ptr = (b, o); ghost_name = δ; now = ys };
    val = slice_val (b, o) (length ys);
    Keep = λ κ δ. flent κ (Held R (length ys) b o δ);
    lend = λ κ. qed 𝓛 (‵ (row R full_share ys b o) ∷ []) ∵ use1 𝓛 (‵ (cells (mem R) ys b o)) (whole_in 𝓛 R ys b o) $ by ! (lends_slice 𝓛 R (named 0) κ ys b o room);
  }

  pub rows_lent_back : (ys : List R.Denot) (room : Room R (length ys)) (κ : Lft) (δ : GName) (zs : List R.Denot) → Back 𝓛 (mut_slice_of (0 ∷ []) tt (plain (λ _. R))) (row R full_share ys b o) (rows_lent ys room) yes κ δ zs (row R full_share zs b o)
  rows_lent_back ys room κ δ zs =
      qed 𝓛 (‵ (fdead κ) ∷ ‵ (flent κ (Held R (length ys) b o δ)) ∷ ‵ (fsep (fsep (finally R δ zs) (feq ℕ (length zs) (length ys))) (fbor κ (Held R (length ys) b o δ))) ∷ []) ∵ updating ! $ move ! (2 ∷ []) $ fsplit ! $ fsplit ! $ move ! (3 ∷ 4 ∷ 0 ∷ []) $
      use3 𝓛 (later (‵ ((Arr (mem R) (length ys)).own_at zs b o))) (slice_back 𝓛 R κ δ zs (length ys) b o) $ await ! tt $ fsplit ! $ drop ! $ use1 𝓛 (‵ (row R full_share zs b o)) (whole_out 𝓛 R zs b o) $ at_once ! $ keep ! (0 ∷ []) $ done !

  abbrev pub record_lent : (h : R.Denot) → Loan 𝓛 (mut_ref_to (0 ∷ []) tt (plain (λ _. R))) (part_at R full_share h b o)
  record_lent h = record {
    arg = λ κ δ. record { ref_ptr = (b, o); ghost_name = δ; now = h };
    val = vptr b o;
    Keep = λ κ δ. flent κ (Holds (mem R) b o δ);
    lend = λ κ. lends_ref 𝓛 R (named 0) κ h b o;
  }

  pub record_lent_back : (h : R.Denot) (κ : Lft) (δ : GName) (h' : R.Denot) → Back 𝓛 (mut_ref_to (0 ∷ []) tt (plain (λ _. R))) (part_at R full_share h b o) (record_lent h) yes κ δ h' (part_at R full_share h' b o)
  record_lent_back h κ δ h' =
      qed 𝓛 (‵ (fdead κ) ∷ ‵ (flent κ (Holds (mem R) b o δ)) ∷ ‵ (fsep (fres δ (R.coded.code h')) (fbor κ (Holds (mem R) b o δ))) ∷ []) ∵ move ! (2 ∷ []) $ fsplit ! $ keep ! (2 ∷ 3 ∷ 0 ∷ []) $ by ! (ref_back 𝓛 R κ δ h' b o)

-- the cell of a value and what the value owns are the value in memory
pub part_shut : {M : Type 1} {𝓤 : Ura M} (𝓛 : Logic 𝓤) (R : RattleType) (t : Share) (h : R.Denot) (vs : List Val) (b o : ℕ)
    → ent 𝓤 (sep 𝓤 (sem 𝓛 (cell_at t R.mir vs b o)) (sem 𝓛 (R.own_val h vs))) (sem 𝓛 (part_at R t h b o))
unfolding part_of
part_shut 𝓛 R t h vs b o =
    qed 𝓛 (‵ (cell_at t R.mir vs b o) ∷ ‵ (R.own_val h vs) ∷ []) ∵ fjoin ! $ fpack ! (List Val) (λ us. fsep (cell_at t R.mir us b o) (R.own_val h us)) vs $ done !

-- a signature whose first parameter is the reference s, at the one lifetime, and whose others are by value
abbrev pub Lending : (s : Slot 1) (ps : List (Slot 1)) → RattleType → Kept → Kepts ps → Ended
Lending s ps Q k ks = record { signature = record { lifetimes = 1; outlives = []; params = s ∷ ps; result = plain (λ _. Q) }; kept = (k, ks) }

abbrev pub Lends : {M : Type 1} {𝓤 : Ura M} (𝓛 : Logic 𝓤) (s : Slot 1) (ps : List (Slot 1)) (Q : RattleType) (k : Kept) (ks : Kepts ps) → Clauses 𝓤 (Lending s ps Q k ks) → Contract 𝓤
Lends 𝓛 s ps Q k ks c = triple_of 𝓛 (Lending s ps Q k ks).signature (closing 𝓛 (Lending s ps Q k ks) c)

module _ {M : Type 1} {𝓤 : Ura M} {𝓛 : Logic 𝓤} {K : Type 0} {Γ : List (Item 𝓤)} {E : Env 𝓤 𝓛.H} {C : Calls 𝓤 𝓛.H} {Λ : Loops 𝓤 𝓛.H} {q : Post 𝓤 𝓛.H} {f : Callee} {xs : List Operand} {d : Place} {rest : Body} where
  open 𝓛 use {H, A}

  pub calls_lending : K → FmC 𝓤 H 𝓛.laws C → (s : Slot 1) (ps : List (Slot 1)) (Q : RattleType) (k : Kept) (ks : Kepts ps) (c : Clauses 𝓤 (Lending s ps Q k ks)) → Triple 𝓤 (C f) (Lends 𝓛 s ps Q k ks c)
      → ((κ : Lft) → Makess 𝓛 (types_at ps (κ, tt)) (Ises (types_at ps (κ, tt)))) → (val : Q.Denot → Val) → Tells Q (Is Q) (λ r. val r ∷ [])
      → {P : Fml} (P' : Fml) (L : Loan 𝓛 s P) (a : (κ : Lft) → Denots (types_at ps (κ, tt))) (vss : (κ : Lft) → Valss (types_at ps (κ, tt))) → ((κ : Lft) → Are (types_at ps (κ, tt)) (Ises (types_at ps (κ, tt))) (a κ) (vss κ))
      → (g : (κ : Lft) (δ : GName) → (c (κ, tt) (L.arg κ δ, a κ)).ghost) → ((κ : Lft) (δ : GName) → ent 𝓤 (emp 𝓤) ((c (κ, tt) (L.arg κ δ, a κ)).requires (g κ δ)))
      → (z : Q.Denot) (Said : (κ : Lft) (δ : GName) → Q.Denot → Last ((s.row (κ, tt)).exit k) (L.arg κ δ) → Type 0)
      → ((κ : Lft) (δ : GName) (r : Q.Denot) (ws : Lasts (Lending s ps Q k ks) (κ, tt) (L.arg κ δ, a κ)) → ent 𝓤 ((c (κ, tt) (L.arg κ δ, a κ)).ensures (g κ δ) r (at_exit (Lending s ps Q k ks) (κ, tt) (L.arg κ δ, a κ) ws)) (fact 𝓤 (Said κ δ r ws.0)))
      → ((κ : Lft) (δ : GName) (r : Q.Denot) (w : Last ((s.row (κ, tt)).exit k) (L.arg κ δ)) → Said κ δ r w → (r ≡ z) × Back 𝓛 s P L k κ δ w P')
      → ((κ : Lft) (δ : GName) → Opds K 𝓛 (raw ((Lends 𝓛 s ps Q k ks c).pre (((κ, tt), (full_share, tt), tt, (L.arg κ δ, a κ), (L.val ∷ [], vss κ)), g κ δ)) ∷ ‵ (L.Keep κ δ) ∷ Γ) E xs
      ((Lends 𝓛 s ps Q k ks c).args (((κ, tt), (full_share, tt), tt, (L.arg κ δ, a κ), (L.val ∷ [], vss κ)), g κ δ)))
      → (Is Q z (val z ∷ []) → Seq K 𝓛 (‵ P' ∷ Γ) (lands C Λ E d (val z) rest q)) → Seq K 𝓛 (‵ P ∷ Γ) (runs C Λ E (seq (call f xs d) rest) q)
  calls_lending t fm s ps Q k ks c known mk val tl {P} P' L a vss are g req z Said ens means os cont =
      lft_new t tt (λ ν. move t (1 ∷ []) $
      use1 𝓛 (later (some (λ (δ : GName). ‵ ((s.row (ν ∷ [], tt)).own_val (L.arg (ν ∷ []) δ) (L.val ∷ [])) ⊛ ‵ (L.Keep (ν ∷ []) δ)))) (L.lend (ν ∷ [])) $ await t tt $ pick t (λ δ. split t $
      -- [the reference; what the lender keeps; the token]
      move t (2 ∷ 0 ∷ []) $ use2 𝓛 (raw ((Lends 𝓛 s ps Q k ks c).pre (((ν ∷ [], tt), (full_share, tt), tt, (L.arg (ν ∷ []) δ, a (ν ∷ [])), (L.val ∷ [], vss (ν ∷ []))), g (ν ∷ []) δ))) (goes (ν ∷ []) δ) $
      calls_at t fm (Lends 𝓛 s ps Q k ks c) known (((ν ∷ [], tt), (full_share, tt), tt, (L.arg (ν ∷ []) δ, a (ν ∷ [])), (L.val ∷ [], vss (ν ∷ []))), g (ν ∷ []) δ) (os (ν ∷ []) δ) (λ v.
      use1 𝓛 (later (some (λ (r : Q.Denot). ((‵ (flft (ν ∷ []) full_share) ⊛ ‵ ftrue) ⊛ ‵ (Q.own_val r (v ∷ [])))
      ⊛ some (λ (ws : Lasts (Lending s ps Q k ks) (ν ∷ [], tt) (L.arg (ν ∷ []) δ, a (ν ∷ []))). ‵ (lasts (Lending s ps Q k ks) (ν ∷ [], tt) (L.arg (ν ∷ []) δ, a (ν ∷ [])) ws) ⊛ raw ((c (ν ∷ [], tt) (L.arg (ν ∷ []) δ, a (ν ∷ []))).ensures (g (ν ∷ []) δ) r (at_exit (Lending s ps Q k ks) (ν ∷ [], tt) (L.arg (ν ∷ []) δ, a (ν ∷ [])) ws)))))) (id⊢ 𝓤 _) $ await t tt $ pick t (λ r.
      split t $ move t (1 ∷ []) $ pick t (λ ws. split t $ move t (1 ∷ []) $ use1 𝓛 (raw (fact 𝓤 (Said (ν ∷ []) δ r ws.0))) (ens (ν ∷ []) δ r ws) $ heard t (Said (ν ∷ []) δ r ws.0) (λ e.
      -- [the last values; the token and the result; what the lender keeps]
      fsplit t $ move t (1 ∷ []) $ drop t $ move t (1 ∷ []) $ split t $ split t $ move t (2 ∷ []) $ peeks t Q (Is Q) (shows 𝓛 Q) r (v ∷ []) (λ is. drop t $
      lft_end t tt $ move t (0 ∷ 3 ∷ 2 ∷ []) $ use3 𝓛 (later (‵ P')) (means (ν ∷ []) δ r ws.0 e).1 $ await t tt $ move t (1 ∷ []) $ drop t $
      there r v (means (ν ∷ []) δ r ws.0 e).0 is)))))))
    where
      goes : (κ : Lft) (δ : GName) → ent 𝓤 (sep 𝓤 (A.lft κ full_share) (sem 𝓛 ((s.row (κ, tt)).own_val (L.arg κ δ) (L.val ∷ [])))) ((Lends 𝓛 s ps Q k ks c).pre (((κ, tt), (full_share, tt), tt, (L.arg κ δ, a κ), (L.val ∷ [], vss κ)), g κ δ))
      goes κ δ = qed 𝓛 (‵ (flft κ full_share) ∷ ‵ ((s.row (κ, tt)).own_val (L.arg κ δ) (L.val ∷ [])) ∷ []) ∵ use0 𝓛 (raw ((c (κ, tt) (L.arg κ δ, a κ)).requires (g κ δ))) (req κ δ) $
          use0 𝓛 (‵ (owns (types_at ps (κ, tt)) (a κ) (vss κ))) (owns_make 𝓛 (types_at ps (κ, tt)) (Ises (types_at ps (κ, tt))) (mk κ) (a κ) (vss κ) (are κ)) $
          -- [the others; the requires; the token; the reference]
          move ! (3 ∷ 0 ∷ []) $ fjoin ! $ nothing ! $ move ! (3 ∷ 0 ∷ []) $ join ! $ join ! $ frame ! $ done !

      there : (r : Q.Denot) (v : Val) → r ≡ z → Is Q r (v ∷ []) → Seq K 𝓛 (‵ P' ∷ Γ) (lands C Λ E d v rest q)
      there r v e is = subst (λ (u : Val). Seq K 𝓛 (‵ P' ∷ Γ) (lands C Λ E d u rest q)) (sym (ap only (tl r (v ∷ []) is) ∙ ap val e))
          (cont (subst (λ (y : Q.Denot). Is Q y (val y ∷ [])) e (subst (Is Q r) (tl r (v ∷ []) is) is)))
