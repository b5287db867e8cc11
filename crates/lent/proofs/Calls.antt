-- A call by whoever has block, list and tally in three locals: all three are lent for lifetimes that the walk makes, and come back.
--     calls_tables     the call: what its promise allows lands, and the three locals hold what it left
-- Positions: in the operands every position is one higher than before the call, and the three locals are not among them.
-- Assumes `Logic`.
use mathlib.Core.Path.{◌≡◌, refl, sym, ◌∙◌, ap, subst}
use Prim.Native.Nat.{ℕ}
use mathlib.Core.List.{List, [], ◌∷◌}
use lib.ListN.{length}
use lib.Dec.{lit<}
use seplogic.Ra.Ura.{Ura}
use base.Fraction.{full_share}
use mir.Syntax.{Callee, Place, Opd as Operand, Body, seq, call, ty_array}
use mir.Val.{Val, vptr}
use base.Logic.{ent, emp}
use base.Fml.{Lft, GName, Fml, fat}
use prog.Wp.{Env, Calls, Loops}
use types.Logic.{Logic}
use contract.Monad.{fact}
use sound.WpLaws.{FmC}
use types.Kit.{Item, ‵, some, ◌⊛◌, Post, runs, lands, Seq, ◌$◌, move, drop, use1, use2, split, pick, rewrite, fsplit, fjoin, feq_i}
use types.Run.{Opds}
use types.Share.{arr_parts}
use denote.RattleType.{RattleType, flat, Denots, Valss}
use denote.Laws.{Is, Ises, Are, Tells, Makess, shows}
use denote.Memory.{shares, part_at}
use denote.Array.{Array-Makes}
use denote.ArrayMemory.{Array-apart, Array-whole}
use denote.Slice.{slice_val, Room}
use denote.Signature.{Slot, types_at}
use denote.Steps.{only, owned, peeks}
use denote.Struct.Laws as LL
use denote.Triple.End.{Kepts}
use denote.Triple.Clauses.{Clauses, Lasts, at_exit}
use denote.Triple.Statement.{Triple}
use borrow.Table.OneValue.{part_in, part_out}
use Rattle.object.specs.declared.Object.{Object}
use Rattle.object.specs.contracts.Object as O
use Rattle.object.proofs.Object.TheLaws as O'
use Rattle.block.specs.declared.Block.{Block}
use Rattle.block.specs.contracts.Block as B
use Rattle.block.proofs.Block.TheLaws as B'
use Rattle.tables.specs.declared.Tally.{Tally}
use Rattle.tables.specs.contracts.Tally as T
use Rattle.tables.proofs.Tally.TheLaws as T'
use Rattle.walks.proofs.Lend3.{Lending3, Lends3, lent3, calls_lending3}
use Rattle.lent.proofs.Spelt.{R, vals_R, tells_R, spelt_R, spelt_B, spelt_T}

-- the three locals
abbrev pub block_at : ℕ → Block → Fml
block_at l d = fat full_share B'.mir l 0 (LL.val B.the_type B'.the_laws d)

abbrev pub rows_at : ℕ → List Object → Fml
rows_at l ys = fat full_share (ty_array O'.mir 64) l 0 (only (vals_R ys))

abbrev pub tally_at : ℕ → Tally → Fml
tally_at l h = fat full_share T'.mir l 0 (LL.val T.the_type T'.the_laws h)

-- what is left in them, as machine values
pub record Leaves (d : Block) (ys : List Object) (h : Tally) : Type 0 where
  pub is_block : Is B.the_row d (LL.vals B.the_type B'.the_laws d)
  pub is_rows : Is R ys (vals_R ys)
  pub is_tally : Is T.the_row h (LL.vals T.the_type T'.the_laws h)

module _ {M : Type 1} {𝓤 : Ura M} {𝓛 : Logic 𝓤} {K : Type 0} {Γ : List (Item 𝓤)} {En : Env 𝓤 𝓛.H} {C : Calls 𝓤 𝓛.H} {Λ : Loops 𝓤 𝓛.H} {q : Post 𝓤 𝓛.H} {f : Callee} {xs : List Operand} {p : Place} {rest : Body} where
  open 𝓛 use {H}

  pub calls_tables : K → FmC 𝓤 H 𝓛.laws C → (ps : List (Slot 3)) (Q : RattleType) (ks : Kepts ps) (c : Clauses 𝓤 (Lending3 B.the_row O.the_row T.the_row ps Q ks)) → Triple 𝓤 (C f) (Lends3 𝓛 B.the_row O.the_row T.the_row ps Q ks c)
      → ((κ κ' κ'' : Lft) → Makess 𝓛 (types_at ps (κ, (κ', (κ'', tt)))) (Ises (types_at ps (κ, (κ', (κ'', tt)))))) → (val : Q.Denot → Val) → Tells Q (Is Q) (λ r. val r ∷ [])
      → (l l' l'' : ℕ) (d : Block) (ys : List Object) (h : Tally) → Leaves d ys h
      → (a : (κ κ' κ'' : Lft) → Denots (types_at ps (κ, (κ', (κ'', tt))))) (vss : (κ κ' κ'' : Lft) → Valss (types_at ps (κ, (κ', (κ'', tt))))) → ((κ κ' κ'' : Lft) → Are (types_at ps (κ, (κ', (κ'', tt)))) (Ises (types_at ps (κ, (κ', (κ'', tt))))) (a κ κ' κ'') (vss κ κ' κ''))
      → (g : (κ κ' κ'' : Lft) (δ δ' δ'' : GName) → (c (κ, (κ', (κ'', tt))) (lent3 B.the_row O.the_row T.the_row ps l 0 d l' 0 ys l'' 0 h κ κ' κ'' (a κ κ' κ'') δ δ' δ'')).ghost)
      → ((κ κ' κ'' : Lft) (δ δ' δ'' : GName) → ent 𝓤 (emp 𝓤) ((c (κ, (κ', (κ'', tt))) (lent3 B.the_row O.the_row T.the_row ps l 0 d l' 0 ys l'' 0 h κ κ' κ'' (a κ κ' κ'') δ δ' δ'')).requires (g κ κ' κ'' δ δ' δ'')))
      → (Said : Q.Denot → Block → List Object → Tally → Type 0)
      → ((κ κ' κ'' : Lft) (δ δ' δ'' : GName) (r : Q.Denot) (ws : Lasts (Lending3 B.the_row O.the_row T.the_row ps Q ks) (κ, (κ', (κ'', tt))) (lent3 B.the_row O.the_row T.the_row ps l 0 d l' 0 ys l'' 0 h κ κ' κ'' (a κ κ' κ'') δ δ' δ''))
      → ent 𝓤 ((c (κ, (κ', (κ'', tt))) (lent3 B.the_row O.the_row T.the_row ps l 0 d l' 0 ys l'' 0 h κ κ' κ'' (a κ κ' κ'') δ δ' δ'')).ensures (g κ κ' κ'' δ δ' δ'') r (at_exit (Lending3 B.the_row O.the_row T.the_row ps Q ks) (κ, (κ', (κ'', tt))) (lent3 B.the_row O.the_row T.the_row ps l 0 d l' 0 ys l'' 0 h κ κ' κ'' (a κ κ' κ'') δ δ' δ'') ws))
      (fact 𝓤 (Said r ws.0 ws.1.0 ws.1.1.0)))
      → ((κ κ' κ'' : Lft) (i i₁ i₂ i₃ : Item 𝓤) → Opds K 𝓛 (i ∷ i₁ ∷ i₂ ∷ i₃ ∷ Γ) En xs (vptr l 0 ∷ slice_val (l', 0) 64 ∷ vptr l'' 0 ∷ flat (types_at ps (κ, (κ', (κ'', tt)))) (vss κ κ' κ'')))
      → ((r : Q.Denot) (d' : Block) (zs : List Object) (h' : Tally) → Said r d' zs h' → Is Q r (val r ∷ []) → Leaves d' zs h' → Seq K 𝓛 (‵ (block_at l d') ∷ ‵ (rows_at l' zs) ∷ ‵ (tally_at l'' h') ∷ Γ) (lands C Λ En p (val r) rest q))
      → Seq K 𝓛 (‵ (block_at l d) ∷ ‵ (rows_at l' ys) ∷ ‵ (tally_at l'' h) ∷ Γ) (runs C Λ En (seq (call f xs p) rest) q)
  calls_tables t fm ps Q ks c known mk val tl l l' l'' d ys h are-there a vss are g req Said ens os cont =
      -- the array is its rows, and the tally and the block lie in memory
      move t (1 ∷ 2 ∷ 0 ∷ []) $ owned t R (Is R) (Array-Makes 𝓛 O.the_row (LL.makes O.the_type O'.the_plain 𝓛) 64) ys _ are-there.is_rows $ move t (1 ∷ 0 ∷ []) $ use2 𝓛 (‵ (part_at R full_share ys l' 0)) (part_in 𝓛 R refl full_share ys l' 0 (only (vals_R ys))) $
      use1 𝓛 (‵ ((arr_parts (shares O.the_row) 64).part full_share ys l' 0)) (Array-apart 𝓛 O.the_row full_share tt 64 ys l' 0) $ fsplit t $ drop t $
      move t (1 ∷ []) $ owned t T.the_row (Is T.the_row) (LL.makes T.the_type T'.the_plain 𝓛) h _ are-there.is_tally $ move t (1 ∷ 0 ∷ []) $ use2 𝓛 (‵ (part_at T.the_row full_share h l'' 0)) (part_in 𝓛 T.the_row refl full_share h l'' 0 (LL.val T.the_type T'.the_laws h)) $
      move t (2 ∷ []) $ owned t B.the_row (Is B.the_row) (LL.makes B.the_type B'.the_plain 𝓛) d _ are-there.is_block $ move t (1 ∷ 0 ∷ []) $ use2 𝓛 (‵ (part_at B.the_row full_share d l 0)) (part_in 𝓛 B.the_row refl full_share d l 0 (LL.val B.the_type B'.the_laws d)) $
      move t (0 ∷ 2 ∷ []) $
      calls_lending3 t fm B.the_row O.the_row T.the_row ps Q ks c known mk val tl l 0 d l' 0 ys l'' 0 h room a vss are g req Said ens operands (λ r d' zs h' lw said is-r.
      -- the rows are the array again, and each lies in its local
      move t (1 ∷ []) $ feq_i t ℕ (length zs) 64 (lw ∙ len) $ fjoin t $ use1 𝓛 (‵ (part_at R full_share zs l' 0)) (Array-whole 𝓛 O.the_row full_share 64 zs l' 0) $
      use1 𝓛 (some (λ (u : Val). ‵ (fat full_share (ty_array O'.mir 64) l' 0 u) ⊛ ‵ (R.own_val zs (u ∷ [])))) (part_out 𝓛 R refl full_share zs l' 0) $ pick t (λ u. split t $ move t (1 ∷ []) $ peeks t R (Is R) (shows 𝓛 R) zs (u ∷ []) (λ is-u. drop t $
      rewrite t 0 (λ (w : Val). ‵ (fat full_share (ty_array O'.mir 64) l' 0 w)) (ap only (tells_R zs (u ∷ []) is-u)) refl $ move t (1 ∷ []) $
      use1 𝓛 (some (λ (u' : Val). ‵ (fat full_share B'.mir l 0 u') ⊛ ‵ ((B.the_row).own_val d' (u' ∷ [])))) (part_out 𝓛 B.the_row refl full_share d' l 0) $ pick t (λ u'. split t $ move t (1 ∷ []) $ peeks t B.the_row (Is B.the_row) (shows 𝓛 B.the_row) d' (u' ∷ []) (λ is-u'. drop t $
      rewrite t 0 (λ (w : Val). ‵ (fat full_share B'.mir l 0 w)) (ap only (LL.tells B.the_type B'.the_laws d' (u' ∷ []) is-u')) refl $ move t (2 ∷ []) $
      use1 𝓛 (some (λ (u'' : Val). ‵ (fat full_share T'.mir l'' 0 u'') ⊛ ‵ ((T.the_row).own_val h' (u'' ∷ [])))) (part_out 𝓛 T.the_row refl full_share h' l'' 0) $ pick t (λ u''. split t $ move t (1 ∷ []) $ peeks t T.the_row (Is T.the_row) (shows 𝓛 T.the_row) h' (u'' ∷ []) (λ is-u''. drop t $
      rewrite t 0 (λ (w : Val). ‵ (fat full_share T'.mir l'' 0 w)) (ap only (LL.tells T.the_type T'.the_laws h' (u'' ∷ []) is-u'')) refl $
      move t (1 ∷ 2 ∷ 0 ∷ []) $ cont r d' zs h' said is-r (record { is_block = spelt_B d' u' is-u'; is_rows = spelt_R zs u is-u; is_tally = spelt_T h' u'' is-u'' }))))))))
    where
      len : length ys ≡ 64
      len = are-there.is_rows.1.0.1

      room : Room O.the_row (length ys)
      room = subst (Room O.the_row) (sym len) (lit< tt, lit< tt)

      operands : (κ κ' κ'' : Lft) (i i₁ i₂ i₃ : Item 𝓤) → Opds K 𝓛 (i ∷ i₁ ∷ i₂ ∷ i₃ ∷ Γ) En xs (vptr l 0 ∷ slice_val (l', 0) (length ys) ∷ vptr l'' 0 ∷ flat (types_at ps (κ, (κ', (κ'', tt)))) (vss κ κ' κ''))
      operands κ κ' κ'' i i₁ i₂ i₃ = subst (λ (m : ℕ). Opds K 𝓛 (i ∷ i₁ ∷ i₂ ∷ i₃ ∷ Γ) En xs (vptr l 0 ∷ slice_val (l', 0) m ∷ vptr l'' 0 ∷ flat (types_at ps (κ, (κ', (κ'', tt)))) (vss κ κ' κ''))) (sym len) (os κ κ' κ'' i i₁ i₂ i₃)
