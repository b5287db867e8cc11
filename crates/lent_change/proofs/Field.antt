-- An array in memory is lent as a slice for one call, and the two arrays of a block in memory are taken out of it and put back.
--     array_lent       an array of n lent as a `&mut [T]` (`Rattle.walks.proofs.Lend`'s `Loan`).        array_lent_back      it comes back at the last list, by its other name zs
--     barriers_out     a block in memory gives its barriers in memory, and what is kept of it.        barriers_in      any barriers in that memory, with what is kept, are the block with those
--     rows_out, rows_in        the same of its warps' rows
--     barriers_free, rows_free     each is lent as a `&` to a slice with no token
-- What is kept of the block stands in the context while its array is lent: a loan's own `Keep` is a formula, and what is kept holds a way back, which is none.
-- Assumes `Logic`.
use mathlib.Core.Path.{◌≡◌, refl, sym, subst}
use Prim.Native.Nat.{ℕ, ◌+◌}
use mathlib.Core.List.{List, [], ◌∷◌}
use lib.ListN.{length}
use seplogic.Ra.Ura.{Ura}
use base.Fraction.{full_share}
use mir.Syntax.{named}
use base.Logic.{ent, sep, ex}
use base.Fml.{Lft, GName, Share, fsep, feq, fdead, flent, fbor}
use types.Logic.{Logic, sem}
use types.Kit.{Item, ‵, later, mean, ◌$◌, ◌∵◌, !, qed, by, move, keep, use1, use3, fsplit, fjoin, feq_l, await, updating, now as at_once, done}
use types.SemTy.{Arr}
use types.Share.{arr_parts}
use denote.RattleType.{RattleType}
use denote.Memory.{part_at, mem, shares}
use denote.Array.{Array}
use denote.ArrayMemory.{Single, Array-apart, Array-whole}
use denote.Slice.{slice_val, Room, MutSlice, finally}
use denote.Lend.{Held, slice_back}
use denote.Index.{row, whole_out}
use denote.Exit.{yes}
use denote.Signature.{plain, mut_slice_of}
use denote.Struct.Loose.{Looses, loosens}
use denote.Struct.Laws as LL
use borrow.Struct.Lend.{kept_field, record_apart, record_fill}
use Rattle.walks.proofs.Lend.{Loan, Back, LentFree, copied_free, rows_lent}
use Rattle.block.specs.declared.Warp.{Warp}
use Rattle.block.specs.declared.Barrier.{Barrier}
use Rattle.block.specs.declared.Block.{Block}
use Rattle.block.specs.contracts.Warp as U
use Rattle.block.specs.contracts.Barrier as R
use Rattle.block.specs.contracts.Block as B
use Rattle.block.proofs.Warp.TheLaws as U'
use Rattle.block.proofs.Barrier.TheLaws as R'
use Rattle.block.proofs.Block.TheLaws as B'

module _ {M : Type 1} {𝓤 : Ura M} (𝓛 : Logic 𝓤) (T : RattleType) (one : Single T.mir) (n : ℕ) (room : Room T n) (b o : ℕ) where
  open 𝓛 use {H}

  abbrev pub array_lent : (ys : List T.Denot) → Loan 𝓛 (mut_slice_of (0 ∷ []) tt (plain (λ _. T))) (part_at (Array T n) full_share ys b o)
  array_lent ys = record {
    arg = λ κ δ. record { ref_ptr = (b, o); ghost_name = δ; now = ys };
    val = slice_val (b, o) n;
    Keep = λ κ δ. flent κ (Held T n b o δ);
    lend = λ κ. qed 𝓛 (‵ (part_at (Array T n) full_share ys b o) ∷ []) ∵ use1 𝓛 (‵ ((arr_parts (shares T) n).part full_share ys b o)) (Array-apart 𝓛 T full_share one n ys b o) $ fsplit ! $ feq_l ! (λ len. by ! (subst (λ (m : ℕ).
        ent 𝓤 (sem 𝓛 (row T full_share ys b o)) (H.⇛ (ex 𝓤 (λ (δ : GName). sep 𝓤 (sem 𝓛 ((MutSlice (named 0) κ T).own_val (record { ref_ptr = (b, o); ghost_name = δ; now = ys }) (slice_val (b, o) m ∷ []))) (sem 𝓛 (flent κ (Held T m b o δ)))))))
        len ((rows_lent 𝓛 T b o ys (subst (Room T) (sym len) room)).lend κ)));
  }

  comes_back : (ys : List T.Denot) (κ : Lft) (δ : GName) (zs : List T.Denot) → Back 𝓛 (mut_slice_of (0 ∷ []) tt (plain (λ _. T))) (part_at (Array T n) full_share ys b o) (array_lent ys) yes κ δ zs (part_at (Array T n) full_share zs b o)
  comes_back ys κ δ zs =
      qed 𝓛 (‵ (fdead κ) ∷ ‵ (flent κ (Held T n b o δ)) ∷ ‵ (fsep (fsep (finally T δ zs) (feq ℕ (length zs) (length ys))) (fbor κ (Held T (length ys) b o δ))) ∷ []) ∵ updating ! $ move ! (2 ∷ []) $ fsplit ! $ fsplit ! $ move ! (3 ∷ 4 ∷ 0 ∷ []) $
      use3 𝓛 (later (‵ ((Arr (mem T) n).own_at zs b o))) (slice_back 𝓛 T κ δ zs n b o) $ await ! tt $ fsplit ! $ move ! (1 ∷ []) $ use1 𝓛 (‵ (row T full_share zs b o)) (whole_out 𝓛 T zs b o) $ move ! (1 ∷ 0 ∷ []) $ fjoin ! $
      use1 𝓛 (‵ (part_at (Array T n) full_share zs b o)) (Array-whole 𝓛 T full_share n zs b o) $ at_once ! $ keep ! (0 ∷ []) $ done !

  pub array_lent_back : (ys zs : List T.Denot) (κ : Lft) (δ : GName) (w : List T.Denot) → w ≡ zs → Back 𝓛 (mut_slice_of (0 ∷ []) tt (plain (λ _. T))) (part_at (Array T n) full_share ys b o) (array_lent ys) yes κ δ w (part_at (Array T n) full_share zs b o)
  array_lent_back ys zs κ δ w e = subst (λ (l : List T.Denot). Back 𝓛 (mut_slice_of (0 ∷ []) tt (plain (λ _. T))) (part_at (Array T n) full_share ys b o) (array_lent ys) yes κ δ w (part_at (Array T n) full_share l b o)) e (comes_back ys κ δ w)

-- ---- a block's barriers, 260 bytes on
abbrev pub Barriers : RattleType
Barriers = Array R.the_row 16

-- ---- its warps' rows, 4 bytes on
abbrev pub Rows : RattleType
Rows = Array U.the_row 32

-- both are lent as a `&` to a slice with no token
pub barriers_free : {M : Type 1} {𝓤 : Ura M} (𝓛 : Logic 𝓤) (t : Share) → LentFree 𝓛 R.the_row t
barriers_free 𝓛 = copied_free 𝓛 R.the_row (LL.copied R.the_type R'.the_copy 𝓛)

pub rows_free : {M : Type 1} {𝓤 : Ura M} (𝓛 : Logic 𝓤) (t : Share) → LentFree 𝓛 U.the_row t
rows_free 𝓛 = copied_free 𝓛 U.the_row (LL.copied U.the_type U'.the_copy 𝓛)

-- a block's fields as the laws of a cut take them
abbrev parts_loose : Looses (B.the_type).parts
parts_loose = loosens (B.the_type).parts B'.the_laws

module _ {M : Type 1} {𝓤 : Ura M} (𝓛 : Logic 𝓤) where
  abbrev pub barriers_kept : Block → ℕ → ℕ → Item 𝓤
  barriers_kept d b o = kept_field B.the_type parts_loose 2 260 M 𝓤 𝓛 ((B.struct).as_values d) b o

  abbrev pub rows_kept : Block → ℕ → ℕ → Item 𝓤
  rows_kept d b o = kept_field B.the_type parts_loose 1 4 M 𝓤 𝓛 ((B.struct).as_values d) b o

  module _ (d : Block) (b o : ℕ) where
    pub barriers_out : ent 𝓤 (sem 𝓛 (part_at B.the_row full_share d b o)) (sep 𝓤 (sem 𝓛 (part_at Barriers full_share d.barriers b (o + 260))) (mean 𝓛 (barriers_kept d b o)))
    barriers_out = record_apart B.the_type parts_loose 2 260 (B.struct).as_values (B.struct).Ghost (B.struct).make (λ v. tt) (λ x. refl) (λ v g. refl) (λ ys. ys) 𝓛 refl refl d b o

    pub barriers_in : (ys : List Barrier) → ent 𝓤 (sep 𝓤 (sem 𝓛 (part_at Barriers full_share ys b (o + 260))) (mean 𝓛 (barriers_kept d b o))) (sem 𝓛 (part_at B.the_row full_share (record { warps = d.warps; rows = d.rows; barriers = ys }) b o))
    barriers_in ys = record_fill B.the_type parts_loose 2 260 (B.struct).as_values (B.struct).Ghost (B.struct).make (λ v. tt) (λ x. refl) (λ v g. refl) (λ zs. zs) refl (λ zs. refl) M 𝓤 𝓛 d ys b o

    pub rows_out : ent 𝓤 (sem 𝓛 (part_at B.the_row full_share d b o)) (sep 𝓤 (sem 𝓛 (part_at Rows full_share d.rows b (o + 4))) (mean 𝓛 (rows_kept d b o)))
    rows_out = record_apart B.the_type parts_loose 1 4 (B.struct).as_values (B.struct).Ghost (B.struct).make (λ v. tt) (λ x. refl) (λ v g. refl) (λ ys. ys) 𝓛 refl refl d b o

    pub rows_in : (ys : List Warp) → ent 𝓤 (sep 𝓤 (sem 𝓛 (part_at Rows full_share ys b (o + 4))) (mean 𝓛 (rows_kept d b o))) (sem 𝓛 (part_at B.the_row full_share (record { warps = d.warps; rows = ys; barriers = d.barriers }) b o))
    rows_in ys = record_fill B.the_type parts_loose 1 4 (B.struct).as_values (B.struct).Ghost (B.struct).make (λ v. tt) (λ x. refl) (λ v g. refl) (λ zs. zs) refl (λ zs. refl) M 𝓤 𝓛 d ys b o
