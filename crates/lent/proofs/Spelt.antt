-- What a step is lent, each as one machine value: the block, the array of rows, the tally.
-- Assumes `Logic`.
use mathlib.Core.Path.{◌≡◌, subst}
use mathlib.Core.List.{List, [], ◌∷◌}
use seplogic.Ra.Ura.{Ura}
use mir.Val.{Val}
use base.Fml.{Share}
use types.Logic.{Logic}
use denote.RattleType.{RattleType}
use denote.Laws.{Is}
use denote.Array.{Array, array_vals, Array-Tells}
use denote.Struct.Laws as LL
use Rattle.walks.proofs.Lend.{LentFree, copied_free}
use Rattle.object.specs.declared.Object.{Object}
use Rattle.object.specs.contracts.Object as O
use Rattle.object.proofs.Object.TheLaws as O'
use Rattle.block.specs.declared.Block.{Block}
use Rattle.block.specs.contracts.Block as B
use Rattle.block.proofs.Block.TheLaws as B'
use Rattle.tables.specs.declared.Tally.{Tally}
use Rattle.tables.specs.contracts.Tally as T
use Rattle.tables.proofs.Tally.TheLaws as T'

-- the array of rows
abbrev pub R : RattleType
R = Array O.the_row 64

abbrev pub vals_R : List Object → List Val
vals_R = array_vals (LL.vals O.the_type O'.the_laws)

pub tells_R : (zs : List Object) (vs : List Val) → Is R zs vs → vs ≡ vals_R zs
tells_R = Array-Tells O.the_row (LL.vals O.the_type O'.the_laws) (LL.tells O.the_type O'.the_laws) 64

pub spelt_R : (zs : List Object) (u : Val) → Is R zs (u ∷ []) → Is R zs (vals_R zs)
spelt_R zs u is = subst (Is R zs) (tells_R zs (u ∷ []) is) is

pub spelt_B : (d : Block) (u : Val) → Is B.the_row d (u ∷ []) → Is B.the_row d (LL.vals B.the_type B'.the_laws d)
spelt_B d u is = subst (Is B.the_row d) (LL.tells B.the_type B'.the_laws d (u ∷ []) is) is

pub spelt_T : (t : Tally) (u : Val) → Is T.the_row t (u ∷ []) → Is T.the_row t (LL.vals T.the_type T'.the_laws t)
spelt_T t u is = subst (Is T.the_row t) (LL.tells T.the_type T'.the_laws t (u ∷ []) is) is

-- rows of objects are lent as a `&[Object]` with no token
pub objects_free : {M : Type 1} {𝓤 : Ura M} (𝓛 : Logic 𝓤) (t : Share) → LentFree 𝓛 O.the_row t
objects_free 𝓛 = copied_free 𝓛 O.the_row (LL.copied O.the_type O'.the_copy 𝓛)
