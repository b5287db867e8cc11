-- Laws of little-endian numbers, each over the width.
-- Assumes nothing.
use mathlib.Core.Path.{◌≡◌, refl, sym, ap, subst}
use mathlib.Core.List.{List, [], ◌∷◌, ◌++◌}
use Prim.Native.Nat.{ℕ, zero, suc, ◌+◌, ◌-◌, ◌*◌, ◌/◌, ◌%◌, ◌≤◌, ◌<◌}
use native.Mathlib.Omega.{arith}
use native.Mathlib.Nat.{add-zero, zero-add, suc-add}
use native.Mathlib.Numerals.{add-one}
use borrow.Author.Tests.{le-leb, lt-leb}
use lib.ListN.{length, take, drop, get_or}
use lib.Seq.{get_or-drop, drop-drop, sets, sets-eq}
use Rattle.fields.specs.Num.{room, num, bytes, Bytes, laid}

pub bytes_drop : (k : ℕ) (s : List ℕ) → Bytes s → Bytes (drop k s)
bytes_drop k s h i = subst (λ (b : ℕ). b < 256) (sym (get_or-drop k s i 0)) (h (k + i))

pub num_lt : (w : ℕ) (s : List ℕ) → Bytes s → num w s < room w
num_lt zero s h = omega arith
num_lt (suc w) s h = omega (arith, h 0, num_lt w (drop 1 s) (bytes_drop 1 s h))

pub length_bytes : (w v : ℕ) → length (bytes w v) ≡ w
length_bytes zero v = refl
length_bytes (suc w) v = ap suc (length_bytes w (v / 256))

-- a number written and read is the number
pub num_bytes : (w v : ℕ) (t : List ℕ) → v < room w → num w (bytes w v ++ t) ≡ v
num_bytes zero v t h = omega arith
num_bytes (suc w) v t h = omega (arith, num_bytes w (v / 256) t (omega arith))

-- bytes read and written are the bytes
pub bytes_num : (w : ℕ) (s : List ℕ) → Bytes s → w ≤ length s → bytes w (num w s) ≡ take w s
bytes_num zero s h l = refl
bytes_num (suc w) [] h l = absurd (omega arith)
bytes_num (suc w) (b ∷ s) h l =
    let below : b < 256 = h 0 in
    let first : (b + 256 * num w s) % 256 ≡ b = omega arith in
    let rest : (b + 256 * num w s) / 256 ≡ num w s = omega arith in
    rw (first, rest) (ap {B = List ℕ} (λ r. b ∷ r) (bytes_num w s (λ i. h (suc i)) (omega arith)))

-- more bytes after those that are read change nothing
pub num_more : (w : ℕ) (s t : List ℕ) → w ≤ length s → num w (s ++ t) ≡ num w s
num_more zero s t h = refl
num_more (suc w) [] t h = absurd (omega arith)
num_more (suc w) (b ∷ s) t h = rw (num_more w s t (omega arith))

room_le : (k n : ℕ) → room k ≤ room (n + k)
room_le k zero = subst (λ (m : ℕ). room k ≤ room m) (sym (zero-add k)) (omega arith)
room_le k (suc n) = rw suc-add (omega (arith, room_le k n))

-- up to eight bytes hold no more than eight do
pub room_small : (k : ℕ) → k ≤ 8 → room k ≤ 18446744073709551616
room_small k l =
    let e : (8 - k) + k ≡ 8 = omega arith in
    subst (λ (m : ℕ). room k ≤ room m) e (room_le k (8 - k))

-- one byte more, below those that were read
pub num_step : (k p : ℕ) (s : List ℕ) → num (suc k) (drop p s) ≡ num k (drop (suc p) s) * 256 + get_or s p 0
num_step k p s = rw (get_or-drop p s 0 0, add-zero p, drop-drop 1 p s, add-one p) (omega arith)

-- ---- bytes laid in

module _ (out : List ℕ) (at : ℕ) (bs : List ℕ) where
  pub laid_fits : at + length bs ≤ length out → sets out at bs ≡ laid out at bs
  laid_fits h = rw (le-leb (at + length bs) (length out) h) (sets-eq bs out at h)

  pub laid_short : length out < at + length bs → out ≡ laid out at bs
  laid_short h = rw (lt-leb (at + length bs) (length out) h)
