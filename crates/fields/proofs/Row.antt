-- Laws of rows of numbers: one for each way of the round trip, and one for each turn of a loop over a row.
-- Assumes nothing.
use mathlib.Core.Path.{◌≡◌, refl, ◌∙◌}
use mathlib.Core.List.{List, [], ◌∷◌, ◌++◌, append_assoc}
use Prim.Native.Nat.{ℕ, suc, ◌+◌, ◌≤◌, ◌<◌}
use native.Mathlib.Omega.{arith}
use native.Mathlib.Nat.{add-zero, suc-add, add-suc}
use native.Mathlib.Numerals.{add-one}
use lib.ListN.{length, take, drop, get_or, set, length-append, length-drop}
use lib.Seq.{sets, drop-append-le, drop_at, take-add, drop-cons, get_or-drop, drop-drop}
use Rattle.fields.specs.Num.{bytes, Bytes}
use Rattle.fields.specs.Row.{total, decode, encode, Fit}
use Rattle.fields.proofs.Num.{bytes_drop, num_lt, length_bytes, num_bytes, bytes_num, num_more}

pub length_encode : (ws vs : List ℕ) → length (encode ws vs) ≡ total ws
length_encode [] vs = refl
length_encode (w ∷ ws) vs =
    length-append (bytes w (get_or vs 0 0)) (encode ws (drop 1 vs))
    ∙ rw (length_bytes w (get_or vs 0 0), length_encode ws (drop 1 vs))

pub fit_decode : (ws s : List ℕ) → Bytes s → Fit ws (decode ws s)
fit_decode [] s h = tt
fit_decode (w ∷ ws) s h = (num_lt w s h, fit_decode ws (drop w s) (bytes_drop w s h))

-- a row written and read is the row
pub decode_encode : (ws vs t : List ℕ) → Fit ws vs → decode ws (encode ws vs ++ t) ≡ vs
decode_encode [] [] t f = refl
decode_encode [] (v ∷ vs) t f = absurd f
decode_encode (w ∷ ws) [] t f = absurd f
decode_encode (w ∷ ws) (v ∷ vs) t f =
    rw (
      append_assoc (bytes w v) (encode ws vs) t,
      num_bytes w v (encode ws vs ++ t) f.0,
      drop_at (bytes w v) (encode ws vs ++ t) w (length_bytes w v),
      decode_encode ws vs t f.1,
    )

-- bytes read and written are the bytes
pub encode_decode : (ws s : List ℕ) → Bytes s → total ws ≤ length s → encode ws (decode ws s) ≡ take (total ws) s
encode_decode [] s h l = refl
encode_decode (w ∷ ws) s h l =
    rw (
      bytes_num w s h (omega arith),
      encode_decode ws (drop w s) (bytes_drop w s h) (simp length-drop (omega arith)),
      take-add w (total ws) s,
    )

-- more bytes after those that are read change nothing
pub decode_more : (ws s t : List ℕ) → total ws ≤ length s → decode ws (s ++ t) ≡ decode ws s
decode_more [] s t h = refl
decode_more (w ∷ ws) s t h =
    rw (num_more w s t (omega arith), drop-append-le w s t (omega arith), decode_more ws (drop w s) t (simp length-drop (omega arith)))

-- ---- a loop that writes a row: what is left at one place is the number there, and what is left after it

pub total_turn : (i : ℕ) (ws : List ℕ) → i < length ws → total (drop i ws) ≡ get_or ws i 0 + total (drop (i + 1) ws)
total_turn i ws h = rw (add-one, drop-cons ws i 0 h)

-- stores one after the other are the stores of the whole
sets_append : (l : List ℕ) (i : ℕ) (xs ys : List ℕ) → sets (sets l i xs) (i + length xs) ys ≡ sets l i (xs ++ ys)
sets_append l i [] ys = rw add-zero
sets_append l i (x ∷ xs) ys = rw (add-suc, ← suc-add) (sets_append (set l i x) (suc i) xs ys)

pub encode_turn : (out : List ℕ) (p i : ℕ) (ws vs : List ℕ) → i < length ws
    → sets (sets out p (bytes (get_or ws i 0) (get_or vs i 0))) (p + get_or ws i 0) (encode (drop (i + 1) ws) (drop (i + 1) vs))
    ≡ sets out p (encode (drop i ws) (drop i vs))
encode_turn out p i ws vs h =
    let w = get_or ws i 0 in
    let l = sets_append out p (bytes w (get_or vs i 0)) (encode (drop (i + 1) ws) (drop (i + 1) vs)) in
    let m = rw (length_bytes w (get_or vs i 0)) at l in
    m ∙ rw (drop-cons ws i 0 h, get_or-drop i vs 0 0, add-zero i, drop-drop 1 i vs, add-one i)
