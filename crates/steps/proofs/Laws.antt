-- The round trip, both ways, and what holds of a step that was read.
-- Assumes nothing.
use mathlib.Core.Path.{◌≡◌, sym, ap, ◌∙◌, subst}
use mathlib.Core.List.{List, ◌∷◌, ◌++◌, append_assoc}
use Prim.Native.Nat.{ℕ, suc, ◌+◌, ◌-◌, ◌≤◌, ◌<◌}
use native.Mathlib.Omega.{arith}
use native.Mathlib.Numerals.{add-one}
use lib.ListN.{length, get_or, take, drop, take-append-drop, length-append, length-drop, get_or-append}
use lib.Seq.{sets-eq, length-sets, length-take-le, get_or_at, drop_at, drop-append-le, drop-drop, drop-cons}
use Rattle.std.specs.Prelude.{Ok}
use Rattle.fields.specs.Num.{Bytes}
use Rattle.fields.proofs.Num.{bytes_drop}
use Rattle.fields.specs.Row.{decode, encode, Fit}
use Rattle.fields.proofs.Row.{fit_decode, decode_encode, encode_decode, decode_more}
use Rattle.steps.specs.declared.Step.{Step}
use Rattle.steps.specs.declared.Cursor.{Cursor}
use Rattle.steps.specs.Step.{kind_at, read_at, length_of, step_of, row, kind_of, values_of, bytes_of, written}
use Rattle.steps.specs.Laws.{WrittenRead, WasRead, ReadWritten}
use Rattle.steps.proofs.Each.{known, kept}
use Rattle.steps.proofs.Reading.{step_at, next, read_found, is_found}
use Rattle.steps.proofs.Writing.{own, size, has_room}

-- a known kind with its whole body, standing in some bytes
stands : (l : List ℕ) (at k : ℕ) (b : List ℕ) → 0 < length_of k → at + 1 + length_of k ≤ length l → get_or l at 0 ≡ k → drop (at + 1) l ≡ b
    → read_at l at ≡ Ok (step_of k (decode (row k) b), record { at = at + 1 + length_of k })
stands l at k b is fits ek eb =
    let is' : 0 < length_of (get_or l at 0) = rw ek is in
    let fits' : at + 1 + length_of (get_or l at 0) ≤ length l = rw ek fits in
    sym (read_found l at (omega arith) is' fits')
    ∙ (λ i. Ok (step_of (ek i) (decode (row (ek i)) (eb i)), record { at = at + 1 + length_of (ek i) }))

-- a step written and read is the same step
pub written_read : WrittenRead
written_read s out at fit space =
    let k = kind_of s in
    let l = written s out at in
    let rest = drop (at + length (bytes_of s)) out in
    let b = encode (row k) (values_of s) ++ rest in
    let z = size s in
    let seam : length (take at out) ≡ at = length-take-le at out (omega arith) in
    let stored = (has_room s out at space).1 in
    let split : l ≡ take at out ++ (k ∷ b) =
    sym stored ∙ sets-eq (bytes_of s) out at space ∙ append_assoc (take at out) (bytes_of s) rest in
    let long : length l ≡ length out = ap length (sym stored) ∙ length-sets out at (bytes_of s) in
    let ek : get_or l at 0 ≡ k = ap (λ (x : List ℕ). get_or x at 0) split ∙ get_or_at (take at out) k b 0 at seam in
    let eb : drop (at + 1) l ≡ b =
    ap (drop (at + 1)) split ∙ sym (drop-drop 1 at (take at out ++ (k ∷ b))) ∙ ap (drop 1) (drop_at (take at out) (k ∷ b) at seam) in
    let place : at + 1 + length_of k ≡ at + length (bytes_of s) = omega arith in
    let fields = decode_encode (row k) (values_of s) rest fit in
    stands l at k b (own s.op).some (omega arith) ek eb
    ∙ (λ i. Ok ((ap (step_of k) fields ∙ (own s.op).back s.warp) i, record { at = place i }))

-- a step read and written is the same bytes, and the rest that holds of a step that was read
module _ (s : List ℕ) (at : ℕ) (h : Bytes s) (more : at < length s) (is : 0 < length_of (kind_at s at)) (fits : at + 1 + length_of (kind_at s at) ≤ length s) where
  k : ℕ
  k = kind_at s at

  body : List ℕ
  body = drop (at + 1) s

  found : WasRead s at (step_at s at) (next s at)
  unfolding k body
  found =
      let st = step_at s at in
      let n = length (bytes_of st) in
      let own-b : Bytes body = bytes_drop (at + 1) s h in
      let e = kept body k (known k is) is in
      let long : length body ≡ length s - (at + 1) = length-drop (at + 1) s in
      let enc : bytes_of st ≡ k ∷ take (length_of k) body =
      (λ i. e.0 i ∷ encode (row (e.0 i)) (e.1 i)) ∙ ap (λ (r : List ℕ). k ∷ r) (encode_decode (row k) body own-b (omega arith)) in
      let z : n ≡ suc (length_of k) = size st ∙ ap (λ (m : ℕ). suc (length_of m)) e.0 in
      let head : drop at s ≡ k ∷ body = drop-cons s at 0 more ∙ ap (λ (m : ℕ). k ∷ drop m s) (sym (add-one at)) in
      let own-bytes : bytes_of st ≡ take n (drop at s) = enc ∙ sym (ap (λ (m : ℕ). take m (drop at s)) z ∙ ap (take (suc (length_of k))) head) in
      let inside : at + n ≤ length s = omega arith in
      record {
        same =
            sym (has_room st s at inside).1
            ∙ sets-eq (bytes_of st) s at inside
            ∙ append_assoc (take at s) (bytes_of st) (drop (at + n) s)
            ∙ ap (λ (l : List ℕ). take at s ++ l)
            (ap (λ (l : List ℕ). l ++ drop (at + n) s) own-bytes
            ∙ ap (λ (l : List ℕ). take n (drop at s) ++ l) (sym (drop-drop n at s))
            ∙ take-append-drop n (drop at s))
            ∙ take-append-drop at s;
        own = own-bytes;
        fits = subst (λ (m : ℕ). Fit (row m) (values_of st)) (sym e.0) (subst (Fit (row k)) (sym e.1) (fit_decode (row k) body own-b));
        next = ap (λ (m : ℕ). at + 1 + length_of m) (sym e.0);
        forward = omega arith;
        inside = fits;
        more =
            λ t.
            let longer = length-append s t in
            let same : decode (row k) (body ++ t) ≡ decode (row k) body = decode_more (row k) body t (omega arith) in
            stands (s ++ t) at k (body ++ t) is (omega arith) (get_or-append s t 0 at more) (drop-append-le (at + 1) s t (omega arith))
            ∙ (λ i. Ok (step_of k (same i), record { at = at + 1 + length_of k }));
      }

pub read_written : ReadWritten
read_written s at st c h e =
    let f = is_found s at st c e in
    subst (λ (x : Cursor). WasRead s at st x) f.cursor
    (subst (λ (x : Step). WasRead s at x (next s at)) f.step (found s at h f.more f.known f.fits))
