-- Stores one after the other, and what lies at the start of a list after them.
-- Assumes nothing.
use mathlib.Core.Path.{◌≡◌, refl, sym, ap, ◌∙◌}
use mathlib.Core.List.{List, [], ◌∷◌, ◌++◌, append_assoc}
use Prim.Native.Nat.{ℕ, suc, ◌+◌, ◌≤◌}
use native.Mathlib.Omega.{arith}
use native.Mathlib.Nat.{add-zero, zero-add}
use lib.ListN.{length, take, drop, set, replicate, length-append, length-drop, take-append-drop}
use lib.Seq.{sets, sets-eq, take_at, length-take-le, drop-append-le, drop-drop}
use Rattle.lines.specs.Lines.{most_line}

-- stores one after the other are the stores of the whole
pub sets_append : (l : List ℕ) (i j : ℕ) (xs ys : List ℕ) → i + length xs ≡ j → sets (sets l i xs) j ys ≡ sets l i (xs ++ ys)
sets_append l i j [] ys e = rw (← e, add-zero)
sets_append l i j (x ∷ xs) ys e = sets_append (set l i x) (suc i) j xs ys (omega arith)

-- what was stored at the start lies there
take_sets : (l l' w : List ℕ) (k : ℕ) → k ≡ length w → k ≤ length l → l' ≡ sets l 0 w → take k l' ≡ w
take_sets l l' w k size h e =
    let at-start : l' ≡ w ++ drop (0 + length w) l = e ∙ sets-eq w l 0 (omega arith) in
    rw at-start (take_at w (drop (0 + length w) l) k (sym size))

-- a line that was made in a buffer of zeros lies at its start
pub made : (line : List ℕ) {k : ℕ} {l : List ℕ} → length line ≤ most_line → (k ≡ length line) × (l ≡ sets (replicate most_line 0) 0 line) → take k l ≡ line
made line {k} {l} most e = take_sets (replicate most_line 0) l line k e.0 (omega (arith, e.0)) e.1

-- these bytes were stored in l from i on, up to a place
pub record Stored (l : List ℕ) (i : ℕ) (w l' : List ℕ) (j : ℕ) : Type 0 where
  pub lies : l' ≡ sets l i w
  pub upto : j ≡ i + length w

-- nothing yet
pub begin : (l : List ℕ) (i : ℕ) → Stored l i [] l i
begin l i = record { lies = refl; upto = sym (add-zero i) }

-- and these after them
pub next : {l w l' l'' : List ℕ} {i j k : ℕ} → Stored l i w l' j → (x : List ℕ) → (k ≡ j + length x) × (l'' ≡ sets l' j x) → Stored l i (w ++ x) l'' k
next {l} {w} {l'} {l''} {i} {j} {k} s x e = record {
  lies = e.1 ∙ ap (λ m. sets m j x) s.lies ∙ sets_append l i j w x (sym s.upto);
  upto = omega (arith, e.0, s.upto, length-append w x);
}

-- what was stored from the start on is a line
pub ends : {l w l' line : List ℕ} {k : ℕ} → Stored l 0 w l' k → w ≡ line → (k ≡ length line) × (l' ≡ sets l 0 line)
ends {l} {w} s e = (s.upto ∙ zero-add (length w) ∙ ap length e, s.lies ∙ ap (sets l 0) e)

-- bytes stored at the start of a part of a list are stored where the part starts
pub part_sets : (l w : List ℕ) (a k : ℕ) → a + k ≤ length l → length w ≤ k → take a l ++ (sets (take k (drop a l)) 0 w ++ drop k (drop a l)) ≡ sets l a w
part_sets l w a k h g =
    let part = take k (drop a l) in
    let rest = drop k (drop a l) in
    let size : length part ≡ k = length-take-le k (drop a l) (rw (length-drop a l) (omega arith)) in
    let inside : 0 + length w ≤ length part = omega (arith, size) in
    let behind : drop (0 + length w) part ++ rest ≡ drop (a + length w) l =
    sym (drop-append-le (0 + length w) part rest inside)
    ∙ ap (drop (0 + length w)) (take-append-drop k (drop a l))
    ∙ drop-drop (0 + length w) a l
    ∙ ap (λ (n : ℕ). drop (a + n) l) (zero-add (length w)) in
    ap (λ (m : List ℕ). take a l ++ (m ++ rest)) (sets-eq w part 0 inside)
    ∙ ap (λ (m : List ℕ). take a l ++ m) (append_assoc w (drop (0 + length w) part) rest ∙ ap (λ (m : List ℕ). w ++ m) behind)
    ∙ sym (append_assoc (take a l) w (drop (a + length w) l))
    ∙ sym (sets-eq w l a (omega arith))
