-- `steps_writer::put_row` meets its contract. The invariant: what is left of the row, stored, gives what all of it gives.
-- Assumes nothing.
use Prim.Native.Nat.{ℕ, ◌+◌, ◌≤◌, ◌<◌}
use mathlib.Core.Path.{◌≡◌, sym, ◌∙◌}
use mathlib.Core.List.{List, []}
use native.Mathlib.Omega.{arith}
use lib.ListN.{length, drop, get_or, drop_of_length-le}
use lib.Seq.{sets}
use Rattle.fields.specs.Num.{bytes, laid}
use Rattle.fields.proofs.Num.{length_bytes, laid_fits}
use Rattle.fields.specs.Row.{total, encode}
use Rattle.fields.proofs.Row.{total_turn, encode_turn}
use Rattle.steps_writer.proofs.put_row.Goals as goal

-- a turn stores the number at its place, and leaves those behind it
module _ (out ws vs : List ℕ) (at place i n : ℕ) (inside : i < length ws) (fits : place + total (drop i ws) ≡ at + total ws) (room : at + total ws ≤ n) where
  turn_fits : place + get_or ws i 0 + total (drop (i + 1) ws) ≡ at + total ws
  turn_fits = omega (arith, total_turn i ws inside)

  turn_within : place + get_or ws i 0 ≤ n
  turn_within = omega (arith, turn_fits)

  turn_left : (out' all : List ℕ) → length out ≡ n → sets out place (encode (drop i ws) (drop i vs)) ≡ all
      → out' ≡ laid out place (bytes (get_or ws i 0) (get_or vs i 0))
      → sets out' (place + get_or ws i 0) (encode (drop (i + 1) ws) (drop (i + 1) vs)) ≡ all
  turn_left out' all long e put =
      let bs = bytes (get_or ws i 0) (get_or vs i 0) in
      let after : out' ≡ sets out place bs = put ∙ sym (laid_fits out place bs (omega (arith, turn_within, length_bytes (get_or ws i 0) (get_or vs i 0)))) in
      rw after (encode_turn out place i ws vs inside) ∙ e

pub overflow_add-place : goal.overflow_add-place
overflow_add-place c =
    let a = c.args in
    let l = c.loop-i in
    omega (arith, turn_within l.out a.widths a.values a.at l.place l.i (length a.out.now) (omega arith) l.invariant.fits c.requires)

pub loop-i-preserved : goal.loop-i-preserved
loop-i-preserved c =
    let a = c.args in
    let l = c.loop-i in
    record {
      fits = turn_fits l.out a.widths a.values a.at l.place l.i (length a.out.now) (omega arith) l.invariant.fits c.requires;
      left = turn_left l.out a.widths a.values a.at l.place l.i (length a.out.now) (omega arith) l.invariant.fits c.requires _ _ l.auto.out l.invariant.left c.put.ensures;
    }

pub returns : goal.returns
returns c =
    let l = c.loop-i in
    let e : drop l.i c.args.widths ≡ [] = drop_of_length-le c.args.widths {i = l.i} (omega arith) in
    rw e at l.invariant.left
