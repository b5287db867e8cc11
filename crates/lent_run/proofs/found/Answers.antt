use mathlib.Core.Path.{◌≡◌}
use mathlib.Core.Bool.{◌&&◌, true, false}
use native.Mathlib.Omega.{arith}
use Rattle.lent_run.proofs.found.Goals as goal

pub returns-then-not-sound-fine-clause-known : goal.returns-then-not-sound-fine-clause-known
returns-then-not-sound-fine-clause-known c =
    let unsound : (c.sound.result && c.args.fine) ≡ false = grind (arith, c.if-not-sound-fine.true) in
    rw (← c.sound.ensures, unsound)

pub returns-clause-known : goal.returns-clause-known
returns-clause-known c =
    let sound : (c.sound.result && c.args.fine) ≡ true = grind (arith, c.if-not-sound-fine.false) in
    rw (← c.sound.ensures, sound, c.live.ensures)
