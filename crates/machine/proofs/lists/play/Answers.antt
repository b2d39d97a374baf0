-- `machine::lists::play` meets its contract: what is left of the list ends as the whole does. Assumes nothing.
use native.Mathlib.Omega.{arith}
use Rattle.machine.proofs.Runs.{turn, play_start, play_turn, play_end}
use Rattle.machine.proofs.lists.play.Goals as goal

pub loop-word-init : goal.loop-word-init
loop-word-init c = play_start _ _

pub bounds-words-word-index : goal.bounds-words-word-index
bounds-words-word-index c = c.loop-word-test.true

pub loop-word-preserved : goal.loop-word-preserved
loop-word-preserved c = play_turn _ _ _ _ _ c.loop-word.invariant c.loop-word-test.true (turn _ _ _ c.execute.ensures.za_after)

pub shape_of-za : goal.shape_of-za
shape_of-za c = c.loop-word.invariant.alike.za_length

pub returns : goal.returns
returns c = play_end _ _ _ _ c.loop-word.invariant (omega arith)
