use Rattle.std.proofs.Common.{arith}
use Rattle.ideal.proofs.Facts.{output_size_lem}
use Rattle.state.proofs.Edited.{escrow_fits_lem}
use Rattle.calls.proofs.Ready.{ready}
use Rattle.turns.proofs.NextTurn.{shown_fits, turn_called, output_called}
use Rattle.turns.proofs.next_line.Goals as goal

pub put_log_row-requires : goal.put_log_row-requires
put_log_row-requires c = rw (ready c.requires.0).log_count c.call_sound-change.ensures.edits_by.log.fits

pub edit_escrow-requires : goal.edit_escrow-requires
edit_escrow-requires c =
    rw (ready c.requires.0).escrow_count (escrow_fits_lem c.call_sound-change.ensures.edits_by.escrow)

pub write_answer-size-requires : goal.write_answer-size-requires
write_answer-size-requires c =
    let fits = shown_fits _ _ _ _ _ c.call_sound-change.ensures.output_after c.requires.0 in
    (fits, omega (arith, fits, output_size_lem _ _ c.requires.0.sizes, c.requires.1))

pub returns-clause-turn_made : goal.returns-clause-turn_made
returns-clause-turn_made c =
    rw (c.put_log_row.ensures, c.edit_escrow.ensures)
    (turn_called _ _ _ _ _ c.call_sound-change.ensures.output_after c.requires.0 c.write_answer-size.ensures c.bytes_done-done.ensures)

pub returns-clause-output_after : goal.returns-clause-output_after
returns-clause-output_after c = output_called _ _ _ _ _ c.call_sound-change.ensures.output_after c.requires.0
