use Rattle.calls.proofs.Carried.{created, exited, attested, protected, handed_over, released}
use Rattle.calls.proofs.Edits.{none_put, create_put, exit_put, attest_put, protect_put, hand_over_put, release_put}
use Rattle.calls.proofs.Whole.{nothing_put}
use Rattle.calls.proofs.Ready.{ready}
use Rattle.calls.proofs.Rest.{rest_alone}
use Rattle.calls.proofs.dispatch.carry_out.Goals as goal

pub create-requires : goal.create-requires
create-requires c = (ready c.requires.sound).map

pub exit_running-requires : goal.exit_running-requires
exit_running-requires c = (ready c.requires.sound).leaving

pub attest-requires : goal.attest-requires
attest-requires c = let s = ready c.requires.sound in (s.runs, s.log_count, s.heaps, s.log)

pub protect-outcome-requires : goal.protect-outcome-requires
protect-outcome-requires c = let s = ready c.requires.sound in (s.runs, s.escrow_count, s.heaps, s.escrow)

pub release-requires : goal.release-requires
release-requires c = let s = ready c.requires.sound in (s.runs, s.escrow_count, s.escrow, s.escrow_used)

pub answer_alone-answer-requires : goal.answer_alone-answer-requires
answer_alone-answer-requires c = record { sound = c.requires.sound; call_within = c.requires.call_within; alone = rest_alone _ c.in_default.not-Create c.in_default.not-Exit c.in_default.not-Attest c.in_default.not-Protect c.in_default.not-HandOver c.in_default.not-Release }

pub returns-in-Create-clause-output_after : goal.returns-in-Create-clause-output_after
returns-in-Create-clause-output_after c = rw c.change_of.ensures (created c.requires.sound _ _ _ c.in-Create.is c.create.ensures)

pub returns-in-Create-clause-edits_by : goal.returns-in-Create-clause-edits_by
returns-in-Create-clause-edits_by c = rw c.change_of.ensures (create_put _ _ c.create.ensures)

pub returns-in-Exit-clause-output_after : goal.returns-in-Exit-clause-output_after
returns-in-Exit-clause-output_after c = rw c.change_of-in-Exit.ensures (exited c.requires.sound _ _ _ c.in-Exit.is c.exit_running.ensures.value c.exit_running.ensures.heaps_after)

pub returns-in-Exit-clause-edits_by : goal.returns-in-Exit-clause-edits_by
returns-in-Exit-clause-edits_by c = rw c.change_of-in-Exit.ensures (exit_put c.exit_running.ensures.value)

pub returns-in-Attest-clause-output_after : goal.returns-in-Attest-clause-output_after
returns-in-Attest-clause-output_after c = rw c.change_of-in-Attest.ensures (attested c.requires.sound _ _ _ c.in-Attest.is c.attest.ensures)

pub returns-in-Attest-clause-edits_by : goal.returns-in-Attest-clause-edits_by
returns-in-Attest-clause-edits_by c = rw c.change_of-in-Attest.ensures (attest_put c.requires.sound _ _ c.attest.ensures)

pub returns-in-Protect-clause-output_after : goal.returns-in-Protect-clause-output_after
returns-in-Protect-clause-output_after c = rw c.change_of-in-Protect.ensures (protected c.requires.sound _ _ _ c.in-Protect.is c.protect-outcome.ensures)

pub returns-in-Protect-clause-edits_by : goal.returns-in-Protect-clause-edits_by
returns-in-Protect-clause-edits_by c = rw c.change_of-in-Protect.ensures (protect_put c.requires.sound _ _ _ _ c.protect-outcome.ensures)

pub returns-in-HandOver-clause-output_after : goal.returns-in-HandOver-clause-output_after
returns-in-HandOver-clause-output_after c = rw c.change_of-in-HandOver.ensures (handed_over c.requires.sound _ _ _ c.in-HandOver.is c.hand_over.ensures)

pub returns-in-HandOver-clause-edits_by : goal.returns-in-HandOver-clause-edits_by
returns-in-HandOver-clause-edits_by c = rw c.change_of-in-HandOver.ensures (hand_over_put _ c.hand_over.ensures)

pub returns-in-Release-clause-output_after : goal.returns-in-Release-clause-output_after
returns-in-Release-clause-output_after c = rw c.change_of-in-Release.ensures (released c.requires.sound _ _ _ c.in-Release.is c.release.ensures)

pub returns-in-Release-clause-edits_by : goal.returns-in-Release-clause-edits_by
returns-in-Release-clause-edits_by c = rw c.change_of-in-Release.ensures (release_put c.requires.sound _ _ c.release.ensures)

pub returns-in_default-clause-output_after : goal.returns-in_default-clause-output_after
returns-in_default-clause-output_after c = nothing_put c.unedited.ensures c.answer_alone-answer.ensures.output_after

pub returns-in_default-clause-edits_by : goal.returns-in_default-clause-edits_by
returns-in_default-clause-edits_by c = none_put c.unedited.ensures
